-- The parameters, the result and the variables of a routine can be laid out one after the other: they have different names, few cells, and no array without elements.
use Rattle.std.proofs.Common.{◌≡◌, ◌≤◌, false, List, [], ◌∷◌, ◌++◌, Option, Some, None, refl, sym, subst, arith, append_assoc}
use Rattle.cp_resolved.proofs.Words.{Compounds, most, Name, Ty, Scope, local_variable, Variable, RoutineMeaning, parameter_variables, Numbering, look, IsWord}
use Rattle.cp_resolved.proofs.Words.{AreWords, AreSized, Each, IsFreeVariable, result_variables, parameters_by}
use Rattle.cp_meaning.specs.Types as named
use Rattle.cp_resolved.specs.Framed.{AreDifferent, AreDeclared, routine_variables, IsOrdinal, IsOrdinalResult}
use Rattle.cp_resolved.proofs.frames.FrameCells.{none_left, none_right, none_both}
use Rattle.cp_resolved.proofs.frames.FrameKnown.{word_found, Visible}
use Rattle.cp_resolved.proofs.frames.FrameStands.{is_result}
use Rattle.cp_resolved.proofs.frames.FrameSteps.{HasCells, Fits, fits_left, fits_right}
use Rattle.cp_resolved.proofs.frames.FramesBegun.{no_parameter, ResultHasCells, RoutineFits}
use Rattle.cp_resolved.proofs.systems.Sizes.{Counted}
use Rattle.cp_resolved.proofs.systems.SystemKnown.{later_new}
use Rattle.cp_resolved.proofs.names.TreeKnown.{local_sized}
use Rattle.cp_resolved.proofs.agreeing.AgreeingWritten.{each_right}

-- ---- types

one_cell : 1 ≤ most
one_cell = omega arith

abbrev HaveCells : List Variable → Type 0
HaveCells vs = Each (λ (v : Variable). HasCells v.ty) vs

have_cells : (s : Scope) (vs : List Variable) → AreSized s → Visible s vs → Each IsFreeVariable vs → HaveCells vs
have_cells s [] z h f = tt
have_cells s (v ∷ vs) z h f =
    let i = local_sized v.name v.ty s z h.0 in
    (record { free = f.0; few = i.0; full = i.1 }, have_cells s vs z h.1 f.1)

ordinal_cells : (t : Ty) → IsOrdinal t → HasCells t
ordinal_cells (named.ordinal r) h = record { free = h; few = one_cell; full = tt }
ordinal_cells _ h = absurd h

-- ---- names

abbrev HaveWords : List Variable → Type 0
HaveWords vs = Each (λ (v : Variable). IsWord v.name) vs

have_words : (s : Scope) (vs : List Variable) → AreWords s → Visible s vs → HaveWords vs
have_words s [] w h = tt
have_words s (v ∷ vs) w h = (word_found v.name (local_variable v.ty) s w h.0, have_words s vs w h.1)

-- a word is no name of a result
pub no_result : (x : Name) (o : Option Ty) → IsWord x → look x (result_variables o) ≡ None
no_result x o w = go (look x (result_variables o)) refl
  where
    go : (q : Option Ty) → look x (result_variables o) ≡ q → look x (result_variables o) ≡ None
    go None e = e
    go (Some t) e = absurd (subst IsWord (is_result x t o e) w)

fits_from : (vs ws : List Variable) → AreDifferent (vs ++ ws) → HaveCells ws → Fits vs ws
fits_from vs [] d h = tt
fits_from vs (w ∷ ws) d h = (record { other = later_new vs ws w d; has = h.0 }, fits_from (vs ++ w ∷ []) ws (subst AreDifferent (sym (append_assoc vs (w ∷ []) ws)) d) h.1)

-- other names before them, of which no word is new
fits_words : (us vs ws : List Variable) → ((x : Name) → IsWord x → look x us ≡ None → look x vs ≡ None) → HaveWords ws → Fits us ws → Fits vs ws
fits_words us vs [] f i h = tt
fits_words us vs (w ∷ ws) f i h = (record { other = f w.name i.0 h.0.other; has = h.0.has }, fits_words (us ++ w ∷ []) (vs ++ w ∷ []) ws more i.1 h.1)
  where
    more : (x : Name) → IsWord x → look x (us ++ w ∷ []) ≡ None → look x (vs ++ w ∷ []) ≡ None
    more x j e = none_both x vs (w ∷ []) (f x j (none_left x us (w ∷ []) e)) (none_right x us (w ∷ []) e)

-- ---- a routine

module _ (k : Numbering) (ts : Compounds) (counted : Counted ts) where
  result_cells : (o : Option Ty) → IsOrdinalResult o → ResultHasCells k ts counted o
  result_cells None h = tt
  result_cells (Some t) h = ordinal_cells t h

  pub routine_fits : (m : RoutineMeaning) → AreDeclared local_variable m.scope (routine_variables m) → AreWords m.scope → AreSized m.scope → Each IsFreeVariable (routine_variables m) → IsOrdinalResult m.result → RoutineFits k ts counted m
  routine_fits m declared words sized free result =
      let qs : List Variable = parameter_variables m.parameters in
      let pre : List Variable = parameters_by false m.parameters ++ result_variables m.result in
      let all : Fits [] (qs ++ m.variables) = fits_from [] (qs ++ m.variables) declared.different (have_cells m.scope (qs ++ m.variables) sized declared.visible free) in
      let other : (x : Name) → IsWord x → look x qs ≡ None → look x pre ≡ None = λ x w e. none_both x (parameters_by false m.parameters) (result_variables m.result) (no_parameter false x m.parameters e) (no_result x m.result w) in
      record {
        parameters = fits_left [] qs m.variables all;
        result = result_cells m.result result;
        variables = fits_words qs pre m.variables other (each_right (λ (v : Variable). IsWord v.name) qs m.variables (have_words m.scope (qs ++ m.variables) words declared.visible)) (fits_right [] qs m.variables all);
      }
