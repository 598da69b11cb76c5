-- The frame of a routine in the tables is the one that its layout says: what its statements leave of the cells with which they begin.
use Rattle.std.proofs.Common.{◌≡◌, ◌+◌, ◌<◌, ◌≤◌, ◌⊎◌, inl, inr, ℕ, suc, ℤ, pos, true, false, if◌then◌else◌, List, [], ◌∷◌, ◌++◌, length, Option, Some, None, slice_get, slice_index_or, refl, sym, ap, subst, ◌∙◌, arith, length-append}
use Rattle.cp_resolved.proofs.Words.{none-some, FunctionResult, Compounds, RoutineView, Name, same_name, temporary, result_name, Ty, Scope, local_variable, Variable}
use Rattle.cp_resolved.proofs.Words.{RoutineMeaning, parameter_variables, all_calls_laid, calls_before, encode, AreDeclared, routine_variables, IsOrdinal, Numbering}
use Rattle.cp_resolved.proofs.Words.{InStep, cells_of, look, FrameLayout, cell_named, slot_of, AreWords, Each, call_variables, result_variables, parameters_by}
use Rattle.cp_resolved.proofs.Words.{frame_layout, Item, statement_item, function_call, start_item, until, successor, return, init_end, end}
use Rattle.cp_tree.specs.Syntax as syntax
use Rattle.cp_slots.specs.declared.place.PlaceOrigin.TheVariants as origin
use Rattle.cp_layout.specs.Layers.{Layer, Heading, result_in, result_slot, own_result}
use Rattle.cp_meaning.specs.Values.{number_value, least}
use Rattle.cp_resolved.specs.Calls as calls
use Rattle.cp_resolved.specs.Resolved.{StandsAt, first_value, ResultIs, FrameIs}
use Rattle.cp_resolved.proofs.names.Entries.{last_entry}
use Rattle.cp_resolved.proofs.frames.FrameCells.{itself, look_right, none_left, none_right, none_both, total, cells_before, before_left, before_right, stands_left, before_stands, extents, number_among, number_inside, number_different}
use Rattle.cp_resolved.proofs.frames.FrameKnown.{no_word, IsTemporary, before_all}
use Rattle.cp_resolved.proofs.frames.FrameStands.{all, refs, reference_origin, case_of, place, origin_is, cell_is, inside_all, apart_cells}
use Rattle.cp_resolved.proofs.frames.FrameSteps.{Frames}
use Rattle.cp_resolved.proofs.frames.FrameValues.{zero_after, first_zero, first_least, values_typed, parameters_there, locals_there}
use Rattle.cp_resolved.proofs.frames.FramesBegun.{no_parameter, SlotIs}
use Rattle.cp_resolved.proofs.agreeing.ScopeVariables.{AreOf}
use Rattle.cp_resolved.proofs.systems.Sizes.{Counted}
use Rattle.cp_resolved.proofs.laid.ZeroCells.{AreZeros}

-- ---- the cell of a function's own result

-- its own heading is the last
pub last_result : (l : Layer) (before : List Heading) (h : Heading) → l.headings ≡ before ++ h ∷ [] → length l.headings ≡ suc (length l.routines) → own_result l ≡ result_slot h.result
last_result l before h e c =
    let n : length before ≡ length l.routines = (let a = ap (λ (hs : List Heading). length hs) e in let b = length-append before (h ∷ []) in omega (arith, a, b, c)) in
    ap (λ (hs : List Heading). result_slot (result_in (slice_get hs (length l.routines)))) e
    ∙ ap (λ j. result_slot (result_in (slice_get (before ++ h ∷ []) j))) (sym n)
    ∙ ap (λ o. result_slot (result_in o)) (last_entry before h)

-- no call has the name of the result
pub no_call : (p : syntax.Program) (s : Scope) (is : List Item) → look result_name (call_variables p s is) ≡ None
no_call p s [] = refl
no_call p s (function_call at d es ∷ is) = no_call p s is
no_call p s (statement_item q ∷ is) = no_call p s is
no_call p s (start_item q ∷ is) = no_call p s is
no_call p s (until ts q ∷ is) = no_call p s is
no_call p s (successor at i z d v q ∷ is) = no_call p s is
no_call p s (return q ∷ is) = no_call p s is
no_call p s (init_end j ∷ is) = no_call p s is
no_call p s (end ∷ is) = no_call p s is

pub result_found : (t : Ty) (vs : List Variable) → look result_name (result_variables (Some t) ++ vs) ≡ Some t
result_found t vs = ap (λ b. if b then Some t else look result_name vs) (itself result_name)

module _ (k : Numbering) (ts : Compounds) (counted : Counted ts) (m : RoutineMeaning) (declared : AreDeclared local_variable m.scope (routine_variables m)) (words : AreWords m.scope) where
  abbrev first : List Variable
  first = parameters_by false m.parameters

  undeclared : look result_name (routine_variables m) ≡ None
  undeclared = no_word result_name m.scope (routine_variables m) (λ i. i) words declared.visible

  no_first : look result_name first ≡ None
  no_first = no_parameter false result_name m.parameters (none_left result_name (parameter_variables m.parameters) m.variables undeclared)

  no_variable : look result_name m.variables ≡ None
  no_variable = none_right result_name (parameter_variables m.parameters) m.variables undeclared

  -- it comes after the parameters
  pub slot_before : (o : Option Ty) (r : Option FunctionResult) → SlotIs k ts counted first o r → (t : Ty) → look result_name ((first ++ result_variables o) ++ m.variables) ≡ Some t → result_slot r ≡ cells_before result_name ((first ++ result_variables o) ++ m.variables)
  slot_before None r s t e = absurd (none-some t (sym (none_both result_name (first ++ []) m.variables (none_both result_name first [] no_first refl) no_variable) ∙ e))
  slot_before (Some u) None s t e = absurd s
  slot_before (Some u) (Some r) s t e =
      let there : look result_name (first ++ result_variables (Some u)) ≡ Some u = look_right result_name first (result_variables (Some u)) no_first ∙ result_found u [] in
      let none : cells_before result_name (result_variables (Some u)) ≡ 0 = ap (λ b. if b then 0 else cells_of u + 0) (itself result_name) in
      let after : cells_before result_name (first ++ result_variables (Some u)) ≡ total first + cells_before result_name (result_variables (Some u)) = before_right cells_of result_name first (result_variables (Some u)) no_first in
      let zero_more : total first ≡ total first + cells_before result_name (result_variables (Some u)) = omega (arith, none) in
      s ∙ zero_more ∙ sym after ∙ sym (before_left cells_of result_name u (first ++ result_variables (Some u)) m.variables there)

-- ---- the frame

-- what the statements of a routine leave: cells with 0 for their calls, after those with which they begin
pub record IsLeft (m : RoutineMeaning) (l : Layer) (v : RoutineView) : Type 0 where
  pub zeros : List ℤ
  pub are : AreZeros zeros
  pub image : v.image ≡ l.frame.image ++ zeros
  pub cells : length v.image ≡ length l.frame.image + length (all_calls_laid m.scope m.body)
  pub extents : v.extents ≡ l.frame.extents
  pub references : v.references ≡ length v.extents
  pub result : v.result ≡ own_result l

module _ (k : Numbering) (p : syntax.Program) (m : RoutineMeaning) (l : Layer) (declared : AreDeclared local_variable m.scope (routine_variables m)) (words : AreWords m.scope) (steps : InStep k l.types l.names m.scope)
    (frames : Frames l (all k p m l declared words steps) (refs k p m l declared words steps)) (slot : (t : Ty) → look result_name (all k p m l declared words steps) ≡ Some t → own_result l ≡ cells_before result_name (all k p m l declared words steps))
    (apart : calls.AreApart (all_calls_laid m.scope m.body)) (ordinal : Each (λ v. IsOrdinal v.ty) (call_variables p m.scope (all_calls_laid m.scope m.body))) (v : RoutineView) (left : IsLeft m l v) where
  abbrev fr : FrameLayout
  fr = frame_layout p m l

  abbrev made : List Item
  made = all_calls_laid m.scope m.body

  abbrev vs : List Variable
  vs = (parameters_by false m.parameters ++ result_variables m.result) ++ m.variables

  abbrev rs : List Variable
  rs = parameters_by true m.parameters

  abbrev Known : Name → Ty → Type 0
  Known x t = IsTemporary x t made ⊎ (look x vs ≡ Some t)

  known : (x : Name) (t : Ty) → look x fr.variables ≡ Some t → Known x t
  known = case_of k p m l declared words steps frames slot apart ordinal

  abbrev at_place : (x : Name) (t : Ty) → Known x t → ℕ
  at_place x t c = place k p m l declared words steps frames slot apart ordinal x t c

  cell : (x : Name) (t : Ty) (c : Known x t) → cell_named fr x ≡ at_place x t c
  cell = cell_is k p m l declared words steps frames slot apart ordinal

  local_there : (x : Name) (t : Ty) → look x fr.variables ≡ Some t → fr.origins x ≡ origin.Local (cell_named fr x)
  local_there x t e = let c : Known x t = known x t e in origin_is k p m l declared words steps frames slot apart ordinal x t c ∙ ap origin.Local (sym (cell x t c))

  cells_there : (x : Name) (t : Ty) → look x fr.variables ≡ Some t → cell_named fr x + cells_of t ≤ length v.image
  cells_there x t e =
      let c : Known x t = known x t e in
      let i : at_place x t c + cells_of t ≤ length l.frame.image + length made = inside_all k p m l declared words steps frames slot apart ordinal x t c in
      subst (λ n. n + cells_of t ≤ length v.image) (sym (cell x t c)) (subst (λ n. at_place x t c + cells_of t ≤ n) (sym left.cells) i)

  as_many : length left.zeros ≡ length made
  as_many = let a = ap (λ zs. length zs) left.image in let b = length-append l.frame.image left.zeros in let c : length v.image ≡ length l.frame.image + length made = left.cells in omega (arith, a, b, c)

  first_there : (x : Name) (t : Ty) → look x fr.variables ≡ Some t → look x (parameter_variables m.parameters) ≡ None → StandsAt v.image (cell_named fr x) (encode (first_value m x))
  first_there x t e none = subst (λ n. StandsAt v.image n (encode (first_value m x))) (sym (cell x t (known x t e))) (go (known x t e))
    where
      go : (c : Known x t) → StandsAt v.image (at_place x t c) (encode (first_value m x))
      go (inl c) =
          let n : ℕ = calls_before c.at made in
          let below : n < length left.zeros = (let a = before_all c.at made c.among in omega (arith, a, as_many)) in
          subst (λ w. StandsAt v.image (length l.frame.image + n) (encode w)) (sym (first_zero k p m l declared words steps frames slot apart ordinal x t c))
          (subst (λ zs. StandsAt zs (length l.frame.image + n) (encode (number_value (pos 0)))) (sym left.image) (zero_after l.frame.image left.zeros n left.are below))
      go (inr c) =
          let begun : StandsAt l.frame.image (cells_before x vs) (encode (least t)) = subst (λ zs. StandsAt zs (cells_before x vs) (encode (least t))) (sym frames.image) (before_stands x t vs frames.free c) in
          subst (λ w. StandsAt v.image (cells_before x vs) (encode w)) (sym (first_least k p m l declared words steps frames slot apart ordinal x t c none))
          (subst (λ zs. StandsAt zs (cells_before x vs) (encode (least t))) (sym left.image) (stands_left l.frame.image left.zeros (encode (least t)) (cells_before x vs) begun))

  -- ---- `var` parameters

  reference_there : (x : Name) (t : Ty) → look x rs ≡ Some t → fr.origins x ≡ origin.Reference (number_among x rs)
  reference_there = reference_origin k p m l declared words steps frames

  number_is : (x : Name) (t : Ty) → look x rs ≡ Some t → cell_named fr x ≡ number_among x rs
  number_is x t e = ap slot_of (reference_there x t e)

  extents_are : v.extents ≡ extents rs
  extents_are = left.extents ∙ frames.extents

  numbered_there : (x : Name) (t : Ty) → look x rs ≡ Some t → (cell_named fr x < v.references) × (slice_index_or v.extents (cell_named fr x) 0 ≡ cells_of t)
  numbered_there x t e =
      let i = number_inside x t rs e in
      let below : number_among x rs < v.references = subst (λ n. number_among x rs < n) (sym (left.references ∙ ap (λ zs. length zs) extents_are)) i.0 in (
        subst (λ n. n < v.references) (sym (number_is x t e)) below,
        ap (λ n. slice_index_or v.extents n 0) (number_is x t e) ∙ ap (λ zs. slice_index_or zs (number_among x rs) 0) extents_are ∙ i.1,
      )

  different_there : (x y : Name) (t u : Ty) → same_name x y ≡ false → look x rs ≡ Some t → look y rs ≡ Some u → cell_named fr x ≡ cell_named fr y → ⊥
  different_there x y t u o e f w = number_different x y t u rs o e f (sym (number_is x t e) ∙ w ∙ number_is y u f)

  -- ---- the result

  result_there : (o : Option Ty) → m.result ≡ o → ResultIs fr v o
  result_there None e = tt
  result_there (Some t) e = (there, go (known result_name t there))
    where
      there : look result_name fr.variables ≡ Some t
      there =
          look_right result_name (call_variables p m.scope made) (result_variables m.result ++ (parameters_by false m.parameters ++ m.variables)) (no_call p m.scope made)
          ∙ ap (λ o. look result_name (result_variables o ++ (parameters_by false m.parameters ++ m.variables))) e
          ∙ result_found t (parameters_by false m.parameters ++ m.variables)

      go : Known result_name t → cell_named fr result_name ≡ v.result
      go (inl c) = absurd (let bad : result_name ≡ temporary c.at = c.is in cc)
      go (inr c) = cell result_name t (inr c) ∙ sym (slot t c) ∙ sym left.result

  pub frame_there : (ps : List Variable) → AreOf (routine_variables m) ps m.scope → FrameIs fr v m
  frame_there ps visible =
      record {
        local = local_there;
        cells = cells_there;
        typed = values_typed k p m l declared words steps frames slot apart ordinal;
        first = first_there;
        apart = apart_cells k p m l declared words steps frames slot apart ordinal;
        reference = λ x t e. reference_there x t e ∙ ap origin.Reference (sym (number_is x t e));
        numbered = numbered_there;
        different = different_there;
        locals = locals_there k p m l declared words steps frames slot apart ordinal ps visible;
        parameters = parameters_there k p m l declared words steps frames slot apart ordinal;
        result = result_there m.result refl;
      }
