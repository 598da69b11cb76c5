-- The parameters, the results and the local variables of routines in the legend of a tree are those of the tree, at the cells that its layouts give them.
use Rattle.std.proofs.Common.{◌≡◌, ℕ, zero, suc, ◌+◌, Bool, true, false, if◌then◌else◌, List, [], ◌∷◌, ◌++◌, length, map, take, drop, Option, Some, None, slice_get, refl, sym, ap, subst, ◌∙◌, inl, inr, length-append, arith}
use Rattle.std.proofs.Math.Seq.{take-append_seam, drop-append_seam}
use Rattle.std.proofs.lemmas.Option.{same_Some}
use Rattle.std.specs.Prelude.{insert, min}
use Rattle.cp_legend_laws.proofs.Words.{flat_map, length-map, none-some, slice_get_within, CellType, Compounds, Each, LayoutMeaning, Layer, Name, Noted, Numbering, Program, Tree, TypeIs, Variable, nothing_laid}
use Rattle.cp_tree.specs.Read.{IsRead}
use Rattle.cp_slots.specs.declared.place.PlaceOrigin.{PlaceOrigin}
use Rattle.cp_slots.specs.declared.place.PlaceOrigin.TheVariants as origin
use Rattle.cp_symbols.specs.declared.names.LayoutMeaning.TheVariants as meaning
use Rattle.cp_symbols.specs.declared.symbols.FunctionResult.{FunctionResult}
use Rattle.cp_symbols.specs.Symbols.{RoutineName}
use Rattle.cp_layout.specs.Laid.{whole}
use Rattle.cp_layout.specs.Layers as layers
use Rattle.cp_layout.specs.Layers.{Heading, own_result, result_slot}
use Rattle.cp_layout.specs.Symbols.{name_of_routine}
use Rattle.cp_meaning_laws.specs.Accepted.{IsAccepted}
use Rattle.cp_legend.specs.Names as legend
use Rattle.cp_legend.specs.Names.{RoutineNames, Source, bare_routine, local_meant, local_named, parameter_meant, parameter_named, routine_names_seen, routine_of, routines_from, source_seen, with_result_if}
use Rattle.cp_legend.specs.declared.legend.LegendParameter.{LegendParameter}
use Rattle.cp_meaning.specs.Declarations.{Parameter, RoutineMeaning}
use Rattle.cp_meaning.specs.Names.{result_name, same_name}
use Rattle.cp_meaning.specs.Scopes as scopes
use Rattle.cp_meaning.specs.Scopes.{Scope, local_variable}
use Rattle.cp_meaning.specs.Steps.{parameter_variables}
use Rattle.cp_meaning.specs.Types.{Ty}
use Rattle.cp_resolved.specs.Begun.{all_begun}
use Rattle.cp_resolved.specs.Calls.{all_calls_laid}
use Rattle.cp_resolved.specs.Framed.{AreDeclared, AreDifferent, IsFramed, routine_variables}
use Rattle.cp_resolved.specs.InStep.{FoundIs, InStep, IsInFrame}
use Rattle.cp_resolved.specs.Layouts.{FrameLayout, cell_named, look, slot_of}
use Rattle.cp_resolved.specs.LayoutsKnow.{IsPlaced, KnowsAt}
use Rattle.cp_resolved.specs.Once.{IsWord}
use Rattle.cp_resolved.specs.Openings.{Opening, meaning_at, meaning_in, numbering_of, openings_of}
use Rattle.cp_resolved.specs.TreeLayouts.{begun_at, frame_layout, hidden_origin, layer_or, layouts_of, origin_in}
use Rattle.cp_resolved.specs.Used.{ResultsAre}
use Rattle.cp_resolved.proofs.agreeing.AgreeingWritten.{each_left, each_right}
use Rattle.cp_resolved.proofs.components.ComponentsStand.{entry_there, map_there}
use Rattle.cp_resolved.proofs.declarations.FramedOfTrees.{accepted_framed}
use Rattle.cp_resolved.proofs.declarations.Placed.{placed_law}
use Rattle.cp_resolved.proofs.frames.FrameCells.{itself, none_right, same_is}
use Rattle.cp_resolved.proofs.frames.FrameKnown.{word_found}
use Rattle.cp_resolved.proofs.frames.FrameOfTables.{last_result}
use Rattle.cp_resolved.proofs.frames.FrameSteps.{one_variable}
use Rattle.cp_resolved.proofs.frames.FramesBegun.{variables_append}
use Rattle.cp_resolved.proofs.items.Ended.{AreEnded, all_end}
use Rattle.cp_resolved.proofs.names.Entries.{last_entry, still_there, there}
use Rattle.cp_resolved.proofs.names.Steps.{found_in, type_grown}
use Rattle.cp_resolved.proofs.names.TreeKnown.{Opens, layouts_law, opens_of, undeclared_name}
use Rattle.cp_legend_laws.specs.Routines.{AreLocals, AreParameters, IsLocal, ResultIs, RoutineIsTold, at_place, passing_of, result_variable, value_parameters}
use Rattle.cp_legend_laws.specs.Statements.{LocalsLaw, routine_text}
use Rattle.cp_legend_laws.proofs.LocalRoutines.{AreGiven, Given, GivenAt, Picked, all_given, all_locals, all_parameters, given_at, locals_append, parameters_many}
use Rattle.cp_legend_laws.proofs.LocalsNoted.{AreValues, AreValuesIf, InOrder, IsNotedAs, PassedAs, as_values, is_held, order_both}
use Rattle.cp_legend_laws.proofs.NamedRoutines.{routines_law}

-- ---- notes by the names of what they stand for

abbrev Pairs : (Parameter → LayoutMeaning → Type 0) → List Parameter → List Noted → Type 0
Pairs P [] [] = Unit {0}
Pairs P (q ∷ qs) (d ∷ ds) = P q d.meaning × Pairs P qs ds
Pairs P [] (d ∷ ds) = ⊥
Pairs P (q ∷ qs) [] = ⊥

pairs_left : (P : Parameter → LayoutMeaning → Type 0) (qs us : List Parameter) (ds es : List Noted) → InOrder qs ds → Pairs P (qs ++ us) (ds ++ es) → Pairs P qs ds
pairs_left P [] us [] es o h = tt
pairs_left P (q ∷ qs) us (d ∷ ds) es o h = (h.0, pairs_left P qs us ds es o.1 h.1)
pairs_left P _ us _ es o h = absurd o

pairs_right : (P : Parameter → LayoutMeaning → Type 0) (qs us : List Parameter) (ds es : List Noted) → InOrder qs ds → Pairs P (qs ++ us) (ds ++ es) → Pairs P us es
pairs_right P [] us [] es o h = h
pairs_right P (q ∷ qs) us (d ∷ ds) es o h = pairs_right P qs us ds es o.1 h.1
pairs_right P _ us _ es o h = absurd o

-- what is none of the parameters is not noted for one
no_note : (x : Name) (w : LayoutMeaning) (qs : List Parameter) (ds : List Noted) → InOrder qs ds → look x (parameter_variables qs) ≡ None → IsNotedAs x w ds → ⊥
no_note x w [] [] o f h = h
no_note x w (q ∷ qs) (d ∷ ds) o f (inl h) =
    let same : same_name x q.name ≡ true = subst (λ (y : Name). same_name x y ≡ true) (sym h.0 ∙ o.0.name) (itself x) in
    none-some q.ty (sym f ∙ ap (λ (b : Bool). if b then Some q.ty else look x (parameter_variables qs)) same)
no_note x w (q ∷ qs) (d ∷ ds) o f (inr h) = no_note x w qs ds o.1 (none_right x (one_variable q.name q.ty ∷ []) (parameter_variables qs) f) h
no_note x w _ _ o f h = absurd o

-- some note has its name, and means this of it
abbrev Meant : (Parameter → LayoutMeaning → Type 0) → List Noted → Parameter → Type 0
Meant P ds q = (w : LayoutMeaning) × IsNotedAs q.name w ds × P q w

-- the note of another parameter does not
others : (P : Parameter → LayoutMeaning → Type 0) (q : Parameter) (d : Noted) (ds : List Noted) → d.name ≡ q.name → (us : List Parameter) → look q.name (parameter_variables us) ≡ None → Each (Meant P (d ∷ ds)) us → Each (Meant P ds) us
others P q d ds e [] f h = tt
others P q d ds e (u ∷ us) f h = (go h.0.0 h.0.1 h.0.2, others P q d ds e us (none_right q.name (one_variable u.name u.ty ∷ []) (parameter_variables us) f) h.1)
  where
    go : (w : LayoutMeaning) → IsNotedAs u.name w (d ∷ ds) → P u w → Meant P ds u
    go w (inl g) x =
        let same : same_name q.name u.name ≡ true = subst (λ (y : Name). same_name q.name y ≡ true) (sym e ∙ g.0) (itself q.name) in
        absurd (none-some u.ty (sym f ∙ ap (λ (b : Bool). if b then Some u.ty else look q.name (parameter_variables us)) same))
    go w (inr g) x = (w, g, x)

pairs : (P : Parameter → LayoutMeaning → Type 0) (qs : List Parameter) (ds : List Noted) → InOrder qs ds → AreDifferent (parameter_variables qs) → Each (Meant P ds) qs → Pairs P qs ds
pairs P [] [] o f h = tt
pairs P (q ∷ qs) (d ∷ ds) o f h = (go h.0.0 h.0.1 h.0.2, pairs P qs ds o.1 f.1 (others P q d ds o.0.name qs f.0 h.1))
  where
    go : (w : LayoutMeaning) → IsNotedAs q.name w (d ∷ ds) → P q w → P q d.meaning
    go w (inl g) x = subst (P q) (sym g.1) x
    go w (inr g) x = absurd (no_note q.name w qs ds o.1 f.0 g)
pairs P _ _ o f h = absurd o

-- ---- local variables as parameters with values

as_variables : (vs : List Variable) → parameter_variables (as_values vs) ≡ vs
as_variables [] = refl
as_variables (v ∷ vs) = ap (λ (us : List Variable). v ∷ us) (as_variables vs)

value_variables : (vs : List Variable) → value_parameters (as_values vs) ≡ vs
value_variables [] = refl
value_variables (v ∷ vs) = ap (λ (us : List Variable). v ∷ us) (value_variables vs)

-- where all parameters have values, each has cells
values_many : (qs : List Parameter) (ds : List Noted) → InOrder qs ds → AreValues qs → length (all_locals ds) ≡ length qs
values_many [] [] o h = refl
values_many (q ∷ qs) (d ∷ ds) o h =
    let p : PassedAs false d.meaning = subst (λ (b : Bool). PassedAs b d.meaning) h.0 o.0.passed in
    ap (λ (w : LayoutMeaning). length (local_meant d.name w ++ all_locals ds)) p.2 ∙ ap suc (values_many qs ds o.1 h.1)
values_many _ _ o h = absurd o

held_in : (o : PlaceOrigin) (v : CellType) → IsInFrame o → is_held (meaning.Variable o v) ≡ true
held_in (origin.Local i) v h = refl
held_in (origin.Reference i) v h = refl
held_in (origin.Permanent i) v h = absurd h

same_shape : (o q : PlaceOrigin) (v w : CellType) → meaning.Variable o v ≡ meaning.Variable q w → v ≡ w
same_shape o q v w e = cc

-- ---- numbers

number_at : (end : Layer) (ls : List Layer) (os : List Opening) (i n : ℕ) (l : Layer) → AreEnded end i ls os → slice_get ls n ≡ Some l → length l.routines ≡ i + n
number_at end [] os i n l h e = absurd (none-some l e)
number_at end (m ∷ ls) [] i n l h e = absurd h
number_at end (m ∷ ls) (o ∷ os) i zero l h e = ap (λ (j : Layer). length j.routines) (sym (same_Some m l e)) ∙ (let a = h.0.number in omega (arith, a))
number_at end (m ∷ ls) (o ∷ os) i (suc n) l h e = let a = number_at end ls os (suc i) n l h.1 e in omega (arith, a)

given_many : (end : Layer) (ls : List Layer) (os : List Opening) → AreGiven end ls os → length ls ≡ length os
given_many end [] [] h = refl
given_many end (l ∷ ls) (o ∷ os) h = ap suc (given_many end ls os h.1)
given_many end _ _ h = absurd h

not_found : (k : Numbering) (ts : Compounds) (q : Option LayoutMeaning) (s : Scope) → FoundIs k ts q None s → q ≡ None
not_found k ts None s h = refl
not_found k ts (Some w) s h = absurd h

-- ---- the routines of a legend by their numbers

from_there : (s : Source) (i : ℕ) (rs : List RoutineName) (n : ℕ) (q : RoutineNames) → slice_get (routines_from s i rs) n ≡ Some q → (r : RoutineName) × (slice_get rs n ≡ Some r) × (q ≡ routine_of s (i + n) r)
unfolding routines_from
from_there s i [] n q e = absurd (none-some q e)
from_there s i (r ∷ rs) zero q e = (r, refl, sym (same_Some (routine_of s i r) q e) ∙ ap (λ (j : ℕ). routine_of s j r) (let a : i ≡ i + 0 = omega arith in a))
from_there s i (r ∷ rs) (suc n) q e = let w = from_there s (i + 1) rs n q e in (w.0, w.1, w.2 ∙ ap (λ (j : ℕ). routine_of s j w.0) (let a : i + 1 + n ≡ i + suc n = omega arith in a))

-- ---- where the statements of a routine begin

module _ (t : Tree) (read : IsRead t.program) (ok : IsAccepted t) (n : ℕ) (l : Layer) (e : slice_get (all_begun t) n ≡ Some l) where
  abbrev p : Program
  p = t.program

  abbrev k : Numbering
  k = numbering_of p

  abbrev end : Layer
  end = whole t

  abbrev m : RoutineMeaning
  m = meaning_at p n

  abbrev f : FrameLayout
  f = (layouts_of t).frames n

  place : IsPlaced t
  place = placed_law t read ok

  framed : IsFramed t
  framed = accepted_framed t read ok

  found_there : GivenAt end (openings_of p) n l
  found_there = given_at end (all_begun t) (openings_of p) n l (all_given t) e

  opens : Opens k t place.once (openings_of p) n l
  opens = opens_of t place n l e

  knows : KnowsAt t n l
  knows = layouts_law t place n l e

  abbrev given : Given end l found_there.opening
  given = found_there.given

  abbrev first : List Noted
  first = given.first

  abbrev second : List Noted
  second = given.second

  abbrev h : Heading
  h = given.heading

  meant : m ≡ found_there.opening.meaning
  meant = ap (meaning_in _) found_there.there

  number : length l.routines ≡ n
  number = let a = number_at end (all_begun t) (openings_of p) 0 n l (all_end k t) e in omega (arith, a)

  heads : InOrder m.parameters first
  heads = subst (λ (q : RoutineMeaning). InOrder q.parameters first) (sym meant) given.heads

  locals : InOrder (as_values m.variables) second
  locals = subst (λ (q : RoutineMeaning). InOrder (as_values q.variables) second) (sym meant) given.locals

  values : AreValuesIf m.result m.parameters
  values = subst (λ (q : RoutineMeaning). AreValuesIf q.result q.parameters) (sym meant) given.values

  steps : InStep k l.types l.names m.scope
  steps = knows.names.names

  declared : AreDeclared local_variable m.scope (routine_variables m)
  declared = framed.locals n

  -- ---- each name is found as it was noted

  record Found (q : Parameter) (w : LayoutMeaning) : Type 0 where
    origin : PlaceOrigin
    shape : CellType
    is : w ≡ meaning.Variable origin shape
    there : layers.find q.name l.names ≡ Some w
    belongs : TypeIs k l.types q.ty shape

  one_meant : (q : Parameter) → scopes.find q.name m.scope ≡ Some (local_variable q.ty) → Meant Found (first ++ second) q
  one_meant q g = go (layers.find q.name l.names) refl (subst (λ o. FoundIs k l.types (layers.find q.name l.names) o (scopes.since q.name m.scope)) g (found_in k l.types q.name l.names m.scope steps))
    where
      go : (o : Option LayoutMeaning) → layers.find q.name l.names ≡ o → FoundIs k l.types o (Some (local_variable q.ty)) (scopes.since q.name m.scope) → Meant Found (first ++ second) q
      go None a v = absurd v
      go (Some w) a v = (w, given.covers q.name w (ap is_held v.is ∙ held_in v.origin v.value_type v.in_frame) a, record { origin = v.origin; shape = v.value_type; is = v.is; there = a; belongs = v.belongs })

  each_meant : (qs : List Parameter) → Each (λ (v : Variable). scopes.find v.name m.scope ≡ Some (local_variable v.ty)) (parameter_variables qs) → Each (Meant Found (first ++ second)) qs
  each_meant [] g = tt
  each_meant (q ∷ qs) g = (one_meant q g.0, each_meant qs g.1)

  abbrev all : List Parameter
  all = m.parameters ++ as_values m.variables

  all_variables : parameter_variables all ≡ routine_variables m
  all_variables = variables_append m.parameters (as_values m.variables) ∙ ap (λ (vs : List Variable). parameter_variables m.parameters ++ vs) (as_variables m.variables)

  visible : Each (λ (v : Variable). scopes.find v.name m.scope ≡ Some (local_variable v.ty)) (parameter_variables all)
  visible = subst (λ (vs : List Variable). Each (λ (v : Variable). scopes.find v.name m.scope ≡ Some (local_variable v.ty)) vs) (sym all_variables) declared.visible

  all_pairs : Pairs Found all (first ++ second)
  all_pairs = pairs Found all (first ++ second) (order_both m.parameters (as_values m.variables) first second heads locals) (subst AreDifferent (sym all_variables) declared.different) (each_meant all visible)

  -- none has the name of a result
  abbrev IsPlain : Parameter → Type 0
  IsPlain q = same_name q.name result_name ≡ false

  each_plain : (qs : List Parameter) → Each (λ (v : Variable). scopes.find v.name m.scope ≡ Some (local_variable v.ty)) (parameter_variables qs) → Each IsPlain qs
  each_plain [] g = tt
  each_plain (q ∷ qs) g = (go (same_name q.name result_name) refl, each_plain qs g.1)
    where
      go : (b : Bool) → same_name q.name result_name ≡ b → b ≡ false
      go true s = absurd (subst IsWord (same_is q.name result_name s) (word_found q.name (local_variable q.ty) m.scope (place.words n) g.0))
      go false s = refl

  -- ---- cells and types

  cell_there : (q : Parameter) (w : LayoutMeaning) (x : Found q w) (o : PlaceOrigin) (v : CellType) → IsInFrame o → w ≡ meaning.Variable o v → slot_of o ≡ cell_named f q.name
  cell_there q w x o v i g = sym (ap slot_of (knows.names.frame q.name o v (x.there ∙ ap (λ (y : LayoutMeaning). Some y) g) i))

  grown : (u : Ty) (v : CellType) → TypeIs k l.types u v → TypeIs k end.types u v
  grown u v x = subst (λ (ts : Compounds). TypeIs k ts u v) (sym given.types.1) (type_grown k l.types given.types.0 u v x)

  type_there : (q : Parameter) (w : LayoutMeaning) (x : Found q w) (o : PlaceOrigin) (v : CellType) → w ≡ meaning.Variable o v → TypeIs k end.types q.ty v
  type_there q w x o v g = grown q.ty v (subst (λ (s : CellType). TypeIs k l.types q.ty s) (same_shape x.origin o x.shape v (sym x.is ∙ g)) x.belongs)

  parameters_told : (qs : List Parameter) (ds : List Noted) → InOrder qs ds → Pairs Found qs ds → AreParameters t end.types n qs (all_parameters ds)
  parameters_told [] [] o x = tt
  parameters_told (q ∷ qs) (d ∷ ds) o x = go q.is_var refl o.0.passed (parameters_told qs ds o.1 x.1)
    where
      go : (b : Bool) → q.is_var ≡ b → PassedAs b d.meaning → AreParameters t end.types n qs (all_parameters ds) → AreParameters t end.types n (q ∷ qs) (parameter_meant d.meaning ++ all_parameters ds)
      go true s a rest =
          subst (λ (w : LayoutMeaning). AreParameters t end.types n (q ∷ qs) (parameter_meant w ++ all_parameters ds)) (sym a.2)
          (record { slot = cell_there q d.meaning x.0 (origin.Reference a.0) a.1 tt a.2; shape = type_there q d.meaning x.0 (origin.Reference a.0) a.1 a.2; passing = sym (ap passing_of s) }, rest)
      go false s a rest =
          subst (λ (w : LayoutMeaning). AreParameters t end.types n (q ∷ qs) (parameter_meant w ++ all_parameters ds)) (sym a.2)
          (record { slot = cell_there q d.meaning x.0 (origin.Local a.0) a.1 tt a.2; shape = type_there q d.meaning x.0 (origin.Local a.0) a.1 a.2; passing = sym (ap passing_of s) }, rest)
  parameters_told _ _ o x = absurd o

  locals_told : (own : List ℕ) (qs : List Parameter) (ds : List Noted) → InOrder qs ds → Pairs Found qs ds → Each IsPlain qs → AreLocals t end.types n own (value_parameters qs) (all_locals ds)
  locals_told own [] [] o x y = tt
  locals_told own (q ∷ qs) (d ∷ ds) o x y = go q.is_var o.0.passed (locals_told own qs ds o.1 x.1 y.1)
    where
      v : Variable
      v = record { name = q.name; ty = q.ty }

      go : (b : Bool) → PassedAs b d.meaning → AreLocals t end.types n own (value_parameters qs) (all_locals ds) →
          AreLocals t end.types n own (if b then value_parameters qs else (let w : Variable = record { name = q.name; ty = q.ty } in w) ∷ value_parameters qs) (local_meant d.name d.meaning ++ all_locals ds)
      go true a rest = subst (λ (w : LayoutMeaning). AreLocals t end.types n own (value_parameters qs) (local_meant d.name w ++ all_locals ds)) (sym a.2) rest
      go false a rest =
          subst (λ (w : LayoutMeaning). AreLocals t end.types n own ((let u : Variable = record { name = q.name; ty = q.ty } in u) ∷ value_parameters qs) (local_meant d.name w ++ all_locals ds)) (sym a.2)
          (record { name = o.0.name ∙ ap (λ (b : Bool). if b then own else q.name) (sym y.0); slot = cell_there q d.meaning x.0 (origin.Local a.0) a.1 tt a.2; shape = type_there q d.meaning x.0 (origin.Local a.0) a.1 a.2 }, rest)
  locals_told own _ _ o x y = absurd o

  locals_both : (own : List ℕ) (vs us : List Variable) (xs ys : List legend.Variable) → AreLocals t end.types n own vs xs → AreLocals t end.types n own us ys → AreLocals t end.types n own (vs ++ us) (xs ++ ys)
  locals_both own [] us [] ys a b = b
  locals_both own (v ∷ vs) us (x ∷ xs) ys a b = (a.0, locals_both own vs us xs ys a.1 b)
  locals_both own _ us _ ys a b = absurd a

  -- ---- the heading

  place_is : length given.before ≡ n
  place_is =
      let a = ap (λ (hs : List Heading). length hs) given.own in
      let b = length-append given.before (h ∷ []) in
      let c = opens.begins.count in
      omega (arith, a, b, c, number)

  heading_there : slice_get l.headings n ≡ Some h
  heading_there = ap (λ (hs : List Heading). slice_get hs n) given.own ∙ (ap (slice_get (given.before ++ h ∷ [])) (sym place_is) ∙ last_entry given.before h)

  heading_last : slice_get end.headings n ≡ Some h
  heading_last = ap (λ (hs : List Heading). slice_get hs n) given.headings.1 ∙ still_there l.headings given.headings.0 n h heading_there

  results : ResultsAre k l.types m.result h.result
  results = opens.begins.knowing.headings n h heading_there

  result_cell : result_slot h.result ≡ cell_named f result_name
  result_cell =
      let none : scopes.find result_name m.scope ≡ None = undeclared_name result_name m.scope (λ i. i) (place.words n) in
      let gone : layers.find result_name l.names ≡ None = not_found k l.types (layers.find result_name l.names) (scopes.since result_name m.scope) (subst (λ o. FoundIs k l.types (layers.find result_name l.names) o (scopes.since result_name m.scope)) none (found_in k l.types result_name l.names m.scope steps)) in
      let begun : begun_at t n ≡ l = ap (layer_or (nothing_laid t.lines)) e in
      let at_begun : cell_named f result_name ≡ cell_named (frame_layout p m l) result_name = ap (λ (j : Layer). cell_named (frame_layout p m j) result_name) begun in
      let hidden : cell_named (frame_layout p m l) result_name ≡ own_result l = ap (λ o. slot_of (origin_in (hidden_origin l (all_calls_laid m.scope m.body) result_name) o)) gone in
      sym (at_begun ∙ (hidden ∙ last_result l given.before h given.own opens.begins.count))

  -- ---- the routine

  picked : Picked n end.noted (first ++ second)
  picked = subst (λ (j : ℕ). Picked j end.noted (first ++ second)) number given.picked

  abbrev bare : RoutineNames
  bare = record { name = h.name; parameters = all_parameters first; variables = all_locals first ++ all_locals second; result = None }

  bare_is : (s : Source) → s.declared ≡ end.noted → bare_routine s n (name_of_routine h) ≡ bare
  bare_is s same =
      let vs : flat_map (local_named n) s.declared ≡ all_locals first ++ all_locals second = ap (flat_map (local_named n)) same ∙ (picked.locals ∙ locals_append first second) in
      let ps : take (length h.parameters) (flat_map (parameter_named n) s.declared) ≡ all_parameters first = ap (λ (ds : List Noted). take (length h.parameters) (flat_map (parameter_named n) ds)) same ∙ (ap (take (length h.parameters)) picked.parameters ∙ given.taken) in
      ap (λ (xs : List legend.Variable). (let r : RoutineNames = record { name = h.name; parameters = take (length h.parameters) (flat_map (parameter_named n) s.declared); variables = xs; result = None } in r)) vs
      ∙ ap (λ (xs : List LegendParameter). (let r : RoutineNames = record { name = h.name; parameters = xs; variables = all_locals first ++ all_locals second; result = None } in r)) ps

  parameters_there : AreParameters t end.types n m.parameters (all_parameters first)
  parameters_there = parameters_told m.parameters first heads (pairs_left Found m.parameters (as_values m.variables) first second heads all_pairs)

  first_there : AreLocals t end.types n h.name (value_parameters m.parameters) (all_locals first)
  first_there = locals_told h.name m.parameters first heads (pairs_left Found m.parameters (as_values m.variables) first second heads all_pairs) (each_left IsPlain m.parameters (as_values m.variables) (each_plain all visible))

  second_there : AreLocals t end.types n h.name m.variables (all_locals second)
  second_there =
      subst (λ (vs : List Variable). AreLocals t end.types n h.name vs (all_locals second)) (value_variables m.variables)
      (locals_told h.name (as_values m.variables) second locals (pairs_right Found m.parameters (as_values m.variables) first second heads all_pairs) (each_right IsPlain m.parameters (as_values m.variables) (each_plain all visible)))

  abbrev Told : Option Ty → RoutineNames → Type 0
  Told o r = AreLocals t end.types n r.name (value_parameters m.parameters ++ (result_variable o ++ m.variables)) r.variables × ResultIs t end.types n r.name o (at_place r.variables r.result) × AreParameters t end.types n m.parameters r.parameters

  with_told : (o : Option Ty) (r : Option FunctionResult) → ResultsAre k l.types o r → AreValuesIf o m.parameters → result_slot r ≡ cell_named f result_name → Told o (with_result_if bare r)
  with_told None None a b c = (locals_both h.name (value_parameters m.parameters) m.variables (all_locals first) (all_locals second) first_there second_there, tt, parameters_there)
  with_told (Some u) (Some r) a b c =
      let xs : List legend.Variable = all_locals first in
      let ys : List legend.Variable = all_locals second in
      let ps : List LegendParameter = all_parameters first in
      let w : legend.Variable = legend.variable h.name r.slot r.value_type in
      let v : Variable = record { name = result_name; ty = u } in
      let many : length xs ≡ length m.parameters = values_many m.parameters first heads b in
      let all_many : length ps ≡ length m.parameters = parameters_many m.parameters first heads in
      let long = length-append xs ys in
      let here : min (length ps) (length (xs ++ ys)) ≡ length xs = omega (arith, many, all_many, long) in
      let seam : insert (xs ++ ys) (length xs) w ≡ xs ++ w ∷ ys = ap (λ (zs : List legend.Variable). zs ++ w ∷ drop (length xs) (xs ++ ys)) (take-append_seam xs ys) ∙ ap (λ (zs : List legend.Variable). xs ++ w ∷ zs) (drop-append_seam xs ys) in
      let is : insert (xs ++ ys) (min (length ps) (length (xs ++ ys))) w ≡ xs ++ w ∷ ys = ap (λ (i : ℕ). insert (xs ++ ys) i w) here ∙ seam in
      let one : IsLocal t end.types n h.name v w = record { name = sym (ap (λ (y : Bool). if y then h.name else result_name) (itself result_name)); slot = c; shape = grown u r.value_type a } in
      let there_it_is : slice_get (insert (xs ++ ys) (min (length ps) (length (xs ++ ys))) w) (min (length ps) (length (xs ++ ys))) ≡ Some w = ap (λ (zs : List legend.Variable). slice_get zs (min (length ps) (length (xs ++ ys)))) is ∙ (ap (slice_get (xs ++ w ∷ ys)) here ∙ entry_there xs w ys) in (
        subst (λ (zs : List legend.Variable). AreLocals t end.types n h.name (value_parameters m.parameters ++ v ∷ m.variables) zs) (sym is) (locals_both h.name (value_parameters m.parameters) (v ∷ m.variables) xs (w ∷ ys) first_there (one, second_there)),
        subst (λ (z : Option legend.Variable). ResultIs t end.types n h.name (Some u) z) (sym there_it_is) one,
        parameters_there,
      )
  with_told _ _ a b c = absurd a

  routine_told : RoutineIsTold t end.types n (with_result_if bare h.result)
  routine_told = let x : Told m.result (with_result_if bare h.result) = with_told m.result h.result results values result_cell in record { parameters = x.2; variables = x.0; result = x.1 }

  -- ---- the legend

  pub told_as : (s : Source) (q : RoutineNames) → s.declared ≡ end.noted → s.routines ≡ map name_of_routine end.headings → slice_get (routines_from s 0 s.routines) n ≡ Some q → RoutineIsTold t end.types n q
  told_as s q noted routines at_number =
      let w = from_there s 0 s.routines n q at_number in
      let own : slice_get s.routines n ≡ Some (name_of_routine h) = ap (λ (rs : List RoutineName). slice_get rs n) routines ∙ map_there name_of_routine end.headings n h heading_last in
      let same : w.0 ≡ name_of_routine h = same_Some w.0 (name_of_routine h) (sym w.1 ∙ own) in
      let first_is : q ≡ routine_of s n w.0 = w.2 ∙ ap (λ (i : ℕ). routine_of s i w.0) (let z : 0 + n ≡ n = omega arith in z) in
      let whole_is : q ≡ with_result_if bare h.result = first_is ∙ (ap (routine_of s n) same ∙ ap (λ (v : RoutineNames). with_result_if v h.result) (bare_is s noted)) in
      subst (λ (v : RoutineNames). RoutineIsTold t end.types n v) (sym whole_is) routine_told

pub locals_law : LocalsLaw
locals_law t y r l read ok is same named n q at_number =
    let s : Source = source_seen y in
    let end : Layer = whole t in
    let os : List Opening = openings_of t.program in
    let seen : List RoutineNames = map routine_names_seen l.routines.items in
    let names = (routines_law t y r l read ok is same named).names in
    let many : length seen ≡ length os = sym (length-map seen (λ (v : RoutineNames). v.name)) ∙ (ap (λ (xs : List (List ℕ)). length xs) names ∙ length-map os routine_text) in
    let begun = given_many end (all_begun t) os (all_given t) in
    let inside = slice_get_within seen n q at_number in
    let x : (j : Layer) × (slice_get (all_begun t) n ≡ Some j) = there (all_begun t) n (omega (arith, many, begun, inside)) in
    let told : RoutineIsTold t end.types n q = told_as t read ok n x.0 x.1 s q is.declared is.routines (ap (λ (rs : List RoutineNames). slice_get rs n) (sym named.routines) ∙ at_number) in
    subst (λ (ts : Compounds). RoutineIsTold t ts n q) (sym (named.shapes ∙ is.types)) told
