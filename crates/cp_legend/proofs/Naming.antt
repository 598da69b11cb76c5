-- Components that are named: loops over what one contains, and system types that contain components of earlier ones alone.
use Rattle.std.proofs.Common.{◌≡◌, ℕ, zero, suc, ◌+◌, ◌<◌, ◌≤◌, List, [], ◌∷◌, ◌++◌, length, get_or, drop, take, map, slice_get, slice_index_or, Option, Some, None, refl, sym, ap, ◌∙◌, add-one, append_assoc, arith}
use Rattle.std.proofs.Math.Seq.{drop-cons, take-suc}
use Rattle.std.proofs.lemmas.List.{drop_all, take_all, take-map, drop-map, length-map, map-append, append-nil}
use Rattle.std.proofs.lemmas.Grind.{flat_map-append}
use Rattle.std.proofs.lemmas.Bool.Decides.{nat_tests}
use Rattle.std.specs.Prelude.{flat_map, insert, min}
use Rattle.std.proofs.lemmas.Option.{slice_get-get_or, slice_get_past}
use Rattle.cp_slots.specs.declared.tables.Component.{Component}
use Rattle.cp_slots.specs.Tables.{no_component}
use Rattle.cp_symbols.specs.declared.kinds.CellRange.{CellRange}
use Rattle.cp_symbols.specs.declared.symbols.Symbol as code_symbol
use Rattle.cp_symbols.specs.Symbols.{Noted}
use Rattle.cp_symbols.specs.declared.symbols.RoutineSymbol as code_heading
use Rattle.cp_symbols.specs.Symbols.{routine_seen, symbol_seen}
use Rattle.cp_symbols.specs.declared.symbols.FunctionResult.{FunctionResult}
use Rattle.cp_legend.specs.declared.legend.LegendParameter.{LegendParameter}
use Rattle.cp_legend.specs.declared.legend.Variable as code_variable
use Rattle.cp_legend.specs.declared.parts.ComponentPart as code_part
use Rattle.cp_legend.specs.Names.{Source, RoutineNames, variable, variable_seen, with_result, routine_of, routines_from, Part, Named, Naming, part_seen, at_each, index_text, elements_below, part, inside, parts_by, next_by, parts_at, named_below}

-- ---- what stands at each number

module _ {X : Type 0} (f : ℕ → X) where
  pub each_step : (n : ℕ) → at_each f n ++ f n ∷ [] ≡ at_each f (n + 1)
  unfolding at_each
  each_step n = rw add-one refl

  pub each_none : at_each f 0 ≡ []
  unfolding at_each
  each_none = refl

-- ---- parts

module _ (names : List (List ℕ)) (x : List ℕ) (r : CellRange) (system : ℕ) (front : List Part) where
  pub elements_step : (n : ℕ) → (front ++ elements_below names x r system n) ++ part (x ++ index_text names r n) system ∷ [] ≡ front ++ elements_below names x r system (n + 1)
  unfolding elements_below
  elements_step n = rw add-one (append_assoc front (elements_below names x r system n) (part (x ++ index_text names r n) system ∷ []))

  pub elements_none : front ++ elements_below names x r system 0 ≡ front
  unfolding elements_below
  elements_none = append-nil front

module _ {X : Type 0} (f : Noted → List X) (xs : List code_symbol.Symbol) (i : ℕ) where
  pub declared_step : (x : code_symbol.Symbol) → i < length xs → x ≡ get_or xs i x → flat_map f (map symbol_seen (take (i + 1) xs)) ≡ flat_map f (map symbol_seen (take i xs)) ++ f (symbol_seen x)
  declared_step x within here =
      rw (add-one, take-suc xs i x within, ← here)
      (ap (flat_map f) (map-append symbol_seen (take i xs) (x ∷ []))
      ∙ flat_map-append f (map symbol_seen (take i xs)) (symbol_seen x ∷ [])
      ∙ ap (λ (ys : List X). flat_map f (map symbol_seen (take i xs)) ++ ys) (append-nil (f (symbol_seen x))))

  pub declared_none : length xs ≤ i → flat_map f (map symbol_seen (take i xs)) ≡ flat_map f (map symbol_seen xs)
  declared_none h = rw (take_all i xs h) refl

-- ---- routines

module _ (s : Source) (front : List RoutineNames) (xs : List code_heading.RoutineSymbol) (i : ℕ) where
  pub routines_step : (x : code_heading.RoutineSymbol) → i < length xs → x ≡ get_or xs i x → front ++ routines_from s i (map routine_seen (drop i xs)) ≡ (front ++ routine_of s i (routine_seen x) ∷ []) ++ routines_from s (i + 1) (map routine_seen (drop (i + 1) xs))
  unfolding routines_from
  routines_step x within here = rw (drop-cons xs i x, ← here) (rw (add-one) (sym (append_assoc front (routine_of s i (routine_seen x) ∷ []) (routines_from s (suc i) (map routine_seen (drop (suc i) xs))))))

  pub routines_none : length xs ≤ i → front ++ routines_from s i (map routine_seen (drop i xs)) ≡ front
  unfolding routines_from
  routines_none h = rw (drop_all i xs h) (append-nil front)

pub result_added : (f : FunctionResult) (x : List ℕ) (ps : List LegendParameter) (before : Option ℕ) (vs us : List code_variable.Variable) (v : code_variable.Variable) (at : ℕ) → at ≡ min (length ps) (length vs) → us ≡ insert vs at v → variable_seen v ≡ variable x f.slot f.value_type →
    (let r : RoutineNames = record { name = x; parameters = ps; variables = map variable_seen us; result = Some at } in r) ≡ with_result (record { name = x; parameters = ps; variables = map variable_seen vs; result = before }) f
result_added f x ps before vs us v at place added is =
    rw (length-map vs variable_seen, ← place, added, take-map variable_seen at vs, drop-map variable_seen at vs, map-append variable_seen (take at vs) (v ∷ drop at vs), is) refl

-- ---- components

pub component_there : (all : List Component) (n : ℕ) → n < length all → slice_get all n ≡ Some (slice_index_or all n no_component)
component_there all n h = slice_get-get_or all n no_component h

pub component_beyond : (all : List Component) (n : ℕ) → length all ≤ n → slice_get all n ≡ None
component_beyond all n h = slice_get_past all n h

module _ (all : List Component) (parts : List (List Part)) where
  pub named_inside : (bound n : ℕ) (path : List ℕ) (outer : Option ℕ) (cs : List Named) → n < bound → named_below all parts bound n path outer cs ≡ next_by (named_below all parts n) (slice_get all (length cs)) (parts_at parts n) path outer cs
  unfolding named_below
  named_inside zero n path outer cs h = grind (arith, nat_tests)
  named_inside (suc bound) n path outer cs h = let below = named_inside bound n path outer cs in grind (arith, nat_tests, below)

  pub named_outside : (bound n : ℕ) (path : List ℕ) (outer : Option ℕ) (cs : List Named) → bound ≤ n → named_below all parts bound n path outer cs ≡ cs
  unfolding named_below
  named_outside zero n path outer cs h = refl
  named_outside (suc bound) n path outer cs h = let below = named_outside bound n path outer cs in grind (arith, nat_tests, below)

module _ (one : Naming) (xs : List code_part.ComponentPart) (i : ℕ) (path : List ℕ) (outer : Option ℕ) where
  pub parts_step : (x : code_part.ComponentPart) → i < length xs → x ≡ get_or xs i x → (cs ds : List Named) → ds ≡ one x.system (inside path (part_seen x).text) outer cs → parts_by one (map part_seen (drop i xs)) path outer cs ≡ parts_by one (map part_seen (drop (i + 1) xs)) path outer ds
  unfolding parts_by
  parts_step x within here cs ds h = rw (add-one, drop-cons xs i x, ← here) (ap (λ (y : List Named). parts_by one (map part_seen (drop (suc i) xs)) path outer y) (sym h))

  pub parts_none : (cs : List Named) → length xs ≤ i → parts_by one (map part_seen (drop i xs)) path outer cs ≡ cs
  unfolding parts_by
  parts_none cs h = rw (drop_all i xs h) refl
