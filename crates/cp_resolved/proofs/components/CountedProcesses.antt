-- How many of the components are processes, and that what the checker counts is no less, as long as it is few: only the program has process variables.
use Rattle.std.proofs.Common.{◌≡◌, ◌+◌, ◌*◌, ◌<◌, ◌≤◌, ℕ, zero, suc, true, false, List, [], ◌∷◌, length, Some, None, refl, ap, ◌∙◌, arith, length-append}
use Rattle.cp_resolved.proofs.Words.{min, mul-le, SystemKind, Program, ValueType, Census, Contained, Compounds, Listing, process_at, next_kind, with_component, Owned}
use Rattle.cp_resolved.proofs.Words.{System, Ty, length_of_range, Variable, system_of, Listed, Each, Tokens, TypeIs, SystemThere, one-mul}
use Rattle.cp_tree.specs.declared.declaration.SystemKind.TheVariants as system_kind
use Rattle.cp_scope.specs.Scopes.{Names, Scope, Heading, Shapes, system_shape, count_of, component_census, element_census, array_census, variable_census, census, no_census}
use Rattle.cp_check.specs.declared.types.Spot.TheVariants as spot
use Rattle.cp_check.specs.Types.{may_own}
use Rattle.cp_meaning.specs.Types as named
use Rattle.cp_resolved.proofs.agreeing.AgreeingNames.{W}
use Rattle.cp_resolved.proofs.agreeing.AgreeingTypes.{OwnedAt}
use Rattle.cp_resolved.proofs.agreeing.AgreeingWritten.{each_left, each_right}
use Rattle.cp_resolved.proofs.components.ComponentOrder.{image_at, initial_at, step, steps}
use Rattle.cp_resolved.proofs.components.CountedComponents.{weight, weight_of, all_weights, whole_weight, Weighs, names_weigh, values_few}
use Rattle.cp_resolved.proofs.agreeing.VariablesAmongNames.{Declares, Counted, AreCounted}
use Rattle.cp_resolved.proofs.systems.OwnedParts.{contained_of, all_contained, AreLow}

abbrev pub process_weight : SystemKind → ℕ
process_weight system_kind.Process = 1
process_weight _ = 0

-- whether a component of a system type is a process
abbrev pub weight_by : Tokens → ℕ → ℕ
weight_by tokens k = process_weight (tokens.kinds k)

-- no system type may own processes
no_process : (o k : SystemKind) → may_own (Some o) k ≡ true → process_weight k ≡ 0
no_process system_kind.Class system_kind.Process e = absurd (let bad : false ≡ true = e in cc)
no_process x system_kind.Process e = absurd (let bad : false ≡ true = e in cc)
no_process o _ e = refl

process_count : (m : ℕ) (k : SystemKind) (names : Scope) (h : Heading) (c : Census) (need : ℕ) → (component_census m k (Some (system_shape names h c need))).processes ≡ m * process_weight k
process_count m system_kind.Class names h c need = omega arith
process_count m x names h c need = omega arith

-- as many as there are elements, where each is a process or none is
several : (l m s : ℕ) (k : SystemKind) → min l 8193 ≤ m → s ≤ process_weight k → m * process_weight k ≤ 8192 → l * s ≤ m * process_weight k
several l m s system_kind.Process h one few = let a = mul-le l s l 1 (omega arith) one in omega (arith, a, h, few)
several l m s x h one few = let a = mul-le l s l 0 (omega arith) one in omega (arith, a)

module _ (tokens : Tokens) (f : ℕ → ℕ) (bound : ℕ) (one : (n : ℕ) → n < bound → f n ≤ process_weight (tokens.kinds n)) where
  -- ---- in a system type

  component_none : (o : SystemKind) (n : ℕ) → n < bound → OwnedAt tokens (spot.Permanent (Some o)) (named.component_of n) → f n ≡ 0
  component_none o n lt may = let a = one n lt in let b = no_process o (tokens.kinds n) may in omega (arith, a, b)

  type_none : (o : SystemKind) (t : Ty) → AreLow bound (contained_of t) → OwnedAt tokens (spot.Permanent (Some o)) t → weight_of f t ≡ 0
  type_none o (named.component_of n) low may = component_none o n low.0 may
  type_none o (named.array_over r (named.component_of n)) low may =
      let z : f n ≡ 0 = component_none o n low.0 may in
      let a : length_of_range r * f n ≡ length_of_range r * 0 = ap (λ m. length_of_range r * m) z in
      omega (arith, a)
  type_none o _ low may = refl

  none_inside : (o : SystemKind) (ss : Shapes) (vs : List Variable) (ds : Names) → AreLow bound (all_contained vs) → Declares tokens (spot.Permanent (Some o)) ss vs ds → all_weights f vs ≡ 0
  none_inside o ss [] ds low h = refl
  none_inside o ss (v ∷ vs) ds low h =
      let a = type_none o v.ty (each_left (λ (c : Contained). c.system < bound) (contained_of v.ty) (all_contained vs) low) h.belongs.owned in
      let b = none_inside o ss vs h.after (each_right (λ (c : Contained). c.system < bound) (contained_of v.ty) (all_contained vs) low) h.rest in
      omega (arith, a, b)

  -- ---- in the program

  module _ (ss : Shapes) where
    component_weighs : (n : ℕ) (u : ValueType) → n < bound → TypeIs (W tokens ss) (named.component_of n) u → (variable_census u ss).processes ≤ 8192 → f n ≤ (variable_census u ss).processes
    component_weighs n u lt h few =
        let d : SystemThere (tokens.systems n) ss = h.there in
        let same : (variable_census u ss).processes ≡ 1 * process_weight h.kind =
        ap (λ (v : ValueType). (variable_census v ss).processes) h.is ∙ ap (λ o. (component_census 1 h.kind o).processes) d.there ∙ process_count 1 h.kind d.names d.heading d.census d.need in
        let own : process_weight h.kind ≡ process_weight (tokens.kinds n) = ap process_weight h.own in
        let all = one n lt in
        let single = one-mul (process_weight h.kind) in
        omega (arith, same, own, all, single)

    array_weighs : (r : named.Range) (n : ℕ) (u : ValueType) → n < bound → TypeIs (W tokens ss) (named.array_over r (named.component_of n)) u → (variable_census u ss).processes ≤ 8192 → length_of_range r * f n ≤ (variable_census u ss).processes
    array_weighs r n u lt h few =
        let d : SystemThere (tokens.systems n) ss = h.belongs.there in
        let k : SystemKind = h.belongs.kind in
        let m : ℕ = count_of h.shape.index in
        let same : (variable_census u ss).processes ≡ m * process_weight k =
        ap (λ (v : ValueType). (variable_census v ss).processes) h.is ∙ ap (λ o. (array_census o ss).processes) h.there ∙ ap (λ (v : ValueType). (element_census h.shape v ss).processes) h.belongs.is
        ∙ ap (λ o. (component_census m k o).processes) d.there ∙ process_count m k d.names d.heading d.census d.need in
        let own : process_weight k ≡ process_weight (tokens.kinds n) = ap process_weight h.belongs.own in
        let each = one n lt in
        let all = several (length_of_range r) m (f n) k (values_few tokens r h.shape.index h.range) (omega (arith, own, each)) (omega (arith, same, few)) in
        omega (arith, same, all)

    type_weighs : (t : Ty) (u : ValueType) → AreLow bound (contained_of t) → TypeIs (W tokens ss) t u → (variable_census u ss).processes ≤ 8192 → weight_of f t ≤ (variable_census u ss).processes
    type_weighs (named.component_of n) u low h few = component_weighs n u low.0 h few
    type_weighs (named.array_over r (named.component_of n)) u low h few = array_weighs r n u low.0 h few
    type_weighs x u low h few = omega arith

    all_weigh : (vs : List Variable) → AreLow bound (all_contained vs) → Each (Weighs (λ c. c.processes) (λ a b. refl) ss tokens (spot.Permanent None) f) vs
    all_weigh [] low = tt
    all_weigh (v ∷ vs) low = (
      λ u h few. type_weighs v.ty u (each_left (λ (c : Contained). c.system < bound) (contained_of v.ty) (all_contained vs) low) h.belongs few,
      all_weigh vs (each_right (λ (c : Contained). c.system < bound) (contained_of v.ty) (all_contained vs) low),
    )

    variables_few : (vs : List Variable) (ds : Names) → AreLow bound (all_contained vs) → Declares tokens (spot.Permanent None) ss vs ds → (census ds ss).processes ≤ 8192 → all_weights f vs ≤ (census ds ss).processes
    variables_few vs ds low h few =
        let all = names_weigh (λ c. c.processes) (λ a b. refl) ss tokens (spot.Permanent None) f no_census vs ds h (all_weigh vs low) few in
        omega (arith, all)

-- ---- all system types

module _ (tokens : Tokens) (p : Program) (ss : Shapes) (count : ℕ) (counted : AreCounted tokens p ss count) (low : (k : ℕ) → AreLow k (all_contained (system_of p k).variables)) where
  system_weighs : (depth n : ℕ) → n < count → whole_weight p (weight_by tokens) depth n ≤ process_weight (tokens.kinds n)
  unfolding whole_weight
  system_weighs zero n lt = omega arith
  system_weighs (suc depth) n lt =
      let c : Counted tokens p n ss = counted n lt in
      let none = none_inside tokens (whole_weight p (weight_by tokens) depth) n (λ j less. system_weighs depth j (omega (arith, less, lt))) (system_of p n).kind c.within (system_of p n).variables c.there.names.names (low n) c.declares in
      omega (arith, none)

  pub program_weighs : (vs : List Variable) (ds : Names) → AreLow count (all_contained vs) → Declares tokens (spot.Permanent None) ss vs ds → (depth : ℕ) → (census ds ss).processes ≤ 8192 → all_weights (whole_weight p (weight_by tokens) depth) vs ≤ (census ds ss).processes
  program_weighs vs ds below h depth few = variables_few tokens (whole_weight p (weight_by tokens) depth) count (λ n lt. system_weighs depth n lt) ss vs ds below h few

-- ---- what is listed

module _ (p : Program) (ts : Compounds) (ss : List System) (o : Owned) (last : ℕ) where
  abbrev own_weight : ℕ → ℕ
  own_weight k = process_weight (system_of p k).kind

  step_processes : (c : Listing) (n : ℕ) → length (step p ts ss o last c n).processes ≡ length c.processes + own_weight n
  step_processes c n = go (system_of p n).kind
    where
      go : (k : SystemKind) → length (with_component (next_kind c k (initial_at p ts ss o last n)).1 (next_kind c k (initial_at p ts ss o last n)).0 (image_at p ts ss o last n) n).processes ≡ length c.processes + process_weight k
      go system_kind.Class = omega arith
      go system_kind.Monitor = omega arith
      go system_kind.Process = length-append c.processes (process_at (length c.components) (initial_at p ts ss o last n) ∷ [])

  pub steps_processes : (c : Listing) (xs : List Listed) → length (steps p ts ss o last c xs).processes ≡ length c.processes + weight own_weight xs
  steps_processes c [] = omega arith
  steps_processes c (x ∷ xs) =
      let a = step_processes c x.system in
      let b = steps_processes (step p ts ss o last c x.system) xs in
      omega (arith, a, b)
