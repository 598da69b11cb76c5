-- How many components there are of each system type, and that what the checker counts is no less, as long as it is few.
use Rattle.std.proofs.Common.{◌≡◌, ◌+◌, ◌*◌, ◌<◌, ◌≤◌, ℕ, zero, suc, ℤ, pos, negsuc, List, [], ◌∷◌, ◌++◌, Some, None, refl, sym, ap, ◌∙◌, arith}
use Rattle.cp_resolved.proofs.Words.{min, ◌+ℤ◌, ◌-ℤ◌, unsigned_abs, mul-le, SystemKind, Program, Range, ValueType, Census, Spot, Contained, Name, Ty, natural_of}
use Rattle.cp_resolved.proofs.Words.{length_of_range, Variable, system_of, Each, Tokens, RangeIs, TypeIs, SystemThere}
use Rattle.std.proofs.Math.IntN.{+ℤ_one}
use Rattle.std.proofs.Math.Nat.{le-mul_of_pos_right, suc-mul, one-mul}
use Rattle.cp_tree.specs.declared.declaration.SystemKind.TheVariants as system_kind
use Rattle.cp_scope.specs.declared.types.Meaning.TheVariants as meaning
use Rattle.cp_scope.specs.Counts.{plus, times}
use Rattle.cp_scope.specs.Scopes.{Names, Scope, Heading, Shapes, system_shape, count_of, both_census, component_census, element_census, array_census, variable_census, census_of, census_from, census, no_census}
use Rattle.cp_check.specs.declared.types.Spot.TheVariants as spot
use Rattle.cp_meaning.specs.Types as named
use Rattle.cp_meaning.specs.Components.{Path, Listed, step_down, listed_elements, listed_variable, listed_variables, listed}
use Rattle.cp_resolved.proofs.agreeing.AgreeingNames.{W}
use Rattle.cp_resolved.proofs.agreeing.AgreeingTypes.{TypedAs}
use Rattle.cp_resolved.proofs.agreeing.AgreeingWritten.{each_left, each_right}
use Rattle.cp_resolved.proofs.agreeing.VariablesAmongNames.{Declares, Counted, AreCounted}
use Rattle.cp_resolved.proofs.systems.OwnedParts.{contained_of, all_contained, AreLow}

-- ---- components that are listed, each with its weight

abbrev pub weight : (ℕ → ℕ) → List Listed → ℕ
weight g [] = 0
weight g (x ∷ xs) = g x.system + weight g xs

weight_append : (g : ℕ → ℕ) (xs ys : List Listed) → weight g (xs ++ ys) ≡ weight g xs + weight g ys
weight_append g [] ys = omega arith
weight_append g (x ∷ xs) ys = let a = weight_append g xs ys in omega (arith, a)

-- the weight of the components of a variable, by that of one of each system type
abbrev pub weight_of : (ℕ → ℕ) → Ty → ℕ
weight_of f (named.component_of n) = f n
weight_of f (named.array_over r (named.component_of n)) = length_of_range r * f n
weight_of f t = 0

abbrev pub all_weights : (ℕ → ℕ) → List Variable → ℕ
all_weights f [] = 0
all_weights f (v ∷ vs) = weight_of f v.ty + all_weights f vs

module _ (g f : ℕ → ℕ) (inner : ℕ → Path → List Listed) (one : (n : ℕ) (path : Path) → weight g (inner n path) ≡ f n) where
  elements_weigh : (above : Path) (x : Name) (j count n : ℕ) → weight g (listed_elements (inner j) above x count n) ≡ count * f j
  elements_weigh above x j zero n = omega arith
  elements_weigh above x j (suc count) n =
      let a = weight_append g (inner j (step_down above x (Some n))) (listed_elements (inner j) above x count (suc n)) in
      let b = one j (step_down above x (Some n)) in
      let c = elements_weigh above x j count (suc n) in
      let d = suc-mul count (f j) in
      omega (arith, a, b, c, d)

  variable_weighs : (above : Path) (x : Name) (t : Ty) → weight g (listed_variable inner above x t) ≡ weight_of f t
  variable_weighs above x (named.component_of j) = one j (step_down above x None)
  variable_weighs above x (named.array_over r (named.component_of j)) = elements_weigh above x j (length_of_range r) 0
  variable_weighs above x _ = refl

  pub variables_weigh : (above : Path) (vs : List Variable) → weight g (listed_variables inner above vs) ≡ all_weights f vs
  variables_weigh above [] = refl
  variables_weigh above (v ∷ vs) =
      let a = weight_append g (listed_variable inner above v.name v.ty) (listed_variables inner above vs) in
      let b = variable_weighs above v.name v.ty in
      let c = variables_weigh above vs in
      omega (arith, a, b, c)

-- the weight of a component with all that it contains
unfoldable pub whole_weight : Program → (ℕ → ℕ) → (depth : ℕ) → ℕ → ℕ
whole_weight p g zero k = 0
whole_weight p g (suc depth) k = g k + all_weights (whole_weight p g depth) (system_of p k).variables

pub listed_weigh : (p : Program) (g : ℕ → ℕ) (depth k : ℕ) (path : Path) → weight g (listed p depth k path) ≡ whole_weight p g depth k
unfolding whole_weight
listed_weigh p g zero k path = refl
listed_weigh p g (suc depth) k path =
    let a = variables_weigh g (whole_weight p g depth) (listed p depth) (λ n q. listed_weigh p g depth n q) path (system_of p k).variables in
    omega (arith, a)

-- ---- a count of the checker over names

-- what is counted of two is the sum
abbrev pub Adds : (Census → ℕ) → Type 0
Adds pick = (a b : Census) → pick (both_census a b) ≡ plus (pick a) (pick b)

module _ (pick : Census → ℕ) (adds : Adds pick) (ss : Shapes) where
  names_grow : (total : Census) (ds : Names) → min (pick total) 8193 ≤ pick (census_from total ds ss)
  unfolding census_from
  names_grow total [] = omega arith
  names_grow total (d ∷ ds) =
      let a = names_grow (both_census total (census_of d.1 ss)) ds in
      let b : pick (both_census total (census_of d.1 ss)) ≡ min (pick total + pick (census_of d.1 ss)) 8193 = adds total (census_of d.1 ss) in
      omega (arith, a, b)

  names_then : (total : Census) (ds es : Names) → census_from total (ds ++ es) ss ≡ census_from (census_from total ds ss) es ss
  unfolding census_from
  names_then total [] es = refl
  names_then total (d ∷ ds) es = names_then (both_census total (census_of d.1 ss)) ds es

  module _ (tokens : Tokens) (q : Spot) (f : ℕ → ℕ) where
    -- where the count is few, it is no less than the weight
    abbrev pub Weighs : Variable → Type 0
    Weighs v = (u : ValueType) → TypedAs tokens ss q v.ty u → pick (variable_census u ss) ≤ 8192 → weight_of f v.ty ≤ pick (variable_census u ss)

    pub names_weigh : (total : Census) (vs : List Variable) (ds : Names) → Declares tokens q ss vs ds → Each Weighs vs → pick (census_from total ds ss) ≤ 8192 → pick total + all_weights f vs ≤ pick (census_from total ds ss)
    unfolding census_from
    names_weigh total [] ds h w few = let a = names_grow total ds in omega (arith, a, few)
    names_weigh total (v ∷ vs) ds h w few =
        let first : Census = census_from total h.before ss in
        let c : Census = variable_census h.value_type ss in
        let split : census_from total ds ss ≡ census_from (both_census first c) h.after ss = ap (λ (ns : Names). census_from total ns ss) h.is ∙ names_then total h.before ((v.name, Some (meaning.Variable h.value_type)) ∷ h.after) in
        let same : pick (census_from total ds ss) ≡ pick (census_from (both_census first c) h.after ss) = ap pick split in
        let fewer : pick (census_from (both_census first c) h.after ss) ≤ 8192 = omega (arith, same, few) in
        let rest = names_weigh (both_census first c) vs h.after h.rest w.1 fewer in
        let both : pick (both_census first c) ≡ min (pick first + pick c) 8193 = adds first c in
        let start = names_grow total h.before in
        let own = w.0 h.value_type h.belongs (omega (arith, both, rest, fewer)) in
        omega (arith, same, few, rest, both, start, own)

-- ---- components of a system type

component_count : (m : ℕ) (k : SystemKind) (names : Scope) (h : Heading) (c : Census) (need : ℕ) → (component_census m k (Some (system_shape names h c need))).components ≡ times m (plus c.components 1)
component_count m system_kind.Class names h c need = refl
component_count m _ names h c need = refl

one_more : (z : ℤ) → natural_of (z +ℤ pos 1) ≤ unsigned_abs z + 1
one_more (negsuc (suc n)) =
    let e : natural_of (negsuc (suc n) +ℤ pos 1) ≡ 0 = ap natural_of (+ℤ_one (negsuc (suc n))) in
    omega (arith, e)
one_more x = omega arith

pub values_few : (k : Tokens) (q : named.Range) (r : Range) → RangeIs k q r → min (length_of_range q) 8193 ≤ count_of r
values_few k q r h =
    let same : count_of r ≡ min (unsigned_abs (q.high -ℤ q.low) + 1) 8193 = ap (λ z. min (unsigned_abs (z -ℤ r.low) + 1) 8193) h.high ∙ ap (λ z. min (unsigned_abs (q.high -ℤ z) + 1) 8193) h.low in
    let less = one_more (q.high -ℤ q.low) in
    omega (arith, same, less)

-- as many as there are elements, by how many each has
product_few : (l m x s : ℕ) → min l 8193 ≤ m → 1 ≤ x → (x ≤ 8192 → s ≤ x) → min (m * x) 8193 ≤ 8192 → l * s ≤ min (m * x) 8193
product_few zero m x s h some g few = omega arith
product_few (suc l) m x s h some g few =
    let n : ℕ = m * x in
    let positive : 1 ≤ m = omega (arith, h) in
    let one : m ≤ n = le-mul_of_pos_right m some in
    let other : 1 * x ≤ n = mul-le 1 x m x positive (omega arith) in
    let single : 1 * x ≡ x = one-mul x in
    let bound : n ≤ 8192 = omega (arith, few) in
    let less : suc l ≤ m = omega (arith, h, one, bound) in
    let all : suc l * s ≤ n = mul-le (suc l) s m x less (g (omega (arith, other, single, bound))) in
    omega (arith, all, bound)

module _ (tokens : Tokens) (q : Spot) (ss : Shapes) (f : ℕ → ℕ) (bound : ℕ) (one : (n : ℕ) → n < bound → (d : SystemThere (tokens.systems n) ss) → d.census.components ≤ 8192 → f n ≤ d.census.components + 1) where
  several : (l m n : ℕ) (d : SystemThere (tokens.systems n) ss) → n < bound → min l 8193 ≤ m → times m (plus d.census.components 1) ≤ 8192 → l * f n ≤ times m (plus d.census.components 1)
  several l m n d lt h few =
      product_few l m (plus d.census.components 1) (f n) h (omega arith)
      (λ le. let own = one n lt d (omega (arith, le)) in omega (arith, own, le)) few

  component_weighs : (n : ℕ) (u : ValueType) → n < bound → TypeIs (W tokens ss) (named.component_of n) u → (variable_census u ss).components ≤ 8192 → f n ≤ (variable_census u ss).components
  component_weighs n u lt h few =
      let d : SystemThere (tokens.systems n) ss = h.there in
      let same : (variable_census u ss).components ≡ times 1 (plus d.census.components 1) =
      ap (λ (v : ValueType). (variable_census v ss).components) h.is ∙ ap (λ o. (component_census 1 h.kind o).components) d.there ∙ component_count 1 h.kind d.names d.heading d.census d.need in
      let all = several 1 1 n d lt (omega arith) (omega (arith, same, few)) in
      let single : 1 * f n ≡ f n = one-mul (f n) in
      omega (arith, same, all, single)

  array_weighs : (r : named.Range) (n : ℕ) (u : ValueType) → n < bound → TypeIs (W tokens ss) (named.array_over r (named.component_of n)) u → (variable_census u ss).components ≤ 8192 → length_of_range r * f n ≤ (variable_census u ss).components
  array_weighs r n u lt h few =
      let d : SystemThere (tokens.systems n) ss = h.belongs.there in
      let m : ℕ = count_of h.shape.index in
      let same : (variable_census u ss).components ≡ times m (plus d.census.components 1) =
      ap (λ (v : ValueType). (variable_census v ss).components) h.is ∙ ap (λ o. (array_census o ss).components) h.there ∙ ap (λ (v : ValueType). (element_census h.shape v ss).components) h.belongs.is
      ∙ ap (λ o. (component_census m h.belongs.kind o).components) d.there ∙ component_count m h.belongs.kind d.names d.heading d.census d.need in
      let all = several (length_of_range r) m n d lt (values_few tokens r h.shape.index h.range) (omega (arith, same, few)) in
      omega (arith, same, all)

  type_weighs : (t : Ty) (u : ValueType) → AreLow bound (contained_of t) → TypeIs (W tokens ss) t u → (variable_census u ss).components ≤ 8192 → weight_of f t ≤ (variable_census u ss).components
  type_weighs (named.component_of n) u low h few = component_weighs n u low.0 h few
  type_weighs (named.array_over r (named.component_of n)) u low h few = array_weighs r n u low.0 h few
  type_weighs x u low h few = omega arith

  all_weigh : (vs : List Variable) → AreLow bound (all_contained vs) → Each (Weighs (λ c. c.components) (λ a b. refl) ss tokens q f) vs
  all_weigh [] low = tt
  all_weigh (v ∷ vs) low =
      (λ u h few. type_weighs v.ty u (each_left (λ (c : Contained). c.system < bound) (contained_of v.ty) (all_contained vs) low) h.belongs few, all_weigh vs (each_right (λ (c : Contained). c.system < bound) (contained_of v.ty) (all_contained vs) low))

  pub variables_few : (vs : List Variable) (ds : Names) → AreLow bound (all_contained vs) → Declares tokens q ss vs ds → (census ds ss).components ≤ 8192 → all_weights f vs ≤ (census ds ss).components
  variables_few vs ds low h few =
      let all = names_weigh (λ c. c.components) (λ a b. refl) ss tokens q f no_census vs ds h (all_weigh vs low) few in
      omega (arith, all)

-- ---- all system types

module _ (tokens : Tokens) (p : Program) (ss : Shapes) (count : ℕ) (counted : AreCounted tokens p ss count) (low : (k : ℕ) → AreLow k (all_contained (system_of p k).variables)) where
  same_census : (a b : Scope) (g h : Heading) (c e : Census) (m n : ℕ) → Some (system_shape a g c m) ≡ Some (system_shape b h e n) → c ≡ e
  same_census a b g h c e m n i = cc

  one_census : (k : ℕ) (c d : SystemThere (tokens.systems k) ss) → c.census ≡ d.census
  one_census k c d = same_census c.names d.names c.heading d.heading c.census d.census c.need d.need (sym c.there ∙ d.there)

  pub system_few : (depth n : ℕ) → n < count → (d : SystemThere (tokens.systems n) ss) → d.census.components ≤ 8192 → whole_weight p (λ k. 1) depth n ≤ d.census.components + 1
  unfolding whole_weight
  system_few zero n lt d few = omega arith
  system_few (suc depth) n lt d few =
      let c : Counted tokens p n ss = counted n lt in
      let same : (census c.there.names.names c.within).components ≡ d.census.components = ap (λ (x : Census). x.components) (sym c.is ∙ one_census n c.there d) in
      let f : ℕ → ℕ = whole_weight p (λ k. 1) depth in
      let inner : (j : ℕ) → j < n → (e : SystemThere (tokens.systems j) c.within) → e.census.components ≤ 8192 → f j ≤ e.census.components + 1 =
      (λ j less e fewer. system_few depth j (omega (arith, less, lt)) (record { names = e.names; heading = e.heading; census = e.census; need = e.need; there = c.more (tokens.systems j) (system_shape e.names e.heading e.census e.need) e.there }) fewer) in
      let all : all_weights f (system_of p n).variables ≤ (census c.there.names.names c.within).components = variables_few tokens (spot.Permanent (Some (system_of p n).kind)) c.within f n inner (system_of p n).variables c.there.names.names (low n) c.declares (omega (arith, same, few)) in
      omega (arith, all, same)

  -- the program and all components in it
  pub program_few : (q : Spot) (vs : List Variable) (ds : Names) → AreLow count (all_contained vs) → Declares tokens q ss vs ds → (depth : ℕ) → (census ds ss).components ≤ 8192 → all_weights (whole_weight p (λ k. 1) depth) vs ≤ (census ds ss).components
  program_few q vs ds below h depth few = variables_few tokens q ss (whole_weight p (λ k. 1) depth) count (λ n lt d fewer. system_few depth n lt d fewer) vs ds below h few
