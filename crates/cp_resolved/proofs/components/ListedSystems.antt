-- Each component of a program is of one of its system types.
use Rattle.std.proofs.Common.{◌≡◌, ◌+◌, ◌<◌, ◌≤◌, ℕ, zero, suc, List, [], ◌∷◌, ◌++◌, length, Some, None, slice_get, ap, ◌∙◌, ◌⊎◌, inl, inr, arith}
use Rattle.cp_resolved.proofs.Words.{length-map, none-some, same_Some, Program, Tree, Tables, component_at, Name, Ty, array_over, component_of}
use Rattle.cp_resolved.proofs.Words.{length_of_range, Variable, program_system, system_of, first_component, first_components, ground_of, Stands, layouts_of}
use Rattle.cp_meaning_laws.proofs.Earlier.{TyBelow, VariablesBelow, systems_below}
use Rattle.cp_meaning.specs.Components.{Path, Listed, step_down, listed_elements, listed_variable, listed_variables, listed, components_of}
use Rattle.cp_meaning.specs.State as named
use Rattle.cp_resolved.proofs.components.ComponentsStand.{map_there}
use Rattle.cp_resolved.proofs.names.Entries.{there, entry_at}
use Rattle.cp_resolved.proofs.components.Subtrees.{either_place}

-- those that are listed here are of system types before one
abbrev AreBelow : ℕ → List Listed → Type 0
AreBelow k xs = (i : ℕ) (z : Listed) → slice_get xs i ≡ Some z → z.system < k

none_below : (k : ℕ) → AreBelow k []
none_below k i z e = absurd (none-some z e)

both_below : (k : ℕ) (xs ys : List Listed) → AreBelow k xs → AreBelow k ys → AreBelow k (xs ++ ys)
both_below k xs ys f g i z e = go (either_place xs ys i z e)
  where
    go : (slice_get xs i ≡ Some z) ⊎ ((m : ℕ) × (i ≡ length xs + m) × (slice_get ys m ≡ Some z)) → z.system < k
    go (inl h) = f i z h
    go (inr h) = g h.0 z h.2

module _ (inner : ℕ → Path → List Listed) (k : ℕ) (low : (j : ℕ) → j < k → (path : Path) → AreBelow k (inner j path)) where
  elements_below : (j : ℕ) → j < k → (above : Path) (x : Name) (count n : ℕ) → AreBelow k (listed_elements (inner j) above x count n)
  elements_below j lt above x zero n = none_below k
  elements_below j lt above x (suc count) n = both_below k (inner j (step_down above x (Some n))) (listed_elements (inner j) above x count (suc n)) (low j lt (step_down above x (Some n))) (elements_below j lt above x count (suc n))

  variable_below : (above : Path) (x : Name) (u : Ty) → TyBelow k u → AreBelow k (listed_variable inner above x u)
  variable_below above x (component_of j) h = low j h (step_down above x None)
  variable_below above x (array_over q (component_of j)) h = elements_below j h above x (length_of_range q) 0
  variable_below above x _ h = none_below k

  variables_below : (above : Path) (vs : List Variable) → VariablesBelow k vs → AreBelow k (listed_variables inner above vs)
  variables_below above [] h = none_below k
  variables_below above (v ∷ vs) h = both_below k (listed_variable inner above v.name v.ty) (listed_variables inner above vs) (variable_below above v.name v.ty h.0) (variables_below above vs h.1)

listed_below : (p : Program) (depth k : ℕ) (path : Path) → AreBelow (suc k) (listed p depth k path)
listed_below p zero k path i z e = none_below (suc k) i z e
listed_below p (suc depth) k path zero z e =
    let own : Listed = record { path = path; system = k } in
    let same : k ≡ z.system = ap (λ (y : Listed). y.system) (same_Some own z e) in
    omega (arith, same)
listed_below p (suc depth) k path (suc i) z e =
    let lt : z.system < k = variables_below (listed p depth) k (λ j less q m y f. (let h : y.system < suc j = listed_below p depth j q m y f in omega (arith, h, less))) path (system_of p k).variables (systems_below p k).1 i z e in
    omega (arith, lt)

-- and those of tables that stand for it
pub systems_within : (t : Tree) (r : Tables) → Stands (ground_of r t) t (layouts_of t) → (n : ℕ) → n < length r.components → (component_at r n).system ≤ program_system t.program
systems_within t r s n lt =
    let p : Program = t.program in
    let many : length r.components ≡ length (components_of p) = s.count ∙ length-map (components_of p) (first_component p) in
    let y = there (components_of p) n (omega (arith, lt, many)) in
    let first : named.component_at (first_components p) n ≡ first_component p y.0 = entry_at (first_components p) n named.no_component (first_component p y.0) (map_there (first_component p) (components_of p) n y.0 y.1) in
    let same : (component_at r n).system ≡ y.0.system = (s.components n lt).system ∙ ap (λ (c : named.Component). c.system) first in
    let low : y.0.system < suc (program_system p) = listed_below p (suc (program_system p)) (program_system p) [] n y.0 y.1 in
    omega (arith, same, low)
