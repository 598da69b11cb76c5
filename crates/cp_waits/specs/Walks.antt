-- Walks along the edges of a graph.
use Rattle.std.specs.Prelude.{◌≡◌, ◌≤◌, ◌<◌, ℕ, zero, suc, List, [], ◌∷◌, map, length, Some, true, slice_get, slice_index}
use Rattle.std.specs.List.{AllByRecursion as Each}
use Rattle.cp_endless_laws.specs.Moments.{AnyOf}
use Rattle.cp_waits.specs.declared.graph.Edge.{Edge}
use Rattle.cp_waits.specs.declared.graph.Graph.{Graph}
use Rattle.cp_waits.specs.declared.passing.Keeping.{Keeping}
use Rattle.cp_waits.specs.declared.passing.Keeping.TheVariants.{Waiting, Inside}
use Rattle.cp_waits.specs.declared.set.Set.{Set}
use Rattle.cp_waits.specs.declared.trails.Trail.{Trail}
use Rattle.cp_waits.specs.Keeps.{keeps}
use Rattle.cp_waits.specs.Sets.{has}

-- the edges of a state stand from here to there
abbrev pub end_edge : Graph → ℕ → ℕ
end_edge g i = slice_index g.ends.items i

abbrev pub first_edge : Graph → ℕ → ℕ
first_edge g zero = 0
first_edge g (suc i) = end_edge g i

-- the state has this edge
abbrev pub IsEdge : Graph → ℕ → Edge → Type 0
IsEdge g i e = (k : ℕ) × (first_edge g i ≤ k) × (k < end_edge g i) × (slice_get g.edges.items k ≡ Some e)

-- the edges lead from a state to another one
abbrev pub IsWay : Graph → ℕ → List Edge → ℕ → Type 0
IsWay g i [] j = i ≡ j
IsWay g i (e ∷ way) j = (k : ℕ) × IsEdge g i e × (e.to ≡ Some k) × IsWay g k way j

-- who is asked to wait now and then does so on some edge
abbrev pub WaitsOnSome : Keeping → List Edge → Type 0
WaitsOnSome (Waiting q) way = Unit {0}
WaitsOnSome (Inside q) way = AnyOf (λ e. has e.passing.wait_once q ≡ true) way

-- The word leads from the state back to it, and may be gone for ever: on each edge the process keeps doing this, and each process is served on some.
pub record IsRound (g : Graph) (keeping : Keeping) (i : ℕ) (word : List ℕ) : Type 0 where
  pub way : List Edge
  pub numbers : map (λ e. e.number) way ≡ word
  pub some : 0 < length way
  pub back : IsWay g i way i
  pub keeps : Each (λ e. keeps keeping e.passing ≡ true) way
  pub fair : (q : ℕ) → q < g.processes → AnyOf (λ e. has e.passing.served q ≡ true) way
  pub waits : WaitsOnSome keeping way

-- ---- what was gone of a way

-- The way leads from the state along edges on which the process keeps doing this; those in the sets are served, or wait, on some of them.
pub record IsTrail (g : Graph) (keeping : Keeping) (i : ℕ) (trail : Trail) : Type 0 where
  pub way : List Edge
  pub numbers : map (λ e. e.number) way ≡ trail.word.items
  pub leads : IsWay g i way trail.state
  pub keeps : Each (λ e. keeps keeping e.passing ≡ true) way
  pub served : (q : ℕ) → has trail.served q ≡ true → AnyOf (λ e. has e.passing.served q ≡ true) way
  pub waited : (q : ℕ) → has trail.wait_once q ≡ true → AnyOf (λ e. has e.passing.wait_once q ≡ true) way

abbrev pub WaitedAlong : Keeping → Set → Type 0
WaitedAlong (Waiting q) wait_once = Unit {0}
WaitedAlong (Inside q) wait_once = has wait_once q ≡ true
