-- When a layer has too many states, or the complete words too many outcomes.
use Rattle.std.specs.Prelude.{◌≡◌, ◌≢◌, ◌+◌, ◌<◌, ◌≤◌, ℕ, List, [], ◌∷◌, length, All, Contains, Option, None, Some, if◌then◌else◌}
use Rattle.std.specs.List.{AllPairs}
use Rattle.cp_run.specs.declared.outcome.Outcome.{Outcome}
use Rattle.cp_run.specs.System.{System}
use Rattle.cp_run.specs.Run.{Node, Halted, Choosing, may, chosen, opened}
use Rattle.cp_run.specs.Table.{Line, table}
use Rattle.cp_merged.specs.declared.fault.MergeFault.{MergeFault}
use Rattle.cp_merged.specs.declared.fault.MergeFault.TheVariants.{Memory, TooManyStates, TooManyOutcomes}

-- there are more than n different values of which P holds
abbrev pub MoreThan : {A : Type 0} → ℕ → (A → Type 0) → Type 0
MoreThan {A} n P = (xs : List A) × (length xs ≡ n + 1) × AllPairs (λ x y. x ≢ y) xs × All P xs

-- where a word leads to from a node, if each of its numbers may be chosen
abbrev pub node_after : {S : Type 0} → System S → ℕ → Node S → List ℕ → Option (Node S)
node_after sys steps node [] = Some node
node_after sys steps (Halted kind s) (p ∷ word) = None
node_after sys steps (Choosing s) (p ∷ word) = if may sys s p then node_after sys steps (chosen sys steps s p) word else None

-- a state of layer d: some word of d numbers leads to it, and a choice is due there
abbrev pub IsInLayer : {S : Type 0} → System S → ℕ → ℕ → S → Type 0
IsInLayer sys steps d s = (word : List ℕ) × (length word ≡ d) × (node_after sys steps (opened sys steps) word ≡ Some (Choosing s))

-- the outcome of some complete word of at most d numbers
abbrev pub IsEndWithin : {S : Type 0} → System S → ℕ → ℕ → ℕ → Outcome → Type 0
IsEndWithin sys choices steps d o = (l : Line) × Contains (table sys choices steps) l × (length l.word ≤ d) × (l.outcome ≡ o)

abbrev pub HasTooManyStates : {S : Type 0} → System S → ℕ → ℕ → ℕ → Type 0
HasTooManyStates sys steps most d = MoreThan most (IsInLayer sys steps d)

abbrev pub HasTooManyOutcomes : {S : Type 0} → System S → ℕ → ℕ → ℕ → Type 0
HasTooManyOutcomes sys choices steps d = MoreThan 50000 (IsEndWithin sys choices steps d)

-- no layer before n has too many states, and up to none of them there are too many outcomes
abbrev pub FitsBefore : {S : Type 0} → System S → ℕ → ℕ → ℕ → ℕ → Type 0
FitsBefore sys choices steps most n = (d : ℕ) → d < n → (HasTooManyStates sys steps most d → ⊥) × (HasTooManyOutcomes sys choices steps d → ⊥)

-- a fault comes at the first layer where something is too many; at one layer states come first
abbrev pub IsDueFault : {S : Type 0} → System S → ℕ → ℕ → ℕ → MergeFault → Type 0
IsDueFault sys choices steps most Memory = Unit {0}
IsDueFault sys choices steps most TooManyStates = (d : ℕ) × (d ≤ choices) × FitsBefore sys choices steps most d × HasTooManyStates sys steps most d
IsDueFault sys choices steps most TooManyOutcomes = (d : ℕ) × (d ≤ choices) × FitsBefore sys choices steps most d × (HasTooManyStates sys steps most d → ⊥) × HasTooManyOutcomes sys choices steps d
