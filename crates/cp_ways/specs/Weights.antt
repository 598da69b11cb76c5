-- Sums over ways on, whatever each outcome weighs.
use Rattle.std.specs.Prelude.{◌≡◌, ◌+◌, ◌*◌, ◌∷◌, ◌++◌, ℕ, List, All, length, sum_by}
use Rattle.cp_machine.specs.System.{Machine}
use Rattle.cp_machine.specs.declared.shown.Shown.{Shown}
use Rattle.cp_key.specs.Key.{core_key}
use Rattle.cp_run.specs.Run.{Node, Choosing}
use Rattle.cp_run.specs.System.{System}
use Rattle.cp_run.specs.Table.{Line}
use Rattle.cp_run.specs.declared.outcome.Outcome.{Outcome}
use Rattle.cp_merged.specs.declared.end_key.EndKey.{EndKey}
use Rattle.cp_walk.specs.Walk.{walk}
use Rattle.cp_ways.specs.Ways.{since}
use Rattle.cp_key.specs.declared.state_key.StateKey.{StateKey}
use Rattle.cp_ways.specs.declared.ways.Ways.{Ways}

-- an outcome behind values that are displayed before
abbrev pub after : List Shown → Outcome → Outcome
after shown o = record { kind = o.kind; output = shown ++ o.output }

-- how much ways on weigh
abbrev pub weight : (Outcome → ℕ) → List (EndKey × ℕ) → ℕ
weight f ways = sum_by (λ w. w.1 * f w.0.outcome) ways

-- how many they are
abbrev pub total : List (EndKey × ℕ) → ℕ
total ways = sum_by (λ w. w.1) ways

-- how much rows weigh
abbrev pub weight_of : (Outcome → ℕ) → List Line → ℕ
weight_of f rows = sum_by (λ l. f l.outcome) rows

-- ways on that weigh what rows weigh, whose outcomes are told so
abbrev pub WeighAs : (Outcome → Outcome) → List Line → List (EndKey × ℕ) → Type 0
WeighAs told rows ways = (f : Outcome → ℕ) → weight f ways ≡ weight_of (λ o. f (told o)) rows

-- the same, where they are added to others
abbrev pub Adds : (Outcome → Outcome) → List Line → List (EndKey × ℕ) → List (EndKey × ℕ) → Type 0
Adds told rows old new = (f : Outcome → ℕ) → weight f new ≡ weight f old + weight_of (λ o. f (told o)) rows

-- what is known: the ways on from some state with so many choices left
pub record IsKnown (sys : System Machine) (steps : ℕ) (e : StateKey × Ways) : Type 0 where
  pub state : Machine
  pub left : ℕ
  pub key : e.0.bytes.items ≡ left ∷ core_key state
  pub ways : WeighAs (since (length (sys.output state))) (walk sys steps left (Choosing state)) e.1.list.entries

abbrev pub AreKnown : System Machine → ℕ → List (StateKey × Ways) → Type 0
AreKnown sys steps entries = All (IsKnown sys steps) entries
