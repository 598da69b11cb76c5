-- What is known of the nodes that were walked.
use Rattle.std.specs.Prelude.{◌≡◌, ◌<◌, ◌≤◌, ◌+◌, ◌-◌, ◌++◌, ◌∷◌, ℕ, List, map, length, take, drop, All}
use Rattle.cp_machine.specs.declared.shown.Shown.{Shown}
use Rattle.cp_machine.specs.System.{Machine}
use Rattle.cp_key.specs.Key.{core_key}
use Rattle.cp_run.specs.System.{System}
use Rattle.cp_run.specs.Run.{Choosing}
use Rattle.cp_run.specs.Table.{Line}
use Rattle.cp_walk.specs.Walk.{behind, walk}
use Rattle.cp_walk.specs.declared.memo.NodeKey.{NodeKey}
use Rattle.cp_walk.specs.declared.memo.Span.{Span}

-- the rows from one place up to another
abbrev pub within_span : Span → List Line → List Line
within_span span rows = take (span.end - span.first) (drop span.first rows)

-- these rows are those of a node that was walked: its key is the number of choices that were left, and then that of the core of its state
pub record IsWalked (sys : System Machine) (steps choices : ℕ) (rows : List Line) (e : NodeKey × Span) : Type 0 where
  pub state : Machine
  pub left : ℕ
  pub before : List ℕ
  pub key : e.0.bytes.items ≡ left ∷ core_key state
  pub word : length before + left ≡ choices
  pub some : e.1.first < e.1.end
  pub within : e.1.end ≤ length rows
  pub same : within_span e.1 rows ≡ map (behind before) (walk sys steps left (Choosing state))

abbrev pub AreWalked : System Machine → ℕ → ℕ → List Line → List (NodeKey × Span) → Type 0
AreWalked sys steps choices rows nodes = All (IsWalked sys steps choices rows) nodes

-- a row, with the beginning of its word and of what was displayed changed
abbrev pub begun : List ℕ → List Shown → Line → Line
begun word output l =
    record {
      word = word ++ drop (length word) l.word;
      outcome = record { kind = l.outcome.kind; output = output ++ drop (length output) l.outcome.output };
    }
