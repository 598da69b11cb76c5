-- What is known of a program, and of each of its states that is met.
use Rattle.cp_at_once_laws.proofs.Words.{◌≡◌, ℕ, ◌<◌, ◌⊎◌, List, [], length, None, Program, Component, unstarted, delayed, Process, process_at, book_discipline, State}
use Rattle.cp_at_once_laws.proofs.Words.{first_components, frames, entry_in, initial_in, kind_at, IsMonitor, Known, OrderlyState, OwnedState, true}
use Rattle.cp_tree.specs.declared.declaration.SystemKind.TheVariants as system_kind
pub use Rattle.cp_at_once_laws.proofs.rules.StartsKnown.{HasNoProcess, StartsKnown}

-- who is delayed in a monitor has an open entry of it or initialises it; and who is unstarted has no open call
pub record Waits (cs : List Component) (x : Process) : Type 0 where
  pub delayed_inside : (m : ℕ) → IsMonitor cs m → x.status ≡ delayed m → (entry_in m (frames x.calls) ≡ true) ⊎ (initial_in m (frames x.calls) ≡ true)
  pub unstarted_outside : x.status ≡ unstarted → x.calls ≡ []

abbrev pub Waiting : State → Type 0
Waiting s = (q : ℕ) → Waits s.components (process_at s.processes q)

-- no component knows a process
abbrev pub ProcessesUnknown : Program → State → Type 0
ProcessesUnknown p s = Known (λ n d. d < length (first_components p) → kind_at (first_components p) d ≡ system_kind.Process → ⊥) s.components

pub record Fits (p : Program) (s : State) : Type 0 where
  pub first : s.discipline ≡ book_discipline
  pub free : s.pending ≡ None
  pub shown : s.output ≡ []
  pub owned : OwnedState (first_components p) s
  pub orderly : OrderlyState s
  pub waits : Waiting s
  pub unknown : ProcessesUnknown p s
  -- two processes are of two components
  pub several : (q r : ℕ) → q < length s.processes → r < length s.processes → (process_at s.processes q).component ≡ (process_at s.processes r).component → q ≡ r
  pub kinds : (q : ℕ) → q < length s.processes → kind_at (first_components p) (process_at s.processes q).component ≡ system_kind.Process
