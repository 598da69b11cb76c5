-- What is asked of a quiet step beside a step of another ready process.
use Rattle.cp_at_once_laws.proofs.Words.{◌≡◌, ◌≢◌, ℕ, Program, ready, process_at, State}
use Rattle.cp_at_once_laws.proofs.pairs.Fit.{Fits}
pub use Rattle.cp_at_once_laws.proofs.pairs.Beside.{QuietHere, Beside}
pub use Rattle.cp_at_once_laws.proofs.pairs.Shape.{is_failure}

abbrev pub BesideLaw : Program → Type 0
BesideLaw p = (s : State) (a b : ℕ) → Fits p s → a ≢ b → (process_at s.processes a).status ≡ ready → (process_at s.processes b).status ≡ ready → QuietHere p s a → Beside p s a b
