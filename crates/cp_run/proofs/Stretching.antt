-- One step of a stretch.
use Rattle.std.proofs.Common.{◌≡◌, ℕ, ◌<◌, true, false, if◌then◌else◌, ap, sym, ◌∙◌}
use Rattle.cp_run.proofs.Words.{Event, Local, Due, Goes, System, Halted, settled_turn, turn_after, stretch}
use Rattle.cp_run.specs.declared.outcome.OutcomeKind.TheVariants.{StepLimit}
use Rattle.cp_run.proofs.Wanting.{goes_on}

pub used_up : {S : Type 0} (sys : System S) (left : ℕ) (s : S) (p : ℕ) → left ≡ 0 → stretch sys left s p ≡ Halted StepLimit s
unfolding stretch
used_up sys left s p e = ap (λ k. stretch sys k s p) e

-- after a local step that leaves its process ready, and nothing pending, the process goes on
pub after_local : {S : Type 0} (sys : System S) (t : S) (p : ℕ) (e : Event) → e ≡ Local → p < sys.processes → sys.is_ready t p ≡ true → sys.is_pending t ≡ false → Goes p ≡ turn_after sys t p e
after_local sys t p e is lt ready still =
    sym (ap (turn_after sys t p) is ∙ ap (λ b. if b then Due else settled_turn sys t false p) still ∙ goes_on sys t p lt ready)
