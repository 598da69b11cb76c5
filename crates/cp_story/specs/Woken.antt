-- Who goes on by a step, of those who are delayed.
use Rattle.std.specs.Prelude.{ℕ, ◌≡◌, true, false, Some}
use Rattle.cp_slots.specs.Tables.{Tables}
use Rattle.cp_machine.specs.declared.discipline.Signals.{Signals}
use Rattle.cp_machine.specs.declared.discipline.Signals.TheVariants as signals
use Rattle.cp_machine.specs.declared.event.Event.TheVariants.{Kernel}
use Rattle.cp_machine.specs.declared.event.Kernel.TheVariants.{Continue}
use Rattle.cp_machine.specs.Fits.{LinesFit}
use Rattle.cp_machine.specs.Machine.{Machine, is_ready, thread_at}
use Rattle.cp_machine.specs.Step.{step_at}
use Rattle.cp_story.specs.Aimed.{aim_in}
use Rattle.cp_story.specs.Story.{is_gated, is_queued}

-- Process q waited in the queue that process pid continues. It is ready; or it is at the gate and pid goes on; or it is ready and pid is at the gate.
abbrev pub IsServed : Signals → (before after : Machine) → (pid q : ℕ) → Type 0
IsServed signals.Return m t pid q = is_ready t q ≡ true
IsServed signals.Continue m t pid q = (is_gated (thread_at t.threads q).status ≡ true) × (is_ready m pid ≡ true → is_ready t pid ≡ true)
IsServed signals.Wait m t pid q = (is_ready t q ≡ true) × (is_ready m pid ≡ true → is_gated (thread_at t.threads pid).status ≡ true)

-- so it is, by the discipline, with who waits in the queue that a step continues
abbrev pub WokenLaw : Type 0
WokenLaw = (r : Tables) (m t : Machine) (pid q : ℕ) → step_at r m pid ≡ record { machine = t; event = Kernel Continue } → (aim_in r m pid).wakes ≡ Some q → IsServed m.discipline.signals m t pid q

-- and nobody else who is delayed before a step leaves its queue by it
abbrev pub DelayedLaw : Type 0
DelayedLaw = (r : Tables) (m : Machine) (pid q : ℕ) → LinesFit m → is_ready m pid ≡ true → is_queued (thread_at m.threads q).status ≡ true → is_queued (thread_at (step_at r m pid).machine.threads q).status ≡ false → (aim_in r m pid).wakes ≡ Some q
