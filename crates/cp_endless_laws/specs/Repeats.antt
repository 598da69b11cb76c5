-- What takes the place of an end at the limit of steps, where it is seen that the stretch repeats for ever.
use Rattle.std.specs.Prelude.{◌≡◌, ◌<◌, ◌+◌, ℕ, suc, List, Some}
use Rattle.std.specs.List.{AllByRecursion as Each}
use Rattle.cp_machine.specs.declared.event.Event.{Event}
use Rattle.cp_machine.specs.declared.event.Event.TheVariants.{Kernel}
use Rattle.cp_run.specs.System.{System}
use Rattle.cp_run.specs.declared.outcome.OutcomeKind.TheVariants.{StepLimit}
use Rattle.cp_endless_laws.specs.Moments.{Moment, stretch_moments, AnyOf}
use Rattle.cp_endless_laws.specs.Reachable.{EndsAfter}
use Rattle.cp_endless_laws.specs.Rounds.{spot_after, SetsOut}

-- After as many steps as the limit the stretch stands in a state, before a step of a process, that come again within as many steps more.
pub record Repeats {S : Type 0} (sys : System S) (steps : ℕ) (s : S) (p : ℕ) : Type 0 where
  pub state : S
  pub process : ℕ
  pub comes : spot_after sys steps s p ≡ Some (state, process)
  pub after : ℕ
  pub soon : after < steps
  pub returns : spot_after sys (suc after) state process ≡ Some (state, process)

-- the part that repeats
abbrev pub repeated_part : {S : Type 0} {sys : System S} {steps : ℕ} {s : S} {p : ℕ} → Repeats sys steps s p → List (Moment S)
repeated_part {S} {sys} r = stretch_moments sys (suc r.after) r.state r.process

-- a kernel call is made then
abbrev pub IsKernelCall : Event → Type 0
IsKernelCall (Kernel call) = Unit {0}
IsKernelCall _ = ⊥

abbrev pub CallsAt : {S : Type 0} → System S → Moment S → Type 0
CallsAt sys m = IsKernelCall (sys.event m.state m.mover)

-- The stretch to which the word leads repeats, and a kernel call is made in each round: no choice is due, since nobody else is ready.
pub record IsAloneAfter {S : Type 0} (sys : System S) (steps : ℕ) (word : List ℕ) (q : ℕ) : Type 0 where
  pub begin : S
  pub first : ℕ
  pub sets_out : SetsOut sys steps word begin first
  pub repeats : Repeats sys steps begin first
  pub is : repeats.process ≡ q
  pub calls : AnyOf (CallsAt sys) (repeated_part repeats)

-- the stretch to which the word leads repeats, and no kernel call is made any more
pub record SpinsAfter {S : Type 0} (sys : System S) (steps : ℕ) (word : List ℕ) (q : ℕ) : Type 0 where
  pub begin : S
  pub first : ℕ
  pub sets_out : SetsOut sys steps word begin first
  pub repeats : Repeats sys steps begin first
  pub is : repeats.process ≡ q
  pub calls_none : Each (λ m. CallsAt sys m → ⊥) (repeated_part repeats)

-- whatever the limit of steps is, from this one on, the word ends at it
abbrev pub EndsAtEachLimit : {S : Type 0} → System S → ℕ → List ℕ → Type 0
EndsAtEachLimit sys steps word = (more : ℕ) → EndsAfter sys (more + steps) word StepLimit

-- both are ends at each limit, and exclude each other, for whatever processes
pub record RepeatsLaw {S : Type 0} (sys : System S) : Type 0 where
  pub alone : (steps : ℕ) (word : List ℕ) (q : ℕ) → IsAloneAfter sys steps word q → EndsAtEachLimit sys steps word
  pub spins : (steps : ℕ) (word : List ℕ) (q : ℕ) → SpinsAfter sys steps word q → EndsAtEachLimit sys steps word
  pub not_both : (steps : ℕ) (word : List ℕ) (q r : ℕ) → IsAloneAfter sys steps word q → SpinsAfter sys steps word r → ⊥
  pub one_alone : (steps : ℕ) (word : List ℕ) (q r : ℕ) → IsAloneAfter sys steps word q → IsAloneAfter sys steps word r → q ≡ r
  pub one_spins : (steps : ℕ) (word : List ℕ) (q r : ℕ) → SpinsAfter sys steps word q → SpinsAfter sys steps word r → q ≡ r
