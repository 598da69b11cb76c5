-- What the lines say of a machine: who may wait for ever in schedules of any length, and in which one.
use Rattle.std.specs.Prelude.{◌≡◌, ◌⊎◌, ◌↔◌, ◌<◌, ℕ, suc, List, [], ◌∷◌, Bool, true, Contains}
use Rattle.std.specs.List.{AllPairs}
use Rattle.cp_run.specs.Run.{Choosing, chosen, may}
use Rattle.cp_run.specs.System.{System}
use Rattle.cp_endless_laws.specs.Fair.{IsServed}
use Rattle.cp_endless_laws.specs.Lasso.{HasLasso, HasLingeringLasso}
use Rattle.cp_endless_laws.specs.Moments.{moments}
use Rattle.cp_endless_laws.specs.Reachable.{LeadsTo}
use Rattle.cp_endless_laws.specs.Repeats.{Repeats}
use Rattle.cp_endless_laws.specs.Rounds.{SetsOut}
use Rattle.cp_endless_laws.specs.Standstill.{IsStandstill}
use Rattle.cp_endless_laws.specs.Traps.{IsStuck}
use Rattle.cp_endless_laws.specs.WaitsForEver.{MayWaitForEver, MayLinger, WaitsIn}
use Rattle.cp_waits.specs.declared.waiting.How.{How}
use Rattle.cp_waits.specs.declared.waiting.How.TheVariants.{Throughout, ForGood, InItsCall}
use Rattle.cp_waits.specs.declared.waiting.Waiting.{Waiting}
use Rattle.cp_waits.specs.declared.waiting.Waits.{Waits}
use Rattle.cp_waits.specs.declared.waiting.Waits.TheVariants.{Known, NotSettled}

-- ---- who may wait for ever

-- The stretch to which the word leads is seen to repeat; in the part that repeats each process is served, and this one waits in all of it.
pub record StandsStillAfter {S : Type 0} (sys : System S) (waiting : S → ℕ → Bool) (q steps : ℕ) (word : List ℕ) : Type 0 where
  pub begin : S
  pub first : ℕ
  pub sets_out : SetsOut sys steps word begin first
  pub repeats : Repeats sys steps begin first
  pub still : IsStandstill sys waiting q repeats.state repeats.process (suc repeats.after)

-- in a fair schedule without end, or in a stretch that is seen to repeat without a choice
abbrev pub MayWait : {S : Type 0} → System S → (S → ℕ → Bool) → ℕ → ℕ → Type 0
MayWait sys waiting q steps = MayWaitForEver sys waiting q steps ⊎ ((word : List ℕ) × StandsStillAfter sys waiting q steps word)

-- In each fair schedule in which it waits for ever the process comes to a state from which on it waits, whatever is chosen.
abbrev pub WaitsForGood : {S : Type 0} → System S → (S → ℕ → Bool) → ℕ → ℕ → Type 0
WaitsForGood sys waiting q steps = (x : MayWaitForEver sys waiting q steps) → (n : ℕ) × IsStuck sys waiting q steps (x.state n)

-- ---- left open

-- On no choice in a reachable state that leads on to a choice, and along which process q does so all the time, is p served.
abbrev pub IsUnserved : {S : Type 0} → System S → (does : S → ℕ → Bool) → (q p steps : ℕ) → Type 0
IsUnserved {S} sys does q p steps =
    (word : List ℕ) (s t : S) (number : ℕ) → LeadsTo sys steps word (Choosing s) → may sys s number ≡ true → chosen sys steps s number ≡ Choosing t → WaitsIn sys does q steps s number → IsServed sys p (moments sys steps s number) → ⊥

-- there is no such process
abbrev pub LeavesNobody : {S : Type 0} → System S → (does : S → ℕ → Bool) → (q steps : ℕ) → Type 0
LeavesNobody sys does q steps = (p : ℕ) → p < sys.processes → IsUnserved sys does q p steps → ⊥

-- Only of such a process it may be left open whether it waits for ever: it waits in a stretch that is seen to repeat; or nobody is left unserved while it
-- waits, or while it is inside.
abbrev pub MayBeOpen : {S : Type 0} → System S → (inside waiting : S → ℕ → Bool) → (q steps : ℕ) → Type 0
MayBeOpen sys inside waiting q steps = ((word : List ℕ) × StandsStillAfter sys waiting q steps word) ⊎ (LeavesNobody sys waiting q steps ⊎ LeavesNobody sys inside q steps)

-- ---- what a line shows

-- the first word leads to a state, and the second one from it back to it; in that loop each process is served, and this one waits in all of it
abbrev pub AreLasso : {S : Type 0} → System S → (S → ℕ → Bool) → ℕ → ℕ → List ℕ → List ℕ → Type 0
AreLasso sys waiting q steps first again = (x : HasLasso sys waiting q steps) × (x.stem ≡ first) × (x.first ∷ x.more ≡ again)

-- the same of a process that is inside in all of the loop, and waits somewhere in it
abbrev pub AreLingeringLasso : {S : Type 0} → System S → (S → ℕ → Bool) → (S → ℕ → Bool) → ℕ → ℕ → List ℕ → List ℕ → Type 0
AreLingeringLasso sys inside waiting q steps first again = (x : HasLingeringLasso sys inside waiting q steps) × (x.stays.stem ≡ first) × (x.stays.first ∷ x.stays.more ≡ again)

abbrev pub AreStandstill : {S : Type 0} → System S → (S → ℕ → Bool) → ℕ → ℕ → List ℕ → List ℕ → Type 0
AreStandstill sys waiting q steps first again = (again ≡ []) × StandsStillAfter sys waiting q steps first

-- what the words of a line show, by how it says that the process waits; it is in its call only where it does not wait for ever otherwise
abbrev pub ShowWaiting : {S : Type 0} → System S → (S → ℕ → Bool) → (S → ℕ → Bool) → ℕ → Waiting → How → Type 0
ShowWaiting sys inside waiting steps line Throughout = AreLasso sys waiting line.process steps line.first.items line.again.items
ShowWaiting sys inside waiting steps line ForGood =
    (AreLasso sys waiting line.process steps line.first.items line.again.items ⊎ AreStandstill sys waiting line.process steps line.first.items line.again.items) ×
    WaitsForGood sys waiting line.process steps
ShowWaiting sys inside waiting steps line InItsCall =
    AreLingeringLasso sys inside waiting line.process steps line.first.items line.again.items × (MayWait sys waiting line.process steps → ⊥)

-- ---- the lines

abbrev pub HasLine : List Waiting → ℕ → Type 0
HasLine lines q = (line : Waiting) × Contains lines line × (line.process ≡ q)

-- Each line shows how its process may wait. A process has a line exactly where it may wait for ever, or again and again in its call without ever
-- coming out. The lines stand by number, and each process has one at most.
pub record AreWaits {S : Type 0} (sys : System S) (inside waiting : S → ℕ → Bool) (steps : ℕ) (lines : List Waiting) : Type 0 where
  pub shown : (line : Waiting) → Contains lines line → (line.process < sys.processes) × ShowWaiting sys inside waiting steps line line.how
  pub exactly : (q : ℕ) → q < sys.processes → HasLine lines q ↔ (MayWait sys waiting q steps ⊎ MayLinger sys inside waiting q steps)
  pub sorted : AllPairs (λ a b. a.process < b.process) lines

-- or of a process it is left open
abbrev pub TellWaits : {S : Type 0} → System S → (S → ℕ → Bool) → (S → ℕ → Bool) → ℕ → Waits → Type 0
TellWaits sys inside waiting steps (Known lines) = AreWaits sys inside waiting steps lines.items
TellWaits sys inside waiting steps (NotSettled q) = (q < sys.processes) × MayBeOpen sys inside waiting q steps
