-- Who waits for ever in a stretch that goes on for ever without a choice.
use Rattle.std.specs.Prelude.{◌≡◌, ◌⊎◌, ◌≤◌, ◌<◌, ℕ, suc, List, Bool, true, false, Some}
use Rattle.std.specs.List.{AllByRecursion as Each}
use Rattle.cp_run.specs.System.{System}
use Rattle.cp_endless_laws.specs.Fair.{IsServed}
use Rattle.cp_endless_laws.specs.Moments.{stretch_moments}
use Rattle.cp_endless_laws.specs.Rounds.{spot_after, IsRound, SetsOut}

-- after n steps it stands in `state n`, and `mover n` makes the next one
abbrev pub GoesOn : {S : Type 0} → System S → S → ℕ → (ℕ → S) → (ℕ → ℕ) → Type 0
GoesOn sys s p state mover = (n : ℕ) → spot_after sys n s p ≡ Some (state n, mover n)

-- each process makes a step again and again, or again and again is not ready
abbrev pub IsFairStretch : {S : Type 0} → System S → (ℕ → S) → (ℕ → ℕ) → Type 0
IsFairStretch sys state mover = (q n : ℕ) → q < sys.processes → (m : ℕ) × (n ≤ m) × ((mover m ≡ q) ⊎ (sys.is_ready (state m) q ≡ false))

-- a fair stretch without end, and a step from which on the process waits
pub record StandsStill {S : Type 0} (sys : System S) (waiting : S → ℕ → Bool) (q : ℕ) (s : S) (p : ℕ) : Type 0 where
  pub state : ℕ → S
  pub mover : ℕ → ℕ
  pub goes : GoesOn sys s p state mover
  pub fair : IsFairStretch sys state mover
  pub since : ℕ
  pub waits : (m : ℕ) → since ≤ m → waiting (state m) q ≡ true

-- in the next n steps each process is served, and this one waits in all of them
pub record IsStandstill {S : Type 0} (sys : System S) (waiting : S → ℕ → Bool) (q : ℕ) (s : S) (p n : ℕ) : Type 0 where
  pub fair : (r : ℕ) → r < sys.processes → IsServed sys r (stretch_moments sys n s p)
  pub waits : Each (λ m. waiting m.state q ≡ true) (stretch_moments sys n s p)

-- once round
abbrev pub IsStandstillRound : {S : Type 0} → (sys : System S) → (S → ℕ → Bool) → ℕ → {s : S} → {p : ℕ} → IsRound sys s p → Type 0
IsStandstillRound sys waiting q round = IsStandstill sys waiting q round.state round.process (suc round.after)

-- who waits in a fair round waits for ever
abbrev pub StandstillLaw : {S : Type 0} → System S → Type 0
StandstillLaw {S} sys = (s : S) (p : ℕ) (round : IsRound sys s p) (waiting : S → ℕ → Bool) (q : ℕ) → IsStandstillRound sys waiting q round → StandsStill sys waiting q s p

-- and who waits for ever waits in the round, and the round is fair
abbrev pub StandstillFoundLaw : {S : Type 0} → System S → Type 0
StandstillFoundLaw {S} sys = (s : S) (p : ℕ) (round : IsRound sys s p) (waiting : S → ℕ → Bool) (q : ℕ) → StandsStill sys waiting q s p → IsStandstillRound sys waiting q round

-- after the word the stretch goes on for ever, and in it the process waits for ever
pub record MayStandStill {S : Type 0} (sys : System S) (waiting : S → ℕ → Bool) (q steps : ℕ) (word : List ℕ) : Type 0 where
  pub begin : S
  pub first : ℕ
  pub sets_out : SetsOut sys steps word begin first
  pub stands : StandsStill sys waiting q begin first
