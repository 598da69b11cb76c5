-- The search at once with a limit of steps, over any system: what it follows, and what it tells.
use Rattle.std.specs.Prelude.{◌≡◌, ◌⊎◌, ℕ, zero, suc, true, false, Some}
use Rattle.cp_run.specs.declared.outcome.OutcomeKind.{OutcomeKind}
use Rattle.cp_run.specs.System.{System}
use Rattle.cp_run.specs.Run.{may, turn_at, stretch}
use Rattle.cp_endless_laws.specs.Moments.{AnyOf}
use Rattle.cp_endless_laws.specs.Repeats.{CallsAt, Repeats, repeated_part}
use Rattle.cp_endless_laws.specs.Rounds.{IsCut, spot_after}
use Rattle.cp_endless_laws.specs.Settled.{IsIn}
use Rattle.cp_at_once_laws.specs.Through.{IsOpeningKnown}

-- `AtOnce` says whose leg may be made at once in a state, `kept` which states are expanded with each choice. Told are ends (`known`), who is alone for ever (`alone`), who spins (`spins`), and
-- of each step whatever there is to tell (`shown`), as the values that it shows.

-- a stretch comes to a choice that is followed, or to an end that is told
pub record ComesOut {S : Type 0} (sys : System S) (steps : ℕ) (known : OutcomeKind → Type 0) (followed : S → Type 0) (b : S) (f : ℕ) : Type 0 where
  pub uncut : IsCut (stretch sys steps b f) → ⊥
  pub to : IsIn followed known (stretch sys steps b f)

-- or it is cut, and is seen to repeat, which is told
pub record GoesRound {S : Type 0} (sys : System S) (steps : ℕ) (alone spins : ℕ → Type 0) (b : S) (f : ℕ) : Type 0 where
  pub repeats : Repeats sys steps b f
  pub calls : AnyOf (CallsAt sys) (repeated_part repeats) → alone repeats.process
  pub calls_none : (AnyOf (CallsAt sys) (repeated_part repeats) → ⊥) → spins repeats.process

pub record IsTaken {S : Type 0} (sys : System S) (steps : ℕ) (known : OutcomeKind → Type 0) (alone spins : ℕ → Type 0) (shown : S → ℕ → Type 0) (followed : S → Type 0) (b : S) (f : ℕ) : Type 0 where
  pub comes : ComesOut sys steps known followed b f ⊎ GoesRound sys steps alone spins b f
  pub tells : (n : ℕ) (s : S) (q : ℕ) → spot_after sys n b f ≡ Some (s, q) → shown s q

-- a due choice is followed: its state is kept, or a leg that may be made at once is, of c in a row at most
abbrev pub IsFollowed : {S : Type 0} → System S → ℕ → (S → ℕ → Type 0) → (S → Type 0) → (OutcomeKind → Type 0) → (ℕ → Type 0) → (ℕ → Type 0) → (S → ℕ → Type 0) → ℕ → S → Type 0
IsFollowed {S} sys steps AtOnce kept known alone spins shown zero s = kept s
IsFollowed {S} sys steps AtOnce kept known alone spins shown (suc c) s =
    kept s ⊎
    ((p : ℕ) × (may sys s p ≡ true) × AtOnce s p × IsTaken sys steps known alone spins shown (IsFollowed sys steps AtOnce kept known alone spins shown c) s p)

-- the first stretch is taken, and each stretch that a choice in a kept state begins
pub record SearchesAtOnce {S : Type 0} (sys : System S) (steps most : ℕ) (AtOnce : S → ℕ → Type 0) (kept : S → Type 0) (known : OutcomeKind → Type 0) (alone spins : ℕ → Type 0) (shown : S → ℕ → Type 0) : Type 0 where
  pub start : IsOpeningKnown (IsFollowed sys steps AtOnce kept known alone spins shown most) (IsTaken sys steps known alone spins shown (IsFollowed sys steps AtOnce kept known alone spins shown most)) known sys.start (turn_at sys sys.start false 0)
  pub on : (s : S) (p : ℕ) → kept s → may sys s p ≡ true → IsTaken sys steps known alone spins shown (IsFollowed sys steps AtOnce kept known alone spins shown most) s p
