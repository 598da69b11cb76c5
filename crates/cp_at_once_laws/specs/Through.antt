-- What has to be gone through where some legs are made at once, with no word of a limit of steps.
use Rattle.std.specs.Prelude.{◌≡◌, ◌⊎◌, ◌<◌, ℕ, suc, true, false, Some}
use Rattle.cp_run.specs.declared.outcome.OutcomeKind.{OutcomeKind}
use Rattle.cp_run.specs.declared.outcome.Turn.{Turn}
use Rattle.cp_run.specs.declared.outcome.Turn.TheVariants.{Over, Due, Goes}
use Rattle.cp_run.specs.System.{System}
use Rattle.cp_run.specs.Run.{may, turn_at, turn_after}
use Rattle.cp_endless_laws.specs.Rounds.{spot_after}
use Rattle.cp_at_once_laws.specs.AtOnce.{QuietLeg}

-- `among c s`: the choice that is due in state s is expanded, and c legs may still be made at once. `begun c b f`: the stretch that begins in
-- state b with a step of process f is gone through. `known kind`: an end of this kind is found.

-- what comes before the next step is an end that is found, a choice that is expanded, or no choice
abbrev pub IsTurnKnown : {S : Type 0} → (S → Type 0) → (OutcomeKind → Type 0) → S → Turn → Type 0
IsTurnKnown among known t (Over kind) = known kind
IsTurnKnown among known t Due = among t
IsTurnKnown among known t (Goes r) = Unit {0}

-- the same at the start, where somebody goes on
abbrev pub IsOpeningKnown : {S : Type 0} → (S → Type 0) → (S → ℕ → Type 0) → (OutcomeKind → Type 0) → S → Turn → Type 0
IsOpeningKnown among begun known t (Over kind) = known kind
IsOpeningKnown among begun known t Due = among t
IsOpeningKnown among begun known t (Goes r) = begun t r

-- each choice is followed
abbrev pub FollowsEach : {S : Type 0} → System S → (S → ℕ → Type 0) → S → Type 0
FollowsEach {S} sys begun s = (p : ℕ) → may sys s p ≡ true → begun s p

-- some leg of a process is quiet
abbrev pub HasQuietLeg : {S : Type 0} → System S → (S → ℕ → Type 0) → S → ℕ → Type 0
HasQuietLeg {S} sys Quiet s p = (t : S) × QuietLeg sys Quiet s p t

-- one process alone is followed, whose leg may be made at once, and fewer legs may be then
pub record FollowsOne {S : Type 0} (sys : System S) (AtOnce : S → ℕ → Type 0) (begun : ℕ → S → ℕ → Type 0) (c : ℕ) (s : S) : Type 0 where
  pub process : ℕ
  pub left : ℕ
  pub fewer : c ≡ suc left
  pub may_be : may sys s process ≡ true
  pub at_once : AtOnce s process
  pub follows : begun left s process

-- The search at once leaves nothing of these out. `AtOnce s p`: the leg of process p may be made at once.
pub record GoesThrough {S : Type 0} (sys : System S) (AtOnce : S → ℕ → Type 0) (among : ℕ → S → Type 0) (begun : ℕ → S → ℕ → Type 0) (known : OutcomeKind → Type 0) : Type 0 where
  pub most : ℕ
  pub start : IsOpeningKnown (among most) (begun most) known sys.start (turn_at sys sys.start false 0)
  pub choice : (c : ℕ) (s : S) → among c s → ((d : ℕ) × FollowsEach sys (begun d) s) ⊎ FollowsOne sys AtOnce begun c s
  pub stretch : (c : ℕ) (b : S) (f n : ℕ) (s : S) (q : ℕ) → begun c b f → spot_after sys n b f ≡ Some (s, q) → IsTurnKnown (among c) known (sys.step s q) (turn_after sys (sys.step s q) q (sys.event s q))

-- in a stretch that is gone through, a process meets what is asked for
pub record IsMetIn {S : Type 0} (sys : System S) (begun : ℕ → S → ℕ → Type 0) (Goal : S → ℕ → Type 0) : Type 0 where
  pub left : ℕ
  pub begin : S
  pub first : ℕ
  pub gone : begun left begin first
  pub after : ℕ
  pub state : S
  pub process : ℕ
  pub stands : spot_after sys after begin first ≡ Some (state, process)
  pub goal : Goal state process

-- no monitor is pending in the states that are met, and who is ready is a process of the system
pub record IsPlain {S : Type 0} (sys : System S) (Met : S → Type 0) : Type 0 where
  pub start : Met sys.start
  pub free : (s : S) → Met s → sys.is_pending s ≡ false
  pub below : (s : S) (p : ℕ) → Met s → sys.is_ready s p ≡ true → p < sys.processes
  -- at the start process 0 alone is ready
  pub first : sys.is_ready sys.start 0 ≡ true
  pub others : (p : ℕ) → sys.is_ready sys.start p ≡ true → p ≡ 0
