-- Ranks of the states, which show that a process does not wait for ever.
use Rattle.std.specs.Prelude.{◌≡◌, ◌≤◌, ◌<◌, ℕ, Bool, true, false}
use Rattle.cp_run.specs.System.{System}
use Rattle.cp_run.specs.Run.{Choosing, may, chosen}
use Rattle.cp_endless_laws.specs.Fair.{IsServed}
use Rattle.cp_endless_laws.specs.Moments.{moments}
use Rattle.cp_endless_laws.specs.Settled.{IsClosedSet}
use Rattle.cp_endless_laws.specs.WaitsForEver.{WaitsIn, WaitsSometime, NeverWaitsForEver, MayLinger}

-- a choice between two states during which the process waits
pub record GoesWaiting {S : Type 0} (sys : System S) (waiting : S → ℕ → Bool) (q steps : ℕ) (among : S → Type 0) (s t : S) (p : ℕ) : Type 0 where
  pub among_them : among s
  pub may_be : may sys s p ≡ true
  pub waits : WaitsIn sys waiting q steps s p
  pub goes : chosen sys steps s p ≡ Choosing t

-- While the process waits, no choice raises the rank; and as long as the rank stays, some process is passed over: it is ready at each moment and makes no step.
-- (The states of one rank are a strongly connected part of the graph, or several such parts between which nothing leads.)
pub record RankForbidsWaiting {S : Type 0} (sys : System S) (waiting : S → ℕ → Bool) (q steps : ℕ) (among : S → Type 0) (rank : S → ℕ) (passed_over : ℕ → ℕ) : Type 0 where
  pub process : (n : ℕ) → passed_over n < sys.processes
  pub falls : (s t : S) (p : ℕ) → GoesWaiting sys waiting q steps among s t p → rank t ≤ rank s
  pub stays : (s t : S) (p : ℕ) → GoesWaiting sys waiting q steps among s t p → rank t ≡ rank s → IsServed sys (passed_over (rank s)) (moments sys steps s p) → ⊥

-- so no fair schedule lets it wait for ever
abbrev pub NoWaitingLaw : {S : Type 0} → System S → (S → Type 0) → Type 0
NoWaitingLaw {S} sys among =
    (waiting : S → ℕ → Bool) (q steps : ℕ) (rank : S → ℕ) (passed_over : ℕ → ℕ) →
    IsClosedSet sys steps among → RankForbidsWaiting sys waiting q steps among rank passed_over → NeverWaitsForEver sys waiting q steps

-- ---- in its call

-- the process waits, or another one is served
abbrev pub WaitsOrIsServed : {S : Type 0} → System S → (S → ℕ → Bool) → ℕ → ℕ → ℕ → Bool → S → ℕ → Type 0
WaitsOrIsServed sys waiting q steps other true s p = WaitsSometime sys waiting q steps s p
WaitsOrIsServed sys waiting q steps other false s p = IsServed sys other (moments sys steps s p)

-- The same while the process is inside: as long as the rank stays, some process is passed over, or (where `goes_on` of the rank is true) the process itself does not wait.
pub record RankForbidsLingering {S : Type 0} (sys : System S) (inside waiting : S → ℕ → Bool) (q steps : ℕ) (among : S → Type 0) (rank : S → ℕ) (passed_over : ℕ → ℕ) (goes_on : ℕ → Bool) : Type 0 where
  pub process : (n : ℕ) → passed_over n < sys.processes
  pub falls : (s t : S) (p : ℕ) → GoesWaiting sys inside q steps among s t p → rank t ≤ rank s
  pub stays : (s t : S) (p : ℕ) → GoesWaiting sys inside q steps among s t p → rank t ≡ rank s →
      WaitsOrIsServed sys waiting q steps (passed_over (rank s)) (goes_on (rank s)) s p → ⊥

abbrev pub NoLingerLaw : {S : Type 0} → System S → (S → Type 0) → Type 0
NoLingerLaw {S} sys among =
    (inside waiting : S → ℕ → Bool) (q steps : ℕ) (rank : S → ℕ) (passed_over : ℕ → ℕ) (goes_on : ℕ → Bool) →
    IsClosedSet sys steps among → RankForbidsLingering sys inside waiting q steps among rank passed_over goes_on → MayLinger sys inside waiting q steps → ⊥
