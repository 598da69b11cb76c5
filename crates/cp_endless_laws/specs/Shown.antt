-- Which values can be displayed. The machine that shows nothing is run, and each of its steps is asked what it would have shown.
use Rattle.std.specs.Prelude.{◌≡◌, ◌⊎◌, ◌≤◌, ◌<◌, ℕ, List, [], ◌∷◌, ◌++◌, true, false, Contains, length}
use Rattle.cp_machine.specs.declared.shown.Shown.{Shown}
use Rattle.cp_run.specs.declared.outcome.OutcomeKind.{OutcomeKind}
use Rattle.cp_run.specs.System.{System}
use Rattle.cp_run.specs.Run.{Choosing, may, turn_at}
use Rattle.cp_run.specs.Table.{each}
use Rattle.cp_endless_laws.specs.Forgetting.{forgetting_system}
use Rattle.cp_endless_laws.specs.Layers.{IsClosedTo}
use Rattle.cp_endless_laws.specs.Moments.{Moment, moments_by, stretch_moments, moments}
use Rattle.cp_endless_laws.specs.Reachable.{LeadsTo}
use Rattle.cp_endless_laws.specs.Settled.{IsClosed}

-- what a step shows, if nothing was shown before
abbrev pub shown_at : {S : Type 0} → System S → Moment S → List Shown
shown_at sys m = sys.output (sys.step m.state m.mover)

-- in the first stretch
abbrev pub shown_first : {S : Type 0} → System S → (S → S) → ℕ → List Shown
shown_first sys forget steps =
    let quiet = forgetting_system sys forget in
    each (shown_at sys) (moments_by (stretch_moments quiet steps quiet.start) (turn_at quiet quiet.start false 0))

-- and in the stretch after a choice
abbrev pub shown_then : {S : Type 0} → System S → (S → S) → ℕ → S → ℕ → List Shown
shown_then sys forget steps s p = each (shown_at sys) (moments (forgetting_system sys forget) steps s p)

-- the stretch to which the word leads shows this value
abbrev pub ShowsAfter : {S : Type 0} → System S → (S → S) → ℕ → List ℕ → Shown → Type 0
ShowsAfter {S} sys forget steps word v =
    ((word ≡ []) × Contains (shown_first sys forget steps) v) ⊎
    ((stem : List ℕ) × (c : ℕ) × (s : S) × (word ≡ stem ++ c ∷ []) × LeadsTo (forgetting_system sys forget) steps stem (Choosing s) × (may sys s c ≡ true) × Contains (shown_then sys forget steps s c) v)

-- ---- all values

-- some word shows this value
abbrev pub CanBeShown : {S : Type 0} → System S → (S → S) → ℕ → Shown → Type 0
CanBeShown sys forget steps v = (word : List ℕ) × ShowsAfter sys forget steps word v

-- all that is shown in these states is in the list
pub record AreShown {S : Type 0} (sys : System S) (forget : S → S) (steps : ℕ) (among : S → Type 0) (values : List Shown) : Type 0 where
  pub start : (v : Shown) → Contains (shown_first sys forget steps) v → Contains values v
  pub on : (s : S) (p : ℕ) (v : Shown) → among s → may sys s p ≡ true → Contains (shown_then sys forget steps s p) v → Contains values v

-- so no word shows another value, where no choice leads out of these states
abbrev pub ValuesLaw : {S : Type 0} → System S → (S → S) → (S → Type 0) → (OutcomeKind → Type 0) → Type 0
ValuesLaw sys forget among known =
    (steps : ℕ) (values : List Shown) → IsClosed (forgetting_system sys forget) steps among known → AreShown sys forget steps among values →
    (v : Shown) → CanBeShown sys forget steps v → Contains values v

-- ---- values of words of at most d choices

pub record AreShownTo {S : Type 0} (sys : System S) (forget : S → S) (steps d : ℕ) (layer : ℕ → S → Type 0) (values : List Shown) : Type 0 where
  pub start : (v : Shown) → Contains (shown_first sys forget steps) v → Contains values v
  pub on : (k : ℕ) (s : S) (p : ℕ) (v : Shown) → k < d → layer k s → may sys s p ≡ true → Contains (shown_then sys forget steps s p) v → Contains values v

abbrev pub ValuesToLaw : {S : Type 0} → System S → (S → S) → (ℕ → S → Type 0) → (OutcomeKind → Type 0) → Type 0
ValuesToLaw sys forget layer known =
    (steps d : ℕ) (values : List Shown) → IsClosedTo (forgetting_system sys forget) steps d layer known → AreShownTo sys forget steps d layer values →
    (word : List ℕ) (v : Shown) → length word ≤ d → ShowsAfter sys forget steps word v → Contains values v
