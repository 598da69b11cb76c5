-- What a passing says of what was seen of a stretch.
use Rattle.std.specs.Prelude.{◌≡◌, ◌⊎◌, ◌<◌, ◌≤◌, ◌↔◌, ◌&&◌, ℕ, List, Bool, false, nat_lt, not, true}
use Rattle.std.specs.List.{AllByRecursion as Each}
use Rattle.cp_slots.specs.Tables.{Tables}
use Rattle.cp_machine.specs.System.{Machine, is_ready}
use Rattle.cp_machine.specs.declared.discipline.Discipline.{Discipline}
use Rattle.cp_run.specs.System.{System}
use Rattle.cp_endless_laws.specs.Fair.{IsServed}
use Rattle.cp_endless_laws.specs.Moments.{Moment, AnyOf}
use Rattle.cp_endless_laws.specs.Silent.{silent_slots, in_call_on_slots, waits_on_slots}
use Rattle.cp_waits.specs.Sets.{has}
use Rattle.cp_waits.specs.declared.passing.PassingSets.{PassingSets}
use Rattle.cp_waits.specs.declared.set.Set.{Set}

-- the set has exactly those of the first n processes of whom it is so
abbrev pub AreThose : ℕ → Set → (ℕ → Type 0) → Type 0
AreThose n set P = (q : ℕ) → q < n → (has set q ≡ true) ↔ P q

-- of due choices in these states, and of these moments
pub record Seen {S : Type 0} (sys : System S) (inside waiting : S → ℕ → Bool) (due : List S) (ms : List (Moment S)) (p : PassingSets) : Type 0 where
  pub wait : AreThose sys.processes p.wait (λ q. Each (λ t. waiting t q ≡ true) due × Each (λ m. waiting m.state q ≡ true) ms)
  pub wait_once : AreThose sys.processes p.wait_once (λ q. AnyOf (λ t. waiting t q ≡ true) due ⊎ AnyOf (λ m. waiting m.state q ≡ true) ms)
  pub stay : AreThose sys.processes p.stay (λ q. Each (λ t. inside t q ≡ true) due × Each (λ m. inside m.state q ≡ true) ms)
  pub step : AreThose sys.processes p.step (λ q. AnyOf (λ m. m.mover ≡ q) ms)
  pub served : AreThose sys.processes p.served (λ q. IsServed sys q ms)

-- of the slot machine that shows nothing
abbrev pub HasSeen : Tables → Discipline → List Machine → List (Moment Machine) → PassingSets → Type 0
HasSeen r discipline due ms p = Seen (silent_slots r discipline) in_call_on_slots waits_on_slots due ms p

-- a look at the first n processes of a machine: who waits, who is in its call, and who is not ready
pub record IsLook (n : ℕ) (m : Machine) (p : PassingSets) : Type 0 where
  pub few : n ≤ 16
  pub wait : (q : ℕ) → q < 16 → has p.wait q ≡ (nat_lt q n && waits_on_slots m q)
  pub wait_once : (q : ℕ) → q < 16 → has p.wait_once q ≡ (nat_lt q n && waits_on_slots m q)
  pub stay : (q : ℕ) → q < 16 → has p.stay q ≡ (nat_lt q n && in_call_on_slots m q)
  pub step : (q : ℕ) → q < 16 → has p.step q ≡ false
  pub served : (q : ℕ) → q < 16 → has p.served q ≡ (nat_lt q n && not (is_ready m q))
