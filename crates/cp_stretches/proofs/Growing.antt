-- What stays where a store grows, or the table of legs.
use Rattle.std.proofs.Common.{◌≡◌, ◌+◌, ◌<◌, ◌∷◌, ◌++◌, ◌⊎◌, inl, inr, ℕ, List, [], arith, length, refl, subst, sym}
use Rattle.std.proofs.lemmas.Bool.{cases_eq}
use Rattle.cp_slots.specs.Tables.{Tables}
use Rattle.cp_machine.specs.declared.discipline.Discipline.{Discipline}
use Rattle.cp_machine.specs.declared.process.Status.{Status}
use Rattle.cp_machine.specs.declared.process.Status.TheVariants.{AtGate, Ended, Ready, Unstarted}
use Rattle.cp_machine.specs.Machine.{Machine, machine_of}
use Rattle.cp_states.specs.Numbers.{number_at}
use Rattle.cp_run.specs.declared.outcome.Turn.{Turn}
use Rattle.cp_parts.specs.declared.placing.PlaceTable.{PlaceTable}
use Rattle.cp_parts.specs.declared.store.PartStore.{PartStore}
use Rattle.cp_parts.specs.Coded.{status_code}
use Rattle.cp_parts.specs.Parts.{IsStatusNumber, KeepStore}
use Rattle.cp_parts.specs.Placed.{IsPlaced}
use Rattle.cp_parts.proofs.Keeping.{new_number, old_number, row_on, store_same}
use Rattle.cp_parts.proofs.Pieces.{piece_on}
use Rattle.cp_effects.specs.declared.admissions.AdmissionTable.{AdmissionTable}
use Rattle.cp_effects.specs.Admitting.{AreAdmissions}
use Rattle.cp_effects.specs.Known.{AreKnown}
use Rattle.cp_effects.proofs.Admitted.{admissions_on}
use Rattle.cp_effects.proofs.Knowing.{known_on}
use Rattle.cp_stretches.specs.declared.cache.LegCache.{LegCache}
use Rattle.cp_stretches.specs.declared.cache.Standing.{Standing}
use Rattle.cp_stretches.specs.declared.legs.LegTable.{LegTable}
use Rattle.cp_stretches.specs.declared.numbers.StatusNumbers.{StatusNumbers}
use Rattle.cp_stretches.specs.Cached.{IsCache, IsStanding, StandsFor}
use Rattle.cp_stretches.specs.Numbers.{AreStatusNumbers, CanRead}
use Rattle.cp_stretches.specs.Stretching.{MayEnter, StandsAt}

module _ (s u : PartStore) (kept : KeepStore s u) where
  pub status_stays : (status : Status) (n : ℕ) → IsStatusNumber s status n → IsStatusNumber u status n
  status_stays status n is = piece_on s.statuses.items.items s.statuses.ends.items u.statuses.items.items u.statuses.ends.items n (status_code status) kept.statuses is

  pub numbers_on : (monitors : ℕ) (n : StatusNumbers) → AreStatusNumbers s monitors n → AreStatusNumbers u monitors n
  numbers_on monitors n are =
      record {
        ready = status_stays Ready n.ready are.ready;
        unstarted = status_stays Unstarted n.unstarted are.unstarted;
        ended = status_stays Ended n.ended are.ended;
        gates = are.gates;
        at_gate = λ monitor lt. status_stays (AtGate monitor) (number_at n.at_gate.items monitor) (are.at_gate monitor lt);
      }

  pub stands_on : (r : Tables) (discipline : Discipline) (t : PlaceTable) (m : Machine) (row : List ℕ) → StandsFor r discipline s t m row → StandsFor r discipline u t m row
  stands_on r discipline t m row h = record { stands = row_on s u t m row kept h.stands; kept = h.kept; quiet = h.quiet; ruled = h.ruled }

  pub stands_at_on : (r : Tables) (discipline : Discipline) (t : PlaceTable) (m : Machine) (turn : Turn) (row : List ℕ) → StandsAt r discipline s t m turn row → StandsAt r discipline u t m turn row
  stands_at_on r discipline t m turn row h = record { machine = stands_on r discipline t m row h.machine; ready = h.ready; free = h.free }

  pub may_enter_on : (r : Tables) (discipline : Discipline) (t : PlaceTable) (m : Machine) (row : List ℕ) (pid monitor : ℕ) → MayEnter r discipline s t m row pid monitor → MayEnter r discipline u t m row pid monitor
  may_enter_on r discipline t m row pid monitor h = record { machine = stands_on r discipline t m row h.machine; pending = h.pending; waits = h.waits }

  pub standing_on : (r : Tables) (t : PlaceTable) (x : Standing) → IsStanding r s t x → IsStanding r u t x
  standing_on r t x h = record { own = h.own; row = row_on s u t (machine_of x.state) x.row.items kept h.row }

-- what is known of legs and of admissions
abbrev pub IsLearned : PartStore → PlaceTable → Tables → Discipline → LegCache → Type 0
IsLearned s t r discipline c = AreKnown s t r discipline c.legs.effects × AreAdmissions s t r c.admissions

-- a cache whose store keeps all that has a number, and in which what is known is so
pub cache_on : (r : Tables) (discipline : Discipline) (c d : LegCache) → IsCache r discipline c → KeepStore c.store d.store → d.table ≡ c.table → d.numbers ≡ c.numbers →
    (IsLearned d.store c.table r discipline c → IsLearned d.store c.table r discipline d) → IsCache r discipline d
cache_on r discipline c d h kept table numbers learned =
    let old : IsLearned d.store c.table r discipline c = (known_on c.store d.store c.table r discipline kept c.legs.effects h.known, admissions_on c.store d.store c.table r kept c.admissions h.admissions) in
    let new = learned old in
    record {
      sound = h.sound;
      placed = subst (λ t. IsPlaced r t) (sym table) h.placed;
      numbers = subst (AreStatusNumbers d.store r.monitors) (sym numbers) (numbers_on c.store d.store kept r.monitors c.numbers h.numbers);
      known = subst (λ t. AreKnown d.store t r discipline d.legs.effects) (sym table) new.0;
      admissions = subst (λ t. AreAdmissions d.store t r d.admissions) (sym table) new.1;
    }

-- a cache in whose table of legs what is known is so
pub legs_on : (r : Tables) (discipline : Discipline) (c : LegCache) (legs : LegTable) → IsCache r discipline c → (AreKnown c.store c.table r discipline c.legs.effects → AreKnown c.store c.table r discipline legs.effects) → IsCache r discipline (record c { legs = legs })
legs_on r discipline c legs h known = cache_on r discipline c (record c { legs = legs }) h (store_same c.store) refl refl (λ is. (known is.0, is.1))

-- a cache in whose table of admissions what is known is so
pub admissions_kept : (r : Tables) (discipline : Discipline) (c : LegCache) (admissions : AdmissionTable) → IsCache r discipline c → (AreAdmissions c.store c.table r c.admissions → AreAdmissions c.store c.table r admissions) → IsCache r discipline (record c { admissions = admissions })
admissions_kept r discipline c admissions h known = cache_on r discipline c (record c { admissions = admissions }) h (store_same c.store) refl refl (λ is. (is.0, known is.1))

-- what a row tells of a machine of the program
pub can_read : (r : Tables) (discipline : Discipline) (c : LegCache) (m : Machine) (row : List ℕ) → IsCache r discipline c → StandsFor r discipline c.store c.table m row → CanRead r c.store c.table c.numbers m row
can_read r discipline c m row h stands = record { placed = h.placed; few = h.sound.few; numbers = h.numbers; fits = stands.kept.fits; stands = stands.stands }

-- the numbers of gates, with one more
pub gates_more : (s u : PartStore) (numbers : List ℕ) (count n : ℕ) → KeepStore s u → length numbers ≡ count → ((k : ℕ) → k < count → IsStatusNumber s (AtGate k) (number_at numbers k)) → IsStatusNumber u (AtGate count) n →
    (k : ℕ) → k < count + 1 → IsStatusNumber u (AtGate k) (number_at (numbers ++ n ∷ []) k)
gates_more s u numbers count n kept long each is k lt = go (cases_eq k count)
  where
    go : (k ≡ count) ⊎ (k ≡ count → ⊥) → IsStatusNumber u (AtGate k) (number_at (numbers ++ n ∷ []) k)
    go (inl e) = subst (λ x. IsStatusNumber u (AtGate x) (number_at (numbers ++ n ∷ []) x)) (sym e) (subst (IsStatusNumber u (AtGate count)) (sym (new_number numbers n count (sym long))) is)
    go (inr ne) =
        let l : k < count = omega (arith, lt, ne) in
        subst (IsStatusNumber u (AtGate k)) (sym (old_number numbers n k (omega (arith, l, long)))) (status_stays s u kept (AtGate k) (number_at numbers k) (each k l))
