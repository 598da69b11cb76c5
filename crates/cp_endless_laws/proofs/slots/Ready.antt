-- Who is ready stays ready until its own step.
use Rattle.std.proofs.Common.{◌≡◌, ℕ, ◌∙◌, List, Option, Some, None, Bool, true, false, refl, ap, get_or-set_other}
use Rattle.std.specs.Prelude.{slice_set}
use Rattle.cp_endless_laws.proofs.Words.{Tables, slots, Discipline, step_at, StaysReady}
use Rattle.cp_machine.specs.declared.process.Status.{Status}
use Rattle.cp_machine.specs.declared.process.Status.TheVariants.{Ready, AtGate}
use Rattle.cp_machine.specs.Machine.{Machine, Thread, thread_at, no_thread, is_delayed_at, is_ready, is_ready_status}
use Rattle.cp_machine.specs.Opening.{admit_at}
use Rattle.cp_machine.proofs.ListLemmas.{set_related}
use Rattle.cp_machine.proofs.StepKeeps.{step_keeps}
use Rattle.cp_endless_laws.specs.Silent.{SlotsStayReadyLaw}

abbrev ready_in : List Thread → ℕ → Bool
ready_in ts q = is_ready_status (thread_at ts q).status

-- who is made ready is so, and all others are as they were
made_ready : (ts : List Thread) (p q : ℕ) → ready_in ts q ≡ true → ready_in (slice_set ts p (record (thread_at ts p) { status = Ready })) q ≡ true
made_ready ts p q =
    set_related (λ (t u : Thread). is_ready_status t.status ≡ true → is_ready_status u.status ≡ true) (λ t h. h) ts p (record (thread_at ts p) { status = Ready }) no_thread (λ h. refl) q

-- who was delayed was not ready, so it may come to a gate
delayed_apart : (cell : ℕ) (status : Status) → is_delayed_at cell status ≡ true → is_ready_status status ≡ true → false ≡ true
delayed_apart cell Ready e h = e
delayed_apart cell status e h = h

at_gate : (ts : List Thread) (p cell monitor q : ℕ) → is_delayed_at cell (thread_at ts p).status ≡ true → ready_in ts q ≡ true → ready_in (slice_set ts p (record (thread_at ts p) { status = AtGate monitor })) q ≡ true
at_gate ts p cell monitor q e =
    set_related (λ (t u : Thread). is_ready_status t.status ≡ true → is_ready_status u.status ≡ true) (λ t h. h) ts p (record (thread_at ts p) { status = AtGate monitor }) no_thread (λ h. delayed_apart cell (thread_at ts p).status e h) q

-- after a step the others that were ready are ready
step_others : (r : Tables) (m : Machine) (pid q : ℕ) → (q ≡ pid → ⊥) → is_ready m q ≡ true → is_ready (step_at r m pid).machine q ≡ true
step_others r m pid q ne =
    step_keeps (λ discipline pending ts. ready_in ts q ≡ true) pid
    (λ discipline pending ts x h. ap (λ (t : Thread). is_ready_status t.status) (get_or-set_other ts pid q x no_thread ne) ∙ h)
    (λ discipline pending ts p h. made_ready ts p q h) (λ discipline pending ts p cell monitor e h. at_gate ts p cell monitor q e h) (λ discipline pending ts monitor any h. h) r m

-- ---- admission

admitted_at_keeps : (pending : Option ℕ) (m : Machine) (pid q : ℕ) → is_ready m q ≡ true → is_ready (admit_at pending m pid) q ≡ true
admitted_at_keeps None m pid q h = h
admitted_at_keeps (Some monitor) m pid q h = made_ready m.threads pid q h

stay_ready : (r : Tables) (discipline : Discipline) → StaysReady (slots r discipline)
stay_ready r discipline = record { step = λ m p q ne h. step_others r m p q ne h; admit = λ m p q h. admitted_at_keeps m.pending m p q h }

pub slots_stay_ready : SlotsStayReadyLaw
slots_stay_ready r discipline = let h = stay_ready r discipline in (h, record { step = λ m p q ne k. h.step m p q ne k; admit = λ m p q k. h.admit m p q k })
