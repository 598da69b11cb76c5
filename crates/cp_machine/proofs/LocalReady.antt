-- A process whose step is local is ready after it.
use Rattle.std.proofs.Common.{◌≡◌, ◌∙◌, ℕ, ◌<◌, List, [], length, true, ap, subst, arith, get_or-set_same}
use Rattle.cp_machine.proofs.Words.{slice_set, length-set, Tables, Event, Machine, Thread, thread_at, no_thread, is_ready, is_ready_status, Stepped, step_at, is_local}
use Rattle.cp_machine.proofs.Stepping.{Walking, step_blind, show_either}

-- a process is there, and ready
abbrev ReadyIn : ℕ → List Thread → Type 0
ReadyIn pid ts = (pid < length ts) × (is_ready_status (thread_at ts pid).status ≡ true)

-- it stays so where the rest of its thread changes
thread_ready : (ts : List Thread) (pid : ℕ) (x : Thread) → x.status ≡ (thread_at ts pid).status → ReadyIn pid ts → ReadyIn pid (slice_set ts pid x)
thread_ready ts pid x e h =
    (omega (arith, length-set ts pid x, h.0), ap (λ t. is_ready_status t.status) (get_or-set_same ts pid x no_thread h.0) ∙ ap is_ready_status e ∙ h.1)

-- where its event is local, the process is ready
abbrev Fine : ℕ → Stepped → Type 0
Fine pid x = is_local x.event ≡ true → is_ready x.machine pid ≡ true

walking : (r : Tables) (m : Machine) (pid : ℕ) → ReadyIn pid m.threads → Walking r m pid [] (λ x y. Fine pid x) (λ n. ReadyIn pid n.threads)
walking r m pid h =
    record {
      begins = h;
      changed = λ n permanents x e k. thread_ready n.threads pid x e k;
      initialised = λ n component k. k;
      goes = λ n k is. k.1;
      fails = λ event is. h.1;
      enters = λ component monitor is n k bad. absurd (cc);
      leaves = λ monitor n k bad. absurd (cc);
      delays = λ monitor cell n k bad. absurd (cc);
      continues = λ monitor cell n k bad. absurd (cc);
      signals = λ component monitor is cell n k bad. absurd (cc);
      ends = λ bad. absurd (cc);
      shows = λ rest v. show_either (Fine pid) m pid rest v (λ bad. absurd (cc)) (λ bad. absurd (cc));
    }

-- after a local step its process is ready
pub local_ready : (r : Tables) (m n : Machine) (p : ℕ) (e : Event) → p < length m.threads → is_ready m p ≡ true → step_at r m p ≡ record { machine = n; event = e } → is_local e ≡ true → is_ready n p ≡ true
local_ready r m n p e lt ready step h =
    let F : Stepped → Type 0 = Fine p in
    subst F step (step_blind r m p [] (λ x y. Fine p x) (λ n. ReadyIn p n.threads) (walking r m p (lt, ready)) (λ n phases bindings k. k) (λ q is n k bad. absurd (cc))) h
