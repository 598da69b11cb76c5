-- A step changes the body of the process that takes it alone; the others change their status at most.
use Rattle.std.proofs.Common.{◌≡◌, ℕ, ◌∙◌, ◌⊎◌, inl, inr, List, length, Option, Some, None, Bool, true, false, refl, sym, ap, get_or-set_other}
use Rattle.cp_machine.proofs.Words.{slice_set, cases_eq, length-set, Tables, Discipline, Status, Ready, AtGate, admit_waiting, admit_at, step_at, Machine, Thread, thread_at, no_thread}
use Rattle.cp_machine.proofs.ListLemmas.{set_related}
use Rattle.cp_machine.proofs.StepKeeps.{step_keeps}
use Rattle.cp_machine.specs.Bodies.{body_of, body_at, KeepBodies}

-- ---- what is kept

-- the bodies are the same, but perhaps that of one process
pub record ThreadsKeep (pid : ℕ) (before after : List Thread) : Type 0 where
  pub count : length after ≡ length before
  pub bodies : (q : ℕ) → (q ≡ pid → ⊥) → body_of (thread_at after q) ≡ body_of (thread_at before q)

-- the same of machines: only the threads of a machine matter, so that all else may change
abbrev pub OthersKeep : ℕ → Machine → Machine → Type 0
OthersKeep pid before after = ThreadsKeep pid before.threads after.threads

-- a status is no part of a body
status_body : (ts : List Thread) (p : ℕ) (status : Status) (q : ℕ) → body_of (thread_at (slice_set ts p (record (thread_at ts p) { status = status })) q) ≡ body_of (thread_at ts q)
status_body ts p status = set_related (λ (t u : Thread). body_of u ≡ body_of t) (λ t. refl) ts p (record (thread_at ts p) { status = status }) no_thread refl

-- ---- a step

-- a step changes no other process's body
pub step_others : (r : Tables) (m : Machine) (pid : ℕ) → OthersKeep pid m (step_at r m pid).machine
step_others r m pid = step_keeps (λ discipline pending ts. ThreadsKeep pid m.threads ts) pid changed (λ discipline pending ts p h. restated ts p Ready h) (λ discipline pending ts p cell monitor at h. restated ts p (AtGate monitor) h) (λ discipline pending ts monitor any h. h) r m (record { count = refl; bodies = λ q ne. refl })
  where
    changed : (discipline : Discipline) (pending : Option ℕ) (ts : List Thread) (x : Thread) → ThreadsKeep pid m.threads ts → ThreadsKeep pid m.threads (slice_set ts pid x)
    changed discipline pending ts x h =
        record {
          count = length-set ts pid x ∙ h.count;
          bodies = λ q ne. ap body_of (get_or-set_other ts pid q x no_thread ne) ∙ h.bodies q ne;
        }

    restated : (ts : List Thread) (p : ℕ) (status : Status) → ThreadsKeep pid m.threads ts → ThreadsKeep pid m.threads (slice_set ts p (record (thread_at ts p) { status = status }))
    restated ts p status h =
        record {
          count = length-set ts p (record (thread_at ts p) { status = status }) ∙ h.count;
          bodies = λ q ne. status_body ts p status q ∙ h.bodies q ne;
        }

-- ---- admission

admitted_at_count : (pending : Option ℕ) (m : Machine) (pid : ℕ) → length (admit_at pending m pid).threads ≡ length m.threads
admitted_at_count None m pid = refl
admitted_at_count (Some monitor) m pid = length-set m.threads pid (record (thread_at m.threads pid) { status = Ready })

admitted_at_bodies : (pending : Option ℕ) (m : Machine) (pid q : ℕ) → body_at (admit_at pending m pid) q ≡ body_at m q
admitted_at_bodies None m pid q = refl
admitted_at_bodies (Some monitor) m pid q = status_body m.threads pid Ready q

-- an admission changes no body, that of the admitted process neither
pub admitted_keeps : (m : Machine) (pid : ℕ) → (length (admit_waiting m pid).threads ≡ length m.threads) × ((q : ℕ) → body_at (admit_waiting m pid) q ≡ body_at m q)
admitted_keeps m pid = (admitted_at_count m.pending m pid, admitted_at_bodies m.pending m pid)

-- ---- many steps: the processes that did not move have the bodies that they had

pub keep_refl : (moved : ℕ → Bool) (m : Machine) → KeepBodies moved m m
keep_refl moved m = record { count = refl; bodies = λ pid not. refl }

pub keep_step : (r : Tables) (moved : ℕ → Bool) (before m : Machine) (pid : ℕ) → KeepBodies moved before m → moved pid ≡ true → KeepBodies moved before (step_at r m pid).machine
keep_step r moved before m pid h this = record { count = o.count ∙ h.count; bodies = λ q not. go q not (cases_eq q pid) }
  where
    o : OthersKeep pid m (step_at r m pid).machine
    o = step_others r m pid

    go : (q : ℕ) → moved q ≡ false → (q ≡ pid) ⊎ (q ≡ pid → ⊥) → body_at (step_at r m pid).machine q ≡ body_at before q
    go q not (inl e) = absurd (cc)
    go q not (inr ne) = o.bodies q ne ∙ h.bodies q not

-- one process more has moved
pub keep_more : (moved new : ℕ → Bool) (before m : Machine) (pid : ℕ) → KeepBodies moved before m → ((q : ℕ) → (q ≡ pid → ⊥) → new q ≡ moved q) → new pid ≡ true → KeepBodies new before m
keep_more moved new before m pid h others this = record { count = h.count; bodies = λ q not. go q not (cases_eq q pid) }
  where
    go : (q : ℕ) → new q ≡ false → (q ≡ pid) ⊎ (q ≡ pid → ⊥) → body_at m q ≡ body_at before q
    go q not (inl e) = absurd (cc)
    go q not (inr ne) = h.bodies q (sym (others q ne) ∙ not)

pub keep_admitted : (moved : ℕ → Bool) (before m : Machine) (pid : ℕ) → KeepBodies moved before m → KeepBodies moved before (admit_waiting m pid)
keep_admitted moved before m pid h =
    let k = admitted_keeps m pid in
    record { count = k.0 ∙ h.count; bodies = λ q not. k.1 q ∙ h.bodies q not }
