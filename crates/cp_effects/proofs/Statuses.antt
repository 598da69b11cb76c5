-- A local step changes no status, and statuses of one number are one.
use Rattle.std.proofs.Common.{◌≡◌, ◌∙◌, ℕ, suc, zero, List, [], ◌∷◌, true, refl, subst}
use Rattle.std.specs.Prelude.{slice_set}
use Rattle.cp_slots.specs.Tables.{Tables}
use Rattle.cp_machine.specs.declared.event.Event.{Event}
use Rattle.cp_machine.specs.declared.process.Status.{Status}
use Rattle.cp_machine.specs.Machine.{Machine, Thread, thread_at}
use Rattle.cp_machine.specs.Statements.{Stepped}
use Rattle.cp_machine.specs.Step.{is_local, step_at}
use Rattle.cp_machine.proofs.Stepping.{Walking, step_blind, show_either}
use Rattle.cp_effect_laws.specs.Parts.{status_at}
use Rattle.cp_parts.specs.declared.store.PartStore.{PartStore}
use Rattle.cp_parts.specs.Coded.{status_code}
use Rattle.cp_parts.specs.Parts.{IsStatusNumber}
use Rattle.cp_parts.proofs.Codes.{status_one}
use Rattle.cp_parts.proofs.Pieces.{one_piece}

-- what is put in place of an element with the same in a field, leaves the field of each
kept_status : (ts : List Thread) (pid : ℕ) (x : Thread) → x.status ≡ (thread_at ts pid).status → (q : ℕ) → (thread_at (slice_set ts pid x) q).status ≡ (thread_at ts q).status
kept_status [] pid x e q = refl
kept_status (t ∷ ts) zero x e zero = e
kept_status (t ∷ ts) zero x e (suc q) = refl
kept_status (t ∷ ts) (suc pid) x e zero = refl
kept_status (t ∷ ts) (suc pid) x e (suc q) = kept_status ts pid x e q

abbrev Same : Machine → Machine → Type 0
Same m n = (q : ℕ) → status_at n q ≡ status_at m q

abbrev Calm : Machine → Stepped → Type 0
Calm m x = is_local x.event ≡ true → Same m x.machine

walking : (r : Tables) (m : Machine) (p : ℕ) → Walking r m p [] (λ x y. Calm m x) (Same m)
walking r m p =
    record {
      begins = λ q. refl;
      changed = λ n permanents x e k q. kept_status n.threads p x e q ∙ k q;
      initialised = λ n component k. k;
      goes = λ n k is. k;
      fails = λ event is q. refl;
      enters = λ component monitor is n k bad. absurd (cc);
      leaves = λ monitor n k bad. absurd (cc);
      delays = λ monitor cell n k bad. absurd (cc);
      continues = λ monitor cell n k bad. absurd (cc);
      signals = λ component monitor is cell n k bad. absurd (cc);
      ends = λ bad. absurd (cc);
      shows = λ rest v. show_either (Calm m) m p rest v (λ bad. absurd (cc)) (λ bad. absurd (cc));
    }

-- after a local step each process has the status that it had
pub local_statuses : (r : Tables) (m n : Machine) (p : ℕ) (e : Event) → step_at r m p ≡ record { machine = n; event = e } → is_local e ≡ true → (q : ℕ) → status_at n q ≡ status_at m q
local_statuses r m n p e step h =
    let F : Stepped → Type 0 = Calm m in
    subst F step (step_blind r m p [] (λ x y. Calm m x) (Same m) (walking r m p) (λ n phases bindings k. k) (λ q is n k bad. absurd (cc))) h

pub one_status : (s : PartStore) (a b : Status) (j k : ℕ) → IsStatusNumber s a j → IsStatusNumber s b k → j ≡ k → a ≡ b
one_status s a b j k x y e = status_one a b (one_piece s.statuses.items.items s.statuses.ends.items k (status_code a) (status_code b) (subst (λ n. IsStatusNumber s a n) e x) y)
