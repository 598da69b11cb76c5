-- Where a walk stands, some number may be taken.
use Rattle.std.proofs.Common.{◌≡◌, ◌∙◌, ℕ, ◌<◌, Bool, true, false, ◌&&◌, if◌then◌else◌, length, Option, None, Some, refl, ap, subst, arith}
use Rattle.cp_walk.proofs.Words.{lt-ltb, Tables, Halt, OutcomeKind, node_of, may, chosen, opened, slots, IsDue}
use Rattle.cp_machine.specs.declared.discipline.Discipline.{Discipline}
use Rattle.cp_machine.specs.declared.state.State.{State}
use Rattle.cp_machine.specs.System.{Machine, machine_of, is_pending, is_ready, in_line, IsStateOf}
use Rattle.cp_machine.specs.Machine.{is_some, in_line_of, thread_at}
use Rattle.cp_machine.proofs.CallerLemmas.{threads_count, pending_waits}
use Rattle.cp_run.specs.declared.outcome.Halt.TheVariants.{Choice, Ended}
use Rattle.cp_run.proofs.Standing.{Stands, opened_stands, chosen_stands}

may_line : (r : Tables) (discipline : Discipline) (m : Machine) (p : ℕ) → p < length r.processes → is_pending m ≡ true → in_line m p ≡ true → may (slots r discipline) m p ≡ true
unfolding may
may_line r discipline m p lt e h = ap (λ b. b && (if is_pending m then in_line m p else is_ready m p)) (lt-ltb p (length r.processes) lt) ∙ ap (λ b. if b then in_line m p else is_ready m p) e ∙ h

-- where a monitor is pending, some process is in its line
in_some_line : (r : Tables) (s : State) → IsStateOf r s → is_pending (machine_of s) ≡ true → (p : ℕ) × ((p < length (machine_of s).threads) × (in_line (machine_of s) p ≡ true))
in_some_line r s own e = by (machine_of s).pending refl e
  where
    by : (o : Option ℕ) → (machine_of s).pending ≡ o → is_some o ≡ true → (p : ℕ) × ((p < length (machine_of s).threads) × (in_line (machine_of s) p ≡ true))
    by None at h = absurd (cc)
    by (Some monitor) at h = let x = pending_waits r s monitor own at in (x.0, (x.1, ap (λ o. in_line_of o (thread_at (machine_of s).threads x.0).status) at ∙ x.2))

due_at : (r : Tables) (discipline : Discipline) (h : Halt OutcomeKind) (s : State) → IsStateOf r s → Stands (slots r discipline) (node_of h (machine_of s)) → IsDue (slots r discipline) (node_of h (machine_of s))
due_at r discipline (Ended kind) s own stands = tt
due_at r discipline Choice s own stands = by (is_pending (machine_of s)) refl
  where
    by : (b : Bool) → is_pending (machine_of s) ≡ b → (p : ℕ) × (may (slots r discipline) (machine_of s) p ≡ true)
    by true e =
        let x = in_some_line r s own e in
        let all = threads_count r s own in
        (x.0, may_line r discipline (machine_of s) x.0 (omega (arith, x.1.0, all)) e x.1.1)
    by false e = stands e

-- after the opening stretch
pub due_opened : (r : Tables) (discipline : Discipline) (steps : ℕ) (h : Halt OutcomeKind) (s : State) → IsStateOf r s → opened (slots r discipline) steps ≡ node_of h (machine_of s) → IsDue (slots r discipline) (node_of h (machine_of s))
due_opened r discipline steps h s own e = due_at r discipline h s own (subst (Stands (slots r discipline)) e (opened_stands (slots r discipline) steps))

-- after a choice
pub due_chosen : (r : Tables) (discipline : Discipline) (steps : ℕ) (m : Machine) (p : ℕ) (h : Halt OutcomeKind) (s : State) → IsStateOf r s → chosen (slots r discipline) steps m p ≡ node_of h (machine_of s) → IsDue (slots r discipline) (node_of h (machine_of s))
due_chosen r discipline steps m p h s own e = due_at r discipline h s own (subst (Stands (slots r discipline)) e (chosen_stands (slots r discipline) steps m p))
