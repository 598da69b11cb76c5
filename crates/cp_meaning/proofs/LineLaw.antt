-- That a process goes in from a line or out of a queue keeps what holds in reached states.
use Rattle.std.proofs.Common.{◌≡◌, ℕ, ◌<◌, ◌≤◌, ◌==◌, ◌∙◌, ◌⊎◌, inl, inr, Bool, true, false, List, [], ◌∷◌, length, slice_set, Option, Some, None, ap, sym, refl, subst, arith, eqb-true, eq-eqb}
use Rattle.std.proofs.lemmas.Bool.{cases_eq}
use Rattle.cp_tree.specs.declared.declaration.SystemKind.TheVariants as system_kind
use Rattle.cp_meaning.specs.State.{Component, Status, unstarted, ready, at_gate, delayed, Process, process_at, Gates, first_gates, any_gates, State, waits_at, is_inside}
use Rattle.cp_meaning.specs.Kernel.{with_line, line_of, with_process_status, first_in, one_in, let_in}
use Rattle.cp_meaning.proofs.Good.{IsMonitor}
use Rattle.cp_meaning.proofs.LocalLaw.{within}
use Rattle.cp_meaning.proofs.Orderly.{inside_parts, inside_from, ProcessFits, IsAbsent, LineFits, line_at, Nobody, Orderly, same_kinds, replaced, absent_by_status, line_set, line_which, relined}

pub record OrderlyState (s : State) : Type 0 where
  pub orderly : Orderly s.components s.processes
  pub pending : (m : ℕ) → s.pending ≡ Some m → IsMonitor s.components m → Nobody s.processes m

-- a process that waits for m alone, at its gate or in one of its queues
pub record WaitsFor (m : ℕ) (status : Status) : Type 0 where
  pub alone : (j : ℕ) → (m ≡ j → ⊥) → waits_at j status ≡ false
  pub begun : status ≡ unstarted → ⊥

other_number : (m j : ℕ) → (m ≡ j → ⊥) → (m == j) ≡ false
other_number m j ne = go (m == j) refl
  where
    go : (b : Bool) → (m == j) ≡ b → (m == j) ≡ false
    go true e = absurd (ne (eqb-true m j e))
    go false e = e

pub gate_waits : (m : ℕ) (status : Status) → status ≡ at_gate m → WaitsFor m status
gate_waits m status e = record { alone = λ j ne. ap (waits_at j) e ∙ other_number m j ne; begun = λ h. (let bad : at_gate m ≡ unstarted = sym e ∙ h in cc) }

pub queue_waits : (m : ℕ) (status : Status) → status ≡ delayed m → WaitsFor m status
queue_waits m status e = record { alone = λ j ne. ap (waits_at j) e ∙ other_number m j ne; begun = λ h. (let bad : delayed m ≡ unstarted = sym e ∙ h in cc) }

gate_of : Status → ℕ
gate_of (at_gate n) = n
gate_of status = 0

same_gate : (m j : ℕ) → at_gate m ≡ at_gate j → m ≡ j
unfolding gate_of
same_gate m j e = ap gate_of e

-- process q, which waits for m, has another status
restated : (cs : List Component) (ps : List Process) (m q : ℕ) (status : Status) → Orderly cs ps → q < length ps → WaitsFor m (process_at ps q).status → (waits_at m status ≡ false → IsMonitor cs m → Nobody ps m) → ((j : ℕ) → IsAbsent q (line_at cs j)) →
    Orderly cs (slice_set ps q (with_process_status (process_at ps q) status))
restated cs ps m q status old lt waits nobody absent =
    replaced cs cs ps q x old (same_kinds cs) (λ j. inl refl) (inl lt) fits (λ j h k lk hk. old.one_initial j k q lk lt hk h) (λ j mon h k lk hk. inside j mon h k lk hk (cases_eq m j)) (λ j. line_set cs cs ps q x j (line_at cs j) refl (absent j) (old.lines j))
  where
    x : Process
    x = with_process_status (process_at ps q) status

    fits : ProcessFits cs x
    fits = let p = old.processes q lt in record { fits = p.fits; order = p.order; open_calls = λ h. p.open_calls waits.begun; starting = p.starting; entering = p.entering }

    inside : (j : ℕ) → IsMonitor cs j → is_inside j x ≡ true → (k : ℕ) → k < length ps → is_inside j (process_at ps k) ≡ true → (m ≡ j) ⊎ (m ≡ j → ⊥) → k ≡ q
    inside j mon h k lk hk (inl e) = absurd (nobody (ap (λ i. waits_at i status) e ∙ (inside_parts j x h).1) (subst (IsMonitor cs) (sym e) mon) k lk (subst (λ i. is_inside i (process_at ps k) ≡ true) (sym e) hk))
    inside j mon h k lk hk (inr ne) = old.one_inside j mon k q lk lt hk (inside_from j (process_at ps q) (inside_parts j x h).0 (waits.alone j ne))

-- process q goes on inside m
pub resumed : (cs : List Component) (ps : List Process) (m q : ℕ) → Orderly cs ps → q < length ps → WaitsFor m (process_at ps q).status → (IsMonitor cs m → Nobody ps m) → ((j : ℕ) → IsAbsent q (line_at cs j)) → Orderly cs (slice_set ps q (with_process_status (process_at ps q) ready))
resumed cs ps m q old lt waits nobody absent = restated cs ps m q ready old lt waits (λ h. nobody) absent

-- process q waits at the gate of m
pub comes_to_gate : (cs : List Component) (ps : List Process) (m q : ℕ) → Orderly cs ps → q < length ps → WaitsFor m (process_at ps q).status → ((j : ℕ) → IsAbsent q (line_at cs j)) → Orderly cs (slice_set ps q (with_process_status (process_at ps q) (at_gate m)))
comes_to_gate cs ps m q old lt waits absent = restated cs ps m q (at_gate m) old lt waits (λ h. absurd (let bad : true ≡ false = sym (eq-eqb m m refl) ∙ h in cc)) absent

-- process q of the line of m goes in, and the others are the line
pub gone_in : (cs : List Component) (ps : List Process) (m q : ℕ) (line : List ℕ) → Orderly cs ps → IsMonitor cs m → q < length ps → (process_at ps q).status ≡ at_gate m → IsAbsent q line → LineFits cs ps m line → (IsMonitor cs m → Nobody ps m) →
    Orderly (with_line cs m line) (slice_set ps q (with_process_status (process_at ps q) ready))
gone_in cs ps m q line old mon lt st a f nobody =
    resumed (with_line cs m line) ps m q (relined cs ps m line old f) lt (gate_waits m (process_at ps q).status st) (λ h. nobody mon) (λ j. absent j (line_which cs m j line))
  where
    absent_other : (j : ℕ) → (j ≡ m → length cs ≤ m) → (j ≡ m) ⊎ (j ≡ m → ⊥) → IsAbsent q (line_at cs j)
    absent_other j out (inl e) = absurd (let le = out e in let l = within cs m (λ h. (let bad : system_kind.Process ≡ system_kind.Monitor = sym h ∙ mon in cc)) in omega arith)
    absent_other j out (inr ne) = absent_by_status cs ps j q (line_at cs j) (λ h. ne (sym (same_gate m j (sym st ∙ h)))) (old.lines j)

    absent : (j : ℕ) → ((j ≡ m) × (line_at (with_line cs m line) j ≡ line)) ⊎ ((j ≡ m → length cs ≤ m) × (line_at (with_line cs m line) j ≡ line_at cs j)) → IsAbsent q (line_at (with_line cs m line) j)
    absent j (inl h) = subst (IsAbsent q) (sym h.1) a
    absent j (inr h) = subst (IsAbsent q) (sym h.1) (absent_other j h.0 (cases_eq j m))

no_pending : {A : Type 0} (o : Option ℕ) (m : ℕ) → o ≡ None → o ≡ Some m → A
no_pending o m e h = absurd (let bad : None ≡ Some m = sym e ∙ h in cc)

first_law : (line : List ℕ) (s : State) (m : ℕ) → line_of s m ≡ line → Orderly s.components s.processes → (IsMonitor s.components m → Nobody s.processes m) → s.pending ≡ None → OrderlyState (first_in line s m)
first_law [] s m e old nobody none = record { orderly = old; pending = λ n h. no_pending s.pending n none h }
first_law (q ∷ line) s m e old nobody none =
    let f : LineFits s.components s.processes m (q ∷ line) = subst (LineFits s.components s.processes m) e (old.lines m) in
    record {
      orderly = gone_in s.components s.processes m q line old f.0 f.1 f.2 f.4 f.5 nobody;
      pending = λ n h. no_pending s.pending n none h;
    }

pub some_is : (m n : ℕ) → Some m ≡ Some n → m ≡ n
some_is m n e = cc

one_law : (line : List ℕ) (s : State) (m : ℕ) → line_of s m ≡ line → Orderly s.components s.processes → (IsMonitor s.components m → Nobody s.processes m) → s.pending ≡ None → OrderlyState (one_in line s m)
one_law [] s m e old nobody none = record { orderly = old; pending = λ n h. no_pending s.pending n none h }
one_law (q ∷ []) s m e old nobody none =
    let f : LineFits s.components s.processes m (q ∷ []) = subst (LineFits s.components s.processes m) e (old.lines m) in
    record {
      orderly = gone_in s.components s.processes m q [] old f.0 f.1 f.2 f.4 f.5 nobody;
      pending = λ n h. no_pending s.pending n none h;
    }
one_law (q ∷ r ∷ line) s m e old nobody none =
    record {
      orderly = old;
      pending = λ n h mon. (let same = some_is m n h in subst (Nobody s.processes) same (nobody (subst (IsMonitor s.components) (sym same) mon)));
    }

-- the line is let in where nobody is inside
pub let_in_law : (g : Gates) (s : State) (m : ℕ) → Orderly s.components s.processes → (IsMonitor s.components m → Nobody s.processes m) → s.pending ≡ None → OrderlyState (let_in g s m)
let_in_law first_gates s m old nobody none = first_law (line_of s m) s m refl old nobody none
let_in_law any_gates s m old nobody none = one_law (line_of s m) s m refl old nobody none
