-- What the kernel does keeps each line the line of those at its gate.
use Rattle.std.proofs.Common.{◌≡◌, ◌∙◌, ℕ, suc, ◌<◌, ◌≤◌, ◌⊎◌, inl, inr, List, [], ◌∷◌, ◌++◌, length, Option, Some, None, true, false, eqb, ap, sym, refl, subst, arith, length-append}
use Rattle.cp_machine.proofs.Words.{IfSome, pos, slice_index_or, slice_set, IsDistinct, First, Any, Status, Unstarted, Ready, AtGate, Delayed, LinesFit, admit_waiting}
use Rattle.cp_machine.specs.declared.discipline.Gates.{Gates}
use Rattle.cp_machine.proofs.Words.{admit_at, without, let_in, let_in_by, first_in, one_in, free, goes_in, enter_caller, enter_by, delay_caller, resume, go_on_inside, waits_in}
use Rattle.cp_machine.specs.declared.discipline.Signals.{Signals}
use Rattle.cp_machine.specs.declared.discipline.Signals.TheVariants as signals
use Rattle.cp_machine.specs.Kernel.{join_line, change_places, signal_by, signal}
use Rattle.std.proofs.lemmas.Bool.{cases_eq, eq-eqb, eqb-true, ne_eqb}
use Rattle.std.proofs.lemmas.List.{get_or-set_same, get_or-set_other}
use Rattle.std.proofs.lemmas.List.Quantifiers.{position-Some}
use Rattle.std.proofs.lemmas.Map.Keys.{IsDistinct-tail}
use Rattle.std.proofs.lemmas.Map.Steps.{length-le_from_distinct_below}
use Rattle.cp_machine.specs.Machine.{Machine, Thread, Monitor, thread_at, no_thread, monitor_at, no_monitor, is_at_gate, is_delayed_at, is_ready_status, is_unstarted, in_line, in_line_of, with_status}
use Rattle.cp_machine.proofs.ListLemmas.{set_related, passes_within}
use Rattle.cp_machine.proofs.lines.LineLists.{has, has_first, has_pushed, pushed_other, pushed_once, first_once, first_gone, first_other, without_gone, without_other, without_once}

abbrev pub line_of : List Monitor → ℕ → List ℕ
line_of ms g = (slice_index_or ms g no_monitor).line

-- the processes at a gate are those of its line, each once
abbrev pub Lined : List Thread → List Monitor → Type 0
Lined ts ms = ((g q : ℕ) → is_at_gate g (thread_at ts q).status ≡ has (line_of ms g) q) × ((g : ℕ) → IsDistinct eqb (line_of ms g))

-- a status of a process that is at no gate
abbrev pub IsOff : Status → Type 0
IsOff s = (g : ℕ) → is_at_gate g s ≡ false

pub ready_off : (s : Status) → is_ready_status s ≡ true → IsOff s
ready_off Ready h = λ g. refl
ready_off _ h = absurd (cc)

pub unstarted_off : (s : Status) → is_unstarted s ≡ true → IsOff s
unstarted_off Unstarted h = λ g. refl
unstarted_off _ h = absurd (cc)

delayed_off : (cell : ℕ) (s : Status) → is_delayed_at cell s ≡ true → IsOff s
delayed_off cell (Delayed queue) h = λ g. refl
delayed_off cell _ h = absurd (cc)

-- a process is at one gate at most
one_gate : (g k : ℕ) (s : Status) → is_at_gate g s ≡ true → (k ≡ g → ⊥) → is_at_gate k s ≡ false
one_gate g k (AtGate a) h ne = ne_eqb a k (λ e. ne (sym e ∙ eqb-true a g h))
one_gate g k _ h ne = refl

-- ---- lists of which one element changes

-- what is read of the threads stays where it is the same at the one that changes
pub read_set : {A : Type 0} (f : Thread → A) (ts : List Thread) (p : ℕ) (x : Thread) → f x ≡ f (thread_at ts p) → (q : ℕ) → f (thread_at (slice_set ts p x) q) ≡ f (thread_at ts q)
read_set f ts p x e = set_related (λ (t u : Thread). f u ≡ f t) (λ t. refl) ts p x no_thread e

line_set : (ms : List Monitor) (g : ℕ) (y : Monitor) → y.line ≡ line_of ms g → (k : ℕ) → line_of (slice_set ms g y) k ≡ line_of ms k
line_set ms g y e = set_related (λ (a b : Monitor). b.line ≡ a.line) (λ a. refl) ms g y no_monitor e

pub gate_within : (g : ℕ) (ts : List Thread) (q : ℕ) → is_at_gate g (thread_at ts q).status ≡ true → q < length ts
gate_within g ts q h = passes_within (λ (t : Thread). is_at_gate g t.status) ts q no_thread refl h

line_within : (ms : List Monitor) (g q : ℕ) → has (line_of ms g) q ≡ true → g < length ms
line_within ms g q h = passes_within (λ (m : Monitor). has m.line q) ms g no_monitor refl h

-- ---- changes that no line notices

pub like_lined : (ts us : List Thread) (ms ns : List Monitor) → ((g q : ℕ) → is_at_gate g (thread_at us q).status ≡ is_at_gate g (thread_at ts q).status) → ((g : ℕ) → line_of ns g ≡ line_of ms g) → Lined ts ms → Lined us ns
like_lined ts us ms ns s l h = ((λ g q. s g q ∙ h.0 g q ∙ ap (λ line. has line q) (sym (l g))), (λ g. subst (IsDistinct eqb) (sym (l g)) (h.1 g)))

-- a process that is at no gate gets another such status
pub off_lined : (ts : List Thread) (ms : List Monitor) (p : ℕ) (x : Thread) → IsOff (thread_at ts p).status → IsOff x.status → Lined ts ms → Lined (slice_set ts p x) ms
off_lined ts ms p x old new h = like_lined ts (slice_set ts p x) ms ms (λ g q. read_set (λ t. is_at_gate g t.status) ts p x (new g ∙ sym (old g)) q) (λ g. refl) h

-- a monitor gets another holder
held_lined : (ts : List Thread) (ms : List Monitor) (g : ℕ) (y : Monitor) → y.line ≡ line_of ms g → Lined ts ms → Lined ts (slice_set ms g y)
held_lined ts ms g y e h = like_lined ts ts ms (slice_set ms g y) (λ k q. refl) (line_set ms g y e) h

-- ---- one process comes into a line, or leaves it

module _ (ts : List Thread) (ms : List Monitor) (h : Lined ts ms) (g p : ℕ) (x : Thread) (y : Monitor) (there : p < length ts) (here : g < length ms) where
  status_new : (k q : ℕ) → q ≡ p → is_at_gate k (thread_at (slice_set ts p x) q).status ≡ is_at_gate k x.status
  status_new k q e = ap (λ (t : Thread). is_at_gate k t.status) (ap (λ r. thread_at (slice_set ts p x) r) e ∙ get_or-set_same ts p x no_thread there)

  status_old : (k q : ℕ) → (q ≡ p → ⊥) → is_at_gate k (thread_at (slice_set ts p x) q).status ≡ is_at_gate k (thread_at ts q).status
  status_old k q ne = ap (λ (t : Thread). is_at_gate k t.status) (get_or-set_other ts p q x no_thread ne)

  line_new : (k : ℕ) → k ≡ g → line_of (slice_set ms g y) k ≡ y.line
  line_new k f = ap (λ (m : Monitor). m.line) (ap (λ r. slice_index_or (slice_set ms g y) r no_monitor) f ∙ get_or-set_same ms g y no_monitor here)

  line_old : (k : ℕ) → (k ≡ g → ⊥) → line_of (slice_set ms g y) k ≡ line_of ms k
  line_old k nf = ap (λ (m : Monitor). m.line) (get_or-set_other ms g k y no_monitor nf)

  moved_lined : is_at_gate g x.status ≡ has y.line p → ((k : ℕ) → (k ≡ g → ⊥) → is_at_gate k x.status ≡ false) → ((k : ℕ) → (k ≡ g → ⊥) → is_at_gate k (thread_at ts p).status ≡ false) → ((q : ℕ) → (q ≡ p → ⊥) → has y.line q ≡ has (line_of ms g) q) → IsDistinct eqb y.line → Lined (slice_set ts p x) (slice_set ms g y)
  moved_lined new off was other once = ((λ k q. gates k q (cases_eq q p) (cases_eq k g)), (λ k. onces k (cases_eq k g)))
    where
      gates : (k q : ℕ) → (q ≡ p) ⊎ (q ≡ p → ⊥) → (k ≡ g) ⊎ (k ≡ g → ⊥) → is_at_gate k (thread_at (slice_set ts p x) q).status ≡ has (line_of (slice_set ms g y) k) q
      gates k q (inl e) (inl f) = status_new k q e ∙ ap (λ r. is_at_gate r x.status) f ∙ new ∙ sym (ap (λ l. has l q) (line_new k f) ∙ ap (has y.line) e)
      gates k q (inl e) (inr nf) = status_new k q e ∙ off k nf ∙ sym (ap (λ l. has l q) (line_old k nf) ∙ sym (h.0 k q) ∙ ap (λ r. is_at_gate k (thread_at ts r).status) e ∙ was k nf)
      gates k q (inr ne) (inl f) = status_old k q ne ∙ h.0 k q ∙ ap (λ r. has (line_of ms r) q) f ∙ sym (other q ne) ∙ sym (ap (λ l. has l q) (line_new k f))
      gates k q (inr ne) (inr nf) = status_old k q ne ∙ h.0 k q ∙ sym (ap (λ l. has l q) (line_old k nf))

      onces : (k : ℕ) → (k ≡ g) ⊎ (k ≡ g → ⊥) → IsDistinct eqb (line_of (slice_set ms g y) k)
      onces k (inl f) = subst (IsDistinct eqb) (sym (line_new k f)) once
      onces k (inr nf) = subst (IsDistinct eqb) (sym (line_old k nf)) (h.1 k)

-- a process leaves the line of its gate
left_lined : (ts : List Thread) (ms : List Monitor) (g p : ℕ) (x : Thread) (y : Monitor) → Lined ts ms → is_at_gate g (thread_at ts p).status ≡ true → IsOff x.status → has y.line p ≡ false → ((q : ℕ) → (q ≡ p → ⊥) → has y.line q ≡ has (line_of ms g) q) → IsDistinct eqb y.line → Lined (slice_set ts p x) (slice_set ms g y)
left_lined ts ms g p x y h at off gone other once =
    moved_lined ts ms h g p x y (gate_within g ts p at) (line_within ms g p (sym (h.0 g p) ∙ at)) (off g ∙ sym gone) (λ k nf. off k) (λ k nf. one_gate g k _ at nf) other once

-- a process that is at no gate goes to the end of a line
joined_lined : (ts : List Thread) (ms : List Monitor) (g p : ℕ) (x : Thread) (y : Monitor) → Lined ts ms → p < length ts → g < length ms → IsOff (thread_at ts p).status → x.status ≡ AtGate g → y.line ≡ line_of ms g ++ p ∷ [] → Lined (slice_set ts p x) (slice_set ms g y)
joined_lined ts ms g p x y h there here off at line =
    moved_lined ts ms h g p x y there here
    (ap (is_at_gate g) at ∙ eq-eqb g g refl ∙ sym (ap (λ l. has l p) line ∙ has_pushed (line_of ms g) p))
    (λ k nf. ap (is_at_gate k) at ∙ ne_eqb g k (λ e. nf (sym e)))
    (λ k nf. off k)
    (λ q ne. ap (λ l. has l q) line ∙ pushed_other (line_of ms g) p q ne)
    (subst (IsDistinct eqb) (sym line) (pushed_once (line_of ms g) p (h.1 g) (sym (h.0 g p) ∙ off g)))

-- a process that is at no gate becomes the first of a line
first_joined : (ts : List Thread) (ms : List Monitor) (g p : ℕ) (x : Thread) (y : Monitor) → Lined ts ms → p < length ts → g < length ms → IsOff (thread_at ts p).status → x.status ≡ AtGate g → y.line ≡ p ∷ line_of ms g → Lined (slice_set ts p x) (slice_set ms g y)
first_joined ts ms g p x y h there here off at line =
    moved_lined ts ms h g p x y there here
    (ap (is_at_gate g) at ∙ eq-eqb g g refl ∙ sym (ap (λ l. has l p) line ∙ has_first p (line_of ms g)))
    (λ k nf. ap (is_at_gate k) at ∙ ne_eqb g k (λ e. nf (sym e)))
    (λ k nf. off k)
    (λ q ne. ap (λ l. has l q) line ∙ sym (first_other p q (line_of ms g) ne))
    (subst (IsDistinct eqb) (sym line) (first_once p (line_of ms g) (h.1 g) (sym (h.0 g p) ∙ off g)))

-- ---- the kernel

abbrev pub Two : Machine → Option ℕ → Type 0
Two m pending = IfSome pending (λ monitor. 2 ≤ length (monitor_at m monitor).line)

-- nothing is pending
pub lines_still : (m : Machine) → Lined m.threads m.monitors → m.pending ≡ None → LinesFit m
lines_still m h still = record { gate = h.0; once = h.1; pending = subst (Two m) (sym still) tt }

pub lines_as : (m : Machine) → LinesFit m → Lined m.threads m.monitors
lines_as m h = (h.gate, h.once)

first_lined : (m : Machine) (g : ℕ) (line : List ℕ) → line ≡ line_of m.monitors g → Lined m.threads m.monitors → Lined (first_in m g line).threads (first_in m g line).monitors
first_lined m g [] e h = held_lined m.threads m.monitors g _ e h
first_lined m g (q ∷ line) e h =
    let at : is_at_gate g (thread_at m.threads q).status ≡ true = h.0 g q ∙ ap (λ l. has l q) (sym e) ∙ has_first q line in
    let once : IsDistinct eqb (q ∷ line) = subst (IsDistinct eqb) (sym e) (h.1 g) in
    left_lined m.threads m.monitors g q _ _ h at (λ k. refl) (first_gone q line once) (λ k ne. first_other q k line ne ∙ ap (λ l. has l k) e) (IsDistinct-tail eqb q line once)

first_still : (m : Machine) (g : ℕ) (line : List ℕ) → m.pending ≡ None → (first_in m g line).pending ≡ None
first_still m g [] still = still
first_still m g (q ∷ line) still = still

one_lines : (m : Machine) (g : ℕ) (line : List ℕ) → line ≡ line_of m.monitors g → Lined m.threads m.monitors → m.pending ≡ None → LinesFit (one_in m g line)
one_lines m g [] e h still = lines_still (free m g []) (first_lined m g [] e h) still
one_lines m g (q ∷ []) e h still = lines_still (goes_in m g q []) (first_lined m g (q ∷ []) e h) still
one_lines m g (p ∷ q ∷ line) e h still =
    let kept : Lined m.threads (free m g (p ∷ q ∷ line)).monitors = held_lined m.threads m.monitors g _ e h in
    let same : (monitor_at (free m g (p ∷ q ∷ line)) g).line ≡ p ∷ q ∷ line = line_set m.monitors g _ e g ∙ sym e in
    let long : length (monitor_at (free m g (p ∷ q ∷ line)) g).line ≡ suc (suc (length line)) = ap length same in
    record { gate = kept.0; once = kept.1; pending = omega (arith, long) }

let_in_by_lines : (gates : Gates) (m : Machine) (g : ℕ) (line : List ℕ) → line ≡ line_of m.monitors g → Lined m.threads m.monitors → m.pending ≡ None → LinesFit (let_in_by gates m g line)
let_in_by_lines First m g line e h still = lines_still (first_in m g line) (first_lined m g line e h) (first_still m g line still)
let_in_by_lines Any m g line e h still = one_lines m g line e h still

pub let_in_lines : (m : Machine) (g : ℕ) → Lined m.threads m.monitors → m.pending ≡ None → LinesFit (let_in m g)
let_in_lines m g h still = let_in_by_lines m.discipline.gates m g (monitor_at m g).line refl h still

pub entered_lines : (m : Machine) (p g : ℕ) → Lined m.threads m.monitors → m.pending ≡ None → p < length m.threads → IsOff (thread_at m.threads p).status → g < length m.monitors → LinesFit (enter_caller m p g)
entered_lines m p g h still there off here = go (monitor_at m g).holder
  where
    go : (holder : Option ℕ) → LinesFit (enter_by holder m p g)
    go None = lines_still (enter_by None m p g) (held_lined m.threads m.monitors g _ refl h) still
    go (Some q) = lines_still (enter_by (Some q) m p g) (joined_lined m.threads m.monitors g p _ _ h there here off refl refl) still

pub delayed_lines : (m : Machine) (p g cell : ℕ) → Lined m.threads m.monitors → m.pending ≡ None → IsOff (thread_at m.threads p).status → LinesFit (delay_caller m p g cell)
delayed_lines m p g cell h still off = let_in_lines (with_status (record m { permanents = slice_set m.permanents cell (pos 1) }) p (Delayed cell)) g (off_lined m.threads m.monitors p _ off (λ k. refl) h) still

pub continued_lines : (m : Machine) (g cell : ℕ) → Lined m.threads m.monitors → m.pending ≡ None → LinesFit (resume m g cell)
continued_lines m g cell h still = go (waits_in m cell) refl
  where
    marked : Machine
    marked = record m { permanents = slice_set m.permanents cell (pos 0) }

    go : (waiter : Option ℕ) → waits_in m cell ≡ waiter → LinesFit (go_on_inside waiter marked g)
    go None e = let_in_lines marked g h still
    go (Some q) e =
        let found = position-Some (λ (t : Thread). is_delayed_at cell t.status) m.threads q no_thread e in
        lines_still (goes_in marked g q (monitor_at m g).line) (held_lined _ m.monitors g _ refl (off_lined m.threads m.monitors q _ (delayed_off cell _ found.1) (λ k. refl) h)) still

ready_delayed : {A : Type 0} (cell : ℕ) (s : Status) → is_ready_status s ≡ true → is_delayed_at cell s ≡ true → A
ready_delayed cell Ready h k = absurd (cc)
ready_delayed cell s h k = absurd (cc)

signalled_by_lines : (signals : Signals) (waiter : Option ℕ) (m : Machine) (p g cell : ℕ) → Lined m.threads m.monitors → m.pending ≡ None → p < length m.threads → is_ready_status (thread_at m.threads p).status ≡ true → g < length m.monitors → ((q : ℕ) → waiter ≡ Some q → (q < length m.threads) × (is_delayed_at cell (thread_at m.threads q).status ≡ true)) →
    LinesFit (signal_by signals waiter m p g)
signalled_by_lines signals None m p g cell h still there ready here found = lines_still m h still
signalled_by_lines signals.Wait (Some q) m p g cell h still there ready here found =
    let at = (found q refl).1 in
    let caller : Thread = record (thread_at m.threads p) { status = AtGate g } in
    let first = first_joined m.threads m.monitors g p caller (record { holder = Some q; line = p ∷ line_of m.monitors g }) h there here (ready_off _ ready) refl refl in
    let other : q ≡ p → ⊥ = λ e. ready_delayed cell (thread_at m.threads q).status (ap (λ j. is_ready_status (thread_at m.threads j).status) e ∙ ready) at in
    let same : thread_at (slice_set m.threads p caller) q ≡ thread_at m.threads q = get_or-set_other m.threads p q caller no_thread other in
    lines_still (change_places m g p q) (off_lined (slice_set m.threads p caller) _ q _ (delayed_off cell _ (ap (λ (t : Thread). is_delayed_at cell t.status) same ∙ at)) (λ k. refl) first) still
signalled_by_lines signals.Return (Some q) m p g cell h still there ready here found =
    lines_still (join_line m g q) (joined_lined m.threads m.monitors g q _ _ h (found q refl).0 here (delayed_off cell _ (found q refl).1) refl refl) still
signalled_by_lines signals.Continue (Some q) m p g cell h still there ready here found =
    lines_still (join_line m g q) (joined_lined m.threads m.monitors g q _ _ h (found q refl).0 here (delayed_off cell _ (found q refl).1) refl refl) still

pub signalled_lines : (m : Machine) (p g cell : ℕ) → Lined m.threads m.monitors → m.pending ≡ None → p < length m.threads → is_ready_status (thread_at m.threads p).status ≡ true → g < length m.monitors → LinesFit (signal m p g cell)
signalled_lines m p g cell h still there ready here =
    signalled_by_lines m.discipline.signals (waits_in m cell) (record m { permanents = slice_set m.permanents cell (pos 0) }) p g cell h still there ready here
    (λ q e. (let found = position-Some (λ (t : Thread). is_delayed_at cell t.status) m.threads q no_thread e in (found.0, found.1)))

admitted_at_lines : (pending : Option ℕ) (m : Machine) (p : ℕ) → Lined m.threads m.monitors → in_line_of pending (thread_at m.threads p).status ≡ true → LinesFit (admit_at pending m p)
admitted_at_lines None m p h at = absurd (cc)
admitted_at_lines (Some g) m p h at =
    let line = (monitor_at m g).line in
    let moved = left_lined m.threads m.monitors g p (record (thread_at m.threads p) { status = Ready }) (record { holder = Some p; line = without p line }) h at (λ k. refl) (without_gone p line (h.1 g)) (λ q ne. without_other p q line ne) (without_once p line (h.1 g)) in
    record { gate = moved.0; once = moved.1; pending = tt }

-- an admission keeps the lines
pub admitted_lines : (m : Machine) (p : ℕ) → LinesFit m → in_line m p ≡ true → LinesFit (admit_waiting m p)
admitted_lines m p h at = admitted_at_lines m.pending m p (lines_as m h) at

-- ---- what follows

-- a process that is ready is in no line, so each line is shorter than the list of processes
pub line_short : (m : Machine) (g p : ℕ) → LinesFit m → is_ready_status (thread_at m.threads p).status ≡ true → length (monitor_at m g).line < length m.threads
line_short m g p h ready =
    let line = (monitor_at m g).line in
    let new : has line p ≡ false = sym (h.gate g p) ∙ ready_off _ ready g in
    let few : length (line ++ p ∷ []) ≤ length m.threads = length-le_from_distinct_below (line ++ p ∷ []) (length m.threads) (pushed_once line p (h.once g) new) (λ q e. within q e (cases_eq q p)) in
    omega (arith, few, length-append line (p ∷ []))
  where
    within : (q : ℕ) → has ((monitor_at m g).line ++ p ∷ []) q ≡ true → (q ≡ p) ⊎ (q ≡ p → ⊥) → q < length m.threads
    within q e (inl same) = omega (arith, passes_within (λ (t : Thread). is_ready_status t.status) m.threads p no_thread refl ready, same)
    within q e (inr ne) = gate_within g m.threads q (h.gate g q ∙ sym (pushed_other (monitor_at m g).line p q ne) ∙ e)

first_at_gate : (m : Machine) (g : ℕ) (line : List ℕ) → LinesFit m → line ≡ (monitor_at m g).line → 2 ≤ length line → (p : ℕ) × (p < length m.threads) × (is_at_gate g (thread_at m.threads p).status ≡ true)
first_at_gate m g [] h e two = absurd (omega arith)
first_at_gate m g (p ∷ line) h e two =
    let at : is_at_gate g (thread_at m.threads p).status ≡ true = h.gate g p ∙ ap (λ l. has l p) (sym e) ∙ has_first p line in
    (p, gate_within g m.threads p at, at)

-- at the gate of a pending monitor is a process
pub pending_at_gate : (m : Machine) (g : ℕ) → LinesFit m → m.pending ≡ Some g → (p : ℕ) × (p < length m.threads) × (is_at_gate g (thread_at m.threads p).status ≡ true)
pending_at_gate m g h e =
    let two : 2 ≤ length (monitor_at m g).line = subst (Two m) e h.pending in
    first_at_gate m g (monitor_at m g).line h refl two
