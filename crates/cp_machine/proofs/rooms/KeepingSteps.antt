-- A step keeps each process inside what was reserved for it: one case for each item.
use Rattle.std.proofs.Common.{◌≡◌, ℕ, suc, ◌+◌, ◌<◌, ◌≤◌, List, [], ◌∷◌, length, Option, Some, None, Result, Ok, Bool, true, false, ap, sym, subst, arith, get_or-set_same, if◌then◌else◌}
use Rattle.cp_machine.proofs.Words.{ℤ, pos, slice_index_or, IfSome, Tables, item_at, component_at, IsSound, ListFits, InnerFits, CallFits, KindFits}
use Rattle.cp_machine.proofs.Words.{ResolvedArm, Argument, PlaceOrigin, ComponentKind, Bound, ErrorName, Address, is_true, Entry, Rest, Successor, Return}
use Rattle.cp_machine.proofs.Words.{InitEnd, Ready, Initialising, StackFits, MachineFits, rest_of, from_end}
use Rattle.cp_slots.specs.declared.tables.ComponentKind.TheVariants as kind
use Rattle.cp_store.specs.declared.memory.Address.TheVariants as address
use Rattle.cp_machine.specs.Calls.{open_call, call_in, call_by, start_inside, start_by, delay_in, delay_at, continue_from, continue_in, continue_by, continue_at}
use Rattle.cp_machine.specs.declared.discipline.Signals.{Signals}
use Rattle.cp_machine.specs.declared.discipline.Signals.TheVariants as signals
use Rattle.cp_machine.specs.Machine.{Machine, Thread, thread_at, no_thread, phase_at, is_initialised, is_uninitialised, is_unstarted, with_stack}
use Rattle.cp_machine.specs.Statements.{arm_for, has_label, gone_on}
use Rattle.cp_machine.proofs.rooms.Keeping.{Fit, either_fits, rest_fits, inner_fits, end_fits, length_rest, stack_fits, phase_fits, memory_fits, parameters_fit, kind_fits, behind_follows, opened_thread, left_fits}
use Rattle.cp_machine.proofs.rooms.KernelFits.{thread_fits, status_fits, entered_fits, delayed_fits, continued_fits, signalled_fits}
use Rattle.cp_machine.proofs.StoreLemmas.{kept_number, kept_frame}

arm_or : (P : Option ℕ → Type 0) (b : Bool) (body : Option ℕ) (others : Result (Option ℕ) ErrorName) (list : Option ℕ) → (if b then Ok body else others) ≡ Ok list → P body → (others ≡ Ok list → P list) → P list
arm_or P true body others list e h k = subst P (cc) h
arm_or P false body others list e h k = k e

-- the list of the arm that is chosen is one of the arms'
pub arm_is : (P : Option ℕ → Type 0) (z : ℤ) (arms : List ResolvedArm) → ((k : ℕ) (d : ResolvedArm) → k < length arms → P (slice_index_or arms k d).body) → (list : Option ℕ) → arm_for z arms ≡ Ok list → P list
arm_is P z [] h list e = absurd (cc)
arm_is P z (a ∷ arms) h list e = arm_or P (has_label z a.labels.items) a.body (arm_for z arms) list e (h 0 a (omega arith)) (λ f. arm_is P z arms (λ k d lt. h (suc k) d (omega arith)) list f)

module _ (r : Tables) (m : Machine) (pid : ℕ) (lt : pid < length m.threads) (sound : IsSound r) (h : MachineFits r m) where
  abbrev pub own : Thread
  own = thread_at m.threads pid

  -- a `for` goes on with a value
  pub goes_fits : (at : ℕ) (variable : PlaceOrigin) (list : Option ℕ) (es : List Entry) (need : ℕ) (z last : ℤ) → InnerFits r own.frame.routine need list → length es + 1 + need ≤ r.depth → StackFits r own.frame (Successor at z last ∷ es) → MachineFits r (gone_on m pid at variable list es last z)
  goes_fits at variable list es need z last i d s =
      let one : length (Successor at z last ∷ es) ≤ length es + 1 = omega arith in
      memory_fits r _ pid _ (kept_number _ _ z) (stack_fits r m pid _ (inner_fits r own.frame list need (length es) _ i one d s) h)

  module _ (at : ℕ) (es : List Entry) (s : StackFits r own.frame (Rest at ∷ es)) (n : ListFits r own.frame.routine (item_at r at).need (item_at r at).next) where
    pub next_fits : StackFits r own.frame (rest_of (item_at r at).next es)
    next_fits = rest_fits r own.frame (item_at r at).next (item_at r at).need es n s.0.deep s.1

    pub next_machine : MachineFits r (with_stack m pid (rest_of (item_at r at).next es))
    next_machine = stack_fits r m pid _ next_fits h

    -- a list above what follows the item
    pub above_fits : (list : Option ℕ) → InnerFits r own.frame.routine (item_at r at).need list → StackFits r own.frame (rest_of list (rest_of (item_at r at).next es))
    above_fits list i = inner_fits r own.frame list (item_at r at).need (length es) _ i (length_rest (item_at r at).next es) s.0.deep next_fits

    -- a list above the item where a loop begins again
    pub again_fits : (list : Option ℕ) (again : ℕ) → InnerFits r own.frame.routine (item_at r at).need list → ListFits r own.frame.routine (item_at r at).need (Some again) → StackFits r own.frame (rest_of list (Rest again ∷ es))
    again_fits list again i a =
        let one : length (Rest again ∷ es) ≤ length es + 1 = omega arith in
        inner_fits r own.frame list (item_at r at).need (length es) _ i one s.0.deep (rest_fits r own.frame (Some again) (item_at r at).need es a s.0.deep s.1)

    called_fits : (routine component : ℕ) (arguments : List Argument) (bounds : List Bound) (slot monitor : Option ℕ) → CallFits r own.frame.routine (item_at r at).need routine arguments → IfSome monitor (λ number. number < r.monitors) → MachineFits r (open_call r m pid routine component arguments bounds slot monitor (rest_of (item_at r at).next es))
    called_fits routine component arguments bounds slot monitor c inside =
        let follows = behind_follows r own (h.each pid lt) routine component (item_at r at).need arguments c in
        let few = length_rest (item_at r at).next es in
        let two : 2 ≤ (item_at r at).need = c.deep in
        let room : length (rest_of (item_at r at).next es) + 1 ≤ r.depth = omega (arith, few, two, s.0.deep) in
        let t = opened_thread r own (h.each pid lt) routine component (item_at r at).need arguments c (Return own.frame slot monitor) (rest_of (item_at r at).next es) (length es) few s.0.deep (follows, room, inside, next_fits) in
        memory_fits r _ pid _ (kept_frame _ _ arguments bounds) (thread_fits r m pid _ (λ l. t) h)

    called_in_fits : (k : ComponentKind) (routine component : ℕ) (arguments : List Argument) (bounds : List Bound) (slot : Option ℕ) → KindFits r k → CallFits r own.frame.routine (item_at r at).need routine arguments → Fit r (call_in r m pid k routine component arguments bounds slot (rest_of (item_at r at).next es))
    called_in_fits (kind.Monitor monitor) routine component arguments bounds slot inside c = entered_fits r _ pid monitor (called_fits routine component arguments bounds slot (Some monitor) c inside)
    called_in_fits kind.Class routine component arguments bounds slot inside c = called_fits routine component arguments bounds slot None c tt
    called_in_fits (kind.Process number) routine component arguments bounds slot inside c = next_machine

    pub called_by_fits : (is_entry : Bool) (routine component : ℕ) (arguments : List Argument) (bounds : List Bound) (slot : Option ℕ) → CallFits r own.frame.routine (item_at r at).need routine arguments → Fit r (call_by r m pid (item_at r at).line is_entry routine component arguments bounds slot (rest_of (item_at r at).next es))
    called_by_fits false routine component arguments bounds slot c = called_fits routine component arguments bounds slot None c tt
    called_by_fits true routine component arguments bounds slot c =
        either_fits r (is_initialised (phase_at m component)) _ _ (called_in_fits (component_at r component).kind routine component arguments bounds slot (kind_fits r component sound) c) h

    start_inside_fits : (routine component : ℕ) (arguments : List Argument) (bounds : List Bound) → CallFits r own.frame.routine (item_at r at).need routine arguments → Fit r (start_inside r m pid (item_at r at).line routine component arguments bounds (rest_of (item_at r at).next es))
    start_inside_fits routine component arguments bounds c =
        let follows = behind_follows r own (h.each pid lt) routine component (item_at r at).need arguments c in
        let few = length_rest (item_at r at).next es in
        let two : 2 ≤ (item_at r at).need = c.deep in
        let room : length (rest_of (item_at r at).next es) + 1 ≤ r.depth = omega (arith, few, two, s.0.deep) in
        let t = opened_thread r own (h.each pid lt) routine component (item_at r at).need arguments c (InitEnd own.frame component) (rest_of (item_at r at).next es) (length es) few s.0.deep (follows, room, next_fits) in
        either_fits r (is_uninitialised (phase_at m component)) _ _ (phase_fits r _ component Initialising (parameters_fit r _ pid _ arguments bounds (thread_fits r m pid _ (λ l. t) h))) h

    pub started_fits : (k : ComponentKind) (routine component : ℕ) (arguments : List Argument) (bounds : List Bound) → CallFits r own.frame.routine (item_at r at).need routine arguments → Fit r (start_by r m pid (item_at r at).line k routine component arguments bounds (rest_of (item_at r at).next es))
    started_fits (kind.Process q) routine component arguments bounds c =
        either_fits r (is_unstarted (thread_at m.threads q).status) _ _ (status_fits r _ q Ready (parameters_fit r _ pid _ arguments bounds next_machine)) h
    started_fits _ routine component arguments bounds c = start_inside_fits routine component arguments bounds c

    delayed_in_fits : (cell : ℕ) (k : ComponentKind) → KindFits r k → Fit r (delay_in m pid (item_at r at).line cell k (rest_of (item_at r at).next es))
    delayed_in_fits cell (kind.Monitor monitor) inside =
        either_fits r (is_true (slice_index_or m.permanents cell (pos 0))) _ _ h (delayed_fits r _ pid monitor cell next_machine inside)
    delayed_in_fits cell _ inside = next_machine

    pub delay_at_fits : (a : Address) → Fit r (delay_at r m pid (item_at r at).line (rest_of (item_at r at).next es) a)
    delay_at_fits (address.Permanent cell) = delayed_in_fits cell _ (kind_fits r own.frame.component sound)
    delay_at_fits (address.Local cell) = next_machine

continued_from_fits : (r : Tables) (m : Machine) (pid cell : ℕ) (es : List Entry) → StackFits r (thread_at m.threads pid).frame es → MachineFits r m → Fit r (continue_from r m pid cell es)
continued_from_fits r m pid cell (Return caller slot (Some monitor) ∷ es) s h = continued_fits r _ monitor cell (left_fits r m pid caller slot es s.0 s.3 h) s.2
continued_from_fits r m pid cell _ s h = h

-- the frame stays where the stack changes
pub frame_kept : (m : Machine) (pid : ℕ) (stack : List Entry) → pid < length m.threads → (thread_at (with_stack m pid stack).threads pid).frame ≡ (thread_at m.threads pid).frame
frame_kept m pid stack lt = ap (λ t. t.frame) (get_or-set_same m.threads pid (record (thread_at m.threads pid) { stack = stack }) no_thread lt)

continued_in_fits : (r : Tables) (m : Machine) (pid cell : ℕ) (k : ComponentKind) (rest : List Entry) → MachineFits r m → StackFits r (thread_at m.threads pid).frame rest → Fit r (continue_in m pid cell k rest)
continued_in_fits r m pid cell (kind.Monitor monitor) rest h n = signalled_fits r _ pid monitor cell (stack_fits r m pid rest n h)
continued_in_fits r m pid cell kind.Class rest h n = stack_fits r m pid rest n h
continued_in_fits r m pid cell (kind.Process number) rest h n = stack_fits r m pid rest n h

continue_by_fits : (r : Tables) (signals : Signals) (m : Machine) (pid cell : ℕ) (next : Option ℕ) (es : List Entry) → pid < length m.threads → MachineFits r m → StackFits r (thread_at m.threads pid).frame es → StackFits r (thread_at m.threads pid).frame (rest_of next es) → Fit r (continue_by signals r m pid cell next es)
continue_by_fits r signals.Return m pid cell next es lt h s n =
    let e = end_fits r _ es s in
    continued_from_fits r _ pid cell (from_end es) (subst (λ f. StackFits r f (from_end es)) (sym (frame_kept m pid (from_end es) lt)) e) (stack_fits r m pid _ e h)
continue_by_fits r signals.Continue m pid cell next es lt h s n = continued_in_fits r m pid cell (component_at r (thread_at m.threads pid).frame.component).kind (rest_of next es) h n
continue_by_fits r signals.Wait m pid cell next es lt h s n = continued_in_fits r m pid cell (component_at r (thread_at m.threads pid).frame.component).kind (rest_of next es) h n

pub continue_at_fits : (r : Tables) (m : Machine) (pid : ℕ) (next : Option ℕ) (es : List Entry) (a : Address) → pid < length m.threads → MachineFits r m → StackFits r (thread_at m.threads pid).frame es → StackFits r (thread_at m.threads pid).frame (rest_of next es) → Fit r (continue_at r m pid next es a)
continue_at_fits r m pid next es (address.Permanent cell) lt h s n = continue_by_fits r m.discipline.signals m pid cell next es lt h s n
continue_at_fits r m pid next es (address.Local cell) lt h s n = stack_fits r m pid _ n h
