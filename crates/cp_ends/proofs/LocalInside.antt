-- A local step changes no status, opens no call of an entry of a monitor, and ends none.
use Rattle.std.proofs.Common.{◌≡◌, ◌∙◌, ◌<◌, ℕ, Bool, true, false, List, [], ◌∷◌, Option, None, Some, Result, Ok, Err, ap, arith, get_or-set_same, if◌then◌else◌, length, refl, sym, ◌⊎◌, inl, inr}
use Rattle.cp_machine.specs.Machine.{Machine, Thread, is_initialised, is_uninitialised, is_unstarted, no_thread, phase_at, thread_at, with_permanents, with_stack, with_thread}
use Rattle.cp_machine.specs.Memory.{address_of, arguments_of, component_of, set_of, value_of}
use Rattle.cp_machine.specs.Stack.{from_end, rest_of}
use Rattle.cp_machine.specs.Statements.{Stepped, arm_for, fault, is_beyond, local, next_value, successor_step, with_value}
use Rattle.cp_machine.specs.Step.{act, is_local, step_at, take_top}
use Rattle.cp_machine.specs.declared.event.Event.{Event}
use Rattle.cp_machine.specs.declared.process.Entry.{Entry}
use Rattle.cp_machine.specs.declared.process.Entry.TheVariants.{InitEnd, Rest, Return, Successor}
use Rattle.cp_machine.specs.declared.shown.Shown.{Shown}
use Rattle.cp_machine.specs.declared.state.Phase.{Phase}
use Rattle.cp_machine.specs.declared.state.Phase.TheVariants.{Initialised}
use Rattle.cp_slots.specs.Tables.{Tables, component_at, item_at, routine_at}
use Rattle.cp_slots.specs.declared.item.Action.{Action}
use Rattle.cp_slots.specs.declared.item.Action.TheVariants.{Assert, Assign, AssignSet, Block, Call, Case, Continue, Copy, Cycle, Delay, Display, Empty, For, If, Start, Until, While}
use Rattle.cp_slots.specs.declared.item.Item.{Item}
use Rattle.cp_slots.specs.declared.place.Argument.{Argument}
use Rattle.cp_slots.specs.declared.tables.ComponentKind.{ComponentKind}
use Rattle.cp_store.specs.Values.{check_range, is_true}
use Rattle.cp_store.specs.declared.argument.Bound.{Bound}
use Rattle.cp_store.specs.declared.error.ErrorName.{ErrorName}
use Rattle.cp_store.specs.declared.memory.Address.{Address}
use Rattle.std.proofs.lemmas.Bool.{cases_eq}
use Rattle.std.proofs.lemmas.List.{length-set}
use Rattle.std.specs.Ordering.{int_eq}
use Rattle.std.specs.Prelude.{pos, slice_index_or, slice_set, ℤ, ◌==◌}
use Rattle.cp_machine.proofs.ListLemmas.{set_related}
use Rattle.cp_machine.proofs.Stepping.{Walking, show_either, step_blind}
use Rattle.cp_slots.specs.declared.tables.ComponentKind.TheVariants as kind
use Rattle.cp_store.specs.declared.memory.Address.TheVariants as address
use Rattle.cp_store.specs.declared.memory.Frame.{Frame}
use Rattle.cp_store.specs.Sets as sets
use Rattle.cp_machine.specs.Calls.{call_in, call_by, start_inside, start_by, start_process, return_to, delay_in, delay_at, continue_from, continue_in, continue_by, continue_at}
use Rattle.cp_machine.specs.declared.discipline.Signals.{Signals}
use Rattle.cp_machine.specs.declared.discipline.Signals.TheVariants as signals
use Rattle.cp_machine.specs.Statements.{show, shown_as}
use Rattle.cp_machine.specs.Machine.{is_ready_status, is_waiting}
use Rattle.cp_machine.specs.declared.event.Event.TheVariants.{Local}
use Rattle.cp_machine.proofs.CallerLemmas.{ready_thread}
use Rattle.cp_machine.proofs.Unmoved.{step_others}
use Rattle.cp_effect_laws.specs.Effects.{IsToStep}
use Rattle.cp_endless_laws.specs.Silent.{has_monitor_return, in_call_on_slots, without_output}
use Rattle.cp_ends.specs.Legs.{IsAlike}

rest_inside : (o : Option ℕ) (es : List Entry) → has_monitor_return (rest_of o es) ≡ has_monitor_return es
rest_inside None es = refl
rest_inside (Some at) es = refl

from_end_inside : (es : List Entry) → has_monitor_return (from_end es) ≡ has_monitor_return es
from_end_inside [] = refl
from_end_inside (Rest at ∷ es) = from_end_inside es
from_end_inside (Successor at value last ∷ es) = from_end_inside es
from_end_inside (Return caller result monitor ∷ es) = refl
from_end_inside (InitEnd caller component ∷ es) = refl

module _ (r : Tables) (m : Machine) (pid : ℕ) (there : pid < length m.threads) where
  abbrev inside : Machine → Bool
  inside n = has_monitor_return (thread_at n.threads pid).stack

  -- where its event is local, its process is in a call as it was
  record Kept (x : Stepped) : Type 0 where
    same : is_local x.event ≡ true → inside x.machine ≡ inside m

  -- a control stack as the process had it, but for what is within a call
  abbrev Same : List Entry → Type 0
  Same es = has_monitor_return es ≡ inside m

  own : (ts : List Thread) (x : Thread) → pid < length ts → (thread_at (slice_set ts pid x) pid).stack ≡ x.stack
  own ts x lt = ap (λ (t : Thread). t.stack) (get_or-set_same ts pid x no_thread lt)

  still_there : (x : Thread) → pid < length (slice_set m.threads pid x)
  still_there x = omega (arith, length-set m.threads pid x, there)

  set_once : (x : Thread) → Same x.stack → has_monitor_return (thread_at (slice_set m.threads pid x) pid).stack ≡ inside m
  set_once x h = ap has_monitor_return (own m.threads x there) ∙ h

  set_twice : (x y : Thread) → y.stack ≡ (thread_at (slice_set m.threads pid x) pid).stack → Same x.stack → has_monitor_return (thread_at (slice_set (slice_set m.threads pid x) pid y) pid).stack ≡ inside m
  set_twice x y e h = ap has_monitor_return (own (slice_set m.threads pid x) y (still_there x) ∙ e ∙ own m.threads x there) ∙ h

  going : (stack : List Entry) → Same stack → Kept (local (with_stack m pid stack))
  going stack h = record { same = λ is. set_once _ h }

  -- the control stack changes, and then cells do
  writing : (stack : List Entry) (permanents : List ℤ) (x : Thread) → x.stack ≡ (thread_at (with_stack m pid stack).threads pid).stack → Same stack → Kept (local (with_thread (with_permanents (with_stack m pid stack) permanents) pid x))
  writing stack permanents x e h = record { same = λ is. set_twice _ x e h }

  either : (b : Bool) {x y : Stepped} → Kept x → Kept y → Kept (if b then x else y)
  either true h k = h
  either false h k = k

  evaluated : {A : Type 0} (line : ℕ) (x : Result A ErrorName) {go : A → Stepped} → ((v : A) → Kept (go v)) → Kept (with_value x (fault m pid line) go)
  evaluated line (Ok v) f = f v
  evaluated line (Err e) f = record { same = λ is. refl }

  next : (o : Option ℕ) (es : List Entry) → Same es → Same (rest_of o es)
  next o es h = rest_inside o es ∙ h

  -- ---- calls, `delay` and `continue`

  called_in : (k : ComponentKind) (routine component : ℕ) (arguments : List Argument) (bounds : List Bound) (result : Option ℕ) (rest : List Entry) → Same rest → Kept (call_in r m pid k routine component arguments bounds result rest)
  called_in (kind.Monitor monitor) routine component arguments bounds result rest h = record { same = λ bad. absurd (cc) }
  called_in kind.Class routine component arguments bounds result rest h = record { same = λ is. set_twice _ _ refl (next (routine_at r routine).body (Return (thread_at m.threads pid).frame result None ∷ rest) h) }
  called_in (kind.Process number) routine component arguments bounds result rest h = going rest h

  called_by : (line : ℕ) (is_entry : Bool) (routine component : ℕ) (arguments : List Argument) (bounds : List Bound) (result : Option ℕ) (rest : List Entry) → Same rest → Kept (call_by r m pid line is_entry routine component arguments bounds result rest)
  called_by line false routine component arguments bounds result rest h = record { same = λ is. set_twice _ _ refl (next (routine_at r routine).body (Return (thread_at m.threads pid).frame result None ∷ rest) h) }
  called_by line true routine component arguments bounds result rest h =
      either (is_initialised (phase_at m component)) (called_in (component_at r component).kind routine component arguments bounds result rest h) (record { same = λ is. refl })

  started : (line : ℕ) (k : ComponentKind) (routine component : ℕ) (arguments : List Argument) (bounds : List Bound) (rest : List Entry) → Same rest → Kept (start_by r m pid line k routine component arguments bounds rest)
  started line (kind.Process q) routine component arguments bounds rest h = either (is_unstarted (thread_at m.threads q).status) (record { same = λ bad. absurd (cc) }) (record { same = λ is. refl })
  started line _ routine component arguments bounds rest h =
      either (is_uninitialised (phase_at m component)) (record { same = λ is. set_twice _ _ refl (next (routine_at r routine).body (InitEnd (thread_at m.threads pid).frame component ∷ rest) h) }) (record { same = λ is. refl })

  returned : (caller : Frame) (result monitor : Option ℕ) (es : List Entry) → has_monitor_return (Return caller result monitor ∷ es) ≡ inside m → Kept (return_to r m pid caller result monitor es)
  returned caller result None es h = record { same = λ is. set_once _ h }
  returned caller result (Some monitor) es h = record { same = λ bad. absurd (cc) }

  delayed_in : (line cell : ℕ) (k : ComponentKind) (rest : List Entry) → Same rest → Kept (delay_in m pid line cell k rest)
  delayed_in line cell (kind.Monitor monitor) rest h = either (is_true (slice_index_or m.permanents cell (pos 0))) (record { same = λ is. refl }) (record { same = λ bad. absurd (cc) })
  delayed_in line cell _ rest h = going rest h

  delayed_at : (line : ℕ) (rest : List Entry) (a : Address) → Same rest → Kept (delay_at r m pid line rest a)
  delayed_at line rest (address.Permanent cell) h = delayed_in line cell (component_at r (thread_at m.threads pid).frame.component).kind rest h
  delayed_at line rest (address.Local cell) h = going rest h

  continued_from : (cell : ℕ) (es : List Entry) (stack : List Entry) → Same stack → Kept (continue_from r (with_stack m pid stack) pid cell es)
  continued_from cell (Return caller result (Some monitor) ∷ es) stack h = record { same = λ bad. absurd (cc) }
  continued_from cell _ stack h = going stack h

  continued_in : (cell : ℕ) (k : ComponentKind) (rest : List Entry) → Same rest → Kept (continue_in m pid cell k rest)
  continued_in cell (kind.Monitor monitor) rest h = record { same = λ bad. absurd (cc) }
  continued_in cell kind.Class rest h = going rest h
  continued_in cell (kind.Process number) rest h = going rest h

  continued_by : (signals : Signals) (cell : ℕ) (o : Option ℕ) (es : List Entry) → Same es → Kept (continue_by signals r m pid cell o es)
  continued_by signals.Return cell o es h = continued_from cell (from_end es) (from_end es) (from_end_inside es ∙ h)
  continued_by signals.Continue cell o es h = continued_in cell (component_at r (thread_at m.threads pid).frame.component).kind (rest_of o es) (next o es h)
  continued_by signals.Wait cell o es h = continued_in cell (component_at r (thread_at m.threads pid).frame.component).kind (rest_of o es) (next o es h)

  continued_at : (o : Option ℕ) (es : List Entry) (a : Address) → Same es → Kept (continue_at r m pid o es a)
  continued_at o es (address.Permanent cell) h = continued_by m.discipline.signals cell o es h
  continued_at o es (address.Local cell) h = going (rest_of o es) (next o es h)

  -- ---- a step

  if_either : (b : Bool) (xs ys : List Entry) → Same xs → Same ys → Same (if b then xs else ys)
  if_either true xs ys h k = h
  if_either false xs ys h k = k

  acted : (at : ℕ) (item : Item) (a : Action) (es : List Entry) → Same es → Kept (act r m pid at item a es)
  acted at item Empty es h = going _ (next item.next es h)
  acted at item (Assign target value low high) es h =
      evaluated item.line (value_of m pid value) (λ v.
      evaluated item.line (address_of m pid target) (λ p.
      evaluated item.line (check_range low high v) (λ u. writing _ _ _ refl (next item.next es h))))
  acted at item (AssignSet target value low high) es h =
      evaluated item.line (set_of m pid value) (λ v.
      evaluated item.line (address_of m pid target) (λ p.
      evaluated item.line (sets.check_members low high v) (λ u. writing _ _ _ refl (next item.next es h))))
  acted at item (Copy target source size) es h =
      evaluated item.line (address_of m pid source) (λ from.
      evaluated item.line (address_of m pid target) (λ to. writing _ _ _ refl (next item.next es h)))
  acted at item (Block list) es h = going _ (next list _ (next item.next es h))
  acted at item (If test list other) es h = evaluated item.line (value_of m pid test) (λ v. going _ (next (if is_true v then list else other) _ (next item.next es h)))
  acted at item (Case selector arms) es h =
      evaluated item.line (value_of m pid selector) (λ v.
      evaluated item.line (arm_for v arms.items) (λ list. going _ (next list _ (next item.next es h))))
  acted at item (Assert test said) es h = evaluated item.line (value_of m pid test) (λ v. either (is_true v) (going _ (next item.next es h)) (record { same = λ is. refl }))
  acted at item (While test list again) es h =
      evaluated item.line (value_of m pid test) (λ v. going _ (if_either (is_true v) (rest_of list (Rest again ∷ es)) (rest_of item.next es) (next list (Rest again ∷ es) h) (next item.next es h)))
  acted at item (Until test list again) es h =
      evaluated item.line (value_of m pid test) (λ v. going _ (if_either (is_true v) (rest_of item.next es) (rest_of list (Rest again ∷ es)) (next item.next es h) (next list (Rest again ∷ es) h)))
  acted at item (For variable low high first last down list) es h =
      evaluated item.line (value_of m pid first) (λ x.
      evaluated item.line (value_of m pid last) (λ y.
      either (is_beyond down x y) (going _ (next item.next es h))
      (evaluated item.line (check_range low high x) (λ z. writing _ _ _ refl (next list (Successor at z y ∷ es) h)))))
  acted at item (Cycle list) es h = going _ (next list (Rest at ∷ es) h)
  acted at item (Call routine component is_entry arguments result) es h =
      evaluated item.line (component_of m pid component) (λ c.
      evaluated item.line (arguments_of m pid arguments.items) (λ bs. called_by item.line is_entry routine c arguments.items bs result (rest_of item.next es) (next item.next es h)))
  acted at item (Start component routine arguments) es h =
      evaluated item.line (component_of m pid component) (λ c.
      evaluated item.line (arguments_of m pid arguments.items) (λ bs. started item.line (component_at r c).kind routine c arguments.items bs (rest_of item.next es) (next item.next es h)))
  acted at item (Delay place) es h = evaluated item.line (address_of m pid place) (λ p. delayed_at item.line (rest_of item.next es) p (next item.next es h))
  acted at item (Continue place) es h = evaluated item.line (address_of m pid place) (λ p. continued_at item.next es p h)
  acted at item (Display value shown) es h = evaluated item.line (value_of m pid value) (λ v. show_either Kept m pid (rest_of item.next es) (shown_as shown v) (record { same = λ bad. absurd (cc) }) (record { same = λ bad. absurd (cc) }))

  succeeded : (at : ℕ) (item : Item) (a : Action) (es : List Entry) (z last : ℤ) → Same es → Kept (successor_step m pid at item a es z last)
  succeeded at item (For variable low high first end down list) es z last h =
      either (int_eq z last) (going _ (next item.next es h))
      (evaluated item.line (next_value down low high z) (λ v. writing _ _ _ refl (next list (Successor at v last ∷ es) h)))
  succeeded at item _ es z last h = going _ (next item.next es h)

  topped : (es : List Entry) → Same es → Kept (take_top r m pid es)
  topped [] h = record { same = λ bad. absurd (cc) }
  topped (Rest at ∷ es) h = acted at (item_at r at) (item_at r at).action es h
  topped (Successor at z last ∷ es) h = succeeded at (item_at r at) (item_at r at).action es z last h
  topped (Return caller result monitor ∷ es) h = returned caller result monitor es h
  topped (InitEnd caller component ∷ es) h = record { same = λ is. set_once _ h }

  pub local_inside : is_local (step_at r m pid).event ≡ true → inside (step_at r m pid).machine ≡ inside m
  local_inside = (topped (thread_at m.threads pid).stack refl).same

-- ---- statuses

-- where its event is local, each process has the status that it had
abbrev Still : Machine → Stepped → Type 0
Still m x = is_local x.event ≡ true → (q : ℕ) → (thread_at x.machine.threads q).status ≡ (thread_at m.threads q).status

still_walking : (r : Tables) (m : Machine) (pid : ℕ) → Walking r m pid [] (λ x y. Still m x) (λ n. (q : ℕ) → (thread_at n.threads q).status ≡ (thread_at m.threads q).status)
still_walking r m pid =
    record {
      begins = λ q. refl;
      changed = λ n permanents x e k q. set_related (λ (t u : Thread). u.status ≡ t.status) (λ t. refl) n.threads pid x no_thread e q ∙ k q;
      initialised = λ n component k. k;
      goes = λ n k is. k;
      fails = λ event is q. refl;
      enters = λ component monitor is n k bad. absurd (cc);
      leaves = λ monitor n k bad. absurd (cc);
      delays = λ monitor cell n k bad. absurd (cc);
      continues = λ monitor cell n k bad. absurd (cc);
      signals = λ component monitor is cell n k bad. absurd (cc);
      ends = λ bad. absurd (cc);
      shows = λ rest v. show_either (Still m) m pid rest v (λ bad. absurd (cc)) (λ bad. absurd (cc));
    }

pub local_status : (r : Tables) (m : Machine) (pid : ℕ) → is_local (step_at r m pid).event ≡ true → (q : ℕ) → (thread_at (step_at r m pid).machine.threads q).status ≡ (thread_at m.threads q).status
local_status r m pid is = step_blind r m pid [] (λ x y. Still m x) (λ n. (q : ℕ) → (thread_at n.threads q).status ≡ (thread_at m.threads q).status) (still_walking r m pid) (λ n phases bindings k. k) (λ q start n k bad. absurd (cc)) is

-- ---- what is seen

pub local_alike : (r : Tables) (m : Machine) (pid : ℕ) → IsToStep r m pid → (step_at r m pid).event ≡ Local → IsAlike m (without_output (step_at r m pid).machine)
local_alike r m pid may is =
    record {
      waits = λ q. ap is_waiting (local_status r m pid (ap is_local is) q);
      ready = λ q. ap is_ready_status (local_status r m pid (ap is_local is) q);
      inside = λ q. by q (cases_eq q pid);
    }
  where
    after : Machine
    after = without_output (step_at r m pid).machine

    by : (q : ℕ) → (q ≡ pid) ⊎ (q ≡ pid → ⊥) → in_call_on_slots after q ≡ in_call_on_slots m q
    by q (inl e) = ap (in_call_on_slots after) e ∙ local_inside r m pid (ready_thread m pid may.ready) (ap is_local is) ∙ ap (in_call_on_slots m) (sym e)
    by q (inr ne) = ap (λ b. has_monitor_return b.stack) ((step_others r m pid).bodies q ne)
