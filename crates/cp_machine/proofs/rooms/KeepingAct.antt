-- A step keeps each process inside what was reserved for it.
use Rattle.std.proofs.Common.{◌≡◌, ℕ, ◌<◌, ◌≤◌, List, [], ◌∷◌, length, Option, Some, None, Result, Ok, Err, if◌then◌else◌, Bool, true, false, refl, subst, arith}
use Rattle.cp_machine.proofs.Words.{ℤ, ◌==◌, int_eq, Tables, item_at, component_at, IsSound, ListFits, InnerFits, ActionFits, Action, ErrorName, check_range}
use Rattle.cp_machine.proofs.Words.{is_true, Entry, Rest, Successor, Return, InitEnd, Ended, Initialised, MOST_SHOWN, StackFits, MachineFits, EntryFits}
use Rattle.cp_machine.proofs.Words.{Machine, thread_at, with_stack, value_of, set_of, address_of, component_of, arguments_of, rest_of, arm_for, is_beyond}
use Rattle.cp_machine.proofs.Words.{next_value, successor_step, local, fault, with_value, act, take_top, step_at}
use Rattle.cp_slots.specs.declared.item.Action.TheVariants.{Empty, Assign, AssignSet, Copy, Block, If, Case, Assert, While, Until, For, Cycle, Call, Start, Delay, Continue, Display}
use Rattle.cp_store.specs.Sets as sets
use Rattle.cp_machine.proofs.rooms.Keeping.{Fit, value_fits, either_fits, either_stack, stack_fits, phase_fits, output_fits, memory_fits, left_fits}
use Rattle.cp_machine.proofs.rooms.KernelFits.{status_fits, let_in_fits}
use Rattle.cp_machine.proofs.rooms.KeepingSteps.{arm_is, goes_fits, next_fits, next_machine, above_fits, again_fits, called_by_fits, started_fits, delay_at_fits, continue_at_fits}
use Rattle.cp_machine.proofs.StoreLemmas.{kept_number, kept_set, kept_copy}

list_option : (b : Bool) (P : Option ℕ → Type 0) (x y : Option ℕ) → P x → P y → P (if b then x else y)
list_option true P x y h k = h
list_option false P x y h k = k

module _ (r : Tables) (m : Machine) (pid : ℕ) (lt : pid < length m.threads) (sound : IsSound r) (h : MachineFits r m) (at : ℕ) (es : List Entry) (s : StackFits r (thread_at m.threads pid).frame (Rest at ∷ es)) (n : ListFits r (thread_at m.threads pid).frame.routine (item_at r at).need (item_at r at).next) where
  abbrev Fits : Action → Type 0
  Fits a = ActionFits r (thread_at m.threads pid).frame.routine (item_at r at).need a

  going : MachineFits r (with_stack m pid (rest_of (item_at r at).next es))
  going = next_machine r m pid lt sound h at es s n

  -- a list above what follows the item
  with_list : (list : Option ℕ) → InnerFits r (thread_at m.threads pid).frame.routine (item_at r at).need list → StackFits r (thread_at m.threads pid).frame (rest_of list (rest_of (item_at r at).next es))
  with_list list i = above_fits r m pid lt sound h at es s n list i

  with_again : (list : Option ℕ) (again : ℕ) → InnerFits r (thread_at m.threads pid).frame.routine (item_at r at).need list → ListFits r (thread_at m.threads pid).frame.routine (item_at r at).need (Some again) → StackFits r (thread_at m.threads pid).frame (rest_of list (Rest again ∷ es))
  with_again list again i a = again_fits r m pid lt sound h at es s n list again i a

  act_fits : (a : Action) → Fits a → Fit r (act r m pid at (item_at r at) a es)
  act_fits Empty a = going
  act_fits (Assign target value low high) a =
      value_fits r (value_of m pid value) _ _ (λ e. h) (λ v.
      value_fits r (address_of m pid target) _ _ (λ e. h) (λ p.
      value_fits r (check_range low high v) _ _ (λ e. h) (λ w. memory_fits r _ pid _ (kept_number _ p w) going)))
  act_fits (AssignSet target value low high) a =
      value_fits r (set_of m pid value) _ _ (λ e. h) (λ v.
      value_fits r (address_of m pid target) _ _ (λ e. h) (λ p.
      value_fits r (sets.check_members low high v) _ _ (λ e. h) (λ w. memory_fits r _ pid _ (kept_set _ p w) going)))
  act_fits (Copy target source size) a =
      value_fits r (address_of m pid source) _ _ (λ e. h) (λ from.
      value_fits r (address_of m pid target) _ _ (λ e. h) (λ to. memory_fits r _ pid _ (kept_copy _ to from size) going))
  act_fits (Block list) a = stack_fits r m pid _ (with_list list a) h
  act_fits (If test list other) a =
      value_fits r (value_of m pid test) _ _ (λ e. h) (λ v.
      stack_fits r m pid _ (with_list _ (list_option (is_true v) (InnerFits r (thread_at m.threads pid).frame.routine (item_at r at).need) list other a.0 a.1)) h)
  act_fits (Case selector arms) a =
      value_fits r (value_of m pid selector) _ _ (λ e. h) (λ v. arms_fit v (arm_for v arms.items) refl)
    where
      arms_fit : (v : ℤ) (o : Result (Option ℕ) ErrorName) → arm_for v arms.items ≡ o → Fit r (with_value o (fault m pid (item_at r at).line) (λ list. local (with_stack m pid (rest_of list (rest_of (item_at r at).next es)))))
      arms_fit v (Err e) is = h
      arms_fit v (Ok list) is = stack_fits r m pid _ (with_list list (arm_is (InnerFits r (thread_at m.threads pid).frame.routine (item_at r at).need) v arms.items a list is)) h
  act_fits (Assert test said) a = value_fits r (value_of m pid test) _ _ (λ e. h) (λ v. either_fits r (is_true v) _ _ going h)
  act_fits (While test list again) a =
      value_fits r (value_of m pid test) _ _ (λ e. h) (λ v. stack_fits r m pid _ (either_stack r _ (is_true v) _ _ (with_again list again a.0 a.1) (next_fits r m pid lt sound h at es s n)) h)
  act_fits (Until test list again) a =
      value_fits r (value_of m pid test) _ _ (λ e. h) (λ v. stack_fits r m pid _ (either_stack r _ (is_true v) _ _ (next_fits r m pid lt sound h at es s n) (with_again list again a.0 a.1)) h)
  act_fits (For variable low high first last down list) a =
      value_fits r (value_of m pid first) _ _ (λ e. h) (λ x.
      value_fits r (value_of m pid last) _ _ (λ e. h) (λ y.
      either_fits r (is_beyond down x y) _ _ going
      (value_fits r (check_range low high x) _ _ (λ e. h) (λ z. goes_fits r m pid lt sound h at variable list es (item_at r at).need z y a s.0.deep s))))
  act_fits (Cycle list) a = stack_fits r m pid _ (with_again list at a (let same : (item_at r at).need ≤ (item_at r at).need = omega arith in record { place = s.0.nests.place; same = s.0.nests.same; fits = same })) h
  act_fits (Call routine component is_entry arguments slot) a =
      value_fits r (component_of m pid component) _ _ (λ e. h) (λ c.
      value_fits r (arguments_of m pid arguments.items) _ _ (λ e. h) (λ bs. called_by_fits r m pid lt sound h at es s n is_entry routine c arguments.items bs slot a))
  act_fits (Start component routine arguments) a =
      value_fits r (component_of m pid component) _ _ (λ e. h) (λ c.
      value_fits r (arguments_of m pid arguments.items) _ _ (λ e. h) (λ bs. started_fits r m pid lt sound h at es s n (component_at r c).kind routine c arguments.items bs a))
  act_fits (Delay place) a = value_fits r (address_of m pid place) _ _ (λ e. h) (λ p. delay_at_fits r m pid lt sound h at es s n p)
  act_fits (Continue place) a =
      value_fits r (address_of m pid place) _ _ (λ e. h) (λ p. continue_at_fits r m pid (item_at r at).next es p lt h s.1 (next_fits r m pid lt sound h at es s n))
  act_fits (Display value kind) a =
      value_fits r (value_of m pid value) _ _ (λ e. h) (λ v. either_fits r (length m.output == MOST_SHOWN) _ _ h (output_fits r _ _ going))

  successor_fits : (a : Action) → Fits a → (z last : ℤ) → Fit r (successor_step m pid at (item_at r at) a es z last)
  successor_fits (For variable low high first end down list) a z last =
      either_fits r (int_eq z last) _ _ going
      (value_fits r (next_value down low high z) _ _ (λ e. h) (λ w. goes_fits r m pid lt sound h at variable list es (item_at r at).need w last a s.0.deep s))
  successor_fits _ a z last = going

-- what is known of an item that is on the control stack of a process
pub action_fits : (r : Tables) (m : Machine) (pid at below : ℕ) → IsSound r → EntryFits r (thread_at m.threads pid).frame at below → ActionFits r (thread_at m.threads pid).frame.routine (item_at r at).need (item_at r at).action
action_fits r m pid at below sound e = subst (λ k. ActionFits r k (item_at r at).need (item_at r at).action) e.nests.same (sound.items at e.nests.place).action

pub list_fits : (r : Tables) (m : Machine) (pid at below : ℕ) → IsSound r → EntryFits r (thread_at m.threads pid).frame at below → ListFits r (thread_at m.threads pid).frame.routine (item_at r at).need (item_at r at).next
list_fits r m pid at below sound e = subst (λ k. ListFits r k (item_at r at).need (item_at r at).next) e.nests.same (sound.items at e.nests.place).next

top_fits : (r : Tables) (m : Machine) (pid : ℕ) (es : List Entry) → pid < length m.threads → IsSound r → MachineFits r m → StackFits r (thread_at m.threads pid).frame es → Fit r (take_top r m pid es)
top_fits r m pid [] lt sound h s = status_fits r m pid Ended h
top_fits r m pid (Rest at ∷ es) lt sound h s =
    act_fits r m pid lt sound h at es s (list_fits r m pid at (length es) sound s.0) (item_at r at).action (action_fits r m pid at (length es) sound s.0)
top_fits r m pid (Successor at z last ∷ es) lt sound h s =
    successor_fits r m pid lt sound h at es s (list_fits r m pid at (length es) sound s.0) (item_at r at).action (action_fits r m pid at (length es) sound s.0) z last
top_fits r m pid (Return caller slot None ∷ es) lt sound h s = left_fits r m pid caller slot es s.0 s.3 h
top_fits r m pid (Return caller slot (Some monitor) ∷ es) lt sound h s = let_in_fits r _ monitor (left_fits r m pid caller slot es s.0 s.3 h) s.2
top_fits r m pid (InitEnd caller component ∷ es) lt sound h s = phase_fits r _ component Initialised (left_fits r m pid caller None es s.0 s.2 h)

-- a step keeps each process inside what was reserved for it
pub step_fits : (r : Tables) (m : Machine) (pid : ℕ) → pid < length m.threads → IsSound r → MachineFits r m → MachineFits r (step_at r m pid).machine
step_fits r m pid lt sound h = top_fits r m pid _ lt sound h (h.each pid lt).stack
