-- What calls, starts, tests and waits come to, by what their parts answer.
use Rattle.std.proofs.Common.{◌≡◌, ◌∙◌, ℕ, ◌<◌, ◌∷◌, Bool, true, false, not, if◌then◌else◌, List, length, Option, None, Result, Ok, Err, IfOk, refl, ap, sym, arith}
use Rattle.cp_machine.proofs.Words.{ℤ, pos, slice_set, slice_index_or, length-map, length-set, Tables, component_at, ResolvedArm, Argument, ComponentPlace}
use Rattle.cp_machine.proofs.Words.{OrdinalExpression, Place, Bound, ErrorName, Address, is_true, Entry, Kernel, InitEnd, Rest, Phase, Initialised}
use Rattle.cp_machine.proofs.Words.{Initialising, Uninitialised, State, delay_caller, address_of, arguments_of, component_of, parameters_bound, value_of, rest_of}
use Rattle.std.specs.Result.{IsErrAnd}
use denote.Enum.Bare.{sameb}
use Rattle.cp_slots.specs.declared.tables.ComponentKind.TheVariants as kind
use Rattle.cp_store.specs.declared.error.ErrorName.TheVariants.{InitTwice, NotInit, QueueInUse}
use Rattle.cp_machine.specs.declared.event.Kernel.TheVariants.{Delay}
use Rattle.cp_machine.specs.contracts.state.Phase.{the_type as phase_type}
use Rattle.cp_machine.specs.Calls.{call, open_call, call_by, call_in, continue, continue_at, delay, delay_at, delay_in, open_frame, start, start_inside, start_by}
use Rattle.cp_machine.specs.Machine.{Machine, Thread, is_initialised, is_uninitialised, machine_of, monitor_of, phase_at, thread_at, thread_of, with_phase, with_stack}
use Rattle.cp_slots.specs.declared.item.Said.{Said}
use Rattle.cp_machine.specs.Statements.{Stepped, arm_for, assert_that, branch, broken, case_of, fault, local, until, while_do, with_value}

-- ---- a value, or its run error

pub value_goes : {A : Type 0} {o : Result A ErrorName} {v : A} (failed : ErrorName → Stepped) (go : A → Stepped) → o ≡ Ok v → with_value o failed go ≡ go v
value_goes failed go e = ap (λ o. with_value o failed go) e

pub value_fails : {A : Type 0} {o : Result A ErrorName} {x : ErrorName} (failed : ErrorName → Stepped) (go : A → Stepped) → o ≡ Err x → with_value o failed go ≡ failed x
value_fails failed go e = ap (λ o. with_value o failed go) e

-- what is handed on is an error
pub none_well : {A E : Type 0} (r : Result A E) (P : E → Type 0) (Q : A → Type 0) → IsErrAnd r P → IfOk r Q
none_well (Ok a) P Q h = absurd h
none_well (Err e) P Q h = tt

-- ---- the processes, after one of them alone changed

pub set_within : (s t : State) (pid q : ℕ) (x : Thread) → (machine_of t).threads ≡ slice_set (machine_of s).threads pid x → q < length s.processes.items → q < length t.processes.items
set_within s t pid q x after lt =
    let m = machine_of s in
    let same : length (machine_of t).threads ≡ length (slice_set m.threads pid x) = ap length after in
    omega (arith, lt, same, length-map s.processes.items thread_of, length-map t.processes.items thread_of, length-set m.threads pid x)

pub count_within : (s t : State) (q : ℕ) → length (machine_of t).threads ≡ length (machine_of s).threads → q < length s.processes.items → q < length t.processes.items
count_within s t q same lt = omega (arith, lt, same, length-map s.processes.items thread_of, length-map t.processes.items thread_of)

pub guards_as : (s t : State) → (machine_of t).monitors ≡ (machine_of s).monitors → length t.guards.items ≡ length s.guards.items
guards_as s t same = sym (length-map t.guards.items monitor_of) ∙ ap length same ∙ length-map s.guards.items monitor_of

-- ---- what `!=` says

pub not_true : (b : Bool) → not b ≡ true → b ≡ false
not_true true e = sym e
not_true false e = refl

pub not_false : (b : Bool) → not b ≡ false → b ≡ true
not_false true e = refl
not_false false e = sym e

pub initialised_is : (p : Phase) → sameb phase_type p Initialised ≡ is_initialised p
initialised_is Uninitialised = refl
initialised_is Initialising = refl
initialised_is Initialised = refl

pub uninitialised_is : (p : Phase) → sameb phase_type p Uninitialised ≡ is_uninitialised p
uninitialised_is Uninitialised = refl
uninitialised_is Initialising = refl
uninitialised_is Initialised = refl

-- ---- tests

module _ (m : Machine) (pid line : ℕ) (test : OrdinalExpression) (list other : Option ℕ) (rest : List Entry) where
  pub branch_fails : (x : ErrorName) → value_of m pid test ≡ Err x → branch m pid line test list other rest ≡ fault m pid line x
  branch_fails x e = value_fails (fault m pid line) (λ v. local (with_stack m pid (rest_of (if is_true v then list else other) rest))) e

  pub branch_goes : (v : ℤ) (b : Bool) → value_of m pid test ≡ Ok v → is_true v ≡ b → branch m pid line test list other rest ≡ local (with_stack m pid (rest_of (if b then list else other) rest))
  branch_goes v b e is = value_goes (fault m pid line) (λ v. local (with_stack m pid (rest_of (if is_true v then list else other) rest))) e ∙ ap (λ b. local (with_stack m pid (rest_of (if b then list else other) rest))) is

module _ (m : Machine) (pid line : ℕ) (test : OrdinalExpression) (said : Said) (rest : List Entry) where
  pub assert_fails : (x : ErrorName) → value_of m pid test ≡ Err x → assert_that m pid line test said rest ≡ fault m pid line x
  assert_fails x e = value_fails (fault m pid line) (λ v. if is_true v then local (with_stack m pid rest) else fault m pid line (broken said)) e

  pub assert_goes : (v : ℤ) (b : Bool) → value_of m pid test ≡ Ok v → is_true v ≡ b → assert_that m pid line test said rest ≡ (if b then local (with_stack m pid rest) else fault m pid line (broken said))
  assert_goes v b e is = value_goes (fault m pid line) (λ v. if is_true v then local (with_stack m pid rest) else fault m pid line (broken said)) e ∙ ap (λ b. if b then local (with_stack m pid rest) else fault m pid line (broken said)) is

module _ (m : Machine) (pid line : ℕ) (test : OrdinalExpression) (list : Option ℕ) (again : ℕ) (next : Option ℕ) (es : List Entry) where
  pub while_fails : (x : ErrorName) → value_of m pid test ≡ Err x → while_do m pid line test list again next es ≡ fault m pid line x
  while_fails x e = value_fails (fault m pid line) (λ v. local (with_stack m pid (if is_true v then rest_of list (Rest again ∷ es) else rest_of next es))) e

  pub while_goes : (v : ℤ) (b : Bool) → value_of m pid test ≡ Ok v → is_true v ≡ b → while_do m pid line test list again next es ≡ local (with_stack m pid (if b then rest_of list (Rest again ∷ es) else rest_of next es))
  while_goes v b e is = value_goes (fault m pid line) (λ v. local (with_stack m pid (if is_true v then rest_of list (Rest again ∷ es) else rest_of next es))) e ∙ ap (λ b. local (with_stack m pid (if b then rest_of list (Rest again ∷ es) else rest_of next es))) is

  pub until_fails : (x : ErrorName) → value_of m pid test ≡ Err x → until m pid line test list again next es ≡ fault m pid line x
  until_fails x e = value_fails (fault m pid line) (λ v. local (with_stack m pid (if is_true v then rest_of next es else rest_of list (Rest again ∷ es)))) e

  pub until_goes : (v : ℤ) (b : Bool) → value_of m pid test ≡ Ok v → is_true v ≡ b → until m pid line test list again next es ≡ local (with_stack m pid (if b then rest_of next es else rest_of list (Rest again ∷ es)))
  until_goes v b e is = value_goes (fault m pid line) (λ v. local (with_stack m pid (if is_true v then rest_of next es else rest_of list (Rest again ∷ es)))) e ∙ ap (λ b. local (with_stack m pid (if b then rest_of next es else rest_of list (Rest again ∷ es)))) is

module _ (m : Machine) (pid line : ℕ) (selector : OrdinalExpression) (arms : List ResolvedArm) (rest : List Entry) where
  pub case_fails : (x : ErrorName) → value_of m pid selector ≡ Err x → case_of m pid line selector arms rest ≡ fault m pid line x
  case_fails x e = value_fails (fault m pid line) (λ v. with_value (arm_for v arms) (fault m pid line) (λ list. local (with_stack m pid (rest_of list rest)))) e

  chosen : (v : ℤ) → value_of m pid selector ≡ Ok v → case_of m pid line selector arms rest ≡ with_value (arm_for v arms) (fault m pid line) (λ list. local (with_stack m pid (rest_of list rest)))
  chosen v e = value_goes (fault m pid line) (λ v. with_value (arm_for v arms) (fault m pid line) (λ list. local (with_stack m pid (rest_of list rest)))) e

  pub case_no_arm : (v : ℤ) (x : ErrorName) → value_of m pid selector ≡ Ok v → arm_for v arms ≡ Err x → case_of m pid line selector arms rest ≡ fault m pid line x
  case_no_arm v x e none = chosen v e ∙ value_fails (fault m pid line) (λ list. local (with_stack m pid (rest_of list rest))) none

  pub case_arm : (v : ℤ) (list : Option ℕ) → value_of m pid selector ≡ Ok v → arm_for v arms ≡ Ok list → case_of m pid line selector arms rest ≡ local (with_stack m pid (rest_of list rest))
  case_arm v list e arm = chosen v e ∙ value_goes (fault m pid line) (λ list. local (with_stack m pid (rest_of list rest))) arm

-- ---- calls

module _ (r : Tables) (m : Machine) (pid line routine : ℕ) (place : ComponentPlace) (is_entry : Bool) (arguments : List Argument) (result : Option ℕ) (rest : List Entry) where
  pub call_component_fails : (x : ErrorName) → component_of m pid place ≡ Err x → call r m pid line routine place is_entry arguments result rest ≡ fault m pid line x
  call_component_fails x e = value_fails (fault m pid line) (λ component. with_value (arguments_of m pid arguments) (fault m pid line) (λ bounds. call_by r m pid line is_entry routine component arguments bounds result rest)) e

  given_to : (component : ℕ) → component_of m pid place ≡ Ok component → call r m pid line routine place is_entry arguments result rest ≡ with_value (arguments_of m pid arguments) (fault m pid line) (λ bounds. call_by r m pid line is_entry routine component arguments bounds result rest)
  given_to component e = value_goes (fault m pid line) (λ component. with_value (arguments_of m pid arguments) (fault m pid line) (λ bounds. call_by r m pid line is_entry routine component arguments bounds result rest)) e

  pub call_arguments_fail : (component : ℕ) (x : ErrorName) → component_of m pid place ≡ Ok component → arguments_of m pid arguments ≡ Err x → call r m pid line routine place is_entry arguments result rest ≡ fault m pid line x
  call_arguments_fail component x found fails = given_to component found ∙ value_fails (fault m pid line) (λ bounds. call_by r m pid line is_entry routine component arguments bounds result rest) fails

  pub call_goes : (component : ℕ) (bounds : List Bound) → component_of m pid place ≡ Ok component → arguments_of m pid arguments ≡ Ok bounds → call r m pid line routine place is_entry arguments result rest ≡ call_by r m pid line is_entry routine component arguments bounds result rest
  call_goes component bounds found given = given_to component found ∙ value_goes (fault m pid line) (λ bounds. call_by r m pid line is_entry routine component arguments bounds result rest) given

-- with evaluated arguments
module _ (r : Tables) (m : Machine) (pid line routine component : ℕ) (arguments : List Argument) (bounds : List Bound) (result : Option ℕ) (rest : List Entry) where
  pub called_inside : (is_entry : Bool) → is_entry ≡ false → call_by r m pid line is_entry routine component arguments bounds result rest ≡ local (open_call r m pid routine component arguments bounds result None rest)
  called_inside is_entry e = ap (λ b. call_by r m pid line b routine component arguments bounds result rest) e

  pub called_entry : (is_entry b : Bool) → is_entry ≡ true → is_initialised (phase_at m component) ≡ b → call_by r m pid line is_entry routine component arguments bounds result rest ≡ (if b then call_in r m pid (component_at r component).kind routine component arguments bounds result rest else fault m pid line NotInit)
  called_entry is_entry b e is = ap (λ k. call_by r m pid line k routine component arguments bounds result rest) e ∙ ap (λ b. if b then call_in r m pid (component_at r component).kind routine component arguments bounds result rest else fault m pid line NotInit) is

-- ---- starts

module _ (r : Tables) (m : Machine) (pid line : ℕ) (place : ComponentPlace) (routine : ℕ) (arguments : List Argument) (rest : List Entry) where
  pub start_component_fails : (x : ErrorName) → component_of m pid place ≡ Err x → start r m pid line place routine arguments rest ≡ fault m pid line x
  start_component_fails x e = value_fails (fault m pid line) (λ component. with_value (arguments_of m pid arguments) (fault m pid line) (λ bounds. start_by r m pid line (component_at r component).kind routine component arguments bounds rest)) e

  start_of : (component : ℕ) → component_of m pid place ≡ Ok component → start r m pid line place routine arguments rest ≡ with_value (arguments_of m pid arguments) (fault m pid line) (λ bounds. start_by r m pid line (component_at r component).kind routine component arguments bounds rest)
  start_of component e = value_goes (fault m pid line) (λ component. with_value (arguments_of m pid arguments) (fault m pid line) (λ bounds. start_by r m pid line (component_at r component).kind routine component arguments bounds rest)) e

  pub start_arguments_fail : (component : ℕ) (x : ErrorName) → component_of m pid place ≡ Ok component → arguments_of m pid arguments ≡ Err x → start r m pid line place routine arguments rest ≡ fault m pid line x
  start_arguments_fail component x found fails = start_of component found ∙ value_fails (fault m pid line) (λ bounds. start_by r m pid line (component_at r component).kind routine component arguments bounds rest) fails

  pub start_goes : (component : ℕ) (bounds : List Bound) → component_of m pid place ≡ Ok component → arguments_of m pid arguments ≡ Ok bounds → start r m pid line place routine arguments rest ≡ start_by r m pid line (component_at r component).kind routine component arguments bounds rest
  start_goes component bounds found given = start_of component found ∙ value_goes (fault m pid line) (λ bounds. start_by r m pid line (component_at r component).kind routine component arguments bounds rest) given

-- ---- delay and continue

module _ (r : Tables) (m : Machine) (pid line : ℕ) (place : Place) where
  pub delay_fails : (rest : List Entry) (x : ErrorName) → address_of m pid place ≡ Err x → delay r m pid line place rest ≡ fault m pid line x
  delay_fails rest x e = value_fails (fault m pid line) (delay_at r m pid line rest) e

  pub delay_goes : (rest : List Entry) (a b : Address) → address_of m pid place ≡ Ok a → a ≡ b → delay r m pid line place rest ≡ delay_at r m pid line rest b
  delay_goes rest a b e is = value_goes (fault m pid line) (delay_at r m pid line rest) e ∙ ap (delay_at r m pid line rest) is

  pub continue_fails : (next : Option ℕ) (es : List Entry) (x : ErrorName) → address_of m pid place ≡ Err x → continue r m pid line place next es ≡ fault m pid line x
  continue_fails next es x e = value_fails (fault m pid line) (continue_at r m pid next es) e

  pub continue_goes : (next : Option ℕ) (es : List Entry) (a b : Address) → address_of m pid place ≡ Ok a → a ≡ b → continue r m pid line place next es ≡ continue_at r m pid next es b
  continue_goes next es a b e is = value_goes (fault m pid line) (continue_at r m pid next es) e ∙ ap (continue_at r m pid next es) is

-- in a monitor
module _ (m : Machine) (pid line cell monitor : ℕ) (rest : List Entry) where
  pub delayed_if : (b : Bool) → is_true (slice_index_or m.permanents cell (pos 0)) ≡ b → delay_in m pid line cell (kind.Monitor monitor) rest ≡ (if b then fault m pid line QueueInUse else record { machine = delay_caller (with_stack m pid rest) pid monitor cell; event = Kernel Delay })
  delayed_if b is = ap (λ b. if b then fault m pid line QueueInUse else record { machine = delay_caller (with_stack m pid rest) pid monitor cell; event = Kernel Delay }) is

-- a class or monitor begins, and its initial statement stands above its end
module _ (r : Tables) (m : Machine) (pid line routine component : ℕ) (arguments : List Argument) (bounds : List Bound) (rest : List Entry) where
  pub begins_if : (b : Bool) → is_uninitialised (phase_at m component) ≡ b → start_inside r m pid line routine component arguments bounds rest ≡ (if b then local (with_phase (parameters_bound (open_frame r m pid routine component (InitEnd (thread_at m.threads pid).frame component) rest) pid (component_at r component).base arguments bounds) component Initialising) else fault m pid line InitTwice)
  begins_if b is = ap (λ b. if b then local (with_phase (parameters_bound (open_frame r m pid routine component (InitEnd (thread_at m.threads pid).frame component) rest) pid (component_at r component).base arguments bounds) component Initialising) else fault m pid line InitTwice) is
