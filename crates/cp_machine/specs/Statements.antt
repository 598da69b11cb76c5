-- Statements without calls.
use Rattle.std.specs.Prelude.{ℕ, ◌∷◌, [], ◌++◌, List, length, Option, Result, Ok, Err, ℤ, pos, negsuc, ◌+ℤ◌, int_lt, Bool, ◌==◌, nat_lt, if◌then◌else◌}
use Rattle.std.specs.List.{list_any}
use Rattle.std.specs.Ordering.{int_eq}
use Rattle.cp_slots.specs.declared.item.Action.{Action}
use Rattle.cp_slots.specs.declared.item.Action.TheVariants.{For}
use Rattle.cp_slots.specs.declared.item.ResolvedArm.{ResolvedArm}
use Rattle.cp_slots.specs.declared.item.Item.{Item}
use Rattle.cp_slots.specs.declared.item.Said.{Said}
use Rattle.cp_slots.specs.declared.item.Said.TheVariants as said
use Rattle.cp_slots.specs.declared.item.ShownKind.{ShownKind}
use Rattle.cp_slots.specs.declared.item.ShownKind.TheVariants as kind
use Rattle.cp_slots.specs.declared.place.OrdinalExpression.{OrdinalExpression}
use Rattle.cp_slots.specs.declared.place.PlaceOrigin.{PlaceOrigin}
use Rattle.cp_slots.specs.declared.place.Place.{Place}
use Rattle.cp_slots.specs.declared.place.SetExpression.{SetExpression}
use Rattle.cp_store.specs.declared.error.ErrorName.{ErrorName}
use Rattle.cp_store.specs.declared.error.ErrorName.TheVariants.{NoCase, Assertion, Invariant}
use Rattle.cp_store.specs.declared.memory.Address.{Address}
use Rattle.cp_store.specs.declared.set.SetValue.{SetValue}
use Rattle.cp_store.specs.Sets as sets
use Rattle.cp_store.specs.Values.{is_true, check_range, successor, predecessor}
use Rattle.cp_machine.specs.declared.event.Event.{Event}
use Rattle.cp_machine.specs.declared.event.Event.TheVariants.{Local, Kernel, Fault, OutputFull}
use Rattle.cp_machine.specs.declared.event.Kernel.TheVariants.{Display}
use Rattle.cp_machine.specs.declared.process.Entry.{Entry}
use Rattle.cp_machine.specs.declared.process.Entry.TheVariants.{Rest, Successor}
use Rattle.cp_machine.specs.declared.shown.Shown.{Shown}
use Rattle.cp_machine.specs.declared.shown.Shown.TheVariants.{Integer, Char, Truth, Constant}
use Rattle.cp_machine.specs.declared.state.TheConstants.{MOST_SHOWN}
use Rattle.cp_machine.specs.Machine.{Machine, with_stack, with_output}
use Rattle.cp_machine.specs.Memory.{value_of, set_of, address_of, origin_of, number_put, set_put, cells_put}
use Rattle.cp_machine.specs.Stack.{rest_of}

-- a machine after a step, and what the step was
pub record Stepped : Type 0 where
  pub machine : Machine
  pub event : Event

abbrev pub local : Machine → Stepped
local m = record { machine = m; event = Local }

-- a run error leaves the machine as it was
abbrev pub fault : Machine → (pid line : ℕ) → ErrorName → Stepped
fault m pid line name = record { machine = m; event = Fault (record { name = name; process = pid; line = line }) }

-- the event, or the run error, of what came to a machine
abbrev pub outcome : Result Event ErrorName → Machine → (pid line : ℕ) → Stepped
outcome (Ok event) m pid line = record { machine = m; event = event }
outcome (Err name) m pid line = fault m pid line name

-- goes on with a value, or ends in its run error with the machine as it was
abbrev pub with_value : {A : Type 0} → Result A ErrorName → (ErrorName → Stepped) → (A → Stepped) → Stepped
with_value (Ok v) failed go = go v
with_value (Err e) failed go = failed e

-- ---- assignments: the right side first, then the place, and the range last. `rest` is what follows

abbrev pub assign_number : Machine → (pid line : ℕ) → (low high : ℤ) → List Entry → ℤ → Address → Stepped
assign_number m pid line low high rest v a = with_value (check_range low high v) (fault m pid line) (λ w. local (number_put (with_stack m pid rest) pid a w))

abbrev pub assign : Machine → (pid line : ℕ) → Place → OrdinalExpression → (low high : ℤ) → List Entry → Stepped
assign m pid line target value low high rest =
    with_value (value_of m pid value) (fault m pid line)
    (λ v. with_value (address_of m pid target) (fault m pid line) (assign_number m pid line low high rest v))

abbrev pub assign_set_value : Machine → (pid line : ℕ) → (low high : ℕ) → List Entry → SetValue → Address → Stepped
assign_set_value m pid line low high rest v a = with_value (sets.check_members low high v) (fault m pid line) (λ w. local (set_put (with_stack m pid rest) pid a w))

abbrev pub assign_set : Machine → (pid line : ℕ) → Place → SetExpression → (low high : ℕ) → List Entry → Stepped
assign_set m pid line target value low high rest =
    with_value (set_of m pid value) (fault m pid line)
    (λ v. with_value (address_of m pid target) (fault m pid line) (assign_set_value m pid line low high rest v))

-- an array or a record
abbrev pub copy : Machine → (pid line : ℕ) → (target source : Place) → (size : ℕ) → List Entry → Stepped
copy m pid line target source size rest =
    with_value (address_of m pid source) (fault m pid line)
    (λ from. with_value (address_of m pid target) (fault m pid line) (λ to. local (cells_put (with_stack m pid rest) pid to from size)))

-- ---- choices

abbrev pub branch : Machine → (pid line : ℕ) → OrdinalExpression → (list other : Option ℕ) → List Entry → Stepped
branch m pid line test list other rest =
    with_value (value_of m pid test) (fault m pid line)
    (λ v. local (with_stack m pid (rest_of (if is_true v then list else other) rest)))

-- ---- annotations

-- the run error of what is false
abbrev pub broken : Said → ErrorName
broken said.Assertion = Assertion
broken said.Invariant = Invariant

abbrev pub assert_that : Machine → (pid line : ℕ) → OrdinalExpression → Said → List Entry → Stepped
assert_that m pid line test said rest =
    with_value (value_of m pid test) (fault m pid line)
    (λ v. if is_true v then local (with_stack m pid rest) else fault m pid line (broken said))

-- ---- arms

abbrev pub has_label : ℤ → List ℤ → Bool
has_label z labels = list_any (λ label. int_eq label z) labels

-- the list of the first arm that has the value as a label
abbrev pub arm_for : ℤ → List ResolvedArm → Result (Option ℕ) ErrorName
arm_for z [] = Err NoCase
arm_for z (a ∷ as') = if has_label z a.labels.items then Ok a.body else arm_for z as'

abbrev pub case_of : Machine → (pid line : ℕ) → OrdinalExpression → List ResolvedArm → List Entry → Stepped
case_of m pid line selector arms rest =
    with_value (value_of m pid selector) (fault m pid line)
    (λ v. with_value (arm_for v arms) (fault m pid line) (λ list. local (with_stack m pid (rest_of list rest))))

-- ---- loops. `es` stands below the loop itself, and `again` is where its test begins

-- true: the list, and the loop again; false: removed
abbrev pub while_do : Machine → (pid line : ℕ) → OrdinalExpression → (list : Option ℕ) → (again : ℕ) → (next : Option ℕ) → List Entry → Stepped
while_do m pid line test list again next es =
    with_value (value_of m pid test) (fault m pid line)
    (λ v. local (with_stack m pid (if is_true v then rest_of list (Rest again ∷ es) else rest_of next es)))

-- true: removed; false: the list, and the test again
abbrev pub until : Machine → (pid line : ℕ) → OrdinalExpression → (list : Option ℕ) → (again : ℕ) → (next : Option ℕ) → List Entry → Stepped
until m pid line test list again next es =
    with_value (value_of m pid test) (fault m pid line)
    (λ v. local (with_stack m pid (if is_true v then rest_of next es else rest_of list (Rest again ∷ es))))

-- the variable becomes a value; then come the list, and the successor of the value
abbrev pub gone_on : Machine → (pid at : ℕ) → PlaceOrigin → (list : Option ℕ) → List Entry → (last z : ℤ) → Machine
gone_on m pid at variable list es last z = number_put (with_stack m pid (rest_of list (Successor at z last ∷ es))) pid (origin_of m pid variable) z

-- whether the first value is beyond the last
abbrev pub is_beyond : Bool → (first last : ℤ) → Bool
is_beyond down first last = if down then int_lt first last else int_lt last first

-- the next value, which has to be in the range of the variable
abbrev pub next_value : Bool → (low high z : ℤ) → Result ℤ ErrorName
next_value down low high z = if down then predecessor low z else successor high z

-- both bounds are evaluated
abbrev pub for_from : Machine → (pid line at : ℕ) → PlaceOrigin → (low high : ℤ) → Bool → (list next : Option ℕ) → List Entry → (first last : ℤ) → Stepped
for_from m pid line at variable low high down list next es first last =
    if is_beyond down first last then local (with_stack m pid (rest_of next es))
    else with_value (check_range low high first) (fault m pid line) (λ v. local (gone_on m pid at variable list es last v))

abbrev pub for_do : Machine → (pid line at : ℕ) → PlaceOrigin → (low high : ℤ) → (first last : OrdinalExpression) → Bool → (list next : Option ℕ) → List Entry → Stepped
for_do m pid line at variable low high first last down list next es =
    with_value (value_of m pid first) (fault m pid line)
    (λ a. with_value (value_of m pid last) (fault m pid line) (for_from m pid line at variable low high down list next es a))

-- the successor of a value: after the last one the loop is removed
abbrev pub next_turn : Machine → (pid line at : ℕ) → PlaceOrigin → (low high : ℤ) → Bool → (list next : Option ℕ) → List Entry → (z last : ℤ) → Stepped
next_turn m pid line at variable low high down list next es z last =
    if int_eq z last then local (with_stack m pid (rest_of next es))
    else with_value (next_value down low high z) (fault m pid line) (λ v. local (gone_on m pid at variable list es last v))

-- the item of a successor is a `for`; another one is passed over
abbrev pub successor_step : Machine → (pid at : ℕ) → Item → Action → List Entry → (z last : ℤ) → Stepped
successor_step m pid at item (For variable low high first end down list) es z last =
    next_turn m pid item.line at variable low high down list item.next es z last
successor_step m pid at item _ es z last = local (with_stack m pid (rest_of item.next es))

-- ---- display

-- a number below a limit
abbrev pub below : ℕ → ℤ → ℕ
below limit (pos n) = if nat_lt n limit then n else 0
below limit (negsuc n) = 0

-- the number of an enumeration constant, whose enumeration begins with another one
abbrev pub further : (first : ℕ) → ℤ → ℤ
further first z = pos first +ℤ z

abbrev pub shown_as : ShownKind → ℤ → Shown
shown_as kind.Integer z = Integer z
shown_as kind.Character z = Char (below 256 z)
shown_as kind.Truth z = Truth (is_true z)
shown_as (kind.Constant first) z = Constant (below 65536 (further first z))

abbrev pub show : Machine → (pid : ℕ) → List Entry → Shown → Stepped
show m pid rest v =
    if length m.output == MOST_SHOWN then record { machine = m; event = OutputFull }
    else record { machine = with_output (with_stack m pid rest) (m.output ++ v ∷ []); event = Kernel Display }

abbrev pub display : Machine → (pid line : ℕ) → OrdinalExpression → ShownKind → List Entry → Stepped
display m pid line value shown rest = with_value (value_of m pid value) (fault m pid line) (λ v. show m pid rest (shown_as shown v))
