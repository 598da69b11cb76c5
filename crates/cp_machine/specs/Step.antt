-- One step of a process: a case for each kind of item.
use Rattle.std.specs.Prelude.{ℕ, ◌∷◌, [], List, Bool, true, false}
use Rattle.cp_slots.specs.Tables.{Tables, item_at}
use Rattle.cp_slots.specs.declared.item.Action.{Action}
use Rattle.cp_slots.specs.declared.item.Action.TheVariants.{Empty, Assign, AssignSet, Copy, Block, If, Case, Assert, While, Until, For, Cycle, Call, Start, Delay, Continue, Display}
use Rattle.cp_slots.specs.declared.item.Item.{Item}
use Rattle.cp_machine.specs.declared.event.Event.{Event}
use Rattle.cp_machine.specs.declared.event.Event.TheVariants.{Local, Ended as Over, Fault, OutputFull}
use Rattle.cp_machine.specs.declared.process.Entry.{Entry}
use Rattle.cp_machine.specs.declared.process.Entry.TheVariants.{Rest, Successor, Return, InitEnd}
use Rattle.cp_machine.specs.declared.process.Status.TheVariants.{Ended}
use Rattle.cp_machine.specs.Calls.{call, start, delay, continue, return_to, end_init}
use Rattle.cp_machine.specs.Machine.{Machine, thread_at, with_stack, with_status}
use Rattle.cp_machine.specs.Stack.{rest_of}
use Rattle.cp_machine.specs.Statements.{Stepped, local, assign, assign_set, copy, branch, case_of, assert_that, while_do, until, for_do, successor_step, display}

-- an item is taken: `at` is its number, and `es` stands below it
abbrev pub act : Tables → Machine → (pid at : ℕ) → Item → Action → List Entry → Stepped
-- empty statement: removed
act r m pid at item Empty es = local (with_stack m pid (rest_of item.next es))
-- assignment: done
act r m pid at item (Assign target value low high) es = assign m pid item.line target value low high (rest_of item.next es)
act r m pid at item (AssignSet target value low high) es = assign_set m pid item.line target value low high (rest_of item.next es)
act r m pid at item (Copy target source size) es = copy m pid item.line target source size (rest_of item.next es)
-- `begin`, and `repeat`, after which its `until` follows: becomes its statements
act r m pid at item (Block list) es = local (with_stack m pid (rest_of list (rest_of item.next es)))
-- `if`: becomes the chosen branch, or nothing
act r m pid at item (If test list other) es = branch m pid item.line test list other (rest_of item.next es)
-- `case`: becomes the chosen arm; no label fits: run error no-case
act r m pid at item (Case selector arms) es = case_of m pid item.line selector arms.items (rest_of item.next es)
-- what is said: true: removed; false: a run error
act r m pid at item (Assert test said) es = assert_that m pid item.line test said (rest_of item.next es)
-- `while`: true: becomes the statement and itself; false: removed
act r m pid at item (While test list again) es = while_do m pid item.line test list again item.next es
-- until: true: removed; false: becomes the statements and itself
act r m pid at item (Until test list again) es = until m pid item.line test list again item.next es
-- `for`: the first value beyond the last: removed; else becomes the statement and the successor of the first value
act r m pid at item (For variable low high first last down list) es = for_do m pid item.line at variable low high first last down list item.next es
-- `cycle`: becomes its statements and itself
act r m pid at item (Cycle list) es = local (with_stack m pid (rest_of list (Rest at ∷ es)))
-- a call: the arguments are bound; becomes the statements of the body and their end; of a monitor's entry the kernel's enter
act r m pid at item (Call routine component is_entry arguments result) es = call r m pid item.line routine component is_entry arguments.items result (rest_of item.next es)
-- a start: of a class or monitor: becomes its initial statement and init end; of a process: it is ready
act r m pid at item (Start component routine arguments) es = start r m pid item.line component routine arguments.items (rest_of item.next es)
-- `delay`
act r m pid at item (Delay place) es = delay r m pid item.line place (rest_of item.next es)
-- `continue`: the rest of the entry procedure and its return are removed
act r m pid at item (Continue place) es = continue r m pid item.line place item.next es
-- `display`: the value is appended
act r m pid at item (Display value kind) es = display m pid item.line value kind (rest_of item.next es)

-- the topmost entry of a process is taken
abbrev pub take_top : Tables → Machine → (pid : ℕ) → List Entry → Stepped
-- end: the process has ended
take_top r m pid [] = record { machine = with_status m pid Ended; event = Over }
take_top r m pid (Rest at ∷ es) = act r m pid at (item_at r at) (item_at r at).action es
-- successor of a value
take_top r m pid (Successor at z last ∷ es) = successor_step m pid at (item_at r at) (item_at r at).action es z last
-- return
take_top r m pid (Return caller result monitor ∷ es) = return_to r m pid caller result monitor es
-- init end
take_top r m pid (InitEnd caller component ∷ es) = end_init r m pid caller component es

-- one step of a process
abbrev pub step_at : Tables → Machine → ℕ → Stepped
step_at r m pid = take_top r m pid (thread_at m.threads pid).stack

-- whether a step counts
abbrev pub succeeds : Event → Bool
succeeds (Fault e) = false
succeeds OutputFull = false
succeeds _ = true

-- whether a step is neither a kernel call nor an end
abbrev pub is_local : Event → Bool
is_local Local = true
is_local _ = false
