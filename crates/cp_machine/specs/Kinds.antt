-- Kinds of statements.
use Rattle.std.specs.Prelude.{Bool, true, false}
use Rattle.cp_slots.specs.declared.item.Action.{Action}
use Rattle.cp_slots.specs.declared.item.Action.TheVariants.{Assign, AssignSet, Copy, If, Case, For, Call, Start, Delay, Continue}

-- a value goes to a place
abbrev pub is_assignment : Action → Bool
is_assignment (Assign target value low high) = true
is_assignment (AssignSet target value low high) = true
is_assignment (Copy target source size) = true
is_assignment _ = false

abbrev pub is_choice : Action → Bool
is_choice (If test list other) = true
is_choice (Case selector arms) = true
is_choice _ = false

abbrev pub is_for : Action → Bool
is_for (For variable low high from to down body) = true
is_for _ = false

-- a routine is executed
abbrev pub is_call : Action → Bool
is_call (Call routine component is_entry arguments result) = true
is_call (Start component routine arguments) = true
is_call _ = false

abbrev pub is_of_queue : Action → Bool
is_of_queue (Delay place) = true
is_of_queue (Continue place) = true
is_of_queue _ = false
