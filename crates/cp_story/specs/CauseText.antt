-- What a run error is of, in words, and as members of an object.
use Rattle.std.specs.Prelude.{ℕ, ℤ, Bool, ◌==◌, if◌then◌else◌, List, [], ◌∷◌, ◌++◌, Option, Some, None, length, slice_get, codes}
use Rattle.std.specs.Fmt.{signed_decimal}
use Rattle.serde_json.specs.Data.{Data}
use Rattle.cp_slots.specs.declared.place.Arithmetic.{Arithmetic}
use Rattle.cp_slots.specs.declared.place.Arithmetic.TheVariants.{Add, Subtract, Multiply, Divide, Modulo}
use Rattle.cp_legend.specs.Names.{Legend, path_in}
use Rattle.cp_store.specs.declared.error.ErrorName.{ErrorName}
use Rattle.cp_story.specs.Ends.{error_name}
use Rattle.cp_story.specs.Integers.{is_integer}
use Rattle.cp_story.specs.Objects.{Member, integer_data, number_data, object_with, text_data}
use Rattle.cp_story.specs.Sentences.{cell_queue_text, process_text}
use Rattle.cp_story.specs.declared.cause.Cause.{Cause}
use Rattle.cp_story.specs.declared.cause.Cause.TheVariants as cause
use Rattle.cp_story.specs.declared.integers.Known.TheVariants as known

abbrev pub sign_of : Arithmetic → List ℕ
sign_of Add = codes "+"
sign_of Subtract = codes "-"
sign_of Multiply = codes "*"
sign_of Divide = codes "div"
sign_of Modulo = codes "mod"

abbrev pub operation_text : Arithmetic → (x y : ℤ) → List ℕ
operation_text o x y = signed_decimal x ++ codes " " ++ sign_of o ++ codes " " ++ signed_decimal y

abbrev pub operand_text : (before : List ℕ) → ℤ → List ℕ
operand_text before z = before ++ signed_decimal z ++ codes ")"

abbrev pub bounds_text : (sure : Bool) → (z low high : ℤ) → List ℕ
bounds_text sure z low high = if sure then signed_decimal z ++ codes " is not in " ++ signed_decimal low ++ codes ".." ++ signed_decimal high else []

abbrev pub label_text : (sure : Bool) → ℤ → List ℕ
label_text sure z = if sure then codes "no label is " ++ signed_decimal z else []

-- a value and the bounds that it is outside of, where these are integers
abbrev pub outside_text : Legend → (z low high : ℤ) → List ℕ
outside_text l z low high = bounds_text (is_integer l (known.Bounds low high)) z low high

abbrev pub unlabelled_text : Legend → ℤ → List ℕ
unlabelled_text l z = label_text (is_integer l (known.Value z)) z

abbrev pub component_text : Legend → ℕ → List ℕ
component_text l n = path_in (slice_get l.components n)

-- no text where it is not known for sure
abbrev pub cause_text : Legend → Cause → List ℕ
cause_text l (cause.Operation o x y) = operation_text o x y
cause_text l (cause.Sign z) = operand_text (codes "-(") z
cause_text l (cause.Absolute z) = operand_text (codes "abs(") z
cause_text l cause.Last = codes "the last value has no succ"
cause_text l cause.First = codes "the first value has no pred"
cause_text l (cause.Outside z low high) = outside_text l z low high
cause_text l (cause.NoLabel z) = unlabelled_text l z
cause_text l (cause.InUse process cell) = process_text l process ++ codes " waits in " ++ cell_queue_text l cell
cause_text l (cause.NotInitialised n) = component_text l n ++ codes " is not initialised"
cause_text l (cause.InitialisedTwice n) = codes "a second init of " ++ component_text l n
cause_text l cause.Untold = []

-- a text behind a colon, if there is some
abbrev pub behind_colon : List ℕ → List ℕ
behind_colon text = if length text == 0 then [] else codes ": " ++ text

abbrev pub named_detail : ErrorName → (detail : List ℕ) → Option (List ℕ)
named_detail name detail = if length detail == 0 then None else Some (error_name name ++ codes ": " ++ detail)

-- an error with what it is of, if that is known for sure
abbrev pub cause_line : Legend → ErrorName → Option Cause → Option (List ℕ)
cause_line l name None = None
cause_line l name (Some c) = named_detail name (cause_text l c)

-- ---- as members of an object

abbrev pub operand_members : (operator : List ℕ) → ℤ → List Member
operand_members operator z = (codes "operator", text_data operator) ∷ (codes "operand", integer_data z) ∷ []

-- who waits already in a queue
abbrev pub user_members : Legend → (process cell : ℕ) → List Member
user_members l process cell = (codes "waiting", number_data process) ∷ (codes "queue", text_data (cell_queue_text l cell)) ∷ []

abbrev pub part_members : Legend → Cause → List Member
part_members l (cause.Operation o x y) = (codes "operator", text_data (sign_of o)) ∷ (codes "left", integer_data x) ∷ (codes "right", integer_data y) ∷ []
part_members l (cause.Sign z) = operand_members (codes "-") z
part_members l (cause.Absolute z) = operand_members (codes "abs") z
part_members l (cause.Outside z low high) = (codes "value", integer_data z) ∷ (codes "low", integer_data low) ∷ (codes "high", integer_data high) ∷ []
part_members l (cause.NoLabel z) = (codes "value", integer_data z) ∷ []
part_members l (cause.InUse process cell) = user_members l process cell
part_members l (cause.NotInitialised n) = (codes "component", text_data (component_text l n)) ∷ []
part_members l (cause.InitialisedTwice n) = (codes "component", text_data (component_text l n)) ∷ []
part_members l _ = []

abbrev pub cause_data : Legend → (text : List ℕ) → Cause → Data
cause_data l text c = object_with ((codes "text", text_data text) ∷ part_members l c)

abbrev pub members_with : Legend → (text : List ℕ) → Cause → List Member
members_with l text c = if length text == 0 then [] else (codes "cause", cause_data l text c) ∷ []

-- a member for what the error is of, if that is known
abbrev pub error_cause_members : Legend → Option Cause → List Member
error_cause_members l None = []
error_cause_members l (Some c) = members_with l (cause_text l c) c
