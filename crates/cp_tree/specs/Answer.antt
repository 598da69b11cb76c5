-- What is answered for a list of tokens: the program that is read, or the fault as it is reported.
use Rattle.std.specs.Prelude.{◌≡◌, ◌≢◌, Bool, true, false, if◌then◌else◌, List, Option, Some, Result, Ok, Err, slice_get}
use Rattle.cp_text.specs.declared.token.Kind.{Kind}
use Rattle.cp_text.specs.declared.token.Kind.TheVariants as kind
use Rattle.cp_text.specs.declared.token.Mark.TheVariants as mark
use Rattle.cp_tree.specs.declared.fault.ParseFault.{ParseFault}
use Rattle.cp_tree.specs.declared.fault.ParseFault.TheVariants.{Unexpected, OutsideProfile, TooDeep, Memory}
use Rattle.cp_tree.specs.declared.tree.Tree as tree_tree
use Rattle.cp_tree.specs.Input.{Outcome, start_of}
use Rattle.cp_tree.specs.ReadingDeclarations.{program}
use Rattle.cp_tree.specs.Syntax.{Program}
use Rattle.cp_tree.specs.View.{program_view}

-- a reserved word that is left out of the language
abbrev pub is_left_out : Option Kind → Bool
is_left_out (Some (kind.Mark mark.With)) = true
is_left_out (Some (kind.Mark mark.Univ)) = true
is_left_out (Some (kind.Mark mark.Program)) = true
is_left_out _ = false

-- An unexpected word that is left out is reported as such.
abbrev pub told : List Kind → ParseFault → ParseFault
told ks (Unexpected at) = if is_left_out (slice_get ks at) then OutsideProfile at else Unexpected at
told ks (OutsideProfile at) = OutsideProfile at
told ks (TooDeep at) = TooDeep at
told ks Memory = Memory

abbrev pub answer_of : List Kind → Outcome Program → Result Program ParseFault
answer_of ks (Ok p) = Ok p.0
answer_of ks (Err e) = Err (told ks e)

abbrev pub answer : List Kind → Result Program ParseFault
answer ks = answer_of ks (program (start_of ks))

-- The result is the answer, unless memory fails.
abbrev pub Answers : List Kind → Result tree_tree.Tree ParseFault → Type 0
Answers ks (Ok t) = answer ks ≡ Ok (program_view t.program)
Answers ks (Err e) = e ≢ Memory → answer ks ≡ Err e
