-- Which topics can be asked of which question.
use Rattle.std.specs.Option.{option_or}
use Rattle.std.specs.Prelude.{List, [], ◌∷◌, Option, Some, None}
use Rattle.cp_expectation.specs.declared.expectation.Claim.{Claim}
use Rattle.cp_expectation.specs.declared.expectation.Claim.TheVariants.{Only}
use Rattle.cp_expectation.specs.declared.expectation.EndPattern.{EndPattern}
use Rattle.cp_expectation.specs.declared.expectation.EndPattern.TheVariants.{Alone, Spins}
use Rattle.cp_expectation.specs.declared.expectation.Topic.{Topic}
use Rattle.cp_expectation.specs.declared.expectation.Topic.TheVariants.{End, Shown, Waiting}
use Rattle.cp_expectation.specs.declared.expectation.Expectation.{Expectation}
use Rattle.cp_expectation.specs.declared.objection.Question.{Question}
use Rattle.cp_expectation.specs.declared.objection.Question.TheVariants.{Rows, Ends, EndsAnyGates, EndsAtOnce}
use Rattle.cp_expectation.specs.declared.objection.Objection.{Objection}
use Rattle.cp_expectation.specs.declared.objection.Objection.TheVariants.{WaitingWithoutEnds, AloneWithoutEnds, SpinsWithoutEnds, OutputWithEnds, ShownByOnly, WaitingByOnly, WaitingWithAnyGates, WaitingAtOnce}

-- of schedules within limits
abbrev pub row_objection : EndPattern → Option Objection
row_objection (Alone process) = Some AloneWithoutEnds
row_objection (Spins process) = Some SpinsWithoutEnds
row_objection end = None

abbrev pub shown_objection : Question → Claim → Option Objection
shown_objection Rows claim = None
shown_objection question Only = Some ShownByOnly
shown_objection question claim = None

abbrev pub waiting_objection : Question → Claim → Option Objection
waiting_objection Rows claim = Some WaitingWithoutEnds
waiting_objection EndsAnyGates claim = Some WaitingWithAnyGates
waiting_objection EndsAtOnce claim = Some WaitingAtOnce
waiting_objection Ends Only = Some WaitingByOnly
waiting_objection Ends claim = None

-- why a topic can't be asked by this claim, if it can't
abbrev pub objection : Question → Claim → Topic → Option Objection
objection Rows claim (End end output) = row_objection end
objection question claim (End end None) = None
objection question claim (End end (Some output)) = Some OutputWithEnds
objection question claim (Shown text) = shown_objection question claim
objection question claim (Waiting process) = waiting_objection question claim

abbrev pub first_objection : Question → Claim → List Topic → Option Objection
first_objection question claim [] = None
first_objection question claim (t ∷ ts) = option_or (objection question claim t) (first_objection question claim ts)

abbrev pub objection_to : Question → Expectation → Option Objection
objection_to question e = first_objection question e.claim e.topics.items
