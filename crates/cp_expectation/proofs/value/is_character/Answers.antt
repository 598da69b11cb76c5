use Rattle.std.proofs.Common.{◌∙◌, sym}
use Rattle.cp_expectation.specs.Values.{is_character}
use Rattle.cp_expectation.proofs.Characters.{character, quoted_is, or_false}
use Rattle.cp_expectation.proofs.value.is_character.Goals as goal

pub returns-then-is_quoted : goal.returns-then-is_quoted
returns-then-is_quoted c = c.if-is_quoted.true ∙ sym (quoted_is c.args.word.now (c.is_quoted.ensures.0 c.if-is_quoted.true))

pub returns-else-is_quoted : goal.returns-else-is_quoted
returns-else-is_quoted c = or_false c.is_quoted.result c.is_coded.result (is_character c.args.word.now) c.if-is_quoted.false (character c.args.word.now c.is_quoted.result c.is_coded.result c.is_quoted.ensures c.is_coded.ensures)
