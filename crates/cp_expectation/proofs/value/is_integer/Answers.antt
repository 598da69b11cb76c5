use Rattle.std.proofs.Common.{◌∙◌, ◌&&◌, not, Some, None, codes, sym, lit<}
use Rattle.std.specs.Prelude.{is_ok}
use Rattle.std.specs.Str.{bytes_eq}
use Rattle.std.proofs.lemmas.Str.Pattern.{strip_prefix_char}
use Rattle.cp_expectation.specs.Values.{is_plain, is_integer}
use Rattle.cp_expectation.proofs.Integers.{unsigned, signed, and_then, and_else}
use Rattle.cp_expectation.proofs.value.is_integer.Goals as goal

pub returns-then-is_nonzero : goal.returns-then-is_nonzero
returns-then-is_nonzero c =
    let w = c.args.word.now in
    let ds = c.in-Some.digits.now in
    and_then (not (bytes_eq ds (codes "0")) && is_plain ds) (is_ok c.parse.result) c.is_ok-fits.result (is_integer w) (sym c.is_nonzero.ensures ∙ c.if-is_nonzero.true) c.is_ok-fits.ensures.value (signed w ds c.parse.result (strip_prefix_char 45 w (Some c.in-Some.digits) c.in-Some.ensures.cases (lit< tt)) c.parse.ensures.value.0)

pub returns-else-is_nonzero : goal.returns-else-is_nonzero
returns-else-is_nonzero c =
    let w = c.args.word.now in
    let ds = c.in-Some.digits.now in
    c.is_nonzero.ensures ∙ and_else (not (bytes_eq ds (codes "0")) && is_plain ds) (is_ok c.parse.result) (is_integer w) (sym c.is_nonzero.ensures ∙ c.if-is_nonzero.false) (signed w ds c.parse.result (strip_prefix_char 45 w (Some c.in-Some.digits) c.in-Some.ensures.cases (lit< tt)) c.parse.ensures.value.0)

pub returns-then-is_plain : goal.returns-then-is_plain
returns-then-is_plain c =
    let w = c.args.word.now in
    and_then (is_plain w) (is_ok c.parse.result) c.is_ok-fits.result (is_integer w) (sym c.is_plain.ensures ∙ c.if-is_plain.true) c.is_ok-fits.ensures.value (unsigned w c.parse.result (strip_prefix_char 45 w None c.in-None.ensures.cases (lit< tt)) c.parse.ensures.value.0)

pub returns-else-is_plain : goal.returns-else-is_plain
returns-else-is_plain c =
    let w = c.args.word.now in
    c.is_plain.ensures ∙ and_else (is_plain w) (is_ok c.parse.result) (is_integer w) (sym c.is_plain.ensures ∙ c.if-is_plain.false) (unsigned w c.parse.result (strip_prefix_char 45 w None c.in-None.ensures.cases (lit< tt)) c.parse.ensures.value.0)
