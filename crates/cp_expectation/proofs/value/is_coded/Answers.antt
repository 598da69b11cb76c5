use Rattle.std.proofs.Common.{◌∙◌, ◌&&◌, not, sym}
use Rattle.std.specs.Prelude.{nat_lt}
use Rattle.cp_expectation.specs.Values.{is_plain, is_printable}
use Rattle.cp_expectation.proofs.Characters.{code_read, no_code_read, decides_then, decides_else}
use Rattle.cp_expectation.proofs.value.is_coded.Goals as goal

pub returns-then-is_plain : goal.returns-then-is_plain
returns-then-is_plain c =
    let ds = c.in-Some.code.now in
    let n = c.in-Ok.number in
    decides_then (is_plain ds) (nat_lt n 128 && not (is_printable n)) c.is_code.result (sym c.is_plain.ensures ∙ c.if-is_plain.true) c.is_code.ensures (code_read c.args.word.now ds c.parse.result n c.in-Ok.is c.in-Some.ensures c.parse.ensures.value.0)

pub returns-else-is_plain : goal.returns-else-is_plain
returns-else-is_plain c =
    let ds = c.in-Some.code.now in
    let n = c.in-Ok.number in
    decides_else (is_plain ds) (nat_lt n 128 && not (is_printable n)) c.is_plain.result (sym c.is_plain.ensures ∙ c.if-is_plain.false) c.is_plain.ensures (code_read c.args.word.now ds c.parse.result n c.in-Ok.is c.in-Some.ensures c.parse.ensures.value.0)

pub returns-in-Err : goal.returns-in-Err
returns-in-Err c = (λ e. absurd (cc (e)), λ coded. absurd (no_code_read c.args.word.now c.in-Some.code.now c.in-Err.field-0 c.in-Some.ensures c.in-Err.ensures.value.0 coded))
