use Rattle.std.proofs.Common.{◌≡◌, ℕ, ◌≤◌, ◌+◌, Some, None, length, take, drop, arith, ap, sym, ◌∙◌}
use Rattle.std.specs.Prelude.{option_map}
use Rattle.std.specs.List.{prefix_len}
use Rattle.std.proofs.lemmas.List.{length-drop}
use Rattle.cp_text.specs.Annotations.{before_word, opening_mark, inner, extents}
use Rattle.cp_text.specs.Bytes.{is_word_byte}
use Rattle.cp_text.proofs.AnnotationLaws.{unmarked, marked}
use Rattle.cp_text.proofs.annotation.annotation_in.Goals as goal

pub returns-in_err-mark-clause-value : goal.returns-in_err-mark-clause-value
returns-in_err-mark-clause-value c =
    let text = c.args.text.now in
    let n = c.in_ok-before.before in
    let len = c.run_len-len.result in
    let before : before_word c.args.text.now ≡ Some c.in_ok-before.before = sym c.in_ok-before.ensures.value in
    let run : c.run_len-len.result ≡ prefix_len is_word_byte (drop c.in_ok-before.before c.args.text.now) = c.run_len-len.ensures.value ∙ ap (prefix_len is_word_byte) c.split_at.ensures.back in
    let none : opening_mark (take c.run_len-len.result (drop c.in_ok-before.before c.args.text.now)) ≡ None = cc (c.in_err-mark.was) in
    c.from_residual-in_err-mark.ensures ∙ ap (option_map extents) (sym (unmarked text n len before run none))

pub returns-clause-value : goal.returns-clause-value
returns-clause-value c =
    let text = c.args.text.now in
    let n = c.in_ok-before.before in
    let len = c.run_len-len.result in
    let before : before_word c.args.text.now ≡ Some c.in_ok-before.before = sym c.in_ok-before.ensures.value in
    let run : c.run_len-len.result ≡ prefix_len is_word_byte (drop c.in_ok-before.before c.args.text.now) = c.run_len-len.ensures.value ∙ ap (prefix_len is_word_byte) c.split_at.ensures.back in
    let some : opening_mark (take c.run_len-len.result (drop c.in_ok-before.before c.args.text.now)) ≡ Some c.in_ok-mark.mark = cc (c.in_ok-mark.was) in
    let behind : c.inner_len.result ≡ length (inner (drop c.run_len-len.result (drop c.in_ok-before.before c.args.text.now))) = cc in
    let start = c.in_ok-before.ensures.within in
    let within : c.in_ok-before.before + c.run_len-len.result ≤ length c.args.text.now = omega (arith, start, length-drop {A = ℕ}) in
    rw behind (marked text n len c.in_ok-mark.mark before run some within)
