use Rattle.cp_ends.proofs.Vocabulary.{◌≡◌, ◌∙◌, true, false, string_bytes, sym, ap, subst, arith, end_origin, end_line, is_told}
use Rattle.cp_ends.proofs.Listing.{SoFar, ends_more, ends_left_out, no_ends, take_found}
use Rattle.cp_ends.proofs.report.end_lines.Goals as goal
use Rattle.cp_ends.proofs.report.end_lines.Goals.{then-is_told+in_ok-push_end_line, else-is_told}

pub loop-end-init : goal.loop-end-init
loop-end-init c = no_ends c.args.states.now c.args.depth c.args.ends.now (string_bytes c.new-text.result) c.new-text.ensures.bytes

pub loop-end-preserved : goal.loop-end-preserved
loop-end-preserved c =
    let es = c.args.states.now in
    let word = c.in_ok-word.word.items in
    elim c.if-is_told.branch [
      | then-is_told+in_ok-push_end_line w ↦
          let it : is_told c.args.depth word ≡ true = ap (is_told c.args.depth) (sym c.as_slice.ensures.value) ∙ sym c.is_told.ensures ∙ w.if-is_told.true in
          ends_more es c.args.depth c.loop-end.end-index word c.args.ends.now _ (omega arith) c.in_ok-word.ensures (string_bytes c.loop-end.text) c.loop-end.count c.loop-end.invariant _ (string_bytes c.if-is_told.text) c.if-is_told.count w.as_slice-then-is_told.ensures.value it (ap string_bytes w.text-is ∙ w.in_ok-push_end_line.ensures) w.count-is
      | else-is_told w ↦
          let it : is_told c.args.depth word ≡ false = ap (is_told c.args.depth) (sym c.as_slice.ensures.value) ∙ sym c.is_told.ensures ∙ w.if-is_told.false in
          ends_left_out es c.args.depth c.loop-end.end-index word c.args.ends.now _ (omega arith) c.in_ok-word.ensures (string_bytes c.loop-end.text) c.loop-end.count c.loop-end.invariant (string_bytes c.if-is_told.text) c.if-is_told.count it (ap string_bytes w.text-is) w.count-is
    ]

pub returns : goal.returns
returns c = λ r states fs h a.
    (let all = take_found states end_origin c.args.ends.now fs c.loop-end.end-index a (omega arith) in
    subst (λ xs. SoFar c.args.depth end_line xs (string_bytes c.loop-end.text) c.loop-end.count) all (c.loop-end.invariant.1 r states fs h a))
