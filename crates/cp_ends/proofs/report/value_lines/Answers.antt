use Rattle.cp_ends.proofs.Vocabulary.{◌≡◌, ◌∙◌, true, false, string_bytes, sym, ap, subst, arith, value_origin, MOST_VALUES}
use Rattle.cp_ends.specs.Told.{value_line, is_told}
use Rattle.cp_ends.proofs.Listing.{FirstSoFar, no_values, values_more, values_left_out, take_found}
use Rattle.cp_ends.proofs.report.value_lines.Goals as goal
use Rattle.cp_ends.proofs.report.value_lines.Goals.{then-is_told+in_ok-push_early, else-is_told}

pub loop-value-init : goal.loop-value-init
loop-value-init c = no_values c.args.states.now c.args.program.now.names c.args.depth c.args.values.now (string_bytes c.new-text.result) c.new-text.ensures.bytes

pub loop-value-preserved : goal.loop-value-preserved
loop-value-preserved c =
    let es = c.args.states.now in
    let word = c.in_ok-word.word.items in
    elim c.if-is_told.branch [
      | then-is_told+in_ok-push_early w ↦
          let it : is_told c.args.depth word ≡ true = ap (is_told c.args.depth) (sym c.as_slice.ensures.value) ∙ sym c.is_told.ensures ∙ w.if-is_told.true in
          values_more es c.args.depth c.loop-value.value-index word c.args.program.now.names c.args.values.now _ (omega arith) c.in_ok-word.ensures (string_bytes c.loop-value.text) c.loop-value.count c.loop-value.invariant _ (string_bytes c.if-is_told.text) c.if-is_told.count w.as_slice-then-is_told.ensures.value it (ap string_bytes w.text-is ∙ w.in_ok-push_early.ensures) w.count-is
      | else-is_told w ↦
          let it : is_told c.args.depth word ≡ false = ap (is_told c.args.depth) (sym c.as_slice.ensures.value) ∙ sym c.is_told.ensures ∙ w.if-is_told.false in
          values_left_out es c.args.depth c.loop-value.value-index word c.args.program.now.names c.args.values.now _ (omega arith) c.in_ok-word.ensures (string_bytes c.loop-value.text) c.loop-value.count c.loop-value.invariant (string_bytes c.if-is_told.text) c.if-is_told.count it (ap string_bytes w.text-is) w.count-is
    ]

pub returns : goal.returns
returns c = λ r states fs h a.
    (let all = take_found states value_origin c.args.values.now fs c.loop-value.value-index a (omega arith) in
    subst (λ xs. FirstSoFar MOST_VALUES c.args.depth (value_line c.args.program.now.names) xs (string_bytes c.loop-value.text) c.loop-value.count) all (c.loop-value.invariant.1 r states fs h a))
