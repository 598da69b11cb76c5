use Rattle.std.proofs.Common.{◌∙◌, length, map, sym, ap}
use Rattle.std.specs.Prelude.{string_bytes}
use Rattle.std.proofs.lemmas.List.{drop_all, length-map}
use Rattle.cp_verdict.specs.Marks.{is_marked, some_rest}
use Rattle.cp_verdict.specs.Outputs.{reads_as}
use Rattle.cp_verdict.proofs.Marks.{marked_last}
use Rattle.cp_verdict.proofs.output.reads_as.Goals as goal

pub returns : goal.returns
returns c =
    let counts = c.loop-item.counts.items in
    let items = c.args.items.now in
    let printed = map string_bytes c.args.printed.now in
    c.is_marked.ensures ∙ ap (λ marks. is_marked marks (length c.args.printed.now)) c.deref-2.ensures.value ∙
    ap (is_marked counts) (sym (length-map c.args.printed.now string_bytes)) ∙ sym (marked_last counts printed) ∙
    ap (λ rest. some_rest counts (reads_as rest) printed) (sym (drop_all c.loop-item.item-index items c.loop-item-test.false)) ∙ c.loop-item.invariant
