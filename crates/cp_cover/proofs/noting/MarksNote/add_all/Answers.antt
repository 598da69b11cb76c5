use Rattle.std.proofs.Common.{inl, ◌<◌, length, sym, subst, take, arith}
use Rattle.std.proofs.lemmas.List.{take_more}
use Rattle.cp_layers.specs.Adding.{Adds}
use Rattle.cp_layers.proofs.Adding.{adds_then}
use Rattle.cp_cover.proofs.noting.MarksNote.add_all.Goals as goal

pub loop-mark-preserved : goal.loop-mark-preserved
loop-mark-preserved c =
    let i = c.loop-mark.mark-index in
    let all = c.as_slice-mark-items.result.now in
    let lt : i < length all = omega arith in
    record { adds = subst (λ l. Adds c.args.self.now.known.keys l c.add.new.self.known.keys) (sym (take_more all i _ lt)) (adds_then c.args.self.now.known.keys (take i all) c.loop-mark.self.known.keys _ c.add.new.self.known.keys c.loop-mark.invariant.adds c.in_ok-add.ensures) }

pub returns-clause-words : goal.returns-clause-words
returns-clause-words c = λ x there. inl there
