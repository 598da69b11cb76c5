use Rattle.std.proofs.Common.{rules, ◌<◌, arith, get_or, subst, sym, take}
use Rattle.std.specs.Prelude.{All}
use Rattle.std.proofs.lemmas.List.{take_all, take_more}
use Rattle.std.proofs.lemmas.List.Elements.{All-push}
use Rattle.cp_effects.specs.declared.changes.Write.{Write}
use Rattle.cp_ends.proofs.learning.are_behind.Goals as goal

no_write : Write
no_write = record { position = 0; number = 0 }

pub loop-write-preserved : goal.loop-write-preserved
unfolding no_write
loop-write-preserved c =
    let all = c.args.writes.now in
    let i = c.loop-write.write-index in
    let one : c.args.position < (get_or all i no_write).position = search rules in
    subst (All (λ (w : Write). c.args.position < w.position)) (sym (take_more all i no_write (omega arith)))
    (All-push (λ (w : Write). c.args.position < w.position) (take i all) (get_or all i no_write) c.loop-write.invariant one)

pub returns : goal.returns
returns c = λ is. subst (All (λ (w : Write). c.args.position < w.position)) (take_all c.loop-write.write-index c.args.writes.now (omega arith)) c.loop-write.invariant
