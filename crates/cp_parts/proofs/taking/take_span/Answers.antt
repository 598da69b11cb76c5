use Rattle.std.proofs.Common.{◌≡◌, arith, length, subst, sym}
use Rattle.std.proofs.lemmas.List.{get_or_read}
use Rattle.cp_parts.specs.Taken.{IsWritten}
use Rattle.cp_parts.proofs.Laid.{written_more, written_none}
use Rattle.cp_parts.proofs.taking.take_span.Goals as goal

pub loop-at-init : goal.loop-at-init
loop-at-init g c = λ d. written_none d c.args.span.first c.args.from.now c.args.to.now

pub loop-at-preserved : goal.loop-at-preserved
loop-at-preserved g c = λ d.
    let inv = c.loop-at.invariant d in
    written_more d c.args.span.first c.args.from.now c.args.to.now c.loop-at.at c.loop-at.to c.index-from-at.result (omega (arith, inv.long, c.requires)) (sym (get_or_read c.args.from.now c.loop-at.at c.index-from-at.result (omega arith) c.index-from-at.is d)) inv

pub returns : goal.returns
returns g c = λ d.
    (let all : c.loop-at.at ≡ length c.args.from.now = omega arith in
    subst (λ k. IsWritten d c.args.span.first k c.args.from.now c.args.to.now c.loop-at.to) all (c.loop-at.invariant d))
