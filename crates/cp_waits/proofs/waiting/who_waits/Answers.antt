use Rattle.std.proofs.Common.{arith, inl, inr, suc, subst, sym, ap, ◌∙◌, add-one}
use Rattle.cp_waits.specs.Lines.{AreLines, IsAnswer, IsLine, HasNoLine}
use Rattle.cp_waits.proofs.waiting.who_waits.Goals as goal
use Rattle.cp_waits.proofs.waiting.who_waits.Goals.{in-Yes+in_ok-push-in-Yes, in-No}

pub loop-process-preserved : goal.loop-process-preserved
loop-process-preserved c =
    let g = c.args.graph.now in
    let states = c.args.states.now in
    let n = c.loop-process.process in
    let before = c.loop-process.list.items in
    let next : AreLines g states (suc n) c.match-branch-2.list.items =
    elim c.match-branch-2.branch [
      | in-Yes+in_ok-push-in-Yes w ↦
          (let line : IsLine g states n w.in-Yes.waiting = subst (λ a. IsAnswer g states n a) w.in-Yes.is c.in_ok-waiting.ensures in
          inr (before, w.in-Yes.waiting, ap (λ l. l.items) w.list-is ∙ w.in_ok-push-in-Yes.ensures.items, c.loop-process.invariant, line))
      | in-No w ↦
          (let none : HasNoLine g n = subst (λ a. IsAnswer g states n a) w.in-No.is c.in_ok-waiting.ensures in
          inl (subst (λ l. AreLines g states n l) (sym (ap (λ l. l.items) w.list-is)) c.loop-process.invariant, none))
    ] in
    subst (λ m. AreLines g states m c.match-branch-2.list.items) (sym (add-one n)) next

pub returns-in-NotSettled : goal.returns-in-NotSettled
returns-in-NotSettled c =
    let g = c.args.graph.now in
    let states = c.args.states.now in
    (omega arith, (c.loop-process.list.items, c.loop-process.invariant), subst (λ a. IsAnswer g states c.loop-process.process a) c.in-NotSettled.is c.in_ok-waiting.ensures)
