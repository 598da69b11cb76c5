use Rattle.std.proofs.Common.{◌∙◌, ℕ, List, ap, append-nil, map, subst, sym}
use Rattle.std.specs.Prelude.{None, Some}
use Rattle.cp_waiting_ends.specs.Waiting.{WaitsSo, end_seen}
use Rattle.cp_verdict.specs.waiting.Rows.{HaveShortWords, row_seen}
use Rattle.cp_verdict.proofs.who.Rows.{end_short, one_end, one_short, row_pushed}
use Rattle.cp_verdict.proofs.waiting.rows.push_ends.Goals as goal
use Rattle.cp_verdict.proofs.waiting.rows.push_ends.Goals.{in-Some+in_ok-push, in_default}

pub loop-number-preserved : goal.loop-number-preserved
loop-number-preserved c =
    let ends = c.args.ends.now in
    let n = c.loop-number.number in
    let old = c.args.rows.now.items in
    let xs = c.loop-number.rows.items in
    let ys = c.match-get.rows.items in
    let before = c.loop-number.invariant in
    elim c.match-get.branch [
      | in-Some+in_ok-push w ↦ (
          let p : WaitsSo × List ℕ = (end_seen w.in-Some.end.now, w.in-Some.word.now) in
          let pushed = ap (λ v. v.items) w.rows-is ∙ w.in_ok-push.ensures.items in
          record {
            rows = one_end old xs ys ends n (Some p) before.rows w.in-Some.ensures (row_pushed xs ys _ p pushed (ap (λ (who : List ℕ). ((who, w.in-Some.end.now.key.outcome), w.in-Some.word.now)) w.deref.ensures.value));
            short = λ h. one_short xs ys _ pushed (end_short ends n p c.requires w.in-Some.ensures) (before.short h);
          })
      | in_default w ↦ (
          let same = ap (λ v. v.items) w.rows-is in
          record {
            rows = one_end old xs ys ends n None before.rows w.in_default.ensures (ap (map row_seen) same ∙ sym (append-nil (map row_seen xs)));
            short = λ h. subst HaveShortWords (sym same) (before.short h);
          })
    ]
