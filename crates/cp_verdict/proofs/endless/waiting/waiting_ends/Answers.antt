use Rattle.std.proofs.Common.{◌∙◌, ◌++◌, [], ◌∷◌, append-nil, ap, map, sym}
use Rattle.std.proofs.lemmas.List.{map-append}
use Rattle.std.specs.Prelude.{None, Some}
use Rattle.cp_waiting_ends.specs.Waiting.{end_seen}
use Rattle.cp_verdict.specs.waiting.Known.{waiting_pair}
use Rattle.cp_verdict.proofs.who.Knowing.{next_known}
use Rattle.cp_verdict.proofs.endless.waiting.waiting_ends.Goals as goal
use Rattle.cp_verdict.proofs.endless.waiting.waiting_ends.Goals.{in-Some+in_ok-one+in_ok-push, in_default}

pub loop-number-preserved : goal.loop-number-preserved
loop-number-preserved c =
    let all = c.args.ends.now.known.entries in
    let n = c.loop-number.number in
    let old = c.loop-number.waiting.items in
    elim c.match-get.branch [
      | in-Some+in_ok-one+in_ok-push w ↦ next_known all n (Some (end_seen w.in-Some.end.now, w.in-Some.word.now)) w.in-Some.ensures old c.match-get.waiting.items c.loop-number.invariant
          (ap (λ v. map waiting_pair v.items) w.waiting-is ∙ ap (map waiting_pair) w.in_ok-push.ensures.items ∙ map-append waiting_pair old (w.in_ok-one.one ∷ []) ∙ ap (λ p. map waiting_pair old ++ p ∷ []) w.in_ok-one.ensures)
      | in_default w ↦ next_known all n None w.in_default.ensures old c.match-get.waiting.items c.loop-number.invariant (ap (λ v. map waiting_pair v.items) w.waiting-is ∙ sym (append-nil (map waiting_pair old)))
    ]
