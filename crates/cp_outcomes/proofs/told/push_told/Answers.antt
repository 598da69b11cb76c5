use Rattle.std.proofs.Common.{◌≡◌, ◌∙◌, ◌<◌, ◌++◌, ◌∷◌, [], ◌+◌, map, take, ap, arith, length, subst, sym}
use Rattle.std.specs.List.{filter}
use Rattle.cp_merged.specs.Code.{tally_of}
use Rattle.cp_outcomes.specs.Told.{is_of, setting_of}
use Rattle.cp_outcomes.proofs.Ordering.{AreSo, tally_in, taken, passed_by, so_push}
use Rattle.cp_outcomes.proofs.told.push_told.Goals.{then-is_among+in_ok-tell_outcome+in_ok-push, else-is_among}
use Rattle.cp_outcomes.proofs.told.push_told.Goals as goal

pub loop-place-preserved : goal.loop-place-preserved
loop-place-preserved c =
    let xs = c.args.tallies.now in
    let k = c.loop-place.place in
    let d = c.index-tallies-place.result in
    let lt : k < length xs = omega arith in
    let s = setting_of c.args.subject c.args.subject.limits.choices in
    let among = c.is_among.ensures ∙ ap (λ t. is_of c.args.stopped (tally_of t)) c.index-tallies-place.is in
    elim c.if-is_among.branch [ then-is_among+in_ok-tell_outcome+in_ok-push w ↦ (let o = w.in_ok-tell_outcome.field-0 in let pushed : c.if-is_among.told.items ≡ c.loop-place.told.items ++ o ∷ [] = ap (λ v. v.items) w.told-is ∙ w.in_ok-push.ensures.items in record { order = taken (is_of c.args.stopped) xs k d c.args.told.now.items c.loop-place.told.items c.if-is_among.told.items o lt (sym among ∙ w.if-is_among.true) (ap (λ r. tally_of r.now) w.in_ok-tell_outcome.ensures.tally ∙ ap tally_of c.index-tallies-place.is) pushed c.loop-place.invariant.order; each = λ h. subst (AreSo s) (sym pushed) (so_push s c.loop-place.told.items o (c.loop-place.invariant.each h) w.in_ok-tell_outcome.ensures.so) }) | else-is_among w ↦ (let same = ap (λ v. v.items) w.told-is in record { order = subst (λ l. map tally_in l ≡ map tally_in c.args.told.now.items ++ filter (is_of c.args.stopped) (map tally_of (take (k + 1) xs))) (sym same) (passed_by (is_of c.args.stopped) xs k d c.args.told.now.items c.loop-place.told.items lt (sym among ∙ w.if-is_among.false) c.loop-place.invariant.order); each = λ h. subst (AreSo s) (sym same) (c.loop-place.invariant.each h) }) ]
