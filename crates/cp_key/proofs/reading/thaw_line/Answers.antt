use Rattle.std.proofs.Common.{◌∙◌, ◌+◌, ◌<◌, ◌++◌, ◌∷◌, [], ap, arith, drop, get_or, length, sym, take}
use Rattle.std.specs.List.{flat_map}
use Rattle.std.proofs.lemmas.List.{length-take-le, take_more}
use Rattle.cp_key.specs.Numbers.{byte_key}
use Rattle.cp_key.proofs.Lists.{next_of, on_ok}
use Rattle.cp_key.proofs.reading.thaw_line.Goals as goal

pub loop-at-preserved : goal.loop-at-preserved
loop-at-preserved c = λ line more e count fits.
    (let x = c.byte.result in
    let at = c.loop-at.at in
    let old = c.loop-at.invariant line more e count fits in
    let lt : c.loop-at.at < length line = omega arith in
    let got = c.byte.ensures (get_or line at x) (flat_map byte_key (drop (at + 1) line) ++ more) (old.1 ∙ next_of byte_key line at x more lt) in
    let long = ap length old.0 ∙ length-take-le at line (omega arith) in
    let items = on_ok c.try_push.result (c.try_push.ensures.variant.1 (omega (arith, long, fits))) c.try_push.ensures.ok in
    (items ∙ ap (λ ys. ys ++ x ∷ []) old.0 ∙ ap (λ y. take at line ++ y ∷ []) got.0 ∙ sym (take_more line at x lt), got.1))
