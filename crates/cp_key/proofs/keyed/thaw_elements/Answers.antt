use Rattle.std.proofs.Common.{◌∙◌, ◌+◌, ◌<◌, ◌++◌, ◌∷◌, [], ap, arith, drop, get_or, length, sym, take}
use Rattle.std.specs.List.{flat_map}
use Rattle.std.proofs.lemmas.List.{take_more}
use Rattle.cp_key.proofs.Lists.{next_of}
use Rattle.cp_key.proofs.keyed.thaw_elements.Goals as goal

pub loop-at-preserved : goal.loop-at-preserved
loop-at-preserved g c =
    record {
      read = λ xs more e count fits. (
          let x = c.thaw.result in
          let old = c.loop-at.invariant.read xs more e count fits in
          let lt : c.loop-at.at < length xs = omega (arith, count) in
          let got = c.thaw.ensures (get_or xs c.loop-at.at x) (flat_map g.T.Keyed.key_of (drop (c.loop-at.at + 1) xs) ++ more) (old.1 ∙ next_of g.T.Keyed.key_of xs c.loop-at.at x more lt) in
          (c.push_reserved.ensures.items ∙ ap (λ ys. ys ++ x ∷ []) old.0 ∙ ap (λ y. take c.loop-at.at xs ++ y ∷ []) got.0 ∙ sym (take_more xs c.loop-at.at x lt), got.1)
          );
      long = omega arith;
      room = omega arith;
    }
