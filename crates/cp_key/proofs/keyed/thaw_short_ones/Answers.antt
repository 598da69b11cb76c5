use Rattle.std.proofs.Common.{◌∙◌, ◌+◌, ◌≤◌, ◌<◌, ◌++◌, ◌∷◌, [], ap, arith, drop, get_or, length, sym, take}
use Rattle.std.specs.List.{flat_map}
use Rattle.std.proofs.lemmas.List.{drop_all, drop_more, take_all, take_more}
use Rattle.cp_key.proofs.Lists.{next_of}
use Rattle.cp_key.proofs.keyed.thaw_short_ones.Goals as goal

pub loop-byte-preserved : goal.loop-byte-preserved
loop-byte-preserved g c =
    record {
      read = λ xs rest more e long. (
          let key = g.T.Keyed.key_of in
          let at = c.loop-byte.byte-index in
          let x = c.in-Some.x in
          let old = c.loop-byte.invariant.read xs rest more e long in
          let lt : at < length c.args.bytes.now = omega arith in
          let few : at < length xs = omega (arith, lt, long) in
          let front = ap (λ ys. ys ++ rest) (sym (drop_more c.args.bytes.now at 0 lt)) in
          let got = c.in-Some.ensures (get_or xs at x) (drop (at + 1) c.args.bytes.now ++ rest) (flat_map key (drop (at + 1) xs) ++ more) (front ∙ old.1 ∙ next_of key xs at x more few) in
          (c.push_reserved.ensures.items ∙ ap (λ ys. ys ++ x ∷ []) old.0 ∙ ap (λ y. take at xs ++ y ∷ []) got.0 ∙ sym (take_more xs at x few), got.1)
          );
      long = omega arith;
      room = omega arith;
    }

pub returns-clause-list : goal.returns-clause-list
returns-clause-list g c xs rest more e long all =
    let key = g.T.Keyed.key_of in
    let at = c.loop-byte.byte-index in
    let old = c.loop-byte.invariant.read xs rest more e long in
    let end : length c.args.bytes.now ≤ at = omega arith in
    let end_too : length xs ≤ at = omega (arith, end, long) in
    (old.0 ∙ take_all at xs end_too, ap (λ ys. ys ++ rest) (sym (drop_all at c.args.bytes.now end)) ∙ old.1 ∙ ap (λ ys. flat_map key ys ++ more) (drop_all at xs end_too))
