use Rattle.std.proofs.Common.{◌≡◌, ◌∙◌, ◌≤◌, sym, ap, arith}
use Rattle.indexmap.specs.IndexMap.{insert_entry}
use Rattle.cp_ways.proofs.Given.{same_outcome, EndKey}
use Rattle.cp_ways.specs.Weights.{total, weight}
use Rattle.cp_ways.proofs.Sums.{known_way, known_within, new_way}
use Rattle.cp_ways.proofs.ways.Ways.add.Goals as goal

pub plus-requires : goal.plus-requires
plus-requires c =
    let k : EndKey = record { outcome = c.args.outcome } in
    let l : c.in-Some.known.now ≤ total c.args.self.now.list.entries = known_within c.args.self.now.list.entries k c.in-Some.known.now (sym c.in-Some.ensures.value) in
    let small = c.requires.small in
    omega (arith, l, small)

pub returns-in-Some : goal.returns-in-Some
returns-in-Some c =
    let k : EndKey = record { outcome = c.args.outcome } in
    record {
      added = λ f.
          ap (weight f) (c.get_mut.follows.holds c.plus.result).0
          ∙ known_way f c.args.self.now.list.entries k c.in-Some.known.now c.args.count.now c.plus.result (sym c.in-Some.ensures.value) c.plus.ensures;
    }

pub returns-in_ok-insert-in-None : goal.returns-in_ok-insert-in-None
returns-in_ok-insert-in-None c =
    let k : EndKey = record { outcome = c.args.outcome } in
    let es = c.args.self.now.list.entries in
    let n = c.args.count.now in
    let same : c.get_mut.follows.lender-at-none.entries ≡ es = ap (λ m. m.entries) c.get_mut.follows.holds-at-none in
    record {
      added = λ f.
          ap (weight f) c.in_ok-insert-in-None.ensures.entries
          ∙ ap (λ xs. weight f (insert_entry (λ (a : EndKey) (b : EndKey). same_outcome a.outcome b.outcome) xs k n)) same
          ∙ new_way f es k n (sym c.in-None.ensures.value);
    }
