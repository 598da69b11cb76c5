use Rattle.std.proofs.Common.{rules, ◌≡◌, ◌∙◌, ◌+◌, ◌++◌, ◌∷◌, [], ap, length, arith, subst, sym}
use Rattle.std.proofs.lemmas.List.{length-append}
use Rattle.cp_states.specs.Hashes.{hashes}
use Rattle.cp_states.specs.Pieces.{AreDifferent, AreHashed, AreInside, KeepPieces, piece_at}
use Rattle.cp_states.proofs.Piecing.{new_piece, pieces_kept, still_different, still_hashed, still_inside}
use Rattle.cp_states.proofs.lists.ListStore.add.Goals as goal

pub invariant_of-self-2-clause-inside : goal.invariant_of-self-2-clause-inside
invariant_of-self-2-clause-inside g c =
    let self = c.args.self.now in
    let items : c.extend_from_slice.new.self.items ≡ self.items.items ++ c.args.list.now = search rules in
    let ends : c.push_reserved.new.self.items ≡ self.ends.items ++ c.len.result ∷ [] = search rules in
    let long : c.len.result ≡ length c.extend_from_slice.new.self.items = omega arith in
    let more : length self.items.items + length c.args.list.now ≡ c.len.result = omega (arith, length-append self.items.items c.args.list.now, ap length items, long) in
    subst (λ es. AreInside es (length c.extend_from_slice.new.self.items)) (sym ends) (subst (λ n. AreInside (self.ends.items ++ c.len.result ∷ []) n) long (still_inside self.ends.items (length self.items.items) c.len.result (omega (arith, more)) self.inside))

pub invariant_of-self-2-clause-hashed : goal.invariant_of-self-2-clause-hashed
invariant_of-self-2-clause-hashed g c =
    let self = c.args.self.now in
    let items : c.extend_from_slice.new.self.items ≡ self.items.items ++ c.args.list.now = search rules in
    let ends : c.push_reserved.new.self.items ≡ self.ends.items ++ c.len.result ∷ [] = search rules in
    let long : c.len.result ≡ length c.extend_from_slice.new.self.items = omega arith in
    let more : c.len.result ≡ length self.items.items + length c.args.list.now = omega (arith, length-append self.items.items c.args.list.now, ap length items, long) in
    let one = still_hashed g.T.Hashed.code self.items.items c.args.list.now self.ends.items (hashes self.index) c.len.result c.args.hash more c.requires.hash self.inside self.hashed in
    subst (λ xs. AreHashed g.T.Hashed.code xs c.push_reserved.new.self.items (hashes c.push.new.self)) (sym items) (subst (λ es. AreHashed g.T.Hashed.code (self.items.items ++ c.args.list.now) es (hashes c.push.new.self)) (sym ends) (subst (λ hs. AreHashed g.T.Hashed.code (self.items.items ++ c.args.list.now) (self.ends.items ++ c.len.result ∷ []) hs) (sym c.in_ok-push.ensures.more) one))

pub invariant_of-self-2-clause-different : goal.invariant_of-self-2-clause-different
invariant_of-self-2-clause-different g c =
    let self = c.args.self.now in
    let items : c.extend_from_slice.new.self.items ≡ self.items.items ++ c.args.list.now = search rules in
    let ends : c.push_reserved.new.self.items ≡ self.ends.items ++ c.len.result ∷ [] = search rules in
    let long : c.len.result ≡ length c.extend_from_slice.new.self.items = omega arith in
    let more : c.len.result ≡ length self.items.items + length c.args.list.now = omega (arith, length-append self.items.items c.args.list.now, ap length items, long) in
    let one = still_different self.items.items c.args.list.now self.ends.items c.len.result more c.requires.new self.inside self.different in
    subst (λ xs. AreDifferent xs c.push_reserved.new.self.items) (sym items) (subst (λ es. AreDifferent (self.items.items ++ c.args.list.now) es) (sym ends) one)

pub returns-clause-number : goal.returns-clause-number
returns-clause-number g c =
    let self = c.args.self.now in
    let items : c.extend_from_slice.new.self.items ≡ self.items.items ++ c.args.list.now = search rules in
    let ends : c.push_reserved.new.self.items ≡ self.ends.items ++ c.len.result ∷ [] = search rules in
    let long : c.len.result ≡ length c.extend_from_slice.new.self.items = omega arith in
    let more : c.len.result ≡ length self.items.items + length c.args.list.now = omega (arith, length-append self.items.items c.args.list.now, ap length items, long) in
    let number : c.len-number.result ≡ length self.ends.items = omega arith in (
      omega (arith, number, ap length ends, length-append self.ends.items (c.len.result ∷ [])),
      ap (λ xs. piece_at xs c.push_reserved.new.self.items c.len-number.result) items
          ∙ ap (λ es. piece_at (self.items.items ++ c.args.list.now) es c.len-number.result) ends
          ∙ ap (piece_at (self.items.items ++ c.args.list.now) (self.ends.items ++ c.len.result ∷ [])) number
          ∙ new_piece self.items.items c.args.list.now self.ends.items c.len.result more self.inside,
    )

pub returns-clause-kept : goal.returns-clause-kept
returns-clause-kept g c =
    let self = c.args.self.now in
    let items : c.extend_from_slice.new.self.items ≡ self.items.items ++ c.args.list.now = search rules in
    let ends : c.push_reserved.new.self.items ≡ self.ends.items ++ c.len.result ∷ [] = search rules in
    subst (λ xs. KeepPieces self.items.items self.ends.items xs c.push_reserved.new.self.items) (sym items) (subst (λ es. KeepPieces self.items.items self.ends.items (self.items.items ++ c.args.list.now) es) (sym ends) (pieces_kept self.items.items c.args.list.now self.ends.items c.len.result self.inside))
