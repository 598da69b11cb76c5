use Rattle.std.proofs.Common.{◌≡◌, ◌∙◌, ◌≤◌, ◌++◌, append_assoc, arith, drop, length, length-take-le, sym, take-append-drop}
use Rattle.std.specs.List.{flat_map}
use Rattle.std.proofs.lemmas.List.{take_rest}
use Rattle.cp_key.specs.Numbers.{number_key}
use Rattle.cp_key.proofs.keyed.thaw_numbers.Goals as goal
use Rattle.cp_key.proofs.keyed.thaw_numbers.Goals.{then-count-room, else-count-room}

pub returns-then-thaw_short_ones-clause-list : goal.returns-then-thaw_short_ones-clause-list
returns-then-thaw_short_ones-clause-list g c xs more e fits =
    let key = g.T.Keyed.key_of in
    let bytes = c.thaw-count.new.key.bytes.now in
    let count = c.if-count-room.count in
    let long = c.thaw-count.ensures (length xs) (flat_map key xs ++ more) (e ∙ append_assoc (number_key (length xs)) (flat_map key xs) more) in
    let all : count ≡ length xs = elim c.if-count-room.branch [
      | then-count-room w ↦ omega (arith, w.count-is, w.if-count-room, long.0, fits, c.clear.ensures.capacity, c.capacity-room.ensures)
      | else-count-room w ↦ omega (arith, w.count-is, w.if-count-room, long.0, fits, c.clear.ensures.capacity, c.capacity-room.ensures)
    ] in
    let enough : count ≤ length bytes = omega (arith, c.if-count-key.true) in
    let got = c.thaw_short_ones.ensures.list xs (drop count bytes) more (take-append-drop count bytes ∙ long.1) (sym all ∙ sym (length-take-le count bytes enough)) c.if-thaw_short_ones.true in
    (got.0, take_rest bytes count ∙ got.1)
