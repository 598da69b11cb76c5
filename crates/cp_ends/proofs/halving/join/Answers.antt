use Rattle.std.proofs.Common.{◌≡◌, ◌∙◌, ◌++◌, ◌+◌, ◌-◌, ◌/◌, ◌≤◌, ℕ, List, ap, arith, drop, false, length, sym, take, true}
use Rattle.std.proofs.Math.Nat.{div-le_self}
use Rattle.std.proofs.lemmas.List.{length-append, length-drop, length-take-le, take-append-drop}
use Rattle.cp_parts.specs.declared.placing.PlaceTable.{PlaceTable}
use Rattle.cp_ends.specs.Halves.{cuts_of, dealt, half_in, width_of}
use Rattle.cp_ends.proofs.Dealing.{far_long, near_long, one_after_one, rejoined}
use Rattle.cp_ends.proofs.halving.join.Goals as goal

module _ (t : PlaceTable) (row : List ℕ) (wide : length row ≡ width_of t) where
  abbrev places : List ℕ
  places = drop (t.processes + 1) row

  -- what the places have is longer than its cuts
  longer : t.processes / 2 + (t.processes - t.processes / 2) + t.monitors / 2 ≤ length places
  longer = omega (arith, wide, length-drop (t.processes + 1) row, div-le_self t.processes 2, div-le_self t.monitors 2)

  module _ (first second : List ℕ) (one : first ≡ half_in t true row) (two : second ≡ half_in t false row) where
    both : dealt (cuts_of t) places ≡ (first, second)
    both = ap (λ (l : List ℕ). (l, (dealt (cuts_of t) places).1)) (sym one) ∙ ap (λ (l : List ℕ). (first, l)) (sym two)

    first_long : length first ≡ t.processes / 2 + t.monitors / 2
    first_long = near_long (t.processes / 2) (t.processes - t.processes / 2) (t.monitors / 2) places first second both longer

    second_long : length second ≡ t.processes - t.processes / 2 + (length places - t.processes / 2 - (t.processes - t.processes / 2) - t.monitors / 2)
    second_long = far_long (t.processes / 2) (t.processes - t.processes / 2) (t.monitors / 2) places first second both longer

    again : take (t.processes / 2) first ++ (take (t.processes - t.processes / 2) second ++ (drop (t.processes / 2) first ++ drop (t.processes - t.processes / 2) second)) ≡ places
    again = rejoined (t.processes / 2) (t.processes - t.processes / 2) (t.monitors / 2) places first second both longer

pub split_at-requires : goal.split_at-requires
split_at-requires c = omega (arith, first_long c.args.table.now c.requires.0 c.requires.4 c.args.first.now c.args.second.now c.requires.2 c.requires.3)

pub split_at-requires-2 : goal.split_at-requires-2
split_at-requires-2 c = omega (arith, second_long c.args.table.now c.requires.0 c.requires.4 c.args.first.now c.args.second.now c.requires.2 c.requires.3)

pub append-requires : goal.append-requires
append-requires c = omega (arith, ap length c.requires.1, length-take-le (c.args.table.now.processes + 1) c.requires.0 (omega (arith, c.requires.4)), c.requires.4, c.requires.5, ap length c.new-row.ensures)

pub append-requires-2 : goal.append-requires-2
append-requires-2 c =
    let t = c.args.table.now in
    let row = c.requires.0 in
    let near = first_long t row c.requires.4 c.args.first.now c.args.second.now c.requires.2 c.requires.3 in
    omega (arith, near, div-le_self t.processes 2, ap length c.requires.1, length-take-le (t.processes + 1) row (omega (arith, c.requires.4)), c.requires.4, c.requires.5, c.split_at.ensures.front_len, ap length c.new-row.ensures, ap length c.append.ensures, length-append c.new-row.result.items c.args.statuses.now)

pub append-requires-3 : goal.append-requires-3
append-requires-3 c =
    let t = c.args.table.now in
    let row = c.requires.0 in
    omega (arith, div-le_self t.processes 2, ap length c.requires.1, length-take-le (t.processes + 1) row (omega (arith, c.requires.4)), c.requires.4, c.requires.5, c.split_at.ensures.front_len, c.split_at-2.ensures.front_len, ap length c.new-row.ensures, ap length c.append.ensures, length-append c.new-row.result.items c.args.statuses.now, ap length c.append-2.ensures, length-append c.append.new.row.items c.split_at.result.0.now)

pub append-requires-4 : goal.append-requires-4
append-requires-4 c =
    let t = c.args.table.now in
    let row = c.requires.0 in
    let near = first_long t row c.requires.4 c.args.first.now c.args.second.now c.requires.2 c.requires.3 in
    omega (arith, near, div-le_self t.processes 2, div-le_self t.monitors 2, ap length c.requires.1, length-take-le (t.processes + 1) row (omega (arith, c.requires.4)), c.requires.4, c.requires.5, c.split_at.ensures.front_len, c.split_at.ensures.back_len, c.split_at-2.ensures.front_len, ap length c.new-row.ensures, ap length c.append.ensures, length-append c.new-row.result.items c.args.statuses.now, ap length c.append-2.ensures, length-append c.append.new.row.items c.split_at.result.0.now, ap length c.append-3.ensures, length-append c.append-2.new.row.items c.split_at-2.result.0.now)

pub append-requires-5 : goal.append-requires-5
append-requires-5 c =
    let t = c.args.table.now in
    let row = c.requires.0 in
    let near = first_long t row c.requires.4 c.args.first.now c.args.second.now c.requires.2 c.requires.3 in
    let far = second_long t row c.requires.4 c.args.first.now c.args.second.now c.requires.2 c.requires.3 in
    omega (arith, near, far, length-drop (t.processes + 1) row, div-le_self t.processes 2, div-le_self t.monitors 2, ap length c.requires.1, length-take-le (t.processes + 1) row (omega (arith, c.requires.4)), c.requires.4, c.requires.5, c.split_at.ensures.front_len, c.split_at.ensures.back_len, c.split_at-2.ensures.front_len, c.split_at-2.ensures.back_len, ap length c.new-row.ensures, ap length c.append.ensures, length-append c.new-row.result.items c.args.statuses.now, ap length c.append-2.ensures, length-append c.append.new.row.items c.split_at.result.0.now, ap length c.append-3.ensures, length-append c.append-2.new.row.items c.split_at-2.result.0.now, ap length c.append-4.ensures, length-append c.append-3.new.row.items c.split_at.result.1.now)

pub returns : goal.returns
returns c = λ row own one two wide.
    (let t = c.args.table.now in
    let p = c.split_at.result.0.now in
    let q = c.split_at-2.result.0.now in
    let m = c.split_at.result.1.now in
    let n = c.split_at-2.result.1.now in
    let a = t.processes / 2 in
    let b = t.processes - t.processes / 2 in
    let near = c.args.first.now in
    let far = c.args.second.now in
    let s = c.args.statuses.now in
    c.append-5.ensures
    ∙ ap (λ l. l ++ n) (c.append-4.ensures ∙ ap (λ l. l ++ m) (c.append-3.ensures ∙ ap (λ l. l ++ q) (c.append-2.ensures ∙ ap (λ l. l ++ p) (c.append.ensures ∙ ap (λ l. l ++ s) c.new-row.ensures))))
    ∙ one_after_one s p q m n
    ∙ ap (λ l. s ++ (l ++ (q ++ (m ++ n)))) c.split_at.ensures.front
    ∙ ap (λ l. s ++ (take a near ++ (l ++ (m ++ n)))) c.split_at-2.ensures.front
    ∙ ap (λ l. s ++ (take a near ++ (take b far ++ (l ++ n)))) c.split_at.ensures.back
    ∙ ap (λ l. s ++ (take a near ++ (take b far ++ (drop a near ++ l)))) c.split_at-2.ensures.back
    ∙ ap (λ l. s ++ l) (again t row wide near far one two)
    ∙ ap (λ l. l ++ drop (t.processes + 1) row) own
    ∙ take-append-drop (t.processes + 1) row)
