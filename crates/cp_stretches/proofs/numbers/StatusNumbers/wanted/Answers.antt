use Rattle.std.proofs.Common.{◌≡◌, ◌∙◌, ◌-◌, ◌<◌, ap, arith, length, suc}
use Rattle.std.proofs.lemmas.List.{get_or_read}
use Rattle.cp_states.specs.Numbers.{number_at}
use Rattle.cp_stretches.proofs.Statuses.{gate_within}
use Rattle.cp_stretches.proofs.numbers.StatusNumbers.wanted.Goals as goal

pub index-requires : goal.index-requires
index-requires c =
    let r = c.requires.0 in
    let t = c.args.table.now in
    let n = c.args.self.now in
    let row = c.args.row.now in
    let can = c.requires.3 in
    let k = number_at row c.pending_position.result in
    let there = ap (number_at row) c.pending_position.ensures in
    let e : number_at row t.processes ≡ suc (k - 1) = omega (arith, there) in
    omega (arith, gate_within r c.requires.1 t n c.requires.2 row can (k - 1) e, can.numbers.gates)

pub returns-clause-gate : goal.returns-clause-gate
returns-clause-gate c = λ monitor wanted.
    (let r = c.requires.0 in
    let t = c.args.table.now in
    let n = c.args.self.now in
    let row = c.args.row.now in
    let can = c.requires.3 in
    let k = number_at row c.pending_position.result in
    let there = ap (number_at row) c.pending_position.ensures in
    let e : number_at row t.processes ≡ suc (k - 1) = omega (arith, there) in
    let lt : k - 1 < length n.at_gate.items = omega (arith, gate_within r c.requires.1 t n c.requires.2 row can (k - 1) e, can.numbers.gates) in
    let same : k - 1 ≡ monitor = omega (arith, wanted, there) in
    get_or_read n.at_gate.items (k - 1) c.index.result.now lt c.index.ensures 0 ∙ ap (number_at n.at_gate.items) same)
