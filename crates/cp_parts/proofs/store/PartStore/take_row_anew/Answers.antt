use Rattle.cp_parts.proofs.Anew.{can_anew}
use Rattle.cp_parts.proofs.store.PartStore.take_row_anew.Goals as goal

pub take_row-requires : goal.take_row-requires
take_row-requires c =
    let known = c.nothing_known-known.result in
    record { own = (c.requires.own.0, c.requires.own.1, c.requires.own.2, can_anew c.requires.own.0 c.args.self.now c.args.table.now c.args.row.now known c.requires.own.1 c.args.state.now c.requires.own.2 c.requires.own.3 c.nothing_known-known.ensures.long c.nothing_known-known.ensures.none) }

pub returns-clause-same : goal.returns-clause-same
returns-clause-same c = λ r m own can output discipline.
    (let known = c.nothing_known-known.result in
    c.take_row.ensures.same r m own (can_anew r c.args.self.now c.args.table.now c.args.row.now known m c.args.state.now own can c.nothing_known-known.ensures.long c.nothing_known-known.ensures.none) output discipline)

pub returns-clause-own : goal.returns-clause-own
returns-clause-own c = λ r m own can output discipline.
    (let known = c.nothing_known-known.result in
    c.take_row.ensures.own r m own (can_anew r c.args.self.now c.args.table.now c.args.row.now known m c.args.state.now own can c.nothing_known-known.ensures.long c.nothing_known-known.ensures.none) output discipline)
