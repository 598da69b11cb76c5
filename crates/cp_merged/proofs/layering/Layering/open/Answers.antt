use Rattle.std.proofs.Common.{◌∙◌, ◌+◌, ap, arith, length, subst, sym}
use Rattle.cp_merged.proofs.Words.{List, Shown, IsArrival, rows_of, node_of, width_of}
use Rattle.cp_merged.proofs.Choosing.{ok_to}
use Rattle.cp_merged.proofs.Exploring.{holds_first, holds_none}
use Rattle.cp_merged.proofs.KnownRows.{whole_row}
use Rattle.cp_merged.proofs.layering.Layering.open.Goals as goal

pub arrive-requires-clause-on : goal.arrive-requires-clause-on
arrive-requires-clause-on g c =
    let row = c.args.self.now.row in
    let kept = c.in_ok-halt.ensures.kept in
    let o = c.in_ok-halt.ensures.opened in
    let whole = whole_row row.items c.open.new.row row.len (o.1.has.long ∙ ap (λ t. width_of t + 1) kept.table ∙ sym c.requires.on.long ∙ sym row.ok.0) in
    record {
      known_is = c.in_ok-halt.ensures.known;
      ruled = kept.ruled ∙ c.requires.on.ruled;
      long = ap length whole ∙ o.1.has.long;
      width_is = c.requires.on.width_is ∙ sym (ap (λ t. width_of t + 1) kept.table);
    }

pub arrive-requires-clause-arrival : goal.arrive-requires-clause-arrival
arrive-requires-clause-arrival g c =
    let r = c.args.job.now.run.program.now in
    let row = c.args.self.now.row in
    let kept = c.in_ok-halt.ensures.kept in
    let o = c.in_ok-halt.ensures.opened in
    let whole = whole_row row.items c.open.new.row row.len (o.1.has.long ∙ ap (λ t. width_of t + 1) kept.table ∙ sym c.requires.on.long ∙ sym row.ok.0) in
    (o.0, subst (λ l. IsArrival r c.open.new.self l c.clear.new.self.items o.0) (sym whole) (subst (λ (s : List Shown). IsArrival r c.open.new.self c.open.new.row s o.0) (sym c.clear.ensures.items) o.1))

pub arrive-requires-clause-small : goal.arrive-requires-clause-small
arrive-requires-clause-small g c =
    let l = c.args.job.now.run.limits in
    let old = c.args.self.now.frontier in
    let h = holds_none c.args.job.now.run.program.now l.discipline l.choices l.steps c.args.job.now.most c.open.new.self old.ended.entries (rows_of old.layer) c.requires.ended c.requires.layer in
    (h.0, h.1, (let e = c.one.ensures in let s = h.2 in omega (arith, e, s)))

pub returns-clause-holds : goal.returns-clause-holds
returns-clause-holds g c =
    let r = c.args.job.now.run.program.now in
    let l = c.args.job.now.run.limits in
    let row = c.args.self.now.row in
    let old = c.args.self.now.frontier in
    let new = c.arrive.new.self in
    let kept = c.in_ok-halt.ensures.kept in
    let o = c.in_ok-halt.ensures.opened in
    let whole = whole_row row.items c.open.new.row row.len (o.1.has.long ∙ ap (λ t. width_of t + 1) kept.table ∙ sym c.requires.on.long ∙ sym row.ok.0) in
    let arrival = subst (λ l. IsArrival r c.open.new.self l c.clear.new.self.items o.0) (sym whole) (subst (λ (s : List Shown). IsArrival r c.open.new.self c.open.new.row s o.0) (sym c.clear.ensures.items) o.1) in
    ok_to c.arrive.result _ _ c.arrive.ensures.front
    (λ a on. holds_first r l.discipline l.choices l.steps c.args.job.now.most c.open.new.self new.known old.ended.entries new.frontier.ended.entries (rows_of old.layer) (rows_of new.frontier.layer) c.new.result.items c.one.result (node_of c.in_ok-halt.halt o.0) c.requires.ended c.requires.layer c.new.ensures c.one.ensures o.2 (λ f h. on o.0 f arrival h))
