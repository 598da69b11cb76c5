use Rattle.std.proofs.Common.{◌≡◌, ◌∙◌, ◌+◌, ◌-◌, ◌<◌, ap, sym, arith, length, map, take, drop, get_or, []}
use Rattle.cp_walk.proofs.Words.{machine_of, node_of, slots, rows_behind, rows_from, line_of, IsTooMany, behind, walk, length-map}
use Rattle.cp_run.proofs.Running.{drop_next}
use Rattle.cp_run.proofs.TraceRuns.{some_left}
use Rattle.cp_walk.proofs.Errors.{err_then, ok_as}
use Rattle.cp_walk.proofs.Leading.{due_opened, due_chosen}
use Rattle.cp_walk.proofs.Replaying.{none_over, refused_rows, replayed, replayed_all, nothing_replayed}
use Rattle.cp_walk.proofs.member.member_rows.Goals as goal

pub loop-place-init : goal.loop-place-init
loop-place-init g c =
    record {
      own = c.open-halt.ensures.own;
      within = omega arith;
      due = due_opened c.args.job.now.program.now c.args.job.now.limits.discipline c.args.job.now.limits.steps c.open-halt.result c.open-halt.new.state c.open-halt.ensures.own c.open-halt.ensures.node;
      same = let e : c.args.job.now.limits.choices - 0 ≡ c.args.job.now.limits.choices = omega arith in nothing_replayed (slots c.args.job.now.program.now c.args.job.now.limits.discipline) c.args.job.now.limits.choices c.args.job.now.limits.steps c.args.word.now (node_of c.open-halt.result (machine_of c.open-halt.new.state)) c.open-halt.ensures.node ∙ ap (λ k. map (behind []) (rows_from (slots c.args.job.now.program.now c.args.job.now.limits.discipline) c.args.job.now.limits.steps k c.args.word.now (node_of c.open-halt.result (machine_of c.open-halt.new.state)))) (sym e);
    }

pub returns-then-is_over-clause-rows : goal.returns-then-is_over-clause-rows
returns-then-is_over-clause-rows g c =
    let n = c.loop-place.place in
    let sys = slots c.args.job.now.program.now c.args.job.now.limits.discipline in
    ap (map line_of) c.new.ensures.items ∙ sym (c.loop-place.invariant.same ∙ ap (map (behind (take n c.args.word.now))) (none_over sys c.args.job.now.limits.steps (c.args.job.now.limits.choices - n) (get_or c.args.word.now n 0) (drop n c.args.word.now) (drop (n + 1) c.args.word.now) c.loop-place.halt (machine_of c.loop-place.state) (drop_next c.args.word.now n (omega arith)) (sym c.is_over.ensures ∙ c.if-is_over.true)))

pub returns-then-not-may-clause-rows : goal.returns-then-not-may-clause-rows
returns-then-not-may-clause-rows g c =
    let n = c.loop-place.place in
    let sys = slots c.args.job.now.program.now c.args.job.now.limits.discipline in
    ap (map line_of) c.new-then-not-may.ensures.items ∙ sym (c.loop-place.invariant.same ∙ ap (map (behind (take n c.args.word.now))) (refused_rows sys c.args.job.now.limits.steps (c.args.job.now.limits.choices - n) (get_or c.args.word.now n 0) (drop n c.args.word.now) (drop (n + 1) c.args.word.now) c.loop-place.halt (machine_of c.loop-place.state) (drop_next c.args.word.now n (omega arith)) (sym c.is_over.ensures ∙ c.if-is_over.false) (sym c.may.ensures ∙ c.if-not-may.true)))

pub loop-place-preserved : goal.loop-place-preserved
loop-place-preserved g c =
    let n = c.loop-place.place in
    let sys = slots c.args.job.now.program.now c.args.job.now.limits.discipline in
    let going = sym c.is_over.ensures ∙ c.if-is_over.false in
    let more = some_left (c.args.job.now.limits.choices - n) c.loop-place.halt going in
    record {
      own = c.choose-halt.ensures.own;
      within = omega (arith, more);
      due = due_chosen c.args.job.now.program.now c.args.job.now.limits.discipline c.args.job.now.limits.steps (machine_of c.loop-place.state) (get_or c.args.word.now n 0) c.choose-halt.result c.choose-halt.new.state c.choose-halt.ensures.own c.choose-halt.ensures.node;
      same = c.loop-place.invariant.same ∙ replayed sys c.args.job.now.limits.steps c.args.job.now.limits.choices n c.args.word.now c.loop-place.halt (machine_of c.loop-place.state) (node_of c.choose-halt.result (machine_of c.choose-halt.new.state)) (omega arith) going (sym c.may.ensures ∙ c.if-not-may.false) c.choose-halt.ensures.node;
    }

pub walk_on-requires-clause-room : goal.walk_on-requires-clause-room
walk_on-requires-clause-room g c = omega arith

pub returns-clause-rows : goal.returns-clause-rows
returns-clause-rows g c =
    let limits = c.args.job.now.limits in
    let sys = slots c.args.job.now.program.now limits.discipline in
    let n = c.loop-place.place in
    let all : n ≡ length c.args.word.now = omega arith in
    let node = node_of c.loop-place.halt (machine_of c.loop-place.state) in
    let same = c.loop-place.invariant.same ∙ replayed_all sys limits.steps (limits.choices - n) n c.args.word.now node all ∙ ap (λ k. map (behind c.args.word.now) (walk sys limits.steps (limits.choices - k) node)) all in
    ok_as c.walk_on.result _ (λ v. map line_of v.items ≡ rows_behind sys limits.choices limits.steps c.args.word.now) c.walk_on.ensures.rows (λ v h. h ∙ sym same)

pub returns-clause-many : goal.returns-clause-many
returns-clause-many g c =
    let limits = c.args.job.now.limits in
    let sys = slots c.args.job.now.program.now limits.discipline in
    let n = c.loop-place.place in
    let all : n ≡ length c.args.word.now = omega arith in
    let node = node_of c.loop-place.halt (machine_of c.loop-place.state) in
    let left = limits.choices - length c.args.word.now in
    let same = ap length (c.loop-place.invariant.same ∙ replayed_all sys limits.steps (limits.choices - n) n c.args.word.now node all ∙ ap (λ k. map (behind c.args.word.now) (walk sys limits.steps (limits.choices - k) node)) all) in
    let as_many = length-map (walk sys limits.steps left node) (behind c.args.word.now) in
    err_then c.walk_on.result _ (λ e. IsTooMany e → 50000 < length (rows_behind sys limits.choices limits.steps c.args.word.now)) c.walk_on.ensures.many (λ e h many. let more = h many in omega (arith, same, as_many, more))
