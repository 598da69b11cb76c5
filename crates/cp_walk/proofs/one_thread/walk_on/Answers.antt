use Rattle.cp_walk.proofs.Words.{◌≡◌, ◌∙◌, ◌+◌, ◌-◌, ◌++◌, ◌≤◌, All, ap, arith, sym, length, map, subst, machine_of, node_of, slots, IsStateOf, beginnings, words_in, line_of}
use Rattle.cp_walk.proofs.Words.{behind, walk}
use Rattle.cp_walk.proofs.one_thread.walk_on.Goals as goal

pub walk_from-requires-clause-room : goal.walk_from-requires-clause-room
walk_from-requires-clause-room g c =
    let kept = c.as_mut_slice.ensures.value in
    let count = ap length kept ∙ c.in-Ok.ensures.count in
    let path = ap length c.word_of-path.ensures in
    record {
      own = subst (All (IsStateOf c.args.job.now.program.now)) (sym kept) c.in-Ok.ensures.own;
      deep = omega (arith, count, path, c.requires.room);
      short = c.requires.short;
    }

pub returns-clause-rows : goal.returns-clause-rows
returns-clause-rows g c =
    let limits = c.args.job.now.limits in
    let sys = slots c.args.job.now.program.now limits.discipline in
    let node = node_of c.args.halt (machine_of c.args.state.now) in
    let word = c.args.word.now in
    let n = length c.as_mut_slice.result.now in
    let count = ap length c.as_mut_slice.ensures.value ∙ c.in-Ok.ensures.count in
    let deep : n ≡ limits.choices - length word = omega (arith, count, c.requires.room) in
    c.in_ok-walk_from.ensures.walked.rows
    ∙ ap (λ rows. map line_of rows ++ map (behind c.word_of-path.result.items) (walk sys limits.steps n node)) c.new-rows.ensures.items
    ∙ ap (λ w. map (behind w) (walk sys limits.steps n node)) c.word_of-path.ensures
    ∙ ap (λ k. map (behind word) (walk sys limits.steps k node)) deep

pub returns-clause-few : goal.returns-clause-few
returns-clause-few g c = c.in_ok-walk_from.ensures.walked.found.few

pub returns-clause-calls : goal.returns-clause-calls
returns-clause-calls g c =
    let limits = c.args.job.now.limits in
    let sys = slots c.args.job.now.program.now limits.discipline in
    let node = node_of c.args.halt (machine_of c.args.state.now) in
    let n = length c.as_mut_slice.result.now in
    let count = ap length c.as_mut_slice.ensures.value ∙ c.in-Ok.ensures.count in
    let deep : n ≡ limits.choices - length c.args.word.now = omega (arith, count, c.requires.room) in
    subst (λ k. (g.C.Count.count c.walk_from.new.calls) + 1 ≤ (g.C.Count.count c.args.calls.now) + beginnings (words_in (walk sys limits.steps k node))) deep c.in_ok-walk_from.ensures.calls
