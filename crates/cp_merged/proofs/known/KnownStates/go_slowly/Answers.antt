use Rattle.std.proofs.Common.{◌∙◌, ◌≤◌, ap, arith, length, refl, subst, sym, take}
use Rattle.cp_merged.proofs.Words.{Machine, Discipline, MOST_SHOWN, chosen, machine_of, may, slots, width_of}
use Rattle.cp_machine.specs.Machine.{with_output}
use Rattle.cp_run.specs.Silent.{without_output}
use Rattle.cp_states.specs.Numbers.{number_at}
use Rattle.cp_states.specs.Pieces.{piece_at}
use Rattle.cp_stretches.specs.Cached.{StandsFor}
use Rattle.cp_stretches.proofs.Becoming.{own_like}
use Rattle.cp_merged.proofs.KnownRows.{own_with, stands_for}
use Rattle.cp_merged.proofs.Loud.{chosen_ruled}
use Rattle.cp_merged.proofs.known.KnownStates.go_slowly.Goals as goal

pub stand-requires-clause-row : goal.stand-requires-clause-row
stand-requires-clause-row c =
    let r = c.args.job.now.program.now in
    let self = c.args.self.now in
    let m = c.requires.here.0 in
    let part = ap (λ n. take n c.args.from.now) c.output_position-end.ensures in
    (without_output m, subst (StandsFor r c.args.job.now.limits.discipline self.cache.store self.cache.table (without_output m)) (sym part) (subst (λ (d : Discipline). StandsFor r d self.cache.store self.cache.table (without_output m) (take (width_of self.cache.table) c.args.from.now)) c.requires.ruled (stands_for r self c.args.from.now m c.requires.here.1.has c.requires.here.2)))

pub choose-halt-requires-clause-own : goal.choose-halt-requires-clause-own
choose-halt-requires-clause-own c =
    let self = c.args.self.now in
    let is = c.requires.here.1.output.is in
    let out = c.take_anew.ensures.items ∙ ap (λ n. piece_at self.outputs.items.items self.outputs.ends.items (number_at c.args.from.now n)) c.output_position-end.ensures ∙ is.is in
    let few : length c.take_anew.new.list.items ≤ MOST_SHOWN = omega (arith, ap length out, c.requires.here.2.shown) in
    let state = c.stand.new.standing.state in
    own_like c.args.job.now.program.now (record state { output = c.take_anew.new.list }) _ state.discipline refl refl refl refl (own_with c.args.job.now.program.now state c.take_anew.new.list c.stand.ensures.standing.own c.take_anew.ensures.room few)

pub choose-halt-requires-clause-may : goal.choose-halt-requires-clause-may
choose-halt-requires-clause-may c =
    let r = c.args.job.now.program.now in
    let discipline = c.args.job.now.limits.discipline in
    let self = c.args.self.now in
    let m = c.requires.here.0 in
    let part = ap (λ n. take n c.args.from.now) c.output_position-end.ensures in
    let stands = subst (StandsFor r discipline self.cache.store self.cache.table (without_output m)) (sym part) (subst (λ (d : Discipline). StandsFor r d self.cache.store self.cache.table (without_output m) (take (width_of self.cache.table) c.args.from.now)) c.requires.ruled (stands_for r self c.args.from.now m c.requires.here.1.has c.requires.here.2)) in
    let out = c.take_anew.ensures.items ∙ ap (λ n. piece_at self.outputs.items.items self.outputs.ends.items (number_at c.args.from.now n)) c.output_position-end.ensures ∙ c.requires.here.1.output.is.is in
    let machine = ap (λ k. with_output k c.take_anew.new.list.items) (c.stand.ensures.state (without_output m) stands) ∙ ap (with_output (without_output m)) out in
    ap (λ (k : Machine). may (slots r discipline) k c.args.process) machine ∙ c.requires.here.3

pub find_row-requires-clause-same : goal.find_row-requires-clause-same
find_row-requires-clause-same c =
    let r = c.args.job.now.program.now in
    let discipline = c.args.job.now.limits.discipline in
    let self = c.args.self.now in
    let m = c.requires.here.0 in
    let part = ap (λ n. take n c.args.from.now) c.output_position-end.ensures in
    let stands = subst (StandsFor r discipline self.cache.store self.cache.table (without_output m)) (sym part) (subst (λ (d : Discipline). StandsFor r d self.cache.store self.cache.table (without_output m) (take (width_of self.cache.table) c.args.from.now)) c.requires.ruled (stands_for r self c.args.from.now m c.requires.here.1.has c.requires.here.2)) in
    let same = c.stand.ensures.state (without_output m) stands in
    chosen_ruled r discipline c.args.job.now.limits.steps (with_output (machine_of c.stand.new.standing.state) c.take_anew.new.list.items) c.args.process c.choose-halt.result (machine_of c.choose-halt.new.state) c.choose-halt.ensures.node
    ∙ ap (λ (k : Machine). k.discipline) same ∙ c.requires.here.1.has.ruled

pub returns-clause-goes : goal.returns-clause-goes
returns-clause-goes c = λ m is own may_p.
    (let r = c.args.job.now.program.now in
    let discipline = c.args.job.now.limits.discipline in
    let self = c.args.self.now in
    let part = ap (λ n. take n c.args.from.now) c.output_position-end.ensures in
    let stands = subst (StandsFor r discipline self.cache.store self.cache.table (without_output m)) (sym part) (subst (λ (d : Discipline). StandsFor r d self.cache.store self.cache.table (without_output m) (take (width_of self.cache.table) c.args.from.now)) c.requires.ruled (stands_for r self c.args.from.now m is.has own)) in
    let out = c.take_anew.ensures.items ∙ ap (λ n. piece_at self.outputs.items.items self.outputs.ends.items (number_at c.args.from.now n)) c.output_position-end.ensures ∙ is.output.is.is in
    let machine = ap (λ k. with_output k c.take_anew.new.list.items) (c.stand.ensures.state (without_output m) stands) ∙ ap (with_output (without_output m)) out in
    record { after = machine_of c.choose-halt.new.state; arrival = c.in_ok-find_row.ensures.arrival; node = sym (ap (λ (k : Machine). chosen (slots r discipline) c.args.job.now.limits.steps k c.args.process) machine) ∙ c.choose-halt.ensures.node })
