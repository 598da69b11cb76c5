use Rattle.cp_merged.proofs.Words.{◌≡◌, ◌∙◌, map, ap, sym, subst, arith, slots, same_outcome, by_layers, end_of, same_key, Reached, IsDueFault, rows_of}
use Rattle.cp_merged.proofs.Arriving.{ends_are}
use Rattle.cp_merged.proofs.Exploring.{err_to, rows_small}
use Rattle.cp_merged.proofs.explorer.ends_of.Goals as goal

pub one_layer-requires-clause-reached : goal.one_layer-requires-clause-reached
one_layer-requires-clause-reached g c = c.loop-depth.invariant.reached

pub loop-depth-preserved : goal.loop-depth-preserved
loop-depth-preserved g c = record { on = c.in_ok-one_layer.ensures.on; reached = c.in_ok-one_layer.ensures.reached }

pub returns-in_err-one_layer-clause-fault : goal.returns-in_err-one_layer-clause-fault
returns-in_err-one_layer-clause-fault g c =
    let l = c.args.job.now.run.limits in
    let r = c.args.job.now.run.program.now in
    err_to c.from_residual-in_err-one_layer.result _ (λ e. IsDueFault (slots r l.discipline) l.choices l.steps c.args.job.now.most e) c.from_residual-in_err-one_layer.ensures.1 (λ f h. subst (λ e. IsDueFault (slots r l.discipline) l.choices l.steps c.args.job.now.most e) (sym h) c.in_err-one_layer.ensures.fault)

pub last_layer-requires-clause-reached : goal.last_layer-requires-clause-reached
last_layer-requires-clause-reached g c =
    let l = c.args.job.now.run.limits in
    let layering = c.loop-depth.layering in
    let front = layering.frontier in
    let same : c.loop-depth.depth ≡ l.choices = omega arith in
    subst (λ d. Reached c.args.job.now.run.program.now l.discipline l.choices l.steps c.args.job.now.most d layering.known front.ended.entries (rows_of front.layer)) same c.loop-depth.invariant.reached

pub returns-clause-ends : goal.returns-clause-ends
returns-clause-ends g c =
    let l = c.args.job.now.run.limits in
    let r = c.args.job.now.run.program.now in
    ap (map end_of) c.into_ends.ensures ∙ ends_are c.last_layer.new.self.frontier.ended.entries (by_layers (slots r l.discipline) same_outcome same_key l.choices l.steps) c.in_ok-last_layer.ensures.few c.in_ok-last_layer.ensures.ended

pub returns-clause-small : goal.returns-clause-small
returns-clause-small g c =
    let l = c.args.job.now.run.limits in
    let r = c.args.job.now.run.program.now in
    rows_small r l.discipline l.choices l.steps c.args.job.now.most c.into_ends.result.entries c.loop-depth.invariant.on.known_is.cached.sound.few l.few_choices (returns-clause-ends g c)

pub returns-in_err-layering-clause-fault : goal.returns-in_err-layering-clause-fault
returns-in_err-layering-clause-fault g c =
    let l = c.args.job.now.run.limits in
    let r = c.args.job.now.run.program.now in
    err_to c.from_residual.result _ (λ e. IsDueFault (slots r l.discipline) l.choices l.steps c.args.job.now.most e) c.from_residual.ensures.1 (λ f h. subst (λ e. IsDueFault (slots r l.discipline) l.choices l.steps c.args.job.now.most e) (sym h) c.in_err-layering.ensures.fault)

pub returns-in_err-last_layer-clause-fault : goal.returns-in_err-last_layer-clause-fault
returns-in_err-last_layer-clause-fault g c =
    let l = c.args.job.now.run.limits in
    let r = c.args.job.now.run.program.now in
    err_to c.from_residual-in_err-last_layer.result _ (λ e. IsDueFault (slots r l.discipline) l.choices l.steps c.args.job.now.most e) c.from_residual-in_err-last_layer.ensures.1 (λ f h. subst (λ e. IsDueFault (slots r l.discipline) l.choices l.steps c.args.job.now.most e) (sym h) c.in_err-last_layer.ensures.fault)
