use Rattle.cp_layers.proofs.Words.{sym, subst, machine_of, ok_as, AddsNode}
use Rattle.std.proofs.Common.{ap}
use Rattle.std.specs.Prelude.{IfOk}
use Rattle.cp_key.proofs.Owned.{machine_own}
use Rattle.cp_run.specs.Code.{node_of}
use Rattle.cp_run.specs.declared.outcome.Halt.{Halt}
use Rattle.cp_run.specs.declared.outcome.OutcomeKind.{OutcomeKind}
use Rattle.cp_layers.proofs.FromState.{node_choosing, node_halted}
use Rattle.cp_layers.proofs.layer.Layer.arrive.Goals as goal

pub returns-in-Choice-clause-node : goal.returns-in-Choice-clause-node
returns-in-Choice-clause-node c =
    let r = c.args.job.now.run.program.now in
    let m = machine_of c.args.state.now in
    let keys = c.args.self.now.known.keys in
    subst (λ (h : Halt OutcomeKind). IfOk c.add.result (λ _. AddsNode r keys (node_of h m) c.add.new.self.known.keys)) (sym c.in-Choice.is) (ok_as c.add.result _ _ c.add.ensures.state (λ u h. node_choosing r keys c.add.new.self.known.keys m (machine_own r c.args.state.now c.requires) h))

pub returns-in-Ended-clause-node : goal.returns-in-Ended-clause-node
returns-in-Ended-clause-node c =
    let r = c.args.job.now.run.program.now in
    let m = machine_of c.args.state.now in
    let keys = c.args.self.now.known.keys in
    subst (λ (h : Halt OutcomeKind). AddsNode r keys (node_of h m) keys) (sym c.in-Ended.is) (node_halted r keys c.in-Ended.field-0 m)

pub returns-in-Choice-clause-words : goal.returns-in-Choice-clause-words
returns-in-Choice-clause-words c =
    let m = machine_of c.args.state.now in
    ok_as c.add.result _ _ c.add.ensures.words (λ u added sys steps d h due. added sys steps d h (due m (ap (λ (k : Halt OutcomeKind). node_of k m) c.in-Choice.is)))

pub returns-in-Ended-clause-words : goal.returns-in-Ended-clause-words
returns-in-Ended-clause-words c = λ sys steps d h due. h
