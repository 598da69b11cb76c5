use Rattle.std.proofs.Common.{ap, refl, subst, sym}
use Rattle.std.proofs.lemmas.Result.{IfOk-weaker}
use Rattle.cp_machine.specs.Machine.{thread_of}
use Rattle.cp_parts.specs.Parts.{IsProcessPart, ground_in}
use Rattle.cp_parts.proofs.Keeping.{grounds_same}
use Rattle.cp_parts.proofs.Pieces.{pieces_same}
use Rattle.cp_parts.proofs.store.PartStore.number_process.Goals as goal

pub returns-clause-within : goal.returns-clause-within
returns-clause-within c = IfOk-weaker c.number_of.result _ _ (λ n h. h.0) c.number_of.ensures.number

pub returns-clause-ground : goal.returns-clause-ground
returns-clause-ground c = IfOk-weaker c.number_of.result _ _ (λ n h. ap ground_in h.1) c.number_of.ensures.number

pub returns-clause-process : goal.returns-clause-process
returns-clause-process c =
    IfOk-weaker c.number_of.result _ _ (λ n h.
    subst (IsProcessPart _ (thread_of c.args.process.now)) (sym h.1) (record { long = refl; stage = c.stage_number.ensures; body = c.in_ok-body.ensures.body })) c.number_of.ensures.number

pub returns-clause-kept : goal.returns-clause-kept
returns-clause-kept c =
    let s = c.args.self.now in
    record {
      grounds = grounds_same s.grounds;
      bodies = c.number_body.ensures.kept;
      lines = pieces_same s.lines.items.items s.lines.ends.items;
      statuses = pieces_same s.statuses.items.items s.statuses.ends.items;
      parts = c.number_of.ensures.kept;
      ready = refl;
    }

pub returns-in_err-body-clause-kept : goal.returns-in_err-body-clause-kept
returns-in_err-body-clause-kept c =
    let s = c.args.self.now in
    record {
      grounds = grounds_same s.grounds;
      bodies = c.number_body.ensures.kept;
      lines = pieces_same s.lines.items.items s.lines.ends.items;
      statuses = pieces_same s.statuses.items.items s.statuses.ends.items;
      parts = pieces_same s.parts.items.items s.parts.ends.items;
      ready = refl;
    }
