use Rattle.std.proofs.Common.{◌∙◌, ap, refl, subst, sym}
use Rattle.std.proofs.lemmas.Result.{IfOk-weaker}
use Rattle.cp_machine.specs.Machine.{monitor_of}
use Rattle.cp_parts.specs.Parts.{IsMonitorPart, ground_in}
use Rattle.cp_parts.proofs.Keeping.{bodies_same, grounds_same}
use Rattle.cp_parts.proofs.Pieces.{piece_on, pieces_on, pieces_same}
use Rattle.cp_parts.proofs.store.PartStore.number_monitor.Goals as goal

pub returns-clause-within : goal.returns-clause-within
returns-clause-within c = IfOk-weaker c.number_of-2.result _ _ (λ n h. h.0) c.number_of-2.ensures.number

pub returns-clause-ground : goal.returns-clause-ground
returns-clause-ground c = IfOk-weaker c.number_of-2.result _ _ (λ n h. ap ground_in h.1) c.number_of-2.ensures.number

pub returns-clause-monitor : goal.returns-clause-monitor
returns-clause-monitor c =
    let mid = c.number_holder.new.lines in
    let new = c.number_of.new.self in
    IfOk-weaker c.number_of-2.result _ _ (λ n h.
    subst (IsMonitorPart _ (monitor_of c.args.guard.now)) (sym h.1)
    (record {
      long = refl;
      holder = piece_on mid.items.items mid.ends.items new.items.items new.ends.items c.in_ok-holder.holder _ c.number_of.ensures.kept c.in_ok-holder.ensures.number;
      line = record { within = c.in_ok-line.ensures.number.0; is = c.in_ok-line.ensures.number.1 ∙ c.as_slice.ensures.value };
    })) c.number_of-2.ensures.number

pub returns-clause-kept : goal.returns-clause-kept
returns-clause-kept c =
    let s = c.args.self.now in
    let mid = c.number_holder.new.lines in
    let new = c.number_of.new.self in
    record {
      grounds = grounds_same s.grounds;
      bodies = bodies_same s.bodies;
      lines = pieces_on s.lines.items.items s.lines.ends.items mid.items.items mid.ends.items new.items.items new.ends.items c.number_holder.ensures.kept c.number_of.ensures.kept;
      statuses = pieces_same s.statuses.items.items s.statuses.ends.items;
      parts = c.number_of-2.ensures.kept;
      ready = refl;
    }

pub returns-in_err-holder-clause-kept : goal.returns-in_err-holder-clause-kept
returns-in_err-holder-clause-kept c =
    let s = c.args.self.now in
    record {
      grounds = grounds_same s.grounds;
      bodies = bodies_same s.bodies;
      lines = c.number_holder.ensures.kept;
      statuses = pieces_same s.statuses.items.items s.statuses.ends.items;
      parts = pieces_same s.parts.items.items s.parts.ends.items;
      ready = refl;
    }

pub returns-in_err-line-clause-kept : goal.returns-in_err-line-clause-kept
returns-in_err-line-clause-kept c =
    let s = c.args.self.now in
    let mid = c.number_holder.new.lines in
    let new = c.number_of.new.self in
    record {
      grounds = grounds_same s.grounds;
      bodies = bodies_same s.bodies;
      lines = pieces_on s.lines.items.items s.lines.ends.items mid.items.items mid.ends.items new.items.items new.ends.items c.number_holder.ensures.kept c.number_of.ensures.kept;
      statuses = pieces_same s.statuses.items.items s.statuses.ends.items;
      parts = pieces_same s.parts.items.items s.parts.ends.items;
      ready = refl;
    }
