use Rattle.std.proofs.Common.{◌∙◌, refl}
use Rattle.std.proofs.lemmas.Result.{IfOk-weaker}
use Rattle.cp_parts.proofs.Keeping.{bodies_same, grounds_same}
use Rattle.cp_parts.proofs.Pieces.{piece_on, pieces_same}
use Rattle.cp_parts.proofs.store.PartStore.number_status.Goals as goal

pub invariant_of-self : goal.invariant_of-self
invariant_of-self c =
    let s = c.args.self.now in
    record { is_ready = piece_on s.statuses.items.items s.statuses.ends.items c.number_of.new.self.items.items c.number_of.new.self.ends.items s.ready _ c.number_of.ensures.kept s.is_ready }

pub returns-clause-number : goal.returns-clause-number
returns-clause-number c = IfOk-weaker c.number_of.result _ _ (λ n h. record { within = h.0; is = h.1 ∙ c.status_numbers-numbers.ensures }) c.number_of.ensures.number

pub returns-clause-kept : goal.returns-clause-kept
returns-clause-kept c =
    let s = c.args.self.now in
    record {
      grounds = grounds_same s.grounds;
      bodies = bodies_same s.bodies;
      lines = pieces_same s.lines.items.items s.lines.ends.items;
      statuses = c.number_of.ensures.kept;
      parts = pieces_same s.parts.items.items s.parts.ends.items;
      ready = refl;
    }
