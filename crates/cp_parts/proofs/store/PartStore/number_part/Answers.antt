use Rattle.std.proofs.Common.{refl}
use Rattle.cp_parts.proofs.Keeping.{bodies_same, store_on}
use Rattle.cp_parts.proofs.Pieces.{pieces_same}
use Rattle.cp_parts.proofs.store.PartStore.number_part.Goals as goal

pub returns-clause-kept : goal.returns-clause-kept
returns-clause-kept c =
    let s = c.args.self.now in
    store_on s _ c.number_owner.new.self
    (record {
      grounds = c.number_ground.ensures.kept;
      bodies = bodies_same s.bodies;
      lines = pieces_same s.lines.items.items s.lines.ends.items;
      statuses = pieces_same s.statuses.items.items s.statuses.ends.items;
      parts = pieces_same s.parts.items.items s.parts.ends.items;
      ready = refl;
    })
    c.number_owner.ensures.kept

pub returns-in_err-ground-clause-kept : goal.returns-in_err-ground-clause-kept
returns-in_err-ground-clause-kept c =
    let s = c.args.self.now in
    record {
      grounds = c.number_ground.ensures.kept;
      bodies = bodies_same s.bodies;
      lines = pieces_same s.lines.items.items s.lines.ends.items;
      statuses = pieces_same s.statuses.items.items s.statuses.ends.items;
      parts = pieces_same s.parts.items.items s.parts.ends.items;
      ready = refl;
    }
