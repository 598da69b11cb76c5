use Rattle.std.proofs.Common.{◌∙◌, sym}
use Rattle.std.proofs.lemmas.List.{reverse-reverse}
use Rattle.cp_parts.proofs.Pieces.{pieces_same}
use Rattle.cp_parts.proofs.bodies.BodyStore.number_body.Goals as goal

pub returns-clause-body : goal.returns-clause-body
returns-clause-body c =
    record {
      frame = record { within = c.in_ok-frame.ensures.number.0; is = c.in_ok-frame.ensures.number.1 ∙ c.frame_numbers-numbers.ensures };
      stack = record { within = c.in_ok-stack.ensures.number.0; is = c.in_ok-stack.ensures.number.1 ∙ c.deref.ensures.value ∙ sym (reverse-reverse c.args.process.now.stack.items) };
      cells = record { within = c.in_ok-cells.ensures.number.0; is = c.in_ok-cells.ensures.number.1 ∙ c.deref-2.ensures.value };
      references = record { within = c.in_ok-references.ensures.number.0; is = c.in_ok-references.ensures.number.1 ∙ c.deref-3.ensures.value };
    }

pub returns-clause-kept : goal.returns-clause-kept
returns-clause-kept c = record { frames = c.number_of.ensures.kept; stacks = c.number_of-2.ensures.kept; cells = c.number_of-3.ensures.kept; references = c.number_of-4.ensures.kept }

pub returns-in_err-frame-clause-kept : goal.returns-in_err-frame-clause-kept
returns-in_err-frame-clause-kept c = let s = c.args.self.now in record { frames = c.number_of.ensures.kept; stacks = pieces_same s.stacks.items.items s.stacks.ends.items; cells = pieces_same s.cells.items.items s.cells.ends.items; references = pieces_same s.references.items.items s.references.ends.items }

pub returns-in_err-stack-clause-kept : goal.returns-in_err-stack-clause-kept
returns-in_err-stack-clause-kept c = let s = c.args.self.now in record { frames = c.number_of.ensures.kept; stacks = c.number_of-2.ensures.kept; cells = pieces_same s.cells.items.items s.cells.ends.items; references = pieces_same s.references.items.items s.references.ends.items }

pub returns-in_err-cells-clause-kept : goal.returns-in_err-cells-clause-kept
returns-in_err-cells-clause-kept c = let s = c.args.self.now in record { frames = c.number_of.ensures.kept; stacks = c.number_of-2.ensures.kept; cells = c.number_of-3.ensures.kept; references = pieces_same s.references.items.items s.references.ends.items }

pub returns-in_err-references-clause-kept : goal.returns-in_err-references-clause-kept
returns-in_err-references-clause-kept c = record { frames = c.number_of.ensures.kept; stacks = c.number_of-2.ensures.kept; cells = c.number_of-3.ensures.kept; references = c.number_of-4.ensures.kept }
