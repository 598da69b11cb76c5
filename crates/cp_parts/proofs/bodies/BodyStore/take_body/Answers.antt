use Rattle.std.proofs.Common.{◌∙◌, ap, arith, length}
use Rattle.std.proofs.lemmas.List.{length-reverse}
use Rattle.cp_parts.proofs.Becoming.{body_made}
use Rattle.cp_parts.proofs.bodies.BodyStore.take_body.Goals as goal

pub at-requires : goal.at-requires
at-requires c = c.requires.1.frame.within

pub at-requires-2 : goal.at-requires-2
at-requires-2 c = c.requires.1.stack.within

pub at-requires-3 : goal.at-requires-3
at-requires-3 c = c.requires.1.cells.within

pub at-requires-4 : goal.at-requires-4
at-requires-4 c = c.requires.1.references.within

pub frame_of-process-requires : goal.frame_of-process-requires
frame_of-process-requires c = ap length (c.at.ensures ∙ c.requires.1.frame.is)

pub take_list-requires : goal.take_list-requires
take_list-requires c = omega (arith, ap length (c.at-2.ensures ∙ c.requires.1.stack.is), length-reverse c.requires.0.stack, c.requires.2.stack)

pub take_list-requires-2 : goal.take_list-requires-2
take_list-requires-2 c = omega (arith, ap length (c.at-3.ensures ∙ c.requires.1.cells.is), c.requires.2.cells)

pub take_list-requires-3 : goal.take_list-requires-3
take_list-requires-3 c = omega (arith, ap length (c.at-4.ensures ∙ c.requires.1.references.is), c.requires.2.references)

pub returns-clause-body : goal.returns-clause-body
returns-clause-body c = λ t is. body_made c.args.self.now t c.args.body is c.frame_of-process.result c.take_list.new.to.items c.take_list-2.new.to.items c.take_list-3.new.to.items (c.frame_of-process.ensures ∙ c.at.ensures) (c.take_list.ensures.items ∙ c.at-2.ensures) (c.take_list-2.ensures.items ∙ c.at-3.ensures) (c.take_list-3.ensures.items ∙ c.at-4.ensures)

pub returns-clause-room : goal.returns-clause-room
returns-clause-room c = record { stack = c.take_list.ensures.room; cells = c.take_list-2.ensures.room; references = c.take_list-3.ensures.room }
