use Rattle.std.proofs.Common.{◌∙◌, ap, length, subst, sym}
use Rattle.cp_parts.specs.Parts.{IsBody, body_in}
use Rattle.cp_parts.proofs.store.PartStore.take_own_body.Goals as goal

pub body_numbers_of-requires : goal.body_numbers_of-requires
body_numbers_of-requires c = ap length c.at-part.ensures ∙ c.requires.part.1.long

pub take_body-requires : goal.take_body-requires
take_body-requires c =
    (c.requires.part.0, subst (IsBody c.args.self.now.bodies c.requires.part.0) (sym (c.body_numbers_of.ensures ∙ ap body_in c.at-part.ensures)) c.requires.part.1.body, c.requires.part.2)

pub returns-then-number-known-clause-body : goal.returns-then-number-known-clause-body
returns-then-number-known-clause-body c = λ t is same. same c.if-number-known.true

pub returns-clause-body : goal.returns-clause-body
returns-clause-body c = λ t is same. c.take_body.ensures.body t (subst (IsBody c.args.self.now.bodies t) (sym (c.body_numbers_of.ensures ∙ ap body_in c.at-part.ensures)) is.body)
