use Rattle.std.proofs.Common.{◌∙◌, ◌≤◌, ap, length, subst, sym}
use Rattle.cp_parts.specs.Parts.{ground_in}
use Rattle.cp_parts.specs.Taken.{CanLay}
use Rattle.cp_parts.proofs.store.PartStore.take_place.Goals as goal

pub returns-then-number-known : goal.returns-then-number-known
returns-then-number-known c = λ m can same. same c.if-number-known.true

pub ground_of-requires : goal.ground_of-requires
ground_of-requires c = subst (λ l. 4 ≤ length l) (sym c.at-part.ensures) c.requires.long

pub take_ground-requires : goal.take_ground-requires
take_ground-requires c =
    let a = c.args in
    (c.requires.can.0, subst (λ g. CanLay a.self.now.grounds a.table.now c.requires.can.0 a.place g a.cells.now a.bindings.now a.phases.now) (sym (c.ground_of.ensures ∙ ap ground_in c.at-part.ensures)) c.requires.can.1)

pub returns : goal.returns
returns c = λ m can same.
    (let a = c.args in
    c.take_ground.ensures m (subst (λ g. CanLay a.self.now.grounds a.table.now m a.place g a.cells.now a.bindings.now a.phases.now) (sym (c.ground_of.ensures ∙ ap ground_in c.at-part.ensures)) can))
