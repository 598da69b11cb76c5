use Rattle.std.proofs.Common.{◌≡◌, ◌∙◌, subst, sym}
use Rattle.std.specs.Prelude.{IfSome}
use Rattle.cp_states.specs.Pieces.{piece_at}
use Rattle.cp_effects.specs.Changes.{numbers_at}
use Rattle.cp_effects.specs.Known.{IsKeyOf}
use Rattle.cp_stretches.specs.declared.legs.LegKey.{LegKey}
use Rattle.cp_stretches.specs.Telling.{IsSought}
use Rattle.cp_stretches.proofs.legs.LegTable.key_after.Goals as goal

pub at-places-requires : goal.at-places-requires
at-places-requires c =
    let a = c.args in
    let known = c.in-Some.known in
    let sought : IsSought a.self.now.effects a.table.now a.row.now a.pid known = subst (λ o. IfSome o (λ (k : LegKey). IsSought a.self.now.effects a.table.now a.row.now a.pid k)) c.in-Some.is c.requires.sought in
    sought.there

pub returns-then-are_same-clause-key : goal.returns-then-are_same-clause-key
returns-then-are_same-clause-key c =
    let a = c.args in
    let table = a.self.now.effects in
    let known = c.in-Some.known in
    let sought : IsSought table a.table.now a.row.now a.pid known = subst (λ o. IfSome o (λ (k : LegKey). IsSought table a.table.now a.row.now a.pid k)) c.in-Some.is c.requires.sought in
    let are : piece_at table.scopes.items.items table.scopes.ends.items known.scope ≡ a.touched.now.places.items = sym c.at-places.ensures ∙ c.are_same.ensures c.if-are_same.true ∙ c.as_slice.ensures.value in
    record { scope = known.scope; keyed = subst (λ ps. IsKeyOf table known.key a.pid known.scope (numbers_at a.table.now ps a.row.now)) are sought; are = are }
