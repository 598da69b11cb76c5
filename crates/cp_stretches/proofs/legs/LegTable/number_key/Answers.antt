use Rattle.std.proofs.Common.{◌≡◌, ◌∙◌, ◌<◌, ap, length, subst, sym}
use Rattle.cp_states.specs.Pieces.{piece_at}
use Rattle.cp_effects.specs.declared.table.EffectTable.{EffectTable}
use Rattle.cp_effects.specs.Changes.{numbers_at}
use Rattle.cp_effects.specs.Known.{AreKnown, IsKeyOf}
use Rattle.cp_stretches.proofs.legs.LegTable.number_key.Goals as goal

pub number_key-requires : goal.number_key-requires
number_key-requires c = subst (λ (x : EffectTable). c.in_ok-scope.scope < length x.scopes.ends.items) (sym c.set_scope.ensures) c.in_ok-scope.ensures.scope.within

pub returns-clause-key : goal.returns-clause-key
returns-clause-key c =
    let first = c.number_scope.new.self in
    let last = c.number_key.new.self in
    let scope = c.in_ok-scope.scope in
    let piece = c.in_ok-scope.ensures.scope in
    let same : last.scopes ≡ first.scopes = c.number_key.ensures.scopes ∙ ap (λ (x : EffectTable). x.scopes) c.set_scope.ensures in
    let are : piece_at last.scopes.items.items last.scopes.ends.items scope ≡ c.args.touched.now.places.items = ap (λ x. piece_at x.items.items x.ends.items scope) same ∙ piece.is in
    record {
      scope = scope;
      keyed = subst (λ ps. IsKeyOf last c.in_ok-key.key c.args.pid scope (numbers_at c.args.table.now ps c.args.row.now)) are c.in_ok-key.ensures.key;
      are = are;
    }

pub returns-clause-known : goal.returns-clause-known
returns-clause-known c = λ s t r discipline are.
    c.number_key.ensures.known s t r discipline (subst (AreKnown s t r discipline) (sym c.set_scope.ensures) (c.number_scope.ensures.known s t r discipline are))
