use Rattle.std.proofs.Common.{◌∙◌, ◌<◌, ◌^◌, refl}
use Rattle.std.proofs.lemmas.Result.{IfOk-weaker}
use Rattle.cp_parts.proofs.Pieces.{pieces_same}
use Rattle.cp_effects.proofs.Knowing.{known_more}
use Rattle.cp_effects.proofs.Noted.{all_noted}
use Rattle.cp_effects.proofs.table.EffectTable.number_scope.Goals as goal

pub put_scope-requires : goal.put_scope-requires
put_scope-requires c = all_noted (λ place. place < 2 ^ 32) c.args.touched.now.places.items c.requires

pub returns-clause-scope : goal.returns-clause-scope
returns-clause-scope c = IfOk-weaker c.number_of.result _ _ (λ n h. record { within = h.0; is = h.1 ∙ c.deref.ensures.value ∙ c.in_ok-put_scope.ensures }) c.number_of.ensures.number

pub returns-clause-known : goal.returns-clause-known
returns-clause-known c = λ s t r discipline are.
    (let table = c.args.self.now in
    known_more s t r discipline table are (record table { scopes = c.number_of.new.self }) (pieces_same table.keys.items.items table.keys.ends.items) c.number_of.ensures.kept refl (λ key e is. is))

pub returns-in_err-put_scope-clause-kept : goal.returns-in_err-put_scope-clause-kept
returns-in_err-put_scope-clause-kept c = let table = c.args.self.now in pieces_same table.scopes.items.items table.scopes.ends.items
