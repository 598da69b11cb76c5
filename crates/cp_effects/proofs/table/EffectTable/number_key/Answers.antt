use Rattle.std.proofs.Common.{◌∙◌, ◌∷◌, ap, refl}
use Rattle.std.proofs.lemmas.Result.{IfOk-weaker}
use Rattle.cp_parts.proofs.Pieces.{pieces_same}
use Rattle.cp_effects.specs.Changes.{numbers_at}
use Rattle.cp_effects.proofs.Knowing.{known_more}
use Rattle.cp_effects.proofs.table.EffectTable.number_key.Goals as goal

pub returns-clause-key : goal.returns-clause-key
returns-clause-key c =
    let a = c.args in
    IfOk-weaker c.number_of.result _ _ (λ k h.
    record {
      piece = record { within = h.0; is = h.1 ∙ c.deref.ensures.value ∙ c.in_ok-put_key.ensures ∙ ap (λ places. a.pid ∷ a.scope ∷ numbers_at a.table.now places a.row.now) c.at.ensures };
      there = c.requires;
    }) c.number_of.ensures.number

pub returns-clause-known : goal.returns-clause-known
returns-clause-known c = λ s t r discipline are.
    (let table = c.args.self.now in
    known_more s t r discipline table are (record table { keys = c.number_of.new.self }) c.number_of.ensures.kept (pieces_same table.scopes.items.items table.scopes.ends.items) refl (λ key e is. is))
