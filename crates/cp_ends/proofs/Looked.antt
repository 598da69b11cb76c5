-- A leg that is known by the key that a row gives.
use Rattle.std.proofs.Common.{◌≡◌, ◌∙◌, ◌∷◌, ℕ, List, ap, drop, subst, sym}
use Rattle.std.specs.Prelude.{option_to_list}
use Rattle.cp_machine.specs.declared.discipline.Discipline.{Discipline}
use Rattle.cp_states.specs.Numbers.{number_at}
use Rattle.cp_effects.specs.declared.table.Known.TheVariants.{Leg}
use Rattle.cp_effects.specs.declared.table.KnownLeg.{KnownLeg}
use Rattle.cp_effects.specs.Changes.{numbers_at}
use Rattle.cp_effects.specs.Known.{IsKeyOf, IsKnown, known_at, writes_of}
use Rattle.cp_effects.specs.Remembered.{IsRemembered}
use Rattle.cp_stretches.specs.Cached.{IsCache}
use Rattle.cp_stretches.specs.declared.cache.LegCache.{LegCache}
use Rattle.cp_ends.specs.Moves.{IsLegAt, places_at}
use Rattle.cp_ends.proofs.Vocabulary.{Tables}

module _ (r : Tables) (discipline : Discipline) (c : LegCache) (key process scope : ℕ) (e : KnownLeg) (row : List ℕ) (cache : IsCache r discipline c)
    (keyed : IsKeyOf c.legs.effects key process scope (numbers_at c.table (places_at c scope) row)) (here : known_at c.legs.effects.known.items key ≡ Leg e) where
  known : IsKnown c.store c.table r discipline c.legs.effects key e
  known = cache.known key e here

  same : known.pid ∷ known.scope ∷ known.numbers ≡ process ∷ scope ∷ numbers_at c.table (places_at c scope) row
  same = sym known.keyed.piece.is ∙ keyed.piece.is

  pub leg_at : IsLegAt r discipline c row process scope e
  leg_at =
      let shown = option_to_list e.shown in
      let writes = writes_of c.legs.effects.writes.items e in
      record {
        rising = known.rising;
        within = known.within;
        is =
            subst (λ p. IsRemembered c.store c.table r discipline p (places_at c scope) (numbers_at c.table (places_at c scope) row) e.leg shown writes) (ap (λ l. number_at l 0) same)
            (subst (λ k. IsRemembered c.store c.table r discipline known.pid (places_at c k) (numbers_at c.table (places_at c scope) row) e.leg shown writes) (ap (λ l. number_at l 1) same)
            (subst (λ ns. IsRemembered c.store c.table r discipline known.pid (places_at c known.scope) ns e.leg shown writes) (ap (drop 2) same) known.is));
      }
