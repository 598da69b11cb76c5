-- A choice by a move that is known.
use Rattle.std.proofs.Common.{◌≡◌, ◌+◌, ◌-◌, ◌++◌, ◌<◌, ℕ, Bool, List, [], ◌∷◌, true, false, arith, length, refl, subst, sym}
use Rattle.std.specs.Prelude.{All, not, option_to_list}
use Rattle.std.proofs.lemmas.List.Elements.{All-weaker}
use Rattle.cp_machine.specs.declared.shown.Shown.{Shown}
use Rattle.cp_machine.specs.Machine.{is_pending}
use Rattle.cp_machine.specs.Step.{is_local}
use Rattle.cp_run.specs.declared.outcome.Turn.TheVariants.{Due}
use Rattle.cp_run.specs.Run.{may, turn_after}
use Rattle.cp_run.specs.Slots.{slots}
use Rattle.cp_run.proofs.Choosing.{may_be_ready}
use Rattle.cp_states.specs.Numbers.{number_at}
use Rattle.cp_states.specs.Pieces.{IsPiece}
use Rattle.cp_effects.specs.declared.changes.Write.{Write}
use Rattle.cp_effects.specs.declared.table.EffectTable.{EffectTable}
use Rattle.cp_effects.specs.Changes.{written}
use Rattle.cp_effects.specs.Known.{writes_of}
use Rattle.cp_effects.specs.Remembered.{IsRemembered}
use Rattle.cp_effects.proofs.Looking.{look_law}
use Rattle.cp_stretches.specs.Cached.{IsCache, StandsFor}
use Rattle.cp_stretches.specs.Numbers.{CanRead}
use Rattle.cp_stretches.specs.Stretching.{MayGo}
use Rattle.cp_stretches.specs.Telling.{IsTold}
use Rattle.cp_stretches.proofs.Going.{after, makes_leg, not_local, stands_after}
use Rattle.cp_stretches.proofs.Growing.{can_read}
use Rattle.cp_stretches.proofs.Knowing.{positions_inside}
use Rattle.cp_stretches.proofs.Statuses.{is_free}
use Rattle.cp_ends.specs.Halves.{half_in, half_position, is_in_first, statuses_in, width_of}
use Rattle.cp_ends.specs.Holds.{AreStates}
use Rattle.cp_ends.specs.Moves.{HasHalf, IsMove, IsOneLeg, StaysWithin, Suits}
use Rattle.cp_ends.specs.Rows.{IsHalved, IsRowFor}
use Rattle.cp_ends.specs.declared.moves.Move.{Move}
use Rattle.cp_ends.proofs.Vocabulary.{Tables, Machine, Discipline, States}
use Rattle.cp_ends.proofs.Halves.{KeepRows, half_on, list_on}
use Rattle.cp_ends.proofs.Keeping.{Stated}
use Rattle.cp_ends.proofs.Rowwise.{stands_for}
use Rattle.cp_ends.proofs.Searching.Lists.{all_at}

-- the half of a row that has a number among those of the row
pub half_of_numbers : (kept : States) (numbers row : List ℕ) → IsHalved kept numbers row → length row ≡ width_of kept.cache.table → (is_first : Bool) → HasHalf kept is_first (number_at numbers (half_position is_first)) row
half_of_numbers kept numbers row h wide true = record { wide = wide; is = h.first }
half_of_numbers kept numbers row h wide false = record { wide = wide; is = h.second }

-- the numbers of a row in which one half is another, and perhaps the statuses are
module _ (old new : States) (kept : KeepRows old new) (numbers row moved : List ℕ) (halved : IsHalved old numbers row) (statuses to : ℕ) (own : IsPiece new.lists.items.items new.lists.ends.items statuses (statuses_in new.cache.table moved)) where
  pub moved_halved : (is_first : Bool) (next : List ℕ) → HasHalf old is_first to moved → half_in old.cache.table (not is_first) moved ≡ half_in old.cache.table (not is_first) row →
      (is_first ≡ true → next ≡ statuses ∷ to ∷ number_at numbers 2 ∷ []) → (is_first ≡ false → next ≡ statuses ∷ number_at numbers 1 ∷ to ∷ []) → IsHalved new next moved
  moved_halved true next half other first second =
      subst (λ l. IsHalved new l moved) (sym (first refl))
      (record {
        three = refl;
        statuses = own;
        first = (half_on old new kept true to moved half).is;
        second = list_on old new kept (number_at numbers 2) (λ t. half_in t false moved) (subst (IsPiece old.lists.items.items old.lists.ends.items (number_at numbers 2)) (sym other) halved.second);
      })
  moved_halved false next half other first second =
      subst (λ l. IsHalved new l moved) (sym (second refl))
      (record {
        three = refl;
        statuses = own;
        first = list_on old new kept (number_at numbers 1) (λ t. half_in t true moved) (subst (IsPiece old.lists.items.items old.lists.ends.items (number_at numbers 1)) (sym other) halved.first);
        second = (half_on old new kept false to moved half).is;
      })

module _ (r : Tables) (discipline : Discipline) (kept : States) (steps : ℕ) (numbers row : List ℕ) (e : Move) (states : List Stated) (are : AreStates r kept states) (ruled : kept.discipline ≡ discipline)
    (halved : IsHalved kept numbers row) (suits : Suits kept steps e.process numbers row e) (wide : length row ≡ width_of kept.cache.table) where
  pub its : IsMove r kept e
  its = all_at (IsMove r kept) kept.moves.moves.items suits.at e are.moves suits.among

  abbrev pub ws : List Write
  ws = writes_of kept.moves.writes.items e.leg

  abbrev pub new : List ℕ
  new = written ws row

  abbrev pub is_first : Bool
  is_first = is_in_first kept.cache.table e.process

  pub stays : StaysWithin kept is_first its.places its.numbers ws e.is_still e.after row
  stays = its.stays row (subst (λ n. HasHalf kept is_first n row) (sym suits.half) (half_of_numbers kept numbers row halved wide is_first))

  pub positions : All (λ w. w.position < width_of kept.cache.table) ws
  positions = positions_inside kept.cache.store kept.cache.table r kept.discipline e.process its.places its.numbers e.leg.leg (option_to_list e.leg.shown) ws its.leg

  pub inside : All (λ w. w.position < length row) ws
  inside = All-weaker (λ (w : Write). w.position < width_of kept.cache.table) (λ (w : Write). w.position < length row) (λ w lt. subst (λ n. w.position < n) (sym wide) lt) ws positions

  module _ (m : Machine) (is : IsRowFor r kept row m) (may_be : may (slots r discipline) m e.process ≡ true) where
    pub cache : IsCache r discipline kept.cache
    cache = subst (λ (d : Discipline). IsCache r d kept.cache) ruled are.cached

    pub stands : StandsFor r discipline kept.cache.store kept.cache.table m row
    stands = subst (λ (d : Discipline). StandsFor r d kept.cache.store kept.cache.table m row) ruled (stands_for r kept row m is)

    pub free : is_pending m ≡ false
    free = is_free r kept.cache.store kept.cache.table kept.cache.numbers m row (can_read r discipline kept.cache m row cache stands) suits.free

    pub may_go : MayGo r discipline kept.cache.store kept.cache.table m row e.process
    may_go = record { machine = stands; ready = may_be_ready (slots r discipline) m e.process free may_be; free = free }

    pub leg : IsRemembered kept.cache.store kept.cache.table r discipline e.process its.places its.numbers e.leg.leg (option_to_list e.leg.shown) ws
    leg = subst (λ (d : Discipline). IsRemembered kept.cache.store kept.cache.table r d e.process its.places its.numbers e.leg.leg (option_to_list e.leg.shown) ws) ruled its.leg

    -- the legs that are known, with the writes of moves
    abbrev pub table : EffectTable
    table = record kept.cache.legs.effects { writes = kept.moves.writes }

    pub told : IsTold kept.cache.store kept.cache.table r discipline table row e.process e.leg
    told =
        record {
          rising = its.rising;
          within = its.within;
          inside = positions;
          tells = λ n step quiet under stand. look_law kept.cache.store kept.cache.table r discipline e.process its.places its.numbers e.leg.leg (option_to_list e.leg.shown) ws n row cache.placed leg step quiet under stand stays.found;
        }

    abbrev pub there : Machine
    there = after r discipline kept.cache.store kept.cache.table m row e.process table e.leg cache.sound may_go told

    pub can_read_there : CanRead r kept.cache.store kept.cache.table kept.cache.numbers there new
    can_read_there = can_read r discipline kept.cache there new cache (stands_after r discipline kept.cache.store kept.cache.table m row e.process table e.leg cache.sound may_go told)

    pub no_local : is_local e.leg.leg.event ≡ false
    no_local = not_local r discipline kept.cache.store kept.cache.table m row e.process table e.leg cache.sound may_go told

    pub move_makes : (before : List Shown) → Due ≡ turn_after (slots r discipline) there e.process e.leg.leg.event → IsOneLeg r discipline kept.cache.store kept.cache.table steps m e.process before new (before ++ option_to_list e.leg.shown)
    move_makes before due =
        record {
          free = free;
          rest = steps - e.leg.leg.steps;
          made = makes_leg r discipline kept.cache.store kept.cache.table m row e.process table e.leg cache.sound may_go told steps (steps - e.leg.leg.steps) before Due (omega (arith, suits.short)) due;
        }
