-- A move that is learned.
use Rattle.std.proofs.Common.{◌≡◌, ◌∙◌, ◌+◌, ◌-◌, ◌++◌, ◌∷◌, ◌<◌, ℕ, Bool, List, [], true, ap, arith, length, subst, sym, take}
use Rattle.std.specs.Prelude.{All, option_to_list}
use Rattle.std.specs.List.{slice_range}
use Rattle.std.proofs.Math.Seq.{drop-append_seam}
use Rattle.std.proofs.lemmas.List.{length-append, take_all}
use Rattle.std.proofs.lemmas.List.Elements.{All-push}
use Rattle.cp_states.specs.Pieces.{IsPiece, KeepPieces}
use Rattle.cp_parts.specs.Parts.{KeepStore}
use Rattle.cp_parts.proofs.Keeping.{store_same}
use Rattle.cp_stretches.specs.Cached.{IsStanding}
use Rattle.cp_stretches.specs.declared.cache.LegCache.{LegCache}
use Rattle.cp_stretches.specs.declared.cache.Standing.{Standing}
use Rattle.cp_parts.specs.declared.placing.PlaceTable.{PlaceTable}
use Rattle.cp_effects.specs.declared.changes.Write.{Write}
use Rattle.cp_effects.specs.declared.table.KnownLeg.{KnownLeg}
use Rattle.cp_effects.specs.Changes.{numbers_at, written}
use Rattle.cp_effects.specs.Known.{writes_of}
use Rattle.cp_effects.specs.Noting.{among}
use Rattle.cp_effects.specs.Remembered.{IsRemembered}
use Rattle.cp_effects.proofs.Written.{written_long}
use Rattle.cp_ends.specs.Halves.{half_in, is_in_first}
use Rattle.cp_ends.specs.Moves.{AreMoves, HasHalf, IsLegAt, IsMove, StaysWithin, places_at}
use Rattle.cp_ends.specs.declared.moves.Move.{Move}
use Rattle.cp_ends.proofs.Vocabulary.{Tables, States}
use Rattle.cp_ends.proofs.Halves.{KeepRows, half_on}
use Rattle.cp_ends.proofs.Staying.{found_so, half_so, other_stays, still_so}
use Rattle.cp_ends.proofs.Within.{moves_before}

-- a move whose leg changes this
abbrev pub entry : States → (process half to : ℕ) → Bool → KnownLeg → List Write → Move
entry old process half to is_still leg writes =
    record {
      process = process;
      before = half;
      after = to;
      is_still = is_still;
      leg = record { leg = leg.leg; shown = leg.shown; from = length old.moves.writes.items; to = length old.moves.writes.items + length writes };
    }

range_last : {A : Type 0} (xs ys : List A) → slice_range (xs ++ ys) (length xs) (length xs + length ys) ≡ ys
range_last xs ys =
    ap (take (length xs + length ys - length xs)) (drop-append_seam xs ys)
    ∙ take_all (length xs + length ys - length xs) ys (omega arith)

module _ (r : Tables) (old new : States) (kept : KeepRows old new) (row : List ℕ) (process half to scope : ℕ) (leg : KnownLeg) (is_still : Bool)
    (had : HasHalf old (is_in_first old.cache.table process) half row) (at : IsLegAt r new.discipline new.cache row process scope leg)
    (all : (place : ℕ) → among (places_at new.cache scope) place ≡ true → is_in_first new.cache.table place ≡ is_in_first new.cache.table process)
    (comes : IsPiece new.lists.items.items new.lists.ends.items to (half_in new.cache.table (is_in_first new.cache.table process) (written (writes_of new.cache.legs.effects.writes.items leg) row)))
    (stills : is_still ≡ true → All (λ w. new.cache.table.processes < w.position) (writes_of new.cache.legs.effects.writes.items leg))
    (longer : new.moves.writes.items ≡ old.moves.writes.items ++ writes_of new.cache.legs.effects.writes.items leg) where
  abbrev ws : List Write
  ws = writes_of new.cache.legs.effects.writes.items leg

  abbrev t : PlaceTable
  t = new.cache.table

  abbrev is_first : Bool
  is_first = is_in_first t process

  abbrev places : List ℕ
  places = places_at new.cache scope

  abbrev e : Move
  e = entry old process half to is_still leg ws

  has : HasHalf new is_first half row
  has = subst (λ (x : PlaceTable). HasHalf new (is_in_first x process) half row) (sym kept.table) (half_on old new kept (is_in_first old.cache.table process) half row had)

  these : writes_of new.moves.writes.items e.leg ≡ ws
  these = ap (λ l. writes_of l e.leg) longer ∙ range_last old.moves.writes.items ws

  stays : (list : List ℕ) → HasHalf new is_first half list → StaysWithin new is_first places (numbers_at t places row) ws is_still to list
  stays list h =
      let same : half_in t is_first list ≡ half_in t is_first row = sym h.is.is ∙ has.is.is in
      record {
        found = sym (found_so t is_first places ws at.is.inside all at.is.changes.elsewhere list h.wide row has.wide same);
        statuses = λ is. still_so t ws list h.wide (stills is);
        half = record {
          wide = written_long ws list ∙ h.wide;
          is = subst (IsPiece new.lists.items.items new.lists.ends.items to) (sym (half_so t is_first places ws at.is.inside all at.is.changes.elsewhere list h.wide row has.wide same)) comes;
        };
        other = other_stays t is_first places ws at.is.inside all at.is.changes.elsewhere list h.wide;
      }

  it : IsMove r new e
  it =
      record {
        there = omega (arith, had.is.within, kept.lists.more);
        rising = omega arith;
        within = omega (arith, ap length longer, length-append old.moves.writes.items ws);
        places = places;
        numbers = numbers_at t places row;
        leg = subst (λ l. IsRemembered new.cache.store t r new.discipline process places (numbers_at t places row) leg.leg (option_to_list leg.shown) l) (sym these) at.is;
        stays = λ list h. subst (λ l. StaysWithin new is_first places (numbers_at t places row) l is_still to list) (sym these) (stays list h);
      }

  pub learned : AreMoves r old → new.moves.moves.items ≡ old.moves.moves.items ++ entry old process half to is_still leg ws ∷ [] → AreMoves r new
  learned are more = subst (All (IsMove r new)) (sym more) (All-push (IsMove r new) old.moves.moves.items e (moves_before r old new kept ws longer are) it)

-- ---- after a look

module _ (old : States) (cache : LegCache) (store : cache.store ≡ old.cache.store) (table : cache.table ≡ old.cache.table) where
  pub keep_looked : (new : States) → new.cache ≡ cache → new.discipline ≡ old.discipline → KeepPieces old.lists.items.items old.lists.ends.items new.lists.items.items new.lists.ends.items → KeepRows old new
  keep_looked new same ruled kept =
      record {
        table = ap (λ (x : LegCache). x.table) same ∙ table;
        ruled = ruled;
        lists = kept;
        store = subst (λ (x : LegCache). KeepStore old.cache.store x.store) (sym same) (subst (KeepStore old.cache.store) (sym store) (store_same old.cache.store));
      }

  pub standing_looked : (r : Tables) (x : Standing) → IsStanding r old.cache.store old.cache.table x → IsStanding r cache.store cache.table x
  standing_looked r x is = subst (λ s. IsStanding r s cache.table x) (sym store) (subst (λ (v : PlaceTable). IsStanding r old.cache.store v x) (sym table) is)
