-- Moves stay moves.
use Rattle.std.proofs.Common.{◌≡◌, ◌∙◌, ◌-◌, ◌++◌, ◌≤◌, ℕ, Bool, List, [], ap, arith, drop, length, subst, sym, take}
use Rattle.std.specs.Prelude.{All, not, option_to_list}
use Rattle.std.specs.List.{slice_range}
use Rattle.std.proofs.lemmas.List.{append-nil, drop-append-le, length-append, length-drop, take-append-le}
use Rattle.std.proofs.lemmas.List.Elements.{All-weaker}
use Rattle.cp_effects.specs.declared.changes.Write.{Write}
use Rattle.cp_effects.specs.declared.table.KnownLeg.{KnownLeg}
use Rattle.cp_effects.specs.Changes.{numbers_at, written}
use Rattle.cp_effects.specs.Known.{writes_of}
use Rattle.cp_effects.specs.Remembered.{IsRemembered}
use Rattle.cp_effects.proofs.Knowing.{remembered_on}
use Rattle.cp_parts.specs.declared.placing.PlaceTable.{PlaceTable}
use Rattle.cp_ends.specs.Halves.{half_in, is_in_first, statuses_in}
use Rattle.cp_ends.specs.Moves.{AreMoves, HasHalf, IsMove, StaysWithin}
use Rattle.cp_ends.specs.declared.moves.Move.{Move}
use Rattle.cp_ends.proofs.Vocabulary.{Tables, Discipline, States}
use Rattle.cp_ends.proofs.Halves.{KeepRows, half_before, half_on}

-- a part of a list with more behind it
pub range_before : {A : Type 0} (xs ys : List A) (from to : ℕ) → from ≤ to → to ≤ length xs → slice_range (xs ++ ys) from to ≡ slice_range xs from to
range_before xs ys from to rising within =
    ap (take (to - from)) (drop-append-le from xs ys (omega (arith, rising, within)))
    ∙ take-append-le (to - from) (drop from xs) ys (omega (arith, rising, within, length-drop from xs))

-- where the same places have more lists and parts, and more writes stand beside the moves
module _ (r : Tables) (old new : States) (kept : KeepRows old new) (more : List Write) (longer : new.moves.writes.items ≡ old.moves.writes.items ++ more) where
  same_writes : (e : KnownLeg) → e.from ≤ e.to → e.to ≤ length old.moves.writes.items → writes_of new.moves.writes.items e ≡ writes_of old.moves.writes.items e
  same_writes e rising within = ap (λ ws. writes_of ws e) longer ∙ range_before old.moves.writes.items more e.from e.to rising within

  stays_on : (is_first : Bool) (places numbers : List ℕ) (writes : List Write) (is_still : Bool) (after : ℕ) (row : List ℕ) → StaysWithin old is_first places numbers writes is_still after row → StaysWithin new is_first places numbers writes is_still after row
  stays_on is_first places numbers writes is_still after row h =
      record {
        found = h.found ∙ ap (λ (t : PlaceTable). numbers_at t places row) (sym kept.table);
        statuses = λ is. ap (λ (t : PlaceTable). statuses_in t (written writes row)) kept.table ∙ h.statuses is ∙ ap (λ (t : PlaceTable). statuses_in t row) (sym kept.table);
        half = half_on old new kept is_first after (written writes row) h.half;
        other = ap (λ (t : PlaceTable). half_in t (not is_first) (written writes row)) kept.table ∙ h.other ∙ ap (λ (t : PlaceTable). half_in t (not is_first) row) (sym kept.table);
      }

  pub move_on : (e : Move) → IsMove r old e → IsMove r new e
  move_on e is =
      let same : is_in_first new.cache.table e.process ≡ is_in_first old.cache.table e.process = ap (λ (t : PlaceTable). is_in_first t e.process) kept.table in
      let writes : writes_of new.moves.writes.items e.leg ≡ writes_of old.moves.writes.items e.leg = same_writes e.leg is.rising is.within in
      let shown = option_to_list e.leg.shown in
      let leg =
      subst (λ (t : PlaceTable). IsRemembered new.cache.store t r old.discipline e.process is.places is.numbers e.leg.leg shown (writes_of old.moves.writes.items e.leg)) (sym kept.table)
      (remembered_on old.cache.store new.cache.store old.cache.table r old.discipline kept.store e.process is.places is.numbers e.leg.leg shown (writes_of old.moves.writes.items e.leg) is.leg) in
      record {
        there = omega (arith, is.there, kept.lists.more);
        rising = is.rising;
        within = omega (arith, is.within, ap length longer, length-append old.moves.writes.items more);
        places = is.places;
        numbers = is.numbers;
        leg =
            subst (λ (d : Discipline). IsRemembered new.cache.store new.cache.table r d e.process is.places is.numbers e.leg.leg shown (writes_of new.moves.writes.items e.leg)) (sym kept.ruled)
            (subst (λ ws. IsRemembered new.cache.store new.cache.table r old.discipline e.process is.places is.numbers e.leg.leg shown ws) (sym writes) leg);
        stays = λ row has.
            subst (λ b. StaysWithin new b is.places is.numbers (writes_of new.moves.writes.items e.leg) e.is_still e.after row) (sym same)
            (subst (λ ws. StaysWithin new (is_in_first old.cache.table e.process) is.places is.numbers ws e.is_still e.after row) (sym writes)
            (stays_on (is_in_first old.cache.table e.process) is.places is.numbers (writes_of old.moves.writes.items e.leg) e.is_still e.after row
            (is.stays row (half_before old new kept (is_in_first old.cache.table e.process) e.before row is.there (subst (λ b. HasHalf new b e.before row) same has)))));
      }

  -- all moves that were known
  pub moves_before : AreMoves r old → All (IsMove r new) old.moves.moves.items
  moves_before are = All-weaker (IsMove r old) (IsMove r new) move_on old.moves.moves.items are

-- with the same moves
pub moves_on : (r : Tables) (old new : States) → KeepRows old new → new.moves.moves ≡ old.moves.moves → new.moves.writes ≡ old.moves.writes → AreMoves r old → AreMoves r new
moves_on r old new kept same writes are =
    subst (λ v. All (IsMove r new) v.items) (sym same)
    (moves_before r old new kept [] (ap (λ v. v.items) writes ∙ sym (append-nil old.moves.writes.items)) are)
