-- What is known of legs, with a key more and with a leg more.
use Rattle.std.proofs.Common.{◌≡◌, ◌∙◌, ◌+◌, ◌-◌, ◌++◌, ◌∷◌, ◌<◌, ◌≤◌, ◌⊎◌, inl, inr, ℕ, List, [], ap, arith, drop, length, refl, subst, sym, take}
use Rattle.std.specs.Prelude.{option_to_list}
use Rattle.std.specs.List.{slice_range}
use Rattle.std.proofs.Math.Seq.{drop-append_seam}
use Rattle.std.proofs.lemmas.Bool.{cases_eq}
use Rattle.std.proofs.lemmas.List.{append-nil, drop-append-le, length-append, length-drop, take-append-le, take_all}
use Rattle.cp_slots.specs.Tables.{Tables}
use Rattle.cp_machine.specs.declared.discipline.Discipline.{Discipline}
use Rattle.cp_machine.specs.declared.shown.Shown.{Shown}
use Rattle.cp_states.specs.Numbers.{number_at}
use Rattle.cp_states.specs.Pieces.{KeepPieces, piece_at}
use Rattle.cp_parts.specs.declared.placing.PlaceTable.{PlaceTable}
use Rattle.cp_parts.specs.declared.store.PartStore.{PartStore}
use Rattle.cp_parts.specs.Parts.{KeepStore}
use Rattle.cp_parts.specs.Placed.{IsPlaced}
use Rattle.cp_parts.proofs.Keeping.{row_on}
use Rattle.cp_parts.proofs.Pieces.{piece_on, pieces_same}
use Rattle.cp_effects.specs.declared.changes.Write.{Write}
use Rattle.cp_effects.specs.declared.leg.WatchedLeg.{WatchedLeg}
use Rattle.cp_effects.specs.declared.table.EffectTable.{EffectTable}
use Rattle.cp_effects.specs.declared.table.Known.{Known}
use Rattle.cp_effects.specs.declared.table.Known.TheVariants.{Leg, TooMuch}
use Rattle.cp_effects.specs.declared.table.KnownLeg.{KnownLeg}
use Rattle.cp_effects.specs.Changes.{numbers_at}
use Rattle.cp_effects.specs.Known.{AreKnown, IsKeyOf, IsKnown, Tells, known_at, writes_of}
use Rattle.cp_effects.specs.Remembered.{IsRemembered}
use Rattle.cp_effects.proofs.Looking.{look_law}

-- ---- parts of lists with more behind them

range_before : {A : Type 0} (xs ys : List A) (from to : ℕ) → from ≤ to → to ≤ length xs → slice_range (xs ++ ys) from to ≡ slice_range xs from to
range_before xs ys from to rising within =
    ap (take (to - from)) (drop-append-le from xs ys (omega (arith, rising, within)))
    ∙ take-append-le (to - from) (drop from xs) ys (omega (arith, rising, within, length-drop from xs))

range_last : {A : Type 0} (xs ys : List A) → slice_range (xs ++ ys) (length xs) (length xs + length ys) ≡ ys
range_last xs ys =
    ap (take (length xs + length ys - length xs)) (drop-append_seam xs ys)
    ∙ take_all (length xs + length ys - length xs) ys (omega arith)

-- ---- in a store that keeps all that has a number

module _ (s u : PartStore) (t : PlaceTable) (r : Tables) (discipline : Discipline) (kept : KeepStore s u) where
  pub remembered_on : (pid : ℕ) (places numbers : List ℕ) (leg : WatchedLeg) (shown : List Shown) (writes : List Write) → IsRemembered s t r discipline pid places numbers leg shown writes → IsRemembered u t r discipline pid places numbers leg shown writes
  remembered_on pid places numbers leg shown writes is =
      record {
        first = is.first;
        row = is.row;
        after = is.after;
        row_after = is.row_after;
        stands = row_on s u t is.first is.row kept is.stands;
        comes = row_on s u t is.after is.row_after kept is.comes;
        steps = is.steps;
        quiet = is.quiet;
        ruled = is.ruled;
        effect = is.effect;
        inside = is.inside;
        found = is.found;
        shows = is.shows;
        changes = is.changes;
      }

  pub known_on : (table : EffectTable) → AreKnown s t r discipline table → AreKnown u t r discipline table
  known_on table are key e is =
      let k = are key e is in
      record { pid = k.pid; scope = k.scope; numbers = k.numbers; keyed = k.keyed; rising = k.rising; within = k.within; is = remembered_on k.pid _ k.numbers e.leg _ _ k.is }

-- ---- with more keys, places and writes

module _ (s : PartStore) (t : PlaceTable) (r : Tables) (discipline : Discipline) (table new : EffectTable) (more : List Write)
    (keys : KeepPieces table.keys.items.items table.keys.ends.items new.keys.items.items new.keys.ends.items)
    (scopes : KeepPieces table.scopes.items.items table.scopes.ends.items new.scopes.items.items new.scopes.ends.items)
    (longer : new.writes.items ≡ table.writes.items ++ more) where
  long : length new.writes.items ≡ length table.writes.items + length more
  long = ap length longer ∙ length-append table.writes.items more

  pub key_still : (key pid scope : ℕ) (numbers : List ℕ) → IsKeyOf table key pid scope numbers → IsKeyOf new key pid scope numbers
  key_still key pid scope numbers is =
      record {
        piece = piece_on table.keys.items.items table.keys.ends.items new.keys.items.items new.keys.ends.items key (pid ∷ scope ∷ numbers) keys is.piece;
        there = omega (arith, scopes.more, is.there);
      }

  pub places_still : (pid scope : ℕ) (numbers : List ℕ) (leg : WatchedLeg) (shown : List Shown) (writes : List Write) → scope < length table.scopes.ends.items →
      IsRemembered s t r discipline pid (piece_at table.scopes.items.items table.scopes.ends.items scope) numbers leg shown writes →
      IsRemembered s t r discipline pid (piece_at new.scopes.items.items new.scopes.ends.items scope) numbers leg shown writes
  places_still pid scope numbers leg shown writes there = subst (λ places. IsRemembered s t r discipline pid places numbers leg shown writes) (sym (scopes.same scope there))

  -- what is known of a key stays known of it
  pub known_still : (key : ℕ) (e : KnownLeg) → IsKnown s t r discipline table key e → IsKnown s t r discipline new key e
  known_still key e k =
      record {
        pid = k.pid;
        scope = k.scope;
        numbers = k.numbers;
        keyed = key_still key k.pid k.scope k.numbers k.keyed;
        rising = k.rising;
        within = omega (arith, k.within, long);
        is = subst (λ ws. IsRemembered s t r discipline k.pid (piece_at new.scopes.items.items new.scopes.ends.items k.scope) k.numbers e.leg (option_to_list e.shown) ws)
            (sym (ap (λ ws. writes_of ws e) longer ∙ range_before table.writes.items more e.from e.to k.rising k.within))
            (places_still k.pid k.scope k.numbers e.leg (option_to_list e.shown) (writes_of table.writes.items e) k.keyed.there k.is);
      }

-- what is known of all keys but one, of which no leg is known
none_known : (old new : List Known) (key : ℕ) → known_at new key ≡ TooMuch → ((k : ℕ) → (k ≡ key → ⊥) → known_at new k ≡ known_at old k) → (k : ℕ) (e : KnownLeg) → known_at new k ≡ Leg e → known_at old k ≡ Leg e
none_known old new key here others k e is = go (cases_eq k key)
  where
    not_both : TooMuch ≡ Leg e → ⊥
    not_both h = cc

    go : (k ≡ key) ⊎ (k ≡ key → ⊥) → known_at old k ≡ Leg e
    go (inl same) = absurd (not_both (sym here ∙ ap (known_at new) (sym same) ∙ is))
    go (inr ne) = sym (others k ne) ∙ is

module _ (s : PartStore) (t : PlaceTable) (r : Tables) (discipline : Discipline) (table : EffectTable) (are : AreKnown s t r discipline table) where
  same_keys : (new : EffectTable) → new.keys ≡ table.keys → KeepPieces table.keys.items.items table.keys.ends.items new.keys.items.items new.keys.ends.items
  same_keys new is = subst (λ x. KeepPieces table.keys.items.items table.keys.ends.items x.items.items x.ends.items) (sym is) (pieces_same table.keys.items.items table.keys.ends.items)

  same_scopes : (new : EffectTable) → new.scopes ≡ table.scopes → KeepPieces table.scopes.items.items table.scopes.ends.items new.scopes.items.items new.scopes.ends.items
  same_scopes new is = subst (λ x. KeepPieces table.scopes.items.items table.scopes.ends.items x.items.items x.ends.items) (sym is) (pieces_same table.scopes.items.items table.scopes.ends.items)

  -- no leg more
  pub known_more : (new : EffectTable) → KeepPieces table.keys.items.items table.keys.ends.items new.keys.items.items new.keys.ends.items →
      KeepPieces table.scopes.items.items table.scopes.ends.items new.scopes.items.items new.scopes.ends.items → new.writes ≡ table.writes →
      ((key : ℕ) (e : KnownLeg) → known_at new.known.items key ≡ Leg e → known_at table.known.items key ≡ Leg e) → AreKnown s t r discipline new
  known_more new keys scopes writes before key e is = known_still s t r discipline table new [] keys scopes (ap (λ v. v.items) writes ∙ sym (append-nil table.writes.items)) key e (are key e (before key e is))

  -- a key of which no leg is known
  pub gave_up : (new : EffectTable) (key : ℕ) → new.scopes ≡ table.scopes → new.keys ≡ table.keys → new.writes ≡ table.writes →
      known_at new.known.items key ≡ TooMuch → ((k : ℕ) → (k ≡ key → ⊥) → known_at new.known.items k ≡ known_at table.known.items k) → AreKnown s t r discipline new
  gave_up new key scopes keys writes here others = known_more new (same_keys new keys) (same_scopes new scopes) writes (none_known table.known.items new.known.items key here others)

  -- a leg more
  pub legs_more : (new : EffectTable) (key pid scope : ℕ) (numbers : List ℕ) (leg : KnownLeg) (writes : List Write) → new.scopes ≡ table.scopes → new.keys ≡ table.keys → new.writes.items ≡ table.writes.items ++ writes →
      known_at new.known.items key ≡ Leg leg → ((k : ℕ) → (k ≡ key → ⊥) → known_at new.known.items k ≡ known_at table.known.items k) →
      leg.from ≡ length table.writes.items → leg.to ≡ length table.writes.items + length writes → IsKeyOf table key pid scope numbers →
      IsRemembered s t r discipline pid (piece_at table.scopes.items.items table.scopes.ends.items scope) numbers leg.leg (option_to_list leg.shown) writes → AreKnown s t r discipline new
  legs_more new key pid scope numbers leg writes scopes keys longer here others from to keyed remembered k e is = go (cases_eq k key)
    where
      these : writes_of new.writes.items leg ≡ writes
      these =
          ap (λ ws. writes_of ws leg) longer
          ∙ ap (λ n. slice_range (table.writes.items ++ writes) n leg.to) from
          ∙ ap (slice_range (table.writes.items ++ writes) (length table.writes.items)) to
          ∙ range_last table.writes.items writes

      new_one : IsKnown s t r discipline new key leg
      new_one =
          record {
            pid = pid;
            scope = scope;
            numbers = numbers;
            keyed = key_still s t r discipline table new writes (same_keys new keys) (same_scopes new scopes) longer key pid scope numbers keyed;
            rising = omega (arith, from, to);
            within = omega (arith, to, ap length longer, length-append table.writes.items writes);
            is = subst (λ ws. IsRemembered s t r discipline pid (piece_at new.scopes.items.items new.scopes.ends.items scope) numbers leg.leg (option_to_list leg.shown) ws) (sym these)
                (places_still s t r discipline table new writes (same_keys new keys) (same_scopes new scopes) longer pid scope numbers leg.leg (option_to_list leg.shown) writes keyed.there remembered);
          }

      same_leg : Leg leg ≡ Leg e → leg ≡ e
      same_leg h = cc

      go : (k ≡ key) ⊎ (k ≡ key → ⊥) → IsKnown s t r discipline new k e
      go (inl same) = subst (λ j. IsKnown s t r discipline new j e) (sym same) (subst (IsKnown s t r discipline new key) (same_leg (sym here ∙ ap (known_at new.known.items) (sym same) ∙ is)) new_one)
      go (inr ne) = known_still s t r discipline table new writes (same_keys new keys) (same_scopes new scopes) longer k e (are k e (sym (others k ne) ∙ is))

-- ---- the look

-- a leg that is known by the key that a row gives tells of each machine of this row
pub looked : (s : PartStore) (t : PlaceTable) (r : Tables) (discipline : Discipline) (table : EffectTable) (key pid scope : ℕ) (e : KnownLeg) (row : List ℕ) → AreKnown s t r discipline table → IsPlaced r t →
    IsKeyOf table key pid scope (numbers_at t (piece_at table.scopes.items.items table.scopes.ends.items scope) row) → known_at table.known.items key ≡ Leg e → Tells s t r discipline table row pid e
looked s t r discipline table key pid scope e row are placed keyed is n may quiet ruled stands = look_law s t r discipline pid (places scope) numbers e.leg shown writes n row placed it may quiet ruled stands refl
  where
    places : ℕ → List ℕ
    places c = piece_at table.scopes.items.items table.scopes.ends.items c

    numbers : List ℕ
    numbers = numbers_at t (places scope) row

    shown : List Shown
    shown = option_to_list e.shown

    writes : List Write
    writes = writes_of table.writes.items e

    known : IsKnown s t r discipline table key e
    known = are key e is

    same : known.pid ∷ known.scope ∷ known.numbers ≡ pid ∷ scope ∷ numbers
    same = sym known.keyed.piece.is ∙ keyed.piece.is

    it : IsRemembered s t r discipline pid (places scope) numbers e.leg shown writes
    it =
        subst (λ p. IsRemembered s t r discipline p (places scope) numbers e.leg shown writes) (ap (λ l. number_at l 0) same)
        (subst (λ c. IsRemembered s t r discipline known.pid (places c) numbers e.leg shown writes) (ap (λ l. number_at l 1) same)
        (subst (λ ns. IsRemembered s t r discipline known.pid (places known.scope) ns e.leg shown writes) (ap (drop 2) same) known.is))
