-- What is known of legs.
use Rattle.std.proofs.Common.{◌≡◌, ◌∙◌, ◌∷◌, ◌+◌, ◌<◌, ◌≤◌, ◌⊎◌, inl, inr, ℕ, true, List, Option, None, Some, ap, arith, length, refl, subst, sym}
use Rattle.std.specs.Prelude.{◌==◌, All, IfSome, option_to_list, slice_index_or}
use Rattle.std.proofs.lemmas.Bool.{cases_lt, eq-eqb}
use Rattle.std.proofs.lemmas.List.{get_or_past}
use Rattle.std.proofs.lemmas.List.Elements.{All-from_get_or}
use Rattle.std.proofs.lemmas.List.Folds.{list_any_at}
use Rattle.cp_slots.specs.Tables.{Tables}
use Rattle.cp_machine.specs.declared.discipline.Discipline.{Discipline}
use Rattle.cp_machine.specs.declared.shown.Shown.{Shown}
use Rattle.cp_machine.specs.Machine.{Machine}
use Rattle.cp_machine.proofs.CallerLemmas.{ready_thread}
use Rattle.cp_states.specs.Pieces.{IsPiece, piece_at}
use Rattle.cp_parts.specs.declared.placing.PlaceTable.{PlaceTable}
use Rattle.cp_parts.specs.declared.store.PartStore.{PartStore}
use Rattle.cp_parts.specs.Parts.{KeepStore}
use Rattle.cp_parts.specs.Placed.{IsPlaced, place_count}
use Rattle.cp_effects.specs.declared.changes.Write.{Write}
use Rattle.cp_effects.specs.declared.effect.Effect.{Effect}
use Rattle.cp_effects.specs.declared.leg.WatchedLeg.{WatchedLeg}
use Rattle.cp_effects.specs.declared.table.EffectTable.{EffectTable}
use Rattle.cp_effects.specs.declared.table.Known.TheVariants.{Leg}
use Rattle.cp_effects.specs.declared.table.KnownLeg.{KnownLeg}
use Rattle.cp_effects.specs.Changes.{is_written, numbers_at}
use Rattle.cp_effects.specs.Known.{AreKnown, IsKeyOf, known_at, writes_of}
use Rattle.cp_effects.specs.Remembered.{IsRemembered}
use Rattle.cp_effects.proofs.Knowing.{looked, remembered_on}
use Rattle.cp_stretches.specs.declared.cache.LegCache.{LegCache}
use Rattle.cp_stretches.specs.Cached.{IsCache}
use Rattle.cp_stretches.specs.Stretching.{MayGo}
use Rattle.cp_stretches.specs.Telling.{HasKey, IsTold}

pub some_to : {A : Type 0} (o : Option A) (P Q : A → Type 0) → ((x : A) → P x → Q x) → IfSome o P → IfSome o Q
some_to None P Q f h = tt
some_to (Some x) P Q f h = f x h

-- ---- what a leg changed stands in the row

no_write : Write
no_write = record { position = 0; number = 0 }

module _ (s : PartStore) (t : PlaceTable) (r : Tables) (discipline : Discipline) (pid : ℕ) (places numbers : List ℕ) (leg : WatchedLeg) (shown : List Shown) (writes : List Write)
    (is : IsRemembered s t r discipline pid places numbers leg shown writes) where
  abbrev width : ℕ
  width = t.processes + 1 + place_count t

  position_inside : (k : ℕ) → is_written writes k ≡ true → (k < width) ⊎ (width ≤ k) → k < width
  position_inside k there (inl within) = within
  position_inside k there (inr past) =
      absurd (is.changes.others k there (get_or_past is.row_after k 0 (omega (arith, past, is.comes.long)) ∙ sym (get_or_past is.row k 0 (omega (arith, past, is.stands.long)))))

  pub positions_inside : All (λ w. w.position < width) writes
  positions_inside =
      All-from_get_or (λ w. w.position < width) writes no_write
      (λ i lt. let k = (slice_index_or writes i no_write).position in position_inside k (list_any_at (λ w. w.position == k) writes i no_write lt (eq-eqb k k refl)) (cases_lt k width))

-- ---- a process that may make a leg

module _ (r : Tables) (discipline : Discipline) (c : LegCache) (m : Machine) (row : List ℕ) (pid : ℕ) (cache : IsCache r discipline c) (may : MayGo r discipline c.store c.table m row pid) where
  pub pid_within : pid < c.table.processes
  pid_within = omega (arith, ready_thread m pid may.ready, may.machine.kept.fits.threads, cache.placed.processes)

  pub row_long : length row ≡ c.table.processes + 1 + (c.table.processes + c.table.monitors)
  row_long = may.machine.stands.long

-- ---- keys

-- a leg that is known by the key that a row gives tells of each machine of this row
pub told_by : (s : PartStore) (t : PlaceTable) (r : Tables) (discipline : Discipline) (table : EffectTable) (key pid scope : ℕ) (e : KnownLeg) (row : List ℕ) → AreKnown s t r discipline table → IsPlaced r t →
    IsKeyOf table key pid scope (numbers_at t (piece_at table.scopes.items.items table.scopes.ends.items scope) row) → known_at table.known.items key ≡ Leg e → IsTold s t r discipline table row pid e
told_by s t r discipline table key pid scope e row are placed keyed here =
    let known = are key e here in
    record {
      rising = known.rising;
      within = known.within;
      inside = positions_inside s t r discipline known.pid _ known.numbers e.leg (option_to_list e.shown) (writes_of table.writes.items e) known.is;
      tells = looked s t r discipline table key pid scope e row are placed keyed here;
    }

-- a key in a table with the same keys and places
pub key_stays : (t : PlaceTable) (row : List ℕ) (old new : EffectTable) (key pid : ℕ) (places : List ℕ) → new.keys ≡ old.keys → new.scopes ≡ old.scopes → (h : HasKey old key pid places (numbers_at t places row)) →
    IsKeyOf new key pid h.scope (numbers_at t (piece_at new.scopes.items.items new.scopes.ends.items h.scope) row)
key_stays t row old new key pid places keys scopes h =
    let are : piece_at new.scopes.items.items new.scopes.ends.items h.scope ≡ places = ap (λ x. piece_at x.items.items x.ends.items h.scope) scopes ∙ h.are in
    record {
      piece = subst (λ ps. IsPiece new.keys.items.items new.keys.ends.items key (pid ∷ h.scope ∷ numbers_at t ps row)) (sym are) (subst (λ x. IsPiece x.items.items x.ends.items key (pid ∷ h.scope ∷ numbers_at t places row)) (sym keys) h.keyed.piece);
      there = subst (λ x. h.scope < length x.ends.items) (sym scopes) h.keyed.there;
    }

-- ---- a leg that was made

abbrev Remembers : PartStore → PlaceTable → Tables → Discipline → (pid : ℕ) → (places row : List ℕ) → Effect → Type 0
Remembers s t r discipline pid places row e = IsRemembered s t r discipline pid places (numbers_at t places row) e.leg (option_to_list e.shown) e.writes.items

-- it is remembered in a store that keeps all that has a number
pub made_stays : (made : Option Effect) (s u : PartStore) (t v : PlaceTable) (r : Tables) (d discipline : Discipline) (pid : ℕ) (places row : List ℕ) → KeepStore s u → v ≡ t → d ≡ discipline →
    IfSome made (Remembers s t r d pid places row) → IfSome made (Remembers u v r discipline pid places row)
made_stays made s u t v r d discipline pid places row kept table ruled is =
    subst (λ x. IfSome made (Remembers u x r discipline pid places row)) (sym table)
    (some_to made (Remembers s t r discipline pid places row) (Remembers u t r discipline pid places row)
    (λ e. remembered_on s u t r discipline kept pid places (numbers_at t places row) e.leg (option_to_list e.shown) e.writes.items)
    (subst (λ x. IfSome made (Remembers s t r x pid places row)) ruled is))
