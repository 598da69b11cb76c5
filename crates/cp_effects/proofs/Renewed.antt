-- The row after a leg: what the leg did not touch has the number that it had.
use Rattle.std.proofs.Common.{◌≡◌, ◌∙◌, ◌∷◌, ◌++◌, ◌+◌, ◌<◌, ◌⊎◌, inl, inr, ℕ, Bool, true, false, List, [], ap, arith, length, refl, subst, sym, get_or-set_same, get_or-set_other}
use Rattle.std.specs.Prelude.{◌==◌, slice_index_or, slice_set}
use Rattle.std.proofs.lemmas.Bool.{cases_eq, eq-eqb, false≢true}
use Rattle.std.proofs.lemmas.List.{length-set}
use Rattle.std.proofs.lemmas.List.Folds.{list_any_at}
use Rattle.cp_slots.specs.Tables.{Tables}
use Rattle.cp_machine.specs.declared.event.Event.TheVariants.{Local}
use Rattle.cp_machine.specs.Machine.{Machine}
use Rattle.cp_machine.specs.Statements.{Stepped}
use Rattle.cp_machine.specs.Step.{is_local, step_at}
use Rattle.cp_run.specs.Silent.{without_output}
use Rattle.cp_states.specs.Numbers.{number_at}
use Rattle.cp_effect_laws.specs.Effects.{IsToStep, Leg}
use Rattle.cp_effect_laws.specs.Effects.Leg.{ends, goes_on}
use Rattle.cp_effect_laws.specs.Parts.{HaveSame, Places, status_at}
use Rattle.cp_effect_laws.proofs.Legs.{last_kept}
use Rattle.cp_effect_laws.proofs.Parts.{effect_law}
use Rattle.cp_parts.specs.declared.placing.PlaceTable.{PlaceTable}
use Rattle.cp_parts.specs.declared.store.PartStore.{PartStore}
use Rattle.cp_parts.specs.Coded.{option_code}
use Rattle.cp_parts.specs.Parts.{IsPartNumber, IsPartRow, IsStatusNumber, KeepStore}
use Rattle.cp_parts.specs.Placed.{IsPlaced, place_count, places_of}
use Rattle.cp_parts.proofs.Keeping.{part_on, status_on}
use Rattle.cp_parts.proofs.Same.{same_part_law}
use Rattle.cp_effects.specs.declared.leg.WatchedLeg.{WatchedLeg}
use Rattle.cp_effects.specs.Changes.{part_position}
use Rattle.cp_effects.specs.Noting.{among}
use Rattle.cp_effects.specs.Renewing.{HasNewParts, HasNewStatuses, IsRenewed}
use Rattle.cp_effects.specs.Touching.{noted_by}
use Rattle.cp_effects.specs.Watching.{IsEffect, came_to}
use Rattle.cp_effects.proofs.Noted.{kept_more, noted_last, noted_next}
use Rattle.cp_effects.proofs.Remembering.{leg_of}

-- ---- a process of a machine makes one leg

leg_first : (r : Tables) (m : Machine) (p k : ℕ) (last : Stepped) → is_local (step_at r m p).event ≡ false → Leg r m p k last → step_at r m p ≡ last
leg_first r _ _ _ _ loud (ends m p is) = refl
leg_first r _ _ _ _ loud (goes_on m p k last is rest) = absurd (false≢true (sym loud ∙ ap is_local is))

leg_rest : (r : Tables) (m : Machine) (p k : ℕ) (last : Stepped) → (step_at r m p).event ≡ Local → Leg r m p k last → (j : ℕ) × Leg r (without_output (step_at r m p).machine) p j last
leg_rest r _ _ _ _ local (ends m p is) = absurd (false≢true (sym is ∙ ap is_local local))
leg_rest r _ _ _ _ local (goes_on m p k last is rest) = (k, rest)

leg_one : (r : Tables) (m : Machine) (p j k : ℕ) (last other : Stepped) → Leg r m p j last → Leg r m p k other → last ≡ other
leg_one r _ _ _ k _ other (ends m p is) leg = leg_first r m p k other is leg
leg_one r _ _ _ k _ other (goes_on m p j last is rest) leg = let more = leg_rest r m p k other is leg in leg_one r _ p j more.0 last other rest more.1

-- ---- what a leg did not touch

has_its_own : (l : Places) (place : ℕ) (m : Machine) → HaveSame l place m m
has_its_own l place m =
    record {
      cells = λ k is. refl;
      bindings = λ k is. refl;
      phases = λ k is. refl;
      monitors = λ k is. refl;
      waiting = λ q is. refl;
      others_wait = λ q is. refl;
      bodies = λ q is. refl;
      stages = λ q is. refl;
    }

module _ (s : PartStore) (t : PlaceTable) (r : Tables) (m : Machine) (pid : ℕ) (places : List ℕ) (leg : WatchedLeg) (after : Machine)
    (placed : IsPlaced r t) (may : IsToStep r m pid) (effect : IsEffect (places_of t) r places m pid leg after) where
  rest_same : (place : ℕ) → among places place ≡ false → HaveSame (places_of t) place m after
  rest_same place not =
      let l = places_of t in
      let does = effect_law l r (among places) m m pid leg.steps (came_to leg after) may may refl refl effect.own (λ at is. has_its_own l at m) effect.within effect.settled in
      let one : came_to leg after ≡ does.0 = leg_one r m pid leg.steps leg.steps (came_to leg after) does.0 (leg_of (noted_by l places m pid) r m pid leg.steps (came_to leg after) effect.within) does.1.leg in
      subst (λ (x : Stepped). HaveSame l place m x.machine) (sym one) (does.1.rest place not)

  -- the part of a place that was not touched has the number that it had
  part_stays : (place n : ℕ) → place < place_count t → among places place ≡ false → IsPartNumber s t m place n → IsPartNumber s t after place n
  part_stays place n lt not is =
      same_part_law r s t m after place n placed may.kept.fits (last_kept (noted_by (places_of t) places m pid) r m pid leg.steps (came_to leg after) may effect.within) lt (rest_same place not) is

  pub renewed_row : (row row_after : List ℕ) → IsPartRow s t m row → IsRenewed s t after places row row_after → IsPartRow s t after row_after
  renewed_row row row_after stands new = record { long = new.long ∙ stands.long; statuses = new.statuses; pending = new.pending; parts = λ place lt. part place lt (among places place) refl }
    where
      part : (place : ℕ) → place < place_count t → (b : Bool) → among places place ≡ b → IsPartNumber s t after place (number_at row_after (part_position t place))
      part place lt true is = new.parts place is
      part place lt false not = subst (IsPartNumber s t after place) (sym (new.others place not)) (part_stays place (number_at row (part_position t place)) lt not (stands.parts place lt))

-- ---- a row that is being made

pub statuses_none : (s : PartStore) (m : Machine) (row : List ℕ) → HasNewStatuses s m row row 0
statuses_none s m row = record { long = refl; own = λ q lt. absurd (omega (arith, lt)); others = λ k le. refl }

pub statuses_next : (s u : PartStore) (m : Machine) (before row : List ℕ) (count n : ℕ) → KeepStore s u → count < length row → IsStatusNumber u (status_at m count) n → HasNewStatuses s m before row count →
    HasNewStatuses u m before (slice_set row count n) (count + 1)
statuses_next s u m before row count n kept lt is has =
    record {
      long = length-set row count n ∙ has.long;
      own = λ q l. own q l (cases_eq q count);
      others = λ k le. get_or-set_other row count k n 0 (λ e. omega (arith, e, le)) ∙ has.others k (omega (arith, le));
    }
  where
    own : (q : ℕ) → q < count + 1 → (q ≡ count) ⊎ (q ≡ count → ⊥) → IsStatusNumber u (status_at m q) (number_at (slice_set row count n) q)
    own q l (inl e) = subst (λ x. IsStatusNumber u (status_at m x) (number_at (slice_set row count n) x)) (sym e) (subst (IsStatusNumber u (status_at m count)) (sym (get_or-set_same row count n 0 lt)) is)
    own q l (inr ne) = subst (IsStatusNumber u (status_at m q)) (sym (get_or-set_other row count q n 0 ne)) (status_on s u m q (number_at row q) kept (has.own q (omega (arith, l, ne))))

-- what is read of places is among them
pub noted_at : (places : List ℕ) (at : ℕ) → at < length places → among places (slice_index_or places at 0) ≡ true
noted_at places at lt = let place = slice_index_or places at 0 in list_any_at (λ noted. noted == place) places at 0 lt (eq-eqb place place refl)

pub parts_none : (s : PartStore) (t : PlaceTable) (m : Machine) (row : List ℕ) → HasNewParts s t m [] row row
parts_none s t m row = record { long = refl; own = λ place is. absurd (false≢true is); others = λ k none. refl }

pub parts_next : (s u : PartStore) (t : PlaceTable) (m : Machine) (places before row : List ℕ) (place n : ℕ) → KeepStore s u → part_position t place < length row → IsPartNumber u t m place n → HasNewParts s t m places before row →
    HasNewParts u t m (places ++ place ∷ []) before (slice_set row (part_position t place) n)
parts_next s u t m places before row place n kept lt is has =
    record {
      long = length-set row here n ∙ has.long;
      own = λ p noted. own p (noted_next places place p noted) (cases_eq p place);
      others = λ k none. get_or-set_other row here k n 0 (λ e. none place (noted_last places place) e) ∙ has.others k (λ p noted. none p (kept_more places (place ∷ []) p noted));
    }
  where
    here : ℕ
    here = part_position t place

    own : (p : ℕ) → (among places p ≡ true) ⊎ (place ≡ p) → (p ≡ place) ⊎ (p ≡ place → ⊥) → IsPartNumber u t m p (number_at (slice_set row here n) (part_position t p))
    own p noted (inl e) = subst (λ x. IsPartNumber u t m x (number_at (slice_set row here n) (part_position t x))) (sym e) (subst (IsPartNumber u t m place) (sym (get_or-set_same row here n 0 lt)) is)
    own p (inl old) (inr ne) =
        subst (IsPartNumber u t m p) (sym (get_or-set_other row here (part_position t p) n 0 (λ e. ne (omega (arith, e))))) (part_on s u t m p (number_at row (part_position t p)) kept (has.own p old))
    own p (inr e) (inr ne) = absurd (ne (sym e))

pub renewed : (s u : PartStore) (t : PlaceTable) (m : Machine) (places before first row : List ℕ) → KeepStore s u → length before ≡ t.processes + 1 + place_count t → HasNewStatuses s m before first t.processes →
    HasNewParts u t m places (slice_set first t.processes (option_code m.pending)) row → IsRenewed u t m places before row
renewed s u t m places before first row kept long statuses parts =
    record {
      long = parts.long ∙ length-set first t.processes (option_code m.pending) ∙ statuses.long;
      statuses = λ q lt. subst (IsStatusNumber u (status_at m q)) (sym (low q (omega (arith, lt)) ∙ get_or-set_other first t.processes q (option_code m.pending) 0 (λ e. omega (arith, e, lt)))) (status_on s u m q (number_at first q) kept (statuses.own q lt));
      pending = low t.processes (omega arith) ∙ get_or-set_same first t.processes (option_code m.pending) 0 (omega (arith, long, statuses.long));
      parts = parts.own;
      others = λ place not.
          parts.others (part_position t place) (λ p noted e. false≢true (sym not ∙ subst (λ x. among places x ≡ true) (back p place e) noted))
          ∙ get_or-set_other first t.processes (part_position t place) (option_code m.pending) 0 (λ e. omega (arith, e))
          ∙ statuses.others (part_position t place) (omega arith);
    }
  where
    low : (k : ℕ) → k < t.processes + 1 → number_at row k ≡ number_at (slice_set first t.processes (option_code m.pending)) k
    low k lt = parts.others k (λ p noted e. omega (arith, lt, e))

    back : (p place : ℕ) → part_position t place ≡ part_position t p → p ≡ place
    back p place e = omega (arith, e)
