-- A machine that has the numbers that are remembered makes the leg that is remembered.
use Rattle.std.proofs.Common.{◌≡◌, ◌∙◌, ◌+◌, ◌<◌, ◌⊎◌, inl, inr, ℕ, Bool, true, false, List, [], length, Option, Some, None, ap, arith, refl, sym, subst}
use Rattle.cp_slots.specs.Tables.{Tables}
use Rattle.cp_machine.specs.declared.discipline.Discipline.{Discipline}
use Rattle.cp_machine.specs.declared.process.Status.{Status}
use Rattle.cp_machine.specs.declared.shown.Shown.{Shown}
use Rattle.cp_machine.specs.Fits.{MachineFits}
use Rattle.cp_machine.specs.Machine.{Machine, is_some}
use Rattle.cp_machine.specs.Statements.{Stepped}
use Rattle.cp_states.specs.Numbers.{number_at}
use Rattle.cp_effect_laws.specs.Effects.{IsToStep, Leg}
use Rattle.cp_effect_laws.specs.Effects.Leg.{ends, goes_on}
use Rattle.cp_effect_laws.specs.Parts.{DoesSame, HaveSame, Places, status_at}
use Rattle.cp_effect_laws.proofs.Legs.{last_kept, next_step, step_kept}
use Rattle.cp_effect_laws.proofs.Parts.{effect_law}
use Rattle.cp_parts.specs.declared.placing.PlaceTable.{PlaceTable}
use Rattle.cp_parts.specs.declared.store.PartStore.{PartStore}
use Rattle.cp_parts.specs.Coded.{option_code, status_code}
use Rattle.cp_parts.specs.Parts.{IsPartNumber, IsPartRow, IsStatusNumber}
use Rattle.cp_parts.specs.Placed.{IsPlaced, place_count, places_of}
use Rattle.cp_parts.proofs.Pieces.{one_number}
use Rattle.cp_parts.proofs.Same.{part_law, same_part_law}
use Rattle.cp_effects.specs.declared.leg.WatchedLeg.{WatchedLeg}
use Rattle.cp_effects.specs.declared.changes.Write.{Write}
use Rattle.cp_effects.specs.Noting.{among}
use Rattle.cp_effects.specs.Changes.{is_written, numbers_at, part_position, written}
use Rattle.cp_effects.specs.Remembered.{GoesAs, IsRemembered, LookLaw}
use Rattle.cp_effects.proofs.Statuses.{one_status}
use Rattle.cp_effects.proofs.Written.{same_of, written_alike, written_elsewhere, written_long}

-- what a leg comes to fits the program
leg_fits : (r : Tables) (m : Machine) (pid k : ℕ) (last : Stepped) → IsToStep r m pid → Leg r m pid k last → MachineFits r last.machine
leg_fits r _ _ _ _ h (ends m pid is) = (step_kept r m pid h).fits
leg_fits r _ _ _ _ h (goes_on m pid k last is rest) = leg_fits r _ pid k last (next_step r m pid h is) rest

module _ (s : PartStore) (t : PlaceTable) (r : Tables) (discipline : Discipline) (pid : ℕ) (places numbers : List ℕ) (leg : WatchedLeg) (shown : List Shown) (writes : List Write) (n : Machine) (row : List ℕ)
    (placed : IsPlaced r t) (known : IsRemembered s t r discipline pid places numbers leg shown writes)
    (may : IsToStep r n pid) (quiet : n.output ≡ []) (ruled : n.discipline ≡ discipline) (stands : IsPartRow s t n row) (found : numbers ≡ numbers_at t places row) where
  abbrev l : Places
  l = places_of t

  abbrev m : Machine
  m = known.first

  abbrev after : Machine
  after = known.after

  -- ---- the leg

  one_number_there : (place : ℕ) → among places place ≡ true → number_at known.row (part_position t place) ≡ number_at row (part_position t place)
  one_number_there place is = same_of (λ p. number_at known.row (part_position t p)) (λ p. number_at row (part_position t p)) places place (sym known.found ∙ found) is

  same : (place : ℕ) → among places place ≡ true → HaveSame l place m n
  same place is =
      let lt = known.inside place is in
      part_law r s t m n place (number_at known.row (part_position t place)) placed known.steps.kept.fits may.kept.fits lt (known.stands.parts place lt)
      (subst (λ k. IsPartNumber s t n place k) (sym (one_number_there place is)) (stands.parts place lt))

  pub does : (other : Stepped) × DoesSame l r (among places) m n pid leg.steps (record { machine = after; event = leg.event }) other
  does = effect_law l r (among places) m n pid leg.steps (record { machine = after; event = leg.event }) known.steps may (quiet ∙ sym known.quiet) (ruled ∙ sym known.ruled) known.effect.own same known.effect.within known.effect.settled

  abbrev last : Stepped
  last = does.0

  abbrev d : DoesSame l r (among places) m n pid leg.steps (record { machine = after; event = leg.event }) last
  d = does.1

  fits_after : MachineFits r after
  fits_after = last_kept _ r m pid leg.steps (record { machine = after; event = leg.event }) known.steps known.effect.within

  fits_last : MachineFits r last.machine
  fits_last = leg_fits r n pid leg.steps last may d.leg

  -- ---- the row

  abbrev new : List ℕ
  new = written writes row

  abbrev width : ℕ
  width = t.processes + 1 + place_count t

  long_before : length known.row ≡ width
  long_before = known.stands.long

  after_is : (k : ℕ) → number_at known.row_after k ≡ number_at (written writes known.row) k
  after_is k = ap (λ xs. number_at xs k) known.changes.row

  -- where something is written, or both rows had one number, they have one afterwards
  alike : (k : ℕ) → k < width → (number_at known.row k ≡ number_at row k) ⊎ (is_written writes k ≡ true) → number_at known.row_after k ≡ number_at new k
  alike k lt h = after_is k ∙ written_alike writes known.row row k (subst (λ j. k < j) (sym long_before) lt) (subst (λ j. k < j) (sym stands.long) lt) h

  still : (k : ℕ) → is_written writes k ≡ false → number_at known.row_after k ≡ number_at known.row k
  still k not = after_is k ∙ written_elsewhere writes known.row k not

  number_of_status : (a b : Status) (j k : ℕ) → IsStatusNumber s a j → IsStatusNumber s b k → a ≡ b → j ≡ k
  number_of_status a b j k x y is = one_number s.statuses.items.items s.statuses.ends.items j k (status_code b) s.statuses.different (subst (λ c. IsStatusNumber s c j) is x) y

  statuses : (q : ℕ) → q < t.processes → IsStatusNumber s (status_at last.machine q) (number_at new q)
  statuses q lt = go (is_written writes q) refl (d.statuses q)
    where
      here : q < width
      here = omega (arith, lt)

      go : (b : Bool) → is_written writes q ≡ b →
          ((status_at last.machine q ≡ status_at after q) × (status_at n q ≡ status_at m q)) ⊎ ((status_at last.machine q ≡ status_at n q) × (status_at after q ≡ status_at m q)) →
          IsStatusNumber s (status_at last.machine q) (number_at new q)
      go true is (inl (same_after, same_before)) = subst (λ k. IsStatusNumber s (status_at last.machine q) k) (alike q here (inr is)) (subst (λ c. IsStatusNumber s c (number_at known.row_after q)) (sym same_after) (known.comes.statuses q lt))
      go true is (inr (stays, stayed)) = absurd (known.changes.others q is (number_of_status (status_at after q) (status_at m q) _ _ (known.comes.statuses q lt) (known.stands.statuses q lt) stayed))
      go false not (inr (stays, stayed)) = subst (λ k. IsStatusNumber s (status_at last.machine q) k) (sym (written_elsewhere writes row q not)) (subst (λ c. IsStatusNumber s c (number_at row q)) (sym stays) (stands.statuses q lt))
      go false not (inl (same_after, same_before)) =
          let stayed : status_at after q ≡ status_at m q = one_status s (status_at after q) (status_at m q) (number_at known.row_after q) (number_at known.row q) (known.comes.statuses q lt) (known.stands.statuses q lt) (still q not) in
          subst (λ k. IsStatusNumber s (status_at last.machine q) k) (sym (written_elsewhere writes row q not)) (subst (λ c. IsStatusNumber s c (number_at row q)) (sym (same_after ∙ stayed ∙ sym same_before)) (stands.statuses q lt))

  nothing : (x : Machine) (k : ℕ) → IsToStep r x k → x.pending ≡ None
  nothing x k h = none x.pending h.free
    where
      none : (p : Option ℕ) → is_some p ≡ false → p ≡ None
      none None e = refl
      none (Some j) e = absurd (cc)

  pending : number_at new t.processes ≡ option_code last.machine.pending
  pending =
      let one : number_at known.row t.processes ≡ number_at row t.processes = known.stands.pending ∙ ap option_code (nothing m pid known.steps ∙ sym (nothing n pid may)) ∙ sym stands.pending in
      sym (alike t.processes (omega arith) (inl one)) ∙ known.comes.pending ∙ ap option_code (sym d.pending)

  parts : (place : ℕ) → place < place_count t → IsPartNumber s t last.machine place (number_at new (part_position t place))
  parts place lt = go (among places place) refl
    where
      here : part_position t place < width
      here = omega (arith, lt)

      go : (b : Bool) → among places place ≡ b → IsPartNumber s t last.machine place (number_at new (part_position t place))
      go true is =
          subst (λ k. IsPartNumber s t last.machine place k) (alike (part_position t place) here (inl (one_number_there place is)))
          (same_part_law r s t after last.machine place (number_at known.row_after (part_position t place)) placed fits_after fits_last lt (d.touched place is) (known.comes.parts place lt))
      go false not =
          subst (λ k. IsPartNumber s t last.machine place k) (sym (written_elsewhere writes row (part_position t place) (known.changes.elsewhere place lt not)))
          (same_part_law r s t n last.machine place (number_at row (part_position t place)) placed may.kept.fits fits_last lt (d.rest place not) (stands.parts place lt))

  row_after : IsPartRow s t last.machine new
  row_after = record { long = written_long writes row ∙ stands.long; statuses = statuses; pending = pending; parts = parts }

  pub goes_as : GoesAs s t r n row pid leg shown writes last
  goes_as = record { steps = d.leg; event = d.event; shows = d.output ∙ known.shows; comes = row_after }

pub look_law : LookLaw
look_law s t r discipline pid places numbers leg shown writes n row placed known may quiet ruled stands found =
    (_, goes_as s t r discipline pid places numbers leg shown writes n row placed known may quiet ruled stands found)
