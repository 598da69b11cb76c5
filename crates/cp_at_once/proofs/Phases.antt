-- Machines whose rows have the same phases in each place.
use Rattle.std.proofs.Common.{◌≡◌, ◌∙◌, ◌<◌, ℕ, List, ap, arith, length, refl, sym}
use Rattle.std.proofs.lemmas.List.{ext_get_or}
use Rattle.cp_slots.specs.Tables.{Tables}
use Rattle.cp_machine.specs.declared.state.Phase.TheVariants.{Uninitialised}
use Rattle.cp_machine.specs.Fits.{MachineFits}
use Rattle.cp_machine.specs.Machine.{Machine}
use Rattle.cp_states.specs.Pieces.{piece_at}
use Rattle.cp_parts.specs.declared.placing.PlaceTable.{PlaceTable}
use Rattle.cp_parts.specs.declared.store.PartStore.{PartStore}
use Rattle.cp_parts.specs.Parts.{IsPartRow}
use Rattle.cp_parts.specs.Placed.{IsPlaced, place_count}
use Rattle.cp_parts.specs.Runs.{in_span, label_at, span_at}
use Rattle.cp_parts.proofs.Spans.{label_same}
use Rattle.cp_at_once.specs.ByRows.{phases_number}

module _ (r : Tables) (s : PartStore) (t : PlaceTable) (m n : Machine) (row after : List ℕ) (placed : IsPlaced r t) (fm : MachineFits r m) (fn : MachineFits r n) (a : IsPartRow s t m row) (b : IsPartRow s t n after) where
  span : (place : ℕ) → place < place_count t → phases_number s t row place ≡ phases_number s t after place → in_span (span_at t.components.spans.items place) m.phases ≡ in_span (span_at t.components.spans.items place) n.phases
  span place lt same = sym (a.parts place lt).is.ground.phases.is ∙ ap (piece_at s.grounds.phases.items.items s.grounds.phases.ends.items) same ∙ (b.parts place lt).is.ground.phases.is

  place_of : (k : ℕ) → k < length n.phases → label_at t.components.labels.items k < place_count t
  place_of k lt = let known = t.components.runs.known k (omega (arith, lt, placed.components, fn.phases)) in omega (arith, known, t.of_components)

  pub same_phases : ((place : ℕ) → place < place_count t → phases_number s t row place ≡ phases_number s t after place) → n.phases ≡ m.phases
  same_phases same =
      ext_get_or Uninitialised n.phases m.phases (fn.phases ∙ sym fm.phases)
      (λ k lt.
      let place = label_at t.components.labels.items k in
      let there = place_of k lt in
      label_same t.components m.phases n.phases Uninitialised place (placed.components ∙ sym fm.phases) (fm.phases ∙ sym fn.phases) (span place there (same place there)) k refl)
