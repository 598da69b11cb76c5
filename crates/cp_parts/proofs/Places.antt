-- A table of places with one component more.
use Rattle.std.proofs.Common.{◌≡◌, ◌∙◌, ◌∷◌, ◌++◌, ◌+◌, ◌<◌, ◌≤◌, ◌⊎◌, inl, inr, ℕ, [], ap, arith, if◌then◌else◌, length, subst, sym}
use Rattle.std.proofs.Math.Seq.{get_or-append_seam}
use Rattle.std.proofs.lemmas.Bool.{cases_eq, cases_lt, le-ltb, lt-ltb}
use Rattle.std.proofs.lemmas.List.{get_or_append_left, length-append}
use Rattle.cp_slots.specs.Fits.{IsSound}
use Rattle.cp_slots.specs.Systems.{own_of}
use Rattle.cp_slots.specs.Tables.{Tables, component_at}
use Rattle.cp_parts.specs.declared.placing.PlaceTable.{PlaceTable}
use Rattle.cp_parts.specs.Placed.{ArePlacedBelow, IsPlaced, cells_before, places_of}
use Rattle.cp_parts.specs.Runs.{AreFilled, label_at}

pub before_inner : (r : Tables) (c : ℕ) → c < length r.components → cells_before r c ≡ (component_at r c).base
before_inner r c lt = ap (λ b. if b then (component_at r c).base else length r.permanents) (lt-ltb c (length r.components) lt)

pub before_past : (r : Tables) (c : ℕ) → length r.components ≤ c → cells_before r c ≡ length r.permanents
before_past r c le = ap (λ b. if b then (component_at r c).base else length r.permanents) (le-ltb c (length r.components) le)

-- the cells of a component end before those of the next one begin
pub own_before : (r : Tables) (c : ℕ) → IsSound r → c < length r.components → (component_at r c).base + own_of r c ≤ cells_before r (c + 1)
own_before r c sound lt = go (cases_lt (c + 1) (length r.components))
  where
    go : (c + 1 < length r.components) ⊎ (length r.components ≤ c + 1) → (component_at r c).base + own_of r c ≤ cells_before r (c + 1)
    go (inl l) = let apart = sound.typed.apart c (c + 1) (omega arith) l in omega (arith, apart, before_inner r (c + 1) l)
    go (inr le) = let own = (sound.typed.components c lt).cells in omega (arith, own, before_past r (c + 1) le)

-- so there is room between
pub rises : (r : Tables) (c : ℕ) → IsSound r → c < length r.components → cells_before r c ≤ cells_before r (c + 1)
rises r c sound lt = let own = own_before r c sound lt in omega (arith, own, before_inner r c lt)

module _ (r : Tables) (t u : PlaceTable) (c place : ℕ) (sound : IsSound r) (lt : c < length r.components) (below : ArePlacedBelow r t c)
    (processes : u.processes ≡ t.processes) (monitors : u.monitors ≡ t.monitors) (components : u.components.labels.items ≡ t.components.labels.items ++ place ∷ [])
    (filled : AreFilled t.cells.labels.items u.cells.labels.items place (cells_before r (c + 1))) where
  old_component : (d : ℕ) → d < c → (places_of u).of_component d ≡ (places_of t).of_component d
  old_component d l = ap (λ ls. label_at ls d) components ∙ get_or_append_left t.components.labels.items (place ∷ []) 0 d (omega (arith, l, below.components))

  new_component : (places_of u).of_component c ≡ place
  new_component = ap (λ ls. label_at ls c) components ∙ ap (label_at (t.components.labels.items ++ place ∷ [])) (sym below.components) ∙ get_or-append_seam t.components.labels.items place [] 0

  together : (d k : ℕ) → d < c + 1 → (component_at r d).base ≤ k → k < (component_at r d).base + own_of r d → (d ≡ c) ⊎ (d ≡ c → ⊥) → (places_of u).of_cell k ≡ (places_of u).of_component d
  together d k l from to (inl e) =
      subst (λ x. (places_of u).of_cell k ≡ (places_of u).of_component x) (sym e)
      (filled.these k (omega (arith, below.cells, before_inner r c lt, subst (λ x. (component_at r x).base ≤ k) e from))
      (omega (arith, subst (λ x. k < (component_at r x).base + own_of r x) e to, own_before r c sound lt))
      ∙ sym new_component)
  together d k l from to (inr ne) =
      let before_ : d < c = omega (arith, l, ne) in
      let apart = sound.typed.apart d c before_ lt in
      filled.kept k (omega (arith, to, apart, below.filled (omega (arith, before_)), before_inner r c lt)) ∙ below.together d k before_ from to ∙ sym (old_component d before_)

  pub placed_more : ArePlacedBelow r u (c + 1)
  placed_more =
      record {
        processes = processes ∙ below.processes;
        monitors = monitors ∙ below.monitors;
        components = ap length components ∙ length-append t.components.labels.items (place ∷ []) ∙ ap (λ n. n + 1) below.components;
        cells = omega (arith, filled.long);
        filled = λ _. filled.long;
        together = λ d k l from to. together d k l from to (cases_eq d c);
      }

pub placed_all : (r : Tables) (t : PlaceTable) (c : ℕ) → IsSound r → c ≡ length r.components → ArePlacedBelow r t c → IsPlaced r t
placed_all r t c sound all below =
    let first = (sound.processes 0 sound.some).component in
    record {
      processes = below.processes;
      monitors = below.monitors;
      components = below.components ∙ all;
      cells = below.filled (omega (arith, first, all)) ∙ before_past r c (omega (arith, all));
      together = λ d k l from to. below.together d k (omega (arith, l, all)) from to;
    }
