-- The cell of a queue is told by the monitor that has the queue, and under the name of its place.
use Rattle.std.proofs.Common.{◌≡◌, ◌∙◌, ℕ, ◌+◌, ◌<◌, ◌≤◌, List, [], Option, Some, ap, ap₂, sym, subst, arith, length}
use Rattle.std.proofs.lemmas.List.{length-map}
use Rattle.std.specs.Prelude.{map, unwrap_or}
use Rattle.cp_tree.specs.Syntax.{Tree}
use Rattle.cp_meaning_laws.specs.Accepted.{IsAccepted}
use Rattle.cp_slots.specs.declared.tables.Component.{Component}
use Rattle.cp_slots.specs.declared.tables.ComponentKind.TheVariants as kind
use Rattle.cp_slots.specs.Tables.{Tables, component_at}
use Rattle.cp_store.specs.declared.memory.Address.TheVariants.{Permanent}
use Rattle.cp_machine.specs.Machine.{Machine}
use Rattle.cp_meaning.specs.Components.{components_of}
use Rattle.cp_meaning.specs.State as named_state
use Rattle.cp_meaning.specs.State.{Discipline, Holder, in_component, Place, State}
use Rattle.cp_meaning.specs.Steps.{view_of}
use Rattle.cp_meaning.specs.Systems.{program_system}
use Rattle.cp_meaning.specs.Types.{Ty, queue_type}
use Rattle.cp_legend.specs.Names.{Legend, Named}
use Rattle.cp_legend.specs.Places.{monitor_in, owner, permanent_name_in}
use Rattle.cp_legend_laws.specs.Called.{called_in_legend, tabled}
use Rattle.cp_legend_laws.specs.Paths.{called_in_language}
use Rattle.cp_legend_laws.specs.Statements.{PlacesAreNamed}
use Rattle.cp_legend_laws.proofs.OwnMonitors.{HasOwnNumber, own_number_at}
use Rattle.cp_resolved.specs.Layouts.{look}
use Rattle.cp_resolved.specs.Small.{Each}
use Rattle.cp_resolved.specs.TreeLayouts.{layouts_of}
use Rattle.cp_machine_laws.specs.Law.{Simulates}
use Rattle.cp_machine_laws.specs.Prepared.{Prepared}
use Rattle.cp_machine_laws.specs.Represents.{BeginsAt, InComponent, PlaceAt}
use Rattle.cp_story.specs.Story.{queue_at}
use Rattle.cp_story_laws.specs.MonitorNumbers.{monitor_of}
use Rattle.cp_story_laws.specs.Places.{permanent_variables, place_text, text_held, text_with}
use Rattle.cp_story_laws.proofs.Entered.{number_is}
use Rattle.cp_story_laws.proofs.Paths.{name_at, owner_component, same_component}
use Rattle.cp_story_laws.proofs.StandingsAgree as stand

module _ (t : Tree) (r : Tables) (g : Discipline) (ok : IsAccepted t) (prepared : Prepared t r (layouts_of t)) (l : Legend) (tables : map tabled l.components ≡ r.components) (paths : map called_in_legend l.components ≡ map (called_in_language t.program) (components_of t.program)) (s : State) (m : Machine) (sim : Simulates t r (layouts_of t) g s m)
    -- a queue of component n
    (n cell : ℕ) (x : Place) (holder : x.holder ≡ in_component n) (place : PlaceAt r (layouts_of t) [] x queue_type (Permanent cell)) where
  inside : InComponent r (layouts_of t) n x.name place.whole place.first
  inside = subst (λ (h : Holder). BeginsAt r (layouts_of t) [] h x.name place.whole place.first) holder place.begins

  abbrev k : ℕ
  k = (component_at r n).system

  abbrev c : Named
  c = name_at l.components n

  is : component_at r n ≡ tabled c
  is = same_component t r (layouts_of t) prepared.stands prepared.sound.typed l.components tables paths n cell inside.there

  system : k ≡ c.system
  system = ap (λ (d : Component). d.system) is

  -- ---- its cell

  cell_is : cell ≡ (component_at r n).base + ((layouts_of t).systems k).slots x.name + place.offset
  cell_is = stand.cell_is t r (layouts_of t) g ok prepared l tables paths s m sim n cell x place inside

  owned : owner l.components cell ≡ Some c
  owned =
      let a = cell_is in
      let b = stand.ends t r (layouts_of t) g ok prepared l tables paths s m sim n cell x place inside in
      let d = stand.fits t r (layouts_of t) g ok prepared l tables paths s m sim n cell x place inside in
      owner_component t r (layouts_of t) prepared.stands prepared.sound.typed l.components tables paths n cell inside.there (omega (arith, a)) (omega (arith, a, b, d))

  -- ---- its name

  named_in_legend : PlacesAreNamed t l → (queue_at l cell).name ≡ text_with x.name (Some place.whole) x.choices
  named_in_legend places =
      let base : (component_at r n).base ≡ c.base = ap (λ (d : Component). d.base) is in
      let slot : ((layouts_of t).systems k).slots x.name ≡ ((layouts_of t).systems c.system).slots x.name = ap (λ (j : ℕ). ((layouts_of t).systems j).slots x.name) system in
      let at : cell ≡ c.base + (((layouts_of t).systems c.system).slots x.name + place.offset) = (let a = cell_is in omega (arith, a, base, slot)) in
      let low : c.system ≤ program_system t.program = (let a = prepared.program.below n inside.there in omega (arith, a, system)) in
      ap₂ (λ (o : Option Named) (i : ℕ). permanent_name_in l.constants l.shapes l.permanents o i 1) owned at
      ∙ places.permanents c x.name place.whole x.choices place.offset queue_type low (ap (λ (j : ℕ). look x.name ((layouts_of t).systems j).variables) (sym system) ∙ inside.known) place.chosen

  named_in_language : (q : ℕ) → place_text (view_of t.program s q) x ≡ text_with x.name (Some place.whole) x.choices
  named_in_language q =
      let there : (named_state.component_at s.components n).system ≡ k = (stand.holds t r (layouts_of t) g ok prepared l tables paths s m sim).system n ∙ sym ((prepared.stands.components n inside.there).system) in
      ap (λ (h : Holder). text_held (view_of t.program s q) h x.name x.choices) holder
      ∙ (ap (λ (j : ℕ). text_with x.name (look x.name (permanent_variables t.program j)) x.choices) there ∙ ap (λ (o : Option Ty). text_with x.name o x.choices) inside.known)

  pub name_told : PlacesAreNamed t l → (q : ℕ) → (queue_at l cell).name ≡ place_text (view_of t.program s q) x
  name_told places q = named_in_legend places ∙ sym (named_in_language q)

  -- ---- its monitor

  pub monitor_told : Each HasOwnNumber l.components → (j : ℕ) → (component_at r n).kind ≡ kind.Monitor j → (queue_at l cell).monitor ≡ monitor_of t.program g n
  monitor_told own j e =
      let less : n < length l.components = (let a = length-map l.components tabled in let b = ap (λ (cs : List Component). length cs) tables in let d = inside.there in omega (arith, a, b, d)) in
      let kind_is : c.kind ≡ kind.Monitor j = sym (ap (λ (d : Component). d.kind) is) ∙ e in
      ap (λ (o : Option Named). unwrap_or (monitor_in o) 0) owned
      ∙ (ap (λ (o : Option ℕ). unwrap_or o 0) (own_number_at l.components n _ less own j kind_is) ∙ sym (number_is t r (layouts_of t) prepared.stands n j e g))
