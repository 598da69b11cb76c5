-- The legend calls the monitor of each number as the language does.
use Rattle.std.proofs.Common.{◌≡◌, ◌∙◌, ℕ, ◌+◌, ◌<◌, List, ap, sym, refl, arith, length}
use Rattle.std.specs.Prelude.{map, slice_index_or}
use Rattle.cp_tree.specs.declared.declaration.SystemKind.{SystemKind}
use Rattle.cp_tree.specs.declared.declaration.SystemKind.TheVariants as system_kind
use Rattle.cp_tree.specs.Read.{IsRead}
use Rattle.cp_tree.specs.Syntax.{Tree}
use Rattle.cp_layout.specs.Laid.{plain, laid}
use Rattle.cp_slots.specs.declared.tables.ComponentKind.{ComponentKind}
use Rattle.cp_slots.specs.declared.tables.ComponentKind.TheVariants as kind
use Rattle.cp_slots.specs.Tables.{Tables, component_at}
use Rattle.cp_meaning_laws.specs.Accepted.{IsAccepted}
use Rattle.cp_machine.specs.declared.discipline.Discipline as slot_gates
use Rattle.cp_meaning.specs.Components.{components_of}
use Rattle.cp_meaning.specs.Readings.{monitors_of, monitors_from}
use Rattle.cp_meaning.specs.State as named
use Rattle.cp_meaning.specs.State.{Component, book_discipline}
use Rattle.cp_meaning.specs.Steps.{first_components, opening}
use Rattle.cp_legend.specs.Names.{Legend, legend_seen}
use Rattle.cp_legend_laws.specs.Called.{called_in_legend, tabled}
use Rattle.cp_legend_laws.specs.Paths.{called_in_language, path_text}
use Rattle.cp_legend_laws.proofs.PathsOfTree.{legend_law}
use Rattle.cp_resolved.specs.Layouts.{Layouts}
use Rattle.cp_resolved.specs.Resolved.{KindIs, Stands}
use Rattle.cp_resolved.specs.TreeLayouts.{layouts_of}
use Rattle.cp_machine_laws.specs.Law.{ground_of}
use Rattle.cp_machine_laws.specs.Named.{named_discipline}
use Rattle.cp_machine_laws.proofs.ReachedKinds.{monitor_known}
use Rattle.cp_machine_laws.proofs.gates.MonitorNumbers.{IsAMonitor, is_a_monitor, one_number}
use Rattle.cp_story_laws.specs.Statements.{MonitorsAre, MonitorsLaw}
use Rattle.cp_story_laws.proofs.Paths.{monitor_path}
use Rattle.cp_story_laws.proofs.Together.{prepared}

module _ (t : Tree) (r : Tables) (l : Layouts) (stands : Stands (ground_of t r) t l) (n : ℕ) (less : n < length (monitors_of (opening t.program book_discipline))) where
  abbrev pub cs : List Component
  cs = first_components t.program

  pub at : IsAMonitor cs 0 n (length cs)
  at = is_a_monitor cs 0 n (length cs) less

  there : at.place < length r.components
  there = let a = at.there in let b = stands.count in omega (arith, a, b)

  numbered : (a : SystemKind) (c : ComponentKind) → KindIs r t.program at.place a c → a ≡ system_kind.Monitor → (j : ℕ) × (c ≡ kind.Monitor j) × (slice_index_or (monitors_from 0 cs) j (length r.components) ≡ at.place)
  numbered system_kind.Monitor (kind.Monitor j) h e = (j, refl, h)
  numbered system_kind.Monitor c h e = absurd h
  numbered a c h e = absurd (cc)

  pub monitor_in_tables : (component_at r at.place).kind ≡ kind.Monitor n
  monitor_in_tables =
      let found = numbered (named.component_at cs at.place).kind (component_at r at.place).kind (stands.components at.place there).kind at.kind in
      let small : found.0 < length (monitors_from 0 cs) = (let a = monitor_known t r l stands at.place found.0 found.1 in let b = stands.monitor_count in omega (arith, a, b)) in
      let here : slice_index_or (monitors_from 0 cs) found.0 (length cs) ≡ at.place = ap (slice_index_or (monitors_from 0 cs) found.0) (sym stands.count) ∙ found.2 in
      let place : slice_index_or (monitors_from 0 cs) n (length cs) ≡ at.place = at.is ∙ (let z : 0 + at.place ≡ at.place = omega arith in z) in
      found.1 ∙ ap kind.Monitor (one_number cs 0 found.0 n (length cs) small less (here ∙ sym place))

pub monitors_are : (t : Tree) (r : Tables) (g : slot_gates.Discipline) (l : Legend) → IsRead t.program → IsAccepted t → plain r ≡ laid t → map tabled l.components ≡ r.components → map called_in_legend l.components ≡ map (called_in_language t.program) (components_of t.program) → MonitorsAre t l (named_discipline g)
monitors_are t r g l read ok same tables paths n less =
    let tables_are = prepared t r g read ok same in
    let w = at t r (layouts_of t) tables_are.stands n less in
    let number : slice_index_or (monitors_from 0 (first_components t.program)) n (length (first_components t.program)) ≡ w.place = w.is ∙ (let z : 0 + w.place ≡ w.place = omega arith in z) in
    monitor_path t r (layouts_of t) tables_are.stands tables_are.sound.typed l.components tables paths w.place n (monitor_in_tables t r (layouts_of t) tables_are.stands n less)
    ∙ ap (λ (i : ℕ). path_text t.program (named.component_at (first_components t.program) i).path) (sym number)

pub monitors_law : MonitorsLaw
monitors_law t y r l g read ok symbols same legend =
    let w = legend_law t y r l read ok symbols same legend in
    monitors_are t r g (legend_seen l) read ok same w.tables w.paths
