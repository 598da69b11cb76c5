-- Where a run stops, the cells that the legend has for the variables of each component have the values of the meaning.
use Rattle.std.proofs.Common.{inl, inr, ◌≡◌, ◌∙◌, ℕ, zero, suc, ◌+◌, ◌<◌, ◌≤◌, false, List, [], ◌∷◌, Some, slice_get, map, ap, sym, refl, arith, length}
use Rattle.std.proofs.lemmas.List.{length-map}
use Rattle.std.proofs.lemmas.Option.{none-some, same_Some, slice_get_within}
use Rattle.std.specs.Prelude.{pos, slice_index_or}
use Rattle.cp_tree.specs.Read.{IsRead}
use Rattle.cp_tree.specs.Syntax.{Tree}
use Rattle.cp_layout.specs.Laid.{plain, laid}
use Rattle.cp_slots.specs.declared.tables.Component.{Component}
use Rattle.cp_slots.specs.Tables.{Tables, component_at, no_component}
use Rattle.cp_symbols.specs.Kinds.{most}
use Rattle.cp_meaning_laws.specs.Accepted.{IsAccepted}
use Rattle.cp_legend.specs.Names as legend
use Rattle.cp_legend.specs.Names.{Legend, Named, legend_seen}
use Rattle.cp_legend.specs.Places.{variables_at}
use Rattle.cp_legend_laws.specs.Called.{tabled}
use Rattle.cp_legend_laws.specs.Statements.{AreVariables, IsVariable, PermanentsAre}
use Rattle.cp_legend_laws.proofs.PathsOfTree.{legend_law}
use Rattle.cp_legend_laws.proofs.PermanentsNamed.{permanents_law}
use Rattle.cp_machine.specs.declared.discipline.Discipline as slot_gates
use Rattle.cp_machine.specs.Machine.{Machine}
use Rattle.cp_meaning.specs.Declarations.{Variable}
use Rattle.cp_meaning.specs.Names.{Name}
use Rattle.cp_meaning.specs.Places.{content_of, value_held}
use Rattle.cp_meaning.specs.State as meaning
use Rattle.cp_meaning.specs.State.{State}
use Rattle.cp_meaning.specs.Systems.{program_system, system_of}
use Rattle.cp_meaning.specs.Types.{Ty}
use Rattle.cp_meaning.specs.Values.{Value}
use Rattle.cp_resolved.specs.Encoded.{encode}
use Rattle.cp_resolved.specs.Framed.{system_variables}
use Rattle.cp_resolved.specs.Layouts.{look}
use Rattle.cp_resolved.specs.Small.{Each}
use Rattle.cp_resolved.specs.TreeLayouts.{layouts_of}
use Rattle.cp_resolved.proofs.agreeing.ScopeVariables.{Among, among_all}
use Rattle.cp_resolved.proofs.components.ListedSystems.{systems_within}
use Rattle.cp_resolved.proofs.counts.FewComponents.{accepted_few}
use Rattle.cp_resolved.proofs.declarations.SystemVariables.{accepted_permanents}
use Rattle.cp_resolved.proofs.systems.SystemKnown.{found_among}
use Rattle.cp_machine_laws.specs.Law.{ground_of}
use Rattle.cp_machine_laws.specs.Named.{named, named_discipline}
use Rattle.cp_machine_laws.specs.Represents.{ComponentIs, LiesAt, all_permanents}
use Rattle.cp_machine_laws.proofs.expressions.Parts.{encode_length}
use Rattle.cp_run.specs.Slots.{slots}
use Rattle.cp_run.specs.Stop.{last_state}
use Rattle.cp_store.specs.declared.memory.Address.TheVariants.{Permanent}
use Rattle.cp_story.specs.Changes.{place}
use Rattle.cp_story_laws.specs.Statements.{ValuesLaw}
use Rattle.cp_story_laws.specs.Variables.{HasValue, HaveValues}
use Rattle.cp_story_laws.proofs.StopsTogether.{stop_related}
use Rattle.cp_story_laws.proofs.Together as together

-- ---- lists

tabled_at : (cs : List Named) (n : ℕ) (c : Named) → slice_get cs n ≡ Some c → slice_index_or (map tabled cs) n no_component ≡ tabled c
tabled_at [] n c e = absurd (none-some c e)
tabled_at (d ∷ cs) zero c e = ap tabled (same_Some d c e)
tabled_at (d ∷ cs) (suc n) c e = tabled_at cs n c e

-- each of a list is looked up as what it is
looked : (held vs : List Variable) → ((x : Name) (u : Ty) → Among x u vs → look x held ≡ Some u) → Each (λ (v : Variable). look v.name held ≡ Some v.ty) vs
looked held [] h = tt
looked held (v ∷ vs) h = (h v.name v.ty (inl (refl, refl)), looked held vs (λ x u i. h x u (inr i)))

module _ (t : Tree) (r : Tables) (g : slot_gates.Discipline) (l : Legend) (read : IsRead t.program) (ok : IsAccepted t) (same : plain r ≡ laid t) (tables : map tabled l.components ≡ r.components) (permanents : PermanentsAre t l) where
  module _ (s : State) (m : Machine) (sim : together.Related t r g read ok same s m) (n : ℕ) (c : Named) (e : slice_get l.components n ≡ Some c) where
    is : component_at r n ≡ tabled c
    is = ap (λ (cs : List Component). slice_index_or cs n no_component) (sym tables) ∙ tabled_at l.components n c e

    there : n < length r.components
    there = let a = slice_get_within l.components n c e in let b = length-map l.components tabled in let d = ap (λ (cs : List Component). length cs) tables in omega (arith, a, b, d)

    system : (component_at r n).system ≡ c.system
    system = ap (λ (d : Component). d.system) is

    base : (component_at r n).base ≡ c.base
    base = ap (λ (d : Component). d.base) is

    holds : ComponentIs (ground_of t r) t.program (layouts_of t) s m n
    holds = sim.represents.components n (let a = sim.represents.component_count in omega (arith, a, there))

    abbrev held : List Variable
    held = ((layouts_of t).systems c.system).variables

    few : length m.permanents < most
    few = let a = sim.fits.permanents in let b = (accepted_few t r same read ok).permanents in omega (arith, a, b)

    looks : Each (λ (v : Variable). look v.name held ≡ Some v.ty) held
    looks = looked held held (λ x u h. found_among x u held (system_variables (system_of t.program c.system)) (accepted_permanents t ok c.system).different (λ w i. (among_all false x w (system_variables (system_of t.program c.system)) i).0) h)

    abbrev value : Name → Value
    value x = value_held (content_of x (meaning.component_at s.components n).environment)

    one : (v : Variable) (w : legend.Variable) → look v.name held ≡ Some v.ty → IsVariable t l.shapes c.system v w → HasValue s m n c v w
    one v w found told =
        let lies : LiesAt (all_permanents m) v.ty (value v.name) (Permanent ((component_at r n).base + ((layouts_of t).systems (component_at r n).system).slots v.name)) =
        holds.variables v.name v.ty (ap (λ (k : ℕ). look v.name ((layouts_of t).systems k).variables) system ∙ found) in
        let many : length (encode (value v.name)) ≡ _ = encode_length v.ty (value v.name) lies.typed in
        let slot : ((layouts_of t).systems (component_at r n).system).slots v.name ≡ w.slot = ap (λ (k : ℕ). ((layouts_of t).systems k).slots v.name) system ∙ sym told.slot in
        let cells = lies.cells in
        let at : (component_at r n).base + ((layouts_of t).systems (component_at r n).system).slots v.name ≡ place c w = (let a = base in let b = few in omega (arith, a, b, slot, cells)) in
        record {
          name = told.name;
          value = record {
            inside = omega (arith, many, cells, at);
            same = λ k lt. ap (λ (i : ℕ). slice_index_or m.permanents (i + k) (pos 0)) (sym at) ∙ lies.block k lt;
          };
        }

    each : (vs : List Variable) (ws : List legend.Variable) → Each (λ (v : Variable). look v.name held ≡ Some v.ty) vs → AreVariables t l.shapes c.system vs ws → HaveValues s m n c vs ws
    each [] [] f h = tt
    each (v ∷ vs) (w ∷ ws) f h = (one v w f.0 h.0, each vs ws f.1 h.1)
    each [] (w ∷ ws) f h = absurd h
    each (v ∷ vs) [] f h = absurd h

    pub values_here : HaveValues s m n c held (variables_at l.permanents c.system)
    values_here =
        let stands = (together.prepared t r g read ok same).stands in
        let low : (component_at r n).system ≤ program_system t.program = systems_within t r stands n there in
        each held (variables_at l.permanents c.system) looks (permanents c.system (let a = system in omega (arith, a, low)))

pub values_law : ValuesLaw
values_law t y r l g read ok symbols same legend choices steps word n c e =
    let w = legend_law t y r l read ok symbols same legend in
    let s = last_state (named t (named_discipline g)) choices steps word in
    let m = last_state (slots r g) choices steps word in
    values_here t r g (legend_seen l) read ok same w.tables (permanents_law t y r l read ok symbols same legend) s m (stop_related t r g read ok same choices steps word) n c e
