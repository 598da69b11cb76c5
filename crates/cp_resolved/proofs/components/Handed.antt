-- Nothing is handed over to the program: it has no parameters, and the first process is its own.
use Rattle.cp_resolved.proofs.Words.{◌≡◌, ℕ, ℤ, List, [], ◌∷◌, length, Option, Some, None, slice_get, refl, ap, ◌∙◌, Identifier, Bool, true}
use Rattle.cp_resolved.proofs.Words.{SystemKind, Component, ComponentParameter, CellType, Contained, Layer, Owned, System, nothing_laid, Compounds}
use Rattle.cp_resolved.proofs.Words.{written_type}
use Rattle.cp_tree.specs.declared.declaration.SystemKind.TheVariants as system_kind
use Rattle.cp_tree.specs.Syntax as syntax
use Rattle.cp_tree.specs.Syntax.{ConstantDefinition, TypeDefinition, VariableGroup, Part, RoutineKind, TypeTerm, Body, Routine, Definition, SystemDefinition, ProgramPart, Program}
use Rattle.cp_layout.specs.LaidComponents.{Listing, empty_listing, contents_least, process_at, next_kind, component_with, with_component, components_of_program}
use Rattle.cp_layout.specs.LaidDeclarations.{constants, type_definitions, components_of, variable_with, variable, variables_of, variable_group, variables, local_parts, heading, body, open_routine, with_heading, with_new_frame, heading_with, routine, routines, system, definition, system_definition, system_definitions, program_part, program_parts, program}
use Rattle.cp_resolved.proofs.names.Entries.{still_there}
use Rattle.cp_resolved.proofs.laid.Declaring.{TypeSteps, FrameSteps, plain_types, type_leads, constants_lead, definitions_lead, local_parts_lead, heading_leads}
use Rattle.cp_resolved.proofs.laid.Grown.{body_grew}
use Rattle.cp_resolved.proofs.components.Listing.{program_keeps}

-- ---- what types and routines leave of the permanent cells

owned_types : TypeSteps (λ l m. m.owned ≡ l.owned) (λ l. Unit {0}) (λ l t. Unit {0}) (λ l r. Unit {0})
owned_types = plain_types (λ l m. m.owned ≡ l.owned) (λ l. refl) (λ l k m h i. i ∙ h) (λ l x b z. refl) (λ l r t. refl) (λ l r. refl) (λ l x b z. refl) (λ l x t. refl)

owned_frames : FrameSteps (λ l m. m.owned ≡ l.owned) (λ l. Unit {0})
owned_frames = record { local_cells = λ l x t n. refl; reference = λ l ps x t n. refl; result = λ l t n. refl }

pub written_owned : (l : Layer) (t : TypeTerm) → (written_type l t).1.owned ≡ l.owned
written_owned l t = (type_leads owned_types l t tt).0

pub constants_owned : (l : Layer) (ds : List ConstantDefinition) → (constants l ds).owned ≡ l.owned
constants_owned l ds = constants_lead owned_types l ds tt

pub definitions_owned : (l : Layer) (ds : List TypeDefinition) → (type_definitions l ds).owned ≡ l.owned
definitions_owned l ds = definitions_lead owned_types l ds tt

pub local_parts_owned : (l : Layer) (ps : List Part) → (local_parts l ps).owned ≡ l.owned
local_parts_owned l ps = local_parts_lead owned_types owned_frames l ps tt

pub heading_owned : (l : Layer) (x : List ℕ) (k : RoutineKind) → (heading l x k).1.owned ≡ l.owned
heading_owned l x k = heading_leads owned_types owned_frames l x k tt

pub body_owned : (l : Layer) (b : Body) (c : Bool) → (body l b c).owned ≡ l.owned
body_owned l b c = ap (λ (j : Layer). j.owned) (body_grew l b.statements c).1

pub routine_owned : (l : Layer) (r : Routine) → (routine l r).owned ≡ l.owned
routine_owned l r =
    let x = open_routine l r.name.name in
    let h = heading x.1 r.name.name r.kind in
    let m : Layer = with_heading h.1 h.0 in
    body_owned (local_parts m r.parts) r.body r.is_entry ∙ local_parts_owned m r.parts ∙ heading_owned x.1 r.name.name r.kind

pub routines_owned : (l : Layer) (rs : List Routine) → (routines l rs).owned ≡ l.owned
unfolding routines
routines_owned l [] = refl
routines_owned l (r ∷ rs) = routines_owned (routine l r) rs ∙ routine_owned l r

-- ---- the program has no parameters

abbrev pub handed : Layer → List ComponentParameter
handed l = l.owned.parameters

variable_handed : (l : Layer) (x : List ℕ) (t : CellType) (o : Option Contained) → handed (variable_with l x t o) ≡ handed l
variable_handed l x t None = refl
variable_handed l x t (Some c) = refl

variables_of_handed : (l : Layer) (t : CellType) (is : List Identifier) → handed (variables_of l t is) ≡ handed l
unfolding variables_of
variables_of_handed l t [] = refl
variables_of_handed l t (i ∷ is) = variables_of_handed (variable l i.name t) t is ∙ variable_handed l i.name t (components_of l.types t)

pub variables_handed : (l : Layer) (gs : List VariableGroup) → handed (variables l gs) ≡ handed l
unfolding variables
variables_handed l [] = refl
variables_handed l (g ∷ gs) =
    variables_handed (variable_group l g) gs ∙ variables_of_handed (written_type l g.variable_type).1 (written_type l g.variable_type).0 g.names ∙ ap (λ (o : Owned). o.parameters) (written_owned l g.variable_type)

definition_handed : (l : Layer) (d : Definition) → handed (definition l d).1 ≡ handed l
unfolding system
definition_handed l (syntax.type_definition t) = ap (λ (o : Owned). o.parameters) (written_owned l t)
definition_handed l (syntax.system_definition s) = refl

system_definitions_handed : (l : Layer) (ds : List SystemDefinition) → handed (system_definitions l ds) ≡ handed l
unfolding system_definitions
system_definitions_handed l [] = refl
system_definitions_handed l (d ∷ ds) = system_definitions_handed (system_definition l d) ds ∙ definition_handed l d.value

part_handed : (l : Layer) (p : ProgramPart) → handed (program_part l p) ≡ handed l
part_handed l (syntax.program_constants at ds) = ap (λ (o : Owned). o.parameters) (constants_owned l ds)
part_handed l (syntax.program_types at ds) = system_definitions_handed l ds
part_handed l (syntax.program_variables at gs) = variables_handed l gs

parts_handed : (l : Layer) (ps : List ProgramPart) → handed (program_parts l ps) ≡ handed l
unfolding program_parts
parts_handed l [] = refl
parts_handed l (p ∷ ps) = parts_handed (program_part l p) ps ∙ part_handed l p

pub program_handed : (lines : List ℕ) (p : Program) → handed (program (nothing_laid lines) p) ≡ []
unfolding program
program_handed lines p =
    let l : Layer = nothing_laid lines in
    let k : Layer = program_parts l p.parts in
    let m : Layer = routines k p.routines in
    let b : Layer = with_heading (with_new_frame m) (heading_with [] [] None) in
    ap (λ (o : Owned). o.parameters) (body_owned b p.body true) ∙ ap (λ (o : Owned). o.parameters) (routines_owned k p.routines) ∙ parts_handed l p.parts

-- ---- the first process is that of the program

pub record First (initial system : ℕ) (c : Listing) : Type 0 where
  pub process : slice_get c.processes 0 ≡ Some (process_at 0 initial)
  pub component : Component
  pub there : slice_get c.components 0 ≡ Some component
  pub is : component.system ≡ system

first_step : (initial system : ℕ) (k : SystemKind) (c : Listing) (n : ℕ) (image : List ℤ) (s : ℕ) → First initial system c → First initial system (with_component (next_kind c k n).1 (next_kind c k n).0 image s)
first_step initial system system_kind.Process c n image s h = record { process = still_there c.processes _ 0 (process_at 0 initial) h.process; component = h.component; there = still_there c.components _ 0 h.component h.there; is = h.is }
first_step initial system _ c n image s h = record { process = h.process; component = h.component; there = still_there c.components _ 0 h.component h.there; is = h.is }

pub program_first : (ts : Compounds) (ss : List System) (o : Owned) (initial : ℕ) → First initial (length ss) (components_of_program ts ss o initial)
program_first ts ss o initial =
    program_keeps (First initial (length ss)) ts ss (λ k s e c h. first_step initial (length ss) s.kind c s.initial (contents_least ts s.owned.contents) k h) o initial
    (record { process = refl; component = component_with (next_kind empty_listing system_kind.Process initial).0 0 (length ss); there = refl; is = refl })
