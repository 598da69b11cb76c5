-- The routines of a system type may name all permanent cells of its components.
use Rattle.std.proofs.Common.{◌≡◌, ℕ, List, [], ◌∷◌, ◌++◌, length, Option, Some, slice_get, refl, sym, ap, subst, ◌∙◌, ◌⊎◌, inl, inr}
use Rattle.cp_resolved.proofs.Words.{none-some, RoutineView, routine_begun, initial_begun, parameters_of, parts_begun, system_begun, whole_laid, Bool, true}
use Rattle.cp_tree.specs.Syntax as syntax
use Rattle.cp_layout.specs.Layers.{Layer, Owned, System, nothing_laid, routine_of, with_routine}
use Rattle.cp_layout.specs.LaidDeclarations.{heading, with_heading, open_routine, routine, routines, initial_statement, system, system_of, definition, system_definition, system_definitions, program_part, program_parts, constants, variables, program}
use Rattle.cp_resolved.proofs.laid.Declares.{type_declares, constants_declare, variables_declare}
use Rattle.cp_resolved.proofs.names.Entries.{still_there, last_entry, last_or_before}
use Rattle.cp_resolved.proofs.laid.Grown.{body_grew}
use Rattle.cp_resolved.proofs.components.Handed.{heading_owned, local_parts_owned}
use Rattle.cp_resolved.proofs.names.StepsOfRoutines.{groups_routines, groups_systems, begun_routines, begun_systems}
use Rattle.cp_resolved.specs.ItemsStand.{body_items}

-- of a system type that is whole
pub record OwnsAll (ss : List System) (v : RoutineView) : Type 0 where
  pub system : System
  pub there : slice_get ss v.system ≡ Some system
  pub own : v.own ≡ system.owned.cells

-- no routine of what is laid out, or some
abbrev pub AllOwn : Layer → Type 0
AllOwn l = (n : ℕ) (v : RoutineView) → slice_get l.routines n ≡ Some v → OwnsAll l.systems v

abbrev pub IsCurrent : Layer → RoutineView → Type 0
IsCurrent l v = (v.system ≡ length l.systems) × (v.own ≡ l.owned.cells)

abbrev pub SomeOwn : Layer → Type 0
SomeOwn l = (n : ℕ) (v : RoutineView) → slice_get l.routines n ≡ Some v → OwnsAll l.systems v ⊎ IsCurrent l v

-- one more routine
body_owns : (l b : Layer) (ss : syntax.Statements) (c : Bool) → b.routines ≡ l.routines → b.systems ≡ l.systems → b.owned ≡ l.owned → SomeOwn l → SomeOwn (with_routine (body_items b ss c).1 (body_items b ss c).0)
body_owns l b ss c rs ks os h n v e =
    let y : Option ℕ × Layer = body_items b ss c in
    let g = (body_grew b ss c).1 in
    let routines : y.1.routines ≡ l.routines = ap (λ (j : Layer). j.routines) g ∙ rs in
    let systems : y.1.systems ≡ l.systems = ap (λ (j : Layer). j.systems) g ∙ ks in
    let owned : y.1.owned ≡ l.owned = ap (λ (j : Layer). j.owned) g ∙ os in
    go (last_or_before y.1.routines (routine_of y.1 y.0) n v e) routines systems owned
  where
    go : (slice_get (body_items b ss c).1.routines n ≡ Some v) ⊎ ((n ≡ length (body_items b ss c).1.routines) × (v ≡ routine_of (body_items b ss c).1 (body_items b ss c).0)) → (body_items b ss c).1.routines ≡ l.routines → (body_items b ss c).1.systems ≡ l.systems → (body_items b ss c).1.owned ≡ l.owned →
        OwnsAll (body_items b ss c).1.systems v ⊎ ((v.system ≡ length (body_items b ss c).1.systems) × (v.own ≡ (body_items b ss c).1.owned.cells))
    go (inr f) routines systems owned = inr (ap (λ (w : RoutineView). w.system) f.1, ap (λ (w : RoutineView). w.own) f.1)
    go (inl f) routines systems owned =
        subst (λ zs. OwnsAll zs v ⊎ ((v.system ≡ length zs) × (v.own ≡ (body_items b ss c).1.owned.cells))) (sym systems)
        (subst (λ (o : Owned). OwnsAll l.systems v ⊎ ((v.system ≡ length l.systems) × (v.own ≡ o.cells))) (sym owned) (h n v (ap (λ us. slice_get us n) (sym routines) ∙ f)))

some_same : (l m : Layer) → m.routines ≡ l.routines → m.systems ≡ l.systems → AllOwn l → SomeOwn m
some_same l m rs ks h n v e = inl (subst (λ ss. OwnsAll ss v) (sym ks) (h n v (ap (λ us. slice_get us n) (sym rs) ∙ e)))

all_same : (l m : Layer) → m.routines ≡ l.routines → m.systems ≡ l.systems → AllOwn l → AllOwn m
all_same l m rs ks h n v e = subst (λ ss. OwnsAll ss v) (sym ks) (h n v (ap (λ us. slice_get us n) (sym rs) ∙ e))

pub begun_owned : (l : Layer) (r : syntax.Routine) → (routine_begun l r).owned ≡ l.owned
begun_owned l r =
    let x : Layer = (open_routine l r.name.name).1 in
    let y = heading x r.name.name r.kind in
    local_parts_owned (with_heading y.1 y.0) r.parts ∙ heading_owned x r.name.name r.kind

routines_own : (l : Layer) (rs : List syntax.Routine) → SomeOwn l → SomeOwn (routines l rs)
unfolding routines
routines_own l [] h = h
routines_own l (r ∷ rs) h = routines_own (routine l r) rs (body_owns l (routine_begun l r) r.body.statements r.is_entry (begun_routines l r) (begun_systems l r) (begun_owned l r) h)

-- a system type that is whole
left_owns : (m : Layer) (s : System) (v : RoutineView) → s.owned ≡ m.owned → OwnsAll m.systems v ⊎ IsCurrent m v → OwnsAll (m.systems ++ s ∷ []) v
left_owns m s v e (inl i) = record { system = i.system; there = still_there m.systems (s ∷ []) v.system i.system i.there; own = i.own }
left_owns m s v e (inr i) = record { system = s; there = ap (λ k. slice_get (m.systems ++ s ∷ []) k) i.0 ∙ last_entry m.systems s; own = i.1 ∙ sym (ap (λ (o : Owned). o.cells) e) }

definition_owns : (l : Layer) (d : syntax.Definition) → AllOwn l → AllOwn (definition l d).1
unfolding system
definition_owns l (syntax.type_definition t) h = all_same l (definition l (syntax.type_definition t)).1 (ap (λ (j : Layer). j.routines) (type_declares l t).same) (ap (λ (j : Layer). j.systems) (type_declares l t).same) h
definition_owns l (syntax.system_definition s) h =
    let z : Layer = parts_begun l s in
    let b : Layer = system_begun l s in
    let m : Layer = initial_statement b (parameters_of l s) s.body in
    let inner : SomeOwn b = routines_own z s.routines (some_same l z (groups_routines l s) (groups_systems l s) h) in
    let all : SomeOwn m = body_owns b (initial_begun b (parameters_of l s)) s.body.statements true refl refl refl inner in
    λ n v e. left_owns m (system_of s.kind m.owned (length l.routines) (length b.routines)) v refl (all n v e)

definitions_own : (l : Layer) (ds : List syntax.SystemDefinition) → AllOwn l → AllOwn (system_definitions l ds)
unfolding system_definitions
definitions_own l [] h = h
definitions_own l (d ∷ ds) h = definitions_own (system_definition l d) ds (definition_owns l d.value h)

part_owns : (l : Layer) (p : syntax.ProgramPart) → AllOwn l → AllOwn (program_part l p)
part_owns l (syntax.program_constants at ds) h = all_same l (constants l ds) (ap (λ (j : Layer). j.routines) (constants_declare l ds).same) (ap (λ (j : Layer). j.systems) (constants_declare l ds).same) h
part_owns l (syntax.program_types at ds) h = definitions_own l ds h
part_owns l (syntax.program_variables at gs) h = all_same l (variables l gs) (ap (λ (j : Layer). j.routines) (variables_declare l gs).same) (ap (λ (j : Layer). j.systems) (variables_declare l gs).same) h

parts_own : (l : Layer) (ps : List syntax.ProgramPart) → AllOwn l → AllOwn (program_parts l ps)
unfolding program_parts
parts_own l [] h = h
parts_own l (p ∷ ps) h = parts_own (program_part l p) ps (part_owns l p h)

pub program_owns : (t : syntax.Tree) → SomeOwn (whole_laid t)
unfolding program
program_owns t =
    let l : Layer = nothing_laid t.lines in
    let m : Layer = program_parts l t.program.parts in
    let b : Layer = routines m t.program.routines in
    let none : AllOwn l = λ n v e. absurd (none-some v e) in
    body_owns b (initial_begun b []) t.program.body.statements true refl refl refl (routines_own m t.program.routines (some_same m m refl refl (parts_own l t.program.parts none)))
