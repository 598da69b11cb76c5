-- The parameters and variables of each routine of a tree that breaks no rule have different names, and each is visible where its statements stand (C2);
-- and where the tree was read, none of them has queues or components.
use Rattle.std.proofs.Common.{◌≡◌, ℕ, zero, suc, Bool, true, false, List, [], ◌∷◌, ◌++◌, length, Option, Some, None, Ok, slice_get, sym, ap, subst, ◌∙◌, append-nil}
use Rattle.cp_resolved.proofs.Words.{SystemKind, ValueType, no_use, ◌>>=◌, faults, Scopes, enter, start, Step, meaning_or_none, reserve_name, reserve_names, part_steps}
use Rattle.cp_resolved.proofs.Words.{faults_of, declarations, IsAccepted, local_variable, seen_inside, parameter_variables, nothing_declared, AreDeclared}
use Rattle.cp_resolved.proofs.Words.{routine_variables, IsRead, initial_meaning, Each, IsFreeVariable, IsFreeParameter}
use Rattle.cp_tree.specs.Syntax.{Group, ParameterGroup, RoutineKind, procedure, function, invariants, Routine, Definition, type_definition, system_definition, SystemDefinition, ProgramPart, program_types, Program, Tree}
use Rattle.cp_check.specs.declared.types.Spot.TheVariants as spot
use Rattle.cp_check.specs.Headings as headings
use Rattle.cp_check.specs.Headings.{after_faults, Headed, parameters_and_result, heading, announce_judged}
use Rattle.cp_check.specs.Routines as routines
use Rattle.cp_check.specs.Routines.{routine_context, routine_step, routine_steps}
use Rattle.cp_check.specs.Statements.{statements}
use Rattle.cp_check.specs.Systems as systems
use Rattle.cp_meaning_laws.proofs.Once.{inside_sound, defined_sound, parts_sound, declarations_sound, no_first as none_first, none_before}
use Rattle.cp_meaning.specs.Scopes as scopes
use Rattle.cp_scope.specs.Scopes.{Names}
use Rattle.cp_resolved.proofs.Words.{AreDifferent, Block}
use Rattle.cp_meaning.specs.Declarations.{Variable, Parameter, parts_in, Heading, RoutineMeaning, with_group, with_groups, with_parameter_groups, heading_of, routine_in}
use Rattle.cp_meaning.specs.Systems.{system_in, Declared, definition_in, program_part_in, declared, program_system, own_meaning}
use Rattle.cp_resolved.specs.Openings.{Opening, with_routine, parts_scope, routine_openings, initial_opening, definition_openings, definitions_openings, part_openings, parts_openings, openings_of, meaning_in, meaning_at}
use Rattle.cp_resolved.proofs.agreeing.Agreeing.{none_left, none_right}
use Rattle.cp_resolved.proofs.agreeing.AgreeingRoutines.{none_after}
use Rattle.cp_resolved.proofs.declarations.OnceRoutines.{IsKnown}
use Rattle.cp_resolved.proofs.declarations.OwnVariables.{AreHeld, held_declared, parts_held, parameters_held}
use Rattle.cp_resolved.proofs.declarations.StillVisible.{stays_same}
use Rattle.cp_resolved.proofs.statements.CalleesKnown.{At, at_number}
use Rattle.cp_resolved.proofs.frames.FrameCells.{each_both}
use Rattle.cp_resolved.proofs.sound.OwnCalls.{announced_names}

-- ---- headings

abbrev AreSeen : Scopes → Heading → Type 0
AreSeen s h = AreHeld local_variable s h.scope (parameter_variables h.parameters)

group_seen_in : (is_var : Bool) (s : Scopes) (h : Heading) (g : Group) → (headings.group_step is_var s g).faults ≡ [] → AreSeen s h → AreSeen (headings.group_step is_var s g).scopes (with_group local_variable is_var h g)
unfolding headings.group_step
group_seen_in is_var s h g none i =
    let j = headings.parameter_type (reserve_names s g.names).scopes g >>= headings.to_parameter is_var in
    parameters_held local_variable is_var s h g (meaning_or_none j) (none_left (reserve_names s g.names).faults (faults j) none) i

groups_seen : (s : Scopes) (h : Heading) (gs : List Group) → (headings.group_steps s gs).faults ≡ [] → AreSeen s h → AreSeen (headings.group_steps s gs).scopes (with_groups local_variable h gs)
unfolding headings.group_steps
groups_seen s h [] none i = i
groups_seen s h (g ∷ gs) none i =
    let t : Scopes = (headings.group_step false s g).scopes in
    groups_seen t (with_group local_variable false h g) gs (none_right (headings.group_step false s g).faults (headings.group_steps t gs).faults none) (group_seen_in false s h g (none_left (headings.group_step false s g).faults (headings.group_steps t gs).faults none) i)

parameters_seen : (s : Scopes) (h : Heading) (gs : List ParameterGroup) → (headings.parameter_steps s gs).faults ≡ [] → AreSeen s h → AreSeen (headings.parameter_steps s gs).scopes (with_parameter_groups h gs)
unfolding headings.parameter_steps
parameters_seen s h [] none i = i
parameters_seen s h (g ∷ gs) none i =
    let t : Scopes = (headings.parameter_step s g).scopes in
    parameters_seen t (with_group local_variable g.is_var h g.group) gs (none_right (headings.parameter_step s g).faults (headings.parameter_steps t gs).faults none)
    (group_seen_in g.is_var s h g.group (none_left (headings.parameter_step s g).faults (headings.parameter_steps t gs).faults none) i)

written_seen : (s : Scopes) (m : scopes.Scope) (k : RoutineKind) → faults (parameters_and_result s k).result ≡ [] → AreSeen (parameters_and_result s k).scopes (heading_of m k)
unfolding headings.parameters_and_result
written_seen s m (procedure gs) none = parameters_seen s (record { parameters = []; scope = m }) gs (none_before {A = Option ValueType} (headings.parameter_steps s gs).faults (Ok None) none) (tt, tt)
written_seen s m (function gs i) none =
    let d : Step = headings.group_steps s gs in
    groups_seen s (record { parameters = []; scope = m }) gs (none_before d.faults (headings.result_type d.scopes i) none) (tt, tt)
written_seen s m invariants none = parameters_seen s (record { parameters = []; scope = m }) [] (none_before {A = Option ValueType} (headings.parameter_steps s []).faults (Ok None) none) (tt, tt)

-- ---- routines

abbrev HasDeclared : RoutineMeaning → Type 0
HasDeclared m = AreDeclared local_variable m.scope (routine_variables m)

routine_declared : (owner : Option SystemKind) (s : Scopes) (m : scopes.Scope) (r : Routine) → (routine_step owner s r).faults ≡ [] → HasDeclared (routine_in (with_routine m r) r)
unfolding routine_step heading routines.enter_routine
routine_declared owner s m r none =
    let d : Step = reserve_name s r.name in
    let w : Headed = parameters_and_result (enter false d.scopes) r.kind in
    let hd : Headed = heading owner r d in
    let a : Scopes = announce_judged r hd.result w.scopes in
    let b : Step = part_steps spot.Other a r.parts in
    let h : Heading = heading_of (with_routine m r) r.kind in
    let qs : List Variable = parameter_variables h.parameters in
    let first : faults hd.result ≡ [] = none_left (faults hd.result) (faults (routines.enter_routine owner r a).uses) none in
    let second : faults (after_faults d.faults w.result) ≡ [] = none_first (after_faults d.faults w.result) (headings.check_heading owner r) first in
    let third : faults w.result ≡ [] = ap faults (sym (none_after d.faults w.result second)) ∙ second in
    let fourth : b.faults ≡ [] = none_before b.faults (statements b.scopes (routine_context owner r) (Ok no_use) r.body.statements) (none_right (faults hd.result) (faults (routines.enter_routine owner r a).uses) none) in
    let before : AreHeld local_variable a h.scope qs =
    subst (λ (ds : Names). AreDifferent qs × Each (λ (v : Variable). (scopes.find v.name h.scope ≡ Some (local_variable v.ty)) × IsKnown v.name ds) qs) (sym (announced_names r hd.result w.scopes)) (written_seen (enter false d.scopes) (with_routine m r) r.kind third) in
    let block : Block = parts_in local_variable (record { variables = []; scope = h.scope }) r.parts in
    held_declared local_variable b.scopes block.scope block.scope (qs ++ block.variables) (stays_same b.scopes block.scope)
    (parts_held local_variable qs spot.Other a (record { variables = []; scope = h.scope }) r.parts fourth (subst (AreHeld local_variable a h.scope) (sym (append-nil qs)) before))

-- ---- the program

abbrev OfOpening : Opening → Type 0
OfOpening o = HasDeclared o.meaning

routines_declared : (owner : Option SystemKind) (n : ℕ) (s : Scopes) (m : scopes.Scope) (rs : List Routine) → (routine_steps owner s rs).faults ≡ [] → Each OfOpening (routine_openings n m rs)
unfolding routine_steps
routines_declared owner n s m [] none = tt
routines_declared owner n s m (r ∷ rs) none =
    let t : Scopes = (routine_step owner s r).scopes in
    (routine_declared owner s m r (none_left (routine_step owner s r).faults (routine_steps owner t rs).faults none), routines_declared owner n t (with_routine m r) rs (none_right (routine_step owner s r).faults (routine_steps owner t rs).faults none))

definition_declared : (s : Scopes) (d : Declared) (v : Definition) → faults (systems.type_of_definition s v).type ≡ [] → Each OfOpening (definition_openings d v)
unfolding systems.inside
definition_declared s d (type_definition t) none = tt
definition_declared s d (system_definition y) none =
    let all : (systems.inside (enter true s) y).faults ≡ [] = inside_sound s y none in
    let a : Step = systems.group_steps y.kind (enter true s) y.parameters in
    let b : Step = part_steps (spot.Permanent (Some y.kind)) a.scopes y.parts in
    let m : scopes.Scope = parts_scope (seen_inside d.scope) y in
    let few : (routine_steps (Some y.kind) b.scopes y.routines).faults ≡ [] = none_right b.faults (routine_steps (Some y.kind) b.scopes y.routines).faults (none_right a.faults (b.faults ++ (routine_steps (Some y.kind) b.scopes y.routines).faults) all) in
    each_both OfOpening (routine_openings (length d.systems) m y.routines) (initial_opening (length d.systems) (system_in (seen_inside d.scope) y) ∷ []) (routines_declared (Some y.kind) (length d.systems) b.scopes m y.routines few) (record { different = tt; visible = tt }, tt)

definitions_declared : (s : Scopes) (d : Declared) (ns : List SystemDefinition) → (systems.definition_steps s ns).faults ≡ [] → Each OfOpening (definitions_openings d ns)
unfolding systems.definition_steps
definitions_declared s d [] none = tt
definitions_declared s d (n ∷ ns) none =
    let t : Scopes = (systems.definition_step s n).scopes in
    each_both OfOpening (definition_openings d n.value) (definitions_openings (definition_in d n n.value) ns) (definition_declared (reserve_name s n.name).scopes d n.value (defined_sound s n (none_left (systems.definition_step s n).faults (systems.definition_steps t ns).faults none)))
    (definitions_declared t (definition_in d n n.value) ns (none_right (systems.definition_step s n).faults (systems.definition_steps t ns).faults none))

part_declared : (s : Scopes) (d : Declared) (q : ProgramPart) → (systems.program_part_step s q).faults ≡ [] → Each OfOpening (part_openings d q)
unfolding systems.program_part_step
part_declared s d (program_types at ns) none = definitions_declared s d ns none
part_declared s d _ none = tt

parts_declared : (s : Scopes) (d : Declared) (qs : List ProgramPart) → (systems.program_part_steps s qs).faults ≡ [] → Each OfOpening (parts_openings d qs)
unfolding systems.program_part_steps
parts_declared s d [] none = tt
parts_declared s d (q ∷ qs) none =
    let t : Scopes = (systems.program_part_step s q).scopes in
    each_both OfOpening (part_openings d q) (parts_openings (program_part_in d q) qs) (part_declared s d q (none_left (systems.program_part_step s q).faults (systems.program_part_steps t qs).faults none))
    (parts_declared t (program_part_in d q) qs (none_right (systems.program_part_step s q).faults (systems.program_part_steps t qs).faults none))

all_declared : (t : Tree) → faults_of t ≡ [] → Each OfOpening (openings_of t.program)
unfolding declarations
all_declared t none =
    let p : Program = t.program in
    let a : Step = systems.program_part_steps start p.parts in
    let k : ℕ = program_system p in
    let rest : (routine_steps None a.scopes p.routines).faults ≡ [] = none_right a.faults (routine_steps None a.scopes p.routines).faults (declarations_sound t none) in
    let last : List Opening = initial_opening k (own_meaning (declared p) p) ∷ [] in
    each_both OfOpening (parts_openings nothing_declared p.parts) (routine_openings k (declared p).scope p.routines ++ last) (parts_declared start nothing_declared p.parts (parts_sound t none))
    (each_both OfOpening (routine_openings k (declared p).scope p.routines) last (routines_declared None k a.scopes (declared p).scope p.routines rest) (record { different = tt; visible = tt }, tt))

-- ---- of each number

-- also of one that is none
pub meaning_holds : (P : RoutineMeaning → Type 0) (other : RoutineMeaning) (os : List Opening) (n : ℕ) → Each (λ (o : Opening). P o.meaning) os → P other → P (meaning_in other (slice_get os n))
meaning_holds P other [] n h g = g
meaning_holds P other (o ∷ os) zero h g = h.0
meaning_holds P other (o ∷ os) (suc n) h g = meaning_holds P other os n h.1 g

pub accepted_locals : (t : Tree) → IsAccepted t → (n : ℕ) → AreDeclared local_variable (meaning_at t.program n).scope (routine_variables (meaning_at t.program n))
accepted_locals t accepted n = meaning_holds HasDeclared (initial_meaning (own_meaning (declared t.program) t.program)) (openings_of t.program) n (all_declared t accepted) (record { different = tt; visible = tt })

-- ---- types

abbrev HasFree : RoutineMeaning → Type 0
HasFree m = Each IsFreeVariable (routine_variables m)

both_free : (qs : List Parameter) (vs : List Variable) → Each IsFreeParameter qs → Each IsFreeVariable vs → Each IsFreeVariable (parameter_variables qs ++ vs)
both_free [] vs h g = g
both_free (q ∷ qs) vs h g = (h.0, both_free qs vs h.1 g)

pub accepted_free : (t : Tree) → IsRead t.program → IsAccepted t → (n : ℕ) → Each IsFreeVariable (routine_variables (meaning_at t.program n))
accepted_free t read accepted n =
    let a : At t n = at_number t read accepted n in
    subst HasFree (sym a.means) (both_free a.opening.meaning.parameters a.opening.meaning.variables a.agreed.parameters a.agreed.variables)
