-- In a tree that was read and breaks no rule, parameters have names of their own, and no parameter of a routine is a component.
use Rattle.cp_resolved.proofs.Words.{◌≡◌, ℕ, false, true, List, [], ◌∷◌, ◌++◌, Option, Some, None, Ok, Err, Identifier, SystemKind}
use Rattle.cp_resolved.proofs.Words.{ValueType, Meaning, Judged, faults, Scopes, settle, enter, add_around, keep, start, Spot, reserve_name, reserve_names}
use Rattle.cp_resolved.proofs.Words.{add_all, part_steps, declarations, routine_step, routine_steps, Name, same_name, Ty, component_of, names_of, Parameter}
use Rattle.cp_resolved.proofs.Words.{Each, is_free}
use Rattle.cp_resolved.proofs.Words.{IsFreeParameter, no_left, no_right, no_first, none_before, inside_sound, defined_sound, declarations_sound, parts_sound}
use Rattle.cp_tree.specs.Syntax.{Group, ParameterGroup, RoutineKind, procedure, function, invariants, Routine, System, Definition, type_definition, system_definition, SystemDefinition, Part, ProgramPart, program_types, Program}
use Rattle.cp_check.specs.declared.types.Spot.TheVariants as spot
use Rattle.cp_check.specs.Headings as headings
use Rattle.cp_check.specs.Headings.{Headed, after_faults, parameters_and_result, check_heading, heading, announce, announce_judged}
use Rattle.cp_check.specs.Routines as routines
use Rattle.cp_check.specs.Systems as systems
use Rattle.cp_meaning_laws.proofs.Kept.{Keeps, same, after, names_reserved, all_added}
use Rattle.cp_meaning_laws.proofs.Told.{none_after}
use Rattle.cp_resolved.specs.BodiesFormed.{DistinctLaw}
use Rattle.cp_resolved.specs.Distinct.{IsOther, AreDistinct, all_names, part_names, kind_names, parameter_names, AreApart, IsDistinctRoutine, IsDistinctSystem, IsDistinctDefinition, IsDistinctPart, IsNoComponent, AreValues}
use Rattle.cp_resolved.proofs.declarations.OnceRoutines.{IsKnown}
use Rattle.cp_resolved.proofs.declarations.OtherNames.{names_known, stays_known, names_other, together_distinct, parts_other}
use Rattle.cp_resolved.proofs.Words.{Tree, IsRead, IsAccepted, RoutineMeaning, meaning_at, sym, subst}
use Rattle.cp_resolved.proofs.statements.CalleesKnown.{At, at_number}
use Rattle.cp_resolved.proofs.frames.FrameCells.{each_both}

-- ---- names that are declared between two scopes

abbrev AllKnown : List Name → Scopes → Type 0
AllKnown xs s = Each (λ x. IsKnown x s.inner.names) xs

all_stay : (s t : Scopes) → Keeps s t → (xs : List Name) → AllKnown xs s → AllKnown xs t
all_stay s t k [] h = tt
all_stay s t k (x ∷ xs) h = (stays_known x s t k h.0, all_stay s t k xs h.1)

-- they are different, they are none of those before, and they are known after
record Declares (s t : Scopes) (xs : List Name) : Type 0 where
  pub distinct : AreDistinct xs
  pub others : (x : Name) → IsKnown x s.inner.names → IsOther x xs
  pub known : AllKnown xs t
  pub keeps : Keeps s t

no_names_declared : (s : Scopes) → Declares s s []
no_names_declared s = record { distinct = tt; others = λ x h. tt; known = tt; keeps = same s }

distinct_both : (xs ys : List Name) → AreDistinct xs → AreDistinct ys → Each (λ x. IsOther x ys) xs → AreDistinct (xs ++ ys)
distinct_both [] ys h g apart = g
distinct_both (x ∷ xs) ys h g apart = (each_both (λ (y : Name). same_name x y ≡ false) xs ys h.0 apart.0, distinct_both xs ys h.1 g apart.1)

each_other : (t : Scopes) (xs ys : List Name) → ((x : Name) → IsKnown x t.inner.names → IsOther x ys) → AllKnown xs t → Each (λ x. IsOther x ys) xs
each_other t [] ys f h = tt
each_other t (x ∷ xs) ys f h = (f x h.0, each_other t xs ys f h.1)

then_declares : (s t u : Scopes) (xs ys : List Name) → Declares s t xs → Declares t u ys → Declares s u (xs ++ ys)
then_declares s t u xs ys a b =
    record {
      distinct = distinct_both xs ys a.distinct b.distinct (each_other t xs ys b.others a.known);
      others = λ x h. each_both (λ (y : Name). same_name x y ≡ false) xs ys (a.others x h) (b.others x (stays_known x s t a.keeps h));
      known = each_both (λ (x : Name). IsKnown x u.inner.names) xs ys (all_stay t u b.keeps xs a.known) b.known;
      keeps = after s t u a.keeps b.keeps;
    }

-- names of one group
group_declares : (s : Scopes) (ns : List Identifier) (m : Option Meaning) → (reserve_names s ns).faults ≡ [] → Declares s (add_all (reserve_names s ns).scopes ns m) (names_of ns)
unfolding add_all settle
group_declares s ns m h =
    record {
      distinct = together_distinct s ns h;
      others = λ x k. names_other x s ns h k;
      known = names_known (reserve_names s ns).scopes ns m;
      keeps = after s (reserve_names s ns).scopes _ (names_reserved s ns) (all_added (reserve_names s ns).scopes ns m);
    }

-- ---- parameters

function_declares : (s : Scopes) (gs : List Group) → (headings.group_steps s gs).faults ≡ [] → Declares s (headings.group_steps s gs).scopes (all_names (λ (g : Group). names_of g.names) gs)
unfolding headings.group_steps headings.group_step
function_declares s [] h = no_names_declared s
function_declares s (g ∷ gs) h =
    let d = headings.group_step false s g in
    then_declares s d.scopes (headings.group_steps d.scopes gs).scopes (names_of g.names) _ (group_declares s g.names _ (no_left (reserve_names s g.names).faults _ (no_left d.faults _ h))) (function_declares d.scopes gs (no_right d.faults _ h))

procedure_declares : (s : Scopes) (gs : List ParameterGroup) → (headings.parameter_steps s gs).faults ≡ [] → Declares s (headings.parameter_steps s gs).scopes (all_names (λ (g : ParameterGroup). names_of g.group.names) gs)
unfolding headings.parameter_steps headings.group_step
procedure_declares s [] h = no_names_declared s
procedure_declares s (g ∷ gs) h =
    let d = headings.group_step g.is_var s g.group in
    then_declares s d.scopes (headings.parameter_steps d.scopes gs).scopes (names_of g.group.names) _ (group_declares s g.group.names _ (no_left (reserve_names s g.group.names).faults _ (no_left d.faults _ h))) (procedure_declares d.scopes gs (no_right d.faults _ h))

kind_declares : (s : Scopes) (k : RoutineKind) → faults (parameters_and_result s k).result ≡ [] → Declares s (parameters_and_result s k).scopes (kind_names k)
unfolding parameters_and_result
kind_declares s (procedure gs) h = procedure_declares s gs (none_before (headings.parameter_steps s gs).faults _ h)
kind_declares s (function gs i) h = function_declares s gs (none_before (headings.group_steps s gs).faults _ h)
kind_declares s invariants h = procedure_declares s [] (none_before (headings.parameter_steps s []).faults _ h)

system_declares : (k : SystemKind) (s : Scopes) (gs : List Group) → (systems.group_steps k s gs).faults ≡ [] → Declares s (systems.group_steps k s gs).scopes (all_names (λ (g : Group). names_of g.names) gs)
unfolding systems.group_steps systems.group_step
system_declares k s [] h = no_names_declared s
system_declares k s (g ∷ gs) h =
    let d = systems.group_step k s g in
    then_declares s d.scopes (systems.group_steps k d.scopes gs).scopes (names_of g.names) _ (group_declares s g.names _ (no_left (reserve_names s g.names).faults _ (no_left d.faults _ h))) (system_declares k d.scopes gs (no_right d.faults _ h))

-- ---- routines

parts_apart : (p : Spot) (s : Scopes) (ds : List Part) (xs : List Name) → (part_steps p s ds).faults ≡ [] → AreDistinct xs → AllKnown xs s → AreApart xs ds
parts_apart p s ds xs h distinct known = record { parameters = distinct; others = each_other s xs (all_names part_names ds) (λ x k. parts_other x p s ds h k) known }

announced_known : (r : Routine) (j : Judged (Option ValueType)) (s : Scopes) (xs : List Name) → AllKnown xs s → AllKnown xs (announce_judged r j s)
unfolding announce add_around keep
announced_known r (Ok v) s xs h = h
announced_known r (Err fs) s xs h = h

routine_distinct : (k : Option SystemKind) (s : Scopes) (r : Routine) → (routine_step k s r).faults ≡ [] → IsDistinctRoutine r
unfolding routine_step routines.enter_routine heading
routine_distinct k s r h =
    let b = reserve_name s r.name in
    let w : Headed = parameters_and_result (enter false b.scopes) r.kind in
    let hd : Headed = heading k r b in
    let a : Scopes = announce_judged r hd.result hd.scopes in
    let j : Judged (Option ValueType) = after_faults b.faults w.result in
    let none : faults w.result ≡ [] = none_after b.faults w.result (no_first j (check_heading k r) (no_left (faults hd.result) _ h)) in
    let declares : Declares (enter false b.scopes) w.scopes (kind_names r.kind) = kind_declares (enter false b.scopes) r.kind none in
    parts_apart spot.Other a r.parts (kind_names r.kind) (none_before (part_steps spot.Other a r.parts).faults _ (no_right (faults hd.result) _ h)) declares.distinct (announced_known r hd.result w.scopes (kind_names r.kind) declares.known)

routines_distinct : (k : Option SystemKind) (s : Scopes) (rs : List Routine) → (routine_steps k s rs).faults ≡ [] → Each IsDistinctRoutine rs
unfolding routine_steps
routines_distinct k s [] h = tt
routines_distinct k s (r ∷ rs) h = (routine_distinct k s r (no_left (routine_step k s r).faults _ h), routines_distinct k (routine_step k s r).scopes rs (no_right (routine_step k s r).faults _ h))

-- ---- system types

system_distinct : (s : Scopes) (y : System) → (systems.inside s y).faults ≡ [] → IsDistinctSystem y
unfolding systems.inside
system_distinct s y h =
    let a = systems.group_steps y.kind s y.parameters in
    let b = part_steps (spot.Permanent (Some y.kind)) a.scopes y.parts in
    let rest : b.faults ++ (routine_steps (Some y.kind) b.scopes y.routines).faults ≡ [] = no_right a.faults _ h in
    let declares : Declares s a.scopes (parameter_names y) = system_declares y.kind s y.parameters (no_left a.faults _ h) in
    (parts_apart (spot.Permanent (Some y.kind)) a.scopes y.parts (parameter_names y) (no_left b.faults _ rest) declares.distinct declares.known, routines_distinct (Some y.kind) b.scopes y.routines (no_right b.faults _ rest))

definition_distinct : (s : Scopes) (v : Definition) → faults (systems.type_of_definition s v).type ≡ [] → IsDistinctDefinition v
definition_distinct s (type_definition t) h = tt
definition_distinct s (system_definition y) h = system_distinct (enter true s) y (inside_sound s y h)

definitions_distinct : (s : Scopes) (ds : List SystemDefinition) → (systems.definition_steps s ds).faults ≡ [] → Each (λ (d : SystemDefinition). IsDistinctDefinition d.value) ds
unfolding systems.definition_steps
definitions_distinct s [] h = tt
definitions_distinct s (d ∷ ds) h =
    (definition_distinct (reserve_name s d.name).scopes d.value (defined_sound s d (no_left (systems.definition_step s d).faults _ h)), definitions_distinct (systems.definition_step s d).scopes ds (no_right (systems.definition_step s d).faults _ h))

part_distinct : (s : Scopes) (q : ProgramPart) → (systems.program_part_step s q).faults ≡ [] → IsDistinctPart q
unfolding systems.program_part_step
part_distinct s (program_types at ds) h = definitions_distinct s ds h
part_distinct s _ h = tt

parts_distinct : (s : Scopes) (qs : List ProgramPart) → (systems.program_part_steps s qs).faults ≡ [] → Each IsDistinctPart qs
unfolding systems.program_part_steps
parts_distinct s [] h = tt
parts_distinct s (q ∷ qs) h =
    (part_distinct s q (no_left (systems.program_part_step s q).faults _ h), parts_distinct (systems.program_part_step s q).scopes qs (no_right (systems.program_part_step s q).faults _ h))

own_distinct : (p : Program) → (declarations start p).faults ≡ [] → Each IsDistinctRoutine p.routines
unfolding declarations
own_distinct p h = routines_distinct None (systems.program_part_steps start p.parts).scopes p.routines (no_right (systems.program_part_steps start p.parts).faults _ h)

-- ---- types of parameters

no_component : (t : Ty) → is_free t ≡ true → IsNoComponent t
no_component (component_of n) h = let bad : false ≡ true = h in absurd cc
no_component _ h = tt

all_values : (qs : List Parameter) → Each IsFreeParameter qs → AreValues qs
all_values [] h = tt
all_values (q ∷ qs) h = (no_component q.ty h.0, all_values qs h.1)

values_at : (t : Tree) → IsRead t.program → IsAccepted t → (n : ℕ) → AreValues (meaning_at t.program n).parameters
values_at t read accepted n =
    let a : At t n = at_number t read accepted n in
    subst (λ (m : RoutineMeaning). AreValues m.parameters) (sym a.means) (all_values a.opening.meaning.parameters a.agreed.parameters)

pub accepted_distinct : DistinctLaw
accepted_distinct t read accepted =
    record {
      parts = parts_distinct start t.program.parts (parts_sound t accepted);
      routines = own_distinct t.program (declarations_sound t accepted);
      values = values_at t read accepted;
    }
