-- A tree that breaks no rule declares routines, variables and parameters once.
use Rattle.std.proofs.Common.{◌≡◌, Bool, true, false, ◌||◌, if◌then◌else◌, List, [], ◌∷◌, ◌++◌, Some, is_some, refl, sym, ap, subst, ◌∙◌, append_assoc}
use Rattle.cp_resolved.proofs.Words.{bytes_eq-Decides, faults, no_left, no_right, inside_sound}
use Rattle.cp_resolved.proofs.Words.{defined_sound, parts_sound, Name, same_name, is_parameter, IsOnceDefinition, IsOncePart}
use Rattle.cp_resolved.proofs.Words.{AreOthers, IsOnce, Each}
use Rattle.cp_tree.specs.Syntax.{Definition, type_definition, system_definition, SystemDefinition, ProgramPart, program_types, Tree}
use Rattle.cp_scope.specs.Scopes.{Scopes, enter, start}
use Rattle.cp_check.specs.declared.types.Spot.TheVariants as spot
use Rattle.cp_check.specs.Declarations.{reserve_name, part_steps}
use Rattle.cp_check.specs.Systems as systems
use Rattle.cp_meaning.specs.Declarations.{Variable, Parameter}
use Rattle.cp_resolved.proofs.Words.{IsAccepted, AreDifferent, look, parameter_variables, itself, system_of}
use Rattle.cp_resolved.proofs.declarations.SystemVariables.{accepted_permanents}
use Rattle.cp_resolved.proofs.declarations.OnceRoutines.{routines_once}

-- ---- routines

definition_once : (s : Scopes) (v : Definition) → faults (systems.type_of_definition s v).type ≡ [] → IsOnceDefinition v
unfolding systems.inside
definition_once s (type_definition t) h = tt
definition_once s (system_definition y) h =
    let none : (systems.inside (enter true s) y).faults ≡ [] = inside_sound s y h in
    let a : Scopes = (systems.group_steps y.kind (enter true s) y.parameters).scopes in
    let b = part_steps (spot.Permanent (Some y.kind)) a y.parts in
    routines_once (Some y.kind) b.scopes y.routines (no_right b.faults _ (no_right (systems.group_steps y.kind (enter true s) y.parameters).faults _ none))

definitions_once : (s : Scopes) (ds : List SystemDefinition) → (systems.definition_steps s ds).faults ≡ [] → Each (λ d. IsOnceDefinition d.value) ds
unfolding systems.definition_steps
definitions_once s [] h = tt
definitions_once s (d ∷ ds) h =
    (definition_once (reserve_name s d.name).scopes d.value (defined_sound s d (no_left (systems.definition_step s d).faults _ h)), definitions_once (systems.definition_step s d).scopes ds (no_right (systems.definition_step s d).faults _ h))

part_once : (s : Scopes) (q : ProgramPart) → (systems.program_part_step s q).faults ≡ [] → IsOncePart q
unfolding systems.program_part_step
part_once s (program_types at ds) h = definitions_once s ds h
part_once s _ h = tt

parts_once : (s : Scopes) (qs : List ProgramPart) → (systems.program_part_steps s qs).faults ≡ [] → Each IsOncePart qs
unfolding systems.program_part_steps
parts_once s [] h = tt
parts_once s (q ∷ qs) h =
    (part_once s q (no_left (systems.program_part_step s q).faults _ h), parts_once (systems.program_part_step s q).scopes qs (no_right (systems.program_part_step s q).faults _ h))

-- ---- no variable of a system type has the name of a parameter

found_later : (x : Name) (ws vs : List Variable) → is_some (look x vs) ≡ true → is_some (look x (ws ++ vs)) ≡ true
found_later x [] vs h = h
found_later x (w ∷ ws) vs h = go (same_name x w.name) (found_later x ws vs h)
  where
    go : (b : Bool) → is_some (look x (ws ++ vs)) ≡ true → is_some (if b then Some w.ty else look x (ws ++ vs)) ≡ true
    go true k = refl
    go false k = k

no_parameter : (x : Name) (qs : List Parameter) (vs : List Variable) → AreDifferent (parameter_variables qs ++ vs) → is_some (look x vs) ≡ true → is_parameter x qs ≡ false
no_parameter x [] vs h k = refl
no_parameter x (q ∷ qs) vs h k = go (same_name x q.name) refl (no_parameter x qs vs h.1 k)
  where
    go : (b : Bool) → same_name x q.name ≡ b → is_parameter x qs ≡ false → (b || is_parameter x qs) ≡ false
    go true e rest = absurd (let bad : false ≡ true = sym (ap is_some h.0) ∙ ap (λ y. is_some (look y (parameter_variables qs ++ vs))) (sym ((bytes_eq-Decides x q.name).0 e)) ∙ found_later x (parameter_variables qs) vs k in cc)
    go false e rest = rest

-- of the last of them
others_of : (qs : List Parameter) (ws vs : List Variable) → AreDifferent (parameter_variables qs ++ (ws ++ vs)) → AreOthers qs vs
others_of qs ws [] h = tt
others_of qs ws (v ∷ vs) h =
    (no_parameter v.name qs (ws ++ v ∷ vs) h (found_later v.name ws (v ∷ vs) (ap (λ (b : Bool). is_some (if b then Some v.ty else look v.name vs)) (itself v.name))), others_of qs (ws ++ v ∷ []) vs (subst (λ (us : List Variable). AreDifferent (parameter_variables qs ++ us)) (sym (append_assoc ws (v ∷ []) vs)) h))

pub accepted_once : (t : Tree) → IsAccepted t → IsOnce t.program
accepted_once t accepted =
    record {
      routines = parts_once start t.program.parts (parts_sound t accepted);
      variables = λ k. others_of (system_of t.program k).parameters [] (system_of t.program k).variables (accepted_permanents t accepted k).different;
    }
