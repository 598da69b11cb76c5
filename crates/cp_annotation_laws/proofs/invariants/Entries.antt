-- At the end of each routine that is an entry the invariants are looked at.
use Rattle.std.proofs.Common.{◌≡◌, ◌∙◌, ℕ, zero, suc, true, false, List, [], ◌∷◌, ◌++◌, length, Option, Some, None, slice_get, ap, sym, refl, subst}
use Rattle.cp_tree.specs.Syntax.{Routine, Definition, type_definition, system_definition, SystemDefinition, ProgramPart, program_constants, program_types, program_variables, Program}
use Rattle.cp_meaning.specs.Scopes.{Scope, seen_inside, predeclared}
use Rattle.cp_meaning.specs.Systems.{SystemMeaning, system_in, Declared, definition_in, program_part_in, declared, program_system, own_meaning}
use Rattle.cp_resolved.specs.Openings.{Opening, with_routine, routine_openings, initial_opening, parts_scope, definition_openings, definitions_openings, part_openings, parts_openings, openings_of, meaning_in, meaning_at}
use Rattle.cp_resolved.specs.Resolved.{initial_meaning}
use Rattle.cp_resolved.specs.Small.{Each}
use Rattle.cp_resolved.proofs.agreeing.RoutinesSeen.{body_entry}
use Rattle.cp_resolved.proofs.frames.FrameCells.{each_both}
use Rattle.cp_resolved.proofs.statements.RoutinesNoted.{opens_entry, entry_in, entry_at}

abbrev IsLookedAt : Opening → Type 0
IsLookedAt o = opens_entry o ≡ true → o.meaning.checks ≡ true

routines_looked : (w : ℕ) (k : Scope) (rs : List Routine) → Each IsLookedAt (routine_openings w k rs)
routines_looked w k [] = tt
routines_looked w k (r ∷ rs) = ((λ e. sym (body_entry k r) ∙ e), routines_looked w (with_routine k r) rs)

block_looked : (w : ℕ) (k : Scope) (rs : List Routine) (m : SystemMeaning) → Each IsLookedAt (routine_openings w k rs ++ initial_opening w m ∷ [])
block_looked w k rs m = each_both IsLookedAt (routine_openings w k rs) (initial_opening w m ∷ []) (routines_looked w k rs) ((λ e. absurd (let bad : false ≡ true = e in cc)), tt)

definition_looked : (d : Declared) (v : Definition) → Each IsLookedAt (definition_openings d v)
definition_looked d (type_definition t) = tt
definition_looked d (system_definition y) = block_looked (length d.systems) (parts_scope (seen_inside d.scope) y) y.routines (system_in (seen_inside d.scope) y)

definitions_looked : (d : Declared) (ns : List SystemDefinition) → Each IsLookedAt (definitions_openings d ns)
definitions_looked d [] = tt
definitions_looked d (n ∷ ns) = each_both IsLookedAt (definition_openings d n.value) (definitions_openings (definition_in d n n.value) ns) (definition_looked d n.value) (definitions_looked (definition_in d n n.value) ns)

part_looked : (d : Declared) (q : ProgramPart) → Each IsLookedAt (part_openings d q)
part_looked d (program_constants at ds) = tt
part_looked d (program_types at ns) = definitions_looked d ns
part_looked d (program_variables at gs) = tt

parts_looked : (d : Declared) (qs : List ProgramPart) → Each IsLookedAt (parts_openings d qs)
parts_looked d [] = tt
parts_looked d (q ∷ qs) = each_both IsLookedAt (part_openings d q) (parts_openings (program_part_in d q) qs) (part_looked d q) (parts_looked (program_part_in d q) qs)

all_looked : (p : Program) → Each IsLookedAt (openings_of p)
all_looked p =
    let outer : Declared = record { systems = []; variables = []; scope = predeclared } in
    each_both IsLookedAt (parts_openings outer p.parts) (routine_openings (program_system p) (declared p).scope p.routines ++ initial_opening (program_system p) (own_meaning (declared p) p) ∷ [])
    (parts_looked outer p.parts) (block_looked (program_system p) (declared p).scope p.routines (own_meaning (declared p) p))

one_of : {A : Type 0} (P : A → Type 0) (xs : List A) (n : ℕ) (x : A) → Each P xs → slice_get xs n ≡ Some x → P x
one_of P [] n x h e = absurd (let bad : None ≡ Some x = e in cc)
one_of P (y ∷ xs) zero x h e = subst P (let same : y ≡ x = cc in same) h.0
one_of P (y ∷ xs) (suc n) x h e = one_of P xs n x h.1 e

pub entry_looked : (p : Program) (n : ℕ) → entry_at p n ≡ true → (meaning_at p n).checks ≡ true
entry_looked p n e = go (slice_get (openings_of p) n) refl e
  where
    go : (o : Option Opening) → slice_get (openings_of p) n ≡ o → entry_in o ≡ true → (meaning_in (initial_meaning (own_meaning (declared p) p)) (slice_get (openings_of p) n)).checks ≡ true
    go None is h = absurd (let bad : false ≡ true = h in cc)
    go (Some o) is h = ap (λ z. (meaning_in (initial_meaning (own_meaning (declared p) p)) z).checks) is ∙ one_of IsLookedAt (openings_of p) n o (all_looked p) is h
