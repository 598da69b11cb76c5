-- The name that the legend has for the routine of a frame is that of the routine which the meaning's call executes.
use Rattle.std.proofs.Common.{◌≡◌, ◌∙◌, ℕ, zero, suc, List, [], ◌∷◌, ◌++◌, map, length, Option, Some, None, slice_get, ap, sym, refl, subst}
use Rattle.std.specs.Prelude.{unwrap_or}
use Rattle.std.proofs.lemmas.Option.{none-some, same_Some}
use Rattle.cp_tree.specs.Syntax as syntax
use Rattle.cp_tree.specs.Syntax.{Program}
use Rattle.cp_legend.specs.Names.{RoutineNames, name_of_routine}
use Rattle.cp_legend_laws.specs.Statements.{routine_text}
use Rattle.cp_meaning.specs.Names.{Name}
use Rattle.cp_meaning.specs.Scopes.{Meaning, Scope, routine_meaning, seen_inside}
use Rattle.cp_meaning.specs.State.{Call}
use Rattle.cp_meaning.specs.Systems.{Declared, declared, definition_in, own_meaning, program_part_in, program_system, system_in}
use Rattle.cp_resolved.specs.Fit.{nothing_declared}
use Rattle.cp_resolved.specs.Openings.{Opening, definition_openings, definitions_openings, initial_opening, meaning_at, meaning_in, openings_of, part_openings, parts_openings, parts_scope, routine_openings, with_routine}
use Rattle.cp_resolved.specs.Resolved.{initial_meaning}
use Rattle.cp_resolved.specs.Small.{Each}
use Rattle.cp_resolved.proofs.agreeing.RoutinesSeen.{IsNoRoutine, in_body}
use Rattle.cp_resolved.proofs.frames.FrameCells.{each_both}
use Rattle.cp_resolved.proofs.names.Headed.{IsRoutine}
use Rattle.cp_story_laws.specs.Routines.{latest_routine, name_of, routine_of}
use Rattle.cp_story_laws.proofs.CalledRoutines.{HasName}

-- ---- names by numbers

pub legend_name : (rs : List RoutineNames) (os : List Opening) (n : ℕ) → map (λ (r : RoutineNames). r.name) rs ≡ map routine_text os → name_of_routine (slice_get rs n) ≡ name_of (slice_get os n)
legend_name [] [] n e = refl
legend_name [] (o ∷ os) n e = absurd (cc)
legend_name (r ∷ rs) [] n e = absurd (cc)
legend_name (r ∷ rs) (o ∷ os) zero e = cc
legend_name (r ∷ rs) (o ∷ os) (suc n) e = legend_name rs os n (let f : map (λ (q : RoutineNames). q.name) rs ≡ map routine_text os = cc in f)

-- ---- in the scope of a routine's body the latest routine is the routine itself

latest_step : (x : Name) (y : Name) (d : Meaning) (s : Scope) → IsNoRoutine d → latest_routine s ≡ x → latest_routine ((y, d) ∷ s) ≡ x
latest_step x y (routine_meaning r) s i h = absurd i
latest_step x y _ s i h = h

abbrev FitsAs : Option Name → Scope → Type 0
FitsAs None s = Unit {0}
FitsAs (Some x) s = latest_routine s ≡ x

abbrev Fits : Opening → Type 0
Fits o = FitsAs o.name o.meaning.scope

abbrev AllFit : List Opening → Type 0
AllFit os = Each Fits os

routines_fit : (owner : ℕ) (s : Scope) (rs : List syntax.Routine) → AllFit (routine_openings owner s rs)
routines_fit owner s [] = tt
routines_fit owner s (r ∷ rs) = (in_body (λ (k : Scope). latest_routine k ≡ r.name.name) (latest_step r.name.name) (with_routine s r) r refl, routines_fit owner (with_routine s r) rs)

definition_fits : (d : Declared) (v : syntax.Definition) → AllFit (definition_openings d v)
definition_fits d (syntax.type_definition t) = tt
definition_fits d (syntax.system_definition s) = each_both Fits (routine_openings (length d.systems) (parts_scope (seen_inside d.scope) s) s.routines) (initial_opening (length d.systems) (system_in (seen_inside d.scope) s) ∷ []) (routines_fit (length d.systems) (parts_scope (seen_inside d.scope) s) s.routines) (tt, tt)

definitions_fit : (d : Declared) (ns : List syntax.SystemDefinition) → AllFit (definitions_openings d ns)
definitions_fit d [] = tt
definitions_fit d (n ∷ ns) = each_both Fits (definition_openings d n.value) (definitions_openings (definition_in d n n.value) ns) (definition_fits d n.value) (definitions_fit (definition_in d n n.value) ns)

part_fits : (d : Declared) (q : syntax.ProgramPart) → AllFit (part_openings d q)
part_fits d (syntax.program_constants at ds) = tt
part_fits d (syntax.program_types at ns) = definitions_fit d ns
part_fits d (syntax.program_variables at gs) = tt

parts_fit : (d : Declared) (qs : List syntax.ProgramPart) → AllFit (parts_openings d qs)
parts_fit d [] = tt
parts_fit d (q ∷ qs) = each_both Fits (part_openings d q) (parts_openings (program_part_in d q) qs) (part_fits d q) (parts_fit (program_part_in d q) qs)

openings_fit : (p : Program) → AllFit (openings_of p)
openings_fit p =
    let ys : List Opening = routine_openings (program_system p) (declared p).scope p.routines in
    let zs : List Opening = initial_opening (program_system p) (own_meaning (declared p) p) ∷ [] in
    each_both Fits (parts_openings nothing_declared p.parts) (ys ++ zs) (parts_fit nothing_declared p.parts) (each_both Fits ys zs (routines_fit (program_system p) (declared p).scope p.routines) (tt, tt))

fits_at : (os : List Opening) (n : ℕ) (o : Opening) → slice_get os n ≡ Some o → AllFit os → Fits o
fits_at [] n o e h = absurd (none-some o e)
fits_at (q ∷ os) zero o e h = subst Fits (same_Some q o e) h.0
fits_at (q ∷ os) (suc n) o e h = fits_at os n o e h.1

-- ---- what a call executes

fit_named : (o : Opening) → Fits o → IsRoutine o.name → latest_routine o.meaning.scope ≡ routine_text o
fit_named o = go o.name
  where
    go : (x : Option Name) → FitsAs x o.meaning.scope → IsRoutine x → latest_routine o.meaning.scope ≡ unwrap_or x []
    go None h i = absurd i
    go (Some x) h i = h

-- of a call that has the scope of the routine of this number
pub executes_named : (p : Program) (rs : List RoutineNames) → map (λ (r : RoutineNames). r.name) rs ≡ map routine_text (openings_of p) → (n : ℕ) → HasName (slice_get (openings_of p) n) → (c : Call) → c.scope ≡ (meaning_at p n).scope → name_of_routine (slice_get rs n) ≡ routine_of c
executes_named p rs e n h c scope = legend_name rs (openings_of p) n e ∙ go (slice_get (openings_of p) n) refl h
  where
    go : (o : Option Opening) → slice_get (openings_of p) n ≡ o → HasName o → name_of o ≡ routine_of c
    go None f i = absurd i
    go (Some o) f i =
        let own : c.scope ≡ o.meaning.scope = scope ∙ ap (λ (q : Option Opening). (meaning_in (initial_meaning (own_meaning (declared p) p)) q).scope) f in
        sym (fit_named o (fits_at (openings_of p) n o f (openings_fit p)) i) ∙ sym (ap latest_routine own)
