-- Where the checker judges statements: its scopes and the context, of the routines and initial statements in the order in which the tables number them.
use Rattle.std.specs.Prelude.{◌≡◌, ℕ, true, List, [], ◌∷◌, ◌++◌, Option, Some, None, Ok}
use Rattle.cp_tree.specs.declared.declaration.SystemKind.{SystemKind}
use Rattle.cp_tree.specs.Syntax.{Routine, System, Definition, type_definition, system_definition, SystemDefinition, ProgramPart, program_constants, program_types, program_variables, Program, Tree}
use Rattle.cp_scope.specs.declared.types.Meaning.TheVariants as meaning
use Rattle.cp_scope.specs.Counts.{no_use}
use Rattle.cp_scope.specs.Judged.{faults}
use Rattle.cp_scope.specs.Scopes.{Scopes, look, heading_at, enter, start}
use Rattle.cp_check.specs.declared.operand.Context.{Context}
use Rattle.cp_check.specs.declared.types.Spot.TheVariants.{Other, Permanent}
use Rattle.cp_check.specs.Declarations.{reserve_name, part_steps}
use Rattle.cp_check.specs.Headings.{Headed, heading, announce_judged}
use Rattle.cp_check.specs.Routines.{routine_context, routine_step}
use Rattle.cp_check.specs.Systems.{group_steps, inside, initial_context, definition_step, program_part_step, program_part_steps}
use Rattle.cp_check.specs.Statements.{statements}
use Rattle.cp_check.specs.Faults.{declarations, program_context}
use Rattle.cp_meaning_laws.specs.Accepted.{IsAccepted}
use Rattle.cp_meaning.specs.Names.{Name}
use Rattle.cp_meaning.specs.Scopes.{find}
use Rattle.cp_meaning.specs.Systems.{system_of}
use Rattle.cp_resolved.specs.Enumerations.{enumerations_of}
use Rattle.cp_resolved.specs.Framed.{IsOrdinalResult}
use Rattle.cp_resolved.specs.Layouts.{Layouts, is_named}
use Rattle.cp_resolved.specs.Limited.{AreLimited}
use Rattle.cp_resolved.specs.Openings.{Opening, openings_of}
use Rattle.cp_tree.specs.Read.{IsRead}
use Rattle.cp_resolved.specs.Small.{Each}
use Rattle.cp_resolved.specs.Standing.{IsFit, IsFreeVariable, IsStandingVariable, IsFreeParameter, IsStandingParameter}
use Rattle.cp_resolved.specs.Tokens.{token_of_type, constants_among}
use Rattle.cp_resolved.specs.Typed.{Tokens, IsSystemParameter, HeadingIs, ScopesAgree, IsMarked}

pub record Place : Type 0 where
  pub scopes : Scopes
  pub context : Context

-- ---- places

abbrev pub headed_scopes : Option SystemKind → Scopes → Routine → Headed → Scopes
headed_scopes owner s r h = (part_steps Other (announce_judged r h.result h.scopes) r.parts).scopes

-- after its name, its heading and its parts
abbrev pub routine_place : Option SystemKind → Scopes → Routine → Place
routine_place owner s r = record { scopes = headed_scopes owner s r (heading owner r (reserve_name s r.name)); context = routine_context owner r }

abbrev pub routine_places : Option SystemKind → Scopes → List Routine → List Place
routine_places owner s [] = []
routine_places owner s (r ∷ rs) = routine_place owner s r ∷ routine_places owner (routine_step owner s r).scopes rs

-- after its parameters, its parts and its routines
abbrev pub initial_place : Scopes → System → Place
initial_place s y = record { scopes = (inside s y).scopes; context = initial_context y.kind }

-- the scopes of a system type's routines
abbrev pub parts_scopes : Scopes → System → Scopes
parts_scopes s y = (part_steps (Permanent (Some y.kind)) (group_steps y.kind s y.parameters).scopes y.parts).scopes

abbrev pub system_places : Scopes → System → List Place
system_places s y = routine_places (Some y.kind) (parts_scopes s y) y.routines ++ initial_place s y ∷ []

abbrev pub definition_places : Scopes → Definition → List Place
definition_places s (type_definition t) = []
definition_places s (system_definition y) = system_places (enter true s) y

abbrev pub definitions_places : Scopes → List SystemDefinition → List Place
definitions_places s [] = []
definitions_places s (d ∷ ds) = definition_places (reserve_name s d.name).scopes d.value ++ definitions_places (definition_step s d).scopes ds

abbrev pub part_places : Scopes → ProgramPart → List Place
part_places s (program_constants at ds) = []
part_places s (program_types at ds) = definitions_places s ds
part_places s (program_variables at gs) = []

abbrev pub parts_places : Scopes → List ProgramPart → List Place
parts_places s [] = []
parts_places s (p ∷ ps) = part_places s p ++ parts_places (program_part_step s p).scopes ps

-- the statements of the program itself come last
abbrev pub places_of : Program → List Place
places_of p =
    parts_places start p.parts
    ++ (routine_places None (program_part_steps start p.parts).scopes p.routines ++ (let x : Place = record { scopes = (declarations start p).scopes; context = program_context } in x) ∷ [])

-- ---- the law

-- Of a routine: its name alone stands for it, and its heading is written.
pub record IsOwn (tokens : Tokens) (x : Place) (o : Opening) (n : ℕ) : Type 0 where
  pub routine : o.name ≡ None → ⊥
  pub named : (y : Name) → look y x.scopes ≡ Some (Some (meaning.Routine n)) → is_named y o.name ≡ true
  pub heading : HeadingIs (record { shapes = x.scopes.shapes; tokens = tokens }) (heading_at n x.scopes) (Some o.meaning)

-- The checker's scopes at a place agree with the scope of what is opened there, where each system type is written at a token; and its statements break no rule.
pub record IsAgreed (tokens : Tokens) (p : Program) (x : Place) (o : Opening) : Type 0 where
  pub scopes : (l : Layouts) (k n : ℕ) → ScopesAgree tokens x.scopes (record { program = p; layouts = l; system = k; routine = n; scope = o.meaning.scope })
  pub sound : faults (statements x.scopes x.context (Ok no_use) o.meaning.body) ≡ []
  pub written : (y : Name) (n : ℕ) → look y x.scopes ≡ Some (Some (meaning.Routine n)) → IsMarked x.scopes.shapes (meaning.Routine n) (find y o.meaning.scope)
  -- each visible name stands for something
  pub known : (y : Name) → look y x.scopes ≡ Some None → ⊥
  -- ranges are inside their bases, and queues and components stand alone or in arrays
  pub fit : (x : Name) → IsFit (find x o.meaning.scope)
  -- no visible type or variable has more than 8,192 cells, and none that is hidden
  pub limited : AreLimited o.meaning.scope
  pub variables : Each IsFreeVariable o.meaning.variables
  pub parameters : Each IsFreeParameter o.meaning.parameters
  -- of a function an ordinal
  pub result : IsOrdinalResult o.meaning.result
  pub own : (n : ℕ) → x.context.routine ≡ Some n → IsOwn tokens x o n

abbrev pub AreAgreed : Tokens → Program → List Place → List Opening → Type 0
AreAgreed tokens p [] [] = Unit {0}
AreAgreed tokens p (x ∷ xs) (o ∷ os) = IsAgreed tokens p x o × AreAgreed tokens p xs os
AreAgreed tokens p [] (o ∷ os) = ⊥
AreAgreed tokens p (x ∷ xs) [] = ⊥

abbrev pub tokens_of : Program → Tokens
tokens_of p = record { systems = token_of_type p; kinds = λ k. (system_of p k).kind; constants = λ at. constants_among at (enumerations_of p) }

-- at all places, and the types of permanent variables
pub record ScopesAre (p : Program) : Type 0 where
  pub places : AreAgreed (tokens_of p) p (places_of p) (openings_of p)
  pub variables : (k : ℕ) → Each IsStandingVariable (system_of p k).variables
  pub parameters : (k : ℕ) → Each IsStandingParameter (system_of p k).parameters
  -- a parameter of a system type is handed over as a value, and is a component or has neither queues nor components
  pub handed : (k : ℕ) → Each IsSystemParameter (system_of p k).parameters

abbrev pub ScopesLaw : Type 0
ScopesLaw = (t : Tree) → IsRead t.program → IsAccepted t → ScopesAre t.program
