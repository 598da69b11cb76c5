-- In a program that was read, the function calls of each routine and of each initial statement are at different tokens.
use Rattle.cp_resolved.proofs.Words.{ℕ, Bool, true, false, List, [], ◌∷◌, length, Kind, Scope, all_calls_laid, AreApart, meaning_at}
use Rattle.cp_text.specs.declared.token.Kind.TheVariants as kind
use Rattle.cp_text.specs.declared.token.Mark.TheVariants as mark
use Rattle.cp_tree.specs.Syntax.{Statements, Body, Routine, System, Definition, type_definition, system_definition, SystemDefinition, ProgramPart, program_types, Program}
use Rattle.cp_tree.specs.Spelling.{is_nameless, put_all, put_routine, put_body, put_system_definition, put_program_part, spell}
use Rattle.cp_tree.specs.SpellingIndexed.{IsIndexedRoutineBy, IsIndexedBody, IsIndexedRoutine, IsIndexedSystem, IsIndexedDefinition, IsIndexedSystemDefinition, IsIndexedProgramPart, IsIndexed}
use Rattle.cp_resolved.proofs.declarations.Nameless.{each_indexed, some_indexed}
use Rattle.cp_resolved.proofs.declarations.CallsSpread.{statements_spread, says_spread}
use Rattle.cp_resolved.proofs.agreeing.OpeningsBodies.{OfRoutine, OfSystem, OfDefinition, OfPart, body_at}

-- whatever is visible
abbrev AreCallsApart : Statements → Type 0
AreCallsApart ss = (s : Scope) → AreApart (all_calls_laid s ss)

module _ (total : ℕ) where
  body_apart : (b : Body) (rest : List Kind) → IsIndexedBody total b rest → AreCallsApart b.statements
  body_apart b rest h s = (statements_spread total s b.statements (kind.Mark mark.End ∷ rest) h.1).apart

  routine_by : (b : Bool) (r : Routine) (rest : List Kind) → IsIndexedRoutineBy total b r rest → OfRoutine AreCallsApart r
  routine_by true r rest h = λ s. (says_spread total s r.body.statements rest h.said).apart
  routine_by false r rest h = body_apart r.body (kind.Mark mark.Semicolon ∷ rest) h.4

  routine_apart : (r : Routine) (rest : List Kind) → IsIndexedRoutine total r rest → OfRoutine AreCallsApart r
  routine_apart r rest h = routine_by (is_nameless r.kind) r rest h

  system_apart : (y : System) (rest : List Kind) → IsIndexedSystem total y rest → OfSystem AreCallsApart y
  system_apart y rest h = (each_indexed put_routine (IsIndexedRoutine total) (OfRoutine AreCallsApart) routine_apart y.routines (put_body y.body rest) h.3, body_apart y.body rest h.5)

  definition_apart : (v : Definition) (rest : List Kind) → IsIndexedDefinition total v rest → OfDefinition AreCallsApart v
  definition_apart (type_definition t) rest h = tt
  definition_apart (system_definition y) rest h = system_apart y rest h

  named_apart : (d : SystemDefinition) (rest : List Kind) → IsIndexedSystemDefinition total d rest → OfDefinition AreCallsApart d.value
  named_apart d rest h = definition_apart d.value (kind.Mark mark.Semicolon ∷ rest) h.1

  part_apart : (q : ProgramPart) (rest : List Kind) → IsIndexedProgramPart total q rest → OfPart AreCallsApart q
  part_apart (program_types at ds) rest h = some_indexed put_system_definition (IsIndexedSystemDefinition total) (λ (d : SystemDefinition). OfDefinition AreCallsApart d.value) named_apart ds rest h.1
  part_apart _ rest h = tt

pub indexed_apart : (p : Program) → IsIndexed p → (n : ℕ) → AreApart (all_calls_laid (meaning_at p n).scope (meaning_at p n).body)
indexed_apart p h n =
    let total : ℕ = length (spell p) in
    let last : List Kind = put_body p.body (kind.Mark mark.Period ∷ []) in
    body_at AreCallsApart p
    (each_indexed put_program_part (IsIndexedProgramPart total) (OfPart AreCallsApart) (part_apart total) p.parts (put_all put_routine p.routines last) h.0)
    (each_indexed put_routine (IsIndexedRoutine total) (OfRoutine AreCallsApart) (routine_apart total) p.routines last h.1) (body_apart total p.body (kind.Mark mark.Period ∷ []) h.3) n (meaning_at p n).scope
