-- In a program that was read no routine but that of invariants has the name of a routine without one.
use Rattle.cp_resolved.proofs.Words.{◌≡◌, Bool, true, false, List, [], ◌∷◌, Kind, Each, IsSmallPart, IsRead}
use Rattle.cp_text.specs.declared.token.Kind.TheVariants as kind
use Rattle.cp_text.specs.declared.token.Mark.TheVariants as mark
use Rattle.cp_tree.specs.Syntax.{nameless, Routine, System, Definition, type_definition, system_definition, SystemDefinition, ProgramPart, program_constants, program_types, program_variables, Program}
use Rattle.cp_tree.specs.Spelling.{is_nameless, put_optional, put_all, put_identifier, put_part, put_group, put_body, put_routine_kind, put_routine_by, put_routine, put_system, put_definition, put_system_definition, put_program_part}
use Rattle.cp_resolved.proofs.declarations.Nameless.{IsKnown, EachIn, EachInPart, EachRoutine, indexed_known}
use Rattle.cp_resolved.proofs.declarations.SmallPrograms.{parameters_after, each_small, each_known, group_after, routine_small, definition_small, program_part_small}
use Rattle.cp_resolved.proofs.declarations.SmallTexts.{read_scanned}
use Rattle.cp_resolved.proofs.declarations.SmallTokens.{AreScanned, optional_small, part_small}

abbrev pub IsApartBy : Bool → Routine → Type 0
IsApartBy true r = Unit {0}
IsApartBy false r = r.name.name ≡ nameless → ⊥

-- what is known of a routine, and of its name
pub record IsRoutine (r : Routine) : Type 0 where
  pub known : IsKnown r
  pub apart : IsApartBy (is_nameless r.kind) r

apart_by : (b : Bool) (x : Routine) (r : List Kind) → AreScanned (put_routine_by b x r) → IsApartBy b x
apart_by true x r e = tt
apart_by false x r e =
    let inside : List Kind = kind.Mark mark.Semicolon ∷ put_all put_part x.parts (put_body x.body (kind.Mark mark.Semicolon ∷ r)) in
    (optional_small mark.Entry x.is_entry (put_identifier x.name (put_routine_kind x.kind inside)) e.1).0.1

routine_is : (x : Routine) (r : List Kind) → IsKnown x → AreScanned (put_routine x r) → IsRoutine x × AreScanned r
routine_is x r k e = (record { known = k; apart = apart_by (is_nameless x.kind) x r e }, (routine_small x r k e).1)

system_are : (x : System) (r : List Kind) → Each IsKnown x.routines → AreScanned (put_system x r) → Each IsRoutine x.routines
system_are x r k e =
    let last : List Kind = put_body x.body r in
    let routines : List Kind = put_all put_routine x.routines last in
    let inside : List Kind = put_all put_part x.parts routines in
    let p : Each IsSmallPart x.parts × AreScanned routines = each_small put_part IsSmallPart part_small x.parts routines (optional_small mark.Semicolon x.has_semicolon inside (parameters_after put_group group_after x.parameters (put_optional mark.Semicolon x.has_semicolon inside) e.1)) in
    (each_known put_routine IsKnown IsRoutine routine_is x.routines last k p.1).0

definition_are : (x : Definition) (r : List Kind) → EachIn IsKnown x → AreScanned (put_definition x r) → EachIn IsRoutine x
definition_are (type_definition t) r k e = tt
definition_are (system_definition s) r k e = system_are s r k e

named_are : (x : SystemDefinition) (r : List Kind) → EachIn IsKnown x.value → AreScanned (put_system_definition x r) → EachIn IsRoutine x.value × AreScanned r
named_are x r k e =
    let last : List Kind = kind.Mark mark.Semicolon ∷ r in
    (definition_are x.value last k e.1.1, (definition_small x.value last k e.1.1).1.1)

part_are : (x : ProgramPart) (r : List Kind) → EachInPart IsKnown x → AreScanned (put_program_part x r) → EachInPart IsRoutine x × AreScanned r
part_are (program_constants at ds) r k e = (tt, (program_part_small (program_constants at ds) r k e).1)
part_are (program_types at ds) r k e = each_known put_system_definition (λ (d : SystemDefinition). EachIn IsKnown d.value) (λ (d : SystemDefinition). EachIn IsRoutine d.value) named_are ds r k e.1
part_are (program_variables at gs) r k e = (tt, (program_part_small (program_variables at gs) r k e).1)

pub read_routines : (p : Program) → IsRead p → EachRoutine IsRoutine p
read_routines p h =
    let k : EachRoutine IsKnown p = indexed_known p h.proper.indexed in
    let last : List Kind = put_body p.body (kind.Mark mark.Period ∷ []) in
    let parts : Each (EachInPart IsRoutine) p.parts × AreScanned (put_all put_routine p.routines last) = each_known put_program_part (EachInPart IsKnown) (EachInPart IsRoutine) part_are p.parts (put_all put_routine p.routines last) k.0 (read_scanned p h) in
    (parts.0, (each_known put_routine IsKnown IsRoutine routine_is p.routines last k.1 parts.1).0)
