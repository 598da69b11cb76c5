-- Where the tokens of a program are as a text has them, its numbers and characters are small.
use Rattle.cp_resolved.proofs.Words.{Bool, true, false, subst, sym, List, [], ◌∷◌, Kind, Each, IsSmallPart, IsSmallRoutine, IsSmallSystem, IsSmallDefinition, IsSmallProgramPart, IsSmallProgram}
use Rattle.cp_text.specs.declared.token.Kind.TheVariants as kind
use Rattle.cp_text.specs.declared.token.Mark.TheVariants as mark
use Rattle.cp_tree.specs.Syntax.{Group, ParameterGroup, RoutineKind, procedure, function, invariants, Body, Routine, System, Definition, type_definition, system_definition, SystemDefinition, ProgramPart, program_constants, program_types, program_variables, Program}
use Rattle.cp_tree.specs.Spelling.{is_nameless, put_routine_by, put_optional, put_behind, put_all, put_parameters, put_identifier, put_part, put_group, put_parameter_group, put_body, put_routine_kind, put_routine, put_system, put_definition, put_system_definition, put_program_part, spell}
use Rattle.cp_resolved.proofs.declarations.Nameless.{IsKnownBy, IsKnown, EachIn, EachInPart, EachRoutine}
use Rattle.cp_resolved.proofs.declarations.SmallTokens.{AreScanned, names_small, optional_small, type_small, constants_small, variables_small, part_small}
use Rattle.cp_resolved.proofs.declarations.SmallStatements.{statements_after}

-- ---- lists

all_after : {A : Type 0} (put : A → List Kind → List Kind) → ((x : A) (r : List Kind) → AreScanned (put x r) → AreScanned r) → (xs : List A) (r : List Kind) → AreScanned (put_all put xs r) → AreScanned r
all_after put one [] r e = e
all_after put one (x ∷ xs) r e = all_after put one xs r (one x (put_all put xs r) e)

pub parameters_after : {A : Type 0} (put : A → List Kind → List Kind) → ((x : A) (r : List Kind) → AreScanned (put x r) → AreScanned r) → (xs : List A) (r : List Kind) → AreScanned (put_parameters put xs r) → AreScanned r
parameters_after put one [] r e = e
parameters_after put one (x ∷ xs) r e =
    let last : List Kind = kind.Mark mark.CloseParenthesis ∷ r in
    (all_after (put_behind mark.Semicolon put) (λ y q f. one y q f.1) xs last (one x (put_all (put_behind mark.Semicolon put) xs last) e.1)).1

pub each_small : {A : Type 0} (put : A → List Kind → List Kind) (P : A → Type 0) → ((x : A) (r : List Kind) → AreScanned (put x r) → P x × AreScanned r) → (xs : List A) (r : List Kind) → AreScanned (put_all put xs r) → Each P xs × AreScanned r
each_small put P one [] r e = (tt, e)
each_small put P one (x ∷ xs) r e =
    let p : P x × AreScanned (put_all put xs r) = one x (put_all put xs r) e in
    let q : Each P xs × AreScanned r = each_small put P one xs r p.1 in
    ((p.0, q.0), q.1)

-- the same of what is known besides
pub each_known : {A : Type 0} (put : A → List Kind → List Kind) (K P : A → Type 0) → ((x : A) (r : List Kind) → K x → AreScanned (put x r) → P x × AreScanned r) → (xs : List A) (r : List Kind) → Each K xs → AreScanned (put_all put xs r) → Each P xs × AreScanned r
each_known put K P one [] r k e = (tt, e)
each_known put K P one (x ∷ xs) r k e =
    let p : P x × AreScanned (put_all put xs r) = one x (put_all put xs r) k.0 e in
    let q : Each P xs × AreScanned r = each_known put K P one xs r k.1 p.1 in
    ((p.0, q.0), q.1)

-- ---- headings and bodies

pub group_after : (g : Group) (r : List Kind) → AreScanned (put_group g r) → AreScanned r
group_after g r e = (names_small g.names (kind.Mark mark.Colon ∷ put_identifier g.type_name r) e).1.1

pub parameter_group_after : (g : ParameterGroup) (r : List Kind) → AreScanned (put_parameter_group g r) → AreScanned r
parameter_group_after g r e = group_after g.group r (optional_small mark.Var g.is_var (put_group g.group r) e)

pub kind_after : (k : RoutineKind) (r : List Kind) → AreScanned (put_routine_kind k r) → AreScanned r
kind_after (procedure gs) r e = parameters_after put_parameter_group parameter_group_after gs r e
kind_after (function gs i) r e = (parameters_after put_group group_after gs (kind.Mark mark.Colon ∷ put_identifier i r) e).1.1
kind_after invariants r e = e

pub body_after : (b : Body) (r : List Kind) → AreScanned (put_body b r) → AreScanned r
body_after b r e = (statements_after b.statements (kind.Mark mark.End ∷ r) e.1).1

-- ---- routines, system types and programs

routine_by : (b : Bool) (x : Routine) (r : List Kind) → IsKnownBy b x → AreScanned (put_routine_by b x r) → IsSmallRoutine x × AreScanned r
routine_by true x r k e = (subst (Each IsSmallPart) (sym k.no_parts) tt, statements_after x.body.statements r e)
routine_by false x r k e =
    let last : List Kind = kind.Mark mark.Semicolon ∷ r in
    let inside : List Kind = put_all put_part x.parts (put_body x.body last) in
    let after_name : AreScanned (put_routine_kind x.kind (kind.Mark mark.Semicolon ∷ inside)) = (optional_small mark.Entry x.is_entry (put_identifier x.name (put_routine_kind x.kind (kind.Mark mark.Semicolon ∷ inside))) e.1).1 in
    let p : Each IsSmallPart x.parts × AreScanned (put_body x.body last) = each_small put_part IsSmallPart part_small x.parts (put_body x.body last) (kind_after x.kind (kind.Mark mark.Semicolon ∷ inside) after_name).1 in
    (p.0, (body_after x.body last p.1).1)

pub routine_small : (x : Routine) (r : List Kind) → IsKnown x → AreScanned (put_routine x r) → IsSmallRoutine x × AreScanned r
routine_small x r k e = routine_by (is_nameless x.kind) x r k e

system_small : (x : System) (r : List Kind) → Each IsKnown x.routines → AreScanned (put_system x r) → IsSmallSystem x × AreScanned r
system_small x r k e =
    let last : List Kind = put_body x.body r in
    let routines : List Kind = put_all put_routine x.routines last in
    let inside : List Kind = put_all put_part x.parts routines in
    let p : Each IsSmallPart x.parts × AreScanned routines = each_small put_part IsSmallPart part_small x.parts routines (optional_small mark.Semicolon x.has_semicolon inside (parameters_after put_group group_after x.parameters (put_optional mark.Semicolon x.has_semicolon inside) e.1)) in
    let q : Each IsSmallRoutine x.routines × AreScanned last = each_known put_routine IsKnown IsSmallRoutine routine_small x.routines last k p.1 in
    ((p.0, q.0), body_after x.body r q.1)

pub definition_small : (x : Definition) (r : List Kind) → EachIn IsKnown x → AreScanned (put_definition x r) → IsSmallDefinition x × AreScanned r
definition_small (type_definition t) r k e = type_small t r e
definition_small (system_definition s) r k e = system_small s r k e

named_small : (x : SystemDefinition) (r : List Kind) → EachIn IsKnown x.value → AreScanned (put_system_definition x r) → IsSmallDefinition x.value × AreScanned r
named_small x r k e =
    let p : IsSmallDefinition x.value × AreScanned (kind.Mark mark.Semicolon ∷ r) = definition_small x.value (kind.Mark mark.Semicolon ∷ r) k e.1.1 in
    (p.0, p.1.1)

pub program_part_small : (x : ProgramPart) (r : List Kind) → EachInPart IsKnown x → AreScanned (put_program_part x r) → IsSmallProgramPart x × AreScanned r
program_part_small (program_constants at ds) r k e = constants_small ds r e.1
program_part_small (program_types at ds) r k e = each_known put_system_definition (λ (d : SystemDefinition). EachIn IsKnown d.value) (λ (d : SystemDefinition). IsSmallDefinition d.value) named_small ds r k e.1
program_part_small (program_variables at gs) r k e = variables_small gs r e.1

pub program_small : (p : Program) → EachRoutine IsKnown p → AreScanned (spell p) → IsSmallProgram p
program_small p k e =
    let last : List Kind = put_body p.body (kind.Mark mark.Period ∷ []) in
    let parts : Each IsSmallProgramPart p.parts × AreScanned (put_all put_routine p.routines last) = each_known put_program_part (EachInPart IsKnown) IsSmallProgramPart program_part_small p.parts (put_all put_routine p.routines last) k.0 e in
    (parts.0, (each_known put_routine IsKnown IsSmallRoutine routine_small p.routines last k.1 parts.1).0)
