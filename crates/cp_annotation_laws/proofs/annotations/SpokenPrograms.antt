-- In a program that was read all names are written, and a routine without a name has no parts.
use Rattle.std.proofs.Common.{ℕ, Bool, true, false, subst, sym, List, [], ◌∷◌}
use Rattle.std.proofs.lemmas.Slice.Eq.{bytes_eq-Decides}
use Rattle.cp_text.specs.declared.token.Kind.{Kind}
use Rattle.cp_text.specs.declared.token.Kind.TheVariants as kind
use Rattle.cp_text.specs.declared.token.Mark.TheVariants as mark
use Rattle.cp_tree.specs.Read.{IsRead}
use Rattle.cp_tree.specs.Syntax.{nameless, Simple, type_name, enumeration, subrange, TypeTerm, simple, array_of, set_type, record_of, FieldGroups, no_fields, more_fields, fields, ConstantDefinition, TypeDefinition, VariableGroup, Part, constants, types, variables, Routine, System, Definition, type_definition, system_definition, SystemDefinition, ProgramPart, program_constants, program_types, program_variables, Program}
use Rattle.cp_tree.specs.Spelling.{is_nameless, put_routine_by, put_constant_kind, put_optional, put_all, put_identifier, put_simple, put_type, put_field_groups, put_more_field_groups, put_constant_definition, put_type_definition, put_variable_group, put_part, put_group, put_body, put_routine_kind, put_routine, put_system, put_definition, put_system_definition, put_program_part}
use Rattle.cp_resolved.specs.Openings.{meaning_at}
use Rattle.cp_resolved.specs.Small.{Each}
use Rattle.cp_resolved.proofs.agreeing.OpeningsBodies.{OfRoutine, OfDefinition, OfPart, body_at}
use Rattle.cp_resolved.proofs.declarations.Nameless.{IsKnownBy, IsKnown, EachIn, EachInPart, EachRoutine, indexed_known}
use Rattle.cp_resolved.proofs.declarations.SmallTokens.{AreScanned, names_small, optional_small, constant_small, simple_small, type_small}
use Rattle.cp_resolved.proofs.declarations.SmallStatements.{statements_after}
use Rattle.cp_resolved.proofs.declarations.SmallPrograms.{parameters_after, each_small, each_known, group_after, kind_after, body_after}
use Rattle.cp_resolved.proofs.declarations.SmallTexts.{read_scanned}
use Rattle.cp_annotation_laws.proofs.annotations.Spoken.{SpokenConstant, SpokenSimple, SpokenType, SpokenFields, SpokenPart, SpokenStatements, SpokenRoutine, SpokenDefinition, SpokenProgramPart, SpokenProgram}
use Rattle.cp_annotation_laws.proofs.annotations.SpokenBodies.{constant_spoken, statements_spoken}

-- ---- types

simple_spoken : (t : Simple) (rest : List Kind) → AreScanned (put_simple t rest) → SpokenSimple t
simple_spoken (type_name at n) rest e = tt
simple_spoken (enumeration at is) rest e = tt
simple_spoken (subrange at c d) rest e =
    (constant_spoken c (kind.Mark mark.DoublePeriod ∷ put_constant_kind d.kind rest) e, constant_spoken d rest (constant_small c.kind (kind.Mark mark.DoublePeriod ∷ put_constant_kind d.kind rest) e).1.1)

mutual
  type_spoken : (t : TypeTerm) (rest : List Kind) → AreScanned (put_type t rest) → SpokenType t
  type_spoken (simple at s) rest e = simple_spoken s rest e
  type_spoken (array_of at s t) rest e =
      let after : List Kind = kind.Mark mark.CloseBracket ∷ kind.Mark mark.Of ∷ put_type t rest in
      (simple_spoken s after e.1.1, type_spoken t rest (simple_small s after e.1.1).1.1.1)
  type_spoken (set_type at s) rest e = simple_spoken s rest e.1.1
  type_spoken (record_of at gs b) rest e = fields_spoken gs (put_optional mark.Semicolon b (kind.Mark mark.End ∷ rest)) e.1

  fields_spoken : (gs : FieldGroups) (rest : List Kind) → AreScanned (put_field_groups gs rest) → SpokenFields gs
  fields_spoken no_fields rest e = tt
  fields_spoken (more_fields (fields is t) gs) rest e =
      let after : List Kind = put_more_field_groups gs rest in
      let u : AreScanned (put_type t after) = (names_small is (kind.Mark mark.Colon ∷ put_type t after) e).1 in
      (type_spoken t after u, more_fields_spoken gs rest (type_small t after u).1)

  more_fields_spoken : (gs : FieldGroups) (rest : List Kind) → AreScanned (put_more_field_groups gs rest) → SpokenFields gs
  more_fields_spoken no_fields rest e = tt
  more_fields_spoken (more_fields (fields is t) gs) rest e =
      let after : List Kind = put_more_field_groups gs rest in
      let u : AreScanned (put_type t after) = (names_small is (kind.Mark mark.Colon ∷ put_type t after) e.1).1 in
      (type_spoken t after u, more_fields_spoken gs rest (type_small t after u).1)

-- ---- parts, each with the tokens after it

definition_spoken : (d : ConstantDefinition) (rest : List Kind) → AreScanned (put_constant_definition d rest) → SpokenConstant d.value × AreScanned rest
definition_spoken d rest e =
    let after : List Kind = kind.Mark mark.Semicolon ∷ rest in
    (constant_spoken d.value after e.1.1, (constant_small d.value.kind after e.1.1).1.1)

type_definition_spoken : (d : TypeDefinition) (rest : List Kind) → AreScanned (put_type_definition d rest) → SpokenType d.value × AreScanned rest
type_definition_spoken d rest e =
    let after : List Kind = kind.Mark mark.Semicolon ∷ rest in
    (type_spoken d.value after e.1.1, (type_small d.value after e.1.1).1.1)

variables_spoken : (g : VariableGroup) (rest : List Kind) → AreScanned (put_variable_group g rest) → SpokenType g.variable_type × AreScanned rest
variables_spoken g rest e =
    let after : List Kind = kind.Mark mark.Semicolon ∷ rest in
    let u : AreScanned (put_type g.variable_type after) = (names_small g.names (kind.Mark mark.Colon ∷ put_type g.variable_type after) e).1 in
    (type_spoken g.variable_type after u, (type_small g.variable_type after u).1.1)

part_spoken : (p : Part) (rest : List Kind) → AreScanned (put_part p rest) → SpokenPart p × AreScanned rest
part_spoken (constants at ds) rest e = each_small put_constant_definition (λ (d : ConstantDefinition). SpokenConstant d.value) definition_spoken ds rest e.1
part_spoken (types at ds) rest e = each_small put_type_definition (λ (d : TypeDefinition). SpokenType d.value) type_definition_spoken ds rest e.1
part_spoken (variables at gs) rest e = each_small put_variable_group (λ (g : VariableGroup). SpokenType g.variable_type) variables_spoken gs rest e.1

-- ---- routines: what they declare, and their statements

record RoutineSpoken (x : Routine) : Type 0 where
  declared : SpokenRoutine x
  body : SpokenStatements x.body.statements

routine_by : (b : Bool) (x : Routine) (r : List Kind) → IsKnownBy b x → AreScanned (put_routine_by b x r) → RoutineSpoken x × AreScanned r
routine_by true x r k e = (record { declared = record { parts = subst (Each SpokenPart) (sym k.no_parts) tt; bare = λ is. k.no_parts }; body = statements_spoken x.body.statements r e }, statements_after x.body.statements r e)
routine_by false x r k e =
    let last : List Kind = kind.Mark mark.Semicolon ∷ r in
    let inside : List Kind = put_all put_part x.parts (put_body x.body last) in
    let named : AreScanned (put_identifier x.name (put_routine_kind x.kind (kind.Mark mark.Semicolon ∷ inside))) = optional_small mark.Entry x.is_entry (put_identifier x.name (put_routine_kind x.kind (kind.Mark mark.Semicolon ∷ inside))) e.1 in
    let p : Each SpokenPart x.parts × AreScanned (put_body x.body last) = each_small put_part SpokenPart part_spoken x.parts (put_body x.body last) (kind_after x.kind (kind.Mark mark.Semicolon ∷ inside) named.1).1 in (
      record {
        declared = record { parts = p.0; bare = λ is. absurd (named.0.1 (sym ((bytes_eq-Decides nameless x.name.name).0 is))) };
        body = statements_spoken x.body.statements (kind.Mark mark.End ∷ last) p.1.1;
      },
      (body_after x.body last p.1).1,
    )

routine_spoken : (x : Routine) (r : List Kind) → IsKnown x → AreScanned (put_routine x r) → RoutineSpoken x × AreScanned r
routine_spoken x r k e = routine_by (is_nameless x.kind) x r k e

declared_of : (rs : List Routine) → Each RoutineSpoken rs → Each SpokenRoutine rs
declared_of [] h = tt
declared_of (r ∷ rs) h = (h.0.declared, declared_of rs h.1)

bodies_of : (rs : List Routine) → Each RoutineSpoken rs → Each (OfRoutine SpokenStatements) rs
bodies_of [] h = tt
bodies_of (r ∷ rs) h = (h.0.body, bodies_of rs h.1)

-- ---- system types and the program

record DefinitionSpoken (v : Definition) : Type 0 where
  declared : SpokenDefinition v
  bodies : OfDefinition SpokenStatements v

system_spoken : (x : System) (r : List Kind) → Each IsKnown x.routines → AreScanned (put_system x r) → DefinitionSpoken (system_definition x) × AreScanned r
system_spoken x r k e =
    let last : List Kind = put_body x.body r in
    let routines : List Kind = put_all put_routine x.routines last in
    let inside : List Kind = put_all put_part x.parts routines in
    let p : Each SpokenPart x.parts × AreScanned routines = each_small put_part SpokenPart part_spoken x.parts routines (optional_small mark.Semicolon x.has_semicolon inside (parameters_after put_group group_after x.parameters (put_optional mark.Semicolon x.has_semicolon inside) e.1)) in
    let q : Each RoutineSpoken x.routines × AreScanned last = each_known put_routine IsKnown RoutineSpoken routine_spoken x.routines last k p.1 in (
      record {
        declared = record { parts = p.0; routines = declared_of x.routines q.0 };
        bodies = (bodies_of x.routines q.0, statements_spoken x.body.statements (kind.Mark mark.End ∷ r) q.1.1);
      },
      body_after x.body r q.1,
    )

definition_of : (x : Definition) (r : List Kind) → EachIn IsKnown x → AreScanned (put_definition x r) → DefinitionSpoken x × AreScanned r
definition_of (type_definition t) r k e = (record { declared = type_spoken t r e; bodies = tt }, (type_small t r e).1)
definition_of (system_definition s) r k e = system_spoken s r k e

named_spoken : (x : SystemDefinition) (r : List Kind) → EachIn IsKnown x.value → AreScanned (put_system_definition x r) → DefinitionSpoken x.value × AreScanned r
named_spoken x r k e =
    let p : DefinitionSpoken x.value × AreScanned (kind.Mark mark.Semicolon ∷ r) = definition_of x.value (kind.Mark mark.Semicolon ∷ r) k e.1.1 in
    (p.0, p.1.1)

record PartSpoken (x : ProgramPart) : Type 0 where
  declared : SpokenProgramPart x
  bodies : OfPart SpokenStatements x

declared_all : (ns : List SystemDefinition) → Each (λ (n : SystemDefinition). DefinitionSpoken n.value) ns → Each (λ n. SpokenDefinition n.value) ns
declared_all [] h = tt
declared_all (n ∷ ns) h = (h.0.declared, declared_all ns h.1)

bodies_all : (ns : List SystemDefinition) → Each (λ (n : SystemDefinition). DefinitionSpoken n.value) ns → Each (λ n. OfDefinition SpokenStatements n.value) ns
bodies_all [] h = tt
bodies_all (n ∷ ns) h = (h.0.bodies, bodies_all ns h.1)

program_part_spoken : (x : ProgramPart) (r : List Kind) → EachInPart IsKnown x → AreScanned (put_program_part x r) → PartSpoken x × AreScanned r
program_part_spoken (program_constants at ds) r k e =
    let p = each_small put_constant_definition (λ (d : ConstantDefinition). SpokenConstant d.value) definition_spoken ds r e.1 in
    (record { declared = p.0; bodies = tt }, p.1)
program_part_spoken (program_types at ns) r k e =
    let p = each_known put_system_definition (λ (d : SystemDefinition). EachIn IsKnown d.value) (λ (d : SystemDefinition). DefinitionSpoken d.value) named_spoken ns r k e.1 in
    (record { declared = declared_all ns p.0; bodies = bodies_all ns p.0 }, p.1)
program_part_spoken (program_variables at gs) r k e =
    let p = each_small put_variable_group (λ (g : VariableGroup). SpokenType g.variable_type) variables_spoken gs r e.1 in
    (record { declared = p.0; bodies = tt }, p.1)

declared_parts : (qs : List ProgramPart) → Each PartSpoken qs → Each SpokenProgramPart qs
declared_parts [] h = tt
declared_parts (q ∷ qs) h = (h.0.declared, declared_parts qs h.1)

bodies_parts : (qs : List ProgramPart) → Each PartSpoken qs → Each (OfPart SpokenStatements) qs
bodies_parts [] h = tt
bodies_parts (q ∷ qs) h = (h.0.bodies, bodies_parts qs h.1)

module _ (p : Program) (read : IsRead p) where
  known : EachRoutine IsKnown p
  known = indexed_known p read.proper.indexed

  abbrev last : List Kind
  last = put_body p.body (kind.Mark mark.Period ∷ [])

  parts : Each PartSpoken p.parts × AreScanned (put_all put_routine p.routines last)
  parts = each_known put_program_part (EachInPart IsKnown) PartSpoken program_part_spoken p.parts (put_all put_routine p.routines last) known.0 (read_scanned p read)

  routines : Each RoutineSpoken p.routines × AreScanned last
  routines = each_known put_routine IsKnown RoutineSpoken routine_spoken p.routines last known.1 parts.1

  pub read_spoken : SpokenProgram p
  read_spoken = record { parts = declared_parts p.parts parts.0; routines = declared_of p.routines routines.0 }

  pub bodies_spoken : (n : ℕ) → SpokenStatements (meaning_at p n).body
  bodies_spoken n = body_at SpokenStatements p (bodies_parts p.parts parts.0) (bodies_of p.routines routines.0) (statements_spoken p.body.statements (kind.Mark mark.End ∷ kind.Mark mark.Period ∷ []) routines.1.1) n
