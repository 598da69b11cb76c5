-- In a program that was read, each record type has a field, and the constants of the enumerations in all types are known.
use Rattle.std.proofs.Common.{Bool, true, false, ◌≡◌, ℕ, List, [], ◌∷◌, length, sym, subst, ◌∙◌}
use Rattle.cp_legend_laws.proofs.Words.{Name, Tree, names_of, Each}
use Rattle.cp_text.specs.declared.token.Kind.{Kind}
use Rattle.cp_text.specs.declared.token.Kind.TheVariants as kind
use Rattle.cp_text.specs.declared.token.Mark.TheVariants as mark
use Rattle.cp_tree.specs.Read.{IsRead}
use Rattle.cp_tree.specs.Syntax as syntax
use Rattle.cp_tree.specs.Spelling.{is_nameless, put_optional, put_all, put_type, put_more_field_groups, put_type_definition, put_variable_group, put_part, put_body, put_routine, put_system_definition, put_program_part, spell}
use Rattle.cp_tree.specs.SpellingIndexed.{IsIndexedRoutineBy, AreAllIndexed, AreSomeIndexed, IsIndexedSimple, IsIndexedType, AreIndexedFieldGroups, AreIndexedMoreFieldGroups, IsIndexedFieldGroup, IsIndexedTypeDefinition, IsIndexedVariableGroup, IsIndexedPart, IsIndexedRoutine, IsIndexedSystem, IsIndexedDefinition, IsIndexedSystemDefinition, IsIndexedProgramPart, IsIndexedProgram}
use Rattle.cp_symbols.specs.declared.symbols.Symbols as code_symbols
use Rattle.cp_layout.specs.Laid.{laid, whole, tables_laid}
use Rattle.cp_layout.specs.Symbols.{AreSymbolsOf}
use Rattle.cp_legend.specs.Names.{source_seen}
use Rattle.cp_meaning.specs.Types.{Base, Ty, ordinal, queue_type, set_over, array_over, record_with, component_of, FieldTypes, no_field_types, more_field_types, range_of}
use Rattle.cp_resolved.specs.Enumerations.{Enumerated, constant_names, in_simple, in_type, in_groups, in_group, each_in, in_part, in_routine, in_system, in_definition, in_program_part, enumerations_of}
use Rattle.cp_resolved.specs.Names.{IsPlain}
use Rattle.cp_resolved.specs.Openings.{numbering_of}
use Rattle.cp_resolved.proofs.agreeing.AgreeingWritten.{each_left, each_right}
use Rattle.cp_resolved.proofs.declarations.EnumerationsRead.{read_few}
use Rattle.cp_resolved.proofs.names.Opened.{opened_all}
use Rattle.cp_resolved.proofs.names.StepsOfProgram.{names_laid}
use Rattle.cp_legend_laws.proofs.KnownConstants.{AllKnown, IsKnown, KnownBase, KnownFields, KnownType, enumerations_known}
use Rattle.cp_legend_laws.proofs.WrittenTypes.{AllFields, DefinitionFits, GroupFits, GroupsFit, HasField, PartFits, ProgramFits, ProgramHas, ProgramPartFits, RoutineFits, SimpleFits, SystemFits, TypeFits, TypeRules, program_has}

-- ---- types

abbrev pub IsSome : FieldTypes → Type 0
IsSome no_field_types = ⊥
IsSome (more_field_types x t ts) = Unit {0}

-- each record in it has a field
abbrev mutual
  pub IsFilled : Ty → Type 0
  IsFilled (array_over r t) = IsFilled t
  IsFilled (record_with ts) = AreFilled ts × IsSome ts
  IsFilled t = Unit {0}

  pub AreFilled : FieldTypes → Type 0
  AreFilled no_field_types = Unit {0}
  AreFilled (more_field_types x t ts) = IsFilled t × AreFilled ts

-- ---- what is written

module _ (cs : List Name) (firsts : ℕ → ℕ) where
  -- the constants of its enumerations are known, too
  abbrev pub IsSound : Ty → Type 0
  IsSound t = KnownType cs firsts t × IsFilled t

  base_known : (t : Ty) → KnownType cs firsts t → KnownBase cs firsts (range_of t).base
  base_known (ordinal r) h = h
  base_known queue_type h = tt
  base_known (set_over r) h = tt
  base_known (array_over r t) h = tt
  base_known (record_with ts) h = tt
  base_known (component_of n) h = tt

  fields_known : (ts : FieldTypes) → AllFields IsSound ts → KnownFields cs firsts ts × AreFilled ts
  fields_known no_field_types h = (tt, tt)
  fields_known (more_field_types x t ts) h = let a = fields_known ts h.1 in ((h.0.0, a.0), (h.0.1, a.1))

  sound_rules : TypeRules (KnownBase cs firsts) IsSound
  sound_rules =
      record {
        integer = tt;
        boolean = tt;
        character = tt;
        base = λ t h. base_known t h.0;
        ordinal_type = λ r h. (h, tt);
        queue = (tt, tt);
        set = λ r h. (h, tt);
        array = λ r t h i. ((h, i.0), i.1);
        record_type = λ x t ts h i. (let a = fields_known ts i in ((h.0, a.0), ((h.1, a.1), tt)));
        component = λ n. (tt, tt);
      }

  abbrev Named : Enumerated → Type 0
  Named e = IsKnown cs firsts e.at (names_of e.names)

  abbrev Fit : Base → Type 0
  Fit b = KnownBase cs firsts b

  module _ (total : ℕ) where
    -- what is read with its tokens fits, if its enumerations are known
    abbrev Fits : {A : Type 0} → (A → List Kind → Type 0) → (A → List Enumerated) → (A → Type 0) → Type 0
    Fits {A} indexed f P = (x : A) (rest : List Kind) → indexed x rest → Each Named (f x) → P x

    all_fit : {A : Type 0} (put : A → List Kind → List Kind) (indexed : A → List Kind → Type 0) (f : A → List Enumerated) (P : A → Type 0) → Fits indexed f P → (xs : List A) (rest : List Kind) → AreAllIndexed put indexed xs rest → Each Named (each_in f xs) → Each P xs
    all_fit put indexed f P one [] rest h e = tt
    all_fit put indexed f P one (x ∷ xs) rest h e = (one x (put_all put xs rest) h.0 (each_left Named (f x) (each_in f xs) e), all_fit put indexed f P one xs rest h.1 (each_right Named (f x) (each_in f xs) e))

    some_fit : {A : Type 0} (put : A → List Kind → List Kind) (indexed : A → List Kind → Type 0) (f : A → List Enumerated) (P : A → Type 0) → Fits indexed f P → (xs : List A) (rest : List Kind) → AreSomeIndexed put indexed xs rest → Each Named (each_in f xs) → Each P xs
    some_fit put indexed f P one [] rest h e = tt
    some_fit put indexed f P one (x ∷ xs) rest h e = all_fit put indexed f P one (x ∷ xs) rest h e

    simple_fits : Fits (IsIndexedSimple total) in_simple (SimpleFits Fit)
    simple_fits (syntax.type_name at x) rest h e = tt
    simple_fits (syntax.enumeration at is) rest h e = e.0
    simple_fits (syntax.subrange at c d) rest h e = tt

    has_field : (gs : syntax.FieldGroups) (rest : List Kind) → AreIndexedFieldGroups total gs rest → HasField Fit gs
    has_field syntax.no_fields rest h = absurd h
    has_field (syntax.more_fields (syntax.fields [] t) gs) rest h = absurd h.0.0
    has_field (syntax.more_fields (syntax.fields (i ∷ is) t) gs) rest h = tt

    mutual
      type_fits : Fits (IsIndexedType total) in_type (TypeFits Fit)
      type_fits (syntax.simple at s) rest h e = simple_fits s rest h.1 e
      type_fits (syntax.array_of at s t) rest h e = (simple_fits s (kind.Mark mark.CloseBracket ∷ kind.Mark mark.Of ∷ put_type t rest) h.1 (each_left Named (in_simple s) (in_type t) e), type_fits t rest h.2 (each_right Named (in_simple s) (in_type t) e))
      type_fits (syntax.set_type at s) rest h e = simple_fits s rest h.1 e
      type_fits (syntax.record_of at gs b) rest h e = (has_field gs (put_optional mark.Semicolon b (kind.Mark mark.End ∷ rest)) h.1, groups_fit gs (put_optional mark.Semicolon b (kind.Mark mark.End ∷ rest)) h.1 e)

      groups_fit : Fits (AreIndexedFieldGroups total) in_groups (GroupsFit Fit)
      groups_fit syntax.no_fields rest h e = tt
      groups_fit (syntax.more_fields g gs) rest h e = (group_fits g (put_more_field_groups gs rest) h.0 (each_left Named (in_group g) (in_groups gs) e), more_fit gs rest h.1 (each_right Named (in_group g) (in_groups gs) e))

      more_fit : Fits (AreIndexedMoreFieldGroups total) in_groups (GroupsFit Fit)
      more_fit syntax.no_fields rest h e = tt
      more_fit (syntax.more_fields g gs) rest h e = (group_fits g (put_more_field_groups gs rest) h.0 (each_left Named (in_group g) (in_groups gs) e), more_fit gs rest h.1 (each_right Named (in_group g) (in_groups gs) e))

      group_fits : Fits (IsIndexedFieldGroup total) in_group (GroupFits Fit)
      group_fits (syntax.fields is t) rest h e = type_fits t rest h.1 e

    definition_fits : Fits (IsIndexedTypeDefinition total) (λ (d : syntax.TypeDefinition). in_type d.value) (λ (d : syntax.TypeDefinition). TypeFits Fit d.value)
    definition_fits d rest h e = type_fits d.value (kind.Mark mark.Semicolon ∷ rest) h.1 e

    variables_fit : Fits (IsIndexedVariableGroup total) (λ (g : syntax.VariableGroup). in_type g.variable_type) (λ (g : syntax.VariableGroup). TypeFits Fit g.variable_type)
    variables_fit g rest h e = type_fits g.variable_type (kind.Mark mark.Semicolon ∷ rest) h.1 e

    part_fits : Fits (IsIndexedPart total) in_part (PartFits Fit)
    part_fits (syntax.constants at ds) rest h e = tt
    part_fits (syntax.types at ds) rest h e = some_fit put_type_definition (IsIndexedTypeDefinition total) (λ (d : syntax.TypeDefinition). in_type d.value) (λ (d : syntax.TypeDefinition). TypeFits Fit d.value) definition_fits ds rest h.1 e
    part_fits (syntax.variables at gs) rest h e = some_fit put_variable_group (IsIndexedVariableGroup total) (λ (g : syntax.VariableGroup). in_type g.variable_type) (λ (g : syntax.VariableGroup). TypeFits Fit g.variable_type) variables_fit gs rest h.1 e

    routine_fits_by : (b : Bool) (r : syntax.Routine) (rest : List Kind) → IsIndexedRoutineBy total b r rest → Each Named (in_routine r) → RoutineFits Fit r
    routine_fits_by true r rest h e = subst (λ (ps : List syntax.Part). Each (PartFits Fit) ps) (sym h.no_parts) tt
    routine_fits_by false r rest h e = all_fit put_part (IsIndexedPart total) in_part (PartFits Fit) part_fits r.parts (put_body r.body (kind.Mark mark.Semicolon ∷ rest)) h.3 e

    routine_fits : Fits (IsIndexedRoutine total) in_routine (RoutineFits Fit)
    routine_fits r rest h e = routine_fits_by (is_nameless r.kind) r rest h e

    system_fits : Fits (IsIndexedSystem total) in_system (SystemFits Fit)
    system_fits s rest h e = (
      all_fit put_part (IsIndexedPart total) in_part (PartFits Fit) part_fits s.parts (put_all put_routine s.routines (put_body s.body rest)) h.2 (each_left Named (each_in in_part s.parts) (each_in in_routine s.routines) e),
      all_fit put_routine (IsIndexedRoutine total) in_routine (RoutineFits Fit) routine_fits s.routines (put_body s.body rest) h.3 (each_right Named (each_in in_part s.parts) (each_in in_routine s.routines) e),
    )

    defined_fits : Fits (IsIndexedDefinition total) in_definition (DefinitionFits Fit)
    defined_fits (syntax.type_definition t) rest h e = type_fits t rest h e
    defined_fits (syntax.system_definition s) rest h e = system_fits s rest h e

    named_fits : Fits (IsIndexedSystemDefinition total) (λ (d : syntax.SystemDefinition). in_definition d.value) (λ (d : syntax.SystemDefinition). DefinitionFits Fit d.value)
    named_fits d rest h e = defined_fits d.value (kind.Mark mark.Semicolon ∷ rest) h.1 e

    program_part_fits : Fits (IsIndexedProgramPart total) in_program_part (ProgramPartFits Fit)
    program_part_fits (syntax.program_constants at ds) rest h e = tt
    program_part_fits (syntax.program_types at ns) rest h e = some_fit put_system_definition (IsIndexedSystemDefinition total) (λ (d : syntax.SystemDefinition). in_definition d.value) (λ (d : syntax.SystemDefinition). DefinitionFits Fit d.value) named_fits ns rest h.1 e
    program_part_fits (syntax.program_variables at gs) rest h e = some_fit put_variable_group (IsIndexedVariableGroup total) (λ (g : syntax.VariableGroup). in_type g.variable_type) (λ (g : syntax.VariableGroup). TypeFits Fit g.variable_type) variables_fit gs rest h.1 e

    program_fits : (p : syntax.Program) → IsIndexedProgram total p → Each Named (enumerations_of p) → ProgramFits Fit p
    program_fits p h e =
        let last : List Kind = put_body p.body (kind.Mark mark.Period ∷ []) in (
          all_fit put_program_part (IsIndexedProgramPart total) in_program_part (ProgramPartFits Fit) program_part_fits p.parts (put_all put_routine p.routines last) h.0 (each_left Named (each_in in_program_part p.parts) (each_in in_routine p.routines) e),
          all_fit put_routine (IsIndexedRoutine total) in_routine (RoutineFits Fit) routine_fits p.routines last h.1 (each_right Named (each_in in_program_part p.parts) (each_in in_routine p.routines) e),
        )

-- ---- the types of a tree

-- all parameters and variables, and results
pub types_are_sound : (p : syntax.Program) → IsPlain p → IsRead p → ProgramHas (IsSound (constant_names p) (numbering_of p).firsts) p
types_are_sound p plain read =
    let cs : List Name = constant_names p in
    let firsts : ℕ → ℕ = (numbering_of p).firsts in
    let named : AllKnown cs firsts (enumerations_of p) = enumerations_known p firsts plain.numbered (read_few p read) in
    program_has (KnownBase cs firsts) (IsSound cs firsts) (sound_rules cs firsts) p (program_fits cs firsts (length (spell p)) p read.proper.indexed named)

pub constants_same : (t : Tree) (y : code_symbols.Symbols) → AreSymbolsOf y (whole t) → IsPlain t.program → (source_seen y).constants ≡ constant_names t.program
unfolding laid tables_laid
constants_same t y is plain = is.constants ∙ names_laid (numbering_of t.program) t plain.small plain.fit plain.numbered (opened_all t.program)

-- by the constants that the legend has
pub sound_types : (t : Tree) (y : code_symbols.Symbols) → AreSymbolsOf y (whole t) → IsPlain t.program → IsRead t.program → ProgramHas (IsSound (source_seen y).constants (numbering_of t.program).firsts) t.program
sound_types t y is plain read = subst (λ (cs : List Name). ProgramHas (IsSound cs (numbering_of t.program).firsts) t.program) (sym (constants_same t y is plain)) (types_are_sound t.program plain read)
