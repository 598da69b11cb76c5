-- What holds of all types that are written in a program holds of the types of its parameters and variables, and of results.
use Rattle.std.proofs.Common.{ℕ, zero, suc, pos, Bool, true, false, if◌then◌else◌, List, [], ◌∷◌, ◌++◌, length, Option, Some, None, slice_get}
use Rattle.cp_legend_laws.proofs.Words.{Name, Identifier, Each, Variable, named_variables}
use Rattle.cp_tree.specs.declared.constant.ConstantKind.{ConstantKind}
use Rattle.cp_tree.specs.declared.constant.ConstantKind.TheVariants as constant_kind
use Rattle.cp_tree.specs.Syntax as syntax
use Rattle.cp_meaning.specs.Names.{same_name}
use Rattle.cp_meaning.specs.Types.{Base, integers, booleans, characters, enumerated, Range, Ty, ordinal, queue_type, set_over, array_over, record_with, component_of, FieldTypes, no_field_types, more_field_types, all_integers, all_booleans, all_characters, range_of}
use Rattle.cp_meaning.specs.Scopes.{Meaning, constant_meaning, type_meaning, local_variable, permanent_variable, routine_meaning, standard_meaning, Scope, find, is_seen, seen_inside, predeclared}
use Rattle.cp_meaning.specs.Declarations.{Block, Heading, Parameter, RoutineMeaning, constant_meant, constant_of_kind, constant_of, type_named, names_of, with_constants, simple_in, more_of_type, type_in, fields_in, group_in, constants_in, types_in, with_names, variables_in, part_in, parts_in, parameters_named, with_group, with_groups, with_parameter_groups, heading_of, result_of, routine_in}
use Rattle.cp_meaning.specs.Steps.{parameter_variables}
use Rattle.cp_meaning.specs.Systems.{SystemMeaning, system_in, Declared, definition_in, definitions_in, program_part_in, program_parts_in, declared, own_meaning, or_own, program_system, system_of}
use Rattle.cp_resolved.specs.Fit.{nothing_declared}
use Rattle.cp_resolved.specs.Openings.{Opening, with_routine, routine_openings, initial_opening, system_openings, parts_scope, definition_openings, definitions_openings, part_openings, parts_openings, openings_of, meaning_in, meaning_at}
use Rattle.cp_resolved.specs.Resolved.{initial_meaning}
use Rattle.cp_resolved.proofs.frames.FrameCells.{each_both}

abbrev pub AllFields : (Ty → Type 0) → FieldTypes → Type 0
AllFields T no_field_types = Unit {0}
AllFields T (more_field_types x t ts) = T t × AllFields T ts

-- A property of bases and one of types that each type has whose parts have them; a record has a field.
pub record TypeRules (B : Base → Type 0) (T : Ty → Type 0) : Type 0 where
  pub integer : B integers
  pub boolean : B booleans
  pub character : B characters
  pub base : (t : Ty) → T t → B (range_of t).base
  pub ordinal_type : (r : Range) → B r.base → T (ordinal r)
  pub queue : T queue_type
  pub set : (r : Range) → B r.base → T (set_over r)
  pub array : (r : Range) (t : Ty) → B r.base → T t → T (array_over r t)
  pub record_type : (x : Name) (t : Ty) (ts : FieldTypes) → T t → AllFields T ts → T (record_with (more_field_types x t ts))
  pub component : (n : ℕ) → T (component_of n)

-- ---- as they are written: the enumerations have the property, and each record has a field

module _ (B : Base → Type 0) where
  abbrev pub SimpleFits : syntax.Simple → Type 0
  SimpleFits (syntax.enumeration at is) = B (enumerated at (names_of is))
  SimpleFits s = Unit {0}

  abbrev pub HasField : syntax.FieldGroups → Type 0
  HasField (syntax.more_fields (syntax.fields (i ∷ is) t) gs) = Unit {0}
  HasField gs = ⊥

  abbrev mutual
    pub TypeFits : syntax.TypeTerm → Type 0
    TypeFits (syntax.simple at s) = SimpleFits s
    TypeFits (syntax.array_of at s t) = SimpleFits s × TypeFits t
    TypeFits (syntax.set_type at s) = SimpleFits s
    TypeFits (syntax.record_of at gs b) = HasField gs × GroupsFit gs

    pub GroupsFit : syntax.FieldGroups → Type 0
    GroupsFit syntax.no_fields = Unit {0}
    GroupsFit (syntax.more_fields g gs) = GroupFits g × GroupsFit gs

    pub GroupFits : syntax.FieldGroup → Type 0
    GroupFits (syntax.fields is t) = TypeFits t

  abbrev pub PartFits : syntax.Part → Type 0
  PartFits (syntax.constants at ds) = Unit {0}
  PartFits (syntax.types at ds) = Each (λ (d : syntax.TypeDefinition). TypeFits d.value) ds
  PartFits (syntax.variables at gs) = Each (λ (g : syntax.VariableGroup). TypeFits g.variable_type) gs

  abbrev pub RoutineFits : syntax.Routine → Type 0
  RoutineFits r = Each PartFits r.parts

  abbrev pub SystemFits : syntax.System → Type 0
  SystemFits s = Each PartFits s.parts × Each RoutineFits s.routines

  abbrev pub DefinitionFits : syntax.Definition → Type 0
  DefinitionFits (syntax.type_definition t) = TypeFits t
  DefinitionFits (syntax.system_definition s) = SystemFits s

  abbrev pub ProgramPartFits : syntax.ProgramPart → Type 0
  ProgramPartFits (syntax.program_constants at ds) = Unit {0}
  ProgramPartFits (syntax.program_types at ns) = Each (λ (n : syntax.SystemDefinition). DefinitionFits n.value) ns
  ProgramPartFits (syntax.program_variables at gs) = Each (λ (g : syntax.VariableGroup). TypeFits g.variable_type) gs

  abbrev pub ProgramFits : syntax.Program → Type 0
  ProgramFits p = Each ProgramPartFits p.parts × Each RoutineFits p.routines

-- ---- what they stand for

module _ (T : Ty → Type 0) where
  abbrev pub VariablesHave : List Variable → Type 0
  VariablesHave vs = Each (λ (v : Variable). T v.ty) vs

  abbrev pub ParametersHave : List Parameter → Type 0
  ParametersHave qs = Each (λ (q : Parameter). T q.ty) qs

  abbrev pub ResultHas : Option Ty → Type 0
  ResultHas None = Unit {0}
  ResultHas (Some t) = T t

  pub record RoutineHas (m : RoutineMeaning) : Type 0 where
    pub parameters : ParametersHave m.parameters
    pub variables : VariablesHave m.variables
    pub result : ResultHas m.result

  pub record SystemHas (m : SystemMeaning) : Type 0 where
    pub parameters : ParametersHave m.parameters
    pub variables : VariablesHave m.variables

  pub record ProgramHas (p : syntax.Program) : Type 0 where
    pub systems : (k : ℕ) → SystemHas (system_of p k)
    pub routines : (n : ℕ) → RoutineHas (meaning_at p n)

pub variables_have : (T : Ty → Type 0) (qs : List Parameter) → ParametersHave T qs → VariablesHave T (parameter_variables qs)
variables_have T [] h = tt
variables_have T (q ∷ qs) h = (h.0, variables_have T qs h.1)

module _ (B : Base → Type 0) (T : Ty → Type 0) (rules : TypeRules B T) where
  abbrev MeaningHas : Meaning → Type 0
  MeaningHas (constant_meaning b z) = B b
  MeaningHas (type_meaning t) = T t
  MeaningHas m = Unit {0}

  abbrev ScopeHas : Scope → Type 0
  ScopeHas s = Each (λ d. MeaningHas d.1) s

  found_has : (x : Name) (s : Scope) → ScopeHas s → B (constant_meant (find x s)).0
  found_has x [] h = rules.integer
  found_has x (d ∷ ds) h = go (same_name x d.0) (found_has x ds h.1)
    where
      here : (m : Meaning) → MeaningHas m → B (constant_meant (Some m)).0
      here (constant_meaning b z) k = k
      here (type_meaning t) k = rules.integer
      here (local_variable t) k = rules.integer
      here (permanent_variable t) k = rules.integer
      here (routine_meaning r) k = rules.integer
      here (standard_meaning q) k = rules.integer

      go : (b : Bool) → B (constant_meant (find x ds)).0 → B (constant_meant (if b then Some d.1 else find x ds)).0
      go true rest = here d.1 h.0
      go false rest = rest

  constant_has : (s : Scope) (c : ConstantKind) → ScopeHas s → B (constant_of_kind s c).0
  constant_has s (constant_kind.Number o n) h = rules.integer
  constant_has s (constant_kind.Name o i) h = found_has i.name s h
  constant_has s (constant_kind.Character c) h = rules.character

  named_has : (x : Name) (s : Scope) → ScopeHas s → T (type_named s x)
  named_has x [] h = rules.ordinal_type all_integers rules.integer
  named_has x ((n, type_meaning t) ∷ s) h = go (same_name x n) (named_has x s h.1)
    where
      go : (b : Bool) → T (type_named s x) → T (if b then t else type_named s x)
      go true rest = h.0
      go false rest = rest
  named_has x ((n, constant_meaning b z) ∷ s) h = named_has x s h.1
  named_has x ((n, local_variable t) ∷ s) h = named_has x s h.1
  named_has x ((n, permanent_variable t) ∷ s) h = named_has x s h.1
  named_has x ((n, routine_meaning r) ∷ s) h = named_has x s h.1
  named_has x ((n, standard_meaning q) ∷ s) h = named_has x s h.1

  constants_have : (b : Base) (n : ℕ) (xs : List Name) (s : Scope) → B b → ScopeHas s → ScopeHas (with_constants b n xs s)
  constants_have b n [] s k h = h
  constants_have b n (x ∷ xs) s k h = constants_have b (suc n) xs ((x, constant_meaning b (pos n)) ∷ s) k (k, h)

  names_have : (xs : List Name) (m : Meaning) (s : Scope) → MeaningHas m → ScopeHas s → ScopeHas (with_names xs m s)
  names_have [] m s k h = h
  names_have (x ∷ xs) m s k h = names_have xs m ((x, m) ∷ s) k (k, h)

  -- ---- types

  simple_has : (s : Scope) (t : syntax.Simple) → SimpleFits B t → ScopeHas s → T (simple_in s t).0 × ScopeHas (simple_in s t).1
  simple_has s (syntax.type_name at x) e h = (named_has x s h, h)
  simple_has s (syntax.enumeration at is) e h = (rules.ordinal_type (range_of (simple_in s (syntax.enumeration at is)).0) e, constants_have (enumerated at (names_of is)) 0 (names_of is) s e h)
  simple_has s (syntax.subrange at c d) e h = (rules.ordinal_type (range_of (simple_in s (syntax.subrange at c d)).0) (constant_has s c.kind h), h)

  more_have : (is : List Identifier) (t : Ty) (ts : FieldTypes) → T t → AllFields T ts → AllFields T (more_of_type is t ts)
  more_have [] t ts h k = k
  more_have (i ∷ is) t ts h k = (h, more_have is t ts h k)

  record_has : (s : Scope) (gs : syntax.FieldGroups) → HasField B gs → AllFields T (fields_in s gs).0 → T (record_with (fields_in s gs).0)
  record_has s syntax.no_fields e h = absurd e
  record_has s (syntax.more_fields (syntax.fields [] t) gs) e h = absurd e
  record_has s (syntax.more_fields (syntax.fields (i ∷ is) t) gs) e h = rules.record_type i.name (type_in s t).0 (more_of_type is (type_in s t).0 (fields_in (type_in s t).1 gs).0) h.0 h.1

  mutual
    type_has : (s : Scope) (t : syntax.TypeTerm) → TypeFits B t → ScopeHas s → T (type_in s t).0 × ScopeHas (type_in s t).1
    type_has s (syntax.simple at t) e h = simple_has s t e h
    type_has s (syntax.array_of at i t) e h =
        let a = simple_has s i e.0 h in
        let b = type_has (simple_in s i).1 t e.1 a.1 in
        (rules.array (range_of (simple_in s i).0) (type_in (simple_in s i).1 t).0 (rules.base (simple_in s i).0 a.0) b.0, b.1)
    type_has s (syntax.set_type at t) e h = let a = simple_has s t e h in (rules.set (range_of (simple_in s t).0) (rules.base (simple_in s t).0 a.0), a.1)
    type_has s (syntax.record_of at gs b) e h = let a = groups_have s gs e.1 h in (record_has s gs e.0 a.0, a.1)

    groups_have : (s : Scope) (gs : syntax.FieldGroups) → GroupsFit B gs → ScopeHas s → AllFields T (fields_in s gs).0 × ScopeHas (fields_in s gs).1
    groups_have s syntax.no_fields e h = (tt, h)
    groups_have s (syntax.more_fields g gs) e h =
        let a = group_has s g e.0 h in
        let b = groups_have (group_in s g).2 gs e.1 a.1 in
        (more_have (group_in s g).0 (group_in s g).1 (fields_in (group_in s g).2 gs).0 a.0 b.0, b.1)

    group_has : (s : Scope) (g : syntax.FieldGroup) → GroupFits B g → ScopeHas s → T (group_in s g).1 × ScopeHas (group_in s g).2
    group_has s (syntax.fields is t) e h = type_has s t e h

  -- ---- parts

  definitions_of_constants : (s : Scope) (ds : List syntax.ConstantDefinition) → ScopeHas s → ScopeHas (constants_in s ds)
  definitions_of_constants s [] h = h
  definitions_of_constants s (d ∷ ds) h = definitions_of_constants ((d.name.name, constant_meaning (constant_of s d.value).0 (constant_of s d.value).1) ∷ s) ds (constant_has s d.value.kind h, h)

  definitions_of_types : (s : Scope) (ds : List syntax.TypeDefinition) → Each (λ (d : syntax.TypeDefinition). TypeFits B d.value) ds → ScopeHas s → ScopeHas (types_in s ds)
  definitions_of_types s [] e h = h
  definitions_of_types s (d ∷ ds) e h = let a = type_has s d.value e.0 h in definitions_of_types ((d.name.name, type_meaning (type_in s d.value).0) ∷ (type_in s d.value).1) ds e.1 (a.0, a.1)

  all_variables : (xs : List Name) (t : Ty) → T t → VariablesHave T (named_variables xs t)
  all_variables [] t h = tt
  all_variables (x ∷ xs) t h = (h, all_variables xs t h)

  all_parameters : (xs : List Name) (t : Ty) (b : Bool) → T t → ParametersHave T (parameters_named xs t b)
  all_parameters [] t b h = tt
  all_parameters (x ∷ xs) t b h = (h, all_parameters xs t b h)

  abbrev BlockHas : Block → Type 0
  BlockHas b = VariablesHave T b.variables × ScopeHas b.scope

  abbrev HeadingHas : Heading → Type 0
  HeadingHas h = ParametersHave T h.parameters × ScopeHas h.scope

  -- of permanent variables, or of local ones
  module _ (m : Ty → Meaning) (any : (t : Ty) → MeaningHas (m t)) where
    groups_of_variables : (b : Block) (gs : List syntax.VariableGroup) → Each (λ (g : syntax.VariableGroup). TypeFits B g.variable_type) gs → BlockHas b → BlockHas (variables_in m b gs)
    groups_of_variables b [] e h = h
    groups_of_variables b (g ∷ gs) e h =
        let y = type_in b.scope g.variable_type in
        let a = type_has b.scope g.variable_type e.0 h.1 in
        let c : Block = record { variables = b.variables ++ named_variables (names_of g.names) y.0; scope = with_names (names_of g.names) (m y.0) y.1 } in
        groups_of_variables c gs e.1 (each_both (λ (v : Variable). T v.ty) b.variables (named_variables (names_of g.names) y.0) h.0 (all_variables (names_of g.names) y.0 a.0), names_have (names_of g.names) (m y.0) y.1 (any y.0) a.1)

    part_has : (b : Block) (p : syntax.Part) → PartFits B p → BlockHas b → BlockHas (part_in m b p)
    part_has b (syntax.constants at ds) e h = (h.0, definitions_of_constants b.scope ds h.1)
    part_has b (syntax.types at ds) e h = (h.0, definitions_of_types b.scope ds e h.1)
    part_has b (syntax.variables at gs) e h = groups_of_variables b gs e h

    parts_have : (b : Block) (ps : List syntax.Part) → Each (PartFits B) ps → BlockHas b → BlockHas (parts_in m b ps)
    parts_have b [] e h = h
    parts_have b (p ∷ ps) e h = parts_have (part_in m b p) ps e.1 (part_has b p e.0 h)

    with_group_has : (is_var : Bool) (h : Heading) (g : syntax.Group) → HeadingHas h → HeadingHas (with_group m is_var h g)
    with_group_has is_var h g k =
        let t : Ty = type_named h.scope g.type_name.name in
        let a : T t = named_has g.type_name.name h.scope k.1 in
        (each_both (λ (q : Parameter). T q.ty) h.parameters (parameters_named (names_of g.names) t is_var) k.0 (all_parameters (names_of g.names) t is_var a), names_have (names_of g.names) (m t) h.scope (any t) k.1)

    with_groups_have : (h : Heading) (gs : List syntax.Group) → HeadingHas h → HeadingHas (with_groups m h gs)
    with_groups_have h [] k = k
    with_groups_have h (g ∷ gs) k = with_groups_have (with_group m false h g) gs (with_group_has false h g k)

  with_parameters_have : (h : Heading) (gs : List syntax.ParameterGroup) → HeadingHas h → HeadingHas (with_parameter_groups h gs)
  with_parameters_have h [] k = k
  with_parameters_have h (g ∷ gs) k = with_parameters_have (with_group local_variable g.is_var h g.group) gs (with_group_has local_variable (λ t. tt) g.is_var h g.group k)

  inside_has : (s : Scope) → ScopeHas s → ScopeHas (seen_inside s)
  inside_has [] h = tt
  inside_has (d ∷ ds) h = go (is_seen d.1) (inside_has ds h.1)
    where
      go : (b : Bool) → ScopeHas (seen_inside ds) → ScopeHas (if b then d ∷ seen_inside ds else seen_inside ds)
      go true rest = (h.0, rest)
      go false rest = rest

  -- ---- routines

  heading_has : (s : Scope) (k : syntax.RoutineKind) → ScopeHas s → HeadingHas (heading_of s k)
  heading_has s (syntax.procedure gs) h = with_parameters_have (record { parameters = []; scope = s }) gs (tt, h)
  heading_has s (syntax.function gs i) h = with_groups_have local_variable (λ t. tt) (record { parameters = []; scope = s }) gs (tt, h)
  heading_has s syntax.invariants h = (tt, h)

  result_has : (s : Scope) (k : syntax.RoutineKind) → ScopeHas s → ResultHas T (result_of s k)
  result_has s (syntax.procedure gs) h = tt
  result_has s (syntax.function gs i) h = named_has i.name s h
  result_has s syntax.invariants h = tt

  routine_has : (s : Scope) (r : syntax.Routine) → RoutineFits B r → ScopeHas s → RoutineHas T (routine_in s r)
  routine_has s r e h =
      let g : Heading = heading_of s r.kind in
      let a : HeadingHas g = heading_has s r.kind h in
      let b = parts_have local_variable (λ t. tt) (record { variables = []; scope = g.scope }) r.parts e (tt, a.1) in
      record { parameters = a.0; variables = b.0; result = result_has g.scope r.kind a.1 }

  abbrev OpeningHas : Opening → Type 0
  OpeningHas o = RoutineHas T o.meaning

  routines_have : (k : ℕ) (s : Scope) (rs : List syntax.Routine) → Each (RoutineFits B) rs → ScopeHas s → Each OpeningHas (routine_openings k s rs)
  routines_have k s [] e h = tt
  routines_have k s (r ∷ rs) e h = (routine_has (with_routine s r) r e.0 (tt, h), routines_have k (with_routine s r) rs e.1 (tt, h))

  initial_has : (m : SystemMeaning) → RoutineHas T (initial_meaning m)
  initial_has m = record { parameters = tt; variables = tt; result = tt }

  -- ---- system types

  -- the heading of one, and its parts
  module _ (u : Scope) (h : ScopeHas u) (s : syntax.System) (e : SystemFits B s) where
    abbrev g : Heading
    g = with_groups permanent_variable (record { parameters = []; scope = u }) s.parameters

    groups : HeadingHas g
    groups = with_groups_have permanent_variable (λ t. tt) (record { parameters = []; scope = u }) s.parameters (tt, h)

    parts : BlockHas (parts_in permanent_variable (record { variables = []; scope = g.scope }) s.parts)
    parts = parts_have permanent_variable (λ t. tt) (record { variables = []; scope = g.scope }) s.parts e.0 (tt, groups.1)

    system_has : SystemHas T (system_in u s)
    system_has = record { parameters = groups.0; variables = parts.0 }

    system_routines : (k : ℕ) → Each OpeningHas (system_openings k u s)
    system_routines k = each_both OpeningHas (routine_openings k (parts_scope u s) s.routines) (initial_opening k (system_in u s) ∷ []) (routines_have k (parts_scope u s) s.routines e.1 parts.1) (initial_has (system_in u s), tt)

  -- ---- the program

  record DeclaredHas (d : Declared) : Type 0 where
    systems : Each (SystemHas T) d.systems
    variables : VariablesHave T d.variables
    scope : ScopeHas d.scope

  definition_has : (d : Declared) (n : syntax.SystemDefinition) (v : syntax.Definition) → DefinitionFits B v → DeclaredHas d → DeclaredHas (definition_in d n v) × Each OpeningHas (definition_openings d v)
  definition_has d n (syntax.type_definition t) e h = let a = type_has d.scope t e h.scope in (record { systems = h.systems; variables = h.variables; scope = (a.0, a.1) }, tt)
  definition_has d n (syntax.system_definition s) e h =
      let u : Scope = seen_inside d.scope in
      let i : ScopeHas u = inside_has d.scope h.scope in (
        record { systems = each_both (SystemHas T) d.systems (system_in u s ∷ []) h.systems (system_has u i s e, tt); variables = h.variables; scope = (rules.component (length d.systems), h.scope) },
        system_routines u i s e (length d.systems),
      )

  definitions_have : (d : Declared) (ns : List syntax.SystemDefinition) → Each (λ (n : syntax.SystemDefinition). DefinitionFits B n.value) ns → DeclaredHas d → DeclaredHas (definitions_in d ns) × Each OpeningHas (definitions_openings d ns)
  definitions_have d [] e h = (h, tt)
  definitions_have d (n ∷ ns) e h =
      let a = definition_has d n n.value e.0 h in
      let b = definitions_have (definition_in d n n.value) ns e.1 a.0 in
      (b.0, each_both OpeningHas (definition_openings d n.value) (definitions_openings (definition_in d n n.value) ns) a.1 b.1)

  program_part_has : (d : Declared) (p : syntax.ProgramPart) → ProgramPartFits B p → DeclaredHas d → DeclaredHas (program_part_in d p) × Each OpeningHas (part_openings d p)
  program_part_has d (syntax.program_constants at ds) e h = (record { systems = h.systems; variables = h.variables; scope = definitions_of_constants d.scope ds h.scope }, tt)
  program_part_has d (syntax.program_types at ns) e h = definitions_have d ns e h
  program_part_has d (syntax.program_variables at gs) e h =
      let a = groups_of_variables permanent_variable (λ t. tt) (record { variables = d.variables; scope = d.scope }) gs e (h.variables, h.scope) in (record { systems = h.systems; variables = a.0; scope = a.1 }, tt)

  program_parts_have : (d : Declared) (ps : List syntax.ProgramPart) → Each (ProgramPartFits B) ps → DeclaredHas d → DeclaredHas (program_parts_in d ps) × Each OpeningHas (parts_openings d ps)
  program_parts_have d [] e h = (h, tt)
  program_parts_have d (p ∷ ps) e h =
      let a = program_part_has d p e.0 h in
      let b = program_parts_have (program_part_in d p) ps e.1 a.0 in
      (b.0, each_both OpeningHas (part_openings d p) (parts_openings (program_part_in d p) ps) a.1 b.1)

  predeclared_has : ScopeHas predeclared
  predeclared_has = (rules.ordinal_type all_integers rules.integer, (rules.ordinal_type all_booleans rules.boolean, (rules.ordinal_type all_characters rules.character, (rules.queue, (rules.boolean, (rules.boolean, (tt, (tt, (tt, (tt, (tt, (tt, (tt, (tt, (tt, tt)))))))))))))))

  system_at : (ms : List SystemMeaning) (own : SystemMeaning) (j : ℕ) → Each (SystemHas T) ms → SystemHas T own → SystemHas T (or_own own (slice_get ms j))
  system_at [] own j h k = k
  system_at (m ∷ ms) own zero h k = h.0
  system_at (m ∷ ms) own (suc j) h k = system_at ms own j h.1 k

  opening_at : (os : List Opening) (other : RoutineMeaning) (j : ℕ) → Each OpeningHas os → RoutineHas T other → RoutineHas T (meaning_in other (slice_get os j))
  opening_at [] other j h k = k
  opening_at (o ∷ os) other zero h k = h.0
  opening_at (o ∷ os) other (suc j) h k = opening_at os other j h.1 k

  pub program_has : (p : syntax.Program) → ProgramFits B p → ProgramHas T p
  program_has p e =
      let all = program_parts_have nothing_declared p.parts e.0 (record { systems = tt; variables = tt; scope = predeclared_has }) in
      let own : SystemMeaning = own_meaning (declared p) p in
      let k : ℕ = program_system p in
      let last : List Opening = routine_openings k (declared p).scope p.routines ++ initial_opening k own ∷ [] in
      record {
        systems = λ j. system_at (declared p).systems own j all.0.systems (record { parameters = tt; variables = all.0.variables });
        routines = λ n. opening_at (openings_of p) (initial_meaning own) n
            (each_both OpeningHas (parts_openings nothing_declared p.parts) last all.1 (each_both OpeningHas (routine_openings k (declared p).scope p.routines) (initial_opening k own ∷ []) (routines_have k (declared p).scope p.routines e.1 all.0.scope) (initial_has own, tt)))
            (initial_has own);
      }
