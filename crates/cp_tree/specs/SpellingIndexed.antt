-- The numbers of a tree's nodes, and what the grammar asks of its shape.
use Rattle.std.specs.Prelude.{◌≡◌, ℕ, ◌+◌, Bool, true, false, List, [], ◌∷◌, length}
use Rattle.cp_text.specs.declared.token.Kind.{Kind}
use Rattle.cp_text.specs.declared.token.Kind.TheVariants as kind
use Rattle.cp_text.specs.declared.token.Mark.{Mark}
use Rattle.cp_text.specs.declared.token.Mark.TheVariants as mark
use Rattle.cp_tree.specs.declared.constant.Identifier.{Identifier}
use Rattle.cp_tree.specs.declared.constant.Constant.{Constant}
use Rattle.cp_tree.specs.declared.constant.ConstantKind.{ConstantKind}
use Rattle.cp_tree.specs.declared.constant.ConstantKind.TheVariants as constant_kind
use Rattle.cp_tree.specs.declared.statement.AssertionKind.TheVariants as said
use Rattle.cp_tree.specs.declared.declaration.SystemKind.{SystemKind}
use Rattle.cp_tree.specs.declared.declaration.SystemKind.TheVariants as systems
use Rattle.cp_tree.specs.Syntax.{nameless, Expression, alone, related, Sum, sum, Terms, no_terms, more_terms, Term, term, Factors, no_factors, more_factors, Factor, number, character, named, group, negated, set_of, Expressions, no_expressions, more_expressions, Designator, designator, Selectors, no_selectors, more_selectors, Selector, field, index, Start, Statement, empty, assign, invoke, block, if_then, if_else, case_of, while_do, repeat_until, for_do, cycle, init, asserted, Statements, no_statements, more_statements, Arms, no_arms, more_arms, Arm, arm, Simple, type_name, enumeration, subrange, TypeTerm, simple, array_of, set_type, record_of, FieldGroups, no_fields, more_fields, FieldGroup, fields, ConstantDefinition, TypeDefinition, VariableGroup, Part, constants, types, variables, Group, ParameterGroup, RoutineKind, procedure, function, invariants, Routine, Body, System, Definition, type_definition, system_definition, SystemDefinition, ProgramPart, program_constants, program_types, program_variables, Program}
use Rattle.cp_tree.specs.Spelling.{relation_mark, direction_mark, put_optional, put_behind, put_all, put_identifier, put_sign, put_constant, put_expression, put_sum, put_terms, put_term, put_factors, put_factor, put_arguments, put_expressions, put_more_expressions, put_designator, put_selectors, put_start, put_statement, put_statements, put_more_statements, put_arms, put_more_arms, put_simple, put_type, put_more_field_groups, put_constant_definition, put_type_definition, put_variable_group, put_part, put_group, put_parameter_group, put_body, put_routine_kind, is_nameless, put_named_routine, put_routine, put_system, put_definition, put_system_definition, put_program_part, spell}

-- A node's number is the count of tokens before it. This is said from the end: the number, and the tokens from the
-- node on, make up all tokens. So each definition has, as the spelling does, the tokens that follow as its last argument.
abbrev pub Begins : ℕ → ℕ → List Kind → Type 0
Begins total at rest = at + length rest ≡ total

-- whether a statement ends in an `if` without `else`, to which an `else` after it would belong
abbrev pub ends_open : Statement → Bool
ends_open (empty at) = false
ends_open (assign at d e) = false
ends_open (invoke at d es) = false
ends_open (block at ss) = false
ends_open (if_then at e s) = true
ends_open (if_else at e s t) = ends_open t
ends_open (case_of at e bs semicolon) = false
ends_open (while_do at e s) = ends_open s
ends_open (repeat_until at ss e) = false
ends_open (for_do at i e d f s) = ends_open s
ends_open (cycle at ss) = false
ends_open (init at ss) = false
ends_open (asserted at k e s) = ends_open s

-- ---- lists: of an element are given its tokens, and what is asked of it before its rest

-- {x}
abbrev pub AreAllIndexed : {A : Type 0} → (A → List Kind → List Kind) → (A → List Kind → Type 0) → List A → List Kind → Type 0
AreAllIndexed put indexed [] rest = Unit {0}
AreAllIndexed put indexed (x ∷ xs) rest = indexed x (put_all put xs rest) × AreAllIndexed put indexed xs rest

-- x {x}: at least one
abbrev pub AreSomeIndexed : {A : Type 0} → (A → List Kind → List Kind) → (A → List Kind → Type 0) → List A → List Kind → Type 0
AreSomeIndexed put indexed [] rest = ⊥
AreSomeIndexed put indexed (x ∷ xs) rest = indexed x (put_all put xs rest) × AreAllIndexed put indexed xs rest

-- x {m x}: at least one
abbrev pub AreSeparatedIndexed : {A : Type 0} → Mark → (A → List Kind → List Kind) → (A → List Kind → Type 0) → List A → List Kind → Type 0
AreSeparatedIndexed m put indexed [] rest = ⊥
AreSeparatedIndexed m put indexed (x ∷ xs) rest = indexed x (put_all (put_behind m put) xs rest) × AreAllIndexed (put_behind m put) indexed xs rest

-- ["(" x {";" x} ")"]
abbrev pub AreParametersIndexed : {A : Type 0} → (A → List Kind → List Kind) → (A → List Kind → Type 0) → List A → List Kind → Type 0
AreParametersIndexed put indexed [] rest = Unit {0}
AreParametersIndexed put indexed (x ∷ xs) rest = AreSeparatedIndexed mark.Semicolon put indexed (x ∷ xs) (kind.Mark mark.CloseParenthesis ∷ rest)

-- Each node's number is the count of tokens before it, where the whole text has this many tokens.
module _ (total : ℕ) where
  -- ---- names and constants

  abbrev pub IsIndexedIdentifier : Identifier → List Kind → Type 0
  IsIndexedIdentifier i rest = Begins total i.at (put_identifier i rest)

  abbrev pub AreIndexedNames : List Identifier → List Kind → Type 0
  AreIndexedNames = AreSeparatedIndexed mark.Comma put_identifier IsIndexedIdentifier

  abbrev pub IsIndexedConstantKind : ConstantKind → List Kind → Type 0
  IsIndexedConstantKind (constant_kind.Number o n) rest = Unit {0}
  IsIndexedConstantKind (constant_kind.Name o i) rest = IsIndexedIdentifier i rest
  IsIndexedConstantKind (constant_kind.Character c) rest = Unit {0}

  abbrev pub IsIndexedConstant : Constant → List Kind → Type 0
  IsIndexedConstant c rest = Begins total c.at (put_constant c rest) × IsIndexedConstantKind c.kind rest

  -- ---- expressions

  abbrev mutual
    pub IsIndexedExpression : Expression → List Kind → Type 0
    IsIndexedExpression (alone at s) rest = Begins total at (put_sum s rest) × IsIndexedSum s rest
    IsIndexedExpression (related at s r t) rest = Begins total at (put_sum s (kind.Mark (relation_mark r) ∷ put_sum t rest)) × IsIndexedSum s (kind.Mark (relation_mark r) ∷ put_sum t rest) × IsIndexedSum t rest

    pub IsIndexedSum : Sum → List Kind → Type 0
    IsIndexedSum (sum at o t ts) rest = Begins total at (put_sign o (put_term t (put_terms ts rest))) × IsIndexedTerm t (put_terms ts rest) × AreIndexedTerms ts rest

    pub AreIndexedTerms : Terms → List Kind → Type 0
    AreIndexedTerms no_terms rest = Unit {0}
    AreIndexedTerms (more_terms a t ts) rest = IsIndexedTerm t (put_terms ts rest) × AreIndexedTerms ts rest

    pub IsIndexedTerm : Term → List Kind → Type 0
    IsIndexedTerm (term at f fs) rest = Begins total at (put_factor f (put_factors fs rest)) × IsIndexedFactor f (put_factors fs rest) × AreIndexedFactors fs rest

    pub AreIndexedFactors : Factors → List Kind → Type 0
    AreIndexedFactors no_factors rest = Unit {0}
    AreIndexedFactors (more_factors m f fs) rest = IsIndexedFactor f (put_factors fs rest) × AreIndexedFactors fs rest

    pub IsIndexedFactor : Factor → List Kind → Type 0
    IsIndexedFactor (number at n) rest = Begins total at (kind.Number n ∷ rest)
    IsIndexedFactor (character at c) rest = Begins total at (kind.Character c ∷ rest)
    IsIndexedFactor (named at d es) rest = Begins total at (put_designator d (put_arguments es rest)) × IsIndexedDesignator d (put_arguments es rest) × AreIndexedArguments es rest
    IsIndexedFactor (group at e) rest = Begins total at (kind.Mark mark.OpenParenthesis ∷ put_expression e (kind.Mark mark.CloseParenthesis ∷ rest)) × IsIndexedExpression e (kind.Mark mark.CloseParenthesis ∷ rest)
    IsIndexedFactor (negated at f) rest = Begins total at (kind.Mark mark.Not ∷ put_factor f rest) × IsIndexedFactor f rest
    IsIndexedFactor (set_of at es) rest = Begins total at (kind.Mark mark.OpenBracket ∷ put_expressions es (kind.Mark mark.CloseBracket ∷ rest)) × AreIndexedExpressions es (kind.Mark mark.CloseBracket ∷ rest)

    pub AreIndexedArguments : Expressions → List Kind → Type 0
    AreIndexedArguments no_expressions rest = Unit {0}
    AreIndexedArguments (more_expressions e es) rest = IsIndexedExpression e (put_more_expressions es (kind.Mark mark.CloseParenthesis ∷ rest)) × AreIndexedMoreExpressions es (kind.Mark mark.CloseParenthesis ∷ rest)

    pub AreIndexedExpressions : Expressions → List Kind → Type 0
    AreIndexedExpressions no_expressions rest = Unit {0}
    AreIndexedExpressions (more_expressions e es) rest = IsIndexedExpression e (put_more_expressions es rest) × AreIndexedMoreExpressions es rest

    pub AreIndexedMoreExpressions : Expressions → List Kind → Type 0
    AreIndexedMoreExpressions no_expressions rest = Unit {0}
    AreIndexedMoreExpressions (more_expressions e es) rest = IsIndexedExpression e (put_more_expressions es rest) × AreIndexedMoreExpressions es rest

    pub IsIndexedDesignator : Designator → List Kind → Type 0
    IsIndexedDesignator (designator i ss) rest = IsIndexedIdentifier i (put_selectors ss rest) × AreIndexedSelectors ss rest

    pub AreIndexedSelectors : Selectors → List Kind → Type 0
    AreIndexedSelectors no_selectors rest = Unit {0}
    AreIndexedSelectors (more_selectors s ss) rest = IsIndexedSelector s (put_selectors ss rest) × AreIndexedSelectors ss rest

    pub IsIndexedSelector : Selector → List Kind → Type 0
    IsIndexedSelector (field i) rest = IsIndexedIdentifier i rest
    IsIndexedSelector (index e) rest = IsIndexedExpression e (kind.Mark mark.CloseBracket ∷ rest)

  -- ---- statements

  abbrev pub IsIndexedStart : Start → List Kind → Type 0
  IsIndexedStart s rest = IsIndexedDesignator s.target (put_arguments s.arguments rest) × AreIndexedArguments s.arguments rest

  abbrev mutual
    pub IsIndexedStatement : Statement → List Kind → Type 0
    IsIndexedStatement (empty at) rest = Begins total at rest
    IsIndexedStatement (assign at d e) rest = Begins total at (put_statement (assign at d e) rest) × IsIndexedDesignator d (kind.Mark mark.Becomes ∷ put_expression e rest) × IsIndexedExpression e rest
    IsIndexedStatement (invoke at d es) rest = Begins total at (put_statement (invoke at d es) rest) × IsIndexedDesignator d (put_arguments es rest) × AreIndexedArguments es rest
    IsIndexedStatement (block at ss) rest = Begins total at (put_statement (block at ss) rest) × AreIndexedStatements ss (kind.Mark mark.End ∷ rest)
    IsIndexedStatement (if_then at e s) rest = Begins total at (put_statement (if_then at e s) rest) × IsIndexedExpression e (kind.Mark mark.Then ∷ put_statement s rest) × IsIndexedStatement s rest
    -- An `else` belongs to the nearest `if` that has none.
    IsIndexedStatement (if_else at e s t) rest = Begins total at (put_statement (if_else at e s t) rest) × IsIndexedExpression e (kind.Mark mark.Then ∷ put_statement s (kind.Mark mark.Else ∷ put_statement t rest)) × IsIndexedStatement s (kind.Mark mark.Else ∷ put_statement t rest) × IsIndexedStatement t rest × (ends_open s ≡ false)
    IsIndexedStatement (case_of at e bs semicolon) rest = Begins total at (put_statement (case_of at e bs semicolon) rest) × IsIndexedExpression e (kind.Mark mark.Of ∷ put_arms bs (put_optional mark.Semicolon semicolon (kind.Mark mark.End ∷ rest))) × AreIndexedArms bs (put_optional mark.Semicolon semicolon (kind.Mark mark.End ∷ rest))
    IsIndexedStatement (while_do at e s) rest = Begins total at (put_statement (while_do at e s) rest) × IsIndexedExpression e (kind.Mark mark.Do ∷ put_statement s rest) × IsIndexedStatement s rest
    IsIndexedStatement (repeat_until at ss e) rest = Begins total at (put_statement (repeat_until at ss e) rest) × AreIndexedStatements ss (kind.Mark mark.Until ∷ put_expression e rest) × IsIndexedExpression e rest
    IsIndexedStatement (for_do at i e d f s) rest = Begins total at (put_statement (for_do at i e d f s) rest) × IsIndexedIdentifier i (kind.Mark mark.Becomes ∷ put_expression e (kind.Mark (direction_mark d) ∷ put_expression f (kind.Mark mark.Do ∷ put_statement s rest))) × IsIndexedExpression e (kind.Mark (direction_mark d) ∷ put_expression f (kind.Mark mark.Do ∷ put_statement s rest)) × IsIndexedExpression f (kind.Mark mark.Do ∷ put_statement s rest) × IsIndexedStatement s rest
    IsIndexedStatement (cycle at ss) rest = Begins total at (put_statement (cycle at ss) rest) × AreIndexedStatements ss (kind.Mark mark.End ∷ rest)
    IsIndexedStatement (init at ss) rest = Begins total at (put_statement (init at ss) rest) × AreSeparatedIndexed mark.Comma put_start IsIndexedStart ss rest
    IsIndexedStatement (asserted at k e s) rest = (k ≡ said.Assertion) × Begins total at (put_expression e (kind.Mark mark.Closes ∷ put_statement s rest)) × IsIndexedExpression e (kind.Mark mark.Closes ∷ put_statement s rest) × IsIndexedStatement s rest

    -- at least one
    pub AreIndexedStatements : Statements → List Kind → Type 0
    AreIndexedStatements no_statements rest = ⊥
    AreIndexedStatements (more_statements s ss) rest = IsIndexedStatement s (put_more_statements ss rest) × AreIndexedMoreStatements ss rest

    pub AreIndexedMoreStatements : Statements → List Kind → Type 0
    AreIndexedMoreStatements no_statements rest = Unit {0}
    AreIndexedMoreStatements (more_statements s ss) rest = IsIndexedStatement s (put_more_statements ss rest) × AreIndexedMoreStatements ss rest

    -- at least one
    pub AreIndexedArms : Arms → List Kind → Type 0
    AreIndexedArms no_arms rest = ⊥
    AreIndexedArms (more_arms b bs) rest = IsIndexedArm b (put_more_arms bs rest) × AreIndexedMoreArms bs rest

    pub AreIndexedMoreArms : Arms → List Kind → Type 0
    AreIndexedMoreArms no_arms rest = Unit {0}
    AreIndexedMoreArms (more_arms b bs) rest = IsIndexedArm b (put_more_arms bs rest) × AreIndexedMoreArms bs rest

    pub IsIndexedArm : Arm → List Kind → Type 0
    IsIndexedArm (arm cs s) rest = AreSeparatedIndexed mark.Comma put_constant IsIndexedConstant cs (kind.Mark mark.Colon ∷ put_statement s rest) × IsIndexedStatement s rest

  -- ---- types

  abbrev pub IsIndexedSimple : Simple → List Kind → Type 0
  IsIndexedSimple (type_name at n) rest = Begins total at (kind.Name n ∷ rest)
  IsIndexedSimple (enumeration at is) rest = Begins total at (put_simple (enumeration at is) rest) × AreIndexedNames is (kind.Mark mark.CloseParenthesis ∷ rest)
  IsIndexedSimple (subrange at c d) rest = Begins total at (put_simple (subrange at c d) rest) × IsIndexedConstant c (kind.Mark mark.DoublePeriod ∷ put_constant d rest) × IsIndexedConstant d rest

  abbrev mutual
    pub IsIndexedType : TypeTerm → List Kind → Type 0
    IsIndexedType (simple at s) rest = Begins total at (put_simple s rest) × IsIndexedSimple s rest
    IsIndexedType (array_of at s t) rest = Begins total at (put_type (array_of at s t) rest) × IsIndexedSimple s (kind.Mark mark.CloseBracket ∷ kind.Mark mark.Of ∷ put_type t rest) × IsIndexedType t rest
    IsIndexedType (set_type at s) rest = Begins total at (put_type (set_type at s) rest) × IsIndexedSimple s rest
    IsIndexedType (record_of at gs semicolon) rest = Begins total at (put_type (record_of at gs semicolon) rest) × AreIndexedFieldGroups gs (put_optional mark.Semicolon semicolon (kind.Mark mark.End ∷ rest))

    -- at least one
    pub AreIndexedFieldGroups : FieldGroups → List Kind → Type 0
    AreIndexedFieldGroups no_fields rest = ⊥
    AreIndexedFieldGroups (more_fields g gs) rest = IsIndexedFieldGroup g (put_more_field_groups gs rest) × AreIndexedMoreFieldGroups gs rest

    pub AreIndexedMoreFieldGroups : FieldGroups → List Kind → Type 0
    AreIndexedMoreFieldGroups no_fields rest = Unit {0}
    AreIndexedMoreFieldGroups (more_fields g gs) rest = IsIndexedFieldGroup g (put_more_field_groups gs rest) × AreIndexedMoreFieldGroups gs rest

    pub IsIndexedFieldGroup : FieldGroup → List Kind → Type 0
    IsIndexedFieldGroup (fields is t) rest = AreIndexedNames is (kind.Mark mark.Colon ∷ put_type t rest) × IsIndexedType t rest

  -- ---- declarations

  abbrev pub IsIndexedConstantDefinition : ConstantDefinition → List Kind → Type 0
  IsIndexedConstantDefinition d rest = IsIndexedIdentifier d.name (kind.Mark mark.Equal ∷ put_constant d.value (kind.Mark mark.Semicolon ∷ rest)) × IsIndexedConstant d.value (kind.Mark mark.Semicolon ∷ rest)

  abbrev pub IsIndexedTypeDefinition : TypeDefinition → List Kind → Type 0
  IsIndexedTypeDefinition d rest = IsIndexedIdentifier d.name (kind.Mark mark.Equal ∷ put_type d.value (kind.Mark mark.Semicolon ∷ rest)) × IsIndexedType d.value (kind.Mark mark.Semicolon ∷ rest)

  abbrev pub IsIndexedVariableGroup : VariableGroup → List Kind → Type 0
  IsIndexedVariableGroup g rest = AreIndexedNames g.names (kind.Mark mark.Colon ∷ put_type g.variable_type (kind.Mark mark.Semicolon ∷ rest)) × IsIndexedType g.variable_type (kind.Mark mark.Semicolon ∷ rest)

  abbrev pub IsIndexedPart : Part → List Kind → Type 0
  IsIndexedPart (constants at ds) rest = Begins total at (put_part (constants at ds) rest) × AreSomeIndexed put_constant_definition IsIndexedConstantDefinition ds rest
  IsIndexedPart (types at ds) rest = Begins total at (put_part (types at ds) rest) × AreSomeIndexed put_type_definition IsIndexedTypeDefinition ds rest
  IsIndexedPart (variables at gs) rest = Begins total at (put_part (variables at gs) rest) × AreSomeIndexed put_variable_group IsIndexedVariableGroup gs rest

  abbrev pub IsIndexedGroup : Group → List Kind → Type 0
  IsIndexedGroup g rest = AreIndexedNames g.names (kind.Mark mark.Colon ∷ put_identifier g.type_name rest) × IsIndexedIdentifier g.type_name rest

  abbrev pub IsIndexedParameterGroup : ParameterGroup → List Kind → Type 0
  IsIndexedParameterGroup g rest = Begins total g.at (put_parameter_group g rest) × IsIndexedGroup g.group rest

  abbrev pub IsIndexedBody : Body → List Kind → Type 0
  IsIndexedBody b rest = Begins total b.at (put_body b rest) × AreIndexedStatements b.statements (kind.Mark mark.End ∷ rest)

  -- invariants before the empty statement
  abbrev pub AreIndexedInvariants : Statement → List Kind → Type 0
  AreIndexedInvariants (empty at) rest = Begins total at rest
  AreIndexedInvariants (asserted at k e s) rest = (k ≡ said.Invariant) × Begins total at (put_expression e (kind.Mark mark.Closes ∷ put_statement s rest)) × IsIndexedExpression e (kind.Mark mark.Closes ∷ put_statement s rest) × AreIndexedInvariants s rest
  AreIndexedInvariants s rest = ⊥

  -- at least one
  abbrev pub IsIndexedInvariantBody : Statements → List Kind → Type 0
  IsIndexedInvariantBody (more_statements (asserted at k e s) no_statements) rest = AreIndexedInvariants (asserted at k e s) rest
  IsIndexedInvariantBody ss rest = ⊥

  abbrev pub IsIndexedRoutineKind : RoutineKind → List Kind → Type 0
  IsIndexedRoutineKind (procedure gs) rest = AreParametersIndexed put_parameter_group IsIndexedParameterGroup gs rest
  IsIndexedRoutineKind (function gs i) rest = AreParametersIndexed put_group IsIndexedGroup gs (kind.Mark mark.Colon ∷ put_identifier i rest) × IsIndexedIdentifier i rest
  IsIndexedRoutineKind invariants rest = ⊥

  abbrev pub IsIndexedNamedRoutine : Routine → List Kind → Type 0
  IsIndexedNamedRoutine r rest = Begins total r.at (put_named_routine r rest)
      × IsIndexedIdentifier r.name (put_routine_kind r.kind (kind.Mark mark.Semicolon ∷ put_all put_part r.parts (put_body r.body (kind.Mark mark.Semicolon ∷ rest))))
      × IsIndexedRoutineKind r.kind (kind.Mark mark.Semicolon ∷ put_all put_part r.parts (put_body r.body (kind.Mark mark.Semicolon ∷ rest)))
      × AreAllIndexed put_part IsIndexedPart r.parts (put_body r.body (kind.Mark mark.Semicolon ∷ rest))
      × IsIndexedBody r.body (kind.Mark mark.Semicolon ∷ rest)

  -- the routine without a name: of it nothing is written but the invariants, and all else is as it must be
  pub record IsIndexedNamelessRoutine (r : Routine) (rest : List Kind) : Type 0 where
    pub begins : Begins total r.at (put_statements r.body.statements rest)
    pub not_entry : r.is_entry ≡ false
    pub name : r.name ≡ record { at = r.at; name = nameless }
    pub no_parts : r.parts ≡ []
    pub body : r.body.at ≡ r.at + 1
    pub said : IsIndexedInvariantBody r.body.statements rest

  abbrev pub IsIndexedRoutineBy : Bool → Routine → List Kind → Type 0
  IsIndexedRoutineBy true r rest = IsIndexedNamelessRoutine r rest
  IsIndexedRoutineBy false r rest = IsIndexedNamedRoutine r rest

  abbrev pub IsIndexedRoutine : Routine → List Kind → Type 0
  IsIndexedRoutine r rest = IsIndexedRoutineBy (is_nameless r.kind) r rest

  -- no routine is without a name
  abbrev pub AreNamed : List Routine → Type 0
  AreNamed [] = Unit {0}
  AreNamed (r ∷ rs) = (is_nameless r.kind ≡ false) × AreNamed rs

  abbrev pub may_say : SystemKind → Bool
  may_say systems.Class = true
  may_say systems.Monitor = true
  may_say systems.Process = false

  -- of a class or a monitor the first may be
  abbrev pub AreNamedBy : Bool → List Routine → Type 0
  AreNamedBy false rs = AreNamed rs
  AreNamedBy true [] = Unit {0}
  AreNamedBy true (r ∷ rs) = AreNamed rs

  abbrev pub IsIndexedSystem : System → List Kind → Type 0
  IsIndexedSystem s rest = Begins total s.at (put_system s rest)
      × AreParametersIndexed put_group IsIndexedGroup s.parameters (put_optional mark.Semicolon s.has_semicolon (put_all put_part s.parts (put_all put_routine s.routines (put_body s.body rest))))
      × AreAllIndexed put_part IsIndexedPart s.parts (put_all put_routine s.routines (put_body s.body rest))
      × AreAllIndexed put_routine IsIndexedRoutine s.routines (put_body s.body rest)
      × AreNamedBy (may_say s.kind) s.routines
      × IsIndexedBody s.body rest

  abbrev pub IsIndexedDefinition : Definition → List Kind → Type 0
  IsIndexedDefinition (type_definition t) rest = IsIndexedType t rest
  IsIndexedDefinition (system_definition s) rest = IsIndexedSystem s rest

  abbrev pub IsIndexedSystemDefinition : SystemDefinition → List Kind → Type 0
  IsIndexedSystemDefinition d rest = IsIndexedIdentifier d.name (kind.Mark mark.Equal ∷ put_definition d.value (kind.Mark mark.Semicolon ∷ rest)) × IsIndexedDefinition d.value (kind.Mark mark.Semicolon ∷ rest)

  abbrev pub IsIndexedProgramPart : ProgramPart → List Kind → Type 0
  IsIndexedProgramPart (program_constants at ds) rest = Begins total at (put_program_part (program_constants at ds) rest) × AreSomeIndexed put_constant_definition IsIndexedConstantDefinition ds rest
  IsIndexedProgramPart (program_types at ds) rest = Begins total at (put_program_part (program_types at ds) rest) × AreSomeIndexed put_system_definition IsIndexedSystemDefinition ds rest
  IsIndexedProgramPart (program_variables at gs) rest = Begins total at (put_program_part (program_variables at gs) rest) × AreSomeIndexed put_variable_group IsIndexedVariableGroup gs rest

  -- where the text has this many tokens
  abbrev pub IsIndexedProgram : Program → Type 0
  IsIndexedProgram p = AreAllIndexed put_program_part IsIndexedProgramPart p.parts (put_all put_routine p.routines (put_body p.body (kind.Mark mark.Period ∷ [])))
      × AreAllIndexed put_routine IsIndexedRoutine p.routines (put_body p.body (kind.Mark mark.Period ∷ []))
      × AreNamed p.routines
      × IsIndexedBody p.body (kind.Mark mark.Period ∷ [])
      × Begins total p.period (kind.Mark mark.Period ∷ [])

-- Each node's number is the count of tokens before it, and no then-part before an `else` ends in an `if` without one.
abbrev pub IsIndexed : Program → Type 0
IsIndexed p = IsIndexedProgram (length (spell p)) p
