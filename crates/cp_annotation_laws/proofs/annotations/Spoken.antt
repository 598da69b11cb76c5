-- Trees in which all names are written, and annotations call nothing.
use Rattle.std.proofs.Common.{◌≡◌, true, []}
use Rattle.cp_meaning.specs.Names.{same_name}
use Rattle.cp_tree.specs.declared.constant.ConstantKind.{ConstantKind}
use Rattle.cp_tree.specs.declared.constant.ConstantKind.TheVariants as constant_kind
use Rattle.cp_tree.specs.declared.constant.Constant.{Constant}
use Rattle.cp_tree.specs.Syntax.{Expression, alone, related, Sum, sum, Terms, no_terms, more_terms, Term, term, Factors, no_factors, more_factors, Factor, number, character, named, group, negated, set_of, Expressions, no_expressions, more_expressions, Designator, designator, Selectors, no_selectors, more_selectors, Selector, field, index, Start, Statement, empty, assign, invoke, block, if_then, if_else, case_of, while_do, repeat_until, for_do, cycle, init, asserted, Statements, no_statements, more_statements, Arms, no_arms, more_arms, Arm, arm, Simple, type_name, enumeration, subrange, TypeTerm, simple, array_of, set_type, record_of, FieldGroups, no_fields, more_fields, FieldGroup, fields, Part, constants, types, variables, nameless, Routine, System, Definition, type_definition, system_definition, ProgramPart, program_constants, program_types, program_variables, Program}
use Rattle.cp_meaning.specs.Lifting.{expression_calls}
use Rattle.cp_meaning.specs.Scopes.{Meaning, routine_meaning, Scope}
use Rattle.cp_resolved.specs.Small.{Each}
use Rattle.cp_annotation_laws.proofs.annotations.Scopes.{IsSpoken}

-- ---- expressions

abbrev mutual
  pub SpokenExpression : Expression → Type 0
  SpokenExpression (alone at a) = SpokenSum a
  SpokenExpression (related at a r b) = SpokenSum a × SpokenSum b

  pub SpokenSum : Sum → Type 0
  SpokenSum (sum at o t ts) = SpokenTerm t × SpokenTerms ts

  pub SpokenTerms : Terms → Type 0
  SpokenTerms no_terms = Unit {0}
  SpokenTerms (more_terms a t ts) = SpokenTerm t × SpokenTerms ts

  pub SpokenTerm : Term → Type 0
  SpokenTerm (term at f fs) = SpokenFactor f × SpokenFactors fs

  pub SpokenFactors : Factors → Type 0
  SpokenFactors no_factors = Unit {0}
  SpokenFactors (more_factors m f fs) = SpokenFactor f × SpokenFactors fs

  pub SpokenFactor : Factor → Type 0
  SpokenFactor (number at n) = Unit {0}
  SpokenFactor (character at c) = Unit {0}
  SpokenFactor (named at d es) = SpokenDesignator d × SpokenExpressions es
  SpokenFactor (group at e) = SpokenExpression e
  SpokenFactor (negated at f) = SpokenFactor f
  SpokenFactor (set_of at es) = SpokenExpressions es

  pub SpokenExpressions : Expressions → Type 0
  SpokenExpressions no_expressions = Unit {0}
  SpokenExpressions (more_expressions e es) = SpokenExpression e × SpokenExpressions es

  pub SpokenDesignator : Designator → Type 0
  SpokenDesignator (designator i ss) = IsSpoken i.name × SpokenSelectors ss

  pub SpokenSelectors : Selectors → Type 0
  SpokenSelectors no_selectors = Unit {0}
  SpokenSelectors (more_selectors c cs) = SpokenSelector c × SpokenSelectors cs

  pub SpokenSelector : Selector → Type 0
  SpokenSelector (field i) = IsSpoken i.name
  SpokenSelector (index e) = SpokenExpression e

-- ---- constants and types

abbrev pub SpokenConstantKind : ConstantKind → Type 0
SpokenConstantKind (constant_kind.Number o n) = Unit {0}
SpokenConstantKind (constant_kind.Name o i) = IsSpoken i.name
SpokenConstantKind (constant_kind.Character c) = Unit {0}

abbrev pub SpokenConstant : Constant → Type 0
SpokenConstant c = SpokenConstantKind c.kind

abbrev pub SpokenSimple : Simple → Type 0
SpokenSimple (type_name at x) = Unit {0}
SpokenSimple (enumeration at is) = Unit {0}
SpokenSimple (subrange at c d) = SpokenConstant c × SpokenConstant d

abbrev mutual
  pub SpokenType : TypeTerm → Type 0
  SpokenType (simple at t) = SpokenSimple t
  SpokenType (array_of at i t) = SpokenSimple i × SpokenType t
  SpokenType (set_type at t) = SpokenSimple t
  SpokenType (record_of at gs b) = SpokenFields gs

  pub SpokenFields : FieldGroups → Type 0
  SpokenFields no_fields = Unit {0}
  SpokenFields (more_fields g gs) = SpokenGroup g × SpokenFields gs

  pub SpokenGroup : FieldGroup → Type 0
  SpokenGroup (fields is t) = SpokenType t

abbrev pub SpokenPart : Part → Type 0
SpokenPart (constants at ds) = Each (λ d. SpokenConstant d.value) ds
SpokenPart (types at ds) = Each (λ d. SpokenType d.value) ds
SpokenPart (variables at gs) = Each (λ g. SpokenType g.variable_type) gs

-- ---- what is visible: the parts of routines

abbrev pub SpokenMeaning : Meaning → Type 0
SpokenMeaning (routine_meaning r) = Each SpokenPart r.parts
SpokenMeaning m = Unit {0}

abbrev pub SpokenScope : Scope → Type 0
SpokenScope s = Each (λ d. SpokenMeaning d.1) s

-- ---- statements

abbrev pub SpokenStart : Start → Type 0
SpokenStart t = SpokenDesignator t.target × SpokenExpressions t.arguments

abbrev mutual
  pub SpokenStatement : Statement → Type 0
  SpokenStatement (empty at) = Unit {0}
  SpokenStatement (assign at d e) = SpokenDesignator d × SpokenExpression e
  SpokenStatement (invoke at d es) = SpokenDesignator d × SpokenExpressions es
  SpokenStatement (block at ss) = SpokenStatements ss
  SpokenStatement (if_then at e t) = SpokenExpression e × SpokenStatement t
  SpokenStatement (if_else at e t u) = SpokenExpression e × SpokenStatement t × SpokenStatement u
  SpokenStatement (case_of at e as' b) = SpokenExpression e × SpokenArms as'
  SpokenStatement (while_do at e t) = SpokenExpression e × SpokenStatement t
  SpokenStatement (repeat_until at ss e) = SpokenStatements ss × SpokenExpression e
  SpokenStatement (for_do at i e d f t) = IsSpoken i.name × SpokenExpression e × SpokenExpression f × SpokenStatement t
  SpokenStatement (cycle at ss) = SpokenStatements ss
  SpokenStatement (init at ts) = Each SpokenStart ts
  SpokenStatement (asserted at k e t) = SpokenExpression e × SpokenStatement t

  pub SpokenStatements : Statements → Type 0
  SpokenStatements no_statements = Unit {0}
  SpokenStatements (more_statements t ts) = SpokenStatement t × SpokenStatements ts

  pub SpokenArms : Arms → Type 0
  SpokenArms no_arms = Unit {0}
  SpokenArms (more_arms a as') = SpokenArm a × SpokenArms as'

  pub SpokenArm : Arm → Type 0
  SpokenArm (arm cs t) = Each SpokenConstant cs × SpokenStatement t

-- ---- statements whose annotations call nothing, in the scope of what is executed

abbrev mutual
  pub IsFine : Scope → Statement → Type 0
  IsFine s (empty at) = Unit {0}
  IsFine s (assign at d e) = SpokenDesignator d × SpokenExpression e
  IsFine s (invoke at d es) = SpokenDesignator d × SpokenExpressions es
  IsFine s (block at ss) = AreFine s ss
  IsFine s (if_then at e t) = SpokenExpression e × IsFine s t
  IsFine s (if_else at e t u) = SpokenExpression e × IsFine s t × IsFine s u
  IsFine s (case_of at e as' b) = SpokenExpression e × AreFineArms s as'
  IsFine s (while_do at e t) = SpokenExpression e × IsFine s t
  IsFine s (repeat_until at ss e) = AreFine s ss × SpokenExpression e
  IsFine s (for_do at i e d f t) = IsSpoken i.name × SpokenExpression e × SpokenExpression f × IsFine s t
  IsFine s (cycle at ss) = AreFine s ss
  IsFine s (init at ts) = Each SpokenStart ts
  -- an annotation calls nothing
  IsFine s (asserted at k e t) = SpokenExpression e × (expression_calls s e ≡ []) × IsFine s t

  pub AreFine : Scope → Statements → Type 0
  AreFine s no_statements = Unit {0}
  AreFine s (more_statements t ts) = IsFine s t × AreFine s ts

  pub AreFineArms : Scope → Arms → Type 0
  AreFineArms s no_arms = Unit {0}
  AreFineArms s (more_arms a as') = IsFineArm s a × AreFineArms s as'

  pub IsFineArm : Scope → Arm → Type 0
  IsFineArm s (arm cs t) = Each SpokenConstant cs × IsFine s t

-- ---- declarations

-- a routine without a name has no parts
pub record SpokenRoutine (r : Routine) : Type 0 where
  pub parts : Each SpokenPart r.parts
  pub bare : same_name nameless r.name.name ≡ true → r.parts ≡ []

pub record SpokenSystem (y : System) : Type 0 where
  pub parts : Each SpokenPart y.parts
  pub routines : Each SpokenRoutine y.routines

abbrev pub SpokenDefinition : Definition → Type 0
SpokenDefinition (type_definition t) = SpokenType t
SpokenDefinition (system_definition y) = SpokenSystem y

abbrev pub SpokenProgramPart : ProgramPart → Type 0
SpokenProgramPart (program_constants at ds) = Each (λ d. SpokenConstant d.value) ds
SpokenProgramPart (program_types at ns) = Each (λ n. SpokenDefinition n.value) ns
SpokenProgramPart (program_variables at gs) = Each (λ g. SpokenType g.variable_type) gs

pub record SpokenProgram (p : Program) : Type 0 where
  pub parts : Each SpokenProgramPart p.parts
  pub routines : Each SpokenRoutine p.routines
