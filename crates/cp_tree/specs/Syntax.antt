-- The syntax of programs, as plain data: what every later definition speaks of.
-- The number in a node counts the tokens before it. A name is the list of its letters' codes, in lower case.
use Rattle.std.specs.Prelude.{ℕ, Bool, List, [], ◌∷◌, Option}
use Rattle.cp_tree.specs.declared.constant.Identifier.{Identifier}
use Rattle.cp_tree.specs.declared.constant.Sign.{Sign}
use Rattle.cp_tree.specs.declared.constant.Constant.{Constant}
use Rattle.cp_tree.specs.declared.expression.Relation.{Relation}
use Rattle.cp_tree.specs.declared.expression.Addition.{Addition}
use Rattle.cp_tree.specs.declared.expression.Multiplication.{Multiplication}
use Rattle.cp_tree.specs.declared.statement.AssertionKind.{AssertionKind}
use Rattle.cp_tree.specs.declared.statement.Direction.{Direction}
use Rattle.cp_tree.specs.declared.declaration.SystemKind.{SystemKind}

-- ---- expressions

mutual
  pub data Expression : Type 0 where
    alone : ℕ → Sum → Expression
    related : ℕ → Sum → Relation → Sum → Expression

  pub data Sum : Type 0 where
    sum : ℕ → Option Sign → Term → Terms → Sum

  pub data Terms : Type 0 where
    no_terms : Terms
    more_terms : Addition → Term → Terms → Terms

  pub data Term : Type 0 where
    term : ℕ → Factor → Factors → Term

  pub data Factors : Type 0 where
    no_factors : Factors
    more_factors : Multiplication → Factor → Factors → Factors

  pub data Factor : Type 0 where
    number : ℕ → ℕ → Factor
    character : ℕ → ℕ → Factor
    -- with arguments, if there are any
    named : ℕ → Designator → Expressions → Factor
    group : ℕ → Expression → Factor
    negated : ℕ → Factor → Factor
    set_of : ℕ → Expressions → Factor

  pub data Expressions : Type 0 where
    no_expressions : Expressions
    more_expressions : Expression → Expressions → Expressions

  pub data Designator : Type 0 where
    designator : Identifier → Selectors → Designator

  pub data Selectors : Type 0 where
    no_selectors : Selectors
    more_selectors : Selector → Selectors → Selectors

  pub data Selector : Type 0 where
    field : Identifier → Selector
    index : Expression → Selector

-- ---- statements

pub record Start : Type 0 where
  pub target : Designator
  pub arguments : Expressions

mutual
  pub data Statement : Type 0 where
    empty : ℕ → Statement
    assign : ℕ → Designator → Expression → Statement
    invoke : ℕ → Designator → Expressions → Statement
    block : ℕ → Statements → Statement
    if_then : ℕ → Expression → Statement → Statement
    if_else : ℕ → Expression → Statement → Statement → Statement
    -- with a semicolon before the `end`, or without
    case_of : ℕ → Expression → Arms → Bool → Statement
    while_do : ℕ → Expression → Statement → Statement
    repeat_until : ℕ → Statements → Expression → Statement
    for_do : ℕ → Identifier → Expression → Direction → Expression → Statement → Statement
    cycle : ℕ → Statements → Statement
    init : ℕ → List Start → Statement
    -- what is said before a statement; the number is that of the expression
    asserted : ℕ → AssertionKind → Expression → Statement → Statement

  pub data Statements : Type 0 where
    no_statements : Statements
    more_statements : Statement → Statements → Statements

  pub data Arms : Type 0 where
    no_arms : Arms
    more_arms : Arm → Arms → Arms

  pub data Arm : Type 0 where
    arm : List Constant → Statement → Arm

-- ---- types

pub data Simple : Type 0 where
  type_name : ℕ → List ℕ → Simple
  enumeration : ℕ → List Identifier → Simple
  subrange : ℕ → Constant → Constant → Simple

mutual
  pub data TypeTerm : Type 0 where
    simple : ℕ → Simple → TypeTerm
    array_of : ℕ → Simple → TypeTerm → TypeTerm
    set_type : ℕ → Simple → TypeTerm
    -- with a semicolon before the `end`, or without
    record_of : ℕ → FieldGroups → Bool → TypeTerm

  pub data FieldGroups : Type 0 where
    no_fields : FieldGroups
    more_fields : FieldGroup → FieldGroups → FieldGroups

  pub data FieldGroup : Type 0 where
    fields : List Identifier → TypeTerm → FieldGroup

-- ---- declarations

pub record ConstantDefinition : Type 0 where
  pub name : Identifier
  pub value : Constant

pub record TypeDefinition : Type 0 where
  pub name : Identifier
  pub value : TypeTerm

pub record VariableGroup : Type 0 where
  pub names : List Identifier
  pub variable_type : TypeTerm

pub data Part : Type 0 where
  constants : ℕ → List ConstantDefinition → Part
  types : ℕ → List TypeDefinition → Part
  variables : ℕ → List VariableGroup → Part

pub record Group : Type 0 where
  pub names : List Identifier
  pub type_name : Identifier

pub record ParameterGroup : Type 0 where
  pub at : ℕ
  pub is_var : Bool
  pub group : Group

pub data RoutineKind : Type 0 where
  procedure : List ParameterGroup → RoutineKind
  function : List Group → Identifier → RoutineKind
  -- The invariants of a block are one routine, without a name; its body says each before the empty statement.
  invariants : RoutineKind

-- The name in the place of one; 58 is `:`, so no lexeme has it.
abbrev pub nameless : List ℕ
nameless = 58 ∷ []

pub record Body : Type 0 where
  pub at : ℕ
  pub statements : Statements

pub record Routine : Type 0 where
  pub at : ℕ
  pub is_entry : Bool
  pub name : Identifier
  pub kind : RoutineKind
  pub parts : List Part
  pub body : Body

pub record System : Type 0 where
  pub at : ℕ
  pub kind : SystemKind
  pub parameters : List Group
  pub has_semicolon : Bool
  pub parts : List Part
  pub routines : List Routine
  pub body : Body

pub data Definition : Type 0 where
  type_definition : TypeTerm → Definition
  system_definition : System → Definition

pub record SystemDefinition : Type 0 where
  pub name : Identifier
  pub value : Definition

pub data ProgramPart : Type 0 where
  program_constants : ℕ → List ConstantDefinition → ProgramPart
  program_types : ℕ → List SystemDefinition → ProgramPart
  program_variables : ℕ → List VariableGroup → ProgramPart

pub record Program : Type 0 where
  pub parts : List ProgramPart
  pub routines : List Routine
  pub body : Body
  -- the number of tokens before the final period
  pub period : ℕ

-- a program, and the line of each of its tokens
pub record Tree : Type 0 where
  pub program : Program
  pub lines : List ℕ
