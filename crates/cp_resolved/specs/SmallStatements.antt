-- Statements whose expressions have small numbers.
use Rattle.cp_tree.specs.Syntax.{Start, Statement, empty, assign, invoke, block, if_then, if_else, case_of, while_do, repeat_until, for_do, cycle, init, asserted, Statements, no_statements, more_statements, Arms, no_arms, more_arms, Arm, arm}
use Rattle.cp_resolved.specs.Small.{Each, IsSmallConstant}
use Rattle.cp_resolved.specs.Typed.{IsSmallExpression, AreSmallExpressions, IsSmallDesignator}

abbrev pub IsSmallStart : Start → Type 0
IsSmallStart t = IsSmallDesignator t.target × AreSmallExpressions t.arguments

abbrev mutual
  pub IsSmallStatement : Statement → Type 0
  IsSmallStatement (empty at) = Unit {0}
  IsSmallStatement (assign at d e) = IsSmallDesignator d × IsSmallExpression e
  IsSmallStatement (invoke at d es) = IsSmallDesignator d × AreSmallExpressions es
  IsSmallStatement (block at ss) = AreSmallStatements ss
  IsSmallStatement (if_then at e t) = IsSmallExpression e × IsSmallStatement t
  IsSmallStatement (if_else at e t u) = IsSmallExpression e × IsSmallStatement t × IsSmallStatement u
  IsSmallStatement (case_of at e as' b) = IsSmallExpression e × AreSmallArms as'
  IsSmallStatement (while_do at e t) = IsSmallExpression e × IsSmallStatement t
  IsSmallStatement (repeat_until at ss e) = AreSmallStatements ss × IsSmallExpression e
  IsSmallStatement (for_do at i e d f t) = IsSmallExpression e × IsSmallExpression f × IsSmallStatement t
  IsSmallStatement (cycle at ss) = AreSmallStatements ss
  IsSmallStatement (init at ts) = Each IsSmallStart ts
  IsSmallStatement (asserted at k e t) = IsSmallExpression e × IsSmallStatement t

  pub AreSmallStatements : Statements → Type 0
  AreSmallStatements no_statements = Unit {0}
  AreSmallStatements (more_statements t ts) = IsSmallStatement t × AreSmallStatements ts

  pub AreSmallArms : Arms → Type 0
  AreSmallArms no_arms = Unit {0}
  AreSmallArms (more_arms a as') = IsSmallArm a × AreSmallArms as'

  pub IsSmallArm : Arm → Type 0
  IsSmallArm (arm cs t) = Each (λ c. IsSmallConstant c.kind) cs × IsSmallStatement t
