-- The step of each statement that is no call: it goes on slots as on names.
use Rattle.cp_machine_laws.proofs.Words.{◌≡◌, ℕ, ◌<◌, List, ◌∷◌, Option, Some, subst, length, slice_index, Identifier, Direction, Tables, Entry, Rest, StackFits, MachineFits}
use Rattle.cp_machine_laws.proofs.Words.{Machine, thread_at, memory_at, step_at, Base, enumerated, ordinal, standard_meaning, display_procedure, find, name_of, Item}
use Rattle.cp_machine_laws.proofs.Words.{statement_item, until, State, Layouts, Here, here, as_ordinal, Ground, ground_of, Prepared, Bool, view_of, step_of, at_expression}
use Rattle.cp_tree.specs.Syntax.{Tree, Program, Expression, Expressions, more_expressions, Designator, Statement, assign, invoke, if_then, if_else, case_of, while_do, for_do, asserted, Statements, Arms}
use Rattle.cp_tree.specs.declared.statement.AssertionKind.{AssertionKind}
use Rattle.cp_slots.specs.Code as code
use Rattle.cp_machine_laws.specs.ItemsKnown.{AssignKnown, DisplayKnown, HasFewConstants}
use Rattle.cp_machine_laws.proofs.assignments.AnyAssignments.{assignment_runs}
use Rattle.cp_machine_laws.proofs.control.Assertions.{assert_step}
use Rattle.cp_machine_laws.proofs.control.Cases.{case_step}
use Rattle.cp_machine_laws.proofs.control.Control.{Taken, StepIs, goes, top_frame}
use Rattle.cp_machine_laws.proofs.control.Counting.{for_step}
use Rattle.cp_machine_laws.proofs.expressions.DesignatedTypes.{range_known, IsGood, designator_good, counted_good}
use Rattle.cp_machine_laws.proofs.control.Displaying.{FewConstants, display_step, own_display}
use Rattle.cp_machine_laws.proofs.steps.Executed.{executes, names_typed, variables_apart}
use Rattle.cp_machine_laws.proofs.expressions.Expressions.{expression_ok}
use Rattle.cp_machine_laws.proofs.control.Loops.{if_else_step, while_step, until_step}
use Rattle.cp_machine_laws.proofs.control.Running.{Executes, frames_below, sees_now, test_agrees, if_runs}
use Rattle.cp_machine_laws.proofs.assignments.Storing.{stores_known}

module _ (t : Tree) (r : Tables) (l : Layouts) (prepared : Prepared t r l) (s : State) (m : Machine) (q at : ℕ) (fits : MachineFits r m) (many : q < length m.threads) (mid : Option ℕ) (es : List Entry) (xs ys : List Item) where
  abbrev g : Ground
  g = ground_of t r

  abbrev p : Program
  p = t.program

  abbrev this : Here
  this = here p l (thread_at m.threads q).frame.routine

  abbrev Takes : Item → Type 0
  Takes i = Taken g p l s m q at i mid es xs ys

  abbrev Steps : ℕ → Type 0
  Steps token = StepIs g p l q (slice_index t.lines token) (step_of p s q) (step_at r m q)

  ex : Executes g p l m q
  ex = executes t r l prepared m q fits many

  -- what is below the item fits
  pub below_fits : (thread_at m.threads q).stack ≡ Rest at ∷ es → StackFits r (thread_at m.threads q).frame es
  below_fits e = (subst (λ us. StackFits r (thread_at m.threads q).frame us) e (fits.each q many).stack).1

  -- ---- tests

  pub if_so : (token : ℕ) (e : Expression) (u : Statement) → Takes (statement_item (if_then token e u)) → Steps token
  if_so token e u k = if_runs g p l s m q at token e u mid es xs ys k ex

  pub if_else_so : (token : ℕ) (e : Expression) (u w : Statement) → Takes (statement_item (if_else token e u w)) → Steps token
  if_else_so token e u w k =
      if_else_step g p l s m q at token e u w mid es xs ys k (test_agrees g p l s m q at (statement_item (if_else token e u w)) mid es xs ys k ex e k.own.0 k.kept k.own.3)

  pub asserted_so : (token : ℕ) (a : AssertionKind) (e : Expression) (u : Statement) → Takes (statement_item (asserted token a e u)) → Steps token
  asserted_so token a e u k = assert_step g p l s m q at token a e u mid es xs ys k (test_agrees g p l s m q at (statement_item (asserted token a e u)) mid es xs ys k ex e k.own.0 k.kept k.own.2)

  pub while_so : (token : ℕ) (e : Expression) (u : Statement) → Takes (statement_item (while_do token e u)) → Steps token
  while_so token e u k = while_step g p l s m q at token e u mid es xs ys k (test_agrees g p l s m q at (statement_item (while_do token e u)) mid es xs ys k ex e k.own.test k.kept k.own.formed)

  pub until_so : (ss : Statements) (e : Expression) → Takes (until ss e) → Steps (at_expression e)
  until_so ss e k = until_step g p l s m q at ss e mid es xs ys k (test_agrees g p l s m q at (until ss e) mid es xs ys k ex e k.own.test k.kept k.own.formed)

  pub case_so : (token : ℕ) (e : Expression) (arms : Arms) (b : Bool) → Takes (statement_item (case_of token e arms b)) → Steps token
  case_so token e arms b k =
      case_step g p l s m q at token e arms b mid es xs ys k
      (expression_ok r l ((thread_at m.threads q).frame ∷ frames_below g p l s m q at (statement_item (case_of token e arms b)) mid es xs ys k ex) (view_of p s q) (memory_at m q) (thread_at m.threads q).frame this
      (sees_now g p l s m q at (statement_item (case_of token e arms b)) mid es xs ys k ex) e (record { ty = k.own.1; form = as_ordinal k.own.0 }) k.kept k.own.3)

  -- ---- what is stored

  pub assign_so : (token : ℕ) (d : Designator) (e : Expression) → Takes (statement_item (assign token d e)) → AssignKnown this d → Steps token
  assign_so token d e k known =
      assignment_runs g p l s m q at token d e mid es xs ys k ex
      (variables_apart t r l prepared m q fits many es (below_fits k.stack) k.own.ty (known k.own.place k.own.ty k.own.target))
      (range_known k.own.ty (designator_good p l (thread_at m.threads q).frame.routine (names_typed t r l prepared m q fits many) d k.own.place k.own.ty k.own.target))

  pub for_so : (token : ℕ) (i : Identifier) (e : Expression) (d : Direction) (f : Expression) (u : Statement) → Takes (statement_item (for_do token i e d f u)) → Steps token
  for_so token i e d f u k =
      for_step g p l s m q at token i e d f u mid es xs ys k ex
      (λ place a there. stores_known g p l s m q (slice_index t.lines token) es (goes g p l s m q at (statement_item (for_do token i e d f u)) mid es xs ys k) k.own.range
      (variables_apart t r l prepared m q fits many es (below_fits k.stack) (ordinal k.own.range) good) (range_known (ordinal k.own.range) good)
      ((thread_at m.threads q).frame ∷ frames_below g p l s m q at (statement_item (for_do token i e d f u)) mid es xs ys k ex) (top_frame (thread_at m.threads q).frame es).1 place a there)
    where
      good : IsGood (ordinal k.own.range)
      good = counted_good p l (thread_at m.threads q).frame.routine (names_typed t r l prepared m q fits many) i.name (code.place k.own.origin 0 code.no_indices) (ordinal k.own.range) k.own.variable

  -- ---- what is displayed

  few_constants : (b : Base) → HasFewConstants g b → FewConstants g b
  few_constants (enumerated a cs) h = h
  few_constants _ h = tt

  pub display_so : (token : ℕ) (d : Designator) (e : Expression) (more : Expressions) → (k : Takes (statement_item (invoke token d (more_expressions e more)))) → find (name_of d) this.scope ≡ Some (standard_meaning display_procedure) → DisplayKnown g this e → Steps token
  display_so token d e more k standard known =
      let own = own_display g p l s m q at token d e more mid es xs ys k standard in
      display_step g p l s m q at token d e more mid es xs ys k standard ex (few_constants own.range.base (known own.range own.cell own.formed))
