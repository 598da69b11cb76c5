-- The step of a process whose control stack begins with an item, of whatever kind the item is.
use Rattle.cp_machine_laws.proofs.Words.{◌≡◌, ◌∙◌, ℕ, List, ◌++◌, Option, Some, None, ap, sym, refl, slice_index, Tables, Entry, MachineFits, Machine, thread_at, Reaches}
use Rattle.cp_machine_laws.proofs.Words.{step_at, name_of, this_component, Item, statement_item, function_call, start_item, until, State, Layouts, Here, here, Ground}
use Rattle.cp_machine_laws.proofs.Words.{InvokedBy, InvokeKnown, StatementKnown, ItemKnown, ground_of, Prepared, StateKnown, view_of, step_of, at_item}
use Rattle.cp_tree.specs.Syntax.{Tree, Program, Expressions, more_expressions, Designator, Statement, empty, assign, invoke, block, if_then, if_else, case_of, while_do, repeat_until, for_do, cycle, init, asserted}
use Rattle.cp_meaning.specs.Scopes.{Meaning, constant_meaning, type_meaning, local_variable, permanent_variable, routine_meaning, standard_meaning, Standard, delay_procedure, continue_procedure, display_procedure, find}
use Rattle.cp_machine_laws.proofs.control.Control.{Taken, StepIs, empty_step, block_step, scope_is}
use Rattle.cp_machine_laws.proofs.steps.Going.{Going}
use Rattle.cp_machine_laws.proofs.HoldsInReached.{HoldsInReached}
use Rattle.cp_machine_laws.proofs.control.Loops.{cycle_step, repeat_step}
use Rattle.cp_machine_laws.proofs.reached.ReadyInReached.{ReadyInReached}
use Rattle.cp_machine_laws.proofs.steps.StepOfCall.{function_so, invoke_so}
use Rattle.cp_machine_laws.proofs.steps.StepOfQueue.{delay_so, continue_so}
use Rattle.cp_machine_laws.proofs.steps.StepOfStart.{start_so}
use Rattle.cp_machine_laws.proofs.steps.StepOfStatement.{asserted_so, if_so, if_else_so, while_so, until_so, case_so, assign_so, for_so, display_so}

module _ (t : Tree) (r : Tables) (l : Layouts) (prepared : Prepared t r l) (s : State) (known : HoldsInReached t.program s) (m : Machine) (ready : ReadyInReached (ground_of t r) t.program s m) (fits : MachineFits r m) (reach : Reaches r m) (states : StateKnown t r l s m) (q : ℕ) (going : Going (ground_of t r) t.program l s m q) (at : ℕ) (mid : Option ℕ) (es : List Entry) (xs ys : List Item) where
  abbrev g : Ground
  g = ground_of t r

  abbrev p : Program
  p = t.program

  abbrev this : Here
  this = here p l (thread_at m.threads q).frame.routine

  abbrev Takes : Item → Type 0
  Takes i = Taken g p l s m q at i mid es xs ys

  abbrev Steps : ℕ → Type 0
  Steps token = StepIs g p l q (slice_index t.lines token) (step_of p s q) (step_at r m q)

  -- ---- a call as a statement, or a standard procedure

  module _ (token : ℕ) (d : Designator) where
    abbrev IsInvoked : Meaning → Expressions → Type 0
    IsInvoked w es' = Takes (statement_item (invoke token d es')) → find (name_of d) this.scope ≡ Some w → InvokeKnown g this (Some w) d es' → InvokedBy g this at token (Some w) d es' mid → Steps token

    standard_so : (f : Standard) (es' : Expressions) → IsInvoked (standard_meaning f) es'
    standard_so display_procedure (more_expressions e more) k is rules own = display_so t r l prepared s m q at fits going.many mid es xs ys token d e more k is rules
    standard_so delay_procedure (more_expressions e more) k is rules own = delay_so t r l prepared s known m ready fits reach q going at mid es xs ys token d e more k rules is
    standard_so continue_procedure (more_expressions e more) k is rules own =
        continue_so t r l prepared s known m ready fits reach q going at mid es xs ys token d e more k rules.0
        (states.continues q (record { there = going.there; ready_now = going.was; token = token; name = d; arguments = more_expressions e more; items = xs ++ ys; next = k.items; standard = ap (find (name_of d)) (scope_is g p l s m q at (statement_item (invoke token d (more_expressions e more))) mid es xs ys k) ∙ is }))
        (λ i h w. states.delayed (this_component (view_of p s q)) i h w) is rules.1
    standard_so _ _ k is rules own = absurd own

    invoked_so : (w : Option Meaning) (es' : Expressions) → Takes (statement_item (invoke token d es')) → find (name_of d) this.scope ≡ w → InvokeKnown g this w d es' → InvokedBy g this at token w d es' mid → Steps token
    invoked_so (Some (standard_meaning f)) es' k is rules own = standard_so f es' k is rules own
    invoked_so None es' k is rules own = invoke_so t r l prepared s known m ready fits reach q going at mid es xs ys token d es' k (λ f e. (let w : None ≡ Some (standard_meaning f) = sym is ∙ e in cc)) rules
    invoked_so (Some (constant_meaning b z)) es' k is rules own = invoke_so t r l prepared s known m ready fits reach q going at mid es xs ys token d es' k (λ f e. (let w : Some (constant_meaning b z) ≡ Some (standard_meaning f) = sym is ∙ e in cc)) rules
    invoked_so (Some (type_meaning u)) es' k is rules own = invoke_so t r l prepared s known m ready fits reach q going at mid es xs ys token d es' k (λ f e. (let w : Some (type_meaning u) ≡ Some (standard_meaning f) = sym is ∙ e in cc)) rules
    invoked_so (Some (local_variable u)) es' k is rules own = invoke_so t r l prepared s known m ready fits reach q going at mid es xs ys token d es' k (λ f e. (let w : Some (local_variable u) ≡ Some (standard_meaning f) = sym is ∙ e in cc)) rules
    invoked_so (Some (permanent_variable u)) es' k is rules own = invoke_so t r l prepared s known m ready fits reach q going at mid es xs ys token d es' k (λ f e. (let w : Some (permanent_variable u) ≡ Some (standard_meaning f) = sym is ∙ e in cc)) rules
    invoked_so (Some (routine_meaning y)) es' k is rules own = invoke_so t r l prepared s known m ready fits reach q going at mid es xs ys token d es' k (λ f e. (let w : Some (routine_meaning y) ≡ Some (standard_meaning f) = sym is ∙ e in cc)) rules

  -- ---- each statement

  statement_so : (u : Statement) → Takes (statement_item u) → StatementKnown g this u → Steps (at_item (statement_item u))
  statement_so (empty token) k rules = empty_step g p l s m q at token (slice_index t.lines token) mid es xs ys k
  statement_so (assign token d e) k rules = assign_so t r l prepared s m q at fits going.many mid es xs ys token d e k rules
  statement_so (invoke token d es') k rules = invoked_so token d (find (name_of d) this.scope) es' k refl rules k.own
  statement_so (block token ss) k rules = block_step g p l s m q at token (slice_index t.lines token) ss mid es xs ys k
  statement_so (if_then token e u) k rules = if_so t r l prepared s m q at fits going.many mid es xs ys token e u k
  statement_so (if_else token e u w) k rules = if_else_so t r l prepared s m q at fits going.many mid es xs ys token e u w k
  statement_so (case_of token e arms b) k rules = case_so t r l prepared s m q at fits going.many mid es xs ys token e arms b k
  statement_so (while_do token e u) k rules = while_so t r l prepared s m q at fits going.many mid es xs ys token e u k
  statement_so (repeat_until token ss e) k rules = repeat_step g p l s m q at token (slice_index t.lines token) ss e mid es xs ys k
  statement_so (for_do token i e d f u) k rules = for_so t r l prepared s m q at fits going.many mid es xs ys token i e d f u k
  statement_so (cycle token ss) k rules = cycle_step g p l s m q at token (slice_index t.lines token) ss mid es xs ys k
  statement_so (init token ts) k rules = absurd k.own
  statement_so (asserted token a e u) k rules = asserted_so t r l prepared s m q at fits going.many mid es xs ys token a e u k

  -- ---- each item

  pub item_so : (i : Item) → Takes i → ItemKnown g this i → Steps (at_item i)
  item_so (statement_item u) k rules = statement_so u k rules
  item_so (function_call token d args) k rules = function_so t r l prepared s known m ready fits reach q going at mid es xs ys token d args k rules
  item_so (start_item x) k rules = start_so t r l prepared s known m ready fits reach states q going at mid es xs ys x k rules
  item_so (until ss e) k rules = until_so t r l prepared s m q at fits going.many mid es xs ys ss e k
  item_so _ k rules = absurd k.own
