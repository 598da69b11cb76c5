-- In each reached state the next step of a ready process is one by the rules.
use Rattle.cp_machine_laws.proofs.Words.{◌≡◌, ◌∙◌, ℕ, ◌<◌, List, [], ◌∷◌, ◌++◌, Option, Some, None, ap, sym, refl, subst, arith, length, IsRead, plain, laid, Tables, Entry}
use Rattle.cp_machine_laws.proofs.Words.{Rest, Successor, Return, InitEnd, MachineFits, Machine, thread_at, Reaches, IsAccepted, name_of, temporary, View, this_component, is_ready, ready}
use Rattle.cp_machine_laws.proofs.Words.{Item, statement_item, function_call, start_item, Discipline, State, view_of, IsReached, at_first, by_step, by_admission, by_forgetting}
use Rattle.cp_machine_laws.proofs.Words.{Layouts, Here, here, AreTablesOf, Ground, InvokedBy, layouts_of, slots, AllKnown, GoInStep, InvokeKnown, StatementKnown, ItemKnown}
use Rattle.cp_machine_laws.proofs.Words.{ground_of, Simulates, Prepared, StackIs, StateKnown, Tree, Program, Expressions, no_expressions, more_expressions, Designator}
use Rattle.cp_machine_laws.proofs.Words.{Statement, invoke, init, Meaning, standard_meaning, Standard, delay_procedure, continue_procedure, display_procedure, find}
use Rattle.cp_machine_laws.specs.Followed.{IsInvoked, StatementFollows, ItemsFollow, StepFollows}
use Rattle.cp_meaning.specs.State as named
use Rattle.cp_machine_laws.specs.Following.{FollowingLaw}
use Rattle.cp_machine_laws.specs.Named.{named as on_names, discipline_of, is_some, in_line_of}
use Rattle.cp_machine_laws.proofs.steps.Beginning.{same_count}
use Rattle.cp_machine_laws.proofs.control.Control.{Taken, scope_is}
use Rattle.cp_machine_laws.proofs.Forgetting.{forgets}
use Rattle.cp_machine_laws.proofs.steps.Going.{Going, going, takes_one}
use Rattle.cp_machine_laws.proofs.HoldsInReached.{HoldsInReached, reached_stands}
use Rattle.cp_machine_laws.proofs.Meaning.{it, known, goes_in_step}
use Rattle.cp_machine_laws.proofs.reached.ReadyInReached.{ReadyInReached, ready_in_reached}
use Rattle.cp_machine_laws.proofs.steps.StepOfCall.{call_follows}
use Rattle.cp_machine_laws.proofs.steps.StepOfQueue.{delay_follows, continue_follows}
use Rattle.cp_machine_laws.proofs.steps.StepOfStart.{start_follows}

-- ---- the next step of a process

module _ (t : Tree) (r : Tables) (l : Layouts) (prepared : Prepared t r l) (s : State) (known : HoldsInReached t.program s) (m : Machine) (ready : ReadyInReached (ground_of t r) t.program s m) (fits : MachineFits r m) (reach : Reaches r m) (states : StateKnown t r l s m) (q : ℕ) (going : Going (ground_of t r) t.program l s m q) where
  abbrev g : Ground
  g = ground_of t r

  abbrev p : Program
  p = t.program

  abbrev this : Here
  this = here p l (thread_at m.threads q).frame.routine

  abbrev view : View
  view = view_of p s q

  module _ (at : ℕ) (mid : Option ℕ) (es : List Entry) (xs ys : List Item) where
    abbrev Takes : Item → Type 0
    Takes i = Taken g p l s m q at i mid es xs ys

    -- a call, or a standard procedure
    module _ (token : ℕ) (d : Designator) where
      standard_so : (f : Standard) (es' : Expressions) → (k : Takes (statement_item (invoke token d es'))) → find (name_of d) this.scope ≡ Some (standard_meaning f) → InvokeKnown g this (Some (standard_meaning f)) d es' → InvokedBy g this at token (Some (standard_meaning f)) d es' mid → IsInvoked s view (Some (standard_meaning f)) d es'
      standard_so display_procedure (more_expressions e more) k is rules own = tt
      standard_so delay_procedure (more_expressions e more) k is rules own = delay_follows t r l prepared s known m ready fits reach q going at mid es xs ys token d e more k rules
      standard_so continue_procedure (more_expressions e more) k is rules own = (
        states.continues q (record { there = going.there; ready_now = going.was; token = token; name = d; arguments = more_expressions e more; items = xs ++ ys; next = k.items; standard = ap (find (name_of d)) (scope_is g p l s m q at (statement_item (invoke token d (more_expressions e more))) mid es xs ys k) ∙ is }),
        continue_follows t r l prepared s known m ready fits reach q going at mid es xs ys token d e more k rules.0 (λ i h w. states.delayed (this_component view) i h w) is,
      )
      standard_so display_procedure no_expressions k is rules own = absurd own
      standard_so delay_procedure no_expressions k is rules own = absurd own
      standard_so continue_procedure no_expressions k is rules own = absurd own
      standard_so _ es' k is rules own = absurd own

      invoked_so : (w : Option Meaning) (es' : Expressions) → (k : Takes (statement_item (invoke token d es'))) → find (name_of d) this.scope ≡ w → InvokeKnown g this w d es' → InvokedBy g this at token w d es' mid → IsInvoked s view w d es'
      invoked_so (Some (standard_meaning f)) es' k is rules own = standard_so f es' k is rules own
      invoked_so _ es' k is rules own = call_follows t r l prepared s known m ready fits reach q going at mid es xs ys token (statement_item (invoke token d es')) k d es' None own rules k.kept

    statement_so : (u : Statement) → (k : Takes (statement_item u)) → StatementKnown g this u → StatementFollows s view u
    statement_so (invoke token d es') k rules =
        subst (λ (w : Option Meaning). IsInvoked s view w d es') (sym (ap (find (name_of d)) (scope_is g p l s m q at (statement_item (invoke token d es')) mid es xs ys k)))
        (invoked_so token d (find (name_of d) this.scope) es' k refl rules k.own)
    statement_so (init token ts) k rules = absurd k.own
    statement_so _ k rules = tt

    item_so : (i : Item) → Takes i → ItemKnown g this i → ItemsFollow s view (i ∷ xs ++ ys)
    item_so (statement_item u) k rules = statement_so u k rules
    item_so (function_call token d args) k rules = call_follows t r l prepared s known m ready fits reach q going at mid es xs ys token (function_call token d args) k d args (Some (temporary token)) k.own rules k.kept
    item_so (start_item x) k rules = start_follows t r l prepared s known m ready fits reach states q going at mid es xs ys x k rules
    item_so _ k rules = tt

  by_stack : (es : List Entry) → (thread_at m.threads q).stack ≡ es → StackIs g p l (thread_at m.threads q).frame (named.process_at s.processes q).calls (named.process_at s.processes q).items es → StepFollows p s q
  by_stack [] e is = subst (ItemsFollow s view) (sym is.2) tt
  by_stack (Rest at ∷ es) e is =
      let one = takes_one g p l s m q going at es e in
      subst (ItemsFollow s view) (sym one.taken.items)
      (item_so at one.mid es one.xs one.ys one.item one.taken (states.next q one.item (one.xs ++ one.ys) going.there going.was one.taken.items))
  by_stack (Successor at z last ∷ es) e is = subst (ItemsFollow s view) (sym is.3) (subst (λ (i : Item). ItemsFollow s view (i ∷ is.1 ++ is.2)) (sym is.4.same) tt)
  by_stack (Return caller slot monitor ∷ es) e is = subst (ItemsFollow s view) (sym is.5) tt
  by_stack (InitEnd caller n ∷ es) e is = subst (ItemsFollow s view) (sym is.4) tt

  pub process_follows : StepFollows p s q
  process_follows = by_stack (thread_at m.threads q).stack refl going.stack

-- ---- a program that was read and is accepted

module _ (t : Tree) (r : Tables) (g : Discipline) (read : IsRead t.program) (ok : IsAccepted t) (same : plain r ≡ laid t) where
  abbrev l : Layouts
  l = layouts_of t

  tables : AreTablesOf t r
  tables = it t r g read ok same

  asked : AllKnown t r l g
  asked = known t r g read ok same

  prepared : Prepared t r l
  prepared = record { stands = tables.stands; sound = tables.sound; program = asked.program }

  go : GoInStep (on_names t g) (slots r (discipline_of g)) (Simulates t r l g)
  go = goes_in_step t r g read ok same

  abbrev IsStoodFor : State → Type 0
  IsStoodFor s = (m : Machine) × Simulates t r l g s m

  below : (s : State) (m : Machine) (q : ℕ) → Simulates t r l g s m → q < length s.processes → q < (on_names t g).processes
  below s m q sim less = let a = same_count t r l g prepared s m sim in omega (arith, a, less)

  -- a machine stands for each reached state
  stood_for : (s : State) → IsReached t.program g s → IsStoodFor s
  stood_for _ at_first = ((slots r (discipline_of g)).start, go.start)
  stood_for _ (by_step s q before none less was) =
      let x = stood_for s before in
      ((slots r (discipline_of g)).step x.0 q, go.step s x.0 q x.1 (record { below = below s x.0 q x.1 less; ready = ap is_ready was; free = ap is_some none }))
  stood_for _ (by_admission s n q before is member) =
      let x = stood_for s before in
      let less = (reached_stands t ok g s before).line n q member in
      ((slots r (discipline_of g)).admit x.0 q, go.admit s x.0 q x.1 (record { below = below s x.0 q x.1 less.there; due = ap is_some is; lined = ap (λ o. in_line_of o s q) is ∙ member }))
  stood_for _ (by_forgetting s before) =
      let x = stood_for s before in
      (record x.0 { output = [] }, forgets t r l g s x.0 x.1)

  pub following : (s : State) (q : ℕ) → IsReached t.program g s → s.pending ≡ None → q < length s.processes → (named.process_at s.processes q).status ≡ ready → StepFollows t.program s q
  following s q reached none less was =
      let x = stood_for s reached in
      let sim = x.1 in
      process_follows t r l prepared s (reached_stands t ok g s reached) x.0 (ready_in_reached t r l g s x.0 ok tables.stands tables.sound.typed sim) sim.fits sim.reach (asked.states s x.0 sim) q
      (going (ground_of t r) t.program l s x.0 q sim.represents less (ap is_ready was))

pub following_law : FollowingLaw
following_law t r g read ok same s q reached none less was = following t r g read ok same s q reached none less was
