-- In a reached state there is a queue where the next `delay` or `continue` of a process names one.
use Rattle.std.proofs.Common.{◌≡◌, ◌∙◌, ℕ, ◌+◌, ◌<◌, true, false, List, [], ◌∷◌, ◌++◌, Option, Some, None, Ok, Err, Result, ap, sym, refl, subst, arith, length}
use Rattle.cp_tree.specs.Syntax.{Tree, Program, Expression, Expressions, no_expressions, more_expressions, Designator, invoke}
use Rattle.cp_slots.specs.Code as code
use Rattle.cp_slots.specs.Tables.{Tables, component_at}
use Rattle.cp_store.specs.declared.error.ErrorName as slots
use Rattle.cp_store.specs.declared.memory.Address.{Address}
use Rattle.cp_store.specs.declared.memory.Address.TheVariants.{Permanent}
use Rattle.cp_store.specs.declared.memory.Frame.{Frame}
use Rattle.cp_machine.specs.declared.process.Entry.{Entry}
use Rattle.cp_machine.specs.declared.process.Entry.TheVariants.{Rest, Successor, Return, InitEnd}
use Rattle.cp_machine.specs.Fits.{MachineFits}
use Rattle.cp_machine.specs.Machine.{Machine, thread_at}
use Rattle.cp_machine.specs.Memory.{memory_at}
use Rattle.cp_meaning.specs.Expressions.{name_of, target_value, variable_in, meaning_here}
use Rattle.cp_meaning.specs.Lifting.{expression_calls, expressions_calls, designator_calls, waits_meant}
use Rattle.cp_meaning.specs.LocalRules.{argument_of}
use Rattle.cp_meaning.specs.Outcome.{Outcome}
use Rattle.cp_meaning.specs.Places.{View, Target, content_of, value_held, value_at, environment_of, this_component}
use Rattle.cp_meaning.specs.Scopes.{Meaning, constant_meaning, type_meaning, local_variable, permanent_variable, routine_meaning, standard_meaning, Standard, delay_procedure, continue_procedure, display_procedure, succ_function, pred_function, chr_function, ord_function, abs_function, empty_function, find}
use Rattle.cp_meaning.specs.State as named
use Rattle.cp_meaning.specs.State.{Place, Holder, in_call, in_component, current, Call, Item, statement_item, function_call, start_item, until, successor, return, init_end, end, State}
use Rattle.cp_meaning.specs.Steps.{view_of}
use Rattle.cp_meaning.specs.Types.{Ty, queue_type}
use Rattle.cp_meaning.specs.Values.{queue_value, part_at}
use Rattle.cp_resolved.specs.Encoded.{HasType}
use Rattle.cp_resolved.specs.Layouts.{Layouts, Here, here}
use Rattle.cp_resolved.specs.Stands.{Ground, InvokedBy, QueueItem}
use Rattle.cp_machine_laws.specs.Agrees.{TargetAgrees}
use Rattle.cp_machine_laws.specs.Prepared.{Prepared}
use Rattle.cp_machine_laws.specs.ItemsKnown.{QueueKnown, InvokeKnown, ItemKnown}
use Rattle.cp_machine_laws.specs.Law.{ground_of}
use Rattle.cp_machine_laws.specs.PlainValues.{plain_address}
use Rattle.cp_machine_laws.specs.Represents.{LiesAt, BeginsAt, PlaceAt, frames_of, StackIs, all_permanents}
use Rattle.cp_machine_laws.specs.StatesKnown.{StateKnown}
use Rattle.cp_machine_laws.proofs.calls.Kept.{kept_left, kept_right}
use Rattle.cp_machine_laws.proofs.control.Control.{Taken, scope_is}
use Rattle.cp_machine_laws.proofs.control.Running.{Executes}
use Rattle.cp_machine_laws.proofs.expressions.Reading.{part_lies}
use Rattle.cp_machine_laws.proofs.queues.Delaying.{QueueNamed, queue_is}
use Rattle.cp_machine_laws.proofs.queues.QueueNames.{queue_named}
use Rattle.cp_machine_laws.proofs.steps.Executed.{executes}
use Rattle.cp_machine_laws.proofs.steps.Going.{Going, takes_one}
use Rattle.cp_annotation_laws.proofs.invariants.Stepping.{QueueThere}

-- the queue that the next item names
abbrev pub QueueNext : View → List Item → Type 0
QueueNext v [] = Unit {0}
QueueNext v (statement_item (invoke at d es) ∷ items) = waits_meant (meaning_here v d) ≡ true → QueueThere v (argument_of es)
QueueNext v (i ∷ items) = Unit {0}

module _ (t : Tree) (r : Tables) (l : Layouts) (prepared : Prepared t r l) (s : State) (m : Machine) (fits : MachineFits r m) (states : StateKnown t r l s m) (q : ℕ) (going : Going (ground_of t r) t.program l s m q) where
  abbrev g : Ground
  g = ground_of t r

  abbrev p : Program
  p = t.program

  abbrev this : Here
  this = here p l (thread_at m.threads q).frame.routine

  abbrev view : View
  view = view_of p s q

  -- ---- what stands at a place of a component has its type

  typed_in : (x : Place) (n : ℕ) (u : Ty) (fs : List Frame) (a : Address) → x.holder ≡ in_component n → (h : PlaceAt r l fs x u a) → BeginsAt r l fs (in_component n) x.name h.whole h.first → HasType u (part_at (value_held (content_of x.name (named.component_at s.components n).environment)) x.choices)
  typed_in x n u fs a own h b =
      let less : n < length s.components = (let c = going.rep.component_count in let e = b.there in omega (arith, c, e)) in
      let lies : LiesAt (all_permanents m) h.whole (value_held (content_of x.name (named.component_at s.components n).environment)) (Permanent ((component_at r n).base + (l.systems (component_at r n).system).slots x.name)) = (going.rep.components n less).variables x.name h.whole b.known in
      (part_lies (all_permanents m) h.whole (value_held (content_of x.name (named.component_at s.components n).environment)) (Permanent ((component_at r n).base + (l.systems (component_at r n).system).slots x.name)) x.choices (h.offset, u) lies h.chosen).typed

  queue_at : (x : Place) (n : ℕ) (fs : List Frame) (a : Address) → x.holder ≡ in_component n → PlaceAt r l fs x queue_type a → (o : Option ℕ) × (value_at view x ≡ queue_value o)
  queue_at x n fs a own h =
      let w = queue_is (part_at (value_held (content_of x.name (named.component_at s.components n).environment)) x.choices) (typed_in x n queue_type fs a own h (subst (λ (z : Holder). BeginsAt r l fs z x.name h.whole h.first) own h.begins)) in
      (w.0, ap (λ (z : Holder). part_at (value_held (content_of x.name (environment_of view z))) x.choices) own ∙ w.1)

  -- ---- the argument

  module _ (at : ℕ) (mid : Option ℕ) (es : List Entry) (xs ys : List Item) (token : ℕ) (d : Designator) where
    abbrev Takes : Expressions → Type 0
    Takes args = Taken g p l s m q at (statement_item (invoke token d args)) mid es xs ys

    agreed_place : (o : Outcome Target) (b : Result Address slots.ErrorName) (x : Target) → TargetAgrees r l (frames_of (thread_at m.threads q).frame es) o queue_type b → o ≡ Ok x → (a : Address) × PlaceAt r l (frames_of (thread_at m.threads q).frame es) x.place queue_type a
    agreed_place (Ok y) (Ok a) x h e = (a, (let same : y ≡ x = cc in subst (λ (z : Target). PlaceAt r l (frames_of (thread_at m.threads q).frame es) z.place queue_type a) same h.1))
    agreed_place (Ok y) (Err b) x h e = absurd h
    agreed_place (Err b) o x h e = absurd (cc)

    queue_so : (e : Expression) (more : Expressions) → Takes (more_expressions e more) → QueueKnown this e → (act : code.Place → code.Action) → QueueItem g this at token e mid act → QueueThere view (variable_in e)
    queue_so e more k rules act own x is target found =
        let same : rules.designator ≡ x = (let f : Some rules.designator ≡ Some x = sym rules.is ∙ is in cc) in
        let ex : Executes g p l m q = executes t r l prepared m q fits going.many in
        let queue : QueueNamed g p l s m q es e own.place =
        queue_named g p l s m q at (statement_item (invoke token d (more_expressions e more))) mid es xs ys k ex e own.place
        (kept_left this (expression_calls this.scope e) (expressions_calls this.scope more) (kept_right this (designator_calls this.scope d) (expression_calls this.scope e ++ expressions_calls this.scope more) k.kept)) own.formed
        rules.designator rules.ty rules.is (ap (find (name_of rules.designator)) (scope_is g p l s m q at (statement_item (invoke token d (more_expressions e more))) mid es xs ys k) ∙ rules.permanent) in
        let named_so : queue.designator ≡ x = (let f : Some queue.designator ≡ Some x = sym queue.is ∙ is in cc) in
        let there : target_value view queue.designator ≡ Ok target = ap (target_value view) named_so ∙ found in
        let place = agreed_place (target_value view queue.designator) (plain_address (memory_at m q) (thread_at m.threads q).frame own.place) target queue.agrees there in
        queue_at target.place (this_component view) (frames_of (thread_at m.threads q).frame es) place.0 (queue.own target there) place.1

    no_queue : QueueThere view None
    no_queue x is target found = absurd (cc)

    standard_so : (f : Standard) (args : Expressions) → Takes args → InvokeKnown g this (Some (standard_meaning f)) d args → InvokedBy g this at token (Some (standard_meaning f)) d args mid → waits_meant (Some (standard_meaning f)) ≡ true → QueueThere view (argument_of args)
    standard_so delay_procedure (more_expressions e more) k rules own h = queue_so e more k rules code.delay own
    standard_so continue_procedure (more_expressions e more) k rules own h = queue_so e more k rules.0 code.continue_at own
    standard_so delay_procedure no_expressions k rules own h = no_queue
    standard_so continue_procedure no_expressions k rules own h = no_queue
    standard_so display_procedure args k rules own h = absurd (let bad : false ≡ true = h in cc)
    standard_so succ_function args k rules own h = absurd (let bad : false ≡ true = h in cc)
    standard_so pred_function args k rules own h = absurd (let bad : false ≡ true = h in cc)
    standard_so chr_function args k rules own h = absurd (let bad : false ≡ true = h in cc)
    standard_so ord_function args k rules own h = absurd (let bad : false ≡ true = h in cc)
    standard_so abs_function args k rules own h = absurd (let bad : false ≡ true = h in cc)
    standard_so empty_function args k rules own h = absurd (let bad : false ≡ true = h in cc)

    meant_so : (w : Option Meaning) (args : Expressions) → Takes args → InvokeKnown g this w d args → InvokedBy g this at token w d args mid → waits_meant w ≡ true → QueueThere view (argument_of args)
    meant_so (Some (standard_meaning f)) args k rules own h = standard_so f args k rules own h
    meant_so (Some (constant_meaning b z)) args k rules own h = absurd (let bad : false ≡ true = h in cc)
    meant_so (Some (type_meaning u)) args k rules own h = absurd (let bad : false ≡ true = h in cc)
    meant_so (Some (local_variable u)) args k rules own h = absurd (let bad : false ≡ true = h in cc)
    meant_so (Some (permanent_variable u)) args k rules own h = absurd (let bad : false ≡ true = h in cc)
    meant_so (Some (routine_meaning u)) args k rules own h = absurd (let bad : false ≡ true = h in cc)
    meant_so None args k rules own h = absurd (let bad : false ≡ true = h in cc)

    invoked_so : (args : Expressions) → Takes args → InvokeKnown g this (find (name_of d) this.scope) d args → waits_meant (meaning_here view d) ≡ true → QueueThere view (argument_of args)
    invoked_so args k rules h = meant_so (find (name_of d) this.scope) args k rules k.own (sym (ap (λ c. waits_meant (find (name_of d) c)) (scope_is g p l s m q at (statement_item (invoke token d args)) mid es xs ys k)) ∙ h)

  item_so : (at : ℕ) (mid : Option ℕ) (es : List Entry) (xs ys : List Item) (i : Item) → Taken g p l s m q at i mid es xs ys → ItemKnown g this i → QueueNext view (i ∷ xs ++ ys)
  item_so at mid es xs ys (statement_item (invoke token d args)) k rules = invoked_so at mid es xs ys token d args k rules
  item_so at mid es xs ys _ k rules = tt

  by_stack : (es : List Entry) → (thread_at m.threads q).stack ≡ es → StackIs g p l (thread_at m.threads q).frame (named.process_at s.processes q).calls (named.process_at s.processes q).items es → QueueNext view (named.process_at s.processes q).items
  by_stack [] e is = subst (QueueNext view) (sym is.2) tt
  by_stack (Rest at ∷ es) e is =
      let one = takes_one g p l s m q going at es e in
      subst (QueueNext view) (sym one.taken.items) (item_so at one.mid es one.xs one.ys one.item one.taken (states.next q one.item (one.xs ++ one.ys) going.there going.was one.taken.items))
  by_stack (Successor at z last ∷ es) e is = subst (QueueNext view) (sym is.3) (subst (λ (i : Item). QueueNext view (i ∷ is.1 ++ is.2)) (sym is.4.same) tt)
  by_stack (Return caller slot monitor ∷ es) e is = subst (QueueNext view) (sym is.5) tt
  by_stack (InitEnd caller n ∷ es) e is = subst (QueueNext view) (sym is.4) tt

  pub queue_next : QueueNext view (named.process_at s.processes q).items
  queue_next = by_stack (thread_at m.threads q).stack refl going.stack
