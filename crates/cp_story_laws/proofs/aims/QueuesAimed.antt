-- The queue to which a process is about to come on slots is the cell of the one on names.
use Rattle.std.proofs.Common.{◌≡◌, ◌∙◌, ℕ, ◌+◌, ◌<◌, List, [], ◌∷◌, ◌++◌, length, Option, Some, None, Result, Ok, Err, ap, sym, refl, subst}
use Rattle.cp_tree.specs.declared.declaration.SystemKind.{SystemKind}
use Rattle.cp_tree.specs.declared.declaration.SystemKind.TheVariants as system_kind
use Rattle.cp_tree.specs.Read.{IsRead}
use Rattle.cp_tree.specs.Syntax.{Tree, Expression, Expressions, more_expressions, Designator, invoke}
use Rattle.cp_layout.specs.Laid.{plain, laid}
use Rattle.cp_meaning_laws.specs.Accepted.{IsAccepted}
use Rattle.cp_slots.specs.declared.item.Action.{Action}
use Rattle.cp_slots.specs.declared.item.Action.TheVariants as action
use Rattle.cp_slots.specs.declared.tables.ComponentKind.{ComponentKind}
use Rattle.cp_slots.specs.declared.tables.ComponentKind.TheVariants as kind
use Rattle.cp_slots.specs.Code as code
use Rattle.cp_slots.specs.Tables.{Tables, component_at, item_at}
use Rattle.cp_store.specs.declared.error.ErrorName.{ErrorName}
use Rattle.cp_store.specs.declared.memory.Address.{Address}
use Rattle.cp_store.specs.declared.memory.Address.TheVariants.{Permanent}
use Rattle.cp_store.specs.declared.memory.Frame.{Frame}
use Rattle.cp_machine.specs.declared.discipline.Discipline as slot_gates
use Rattle.cp_machine.specs.declared.process.Entry.{Entry}
use Rattle.cp_machine.specs.declared.process.Entry.TheVariants.{Rest, Successor, Return, InitEnd}
use Rattle.cp_machine.specs.Machine.{Machine, thread_at}
use Rattle.cp_machine.specs.Memory.{memory_at}
use Rattle.cp_meaning.specs.Expressions.{name_of, target_value, variable_in}
use Rattle.cp_meaning.specs.Lifting.{designator_calls, expression_calls, expressions_calls}
use Rattle.cp_meaning.specs.LocalRules.{argument_of}
use Rattle.cp_meaning.specs.Outcome.{Outcome}
use Rattle.cp_meaning.specs.Places.{Target, View, this_component}
use Rattle.cp_meaning.specs.Scopes.{Meaning, Scope, standard_meaning, Standard, delay_procedure, continue_procedure, display_procedure, find}
use Rattle.cp_meaning.specs.State as names
use Rattle.cp_meaning.specs.State.{Discipline, Holder, in_component, Item, statement_item, Place, State}
use Rattle.cp_meaning.specs.Steps.{view_of}
use Rattle.cp_meaning.specs.Systems.{system_of}
use Rattle.cp_meaning.specs.Types.{queue_type}
use Rattle.cp_resolved.specs.Compiled.{as_place, expression_form}
use Rattle.cp_resolved.specs.Layouts.{Here, Layouts, here}
use Rattle.cp_resolved.specs.Stands.{Ground, InvokedBy, Performed, first_of}
use Rattle.cp_resolved.specs.TreeLayouts.{layouts_of}
use Rattle.cp_machine_laws.specs.Agrees.{TargetAgrees}
use Rattle.cp_machine_laws.specs.AllKnown.{AllKnown}
use Rattle.cp_machine_laws.specs.InStep.{CanGo}
use Rattle.cp_machine_laws.specs.ItemsKnown.{InvokeKnown, ItemKnown, QueueKnown}
use Rattle.cp_machine_laws.specs.Kinds.{SameKind}
use Rattle.cp_machine_laws.specs.Law.{ground_of}
use Rattle.cp_machine_laws.specs.Named.{named, named_discipline}
use Rattle.cp_machine_laws.specs.PlainValues.{plain_address}
use Rattle.cp_machine_laws.specs.Prepared.{Prepared}
use Rattle.cp_machine_laws.specs.Represents.{BeginsAt, InComponent, PlaceAt, StackIs, frames_of, further}
use Rattle.cp_machine_laws.proofs.HoldsInReached.{HoldsInReached, reached_stands}
use Rattle.cp_machine_laws.proofs.Meaning.{known}
use Rattle.cp_machine_laws.proofs.calls.Kept.{kept_left, kept_right}
use Rattle.cp_machine_laws.proofs.control.Control.{Taken, scope_is}
use Rattle.cp_machine_laws.proofs.expressions.ComponentsNow.{current_component, executed_there, executed_system}
use Rattle.cp_machine_laws.proofs.expressions.Views.{views_agree}
use Rattle.cp_machine_laws.proofs.queues.Delaying.{QueueNamed}
use Rattle.cp_machine_laws.proofs.queues.QueueNames.{queue_named}
use Rattle.cp_machine_laws.proofs.reached.ReadyInReached.{ReadyInReached, ready_in_reached}
use Rattle.cp_machine_laws.proofs.reached.SystemKinds.{kind_is}
use Rattle.cp_machine_laws.proofs.steps.Executed.{executes}
use Rattle.cp_machine_laws.proofs.steps.Going.{Going, takes_one}
use Rattle.cp_story.specs.Aimed.{aim_in, aim_of_top, permanent_cell, queue_of}
use Rattle.cp_story_laws.specs.Aims.{designated, first_queue, place_found, queue_meant, queue_of_item, queue_place}
use Rattle.cp_story_laws.proofs.aims.PlainItems.{call_plain, comes_to_none, item_plain, plain_at}
use Rattle.cp_story_laws.proofs.aims.QueueCells.{SameQueue}
use Rattle.cp_story_laws.proofs.Together as together

-- ---- the queue of an action, by its view

abbrev place_of : code.Action → Option code.Place
place_of (code.delay p) = Some p
place_of (code.continue_at p) = Some p
place_of a = None

abbrev cell_of : Machine → (q : ℕ) → Option code.Place → Option ℕ
cell_of m q None = None
cell_of m q (Some p) = permanent_cell (plain_address (memory_at m q) (thread_at m.threads q).frame p)

seen : (m : Machine) (q : ℕ) (a : Action) → queue_of m q a ≡ cell_of m q (place_of (code.action_seen a))
seen m q (action.Delay p) = ap permanent_cell (views_agree.place (memory_at m q) (thread_at m.threads q).frame p)
seen m q (action.Continue p) = ap permanent_cell (views_agree.place (memory_at m q) (thread_at m.threads q).frame p)
seen m q a = refl

monitor_number : (a : SystemKind) (c : ComponentKind) → SameKind a c → a ≡ system_kind.Monitor → (j : ℕ) × (c ≡ kind.Monitor j)
monitor_number system_kind.Monitor (kind.Monitor j) h e = (j, refl)
monitor_number system_kind.Process (kind.Process j) h e = absurd (cc)
monitor_number system_kind.Class kind.Class h e = absurd (cc)
monitor_number a c h e = absurd h

module _ (t : Tree) (r : Tables) (g : slot_gates.Discipline) (read : IsRead t.program) (ok : IsAccepted t) (same : plain r ≡ laid t) (s : State) (m : Machine) (p : ℕ) (sim : together.Related t r g read ok same s m) (can : CanGo (named t (named_discipline g)) s p) where
  abbrev ground : Ground
  ground = ground_of t r

  abbrev layouts : Layouts
  layouts = layouts_of t

  abbrev discipline : Discipline
  discipline = named_discipline g

  abbrev view : View
  view = view_of t.program s p

  abbrev frame : Frame
  frame = (thread_at m.threads p).frame

  abbrev this : Here
  this = here t.program layouts frame.routine

  -- the component that is executed
  abbrev n : ℕ
  n = this_component view

  goes : Going ground t.program layouts s m p
  goes = together.going t r g read ok same s m p sim can

  prepared : Prepared t r layouts
  prepared = together.prepared t r g read ok same

  all_known : AllKnown t r layouts discipline
  all_known = known t r discipline read ok same

  holds : HoldsInReached t.program s
  holds = reached_stands t ok discipline s sim.reached

  ready : ReadyInReached ground t.program s m
  ready = ready_in_reached t r layouts discipline s m ok prepared.stands prepared.sound.typed sim

  -- a cell on slots, and a queue on names
  abbrev Meets : Option ℕ → Option Place → Type 0
  Meets u o = SameQueue t r o u

  moved : (u w : Option ℕ) (o q : Option Place) → u ≡ w → q ≡ o → Meets w q → Meets u o
  moved u w o q e f k = subst (λ (a : Option ℕ). Meets a o) (sym e) (subst (λ (b : Option Place). Meets w b) f k)

  -- ---- a queue of a monitor

  module _ (monitor : (system_of t.program (layouts.owners frame.routine)).kind ≡ system_kind.Monitor) where
    this_is : n ≡ frame.component
    this_is = current_component t r layouts prepared s holds m ready sim.fits sim.reach p goes

    there : n < length r.components
    there = subst (λ (c : ℕ). c < length r.components) (sym this_is) (executed_there t r layouts prepared s holds m ready sim.fits sim.reach p goes)

    number : (j : ℕ) × ((component_at r n).kind ≡ kind.Monitor j)
    number =
        monitor_number (names.component_at s.components n).kind (component_at r n).kind (ready.kinds n there)
        (kind_is t r layouts prepared s holds m ready n there
        ∙ (ap (λ (c : ℕ). (system_of t.program (component_at r c).system).kind) this_is
        ∙ (ap (λ (k : ℕ). (system_of t.program k).kind) (executed_system t r layouts prepared s holds m ready sim.fits sim.reach p goes) ∙ monitor)))

    module _ (fs : List Frame) where
      queue_there : (x : Place) (a : Address) → x.holder ≡ in_component n → PlaceAt r layouts fs x queue_type a → Meets (permanent_cell (Ok a)) (Some x)
      queue_there x a holder place = subst (λ (b : Address). Meets (permanent_cell (Ok b)) (Some x)) (sym address_is) (record { component = n; holder = holder; place = alone; number = number.0; monitor = number.1 })
        where
          inside : InComponent r layouts n x.name place.whole place.first
          inside = subst (λ (h : Holder). BeginsAt r layouts fs h x.name place.whole place.first) holder place.begins

          cell : ℕ
          cell = (component_at r n).base + (layouts.systems (component_at r n).system).slots x.name + place.offset

          address_is : a ≡ Permanent cell
          address_is = place.address ∙ ap (λ (b : Address). further b place.offset) inside.address

          -- a place of a component does not rest on frames
          alone : PlaceAt r layouts [] x queue_type (Permanent cell)
          alone =
              record {
                whole = place.whole;
                first = place.first;
                offset = place.offset;
                begins = subst (λ (h : Holder). BeginsAt r layouts [] h x.name place.whole place.first) (sym holder) inside;
                chosen = place.chosen;
                address = sym address_is ∙ place.address;
              }

      by_target : (o : Outcome Target) → ((x : Target) → o ≡ Ok x → x.place.holder ≡ in_component n) → (b : Result Address ErrorName) → TargetAgrees r layouts fs o queue_type b → Meets (permanent_cell b) (place_found o)
      by_target (Ok x) inside (Ok a) k = queue_there x.place a (inside x refl) k.1
      by_target (Err e) inside (Err d) k = tt
      by_target (Ok x) inside (Err d) k = absurd k
      by_target (Err e) inside (Ok a) k = absurd k

  -- ---- an item

  module _ (at : ℕ) (mid : Option ℕ) (es : List Entry) (xs ys : List Item) where
    abbrev Takes : Item → Type 0
    Takes i = Taken ground t.program layouts s m p at i mid es xs ys

    abbrev on_slots : Option ℕ
    on_slots = queue_of m p (item_at r at).action

    nothing : on_slots ≡ None → Meets on_slots None
    nothing e = subst (λ (u : Option ℕ). Meets u None) (sym e) tt

    module _ (token : ℕ) (d : Designator) where
      queue_named_here : (e : Expression) (more : Expressions) (spot : code.Place) → Takes (statement_item (invoke token d (more_expressions e more))) → QueueKnown this e → expression_form this e ≡ Some (record { ty = queue_type; form = as_place spot }) → QueueNamed ground t.program layouts s m p es e spot
      queue_named_here e more spot k rules formed =
          queue_named ground t.program layouts s m p at (statement_item (invoke token d (more_expressions e more))) mid es xs ys k (executes t r layouts prepared m p sim.fits goes.many) e spot
          (kept_left this (expression_calls this.scope e) (expressions_calls this.scope more) (kept_right this (designator_calls this.scope d) (expression_calls this.scope e ++ expressions_calls this.scope more) k.kept)) formed
          rules.designator rules.ty rules.is (ap (find (name_of rules.designator)) (scope_is ground t.program layouts s m p at (statement_item (invoke token d (more_expressions e more))) mid es xs ys k) ∙ rules.permanent)

      at_queue : (e : Expression) (more : Expressions) (spot : code.Place) → Takes (statement_item (invoke token d (more_expressions e more))) → QueueKnown this e → expression_form this e ≡ Some (record { ty = queue_type; form = as_place spot }) → place_of (code.action_seen (item_at r at).action) ≡ Some spot → Meets on_slots (designated view (variable_in e))
      at_queue e more spot k rules formed is =
          let queue = queue_named_here e more spot k rules formed in
          moved on_slots (permanent_cell (plain_address (memory_at m p) frame spot)) (designated view (variable_in e)) (place_found (target_value view queue.designator)) (seen m p (item_at r at).action ∙ ap (cell_of m p) is) (ap (designated view) (sym queue.is))
          (by_target rules.monitor (frames_of frame es) (target_value view queue.designator) queue.own (plain_address (memory_at m p) frame spot) queue.agrees)

      by_procedure : (f : Standard) (args : Expressions) → Takes (statement_item (invoke token d args)) → InvokeKnown ground this (Some (standard_meaning f)) d args → Performed ground this at token f (first_of args) mid → Meets on_slots (queue_meant view (Some (standard_meaning f)) (argument_of args))
      by_procedure display_procedure (more_expressions e more) k rules item = nothing (comes_to_none m p (item_at r at).action (plain_at ground this at mid token mid _ item.item tt))
      by_procedure delay_procedure (more_expressions e more) k rules item = at_queue e more item.place k rules item.formed (ap place_of item.item.action)
      by_procedure continue_procedure (more_expressions e more) k rules item = at_queue e more item.place k rules.0 item.formed (ap place_of item.item.action)
      by_procedure f args k rules item = absurd item

      by_meaning : (w : Option Meaning) (args : Expressions) → Takes (statement_item (invoke token d args)) → InvokeKnown ground this w d args → InvokedBy ground this at token w d args mid → Meets on_slots (queue_meant view w (argument_of args))
      by_meaning (Some (standard_meaning f)) args k rules item = by_procedure f args k rules item
      by_meaning w args k rules item = nothing (comes_to_none m p (item_at r at).action (call_plain ground this at mid token d args None item))

    by_item : (i : Item) → Takes i → ItemKnown ground this i → Meets on_slots (queue_of_item view i)
    by_item (statement_item (invoke token d args)) k rules =
        subst (λ (sc : Scope). Meets on_slots (queue_meant view (find (name_of d) sc) (argument_of args))) (sym (scope_is ground t.program layouts s m p at (statement_item (invoke token d args)) mid es xs ys k))
        (by_meaning token d (find (name_of d) this.scope) args k rules k.own)
    by_item i k rules = nothing (comes_to_none m p (item_at r at).action (item_plain ground this at mid i tt k.own))

  -- ---- the topmost entry

  -- of an item on slots and the first of the items on names
  at_first : (u : Option ℕ) (i : Item) (items : List Item) → (names.process_at s.processes p).items ≡ i ∷ items → Meets u (queue_of_item view i) → Meets u (queue_place t s p)
  at_first u i items e k = subst (λ (all : List Item). Meets u (first_queue view all)) (sym e) k

  by_stack : (es : List Entry) → (thread_at m.threads p).stack ≡ es → StackIs ground t.program layouts frame (names.process_at s.processes p).calls (names.process_at s.processes p).items es → Meets (aim_of_top r m p es).queue (queue_place t s p)
  by_stack [] e is = at_first None _ _ is.2 tt
  by_stack (Rest at ∷ es) e is =
      let one = takes_one ground t.program layouts s m p goes at es e in
      at_first (queue_of m p (item_at r at).action) one.item (one.xs ++ one.ys) one.taken.items (by_item at one.mid es one.xs one.ys one.item one.taken ((all_known.states s m sim).next p one.item (one.xs ++ one.ys) goes.there goes.was one.taken.items))
  by_stack (Successor at z last ∷ es) e is = at_first None is.0 _ is.3 (subst (λ (i : Item). Meets None (queue_of_item view i)) (sym is.4.same) tt)
  by_stack (Return caller slot None ∷ es) e is = at_first None _ _ is.5 tt
  by_stack (Return caller slot (Some monitor) ∷ es) e is = at_first None _ _ is.5 tt
  by_stack (InitEnd caller k ∷ es) e is = at_first None _ _ is.4 tt

  pub queues_meet : SameQueue t r (queue_place t s p) (aim_in r m p).queue
  queues_meet = by_stack (thread_at m.threads p).stack refl goes.stack
