-- Whether a call of a monitor's entry ends with the next step of a process is the same on names and on slots.
use Rattle.std.proofs.Common.{◌≡◌, ◌∙◌, ℕ, ◌<◌, Bool, true, false, ◌&&◌, List, [], ◌∷◌, length, Option, Some, None, ap, sym, refl, subst}
use Rattle.cp_tree.specs.declared.declaration.SystemKind.{SystemKind}
use Rattle.cp_tree.specs.declared.declaration.SystemKind.TheVariants as system_kind
use Rattle.cp_tree.specs.Read.{IsRead}
use Rattle.cp_tree.specs.Syntax.{Tree, Expression, Expressions, Designator, invoke}
use Rattle.cp_layout.specs.Laid.{plain, laid}
use Rattle.cp_meaning_laws.specs.Accepted.{IsAccepted}
use Rattle.cp_slots.specs.declared.item.Action.{Action}
use Rattle.cp_slots.specs.declared.item.Action.TheVariants as action
use Rattle.cp_slots.specs.declared.tables.ComponentKind.{ComponentKind}
use Rattle.cp_slots.specs.declared.tables.ComponentKind.TheVariants as kind
use Rattle.cp_slots.specs.Code as code
use Rattle.cp_slots.specs.Tables.{Tables, component_at, item_at}
use Rattle.cp_store.specs.declared.memory.Frame.{Frame}
use Rattle.cp_machine.specs.declared.discipline.Discipline as slot_gates
use Rattle.cp_machine.specs.Discipline as machine_discipline
use Rattle.cp_machine.specs.declared.process.Entry.{Entry}
use Rattle.cp_machine.specs.declared.process.Entry.TheVariants.{Rest, Successor, Return, InitEnd}
use Rattle.cp_machine.specs.Machine.{Machine, thread_at}
use Rattle.cp_meaning.specs.Expressions.{name_of}
use Rattle.cp_meaning.specs.Places.{View}
use Rattle.cp_meaning.specs.Scopes.{Meaning, standard_meaning, Standard, delay_procedure, continue_procedure, display_procedure, find}
use Rattle.cp_meaning.specs.State as named
use Rattle.cp_meaning.specs.State.{Call, CallKind, own_statement, initial_statement, local_routine, entry_routine, is_entry_kind, current, Item, statement_item, return, State}
use Rattle.cp_meaning.specs.Steps.{view_of}
use Rattle.cp_resolved.specs.Layouts.{Here, here}
use Rattle.cp_resolved.specs.Stands.{Ground, InvokedBy, ItemAt, Performed, first_of}
use Rattle.cp_resolved.specs.TreeLayouts.{layouts_of}
use Rattle.cp_machine_laws.specs.InStep.{CanGo}
use Rattle.cp_machine_laws.specs.Kinds.{SameKind}
use Rattle.cp_machine_laws.specs.Law.{ground_of}
use Rattle.cp_machine_laws.specs.Named.{named, named_discipline, signals_of}
use Rattle.cp_machine_laws.specs.Remaining.{ItemIs}
use Rattle.cp_machine_laws.specs.Represents.{CallsHold, CallIs, StackIs, frames_of, monitor_left, own_memory}
use Rattle.cp_machine_laws.proofs.HoldsInReached.{reached_stands}
use Rattle.cp_machine_laws.proofs.ReachedKinds.{kinds_agree}
use Rattle.cp_machine_laws.proofs.control.Control.{scope_is}
use Rattle.cp_machine_laws.proofs.steps.Going.{Going, takes_one}
use Rattle.cp_story.specs.Aimed.{aim_in, aim_of_top}
use Rattle.cp_story.specs.Aimed as aimed
use Rattle.cp_story_laws.specs.Aims.{ends_call, ends_first, ends_now, is_continue, lets_caller_return}
use Rattle.cp_story_laws.specs.OpenCalls.{is_monitor}
use Rattle.cp_story_laws.proofs.aims.PlainItems.{call_plain, ends_none, item_plain}
use Rattle.cp_story_laws.proofs.Together as together

-- ---- by an item

abbrev is_continue_code : code.Action → Bool
is_continue_code (code.continue_at p) = true
is_continue_code a = false

seen : (a : Action) → is_continue_code (code.action_seen a) ≡ aimed.is_continue a
seen (action.Continue p) = refl
seen a = refl

module _ (g : Ground) (h : Here) (n : ℕ) (next : Option ℕ) where
  abbrev ends_there : Bool
  ends_there = aimed.is_continue (item_at g.tables n).action

  coded : (at : ℕ) (a : code.Action) → ItemAt g n at next a → is_continue_code a ≡ ends_there
  coded at a k = sym (ap is_continue_code k.action) ∙ seen (item_at g.tables n).action

  performed_ends : (at : ℕ) (s : Standard) (o : Option Expression) → Performed g h n at s o next → is_continue (Some (standard_meaning s)) ≡ ends_there
  performed_ends at display_procedure (Some e) k = coded at _ k.item
  performed_ends at delay_procedure (Some e) k = coded at _ k.item
  performed_ends at continue_procedure (Some e) k = coded at _ k.item
  performed_ends at s o k = absurd k

  invoked_ends : (at : ℕ) (w : Option Meaning) (d : Designator) (es : Expressions) → InvokedBy g h n at w d es next → is_continue w ≡ ends_there
  invoked_ends at (Some (standard_meaning s)) d es k = performed_ends at s (first_of es) k
  invoked_ends at w d es k = sym (ends_none (item_at g.tables n).action (call_plain g h n next at d es None k))

  item_ends : (by : named.Signals) (v : View) → (current v.calls).scope ≡ h.scope → (i : Item) → ItemIs g h n i next → ends_call by v i ≡ (ends_there && lets_caller_return by)
  item_ends by v same (statement_item (invoke at d es)) k = ap (λ (b : Bool). b && lets_caller_return by) (ap (λ s. is_continue (find (name_of d) s)) same ∙ invoked_ends at (find (name_of d) h.scope) d es k)
  item_ends by v same (return o) k = absurd k
  item_ends by v same i k = sym (ap (λ (b : Bool). b && lets_caller_return by) (ends_none (item_at g.tables n).action (item_plain g h n next i tt k)))

-- ---- by the end of a call

module _ (r : Tables) (c : Call) where
  leaves_none : (a : CallKind) (b : SystemKind) (d : ComponentKind) → SameKind b d → None ≡ monitor_left r c a d → (is_entry_kind a && is_monitor b) ≡ false
  leaves_none entry_routine system_kind.Monitor (kind.Monitor j) k e = absurd (cc)
  leaves_none entry_routine system_kind.Class d k e = refl
  leaves_none entry_routine system_kind.Process d k e = refl
  leaves_none entry_routine system_kind.Monitor d k e = absurd k
  leaves_none a b d k e = refl

  leaves_one : (j : ℕ) (a : CallKind) (b : SystemKind) (d : ComponentKind) → SameKind b d → Some j ≡ monitor_left r c a d → (is_entry_kind a && is_monitor b) ≡ true
  leaves_one j entry_routine system_kind.Monitor d k e = refl
  leaves_one j entry_routine system_kind.Class kind.Class k e = absurd (cc)
  leaves_one j entry_routine system_kind.Process (kind.Process n) k e = absurd (cc)
  leaves_one j entry_routine b d k e = absurd k
  leaves_one j own_statement b d k e = absurd (cc)
  leaves_one j initial_statement b d k e = absurd (cc)
  leaves_one j local_routine b d k e = absurd (cc)

returns_alike : (by : named.Signals) → machine_discipline.lets_caller_return (signals_of by) ≡ lets_caller_return by
returns_alike named.return_signals = refl
returns_alike named.continue_signals = refl
returns_alike named.wait_signals = refl

module _ (t : Tree) (r : Tables) (g : slot_gates.Discipline) (read : IsRead t.program) (ok : IsAccepted t) (same : plain r ≡ laid t) (s : State) (m : Machine) (p : ℕ) (sim : together.Related t r g read ok same s m) (can : CanGo (named t (named_discipline g)) s p) where
  abbrev ground : Ground
  ground = ground_of t r

  abbrev view : View
  view = view_of t.program s p

  abbrev calls : List Call
  calls = (named.process_at s.processes p).calls

  abbrev frame : Frame
  frame = (thread_at m.threads p).frame

  goes : Going ground t.program (layouts_of t) s m p
  goes = together.going t r g read ok same s m p sim can

  abbrev by : named.Signals
  by = s.discipline.signals

  returns_same : machine_discipline.lets_caller_return m.discipline.signals ≡ lets_caller_return by
  returns_same = ap (λ (d : slot_gates.Discipline). machine_discipline.lets_caller_return d.signals) sim.represents.discipline ∙ returns_alike by

  -- ---- the end of a call

  module _ (caller : Frame) (slot monitor : Option ℕ) (es : List Entry) (e : (thread_at m.threads p).stack ≡ Return caller slot monitor ∷ es) (is : StackIs ground t.program (layouts_of t) frame calls (named.process_at s.processes p).items (Return caller slot monitor ∷ es)) where
    abbrev c : Call
    c = is.0

    call_is : CallIs r (layouts_of t) c frame
    call_is =
        (subst (λ (cs : List Call). CallsHold r (layouts_of t) (own_memory (thread_at m.threads p)) cs (frames_of frame (Return caller slot monitor ∷ es))) is.4
        (subst (λ (fs : List Entry). CallsHold r (layouts_of t) (own_memory (thread_at m.threads p)) calls (frames_of frame fs)) e goes.calls)).0

    there : c.component < length r.components
    there = subst (λ (n : ℕ). n < length r.components) (sym call_is.component) call_is.there

    kinds : SameKind (named.component_at s.components c.component).kind (component_at r c.component).kind
    kinds =
        kinds_agree t r (layouts_of t) (together.prepared t r g read ok same).stands s (reached_stands t ok (named_discipline g) s sim.reached).kind c.component there

    ends_by_call : ends_now t s p ≡ (is_entry_kind c.kind && is_monitor (named.component_at s.components c.component).kind)
    ends_by_call =
        ap (ends_first by view) is.5
        ∙ ap (λ (cs : List Call). is_entry_kind (current cs).kind && is_monitor (named.component_at s.components (current cs).component).kind) is.4

  by_stack : (es : List Entry) → (thread_at m.threads p).stack ≡ es → StackIs ground t.program (layouts_of t) frame calls (named.process_at s.processes p).items es → (aim_of_top r m p es).ends_call ≡ ends_now t s p
  by_stack [] e is = sym (ap (ends_first by view) is.2)
  by_stack (Rest at ∷ es) e is =
      let one = takes_one ground t.program (layouts_of t) s m p goes at es e in
      ap (λ (b : Bool). aimed.is_continue (item_at r at).action && b) returns_same
      ∙ sym
      (ap (ends_first by view) one.taken.items
      ∙ item_ends ground (here t.program (layouts_of t) frame.routine) at one.mid by view (scope_is ground t.program (layouts_of t) s m p at one.item one.mid es one.xs one.ys one.taken) one.item one.taken.own)
  by_stack (Successor at z last ∷ es) e is = sym (ap (ends_first by view) is.3 ∙ ap (ends_call by view) is.4.same)
  by_stack (Return caller slot None ∷ es) e is =
      sym
      (ends_by_call caller slot None es e is
      ∙ leaves_none r is.0 is.0.kind (named.component_at s.components is.0.component).kind (component_at r is.0.component).kind (kinds caller slot None es e is) is.6.2)
  by_stack (Return caller slot (Some j) ∷ es) e is =
      sym
      (ends_by_call caller slot (Some j) es e is
      ∙ leaves_one r is.0 j is.0.kind (named.component_at s.components is.0.component).kind (component_at r is.0.component).kind (kinds caller slot (Some j) es e is) is.6.2)
  by_stack (InitEnd caller n ∷ es) e is = sym (ap (ends_first by view) is.4)

  pub ends_same : (aim_in r m p).ends_call ≡ ends_now t s p
  ends_same = by_stack (thread_at m.threads p).stack refl goes.stack
