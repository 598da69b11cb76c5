-- What the arguments of a call give, and the component that it names, at the item of the call: premises of the whole step of a call.
use Rattle.cp_machine_laws.proofs.Words.{◌≡◌, ℕ, List, ◌∷◌, Option, sym, subst, true, false, Some, map, Program, Expressions, Designator, Argument, ComponentPlace, Bound}
use Rattle.cp_machine_laws.proofs.Words.{Frame, Entry, Machine, thread_at, Name, bound, RoutineMeaning, name_of, target_value, expressions_calls, designator_calls, Meaning}
use Rattle.cp_machine_laws.proofs.Words.{routine_meaning, find, Environment, Item, State, view_of, a_component, designator_form, cell_named, Layouts, Here, here, Ground}
use Rattle.cp_machine_laws.proofs.Words.{AreGiven, CalleeIs, CallItem, AreBound, BoundsAgree, ComponentAgrees, AreKept, frames_of}
use Rattle.cp_slots.specs.Code as code
use Rattle.cp_machine.specs.Memory.{memory_at, component_of, arguments_of}
use Rattle.cp_machine_laws.proofs.expressions.Arguments.{ArgumentsKnown, arguments_agree}
use Rattle.cp_machine_laws.proofs.expressions.ComponentPlaces.{ComponentsKnown, component_agrees}
use Rattle.cp_machine_laws.proofs.control.Control.{Taken, top_frame}
use Rattle.cp_machine_laws.proofs.control.Running.{Executes, frames_below, sees_now}

pub call_arguments : (g : Ground) (p : Program) (l : Layouts) (s : State) (m : Machine) (q at token : ℕ) (i : Item) (mid : Option ℕ) (es : List Entry) (xs ys : List Item) (k : Taken g p l s m q at i mid es xs ys) → Executes g p l m q →
    (d : Designator) (args : Expressions) (o : Option Name) (ci : CallItem g (here p l (thread_at m.threads q).frame.routine) at token d args o mid) →
    AreKept (here p l (thread_at m.threads q).frame.routine) (expressions_calls (l.meanings (thread_at m.threads q).frame.routine).scope args) →
    ArgumentsKnown (here p l (thread_at m.threads q).frame.routine) (l.meanings ci.number).parameters args → (as' : List Argument) → map code.argument_seen as' ≡ ci.arguments →
    BoundsAgree (λ (e : Environment) (bs : List Bound). AreBound g.tables l (frames_of (thread_at m.threads q).frame es) (memory_at m q) (cell_named (l.frames ci.number)) (l.meanings ci.number).parameters e as' bs) (bound (view_of p s q) (l.meanings ci.number).parameters args) (arguments_of m q as')
call_arguments g p l s m q at token i mid es xs ys k ex d args o ci kept known as' seen =
    subst (λ (fs : List Frame). BoundsAgree (λ e bs. AreBound g.tables l fs (memory_at m q) (cell_named (l.frames ci.number)) (l.meanings ci.number).parameters e as' bs) (bound (view_of p s q) (l.meanings ci.number).parameters args) (arguments_of m q as')) (sym (top_frame (thread_at m.threads q).frame es).1)
    (arguments_agree g.tables l ((thread_at m.threads q).frame ∷ frames_below g p l s m q at i mid es xs ys k ex) (view_of p s q) (memory_at m q) (thread_at m.threads q).frame (here p l (thread_at m.threads q).frame.routine) (sees_now g p l s m q at i mid es xs ys k ex) m.bindings
    (cell_named (l.frames ci.number)) (l.meanings ci.number).parameters args ci.arguments as' seen
    (subst (λ (r : RoutineMeaning). AreGiven (here p l (thread_at m.threads q).frame.routine) (cell_named (l.frames ci.number)) r.parameters args ci.arguments) ci.called.same ci.called.given) kept known)

-- the component whose entry is called
pub call_component : (g : Ground) (p : Program) (l : Layouts) (s : State) (m : Machine) (q at token : ℕ) (i : Item) (mid : Option ℕ) (es : List Entry) (xs ys : List Item) (k : Taken g p l s m q at i mid es xs ys) → Executes g p l m q →
    (d : Designator) (args : Expressions) (o : Option Name) (ci : CallItem g (here p l (thread_at m.threads q).frame.routine) at token d args o mid) →
    AreKept (here p l (thread_at m.threads q).frame.routine) (designator_calls (l.meanings (thread_at m.threads q).frame.routine).scope d) →
    ComponentsKnown (view_of p s q) (thread_at m.threads q).frame (here p l (thread_at m.threads q).frame.routine) m.bindings → ci.is_entry ≡ true → (place : ComponentPlace) → code.component_seen place ≡ ci.part →
    ComponentAgrees (view_of p s q) (target_value (view_of p s q) d) (component_of m q place)
call_component g p l s m q at token i mid es xs ys k ex d args o ci kept known is place seen =
    component_agrees g.tables l ((thread_at m.threads q).frame ∷ frames_below g p l s m q at i mid es xs ys k ex) (view_of p s q) (memory_at m q) (thread_at m.threads q).frame this (sees_now g p l s m q at i mid es xs ys k ex) m.bindings known d ci.part (l.owners ci.number) place kept
    (named_part (find (name_of d) this.scope) ci.called.callee) seen
  where
    this : Here
    this = here p l (thread_at m.threads q).frame.routine

    named_part : (w : Option Meaning) → CalleeIs this d w ci.part ci.is_entry ci.number → designator_form this d ≡ Some (a_component ci.part (l.owners ci.number))
    named_part (Some (routine_meaning r)) c = (let other : ci.is_entry ≡ false = c.1 in absurd (cc))
    named_part _ c = c.0
