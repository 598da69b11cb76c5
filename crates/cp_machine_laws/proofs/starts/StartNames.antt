-- The component that is started, and what its arguments give, at the item of the start: premises of the whole step.
use Rattle.cp_machine_laws.proofs.Words.{◌≡◌, ℕ, List, ◌∷◌, Option, sym, subst, map, Program, Start, component_at, system_at, Argument, ComponentPlace, Bound}
use Rattle.cp_machine_laws.proofs.Words.{Frame, Entry, Machine, thread_at, bound, target_value, designator_calls, expressions_calls, Environment, Item, start_item}
use Rattle.cp_machine_laws.proofs.Words.{State, view_of, system_of, Layouts, Here, here, Ground, AreGiven, Sees, BoundsAgree, ComponentAgrees}
use Rattle.cp_slots.specs.Code as code
use Rattle.cp_machine.specs.Memory.{memory_at, component_of, arguments_of}
use Rattle.cp_machine_laws.proofs.expressions.ComponentPlaces.{ComponentsKnown, component_agrees}
use Rattle.cp_machine_laws.proofs.control.Control.{Taken}
use Rattle.cp_machine_laws.proofs.calls.Kept.{kept_left, kept_right}
use Rattle.cp_machine_laws.proofs.starts.Starting.{IsFound, AreGivenTo, parameters_of}
use Rattle.cp_machine_laws.proofs.control.Running.{Executes, frames_below, sees_now}
use Rattle.cp_machine_laws.proofs.starts.StartArguments.{StartArgumentsKnown, start_arguments_agree}

module _ (g : Ground) (p : Program) (l : Layouts) (s : State) (m : Machine) (q at : ℕ) (t : Start) (mid : Option ℕ) (es : List Entry) (xs ys : List Item) (k : Taken g p l s m q at (start_item t) mid es xs ys) (ex : Executes g p l m q) where
  abbrev this : Here
  this = here p l (thread_at m.threads q).frame.routine

  abbrev pub frames : List Frame
  frames = (thread_at m.threads q).frame ∷ frames_below g p l s m q at (start_item t) mid es xs ys k ex

  seen : Sees g.tables l frames (view_of p s q) (memory_at m q) (thread_at m.threads q).frame this
  seen = sees_now g p l s m q at (start_item t) mid es xs ys k ex

  module _ (known : ComponentsKnown (view_of p s q) (thread_at m.threads q).frame this m.bindings) where
    pub start_component : (place : ComponentPlace) → code.component_seen place ≡ k.own.part → ComponentAgrees (view_of p s q) (target_value (view_of p s q) t.target) (component_of m q place)
    start_component place is =
        component_agrees g.tables l frames (view_of p s q) (memory_at m q) (thread_at m.threads q).frame this seen m.bindings known t.target k.own.part k.own.system place
        (kept_left this (designator_calls this.scope t.target) (expressions_calls this.scope t.arguments) k.kept) k.own.target is

    -- where the component that is found has the system type of the one that is named
    pub start_arguments : (d : ℕ) → IsFound g p l s m q at t mid es xs ys k d → (component_at g.tables d).system ≡ k.own.system →
        StartArgumentsKnown g.tables l frames (view_of p s q) (component_at g.tables d).base (system_at g.tables (component_at g.tables d).system).own (parameters_of g p l s m q at t mid es xs ys k d) t.arguments →
        (as' : List Argument) → map code.argument_seen as' ≡ k.own.arguments →
        BoundsAgree (λ (e : Environment) (bs : List Bound). AreGivenTo g p l s m q at t mid es xs ys k (memory_at m q) d e as' bs) (bound (view_of p s q) (parameters_of g p l s m q at t mid es xs ys k d) t.arguments) (arguments_of m q as')
    start_arguments d found same fit as' is =
        start_arguments_agree g.tables l frames (view_of p s q) (memory_at m q) (thread_at m.threads q).frame this seen m.bindings known (component_at g.tables d).base (system_at g.tables (component_at g.tables d).system).own
        (l.systems (component_at g.tables d).system).slots (parameters_of g p l s m q at t mid es xs ys k d) t.arguments k.own.arguments as' is
        (subst (λ n. AreGiven this (l.systems n).slots (system_of p n).parameters t.arguments k.own.arguments) (sym same) k.own.given)
        (kept_right this (designator_calls this.scope t.target) (expressions_calls this.scope t.arguments) k.kept) fit
