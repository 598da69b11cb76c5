-- The whole step of a call, with what its arguments give and the component that it names.
use Rattle.cp_machine_laws.proofs.Words.{◌≡◌, ℕ, true, List, ◌++◌, Option, None, Some, slice_index, Program, Expressions, Designator, invoke, ComponentPlace, Entry}
use Rattle.cp_machine_laws.proofs.Words.{Machine, thread_at, step_at, Name, temporary, target_value, expressions_calls, designator_calls, Item, statement_item}
use Rattle.cp_machine_laws.proofs.Words.{function_call, State, view_of, step_of, Layouts, Here, here, Ground, CallItem, ComponentAgrees, AreKept}
use Rattle.cp_slots.specs.Code as code
use Rattle.cp_machine.specs.Memory.{component_of}
use Rattle.cp_machine_laws.proofs.expressions.Arguments.{ArgumentsKnown}
use Rattle.cp_machine_laws.proofs.calls.CallArguments.{call_arguments, call_component}
use Rattle.cp_machine_laws.proofs.calls.CallSteps.{IsFound, EntryKnown, CallKnown, NoStandard, scope_name, call_item, function_step, call_step}
use Rattle.cp_machine_laws.proofs.calls.Calling.{CanCall}
use Rattle.cp_machine_laws.proofs.expressions.ComponentPlaces.{ComponentsKnown}
use Rattle.cp_machine_laws.proofs.control.Control.{Taken, StepIs}
use Rattle.cp_machine_laws.proofs.calls.Kept.{kept_left, kept_right}
use Rattle.cp_machine_laws.proofs.control.Running.{Executes}

module _ (g : Ground) (p : Program) (l : Layouts) (s : State) (m : Machine) (q at token : ℕ) (i : Item) (mid : Option ℕ) (es : List Entry) (xs ys : List Item) (k : Taken g p l s m q at i mid es xs ys) (ex : Executes g p l m q)
    (d : Designator) (args : Expressions) (o : Option Name) (ci : CallItem g (here p l (thread_at m.threads q).frame.routine) at token d args o mid) where
  abbrev this : Here
  this = here p l (thread_at m.threads q).frame.routine

  -- what is left: that the call fits, what the language says of the arguments and components, and what is known of an entry beside its component
  pub record CallFits : Type 0 where
    pub can : (n : ℕ) → IsFound g p l s m q at token i mid es xs ys k d args o ci n → CanCall g p l m q ci.number n es
    pub arguments : ArgumentsKnown this (l.meanings ci.number).parameters args
    pub components : ComponentsKnown (view_of p s q) (thread_at m.threads q).frame this m.bindings
    pub entry : ci.is_entry ≡ true → ((place : ComponentPlace) → code.component_seen place ≡ ci.part → ComponentAgrees (view_of p s q) (target_value (view_of p s q) d) (component_of m q place)) → EntryKnown g p l s m q at token i mid es xs ys k d args o ci

  pub call_known : AreKept this (designator_calls this.scope d ++ expressions_calls this.scope args) → CallFits → CallKnown g p l s m q at token i mid es xs ys k d args o ci
  call_known kept fits =
      record {
        can = fits.can;
        arguments = λ as' seen. call_arguments g p l s m q at token i mid es xs ys k ex d args o ci (kept_right this (designator_calls this.scope d) (expressions_calls this.scope args) kept) fits.arguments as' seen;
        entry = λ is. fits.entry is (λ place seen. call_component g p l s m q at token i mid es xs ys k ex d args o ci (kept_left this (designator_calls this.scope d) (expressions_calls this.scope args) kept) fits.components is place seen);
      }

-- a function call, whose result goes to its temporary name
pub function_runs : (g : Ground) (p : Program) (l : Layouts) (s : State) (m : Machine) (q at token : ℕ) (d : Designator) (args : Expressions) (mid : Option ℕ) (es : List Entry) (xs ys : List Item) (k : Taken g p l s m q at (function_call token d args) mid es xs ys) (ex : Executes g p l m q) →
    CallFits g p l s m q at token (function_call token d args) mid es xs ys k ex d args (Some (temporary token)) k.own → StepIs g p l q (slice_index g.lines token) (step_of p s q) (step_at g.tables m q)
function_runs g p l s m q at token d args mid es xs ys k ex fits =
    function_step g p l s m q at token d args mid es xs ys k (call_known g p l s m q at token (function_call token d args) mid es xs ys k ex d args (Some (temporary token)) k.own k.kept fits)

-- a call as a statement, of a name that is no standard procedure
pub invoke_runs : (g : Ground) (p : Program) (l : Layouts) (s : State) (m : Machine) (q at token : ℕ) (d : Designator) (args : Expressions) (mid : Option ℕ) (es : List Entry) (xs ys : List Item) (k : Taken g p l s m q at (statement_item (invoke token d args)) mid es xs ys) (ex : Executes g p l m q) →
    (never : NoStandard g p l s m q at token d args mid es xs ys k (scope_name g p l s m q at token d args mid es xs ys k)) → CallFits g p l s m q at token (statement_item (invoke token d args)) mid es xs ys k ex d args None (call_item g p l s m q at token d args mid es xs ys k never) →
    StepIs g p l q (slice_index g.lines token) (step_of p s q) (step_at g.tables m q)
invoke_runs g p l s m q at token d args mid es xs ys k ex never fits =
    call_step g p l s m q at token d args mid es xs ys k never (call_known g p l s m q at token (statement_item (invoke token d args)) mid es xs ys k ex d args None (call_item g p l s m q at token d args mid es xs ys k never) k.kept fits)
