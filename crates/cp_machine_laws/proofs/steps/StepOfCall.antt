-- The step of a call, of a function or as a statement: it goes on slots as on names.
use Rattle.std.proofs.Common.{◌≡◌, ◌∙◌, ℕ, ◌<◌, true, false, List, [], ◌∷◌, ◌++◌, Option, Some, None, ap, sym, refl, subst, arith, length}
use Rattle.std.specs.Global.{Global}
use Rattle.std.specs.Prelude.{Bool, Result, Ok, Err, Vec, map, slice_index}
use Rattle.cp_tree.specs.Syntax.{Tree, Program, Expressions, no_expressions, more_expressions, Designator, invoke}
use Rattle.cp_tree.specs.declared.declaration.SystemKind.TheVariants as system_kind
use Rattle.cp_slots.specs.Code as code
use Rattle.cp_slots.specs.declared.item.Action.TheVariants as action
use Rattle.cp_machine_laws.proofs.Words.{Argument, ComponentPlace, Tables, item_at, component_at, routine_at, Entry, MachineFits, Machine, thread_at, Reaches, step_at, Name}
use Rattle.cp_machine_laws.proofs.Words.{temporary, View, Target, component_there, Parameter, RoutineMeaning, name_of, routine_called, target_value, designator_calls}
use Rattle.cp_machine_laws.proofs.Words.{expressions_calls, Meaning, routine_meaning, find, Place, Item, statement_item, function_call, State, has_entry, view_of, step_of}
use Rattle.cp_machine_laws.proofs.Words.{system_of, Ty, a_component, designator_form, Layouts, Here, here, cell_named, Ground, AreGiven, CallItem, CalleeIs, result_cell}
use Rattle.cp_machine_laws.proofs.Words.{is_free, ComponentAgrees, ground_of, Prepared, AreKept, Outcome, ErrorName, VariablesGiven, CallIsKnown, HaveValues}
use Rattle.cp_slots.specs.Fits.{ActionFits, CallFits as RoomFits}
use Rattle.cp_slots.specs.Systems.{ActionNames, CallNames, IsOf}
use Rattle.cp_slots.specs.declared.tables.ComponentKind.TheVariants as kind
use Rattle.cp_machine.specs.Memory.{component_of}
use Rattle.cp_store.specs.declared.error.ErrorName as slots
use Rattle.cp_machine_laws.specs.Followed.{AreArguments, HasEntries, IsCallable, IsCall}
use Rattle.cp_meaning.specs.State as named
use Rattle.cp_meaning.specs.Types as types
use Rattle.cp_machine_laws.proofs.calls.CallArguments.{call_component}
use Rattle.cp_machine_laws.proofs.expressions.Arguments.{ArgumentsKnown, IsNoComponent}
use Rattle.cp_machine_laws.proofs.calls.CallFitting.{can_call}
use Rattle.cp_machine_laws.proofs.calls.CallRuns.{CallFits, function_runs, invoke_runs}
use Rattle.cp_machine_laws.proofs.calls.CallSteps.{is_call, IsFound, EntryKnown, NoStandard, scope_name, call_item}
use Rattle.cp_machine_laws.proofs.expressions.ComponentsNow.{components_now}
use Rattle.cp_machine_laws.proofs.control.Control.{Taken, StepIs, scope_is}
use Rattle.cp_machine_laws.proofs.calls.Kept.{kept_left}
use Rattle.cp_machine_laws.proofs.expressions.DesignatedTypes.{range_known}
use Rattle.cp_machine_laws.proofs.steps.Executed.{executes}
use Rattle.cp_machine_laws.proofs.steps.Found.{action_fits_here, action_names, found_of}
use Rattle.cp_machine_laws.proofs.steps.Going.{Going}
use Rattle.cp_machine_laws.proofs.HoldsInReached.{HoldsInReached}
use Rattle.cp_machine_laws.proofs.reached.ReadyInReached.{ReadyInReached}
use Rattle.cp_machine_laws.proofs.control.Running.{Executes}
use Rattle.cp_machine_laws.proofs.steps.StepOfStatement.{below_fits}
use Rattle.cp_machine_laws.proofs.reached.SystemKinds.{kind_is, process_type}
use Rattle.cp_resolved.proofs.agreeing.AgreeingTypes.{free_standing}

no_component : (u : Ty) → is_free u ≡ true → IsNoComponent u
no_component (types.component_of k) h = absurd (cc)
no_component _ h = tt

arguments_known : (h : Here) (qs : List Parameter) (es : Expressions) → HaveValues qs → VariablesGiven h qs es → ArgumentsKnown h qs es
arguments_known h (q ∷ qs) (more_expressions e es) v k =
    (record { variable = k.0; range = λ plain. (range_known q.ty (free_standing q.ty v.0), no_component q.ty v.0) }, arguments_known h qs es v.1 k.1)
arguments_known h _ _ v k = tt

-- no parameter of a routine is a component
value_type : (u : Ty) (k : ℕ) → u ≡ types.component_of k → is_free u ≡ true → ⊥
value_type u k e h = (let bad : is_free (types.component_of k) ≡ true = subst (λ (w : Ty). is_free w ≡ true) e h in cc)

-- the arguments of a call are those that its parameters want
arguments_follow : (v : View) (h : Here) (slots : Name → ℕ) (qs : List Parameter) (es : Expressions) (xs : List code.Argument) → AreGiven h slots qs es xs → HaveValues qs → VariablesGiven h qs es → AreArguments v qs es
arguments_follow v h slots [] no_expressions [] given values named = tt
arguments_follow v h slots (q ∷ qs) (more_expressions e es) (x ∷ xs) given values named =
    (record { variable = λ is. (let w = named.0 is in (w.0, w.1)); component = λ k is. absurd (value_type q.ty k is values.0) }, arguments_follow v h slots qs es xs given.2 values.1 named.1)
arguments_follow v h slots qs es xs given values named = absurd given

-- what a name leads to, where a place of the tables leads to a component
pub leads_to : (v : View) (o : Outcome Target) (b : Result ℕ slots.ErrorName) → ComponentAgrees v o b → (x : Target) → o ≡ Ok x → (n : ℕ) × (b ≡ Ok n) × (component_there v x.place ≡ n)
leads_to v (Ok u) (Ok n) h x e = (n, refl, (let same : x ≡ u = cc in ap (λ (w : Target). component_there v w.place) same ∙ h))
leads_to v (Ok u) (Err d) h x e = absurd h
leads_to v (Err d) b h x e = absurd (cc)

-- an entry is named by its component
entry_named : (h : Here) (d : Designator) (w : Option Meaning) (part : code.ComponentPlace) (b : Bool) (number : ℕ) → CalleeIs h d w part b number → b ≡ true → designator_form h d ≡ Some (a_component part (h.layouts.owners number))
entry_named h d (Some (routine_meaning r)) part b number c e = absurd (let bad : false ≡ true = sym c.1 ∙ e in cc)
entry_named h d _ part b number c e = c.0

module _ (t : Tree) (r : Tables) (l : Layouts) (prepared : Prepared t r l) (s : State) (known : HoldsInReached t.program s) (m : Machine) (ready : ReadyInReached (ground_of t r) t.program s m) (fits : MachineFits r m) (reach : Reaches r m) (q : ℕ) (going : Going (ground_of t r) t.program l s m q) (at : ℕ) (mid : Option ℕ) (es : List Entry) (xs ys : List Item) where
  abbrev g : Ground
  g = ground_of t r

  abbrev p : Program
  p = t.program

  abbrev this : Here
  this = here p l (thread_at m.threads q).frame.routine

  ex : Executes g p l m q
  ex = executes t r l prepared m q fits going.many

  module _ (token : ℕ) (i : Item) (k : Taken g p l s m q at i mid es xs ys) (d : Designator) (args : Expressions) (o : Option Name) (ci : CallItem g this at token d args o mid) (rules : CallIsKnown this d args) where
    -- the action of the item
    act_is : (x : ComponentPlace) × (as' : Vec Argument Global) × ((item_at r at).action ≡ action.Call ci.number x ci.is_entry as' (result_cell this o)) × (code.component_seen x ≡ ci.part) × (map code.argument_seen as'.items ≡ ci.arguments)
    act_is = is_call (item_at r at).action ci.number ci.part ci.is_entry ci.arguments (result_cell this o) ci.item.action

    room : RoomFits r (thread_at m.threads q).frame.routine (item_at r at).need ci.number act_is.1.items
    room = subst (λ a. ActionFits r (thread_at m.threads q).frame.routine (item_at r at).need a) act_is.2 (action_fits_here r m q prepared.sound fits reach going.many going.was_slot at es k.stack)

    names : CallNames r (routine_at r (thread_at m.threads q).frame.routine).system ci.number ci.is_entry act_is.0 act_is.1.items
    names = subst (λ a. ActionNames r (routine_at r (thread_at m.threads q).frame.routine).system a) act_is.2 (action_names r m q prepared.sound fits reach going.many going.was_slot at es k.stack)

    found : (n : ℕ) → IsFound g p l s m q at token i mid es xs ys k d args o ci n → IsOf r (routine_at r ci.number).system n
    found n f = found_of r m q prepared.sound fits reach going.many going.was_slot at es k.stack act_is.0 f.0 (routine_at r ci.number).system n (act_is.3 ∙ sym f.1) names.0 f.2

    -- the component that is found is of the type to which the routine belongs
    found_system : (n : ℕ) → IsFound g p l s m q at token i mid es xs ys k d args o ci n → (component_at r n).system ≡ l.owners ci.number
    found_system n f = (found n f).1 ∙ (prepared.stands.routines ci.number room.routine).system

    entry_known : ci.is_entry ≡ true → ((place : ComponentPlace) → code.component_seen place ≡ ci.part → ComponentAgrees (view_of p s q) (target_value (view_of p s q) d) (component_of m q place)) → EntryKnown g p l s m q at token i mid es xs ys k d args o ci
    entry_known is agrees =
        let called = entry_named this d (find (name_of d) this.scope) ci.part ci.is_entry ci.number ci.called.callee is in
        record {
          component = agrees;
          kinds = ready.kinds;
          entries = λ n j f e. rules.entries ci.part (l.owners ci.number) called (ap (λ a. (system_of p a).kind) (sym (found_system n f)) ∙ process_type t r l prepared s known m ready n (found n f).0 j e);
          own = ready.own;
          known = ready.monitors;
          fresh = fresh_there;
        }
      where
        -- what the name leads to on names
        led : (n : ℕ) (o : Outcome Target) (b : Result ℕ slots.ErrorName) → b ≡ Ok n → ComponentAgrees (view_of p s q) o b → (x : Place) × (component_there (view_of p s q) x ≡ n)
        led n (Ok u) (Ok c) e h = (u.place, h ∙ (cc))
        led n (Ok u) (Err d) e h = absurd h
        led n (Err d) b e h = absurd (no_error n d b e h)
          where
            no_error : (n : ℕ) (d : ErrorName) (b : Result ℕ slots.ErrorName) → b ≡ Ok n → ComponentAgrees (view_of p s q) (Err d) b → ⊥
            no_error n d (Ok c) e h = h
            no_error n d (Err c) e h = cc

        fresh_there : (n j : ℕ) → IsFound g p l s m q at token i mid es xs ys k d args o ci n → (component_at r n).kind ≡ kind.Monitor j → has_entry n (named.process_at s.processes q).calls ≡ false
        fresh_there n j f e =
            let x = led n (target_value (view_of p s q) d) (component_of m q f.0) f.2 (agrees f.0 f.1) in
            subst (λ c. has_entry c (named.process_at s.processes q).calls ≡ false) x.1
            (ready.fresh q x.0 j going.there going.was (ap (λ c. (component_at r c).kind) x.1 ∙ e))

    call_fits : CallFits g p l s m q at token i mid es xs ys k ex d args o ci
    call_fits =
        record {
          can = λ n f. can_call t r l prepared m q fits going.many (item_at r at).need ci.number act_is.1.items room es (below_fits t r l prepared s m q at fits going.many mid es xs ys k.stack) n (found n f);
          arguments = arguments_known this (l.meanings ci.number).parameters args (prepared.program.routines ci.number room.routine).parameters (rules.variables ci.number (ci.called.called ∙ ap (λ (w : RoutineMeaning). Some w) ci.called.same));
          components = components_now t r l prepared s known m ready fits reach q going;
          entry = entry_known;
        }

    -- ---- the call is one by the rules

    module _ (kept : AreKept this (designator_calls this.scope d ++ expressions_calls this.scope args)) where
      scope : (named.current (named.process_at s.processes q).calls).scope ≡ this.scope
      scope = scope_is g p l s m q at i mid es xs ys k

      entry_follows : ci.is_entry ≡ true → (x : Target) → target_value (view_of p s q) d ≡ Ok x → HasEntries (view_of p s q) (component_there (view_of p s q) x.place)
      entry_follows is x e =
          let agrees = call_component g p l s m q at token i mid es xs ys k ex d args o ci (kept_left this (designator_calls this.scope d) (expressions_calls this.scope args) kept) (components_now t r l prepared s known m ready fits reach q going) is act_is.0 act_is.3 in
          let to = leads_to (view_of p s q) (target_value (view_of p s q) d) (component_of m q act_is.0) agrees x e in
          let f : IsFound g p l s m q at token i mid es xs ys k d args o ci to.0 = (act_is.0, act_is.3, to.1) in
          let there : to.0 < length s.components = (let a = (found to.0 f).0 in let b = going.rep.component_count in omega (arith, a, b)) in
          subst (HasEntries (view_of p s q)) (sym to.2) (
            there,
            λ (h : (named.component_at s.components to.0).kind ≡ system_kind.Process). rules.entries ci.part (l.owners ci.number) (entry_named this d (find (name_of d) this.scope) ci.part ci.is_entry ci.number ci.called.callee is)
                (ap (λ a. (system_of p a).kind) (sym (found_system to.0 f)) ∙ (sym (kind_is t r l prepared s known m ready to.0 (found to.0 f).0) ∙ h)),
          )

      callable : (w : Option Meaning) → CalleeIs this d w ci.part ci.is_entry ci.number → IsCallable (view_of p s q) w d
      callable (Some (routine_meaning y)) c = tt
      callable _ c = entry_follows c.1

      pub call_follows : IsCall (view_of p s q) d args
      call_follows =
          record {
            routine = l.meanings ci.number;
            called = ap (λ c. routine_called p c d) scope ∙ (ci.called.called ∙ ap (λ (w : RoutineMeaning). Some w) ci.called.same);
            arguments = arguments_follow (view_of p s q) this (cell_named (l.frames ci.number)) (l.meanings ci.number).parameters args ci.arguments
                (subst (λ (w : RoutineMeaning). AreGiven this (cell_named (l.frames ci.number)) w.parameters args ci.arguments) ci.called.same ci.called.given)
                (prepared.program.routines ci.number room.routine).parameters (rules.variables ci.number (ci.called.called ∙ ap (λ (w : RoutineMeaning). Some w) ci.called.same));
            callable = subst (λ (w : Option Meaning). IsCallable (view_of p s q) w d) (sym (ap (find (name_of d)) scope)) (callable (find (name_of d) this.scope) ci.called.callee);
          }

  -- ---- the steps

  pub function_so : (token : ℕ) (d : Designator) (args : Expressions) → Taken g p l s m q at (function_call token d args) mid es xs ys → CallIsKnown this d args → StepIs g p l q (slice_index t.lines token) (step_of p s q) (step_at r m q)
  function_so token d args k rules = function_runs g p l s m q at token d args mid es xs ys k ex (call_fits token (function_call token d args) k d args (Some (temporary token)) k.own rules)

  pub invoke_so : (token : ℕ) (d : Designator) (args : Expressions) → (k : Taken g p l s m q at (statement_item (invoke token d args)) mid es xs ys) → NoStandard g p l s m q at token d args mid es xs ys k (scope_name g p l s m q at token d args mid es xs ys k) → CallIsKnown this d args →
      StepIs g p l q (slice_index t.lines token) (step_of p s q) (step_at r m q)
  invoke_so token d args k never rules =
      invoke_runs g p l s m q at token d args mid es xs ys k ex never (call_fits token (statement_item (invoke token d args)) k d args None (call_item g p l s m q at token d args mid es xs ys k never) rules)
