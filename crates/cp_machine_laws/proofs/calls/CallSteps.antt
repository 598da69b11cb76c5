-- The whole step of a call: the component's place first, then the arguments, then whether the component is initialised.
use Rattle.std.proofs.Common.{◌≡◌, ◌∙◌, ℕ, ◌<◌, Bool, true, false, if◌then◌else◌, List, [], ◌∷◌, ◌++◌, Option, Some, None, ap, sym, refl, subst, length}
use Rattle.cp_machine_laws.proofs.Words.{Result, Ok, Err, map, slice_index, Global, Vec, SystemKind, Program, Routine, Designator, Expressions, invoke, Action, Argument}
use Rattle.cp_machine_laws.proofs.Words.{ComponentPlace, ComponentKind, Tables, component_at, item_at, Bound, Frame, Memory, Entry, Phase, Machine, thread_at, phase_at}
use Rattle.cp_machine_laws.proofs.Words.{rest_of, act, step_at, Name, temporary, RoutineMeaning, View, Target, this_component, component_there, target_value, name_of}
use Rattle.cp_machine_laws.proofs.Words.{routine_called, invoked, view_of, step_of, settled, Layouts, Here, here, cell_named, Ground, InvokedBy, CallItem, CalleeIs}
use Rattle.cp_machine_laws.proofs.Words.{result_cell, AreBound, BoundsAgree, ComponentAgrees, SameKind, KindsAgree, PhaseIs, CallsHold, own_memory, frames_of, Own}
use Rattle.cp_tree.specs.declared.declaration.SystemKind.TheVariants as system_kind
use Rattle.cp_slots.specs.declared.item.Action.TheVariants as action
use Rattle.cp_slots.specs.declared.tables.ComponentKind.TheVariants as kind
use Rattle.cp_slots.specs.Code as code
use Rattle.cp_store.specs.declared.error.ErrorName as slots
use Rattle.cp_store.specs.declared.error.ErrorName.TheVariants as error
use Rattle.cp_machine.specs.declared.state.Phase.TheVariants as phase
use Rattle.cp_machine.specs.Calls as calls
use Rattle.cp_machine.specs.Machine as slot_machine
use Rattle.cp_machine.specs.Memory.{memory_at, component_of, arguments_of}
use Rattle.cp_machine.specs.Statements as statements
use Rattle.cp_meaning.specs.Outcome.{Outcome, ◌>>=◌, not_init}
use Rattle.cp_meaning.specs.Scopes.{Meaning, constant_meaning, type_meaning, local_variable, permanent_variable, routine_meaning, standard_meaning, Standard, find}
use Rattle.cp_meaning.specs.State as named
use Rattle.cp_meaning.specs.State.{Environment, ComponentStatus, uninitialised, initialising, initialised, local_routine, Call, current, Item, statement_item, function_call, State, has_entry}
use Rattle.cp_meaning.specs.Calls.{bound, opened, is_initialised, entered_as, entered, called_as, called}
use Rattle.cp_machine_laws.proofs.calls.Calling.{CanCall, called_inside, called_class, called_monitor}
use Rattle.cp_machine_laws.proofs.control.Control.{Taken, StepIs, goes, takes_item, acts, fails, scope_is, stack_after, top_frame}
use Rattle.cp_machine_laws.proofs.gates.Gates.{OwnNumbers}
use Rattle.cp_machine_laws.proofs.control.Lists.{frames_rest}

pub is_call : (a : Action) (r : ℕ) (c : code.ComponentPlace) (b : Bool) (xs : List code.Argument) (o : Option ℕ) → code.action_seen a ≡ code.call r c b xs o →
    (d : ComponentPlace) × (ys : Vec Argument Global) × (a ≡ action.Call r d b ys o) × (code.component_seen d ≡ c) × (map code.argument_seen ys.items ≡ xs)
is_call (action.Call n d w ys u) r c b xs o e = (d, ys, cc, cc, cc)
is_call a r c b xs o e = absurd (cc)

is_own : (d : ComponentPlace) → code.component_seen d ≡ code.own → d ≡ Own
is_own Own e = refl
is_own d e = absurd (cc)

-- the innermost call is one of the component that its frame says
pub call_component : (r : Tables) (l : Layouts) (m : Memory) (cs : List Call) (f : Frame) (fs : List Frame) → CallsHold r l m cs (f ∷ fs) → (current cs).component ≡ f.component
call_component r l m [] f fs h = absurd h
call_component r l m (c ∷ cs) f fs h = h.0.component

module _ (g : Ground) (p : Program) (l : Layouts) (s : State) (m : Machine) (q at token : ℕ) (i : Item) (mid : Option ℕ) (es : List Entry) (xs ys : List Item) (k : Taken g p l s m q at i mid es xs ys)
    (d : Designator) (args : Expressions) (o : Option Name) (ci : CallItem g (here p l (thread_at m.threads q).frame.routine) at token d args o mid) where
  abbrev this : Here
  this = here p l (thread_at m.threads q).frame.routine

  abbrev view : View
  view = view_of p s q

  abbrev line : ℕ
  line = slice_index g.lines token

  abbrev routine : RoutineMeaning
  routine = l.meanings ci.number

  abbrev frames : List Frame
  frames = frames_of (thread_at m.threads q).frame es

  -- the place of the component leads to this one
  abbrev pub IsFound : ℕ → Type 0
  IsFound n = (place : ComponentPlace) × (code.component_seen place ≡ ci.part) × (component_of m q place ≡ Ok n)

  -- what has to be known where the call is one of an entry
  pub record EntryKnown : Type 0 where
    pub component : (place : ComponentPlace) → code.component_seen place ≡ ci.part → ComponentAgrees view (target_value view d) (component_of m q place)
    pub kinds : KindsAgree g.tables s
    -- a process has no entries
    pub entries : (n j : ℕ) → IsFound n → (component_at g.tables n).kind ≡ kind.Process j → ⊥
    pub own : OwnNumbers g
    pub known : (n j : ℕ) → (component_at g.tables n).kind ≡ kind.Monitor j → j < length m.monitors
    -- nobody calls an entry of a monitor that it is inside
    pub fresh : (n j : ℕ) → IsFound n → (component_at g.tables n).kind ≡ kind.Monitor j → has_entry n (named.process_at s.processes q).calls ≡ false

  -- what the arguments give, and that a call of the component that is found fits
  pub record CallKnown : Type 0 where
    pub can : (n : ℕ) → IsFound n → CanCall g p l m q ci.number n es
    pub arguments : (as' : List Argument) → map code.argument_seen as' ≡ ci.arguments →
        BoundsAgree (λ e bs. AreBound g.tables l frames (memory_at m q) (cell_named (l.frames ci.number)) routine.parameters e as' bs) (bound view routine.parameters args) (arguments_of m q as')
    pub entry : ci.is_entry ≡ true → EntryKnown

  module _ (known : CallKnown) (place : ComponentPlace) (as' : List Argument) (place_is : code.component_seen place ≡ ci.part) (args_are : map code.argument_seen as' ≡ ci.arguments) where
    abbrev slot : Option ℕ
    slot = result_cell this o

    rest_frames : frames_of (thread_at m.threads q).frame (rest_of mid es) ≡ frames
    rest_frames = frames_rest (thread_at m.threads q).frame mid es

    -- ---- a routine of the component itself

    inside_bound : (n : ℕ) → this_component view ≡ n → CanCall g p l m q ci.number n es → (e : Outcome Environment) (r : Result (List Bound) slots.ErrorName) → BoundsAgree (λ e bs. AreBound g.tables l frames (memory_at m q) (cell_named (l.frames ci.number)) routine.parameters e as' bs) e r →
        StepIs g p l q line (settled p s q (e >>= λ b. Ok (opened view (this_component view) local_routine routine o (xs ++ ys) b)))
        (statements.with_value r (statements.fault m q line) (λ bs. calls.call_by g.tables m q line false ci.number n as' bs slot (rest_of mid es)))
    inside_bound n same can (Err e) (Err f) h = fails g p l s m q at i mid es xs ys k line e f h
    inside_bound n same can (Ok e) (Ok bs) h =
        subst (λ c. StepIs g p l q line (settled p s q (Ok (opened view c local_routine routine o (xs ++ ys) e))) (statements.local (calls.open_call g.tables m q ci.number n as' bs slot None (rest_of mid es)))) (sym same)
        (called_inside g p l s m q es (goes g p l s m q at i mid es xs ys k) (xs ++ ys) (rest_of mid es) (stack_after g p l s m q at i mid es xs ys k) rest_frames ci.number n can o ci.taken e as' bs h line)
    inside_bound n same can _ _ h = absurd h

    -- ---- an entry

    status_same : (c : ComponentKind) (u : ComponentStatus) (w : Phase) → ((j : ℕ) → c ≡ kind.Process j → ⊥) → PhaseIs c u w → is_initialised u ≡ slot_machine.is_initialised w
    status_same (kind.Process j) u w never h = absurd (never j refl)
    status_same (kind.Monitor j) uninitialised phase.Uninitialised never h = refl
    status_same (kind.Monitor j) initialising phase.Initialising never h = refl
    status_same (kind.Monitor j) initialised phase.Initialised never h = refl
    status_same kind.Class uninitialised phase.Uninitialised never h = refl
    status_same kind.Class initialising phase.Initialising never h = refl
    status_same kind.Class initialised phase.Initialised never h = refl
    status_same _ u w never h = absurd h

    module _ (entry : EntryKnown) (n : ℕ) (is_found : IsFound n) where
      can : CanCall g p l m q ci.number n es
      can = known.can n is_found

      there_n : n < length s.components
      there_n = subst (λ a. n < a) (sym k.rep.component_count) can.there

      by_kind : (e : Environment) (bs : List Bound) → AreBound g.tables l frames (memory_at m q) (cell_named (l.frames ci.number)) routine.parameters e as' bs →
          (c : ComponentKind) → (component_at g.tables n).kind ≡ c → (a : SystemKind) → SameKind a c →
          StepIs g p l q line (settled p s q (Ok (entered_as a view n routine o (xs ++ ys) e))) (calls.call_in g.tables m q c ci.number n as' bs slot (rest_of mid es))
      by_kind e bs h (kind.Monitor j) f system_kind.Monitor w =
          called_monitor g p l s m q es (goes g p l s m q at i mid es xs ys k) (xs ++ ys) (rest_of mid es) (stack_after g p l s m q at i mid es xs ys k) rest_frames ci.number n can o ci.taken e as' bs h j f entry.own (entry.known n j f) (entry.fresh n j is_found f) line
      by_kind e bs h kind.Class f system_kind.Class w =
          called_class g p l s m q es (goes g p l s m q at i mid es xs ys k) (xs ++ ys) (rest_of mid es) (stack_after g p l s m q at i mid es xs ys k) rest_frames ci.number n can o ci.taken e as' bs h line f
      by_kind e bs h (kind.Process j) f a w = absurd (entry.entries n j is_found f)
      by_kind e bs h c f a w = absurd w

      initialised_same : is_initialised (named.component_at s.components n).status ≡ slot_machine.is_initialised (phase_at m n)
      initialised_same = status_same (component_at g.tables n).kind (named.component_at s.components n).status (phase_at m n) (λ j f. entry.entries n j is_found f) (k.rep.components n there_n).phase

      entry_bound : (e : Outcome Environment) (r : Result (List Bound) slots.ErrorName) → BoundsAgree (λ e bs. AreBound g.tables l frames (memory_at m q) (cell_named (l.frames ci.number)) routine.parameters e as' bs) e r →
          StepIs g p l q line (settled p s q (e >>= λ b. if is_initialised (named.component_at s.components n).status then Ok (entered_as (named.component_at s.components n).kind view n routine o (xs ++ ys) b) else Err not_init))
          (statements.with_value r (statements.fault m q line) (λ bs. calls.call_by g.tables m q line true ci.number n as' bs slot (rest_of mid es)))
      entry_bound (Err e) (Err f) h = fails g p l s m q at i mid es xs ys k line e f h
      entry_bound (Ok e) (Ok bs) h =
          subst (λ b. StepIs g p l q line (settled p s q (if b then Ok (entered_as (named.component_at s.components n).kind view n routine o (xs ++ ys) e) else Err not_init)) (calls.call_by g.tables m q line true ci.number n as' bs slot (rest_of mid es))) (sym initialised_same)
          (go (slot_machine.is_initialised (phase_at m n)))
        where
          go : (b : Bool) → StepIs g p l q line (settled p s q (if b then Ok (entered_as (named.component_at s.components n).kind view n routine o (xs ++ ys) e) else Err not_init))
              (if b then calls.call_in g.tables m q (component_at g.tables n).kind ci.number n as' bs slot (rest_of mid es) else statements.fault m q line error.NotInit)
          go true = by_kind e bs h (component_at g.tables n).kind refl (named.component_at s.components n).kind (entry.kinds n can.there)
          go false = fails g p l s m q at i mid es xs ys k line not_init error.NotInit refl
      entry_bound _ _ h = absurd h

    entry_found : EntryKnown → (t : Outcome Target) (r : Result ℕ slots.ErrorName) → component_of m q place ≡ r → ComponentAgrees view t r →
        StepIs g p l q line (settled p s q (t >>= λ u. entered view (component_there view u.place) routine o args (xs ++ ys)))
        (statements.with_value r (statements.fault m q line) (λ component. statements.with_value (arguments_of m q as') (statements.fault m q line) (λ bs. calls.call_by g.tables m q line true ci.number component as' bs slot (rest_of mid es))))
    entry_found entry (Err e) (Err f) same h = fails g p l s m q at i mid es xs ys k line e f h
    entry_found entry (Ok t) (Ok n) same h =
        subst (λ c. StepIs g p l q line (settled p s q (entered view c routine o args (xs ++ ys))) (statements.with_value (arguments_of m q as') (statements.fault m q line) (λ bs. calls.call_by g.tables m q line true ci.number n as' bs slot (rest_of mid es)))) (sym h)
        (entry_bound entry n (place, place_is, same) (bound view routine.parameters args) (arguments_of m q as') (known.arguments as' args_are))
    entry_found entry _ _ same h = absurd h

    -- ---- by what the name stands for

    this_is : this_component view ≡ (thread_at m.threads q).frame.component
    this_is =
        let top = top_frame (thread_at m.threads q).frame es in
        call_component g.tables l (own_memory (thread_at m.threads q)) (named.process_at s.processes q).calls (thread_at m.threads q).frame top.0 (subst (λ fs. CallsHold g.tables l (own_memory (thread_at m.threads q)) (named.process_at s.processes q).calls fs) top.1 k.calls)

    abbrev Done : Option Meaning → Bool → Type 0
    Done w b = StepIs g p l q line (settled p s q (called_as view w d (Some routine) o args (xs ++ ys))) (calls.call g.tables m q line ci.number place b as' slot (rest_of mid es))

    own_call : ci.part ≡ code.own → (y : Routine) → Done (Some (routine_meaning y)) false
    own_call own y =
        let is : place ≡ Own = is_own place (place_is ∙ own) in
        let found : component_of m q place ≡ Ok (thread_at m.threads q).frame.component = ap (component_of m q) is in
        subst (λ (a : Result ℕ slots.ErrorName). StepIs g p l q line (settled p s q (called_as view (Some (routine_meaning y)) d (Some routine) o args (xs ++ ys))) (statements.with_value a (statements.fault m q line) (λ component. statements.with_value (arguments_of m q as') (statements.fault m q line) (λ bs. calls.call_by g.tables m q line false ci.number component as' bs slot (rest_of mid es))))) (sym found)
        (inside_bound (thread_at m.threads q).frame.component this_is (known.can (thread_at m.threads q).frame.component (place, place_is, found)) (bound view routine.parameters args) (arguments_of m q as') (known.arguments as' args_are))

    entry_call : EntryKnown → StepIs g p l q line (settled p s q (target_value view d >>= λ u. entered view (component_there view u.place) routine o args (xs ++ ys))) (calls.call g.tables m q line ci.number place true as' slot (rest_of mid es))
    entry_call entry = entry_found entry (target_value view d) (component_of m q place) refl (entry.component place place_is)

    by_meaning : (w : Option Meaning) → CalleeIs this d w ci.part ci.is_entry ci.number → (b : Bool) → ci.is_entry ≡ b → Done w b
    by_meaning (Some (routine_meaning y)) c b e = subst (λ a. Done (Some (routine_meaning y)) a) (sym c.1 ∙ e) (own_call c.0 y)
    by_meaning None c b e = subst (λ a. Done None a) (sym c.1 ∙ e) (entry_call (known.entry c.1))
    by_meaning (Some (constant_meaning t z)) c b e = subst (λ a. Done (Some (constant_meaning t z)) a) (sym c.1 ∙ e) (entry_call (known.entry c.1))
    by_meaning (Some (type_meaning t)) c b e = subst (λ a. Done (Some (type_meaning t)) a) (sym c.1 ∙ e) (entry_call (known.entry c.1))
    by_meaning (Some (local_variable t)) c b e = subst (λ a. Done (Some (local_variable t)) a) (sym c.1 ∙ e) (entry_call (known.entry c.1))
    by_meaning (Some (permanent_variable t)) c b e = subst (λ a. Done (Some (permanent_variable t)) a) (sym c.1 ∙ e) (entry_call (known.entry c.1))
    by_meaning (Some (standard_meaning t)) c b e = subst (λ a. Done (Some (standard_meaning t)) a) (sym c.1 ∙ e) (entry_call (known.entry c.1))

    called_here : StepIs g p l q line (settled p s q (called view d args o (xs ++ ys))) (calls.call g.tables m q line ci.number place ci.is_entry as' slot (rest_of mid es))
    called_here =
        let scope = scope_is g p l s m q at i mid es xs ys k in
        subst (λ c. StepIs g p l q line (settled p s q (called_as view (find (name_of d) c) d (routine_called p c d) o args (xs ++ ys))) (calls.call g.tables m q line ci.number place ci.is_entry as' slot (rest_of mid es))) (sym scope)
        (subst (λ (r : Option RoutineMeaning). StepIs g p l q line (settled p s q (called_as view (find (name_of d) this.scope) d r o args (xs ++ ys))) (calls.call g.tables m q line ci.number place ci.is_entry as' slot (rest_of mid es))) (sym (ci.called.called ∙ ap (λ (r : RoutineMeaning). Some r) ci.called.same))
        (by_meaning (find (name_of d) this.scope) ci.called.callee ci.is_entry refl))

  -- what the item of a call does
  pub call_acts : CallKnown → StepIs g p l q line (settled p s q (called view d args o (xs ++ ys))) (act g.tables m q at (item_at g.tables at) (item_at g.tables at).action es)
  call_acts known =
      let a = is_call (item_at g.tables at).action ci.number ci.part ci.is_entry ci.arguments (result_cell this o) ci.item.action in
      acts g p l s m q at i mid es xs ys k line token (code.call ci.number ci.part ci.is_entry ci.arguments (result_cell this o)) (action.Call ci.number a.0 ci.is_entry a.1 (result_cell this o)) _ ci.item a.2
      (λ item n w.
      subst (λ (j : ℕ). StepIs g p l q line (settled p s q (called view d args o (xs ++ ys))) (calls.call g.tables m q j ci.number a.0 ci.is_entry a.1.items (result_cell this o) (rest_of item.next es))) (sym w)
      (subst (λ (f : Option ℕ). StepIs g p l q line (settled p s q (called view d args o (xs ++ ys))) (calls.call g.tables m q line ci.number a.0 ci.is_entry a.1.items (result_cell this o) (rest_of f es))) (sym n)
      (called_here known a.0 a.1.items a.3 a.4)))

-- the whole step of a function call, whose result goes to its temporary name
pub function_step : (g : Ground) (p : Program) (l : Layouts) (s : State) (m : Machine) (q at token : ℕ) (d : Designator) (args : Expressions) (mid : Option ℕ) (es : List Entry) (xs ys : List Item) (k : Taken g p l s m q at (function_call token d args) mid es xs ys) →
    CallKnown g p l s m q at token (function_call token d args) mid es xs ys k d args (Some (temporary token)) k.own → StepIs g p l q (slice_index g.lines token) (step_of p s q) (step_at g.tables m q)
function_step g p l s m q at token d args mid es xs ys k known =
    takes_item g p l s m q at (function_call token d args) mid es xs ys k (slice_index g.lines token) (call_acts g p l s m q at token (function_call token d args) mid es xs ys k d args (Some (temporary token)) k.own known)

-- and of a call as a statement, of a name that is no standard procedure
module _ (g : Ground) (p : Program) (l : Layouts) (s : State) (m : Machine) (q at token : ℕ) (d : Designator) (args : Expressions) (mid : Option ℕ) (es : List Entry) (xs ys : List Item) (k : Taken g p l s m q at (statement_item (invoke token d args)) mid es xs ys) where
  abbrev pub scope_name : Option Meaning
  scope_name = find (name_of d) (l.meanings (thread_at m.threads q).frame.routine).scope

  abbrev pub NoStandard : Option Meaning → Type 0
  NoStandard w = (t : Standard) → w ≡ Some (standard_meaning t) → ⊥

  abbrev IsCallItem : Type 0
  IsCallItem = CallItem g (here p l (thread_at m.threads q).frame.routine) at token d args None mid

  pub call_item : NoStandard scope_name → IsCallItem
  call_item never = go scope_name never k.own
    where
      go : (w : Option Meaning) → NoStandard w → InvokedBy g (here p l (thread_at m.threads q).frame.routine) at token w d args mid → IsCallItem
      go None never h = h
      go (Some (constant_meaning t z)) never h = h
      go (Some (type_meaning t)) never h = h
      go (Some (local_variable t)) never h = h
      go (Some (permanent_variable t)) never h = h
      go (Some (routine_meaning y)) never h = h
      go (Some (standard_meaning t)) never h = absurd (never t refl)

  invoked_is : (w : Option Meaning) → NoStandard w → invoked (view_of p s q) q w d args (xs ++ ys) ≡ called (view_of p s q) d args None (xs ++ ys)
  invoked_is (Some (standard_meaning t)) never = absurd (never t refl)
  invoked_is _ never = refl

  pub call_step : (never : NoStandard scope_name) → CallKnown g p l s m q at token (statement_item (invoke token d args)) mid es xs ys k d args None (call_item never) → StepIs g p l q (slice_index g.lines token) (step_of p s q) (step_at g.tables m q)
  call_step never known =
      takes_item g p l s m q at (statement_item (invoke token d args)) mid es xs ys k (slice_index g.lines token)
      (subst (λ w. StepIs g p l q (slice_index g.lines token) (settled p s q w) (act g.tables m q at (item_at g.tables at) (item_at g.tables at).action es))
      (sym (ap (λ c. invoked (view_of p s q) q (find (name_of d) c) d args (xs ++ ys)) (scope_is g p l s m q at (statement_item (invoke token d args)) mid es xs ys k) ∙ invoked_is scope_name never))
      (call_acts g p l s m q at token (statement_item (invoke token d args)) mid es xs ys k d args None (call_item never) known))
