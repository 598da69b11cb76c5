-- Steps that only change what is still to be done: the empty statement, `begin`, `if` and the loops' beginnings.
use Rattle.std.proofs.Common.{◌≡◌, ◌∙◌, ℕ, ◌<◌, Bool, true, false, if◌then◌else◌, List, [], ◌∷◌, ◌++◌, Option, None, ap, sym, refl, subst, length}
use Rattle.cp_machine_laws.proofs.Words.{Result, Ok, Err, ℤ, pos, int_lt, slice_set, slice_index, Expression, Statement, empty, block, if_then, Statements, Program, Action}
use Rattle.cp_machine_laws.proofs.Words.{Tables, item_at, Frame, Memory, Entry, Rest, Successor, Return, InitEnd, Machine, thread_at, with_stack}
use Rattle.cp_machine_laws.proofs.Words.{memory_at, rest_of, act, take_top, step_at, items_of, items_of_all, ready, Item, statement_item, Process, State, Call, current}
use Rattle.cp_machine_laws.proofs.Words.{view_of, step_of, settled, takes, becomes, stays, Scope, value, Typed, is_true, Value, number_of, Ty, OrdinalAgrees, is_boolean}
use Rattle.cp_machine_laws.proofs.Words.{plain_value, Layouts, Here, here, Ground, ItemAt, AreKept, calls_before, ItemIs, ItemsAre, Outcome, ErrorName, ◌>>=◌}
use Rattle.cp_slots.specs.declared.item.Action.TheVariants as action
use Rattle.cp_slots.specs.declared.item.Item as slot_item
use Rattle.cp_slots.specs.declared.place.OrdinalExpression as code_expression
use Rattle.cp_store.specs.declared.error.ErrorName as slots
use Rattle.cp_store.specs.Values as cells
use Rattle.cp_machine.specs.declared.event.Event.TheVariants as event
use Rattle.cp_machine.specs.declared.process.Status.TheVariants as status
use Rattle.cp_machine.specs.Statements as statements
use Rattle.cp_meaning.specs.State as named
use Rattle.cp_meaning.specs.Kernel.{Stepped, local_event, fault_event, moved_to}
use Rattle.cp_slots.specs.Code as code
use Rattle.cp_machine_laws.specs.Named.{error_of, event_of}
use Rattle.cp_machine_laws.specs.Represents.{StackIs, CallsHold, frames_of, own_memory, Represents}
use Rattle.cp_machine_laws.proofs.control.Lists.{all_items, statement_items, stack_rest, frames_rest}
use Rattle.cp_machine_laws.proofs.control.Moving.{goes_ready}
use Rattle.cp_machine_laws.proofs.expressions.Numbers.{is_true_same}
use Rattle.cp_machine_laws.proofs.expressions.Values.{truth_range}
use Rattle.cp_machine_laws.proofs.expressions.Views.{views_agree}

-- ---- what an action is by its view

is_empty_action : (a : Action) → code.action_seen a ≡ code.nothing → a ≡ action.Empty
is_empty_action action.Empty e = refl
is_empty_action a e = absurd (cc)

pub is_block : (a : Action) (list : Option ℕ) → code.action_seen a ≡ code.block list → a ≡ action.Block list
is_block (action.Block k) list e = cc
is_block a list e = absurd (cc)

pub is_if : (a : Action) (c : code.OrdinalExpression) (list other : Option ℕ) → code.action_seen a ≡ code.choose c list other → (x : code_expression.OrdinalExpression) × (a ≡ action.If x list other) × (code.expression_seen x ≡ c)
is_if (action.If x k j) c list other e = (x, cc, cc)
is_if a c list other e = absurd (cc)

-- ---- a process with an item on top

pub record Taken (g : Ground) (p : Program) (l : Layouts) (s : State) (m : Machine) (q at : ℕ) (i : Item) (mid : Option ℕ) (es : List Entry) (xs ys : List Item) : Type 0 where
  pub rep : Represents g p l s m
  pub there : q < length s.processes
  pub was : (named.process_at s.processes q).status ≡ ready
  pub was_slot : (thread_at m.threads q).status ≡ status.Ready
  pub stack : (thread_at m.threads q).stack ≡ Rest at ∷ es
  pub items : (named.process_at s.processes q).items ≡ i ∷ (xs ++ ys)
  pub own : ItemIs g (here p l (thread_at m.threads q).frame.routine) at i mid
  pub kept : AreKept (here p l (thread_at m.threads q).frame.routine) (calls_before (l.meanings (thread_at m.threads q).frame.routine).scope i)
  pub after : ItemsAre g (here p l (thread_at m.threads q).frame.routine) mid xs None
  pub below : StackIs g p l (thread_at m.threads q).frame (named.process_at s.processes q).calls ys es
  pub calls : CallsHold g.tables l (own_memory (thread_at m.threads q)) (named.process_at s.processes q).calls (frames_of (thread_at m.threads q).frame es)

-- a process that is ready, of which nothing is said of its items; `es` has its frames
pub record Goes (g : Ground) (p : Program) (l : Layouts) (s : State) (m : Machine) (q : ℕ) (es : List Entry) : Type 0 where
  pub rep : Represents g p l s m
  pub there : q < length s.processes
  pub was : (named.process_at s.processes q).status ≡ ready
  pub was_slot : (thread_at m.threads q).status ≡ status.Ready
  pub calls : CallsHold g.tables l (own_memory (thread_at m.threads q)) (named.process_at s.processes q).calls (frames_of (thread_at m.threads q).frame es)

pub goes : (g : Ground) (p : Program) (l : Layouts) (s : State) (m : Machine) (q at : ℕ) (i : Item) (mid : Option ℕ) (es : List Entry) (xs ys : List Item) → Taken g p l s m q at i mid es xs ys → Goes g p l s m q es
goes g p l s m q at i mid es xs ys k = record { rep = k.rep; there = k.there; was = k.was; was_slot = k.was_slot; calls = k.calls }

module _ (g : Ground) (p : Program) (l : Layouts) (s : State) (m : Machine) (q : ℕ) (es : List Entry) (k : Goes g p l s m q es) where
  -- the process with other items
  abbrev pub still_process : List Item → Process
  still_process zs = record { component = (named.process_at s.processes q).component; status = ready; calls = (named.process_at s.processes q).calls; items = zs }

  -- it goes on with other items, for which another stack stands
  pub goes_still : (zs : List Item) (fs : List Entry) → StackIs g p l (thread_at m.threads q).frame (named.process_at s.processes q).calls zs fs → frames_of (thread_at m.threads q).frame fs ≡ frames_of (thread_at m.threads q).frame es →
      Represents g p l (record s { processes = slice_set s.processes q (still_process zs) }) (with_stack m q fs)
  goes_still zs fs is same =
      goes_ready g p l s m q k.rep k.there k.was k.was_slot (named.process_at s.processes q).calls zs (record (thread_at m.threads q) { stack = fs }) refl
      (record { stack = is; calls = subst (λ hs. CallsHold g.tables l (own_memory (thread_at m.threads q)) (named.process_at s.processes q).calls hs) (sym same) k.calls }) (λ n j e. refl)

-- what a step comes to on names and on slots
pub record StepIs (g : Ground) (p : Program) (l : Layouts) (q line : ℕ) (a : Stepped) (b : statements.Stepped) : Type 0 where
  pub state : Represents g p l a.state b.machine
  pub event : event_of q line a.event ≡ b.event

module _ (g : Ground) (p : Program) (l : Layouts) (s : State) (m : Machine) (q at : ℕ) (i : Item) (mid : Option ℕ) (es : List Entry) (xs ys : List Item) (k : Taken g p l s m q at i mid es xs ys) where
  abbrev pub this : Here
  this = here p l (thread_at m.threads q).frame.routine

  -- the calls of the process, and what it is with other items and another stack
  abbrev pub calls_now : List Call
  calls_now = (named.process_at s.processes q).calls

  abbrev process_with : List Item → Process
  process_with zs = record { component = (named.process_at s.processes q).component; status = ready; calls = calls_now; items = zs }

  -- a local step to other items, for which the stack stands
  pub goes_to : (zs : List Item) (fs : List Entry) → StackIs g p l (thread_at m.threads q).frame calls_now zs fs → frames_of (thread_at m.threads q).frame fs ≡ frames_of (thread_at m.threads q).frame es →
      Represents g p l (record s { processes = slice_set s.processes q (process_with zs) }) (with_stack m q fs)
  goes_to zs fs is same = goes_still g p l s m q es (goes g p l s m q at i mid es xs ys k) zs fs is same

  -- what comes after the item, and a list above it
  pub stack_after : StackIs g p l (thread_at m.threads q).frame calls_now (xs ++ ys) (rest_of mid es)
  stack_after = stack_rest g p l (thread_at m.threads q).frame calls_now mid xs ys es k.after k.below

  pub goes_on_to : (first : Option ℕ) (zs : List Item) → ItemsAre g this first zs None → Represents g p l (record s { processes = slice_set s.processes q (process_with (zs ++ (xs ++ ys))) }) (with_stack m q (rest_of first (rest_of mid es)))
  goes_on_to first zs is =
      goes_to (zs ++ (xs ++ ys)) (rest_of first (rest_of mid es)) (stack_rest g p l (thread_at m.threads q).frame calls_now first zs (xs ++ ys) (rest_of mid es) is stack_after)
      (frames_rest (thread_at m.threads q).frame first (rest_of mid es) ∙ frames_rest (thread_at m.threads q).frame mid es)

  -- a step to other items
  pub local_to : (line : ℕ) (zs : List Item) (fs : List Entry) → StackIs g p l (thread_at m.threads q).frame calls_now zs fs → frames_of (thread_at m.threads q).frame fs ≡ frames_of (thread_at m.threads q).frame es → StepIs g p l q line
      (record { state = moved_to ready s q (record { calls = calls_now; items = zs; components = s.components; move = stays }); event = local_event }) (statements.local (with_stack m q fs))
  local_to line zs fs is same = record { state = goes_to zs fs is same; event = refl }

  -- the step of the process takes the item
  pub takes_item : (line : ℕ) → StepIs g p l q line (settled p s q (takes (view_of p s q) q (i ∷ (xs ++ ys)))) (act g.tables m q at (item_at g.tables at) (item_at g.tables at).action es) → StepIs g p l q line (step_of p s q) (step_at g.tables m q)
  takes_item line w =
      subst (λ (is : List Item). StepIs g p l q line (settled p s q (takes (view_of p s q) q is)) (step_at g.tables m q)) (sym k.items)
      (subst (λ (e : List Entry). StepIs g p l q line (settled p s q (takes (view_of p s q) q (i ∷ (xs ++ ys)))) (take_top g.tables m q e)) (sym k.stack) w)

  -- the action and the item that follows, by the item
  pub acts_before : (line token : ℕ) (next : Option ℕ) (a : code.Action) (b : Action) (n : Stepped) → ItemAt g at token next a → (item_at g.tables at).action ≡ b →
      ((item : slot_item.Item) → item.next ≡ next → item.line ≡ slice_index g.lines token → StepIs g p l q line n (act g.tables m q at item b es)) → StepIs g p l q line n (act g.tables m q at (item_at g.tables at) (item_at g.tables at).action es)
  acts_before line token next a b n i e go = subst (λ (c : Action). StepIs g p l q line n (act g.tables m q at (item_at g.tables at) c es)) (sym e) (go (item_at g.tables at) i.follows i.line)

  pub acts : (line token : ℕ) (a : code.Action) (b : Action) (n : Stepped) → ItemAt g at token mid a → (item_at g.tables at).action ≡ b →
      ((item : slot_item.Item) → item.next ≡ mid → item.line ≡ slice_index g.lines token → StepIs g p l q line n (act g.tables m q at item b es)) → StepIs g p l q line n (act g.tables m q at (item_at g.tables at) (item_at g.tables at).action es)
  acts line token a b n i e go = acts_before line token mid a b n i e go

  -- a local step that goes on
  pub local_step : (line : ℕ) (first : Option ℕ) (zs : List Item) (o : Option ℕ) → o ≡ mid → ItemsAre g this first zs None → StepIs g p l q line
      (record { state = moved_to ready s q (record { calls = (named.process_at s.processes q).calls; items = zs ++ (xs ++ ys); components = s.components; move = stays }); event = local_event })
      (statements.local (with_stack m q (rest_of first (rest_of o es))))
  local_step line first zs o e is = record { state = subst (λ (n : Option ℕ). Represents g p l (record s { processes = slice_set s.processes q (record { component = (named.process_at s.processes q).component; status = ready; calls = (named.process_at s.processes q).calls; items = zs ++ (xs ++ ys) }) }) (with_stack m q (rest_of first (rest_of n es)))) (sym e) (goes_on_to first zs is); event = refl }

  -- a run error leaves both as they are
  pub fails : (line : ℕ) (e : ErrorName) (d : slots.ErrorName) → error_of e ≡ d → StepIs g p l q line (record { state = s; event = fault_event e }) (statements.fault m q line d)
  fails line e d h = record { state = k.rep; event = ap (λ (n : slots.ErrorName). event.Fault (record { name = n; process = q; line = line })) h }

  -- one list or the other, by a truth value
  pub branches : (line : ℕ) (first other : Option ℕ) (zs ws : List Item) (n : Option ℕ) → n ≡ mid → ItemsAre g this first zs None → ItemsAre g this other ws None →
      (o : Outcome Typed) (r : Result ℤ slots.ErrorName) (t : Ty) → is_boolean t ≡ true → OrdinalAgrees o t r →
      StepIs g p l q line (settled p s q (o >>= λ x. becomes (view_of p s q) (if is_true x then zs ++ (xs ++ ys) else ws ++ (xs ++ ys)))) (statements.with_value r (statements.fault m q line) (λ v. statements.local (with_stack m q (rest_of (if cells.is_true v then first else other) (rest_of n es)))))
  branches line first other zs ws n e is js (Err a) (Err d) t b h = fails line a d h
  branches line first other zs ws n e is js (Ok x) (Err d) t b h = absurd h
  branches line first other zs ws n e is js (Err a) (Ok z) t b h = absurd h
  branches line first other zs ws n e is js (Ok x) (Ok z) t b h =
      subst (λ (c : Bool). StepIs g p l q line (settled p s q (becomes (view_of p s q) (if c then zs ++ (xs ++ ys) else ws ++ (xs ++ ys)))) (statements.local (with_stack m q (rest_of (if cells.is_true z then first else other) (rest_of n es))))) (sym same) (go (cells.is_true z))
    where
      same : is_true x ≡ cells.is_true z
      same = ap (λ (w : Value). int_lt (pos 0) (number_of w)) h.1 ∙ is_true_same z (truth_range t z b h.2)

      go : (c : Bool) → StepIs g p l q line (settled p s q (becomes (view_of p s q) (if c then zs ++ (xs ++ ys) else ws ++ (xs ++ ys)))) (statements.local (with_stack m q (rest_of (if c then first else other) (rest_of n es))))
      go true = local_step line first zs n e is
      go false = local_step line other ws n e js

-- the innermost frame is that which is executed
pub top_frame : (f : Frame) (es : List Entry) → (fs : List Frame) × (frames_of f es ≡ f ∷ fs)
top_frame f [] = ([], refl)
top_frame f (Rest at ∷ es) = top_frame f es
top_frame f (Successor at z last ∷ es) = top_frame f es
top_frame f (Return caller slot monitor ∷ es) = (frames_of caller es, refl)
top_frame f (InitEnd caller component ∷ es) = (frames_of caller es, refl)

pub call_scope : (r : Tables) (l : Layouts) (m : Memory) (cs : List Call) (f : Frame) (fs : List Frame) → CallsHold r l m cs (f ∷ fs) → (current cs).scope ≡ (l.meanings f.routine).scope
call_scope r l m [] f fs h = absurd h
call_scope r l m (c ∷ cs) f fs h = h.0.scope

-- the scope of the statement is that of the routine
pub scope_is : (g : Ground) (p : Program) (l : Layouts) (s : State) (m : Machine) (q at : ℕ) (i : Item) (mid : Option ℕ) (es : List Entry) (xs ys : List Item) (k : Taken g p l s m q at i mid es xs ys) → (current (named.process_at s.processes q).calls).scope ≡ (l.meanings (thread_at m.threads q).frame.routine).scope
scope_is g p l s m q at i mid es xs ys k =
    let top = top_frame (thread_at m.threads q).frame es in
    call_scope g.tables l (own_memory (thread_at m.threads q)) (named.process_at s.processes q).calls (thread_at m.threads q).frame top.0 (subst (λ fs. CallsHold g.tables l (own_memory (thread_at m.threads q)) (named.process_at s.processes q).calls fs) top.1 k.calls)

-- ---- the empty statement

pub empty_step : (g : Ground) (p : Program) (l : Layouts) (s : State) (m : Machine) (q at token line : ℕ) (mid : Option ℕ) (es : List Entry) (xs ys : List Item) → Taken g p l s m q at (statement_item (empty token)) mid es xs ys → StepIs g p l q line (step_of p s q) (step_at g.tables m q)
empty_step g p l s m q at token line mid es xs ys k =
    takes_item g p l s m q at (statement_item (empty token)) mid es xs ys k line
    (acts g p l s m q at (statement_item (empty token)) mid es xs ys k line token code.nothing action.Empty _ k.own (is_empty_action (item_at g.tables at).action k.own.action)
    (λ item e d. local_step g p l s m q at (statement_item (empty token)) mid es xs ys k line None [] item.next e refl))

-- ---- `begin`

pub block_step : (g : Ground) (p : Program) (l : Layouts) (s : State) (m : Machine) (q at token line : ℕ) (ts : Statements) (mid : Option ℕ) (es : List Entry) (xs ys : List Item) → Taken g p l s m q at (statement_item (block token ts)) mid es xs ys → StepIs g p l q line (step_of p s q) (step_at g.tables m q)
block_step g p l s m q at token line ts mid es xs ys k =
    takes_item g p l s m q at (statement_item (block token ts)) mid es xs ys k line
    (subst (λ (c : Scope). StepIs g p l q line (settled p s q (becomes (view_of p s q) (items_of_all c ts ++ (xs ++ ys)))) (act g.tables m q at (item_at g.tables at) (item_at g.tables at).action es)) (sym (scope_is g p l s m q at (statement_item (block token ts)) mid es xs ys k))
    (acts g p l s m q at (statement_item (block token ts)) mid es xs ys k line token (code.block k.own.0) (action.Block k.own.0) _ k.own.2 (is_block (item_at g.tables at).action k.own.0 k.own.2.action)
    (λ item e d. local_step g p l s m q at (statement_item (block token ts)) mid es xs ys k line k.own.0 (items_of_all (l.meanings (thread_at m.threads q).frame.routine).scope ts) item.next e (all_items g (here p l (thread_at m.threads q).frame.routine) k.own.0 None ts k.own.1))))

-- ---- `if`: what its test gives is looked at, and one branch is done or none

-- the test of the item gives the same on names and on slots
abbrev pub TestAgrees : Layouts → Program → State → Machine → ℕ → Expression → code.OrdinalExpression → Type 0
TestAgrees l p s m q e c = (t : Ty) × (is_boolean t ≡ true) × OrdinalAgrees (value (view_of p s q) e) t (plain_value (memory_at m q) (thread_at m.threads q).frame c)

pub if_step : (g : Ground) (p : Program) (l : Layouts) (s : State) (m : Machine) (q at token : ℕ) (e : Expression) (u : Statement) (mid : Option ℕ) (es : List Entry) (xs ys : List Item) → (k : Taken g p l s m q at (statement_item (if_then token e u)) mid es xs ys) →
    TestAgrees l p s m q e k.own.0 → StepIs g p l q (slice_index g.lines token) (step_of p s q) (step_at g.tables m q)
if_step g p l s m q at token e u mid es xs ys k test =
    takes_item g p l s m q at (statement_item (if_then token e u)) mid es xs ys k (slice_index g.lines token)
    (subst (λ (c : Scope). StepIs g p l q (slice_index g.lines token) (settled p s q (value (view_of p s q) e >>= λ x. becomes (view_of p s q) (if is_true x then items_of c u ++ (xs ++ ys) else (xs ++ ys)))) (act g.tables m q at (item_at g.tables at) (item_at g.tables at).action es)) (sym (scope_is g p l s m q at (statement_item (if_then token e u)) mid es xs ys k))
    (let a = is_if (item_at g.tables at).action k.own.0 k.own.1 None k.own.4.action in
    acts g p l s m q at (statement_item (if_then token e u)) mid es xs ys k (slice_index g.lines token) token (code.choose k.own.0 k.own.1 None) (action.If a.0 k.own.1 None) _ k.own.4 a.1
    (λ item n d.
    subst (λ (j : ℕ). StepIs g p l q (slice_index g.lines token) (settled p s q (value (view_of p s q) e >>= λ x. becomes (view_of p s q) (if is_true x then items_of (l.meanings (thread_at m.threads q).frame.routine).scope u ++ (xs ++ ys) else (xs ++ ys)))) (statements.branch m q j a.0 k.own.1 None (rest_of item.next es))) (sym d)
    (subst (λ (r : Result ℤ slots.ErrorName). StepIs g p l q (slice_index g.lines token) (settled p s q (value (view_of p s q) e >>= λ x. becomes (view_of p s q) (if is_true x then items_of (l.meanings (thread_at m.threads q).frame.routine).scope u ++ (xs ++ ys) else (xs ++ ys)))) (statements.with_value r (statements.fault m q (slice_index g.lines token)) (λ v. statements.local (with_stack m q (rest_of (if cells.is_true v then k.own.1 else None) (rest_of item.next es))))))
    (sym (views_agree.value (memory_at m q) (thread_at m.threads q).frame a.0 ∙ ap (plain_value (memory_at m q) (thread_at m.threads q).frame) a.2))
    (branches g p l s m q at (statement_item (if_then token e u)) mid es xs ys k (slice_index g.lines token) k.own.1 None (items_of (l.meanings (thread_at m.threads q).frame.routine).scope u) [] item.next n
    (statement_items g (here p l (thread_at m.threads q).frame.routine) k.own.1 None u k.own.3) refl
    (value (view_of p s q) e) (plain_value (memory_at m q) (thread_at m.threads q).frame k.own.0) test.0 test.1 test.2)))))
