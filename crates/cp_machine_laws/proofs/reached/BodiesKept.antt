-- What one item does keeps that all that is still to be done stands in the bodies of the open calls' routines.
use Rattle.std.proofs.Common.{◌≡◌, ◌∙◌, ◌⊎◌, inl, inr, ℕ, ◌<◌, ◌≤◌, ◌==◌, ℤ, Bool, true, false, if◌then◌else◌, List, [], ◌∷◌, ◌++◌, length, get_or, set, slice_set, Option, Some, None, Ok, Err, ap, sym, refl, subst, eq-eqb}
use Rattle.cp_machine_laws.proofs.Words.{◌&&◌, ◌||◌, Identifier, Direction, SystemKind, Name, temporary, result_name, Outcome, ◌>>=◌, Value, number_value, queue_value}
use Rattle.cp_machine_laws.proofs.Words.{number_of, waiting_in, RoutineMeaning, system_of, first_components, same_integer, is_true, checked, items_of, items_of_all}
use Rattle.cp_machine_laws.proofs.Words.{until_items, Layouts, initial_meaning, Move, enters, stays, delays, continues, starts, ends, Doing}
use Rattle.cp_tree.specs.declared.declaration.SystemKind.TheVariants as system_kind
use Rattle.cp_tree.specs.Syntax.{Expressions, Designator, Start, Statement, assign, invoke, block, if_then, if_else, case_of, while_do, repeat_until, for_do, cycle, asserted, nameless, no_expressions, Arms, no_arms, more_arms, arm, Program, Statements}
use Rattle.cp_meaning.specs.Scopes.{Meaning, constant_meaning, type_meaning, local_variable, permanent_variable, routine_meaning, standard_meaning, delay_procedure, continue_procedure, display_procedure, Scope, find}
use Rattle.cp_meaning.specs.State.{Holder, in_call, in_component, Place, Environment, Component, component_at, no_component, CallKind, initial_statement, local_routine, entry_routine, Call, callers, is_entry_kind, has_entry, Item, statement_item, function_call, start_item, until, successor, return, init_end, end}
use Rattle.cp_meaning.specs.Places.{View, Target, target_named, value_at, stored, this_call, this_component, plain_place, component_there, with_environment, with_call_environment, with_environment_of}
use Rattle.cp_meaning.specs.Expressions.{value, target_value, first_value, meaning_here, routine_called, name_of}
use Rattle.cp_meaning.specs.Lifting.{is_routine_meant, has_invariants, check_statement, check_items}
use Rattle.cp_meaning.specs.Calls.{last_checks, bound, opened, is_initialised, is_uninitialised, entered_as, with_move, with_items, entered, called_as, called, initial, initialised_in, started_as, started}
use Rattle.cp_meaning.specs.LocalRules.{scope_here, becomes, assigned, arm_for, has_label, is_beyond, goes_on_with, queue_free, delayed_in, after_return, continued_from, in_place_of, argument_of, invoked, does, outer, with_result, leaving_move, return_move, returned, finished, takes}
use Rattle.cp_meaning.proofs.Frames.{at_set, Frame, frames, Descends, ItemsFit as FramesFit}
use Rattle.cp_meaning.proofs.Good.{or_right}
use Rattle.cp_machine_laws.specs.Bodies.{IsAmong, IsAmongArms, IsWithin, inside, check_name, ItemStands, AllStand}
use Rattle.cp_machine_laws.specs.RoutinesKnown.{Traits, scope_of, body_of, CalledAs, RoutinesKnown, KindFits, QuietAbove, CallsFit, ItemsFit, StandsInBodies}
use Rattle.cp_machine_laws.proofs.assignments.Assigning.{entries_kept}
use Rattle.cp_machine_laws.proofs.reached.BodyItems.{statement_stands, all_stand, checked_stands, until_stands, stand_append}

-- ---- lists of items

pub fit_append : (l : Layouts) (n : ℕ) (ns : List ℕ) (xs items : List Item) → AllStand (scope_of l n) (body_of l n) xs → ItemsFit l (n ∷ ns) items → ItemsFit l (n ∷ ns) (xs ++ items)
fit_append l n ns [] items h k = k
fit_append l n ns (statement_item t ∷ xs) items h k = (h.0, fit_append l n ns xs items h.1 k)
fit_append l n ns (function_call at d es ∷ xs) items h k = (h.0, fit_append l n ns xs items h.1 k)
fit_append l n ns (start_item t ∷ xs) items h k = (h.0, fit_append l n ns xs items h.1 k)
fit_append l n ns (until ss e ∷ xs) items h k = (h.0, fit_append l n ns xs items h.1 k)
fit_append l n ns (successor at i z d b s ∷ xs) items h k = (h.0, fit_append l n ns xs items h.1 k)
fit_append l n ns _ items h k = absurd h.0

-- ---- environments of calls are no part of this

fit_if : (p : Program) (l : Layouts) (f : Traits) (b : Bool) (xs ys : List Call) (ns : List ℕ) → CallsFit l f xs ns → CallsFit l f ys ns → CallsFit l f (if b then xs else ys) ns
fit_if p l f true xs ys ns h k = h
fit_if p l f false xs ys ns h k = k

pub fit_environment : (p : Program) (l : Layouts) (f : Traits) (cs : List Call) (ns : List ℕ) (below : ℕ) (e : Environment) → CallsFit l f cs ns → CallsFit l f (with_call_environment cs below e) ns
fit_environment p l f [] [] below e h = tt
fit_environment p l f (c ∷ cs) (n ∷ ns) below e h =
    fit_if p l f (length cs == below) (with_environment c e ∷ cs) (c ∷ with_call_environment cs below e) (n ∷ ns) (record { scope = h.0.scope; kind = h.0.kind }, h.1, h.2) (h.0, h.1, fit_environment p l f cs ns below e h.2)
fit_environment p l f _ _ below e h = absurd h

fit_holder : (p : Program) (l : Layouts) (f : Traits) (v : View) (ns : List ℕ) (h : Holder) (e : Environment) → CallsFit l f v.calls ns → CallsFit l f (with_environment_of v h e).calls ns
fit_holder p l f v ns (in_call below) e k = fit_environment p l f v.calls ns below e k
fit_holder p l f v ns (in_component n) e k = k

pub fit_stored : (p : Program) (l : Layouts) (f : Traits) (v : View) (ns : List ℕ) (q : Place) (w : Value) → CallsFit l f v.calls ns → CallsFit l f (stored v q w).calls ns
fit_stored p l f v ns q w k = fit_holder p l f v ns q.holder _ k

-- ---- system types of components

-- the components have the system types that they had
abbrev pub SystemsKept : Program → List Component → Type 0
SystemsKept p cs = (n : ℕ) → (component_at cs n).system ≡ (component_at (first_components p) n).system

pub system_set : (p : Program) (cs : List Component) (k : ℕ) (c : Component) → c.system ≡ (component_at cs k).system → SystemsKept p cs → SystemsKept p (slice_set cs k c)
system_set p cs k c same old n = go (at_set cs k n c no_component)
  where
    go : ((n ≡ k) × (k < length cs) × (get_or (set cs k c) n no_component ≡ c)) ⊎ ((n ≡ k → length cs ≤ k) × (get_or (set cs k c) n no_component ≡ get_or cs n no_component)) → (component_at (slice_set cs k c) n).system ≡ (component_at (first_components p) n).system
    go (inl h) = ap (λ (d : Component). d.system) h.2 ∙ (same ∙ (ap (λ j. (component_at cs j).system) (sym h.0) ∙ old n))
    go (inr h) = ap (λ (d : Component). d.system) h.1 ∙ old n

systems_holder : (p : Program) (v : View) (h : Holder) (e : Environment) → SystemsKept p v.components → SystemsKept p (with_environment_of v h e).components
systems_holder p v (in_call below) e k = k
systems_holder p v (in_component n) e k = system_set p v.components n _ refl k

systems_stored : (p : Program) (v : View) (q : Place) (w : Value) → SystemsKept p v.components → SystemsKept p (stored v q w).components
systems_stored p v q w k = systems_holder p v q.holder _ k

-- ---- an item of a process whose innermost call executes the routine n

-- who waits in a queue of a component has an open entry call of it; and a caller of `continue` that goes on stands in the bodies as well
abbrev pub MoveFits : Layouts → Traits → List Call → Move → Type 0
MoveFits l f calls (delays m) = has_entry m calls ≡ true
MoveFits l f calls (continues m o going items) = StandsInBodies l f going items
MoveFits l f calls move = Unit {0}

pub record DoingFits (p : Program) (l : Layouts) (f : Traits) (d : Doing) : Type 0 where
  pub stands : StandsInBodies l f d.calls d.items
  pub systems : SystemsKept p d.components
  pub moves : MoveFits l f d.calls d.move

abbrev pub OutcomeFits : Program → Layouts → Traits → Outcome Doing → Type 0
OutcomeFits p l f (Ok d) = DoingFits p l f d
OutcomeFits p l f (Err e) = Unit {0}

bind_fits : {A : Type 0} (p : Program) (l : Layouts) (f : Traits) (o : Outcome A) (g : A → Outcome Doing) → ((a : A) → OutcomeFits p l f (g a)) → OutcomeFits p l f (o >>= g)
bind_fits p l f (Ok a) g h = h a
bind_fits p l f (Err e) g h = tt

outcome_if : (p : Program) (l : Layouts) (f : Traits) (b : Bool) (x y : Outcome Doing) → OutcomeFits p l f x → OutcomeFits p l f y → OutcomeFits p l f (if b then x else y)
outcome_if p l f true x y h k = h
outcome_if p l f false x y h k = k

module _ (l : Layouts) (f : Traits) (cs : List Component) where
  -- what is to be shown of the calls below
  abbrev LoudBelow : List Call → List ℕ → Type 0
  LoudBelow (d ∷ calls) (m ∷ ns) = CallsFit l f (d ∷ calls) (m ∷ ns) → Descends cs (frames (d ∷ calls)) → f.quiet m ≡ false → has_entry d.component (d ∷ calls) ≡ true
  LoudBelow calls ns = Unit {0}

  never_loud : (n : ℕ) → f.quiet n ≡ true → f.quiet n ≡ false → {A : Type 0} → A
  never_loud n quiet loud = absurd (let bad : true ≡ false = sym quiet ∙ loud in cc)

  -- a routine that is not quiet is executed below an open entry call of its component
  loud_kind : (c : Call) (calls : List Call) (n : ℕ) (ns : List ℕ) (k : CallKind) → c.kind ≡ k → CallsFit l f (c ∷ calls) (n ∷ ns) → Descends cs ((k, c.component) ∷ frames calls) → f.quiet n ≡ false → LoudBelow calls ns → has_entry c.component (c ∷ calls) ≡ true
  loud_kind c calls n ns entry_routine e fits order loud below = ap (λ (k : CallKind). (is_entry_kind k && c.component == c.component) || has_entry c.component calls) e ∙ ap (λ (b : Bool). b || has_entry c.component calls) (eq-eqb c.component c.component refl)
  loud_kind c [] n ns local_routine e fits order loud below = absurd order
  loud_kind c (d ∷ calls) n [] local_routine e fits order loud below = absurd fits.2
  loud_kind c (d ∷ calls) n (m ∷ ns) local_routine e fits order loud below =
      let here = below fits.2 order.1 (not_quiet (f.quiet m) refl) in
      or_right (is_entry_kind c.kind && c.component == c.component) (has_entry c.component (d ∷ calls)) (subst (λ j. has_entry j (d ∷ calls) ≡ true) (sym order.0) here)
    where
      not_quiet : (b : Bool) → f.quiet m ≡ b → f.quiet m ≡ false
      not_quiet false h = h
      not_quiet true h = never_loud n (subst (λ k. QuietAbove f k n (m ∷ ns)) e fits.1 h) loud
  loud_kind c calls n ns _ e fits order loud below = never_loud n (subst (λ k. KindFits f k n) e fits.0.kind).1 loud

  pub loud_entry : (c : Call) (calls : List Call) (n : ℕ) (ns : List ℕ) → CallsFit l f (c ∷ calls) (n ∷ ns) → Descends cs (frames (c ∷ calls)) → f.quiet n ≡ false → has_entry c.component (c ∷ calls) ≡ true
  loud_entry c [] n ns fits order loud = loud_kind c [] n ns c.kind refl fits order loud tt
  loud_entry c (d ∷ calls) n [] fits order loud = absurd fits.2
  loud_entry c (d ∷ calls) n (m ∷ ns) fits order loud = loud_kind c (d ∷ calls) n (m ∷ ns) c.kind refl fits order loud (loud_entry d calls m ns)

module _ (p : Program) (l : Layouts) (f : Traits) (known : RoutinesKnown p l f) (c : Call) (calls : List Call) (cs : List Component) (pid n : ℕ) (ns : List ℕ)
    (fits : CallsFit l f (c ∷ calls) (n ∷ ns)) (systems : SystemsKept p cs)
    (order : Descends cs (frames (c ∷ calls))) where
  abbrev v : View
  v = record { program = p; calls = c ∷ calls; components = cs }

  abbrev scope : Scope
  scope = scope_of l n

  abbrev body : Statements
  body = body_of l n

  abbrev Fits : Outcome Doing → Type 0
  Fits o = OutcomeFits p l f o

  scope_is : c.scope ≡ scope
  scope_is = fits.0.scope

  -- a view of the same calls and components, with other values
  record Alike (u : View) : Type 0 where
    still_fits : CallsFit l f u.calls (n ∷ ns)
    still_systems : SystemsKept p u.components

  alike : Alike v
  alike = record { still_fits = fits; still_systems = systems }

  alike_stored : (u : View) (q : Place) (w : Value) → Alike u → Alike (stored u q w)
  alike_stored u q w a = record { still_fits = fit_stored p l f u (n ∷ ns) q w a.still_fits; still_systems = systems_stored p u q w a.still_systems }

  items_fit : (u : View) (items : List Item) (move : Move) → Alike u → ItemsFit l (n ∷ ns) items → MoveFits l f u.calls move → DoingFits p l f (with_move (with_items u items) move)
  items_fit u items move a k moves = record { stands = record { numbers = n ∷ ns; executes = a.still_fits; remains = k }; systems = a.still_systems; moves = moves }

  becomes_fit : (u : View) (items : List Item) → Alike u → ItemsFit l (n ∷ ns) items → Fits (becomes u items)
  becomes_fit u items a k = items_fit u items stays a k tt

  stored_fits : (o : Outcome Value) (t : Target) (g : View → Outcome Doing) → ((u : View) → Alike u → Fits (g u)) → Fits ((o >>= λ x. Ok (stored v t.place x)) >>= g)
  stored_fits (Ok x) t g h = h (stored v t.place x) (alike_stored v t.place x alike)
  stored_fits (Err e) t g h = tt

  assigned_fits : (t : Target) (w : Value) (g : View → Outcome Doing) → ((u : View) → Alike u → Fits (g u)) → Fits (assigned v t w >>= g)
  assigned_fits t w g h = stored_fits (checked t.ty w) t g h

  -- ---- the items of statements, in the scope of the call

  here : (P : Scope → Type 0) → P scope → P (scope_here v)
  here P h = subst P (sym scope_is) h

  of_statement : (t : Statement) (items : List Item) → IsWithin body t → ItemsFit l (n ∷ ns) items → ItemsFit l (n ∷ ns) (items_of (scope_here v) t ++ items)
  of_statement t items w k = here (λ (s : Scope). ItemsFit l (n ∷ ns) (items_of s t ++ items)) (fit_append l n ns (items_of scope t) items (statement_stands scope body t w) k)

  of_all : (ts : Statements) (items : List Item) → ((t : Statement) → IsAmong t ts → IsWithin body t) → ItemsFit l (n ∷ ns) items → ItemsFit l (n ∷ ns) (items_of_all (scope_here v) ts ++ items)
  of_all ts items w k = here (λ (s : Scope). ItemsFit l (n ∷ ns) (items_of_all s ts ++ items)) (fit_append l n ns (items_of_all scope ts) items (all_stand scope body ts w) k)

  -- a list of statements of the body, and what is left of a loop
  all_and : (ts : Statements) (rest : Scope → List Item) (items : List Item) → ((t : Statement) → IsAmong t ts → IsWithin body t) → AllStand scope body (rest scope) → ItemsFit l (n ∷ ns) items → ItemsFit l (n ∷ ns) ((items_of_all (scope_here v) ts ++ rest (scope_here v)) ++ items)
  all_and ts rest items w h k = here (λ (s : Scope). ItemsFit l (n ∷ ns) ((items_of_all s ts ++ rest s) ++ items)) (fit_append l n ns (items_of_all scope ts ++ rest scope) items (stand_append scope body (items_of_all scope ts) (rest scope) (all_stand scope body ts w) h) k)

  statement_and : (t : Statement) (rest : Scope → List Item) (items : List Item) → IsWithin body t → AllStand scope body (rest scope) → ItemsFit l (n ∷ ns) items → ItemsFit l (n ∷ ns) ((items_of (scope_here v) t ++ rest (scope_here v)) ++ items)
  statement_and t rest items w h k = here (λ (s : Scope). ItemsFit l (n ∷ ns) ((items_of s t ++ rest s) ++ items)) (fit_append l n ns (items_of scope t ++ rest scope) items (stand_append scope body (items_of scope t) (rest scope) (statement_stands scope body t w) h) k)

  choice_fits : (b : Bool) (xs ys : List Item) → ItemsFit l (n ∷ ns) xs → ItemsFit l (n ∷ ns) ys → ItemsFit l (n ∷ ns) (if b then xs else ys)
  choice_fits true xs ys h k = h
  choice_fits false xs ys h k = k

  -- ---- calls

  above : (d : ℕ) (kind : CallKind) (r : RoutineMeaning) (k : ℕ) (o : Option Name) (items : List Item) (e : Environment) → r ≡ l.meanings k → KindFits f kind k → QuietAbove f kind k (n ∷ ns) → (r.result ≡ None → o ≡ None) → ItemsFit l (n ∷ ns) items → (move : Move) → MoveFits l f (opened v d kind r o items e).calls move →
      DoingFits p l f (with_move (opened v d kind r o items e) move)
  above d kind r k o items e same fit quiet gives rest move moves =
      record {
        stands = record {
          numbers = k ∷ n ∷ ns;
          executes = (record { scope = ap (λ (m : RoutineMeaning). m.scope) same; kind = fit }, quiet, fits);
          remains = subst (λ (m : RoutineMeaning). ItemsFit l (k ∷ n ∷ ns) (items_of_all m.scope m.body ++ last_checks m.checks m.scope ++ return o ∷ items)) (sym same)
              (fit_append l k (n ∷ ns) (items_of_all (scope_of l k) (body_of l k) ++ last_checks (l.meanings k).checks (scope_of l k)) (return o ∷ items) (checked_stands (scope_of l k) (body_of l k) (l.meanings k).checks) (subst (λ (m : RoutineMeaning). m.result ≡ None → o ≡ None) same gives, rest));
        };
        systems = systems;
        moves = moves;
      }

  entry_as : (s : SystemKind) (d : ℕ) (r : RoutineMeaning) (k : ℕ) (o : Option Name) (items : List Item) (e : Environment) → r ≡ l.meanings k → f.entry k ≡ true → (r.result ≡ None → o ≡ None) → ItemsFit l (n ∷ ns) items → DoingFits p l f (entered_as s v d r o items e)
  entry_as system_kind.Monitor d r k o items e same fit gives rest = above d entry_routine r k o items e same fit tt gives rest (enters d) tt
  entry_as system_kind.Class d r k o items e same fit gives rest = above d entry_routine r k o items e same fit tt gives rest stays tt
  entry_as system_kind.Process d r k o items e same fit gives rest = items_fit v items stays alike rest tt

  entered_fits : (d : ℕ) (r : RoutineMeaning) (k : ℕ) (o : Option Name) (es : Expressions) (items : List Item) → r ≡ l.meanings k → f.entry k ≡ true → (r.result ≡ None → o ≡ None) → ItemsFit l (n ∷ ns) items → Fits (entered v d r o es items)
  entered_fits d r k o es items same fit gives rest =
      bind_fits p l f (bound v r.parameters es) _ (λ e. outcome_if p l f (is_initialised (component_at cs d).status) _ _ (entry_as (component_at cs d).kind d r k o items e same fit gives rest) tt)

  by_target : (d : Designator) (r : RoutineMeaning) (k : ℕ) (o : Option Name) (es : Expressions) (items : List Item) → r ≡ l.meanings k → f.entry k ≡ true → (r.result ≡ None → o ≡ None) → ItemsFit l (n ∷ ns) items → Fits (target_value v d >>= λ t. entered v (component_there v t.place) r o es items)
  by_target d r k o es items same fit gives rest = bind_fits p l f (target_value v d) _ (λ t. entered_fits (component_there v t.place) r k o es items same fit gives rest)

  called_fits : (m : Option Meaning) (d : Designator) (r : Option RoutineMeaning) (o : Option Name) (es : Expressions) (items : List Item) → ((x : RoutineMeaning) → r ≡ Some x → (k : ℕ) × (x ≡ l.meanings k) × CalledAs f n k m × (x.result ≡ None → o ≡ None)) → ItemsFit l (n ∷ ns) items → Fits (called_as v m d r o es items)
  called_fits m d None o es items h rest = becomes_fit v items alike rest
  called_fits (Some (routine_meaning y)) d (Some r) o es items h rest =
      let w = h r refl in bind_fits p l f (bound v r.parameters es) _ (λ e. above (this_component v) local_routine r w.0 o items e w.1 w.2.0 w.2.1 w.3 rest stays tt)
  called_fits None d (Some r) o es items h rest = let w = h r refl in by_target d r w.0 o es items w.1 w.2 w.3 rest
  called_fits (Some (constant_meaning b z)) d (Some r) o es items h rest = let w = h r refl in by_target d r w.0 o es items w.1 w.2 w.3 rest
  called_fits (Some (type_meaning t)) d (Some r) o es items h rest = let w = h r refl in by_target d r w.0 o es items w.1 w.2 w.3 rest
  called_fits (Some (local_variable t)) d (Some r) o es items h rest = let w = h r refl in by_target d r w.0 o es items w.1 w.2 w.3 rest
  called_fits (Some (permanent_variable t)) d (Some r) o es items h rest = let w = h r refl in by_target d r w.0 o es items w.1 w.2 w.3 rest
  called_fits (Some (standard_meaning t)) d (Some r) o es items h rest = let w = h r refl in by_target d r w.0 o es items w.1 w.2 w.3 rest

  function_fits : (at : ℕ) (d : Designator) (es : Expressions) (items : List Item) → ItemStands scope body (function_call at d es) → ItemsFit l (n ∷ ns) items → Fits (called v d es (Some (temporary at)) items)
  function_fits at d es items w rest =
      subst (λ (s : Scope). Fits (called_as v (find (name_of d) s) d (routine_called p s d) (Some (temporary at)) es items)) (sym scope_is)
      (called_fits (find (name_of d) scope) d (routine_called p scope d) (Some (temporary at)) es items (λ r e. (let k = known.functions n at d es r w e in (k.0.number, k.0.same, k.0.called, λ h. absurd (k.1 h)))) rest)

  procedure_fits : (at : ℕ) (d : Designator) (es : Expressions) (items : List Item) → IsWithin body (invoke at d es) → ItemsFit l (n ∷ ns) items → Fits (called v d es None items)
  procedure_fits at d es items w rest =
      subst (λ (s : Scope). Fits (called_as v (find (name_of d) s) d (routine_called p s d) None es items)) (sym scope_is)
      (called_fits (find (name_of d) scope) d (routine_called p scope d) None es items (λ r e. (let k = known.procedures n at d es r w e in (k.number, k.same, k.called, λ h. refl))) rest)

  -- a check calls the routine of the invariants
  check_fits : (at : ℕ) (items : List Item) → has_invariants scope ≡ true → ItemsFit l (n ∷ ns) items → Fits (does v pid (check_statement at) items)
  check_fits at items has rest =
      subst (λ (s : Scope). Fits (invoked v pid (find nameless s) (check_name at) no_expressions items)) (sym scope_is) (go (find nameless scope) refl has)
    where
      called_check : (m : Option Meaning) → find nameless scope ≡ m → Fits (called_as v m (check_name at) (routine_called p scope (check_name at)) None no_expressions items)
      called_check m is =
          called_fits m (check_name at) (routine_called p scope (check_name at)) None no_expressions items
          (λ r e. (let k = known.checks n at r has e in (k.number, k.same, subst (CalledAs f n k.number) is k.called, λ h. refl))) rest

      go : (m : Option Meaning) → find nameless scope ≡ m → is_routine_meant m ≡ true → Fits (invoked v pid m (check_name at) no_expressions items)
      go (Some (routine_meaning r)) is there =
          subst (λ (s : Scope). Fits (called_as v (find nameless s) (check_name at) (routine_called p s (check_name at)) None no_expressions items)) (sym scope_is)
          (called_check (find nameless scope) refl)
      go _ is never = absurd (let bad : false ≡ true = never in cc)

  -- ---- starts

  initial_fits : (d : ℕ) (items : List Item) (e : Environment) → KindFits f initial_statement (known.initials d).number → ItemsFit l (n ∷ ns) items → DoingFits p l f (initial v d (system_of p (component_at cs d).system) items e)
  initial_fits d items e fit rest =
      let k = known.initials d in
      let meaning : initial_meaning (system_of p (component_at cs d).system) ≡ l.meanings k.number = ap (λ j. initial_meaning (system_of p j)) (systems d) ∙ sym k.same in
      record {
        stands = record {
          numbers = k.number ∷ n ∷ ns;
          executes = (record { scope = ap (λ (m : RoutineMeaning). m.scope) meaning; kind = fit }, tt, fits);
          remains = subst (λ (m : RoutineMeaning). ItemsFit l (k.number ∷ n ∷ ns) (items_of_all m.scope m.body ++ check_items 0 m.scope ++ init_end d ∷ items)) (sym meaning)
              (fit_append l k.number (n ∷ ns) (items_of_all (scope_of l k.number) (body_of l k.number) ++ check_items 0 (scope_of l k.number)) (init_end d ∷ items) (checked_stands (scope_of l k.number) (body_of l k.number) true) rest);
        };
        systems = system_set p cs d _ refl systems;
        moves = tt;
      }

  initialised_fits : (d : ℕ) (items : List Item) (e : Environment) → ItemsFit l (n ∷ ns) items → Fits (initialised_in v d (system_of p (component_at cs d).system) items e)
  initialised_fits d items e rest = outcome_if p l f (is_uninitialised (component_at cs d).status) _ _ (let k = known.initials d in initial_fits d items e (k.entry, k.quiet) rest) tt

  started_fits : (k : SystemKind) (d : ℕ) (items : List Item) (e : Environment) → ItemsFit l (n ∷ ns) items → Fits (started_as k v d (system_of p (component_at cs d).system) items e)
  started_fits system_kind.Process d items e rest = items_fit v items (starts d e) alike rest tt
  started_fits _ d items e rest = initialised_fits d items e rest

  start_fits : (t : Start) (items : List Item) → ItemsFit l (n ∷ ns) items → Fits (started v t items)
  start_fits t items rest =
      bind_fits p l f (target_value v t.target) _ (λ u.
      bind_fits p l f (bound v (system_of p (component_at cs (component_there v u.place)).system).parameters t.arguments) _ (λ e. started_fits (component_at cs (component_there v u.place)).kind (component_there v u.place) items e rest))

  -- ---- ends of calls

  ended_fits : (u : View) (items : List Item) (move : Move) → CallsFit l f u.calls ns → SystemsKept p u.components → ItemsFit l ns items → MoveFits l f u.calls move → DoingFits p l f (with_move (with_items u items) move)
  ended_fits u items move a k rest moves = record { stands = record { numbers = ns; executes = a; remains = rest }; systems = k; moves = moves }

  result_fits : (o : Option Name) → CallsFit l f (with_result v o).calls ns × SystemsKept p (with_result v o).components
  result_fits None = (fits.2, systems)
  result_fits (Some x) =
      let there = plain_place (this_call (outer v)) x in
      let w = value_at v (plain_place (this_call v) result_name) in
      (fit_stored p l f (outer v) ns there w fits.2, systems_stored p (outer v) there w systems)

  leaving_fits : (k : SystemKind) (m : ℕ) (xs : List Call) → MoveFits l f xs (leaving_move k m)
  leaving_fits system_kind.Monitor m xs = tt
  leaving_fits _ m xs = tt

  return_fits : (b : Bool) (k : SystemKind) (m : ℕ) (xs : List Call) → MoveFits l f xs (if b then leaving_move k m else stays)
  return_fits true k m xs = leaving_fits k m xs
  return_fits false k m xs = tt

  returned_fits : (o : Option Name) (items : List Item) → ItemsFit l ns items → DoingFits p l f (returned v o items)
  returned_fits o items rest = ended_fits (with_result v o) items (return_move cs c) (result_fits o).0 (result_fits o).1 rest (return_fits _ (component_at cs c.component).kind c.component (with_result v o).calls)

  -- ---- `continue`

  -- what is after the return from an entry
  after_fits : (m k : ℕ) (ks : List ℕ) (fs : List Frame) (items : List Item) → FramesFit ((entry_routine, m) ∷ fs) items → ItemsFit l (k ∷ ks) items → ItemsFit l ks (after_return items)
  after_fits m k ks fs [] g h = tt
  after_fits m k ks fs (return o ∷ items) g h = h.1
  after_fits m k ks fs (init_end j ∷ items) g h = absurd g.0
  after_fits m k ks fs (end ∷ items) g h = after_fits m k ks fs items g h
  after_fits m k ks fs (statement_item t ∷ items) g h = after_fits m k ks fs items g h.1
  after_fits m k ks fs (function_call at d es ∷ items) g h = after_fits m k ks fs items g h.1
  after_fits m k ks fs (start_item t ∷ items) g h = after_fits m k ks fs items g h.1
  after_fits m k ks fs (until ss e ∷ items) g h = after_fits m k ks fs items g h.1
  after_fits m k ks fs (successor at i z d b t ∷ items) g h = after_fits m k ks fs items g h.1

  fewer : (xs : List Call) → CallsFit l f xs (n ∷ ns) → CallsFit l f (callers xs) ns
  fewer [] h = absurd h
  fewer (x ∷ xs) h = h.2

  continued_fits : (k : CallKind) (items : List Item) (q : Place) → c.kind ≡ k → FramesFit (frames (c ∷ calls)) items → ItemsFit l (n ∷ ns) items → DoingFits p l f (continued_from v k items q)
  continued_fits entry_routine items q e g rest =
      let a = alike_stored v q (queue_value None) alike in
      record {
        stands = record { numbers = ns; executes = fewer (stored v q (queue_value None)).calls a.still_fits; remains = after_fits c.component n ns (frames calls) items (subst (λ k. FramesFit ((k, c.component) ∷ frames calls) items) e g) rest };
        systems = a.still_systems;
        moves = record { numbers = n ∷ ns; executes = a.still_fits; remains = rest };
      }
  continued_fits _ items q e g rest = items_fit v items stays alike rest tt

  -- ---- statements

  arm_within : (z : ℤ) (as' : Arms) (t : Statement) → arm_for (scope_here v) z as' ≡ Ok t → IsAmongArms t as'
  arm_within z no_arms t e = cc
  arm_within z (more_arms (arm ks u) as') t e = go (has_label (scope_here v) z ks) e (arm_within z as' t)
    where
      go : (b : Bool) → (if b then Ok u else arm_for (scope_here v) z as') ≡ Ok t → (arm_for (scope_here v) z as' ≡ Ok t → IsAmongArms t as') → (t ≡ u) ⊎ IsAmongArms t as'
      go true h rest = inl (let w = h in cc)
      go false h rest = inr (rest h)

  bind_arm : (o : Outcome Statement) (g : Statement → Outcome Doing) → ((t : Statement) → o ≡ Ok t → Fits (g t)) → Fits (o >>= g)
  bind_arm (Ok t) g h = h t refl
  bind_arm (Err e) g h = tt

  next_fits : (at : ℕ) (i : Identifier) (z : ℤ) (d : Direction) (b : ℤ) (t : Statement) (items : List Item) → ItemStands scope body (successor at i z d b t) → IsWithin body t → ItemsFit l (n ∷ ns) items → Fits (goes_on_with v at i z d b t items)
  next_fits at i z d b t items turn w rest = assigned_fits (target_named v i.name) (number_value z) _ (λ u a. becomes_fit u _ a (of_statement t _ w (turn, rest)))

  delayed_fits : (o : Option ℕ) (items : List Item) (q : Place) → f.quiet n ≡ false → ItemsFit l (n ∷ ns) items → Fits (queue_free o >>= λ x. Ok (with_move (with_items (stored v q (queue_value (Some pid))) items) (delays c.component)))
  delayed_fits None items q loud rest =
      let a = alike_stored v q (queue_value (Some pid)) alike in
      items_fit (stored v q (queue_value (Some pid))) items (delays c.component) a rest (entries_same c.component q.holder _ ∙ loud_entry l f cs c calls n ns fits order loud)
    where
      entries_same : (m : ℕ) (h : Holder) (e : Environment) → has_entry m (with_environment_of v h e).calls ≡ has_entry m (c ∷ calls)
      entries_same m (in_call below) e = entries_kept m below e (c ∷ calls)
      entries_same m (in_component k) e = refl
  delayed_fits (Some r) items q loud rest = tt

  place_fits : (d : Option Designator) (go : Place → Outcome Doing) (items : List Item) → ItemsFit l (n ∷ ns) items → ((q : Place) → Fits (go q)) → Fits (in_place_of v d go items)
  place_fits None go items rest h = becomes_fit v items alike rest
  place_fits (Some d) go items rest h = bind_fits p l f (target_value v d) _ (λ t. h t.place)

  invoked_fits : (at : ℕ) (m : Option Meaning) (d : Designator) (es : Expressions) (items : List Item) → find (name_of d) scope ≡ m → IsWithin body (invoke at d es) → FramesFit (frames (c ∷ calls)) items → ItemsFit l (n ∷ ns) items → Fits (invoked v pid m d es items)
  invoked_fits at (Some (standard_meaning delay_procedure)) d es items e w g rest = place_fits (argument_of es) (delayed_in v pid items) items rest (λ q. delayed_fits (waiting_in (value_at v q)) items q (known.delays n at d es w e) rest)
  invoked_fits at (Some (standard_meaning continue_procedure)) d es items e w g rest = place_fits (argument_of es) _ items rest (λ q. continued_fits c.kind items q refl g rest)
  invoked_fits at (Some (standard_meaning display_procedure)) d es items e w g rest = bind_fits p l f (first_value v es) _ (λ x. items_fit v items _ alike rest tt)
  invoked_fits at m d es items e w g rest = procedure_fits at d es items w rest

  invoke_fits : (at : ℕ) (d : Designator) (es : Expressions) (items : List Item) → IsWithin body (invoke at d es) → FramesFit (frames (c ∷ calls)) items → ItemsFit l (n ∷ ns) items → Fits (invoked v pid (meaning_here v d) d es items)
  invoke_fits at d es items w g rest = invoked_fits at (find (name_of d) c.scope) d es items (ap (find (name_of d)) (sym scope_is)) w g rest

  does_fits : (t : Statement) (items : List Item) → IsWithin body t → FramesFit (frames (c ∷ calls)) items → ItemsFit l (n ∷ ns) items → Fits (does v pid t items)
  does_fits (assign at d e) items w g rest = bind_fits p l f (value v e) _ (λ x. bind_fits p l f (target_value v d) _ (λ t. assigned_fits t x.value _ (λ u a. becomes_fit u items a rest)))
  does_fits (invoke at d es) items w g rest = invoke_fits at d es items w g rest
  does_fits (block at ss) items w g rest = becomes_fit v _ alike (of_all ss items (λ t h. inside t (block at ss) h w) rest)
  does_fits (if_then at e t) items w g rest = bind_fits p l f (value v e) _ (λ x. becomes_fit v _ alike (choice_fits (is_true x) _ _ (of_statement t items (inside t (if_then at e t) refl w) rest) rest))
  does_fits (if_else at e t u) items w g rest =
      bind_fits p l f (value v e) _ (λ x. becomes_fit v _ alike (choice_fits (is_true x) _ _ (of_statement t items (inside t (if_else at e t u) (inl refl) w) rest) (of_statement u items (inside u (if_else at e t u) (inr refl) w) rest)))
  does_fits (case_of at e as' b) items w g rest =
      bind_fits p l f (value v e) _ (λ x. bind_arm (arm_for (scope_here v) (number_of x.value) as') _ (λ t is. becomes_fit v _ alike (of_statement t items (inside t (case_of at e as' b) (arm_within (number_of x.value) as' t is) w) rest)))
  does_fits (while_do at e t) items w g rest =
      bind_fits p l f (value v e) _ (λ x. becomes_fit v _ alike (choice_fits (is_true x) _ _ (statement_and t (λ (s : Scope). items_of s (while_do at e t)) items (inside t (while_do at e t) refl w) (statement_stands scope body (while_do at e t) w) rest) rest))
  does_fits (repeat_until at ss e) items w g rest = becomes_fit v _ alike (all_and ss (λ (s : Scope). until_items s ss e) items (λ t h. inside t (repeat_until at ss e) h w) (until_stands scope body at ss e w) rest)
  does_fits (for_do at i e d b t) items w g rest =
      bind_fits p l f (value v e) _ (λ x. bind_fits p l f (value v b) _ (λ y.
      outcome_if p l f (is_beyond d (number_of x.value) (number_of y.value)) _ _ (becomes_fit v items alike rest) (next_fits at i _ d _ t items (e, b, w) (inside t (for_do at i e d b t) refl w) rest)))
  does_fits (cycle at ss) items w g rest = becomes_fit v _ alike (all_and ss (λ (s : Scope). items_of s (cycle at ss)) items (λ t h. inside t (cycle at ss) h w) (statement_stands scope body (cycle at ss) w) rest)
  does_fits (asserted at k e t) items w g rest =
      bind_fits p l f (value v e) _ (λ x. outcome_if p l f (is_true x) _ _ (becomes_fit v _ alike (of_statement t items (inside t (asserted at k e t) refl w) rest)) tt)
  does_fits _ items w g rest = becomes_fit v items alike rest

  statement_fits : (t : Statement) (items : List Item) → ItemStands scope body (statement_item t) → FramesFit (frames (c ∷ calls)) items → ItemsFit l (n ∷ ns) items → Fits (does v pid t items)
  statement_fits t items (inl w) g rest = does_fits t items w g rest
  statement_fits t items (inr k) g rest = subst (λ (u : Statement). Fits (does v pid u items)) (sym k.2) (check_fits k.0 items k.1 rest)

  -- ---- items

  finished_fits : (m : ℕ) (items : List Item) → ItemsFit l ns items → DoingFits p l f (finished v m items)
  finished_fits m items rest = record { stands = record { numbers = ns; executes = fits.2; remains = rest }; systems = system_set p cs m _ refl systems; moves = tt }

  pub takes_fits : (items : List Item) → FramesFit (frames (c ∷ calls)) items → ItemsFit l (n ∷ ns) items → Fits (takes v pid items)
  takes_fits [] g rest = becomes_fit v [] alike tt
  takes_fits (statement_item t ∷ items) g rest = statement_fits t items rest.0 g rest.1
  takes_fits (function_call at d es ∷ items) g rest = function_fits at d es items rest.0 rest.1
  takes_fits (start_item t ∷ items) g rest = start_fits t items rest.1
  takes_fits (until ss e ∷ items) g rest =
      bind_fits p l f (value v e) _ (λ x. becomes_fit v _ alike (choice_fits (is_true x) _ _ rest.1 (all_and ss (λ (s : Scope). until_items s ss e) items (λ t h. inside t (repeat_until rest.0.0 ss e) h rest.0.1) (until_stands scope body rest.0.0 ss e rest.0.1) rest.1)))
  takes_fits (successor at i z d b t ∷ items) g rest =
      outcome_if p l f (same_integer z b) _ _ (becomes_fit v items alike rest.1) (next_fits at i _ d b t items rest.0 (inside t (for_do at i rest.0.0 d rest.0.1 t) refl rest.0.2) rest.1)
  takes_fits (return o ∷ items) g rest = returned_fits o items rest.1
  takes_fits (init_end m ∷ items) g rest = finished_fits m items rest
  takes_fits (end ∷ items) g rest = items_fit v items ends alike rest tt
