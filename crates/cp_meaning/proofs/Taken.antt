-- What is so of each doing of the local rules, whatever that is, is so of what an item does.
use Rattle.std.proofs.Common.{◌≡◌, ℕ, ℤ, Bool, true, false, if◌then◌else◌, List, [], ◌∷◌, ◌++◌, Option, Some, None, Ok, Err, refl}
use Rattle.cp_meaning.proofs.Words.{Identifier, Direction, Name, Outcome, ◌>>=◌, Doing, delays, ends, Value, number_value, queue_value, number_of, waiting_in, system_of}
use Rattle.cp_meaning.proofs.Words.{items_of, items_of_all, until_items, takes}
use Rattle.cp_tree.specs.Syntax.{Expressions, Designator, Start, Statement, assign, invoke, block, if_then, if_else, case_of, while_do, repeat_until, for_do, cycle, asserted, Program}
use Rattle.cp_meaning.specs.Names.{temporary}
use Rattle.cp_meaning.specs.Scopes.{Meaning, routine_meaning, standard_meaning, delay_procedure, continue_procedure, display_procedure}
use Rattle.cp_meaning.specs.Declarations.{RoutineMeaning, Parameter}
use Rattle.cp_meaning.specs.State.{Place, Environment, Component, component_at, local_routine, Call, current, Item, statement_item, function_call, start_item, until, successor, return, init_end, end}
use Rattle.cp_meaning.specs.Places.{View, Target, target_named, value_at, stored, this_component, component_there}
use Rattle.cp_meaning.specs.Operations.{Typed, same_integer, is_true, checked}
use Rattle.cp_meaning.specs.Expressions.{value, target_value, first_value, meaning_here, routine_called}
use Rattle.cp_meaning.specs.Calls.{bound, opened, is_initialised, entered_as, with_move, with_items, entered, called_as, called, started_as, started}
use Rattle.cp_meaning.specs.LocalRules.{scope_here, assigned, arm_for, is_beyond, next_value, goes_on_with, queue_free, delayed_in, continued_from, shown, in_place_of, argument_of, invoked, does, returned, finished}
use Rattle.cp_meaning.proofs.Frames.{IsPlain, ArePlain, plain-append}
use Rattle.cp_meaning.proofs.PlainItems.{plain_items, plain_all, plain_until}

-- ---- outcomes

-- P of what there is, if there is no run error
abbrev pub AllOf : {A : Type 0} → (A → Type 0) → Outcome A → Type 0
AllOf P (Ok a) = P a
AllOf P (Err e) = Unit {0}

pub whatever : {A : Type 0} (o : Outcome A) → AllOf (λ (a : A). Unit {0}) o
whatever (Ok a) = tt
whatever (Err e) = tt

pub bind_known : {A B : Type 0} (Q : A → Type 0) (P : B → Type 0) (o : Outcome A) (f : A → Outcome B) → AllOf Q o → ((a : A) → Q a → AllOf P (f a)) → AllOf P (o >>= f)
bind_known Q P (Ok a) f k h = h a k
bind_known Q P (Err e) f k h = tt

pub bind_all : {A B : Type 0} (P : B → Type 0) (o : Outcome A) (f : A → Outcome B) → ((a : A) → AllOf P (f a)) → AllOf P (o >>= f)
bind_all P (Ok a) f h = h a
bind_all P (Err e) f h = tt

pub if_all : {A : Type 0} (P : A → Type 0) (b : Bool) (x y : Outcome A) → (b ≡ true → AllOf P x) → AllOf P y → AllOf P (if b then x else y)
if_all P true x y h k = h refl
if_all P false x y h k = k

-- ---- an item of a process with these open calls

module _ (p : Program) (calls : List Call) (cs : List Component) (pid : ℕ) where
  abbrev v : View
  v = record { program = p; calls = calls; components = cs }

  -- What the rules keep: P is of doings, Kept of views with other values, Fit of the items that remain, Near of the places that are found. Bound is
  -- of the arguments of a call, and Handed of those with which a component of a system type is started.
  pub record Rules (P : Doing → Type 0) (Kept : View → Type 0) (Fit : List Item → Type 0) (Near : Place → Type 0) (Bound : Environment → Type 0) (Handed : ℕ → Environment → Type 0) : Type 0 where
    pub near : (d : Designator) → AllOf (λ (t : Target). Near t.place) (target_value v d)
    pub named : (i : Identifier) → Near (target_named v i.name).place
    pub arguments : (qs : List Parameter) (es : Expressions) → AllOf Bound (bound v qs es)
    pub handed : (k : ℕ) (es : Expressions) → AllOf (Handed k) (bound v (system_of p k).parameters es)
    pub plain : (xs items : List Item) → ArePlain xs → Fit items → Fit (xs ++ items)
    pub rest : (i : Item) (items : List Item) → IsPlain i → Fit (i ∷ items) → Fit items
    pub as_it_is : Kept v
    pub stores : (q : Place) (w : Value) → Near q → Kept (stored v q w)
    pub goes_on : (u : View) (items : List Item) → Kept u → Fit items → P (with_items u items)
    pub ended : (items : List Item) → Fit items → P (with_move (with_items v items) ends)
    pub shows : (items : List Item) (x : Typed) → Fit items → P (shown v items x)
    pub opens : (r : RoutineMeaning) (o : Option Name) (items : List Item) (e : Environment) → Bound e → Fit items → P (opened v (this_component v) local_routine r o items e)
    pub enters : (q : Place) (r : RoutineMeaning) (o : Option Name) (items : List Item) (e : Environment) → Near q → Bound e → is_initialised (component_at cs (component_there v q)).status ≡ true → Fit items →
        P (entered_as (component_at cs (component_there v q)).kind v (component_there v q) r o items e)
    pub starts : (q : Place) (items : List Item) (e : Environment) → Near q → Handed (component_at cs (component_there v q)).system e → Fit items →
        AllOf P (started_as (component_at cs (component_there v q)).kind v (component_there v q) (system_of p (component_at cs (component_there v q)).system) items e)
    pub waits : (q : Place) (items : List Item) → Near q → Fit items → P (with_move (with_items (stored v q (queue_value (Some pid))) items) (delays (this_component v)))
    pub continues : (q : Place) (items : List Item) → Near q → Fit items → P (continued_from v (current calls).kind items q)
    pub returns : (o : Option Name) (items : List Item) → Fit (return o ∷ items) → P (returned v o items)
    pub finishes : (m : ℕ) (items : List Item) → Fit (init_end m ∷ items) → P (finished v m items)

  module _ (P : Doing → Type 0) (Kept : View → Type 0) (Fit : List Item → Type 0) (Near : Place → Type 0) (Bound : Environment → Type 0) (Handed : ℕ → Environment → Type 0) (rules : Rules P Kept Fit Near Bound Handed) where
    stays_here : (items : List Item) → Fit items → P (with_items v items)
    stays_here items f = rules.goes_on v items rules.as_it_is f

    either_fits : (b : Bool) (xs ys : List Item) → Fit xs → Fit ys → Fit (if b then xs else ys)
    either_fits true xs ys h k = h
    either_fits false xs ys h k = k

    statement_fits : (s : Statement) (items : List Item) → Fit items → Fit (items_of (scope_here v) s ++ items)
    statement_fits s items f = rules.plain (items_of (scope_here v) s) items (plain_items (scope_here v) s) f

    two_fit : (xs ys items : List Item) → ArePlain xs → ArePlain ys → Fit items → Fit (xs ++ ys ++ items)
    two_fit xs ys items h k f = rules.plain (xs ++ ys) items (plain-append xs ys h k) f

    assigned_all : (t : Target) (w : Value) (items : View → List Item) → Near t.place → ((u : View) → Fit (items u)) → AllOf P (assigned v t w >>= λ u. Ok (with_items u (items u)))
    assigned_all t w items n f = go (checked t.ty w)
      where
        go : (o : Outcome Value) → AllOf P ((o >>= λ x. Ok (stored v t.place x)) >>= λ u. Ok (with_items u (items u)))
        go (Ok x) = rules.goes_on (stored v t.place x) (items (stored v t.place x)) (rules.stores t.place x n) (f (stored v t.place x))
        go (Err e) = tt

    next_all : (at : ℕ) (i : Identifier) (z : ℤ) (d : Direction) (b : ℤ) (s : Statement) (items : List Item) → Fit items → AllOf P (goes_on_with v at i z d b s items)
    next_all at i z d b s items f =
        assigned_all (target_named v i.name) (number_value z) (λ u. items_of (scope_here v) s ++ successor at i z d b s ∷ items) (rules.named i) (λ u. statement_fits s (successor at i z d b s ∷ items) (rules.plain (successor at i z d b s ∷ []) items (tt, tt) f))

    -- ---- calls and starts

    entered_all : (q : Place) (r : RoutineMeaning) (o : Option Name) (es : Expressions) (items : List Item) → Near q → Fit items → AllOf P (entered v (component_there v q) r o es items)
    entered_all q r o es items n f =
        bind_known Bound P (bound v r.parameters es) _ (rules.arguments r.parameters es) (λ e k. if_all P (is_initialised (component_at cs (component_there v q)).status) _ _ (λ i. rules.enters q r o items e n k i f) tt)

    called_all : (m : Option Meaning) (d : Designator) (r : Option RoutineMeaning) (o : Option Name) (es : Expressions) (items : List Item) → Fit items → AllOf P (called_as v m d r o es items)
    called_all m d None o es items f = stays_here items f
    called_all (Some (routine_meaning q)) d (Some r) o es items f = bind_known Bound P (bound v r.parameters es) _ (rules.arguments r.parameters es) (λ e k. rules.opens r o items e k f)
    called_all m d (Some r) o es items f = bind_known (λ (t : Target). Near t.place) P (target_value v d) _ (rules.near d) (λ t n. entered_all t.place r o es items n f)

    call_all : (d : Designator) (es : Expressions) (o : Option Name) (items : List Item) → Fit items → AllOf P (called v d es o items)
    call_all d es o items f = called_all (meaning_here v d) d (routine_called p (current calls).scope d) o es items f

    start_all : (t : Start) (items : List Item) → Fit items → AllOf P (started v t items)
    start_all t items f =
        bind_known (λ (u : Target). Near u.place) P (target_value v t.target) _ (rules.near t.target) (λ u n.
        let k = (component_at cs (component_there v u.place)).system in
        bind_known (Handed k) P (bound v (system_of p k).parameters t.arguments) _ (rules.handed k t.arguments) (λ e h. rules.starts u.place items e n h f))

    -- ---- statements

    place_all : (d : Option Designator) (go : Place → Outcome Doing) (items : List Item) → Fit items → ((q : Place) → Near q → AllOf P (go q)) → AllOf P (in_place_of v d go items)
    place_all None go items f h = stays_here items f
    place_all (Some d) go items f h = bind_known (λ (t : Target). Near t.place) P (target_value v d) _ (rules.near d) (λ t n. h t.place n)

    invoked_all : (m : Option Meaning) (d : Designator) (es : Expressions) (items : List Item) → Fit items → AllOf P (invoked v pid m d es items)
    invoked_all (Some (standard_meaning delay_procedure)) d es items f = place_all (argument_of es) (delayed_in v pid items) items f (λ q n. bind_all P (queue_free (waiting_in (value_at v q))) _ (λ o. rules.waits q items n f))
    invoked_all (Some (standard_meaning continue_procedure)) d es items f = place_all (argument_of es) _ items f (λ q n. rules.continues q items n f)
    invoked_all (Some (standard_meaning display_procedure)) d es items f = bind_all P (first_value v es) _ (λ x. rules.shows items x f)
    invoked_all m d es items f = call_all d es None items f

    does_all : (s : Statement) (items : List Item) → Fit items → AllOf P (does v pid s items)
    does_all (assign at d e) items f = bind_all P (value v e) _ (λ x. bind_known (λ (t : Target). Near t.place) P (target_value v d) _ (rules.near d) (λ t n. assigned_all t x.value (λ u. items) n (λ u. f)))
    does_all (invoke at d es) items f = invoked_all (meaning_here v d) d es items f
    does_all (block at ss) items f = stays_here _ (rules.plain (items_of_all (scope_here v) ss) items (plain_all (scope_here v) ss) f)
    does_all (if_then at e s) items f = bind_all P (value v e) _ (λ x. stays_here _ (either_fits (is_true x) _ _ (statement_fits s items f) f))
    does_all (if_else at e s t) items f = bind_all P (value v e) _ (λ x. stays_here _ (either_fits (is_true x) _ _ (statement_fits s items f) (statement_fits t items f)))
    does_all (case_of at e as' b) items f = bind_all P (value v e) _ (λ x. bind_all P (arm_for (scope_here v) (number_of x.value) as') _ (λ s. stays_here _ (statement_fits s items f)))
    does_all (while_do at e s) items f =
        bind_all P (value v e) _ (λ x. stays_here _ (either_fits (is_true x) _ _ (two_fit (items_of (scope_here v) s) (items_of (scope_here v) (while_do at e s)) items (plain_items (scope_here v) s) (plain_items (scope_here v) (while_do at e s)) f) f))
    does_all (repeat_until at ss e) items f = stays_here _ (two_fit (items_of_all (scope_here v) ss) (until_items (scope_here v) ss e) items (plain_all (scope_here v) ss) (plain_until (scope_here v) ss e) f)
    does_all (for_do at i e d b s) items f =
        bind_all P (value v e) _ (λ x. bind_all P (value v b) _ (λ y. if_all P (is_beyond d (number_of x.value) (number_of y.value)) _ _ (λ h. stays_here items f) (next_all at i (number_of x.value) d (number_of y.value) s items f)))
    does_all (cycle at ss) items f = stays_here _ (two_fit (items_of_all (scope_here v) ss) (items_of (scope_here v) (cycle at ss)) items (plain_all (scope_here v) ss) (plain_items (scope_here v) (cycle at ss)) f)
    does_all (asserted at k e s) items f = bind_all P (value v e) _ (λ x. if_all P (is_true x) _ _ (λ h. stays_here _ (statement_fits s items f)) tt)
    does_all _ items f = stays_here items f

    -- ---- items

    pub takes_all : (items : List Item) → Fit items → AllOf P (takes v pid items)
    takes_all [] f = stays_here [] f
    takes_all (statement_item s ∷ items) f = does_all s items (rules.rest (statement_item s) items tt f)
    takes_all (function_call at d es ∷ items) f = call_all d es (Some (temporary at)) items (rules.rest (function_call at d es) items tt f)
    takes_all (start_item t ∷ items) f = start_all t items (rules.rest (start_item t) items tt f)
    takes_all (until ss e ∷ items) f =
        let g = rules.rest (until ss e) items tt f in
        bind_all P (value v e) _ (λ x. stays_here _ (either_fits (is_true x) _ _ g (two_fit (items_of_all (scope_here v) ss) (until_items (scope_here v) ss e) items (plain_all (scope_here v) ss) (plain_until (scope_here v) ss e) g)))
    takes_all (successor at i z d b s ∷ items) f =
        let g = rules.rest (successor at i z d b s) items tt f in
        if_all P (same_integer z b) _ _ (λ h. stays_here items g) (next_all at i (next_value d z) d b s items g)
    takes_all (return o ∷ items) f = rules.returns o items f
    takes_all (init_end m ∷ items) f = rules.finishes m items f
    takes_all (end ∷ items) f = rules.ended items (rules.rest end items tt f)
