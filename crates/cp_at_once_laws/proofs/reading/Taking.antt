-- An item does the same where others have changed what is not its process's own.
use Rattle.std.proofs.Common.{◌≡◌, ℕ, zero, suc, ◌≤◌, ◌∙◌, ◌⊎◌, inl, inr, ℤ, Bool, true, false, if◌then◌else◌, List, [], ◌∷◌, ◌++◌, length, slice_set, Option, Some, None, Ok, Err, ap, sym, refl, arith}
use Rattle.cp_at_once_laws.proofs.Words.{Identifier, Direction, SystemKind, Name, temporary, Value, number_value, queue_value, number_of, waiting_in, RoutineMeaning}
use Rattle.cp_at_once_laws.proofs.Words.{SystemMeaning, system_of, value, target_value, first_value, meaning_here, routine_called, stays, delays, continues, Doing}
use Rattle.cp_at_once_laws.proofs.Words.{status_at, Typed, same_integer, checked, status_set}
use Rattle.cp_tree.specs.declared.declaration.SystemKind.TheVariants as system_kind
use Rattle.cp_tree.specs.Syntax.{Expression, Expressions, Designator, Start, Statement, assign, invoke, if_then, if_else, case_of, while_do, for_do, asserted, Program}
use Rattle.cp_meaning.specs.Outcome.{ErrorName, Outcome, ◌>>=◌, not_init, init_twice}
use Rattle.cp_meaning.specs.Scopes.{Meaning, constant_meaning, type_meaning, local_variable, permanent_variable, routine_meaning, standard_meaning, delay_procedure, continue_procedure, display_procedure}
use Rattle.cp_meaning.specs.State.{Holder, in_call, in_component, Place, Environment, ComponentStatus, uninitialised, initialising, initialised, Component, component_at, CallKind, local_routine, entry_routine, Call, callers, Item, statement_item, function_call, start_item, until, successor, return, init_end, end, is_entry_kind}
use Rattle.cp_meaning.specs.Places.{View, Target, with_content, content_of, value_held, with_permanents, environment_of, with_environment_of, target_named, value_at, stored, component_there}
use Rattle.cp_meaning.specs.Values.{with_part}
use Rattle.cp_meaning.specs.Lifting.{items_of}
use Rattle.cp_meaning.specs.Operations.{is_true}
use Rattle.cp_meaning.specs.Calls.{bound, opened, is_initialised, is_uninitialised, entered_as, with_move, with_items, entered, called_as, called, with_status, initial, initialised_in, started_as, started_at, started}
use Rattle.cp_meaning.specs.LocalRules.{becomes, assigned, arm_for, is_beyond, next_value, goes_on_with, queue_free, delayed_in, after_return, continued_from, in_place_of, argument_of, invoked, does, with_result, leaving_move, return_move, returned, finished, takes}
use Rattle.cp_meaning.proofs.LocalLaw.{initialised_told, uninitialised_told}
use Rattle.cp_at_once_laws.proofs.reading.Mixed.{mix_length, one_of, mix, mix_at, mix_set, mix_kind, mix_system, mix_own}
use Rattle.cp_at_once_laws.proofs.reading.Reading.{OwnPlace, OwnCalls, v, m, OwnTarget, named_own, target_own, environment_same, read_same, named_same, value_same, first_same, target_same, there_same, bound_same}

-- ---- past the last component

set_past : (cs : List Component) (k : ℕ) (c : Component) → length cs ≤ k → slice_set cs k c ≡ cs
set_past [] k c le = refl
set_past (d ∷ cs) zero c le = absurd (omega arith)
set_past (d ∷ cs) (suc k) c le = ap (λ l. d ∷ l) (set_past cs k c (omega arith))

status_past : (cs : List Component) (k : ℕ) → length cs ≤ k → status_at cs k ≡ uninitialised
status_past [] k le = refl
status_past (d ∷ cs) zero le = absurd (omega arith)
status_past (d ∷ cs) (suc k) le = status_past cs k (omega arith)

-- ---- writing

pub mix_permanents : (own ln : ℕ → Bool) (cs xs : List Component) (k : ℕ) (e : Environment) → length cs ≡ length xs → own k ≡ true → with_permanents (mix own ln cs xs) k e ≡ mix own ln (with_permanents cs k e) xs
mix_permanents own ln cs xs k e size h =
    ap (λ c. slice_set (mix own ln cs xs) k (let d : Component = record { path = c.path; system = c.system; kind = c.kind; status = c.status; environment = e; line = c.line } in d)) (mix_own own ln cs xs k size h) ∙
    ap (λ b. slice_set (mix own ln cs xs) k (one_of b (ln k) (let c = component_at cs k in let d : Component = record { path = c.path; system = c.system; kind = c.kind; status = c.status; environment = e; line = c.line } in d) (component_at xs k))) (sym h) ∙
    mix_set own ln cs xs k (let c = component_at cs k in let d : Component = record { path = c.path; system = c.system; kind = c.kind; status = c.status; environment = e; line = c.line } in d) size

pub mix_status : (own ln : ℕ → Bool) (cs xs : List Component) (k : ℕ) (s : ComponentStatus) (e : Environment) → length cs ≡ length xs → own k ≡ true → with_status (mix own ln cs xs) k s e ≡ mix own ln (with_status cs k s e) xs
mix_status own ln cs xs k s e size h =
    ap (λ c. slice_set (mix own ln cs xs) k (let d : Component = record { path = c.path; system = c.system; kind = c.kind; status = s; environment = e; line = c.line } in d)) (mix_own own ln cs xs k size h) ∙
    ap (λ b. slice_set (mix own ln cs xs) k (one_of b (ln k) (let c = component_at cs k in let d : Component = record { path = c.path; system = c.system; kind = c.kind; status = s; environment = e; line = c.line } in d) (component_at xs k))) (sym h) ∙
    mix_set own ln cs xs k (let c = component_at cs k in let d : Component = record { path = c.path; system = c.system; kind = c.kind; status = s; environment = e; line = c.line } in d) size

module _ (own ln : ℕ → Bool) (xs : List Component) where
  -- ---- what was done, with what others left of the rest

  abbrev pub mixed : View → View
  mixed u = record { program = u.program; calls = u.calls; components = mix own ln u.components xs }

  abbrev pub also_mixed : Doing → Doing
  also_mixed d = record { calls = d.calls; items = d.items; components = mix own ln d.components xs; move = d.move }

  abbrev pub all_mixed : Outcome Doing → Outcome Doing
  all_mixed (Ok d) = Ok (also_mixed d)
  all_mixed (Err e) = Err e

  pub stored_same : (u : View) (q : Place) (w : Value) → length u.components ≡ length xs → OwnPlace own q.holder → stored (mixed u) q w ≡ mixed (stored u q w)
  stored_same u q w size h = go q.holder h
    where
      go : (k : Holder) → OwnPlace own k → with_environment_of (mixed u) k (with_content q.name (Rattle.cp_meaning.specs.State.holds (with_part (value_held (content_of q.name (environment_of (mixed u) k))) q.choices w)) (environment_of (mixed u) k)) ≡
          mixed (with_environment_of u k (with_content q.name (Rattle.cp_meaning.specs.State.holds (with_part (value_held (content_of q.name (environment_of u k))) q.choices w)) (environment_of u k)))
      go (in_call b) k = refl
      go (in_component n) k =
          ap (λ e. with_environment_of (mixed u) (in_component n) (with_content q.name (Rattle.cp_meaning.specs.State.holds (with_part (value_held (content_of q.name e)) q.choices w)) e)) (ap (λ c. c.environment) (mix_own own ln u.components xs n size k)) ∙
          ap (λ cs. let y : View = record { program = u.program; calls = u.calls; components = cs } in y)
          (mix_permanents own ln u.components xs n (with_content q.name (Rattle.cp_meaning.specs.State.holds (with_part (value_held (content_of q.name (component_at u.components n).environment)) q.choices w)) (component_at u.components n).environment) size k)

  module _ (p : Program) (c : Call) (calls : List Call) (cs : List Component) (pid : ℕ) (size : length cs ≡ length xs) (held : OwnCalls own (c ∷ calls))
      (told : (n : ℕ) → own n ≡ false → (status_at xs n ≡ status_at cs n) ⊎ (status_at cs n ≡ initialised → ⊥)) where
    abbrev a : View
    a = v own ln xs p c calls cs size held

    abbrev b : View
    b = m own ln xs p c calls cs size held

    -- Statuses of the others' components are left as they are. A run error has to see the same ones.
    abbrev pub LeavesOthers : Outcome Doing → Type 0
    LeavesOthers (Ok d) = (n : ℕ) → own n ≡ false → status_at d.components n ≡ status_at cs n
    LeavesOthers (Err e) = (n : ℕ) → own n ≡ false → status_at xs n ≡ status_at cs n

    abbrev pub Reads : (x y : Outcome Doing) → Type 0
    Reads x y = LeavesOthers y → x ≡ all_mixed y

    bind_reads : {A : Type 0} (o o' : Outcome A) (f g : A → Outcome Doing) → o ≡ o' → ((k : A) → Reads (f k) (g k)) → Reads (o >>= f) (o' >>= g)
    bind_reads {A} o o' f g e h k = ap (λ t. t >>= f) e ∙ go o' k
      where
        go : (o : Outcome A) → LeavesOthers (o >>= g) → (o >>= f) ≡ all_mixed (o >>= g)
        go (Ok x) k = h x k
        go (Err x) k = refl

    target_reads : (d : Designator) (f g : Target → Outcome Doing) → ((t : Target) → OwnPlace own t.place.holder → Reads (f t) (g t)) → Reads (target_value b d >>= f) (target_value a d >>= g)
    target_reads d f g h k = ap (λ t. t >>= f) (target_same own ln xs p c calls cs size held d) ∙ go (target_value a d) (target_own own ln xs p c calls cs size held d) k
      where
        go : (o : Outcome Target) → OwnTarget own ln xs p c calls cs size held o → LeavesOthers (o >>= g) → (o >>= f) ≡ all_mixed (o >>= g)
        go (Ok t) h' k = h t h' k
        go (Err x) h' k = refl

    if_reads : (t : Bool) (x x' y y' : Outcome Doing) → Reads x x' → Reads y y' → Reads (if t then x else y) (if t then x' else y')
    if_reads true x x' y y' h k = h
    if_reads false x x' y y' h k = k

    assigned_reads : (t : Target) (w : Value) (f g : View → Outcome Doing) → OwnPlace own t.place.holder → ((u : View) → Reads (f (mixed u)) (g u)) → Reads (assigned b t w >>= f) (assigned a t w >>= g)
    assigned_reads t w f g h k l = go (checked t.ty w) l
      where
        go : (o : Outcome Value) → LeavesOthers ((o >>= λ x. Ok (stored a t.place x)) >>= g) → ((o >>= λ x. Ok (stored b t.place x)) >>= f) ≡ all_mixed ((o >>= λ x. Ok (stored a t.place x)) >>= g)
        go (Ok x) l = ap f (stored_same a t.place x size h) ∙ k (stored a t.place x) l
        go (Err e) l = refl

    -- ---- calls

    -- whose status is looked at
    status_own : (d : ℕ) → own d ≡ true → status_at (mix own ln cs xs) d ≡ status_at cs d
    status_own d h = ap (λ k. k.status) (mix_own own ln cs xs d size h)

    status_other : (d : ℕ) → own d ≡ false → status_at xs d ≡ status_at cs d → status_at (mix own ln cs xs) d ≡ status_at cs d
    status_other d h e = ap (λ k. k.status) (mix_at own ln cs xs d size ∙ ap (λ t. one_of t (ln d) (component_at cs d) (component_at xs d)) h) ∙ e

    entry_status : (d : ℕ) (y : Doing) → LeavesOthers (if is_initialised (status_at cs d) then Ok y else Err not_init) → status_at (mix own ln cs xs) d ≡ status_at cs d
    entry_status d y l = go (own d) refl
      where
        never : (status_at cs d ≡ initialised → ⊥) → (t : Bool) → is_initialised (status_at cs d) ≡ t → own d ≡ false → LeavesOthers (if t then Ok y else Err not_init) → status_at xs d ≡ status_at cs d
        never n true e h l = absurd (n (initialised_told (status_at cs d) e))
        never n false e h l = l d h

        other : own d ≡ false → (status_at xs d ≡ status_at cs d) ⊎ (status_at cs d ≡ initialised → ⊥) → status_at xs d ≡ status_at cs d
        other h (inl e) = e
        other h (inr n) = never n (is_initialised (status_at cs d)) refl h l

        go : (t : Bool) → own d ≡ t → status_at (mix own ln cs xs) d ≡ status_at cs d
        go true h = status_own d h
        go false h = status_other d h (other h (told d h))

    entered_as_reads : (k : SystemKind) (d : ℕ) (r : RoutineMeaning) (o : Option Name) (items : List Item) (e : Environment) → entered_as k b d r o items e ≡ also_mixed (entered_as k a d r o items e)
    entered_as_reads system_kind.Monitor d r o items e = refl
    entered_as_reads _ d r o items e = refl

    ok_if : (t : Bool) (x x' : Doing) (e : ErrorName) → x ≡ also_mixed x' → (if t then Ok x else Err e) ≡ all_mixed (if t then Ok x' else Err e)
    ok_if true x x' e h = ap (λ y. Ok y) h
    ok_if false x x' e h = refl

    entered_reads : (d : ℕ) (r : RoutineMeaning) (o : Option Name) (es : Expressions) (items : List Item) → Reads (entered b d r o es items) (entered a d r o es items)
    entered_reads d r o es items = bind_reads (bound b r.parameters es) (bound a r.parameters es) _ _ (bound_same own ln xs p c calls cs size held r.parameters es) go
      where
        go : (e : Environment) → Reads (if is_initialised (status_at (mix own ln cs xs) d) then Ok (entered_as (component_at (mix own ln cs xs) d).kind b d r o items e) else Err not_init) (if is_initialised (status_at cs d) then Ok (entered_as (component_at cs d).kind a d r o items e) else Err not_init)
        go e l =
            ap (λ s. if is_initialised s then Ok (entered_as (component_at (mix own ln cs xs) d).kind b d r o items e) else Err not_init) (entry_status d (entered_as (component_at cs d).kind a d r o items e) l) ∙
            ok_if (is_initialised (status_at cs d)) (entered_as (component_at (mix own ln cs xs) d).kind b d r o items e) (entered_as (component_at cs d).kind a d r o items e) not_init
            (ap (λ k. entered_as k b d r o items e) (mix_kind own ln cs xs d size) ∙ entered_as_reads (component_at cs d).kind d r o items e)

    own_reads : (r : RoutineMeaning) (o : Option Name) (es : Expressions) (items : List Item) → Reads (bound b r.parameters es >>= λ e. Ok (opened b c.component local_routine r o items e)) (bound a r.parameters es >>= λ e. Ok (opened a c.component local_routine r o items e))
    own_reads r o es items = bind_reads (bound b r.parameters es) (bound a r.parameters es) _ _ (bound_same own ln xs p c calls cs size held r.parameters es) (λ e l. refl)

    other_reads : (d : Designator) (r : RoutineMeaning) (o : Option Name) (es : Expressions) (items : List Item) → Reads (target_value b d >>= λ t. entered b (component_there b t.place) r o es items) (target_value a d >>= λ t. entered a (component_there a t.place) r o es items)
    other_reads d r o es items = target_reads d _ _ (λ t h l. ap (λ n. entered b n r o es items) (there_same own ln xs p c calls cs size held t.place h) ∙ entered_reads (component_there a t.place) r o es items l)

    as_reads : (x : Option Meaning) (d : Designator) (r : Option RoutineMeaning) (o : Option Name) (es : Expressions) (items : List Item) → Reads (called_as b x d r o es items) (called_as a x d r o es items)
    as_reads x d None o es items = λ l. refl
    as_reads (Some (routine_meaning q)) d (Some r) o es items = own_reads r o es items
    as_reads None d (Some r) o es items = other_reads d r o es items
    as_reads (Some (constant_meaning t z)) d (Some r) o es items = other_reads d r o es items
    as_reads (Some (type_meaning t)) d (Some r) o es items = other_reads d r o es items
    as_reads (Some (local_variable t)) d (Some r) o es items = other_reads d r o es items
    as_reads (Some (permanent_variable t)) d (Some r) o es items = other_reads d r o es items
    as_reads (Some (standard_meaning s)) d (Some r) o es items = other_reads d r o es items

    called_reads : (d : Designator) (es : Expressions) (o : Option Name) (items : List Item) → Reads (called b d es o items) (called a d es o items)
    called_reads d es o items = as_reads (meaning_here a d) d (routine_called p c.scope d) o es items

    -- ---- starts

    initial_reads : (d : ℕ) (s : SystemMeaning) (items : List Item) (e : Environment) → own d ≡ true → initial b d s items e ≡ also_mixed (initial a d s items e)
    initial_reads d s items e h =
        ap (λ ds. let y : Doing = record { calls = (initial a d s items e).calls; items = (initial a d s items e).items; components = ds; move = stays } in y)
        (ap (λ k. with_status (mix own ln cs xs) d initialising (e ++ k)) (environment_same own ln xs p c calls cs size held (in_component d) h) ∙
        mix_status own ln cs xs d initialising (e ++ (component_at cs d).environment) size h)

    initialised_reads : (d : ℕ) (s : SystemMeaning) (items : List Item) (e : Environment) → Reads (initialised_in b d s items e) (initialised_in a d s items e)
    initialised_reads d s items e l = go (own d) refl
      where
        own_go : own d ≡ true → initialised_in b d s items e ≡ all_mixed (initialised_in a d s items e)
        own_go h =
            ap (λ t. if is_uninitialised t then Ok (initial b d s items e) else Err init_twice) (status_own d h) ∙
            ok_if (is_uninitialised (status_at cs d)) (initial b d s items e) (initial a d s items e) init_twice (initial_reads d s items e h)

        -- past the last component nothing is there to be changed
        beyond : length cs ≤ d → (if is_uninitialised (status_at (mix own ln cs xs) d) then Ok (initial b d s items e) else Err init_twice) ≡ Ok (also_mixed (initial a d s items e))
        beyond le =
            ap (λ t. if is_uninitialised t then Ok (initial b d s items e) else Err init_twice) (status_past (mix own ln cs xs) d (let same = mix_length own ln cs xs in omega arith)) ∙
            ap (λ ds. Ok (let y : Doing = record { calls = (initial a d s items e).calls; items = (initial a d s items e).items; components = ds; move = stays } in y))
            (set_past (mix own ln cs xs) d _ (let same = mix_length own ln cs xs in omega arith) ∙ sym (ap (λ l. mix own ln l xs) (set_past cs d _ le)))

        changed : status_at cs d ≡ uninitialised → status_at (with_status cs d initialising (e ++ (component_at cs d).environment)) d ≡ status_at cs d → length cs ≤ d
        changed u k = set (status_set cs d d initialising (e ++ (component_at cs d).environment))
          where
            set : ((d ≡ d) × (status_at (with_status cs d initialising (e ++ (component_at cs d).environment)) d ≡ initialising)) ⊎ ((d ≡ d → length cs ≤ d) × (status_at (with_status cs d initialising (e ++ (component_at cs d).environment)) d ≡ status_at cs d)) → length cs ≤ d
            set (inl t) = absurd (let bad : initialising ≡ uninitialised = sym t.1 ∙ k ∙ u in cc)
            set (inr t) = t.0 refl

        other : (t : Bool) → is_uninitialised (status_at cs d) ≡ t → own d ≡ false → LeavesOthers (if t then Ok (initial a d s items e) else Err init_twice) → (if is_uninitialised (status_at (mix own ln cs xs) d) then Ok (initial b d s items e) else Err init_twice) ≡ all_mixed (if t then Ok (initial a d s items e) else Err init_twice)
        other true u h l = beyond (changed (uninitialised_told (status_at cs d) u) (l d h))
        other false u h l = rw (status_other d h (l d h), u) refl

        go : (t : Bool) → own d ≡ t → initialised_in b d s items e ≡ all_mixed (initialised_in a d s items e)
        go true h = own_go h
        go false h = other (is_uninitialised (status_at cs d)) refl h l

    started_as_reads : (k : SystemKind) (d : ℕ) (s : SystemMeaning) (items : List Item) (e : Environment) → Reads (started_as k b d s items e) (started_as k a d s items e)
    started_as_reads system_kind.Process d s items e = λ l. refl
    started_as_reads _ d s items e = initialised_reads d s items e

    started_at_reads : (d : ℕ) (s : SystemMeaning) (es : Expressions) (items : List Item) → Reads (started_at b d s es items) (started_at a d s es items)
    started_at_reads d s es items =
        bind_reads (bound b s.parameters es) (bound a s.parameters es) _ _ (bound_same own ln xs p c calls cs size held s.parameters es) (λ e l.
        ap (λ k. started_as k b d s items e) (mix_kind own ln cs xs d size) ∙ started_as_reads (component_at cs d).kind d s items e l)

    started_reads : (t : Start) (items : List Item) → Reads (started b t items) (started a t items)
    started_reads t items = target_reads t.target _ _ (λ u h l.
        ap (λ n. started_at b n (system_of p (component_at (mix own ln cs xs) n).system) t.arguments items) (there_same own ln xs p c calls cs size held u.place h) ∙
        ap (λ j. started_at b (component_there a u.place) (system_of p j) t.arguments items) (mix_system own ln cs xs (component_there a u.place) size) ∙
        started_at_reads (component_there a u.place) (system_of p (component_at cs (component_there a u.place)).system) t.arguments items l)

    -- ---- ends of calls

    result_reads : (o : Option Name) → with_result b o ≡ mixed (with_result a o)
    result_reads None = refl
    result_reads (Some x) = refl

    return_reads : (o : Option Name) (items : List Item) → returned b o items ≡ also_mixed (returned a o items)
    return_reads o items =
        ap (λ u. with_move (with_items u items) (return_move (mix own ln cs xs) c)) (result_reads o) ∙
        ap (λ k. with_move (with_items (mixed (with_result a o)) items) (if is_entry_kind c.kind then leaving_move k c.component else stays)) (mix_kind own ln cs xs c.component size)

    finished_reads : (k : ℕ) (items : List Item) → own k ≡ true → finished b k items ≡ also_mixed (finished a k items)
    finished_reads k items h =
        ap (λ ds. let y : Doing = record { calls = calls; items = items; components = ds; move = stays } in y)
        (ap (λ e. with_status (mix own ln cs xs) k initialised e) (environment_same own ln xs p c calls cs size held (in_component k) h) ∙
        mix_status own ln cs xs k initialised (component_at cs k).environment size h)

    -- ---- statements

    next_reads : (at : ℕ) (i : Identifier) (z : ℤ) (d : Direction) (e : ℤ) (s : Statement) (items : List Item) → Reads (goes_on_with b at i z d e s items) (goes_on_with a at i z d e s items)
    next_reads at i z d e s items l =
        ap (λ t. assigned b t (number_value z) >>= λ u. becomes u (items_of c.scope s ++ successor at i z d e s ∷ items)) (named_same own ln xs p c calls cs size held i.name) ∙
        assigned_reads (target_named a i.name) (number_value z) _ _ (named_own own ln xs p c calls cs size held i.name) (λ u k. refl) l

    place_reads : (o : Option Designator) (f g : Place → Outcome Doing) (items : List Item) → ((q : Place) → OwnPlace own q.holder → Reads (f q) (g q)) → Reads (in_place_of b o f items) (in_place_of a o g items)
    place_reads None f g items h = λ l. refl
    place_reads (Some d) f g items h = target_reads d _ _ (λ t k. h t.place k)

    delay_reads : (items : List Item) (q : Place) → OwnPlace own q.holder → Reads (delayed_in b pid items q) (delayed_in a pid items q)
    delay_reads items q h l =
        ap (λ w. queue_free (waiting_in w) >>= λ o. Ok (with_move (with_items (stored b q (queue_value (Some pid))) items) (delays c.component))) (read_same own ln xs p c calls cs size held q h) ∙
        ap (λ u. queue_free (waiting_in (value_at a q)) >>= λ o. Ok (with_move (with_items u items) (delays c.component))) (stored_same a q (queue_value (Some pid)) size h) ∙
        go (queue_free (waiting_in (value_at a q)))
      where
        go : (o : Outcome (Option ℕ)) → (o >>= λ x. Ok (with_move (with_items (mixed (stored a q (queue_value (Some pid)))) items) (delays c.component))) ≡ all_mixed (o >>= λ x. Ok (with_move (with_items (stored a q (queue_value (Some pid))) items) (delays c.component)))
        go (Ok x) = refl
        go (Err x) = refl

    continue_reads : (k : CallKind) (items : List Item) (q : Place) → OwnPlace own q.holder → continued_from b k items q ≡ also_mixed (continued_from a k items q)
    continue_reads entry_routine items q h =
        ap (λ u. let y : Doing = record { calls = callers u.calls; items = after_return items; components = u.components; move = continues c.component (waiting_in (value_at b q)) u.calls items } in y) (stored_same a q (queue_value None) size h) ∙
        ap (λ w. let u = mixed (stored a q (queue_value None)) in let y : Doing = record { calls = callers u.calls; items = after_return items; components = u.components; move = continues c.component (waiting_in w) u.calls items } in y) (read_same own ln xs p c calls cs size held q h)
    continue_reads _ items q h = refl

    invoked_reads : (x : Option Meaning) (d : Designator) (es : Expressions) (items : List Item) → Reads (invoked b pid x d es items) (invoked a pid x d es items)
    invoked_reads (Some (standard_meaning delay_procedure)) d es items = place_reads (argument_of es) (delayed_in b pid items) (delayed_in a pid items) items (λ q h. delay_reads items q h)
    invoked_reads (Some (standard_meaning continue_procedure)) d es items = place_reads (argument_of es) _ _ items (λ q h l. ap (λ y. Ok y) (continue_reads c.kind items q h))
    invoked_reads (Some (standard_meaning display_procedure)) d es items = bind_reads (first_value b es) (first_value a es) _ _ (first_same own ln xs p c calls cs size held es) (λ x l. refl)
    invoked_reads _ d es items = called_reads d es None items

    test_reads : (e : Expression) (f : Typed → List Item) → Reads (value b e >>= λ x. becomes b (f x)) (value a e >>= λ x. becomes a (f x))
    test_reads e f = bind_reads (value b e) (value a e) _ _ (value_same own ln xs p c calls cs size held e) (λ x l. refl)

    does_reads : (s : Statement) (items : List Item) → Reads (does b pid s items) (does a pid s items)
    does_reads (assign at d e) items = bind_reads (value b e) (value a e) _ _ (value_same own ln xs p c calls cs size held e) (λ x. target_reads d _ _ (λ t h. assigned_reads t x.value _ _ h (λ u l. refl)))
    does_reads (invoke at d es) items = invoked_reads (meaning_here a d) d es items
    does_reads (if_then at e s) items = test_reads e _
    does_reads (if_else at e s t) items = test_reads e _
    does_reads (case_of at e as' z) items = bind_reads (value b e) (value a e) _ _ (value_same own ln xs p c calls cs size held e) (λ x. bind_reads (arm_for c.scope (number_of x.value) as') (arm_for c.scope (number_of x.value) as') _ _ refl (λ s l. refl))
    does_reads (while_do at e s) items = test_reads e _
    does_reads (for_do at i e d f s) items =
        bind_reads (value b e) (value a e) _ _ (value_same own ln xs p c calls cs size held e) (λ x. bind_reads (value b f) (value a f) _ _ (value_same own ln xs p c calls cs size held f) (λ y.
        if_reads (is_beyond d (number_of x.value) (number_of y.value)) _ _ _ _ (λ l. refl) (next_reads at i (number_of x.value) d (number_of y.value) s items)))
    does_reads (asserted at k e s) items = bind_reads (value b e) (value a e) _ _ (value_same own ln xs p c calls cs size held e) (λ x. if_reads (is_true x) _ _ _ _ (λ l. refl) (λ l. refl))
    does_reads _ items = λ l. refl

    -- the component whose initial statement ends is its own
    abbrev pub EndsOwn : List Item → Type 0
    EndsOwn [] = Unit {0}
    EndsOwn (init_end k ∷ items) = own k ≡ true
    EndsOwn (statement_item s ∷ items) = Unit {0}
    EndsOwn (function_call at d es ∷ items) = Unit {0}
    EndsOwn (start_item t ∷ items) = Unit {0}
    EndsOwn (until ss e ∷ items) = Unit {0}
    EndsOwn (successor at i z d e s ∷ items) = Unit {0}
    EndsOwn (return o ∷ items) = Unit {0}
    EndsOwn (end ∷ items) = Unit {0}

    pub takes_reads : (items : List Item) → EndsOwn items → Reads (takes b pid items) (takes a pid items)
    takes_reads (statement_item s ∷ items) h = does_reads s items
    takes_reads (function_call at d es ∷ items) h = called_reads d es (Some (temporary at)) items
    takes_reads (start_item t ∷ items) h = started_reads t items
    takes_reads (until ss e ∷ items) h = test_reads e _
    takes_reads (successor at i z d e s ∷ items) h = if_reads (same_integer z e) _ _ _ _ (λ l. refl) (next_reads at i (next_value d z) d e s items)
    takes_reads (return o ∷ items) h = λ l. ap (λ y. Ok y) (return_reads o items)
    takes_reads (init_end k ∷ items) h = λ l. ap (λ y. Ok y) (finished_reads k items h)
    takes_reads _ h = λ l. refl
