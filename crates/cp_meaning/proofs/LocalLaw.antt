-- Each local rule is good.
use Rattle.std.proofs.Common.{◌≡◌, ℕ, zero, suc, ◌<◌, ◌≤◌, ◌==◌, ◌∙◌, ◌⊎◌, inl, inr, true, false, if◌then◌else◌, List, [], ◌∷◌, ◌++◌, length, get_or, set, Option, Some, None, ap, sym, refl, subst, arith, eqb-true, eq-eqb}
use Rattle.cp_meaning.proofs.Words.{SystemKind, result_name, SystemMeaning, system_of, Move, enters, stays, delays, continues, starts, ends}
use Rattle.cp_meaning.proofs.Words.{Value, queue_value, waiting_in, items_of_all}
use Rattle.cp_tree.specs.declared.declaration.SystemKind.TheVariants as system_kind
use Rattle.cp_tree.specs.Syntax.{Program}
use Rattle.cp_meaning.specs.Declarations.{RoutineMeaning}
use Rattle.cp_meaning.specs.State.{Place, Environment, ComponentStatus, uninitialised, initialising, initialised, Component, component_at, no_component, CallKind, own_statement, initial_statement, local_routine, entry_routine, Call, callers, Item, statement_item, function_call, start_item, until, successor, return, init_end, end, is_entry_kind}
use Rattle.cp_meaning.specs.Places.{View, value_at, stored, this_call, this_component, plain_place, component_there}
use Rattle.cp_meaning.specs.Expressions.{target_value}
use Rattle.cp_meaning.specs.Calls.{bound, opened, is_initialised, is_uninitialised, last_checks, entered_as, with_move, with_items, with_status, initial, initialised_in, started_as}
use Rattle.cp_meaning.specs.Lifting.{check_items}
use Rattle.cp_meaning.specs.LocalRules.{after_return, continued_from, outer, with_result, leaving_move, return_move, returned, finished, takes}
use Rattle.cp_meaning.proofs.Frames.{plain-append, plain-rest, at_set, Frame, frames, entry_in, initial_in, below, frames-callers, TopReturns, TopStarts, ItemsFit, plain-fit, system_at, Descends, no_entry_below, no_initial_below, entry_or_initial}
use Rattle.cp_meaning.proofs.PlainItems.{plain_all, plain_initial, plain_last}
use Rattle.cp_meaning.proofs.Stored.{SameComponents, same_layout, same_components, layout_after, status_layout, stored_frames, stored_components}
use Rattle.cp_meaning.proofs.Good.{IsMonitor, status_at, NonEmpty, StatusMoves, NoneEntered, Left, MoveFits, Good, GoodDoing, GoodOutcome, good_at, or_cases, or_right, quiet}
use Rattle.cp_meaning.proofs.Taken.{whatever, if_all, Rules, takes_all}

pub initialised_told : (s : ComponentStatus) → is_initialised s ≡ true → s ≡ initialised
initialised_told initialised h = refl
initialised_told x h = cc

pub uninitialised_told : (s : ComponentStatus) → is_uninitialised s ≡ true → s ≡ uninitialised
uninitialised_told uninitialised h = refl
uninitialised_told x h = cc

-- what is no process is one of the components
pub within : (cs : List Component) (n : ℕ) → ((component_at cs n).kind ≡ system_kind.Process → ⊥) → n < length cs
within [] n h = absurd (h refl)
within (c ∷ cs) zero h = omega arith
within (c ∷ cs) (suc n) h = let lt = within cs n h in omega arith

-- the status of the component k, and that of each other one
pub status_set : (cs : List Component) (k n : ℕ) (s : ComponentStatus) (e : Environment) → ((n ≡ k) × (status_at (with_status cs k s e) n ≡ s)) ⊎ ((n ≡ k → length cs ≤ k) × (status_at (with_status cs k s e) n ≡ status_at cs n))
status_set cs k n s e = go (at_set cs k n _ no_component)
  where
    x : Component
    x = (let c = component_at cs k in record { path = c.path; system = c.system; kind = c.kind; status = s; environment = e; line = c.line })

    go : ((n ≡ k) × (k < length cs) × (get_or (set cs k x) n no_component ≡ x)) ⊎ ((n ≡ k → length cs ≤ k) × (get_or (set cs k x) n no_component ≡ get_or cs n no_component)) →
        ((n ≡ k) × (status_at (with_status cs k s e) n ≡ s)) ⊎ ((n ≡ k → length cs ≤ k) × (status_at (with_status cs k s e) n ≡ status_at cs n))
    go (inl h) = inl (h.0, ap (λ c. c.status) h.2)
    go (inr h) = inr (h.0, ap (λ c. c.status) h.1)

-- ---- an item of a process whose innermost open call is c

module _ (p : Program) (c : Call) (calls : List Call) (cs : List Component) (pid : ℕ)
    (order : Descends cs (frames (c ∷ calls)))
    (starting : (m : ℕ) → initial_in m (frames (c ∷ calls)) ≡ true → status_at cs m ≡ initialising)
    (entering : (m : ℕ) → entry_in m (frames (c ∷ calls)) ≡ true → status_at cs m ≡ initialised)
    (named_below : (q : Place) → ((component_at cs (component_there (record { program = p; calls = c ∷ calls; components = cs }) q)).kind ≡ system_kind.Process → ⊥) → system_at cs (component_there (record { program = p; calls = c ∷ calls; components = cs }) q) < system_at cs c.component) where
  abbrev v : View
  v = record { program = p; calls = c ∷ calls; components = cs }

  abbrev fs : List Frame
  fs = frames (c ∷ calls)

  -- a view of the same open calls and components, with other values
  record Alike (u : View) : Type 0 where
    same_frames : frames u.calls ≡ fs
    same_static : SameComponents cs u.components

  alike : Alike v
  alike = record { same_frames = refl; same_static = same_components cs }

  components_after : (ds es : List Component) → SameComponents cs ds → SameComponents ds es → SameComponents cs es
  components_after ds es h k = record { layout = layout_after cs ds es h.layout k.layout; status = λ n. k.status n ∙ h.status n }

  alike_stored : (u : View) (q : Place) (w : Value) → Alike u → Alike (stored u q w)
  alike_stored u q w a = record { same_frames = stored_frames u q w ∙ a.same_frames; same_static = components_after u.components (stored u q w).components a.same_static (stored_components u q w) }

  same_entries : NoneEntered cs fs fs
  same_entries m mon h = h

  items_good : (u : View) (items : List Item) (move : Move) → Alike u → ItemsFit fs items → MoveFits cs fs fs move → GoodDoing cs fs (with_move (with_items u items) move)
  items_good u items move a f h = quiet cs fs (with_move (with_items u items) move) tt order starting entering a.same_frames a.same_static f h

  -- ---- calls

  routine_fits : (g : Frame) (r : RoutineMeaning) (o : Option _) (items : List Item) → TopReturns (g ∷ fs) → ItemsFit fs items → ItemsFit (g ∷ fs) (items_of_all r.scope r.body ++ last_checks r.checks r.scope ++ return o ∷ items)
  routine_fits g r o items top f = plain-fit (g ∷ fs) (items_of_all r.scope r.body ++ last_checks r.checks r.scope) (return o ∷ items) (plain-append _ _ (plain_all r.scope r.body) (plain_last r.checks r.scope)) (top, f)

  local_good : (r : RoutineMeaning) (o : Option _) (items : List Item) (e : Environment) → ItemsFit fs items → GoodDoing cs fs (opened v (this_component v) local_routine r o items e)
  local_good r o items e f =
      record {
        layout = same_layout cs;
        open_calls = tt;
        fits = routine_fits (local_routine, c.component) r o items tt f;
        order = (refl, order);
        status = λ m. inl refl;
        starting = starting;
        entering = entering;
        fresh = λ m h. inl h;
        moves = same_entries;
      }

  other_kind : (d m : ℕ) (k : SystemKind) → (component_at cs d).kind ≡ k → (k ≡ system_kind.Monitor → ⊥) → IsMonitor cs m → (d == m) ≡ true → ⊥
  other_kind d m k e never mon same = never (sym e ∙ ap (λ j. (component_at cs j).kind) (eqb-true d m same) ∙ mon)

  entry_others : (d : ℕ) (m : ℕ) → (d ≡ m → ⊥) → ((d == m) ≡ true) ⊎ (entry_in m fs ≡ true) → entry_in m fs ≡ true
  entry_others d m ne (inl h) = absurd (ne (eqb-true d m h))
  entry_others d m ne (inr h) = h

  class_entry : (d : ℕ) → (component_at cs d).kind ≡ system_kind.Class → (m : ℕ) → IsMonitor cs m → ((d == m) ≡ true) ⊎ (entry_in m fs ≡ true) → entry_in m fs ≡ true
  class_entry d e m mon (inl h) = absurd (other_kind d m system_kind.Class e (λ b. cc) mon h)
  class_entry d e m mon (inr h) = h

  entry_good : (d : ℕ) (r : RoutineMeaning) (o : Option _) (items : List Item) (e : Environment) (move : Move) → ItemsFit fs items → status_at cs d ≡ initialised → system_at cs d < system_at cs c.component → MoveFits cs fs ((entry_routine, d) ∷ fs) move →
      GoodDoing cs fs (with_move (opened v d entry_routine r o items e) move)
  entry_good d r o items e move f was lt moves =
      record {
        layout = same_layout cs;
        open_calls = tt;
        fits = routine_fits (entry_routine, d) r o items tt f;
        order = (lt, order);
        status = λ m. inl refl;
        starting = starting;
        entering = λ m h. entered_status m (or_cases (d == m) _ h);
        fresh = λ m h. inl h;
        moves = moves;
      }
    where
      entered_status : (m : ℕ) → ((d == m) ≡ true) ⊎ (entry_in m fs ≡ true) → status_at cs m ≡ initialised
      entered_status m (inl h) = ap (status_at cs) (sym (eqb-true d m h)) ∙ was
      entered_status m (inr h) = entering m h

  entry_as : (k : SystemKind) (d : ℕ) (r : RoutineMeaning) (o : Option _) (items : List Item) (e : Environment) → (component_at cs d).kind ≡ k → ItemsFit fs items → status_at cs d ≡ initialised → (((component_at cs d).kind ≡ system_kind.Process → ⊥) → system_at cs d < system_at cs c.component) → GoodDoing cs fs (entered_as k v d r o items e)
  entry_as system_kind.Monitor d r o items e is f was lt =
      entry_good d r o items e (enters d) f was (lt (λ b. (let bad : system_kind.Monitor ≡ system_kind.Process = sym is ∙ b in cc))) (is, rw (eq-eqb d d refl) refl, λ m mon ne h. entry_others d m ne (or_cases (d == m) _ h))
  entry_as system_kind.Class d r o items e is f was lt =
      entry_good d r o items e stays f was (lt (λ b. (let bad : system_kind.Class ≡ system_kind.Process = sym is ∙ b in cc))) (λ m mon h. class_entry d is m mon (or_cases (d == m) _ h))
  entry_as system_kind.Process d r o items e is f was lt = items_good v items stays alike f same_entries

  -- ---- starts

  module _ (d : ℕ) (not_process : (component_at cs d).kind ≡ system_kind.Process → ⊥) (free : status_at cs d ≡ uninitialised) (lt : system_at cs d < system_at cs c.component) (e : Environment) where
    abbrev ds : List Component
    ds = with_status cs d initialising e

    set_or_kept : (m : ℕ) → ((m ≡ d) × (status_at ds m ≡ initialising)) ⊎ ((m ≡ d → length cs ≤ d) × (status_at ds m ≡ status_at cs m))
    set_or_kept m = status_set cs d m initialising e

    now : status_at ds d ≡ initialising
    now = go (set_or_kept d)
      where
        go : ((d ≡ d) × (status_at ds d ≡ initialising)) ⊎ ((d ≡ d → length cs ≤ d) × (status_at ds d ≡ status_at cs d)) → status_at ds d ≡ initialising
        go (inl h) = h.1
        go (inr h) = absurd (let le = h.0 refl in let l = within cs d not_process in omega arith)

    start_status : (m : ℕ) → StatusMoves cs ds fs m
    start_status m = go (set_or_kept m)
      where
        go : ((m ≡ d) × (status_at ds m ≡ initialising)) ⊎ ((m ≡ d → length cs ≤ d) × (status_at ds m ≡ status_at cs m)) → StatusMoves cs ds fs m
        go (inl h) = inr (inl (ap (status_at cs) h.0 ∙ free, h.1))
        go (inr h) = inl h.1

    start_starting : (m : ℕ) → ((d == m) ≡ true) ⊎ (initial_in m fs ≡ true) → status_at ds m ≡ initialising
    start_starting m (inl h) = ap (status_at ds) (sym (eqb-true d m h)) ∙ now
    start_starting m (inr h) = go (set_or_kept m)
      where
        go : ((m ≡ d) × (status_at ds m ≡ initialising)) ⊎ ((m ≡ d → length cs ≤ d) × (status_at ds m ≡ status_at cs m)) → status_at ds m ≡ initialising
        go (inl k) = k.1
        go (inr k) = k.1 ∙ starting m h

    start_entering : (m : ℕ) → entry_in m fs ≡ true → status_at ds m ≡ initialised
    start_entering m h = go (set_or_kept m)
      where
        go : ((m ≡ d) × (status_at ds m ≡ initialising)) ⊎ ((m ≡ d → length cs ≤ d) × (status_at ds m ≡ status_at cs m)) → status_at ds m ≡ initialised
        go (inl k) = absurd (let bad : initialised ≡ uninitialised = sym (entering m h) ∙ ap (status_at cs) k.0 ∙ free in cc)
        go (inr k) = k.1 ∙ entering m h

    start_fresh : (m : ℕ) → ((d == m) ≡ true) ⊎ (initial_in m fs ≡ true) → (initial_in m fs ≡ true) ⊎ (status_at cs m ≡ uninitialised)
    start_fresh m (inl h) = inr (ap (status_at cs) (sym (eqb-true d m h)) ∙ free)
    start_fresh m (inr h) = inl h

    initial_good : (s : SystemMeaning) (items : List Item) (o : Environment) → ItemsFit fs items → e ≡ o ++ (component_at cs d).environment → GoodDoing cs fs (initial v d s items o)
    initial_good s items o f same =
        subst (λ x. Good cs fs ((initial_statement, d) ∷ fs) (with_status cs d initialising x) (items_of_all s.scope s.body ++ check_items 0 s.scope ++ init_end d ∷ items) stays) same (record {
          layout = status_layout cs d initialising e;
          open_calls = tt;
          fits = plain-fit ((initial_statement, d) ∷ fs) (items_of_all s.scope s.body ++ check_items 0 s.scope) (init_end d ∷ items) (plain-append _ _ (plain_all s.scope s.body) (plain_initial s.scope)) (refl, f);
          order = (lt, order);
          status = start_status;
          starting = λ m h. start_starting m (or_cases (d == m) _ h);
          entering = start_entering;
          fresh = λ m h. start_fresh m (or_cases (d == m) _ h);
          moves = same_entries;
        })

  initialised_good : (d : ℕ) (s : SystemMeaning) (items : List Item) (e : Environment) → ItemsFit fs items → ((component_at cs d).kind ≡ system_kind.Process → ⊥) → (((component_at cs d).kind ≡ system_kind.Process → ⊥) → system_at cs d < system_at cs c.component) → GoodOutcome cs fs (initialised_in v d s items e)
  initialised_good d s items e f never lt =
      if_all (GoodDoing cs fs) (is_uninitialised (status_at cs d)) _ _ (λ u. initial_good d never (uninitialised_told (status_at cs d) u) (lt never) (e ++ (component_at cs d).environment) s items e f refl) tt

  started_good : (k : SystemKind) (d : ℕ) (s : SystemMeaning) (items : List Item) (e : Environment) → (component_at cs d).kind ≡ k → ItemsFit fs items → (((component_at cs d).kind ≡ system_kind.Process → ⊥) → system_at cs d < system_at cs c.component) → GoodOutcome cs fs (started_as k v d s items e)
  started_good system_kind.Class d s items e is f lt = initialised_good d s items e f (λ b. (let bad : system_kind.Class ≡ system_kind.Process = sym is ∙ b in cc)) lt
  started_good system_kind.Monitor d s items e is f lt = initialised_good d s items e f (λ b. (let bad : system_kind.Monitor ≡ system_kind.Process = sym is ∙ b in cc)) lt
  started_good system_kind.Process d s items e is f lt = items_good v items (starts d e) alike f (same_entries, is)

  -- ---- ends of calls

  -- the open calls below one that is not the process's own
  some_below : (k : CallKind) (n : ℕ) (gs : List Frame) → (k ≡ own_statement → ⊥) → Descends cs ((k, n) ∷ gs) → NonEmpty gs
  some_below own_statement n [] h d = absurd (h refl)
  some_below _ n [] h d = absurd d
  some_below k n (g ∷ gs) h d = tt

  descends_rest : (f : Frame) (gs : List Frame) → Descends cs (f ∷ gs) → Descends cs gs
  descends_rest f [] d = tt
  descends_rest f (g ∷ gs) d = d.1

  left_entry : (n : ℕ) (gs : List Frame) → Descends cs ((entry_routine, n) ∷ gs) → (entry_in n ((entry_routine, n) ∷ gs) ≡ true) × (entry_in n gs ≡ false)
  left_entry n [] d = absurd d
  left_entry n (g ∷ gs) d = (rw (eq-eqb n n refl) refl, no_entry_below cs n g gs d.1 d.0)

  -- where the innermost call ends
  ended_good : (u : View) (items : List Item) (move : Move) → frames u.calls ≡ frames calls → SameComponents cs u.components → (c.kind ≡ own_statement → ⊥) → ItemsFit (frames calls) items →
      MoveFits cs fs (frames calls) move → GoodDoing cs fs (with_move (with_items u items) move)
  ended_good u items move e same not_own f moves =
      good_at cs fs (frames calls) (with_move (with_items u items) move) e (record {
        layout = same.layout;
        open_calls = some_below c.kind c.component (frames calls) not_own order;
        fits = f;
        order = descends_rest (c.kind, c.component) (frames calls) order;
        status = λ m. inl (same.status m);
        starting = λ m h. same.status m ∙ starting m (or_right _ (initial_in m (frames calls)) h);
        entering = λ m h. same.status m ∙ entering m (or_right _ (entry_in m (frames calls)) h);
        fresh = λ m h. inl (or_right _ (initial_in m (frames calls)) h);
        moves = moves;
      })

  fewer_entries : NoneEntered cs fs (frames calls)
  fewer_entries m mon h = or_right _ (entry_in m (frames calls)) h

  leaving_fits : (k : SystemKind) (n : ℕ) → Left cs fs (frames calls) n → MoveFits cs fs (frames calls) (leaving_move k n)
  leaving_fits system_kind.Monitor n left = (fewer_entries, left)
  leaving_fits _ n left = fewer_entries

  return_fits : (k : CallKind) → c.kind ≡ k → MoveFits cs fs (frames calls) (if is_entry_kind k then leaving_move (component_at cs c.component).kind c.component else stays)
  return_fits entry_routine e =
      leaving_fits (component_at cs c.component).kind c.component (λ mon.
      subst (λ k. (entry_in c.component ((k, c.component) ∷ frames calls) ≡ true) × (entry_in c.component (frames calls) ≡ false)) (sym e)
      (left_entry c.component (frames calls) (subst (λ k. Descends cs ((k, c.component) ∷ frames calls)) e order)))
  return_fits _ e = fewer_entries

  top_returns : (k : CallKind) → c.kind ≡ k → TopReturns ((k, c.component) ∷ frames calls) → k ≡ own_statement → ⊥
  top_returns local_routine e h b = (let bad : local_routine ≡ own_statement = b in cc)
  top_returns entry_routine e h b = (let bad : entry_routine ≡ own_statement = b in cc)
  top_returns _ e h b = absurd h

  result_frames : (o : Option _) → (frames (with_result v o).calls ≡ frames calls) × SameComponents cs (with_result v o).components
  result_frames None = (refl, same_components cs)
  result_frames (Some x) =
      let there = plain_place (this_call (outer v)) x in
      let w = value_at v (plain_place (this_call v) result_name) in
      (stored_frames (outer v) there w, stored_components (outer v) there w)

  returned_good : (o : Option _) (items : List Item) → TopReturns fs → ItemsFit (frames calls) items → GoodDoing cs fs (returned v o items)
  returned_good o items top f =
      ended_good (with_result v o) items (return_move cs c) (result_frames o).0 (result_frames o).1 (top_returns c.kind refl top) f (return_fits c.kind refl)

  -- ---- continue

  after_fits : (n : ℕ) (items : List Item) → ItemsFit ((entry_routine, n) ∷ frames calls) items → ItemsFit (frames calls) (after_return items)
  after_fits n [] h = h
  after_fits n (return o ∷ items) h = h.1
  after_fits n (init_end m ∷ items) h = absurd h.0
  after_fits n (end ∷ items) h = after_fits n items h
  after_fits n (statement_item s ∷ items) h = after_fits n items h
  after_fits n (function_call at d es ∷ items) h = after_fits n items h
  after_fits n (start_item t ∷ items) h = after_fits n items h
  after_fits n (until ss e ∷ items) h = after_fits n items h
  after_fits n (successor at i z d b s ∷ items) h = after_fits n items h

  continued_good : (k : CallKind) (items : List Item) (q : Place) → c.kind ≡ k → ItemsFit fs items → GoodDoing cs fs (continued_from v k items q)
  continued_good entry_routine items q e f =
      let u = stored v q (queue_value None) in
      let w : View = record { program = p; calls = callers u.calls; components = u.components } in
      ended_good w (after_return items) (continues c.component (waiting_in (value_at v q)) u.calls items) (frames-callers u.calls ∙ ap below (stored_frames v q (queue_value None))) (stored_components v q (queue_value None))
      (λ b. (let bad : entry_routine ≡ own_statement = sym e ∙ b in cc))
      (after_fits c.component items (subst (λ k. ItemsFit ((k, c.component) ∷ frames calls) items) e f)) (
        fewer_entries,
        λ mon. subst (λ k. (entry_in c.component ((k, c.component) ∷ frames calls) ≡ true) × (entry_in c.component (frames calls) ≡ false)) (sym e)
            (left_entry c.component (frames calls) (subst (λ k. Descends cs ((k, c.component) ∷ frames calls)) e order)),
        stored_frames v q (queue_value None),
        f,
        λ m h. subst (λ k. initial_in m ((k, c.component) ∷ frames calls) ≡ true) e h,
      )
  continued_good _ items q e f = items_good v items stays alike f same_entries

  -- ---- the end of an initial statement

  module _ (m : ℕ) (e : Environment) (kind_is : c.kind ≡ initial_statement) (of : c.component ≡ m) where
    abbrev es : List Component
    es = with_status cs m initialised e

    order_here : Descends cs ((initial_statement, m) ∷ frames calls)
    order_here = subst (λ j. Descends cs ((initial_statement, j) ∷ frames calls)) of (subst (λ k. Descends cs ((k, c.component) ∷ frames calls)) kind_is order)

    initial_now : initial_in m fs ≡ true
    initial_now = subst (λ k. initial_in m ((k, c.component) ∷ frames calls) ≡ true) (sym kind_is) (subst (λ j. initial_in m ((initial_statement, j) ∷ frames calls) ≡ true) (sym of) (rw (eq-eqb m m refl) refl))

    none_left : (gs : List Frame) → Descends cs ((initial_statement, m) ∷ gs) → initial_in m gs ≡ false
    none_left [] h = refl
    none_left (g ∷ gs) h = no_initial_below cs m g gs h.1 h.0

    set_or_same : (j : ℕ) → ((j ≡ m) × (status_at es j ≡ initialised)) ⊎ ((j ≡ m → length cs ≤ m) × (status_at es j ≡ status_at cs j))
    set_or_same j = status_set cs m j initialised e

    end_status : (j : ℕ) → StatusMoves cs es fs j
    end_status j = go (set_or_same j)
      where
        go : ((j ≡ m) × (status_at es j ≡ initialised)) ⊎ ((j ≡ m → length cs ≤ m) × (status_at es j ≡ status_at cs j)) → StatusMoves cs es fs j
        go (inl h) = inr (inr (ap (status_at cs) h.0 ∙ starting m initial_now, ap (λ i. initial_in i fs) h.0 ∙ initial_now))
        go (inr h) = inl h.1

    end_starting : (j : ℕ) → initial_in j (frames calls) ≡ true → status_at es j ≡ initialising
    end_starting j h = go (set_or_same j)
      where
        go : ((j ≡ m) × (status_at es j ≡ initialised)) ⊎ ((j ≡ m → length cs ≤ m) × (status_at es j ≡ status_at cs j)) → status_at es j ≡ initialising
        go (inl k) = absurd (let bad : true ≡ false = sym h ∙ ap (λ i. initial_in i (frames calls)) k.0 ∙ none_left (frames calls) order_here in cc)
        go (inr k) = k.1 ∙ starting j (or_right _ (initial_in j (frames calls)) h)

    end_entering : (j : ℕ) → entry_in j (frames calls) ≡ true → status_at es j ≡ initialised
    end_entering j h = go (set_or_same j)
      where
        go : ((j ≡ m) × (status_at es j ≡ initialised)) ⊎ ((j ≡ m → length cs ≤ m) × (status_at es j ≡ status_at cs j)) → status_at es j ≡ initialised
        go (inl k) = k.1
        go (inr k) = k.1 ∙ entering j (or_right _ (entry_in j (frames calls)) h)

    finished_at : (items : List Item) → ItemsFit (frames calls) items → Good cs fs (frames calls) es items stays
    finished_at items f =
        record {
          layout = status_layout cs m initialised e;
          open_calls = some_below c.kind c.component (frames calls) (λ b. (let bad : initial_statement ≡ own_statement = sym kind_is ∙ b in cc)) order;
          fits = f;
          order = descends_rest (c.kind, c.component) (frames calls) order;
          status = end_status;
          starting = end_starting;
          entering = end_entering;
          fresh = λ j h. inl (or_right _ (initial_in j (frames calls)) h);
          moves = fewer_entries;
        }

  top_starts : (m : ℕ) (k : CallKind) → c.kind ≡ k → TopStarts m ((k, c.component) ∷ frames calls) → (k ≡ initial_statement) × (c.component ≡ m)
  top_starts m initial_statement e h = (refl, h)
  top_starts m _ e h = absurd h

  finished_good : (m : ℕ) (items : List Item) → TopStarts m fs → ItemsFit (frames calls) items → GoodDoing cs fs (finished v m items)
  finished_good m items top f = let t = top_starts m c.kind refl top in finished_at m _ t.0 t.1 items f

  -- ---- items

  rules : Rules p (c ∷ calls) cs pid (GoodDoing cs fs) Alike (ItemsFit fs) (λ q. Unit {0}) (λ e. Unit {0}) (λ k e. Unit {0})
  rules =
      record {
        near = λ d. whatever (target_value v d);
        named = λ i. tt;
        arguments = λ qs es. whatever (bound v qs es);
        handed = λ k es. whatever (bound v (system_of p k).parameters es);
        plain = plain-fit fs;
        rest = plain-rest fs;
        as_it_is = alike;
        stores = λ q w n. alike_stored v q w alike;
        goes_on = λ u items a f. items_good u items stays a f same_entries;
        ended = λ items f. items_good v items ends alike f same_entries;
        shows = λ items x f. items_good v items _ alike f same_entries;
        opens = λ r o items e k f. local_good r o items e f;
        enters = λ q r o items e n k i f. entry_as (component_at cs (component_there v q)).kind (component_there v q) r o items e refl f (initialised_told (status_at cs (component_there v q)) i) (named_below q);
        starts = λ q items e n h f. started_good (component_at cs (component_there v q)).kind (component_there v q) (system_of p (component_at cs (component_there v q)).system) items e refl f (named_below q);
        waits = λ q items n f. items_good (stored v q (queue_value (Some pid))) items (delays c.component) (alike_stored v q (queue_value (Some pid)) alike) f (same_entries, entry_or_initial cs (c.kind, c.component) (frames calls) order);
        continues = λ q items n f. continued_good c.kind items q refl f;
        returns = λ o items f. returned_good o items f.0 f.1;
        finishes = λ m items f. finished_good m items f.0 f.1;
      }

  pub takes_good : (items : List Item) → ItemsFit fs items → GoodOutcome cs fs (takes v pid items)
  takes_good items f = takes_all p (c ∷ calls) cs pid (GoodDoing cs fs) Alike (ItemsFit fs) (λ q. Unit {0}) (λ e. Unit {0}) (λ k e. Unit {0}) rules items f
