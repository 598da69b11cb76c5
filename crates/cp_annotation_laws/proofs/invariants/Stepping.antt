-- What one item does keeps what stands before the items, and leaves no component whose invariants are not true.
use Rattle.std.proofs.Common.{◌≡◌, ◌∙◌, ◌⊎◌, inl, inr, ℕ, ◌≤◌, ◌==◌, ℤ, Bool, true, false, ◌&&◌, ◌||◌, if◌then◌else◌, List, [], ◌∷◌, ◌++◌, length, Option, Some, None, Ok, Err, ap, sym, refl, subst, eqb-true}
use Rattle.std.proofs.lemmas.Slice.Eq.{bytes_eq-Decides}
use Rattle.cp_tree.specs.declared.constant.Identifier.{Identifier}
use Rattle.cp_tree.specs.declared.statement.Direction.{Direction}
use Rattle.cp_tree.specs.declared.declaration.SystemKind.{SystemKind}
use Rattle.cp_tree.specs.declared.declaration.SystemKind.TheVariants as system_kind
use Rattle.cp_tree.specs.Syntax.{Expression, Expressions, no_expressions, more_expressions, Designator, designator, no_selectors, more_selectors, nameless, RoutineKind, procedure, function, invariants, Routine, Part, Start, Statement, empty, assign, invoke, block, if_then, if_else, case_of, while_do, repeat_until, for_do, cycle, init, asserted, Statements, no_statements, more_statements, Program}
use Rattle.cp_meaning.specs.Names.{Name, temporary}
use Rattle.cp_meaning.specs.Outcome.{Outcome, ◌>>=◌}
use Rattle.cp_meaning.specs.Values.{Value, number_value, queue_value, number_of, waiting_in}
use Rattle.cp_meaning.specs.Systems.{SystemMeaning, system_of}
use Rattle.cp_meaning.specs.Scopes.{Meaning, constant_meaning, type_meaning, local_variable, permanent_variable, routine_meaning, standard_meaning, delay_procedure, continue_procedure, display_procedure, succ_function, pred_function, chr_function, ord_function, abs_function, empty_function, Scope, find, since}
use Rattle.cp_meaning.specs.Declarations.{RoutineMeaning, Parameter, heading_of, result_of, parts_in, routine_in}
use Rattle.cp_meaning.specs.State.{Place, Environment, initialising, initialised, Component, component_at, CallKind, own_statement, initial_statement, local_routine, entry_routine, is_entry_kind, Call, current, Item, statement_item, function_call, start_item, until, successor, return, init_end, end}
use Rattle.cp_meaning.specs.Places.{View, Target, target_named, value_at, stored, this_call, plain_place, component_there}
use Rattle.cp_meaning.specs.Operations.{is_true, same_integer, checked}
use Rattle.cp_meaning.specs.Expressions.{value, target_value, first_value, meaning_here, name_of, routine_called, routine_meant}
use Rattle.cp_meaning.specs.Lifting.{is_routine_meant, has_invariants, waits_meant, first_name, items_of, items_of_all, until_items, expression_calls}
use Rattle.cp_meaning.specs.Move.{Move, stays, enters, leaves, delays, continues, starts, shows, ends, Doing}
use Rattle.cp_meaning.specs.Calls.{bound, least_of, least_result, last_checks, opened, is_initialised, is_uninitialised, entered_as, entered, with_move, with_items, with_status, initial, initialised_in, started_as, started, called_as, called}
use Rattle.cp_meaning.specs.LocalRules.{assigned, arm_for, is_beyond, next_value, goes_on_with, queue_free, delayed_in, continued_from, after_return, in_place_of, argument_of, invoked, does, outer, with_result, leaving_move, return_move, returned, finished, takes}
use Rattle.cp_meaning.proofs.Frames.{Frame, frames, entry_in, frames-callers, below, ItemsFit, TopStarts}
use Rattle.cp_meaning.proofs.Good.{status_at, or_cases}
use Rattle.cp_meaning.proofs.LocalLaw.{status_set}
use Rattle.cp_meaning.proofs.Stored.{field_kept, stored_frames, stored_components, status_layout}
use Rattle.cp_meaning.proofs.Taken.{AllOf, bind_known, bind_all, if_all}
use Rattle.cp_resolved.proofs.declarations.Nameless.{SaysSome, IsNameless}
use Rattle.cp_annotation_laws.specs.Invariants.{said, all_said, invariants_meant, check_call, AreTrueIn, invariants_at, InvariantsHold}
use Rattle.cp_annotation_laws.proofs.invariants.Cleared.{environment_cleared}
use Rattle.cp_annotation_laws.proofs.invariants.Guarded.{Outline, outlines, top_scope, outer_ones, ends_checked, waits_checked, is_check, Guarded, guarded_append, guarded_after, own_items, own_all, own_until, own_append, Own, routine_guarded, initial_guarded}
use Rattle.cp_annotation_laws.proofs.invariants.Queued.{queue_same}
use Rattle.cp_annotation_laws.proofs.invariants.Outlined.{stored_outlines, callers_outlines}
use Rattle.cp_annotation_laws.proofs.invariants.Standing.{SaysNext, AreQuiet, SaysInvariants, BlocksKnown, IsOfBlock, holds_kept, none_hold, IsChecked, InCheck}

-- ---- what is asked of an item

-- the value that stands where a queue is named
abbrev pub QueueThere : View → Option Designator → Type 0
QueueThere v o = (d : Designator) → o ≡ Some d → (t : Target) → target_value v d ≡ Ok t → (w : Option ℕ) × (value_at v t.place ≡ queue_value w)

-- a routine of another component that is called is one whose end is checked
abbrev pub IsOther : Option Meaning → Type 0
IsOther (Some (routine_meaning r)) = ⊥
IsOther m = Unit {0}

abbrev pub EntryChecked : View → Designator → Type 0
EntryChecked v d = IsOther (meaning_here v d) → (r : RoutineMeaning) → routine_called v.program (current v.calls).scope d ≡ Some r → r.checks ≡ true

abbrev pub Asked : View → List Item → Type 0
Asked v [] = Unit {0}
Asked v (statement_item (invoke at d es) ∷ items) = EntryChecked v d × (waits_meant (meaning_here v d) ≡ true → QueueThere v (argument_of es))
Asked v (function_call at d es ∷ items) = EntryChecked v d
Asked v (i ∷ items) = Unit {0}

-- ---- what an item does

-- What the move asks: what waits has been checked, and where the caller of `continue` goes on, its open calls are the same; what is entered was not open; what
-- is started is a process.
abbrev pub MoveChecked : Program → List Frame → List Component → Move → Type 0
MoveChecked p fs ds (delays n) = InvariantsHold p ds n
MoveChecked p fs ds (continues n o calls items) = InvariantsHold p ds n × Guarded false (outlines calls) items × (frames calls ≡ fs)
MoveChecked p fs ds (enters n) = entry_in n fs ≡ false
MoveChecked p fs ds (starts c e) = (component_at ds c).kind ≡ system_kind.Process
MoveChecked p fs ds stays = Unit {0}
MoveChecked p fs ds (leaves n) = Unit {0}
MoveChecked p fs ds (shows x) = Unit {0}
MoveChecked p fs ds ends = Unit {0}

pub record Steps (p : Program) (cs : List Component) (fs : List Frame) (d : Doing) : Type 0 where
  pub stands : Guarded false (outlines d.calls) d.items ⊎ ((d.move ≡ stays) × (IsChecked p d.components d.calls d.items ⊎ InCheck p d.components d.calls d.items))
  -- the component of an entry that is left
  pub left : (n : ℕ) → entry_in n fs ≡ true → entry_in n (frames d.calls) ≡ false → InvariantsHold p d.components n
  -- a component that is initialised now
  pub ended : (n : ℕ) → status_at d.components n ≡ initialised → (status_at cs n ≡ initialised) ⊎ InvariantsHold p d.components n
  pub move : MoveChecked p fs d.components d.move

pub told : {A : Type 0} (o : Outcome A) → AllOf (λ a. o ≡ Ok a) o
told (Ok a) = refl
told (Err e) = tt

and_true : (a b : Bool) → a ≡ true → b ≡ true → (a && b) ≡ true
and_true true true h k = refl
and_true a b h k = cc

pub never_both : (b : Bool) {A : Type 0} → b ≡ true → b ≡ false → A
never_both b h k = absurd (let bad : true ≡ false = sym h ∙ k in cc)

guarded_less : (fs : List Outline) (items : List Item) → has_invariants (top_scope fs) ≡ false → Guarded true fs items → Guarded false fs items
guarded_less fs [] e g = tt
guarded_less (f ∷ fs) (return o ∷ items) e g = ((λ h. never_both (has_invariants f.1) (second (is_entry_kind f.0) (has_invariants f.1) h) e), g.1)
  where
    second : (a b : Bool) → (a && b) ≡ true → b ≡ true
    second true true h = refl
    second a b h = cc
guarded_less [] (return o ∷ items) e g = ((λ h. (let bad : false ≡ true = h in cc)), g.1)
guarded_less fs (init_end m ∷ items) e g = ((λ h. never_both (has_invariants (top_scope fs)) h e), g.1)
guarded_less fs (statement_item t ∷ items) e g = ((λ h. go t h), g.1)
  where
    second : (a b : Bool) → (a && b) ≡ true → b ≡ true
    second true true h = refl
    second a b h = cc

    go : (t : Statement) → waits_checked (top_scope fs) t ≡ true → false ≡ true
    go (invoke at d es) h = never_both (has_invariants (top_scope fs)) (second (waits_meant (find (first_name d) (top_scope fs))) (has_invariants (top_scope fs)) h) e
    go t h = h
guarded_less fs (function_call at d es ∷ items) e g = g
guarded_less fs (start_item t ∷ items) e g = g
guarded_less fs (until ss x ∷ items) e g = g
guarded_less fs (successor at i z d last s ∷ items) e g = g
guarded_less fs (end ∷ items) e g = g

module _ (p : Program) (known : BlocksKnown p) (c : Call) (calls : List Call) (cs : List Component) (pid : ℕ) (of_block : IsOfBlock p cs c.component c.scope)
    (fresh : (x : Place) → ((component_at cs (component_there (record { program = p; calls = c ∷ calls; components = cs }) x)).kind ≡ system_kind.Process → ⊥) → entry_in (component_there (record { program = p; calls = c ∷ calls; components = cs }) x) (frames (c ∷ calls)) ≡ false) where
  abbrev v : View
  v = record { program = p; calls = c ∷ calls; components = cs }

  abbrev fs : List Frame
  fs = frames (c ∷ calls)

  abbrev os : List Outline
  os = outlines (c ∷ calls)

  abbrev n : ℕ
  n = c.component

  abbrev s : Scope
  s = c.scope

  abbrev Result : Doing → Type 0
  Result d = Steps p cs fs d

  -- ---- views with other values

  record Alike (u : View) : Type 0 where
    same_outlines : outlines u.calls ≡ os
    same_frames : frames u.calls ≡ fs
    same_status : (m : ℕ) → status_at u.components m ≡ status_at cs m

  alike : Alike v
  alike = record { same_outlines = refl; same_frames = refl; same_status = λ m. refl }

  alike_stored : (q : Place) (w : Value) → Alike (stored v q w)
  alike_stored q w = record { same_outlines = stored_outlines v q w; same_frames = stored_frames v q w; same_status = (stored_components v q w).status }

  plain : (u : View) (items : List Item) (move : Move) → Alike u → MoveChecked p fs u.components move → Guarded false os items → Result (with_move (with_items u items) move)
  plain u items move a m g =
      record {
        stands = inl (subst (λ x. Guarded false x items) (sym a.same_outlines) g);
        left = λ k h e. never_both (entry_in k fs) h (sym (ap (entry_in k) a.same_frames) ∙ e);
        ended = λ k h. inl (sym (a.same_status k) ∙ h);
        move = m;
      }

  goes_on : (u : View) (items : List Item) → Alike u → Guarded false os items → Result (with_items u items)
  goes_on u items a g = plain u items stays a tt g

  -- ---- what has been checked

  system_has : has_invariants s ≡ has_invariants (system_of p (component_at cs n).system).scope
  system_has = ap is_routine_meant of_block.found

  -- before an item that a check is asked of
  checked_now : (b : Bool) → (b ≡ true → InvariantsHold p cs n) → (has_invariants s ≡ true → b ≡ true) → InvariantsHold p cs n
  checked_now b holds h = go (has_invariants s) refl
    where
      go : (x : Bool) → has_invariants s ≡ x → InvariantsHold p cs n
      go true e = holds (h e)
      go false e = none_hold p cs n (sym system_has ∙ e)

  -- ---- calls

  local_steps : (r : RoutineMeaning) (o : Option Name) (items : List Item) (e : Environment) → Guarded false os items → Result (opened v n local_routine r o items e)
  local_steps r o items e g =
      record {
        stands = inl (routine_guarded local_routine r.scope r.body r.checks o os items (λ h. (let bad : local_routine ≡ entry_routine = h in absurd cc)) g);
        left = λ k h f. never_both (entry_in k fs) h f;
        ended = λ k h. inl h;
        move = tt;
      }

  false_right : (a b : Bool) → (a || b) ≡ false → b ≡ false
  false_right false b e = e
  false_right true b e = absurd (let bad : true ≡ false = e in cc)

  entry_steps : (d : ℕ) (r : RoutineMeaning) (o : Option Name) (items : List Item) (e : Environment) (move : Move) → r.checks ≡ true → MoveChecked p fs cs move → Guarded false os items → Result (with_move (opened v d entry_routine r o items e) move)
  entry_steps d r o items e move ok m g =
      record {
        stands = inl (routine_guarded entry_routine r.scope r.body r.checks o os items (λ h. ok) g);
        left = λ k h f. never_both (entry_in k fs) h (false_right (d == k) (entry_in k fs) f);
        ended = λ k h. inl h;
        move = m;
      }

  entered_steps : (k : SystemKind) (d : ℕ) → (component_at cs d).kind ≡ k → (((component_at cs d).kind ≡ system_kind.Process → ⊥) → entry_in d fs ≡ false) → (r : RoutineMeaning) (o : Option Name) (items : List Item) (e : Environment) → r.checks ≡ true → Guarded false os items → Result (entered_as k v d r o items e)
  entered_steps system_kind.Monitor d is new r o items e ok g = entry_steps d r o items e (enters d) ok (new (λ h. (let bad : system_kind.Monitor ≡ system_kind.Process = sym is ∙ h in cc))) g
  entered_steps system_kind.Class d is new r o items e ok g = entry_steps d r o items e stays ok tt g
  entered_steps system_kind.Process d is new r o items e ok g = goes_on v items alike g

  enter_steps : (x : Place) (r : RoutineMeaning) (o : Option Name) (es : Expressions) (items : List Item) → r.checks ≡ true → Guarded false os items → AllOf Result (entered v (component_there v x) r o es items)
  enter_steps x r o es items ok g =
      let d : ℕ = component_there v x in
      bind_all Result (bound v r.parameters es) _ (λ e. if_all Result (is_initialised (component_at cs d).status) _ _ (λ i. entered_steps (component_at cs d).kind d refl (fresh x) r o items e ok g) tt)

  other_steps : (m : Option Meaning) → IsOther m → (d : Designator) (r : RoutineMeaning) (o : Option Name) (es : Expressions) (items : List Item) → r.checks ≡ true → Guarded false os items → AllOf Result (called_as v m d (Some r) o es items)
  other_steps (Some (routine_meaning q)) h d r o es items ok g = absurd h
  other_steps (Some (constant_meaning b z)) h d r o es items ok g = bind_all Result (target_value v d) _ (λ t. enter_steps t.place r o es items ok g)
  other_steps (Some (type_meaning u)) h d r o es items ok g = bind_all Result (target_value v d) _ (λ t. enter_steps t.place r o es items ok g)
  other_steps (Some (local_variable u)) h d r o es items ok g = bind_all Result (target_value v d) _ (λ t. enter_steps t.place r o es items ok g)
  other_steps (Some (permanent_variable u)) h d r o es items ok g = bind_all Result (target_value v d) _ (λ t. enter_steps t.place r o es items ok g)
  other_steps (Some (standard_meaning f)) h d r o es items ok g = bind_all Result (target_value v d) _ (λ t. enter_steps t.place r o es items ok g)
  other_steps None h d r o es items ok g = bind_all Result (target_value v d) _ (λ t. enter_steps t.place r o es items ok g)

  called_steps : (m : Option Meaning) (d : Designator) (w : Option RoutineMeaning) (o : Option Name) (es : Expressions) (items : List Item) → (IsOther m → (r : RoutineMeaning) → w ≡ Some r → r.checks ≡ true) → Guarded false os items → AllOf Result (called_as v m d w o es items)
  called_steps m d None o es items h g = goes_on v items alike g
  called_steps (Some (routine_meaning q)) d (Some r) o es items h g = bind_all Result (bound v r.parameters es) _ (λ e. local_steps r o items e g)
  called_steps (Some (constant_meaning b z)) d (Some r) o es items h g = other_steps (Some (constant_meaning b z)) tt d r o es items (h tt r refl) g
  called_steps (Some (type_meaning u)) d (Some r) o es items h g = other_steps (Some (type_meaning u)) tt d r o es items (h tt r refl) g
  called_steps (Some (local_variable u)) d (Some r) o es items h g = other_steps (Some (local_variable u)) tt d r o es items (h tt r refl) g
  called_steps (Some (permanent_variable u)) d (Some r) o es items h g = other_steps (Some (permanent_variable u)) tt d r o es items (h tt r refl) g
  called_steps (Some (standard_meaning f)) d (Some r) o es items h g = other_steps (Some (standard_meaning f)) tt d r o es items (h tt r refl) g
  called_steps None d (Some r) o es items h g = other_steps None tt d r o es items (h tt r refl) g

  call_steps : (d : Designator) (es : Expressions) (o : Option Name) (items : List Item) → EntryChecked v d → Guarded false os items → AllOf Result (called v d es o items)
  call_steps d es o items h g = called_steps (meaning_here v d) d (routine_called p s d) o es items h g

  -- ---- starts

  initial_steps : (d : ℕ) (m : SystemMeaning) (items : List Item) (e : Environment) → Guarded false os items → Result (initial v d m items e)
  initial_steps d m items e g =
      record {
        stands = inl (initial_guarded m.scope m.body d os items g);
        left = λ k h f. never_both (entry_in k fs) h f;
        ended = λ k h. go k h (status_set cs d k initialising (e ++ (component_at cs d).environment));
        move = tt;
      }
    where
      go : (k : ℕ) → status_at (with_status cs d initialising (e ++ (component_at cs d).environment)) k ≡ initialised →
          ((k ≡ d) × (status_at (with_status cs d initialising (e ++ (component_at cs d).environment)) k ≡ initialising)) ⊎ ((k ≡ d → length cs ≤ d) × (status_at (with_status cs d initialising (e ++ (component_at cs d).environment)) k ≡ status_at cs k)) →
          (status_at cs k ≡ initialised) ⊎ InvariantsHold p (with_status cs d initialising (e ++ (component_at cs d).environment)) k
      go k h (inl x) = absurd (let bad : initialising ≡ initialised = sym x.1 ∙ h in cc)
      go k h (inr x) = inl (sym x.1 ∙ h)

  initialised_steps : (d : ℕ) (m : SystemMeaning) (items : List Item) (e : Environment) → Guarded false os items → AllOf Result (initialised_in v d m items e)
  initialised_steps d m items e g = if_all Result (is_uninitialised (component_at cs d).status) _ _ (λ u. initial_steps d m items e g) tt

  started_steps : (k : SystemKind) (d : ℕ) → (component_at cs d).kind ≡ k → (m : SystemMeaning) (items : List Item) (e : Environment) → Guarded false os items → AllOf Result (started_as k v d m items e)
  started_steps system_kind.Class d is m items e g = initialised_steps d m items e g
  started_steps system_kind.Monitor d is m items e g = initialised_steps d m items e g
  started_steps system_kind.Process d is m items e g = plain v items (starts d e) alike is g

  start_steps : (t : Start) (items : List Item) → Guarded false os items → AllOf Result (started v t items)
  start_steps t items g =
      bind_all Result (target_value v t.target) _ (λ u.
      bind_all Result (bound v (system_of p (component_at cs (component_there v u.place)).system).parameters t.arguments) _ (λ e. started_steps (component_at cs (component_there v u.place)).kind (component_there v u.place) refl (system_of p (component_at cs (component_there v u.place)).system) items e g))

  -- ---- statements that become others

  fits_before : (xs items : List Item) → Own false s xs → Guarded false os items → Guarded false os (xs ++ items)
  fits_before xs items h g = guarded_append false os xs items h g

  either : (b : Bool) (xs ys : List Item) → Guarded false os xs → Guarded false os ys → Guarded false os (if b then xs else ys)
  either true xs ys h k = h
  either false xs ys h k = k

  statement_before : (t : Statement) (items : List Item) → Guarded false os items → Guarded false os (items_of s t ++ items)
  statement_before t items g = fits_before (items_of s t) items (own_items s t) g

  two_before : (xs ys items : List Item) → Own false s xs → Own false s ys → Guarded false os items → Guarded false os (xs ++ ys ++ items)
  two_before xs ys items h k g = fits_before (xs ++ ys) items (own_append false s xs ys h k) g

  assigned_steps : (t : Target) (w : Value) (items : View → List Item) → ((u : View) → Guarded false os (items u)) → AllOf Result (assigned v t w >>= λ u. Ok (with_items u (items u)))
  assigned_steps t w items g = go (checked t.ty w)
    where
      go : (o : Outcome Value) → AllOf Result ((o >>= λ x. Ok (stored v t.place x)) >>= λ u. Ok (with_items u (items u)))
      go (Ok x) = goes_on (stored v t.place x) (items (stored v t.place x)) (alike_stored t.place x) (g (stored v t.place x))
      go (Err e) = tt

  next_steps : (at : ℕ) (i : Identifier) (z : ℤ) (d : Direction) (b : ℤ) (t : Statement) (items : List Item) → Guarded false os items → AllOf Result (goes_on_with v at i z d b t items)
  next_steps at i z d b t items g = assigned_steps (target_named v i.name) (number_value z) (λ u. items_of s t ++ successor at i z d b t ∷ items) (λ u. statement_before t (successor at i z d b t ∷ items) g)

  -- ---- `delay` and `continue`

  -- a queue that is put where a queue was
  module _ (q : Place) (w : Option ℕ) (there : (o : Option ℕ) × (value_at v q ≡ queue_value o)) (holds : InvariantsHold p cs n) where
    same_queue : environment_cleared (component_at cs n).environment ≡ environment_cleared (component_at (stored v q (queue_value w)).components n).environment
    same_queue = queue_same v q w n there.0 there.1

    still_hold : InvariantsHold p (stored v q (queue_value w)).components n
    still_hold = holds_kept p known cs (stored v q (queue_value w)).components n ((stored_components v q (queue_value w)).layout.system n) same_queue holds

  delay_steps : (b : Bool) → (b ≡ true → InvariantsHold p cs n) → (has_invariants s ≡ true → b ≡ true) → (es : Expressions) → QueueThere v (argument_of es) → (items : List Item) → Guarded false os items → AllOf Result (in_place_of v (argument_of es) (delayed_in v pid items) items)
  delay_steps b holds h es there items g = go (argument_of es) there
    where
      one : (q : Place) → ((o : Option ℕ) × (value_at v q ≡ queue_value o)) → Result (with_move (with_items (stored v q (queue_value (Some pid))) items) (delays n))
      one q t = plain (stored v q (queue_value (Some pid))) items (delays n) (alike_stored q (queue_value (Some pid))) (still_hold q (Some pid) t (checked_now b holds h)) g

      go : (o : Option Designator) → QueueThere v o → AllOf Result (in_place_of v o (delayed_in v pid items) items)
      go None t = goes_on v items alike g
      go (Some d) t = bind_known (λ x. target_value v d ≡ Ok x) Result (target_value v d) _ (told (target_value v d)) (λ x e. bind_all Result (queue_free (waiting_in (value_at v x.place))) _ (λ o. one x.place (t d refl x e)))

  continued_steps : (b : Bool) → (b ≡ true → InvariantsHold p cs n) → (has_invariants s ≡ true → b ≡ true) → (k : CallKind) → c.kind ≡ k → (q : Place) → ((o : Option ℕ) × (value_at v q ≡ queue_value o)) → (items : List Item) → ItemsFit fs items → (x : Bool) → Guarded x os items → Guarded false os items → Result (continued_from v k items q)
  continued_steps b holds h entry_routine e q t items fit x gx g =
      let u : View = stored v q (queue_value None) in
      let now : InvariantsHold p u.components n = still_hold q None t (checked_now b holds h) in
      record {
        stands = inl (subst (λ z. Guarded false z (after_return items)) (sym (callers_outlines u.calls ∙ ap outer_ones (stored_outlines v q (queue_value None)))) (guarded_after x n (c.kind, s) (outlines calls) (frames calls) items (subst (λ z. ItemsFit ((z, n) ∷ frames calls) items) e fit) gx));
        left = λ k' y z. left_here k' y (sym (ap (entry_in k') (frames-callers u.calls ∙ ap below (stored_frames v q (queue_value None)))) ∙ z) now;
        ended = λ k' y. inl (sym ((stored_components v q (queue_value None)).status k') ∙ y);
        move = (now, subst (λ z. Guarded false z items) (sym (stored_outlines v q (queue_value None))) g, stored_frames v q (queue_value None));
      }
    where
      left_here : (m : ℕ) → entry_in m fs ≡ true → entry_in m (frames calls) ≡ false → InvariantsHold p (stored v q (queue_value None)).components n → InvariantsHold p (stored v q (queue_value None)).components m
      left_here m y z now = go (or_cases (is_entry_kind c.kind && c.component == m) (entry_in m (frames calls)) y)
        where
          second : (a d : Bool) → (a && d) ≡ true → d ≡ true
          second true true w = refl
          second a d w = cc

          go : ((is_entry_kind c.kind && c.component == m) ≡ true) ⊎ (entry_in m (frames calls) ≡ true) → InvariantsHold p (stored v q (queue_value None)).components m
          go (inl w) = subst (InvariantsHold p (stored v q (queue_value None)).components) (eqb-true c.component m (second (is_entry_kind c.kind) (c.component == m) w)) now
          go (inr w) = never_both (entry_in m (frames calls)) w z
  continued_steps b holds h own_statement e q t items fit x gx g = goes_on v items alike g
  continued_steps b holds h initial_statement e q t items fit x gx g = goes_on v items alike g
  continued_steps b holds h local_routine e q t items fit x gx g = goes_on v items alike g

  continue_steps : (b : Bool) → (b ≡ true → InvariantsHold p cs n) → (has_invariants s ≡ true → b ≡ true) → (es : Expressions) → QueueThere v (argument_of es) → (items : List Item) → ItemsFit fs items → Guarded false os items → AllOf Result (in_place_of v (argument_of es) (λ q. Ok (continued_from v c.kind items q)) items)
  continue_steps b holds h es there items fit g = go (argument_of es) there
    where
      go : (o : Option Designator) → QueueThere v o → AllOf Result (in_place_of v o (λ q. Ok (continued_from v c.kind items q)) items)
      go None t = goes_on v items alike g
      go (Some d) t = bind_known (λ x. target_value v d ≡ Ok x) Result (target_value v d) _ (told (target_value v d)) (λ x e. continued_steps b holds h c.kind refl x.place (t d refl x e) items fit false g g)

  -- ---- calls as statements, but for checks

  invoke_steps : (b : Bool) → (b ≡ true → InvariantsHold p cs n) → (m : Option Meaning) → ((waits_meant m && has_invariants s) ≡ true → b ≡ true) → (d : Designator) (es : Expressions) → meaning_here v d ≡ m → EntryChecked v d → (waits_meant m ≡ true → QueueThere v (argument_of es)) → (items : List Item) → ItemsFit fs items → Guarded false os items →
      AllOf Result (invoked v pid m d es items)
  invoke_steps b holds (Some (standard_meaning delay_procedure)) h d es is entry queue items fit g = delay_steps b holds h es (queue refl) items g
  invoke_steps b holds (Some (standard_meaning continue_procedure)) h d es is entry queue items fit g = continue_steps b holds h es (queue refl) items fit g
  invoke_steps b holds (Some (standard_meaning display_procedure)) h d es is entry queue items fit g = bind_all Result (first_value v es) _ (λ x. plain v items _ alike tt g)
  invoke_steps b holds (Some (standard_meaning succ_function)) h d es is entry queue items fit g = call_steps d es None items entry g
  invoke_steps b holds (Some (standard_meaning pred_function)) h d es is entry queue items fit g = call_steps d es None items entry g
  invoke_steps b holds (Some (standard_meaning chr_function)) h d es is entry queue items fit g = call_steps d es None items entry g
  invoke_steps b holds (Some (standard_meaning ord_function)) h d es is entry queue items fit g = call_steps d es None items entry g
  invoke_steps b holds (Some (standard_meaning abs_function)) h d es is entry queue items fit g = call_steps d es None items entry g
  invoke_steps b holds (Some (standard_meaning empty_function)) h d es is entry queue items fit g = call_steps d es None items entry g
  invoke_steps b holds (Some (constant_meaning x z)) h d es is entry queue items fit g = call_steps d es None items entry g
  invoke_steps b holds (Some (type_meaning u)) h d es is entry queue items fit g = call_steps d es None items entry g
  invoke_steps b holds (Some (local_variable u)) h d es is entry queue items fit g = call_steps d es None items entry g
  invoke_steps b holds (Some (permanent_variable u)) h d es is entry queue items fit g = call_steps d es None items entry g
  invoke_steps b holds (Some (routine_meaning r)) h d es is entry queue items fit g = call_steps d es None items entry g
  invoke_steps b holds None h d es is entry queue items fit g = call_steps d es None items entry g

  -- ---- a check

  -- where there is no such routine, nothing is called
  no_check : (m : Option Meaning) (d : Designator) → is_routine_meant m ≡ false → (items : List Item) → Guarded false os items → meaning_here v d ≡ m → routine_called p s d ≡ routine_meant p s nameless m None → AllOf Result (invoked v pid m d no_expressions items)
  no_check (Some (routine_meaning r)) d h items g is meant = absurd (let bad : true ≡ false = h in cc)
  no_check (Some (standard_meaning delay_procedure)) d h items g is meant = goes_on v items alike g
  no_check (Some (standard_meaning continue_procedure)) d h items g is meant = goes_on v items alike g
  no_check (Some (standard_meaning display_procedure)) d h items g is meant = plain v items _ alike tt g
  no_check (Some (standard_meaning succ_function)) d h items g is meant = call_steps d no_expressions None items (λ o r e. absurd (let bad : None ≡ Some r = sym meant ∙ e in cc)) g
  no_check (Some (standard_meaning pred_function)) d h items g is meant = call_steps d no_expressions None items (λ o r e. absurd (let bad : None ≡ Some r = sym meant ∙ e in cc)) g
  no_check (Some (standard_meaning chr_function)) d h items g is meant = call_steps d no_expressions None items (λ o r e. absurd (let bad : None ≡ Some r = sym meant ∙ e in cc)) g
  no_check (Some (standard_meaning ord_function)) d h items g is meant = call_steps d no_expressions None items (λ o r e. absurd (let bad : None ≡ Some r = sym meant ∙ e in cc)) g
  no_check (Some (standard_meaning abs_function)) d h items g is meant = call_steps d no_expressions None items (λ o r e. absurd (let bad : None ≡ Some r = sym meant ∙ e in cc)) g
  no_check (Some (standard_meaning empty_function)) d h items g is meant = call_steps d no_expressions None items (λ o r e. absurd (let bad : None ≡ Some r = sym meant ∙ e in cc)) g
  no_check (Some (constant_meaning b z)) d h items g is meant = call_steps d no_expressions None items (λ o r e. absurd (let bad : None ≡ Some r = sym meant ∙ e in cc)) g
  no_check (Some (type_meaning u)) d h items g is meant = call_steps d no_expressions None items (λ o r e. absurd (let bad : None ≡ Some r = sym meant ∙ e in cc)) g
  no_check (Some (local_variable u)) d h items g is meant = call_steps d no_expressions None items (λ o r e. absurd (let bad : None ≡ Some r = sym meant ∙ e in cc)) g
  no_check (Some (permanent_variable u)) d h items g is meant = call_steps d no_expressions None items (λ o r e. absurd (let bad : None ≡ Some r = sym meant ∙ e in cc)) g
  no_check None d h items g is meant = call_steps d no_expressions None items (λ o r e. absurd (let bad : None ≡ Some r = sym meant ∙ e in cc)) g

  -- a routine without a name has no parameters, no variables and no result
  record IsBare (r : RoutineMeaning) : Type 0 where
    parameters : r.parameters ≡ []
    variables : r.variables ≡ []
    result : r.result ≡ None
    unchecked : r.checks ≡ false

  bare : (r : Routine) → (r.kind ≡ invariants) × IsNameless r → (from : Scope) → IsBare (routine_in from r)
  bare r h from = go r.kind r.parts h.0 h.1.no_parts
    where
      go : (k : RoutineKind) (ps : List Part) → k ≡ invariants → ps ≡ [] → IsBare (record { parameters = (heading_of from k).parameters; variables = (parts_in local_variable (record { variables = []; scope = (heading_of from k).scope }) ps).variables; result = result_of (heading_of from k).scope k; scope = (parts_in local_variable (record { variables = []; scope = (heading_of from k).scope }) ps).scope; body = r.body.statements; checks = r.is_entry })
      go invariants [] e f = record { parameters = refl; variables = refl; result = refl; unchecked = h.1.no_entry }
      go (procedure gs) ps e f = absurd (cc)
      go (function gs i) ps e f = absurd (cc)
      go invariants (x ∷ ps) e f = absurd (cc)

  ends_here : (es : List Expression) → es ++ [] ≡ es
  ends_here [] = refl
  ends_here (e ∷ es) = ap (λ z. e ∷ z) (ends_here es)

  module _ (r : Routine) (found : find nameless s ≡ Some (routine_meaning r)) (items : List Item) (after : Guarded true os items) where
    abbrev k : ℕ
    k = (component_at cs n).system

    abbrev rm : RoutineMeaning
    rm = routine_in (since nameless s) r

    says : (r.kind ≡ invariants) × IsNameless r
    says = subst SaysInvariants (sym of_block.found ∙ found) (known.routine k)

    its : IsBare rm
    its = bare r says (since nameless s)

    same : invariants_at p cs n ≡ record { scope = rm.scope; expressions = all_said rm.body }
    same = ap (invariants_meant (find nameless (system_of p k).scope)) (sym of_block.from) ∙ ap (λ m. invariants_meant m (since nameless s)) (sym of_block.found ∙ found)

    no_variables : [] ++ least_of rm.variables ++ least_result rm.result ≡ []
    no_variables = ap (λ vs. least_of vs ++ least_result rm.result) its.variables ∙ ap least_result its.result

    calls_are : (opened v n local_routine rm None items []).calls ≡ check_call n (invariants_at p cs n).scope ∷ c ∷ calls
    calls_are = ap (λ (e : Environment). (let z : Call = record { component = n; kind = local_routine; scope = rm.scope; environment = e } in z) ∷ c ∷ calls) no_variables ∙ ap (λ z. check_call n z ∷ c ∷ calls) (ap (λ i. i.scope) (sym same))

    first_said : (ss : Statements) → rm.body ≡ ss → SaysSome ss → SaysNext p cs n (items_of_all rm.scope ss ++ last_checks rm.checks rm.scope ++ return None ∷ items) items
    first_said (more_statements (asserted at a e t) no_statements) is h =
        let t0 : Statement = asserted at a e t in
        let expressions : (invariants_at p cs n).expressions ≡ said t0 = ap (λ i. i.expressions) same ∙ (ap all_said is ∙ ends_here (said t0)) in
        let quiet : AreQuiet (invariants_at p cs n).scope (said t0) = subst (AreQuiet (invariants_at p cs n).scope) expressions (known.quiet k) in
        let alone : expression_calls rm.scope e ≡ [] = ap (λ i. expression_calls i.scope e) (sym same) ∙ quiet.0 in
        inl (
          t0,
          h,
          quiet,
          (λ z. subst (AreTrueIn p cs n (invariants_at p cs n).scope) (sym expressions) z),
          ap (λ xs. ((xs ++ statement_item t0 ∷ []) ++ []) ++ last_checks rm.checks rm.scope ++ return None ∷ items) alone ∙ ap (λ b. (statement_item t0 ∷ []) ++ last_checks b rm.scope ++ return None ∷ items) its.unchecked,
        )
    first_said _ is h = absurd h

    check_opens : Result (opened v n local_routine rm None items [])
    check_opens =
        record {
          stands = inr (refl, inr (record { component = n; around = c ∷ calls; after = items; calls_are = calls_are; top = refl; guarded = after; next = first_said rm.body refl says.1.says }));
          left = λ m h f. never_both (entry_in m fs) h f;
          ended = λ m h. inl h;
          move = tt;
        }

    nothing_bound : (qs : List Parameter) → qs ≡ [] → bound v qs no_expressions ≡ Ok []
    nothing_bound [] e = refl
    nothing_bound (q ∷ qs) e = refl

    check_called : (d : Designator) → AllOf Result (called_as v (Some (routine_meaning r)) d (Some rm) None no_expressions items)
    check_called d = subst (λ o. AllOf Result (o >>= λ e. Ok (opened v n local_routine rm None items e))) (sym (nothing_bound rm.parameters its.parameters)) check_opens

  check_steps : (i : Identifier) → i.name ≡ nameless → (items : List Item) → Guarded true os items → AllOf Result (invoked v pid (meaning_here v (designator i no_selectors)) (designator i no_selectors) no_expressions items)
  check_steps i is items g = go (designator i no_selectors) refl (find nameless s) refl
    where
      here : (d : Designator) → d ≡ designator i no_selectors → (m : Option Meaning) → find nameless s ≡ m → meaning_here v d ≡ m
      here d f m e = ap (meaning_here v) f ∙ (ap (λ x. find x s) is ∙ e)

      meant : (d : Designator) → d ≡ designator i no_selectors → (m : Option Meaning) → find nameless s ≡ m → routine_called p s d ≡ routine_meant p s nameless m None
      meant d f m e = ap (routine_called p s) f ∙ (ap (λ x. routine_meant p s x (find x s) None) is ∙ ap (λ z. routine_meant p s nameless z None) e)

      other : (d : Designator) → d ≡ designator i no_selectors → (m : Option Meaning) → find nameless s ≡ m → is_routine_meant m ≡ false → AllOf Result (invoked v pid (meaning_here v d) d no_expressions items)
      other d f m e h = subst (λ z. AllOf Result (invoked v pid z d no_expressions items)) (sym (here d f m e)) (no_check m d h items (guarded_less os items (ap is_routine_meant e ∙ h) g) (here d f m e) (meant d f m e))

      go : (d : Designator) → d ≡ designator i no_selectors → (m : Option Meaning) → find nameless s ≡ m → AllOf Result (invoked v pid (meaning_here v d) d no_expressions items)
      go d f (Some (routine_meaning r)) e =
          subst (λ z. AllOf Result (invoked v pid z d no_expressions items)) (sym (here d f (Some (routine_meaning r)) e))
          (subst (λ z. AllOf Result (called_as v z d (routine_called p s d) None no_expressions items)) (sym (here d f (Some (routine_meaning r)) e))
          (subst (λ z. AllOf Result (called_as v (Some (routine_meaning r)) d z None no_expressions items)) (sym (meant d f (Some (routine_meaning r)) e)) (check_called r e items g d)))
      go d f (Some (constant_meaning b z)) e = other d f (Some (constant_meaning b z)) e refl
      go d f (Some (type_meaning u)) e = other d f (Some (type_meaning u)) e refl
      go d f (Some (local_variable u)) e = other d f (Some (local_variable u)) e refl
      go d f (Some (permanent_variable u)) e = other d f (Some (permanent_variable u)) e refl
      go d f (Some (standard_meaning z)) e = other d f (Some (standard_meaning z)) e refl
      go d f None e = other d f None e refl

  -- ---- statements

  -- a call as a statement, of which it is known whether it is a check
  call_statement : (b : Bool) → (b ≡ true → InvariantsHold p cs n) → (at : ℕ) (d : Designator) (es : Expressions) → (waits_checked s (invoke at d es) ≡ true → b ≡ true) → (x : Bool) → is_check (invoke at d es) ≡ x → EntryChecked v d → (waits_meant (meaning_here v d) ≡ true → QueueThere v (argument_of es)) →
      (items : List Item) → ItemsFit fs items → Guarded x os items → AllOf Result (invoked v pid (meaning_here v d) d es items)
  call_statement b holds at d es h false is entry queue items fit g = invoke_steps b holds (meaning_here v d) (waits_here d h) d es refl entry queue items fit g
    where
      waits_here : (d : Designator) → ((waits_meant (find (first_name d) s) && has_invariants s) ≡ true → b ≡ true) → (waits_meant (find (name_of d) s) && has_invariants s) ≡ true → b ≡ true
      waits_here (designator i ss) h = h
  call_statement b holds at (designator i no_selectors) no_expressions h true is entry queue items fit g = check_steps i (sym ((bytes_eq-Decides nameless i.name).0 is)) items g
  call_statement b holds at (designator i (more_selectors x ss)) es h true is entry queue items fit g = absurd (let bad : false ≡ true = is in cc)
  call_statement b holds at (designator i no_selectors) (more_expressions e es) h true is entry queue items fit g = absurd (let bad : false ≡ true = is in cc)

  does_steps : (b : Bool) → (b ≡ true → InvariantsHold p cs n) → (t : Statement) (items : List Item) → Asked v (statement_item t ∷ items) → ItemsFit fs items → Guarded b os (statement_item t ∷ items) → AllOf Result (does v pid t items)
  does_steps b holds (invoke at d es) items asked fit g = call_statement b holds at d es g.0 (is_check (invoke at d es)) refl asked.0 asked.1 items fit g.1
  does_steps b holds (empty at) items asked fit g = goes_on v items alike g.1
  does_steps b holds (assign at d e) items asked fit g = bind_all Result (value v e) _ (λ x. bind_all Result (target_value v d) _ (λ t. assigned_steps t x.value (λ u. items) (λ u. g.1)))
  does_steps b holds (block at ss) items asked fit g = goes_on v _ alike (fits_before (items_of_all s ss) items (own_all s ss) g.1)
  does_steps b holds (if_then at e t) items asked fit g = bind_all Result (value v e) _ (λ x. goes_on v _ alike (either (is_true x) _ _ (statement_before t items g.1) g.1))
  does_steps b holds (if_else at e t u) items asked fit g = bind_all Result (value v e) _ (λ x. goes_on v _ alike (either (is_true x) _ _ (statement_before t items g.1) (statement_before u items g.1)))
  does_steps b holds (case_of at e as' z) items asked fit g = bind_all Result (value v e) _ (λ x. bind_all Result (arm_for s (number_of x.value) as') _ (λ t. goes_on v _ alike (statement_before t items g.1)))
  does_steps b holds (while_do at e t) items asked fit g =
      bind_all Result (value v e) _ (λ x. goes_on v _ alike (either (is_true x) _ _ (two_before (items_of s t) (items_of s (while_do at e t)) items (own_items s t) (own_items s (while_do at e t)) g.1) g.1))
  does_steps b holds (repeat_until at ss e) items asked fit g = goes_on v _ alike (two_before (items_of_all s ss) (until_items s ss e) items (own_all s ss) (own_until s ss e) g.1)
  does_steps b holds (for_do at i e d f t) items asked fit g =
      bind_all Result (value v e) _ (λ x. bind_all Result (value v f) _ (λ y. if_all Result (is_beyond d (number_of x.value) (number_of y.value)) _ _ (λ h. goes_on v items alike g.1) (next_steps at i (number_of x.value) d (number_of y.value) t items g.1)))
  does_steps b holds (cycle at ss) items asked fit g = goes_on v _ alike (two_before (items_of_all s ss) (items_of s (cycle at ss)) items (own_all s ss) (own_items s (cycle at ss)) g.1)
  does_steps b holds (init at ts) items asked fit g = goes_on v items alike g.1
  does_steps b holds (asserted at a e t) items asked fit g = bind_all Result (value v e) _ (λ x. if_all Result (is_true x) _ _ (λ h. goes_on v _ alike (statement_before t items g.1)) tt)

  -- ---- ends of calls

  ended_outlines : (o : Option Name) → (outlines (with_result v o).calls ≡ outlines calls) × (frames (with_result v o).calls ≡ frames calls) × ((with_result v o).components ≡ cs)
  ended_outlines None = (refl, refl, refl)
  ended_outlines (Some x) = (stored_outlines (outer v) (plain_place (this_call (outer v)) x) _, stored_frames (outer v) (plain_place (this_call (outer v)) x) _, refl)

  second_true : (a d : Bool) → (a && d) ≡ true → d ≡ true
  second_true true true w = refl
  second_true a d w = cc

  first_true : (a d : Bool) → (a && d) ≡ true → a ≡ true
  first_true true true w = refl
  first_true a d w = cc

  return_quiet : MoveChecked p fs cs (return_move cs c)
  return_quiet = go (is_entry_kind c.kind)
    where
      by_kind : (k : SystemKind) → MoveChecked p fs cs (leaving_move k n)
      by_kind system_kind.Monitor = tt
      by_kind system_kind.Class = tt
      by_kind system_kind.Process = tt

      go : (b : Bool) → MoveChecked p fs cs (if b then leaving_move (component_at cs n).kind n else stays)
      go true = by_kind (component_at cs n).kind
      go false = tt

  returned_steps : (b : Bool) → (b ≡ true → InvariantsHold p cs n) → (o : Option Name) (items : List Item) → (ends_checked os ≡ true → b ≡ true) → Guarded false (outlines calls) items → Result (returned v o items)
  returned_steps b holds o items h g =
      let e = ended_outlines o in
      record {
        stands = inl (subst (λ z. Guarded false z items) (sym e.0) g);
        left = λ m y z. subst (λ ds. InvariantsHold p ds m) (sym e.2) (go m (or_cases (is_entry_kind c.kind && c.component == m) (entry_in m (frames calls)) y) (sym (ap (entry_in m) e.1) ∙ z));
        ended = λ m y. inl (sym (ap (λ ds. status_at ds m) e.2) ∙ y);
        move = subst (λ ds. MoveChecked p fs ds (return_move cs c)) (sym e.2) return_quiet;
      }
    where
      go : (m : ℕ) → ((is_entry_kind c.kind && c.component == m) ≡ true) ⊎ (entry_in m (frames calls) ≡ true) → entry_in m (frames calls) ≡ false → InvariantsHold p cs m
      go m (inl w) z = subst (InvariantsHold p cs) (eqb-true n m (second_true (is_entry_kind c.kind) (c.component == m) w)) (checked_now b holds (λ has. h (and_true (is_entry_kind c.kind) (has_invariants s) (first_true (is_entry_kind c.kind) (c.component == m) w) has)))
      go m (inr w) z = never_both (entry_in m (frames calls)) w z

  finished_steps : (b : Bool) → (b ≡ true → InvariantsHold p cs n) → (m : ℕ) (items : List Item) → (has_invariants s ≡ true → b ≡ true) → n ≡ m → c.kind ≡ initial_statement → Guarded false (outlines calls) items → Result (finished v m items)
  finished_steps b holds m items h of kind g =
      record {
        stands = inl g;
        left = λ k y z. absurd (go k (or_cases (is_entry_kind c.kind && c.component == k) (entry_in k (frames calls)) y) z);
        ended = λ k y. by k y (status_set cs m k initialised (component_at cs m).environment);
        move = tt;
      }
    where
      go : (k : ℕ) → ((is_entry_kind c.kind && c.component == k) ≡ true) ⊎ (entry_in k (frames calls) ≡ true) → entry_in k (frames calls) ≡ false → ⊥
      go k (inl w) z = never_both (is_entry_kind c.kind) (first_true (is_entry_kind c.kind) (c.component == k) w) (ap is_entry_kind kind)
      go k (inr w) z = never_both (entry_in k (frames calls)) w z

      same_variables : environment_cleared (component_at cs n).environment ≡ environment_cleared (component_at (with_status cs m initialised (component_at cs m).environment) n).environment
      same_variables = ap environment_cleared (sym (field_kept (λ x. x.environment) cs m _ refl n))

      by : (k : ℕ) → status_at (with_status cs m initialised (component_at cs m).environment) k ≡ initialised → ((k ≡ m) × (status_at (with_status cs m initialised (component_at cs m).environment) k ≡ initialised)) ⊎ ((k ≡ m → length cs ≤ m) × (status_at (with_status cs m initialised (component_at cs m).environment) k ≡ status_at cs k)) → (status_at cs k ≡ initialised) ⊎ InvariantsHold p (with_status cs m initialised (component_at cs m).environment) k
      by k y (inl x) = inr (subst (InvariantsHold p (with_status cs m initialised (component_at cs m).environment)) (of ∙ sym x.0) (holds_kept p known cs (with_status cs m initialised (component_at cs m).environment) n ((status_layout cs m initialised (component_at cs m).environment).system n) same_variables (checked_now b holds h)))
      by k y (inr x) = inl (sym x.1 ∙ y)

  -- ---- items

  top_starts : (m : ℕ) (k : CallKind) (x : ℕ) (gs : List Frame) → TopStarts m ((k, x) ∷ gs) → (x ≡ m) × (k ≡ initial_statement)
  top_starts m initial_statement x gs h = (h, refl)
  top_starts m local_routine x gs h = absurd h
  top_starts m entry_routine x gs h = absurd h
  top_starts m own_statement x gs h = absurd h

  pub takes_steps : (b : Bool) → (b ≡ true → InvariantsHold p cs n) → (items : List Item) → Asked v items → ItemsFit fs items → Guarded b os items → AllOf Result (takes v pid items)
  takes_steps b holds [] asked fit g = goes_on v [] alike tt
  takes_steps b holds (statement_item t ∷ items) asked fit g = does_steps b holds t items asked fit g
  takes_steps b holds (function_call at d es ∷ items) asked fit g = call_steps d es (Some (temporary at)) items asked g
  takes_steps b holds (start_item t ∷ items) asked fit g = start_steps t items g
  takes_steps b holds (until ss e ∷ items) asked fit g =
      bind_all Result (value v e) _ (λ x. goes_on v _ alike (either (is_true x) _ _ g (two_before (items_of_all s ss) (until_items s ss e) items (own_all s ss) (own_until s ss e) g)))
  takes_steps b holds (successor at i z d last t ∷ items) asked fit g = if_all Result (same_integer z last) _ _ (λ h. goes_on v items alike g) (next_steps at i (next_value d z) d last t items g)
  takes_steps b holds (return o ∷ items) asked fit g = returned_steps b holds o items g.0 g.1
  takes_steps b holds (init_end m ∷ items) asked fit g = (let t = top_starts m c.kind n (frames calls) fit.0 in finished_steps b holds m items g.0 t.0 t.1 g.1)
  takes_steps b holds (end ∷ items) asked fit g = plain v items ends alike tt g
