-- A step changes the variables of a component only where an open call of the process is of that component, or where it is started.
use Rattle.std.proofs.Common.{◌≡◌, ℕ, ◌-◌, ◌==◌, ◌∙◌, ◌⊎◌, inl, inr, ℤ, Bool, true, false, if◌then◌else◌, List, [], ◌∷◌, ◌++◌, length, Option, Some, None, Ok, Err, ap, sym, refl, subst, arith, eq-eqb}
use Rattle.cp_tree.specs.declared.declaration.SystemKind.{SystemKind}
use Rattle.cp_tree.specs.declared.declaration.SystemKind.TheVariants as system_kind
use Rattle.cp_tree.specs.Syntax.{Expression, Expressions, more_expressions, Designator, designator, Selectors, no_selectors, more_selectors, Selector, field, index, Program}
use Rattle.cp_meaning.specs.Names.{Name, same_name, result_name}
use Rattle.cp_meaning.specs.Outcome.{ErrorName, ◌>>=◌}
use Rattle.cp_meaning.specs.Types.{Ty, array_over, component_of, is_within}
use Rattle.cp_meaning.specs.Values.{Value, number_of, queue_value}
use Rattle.cp_meaning.specs.Scopes.{Meaning, local_variable, permanent_variable, find}
use Rattle.cp_meaning.specs.Systems.{SystemMeaning, system_of}
use Rattle.cp_meaning.specs.Move.{Move, stays, enters, leaves, delays, continues, starts, shows, ends, Doing}
use Rattle.cp_meaning.specs.Declarations.{Parameter, RoutineMeaning}
use Rattle.cp_meaning.specs.State.{Holder, in_call, in_component, Place, Content, holds, refers, knows, Environment, ComponentStatus, uninitialised, initialising, initialised, Component, component_at, CallKind, initial_statement, local_routine, entry_routine, own_statement, Call, callers, Item, is_entry_kind}
use Rattle.cp_meaning.specs.Places.{View, Target, content_of, with_content, with_permanents, call_above, with_environment, with_call_environment, environment_of, with_environment_of, this_call, plain_place, referred, target_meant, target_named, value_at, stored, component_there}
use Rattle.cp_meaning.specs.Operations.{checked}
use Rattle.cp_meaning.specs.Expressions.{value, target_value, selected, chosen, with_element_of, variable_in}
use Rattle.cp_meaning.specs.Calls.{refers_to, of_system, knows_of, bound_variable, bound_value, bound_argument, bound, least_of, least_result, opened, is_uninitialised, entered_as, with_move, with_items, with_status, initialised_in, started_as}
use Rattle.cp_meaning.specs.LocalRules.{continued_from, outer, leaving_move, return_move, returned, finished, takes}
use Rattle.cp_meaning.proofs.Frames.{Frame, frames}
use Rattle.cp_meaning.proofs.Good.{status_at}
use Rattle.cp_meaning.proofs.Stored.{frames_kept, stored_frames}
use Rattle.cp_meaning.proofs.LocalLaw.{uninitialised_told}
use Rattle.cp_meaning.proofs.Held.{permanents_at, permanents_set, kept_content, cons_content, append_content, least_values, least_result_value}
use Rattle.cp_meaning.proofs.Taken.{AllOf, whatever, bind_known, bind_all, if_all, Rules, takes_all}

-- ---- places in what is open

-- an open call is of component n
abbrev pub IsOpenIn : ℕ → List Frame → Type 0
IsOpenIn n [] = ⊥
IsOpenIn n (f ∷ fs) = (f.1 ≡ n) ⊎ IsOpenIn n fs

abbrev pub IsWithin : List Frame → Holder → Type 0
IsWithin fs (in_call b) = Unit {0}
IsWithin fs (in_component n) = IsOpenIn n fs

abbrev pub RefersWithin : List Frame → Environment → Type 0
RefersWithin fs e = (x : Name) (q : Place) → content_of x e ≡ Some (refers q) → IsWithin fs q.holder

-- what the `var` parameters of open calls refer to is in an open call, or in a component of a call further down
abbrev pub CallsWithin : List Call → Type 0
CallsWithin [] = Unit {0}
CallsWithin (c ∷ cs) = RefersWithin (frames cs) c.environment × CallsWithin cs

within_more : (f : Frame) (fs : List Frame) (h : Holder) → IsWithin fs h → IsWithin (f ∷ fs) h
within_more f fs (in_call b) k = tt
within_more f fs (in_component n) k = inr k

env_within : (cs : List Call) (b : ℕ) (e : Environment) → ((x : Name) (q : Place) → content_of x e ≡ Some (refers q) → content_of x (call_above cs b).environment ≡ Some (refers q)) → CallsWithin cs → CallsWithin (with_call_environment cs b e)
env_within [] b e h k = tt
env_within (c ∷ cs) b e h k = go (length cs == b) h (λ f. env_within cs b e f k.1)
  where
    go : (t : Bool) → ((x : Name) (q : Place) → content_of x e ≡ Some (refers q) → content_of x (if t then c else call_above cs b).environment ≡ Some (refers q)) →
        (((x : Name) (q : Place) → content_of x e ≡ Some (refers q) → content_of x (call_above cs b).environment ≡ Some (refers q)) → CallsWithin (with_call_environment cs b e)) →
        CallsWithin (if t then with_environment c e ∷ cs else c ∷ with_call_environment cs b e)
    go true f rest = ((λ x q s. k.0 x q (f x q s)), k.1)
    go false f rest = (subst (λ fs. RefersWithin fs c.environment) (sym (frames_kept cs b e)) k.0, rest f)

holder_within : (v : View) (h : Holder) (y : Name) (w : Value) → CallsWithin v.calls → CallsWithin (with_environment_of v h (with_content y (holds w) (environment_of v h))).calls
holder_within v (in_call b) y w k = env_within v.calls b (with_content y (holds w) (call_above v.calls b).environment) (λ x q s. kept_content x y w (call_above v.calls b).environment (refers q) (λ z. z) s) k
holder_within v (in_component n) y w k = k

stored_within : (v : View) (q : Place) (w : Value) → CallsWithin v.calls → CallsWithin (stored v q w).calls
stored_within v q w k = holder_within v q.holder q.name _ k

callers_within : (ks : List Call) → CallsWithin ks → CallsWithin (callers ks)
callers_within [] h = tt
callers_within (k ∷ ks) h = h.1

-- the open calls of a caller that goes on
abbrev pub MoveWithin : Move → Type 0
MoveWithin (continues n o calls items) = CallsWithin calls
MoveWithin stays = Unit {0}
MoveWithin (enters n) = Unit {0}
MoveWithin (leaves n) = Unit {0}
MoveWithin (delays n) = Unit {0}
MoveWithin (starts c e) = Unit {0}
MoveWithin (shows x) = Unit {0}
MoveWithin ends = Unit {0}

-- each component has its variables, but one of an open call, and one that was not initialised
abbrev pub Unchanged : List Component → List Frame → List Component → Type 0
Unchanged cs fs ds = (n : ℕ) → (permanents_at ds n ≡ permanents_at cs n) ⊎ (IsOpenIn n fs ⊎ (status_at cs n ≡ uninitialised))

pub record Changes (cs : List Component) (fs : List Frame) (d : Doing) : Type 0 where
  pub unchanged : Unchanged cs fs d.components
  pub within : CallsWithin d.calls
  pub move : MoveWithin d.move

module _ (p : Program) (c : Call) (calls : List Call) (cs : List Component) (pid : ℕ) (held : CallsWithin (c ∷ calls)) where
  abbrev v : View
  v = record { program = p; calls = c ∷ calls; components = cs }

  abbrev fs : List Frame
  fs = frames (c ∷ calls)

  abbrev Result : Doing → Type 0
  Result d = Changes cs fs d

  record Alike (u : View) : Type 0 where
    unchanged : Unchanged cs fs u.components
    within : CallsWithin u.calls
    same : frames u.calls ≡ fs

  nothing : Unchanged cs fs cs
  nothing n = inl refl

  alike : Alike v
  alike = record { unchanged = nothing; within = held; same = refl }

  changed_in : (h : Holder) (e : Environment) → IsWithin fs h → Unchanged cs fs (with_environment_of v h e).components
  changed_in (in_call b) e k n = inl refl
  changed_in (in_component m) e k n = go (permanents_set cs m n _)
    where
      go : ((n ≡ m) × (permanents_at (with_permanents cs m e) n ≡ e)) ⊎ (permanents_at (with_permanents cs m e) n ≡ permanents_at cs n) →
          (permanents_at (with_permanents cs m e) n ≡ permanents_at cs n) ⊎ (IsOpenIn n fs ⊎ (status_at cs n ≡ uninitialised))
      go (inl h) = inr (inl (subst (λ j. IsOpenIn j fs) (sym h.0) k))
      go (inr h) = inl h

  alike_stored : (q : Place) (w : Value) → IsWithin fs q.holder → Alike (stored v q w)
  alike_stored q w k = record { unchanged = changed_in q.holder _ k; within = stored_within v q w held; same = stored_frames v q w }

  items_change : (u : View) (items : List Item) (move : Move) → Alike u → MoveWithin move → Result (with_move (with_items u items) move)
  items_change u items move a m = record { unchanged = a.unchanged; within = a.within; move = m }

  -- ---- places

  this_is : call_above (c ∷ calls) (length (c ∷ calls) - 1) ≡ c
  this_is = rw (eq-eqb (length calls) (length (c ∷ calls) - 1) (omega arith)) refl

  referred_near : (o : Option Content) (x : Name) → content_of x c.environment ≡ o → IsWithin fs (referred o (plain_place (this_call v) x)).holder
  referred_near (Some (refers q)) x e = within_more (c.kind, c.component) (frames calls) q.holder (held.0 x q e)
  referred_near _ x e = tt

  meant_near : (x : Name) (m : Option Meaning) → IsWithin fs (target_meant v x m).place.holder
  meant_near x (Some (permanent_variable t)) = inl refl
  meant_near x (Some (local_variable t)) = referred_near (content_of x (environment_of v (this_call v))) x (ap (λ k. content_of x k.environment) (sym this_is))
  meant_near x _ = tt

  abbrev NearTarget : Target → Type 0
  NearTarget t = IsWithin fs t.place.holder

  target_if : (b : Bool) (t : Target) (e : ErrorName) → NearTarget t → AllOf NearTarget (if b then Ok t else Err e)
  target_if true t e h = h
  target_if false t e h = tt

  element_near : (u : Ty) (t : Target) (z : ℤ) → NearTarget t → AllOf NearTarget (with_element_of u t z)
  element_near (array_over r u) t z h = target_if (is_within r z) _ _ h
  element_near _ t z h = h

  chosen_near : (s : Selector) (t : Target) → NearTarget t → AllOf NearTarget (chosen v s t)
  chosen_near (field i) t h = h
  chosen_near (index e) t h = bind_all NearTarget (value v e) _ (λ x. element_near t.ty t (number_of x.value) h)

  selected_near : (ss : Selectors) (t : Target) → NearTarget t → AllOf NearTarget (selected v ss t)
  selected_near no_selectors t h = h
  selected_near (more_selectors s ss) t h = bind_known NearTarget NearTarget (chosen v s t) _ (chosen_near s t h) (λ u k. selected_near ss u k)

  target_near : (d : Designator) → AllOf NearTarget (target_value v d)
  target_near (designator i ss) = selected_near ss (target_named v i.name) (meant_near i.name (find i.name c.scope))

  -- ---- arguments

  abbrev ContentNear : Content → Type 0
  ContentNear (refers q) = IsWithin fs q.holder
  ContentNear (holds w) = Unit {0}
  ContentNear (knows n) = Unit {0}

  argument_near : (q : Parameter) (e : Expression) → AllOf ContentNear (bound_argument v q e)
  argument_near q e = go q.is_var
    where
      variable : (o : Option Designator) → AllOf ContentNear (bound_variable v refers_to o)
      variable None = tt
      variable (Some d) = bind_known NearTarget ContentNear (target_value v d) (λ t. Ok (refers t.place)) (target_near d) (λ t h. h)

      component : (k : ℕ) → (o : Option Designator) → AllOf ContentNear (bound_variable v (knows_of v k) o)
      component k None = tt
      component k (Some d) = bind_all ContentNear (target_value v d) (λ t. Ok (knows (of_system v k (component_there v t.place)))) (λ t. tt)

      by_type : (t : Ty) → AllOf ContentNear (bound_value v t e)
      by_type (component_of k) = component k (variable_in e)
      by_type t = bind_all ContentNear (value v e) (λ x. checked t x.value >>= λ w. Ok (holds w)) (λ x. bind_all ContentNear (checked t x.value) (λ w. Ok (holds w)) (λ w. tt))

      go : (b : Bool) → AllOf ContentNear (if b then bound_variable v refers_to (variable_in e) else bound_value v q.ty e)
      go true = variable (variable_in e)
      go false = by_type q.ty

  no_content : (x : Name) (k : Content) {A : Type 0} → content_of x [] ≡ Some k → A
  no_content x k h = absurd (let bad : None ≡ Some k = h in cc)

  refers_cons : (y : Name) (k : Content) (e : Environment) → ContentNear k → RefersWithin fs e → RefersWithin fs ((y, k) ∷ e)
  refers_cons y k e h r x q s = go (cons_content x (y, k) e (refers q) s)
    where
      go : ((same_name x y ≡ true) × (k ≡ refers q)) ⊎ ((same_name x y ≡ false) × (content_of x e ≡ Some (refers q))) → IsWithin fs q.holder
      go (inl t) = subst ContentNear t.1 h
      go (inr t) = r x q t.1

  bound_near : (qs : List Parameter) (es : Expressions) → AllOf (RefersWithin fs) (bound v qs es)
  bound_near (q ∷ qs) (more_expressions e es) =
      bind_known ContentNear (RefersWithin fs) (bound_argument v q e) _ (argument_near q e) (λ k a. bind_known (RefersWithin fs) (RefersWithin fs) (bound v qs es) _ (bound_near qs es) (λ rest b. refers_cons q.name k rest a b))
  bound_near _ _ = λ x q h. no_content x (refers q) h

  -- ---- calls

  opened_near : (d : ℕ) (kind : CallKind) (r : RoutineMeaning) (o : Option Name) (items : List Item) (e : Environment) (move : Move) → RefersWithin fs e → MoveWithin move → Result (with_move (opened v d kind r o items e) move)
  opened_near d kind r o items e move h m =
      record { unchanged = nothing; within = ((λ x q s. refers_there x q (append_content x (e ++ least_of r.variables) (least_result r.result) (refers q) s)), held); move = m }
    where
      first_there : (x : Name) (q : Place) → (content_of x e ≡ Some (refers q)) ⊎ (content_of x (least_of r.variables) ≡ Some (refers q)) → IsWithin fs q.holder
      first_there x q (inl k) = h x q k
      first_there x q (inr k) = absurd (least_values x r.variables (refers q) k)

      refers_there : (x : Name) (q : Place) → (content_of x (e ++ least_of r.variables) ≡ Some (refers q)) ⊎ (content_of x (least_result r.result) ≡ Some (refers q)) → IsWithin fs q.holder
      refers_there x q (inl k) = first_there x q (append_content x e (least_of r.variables) (refers q) k)
      refers_there x q (inr k) = absurd (least_result_value x r.result (refers q) k)

  entered_near : (k : SystemKind) (d : ℕ) (r : RoutineMeaning) (o : Option Name) (items : List Item) (e : Environment) → RefersWithin fs e → Result (entered_as k v d r o items e)
  entered_near system_kind.Monitor d r o items e h = opened_near d entry_routine r o items e (enters d) h tt
  entered_near system_kind.Class d r o items e h = opened_near d entry_routine r o items e stays h tt
  entered_near system_kind.Process d r o items e h = items_change v items stays alike tt

  -- ---- starts

  status_unchanged : (d : ℕ) (u : ComponentStatus) (e : Environment) → (status_at cs d ≡ uninitialised) ⊎ (e ≡ permanents_at cs d) → Unchanged cs fs (with_status cs d u e)
  status_unchanged d u e h n = go (permanents_set cs d n _) h
    where
      go : ((n ≡ d) × (permanents_at (with_status cs d u e) n ≡ e)) ⊎ (permanents_at (with_status cs d u e) n ≡ permanents_at cs n) → (status_at cs d ≡ uninitialised) ⊎ (e ≡ permanents_at cs d) →
          (permanents_at (with_status cs d u e) n ≡ permanents_at cs n) ⊎ (IsOpenIn n fs ⊎ (status_at cs n ≡ uninitialised))
      go (inr k) h = inl k
      go (inl k) (inl free) = inr (inr (ap (status_at cs) k.0 ∙ free))
      go (inl k) (inr same) = inl (k.1 ∙ (same ∙ ap (permanents_at cs) (sym k.0)))

  initialised_near : (d : ℕ) (m : SystemMeaning) (items : List Item) (e : Environment) → AllOf Result (initialised_in v d m items e)
  initialised_near d m items e =
      if_all Result (is_uninitialised (status_at cs d)) _ _ (λ u. record { unchanged = status_unchanged d initialising (e ++ permanents_at cs d) (inl (uninitialised_told (status_at cs d) u)); within = ((λ x q s. no_content x (refers q) s), held); move = tt }) tt

  started_near : (k : SystemKind) (d : ℕ) (m : SystemMeaning) (items : List Item) (e : Environment) → AllOf Result (started_as k v d m items e)
  started_near system_kind.Class d m items e = initialised_near d m items e
  started_near system_kind.Monitor d m items e = initialised_near d m items e
  started_near system_kind.Process d m items e = items_change v items (starts d e) alike tt

  -- ---- ends of calls

  leaving_near : (k : SystemKind) (m : ℕ) → MoveWithin (leaving_move k m)
  leaving_near system_kind.Monitor m = tt
  leaving_near system_kind.Class m = tt
  leaving_near system_kind.Process m = tt

  back_near : MoveWithin (return_move cs c)
  back_near = go (is_entry_kind c.kind)
    where
      go : (b : Bool) → MoveWithin (if b then leaving_move (component_at cs c.component).kind c.component else stays)
      go true = leaving_near (component_at cs c.component).kind c.component
      go false = tt

  returned_near : (o : Option Name) (items : List Item) → Result (returned v o items)
  returned_near None items = record { unchanged = nothing; within = held.1; move = back_near }
  returned_near (Some x) items = record { unchanged = nothing; within = stored_within (outer v) (plain_place (this_call (outer v)) x) (value_at v (plain_place (this_call v) result_name)) held.1; move = back_near }

  continued_near : (k : CallKind) (items : List Item) (q : Place) → IsWithin fs q.holder → Result (continued_from v k items q)
  continued_near entry_routine items q h =
      let a = alike_stored q (queue_value None) h in
      record { unchanged = a.unchanged; within = callers_within (stored v q (queue_value None)).calls a.within; move = a.within }
  continued_near own_statement items q h = items_change v items stays alike tt
  continued_near initial_statement items q h = items_change v items stays alike tt
  continued_near local_routine items q h = items_change v items stays alike tt

  finished_near : (m : ℕ) (items : List Item) → Result (finished v m items)
  finished_near m items = record { unchanged = status_unchanged m initialised (permanents_at cs m) (inr refl); within = held.1; move = tt }

  -- ---- items

  rules : Rules p (c ∷ calls) cs pid Result Alike (λ items. Unit {0}) (λ q. IsWithin fs q.holder) (RefersWithin fs) (λ k e. Unit {0})
  rules =
      record {
        near = target_near;
        named = λ i. meant_near i.name (find i.name c.scope);
        arguments = bound_near;
        handed = λ k es. whatever (bound v (system_of p k).parameters es);
        plain = λ xs items h f. tt;
        rest = λ i items h f. tt;
        as_it_is = alike;
        stores = alike_stored;
        goes_on = λ u items a f. items_change u items stays a tt;
        ended = λ items f. items_change v items ends alike tt;
        shows = λ items x f. items_change v items _ alike tt;
        opens = λ r o items e h f. opened_near c.component local_routine r o items e stays h tt;
        enters = λ q r o items e n h i f. entered_near (component_at cs (component_there v q)).kind (component_there v q) r o items e h;
        starts = λ q items e n h f. started_near (component_at cs (component_there v q)).kind (component_there v q) (system_of p (component_at cs (component_there v q)).system) items e;
        waits = λ q items n f. items_change (stored v q (queue_value (Some pid))) items (delays c.component) (alike_stored q (queue_value (Some pid)) n) tt;
        continues = λ q items n f. continued_near c.kind items q n;
        returns = λ o items f. returned_near o items;
        finishes = λ m items f. finished_near m items;
      }

  pub takes_changes : (items : List Item) → AllOf Result (takes v pid items)
  takes_changes items = takes_all p (c ∷ calls) cs pid Result Alike (λ items. Unit {0}) (λ q. IsWithin fs q.holder) (RefersWithin fs) (λ k e. Unit {0}) rules items tt
