-- Each local rule keeps what is held.
use Rattle.std.proofs.Common.{pos, ◌≡◌, ℕ, ◌<◌, ◌-◌, ◌==◌, ◌∙◌, ◌⊎◌, inl, inr, ℤ, Bool, true, false, if◌then◌else◌, List, [], ◌∷◌, ◌++◌, length, Option, Some, None, Ok, Err, ap, sym, refl, subst, arith, eqb-true, eq-eqb}
use Rattle.cp_meaning.proofs.Words.{SystemKind, SystemMeaning, system_of, owner_of, Value, queue_value}
use Rattle.cp_meaning.proofs.Words.{number_of, number_value, step_down, Move, stays, enters, leaves, delays, continues, starts, shows, ends, Doing, HasNoClass, HasEarlier}
use Rattle.cp_tree.specs.declared.declaration.SystemKind.TheVariants as system_kind
use Rattle.cp_tree.specs.Syntax.{Expression, Expressions, more_expressions, Designator, designator, Selectors, no_selectors, more_selectors, Selector, field, index, Program}
use Rattle.cp_meaning.specs.Names.{Name, same_name, result_name}
use Rattle.cp_meaning.specs.Outcome.{ErrorName, Outcome, ◌>>=◌}
use Rattle.cp_meaning.specs.Types.{Ty, array_over, component_of, is_within}
use Rattle.cp_meaning.specs.Scopes.{Meaning, local_variable, permanent_variable, find}
use Rattle.cp_meaning.specs.Declarations.{Parameter, RoutineMeaning}
use Rattle.cp_meaning.specs.State.{Holder, in_call, in_component, Place, Content, holds, refers, knows, Environment, uninitialised, initialising, initialised, Component, component_at, CallKind, initial_statement, local_routine, entry_routine, Call, callers, Item}
use Rattle.cp_meaning.specs.Places.{View, Target, content_of, call_above, environment_of, this_call, plain_place, referred, target_meant, target_named, value_at, stored, component_with, element_chosen, around_of, component_known, component_by, component_there}
use Rattle.cp_meaning.specs.Operations.{checked}
use Rattle.cp_meaning.specs.Expressions.{value, target_value, selected, chosen, with_element_of, variable_in}
use Rattle.cp_meaning.specs.Calls.{refers_to, of_system, knows_of, bound_variable, bound_value, bound_argument, bound, least_of, least_result, opened, is_uninitialised, entered_as, with_move, with_items, with_status, initial, initialised_in, started_as}
use Rattle.cp_meaning.specs.LocalRules.{continued_from, outer, return_move, returned, finished, takes}
use Rattle.cp_meaning.proofs.Frames.{Frame, frames, frames-callers, below, system_at}
use Rattle.cp_meaning.proofs.Good.{status_at}
use Rattle.cp_meaning.proofs.Stored.{stored_frames}
use Rattle.cp_meaning.proofs.LocalLaw.{within}
use Rattle.cp_meaning.proofs.ComponentTree.{path_at, kind_at, SameTree, tree_after, set_tree, own_owner, Distinct, contained_owner, ContainedEarlier, contained_below}
use Rattle.cp_meaning.proofs.Held.{HeldBy, HeldPlace, RefersHeld, HeldCalls, Bottom, permanents_at, ClassesKnown, held_more, place_more, held_alike, length-frames, kind_past, IsValue, cons_content, append_content, least_values, least_result_value, stored_held, EarlierKnown, known_set, stored_known, stored_tree}
use Rattle.cp_meaning.proofs.Taken.{AllOf, bind_known, bind_all, if_all, Rules, takes_all}

-- what a started process is given: components that it may know; the open calls of a caller that goes on
abbrev pub MoveOwned : List Component → (me : ℕ) → Move → Type 0
MoveOwned base me (starts c e) =
    c < length base → (d : ℕ) (x : Name) → content_of x e ≡ Some (knows d) →
    (kind_at base d ≡ system_kind.Class → owner_of base d ≡ owner_of base c) × ((kind_at base d ≡ system_kind.Process → ⊥) → system_at base d < system_at base c)
MoveOwned base me stays = Unit {0}
MoveOwned base me (enters n) = Unit {0}
MoveOwned base me (leaves n) = Unit {0}
MoveOwned base me (delays n) = Unit {0}
MoveOwned base me (continues n o calls items) = HeldCalls base me calls × Bottom me (frames calls)
MoveOwned base me (shows x) = Unit {0}
MoveOwned base me ends = Unit {0}

pub record Owned (base : List Component) (me : ℕ) (calls : List Call) (ds : List Component) (move : Move) : Type 0 where
  pub tree : SameTree base ds
  pub held : HeldCalls base me calls
  pub bottom : Bottom me (frames calls)
  pub classes : ClassesKnown base ds
  pub earlier : EarlierKnown base ds
  pub starting : MoveOwned base me move

abbrev pub OwnedBy : List Component → ℕ → Outcome Doing → Type 0
OwnedBy base me o = AllOf (λ (d : Doing). Owned base me d.calls d.components d.move) o

module _ (p : Program) (c : Call) (calls : List Call) (cs : List Component) (pid me : ℕ) (base : List Component) (tree : SameTree base cs) (distinct : Distinct base)
    (kinds : (n : ℕ) → n < length base → kind_at base n ≡ (system_of p (component_at base n).system).kind)
    (class_parameters : (k : ℕ) → ((system_of p k).kind ≡ system_kind.Class → ⊥) → HasNoClass p (system_of p k).parameters)
    (contained : ContainedEarlier base) (parameters_earlier : (k : ℕ) → HasEarlier k (system_of p k).parameters) (earlier : EarlierKnown base cs)
    (held : HeldCalls base me (c ∷ calls)) (bottom : Bottom me (frames (c ∷ calls))) (classes : ClassesKnown base cs) where
  abbrev v : View
  v = record { program = p; calls = c ∷ calls; components = cs }

  abbrev fs : List Frame
  fs = frames (c ∷ calls)

  abbrev OwnedDoing : Doing → Type 0
  OwnedDoing d = Owned base me d.calls d.components d.move

  abbrev OwnedOutcome : Outcome Doing → Type 0
  OwnedOutcome o = OwnedBy base me o

  -- ---- views with other values

  record Alike (u : View) : Type 0 where
    same_frames : frames u.calls ≡ fs
    still : SameTree base u.components
    still_held : HeldCalls base me u.calls
    still_known : ClassesKnown base u.components
    still_earlier : EarlierKnown base u.components

  alike : Alike v
  alike = record { same_frames = refl; still = tree; still_held = held; still_known = classes; still_earlier = earlier }

  alike_stored : (q : Place) (w : Value) → HeldPlace base me fs q.holder → Alike (stored v q w)
  alike_stored q w h =
      record {
        same_frames = stored_frames v q w;
        still = tree_after base cs (stored v q w).components tree (stored_tree v q w);
        still_held = stored_held base me v q w held;
        still_known = stored_known _ v q w classes;
        still_earlier = stored_known _ v q w earlier;
      }

  items_owned : (u : View) (items : List Item) (move : Move) → Alike u → MoveOwned base me move → OwnedDoing (with_move (with_items u items) move)
  items_owned u items move a m =
      record { tree = a.still; held = a.still_held; bottom = subst (Bottom me) (sym a.same_frames) bottom; classes = a.still_known; earlier = a.still_earlier; starting = m }

  -- ---- places

  in_this_call : HeldPlace base me fs (this_call v)
  in_this_call = let same = length-frames calls in omega arith

  this_is : call_above (c ∷ calls) (length (c ∷ calls) - 1) ≡ c
  this_is = rw (eq-eqb (length calls) (length (c ∷ calls) - 1) (omega arith)) refl

  referred_held : (o : Option Content) (x : Name) → content_of x c.environment ≡ o → HeldPlace base me fs (referred o (plain_place (this_call v) x)).holder
  referred_held (Some (refers q)) x e = place_more base me (c.kind, c.component) (frames calls) q.holder (held.2 x q e)
  referred_held _ x e = in_this_call

  target_meant_held : (x : Name) (m : Option Meaning) → HeldPlace base me fs (target_meant v x m).place.holder
  target_meant_held x (Some (permanent_variable t)) = held.0
  target_meant_held x (Some (local_variable t)) = referred_held (content_of x (environment_of v (this_call v))) x (ap (λ k. content_of x k.environment) (sym this_is))
  target_meant_held x _ = in_this_call

  named_held : (x : Name) → HeldPlace base me fs (target_named v x).place.holder
  named_held x = target_meant_held x (find x c.scope)

  abbrev PlaceHeld : Target → Type 0
  PlaceHeld t = HeldPlace base me fs t.place.holder

  target_if : (b : Bool) (t : Target) (e : ErrorName) → HeldPlace base me fs t.place.holder → AllOf PlaceHeld (if b then Ok t else Err e)
  target_if true t e h = h
  target_if false t e h = tt

  element_held : (u : Ty) (t : Target) (z : ℤ) → HeldPlace base me fs t.place.holder → AllOf PlaceHeld (with_element_of u t z)
  element_held (array_over r u) t z h = target_if (is_within r z) _ _ h
  element_held _ t z h = h

  chosen_held : (s : Selector) (t : Target) → HeldPlace base me fs t.place.holder → AllOf PlaceHeld (chosen v s t)
  chosen_held (field i) t h = h
  chosen_held (index e) t h = bind_all PlaceHeld (value v e) _ (λ x. element_held t.ty t (number_of x.value) h)

  selected_held : (ss : Selectors) (t : Target) → HeldPlace base me fs t.place.holder → AllOf PlaceHeld (selected v ss t)
  selected_held no_selectors t h = h
  selected_held (more_selectors s ss) t h = bind_known PlaceHeld PlaceHeld (chosen v s t) _ (chosen_held s t h) (λ u k. selected_held ss u k)

  target_held : (d : Designator) → AllOf PlaceHeld (target_value v d)
  target_held (designator i ss) = selected_held ss (target_named v i.name) (named_held i.name)

  -- ---- components that are named

  not_past : (n : ℕ) → kind_at base n ≡ system_kind.Class → n < length base
  not_past n class = within base n (λ h. (let bad : system_kind.Class ≡ system_kind.Process = sym class ∙ h in cc))

  none_past : (n : ℕ) {A : Type 0} → n ≡ length cs → kind_at base n ≡ system_kind.Class → A
  none_past n e class = absurd (let bad : system_kind.Process ≡ system_kind.Class = sym (kind_past base n (let size = tree.size in omega arith)) ∙ class in cc)

  contained_here : (n : ℕ) (q : Place) (o : Option ℕ) (d : ℕ) → n ≡ c.component → d ≡ component_with (step_down (path_at cs n) q.name o) cs → kind_at base d ≡ system_kind.Class → owner_of base d ≡ owner_of base c.component
  contained_here n q o d e is class =
      contained_owner base c.component d q.name o distinct held.1 (not_past d class)
      (is ∙ tree.find (step_down (path_at cs n) q.name o) ∙ ap (λ y. component_with (step_down y q.name o) base) (tree.path n ∙ ap (path_at base) e)) class

  known_here : (n : ℕ) (q : Place) (o : Option Content) → q.holder ≡ in_component n → n ≡ c.component → content_of q.name (permanents_at cs n) ≡ o → kind_at base (component_known v q o) ≡ system_kind.Class → owner_of base (component_known v q o) ≡ owner_of base c.component
  known_here n q (Some (knows d)) h e is class = classes n d q.name is class ∙ ap (owner_of base) e
  known_here n q _ h e is class = contained_here n q (element_chosen q.choices) _ e (ap (λ k. component_with (step_down (around_of v k) q.name (element_chosen q.choices)) cs) h) class

  by_holder : (q : Place) (h : Holder) → q.holder ≡ h → kind_at base (component_by v q h) ≡ system_kind.Class → owner_of base (component_by v q h) ≡ owner_of base c.component
  by_holder q (in_call b) e class = none_past (length cs) refl class
  by_holder q (in_component n) e class = go (n == c.component) refl class
    where
      go : (b : Bool) → (n == c.component) ≡ b → kind_at base (if b then component_known v q (content_of q.name (component_at cs n).environment) else length cs) ≡ system_kind.Class →
          owner_of base (if b then component_known v q (content_of q.name (component_at cs n).environment) else length cs) ≡ owner_of base c.component
      go true same k = known_here n q (content_of q.name (permanents_at cs n)) e (eqb-true n c.component same) refl k
      go false same k = none_past (length cs) refl k

  -- a class that is named has the owner of the component that names it
  there_owned : (q : Place) → kind_at base (component_there v q) ≡ system_kind.Class → owner_of base (component_there v q) ≡ owner_of base c.component
  there_owned q class = by_holder q q.holder refl class

  contained_there : (n : ℕ) (q : Place) (o : Option ℕ) (d : ℕ) → n ≡ c.component → d ≡ component_with (step_down (path_at cs n) q.name o) cs → (kind_at base d ≡ system_kind.Process → ⊥) → system_at base d < system_at base c.component
  contained_there n q o d e is never =
      contained_below base c.component d q.name o contained held.1 (within base d never)
      (is ∙ tree.find (step_down (path_at cs n) q.name o) ∙ ap (λ y. component_with (step_down y q.name o) base) (tree.path n ∙ ap (path_at base) e))

  known_there : (n : ℕ) (q : Place) (o : Option Content) → q.holder ≡ in_component n → n ≡ c.component → content_of q.name (permanents_at cs n) ≡ o → (kind_at base (component_known v q o) ≡ system_kind.Process → ⊥) → system_at base (component_known v q o) < system_at base c.component
  known_there n q (Some (knows d)) h e is never = subst (λ j. system_at base d < system_at base j) e (earlier n d q.name is never)
  known_there n q _ h e is never = contained_there n q (element_chosen q.choices) _ e (ap (λ k. component_with (step_down (around_of v k) q.name (element_chosen q.choices)) cs) h) never

  past_process : kind_at base (length cs) ≡ system_kind.Process
  past_process = kind_past base (length cs) (let size = tree.size in omega arith)

  below_by_holder : (q : Place) (h : Holder) → q.holder ≡ h → (kind_at base (component_by v q h) ≡ system_kind.Process → ⊥) → system_at base (component_by v q h) < system_at base c.component
  below_by_holder q (in_call b) e never = absurd (never past_process)
  below_by_holder q (in_component n) e never = go (n == c.component) refl never
    where
      go : (b : Bool) → (n == c.component) ≡ b → (kind_at base (if b then component_known v q (content_of q.name (component_at cs n).environment) else length cs) ≡ system_kind.Process → ⊥) →
          system_at base (if b then component_known v q (content_of q.name (component_at cs n).environment) else length cs) < system_at base c.component
      go true same k = known_there n q (content_of q.name (permanents_at cs n)) e (eqb-true n c.component same) refl k
      go false same k = absurd (k past_process)

  -- what is named, but for processes, is of an earlier type than what names it
  pub there_below : (q : Place) → (kind_at cs (component_there v q) ≡ system_kind.Process → ⊥) → system_at cs (component_there v q) < system_at cs c.component
  there_below q never =
      let lt = below_by_holder q q.holder refl (λ h. never (tree.kind (component_there v q) ∙ h)) in
      rw (tree.system (component_there v q), tree.system c.component) lt

  -- ---- arguments

  abbrev KnowsOwned : Environment → Type 0
  KnowsOwned e = (d : ℕ) (x : Name) → content_of x e ≡ Some (knows d) → kind_at base d ≡ system_kind.Class → owner_of base d ≡ owner_of base c.component

  abbrev EnvironmentHeld : Environment → Type 0
  EnvironmentHeld e = RefersHeld base me fs e × KnowsOwned e

  abbrev ContentHeld : Content → Type 0
  ContentHeld (holds w) = Unit {0}
  ContentHeld (refers q) = HeldPlace base me fs q.holder
  ContentHeld (knows d) = kind_at base d ≡ system_kind.Class → owner_of base d ≡ owner_of base c.component

  of_system_owned : (k n : ℕ) → (kind_at base n ≡ system_kind.Class → owner_of base n ≡ owner_of base c.component) → kind_at base (of_system v k n) ≡ system_kind.Class → owner_of base (of_system v k n) ≡ owner_of base c.component
  of_system_owned k n h = go ((component_at cs n).system == k)
    where
      go : (b : Bool) → kind_at base (if b then n else length cs) ≡ system_kind.Class → owner_of base (if b then n else length cs) ≡ owner_of base c.component
      go true class = h class
      go false class = none_past (length cs) refl class

  -- what is so of values, of places that are held and of components found at such places is so of an argument
  argument_all : (P : Content → Type 0) → ((w : Value) → P (holds w)) → ((t : Target) → PlaceHeld t → P (refers t.place)) → (q : Parameter) → ((k : ℕ) → q.ty ≡ component_of k → (t : Target) → P (knows (of_system v k (component_there v t.place)))) →
      (e : Expression) → AllOf P (bound_argument v q e)
  argument_all P value_so place_so q component_so e = go q.is_var
    where
      variable : (o : Option Designator) → AllOf P (bound_variable v refers_to o)
      variable None = value_so (number_value (pos 0))
      variable (Some d) = bind_known PlaceHeld P (target_value v d) (λ t. Ok (refers t.place)) (target_held d) place_so

      component : (k : ℕ) → q.ty ≡ component_of k → (o : Option Designator) → AllOf P (bound_variable v (knows_of v k) o)
      component k same None = value_so (number_value (pos 0))
      component k same (Some d) = bind_all P (target_value v d) (λ t. Ok (knows (of_system v k (component_there v t.place)))) (component_so k same)

      by_type : (t : Ty) → q.ty ≡ t → AllOf P (bound_value v t e)
      by_type (component_of k) same = component k same (variable_in e)
      by_type t same = bind_all P (value v e) (λ x. checked t x.value >>= λ w. Ok (holds w)) (λ x. bind_all P (checked t x.value) (λ w. Ok (holds w)) value_so)

      go : (b : Bool) → AllOf P (if b then bound_variable v refers_to (variable_in e) else bound_value v q.ty e)
      go true = variable (variable_in e)
      go false = by_type q.ty refl

  argument_held : (q : Parameter) (e : Expression) → AllOf ContentHeld (bound_argument v q e)
  argument_held q e = argument_all ContentHeld (λ w. tt) (λ t h. h) q (λ k same t. of_system_owned k (component_there v t.place) (there_owned t.place)) e

  no_content : (x : Name) (k : Content) {A : Type 0} → content_of x [] ≡ Some k → A
  no_content x k h = absurd (let bad : None ≡ Some k = h in cc)

  nothing_bound : AllOf EnvironmentHeld (Ok [])
  nothing_bound = ((λ x q h. no_content x (refers q) h), λ d x h class. no_content x (knows d) h)

  refers_cons : (y : Name) (k : Content) (e : Environment) → ContentHeld k → RefersHeld base me fs e → RefersHeld base me fs ((y, k) ∷ e)
  refers_cons y k e h r x q s = go (cons_content x (y, k) e (refers q) s)
    where
      go : ((same_name x y ≡ true) × (k ≡ refers q)) ⊎ ((same_name x y ≡ false) × (content_of x e ≡ Some (refers q))) → HeldPlace base me fs q.holder
      go (inl t) = subst ContentHeld t.1 h
      go (inr t) = r x q t.1

  knows_cons : (y : Name) (k : Content) (e : Environment) → ContentHeld k → KnowsOwned e → KnowsOwned ((y, k) ∷ e)
  knows_cons y k e h r d x s class = go (cons_content x (y, k) e (knows d) s)
    where
      go : ((same_name x y ≡ true) × (k ≡ knows d)) ⊎ ((same_name x y ≡ false) × (content_of x e ≡ Some (knows d))) → owner_of base d ≡ owner_of base c.component
      go (inl t) = subst ContentHeld t.1 h class
      go (inr t) = r d x t.1 class

  bound_cons : (y : Name) (o : Outcome Content) (r : Outcome Environment) → AllOf ContentHeld o → AllOf EnvironmentHeld r → AllOf EnvironmentHeld (o >>= λ k. r >>= λ rest. Ok ((y, k) ∷ rest))
  bound_cons y o r h g = bind_known ContentHeld EnvironmentHeld o _ h (λ k a. bind_known EnvironmentHeld EnvironmentHeld r _ g (λ e b. (refers_cons y k e a b.0, knows_cons y k e a b.1)))

  bound_held : (qs : List Parameter) (es : Expressions) → AllOf EnvironmentHeld (bound v qs es)
  bound_held (q ∷ qs) (more_expressions e es) = bound_cons q.name (bound_argument v q e) (bound v qs es) (argument_held q e) (bound_held qs es)
  bound_held _ _ = nothing_bound

  -- what holds of each component that has the type of one of the parameters

  module _ (Q : ℕ → Type 0) where
    abbrev Fits : Content → Type 0
    Fits (holds w) = Unit {0}
    Fits (refers q) = Unit {0}
    Fits (knows d) = Q d

    abbrev pub AllFit : Environment → Type 0
    AllFit e = (d : ℕ) (x : Name) → content_of x e ≡ Some (knows d) → Q d

    abbrev pub BoundFits : Outcome Environment → Type 0
    BoundFits o = AllOf AllFit o

    abbrev pub ParametersFit : List Parameter → Type 0
    ParametersFit [] = Unit {0}
    ParametersFit (q ∷ qs) = ((k n : ℕ) → q.ty ≡ component_of k → Q (of_system v k n)) × ParametersFit qs

    argument_fits : (q : Parameter) (e : Expression) → ((k n : ℕ) → q.ty ≡ component_of k → Q (of_system v k n)) → AllOf Fits (bound_argument v q e)
    argument_fits q e h = argument_all Fits (λ w. tt) (λ t n. tt) q (λ k same t. h k (component_there v t.place) same) e

    fits_cons : (y : Name) (k : Content) (e : Environment) → Fits k → AllFit e → AllFit ((y, k) ∷ e)
    fits_cons y k e h g d x s = go (cons_content x (y, k) e (knows d) s)
      where
        go : ((same_name x y ≡ true) × (k ≡ knows d)) ⊎ ((same_name x y ≡ false) × (content_of x e ≡ Some (knows d))) → Q d
        go (inl t) = subst Fits t.1 h
        go (inr t) = g d x t.1

    pub bound_fits : (qs : List Parameter) (es : Expressions) → ParametersFit qs → BoundFits (bound v qs es)
    bound_fits (q ∷ qs) (more_expressions e es) h = bind_known Fits AllFit (bound_argument v q e) _ (argument_fits q e h.0) (λ k a. bind_known AllFit AllFit (bound v qs es) _ (bound_fits qs es h.1) (λ rest b. fits_cons q.name k rest a b))
    bound_fits _ _ h = λ d x s. no_content x (knows d) s

  abbrev NoClass : ℕ → Type 0
  NoClass d = kind_at base d ≡ system_kind.Class → ⊥

  abbrev Below : ℕ → ℕ → Type 0
  Below j d = (kind_at base d ≡ system_kind.Process → ⊥) → system_at base d < j

  system_no_class : (k n : ℕ) → ((system_of p k).kind ≡ system_kind.Class → ⊥) → NoClass (of_system v k n)
  system_no_class k n h = go ((component_at cs n).system == k) refl
    where
      go : (b : Bool) → ((component_at cs n).system == k) ≡ b → NoClass (if b then n else length cs)
      go true e class = h (sym (kinds n (not_past n class) ∙ ap (λ j. (system_of p j).kind) (sym (tree.system n) ∙ eqb-true _ k e)) ∙ class)
      go false e class = none_past (length cs) refl class

  no_class_fits : (qs : List Parameter) → HasNoClass p qs → ParametersFit NoClass qs
  no_class_fits [] h = tt
  no_class_fits (q ∷ qs) h = ((λ k n e. system_no_class k n (h.0 k e)), no_class_fits qs h.1)

  system_below : (j k n : ℕ) → k < j → Below j (of_system v k n)
  system_below j k n lt = go ((component_at cs n).system == k) refl
    where
      go : (b : Bool) → ((component_at cs n).system == k) ≡ b → Below j (if b then n else length cs)
      go true e never = (let same : system_at base n ≡ k = sym (tree.system n) ∙ eqb-true _ k e in omega arith)
      go false e never = absurd (never past_process)

  below_fits : (j : ℕ) (qs : List Parameter) → HasEarlier j qs → ParametersFit (Below j) qs
  below_fits j [] h = tt
  below_fits j (q ∷ qs) h = ((λ k n e. system_below j k n (h.0 k e)), below_fits j qs h.1)

  -- ---- calls

  no_reference : (x : Name) (q : Place) → IsValue (refers q) → HeldPlace base me fs q.holder
  no_reference x q h = absurd h

  opened_refers : (r : RoutineMeaning) (e : Environment) → RefersHeld base me fs e → RefersHeld base me fs (e ++ least_of r.variables ++ least_result r.result)
  opened_refers r e h x q s = go (append_content x (e ++ least_of r.variables) (least_result r.result) (refers q) s)
    where
      inner : (content_of x e ≡ Some (refers q)) ⊎ (content_of x (least_of r.variables) ≡ Some (refers q)) → HeldPlace base me fs q.holder
      inner (inl t) = h x q t
      inner (inr t) = no_reference x q (least_values x r.variables (refers q) t)

      go : (content_of x (e ++ least_of r.variables) ≡ Some (refers q)) ⊎ (content_of x (least_result r.result) ≡ Some (refers q)) → HeldPlace base me fs q.holder
      go (inl t) = inner (append_content x e (least_of r.variables) (refers q) t)
      go (inr t) = no_reference x q (least_result_value x r.result (refers q) t)

  opened_owned : (d : ℕ) (kind : CallKind) (r : RoutineMeaning) (o : Option Name) (items : List Item) (e : Environment) (move : Move) → HeldBy base me ((kind, d) ∷ fs) d → d < length base → RefersHeld base me fs e → MoveOwned base me move →
      OwnedDoing (with_move (opened v d kind r o items e) move)
  opened_owned d kind r o items e move h lt refs m =
      record { tree = tree; held = (h, lt, opened_refers r e refs, held); bottom = bottom; classes = classes; earlier = earlier; starting = m }

  monitor_entered : (d : ℕ) → kind_at base d ≡ system_kind.Monitor → HeldBy base me ((entry_routine, d) ∷ fs) d
  monitor_entered d k =
      subst (λ o. (o ≡ me) ⊎ ((kind_at base o ≡ system_kind.Monitor) × ((Rattle.cp_meaning.proofs.Frames.entry_in o ((entry_routine, d) ∷ fs) ≡ true) ⊎ (Rattle.cp_meaning.proofs.Frames.initial_in o ((entry_routine, d) ∷ fs) ≡ true))))
      (sym (own_owner base d system_kind.Monitor k (λ b. cc))) (inr (k, inl (rw (eq-eqb d d refl) refl)))

  monitor_started : (d : ℕ) → kind_at base d ≡ system_kind.Monitor → HeldBy base me ((initial_statement, d) ∷ fs) d
  monitor_started d k =
      subst (λ o. (o ≡ me) ⊎ ((kind_at base o ≡ system_kind.Monitor) × ((Rattle.cp_meaning.proofs.Frames.entry_in o ((initial_statement, d) ∷ fs) ≡ true) ⊎ (Rattle.cp_meaning.proofs.Frames.initial_in o ((initial_statement, d) ∷ fs) ≡ true))))
      (sym (own_owner base d system_kind.Monitor k (λ b. cc))) (inr (k, inr (rw (eq-eqb d d refl) refl)))

  class_held : (d : ℕ) (kind : CallKind) → owner_of base d ≡ owner_of base c.component → HeldBy base me ((kind, d) ∷ fs) d
  class_held d kind e = held_alike base me ((kind, d) ∷ fs) d c.component e (held_more base me (kind, d) fs c.component held.0)

  in_base : (d : ℕ) (k : SystemKind) → kind_at cs d ≡ k → kind_at base d ≡ k
  in_base d k e = sym (tree.kind d) ∙ e

  entry_as : (k : SystemKind) (d : ℕ) (r : RoutineMeaning) (o : Option Name) (items : List Item) (e : Environment) → kind_at cs d ≡ k → (kind_at base d ≡ system_kind.Class → owner_of base d ≡ owner_of base c.component) → RefersHeld base me fs e → OwnedDoing (entered_as k v d r o items e)
  entry_as system_kind.Monitor d r o items e is owns refs =
      opened_owned d entry_routine r o items e (enters d) (monitor_entered d (in_base d system_kind.Monitor is)) (within base d (λ h. (let bad : system_kind.Monitor ≡ system_kind.Process = sym (in_base d system_kind.Monitor is) ∙ h in cc))) refs tt
  entry_as system_kind.Class d r o items e is owns refs =
      let class = in_base d system_kind.Class is in
      opened_owned d entry_routine r o items e stays (class_held d entry_routine (owns class)) (not_past d class) refs tt
  entry_as system_kind.Process d r o items e is owns refs = items_owned v items stays alike tt

  -- ---- starts

  initial_owned : (d : ℕ) (s : SystemMeaning) (items : List Item) (e : Environment) → d < length base → HeldBy base me ((initial_statement, d) ∷ fs) d →
      ((n : ℕ) (x : Name) → content_of x e ≡ Some (knows n) → kind_at base n ≡ system_kind.Class → owner_of base n ≡ owner_of base d) → ((n : ℕ) (x : Name) → content_of x e ≡ Some (knows n) → Below (system_at base d) n) → OwnedDoing (initial v d s items e)
  initial_owned d s items e lt h known lower =
      record {
        tree = tree_after base cs ds tree (set_tree cs d _ refl refl refl);
        held = (h, lt, (λ x q t. no_content x (refers q) t), held);
        bottom = bottom;
        classes = known_set _ cs d _ (λ n x t class. all n x class (append_content x e (permanents_at cs d) (knows n) t)) classes;
        earlier = known_set _ cs d _ (λ n x t never. lower_all n x never (append_content x e (permanents_at cs d) (knows n) t)) earlier;
        starting = tt;
      }
    where
      ds : List Component
      ds = with_status cs d initialising (e ++ permanents_at cs d)

      all : (n : ℕ) (x : Name) → kind_at base n ≡ system_kind.Class → (content_of x e ≡ Some (knows n)) ⊎ (content_of x (permanents_at cs d) ≡ Some (knows n)) → owner_of base n ≡ owner_of base d
      all n x class (inl t) = known n x t class
      all n x class (inr t) = classes d n x t class

      lower_all : (n : ℕ) (x : Name) → (kind_at base n ≡ system_kind.Process → ⊥) → (content_of x e ≡ Some (knows n)) ⊎ (content_of x (permanents_at cs d) ≡ Some (knows n)) → system_at base n < system_at base d
      lower_all n x never (inl t) = lower n x t never
      lower_all n x never (inr t) = earlier d n x t never

  initialised_owned : (d : ℕ) (s : SystemMeaning) (items : List Item) (e : Environment) → d < length base → HeldBy base me ((initial_statement, d) ∷ fs) d →
      ((n : ℕ) (x : Name) → content_of x e ≡ Some (knows n) → kind_at base n ≡ system_kind.Class → owner_of base n ≡ owner_of base d) → ((n : ℕ) (x : Name) → content_of x e ≡ Some (knows n) → Below (system_at base d) n) → OwnedOutcome (initialised_in v d s items e)
  initialised_owned d s items e lt h known lower =
      if_all OwnedDoing (is_uninitialised (status_at cs d)) _ _ (λ u. initial_owned d s items e lt h known lower) tt

  system_not_class : (d : ℕ) → d < length base → (kind_at cs d ≡ system_kind.Class → ⊥) → (system_of p (component_at cs d).system).kind ≡ system_kind.Class → ⊥
  system_not_class d lt h k = h (tree.kind d ∙ kinds d lt ∙ ap (λ j. (system_of p j).kind) (sym (tree.system d)) ∙ k)

  -- what is known of the arguments with which a component of a system type is started
  record Handed (k : ℕ) (e : Environment) : Type 0 where
    owned : KnowsOwned e
    free : ((system_of p k).kind ≡ system_kind.Class → ⊥) → AllFit NoClass e
    lower : AllFit (Below k) e

  bound_handed : (k : ℕ) (es : Expressions) → AllOf (Handed k) (bound v (system_of p k).parameters es)
  bound_handed k es = go (bound v (system_of p k).parameters es) (bound_held (system_of p k).parameters es) (λ h. bound_fits NoClass (system_of p k).parameters es (no_class_fits (system_of p k).parameters (class_parameters k h)))
      (bound_fits (Below k) (system_of p k).parameters es (below_fits k (system_of p k).parameters (parameters_earlier k)))
    where
      go : (o : Outcome Environment) → AllOf EnvironmentHeld o → (((system_of p k).kind ≡ system_kind.Class → ⊥) → BoundFits NoClass o) → BoundFits (Below k) o → AllOf (Handed k) o
      go (Ok e) h free lower = record { owned = h.1; free = free; lower = lower }
      go (Err e) h free lower = tt

  started_owned : (k : SystemKind) (d : ℕ) (items : List Item) (e : Environment) → kind_at cs d ≡ k → (kind_at base d ≡ system_kind.Class → owner_of base d ≡ owner_of base c.component) → Handed (component_at cs d).system e →
      OwnedOutcome (started_as k v d (system_of p (component_at cs d).system) items e)
  started_owned k d items e is owns h = by_kind k is (subst (λ j. AllFit (Below j) e) (tree.system d) h.lower)
    where
      by_kind : (k : SystemKind) → kind_at cs d ≡ k → AllFit (Below (system_at base d)) e → OwnedOutcome (started_as k v d (system_of p (component_at cs d).system) items e)
      by_kind system_kind.Class is lower =
          let class = in_base d system_kind.Class is in
          initialised_owned d (system_of p (component_at cs d).system) items e (not_past d class) (class_held d initial_statement (owns class)) (λ n x t k. h.owned n x t k ∙ sym (owns class)) lower
      by_kind system_kind.Monitor is lower =
          let lt = within base d (λ b. (let bad : system_kind.Monitor ≡ system_kind.Process = sym (in_base d system_kind.Monitor is) ∙ b in cc)) in
          initialised_owned d (system_of p (component_at cs d).system) items e lt (monitor_started d (in_base d system_kind.Monitor is))
          (λ n x t k. absurd (h.free (system_not_class d lt (λ b. (let bad : system_kind.Monitor ≡ system_kind.Class = sym is ∙ b in cc))) n x t k)) lower
      by_kind system_kind.Process is lower =
          items_owned v items (starts d e) alike
          (λ lt n x t. ((λ k. absurd (h.free (system_not_class d lt (λ b. (let bad : system_kind.Process ≡ system_kind.Class = sym is ∙ b in cc))) n x t k)), lower n x t))

  -- ---- ends of calls

  bottom_rest : (f : Frame) (gs : List Frame) → Bottom me (f ∷ gs) → Bottom me gs
  bottom_rest f [] h = tt
  bottom_rest f (g ∷ gs) h = h

  held_callers : (ks : List Call) → HeldCalls base me ks → HeldCalls base me (callers ks)
  held_callers [] h = tt
  held_callers (k ∷ ks) h = h.3

  rest_bottom : Bottom me (frames calls)
  rest_bottom = bottom_rest (c.kind, c.component) (frames calls) bottom

  leaving_owned : (k : SystemKind) (m : ℕ) → MoveOwned base me (Rattle.cp_meaning.specs.LocalRules.leaving_move k m)
  leaving_owned system_kind.Monitor m = tt
  leaving_owned _ m = tt

  back_owned : MoveOwned base me (return_move cs c)
  back_owned = go (Rattle.cp_meaning.specs.State.is_entry_kind c.kind)
    where
      go : (b : Bool) → MoveOwned base me (if b then Rattle.cp_meaning.specs.LocalRules.leaving_move (component_at cs c.component).kind c.component else stays)
      go true = leaving_owned (component_at cs c.component).kind c.component
      go false = tt

  returned_owned : (o : Option Name) (items : List Item) → OwnedDoing (returned v o items)
  returned_owned None items = record { tree = tree; held = held.3; bottom = rest_bottom; classes = classes; earlier = earlier; starting = back_owned }
  returned_owned (Some x) items =
      let q = plain_place (this_call (outer v)) x in
      let w = value_at v (plain_place (this_call v) result_name) in
      record { tree = tree; held = stored_held base me (outer v) q w held.3; bottom = subst (Bottom me) (sym (stored_frames (outer v) q w)) rest_bottom; classes = classes; earlier = earlier; starting = back_owned }

  continued_owned : (k : CallKind) (items : List Item) (q : Place) → HeldPlace base me fs q.holder → OwnedDoing (continued_from v k items q)
  continued_owned entry_routine items q h =
      let u = stored v q (queue_value None) in
      let a = alike_stored q (queue_value None) h in
      record {
        tree = a.still;
        held = held_callers u.calls a.still_held;
        bottom = subst (Bottom me) (sym (frames-callers u.calls ∙ ap below (stored_frames v q (queue_value None)))) rest_bottom;
        classes = a.still_known;
        earlier = a.still_earlier;
        starting = (a.still_held, subst (Bottom me) (sym (stored_frames v q (queue_value None))) bottom);
      }
  continued_owned _ items q h = items_owned v items stays alike tt

  finished_owned : (m : ℕ) (items : List Item) → OwnedDoing (finished v m items)
  finished_owned m items =
      record {
        tree = tree_after base cs _ tree (set_tree cs m _ refl refl refl);
        held = held.3;
        bottom = rest_bottom;
        classes = known_set _ cs m _ (λ d x t class. classes m d x t class) classes;
        earlier = known_set _ cs m _ (λ d x t never. earlier m d x t never) earlier;
        starting = tt;
      }

  -- ---- items

  rules : Rules p (c ∷ calls) cs pid OwnedDoing Alike (λ items. Unit {0}) (λ q. HeldPlace base me fs q.holder) EnvironmentHeld Handed
  rules =
      record {
        near = target_held;
        named = λ i. named_held i.name;
        arguments = bound_held;
        handed = bound_handed;
        plain = λ xs items h f. tt;
        rest = λ i items h f. tt;
        as_it_is = alike;
        stores = alike_stored;
        goes_on = λ u items a f. items_owned u items stays a tt;
        ended = λ items f. items_owned v items ends alike tt;
        shows = λ items x f. items_owned v items _ alike tt;
        opens = λ r o items e h f. opened_owned c.component local_routine r o items e stays (held_more base me (local_routine, c.component) fs c.component held.0) held.1 h.0 tt;
        enters = λ q r o items e n h i f. entry_as (kind_at cs (component_there v q)) (component_there v q) r o items e refl (there_owned q) h.0;
        starts = λ q items e n h f. started_owned (kind_at cs (component_there v q)) (component_there v q) items e refl (there_owned q) h;
        waits = λ q items n f. items_owned (stored v q (queue_value (Some pid))) items (delays c.component) (alike_stored q (queue_value (Some pid)) n) tt;
        continues = λ q items n f. continued_owned c.kind items q n;
        returns = λ o items f. returned_owned o items;
        finishes = λ m items f. finished_owned m items;
      }

  pub takes_owned : (items : List Item) → OwnedOutcome (takes v pid items)
  takes_owned items = takes_all p (c ∷ calls) cs pid OwnedDoing Alike (λ items. Unit {0}) (λ q. HeldPlace base me fs q.holder) EnvironmentHeld Handed rules items tt
