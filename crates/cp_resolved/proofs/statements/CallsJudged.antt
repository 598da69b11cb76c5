-- What the rules have found of the calls in expressions that break none of them.
use Rattle.cp_resolved.proofs.Words.{◌≡◌, ℕ, Bool, true, false, ◌&&◌, if◌then◌else◌, List, [], ◌∷◌, Option, Some, None, Ok, refl, sym, ap, subst, ◌∙◌, nat_eq, option_or}
use Rattle.cp_resolved.proofs.Words.{eq-eqb, Sign, Relation, Addition, Multiplication, CheckFault, ValueType, Predeclared, Use, no_use, both_uses, broken, agree, is_of}
use Rattle.cp_resolved.proofs.Words.{values_of, Judged, Scopes, heading_at, body_at, Context, Operand, Named, or_left, or_right, C5, C9, C10, C12, value, is_queue}
use Rattle.cp_tree.specs.declared.expression.Addition.TheVariants as addition
use Rattle.cp_tree.specs.declared.expression.Multiplication.TheVariants as multiplication
use Rattle.cp_scope.specs.declared.fault.CheckFault.TheVariants as check_fault
use Rattle.cp_scope.specs.declared.types.ValueType.TheVariants as types
use Rattle.cp_scope.specs.declared.types.Base.TheVariants as base
use Rattle.cp_scope.specs.declared.types.Predeclared.TheVariants as predeclared
use Rattle.cp_check.specs.declared.operand.DesignatedName.{DesignatedName}
use Rattle.cp_check.specs.declared.operand.Named.TheVariants.{Nothing, Constant, Variable, Parameter, Kind, Routine, Entry, Predeclared as Predeclared'}
use Rattle.cp_check.specs.Operations as operations
use Rattle.cp_check.specs.Calls as calls
use Rattle.cp_check.specs.Expressions as expressions
use Rattle.cp_resolved.proofs.agreeing.Agreeing.{none_left, none_right}
use Rattle.cp_resolved.proofs.agreeing.WithoutFaults.{ok_same, Then, then_of, if_of}

-- ---- what may take time in a queue

-- f: whether anything may wait at all
abbrev pub Below : Bool → Use → Type 0
Below f u = f ≡ false → u.delays ≡ false

pub first_below : (f : Bool) (a b : Use) → Below f (both_uses a b) → Below f a
first_below f a b h e = or_left a.delays b.delays (h e)

pub second_below : (f : Bool) (a b : Use) → Below f (both_uses a b) → Below f b
second_below f a b h e = or_right a.delays b.delays (h e)

abbrev pub AreBelow : Bool → List Operand → Type 0
AreBelow f [] = Unit {0}
AreBelow f (o ∷ os) = Below f o.uses × AreBelow f os

pub total_below : (f : Bool) (u : Use) (os : List Operand) → Below f (calls.total_use u os) → Below f u × AreBelow f os
unfolding calls.total_use
total_below f u [] h = (h, tt)
total_below f u (o ∷ os) h =
    let r = total_below f (both_uses u o.uses) os h in
    (first_below f u o.uses r.0, (second_below f u o.uses r.0, r.1))

-- what came before where a judgement goes on from it, with what is known of both
pub record Reached {A : Type 0} (B : A → Type 0) (j : Judged A) (U : Type 0) : Type 0 where
  pub value : A
  pub is : j ≡ Ok value
  pub below : B value
  pub rest : U

-- ---- operations

abbrev pub OptionBelow : Bool → Option Operand → Type 0
OptionBelow f None = ⊥
OptionBelow f (Some o) = Below f o.uses

number_below : (f : Bool) (at : ℕ) (l r : Operand) → OptionBelow f (operations.number at l r) → Below f l.uses × Below f r.uses
number_below f at l r h = go (is_of base.Integer l.value_type && is_of base.Integer r.value_type) h
  where
    go : (b : Bool) → OptionBelow f (if b then Some (value at (values_of base.Integer) (both_uses l.uses r.uses)) else None) → Below f l.uses × Below f r.uses
    go true k = (first_below f l.uses r.uses k, second_below f l.uses r.uses k)
    go false k = absurd k

set_types_below : (f : Bool) (at : ℕ) (v t : ValueType) (u : Use) → OptionBelow f (operations.set_of_types at v t u) → Below f u
set_types_below f at (types.Set a) (types.Set b) u h = go (agree (types.Set a) (types.Set b)) h
  where
    go : (c : Bool) → OptionBelow f (if c then Some (value at (operations.set_type a b) u) else None) → Below f u
    go true k = k
    go false k = absurd k
set_types_below f at _ _ u h = absurd h

set_below : (f : Bool) (at : ℕ) (l r : Operand) → OptionBelow f (operations.set at l r) → Below f l.uses × Below f r.uses
set_below f at l r h =
    let k : Below f (both_uses l.uses r.uses) = set_types_below f at l.value_type r.value_type (both_uses l.uses r.uses) h in
    (first_below f l.uses r.uses k, second_below f l.uses r.uses k)

truth_or_set_below : (f : Bool) (at : ℕ) (l r : Operand) → OptionBelow f (operations.truth_or_set at l r) → Below f l.uses × Below f r.uses
truth_or_set_below f at l r h = go (is_of base.Boolean l.value_type && is_of base.Boolean r.value_type) h
  where
    go : (b : Bool) → OptionBelow f (if b then Some (value at (values_of base.Boolean) (both_uses l.uses r.uses)) else operations.set at l r) → Below f l.uses × Below f r.uses
    go true k = (first_below f l.uses r.uses k, second_below f l.uses r.uses k)
    go false k = set_below f at l r k

either_below : (f : Bool) (p q : Option Operand) (U : Type 0) → (OptionBelow f p → U) → (OptionBelow f q → U) → OptionBelow f (option_or p q) → U
either_below f None q U h g k = g k
either_below f (Some o) q U h g k = h k

pub added_below : (f : Bool) (at : ℕ) (a : Addition) (l : Option Operand) (r : Operand) → OptionBelow f (operations.sum_of at a l r) → OptionBelow f l × Below f r.uses
added_below f at a None r h = absurd h
added_below f at addition.Plus (Some l) r h = number_below f at l r h
added_below f at addition.Minus (Some l) r h = either_below f (operations.number at l r) (operations.set at l r) (Below f l.uses × Below f r.uses) (number_below f at l r) (set_below f at l r) h
added_below f at addition.Or (Some l) r h = truth_or_set_below f at l r h

pub multiplied_below : (f : Bool) (at : ℕ) (m : Multiplication) (l : Option Operand) (r : Operand) → OptionBelow f (operations.product_of at m l r) → OptionBelow f l × Below f r.uses
multiplied_below f at m None r h = absurd h
multiplied_below f at multiplication.And (Some l) r h = truth_or_set_below f at l r h
multiplied_below f at multiplication.Times (Some l) r h = number_below f at l r h
multiplied_below f at multiplication.Div (Some l) r h = number_below f at l r h
multiplied_below f at multiplication.Mod (Some l) r h = number_below f at l r h

pub signed_below : (f : Bool) (at : ℕ) (s : Option Sign) (o : Operand) → OptionBelow f (operations.with_sign at s o) → Below f o.uses
signed_below f at None o h = h
signed_below f at (Some s) o h = go (is_of base.Integer o.value_type) h
  where
    go : (b : Bool) → OptionBelow f (if b then Some (value at (values_of base.Integer) o.uses) else None) → Below f o.uses
    go true k = k
    go false k = absurd k

pub related_below : (f : Bool) (at : ℕ) (r : Relation) (q : Operand × Operand) (p : Operand) → operations.relation_value at r q ≡ Ok p → Below f p.uses → Below f q.0.uses × Below f q.1.uses
related_below f at r q p is h =
    let i = if_of (operations.relates r q.0.value_type q.1.value_type) (value at (values_of base.Boolean) (both_uses q.0.uses q.1.uses)) p _ [] is in
    let k : Below f (both_uses q.0.uses q.1.uses) = subst (λ (o : Operand). Below f o.uses) (sym i.1) h in
    (first_below f q.0.uses q.1.uses k, second_below f q.0.uses q.1.uses k)

pub negated_below : (f : Bool) (at : ℕ) (o p : Operand) → operations.negation_of at o ≡ Ok p → Below f p.uses → Below f o.uses
negated_below f at o p is h = subst (λ (z : Operand). Below f z.uses) (sym (if_of (is_of base.Boolean o.value_type) (value at (values_of base.Boolean) o.uses) p _ [] is).1) h

-- ---- standard functions

abbrev Same : Use → Operand → Type 0
Same u p = p.uses ≡ u

stepped_same : (at : ℕ) (v : ValueType) (u : Use) (p : Operand) → operations.neighbour_value at v u ≡ Ok p → Same u p
stepped_same at (types.Ordinal r) u p e = ap (λ (o : Operand). o.uses) (sym (ok_same (value at (values_of r.base) u) p e))
stepped_same at x u p e = absurd (cc)

numbered_same : (at : ℕ) (v : ValueType) (u : Use) (p : Operand) → operations.ordinal_number at v u ≡ Ok p → Same u p
numbered_same at (types.Ordinal r) u p e = ap (λ (o : Operand). o.uses) (sym (ok_same (value at (values_of base.Integer) u) p e))
numbered_same at x u p e = absurd (cc)

applied_same : (at : ℕ) (q : Predeclared) (o : Operand) (u : Use) (p : Operand) → operations.standard_value_of at q o u ≡ Ok p → Same u p
applied_same at predeclared.Succ o u p e = stepped_same at o.value_type u p e
applied_same at predeclared.Pred o u p e = stepped_same at o.value_type u p e
applied_same at predeclared.Ord o u p e = numbered_same at o.value_type u p e
applied_same at predeclared.Chr o u p e = ap (λ (z : Operand). z.uses) (sym (if_of (is_of base.Integer o.value_type) (value at (values_of base.Char) u) p _ [] e).1)
applied_same at predeclared.Abs o u p e = ap (λ (z : Operand). z.uses) (sym (if_of (is_of base.Integer o.value_type) (value at (values_of base.Integer) u) p _ [] e).1)
applied_same at predeclared.Empty o u p e = ap (λ (z : Operand). z.uses) (sym (if_of (is_queue o) (value at (values_of base.Boolean) u) p _ [] e).1)
applied_same at x o u p e = absurd (cc)

all_applied_same : (at : ℕ) (q : Predeclared) (os : List Operand) (u : Use) (p : Operand) → operations.standard_value at q os u ≡ Ok p → Same u p
all_applied_same at q os u p e = go (operations.is_function q) os e
  where
    inner : (os : List Operand) → operations.standard_value_of_all at q os u ≡ Ok p → Same u p
    inner [] i = absurd (cc)
    inner (o ∷ []) i = applied_same at q o u p i
    inner (o ∷ z ∷ os) i = absurd (cc)

    go : (b : Bool) (os : List Operand) → (if b then operations.standard_value_of_all at q os u else broken at C5) ≡ Ok p → Same u p
    go true os i = inner os i
    go false os i = absurd (cc)

-- ---- set constructors

set_like_below : (f : Bool) (at : ℕ) (os : List Operand) (v : ValueType) (p : Operand) → expressions.set_like at os v ≡ Ok p → Below f p.uses → AreBelow f os
set_like_below f at os (types.Ordinal r) p is h =
    (total_below f no_use os (subst (λ (z : Operand). Below f z.uses) (sym (if_of (expressions.are_elements r.base os) (value at _ (calls.total_use no_use os)) p _ [] is).1) h)).1
set_like_below f at os x p is h = absurd (cc)

pub constructed_below : (f : Bool) (at : ℕ) (os : List Operand) (p : Operand) → expressions.set_value at os ≡ Ok p → Below f p.uses → AreBelow f os
constructed_below f at [] p is h = tt
constructed_below f at (o ∷ os) p is h = set_like_below f at (o ∷ os) o.value_type p is h

-- ---- calls

pub unless_ok : {A : Type 0} (fs : List CheckFault) (x r : A) → calls.unless fs x ≡ Ok r → (fs ≡ []) × (x ≡ r)
unless_ok [] x r e = (refl, ok_same x r e)
unless_ok (g ∷ fs) x r e = absurd (cc)

module _ (s : Scopes) (w : Context) (f : Bool) where
  -- a routine of the component itself
  pub record OwnCall (n : ℕ) : Type 0 where
    pub entry : (heading_at n s).is_entry ≡ false
    pub other : w.routine ≡ Some n → ⊥
    pub initial : calls.is_initial_of_monitor w ≡ true → (body_at n s).delays ≡ false
    pub calm : f ≡ false → (body_at n s).delays ≡ false

  abbrev pub CalledAs : Named → Type 0
  CalledAs (Routine n) = OwnCall n
  CalledAs (Entry n) = (heading_at n s).is_entry ≡ true
  CalledAs m = Unit {0}

  abbrev pub GivesResult : Named → Type 0
  GivesResult (Routine n) = (heading_at n s).result ≡ None → ⊥
  GivesResult (Entry n) = (heading_at n s).result ≡ None → ⊥
  GivesResult m = Unit {0}

  pub record CalledOk (b : Bool) (n : ℕ) (os : List Operand) (u r : Use) : Type 0 where
    pub uses : both_uses (calls.total_use u os) (calls.call_use b (body_at n s)) ≡ r
    pub none : (at name_at : ℕ) × (calls.call_faults s w at name_at b n os ≡ [])

  pub called_ok : (at name_at : ℕ) (b : Bool) (n : ℕ) (os : List Operand) (u r : Use) → calls.check_routine_call s w at name_at b n os u ≡ Ok r → CalledOk b n os u r
  unfolding calls.check_routine_call
  called_ok at name_at b n os u r is =
      let x = unless_ok (calls.call_faults s w at name_at b n os) (both_uses (calls.total_use u os) (calls.call_use b (body_at n s))) r is in
      record { uses = x.1; none = (at, name_at, x.0) }

  pub called_below : (b : Bool) (n : ℕ) (os : List Operand) (u r : Use) → CalledOk b n os u r → Below f r → Below f u × AreBelow f os
  called_below b n os u r c h = total_below f u os (first_below f (calls.total_use u os) (calls.call_use b (body_at n s)) (subst (Below f) (sym c.uses) h))

  no_entry : (at : ℕ) (e : Bool) → calls.entry_faults at true e ≡ [] → e ≡ false
  no_entry at false h = refl
  no_entry at true h = absurd (let bad : check_fault.Rule at C9 ∷ [] ≡ [] = h in cc)

  an_entry : (at : ℕ) (e : Bool) → calls.entry_faults at false e ≡ [] → e ≡ true
  an_entry at true h = refl
  an_entry at false h = absurd (let bad : check_fault.Rule at C9 ∷ [] ≡ [] = h in cc)

  not_own : (at n : ℕ) (o : Option ℕ) → calls.own_faults_of at o n ≡ [] → o ≡ Some n → ⊥
  not_own at n o h is = go (nat_eq n n) (eq-eqb n n refl) (subst (λ (z : Option ℕ). calls.own_faults_of at z n ≡ []) is h)
    where
      go : (b : Bool) → b ≡ true → (if b then calls.fault at C10 else []) ≡ [] → ⊥
      go true e k = let bad : check_fault.Rule at C10 ∷ [] ≡ [] = k in cc
      go false e k = let bad : false ≡ true = e in cc

  no_delay : (at : ℕ) (b d : Bool) → (if b && (true && d) then calls.fault at C12 else []) ≡ [] → b ≡ true → d ≡ false
  no_delay at true false h e = refl
  no_delay at true true h e = absurd (let bad : check_fault.Rule at C12 ∷ [] ≡ [] = h in cc)
  no_delay at false d h e = absurd (let bad : false ≡ true = e in cc)

  pub own_call : (n : ℕ) (os : List Operand) (u r : Use) → CalledOk true n os u r → Below f r → OwnCall n
  own_call n os u r c h =
      let at : ℕ = c.none.0 in
      let name_at : ℕ = c.none.1 in
      let after = none_right (calls.fit_faults at (heading_at n s).parameters os) _ c.none.2 in
      let last = none_right (calls.entry_faults name_at true (heading_at n s).is_entry) _ after in
      let waits = none_right (calls.own_faults name_at w n) _ last in
      record {
        entry = no_entry name_at (heading_at n s).is_entry (none_left (calls.entry_faults name_at true (heading_at n s).is_entry) _ after);
        other = not_own name_at n w.routine (none_left (calls.own_faults name_at w n) _ last);
        initial = no_delay name_at (calls.is_initial_of_monitor w) (body_at n s).delays (none_left (calls.delay_faults name_at w true (body_at n s)) _ waits);
        calm = λ e. or_right (calls.total_use u os).delays (body_at n s).delays (subst (Below f) (sym c.uses) h e);
      }

  pub entry_call : (n : ℕ) (os : List Operand) (u r : Use) → CalledOk false n os u r → (heading_at n s).is_entry ≡ true
  entry_call n os u r c =
      let before = none_right (calls.fit_faults c.none.0 (heading_at n s).parameters os) _ c.none.2 in
      let after = none_right (calls.quiet_faults c.none.0 w true) _ before in
      an_entry c.none.1 (heading_at n s).is_entry (none_left (calls.entry_faults c.none.1 false (heading_at n s).is_entry) _ after)

  -- the call of a function
  record FunctionOk (b : Bool) (n : ℕ) (os : List Operand) (u : Use) (p : Operand) : Type 0 where
    pub uses : Use
    pub called : CalledOk b n os u uses
    pub below : Below f p.uses → Below f uses
    pub result : (heading_at n s).result ≡ None → ⊥

  function_ok : (at name_at : ℕ) (b : Bool) (n : ℕ) (os : List Operand) (u : Use) (p : Operand) → calls.function_value s w at name_at b n os u ≡ Ok p → FunctionOk b n os u p
  unfolding calls.function_value
  function_ok at name_at b n os u p is = go (heading_at n s).result refl is
    where
      go : (v : Option ValueType) → (heading_at n s).result ≡ v → calls.function_of s w at name_at b n os u v ≡ Ok p → FunctionOk b n os u p
      go None same i = absurd (cc)
      go (Some v) same i =
          let t : Then (calls.check_routine_call s w at name_at b n os u) (calls.with_result at v) p = then_of (calls.check_routine_call s w at name_at b n os u) (calls.with_result at v) p i in
          record {
            uses = t.value;
            called = called_ok at name_at b n os u t.value t.is;
            below = λ h. first_below f t.value calls.one_call (subst (λ (z : Operand). Below f z.uses) (sym (ok_same (value at v (both_uses t.value calls.one_call)) p t.rest)) h);
            result = λ e. (let bad : None ≡ Some v = sym e ∙ same in cc);
          }

  -- ---- a name with its arguments

  abbrev pub IsValue : Named → Type 0
  IsValue Kind = ⊥
  IsValue Nothing = ⊥
  IsValue m = Unit {0}

  pub record ValueSaid (n : Named) (d : DesignatedName) (os : List Operand) : Type 0 where
    pub kind : IsValue n
    pub called : CalledAs n
    pub result : GivesResult n
    pub first : Below f d.uses
    pub others : AreBelow f os

  alone_said : (o p : Operand) (os : List Operand) → calls.alone o os ≡ Ok p → (os ≡ []) × (o ≡ p)
  alone_said o p [] e = (refl, ok_same o p e)
  alone_said o p (q ∷ os) e = absurd (cc)

  plain_said : (n : Named) (d : DesignatedName) (o p : Operand) (os : List Operand) → IsValue n → CalledAs n → GivesResult n → o.uses ≡ d.uses → calls.alone o os ≡ Ok p → Below f p.uses → ValueSaid n d os
  plain_said n d o p os v c g same is h =
      let x = alone_said o p os is in
      record { kind = v; called = c; result = g; first = subst (Below f) same (subst (λ (z : Operand). Below f z.uses) (sym x.1) h); others = subst (AreBelow f) (sym x.0) tt }

  pub value_said : (at : ℕ) (d : DesignatedName) (os : List Operand) (n : Named) (p : Operand) → calls.value_by_name s w at d os n ≡ Ok p → Below f p.uses → ValueSaid n d os
  value_said at d os (Constant b) p is h = plain_said (Constant b) d (value at (values_of b) d.uses) p os tt tt tt refl is h
  value_said at d os (Variable t) p is h = plain_said (Variable t) d (calls.operand_at at t (calls.place_of s t) d.uses) p os tt tt tt refl is h
  value_said at d os (Parameter t) p is h = plain_said (Parameter t) d (calls.operand_at at t _ d.uses) p os tt tt tt refl is h
  value_said at d os (Predeclared' q) p is h =
      let x = total_below f d.uses os (subst (Below f) (all_applied_same at q os (calls.total_use d.uses os) p is) h) in
      record { kind = tt; called = tt; result = tt; first = x.0; others = x.1 }
  value_said at d os (Routine n) p is h =
      let k : FunctionOk true n os d.uses p = function_ok at d.name_at true n os d.uses p is in
      let x = called_below true n os d.uses k.uses k.called (k.below h) in
      record { kind = tt; called = own_call n os d.uses k.uses k.called (k.below h); result = k.result; first = x.0; others = x.1 }
  value_said at d os (Entry n) p is h =
      let k : FunctionOk false n os d.uses p = function_ok at d.name_at false n os d.uses p is in
      let x = called_below false n os d.uses k.uses k.called (k.below h) in
      record { kind = tt; called = entry_call n os d.uses k.uses k.called; result = k.result; first = x.0; others = x.1 }
  value_said at d os x p is h = absurd (cc)
