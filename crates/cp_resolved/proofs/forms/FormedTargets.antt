-- What is assigned to, and what an assigned value is, where no rule is broken.
use Rattle.std.proofs.Common.{◌≡◌, ℕ, Bool, true, false, if◌then◌else◌, [], ◌∷◌, Option, Some, None, Ok, Err, refl, sym, ap, subst, ◌∙◌}
use Rattle.cp_resolved.proofs.Words.{Decides-eqb, Identifier, ValueType, Meaning, ◌>>=◌, Context, OperandUse, Predeclared, Named, is_assignable, expression}
use Rattle.cp_resolved.proofs.Words.{CheckFault, Judged, Use, Operand, Target, agree}
use Rattle.cp_resolved.proofs.Words.{designator, PlaceOrigin, Permanent, Name, result_name, Ty, natural_of, find, last_field, result_type, IsTarget, Here}
use Rattle.cp_resolved.proofs.Words.{frame_here, system_here, cells_of, is_own, is_parameter, AssignedBy, IsBare, HasResult, system_of}
use Rattle.cp_tree.specs.Syntax.{Designator, designator as name_with, Selectors, no_selectors, more_selectors}
use Rattle.cp_scope.specs.declared.types.Meaning.TheVariants as meaning
use Rattle.cp_scope.specs.Scopes.{Scopes, look, heading_at}
use Rattle.cp_check.specs.declared.operand.OperandUse.TheVariants as place
use Rattle.cp_check.specs.declared.operand.DesignatedName as check_designated
use Rattle.cp_check.specs.declared.operand.Named.TheVariants as name
use Rattle.cp_check.specs.declared.statement.Target.TheVariants as target
use Rattle.cp_check.specs.Operations as operations
use Rattle.cp_check.specs.Names as names
use Rattle.cp_check.specs.Calls as calls
use Rattle.cp_check.specs.Statements as statements
use Rattle.cp_check.specs.Statements.{target_of}
use Rattle.cp_slots.specs.Code as code
use Rattle.cp_meaning.specs.Types as named
use Rattle.cp_meaning.specs.Scopes as scopes
use Rattle.cp_resolved.specs.Compiled.{as_ordinal, as_set, as_place, Formed, Designated, a_variable, some_components, a_component, then_form, result_begun, component_begun, permanent_begun, begun_form, designator_form}
use Rattle.cp_resolved.specs.Typed.{Tokens, Written, OrdinalIs, TypeIs, is_plain, IsOrdinalResult, ResultIs, RoutineIs, HeadingIs, ScopesAgree}
use Rattle.cp_resolved.proofs.forms.AssignableForms.{free_place, components_fixed}
use Rattle.cp_resolved.proofs.forms.HandedOver.{Fits, IsWhole}
use Rattle.cp_resolved.proofs.forms.Typing.{formed}
use Rattle.cp_resolved.proofs.forms.TypingNames.{IsPlainMeaning, Holds, written, NamedIs}
use Rattle.cp_resolved.proofs.forms.UsedNames.{IsVariableMeaning, known_is, other_bare}
use Rattle.cp_resolved.proofs.agreeing.WithoutFaults.{ok_same, Then, then_of, if_of}

-- ---- values

-- what is assigned: no queue and no component
abbrev pub IsTaken : Ty → Type 0
IsTaken named.queue_type = ⊥
IsTaken (named.component_of n) = ⊥
IsTaken t = Unit {0}

pub record Taken (t : Ty) (p : code.Place) (f : Option Formed) : Type 0 where
  pub value : Formed
  pub act : code.Action
  pub is : f ≡ Some value
  pub assigned : AssignedBy t p value.ty value.form act

pub taken : (w : Written) (t : Ty) (p : code.Place) (f : Option Formed) → IsTaken t → Fits w t f → Taken t p f
taken w (named.ordinal r) p f i x = record { value = formed x.ty (as_ordinal x.code); act = code.assign p x.code r.low r.high; is = x.is; assigned = refl }
taken w (named.set_over r) p f i x = record { value = formed x.ty (as_set x.code); act = code.assign_set p x.code (natural_of r.low) (natural_of r.high); is = x.is; assigned = refl }
taken w (named.array_over r t) p f i x = record { value = formed (named.array_over r t) (as_place x.place); act = code.copy_cells p x.place (cells_of (named.array_over r t)); is = x.is; assigned = (refl, refl) }
taken w (named.record_with ts) p f i x = record { value = formed (named.record_with ts) (as_place x.place); act = code.copy_cells p x.place (cells_of (named.record_with ts)); is = x.is; assigned = (refl, refl) }
taken w _ p f i x = absurd i

plain_whole : (w : Written) (t : Ty) → is_plain t ≡ true → IsWhole w t
plain_whole w (named.component_of n) p = tt
plain_whole w _ p = p

-- ---- places of names

-- the whole of a variable
pub record AtFirst (p : code.Place) : Type 0 where
  pub origin : PlaceOrigin
  pub is : p ≡ code.place origin 0 code.no_indices

variable_place : (p q : code.Place) (t u : Ty) → Some (a_variable p t) ≡ Some (a_variable q u) → p ≡ q
variable_place p q t u e = cc

component_variable : (h : Here) (x : Name) (k : ℕ) (b : Bool) (q : code.Place) (u : Ty) → Some (component_begun h x k b) ≡ Some (a_variable q u) → ⊥
component_variable h x k true q u e = cc
component_variable h x k false q u e = cc

-- a variable that stands for one value
permanent_first : (h : Here) (x : Name) (t : Ty) (q : code.Place) (r : named.Range) → Some (permanent_begun h x t) ≡ Some (a_variable q (named.ordinal r)) → AtFirst q
permanent_first h x (named.ordinal z) q r e = record { origin = Permanent ((system_here h).slots x); is = sym (variable_place (code.place (Permanent ((system_here h).slots x)) 0 code.no_indices) q (named.ordinal z) (named.ordinal r) e) }
permanent_first h x (named.component_of k) q r e = absurd (component_variable h x k (is_parameter x (system_of h.program h.system).parameters) q (named.ordinal r) e)
permanent_first h x (named.array_over z (named.component_of k)) q r e = absurd (cc)
permanent_first h x y q r e = absurd (cc)

result_first : (h : Here) (b : Bool) (q : code.Place) (t : Ty) → result_begun h b ≡ Some (a_variable q t) → AtFirst q
result_first h true q t e = record { origin = (frame_here h).origins result_name; is = sym (variable_place (code.place ((frame_here h).origins result_name) 0 code.no_indices) q (result_type (h.layouts.meanings h.routine).result) t e) }
result_first h false q t e = absurd (cc)

pub begun_first : (h : Here) (x : Name) (m : Option scopes.Meaning) (q : code.Place) (r : named.Range) → begun_form h x m ≡ Some (a_variable q (named.ordinal r)) → AtFirst q
begun_first h x (Some (scopes.permanent_variable t)) q r e = permanent_first h x t q r e
begun_first h x (Some (scopes.local_variable t)) q r e = record { origin = (frame_here h).origins x; is = sym (variable_place (code.place ((frame_here h).origins x) 0 code.no_indices) q t (named.ordinal r) e) }
begun_first h x (Some (scopes.routine_meaning f)) q r e = result_first h (is_own h x) q (named.ordinal r) e
begun_first h x y q r e = absurd (cc)

-- ---- what is assigned to

pub aimed_is : (at : ℕ) (t x : Target) → statements.check_target at t ≡ Ok x → t ≡ x
aimed_is at (target.Assignable v) x e = ok_same (target.Assignable v) x e
aimed_is at (target.Fixed o) x e = ok_same (target.Fixed o) x e
aimed_is at target.Kind x e = absurd (cc)

pub record Assigns (t : Target) (o : Operand) (u r : Use) : Type 0 where
  pub value_type : ValueType
  pub is : t ≡ target.Assignable value_type
  pub fits : agree value_type o.value_type ≡ true
  pub uses : u ≡ r

pub either_refused : (A : Type 0) (b : Bool) (f g : CheckFault) (r : A) → (if b then (let j : Judged A = Err (f ∷ []) in j) else Err (g ∷ [])) ≡ Ok r → ⊥
either_refused A true f g r e = cc
either_refused A false f g r e = cc

pub assigns : (at : ℕ) (t : Target) (o : Operand) (u r : Use) → statements.check_assignment at t o u ≡ Ok r → Assigns t o u r
assigns at (target.Assignable v) o u r e = (let x = if_of (agree v o.value_type) u r _ [] e in record { value_type = v; is = refl; fits = x.0; uses = x.1 })
assigns at (target.Fixed (Some v)) o u r e = absurd (either_refused Use (agree v o.value_type) _ _ r e)
assigns at x o u r e = absurd (cc)

module _ (tokens : Tokens) (s : Scopes) (h : Here) (w : Context) (agrees : ScopesAgree tokens s h) where
  abbrev W : Written
  W = written tokens s h

  -- of the routine in which the statement stands; if it is a function, its name is that of its result
  pub record OwnRoutine (n : ℕ) : Type 0 where
    pub named : (y : Name) → look y s ≡ Some (Some (meaning.Routine n)) → HasResult (h.layouts.meanings h.routine).result → is_own h y ≡ true
    pub heading : HeadingIs W (heading_at n s) (Some (h.layouts.meanings h.routine))

  -- a name with selectors that may be assigned to
  pub record TargetFormed (i : Identifier) (ss : Selectors) (v : ValueType) (o : Option Designated) : Type 0 where
    pub place : code.Place
    pub ty : Ty
    pub is : o ≡ Some (a_variable place ty)
    pub belongs : TypeIs W ty v
    pub whole : IsWhole W ty
    pub taken : IsTaken ty
    pub named : IsTarget h (find i.name h.scope) (name_with i ss)

  plain_target : (m : Option scopes.Meaning) (d : Designator) → IsPlainMeaning m → IsTarget h m d
  plain_target (Some (scopes.local_variable t)) d i = tt
  plain_target (Some (scopes.permanent_variable t)) d i = tt
  plain_target _ d i = absurd i

  free_taken : (t : Ty) (v : ValueType) → TypeIs W t v → is_plain t ≡ true → calls.is_fixed s v ≡ false → IsTaken t
  free_taken named.queue_type v i p f = absurd (let bad : true ≡ false = sym (ap (calls.is_fixed s) i) ∙ f in cc)
  free_taken (named.component_of n) v i p f = absurd (cc)
  free_taken _ v i p f = tt

  variable_target : (i : Identifier) (ss : Selectors) (x : Option Name) (v : ValueType) (o : Option Designated) → Holds W (find i.name h.scope) x v o → calls.is_fixed s v ≡ false → TargetFormed i ss v o
  variable_target i ss x v (Some (a_variable p t)) k free = record { place = p; ty = t; is = refl; belongs = k.0; whole = plain_whole W t k.1; taken = free_taken t v k.0 k.1 free; named = plain_target (find i.name h.scope) (name_with i ss) k.2 }
  variable_target i ss x v (Some (some_components first q k)) e free = absurd (let bad : true ≡ false = sym (components_fixed tokens s h w agrees v q k e.0) ∙ free in cc)
  variable_target i ss x v (Some (a_component c k)) e free = absurd (let bad : true ≡ false = sym (ap (calls.is_fixed s) e.0.is) ∙ free in cc)
  variable_target i ss x v None e free = absurd e

  -- ---- the name of the function

  ordinal_own : (v : ValueType) (o : Option Ty) → IsOrdinalResult tokens v o → (q : named.Range) × (o ≡ Some (named.ordinal q)) × OrdinalIs tokens q v
  ordinal_own v (Some (named.ordinal q)) k = (q, refl, k)
  ordinal_own v _ k = absurd k

  routine_target : (m : Option scopes.Meaning) (d : Designator) (n : Name) (x : ℕ) → RoutineIs W (heading_at x s) n h.scope m → IsBare d → HasResult (h.layouts.meanings h.routine).result → IsTarget h m d
  routine_target (Some (scopes.routine_meaning r)) d n x k b c = (b, c)
  routine_target _ d n x k b c = absurd k

  pub routine_begun : (m : Option scopes.Meaning) (n : Name) (x : ℕ) → RoutineIs W (heading_at x s) n h.scope m → begun_form h n m ≡ result_begun h (is_own h n)
  routine_begun (Some (scopes.routine_meaning r)) n x k = refl
  routine_begun _ n x k = absurd k

  own_target : (i : Identifier) (n : ℕ) (v : ValueType) → OwnRoutine n → look i.name s ≡ Some (Some (meaning.Routine n)) → RoutineIs W (heading_at n s) i.name h.scope (find i.name h.scope) → (heading_at n s).result ≡ Some v → TargetFormed i no_selectors v (begun_form h i.name (find i.name h.scope))
  own_target i n v own there k result =
      let o = ordinal_own v (h.layouts.meanings h.routine).result (subst (λ (z : Option ValueType). ResultIs tokens z (Some (h.layouts.meanings h.routine))) result own.heading.0) in
      record {
        place = code.place ((frame_here h).origins result_name) 0 code.no_indices;
        ty = named.ordinal o.0;
        is = routine_begun (find i.name h.scope) i.name n k ∙ ap (result_begun h) (own.named i.name there (subst HasResult (sym o.1) tt)) ∙ ap (λ z. Some (a_variable (code.place ((frame_here h).origins result_name) 0 code.no_indices) (result_type z))) o.1;
        belongs = o.2;
        whole = refl;
        taken = tt;
        named = routine_target (find i.name h.scope) (name_with i no_selectors) i.name n k tt (subst HasResult (sym o.1) tt);
      }

  pub begun_routine : (i : Identifier) (c : check_designated.DesignatedName) (n : ℕ) → names.meaning_of_name s i ≡ Ok c → c.named ≡ name.Routine n → look i.name s ≡ Some (Some (meaning.Routine n))
  unfolding names.meaning_of_name names.visible
  begun_routine i c n is e = go (look i.name s) refl is
    where
      routine : (m : Meaning) → names.without_selectors m ≡ name.Routine n → m ≡ meaning.Routine n
      routine (meaning.Routine k) g = ap meaning.Routine (let one : k ≡ n = cc in one)
      routine (meaning.Constant b z) g = absurd (cc)
      routine (meaning.Kind v) g = absurd (cc)
      routine (meaning.Variable v) g = absurd (cc)
      routine (meaning.Parameter v) g = absurd (cc)
      routine (meaning.Reference v) g = absurd (cc)
      routine (meaning.Predeclared q) g = absurd (cc)

      go : (o : Option (Option Meaning)) → look i.name s ≡ o → (names.check_visible i.at o >>= names.designation_of i.at) ≡ Ok c → look i.name s ≡ Some (Some (meaning.Routine n))
      go (Some (Some m)) j k = j ∙ ap (λ (z : Meaning). Some (Some z)) (routine m (ap (λ (d : check_designated.DesignatedName). d.named) (ok_same _ c k) ∙ e))
      go x j k = absurd (cc)

  record IsOwnHere (n : ℕ) (v : ValueType) : Type 0 where
    pub routine : w.routine ≡ Some n
    pub result : (heading_at n s).result ≡ Some v

  own_here : (n : ℕ) (v : ValueType) → target_of s w (name.Routine n) ≡ target.Assignable v → IsOwnHere n v
  own_here n v e = go (heading_at n s).result refl e
    where
      same_type : (a b : ValueType) → target.Assignable a ≡ target.Assignable b → a ≡ b
      same_type a b k = cc

      owned : (o : Option ℕ) → w.routine ≡ o → (calls.is_own_of o n) ≡ true → w.routine ≡ Some n
      owned (Some k) j y = j ∙ ap Some ((Decides-eqb k n).0 y)
      owned None j y = absurd (cc)

      inner : (b : Bool) (u : ValueType) → calls.is_own w n ≡ b → (heading_at n s).result ≡ Some u → (if b then target.Assignable u else target.Fixed None) ≡ target.Assignable v → IsOwnHere n v
      inner true u j k x = record { routine = owned w.routine refl j; result = k ∙ ap Some (same_type u v x) }
      inner false u j k x = absurd (cc)

      go : (o : Option ValueType) → (heading_at n s).result ≡ o → statements.result_target s w n true o ≡ target.Assignable v → IsOwnHere n v
      go None j k = absurd (cc)
      go (Some u) j k = inner (calls.is_own w n) u refl j k

  -- ---- targets

  variable_aimed : (i : Identifier) (ss : Selectors) (x : Option Name) (u v : ValueType) (o : Option Designated) → Holds W (find i.name h.scope) x u o → target_of s w (name.Variable u) ≡ target.Assignable v → TargetFormed i ss v o
  variable_aimed i ss x u v o k e = go (calls.place_of s u) refl e
    where
      same_type : (a b : ValueType) → target.Assignable a ≡ target.Assignable b → a ≡ b
      same_type a b z = cc

      go : (z : OperandUse) → calls.place_of s u ≡ z → (if is_assignable z then target.Assignable u else target.Fixed (Some u)) ≡ target.Assignable v → TargetFormed i ss v o
      go place.Assignable j y = subst (λ z. TargetFormed i ss z o) (same_type u v y) (variable_target i ss x u o k (free_place tokens s h w agrees u (ap is_assignable j)))
      go x j y = absurd (cc)

  pub no_entry : (n : ℕ) (v : ValueType) → target_of s w (name.Entry n) ≡ target.Assignable v → ⊥
  no_entry n v e = go (heading_at n s).result e
    where
      go : (o : Option ValueType) → statements.result_target s w n false o ≡ target.Assignable v → ⊥
      go None x = cc
      go (Some u) x = cc

  pub no_standard : (q : Predeclared) (v : ValueType) → target_of s w (name.Predeclared q) ≡ target.Assignable v → ⊥
  no_standard q v e = go (operations.is_function q) e
    where
      go : (b : Bool) → (if b then target.Fixed None else target.Kind) ≡ target.Assignable v → ⊥
      go true x = cc
      go false x = cc

  -- a name alone
  pub begun_target : (own : (n : ℕ) → w.routine ≡ Some n → OwnRoutine n) (i : Identifier) (c : check_designated.DesignatedName) (n : Named) (v : ValueType) → c.named ≡ n → names.meaning_of_name s i ≡ Ok c → NamedIs tokens s h i.name (find i.name h.scope) None n (begun_form h i.name (find i.name h.scope)) → target_of s w n ≡ target.Assignable v → TargetFormed i no_selectors v (begun_form h i.name (find i.name h.scope))
  begun_target own i c (name.Variable u) v same is k e = variable_aimed i no_selectors None u v (begun_form h i.name (find i.name h.scope)) k e
  begun_target own i c (name.Routine n) v same is k e = (let o : IsOwnHere n v = own_here n v e in own_target i n v (own n o.routine) (begun_routine i c n is same) k o.result)
  begun_target own i c (name.Entry n) v same is k e = absurd (no_entry n v e)
  begun_target own i c (name.Predeclared q) v same is k e = absurd (no_standard q v e)
  begun_target own i c x v same is k e = absurd (cc)

  pub only : (o : Option Designated) → o ≡ then_form o (λ a. Some a)
  only None = refl
  only (Some a) = refl

  bare_target : (own : (n : ℕ) → w.routine ≡ Some n → OwnRoutine n) (i : Identifier) (ss : Selectors) (c : check_designated.DesignatedName) (n : ℕ) (v : ValueType) → ss ≡ no_selectors → c.named ≡ name.Routine n → designator s w (name_with i ss) ≡ Ok c → RoutineIs W (heading_at n s) i.name h.scope (find i.name h.scope) → target_of s w (name.Routine n) ≡ target.Assignable v → TargetFormed i ss v (designator_form h (name_with i ss))
  unfolding expression
  bare_target own i no_selectors c n v none same is k e =
      let t : Then (names.meaning_of_name s i) (names.check_selectors i.at) c = then_of (names.meaning_of_name s i) (names.check_selectors i.at) c is in
      let one : t.value ≡ c = known_is s w i.at t.value c t.rest in
      let o : IsOwnHere n v = own_here n v e in
      subst (TargetFormed i no_selectors v) (only (begun_form h i.name (find i.name h.scope)))
      (own_target i n v (own n o.routine) (begun_routine i t.value n t.is (ap (λ (d : check_designated.DesignatedName). d.named) one ∙ same)) k o.result)
  bare_target own i (more_selectors x ss) c n v none same is k e = absurd (cc)

  pub no_selector : (i : Identifier) (ss : Selectors) → IsBare (name_with i ss) → ss ≡ no_selectors
  no_selector i no_selectors b = refl
  no_selector i (more_selectors x ss) b = absurd b

  pub routine_no_variable : (n : Name) (x : ℕ) (m : Option scopes.Meaning) → RoutineIs W (heading_at x s) n h.scope m → IsVariableMeaning m → ⊥
  routine_no_variable n x (Some (scopes.local_variable t)) k v = k
  routine_no_variable n x (Some (scopes.permanent_variable t)) k v = k
  routine_no_variable n x _ k v = v

  -- a name with selectors
  pub designated_target : (own : (n : ℕ) → w.routine ≡ Some n → OwnRoutine n) (i : Identifier) (ss : Selectors) (c : check_designated.DesignatedName) (n : Named) (v : ValueType) → c.named ≡ n → designator s w (name_with i ss) ≡ Ok c → NamedIs tokens s h i.name (find i.name h.scope) (last_field ss) n (designator_form h (name_with i ss)) → target_of s w n ≡ target.Assignable v → TargetFormed i ss v (designator_form h (name_with i ss))
  designated_target own i ss c (name.Variable u) v same is k e = variable_aimed i ss (last_field ss) u v (designator_form h (name_with i ss)) k e
  designated_target own i ss c (name.Routine n) v same is k e =
      bare_target own i ss c n v (no_selector i ss (other_bare tokens s h w agrees i ss c (routine_no_variable i.name n (find i.name h.scope) k) is)) same is k e
  designated_target own i ss c (name.Entry n) v same is k e = absurd (no_entry n v e)
  designated_target own i ss c (name.Predeclared q) v same is k e = absurd (no_standard q v e)
  designated_target own i ss c x v same is k e = absurd (cc)
