-- Expressions give the same on names and on slots: the induction.
use Rattle.std.proofs.Common.{◌≡◌, ◌∙◌, ℕ, ◌++◌, Bool, true, false, not, if◌then◌else◌, List, [], Option, Some, None, ap, sym, refl, subst, arith}
use Rattle.cp_machine_laws.proofs.Words.{ℤ, pos, neg_ℤ, int_lt, ◌&&◌, Result, Ok, Err, Identifier, Relation, Addition, Multiplication, Tables, Address, Frame, Memory, cell_at}
use Rattle.cp_machine_laws.proofs.Words.{then_with, temporary, Outcome, ◌>>=◌, Scope, Meaning, constant_meaning, standard_meaning, Standard, find, View, Target, target_named}
use Rattle.cp_machine_laws.proofs.Words.{value_at, plain_place, this_call, plain_value, plain_set, plain_address, encode, HasType, Sign, BlockAt, LiesAt, IsKept, AreKept}
use Rattle.cp_tree.specs.declared.constant.Sign.TheVariants as sign
use Rattle.cp_tree.specs.Syntax.{Expression, alone, related, Sum, sum, Terms, no_terms, more_terms, Term, term, Factors, no_factors, more_factors, Factor, number, character, named, group, negated, set_of, Expressions, no_expressions, more_expressions, Designator, designator, Selectors, no_selectors, more_selectors, Selector, field, index, Program}
use Rattle.cp_store.specs.declared.error.ErrorName as slots
use Rattle.cp_store.specs.Sets as sets
use Rattle.cp_store.specs.Values as cells
use Rattle.cp_meaning.specs.Types.{Ty, ordinal, set_over, queue_type, array_over, record_with, component_of, Base, integers, characters, Range, all_integers, all_booleans, is_within}
use Rattle.cp_meaning.specs.Values.{Value, number_value, array_value, record_value, set_value, queue_value, number_of}
use Rattle.cp_meaning.specs.Operations.{Typed, truth, is_true, related_values, added_values, multiplied_values, signed_value, standard_value, range_of_base}
use Rattle.cp_meaning.specs.Expressions.{value, sum_value, terms_value, term_value, factors_value, factor_value, first_value, members_value, with_member_checked, target_value, selected, chosen, named_value, call_value, result_called, routine_called}
use Rattle.cp_meaning.specs.Lifting.{is_call, own_call, expression_calls, sum_calls, terms_calls, term_calls, factors_calls, factor_calls, expressions_calls, designator_calls, selectors_calls, selector_calls}
use Rattle.cp_slots.specs.Code as code
use Rattle.cp_resolved.specs.Layouts.{Layouts, Here, frame_here, look}
use Rattle.cp_resolved.specs.Compiled.{Form, as_ordinal, as_set, Formed, Designated, a_variable, then_form, is_integer, is_boolean, compared_forms, added_forms, multiplied_forms, signed_ordinal, signed_form, not_form_of, not_form, applied_form, valued_form, loaded_form, call_form, constant_form, named_form, begun_form, expression_form, sum_form, terms_form, term_form, factors_form, factor_form, first_form, members_form, set_form, with_member_form, designator_form, selected_form, chosen_form}
use Rattle.cp_machine_laws.specs.Agrees.{OrdinalAgrees, SetAgrees, PlaceAgrees, FormAgrees, TargetAgrees, DesignatedAgrees, BegunAgrees, Sees}
use Rattle.cp_machine_laws.proofs.expressions.Choosing.{field_ok, index_ok}
use Rattle.cp_machine_laws.proofs.calls.Kept.{kept_left, kept_right}
use Rattle.cp_machine_laws.proofs.expressions.Standards.{base_again, signed_plus, applied_ok}
use Rattle.cp_machine_laws.proofs.expressions.Numbers.{fits_narrowed, not_same}
use Rattle.cp_machine_laws.proofs.expressions.Sets.{sets_related, member, sets_added, sets_multiplied, set_loaded, MembersAgree, member_added, set_constructed, members_done}
use Rattle.cp_machine_laws.proofs.expressions.Values.{then_some, FormOk, one_agrees, related_cells, added_agree, multiplied_agree, truth_range}
use Rattle.cp_resolved.proofs.components.ComponentImages.{both as both_true}
use Rattle.cp_machine_laws.proofs.expressions.SetCells.{no_further as further_none}

-- ---- what lies at an address

-- an ordinal is a number in its cell
pub number_lies : (m : Memory) (r : Range) (w : Value) (a : Address) → LiesAt m (ordinal r) w a → (z : ℤ) × (w ≡ number_value z) × (cell_at m a ≡ z) × (is_within (range_of_base r.base) z ≡ true)
number_lies m r w a h = go w h.typed h.block
  where
    go : (w : Value) → HasType (ordinal r) w → BlockAt m a (encode w) → (z : ℤ) × (w ≡ number_value z) × (cell_at m a ≡ z) × (is_within (range_of_base r.base) z ≡ true)
    go (number_value z) t b = (z, refl, ap (cell_at m) (sym (further_none a)) ∙ b 0 (omega arith), t)
    go (array_value vs) t b = absurd t
    go (record_value fs) t b = absurd t
    go (set_value ns) t b = absurd t
    go (queue_value o) t b = absurd t

-- ---- binding

pub bind_assoc : {A B C : Type 0} (o : Outcome A) (F : A → Outcome B) (G : B → Outcome C) → ((o >>= F) >>= G) ≡ (o >>= λ x. F x >>= G)
bind_assoc (Ok x) F G = refl
bind_assoc (Err e) F G = refl

chain_assoc : {A B C D : Type 0} (o : Outcome A) (p : Outcome B) (F : A → B → Outcome C) (G : C → Outcome D) → ((o >>= λ x. p >>= λ y. F x y) >>= G) ≡ (o >>= λ x. p >>= λ y. F x y >>= G)
chain_assoc (Ok x) p F G = bind_assoc p (F x) G
chain_assoc (Err e) p F G = refl

ok_some : (m : Memory) (f : Frame) (o : Outcome Typed) (w : Option Formed) (z : Formed) → w ≡ Some z → FormOk m f o w → FormAgrees m f o z.ty z.form
ok_some m f o w z e h = subst (λ (k : Option Formed). FormOk m f o k) e h

module _ (r : Tables) (l : Layouts) (fs : List Frame) (v : View) (m : Memory) (f : Frame) (h : Here) (sees : Sees r l fs v m f h) where
  related_ok : (q : Relation) (t u : Ty) (x y : Form) (o p : Outcome Typed) → FormAgrees m f o t x → FormAgrees m f p u y → FormOk m f (o >>= λ a. p >>= λ b. Ok (truth (related_values q a.value b.value))) (compared_forms q x y)
  related_ok q t u (as_ordinal a) (as_ordinal b) o p i j = related_cells m f q t u a b o p i j
  related_ok q t u (as_ordinal a) (as_set b) o p i j = member m f q t u a b o p i j
  related_ok q t u (as_set a) (as_set b) o p i j = sets_related m f q t u a b o p i j
  related_ok q t u _ _ o p i j = tt

  added_ok : (op : Addition) (x y : Formed) (a b : Form) (o p : Outcome Typed) → FormAgrees m f o x.ty a → FormAgrees m f p y.ty b → FormOk m f (o >>= λ i. p >>= λ j. added_values op i.value j.value) (added_forms op x y a b)
  added_ok op x y (as_ordinal a) (as_ordinal b) o p i j = added_agree m f op x.ty y.ty (is_integer x.ty && is_integer y.ty) (is_boolean x.ty && is_boolean y.ty) a b o p (both_true (is_integer x.ty) (is_integer y.ty)) (both_true (is_boolean x.ty) (is_boolean y.ty)) i j
  added_ok op x y (as_set a) (as_set b) o p i j = sets_added m f op x y a b o p i j
  added_ok op x y _ _ o p i j = tt

  multiplied_ok : (op : Multiplication) (x y : Formed) (a b : Form) (o p : Outcome Typed) → FormAgrees m f o x.ty a → FormAgrees m f p y.ty b → FormOk m f (o >>= λ i. p >>= λ j. multiplied_values op i.value j.value) (multiplied_forms op x y a b)
  multiplied_ok op x y (as_ordinal a) (as_ordinal b) o p i j = multiplied_agree m f op x.ty y.ty (is_integer x.ty && is_integer y.ty) (is_boolean x.ty && is_boolean y.ty) a b o p (both_true (is_integer x.ty) (is_integer y.ty)) (both_true (is_boolean x.ty) (is_boolean y.ty)) i j
  multiplied_ok op x y (as_set a) (as_set b) o p i j = sets_multiplied m f op x y a b o p i j
  multiplied_ok op x y _ _ o p i j = tt

  negated_step : (t : Ty) (x : Typed) (a : ℤ) → is_boolean t ≡ true → x.value ≡ number_value a → HasType t (number_value a) → OrdinalAgrees (Ok (truth (if is_true x then false else true))) (ordinal all_booleans) (Ok (cells.truth (not (cells.is_true a))))
  negated_step t x a b e d = subst (λ (w : Value). OrdinalAgrees (Ok (truth (if int_lt (pos 0) (number_of w) then false else true))) (ordinal all_booleans) (Ok (cells.truth (not (cells.is_true a))))) (sym e) (not_same a (truth_range t a b d))

  not_ok : (x : Formed) (b : Bool) (a : Form) (o : Outcome Typed) → is_boolean x.ty ≡ b → FormAgrees m f o x.ty a → FormOk m f (o >>= λ i. Ok (truth (if is_true i then false else true))) (not_form_of b a)
  not_ok x true (as_ordinal c) o e i = one_agrees x.ty (ordinal all_booleans) _ _ o (plain_value m f c) (λ y a d k. negated_step x.ty y a e d k) i
  not_ok x _ _ o e i = tt

  minus_step : (x : Typed) (a : ℤ) → x.value ≡ number_value a → OrdinalAgrees (signed_value (Some sign.Minus) x) (ordinal all_integers) (cells.negate a)
  minus_step x a e = subst (λ (w : Value). OrdinalAgrees (signed_value (Some sign.Minus) (record { ty = x.ty; value = w })) (ordinal all_integers) (cells.negate a)) (sym e) (fits_narrowed (neg_ℤ a))

  signed_ok : (s : Option Sign) (x : Formed) (b : Bool) (a : Form) (o : Outcome Typed) → x.form ≡ a → is_integer x.ty ≡ b → FormAgrees m f o x.ty a → FormOk m f (o >>= signed_value s) (signed_ordinal s x b a)
  signed_ok None x b a o d e i = unsigned o (subst (λ (k : Form). FormAgrees m f o x.ty k) (sym d) i)
    where
      unsigned : (o : Outcome Typed) → FormAgrees m f o x.ty x.form → FormAgrees m f (o >>= signed_value None) x.ty x.form
      unsigned (Ok y) k = k
      unsigned (Err y) k = k
  signed_ok (Some sign.Plus) x true (as_ordinal c) o d e i = signed_plus m f x c o e i
  signed_ok (Some sign.Minus) x true (as_ordinal c) o d e i = one_agrees x.ty (ordinal all_integers) _ _ o (plain_value m f c) (λ y a k j. minus_step y a k) i
  signed_ok _ x _ _ o d e i = tt

  -- ---- variables

  number_ok : (q : Range) (p : code.Place) (x : Target) (w : Value) (a : Address) → plain_address m f p ≡ Ok a → LiesAt m (ordinal q) w a → OrdinalAgrees (Ok (record { ty = ordinal q; value = w })) (ordinal q) (plain_value m f (code.load p))
  number_ok q p x w a e i =
      let k = number_lies m q w a i in
      subst (λ (s : Result Address slots.ErrorName). OrdinalAgrees (Ok (record { ty = ordinal q; value = w })) (ordinal q) (then_with s (λ at. Ok (cell_at m at)))) (sym e) (refl, k.1 ∙ ap number_value (sym k.2), subst (λ (z : ℤ). is_within (range_of_base q.base) z ≡ true) (sym k.2) k.3)

  loaded_ok : (t : Ty) (p : code.Place) (o : Outcome Target) (s : Result Address slots.ErrorName) → plain_address m f p ≡ s → TargetAgrees r l fs o t s → FormAgrees m f (o >>= λ x. Ok (record { ty = x.ty; value = value_at v x.place })) t (loaded_form p t)
  loaded_ok t p (Ok x) (Ok a) e i = subst (λ (u : Ty). FormAgrees m f (Ok (record { ty = u; value = value_at v x.place })) t (loaded_form p t)) (sym i.0) (of_type t (sees.lies x.place t a i.1))
    where
      of_type : (t : Ty) → LiesAt m t (value_at v x.place) a → FormAgrees m f (Ok (record { ty = t; value = value_at v x.place })) t (loaded_form p t)
      of_type (ordinal q) k = number_ok q p x (value_at v x.place) a e k
      of_type (set_over q) k = set_loaded m f sees.few q p (value_at v x.place) a e k
      of_type queue_type k = subst (λ (s : Result Address slots.ErrorName). PlaceAgrees m (Ok (record { ty = queue_type; value = value_at v x.place })) queue_type s) (sym e) (refl, k)
      of_type (array_over q u) k = subst (λ (s : Result Address slots.ErrorName). PlaceAgrees m (Ok (record { ty = array_over q u; value = value_at v x.place })) (array_over q u) s) (sym e) (refl, k)
      of_type (record_with ts) k = subst (λ (s : Result Address slots.ErrorName). PlaceAgrees m (Ok (record { ty = record_with ts; value = value_at v x.place })) (record_with ts) s) (sym e) (refl, k)
      of_type (component_of n) k = subst (λ (s : Result Address slots.ErrorName). PlaceAgrees m (Ok (record { ty = component_of n; value = value_at v x.place })) (component_of n) s) (sym e) (refl, k)
  loaded_ok t p (Err x) (Err a) e i = failed t
    where
      failed : (t : Ty) → FormAgrees m f (Err x) t (loaded_form p t)
      failed (ordinal q) = subst (λ (s : Result Address slots.ErrorName). OrdinalAgrees (Err x) (ordinal q) (then_with s (λ at. Ok (cell_at m at)))) (sym e) i
      failed (set_over q) = subst (λ (s : Result Address slots.ErrorName). SetAgrees (Err x) (set_over q) (then_with s (λ at. Ok (sets.load_set m at)))) (sym e) i
      failed queue_type = subst (λ (s : Result Address slots.ErrorName). PlaceAgrees m (Err x) queue_type s) (sym e) i
      failed (array_over q u) = subst (λ (s : Result Address slots.ErrorName). PlaceAgrees m (Err x) (array_over q u) s) (sym e) i
      failed (record_with ts) = subst (λ (s : Result Address slots.ErrorName). PlaceAgrees m (Err x) (record_with ts) s) (sym e) i
      failed (component_of n) = subst (λ (s : Result Address slots.ErrorName). PlaceAgrees m (Err x) (component_of n) s) (sym e) i
  loaded_ok t p _ _ e i = absurd i

  abbrev BegunOk : Outcome Target → Option Designated → Type 0
  BegunOk o None = Unit {0}
  BegunOk o (Some d) = DesignatedAgrees r l fs m f o d

  begun_is : (x : Target) (w : Option Designated) → BegunAgrees r l fs m f x w → BegunOk (Ok x) w
  begun_is x None i = tt
  begun_is x (Some d) i = i

  valued_ok : (d : Designated) (o : Outcome Target) → DesignatedAgrees r l fs m f o d → FormOk m f (o >>= λ x. Ok (record { ty = x.ty; value = value_at v x.place })) (valued_form d)
  valued_ok (a_variable p t) o i = loaded_ok t p o (plain_address m f p) refl i
  valued_ok _ o i = tt

  then_valued_ok : (w : Option Designated) (o : Outcome Target) → ((d : Designated) → w ≡ Some d → DesignatedAgrees r l fs m f o d) → FormOk m f (o >>= λ x. Ok (record { ty = x.ty; value = value_at v x.place })) (then_form w valued_form)
  then_valued_ok None o k = tt
  then_valued_ok (Some d) o k = valued_ok d o (k d refl)

  then_applied_ok : (s : Standard) (w : Option Formed) (o : Outcome Typed) → ((x : Formed) → w ≡ Some x → FormAgrees m f o x.ty x.form) → FormOk m f (o >>= standard_value s) (then_form w (applied_form s))
  then_applied_ok s None o k = tt
  then_applied_ok s (Some x) o k = applied_ok m f s x o (k x refl)

  constant_ok : (b : Base) (z : ℤ) → FormOk m f (Ok (record { ty = ordinal (range_of_base b); value = number_value z })) (constant_form b z)
  constant_ok b z = go (is_within (range_of_base b) z) refl
    where
      go : (c : Bool) → is_within (range_of_base b) z ≡ c → FormOk m f (Ok (record { ty = ordinal (range_of_base b); value = number_value z })) (if c then Some (record { ty = ordinal (range_of_base b); form = as_ordinal (code.number z) }) else None)
      go true e = (refl, refl, subst (λ (q : Range). is_within q z ≡ true) (sym (base_again b)) e)
      go false e = tt

  -- the result of a call lies in its cell
  result_ok : (at : ℕ) (t : Ty) → look (temporary at) (frame_here h).variables ≡ Some t → FormOk m f (Ok (record { ty = t; value = value_at v (plain_place (this_call v) (temporary at)) })) (call_form h at t)
  result_ok at (ordinal q) e = valued_ok (a_variable (code.place ((frame_here h).origins (temporary at)) 0 code.no_indices) (ordinal q)) (Ok (record { place = plain_place (this_call v) (temporary at); ty = ordinal q })) (sees.temporaries at (ordinal q) e)
  result_ok at _ e = tt

  call_ok : (at : ℕ) (d : Designator) → IsKept h at d → FormOk m f (Ok (call_value v at d)) (call_form h at (result_called (routine_called h.program h.scope d)))
  call_ok at d kept =
      subst (λ (t : Ty). FormOk m f (Ok (record { ty = t; value = value_at v (plain_place (this_call v) (temporary at)) })) (call_form h at (result_called (routine_called h.program h.scope d))))
      (ap (λ (p : Program). result_called (routine_called p h.scope d)) sees.program ∙ ap (λ (s : Scope). result_called (routine_called v.program s d)) sees.scope)
      (result_ok at (result_called (routine_called h.program h.scope d)) kept)

  -- by what the name stands for
  name_ok : (at : ℕ) (i : Identifier) (ss : Selectors) (es : Expressions) (b : Bool) (g : Option Meaning) → AreKept h (own_call b at (designator i ss) es) → find i.name h.scope ≡ g → (w : Option Designated) (o : Outcome Target) (q : Option Formed) (p : Outcome Typed) →
      ((d : Designated) → w ≡ Some d → DesignatedAgrees r l fs m f o d) → ((x : Formed) → q ≡ Some x → FormAgrees m f p x.ty x.form) →
      FormOk m f (named_value v at (designator i ss) b g o p) (named_form h at (designator i ss) b g w q)
  name_ok at i ss es true g kept e w o q p k j = call_ok at (designator i ss) kept.0
  name_ok at i ss es false (Some (constant_meaning b z)) kept e w o q p k j = constant_ok b z
  name_ok at i ss es false (Some (standard_meaning s)) kept e w o q p k j = then_applied_ok s q p j
  name_ok at i ss es false _ kept e w o q p k j = then_valued_ok w o k

  done_ok : (o : Outcome Typed) (x : Formed) → FormAgrees m f o x.ty x.form → FormAgrees m f (o >>= λ y. Ok y) x.ty x.form
  done_ok (Ok y) x i = i
  done_ok (Err e) x i = i

  found_ok : (o : Outcome Target) (d : Designated) → DesignatedAgrees r l fs m f o d → DesignatedAgrees r l fs m f (o >>= λ y. Ok y) d
  found_ok (Ok y) d i = i
  found_ok (Err e) d i = i

  designated_some : (o : Outcome Target) (w : Option Designated) (d : Designated) → w ≡ Some d → BegunOk o w → DesignatedAgrees r l fs m f o d
  designated_some o w d e i = subst (BegunOk o) e i

  -- ---- the induction

  mutual
    pub expression_ok : (e : Expression) (z : Formed) → AreKept h (expression_calls h.scope e) → expression_form h e ≡ Some z → FormAgrees m f (value v e) z.ty z.form
    expression_ok (alone at a) z kept e = sum_ok a z kept e
    expression_ok (related at a q b) z kept e =
        then_some (FormAgrees m f (value v (related at a q b)) z.ty z.form) (sum_form h a) _ z e (λ x ex k.
        then_some (FormAgrees m f (value v (related at a q b)) z.ty z.form) (sum_form h b) _ z k (λ y ey j.
        ok_some m f (value v (related at a q b)) (compared_forms q x.form y.form) z j (related_ok q x.ty y.ty x.form y.form (sum_value v a) (sum_value v b) (sum_ok a x (kept_left h (sum_calls h.scope a) (sum_calls h.scope b) kept) ex) (sum_ok b y (kept_right h (sum_calls h.scope a) (sum_calls h.scope b) kept) ey))))

    pub sum_ok : (a : Sum) (z : Formed) → AreKept h (sum_calls h.scope a) → sum_form h a ≡ Some z → FormAgrees m f (sum_value v a) z.ty z.form
    sum_ok (sum at s t ts) z kept e =
        then_some (FormAgrees m f (sum_value v (sum at s t ts)) z.ty z.form) (term_form h t) _ z e (λ x ex k.
        then_some (FormAgrees m f (sum_value v (sum at s t ts)) z.ty z.form) (signed_form s x) _ z k (λ y ey j.
        subst (λ (o : Outcome Typed). FormAgrees m f o z.ty z.form) (bind_assoc (term_value v t) (signed_value s) (terms_value v ts))
        (terms_ok ts y z (term_value v t >>= signed_value s) (kept_right h (term_calls h.scope t) (terms_calls h.scope ts) kept) (ok_some m f (term_value v t >>= signed_value s) (signed_form s x) y ey (signed_ok s x (is_integer x.ty) x.form (term_value v t) refl refl (term_ok t x (kept_left h (term_calls h.scope t) (terms_calls h.scope ts) kept) ex))) j)))

    terms_ok : (ts : Terms) (x z : Formed) (o : Outcome Typed) → AreKept h (terms_calls h.scope ts) → FormAgrees m f o x.ty x.form → terms_form h ts x ≡ Some z → FormAgrees m f (o >>= terms_value v ts) z.ty z.form
    terms_ok no_terms x z o kept i e = ok_some m f (o >>= terms_value v no_terms) (Some x) z e (done_ok o x i)
    terms_ok (more_terms op t ts) x z o kept i e =
        then_some (FormAgrees m f (o >>= terms_value v (more_terms op t ts)) z.ty z.form) (term_form h t) _ z e (λ y ey k.
        then_some (FormAgrees m f (o >>= terms_value v (more_terms op t ts)) z.ty z.form) (added_forms op x y x.form y.form) _ z k (λ w ew j.
        subst (λ (p : Outcome Typed). FormAgrees m f p z.ty z.form) (chain_assoc o (term_value v t) (λ a b. added_values op a.value b.value) (terms_value v ts))
        (terms_ok ts w z (o >>= λ a. term_value v t >>= λ b. added_values op a.value b.value) (kept_right h (term_calls h.scope t) (terms_calls h.scope ts) kept) (ok_some m f (o >>= λ a. term_value v t >>= λ b. added_values op a.value b.value) (added_forms op x y x.form y.form) w ew (added_ok op x y x.form y.form o (term_value v t) i (term_ok t y (kept_left h (term_calls h.scope t) (terms_calls h.scope ts) kept) ey))) j)))

    term_ok : (t : Term) (z : Formed) → AreKept h (term_calls h.scope t) → term_form h t ≡ Some z → FormAgrees m f (term_value v t) z.ty z.form
    term_ok (term at c cs) z kept e =
        then_some (FormAgrees m f (term_value v (term at c cs)) z.ty z.form) (factor_form h c) _ z e (λ x ex k. factors_ok cs x z (factor_value v c) (kept_right h (factor_calls h.scope c) (factors_calls h.scope cs) kept) (factor_ok c x (kept_left h (factor_calls h.scope c) (factors_calls h.scope cs) kept) ex) k)

    factors_ok : (ts : Factors) (x z : Formed) (o : Outcome Typed) → AreKept h (factors_calls h.scope ts) → FormAgrees m f o x.ty x.form → factors_form h ts x ≡ Some z → FormAgrees m f (o >>= factors_value v ts) z.ty z.form
    factors_ok no_factors x z o kept i e = ok_some m f (o >>= factors_value v no_factors) (Some x) z e (done_ok o x i)
    factors_ok (more_factors op t ts) x z o kept i e =
        then_some (FormAgrees m f (o >>= factors_value v (more_factors op t ts)) z.ty z.form) (factor_form h t) _ z e (λ y ey k.
        then_some (FormAgrees m f (o >>= factors_value v (more_factors op t ts)) z.ty z.form) (multiplied_forms op x y x.form y.form) _ z k (λ w ew j.
        subst (λ (p : Outcome Typed). FormAgrees m f p z.ty z.form) (chain_assoc o (factor_value v t) (λ a b. multiplied_values op a.value b.value) (factors_value v ts))
        (factors_ok ts w z (o >>= λ a. factor_value v t >>= λ b. multiplied_values op a.value b.value) (kept_right h (factor_calls h.scope t) (factors_calls h.scope ts) kept) (ok_some m f (o >>= λ a. factor_value v t >>= λ b. multiplied_values op a.value b.value) (multiplied_forms op x y x.form y.form) w ew (multiplied_ok op x y x.form y.form o (factor_value v t) i (factor_ok t y (kept_left h (factor_calls h.scope t) (factors_calls h.scope ts) kept) ey))) j)))

    factor_ok : (c : Factor) (z : Formed) → AreKept h (factor_calls h.scope c) → factor_form h c ≡ Some z → FormAgrees m f (factor_value v c) z.ty z.form
    factor_ok (number at n) z kept e = ok_some m f (factor_value v (number at n)) (constant_form integers (pos n)) z e (constant_ok integers (pos n))
    factor_ok (character at n) z kept e = ok_some m f (factor_value v (character at n)) (constant_form characters (pos n)) z e (constant_ok characters (pos n))
    factor_ok (named at (designator i ss) es) z kept e =
        ok_some m f (factor_value v (named at (designator i ss) es)) (factor_form h (named at (designator i ss) es)) z e
        (subst (λ (s : Scope). FormOk m f (named_value v at (designator i ss) (is_call s (designator i ss)) (find i.name s) (target_value v (designator i ss)) (first_value v es)) (factor_form h (named at (designator i ss) es))) sees.scope
        (name_ok at i ss es (is_call h.scope (designator i ss)) (find i.name h.scope) (kept_right h (selectors_calls h.scope ss ++ expressions_calls h.scope es) (own_call (is_call h.scope (designator i ss)) at (designator i ss) es) kept) refl (designator_form h (designator i ss)) (target_value v (designator i ss)) (first_form h es) (first_value v es)
        (λ d k. designator_ok (designator i ss) d (kept_left h (selectors_calls h.scope ss) (expressions_calls h.scope es) (kept_left h (selectors_calls h.scope ss ++ expressions_calls h.scope es) (own_call (is_call h.scope (designator i ss)) at (designator i ss) es) kept)) k) (λ x k. first_ok es x (kept_right h (selectors_calls h.scope ss) (expressions_calls h.scope es) (kept_left h (selectors_calls h.scope ss ++ expressions_calls h.scope es) (own_call (is_call h.scope (designator i ss)) at (designator i ss) es) kept)) k)))
    factor_ok (group at a) z kept e = expression_ok a z kept e
    factor_ok (negated at c) z kept e =
        then_some (FormAgrees m f (factor_value v (negated at c)) z.ty z.form) (factor_form h c) _ z e (λ x ex k.
        ok_some m f (factor_value v (negated at c)) (not_form x) z k (not_ok x (is_boolean x.ty) x.form (factor_value v c) refl (factor_ok c x kept ex)))
    factor_ok (set_of at es) z kept e =
        then_some (FormAgrees m f (factor_value v (set_of at es)) z.ty z.form) (members_form h es code.empty_set) set_form z e (λ c ec k.
        ok_some m f (factor_value v (set_of at es)) (set_form c) z k (set_constructed m f c (members_value v es []) (members_ok es code.empty_set c (Ok []) kept (tt, refl) ec)))

    -- the members of a constructor from left to right
    members_ok : (es : Expressions) (b c : code.SetExpression) (o : Outcome (List ℕ)) → AreKept h (expressions_calls h.scope es) → MembersAgree o (plain_set m f b) → members_form h es b ≡ Some c → MembersAgree (o >>= members_value v es) (plain_set m f c)
    members_ok no_expressions b c o kept i e = members_done m f b c o i e
    members_ok (more_expressions a es) b c o kept i e =
        then_some (MembersAgree (o >>= members_value v (more_expressions a es)) (plain_set m f c)) (expression_form h a) _ c e (λ x ex k.
        then_some (MembersAgree (o >>= members_value v (more_expressions a es)) (plain_set m f c)) (with_member_form b x.form) _ c k (λ d ed j.
        subst (λ (p : Outcome (List ℕ)). MembersAgree p (plain_set m f c)) (chain_assoc o (value v a) with_member_checked (members_value v es))
        (members_ok es d c (o >>= λ ns. value v a >>= λ y. with_member_checked ns y) (kept_right h (expression_calls h.scope a) (expressions_calls h.scope es) kept)
        (member_added m f b d x.form x.ty o (value v a) i (expression_ok a x (kept_left h (expression_calls h.scope a) (expressions_calls h.scope es) kept) ex) ed) j)))

    pub first_ok : (es : Expressions) (z : Formed) → AreKept h (expressions_calls h.scope es) → first_form h es ≡ Some z → FormAgrees m f (first_value v es) z.ty z.form
    first_ok no_expressions z kept e = absurd (cc)
    first_ok (more_expressions a es) z kept e = expression_ok a z (kept_left h (expression_calls h.scope a) (expressions_calls h.scope es) kept) e

    pub designator_ok : (d : Designator) (w : Designated) → AreKept h (designator_calls h.scope d) → designator_form h d ≡ Some w → DesignatedAgrees r l fs m f (target_value v d) w
    designator_ok (designator i ss) w kept e =
        then_some (DesignatedAgrees r l fs m f (target_value v (designator i ss)) w) (begun_form h i.name (find i.name h.scope)) _ w e (λ d ed k.
        selected_ok ss d w (Ok (target_named v i.name)) kept (designated_some (Ok (target_named v i.name)) (begun_form h i.name (find i.name h.scope)) d ed (begun_is (target_named v i.name) (begun_form h i.name (find i.name h.scope)) (sees.begins i.name))) k)

    selected_ok : (ss : Selectors) (d w : Designated) (o : Outcome Target) → AreKept h (selectors_calls h.scope ss) → DesignatedAgrees r l fs m f o d → selected_form h ss d ≡ Some w → DesignatedAgrees r l fs m f (o >>= selected v ss) w
    selected_ok no_selectors d w o kept i e = designated_some (o >>= selected v no_selectors) (Some d) w e (found_ok o d i)
    selected_ok (more_selectors c ss) d w o kept i e =
        then_some (DesignatedAgrees r l fs m f (o >>= selected v (more_selectors c ss)) w) (chosen_form h c d) _ w e (λ x ex k.
        subst (λ (p : Outcome Target). DesignatedAgrees r l fs m f p w) (bind_assoc o (chosen v c) (selected v ss))
        (selected_ok ss x w (o >>= chosen v c) (kept_right h (selector_calls h.scope c) (selectors_calls h.scope ss) kept) (chosen_ok c d x o (kept_left h (selector_calls h.scope c) (selectors_calls h.scope ss) kept) i ex) k))

    chosen_ok : (c : Selector) (d w : Designated) (o : Outcome Target) → AreKept h (selector_calls h.scope c) → DesignatedAgrees r l fs m f o d → chosen_form h c d ≡ Some w → DesignatedAgrees r l fs m f (o >>= chosen v c) w
    chosen_ok (field i) d w o kept k e = field_ok r l fs v m f h sees d w o i.name k e
    chosen_ok (index a) d w o kept k e =
        then_some (DesignatedAgrees r l fs m f (o >>= chosen v (index a)) w) (expression_form h a) _ w e (λ x ex j. index_ok r l fs v m f h sees d w o x (value v a) k (expression_ok a x kept ex) j)
