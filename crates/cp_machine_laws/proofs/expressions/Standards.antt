-- Signs and the standard functions give the same on names and on slots.
use Rattle.cp_machine_laws.proofs.Words.{◌≡◌, ◌∙◌, Bool, true, false, if◌then◌else◌, Option, Some, None, ap, sym, refl, subst, arith, ints, Address, Frame, Memory}
use Rattle.cp_machine_laws.proofs.Words.{cell_at, then_with, Outcome, ◌>>=◌, out_of_range, encode, flag_of, HasType, plain_value, plain_address, OrdinalAgrees, PlaceAgrees}
use Rattle.cp_machine_laws.proofs.Words.{FormAgrees, load_value, Value, number_value, array_value, record_value, set_value, queue_value, number_of, waiting_in, BlockAt, LiesAt}
use Rattle.std.specs.Prelude.{ℕ, ℤ, pos, negsuc, ◌+ℤ◌, ◌-ℤ◌, neg_ℤ, int_le, int_lt, ◌&&◌, not, is_none, unsigned_abs, Result, Ok, Err}
use Rattle.cp_tree.specs.declared.constant.Sign.TheVariants as sign
use Rattle.cp_slots.specs.Code as code
use Rattle.cp_store.specs.declared.error.ErrorName as slots
use Rattle.cp_store.specs.declared.error.ErrorName.TheVariants.{Range as Outside}
use Rattle.cp_store.specs.Values as cells
use Rattle.cp_meaning.specs.Types.{Base, integers, characters, Range, Ty, ordinal, queue_type, all_integers, all_booleans, all_characters, is_within}
use Rattle.cp_meaning.specs.Scopes.{Standard, succ_function, pred_function, chr_function, ord_function, abs_function, empty_function, delay_procedure, continue_procedure, display_procedure}
use Rattle.cp_meaning.specs.Operations.{Typed, truth, signed_value, range_of_base, in_base, standard_value, fitting}
use Rattle.cp_resolved.specs.Compiled.{Form, as_ordinal, as_set, as_place, as_component, Formed, is_integer, applied_ordinal, applied_place, applied_form_of, applied_form, integer_form}
use Rattle.cp_machine_laws.proofs.expressions.Numbers.{fits_narrowed, truth_agrees}
use Rattle.cp_machine_laws.proofs.expressions.Values.{FormOk, integer_range}
use Rattle.cp_machine_laws.proofs.expressions.SetCells.{no_further as further_none}

-- ---- ranges of bases

-- a base is that of its range
pub base_again : (b : Base) → range_of_base (range_of_base b).base ≡ range_of_base b
base_again integers = refl
base_again _ = refl

-- one operand, with its type
typed_agrees : (t u : Ty) (F : Typed → Outcome Typed) (C : ℤ → Result ℤ slots.ErrorName) (o : Outcome Typed) (r : Result ℤ slots.ErrorName) →
    ((a : ℤ) → HasType t (number_value a) → OrdinalAgrees (F (record { ty = t; value = number_value a })) u (C a)) → OrdinalAgrees o t r → OrdinalAgrees (o >>= F) u (then_with r C)
typed_agrees t u F C (Ok x) (Ok a) step h =
    subst (λ (s : Ty). OrdinalAgrees (F (record { ty = s; value = x.value })) u (C a)) (sym h.0)
    (subst (λ (w : Value). OrdinalAgrees (F (record { ty = t; value = w })) u (C a)) (sym h.1) (step a h.2))
typed_agrees t u F C (Err e) (Err d) step h = h
typed_agrees t u F C _ _ step h = absurd h

-- ---- succ, pred and chr

-- a value of the base, or range
based : (b : Base) (z : ℤ) (w : Bool) → is_within (range_of_base b) z ≡ w → OrdinalAgrees (if w then Ok (record { ty = ordinal (range_of_base b); value = number_value z }) else Err out_of_range) (ordinal (range_of_base b)) (if w then Ok z else Err Outside)
based b z true e = (refl, refl, subst (λ (q : Range). is_within q z ≡ true) (sym (base_again b)) e)
based b z false e = refl

next_within : (low high z : ℤ) → (int_le low z && int_le z high) ≡ true → (int_le low (z +ℤ pos 1) && int_le (z +ℤ pos 1) high) ≡ int_lt z high
next_within low high z h = grind (arith, ints)

previous_within : (low high z : ℤ) → (int_le low z && int_le z high) ≡ true → (int_le low (z +ℤ negsuc 0) && int_le (z +ℤ negsuc 0) high) ≡ int_lt low z
previous_within low high z h = grind (arith, ints)

successor_same : (b : Base) (z : ℤ) → is_within (range_of_base b) z ≡ true → OrdinalAgrees (in_base b (z +ℤ pos 1)) (ordinal (range_of_base b)) (cells.successor (range_of_base b).high z)
successor_same b z h =
    subst (λ (x : Bool). OrdinalAgrees (in_base b (z +ℤ pos 1)) (ordinal (range_of_base b)) (if x then Ok (z +ℤ pos 1) else Err Outside)) (next_within (range_of_base b).low (range_of_base b).high z h)
    (based b (z +ℤ pos 1) (is_within (range_of_base b) (z +ℤ pos 1)) refl)

predecessor_same : (b : Base) (z : ℤ) → is_within (range_of_base b) z ≡ true → OrdinalAgrees (in_base b (z +ℤ negsuc 0)) (ordinal (range_of_base b)) (cells.predecessor (range_of_base b).low z)
predecessor_same b z h =
    subst (λ (x : Bool). OrdinalAgrees (in_base b (z +ℤ negsuc 0)) (ordinal (range_of_base b)) (if x then Ok (z -ℤ pos 1) else Err Outside)) (previous_within (range_of_base b).low (range_of_base b).high z h)
    (based b (z +ℤ negsuc 0) (is_within (range_of_base b) (z +ℤ negsuc 0)) refl)

-- ---- ord and abs

small : (b : Base) (z : ℤ) → is_within (range_of_base b) z ≡ true → is_within all_integers (range_of_base b).high ≡ true → is_within all_integers z ≡ true
small integers z h k = h
small x z h k = grind (arith, ints)

absolute_is : (z : ℤ) → (if int_lt z (pos 0) then neg_ℤ z else z) ≡ pos (unsigned_abs z)
absolute_is z = grind (arith, ints)

absolute_same : (z : ℤ) → OrdinalAgrees (fitting (if int_lt z (pos 0) then neg_ℤ z else z)) (ordinal all_integers) (cells.absolute z)
absolute_same z = subst (λ (y : ℤ). OrdinalAgrees (fitting y) (ordinal all_integers) (cells.absolute z)) (sym (absolute_is z)) (fits_narrowed (pos (unsigned_abs z)))

-- ---- empty

-- a queue is its flag
queue_lies : (m : Memory) (w : Value) (a : Address) → LiesAt m queue_type w a → (o : Option ℕ) × (w ≡ queue_value o) × (cell_at m a ≡ flag_of o)
queue_lies m w a h = go w h.typed h.block
  where
    go : (w : Value) → HasType queue_type w → BlockAt m a (encode w) → (o : Option ℕ) × (w ≡ queue_value o) × (cell_at m a ≡ flag_of o)
    go (queue_value o) t b = (o, refl, ap (cell_at m) (sym (further_none a)) ∙ b 0 (omega arith))
    go (number_value z) t b = absurd t
    go (array_value vs) t b = absurd t
    go (record_value fs) t b = absurd t
    go (set_value ns) t b = absurd t

empty_same : (m : Memory) (o : Outcome Typed) (r : Result Address slots.ErrorName) → PlaceAgrees m o queue_type r → OrdinalAgrees (o >>= standard_value empty_function) (ordinal all_booleans) (then_with (load_value m r) (λ x. Ok (cells.truth (not (cells.is_true x)))))
empty_same m (Ok x) (Ok a) h =
    let q = queue_lies m x.value a h.1 in
    subst (λ (w : Value). OrdinalAgrees (Ok (truth (is_none (waiting_in w)))) (ordinal all_booleans) (Ok (cells.truth (not (cells.is_true (cell_at m a)))))) (sym q.1)
    (subst (λ (z : ℤ). OrdinalAgrees (Ok (truth (is_none q.0))) (ordinal all_booleans) (Ok (cells.truth (not (cells.is_true z))))) (sym q.2) (go q.0))
  where
    go : (o : Option ℕ) → OrdinalAgrees (Ok (truth (is_none o))) (ordinal all_booleans) (Ok (cells.truth (not (cells.is_true (flag_of o)))))
    go None = truth_agrees true
    go (Some r) = truth_agrees false
empty_same m (Err e) (Err d) h = h
empty_same m _ _ h = absurd h

-- ---- signs and functions as they stand in expressions

module _ (m : Memory) (f : Frame) where
  pub signed_plus : (x : Formed) (c : code.OrdinalExpression) (o : Outcome Typed) → is_integer x.ty ≡ true → OrdinalAgrees o x.ty (plain_value m f c) → OrdinalAgrees (o >>= signed_value (Some sign.Plus)) (ordinal all_integers) (plain_value m f c)
  signed_plus x c o e i = go o (plain_value m f c) i
    where
      go : (o : Outcome Typed) (r : Result ℤ slots.ErrorName) → OrdinalAgrees o x.ty r → OrdinalAgrees (o >>= signed_value (Some sign.Plus)) (ordinal all_integers) r
      go (Ok y) (Ok z) h = (refl, ap (λ w. number_value (number_of w)) h.1, integer_range x.ty z e h.2)
      go (Err a) (Err b) h = h
      go (Ok y) (Err b) h = absurd h
      go (Err a) (Ok z) h = absurd h

  ord_ok : (r : Range) (c : code.OrdinalExpression) (o : Outcome Typed) → OrdinalAgrees o (ordinal r) (plain_value m f c) → (b : Bool) → is_within all_integers (range_of_base r.base).high ≡ b → FormOk m f (o >>= standard_value ord_function) (if b then integer_form c else None)
  ord_ok r c o i false e = tt
  ord_ok r c o i true e = go o (plain_value m f c) i
    where
      go : (o : Outcome Typed) (v : Result ℤ slots.ErrorName) → OrdinalAgrees o (ordinal r) v → OrdinalAgrees (o >>= standard_value ord_function) (ordinal all_integers) v
      go (Ok y) (Ok z) h = (refl, ap (λ w. number_value (number_of w)) h.1, small r.base z h.2 e)
      go (Err a) (Err b) h = h
      go (Ok y) (Err b) h = absurd h
      go (Err a) (Ok z) h = absurd h

  applied_number : (s : Standard) (t : Ty) (b : Bool) (c : code.OrdinalExpression) (o : Outcome Typed) → is_integer t ≡ b → OrdinalAgrees o t (plain_value m f c) → FormOk m f (o >>= standard_value s) (applied_ordinal s t b c)
  applied_number succ_function (ordinal r) b c o e i = typed_agrees (ordinal r) (ordinal (range_of_base r.base)) (standard_value succ_function) (cells.successor (range_of_base r.base).high) o (plain_value m f c) (λ z h. successor_same r.base z h) i
  applied_number pred_function (ordinal r) b c o e i = typed_agrees (ordinal r) (ordinal (range_of_base r.base)) (standard_value pred_function) (cells.predecessor (range_of_base r.base).low) o (plain_value m f c) (λ z h. predecessor_same r.base z h) i
  applied_number chr_function (ordinal r) true c o e i = typed_agrees (ordinal r) (ordinal all_characters) (standard_value chr_function) (cells.check_range (pos 0) (pos 127)) o (plain_value m f c) (λ z h. based characters z (is_within all_characters z) refl) i
  applied_number ord_function (ordinal r) b c o e i = ord_ok r c o i (is_within all_integers (range_of_base r.base).high) refl
  applied_number abs_function (ordinal r) true c o e i = typed_agrees (ordinal r) (ordinal all_integers) (standard_value abs_function) cells.absolute o (plain_value m f c) (λ z h. absolute_same z) i
  applied_number empty_function (ordinal r) b c o e i = tt
  applied_number delay_procedure (ordinal r) b c o e i = tt
  applied_number continue_procedure (ordinal r) b c o e i = tt
  applied_number display_procedure (ordinal r) b c o e i = tt
  applied_number _ _ _ c o e i = tt

  applied_queue : (s : Standard) (t : Ty) (p : code.Place) (o : Outcome Typed) → PlaceAgrees m o t (plain_address m f p) → FormOk m f (o >>= standard_value s) (applied_place s t p)
  applied_queue empty_function queue_type p o i = empty_same m o (plain_address m f p) i
  applied_queue s t p o i = tt

  pub applied_ok : (s : Standard) (x : Formed) (o : Outcome Typed) → FormAgrees m f o x.ty x.form → FormOk m f (o >>= standard_value s) (applied_form s x)
  applied_ok s x o i = go x.form i
    where
      go : (a : Form) → FormAgrees m f o x.ty a → FormOk m f (o >>= standard_value s) (applied_form_of s x a)
      go (as_ordinal c) i = applied_number s x.ty (is_integer x.ty) c o refl i
      go (as_place p) i = applied_queue s x.ty p o i
      go (as_set b) i = tt
      go (as_component c) i = tt
