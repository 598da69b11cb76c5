-- Operations on sets, and tests of them, give the same on names and on slots.
use Rattle.std.proofs.Common.{◌≡◌, ◌∙◌, ℕ, ◌^◌, ◌<◌, ◌≤◌, ◌==◌, ◌⊎◌, inl, inr, Bool, true, false, not, if◌then◌else◌, List, [], ◌∷◌, Some, ap, sym, refl, subst, arith}
use Rattle.cp_machine_laws.proofs.Words.{ℤ, pos, negsuc, ◌&&◌, Result, Ok, Err, unsigned_abs, cases_lt, ints, Relation, Equal, NotEqual, In, Addition, Plus, Minus, Or}
use Rattle.cp_machine_laws.proofs.Words.{Multiplication, And, Address, Frame, SetValue, Memory, then_with, Outcome, out_of_range, ◌>>=◌, bits_of, AreMembers, HasType}
use Rattle.cp_machine_laws.proofs.Words.{OrdinalAgrees, SetAgrees, FormAgrees, Few, error_of, plain_value, plain_set, plain_address, LiesAt, SetOperation, Union, Difference}
use Rattle.cp_machine_laws.proofs.Words.{Intersection, Ty, ordinal, set_over, Range, all_integers, all_booleans, all_characters, natural_of, is_within, with_member_checked}
use Rattle.cp_slots.specs.Code as code
use Rattle.cp_store.specs.declared.error.ErrorName as slots
use Rattle.cp_store.specs.declared.error.ErrorName.TheVariants as error
use Rattle.cp_store.specs.Sets as sets
use Rattle.cp_store.specs.Values as cells
use Rattle.cp_meaning.specs.Values.{Value, number_value, array_value, record_value, set_value, queue_value, number_of, is_member, with_member}
use Rattle.cp_meaning.specs.Operations.{Typed, truth, set_of_members, is_among, related_values, added_values, multiplied_values}
use Rattle.cp_resolved.specs.Compiled.{Form, as_ordinal, as_set, Formed, compared_forms, added_forms, multiplied_forms, with_member_form}
use Rattle.cp_machine_laws.proofs.expressions.Members.{bits_are, none_above, equal_bits, joined, set_with, bits_joined, members_joined}
use Rattle.cp_machine_laws.proofs.expressions.SetCells.{set_lies}
use Rattle.cp_machine_laws.proofs.expressions.Values.{FormOk, by_truth}

-- ---- sets

-- the value of a type of sets is a set
pub members_of_type : (t : Ty) (ns : List ℕ) → HasType t (set_value ns) → AreMembers 0 ns
members_of_type (set_over r) ns h = h
members_of_type _ ns h = absurd h

-- what is shown of two sets, and of the run error of one of them
two_sets : {A : Type 0} (G : Outcome Typed → Result A slots.ErrorName → Type 0) (t u : Ty) (F : Typed → Typed → Outcome Typed) (C : SetValue → SetValue → Result A slots.ErrorName) (o p : Outcome Typed) (r q : Result SetValue slots.ErrorName) →
    ((e : _) (d : slots.ErrorName) → error_of e ≡ d → G (Err e) (Err d)) →
    ((x y : Typed) (a b : List ℕ) → x.value ≡ set_value a → y.value ≡ set_value b → AreMembers 0 a → AreMembers 0 b → G (F x y) (C (set_with (bits_of a)) (set_with (bits_of b)))) →
    SetAgrees o t r → SetAgrees p u q → G (o >>= λ x. p >>= λ y. F x y) (then_with r (λ s. then_with q (λ z. C s z)))
two_sets G t u F C (Err e) p (Err d) q failed step h k = failed e d h
two_sets G t u F C (Err e) p (Ok s) q failed step h k = absurd h
two_sets G t u F C (Ok x) p (Err d) q failed step h k = absurd h
two_sets G t u F C (Ok x) (Err e) (Ok s) (Err d) failed step h k = failed e d k
two_sets G t u F C (Ok x) (Ok y) (Ok s) (Ok z) failed step h k =
    subst (λ (w : SetValue). G (F x y) (C w z)) (ap set_with (sym h.1.3))
    (subst (λ (w : SetValue). G (F x y) (C (set_with (bits_of h.1.0)) w)) (ap set_with (sym k.1.3))
    (step x y h.1.0 k.1.0 h.1.1 k.1.1 (members_of_type t h.1.0 h.1.2) (members_of_type u k.1.0 k.1.2)))
two_sets G t u F C (Ok x) _ (Ok s) _ failed step h k = absurd k

-- ---- tests

test_step : (q : Relation) (x y : Value) (a b : List ℕ) (c : Bool) → x ≡ set_value a → y ≡ set_value b → related_values q (set_value a) (set_value b) ≡ c → OrdinalAgrees (Ok (truth (related_values q x y))) (ordinal all_booleans) (Ok (cells.truth c))
test_step q x y a b c e d same =
    subst (λ (w : Value). OrdinalAgrees (Ok (truth (related_values q w y))) (ordinal all_booleans) (Ok (cells.truth c))) (sym e)
    (subst (λ (w : Value). OrdinalAgrees (Ok (truth (related_values q (set_value a) w))) (ordinal all_booleans) (Ok (cells.truth c))) (sym d) (by_truth (related_values q (set_value a) (set_value b)) c same))

-- whether a number is among the members
among_bits : (z : ℤ) (ns : List ℕ) → AreMembers 0 ns → is_among z ns ≡ sets.is_member (set_with (bits_of ns)) z
among_bits (negsuc n) ns h = refl
among_bits (pos n) ns h = go (cases_lt n 128)
  where
    go : (n < 128) ⊎ (128 ≤ n) → is_member n ns ≡ sets.is_member (set_with (bits_of ns)) (pos n)
    go (inl less) = (let w : cells.is_within (pos 0) (pos 127) (pos n) ≡ true = grind (arith, ints, less) in sym (ap (λ b. b && sets.has_bit (bits_of ns) n) w ∙ bits_are 0 ns n h))
    go (inr more) = (let w : cells.is_within (pos 0) (pos 127) (pos n) ≡ false = grind (arith, ints, more) in none_above 0 ns n h more ∙ sym (ap (λ b. b && sets.has_bit (bits_of ns) n) w))

member_step : (t u : Ty) (o p : Outcome Typed) (r : Result ℤ slots.ErrorName) (q : Result SetValue slots.ErrorName) → OrdinalAgrees o t r → SetAgrees p u q →
    OrdinalAgrees (o >>= λ x. p >>= λ y. Ok (truth (related_values In x.value y.value))) (ordinal all_booleans) (then_with r (λ x. then_with q (λ s. Ok (cells.truth (sets.is_member s x)))))
member_step t u (Err e) p (Err d) q h k = h
member_step t u (Err e) p (Ok z) q h k = absurd h
member_step t u (Ok x) p (Err d) q h k = absurd h
member_step t u (Ok x) (Err e) (Ok z) (Err d) h k = k
member_step t u (Ok x) (Ok y) (Ok z) (Ok s) h k =
    subst (λ (w : SetValue). OrdinalAgrees (Ok (truth (related_values In x.value y.value))) (ordinal all_booleans) (Ok (cells.truth (sets.is_member w z)))) (ap set_with (sym k.1.3))
    (subst (λ (w : Value). OrdinalAgrees (Ok (truth (related_values In w y.value))) (ordinal all_booleans) (Ok (cells.truth (sets.is_member (set_with (bits_of k.1.0)) z)))) (sym h.1)
    (subst (λ (w : Value). OrdinalAgrees (Ok (truth (related_values In (number_value z) w))) (ordinal all_booleans) (Ok (cells.truth (sets.is_member (set_with (bits_of k.1.0)) z)))) (sym k.1.1)
    (by_truth (is_among z k.1.0) (sets.is_member (set_with (bits_of k.1.0)) z) (among_bits z k.1.0 (members_of_type u k.1.0 k.1.2)))))
member_step t u (Ok x) _ (Ok z) _ h k = absurd k

-- ---- combinations

joined_agrees : (op : SetOperation) (a b : List ℕ) → AreMembers 0 a → AreMembers 0 b → SetAgrees (Ok (set_of_members (joined op a b))) (set_over all_integers) (Ok (sets.combine_sets op (set_with (bits_of a)) (set_with (bits_of b))))
joined_agrees op a b h k = (refl, (joined op a b, refl, members_joined op a b, sym (bits_joined op a b h k)))

combined_step : (op : SetOperation) (F : Value → Value → Outcome Typed) (x y : Value) (a b : List ℕ) → x ≡ set_value a → y ≡ set_value b → F (set_value a) (set_value b) ≡ Ok (set_of_members (joined op a b)) → AreMembers 0 a → AreMembers 0 b →
    SetAgrees (F x y) (set_over all_integers) (Ok (sets.combine_sets op (set_with (bits_of a)) (set_with (bits_of b))))
combined_step op F x y a b e d is h k =
    subst (λ (w : Value). SetAgrees (F w y) (set_over all_integers) (Ok (sets.combine_sets op (set_with (bits_of a)) (set_with (bits_of b))))) (sym e)
    (subst (λ (w : Value). SetAgrees (F (set_value a) w) (set_over all_integers) (Ok (sets.combine_sets op (set_with (bits_of a)) (set_with (bits_of b))))) (sym d)
    (subst (λ (w : Outcome Typed). SetAgrees w (set_over all_integers) (Ok (sets.combine_sets op (set_with (bits_of a)) (set_with (bits_of b))))) (sym is) (joined_agrees op a b h k)))

-- ---- the members of a constructor

-- the members so far
abbrev pub MembersAgree : Outcome (List ℕ) → Result SetValue slots.ErrorName → Type 0
MembersAgree (Ok ns) (Ok s) = AreMembers 0 ns × (s.members ≡ bits_of ns)
MembersAgree (Err e) (Err d) = error_of e ≡ d
MembersAgree o r = ⊥

one_member : (z : ℤ) → is_within all_characters z ≡ true → AreMembers 0 (natural_of z ∷ []) × (2 ^ natural_of z ≡ 2 ^ unsigned_abs z)
one_member (pos n) h = ((omega arith, grind (arith, ints), tt), refl)
one_member (negsuc n) h = absurd (cc)

with_one : (ns : List ℕ) (z : ℤ) → AreMembers 0 ns → MembersAgree (if is_within all_characters z then Ok (with_member ns (natural_of z)) else Err out_of_range) (sets.with_element (set_with (bits_of ns)) z)
with_one ns z h = go (is_within all_characters z) refl
  where
    go : (b : Bool) → is_within all_characters z ≡ b → MembersAgree (if b then Ok (with_member ns (natural_of z)) else Err out_of_range) (if b then Ok (set_with (sets.combine_sets Union (set_with (bits_of ns)) (set_with (2 ^ unsigned_abs z))).members) else Err error.Range)
    go false e = refl
    go true e =
        let one = one_member z e in
        let power : bits_of (natural_of z ∷ []) ≡ 2 ^ unsigned_abs z = (let d = one.1 in omega (arith, d)) in
        (members_joined Union ns (natural_of z ∷ []), sym (bits_joined Union ns (natural_of z ∷ []) h one.0 ∙ ap (λ n. (sets.combine_sets Union (set_with (bits_of ns)) (set_with n)).members) power))

added_member : (t : Ty) (o : Outcome (List ℕ)) (p : Outcome Typed) (r : Result SetValue slots.ErrorName) (q : Result ℤ slots.ErrorName) → MembersAgree o r → OrdinalAgrees p t q →
    MembersAgree (o >>= λ ns. p >>= λ x. with_member_checked ns x) (then_with r (λ s. then_with q (λ z. sets.with_element s z)))
added_member t (Err e) p (Err d) q h k = h
added_member t (Err e) p (Ok s) q h k = absurd h
added_member t (Ok ns) p (Err d) q h k = absurd h
added_member t (Ok ns) (Err e) (Ok s) (Err d) h k = k
added_member t (Ok ns) (Ok x) (Ok s) (Ok z) h k =
    subst (λ (w : SetValue). MembersAgree (with_member_checked ns x) (sets.with_element w z)) (ap set_with (sym h.1))
    (subst (λ (w : Value). MembersAgree (if is_within all_characters (number_of w) then Ok (with_member ns (natural_of (number_of w))) else Err out_of_range) (sets.with_element (set_with (bits_of ns)) z)) (sym k.1) (with_one ns z h.0))
added_member t (Ok ns) _ (Ok s) _ h k = absurd k

-- ---- on slots

module _ (m : Memory) (f : Frame) where
  pub sets_related : (q : Relation) (t u : Ty) (a b : code.SetExpression) (o p : Outcome Typed) → SetAgrees o t (plain_set m f a) → SetAgrees p u (plain_set m f b) → FormOk m f (o >>= λ x. p >>= λ y. Ok (truth (related_values q x.value y.value))) (compared_forms q (as_set a) (as_set b))
  sets_related Equal t u a b o p h k =
      two_sets (λ w c. OrdinalAgrees w (ordinal all_booleans) c) t u (λ x y. Ok (truth (related_values Equal x.value y.value))) (λ s z. Ok (sets.compare_sets true s z)) o p (plain_set m f a) (plain_set m f b) (λ e d i. i)
      (λ x y i j e d c g. test_step Equal x.value y.value i j (bits_of i == bits_of j) e d (equal_bits i j c g)) h k
  sets_related NotEqual t u a b o p h k =
      two_sets (λ w c. OrdinalAgrees w (ordinal all_booleans) c) t u (λ x y. Ok (truth (related_values NotEqual x.value y.value))) (λ s z. Ok (sets.compare_sets false s z)) o p (plain_set m f a) (plain_set m f b) (λ e d i. i)
      (λ x y i j e d c g. test_step NotEqual x.value y.value i j (not (bits_of i == bits_of j)) e d (ap not (equal_bits i j c g))) h k
  sets_related _ t u a b o p h k = tt

  pub member : (q : Relation) (t u : Ty) (a : code.OrdinalExpression) (b : code.SetExpression) (o p : Outcome Typed) → OrdinalAgrees o t (plain_value m f a) → SetAgrees p u (plain_set m f b) → FormOk m f (o >>= λ x. p >>= λ y. Ok (truth (related_values q x.value y.value))) (compared_forms q (as_ordinal a) (as_set b))
  member In t u a b o p h k = member_step t u o p (plain_value m f a) (plain_set m f b) h k
  member _ t u a b o p h k = tt

  pub sets_added : (op : Addition) (x y : Formed) (a b : code.SetExpression) (o p : Outcome Typed) → SetAgrees o x.ty (plain_set m f a) → SetAgrees p y.ty (plain_set m f b) → FormOk m f (o >>= λ x. p >>= λ y. added_values op x.value y.value) (added_forms op x y (as_set a) (as_set b))
  sets_added Plus x y a b o p h k = tt
  sets_added Minus x y a b o p h k =
      two_sets (λ w c. SetAgrees w (set_over all_integers) c) x.ty y.ty (λ v w. added_values Minus v.value w.value) (λ s z. Ok (sets.combine_sets Difference s z)) o p (plain_set m f a) (plain_set m f b) (λ e d i. i)
      (λ v w i j e d c g. combined_step Difference (added_values Minus) v.value w.value i j e d refl c g) h k
  sets_added Or x y a b o p h k =
      two_sets (λ w c. SetAgrees w (set_over all_integers) c) x.ty y.ty (λ v w. added_values Or v.value w.value) (λ s z. Ok (sets.combine_sets Union s z)) o p (plain_set m f a) (plain_set m f b) (λ e d i. i)
      (λ v w i j e d c g. combined_step Union (added_values Or) v.value w.value i j e d refl c g) h k

  pub sets_multiplied : (op : Multiplication) (x y : Formed) (a b : code.SetExpression) (o p : Outcome Typed) → SetAgrees o x.ty (plain_set m f a) → SetAgrees p y.ty (plain_set m f b) → FormOk m f (o >>= λ x. p >>= λ y. multiplied_values op x.value y.value) (multiplied_forms op x y (as_set a) (as_set b))
  sets_multiplied And x y a b o p h k =
      two_sets (λ w c. SetAgrees w (set_over all_integers) c) x.ty y.ty (λ v w. multiplied_values And v.value w.value) (λ s z. Ok (sets.combine_sets Intersection s z)) o p (plain_set m f a) (plain_set m f b) (λ e d i. i)
      (λ v w i j e d c g. combined_step Intersection (multiplied_values And) v.value w.value i j e d refl c g) h k
  sets_multiplied _ x y a b o p h k = tt

  -- a variable of a set type
  pub set_loaded : Few m → (q : Range) (p : code.Place) (w : Value) (a : Address) → plain_address m f p ≡ Ok a → LiesAt m (set_over q) w a → SetAgrees (Ok (record { ty = set_over q; value = w })) (set_over q) (plain_set m f (code.load_set p))
  set_loaded few q p w a e lies = subst (λ (s : Result Address slots.ErrorName). SetAgrees (Ok (record { ty = set_over q; value = w })) (set_over q) (then_with s (λ at. Ok (sets.load_set m at)))) (sym e) (go w lies)
    where
      go : (w : Value) → LiesAt m (set_over q) w a → SetAgrees (Ok (record { ty = set_over q; value = w })) (set_over q) (Ok (sets.load_set m a))
      go (set_value ns) h = (refl, (ns, refl, h.typed, set_lies m q ns a few h))
      go (number_value z) h = absurd h.typed
      go (array_value vs) h = absurd h.typed
      go (record_value fs) h = absurd h.typed
      go (queue_value o) h = absurd h.typed

  -- one more member of a constructor
  pub member_added : (b c : code.SetExpression) (a : Form) (t : Ty) (o : Outcome (List ℕ)) (p : Outcome Typed) → MembersAgree o (plain_set m f b) → FormAgrees m f p t a → with_member_form b a ≡ Some c →
      MembersAgree (o >>= λ ns. p >>= λ x. with_member_checked ns x) (plain_set m f c)
  member_added b c (as_ordinal e) t o p h k is = subst (λ (s : code.SetExpression). MembersAgree (o >>= λ ns. p >>= λ x. with_member_checked ns x) (plain_set m f s)) (some_set (code.with_element b e) c is) (added_member t o p (plain_set m f b) (plain_value m f e) h k)
    where
      some_set : (x y : code.SetExpression) → Some x ≡ Some y → x ≡ y
      some_set x y e = cc
  member_added b c x t o p h k is = absurd (cc)

  -- all members of a constructor
  pub set_constructed : (c : code.SetExpression) (o : Outcome (List ℕ)) → MembersAgree o (plain_set m f c) → SetAgrees (o >>= λ ns. Ok (set_of_members ns)) (set_over all_integers) (plain_set m f c)
  set_constructed c o h = go o (plain_set m f c) h
    where
      go : (o : Outcome (List ℕ)) (r : Result SetValue slots.ErrorName) → MembersAgree o r → SetAgrees (o >>= λ ns. Ok (set_of_members ns)) (set_over all_integers) r
      go (Ok ns) (Ok s) h = (refl, (ns, refl, h.0, h.1))
      go (Err e) (Err d) h = h
      go (Ok ns) (Err d) h = absurd h
      go (Err e) (Ok s) h = absurd h

  -- no more members
  pub members_done : (b c : code.SetExpression) (o : Outcome (List ℕ)) → MembersAgree o (plain_set m f b) → Some b ≡ Some c → MembersAgree (o >>= λ ns. Ok ns) (plain_set m f c)
  members_done b c o h e = subst (λ (s : code.SetExpression). MembersAgree (o >>= λ ns. Ok ns) (plain_set m f s)) (same b c e) (go o (plain_set m f b) h)
    where
      same : (x y : code.SetExpression) → Some x ≡ Some y → x ≡ y
      same x y e = cc

      go : (o : Outcome (List ℕ)) (r : Result SetValue slots.ErrorName) → MembersAgree o r → MembersAgree (o >>= λ ns. Ok ns) r
      go (Ok ns) r h = h
      go (Err d) r h = h
