-- A word that spells a value, or a name of processes, stands for it, and is none of the words that may stand in its place.
use Rattle.std.proofs.Common.{◌≡◌, ◌≢◌, ◌∙◌, inl, inr, ◌<◌, ◌==◌, ℕ, Bool, true, false, ◌&&◌, ◌||◌, not, nat_le, List, [], ◌∷◌, ◌++◌, Option, Some, None, option_map, codes, decimal, cond, Bor, MatchOption, if◌then◌else◌, refl, sym, ap, subst, arith, lit<, pos, neg_ℤ, ◌^◌}
use Rattle.std.specs.List.{list_any, range_with_len}
use Rattle.std.specs.Str.{bytes_eq}
use Rattle.std.specs.Char.{digit_value}
use Rattle.std.specs.Fmt.{signed_decimal}
use Rattle.std.specs.Str.Parse.{AllDigits, digits_value, signed_digits_value, without_leading_sign}
use Rattle.std.proofs.lemmas.Fmt.{decimal_is_IsNumeral, decimal_digit}
use Rattle.std.proofs.lemmas.Bool.{eqb-true, leb-true}
use Rattle.std.proofs.lemmas.List.{append_cancel_right}
use Rattle.std.proofs.lemmas.Slice.Eq.{bytes_eq-Decides}
use Rattle.cp_walk.specs.Text.{char_text}
use Rattle.cp_expectation.specs.Written.{is_doubtful, is_own, is_bare}
use Rattle.cp_expectation.specs.Values.{is_integer, is_character, is_name, is_value, reserved, parenthesized, SpellsValue}
use Rattle.cp_expectation.specs.Spelling.{SpellsProcess}
use Rattle.cp_expectation.specs.Steps.{before_closing, checked, value_in, process_in}

pub same_words : (x y : List ℕ) → bytes_eq x y ≡ true → x ≡ y
same_words x y h = (bytes_eq-Decides x y).0 h

pub equal_words : (x y : List ℕ) → x ≡ y → bytes_eq x y ≡ true
equal_words x y h = (bytes_eq-Decides x y).1 h

-- ---- no value begins with a parenthesis

either_false : (a b c : Bool) → a ≡ false → b ≡ false → c ≡ false → (a || (b || c)) ≡ false
either_false a b c p q r = cc

both : (a b : Bool) → (a ≡ true → b ≡ true → ⊥) → (a && b) ≡ false
both true true h = absurd (h refl refl)
both true false h = refl
both false b h = refl

small : (n : ℕ) (b : Bool) → nat_le n (if b then 32768 else 32767) ≡ true → n < 2 ^ 64
small n true h = omega (arith, leb-true n 32768 h)
small n false h = omega (arith, leb-true n 32767 h)

-- an integer begins with a hyphen or a digit
pub not_integer : (c : ℕ) (cs : List ℕ) → (c == 45) ≡ false → ¬ (digit_value c < 10) → is_integer (c ∷ cs) ≡ false
unfolding is_integer
not_integer c cs minus digit =
    let w = c ∷ cs in
    let n = digits_value 10 (without_leading_sign w) in
    both (nat_le n (if c == 45 then 32768 else 32767)) (bytes_eq w (signed_decimal (signed_digits_value 10 w))) (λ p q.
    let text : w ≡ decimal n = same_words w (signed_decimal (signed_digits_value 10 w)) q ∙ ap (λ b. signed_decimal (cond b (neg_ℤ (pos n)) (pos n))) minus in
    digit (subst (AllDigits 10) (sym text) (decimal_is_IsNumeral n (small n (c == 45) p)).0.1).0)

none_of : (p : ℕ → Bool) (xs : List ℕ) → ((x : ℕ) → p x ≡ false) → list_any p xs ≡ false
none_of p [] h = refl
none_of p (x ∷ xs) h = ap (λ b. b || list_any p xs) (h x) ∙ none_of p xs h

no_character : (cs : List ℕ) → is_character (40 ∷ cs) ≡ false
unfolding is_character
no_character cs = none_of (λ code. bytes_eq (40 ∷ cs) (char_text code)) (range_with_len 0 128) (λ code. split (nat_le 33 code && (nat_le code 126 && not (code == 39))) (codes "" ++ code ∷ [] ++ codes "'") (codes "(:" ++ decimal code ++ codes ":)'"))
  where
    split : (b : Bool) (p q : List ℕ) → bytes_eq (40 ∷ cs) (if b then 39 ∷ p else 39 ∷ q) ≡ false
    split true p q = refl
    split false p q = refl

no_name : (cs : List ℕ) → is_name (40 ∷ cs) ≡ false
unfolding is_name
no_name cs = refl

no_parenthesis : (cs : List ℕ) → is_value (40 ∷ cs) ≡ false
unfolding is_value
no_parenthesis cs = either_false (is_integer (40 ∷ cs)) (is_character (40 ∷ cs)) (is_name (40 ∷ cs)) (not_integer 40 cs refl (λ h. omega (arith, h))) (no_character cs) (no_name cs)

-- ---- what a word stands for

closed_before : (v : List ℕ) → before_closing (v ++ codes ")") ≡ Some v
closed_before [] = refl
closed_before (c ∷ []) = refl
closed_before (c ∷ d ∷ cs) = ap (λ o. option_map (λ v. c ∷ v) o) (closed_before (d ∷ cs))

checked_value : (v : List ℕ) → is_value v ≡ true → checked (Some v) ≡ Some v
checked_value v h = ap (λ b. if b then Some v else None) h

pub no_integer_at_all : is_integer [] ≡ false
unfolding is_integer
no_integer_at_all = ap (bytes_eq []) (decimal_digit 0 (lit< tt))

no_words : is_value [] ≡ false
unfolding is_value is_character is_name
no_words = ap (λ b. b || false) no_integer_at_all

pub value_is : (w v : List ℕ) → SpellsValue w v → value_in w ≡ Some v
value_is w v h = elim h.1 [ inl same ↦ ap value_in same.0 ∙ alone v h.0 same.1 | inr same ↦ ap value_in same ∙ ap checked (closed_before v) ∙ checked_value v h.0 ]
  where
    alone : (x : List ℕ) → is_value x ≡ true → is_doubtful x ≡ false → value_in x ≡ Some x
    alone [] is plain = absurd (cc (no_words))
    alone (c ∷ cs) is plain = split (c == 40) refl
      where
        split : (b : Bool) → (c == 40) ≡ b → (if b then checked (before_closing cs) else (if is_doubtful (c ∷ cs) then None else checked (Some (c ∷ cs)))) ≡ Some (c ∷ cs)
        split true e = absurd (cc (no_parenthesis cs, ap (λ d. is_value (d ∷ cs)) (eqb-true c 40 e)))
        split false e = ap (λ b. if b then None else checked (Some (c ∷ cs))) plain ∙ checked_value (c ∷ cs) is

-- ---- what it is read as

same_inside : (x y : List ℕ) → parenthesized x ≡ parenthesized y → x ≡ y
same_inside x y e = append_cancel_right x y (codes ")") (let k : 40 ∷ (x ++ codes ")") ≡ 40 ∷ (y ++ codes ")") = e in cc)

abbrev pub IsChecked : List ℕ → Option (Bor (List ℕ)) → Type 0
IsChecked v r = MatchOption r (is_value v ≡ false) (λ x. (x.now ≡ v) × (is_value v ≡ true))

abbrev pub IsValueIn : List ℕ → Option (Bor (List ℕ)) → Type 0
IsValueIn w r = MatchOption r ((v : List ℕ) → ¬ (SpellsValue w v)) (λ x. SpellsValue w x.now)

pub in_parentheses : (w v : List ℕ) (r : Option (Bor (List ℕ))) → w ≡ parenthesized v → IsChecked v r → IsValueIn w r
in_parentheses w v (Some x) e h = (ap is_value h.0 ∙ h.1, inr (e ∙ ap parenthesized (sym h.0)))
in_parentheses w v None e h = none
  where
    none : (x : List ℕ) → ¬ (SpellsValue w x)
    none x (is, inl same) = absurd (cc (is, ap is_value (sym same.0 ∙ e), no_parenthesis (v ++ codes ")")))
    none x (is, inr same) = absurd (cc (is, h, ap is_value (same_inside v x (sym e ∙ same))))

pub without : (w : List ℕ) (r : Option (Bor (List ℕ))) → ((v : List ℕ) → w ≢ parenthesized v) → is_doubtful w ≡ false → IsChecked w r → IsValueIn w r
without w (Some x) bare plain h = (ap is_value h.0 ∙ h.1, inl (sym h.0, ap is_doubtful h.0 ∙ plain))
without w None bare plain h = none
  where
    none : (x : List ℕ) → ¬ (SpellsValue w x)
    none x (is, inl same) = absurd (cc (is, h, ap is_value same.0))
    none x (is, inr same) = bare x same

pub doubtful : (w : List ℕ) → ((v : List ℕ) → w ≢ parenthesized v) → is_doubtful w ≡ true → (v : List ℕ) → ¬ (SpellsValue w v)
doubtful w bare is v (value, inl same) = absurd (cc (is, ap is_doubtful same.0, same.1))
doubtful w bare is v (value, inr same) = bare v same

-- ---- what it is not

none_word : {A : Type 0} (means : List ℕ → Option A) (w k : List ℕ) (v : A) → means w ≡ Some v → means k ≡ None → bytes_eq w k ≡ false
none_word means w k v is none = split (bytes_eq w k) refl
  where
    split : (b : Bool) → bytes_eq w k ≡ b → b ≡ false
    split false e = refl
    split true e = absurd (cc (is, none, ap means (same_words w k e)))

no_value : (k : List ℕ) → is_value k ≡ false → checked (Some k) ≡ None
no_value k h = ap (λ b. if b then Some k else None) h

not_and : is_value (codes "and") ≡ false
unfolding is_value is_character is_name reserved
not_and = either_false (is_integer (codes "and")) (is_character (codes "and")) (is_name (codes "and")) (not_integer 97 (codes "nd") refl (λ h. omega (arith, h))) refl refl

not_or : is_value (codes "or") ≡ false
unfolding is_value is_character is_name reserved
not_or = either_false (is_integer (codes "or")) (is_character (codes "or")) (is_name (codes "or")) (not_integer 111 (codes "r") refl (λ h. omega (arith, h))) refl refl

not_waiting : is_value (codes "all-waiting") ≡ false
unfolding is_value is_character is_name reserved
not_waiting =
    either_false (is_integer (codes "all-waiting")) (is_character (codes "all-waiting")) (is_name (codes "all-waiting")) (not_integer 97 (codes "ll-waiting") refl (λ h. omega (arith, h))) refl refl

not_error : is_value (codes "run-error") ≡ false
unfolding is_value is_character is_name reserved
not_error =
    either_false (is_integer (codes "run-error")) (is_character (codes "run-error")) (is_name (codes "run-error")) (not_integer 114 (codes "un-error") refl (λ h. omega (arith, h))) refl refl

not_dots : is_value (codes "..") ≡ false
unfolding is_value is_character is_name reserved
not_dots = either_false (is_integer (codes "..")) (is_character (codes "..")) (is_name (codes "..")) (not_integer 46 (codes ".") refl (λ h. omega (arith, h))) refl refl

no_sign_alone : is_integer (codes "-") ≡ false
unfolding is_integer
no_sign_alone = ap (bytes_eq (codes "-")) (decimal_digit 0 (lit< tt))

not_hyphen : is_value (codes "-") ≡ false
unfolding is_value is_character is_name reserved
not_hyphen = either_false (is_integer (codes "-")) (is_character (codes "-")) (is_name (codes "-")) no_sign_alone refl refl

pub no_and : (w v : List ℕ) → value_in w ≡ Some v → bytes_eq w (codes "and") ≡ false
no_and w v is = none_word value_in w (codes "and") v is (no_value (codes "and") not_and)

pub no_hyphen : (w v : List ℕ) → value_in w ≡ Some v → bytes_eq w (codes "-") ≡ false
no_hyphen w v is = none_word value_in w (codes "-") v is (no_value (codes "-") not_hyphen)

pub or_is_no_value : value_in (codes "or") ≡ None
or_is_no_value = no_value (codes "or") not_or

pub waiting_is_no_value : value_in (codes "all-waiting") ≡ None
waiting_is_no_value = no_value (codes "all-waiting") not_waiting

pub error_is_no_value : value_in (codes "run-error") ≡ None
error_is_no_value = no_value (codes "run-error") not_error

pub dots_are_no_value : value_in (codes "..") ≡ None
dots_are_no_value = no_value (codes "..") not_dots

-- ---- a name of processes

bare_parts : (a b : Bool) → (not a && not b) ≡ true → (a ≡ false) × (b ≡ false)
bare_parts false false h = (refl, refl)
bare_parts true b h = absurd (cc)
bare_parts false true h = absurd (cc)

pub process_is : (w v : List ℕ) → SpellsProcess w v → process_in w ≡ Some v
process_is w v (inl same) = ap process_in same.0 ∙ alone v same.1
  where
    alone : (x : List ℕ) → is_bare x ≡ true → process_in x ≡ Some x
    alone [] bare = absurd (cc)
    alone (c ∷ cs) bare =
        let parts = bare_parts (is_own (c ∷ cs)) (c == 40) bare in
        ap (λ b. if b then before_closing cs else (if is_own (c ∷ cs) then None else Some (c ∷ cs))) parts.1 ∙ ap (λ b. if b then None else Some (c ∷ cs)) parts.0
process_is w v (inr same) = ap process_in same ∙ closed_before v

-- a word that names processes is none of those that may stand in its place
pub record IsOther (w v : List ℕ) : Type 0 where
  pub means : process_in w ≡ Some v
  pub and : bytes_eq w (codes "and") ≡ false
  pub output : bytes_eq w (codes "output") ≡ false
  pub dots : bytes_eq w (codes "..") ≡ false

pub other_word : (w v : List ℕ) → SpellsProcess w v → IsOther w v
other_word w v h =
    let is = process_is w v h in
    record { means = is; and = none_word process_in w (codes "and") v is refl; output = none_word process_in w (codes "output") v is refl; dots = none_word process_in w (codes "..") v is refl }
