-- With which character bytes begin.
use Rattle.std.proofs.Common.{◌≡◌, ℕ, ◌+◌, ◌<◌, ◌≤◌, ◌-◌, Bool, true, ◌&&◌, List, [], ◌∷◌, ◌++◌, length, take, drop, get_or, Some, arith, inl, inr, refl, sym, ◌∙◌, ap, subst, length-append, append_assoc, append-nil}
use Rattle.std.proofs.Math.Seq.{take-append_seam}
use Rattle.std.proofs.Math.Utf8.{low_scalar}
use Rattle.std.proofs.lemmas.Bool.{and_parts, cases_lt}
use Rattle.std.proofs.lemmas.List.{length-take-le, take-append-drop}
use Rattle.std.proofs.lemmas.Str.{IsUtf8-encode, byte_from_char, chars-encodes, encode_ascii, length-encode}
use Rattle.std.specs.Char.{IsScalar, encode_utf8, len_utf8}
use Rattle.std.specs.List.{slice_get, slice_range}
use Rattle.std.specs.Str.{IsUtf8, chars, encode_utf8_all}
use Rattle.cp_outcomes.specs.Lines.{IsFront, shown_character}

len_wide : (c : ℕ) → 128 ≤ c → (2 ≤ len_utf8 c) × (len_utf8 c ≤ 4)
len_wide c high = grind arith

-- one that is no byte of ASCII takes more of them, and four at most
wide : (c : ℕ) (bytes rest : List ℕ) → 128 ≤ get_or bytes 0 0 → bytes ≡ encode_utf8 c ++ rest → (2 ≤ length (encode_utf8 c)) × (length (encode_utf8 c) ≤ 4)
wide c bytes rest first is =
    elim (cases_lt c 128) [
      | inl low ↦ absurd (omega (arith, low, first, byte_from_char bytes rest c is low))
      | inr high ↦ let wide = len_wide c high in (omega (arith, wide.0, length-encode c), omega (arith, wide.1, length-encode c))
    ]

-- the bytes of one are a front of them
front_is : (c : ℕ) (bytes rest : List ℕ) → bytes ≡ encode_utf8 c ++ rest → take (length (encode_utf8 c)) bytes ≡ encode_utf8 c
front_is c bytes rest is = ap (take (length (encode_utf8 c))) is ∙ take-append_seam (encode_utf8 c) rest

within : (c : ℕ) (bytes rest : List ℕ) → bytes ≡ encode_utf8 c ++ rest → length (encode_utf8 c) ≤ length bytes
within c bytes rest is = omega (arith, ap length is, length-append (encode_utf8 c) rest)

-- no shorter front is UTF-8
abbrev pub NoneBefore : List ℕ → ℕ → Type 0
NoneBefore bytes n = (k : ℕ) → 2 ≤ k → k < n → k ≤ length bytes → IsUtf8 (take k bytes) → ⊥

one : (bytes : List ℕ) (n : ℕ) → 128 ≤ get_or bytes 0 0 → 2 ≤ n → n ≤ length bytes → IsUtf8 (take n bytes) → NoneBefore bytes n → (c : ℕ) × IsScalar c × (take n bytes ≡ encode_utf8 c)
one bytes n first two inside ([], (scalars, is)) before = absurd (omega (arith, two, ap length is, length-take-le n bytes inside))
one bytes n first two inside (c ∷ cs, (scalars, is)) before =
    let whole : bytes ≡ encode_utf8 c ++ (encode_utf8_all cs ++ drop n bytes) = sym (take-append-drop n bytes) ∙ ap (λ front. front ++ drop n bytes) (sym is) ∙ append_assoc (encode_utf8 c) (encode_utf8_all cs) (drop n bytes) in
    let m = length (encode_utf8 c) in
    let parts = and_parts _ _ scalars in
    let utf8 : IsUtf8 (take m bytes) = subst IsUtf8 (sym (front_is c bytes _ whole)) (IsUtf8-encode c parts.0) in
    elim (cases_lt m n) [
      | inl less ↦ absurd (before m (wide c bytes _ first whole).0 less (within c bytes _ whole) utf8)
      | inr all ↦
          let long : length (encode_utf8 c) + length (encode_utf8_all cs) ≡ n = sym (length-append (encode_utf8 c) (encode_utf8_all cs)) ∙ ap length is ∙ length-take-le n bytes inside in
          let same : m ≡ n = omega (arith, all, long) in
          (c, parts.0, subst (λ k. take k bytes ≡ encode_utf8 c) same (front_is c bytes _ whole))
    ]

-- the shortest front of some bytes that is UTF-8 is a character
pub front_of_text : (bytes : List ℕ) (n : ℕ) (character shown : ℕ) → 128 ≤ get_or bytes 0 0 → 2 ≤ n → n ≤ length bytes → IsUtf8 (take n bytes) → NoneBefore bytes n → ((c : ℕ) → IsScalar c → take n bytes ≡ encode_utf8 c → character ≡ c) → shown ≡ shown_character character → IsFront bytes shown n
front_of_text bytes n character shown first two inside utf8 before read is =
    let found = one bytes n first two inside utf8 before in
    inl (found.0, drop n bytes, found.1, sym (take-append-drop n bytes) ∙ ap (λ front. front ++ drop n bytes) found.2, sym (length-take-le n bytes inside) ∙ ap length found.2, is ∙ ap shown_character (read found.0 found.1 found.2))

-- where no front of up to four bytes is, they begin with none
pub front_of_none : (bytes : List ℕ) → 128 ≤ get_or bytes 0 0 → NoneBefore bytes 5 → IsFront bytes 63 1
front_of_none bytes first before =
    inr (
      (λ c rest scalar is.
          let long = wide c bytes rest first is in
          before (length (encode_utf8 c)) long.0 (omega (arith, long.1)) (within c bytes rest is) (subst IsUtf8 (sym (front_is c bytes rest is)) (IsUtf8-encode c scalar))),
      refl,
      refl,
    )

pub from_start : (bytes : List ℕ) (n : ℕ) → slice_range bytes 0 n ≡ take n bytes
from_start bytes n = let same : n - 0 ≡ n = omega arith in ap (λ k. take k bytes) same

true_with : {b : Bool} → b ≡ true → (b && true) ≡ true
true_with {b} is = ap (λ x. x && true) is

pub first_char : (c : ℕ) → IsScalar c → slice_get (chars (encode_utf8 c)) 0 ≡ Some c
first_char c scalar =
    let alone : encode_utf8_all (c ∷ []) ≡ encode_utf8 c = append-nil (encode_utf8 c) in
    ap (λ l. slice_get (chars l) 0) (sym alone) ∙ ap (λ cs. slice_get cs 0) (chars-encodes (c ∷ []) (true_with scalar))

-- the next front is none either
pub grown : (bytes : List ℕ) (n : ℕ) → NoneBefore bytes n → (n ≤ length bytes → IsUtf8 (take n bytes) → ⊥) → NoneBefore bytes (n + 1)
grown bytes n before not k two less inside utf8 =
    elim (cases_lt k n) [
      | inl below ↦ before k two below inside utf8
      | inr from ↦ let same : k ≡ n = omega (arith, less, from) in not (omega (arith, inside, same)) (subst (λ m. IsUtf8 (take m bytes)) same utf8)
    ]

pub front_of_ascii : (bytes : List ℕ) (shown : ℕ) → 1 ≤ length bytes → get_or bytes 0 0 < 128 → shown ≡ shown_character (get_or bytes 0 0) → IsFront bytes shown 1
front_of_ascii [] shown some low is = absurd (omega (arith, some))
front_of_ascii (b ∷ bytes) shown some low is = inl (b, bytes, low_scalar b (omega (arith, low)), sym (ap (λ l. l ++ bytes) (encode_ascii b low)), sym (ap length (encode_ascii b low)), is)
