-- A set that is written is read back: by words, pairs, quads and the whole.
use Rattle.std.proofs.Common.{◌≡◌, ◌≢◌, ℕ, ◌+◌, ◌*◌, ◌/◌, ◌%◌, ◌^◌, ◌<◌, ◌≤◌, min, Bool, true, false, List, length, ℤ, pos, ap, ◌∙◌, arith, get_or-set_same, get_or-set_other}
use Rattle.std.specs.Int.{cast_unsigned, cast_signed, w16}
use Rattle.std.proofs.Math.Nat.{mod-add-div'}
use Rattle.std.proofs.lemmas.Int.{of_z-to_z}
use Rattle.std.proofs.lemmas.List.{length-set}
use Rattle.cp_store.specs.declared.memory.Address.{Address}
use Rattle.cp_store.specs.declared.memory.Address.TheVariants.{Permanent, Local}
use Rattle.cp_store.specs.declared.set.SetValue.{SetValue}
use Rattle.cp_store.specs.Memory.{Memory}
use Rattle.cp_store.specs.Sets.{word_at, put_word, load_set, put_set}
use Rattle.cp_store.specs.SetLaws.{SetsAreReadBack}

-- the address of a cell of the process, or of a permanent one
abbrev at : Bool → ℕ → Address
at true n = Local n
at false n = Permanent n

abbrev cells_of : Bool → Memory → List ℤ
cells_of true m = m.cells
cells_of false m = m.permanents

-- ---- words

word_same : (b : Bool) (m : Memory) (n x : ℕ) → n < length (cells_of b m) → x < 65536 → word_at (put_word m (at b n) x) (at b n) ≡ x
word_same true m n x within small = ap (cast_unsigned w16) (get_or-set_same m.cells n (cast_signed w16 x) (pos 0) within) ∙ of_z-to_z w16 x small
word_same false m n x within small = ap (cast_unsigned w16) (get_or-set_same m.permanents n (cast_signed w16 x) (pos 0) within) ∙ of_z-to_z w16 x small

word_other : (b : Bool) (m : Memory) (n k x : ℕ) → k ≢ n → word_at (put_word m (at b n) x) (at b k) ≡ word_at m (at b k)
word_other true m n k x other = ap (cast_unsigned w16) (get_or-set_other m.cells n k (cast_signed w16 x) (pos 0) other)
word_other false m n k x other = ap (cast_unsigned w16) (get_or-set_other m.permanents n k (cast_signed w16 x) (pos 0) other)

word_length : (b : Bool) (m : Memory) (n x : ℕ) → length (cells_of b (put_word m (at b n) x)) ≡ length (cells_of b m)
word_length true m n x = length-set m.cells n (cast_signed w16 x)
word_length false m n x = length-set m.permanents n (cast_signed w16 x)

-- ---- pairs

abbrev pair_of : Bool → Memory → ℕ → ℕ
pair_of b m n = word_at m (at b n) + word_at m (at b (n + 1)) * 65536

abbrev with_pair : Bool → Memory → ℕ → ℕ → Memory
with_pair b m n x = put_word (put_word m (at b n) (x % 65536)) (at b (n + 1)) (x / 65536)

pair_same : (b : Bool) (m : Memory) (n x : ℕ) → n + 2 ≤ length (cells_of b m) → x < 4294967296 → pair_of b (with_pair b m n x) n ≡ x
pair_same b m n x within small =
    let long = word_length b m n (x % 65536) in
    let low = word_other b (put_word m (at b n) (x % 65536)) (n + 1) n (x / 65536) (λ same. omega arith) ∙ word_same b m n (x % 65536) (omega arith) (omega arith) in
    let high = word_same b (put_word m (at b n) (x % 65536)) (n + 1) (x / 65536) (omega arith) (omega arith) in
    ap (λ w. w + word_at (with_pair b m n x) (at b (n + 1)) * 65536) low ∙ ap (λ w. x % 65536 + w * 65536) high ∙ mod-add-div' x 65536

word_before : (b : Bool) (m : Memory) (n k x : ℕ) → k < n → word_at (with_pair b m n x) (at b k) ≡ word_at m (at b k)
word_before b m n k x before =
    word_other b (put_word m (at b n) (x % 65536)) (n + 1) k (x / 65536) (λ same. omega arith) ∙ word_other b m n k (x % 65536) (λ same. omega arith)

pair_before : (b : Bool) (m : Memory) (n k x : ℕ) → k + 2 ≤ n → pair_of b (with_pair b m n x) k ≡ pair_of b m k
pair_before b m n k x before =
    ap (λ w. w + word_at (with_pair b m n x) (at b (k + 1)) * 65536) (word_before b m n k x (omega arith))
    ∙ ap (λ w. word_at m (at b k) + w * 65536) (word_before b m n (k + 1) x (omega arith))

pair_length : (b : Bool) (m : Memory) (n x : ℕ) → length (cells_of b (with_pair b m n x)) ≡ length (cells_of b m)
pair_length b m n x = word_length b (put_word m (at b n) (x % 65536)) (n + 1) (x / 65536) ∙ word_length b m n (x % 65536)

-- ---- quads

abbrev quad_of : Bool → Memory → ℕ → ℕ
quad_of b m n = pair_of b m n + pair_of b m (n + 2) * 4294967296

abbrev with_quad : Bool → Memory → ℕ → ℕ → Memory
with_quad b m n x = with_pair b (with_pair b m n (x % 4294967296)) (n + 2) (x / 4294967296)

quad_same : (b : Bool) (m : Memory) (n x : ℕ) → n + 4 ≤ length (cells_of b m) → x < 18446744073709551616 → quad_of b (with_quad b m n x) n ≡ x
quad_same b m n x within small =
    let long = pair_length b m n (x % 4294967296) in
    let low = pair_before b (with_pair b m n (x % 4294967296)) (n + 2) n (x / 4294967296) (omega arith) ∙ pair_same b m n (x % 4294967296) (omega arith) (omega arith) in
    let high = pair_same b (with_pair b m n (x % 4294967296)) (n + 2) (x / 4294967296) (omega arith) (omega arith) in
    ap (λ w. w + pair_of b (with_quad b m n x) (n + 2) * 4294967296) low ∙ ap (λ w. x % 4294967296 + w * 4294967296) high ∙ mod-add-div' x 4294967296

pair_earlier : (b : Bool) (m : Memory) (n k x : ℕ) → k + 2 ≤ n → pair_of b (with_quad b m n x) k ≡ pair_of b m k
pair_earlier b m n k x before =
    pair_before b (with_pair b m n (x % 4294967296)) (n + 2) k (x / 4294967296) (omega arith) ∙ pair_before b m n k (x % 4294967296) before

quad_before : (b : Bool) (m : Memory) (n k x : ℕ) → k + 4 ≤ n → quad_of b (with_quad b m n x) k ≡ quad_of b m k
quad_before b m n k x before =
    ap (λ w. w + pair_of b (with_quad b m n x) (k + 2) * 4294967296) (pair_earlier b m n k x (omega arith))
    ∙ ap (λ w. pair_of b m k + w * 4294967296) (pair_earlier b m n (k + 2) x (omega arith))

quad_length : (b : Bool) (m : Memory) (n x : ℕ) → length (cells_of b (with_quad b m n x)) ≡ length (cells_of b m)
quad_length b m n x = pair_length b (with_pair b m n (x % 4294967296)) (n + 2) (x / 4294967296) ∙ pair_length b m n (x % 4294967296)

-- ---- sets

abbrev all_of : Bool → Memory → ℕ → ℕ
all_of b m n = quad_of b m n + quad_of b m (n + 4) * 18446744073709551616

abbrev with_all : Bool → Memory → ℕ → ℕ → Memory
with_all b m n x = with_quad b (with_quad b m n (x % 18446744073709551616)) (n + 4) (x / 18446744073709551616)

all_same : (b : Bool) (m : Memory) (n x : ℕ) → n + 8 ≤ length (cells_of b m) → x < 2 ^ 128 → all_of b (with_all b m n x) n ≡ x
all_same b m n x within small =
    let long = quad_length b m n (x % 18446744073709551616) in
    let low = quad_before b (with_quad b m n (x % 18446744073709551616)) (n + 4) n (x / 18446744073709551616) (omega arith) ∙ quad_same b m n (x % 18446744073709551616) (omega arith) (omega arith) in
    let high = quad_same b (with_quad b m n (x % 18446744073709551616)) (n + 4) (x / 18446744073709551616) (omega arith) (omega arith) in
    ap (λ w. w + quad_of b (with_all b m n x) (n + 4) * 18446744073709551616) low ∙ ap (λ w. x % 18446744073709551616 + w * 18446744073709551616) high ∙ mod-add-div' x 18446744073709551616

-- ---- where no sum ends early

stored_is : (b : Bool) (m : Memory) (n : ℕ) → n + 8 < 18446744073709551616 → (load_set m (at b n)).members ≡ all_of b m n
stored_is true m n h =
    let e1 : min (n + 1) 18446744073709551615 ≡ n + 1 = omega arith in
    let e2 : min (n + 2) 18446744073709551615 ≡ n + 2 = omega arith in
    let e3 : min (n + 2 + 1) 18446744073709551615 ≡ n + 2 + 1 = omega arith in
    let e4 : min (n + 4) 18446744073709551615 ≡ n + 4 = omega arith in
    let e5 : min (n + 4 + 1) 18446744073709551615 ≡ n + 4 + 1 = omega arith in
    let e6 : min (n + 4 + 2) 18446744073709551615 ≡ n + 4 + 2 = omega arith in
    let e7 : min (n + 4 + 2 + 1) 18446744073709551615 ≡ n + 4 + 2 + 1 = omega arith in
    simp (e1, e2, e3, e4, e5, e6, e7)
stored_is false m n h =
    let e1 : min (n + 1) 18446744073709551615 ≡ n + 1 = omega arith in
    let e2 : min (n + 2) 18446744073709551615 ≡ n + 2 = omega arith in
    let e3 : min (n + 2 + 1) 18446744073709551615 ≡ n + 2 + 1 = omega arith in
    let e4 : min (n + 4) 18446744073709551615 ≡ n + 4 = omega arith in
    let e5 : min (n + 4 + 1) 18446744073709551615 ≡ n + 4 + 1 = omega arith in
    let e6 : min (n + 4 + 2) 18446744073709551615 ≡ n + 4 + 2 = omega arith in
    let e7 : min (n + 4 + 2 + 1) 18446744073709551615 ≡ n + 4 + 2 + 1 = omega arith in
    simp (e1, e2, e3, e4, e5, e6, e7)

put_is : (b : Bool) (m : Memory) (n : ℕ) (s : SetValue) → n + 8 < 18446744073709551616 → put_set m (at b n) s ≡ with_all b m n s.members
put_is true m n s h =
    let e1 : min (n + 1) 18446744073709551615 ≡ n + 1 = omega arith in
    let e2 : min (n + 2) 18446744073709551615 ≡ n + 2 = omega arith in
    let e3 : min (n + 2 + 1) 18446744073709551615 ≡ n + 2 + 1 = omega arith in
    let e4 : min (n + 4) 18446744073709551615 ≡ n + 4 = omega arith in
    let e5 : min (n + 4 + 1) 18446744073709551615 ≡ n + 4 + 1 = omega arith in
    let e6 : min (n + 4 + 2) 18446744073709551615 ≡ n + 4 + 2 = omega arith in
    let e7 : min (n + 4 + 2 + 1) 18446744073709551615 ≡ n + 4 + 2 + 1 = omega arith in
    simp (e1, e2, e3, e4, e5, e6, e7)
put_is false m n s h =
    let e1 : min (n + 1) 18446744073709551615 ≡ n + 1 = omega arith in
    let e2 : min (n + 2) 18446744073709551615 ≡ n + 2 = omega arith in
    let e3 : min (n + 2 + 1) 18446744073709551615 ≡ n + 2 + 1 = omega arith in
    let e4 : min (n + 4) 18446744073709551615 ≡ n + 4 = omega arith in
    let e5 : min (n + 4 + 1) 18446744073709551615 ≡ n + 4 + 1 = omega arith in
    let e6 : min (n + 4 + 2) 18446744073709551615 ≡ n + 4 + 2 = omega arith in
    let e7 : min (n + 4 + 2 + 1) 18446744073709551615 ≡ n + 4 + 2 + 1 = omega arith in
    simp (e1, e2, e3, e4, e5, e6, e7)

members_back : (b : Bool) (m : Memory) (n : ℕ) (s : SetValue) → n + 8 ≤ length (cells_of b m) → n + 8 < 18446744073709551616 → s.members < 2 ^ 128 → (load_set (put_set m (at b n) s) (at b n)).members ≡ s.members
members_back b m n s within far small =
    ap (λ (k : Memory). (load_set k (at b n)).members) (put_is b m n s far) ∙ stored_is b (with_all b m n s.members) n far ∙ all_same b m n s.members within small

abbrev set_with : ℕ → SetValue
set_with n = record { members = n }

pub read_back : SetsAreReadBack
read_back m (Local n) s here small = ap set_with (members_back true m n s here.0 here.1 small)
read_back m (Permanent n) s here small = ap set_with (members_back false m n s here.0 here.1 small)
