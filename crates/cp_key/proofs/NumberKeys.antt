-- The keys of numbers can be read back.
use Rattle.std.proofs.Common.{◌≡◌, ◌∙◌, ◌⊎◌, inl, inr, ℕ, zero, suc, ◌+◌, ◌*◌, ◌/◌, ◌%◌, ◌<◌, ◌≤◌, List, [], ◌∷◌, ◌++◌, ℤ, pos, negsuc, Bool, eqb, ltb, cond, ap, refl, arith}
use Rattle.std.proofs.lemmas.Bool.{cases_lt, lt-ltb, le-ltb, ne_eqb}
use Rattle.cp_key.specs.Numbers.{digits, byte_key, short_key, number_key, place_of, integer_key}

-- how values of a type are read from the front of a list, as they were written
pub record Code {A : Type 0} (write : A → List ℕ) : Type 0 where
  pub read : List ℕ → A × List ℕ
  pub back : (a : A) (rest : List ℕ) → read (write a ++ rest) ≡ (a, rest)

-- ---- digits

digits_read : ℕ → List ℕ → ℕ × List ℕ
digits_read more [] = (0, [])
digits_read zero (n ∷ ns) = (n, ns)
digits_read (suc more) (n ∷ ns) = let r = digits_read more ns in (n + 256 * r.0, r.1)

digits_back : (more n : ℕ) (rest : List ℕ) → digits_read more (digits more n ++ rest) ≡ (n, rest)
unfolding digits_read
digits_back zero n rest = refl
digits_back (suc more) n rest =
    let on : ℕ × List ℕ → ℕ × List ℕ = λ r. (n % 256 + 256 * r.0, r.1) in
    let whole : n % 256 + 256 * (n / 256) ≡ n = omega arith in
    ap on (digits_back more (n / 256) rest) ∙ ap (λ k. (k, rest)) whole

-- ---- numbers

byte_read : List ℕ → ℕ × List ℕ
byte_read [] = (0, [])
byte_read (n ∷ ns) = (n, ns)

pub byte : Code byte_key
unfolding byte_read
byte = record { read = byte_read; back = λ n rest. refl }

short_read : List ℕ → ℕ × List ℕ
short_read [] = (0, [])
short_read (k ∷ ns) = cond (eqb k 255) (digits_read 1 ns) (k, ns)

short_back : (n : ℕ) (rest : List ℕ) → short_read (short_key n ++ rest) ≡ (n, rest)
unfolding short_read
short_back n rest = go (cases_lt n 255)
  where
    go : (n < 255) ⊎ (255 ≤ n) → short_read (short_key n ++ rest) ≡ (n, rest)
    go (inl lt) = ap (λ b. short_read (cond b (n ∷ []) (255 ∷ digits 1 n) ++ rest)) (lt-ltb n 255 lt) ∙ ap (λ b. cond b (digits_read 1 rest) (n, rest)) (ne_eqb n 255 (λ e. omega (arith, e, lt)))
    go (inr ge) = ap (λ b. short_read (cond b (n ∷ []) (255 ∷ digits 1 n) ++ rest)) (le-ltb n 255 ge) ∙ digits_back 1 n rest

pub short : Code short_key
short = record { read = short_read; back = short_back }

number_read : List ℕ → ℕ × List ℕ
number_read [] = (0, [])
number_read (k ∷ ns) = cond (eqb k 254) (digits_read 1 ns) (cond (eqb k 255) (digits_read 7 ns) (k, ns))

number_back : (n : ℕ) (rest : List ℕ) → number_read (number_key n ++ rest) ≡ (n, rest)
unfolding number_read
number_back n rest = go (cases_lt n 254) (cases_lt n 65536)
  where
    go : (n < 254) ⊎ (254 ≤ n) → (n < 65536) ⊎ (65536 ≤ n) → number_read (number_key n ++ rest) ≡ (n, rest)
    go (inl lt) few =
        ap (λ b. number_read (cond b (n ∷ []) (cond (ltb n 65536) (254 ∷ digits 1 n) (255 ∷ digits 7 n)) ++ rest)) (lt-ltb n 254 lt)
        ∙ ap (λ b. cond b (digits_read 1 rest) (cond (eqb n 255) (digits_read 7 rest) (n, rest))) (ne_eqb n 254 (λ e. omega (arith, e, lt)))
        ∙ ap (λ b. cond b (digits_read 7 rest) (n, rest)) (ne_eqb n 255 (λ e. omega (arith, e, lt)))
    go (inr ge) (inl lt) =
        ap (λ b. number_read (cond b (n ∷ []) (cond (ltb n 65536) (254 ∷ digits 1 n) (255 ∷ digits 7 n)) ++ rest)) (le-ltb n 254 ge)
        ∙ ap (λ b. number_read (cond b (254 ∷ digits 1 n) (255 ∷ digits 7 n) ++ rest)) (lt-ltb n 65536 lt)
        ∙ digits_back 1 n rest
    go (inr ge) (inr far) =
        ap (λ b. number_read (cond b (n ∷ []) (cond (ltb n 65536) (254 ∷ digits 1 n) (255 ∷ digits 7 n)) ++ rest)) (le-ltb n 254 ge)
        ∙ ap (λ b. number_read (cond b (254 ∷ digits 1 n) (255 ∷ digits 7 n) ++ rest)) (le-ltb n 65536 far)
        ∙ digits_back 7 n rest

pub number : Code number_key
number = record { read = number_read; back = number_back }

-- ---- integers

number_at : ℕ → ℤ
number_at place = cond (eqb (place % 2) 0) (pos (place / 2)) (negsuc (place / 2))

at_place_of : (z : ℤ) → number_at (place_of z) ≡ z
unfolding number_at
at_place_of (pos n) =
    let even : (2 * n) % 2 ≡ 0 = omega arith in
    let half : (2 * n) / 2 ≡ n = omega arith in
    ap (λ k. cond (eqb k 0) (pos (2 * n / 2)) (negsuc (2 * n / 2))) even ∙ ap pos half
at_place_of (negsuc n) =
    let odd : (2 * n + 1) % 2 ≡ 1 = omega arith in
    let half : (2 * n + 1) / 2 ≡ n = omega arith in
    ap (λ k. cond (eqb k 0) (pos ((2 * n + 1) / 2)) (negsuc ((2 * n + 1) / 2))) odd ∙ ap negsuc half

integer_read : List ℕ → ℤ × List ℕ
integer_read [] = (pos 0, [])
integer_read (k ∷ ns) = let r = digits_read 1 ns in cond (eqb k 255) (number_at r.0, r.1) (pos k, ns)

far_back : (z : ℤ) (rest : List ℕ) → integer_read ((255 ∷ digits 1 (place_of z)) ++ rest) ≡ (z, rest)
unfolding integer_read
far_back z rest = ap (λ r. (number_at r.0, r.1)) (digits_back 1 (place_of z) rest) ∙ ap (λ y. (y, rest)) (at_place_of z)

integer_back : (z : ℤ) (rest : List ℕ) → integer_read (integer_key z ++ rest) ≡ (z, rest)
unfolding integer_read
integer_back (negsuc n) rest = far_back (negsuc n) rest
integer_back (pos n) rest = go (cases_lt n 255)
  where
    go : (n < 255) ⊎ (255 ≤ n) → integer_read (integer_key (pos n) ++ rest) ≡ (pos n, rest)
    go (inl lt) =
        let read : Bool → ℤ × List ℕ = λ b. cond b (number_at (digits_read 1 rest).0, (digits_read 1 rest).1) (pos n, rest) in
        ap (λ b. integer_read (cond b (n ∷ []) (255 ∷ digits 1 (place_of (pos n))) ++ rest)) (lt-ltb n 255 lt) ∙ ap read (ne_eqb n 255 (λ e. omega (arith, e, lt)))
    go (inr ge) = ap (λ b. integer_read (cond b (n ∷ []) (255 ∷ digits 1 (place_of (pos n))) ++ rest)) (le-ltb n 255 ge) ∙ far_back (pos n) rest

pub integer : Code integer_key
integer = record { read = integer_read; back = integer_back }

-- an integer of one byte
record IsNear (z : ℤ) : Type 0 where
  pub byte : ℕ
  pub few : byte < 255
  pub key : integer_key z ≡ byte ∷ []

near_or_far : (z : ℤ) → IsNear z ⊎ (integer_key z ≡ 255 ∷ digits 1 (place_of z))
near_or_far (negsuc n) = inr refl
near_or_far (pos n) = go (cases_lt n 255)
  where
    go : (n < 255) ⊎ (255 ≤ n) → IsNear (pos n) ⊎ (integer_key (pos n) ≡ 255 ∷ digits 1 (place_of (pos n)))
    go (inl lt) = inl (record { byte = n; few = lt; key = ap (λ b. cond b (n ∷ []) (255 ∷ digits 1 (place_of (pos n)))) (lt-ltb n 255 lt) })
    go (inr ge) = inr (ap (λ b. cond b (n ∷ []) (255 ∷ digits 1 (place_of (pos n)))) (le-ltb n 255 ge))

-- an integer is longer than a byte where its first byte is 255
pub far_of_first : (z : ℤ) (bytes more : List ℕ) (first : ℕ) → bytes ≡ integer_key z ++ more → ((byte : ℕ) (rest : List ℕ) → bytes ≡ byte ∷ rest → first ≡ byte) → first ≡ 255 → bytes ≡ 255 ∷ digits 1 (place_of z) ++ more
far_of_first z bytes more first e tells is = go (near_or_far z)
  where
    go : IsNear z ⊎ (integer_key z ≡ 255 ∷ digits 1 (place_of z)) → bytes ≡ 255 ∷ digits 1 (place_of z) ++ more
    go (inl near) =
        let same : first ≡ near.byte = tells near.byte more (e ∙ ap (λ k. k ++ more) near.key) in
        absurd (omega (arith, same, near.few, is))
    go (inr far) = e ∙ ap (λ k. k ++ more) far
