-- Sets by their bits: the sum of the powers of two of the members has a bit for each member, and no other.
use Rattle.std.proofs.Common.{◌≡◌, ◌≢◌, ◌∙◌, ℕ, zero, suc, ◌+◌, ◌*◌, ◌-◌, ◌^◌, ◌<◌, ◌≤◌, ◌==◌, ◌⊎◌, inl, inr, Bool, true, false, not, ◌&&◌, ◌||◌, if◌then◌else◌, List, [], ◌∷◌, ap, sym, refl, subst, arith}
use Rattle.std.specs.Prelude.{pos, filter, bit_or, bit_and, bit_xor, bytes_eq}
use Rattle.std.specs.Int.{bit_at}
use Rattle.std.proofs.lemmas.Bool.{cases_lt, cases_eq, cases_order}
use Rattle.std.proofs.lemmas.Bool.Decides.{Decides-eqb, same_from_decides}
use Rattle.cp_machine_laws.proofs.Words.{ints, bytes_eq-Decides, SetValue, bits_of, AreMembers, SetOperation, Union, Difference, Intersection}
use Rattle.std.proofs.lemmas.Nat.{and_le_l, or_lt, pow-add, pow_pos, pow_below}
use Rattle.std.proofs.lemmas.Nat.Bits.{bit_at-zero, bit_at-lt, bit_at-pow_same, bit_at-pow_other, bit_at_cat_low, bit_at_cat_high, same_from_bits_below}
use Rattle.std.proofs.Math.Nat.{add-mul, mul_assoc}
use Rattle.std.proofs.Math.Pow.{pow_mono}
use Rattle.cp_store.specs.Sets.{has_bit, combine_sets}
use Rattle.cp_store.specs.SetLaws.{is_joined}
use Rattle.cp_store.specs.Values.{is_within}
use Rattle.cp_store.proofs.Members.{combinations}
use Rattle.cp_meaning.specs.Values.{is_member, counted_from, set_where, union, difference, intersection}

pub not_equal : (k n : ℕ) → (k ≡ n → ⊥) → (k == n) ≡ false
not_equal k n d = grind (arith, d)

-- ---- multiples

pow_split : (low n : ℕ) → low ≤ n → 2 ^ n ≡ 2 ^ (n - low) * 2 ^ low
pow_split low n h = let e : n ≡ (n - low) + low = omega arith in ap (λ k. 2 ^ k) e ∙ pow-add 2 (n - low) low

-- what has no member below a number is a multiple of its power
multiple : (low : ℕ) (ns : List ℕ) → AreMembers low ns → (c : ℕ) × (bits_of ns ≡ c * 2 ^ low)
multiple low [] h = (0, omega arith)
multiple low (n ∷ ns) h =
    let more = multiple (suc n) ns h.2 in
    let less = h.0 in
    let a = pow_split low n (omega (arith, less)) in
    let b = pow_split low (suc n) (omega (arith, less)) in (
      2 ^ (n - low) + more.0 * 2 ^ (suc n - low),
      ap (λ k. 2 ^ n + k) more.1 ∙ (ap (λ k. k + more.0 * 2 ^ suc n) a ∙ (ap (λ k. 2 ^ (n - low) * 2 ^ low + more.0 * k) b
          ∙ (ap (λ k. 2 ^ (n - low) * 2 ^ low + k) (sym (mul_assoc more.0 (2 ^ (suc n - low)) (2 ^ low))) ∙ sym (add-mul (2 ^ (n - low)) (more.0 * 2 ^ (suc n - low)) (2 ^ low))))),
    )

-- ---- the bits are the members

none_below : (low : ℕ) (ns : List ℕ) (k : ℕ) → AreMembers low ns → k < low → is_member k ns ≡ false
none_below low [] k h less = refl
none_below low (n ∷ ns) k h less =
    let a = h.0 in
    let other : (k == n) ≡ false = (let d : k ≢ n = (λ e. omega (arith, e, a, less)) in grind (arith, d)) in
    ap (λ b. b || is_member k ns) other ∙ none_below (suc n) ns k h.2 (omega (arith, a, less))

pub none_above : (low : ℕ) (ns : List ℕ) (k : ℕ) → AreMembers low ns → 128 ≤ k → is_member k ns ≡ false
none_above low [] k h more = refl
none_above low (n ∷ ns) k h more =
    let a = h.1 in
    let other : (k == n) ≡ false = (let d : k ≢ n = (λ e. omega (arith, e, a, more)) in grind (arith, d)) in
    ap (λ b. b || is_member k ns) other ∙ none_above (suc n) ns k h.2 more

-- one number, as a set
bit_of_power : (n k : ℕ) → has_bit (2 ^ n) k ≡ (k == n)
bit_of_power n k = go (cases_eq k n)
  where
    go : (k ≡ n) ⊎ (k ≡ n → ⊥) → has_bit (2 ^ n) k ≡ (k == n)
    go (inl e) = ap (λ j. has_bit (2 ^ n) j) e ∙ (ap (λ b. b == 1) (bit_at-pow_same n) ∙ sym ((Decides-eqb k n).1 e))
    go (inr d) = ap (λ b. b == 1) (bit_at-pow_other n k d) ∙ sym (not_equal k n d)

-- one more member below the others
bit_first : (n c k : ℕ) → has_bit (2 ^ n + c * 2 ^ suc n) k ≡ (k == n || has_bit (c * 2 ^ suc n) k)
bit_first n c k = go (cases_lt k (suc n))
  where
    turned : 2 ^ n + c * 2 ^ suc n ≡ c * 2 ^ suc n + 2 ^ n
    turned = omega arith

    nothing : c * 2 ^ suc n ≡ c * 2 ^ suc n + 0
    nothing = omega arith

    small : 2 ^ n < 2 ^ suc n
    small = pow_below n (suc n) (omega arith)

    go : (k < suc n) ⊎ (suc n ≤ k) → has_bit (2 ^ n + c * 2 ^ suc n) k ≡ (k == n || has_bit (c * 2 ^ suc n) k)
    go (inl less) =
        ap (λ x. has_bit x k) turned ∙ (ap (λ b. b == 1) (bit_at_cat_low c (suc n) (2 ^ n) k less) ∙ (bit_of_power n k
        ∙ (or_nothing (k == n) ∙ ap (λ b. k == n || b) (sym (ap (λ x. has_bit x k) nothing ∙ (ap (λ b. b == 1) (bit_at_cat_low c (suc n) 0 k less) ∙ ap (λ b. b == 1) (bit_at-zero k)))))))
      where
        or_nothing : (b : Bool) → b ≡ (b || false)
        or_nothing true = refl
        or_nothing false = refl
    go (inr more) =
        ap (λ x. has_bit x k) turned ∙ (ap (λ b. b == 1) (bit_at_cat_high c (suc n) (2 ^ n) k small more) ∙ (sym (ap (λ x. has_bit x k) nothing ∙ ap (λ b. b == 1) (bit_at_cat_high c (suc n) 0 k (pow_pos (suc n)) more))
        ∙ ap (λ b. b || has_bit (c * 2 ^ suc n) k) (sym (apart k n (omega (arith, more))))))
      where
        apart : (k n : ℕ) → n < k → (k == n) ≡ false
        apart k n less = grind (arith, less)

-- a number is a member where the bits have its bit
pub bits_are : (low : ℕ) (ns : List ℕ) (k : ℕ) → AreMembers low ns → has_bit (bits_of ns) k ≡ is_member k ns
bits_are low [] k h = ap (λ b. b == 1) (bit_at-zero k)
bits_are low (n ∷ ns) k h =
    let more = multiple (suc n) ns h.2 in
    ap (λ x. has_bit (2 ^ n + x) k) more.1 ∙ (bit_first n more.0 k ∙ ap (λ b. k == n || b) (ap (λ x. has_bit x k) (sym more.1) ∙ bits_are (suc n) ns k h.2))

-- no member is 128 or more
pub bits_below : (low : ℕ) (ns : List ℕ) → low < 129 → AreMembers low ns → bits_of ns + 2 ^ low < suc (2 ^ 128)
bits_below low [] small h = (let a = pow_mono {i = low} {j = 128} (omega (arith, small)) in omega (arith, a))
bits_below low (n ∷ ns) small h =
    let less = h.0 in
    let ih = bits_below (suc n) ns (let w = h.1 in omega (arith, w)) h.2 in
    let a : 2 ^ low ≤ 2 ^ n = pow_mono (omega (arith, less)) in
    let b : 2 ^ suc n ≡ 2 * 2 ^ n = omega arith in
    omega (arith, ih, a, b)

-- ---- the members that pass a test

weaker : (low : ℕ) (ns : List ℕ) → AreMembers (suc low) ns → AreMembers low ns
weaker low [] h = tt
weaker low (n ∷ ns) h = ((let a = h.0 in omega (arith, a)), h.1, h.2)

pub are_filtered : (test : ℕ → Bool) (k n : ℕ) → k + n < 129 → AreMembers n (filter test (counted_from k n))
are_filtered test zero n small = tt
are_filtered test (suc k) n small = go (test n) (are_filtered test k (suc n) (omega (arith, small)))
  where
    go : (b : Bool) → AreMembers (suc n) (filter test (counted_from k (suc n))) → AreMembers n (if b then n ∷ filter test (counted_from k (suc n)) else filter test (counted_from k (suc n)))
    go true rest = (omega arith, omega (arith, small), rest)
    go false rest = weaker n (filter test (counted_from k (suc n))) rest

in_filtered : (test : ℕ → Bool) (k n j : ℕ) → k + n < 129 → n ≤ j → j < n + k → is_member j (filter test (counted_from k n)) ≡ test j
in_filtered test zero n j small from to = absurd (omega (arith, from, to))
in_filtered test (suc k) n j small from to = go (cases_eq j n) (λ more. in_filtered test k (suc n) j (omega (arith, small)) more (omega (arith, to)))
  where
    here : (b : Bool) → test n ≡ b → is_member n (if b then n ∷ filter test (counted_from k (suc n)) else filter test (counted_from k (suc n))) ≡ b
    here true e = ap (λ b. b || is_member n (filter test (counted_from k (suc n)))) ((Decides-eqb n n).1 refl)
    here false e = none_below (suc n) (filter test (counted_from k (suc n))) n (are_filtered test k (suc n) (omega (arith, small))) (omega arith)

    there : (j == n) ≡ false → is_member j (filter test (counted_from k (suc n))) ≡ test j → (b : Bool) → is_member j (if b then n ∷ filter test (counted_from k (suc n)) else filter test (counted_from k (suc n))) ≡ test j
    there d ih true = ap (λ b. b || is_member j (filter test (counted_from k (suc n)))) d ∙ ih
    there d ih false = ih

    go : (j ≡ n) ⊎ (j ≡ n → ⊥) → (suc n ≤ j → is_member j (filter test (counted_from k (suc n))) ≡ test j) → is_member j (filter test (counted_from (suc k) n)) ≡ test j
    go (inl e) ih = ap (λ i. is_member i (filter test (counted_from (suc k) n))) e ∙ (here (test n) refl ∙ ap test (sym e))
    go (inr d) ih = there (not_equal j n d) (ih (omega (arith, d, from))) (test n)

pub are_members : (test : ℕ → Bool) → AreMembers 0 (set_where test)
are_members test = are_filtered test 128 0 (omega arith)

pub member_where : (test : ℕ → Bool) (j : ℕ) → j < 128 → is_member j (set_where test) ≡ test j
member_where test j less = in_filtered test 128 0 j (omega arith) (omega arith) (omega (arith, less))

-- ---- numbers by their bits

bit_same : (x y : ℕ) → x < 2 → y < 2 → (x == 1) ≡ (y == 1) → x ≡ y
bit_same zero (suc zero) h k e = absurd (cc)
bit_same (suc zero) zero h k e = absurd (cc)
bit_same (suc (suc x)) y h k e = absurd (omega (arith, h))
bit_same zero (suc (suc y)) h k e = absurd (omega (arith, k))
bit_same (suc zero) (suc (suc y)) h k e = absurd (omega (arith, k))
bit_same _ _ h k e = refl

pub same_bits : (a b : ℕ) → a < 2 ^ 128 → b < 2 ^ 128 → ((k : ℕ) → k < 128 → has_bit a k ≡ has_bit b k) → a ≡ b
same_bits a b small tiny h = same_from_bits_below 128 a b small tiny (λ k less. bit_same (bit_at a k) (bit_at b k) (bit_at-lt a k) (bit_at-lt b k) (h k less))

-- the set of what passes the test has these bits
pub bits_where : (test : ℕ → Bool) (x : ℕ) → x < 2 ^ 128 → ((k : ℕ) → k < 128 → has_bit x k ≡ test k) → bits_of (set_where test) ≡ x
bits_where test x small h =
    let below = bits_below 0 (set_where test) (omega arith) (are_members test) in
    same_bits (bits_of (set_where test)) x (omega (arith, below)) small (λ k less. bits_are 0 (set_where test) k (are_members test) ∙ (member_where test k less ∙ sym (h k less)))

-- ---- equal sets

same_members : (low : ℕ) (a b : List ℕ) → AreMembers low a → AreMembers low b → ((k : ℕ) → is_member k a ≡ is_member k b) → a ≡ b
same_members low [] [] h i e = refl
same_members low [] (m ∷ ms) h i e = (let w = e m in let s = (Decides-eqb m m).1 refl in absurd (is_not m ms w s))
  where
    is_not : (m : ℕ) (ms : List ℕ) → false ≡ (m == m || is_member m ms) → (m == m) ≡ true → ⊥
    is_not m ms w s = (let d : true ≡ (m == m || is_member m ms) = ap (λ b. b || is_member m ms) (sym s) in cc)
same_members low (n ∷ ns) [] h i e = (let w = e n in let s = (Decides-eqb n n).1 refl in absurd (is_not n ns w s))
  where
    is_not : (m : ℕ) (ms : List ℕ) → (m == m || is_member m ms) ≡ false → (m == m) ≡ true → ⊥
    is_not m ms w s = (let d : true ≡ (m == m || is_member m ms) = ap (λ b. b || is_member m ms) (sym s) in cc)
same_members low (n ∷ ns) (m ∷ ms) h i e = by_order (cases_order n m) (λ same go. same_members (suc n) ns ms h.2 (subst (λ x. AreMembers (suc x) ms) (sym same) i.2) go)
  where
    first : (x y : ℕ) (xs ys : List ℕ) → AreMembers (suc y) ys → x < y → (x == x || is_member x xs) ≡ (x == y || is_member x ys) → ⊥
    first x y xs ys k less w =
        let s : (x == x) ≡ true = (Decides-eqb x x).1 refl in
        let d : (x == y) ≡ false = not_equal x y (λ c. omega (arith, c, less)) in
        let u : (x == x || is_member x xs) ≡ true = ap (λ b. b || is_member x xs) s in
        let v : (x == y || is_member x ys) ≡ false = ap (λ b. b || is_member x ys) d ∙ none_below (suc y) ys x k (omega (arith, less)) in
        cc

    rest : n ≡ m → (k : ℕ) → (k ≡ n) ⊎ (k ≡ n → ⊥) → is_member k ns ≡ is_member k ms
    rest same k (inl c) = none_below (suc n) ns k h.2 (omega (arith, c)) ∙ sym (none_below (suc m) ms k i.2 (omega (arith, c, same)))
    rest same k (inr c) =
        let a : (k == n) ≡ false = not_equal k n c in
        let b : (k == m) ≡ false = not_equal k m (λ d. c (d ∙ sym same)) in
        sym (ap (λ x. x || is_member k ns) a) ∙ (e k ∙ ap (λ x. x || is_member k ms) b)

    by_order : (n ≡ m) ⊎ ((n < m) ⊎ (m < n)) → (n ≡ m → ((k : ℕ) → is_member k ns ≡ is_member k ms) → ns ≡ ms) → n ∷ ns ≡ m ∷ ms
    by_order (inl same) ih = (let tail : ns ≡ ms = ih same (λ k. rest same k (cases_eq k n)) in cc)
    by_order (inr (inl less)) ih = absurd (first n m ns ms i.2 less (e n))
    by_order (inr (inr more)) ih = absurd (first m n ms ns h.2 more (sym (e m)))

pub equal_bits : (a b : List ℕ) → AreMembers 0 a → AreMembers 0 b → bytes_eq a b ≡ (bits_of a == bits_of b)
equal_bits a b h i =
    same_from_decides {P = a ≡ b} (bytes_eq a b) (bits_of a == bits_of b) (bytes_eq-Decides a b)
    ((λ e. same_members 0 a b h i (λ k. sym (bits_are 0 a k h) ∙ (ap (λ x. has_bit x k) ((Decides-eqb (bits_of a) (bits_of b)).0 e) ∙ bits_are 0 b k i))), (λ e. (Decides-eqb (bits_of a) (bits_of b)).1 (ap bits_of e)))

-- ---- operations

abbrev pub joined : SetOperation → List ℕ → List ℕ → List ℕ
joined Union a b = union a b
joined Difference a b = difference a b
joined Intersection a b = intersection a b

abbrev pub set_with : ℕ → SetValue
set_with n = record { members = n }

joined_bit : (o : SetOperation) (a b : List ℕ) → AreMembers 0 a → AreMembers 0 b → (k : ℕ) → k < 128 → has_bit (combine_sets o (set_with (bits_of a)) (set_with (bits_of b))).members k ≡ is_joined o (is_member k a) (is_member k b)
joined_bit o a b h i k less =
    let w : is_within (pos 0) (pos 127) (pos k) ≡ true = grind (arith, ints, less) in
    ap (λ c. c && has_bit (combine_sets o (set_with (bits_of a)) (set_with (bits_of b))).members k) (sym w) ∙ (combinations o (set_with (bits_of a)) (set_with (bits_of b)) (pos k)
    ∙ (ap (λ c. is_joined o (c && has_bit (bits_of a) k) (c && has_bit (bits_of b) k)) w ∙ (ap (λ c. is_joined o c (has_bit (bits_of b) k)) (bits_are 0 a k h) ∙ ap (λ c. is_joined o (is_member k a) c) (bits_are 0 b k i))))

-- a combination of sets has the bits of the combination
pub bits_joined : (o : SetOperation) (a b : List ℕ) → AreMembers 0 a → AreMembers 0 b → bits_of (joined o a b) ≡ (combine_sets o (set_with (bits_of a)) (set_with (bits_of b))).members
bits_joined Union a b h i =
    let x = bits_below 0 a (omega arith) h in
    let y = bits_below 0 b (omega arith) i in
    bits_where (λ n. is_member n a || is_member n b) (bit_or (bits_of a) (bits_of b)) (or_lt 128 (bits_of a) (bits_of b) (omega (arith, x)) (omega (arith, y))) (joined_bit Union a b h i)
bits_joined Difference a b h i =
    let x = bits_below 0 a (omega arith) h in
    let y = and_le_l (bits_of a) (bit_xor (bits_of a) (bits_of b)) in
    bits_where (λ n. is_member n a && not (is_member n b)) (bit_and (bits_of a) (bit_xor (bits_of a) (bits_of b))) (omega (arith, x, y)) (joined_bit Difference a b h i)
bits_joined Intersection a b h i =
    let x = bits_below 0 a (omega arith) h in
    let y = and_le_l (bits_of a) (bits_of b) in
    bits_where (λ n. is_member n a && is_member n b) (bit_and (bits_of a) (bits_of b)) (omega (arith, x, y)) (joined_bit Intersection a b h i)

pub members_joined : (o : SetOperation) (a b : List ℕ) → AreMembers 0 (joined o a b)
members_joined Union a b = are_members (λ n. is_member n a || is_member n b)
members_joined Difference a b = are_members (λ n. is_member n a && not (is_member n b))
members_joined Intersection a b = are_members (λ n. is_member n a && is_member n b)
