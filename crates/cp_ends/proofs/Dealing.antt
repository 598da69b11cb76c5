-- A row that was dealt out to two halves is told by them.
use Rattle.std.proofs.Common.{◌≡◌, ◌∙◌, ◌⊎◌, inl, inr, ◌++◌, ◌+◌, ◌-◌, ◌<◌, ◌≤◌, ℕ, List, [], ◌∷◌, length, take, drop, refl, sym, ap, arith}
use Rattle.std.proofs.Math.Seq.{drop-append_seam, drop-nil, take-append_seam, take-nil}
use Rattle.std.proofs.lemmas.Bool.{cases_order}
use Rattle.std.proofs.lemmas.List.{append-nil, append_assoc, drop_all, length-append, length-drop, length-take-le, take-append-drop, take_all}
use Rattle.cp_ends.specs.Halves.{dealt}

-- what was dealt out, in turn from one and from the other
unfoldable pub joined : List ℕ → List ℕ → List ℕ → List ℕ
joined [] near far = near
joined (n ∷ ns) near far = take n near ++ joined ns far (drop n near)

-- a row from its first numbers, and from what the rest was dealt out to
abbrev again : ℕ → List ℕ → List ℕ → List ℕ × List ℕ → List ℕ
again n ns first rest = take n (first ++ rest.1) ++ joined ns rest.0 (drop n (first ++ rest.1))

nothing_dealt : (ns : List ℕ) → dealt ns [] ≡ ([], [])
unfolding dealt
nothing_dealt [] = refl
nothing_dealt (n ∷ ns) = ap (λ l. (take n [] ++ (dealt ns l).1, (dealt ns l).0)) (drop-nil n) ∙ ap (λ (p : List ℕ × List ℕ). (take n [] ++ p.1, p.0)) (nothing_dealt ns) ∙ ap (λ (l : List ℕ). (l ++ [], [])) (take-nil n)

nothing_joined : (ns : List ℕ) → joined ns [] [] ≡ []
unfolding joined
nothing_joined [] = refl
nothing_joined (n ∷ ns) = ap (λ l. l ++ joined ns [] (drop n [])) (take-nil n) ∙ ap (λ l. joined ns [] l) (drop-nil n) ∙ nothing_joined ns

module _ (n : ℕ) (ns row : List ℕ) where
  abbrev rest : List ℕ × List ℕ
  rest = dealt ns (drop n row)

  within : joined ns rest.0 rest.1 ≡ drop n row → n ≤ length row → again n ns (take n row) rest ≡ row
  within it le =
      let first = take n row in
      let long : length first ≡ n = length-take-le n row le in
      ap (λ l. l ++ joined ns rest.0 (drop n (first ++ rest.1))) (ap (λ k. take k (first ++ rest.1)) (sym long) ∙ take-append_seam first rest.1)
      ∙ ap (λ l. first ++ joined ns rest.0 l) (ap (λ k. drop k (first ++ rest.1)) (sym long) ∙ drop-append_seam first rest.1)
      ∙ ap (λ l. first ++ l) it
      ∙ take-append-drop n row

  short : length row ≤ n → again n ns (take n row) rest ≡ row
  short le =
      ap (λ l. again n ns (take n row) (dealt ns l)) (drop_all n row le)
      ∙ ap (λ p. again n ns (take n row) p) (nothing_dealt ns)
      ∙ ap (λ l. take n l ++ joined ns [] (drop n l)) (append-nil (take n row) ∙ take_all n row le)
      ∙ ap (λ l. take n row ++ joined ns [] l) (drop_all n row le)
      ∙ ap (λ l. take n row ++ l) (nothing_joined ns)
      ∙ append-nil (take n row)
      ∙ take_all n row le

  by : joined ns rest.0 rest.1 ≡ drop n row → (length row ≡ n) ⊎ ((length row < n) ⊎ (n < length row)) → again n ns (take n row) rest ≡ row
  by it (inl e) = short (omega (arith, e))
  by it (inr (inl lt)) = short (omega (arith, lt))
  by it (inr (inr lt)) = within it (omega (arith, lt))

pub joined_dealt : (ns row : List ℕ) → joined ns (dealt ns row).0 (dealt ns row).1 ≡ row
unfolding joined dealt
joined_dealt [] row = refl
joined_dealt (n ∷ ns) row = by n ns row (joined_dealt ns (drop n row)) (cases_order (length row) n)

-- three cuts
pub dealt_in_three : (a b c : ℕ) (row : List ℕ) → dealt (a ∷ b ∷ c ∷ []) row ≡ (take a row ++ take c (drop b (drop a row)), take b (drop a row) ++ drop c (drop b (drop a row)))
unfolding dealt
dealt_in_three a b c row = ap (λ (l : List ℕ). (take a row ++ l, take b (drop a row) ++ drop c (drop b (drop a row)))) (append-nil (take c (drop b (drop a row))))

pub joined_of_three : (a b c : ℕ) (near far : List ℕ) → joined (a ∷ b ∷ c ∷ []) near far ≡ take a near ++ (take b far ++ (take c (drop a near) ++ drop b far))
unfolding joined
joined_of_three a b c near far = refl

module _ (a b c : ℕ) (row near far : List ℕ) (d : dealt (a ∷ b ∷ c ∷ []) row ≡ (near, far)) (long : a + b + c ≤ length row) where
  near_is : near ≡ take a row ++ take c (drop b (drop a row))
  near_is = ap (λ (p : List ℕ × List ℕ). p.0) (sym d ∙ dealt_in_three a b c row)

  far_is : far ≡ take b (drop a row) ++ drop c (drop b (drop a row))
  far_is = ap (λ (p : List ℕ × List ℕ). p.1) (sym d ∙ dealt_in_three a b c row)

  rest_long : length (drop a row) ≡ length row - a
  rest_long = length-drop a row

  last_long : length (drop b (drop a row)) ≡ length row - a - b
  last_long = length-drop b (drop a row) ∙ ap (λ n. n - b) rest_long

  pub near_long : length near ≡ a + c
  near_long =
      ap length near_is
      ∙ length-append (take a row) (take c (drop b (drop a row)))
      ∙ ap (λ n. n + length (take c (drop b (drop a row)))) (length-take-le a row (omega (arith, long)))
      ∙ ap (λ n. a + n) (length-take-le c (drop b (drop a row)) (omega (arith, long, last_long)))

  pub far_long : length far ≡ b + (length row - a - b - c)
  far_long =
      ap length far_is
      ∙ length-append (take b (drop a row)) (drop c (drop b (drop a row)))
      ∙ ap (λ n. n + length (drop c (drop b (drop a row)))) (length-take-le b (drop a row) (omega (arith, long, rest_long)))
      ∙ ap (λ n. b + n) (length-drop c (drop b (drop a row)) ∙ ap (λ n. n - c) last_long)

  -- a row from its pieces
  pub rejoined : take a near ++ (take b far ++ (drop a near ++ drop b far)) ≡ row
  rejoined =
      ap (λ l. take a near ++ (take b far ++ (l ++ drop b far))) (sym (take_all c (drop a near) (omega (arith, length-drop a near, near_long))))
      ∙ sym (joined_of_three a b c near far)
      ∙ ap (λ (p : List ℕ × List ℕ). joined (a ∷ b ∷ c ∷ []) p.0 p.1) (sym d)
      ∙ joined_dealt (a ∷ b ∷ c ∷ []) row

pub one_after_one : (s p q m n : List ℕ) → [] ++ s ++ p ++ q ++ m ++ n ≡ s ++ (p ++ (q ++ (m ++ n)))
one_after_one s p q m n = append_assoc (s ++ p ++ q) m n ∙ append_assoc (s ++ p) q (m ++ n) ∙ append_assoc s p (q ++ (m ++ n))
