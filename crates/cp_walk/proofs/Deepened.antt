-- The turns of `to_depth`.
use Rattle.std.proofs.Common.{◌≡◌, ◌∙◌, ℕ, zero, suc, ◌<◌, ◌≤◌, ◌+◌, ◌-◌, ◌*◌, ◌^◌, Bool, true, false, cond, if◌then◌else◌, ◌&&◌, nat_lt, List, [], ◌∷◌, ◌++◌, length, take, drop, get_or, Option, None, Some, Ok, Err, ◌⊎◌, inl, inr, refl, sym, ap, arith, position}
use Rattle.std.specs.List.{sum_by, position_or_len}
use Rattle.std.proofs.lemmas.Bool.{cases_eq, lt-ltb, le-ltb, ltb-false}
use Rattle.std.proofs.lemmas.List.{length-append, length-map, length-take-le, get_or_append_left, get_or-take}
use Rattle.std.proofs.lemmas.List.Sums.{sum_by-append, position_or_len_is}
use Rattle.std.proofs.Math.Nat.{mul-le-mul_right, pow-suc, zero-mul, suc-mul}
use Rattle.cp_run.specs.System.{System}
use Rattle.cp_run.specs.Run.{opened, run}
use Rattle.cp_walk.specs.declared.fault.SplitFault.TheVariants.{Leaf, Full}
use Rattle.cp_walk.specs.Cutting.{children, word_at, wanted_in, is_wanting, is_due, split_by, split_of, made, deeper, deeper_at, deeper_from, deepened}
use Rattle.cp_walk.specs.Deepening.{Settled, weight, Advanced}
use Rattle.cp_walk.proofs.Parting.{wants_short}
use Rattle.cp_walk.proofs.Placing.{wants_is}

power_some : (n : ℕ) → 0 < 4097 ^ n
power_some zero = omega arith
power_some (suc n) = let h = power_some n in let e = pow-suc 4097 n in omega (arith, h, e)

drop_taken : {A : Type 0} (xs ys : List A) (at : ℕ) → at ≤ length xs → drop at (take at xs ++ ys) ≡ ys
drop_taken xs ys zero h = refl
drop_taken [] ys (suc at) h = absurd (omega (arith, h))
drop_taken (x ∷ xs) ys (suc at) h = drop_taken xs ys at (omega (arith, h))

drop_here : {A : Type 0} (xs : List A) (at : ℕ) (d : A) → at < length xs → drop at xs ≡ get_or xs at d ∷ drop (at + 1) xs
drop_here [] at d lt = absurd (omega (arith, lt))
drop_here (x ∷ xs) zero d lt = refl
drop_here (x ∷ xs) (suc at) d lt =
    let n : suc at + 1 ≡ suc (at + 1) = omega arith in
    drop_here xs at d (omega (arith, lt)) ∙ ap (λ k. get_or xs at d ∷ drop k (x ∷ xs)) (sym n)

-- the weight of a place
weight_here : (words : List (List ℕ)) (at : ℕ) → at < length words → weight words at ≡ 4097 ^ (21 - length (word_at words at)) + weight words (at + 1)
weight_here words at lt =
    let f = λ (w : List ℕ). 4097 ^ (21 - length w) in
    let a = sum_by-append f (word_at words at ∷ []) (drop (at + 1) words) in
    ap (sum_by f) (drop_here words at [] lt) ∙ (let z : 0 + f (word_at words at) ≡ f (word_at words at) = omega arith in a ∙ ap (λ n. n + weight words (at + 1)) z)

children_weight : (word ready : List ℕ) → sum_by (λ w. 4097 ^ (21 - length w)) (children word ready) ≡ length ready * 4097 ^ (21 - (length word + 1))
children_weight word [] = sym (zero-mul (4097 ^ (21 - (length word + 1))))
children_weight word (p ∷ ps) =
    let f = λ (w : List ℕ). 4097 ^ (21 - length w) in
    let x = 4097 ^ (21 - (length word + 1)) in
    let one : f (word ++ p ∷ []) ≡ x = ap (λ n. 4097 ^ (21 - n)) (length-append word (p ∷ [])) in
    let a = sum_by-append f ((word ++ p ∷ []) ∷ []) (children word ps) in
    let rest = children_weight word ps in
    let m = suc-mul (length ps) x in
    a ∙ (let b : (0 + f (word ++ p ∷ [])) + sum_by f (children word ps) ≡ suc (length ps) * x = omega (arith, one, rest, m) in b)

module _ {S : Type 0} (sys : System S) (choices steps d : ℕ) where
  abbrev due : List ℕ → Bool
  due w = is_due sys choices steps d w

  settled_on : (words : List (List ℕ)) (at : ℕ) → Settled sys choices steps d words at → due (word_at words at) ≡ false → Settled sys choices steps d words (at + 1)
  settled_on words at h off k lt = by (cases_eq k at)
    where
      by : (k ≡ at) ⊎ (k ≡ at → ⊥) → due (word_at words k) ≡ false
      by (inl e) = ap (λ n. due (word_at words n)) e ∙ off
      by (inr ne) = h k (omega (arith, lt, ne))

  pub passed : (words : List (List ℕ)) (at : ℕ) → at < length words → Settled sys choices steps d words at → due (word_at words at) ≡ false → Advanced sys choices steps d words at words (Some (at + 1))
  passed words at lt h off =
      let some = power_some (21 - length (word_at words at)) in
      let here = weight_here words at lt in
      (omega (arith, lt), settled_on words at h off, omega (arith, some, here), (0, refl))

  found : (words : List (List ℕ)) (at : ℕ) → at < length words → Settled sys choices steps d words at → due (word_at words at) ≡ true → position due words ≡ Some at
  found words at lt h on =
      let e : position_or_len due words ≡ at = position_or_len_is due words at [] (omega (arith, lt)) h (λ l. on) in
      ap (λ n. cond (nat_lt n (length words)) (Some n) None) e ∙ ap (λ b. cond b (Some at) None) (lt-ltb at (length words) lt)

  -- where all are settled nothing is left to split
  pub all_settled : (words : List (List ℕ)) (at : ℕ) → at ≤ length words → length words ≤ at → Settled sys choices steps d words at → deeper sys choices steps d words ≡ None
  all_settled words at le ge h =
      let e : position_or_len due words ≡ at = position_or_len_is due words at [] le h (λ l. absurd (omega (arith, l, ge))) in
      ap (deeper_at sys choices steps words) (ap (λ n. cond (nat_lt n (length words)) (Some n) None) e ∙ ap (λ b. cond b (Some at) None) (le-ltb at (length words) ge))

  due_as : (words : List (List ℕ)) (at : ℕ) (o : Option (List ℕ)) → length (word_at words at) < d → wanted_in (run sys choices steps (word_at words at)) ≡ o → due (word_at words at) ≡ is_wanting o
  due_as words at o lt e = ap (λ b. b && is_wanting (wanted_in (run sys choices steps (word_at words at)))) (lt-ltb (length (word_at words at)) d lt) ∙ ap is_wanting e

  pub not_short : (words : List (List ℕ)) (at : ℕ) → d ≤ length (word_at words at) → due (word_at words at) ≡ false
  not_short words at ge = ap (λ b. b && is_wanting (wanted_in (run sys choices steps (word_at words at)))) (le-ltb (length (word_at words at)) d ge)

  fits_none : (new : List (List ℕ)) (b : Bool) → (if b then Err Full else Ok new) ≡ Err Leaf → ⊥
  fits_none new true e = absurd (cc)
  fits_none new false e = absurd (cc)

  fits_as : (new other : List (List ℕ)) (b : Bool) → (if b then Err Full else Ok new) ≡ Ok other → (b ≡ false) × (new ≡ other)
  fits_as new other true e = absurd (cc)
  fits_as new other false e = let same : new ≡ other = cc in (refl, same)

  -- a leaf is not to be split
  pub leaf_settled : (words : List (List ℕ)) (at : ℕ) → length (word_at words at) < d → split_of sys choices steps words at ≡ Err Leaf → due (word_at words at) ≡ false
  leaf_settled words at lt e = by (wanted_in (run sys choices steps (word_at words at))) refl e
    where
      by : (o : Option (List ℕ)) → wanted_in (run sys choices steps (word_at words at)) ≡ o → split_by words at o ≡ Err Leaf → due (word_at words at) ≡ false
      by None w g = due_as words at None lt w
      by (Some ready) w g = absurd (fits_none (take at words ++ (children (word_at words at) ready ++ drop (at + 1) words)) (nat_lt 4096 (length (take at words ++ (children (word_at words at) ready ++ drop (at + 1) words)))) g)

  -- a split that doesn't fit ends it
  pub full_ends : (words : List (List ℕ)) (at : ℕ) → at < length words → length (word_at words at) < d → Settled sys choices steps d words at → split_of sys choices steps words at ≡ Err Full → deeper sys choices steps d words ≡ None
  full_ends words at within lt h e = by (wanted_in (run sys choices steps (word_at words at))) refl e
    where
      by : (o : Option (List ℕ)) → wanted_in (run sys choices steps (word_at words at)) ≡ o → split_by words at o ≡ Err Full → deeper sys choices steps d words ≡ None
      by None w g = absurd (cc)
      by (Some ready) w g = ap (deeper_at sys choices steps words) (found words at within h (due_as words at (Some ready) lt w)) ∙ ap made e

  shape_of : List (List ℕ) → ℕ → List ℕ → List (List ℕ)
  shape_of words at ready = take at words ++ (children (word_at words at) ready ++ drop (at + 1) words)

  -- a split goes on at its place
  pub split_goes_on : (words new : List (List ℕ)) (at : ℕ) → choices ≤ 20 → at < length words → length (word_at words at) < d → Settled sys choices steps d words at → split_of sys choices steps words at ≡ Ok new → Advanced sys choices steps d words at new (Some at)
  split_goes_on words new at few within lt h e = by (wanted_in (run sys choices steps (word_at words at))) refl e
    where
      by : (o : Option (List ℕ)) → wanted_in (run sys choices steps (word_at words at)) ≡ o → split_by words at o ≡ Ok new → Advanced sys choices steps d words at new (Some at)
      by None w g = absurd (cc)
      by (Some ready) w g =
          let word = word_at words at in
          let tail = children word ready ++ drop (at + 1) words in
          let shape = take at words ++ tail in
          let fit = fits_as shape new (nat_lt 4096 (length shape)) g in
          let is : new ≡ shape = sym fit.1 in
          let most = ltb-false 4096 (length shape) fit.0 in
          let a = length-append (take at words) tail in
          let b = length-append (children word ready) (drop (at + 1) words) in
          let c = length-map ready (λ p. word ++ p ∷ []) in
          let t = length-take-le at words (omega (arith, within)) in
          let long = ap length is in
          let short = wants_short sys steps choices word ready (opened sys steps) (wants_is (run sys choices steps word) ready w) in
          let f = λ (v : List ℕ). 4097 ^ (21 - length v) in
          let x = 4097 ^ (21 - (length word + 1)) in
          let some = power_some (21 - (length word + 1)) in
          let n : 21 - length word ≡ suc (21 - (length word + 1)) = omega (arith, short, few) in
          let base : 4097 ^ (21 - length word) ≡ x * 4097 = ap (λ k. 4097 ^ k) n ∙ pow-suc 4097 (21 - (length word + 1)) in
          let here = weight_here words at within in
          let after : weight new at ≡ length ready * x + weight words (at + 1) = ap (λ ws. weight ws at) is ∙ ap (sum_by f) (drop_taken words tail at (omega (arith, within))) ∙ sum_by-append f (children word ready) (drop (at + 1) words) ∙ ap (λ m. m + weight words (at + 1)) (children_weight word ready) in
          let less : length ready * x ≤ 4096 * x = mul-le-mul_right x (omega (arith, most, a, b, c, t)) in
          let same : (k : ℕ) → k < at → word_at new k ≡ word_at words k = λ k l. ap (λ ws. word_at ws k) is ∙ get_or_append_left (take at words) tail [] k (omega (arith, l, t)) ∙ get_or-take at words k [] l in
          (omega (arith, long, a, t), (λ k l. ap due (same k l) ∙ h k l), omega (arith, here, after, base, less, some), (1, ap (deeper_at sys choices steps words) (found words at within h (due_as words at (Some ready) lt w)) ∙ ap made e))

  deepened_on : (n m : ℕ) (old words : List (List ℕ)) → deepened sys choices steps d m old ≡ Some words → deepened sys choices steps d (n + m) old ≡ deepened sys choices steps d n words
  deepened_on zero m old words e = let z : 0 + m ≡ m = omega arith in ap (λ k. deepened sys choices steps d k old) z ∙ e
  deepened_on (suc n) m old words e = let z : suc n + m ≡ suc (n + m) = omega arith in ap (λ k. deepened sys choices steps d k old) z ∙ ap (deeper_from sys choices steps d) (deepened_on n m old words e)

  pub deepened_more : (old words new : List (List ℕ)) → ((m : ℕ) × (deepened sys choices steps d m old ≡ Some words)) → ((n : ℕ) × (deepened sys choices steps d n words ≡ Some new)) → (k : ℕ) × (deepened sys choices steps d k old ≡ Some new)
  deepened_more old words new a b = (b.0 + a.0, deepened_on b.0 a.0 old words a.1 ∙ b.1)
