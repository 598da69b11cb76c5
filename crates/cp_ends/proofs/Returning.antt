-- Whether a stretch that was cut comes back to where it is, by what is seen of it in so many steps.
use Rattle.std.proofs.Common.{◌≡◌, ◌∙◌, ◌+◌, ◌<◌, ℕ, zero, suc, Bool, true, false, Option, None, Some, refl, sym, ap, arith}
use Rattle.cp_ends.proofs.Vocabulary.{◌==◌, ◌&&◌, Turn, Goes, System, turn_after, spot_after, spot_by, distance}
use Rattle.cp_ends.specs.Arrivals.{first_return, return_at, return_within}

-- a stretch that stands nowhere stands nowhere later
gone_on : {S : Type 0} (sys : System S) (n m : ℕ) (s : S) (p : ℕ) → spot_after sys n s p ≡ None → spot_after sys (n + m) s p ≡ None
gone_on sys zero m s p e = absurd (some_none (s, p) e)
  where
    some_none : {A : Type 0} (x : A) → Some x ≡ None → ⊥
    some_none x e = cc
gone_on sys (suc n) m s p e = ap (λ i. spot_after sys i s p) (plus n) ∙ by (turn_after sys (sys.step s p) p (sys.event s p)) e (λ r d. gone_on sys n m (sys.step s p) r d)
  where
    plus : (n : ℕ) → suc n + m ≡ suc (n + m)
    plus n = omega arith

    by : (turn : Turn) → spot_by (sys.step s p) (spot_after sys n (sys.step s p)) turn ≡ None → ((r : ℕ) → spot_after sys n (sys.step s p) r ≡ None → spot_after sys (n + m) (sys.step s p) r ≡ None) → spot_by (sys.step s p) (spot_after sys (n + m) (sys.step s p)) turn ≡ None
    by (Goes r) e on = on r e
    by _ e on = refl

-- ---- whether it was in its state again

module _ {S : Type 0} (sys : System S) (eq : S → S → Bool) (s : S) (p : ℕ) where
  one_return : (n : ℕ) → return_within sys eq s p (suc n) ≡ first_return (return_within sys eq s p n) (return_at eq s p (spot_after sys (suc n) s p)) n
  unfolding return_within
  one_return n = refl

  pub none_yet : return_within sys eq s p 0 ≡ None
  unfolding return_within
  none_yet = refl

  after_none : (n : ℕ) (o : Option (S × ℕ)) → return_within sys eq s p n ≡ None → spot_after sys (n + 1) s p ≡ o → return_within sys eq s p (n + 1) ≡ first_return None (return_at eq s p o) n
  after_none n o none spot =
      ap (return_within sys eq s p) (plus n)
      ∙ one_return n
      ∙ ap (λ r. first_return r (return_at eq s p (spot_after sys (suc n) s p)) n) none
      ∙ ap (λ i. first_return None (return_at eq s p (spot_after sys i s p)) n) (sym (plus n))
      ∙ ap (λ x. first_return None (return_at eq s p x) n) spot
    where
      plus : (n : ℕ) → n + 1 ≡ suc n
      plus n = omega arith

  pub not_back : (n : ℕ) (t : S) (q : ℕ) → return_within sys eq s p n ≡ None → spot_after sys (n + 1) s p ≡ Some (t, q) → ((q == p) && eq t s) ≡ false → return_within sys eq s p (n + 1) ≡ None
  not_back n t q none spot apart = after_none n (Some (t, q)) none spot ∙ ap (λ b. first_return None b n) apart

  -- it stays so, with more steps
  found_on : (n m k : ℕ) → return_within sys eq s p n ≡ Some k → return_within sys eq s p (n + m) ≡ Some k
  found_on n zero k e = ap (return_within sys eq s p) (plus n) ∙ e
    where
      plus : (n : ℕ) → n + zero ≡ n
      plus n = omega arith
  found_on n (suc m) k e = ap (return_within sys eq s p) (plus n) ∙ one_return (n + m) ∙ ap (λ r. first_return r (return_at eq s p (spot_after sys (suc (n + m)) s p)) (n + m)) (found_on n m k e)
    where
      plus : (n : ℕ) → n + suc m ≡ suc (n + m)
      plus n = omega arith

  never_on : (n m : ℕ) → return_within sys eq s p n ≡ None → spot_after sys (n + 1) s p ≡ None → return_within sys eq s p (n + m) ≡ None
  never_on n zero none gone = ap (return_within sys eq s p) (plus n) ∙ none
    where
      plus : (n : ℕ) → n + zero ≡ n
      plus n = omega arith
  never_on n (suc m) none gone =
      ap (return_within sys eq s p) (plus n)
      ∙ one_return (n + m)
      ∙ ap (λ r. first_return r (return_at eq s p (spot_after sys (suc (n + m)) s p)) (n + m)) (never_on n m none gone)
      ∙ ap (λ o. first_return None (return_at eq s p o) (n + m)) (ap (λ i. spot_after sys i s p) (further n) ∙ gone_on sys (n + 1) m s p gone)
    where
      plus : (n : ℕ) → n + suc m ≡ suc (n + m)
      plus n = omega arith

      further : (n : ℕ) → suc (n + m) ≡ (n + 1) + m
      further n = omega arith

  pub is_back : (n steps : ℕ) (t : S) (q : ℕ) → n < steps → return_within sys eq s p n ≡ None → spot_after sys (n + 1) s p ≡ Some (t, q) → ((q == p) && eq t s) ≡ true → return_within sys eq s p steps ≡ Some n
  is_back n steps t q lt none spot back =
      let d = distance (n + 1) steps (omega (arith, lt)) in
      ap (return_within sys eq s p) (sym d.1) ∙ found_on (n + 1) d.0 n (after_none n (Some (t, q)) none spot ∙ ap (λ b. first_return None b n) back)

  pub never_back : (n steps : ℕ) → n < steps → return_within sys eq s p n ≡ None → spot_after sys (n + 1) s p ≡ None → return_within sys eq s p steps ≡ None
  never_back n steps lt none gone =
      let d = distance n steps (omega (arith, lt)) in
      ap (return_within sys eq s p) (sym d.1) ∙ never_on n d.0 none gone
