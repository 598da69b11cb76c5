-- What a passing says of what was seen, and of what is seen next.
use Rattle.std.proofs.Common.{◌≡◌, ◌∙◌, ◌⊎◌, inl, inr, ⊎_elim, ◌<◌, ℕ, Bool, true, false, List, [], ◌∷◌, ◌++◌, refl, sym, subst}
use Rattle.std.specs.Prelude.{⊤, ◌↔◌, ◌&&◌, ◌||◌, not, nat_eq}
use Rattle.cp_waits.proofs.Words.{Each, eqb-true, eq-eqb, System, Moment, AnyOf, has, PassingSets, Set}
use Rattle.cp_waits.specs.Passings.{AreThose, Seen}
use Rattle.cp_endless_laws.proofs.Basics.{any_split as any_apart, each_append as each_both}

differ : false ≡ true → ⊥
differ e = cc

-- ---- lists that end with others

each_apart : {A : Type 0} (P : A → Type 0) (xs ys : List A) → Each P (xs ++ ys) → Each P xs × Each P ys
each_apart P [] ys e = (tt, e)
each_apart P (x ∷ xs) ys e = let h = each_apart P xs ys e.1 in ((e.0, h.0), h.1)

any_both : {A : Type 0} (P : A → Type 0) (xs ys : List A) → AnyOf P xs ⊎ AnyOf P ys → AnyOf P (xs ++ ys)
any_both P [] ys (inl a) = absurd a
any_both P [] ys (inr a) = a
any_both P (x ∷ xs) ys (inl (inl p)) = inl p
any_both P (x ∷ xs) ys (inl (inr a)) = inr (any_both P xs ys (inl a))
any_both P (x ∷ xs) ys (inr a) = inr (any_both P xs ys (inr a))

-- ---- tests

both_tests : (X Y Z : Type 0) (a b c : Bool) → a ≡ (b && c) → (b ≡ true) ↔ X → (c ≡ true) ↔ Y → (X → Y → Z) → (Z → X × Y) → (a ≡ true) ↔ Z
both_tests X Y Z a true c e x y to from = (λ t. to (x.0 refl) (y.0 (sym e ∙ t)), λ z. e ∙ y.1 (from z).1)
both_tests X Y Z a false c e x y to from = (λ t. absurd (differ (sym e ∙ t)), λ z. absurd (differ (x.1 (from z).0)))

either_test : (X Y Z : Type 0) (a b c : Bool) → a ≡ (b || c) → (b ≡ true) ↔ X → (c ≡ true) ↔ Y → (X ⊎ Y → Z) → (Z → X ⊎ Y) → (a ≡ true) ↔ Z
either_test X Y Z a true c e x y to from = (λ t. to (inl (x.0 refl)), λ z. e)
either_test X Y Z a false c e x y to from = (λ t. to (inr (y.0 (sym e ∙ t))), λ z. ⊎_elim (λ (h : X). absurd (differ (x.1 h))) (λ (h : Y). e ∙ y.1 h) (from z))

-- all of them, with more
all_more : {A : Type 0} (P : A → Type 0) (D : Type 0) (xs ys : List A) (a b c : Bool) → a ≡ (b && c) → (b ≡ true) ↔ (D × Each P xs) → (c ≡ true) ↔ Each P ys → (a ≡ true) ↔ (D × Each P (xs ++ ys))
all_more P D xs ys a b c e x y =
    both_tests (D × Each P xs) (Each P ys) (D × Each P (xs ++ ys)) a b c e x y
    (λ h k. (h.0, each_both P xs ys h.1 k))
    (λ z. let h = each_apart P xs ys z.1 in ((z.0, h.0), h.1))

-- one of them, with more
any_more : {A : Type 0} (P : A → Type 0) (xs ys : List A) (a b c : Bool) → a ≡ (b || c) → (b ≡ true) ↔ AnyOf P xs → (c ≡ true) ↔ AnyOf P ys → (a ≡ true) ↔ AnyOf P (xs ++ ys)
any_more P xs ys a b c e x y = either_test (AnyOf P xs) (AnyOf P ys) (AnyOf P (xs ++ ys)) a b c e x y (any_both P xs ys) (any_apart P xs ys)

some_more : {A : Type 0} (P : A → Type 0) (D : Type 0) (xs ys : List A) (a b c : Bool) → a ≡ (b || c) → (b ≡ true) ↔ (D ⊎ AnyOf P xs) → (c ≡ true) ↔ AnyOf P ys → (a ≡ true) ↔ (D ⊎ AnyOf P (xs ++ ys))
some_more P D xs ys a b c e x y =
    either_test (D ⊎ AnyOf P xs) (AnyOf P ys) (D ⊎ AnyOf P (xs ++ ys)) a b c e x y
    there
    back
  where
    there : (D ⊎ AnyOf P xs) ⊎ AnyOf P ys → D ⊎ AnyOf P (xs ++ ys)
    there (inl (inl d)) = inl d
    there (inl (inr h)) = inr (any_both P xs ys (inl h))
    there (inr h) = inr (any_both P xs ys (inr h))

    back : D ⊎ AnyOf P (xs ++ ys) → (D ⊎ AnyOf P xs) ⊎ AnyOf P ys
    back (inl d) = inl (inl d)
    back (inr h) = ⊎_elim (λ (l : AnyOf P xs). inl (inr l)) (λ (r : AnyOf P ys). inr r) (any_apart P xs ys h)

-- one that is seen alone
one_any : (T : Type 0) (a : Bool) → (a ≡ true) ↔ T → (a ≡ true) ↔ (T ⊎ ⊥)
one_any T a x = (λ t. inl (x.0 t), λ h. ⊎_elim (λ (k : T). x.1 k) (λ (k : ⊥). absurd k) h)

same_number : (q p : ℕ) → (nat_eq q p ≡ true) ↔ (p ≡ q)
same_number q p = (λ h. sym (eqb-true q p h), λ e. eq-eqb q p (sym e))

is_served : (ready : Bool) (q p : ℕ) → ((not ready || nat_eq q p) ≡ true) ↔ ((p ≡ q) ⊎ (ready ≡ false))
is_served false q p = (λ h. inr refl, λ h. refl)
is_served true q p = (λ h. inl (sym (eqb-true q p h)), back)
  where
    back : (p ≡ q) ⊎ (true ≡ false) → (false || nat_eq q p) ≡ true
    back (inl e) = eq-eqb q p (sym e)
    back (inr e) = absurd (differ (sym e))

-- ---- passings

module _ {S : Type 0} (sys : System S) (inside waiting : S → ℕ → Bool) where
  -- nothing was seen
  pub seen_nothing : (p : PassingSets) → AreThose sys.processes p.wait (λ q. ⊤) → AreThose sys.processes p.wait_once (λ q. ⊥) → AreThose sys.processes p.stay (λ q. ⊤) → AreThose sys.processes p.step (λ q. ⊥) → AreThose sys.processes p.served (λ q. ⊥) → Seen sys inside waiting [] [] p
  seen_nothing p wait wait_once stay step served =
      record {
        wait = λ q lt. let h = wait q lt in (λ t. (tt, tt), λ z. h.1 tt);
        wait_once = λ q lt. let h = wait_once q lt in (λ t. inl (h.0 t), λ z. ⊎_elim (λ (k : ⊥). absurd k) (λ (k : ⊥). absurd k) z);
        stay = λ q lt. let h = stay q lt in (λ t. (tt, tt), λ z. h.1 tt);
        step = step;
        served = served;
      }

  -- a due choice is seen, by what is seen of its state
  pub seen_due : (s : S) (p : PassingSets) → ((q : ℕ) → q < sys.processes → has p.wait q ≡ waiting s q) → ((q : ℕ) → q < sys.processes → has p.wait_once q ≡ waiting s q) → ((q : ℕ) → q < sys.processes → has p.stay q ≡ inside s q) → ((q : ℕ) → q < sys.processes → has p.step q ≡ false) → ((q : ℕ) → q < sys.processes → has p.served q ≡ false) →
      Seen sys inside waiting (s ∷ []) [] p
  seen_due s p wait wait_once stay step served =
      record {
        wait = λ q lt. (λ t. ((sym (wait q lt) ∙ t, tt), tt), λ z. wait q lt ∙ z.0.0);
        wait_once = λ q lt. (λ t. inl (inl (sym (wait_once q lt) ∙ t)), λ z. wait_once q lt ∙ back q z);
        stay = λ q lt. (λ t. ((sym (stay q lt) ∙ t, tt), tt), λ z. stay q lt ∙ z.0.0);
        step = λ q lt. (λ t. differ (sym (step q lt) ∙ t), λ z. absurd z);
        served = λ q lt. (λ t. differ (sym (served q lt) ∙ t), λ z. absurd z);
      }
    where
      back : (q : ℕ) → ((waiting s q ≡ true) ⊎ ⊥) ⊎ ⊥ → waiting s q ≡ true
      back q (inl (inl k)) = k
      back q (inl (inr k)) = absurd k
      back q (inr k) = absurd k

  -- one moment is seen
  pub seen_moment : (m : Moment S) (p : PassingSets) → ((q : ℕ) → q < sys.processes → has p.wait q ≡ waiting m.state q) → ((q : ℕ) → q < sys.processes → has p.wait_once q ≡ waiting m.state q) → ((q : ℕ) → q < sys.processes → has p.stay q ≡ inside m.state q) → ((q : ℕ) → q < sys.processes → has p.step q ≡ nat_eq q m.mover) → ((q : ℕ) → q < sys.processes → has p.served q ≡ (not (sys.is_ready m.state q) || nat_eq q m.mover)) →
      Seen sys inside waiting [] (m ∷ []) p
  seen_moment m p wait wait_once stay step served =
      record {
        wait = λ q lt. (λ t. (tt, (sym (wait q lt) ∙ t, tt)), λ z. wait q lt ∙ z.1.0);
        wait_once = λ q lt. (λ t. inr (inl (sym (wait_once q lt) ∙ t)), λ z. wait_once q lt ∙ back q z);
        stay = λ q lt. (λ t. (tt, (sym (stay q lt) ∙ t, tt)), λ z. stay q lt ∙ z.1.0);
        step = λ q lt. subst (λ b. (b ≡ true) ↔ ((m.mover ≡ q) ⊎ ⊥)) (sym (step q lt)) (one_any (m.mover ≡ q) (nat_eq q m.mover) (same_number q m.mover));
        served = λ q lt. subst (λ b. (b ≡ true) ↔ (((m.mover ≡ q) ⊎ (sys.is_ready m.state q ≡ false)) ⊎ ⊥)) (sym (served q lt)) (one_any ((m.mover ≡ q) ⊎ (sys.is_ready m.state q ≡ false)) (not (sys.is_ready m.state q) || nat_eq q m.mover) (is_served (sys.is_ready m.state q) q m.mover));
      }
    where
      back : (q : ℕ) → ⊥ ⊎ ((waiting m.state q ≡ true) ⊎ ⊥) → waiting m.state q ≡ true
      back q (inl k) = absurd k
      back q (inr (inl k)) = k
      back q (inr (inr k)) = absurd k

  -- those of another passing come after these
  pub seen_then : (due : List S) (ms ns : List (Moment S)) (p more new : PassingSets) → Seen sys inside waiting due ms p → Seen sys inside waiting [] ns more → ((q : ℕ) → has new.wait q ≡ (has p.wait q && has more.wait q)) → ((q : ℕ) → has new.wait_once q ≡ (has p.wait_once q || has more.wait_once q)) → ((q : ℕ) → has new.stay q ≡ (has p.stay q && has more.stay q)) → ((q : ℕ) → has new.step q ≡ (has p.step q || has more.step q)) → ((q : ℕ) → has new.served q ≡ (has p.served q || has more.served q)) →
      Seen sys inside waiting due (ms ++ ns) new
  seen_then due ms ns p more new h k wait wait_once stay step served =
      record {
        wait = λ q lt. all_more (λ (x : Moment S). waiting x.state q ≡ true) (Each (λ t. waiting t q ≡ true) due) ms ns (has new.wait q) (has p.wait q) (has more.wait q) (wait q) (h.wait q lt) (let y = k.wait q lt in (λ t. (y.0 t).1, λ z. y.1 (tt, z)));
        wait_once = λ q lt. some_more (λ (x : Moment S). waiting x.state q ≡ true) (AnyOf (λ t. waiting t q ≡ true) due) ms ns (has new.wait_once q) (has p.wait_once q) (has more.wait_once q) (wait_once q) (h.wait_once q lt) (let y = k.wait_once q lt in (λ t. plain (AnyOf (λ (x : Moment S). waiting x.state q ≡ true) ns) (y.0 t), λ z. y.1 (inr z)));
        stay = λ q lt. all_more (λ (x : Moment S). inside x.state q ≡ true) (Each (λ t. inside t q ≡ true) due) ms ns (has new.stay q) (has p.stay q) (has more.stay q) (stay q) (h.stay q lt) (let y = k.stay q lt in (λ t. (y.0 t).1, λ z. y.1 (tt, z)));
        step = λ q lt. any_more (λ (x : Moment S). x.mover ≡ q) ms ns (has new.step q) (has p.step q) (has more.step q) (step q) (h.step q lt) (k.step q lt);
        served = λ q lt. any_more (λ (x : Moment S). (x.mover ≡ q) ⊎ (sys.is_ready x.state q ≡ false)) ms ns (has new.served q) (has p.served q) (has more.served q) (served q) (h.served q lt) (k.served q lt);
      }
    where
      plain : (A : Type 0) → ⊥ ⊎ A → A
      plain A (inl k) = absurd k
      plain A (inr a) = a

pub are_all : (n : ℕ) (s : Set) → ((q : ℕ) → q < n → has s q ≡ true) → AreThose n s (λ q. ⊤)
are_all n s h = λ q lt. (λ t. tt, λ z. h q lt)

pub are_none : (n : ℕ) (s : Set) → ((q : ℕ) → q < n → has s q ≡ false) → AreThose n s (λ q. ⊥)
are_none n s h = λ q lt. (λ t. differ (sym (h q lt) ∙ t), λ z. absurd z)
