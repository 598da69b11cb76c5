-- Where the states are in a list and can be told apart, a process that may wait for ever has a lasso.
-- A fair schedule is cut into stages in each of which every process is served. Of more stages than there are states two begin in the same state, and what lies between them is the loop.
use Rattle.std.proofs.Common.{◌≡◌, ◌≢◌, ◌⊎◌, inl, inr, ⊎_elim, ◌+◌, ◌<◌, ◌≤◌, ℕ, zero, suc, Bool, true, false, if◌then◌else◌, List, [], ◌∷◌, length, None, Some, refl, sym, ap, subst, ◌∙◌, arith, get_or}
use Rattle.cp_endless_laws.proofs.Words.{Contains, Each, cases_order, System, Choosing, may, Node, chosen, IsServed, AnyOf, Moment, moments, moments_along}
use Rattle.cp_endless_laws.proofs.Words.{states_along, node_after, IsClosed, IsIn, MayWaitForEver, WaitsSometime}
use Rattle.cp_endless_laws.specs.Lasso.{HasLasso, LassoFoundLaw, LingerFoundLaw, WaitsAlong}
use Rattle.cp_endless_laws.proofs.Basics.{each_append, any_left, any_right, distance_less_one}

-- ---- more places than things (as in Anywhere of cp_merged)

abbrev Has : {A : Type 0} → A → List A → Type 0
Has x xs = AnyOf (λ y. y ≡ x) xs

has_from_contains : {A : Type 0} (xs : List A) (x : A) → Contains xs x → Has x xs
has_from_contains [] x h = absurd (omega (arith, h.1))
has_from_contains (y ∷ ys) x h = by (has_from_contains ys x) h.0 h.1 h.2
  where
    by : (Contains ys x → Has x ys) → (k : ℕ) → k < length (y ∷ ys) → get_or (y ∷ ys) k x ≡ x → Has x (y ∷ ys)
    by on zero l e = inl e
    by on (suc k) l e = inr (on (k, omega (arith, l), e))

without : {A : Type 0} (x : A) (xs : List A) → Has x xs → List A
without x [] h = []
without x (y ∷ ys) (inl e) = ys
without x (y ∷ ys) (inr i) = y ∷ without x ys i

without_length : {A : Type 0} (x : A) (xs : List A) (h : Has x xs) → length xs ≡ suc (length (without x xs h))
unfolding without
without_length x [] h = absurd h
without_length x (y ∷ ys) (inl e) = refl
without_length x (y ∷ ys) (inr i) = ap suc (without_length x ys i)

without_has : {A : Type 0} (x z : A) (xs : List A) (h : Has x xs) → (x ≡ z → ⊥) → Has z xs → Has z (without x xs h)
unfolding without
without_has x z [] h n i = absurd h
without_has x z (y ∷ ys) (inl e) n (inl f) = absurd (n (sym e ∙ f))
without_has x z (y ∷ ys) (inl e) n (inr j) = j
without_has x z (y ∷ ys) (inr i) n (inl f) = inl f
without_has x z (y ∷ ys) (inr i) n (inr j) = inr (without_has x z ys i n j)

abbrev Differ : {A : Type 0} → List A → Type 0
Differ [] = Unit {0}
Differ (x ∷ xs) = Each (λ y. x ≢ y) xs × Differ xs

pigeons : {A : Type 0} (xs ys : List A) → Differ xs → Each (λ x. Has x ys) xs → length xs ≤ length ys
pigeons [] ys d h = omega arith
pigeons {A} (x ∷ xs) ys d h =
    let rest = pigeons xs (without x ys h.0) d.1 (others xs d.0 h.1) in
    let l = without_length x ys h.0 in
    omega (arith, rest, l)
  where
    others : (zs : List A) → Each (λ y. x ≢ y) zs → Each (λ z. Has z ys) zs → Each (λ z. Has z (without x ys h.0)) zs
    others [] e f = tt
    others (z ∷ zs) e f = (without_has x z ys h.0 e.0 f.0, others zs e.1 f.1)

module _ {A : Type 0} (f : ℕ → A) (same_or_not : (i j : ℕ) → (f i ≡ f j) ⊎ (f i ≡ f j → ⊥)) where
  abbrev Twice : ℕ → Type 0
  Twice n = (i : ℕ) × (j : ℕ) × (i < j) × (j < n) × (f i ≡ f j)

  abbrev collected : ℕ → List A
  collected zero = []
  collected (suc n) = f n ∷ collected n

  collected_length : (n : ℕ) → length (collected n) ≡ n
  collected_length zero = refl
  collected_length (suc n) = ap suc (collected_length n)

  looked_for : (m n : ℕ) → ((i : ℕ) × (i < n) × (f i ≡ f m)) ⊎ Each (λ y. f m ≢ y) (collected n)
  looked_for m zero = inr tt
  looked_for m (suc n) =
      ⊎_elim
      (λ (e : f n ≡ f m). inl (n, omega arith, e))
      (λ (ne : f n ≡ f m → ⊥).
      ⊎_elim
      (λ (h : (i : ℕ) × (i < n) × (f i ≡ f m)). (let l = h.1 in inl (h.0, omega (arith, l), h.2)))
      (λ (e : Each (λ y. f m ≢ y) (collected n)). inr ((λ d. ne (sym d)), e))
      (looked_for m n))
      (same_or_not n m)

  twice_or_not : (n : ℕ) → Twice n ⊎ Differ (collected n)
  twice_or_not zero = inr tt
  twice_or_not (suc n) =
      ⊎_elim
      (λ (h : Twice n). (let l = h.3 in inl (h.0, h.1, h.2, omega (arith, l), h.4)))
      (λ (d : Differ (collected n)).
      ⊎_elim
      (λ (h : (i : ℕ) × (i < n) × (f i ≡ f n)). inl (h.0, n, h.1, omega arith, h.2))
      (λ (e : Each (λ y. f n ≢ y) (collected n)). inr (e, d))
      (looked_for n n))
      (twice_or_not n)

  all_there : (xs : List A) → ((i : ℕ) → Has (f i) xs) → (n : ℕ) → Each (λ x. Has x xs) (collected n)
  all_there xs h zero = tt
  all_there xs h (suc n) = (h n, all_there xs h n)

  -- of more than there are, two are the same
  twice : (xs : List A) → ((i : ℕ) → Has (f i) xs) → Twice (suc (length xs))
  twice xs h =
      ⊎_elim
      (λ (t : Twice (suc (length xs))). t)
      (λ (d : Differ (collected (suc (length xs)))).
      (let few = pigeons (collected (suc (length xs))) xs d (all_there xs h (suc (length xs))) in
      let many = collected_length (suc (length xs)) in
      absurd (omega (arith, few, many))))
      (twice_or_not (suc (length xs)))

-- ---- lists

-- ---- a schedule without end

module _ {S : Type 0} (sys : System S) (waiting : S → ℕ → Bool) (q steps : ℕ) (x : MayWaitForEver sys waiting q steps) where
  abbrev w : ℕ → ℕ
  w = x.word

  abbrev state : ℕ → S
  state = x.state

  -- so many of its numbers, from a place on
  abbrev segment : ℕ → ℕ → List ℕ
  segment n zero = []
  segment n (suc d) = w n ∷ segment (suc n) d

  after_on : (d n : ℕ) → node_after sys steps (Choosing (state n)) (segment n d) ≡ Some (Choosing (state (n + d)))
  after_on zero n = ap (λ i. Some (Choosing (state i))) (none n)
    where
      none : (n : ℕ) → n ≡ n + 0
      none n = omega arith
  after_on (suc d) n = by (may sys (state n) (w n)) (x.endless.may_be n) (ap (λ y. node_after sys steps y (segment (suc n) d)) (x.endless.goes n) ∙ after_on d (suc n) ∙ ap (λ i. Some (Choosing (state i))) (one_more n))
    where
      one_more : (n : ℕ) → suc n + d ≡ n + suc d
      one_more n = omega arith

      by : (c : Bool) → c ≡ true → node_after sys steps (chosen sys steps (state n) (w n)) (segment (suc n) d) ≡ Some (Choosing (state (n + suc d))) → (if c then node_after sys steps (chosen sys steps (state n) (w n)) (segment (suc n) d) else None) ≡ Some (Choosing (state (n + suc d)))
      by true e h = h
      by false e h = absurd (cc)

  -- what happens at one of its choices happens along it
  happens_on : (P : Moment S → Type 0) (d n k : ℕ) → n ≤ k → k < n + d → AnyOf P (moments sys steps (state k) (w k)) → AnyOf P (moments_along sys steps (Choosing (state n)) (segment n d))
  happens_on P zero n k le less a = absurd (omega (arith, le, less))
  happens_on P (suc d) n k le less a =
      ⊎_elim
      (λ (same : n ≡ k). any_left P (moments sys steps (state n) (w n)) (moments_along sys steps (chosen sys steps (state n) (w n)) (segment (suc n) d)) (subst (λ i. AnyOf P (moments sys steps (state i) (w i))) (sym same) a))
      (λ (apart : (n < k) ⊎ (k < n)).
      ⊎_elim
      (λ (later : n < k). any_right P (moments sys steps (state n) (w n)) (moments_along sys steps (chosen sys steps (state n) (w n)) (segment (suc n) d))
      (subst (λ y. AnyOf P (moments_along sys steps y (segment (suc n) d))) (sym (x.endless.goes n)) (happens_on P d (suc n) k (omega (arith, later)) (omega (arith, less)) a)))
      (λ (before : k < n). absurd (omega (arith, before, le)))
      apart)
      (cases_order n k)

  waits_on : (d n : ℕ) → x.since ≤ n → Each (λ t. waiting t q ≡ true) (states_along sys steps (Choosing (state n)) (segment n d))
  waits_on zero n le = tt
  waits_on (suc d) n le = ((x.waits n le).0, subst (λ y. Each (λ t. waiting t q ≡ true) (states_along sys steps y (segment (suc n) d))) (sym (x.endless.goes n)) (waits_on d (suc n) (omega (arith, le))))

  waits_between : (d n : ℕ) → x.since ≤ n → Each (λ (m : Moment S). waiting m.state q ≡ true) (moments_along sys steps (Choosing (state n)) (segment n d))
  waits_between zero n le = tt
  waits_between (suc d) n le =
      each_append (λ (m : Moment S). waiting m.state q ≡ true) (moments sys steps (state n) (w n)) (moments_along sys steps (chosen sys steps (state n) (w n)) (segment (suc n) d)) (x.waits n le).1
      (subst (λ y. Each (λ (m : Moment S). waiting m.state q ≡ true) (moments_along sys steps y (segment (suc n) d))) (sym (x.endless.goes n)) (waits_between d (suc n) (omega (arith, le))))

  -- ---- stages

  abbrev Served : ℕ → ℕ → ℕ → Type 0
  Served p n m = (k : ℕ) × (n ≤ k) × (k < m) × IsServed sys p (moments sys steps (state k) (w k))

  -- up to there the processes below a number are served
  served_below : (c n : ℕ) → c ≤ sys.processes → (m : ℕ) × (n < m) × ((p : ℕ) → p < c → Served p n m)
  served_below zero n le = (suc n, omega arith, λ p less. absurd (omega (arith, less)))
  served_below (suc c) n le =
      let h = served_below c n (omega (arith, le)) in
      let f = x.fair c n (omega (arith, le)) in
      let early = h.1 in
      (h.0 + suc f.0, omega (arith, early), λ p less. by h.0 h.2 f.0 f.1 f.2 p less)
    where
      by : (m : ℕ) → ((p : ℕ) → p < c → Served p n m) → (k : ℕ) → n ≤ k → IsServed sys c (moments sys steps (state k) (w k)) → (p : ℕ) → p < suc c → Served p n (m + suc k)
      by m below k late s p less =
          ⊎_elim
          (λ (same : p ≡ c). (k, late, omega arith, subst (λ i. IsServed sys i (moments sys steps (state k) (w k))) (sym same) s))
          (λ (apart : (p < c) ⊎ (c < p)).
          ⊎_elim
          (λ (lower : p < c). (let b = below p lower in let l = b.2 in (b.0, b.1, omega (arith, l), b.3)))
          (λ (higher : c < p). absurd (omega (arith, higher, less)))
          apart)
          (cases_order p c)

  -- ---- stages, in each of which something else happens too

  module _ (E : ℕ → Type 0) (often : (n : ℕ) → (m : ℕ) × (n ≤ m) × E m) where
    next_stage : (n : ℕ) → (m : ℕ) × (n < m) × ((p : ℕ) → p < sys.processes → Served p n m) × ((k : ℕ) × (n ≤ k) × (k < m) × E k)
    next_stage n =
        let h = served_below sys.processes n (omega arith) in
        let o = often n in
        let early = h.1 in
        (h.0 + suc o.0, omega (arith, early), λ p less. (let s = h.2 p less in let l = s.2 in (s.0, s.1, omega (arith, l), s.3)), (o.0, o.1, omega arith, o.2))

    abbrev stage : ℕ → ℕ
    stage zero = x.since
    stage (suc i) = (next_stage (stage i)).0

    rises : (i : ℕ) → stage i < stage (suc i)
    rises i = (next_stage (stage i)).1

    late_enough : (i : ℕ) → x.since ≤ stage i
    late_enough zero = omega arith
    late_enough (suc i) = let h = late_enough i in let r = rises i in omega (arith, h, r)

    reaches_up : (i j : ℕ) → i < j → stage (suc i) ≤ stage j
    reaches_up i zero less = absurd (omega (arith, less))
    reaches_up i (suc j) less =
        ⊎_elim
        (λ (same : i ≡ j). subst (λ k. stage (suc i) ≤ stage (suc k)) same (omega arith))
        (λ (apart : (i < j) ⊎ (j < i)).
        ⊎_elim
        (λ (lower : i < j). (let h = reaches_up i j lower in let r = rises j in omega (arith, h, r)))
        (λ (higher : j < i). absurd (omega (arith, higher, less)))
        apart)
        (cases_order i j)

    served_in : (i p : ℕ) → p < sys.processes → Served p (stage i) (stage (suc i))
    served_in i p less = (next_stage (stage i)).2 p less

    -- ---- the loop

    module _ (Along : Node S → List ℕ → Type 0) (along : (d n k : ℕ) → n ≤ k → k < n + d → E k → Along (Choosing (state n)) (segment n d))
        (states : List S) (same_or_not : (s t : S) → Contains states s → Contains states t → (s ≡ t) ⊎ (s ≡ t → ⊥)) (closed : IsClosed sys steps (Contains states) (λ kind. Unit {0})) where
      all_in : (n : ℕ) → Contains states (state n)
      all_in zero = subst (IsIn (Contains states) (λ kind. Unit {0})) x.endless.first closed.start
      all_in (suc n) = subst (IsIn (Contains states) (λ kind. Unit {0})) (x.endless.goes n) (closed.on (state n) (w n) (all_in n) (x.endless.may_be n))

      between : (i j : ℕ) → i < j → state (stage i) ≡ state (stage j) → (l : HasLasso sys waiting q steps) × Along (Choosing l.state) (l.first ∷ l.more)
      between i j less same =
          let up = reaches_up i j less in
          let r = rises i in
          let d = distance_less_one (stage i) (stage j) (omega (arith, up, r)) in
          let k = (next_stage (stage i)).3 in
          let kl = k.2 in
          let e = d.1 in (
            record {
              stem = segment 0 (stage i);
              state = state (stage i);
              first = w (stage i);
              more = segment (suc (stage i)) d.0;
              lasso = record {
                reached = ap (λ y. node_after sys steps y (segment 0 (stage i))) x.endless.first ∙ after_on (stage i) 0 ∙ ap (λ k. Some (Choosing (state k))) (plus (stage i));
                back = after_on (suc d.0) (stage i) ∙ ap (λ k. Some (Choosing (state k))) d.1 ∙ ap (λ s. Some (Choosing s)) (sym same);
              };
              waits = record {
                fair = λ p below. (let s = served_in i p below in let l = s.2 in happens_on (λ (m : Moment S). (m.mover ≡ p) ⊎ (sys.is_ready m.state p ≡ false)) (suc d.0) (stage i) s.0 s.1 (omega (arith, l, up, e)) s.3);
                waits = waits_on (suc d.0) (stage i) (late_enough i);
                waits_between = waits_between (suc d.0) (stage i) (late_enough i);
              };
            },
            along (suc d.0) (stage i) k.0 k.1 (omega (arith, kl, up, e)) k.3,
          )
        where
          plus : (n : ℕ) → 0 + n ≡ n
          plus n = omega arith

      has_lasso : (l : HasLasso sys waiting q steps) × Along (Choosing l.state) (l.first ∷ l.more)
      has_lasso = let t = twice (λ i. state (stage i)) (λ i j. same_or_not (state (stage i)) (state (stage j)) (all_in (stage i)) (all_in (stage j))) states (λ i. has_from_contains states (state (stage i)) (all_in (stage i))) in between t.0 t.1 t.2 t.4

  -- ---- a choice at which a process waits

  states_on : (P : S → Type 0) (d n k : ℕ) → n ≤ k → k < n + d → P (state k) → AnyOf P (states_along sys steps (Choosing (state n)) (segment n d))
  states_on P zero n k le less a = absurd (omega (arith, le, less))
  states_on P (suc d) n k le less a =
      ⊎_elim
      (λ (same : n ≡ k). inl (subst (λ i. P (state i)) (sym same) a))
      (λ (apart : (n < k) ⊎ (k < n)).
      ⊎_elim
      (λ (later : n < k). inr (subst (λ y. AnyOf P (states_along sys steps y (segment (suc n) d))) (sym (x.endless.goes n)) (states_on P d (suc n) k (omega (arith, later)) (omega (arith, less)) a)))
      (λ (before : k < n). absurd (omega (arith, before, le)))
      apart)
      (cases_order n k)

pub found : {S : Type 0} (sys : System S) → LassoFoundLaw sys
found sys waiting q steps states same_or_not closed x = (has_lasso sys waiting q steps x (λ k. Unit {0}) (λ n. (n, omega arith, tt)) (λ node word. Unit {0}) (λ d n k le less e. tt) states same_or_not closed).0

pub linger_found : {S : Type 0} (sys : System S) → LingerFoundLaw sys
linger_found {S} sys inside waiting q steps states same_or_not closed x =
    let l =
    has_lasso sys inside q steps x.stays (λ k. WaitsSometime sys waiting q steps (x.stays.state k) (x.stays.word k)) x.waits (WaitsAlong sys waiting q steps)
    (λ d n k le less e.
    ⊎_elim
    (λ (here : waiting (x.stays.state k) q ≡ true). inl (states_on sys inside q steps x.stays (λ t. waiting t q ≡ true) d n k le less here))
    (λ (later : AnyOf (λ (m : Moment S). waiting m.state q ≡ true) (moments sys steps (x.stays.state k) (x.stays.word k))). inr (happens_on sys inside q steps x.stays (λ (m : Moment S). waiting m.state q ≡ true) d n k le less later))
    e)
    states same_or_not closed in
    record { stays = l.0; waits = l.1 }
