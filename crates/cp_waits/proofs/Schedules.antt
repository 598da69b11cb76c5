-- A lasso is a schedule without end: its first word, and then its loop again and again.
use Rattle.std.proofs.Common.{◌≡◌, ◌⊎◌, inl, inr, ⊎_elim, ◌∙◌, ◌<◌, ◌≤◌, ℕ, zero, suc, Bool, true, false, List, [], ◌∷◌, length, Some, refl, sym, ap, subst, arith}
use Rattle.cp_waits.proofs.Words.{Each, System, Node, Halted, Choosing, may, chosen, opened, node_after, some_same, AreLasso, AreLingeringLasso}
use Rattle.cp_endless_laws.specs.Fair.{IsFair, IsServed}
use Rattle.cp_endless_laws.specs.Lasso.{HasLasso, WaitsAlong}
use Rattle.cp_endless_laws.specs.Moments.{AnyOf, Moment, moments, moments_along, states_along}
use Rattle.cp_endless_laws.specs.WaitsForEver.{WaitsFrom, WaitsIn, WaitsSometime}
use Rattle.cp_endless_laws.proofs.possible.Words.{after_first, after_choosing}
use Rattle.cp_waits.specs.Named.{LingersBy, WaitsBy, followed_by}
use Rattle.cp_endless_laws.proofs.Basics.{any_split, each_left, each_right}

state_in : {S : Type 0} → S → Node S → S
state_in s (Halted kind t) = s
state_in s (Choosing t) = t

-- n places further than m
further : ℕ → ℕ → ℕ
further zero m = m
further (suc n) m = suc (further n m)

far : (n m : ℕ) → n ≤ further n m
unfolding further
far zero m = omega arith
far (suc n) m = let h = far n m in omega (arith, h)

far_as : (n m : ℕ) → n ≤ m → (k : ℕ) × (further n k ≡ m)
unfolding further
far_as zero m le = (m, refl)
far_as (suc n) zero le = absurd (omega (arith, le))
far_as (suc n) (suc m) le = let h = far_as n m (omega (arith, le)) in (h.0, ap suc h.1)

module _ {S : Type 0} (sys : System S) (steps : ℕ) (home : S) (first : ℕ) (more : List ℕ) (back : node_after sys steps (Choosing home) (first ∷ more) ≡ Some (Choosing home)) where
  abbrev loop : List ℕ
  loop = first ∷ more

  next : S → ℕ → S
  next t p = state_in t (chosen sys steps t p)

  -- the state before number n, and what is left of the word then
  abbrev run : S → List ℕ → ℕ → S
  run t left zero = t
  run t [] (suc n) = run (next t first) more n
  run t (p ∷ left) (suc n) = run (next t p) left n

  abbrev rest : List ℕ → ℕ → List ℕ
  rest left zero = left
  rest [] (suc n) = rest more n
  rest (p ∷ left) (suc n) = rest left n

  -- what is left leads home
  abbrev Leads : S → List ℕ → Type 0
  Leads t left = node_after sys steps (Choosing t) left ≡ Some (Choosing home)

  choosing_is : (s t : S) → Choosing s ≡ Choosing t → s ≡ t
  unfolding state_in
  choosing_is s t e = ap (state_in s) e

  home_now : (t : S) → Leads t [] → t ≡ home
  home_now t e = choosing_is t home (some_same (Choosing t) (Choosing home) e)

  one : (t : S) (p : ℕ) (word : List ℕ) → Leads t (p ∷ word) → (may sys t p ≡ true) × (chosen sys steps t p ≡ Choosing (next t p)) × Leads (next t p) word
  unfolding next state_in
  one t p word e =
      let m = after_first sys steps t p word (Choosing home) e in
      let c = after_choosing sys steps (chosen sys steps t p) word home m.1 in
      let is = ap (state_in t) c.1 in
      (m.0, c.1 ∙ ap Choosing (sym is), subst (λ u. Leads u word) (sym is) c.2)

  again : (t : S) → Leads t [] → (may sys t first ≡ true) × (chosen sys steps t first ≡ Choosing (next t first)) × Leads (next t first) more
  again t e = one t first more (subst (λ u. Leads u loop) (sym (home_now t e)) back)

  goes_at : (n : ℕ) (t : S) (left : List ℕ) → Leads t left → (may sys (run t left n) (followed_by loop left n) ≡ true) × (chosen sys steps (run t left n) (followed_by loop left n) ≡ Choosing (run t left (suc n)))
  goes_at zero t [] e = let o = again t e in (o.0, o.1)
  goes_at zero t (p ∷ left) e = let o = one t p left e in (o.0, o.1)
  goes_at (suc n) t [] e = goes_at n (next t first) more (again t e).2
  goes_at (suc n) t (p ∷ left) e = goes_at n (next t p) left (one t p left e).2

  leads_at : (n : ℕ) (t : S) (left : List ℕ) → Leads t left → Leads (run t left n) (rest left n)
  leads_at zero t left e = e
  leads_at (suc n) t [] e = leads_at n (next t first) more (again t e).2
  leads_at (suc n) t (p ∷ left) e = leads_at n (next t p) left (one t p left e).2

  -- from place n on
  run_on : (n m : ℕ) (t : S) (left : List ℕ) → run t left (further n m) ≡ run (run t left n) (rest left n) m
  unfolding further
  run_on zero m t left = refl
  run_on (suc n) m t [] = run_on n m (next t first) more
  run_on (suc n) m t (p ∷ left) = run_on n m (next t p) left

  word_on : (n m : ℕ) (left : List ℕ) → followed_by loop left (further n m) ≡ followed_by loop (rest left n) m
  unfolding further
  word_on zero m left = refl
  word_on (suc n) m [] = word_on n m more
  word_on (suc n) m (p ∷ left) = word_on n m left

  -- when the word is gone
  rest_all : (left : List ℕ) → rest left (length left) ≡ []
  rest_all [] = refl
  rest_all (p ∷ left) = rest_all left

  home_all : (t : S) (left : List ℕ) → Leads t left → run t left (length left) ≡ home
  home_all t [] e = home_now t e
  home_all t (p ∷ left) e = home_all (next t p) left (one t p left e).2

  run_loop : (k : ℕ) → run home [] k ≡ run home loop k
  run_loop zero = refl
  run_loop (suc k) = refl

  word_loop : (k : ℕ) → followed_by loop [] k ≡ followed_by loop loop k
  word_loop zero = refl
  word_loop (suc k) = refl

  -- after the word the loop begins
  run_home : (t : S) (left : List ℕ) → Leads t left → (k : ℕ) → run t left (further (length left) k) ≡ run home loop k
  run_home t left e k = run_on (length left) k t left ∙ ap (λ l. run (run t left (length left)) l k) (rest_all left) ∙ ap (λ (u : S). run u [] k) (home_all t left e) ∙ run_loop k

  word_home : (left : List ℕ) (k : ℕ) → followed_by loop left (further (length left) k) ≡ followed_by loop loop k
  word_home left k = word_on (length left) k left ∙ ap (λ l. followed_by loop l k) (rest_all left) ∙ word_loop k

  -- place k of the loop comes again after each place
  comes_again : (t : S) (left : List ℕ) → Leads t left → (n k : ℕ) → (m : ℕ) × (n ≤ m) × (run t left m ≡ run home loop k) × (followed_by loop left m ≡ followed_by loop loop k)
  comes_again t left e n k =
      let d = further (length (rest left n)) k in (
        further n d,
        far n d,
        run_on n d t left ∙ run_home (run t left n) (rest left n) (leads_at n t left e) k,
        word_on n d left ∙ word_home (rest left n) k,
      )

  -- what happens along a word happens at one of its places
  happens_in : (P : Moment S → Type 0) (t : S) (word : List ℕ) → Leads t word → AnyOf P (moments_along sys steps (Choosing t) word) → (k : ℕ) × AnyOf P (moments sys steps (run t word k) (followed_by loop word k))
  happens_in P t [] e a = absurd a
  happens_in P t (p ∷ word) e a =
      let o = one t p word e in
      ⊎_elim
      (λ (now : AnyOf P (moments sys steps t p)). (zero, now))
      (λ (later : AnyOf P (moments_along sys steps (chosen sys steps t p) word)).
      (let h = happens_in P (next t p) word o.2 (subst (λ n. AnyOf P (moments_along sys steps n word)) o.1 later) in (suc h.0, h.1)))
      (any_split P (moments sys steps t p) (moments_along sys steps (chosen sys steps t p) word) a)

  holds_in : (P : S → Type 0) (t : S) (word : List ℕ) → Leads t word → AnyOf P (states_along sys steps (Choosing t) word) → (k : ℕ) × P (run t word k)
  holds_in P t [] e a = absurd a
  holds_in P t (p ∷ word) e a =
      let o = one t p word e in
      ⊎_elim
      (λ (now : P t). (zero, now))
      (λ (later : AnyOf P (states_along sys steps (chosen sys steps t p) word)).
      (let h = holds_in P (next t p) word o.2 (subst (λ n. AnyOf P (states_along sys steps n word)) o.1 later) in (suc h.0, h.1)))
      a

  -- ---- the process waits in all of the loop

  module _ (waiting : S → ℕ → Bool) (q : ℕ) where
    abbrev Waits : S → List ℕ → Type 0
    Waits t word = Each (λ s. waiting s q ≡ true) (states_along sys steps (Choosing t) word) × Each (λ (m : Moment S). waiting m.state q ≡ true) (moments_along sys steps (Choosing t) word)

    abbrev M : Moment S → Type 0
    M m = waiting m.state q ≡ true

    first_waits : (t : S) (p : ℕ) (word : List ℕ) → Waits t (p ∷ word) → WaitsIn sys waiting q steps t p
    first_waits t p word h = (h.0.0, each_left M (moments sys steps t p) (moments_along sys steps (chosen sys steps t p) word) h.1)

    later_waits : (t : S) (p : ℕ) (word : List ℕ) → Leads t (p ∷ word) → Waits t (p ∷ word) → Waits (next t p) word
    later_waits t p word e h =
        let o = one t p word e in (
          subst (λ n. Each (λ s. waiting s q ≡ true) (states_along sys steps n word)) o.1 h.0.1,
          subst (λ n. Each M (moments_along sys steps n word)) o.1 (each_right M (moments sys steps t p) (moments_along sys steps (chosen sys steps t p) word) h.1),
        )

    waits_at : Waits home loop → (k : ℕ) (t : S) (left : List ℕ) → Leads t left → Waits t left → WaitsIn sys waiting q steps (run t left k) (followed_by loop left k)
    waits_at whole zero t [] e h = first_waits t first more (subst (λ u. Waits u loop) (sym (home_now t e)) whole)
    waits_at whole zero t (p ∷ left) e h = first_waits t p left h
    waits_at whole (suc k) t [] e h =
        waits_at whole k (next t first) more (again t e).2 (later_waits t first more (subst (λ u. Leads u loop) (sym (home_now t e)) back) (subst (λ u. Waits u loop) (sym (home_now t e)) whole))
    waits_at whole (suc k) t (p ∷ left) e h = waits_at whole k (next t p) left (one t p left e).2 (later_waits t p left e h)

    waits_after : Waits home loop → (t : S) (left : List ℕ) → Leads t left → WaitsFrom sys waiting q steps (followed_by loop left) (run t left) (length left)
    waits_after whole t left e m le =
        let k = far_as (length left) m le in
        let there = waits_at whole k.0 home loop back whole in
        subst (λ i. WaitsIn sys waiting q steps (run t left i) (followed_by loop left i)) k.1
        (subst (λ s. WaitsIn sys waiting q steps s (followed_by loop left (further (length left) k.0))) (sym (run_home t left e k.0))
        (subst (λ p. WaitsIn sys waiting q steps (run home loop k.0) p) (sym (word_home left k.0)) there))

    waits_often : WaitsAlong sys waiting q steps (Choosing home) loop → (t : S) (left : List ℕ) → Leads t left → (n : ℕ) → (m : ℕ) × (n ≤ m) × WaitsSometime sys waiting q steps (run t left m) (followed_by loop left m)
    waits_often a t left e n =
        ⊎_elim
        (λ (due : AnyOf (λ s. waiting s q ≡ true) (states_along sys steps (Choosing home) loop)).
        (let h = holds_in (λ s. waiting s q ≡ true) home loop back due in
        let c = comes_again t left e n h.0 in
        (c.0, c.1, inl (subst (λ (s : S). waiting s q ≡ true) (sym c.2) h.1))))
        (λ (between : AnyOf M (moments_along sys steps (Choosing home) loop)).
        (let h = happens_in M home loop back between in
        let c = comes_again t left e n h.0 in
        (c.0, c.1, inr (subst (λ s. AnyOf M (moments sys steps s (followed_by loop left c.0))) (sym c.2) (subst (λ p. AnyOf M (moments sys steps (run home loop h.0) p)) (sym c.3) h.1)))))
        a

  serves : ((p : ℕ) → p < sys.processes → IsServed sys p (moments_along sys steps (Choosing home) loop)) → (t : S) (left : List ℕ) → Leads t left → IsFair sys steps (followed_by loop left) (run t left)
  serves fair t left e p n less =
      let P : Moment S → Type 0 = λ (m : Moment S). (m.mover ≡ p) ⊎ (sys.is_ready m.state p ≡ false) in
      let h = happens_in P home loop back (fair p less) in
      let c = comes_again t left e n h.0 in
      (c.0, c.1, subst (λ s. AnyOf P (moments sys steps s (followed_by loop left c.0))) (sym c.2) (subst (λ i. AnyOf P (moments sys steps (run home loop h.0) i)) (sym c.3) h.1))

-- ---- the schedule of a lasso

module _ {S : Type 0} (sys : System S) (steps : ℕ) (waiting : S → ℕ → Bool) (q : ℕ) (l : HasLasso sys waiting q steps) where
  begins : (t : S) × (opened sys steps ≡ Choosing t) × (node_after sys steps (Choosing t) l.stem ≡ Some (Choosing l.state))
  begins = after_choosing sys steps (opened sys steps) l.stem l.state l.lasso.reached

  abbrev there : ℕ → S
  there n = run sys steps l.state l.first l.more l.lasso.back begins.0 l.stem n

  abbrev by_words : WaitsBy sys waiting q steps l.stem (l.first ∷ l.more)
  by_words =
      record {
        state = there;
        endless = record {
          first = begins.1;
          may_be = λ n. (goes_at sys steps l.state l.first l.more l.lasso.back n begins.0 l.stem begins.2).0;
          goes = λ n. (goes_at sys steps l.state l.first l.more l.lasso.back n begins.0 l.stem begins.2).1;
        };
        fair = serves sys steps l.state l.first l.more l.lasso.back l.waits.fair begins.0 l.stem begins.2;
        waits = waits_after sys steps l.state l.first l.more l.lasso.back waiting q (l.waits.waits, l.waits.waits_between) begins.0 l.stem begins.2;
      }

pub waits_by : {S : Type 0} (sys : System S) (waiting : S → ℕ → Bool) (q steps : ℕ) (first again : List ℕ) → AreLasso sys waiting q steps first again → WaitsBy sys waiting q steps first again
waits_by sys waiting q steps first again x =
    subst (λ w. WaitsBy sys waiting q steps w again) x.1 (subst (λ w. WaitsBy sys waiting q steps x.0.stem w) x.2 (by_words sys steps waiting q x.0))

pub lingers_by : {S : Type 0} (sys : System S) (inside waiting : S → ℕ → Bool) (q steps : ℕ) (first again : List ℕ) → AreLingeringLasso sys inside waiting q steps first again → LingersBy sys inside waiting q steps first again
lingers_by sys inside waiting q steps first again x =
    let l = x.0.stays in
    subst (λ w. LingersBy sys inside waiting q steps w again) x.1 (subst (λ w. LingersBy sys inside waiting q steps l.stem w) x.2
    (record {
      stays = by_words sys steps inside q l;
      waits = waits_often sys steps l.state l.first l.more l.lasso.back waiting q x.0.waits (begins sys steps inside q l).0 l.stem (begins sys steps inside q l).2;
    }))
