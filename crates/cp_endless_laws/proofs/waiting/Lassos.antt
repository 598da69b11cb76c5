-- A loop that is gone again and again is a schedule without end: it is fair if the loop is, and in it a process waits for ever if it waits in the loop.
use Rattle.std.proofs.Common.{◌≡◌, ◌⊎◌, inl, inr, ⊎_elim, ◌+◌, ◌<◌, ◌≤◌, ℕ, zero, suc, Bool, true, false, List, [], ◌∷◌, ◌++◌, length, Option, Some, refl, sym, ap, subst, ◌∙◌, arith}
use Rattle.cp_endless_laws.proofs.Words.{Each, System, Node, Halted, Choosing, may, chosen, opened, AnyOf, Moment, moments, moments_along, states_along, LeadsTo, node_after}
use Rattle.cp_endless_laws.specs.Fair.{IsEndless, IsFair, IsServed}
use Rattle.cp_endless_laws.specs.Lasso.{IsLasso, IsWaitingLoop, LassoLaw, LingerLaw, WaitsAlong}
use Rattle.cp_endless_laws.specs.WaitsForEver.{MayWaitForEver, WaitsFrom, WaitsIn, WaitsSometime}
use Rattle.cp_endless_laws.proofs.Basics.{each_left, each_right, any_split, distance_before}
use Rattle.cp_endless_laws.proofs.possible.Words.{after_first, after_choosing, after_append}

-- ---- lists

not_empty : (u : List ℕ) (p : ℕ) (v : List ℕ) → (q : ℕ) × (qs : List ℕ) × (u ++ p ∷ v ≡ q ∷ qs)
not_empty [] p v = (p, v, refl)
not_empty (q ∷ qs) p v = (q, qs ++ p ∷ v, refl)

-- ---- where a schedule stands

-- a state at a due choice, and the numbers that are left of the loop
pub record Spot (S : Type 0) : Type 0 where
  pub at : S
  pub left : List ℕ

state_in : {S : Type 0} → S → Node S → S
state_in s (Halted kind t) = s
state_in s (Choosing t) = t

number_of : List ℕ → ℕ
number_of [] = 0
number_of (p ∷ word) = p

choosing_same : {S : Type 0} (s t : S) → Choosing s ≡ Choosing t → s ≡ t
unfolding state_in
choosing_same s t e = ap (state_in s) e

module _ {S : Type 0} (sys : System S) (steps : ℕ) where
  abbrev on : Node S → List ℕ → Option (Node S)
  on = node_after sys steps

  -- ---- the loop

  module _ (home : S) (first : ℕ) (more : List ℕ) (back : on (Choosing home) (first ∷ more) ≡ Some (Choosing home)) where
    abbrev refilled : List ℕ → List ℕ
    refilled [] = first ∷ more
    refilled (p ∷ word) = p ∷ word

    abbrev after : S → List ℕ → Spot S
    after s [] = record { at = s; left = first ∷ more }
    after s (p ∷ word) = record { at = state_in s (chosen sys steps s p); left = refilled word }

    abbrev gone : ℕ → Spot S → Spot S
    gone zero c = c
    gone (suc n) c = after (gone n c).at (gone n c).left

    abbrev round_at : Spot S
    round_at = record { at = home; left = first ∷ more }

    -- what is left leads home
    abbrev OnWay : S → List ℕ → Type 0
    OnWay s word = (p : ℕ) × (rest : List ℕ) × (word ≡ p ∷ rest) × (on (Choosing s) word ≡ Some (Choosing home))

    on_way_home : OnWay home (first ∷ more)
    on_way_home = (first, more, refl, back)

    -- the next spot
    one_on : (s : S) (p : ℕ) (word : List ℕ) → on (Choosing s) (p ∷ word) ≡ Some (Choosing home) → (t : S) × (may sys s p ≡ true) × (chosen sys steps s p ≡ Choosing t) × (on (Choosing t) word ≡ Some (Choosing home)) × ((after s (p ∷ word)).at ≡ t)
    unfolding state_in
    one_on s p word e =
        let m = after_first sys steps s p word (Choosing home) e in
        let c = after_choosing sys steps (chosen sys steps s p) word home m.1 in
        (c.0, m.0, c.1, c.2, ap (state_in s) c.1)

    home_now : (t : S) → on (Choosing t) [] ≡ Some (Choosing home) → t ≡ home
    home_now t e = choosing_same t home (same e)
      where
        same : Some (Choosing t) ≡ Some (Choosing home) → Choosing t ≡ Choosing home
        same e = cc

    -- P holds at the next spot, if it holds for what is left, and for the whole loop
    next_spot : (P : S → List ℕ → Type 0) → P home (first ∷ more) → (s t : S) (p : ℕ) (word : List ℕ) → on (Choosing t) word ≡ Some (Choosing home) → (after s (p ∷ word)).at ≡ t → P t word → P (after s (p ∷ word)).at (after s (p ∷ word)).left
    next_spot P whole s t p [] e is h = subst (λ x. P x (first ∷ more)) (sym (is ∙ home_now t e)) whole
    next_spot P whole s t p (q ∷ word) e is h = subst (λ x. P x (q ∷ word)) (sym is) h

    way_on : (s : S) (word : List ℕ) → OnWay s word → OnWay (after s word).at (after s word).left
    way_on s [] w = absurd (nil_cons w.0 w.1 w.2)
      where
        nil_cons : (p : ℕ) (rest : List ℕ) → [] ≡ p ∷ rest → ⊥
        nil_cons p rest e = cc
    way_on s (p ∷ []) w = let o = one_on s p [] w.3 in subst (λ x. OnWay x (first ∷ more)) (sym (o.4 ∙ home_now o.0 o.3)) on_way_home
    way_on s (p ∷ q ∷ word) w = let o = one_on s p (q ∷ word) w.3 in subst (λ x. OnWay x (q ∷ word)) (sym o.4) (q, word, refl, o.3)

    way_gone : (n : ℕ) (c : Spot S) → OnWay c.at c.left → OnWay (gone n c).at (gone n c).left
    way_gone zero c w = w
    way_gone (suc n) c w = way_on (gone n c).at (gone n c).left (way_gone n c w)

    later : (n : ℕ) (c : Spot S) → gone n (after c.at c.left) ≡ gone (suc n) c
    later zero c = refl
    later (suc n) c = ap (λ (x : Spot S). after x.at x.left) (later n c)

    gone_twice : (n m : ℕ) (c : Spot S) → gone n (gone m c) ≡ gone (n + m) c
    gone_twice zero m c = ap (λ i. gone i c) (none m)
      where
        none : (m : ℕ) → m ≡ zero + m
        none m = omega arith
    gone_twice (suc n) m c = ap (λ (x : Spot S). after x.at x.left) (gone_twice n m c) ∙ ap (λ i. gone i c) (plus n)
      where
        plus : (n : ℕ) → suc (n + m) ≡ suc n + m
        plus n = omega arith

    -- when what is left is gone, the loop begins
    to_home : (s : S) (word : List ℕ) → OnWay s word → gone (length word) (record { at = s; left = word }) ≡ round_at
    to_home s [] w = absurd (nil_cons w.0 w.1 w.2)
      where
        nil_cons : (p : ℕ) (rest : List ℕ) → [] ≡ p ∷ rest → ⊥
        nil_cons p rest e = cc
    to_home s (p ∷ []) w = let o = one_on s p [] w.3 in ap (λ x. record { at = x; left = first ∷ more }) (o.4 ∙ home_now o.0 o.3)
    to_home s (p ∷ q ∷ word) w =
        let o = one_on s p (q ∷ word) w.3 in
        sym (later (length (q ∷ word)) (record { at = s; left = p ∷ q ∷ word }))
        ∙ ap (λ x. gone (length (q ∷ word)) (record { at = x; left = q ∷ word })) o.4
        ∙ to_home o.0 (q ∷ word) (q, word, refl, o.3)

    abbrev happens : Spot S → List (Moment S)
    happens c = moments sys steps c.at (number_of c.left)

    -- what happens along a word happens at one of its spots
    happens_at : (P : Moment S → Type 0) (s : S) (word : List ℕ) → OnWay s word → AnyOf P (moments_along sys steps (Choosing s) word) → (k : ℕ) × AnyOf P (happens (gone k (record { at = s; left = word })))
    unfolding number_of
    happens_at P s [] w a = absurd a
    happens_at P s (p ∷ []) w a =
        ⊎_elim
        (λ (now : AnyOf P (moments sys steps s p)). (zero, now))
        (λ (rest : AnyOf P []). absurd rest)
        (any_split P (moments sys steps s p) [] a)
    happens_at P s (p ∷ q ∷ word) w a =
        let o = one_on s p (q ∷ word) w.3 in
        ⊎_elim
        (λ (now : AnyOf P (moments sys steps s p)). (zero, now))
        (λ (rest : AnyOf P (moments_along sys steps (chosen sys steps s p) (q ∷ word))).
        (let h = happens_at P o.0 (q ∷ word) (q, word, refl, o.3) (subst (λ n. AnyOf P (moments_along sys steps n (q ∷ word))) o.2 rest) in
        (suc h.0, subst (λ c. AnyOf P (happens c)) (ap (λ x. gone h.0 (record { at = x; left = q ∷ word })) (sym o.4) ∙ later h.0 (record { at = s; left = p ∷ q ∷ word })) h.1)))
        (any_split P (moments sys steps s p) (moments_along sys steps (chosen sys steps s p) (q ∷ word)) a)

    -- what is so at a due choice of a word is so at one of its spots
    holds_at : (P : S → Type 0) (s : S) (word : List ℕ) → OnWay s word → AnyOf P (states_along sys steps (Choosing s) word) → (k : ℕ) × P (gone k (record { at = s; left = word })).at
    holds_at P s [] w a = absurd a
    holds_at P s (p ∷ word) w (inl now) = (zero, now)
    holds_at P s (p ∷ []) w (inr a) = absurd a
    holds_at P s (p ∷ q ∷ word) w (inr a) =
        let o = one_on s p (q ∷ word) w.3 in
        let h = holds_at P o.0 (q ∷ word) (q, word, refl, o.3) (subst (λ n. AnyOf P (states_along sys steps n (q ∷ word))) o.2 a) in
        (suc h.0, subst (λ (c : Spot S). P c.at) (ap (λ x. gone h.0 (record { at = x; left = q ∷ word })) (sym o.4) ∙ later h.0 (record { at = s; left = p ∷ q ∷ word })) h.1)

    -- ---- the whole schedule

    module _ (start : Spot S) (opens : opened sys steps ≡ Choosing start.at) (way : OnWay start.at start.left) where
      abbrev w : ℕ → ℕ
      w n = number_of (gone n start).left

      abbrev state : ℕ → S
      state n = (gone n start).at

      goes_at : (s : S) (word : List ℕ) → OnWay s word → (may sys s (number_of word) ≡ true) × (chosen sys steps s (number_of word) ≡ Choosing (after s word).at)
      unfolding number_of
      goes_at s [] v = absurd (nil_cons v.0 v.1 v.2)
        where
          nil_cons : (p : ℕ) (rest : List ℕ) → [] ≡ p ∷ rest → ⊥
          nil_cons p rest e = cc
      goes_at s (p ∷ word) v = let o = one_on s p word v.3 in (o.1, o.2 ∙ ap Choosing (sym o.4))

      endless : IsEndless sys steps w state
      endless =
          record {
            first = opens;
            may_be = λ n. (goes_at (gone n start).at (gone n start).left (way_gone n start way)).0;
            goes = λ n. (goes_at (gone n start).at (gone n start).left (way_gone n start way)).1;
          }

      homes : (n : ℕ) → gone (length (gone n start).left + n) start ≡ round_at
      homes n = sym (gone_twice (length (gone n start).left) n start) ∙ to_home (gone n start).at (gone n start).left (way_gone n start way)

      fair : ((p : ℕ) → p < sys.processes → IsServed sys p (moments_along sys steps (Choosing home) (first ∷ more))) → IsFair sys steps w state
      fair f q n less =
          let P : Moment S → Type 0 = λ (m : Moment S). (m.mover ≡ q) ⊎ (sys.is_ready m.state q ≡ false) in
          let h = happens_at P home (first ∷ more) on_way_home (f q less) in
          let m = length (gone n start).left + n in
          (h.0 + m, omega arith, subst (λ c. AnyOf P (happens c)) (ap (gone h.0) (sym (homes n)) ∙ gone_twice h.0 m start) h.1)

      module _ (waiting : S → ℕ → Bool) (q : ℕ) where
        abbrev Waits : S → List ℕ → Type 0
        Waits s word = Each (λ t. waiting t q ≡ true) (states_along sys steps (Choosing s) word) × Each (λ (m : Moment S). waiting m.state q ≡ true) (moments_along sys steps (Choosing s) word)

        waits_on : Waits home (first ∷ more) → (s : S) (word : List ℕ) → OnWay s word → Waits s word → Waits (after s word).at (after s word).left
        waits_on whole s [] v h = absurd (nil_cons v.0 v.1 v.2)
          where
            nil_cons : (p : ℕ) (rest : List ℕ) → [] ≡ p ∷ rest → ⊥
            nil_cons p rest e = cc
        waits_on whole s (p ∷ word) v h =
            let o = one_on s p word v.3 in
            next_spot Waits whole s o.0 p word o.3 o.4 (
              subst (λ n. Each (λ t. waiting t q ≡ true) (states_along sys steps n word)) o.2 h.0.1,
              subst (λ n. Each (λ (m : Moment S). waiting m.state q ≡ true) (moments_along sys steps n word)) o.2 (each_right (λ (m : Moment S). waiting m.state q ≡ true) (moments sys steps s p) (moments_along sys steps (chosen sys steps s p) word) h.1),
            )

        waits_gone : Waits home (first ∷ more) → (n : ℕ) → Waits (gone n round_at).at (gone n round_at).left
        waits_gone whole zero = whole
        waits_gone whole (suc n) = waits_on whole (gone n round_at).at (gone n round_at).left (way_gone n round_at on_way_home) (waits_gone whole n)

        waits_in : (s : S) (word : List ℕ) → OnWay s word → Waits s word → WaitsIn sys waiting q steps s (number_of word)
        unfolding number_of
        waits_in s [] v h = absurd (nil_cons v.0 v.1 v.2)
          where
            nil_cons : (p : ℕ) (rest : List ℕ) → [] ≡ p ∷ rest → ⊥
            nil_cons p rest e = cc
        waits_in s (p ∷ word) v h = (h.0.0, each_left (λ (m : Moment S). waiting m.state q ≡ true) (moments sys steps s p) (moments_along sys steps (chosen sys steps s p) word) h.1)

        waits_from : Waits home (first ∷ more) → WaitsFrom sys waiting q steps w state (length start.left)
        waits_from whole m le =
            let d = distance_before (length start.left) m le in
            subst (λ (c : Spot S). WaitsIn sys waiting q steps c.at (number_of c.left))
            (ap (gone d.0) (sym (to_home start.at start.left way)) ∙ gone_twice d.0 (length start.left) start ∙ ap (λ i. gone i start) d.1)
            (waits_in (gone d.0 round_at).at (gone d.0 round_at).left (way_gone d.0 round_at on_way_home) (waits_gone whole d.0))

      module _ (waiting : S → ℕ → Bool) (q : ℕ) where
        again_and_again : WaitsAlong sys waiting q steps (Choosing home) (first ∷ more) → (n : ℕ) → (m : ℕ) × (n ≤ m) × WaitsSometime sys waiting q steps (state m) (w m)
        again_and_again a n =
            let m = length (gone n start).left + n in
            ⊎_elim
            (λ (here : AnyOf (λ t. waiting t q ≡ true) (states_along sys steps (Choosing home) (first ∷ more))).
            (let h = holds_at (λ t. waiting t q ≡ true) home (first ∷ more) on_way_home here in
            (h.0 + m, omega arith, inl (subst (λ (c : Spot S). waiting c.at q ≡ true) (ap (gone h.0) (sym (homes n)) ∙ gone_twice h.0 m start) h.1))))
            (λ (between : AnyOf (λ (x : Moment S). waiting x.state q ≡ true) (moments_along sys steps (Choosing home) (first ∷ more))).
            (let h = happens_at (λ (x : Moment S). waiting x.state q ≡ true) home (first ∷ more) on_way_home between in
            (h.0 + m, omega arith, inr (subst (λ (c : Spot S). AnyOf (λ (x : Moment S). waiting x.state q ≡ true) (happens c)) (ap (gone h.0) (sym (homes n)) ∙ gone_twice h.0 m start) h.1))))
            a

module _ {S : Type 0} (sys : System S) (steps : ℕ) (stem : List ℕ) (s : S) (first : ℕ) (more : List ℕ) (lasso : IsLasso sys steps stem s first more) where
  after_all : LeadsTo sys steps (stem ++ first ∷ more) (Choosing s)
  after_all = after_append sys steps stem (first ∷ more) (opened sys steps) (Choosing s) lasso.reached ∙ lasso.back

  opens_at : (t : S) × (opened sys steps ≡ Choosing t) × (node_after sys steps (Choosing t) (stem ++ first ∷ more) ≡ Some (Choosing s))
  opens_at = after_choosing sys steps (opened sys steps) (stem ++ first ∷ more) s after_all

  first_spot : Spot S
  first_spot = record { at = opens_at.0; left = stem ++ first ∷ more }

  first_way : (p : ℕ) × (rest : List ℕ) × (first_spot.left ≡ p ∷ rest) × (node_after sys steps (Choosing first_spot.at) first_spot.left ≡ Some (Choosing s))
  unfolding first_spot
  first_way = let ne = not_empty stem first more in (ne.0, ne.1, ne.2, opens_at.2)

  opened_there : opened sys steps ≡ Choosing first_spot.at
  unfolding first_spot
  opened_there = opens_at.1

  module _ (waiting : S → ℕ → Bool) (q : ℕ) (loop : IsWaitingLoop sys waiting q steps s (first ∷ more)) where
    abbrev waits_for_ever : MayWaitForEver sys waiting q steps
    waits_for_ever =
        record {
          word = w sys steps s first more lasso.back first_spot opened_there first_way;
          state = state sys steps s first more lasso.back first_spot opened_there first_way;
          endless = endless sys steps s first more lasso.back first_spot opened_there first_way;
          fair = fair sys steps s first more lasso.back first_spot opened_there first_way loop.fair;
          since = length first_spot.left;
          waits = waits_from sys steps s first more lasso.back first_spot opened_there first_way waiting q (loop.waits, loop.waits_between);
        }

pub lassos : {S : Type 0} (sys : System S) → LassoLaw sys
lassos sys waiting q steps l = waits_for_ever sys steps l.stem l.state l.first l.more l.lasso waiting q l.waits

pub lingers : {S : Type 0} (sys : System S) → LingerLaw sys
lingers sys inside waiting q steps x =
    let l = x.stays in
    record {
      stays = waits_for_ever sys steps l.stem l.state l.first l.more l.lasso inside q l.waits;
      waits = again_and_again sys steps l.state l.first l.more l.lasso.back (first_spot sys steps l.stem l.state l.first l.more l.lasso) (opened_there sys steps l.stem l.state l.first l.more l.lasso) (first_way sys steps l.stem l.state l.first l.more l.lasso) waiting q x.waits;
    }
