-- A process that is ready somewhere in a round and makes no step in it is ready in all of it.
use Rattle.std.proofs.Common.{◌≡◌, ◌⊎◌, inl, inr, ⊎_elim, ℕ, zero, suc, Bool, true, false, if◌then◌else◌, List, [], ◌∷◌, Some, refl, sym, subst, ◌∙◌}
use Rattle.cp_endless_laws.proofs.Words.{Each, Turn, Goes, System, node_after, some_same, Node, Halted, Choosing, node_at, settled_turn, turn_after, stretch, chosen}
use Rattle.cp_endless_laws.specs.Fair.{IsServed, ReadyRoundLaw, ReadyServedLaw, StaysReady}
use Rattle.cp_endless_laws.specs.Moments.{AnyOf, Moment, moments, moments_along, moments_by, states_along, stretch_moments}
use Rattle.cp_endless_laws.proofs.Basics.{each_left, each_right, each_append, any_split}
use Rattle.cp_endless_laws.proofs.possible.Words.{after_first}

module _ {S : Type 0} (sys : System S) (stays : StaysReady sys) (q : ℕ) where
  abbrev Ready : S → Type 0
  Ready s = sys.is_ready s q ≡ true

  abbrev ReadyIn : Moment S → Type 0
  ReadyIn m = sys.is_ready m.state q ≡ true

  abbrev Apart : Moment S → Type 0
  Apart m = m.mover ≡ q → ⊥

  abbrev AtEnd : Node S → Type 0
  AtEnd (Halted kind s) = Ready s
  AtEnd (Choosing s) = Ready s

  -- what comes after a turn
  ready_by : (t : S) (on : ℕ → List (Moment S)) (go : ℕ → Node S) (turn : Turn) → Ready t → Each Apart (moments_by on turn) → ((x : ℕ) → Each Apart (on x) → Each ReadyIn (on x) × AtEnd (go x)) → Each ReadyIn (moments_by on turn) × AtEnd (node_at t go turn)
  ready_by t on go (Goes x) r a f = f x a
  ready_by t on go _ r a f = (tt, r)

  later_by : (t : S) (on : ℕ → List (Moment S)) (go : ℕ → Node S) (turn : Turn) → AnyOf ReadyIn (moments_by on turn) → Each Apart (moments_by on turn) → ((x : ℕ) → AnyOf ReadyIn (on x) → Each Apart (on x) → AtEnd (go x)) → AtEnd (node_at t go turn)
  later_by t on go (Goes x) y a f = f x y a
  later_by t on go _ y a f = absurd y

  stretch_ready : (left : ℕ) (s : S) (p : ℕ) → Ready s → Each Apart (stretch_moments sys left s p) → Each ReadyIn (stretch_moments sys left s p) × AtEnd (stretch sys left s p)
  unfolding stretch_moments stretch
  stretch_ready zero s p r a = (tt, r)
  stretch_ready (suc left) s p r a =
      let n = stays.step s p q (λ e. a.0 (sym e)) r in
      let rest = ready_by (sys.step s p) (stretch_moments sys left (sys.step s p)) (stretch sys left (sys.step s p)) (turn_after sys (sys.step s p) p (sys.event s p)) n a.1 (λ x b. stretch_ready left (sys.step s p) x n b) in
      ((r, rest.0), rest.1)

  stretch_later : (left : ℕ) (s : S) (p : ℕ) → AnyOf ReadyIn (stretch_moments sys left s p) → Each Apart (stretch_moments sys left s p) → AtEnd (stretch sys left s p)
  unfolding stretch_moments stretch
  stretch_later zero s p y a = absurd y
  stretch_later (suc left) s p (inl r) a =
      let n = stays.step s p q (λ e. a.0 (sym e)) r in
      (ready_by (sys.step s p) (stretch_moments sys left (sys.step s p)) (stretch sys left (sys.step s p)) (turn_after sys (sys.step s p) p (sys.event s p)) n a.1 (λ x b. stretch_ready left (sys.step s p) x n b)).1
  stretch_later (suc left) s p (inr y) a = later_by (sys.step s p) (stretch_moments sys left (sys.step s p)) (stretch sys left (sys.step s p)) (turn_after sys (sys.step s p) p (sys.event s p)) y a.1 (λ x z b. stretch_later left (sys.step s p) x z b)

  moments_ready : (steps : ℕ) (s : S) (p : ℕ) → Ready s → Each Apart (moments sys steps s p) → Each ReadyIn (moments sys steps s p) × AtEnd (chosen sys steps s p)
  unfolding moments chosen
  moments_ready steps s p r a = by (sys.is_pending s) a
    where
      by : (b : Bool) → Each Apart (if b then moments_by (stretch_moments sys steps (sys.admit s p)) (settled_turn sys (sys.admit s p) true p) else stretch_moments sys steps s p) →
          Each ReadyIn (if b then moments_by (stretch_moments sys steps (sys.admit s p)) (settled_turn sys (sys.admit s p) true p) else stretch_moments sys steps s p) × AtEnd (if b then node_at (sys.admit s p) (stretch sys steps (sys.admit s p)) (settled_turn sys (sys.admit s p) true p) else stretch sys steps s p)
      by true a = let n = stays.admit s p q r in ready_by (sys.admit s p) (stretch_moments sys steps (sys.admit s p)) (stretch sys steps (sys.admit s p)) (settled_turn sys (sys.admit s p) true p) n a (λ x b. stretch_ready steps (sys.admit s p) x n b)
      by false a = stretch_ready steps s p r a

  moments_later : (steps : ℕ) (s : S) (p : ℕ) → AnyOf ReadyIn (moments sys steps s p) → Each Apart (moments sys steps s p) → AtEnd (chosen sys steps s p)
  unfolding moments chosen
  moments_later steps s p y a = by (sys.is_pending s) y a
    where
      by : (b : Bool) → AnyOf ReadyIn (if b then moments_by (stretch_moments sys steps (sys.admit s p)) (settled_turn sys (sys.admit s p) true p) else stretch_moments sys steps s p) → Each Apart (if b then moments_by (stretch_moments sys steps (sys.admit s p)) (settled_turn sys (sys.admit s p) true p) else stretch_moments sys steps s p) →
          AtEnd (if b then node_at (sys.admit s p) (stretch sys steps (sys.admit s p)) (settled_turn sys (sys.admit s p) true p) else stretch sys steps s p)
      by true y a = later_by (sys.admit s p) (stretch_moments sys steps (sys.admit s p)) (stretch sys steps (sys.admit s p)) (settled_turn sys (sys.admit s p) true p) y a (λ x z b. stretch_later steps (sys.admit s p) x z b)
      by false y a = stretch_later steps s p y a

  module _ (steps : ℕ) where
    along_ready : (word : List ℕ) (x : Node S) (t : S) → AtEnd x → Each Apart (moments_along sys steps x word) → node_after sys steps x word ≡ Some (Choosing t) → Each ReadyIn (moments_along sys steps x word) × Ready t
    along_ready [] x t r a e = (tt, subst AtEnd (some_same x (Choosing t) e) r)
    along_ready (p ∷ word) (Halted kind s) t r a e = absurd (cc)
    along_ready (p ∷ word) (Choosing s) t r a e =
        let m = moments_ready steps s p r (each_left Apart (moments sys steps s p) (moments_along sys steps (chosen sys steps s p) word) a) in
        let rest = along_ready word (chosen sys steps s p) t m.1 (each_right Apart (moments sys steps s p) (moments_along sys steps (chosen sys steps s p) word) a) (after_first sys steps s p word (Choosing t) e).1 in
        (each_append ReadyIn (moments sys steps s p) (moments_along sys steps (chosen sys steps s p) word) m.0 rest.0, rest.1)

    along_later : (word : List ℕ) (x : Node S) (t : S) → AnyOf Ready (states_along sys steps x word) ⊎ AnyOf ReadyIn (moments_along sys steps x word) → Each Apart (moments_along sys steps x word) → node_after sys steps x word ≡ Some (Choosing t) → Ready t
    along_later [] x t (inl y) a e = absurd y
    along_later [] x t (inr y) a e = absurd y
    along_later (p ∷ word) (Halted kind s) t y a e = absurd (cc)
    along_later (p ∷ word) (Choosing s) t (inl (inl r)) a e = (along_ready (p ∷ word) (Choosing s) t r a e).1
    along_later (p ∷ word) (Choosing s) t (inl (inr y)) a e = along_later word (chosen sys steps s p) t (inl y) (each_right Apart (moments sys steps s p) (moments_along sys steps (chosen sys steps s p) word) a) (after_first sys steps s p word (Choosing t) e).1
    along_later (p ∷ word) (Choosing s) t (inr y) a e =
        let later = each_right Apart (moments sys steps s p) (moments_along sys steps (chosen sys steps s p) word) a in
        ⊎_elim
        (λ (now : AnyOf ReadyIn (moments sys steps s p)). (along_ready word (chosen sys steps s p) t (moments_later steps s p now (each_left Apart (moments sys steps s p) (moments_along sys steps (chosen sys steps s p) word) a)) later (after_first sys steps s p word (Choosing t) e).1).1)
        (λ (rest : AnyOf ReadyIn (moments_along sys steps (chosen sys steps s p) word)). along_later word (chosen sys steps s p) t (inr rest) later (after_first sys steps s p word (Choosing t) e).1)
        (any_split ReadyIn (moments sys steps s p) (moments_along sys steps (chosen sys steps s p) word) y)

  not_served : (ms : List (Moment S)) → Each Apart ms → Each ReadyIn ms → IsServed sys q ms → ⊥
  not_served [] a r s = s
  not_served (m ∷ ms) a r (inl (inl e)) = a.0 e
  not_served (m ∷ ms) a r (inl (inr e)) = absurd (let bad : true ≡ false = sym r.0 ∙ e in cc)
  not_served (m ∷ ms) a r (inr s) = not_served ms a.1 r.1 s

pub ready_rounds : {S : Type 0} (sys : System S) → ReadyRoundLaw sys
ready_rounds sys stays q steps s word back anywhere apart served =
    let home = along_later sys stays q steps word (Choosing s) s anywhere apart back in
    let all = along_ready sys stays q steps word (Choosing s) s home apart back in
    not_served sys stays q (moments_along sys steps (Choosing s) word) apart all.0 served

pub ready_served : {S : Type 0} (sys : System S) → ReadyServedLaw sys
ready_served {S} sys q m ms test = by (sys.is_ready m.state q) refl
  where
    moved : (xs : List (Moment S)) → AnyOf (λ x. x.mover ≡ q) xs → IsServed sys q xs
    moved [] a = a
    moved (x ∷ xs) (inl e) = inl (inl e)
    moved (x ∷ xs) (inr a) = inr (moved xs a)

    by : (b : Bool) → sys.is_ready m.state q ≡ b → IsServed sys q (m ∷ ms)
    by true e = moved (m ∷ ms) (test (inl e))
    by false e = inl (inr e)
