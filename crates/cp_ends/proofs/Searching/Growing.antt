-- What was found stays found, and keeps its number, as words arrive and places are expanded.
use Rattle.std.proofs.Common.{◌≡◌, ◌⊎◌, inl, inr, ◌<◌, ◌≤◌, ℕ, zero, suc, Bool, true, false, List, [], ◌∷◌, ◌++◌, length, ap, sym, ◌∙◌, subst, arith}
use Rattle.std.specs.Prelude.{Option, Some, None, slice_get, if◌then◌else◌}
use Rattle.std.proofs.lemmas.Bool.{cases_lt}
use Rattle.std.proofs.lemmas.Option.{slice_get_past}
use Rattle.cp_ends.specs.Graph.{Goal, Place, End, Arrival, Graph}
use Rattle.cp_ends.specs.Searched.{Findings, Grows, Tests, with_goal, with_values, arrived, gone_on, gone_on_from, searched}
use Rattle.cp_ends.proofs.Searching.Lists.{grown_at, grown_length, grows_joined, grows_same}
use Rattle.cp_ends.proofs.Searching.Adding.{IsKept, first_grows, kept_stays}

-- what was found stays found
pub record Extends {S E V : Type 0} (t : Tests S E V) (f h : Findings S E V) : Type 0 where
  pub states : Grows f.states h.states
  pub ends : Grows f.ends h.ends
  pub values : (v : V) (w : List ℕ) → IsKept t.most f.values v w → IsKept t.most h.values v w

-- the values of an arrival are added before its goal
abbrev pub with_shown : {S E V : Type 0} → Tests S E V → Findings S E V → List ℕ → Arrival S E V → Findings S E V
with_shown t f w a = record f { values = with_values t.value t.most f.values a.shown w }

module _ {S E V : Type 0} (t : Tests S E V) where
  pub extends_same : (f : Findings S E V) → Extends t f f
  extends_same f = record { states = grows_same f.states; ends = grows_same f.ends; values = λ v w h. h }

  pub extends_joined : (f h k : Findings S E V) → Extends t f h → Extends t h k → Extends t f k
  extends_joined f h k a b =
      record {
        states = grows_joined f.states h.states k.states a.states b.states;
        ends = grows_joined f.ends h.ends k.ends a.ends b.ends;
        values = λ v w is. b.values v w (a.values v w is);
      }

  pub shown_extends : (f : Findings S E V) (w : List ℕ) (a : Arrival S E V) → Extends t f (with_shown t f w a)
  shown_extends f w a = record { states = grows_same f.states; ends = grows_same f.ends; values = λ v u. kept_stays t.value t.most f.values a.shown w v u }

  pub goal_extends : (f : Findings S E V) (w : List ℕ) (o : Goal S E) → Extends t f (with_goal t f w o)
  goal_extends f w (Place s) = record { states = first_grows t.state f.states s w; ends = grows_same f.ends; values = λ v u h. h }
  goal_extends f w (End e) = record { states = grows_same f.states; ends = first_grows t.end f.ends e w; values = λ v u h. h }

  pub arrived_extends : (f : Findings S E V) (w : List ℕ) (a : Arrival S E V) → Extends t f (arrived t f w a)
  arrived_extends f w a = extends_joined f (with_shown t f w a) (arrived t f w a) (shown_extends f w a) (goal_extends (with_shown t f w a) w a.goal)

module _ {S E V : Type 0} (g : Graph S E V) (t : Tests S E V) where
  pub going_extends : (x : S × List ℕ) (n : ℕ) (f : Findings S E V) → Extends t f (gone_on g t x n f)
  going_extends x zero f = extends_same t f
  going_extends x (suc n) f = by (g.may x.0 n) (going_extends x n f)
    where
      by : (m : Bool) → Extends t f (gone_on g t x n f) → Extends t f (if m then arrived t (gone_on g t x n f) (x.1 ++ n ∷ []) (g.on x.0 n) else gone_on g t x n f)
      by true on = extends_joined t f (gone_on g t x n f) (arrived t (gone_on g t x n f) (x.1 ++ n ∷ []) (g.on x.0 n)) on (arrived_extends t (gone_on g t x n f) (x.1 ++ n ∷ []) (g.on x.0 n))
      by false on = on

  pub going_at : (x : S × List ℕ) (n : ℕ) (f : Findings S E V) (i : ℕ) (y : S × List ℕ) → slice_get f.states i ≡ Some y → slice_get (gone_on g t x n f).states i ≡ Some y
  going_at x n f i y at = grown_at f.states (gone_on g t x n f).states i y (going_extends x n f).states at

  -- ---- one place more

  -- the place at n was expanded
  pub searched_on : (n : ℕ) (x : S × List ℕ) → slice_get (searched g t n).states n ≡ Some x → searched g t (suc n) ≡ gone_on g t x g.below (searched g t n)
  unfolding searched
  searched_on n x at = ap (λ o. gone_on_from g t o (searched g t n)) at

  -- there was none
  pub searched_over : (n : ℕ) → length (searched g t n).states ≤ n → searched g t (suc n) ≡ searched g t n
  unfolding searched
  searched_over n le = ap (λ o. gone_on_from g t o (searched g t n)) (slice_get_past (searched g t n).states n le)

  -- ---- places are kept

  pub searched_more : (n : ℕ) → Extends t (searched g t n) (searched g t (suc n))
  unfolding searched
  searched_more n = by (slice_get (searched g t n).states n)
    where
      by : (o : Option (S × List ℕ)) → Extends t (searched g t n) (gone_on_from g t o (searched g t n))
      by (Some x) = going_extends x g.below (searched g t n)
      by None = extends_same t (searched g t n)

  pub searched_extends : (n m : ℕ) → n ≤ m → Extends t (searched g t n) (searched g t m)
  searched_extends n zero le = let e : n ≡ 0 = omega (arith, le) in subst (λ k. Extends t (searched g t k) (searched g t 0)) (sym e) (extends_same t (searched g t 0))
  searched_extends n (suc m) le = by (searched_extends n m) (cases_lt m n)
    where
      by : (n ≤ m → Extends t (searched g t n) (searched g t m)) → (m < n) ⊎ (n ≤ m) → Extends t (searched g t n) (searched g t (suc m))
      by on (inl lt) = let e : n ≡ suc m = omega (arith, lt, le) in subst (λ k. Extends t (searched g t k) (searched g t (suc m))) (sym e) (extends_same t (searched g t (suc m)))
      by on (inr le) = extends_joined t (searched g t n) (searched g t m) (searched g t (suc m)) (on le) (searched_more m)

  -- a place keeps its number
  pub searched_at : (n m i : ℕ) (x : S × List ℕ) → n ≤ m → slice_get (searched g t n).states i ≡ Some x → slice_get (searched g t m).states i ≡ Some x
  searched_at n m i x le at = grown_at (searched g t n).states (searched g t m).states i x (searched_extends n m le).states at

  pub searched_length : (n m : ℕ) → n ≤ m → length (searched g t n).states ≤ length (searched g t m).states
  searched_length n m le = grown_length (searched g t n).states (searched g t m).states (searched_extends n m le).states

  -- when each place was expanded, nothing more is found
  pub searched_done : (n m : ℕ) → length (searched g t n).states ≤ n → n ≤ m → searched g t m ≡ searched g t n
  searched_done n zero done le = let e : n ≡ 0 = omega (arith, le) in ap (λ k. searched g t k) (sym e)
  searched_done n (suc m) done le = by (searched_done n m done) (cases_lt m n)
    where
      by : (n ≤ m → searched g t m ≡ searched g t n) → (m < n) ⊎ (n ≤ m) → searched g t (suc m) ≡ searched g t n
      by on (inl lt) = let e : n ≡ suc m = omega (arith, lt, le) in ap (λ k. searched g t k) (sym e)
      by on (inr low) =
          let same = on low in
          let few : length (searched g t m).states ≡ length (searched g t n).states = ap (λ (f : Findings S E V). length f.states) same in
          searched_over m (omega (arith, few, done, low)) ∙ same
