-- Words lead to what is found, and what is met where a word arrives is recorded, as words arrive and a place is expanded.
use Rattle.std.proofs.Common.{◌≡◌, inr, ⊎_elim, ◌<◌, ◌≤◌, ℕ, zero, suc, Bool, true, false, List, [], ◌∷◌, ◌++◌, length, refl, ap, sym, ◌∙◌, subst, arith}
use Rattle.std.specs.Prelude.{Contains, Decides, if◌then◌else◌}
use Rattle.std.proofs.lemmas.Bool.{cases_lt}
use Rattle.cp_ends.specs.Graph.{Goal, Place, End, Arrival, Graph, ArrivesAt, LeadsToPlace, LeadsToEnd, ShowsLast}
use Rattle.cp_ends.specs.Firsts.{is_up_to}
use Rattle.cp_ends.specs.Searched.{Findings, Tests, with_first, with_goal, arrived, gone_on}
use Rattle.cp_ends.proofs.Searching.Words.{up_to_same, up_to_push}
use Rattle.cp_ends.proofs.Searching.Lists.{Before, before_grown}
use Rattle.cp_ends.proofs.Searching.Adding.{AreGood, IsKept, Tells, first_before, first_good, good_later, values_few, values_good, values_kept}
use Rattle.cp_ends.proofs.Searching.Growing.{Extends, arrived_extends, goal_extends, with_shown}
use Rattle.cp_ends.proofs.Searching.Arrivals.{arrives_push}

-- the tests tell what is the same, of what words lead to
pub record AreExact {S E V : Type 0} (g : Graph S E V) (t : Tests S E V) : Type 0 where
  pub state : Tells (LeadsToPlace g) t.state
  pub end : Tells (LeadsToEnd g) t.end
  pub value : Tells (ShowsLast g) t.value

pub exact_tests : {S E V : Type 0} (g : Graph S E V) (t : Tests S E V) → ((a b : S) → Decides (t.state a b) (a ≡ b)) → ((a b : E) → Decides (t.end a b) (a ≡ b)) → ((a b : V) → Decides (t.value a b) (a ≡ b)) → AreExact g t
exact_tests g t states ends values = record { state = λ a b v w _ _. states a b; end = λ a b v w _ _. ends a b; value = λ a b v w _ _. values a b }

-- words lead to what was found, and the words go up to `last`
pub record IsSound {S E V : Type 0} (g : Graph S E V) (t : Tests S E V) (f : Findings S E V) (last : List ℕ) : Type 0 where
  pub states : AreGood (LeadsToPlace g) f.states last
  pub ends : AreGood (LeadsToEnd g) f.ends last
  pub values : AreGood (ShowsLast g) f.values last
  pub few : length f.values ≤ t.most

-- what is met at the arrival was found, with a word up to this one
pub record IsRecorded {S E V : Type 0} (t : Tests S E V) (f : Findings S E V) (w : List ℕ) (a : Arrival S E V) : Type 0 where
  pub place : (s : S) → a.goal ≡ Place s → Before f.states s w
  pub end : (e : E) → a.goal ≡ End e → Before f.ends e w
  pub value : (v : V) → Contains a.shown v → IsKept t.most f.values v w

module _ {S E V : Type 0} (t : Tests S E V) where
  pub recorded_stays : (f h : Findings S E V) (w : List ℕ) (a : Arrival S E V) → Extends t f h → IsRecorded t f w a → IsRecorded t h w a
  recorded_stays f h w a more is =
      record {
        place = λ s e. before_grown f.states h.states s w more.states (is.place s e);
        end = λ e o. before_grown f.ends h.ends e w more.ends (is.end e o);
        value = λ v c. more.values v w (is.value v c);
      }

-- ---- one arrival

module _ {S E V : Type 0} (g : Graph S E V) (t : Tests S E V) (exact : AreExact g t) where
  pub sound_later : (f : Findings S E V) (v w : List ℕ) → is_up_to v w ≡ true → IsSound g t f v → IsSound g t f w
  sound_later f v w le h =
      record {
        states = good_later (LeadsToPlace g) f.states v w h.states le;
        ends = good_later (LeadsToEnd g) f.ends v w h.ends le;
        values = good_later (ShowsLast g) f.values v w h.values le;
        few = h.few;
      }

  pub shown_sound : (f : Findings S E V) (w : List ℕ) (a : Arrival S E V) → IsSound g t f w → ArrivesAt g w a → IsSound g t (with_shown t f w a) w
  shown_sound f w a h at =
      record {
        states = h.states;
        ends = h.ends;
        values = values_good (ShowsLast g) t.value exact.value t.most f.values a.shown w h.values (λ v c. (a, at, c));
        few = values_few t.value t.most f.values a.shown w h.few;
      }

  goal_sound : (f : Findings S E V) (w : List ℕ) (a : Arrival S E V) (o : Goal S E) → a.goal ≡ o → IsSound g t f w → ArrivesAt g w a → IsSound g t (with_goal t f w o) w
  goal_sound f w a (Place s) e h at = record { states = first_good (LeadsToPlace g) t.state exact.state f.states s w h.states (a, at, e); ends = h.ends; values = h.values; few = h.few }
  goal_sound f w a (End k) e h at = record { states = h.states; ends = first_good (LeadsToEnd g) t.end exact.end f.ends k w h.ends (a, at, e); values = h.values; few = h.few }

  goal_place : (f : Findings S E V) (w : List ℕ) (a : Arrival S E V) (o : Goal S E) (s : S) → a.goal ≡ o → o ≡ Place s → IsSound g t f w → ArrivesAt g w a → Before (with_goal t f w o).states s w
  goal_place f w a (Place r) s goal e h at = let same : r ≡ s = cc in subst (λ q. Before (with_first t.state f.states r w) q w) same (first_before (LeadsToPlace g) t.state exact.state f.states r w h.states (a, at, goal))
  goal_place f w a (End k) s goal e h at = cc

  goal_end : (f : Findings S E V) (w : List ℕ) (a : Arrival S E V) (o : Goal S E) (k : E) → a.goal ≡ o → o ≡ End k → IsSound g t f w → ArrivesAt g w a → Before (with_goal t f w o).ends k w
  goal_end f w a (Place r) k goal e h at = cc
  goal_end f w a (End r) k goal e h at = let same : r ≡ k = cc in subst (λ q. Before (with_first t.end f.ends r w) q w) same (first_before (LeadsToEnd g) t.end exact.end f.ends r w h.ends (a, at, goal))

  pub arrived_sound : (f : Findings S E V) (w : List ℕ) (a : Arrival S E V) → IsSound g t f w → ArrivesAt g w a → IsSound g t (arrived t f w a) w
  arrived_sound f w a h at = goal_sound (with_shown t f w a) w a a.goal refl (shown_sound f w a h at) at

  pub arrived_recorded : (f : Findings S E V) (w : List ℕ) (a : Arrival S E V) → IsSound g t f w → ArrivesAt g w a → IsRecorded t (arrived t f w a) w a
  arrived_recorded f w a h at =
      let sound = shown_sound f w a h at in
      record {
        place = λ s e. goal_place (with_shown t f w a) w a a.goal s refl e sound at;
        end = λ k e. goal_end (with_shown t f w a) w a a.goal k refl e sound at;
        value = λ v c. (goal_extends t (with_shown t f w a) w a.goal).values v w (values_kept (ShowsLast g) t.value exact.value t.most f.values a.shown w h.few h.values (λ u d. (a, at, d)) v c);
      }

  -- ---- the edges of a place

  one_later : (v : List ℕ) (n : ℕ) → is_up_to (v ++ n ∷ []) (v ++ suc n ∷ []) ≡ true
  one_later v n = up_to_push v v n (suc n) (up_to_same v) (inr (omega arith))

  pub going_sound : (x : S × List ℕ) (n : ℕ) (f : Findings S E V) → LeadsToPlace g x.0 x.1 → IsSound g t f (x.1 ++ 0 ∷ []) → IsSound g t (gone_on g t x n f) (x.1 ++ n ∷ [])
  going_sound x zero f leads h = h
  going_sound x (suc n) f leads h = by (g.may x.0 n) refl (going_sound x n f leads h)
    where
      by : (m : Bool) → g.may x.0 n ≡ m → IsSound g t (gone_on g t x n f) (x.1 ++ n ∷ []) → IsSound g t (if m then arrived t (gone_on g t x n f) (x.1 ++ n ∷ []) (g.on x.0 n) else gone_on g t x n f) (x.1 ++ suc n ∷ [])
      by true may on = sound_later (arrived t (gone_on g t x n f) (x.1 ++ n ∷ []) (g.on x.0 n)) (x.1 ++ n ∷ []) (x.1 ++ suc n ∷ []) (one_later x.1 n) (arrived_sound (gone_on g t x n f) (x.1 ++ n ∷ []) (g.on x.0 n) on (arrives_push g x.1 x.0 n leads may))
      by false may on = sound_later (gone_on g t x n f) (x.1 ++ n ∷ []) (x.1 ++ suc n ∷ []) (one_later x.1 n) on

  -- each edge that was taken is recorded
  pub going_recorded : (x : S × List ℕ) (n : ℕ) (f : Findings S E V) → LeadsToPlace g x.0 x.1 → IsSound g t f (x.1 ++ 0 ∷ []) → (p : ℕ) → p < n → g.may x.0 p ≡ true → IsRecorded t (gone_on g t x n f) (x.1 ++ p ∷ []) (g.on x.0 p)
  going_recorded x zero f leads h p lt may = absurd (omega (arith, lt))
  going_recorded x (suc n) f leads h p lt may = by (g.may x.0 n) refl (going_sound x n f leads h) (going_recorded x n f leads h p)
    where
      here : (m : Bool) → g.may x.0 n ≡ m → IsSound g t (gone_on g t x n f) (x.1 ++ n ∷ []) → p ≡ n → IsRecorded t (if m then arrived t (gone_on g t x n f) (x.1 ++ n ∷ []) (g.on x.0 n) else gone_on g t x n f) (x.1 ++ p ∷ []) (g.on x.0 p)
      here true m sound e = subst (λ q. IsRecorded t (arrived t (gone_on g t x n f) (x.1 ++ n ∷ []) (g.on x.0 n)) (x.1 ++ q ∷ []) (g.on x.0 q)) (sym e) (arrived_recorded (gone_on g t x n f) (x.1 ++ n ∷ []) (g.on x.0 n) sound (arrives_push g x.1 x.0 n leads m))
      here false m sound e = let no : ◌≡◌ {A = Bool} false true = sym m ∙ ap (λ q. g.may x.0 q) (sym e) ∙ may in cc

      before : (m : Bool) → IsRecorded t (gone_on g t x n f) (x.1 ++ p ∷ []) (g.on x.0 p) → IsRecorded t (if m then arrived t (gone_on g t x n f) (x.1 ++ n ∷ []) (g.on x.0 n) else gone_on g t x n f) (x.1 ++ p ∷ []) (g.on x.0 p)
      before true is = recorded_stays t (gone_on g t x n f) (arrived t (gone_on g t x n f) (x.1 ++ n ∷ []) (g.on x.0 n)) (x.1 ++ p ∷ []) (g.on x.0 p) (arrived_extends t (gone_on g t x n f) (x.1 ++ n ∷ []) (g.on x.0 n)) is
      before false is = is

      by : (m : Bool) → g.may x.0 n ≡ m → IsSound g t (gone_on g t x n f) (x.1 ++ n ∷ []) → (p < n → g.may x.0 p ≡ true → IsRecorded t (gone_on g t x n f) (x.1 ++ p ∷ []) (g.on x.0 p)) → IsRecorded t (if m then arrived t (gone_on g t x n f) (x.1 ++ n ∷ []) (g.on x.0 n) else gone_on g t x n f) (x.1 ++ p ∷ []) (g.on x.0 p)
      by m e sound on = ⊎_elim (λ (less : p < n). before m (on less may)) (λ (ge : n ≤ p). here m e sound (omega (arith, ge, lt))) (cases_lt p n)
