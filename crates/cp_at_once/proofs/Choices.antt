-- What was gone through is so still when more is found; a choice more, and a kept state more.
use Rattle.std.proofs.Common.{◌≡◌, ◌∙◌, ◌⊎◌, inl, inr, ◌+◌, ◌<◌, ◌≤◌, ◌==◌, ℕ, List, [], ◌∷◌, ◌++◌, Bool, true, false, length, get_or, None, Some, sym, ap, subst, arith}
use Rattle.std.specs.Prelude.{Contains}
use Rattle.cp_at_once.proofs.Words.{slice_get, same_Some, slice_get_cases, slice_get_within, All-weaker, Tables, Machine, may, Shown, Goal, ArrivesAt}
use Rattle.cp_at_once.proofs.Words.{LeadsToPlace, SlotArrival, End, all_at, Holds, IsWordOf, FoundAtOnce, OriginAtOnce}
use Rattle.std.proofs.lemmas.Bool.{cases_order}
use Rattle.std.proofs.lemmas.List.Elements.{All-contains, All-push}
use Rattle.std.proofs.lemmas.Map.Views.{Contains-from_any}
use Rattle.cp_run.specs.Run.{those_below}
use Rattle.cp_run.specs.System.{System}
use Rattle.cp_run.proofs.Wanting.{any_wanted}
use Rattle.cp_ends.proofs.words.Returns.{number}
use Rattle.cp_ends.proofs.words.Translated.{arrival_on}
use Rattle.cp_at_once.specs.Following.{Answers, Follows, GoesOn, GoesThrough, Grows, IsDone, IsGone, IsGoneThrough, SlotGraph, Within}
use Rattle.cp_at_once.specs.ByRows.{KeepStore, with_store}
use Rattle.cp_at_once.specs.declared.kept.Kept.{Kept}
use Rattle.cp_ends.specs.declared.states.States.{States as Store}
use Rattle.cp_at_once.proofs.Following.{States, done_still, gone_still, store_else}
use Rattle.cp_at_once.proofs.Keeping.{word_choice}

-- a due choice may take one of those
pub is_among : {S : Type 0} (sys : System S) (s : S) (p : ℕ) → may sys s p ≡ true → Contains (those_below sys.processes (may sys s)) p
is_among sys s p h = Contains-from_any {eq = λ q y. y == q} (λ x y e. sym (number y x e)) p (those_below sys.processes (may sys s)) (any_wanted sys s p ∙ h)

module _ (r : Tables) (g : SlotGraph) (Leg : Machine → ℕ → Type 0) (most : ℕ) where
  through_still : (f : FoundAtOnce) (a : States) (h : FoundAtOnce) (b : States) → Grows f a h b → (n : ℕ) → n ≤ length a → IsGoneThrough g Leg 8 n f a → IsGoneThrough g Leg 8 n h b
  through_still f a h b m n few t = record { start = gone_still g Leg f a h b m 8 g.start t.start; on = λ i x less at. by i x less at (slice_get_cases a i).1 }
    where
      by : (i : ℕ) (x : Machine × List ℕ) → i < n → slice_get b i ≡ Some x → ((z : Machine × List ℕ) × (i < length a) × (slice_get a i ≡ Some z) × (get_or a i z ≡ z)) ⊎ ((length a ≤ i) × (slice_get a i ≡ None)) → IsDone g Leg 8 h b x.0
      by i x less at (inl z) = subst (λ (w : Machine × List ℕ). IsDone g Leg 8 h b w.0) (same_Some z.0 x (sym (m.places i z.0 z.2) ∙ at)) (done_still g Leg f a h b m 8 z.0.0 (t.on i z.0 less z.2))
      by i x less at (inr past) = let far = past.0 in absurd (omega (arith, few, far, less))

  -- what was gone through is so where the code keeps the same states in another way
  pub kept_through : (f : FoundAtOnce) (n : ℕ) (states : States) → IsGoneThrough g Leg 8 n f states → (kept : Kept) → IsGoneThrough g Leg 8 n (record f { kept = kept }) states
  kept_through f n states t kept =
      let h : FoundAtOnce = record f { kept = kept } in
      let m : Grows f states h states = record { ends = λ e k. k; values = λ v k. k; kept = λ m k. k; places = λ i y k. k } in
      record { start = gone_still g Leg f states h states m 8 g.start t.start; on = λ i x less at. done_still g Leg f states h states m 8 x.0 (t.on i x less at) }

  -- so were some choices of a state
  pub within_else : (f : FoundAtOnce) (at : ℕ) (m : Machine) (done : List ℕ) → Within r g Leg most 8 f at m done → (store : Store) → KeepStore r f.kept.store store → Within r g Leg most 8 (with_store f store) at m done
  within_else f at m done x store stays =
      let h : FoundAtOnce = with_store f store in
      let grow : Grows f x.states h x.states = record { ends = λ e k. k; values = λ v k. k; kept = λ m k. k; places = λ i y k. k } in
      record {
        states = x.states;
        word = x.word;
        is = x.is;
        holds = store_else r g most f x.states x.holds store stays;
        through = kept_through f at x.states x.through (record f.kept { store = store });
        on = All-weaker (λ q. IsGone f (Follows g Leg f x.states 8) (g.on m q)) (λ q. IsGone h (Follows g Leg h x.states 8) (g.on m q)) (λ q was. gone_still g Leg f x.states h x.states grow 8 (g.on m q) was) done x.on;
      }

  -- ---- a choice is taken in a kept state

  module _ (f h : FoundAtOnce) (at : ℕ) (m : Machine) (done : List ℕ) (p : ℕ) (x : Within r g Leg most 8 f at m done) where
    -- by what holds of the arrival to which it leads
    pub choice_taken : g.may m p ≡ true → (o : OriginAtOnce) → o.state ≡ Some at → o.numbers.items ≡ p ∷ [] → (goal : Goal Machine End) (told : List Shown) → goal ≡ (g.on m p).goal → told ≡ (g.on m p).shown → (is_room : Bool) →
        ((states : States) (word : List ℕ) (a : SlotArrival) → Holds r g most f states → IsWordOf states o word → ArrivesAt g word a → goal ≡ a.goal → told ≡ a.shown → GoesOn r g Leg most 8 f states h a is_room) → GoesOn r g Leg most 8 f x.states h (g.on m p) is_room
    choice_taken may o state numbers goal told to shows is_room on =
        let leads : LeadsToPlace g m x.word = all_at (λ y. LeadsToPlace g y.0 y.1) x.states at (m, x.word) x.holds.reached x.is in
        on x.states (x.word ++ p ∷ []) (g.on m p) x.holds (word_choice x.states o at p (m, x.word) x.is state numbers) (arrival_on g x.word p g.start leads.0 m leads.1 leads.2 may) to shows

    pub within_more : (is_room : Bool) → is_room ≡ true → GoesOn r g Leg most 8 f x.states h (g.on m p) is_room → Within r g Leg most 8 h at m (done ++ p ∷ [])
    within_more false room k = absurd (cc)
    within_more true room k =
        let grow : Grows f x.states h k.0 = k.2 in
        let inside = slice_get_within x.states at (m, x.word) x.is in
        record {
          states = k.0;
          word = x.word;
          is = grow.places at (m, x.word) x.is;
          holds = k.1;
          through = through_still f x.states h k.0 grow at (omega (arith, inside)) x.through;
          on = All-push (λ q. IsGone h (Follows g Leg h k.0 8) (g.on m q)) done p (All-weaker (λ q. IsGone f (Follows g Leg f x.states 8) (g.on m q)) (λ q. IsGone h (Follows g Leg h k.0 8) (g.on m q)) (λ q was. gone_still g Leg f x.states h k.0 grow 8 (g.on m q) was) done x.on) k.3;
        }

    pub stops_here : (is_room : Bool) → is_room ≡ false → GoesOn r g Leg most 8 f x.states h (g.on m p) is_room → Answers r g Leg most 8 h false
    stops_here true full k = absurd (cc)
    stops_here false full k = k

  -- ---- kept states

  -- one more was expanded
  pub through_more : (f : FoundAtOnce) (at : ℕ) (m : Machine) (done : List ℕ) → Within r g Leg most 8 f at m done → ((p : ℕ) → g.may m p ≡ true → Contains done p) → GoesThrough r g Leg most 8 (at + 1) f
  through_more f at m done x all = (x.states, x.holds, record { start = x.through.start; on = λ i y less there. by i y there (cases_order i at) less })
    where
      by : (i : ℕ) (y : Machine × List ℕ) → slice_get x.states i ≡ Some y → (i ≡ at) ⊎ ((i < at) ⊎ (at < i)) → i < at + 1 → IsDone g Leg 8 f x.states y.0
      by i y there (inl is) less =
          subst (λ (w : Machine × List ℕ). IsDone g Leg 8 f x.states w.0) (same_Some (m, x.word) y (sym x.is ∙ ap (slice_get x.states) (sym is) ∙ there)) (λ p may. All-contains (λ q. IsGone f (Follows g Leg f x.states 8) (g.on m q)) done p x.on (all p may))
      by i y there (inr (inl before)) less = x.through.on i y before there
      by i y there (inr (inr beyond)) less = absurd (omega (arith, beyond, less))

  -- there is no further one
  pub through_all : (f : FoundAtOnce) (n : ℕ) → (x : GoesThrough r g Leg most 8 n f) → length x.0 ≤ n → Answers r g Leg most 8 f true
  through_all f n x few = (x.0, x.1, record { start = x.2.start; on = λ i y less at. x.2.on i y (omega (arith, less, few)) at })

  -- ---- what is found, whether it is said to be whole or not

  pub answers_marked : (f : FoundAtOnce) (w b : Bool) → Answers r g Leg most 8 f b → Answers r g Leg most 8 (record f { is_whole = w }) b
  answers_marked f w b x = by b x
    where
      marked : FoundAtOnce
      marked = record f { is_whole = w }

      holds : (states : States) → Holds r g most f states → Holds r g most marked states
      holds states h = record { kept = h.kept; few = h.few; reached = h.reached; ends = h.ends; values = h.values }

      grows : (states : States) → Grows f states marked states
      grows states = record { ends = λ e k. k; values = λ v k. k; kept = λ m k. k; places = λ i y k. k }

      by : (b : Bool) → Answers r g Leg most 8 f b → Answers r g Leg most 8 marked b
      by true (states, h, t) = (states, holds states h, through_still f states marked states (grows states) (length states) (omega arith) t)
      by false (states, h, many) = (states, holds states h, many)
