-- What is followed is followed still when more is found; one stretch more, one state more, one choice more.
use Rattle.std.proofs.Common.{◌≡◌, ◌∙◌, inl, inr, ◌+◌, ◌<◌, ◌≤◌, ℕ, zero, suc, List, [], ◌∷◌, ◌++◌, Bool, true, false, if◌then◌else◌, length, Some, refl, sym, ap, subst, arith}
use Rattle.cp_at_once.proofs.Words.{slice_get, Tables, Shown, Machine, Goal, Place, ArrivesAt, LeadsToPlace, LeadsToEnd, ShowsLast, same_key, SlotArrival}
use Rattle.cp_at_once.proofs.Words.{has, End, HasWord, Holds, IsWordOf, FoundAtOnce, OriginAtOnce}
use Rattle.std.proofs.lemmas.List.{length-append}
use Rattle.std.proofs.lemmas.List.Elements.{All-push, All-weaker}
use Rattle.cp_ends.specs.Graph as graph
use Rattle.cp_ends.proofs.Keeping.{get_more}
use Rattle.cp_ends.proofs.words.Translated.{arrival_on}
use Rattle.cp_at_once.specs.Following.{Follows, GoesOn, Grows, IsDone, IsGone, IsKept, IsKnownGoal, NotesArrival, SlotGraph}
use Rattle.cp_at_once.specs.Holds.{AreKept}
use Rattle.cp_at_once.specs.declared.kept.Kept.{Kept}
use Rattle.cp_at_once.specs.ByRows.{KeepStore, with_store}
use Rattle.cp_ends.specs.declared.states.States.{States as Store}
use Rattle.cp_at_once.proofs.Keeping.{kept_on, word_grows}
use Rattle.cp_at_once.proofs.Noting.{grows_on, grows_same}

abbrev pub States : Type 0
States = List (Machine × List ℕ)

-- ---- followed still

module _ (g : SlotGraph) (Leg : Machine → ℕ → Type 0) (f : FoundAtOnce) (a : States) (h : FoundAtOnce) (b : States) (m : Grows f a h b) where
  goal_grows : (P Q : Machine → Type 0) → ((s : Machine) → P s → Q s) → (o : Goal Machine End) → IsKnownGoal f P o → IsKnownGoal h Q o
  goal_grows P Q on (Place s) k = on s k
  goal_grows P Q on (graph.End e) k = m.ends e k

  gone_by : (P Q : Machine → Type 0) → ((s : Machine) → P s → Q s) → (x : SlotArrival) → IsGone f P x → IsGone h Q x
  gone_by P Q on x k = record { goal = goal_grows P Q on x.goal k.goal; shown = λ v c. m.values v (k.shown v c) }

  pub follows_still : (c : ℕ) (s : Machine) → Follows g Leg f a c s → Follows g Leg h b c s
  follows_still zero s k = m.kept s k
  follows_still (suc c) s (inl k) = inl (m.kept s k)
  follows_still (suc c) s (inr k) = inr (k.0, k.1, k.2, gone_by (Follows g Leg f a c) (Follows g Leg h b c) (follows_still c) (g.on s k.0) k.3)

  pub gone_still : (c : ℕ) (x : SlotArrival) → IsGone f (Follows g Leg f a c) x → IsGone h (Follows g Leg h b c) x
  gone_still c x k = gone_by (Follows g Leg f a c) (Follows g Leg h b c) (follows_still c) x k

  pub done_still : (c : ℕ) (s : Machine) → IsDone g Leg c f a s → IsDone g Leg c h b s
  done_still c s k = λ p may. gone_still c (g.on s p) (k p may)

-- a kept state is followed
pub kept_follows : (g : SlotGraph) (Leg : Machine → ℕ → Type 0) (f : FoundAtOnce) (a : States) (c : ℕ) (s : Machine) → has same_key a s ≡ true → Follows g Leg f a c s
kept_follows g Leg f a zero s k = k
kept_follows g Leg f a (suc c) s k = inl k

-- ---- words

pub words_still : (a b : States) → ((i : ℕ) (x : Machine × List ℕ) → slice_get a i ≡ Some x → slice_get b i ≡ Some x) → (o : OriginAtOnce) (P : List ℕ → Type 0) → HasWord a o P → HasWord b o P
words_still a b on o P h = (h.0, word_grows a b o h.0 on h.1, h.2)

-- ---- a state more

-- the same states, which the code keeps in another way
pub kept_else : (r : Tables) (g : SlotGraph) (most : ℕ) (found : FoundAtOnce) (states : States) → Holds r g most found states → (kept : Kept) → AreKept r kept states → Holds r g most (record found { kept = kept }) states
kept_else r g most found states h kept are = record { kept = are; few = h.few; reached = h.reached; ends = h.ends; values = h.values }

-- with another store
pub store_else : (r : Tables) (g : SlotGraph) (most : ℕ) (found : FoundAtOnce) (states : States) → Holds r g most found states → (store : Store) → KeepStore r found.kept.store store → Holds r g most (with_store found store) states
store_else r g most found states h store stays = kept_else r g most found states h (record found.kept { store = store }) (kept_on r found.kept states h.kept store stays)

module _ (r : Tables) (g : SlotGraph) (most : ℕ) (found : FoundAtOnce) (store : Store) (after : FoundAtOnce) (is : after ≡ with_store found store) where
  pub stored : KeepStore r found.kept.store store → (states : States) → Holds r g most found states → Holds r g most after states
  stored stays states h = subst (λ (f : FoundAtOnce). Holds r g most f states) (sym is) (store_else r g most found states h store stays)

  -- what is kept from there on is kept from here on
  pub kept_from : (states : States) (last : FoundAtOnce) (m : Machine) (is_room : Bool) → IsKept r g most after states last m is_room → IsKept r g most found states last m is_room
  kept_from states last m is_room k = by is_room (subst (λ (f : FoundAtOnce). IsKept r g most f states last m is_room) is k)
    where
      by : (b : Bool) → IsKept r g most (with_store found store) states last m b → IsKept r g most found states last m b
      by true i = (i.0, i.1, record { ends = λ e j. i.2.ends e j; values = λ v j. i.2.values v j; kept = i.2.kept; places = i.2.places }, i.3)
      by false i = i

module _ (r : Tables) (g : SlotGraph) (most : ℕ) (found : FoundAtOnce) (states : States) (h : Holds r g most found states) (m : Machine) (word : List ℕ) (leads : LeadsToPlace g m word) (new : has same_key states m ≡ false) where
  abbrev more : States
  more = states ++ (m, word) ∷ []

  places : (i : ℕ) (x : Machine × List ℕ) → slice_get states i ≡ Some x → slice_get more i ≡ Some x
  places i x at = get_more states (m, word) i x at

  has_more : (xs : States) (k : Machine) → has same_key xs k ≡ true → has same_key (xs ++ (m, word) ∷ []) k ≡ true
  has_more [] k e = absurd (cc)
  has_more (x ∷ xs) k e = by (same_key x.0 k) e (has_more xs k)
    where
      by : (t : Bool) → (if t then true else has same_key xs k) ≡ true → (has same_key xs k ≡ true → has same_key (xs ++ (m, word) ∷ []) k ≡ true) → (if t then true else has same_key (xs ++ (m, word) ∷ []) k) ≡ true
      by true e on = refl
      by false e on = on e

  has_last : (xs : States) → same_key m m ≡ true → has same_key (xs ++ (m, word) ∷ []) m ≡ true
  has_last [] e = ap (λ t. if t then true else false) e
  has_last (x ∷ xs) e = by (same_key x.0 m) (has_last xs e)
    where
      by : (t : Bool) → has same_key (xs ++ (m, word) ∷ []) m ≡ true → (if t then true else has same_key (xs ++ (m, word) ∷ []) m) ≡ true
      by true on = refl
      by false on = on

  pub one_more : same_key m m ≡ true → length states < most → (kept : Kept) → AreKept r kept more → IsKept r g most found states (record found { kept = kept }) m true
  one_more self room kept are = (
    more,
    record {
      kept = are;
      few = (let l = length-append states ((m, word) ∷ []) in omega (arith, l, room));
      reached = All-push (λ x. LeadsToPlace g x.0 x.1) states (m, word) h.reached leads;
      ends = All-weaker (λ e. HasWord states e.origin (LeadsToEnd g e.end)) (λ e. HasWord more e.origin (LeadsToEnd g e.end)) (λ e k. words_still states more places e.origin (LeadsToEnd g e.end) k) found.ends.items h.ends;
      values = All-weaker (λ v. HasWord states v.origin (ShowsLast g v.value)) (λ v. HasWord more v.origin (ShowsLast g v.value)) (λ v k. words_still states more places v.origin (ShowsLast g v.value) k) found.values.items h.values;
    },
    record { ends = λ e k. k; values = λ v k. k; kept = λ s k. has_more states s k; places = places },
    has_last states self,
  )

  pub one_too_many : most ≤ length states → (kept : Kept) → AreKept r kept states → IsKept r g most found states (record found { kept = kept }) m false
  one_too_many full kept are = (kept_else r g most found states h kept are, record { state = m; word = word; leads = leads; new = new; full = full })

pub known_again : (r : Tables) (g : SlotGraph) (most : ℕ) (found : FoundAtOnce) (states : States) (m : Machine) → Holds r g most found states → (kept : Kept) → AreKept r kept states → has same_key states m ≡ true → IsKept r g most found states (record found { kept = kept }) m true
known_again r g most found states m h kept are there = (states, kept_else r g most found states h kept are, record { ends = λ e k. k; values = λ v k. k; kept = λ s k. k; places = λ i x at. at }, there)

-- ---- an arrival

module _ (r : Tables) (g : SlotGraph) (Leg : Machine → ℕ → Type 0) (most : ℕ) where
  -- From `before` on so much was found, and the arrival b is to be expanded with c legs in a row at most, so that a is expanded.
  pub record Going (before : FoundAtOnce) (states : States) (now : FoundAtOnce) (a : SlotArrival) (goal : Goal Machine End) (told : List Shown) (o : OriginAtOnce) (made : ℕ) : Type 0 where
    pub more : States
    pub word : List ℕ
    pub here : SlotArrival
    pub left : ℕ
    pub count : made + left ≡ 8
    pub holds : Holds r g most now more
    pub grows : Grows before states now more
    pub is_word : IsWordOf more o word
    pub arrives : ArrivesAt g word here
    pub to : goal ≡ here.goal
    pub shows : told ≡ here.shown
    pub onward : (after : FoundAtOnce) (last : States) → Grows now more after last → IsGone after (Follows g Leg after last left) here → IsGone after (Follows g Leg after last 8) a

  pub going_first : (before : FoundAtOnce) (states : States) (a : SlotArrival) (goal : Goal Machine End) (told : List Shown) (o : OriginAtOnce) (word : List ℕ) → Holds r g most before states → IsWordOf states o word → ArrivesAt g word a → goal ≡ a.goal → told ≡ a.shown → Going before states before a goal told o 0
  going_first before states a goal told o word h is arrives to shows =
      record { more = states; word = word; here = a; left = 8; count = refl; holds = h; grows = grows_same before states; is_word = is; arrives = arrives; to = to; shows = shows; onward = λ after last m k. k }

  -- with another store
  pub going_on : (before : FoundAtOnce) (states : States) (now : FoundAtOnce) (a : SlotArrival) (goal : Goal Machine End) (told : List Shown) (o : OriginAtOnce) (made : ℕ) → Going before states now a goal told o made → (store : Store) → KeepStore r now.kept.store store → Going before states (with_store now store) a goal told o made
  going_on before states now a goal told o made x store stays =
      record {
        more = x.more;
        word = x.word;
        here = x.here;
        left = x.left;
        count = x.count;
        holds = store_else r g most now x.more x.holds store stays;
        grows = record { ends = λ e k. x.grows.ends e k; values = λ v k. x.grows.values v k; kept = x.grows.kept; places = x.grows.places };
        is_word = x.is_word;
        arrives = x.arrives;
        to = x.to;
        shows = x.shows;
        onward = λ after last m k. x.onward after last (record { ends = λ e i. m.ends e i; values = λ v i. m.values v i; kept = m.kept; places = m.places }) k;
      }

  pub going_stored : (before : FoundAtOnce) (states : States) (now : FoundAtOnce) (a : SlotArrival) (goal : Goal Machine End) (told : List Shown) (o : OriginAtOnce) (made : ℕ) (store : Store) (after : FoundAtOnce) → after ≡ with_store now store → KeepStore r now.kept.store store → Going before states now a goal told o made → Going before states after a goal told o made
  going_stored before states now a goal told o made store after is stays x = subst (λ (f : FoundAtOnce). Going before states f a goal told o made) (sym is) (going_on before states now a goal told o made x store stays)

  module _ (before : FoundAtOnce) (states : States) (now mid : FoundAtOnce) (a : SlotArrival) (goal : Goal Machine End) (told : List Shown) (o : OriginAtOnce) (made : ℕ) (x : Going before states now a goal told o made) (noted : NotesArrival r g most now x.more mid x.here) where
    -- at an end
    pub at_end : (e : End) → goal ≡ graph.End e → GoesOn r g Leg most 8 before states mid a true
    at_end e is =
        (x.more, noted.0, grows_on before now mid states x.more x.more x.grows noted.1, x.onward mid x.more noted.1 (record { goal = known; shown = noted.2 }))
      where
        known : IsKnownGoal mid (Follows g Leg mid x.more x.left) x.here.goal
        known = subst (IsKnownGoal mid (Follows g Leg mid x.more x.left)) (sym is ∙ x.to) (noted.3 e (sym x.to ∙ is))

    -- at a choice that is kept
    pub at_kept : (m : Machine) → goal ≡ Place m → (after : FoundAtOnce) (is_room : Bool) → IsKept r g most mid x.more after m is_room → GoesOn r g Leg most 8 before states after a is_room
    at_kept m is after false k = (x.more, k.0, k.1)
    at_kept m is after true k =
        let mids : Grows mid x.more after k.0 = k.2 in
        let all : Grows now x.more after k.0 = grows_on now mid after x.more x.more k.0 noted.1 mids in (
          k.0,
          k.1,
          grows_on before now after states x.more k.0 x.grows all,
          x.onward after k.0 all (record { goal = subst (IsKnownGoal after (Follows g Leg after k.0 x.left)) (sym is ∙ x.to) (kept_follows g Leg after k.0 x.left m k.3); shown = λ v c. mids.values v (noted.2 v c) }),
        )

    -- at a choice where a leg is made at once
    module _ (m : Machine) (is : goal ≡ Place m) (p : ℕ) (may : g.may m p ≡ true) (leg : Leg m p) (made_less : made < 8) where
      leads : LeadsToPlace g m x.word
      leads = (x.here, x.arrives, sym x.to ∙ is)

      left_of : (c : ℕ) → made + c ≡ 8 → (d : ℕ) × (c ≡ suc d) × (made + 1 + d ≡ 8)
      left_of zero e = absurd (omega (arith, e, made_less))
      left_of (suc d) e = (d, refl, omega (arith, e))

      pub at_leg : (o2 : OriginAtOnce) (goal2 : Goal Machine End) (told2 : List Shown) → IsWordOf x.more o2 (x.word ++ p ∷ []) → goal2 ≡ (g.on m p).goal → told2 ≡ (g.on m p).shown → Going before states mid a goal2 told2 o2 (made + 1)
      at_leg o2 goal2 told2 word2 to2 shows2 =
          let d = left_of x.left x.count in
          record {
            more = x.more;
            word = x.word ++ p ∷ [];
            here = g.on m p;
            left = d.0;
            count = d.2;
            holds = noted.0;
            grows = grows_on before now mid states x.more x.more x.grows noted.1;
            is_word = word2;
            arrives = arrival_on g x.word p g.start x.here m x.arrives (sym x.to ∙ is) may;
            to = to2;
            shows = shows2;
            onward = λ after last grow gone.
                x.onward after last (grows_on now mid after x.more x.more last noted.1 grow)
                (record {
                  goal = subst (IsKnownGoal after (Follows g Leg after last x.left)) (sym is ∙ x.to) (subst (λ c. Follows g Leg after last c m) (sym d.1) (inr (p, may, leg, gone)));
                  shown = λ v c. grow.values v (noted.2 v c);
                });
          }

  -- no leg is made at once, or so many were: the state is led to
  pub leads_to : (before : FoundAtOnce) (states : States) (now : FoundAtOnce) (a : SlotArrival) (goal : Goal Machine End) (told : List Shown) (o : OriginAtOnce) (made : ℕ) (x : Going before states now a goal told o made) (m : Machine) → goal ≡ Place m → LeadsToPlace g m x.word
  leads_to before states now a goal told o made x m is = (x.here, x.arrives, sym x.to ∙ is)
