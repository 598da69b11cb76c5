-- What the code finds when words arrive, and when a state is expanded.
use Rattle.std.proofs.Common.{◌≡◌, ◌∙◌, ◌<◌, ◌≤◌, ℕ, zero, suc, Bool, true, false, if◌then◌else◌, List, [], ◌∷◌, ◌++◌, length, Option, None, Some, refl, sym, ap, subst, arith}
use Rattle.std.specs.Prelude.{Result, Ok, Err, IfOk, slice_get}
use Rattle.cp_ends.proofs.Vocabulary.{same_Some, slice_get_within, Tables, Machine, those_below, Goal, Place, End, Graph, has, with_first, arrived, gone_on}
use Rattle.cp_ends.proofs.Vocabulary.{searched, Found, Choice, States, Shown}
use Rattle.std.proofs.lemmas.List.{length-append}
use Rattle.cp_ends.specs.Answer.{ends_tests, Arrives, Comes, HasNumber, HoldsFew, IsDone, IsGoalAt, IsSearch, IsStopped, IsTooMany, Stops, has_room, with_shown}
use Rattle.cp_ends.specs.Searched.{Grows, nothing}
use Rattle.cp_ends.specs.Visited.{IsWhole, IsWithin, gone_with}
use Rattle.cp_search.specs.Searched.{IsSearched}
use Rattle.cp_ends.specs.Holds.{same_key, AreStates, Holds, IsBefore, IsNumberOf, IsWordOf, SlotArrival, SlotFindings}
use Rattle.cp_ends.specs.declared.end.End as code
use Rattle.cp_ends.specs.declared.found.Arrived.{Arrived}
use Rattle.cp_ends.specs.declared.found.Arrived.TheVariants.{At, Ended, Full}
use Rattle.cp_ends.proofs.Finding.{found_later}
use Rattle.cp_ends.proofs.Keeping.{owned}
use Rattle.cp_ends.specs.Rows.{IsQuiet}
use Rattle.cp_ends.proofs.Numbering.{at_end, numbered_known}
use Rattle.cp_ends.proofs.Searching.Growing.{arrived_extends, going_at, searched_done, searched_length, searched_on}
use Rattle.cp_ends.proofs.Searching.Lists.{grown_at, grows_joined, grows_same}

pub ok_to : {A E : Type 0} (r : Result A E) (P Q : A → Type 0) → IfOk r P → ((a : A) → P a → Q a) → IfOk r Q
ok_to (Ok a) P Q h f = f a h
ok_to (Err e) P Q h f = h

pub ok_both : {A E : Type 0} (r : Result A E) (P Q R : A → Type 0) → IfOk r P → IfOk r Q → ((a : A) → P a → Q a → R a) → IfOk r R
ok_both (Ok a) P Q R h k f = f a h k
ok_both (Err e) P Q R h k f = h

-- ---- a state

module _ (r : Tables) (most : ℕ) (found : Found) (f : SlotFindings) (m : Machine) (word : List ℕ) (h : HoldsFew r most found f) where
  pub state_known : (number : ℕ) → IsNumberOf f.states m (Some number) → (states : States) → AreStates r states f.states → Comes r most (record found { states = states }) f word (Place m) (At number)
  state_known number is states are =
      let e : with_first same_key f.states m word ≡ f.states = ap (λ b. if b then f.states else f.states ++ (m, word) ∷ []) (numbered_known f.states m number is) in (
        subst (λ ss. HoldsFew r most (record found { states = states }) (record f { states = ss })) (sym e) (record { holds = record { states = are; ends = h.holds.ends; values = h.holds.values }; few = h.few }),
        (is.0.1, ap (λ ss. slice_get ss number) e ∙ is.1 ∙ ap (λ (k : Machine). Some (k, is.0.1)) is.2),
      )

  pub state_full : has same_key f.states m ≡ false → most ≤ length f.states → (states : States) → AreStates r states f.states → Comes r most (record found { states = states }) f word (Place m) Full
  state_full new many states are = let few = h.few in (record { states = are; ends = h.holds.ends; values = h.holds.values }, (new, omega (arith, few, many)))

  pub state_new : has same_key f.states m ≡ false → (number : ℕ) → number ≡ length f.states → length f.states < most → (states : States) → AreStates r states (f.states ++ (m, word) ∷ []) → Comes r most (record found { states = states }) f word (Place m) (At number)
  state_new new number last room states are =
      let e : with_first same_key f.states m word ≡ f.states ++ (m, word) ∷ [] = ap (λ b. if b then f.states else f.states ++ (m, word) ∷ []) new in
      let more = length-append f.states ((m, word) ∷ []) in (
        subst (λ ss. HoldsFew r most (record found { states = states }) (record f { states = ss })) (sym e) (record { holds = record { states = are; ends = found_later f.states (m, word) _ f.ends h.holds.ends; values = found_later f.states (m, word) _ f.values h.holds.values }; few = omega (arith, more, room) }),
        (word, ap (λ ss. slice_get ss number) e ∙ ap (slice_get (f.states ++ (m, word) ∷ [])) last ∙ at_end f.states (m, word)),
      )

-- ---- an arrival

module _ (r : Tables) (most : ℕ) (found : Found) (f : SlotFindings) (word : List ℕ) (a : SlotArrival) where
  pub came_to : (o : Goal Machine code.End) → o ≡ a.goal → (arrived : Arrived) → Comes r most found (with_shown f word a) word o arrived → Arrives r most found f word a arrived
  came_to o e arrived h = subst (λ k. Comes r most found (with_shown f word a) word k arrived) e h

pub few_of : (r : Tables) (most : ℕ) (found : Found) (f : SlotFindings) (word : List ℕ) (a : SlotArrival) (b : Arrived) → has_room b ≡ true → Arrives r most found f word a b → HoldsFew r most found (arrived ends_tests f word a)
few_of r most found f word a (At number) room h = h.0
few_of r most found f word a (Ended e) room h = h
few_of r most found f word a Full room h = absurd (cc)

is_full : (b : Arrived) → has_room b ≡ false → b ≡ Full
is_full Full full = refl
is_full (At number) full = absurd (cc)
is_full (Ended e) full = absurd (cc)

-- ---- the numbers of a list

module _ (g : Graph Machine code.End Shown) (x : Machine × List ℕ) where
  list_append : (ps qs : List ℕ) (f : SlotFindings) → gone_with g x (ps ++ qs) f ≡ gone_with g x qs (gone_with g x ps f)
  list_append [] qs f = refl
  list_append (p ∷ ps) qs f = list_append ps qs (arrived ends_tests f (x.1 ++ p ∷ []) (g.on x.0 p))

  pub list_more : (ps : List ℕ) (p : ℕ) (f : SlotFindings) → gone_with g x (ps ++ p ∷ []) f ≡ arrived ends_tests (gone_with g x ps f) (x.1 ++ p ∷ []) (g.on x.0 p)
  list_more ps p f = list_append ps (p ∷ []) f

  pub list_those : (n : ℕ) (f : SlotFindings) → gone_with g x (those_below n (g.may x.0)) f ≡ gone_on g ends_tests x n f
  list_those zero f = refl
  list_those (suc n) f = list_append (those_below n (g.may x.0)) (if g.may x.0 n then n ∷ [] else []) f ∙ ap (gone_with g x (if g.may x.0 n then n ∷ [] else [])) (list_those n f) ∙ one (g.may x.0 n)
    where
      k : SlotFindings
      k = gone_on g ends_tests x n f

      one : (b : Bool) → gone_with g x (if b then n ∷ [] else []) k ≡ (if b then arrived ends_tests k (x.1 ++ n ∷ []) (g.on x.0 n) else k)
      one true = refl
      one false = refl

  pub list_grows : (ps : List ℕ) (f : SlotFindings) → Grows f.states (gone_with g x ps f).states
  list_grows [] f = grows_same f.states
  list_grows (p ∷ ps) f =
      let k : SlotFindings = arrived ends_tests f (x.1 ++ p ∷ []) (g.on x.0 p) in
      grows_joined f.states k.states (gone_with g x ps k).states (arrived_extends ends_tests f (x.1 ++ p ∷ []) (g.on x.0 p)).states (list_grows ps k)

  pub list_more_grows : (ps : List ℕ) (p : ℕ) (f : SlotFindings) → Grows (gone_with g x ps f).states (gone_with g x (ps ++ p ∷ []) f).states
  list_more_grows ps p f = let k : SlotFindings = gone_with g x ps f in subst (λ (q : SlotFindings). Grows k.states q.states) (sym (list_more ps p f)) (arrived_extends ends_tests k (x.1 ++ p ∷ []) (g.on x.0 p)).states

  -- a state too many
  stops_here : (r : Tables) (most : ℕ) (found : Found) (f : SlotFindings) (c : ℕ) → c < g.below → g.may x.0 c ≡ true → Arrives r most found (gone_on g ends_tests x c f) (x.1 ++ c ∷ []) (g.on x.0 c) Full → Stops r g most found f x
  stops_here r most found f c below may h = by (g.on x.0 c).goal refl h.1
    where
      by : (o : Goal Machine code.End) → (g.on x.0 c).goal ≡ o → IsTooMany most (gone_on g ends_tests x c f) o → Stops r g most found f x
      by (Place s) e many = record { number = c; below = below; may = may; state = s; goal = e; new = many.0; full = many.1; holds = h.0 }
      by (End e) at many = absurd many

-- ---- the numbers of the state that is expanded

module _ (r : Tables) (g : Graph Machine code.End Shown) (most : ℕ) (old new : Found) (at : ℕ) (m : Machine) (p : ℕ) (within : IsWithin r g most old at m (those_below p (g.may m))) where
  abbrev f : SlotFindings
  f = searched g ends_tests at

  abbrev word : List ℕ
  word = within.from.1 ++ p ∷ []

  abbrev k : SlotFindings
  k = gone_with g within.from (those_below p (g.may m)) f

  k_is : k ≡ gone_on g ends_tests within.from p f
  k_is = ap (λ s. gone_with g within.from (those_below p (g.may s)) f) within.here ∙ list_those g within.from p f

  -- what the code finds where the next number is taken
  abbrev pub Takes : Arrived → Type 0
  Takes b = (f : SlotFindings) (word : List ℕ) → HoldsFew r most old f → IsWordOf f.states (Choice at p) word → IsBefore (length f.states) (Choice at p) → Arrives r most new f word (g.on m p) b

  arrives : (b : Arrived) → Takes b → Arrives r most new k word (g.on within.from.0 p) b
  arrives b on =
      let there : slice_get k.states at ≡ Some within.from = subst (λ (q : SlotFindings). slice_get q.states at ≡ Some within.from) (sym k_is) (going_at g ends_tests within.from p f at within.from within.is) in
      subst (λ (s : Machine). Arrives r most new k word (g.on s p) b) within.here (on k word within.holds (within.from, there, refl) (slice_get_within k.states at within.from there))

  more_is : gone_with g within.from (those_below p (g.may m) ++ p ∷ []) f ≡ arrived ends_tests k word (g.on within.from.0 p)
  more_is = list_more g within.from (those_below p (g.may m)) p f

  pub within_more : (b : Arrived) → Takes b → has_room b ≡ true → IsWithin r g most new at m (those_below p (g.may m) ++ p ∷ [])
  within_more b on room = record { from = within.from; is = within.is; here = within.here; quiet = within.quiet; holds = subst (HoldsFew r most new) (sym more_is) (few_of r most new k word (g.on within.from.0 p) b room (arrives b on)) }

  pub stops_at : p < g.below → g.may m p ≡ true → (b : Arrived) → Takes b → has_room b ≡ false → IsStopped r g most new at
  stops_at below may b on full =
      let here = subst (λ (q : SlotFindings). Arrives r most new q word (g.on within.from.0 p) Full) k_is (arrives Full (subst Takes (is_full b full) on)) in
      record { from = within.from; is = within.is; stops = stops_here g within.from r most new f p below (ap (λ s. g.may s p) (sym within.here) ∙ may) here }

  -- it has the number that the code tells
  pub number_so : (number : ℕ) (s : Machine) (from : Machine × List ℕ) → slice_get f.states at ≡ Some from → Place s ≡ (g.on m p).goal → Takes (At number) → HasNumber (gone_with g from (those_below p (g.may m) ++ p ∷ []) f).states s number
  number_so number s from is goal on =
      let new : List (Machine × List ℕ) = (arrived ends_tests k word (g.on within.from.0 p)).states in
      let here : HasNumber new s number = subst (λ o. IsGoalAt new o number) (ap (λ n. (g.on n p).goal) (sym within.here) ∙ sym goal) (arrives (At number) on).1 in
      subst (λ (x : Machine × List ℕ). HasNumber (gone_with g x (those_below p (g.may m) ++ p ∷ []) f).states s number) (same_Some within.from from (sym within.is ∙ is))
      (subst (λ (q : SlotFindings). HasNumber q.states s number) (sym more_is) here)

-- the state that is expanded stays where it is
pub still_there : (r : Tables) (g : Graph Machine code.End Shown) (most : ℕ) (found : Found) (at : ℕ) (m : Machine) (done : List ℕ) (within : IsWithin r g most found at m done) → slice_get (gone_with g within.from done (searched g ends_tests at)).states at ≡ Some within.from
still_there r g most found at m done within =
    let f : SlotFindings = searched g ends_tests at in
    let k : SlotFindings = gone_with g within.from done f in
    grown_at f.states k.states at within.from (list_grows g within.from done f) within.is

-- the machine that is expanded is a state
pub state_within : (r : Tables) (g : Graph Machine code.End Shown) (most : ℕ) (found : Found) (at : ℕ) (m : Machine) (done : List ℕ) → IsWithin r g most found at m done → IsQuiet r found.states m
state_within r g most found at m done within =
    let k : SlotFindings = gone_with g within.from done (searched g ends_tests at) in
    subst (IsQuiet r found.states) (sym within.here) (owned r found.states k.states within.holds.holds.states at within.from (still_there r g most found at m done within))

-- a state was expanded with all its numbers
pub all_gone : (r : Tables) (g : Graph Machine code.End Shown) (most : ℕ) (found : Found) (at : ℕ) (m : Machine) (within : IsWithin r g most found at m (those_below g.below (g.may m))) → gone_with g within.from (those_below g.below (g.may m)) (searched g ends_tests at) ≡ searched g ends_tests (suc at)
all_gone r g most found at m within =
    let f : SlotFindings = searched g ends_tests at in
    ap (λ s. gone_with g within.from (those_below g.below (g.may s)) f) within.here ∙ list_those g within.from g.below f ∙ sym (searched_on g ends_tests at within.from within.is)

-- ---- the whole search

-- there is room for a first state
pub start_found : (r : Tables) (most : ℕ) (found : Found) (a : SlotArrival) (b : Arrived) → 1 ≤ most → Arrives r most found nothing [] a b → HoldsFew r most found (arrived ends_tests nothing [] a)
start_found r most found a (At number) some h = h.0
start_found r most found a (Ended e) some h = h
start_found r most found a Full some h = by a.goal h.1
  where
    by : (o : Goal Machine code.End) → IsTooMany most (with_shown nothing [] a) o → HoldsFew r most found (arrived ends_tests nothing [] a)
    by (Place s) many = let full = many.1 in absurd (omega (arith, full, some))
    by (End e) many = absurd many

pub search_done : (r : Tables) (g : Graph Machine code.End Shown) (most : ℕ) (found : Found) (n : ℕ) → HoldsFew r most found (searched g ends_tests n) → length (searched g ends_tests n).states ≤ n → IsDone r g most found
search_done r g most found n h le =
    let count : ℕ = length (searched g ends_tests n).states in
    let fewer = searched_length g ends_tests count n le in
    let same : searched g ends_tests n ≡ searched g ends_tests count = searched_done g ends_tests count n fewer le in
    record { count = count; holds = subst (Holds r found) same h.holds; states = sym (ap (λ (k : SlotFindings). length k.states) same); few = h.few }

pub search_answer : (r : Tables) (g : Graph Machine code.End Shown) (most : ℕ) (found : Found) (stopped : Option ℕ) → IsSearched (IsWhole r g most found) (IsStopped r g most found) stopped → IsSearch r g most found stopped
search_answer r g most found None whole = search_done r g most found whole.count whole.holds whole.all
search_answer r g most found (Some at) stops = stops

-- where the search stopped is noted beside what was found
pub stop_noted : (r : Tables) (g : Graph Machine code.End Shown) (most : ℕ) (found : Found) (note at : Option ℕ) → IsSearch r g most found at → IsSearch r g most (record found { stopped = note }) at
stop_noted r g most found note None done = record { count = done.count; holds = record { states = done.holds.states; ends = done.holds.ends; values = done.holds.values }; states = done.states; few = done.few }
stop_noted r g most found note (Some at) s =
    let stops = s.stops in
    record { from = s.from; is = s.is; stops = record { number = stops.number; below = stops.below; may = stops.may; state = stops.state; goal = stops.goal; new = stops.new; full = stops.full; holds = record { states = stops.holds.states; ends = stops.holds.ends; values = stops.holds.values } } }
