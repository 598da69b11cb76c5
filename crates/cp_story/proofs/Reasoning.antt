-- Why nobody goes on: event by event, item by item, and statement by statement.
use Rattle.std.proofs.Common.{◌≡◌, ◌∙◌, ℕ, zero, suc, ◌+◌, ◌-◌, ◌<◌, ◌≤◌, List, ◌∷◌, ◌++◌, length, get_or, map, drop, refl, reverse, sym, ap, subst, add-one, append_assoc, arith}
use Rattle.std.proofs.Math.Seq.{drop-cons}
use Rattle.std.proofs.lemmas.Bool.{le-ltb, lt-ltb}
use Rattle.std.proofs.lemmas.List.{append-nil, drop_all, get_or-reverse, get_or_default, length-reverse}
use Rattle.std.specs.List.{list_any}
use Rattle.std.specs.Prelude.{◌||◌, Bool, if◌then◌else◌, Option}
use Rattle.cp_legend.specs.Names.{Legend}
use Rattle.cp_machine.specs.Machine.{Machine, thread_at}
use Rattle.cp_slots.specs.Tables.{Tables, item_at}
use Rattle.cp_symbols.specs.Kinds.{plus, times}
use Rattle.cp_run.specs.Run.{Answer}
use Rattle.cp_run.specs.Table.{each}
use Rattle.cp_story.specs.Ahead.{after_known, begun_below, begun_by, followed, no_ahead, with_elements, with_list}
use Rattle.cp_story.specs.ReasonText.{listed_from, sign_within}
use Rattle.cp_story.specs.Reasons.{Reason, Standstill, entries_below, in_vain, reason_by, reason_of_wait, reasons_at, reasons_below, reasons_of, since, with_delay, with_entry, with_lost}
use Rattle.cp_story.specs.Story.{NamedQueue, Told}
use Rattle.cp_story.specs.Views.{told_of, wait_of}
use Rattle.cp_story.specs.Waiting.{Waiting}
use Rattle.cp_story.specs.declared.ahead.Ahead.{Ahead}
use Rattle.cp_story.specs.declared.event.StoryEvent.{StoryEvent}
use Rattle.cp_story.specs.declared.story.Wait.{Wait}

-- ---- the first of those that are left

next : {A : Type 0} (xs : List A) (i : ℕ) (x : A) → i < length xs → x ≡ get_or xs i x → drop i xs ≡ x ∷ drop (i + 1) xs
next xs i x within here = subst (λ y. drop i xs ≡ y ∷ drop (i + 1) xs) (sym here) (rw add-one (drop-cons xs i x within))

front : {A : Type 0} (xs : List A) (i : ℕ) (x : A) → i < length xs → drop i xs ≡ get_or xs i x ∷ drop (i + 1) xs
front xs i x within = rw add-one (drop-cons xs i x within)

module _ (es : List StoryEvent) (i : ℕ) where
  module _ (p found : ℕ) where
    pub since_step : (e : StoryEvent) → i < length es → e ≡ get_or es i e → since p found i (map told_of (drop i es)) ≡ since p (with_delay p found i (told_of e)) (i + 1) (map told_of (drop (i + 1) es))
    since_step e within here = ap (λ (xs : List StoryEvent). since p found i (map told_of xs)) (next es i e within here)

    pub since_none : length es ≤ i → since p found i (map told_of (drop i es)) ≡ found
    since_none none = rw (drop_all i es none) refl

  module _ (q : NamedQueue) (found : List ℕ) where
    pub in_vain_step : (e : StoryEvent) → i < length es → e ≡ get_or es i e → in_vain q found i (map told_of (drop i es)) ≡ in_vain q (with_lost q found i (told_of e)) (i + 1) (map told_of (drop (i + 1) es))
    in_vain_step e within here = ap (λ (xs : List StoryEvent). in_vain q found i (map told_of xs)) (next es i e within here)

    pub in_vain_none : length es ≤ i → in_vain q found i (map told_of (drop i es)) ≡ found
    in_vain_none none = rw (drop_all i es none) refl

pub any_step : {A : Type 0} (f : A → Bool) (xs : List A) (i : ℕ) (d : A) → i < length xs → list_any f (drop i xs) ≡ (f (get_or xs i d) || list_any f (drop (i + 1) xs))
any_step f xs i d within = rw add-one (ap (list_any f) (drop-cons xs i d within))

-- ---- one wait more

module _ (s : Standstill) (ws : List Wait) (i : ℕ) (now : List Reason) where
  pub reasons_step : (w : Wait) → i < length ws → w ≡ get_or ws i w → now ++ reasons_of s (map wait_of (drop i ws)) ≡ (now ++ reason_of_wait s (wait_of w)) ++ reasons_of s (map wait_of (drop (i + 1) ws))
  reasons_step w within here =
      ap (λ (xs : List Wait). now ++ reasons_of s (map wait_of xs)) (next ws i w within here)
      ∙ sym (append_assoc now (reason_of_wait s (wait_of w)) (reasons_of s (map wait_of (drop (i + 1) ws))))

  pub reasons_none : length ws ≤ i → now ++ reasons_of s (map wait_of (drop i ws)) ≡ now
  reasons_none none = rw (drop_all i ws none) (append-nil now)

-- ---- texts one after the other, behind what is written now

module _ (f : ℕ → List ℕ) (ns : List ℕ) (i last : ℕ) (now : List ℕ) where
  two_more : (b t r : List ℕ) → now ++ ((b ++ t) ++ r) ≡ ((now ++ b) ++ t) ++ r
  two_more b t r = simp append_assoc

  pub listed_step : i < length ns → now ++ listed_from f i last (drop i ns) ≡ ((now ++ sign_within i last) ++ f (get_or ns i 0)) ++ listed_from f (i + 1) last (drop (i + 1) ns)
  listed_step within = rw (front ns i 0 within) (two_more (sign_within i last) (f (get_or ns i 0)) (listed_from f (i + 1) last (drop (i + 1) ns)))

  pub listed_none : length ns ≤ i → now ++ listed_from f i last (drop i ns) ≡ now
  listed_none none = rw (drop_all i ns none) (append-nil now)

-- ---- one number more

pub entries_more : (r : Tables) (computed : Bool) (system own at : ℕ) → with_entry r computed system own (entries_below r computed system own at) (item_at r at) ≡ entries_below r computed system own (at + 1)
entries_more r computed system own at = rw add-one refl

pub reasons_more : (s : Standstill) (n : ℕ) → reasons_below s n ++ reason_by s n (thread_at s.machine.threads n).status ≡ reasons_below s (n + 1)
reasons_more s n = rw add-one refl

pub begun_more : (m : Machine) (p : ℕ) → begun_by m p (begun_below m p) ≡ begun_below m (p + 1)
begun_more m p = rw add-one refl

pub elements_more : (p first stride n : ℕ) (found : List Ahead) (body : Option ℕ) → with_list p (plus first (times n stride)) (with_elements p first stride n found body) body ≡ with_elements p first stride (n + 1) found body
elements_more p first stride n found body = rw add-one refl

-- ---- one statement more

module _ (l : Legend) (r : Tables) (m : Machine) where
  followed_by : (n place : ℕ) (found : List Ahead) → place < length found → followed l r m (suc n) place found ≡ followed l r m n (place + 1) (after_known l r m found (get_or found place no_ahead))
  followed_by n place found there = ap (λ b. if b then followed l r m n (place + 1) (after_known l r m found (get_or found place no_ahead)) else found) (lt-ltb place (length found) there)

  pub followed_step : (most place : ℕ) (found : List Ahead) (a : Ahead) → place < most → place < length found → a ≡ get_or found place a → followed l r m (most - place) place found ≡ followed l r m (most - (place + 1)) (place + 1) (after_known l r m found a)
  followed_step most place found a within there here =
      let left : most - place ≡ suc (most - (place + 1)) = omega arith in
      let same : get_or found place no_ahead ≡ a = get_or_default found place no_ahead a there ∙ sym here in
      ap (λ n. followed l r m n place found) left
      ∙ followed_by (most - (place + 1)) place found there
      ∙ ap (λ b. followed l r m (most - (place + 1)) (place + 1) (after_known l r m found b)) same

  pub followed_stop : (n place : ℕ) (found : List Ahead) → length found ≤ place → followed l r m n place found ≡ found
  followed_stop zero place found past = refl
  followed_stop (suc n) place found past = ap (λ b. if b then followed l r m n (place + 1) (after_known l r m found (get_or found place no_ahead)) else found) (le-ltb place (length found) past)

  pub followed_end : (most place : ℕ) (found : List Ahead) → most ≤ place → followed l r m (most - place) place found ≡ found
  followed_end most place found past =
      let left : most - place ≡ 0 = omega arith in
      ap (λ n. followed l r m n place found) left

-- ---- one entry of a stack more

pub below_top : {A : Type 0} (xs : List A) (depth : ℕ) (d : A) → depth < length xs → drop depth (reverse xs) ≡ get_or xs (length xs - 1 - depth) d ∷ drop (depth + 1) (reverse xs)
below_top xs depth d within =
    let long : depth < length (reverse xs) = rw (length-reverse xs) within in
    rw add-one (drop-cons (reverse xs) depth d long ∙ ap (λ y. y ∷ drop (suc depth) (reverse xs)) (get_or-reverse xs depth d within))

-- ---- the same run

pub reasons_same : (l : Legend) (r : Tables) {m n : Machine} {a b : Answer} {es fs : List Told} {ws vs : List Waiting} → m ≡ n → a ≡ b → es ≡ fs → ws ≡ vs → reasons_at l r m a es ws ≡ reasons_at l r n b fs vs
reasons_same l r {m} {n} {a} {b} {es} {fs} {ws} {vs} states answers events waits =
    ap (λ (x : Machine). reasons_at l r x a es ws) states
    ∙ ap (λ (x : Answer). reasons_at l r n x es ws) answers
    ∙ ap (λ (x : List Told). reasons_at l r n b x ws) events
    ∙ ap (λ (x : List Waiting). reasons_at l r n b fs x) waits
