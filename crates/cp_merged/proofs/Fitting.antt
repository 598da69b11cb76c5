-- When layers and outcomes fit, by the numbers of leads and tallies.
use Rattle.std.proofs.Common.{◌≡◌, ◌≢◌, inl, inr, ◌<◌, ◌≤◌, ℕ, Bool, true, false, if◌then◌else◌, List, [], ◌∷◌, length, map, Option, None, Some, refl, sym, ap, subst, ◌∙◌, arith}
use Rattle.std.specs.Prelude.{is_some}
use Rattle.std.specs.List.{AllByRecursion as Each}
use Rattle.cp_merged.proofs.Words.{length-map, Outcome, System, Choosing, Line, table, Tally, Sameness, IsExact, Lead, IsSound, front_at, by_layers}
use Rattle.cp_merged.specs.TooMany.{IsInLayer, IsEndWithin, HasTooManyStates, HasTooManyOutcomes}
use Rattle.cp_merged.proofs.Anywhere.{AnyOf, Has, Differ, more_than, no_more_than, has_from_contains, contains_from_has}
use Rattle.cp_merged.proofs.Basics.{Score, plus, score, score_in, Apart}
use Rattle.cp_merged.proofs.Reaching.{end_in_table, table_end, short_row}
use Rattle.cp_merged.proofs.Scores.{scored, layers_score}
use Rattle.cp_merged.proofs.Sorted.{apart_at, apart_by}
use Rattle.cp_merged.proofs.Fronts.{IsLead, IsEndBy, OneEach, has_reached, has_ended, is_front}

any_map : {A B : Type 0} (g : A → B) (b : B) (xs : List A) → AnyOf (λ x. g x ≡ b) xs → Has b (map g xs)
any_map g b [] h = h
any_map g b (x ∷ xs) (inl e) = inl e
any_map g b (x ∷ xs) (inr i) = inr (any_map g b xs i)

each_map : {A B : Type 0} (g : A → B) (P : B → Type 0) (xs : List A) → Each (λ x. P (g x)) xs → Each P (map g xs)
each_map g P [] h = tt
each_map g P (x ∷ xs) h = (h.0, each_map g P xs h.1)

each_to : {A : Type 0} (P Q : A → Type 0) (xs : List A) → ((x : A) → P x → Q x) → Each P xs → Each Q xs
each_to P Q [] h e = tt
each_to P Q (x ∷ xs) h e = (h x e.0, each_to P Q xs h e.1)

module _ {S : Type 0} (sys : System S) (same : Sameness) (exact : IsExact same) (eq : S → S → Bool) (sound : IsSound eq) (own : (s : S) → eq s s ≡ true) (steps : ℕ) where
  abbrev states : List (Lead S) → List S
  states xs = map (λ x. x.state) xs

  unequal : (s t : S) → eq s t ≡ false → s ≡ t → ⊥
  unequal s t e q = (let bad : true ≡ false = sym (own s) ∙ ap (eq s) q ∙ e in absurd (cc))

  differ_states : (xs : List (Lead S)) → OneEach sys same exact eq sound steps xs → Differ (states xs)
  differ_states [] h = tt
  differ_states (x ∷ xs) h = (each_map (λ y. y.state) (λ t. x.state ≢ t) xs (each_to (λ y. eq x.state y.state ≡ false) (λ y. x.state ≢ y.state) xs (λ y e. unequal x.state y.state e) h.0), differ_states xs h.1)

  -- leads to more than n states
  pub states_many : (n d : ℕ) (xs : List (Lead S)) → n < length xs → Each (IsLead sys same exact eq sound steps d) xs → OneEach sys same exact eq sound steps xs → HasTooManyStates sys steps n d
  states_many n d xs l h o =
      more_than (IsInLayer sys steps d) n (states xs) (let e = length-map xs (λ (x : Lead S). x.state) in omega (arith, l, e))
      (each_map (λ x. x.state) (IsInLayer sys steps d) xs (each_to (IsLead sys same exact eq sound steps d) (λ x. IsInLayer sys steps d x.state) xs (λ x k. (x.first, k.0, k.1)) h))
      (differ_states xs o)

  -- a layer of no more than n leads
  pub states_few : (n d : ℕ) → length (front_at sys same eq steps d).layer ≤ n → HasTooManyStates sys steps n d → ⊥
  states_few n d l =
      let xs = (front_at sys same eq steps d).layer in
      no_more_than (IsInLayer sys steps d) n (states xs) (let e = length-map xs (λ (x : Lead S). x.state) in omega (arith, l, e)) (λ s k. any_map (λ x. x.state) s xs (has_reached sys same exact eq sound steps d k.0 (Choosing s) k.1 k.2))

  abbrev outcomes : List Tally → List Outcome
  outcomes ts = map (λ t. t.first.outcome) ts

  other : (o q : Outcome) → same o q ≡ false → o ≡ q → ⊥
  other o q e f = (let bad : true ≡ false = sym (exact.own o) ∙ ap (same o) f ∙ e in absurd (cc))

  differ_outcomes : (ts : List Tally) → Apart same ts → Differ (outcomes ts)
  differ_outcomes [] a = tt
  differ_outcomes (t ∷ ts) a = (each_map (λ u. u.first.outcome) (λ o. t.first.outcome ≢ o) ts (each_to (λ u. same t.first.outcome u.first.outcome ≡ false) (λ u. t.first.outcome ≢ u.first.outcome) ts (λ u e. other t.first.outcome u.first.outcome e) a.0), differ_outcomes ts a.1)

  outcomes_more : (choices d : ℕ) (ts : List Tally) → 50000 < length ts → Each (λ t. IsEndWithin sys choices steps d t.first.outcome) ts → Apart same ts → HasTooManyOutcomes sys choices steps d
  outcomes_more choices d ts l h a =
      more_than (IsEndWithin sys choices steps d) 50000 (outcomes ts) (let e = length-map ts (λ (t : Tally). t.first.outcome) in omega (arith, l, e)) (each_map (λ t. t.first.outcome) (IsEndWithin sys choices steps d) ts h) (differ_outcomes ts a)

  outcomes_fit : (choices d : ℕ) (ts : List Tally) → length ts ≤ 50000 → ((o : Outcome) → IsEndWithin sys choices steps d o → AnyOf (λ t. t.first.outcome ≡ o) ts) → HasTooManyOutcomes sys choices steps d → ⊥
  outcomes_fit choices d ts l h =
      no_more_than (IsEndWithin sys choices steps d) 50000 (outcomes ts) (let e = length-map ts (λ (t : Tally). t.first.outcome) in omega (arith, l, e)) (λ o k. any_map (λ t. t.first.outcome) o ts (h o k))

  -- more than 50,000 outcomes of words of at most d numbers
  pub outcomes_many : (choices d : ℕ) → d ≤ choices → 50000 < length (front_at sys same eq steps d).ended → HasTooManyOutcomes sys choices steps d
  outcomes_many choices d le l =
      let f = front_at sys same eq steps d in
      outcomes_more choices d f.ended l
      (each_to (IsEndBy sys same exact eq sound steps d) (λ t. IsEndWithin sys choices steps d t.first.outcome) f.ended (λ t e. subst (IsEndWithin sys choices steps d) (sym e.1.3) (end_in_table sys steps choices d t.first.word e.1.0 e.1.1 le e.0 e.1.2)) (is_front sys same exact eq sound steps d).0)
      (apart_at sys same eq steps d)

  pub outcomes_few : (choices d : ℕ) → d < choices → length (front_at sys same eq steps d).ended ≤ 50000 → HasTooManyOutcomes sys choices steps d → ⊥
  outcomes_few choices d lt l =
      let f = front_at sys same eq steps d in
      outcomes_fit choices d f.ended l
      (λ o k.
      (let size = k.2 in
      let e = table_end sys steps choices k.0 k.1 (omega (arith, size, lt)) in
      subst (λ q. AnyOf (λ t. t.first.outcome ≡ q) f.ended) (sym e.3 ∙ k.3) (has_ended sys same exact eq sound steps d k.0.word e.0 e.1 k.2 e.2)))

  -- ---- after the last choice, by scores

  some_left : (a b : Option Score) → is_some a ≡ true → is_some (plus a b) ≡ true
  some_left None b h = absurd (cc)
  some_left (Some a) None h = refl
  some_left (Some a) (Some b) h = refl

  some_right : (a b : Option Score) → is_some b ≡ true → is_some (plus a b) ≡ true
  some_right None b h = h
  some_right (Some a) None h = refl
  some_right (Some a) (Some b) h = refl

  line_of_score : (o : Outcome) (ls : List Line) → is_some (score same o ls) ≡ true → (l : Line) × Has l ls × (l.outcome ≡ o)
  line_of_score o [] h = absurd (cc)
  line_of_score o (l ∷ ls) h = by (same l.outcome o) refl h (line_of_score o ls)
    where
      by : (b : Bool) → same l.outcome o ≡ b → is_some (plus (if b then Some (scored 1 l.word) else None) (score same o ls)) ≡ true → (is_some (score same o ls) ≡ true → (m : Line) × Has m ls × (m.outcome ≡ o)) → (m : Line) × Has m (l ∷ ls) × (m.outcome ≡ o)
      by true e h on = (l, inl refl, exact.exact l.outcome o e)
      by false e h on = let m = on h in (m.0, inr m.1, m.2)

  score_of_line : (o : Outcome) (ls : List Line) (l : Line) → Has l ls → l.outcome ≡ o → is_some (score same o ls) ≡ true
  score_of_line o [] l h e = absurd h
  score_of_line o (m ∷ ls) l (inl q) e =
      let here : same m.outcome o ≡ true = ap (λ x. same x o) (ap (λ (x : Line). x.outcome) q ∙ e) ∙ exact.own o in
      subst (λ b. is_some (plus (if b then Some (scored 1 m.word) else None) (score same o ls)) ≡ true) (sym here) (some_left (Some (scored 1 m.word)) (score same o ls) refl)
  score_of_line o (m ∷ ls) l (inr i) e = some_right (if same m.outcome o then Some (scored 1 m.word) else None) (score same o ls) (score_of_line o ls l i e)

  tally_of_score : (o : Outcome) (ts : List Tally) → is_some (score_in same o ts) ≡ true → AnyOf (λ t. t.first.outcome ≡ o) ts
  tally_of_score o [] h = absurd (cc)
  tally_of_score o (t ∷ ts) h = by (same t.first.outcome o) refl h (tally_of_score o ts)
    where
      by : (b : Bool) → same t.first.outcome o ≡ b → is_some (plus (if b then Some (scored t.count t.first.word) else None) (score_in same o ts)) ≡ true → (is_some (score_in same o ts) ≡ true → AnyOf (λ u. u.first.outcome ≡ o) ts) → AnyOf (λ u. u.first.outcome ≡ o) (t ∷ ts)
      by true e h on = inl (exact.exact t.first.outcome o e)
      by false e h on = inr (on h)

  score_of_tally : (ts : List Tally) (t : Tally) → Has t ts → is_some (score_in same t.first.outcome ts) ≡ true
  score_of_tally [] t h = absurd h
  score_of_tally (u ∷ us) t (inl q) =
      let here : same u.first.outcome t.first.outcome ≡ true = ap (λ (x : Tally). same x.first.outcome t.first.outcome) q ∙ exact.own t.first.outcome in
      subst (λ b. is_some (plus (if b then Some (scored u.count u.first.word) else None) (score_in same t.first.outcome us)) ≡ true) (sym here) (some_left (Some (scored u.count u.first.word)) (score_in same t.first.outcome us) refl)
  score_of_tally (u ∷ us) t (inr i) = some_right (if same u.first.outcome t.first.outcome then Some (scored u.count u.first.word) else None) (score_in same t.first.outcome us) (score_of_tally us t i)

  each_from : {A : Type 0} (P : A → Type 0) (xs : List A) → ((x : A) → Has x xs → P x) → Each P xs
  each_from P [] h = tt
  each_from P (x ∷ xs) h = (h x (inl refl), each_from P xs (λ y i. h y (inr i)))

  -- all outcomes of the table
  pub last_many : (choices : ℕ) → 50000 < length (by_layers sys same eq choices steps) → HasTooManyOutcomes sys choices steps choices
  last_many choices l =
      let ts = by_layers sys same eq choices steps in
      let rows = table sys choices steps in
      outcomes_more choices choices ts l
      (each_from (λ t. IsEndWithin sys choices steps choices t.first.outcome) ts
      (λ t h.
      (let m = line_of_score t.first.outcome rows (subst (λ x. is_some x ≡ true) (layers_score sys same exact.is eq sound choices steps t.first.outcome) (score_of_tally ts t h)) in
      (m.0, contains_from_has rows m.0 m.1, short_row sys steps choices m.0 m.1, m.2))))
      (apart_by sys same eq choices steps)

  pub last_few : (choices : ℕ) → length (by_layers sys same eq choices steps) ≤ 50000 → HasTooManyOutcomes sys choices steps choices → ⊥
  last_few choices l =
      let ts = by_layers sys same eq choices steps in
      let rows = table sys choices steps in
      outcomes_fit choices choices ts l
      (λ o k. tally_of_score o ts (subst (λ x. is_some x ≡ true) (sym (layers_score sys same exact.is eq sound choices steps o)) (score_of_line o rows k.0 (has_from_contains rows k.0 k.1) k.3)))
