-- The rules that are made of items, on the tokens of a tree.
use Rattle.std.proofs.Common.{◌≡◌, ℕ, zero, suc, ◌<◌, ◌≤◌, Bool, true, false, cond, List, [], ◌∷◌, ◌++◌, length, Option, Some, None, Ok, refl, sym, ap, subst, arith, append_assoc}
use Rattle.std.proofs.lemmas.List.{append-nil}
use Rattle.cp_text.specs.declared.token.Kind.{Kind}
use Rattle.cp_text.specs.declared.token.Kind.TheVariants as kind
use Rattle.cp_text.specs.declared.token.Mark.{Mark}
use Rattle.cp_text.specs.declared.token.Mark.TheVariants as mark
use Rattle.cp_tree.specs.Input as Input
use Rattle.cp_tree.specs.Input.{Input, Outcome, Parser, and_then, ◌>>=◌, pure, same, is_mark, first, first_mark, mark_of, is_name, next, sees, sees_name, after, advance}
use Rattle.cp_tree.specs.Reading.{many_from, many_after, many, many_on, behind, some, separated, ended_from, ended_after, ended_list, where_named, taken}
use Rattle.cp_tree.specs.Spelling.{put_optional}
use Rattle.cp_tree.specs.SpellingIndexed.{Begins}
use Rattle.cp_tree.proofs.Shapes.{Shape, behind_of, all_of, separated_of, flat, IsListed, IsLed}
use Rattle.cp_tree.proofs.FoundLists.{operator_of}
use Rattle.cp_tree.proofs.Lands.{on, Lands, lands_then, LandsOn, LandsAll, before, eaten, not_eaten}

-- ---- lists that are taken apart

-- The items of a list are as they have to be where it is.
pub record IsApart {A : Type 0} (one : Shape A) (all : Shape (List A)) : Type 0 where
  pub listed : IsListed one all
  pub first_indexed : (x : A) (xs : List A) (ks : List Kind) → all.indexed (x ∷ xs) ks → one.indexed x (all.put xs ks)
  pub rest_indexed : (x : A) (xs : List A) (ks : List Kind) → all.indexed (x ∷ xs) ks → all.indexed xs ks

pub record IsApartLed {A : Type 0} (one : Shape A) (more all : Shape (List A)) : Type 0 where
  pub led : IsLed one more all
  pub none_indexed : (ks : List Kind) → all.indexed [] ks → ⊥
  pub head_indexed : (x : A) (xs : List A) (ks : List Kind) → all.indexed (x ∷ xs) ks → one.indexed x (more.put xs ks)
  pub more_indexed : (x : A) (xs : List A) (ks : List Kind) → all.indexed (x ∷ xs) ks → more.indexed xs ks

-- What holds of an item's tokens and of what follows a list, holds of the list's tokens.
pub follows : {A : Type 0} (one : Shape A) (all : Shape (List A)) → IsListed one all → (G : List Kind → Type 0) → ((x : A) (ks : List Kind) → G (one.put x ks)) → (xs : List A) (ks : List Kind) → G ks → G (all.put xs ks)
follows one all listed G starts [] ks h = subst G (sym (listed.no_put ks)) h
follows one all listed G starts (x ∷ xs) ks h = subst G (sym (listed.more_put x xs ks)) (starts x (all.put xs ks))

-- lists without levels
pub flat_apart : {A : Type 0} (m : Mark) (s : Shape A) (F : List Kind → Type 0) → IsApart (behind_of m (flat s)) (before (flat (all_of (behind_of m s))) F)
flat_apart m s F = record { listed = record { no_put = λ ks. refl; more_put = λ x xs ks. refl; no_depth = refl; more_depth = λ x xs. refl }; first_indexed = λ x xs ks h. h.0.0; rest_indexed = λ x xs ks h. (h.0.1, h.1) }

pub flat_apart_led : {A : Type 0} (m : Mark) (s : Shape A) (F : List Kind → Type 0) → IsApartLed (flat s) (before (flat (all_of (behind_of m s))) F) (before (flat (separated_of m s)) F)
flat_apart_led m s F = record { led = record { led_put = λ x xs ks. refl; led_depth = λ x xs. refl }; none_indexed = λ ks h. h.0; head_indexed = λ x xs ks h. h.0.0; more_indexed = λ x xs ks h. (h.0.1, h.1) }

-- ---- items

-- On the tokens of this value the parser gives it back as an item.
abbrev pub LandsItem : {A : Type 0} → ℕ → ℕ → Shape A → Parser (Option A) → A → Type 0
LandsItem total b s item x = (n : ℕ) (ks : List Kind) → Begins total n (s.put x ks) → s.indexed x ks → Lands total (b < s.depth x) (Some x) ks (item (on n (s.put x ks)))

-- On these tokens the parser finds no item.
abbrev pub EndsOn : {A : Type 0} → ℕ → Parser (Option A) → List Kind → Type 0
EndsOn total item ks = (n : ℕ) → Begins total n ks → Lands total ⊥ None ks (item (on n ks))

some_lands : {A : Type 0} (total : ℕ) (D : Type 0) (p : Parser A) (n : ℕ) (ks : List Kind) (x : A) (rest : List Kind) → Lands total D x rest (p (on n ks)) → Lands total D (Some x) rest (some p (on n ks))
some_lands total D p n ks x rest h = lands_then total D D (p (on n ks)) (λ x. pure (Some x)) x rest (Some x) rest h (λ d. d) (λ k here. (refl, refl, here))

pub behind_lands : {A : Type 0} (total b : ℕ) (m : Mark) (s : Shape A) (p : Parser A) (x : A) → LandsOn total b s p x → LandsItem total b (behind_of m s) (behind m p) x
behind_lands {A} total b m s p x law n ks placed indexed =
    eaten total (b < s.depth x) m (some p) (pure None) n (s.put x ks) (Some x) ks placed (λ k here. some_lands total (b < s.depth x) p k (s.put x ks) x ks (law k ks here indexed))

pub behind_ends : {A : Type 0} (total : ℕ) (m : Mark) (p : Parser A) (ks : List Kind) → is_mark m (first_mark ks) ≡ false → EndsOn total (behind m p) ks
behind_ends total m p ks unseen n placed = not_eaten total ⊥ m (some p) (pure None) n ks None ks unseen (refl, refl, placed)

pub named_lands : {A : Type 0} (total b : ℕ) (s : Shape A) (p : Parser A) (x : A) → LandsOn total b s p x → ((ks : List Kind) → s.indexed x ks → is_name (first (s.put x ks)) ≡ true) → LandsItem total b s (where_named p) x
unfolding sees_name next
named_lands {A} total b s p x law starts n ks placed indexed =
    let i = on n (s.put x ks) in
    let D = b < s.depth x in
    subst (λ (c : Bool). Lands total D (Some x) ks ((cond c (some p) (pure None)) i)) (sym (starts ks indexed)) (some_lands total D p n (s.put x ks) x ks (law n ks placed indexed))

pub named_ends : {A : Type 0} (total : ℕ) (p : Parser A) (ks : List Kind) → is_name (first ks) ≡ false → EndsOn total (where_named p) ks
unfolding sees_name next
named_ends {A} total p ks unseen n placed =
    subst (λ (c : Bool). Lands total ⊥ None ks ((cond c (some p) (pure None)) (on n ks))) (sym unseen) (refl, refl, placed)

-- ---- many items

module _ {A : Type 0} (total b : ℕ) (one : Shape A) (all : Shape (List A)) (apart : IsApart one all) (item : Parser (Option A))
    (law : (x : A) → LandsItem total b one item x) (ends : (ks : List Kind) → all.indexed [] ks → EndsOn total item ks) (grows : (x : A) (ks : List Kind) → length ks < length (one.put x ks)) where
  no_more_lands : (E : Type 0) (found : List A) (turns n : ℕ) (ks : List Kind) → EndsOn total item ks → Begins total n ks → Lands total E (found ++ []) ks (many_from item turns found (on n ks))
  unfolding many_from
  no_more_lands E found zero n ks end placed = (sym (append-nil found), refl, placed)
  no_more_lands E found (suc turns) n ks end placed =
      lands_then total ⊥ E (item (on n ks)) (many_on found (many_from item turns)) None ks (found ++ []) ks (end n placed) (λ d. absurd d) (λ k p. (sym (append-nil found), refl, p))

  many_from_lands : (E : Type 0) (xs found : List A) (turns n : ℕ) (ks : List Kind) → (b < all.depth xs → E) → all.indexed xs ks → length (all.put xs ks) ≤ turns → Begins total n (all.put xs ks)
      → Lands total E (found ++ xs) ks (many_from item turns found (on n (all.put xs ks)))
  unfolding many_from
  many_from_lands E [] found turns n ks up indexed enough placed =
      let e = apart.listed.no_put ks in
      let here : Begins total n ks = subst (λ (ts : List Kind). Begins total n ts) e placed in
      subst (λ (ts : List Kind). Lands total E (found ++ []) ks (many_from item turns found (on n ts))) (sym e) (no_more_lands E found turns n ks (ends ks indexed) here)
  many_from_lands E (x ∷ xs) found zero n ks up indexed enough placed =
      let e = apart.listed.more_put x xs ks in
      let less = grows x (all.put xs ks) in
      let same_length = ap (λ (ts : List Kind). length ts) e in
      absurd (omega (arith, enough, less, same_length))
  many_from_lands E (x ∷ xs) found (suc turns) n ks up indexed enough placed =
      let e = apart.listed.more_put x xs ks in
      let next = all.put xs ks in
      let less = grows x next in
      let same_length = ap (λ (ts : List Kind). length ts) e in
      let here : Begins total n (one.put x next) = subst (λ (ts : List Kind). Begins total n ts) e placed in
      let deep = apart.listed.more_depth x xs in
      subst (λ (ts : List Kind). Lands total E (found ++ x ∷ xs) ks (many_from item (suc turns) found (on n ts))) (sym e)
      (lands_then total (b < one.depth x) E (item (on n (one.put x next))) (many_on found (many_from item turns)) (Some x) next (found ++ x ∷ xs) ks (law x n next here (apart.first_indexed x xs ks indexed)) (λ d. up (omega (arith, deep))) (λ k p.
      subst (λ (l : List A). Lands total E l ks (many_from item turns (found ++ x ∷ []) (on k next))) (append_assoc found (x ∷ []) xs)
      (many_from_lands E xs (found ++ x ∷ []) turns k ks (λ d. up (omega (arith, deep))) (apart.rest_indexed x xs ks indexed) (omega (arith, enough, less, same_length)) p)))

  pub many_after_lands : (E : Type 0) (xs found : List A) (n : ℕ) (ks : List Kind) → (b < all.depth xs → E) → all.indexed xs ks → Begins total n (all.put xs ks)
      → Lands total E (found ++ xs) ks (many_after found item (on n (all.put xs ks)))
  unfolding many_after
  many_after_lands E xs found n ks up indexed placed = many_from_lands E xs found (length (all.put xs ks)) n ks up indexed (omega arith) placed

  pub many_lands : LandsAll total b all (many item)
  many_lands xs n ks placed indexed = many_after_lands (b < all.depth xs) xs [] n ks (λ d. d) indexed placed

-- one item, and then many
module _ {A : Type 0} (total b : ℕ) (one following : Shape A) (more all : Shape (List A)) (apart : IsApart following more) (led : IsApartLed one more all) (p : Parser A) (item : Parser (Option A))
    (law : (x : A) → LandsOn total b one p x) (again : (x : A) → LandsItem total b following item x) (ends : (ks : List Kind) → more.indexed [] ks → EndsOn total item ks) (grows : (x : A) (ks : List Kind) → length ks < length (following.put x ks)) where
  pub first_and_many_lands : LandsAll total b all (p >>= (λ first. many_after (first ∷ []) item))
  first_and_many_lands [] n ks placed indexed = absurd (led.none_indexed ks indexed)
  first_and_many_lands (x ∷ xs) n ks placed indexed =
      let E = b < all.depth (x ∷ xs) in
      let e = led.led.led_put x xs ks in
      let next = more.put xs ks in
      let here : Begins total n (one.put x next) = subst (λ (ts : List Kind). Begins total n ts) e placed in
      let deep = led.led.led_depth x xs in
      subst (λ (ts : List Kind). Lands total E (x ∷ xs) ks ((p >>= (λ first. many_after (first ∷ []) item)) (on n ts))) (sym e)
      (lands_then total (b < one.depth x) E (p (on n (one.put x next))) (λ first. many_after (first ∷ []) item) x next (x ∷ xs) ks (law x n next here (led.head_indexed x xs ks indexed)) (λ d. omega (arith, deep)) (λ k q.
      many_after_lands total b following more apart item again ends grows E xs (x ∷ []) k ks (λ d. omega (arith, deep)) (led.more_indexed x xs ks indexed) q))

pub separated_lands : {A : Type 0} (total b : ℕ) (m : Mark) (one : Shape A) (more all : Shape (List A)) → IsApart (behind_of m one) more → IsApartLed one more all → (p : Parser A)
    → LandsAll total b one p → ((ks : List Kind) → more.indexed [] ks → is_mark m (first_mark ks) ≡ false) → ((x : A) (ks : List Kind) → length ks ≤ length (one.put x ks)) → LandsAll total b all (separated m p)
unfolding separated
separated_lands total b m one more all apart led p law unseen grows =
    first_and_many_lands total b one (behind_of m one) more all apart led p (behind m p) law (λ x. behind_lands total b m one p x (law x)) (λ ks h. behind_ends total m p ks (unseen ks h)) (λ x ks. omega (arith, grows x ks))

-- ---- items with semicolons between, and maybe one at the end, before `end`

abbrev end_of : List Kind → List Kind
end_of rest = kind.Mark mark.End ∷ rest

no_semicolon : (rest : List Kind) → is_mark mark.Semicolon (first_mark (end_of rest)) ≡ false
unfolding same
no_semicolon rest = refl

-- a list of items, and whether a semicolon ends it, before `end` and these tokens
abbrev pub ended_of : {A : Type 0} → Shape (List A) → Shape (List A × Bool)
ended_of all = record { put = λ y ks. all.put y.0 (put_optional mark.Semicolon y.1 ks); indexed = λ y ks. all.indexed y.0 (put_optional mark.Semicolon y.1 ks) × (rest : List Kind) × (ks ≡ kind.Mark mark.End ∷ rest); depth = λ y. all.depth y.0 }

module _ {A : Type 0} (total b : ℕ) (one : Shape A) (more all : Shape (List A)) (apart : IsApart (behind_of mark.Semicolon one) more) (led : IsApartLed one more all) (item : Parser A)
    (law : LandsAll total b one item) (grows : (x : A) (ks : List Kind) → length ks ≤ length (one.put x ks)) (starts : (x : A) (ks : List Kind) → is_mark mark.End (first_mark (one.put x ks)) ≡ false) where
  -- after a semicolon that is there
  behind_semicolon : (E : Type 0) (found : List A) (turns n : ℕ) (ks : List Kind) (y : List A × Bool) (rest : List Kind) → Begins total n (kind.Mark mark.Semicolon ∷ ks)
      → ((k : ℕ) → Begins total k ks → Lands total E y rest ((cond (sees mark.End (on k ks)) (pure (found, true)) (item >>= (λ x. ended_from item turns (found ++ x ∷ [])))) (on k ks)))
      → Lands total E y rest (ended_from item (suc turns) found (on n (kind.Mark mark.Semicolon ∷ ks)))
  unfolding ended_from
  behind_semicolon E found turns n ks y rest placed h =
      let next : Parser (List A × Bool) = item >>= (λ x. ended_from item turns (found ++ x ∷ [])) in
      let last : Parser (List A × Bool) = pure (found, true) in
      eaten total E mark.Semicolon (λ k. (cond (sees mark.End k) last next) k) (pure (found, false)) n ks y rest placed h

  ended_from_lands : (E : Type 0) (xs found : List A) (c : Bool) (turns n : ℕ) (rest : List Kind) → (b < more.depth xs → E) → let ks = put_optional mark.Semicolon c (end_of rest) in more.indexed xs ks → length (more.put xs ks) ≤ turns → Begins total n (more.put xs ks)
      → Lands total E (found ++ xs, c) (end_of rest) (ended_from item turns found (on n (more.put xs ks)))
  unfolding ended_from sees Input.mark same
  ended_from_lands E [] found false zero n rest up indexed enough placed =
      let e = apart.listed.no_put (end_of rest) in
      let same_length = ap (λ (ts : List Kind). length ts) e in
      absurd (omega (arith, enough, same_length))
  ended_from_lands E [] found false (suc turns) n rest up indexed enough placed =
      let e = apart.listed.no_put (end_of rest) in
      let here : Begins total n (end_of rest) = subst (λ (ts : List Kind). Begins total n ts) e placed in
      let next : Parser (List A × Bool) = item >>= (λ x. ended_from item turns (found ++ x ∷ [])) in
      let last : Parser (List A × Bool) = pure (found, true) in
      subst (λ (ts : List Kind). Lands total E (found ++ [], false) (end_of rest) (ended_from item (suc turns) found (on n ts))) (sym e)
      (not_eaten total E mark.Semicolon (λ k. (cond (sees mark.End k) last next) k) (pure (found, false)) n (end_of rest) (found ++ [], false) (end_of rest) (no_semicolon rest) (ap (λ (l : List A). (l, false)) (sym (append-nil found)), refl, here))
  ended_from_lands E [] found true zero n rest up indexed enough placed =
      let e = apart.listed.no_put (kind.Mark mark.Semicolon ∷ end_of rest) in
      let same_length = ap (λ (ts : List Kind). length ts) e in
      absurd (omega (arith, enough, same_length))
  ended_from_lands E [] found true (suc turns) n rest up indexed enough placed =
      let e = apart.listed.no_put (kind.Mark mark.Semicolon ∷ end_of rest) in
      let here : Begins total n (kind.Mark mark.Semicolon ∷ end_of rest) = subst (λ (ts : List Kind). Begins total n ts) e placed in
      subst (λ (ts : List Kind). Lands total E (found ++ [], true) (end_of rest) (ended_from item (suc turns) found (on n ts))) (sym e)
      (behind_semicolon E found turns n (end_of rest) (found ++ [], true) (end_of rest) here (λ k q. (ap (λ (l : List A). (l, true)) (sym (append-nil found)), refl, q)))
  ended_from_lands E (x ∷ xs) found c zero n rest up indexed enough placed =
      let ks = put_optional mark.Semicolon c (end_of rest) in
      let e = apart.listed.more_put x xs ks in
      let same_length = ap (λ (ts : List Kind). length ts) e in
      absurd (omega (arith, enough, same_length))
  ended_from_lands E (x ∷ xs) found c (suc turns) n rest up indexed enough placed =
      let ks = put_optional mark.Semicolon c (end_of rest) in
      let e = apart.listed.more_put x xs ks in
      let follow = more.put xs ks in
      let less = grows x follow in
      let same_length = ap (λ (ts : List Kind). length ts) e in
      let here : Begins total n (kind.Mark mark.Semicolon ∷ one.put x follow) = subst (λ (ts : List Kind). Begins total n ts) e placed in
      let deep = apart.listed.more_depth x xs in
      let y : List A × Bool = (found ++ x ∷ xs, c) in
      let next : Parser (List A × Bool) = item >>= (λ x. ended_from item turns (found ++ x ∷ [])) in
      let last : Parser (List A × Bool) = pure (found, true) in
      let goes : (k : ℕ) → Begins total k (one.put x follow) → Lands total E y (end_of rest) (next (on k (one.put x follow))) = λ k q.
      lands_then total (b < one.depth x) E (item (on k (one.put x follow))) (λ x. ended_from item turns (found ++ x ∷ [])) x follow y (end_of rest) (law x k follow q (apart.first_indexed x xs ks indexed)) (λ d. up (omega (arith, deep))) (λ l r.
      subst (λ (all : List A). Lands total E (all, c) (end_of rest) (ended_from item turns (found ++ x ∷ []) (on l follow))) (append_assoc found (x ∷ []) xs)
      (ended_from_lands E xs (found ++ x ∷ []) c turns l rest (λ d. up (omega (arith, deep))) (apart.rest_indexed x xs ks indexed) (omega (arith, enough, less, same_length)) r)) in
      subst (λ (ts : List Kind). Lands total E y (end_of rest) (ended_from item (suc turns) found (on n ts))) (sym e)
      (behind_semicolon E found turns n (one.put x follow) y (end_of rest) here (λ k q.
      subst (λ (s : Bool). Lands total E y (end_of rest) ((cond s last next) (on k (one.put x follow)))) (sym (starts x follow)) (goes k q)))

  ended_before : (E : Type 0) (xs : List A) (c : Bool) (n : ℕ) (rest : List Kind) → (b < all.depth xs → E) → let ks = put_optional mark.Semicolon c (end_of rest) in all.indexed xs ks → Begins total n (all.put xs ks)
      → Lands total E (xs, c) (end_of rest) (ended_list item (on n (all.put xs ks)))
  unfolding ended_list ended_after
  ended_before E [] c n rest up indexed placed = absurd (led.none_indexed (put_optional mark.Semicolon c (end_of rest)) indexed)
  ended_before E (x ∷ xs) c n rest up indexed placed =
      let ks = put_optional mark.Semicolon c (end_of rest) in
      let e = led.led.led_put x xs ks in
      let follow = more.put xs ks in
      let here : Begins total n (one.put x follow) = subst (λ (ts : List Kind). Begins total n ts) e placed in
      let deep = led.led.led_depth x xs in
      subst (λ (ts : List Kind). Lands total E (x ∷ xs, c) (end_of rest) ((item >>= (λ first. ended_after (first ∷ []) item)) (on n ts))) (sym e)
      (lands_then total (b < one.depth x) E (item (on n (one.put x follow))) (λ first. ended_after (first ∷ []) item) x follow (x ∷ xs, c) (end_of rest) (law x n follow here (led.head_indexed x xs ks indexed)) (λ d. up (omega (arith, deep))) (λ k q.
      ended_from_lands E xs (x ∷ []) c (length follow) k rest (λ d. up (omega (arith, deep))) (led.more_indexed x xs ks indexed) (omega arith) q))

  pub ended_lands : LandsAll total b (ended_of all) (ended_list item)
  ended_lands y n ks placed indexed =
      let rest = indexed.1 in
      subst (λ (ts : List Kind). all.indexed y.0 (put_optional mark.Semicolon y.1 ts) → Begins total n (all.put y.0 (put_optional mark.Semicolon y.1 ts)) → Lands total (b < all.depth y.0) y ts (ended_list item (on n (all.put y.0 (put_optional mark.Semicolon y.1 ts))))) (sym indexed.2)
      (λ i p. ended_before (b < all.depth y.0) y.0 y.1 n rest (λ d. d) i p) indexed.0 placed

-- ---- an operator, and what follows it

pub operated_lands : {A B : Type 0} (total b : ℕ) (to : A → Mark) (s : Shape B) (operator : Parser (Option A)) (p : Parser B) (by : Option A → Parser (Option (A × B))) (a : A) (x : B)
    → ((n : ℕ) (ks : List Kind) → Begins total n (kind.Mark (to a) ∷ ks) → Lands total ⊥ (Some a) ks (operator (on n (kind.Mark (to a) ∷ ks)))) → LandsOn total b s p x
    → ((k : Input) → by (Some a) k ≡ (p >>= (λ x. pure (Some (a, x)))) k) → LandsItem total b (operator_of to s) (operator >>= by) (a, x)
operated_lands {A} {B} total b to s operator p by a x first law by_some n ks placed indexed =
    let D = b < s.depth x in
    let rest = s.put x ks in
    lands_then total ⊥ D (operator (on n (kind.Mark (to a) ∷ rest))) by (Some a) rest (Some (a, x)) ks (first n rest placed) (λ d. absurd d) (λ k here.
    subst (λ (r : Outcome (Option (A × B))). Lands total D (Some (a, x)) ks r) (sym (by_some (on k rest)))
    (lands_then total D D (p (on k rest)) (λ x. pure (Some (a, x))) x ks (Some (a, x)) ks (law k ks here indexed) (λ d. d) (λ l q. (refl, refl, q))))

pub operated_ends : {A B : Type 0} (total : ℕ) (operator : Parser (Option A)) (by : Option A → Parser (Option (A × B))) (ks : List Kind) → EndsOn total operator ks → ((k : Input) → by None k ≡ Ok (None, k)) → EndsOn total (operator >>= by) ks
operated_ends {A} {B} total operator by ks end by_none n placed =
    lands_then total ⊥ ⊥ (operator (on n ks)) by None ks None ks (end n placed) (λ d. d) (λ k here.
    subst (λ (r : Outcome (Option (A × B))). Lands total ⊥ None ks r) (sym (by_none (on k ks))) (refl, refl, here))

pub taken_ends : {A : Type 0} (total : ℕ) (o : Option A) (ks : List Kind) → o ≡ None → (n : ℕ) → Begins total n ks → Lands total ⊥ None ks (taken o (on n ks))
taken_ends {A} total o ks e n placed = subst (λ (o : Option A). Lands total ⊥ None ks (taken o (on n ks))) (sym e) (refl, refl, placed)
