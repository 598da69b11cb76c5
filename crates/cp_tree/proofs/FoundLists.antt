-- What is read by the rules that are made of items: lists of them, and items that may be absent.
use Rattle.std.proofs.Common.{◌≡◌, ◌≤◌, ℕ, zero, suc, Bool, true, false, cond, List, [], ◌∷◌, ◌++◌, length, Option, Some, None, Ok, refl, sym, ap, subst, ◌∙◌, arith, append_assoc}
use Rattle.std.proofs.lemmas.List.{append-nil}
use Rattle.cp_text.specs.declared.token.Kind.{Kind}
use Rattle.cp_text.specs.declared.token.Kind.TheVariants as kind
use Rattle.cp_text.specs.declared.token.Mark.{Mark}
use Rattle.cp_text.specs.declared.token.Mark.TheVariants as mark
use Rattle.cp_tree.specs.Input.{Input, Outcome, Parser, and_then, ◌>>=◌, pure, sees, sees_name, after, advance, eat}
use Rattle.cp_tree.specs.Input as Input
use Rattle.cp_tree.specs.Reading.{many_from, many_after, many, many_on, behind, some, separated, ended_from, ended_after, ended_list, where_named, taken}
use Rattle.cp_tree.specs.Spelling.{put_optional}
use Rattle.cp_tree.specs.SpellingIndexed.{Begins}
use Rattle.cp_tree.proofs.Shapes.{Shape, pair_of, behind_of, all_of, some_of, separated_of, IsListed, IsLed, all_listed}
use Rattle.cp_tree.proofs.Steps.{Found, found_then, found_map, At, begins, took_onto, Taken, Takes, Passed, passed, sees_passes, joined}

-- ---- lists that are built

-- A list is as it has to be where its items are.
pub record IsBuilt {A : Type 0} (one : Shape A) (all : Shape (List A)) : Type 0 where
  pub listed : IsListed one all
  pub no_indexed : (ks : List Kind) → all.indexed [] ks
  pub more_indexed : (x : A) (xs : List A) (ks : List Kind) → one.indexed x (all.put xs ks) → all.indexed xs ks → all.indexed (x ∷ xs) ks

pub record IsBuiltLed {A : Type 0} (one : Shape A) (more all : Shape (List A)) : Type 0 where
  pub led : IsLed one more all
  pub led_indexed : (x : A) (xs : List A) (ks : List Kind) → one.indexed x (more.put xs ks) → more.indexed xs ks → all.indexed (x ∷ xs) ks

pub all_built : {A : Type 0} (s : Shape A) → IsBuilt s (all_of s)
all_built s = record { listed = all_listed s; no_indexed = λ ks. tt; more_indexed = λ x xs ks p q. (p, q) }

pub some_built : {A : Type 0} (s : Shape A) → IsBuiltLed s (all_of s) (some_of s)
some_built s = record { led = record { led_put = λ x xs ks. refl; led_depth = λ x xs. refl }; led_indexed = λ x xs ks p q. (p, q) }

pub separated_built : {A : Type 0} (m : Mark) (s : Shape A) → IsBuiltLed s (all_of (behind_of m s)) (separated_of m s)
separated_built m s = record { led = record { led_put = λ x xs ks. refl; led_depth = λ x xs. refl }; led_indexed = λ x xs ks p q. (p, q) }

-- ---- items

abbrev pub IsItem : {A : Type 0} → (Input → A → Input → Type 0) → Input → Option A → Input → Type 0
IsItem P i None j = j ≡ i
IsItem P i (Some x) j = P i x j

-- The parser reads this shape, or nothing.
abbrev pub MayTake : {A : Type 0} → ℕ → ℕ → Shape A → Parser (Option A) → Type 0
MayTake total b s item = (i : Input) → At total i → Found total (IsItem (Taken total b s) i) (item i)

some_found : {A : Type 0} (total b : ℕ) (s : Shape A) (p : Parser A) → Takes total b s p → (i : Input) → At total i → Found total (IsItem (Taken total b s) i) (some p i)
some_found total b s p law i placed = found_then total (Taken total b s i) (IsItem (Taken total b s) i) (p i) (λ x. pure (Some x)) (law i placed) (λ x j q. q)

pub behind_passed : {A : Type 0} (total b : ℕ) (m : Mark) (s : Shape A) (i k j : Input) (x : A) → Passed total m i k → Taken total b s k x j → Taken total b (behind_of m s) i x j
behind_passed total b m s i k j x q r =
    let one = r.0 in
    (record { spelled = q.rest ∙ ap (λ (ks : List Kind). kind.Mark m ∷ ks) one.spelled; indexed = one.indexed; shallow = one.shallow }, r.1)

-- a value that is made of what was read: a node has the number of its first token
pub made_of : {A C : Type 0} (total b c : ℕ) (s : Shape A) (shape : Shape C) (i j : Input) (x : A) (y : C) → At total i → Taken total b s i x j
    → s.put x j.rest ≡ shape.put y j.rest → (Begins total i.at (s.put x j.rest) → s.indexed x j.rest → shape.indexed y j.rest) → (s.depth x ≤ b → shape.depth y ≤ c) → Taken total c shape i y j
made_of total b c s shape i j x y placed t put indexed shallow =
    let one = t.0 in
    (record { spelled = one.spelled ∙ put; indexed = indexed (begins total i _ placed one.spelled) one.indexed; shallow = shallow one.shallow }, t.1)

-- the same after a mark
pub made_after : {A C : Type 0} (total b c : ℕ) (m : Mark) (s : Shape A) (shape : Shape C) (i k j : Input) (x : A) (y : C) → At total i → Passed total m i k → Taken total b s k x j
    → kind.Mark m ∷ s.put x j.rest ≡ shape.put y j.rest → (Begins total i.at (kind.Mark m ∷ s.put x j.rest) → s.indexed x j.rest → shape.indexed y j.rest) → (s.depth x ≤ b → shape.depth y ≤ c) → Taken total c shape i y j
made_after total b c m s shape i k j x y placed q t put indexed shallow = made_of total b c (behind_of m s) shape i j x y placed (behind_passed total b m s i k j x q t) put indexed shallow

pub behind_takes : {A : Type 0} (total b : ℕ) (m : Mark) (s : Shape A) (p : Parser A) → Takes total b s p → MayTake total b (behind_of m s) (behind m p)
unfolding after
behind_takes {A} total b m s p law i placed =
    let Q : Option A → Input → Type 0 = IsItem (Taken total b (behind_of m s)) i in
    let goes : sees m i ≡ true → Found total Q (some p (advance i)) = λ e.
    let q = sees_passes total m i placed e in
    found_then total (Taken total b s (advance i)) Q (p (advance i)) (λ x j. Ok (Some x, j)) (law (advance i) q.placed) (λ x j r. behind_passed total b m s i (advance i) j x q r) in
    elim (sees m i) as (λ c. sees m i ≡ c → Found total Q ((cond c (some p) (λ j. Ok (None, j))) (cond c (advance i) i))) [
      | true ↦ λ e. goes e
      | false ↦ λ e. refl
    ] refl

pub named_takes : {A : Type 0} (total b : ℕ) (s : Shape A) (p : Parser A) → Takes total b s p → MayTake total b s (where_named p)
named_takes {A} total b s p law i placed =
    let Q : Option A → Input → Type 0 = IsItem (Taken total b s) i in
    elim (sees_name i) as (λ c. Found total Q ((cond c (some p) (λ j. Ok (None, j))) i)) [
      | true ↦ some_found total b s p law i placed
      | false ↦ refl
    ]

-- ---- a mark that may come next

abbrev pub option_shape : Mark → Shape Bool
option_shape m = record { put = put_optional m; indexed = λ c ks. Unit {0}; depth = λ c. 0 }

pub eat_takes : (total b : ℕ) (m : Mark) → Takes total b (option_shape m) (eat m)
unfolding after
eat_takes total b m i placed =
    elim (sees m i) as (λ c. sees m i ≡ c → Taken total b (option_shape m) i c (cond c (advance i) i)) [
      | true ↦ λ e. let q = sees_passes total m i placed e in (record { spelled = q.rest; indexed = tt; shallow = omega arith }, q.placed)
      | false ↦ λ e. (record { spelled = refl; indexed = tt; shallow = omega arith }, placed)
    ] refl

abbrev pub IsTaken : {A : Type 0} → ℕ → (A → Mark) → Input → Option A → Input → Type 0
IsTaken total to i None j = j ≡ i
IsTaken total to i (Some x) j = Passed total (to x) i j

pub taken_found : {A : Type 0} (total : ℕ) (to : A → Mark) (of : Option Mark → Option A) → ((o : Option Mark) (x : A) → of o ≡ Some x → o ≡ Some (to x))
    → (i : Input) → At total i → Found total (IsTaken total to i) (taken (of (Input.mark i)) i)
taken_found total to of law i placed =
    elim (of (Input.mark i)) as (λ o. of (Input.mark i) ≡ o → Found total (IsTaken total to i) (taken o i)) [
      | None ↦ λ e. refl
      | Some x ↦ λ e. passed total (to x) i placed (law (Input.mark i) x e)
    ] refl

-- an operator, and what follows it
abbrev pub operator_of : {A B : Type 0} → (A → Mark) → Shape B → Shape (A × B)
operator_of to s = record { put = λ p ks. kind.Mark (to p.0) ∷ s.put p.1 ks; indexed = λ p. s.indexed p.1; depth = λ p. s.depth p.1 }

pub operated_takes : {A B : Type 0} (total b : ℕ) (to : A → Mark) (s : Shape B) (operator : Parser (Option A)) (p : Parser B) (by : Option A → Parser (Option (A × B)))
    → ((i : Input) → At total i → Found total (IsTaken total to i) (operator i)) → Takes total b s p
    → ((k : Input) → by None k ≡ Ok (None, k)) → ((a : A) (k : Input) → by (Some a) k ≡ (p >>= (λ x. pure (Some (a, x)))) k)
    → MayTake total b (operator_of to s) (operator >>= by)
operated_takes {A} {B} total b to s operator p by first law by_none by_some i placed =
    let Q : Option (A × B) → Input → Type 0 = IsItem (Taken total b (operator_of to s)) i in
    found_then total (IsTaken total to i) Q (operator i) by (first i placed) (λ o k.
    elim o as (λ (o : Option A). IsTaken total to i o k → Found total Q (by o k)) [
      | None ↦ λ q. subst (λ (r : Outcome (Option (A × B))). Found total Q r) (sym (by_none k)) q
      | Some a ↦ λ q. subst (λ (r : Outcome (Option (A × B))). Found total Q r) (sym (by_some a k))
          (found_then total (Taken total b s k) Q (p k) (λ x. pure (Some (a, x))) (law k q.placed) (λ x j r.
          let one = r.0 in
          (record { spelled = q.rest ∙ ap (λ (ks : List Kind). kind.Mark (to a) ∷ ks) one.spelled; indexed = one.indexed; shallow = one.shallow }, r.1)))
    ])

-- ---- many items

abbrev pub IsMany : {A : Type 0} → ℕ → ℕ → Shape (List A) → List A → Input → List A → Input → Type 0
IsMany total b all found i ys j = (xs : List _) × (ys ≡ found ++ xs) × Taken total b all i xs j

none_taken : {A : Type 0} (total b : ℕ) (one : Shape A) (all : Shape (List A)) (built : IsBuilt one all) (i : Input) → At total i → Taken total b all i [] i
none_taken total b one all built i placed = (record { spelled = sym (built.listed.no_put i.rest); indexed = built.no_indexed i.rest; shallow = omega (arith, built.listed.no_depth) }, placed)

more_taken : {A : Type 0} (total b : ℕ) (one : Shape A) (all : Shape (List A)) (built : IsBuilt one all) (i k j : Input) (x : A) (xs : List A) → Taken total b one i x k → Taken total b all k xs j → Taken total b all i (x ∷ xs) j
more_taken total b one all built i k j x xs p q =
    let both = (joined total b one all i k j x xs p q).0 in
    (record { spelled = both.spelled ∙ sym (built.listed.more_put x xs j.rest); indexed = built.more_indexed x xs j.rest both.indexed.0 both.indexed.1; shallow = omega (arith, built.listed.more_depth x xs, both.shallow) }, q.1)

led_taken : {A : Type 0} (total b : ℕ) (one : Shape A) (more all : Shape (List A)) (built : IsBuiltLed one more all) (i k j : Input) (x : A) (xs : List A) → Taken total b one i x k → Taken total b more k xs j → Taken total b all i (x ∷ xs) j
led_taken total b one more all built i k j x xs p q =
    let both = (joined total b one more i k j x xs p q).0 in
    (record { spelled = both.spelled ∙ sym (built.led.led_put x xs j.rest); indexed = built.led_indexed x xs j.rest both.indexed.0 both.indexed.1; shallow = omega (arith, built.led.led_depth x xs, both.shallow) }, q.1)

module _ {A : Type 0} (total b : ℕ) (one : Shape A) (all : Shape (List A)) (built : IsBuilt one all) (item : Parser (Option A)) (law : MayTake total b one item) where
  many_from_found : (n : ℕ) (found : List A) (i : Input) → At total i → Found total (IsMany total b all found i) (many_from item n found i)
  unfolding many_from
  many_from_found zero found i placed = ([], sym (append-nil found), none_taken total b one all built i placed)
  many_from_found (suc n) found i placed =
      let goes : (o : Option A) (k : Input) → IsItem (Taken total b one) i o k → Found total (IsMany total b all found i) (many_on found (many_from item n) o k) = λ o k q.
      elim o as (λ o. IsItem (Taken total b one) i o k → Found total (IsMany total b all found i) (many_on found (many_from item n) o k)) [
        | None ↦ λ q. subst (λ (j : Input). IsMany total b all found i found j) (sym q) ([], sym (append-nil found), none_taken total b one all built i placed)
        | Some x ↦ λ q. found_map total (IsMany total b all (found ++ x ∷ []) k) (IsMany total b all found i) (many_from item n (found ++ x ∷ []) k)
            (many_from_found n (found ++ x ∷ []) k q.1)
            (λ ys j r. (x ∷ r.0, r.1 ∙ append_assoc found (x ∷ []) r.0, more_taken total b one all built i k j x r.0 q r.2))
      ] q in
      found_then total (IsItem (Taken total b one) i) (IsMany total b all found i) (item i) (many_on found (many_from item n)) (law i placed) goes

  pub many_after_found : (found : List A) (i : Input) → At total i → Found total (IsMany total b all found i) (many_after found item i)
  unfolding many_after
  many_after_found found i placed = many_from_found (length i.rest) found i placed

  pub many_takes : Takes total b all (many item)
  many_takes i placed = found_map total (IsMany total b all [] i) (Taken total b all i) (many item i) (many_after_found [] i placed) (λ ys j r. subst (λ (xs : List A). Taken total b all i xs j) (sym r.1) r.2)

-- one item, and then many
pub first_and_many_takes : {A : Type 0} (total b : ℕ) (one next : Shape A) (more all : Shape (List A)) → IsBuilt next more → IsBuiltLed one more all → (p : Parser A) (item : Parser (Option A))
    → Takes total b one p → MayTake total b next item → Takes total b all (p >>= (λ first. many_after (first ∷ []) item))
first_and_many_takes {A} total b one next more all built led p item law again i placed =
    found_then total (Taken total b one i) (Taken total b all i) (p i) (λ first. many_after (first ∷ []) item) (law i placed) (λ x k q.
    found_map total (IsMany total b more (x ∷ []) k) (Taken total b all i) (many_after (x ∷ []) item k) (many_after_found total b next more built item again (x ∷ []) k q.1) (λ ys j r.
    subst (λ (xs : List A). Taken total b all i xs j) (sym r.1) (led_taken total b one more all led i k j x r.0 q r.2)))

pub separated_takes : {A : Type 0} (total b : ℕ) (m : Mark) (one : Shape A) (more all : Shape (List A)) → IsBuilt (behind_of m one) more → IsBuiltLed one more all → (p : Parser A)
    → Takes total b one p → Takes total b all (separated m p)
unfolding separated
separated_takes total b m one more all built led p law i placed = first_and_many_takes total b one (behind_of m one) more all built led p (behind m p) law (behind_takes total b m one p law) i placed

-- ---- items with semicolons between, and maybe one at the end

abbrev pub ended_of : {A : Type 0} → Shape (List A) → Shape (List A × Bool)
ended_of all = pair_of all (option_shape mark.Semicolon)

abbrev IsEnded : {A : Type 0} → ℕ → ℕ → Shape (List A) → List A → Input → List A × Bool → Input → Type 0
IsEnded total b all found i y j = (xs : List _) × (y.0 ≡ found ++ xs) × Taken total b (ended_of all) i (xs, y.1) j

module _ {A : Type 0} (total b : ℕ) (one : Shape A) (more all : Shape (List A)) (built : IsBuilt (behind_of mark.Semicolon one) more) (led : IsBuiltLed one more all) (item : Parser A) (law : Takes total b one item) where
  no_semicolon : (i : Input) → At total i → Taken total b (ended_of more) i ([], false) i
  no_semicolon i placed = joined total b more (option_shape mark.Semicolon) i i i [] false (none_taken total b (behind_of mark.Semicolon one) more built i placed) (record { spelled = refl; indexed = tt; shallow = omega arith }, placed)

  last_semicolon : (i k : Input) → At total i → Passed total mark.Semicolon i k → Taken total b (ended_of more) i ([], true) k
  last_semicolon i k placed q = joined total b more (option_shape mark.Semicolon) i i k [] true (none_taken total b (behind_of mark.Semicolon one) more built i placed) (record { spelled = q.rest; indexed = tt; shallow = omega arith }, q.placed)

  one_more : (i k j : Input) (x : A) (xs : List A) (c : Bool) → Taken total b (behind_of mark.Semicolon one) i x k → Taken total b (ended_of more) k (xs, c) j → Taken total b (ended_of more) i (x ∷ xs, c) j
  one_more i k j x xs c p q =
      let rest = put_optional mark.Semicolon c j.rest in
      let tail = q.0 in
      let both = took_onto b (behind_of mark.Semicolon one) i.rest x k.rest (more.put xs rest) p.0 tail.spelled in
      (record { spelled = both.spelled ∙ sym (built.listed.more_put x xs rest); indexed = (built.more_indexed x xs rest both.indexed tail.indexed.0, tt); shallow = omega (arith, built.listed.more_depth x xs, both.shallow, tail.shallow) }, q.1)

  ended_from_found : (n : ℕ) (found : List A) (i : Input) → At total i → Found total (IsEnded total b more found i) (ended_from item n found i)
  unfolding ended_from after
  ended_from_found zero found i placed = ([], sym (append-nil found), no_semicolon i placed)
  ended_from_found (suc n) found i placed =
      let Q : List A × Bool → Input → Type 0 = IsEnded total b more found i in
      let next : Parser (List A × Bool) = item >>= (λ x. ended_from item n (found ++ x ∷ [])) in
      let last : Parser (List A × Bool) = pure (found, true) in
      let goes : (k : Input) → Passed total mark.Semicolon i k → Found total Q (next k) = λ k q.
      found_then total (Taken total b one k) Q (item k) (λ x. ended_from item n (found ++ x ∷ [])) (law k q.placed) (λ x l r.
      found_map total (IsEnded total b more (found ++ x ∷ []) l) Q (ended_from item n (found ++ x ∷ []) l) (ended_from_found n (found ++ x ∷ []) l r.1)
      (λ y j s. (x ∷ s.0, s.1 ∙ append_assoc found (x ∷ []) s.0, one_more i l j x s.0 y.1 (behind_passed total b mark.Semicolon one i k l x q r) s.2))) in
      let either : (k : Input) → Passed total mark.Semicolon i k → Found total Q ((cond (sees mark.End k) last next) k) = λ k q.
      elim (sees mark.End k) as (λ c. Found total Q ((cond c last next) k)) [
        | true ↦ ([], sym (append-nil found), last_semicolon i k placed q)
        | false ↦ goes k q
      ] in
      let on_more : Parser (List A × Bool) = λ k. (cond (sees mark.End k) last next) k in
      elim (sees mark.Semicolon i) as (λ c. sees mark.Semicolon i ≡ c → Found total Q ((cond c on_more (pure (found, false))) (cond c (advance i) i))) [
        | true ↦ λ e. either (advance i) (sees_passes total mark.Semicolon i placed e)
        | false ↦ λ e. ([], sym (append-nil found), no_semicolon i placed)
      ] refl

  ended_led : (i k j : Input) (x : A) (xs : List A) (c : Bool) → Taken total b one i x k → Taken total b (ended_of more) k (xs, c) j → Taken total b (ended_of all) i (x ∷ xs, c) j
  ended_led i k j x xs c p q =
      let rest = put_optional mark.Semicolon c j.rest in
      let tail = q.0 in
      let both = took_onto b one i.rest x k.rest (more.put xs rest) p.0 tail.spelled in
      (record { spelled = both.spelled ∙ sym (led.led.led_put x xs rest); indexed = (led.led_indexed x xs rest both.indexed tail.indexed.0, tt); shallow = omega (arith, led.led.led_depth x xs, both.shallow, tail.shallow) }, q.1)

  pub ended_takes : Takes total b (ended_of all) (ended_list item)
  unfolding ended_list ended_after
  ended_takes i placed =
      found_then total (Taken total b one i) (Taken total b (ended_of all) i) (item i) (λ first. ended_after (first ∷ []) item) (law i placed) (λ x k q.
      found_map total (IsEnded total b more (x ∷ []) k) (Taken total b (ended_of all) i) (ended_from item (length k.rest) (x ∷ []) k) (ended_from_found (length k.rest) (x ∷ []) k q.1) (λ y j r.
      subst (λ (xs : List A). Taken total b (ended_of all) i (xs, y.1) j) (sym r.1) (ended_led i k j x r.0 y.1 q r.2)))
