-- From layer to layer.
use Rattle.std.proofs.Common.{◌≡◌, ◌⊎◌, inl, inr, ⊎_elim, ◌<◌, ◌≤◌, ◌+◌, ℕ, zero, suc, Bool, true, false, ◌&&◌, nat_lt, if◌then◌else◌, List, [], ◌∷◌, length, Some, refl, sym, ap, subst, ◌∙◌, arith}
use Rattle.std.specs.Prelude.{Contains, slice_get}
use Rattle.std.proofs.lemmas.Bool.{ltb-true, cases_order}
use Rattle.std.proofs.lemmas.List.Elements.{Contains-append_left, Contains-append_right, Contains-append_cases, Contains-push, Contains-push_cases}
use Rattle.std.proofs.lemmas.Option.{same_Some, slice_get_read, slice_get_within, get_or_from_slice_get}
use Rattle.cp_layers.proofs.Words.{Tables, Machine, System, StateKey, Marking, Adds}
use Rattle.cp_key.proofs.Keys.{key_tells}
use Rattle.cp_run.specs.Run.{Node, may, those_below, chosen, opened}
use Rattle.cp_layers.specs.Reached.{IsDue, IsReached}
use Rattle.cp_layers.specs.Layers.{AddsNode, AreOwn, IsKeyOf, HasKey, IsLayer, AreReached, FromState, FromLayer}

pub contains_at : {X : Type 0} (xs : List X) (i : ℕ) (x : X) → slice_get xs i ≡ Some x → Contains xs x
contains_at xs i x at = (i, slice_get_within xs i x at, get_or_from_slice_get xs i x x at)

-- ---- who may be chosen

both_first : (a b : Bool) → (a && b) ≡ true → a ≡ true
both_first true b h = refl
both_first false b h = h

may_below : (sys : System Machine) (m : Machine) (p : ℕ) → may sys m p ≡ true → p < sys.processes
unfolding may
may_below sys m p h = ltb-true p sys.processes (both_first (nat_lt p sys.processes) (if sys.is_pending m then sys.in_line m p else sys.is_ready m p) h)

pub those_in : (f : ℕ → Bool) (n p : ℕ) → p < n → f p ≡ true → Contains (those_below n f) p
those_in f zero p lt h = absurd (omega (arith, lt))
those_in f (suc n) p lt h =
    ⊎_elim
    (λ (e : p ≡ n). Contains-append_right (those_below n f) (if f n then n ∷ [] else []) p (subst (λ b. Contains (if b then n ∷ [] else []) p) (sym (sym (ap f e) ∙ h)) (subst (Contains (n ∷ [])) (sym e) (Contains-push [] n))))
    (λ (apart : (p < n) ⊎ (n < p)).
    ⊎_elim
    (λ (less : p < n). Contains-append_left (those_below n f) (if f n then n ∷ [] else []) p (those_in f n p less h))
    (λ (more : n < p). absurd (omega (arith, lt, more)))
    apart)
    (cases_order p n)

none_in : {X : Type 0} (x : X) → Contains [] x → ⊥
none_in x h = let lt = h.1 in absurd (omega (arith, lt))

pub those_pass : (f : ℕ → Bool) (n p : ℕ) → Contains (those_below n f) p → f p ≡ true
those_pass f zero p h = absurd (none_in p h)
those_pass f (suc n) p h = ⊎_elim (λ (l : Contains (those_below n f) p). those_pass f n p l) (λ (c : Contains (if f n then n ∷ [] else []) p). last (f n) refl c) (Contains-append_cases (those_below n f) (if f n then n ∷ [] else []) p h)
  where
    last : (b : Bool) → f n ≡ b → Contains (if b then n ∷ [] else []) p → f p ≡ true
    last true e c = ⊎_elim (λ (l : Contains [] p). absurd (none_in p l)) (λ (is : n ≡ p). sym (ap f is) ∙ e) (Contains-push_cases [] n p c)
    last false e c = absurd (none_in p c)

-- ---- what more choices come to

pub later : {A : Type 0} (marking : Marking A) (sys : System Machine) (steps d k : ℕ) (mark : A) → d ≤ k → IsReached marking sys steps d mark → IsReached marking sys steps k mark
later marking sys steps d k mark le (inl h) = inl h
later marking sys steps d k mark le (inr h) = let lt = h.3 in inr (h.0, h.1, h.2, omega (arith, lt, le), h.4, h.5, h.6)

module _ {A : Type 0} (marking : Marking A) (r : Tables) (sys : System Machine) (steps d : ℕ) (layer : List StateKey) where
  pub from_none : (marks : List A) → AreReached marking sys steps d marks → FromLayer marking r sys steps d layer 0 marks []
  from_none marks is =
      record {
        kept = is.all;
        noted = λ i key m p lt at k y mark h. absurd (omega (arith, lt));
        only = λ mark h. later marking sys steps d (suc d) mark (omega arith) (is.reached mark h);
        found = λ i key m p n lt at k y e. absurd (omega (arith, lt));
        own = λ key h. absurd (none_in key h);
      }

  same_machine : (key other : StateKey) (m n : Machine) (i : ℕ) → slice_get layer i ≡ Some key → slice_get layer i ≡ Some other → IsKeyOf key m → IsKeyOf other n → m ≡ n
  same_machine key other m n i at to k o =
      let one : key ≡ other = same_Some key other (sym at ∙ to) in
      key_tells m n (sym k ∙ ap (λ (x : StateKey). x.bytes.items) one ∙ o)

  pub from_more : (count : ℕ) (key : StateKey) (m : Machine) (ps : List ℕ) (marks marks2 : List A) (next next2 : List StateKey) → FromLayer marking r sys steps d layer count marks next → slice_get layer count ≡ Some key → IsDue sys steps d m → IsKeyOf key m → ps ≡ those_below sys.processes (may sys m) → FromState marking r sys steps m ps marks next marks2 next2 → FromLayer marking r sys steps d layer (count + 1) marks2 next2
  from_more count key m ps marks marks2 next next2 f at due is all g =
      record {
        kept = λ mark h. g.kept mark (f.kept mark h);
        noted = λ i k n p lt to j y mark h.
            ⊎_elim
            (λ (e : i ≡ count). g.noted p (wanted p (sym (ap (λ x. may sys x p) (here i k n e to j)) ∙ y)) mark (subst (λ x. Contains (marking.chosen x p) mark) (here i k n e to j) h))
            (λ (apart : (i < count) ⊎ (count < i)). ⊎_elim (λ (less : i < count). g.kept mark (f.noted i k n p less to j y mark h)) (λ (more : count < i). absurd (omega (arith, lt, more))) apart)
            (cases_order i count);
        only = λ mark h. ⊎_elim (λ (o : Contains marks mark). f.only mark o) (λ (x : (p : ℕ) × Contains ps p × Contains (marking.chosen m p) mark). inr (d, m, x.0, omega arith, due, may_of x.0 x.1, x.2)) (g.only mark h);
        found = λ i k n p o lt to j y e.
            ⊎_elim
            (λ (same : i ≡ count). g.found p o (wanted p (sym (ap (λ x. may sys x p) (here i k n same to j)) ∙ y)) (sym (ap (λ x. chosen sys steps x p) (here i k n same to j)) ∙ e))
            (λ (apart : (i < count) ⊎ (count < i)). ⊎_elim (λ (less : i < count). further o (f.found i k n p o less to j y e)) (λ (more : count < i). absurd (omega (arith, lt, more))) apart)
            (cases_order i count);
        own = λ k h. ⊎_elim (λ (o : Contains next k). f.own k o) (λ x. (x.1, x.3, (m, x.0, due, may_of x.0 x.2, x.4), x.5)) (g.own k h);
      }
    where
      here : (i : ℕ) (k : StateKey) (n : Machine) → i ≡ count → slice_get layer i ≡ Some k → IsKeyOf k n → n ≡ m
      here i k n e to j = same_machine k key n m count (sym (ap (slice_get layer) e) ∙ to) at j is

      wanted : (p : ℕ) → may sys m p ≡ true → Contains ps p
      wanted p y = subst (λ l. Contains l p) (sym all) (those_in (may sys m) sys.processes p (may_below sys m p y) y)

      may_of : (p : ℕ) → Contains ps p → may sys m p ≡ true
      may_of p c = those_pass (may sys m) sys.processes p (subst (λ l. Contains l p) all c)

      further : (o : Machine) → HasKey next o → HasKey next2 o
      further o h = (h.0, g.kept_keys h.0 h.1, h.2)

  pub from_all : (count : ℕ) (marks : List A) (next : List StateKey) → length layer ≤ count → IsLayer r sys steps d layer → FromLayer marking r sys steps d layer count marks next → IsLayer r sys steps (suc d) next × AreReached marking sys steps (suc d) marks
  from_all count marks next le is f = (made, record { reached = f.only; all = all })
    where
      place : (key : StateKey) → Contains layer key → (i : ℕ) × (i < count) × (slice_get layer i ≡ Some key)
      place key c = let lt = c.1 in (c.0, omega (arith, lt, le), slice_get_read layer (length layer) c.0 key refl c.1 (sym c.2))

      made : IsLayer r sys steps (suc d) next
      made =
          record {
            own = f.own;
            all = λ m x.
                (let k = is.all x.0 x.2 in
                let at = place k.0 k.1 in
                f.found at.0 k.0 x.0 x.1 m at.1 at.2 k.2 x.3 x.4);
          }

      noted : (e : ℕ) (m : Machine) (p : ℕ) (mark : A) → e ≡ d → IsDue sys steps e m → may sys m p ≡ true → Contains (marking.chosen m p) mark → Contains marks mark
      noted e m p mark same due y h =
          let k = is.all m (subst (λ i. IsDue sys steps i m) same due) in
          let at = place k.0 k.1 in
          f.noted at.0 k.0 m p at.1 at.2 k.2 y mark h

      all : (mark : A) → IsReached marking sys steps (suc d) mark → Contains marks mark
      all mark (inl h) = f.kept mark (inl h)
      all mark (inr x) =
          let lt = x.3 in
          ⊎_elim
          (λ (e : x.0 ≡ d). noted x.0 x.1 x.2 mark e x.4 x.5 x.6)
          (λ (apart : (x.0 < d) ⊎ (d < x.0)). ⊎_elim (λ (less : x.0 < d). f.kept mark (inr (x.0, x.1, x.2, less, x.4, x.5, x.6))) (λ (more : d < x.0). absurd (omega (arith, lt, more))) apart)
          (cases_order x.0 d)

pub own_keys : (r : Tables) (sys : System Machine) (steps d : ℕ) (keys : List StateKey) → IsLayer r sys steps d keys → AreOwn r keys
own_keys r sys steps d keys is = λ key h. (let x = is.own key h in (x.0, x.1, x.3))

-- a choice is due in the machine of a key
pub key_machine : (r : Tables) (sys : System Machine) (steps d : ℕ) (keys : List StateKey) (i : ℕ) (key : StateKey) (m : Machine) → IsLayer r sys steps d keys → slice_get keys i ≡ Some key → IsKeyOf key m → IsDue sys steps d m
key_machine r sys steps d keys i key m is at k =
    let x = is.own key (contains_at keys i key at) in
    subst (IsDue sys steps d) (key_tells x.0 m (sym x.3 ∙ k)) x.2

-- ---- no choice

pub first_marks : {A : Type 0} (marking : Marking A) (sys : System Machine) (steps : ℕ) (marks : List A) → Adds [] (marking.opened) marks → AreReached marking sys steps 0 marks
first_marks {A = A} marking sys steps marks h =
    record {
      reached = λ mark c. ⊎_elim (λ (n : Contains [] mark). absurd (none_in mark n)) (λ (o : Contains (marking.opened) mark). inl o) (h.only mark c);
      all = all;
    }
  where
    all : (mark : A) → IsReached marking sys steps 0 mark → Contains marks mark
    all mark (inl o) = h.added mark o
    all mark (inr x) = let lt = x.3 in absurd (omega (arith, lt))

pub first_layer : (r : Tables) (sys : System Machine) (steps : ℕ) (keys : List StateKey) → AddsNode r [] (opened sys steps) keys → IsLayer r sys steps 0 keys
first_layer r sys steps keys h =
    record {
      own = λ key c. ⊎_elim (λ (n : Contains [] key). absurd (none_in key n)) (λ x. (x.0, x.1, x.2, x.3)) (h.only key c);
      all = λ m due. h.found m due;
    }

pub same_marks : {A : Type 0} (marking : Marking A) (sys : System Machine) (steps d : ℕ) (a b : List A) → Adds [] a b → AreReached marking sys steps d a → AreReached marking sys steps d b
same_marks marking sys steps d a b h is =
    record {
      reached = λ mark c. ⊎_elim (λ (n : Contains [] mark). absurd (none_in mark n)) (λ (o : Contains a mark). is.reached mark o) (h.only mark c);
      all = λ mark x. h.added mark (is.all mark x);
    }

pub open_layer : (r : Tables) (sys : System Machine) (steps : ℕ) (old keys : List StateKey) (node : Node Machine) → old ≡ [] → opened sys steps ≡ node → AddsNode r old node keys → IsLayer r sys steps 0 keys
open_layer r sys steps old keys node none is h = first_layer r sys steps keys (subst (λ n. AddsNode r [] n keys) (sym is) (subst (λ l. AddsNode r l node keys) none h))
