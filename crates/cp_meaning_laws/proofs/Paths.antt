-- No two components have one path, and what a component contains is of an earlier type.
use Rattle.std.proofs.Common.{◌≡◌, ℕ, zero, suc, ◌<◌, ◌≤◌, ◌∙◌, ◌⊎◌, inl, inr, List, [], ◌∷◌, ◌++◌, map, length, Option, Some, None, ap, sym, refl, subst, arith}
use Rattle.cp_meaning_laws.proofs.Words.{Program, Name, Variable}
use Rattle.cp_meaning.specs.Types.{Ty, array_over, component_of, length_of_range}
use Rattle.cp_meaning.specs.Systems.{system_of, program_system}
use Rattle.cp_meaning.specs.Components.{PathStep, Path, Listed, step_down, listed_elements, listed_variable, listed_variables, listed, components_of}
use Rattle.cp_meaning.specs.State.{Component, component_at}
use Rattle.cp_meaning.specs.Steps.{first_component, first_components}
use Rattle.cp_meaning_laws.proofs.Earlier.{TyBelow, VariablesBelow, systems_below}

-- ---- variables of different names

abbrev pub IsNamed : Name → List Variable → Type 0
IsNamed x [] = ⊥
IsNamed x (v ∷ vs) = (x ≡ v.name) ⊎ IsNamed x vs

abbrev pub AreDistinct : List Variable → Type 0
AreDistinct [] = Unit {0}
AreDistinct (v ∷ vs) = (IsNamed v.name vs → ⊥) × AreDistinct vs

-- ---- lists of components

abbrev Each : (Listed → Type 0) → List Listed → Type 0
Each P [] = Unit {0}
Each P (l ∷ ls) = P l × Each P ls

each_to : (P Q : Listed → Type 0) (ls : List Listed) → ((l : Listed) → P l → Q l) → Each P ls → Each Q ls
each_to P Q [] f h = tt
each_to P Q (l ∷ ls) f h = (f l h.0, each_to P Q ls f h.1)

each_append : (P : Listed → Type 0) (xs ys : List Listed) → Each P xs → Each P ys → Each P (xs ++ ys)
each_append P [] ys h g = g
each_append P (x ∷ xs) ys h g = (h.0, each_append P xs ys h.1 g)

-- two components, neither at the path of the other; if one contains the other, then the inner one is of the earlier type
abbrev Differ : Listed → Listed → Type 0
Differ a b = (a.path ≡ b.path → ⊥) × ((s : PathStep) → b.path ≡ a.path ++ s ∷ [] → b.system < a.system) × ((s : PathStep) → a.path ≡ b.path ++ s ∷ [] → a.system < b.system)

abbrev Pairs : List Listed → Type 0
Pairs [] = Unit {0}
Pairs (l ∷ ls) = Each (Differ l) ls × Pairs ls

pairs_append : (xs ys : List Listed) → Pairs xs → Pairs ys → Each (λ x. Each (Differ x) ys) xs → Pairs (xs ++ ys)
pairs_append [] ys h g across = g
pairs_append (x ∷ xs) ys h g across = (each_append (Differ x) xs ys h.0 across.0, pairs_append xs ys h.1 g across.1)

-- ---- paths

abbrev tail_of : Path → Path
tail_of [] = []
tail_of (s ∷ q) = q

abbrev head_or : PathStep → Path → PathStep
head_or d [] = d
head_or d (s ∷ q) = s

cancel : (a b c : Path) → a ++ b ≡ a ++ c → b ≡ c
cancel [] b c e = e
cancel (s ∷ a) b c e = cancel a b c (ap tail_of e)

assoc : (a b c : Path) → (a ++ b) ++ c ≡ a ++ (b ++ c)
assoc [] b c = refl
assoc (s ∷ a) b c = ap (λ q. s ∷ q) (assoc a b c)

with_nothing : (a : Path) → a ≡ a ++ []
with_nothing [] = refl
with_nothing (s ∷ a) = ap (λ q. s ∷ q) (with_nothing a)

not_longer : (a : Path) (s : PathStep) (q : Path) → a ≡ a ++ s ∷ q → ⊥
not_longer a s q e = let bad : [] ≡ s ∷ q = cancel a [] (s ∷ q) (sym (with_nothing a) ∙ e) in cc

-- ---- below a path

-- a component that is below a path by a step
abbrev Under : Path → (PathStep → Type 0) → Listed → Type 0
Under above P l = (s : PathStep) × (q : Path) × (l.path ≡ above ++ s ∷ q) × P s

apart : (above : Path) (P Q : PathStep → Type 0) → ((s : PathStep) → P s → Q s → ⊥) → (a b : Listed) → Under above P a → Under above Q b → Differ a b
apart above P Q disjoint a b ua ub = (
  (λ e. clash ua.1 ub.1 (sym ua.2 ∙ e ∙ ub.2)),
  (λ s e. absurd (clash (ua.1 ++ s ∷ []) ub.1 (sym (longer a ua.0 ua.1 s ua.2) ∙ sym e ∙ ub.2))),
  (λ s e. absurd (clash ua.1 (ub.1 ++ s ∷ []) (sym ua.2 ∙ e ∙ longer b ub.0 ub.1 s ub.2))),
)
  where
    clash : (q r : Path) → above ++ ua.0 ∷ q ≡ above ++ ub.0 ∷ r → ⊥
    clash q r e = disjoint ub.0 (subst P (ap (head_or ua.0) (cancel above (ua.0 ∷ q) (ub.0 ∷ r) e)) ua.3) ub.3

    longer : (l : Listed) (t : PathStep) (q : Path) (s : PathStep) → l.path ≡ above ++ t ∷ q → l.path ++ s ∷ [] ≡ above ++ t ∷ (q ++ s ∷ [])
    longer l t q s e = ap (λ p. p ++ s ∷ []) e ∙ assoc above (t ∷ q) (s ∷ [])

-- ---- the components that a component contains, and a component with them

-- the first stands at the path and is of system type j
pub record Inner (q : Path) (j : ℕ) (ls : List Listed) : Type 0 where
  pub within : Each (λ l. (r : Path) × (l.path ≡ q ++ r)) ls
  pub pairs : Pairs ls
  pub own : Each (λ l. l.path ≡ q → l.system ≡ j) ls

-- what stands below the path by steps that fit, directly only of types before k
pub record Outer (above : Path) (k : ℕ) (P : PathStep → Type 0) (ls : List Listed) : Type 0 where
  pub under : Each (Under above P) ls
  pub pairs : Pairs ls
  pub tops : Each (λ l. (s : PathStep) → l.path ≡ above ++ s ∷ [] → l.system < k) ls

no_outer : (above : Path) (k : ℕ) (P : PathStep → Type 0) → Outer above k P []
no_outer above k P = record { under = tt; pairs = tt; tops = tt }

weaker : (above : Path) (k : ℕ) (P Q : PathStep → Type 0) (ls : List Listed) → ((s : PathStep) → P s → Q s) → Outer above k P ls → Outer above k Q ls
weaker above k P Q ls f h = record { under = each_to (Under above P) (Under above Q) ls (λ l u. (u.0, u.1, u.2, f u.0 u.3)) h.under; pairs = h.pairs; tops = h.tops }

joined : (above : Path) (k : ℕ) (P Q R : PathStep → Type 0) (xs ys : List Listed) → ((s : PathStep) → P s → Q s → ⊥) → ((s : PathStep) → P s → R s) → ((s : PathStep) → Q s → R s) → Outer above k P xs → Outer above k Q ys → Outer above k R (xs ++ ys)
joined above k P Q R xs ys disjoint f g h i =
    record {
      under = each_append (Under above R) xs ys (weaker above k P R xs f h).under (weaker above k Q R ys g i).under;
      pairs = pairs_append xs ys h.pairs i.pairs (each_to (Under above P) (λ x. Each (Differ x) ys) xs (λ x u. each_to (Under above Q) (Differ x) ys (λ y v. apart above P Q disjoint x y u v) i.under) h.under);
      tops = each_append (λ l. (s : PathStep) → l.path ≡ above ++ s ∷ [] → l.system < k) xs ys h.tops i.tops;
    }

abbrev a_step : Name → Option ℕ → PathStep
a_step x o = record { name = x; element = o }

abbrev StepIs : Name → Option ℕ → PathStep → Type 0
StepIs x o s = s ≡ a_step x o

tops_of : (above : Path) (k j : ℕ) (x : Name) (o : Option ℕ) (ls : List Listed) → j < k → Each (λ l. (r : Path) × (l.path ≡ step_down above x o ++ r)) ls → Each (λ l. l.path ≡ step_down above x o → l.system ≡ j) ls → Each (λ l. (s : PathStep) → l.path ≡ above ++ s ∷ [] → l.system < k) ls
tops_of above k j x o [] lt within own = tt
tops_of above k j x o (l ∷ ls) lt within own = ((λ s e. go s e), tops_of above k j x o ls lt within.1 own.1)
  where
    go : (s : PathStep) → l.path ≡ above ++ s ∷ [] → l.system < k
    go s e =
        let nothing : within.0.0 ≡ [] = ap tail_of (cancel above (a_step x o ∷ within.0.0) (s ∷ []) (sym (assoc above (a_step x o ∷ []) within.0.0) ∙ sym within.0.1 ∙ e)) in
        let here : l.path ≡ step_down above x o = within.0.1 ∙ ap (λ r. step_down above x o ++ r) nothing ∙ sym (with_nothing (step_down above x o)) in
        subst (λ i. i < k) (sym (own.0 here)) lt

lifted : (above : Path) (k j : ℕ) (x : Name) (o : Option ℕ) (ls : List Listed) → j < k → Inner (step_down above x o) j ls → Outer above k (StepIs x o) ls
lifted above k j x o ls lt h =
    record {
      under = each_to (λ l. (r : Path) × (l.path ≡ step_down above x o ++ r)) (Under above (StepIs x o)) ls (λ l w. (a_step x o, w.0, w.1 ∙ assoc above (a_step x o ∷ []) w.0, refl)) h.within;
      pairs = h.pairs;
      tops = tops_of above k j x o ls lt h.within h.own;
    }

-- ---- arrays, variables

-- an element of an array from the place n on
abbrev StepFrom : Name → ℕ → PathStep → Type 0
StepFrom x n s = (s.name ≡ x) × ((i : ℕ) × (s.element ≡ Some i) × (n ≤ i))

abbrev place_or : ℕ → Option ℕ → ℕ
place_or d None = d
place_or d (Some n) = n

apart_elements : (x : Name) (n : ℕ) (s : PathStep) → StepIs x (Some n) s → StepFrom x (suc n) s → ⊥
apart_elements x n s is from =
    let same : n ≡ from.1.0 = ap (place_or 0) (sym (ap (λ (t : PathStep). t.element) is) ∙ from.1.1) in
    let above : suc n ≤ from.1.0 = from.1.2 in
    omega arith

elements : (above : Path) (k j : ℕ) (x : Name) (inner : Path → List Listed) → j < k → ((q : Path) → Inner q j (inner q)) → (count n : ℕ) → Outer above k (StepFrom x n) (listed_elements inner above x count n)
elements above k j x inner lt h zero n = no_outer above k (StepFrom x n)
elements above k j x inner lt h (suc count) n =
    joined above k (StepIs x (Some n)) (StepFrom x (suc n)) (StepFrom x n) (inner (step_down above x (Some n))) (listed_elements inner above x count (suc n))
    (apart_elements x n)
    (λ s is. (ap (λ (t : PathStep). t.name) is, (n, ap (λ (t : PathStep). t.element) is, omega arith)))
    (λ s from. (from.0, (from.1.0, from.1.1, (let le = from.1.2 in omega arith))))
    (lifted above k j x (Some n) (inner (step_down above x (Some n))) lt (h (step_down above x (Some n))))
    (elements above k j x inner lt h count (suc n))

abbrev StepNamed : Name → PathStep → Type 0
StepNamed x s = s.name ≡ x

variable : (above : Path) (k : ℕ) (inner : ℕ → Path → List Listed) → ((j : ℕ) (q : Path) → Inner q j (inner j q)) → (x : Name) (t : Ty) → TyBelow k t → Outer above k (StepNamed x) (listed_variable inner above x t)
variable above k inner h x (component_of j) lt = weaker above k (StepIs x None) (StepNamed x) (inner j (step_down above x None)) (λ s is. ap (λ (t : PathStep). t.name) is) (lifted above k j x None (inner j (step_down above x None)) lt (h j (step_down above x None)))
variable above k inner h x (array_over r (component_of j)) lt = weaker above k (StepFrom x 0) (StepNamed x) (listed_elements (inner j) above x (length_of_range r) 0) (λ s from. from.0) (elements above k j x (inner j) lt (h j) (length_of_range r) 0)
variable above k inner h x _ lt = no_outer above k (StepNamed x)

abbrev StepAmong : List Variable → PathStep → Type 0
StepAmong vs s = IsNamed s.name vs

variables : (above : Path) (k : ℕ) (inner : ℕ → Path → List Listed) → ((j : ℕ) (q : Path) → Inner q j (inner j q)) → (vs : List Variable) → AreDistinct vs → VariablesBelow k vs → Outer above k (StepAmong vs) (listed_variables inner above vs)
variables above k inner h [] distinct below = no_outer above k (StepAmong [])
variables above k inner h (v ∷ vs) distinct below =
    joined above k (StepNamed v.name) (StepAmong vs) (StepAmong (v ∷ vs)) (listed_variable inner above v.name v.ty) (listed_variables inner above vs)
    (λ s is among. distinct.0 (subst (λ y. IsNamed y vs) is among))
    (λ s is. inl is)
    (λ s among. inr among)
    (variable above k inner h v.name v.ty below.0)
    (variables above k inner h vs distinct.1 below.1)

-- ---- all components

head_differs : (path : Path) (k : ℕ) (l : Listed) → Under path (λ s. Unit {0}) l → ((s : PathStep) → l.path ≡ path ++ s ∷ [] → l.system < k) → Differ (let h : Listed = record { path = path; system = k } in h) l
head_differs path k l u top = (
  (λ e. not_longer path u.0 u.1 (e ∙ u.2)),
  top,
  (λ s e. absurd (not_longer path u.0 (u.1 ++ s ∷ []) (e ∙ ap (λ q. q ++ s ∷ []) u.2 ∙ assoc path (u.0 ∷ u.1) (s ∷ [])))),
)

heads_differ : (path : Path) (k : ℕ) (P : PathStep → Type 0) (ls : List Listed) → Each (Under path P) ls → Each (λ l. (s : PathStep) → l.path ≡ path ++ s ∷ [] → l.system < k) ls → Each (Differ (let h : Listed = record { path = path; system = k } in h)) ls
heads_differ path k P [] u tops = tt
heads_differ path k P (l ∷ ls) u tops = (head_differs path k l (u.0.0, u.0.1, u.0.2, tt) tops.0, heads_differ path k P ls u.1 tops.1)

abbrev pub HasDistinct : Program → Type 0
HasDistinct p = (k : ℕ) → AreDistinct (system_of p k).variables

inner_of : (p : Program) → HasDistinct p → (depth k : ℕ) (path : Path) → Inner path k (listed p depth k path)
inner_of p distinct zero k path = record { within = tt; pairs = tt; own = tt }
inner_of p distinct (suc depth) k path =
    let outer = variables path k (listed p depth) (inner_of p distinct depth) (system_of p k).variables (distinct k) (systems_below p k).1 in
    record {
      within = (([], with_nothing path), each_to (Under path (StepAmong (system_of p k).variables)) (λ l. (r : Path) × (l.path ≡ path ++ r)) (listed_variables (listed p depth) path (system_of p k).variables) (λ l u. (u.0 ∷ u.1, u.2)) outer.under);
      pairs = (heads_differ path k (StepAmong (system_of p k).variables) (listed_variables (listed p depth) path (system_of p k).variables) outer.under outer.tops, outer.pairs);
      own = ((λ e. refl), each_to (Under path (StepAmong (system_of p k).variables)) (λ l. l.path ≡ path → l.system ≡ k) (listed_variables (listed p depth) path (system_of p k).variables) (λ l u e. absurd (not_longer path u.0 u.1 (sym e ∙ u.2))) outer.under);
    }

all_pairs : (p : Program) → HasDistinct p → Pairs (components_of p)
all_pairs p distinct = (inner_of p distinct (suc (program_system p)) (program_system p) []).pairs

-- ---- by number

element_of : (p : Program) (P : Listed → Type 0) (ls : List Listed) (n : ℕ) → n < length (map (first_component p) ls) → Each P ls → (l : Listed) × P l × (component_at (map (first_component p) ls) n ≡ first_component p l)
element_of p P [] n lt h = absurd (omega arith)
element_of p P (l ∷ ls) zero lt h = (l, h.0, refl)
element_of p P (l ∷ ls) (suc n) lt h = element_of p P ls n (omega arith) h.1

abbrev path_at : List Component → ℕ → Path
path_at cs n = (component_at cs n).path

distinct_by_number : (p : Program) (ls : List Listed) → Pairs ls → (n m : ℕ) → n < length (map (first_component p) ls) → m < length (map (first_component p) ls) → path_at (map (first_component p) ls) n ≡ path_at (map (first_component p) ls) m → n ≡ m
distinct_by_number p [] h n m ln lm e = absurd (omega arith)
distinct_by_number p (l ∷ ls) h zero zero ln lm e = refl
distinct_by_number p (l ∷ ls) h zero (suc m) ln lm e = let there = element_of p (Differ l) ls m (omega arith) h.0 in absurd (there.1.0 (e ∙ ap (λ (c : Component). c.path) there.2))
distinct_by_number p (l ∷ ls) h (suc n) zero ln lm e = let there = element_of p (Differ l) ls n (omega arith) h.0 in absurd (there.1.0 (sym e ∙ ap (λ (c : Component). c.path) there.2))
distinct_by_number p (l ∷ ls) h (suc n) (suc m) ln lm e = ap suc (distinct_by_number p ls h.1 n m (omega arith) (omega arith) e)

pub distinct_paths : (p : Program) → HasDistinct p → (n m : ℕ) → n < length (first_components p) → m < length (first_components p) → path_at (first_components p) n ≡ path_at (first_components p) m → n ≡ m
distinct_paths p distinct = distinct_by_number p (components_of p) (all_pairs p distinct)

contained_by_number : (p : Program) (ls : List Listed) → Pairs ls → (n m : ℕ) (s : PathStep) → n < length (map (first_component p) ls) → m < length (map (first_component p) ls) → path_at (map (first_component p) ls) m ≡ path_at (map (first_component p) ls) n ++ s ∷ [] → (component_at (map (first_component p) ls) m).system < (component_at (map (first_component p) ls) n).system
contained_by_number p [] h n m s ln lm e = absurd (omega arith)
contained_by_number p (l ∷ ls) h zero zero s ln lm e = absurd (not_longer l.path s [] e)
contained_by_number p (l ∷ ls) h zero (suc m) s ln lm e =
    let there = element_of p (Differ l) ls m (omega arith) h.0 in
    subst (λ (c : Component). c.system < l.system) (sym there.2) (there.1.1 s (sym (ap (λ (c : Component). c.path) there.2) ∙ e))
contained_by_number p (l ∷ ls) h (suc n) zero s ln lm e =
    let there = element_of p (Differ l) ls n (omega arith) h.0 in
    subst (λ (c : Component). l.system < c.system) (sym there.2) (there.1.2 s (e ∙ ap (λ (c : Component). c.path ++ s ∷ []) there.2))
contained_by_number p (l ∷ ls) h (suc n) (suc m) s ln lm e = contained_by_number p ls h.1 n m s (omega arith) (omega arith) e

pub contained_earlier : (p : Program) → HasDistinct p → (n m : ℕ) (s : PathStep) → n < length (first_components p) → m < length (first_components p) → path_at (first_components p) m ≡ path_at (first_components p) n ++ s ∷ [] → (component_at (first_components p) m).system < (component_at (first_components p) n).system
contained_earlier p distinct = contained_by_number p (components_of p) (all_pairs p distinct)
