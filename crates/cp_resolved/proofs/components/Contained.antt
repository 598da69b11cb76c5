-- Where the components of a variable, or the elements of an array of them, stand in the list of all components.
use Rattle.std.proofs.Common.{◌≡◌, ℕ, zero, suc, ◌+◌, ◌*◌, ◌<◌, ◌≤◌, ◌&&◌, Bool, true, false, if◌then◌else◌, List, [], ◌∷◌, ◌++◌, map, length, Option, Some, None, slice_get, refl, sym, ap, ap₂, subst, ◌∙◌, append_assoc, arith, length-append}
use Rattle.cp_resolved.proofs.Words.{min, eqb-true, eq-eqb, length-map, none-some, same_Some, slice_get_within, bytes_eq-Decides, Program, Contained, most, System}
use Rattle.cp_resolved.proofs.Words.{count_in, Name, same_name, Variable, program_system, component_with, first_component, first_components, system_of}
use Rattle.cp_meaning.specs.Types.{Range, array_over, component_of, length_of_range}
use Rattle.cp_meaning.specs.Components.{PathStep, Path, Listed, step_down, same_element, same_path, listed_elements, listed_variable, listed_variables, listed, components_of}
use Rattle.cp_meaning.specs.State.{Component, component_at, no_component}
use Rattle.cp_resolved.proofs.components.ComponentsStand.{map_there}
use Rattle.cp_resolved.proofs.names.Entries.{entry_at, still_there}
use Rattle.cp_resolved.proofs.systems.OwnedParts.{contained_of, all_contained, AreLow, count_after, FirstIs, contained_append}
use Rattle.cp_resolved.proofs.components.Subtrees.{Subtree, subtree_of, listed_even, elements_even, variables_counted, system_counted}
use Rattle.cp_resolved.proofs.agreeing.AgreeingWritten.{each_left, each_right}

-- ---- paths

pub element_told : (o q : Option ℕ) → same_element o q ≡ true → o ≡ q
element_told None None h = refl
element_told (Some n) (Some m) h = ap Some (eqb-true n m h)
element_told x y h = cc

pub three : (a b c : Bool) → (a && b && c) ≡ true → (a ≡ true) × (b ≡ true) × (c ≡ true)
three true true true h = (refl, refl, refl)
three x y z h = cc

three_true : (a b c : Bool) → a ≡ true → b ≡ true → c ≡ true → (a && b && c) ≡ true
three_true a b c h k l = rw (h, k, l) refl

pub path_told : (a b : Path) → same_path a b ≡ true → a ≡ b
path_told [] [] h = refl
path_told (s ∷ a) (t ∷ b) h =
    let parts = three (same_name s.name t.name) (same_element s.element t.element) (same_path a b) h in
    let same : s ≡ t = ap₂ (λ x o. (let r : PathStep = record { name = x; element = o } in r)) ((bytes_eq-Decides s.name t.name).0 parts.0) (element_told s.element t.element parts.1) in
    ap₂ (λ u us. u ∷ us) same (path_told a b parts.2)
path_told x y h = cc

element_same : (o : Option ℕ) → same_element o o ≡ true
element_same None = refl
element_same (Some n) = eq-eqb n n refl

path_same : (a : Path) → same_path a a ≡ true
path_same [] = refl
path_same (s ∷ a) = three_true (same_name s.name s.name) (same_element s.element s.element) (same_path a a) ((bytes_eq-Decides s.name s.name).1 refl) (element_same s.element) (path_same a)

-- ---- places in lists

pub skipped : {A : Type 0} (xs ys : List A) (i : ℕ) → slice_get (xs ++ ys) (length xs + i) ≡ slice_get ys i
skipped [] ys i = let e : 0 + i ≡ i = omega arith in ap (λ n. slice_get ys n) e
skipped (x ∷ xs) ys i = let e : suc (length xs) + i ≡ suc (length xs + i) = omega arith in ap (λ n. slice_get (x ∷ (xs ++ ys)) n) e ∙ skipped xs ys i

low_right : (s : ℕ) (before : List Variable) (w : Variable) (after vs : List Variable) → vs ≡ before ++ w ∷ after → AreLow s (all_contained vs) → AreLow s (contained_of w.ty)
low_right s before w after vs e h =
    let low : Contained → Type 0 = λ c. c.system < s in
    each_left low (contained_of w.ty) (all_contained after) (each_right low (all_contained before) (all_contained (w ∷ after)) (subst (AreLow s) (ap all_contained e ∙ contained_append before (w ∷ after)) h))

low_before : (s : ℕ) (before : List Variable) (w : Variable) (after vs : List Variable) → vs ≡ before ++ w ∷ after → AreLow s (all_contained vs) → AreLow s (all_contained before)
low_before s before w after vs e h = each_left (λ (c : Contained). c.system < s) (all_contained before) (all_contained (w ∷ after)) (subst (AreLow s) (ap all_contained e ∙ contained_append before (w ∷ after)) h)

listed_append : (inner : ℕ → Path → List Listed) (above : Path) (vs ws : List Variable) → listed_variables inner above (vs ++ ws) ≡ listed_variables inner above vs ++ listed_variables inner above ws
listed_append inner above [] ws = refl
listed_append inner above (v ∷ vs) ws = ap (λ xs. listed_variable inner above v.name v.ty ++ xs) (listed_append inner above vs ws) ∙ sym (append_assoc (listed_variable inner above v.name v.ty) (listed_variables inner above vs) (listed_variables inner above ws))

-- ---- the first of those of an element

at_least : (count i one : ℕ) → i < count → one ≤ count * one
at_least zero i one lt = absurd (omega (arith, lt))
at_least (suc count) i one lt = let e : suc count * one ≡ one + count * one = omega arith in omega (arith, e)

pub listed_first : (p : Program) (depth j : ℕ) (path : Path) → j < depth → slice_get (listed p depth j path) 0 ≡ Some (record { path = path; system = j })
listed_first p zero j path lt = absurd (omega (arith, lt))
listed_first p (suc depth) j path lt = refl

pub elements_first : (p : Program) (depth j : ℕ) → j < depth → ((a b : Path) → length (listed p depth j a) ≡ length (listed p depth j b)) → (above path : Path) (y : Name) (count start i : ℕ) → i < count →
    slice_get (listed_elements (listed p depth j) above y count start) (i * length (listed p depth j path)) ≡ Some (record { path = step_down above y (Some (start + i)); system = j })
elements_first p depth j lt even above path y zero start i less = absurd (omega (arith, less))
elements_first p depth j lt even above path y (suc count) start zero less =
    let here : List Listed = listed p depth j (step_down above y (Some start)) in
    let rest : List Listed = listed_elements (listed p depth j) above y count (suc start) in
    let e : 0 * length (listed p depth j path) ≡ 0 = omega arith in
    let f : start ≡ start + 0 = omega arith in
    ap (λ n. slice_get (here ++ rest) n) e ∙ still_there here rest 0 (record { path = step_down above y (Some start); system = j }) (listed_first p depth j (step_down above y (Some start)) lt) ∙ ap (λ n. Some (record { path = step_down above y (Some n); system = j })) f
elements_first p depth j lt even above path y (suc count) start (suc i) less =
    let here : List Listed = listed p depth j (step_down above y (Some start)) in
    let rest : List Listed = listed_elements (listed p depth j) above y count (suc start) in
    let one : ℕ = length (listed p depth j path) in
    let c = even (step_down above y (Some start)) path in
    let e : suc i * one ≡ length here + i * one = (let z : suc i * one ≡ one + i * one = omega arith in omega (arith, z, c)) in
    let f : suc start + i ≡ start + suc i = omega arith in
    ap (λ n. slice_get (here ++ rest) n) e ∙ skipped here rest (i * one) ∙ elements_first p depth j lt even above path y count (suc start) i (omega (arith, less)) ∙ ap (λ n. Some (record { path = step_down above y (Some n); system = j })) f

module _ (p : Program) (paths : (n m : ℕ) → n < length (first_components p) → m < length (first_components p) → (component_at (first_components p) n).path ≡ (component_at (first_components p) m).path → n ≡ m) where
  path_there : (n : ℕ) (x : Listed) → slice_get (components_of p) n ≡ Some x → (component_at (first_components p) n).path ≡ x.path
  path_there n x e = ap (λ (c : Component). c.path) (entry_at (first_components p) n no_component (first_component p x) (map_there (first_component p) (components_of p) n x e))

  first_with : (xs : List Listed) (n : ℕ) (x : Listed) → slice_get xs n ≡ Some x → ((m : ℕ) (y : Listed) → m < n → slice_get xs m ≡ Some y → same_path x.path y.path ≡ true → ⊥) → component_with x.path (map (first_component p) xs) ≡ n
  first_with [] n x e other = absurd (none-some x e)
  first_with (z ∷ xs) zero x e other = rw (ap (λ (y : Listed). same_path x.path y.path) (same_Some z x e) ∙ path_same x.path) refl
  first_with (z ∷ xs) (suc n) x e other = go (same_path x.path z.path) refl (first_with xs n x e (λ m y lt f g. other (suc m) y (omega (arith, lt)) f g))
    where
      go : (b : Bool) → same_path x.path z.path ≡ b → component_with x.path (map (first_component p) xs) ≡ n → (if b then 0 else suc (component_with x.path (map (first_component p) xs))) ≡ suc n
      go true f rest = absurd (other 0 z (omega arith) refl f)
      go false f rest = ap suc rest

  -- a component is found by its path
  pub found_by_path : (n : ℕ) (x : Listed) → slice_get (components_of p) n ≡ Some x → component_with x.path (first_components p) ≡ n
  found_by_path n x e =
      first_with (components_of p) n x e (λ m y lt f g.
      let many = length-map (components_of p) (first_component p) in
      let a : m < length (components_of p) = slice_get_within (components_of p) m y f in
      let b : n < length (components_of p) = slice_get_within (components_of p) n x e in
      let same : m ≡ n = paths m n (omega (arith, many, a)) (omega (arith, many, b)) (path_there m y f ∙ sym (path_told x.path y.path g) ∙ sym (path_there n x e)) in
      omega (arith, lt, same))

  module _ (low : (k : ℕ) → AreLow k (all_contained (system_of p k).variables)) (ss : List System) (even : length ss ≡ program_system p)
      (counted : (j : ℕ) (s : System) → slice_get ss j ≡ Some s → s.owned.count ≡ count_after ss 1 (all_contained (system_of p j).variables)) (few : length (components_of p) < most) where
    -- what stands inside a component
    inside_is : (n : ℕ) (x : Listed) (y : Name) (first : ℕ) → x.system ≤ program_system p → slice_get (components_of p) n ≡ Some x → (g : FirstIs ss (system_of p x.system).variables y first) → Subtree p low (components_of p) n x →
        (depth : ℕ) × (x.system ≤ depth) × (length (listed_variable (listed p depth) x.path g.variable.name g.variable.ty) ≤ length (components_of p)) × ((i : ℕ) (z : Listed) → slice_get (listed_variable (listed p depth) x.path g.variable.name g.variable.ty) i ≡ Some z → slice_get (components_of p) (n + first + i) ≡ Some z)
    inside_is n x y first high e g s =
        let vs : List Variable = (system_of p x.system).variables in
        let inner : ℕ → Path → List Listed = listed p s.depth in
        let bs : List Listed = listed_variables inner x.path g.before in
        let ws : List Listed = listed_variable inner x.path g.variable.name g.variable.ty in
        let as' : List Listed = listed_variables inner x.path g.after in
        let split : listed_variables inner x.path vs ≡ bs ++ (ws ++ as') = ap (listed_variables inner x.path) g.is ∙ listed_append inner x.path g.before (g.variable ∷ g.after) in
        let whole : components_of p ≡ s.before ++ ((x ∷ (bs ++ (ws ++ as'))) ++ s.after) = s.is ∙ ap (λ zs. s.before ++ ((x ∷ zs) ++ s.after)) split in
        let n0 = length-append s.before ((x ∷ (bs ++ (ws ++ as'))) ++ s.after) in
        let n1 = length-append (bs ++ (ws ++ as')) s.after in
        let n2 = length-append bs (ws ++ as') in
        let n3 = length-append ws as' in
        let n4 : length (components_of p) ≡ length (s.before ++ ((x ∷ (bs ++ (ws ++ as'))) ++ s.after)) = ap (λ (zs : List Listed). length zs) whole in
        let deep = s.deep in
        let c = variables_counted p low ss counted x.system inner (λ j less a b. listed_even p low s.depth j (omega (arith, less, deep)) a b) (λ j less q. system_counted p low ss counted s.depth j (omega (arith, less, deep)) (omega (arith, less, high, even)) q) x.path g.before 1 1 (low_before x.system g.before g.variable g.after vs g.is (low x.system)) (omega arith) in
        let f = g.first in
        let first_is : first ≡ 1 + length bs = omega (arith, f, c, few, n0, n1, n2, n3, n4) in
        let place = s.place in (
          s.depth,
          s.deep,
          omega (arith, n0, n1, n2, n3, n4),
          λ i z h.
              let at : n + first + i ≡ length s.before + suc (length bs + i) = omega (arith, place, first_is) in
              ap (λ m. slice_get (components_of p) m) at ∙ ap (λ (zs : List Listed). slice_get zs (length s.before + suc (length bs + i))) whole ∙ skipped s.before ((x ∷ (bs ++ (ws ++ as'))) ++ s.after) (suc (length bs + i))
              ∙ ap (λ (zs : List Listed). slice_get zs (length bs + i)) (append_assoc bs (ws ++ as') s.after) ∙ skipped bs ((ws ++ as') ++ s.after) i ∙ ap (λ (zs : List Listed). slice_get zs i) (append_assoc ws as' s.after) ∙ still_there ws (as' ++ s.after) i z h,
        )

    tree_of : (n : ℕ) (x : Listed) → slice_get (components_of p) n ≡ Some x → Subtree p low (components_of p) n x
    tree_of n x e = subtree_of p low (suc (program_system p)) (program_system p) (omega arith) [] n x e

    -- the component of a variable
    pub one_lies : (n : ℕ) (x : Listed) (y : Name) (first j : ℕ) → x.system ≤ program_system p → slice_get (components_of p) n ≡ Some x → (g : FirstIs ss (system_of p x.system).variables y first) → g.variable.ty ≡ component_of j → component_with (step_down x.path y None) (first_components p) ≡ n + first
    one_lies n x y first j high e g is =
        let i = inside_is n x y first high e g (tree_of n x e) in
        let lows : AreLow x.system (contained_of (component_of j)) = subst (λ t. AreLow x.system (contained_of t)) is (low_right x.system g.before g.variable g.after (system_of p x.system).variables g.is (low x.system)) in
        let less : j < x.system = lows.0 in
        let deep = i.1 in
        let z : Listed = record { path = step_down x.path y None; system = j } in
        let h : slice_get (listed_variable (listed p i.0) x.path g.variable.name g.variable.ty) 0 ≡ Some z = ap₂ (λ u t. slice_get (listed_variable (listed p i.0) x.path u t) 0) g.name is ∙ listed_first p i.0 j (step_down x.path y None) (omega (arith, less, deep)) in
        found_by_path (n + first + 0) z (i.3 0 z h) ∙ (let w : n + first + 0 ≡ n + first = omega arith in w)

    -- the elements of an array of them
    pub each_lies : (n : ℕ) (x : Listed) (y : Name) (first : ℕ) (r : Range) (j i : ℕ) → x.system ≤ program_system p → slice_get (components_of p) n ≡ Some x → (g : FirstIs ss (system_of p x.system).variables y first) → g.variable.ty ≡ array_over r (component_of j) → i < length_of_range r →
        component_with (step_down x.path y (Some i)) (first_components p) ≡ n + first + i * count_in (slice_get ss j)
    each_lies n x y first r j i high e g is within =
        let q = inside_is n x y first high e g (tree_of n x e) in
        let lows : AreLow x.system (contained_of (array_over r (component_of j))) = subst (λ t. AreLow x.system (contained_of t)) is (low_right x.system g.before g.variable g.after (system_of p x.system).variables g.is (low x.system)) in
        let less : j < x.system = lows.0 in
        let deep = q.1 in
        let fits = q.2 in
        let lt : j < q.0 = omega (arith, less, deep) in
        let one : ℕ = length (listed p q.0 j x.path) in
        let all : List Listed = listed_elements (listed p q.0 j) x.path y (length_of_range r) 0 in
        let same : listed_variable (listed p q.0) x.path g.variable.name g.variable.ty ≡ all = ap₂ (λ u t. listed_variable (listed p q.0) x.path u t) g.name is in
        let z : Listed = record { path = step_down x.path y (Some (0 + i)); system = j } in
        let h : slice_get (listed_variable (listed p q.0) x.path g.variable.name g.variable.ty) (i * one) ≡ Some z = ap (λ (zs : List Listed). slice_get zs (i * one)) same ∙ elements_first p q.0 j lt (listed_even p low q.0 j lt) x.path x.path y (length_of_range r) 0 i within in
        let many : length all ≡ length_of_range r * one = elements_even p low q.0 (listed p q.0) (λ m below a b. listed_even p low q.0 m below a b) j lt x.path x.path y (length_of_range r) 0 in
        let whole : length (listed_variable (listed p q.0) x.path g.variable.name g.variable.ty) ≡ length all = ap (λ (zs : List Listed). length zs) same in
        let count : count_in (slice_get ss j) ≡ min one most = system_counted p low ss counted q.0 j lt (omega (arith, less, high, even)) x.path in
        let some : one ≤ length_of_range r * one = at_least (length_of_range r) i one within in
        let exact : one ≡ count_in (slice_get ss j) = omega (arith, count, some, many, whole, fits, few) in
        let f : 0 + i ≡ i = omega arith in
        ap (λ m. component_with (step_down x.path y (Some m)) (first_components p)) (sym f) ∙ found_by_path (n + first + i * one) z (q.3 (i * one) z h) ∙ ap (λ m. n + first + i * m) exact
