-- The tree of components, which no step changes.
use Rattle.std.proofs.Common.{◌≡◌, ℕ, zero, suc, ◌<◌, ◌∙◌, Bool, true, false, ◌&&◌, if◌then◌else◌, List, [], ◌∷◌, ◌++◌, length, set, slice_set, Option, Some, None, ap, ap₂, sym, refl, subst, arith, eqb-true, eq-eqb, length-set}
use Rattle.std.proofs.lemmas.Slice.Eq.{bytes_eq-Decides}
use Rattle.cp_meaning.proofs.Words.{SystemKind, Name, same_name, Component, component_at, component_with}
use Rattle.cp_tree.specs.declared.declaration.SystemKind.TheVariants as system_kind
use Rattle.cp_meaning.specs.Components.{PathStep, Path, step_down, same_element, same_path, around}
use Rattle.cp_meaning.specs.Ownership.{by_kind, owner_from, owner_of}
use Rattle.cp_meaning.proofs.Stored.{field_kept}

abbrev pub path_at : List Component → ℕ → Path
path_at cs n = (component_at cs n).path

abbrev pub kind_at : List Component → ℕ → SystemKind
kind_at cs n = (component_at cs n).kind

pub record SameTree (cs ds : List Component) : Type 0 where
  pub path : (n : ℕ) → path_at ds n ≡ path_at cs n
  pub kind : (n : ℕ) → kind_at ds n ≡ kind_at cs n
  pub system : (n : ℕ) → (component_at ds n).system ≡ (component_at cs n).system
  pub find : (path : Path) → component_with path ds ≡ component_with path cs
  pub size : length ds ≡ length cs

pub same_tree : (cs : List Component) → SameTree cs cs
same_tree cs = record { path = λ n. refl; kind = λ n. refl; system = λ n. refl; find = λ q. refl; size = refl }

pub tree_after : (cs ds es : List Component) → SameTree cs ds → SameTree ds es → SameTree cs es
tree_after cs ds es h k = record { path = λ n. k.path n ∙ h.path n; kind = λ n. k.kind n ∙ h.kind n; system = λ n. k.system n ∙ h.system n; find = λ q. k.find q ∙ h.find q; size = k.size ∙ h.size }

find_set : (q : Path) (cs : List Component) (k : ℕ) (x : Component) → x.path ≡ path_at cs k → component_with q (set cs k x) ≡ component_with q cs
find_set q [] k x e = refl
find_set q (c ∷ cs) zero x e = ap (λ y. if same_path q y then 0 else suc (component_with q cs)) e
find_set q (c ∷ cs) (suc k) x e = ap (λ j. if same_path q c.path then 0 else suc j) (find_set q cs k x e)

pub set_tree : (cs : List Component) (k : ℕ) (x : Component) → x.path ≡ path_at cs k → x.kind ≡ kind_at cs k → x.system ≡ (component_at cs k).system → SameTree cs (slice_set cs k x)
set_tree cs k x e f g =
    record {
      path = field_kept (λ c. c.path) cs k x e;
      kind = field_kept (λ c. c.kind) cs k x f;
      system = field_kept (λ c. c.system) cs k x g;
      find = λ q. find_set q cs k x e;
      size = length-set cs k x;
    }

-- ---- owners

owner_from_same : (cs ds : List Component) → SameTree cs ds → (depth n : ℕ) → owner_from depth ds n ≡ owner_from depth cs n
owner_from_same cs ds t zero n = refl
owner_from_same cs ds t (suc depth) n =
    let there : component_with (around (path_at ds n)) ds ≡ component_with (around (path_at cs n)) cs = t.find (around (path_at ds n)) ∙ ap (λ q. component_with (around q) cs) (t.path n) in
    ap (λ k. by_kind k n (owner_from depth ds (component_with (around (path_at ds n)) ds))) (t.kind n) ∙ ap (by_kind (kind_at cs n) n) (owner_from_same cs ds t depth _ ∙ ap (owner_from depth cs) there)

pub owner_same : (cs ds : List Component) (n : ℕ) → SameTree cs ds → owner_of ds n ≡ owner_of cs n
owner_same cs ds n t = ap (λ q. owner_from (length q) ds n) (t.path n) ∙ owner_from_same cs ds t (length (path_at cs n)) n

own_from : (cs : List Component) (depth n : ℕ) (k : SystemKind) → kind_at cs n ≡ k → (k ≡ system_kind.Class → ⊥) → owner_from depth cs n ≡ n
own_from cs zero n k e h = refl
own_from cs (suc depth) n system_kind.Class e h = absurd (h refl)
own_from cs (suc depth) n x e h = rw e refl

-- a monitor and a process own themselves
pub own_owner : (cs : List Component) (n : ℕ) (k : SystemKind) → kind_at cs n ≡ k → (k ≡ system_kind.Class → ⊥) → owner_of cs n ≡ n
own_owner cs n k e h = own_from cs (length (path_at cs n)) n k e h

-- ---- paths

element_told : (o q : Option ℕ) → same_element o q ≡ true → o ≡ q
element_told None None h = refl
element_told (Some n) (Some m) h = ap Some (eqb-true n m h)
element_told x y h = cc

three : (a b c : Bool) → (a && b && c) ≡ true → (a ≡ true) × (b ≡ true) × (c ≡ true)
three true true true h = (refl, refl, refl)
three x y z h = cc

three_true : (a b c : Bool) → a ≡ true → b ≡ true → c ≡ true → (a && b && c) ≡ true
three_true a b c h k l = rw (h, k, l) refl

path_told : (a b : Path) → same_path a b ≡ true → a ≡ b
path_told [] [] h = refl
path_told (s ∷ a) (t ∷ b) h =
    let parts = three (same_name s.name t.name) (same_element s.element t.element) (same_path a b) h in
    let same : s ≡ t = ap₂ (λ x o. (let r : PathStep = record { name = x; element = o } in r)) ((bytes_eq-Decides s.name t.name).0 parts.0) (element_told s.element t.element parts.1) in
    ap₂ (λ u us. u ∷ us) same (path_told a b parts.2)
path_told x y h = cc

element_same : (o : Option ℕ) → same_element o o ≡ true
element_same None = refl
element_same (Some n) = eq-eqb n n refl

path_same : (a : Path) → same_path a a ≡ true
path_same [] = refl
path_same (s ∷ a) = three_true (same_name s.name s.name) (same_element s.element s.element) (same_path a a) ((bytes_eq-Decides s.name s.name).1 refl) (element_same s.element) (path_same a)

-- a component that is found has the path
pub found : (q : Path) (cs : List Component) → component_with q cs < length cs → path_at cs (component_with q cs) ≡ q
found q [] lt = absurd (omega arith)
found q (c ∷ cs) lt = go (same_path q c.path) refl lt (found q cs)
  where
    go : (b : Bool) → same_path q c.path ≡ b → (if b then 0 else suc (component_with q cs)) < length (c ∷ cs) → (component_with q cs < length cs → path_at cs (component_with q cs) ≡ q) → path_at (c ∷ cs) (if b then 0 else suc (component_with q cs)) ≡ q
    go true e lt rest = sym (path_told q c.path e)
    go false e lt rest = rest (omega arith)

first_within : (cs : List Component) (n : ℕ) → n < length cs → component_with (path_at cs n) cs < length cs
first_within [] n lt = absurd (omega arith)
first_within (c ∷ cs) zero lt = rw (path_same c.path) (omega arith)
first_within (c ∷ cs) (suc n) lt = go (same_path (path_at cs n) c.path) (first_within cs n (omega arith))
  where
    go : (b : Bool) → component_with (path_at cs n) cs < length cs → (if b then 0 else suc (component_with (path_at cs n) cs)) < length (c ∷ cs)
    go true rest = omega arith
    go false rest = omega arith

-- no two components have one path
abbrev pub Distinct : List Component → Type 0
Distinct cs = (n m : ℕ) → n < length cs → m < length cs → path_at cs n ≡ path_at cs m → n ≡ m

with_own_path : (cs : List Component) (n : ℕ) → Distinct cs → n < length cs → component_with (path_at cs n) cs ≡ n
with_own_path cs n distinct lt = distinct _ n (first_within cs n lt) lt (found (path_at cs n) cs (first_within cs n lt))

pub around_step : (q : Path) (s : PathStep) → around (q ++ s ∷ []) ≡ q
around_step (a ∷ b ∷ q) s = ap (λ r. a ∷ r) (around_step (b ∷ q) s)
around_step _ s = refl

one_longer : (q : Path) (s : PathStep) → length (q ++ s ∷ []) ≡ suc (length q)
one_longer [] s = refl
one_longer (a ∷ q) s = ap suc (one_longer q s)

-- a class that a component has as a variable has that component's owner
pub contained_owner : (cs : List Component) (c d : ℕ) (x : Name) (o : Option ℕ) → Distinct cs → c < length cs → d < length cs → d ≡ component_with (step_down (path_at cs c) x o) cs → kind_at cs d ≡ system_kind.Class → owner_of cs d ≡ owner_of cs c
contained_owner cs c d x o distinct lc ld is class =
    let s : PathStep = record { name = x; element = o } in
    let path : path_at cs d ≡ path_at cs c ++ s ∷ [] = ap (path_at cs) is ∙ found (step_down (path_at cs c) x o) cs (subst (λ j. j < length cs) is ld) in
    let size : length (path_at cs d) ≡ suc (length (path_at cs c)) = ap length path ∙ one_longer (path_at cs c) s in
    let up : component_with (around (path_at cs d)) cs ≡ c = ap (λ q. component_with (around q) cs) path ∙ ap (λ q. component_with q cs) (around_step (path_at cs c) s) ∙ with_own_path cs c distinct lc in
    ap (λ n. owner_from n cs d) size ∙ ap (λ k. by_kind k d (owner_from (length (path_at cs c)) cs (component_with (around (path_at cs d)) cs))) class ∙ ap (owner_from (length (path_at cs c)) cs) up

-- what a component contains is of an earlier type
abbrev pub ContainedEarlier : List Component → Type 0
ContainedEarlier cs = (n m : ℕ) (s : PathStep) → n < length cs → m < length cs → path_at cs m ≡ path_at cs n ++ s ∷ [] → (component_at cs m).system < (component_at cs n).system

pub contained_below : (cs : List Component) (c d : ℕ) (x : Name) (o : Option ℕ) → ContainedEarlier cs → c < length cs → d < length cs → d ≡ component_with (step_down (path_at cs c) x o) cs → (component_at cs d).system < (component_at cs c).system
contained_below cs c d x o contained lc ld is =
    contained c d _ lc ld (ap (path_at cs) is ∙ found (step_down (path_at cs c) x o) cs (subst (λ j. j < length cs) is ld))
