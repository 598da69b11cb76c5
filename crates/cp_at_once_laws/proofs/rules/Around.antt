-- A component that stands directly in another one is one of its variables. So a process stands in a process, since no system type has process variables (C13).
use Rattle.std.proofs.Common.{◌≡◌, ℕ, zero, suc, ◌<◌, ◌≤◌, ◌∙◌, ◌⊎◌, inl, inr, true, false, List, [], ◌∷◌, ◌++◌, map, length, slice_get, get_or, Option, Some, None, ap, sym, refl, subst, arith}
use Rattle.std.proofs.lemmas.Option.{slice_get_cases}
use Rattle.cp_at_once_laws.proofs.Words.{SystemKind, IsRead, Program, Tree, IsAccepted, Name, Component, component_at, IsWellFormed, tokens_of}
use Rattle.cp_tree.specs.declared.declaration.SystemKind.TheVariants as system_kind
use Rattle.cp_scope.specs.Scopes.{Names, Shapes, start}
use Rattle.cp_check.specs.declared.types.Spot.TheVariants as spot
use Rattle.cp_check.specs.Faults.{declarations}
use Rattle.cp_check.specs.Types.{may_own}
use Rattle.cp_meaning.specs.Types.{Ty, array_over, component_of, length_of_range}
use Rattle.cp_meaning.specs.Declarations.{Variable}
use Rattle.cp_meaning.specs.Systems.{SystemMeaning, declared, program_system, own_meaning, or_own, system_of}
use Rattle.cp_meaning.specs.Components.{PathStep, Path, Listed, step_down, listed_elements, listed_variable, listed_variables, listed, components_of, around}
use Rattle.cp_meaning.specs.Steps.{first_component, first_components}
use Rattle.cp_resolved.proofs.agreeing.AgreeingTypes.{OwnedAt}
use Rattle.cp_resolved.proofs.agreeing.VariablesAmongNames.{Declares, Counted}
use Rattle.cp_resolved.proofs.counts.FewComponents.{agreed}
use Rattle.cp_meaning.proofs.ComponentTree.{around_step as around_of}

-- ---- lists and paths

abbrev In : Listed → List Listed → Type 0
In l [] = ⊥
In l (x ∷ xs) = (l ≡ x) ⊎ In l xs

in_left : (l : Listed) (xs ys : List Listed) → In l xs → In l (xs ++ ys)
in_left l [] ys h = absurd h
in_left l (x ∷ xs) ys (inl e) = inl e
in_left l (x ∷ xs) ys (inr h) = inr (in_left l xs ys h)

in_right : (l : Listed) (xs ys : List Listed) → In l ys → In l (xs ++ ys)
in_right l [] ys h = h
in_right l (x ∷ xs) ys h = inr (in_right l xs ys h)

in_either : (l : Listed) (xs ys : List Listed) → In l (xs ++ ys) → In l xs ⊎ In l ys
in_either l [] ys h = inr h
in_either l (x ∷ xs) ys (inl e) = inl (inl e)
in_either l (x ∷ xs) ys (inr h) = go (in_either l xs ys h)
  where
    go : In l xs ⊎ In l ys → In l (x ∷ xs) ⊎ In l ys
    go (inl k) = inl (inr k)
    go (inr k) = inr k

some_step : (a : Path) (s : PathStep) → [] ≡ a ++ s ∷ [] → ⊥
some_step [] s e = cc
some_step (x ∷ a) s e = cc

-- ---- what a system type may have as a variable

-- `Q k j`: a system type k may have a component of system type j
module _ (Q : ℕ → ℕ → Type 0) where
  abbrev MayHave : ℕ → Ty → Type 0
  MayHave k (component_of j) = Q k j
  MayHave k (array_over r (component_of j)) = Q k j
  MayHave k t = Unit {0}

  abbrev MayHaveAll : ℕ → List Variable → Type 0
  MayHaveAll k [] = Unit {0}
  MayHaveAll k (v ∷ vs) = MayHave k v.ty × MayHaveAll k vs

  -- the component around is listed too
  record HasAround (ls : List Listed) (l : Listed) : Type 0 where
    outer : Listed
    among : In outer ls
    step : PathStep
    path : l.path ≡ outer.path ++ step ∷ []
    may : Q outer.system l.system

  abbrev Placed : Path → ℕ → List Listed → Listed → Type 0
  Placed path k ls l = ((l.path ≡ path) × (l.system ≡ k)) ⊎ HasAround ls l

  module _ (p : Program) (depth k : ℕ) (path : Path) (ls : List Listed) (head : In (record { path = path; system = k }) ls)
      (inside : (j : ℕ) (q : Path) (l : Listed) → In l (listed p depth j q) → Placed q j (listed p depth j q) l) where
    abbrev AreListed : List Listed → Type 0
    AreListed xs = (y : Listed) → In y xs → In y ls

    in_one : (x : Name) (o : Option ℕ) (j : ℕ) → Q k j → AreListed (listed p depth j (step_down path x o)) → (l : Listed) → In l (listed p depth j (step_down path x o)) → HasAround ls l
    in_one x o j q all l h = go (inside j (step_down path x o) l h)
      where
        go : Placed (step_down path x o) j (listed p depth j (step_down path x o)) l → HasAround ls l
        go (inl e) = record { outer = (let r : Listed = record { path = path; system = k } in r); among = head; step = (let s : PathStep = record { name = x; element = o } in s); path = e.0; may = subst (Q k) (sym e.1) q }
        go (inr c) = record { outer = c.outer; among = all c.outer c.among; step = c.step; path = c.path; may = c.may }

    in_elements : (x : Name) (j count n : ℕ) → Q k j → AreListed (listed_elements (listed p depth j) path x count n) → (l : Listed) → In l (listed_elements (listed p depth j) path x count n) → HasAround ls l
    in_elements x j zero n q all l h = absurd h
    in_elements x j (suc count) n q all l h = go (in_either l (listed p depth j (step_down path x (Some n))) (listed_elements (listed p depth j) path x count (suc n)) h) (λ more i. in_elements x j count (suc n) q more l i)
      where
        go : In l (listed p depth j (step_down path x (Some n))) ⊎ In l (listed_elements (listed p depth j) path x count (suc n)) →
            (AreListed (listed_elements (listed p depth j) path x count (suc n)) → In l (listed_elements (listed p depth j) path x count (suc n)) → HasAround ls l) → HasAround ls l
        go (inl i) later = in_one x (Some n) j q (λ y d. all y (in_left y (listed p depth j (step_down path x (Some n))) (listed_elements (listed p depth j) path x count (suc n)) d)) l i
        go (inr i) later = later (λ y d. all y (in_right y (listed p depth j (step_down path x (Some n))) (listed_elements (listed p depth j) path x count (suc n)) d)) i

    in_variable : (x : Name) (t : Ty) → MayHave k t → AreListed (listed_variable (listed p depth) path x t) → (l : Listed) → In l (listed_variable (listed p depth) path x t) → HasAround ls l
    in_variable x (component_of j) q all l h = in_one x None j q all l h
    in_variable x (array_over r (component_of j)) q all l h = in_elements x j (length_of_range r) 0 q all l h
    in_variable x _ q all l h = absurd h

    in_variables : (vs : List Variable) → MayHaveAll k vs → AreListed (listed_variables (listed p depth) path vs) → (l : Listed) → In l (listed_variables (listed p depth) path vs) → HasAround ls l
    in_variables [] q all l h = absurd h
    in_variables (v ∷ vs) q all l h = go (in_either l (listed_variable (listed p depth) path v.name v.ty) (listed_variables (listed p depth) path vs) h) (λ more i. in_variables vs q.1 more l i)
      where
        go : In l (listed_variable (listed p depth) path v.name v.ty) ⊎ In l (listed_variables (listed p depth) path vs) → (AreListed (listed_variables (listed p depth) path vs) → In l (listed_variables (listed p depth) path vs) → HasAround ls l) → HasAround ls l
        go (inl i) later = in_variable v.name v.ty q.0 (λ y d. all y (in_left y (listed_variable (listed p depth) path v.name v.ty) (listed_variables (listed p depth) path vs) d)) l i
        go (inr i) later = later (λ y d. all y (in_right y (listed_variable (listed p depth) path v.name v.ty) (listed_variables (listed p depth) path vs) d)) i

  module _ (p : Program) (each : (k : ℕ) → MayHaveAll k (system_of p k).variables) where
    placed : (depth k : ℕ) (path : Path) (l : Listed) → In l (listed p depth k path) → Placed path k (listed p depth k path) l
    placed zero k path l h = absurd h
    placed (suc depth) k path l (inl e) = inl (ap (λ (x : Listed). x.path) e, ap (λ (x : Listed). x.system) e)
    placed (suc depth) k path l (inr h) =
        inr (in_variables p depth k path (listed p (suc depth) k path) (inl refl) (λ j q y d. placed depth j q y d) (system_of p k).variables (each k) (λ y d. inr d) l h)

-- ---- by number

number_of : (p : Program) (ls : List Listed) (x : Listed) → In x ls → (n : ℕ) × (n < length (map (first_component p) ls)) × (component_at (map (first_component p) ls) n ≡ first_component p x)
number_of p [] x h = absurd h
number_of p (l ∷ ls) x (inl e) = (0, omega arith, ap (first_component p) (sym e))
number_of p (l ∷ ls) x (inr h) = let there = number_of p ls x h in (suc there.0, (let lt = there.1 in omega (arith, lt)), there.2)

at_number : (p : Program) (ls : List Listed) (n : ℕ) → n < length (map (first_component p) ls) → (x : Listed) × In x ls × (component_at (map (first_component p) ls) n ≡ first_component p x)
at_number p [] n lt = absurd (omega (arith, lt))
at_number p (l ∷ ls) zero lt = (l, inl refl, refl)
at_number p (l ∷ ls) (suc n) lt = let there = at_number p ls n (omega (arith, lt)) in (there.0, inr there.1, there.2)

-- ---- processes

-- a process in it makes it a process
abbrev IsAround : Program → ℕ → ℕ → Type 0
IsAround p k j = (system_of p j).kind ≡ system_kind.Process → (system_of p k).kind ≡ system_kind.Process

abbrev kind_at : Program → ℕ → SystemKind
kind_at p n = (component_at (first_components p) n).kind

abbrev path_at : Program → ℕ → Path
path_at p n = (component_at (first_components p) n).path

process_around : (p : Program) → IsWellFormed p → ((k : ℕ) → MayHaveAll (IsAround p) k (system_of p k).variables) →
    (n m : ℕ) (t : PathStep) → n < length (first_components p) → m < length (first_components p) → path_at p m ≡ path_at p n ++ t ∷ [] → kind_at p m ≡ system_kind.Process → kind_at p n ≡ system_kind.Process
process_around p ok each n m t ln lm e process = go (placed (IsAround p) p each (suc (program_system p)) (program_system p) [] x.0 x.1)
  where
    x : (l : Listed) × In l (components_of p) × (component_at (first_components p) m ≡ first_component p l)
    x = at_number p (components_of p) m lm

    path_here : x.0.path ≡ path_at p n ++ t ∷ []
    path_here = sym (ap (λ (c : Component). c.path) x.2) ∙ e

    go : Placed (IsAround p) [] (program_system p) (components_of p) x.0 → kind_at p n ≡ system_kind.Process
    go (inl h) = absurd (some_step (path_at p n) t (sym h.0 ∙ path_here))
    go (inr a) =
        let k = number_of p (components_of p) a.outer a.among in
        let above : a.outer.path ≡ path_at p n = sym (around_of a.outer.path a.step) ∙ ap around (sym a.path ∙ path_here) ∙ around_of (path_at p n) t in
        let same : k.0 ≡ n = ok.paths k.0 n k.1 ln (ap (λ (c : Component). c.path) k.2 ∙ above) in
        ap (kind_at p) (sym same) ∙ ap (λ (c : Component). c.kind) k.2 ∙ a.may (sym (ap (λ (c : Component). c.kind) x.2) ∙ process)

-- ---- the rule

never_owned : (p : Program) (k j : ℕ) (o : SystemKind) → may_own (Some o) (system_of p j).kind ≡ true → IsAround p k j
never_owned p k j o may process = absurd (go o (subst (λ (i : SystemKind). may_own (Some o) i ≡ true) process may))
  where
    go : (o : SystemKind) → may_own (Some o) system_kind.Process ≡ true → ⊥
    go system_kind.Class e = (let bad : false ≡ true = e in cc)
    go system_kind.Monitor e = (let bad : false ≡ true = e in cc)
    go system_kind.Process e = (let bad : false ≡ true = e in cc)

type_owned : (p : Program) (k : ℕ) (o : SystemKind) (t : Ty) → OwnedAt (tokens_of p) (spot.Permanent (Some o)) t → MayHave (IsAround p) k t
type_owned p k o (component_of j) may = never_owned p k j o may
type_owned p k o (array_over r (component_of j)) may = never_owned p k j o may
type_owned p k o _ may = tt

variables_owned : (p : Program) (k : ℕ) (o : SystemKind) (ss : Shapes) (vs : List Variable) (ds : Names) → Declares (tokens_of p) (spot.Permanent (Some o)) ss vs ds → MayHaveAll (IsAround p) k vs
variables_owned p k o ss [] ds h = tt
variables_owned p k o ss (v ∷ vs) ds h = (type_owned p k o v.ty h.belongs.owned, variables_owned p k o ss vs h.after h.rest)

-- the program is a process
type_of_process : (p : Program) (k : ℕ) → (system_of p k).kind ≡ system_kind.Process → (t : Ty) → MayHave (IsAround p) k t
type_of_process p k is (component_of j) = λ process. is
type_of_process p k is (array_over r (component_of j)) = λ process. is
type_of_process p k is _ = tt

variables_of_process : (p : Program) (k : ℕ) → (system_of p k).kind ≡ system_kind.Process → (vs : List Variable) → MayHaveAll (IsAround p) k vs
variables_of_process p k is [] = tt
variables_of_process p k is (v ∷ vs) = (type_of_process p k is v.ty, variables_of_process p k is vs)

each_owned : (t : Tree) → IsRead t.program → IsAccepted t → (k : ℕ) → MayHaveAll (IsAround t.program) k (system_of t.program k).variables
each_owned t read accepted k = go (slice_get_cases (declared t.program).systems k).1
  where
    here : k < program_system t.program → MayHaveAll (IsAround t.program) k (system_of t.program k).variables
    here lt =
        let c : Counted (tokens_of t.program) t.program k (declarations start t.program).scopes.shapes = (agreed t read accepted).counted k lt in
        variables_owned t.program k (system_of t.program k).kind c.within (system_of t.program k).variables c.there.names.names c.declares

    go : ((m : SystemMeaning) × (k < length (declared t.program).systems) × (slice_get (declared t.program).systems k ≡ Some m) × (get_or (declared t.program).systems k m ≡ m)) ⊎ ((length (declared t.program).systems ≤ k) × (slice_get (declared t.program).systems k ≡ None)) →
        MayHaveAll (IsAround t.program) k (system_of t.program k).variables
    go (inl h) = here h.1
    go (inr h) = variables_of_process t.program k (ap (λ (o : Option SystemMeaning). (or_own (own_meaning (declared t.program) t.program) o).kind) h.1) (system_of t.program k).variables

pub around_known : (t : Tree) → IsRead t.program → IsAccepted t → IsWellFormed t.program →
    (n m : ℕ) (s : PathStep) → n < length (first_components t.program) → m < length (first_components t.program) → (component_at (first_components t.program) m).path ≡ (component_at (first_components t.program) n).path ++ s ∷ [] →
    (component_at (first_components t.program) m).kind ≡ system_kind.Process → (component_at (first_components t.program) n).kind ≡ system_kind.Process
around_known t read accepted ok = process_around t.program ok (each_owned t read accepted)
