-- The kinds of components in the tables, and the numbers of monitors and processes.
use Rattle.std.proofs.Common.{◌≡◌, ◌∙◌, ◌⊎◌, inl, inr, ℕ, zero, suc, ◌<◌, ◌≤◌, ◌==◌, Bool, true, false, if◌then◌else◌, List, [], ◌∷◌, Some, ap, sym, refl, subst, arith, length, eq-eqb}
use Rattle.cp_machine_laws.proofs.Words.{slice_index_or, cases_lt, eqb-true, SystemKind, Program, Tree, ComponentKind, IsItself, IsTyped, after, process_of, book_discipline}
use Rattle.cp_machine_laws.proofs.Words.{Process, State, first_components, opening, Layouts, SameKind, KindsAgree, ground_of, monitors_of}
use Rattle.cp_tree.specs.declared.declaration.SystemKind.TheVariants as system_kind
use Rattle.cp_slots.specs.declared.tables.Component.{Component}
use Rattle.cp_slots.specs.declared.tables.ComponentKind.TheVariants as kind
use Rattle.cp_slots.specs.declared.tables.Process as slot_process
use Rattle.cp_slots.specs.Tables as tables
use Rattle.cp_slots.specs.Tables.{Tables, component_at, process_at}
use Rattle.cp_meaning.specs.State as named
use Rattle.cp_resolved.specs.Resolved.{KindIs, Stands}
use Rattle.cp_machine_laws.proofs.gates.Gates.{OwnNumbers}
use Rattle.cp_machine_laws.proofs.steps.OpeningState.{processes_are}

-- ---- lists

-- what is no class is one of the components
pub kind_within : (cs : List Component) (n : ℕ) → ((slice_index_or cs n tables.no_component).kind ≡ kind.Class → ⊥) → n < length cs
kind_within [] n h = absurd (h refl)
kind_within (c ∷ cs) zero h = omega arith
kind_within (c ∷ cs) (suc n) h = let less = kind_within cs n h in omega (arith, less)

index_past : {A : Type 0} (xs : List A) (n : ℕ) (d : A) → length xs ≤ n → slice_index_or xs n d ≡ d
index_past [] n d le = refl
index_past (x ∷ xs) zero d le = absurd (omega arith)
index_past (x ∷ xs) (suc n) d le = index_past xs n d (omega arith)

-- the process of a component is the only one that has it
pub process_is : (d j : ℕ) (ps : List Process) → j < length ps → (named.process_at ps j).component ≡ d → ((i : ℕ) → i < length ps → (named.process_at ps i).component ≡ d → i ≡ j) → process_of d ps ≡ Some j
process_is d j [] less e only = absurd (omega arith)
process_is d zero (p ∷ ps) less e only = ap (λ (b : Bool). if b then Some 0 else after (process_of d ps)) (eq-eqb p.component d e)
process_is d (suc j) (p ∷ ps) less e only = go (p.component == d) refl (process_is d j ps (omega arith) e (λ i there f. (let same = only (suc i) (omega arith) f in omega (arith, same))))
  where
    go : (b : Bool) → p.component == d ≡ b → process_of d ps ≡ Some j → (if b then Some 0 else after (process_of d ps)) ≡ Some (suc j)
    go true f rest = absurd (let same = only 0 (omega arith) (eqb-true p.component d f) in omega (arith, same))
    go false f rest = ap after rest

same_process : (a b : ℕ) → kind.Process a ≡ kind.Process b → a ≡ b
same_process a b e = cc

-- ---- tables that stand for a tree

module _ (t : Tree) (r : Tables) (l : Layouts) (stands : Stands (ground_of t r) t l) where
  abbrev p : Program
  p = t.program

  abbrev monitors : List ℕ
  monitors = monitors_of (opening p book_discipline)

  pub monitor_there : (n j : ℕ) → (component_at r n).kind ≡ kind.Monitor j → n < length r.components
  monitor_there n j e = kind_within r.components n (λ f. (let bad : kind.Monitor j ≡ kind.Class = sym e ∙ f in cc))

  monitor_listed : (n j : ℕ) → (component_at r n).kind ≡ kind.Monitor j → slice_index_or monitors j (length r.components) ≡ n
  monitor_listed n j e = go (named.component_at (first_components p) n).kind (subst (λ (k : ComponentKind). KindIs r p n (named.component_at (first_components p) n).kind k) e (stands.components n (monitor_there n j e)).kind)
    where
      go : (a : SystemKind) → KindIs r p n a (kind.Monitor j) → slice_index_or monitors j (length r.components) ≡ n
      go system_kind.Monitor h = h
      go system_kind.Process h = absurd h
      go system_kind.Class h = absurd h

  pub own_numbers : OwnNumbers (ground_of t r)
  own_numbers n k j e f = sym (monitor_listed n j e) ∙ monitor_listed k j f

  pub monitor_known : (n j : ℕ) → (component_at r n).kind ≡ kind.Monitor j → j < r.monitors
  monitor_known n j e = go (cases_lt j (length monitors))
    where
      go : (j < length monitors) ⊎ (length monitors ≤ j) → j < r.monitors
      go (inl less) = rw stands.monitor_count less
      go (inr past) =
          let there = monitor_there n j e in
          let same : length r.components ≡ n = sym (index_past monitors j (length r.components) past) ∙ monitor_listed n j e in
          omega (arith, there, same)

  same_kind : (n : ℕ) (a : SystemKind) (k : ComponentKind) → KindIs r p n a k → SameKind a k
  same_kind n system_kind.Process (kind.Process q) h = tt
  same_kind n system_kind.Monitor (kind.Monitor q) h = tt
  same_kind n system_kind.Class kind.Class h = tt
  same_kind n _ _ h = absurd h

  -- where the kinds are those of the opening state
  pub kinds_agree : (s : State) → ((n : ℕ) → (named.component_at s.components n).kind ≡ (named.component_at (first_components p) n).kind) → KindsAgree r s
  kinds_agree s same n less = subst (λ a. SameKind a (component_at r n).kind) (sym (same n)) (same_kind n (named.component_at (first_components p) n).kind (component_at r n).kind (stands.components n less).kind)

  -- ---- processes

  module _ (typed : IsTyped r) where
    pub process_component : (d j : ℕ) → d < length r.components → (component_at r d).kind ≡ kind.Process j → (process_at r j).component ≡ d
    process_component d j less e = subst (λ k. IsItself r k d) e (typed.components d less).itself

    some_process : 0 < length r.processes
    some_process = let e = stands.process_count ∙ ap length (processes_are p book_discipline) in omega (arith, e)

    first_process : (process_at r 0).component ≡ 0
    first_process = (stands.processes 0 some_process).component ∙ ap (λ (xs : List Process). (named.process_at xs 0).component) (processes_are p book_discipline)

    pub process_known : (d j : ℕ) → d < length r.components → (component_at r d).kind ≡ kind.Process j → j < length r.processes
    process_known d j less e = go (cases_lt j (length r.processes))
      where
        -- past the last process, the number would be that of the first one
        go : (j < length r.processes) ⊎ (length r.processes ≤ j) → j < length r.processes
        go (inl there) = there
        go (inr past) =
            let none : 0 ≡ d = sym (ap (λ (x : slot_process.Process). x.component) (index_past r.processes j tables.no_process past)) ∙ process_component d j less e in
            let own : (component_at r d).kind ≡ kind.Process 0 = subst (λ n. (component_at r n).kind ≡ kind.Process 0) (first_process ∙ none) (typed.processes 0 some_process).kind in
            let same : j ≡ 0 = same_process j 0 (sym e ∙ own) in
            let some = some_process in
            omega (arith, some, same)

    -- no other process has the component
    pub process_only : (d i j : ℕ) → (component_at r d).kind ≡ kind.Process j → i < length r.processes → (process_at r i).component ≡ d → i ≡ j
    process_only d i j e less f = same_process i j (sym (subst (λ n. (component_at r n).kind ≡ kind.Process i) f (typed.processes i less).kind) ∙ e)
