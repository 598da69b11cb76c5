-- The kind of a component is that of its system type, also in each state that is reached.
use Rattle.cp_machine_laws.proofs.Words.{◌≡◌, ◌∙◌, ℕ, zero, suc, ◌<◌, List, [], ◌∷◌, ap, sym, refl, subst, arith, length, map, SystemKind, Tree, Program, Tables, component_at}
use Rattle.cp_machine_laws.proofs.Words.{Machine, State, system_of, Layouts, SameKind, ground_of, Prepared, Listed, components_of, first_component}
use Rattle.cp_tree.specs.declared.declaration.SystemKind.TheVariants as system_kind
use Rattle.cp_slots.specs.declared.tables.ComponentKind.TheVariants as kind
use Rattle.cp_meaning.specs.State as named
use Rattle.cp_machine_laws.proofs.HoldsInReached.{HoldsInReached}
use Rattle.cp_machine_laws.proofs.reached.ReadyInReached.{ReadyInReached}

first_kind : (p : Program) (ls : List Listed) (n : ℕ) → n < length ls → (named.component_at (map (first_component p) ls) n).kind ≡ (system_of p (named.component_at (map (first_component p) ls) n).system).kind
first_kind p [] n h = absurd (omega (arith, h))
first_kind p (c ∷ ls) zero h = refl
first_kind p (c ∷ ls) (suc n) h = first_kind p ls n (omega (arith, h))

length_map : (p : Program) (ls : List Listed) → length (map (first_component p) ls) ≡ length ls
length_map p [] = refl
length_map p (c ∷ ls) = ap suc (length_map p ls)

process_kind : (a : SystemKind) (j : ℕ) → SameKind a (kind.Process j) → a ≡ system_kind.Process
process_kind system_kind.Process j h = refl
process_kind a j h = absurd h

module _ (t : Tree) (r : Tables) (l : Layouts) (prepared : Prepared t r l) (s : State) (known : HoldsInReached t.program s) (m : Machine) (ready : ReadyInReached (ground_of t r) t.program s m) (n : ℕ) (there : n < length r.components) where
  pub kind_is : (named.component_at s.components n).kind ≡ (system_of t.program (component_at r n).system).kind
  kind_is =
      let first = first_kind t.program (components_of t.program) n (let a = prepared.stands.count in let b = length_map t.program (components_of t.program) in omega (arith, a, b, there)) in
      known.kind n ∙ (first ∙ ap (λ k. (system_of t.program k).kind) (sym (prepared.stands.components n there).system))

  pub process_type : (j : ℕ) → (component_at r n).kind ≡ kind.Process j → (system_of t.program (component_at r n).system).kind ≡ system_kind.Process
  process_type j e = sym kind_is ∙ process_kind (named.component_at s.components n).kind j (subst (SameKind (named.component_at s.components n).kind) e (ready.kinds n there))
