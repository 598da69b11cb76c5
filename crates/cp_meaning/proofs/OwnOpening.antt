-- The opening state of a program whose components have distinct paths.
use Rattle.std.proofs.Common.{◌≡◌, ℕ, zero, suc, ◌<◌, ◌≤◌, ◌+◌, ◌⊎◌, inl, inr, List, [], ◌∷◌, length, map, Some, None, refl, arith}
use Rattle.cp_meaning.proofs.Words.{SystemKind, Program, Name, SystemMeaning, system_of, Content, refers, knows, Component, component_at, Process, Discipline, content_of}
use Rattle.cp_meaning.proofs.Words.{least_of, begun, Listed, components_of}
use Rattle.cp_tree.specs.declared.declaration.SystemKind.TheVariants as system_kind
use Rattle.cp_meaning.specs.Steps.{parameter_variables, first_environment, first_component, first_components, unstarted_process, process_first, processes_from, own_begun, opening}
use Rattle.cp_meaning.proofs.ComponentTree.{kind_at, same_tree, own_owner}
use Rattle.cp_meaning.proofs.Held.{permanents_at, IsValue, append_content, least_values}
use Rattle.cp_meaning.proofs.OwnKernel.{OwnedProcess, AllOwned, OwnedState}
use Rattle.cp_meaning.proofs.Exclusion.{program_kind}

first_value : (m : SystemMeaning) (x : Name) (k : Content) → content_of x (first_environment m) ≡ Some k → IsValue k
first_value m x k h = go (append_content x (least_of (parameter_variables m.parameters)) (least_of m.variables) k h)
  where
    go : (content_of x (least_of (parameter_variables m.parameters)) ≡ Some k) ⊎ (content_of x (least_of m.variables) ≡ Some k) → IsValue k
    go (inl t) = least_values x (parameter_variables m.parameters) k t
    go (inr t) = least_values x m.variables k t

pub first_values : (p : Program) (ls : List Listed) (n : ℕ) (x : Name) (k : Content) → content_of x (permanents_at (map (first_component p) ls) n) ≡ Some k → IsValue k
first_values p [] n x k h = absurd (let bad : None ≡ Some k = h in cc)
first_values p (l ∷ ls) zero x k h = first_value (system_of p l.system) x k h
first_values p (l ∷ ls) (suc n) x k h = first_values p ls n x k h

kinds_listed : (p : Program) (ls : List Listed) (n : ℕ) → n < length (map (first_component p) ls) → kind_at (map (first_component p) ls) n ≡ (system_of p (component_at (map (first_component p) ls) n).system).kind
kinds_listed p [] n lt = absurd (omega arith)
kinds_listed p (l ∷ ls) zero lt = refl
kinds_listed p (l ∷ ls) (suc n) lt = kinds_listed p ls n (omega arith)

-- the kind of a component is that of its system type
pub first_kinds : (p : Program) (n : ℕ) → n < length (first_components p) → kind_at (first_components p) n ≡ (system_of p (component_at (first_components p) n).system).kind
first_kinds p n lt = kinds_listed p (components_of p) n lt

unstarted_owned : (base : List Component) (n : ℕ) → n < length base → OwnedProcess base (unstarted_process n)
unstarted_owned base n lt = record { held = tt; bottom = tt; component = lt }

owned_more : (base : List Component) (x : Process) (ps : List Process) → OwnedProcess base x → AllOwned base ps → AllOwned base (x ∷ ps)
owned_more base x ps h k zero lt = h
owned_more base x ps h k (suc q) lt = k q (omega arith)

owned_first : (base : List Component) (k : SystemKind) (n : ℕ) (ps : List Process) → n < length base → AllOwned base ps → AllOwned base (process_first k n ps)
owned_first base system_kind.Process n ps lt h = owned_more base (unstarted_process n) ps (unstarted_owned base n lt) h
owned_first base _ n ps lt h = h

owned_from : (base ds : List Component) (n : ℕ) → n + length ds ≤ length base → AllOwned base (processes_from n ds)
owned_from base [] n le = λ q lt. absurd (omega arith)
owned_from base (d ∷ ds) n le = owned_first base d.kind n (processes_from (suc n) ds) (omega arith) (owned_from base ds (suc n) (omega arith))

begun_owned : (p : Program) (base : List Component) (k : ℕ) → 0 < length base → kind_at base 0 ≡ system_kind.Process → OwnedProcess base (begun 0 (system_of p k))
begun_owned p base k lt kind = record { held = (inl (own_owner base 0 system_kind.Process kind (λ b. cc)), lt, (λ x q t. absurd (let bad : None ≡ Some (refers q) = t in cc)), tt); bottom = refl; component = lt }

owned_begun : (p : Program) (base ds : List Component) (ps : List Process) → 0 < length base → kind_at base 0 ≡ system_kind.Process → AllOwned base ps → AllOwned base (own_begun p ds ps)
owned_begun p base (d ∷ ds) (q ∷ ps) lt kind h = owned_more base (begun 0 (system_of p d.system)) ps (begun_owned p base d.system lt kind) (λ k l. h (suc k) (omega arith))
owned_begun p base _ _ lt kind h = h

first_within : (base : List Component) → (base ≡ [] → ⊥) → 0 < length base
first_within [] h = absurd (h refl)
first_within (c ∷ cs) h = omega arith

is_cons : (c : Component) (cs : List Component) → c ∷ cs ≡ [] → ⊥
is_cons c cs e = absurd cc

pub opening_owned : (p : Program) (g : Discipline) → OwnedState (first_components p) (opening p g)
opening_owned p g =
    let base = first_components p in
    record {
      tree = same_tree base;
      classes = λ n d x t class. absurd (first_values p (components_of p) n x (knows d) t);
      earlier = λ n d x t never. absurd (first_values p (components_of p) n x (knows d) t);
      processes = owned_begun p base base (processes_from 0 base) (first_within base (is_cons _ _)) (program_kind p) (owned_from base base 0 (omega arith));
    }
