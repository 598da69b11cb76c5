-- A program of monitors and processes that is well formed, so that the laws speak of it.
use Rattle.std.proofs.Common.{◌≡◌, ℕ, zero, suc, ◌<◌, ◌≤◌, ◌∙◌, List, [], ◌∷◌, ◌++◌, length, ap, sym, refl, arith}
use Rattle.cp_tree.specs.declared.declaration.SystemKind.TheVariants as system_kind
use Rattle.cp_meaning.specs.Types.{Ty, component_of}
use Rattle.cp_meaning.proofs.Words.{system_of, Component, component_at, component_with, first_components, PathStep, Path, HasNoClass, HasEarlier, IsWellFormed}
use Rattle.cp_meaning.proofs.ComponentTree.{path_at}
use Rattle.cp_meaning.proofs.worked.TracedPrograms.{admits_third}

abbrev five : List Component
five = first_components admits_third

own_path : (n : ℕ) → n < length five → component_with (path_at five n) five ≡ n
own_path (suc (suc (suc (suc (suc n))))) lt = absurd (omega arith)
own_path _ lt = refl

short : (m : ℕ) → length (path_at five m) ≤ 1
short (suc (suc (suc (suc zero)))) = omega arith
short x = omega arith

inner_length : (n : ℕ) → suc n < length five → length (path_at five (suc n)) ≡ 1
inner_length (suc (suc (suc (suc n)))) lt = absurd (omega arith)
inner_length _ lt = refl

longer : (q : Path) (s : PathStep) → length (q ++ s ∷ []) ≡ suc (length q)
longer [] s = refl
longer (t ∷ q) s = ap suc (longer q s)

types_below : (m : ℕ) → length (path_at five m) ≡ 1 → (component_at five m).system < 2
types_below zero e = absurd (omega arith)
types_below (suc (suc (suc (suc (suc n))))) e = absurd (omega arith)
types_below x e = omega arith

contained : (n m : ℕ) (s : PathStep) → n < length five → m < length five → path_at five m ≡ path_at five n ++ s ∷ [] → (component_at five m).system < (component_at five n).system
contained zero m s ln lm e = types_below m (ap length e)
contained (suc n) m s ln lm e =
    let size : length (path_at five m) ≡ suc (length (path_at five (suc n))) = ap length e ∙ longer (path_at five (suc n)) s in
    let one = inner_length n ln in
    let le = short m in
    absurd (omega arith)

place_of_type : Ty → ℕ
place_of_type (component_of k) = k
place_of_type t = 0

is_component : Ty → ℕ
is_component (component_of k) = 1
is_component t = 0

no_class : (k : ℕ) → ((system_of admits_third k).kind ≡ system_kind.Class → ⊥) → HasNoClass admits_third (system_of admits_third k).parameters
unfolding place_of_type is_component
no_class zero h = tt
no_class (suc zero) h = (
  (λ k e class. (let same : 0 ≡ k = ap place_of_type e in let bad : system_kind.Monitor ≡ system_kind.Class = ap (λ j. (system_of admits_third j).kind) same ∙ class in absurd cc)),
  ((λ k e class. (let bad : 0 ≡ 1 = ap is_component e in absurd (omega arith))), tt),
)
no_class (suc (suc k)) h = tt

earlier : (k : ℕ) → HasEarlier k (system_of admits_third k).parameters
unfolding place_of_type is_component
earlier (suc zero) = ((λ j e. (let same : 0 ≡ j = ap place_of_type e in omega arith)), ((λ j e. (let bad : 0 ≡ 1 = ap is_component e in absurd (omega arith))), tt))
earlier _ = tt

pub three_callers_well_formed : IsWellFormed admits_third
three_callers_well_formed =
    record {
      paths = λ n m ln lm e. sym (own_path n ln) ∙ ap (λ q. component_with q five) e ∙ own_path m lm;
      class_parameters = no_class;
      contained_earlier = contained;
      parameters_earlier = earlier;
    }
