-- What changed in components and in their variables, one by one.
use Rattle.std.proofs.Common.{◌≡◌, ℕ, ◌+◌, ◌<◌, ◌≤◌, ℤ, List, [], ◌∷◌, ◌++◌, length, get_or, take, map, refl, ap, ◌∙◌, add-one}
use Rattle.std.proofs.Math.Seq.{take-suc}
use Rattle.std.proofs.lemmas.List.{append-nil, map-append, take_all}
use Rattle.std.proofs.lemmas.Grind.{flat_map-append}
use Rattle.std.specs.Prelude.{flat_map}
use Rattle.cp_legend.specs.declared.legend.LegendComponent.{LegendComponent}
use Rattle.cp_legend.specs.declared.legend.Variable as code_variable
use Rattle.cp_legend.specs.Names.{Legend, Named, component_seen, variable_seen}
use Rattle.cp_story.specs.Changes.{change_of, changes_of}

module _ {A B X : Type 0} (see : A → B) (f : B → List X) (xs : List A) (i : ℕ) where
  step : (x : A) → i < length xs → x ≡ get_or xs i x → flat_map f (map see (take (i + 1) xs)) ≡ flat_map f (map see (take i xs)) ++ f (see x)
  step x within here =
      rw (add-one, take-suc xs i x within, ← here)
      (ap (flat_map f) (map-append see (take i xs) (x ∷ []))
      ∙ flat_map-append f (map see (take i xs)) (see x ∷ [])
      ∙ ap (λ (ys : List X). flat_map f (map see (take i xs)) ++ ys) (append-nil (f (see x))))

  none : length xs ≤ i → flat_map f (map see (take i xs)) ≡ flat_map f (map see xs)
  none h = rw (take_all i xs h) refl

module _ (l : Legend) (before now : List ℤ) where
  module _ (cs : List LegendComponent) (i : ℕ) where
    pub components_step : (c : LegendComponent) → i < length cs → c ≡ get_or cs i c → flat_map (changes_of l before now) (map component_seen (take (i + 1) cs)) ≡ flat_map (changes_of l before now) (map component_seen (take i cs)) ++ changes_of l before now (component_seen c)
    components_step = step component_seen (changes_of l before now) cs i

    pub components_none : length cs ≤ i → flat_map (changes_of l before now) (map component_seen (take i cs)) ≡ flat_map (changes_of l before now) (map component_seen cs)
    components_none = none component_seen (changes_of l before now) cs i

  module _ (c : Named) (monitor : ℕ) (vs : List code_variable.Variable) (i : ℕ) where
    pub variables_step : (v : code_variable.Variable) → i < length vs → v ≡ get_or vs i v → flat_map (change_of l before now c monitor) (map variable_seen (take (i + 1) vs)) ≡ flat_map (change_of l before now c monitor) (map variable_seen (take i vs)) ++ change_of l before now c monitor (variable_seen v)
    variables_step = step variable_seen (change_of l before now c monitor) vs i

    pub variables_none : length vs ≤ i → flat_map (change_of l before now c monitor) (map variable_seen (take i vs)) ≡ flat_map (change_of l before now c monitor) (map variable_seen vs)
    variables_none = none variable_seen (change_of l before now c monitor) vs i
