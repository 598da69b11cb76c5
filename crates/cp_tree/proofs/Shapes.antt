-- How a rule of the grammar is spelled, numbered and nested, as one value; and the same for rules one after the other.
use Rattle.std.proofs.Common.{◌≡◌, ℕ, max, List, [], ◌∷◌, refl}
use Rattle.cp_text.specs.declared.token.Kind.{Kind}
use Rattle.cp_text.specs.declared.token.Kind.TheVariants as kind
use Rattle.cp_text.specs.declared.token.Mark.{Mark}
use Rattle.cp_tree.specs.Spelling.{put_all, put_behind, put_separated}
use Rattle.cp_tree.specs.SpellingIndexed.{AreAllIndexed, AreSomeIndexed, AreSeparatedIndexed}
use Rattle.cp_tree.specs.SpellingLevel.{deepest}

pub record Shape (A : Type 0) : Type 1 where
  pub put : A → List Kind → List Kind
  -- what is asked of a value before these tokens
  pub indexed : A → List Kind → Type 0
  pub depth : A → ℕ

abbrev pub mark_shape : Mark → Shape (Unit {0})
mark_shape m = record { put = λ u ks. kind.Mark m ∷ ks; indexed = λ u ks. Unit {0}; depth = λ u. 0 }

abbrev pub pair_of : {A B : Type 0} → Shape A → Shape B → Shape (A × B)
pair_of s t = record { put = λ p ks. s.put p.0 (t.put p.1 ks); indexed = λ p ks. s.indexed p.0 (t.put p.1 ks) × t.indexed p.1 ks; depth = λ p. max (s.depth p.0) (t.depth p.1) }

abbrev pub behind_of : {A : Type 0} → Mark → Shape A → Shape A
behind_of m s = record { put = put_behind m s.put; indexed = s.indexed; depth = s.depth }

-- {x}
abbrev pub all_of : {A : Type 0} → Shape A → Shape (List A)
all_of s = record { put = put_all s.put; indexed = AreAllIndexed s.put s.indexed; depth = deepest s.depth }

-- x {x}
abbrev pub some_of : {A : Type 0} → Shape A → Shape (List A)
some_of s = record { put = put_all s.put; indexed = AreSomeIndexed s.put s.indexed; depth = deepest s.depth }

-- x {m x}
abbrev pub separated_of : {A : Type 0} → Mark → Shape A → Shape (List A)
separated_of m s = record { put = put_separated m s.put; indexed = AreSeparatedIndexed m s.put s.indexed; depth = deepest s.depth }

-- The second is the first, none or more times.
pub record IsListed {A : Type 0} (one : Shape A) (all : Shape (List A)) : Type 0 where
  pub no_put : (ks : List Kind) → all.put [] ks ≡ ks
  pub more_put : (x : A) (xs : List A) (ks : List Kind) → all.put (x ∷ xs) ks ≡ one.put x (all.put xs ks)
  pub no_depth : all.depth [] ≡ 0
  pub more_depth : (x : A) (xs : List A) → all.depth (x ∷ xs) ≡ max (one.depth x) (all.depth xs)

-- A list of the third is one of the first, and then a list of the second.
pub record IsLed {A : Type 0} (one : Shape A) (more all : Shape (List A)) : Type 0 where
  pub led_put : (x : A) (xs : List A) (ks : List Kind) → all.put (x ∷ xs) ks ≡ one.put x (more.put xs ks)
  pub led_depth : (x : A) (xs : List A) → all.depth (x ∷ xs) ≡ max (one.depth x) (more.depth xs)

abbrev pub all_listed : {A : Type 0} (s : Shape A) → IsListed s (all_of s)
all_listed s = record { no_put = λ ks. refl; more_put = λ x xs ks. refl; no_depth = refl; more_depth = λ x xs. refl }

-- the same, of what has no levels
abbrev pub flat : {A : Type 0} → Shape A → Shape A
flat s = record { put = s.put; indexed = s.indexed; depth = λ x. 0 }
