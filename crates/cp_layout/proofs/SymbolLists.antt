-- Symbols that are gathered in their order: loops over what is laid out.
use Rattle.std.proofs.Common.{◌≡◌, ℕ, ◌+◌, ◌<◌, ◌≤◌, List, [], ◌∷◌, ◌++◌, length, get_or, take, map, refl, ap, ◌∙◌, add-one}
use Rattle.std.specs.String.{string_bytes}
use Rattle.std.proofs.Math.Seq.{take-suc}
use Rattle.std.proofs.lemmas.List.{take_all, map-append}
use Rattle.std.specs.declared.string.String.{String}
use Rattle.std.specs.declared.alloc.Global.{Global}
use Rattle.cp_layout.specs.declared.layer.HeadingLayout as code_heading
use Rattle.cp_layout.specs.declared.symbols.NotedName as code_noted
use Rattle.cp_layout.specs.declared.layer.SystemCells as code_system
use Rattle.cp_layout.specs.declared.kinds.Compound as code_compound
use Rattle.cp_layout.specs.declared.kinds.Field as code_field
use Rattle.cp_layout.specs.Kinds.{compound_seen, field_seen}
use Rattle.cp_layout.specs.Layers.{heading_seen, system_seen, noted_seen}
use Rattle.cp_layout.specs.Symbols.{name_of_routine, symbol_of_system}

-- one more of those that are gathered, and all of them
one_more : {X Y : Type 0} (f : X → Y) (xs : List X) (i : ℕ) (x : X) → i < length xs → x ≡ get_or xs i x → map f (take (i + 1) xs) ≡ map f (take i xs) ++ f x ∷ []
one_more f xs i x within here = rw (add-one, take-suc xs i x within, ← here) (map-append f (take i xs) (x ∷ []))

module _ (xs : List code_heading.HeadingLayout) (i : ℕ) where
  pub routines_step : (x : code_heading.HeadingLayout) → i < length xs → x ≡ get_or xs i x → map name_of_routine (map heading_seen (take (i + 1) xs)) ≡ map name_of_routine (map heading_seen (take i xs)) ++ name_of_routine (heading_seen x) ∷ []
  routines_step x within here = ap (map name_of_routine) (one_more heading_seen xs i x within here) ∙ map-append name_of_routine (map heading_seen (take i xs)) (heading_seen x ∷ [])

  pub routines_none : length xs ≤ i → map name_of_routine (map heading_seen (take i xs)) ≡ map name_of_routine (map heading_seen xs)
  routines_none h = rw (take_all i xs h) refl

module _ (xs : List code_system.SystemCells) (i : ℕ) where
  pub systems_step : (x : code_system.SystemCells) → i < length xs → x ≡ get_or xs i x → map symbol_of_system (map system_seen (take (i + 1) xs)) ≡ map symbol_of_system (map system_seen (take i xs)) ++ symbol_of_system (system_seen x) ∷ []
  systems_step x within here = ap (map symbol_of_system) (one_more system_seen xs i x within here) ∙ map-append symbol_of_system (map system_seen (take i xs)) (system_seen x ∷ [])

  pub systems_none : length xs ≤ i → map symbol_of_system (map system_seen (take i xs)) ≡ map symbol_of_system (map system_seen xs)
  systems_none h = rw (take_all i xs h) refl

module _ (xs : List code_field.Field) (i : ℕ) where
  pub fields_step : (x : code_field.Field) → i < length xs → x ≡ get_or xs i x → map field_seen (take (i + 1) xs) ≡ map field_seen (take i xs) ++ field_seen x ∷ []
  fields_step x within here = one_more field_seen xs i x within here

  pub fields_none : length xs ≤ i → map field_seen (take i xs) ≡ map field_seen xs
  fields_none h = rw (take_all i xs h) refl

module _ (xs : List code_compound.Compound) (i : ℕ) where
  pub types_step : (x : code_compound.Compound) → i < length xs → x ≡ get_or xs i x → map compound_seen (take (i + 1) xs) ≡ map compound_seen (take i xs) ++ compound_seen x ∷ []
  types_step x within here = one_more compound_seen xs i x within here

  pub types_none : length xs ≤ i → map compound_seen (take i xs) ≡ map compound_seen xs
  types_none h = rw (take_all i xs h) refl

module _ (xs : List (String Global)) (i : ℕ) where
  pub constants_step : (x : String Global) → i < length xs → x ≡ get_or xs i x → map string_bytes (take (i + 1) xs) ≡ map string_bytes (take i xs) ++ string_bytes x ∷ []
  constants_step x within here = one_more string_bytes xs i x within here

  pub constants_none : length xs ≤ i → map string_bytes (take i xs) ≡ map string_bytes xs
  constants_none h = rw (take_all i xs h) refl

module _ (xs : List code_noted.NotedName) (i : ℕ) where
  pub names_step : (x : code_noted.NotedName) → i < length xs → x ≡ get_or xs i x → map noted_seen (take (i + 1) xs) ≡ map noted_seen (take i xs) ++ noted_seen x ∷ []
  names_step x within here = one_more noted_seen xs i x within here

  pub names_none : length xs ≤ i → map noted_seen (take i xs) ≡ map noted_seen xs
  names_none h = rw (take_all i xs h) refl
