-- The rows of a layer.
use Rattle.std.specs.Prelude.{ℕ, List, [], ◌∷◌, drop, take}
use Rattle.cp_merged.specs.declared.layer.StateLayer.{StateLayer}
use Rattle.cp_merged.specs.declared.prefixes.Prefixes.{Prefixes}

-- rows of one width that stand one after another, each with what leads there
abbrev pub rows_with : ℕ → List ℕ → List Prefixes → List (List ℕ × Prefixes)
rows_with width numbers [] = []
rows_with width numbers (x ∷ xs) = (take width numbers, x) ∷ rows_with width (drop width numbers) xs

abbrev pub rows_of : StateLayer → List (List ℕ × Prefixes)
rows_of layer = rows_with layer.width layer.numbers.items layer.leads.items
