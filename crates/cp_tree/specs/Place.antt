-- What a `Cursor` shows.
use Rattle.std.specs.Prelude.{◌≤◌, length, drop}
use Rattle.cp_text.specs.Kinds.{kinds}
use Rattle.cp_tree.specs.declared.cursor.Cursor.TheInside.{Inside}
use Rattle.cp_tree.specs.Input.{Input}

abbrev pub input_of : Inside → Input
input_of c = record { at = c.at; rest = drop c.at (kinds c.tokens.now) }

-- The place is among the tokens, of which a text has few.
abbrev pub IsWithin : Inside → Type 0
IsWithin c = (c.at ≤ length c.tokens.now) × (c.at ≤ 20000)
