-- What a text holds that remembers a refusal of memory: its bytes, or none of them once memory was refused.
use Rattle.std.specs.Prelude.{◌≡◌, ◌⊎◌, ◌++◌, ℕ, List, Option, Some, None}

-- more bytes after those that are there; where memory was refused nothing is added
abbrev pub appended : Option (List ℕ) → List ℕ → Option (List ℕ)
appended None more = None
appended (Some bytes) more = Some (bytes ++ more)

-- the text is as wanted, unless memory was refused
abbrev pub UnlessRefused : Option (List ℕ) → Option (List ℕ) → Type 0
UnlessRefused text wanted = (text ≡ None) ⊎ (text ≡ wanted)
