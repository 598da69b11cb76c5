-- An excerpt of a source: a line with its number, and below it a mark.
use Rattle.std.specs.Prelude.{◌≡◌, ℕ, ◌+◌, ◌≤◌, ◌==◌, ◌||◌, ◌++◌, if◌then◌else◌, Bool, List, codes, false, length, map, replicate, take}
use Rattle.std.specs.Fmt.{decimal}
use Rattle.std.specs.List.{AllPass}
use Rattle.cp_text.specs.Bytes.{is_printable}
use Rattle.cp_refusal.specs.declared.characters.Look.{Look}
use Rattle.cp_refusal.specs.declared.characters.Look.TheVariants.{Whole, Blank, OneLine}
use Rattle.cp_refusal.specs.Lines.{line_in, line_text, text_before}

-- a byte that is shown as it is: a printed character of ASCII, or a tab
abbrev pub is_plain : ℕ → Bool
is_plain b = is_printable b || b == 9

-- a plain byte, as it is shown
abbrev pub seen : Look → ℕ → ℕ
seen Whole b = b
seen Blank b = if b == 9 then 9 else 32
seen OneLine b = if b == 9 then 32 else b

-- how bytes are shown: plain ones each for itself
abbrev pub AreShown : Look → List ℕ → List ℕ → Type 0
AreShown look bytes shown = AllPass is_plain bytes → shown ≡ map (seen look) bytes

-- the column of a place: counted from 1 in characters, where only plain bytes stand before it
abbrev pub IsColumn : List ℕ → ℕ → ℕ → Type 0
IsColumn source at column = at ≤ length source → AllPass is_plain (text_before source at) → column ≡ length (text_before source at) + 1

-- a line that is shown as it is: one of at most 160 plain bytes
pub record IsPlainLine (line : List ℕ) : Type 0 where
  pub plain : AllPass is_plain line
  pub short : length line ≤ 160

-- a line, or a part of it, as an excerpt has it after its number
pub record IsLineShown (bytes : List ℕ) (is_cut : Bool) (text : List ℕ) : Type 0 where
  pub shown : List ℕ
  pub is : text ≡ codes " | " ++ (shown ++ codes "\n")
  pub whole : is_cut ≡ false → AllPass is_plain bytes → shown ≡ bytes

-- the mark below what is shown before a place
abbrev pub mark_below : List ℕ → List ℕ
mark_below before = codes " | " ++ (map (seen Blank) before ++ codes "^\n")

-- The excerpt of a place: its line with its number, and a mark in the line below it, which begins with as many blanks as the number has digits.
pub record IsExcerpt (source : List ℕ) (at : ℕ) (text : List ℕ) : Type 0 where
  pub shown : List ℕ
  pub mark : List ℕ
  pub is : text ≡ decimal (line_in source at) ++ ((codes " | " ++ (shown ++ codes "\n")) ++ (replicate (length (decimal (line_in source at))) 32 ++ mark))
  pub line : IsPlainLine (line_text source (line_in source at)) → shown ≡ line_text source (line_in source at)
  pub marked : at ≤ length source → IsPlainLine (line_text source (line_in source at)) → mark ≡ mark_below (take (length (text_before source at)) (line_text source (line_in source at)))
