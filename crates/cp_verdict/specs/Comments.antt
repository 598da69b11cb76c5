-- Expectations in the comments of a source.
use Rattle.std.specs.Prelude.{◌≡◌, ◌≢◌, ◌⊎◌, ◌-◌, ℕ, List, [], ◌∷◌, ◌++◌, codes, drop, length, map, take, if◌then◌else◌}
use Rattle.std.specs.Char.{is_ascii_whitespace}
use Rattle.std.specs.List.{prefix_len, suffix_len}
use Rattle.cp_text.specs.Bytes.{is_separator}
use Rattle.cp_text.specs.Lexemes.{inside}
use Rattle.cp_text.specs.Reading.{Part}
use Rattle.cp_text.specs.declared.piece.Shape.{Shape}
use Rattle.cp_text.specs.declared.piece.Shape.TheVariants.{Comment}
use Rattle.cp_expectation.specs.Readable.{IsReadable}

-- ---- the comments of a source

-- a blank in place of a tab or of the end of a line
abbrev pub blank_for : ℕ → ℕ
blank_for b = if is_separator b then 32 else b

-- what stands between its quotes, if the piece is a comment
abbrev pub comment_in : Shape → List ℕ → List (List ℕ)
comment_in Comment piece = map blank_for (inside piece) ∷ []
comment_in s piece = []

-- the comments of a source that is cut into these parts
abbrev pub comments_of : List Part → List (List ℕ)
comments_of [] = []
comments_of (p ∷ ps) = comment_in p.shape p.text ++ comments_of ps

-- ---- what a comment holds

-- without white space at both ends
abbrev pub behind_white : List ℕ → List ℕ
behind_white text = drop (prefix_len is_ascii_whitespace text) text

abbrev pub before_white : List ℕ → List ℕ
before_white text = take (length text - suffix_len is_ascii_whitespace text) text

abbrev pub trimmed : List ℕ → List ℕ
trimmed text = before_white (behind_white text)

-- without `*)` at the end, if it stands there
abbrev pub IsBare : (text bare : List ℕ) → Type 0
IsBare text bare = (text ≡ bare ++ codes "*)") ⊎ ((bare ≡ text) × ((more : List ℕ) → text ≢ more ++ codes "*)"))

-- A comment begins with `(* expect` and a blank: what stands behind the word is the text of its expectations.
abbrev pub Holds : (comment text : List ℕ) → Type 0
Holds comment text = (behind more : List ℕ) × (trimmed comment ≡ codes "(* expect" ++ behind) × IsBare behind text × (text ≡ codes " " ++ more)

abbrev pub HoldsNone : List ℕ → Type 0
HoldsNone comment = (text : List ℕ) → ¬ (Holds comment text)

-- the texts of the expectations that comments hold, each comment made readable
abbrev pub AreHeld : (comments texts : List (List ℕ)) → Type 0
AreHeld [] texts = texts ≡ []
AreHeld (c ∷ cs) texts =
    (read : List ℕ) × IsReadable c read × (((text : List ℕ) × (others : List (List ℕ)) × Holds read text × AreHeld cs others × (texts ≡ text ∷ others)) ⊎ (HoldsNone read × AreHeld cs texts))

-- joined by `and`
abbrev pub and_text : List (List ℕ) → List ℕ
and_text [] = []
and_text (t ∷ []) = t
and_text (t ∷ u ∷ us) = t ++ codes " and " ++ and_text (u ∷ us)
