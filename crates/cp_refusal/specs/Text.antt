-- What is said of a source, as a text.
use Rattle.std.specs.Prelude.{◌≡◌, ℕ, ◌++◌, List, [], Option, Some, None, codes, string_bytes}
use Rattle.std.specs.Fmt.{decimal}
use Rattle.cp_prose.specs.Telling.{UnlessRefused, appended}
use Rattle.cp_text.specs.declared.token.ByteRange.{ByteRange}
use Rattle.cp_refusal.specs.declared.report.ExplainedRefusal.{ExplainedRefusal}
use Rattle.cp_refusal.specs.declared.report.Explanation.{Explanation}
use Rattle.cp_refusal.specs.declared.report.Explanation.TheVariants.{Accepted, Refused}
use Rattle.cp_refusal.specs.Excerpts.{IsColumn, IsExcerpt}
use Rattle.cp_refusal.specs.Lines.{line_in}

-- a position in a source: `line 2: `, or with the name of a file `program.cp:2:15: `
abbrev pub IsPosition : Option (List ℕ) → List ℕ → ℕ → List ℕ → Type 0
IsPosition None source at text = text ≡ codes "line " ++ (decimal (line_in source at) ++ codes ": ")
IsPosition (Some name) source at text =
    (column : ℕ) × IsColumn source at column × (text ≡ name ++ (codes ":" ++ (decimal (line_in source at) ++ (codes ":" ++ (decimal column ++ codes ": ")))))

-- the position of a place, if there is one
abbrev pub IsPositionOf : List ℕ → Option (List ℕ) → Option ByteRange → List ℕ → Type 0
IsPositionOf source file None text = text ≡ []
IsPositionOf source file (Some place) text = IsPosition file source place.from text

-- the excerpt of a place, if there is one
abbrev pub IsExcerptOf : List ℕ → Option ByteRange → List ℕ → Type 0
IsExcerptOf source None text = text ≡ []
IsExcerptOf source (Some place) text = IsExcerpt source place.from text

-- where more is said, for what has a place
abbrev pub more_text : Option ByteRange → List ℕ → List ℕ
more_text None more = []
more_text (Some place) more = more ++ codes "\n"

-- the text of a refusal: the position and the sentence in a line, the excerpts, and where more is said
pub record IsRefusalText (source : List ℕ) (file : Option (List ℕ)) (r : ExplainedRefusal) (text : List ℕ) : Type 0 where
  pub position : List ℕ
  pub earlier : List ℕ
  pub excerpt : List ℕ
  pub is : text ≡ position ++ (string_bytes r.sentence ++ (codes "\n" ++ (earlier ++ (excerpt ++ more_text r.span r.more.now))))
  pub stands : IsPositionOf source file r.span position
  pub earlier_shown : IsExcerptOf source r.earlier earlier
  pub shown : IsExcerptOf source r.span excerpt

-- the text begins so
pub record BeginsWith (first text : List ℕ) : Type 0 where
  pub rest : List ℕ
  pub is : text ≡ first ++ rest

-- the text of what is said of a source, with the name of its file, if there is one
abbrev pub IsTextOf : List ℕ → Option (List ℕ) → Explanation → List ℕ → Type 0
IsTextOf source file (Accepted hints) text = BeginsWith (codes "accepted\n") text
IsTextOf source file (Refused r) text = IsRefusalText source file r text

-- a text takes such a piece after what it holds, unless memory was refused
pub record Takes (old new : Option (List ℕ)) (Is : List ℕ → Type 0) : Type 0 where
  pub piece : List ℕ
  pub is : Is piece
  pub holds : UnlessRefused new (appended old piece)
