-- How comments are gathered byte by byte.
use Rattle.std.specs.Prelude.{◌≡◌, ◌⊎◌, ◌==◌, ℕ, List, [], ◌∷◌, ◌++◌, codes, length, map, if◌then◌else◌}
use Rattle.cp_verdict.specs.Comments.{blank_for, Holds, HoldsNone}
use Rattle.cp_expectation.specs.Readable.{IsReadable}
use Rattle.cp_verdict.specs.declared.comments.CommentReader.{CommentReader}
use Rattle.cp_verdict.specs.declared.comments.Within.{Within}
use Rattle.cp_verdict.specs.declared.comments.Within.TheVariants.{Code, Character, Comment}

-- what the next byte belongs to
abbrev pub after : Within → ℕ → Within
after Code b = if b == 34 then Comment else (if b == 39 then Character else Code)
after Character b = if b == 39 then Code else (if b == 10 then Code else Character)
after Comment b = if b == 34 then Code else Comment

-- the comments so far, that which is being read, and where the next byte stands
pub record Gathered : Type 0 where
  pub done : List (List ℕ)
  pub begun : List ℕ
  pub within : Within

abbrev pub gathered : CommentReader → Gathered
gathered c = record { done = map (λ v. v.items) c.done.items; begun = c.begun.items; within = c.within }

abbrev pub in_code : List (List ℕ) → Gathered
in_code done = record { done = done; begun = []; within = Code }

abbrev pub kept : Gathered → Within → ℕ → Gathered
kept g Comment b = record { done = g.done; begun = g.begun ++ blank_for b ∷ []; within = Comment }
kept g next b = record { done = g.done ++ g.begun ∷ []; begun = []; within = next }

abbrev pub with_byte : Gathered → Within → ℕ → Gathered
with_byte g Comment b = kept g (after Comment b) b
with_byte g within b = record { done = g.done; begun = g.begun; within = after within b }

unfoldable pub with_bytes : Gathered → List ℕ → Gathered
with_bytes g [] = g
with_bytes g (b ∷ bs) = with_bytes (with_byte g g.within b) bs

-- with `and` behind it, if it is not empty
abbrev pub separated : List ℕ → List ℕ
separated before = if length before == 0 then before else before ++ codes " and "

-- with the text that a comment holds, if it holds one
abbrev pub IsGathered : (comment before after : List ℕ) → Type 0
IsGathered comment before now =
    (read : List ℕ) × IsReadable comment read × (((text : List ℕ) × Holds read text × (now ≡ separated before ++ text)) ⊎ (HoldsNone read × (now ≡ before)))
