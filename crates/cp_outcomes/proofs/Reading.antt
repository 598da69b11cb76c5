-- A line that is read character by character, and a source that is read line by line.
use Rattle.std.proofs.Common.{◌≡◌, ◌<◌, ◌≤◌, ℕ, suc, List, [], ◌∷◌, ◌++◌, length, map, take, drop, get_or, arith, inl, inr, sym, ap, ◌∙◌, subst, append_assoc, append-nil, string_bytes, String, Contains}
use Rattle.std.proofs.Math.Seq.{drop-append_seam, split_at}
use Rattle.std.proofs.lemmas.List.{append_cancel_left, map-append, take-append-drop}
use Rattle.std.proofs.lemmas.Str.{encode_ascii}
use Rattle.std.specs.Char.{encode_utf8}
use Rattle.cp_outcomes.specs.Lines.{AreLinesShown, last_line, line_before, IsFront, IsLineShown, nothing, character, broken}

-- what is shown of the rest follows the character with which it begins
pub front_then : (rest : List ℕ) (shown n : ℕ) (text : List ℕ) → 1 ≤ length rest → IsFront rest shown n → IsLineShown (drop n rest) text → IsLineShown rest (encode_utf8 shown ++ text)
front_then rest shown n text some (inl (c, behind, scalar, is, long, says)) left =
    let e : drop n rest ≡ behind = ap (λ k. drop k rest) long ∙ ap (drop (length (encode_utf8 c))) is ∙ drop-append_seam (encode_utf8 c) behind in
    subst (λ l. IsLineShown l (encode_utf8 shown ++ text)) (sym is)
    (subst (λ k. IsLineShown (encode_utf8 c ++ behind) (encode_utf8 k ++ text)) (sym says) (character c behind text scalar (subst (λ l. IsLineShown l text) e left)))
front_then [] shown n text some (inr (none, long, says)) left = absurd (omega (arith, some))
front_then (b ∷ rest) shown n text some (inr (none, long, says)) left =
    let mark : encode_utf8 shown ≡ 63 ∷ [] = ap encode_utf8 says ∙ encode_ascii 63 (omega arith) in
    subst (λ l. IsLineShown (b ∷ rest) (l ++ text)) (sym mark) (broken b rest text none (subst (λ k. IsLineShown (drop k (b ∷ rest)) text) long left))

-- so what was shown before it goes on
pub shown_on : (line rest before : List ℕ) (shown n : ℕ) (after : List ℕ) → ((text : List ℕ) → IsLineShown rest text → IsLineShown line (before ++ text)) → 1 ≤ length rest → IsFront rest shown n → after ≡ before ++ encode_utf8 shown → (text : List ℕ) → IsLineShown (drop n rest) text → IsLineShown line (after ++ text)
shown_on line rest before shown n after kept some front is text left =
    subst (IsLineShown line) (sym (append_assoc before (encode_utf8 shown) text) ∙ ap (λ l. l ++ text) (sym is)) (kept (encode_utf8 shown ++ text) (front_then rest shown n text some front left))

pub shown_to_the_end : (line rest before : List ℕ) → ((text : List ℕ) → IsLineShown rest text → IsLineShown line (before ++ text)) → length rest ≡ 0 → IsLineShown line before
shown_to_the_end line [] before kept none = subst (IsLineShown line) (append-nil before) (kept [] nothing)
shown_to_the_end line (b ∷ rest) before kept none = absurd (omega (arith, none))

-- ---- a source

-- a line feed ends a line, and the rest begins behind it
pub lines_on : (source rest line behind : List ℕ) (before after : List (List ℕ)) (n : ℕ) (text : List ℕ) → ((texts : List (List ℕ)) → AreLinesShown rest texts → AreLinesShown source (before ++ texts)) → n < length rest → get_or rest n 0 ≡ 10 → (Contains (take n rest) 10 → ⊥) → line ≡ take n rest → behind ≡ drop n rest → IsLineShown line text → after ≡ before ++ text ∷ [] → (texts : List (List ℕ)) → AreLinesShown (drop 1 behind) texts → AreLinesShown source (after ++ texts)
lines_on source rest line behind before after n text kept less feed none front back shown is texts left =
    let parts : rest ≡ take n rest ++ 10 ∷ drop (suc n) rest = split_at rest n 0 less ∙ ap (λ b. take n rest ++ b ∷ drop (suc n) rest) feed in
    let behind_is : behind ≡ 10 ∷ drop (suc n) rest = back ∙ append_cancel_left (take n rest) (drop n rest) (10 ∷ drop (suc n) rest) (take-append-drop n rest ∙ parts) in
    let whole : rest ≡ take n rest ++ 10 ∷ drop 1 behind = parts ∙ ap (λ l. take n rest ++ 10 ∷ drop 1 l) (sym behind_is) in
    let both : AreLinesShown rest (text ∷ texts) = subst (λ l. AreLinesShown l (text ∷ texts)) (sym whole) (line_before (take n rest) text (drop 1 behind) texts none (subst (λ l. IsLineShown l text) front shown) left) in
    subst (AreLinesShown source) (sym (append_assoc before (text ∷ []) texts) ∙ ap (λ l. l ++ texts) (sym is)) (kept (text ∷ texts) both)

pub lines_to_the_end : (source rest : List ℕ) (before after : List (List ℕ)) (text : List ℕ) → ((texts : List (List ℕ)) → AreLinesShown rest texts → AreLinesShown source (before ++ texts)) → (Contains rest 10 → ⊥) → IsLineShown rest text → after ≡ before ++ text ∷ [] → AreLinesShown source after
lines_to_the_end source rest before after text kept none shown is = subst (AreLinesShown source) (sym is) (kept (text ∷ []) (last_line rest text none shown))

-- the texts of lines, with one more
pub one_more : {Z : Type 0} (before after : List (String Z)) (line : String Z) → after ≡ before ++ line ∷ [] → map string_bytes after ≡ map string_bytes before ++ string_bytes line ∷ []
one_more before after line is = ap (map string_bytes) is ∙ map-append string_bytes before (line ∷ [])
