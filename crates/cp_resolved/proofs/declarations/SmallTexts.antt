-- The numbers and characters of a text's tokens are small and its names begin with letters, and so it is in a program that was read.
use Rattle.std.proofs.Common.{◌≡◌, ℕ, zero, suc, ◌+◌, ◌≤◌, Bool, true, false, List, [], ◌∷◌, ◌++◌, length, Option, Some, None, refl, ap, sym, subst, arith, ◌∙◌}
use Rattle.std.specs.Prelude.{◌&&◌, nat_le, nat_lt, cond}
use Rattle.cp_resolved.proofs.Words.{leb-true, Kind, spell, Program, enumerations_of, constants_before, IsWord, IsRead, IsSmallProgram, AreNumbered, Mark}
use Rattle.cp_text.specs.declared.token.Mark.TheVariants as mark
use Rattle.cp_tree.specs.Syntax.{nameless}
use Rattle.cp_text.specs.declared.piece.Shape.{Shape}
use Rattle.cp_text.specs.declared.piece.Shape.TheVariants as shape
use Rattle.cp_text.specs.declared.token.Spot.{Spot}
use Rattle.cp_text.specs.declared.token.Token.{Token}
use Rattle.cp_text.specs.Bytes.{is_letter}
use Rattle.cp_text.specs.Kinds.{kinds}
use Rattle.cp_text.specs.Reading as reading
use Rattle.cp_text.specs.Reading.{Has, AreCut, IsCode, printable, numbered, IsLexeme, Part, AreLexemes, no_lexeme, between, one_lexeme, token_at, closing_spot, AreTokens, no_more, blank, lexeme, annotated}
use Rattle.cp_text.specs.Spots.{after, beginning}
use Rattle.cp_text.specs.Values.{named, lower_case}
use Rattle.cp_text.specs.Words.{reserved}
use Rattle.cp_resolved.proofs.declarations.Nameless.{indexed_known}
use Rattle.cp_resolved.proofs.declarations.Numbered.{program_numbered}
use Rattle.cp_resolved.proofs.declarations.SmallPrograms.{program_small}
use Rattle.cp_resolved.proofs.declarations.SmallTokens.{IsScanned, AreScanned}

second : (a b : Bool) → a && b ≡ true → b ≡ true
second true b h = h
second false b h = absurd (let bad : false ≡ true = h in cc)

code_small : (text : List ℕ) (code : ℕ) → IsCode text code → code ≤ 127
code_small text code (printable is can) = let le = leb-true code 126 (second (nat_le 32 code) (nat_le code 126) can) in omega (arith, le)
code_small text code (numbered digits is some are value le) = le

positive_word : (n : ℕ) (cs : List ℕ) → 1 ≤ n → IsWord (n ∷ cs)
positive_word zero cs h = absurd (omega (arith, h))
positive_word (suc n) cs h = tt

letter_word : (first : ℕ) (more : List ℕ) → is_letter first ≡ true → IsWord (lower_case (first ∷ more))
letter_word zero more h = absurd (let bad : false ≡ true = h in cc)
letter_word (suc n) more h = go (nat_lt (suc n) 65) (nat_lt (suc n) 91)
  where
    go : (a b : Bool) → IsWord (cond a (suc n) (cond b (suc n + 32) (suc n)) ∷ lower_case more)
    go true b = tt
    go false true = positive_word (suc n + 32) (lower_case more) (omega arith)
    go false false = tt

piece_word : (piece : List ℕ) → reading.IsWord piece → IsWord (lower_case piece)
piece_word piece h = subst (λ (cs : List ℕ). IsWord (lower_case cs)) (sym h.is) (letter_word h.first h.more h.letter)

head_of : (a b : ℕ) (as' bs : List ℕ) → a ∷ as' ≡ b ∷ bs → a ≡ b
head_of a b as' bs e = cc

letter_named : (first : ℕ) (more : List ℕ) → is_letter first ≡ true → lower_case (first ∷ more) ≡ nameless → ⊥
letter_named first more h e = go (nat_lt first 65) (nat_lt first 91) refl refl (head_of _ 58 (lower_case more) [] e)
  where
    never : first ≡ 58 → ⊥
    never same = let bad : false ≡ true = subst (λ n. is_letter n ≡ true) same h in cc

    go : (a b : Bool) → nat_lt first 65 ≡ a → nat_lt first 91 ≡ b → cond a first (cond b (first + 32) first) ≡ 58 → ⊥
    go true b low high same = never same
    go false true low high same =
        let is : first ≡ 26 = omega (arith, same) in
        let bad : true ≡ false = subst (λ n. nat_lt n 65 ≡ false) is low in
        cc
    go false false low high same = never same

piece_named : (piece : List ℕ) → reading.IsWord piece → lower_case piece ≡ nameless → ⊥
piece_named piece h = subst (λ (cs : List ℕ). lower_case cs ≡ nameless → ⊥) (sym h.is) (letter_named h.first h.more h.letter)

word_scanned : (o : Option Mark) (spelling : List ℕ) → IsWord spelling × (spelling ≡ nameless → ⊥) → IsScanned (named o spelling)
word_scanned (Some m) spelling h = tt
word_scanned None spelling h = h

lexeme_scanned : (s : Shape) (piece : List ℕ) (k : Kind) → Has s piece → IsLexeme s piece k → IsScanned k
lexeme_scanned shape.Number piece k g h = subst IsScanned (sym h.1) h.0
lexeme_scanned shape.Name piece k g h = subst IsScanned (sym h.1) (word_scanned (reserved (lower_case piece)) (lower_case piece) (piece_word piece g, piece_named piece g))
lexeme_scanned shape.Character piece k g h = subst IsScanned (sym h.kind) (code_small h.text h.code h.stands_for)
lexeme_scanned (shape.Sign m) piece k g h = subst IsScanned (sym h) tt
lexeme_scanned _ piece k g h = absurd h

lexemes_scanned : (spot : Spot) (ps : List Part) (ts : List Token) → AreCut ps [] → AreLexemes spot ps ts → AreScanned (kinds ts)
lexemes_scanned spot [] [] c no_lexeme = tt
lexemes_scanned spot [] (t ∷ ts) c x = elim x [ ]
lexemes_scanned spot (p ∷ ps) ts c (between none h) = lexemes_scanned (after spot p.text) ps ts c.1 h
lexemes_scanned spot (p ∷ ps) (t ∷ ts) c (one_lexeme is placed h) = (lexeme_scanned p.shape p.text t.kind c.0.shaped is, lexemes_scanned (after spot p.text) ps ts c.1 h)

both_scanned : (us ts : List Token) → AreScanned (kinds us) → AreScanned (kinds ts) → AreScanned (kinds (us ++ ts))
both_scanned [] ts h g = g
both_scanned (u ∷ us) ts h g = (h.0, both_scanned us ts h.1 g)

tokens_scanned : (spot : Spot) (ps : List Part) (ts : List Token) → AreCut ps [] → AreTokens spot ps ts → AreScanned (kinds ts)
tokens_scanned spot [] [] c no_more = tt
tokens_scanned spot [] (t ∷ ts) c x = elim x [ ]
tokens_scanned spot (p ∷ ps) ts c (blank none plain h) = tokens_scanned (after spot p.text) ps ts c.1 h
tokens_scanned spot (p ∷ ps) (t ∷ ts) c (lexeme is placed h) = (lexeme_scanned p.shape p.text t.kind c.0.shaped is, tokens_scanned (after spot p.text) ps ts c.1 h)
tokens_scanned spot (p ∷ ps) _ c (annotated a qs us ts is whole cut inner h) =
    (tt, both_scanned us (token_at (closing_spot spot a) a.closing mark.Closes ∷ ts) (lexemes_scanned (after spot a.before) qs us cut inner) (tt, tokens_scanned (after spot p.text) ps ts c.1 h))

pub kinds_length : (ts : List Token) → length (kinds ts) ≡ length ts
kinds_length [] = refl
kinds_length (t ∷ ts) = ap suc (kinds_length ts)

pub read_scanned : (p : Program) → IsRead p → AreScanned (spell p)
read_scanned p h = subst AreScanned h.spelled (tokens_scanned beginning h.text.reads.parts h.tokens h.text.reads.reads.cut h.text.reads.reads.tokens)

pub read_small : (p : Program) → IsRead p → IsSmallProgram p
read_small p h = program_small p (indexed_known p h.proper.indexed) (read_scanned p h)

pub read_few : (p : Program) → IsRead p → length (spell p) ≤ 20000
read_few p h =
    let few : length h.tokens ≤ 20000 = h.text.reads.reads.few in
    let same : length (spell p) ≡ length h.tokens = sym (ap (λ (ks : List Kind). length ks) h.spelled) ∙ kinds_length h.tokens in
    omega (arith, few, same)

pub read_numbered : (p : Program) → IsRead p → AreNumbered (constants_before p) 0 (enumerations_of p)
read_numbered p h = program_numbered p h.proper.indexed (read_few p h)
