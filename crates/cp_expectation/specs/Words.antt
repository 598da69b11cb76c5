-- The words of a text: what stands between white space.
use Rattle.std.specs.Prelude.{ℕ, List, [], ◌∷◌, ◌++◌, map, if◌then◌else◌}
use Rattle.std.specs.Char.{is_whitespace}
use Rattle.std.specs.Str.{chars, encode_utf8_all}

-- a word, unless nothing stands there
abbrev pub one_word : List ℕ → List (List ℕ)
one_word [] = []
one_word (c ∷ cs) = (c ∷ cs) ∷ []

-- the words of some characters, behind the beginning of a word
abbrev pub words_behind : List ℕ → List ℕ → List (List ℕ)
words_behind word [] = one_word word
words_behind word (c ∷ cs) = if is_whitespace c then one_word word ++ words_behind [] cs else words_behind (word ++ c ∷ []) cs

-- the words of a text, each by its bytes
abbrev pub words_of : List ℕ → List (List ℕ)
words_of text = map encode_utf8_all (words_behind [] (chars text))
