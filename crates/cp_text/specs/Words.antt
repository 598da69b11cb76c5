-- The reserved words.
use Rattle.std.specs.Prelude.{ℕ, if◌then◌else◌, List, [], ◌∷◌, Option, Some, None, codes}
use Rattle.std.specs.Str.{bytes_eq}
use Rattle.cp_text.specs.declared.token.Mark.{Mark}
use Rattle.cp_text.specs.declared.token.Mark.TheVariants as mark

abbrev pub reserved_words : List (List ℕ × Mark)
reserved_words =
    (codes "and", mark.And)
    ∷ (codes "array", mark.Array)
    ∷ (codes "begin", mark.Begin)
    ∷ (codes "case", mark.Case)
    ∷ (codes "class", mark.Class)
    ∷ (codes "const", mark.Const)
    ∷ (codes "cycle", mark.Cycle)
    ∷ (codes "div", mark.Div)
    ∷ (codes "do", mark.Do)
    ∷ (codes "downto", mark.Downto)
    ∷ (codes "else", mark.Else)
    ∷ (codes "end", mark.End)
    ∷ (codes "entry", mark.Entry)
    ∷ (codes "for", mark.For)
    ∷ (codes "function", mark.Function)
    ∷ (codes "if", mark.If)
    ∷ (codes "in", mark.In)
    ∷ (codes "init", mark.Init)
    ∷ (codes "mod", mark.Mod)
    ∷ (codes "monitor", mark.Monitor)
    ∷ (codes "not", mark.Not)
    ∷ (codes "of", mark.Of)
    ∷ (codes "or", mark.Or)
    ∷ (codes "procedure", mark.Procedure)
    ∷ (codes "process", mark.Process)
    ∷ (codes "program", mark.Program)
    ∷ (codes "record", mark.Record)
    ∷ (codes "repeat", mark.Repeat)
    ∷ (codes "set", mark.Set)
    ∷ (codes "then", mark.Then)
    ∷ (codes "to", mark.To)
    ∷ (codes "type", mark.Type)
    ∷ (codes "univ", mark.Univ)
    ∷ (codes "until", mark.Until)
    ∷ (codes "var", mark.Var)
    ∷ (codes "while", mark.While)
    ∷ (codes "with", mark.With)
    ∷ []

abbrev pub lookup : List (List ℕ × Mark) → List ℕ → Option Mark
lookup [] word = None
lookup (k ∷ ks) word = if bytes_eq k.0 word then Some k.1 else lookup ks word

-- the mark of a word in lower case, if it is reserved
unfoldable pub reserved : List ℕ → Option Mark
reserved = lookup reserved_words
