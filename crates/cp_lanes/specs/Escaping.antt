-- How the characters of a text are written between tags and in attributes.
use Rattle.std.specs.Prelude.{ℕ, List, codes, if◌then◌else◌, ◌==◌, encode_utf8}

-- the four characters that begin or end a tag, an attribute or a reference have names; every other one stands for itself
abbrev pub escaped_char : ℕ → List ℕ
escaped_char c =
    if c == 38 then codes "&amp;" else
    if c == 60 then codes "&lt;" else
    if c == 62 then codes "&gt;" else
    if c == 34 then codes "&quot;" else
    encode_utf8 c
