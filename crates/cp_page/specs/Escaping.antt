-- What can stand in a page.
use Rattle.std.specs.Prelude.{ℕ, List, Bool, ◌==◌, ◌&&◌, ◌||◌, not, nat_le}
use Rattle.std.specs.List.{list_all}

-- printable ASCII and the end of a line, without the characters that begin a tag, end one, or name a character
abbrev pub is_inert : ℕ → Bool
is_inert c = (c == 10 || (nat_le 32 c && nat_le c 126)) && not (c == 38) && not (c == 60) && not (c == 62)

abbrev pub all_inert : List ℕ → Bool
all_inert text = list_all is_inert text
