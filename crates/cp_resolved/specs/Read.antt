-- What holds of each program that was read and breaks no rule.
use Rattle.cp_tree.specs.Read.{IsRead}
use Rattle.cp_tree.specs.Syntax.{Tree}
use Rattle.cp_meaning_laws.specs.Accepted.{IsAccepted}
use Rattle.cp_resolved.specs.Names.{IsPlain, NamesAre}

abbrev pub PlainLaw : Type 0
PlainLaw = (t : Tree) → IsRead t.program → IsAccepted t → IsPlain t.program

-- so the names of its tables are those of the language
abbrev pub ReadNamesLaw : Type 0
ReadNamesLaw = (t : Tree) → IsRead t.program → IsAccepted t → NamesAre t
