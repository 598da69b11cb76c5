-- What is answered to tables: so it is of whatever program they are the tables of.
use Rattle.cp_tree.specs.Read.{IsRead}
use Rattle.cp_tree.specs.Syntax.{Tree}
use Rattle.cp_slots.specs.Tables.{Tables}
use Rattle.cp_meaning_laws.specs.Accepted.{IsAccepted}
use Rattle.cp_resolved.specs.Resolving.{IsProgramOf}

-- it holds of each program that was read, is accepted, and has these tables
abbrev pub OfPrograms : Tables → (Tree → Type 0) → Type 0
OfPrograms r P = (t : Tree) → IsRead t.program → IsAccepted t → IsProgramOf t r → P t
