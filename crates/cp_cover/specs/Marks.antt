-- Marks that a step may lead to.
use Rattle.std.specs.Prelude.{List, [], ◌∷◌, Option, None, Some}
use Rattle.cp_cover.specs.declared.mark.CoverMark.{CoverMark}

-- one mark, or none
abbrev pub marks_in : Option CoverMark → List CoverMark
marks_in None = []
marks_in (Some mark) = mark ∷ []
