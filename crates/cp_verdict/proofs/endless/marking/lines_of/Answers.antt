use Rattle.std.proofs.Common.{subst}
use Rattle.cp_waits.specs.Named.{TellAsked}
use Rattle.cp_verdict.proofs.any_length.KnownWaits.{known_waits}
use Rattle.cp_verdict.proofs.endless.marking.lines_of.Goals as goal

pub returns-in-Known : goal.returns-in-Known
returns-in-Known c = λ r discipline steps most asks found few answer told.
    (let asked = subst (TellAsked r discipline steps asks found) c.in-Some.is told in
    known_waits r discipline steps most found c.in-Known.list c.in-Some.told c.in-Known.is asked.1 asked.2 few answer)
