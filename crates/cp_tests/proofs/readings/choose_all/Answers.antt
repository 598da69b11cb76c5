use Rattle.std.proofs.Common.{◌≡◌, ◌∙◌, sym}
use Rattle.cp_tests.proofs.readings.choose_all.Goals as goal

pub choose-halt-requires-clause-may : goal.choose-halt-requires-clause-may
choose-halt-requires-clause-may g c = sym c.may.ensures ∙ c.if-not-may.false
