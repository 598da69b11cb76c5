use Rattle.std.proofs.lemmas.Bool.{eqb-true, eq-eqb}
use Rattle.cp_waits.proofs.Sets.{empty_has_none, none_is_empty}
use Rattle.cp_waits.proofs.set.Set.is_empty.Goals as goal

pub returns : goal.returns
returns c = ((λ e. empty_has_none c.args.self.bits (eqb-true c.args.self.bits 0 e)), (λ none. eq-eqb c.args.self.bits 0 (none_is_empty c.args.self.bits none)))
