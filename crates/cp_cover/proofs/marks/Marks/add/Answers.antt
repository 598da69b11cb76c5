use Rattle.std.proofs.Common.{◌∷◌, [], sym, subst}
use Rattle.cp_layers.specs.Adding.{Adds}
use Rattle.cp_layers.proofs.Adding.{adds_key}
use Rattle.cp_cover.proofs.OneMark.{one_mark}
use Rattle.cp_cover.specs.contracts.mark.CoverMarkPartialEq.TheImpl as mark_eq
use Rattle.cp_cover.proofs.marks.Marks.add.Goals as goal

pub returns : goal.returns
returns c = subst (Adds c.args.self.now.known.keys (c.args.mark ∷ [])) (sym c.in_ok-insert.ensures.keys) (adds_key (mark_eq.ghosts).eq one_mark c.args.self.now.known.keys c.args.mark)
