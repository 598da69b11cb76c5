use Rattle.std.proofs.Common.{◌∙◌, ap, sym, subst, take}
use Rattle.cp_merged.proofs.Words.{processes_of, those_below}
use Rattle.cp_run.specs.Silent.{without_output}
use Rattle.cp_stretches.specs.Cached.{StandsFor}
use Rattle.cp_merged.proofs.KnownRows.{may_quiet, stands_for}
use Rattle.cp_merged.proofs.known.KnownStates.candidates.Goals as goal

pub candidates-requires : goal.candidates-requires
candidates-requires c =
    let self = c.args.self.now in
    let r = c.requires.0 in
    let part = ap (λ n. take n c.args.row.now) c.output_position.ensures in
    (r, self.discipline, without_output c.requires.1, c.requires.2.cached, subst (StandsFor r self.discipline self.cache.store self.cache.table (without_output c.requires.1)) (sym part) (stands_for r self c.args.row.now c.requires.1 c.requires.3.has c.requires.4))

pub returns : goal.returns
returns c = λ r m known is own.
    (let self = c.args.self.now in
    let part = ap (λ n. take n c.args.row.now) c.output_position.ensures in
    c.candidates.ensures r self.discipline (without_output m) known.cached (subst (StandsFor r self.discipline self.cache.store self.cache.table (without_output m)) (sym part) (stands_for r self c.args.row.now m is.has own)) ∙ ap (those_below (processes_of r)) (may_quiet r self.discipline m))
