use Rattle.std.proofs.Common.{List, String, Global, map, string_bytes, subst, sym}
use Rattle.std.proofs.lemmas.Result.{IfOk-weaker}
use Rattle.cp_tree.specs.TreeView.{tree_view}
use Rattle.cpx_show.proofs.Naming.{named}
use Rattle.cp_outcomes.specs.Lines.{AreLinesShown}
use Rattle.cpx_show.specs.Shown.{AreNamed}
use Rattle.cpx_show.proofs.answering.show_loaded.Goals as goal

pub show_part-requires-clause-named : goal.show_part-requires-clause-named
show_part-requires-clause-named g c =
    let l = c.args.loaded.now in
    named (tree_view l.checked.tree) l.program c.in_ok-legend.legend c.args.symbols l.checked.tree.read c.requires.accepted c.requires.stands c.requires.noted c.in_ok-legend.ensures

pub returns : goal.returns
returns g c =
    let l = c.args.loaded.now in
    let is : AreNamed (tree_view l.checked.tree) l.program c.in_ok-legend.legend = named (tree_view l.checked.tree) l.program c.in_ok-legend.legend c.args.symbols l.checked.tree.read c.requires.accepted c.requires.stands c.requires.noted c.in_ok-legend.ensures in
    let lines : AreLinesShown c.args.source.now (map string_bytes c.deref.result.now) = subst (λ (items : List (String Global)). AreLinesShown c.args.source.now (map string_bytes items)) (sym c.deref.ensures.value) c.in_ok-lines.ensures in
    IfOk-weaker c.show_part.result _ _ (λ a h. (l.program, c.in_ok-legend.legend, map string_bytes c.deref.result.now, is, lines, h)) c.show_part.ensures
