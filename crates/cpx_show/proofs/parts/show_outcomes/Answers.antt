use Rattle.std.proofs.Common.{Bool, true, string_bytes, refl, subst, sym}
use Rattle.cp_tree.specs.TreeView.{tree_view}
use Rattle.cpx_show.specs.Summaries.{IsCovered, form_of}
use Rattle.cpx_show.proofs.Meaning.{outcomes}
use Rattle.cpx_show.proofs.parts.show_outcomes.Goals as goal

pub returns-in_ok-text : goal.returns-in_ok-text
returns-in_ok-text g c =
    let i = c.args.inquiry in
    let l = i.loaded.now in
    let before = c.in_ok-answer.answer in (
      string_bytes before.text,
      outcomes (tree_view l.checked.tree) l.program l.checked.tree.read c.requires.accepted c.requires.stands.laid i.asked.now.options i.legend.now (form_of c.args.as_json) before.verdict (string_bytes before.text) c.in_ok-answer.ensures,
      subst (λ (cover : Bool). IsCovered c.args.as_json cover (string_bytes before.text) (string_bytes c.in_ok-text.text)) (sym c.if-with_cover.true) (subst (λ told. IsCovered c.args.as_json true told (string_bytes c.in_ok-text.text)) c.as_str.ensures.value c.in_ok-text.ensures),
    )

pub returns-else-with_cover : goal.returns-else-with_cover
returns-else-with_cover g c =
    let i = c.args.inquiry in
    let l = i.loaded.now in
    let before = c.in_ok-answer.answer in (
      string_bytes before.text,
      outcomes (tree_view l.checked.tree) l.program l.checked.tree.read c.requires.accepted c.requires.stands.laid i.asked.now.options i.legend.now (form_of c.args.as_json) before.verdict (string_bytes before.text) c.in_ok-answer.ensures,
      subst (λ (cover : Bool). IsCovered c.args.as_json cover (string_bytes before.text) (string_bytes before.text)) (sym c.if-with_cover.false) refl,
    )
