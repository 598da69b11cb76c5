use Rattle.std.proofs.Common.{◌∙◌, ap, codes, map, refl, sym}
use Rattle.std.proofs.lemmas.Result.{on_ok_weaker}
use Rattle.cp_legend.specs.Names.{legend_seen}
use Rattle.cp_story.specs.Objects.{members_in, with_member, with_members}
use Rattle.cp_story.specs.Views.{wait_of}
use Rattle.cp_show_mark.proofs.Gathered.{final_none, final_some}
use Rattle.cp_show_mark.proofs.mark_objects.put_waits.Goals as goal

pub returns-then-is_empty : goal.returns-then-is_empty
returns-then-is_empty c = sym (ap (with_members (members_in c.args.object.now)) (final_none (legend_seen c.args.legend.now) c.args.all.now (map wait_of c.args.all.now) refl (sym c.is_empty.ensures ∙ c.if-is_empty.true)))

pub returns : goal.returns
returns c =
    let old = members_in c.args.object.now in
    let all = c.args.all.now in
    on_ok_weaker c.put.result (λ e. e ∙ ap (λ v. with_member old (codes "final") v) c.in_ok-waits.ensures ∙ sym (ap (with_members old) (final_some (legend_seen c.args.legend.now) all (map wait_of all) refl (sym c.is_empty.ensures ∙ c.if-is_empty.false)))) c.put.ensures
