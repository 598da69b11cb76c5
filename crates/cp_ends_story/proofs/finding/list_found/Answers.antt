use Rattle.std.proofs.Common.{◌∙◌, ℕ, Option, length, map, ap, refl, subst, sym}
use Rattle.cp_ends.specs.Holds.{AreFound, end_origin}
use Rattle.cp_ends.specs.Told.{told}
use Rattle.cp_ends.proofs.Keeping.{states_length}
use Rattle.cp_ends_story.specs.Findings.{reach_by}
use Rattle.cp_ends_story.proofs.finding.list_found.Goals as goal

pub returns : goal.returns
returns c = (
  λ r f depth h is.
      let same = c.in_ok-depth.ensures r f depth h is in
      let ends = subst (λ es. AreFound f.states (map end_origin es) f.ends) (sym c.deref.ensures.value) h.ends in
      record {
        reach = c.reach_by.ensures ∙ ap (λ (n : ℕ). reach_by n c.in_ok-depth.depth) (c.len.ensures.count ∙ states_length r c.args.search.found.states f.states h.states) ∙ ap (reach_by (length f.states)) same;
        ends = c.in_ok-list_ends.ensures r f.states f.ends h.states ends ∙ ap (λ (d : Option ℕ). told d f.ends) same;
      },
  refl,
)
