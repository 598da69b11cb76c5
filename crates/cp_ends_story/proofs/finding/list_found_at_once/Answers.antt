use Rattle.std.proofs.Common.{List, map, refl, subst, sym}
use Rattle.std.specs.Prelude.{All}
use Rattle.cp_at_once.specs.declared.found.EndAtOnce.{EndAtOnce}
use Rattle.cp_ends_story.specs.Findings.{HaveWord, HaveWords, end_with_word}
use Rattle.cp_ends_story.proofs.finding.list_found_at_once.Goals as goal

pub returns : goal.returns
returns c = (
  λ r states kept all.
      let same = c.deref.ensures.value in
      let told = c.in_ok-list_ends_at_once.ensures r states kept (subst (λ (es : List EndAtOnce). All (HaveWord states) es) (sym same) all) in
      subst (λ (es : List EndAtOnce). HaveWords states es (map end_with_word c.in_ok-list_ends_at_once.field-0.items)) same told,
  refl,
)
