-- What a search found is told of the program on its own names.
use Rattle.std.proofs.Common.{◌≡◌, ◌∙◌, ℕ, suc, List, Bool, true, false, Option, None, Some, length, refl, ap, sym, subst}
use Rattle.std.specs.Bool.{MatchBool}
use Rattle.cp_tree.specs.Read.{IsRead}
use Rattle.cp_tree.specs.Syntax.{Tree}
use Rattle.cp_slots.specs.Tables.{Tables}
use Rattle.cp_meaning_laws.specs.Accepted.{IsAccepted}
use Rattle.cp_machine.specs.System.{Machine}
use Rattle.cp_resolved.proofs.Resolving.{read_names}
use Rattle.cp_resolved.specs.Enumerations.{constant_names}
use Rattle.cp_resolved.specs.Resolving.{IsProgramOf}
use Rattle.cp_machine_laws.specs.Named.{named_discipline}
use Rattle.cp_walk.specs.Text.{Spellings}
use Rattle.cp_ends.specs.Firsts.{those_within}
use Rattle.cp_ends.specs.Holds.{SlotFindings}
use Rattle.cp_ends.specs.Named.{IsAnswerToOnNames}
use Rattle.cp_ends.specs.Told.{IsDepth, ends_text}
use Rattle.cp_ends.specs.Whole.{IsAnswer, IsAnswerBy, IsMeantBy}
use Rattle.cp_ends.specs.declared.found.Found.{Found}
use Rattle.cp_ends.specs.declared.found.TheConstants.{MOST_VALUES}
use Rattle.cp_waits.specs.Named.{TellAsked, TellWho}
use Rattle.cp_waits.specs.Told.{waits_text}
use Rattle.cp_waits.specs.declared.waiting.Waits.{Waits}
use Rattle.cp_tool.specs.declared.options.Options.{Options}
use Rattle.cp_tool.specs.declared.answer.Verdict.{Verdict}
use Rattle.cp_tool.specs.declared.answer.Verdict.TheVariants.{Reported, TooManyStates}
use Rattle.cp_tool.specs.Analysis.{tells_waits}
use Rattle.cp_tool.specs.Ends.{AreAll, AreTold, IsReportOf}
use Rattle.cp_tool.specs.Waits.{IsWaitsReport, verdict_on}
use Rattle.std.specs.Prelude.{◌++◌}

abbrev State : Type 0
State = Machine × List ℕ

-- the one that stands there, or the other
abbrev here_or : State → Option State → State
here_or other None = other
here_or other (Some x) = x

module _ (o : Options) (t : Tree) (r : Tables) where
  -- how far the search came, and that all was found so far
  all_found : (f : SlotFindings) (stopped : Option ℕ) → IsAnswerBy r o.discipline o.steps o.states f stopped → IsMeantBy t (named_discipline o.discipline) o.steps f stopped → (to : Option ℕ) × IsDepth f stopped to × AreAll o t r f to
  all_found f None by means = (None, refl, record { on_names = means; on_slots = by })
  all_found f (Some at) (x, is, cut) (y, is_too, means) =
      let same : y ≡ x = ap (here_or x) (sym is_too ∙ is) in
      let so = subst (λ (z : State). IsAnswerToOnNames t (named_discipline o.discipline) o.steps (length z.1) (suc MOST_VALUES) (those_within (length z.1) f.ends) (those_within (length z.1) f.values)) same means in
      (Some (length x.1), (x, is, refl), record { on_names = so; on_slots = cut })

  module _ (found : Found) (read : IsRead t.program) (ok : IsAccepted t) (is : IsProgramOf t r) (verdict : Verdict) (text : List ℕ) where
    abbrev IsReported : Type 0
    IsReported = (x : IsAnswer r o.discipline o.steps o.states found) (to : Option ℕ) → IsDepth x.findings found.stopped to → IsReportOf o t r x.findings to verdict text

    pub told : IsAnswer r o.discipline o.steps o.states found → IsReported → AreTold o t r verdict text
    told a report =
        let all = all_found a.findings found.stopped a.answer (a.meaning t read ok is.laid) in
        (a.findings, all.0, all.2, report a all.0 all.1)

  -- ---- the text, by the names of the tables

  module _ (read : IsRead t.program) (ok : IsAccepted t) (is : IsProgramOf t r) (f : SlotFindings) (to : Option ℕ) where
    names_same : r.names ≡ constant_names t.program
    names_same = read_names t r ∣ read ∣₁ ok is.laid

    by_names : (text : List ℕ) → text ≡ ends_text r.names f to → text ≡ ends_text (constant_names t.program) f to
    by_names text e = e ∙ ap (λ (names : Spellings). ends_text names f to) names_same

    pub cut_reported : (at : ℕ) (text : List ℕ) → IsDepth f (Some at) to → text ≡ ends_text r.names f to → IsReportOf o t r f to TooManyStates text
    cut_reported at text (x, at_x, e) h = subst (λ (d : Option ℕ). IsReportOf o t r f d TooManyStates text) (sym e) (refl, by_names text h ∙ ap (ends_text (constant_names t.program) f) e)

    pub whole_reported : (text : List ℕ) → tells_waits o.analysis ≡ false → IsDepth f None to → text ≡ ends_text r.names f to → IsReportOf o t r f to Reported text
    whole_reported text quiet e h =
        let so : MatchBool false (IsWaitsReport o t r f Reported text) ((Reported ≡ Reported) × (text ≡ ends_text (constant_names t.program) f None)) = (refl, by_names text h ∙ ap (ends_text (constant_names t.program) f) e) in
        subst (λ (d : Option ℕ). IsReportOf o t r f d Reported text) (sym e)
        (subst (λ (b : Bool). MatchBool b (IsWaitsReport o t r f Reported text) ((Reported ≡ Reported) × (text ≡ ends_text (constant_names t.program) f None))) (sym quiet) so)

    pub waits_reported : (found : Found) (waits : Waits) (verdict : Verdict) (text : List ℕ) → TellAsked r o.discipline o.steps (tells_waits o.analysis) found (Some waits) → IsDepth f found.stopped to → verdict ≡ verdict_on waits → text ≡ ends_text r.names f to ++ waits_text waits → TellWho r o.discipline o.steps f.ends waits → IsReportOf o t r f to verdict text
    waits_reported found waits verdict text asked d v h tell =
        let whole : to ≡ None = subst (λ (s : Option ℕ). IsDepth f s to) asked.1 d in
        let report : IsWaitsReport o t r f verdict text = (waits, v, h ∙ ap (λ (l : List ℕ). l ++ waits_text waits) (by_names (ends_text r.names f to) refl ∙ ap (ends_text (constant_names t.program) f) whole), tell) in
        subst (λ (d : Option ℕ). IsReportOf o t r f d verdict text) (sym whole)
        (subst (λ (b : Bool). MatchBool b (IsWaitsReport o t r f verdict text) ((verdict ≡ Reported) × (text ≡ ends_text (constant_names t.program) f None))) (sym asked.0) report)

-- who waits is not asked
pub unasked : (asks : Bool) → (asks ≡ true → ⊥) → asks ≡ false
unasked true h = absurd (h refl)
unasked false h = refl
