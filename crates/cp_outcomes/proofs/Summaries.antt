-- What is told is what was found, as text or as JSON.
use Rattle.std.proofs.Common.{◌≡◌, List, ℕ, ◌++◌, true, false, codes, map, Option, String, Global, string_bytes, refl, sym, subst}
use Rattle.cp_merged.specs.Code.{tally_of}
use Rattle.cp_merged.specs.declared.tally.Tally as code
use Rattle.cp_run.specs.Slots.{slots}
use Rattle.cp_outcomes.specs.Findings.{IsFoundOf}
use Rattle.cp_outcomes.specs.Meant.{IsMeantFinding}
use Rattle.cp_outcomes.specs.Told.{setting_of}
use Rattle.cp_outcomes.specs.Written.{IsExcessJson, IsExcessText, IsJsonOf, IsTextOf, TellsOutcomes}
use Rattle.cp_outcomes.specs.declared.known.Known.{Known}
use Rattle.cp_outcomes.specs.declared.subject.Excess.{Excess}
use Rattle.cp_outcomes.specs.declared.subject.Format.{Format}
use Rattle.cp_outcomes.specs.declared.subject.Format.TheVariants.{Text, Json}
use Rattle.cp_outcomes.specs.declared.subject.Subject.{Subject}
use Rattle.cp_outcomes.specs.declared.telling.Finding.TheVariants.{Whole, TooMany}

module _ (s : Subject) (form : Format) (written : List ℕ) (text : String Global) where
  pub tells_whole : (tallies : List code.Tally) → IsFoundOf (slots s.program.now s.limits.discipline) s.limits.choices s.limits.steps (Whole tallies) → IsMeantFinding s.program.now s.limits.discipline s.limits.choices s.limits.steps (Whole tallies) → (form ≡ Text → IsTextOf (setting_of s s.limits.choices) (map tally_of tallies) written) → (form ≡ Json → IsJsonOf (setting_of s s.limits.choices) (map tally_of tallies) written) → (form ≡ Text → string_bytes text ≡ written) → (form ≡ Json → string_bytes text ≡ written ++ codes "\n") → TellsOutcomes s form (record { is_whole = true; text = text })
  tells_whole tallies found meant as_text as_json same line = record {
    finding = Whole tallies;
    found = found;
    meant = meant;
    written = λ e. (refl, subst (IsTextOf (setting_of s s.limits.choices) (map tally_of tallies)) (sym (same e)) (as_text e));
    json = λ e. (written, (refl, as_json e), line e);
  }

  pub tells_excess : (excess : Excess) (known : Option Known) → IsFoundOf (slots s.program.now s.limits.discipline) s.limits.choices s.limits.steps (TooMany excess known) → IsMeantFinding s.program.now s.limits.discipline s.limits.choices s.limits.steps (TooMany excess known) → (form ≡ Text → IsExcessText s excess known written) → (form ≡ Json → IsExcessJson s excess known written) → (form ≡ Text → string_bytes text ≡ written) → (form ≡ Json → string_bytes text ≡ written ++ codes "\n") → TellsOutcomes s form (record { is_whole = false; text = text })
  tells_excess excess known found meant as_text as_json same line = record {
    finding = TooMany excess known;
    found = found;
    meant = meant;
    written = λ e. (refl, subst (IsExcessText s excess known) (sym (same e)) (as_text e));
    json = λ e. (written, (refl, as_json e), line e);
  }
