use Rattle.std.proofs.Common.{◌∙◌, codes, rules, string_bytes}
use Rattle.std.specs.Prelude.{pos}
use Rattle.cp_machine.specs.declared.shown.Shown.TheVariants.{Integer}
use Rattle.cp_legend.specs.Names.{legend_seen}
use Rattle.cp_story.specs.Sentences.{shown_text}
use Rattle.cp_story.proofs.Rows.{joined_element_step}
use Rattle.cp_story.proofs.words.push_values_shown.Goals as goal

pub loop-value-preserved : goal.loop-value-preserved
loop-value-preserved c =
    record {
      utf8 = search rules;
      written =
          rw (c.in_ok-push_value_shown.ensures, c.in_ok-push_str.ensures.bytes)
          (c.loop-value.invariant.written
          ∙ joined_element_step (shown_text (legend_seen c.args.legend.now)) c.args.values.now c.loop-value.value-index (string_bytes c.loop-value.text) c.loop-value.before.now (codes " ") (Integer (pos 0)) c.loop-value-test.true);
    }
