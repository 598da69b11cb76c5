use Rattle.std.proofs.Common.{◌∙◌, [], ap, if◌then◌else◌, length, map, sym}
use Rattle.cp_legend.specs.Names.{legend_seen}
use Rattle.cp_story.specs.Views.{wait_of}
use Rattle.cp_story.specs.Waiting.{who_waits}
use Rattle.cp_show_mark.specs.Stories.{ends_waiting}
use Rattle.cp_show_mark.proofs.stories.waits_of.Goals as goal

pub returns-then-ends_waiting : goal.returns-then-ends_waiting
returns-then-ends_waiting c =
    let x = c.args.examinee in
    let o = x.options.now in
    let word = c.args.word.now in
    let so = c.in_ok-story.ensures.so in
    let all = who_waits (legend_seen x.legend.now) x.program.now o.discipline (length word) o.steps word in
    so.waits ∙ sym (ap (λ b. if b then all else []) (ap ends_waiting (sym so.end) ∙ sym c.ends_waiting.ensures ∙ c.if-ends_waiting.true))

pub returns-else-ends_waiting : goal.returns-else-ends_waiting
returns-else-ends_waiting c =
    let x = c.args.examinee in
    let o = x.options.now in
    let word = c.args.word.now in
    let so = c.in_ok-story.ensures.so in
    let all = who_waits (legend_seen x.legend.now) x.program.now o.discipline (length word) o.steps word in
    ap (map wait_of) c.new.ensures.items ∙ sym (ap (λ b. if b then all else []) (ap ends_waiting (sym so.end) ∙ sym c.ends_waiting.ensures ∙ c.if-ends_waiting.false))
