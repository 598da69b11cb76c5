use Rattle.std.proofs.Common.{◌≡◌, of_z, rules, to_z, w16}
use Rattle.cp_story.proofs.cause_words.push_label.Goals as goal

pub returns-then-is_known : goal.returns-then-is_known
returns-then-is_known c =
    let value : to_z w16 (of_z w16 c.args.value) ≡ c.args.value = search rules in
    rw c.if-is_known.true (rw value at c.push_behind.ensures)
