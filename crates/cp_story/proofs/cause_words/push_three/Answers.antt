use Rattle.std.proofs.Common.{◌≡◌, ◌++◌, List, ℕ, of_z, rules, string_bytes, sym, to_z, w16}
use Rattle.std.specs.Fmt.{signed_decimal}
use Rattle.std.proofs.lemmas.List.{append_assoc}
use Rattle.cp_story.proofs.cause_words.push_three.Goals as goal

all_in_one : (old f b s d t : List ℕ) → old ++ (f ++ b ++ s ++ d ++ t) ≡ (old ++ (f ++ b ++ s)) ++ (d ++ t)
all_in_one old f b s d t = sym (simp append_assoc)

pub returns : goal.returns
returns c =
    let first : to_z w16 (of_z w16 c.args.first) ≡ c.args.first = search rules in
    let second : to_z w16 (of_z w16 c.args.second) ≡ c.args.second = search rules in
    let third : to_z w16 (of_z w16 c.args.third) ≡ c.args.third = search rules in
    let two = rw (first, second) at c.in_ok-push_two.ensures in
    rw (all_in_one (string_bytes c.args.text.now) (signed_decimal c.args.first) c.args.behind_first.now (signed_decimal c.args.second) c.args.behind_second.now (signed_decimal c.args.third), ← two) (rw third at c.push_behind.ensures)
