use Rattle.std.proofs.Common.{◌≡◌, IfSome, List, Some, ℕ, inr, map, option_map, string_bytes, subst}
use Rattle.std.proofs.lemmas.Result.{IfOk-weaker}
use Rattle.cp_merged.specs.Code.{tally_of}
use Rattle.cp_show_mark.specs.MarkText.{setting_of}
use Rattle.cp_show_mark.specs.Told.{SaysOfTallies, TellsKnown, excess_saying}
use Rattle.cp_show_mark.proofs.marks.known_text.Goals as goal

pub returns-in-Some : goal.returns-in-Some
returns-in-Some g c =
    let s = setting_of c.args.examinee in
    let k = c.args.known.now in
    let es = c.args.reading.now.expectations.items in
    let doubtful = option_map (λ w. w.now) c.args.reading.now.doubtful in
    let known = string_bytes c.in-Some.said in
    let says = subst (λ found. IfSome found (λ t. SaysOfTallies s k.choices es doubtful (map tally_of k.tallies) (string_bytes t))) c.in-Some.is c.in_ok-said.ensures in
    IfOk-weaker c.excess_text.result _ (λ t. TellsKnown s es doubtful c.args.excess k (string_bytes t)) (λ t is. inr (known, says, subst (λ (w : List ℕ). string_bytes t ≡ excess_saying s c.args.excess (Some (k.choices, w))) c.as_str.ensures.value is)) c.excess_text.ensures
