use Rattle.std.proofs.Common.{◌++◌, ℕ, Bor, List, Option, ap, codes, sym}
use Rattle.std.specs.Prelude.{decimal, option_map}
use Rattle.cp_show_mark.specs.MarkText.{known_if}
use Rattle.cp_show_mark.proofs.Pieces.{also, two, three}
use Rattle.cp_show_mark.proofs.excess.push_known.Goals as goal

pub returns : goal.returns
returns c =
    let seen : ℕ × Bor (List ℕ) → ℕ × List ℕ = λ k. (k.0, k.1.now) in
    let a = codes "of all schedules of at most " in
    let b = decimal c.in-Some.choices in
    let d = codes " choices:\n" in
    let whole = two c.args.text.now c.put-2.new.self c.put-3.new.self (a ++ b ++ d) c.in-Some.said.now (three c.args.text.now c.put.new.self c.put_display.new.self c.put-2.new.self a b d c.put.ensures c.put_display.ensures c.put-2.ensures) c.put-3.ensures in
    also c.args.text.now c.put-3.new.self (ap (λ (k : Option (ℕ × Bor (List ℕ))). known_if (option_map seen k)) (sym c.in-Some.is)) whole
