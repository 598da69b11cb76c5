use Rattle.std.proofs.Common.{◌≡◌, ◌∙◌, ◌++◌, ℕ, List, ap, codes, decimal, string_bytes}
use Rattle.std.proofs.lemmas.List.{append_assoc}
use Rattle.cp_waits.proofs.report.push_not_settled.Goals as goal

three_more : (old a n b one two new : List ℕ) → one ≡ old ++ a → two ≡ one ++ n → new ≡ two ++ b → new ≡ old ++ (a ++ n ++ b)
three_more old a n b one two new e f g = g ∙ ap (λ l. l ++ b) (f ∙ ap (λ l. l ++ n) e ∙ append_assoc old a n) ∙ append_assoc old (a ++ n) b

pub returns : goal.returns
returns c =
    let number : string_bytes c.push_number.new.text ≡ string_bytes c.push_str.new.self ++ decimal c.args.process = c.in_ok-push_number.ensures ∙ ap (λ n. string_bytes c.push_str.new.self ++ decimal n) c.from.ensures in
    three_more (string_bytes c.args.text.now) (codes "waits not settled process ") (decimal c.args.process) (codes "\n") (string_bytes c.push_str.new.self) (string_bytes c.push_number.new.text) (string_bytes c.push_str-2.new.self) c.in_ok-push_str.ensures.bytes number c.in_ok-push_str-2.ensures.bytes
