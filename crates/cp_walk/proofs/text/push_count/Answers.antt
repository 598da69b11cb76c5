use Rattle.std.proofs.Common.{◌≡◌, ◌++◌, List, ℕ, IfOk, string_bytes, sym, subst}
use Rattle.cp_natural.proofs.Decimals.{number_text-decimal}
use Rattle.cp_walk.proofs.text.push_count.Goals as goal

pub returns : goal.returns
returns c = subst (λ (digits : List ℕ). IfOk c.push_number.result (λ _. string_bytes c.push_number.new.text ≡ string_bytes c.args.text.now ++ digits)) (sym (number_text-decimal c.args.count c.ranges.count.fits)) c.push_number.ensures
