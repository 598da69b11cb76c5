use Rattle.std.proofs.Common.{◌≡◌, ◌∙◌, ◌++◌, codes, string_bytes, sym}
use Rattle.std.proofs.lemmas.List.{append_assoc}
use Rattle.std.proofs.lemmas.Result.{IfOk-weaker}
use Rattle.cp_show_mark.specs.Given.{and_own}
use Rattle.cp_show_mark.proofs.Giving.{own_behind}
use Rattle.cp_show_mark.proofs.marks.join.Goals as goal

pub returns : goal.returns
returns c =
    let words = c.args.words.now in
    let own = c.args.own.now in
    IfOk-weaker c.format.result _ (λ text. string_bytes text ≡ and_own words own) (λ text e. (let plain : string_bytes text ≡ words ++ codes " and " ++ own = e ∙ simp append_assoc in plain ∙ sym (own_behind words own (sym c.is_empty.ensures ∙ c.if-is_empty.false)))) c.format.ensures.ok
