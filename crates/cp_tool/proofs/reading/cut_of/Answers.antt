use Rattle.std.proofs.Common.{◌≡◌, ◌∙◌, refl, ℕ, true, false, Option, None, Some, arith, codes, subst}
use Rattle.std.specs.Option.{is_some}
use Rattle.std.specs.Prelude.{option_map}
use Rattle.clap.specs.Words.{Text, first_of, found_of, rows_of}
use Rattle.cp_tool.specs.Numbers.{IsChosen}
use Rattle.cp_tool.specs.Options.{IsCut}
use Rattle.cp_tool.proofs.Obtaining.{refused_as}
use Rattle.cp_tool.proofs.reading.cut_of.Goals as goal

-- where there is a text, the cut that it says is a number that is chosen
chosen : (text : Option Text) (cut : Option ℕ) → IsCut text cut → is_some text ≡ true → (depth : ℕ) × IsChosen 0 0 20 text depth
chosen None cut is some = let bad : false ≡ true = some in absurd (cc)
chosen (Some text) None is some = absurd is
chosen (Some text) (Some depth) is some = (depth, (is.0, omega arith, is.1))

some_too : {A B : Type 0} (f : A → B) (o : Option A) → is_some (option_map f o) ≡ is_some o
some_too f None = refl
some_too f (Some x) = refl

pub returns-in_err-number_of : goal.returns-in_err-number_of
returns-in_err-number_of c =
    let text = c.text_of.result in
    let some = subst (λ (t : Option Text). is_some t ≡ true) c.text_of.ensures (some_too (λ s. s.now) text ∙ c.if-is_none.ensures) in
    refused_as (IsCut (first_of (codes "cut") (rows_of (found_of c.args.matches.now)))) c.from_residual.result c.in_err-number_of.field-0.0 c.from_residual.ensures.1 c.in_err-number_of.ensures (λ cut is. chosen _ cut is some)
