use Rattle.std.proofs.Common.{◌≡◌, ◌∙◌, ◌-◌, List, [], ℕ, map, refl, ap, arith, string_bytes}
use Rattle.std.specs.Prelude.{slice_index_or}
use Rattle.std.proofs.lemmas.Str.Ascii.{trim_ascii_is}
use Rattle.cp_outcomes.specs.Told.{source_line, without_space_before, without_space_behind}
use Rattle.cp_outcomes.proofs.told.line_of.Goals as goal

pub returns : goal.returns
unfolding source_line
returns c =
    let place : c.saturating_sub.result ≡ c.args.line - 1 = omega arith in
    trim_ascii_is c.text_at.result.now c.trim_ascii.result.now (without_space_before c.text_at.result.now) refl c.trim_ascii.ensures.value ∙ ap (λ (t : List ℕ). without_space_behind (without_space_before t)) (c.text_at.ensures ∙ ap (λ (n : ℕ). slice_index_or (map string_bytes c.args.source.now) n []) place)
