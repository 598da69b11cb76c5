use Rattle.std.proofs.Common.{◌∙◌, [], ap, map, refl, slice_index_or, string_bytes}
use Rattle.std.proofs.lemmas.Str.Ascii.{trim_ascii_is}
use Rattle.cp_show_mark.specs.MarkText.{without_blanks_before, without_blanks_behind}
use Rattle.cp_show_mark.proofs.examinee.Examinee.line.Goals as goal

pub returns : goal.returns
returns c =
    let there = c.text_at.result.now in
    let lines = map string_bytes c.args.self.now.lines.now in
    trim_ascii_is there c.trim_ascii.result.now (without_blanks_before there) refl c.trim_ascii.ensures.value ∙ ap (λ s. without_blanks_behind (without_blanks_before s)) (c.text_at.ensures ∙ ap (λ n. slice_index_or lines n []) c.saturating_sub.ensures)
