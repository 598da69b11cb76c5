use Rattle.std.proofs.Common.{◌∙◌, ap, length, min}
use Rattle.cp_refusal.proofs.Fronts.{length_front, start_of}
use Rattle.cp_refusal.proofs.LineShown.{line_before, line_found, whole_line}
use Rattle.cp_refusal.proofs.page.shown_line.Goals as goal

pub returns : goal.returns
returns c =
    let s = c.args.source.now in
    let number = c.args.number in
    let at = c.args.at in
    let start = c.min-start.result in
    let line = c.line_at-line.result.now in
    let part = c.shown_part-part.result in
    let found = line_found s line number at c.line_start.result start c.requires c.line_start.ensures c.min-start.ensures c.line_at-line.ensures in
    let begins = start_of s number at c.line_start.result start c.requires c.line_start.ensures c.min-start.ensures in
    λ plain.
    let whole = whole_line line number s part.from part.to c.get-2.result _ c.unwrap_or-2.result found c.shown_part-part.ensures c.get-2.ensures.lookup c.unwrap_or-2.ensures plain in
    (whole.0, whole.1, whole.2, λ within. line_before line s number at start c.min-place.result part.from part.to c.get.result _ c.unwrap_or.result found within (length_front s at start begins) (c.min-place.ensures ∙ ap (λ n. min n (length line)) c.saturating_sub.ensures) c.shown_part-part.ensures c.get.ensures.lookup c.unwrap_or.ensures plain)
