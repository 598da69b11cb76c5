-- The one with a number.
use Rattle.std.proofs.Common.{◌≡◌, ◌∙◌, ◌-◌, ◌≤◌, ℕ, zero, suc, List, Some, MatchOption, length, map, get_or, option_map, refl, sym, ap, subst, arith}
use Rattle.std.specs.Prelude.{slice_get}
use Rattle.std.specs.declared.alloc.Global.{Global}
use Rattle.std.specs.declared.vec.Vec.{Vec}
use Rattle.std.proofs.lemmas.Option.{slice_get-get_or, slice_get-map}
use Rattle.cp_ends_story.specs.Findings.{end_with_word}
use Rattle.cp_ends_story.specs.Numbered.{IsEnd, IsNone, IsSchedule}
use Rattle.cp_ends_story.specs.declared.numbered.NumberedSchedule.TheVariants as numbered
use Rattle.cp_ends_story.specs.declared.subject.ToldEnd.{ToldEnd}

-- the word of the end before which there is one less
pub is_end : (ends : List ToldEnd) (number : ℕ) (e : ToldEnd) (word : Vec ℕ Global) → 1 ≤ number → number ≤ length ends → e ≡ get_or ends (number - 1) e → word.items ≡ e.word.items → IsEnd (map end_with_word ends) number (numbered.Word word 0)
is_end ends zero e word one within is held = absurd (omega (arith, one))
is_end ends (suc n) e word one within is held =
    let before : suc n - 1 ≡ n = omega arith in
    let here = subst (λ (k : ℕ). e ≡ get_or ends k e) before is in
    let at : slice_get (map end_with_word ends) n ≡ Some (end_with_word e) = slice_get-map end_with_word ends n ∙ ap (option_map end_with_word) (slice_get-get_or ends n e (omega (arith, within)) ∙ ap Some (sym here)) in
    subst (λ o. MatchOption o (IsNone (length (map end_with_word ends)) (numbered.Word word 0)) (λ x. IsSchedule x.1 0 (numbered.Word word 0))) (sym at) (held, refl)
