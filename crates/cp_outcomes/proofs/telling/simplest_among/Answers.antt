use Rattle.std.proofs.Common.{◌≡◌, ◌∙◌, ◌<◌, List, None, IfSome, get_or, length, map, ap, refl, subst, sym}
use Rattle.std.specs.List.{slice_get}
use Rattle.cp_run.specs.Slots.{slots}
use Rattle.cp_merged.specs.Code.{tally_of}
use Rattle.cp_merged.specs.declared.tally.Tally as code
use Rattle.cp_simplest.specs.Simple.{IsScheduleOf}
use Rattle.cp_outcomes.specs.Chosen.{IsSchedule, with_number}
use Rattle.cp_outcomes.specs.Told.{in_order}
use Rattle.cp_outcomes.specs.declared.telling.First.TheVariants as first
use Rattle.cp_outcomes.proofs.Choosing.{none_scheduled, has_number}
use Rattle.cp_outcomes.proofs.telling.simplest_among.Goals as goal

pub returns-in_default : goal.returns-in_default
returns-in_default g c =
    let none = subst (λ (ts : List code.Tally). with_number (in_order (map tally_of ts)) c.args.number ≡ None) c.as_slice.ensures.value c.in_default.ensures.is in
    none_scheduled c.args.job c.args.tallies.now c.args.number (record { count = length c.as_slice-in_default.result.now; choices = None }) none (ap length c.as_slice-in_default.ensures.value) refl

pub returns-in-Some-2 : goal.returns-in-Some-2
returns-in-Some-2 g c =
    let job = c.args.job in
    let ts = c.args.tallies.now in
    let t = c.index-as_slice-place.result in
    let place = c.in-Some.place in
    let at = subst (λ (ts : List code.Tally). with_number (in_order (map tally_of ts)) c.args.number ≡ slice_get (map tally_of ts) place) c.as_slice.ensures.value c.in-Some.ensures.is in
    let within : place < length ts = subst (λ (ts : List code.Tally). place < length ts) c.as_slice.ensures.value c.in-Some.ensures.within in
    let chosen = has_number ts c.args.number place t at within (c.index-as_slice-place.is ∙ ap (λ (ts : List code.Tally). get_or ts place t) c.as_slice-2.ensures.value) in
    let schedule = subst (λ o. IfSome o (λ s. IsScheduleOf (slots job.program.now job.limits.discipline) job.limits.choices job.limits.steps s.now.word.items t.outcome)) c.in-Some-2.is c.in_ok-simple.ensures in
    let word = c.word_of.ensures ∙ c.as_slice-in-Some-2.ensures.value in
    subst (λ o. IsSchedule job (length (in_order (map tally_of ts))) None o (first.Word c.word_of.result)) (sym chosen) (subst (λ w. IsScheduleOf (slots job.program.now job.limits.discipline) job.limits.choices job.limits.steps w t.outcome) (sym word) schedule)
