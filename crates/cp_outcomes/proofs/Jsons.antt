-- The JSON of outcomes: it has no floats, and is put together of parts.
use Rattle.std.proofs.Common.{◌≡◌, ◌==◌, ◌∙◌, ℕ, suc, ◌+◌, ◌^◌, ◌<◌, Bool, true, false, List, [], ◌∷◌, ◌++◌, length, take, get_or, map, codes, Option, None, Some, Result, Ok, Err, IfOk, String, Global, string_bytes, refl, sym, ap, arith, take-suc}
use Rattle.std.specs.List.{list_any}
use Rattle.std.specs.Prelude.{nat_lt, if◌then◌else◌}
use Rattle.std.proofs.lemmas.List.{map-append, length-map, length-take}
use Rattle.serde_json.specs.Data.{Data, Members, no_members}
use Rattle.serde_json.specs.Written.{compact_text, has_float}
use Rattle.cp_legend.specs.Names.{Legend, monitor_count, process_count}
use Rattle.cp_legend.specs.Names.{monitor_in, path_in, process_in, type_in}
use Rattle.cp_machine.specs.declared.discipline.Signals.{Signals}
use Rattle.cp_machine.specs.declared.discipline.Signals.TheVariants as signals
use Rattle.cp_machine.specs.declared.process.Status.{Status}
use Rattle.cp_machine.specs.declared.process.Status.TheVariants as status
use Rattle.cp_natural.specs.Decimal.{number_text}
use Rattle.cp_run.specs.Table.{Line}
use Rattle.cp_run.specs.declared.outcome.OutcomeKind.{OutcomeKind}
use Rattle.cp_run.specs.declared.outcome.OutcomeKind.TheVariants as kind
use Rattle.cp_walk.specs.Groups.{Tally}
use Rattle.cp_walk.specs.Text.{kind_text}
use Rattle.cp_merged.specs.Told.{rows_in}
use Rattle.cp_simplest.specs.declared.finding.SimplestSchedule.{SimplestSchedule}
use Rattle.cp_story.proofs.CauseFloats.{cause_free}
use Rattle.cp_story.proofs.StoryFloats.{violation_free}
use Rattle.cp_story.proofs.Floats.{both, is_float_member, no_float-array, no_float-at_each, no_float-numbers, no_float-object, none_of, with_both}
use Rattle.cp_story.specs.CauseText.{error_cause_members}
use Rattle.cp_story.specs.Objects.{Member, array_of, number_data, numbers_data, text_data, with_member, with_members}
use Rattle.cp_story.specs.ReasonText.{callers_data, perhaps_members, reason_data, reason_text, reasons_data, routine_text, routines_data}
use Rattle.cp_story.specs.Reasons.{Reason}
use Rattle.cp_story.specs.StoryData.{kind_members, monitor_data, named_data, process_data, signals_members, status_members, wait_data}
use Rattle.cp_story.specs.Waiting.{Waiting}
use Rattle.cp_story.specs.declared.reasons.Caller.{Caller}
use Rattle.cp_outcomes.specs.Data as spec
use Rattle.cp_outcomes.specs.Stops.{kind_at, rows_at, stops}
use Rattle.cp_outcomes.specs.Told.{Setting, Told, cause_after, reasons_after, violation_after, waits_after}
use Rattle.cp_outcomes.specs.declared.stopped.Limit.{Limit}

-- ---- no floats

count_free : (n : ℕ) → has_float (spec.count_data n) ≡ false
unfolding spec.count_data
count_free n = by (nat_lt n (2 ^ 64))
  where
    by : (b : Bool) → has_float (if b then number_data n else text_data (number_text n)) ≡ false
    by true = refl
    by false = refl

pub kind_free : (k : OutcomeKind) → list_any is_float_member (kind_members k) ≡ false
kind_free kind.Finished = refl
kind_free kind.AllWaiting = refl
kind_free (kind.RunError name process line) = refl
kind_free kind.ChoiceLimit = refl
kind_free kind.StepLimit = refl
kind_free kind.OutputLimit = refl

status_free : (l : Legend) (s : Status) → list_any is_float_member (status_members l s) ≡ false
status_free l status.Unstarted = refl
status_free l status.Ready = refl
status_free l (status.AtGate monitor) = refl
status_free l (status.Delayed cell) = refl
status_free l status.Ended = refl

named_free : (name type_name : List ℕ) → has_float (named_data name type_name) ≡ false
named_free name type_name = no_float-object ((codes "name", text_data name) ∷ (codes "type", text_data type_name) ∷ []) refl

pub wait_free : (l : Legend) (w : Waiting) → has_float (wait_data l w) ≡ false
wait_free l w =
    let where_inside = (codes "inside", numbers_data w.inside) ∷ [] in
    no_float-object ((codes "process", number_data w.process) ∷ status_members l w.status ++ where_inside) (both refl (none_of (status_members l w.status) where_inside (status_free l w.status) (both (no_float-numbers w.inside) refl)))

perhaps_free : (l : Legend) (ns : List ℕ) (b : Bool) → list_any is_float_member (if b then [] else (codes "perhaps", routines_data l ns) ∷ []) ≡ false
perhaps_free l ns true = refl
perhaps_free l ns false = both (no_float-array (λ n. text_data (routine_text l n)) ns (λ n. refl)) refl

reason_free : (l : Legend) (r : Reason) → has_float (reason_data l r) ≡ false
unfolding reason_data
reason_free l r =
    no_float-object
    ((codes "process", number_data r.process)
    ∷ (codes "since", number_data r.since)
    ∷ (codes "entries", routines_data l r.entries)
    ∷ (codes "in_vain", numbers_data r.in_vain)
    ∷ (codes "callers", callers_data r.callers)
    ∷ (codes "text", text_data (reason_text l r))
    ∷ perhaps_members l r.perhaps)
    (both refl
    (both refl
    (both (no_float-array (λ n. text_data (routine_text l n)) r.entries (λ n. refl))
    (both (no_float-numbers r.in_vain)
    (both (no_float-array (λ (c : Caller). number_data c.process) r.callers (λ c. refl)) (both refl (perhaps_free l r.perhaps (length r.perhaps == 0))))))))

why_free : (l : Legend) (rs : List Reason) (b : Bool) → list_any is_float_member (if b then [] else (codes "why", reasons_data l rs) ∷ []) ≡ false
why_free l rs true = refl
why_free l rs false = both (no_float-array (reason_data l) rs (reason_free l)) refl

simple_free : (simple : Option SimplestSchedule) → list_any is_float_member (spec.simple_members simple) ≡ false
simple_free None = refl
simple_free (Some s) = both (no_float-numbers s.word.items) refl

end_free : (s : Setting) (word : List ℕ) (k : OutcomeKind) → list_any is_float_member (spec.end_members s word k) ≡ false
end_free s word kind.Finished = refl
end_free s word kind.AllWaiting =
    both (no_float-array (wait_data s.legend) (waits_after s word) (wait_free s.legend)) (why_free s.legend (reasons_after s word) (length (reasons_after s word) == 0))
end_free s word (kind.RunError name process line) = both refl (none_of (error_cause_members s.legend (cause_after s word)) _ (cause_free s.legend (cause_after s word)) (violation_free s.legend (violation_after s word)))
end_free s word kind.ChoiceLimit = refl
end_free s word kind.StepLimit = refl
end_free s word kind.OutputLimit = refl

outcome_free : (l : Legend) (first : Line) → list_any is_float_member (spec.outcome_members l first) ≡ false
outcome_free l first = none_of (kind_members first.outcome.kind) _ (kind_free first.outcome.kind) (both refl (both (no_float-numbers first.word) refl))

told_free : (s : Setting) (whole number : ℕ) (t : Told) → has_float (spec.told_data s whole number t) ≡ false
unfolding spec.told_data
told_free s whole number t =
    let first = (codes "number", number_data number) ∷ spec.count_members t.tally.count whole in
    let outcome = spec.outcome_members s.legend t.tally.first in
    let simple = spec.simple_members t.simple in
    let end = spec.end_members s t.tally.first.word t.tally.first.outcome.kind in
    let counted : list_any is_float_member first ≡ false = both refl (both refl (both (count_free t.tally.count) refl)) in
    no_float-object (first ++ outcome ++ simple ++ end) (none_of (first ++ outcome ++ simple) end (none_of (first ++ outcome) simple (none_of first outcome counted (outcome_free s.legend t.tally.first)) (simple_free t.simple)) (end_free s t.tally.first.word t.tally.first.outcome.kind))

numbered_free : (s : Setting) (whole number : ℕ) (ts : List Told) → has_float (array_of (spec.numbered_data s whole number ts)) ≡ false
numbered_free s whole number [] = refl
numbered_free s whole number (t ∷ ts) = both (told_free s whole number t) (numbered_free s whole (number + 1) ts)

stop_free : (count : ℕ) (limit : Limit) → has_float (spec.stop_data count limit) ≡ false
stop_free count limit =
    no_float-object ((codes "kind", text_data (kind_text (kind_at limit))) ∷ (codes "count", spec.count_data count) ∷ []) (both refl (both (count_free count) refl))

pub signals_free : (s : Signals) → list_any is_float_member (signals_members s) ≡ false
signals_free signals.Return = refl
signals_free signals.Continue = refl
signals_free signals.Wait = refl

pub outcomes_free : (s : Setting) (ts : List Tally) (told : List Told) → has_float (spec.outcomes_data s ts told) ≡ false
outcomes_free s ts told =
    no_float-object (spec.all_members s ts told)
    (both (no_float-at_each (process_data s.legend) (process_count s.legend.components) (λ n. named_free (path_in (process_in s.legend.components n)) (type_in s.legend.systems (process_in s.legend.components n))))
    (both (no_float-at_each (monitor_data s.legend) (monitor_count s.legend.components) (λ n. named_free (path_in (monitor_in s.legend.components n)) (type_in s.legend.systems (monitor_in s.legend.components n))))
    (both (count_free (rows_in ts))
    (both (numbered_free s (rows_in ts) 1 told)
    (both refl
    (both (no_float-array (λ l. spec.stop_data (rows_at l ts) l) (stops ts) (λ l. stop_free (rows_at l ts) l)) (signals_free s.discipline.signals)))))))

-- what is written of an object that has none
pub object_text : {E : Type 0} (r : Result (String Global) E) (v d : Data) → v ≡ d → has_float d ≡ false → IfOk r (λ t. has_float v ≡ false → string_bytes t ≡ compact_text v) → IfOk r (λ t. string_bytes t ≡ compact_text d)
object_text (Ok t) v d is free h = h (ap has_float is ∙ free) ∙ ap compact_text is
object_text (Err x) v d is free h = tt

-- ---- parts

-- the members of an outcome, put part by part
pub told_parts : (none one two three four five : Members) (first : Member) (count outcome simple end : List Member) → one ≡ with_member none first.0 first.1 → two ≡ with_members one count → three ≡ with_members two outcome → four ≡ with_members three simple → five ≡ with_members four end → five ≡ with_members none (first ∷ count ++ outcome ++ simple ++ end)
told_parts none one two three four five first count outcome simple end p q r s t =
    t ∙ ap (λ m. with_members m end) (s ∙ ap (λ m. with_members m simple) (r ∙ ap (λ m. with_members m outcome) (q ∙ ap (λ m. with_members m count) p) ∙ sym (with_both none (first ∷ count) outcome)) ∙ sym (with_both none (first ∷ count ++ outcome) simple)) ∙ sym (with_both none (first ∷ count ++ outcome ++ simple) end)

-- four members, one after the other
pub four_puts : (none one two three four : Members) (k l m n : List ℕ) (a b c d a' b' c' d' : Data) → none ≡ no_members → one ≡ with_member none k a → a ≡ a' → two ≡ with_member one l b → b ≡ b' → three ≡ with_member two m c → c ≡ c' → four ≡ with_member three n d → d ≡ d' → four ≡ with_members no_members ((k, a') ∷ (l, b') ∷ (m, c') ∷ (n, d') ∷ [])
four_puts none one two three four k l m n a b c d a' b' c' d' o p is_a q is_b r is_c s is_d =
    let first : one ≡ with_member no_members k a' = p ∙ ap (λ ms. with_member ms k a) o ∙ ap (λ x. with_member no_members k x) is_a in
    let second : two ≡ with_member (with_member no_members k a') l b' = q ∙ ap (λ ms. with_member ms l b) first ∙ ap (λ x. with_member (with_member no_members k a') l x) is_b in
    let third : three ≡ with_member (with_member (with_member no_members k a') l b') m c' = r ∙ ap (λ ms. with_member ms m c) second ∙ ap (λ x. with_member (with_member (with_member no_members k a') l b') m x) is_c in
    s ∙ ap (λ ms. with_member ms n d) third ∙ ap (λ x. with_member (with_member (with_member (with_member no_members k a') l b') m c') n x) is_d

-- the outcomes with one more
numbered_push : (s : Setting) (whole number : ℕ) (ts : List Told) (t : Told) → spec.numbered_data s whole number (ts ++ t ∷ []) ≡ spec.numbered_data s whole number ts ++ spec.told_data s whole (number + length ts) t ∷ []
numbered_push s whole number [] t =
    let same : number ≡ number + 0 = omega arith in
    ap (λ n. spec.told_data s whole n t ∷ []) same
numbered_push s whole number (u ∷ us) t =
    let same : number + 1 + length us ≡ number + suc (length us) = omega arith in
    ap (λ l. spec.told_data s whole number u ∷ l) (numbered_push s whole (number + 1) us t ∙ ap (λ n. spec.numbered_data s whole (number + 1) us ++ spec.told_data s whole n t ∷ []) same)

pub numbered_more : {X Y : Type 0} (seen : Y → Data) (s : Setting) (whole k : ℕ) (f : X → Told) (xs : List X) (d : X) (now new : List Y) (y : Y) → k < length xs → new ≡ now ++ y ∷ [] → seen y ≡ spec.told_data s whole (k + 1) (f (get_or xs k d)) → map seen now ≡ spec.numbered_data s whole 1 (map f (take k xs)) → map seen new ≡ spec.numbered_data s whole 1 (map f (take (k + 1) xs))
numbered_more seen s whole k f xs d now new y lt pushed is before =
    let mapped = length-map (take k xs) f in
    let whole_front = length-take k xs in
    let next : k + 1 ≡ suc k = omega arith in
    let more = ap (map f) (ap (λ j. take j xs) next ∙ take-suc xs k d lt) ∙ map-append f (take k xs) (get_or xs k d ∷ []) in
    let number : k + 1 ≡ 1 + length (map f (take k xs)) = omega (arith, mapped, whole_front) in
    ap (map seen) pushed ∙ map-append seen now (y ∷ []) ∙ ap (λ e. map seen now ++ e ∷ []) (is ∙ ap (λ n. spec.told_data s whole n (f (get_or xs k d))) number) ∙ ap (λ l. l ++ spec.told_data s whole (1 + length (map f (take k xs))) (f (get_or xs k d)) ∷ []) before ∙ sym (numbered_push s whole 1 (map f (take k xs)) (f (get_or xs k d))) ∙ ap (spec.numbered_data s whole 1) (sym more)
