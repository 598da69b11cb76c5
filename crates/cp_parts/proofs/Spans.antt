-- What of a list stands in a span.
use Rattle.std.proofs.Common.{◌≡◌, ◌∙◌, ◌+◌, ◌-◌, ◌<◌, ◌≤◌, ◌⊎◌, inl, inr, ℕ, List, ap, arith, drop, length, sym, subst}
use Rattle.std.specs.Prelude.{slice_index_or}
use Rattle.std.proofs.lemmas.Bool.{cases_lt}
use Rattle.std.proofs.lemmas.List.{ext_get_or, get_or_past, get_or-drop, get_or-take, length-drop, length-take-le}
use Rattle.cp_parts.specs.declared.runs.Runs.{Runs}
use Rattle.cp_parts.specs.declared.span.Span.{Span}
use Rattle.cp_parts.specs.Runs.{in_span, label_at, span_at}

pub span_read : {A : Type 0} (s : Span) (xs : List A) (j : ℕ) (d : A) → s.first + j < s.end → slice_index_or (in_span s xs) j d ≡ slice_index_or xs (s.first + j) d
span_read s xs j d lt = get_or-take (s.end - s.first) (drop s.first xs) j d (omega (arith, lt)) ∙ get_or-drop s.first xs j d

span_same : {A : Type 0} (s : Span) (xs ys : List A) (k : ℕ) (d : A) → in_span s xs ≡ in_span s ys → s.first ≤ k → k < s.end → slice_index_or ys k d ≡ slice_index_or xs k d
span_same s xs ys k d e le lt =
    let j = k - s.first in
    let at : s.first + j ≡ k = omega (arith, le) in
    let within : s.first + j < s.end = omega (arith, le, lt) in
    subst (λ i. slice_index_or ys i d ≡ slice_index_or xs i d) at (sym (span_read s ys j d within) ∙ ap (λ l. slice_index_or l j d) (sym e) ∙ span_read s xs j d within)

pub length_span : {A : Type 0} (s : Span) (xs : List A) → s.first ≤ s.end → s.end ≤ length xs → length (in_span s xs) ≡ s.end - s.first
length_span s xs rising within = length-take-le (s.end - s.first) (drop s.first xs) (omega (arith, rising, within, length-drop s.first xs))

same_span : {A : Type 0} (s : Span) (xs ys : List A) (d : A) → s.first ≤ s.end → s.end ≤ length xs → length xs ≡ length ys → ((k : ℕ) → s.first ≤ k → k < s.end → slice_index_or ys k d ≡ slice_index_or xs k d) → in_span s xs ≡ in_span s ys
same_span s xs ys d rising within long h =
    let mine = length_span s xs rising within in
    ext_get_or d (in_span s xs) (in_span s ys) (mine ∙ sym (length_span s ys rising (omega (arith, within, long))))
    (λ j lt.
    let inside : s.first + j < s.end = omega (arith, lt, mine, rising) in
    span_read s xs j d inside ∙ sym (h (s.first + j) (omega arith) inside) ∙ sym (span_read s ys j d inside))

-- lists that have the same in the span of a label have the same at each thing of this label
pub label_same : {A : Type 0} (runs : Runs) (xs ys : List A) (d : A) (label : ℕ) → length runs.labels.items ≡ length xs → length xs ≡ length ys → in_span (span_at runs.spans.items label) xs ≡ in_span (span_at runs.spans.items label) ys → (k : ℕ) → label_at runs.labels.items k ≡ label → slice_index_or ys k d ≡ slice_index_or xs k d
label_same runs xs ys d label count long e k is = go (cases_lt k (length xs))
  where
    go : (k < length xs) ⊎ (length xs ≤ k) → slice_index_or ys k d ≡ slice_index_or xs k d
    go (inl lt) =
        let within : k < length runs.labels.items = omega (arith, lt, count) in
        span_same (span_at runs.spans.items label) xs ys k d e
        (subst (λ x. (span_at runs.spans.items x).first ≤ k) is (runs.runs.first k within))
        (subst (λ x. k < (span_at runs.spans.items x).end) is (runs.runs.before k within))
    go (inr le) = get_or_past ys k d (omega (arith, le, long)) ∙ sym (get_or_past xs k d le)

-- and the other way round
pub same_label : {A : Type 0} (runs : Runs) (xs ys : List A) (d : A) (label : ℕ) → length runs.labels.items ≡ length xs → length xs ≡ length ys → ((k : ℕ) → label_at runs.labels.items k ≡ label → slice_index_or ys k d ≡ slice_index_or xs k d) → in_span (span_at runs.spans.items label) xs ≡ in_span (span_at runs.spans.items label) ys
same_label runs xs ys d label count long h =
    let within = runs.runs.within label in
    same_span (span_at runs.spans.items label) xs ys d (runs.runs.rising label) (omega (arith, within, count)) long (λ k le lt. h k (runs.runs.label label k le lt))
