-- Runs with one thing more.
use Rattle.std.proofs.Common.{◌≡◌, ◌∙◌, ◌∷◌, ◌++◌, ◌+◌, ◌<◌, ◌≤◌, ◌⊎◌, inl, inr, ℕ, List, [], ap, arith, length, refl, replicate, subst, sym}
use Rattle.std.specs.Prelude.{slice_set}
use Rattle.std.proofs.lemmas.Bool.{cases_eq, cases_lt}
use Rattle.std.proofs.Math.Seq.{get_or-append_seam}
use Rattle.std.proofs.lemmas.List.{get_or-replicate, get_or-set_other, get_or-set_same, get_or_append_left, get_or_past, length-append, length-replicate, length-set}
use Rattle.cp_parts.specs.declared.span.Span.{Span}
use Rattle.cp_parts.specs.Runs.{AreFilled, AreRuns, IsOpen, label_at, no_span, span_at}

-- ---- no thing

none_at : (n label : ℕ) → span_at (replicate n no_span) label ≡ no_span
none_at n label = go (cases_lt label n)
  where
    go : (label < n) ⊎ (n ≤ label) → span_at (replicate n no_span) label ≡ no_span
    go (inl lt) = get_or-replicate n label no_span no_span lt
    go (inr le) = get_or_past (replicate n no_span) label no_span (omega (arith, le, length-replicate n no_span))

pub runs_none : (n : ℕ) → AreRuns [] (replicate n no_span)
runs_none n =
    record {
      known = λ k lt. absurd (omega (arith, lt));
      first = λ k lt. absurd (omega (arith, lt));
      before = λ k lt. absurd (omega (arith, lt));
      label = λ label k le lt. absurd (omega (arith, subst (λ (s : Span). k < s.end) (none_at n label) lt));
      rising = λ label. subst (λ (s : Span). s.first ≤ s.end) (sym (none_at n label)) (omega arith);
      within = λ label. subst (λ (s : Span). s.end ≤ 0) (sym (none_at n label)) (omega arith);
    }

-- where nothing has a label, the first thing may have any
pub open_none : (labels : List ℕ) (spans : List Span) (label : ℕ) → AreRuns labels spans → labels ≡ [] → IsOpen labels spans label
open_none labels spans label runs none = let within = runs.within label in inr (omega (arith, within, ap length none))

-- ---- one thing more

-- a span that is new, or goes on
pub record GoesOn (labels : List ℕ) (old new : Span) : Type 0 where
  pub empty : old.first ≡ old.end → new.first ≡ length labels
  pub some : (old.first ≡ old.end → ⊥) → new.first ≡ old.first
  pub end : new.end ≡ length labels + 1

pub span_goes : (labels : List ℕ) (there old new : Span) (count : ℕ) → old ≡ there → count ≡ length labels → (old.first ≡ old.end → new.first ≡ count) → ((old.first ≡ old.end → ⊥) → new.first ≡ old.first) → new.end ≡ count + 1 → GoesOn labels there new
span_goes labels there old new count is at empty some end =
    record {
      empty = λ e. empty (subst (λ (z : Span). z.first ≡ z.end) (sym is) e) ∙ at;
      some = λ ne. some (λ e. ne (subst (λ (z : Span). z.first ≡ z.end) is e)) ∙ ap (λ (z : Span). z.first) is;
      end = end ∙ ap (λ n. n + 1) at;
    }

module _ (labels : List ℕ) (spans : List Span) (label : ℕ) (s : Span) (runs : AreRuns labels spans) (within : label < length spans) (open_ : IsOpen labels spans label) (goes : GoesOn labels (span_at spans label) s) where
  abbrev labels_new : List ℕ
  labels_new = labels ++ label ∷ []

  abbrev spans_new : List Span
  spans_new = slice_set spans label s

  long : length labels_new ≡ length labels + 1
  long = length-append labels (label ∷ [])

  old_label : (k : ℕ) → k < length labels → label_at labels_new k ≡ label_at labels k
  old_label k lt = get_or_append_left labels (label ∷ []) 0 k lt

  last_label : (k : ℕ) → k ≡ length labels → label_at labels_new k ≡ label
  last_label k e = ap (label_at labels_new) e ∙ get_or-append_seam labels label [] 0

  this_span : span_at spans_new label ≡ s
  this_span = get_or-set_same spans label s no_span within

  other_span : (x : ℕ) → (x ≡ label → ⊥) → span_at spans_new x ≡ span_at spans x
  other_span x ne = get_or-set_other spans label x s no_span ne

  -- nothing before has the label, or its span ends with the last one
  none_or_last : (k : ℕ) → k < length labels → label_at labels k ≡ label → ((span_at spans label).first ≡ (span_at spans label).end → ⊥) × (s.first ≤ k)
  none_or_last k lt e =
      let first = subst (λ x. (span_at spans x).first ≤ k) e (runs.first k lt) in
      let before_ = subst (λ x. k < (span_at spans x).end) e (runs.before k lt) in
      let some : (span_at spans label).first ≡ (span_at spans label).end → ⊥ = λ z. omega (arith, z, first, before_) in
      (some, omega (arith, goes.some some, first))

  -- a span that is not empty ends with the last one
  last_end : ((span_at spans label).first ≡ (span_at spans label).end → ⊥) → (span_at spans label).end ≡ length labels
  last_end ne = go open_
    where
      go : IsOpen labels spans label → (span_at spans label).end ≡ length labels
      go (inl e) = absurd (ne e)
      go (inr e) = e

  -- all from the first one on have it
  from_first : (k : ℕ) → s.first ≤ k → k < length labels → label_at labels k ≡ label
  from_first k le lt = go (cases_eq (span_at spans label).first (span_at spans label).end)
    where
      go : ((span_at spans label).first ≡ (span_at spans label).end) ⊎ ((span_at spans label).first ≡ (span_at spans label).end → ⊥) → label_at labels k ≡ label
      go (inl e) = absurd (omega (arith, goes.empty e, le, lt))
      go (inr ne) = runs.label label k (omega (arith, goes.some ne, le)) (omega (arith, last_end ne, lt))

  first_least : s.first ≤ length labels
  first_least = go (cases_eq (span_at spans label).first (span_at spans label).end)
    where
      go : ((span_at spans label).first ≡ (span_at spans label).end) ⊎ ((span_at spans label).first ≡ (span_at spans label).end → ⊥) → s.first ≤ length labels
      go (inl e) = let at = goes.empty e in omega (arith, at)
      go (inr ne) = let at = goes.some ne in let a = runs.rising label in let b = runs.within label in omega (arith, at, a, b)

  span_first : (x k : ℕ) → k < length labels → label_at labels k ≡ x → (x ≡ label) ⊎ (x ≡ label → ⊥) → ((span_at spans_new x).first ≤ k) × (k < (span_at spans_new x).end)
  span_first x k lt e (inl is) =
      let low = (none_or_last k lt (e ∙ is)).1 in
      subst (λ y. ((span_at spans_new y).first ≤ k) × (k < (span_at spans_new y).end)) (sym is)
      (subst (λ (z : Span). (z.first ≤ k) × (k < z.end)) (sym this_span) (low, omega (arith, lt, goes.end)))
  span_first x k lt e (inr ne) =
      subst (λ (z : Span). (z.first ≤ k) × (k < z.end)) (sym (other_span x ne))
      (subst (λ y. ((span_at spans y).first ≤ k) × (k < (span_at spans y).end)) e (runs.first k lt, runs.before k lt))

  at_end : (k : ℕ) → k < length labels_new → length labels ≤ k → k ≡ length labels
  at_end k lt le = omega (arith, lt, le, long)

  placed : (k : ℕ) → k < length labels_new → (k < length labels) ⊎ (length labels ≤ k) → ((span_at spans_new (label_at labels_new k)).first ≤ k) × (k < (span_at spans_new (label_at labels_new k)).end)
  placed k lt (inl l) = subst (λ x. ((span_at spans_new x).first ≤ k) × (k < (span_at spans_new x).end)) (sym (old_label k l)) (span_first (label_at labels k) k l refl (cases_eq (label_at labels k) label))
  placed k lt (inr le) =
      let e = at_end k lt le in
      subst (λ x. ((span_at spans_new x).first ≤ k) × (k < (span_at spans_new x).end)) (sym (last_label k e))
      (subst (λ (z : Span). (z.first ≤ k) × (k < z.end)) (sym this_span) (omega (arith, e, first_least), omega (arith, e, goes.end)))

  known_ : (k : ℕ) → k < length labels_new → (k < length labels) ⊎ (length labels ≤ k) → label_at labels_new k < length spans_new
  known_ k lt (inl l) = let a = runs.known k l in let b = old_label k l in omega (arith, a, b, length-set spans label s)
  known_ k lt (inr le) = let b = last_label k (at_end k lt le) in omega (arith, within, b, length-set spans label s)

  labelled : (x k : ℕ) → (x ≡ label) ⊎ (x ≡ label → ⊥) → (k < length labels) ⊎ (length labels ≤ k) → (span_at spans_new x).first ≤ k → k < (span_at spans_new x).end → label_at labels_new k ≡ x
  labelled x k (inl is) (inl l) le lt = old_label k l ∙ from_first k (subst (λ (z : Span). z.first ≤ k) (ap (span_at spans_new) is ∙ this_span) le) l ∙ sym is
  labelled x k (inl is) (inr g) le lt = let below = subst (λ (z : Span). k < z.end) (ap (span_at spans_new) is ∙ this_span) lt in last_label k (omega (arith, g, below, goes.end)) ∙ sym is
  labelled x k (inr ne) (inl l) le lt = old_label k l ∙ runs.label x k (subst (λ (z : Span). z.first ≤ k) (other_span x ne) le) (subst (λ (z : Span). k < z.end) (other_span x ne) lt)
  labelled x k (inr ne) (inr g) le lt = let below = subst (λ (z : Span). k < z.end) (other_span x ne) lt in absurd (omega (arith, g, below, runs.within x))

  ordered : (x : ℕ) → (x ≡ label) ⊎ (x ≡ label → ⊥) → ((span_at spans_new x).first ≤ (span_at spans_new x).end) × ((span_at spans_new x).end ≤ length labels_new)
  ordered x (inl is) = subst (λ (z : Span). (z.first ≤ z.end) × (z.end ≤ length labels_new)) (sym (ap (span_at spans_new) is ∙ this_span)) (omega (arith, first_least, goes.end), omega (arith, goes.end, long))
  ordered x (inr ne) = subst (λ (z : Span). (z.first ≤ z.end) × (z.end ≤ length labels_new)) (sym (other_span x ne)) (runs.rising x, omega (arith, runs.within x, long))

  pub runs_more : AreRuns labels_new spans_new
  runs_more =
      record {
        known = λ k lt. known_ k lt (cases_lt k (length labels));
        first = λ k lt. (placed k lt (cases_lt k (length labels))).0;
        before = λ k lt. (placed k lt (cases_lt k (length labels))).1;
        label = λ x k le lt. labelled x k (cases_eq x label) (cases_lt k (length labels)) le lt;
        rising = λ x. (ordered x (cases_eq x label)).0;
        within = λ x. (ordered x (cases_eq x label)).1;
      }

  pub open_more : IsOpen labels_new spans_new label
  open_more = inr (ap (λ (z : Span). z.end) this_span ∙ goes.end ∙ sym long)

-- ---- things up to an end

pub filled_none : (labels : List ℕ) (label end : ℕ) → end ≡ length labels → AreFilled labels labels label end
filled_none labels label end e = record { long = sym e; kept = λ k lt. refl; these = λ k le lt. absurd (omega (arith, e, le, lt)) }

pub filled_more : (old new more : List ℕ) (label end next : ℕ) → more ≡ new ++ label ∷ [] → next ≡ end + 1 → length old ≤ end → AreFilled old new label end → AreFilled old more label next
filled_more old new more label end next is then_ le h =
    record {
      long = long_;
      kept = λ k lt. ap (λ l. label_at l k) is ∙ get_or_append_left new (label ∷ []) 0 k (omega (arith, lt, le, h.long)) ∙ h.kept k lt;
      these = λ k from to. ap (λ l. label_at l k) is ∙ these k from (cases_eq k end) to;
    }
  where
    long_ : length more ≡ next
    long_ = let a = ap length is in let b = length-append new (label ∷ []) in omega (arith, a, b, h.long, then_)

    these : (k : ℕ) → length old ≤ k → (k ≡ end) ⊎ (k ≡ end → ⊥) → k < next → label_at (new ++ label ∷ []) k ≡ label
    these k from (inl e) to = ap (label_at (new ++ label ∷ [])) (e ∙ sym h.long) ∙ get_or-append_seam new label [] 0
    these k from (inr ne) to = let lt : k < end = omega (arith, ne, to, then_) in get_or_append_left new (label ∷ []) 0 k (omega (arith, lt, h.long)) ∙ h.these k from lt
