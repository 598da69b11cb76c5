-- Things in runs: those of one label stand side by side.
use Rattle.std.specs.Prelude.{◌≡◌, ◌<◌, ◌≤◌, ◌-◌, ◌⊎◌, ℕ, List, drop, length, slice_index_or, take}
use Rattle.cp_parts.specs.declared.span.Span.{Span}

abbrev pub no_span : Span
no_span = record { first = 0; end = 0 }

abbrev pub label_at : List ℕ → ℕ → ℕ
label_at labels k = slice_index_or labels k 0

abbrev pub span_at : List Span → ℕ → Span
span_at spans label = slice_index_or spans label no_span

-- what of a list stands in a span
abbrev pub in_span : {A : Type 0} → Span → List A → List A
in_span s xs = take (s.end - s.first) (drop s.first xs)

-- Each thing stands in the span of its label, and all in a span have its label.
pub record AreRuns (labels : List ℕ) (spans : List Span) : Type 0 where
  pub known : (k : ℕ) → k < length labels → label_at labels k < length spans
  pub first : (k : ℕ) → k < length labels → (span_at spans (label_at labels k)).first ≤ k
  pub before : (k : ℕ) → k < length labels → k < (span_at spans (label_at labels k)).end
  pub label : (label k : ℕ) → (span_at spans label).first ≤ k → k < (span_at spans label).end → label_at labels k ≡ label
  pub rising : (label : ℕ) → (span_at spans label).first ≤ (span_at spans label).end
  pub within : (label : ℕ) → (span_at spans label).end ≤ length labels

-- The next thing may have a label: nothing has it, or the last one.
abbrev pub IsOpen : List ℕ → List Span → (label : ℕ) → Type 0
IsOpen labels spans label = ((span_at spans label).first ≡ (span_at spans label).end) ⊎ ((span_at spans label).end ≡ length labels)

-- the things from the old ones up to an end have a label
pub record AreFilled (old new : List ℕ) (label end : ℕ) : Type 0 where
  pub long : length new ≡ end
  pub kept : (k : ℕ) → k < length old → label_at new k ≡ label_at old k
  pub these : (k : ℕ) → length old ≤ k → k < end → label_at new k ≡ label
