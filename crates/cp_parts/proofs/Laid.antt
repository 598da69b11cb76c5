-- Lists that become others, place by place.
use Rattle.std.proofs.Common.{◌≡◌, ◌∙◌, ◌+◌, ◌-◌, ◌<◌, ◌≤◌, ◌⊎◌, inl, inr, ℕ, List, ap, arith, length, refl, subst, sym}
use Rattle.std.specs.Prelude.{pos, slice_index_or, slice_set, ℤ}
use Rattle.std.proofs.lemmas.Bool.{cases_eq, cases_lt}
use Rattle.std.proofs.lemmas.List.{ext_get_or, get_or-set_other, get_or-set_same, get_or_past, length-set}
use Rattle.cp_slots.specs.Tables.{Tables}
use Rattle.cp_machine.specs.declared.state.Phase.{Phase}
use Rattle.cp_machine.specs.declared.state.Phase.TheVariants.{Uninitialised}
use Rattle.cp_machine.specs.Fits.{MachineFits}
use Rattle.cp_machine.specs.Machine.{Machine}
use Rattle.cp_effect_laws.specs.Parts.{HaveSame}
use Rattle.cp_parts.specs.declared.placing.PlaceTable.{PlaceTable}
use Rattle.cp_parts.specs.declared.runs.Runs.{Runs}
use Rattle.cp_parts.specs.declared.span.Span.{Span}
use Rattle.cp_parts.specs.Placed.{IsPlaced, place_count, places_of}
use Rattle.cp_parts.specs.Runs.{in_span, label_at, span_at}
use Rattle.cp_parts.specs.Taken.{AreLaid, IsLaid, IsWritten}
use Rattle.cp_parts.proofs.Spans.{length_span, span_read}

-- ---- one thing more is written

module _ {A : Type 0} (d : A) (first : ℕ) (from old : List A) where
  pub written_none : IsWritten d first 0 from old old
  written_none = record { long = refl; own = λ j lt. absurd (omega (arith, lt)); before = λ k lt. refl; after = λ k le. refl }

  pub written_more : (count : ℕ) (mid : List A) (x : A) → first + count < length mid → slice_index_or from count d ≡ x → IsWritten d first count from old mid → IsWritten d first (count + 1) from old (slice_set mid (first + count) x)
  written_more count mid x within read a =
      record {
        long = length-set mid (first + count) x ∙ a.long;
        own = λ j lt. own j lt (cases_eq j count);
        before = λ k lt. get_or-set_other mid (first + count) k x d (λ e. omega (arith, e, lt)) ∙ a.before k lt;
        after = λ k le. get_or-set_other mid (first + count) k x d (λ e. omega (arith, e, le)) ∙ a.after k (omega (arith, le));
      }
    where
      own : (j : ℕ) → j < count + 1 → (j ≡ count) ⊎ (j ≡ count → ⊥) → slice_index_or (slice_set mid (first + count) x) (first + j) d ≡ slice_index_or from j d
      own j lt (inl e) = ap (λ i. slice_index_or (slice_set mid (first + count) x) (first + i) d) e ∙ get_or-set_same mid (first + count) x d within ∙ sym read ∙ ap (λ i. slice_index_or from i d) (sym e)
      own j lt (inr ne) = get_or-set_other mid (first + count) (first + j) x d (λ e. omega (arith, e, ne)) ∙ a.own j (omega (arith, lt, ne))

-- ---- a list in which the things of a label were written

module _ {A : Type 0} (d : A) (runs : Runs) (label : ℕ) (mine from old new : List A) (long : length old ≡ length runs.labels.items) (mine_long : length mine ≡ length runs.labels.items)
    (is : from ≡ in_span (span_at runs.spans.items label) mine) (a : IsWritten d (span_at runs.spans.items label).first (length from) from old new) where
  abbrev span : Span
  span = span_at runs.spans.items label

  ends : span.first + length from ≡ span.end
  ends =
      let rising = runs.runs.rising label in
      let within = runs.runs.within label in
      omega (arith, rising, ap length is, length_span span mine rising (omega (arith, within, mine_long)))

  own : (k : ℕ) → label_at runs.labels.items k ≡ label → (k < length runs.labels.items) ⊎ (length runs.labels.items ≤ k) → slice_index_or new k d ≡ slice_index_or mine k d
  own k e (inl lt) =
      let low = subst (λ x. (span_at runs.spans.items x).first ≤ k) e (runs.runs.first k lt) in
      let high = subst (λ x. k < (span_at runs.spans.items x).end) e (runs.runs.before k lt) in
      let j = k - span.first in
      let at : span.first + j ≡ k = omega (arith, low) in
      let inside : span.first + j < span.end = omega (arith, low, high) in
      subst (λ i. slice_index_or new i d ≡ slice_index_or mine i d) at
      (a.own j (omega (arith, inside, ends)) ∙ ap (λ l. slice_index_or l j d) is ∙ span_read span mine j d inside)
  own k e (inr le) = get_or_past new k d (omega (arith, le, a.long, long)) ∙ sym (get_or_past mine k d (omega (arith, le, mine_long)))

  others : (k : ℕ) → (label_at runs.labels.items k ≡ label → ⊥) → (k < span.first) ⊎ (span.first ≤ k) → (k < span.end) ⊎ (span.end ≤ k) → slice_index_or new k d ≡ slice_index_or old k d
  others k ne (inl lt) c = a.before k lt
  others k ne (inr le) (inl lt) = absurd (ne (runs.runs.label label k le lt))
  others k ne (inr le) (inr past) = a.after k (omega (arith, past, ends))

  pub laid_written : IsLaid d runs.labels.items (λ x. x ≡ label) mine old new
  laid_written = record { count = a.long; own = λ k e. own k e (cases_lt k (length runs.labels.items)); others = λ k ne. others k ne (cases_lt k span.first) (cases_lt k span.end) }

-- a part of a list that belongs into a span fits there
pub span_fits : {A : Type 0} (runs : Runs) (label : ℕ) (s : Span) (mine from old : List A) → s ≡ span_at runs.spans.items label → from ≡ in_span (span_at runs.spans.items label) mine → length mine ≡ length runs.labels.items → length old ≡ length mine → s.first + length from ≤ length old
span_fits runs label s mine from old here is long same =
    let rising = runs.runs.rising label in
    let within = runs.runs.within label in
    omega (arith, ap (λ (x : Span). x.first) here, ap length is, rising, within, long, same, length_span (span_at runs.spans.items label) mine rising (omega (arith, within, long)))

pub laid_span : {A : Type 0} (d : A) (runs : Runs) (label : ℕ) (s : Span) (mine from old new : List A) → s ≡ span_at runs.spans.items label → from ≡ in_span (span_at runs.spans.items label) mine → length mine ≡ length runs.labels.items → length old ≡ length mine → IsWritten d s.first (length from) from old new → IsLaid d runs.labels.items (λ x. x ≡ label) mine old new
laid_span d runs label s mine from old new here is long same a = laid_written d runs label mine from old new (same ∙ long) long is (subst (λ (x : Span). IsWritten d x.first (length from) from old new) here a)

-- ---- place by place

pub laid_none : {A : Type 0} (d : A) (labels : List ℕ) (mine theirs : List A) → IsLaid d labels (λ x. x < 0) mine theirs theirs
laid_none d labels mine theirs = record { count = refl; own = λ k lt. absurd (omega (arith, lt)); others = λ k not. refl }

pub laid_next : {A : Type 0} (d : A) (labels : List ℕ) (place : ℕ) (mine theirs mid new : List A) → IsLaid d labels (λ x. x < place) mine theirs mid → IsLaid d labels (λ x. x ≡ place) mine mid new → IsLaid d labels (λ x. x < place + 1) mine theirs new
laid_next d labels place mine theirs mid new a b =
    record {
      count = b.count ∙ a.count;
      own = λ k lt. own k lt (cases_eq (label_at labels k) place);
      others = λ k not. b.others k (λ e. not (omega (arith, e))) ∙ a.others k (λ lt. not (omega (arith, lt)));
    }
  where
    own : (k : ℕ) → label_at labels k < place + 1 → (label_at labels k ≡ place) ⊎ (label_at labels k ≡ place → ⊥) → slice_index_or new k d ≡ slice_index_or mine k d
    own k lt (inl e) = b.own k e
    own k lt (inr ne) = b.others k ne ∙ a.own k (omega (arith, lt, ne))

-- a list that has at the things of a label already what it is to have
pub laid_same : {A : Type 0} (d : A) (labels : List ℕ) (place : ℕ) (mine mid : List A) → ((k : ℕ) → label_at labels k ≡ place → slice_index_or mid k d ≡ slice_index_or mine k d) → IsLaid d labels (λ x. x ≡ place) mine mid mid
laid_same d labels place mine mid same = record { count = refl; own = same; others = λ k ne. refl }

pub laid_all : {A : Type 0} (d : A) (labels : List ℕ) (count : ℕ) (mine theirs new : List A) → length mine ≡ length theirs → ((k : ℕ) → k < length new → label_at labels k < count) → IsLaid d labels (λ x. x < count) mine theirs new → new ≡ mine
laid_all d labels count mine theirs new long known a = ext_get_or d new mine (a.count ∙ sym long) (λ k lt. a.own k (known k lt))

-- ---- the three lists of a state

module _ (t : PlaceTable) (m n : Machine) where
  abbrev Below : ℕ → List ℤ → List ℕ → List Phase → Type 0
  Below count cells bindings phases = AreLaid t (λ x. x < count) m n.permanents n.bindings n.phases cells bindings phases

  pub lists_none : Below 0 n.permanents n.bindings n.phases
  lists_none =
      record {
        cells_laid = laid_none (pos 0) t.cells.labels.items m.permanents n.permanents;
        bindings_laid = laid_none 0 t.cells.labels.items m.bindings n.bindings;
        phases_laid = laid_none Uninitialised t.components.labels.items m.phases n.phases;
      }

  pub lists_next : (place : ℕ) (cells : List ℤ) (bindings : List ℕ) (phases : List Phase) (cells' : List ℤ) (bindings' : List ℕ) (phases' : List Phase) →
      Below place cells bindings phases → AreLaid t (λ x. x ≡ place) m cells bindings phases cells' bindings' phases' → Below (place + 1) cells' bindings' phases'
  lists_next place cells bindings phases cells' bindings' phases' a b =
      record {
        cells_laid = laid_next (pos 0) t.cells.labels.items place m.permanents n.permanents cells cells' a.cells_laid b.cells_laid;
        bindings_laid = laid_next 0 t.cells.labels.items place m.bindings n.bindings bindings bindings' a.bindings_laid b.bindings_laid;
        phases_laid = laid_next Uninitialised t.components.labels.items place m.phases n.phases phases phases' a.phases_laid b.phases_laid;
      }

  -- where machine n has in a place what machine m has there, nothing is to be done
  pub lists_same : (place : ℕ) (cells : List ℤ) (bindings : List ℕ) (phases : List Phase) → HaveSame (places_of t) place m n → Below place cells bindings phases → AreLaid t (λ x. x ≡ place) m cells bindings phases cells bindings phases
  lists_same place cells bindings phases same a =
      record {
        cells_laid = laid_same (pos 0) t.cells.labels.items place m.permanents cells (λ k e. a.cells_laid.others k (λ lt. omega (arith, e, lt)) ∙ same.cells k e);
        bindings_laid = laid_same 0 t.cells.labels.items place m.bindings bindings (λ k e. a.bindings_laid.others k (λ lt. omega (arith, e, lt)) ∙ same.bindings k e);
        phases_laid = laid_same Uninitialised t.components.labels.items place m.phases phases (λ k e. a.phases_laid.others k (λ lt. omega (arith, e, lt)) ∙ same.phases k e);
      }

  module _ (r : Tables) (placed : IsPlaced r t) (fm : MachineFits r m) (fn : MachineFits r n) where
    cell_known : (k : ℕ) → k < length r.permanents → label_at t.cells.labels.items k < place_count t
    cell_known k lt = let known = t.cells.runs.known k (omega (arith, lt, placed.cells)) in omega (arith, known, t.of_cells)

    component_known : (k : ℕ) → k < length r.components → label_at t.components.labels.items k < place_count t
    component_known k lt = let known = t.components.runs.known k (omega (arith, lt, placed.components)) in omega (arith, known, t.of_components)

    pub lists_all : (cells : List ℤ) (bindings : List ℕ) (phases : List Phase) → Below (place_count t) cells bindings phases → (cells ≡ m.permanents) × (bindings ≡ m.bindings) × (phases ≡ m.phases)
    lists_all cells bindings phases a = (
      laid_all (pos 0) t.cells.labels.items (place_count t) m.permanents n.permanents cells (fm.permanents ∙ sym fn.permanents) (λ k lt. cell_known k (omega (arith, lt, a.cells_laid.count, fn.permanents))) a.cells_laid,
      laid_all 0 t.cells.labels.items (place_count t) m.bindings n.bindings bindings (fm.bindings ∙ sym fn.bindings) (λ k lt. cell_known k (omega (arith, lt, a.bindings_laid.count, fn.bindings))) a.bindings_laid,
      laid_all Uninitialised t.components.labels.items (place_count t) m.phases n.phases phases (fm.phases ∙ sym fn.phases) (λ k lt. component_known k (omega (arith, lt, a.phases_laid.count, fn.phases))) a.phases_laid,
    )
