use Rattle.std.proofs.Common.{◌≡◌, ◌∙◌, List, ℕ, Bor, Some, map, length, ap, sym, subst, arith}
use Rattle.std.proofs.lemmas.List.{length-map}
use Rattle.cp_expectation.specs.Misread.{StopsAt}
use Rattle.cp_expectation.specs.Plain.{Expected, expected_of}
use Rattle.cp_expectation.specs.Reader.{state_of}
use Rattle.cp_expectation.specs.Spelling.{Spells}
use Rattle.cp_expectation.specs.Steps.{expected_at, behind, start, step, ended}
use Rattle.cp_expectation.specs.Words.{words_of}
use Rattle.cp_expectation.proofs.Stopping.{is_reader, fits, misfits, ended_some, ended_none}
use Rattle.cp_expectation.proofs.Walking.{word_read, word_refused, stopped, spelled_at_end, unended, stops_at_end}
use Rattle.cp_expectation.proofs.reading.expectations.Goals as goal

pub loop-place-init : goal.loop-place-init
loop-place-init c = ap Some (sym c.new-reader.ensures)

pub loop-place-preserved : goal.loop-place-preserved
loop-place-preserved c =
    let t = state_of c.read.new.self in
    word_read step start c.deref-word-items.result.now c.loop-place.place _ (state_of c.loop-place.reader) (Some t) (omega arith) (fits (step (state_of c.loop-place.reader) _) c.in_ok-read.field-0 t c.if-not-branch.false c.in_ok-read.ensures) c.loop-place.invariant

stops : (c : goal.After-drop-words-then-not-branch) → StopsAt Spells (words_of c.args.text.now) c.loop-place.place
stops c =
    let s = state_of c.loop-place.reader in
    let are : map (λ w. w.now) c.deref-word-items.result.now ≡ words_of c.args.text.now = ap (map (λ w. w.now)) c.deref-word-items.ensures.value ∙ c.in_ok-words.ensures in
    let none = misfits (step s _) c.in_ok-read.field-0 (state_of c.read.new.self) c.if-not-branch.true c.in_ok-read.ensures in
    subst (λ l. StopsAt Spells l c.loop-place.place) are (word_refused step ended start Spells is_reader c.deref-word-items.result.now c.loop-place.place _ s (omega arith) none c.loop-place.invariant)

pub returns-then-not-branch-clause-none : goal.returns-then-not-branch-clause-none
returns-then-not-branch-clause-none c =
    let are : map (λ w. w.now) c.deref-word-items.result.now ≡ words_of c.args.text.now = ap (map (λ w. w.now)) c.deref-word-items.ensures.value ∙ c.in_ok-words.ensures in
    let long : length (words_of c.args.text.now) ≡ length c.deref-word-items.result.now = sym (ap length are) ∙ length-map c.deref-word-items.result.now (λ w. w.now) in
    λ _ es spelled. stopped Spells (words_of c.args.text.now) c.loop-place.place (omega arith) (stops c) es spelled

pub returns-then-not-branch-clause-place : goal.returns-then-not-branch-clause-place
returns-then-not-branch-clause-place c = stops c

pub returns-then-branch-clause-spelled : goal.returns-then-branch-clause-spelled
returns-then-branch-clause-spelled c =
    let ws = map (λ (w : Bor (List ℕ)). w.now) c.deref-word-items.result.now in
    let are : ws ≡ words_of c.args.text.now = ap (map (λ w. w.now)) c.deref-word-items.ensures.value ∙ c.in_ok-words.ensures in
    let long = length-map c.deref-word-items.result.now (λ w. w.now) in
    let s = state_of c.loop-place.reader in
    let t = state_of c.end.new.self in
    let es = ended_some s.done (expected_at s.place) t (fits (behind s.done (expected_at s.place)) c.in_ok-end.field-0 t c.if-branch.true c.in_ok-end.ensures) in
    let there = subst (λ l. Spells l t.done) are (spelled_at_end step ended start Spells is_reader ws c.loop-place.place s t.done (omega (arith, long)) c.loop-place.invariant es) in
    subst (λ xs. Spells (words_of c.args.text.now) (map expected_of xs)) (sym c.into_reading.ensures) there

pub returns-clause-none : goal.returns-clause-none
returns-clause-none c =
    let ws = map (λ (w : Bor (List ℕ)). w.now) c.deref-word-items.result.now in
    let are : ws ≡ words_of c.args.text.now = ap (map (λ w. w.now)) c.deref-word-items.ensures.value ∙ c.in_ok-words.ensures in
    let long = length-map c.deref-word-items.result.now (λ w. w.now) in
    let s = state_of c.loop-place.reader in
    let none = ended_none s.done (expected_at s.place) (misfits (behind s.done (expected_at s.place)) c.in_ok-end.field-0 (state_of c.end.new.self) c.if-branch.false c.in_ok-end.ensures) in
    λ _. subst (λ l. (es : List Expected) → ¬ (Spells l es)) are (unended step ended start Spells is_reader ws c.loop-place.place s (omega (arith, long)) c.loop-place.invariant none)

pub returns-clause-place : goal.returns-clause-place
returns-clause-place c =
    let ws = map (λ (w : Bor (List ℕ)). w.now) c.deref-word-items.result.now in
    let are : ws ≡ words_of c.args.text.now = ap (map (λ w. w.now)) c.deref-word-items.ensures.value ∙ c.in_ok-words.ensures in
    let long = length-map c.deref-word-items.result.now (λ w. w.now) in
    let s = state_of c.loop-place.reader in
    subst (λ l. StopsAt Spells l c.len.result) are (stops_at_end step ended start Spells is_reader ws c.loop-place.place c.len.result s (omega (arith, long)) (omega (arith, long, ap length c.deref-word-items.ensures.value)) c.loop-place.invariant)
