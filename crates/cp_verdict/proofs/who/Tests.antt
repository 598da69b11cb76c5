-- Where nobody is named, or not all wait, it is not asked who waits.
use Rattle.std.proofs.Common.{◌≡◌, ◌∙◌, ℕ, Bool, true, false, not, ◌&&◌, ◌||◌, List, [], ◌∷◌, refl, sym, ap}
use Rattle.std.specs.Prelude.{None, Some}
use Rattle.std.specs.List.{list_any, list_all}
use Rattle.cp_run.specs.declared.outcome.Outcome.{Outcome}
use Rattle.cp_run.specs.declared.outcome.OutcomeKind.{OutcomeKind}
use Rattle.cp_run.specs.declared.outcome.OutcomeKind.TheVariants.{Finished, AllWaiting, RunError, ChoiceLimit, StepLimit, OutputLimit}
use Rattle.cp_ends.specs.declared.end.End.{End}
use Rattle.cp_ends.specs.declared.end.End.TheVariants.{Over, Alone, Spins}
use Rattle.cp_walk.specs.Text.{Spellings}
use Rattle.cp_expectation.specs.declared.expectation.Claim.{Claim}
use Rattle.cp_expectation.specs.declared.expectation.Claim.TheVariants.{Never, Sometimes, Only}
use Rattle.cp_expectation.specs.declared.expectation.EndPattern.TheVariants as pattern
use Rattle.cp_expectation.specs.declared.expectation.Expectation.{Expectation}
use Rattle.cp_expectation.specs.declared.expectation.Topic.{Topic}
use Rattle.cp_expectation.specs.declared.expectation.Topic.TheVariants as topic
use Rattle.cp_expectation.specs.declared.expectation.WhoPattern.{WhoPattern}
use Rattle.cp_verdict.specs.Expectations as rows
use Rattle.cp_verdict.specs.Expectations.{has_output, is_of_kind}
use Rattle.cp_verdict.specs.endless.Expectations as ends
use Rattle.cp_verdict.specs.endless.Expectations.{is_cut, is_of}
use Rattle.cp_verdict.specs.endless.Behaviour.{Finding, Ends, Shows, Waits}
use Rattle.cp_verdict.specs.endless.Naming.{Names, Processes}
use Rattle.cp_verdict.specs.waiting.Asking.{is_of_who, names_who}
use Rattle.cp_verdict.specs.waiting.Ends as spec
use Rattle.cp_verdict.specs.waiting.Matching as matching

pub any_same : {A : Type 0} (f g : A → Bool) (xs : List A) → ((x : A) → f x ≡ g x) → list_any f xs ≡ list_any g xs
any_same f g [] same = refl
any_same f g (x ∷ xs) same = ap (λ b. b || list_any f xs) (same x) ∙ ap (λ b. g x || b) (any_same f g xs same)

pub all_same : {A : Type 0} (f g : A → Bool) (xs : List A) → ((x : A) → f x ≡ g x) → list_all f xs ≡ list_all g xs
all_same f g [] same = refl
all_same f g (x ∷ xs) same = ap (λ b. b && list_all f xs) (same x) ∙ ap (λ b. g x && b) (all_same f g xs same)

pub neither : (a b : Bool) → (a || b) ≡ false → (a ≡ false) × (b ≡ false)
neither true b h = absurd (cc)
neither false b h = (refl, h)

-- of a list that passes no test
pub none_first : {A : Type 0} (t : A → Bool) (x : A) (xs : List A) → list_any t (x ∷ xs) ≡ false → (t x ≡ false) × (list_any t xs ≡ false)
none_first t x xs h = neither (t x) (list_any t xs) h

-- ---- of no kind are those who wait named

pub not_of_kind : (w : WhoPattern) (kind : OutcomeKind) → is_of_kind (pattern.AllWaiting (Some w)) kind ≡ false
not_of_kind w Finished = refl
not_of_kind w AllWaiting = refl
not_of_kind w (RunError name process line) = refl
not_of_kind w ChoiceLimit = refl
not_of_kind w StepLimit = refl
not_of_kind w OutputLimit = refl

not_of_end : (ps : Processes) (w : WhoPattern) (end : End) → is_of ps (pattern.AllWaiting (Some w)) end ≡ false
not_of_end ps w (Over kind) = not_of_kind w kind
not_of_end ps w (Alone q) = refl
not_of_end ps w (Spins q) = refl

-- ---- ends

names_unasked : (ps : Processes) (who : List ℕ) (t : Topic) (end : End) → is_of_who t ≡ false → spec.names_end ps who t end ≡ ends.names_end ps t end
names_unasked ps who (topic.End pattern.Finished output) end h = refl
names_unasked ps who (topic.End pattern.AnyError output) end h = refl
names_unasked ps who (topic.End (pattern.Error name) output) end h = refl
names_unasked ps who (topic.End (pattern.AllWaiting None) output) end h = refl
names_unasked ps who (topic.End (pattern.AllWaiting (Some w)) output) end h = absurd (cc)
names_unasked ps who (topic.End (pattern.Alone process) output) end h = refl
names_unasked ps who (topic.End (pattern.Spins process) output) end h = refl
names_unasked ps who (topic.Shown text) end h = refl
names_unasked ps who (topic.Waiting process) end h = refl

names_aside : (ps : Processes) (who : List ℕ) (t : Topic) (end : End) → spec.is_waiting end ≡ false → spec.names_end ps who t end ≡ ends.names_end ps t end
names_aside ps who (topic.End pattern.Finished output) end h = refl
names_aside ps who (topic.End pattern.AnyError output) end h = refl
names_aside ps who (topic.End (pattern.Error name) output) end h = refl
names_aside ps who (topic.End (pattern.AllWaiting None) output) end h = refl
names_aside ps who (topic.End (pattern.AllWaiting (Some w)) output) end h = ap (λ b. b && matching.are_meant ps w who) h ∙ sym (not_of_end ps w end)
names_aside ps who (topic.End (pattern.Alone process) output) end h = refl
names_aside ps who (topic.End (pattern.Spins process) output) end h = refl
names_aside ps who (topic.Shown text) end h = refl
names_aside ps who (topic.Waiting process) end h = refl

named_unasked : (ps : Processes) (who : List ℕ) (ts : List Topic) (end : End) → list_any is_of_who ts ≡ false → spec.is_named ps ts who end ≡ ends.is_named ps ts end
named_unasked ps who [] end h = refl
named_unasked ps who (t ∷ ts) end h =
    let n = none_first is_of_who t ts h in
    ap (λ b. b || spec.is_named ps ts who end) (names_unasked ps who t end n.0) ∙ ap (λ b. ends.names_end ps t end || b) (named_unasked ps who ts end n.1)

pub named_aside : (ps : Processes) (who : List ℕ) (ts : List Topic) (end : End) → spec.is_waiting end ≡ false → spec.is_named ps ts who end ≡ ends.is_named ps ts end
named_aside ps who ts end h = any_same (λ t. spec.names_end ps who t end) (λ t. ends.names_end ps t end) ts (λ t. names_aside ps who t end h)

-- an expectation that names nobody is settled by the same
pub end_unasked : (c : Claim) (names : Names) (who : List ℕ) (ts : List Topic) (end : End) (word : List ℕ) → list_any is_of_who ts ≡ false → spec.settles_end_by c names.processes ts who end ≡ ends.settles_by c names ts (Ends end word)
end_unasked Never names who ts end word h = named_unasked names.processes who ts end h
end_unasked Sometimes names who ts end word h = named_unasked names.processes who ts end h
end_unasked Only names who ts end word h = ap (λ b. not b && not (is_cut end)) (named_unasked names.processes who ts end h)

pub end_aside : (c : Claim) (names : Names) (who : List ℕ) (ts : List Topic) (end : End) (word : List ℕ) → spec.is_waiting end ≡ false → spec.settles_end_by c names.processes ts who end ≡ ends.settles_by c names ts (Ends end word)
end_aside Never names who ts end word h = named_aside names.processes who ts end h
end_aside Sometimes names who ts end word h = named_aside names.processes who ts end h
end_aside Only names who ts end word h = ap (λ b. not b && not (is_cut end)) (named_aside names.processes who ts end h)

pub settles_unasked : (names : Names) (who : List ℕ → List ℕ) (e : Expectation) (f : Finding) → names_who e ≡ false → spec.settles names who e f ≡ ends.settles names e f
settles_unasked names who e (Ends end word) h = end_unasked e.claim names (who word) e.topics.items end word h
settles_unasked names who e (Shows v word) h = refl
settles_unasked names who e (Waits q) h = refl

-- ---- rows

fits_unasked : (names : Spellings) (ps : Processes) (who : List ℕ) (o : Outcome) (t : Topic) → is_of_who t ≡ false → matching.fits names ps who o t ≡ rows.fits names o t
fits_unasked names ps who o (topic.End pattern.Finished output) h = refl
fits_unasked names ps who o (topic.End pattern.AnyError output) h = refl
fits_unasked names ps who o (topic.End (pattern.Error name) output) h = refl
fits_unasked names ps who o (topic.End (pattern.AllWaiting None) output) h = refl
fits_unasked names ps who o (topic.End (pattern.AllWaiting (Some w)) output) h = absurd (cc)
fits_unasked names ps who o (topic.End (pattern.Alone process) output) h = refl
fits_unasked names ps who o (topic.End (pattern.Spins process) output) h = refl
fits_unasked names ps who o (topic.Shown text) h = refl
fits_unasked names ps who o (topic.Waiting process) h = refl

fits_aside : (names : Spellings) (ps : Processes) (who : List ℕ) (o : Outcome) (t : Topic) → matching.is_waiting o ≡ false → matching.fits names ps who o t ≡ rows.fits names o t
fits_aside names ps who o (topic.End pattern.Finished output) h = refl
fits_aside names ps who o (topic.End pattern.AnyError output) h = refl
fits_aside names ps who o (topic.End (pattern.Error name) output) h = refl
fits_aside names ps who o (topic.End (pattern.AllWaiting None) output) h = refl
fits_aside names ps who o (topic.End (pattern.AllWaiting (Some w)) output) h = ap (λ b. b && (matching.are_meant ps w who && has_output names output o.output)) h ∙ sym (ap (λ b. b && has_output names output o.output) (not_of_kind w o.kind))
fits_aside names ps who o (topic.End (pattern.Alone process) output) h = refl
fits_aside names ps who o (topic.End (pattern.Spins process) output) h = refl
fits_aside names ps who o (topic.Shown text) h = refl
fits_aside names ps who o (topic.Waiting process) h = refl

pub row_unasked : (names : Spellings) (ps : Processes) (who : List ℕ) (ts : List Topic) (o : Outcome) → list_any is_of_who ts ≡ false → matching.is_one_of names ps ts who o ≡ rows.is_one_of names ts o
row_unasked names ps who [] o h = refl
row_unasked names ps who (t ∷ ts) o h =
    let n = none_first is_of_who t ts h in
    ap (λ b. b || matching.is_one_of names ps ts who o) (fits_unasked names ps who o t n.0) ∙ ap (λ b. rows.fits names o t || b) (row_unasked names ps who ts o n.1)

pub row_aside : (names : Spellings) (ps : Processes) (who : List ℕ) (ts : List Topic) (o : Outcome) → matching.is_waiting o ≡ false → matching.is_one_of names ps ts who o ≡ rows.is_one_of names ts o
row_aside names ps who ts o h = any_same (matching.fits names ps who o) (rows.fits names o) ts (λ t. fits_aside names ps who o t h)
