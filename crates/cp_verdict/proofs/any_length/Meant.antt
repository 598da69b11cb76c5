-- What is so of the slot machine is so of the program on its own names; and where no stretch is cut, nothing else is.
use Rattle.std.proofs.Common.{◌≡◌, ◌⊎◌, inl, inr, ◌∙◌, ◌+◌, ◌<◌, ℕ, Bool, true, false, not, ◌&&◌, ◌||◌, List, [], ◌∷◌, map, refl, sym, ap, subst}
use Rattle.cp_verdict.proofs.any_length.Vocabulary.{Tree, IsRead, plain, laid, Tables, IsAccepted, Machine, Shown, slots, EndsSo, ShowsSo, End, Over, Alone}
use Rattle.cp_verdict.proofs.any_length.Vocabulary.{Spins, IsKnown, end_pair, is_whole, Expectation, KnownEnds, Names}
use Rattle.std.specs.Prelude.{None, Some}
use Rattle.cp_meaning.specs.State.{Discipline, State}
use Rattle.cp_run.specs.declared.outcome.OutcomeKind.{OutcomeKind}
use Rattle.cp_run.specs.declared.outcome.OutcomeKind.TheVariants.{Finished, AllWaiting, RunError, ChoiceLimit, StepLimit, OutputLimit}
use Rattle.cp_run.specs.Run.{opened}
use Rattle.cp_run.specs.System.{System}
use Rattle.cp_machine_laws.specs.Named.{discipline_of}
use Rattle.cp_machine_laws.proofs.Meaning.{goes_in_step}
use Rattle.cp_endless_laws.specs.Meaning.{MeansTheSame}
use Rattle.cp_endless_laws.specs.Reachable.{EndsAfter, node_after}
use Rattle.cp_endless_laws.specs.Repeats.{CallsAt, EndsAtEachLimit}
use Rattle.cp_endless_laws.specs.Rounds.{SetsOut, chosen_spot, spot_after}
use Rattle.cp_endless_laws.specs.Silent.{in_call_on_names, in_call_on_slots, silent_named, silent_slots, waits_on_names, waits_on_slots, without_output}
use Rattle.cp_endless_laws.specs.Standstill.{MayStandStill}
use Rattle.cp_endless_laws.specs.WaitsForEver.{MayLinger, MayWaitForEver}
use Rattle.cp_endless_laws.proofs.names.Meant.{endless_meaning}
use Rattle.cp_endless_laws.proofs.steps.Repeating.{repeating}
use Rattle.cp_ends.specs.ForEver.{GoesOnForEver, IsAloneForEver, SpinsForEver}
use Rattle.cp_ends.specs.Holds.{same_key}
use Rattle.cp_ends.specs.Named.{EndsOnNames, ShowsOnNames, kind_of}
use Rattle.cp_ends.proofs.named.EachLimit.{shows_early}
use Rattle.cp_ends.proofs.named.ForEver.{alone_for_ever, spins_for_ever}
use Rattle.cp_ends.proofs.named.ForEverOnNames.{alone_named, spins_named}
use Rattle.cp_ends.proofs.named.Keys.{key_same, key_self}
use Rattle.cp_ends.proofs.named.Kinds.{no_steps_more, so_over, over_kind, over_so}
use Rattle.cp_ends.proofs.named.Later.{again_shown, again_ends}
use Rattle.cp_ends.proofs.words.Edges.{last_same, not_empty, some_same, choosing_same}
use Rattle.cp_verdict.specs.endless.Behaviour.{Finding, Ends, Shows, Waits, IsSo, on_slots, on_names}
use Rattle.cp_expectation.specs.declared.expectation.Claim.{Claim}
use Rattle.cp_expectation.specs.declared.expectation.Claim.TheVariants.{Never, Sometimes, Only}
use Rattle.cp_expectation.specs.declared.expectation.EndPattern.{EndPattern}
use Rattle.cp_expectation.specs.declared.expectation.EndPattern.TheVariants as pattern
use Rattle.cp_expectation.specs.declared.expectation.Topic.{Topic}
use Rattle.cp_expectation.specs.declared.expectation.Topic.TheVariants as topic
use Rattle.cp_verdict.specs.Expectations.{is_of_kind}
use Rattle.cp_verdict.specs.endless.Expectations.{is_cut, is_named, is_of, settles, settles_by}
use Rattle.cp_verdict.specs.endless.Naming.{Processes}
use Rattle.cp_verdict.proofs.any_length.Firsts.{false_true}
use Rattle.cp_verdict.proofs.any_length.Judgements.{all_ends, no_cut, states_all}

-- ---- a stretch does not call the kernel again and again, and from some step on never

module _ {S : Type 0} (sys : System S) (steps : ℕ) (word : List ℕ) where
  abbrev Same : S × ℕ → S × ℕ → Type 0
  Same x y = x ≡ y

  -- a stretch begins in one state, by one process
  sets_out_once : (s t : S) (p q : ℕ) → SetsOut sys steps word s p → SetsOut sys steps word t q → Same (s, p) (t, q)
  sets_out_once s t p q (inl x) (inl y) = some_same (s, p) (t, q) (sym x.1 ∙ y.1)
  sets_out_once s t p q (inl x) (inr y) = absurd (not_empty y.0 y.1 (sym x.0 ∙ y.3))
  sets_out_once s t p q (inr x) (inl y) = absurd (not_empty x.0 x.1 (sym y.0 ∙ x.3))
  sets_out_once s t p q (inr x) (inr y) =
      let ends = last_same x.0 y.0 x.1 y.1 (sym x.3 ∙ y.3) in
      let state = choosing_same x.2 y.2 (sym x.4 ∙ ap (λ w. node_after sys steps (opened sys steps) w) ends.0 ∙ y.4) in
      some_same (s, p) (t, q) (sym x.6 ∙ ap (λ u. chosen_spot sys u x.1) state ∙ ap (λ c. chosen_spot sys y.2 c) ends.1 ∙ y.6)

  pub not_both : (q p : ℕ) → IsAloneForEver sys steps word q → SpinsForEver sys steps word p → ⊥
  not_both q p (x, again) (y, none) =
      let call = again steps in
      let begin = sets_out_once x.begin y.begin x.first y.first x.sets_out y.sets_out in
      let here = some_same (x.state call.0, x.mover call.0) (y.state call.0, y.mover call.0) (sym (x.goes call.0) ∙ ap (λ (z : S × ℕ). spot_after sys call.0 z.0 z.1) begin ∙ y.goes call.0) in
      none call.0 call.1 (subst (λ (z : S × ℕ). CallsAt sys (record { state = z.0; mover = z.1 })) here call.2)

  -- after as many steps as the limit one process makes the next one
  pub one_mover : (q p : ℕ) → GoesOnForEver sys steps word q → GoesOnForEver sys steps word p → q ≡ p
  one_mover q p x y =
      let begin = sets_out_once x.begin y.begin x.first y.first x.sets_out y.sets_out in
      let here = some_same (x.state steps, x.mover steps) (y.state steps, y.mover steps) (sym (x.goes steps) ∙ ap (λ (z : S × ℕ). spot_after sys steps z.0 z.1) begin ∙ y.goes steps) in
      sym x.is ∙ ap (λ (z : S × ℕ). z.1) here ∙ y.is

-- ---- a stretch that was cut

cut_of_none : (p : EndPattern) → is_of_kind p StepLimit ≡ false
cut_of_none pattern.Finished = refl
cut_of_none pattern.AnyError = refl
cut_of_none (pattern.Error name) = refl
cut_of_none (pattern.AllWaiting None) = refl
cut_of_none (pattern.AllWaiting (Some who)) = refl
cut_of_none (pattern.Alone process) = refl
cut_of_none (pattern.Spins process) = refl

cut_of : (ps : Processes) (p : EndPattern) → is_of ps p (Over StepLimit) ≡ false
cut_of ps pattern.Finished = refl
cut_of ps pattern.AnyError = refl
cut_of ps (pattern.Error name) = refl
cut_of ps (pattern.AllWaiting who) = cut_of_none (pattern.AllWaiting who)
cut_of ps (pattern.Alone process) = refl
cut_of ps (pattern.Spins process) = refl

cut_named : (ps : Processes) (ts : List Topic) → is_named ps ts (Over StepLimit) ≡ false
cut_named ps [] = refl
cut_named ps (topic.End p output ∷ ts) = ap (λ x. x || is_named ps ts (Over StepLimit)) (cut_of ps p) ∙ cut_named ps ts
cut_named ps (topic.Shown text ∷ ts) = cut_named ps ts
cut_named ps (topic.Waiting process ∷ ts) = cut_named ps ts

-- what settles an expectation is no stretch that was cut
cut_settles : (c : Claim) (names : Names) (ts : List Topic) (word : List ℕ) → settles_by c names ts (Ends (Over StepLimit) word) ≡ false
cut_settles Never names ts word = cut_named names.processes ts
cut_settles Sometimes names ts word = cut_named names.processes ts
cut_settles Only names ts word = both_false (not (is_named names.processes ts (Over StepLimit)))
  where
    both_false : (b : Bool) → (b && false) ≡ false
    both_false true = refl
    both_false false = refl

pub settling_uncut : (names : Names) (e : Expectation) (end : End) (word : List ℕ) → settles names e (Ends end word) ≡ true → is_cut end ≡ false
settling_uncut names e (Over Finished) word h = refl
settling_uncut names e (Over AllWaiting) word h = refl
settling_uncut names e (Over (RunError name process line)) word h = refl
settling_uncut names e (Over ChoiceLimit) word h = refl
settling_uncut names e (Over OutputLimit) word h = refl
settling_uncut names e (Alone q) word h = refl
settling_uncut names e (Spins q) word h = refl
settling_uncut names e (Over StepLimit) word h = false_true (settles names e (Ends (Over StepLimit) word)) (cut_settles e.claim names e.topics.items word) h

pub limit_cut : (kind : OutcomeKind) → is_cut (Over kind) ≡ false → kind ≡ StepLimit → ⊥
limit_cut StepLimit h e = absurd (cc)
limit_cut Finished h e = absurd (cc)
limit_cut AllWaiting h e = absurd (cc)
limit_cut (RunError name process line) h e = absurd (cc)
limit_cut ChoiceLimit h e = absurd (cc)
limit_cut OutputLimit h e = absurd (cc)

-- ---- from slots to names, and back

module _ (t : Tree) (r : Tables) (g : Discipline) (read : IsRead t.program) (ok : IsAccepted t) (same : plain r ≡ laid t) (steps : ℕ) where
  abbrev a : System State
  a = silent_named t g

  abbrev b : System Machine
  b = silent_slots r (discipline_of g)

  means : (limit : ℕ) → MeansTheSame t r g limit
  means limit = endless_meaning t r g read ok same limit

  each_limit : (word : List ℕ) → EndsAtEachLimit b steps word → EndsAtEachLimit a steps word
  each_limit word h more = (means (more + steps)).ends.after_back word StepLimit (h more)

  end_there : (end : End) (word : List ℕ) → EndsSo b steps end word → EndsOnNames t g steps end word
  end_there (Over kind) word so = (means steps).ends.after_back word kind (so_over b steps (Over kind) word so)
  end_there (Alone q) word so = (each_limit word ((repeating b).alone steps word q so), alone_named t r g read ok same steps word q (alone_for_ever b steps word q so))
  end_there (Spins q) word so = (each_limit word ((repeating b).spins steps word q so), spins_named t r g read ok same steps word q (spins_for_ever b steps word q so))

  shown_there : (v : Shown) (word : List ℕ) → ShowsSo (slots r (discipline_of g)) without_output steps v word → ShowsOnNames t g steps v word
  shown_there v word (inl x) = inl ((means steps).values.back word v x)
  shown_there v word (inr x) =
      inr (each_limit word (again_ends (slots r (discipline_of g)) without_output steps word v x), (means (steps + steps)).values.back word v (again_shown (slots r (discipline_of g)) without_output steps word v x))

  count : a.processes ≡ b.processes
  count = (goes_in_step t r g read ok same).processes

  waits_there : (q : ℕ) → (on_slots r (discipline_of g) steps).waits q → (on_names t g steps).waits q
  waits_there q (less, how) = (subst (λ n. q < n) (sym count) less, by how)
    where
      by : MayWaitForEver b waits_on_slots q steps ⊎ (((word : List ℕ) × MayStandStill b waits_on_slots q steps word) ⊎ MayLinger b in_call_on_slots waits_on_slots q steps) →
          MayWaitForEver a waits_on_names q steps ⊎ (((word : List ℕ) × MayStandStill a waits_on_names q steps word) ⊎ MayLinger a in_call_on_names waits_on_names q steps)
      by (inl w) = inl ((means steps).waits.back q w)
      by (inr (inl x)) = inr (inl (x.0, (means steps).waits.still_back x.0 q x.1))
      by (inr (inr l)) = inr (inr ((means steps).lingers.back q l))

  pub waits_back : (q : ℕ) → (on_names t g steps).waits q → (on_slots r (discipline_of g) steps).waits q
  waits_back q (less, how) = (subst (λ n. q < n) count less, by how)
    where
      by : MayWaitForEver a waits_on_names q steps ⊎ (((word : List ℕ) × MayStandStill a waits_on_names q steps word) ⊎ MayLinger a in_call_on_names waits_on_names q steps) →
          MayWaitForEver b waits_on_slots q steps ⊎ (((word : List ℕ) × MayStandStill b waits_on_slots q steps word) ⊎ MayLinger b in_call_on_slots waits_on_slots q steps)
      by (inl w) = inl ((means steps).waits.there q w)
      by (inr (inl x)) = inr (inl (x.0, (means steps).waits.still_there x.0 q x.1))
      by (inr (inr l)) = inr (inr ((means steps).lingers.there q l))

  -- what is so on slots
  pub there : (f : Finding) → IsSo (on_slots r (discipline_of g) steps) f → IsSo (on_names t g steps) f
  there (Ends end word) so = end_there end word so
  there (Shows v word) so = shown_there v word so
  there (Waits q) so = waits_there q so

  module _ (most : ℕ) (k : KnownEnds) (h : IsKnown r (discipline_of g) steps most k) (whole : is_whole k ≡ true) where
    uncut : (word : List ℕ) → EndsSo b steps (Over StepLimit) word → ⊥
    uncut word so = no_cut r (discipline_of g) steps most k h whole word so

    -- a word that ends at each limit does so since it goes on for ever
    abbrev GoesOn : List ℕ → Type 0
    GoesOn word = (end : End) × (kind_of end ≡ StepLimit) × EndsSo b steps end word

    goes_on : (word : List ℕ) → EndsAtEachLimit a steps word → GoesOn word
    goes_on word each = over_so (slots r (discipline_of g)) without_output same_key steps key_same key_self word StepLimit
        ((means steps).ends.after_there word StepLimit (subst (λ n. EndsAfter a n word StepLimit) (no_steps_more steps) (each 0)))

    alone_back : (q : ℕ) (word : List ℕ) → IsAloneForEver a steps word q → GoesOn word → EndsSo b steps (Alone q) word
    alone_back q word alone (Over kind, e, so) = absurd (uncut word (subst (λ x. EndsSo b steps (Over x) word) e so))
    alone_back q word alone (Alone p, e, so) = subst (λ z. EndsSo b steps (Alone z) word) (one_mover a steps word p q (alone_named t r g read ok same steps word p (alone_for_ever b steps word p so)).0 alone.0) so
    alone_back q word alone (Spins p, e, so) = absurd (not_both a steps word q p alone (spins_named t r g read ok same steps word p (spins_for_ever b steps word p so)))

    spins_back : (q : ℕ) (word : List ℕ) → SpinsForEver a steps word q → GoesOn word → EndsSo b steps (Spins q) word
    spins_back q word spins (Over kind, e, so) = absurd (uncut word (subst (λ x. EndsSo b steps (Over x) word) e so))
    spins_back q word spins (Spins p, e, so) = subst (λ z. EndsSo b steps (Spins z) word) (one_mover a steps word p q (spins_named t r g read ok same steps word p (spins_for_ever b steps word p so)).0 spins.0) so
    spins_back q word spins (Alone p, e, so) = absurd (not_both a steps word p q (alone_named t r g read ok same steps word p (alone_for_ever b steps word p so)) spins)

    pub end_back : (end : End) (word : List ℕ) → is_cut end ≡ false → EndsOnNames t g steps end word → EndsSo b steps end word
    end_back (Over kind) word none so = over_kind b steps kind word (limit_cut kind none) ((means steps).ends.after_there word kind so)
    end_back (Alone q) word none so = alone_back q word so.1 (goes_on word so.0)
    end_back (Spins q) word none so = spins_back q word so.1 (goes_on word so.0)

    pub shown_back : (v : Shown) (word : List ℕ) → ShowsOnNames t g steps v word → ShowsSo (slots r (discipline_of g)) without_output steps v word
    shown_back v word (inl x) = inl ((means steps).values.there word v x)
    shown_back v word (inr x) =
        shows_early (slots r (discipline_of g)) without_output same_key steps key_same key_self h.states (map end_pair k.ends.items) (states_all r (discipline_of g) steps most k h whole) (all_ends r (discipline_of g) steps most k h whole)
        (λ w c. uncut w ((all_ends r (discipline_of g) steps most k h whole).first (Over StepLimit) w c).is) steps v word ((means (steps + steps)).values.there word v x.1)

    -- what settles an expectation on names does so on slots
    pub back : (names : Names) (e : Expectation) (f : Finding) → IsSo (on_names t g steps) f → settles names e f ≡ true → (h : Finding) × IsSo (on_slots r (discipline_of g) steps) h × (settles names e h ≡ true)
    back names e (Ends end word) so is = (Ends end word, end_back end word (settling_uncut names e end word is) so, is)
    back names e (Shows v word) so is = (Shows v word, shown_back v word so, is)
    back names e (Waits q) so is = (Waits q, waits_back q so, is)
