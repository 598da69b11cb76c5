-- Of two systems whose runs are compared: which schedules and tables are the same.
use Rattle.std.proofs.Common.{◌≡◌, ◌∙◌, ◌⊎◌, inl, inr, ℕ, List, [], ◌∷◌, ◌++◌, length, ap, sym, refl, subst, arith}
use Rattle.cp_run.specs.declared.outcome.Outcome.{Outcome}
use Rattle.cp_run.specs.Run.{Answer, Ended, opened, run}
use Rattle.cp_run.specs.Stop.{last_state}
use Rattle.cp_run.specs.System.{System}
use Rattle.cp_run.specs.Table.{words, lines_of, each, table}
use Rattle.cp_run.proofs.Prefixes.{UsesWholly, goes_no_further}
use Rattle.cp_meaning.specs.State.{State}
use Rattle.cp_machine_laws.proofs.Alike.{each_same}
use Rattle.cp_annotation_laws.specs.Annotations.{IsSchedule, IsBroken, IsBrokenSchedule, HasBrokenBeginning, MeansTheSameBut}
use Rattle.cp_annotation_laws.proofs.annotations.Following.{Follows, openings, runs_compared, Compared}

abbrev ended_outcome : (x : Outcome) → Answer → Outcome
ended_outcome x (Ended y n) = y
ended_outcome x answer = x

abbrev ended_used : ℕ → Answer → ℕ
ended_used n (Ended y m) = m
ended_used n answer = n

wholly : (word : List ℕ) (outcome : Outcome) (answer : Answer) → answer ≡ Ended outcome (length word) → UsesWholly word answer
wholly word outcome answer e = subst (UsesWholly word) (sym e) refl

no_more : (xs ys : List ℕ) → length (xs ++ ys) ≡ length xs → ys ≡ []
no_more [] [] e = refl
no_more [] (y ∷ ys) e = absurd (omega arith)
no_more (x ∷ xs) ys e = no_more xs ys (omega arith)

nothing_after : (xs : List ℕ) → xs ++ [] ≡ xs
nothing_after [] = refl
nothing_after (x ∷ xs) = ap (λ ys. x ∷ ys) (nothing_after xs)

module _ (a b : System State) (choices steps : ℕ) where
  abbrev Differs : List ℕ → Type 0
  Differs word = (run a choices steps word ≡ run b choices steps word) ⊎ HasBrokenBeginning a choices steps word

  -- a schedule that goes on to the end of the word is no longer than its beginning that ends
  beginning_is : (word : List ℕ) (outcome : Outcome) → IsSchedule a choices steps word outcome → (h : HasBrokenBeginning a choices steps word) → IsBrokenSchedule a choices steps word outcome
  beginning_is word outcome e h =
      let first = goes_no_further a steps choices h.beginning h.rest (opened a steps) (wholly h.beginning h.outcome (run a choices steps h.beginning) h.broken.0) ∙ h.broken.0 in
      let whole : run a choices steps word ≡ Ended h.outcome (length h.beginning) = ap (run a choices steps) h.begins ∙ first in
      let both : Ended outcome (length word) ≡ Ended h.outcome (length h.beginning) = sym e ∙ whole in
      let outcomes : outcome ≡ h.outcome = ap (ended_outcome outcome) both in
      let lengths : length word ≡ length h.beginning = ap (ended_used 0) both in
      let none : h.rest ≡ [] = no_more h.beginning h.rest (ap length (sym h.begins) ∙ lengths) in
      let words : word ≡ h.beginning = h.begins ∙ (ap (λ (ys : List ℕ). h.beginning ++ ys) none ∙ nothing_after h.beginning) in
      subst (λ (w : List ℕ). IsBrokenSchedule a choices steps w outcome) (sym words) (subst (IsBrokenSchedule a choices steps h.beginning) (sym outcomes) h.broken)

  kept_one : (word : List ℕ) (outcome : Outcome) → Differs word → IsSchedule a choices steps word outcome → (IsBroken outcome.kind (last_state a choices steps word) → ⊥) → IsSchedule b choices steps word outcome
  kept_one word outcome (inl same) e whole = sym same ∙ e
  kept_one word outcome (inr h) e whole = absurd (whole (beginning_is word outcome e h).1)

  found_one : (word : List ℕ) (outcome : Outcome) → Differs word → IsSchedule b choices steps word outcome → IsSchedule a choices steps word outcome ⊎ HasBrokenBeginning a choices steps word
  found_one word outcome (inl same) e = inl (same ∙ e)
  found_one word outcome (inr h) e = inr h

  same_table : a.processes ≡ b.processes → ((word : List ℕ) → Differs word) → ((word : List ℕ) (outcome : Outcome) → IsBrokenSchedule a choices steps word outcome → ⊥) → table a choices steps ≡ table b choices steps
  unfolding table
  same_table n differs none =
      each_same (λ word. lines_of word (run a choices steps word)) (λ word. lines_of word (run b choices steps word)) (words a.processes choices) (λ word. ap (lines_of word) (go word (differs word)))
      ∙ ap (λ (k : ℕ). each (λ word. lines_of word (run b choices steps word)) (words k choices)) n
    where
      go : (word : List ℕ) → Differs word → run a choices steps word ≡ run b choices steps word
      go word (inl same) = same
      go word (inr h) = absurd (none h.beginning h.outcome h.broken)

pub same_but : (a b : System State) (R : State → State → Type 0) → Follows a b R IsBroken → MeansTheSameBut a b
same_but a b R f =
    record {
      kept = λ choices steps word outcome e whole. kept_one a b choices steps word outcome (differs choices steps word) e whole;
      found = λ choices steps word outcome e. found_one a b choices steps word outcome (differs choices steps word) e;
      tables = λ choices steps none. same_table a b choices steps f.processes (differs choices steps) none;
    }
  where
    differs : (choices steps : ℕ) (word : List ℕ) → (run a choices steps word ≡ run b choices steps word) ⊎ HasBrokenBeginning a choices steps word
    differs choices steps word = go (runs_compared a b R IsBroken f choices steps word (opened a steps) (opened b steps) (openings a b R IsBroken f steps))
      where
        go : Compared a b R IsBroken f choices steps word (opened a steps) (opened b steps) → (run a choices steps word ≡ run b choices steps word) ⊎ HasBrokenBeginning a choices steps word
        go (inl same) = inl same
        go (inr h) = inr (record { beginning = h.beginning; rest = h.rest; outcome = h.outcome; begins = h.begins; broken = (h.ends, h.early) })
