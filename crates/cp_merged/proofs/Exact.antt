-- Outcomes are one where their numbers are.
use Rattle.std.proofs.Common.{◌≡◌, ◌∙◌, ℕ, zero, suc, Bool, true, false, ◌&&◌, ◌==◌, if◌then◌else◌, List, [], ◌∷◌, ◌++◌, pos, negsuc, neg_ℤ, refl, sym, ap, arith}
use Rattle.cp_merged.proofs.Words.{nat_eq, nat_list_eq_equiv, ErrorName, Shown, each, Outcome, OutcomeKind, IsExact}
use Rattle.std.specs.Int.{is_negative}
use Rattle.std.proofs.lemmas.Bool.{eqb-true, le-ltb}
use lib.Pointwise.{pointwise}
use Rattle.cp_store.specs.declared.error.ErrorName.TheVariants.{Overflow, ZeroDivisor, Range, NoCase, QueueInUse, NotInit, InitTwice, Assertion, Invariant}
use Rattle.cp_machine.specs.declared.shown.Shown.TheVariants.{Integer, Char, Truth, Constant}
use Rattle.cp_run.specs.declared.outcome.OutcomeKind.TheVariants.{Finished, AllWaiting, RunError, ChoiceLimit, StepLimit, OutputLimit}
use Rattle.cp_walk.specs.Report.{shown_numbers, number_of, kind_numbers, outcome_numbers, same_outcome}

-- ---- back from the numbers

error_of : ℕ → ErrorName
error_of zero = Overflow
error_of (suc zero) = ZeroDivisor
error_of (suc (suc zero)) = Range
error_of (suc (suc (suc zero))) = NoCase
error_of (suc (suc (suc (suc zero)))) = QueueInUse
error_of (suc (suc (suc (suc (suc zero))))) = NotInit
error_of (suc (suc (suc (suc (suc (suc zero)))))) = InitTwice
error_of (suc (suc (suc (suc (suc (suc (suc zero))))))) = Assertion
error_of (suc (suc (suc (suc (suc (suc (suc (suc n)))))))) = Invariant

error_back : (e : ErrorName) → error_of (number_of e) ≡ e
unfolding error_of
error_back Overflow = refl
error_back ZeroDivisor = refl
error_back Range = refl
error_back NoCase = refl
error_back QueueInUse = refl
error_back NotInit = refl
error_back InitTwice = refl
error_back Assertion = refl
error_back Invariant = refl

shown_of : ℕ → ℕ → Shown
shown_of zero n = Integer (pos n)
shown_of (suc zero) n = Integer (neg_ℤ (pos n))
shown_of (suc (suc zero)) n = Char n
shown_of (suc (suc (suc zero))) n = Truth (n == 1)
shown_of (suc (suc (suc (suc m)))) n = Constant n

all_of : List ℕ → List Shown
all_of (m ∷ n ∷ ns) = shown_of m n ∷ all_of ns
all_of _ = []

not_negative : (n : ℕ) → is_negative (pos n) ≡ false
not_negative n = le-ltb n 0 (omega arith)

all_back : (values : List Shown) → all_of (each shown_numbers values) ≡ values
unfolding shown_of all_of
all_back [] = refl
all_back (Integer (pos n) ∷ values) = ap (λ b. shown_of (if b then 1 else 0) n ∷ all_of (each shown_numbers values)) (not_negative n) ∙ ap (λ l. Integer (pos n) ∷ l) (all_back values)
all_back (Integer (negsuc n) ∷ values) = ap (λ l. Integer (negsuc n) ∷ l) (all_back values)
all_back (Char c ∷ values) = ap (λ l. Char c ∷ l) (all_back values)
all_back (Truth true ∷ values) = ap (λ l. Truth true ∷ l) (all_back values)
all_back (Truth false ∷ values) = ap (λ l. Truth false ∷ l) (all_back values)
all_back (Constant c ∷ values) = ap (λ l. Constant c ∷ l) (all_back values)

abbrev made : OutcomeKind → List ℕ → Outcome
made kind ns = record { kind = kind; output = all_of ns }

of_error : List ℕ → Outcome
of_error (name ∷ process ∷ line ∷ ns) = made (RunError (error_of name) process line) ns
of_error _ = made Finished []

outcome_of : List ℕ → Outcome
outcome_of [] = made Finished []
outcome_of (zero ∷ ns) = made Finished ns
outcome_of (suc zero ∷ ns) = made AllWaiting ns
outcome_of (suc (suc zero) ∷ ns) = of_error ns
outcome_of (suc (suc (suc zero)) ∷ ns) = made ChoiceLimit ns
outcome_of (suc (suc (suc (suc zero))) ∷ ns) = made StepLimit ns
outcome_of (suc (suc (suc (suc (suc m)))) ∷ ns) = made OutputLimit ns

by_kind : (kind : OutcomeKind) (output : List Shown) → outcome_of (kind_numbers kind ++ each shown_numbers output) ≡ record { kind = kind; output = output }
unfolding outcome_of of_error
by_kind Finished output = ap (λ l. record { kind = Finished; output = l }) (all_back output)
by_kind AllWaiting output = ap (λ l. record { kind = AllWaiting; output = l }) (all_back output)
by_kind (RunError name process line) output = ap (λ e. made (RunError e process line) (each shown_numbers output)) (error_back name) ∙ ap (λ l. record { kind = RunError name process line; output = l }) (all_back output)
by_kind ChoiceLimit output = ap (λ l. record { kind = ChoiceLimit; output = l }) (all_back output)
by_kind StepLimit output = ap (λ l. record { kind = StepLimit; output = l }) (all_back output)
by_kind OutputLimit output = ap (λ l. record { kind = OutputLimit; output = l }) (all_back output)

outcome_back : (o : Outcome) → outcome_of (outcome_numbers o) ≡ o
outcome_back o = by_kind o.kind o.output

both_first : (a b : Bool) → (a && b) ≡ true → a ≡ true
both_first true b h = refl
both_first false b h = h

both_second : (a b : Bool) → (a && b) ≡ true → b ≡ true
both_second true b h = h
both_second false b h = absurd (cc)

pub one_list : (xs ys : List ℕ) → pointwise nat_eq xs ys ≡ true → xs ≡ ys
one_list [] [] h = refl
one_list [] (y ∷ ys) h = absurd (cc)
one_list (x ∷ xs) [] h = absurd (cc)
one_list (x ∷ xs) (y ∷ ys) h = ap (λ z. z ∷ xs) (eqb-true x y (both_first (nat_eq x y) (pointwise nat_eq xs ys) h)) ∙ ap (λ l. y ∷ l) (one_list xs ys (both_second (nat_eq x y) (pointwise nat_eq xs ys) h))

pub exact_outcomes : IsExact same_outcome
exact_outcomes =
    record {
      is = record {
        flip = λ a b. nat_list_eq_equiv.symm (outcome_numbers a) (outcome_numbers b);
        alike = λ a b c h. nat_list_eq_equiv.congr (outcome_numbers a) (outcome_numbers b) (outcome_numbers c) h;
      };
      own = λ a. nat_list_eq_equiv.refl (outcome_numbers a);
      exact = λ a b h. sym (outcome_back a) ∙ ap outcome_of (one_list (outcome_numbers a) (outcome_numbers b) h) ∙ outcome_back b;
    }
