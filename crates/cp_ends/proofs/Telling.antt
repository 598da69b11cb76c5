-- When two ends are one, and two values: what the comparison of the code answers.
use Rattle.std.proofs.Common.{◌≡◌, ◌==◌, ℕ, Bool, true, false, ap, refl, rules}
use Rattle.cp_ends.proofs.Vocabulary.{◌&&◌, Decides, Shown, OutcomeKind, ends_tests, Over, Alone, Spins}
use Rattle.std.proofs.lemmas.Bool.Decides.{Decides-eqb, Decides-int_eq}
use denote.Enum.Bare.{same_true, true_same}
use Rattle.cp_store.specs.contracts.error.ErrorName.{the_type}
use Rattle.cp_store.specs.contracts.error.ErrorNamePartialEq.TheImpl as name_eq
use Rattle.cp_store.specs.declared.error.ErrorName.{ErrorName}
use Rattle.cp_machine.specs.declared.shown.Shown.TheVariants.{Integer, Char, Truth, Constant}
use Rattle.cp_run.specs.contracts.outcome.OutcomeKindPartialEq.TheImpl as kind_eq
use Rattle.cp_run.specs.declared.outcome.OutcomeKind.TheVariants.{Finished, AllWaiting, RunError, ChoiceLimit, StepLimit, OutputLimit}
use Rattle.cp_ends.specs.declared.end.End.{End}
use Rattle.cp_resolved.proofs.components.ComponentImages.{both}

names_told : (a b : ErrorName) → Decides ((name_eq.ghosts).eq a b) (a ≡ b)
names_told a b = (λ h. same_true the_type (search rules) a b h, λ e. true_same the_type a b e)

all_three : (a b c : Bool) → a ≡ true → b ≡ true → c ≡ true → (a && (b && c)) ≡ true
all_three true true true x y z = refl
all_three true true false x y z = z
all_three true false c x y z = y
all_three false b c x y z = x

errors_told : (n m : ErrorName) (p q line other : ℕ) → Decides ((kind_eq.ghosts).eq (RunError n p line) (RunError m q other)) (RunError n p line ≡ RunError m q other)
errors_told n m p q line other =
    let names = names_told n m in
    let processes = Decides-eqb p q in
    let lines = Decides-eqb line other in (
      λ h.
          let b = both ((name_eq.ghosts).eq n m) ((p == q) && (line == other)) h in
          let c = both (p == q) (line == other) b.1 in
          rw (names.0 b.0, processes.0 c.0, lines.0 c.1) refl,
      λ e. all_three ((name_eq.ghosts).eq n m) (p == q) (line == other) (names.1 (cc)) (processes.1 (cc)) (lines.1 (cc)),
    )

kinds_told : (a b : OutcomeKind) → Decides ((kind_eq.ghosts).eq a b) (a ≡ b)
kinds_told Finished Finished = (λ h. refl, λ e. refl)
kinds_told AllWaiting AllWaiting = (λ h. refl, λ e. refl)
kinds_told (RunError n p line) (RunError m q other) = errors_told n m p q line other
kinds_told ChoiceLimit ChoiceLimit = (λ h. refl, λ e. refl)
kinds_told StepLimit StepLimit = (λ h. refl, λ e. refl)
kinds_told OutputLimit OutputLimit = (λ h. refl, λ e. refl)
kinds_told x y = (λ h. absurd (cc), λ e. absurd (cc))

pub ends_told : (a b : End) → Decides (ends_tests.end a b) (a ≡ b)
ends_told (Over a) (Over b) = let d = kinds_told a b in (λ h. ap (λ x. Over x) (d.0 h), λ e. d.1 (cc))
ends_told (Alone a) (Alone b) = let d = Decides-eqb a b in (λ h. ap (λ x. Alone x) (d.0 h), λ e. d.1 (cc))
ends_told (Spins a) (Spins b) = let d = Decides-eqb a b in (λ h. ap (λ x. Spins x) (d.0 h), λ e. d.1 (cc))
ends_told x y = (λ h. absurd (cc), λ e. absurd (cc))

truths_told : (a b : Bool) → Decides (ends_tests.value (Truth a) (Truth b)) (Truth a ≡ Truth b)
truths_told true false = (λ h. absurd (cc), λ e. absurd (cc))
truths_told false true = (λ h. absurd (cc), λ e. absurd (cc))
truths_told _ _ = (λ h. refl, λ e. refl)

pub values_told : (a b : Shown) → Decides (ends_tests.value a b) (a ≡ b)
values_told (Integer a) (Integer b) = let d = Decides-int_eq a b in (λ h. ap (λ x. Integer x) (d.0 h), λ e. d.1 (cc))
values_told (Char a) (Char b) = let d = Decides-eqb a b in (λ h. ap (λ x. Char x) (d.0 h), λ e. d.1 (cc))
values_told (Truth a) (Truth b) = truths_told a b
values_told (Constant a) (Constant b) = let d = Decides-eqb a b in (λ h. ap (λ x. Constant x) (d.0 h), λ e. d.1 (cc))
values_told x y = (λ h. absurd (cc), λ e. absurd (cc))
