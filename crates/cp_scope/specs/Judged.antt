-- What a node stands for, or the faults in it and below it, in reading order.
use Rattle.std.specs.Prelude.{◌≡◌, ℕ, List, [], ◌∷◌, ◌++◌, Result, Ok, Err}
use Rattle.cp_scope.specs.declared.fault.Rule.{Rule}
use Rattle.cp_scope.specs.declared.fault.CheckFault.{CheckFault}
use Rattle.cp_scope.specs.declared.fault.CheckFault.TheVariants as check_fault

abbrev pub Judged : Type 0 → Type 0
Judged A = Result A (List CheckFault)

-- one fault
abbrev pub broken : {A : Type 0} → ℕ → Rule → Judged A
broken at rule = Err (check_fault.Rule at rule ∷ [])

-- no fault here, since what is named has one where it is declared
abbrev pub silent : {A : Type 0} → Judged A
silent = Err []

-- two parts, the second after the first
abbrev pub both : {A B : Type 0} → Judged A → Judged B → Judged (A × B)
both (Ok a) (Ok b) = Ok (a, b)
both (Ok a) (Err gs) = Err gs
both (Err fs) (Ok b) = Err fs
both (Err fs) (Err gs) = Err (fs ++ gs)

-- what a node says itself counts only where its parts have no fault
infixl 10 ◌>>=◌
abbrev pub ◌>>=◌ : {A B : Type 0} → Judged A → (A → Judged B) → Judged B
(Ok a) >>= f = f a
(Err fs) >>= f = Err fs

abbrev pub faults : {A : Type 0} → Judged A → List CheckFault
faults (Ok a) = []
faults (Err fs) = fs

-- ---- what a function that checks ensures, unless memory fails

-- the first fault
abbrev pub IsFirst : {A : Type 0} → CheckFault → Judged A → Type 0
IsFirst f (Ok a) = ⊥
IsFirst f (Err []) = ⊥
IsFirst f (Err (g ∷ gs)) = g ≡ f

abbrev pub Refuses : {A : Type 0} → CheckFault → Judged A → Type 0
Refuses check_fault.Memory judged = Unit {0}
Refuses (check_fault.Rule at rule) judged = IsFirst (check_fault.Rule at rule) judged

abbrev pub Judges : {X A : Type 0} → (X → A) → Judged A → Result X CheckFault → Type 0
Judges view judged (Ok x) = judged ≡ Ok (view x)
Judges view judged (Err e) = Refuses e judged

-- ---- the same for declarations, by the list of their faults

abbrev pub IsFirstOf : CheckFault → List CheckFault → Type 0
IsFirstOf f [] = ⊥
IsFirstOf f (g ∷ gs) = g ≡ f

abbrev pub RefusesList : CheckFault → List CheckFault → Type 0
RefusesList check_fault.Memory fs = Unit {0}
RefusesList (check_fault.Rule at rule) fs = IsFirstOf (check_fault.Rule at rule) fs

-- no fault, or the first one, unless memory fails
abbrev pub Finds : {X : Type 0} → List CheckFault → Result X CheckFault → Type 0
Finds fs (Ok x) = fs ≡ []
Finds fs (Err e) = RefusesList e fs
