-- That what a cutting keeps are facts, of which there is one proof at most.
use Rattle.std.specs.Prelude.{ℕ, List, [], ◌∷◌, Bool}
use mathlib.Core.HLevel.{Unit-prop}
use Rattle.std.proofs.Props.{props}
use mathlib.Core.Sum.{⊎_set}
use Rattle.cp_run.specs.Run.{Answer, Ended, Wants, NotReady}
use Rattle.cp_run.specs.Table.{Line}
use Rattle.cp_slots.specs.Tables.{Tables}
use Rattle.cp_run.specs.declared.limits.Limits.{Limits}
use Rattle.arrayvec.specs.ArrayVec.{ArrayVec}
use Rattle.cp_walk.specs.Cutting.{Each, Pairwise, IsUsed}
use Rattle.cp_walk.specs.Members.{CutsTable}

each_prop : {A : Type 0} (P : A → Type 0) → ((x : A) → IsProp (P x)) → (xs : List A) → IsProp (Each P xs)
each_prop P h [] = Unit-prop
each_prop P h (x ∷ xs) = let here = h x in let rest = each_prop P h xs in hlevel (here, rest)

pairs_prop : {A : Type 0} (r : A → A → Bool) (xs : List A) → IsProp (Pairwise r xs)
pairs_prop r [] = Unit-prop
pairs_prop r (x ∷ xs) = let rest = pairs_prop r xs in hlevel (each_prop, rest, props)

used_prop : (word : List ℕ) (a : Answer) → IsProp (IsUsed word a)
used_prop word (Ended outcome used) = hlevel props
used_prop word (Wants ready) = Unit-prop
used_prop word (NotReady place) = hlevel

lines_set : IsSet (List Line)
lines_set = hlevel (⊎_set, props)

pub cuts_prop : (r : Tables) (l : Limits) (words : List (ArrayVec ℕ)) → IsProp (CutsTable r l words)
cuts_prop r l words = hlevel (each_prop, pairs_prop, used_prop, lines_set, props)
