-- What is displayed is never taken back.
use Rattle.std.proofs.Common.{◌≡◌, ◌∙◌, ℕ, zero, suc, Bool, true, false, ◌||◌, if◌then◌else◌, List, [], ◌∷◌, ◌++◌, refl, sym, ap, append-nil, append_assoc}
use Rattle.std.specs.List.{list_any}
use Rattle.cp_slots.specs.Tables.{Tables}
use Rattle.cp_machine.specs.Alike.{AreAlike}
use Rattle.cp_machine.specs.System.{Machine}
use Rattle.cp_machine.specs.declared.discipline.Discipline.{Discipline}
use Rattle.cp_machine.specs.declared.shown.Shown.{Shown}
use Rattle.cp_machine.proofs.Alike.{step_alike, admitted_alike}
use Rattle.cp_run.specs.declared.outcome.Turn.{Turn}
use Rattle.cp_run.specs.declared.outcome.Turn.TheVariants.{Goes}
use Rattle.cp_run.specs.Run.{Node, Halted, Choosing, node_at, stretch, chosen, turn_after, settled_turn}
use Rattle.cp_run.specs.Slots.{slots}
use Rattle.cp_run.specs.System.{System}
use Rattle.cp_verdict.specs.Lasting.{GoesOn, KeepsOutput}

-- ---- by the slot machine

itself : (m : Machine) → AreAlike m.output m.output m m
itself m = record { same = refl; since = []; mine = sym (append-nil m.output); theirs = sym (append-nil m.output) }

pub slots_keep : (r : Tables) (discipline : Discipline) → KeepsOutput (slots r discipline)
slots_keep r discipline =
    record {
      step = λ m p. (let a = step_alike r m.output m.output m m p refl (itself m) in (a.since, a.mine));
      admit = λ m p. (let a = admitted_alike m.output m.output m m p (itself m) in (a.since, a.mine));
    }

-- ---- along a stretch

abbrev pub output_at : {S : Type 0} → System S → Node S → List Shown
output_at sys (Halted kind s) = sys.output s
output_at sys (Choosing s) = sys.output s

after : (xs ys zs : List Shown) → GoesOn xs ys → GoesOn ys zs → GoesOn xs zs
after xs ys zs a b = (a.0 ++ b.0, b.1 ∙ ap (λ l. l ++ b.0) a.1 ∙ append_assoc xs a.0 b.0)

same_as : (xs : List Shown) → GoesOn xs xs
same_as xs = ([], sym (append-nil xs))

module _ {S : Type 0} (sys : System S) (keeps : KeepsOutput sys) where
  by_turn : (left : ℕ) (before : List Shown) (t : S) (turn : Turn) → GoesOn before (sys.output t) → ((q : ℕ) → GoesOn (sys.output t) (output_at sys (stretch sys left t q))) → GoesOn before (output_at sys (node_at t (stretch sys left t) turn))
  by_turn left before t (Goes q) g on = after before (sys.output t) (output_at sys (stretch sys left t q)) g (on q)
  by_turn left before t _ g on = g

  stretch_keeps : (left : ℕ) (s : S) (p : ℕ) → GoesOn (sys.output s) (output_at sys (stretch sys left s p))
  unfolding stretch
  stretch_keeps zero s p = same_as (sys.output s)
  stretch_keeps (suc left) s p = by_turn left (sys.output s) (sys.step s p) (turn_after sys (sys.step s p) p (sys.event s p)) (keeps.step s p) (λ q. stretch_keeps left (sys.step s p) q)

  pub chosen_keeps : (steps : ℕ) (s : S) (p : ℕ) → GoesOn (sys.output s) (output_at sys (chosen sys steps s p))
  unfolding chosen
  chosen_keeps steps s p = split (sys.is_pending s)
    where
      split : (b : Bool) → GoesOn (sys.output s) (output_at sys (if b then (let t = sys.admit s p in node_at t (stretch sys steps t) (settled_turn sys t true p)) else stretch sys steps s p))
      split true = by_turn steps (sys.output s) (sys.admit s p) (settled_turn sys (sys.admit s p) true p) (keeps.admit s p) (λ q. stretch_keeps steps (sys.admit s p) q)
      split false = stretch_keeps steps s p

-- ---- one of the values

pub any_on : {A : Type 0} (q : A → Bool) (xs ys : List A) → list_any q xs ≡ true → list_any q (xs ++ ys) ≡ true
any_on q [] ys h = absurd (cc)
any_on q (x ∷ xs) ys h = split (q x) h (any_on q xs ys)
  where
    split : (b : Bool) → (b || list_any q xs) ≡ true → (list_any q xs ≡ true → list_any q (xs ++ ys) ≡ true) → (b || list_any q (xs ++ ys)) ≡ true
    split true h on = refl
    split false h on = on h
