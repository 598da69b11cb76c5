-- Two machines that differ in what they displayed before some moment alone, and that is as much, take the same steps:
-- a step, or an admission, leaves them so, and the events are the same. Only `display` looks at the output, at how long it is.
use Rattle.std.proofs.Common.{◌≡◌, ℕ, ◌+◌, ◌∙◌, List, [], ◌∷◌, ◌++◌, length, Option, Some, None, if◌then◌else◌, Bool, true, false, refl, sym, subst, ap}
use Rattle.cp_machine.proofs.Words.{◌==◌, Tables, Entry, MOST_SHOWN, admit_waiting, admit_at, Stepped, step_at, append_assoc, length-append, Shown, show}
use Rattle.cp_machine.proofs.StepKeeps.{step_twins}
use Rattle.cp_machine.specs.Alike.{AreAlike}
use Rattle.cp_machine.specs.Machine.{Machine, is_ready, is_pending, in_line, waits, with_stack, with_output}

-- two steps: machines that are alike, and the same event
abbrev Twins : List Shown → List Shown → Stepped → Stepped → Type 0
Twins before other x y = AreAlike before other x.machine y.machine × (y.event ≡ x.event)

-- ---- two machines that are alike

module _ (before other : List Shown) (m n : Machine) (a : AreAlike before other m n) where
  -- what leaves the output of one as it was leaves both alike
  still_alike : (k : Machine) → k.output ≡ m.output → AreAlike before other k (with_output k n.output)
  still_alike k e = record { same = refl; since = a.since; mine = e ∙ a.mine; theirs = a.theirs }

  admitted_at_alike : (pending : Option ℕ) (pid : ℕ) → AreAlike before other (admit_at pending m pid) (admit_at pending (with_output m n.output) pid)
  admitted_at_alike None pid = still_alike m refl
  admitted_at_alike (Some monitor) pid = still_alike (admit_at (Some monitor) m pid) refl

  -- ---- display

  -- each is asked by itself, and the answers are the same
  both_twins : (b c : Bool) {x y x' y' : Stepped} → c ≡ b → Twins before other x x' → Twins before other y y' → Twins before other (if b then x else y) (if c then x' else y')
  both_twins true true e h k = h
  both_twins false false e h k = k
  both_twins true false e h k = absurd (cc)
  both_twins false true e h k = absurd (cc)

  -- the outputs are as long, so that both are full or neither is
  module _ (long : length before ≡ length other) where
    as_long : length n.output ≡ length m.output
    as_long = ap length a.theirs ∙ length-append other a.since ∙ ap (λ k. k + length a.since) (sym long) ∙ sym (length-append before a.since) ∙ sym (ap length a.mine)

    one_more : (pid : ℕ) (rest : List Entry) (v : Shown) → AreAlike before other (with_output (with_stack m pid rest) (m.output ++ v ∷ [])) (with_output (with_stack m pid rest) (n.output ++ v ∷ []))
    one_more pid rest v =
        record {
          same = refl;
          since = a.since ++ v ∷ [];
          mine = ap (λ k. k ++ v ∷ []) a.mine ∙ append_assoc before a.since (v ∷ []);
          theirs = ap (λ k. k ++ v ∷ []) a.theirs ∙ append_assoc other a.since (v ∷ []);
        }

    show_twins : (pid : ℕ) (rest : List Entry) (v : Shown) → Twins before other (show m pid rest v) (show (with_output m n.output) pid rest v)
    show_twins pid rest v =
        both_twins (length m.output == MOST_SHOWN) (length n.output == MOST_SHOWN) (ap (λ k. k == MOST_SHOWN) as_long) (still_alike m refl, refl) (one_more pid rest v, refl)

-- ---- a step, an admission and readings

-- both machines take a step
steps_alike : (r : Tables) (before other : List Shown) (m n : Machine) (pid : ℕ) → length before ≡ length other → AreAlike before other m n → Twins before other (step_at r m pid) (step_at r n pid)
steps_alike r before other m n pid long a =
    subst (λ k. Twins before other (step_at r m pid) (step_at r k pid)) (sym a.same)
    (step_twins n.output (Twins before other) r m pid (λ k event e. (still_alike before other m n a k e, refl)) (show_twins before other m n a long pid))

-- after a step they are alike
pub step_alike : (r : Tables) (before other : List Shown) (m n : Machine) (pid : ℕ) → length before ≡ length other
    → AreAlike before other m n → AreAlike before other (step_at r m pid).machine (step_at r n pid).machine
step_alike r before other m n pid long a = (steps_alike r before other m n pid long a).0

-- and the step is the same
pub step_event_alike : (r : Tables) (before other : List Shown) (m n : Machine) (pid : ℕ) → length before ≡ length other
    → AreAlike before other m n → (step_at r n pid).event ≡ (step_at r m pid).event
step_event_alike r before other m n pid long a = (steps_alike r before other m n pid long a).1

-- after an admission they are alike
pub admitted_alike : (before other : List Shown) (m n : Machine) (pid : ℕ) → AreAlike before other m n → AreAlike before other (admit_waiting m pid) (admit_waiting n pid)
admitted_alike before other m n pid a =
    subst (λ k. AreAlike before other (admit_waiting m pid) (admit_waiting k pid)) (sym a.same) (admitted_at_alike before other m n a m.pending pid)

-- the same processes are ready
pub ready_alike : (before other : List Shown) (m n : Machine) (p : ℕ) → AreAlike before other m n → is_ready n p ≡ is_ready m p
ready_alike before other m n p a = ap (λ k. is_ready k p) a.same

-- a monitor's gate waits for a choice in both or in neither
pub pending_alike : (before other : List Shown) (m n : Machine) → AreAlike before other m n → is_pending n ≡ is_pending m
pending_alike before other m n a = ap (λ k. is_pending k) a.same

-- the same processes are in the line of the pending monitor
pub in_line_alike : (before other : List Shown) (m n : Machine) (p : ℕ) → AreAlike before other m n → in_line n p ≡ in_line m p
in_line_alike before other m n p a = ap (λ k. in_line k p) a.same

-- some process waits in both or in none
pub waits_alike : (before other : List Shown) (m n : Machine) → AreAlike before other m n → waits n ≡ waits m
waits_alike before other m n a = ap (λ k. waits k) a.same
