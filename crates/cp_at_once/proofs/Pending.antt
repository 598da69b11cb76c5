-- Where the first of a line goes in, nobody is ever to be let in.
use Rattle.std.proofs.Common.{◌≡◌, ◌∙◌, ℕ, zero, suc, List, [], ◌∷◌, Option, Some, None, is_some, if◌then◌else◌, Bool, true, false, refl, sym, subst, ap}
use Rattle.cp_slots.specs.Tables.{Tables}
use Rattle.cp_at_once.proofs.Words.{by_the_book, same_Some, silent_slots}
use Rattle.cp_machine.specs.Machine.{Machine, is_pending}
use Rattle.cp_machine.specs.Step.{step_at}
use Rattle.cp_machine.proofs.StepKeeps.{step_keeps}
use Rattle.cp_run.specs.declared.outcome.Turn.{Turn}
use Rattle.cp_run.specs.declared.outcome.Turn.TheVariants as turn
use Rattle.cp_run.specs.System.{System}
use Rattle.cp_run.specs.Run.{Node, Halted, Choosing, node_at, turn_after, turn_at, settled_turn, stretch, opened, chosen}
use Rattle.cp_endless_laws.specs.Reachable.{LeadsTo, node_after}
use Rattle.cp_endless_laws.proofs.possible.Words.{after_first}

choosing : (s t : Machine) → (◌≡◌ {A = Node Machine}) (Choosing s) (Choosing t) → s ≡ t
choosing s t e = cc

-- ---- a step

-- where the first of a line goes in, and nobody is to be let in
abbrev pub IsFree : Machine → Type 0
IsFree m = (m.discipline ≡ by_the_book) × (m.pending ≡ None)

pub step_free : (r : Tables) (m : Machine) (pid : ℕ) → IsFree m → IsFree (step_at r m pid).machine
step_free r m pid =
    step_keeps (λ discipline pending ts. (discipline ≡ by_the_book) × (pending ≡ None)) pid (λ discipline pending ts x h. h) (λ discipline pending ts p h. h) (λ discipline pending ts p cell monitor at h. h) (λ discipline pending ts monitor any h. absurd (let bad = sym any ∙ ap (λ d. d.gates) h.0 in cc)) r m

-- ---- a run

not_pending : (o : Option ℕ) → o ≡ None → is_some o ≡ false
not_pending o e = ap is_some e

module _ (r : Tables) (steps : ℕ) where
  abbrev quiet : System Machine
  quiet = silent_slots r by_the_book

  stretch_free : (n : ℕ) (m : Machine) (p : ℕ) (t : Machine) → IsFree m → stretch quiet n m p ≡ Choosing t → IsFree t
  unfolding stretch
  stretch_free zero m p t h e = absurd (cc)
  stretch_free (suc n) m p t h e = by (turn_after quiet (quiet.step m p) p (quiet.event m p)) e (λ q d. stretch_free n (quiet.step m p) q t (step_free r m p h) d)
    where
      by : (u : Turn) → node_at (quiet.step m p) (stretch quiet n (quiet.step m p)) u ≡ Choosing t → ((q : ℕ) → stretch quiet n (quiet.step m p) q ≡ Choosing t → IsFree t) → IsFree t
      by (turn.Over kind) e on = absurd (cc)
      by turn.Due e on = subst IsFree (choosing (quiet.step m p) t e) (step_free r m p h)
      by (turn.Goes q) e on = on q e

  chosen_free : (m : Machine) (p : ℕ) (t : Machine) → IsFree m → chosen quiet steps m p ≡ Choosing t → IsFree t
  unfolding chosen
  chosen_free m p t h e = by (is_pending m) (not_pending m.pending h.1) e
    where
      by : (b : Bool) → b ≡ false → (if b then node_at (quiet.admit m p) (stretch quiet steps (quiet.admit m p)) (settled_turn quiet (quiet.admit m p) true p) else stretch quiet steps m p) ≡ Choosing t → IsFree t
      by true none e = absurd (cc)
      by false none e = stretch_free steps m p t h e

  opened_free : (t : Machine) → opened quiet steps ≡ Choosing t → IsFree t
  unfolding opened
  opened_free t e = by (turn_at quiet quiet.start false 0) e
    where
      by : (u : Turn) → node_at quiet.start (stretch quiet steps quiet.start) u ≡ Choosing t → IsFree t
      by (turn.Over kind) e = absurd (cc)
      by turn.Due e = subst IsFree (choosing quiet.start t e) (refl, refl)
      by (turn.Goes q) e = stretch_free steps quiet.start q t (refl, refl) e

  along_free : (word : List ℕ) (x : Node Machine) (t : Machine) → ((m : Machine) → x ≡ Choosing m → IsFree m) → node_after quiet steps x word ≡ Some (Choosing t) → IsFree t
  along_free [] x t h e = h t (same_Some x (Choosing t) e)
  along_free (p ∷ word) (Halted kind m) t h e = absurd (cc)
  along_free (p ∷ word) (Choosing m) t h e =
      let a = after_first quiet steps m p word (Choosing t) e in
      along_free word (chosen quiet steps m p) t (λ k is. chosen_free m p k (h m refl) is) a.1

  -- in a state to which a word leads nobody is to be let in
  pub never_pending : (word : List ℕ) (t : Machine) → LeadsTo quiet steps word (Choosing t) → is_pending t ≡ false
  never_pending word t leads = not_pending t.pending (along_free word (opened quiet steps) t (λ m e. opened_free m e) leads).1
