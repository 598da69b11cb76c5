-- What an observer of a stretch notes are the marks of the stretch.
use Rattle.std.proofs.Common.{◌≡◌, ◌∙◌, ℕ, zero, suc, Bool, true, false, List, [], ◌++◌, if◌then◌else◌, ap, sym}
use Rattle.std.proofs.lemmas.List.{append-nil, append_assoc}
use Rattle.cp_machine.specs.Machine.{Machine, thread_at}
use Rattle.cp_run.specs.Fold.{fold_chosen, fold_opened, fold_stretch, fold_turn}
use Rattle.cp_run.specs.Run.{settled_turn, turn_after, turn_at}
use Rattle.cp_run.specs.declared.outcome.Turn.{Turn}
use Rattle.cp_cover.proofs.Words.{System, CoverMark, Due, Goes, Over}
use Rattle.cp_cover.specs.Reached.{item_marks, wait_marks, marks_on, marker, stretch_marks, opened_marks, chosen_marks}

module _ (sys : System Machine) where
  on_turn : (on : ℕ → List CoverMark → List CoverMark) (marks : ℕ → List CoverMark) (turn : Turn) (xs : List CoverMark) → ((q : ℕ) (ys : List CoverMark) → on q ys ≡ ys ++ marks q) → fold_turn on turn xs ≡ xs ++ marks_on marks turn
  on_turn on marks (Over kind) xs h = sym (append-nil xs)
  on_turn on marks Due xs h = sym (append-nil xs)
  on_turn on marks (Goes q) xs h = h q xs

  in_stretch : (left : ℕ) (m : Machine) (p : ℕ) (xs : List CoverMark) → fold_stretch sys marker left m p xs ≡ xs ++ stretch_marks sys left m p
  unfolding fold_stretch stretch_marks
  in_stretch zero m p xs = sym (append-nil xs)
  in_stretch (suc left) m p xs =
      let n = sys.step m p in
      let turn = turn_after sys n p (sys.event m p) in
      let item = item_marks (thread_at m.threads p).stack in
      let wait = wait_marks (thread_at n.threads p) in
      let rest = marks_on (stretch_marks sys left n) turn in
      on_turn (fold_stretch sys marker left n) (stretch_marks sys left n) turn ((xs ++ item) ++ wait) (in_stretch left n)
      ∙ ap (λ l. l ++ rest) (append_assoc xs item wait)
      ∙ append_assoc xs (item ++ wait) rest

  pub notes_opening : (steps : ℕ) (xs : List CoverMark) → fold_opened sys marker steps xs ≡ xs ++ opened_marks sys steps
  unfolding fold_opened opened_marks
  notes_opening steps xs = on_turn (fold_stretch sys marker steps sys.start) (stretch_marks sys steps sys.start) (turn_at sys sys.start false 0) xs (in_stretch steps sys.start)

  by_pending : (steps : ℕ) (m : Machine) (p : ℕ) (xs : List CoverMark) (b : Bool) → (if b then fold_turn (fold_stretch sys marker steps (sys.admit m p)) (settled_turn sys (sys.admit m p) true p) xs else fold_stretch sys marker steps m p xs) ≡ xs ++ (if b then marks_on (stretch_marks sys steps (sys.admit m p)) (settled_turn sys (sys.admit m p) true p) else stretch_marks sys steps m p)
  by_pending steps m p xs true = on_turn (fold_stretch sys marker steps (sys.admit m p)) (stretch_marks sys steps (sys.admit m p)) (settled_turn sys (sys.admit m p) true p) xs (in_stretch steps (sys.admit m p))
  by_pending steps m p xs false = in_stretch steps m p xs

  pub notes_choice : (steps : ℕ) (m : Machine) (p : ℕ) (xs : List CoverMark) → fold_chosen sys marker steps m p xs ≡ xs ++ chosen_marks sys steps m p
  unfolding fold_chosen chosen_marks
  notes_choice steps m p xs = by_pending steps m p xs (sys.is_pending m)
