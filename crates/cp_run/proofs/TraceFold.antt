-- The trace of a run is what comes of it, line by line.
use Rattle.std.proofs.Common.{◌≡◌, ◌∙◌, ℕ, zero, suc, Bool, true, false, if◌then◌else◌, List, [], ◌∷◌, ◌++◌, ap, sym}
use Rattle.std.proofs.lemmas.List.{append_assoc, append-nil}
use Rattle.cp_run.proofs.Words.{Turn, Over, Due, Goes, System}
use Rattle.cp_run.specs.declared.line.TraceLine.{TraceLine}
use Rattle.cp_run.specs.declared.line.TraceEvent.TheVariants.{Admit}
use Rattle.cp_run.specs.Fold.{fold_chosen, fold_from, fold_opened, fold_run, fold_stretch, fold_turn}
use Rattle.cp_run.specs.Run.{Node, Halted, Choosing, turn_after, turn_at, settled_turn, may, chosen, opened}
use Rattle.cp_run.specs.Trace.{holders_in, step_lines, lines_on, stretch_lines, opened_lines, chosen_lines, trace_from, trace, tracer}

turn_traced : (on : ℕ → List TraceLine → List TraceLine) (f : ℕ → List TraceLine) (turn : Turn) (x : List TraceLine) → ((q : ℕ) (y : List TraceLine) → on q y ≡ y ++ f q) → fold_turn on turn x ≡ x ++ lines_on f turn
turn_traced on f (Over kind) x h = sym (append-nil x)
turn_traced on f Due x h = sym (append-nil x)
turn_traced on f (Goes q) x h = h q x

either_traced : (b : Bool) (x y lines : List TraceLine) → y ≡ x ++ lines → (if b then y else x) ≡ x ++ (if b then lines else [])
either_traced true x y lines h = h
either_traced false x y lines h = sym (append-nil x)

module _ {S : Type 0} (sys : System S) where
  stretch_traced : (left : ℕ) (s : S) (p : ℕ) (x : List TraceLine) → fold_stretch sys (tracer sys) left s p x ≡ x ++ stretch_lines sys left s p
  unfolding fold_stretch stretch_lines
  stretch_traced zero s p x = sym (append-nil x)
  stretch_traced (suc left) s p x =
      let t = sys.step s p in
      let turn = turn_after sys t p (sys.event s p) in
      let lines = step_lines sys t p (sys.event s p) in
      turn_traced (fold_stretch sys (tracer sys) left t) (stretch_lines sys left t) turn (x ++ lines) (λ q y. stretch_traced left t q y) ∙ append_assoc x lines (lines_on (stretch_lines sys left t) turn)

  opened_traced : (steps : ℕ) (x : List TraceLine) → fold_opened sys (tracer sys) steps x ≡ x ++ opened_lines sys steps
  unfolding fold_opened opened_lines
  opened_traced steps x = turn_traced (fold_stretch sys (tracer sys) steps sys.start) (stretch_lines sys steps sys.start) (turn_at sys sys.start false 0) x (λ q y. stretch_traced steps sys.start q y)

  gate_traced : (steps : ℕ) (s t : S) (p : ℕ) (b : Bool) (turn : Turn) (line : TraceLine) (x : List TraceLine) → (if b then fold_turn (fold_stretch sys (tracer sys) steps t) turn (x ++ line ∷ []) else fold_stretch sys (tracer sys) steps s p x) ≡ x ++ (if b then line ∷ lines_on (stretch_lines sys steps t) turn else stretch_lines sys steps s p)
  gate_traced steps s t p true turn line x = turn_traced (fold_stretch sys (tracer sys) steps t) (stretch_lines sys steps t) turn (x ++ line ∷ []) (λ q y. stretch_traced steps t q y) ∙ append_assoc x (line ∷ []) (lines_on (stretch_lines sys steps t) turn)
  gate_traced steps s t p false turn line x = stretch_traced steps s p x

  chosen_traced : (steps : ℕ) (s : S) (p : ℕ) (x : List TraceLine) → fold_chosen sys (tracer sys) steps s p x ≡ x ++ chosen_lines sys steps s p
  unfolding fold_chosen chosen_lines
  chosen_traced steps s p x = let t = sys.admit s p in gate_traced steps s t p (sys.is_pending s) (settled_turn sys t true p) (record { process = p; event = Admit; holders = holders_in sys t }) x

  from_traced : (steps choices : ℕ) (word : List ℕ) (node : Node S) (x : List TraceLine) → fold_from sys (tracer sys) steps choices word node x ≡ x ++ trace_from sys steps choices word node
  unfolding fold_from trace_from
  from_traced steps zero word (Halted kind s) x = sym (append-nil x)
  from_traced steps (suc choices) word (Halted kind s) x = sym (append-nil x)
  from_traced steps zero word (Choosing s) x = sym (append-nil x)
  from_traced steps (suc choices) [] (Choosing s) x = sym (append-nil x)
  from_traced steps (suc choices) (p ∷ word) (Choosing s) x =
      let lines = chosen_lines sys steps s p in
      let rest = trace_from sys steps choices word (chosen sys steps s p) in
      let y = fold_chosen sys (tracer sys) steps s p x in
      either_traced (may sys s p) x (fold_from sys (tracer sys) steps choices word (chosen sys steps s p) y) (lines ++ rest) (from_traced steps choices word (chosen sys steps s p) y ∙ ap (λ l. l ++ rest) (chosen_traced steps s p x) ∙ append_assoc x lines rest)

  pub is_traced : (choices steps : ℕ) (word : List ℕ) → fold_run sys (tracer sys) choices steps word [] ≡ trace sys choices steps word
  is_traced choices steps word = from_traced steps choices word (opened sys steps) (fold_opened sys (tracer sys) steps []) ∙ ap (λ l. l ++ trace_from sys steps choices word (opened sys steps)) (opened_traced steps [])
