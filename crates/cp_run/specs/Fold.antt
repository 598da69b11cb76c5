-- What comes of a run, step by step.
use Rattle.std.specs.Prelude.{ℕ, zero, suc, true, false, List, [], ◌∷◌, if◌then◌else◌}
use Rattle.cp_machine.specs.declared.event.Event.{Event}
use Rattle.cp_run.specs.declared.outcome.Turn.{Turn}
use Rattle.cp_run.specs.declared.outcome.Turn.TheVariants.{Over, Due, Goes}
use Rattle.cp_run.specs.System.{System}
use Rattle.cp_run.specs.Run.{Node, Halted, Choosing, turn_at, turn_after, settled_turn, may, chosen, opened}

-- what steps, admissions and choices make of a value of the type X; S is the type of states
pub record Fold (S X : Type 0) : Type 0 where
  -- a step of a process, which was this event and led from one state to another
  pub on_step : S → ℕ → Event → S → X → X
  -- the admission of a process, which led to this state
  pub on_admission : ℕ → S → X → X
  -- the choice that is due in this state, and the number that is taken
  pub on_choice : S → ℕ → X → X

abbrev pub fold_turn : {X : Type 0} → (ℕ → X → X) → Turn → X → X
fold_turn on (Over kind) x = x
fold_turn on Due x = x
fold_turn on (Goes q) x = on q x

-- a stretch, of at most this many steps
unfoldable pub fold_stretch : {S X : Type 0} → System S → Fold S X → ℕ → S → ℕ → X → X
fold_stretch sys f zero s p x = x
fold_stretch sys f (suc left) s p x =
    let t = sys.step s p in
    fold_turn (fold_stretch sys f left t) (turn_after sys t p (sys.event s p)) (f.on_step s p (sys.event s p) t x)

unfoldable pub fold_opened : {S X : Type 0} → System S → Fold S X → ℕ → X → X
fold_opened sys f steps x = fold_turn (fold_stretch sys f steps sys.start) (turn_at sys sys.start false 0) x

-- where a choice leads to, and the stretch that follows
unfoldable pub fold_chosen : {S X : Type 0} → System S → Fold S X → ℕ → S → ℕ → X → X
fold_chosen sys f steps s p x =
    if sys.is_pending s then (let t = sys.admit s p in fold_turn (fold_stretch sys f steps t) (settled_turn sys t true p) (f.on_admission p t x)) else fold_stretch sys f steps s p x

-- a run from where it stands, with this many choices left
unfoldable pub fold_from : {S X : Type 0} → System S → Fold S X → ℕ → ℕ → List ℕ → Node S → X → X
fold_from sys f steps choices word (Halted kind s) x = x
fold_from sys f steps zero word (Choosing s) x = x
fold_from sys f steps (suc choices) [] (Choosing s) x = x
fold_from sys f steps (suc choices) (p ∷ word) (Choosing s) x =
    if may sys s p then fold_from sys f steps choices word (chosen sys steps s p) (fold_chosen sys f steps s p (f.on_choice s p x)) else f.on_choice s p x

abbrev pub fold_run : {S X : Type 0} → System S → Fold S X → ℕ → ℕ → List ℕ → X → X
fold_run sys f choices steps word x = fold_from sys f steps choices word (opened sys steps) (fold_opened sys f steps x)

-- two folds side by side
abbrev pub beside : {S X Y : Type 0} → Fold S X → Fold S Y → Fold S (X × Y)
beside f g =
    record {
      on_step = λ s p event t x. (f.on_step s p event t x.0, g.on_step s p event t x.1);
      on_admission = λ p t x. (f.on_admission p t x.0, g.on_admission p t x.1);
      on_choice = λ s p x. (f.on_choice s p x.0, g.on_choice s p x.1);
    }

-- in which state it stands after at most so many steps, and what comes next
unfoldable pub walked : {S : Type 0} → System S → ℕ → S → Turn → S × Turn
walked sys zero s turn = (s, turn)
walked sys (suc left) s (Over kind) = (s, Over kind)
walked sys (suc left) s Due = (s, Due)
walked sys (suc left) s (Goes p) = walked sys left (sys.step s p) (turn_after sys (sys.step s p) p (sys.event s p))

-- after the opening, and after a choice
unfoldable pub walked_opened : {S : Type 0} → System S → ℕ → S × Turn
walked_opened sys steps = walked sys steps sys.start (turn_at sys sys.start false 0)

unfoldable pub walked_chosen : {S : Type 0} → System S → ℕ → S → ℕ → S × Turn
walked_chosen sys steps s p =
    if sys.is_pending s then (let t = sys.admit s p in walked sys steps t (settled_turn sys t true p)) else walked sys steps s (Goes p)

-- nothing is made of a run
abbrev pub blind : {S X : Type 0} → Fold S X
blind = record { on_step = λ s p event t x. x; on_admission = λ p t x. x; on_choice = λ s p x. x }
