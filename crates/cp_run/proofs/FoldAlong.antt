-- What comes of a run by one fold, seen by a function that goes with its steps, is what comes of it by another.
use Rattle.std.proofs.Common.{◌≡◌, ◌∙◌, ℕ, zero, suc, Bool, true, false, if◌then◌else◌, List, [], ◌∷◌, ap, refl}
use Rattle.cp_run.proofs.Words.{Event, Turn, Over, Due, Goes, System}
use Rattle.cp_run.specs.Fold.{Fold, fold_chosen, fold_from, fold_opened, fold_run, fold_stretch, fold_turn}
use Rattle.cp_run.specs.Run.{Node, Halted, Choosing, turn_after, turn_at, settled_turn, may, chosen, opened}

-- a function goes with the steps of two folds
pub record GoesWith {S X Y : Type 0} (f : Fold S X) (g : Fold S Y) (h : X → Y) : Type 0 where
  pub step : (s : S) (p : ℕ) (event : Event) (t : S) (x : X) → h (f.on_step s p event t x) ≡ g.on_step s p event t (h x)
  pub admission : (p : ℕ) (t : S) (x : X) → h (f.on_admission p t x) ≡ g.on_admission p t (h x)
  pub choice : (s : S) (p : ℕ) (x : X) → h (f.on_choice s p x) ≡ g.on_choice s p (h x)

either_along : {X Y : Type 0} (h : X → Y) (b : Bool) (x u : X) (y v : Y) → h x ≡ y → h u ≡ v → h (if b then x else u) ≡ (if b then y else v)
either_along h true x u y v a b = a
either_along h false x u y v a b = b

module _ {S X Y : Type 0} (sys : System S) (f : Fold S X) (g : Fold S Y) (h : X → Y) (goes : GoesWith f g h) where
  turn_along : (on : ℕ → X → X) (next : ℕ → Y → Y) (turn : Turn) (x : X) (y : Y) → h x ≡ y → ((q : ℕ) (z : X) → h (on q z) ≡ next q (h z)) → h (fold_turn on turn x) ≡ fold_turn next turn y
  turn_along on next (Over kind) x y e k = e
  turn_along on next Due x y e k = e
  turn_along on next (Goes q) x y e k = k q x ∙ ap (next q) e

  stretch_along : (left : ℕ) (s : S) (p : ℕ) (x : X) → h (fold_stretch sys f left s p x) ≡ fold_stretch sys g left s p (h x)
  unfolding fold_stretch
  stretch_along zero s p x = refl
  stretch_along (suc left) s p x =
      let t = sys.step s p in
      let event = sys.event s p in
      turn_along (fold_stretch sys f left t) (fold_stretch sys g left t) (turn_after sys t p event) (f.on_step s p event t x) (g.on_step s p event t (h x)) (goes.step s p event t x) (λ q z. stretch_along left t q z)

  opened_along : (steps : ℕ) (x : X) → h (fold_opened sys f steps x) ≡ fold_opened sys g steps (h x)
  unfolding fold_opened
  opened_along steps x = turn_along (fold_stretch sys f steps sys.start) (fold_stretch sys g steps sys.start) (turn_at sys sys.start false 0) x (h x) refl (λ q z. stretch_along steps sys.start q z)

  chosen_along : (steps : ℕ) (s : S) (p : ℕ) (x : X) → h (fold_chosen sys f steps s p x) ≡ fold_chosen sys g steps s p (h x)
  unfolding fold_chosen
  chosen_along steps s p x =
      let t = sys.admit s p in
      let turn = settled_turn sys t true p in
      either_along h (sys.is_pending s) (fold_turn (fold_stretch sys f steps t) turn (f.on_admission p t x)) (fold_stretch sys f steps s p x) (fold_turn (fold_stretch sys g steps t) turn (g.on_admission p t (h x))) (fold_stretch sys g steps s p (h x))
      (turn_along (fold_stretch sys f steps t) (fold_stretch sys g steps t) turn (f.on_admission p t x) (g.on_admission p t (h x)) (goes.admission p t x) (λ q z. stretch_along steps t q z))
      (stretch_along steps s p x)

  from_along : (steps choices : ℕ) (word : List ℕ) (node : Node S) (x : X) → h (fold_from sys f steps choices word node x) ≡ fold_from sys g steps choices word node (h x)
  unfolding fold_from
  from_along steps zero word (Halted kind s) x = refl
  from_along steps (suc choices) word (Halted kind s) x = refl
  from_along steps zero word (Choosing s) x = refl
  from_along steps (suc choices) [] (Choosing s) x = refl
  from_along steps (suc choices) (p ∷ word) (Choosing s) x =
      let node = chosen sys steps s p in
      let u = f.on_choice s p x in
      let v = g.on_choice s p (h x) in
      let taken = goes.choice s p x in
      either_along h (may sys s p) (fold_from sys f steps choices word node (fold_chosen sys f steps s p u)) u (fold_from sys g steps choices word node (fold_chosen sys g steps s p v)) v
      (from_along steps choices word node (fold_chosen sys f steps s p u) ∙ ap (fold_from sys g steps choices word node) (chosen_along steps s p u ∙ ap (fold_chosen sys g steps s p) taken))
      taken

  pub fold_along : (choices steps : ℕ) (word : List ℕ) (x : X) → h (fold_run sys f choices steps word x) ≡ fold_run sys g choices steps word (h x)
  fold_along choices steps word x = from_along steps choices word (opened sys steps) (fold_opened sys f steps x) ∙ ap (fold_from sys g steps choices word (opened sys steps)) (opened_along steps x)
