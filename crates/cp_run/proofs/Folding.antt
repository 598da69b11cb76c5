-- What a witness sees, step by step and choice by choice.
use Rattle.std.proofs.Common.{◌≡◌, ◌∙◌, ℕ, zero, suc, ◌-◌, ◌+◌, ◌<◌, List, [], ◌∷◌, true, false, if◌then◌else◌, ap, refl, sym, arith}
use Rattle.std.proofs.lemmas.Bool.{eqb-true}
use Rattle.cp_machine.specs.declared.event.Event.{Event}
use Rattle.cp_run.specs.declared.outcome.Halt.{Halt}
use Rattle.cp_run.specs.declared.outcome.OutcomeKind.{OutcomeKind}
use Rattle.cp_run.specs.declared.outcome.Halt.TheVariants.{Choice, Ended as HasEnded}
use Rattle.cp_run.specs.declared.outcome.Turn.{Turn}
use Rattle.cp_run.specs.Code.{node_of, is_over}
use Rattle.cp_run.specs.Run.{Node, Halted, Choosing, turn_after, turn_at, settled_turn, may, chosen}
use Rattle.cp_run.specs.System.{System}
use Rattle.cp_run.specs.Fold.{Fold, fold_turn, fold_stretch, fold_opened, fold_chosen, fold_from}

module _ {S X : Type 0} (sys : System S) (w : Fold S X) where
  one_step : (left : ℕ) (s : S) (p : ℕ) (x : X) → fold_stretch sys w (suc left) s p x ≡ fold_turn (fold_stretch sys w left (sys.step s p)) (turn_after sys (sys.step s p) p (sys.event s p)) (w.on_step s p (sys.event s p) (sys.step s p) x)
  unfolding fold_stretch
  one_step left s p x = refl

  moved : (left : ℕ) (s t : S) (p : ℕ) (event : Event) (turn : Turn) (x : X) → t ≡ sys.step s p → event ≡ sys.event s p → turn ≡ turn_after sys t p (sys.event s p) → fold_turn (fold_stretch sys w left (sys.step s p)) (turn_after sys (sys.step s p) p (sys.event s p)) (w.on_step s p (sys.event s p) (sys.step s p) x) ≡ fold_turn (fold_stretch sys w left t) turn (w.on_step s p event t x)
  moved left s t p event turn x e v h = rw (h, e, v) refl

  -- what is seen so far and what is to come, one step further
  pub fold_further : (steps made : ℕ) (s t : S) (p : ℕ) (event : Event) (turn : Turn) (whole x y : X) → made < steps → t ≡ sys.step s p → event ≡ sys.event s p → turn ≡ turn_after sys t p (sys.event s p) → whole ≡ fold_stretch sys w (steps - made) s p x → y ≡ w.on_step s p event t x → whole ≡ fold_turn (fold_stretch sys w (steps - (made + 1)) t) turn y
  fold_further steps made s t p event turn whole x y lt e v h is more =
      let n : steps - made ≡ suc (steps - (made + 1)) = omega (arith, lt) in
      is ∙ ap (λ k. fold_stretch sys w k s p x) n ∙ one_step (steps - (made + 1)) s p x ∙ moved (steps - (made + 1)) s t p event turn x e v h ∙ ap (fold_turn (fold_stretch sys w (steps - (made + 1)) t) turn) (sym more)

  pub fold_used_up : (left : ℕ) (s : S) (p : ℕ) (x : X) → left ≡ 0 → fold_stretch sys w left s p x ≡ x
  unfolding fold_stretch
  fold_used_up left s p x e = ap (λ k. fold_stretch sys w k s p x) e

  pub fold_opened_at : (steps : ℕ) (s : S) (turn : Turn) (x : X) → s ≡ sys.start → turn ≡ turn_at sys s false 0 → fold_opened sys w steps x ≡ fold_turn (fold_stretch sys w steps s) turn x
  unfolding fold_opened
  fold_opened_at steps s turn x at is = rw (is, at) refl

  pub fold_chosen_free : (steps : ℕ) (s : S) (p : ℕ) (x : X) → sys.is_pending s ≡ false → fold_chosen sys w steps s p x ≡ fold_stretch sys w steps s p x
  unfolding fold_chosen
  fold_chosen_free steps s p x e = rw e refl

  pub fold_chosen_gate : (steps : ℕ) (s t : S) (p : ℕ) (turn : Turn) (x y : X) → sys.is_pending s ≡ true → t ≡ sys.admit s p → turn ≡ settled_turn sys t true p → y ≡ w.on_admission p t x → fold_chosen sys w steps s p x ≡ fold_turn (fold_stretch sys w steps t) turn y
  unfolding fold_chosen
  fold_chosen_gate steps s t p turn x y e at is more = rw (e, more, is, at) refl

  -- an ended run shows no more
  pub fold_over : (steps k : ℕ) (word : List ℕ) (h : Halt OutcomeKind) (s : S) (x : X) → is_over k h ≡ true → fold_from sys w steps k word (node_of h s) x ≡ x
  unfolding fold_from
  fold_over steps zero word Choice s x e = refl
  fold_over steps (suc k) word Choice s x e = absurd (omega (arith, eqb-true (suc k) 0 e))
  fold_over steps zero word (HasEnded kind) s x e = refl
  fold_over steps (suc k) word (HasEnded kind) s x e = refl

  pub fold_no_word : (steps k : ℕ) (word : List ℕ) (node : Node S) (x : X) → word ≡ [] → fold_from sys w steps k word node x ≡ x
  unfolding fold_from
  fold_no_word steps zero word (Halted kind s) x e = refl
  fold_no_word steps (suc k) word (Halted kind s) x e = refl
  fold_no_word steps zero word (Choosing s) x e = refl
  fold_no_word steps (suc k) word (Choosing s) x e = ap (λ v. fold_from sys w steps (suc k) v (Choosing s) x) e

  pub fold_refused : (steps k j p : ℕ) (word rest : List ℕ) (s : S) (x : X) → k ≡ j + 1 → word ≡ p ∷ rest → may sys s p ≡ false → fold_from sys w steps k word (Choosing s) x ≡ w.on_choice s p x
  unfolding fold_from
  fold_refused steps k j p word rest s x h e off =
      let m : k ≡ suc j = omega (arith, h) in
      ap (λ i. fold_from sys w steps i word (Choosing s) x) m ∙ ap (λ v. fold_from sys w steps (suc j) v (Choosing s) x) e ∙ ap (λ b. if b then fold_from sys w steps j rest (chosen sys steps s p) (fold_chosen sys w steps s p (w.on_choice s p x)) else w.on_choice s p x) off

  pub fold_chosen_further : (steps k j p : ℕ) (word rest : List ℕ) (s : S) (x : X) → k ≡ j + 1 → word ≡ p ∷ rest → may sys s p ≡ true → fold_from sys w steps k word (Choosing s) x ≡ fold_from sys w steps j rest (chosen sys steps s p) (fold_chosen sys w steps s p (w.on_choice s p x))
  unfolding fold_from
  fold_chosen_further steps k j p word rest s x h e on =
      let m : k ≡ suc j = omega (arith, h) in
      ap (λ i. fold_from sys w steps i word (Choosing s) x) m ∙ ap (λ v. fold_from sys w steps (suc j) v (Choosing s) x) e ∙ ap (λ b. if b then fold_from sys w steps j rest (chosen sys steps s p) (fold_chosen sys w steps s p (w.on_choice s p x)) else w.on_choice s p x) on
