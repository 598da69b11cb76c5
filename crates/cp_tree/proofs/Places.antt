-- A place in a list, and the list that is left there.
use Rattle.std.proofs.Common.{◌≡◌, ℕ, zero, suc, ◌+◌, ◌<◌, ◌≤◌, List, [], ◌∷◌, length, drop, refl, ap, arith, ◌∙◌, sym}
use Rattle.std.specs.Prelude.{slice_get}
use Rattle.cp_text.specs.declared.token.Kind.{Kind}
use Rattle.std.proofs.lemmas.List.{length-map}
use Rattle.cp_text.specs.declared.token.Token.{Token}
use Rattle.cp_text.specs.Kinds.{kinds}
use Rattle.cp_text.specs.Reading.{AreOfText}
use Rattle.cp_tree.specs.Input.{Input, first, move}

pub first_drop : (ks : List Kind) (at : ℕ) → slice_get ks at ≡ first (drop at ks)
first_drop [] zero = refl
first_drop [] (suc at) = refl
first_drop (k ∷ ks) zero = refl
first_drop (k ∷ ks) (suc at) = first_drop ks at

rest_moves : (ks : List Kind) (at n : ℕ) → at < length ks → move n (drop at ks) ≡ record { at = n + 1; rest = drop (suc at) ks }
rest_moves [] at n h = absurd (omega arith)
rest_moves (k ∷ ks) zero n h = refl
rest_moves (k ∷ ks) (suc at) n h = rest_moves ks at n (omega arith)

moves_of : (ks : List Kind) (at : ℕ) → at < length ks → move at (drop at ks) ≡ record { at = at + 1; rest = drop (at + 1) ks }
moves_of ks at h = let e : suc at ≡ at + 1 = omega arith in rw (← e) (rest_moves ks at at h ∙ ap (λ (n : ℕ). let r : Input = record { at = n; rest = drop (suc at) ks } in r) (sym e))

rest_stays : (ks : List Kind) (at n : ℕ) → length ks ≤ at → move n (drop at ks) ≡ record { at = n; rest = drop at ks }
rest_stays [] zero n h = refl
rest_stays [] (suc at) n h = refl
rest_stays (k ∷ ks) zero n h = absurd (omega arith)
rest_stays (k ∷ ks) (suc at) n h = rest_stays ks at n (omega arith)

pub stays : (ks : List Kind) (at : ℕ) → length ks ≤ at → move at (drop at ks) ≡ record { at = at; rest = drop at ks }
stays ks at h = rest_stays ks at at h

pub moves : (ts : List Token) (at : ℕ) → at < length ts → move at (drop at (kinds ts)) ≡ record { at = at + 1; rest = drop (at + 1) (kinds ts) }
moves ts at h = moves_of (kinds ts) at (rw length-map h)

pub few_tokens : (ts : List Token) → AreOfText ts → length ts ≤ 20000
few_tokens ts text = text.reads.reads.few
