-- What goes on for ever on slots does so on the program's own names.
use Rattle.cp_ends.proofs.Vocabulary.{◌≡◌, inl, inr, ◌∙◌, ℕ, zero, suc, List, Some, sym, ap, subst, Tree, IsRead, plain, laid, Tables, IsAccepted, Machine, Event}
use Rattle.cp_ends.proofs.Vocabulary.{slots, System, Choosing, opened, from_there}
use Rattle.cp_meaning.specs.State.{Discipline, State}
use Rattle.cp_resolved.specs.TreeLayouts.{layouts_of}
use Rattle.cp_machine_laws.specs.InStep.{CanGo, GoInStep}
use Rattle.cp_machine_laws.specs.Law.{Simulates}
use Rattle.cp_machine_laws.specs.Named.{named, discipline_of}
use Rattle.cp_machine_laws.proofs.Forgetting.{forgets}
use Rattle.cp_machine_laws.proofs.Meaning.{goes_in_step}
use Rattle.cp_endless_laws.specs.Repeats.{IsKernelCall}
use Rattle.cp_endless_laws.specs.Rounds.{SetsOut, chosen_spot, opening_spot, spot_after}
use Rattle.cp_endless_laws.specs.Silent.{named_without_output, silent_named, silent_slots, without_output}
use Rattle.cp_endless_laws.specs.Standstill.{GoesOn}
use Rattle.cp_endless_laws.proofs.names.Going.{in_choices, silent_in_step}
use Rattle.cp_endless_laws.proofs.names.Meant.{leaves}
use Rattle.cp_endless_laws.proofs.names.Together.{ChoicesAlike, after_there, choosing_alike, turned}
use Rattle.cp_ends.specs.ForEver.{GoesOnForEver, IsAloneForEver, SpinsForEver, CallsIn}
use Rattle.cp_ends.proofs.words.Edges.{some_same}
use Rattle.cp_endless_laws.proofs.names.WaitTogether.{plus as one_more_step, spot_there}

-- where two systems are alike from choice to choice, and steps tell the same
module _ {S T : Type 0} (a : System S) (b : System T) (steps : ℕ) (R : S → T → Type 0) (V : S → T → ℕ → Type 0) (h : ChoicesAlike a b steps R V) (tells : (s : S) (t : T) (p : ℕ) → V s t p → a.event s p ≡ b.event t p) where
  sets_out_there : (word : List ℕ) (s : S) (p : ℕ) → SetsOut a steps word s p → (t : T) × SetsOut b steps word t p × V s t p
  sets_out_there word s p (inl x) = let y = spot_there V s p (opening_spot a) (opening_spot b) x.1 h.spots_first in (y.0, inl (x.0, y.1), y.2)
  sets_out_there word s p (inr x) =
      let l = after_there a b steps R V h x.0 (opened a steps) (Choosing x.2) (opened b steps) h.begins x.4 in
      let c = choosing_alike R x.2 l.0 l.2 in
      let y = spot_there V s p (chosen_spot a x.2 x.1) (chosen_spot b c.0 x.1) x.6 (h.spots_then x.2 c.0 x.1 c.2 x.5) in
      (y.0, inr (x.0, x.1, c.0, x.3, l.1 ∙ ap Some c.1, sym (h.same x.2 c.0 x.1 c.2) ∙ x.5, y.1), y.2)

  module _ (s : S) (p : ℕ) (t : T) (v : V s t p) (state : ℕ → S) (mover : ℕ → ℕ) (goes : GoesOn a s p state mover) where
    one_more : (n : ℕ) → spot_after a 1 (state n) (mover n) ≡ Some (state (suc n), mover (suc n))
    one_more n = sym (from_there a n 1 s p (state n) (mover n) (goes n)) ∙ ap (λ i. spot_after a i s p) (one_more_step n) ∙ goes (suc n)

    abbrev stands : (n : ℕ) → (u : T) × V (state n) u (mover n) × (spot_after b n t p ≡ Some (u, mover n))
    stands zero = let e = some_same (s, p) (state 0, mover 0) (goes 0) in (t, subst (λ (z : S × ℕ). V z.0 t z.1) e v, ap (λ (z : S × ℕ). Some (t, z.1)) e)
    stands (suc n) =
        let r = stands n in
        let y = spot_there V (state (suc n)) (mover (suc n)) (spot_after a 1 (state n) (mover n)) (spot_after b 1 r.0 (mover n)) (one_more n) (h.spots_on (state n) r.0 (mover n) r.1) in
        (y.0, y.2, ap (λ i. spot_after b i t p) (sym (one_more_step n)) ∙ from_there b n 1 t p r.0 (mover n) r.2 ∙ y.1)

  module _ (word : List ℕ) (q : ℕ) (x : GoesOnForEver a steps word q) where
    abbrev out : (t : T) × SetsOut b steps word t x.first × V x.begin t x.first
    out = sets_out_there word x.begin x.first x.sets_out

    abbrev there : (n : ℕ) → (u : T) × V (x.state n) u (x.mover n) × (spot_after b n out.0 x.first ≡ Some (u, x.mover n))
    there n = stands x.begin x.first out.0 out.2 x.state x.mover x.goes n

    goes_there : GoesOnForEver b steps word q
    goes_there = record { begin = out.0; first = x.first; sets_out = out.1; state = λ n. (there n).0; mover = x.mover; goes = λ n. (there n).2; is = x.is }

    calls_there : (n : ℕ) → CallsIn x n → CallsIn goes_there n
    unfolding goes_there
    calls_there n c = subst (λ (e : Event). IsKernelCall e) (tells (x.state n) (there n).0 (x.mover n) (there n).1) c

    calls_back : (n : ℕ) → CallsIn goes_there n → CallsIn x n
    unfolding goes_there
    calls_back n c = subst (λ (e : Event). IsKernelCall e) (sym (tells (x.state n) (there n).0 (x.mover n) (there n).1)) c

  alone_there : (word : List ℕ) (q : ℕ) → IsAloneForEver a steps word q → IsAloneForEver b steps word q
  alone_there word q (x, calls) = (goes_there word q x, λ n. (let c = calls n in (c.0, c.1, calls_there word q x c.0 c.2)))

  spins_there : (word : List ℕ) (q : ℕ) → SpinsForEver a steps word q → SpinsForEver b steps word q
  spins_there word q (x, calls_none) = (goes_there word q x, λ n le c. calls_none n le (calls_back word q x n c))

-- ---- from slots to names

module _ (t : Tree) (r : Tables) (g : Discipline) (read : IsRead t.program) (ok : IsAccepted t) (same : plain r ≡ laid t) (steps : ℕ) where
  abbrev R : State → Machine → Type 0
  R = Simulates t r (layouts_of t) g

  go : GoInStep (named t g) (slots r (discipline_of g)) R
  go = goes_in_step t r g read ok same

  keeps : (s : State) (m : Machine) → R s m → R (named_without_output s) (without_output m)
  keeps s m h = forgets t r (layouts_of t) g s m h

  abbrev a : System State
  a = silent_named t g

  abbrev b : System Machine
  b = silent_slots r (discipline_of g)

  silent : GoInStep a b R
  silent = silent_in_step (named t g) (slots r (discipline_of g)) R go named_without_output without_output keeps (leaves t g)

  abbrev V : State → Machine → ℕ → Type 0
  V s m p = R s m × CanGo a s p

  alike : ChoicesAlike b a steps (λ m s. R s m) (λ m s p. V s m p)
  alike = turned a b steps R V (in_choices a b R silent steps)

  tells : (m : Machine) (s : State) (p : ℕ) → V s m p → b.event m p ≡ a.event s p
  tells m s p v = sym (silent.event s m p v.0 v.1)

  pub alone_named : (word : List ℕ) (q : ℕ) → IsAloneForEver b steps word q → IsAloneForEver a steps word q
  alone_named word q x = alone_there b a steps (λ m s. R s m) (λ m s p. V s m p) alike tells word q x

  pub spins_named : (word : List ℕ) (q : ℕ) → SpinsForEver b steps word q → SpinsForEver a steps word q
  spins_named word q x = spins_there b a steps (λ m s. R s m) (λ m s p. V s m p) alike tells word q x
