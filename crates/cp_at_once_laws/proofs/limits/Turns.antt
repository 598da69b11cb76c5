-- What comes before the next step, where no monitor is pending.
use Rattle.std.proofs.Common.{◌≡◌, ◌⊎◌, inl, inr, ◌∙◌, ℕ, zero, suc, ◌<◌, Bool, true, false, if◌then◌else◌, List, [], ◌∷◌, ◌++◌, ap, sym, refl, subst, arith}
use Rattle.cp_at_once_laws.proofs.Words.{Event, Turn, Over, Due, Goes, Finished, AllWaiting, System, is_call, Local, Kernel, Ended}
use Rattle.cp_run.specs.Run.{those_below, turn_among, settled_turn, turn_at, turn_after}
use Rattle.cp_machine_laws.proofs.Turns.{Every, those_may}

-- ---- who is among the numbers below a count

abbrev pub Has : ℕ → List ℕ → Type 0
Has p [] = ⊥
Has p (x ∷ xs) = (p ≡ x) ⊎ Has p xs

has_left : (p : ℕ) (xs ys : List ℕ) → Has p xs → Has p (xs ++ ys)
has_left p [] ys h = absurd h
has_left p (x ∷ xs) ys (inl e) = inl e
has_left p (x ∷ xs) ys (inr h) = inr (has_left p xs ys h)

has_right : (p : ℕ) (xs ys : List ℕ) → Has p ys → Has p (xs ++ ys)
has_right p [] ys h = h
has_right p (x ∷ xs) ys h = inr (has_right p xs ys h)

less_or_last : (p n : ℕ) → p < suc n → (p < n) ⊎ (p ≡ n)
less_or_last zero zero less = inr refl
less_or_last zero (suc n) less = inl (omega arith)
less_or_last (suc p) zero less = absurd (omega (arith, less))
less_or_last (suc p) (suc n) less = go (less_or_last p n (omega (arith, less)))
  where
    go : (p < n) ⊎ (p ≡ n) → (suc p < suc n) ⊎ (suc p ≡ suc n)
    go (inl l) = inl (omega (arith, l))
    go (inr e) = inr (ap suc e)

one_has : (p : ℕ) (b : Bool) → b ≡ true → Has p (if b then p ∷ [] else [])
one_has p true e = inl refl
one_has p false e = absurd cc

pub has_below : (n : ℕ) (f : ℕ → Bool) (p : ℕ) → p < n → f p ≡ true → Has p (those_below n f)
has_below zero f p less e = absurd (omega (arith, less))
has_below (suc n) f p less e = go (less_or_last p n less) (λ l. has_below n f p l e)
  where
    go : (p < n) ⊎ (p ≡ n) → (p < n → Has p (those_below n f)) → Has p (those_below (suc n) f)
    go (inl l) before = has_left p (those_below n f) (if f n then n ∷ [] else []) (before l)
    go (inr is) before = has_right p (those_below n f) (if f n then n ∷ [] else []) (subst (λ k. Has k (if f n then n ∷ [] else [])) (sym is) (one_has n (f n) (ap f (sym is) ∙ e)))

-- ---- turns

module _ {S : Type 0} (sys : System S) where
  abbrev pub ready_in : S → List ℕ
  ready_in s = those_below sys.processes (sys.is_ready s)

  pub free_turn : (s : S) (kernel : Bool) (p : ℕ) → sys.is_pending s ≡ false → turn_at sys s kernel p ≡ settled_turn sys s kernel p
  free_turn s kernel p e = ap (λ (b : Bool). if b then Due else settled_turn sys s kernel p) e

  -- after a local step the process goes on, if it is ready
  pub local_turn : (s : S) (p : ℕ) → sys.is_pending s ≡ false → p < sys.processes → sys.is_ready s p ≡ true → turn_after sys s p Local ≡ Goes p
  local_turn s p free less ready = free_turn s false p free ∙ go (ready_in s) (has_below sys.processes (sys.is_ready s) p less ready)
    where
      go : (xs : List ℕ) → Has p xs → turn_among sys s false p xs ≡ Goes p
      go [] h = absurd h
      go (x ∷ []) (inl e) = ap Goes (sym e)
      go (x ∷ []) (inr h) = absurd h
      go (x ∷ y ∷ xs) h = refl

  pub call_turn : (s : S) (p : ℕ) (e : Event) → sys.is_pending s ≡ false → is_call e ≡ true → turn_after sys s p e ≡ settled_turn sys s true p
  call_turn s p (Kernel call) free h = free_turn s true p free
  call_turn s p Ended free h = free_turn s true p free
  call_turn s p x free h = absurd cc

  -- after a call: nobody is ready, one alone, or a choice is due
  pub data CallTurn (s : S) (p : ℕ) : Turn → Type 0 where
    nobody : ready_in s ≡ [] → CallTurn s p (if sys.waits s then Over AllWaiting else Over Finished)
    alone : (q : ℕ) → ready_in s ≡ q ∷ [] → CallTurn s p (Goes q)
    choice : (q r : ℕ) (xs : List ℕ) → ready_in s ≡ q ∷ r ∷ xs → CallTurn s p Due

  pub which_turn : (s : S) (p : ℕ) → CallTurn s p (settled_turn sys s true p)
  which_turn s p = go (ready_in s) refl
    where
      go : (xs : List ℕ) → ready_in s ≡ xs → CallTurn s p (turn_among sys s true p xs)
      go [] e = nobody e
      go (q ∷ []) e = alone q e
      go (q ∷ r ∷ xs) e = choice q r xs e

  pub none_ready : (s : S) (p : ℕ) → ready_in s ≡ [] → p < sys.processes → sys.is_ready s p ≡ true → ⊥
  none_ready s p e less ready = subst (Has p) e (has_below sys.processes (sys.is_ready s) p less ready)

  pub one_ready : (s : S) (p q : ℕ) → ready_in s ≡ q ∷ [] → p < sys.processes → sys.is_ready s p ≡ true → p ≡ q
  one_ready s p q e less ready = go (subst (Has p) e (has_below sys.processes (sys.is_ready s) p less ready))
    where
      go : Has p (q ∷ []) → p ≡ q
      go (inl is) = is
      go (inr h) = absurd h

  -- who stands first among them is ready
  pub head_ready : (s : S) (q : ℕ) (xs : List ℕ) → ready_in s ≡ q ∷ xs → (q < sys.processes) × (sys.is_ready s q ≡ true)
  head_ready s q xs e = (subst (Every (λ p. (p < sys.processes) × (sys.is_ready s p ≡ true))) e (those_may sys.processes (sys.is_ready s))).0
