-- What a stretch that was cut arrives at: an end at the limit of steps, or its round.
use Rattle.std.proofs.Common.{◌≡◌, ◌≢◌, ◌⊎◌, inl, inr, ⊎_elim, ◌∙◌, ◌<◌, ℕ, zero, suc, Bool, true, false, ◌&&◌, ◌||◌, ◌==◌, eqb, if◌then◌else◌, List, [], ◌∷◌, ◌++◌, Option, None, Some, refl, sym, ap, subst, arith}
use Rattle.cp_ends.proofs.Vocabulary.{Each, Event, Shown, StepLimit, Turn, System, Halted, node_at, turn_after, stretch, each, forgetting_system, Moment, AnyOf}
use Rattle.cp_ends.proofs.Vocabulary.{stretch_moments, spot_after, spot_by, shown_at, End, Arrival, Alone, Spins}
use Rattle.std.proofs.lemmas.Bool.{cases_order, eq-eqb}
use Rattle.std.proofs.lemmas.Bool.Decides.{eqb_tells}
use Rattle.cp_machine.specs.declared.event.Event.TheVariants.{Kernel}
use Rattle.cp_run.specs.declared.outcome.Turn.TheVariants as turn
use Rattle.cp_endless_laws.specs.Repeats.{CallsAt, IsKernelCall, Repeats, repeated_part}
use Rattle.cp_ends.specs.Arrivals.{return_at, first_return, return_within, is_call, has_call, cut_arrival, goal_of, stretch_by, stretch_arrival, arrival_by}
use Rattle.cp_ends.specs.declared.end.End as code
use Rattle.cp_ends.proofs.words.Edges.{some_same, edge_node, edge_spot, edge_shown}

pub pair : {A B : Type 0} (a b : A) (x y : B) → a ≡ b → x ≡ y → (◌≡◌ {A = A × B}) (a, x) (b, y)
pair a b x y e f = cc

pub number : (a b : ℕ) → (a == b) ≡ true → a ≡ b
number a b e = ⊎_elim (λ (t : (eqb a b ≡ true) × (a ≡ b)). t.1) (λ (t : (eqb a b ≡ false) × (a ≢ b)). absurd (differ (sym e ∙ t.0))) (eqb_tells a b)
  where
    differ : true ≡ false → ⊥
    differ e = cc

-- ---- kernel calls

call_is : (e : Event) → is_call e ≡ true → IsKernelCall e
call_is (Kernel call) is = tt
call_is x is = absurd (cc)

call_is_none : (e : Event) → is_call e ≡ false → IsKernelCall e → ⊥
call_is_none (Kernel call) is k = cc
call_is_none _ is k = k

module _ {S : Type 0} (sys : System S) where
  pub has_calls : (ms : List (Moment S)) → has_call sys ms ≡ true → AnyOf (CallsAt sys) ms
  has_calls [] h = absurd (cc)
  has_calls (m ∷ ms) h = by (is_call (sys.event m.state m.mover)) refl h (λ k. has_calls ms k)
    where
      by : (b : Bool) → is_call (sys.event m.state m.mover) ≡ b → (b || has_call sys ms) ≡ true → (has_call sys ms ≡ true → AnyOf (CallsAt sys) ms) → AnyOf (CallsAt sys) (m ∷ ms)
      by true e h on = inl (call_is (sys.event m.state m.mover) e)
      by false e h on = inr (on h)

  pub has_no_calls : (ms : List (Moment S)) → has_call sys ms ≡ false → Each (λ m. CallsAt sys m → ⊥) ms
  has_no_calls [] h = tt
  has_no_calls (m ∷ ms) h = by (is_call (sys.event m.state m.mover)) refl h (λ k. has_no_calls ms k)
    where
      by : (b : Bool) → is_call (sys.event m.state m.mover) ≡ b → (b || has_call sys ms) ≡ false → (has_call sys ms ≡ false → Each (λ x. CallsAt sys x → ⊥) ms) → Each (λ x. CallsAt sys x → ⊥) (m ∷ ms)
      by true e h on = absurd (cc)
      by false e h on = (call_is_none (sys.event m.state m.mover) e, on h)

  -- ---- a stretch that goes on is cut where it stands

  pub cut_there : (n : ℕ) (s : S) (p : ℕ) (t : S) (q : ℕ) → spot_after sys n s p ≡ Some (t, q) → stretch sys n s p ≡ Halted StepLimit t
  unfolding stretch
  cut_there zero s p t q e = ap (λ (x : S × ℕ). Halted StepLimit x.0) (some_same (s, p) (t, q) e)
  cut_there (suc n) s p t q e = by (turn_after sys (sys.step s p) p (sys.event s p)) e (λ r d. cut_there n (sys.step s p) r t q d)
    where
      by : (u : Turn) → spot_by (sys.step s p) (spot_after sys n (sys.step s p)) u ≡ Some (t, q) → ((r : ℕ) → spot_after sys n (sys.step s p) r ≡ Some (t, q) → stretch sys n (sys.step s p) r ≡ Halted StepLimit t) → node_at (sys.step s p) (stretch sys n (sys.step s p)) u ≡ Halted StepLimit t
      by (turn.Over kind) e on = absurd (cc)
      by turn.Due e on = absurd (cc)
      by (turn.Goes r) e on = on r e

  -- ---- the first return

  module _ (eq : S → S → Bool) (same : (s t : S) → eq s t ≡ true → s ≡ t) (self : (s : S) → eq s s ≡ true) (s : S) (p : ℕ) where
    returned : (o : Option (S × ℕ)) → return_at eq s p o ≡ true → o ≡ Some (s, p)
    returned None h = absurd (cc)
    returned (Some (t, q)) h = by (q == p) refl (eq t s) refl h
      where
        by : (a : Bool) → (q == p) ≡ a → (b : Bool) → eq t s ≡ b → (a && b) ≡ true → (◌≡◌ {A = Option (S × ℕ)}) (Some (t, q)) (Some (s, p))
        by true e true f h = ap (λ (x : S × ℕ). Some x) (pair t s q p (same t s f) (number q p e))
        by true e false f h = absurd (cc)
        by false e b f h = absurd (cc)

    returns_so : (o : Option (S × ℕ)) → o ≡ Some (s, p) → return_at eq s p o ≡ true
    returns_so o e = ap (return_at eq s p) e ∙ ap (λ b. b && eq s s) (eq-eqb p p refl) ∙ self s

    abbrev Returns : ℕ → Type 0
    Returns n = spot_after sys (suc n) s p ≡ Some (s, p)

    abbrev pub IsFound : ℕ → Option ℕ → Type 0
    IsFound m None = (k : ℕ) → k < m → Returns k → ⊥
    IsFound m (Some n) = (n < m) × Returns n

    pub return_found : (m : ℕ) → IsFound m (return_within sys eq s p m)
    unfolding return_within
    return_found zero = λ k less r. omega (arith, less)
    return_found (suc m) = by (return_within sys eq s p m) (return_found m) (return_at eq s p (spot_after sys (suc m) s p)) refl
      where
        by : (o : Option ℕ) → IsFound m o → (b : Bool) → return_at eq s p (spot_after sys (suc m) s p) ≡ b → IsFound (suc m) (first_return o b m)
        by (Some n) f b e = (let l = f.0 in omega (arith, l), f.1)
        by None f true e = (omega arith, returned (spot_after sys (suc m) s p) e)
        by None f false e = λ k less r. ⊎_elim
            (λ (is : k ≡ m). last k is r)
            (λ (apart : (k < m) ⊎ (m < k)). ⊎_elim (λ (l : k < m). f k l r) (λ (l : m < k). absurd (omega (arith, less, l))) apart)
            (cases_order k m)
          where
            differ : true ≡ false → ⊥
            differ e = cc

            last : (k : ℕ) → k ≡ m → Returns k → ⊥
            last k is r = differ (sym (returns_so (spot_after sys (suc m) s p) (ap (λ i. spot_after sys (suc i) s p) (sym is) ∙ r)) ∙ e)

-- ---- where the edge arrives

abbrev pub alone_or_spins : Bool → ℕ → code.End
alone_or_spins b q = if b then Alone q else Spins q

module _ {S : Type 0} (sys : System S) (forget : S → S) (eq : S → S → Bool) (steps : ℕ) where
  abbrev quiet : System S
  quiet = forgetting_system sys forget

  abbrev pub edge_arrival : S × Turn → Arrival S code.End Shown
  edge_arrival e = arrival_by e.0 (stretch_arrival sys forget eq steps e.0) e.1

  -- its stretch does not come again
  pub record ComesToNode (e : S × Turn) : Type 0 where
    pub repeats_none : (s : S) (p : ℕ) → edge_spot quiet e ≡ Some (s, p) → Repeats quiet steps s p → ⊥
    pub goal : (edge_arrival e).goal ≡ goal_of (edge_node quiet steps e)
    pub shown : (edge_arrival e).shown ≡ edge_shown sys forget steps e

  -- its stretch comes again
  pub record ComesAgain (e : S × Turn) : Type 0 where
    pub begin : S
    pub first : ℕ
    pub spot : edge_spot quiet e ≡ Some (begin, first)
    pub repeats : Repeats quiet steps begin first
    pub cut : edge_node quiet steps e ≡ Halted StepLimit repeats.state
    pub goal : (edge_arrival e).goal ≡ End (alone_or_spins (has_call quiet (repeated_part repeats)) repeats.process)
    pub shown : (edge_arrival e).shown ≡ edge_shown sys forget steps e ++ each (shown_at sys) (repeated_part repeats)

  module _ (same : (s t : S) → eq s t ≡ true → s ≡ t) (self : (s : S) → eq s s ≡ true) where
    none_some : (x : S × ℕ) → None ≡ Some x → ⊥
    none_some x e = cc

    -- ---- of a stretch, by where it stands after as many steps as the limit

    module _ (s : S) (p : ℕ) where
      abbrev told : List Shown
      told = each (shown_at sys) (stretch_moments quiet steps s p)

      abbrev Plainly : Arrival S code.End Shown → Type 0
      Plainly a = (Repeats quiet steps s p → ⊥) × (a.goal ≡ goal_of (stretch quiet steps s p)) × (a.shown ≡ told)

      abbrev Again : Arrival S code.End Shown → Type 0
      Again a =
          (r : Repeats quiet steps s p) × (stretch quiet steps s p ≡ Halted StepLimit r.state) ×
          (a.goal ≡ End (alone_or_spins (has_call quiet (repeated_part r)) r.process)) × (a.shown ≡ told ++ each (shown_at sys) (repeated_part r))

      by_return : (t : S) (q : ℕ) → spot_after quiet steps s p ≡ Some (t, q) → (o : Option ℕ) → IsFound quiet eq same self t q steps o → Plainly (cut_arrival sys quiet told t q o) ⊎ Again (cut_arrival sys quiet told t q o)
      by_return t q e None f = inl (no_return, sym (ap goal_of (cut_there quiet steps s p t q e)), refl)
        where
          no_return : Repeats quiet steps s p → ⊥
          no_return r = f r.after r.soon (subst (λ (x : S × ℕ). spot_after quiet (suc r.after) x.0 x.1 ≡ Some x) (some_same (r.state, r.process) (t, q) (sym r.comes ∙ e)) r.returns)
      by_return t q e (Some n) f = inr (record { state = t; process = q; comes = e; after = n; soon = f.0; returns = f.1 }, cut_there quiet steps s p t q e, refl, refl)

      by_spot : (o : Option (S × ℕ)) → spot_after quiet steps s p ≡ o → Plainly (stretch_by sys quiet eq steps s p told o) ⊎ Again (stretch_by sys quiet eq steps s p told o)
      by_spot None e = inl (λ r. none_some (r.state, r.process) (sym e ∙ r.comes), refl, refl)
      by_spot (Some (t, q)) e = by_return t q e (return_within quiet eq t q steps) (return_found quiet eq same self t q steps)

      stretch_comes : Plainly (stretch_arrival sys forget eq steps s p) ⊎ Again (stretch_arrival sys forget eq steps s p)
      unfolding stretch_arrival
      stretch_comes = by_spot (spot_after quiet steps s p) refl

    -- ---- of an edge

    pub edge_comes : (e : S × Turn) → ComesToNode e ⊎ ComesAgain e
    edge_comes (s, turn.Goes p) = by (stretch_comes s p)
      where
        by : Plainly s p (stretch_arrival sys forget eq steps s p) ⊎ Again s p (stretch_arrival sys forget eq steps s p) → ComesToNode (s, turn.Goes p) ⊎ ComesAgain (s, turn.Goes p)
        by (inl x) = inl (record { repeats_none = λ t q spot r. x.0 (subst (λ (y : S × ℕ). Repeats quiet steps y.0 y.1) (sym (some_same (s, p) (t, q) spot)) r); goal = x.1; shown = x.2 })
        by (inr x) = inr (record { begin = s; first = p; spot = refl; repeats = x.0; cut = x.1; goal = x.2; shown = x.3 })
    edge_comes _ = inl (record { repeats_none = λ t q spot r. none_some (t, q) spot; goal = refl; shown = refl })
