-- Who makes every step of a stretch that goes on for ever, and calls again and again, is alone.
use Rattle.std.proofs.Common.{◌≡◌, ◌≢◌, ◌⊎◌, inl, inr, ◌∙◌, ◌+◌, ◌≤◌, ℕ, zero, suc, Bool, true, false, if◌then◌else◌, [], Some, ap, sym, refl, subst, arith}
use Rattle.cp_at_once_laws.proofs.Words.{Event, Turn, Over, Due, Goes, System, settled_turn, turn_after, IsKernelCall, spot_after, spot_by, from_there}
use Rattle.cp_at_once_laws.proofs.Words.{is_call, after_steps, Commutes, IsPlain, some_same, distance, same_or_not, Local, Kernel}
use Rattle.cp_at_once_laws.proofs.limits.Meeting.{GoesAlone}
use Rattle.cp_at_once_laws.proofs.limits.Turns.{CallTurn, nobody, alone, choice, call_turn, which_turn, none_ready, one_ready, head_ready}
use Rattle.cp_at_once_laws.proofs.limits.Words.{EventKind, is_local, is_kernel, is_stop, which_event, stop_turn}

module _ {S : Type 0} (sys : System S) (Met : S → Type 0) (Quiet : S → ℕ → Type 0) (law : Commutes sys Met Quiet) (plain : IsPlain sys Met) where
  -- the next step is one of q
  abbrev NextIs : S → ℕ → Type 0
  NextIs s q = turn_after sys (sys.step s q) q (sys.event s q) ≡ Goes q

  -- so it is ready for it, and its step is local or a call
  next_ready : (s : S) (q : ℕ) → Met s → sys.is_ready s q ≡ true → NextIs s q → sys.is_ready (sys.step s q) q ≡ true
  next_ready s q met ready next = go (sys.event s q) refl (which_event (sys.event s q))
    where
      t : S
      t = sys.step s q

      by : (turn : Turn) → CallTurn sys t q turn → turn ≡ Goes q → sys.is_ready t q ≡ true
      by _ (nobody none) e = over (sys.waits t) e
        where
          over : (w : Bool) → (if w then Over Rattle.cp_run.specs.declared.outcome.OutcomeKind.TheVariants.AllWaiting else Over Rattle.cp_run.specs.declared.outcome.OutcomeKind.TheVariants.Finished) ≡ Goes q → sys.is_ready t q ≡ true
          over true e = absurd cc
          over false e = absurd cc
      by _ (alone r one) e = (let is : r ≡ q = cc in subst (λ x. sys.is_ready t x ≡ true) is (head_ready sys t r [] one).1)
      by _ (choice r x xs more) e = absurd cc

      go : (e : Event) → sys.event s q ≡ e → EventKind e → sys.is_ready t q ≡ true
      go _ e is_local = law.goes_on s q met ready e
      go _ e (is_kernel x h) = by (settled_turn sys t true q) (which_turn sys t q) (sym (call_turn sys t q (sys.event s q) (plain.free t (law.kept s q met ready)) (ap is_call e ∙ h)) ∙ next)
      go x e (is_stop y kind h) = absurd (let bad : Over kind ≡ Goes q = sym (ap (turn_after sys t q) e ∙ stop_turn sys t q x kind h) ∙ next in cc)

  next_lives : (s : S) (q : ℕ) → NextIs s q → (sys.event s q ≡ Local) ⊎ (is_call (sys.event s q) ≡ true)
  next_lives s q next = go (sys.event s q) refl (which_event (sys.event s q))
    where
      go : (e : Event) → sys.event s q ≡ e → EventKind e → (sys.event s q ≡ Local) ⊎ (is_call (sys.event s q) ≡ true)
      go _ e is_local = inl e
      go _ e (is_kernel x h) = inr (ap is_call e ∙ h)
      go x e (is_stop y kind h) = absurd (let bad : Over kind ≡ Goes q = sym (ap (turn_after sys (sys.step s q) q) e ∙ stop_turn sys (sys.step s q) q x kind h) ∙ next in cc)

  -- who is ready beside it makes its call end in a choice
  call_alone : (s : S) (q r : ℕ) → Met s → sys.is_ready s q ≡ true → sys.is_ready s r ≡ true → r ≢ q → is_call (sys.event s q) ≡ true → NextIs s q → ⊥
  call_alone s q r met ready other ne call next = by (settled_turn sys t true q) (which_turn sys t q) (sym (call_turn sys t q (sys.event s q) (plain.free t there) call) ∙ next)
    where
      t : S
      t = sys.step s q

      there : Met t
      there = law.kept s q met ready

      still : sys.is_ready t r ≡ true
      still = law.stays_ready s r q met ne other ready

      by : (turn : Turn) → CallTurn sys t q turn → turn ≡ Goes q → ⊥
      by _ (nobody none) e = none_ready sys t r none (plain.below t r there still) still
      by _ (alone x one) e = (let is : x ≡ q = cc in ne (one_ready sys t r x one (plain.below t r there still) still ∙ is))
      by _ (choice x y xs more) e = cc

  kernel_call : (e : Event) → IsKernelCall e → is_call e ≡ true
  kernel_call (Kernel call) h = refl
  kernel_call _ h = absurd h

  module _ (q : ℕ) where
    -- it makes each step, and its steps are calls again and again
    pub record EachStep (s : S) : Type 0 where
      pub met : Met s
      pub ready : sys.is_ready s q ≡ true
      pub next : (n : ℕ) → NextIs (after_steps sys n s q) q
      pub calls : (n : ℕ) → (m : ℕ) × (n ≤ m) × IsKernelCall (sys.event (after_steps sys m s q) q)

    met_there : (n : ℕ) (s : S) → Met s → sys.is_ready s q ≡ true → ((k : ℕ) → NextIs (after_steps sys k s q) q) → Met (after_steps sys n s q) × (sys.is_ready (after_steps sys n s q) q ≡ true)
    met_there zero s met ready next = (met, ready)
    met_there (suc n) s met ready next = met_there n (sys.step s q) (law.kept s q met ready) (next_ready s q met ready (next 0)) (λ k. next (suc k))

    -- nobody else is ready where the process makes a call some steps later
    only_till : (d : ℕ) (s : S) (r : ℕ) → Met s → sys.is_ready s q ≡ true → ((k : ℕ) → NextIs (after_steps sys k s q) q) → IsKernelCall (sys.event (after_steps sys d s q) q) → r ≢ q → sys.is_ready s r ≡ true → ⊥
    only_till zero s r met ready next call ne other = call_alone s q r met ready other ne (kernel_call (sys.event s q) call) (next 0)
    only_till (suc d) s r met ready next call ne other =
        only_till d (sys.step s q) r (law.kept s q met ready) (next_ready s q met ready (next 0)) (λ k. next (suc k)) call ne (law.stays_ready s r q met ne other ready)

    more_steps : (n d : ℕ) (s : S) → after_steps sys (n + d) s q ≡ after_steps sys d (after_steps sys n s q) q
    more_steps zero d s = ap (λ i. after_steps sys i s q) (plain_sum d)
      where
        plain_sum : (d : ℕ) → 0 + d ≡ d
        plain_sum d = omega arith
    more_steps (suc n) d s = ap (λ i. after_steps sys i s q) (plus n) ∙ more_steps n d (sys.step s q)
      where
        plus : (n : ℕ) → suc n + d ≡ suc (n + d)
        plus n = omega arith

    pub goes_alone : (s : S) → EachStep s → GoesAlone sys s q
    goes_alone s h =
        record {
          ready = λ n. (met_there n s h.met h.ready h.next).1;
          only = λ n r other. by n r other (same_or_not r q) (h.calls n);
          lives = λ n. next_lives (after_steps sys n s q) q (h.next n);
          calls = h.calls;
        }
      where
        by : (n r : ℕ) → sys.is_ready (after_steps sys n s q) r ≡ true → (r ≡ q) ⊎ (r ≢ q) → (m : ℕ) × (n ≤ m) × IsKernelCall (sys.event (after_steps sys m s q) q) → r ≡ q
        by n r other (inl is) c = is
        by n r other (inr ne) c =
            let d = distance n c.0 c.1 in
            let there = met_there n s h.met h.ready h.next in
            absurd (only_till d.0 (after_steps sys n s q) r there.0 there.1
            (λ k. subst (λ t. NextIs t q) (more_steps n k s) (h.next (n + k)))
            (subst (λ t. IsKernelCall (sys.event t q)) (ap (λ i. after_steps sys i s q) (sym d.1) ∙ more_steps n d.0 s) c.2) ne other)

    -- where it stands before each step, by q
    pub each_step : (b : S) (f since : ℕ) (s : S) → Met s → sys.is_ready s q ≡ true → spot_after sys since b f ≡ Some (s, q) → ((n : ℕ) → (t : S) × (spot_after sys (since + n) b f ≡ Some (t, q))) →
        (n : ℕ) → (spot_after sys (since + n) b f ≡ Some (after_steps sys n s q, q)) × NextIs (after_steps sys n s q) q
    each_step b f since s met ready at all n = (stands n, next_at n)
      where
        plus : (n : ℕ) → since + n + 1 ≡ since + (n + 1)
        plus n = omega arith

        turned : (n : ℕ) (u : S) → spot_after sys (since + n) b f ≡ Some (u, q) → turn_after sys (sys.step u q) q (sys.event u q) ≡ Goes q
        turned n u e = go (turn_after sys (sys.step u q) q (sys.event u q)) (sym (from_there sys (since + n) 1 b f u q e) ∙ ap (λ i. spot_after sys i b f) (plus n) ∙ (all (n + 1)).1)
          where
            go : (turn : Turn) → spot_by (sys.step u q) (spot_after sys 0 (sys.step u q)) turn ≡ Some ((all (n + 1)).0, q) → turn ≡ Goes q
            go (Over kind) e = absurd cc
            go Due e = absurd cc
            go (Goes r) e = ap Goes (ap (λ (x : S × ℕ). x.1) (some_same (sys.step u q, r) ((all (n + 1)).0, q) e))

        on : (k n : ℕ) (u : S) → spot_after sys (since + n) b f ≡ Some (u, q) → spot_after sys (since + (n + k)) b f ≡ Some (after_steps sys k u q, q)
        on zero n u e = ap (λ i. spot_after sys i b f) (none n) ∙ e
          where
            none : (n : ℕ) → since + (n + 0) ≡ since + n
            none n = omega arith
        on (suc k) n u e =
            ap (λ i. spot_after sys i b f) (later n k) ∙
            on k (n + 1) (sys.step u q) (ap (λ i. spot_after sys i b f) (sym (plus n)) ∙ from_there sys (since + n) 1 b f u q e ∙ ap (spot_by (sys.step u q) (spot_after sys 0 (sys.step u q))) (turned n u e))
          where
            later : (n k : ℕ) → since + (n + suc k) ≡ since + (n + 1 + k)
            later n k = omega arith

        stands : (n : ℕ) → spot_after sys (since + n) b f ≡ Some (after_steps sys n s q, q)
        stands n = ap (λ i. spot_after sys i b f) (first n) ∙ on n 0 s (ap (λ i. spot_after sys i b f) zero_more ∙ at)
          where
            first : (n : ℕ) → since + n ≡ since + (0 + n)
            first n = omega arith

            zero_more : since + 0 ≡ since
            zero_more = omega arith

        next_at : (n : ℕ) → NextIs (after_steps sys n s q) q
        next_at n = turned n (after_steps sys n s q) (stands n)
