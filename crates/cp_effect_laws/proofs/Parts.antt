-- A leg does the same in each machine that has the same in the places that it touches.
use Rattle.std.proofs.Common.{◌≡◌, ◌∙◌, ℕ, zero, suc, ◌⊎◌, inl, inr, Bool, true, false, List, [], ◌∷◌, length, Option, Some, None, ap, refl, sym, subst, arith, if◌then◌else◌}
use Rattle.std.specs.Prelude.{◌==◌, ◌&&◌, ◌||◌, pos, slice_index_or}
use Rattle.std.proofs.lemmas.Bool.{eqb-true, eq-eqb, false≢true}
use Rattle.cp_slots.specs.Tables.{Tables}
use Rattle.cp_machine.specs.declared.process.Status.{Status}
use Rattle.cp_machine.specs.declared.process.Status.TheVariants.{Unstarted, Ready, AtGate, Delayed, Ended}
use Rattle.cp_machine.specs.declared.state.Phase.TheVariants.{Uninitialised}
use Rattle.cp_machine.specs.Fits.{MachineFits}
use Rattle.cp_machine.specs.Bodies.{Body, body_at, body_of}
use Rattle.cp_machine.specs.Machine.{Machine, Thread, is_ready_status, is_some, is_unstarted, no_monitor, thread_at}
use Rattle.cp_machine.specs.Statements.{Stepped}
use Rattle.cp_store.proofs.Reaches.{and_left, and_right}
use Rattle.cp_effect_laws.specs.Effects.{IsToStep, Leg, LegWithin}
use Rattle.cp_effect_laws.specs.Footprint.{Footprint, laid_over, overlaid, step_over, thread_by, threads_by}
use Rattle.cp_effect_laws.specs.Parts.{AreSettled, DoesSame, EffectLaw, HaveSame, IsSettled, Places, footprint_of, stage, status_at, waits_among, waits_in}
use Rattle.cp_effect_laws.specs.Touches.{HasWaiters, waits_there}
use Rattle.cp_effect_laws.proofs.Legs.{last_kept, leg_stays, legs_laid, other_status}
use Rattle.cp_effect_laws.proofs.Machines.{monitor_read, phase_read, status_read}
use Rattle.cp_effect_laws.proofs.Overlays.{own_read}

-- ---- lists that are the same where one lies over the other

over_same : {A : Type 0} (own : ℕ → Bool) (xs ys : List A) (d : A) → length xs ≡ length ys → ((k : ℕ) → own k ≡ true → slice_index_or ys k d ≡ slice_index_or xs k d) → overlaid own xs ys ≡ ys
over_same own [] [] d e h = refl
over_same own [] (y ∷ ys) d e h = absurd (omega (arith, e))
over_same own (x ∷ xs) [] d e h = absurd (omega (arith, e))
over_same own (x ∷ xs) (y ∷ ys) d e h =
    ap (λ l. (if own 0 then x else y) ∷ l) (over_same (λ k. own (suc k)) xs ys d (omega (arith, e)) (λ k. h (suc k))) ∙ ap (λ z. z ∷ ys) (head (own 0) (h 0))
  where
    head : (b : Bool) → (b ≡ true → y ≡ x) → (if b then x else y) ≡ y
    head true same = sym (same refl)
    head false same = refl

other_read : {A : Type 0} (own : ℕ → Bool) (xs ys : List A) (k : ℕ) (d : A) → length xs ≡ length ys → own k ≡ false → slice_index_or (overlaid own xs ys) k d ≡ slice_index_or ys k d
other_read own [] [] k d e h = refl
other_read own [] (y ∷ ys) k d e h = absurd (omega (arith, e))
other_read own (x ∷ xs) [] k d e h = absurd (omega (arith, e))
other_read own (x ∷ xs) (y ∷ ys) zero d e h = ap (λ b. if b then x else y) h
other_read own (x ∷ xs) (y ∷ ys) (suc k) d e h = other_read (λ j. own (suc j)) xs ys k d (omega (arith, e)) h

abbrev with_body : Status → Body → Thread
with_body s b = record { status = s; frame = b.frame; stack = b.stack; cells = b.cells; references = b.references }

thread_same : (s b : Bool) (t u : Thread) → (s ≡ true → u.status ≡ t.status) → (b ≡ true → body_of u ≡ body_of t) → thread_by s b t u ≡ u
thread_same true true t u h k = ap (λ x. with_body x (body_of t)) (sym (h refl)) ∙ ap (λ x. with_body u.status x) (sym (k refl))
thread_same true false t u h k = ap (λ x. with_body x (body_of u)) (sym (h refl))
thread_same false true t u h k = ap (λ x. with_body u.status x) (sym (k refl))
thread_same false false t u h k = refl

threads_same : (s b : ℕ → Bool) (ts us : List Thread) → length ts ≡ length us → ((k : ℕ) → s k ≡ true → (thread_at us k).status ≡ (thread_at ts k).status) → ((k : ℕ) → b k ≡ true → body_of (thread_at us k) ≡ body_of (thread_at ts k)) → threads_by s b ts us ≡ us
threads_same s b [] [] e h k = refl
threads_same s b [] (u ∷ us) e h k = absurd (omega (arith, e))
threads_same s b (t ∷ ts) [] e h k = absurd (omega (arith, e))
threads_same s b (t ∷ ts) (u ∷ us) e h k =
    ap (λ l. thread_by (s 0) (b 0) t u ∷ l) (threads_same (λ j. s (suc j)) (λ j. b (suc j)) ts us (omega (arith, e)) (λ j. h (suc j)) (λ j. k (suc j)))
    ∙ ap (λ x. x ∷ us) (thread_same (s 0) (b 0) t u (h 0) (k 0))

own_body : (s b : ℕ → Bool) (ts us : List Thread) (k : ℕ) → b k ≡ true → body_of (thread_at (threads_by s b ts us) k) ≡ body_of (thread_at ts k)
own_body s b [] us k h = refl
own_body s b (t ∷ ts) [] k h = refl
own_body s b (t ∷ ts) (u ∷ us) zero h = ap (λ c. body_of (thread_by (s 0) c t u)) h
own_body s b (t ∷ ts) (u ∷ us) (suc k) h = own_body (λ j. s (suc j)) (λ j. b (suc j)) ts us k h

other_body : (s b : ℕ → Bool) (ts us : List Thread) (k : ℕ) → length ts ≡ length us → b k ≡ false → body_of (thread_at (threads_by s b ts us) k) ≡ body_of (thread_at us k)
other_body s b [] [] k e h = refl
other_body s b [] (u ∷ us) k e h = absurd (omega (arith, e))
other_body s b (t ∷ ts) [] k e h = absurd (omega (arith, e))
other_body s b (t ∷ ts) (u ∷ us) zero e h = ap (λ c. body_of (thread_by (s 0) c t u)) h
other_body s b (t ∷ ts) (u ∷ us) (suc k) e h = other_body (λ j. s (suc j)) (λ j. b (suc j)) ts us k (omega (arith, e)) h

-- ---- statuses

nothing_waits : (p : Option ℕ) → is_some p ≡ false → p ≡ None
nothing_waits None h = refl
nothing_waits (Some k) h = absurd (cc)

ready_is : (s : Status) → is_ready_status s ≡ true → s ≡ Ready
ready_is Ready h = refl
ready_is Unstarted h = absurd (cc)
ready_is (AtGate k) h = absurd (cc)
ready_is (Delayed k) h = absurd (cc)
ready_is Ended h = absurd (cc)

unstarted_is : (s : Status) → is_unstarted s ≡ true → s ≡ Unstarted
unstarted_is Unstarted h = refl
unstarted_is Ready h = absurd (cc)
unstarted_is (AtGate k) h = absurd (cc)
unstarted_is (Delayed k) h = absurd (cc)
unstarted_is Ended h = absurd (cc)

stage_none : (s : Status) → stage s ≡ 0 → s ≡ Unstarted
stage_none Unstarted h = refl
stage_none Ready h = absurd (omega (arith, h))
stage_none (AtGate k) h = absurd (omega (arith, h))
stage_none (Delayed k) h = absurd (omega (arith, h))
stage_none Ended h = absurd (omega (arith, h))

module _ (l : Places) where
  -- where somebody waits among some places
  place_of : (some : ℕ → Bool) (s : Status) → waits_among l some s ≡ true → (x : ℕ) × (some x ≡ true) × (waits_in l x s ≡ true)
  place_of some (AtGate k) h = (l.of_monitor k, h, eq-eqb (l.of_monitor k) (l.of_monitor k) refl)
  place_of some (Delayed k) h = (l.of_cell k, h, eq-eqb (l.of_cell k) (l.of_cell k) refl)
  place_of some Ready h = absurd (cc)
  place_of some Unstarted h = absurd (cc)
  place_of some Ended h = absurd (cc)

  among : (some : ℕ → Bool) (x : ℕ) (s : Status) → some x ≡ true → waits_in l x s ≡ true → waits_among l some s ≡ true
  among some x (AtGate k) own h = ap some (eqb-true (l.of_monitor k) x h) ∙ own
  among some x (Delayed k) own h = ap some (eqb-true (l.of_cell k) x h) ∙ own
  among some x Ready own h = absurd (cc)
  among some x Unstarted own h = absurd (cc)
  among some x Ended own h = absurd (cc)

  -- who waits in a place waits among no others
  not_among : (some : ℕ → Bool) (x : ℕ) (s : Status) → some x ≡ false → waits_in l x s ≡ true → waits_among l some s ≡ false
  not_among some x (AtGate k) own h = ap some (eqb-true (l.of_monitor k) x h) ∙ own
  not_among some x (Delayed k) own h = ap some (eqb-true (l.of_cell k) x h) ∙ own
  not_among some x Ready own h = absurd (cc)
  not_among some x Unstarted own h = absurd (cc)
  not_among some x Ended own h = absurd (cc)

  waiting_stage : (some : ℕ → Bool) (s : Status) → waits_among l some s ≡ true → stage s ≡ 2
  waiting_stage some (AtGate k) h = refl
  waiting_stage some (Delayed k) h = refl
  waiting_stage some Ready h = absurd (cc)
  waiting_stage some Unstarted h = absurd (cc)
  waiting_stage some Ended h = absurd (cc)

  -- a settled status: who waits so waits among the places; and who is not the process itself is not at the end
  settled_among : (some : ℕ → Bool) (pid q x : ℕ) (s : Status) → IsSettled l some pid q s → waits_in l x s ≡ true → waits_among l some s ≡ true
  settled_among some pid q x (AtGate k) h w = h
  settled_among some pid q x (Delayed k) h w = h
  settled_among some pid q x Ready h w = absurd (cc)
  settled_among some pid q x Unstarted h w = absurd (cc)
  settled_among some pid q x Ended h w = absurd (cc)

  settled_stage : (some : ℕ → Bool) (pid q : ℕ) (s : Status) → IsSettled l some pid q s → (q == pid) ≡ false → stage s ≡ 2
  settled_stage some pid q Ready h other = refl
  settled_stage some pid q (AtGate k) h other = refl
  settled_stage some pid q (Delayed k) h other = refl
  settled_stage some pid q Ended h other = absurd (false≢true (sym other ∙ ap (λ k. k == pid) h ∙ eq-eqb pid pid refl))
  settled_stage some pid q Unstarted h other = absurd h

-- which of three it is
three : (a b c : Bool) → (a || (b || c)) ≡ true → (a ≡ true) ⊎ ((a ≡ false) × ((b ≡ true) ⊎ ((c ≡ true))))
three true b c h = inl refl
three false true c h = inr (refl, inl refl)
three false false c h = inr (refl, inr h)

module _ (l : Places) (r : Tables) (some : ℕ → Bool) (m n : Machine) (pid k : ℕ) (last : Stepped) (h : IsToStep r m pid) (g : IsToStep r n pid)
    (output : n.output ≡ m.output) (discipline : n.discipline ≡ m.discipline) (own : some (l.of_process pid) ≡ true)
    (same : (place : ℕ) → some place ≡ true → HaveSame l place m n)
    (leg : LegWithin (footprint_of l some m pid) r m pid k last) (settled : AreSettled l some pid m last.machine) where
  abbrev f : Footprint
  f = footprint_of l some m pid

  abbrev t : Machine
  t = last.machine

  -- ---- the machines agree

  status_same : (q : ℕ) → f.statuses q ≡ true → status_at n q ≡ status_at m q
  status_same q is = go (three (q == pid) (some (l.of_process q) && is_unstarted (status_at m q)) (waits_among l some (status_at m q)) is)
    where
      go : ((q == pid) ≡ true) ⊎ (((q == pid) ≡ false) × (((some (l.of_process q) && is_unstarted (status_at m q)) ≡ true) ⊎ (waits_among l some (status_at m q) ≡ true))) → status_at n q ≡ status_at m q
      go (inl e) =
          let q_is = eqb-true q pid e in
          subst (λ j. status_at n j ≡ status_at m j) (sym q_is) (ready_is (status_at n pid) g.ready ∙ sym (ready_is (status_at m pid) h.ready))
      go (inr (e, inl u)) =
          let there = same (l.of_process q) (and_left (some (l.of_process q)) (is_unstarted (status_at m q)) u) in
          let mine = unstarted_is (status_at m q) (and_right (some (l.of_process q)) (is_unstarted (status_at m q)) u) in
          stage_none (status_at n q) (there.stages q refl ∙ ap stage mine) ∙ sym mine
      go (inr (e, inr w)) = let x = place_of l some (status_at m q) w in (same x.0 x.1).waiting q x.2

  body_same : (q : ℕ) → f.bodies q ≡ true → body_at n q ≡ body_at m q
  body_same q is = (same (l.of_process q) (ap (λ j. some (l.of_process j)) (eqb-true q pid is) ∙ own)).bodies q refl

  threads_long : length m.threads ≡ length n.threads
  threads_long = h.kept.fits.threads ∙ sym g.kept.fits.threads

  agree : laid_over f m n ≡ n
  agree =
      ap (λ x. let z : Machine = record (laid_over f m n) { permanents = x } in z) (over_same f.cells m.permanents n.permanents (pos 0) (h.kept.fits.permanents ∙ sym g.kept.fits.permanents) (λ j e. (same (l.of_cell j) e).cells j refl))
      ∙ ap (λ x. let z : Machine = record (laid_over f m n) { permanents = n.permanents; bindings = x } in z) (over_same f.cells m.bindings n.bindings 0 (h.kept.fits.bindings ∙ sym g.kept.fits.bindings) (λ j e. (same (l.of_cell j) e).bindings j refl))
      ∙ ap (λ x. let z : Machine = record (laid_over f m n) { permanents = n.permanents; bindings = n.bindings; phases = x } in z) (over_same f.components m.phases n.phases Uninitialised (h.kept.fits.phases ∙ sym g.kept.fits.phases) (λ j e. (same (l.of_component j) e).phases j refl))
      ∙ ap (λ x. let z : Machine = record (laid_over f m n) { permanents = n.permanents; bindings = n.bindings; phases = n.phases; threads = x } in z) (threads_same f.statuses f.bodies m.threads n.threads threads_long status_same body_same)
      ∙ ap (λ x. let z : Machine = record n { monitors = x; pending = m.pending; discipline = m.discipline; output = m.output } in z) (over_same f.monitors m.monitors n.monitors no_monitor (h.kept.fits.monitors ∙ sym g.kept.fits.monitors) (λ j e. (same (l.of_monitor j) e).monitors j refl))
      ∙ ap (λ x. let z : Machine = record n { pending = x; discipline = m.discipline; output = m.output } in z) (nothing_waits m.pending h.free ∙ sym (nothing_waits n.pending g.free))
      ∙ ap (λ x. let z : Machine = record n { discipline = x; output = m.output } in z) (sym discipline)
      ∙ ap (λ x. let z : Machine = record n { output = x } in z) (sym output)

  third : (a b c : Bool) → c ≡ true → (a || (b || c)) ≡ true
  third true b c e = refl
  third false true c e = refl
  third false false c e = e

  mine : HasWaiters f m
  mine q w = third (q == pid) (some (l.of_process q) && is_unstarted (status_at m q)) (waits_among l some (status_at m q)) (among_there (status_at m q) w)
    where
      among_there : (s : Status) → waits_there f s ≡ true → waits_among l some s ≡ true
      among_there (AtGate j) e = e
      among_there (Delayed j) e = e
      among_there Ready e = e
      among_there Unstarted e = e
      among_there Ended e = e

  theirs : HasWaiters f n
  theirs q w = mine q (subst (λ s. waits_there f s ≡ true) (still (status_at n q) refl w) w)
    where
      still : (s : Status) → status_at n q ≡ s → waits_there f s ≡ true → status_at n q ≡ status_at m q
      still (AtGate j) is e = (same (l.of_monitor j) e).others_wait q (ap (waits_in l (l.of_monitor j)) is ∙ eq-eqb (l.of_monitor j) (l.of_monitor j) refl)
      still (Delayed j) is e = (same (l.of_cell j) e).others_wait q (ap (waits_in l (l.of_cell j)) is ∙ eq-eqb (l.of_cell j) (l.of_cell j) refl)
      still Ready is e = absurd (cc)
      still Unstarted is e = absurd (cc)
      still Ended is e = absurd (cc)

  -- ---- afterwards

  abbrev other : Stepped
  other = step_over f last n

  leg_same : Leg r n pid k other
  leg_same = subst (λ x. Leg r x pid k other) agree (legs_laid f r m n pid k last h mine theirs leg)

  stays : laid_over f t m ≡ t
  stays = leg_stays f r m pid k last h mine leg

  fits_after : MachineFits r t
  fits_after = last_kept f r m pid k last h leg

  long_m : length t.threads ≡ length m.threads
  long_m = fits_after.threads ∙ sym h.kept.fits.threads

  long_n : length t.threads ≡ length n.threads
  long_n = fits_after.threads ∙ sym g.kept.fits.threads

  not_own_status : (q : ℕ) → f.statuses q ≡ false → status_at t q ≡ status_at m q
  not_own_status q is_other = sym (ap (λ x. status_at x q) stays) ∙ other_status f.statuses f.bodies t.threads m.threads q long_m is_other

  not_own_body : (q : ℕ) → f.bodies q ≡ false → body_at t q ≡ body_at m q
  not_own_body q is_other = sym (ap (λ x. body_at x q) stays) ∙ other_body f.statuses f.bodies t.threads m.threads q long_m is_other

  own_after : (q : ℕ) → f.statuses q ≡ true → status_at other.machine q ≡ status_at t q
  own_after q is_own = status_read f.statuses f.bodies t.threads n.threads q is_own

  other_after : (q : ℕ) → f.statuses q ≡ false → status_at other.machine q ≡ status_at n q
  other_after q is_other = other_status f.statuses f.bodies t.threads n.threads q long_n is_other

  by_status : {A : Type 0} (q : ℕ) → (f.statuses q ≡ true → A) → (f.statuses q ≡ false → A) → A
  by_status {A = A} q is_own is_other = go (f.statuses q) refl
    where
      go : (b : Bool) → f.statuses q ≡ b → A
      go true e = is_own e
      go false e = is_other e

  by_body : {A : Type 0} (q : ℕ) → ((q == pid) ≡ true → A) → ((q == pid) ≡ false → A) → A
  by_body {A = A} q is_own is_other = go (q == pid) refl
    where
      go : (b : Bool) → (q == pid) ≡ b → A
      go true e = is_own e
      go false e = is_other e

  waits_own : (x q : ℕ) → some x ≡ true → waits_in l x (status_at m q) ≡ true → f.statuses q ≡ true
  waits_own x q e w = third (q == pid) (some (l.of_process q) && is_unstarted (status_at m q)) (waits_among l some (status_at m q)) (among l some x (status_at m q) e w)

  touched : (place : ℕ) → some place ≡ true → HaveSame l place t other.machine
  touched x e =
      record {
        cells = λ j at. own_read f.cells t.permanents n.permanents j (pos 0) (ap some at ∙ e);
        bindings = λ j at. own_read f.cells t.bindings n.bindings j 0 (ap some at ∙ e);
        phases = λ j at. phase_read f n t j (ap some at ∙ e);
        monitors = λ j at. monitor_read f n t j (ap some at ∙ e);
        waiting = λ q w. by_status q (λ is_own. own_after q is_own)
            (λ is_other. absurd (false≢true (sym is_other ∙ waits_own x q e (sym (ap (waits_in l x) (not_own_status q is_other)) ∙ w))));
        others_wait = λ q w. by_status q (λ is_own. own_after q is_own)
            (λ is_other. let here = sym (ap (waits_in l x) (other_after q is_other)) ∙ w in
            absurd (false≢true (sym is_other ∙ waits_own x q e (sym (ap (waits_in l x) ((same x e).others_wait q here)) ∙ here))));
        bodies = λ q at. by_body q (λ is_own. own_body f.statuses f.bodies t.threads n.threads q is_own)
            (λ is_other. other_body f.statuses f.bodies t.threads n.threads q long_n is_other ∙ (same x e).bodies q at ∙ sym (not_own_body q is_other));
        stages = λ q at. by_status q (λ is_own. ap stage (own_after q is_own))
            (λ is_other. ap stage (other_after q is_other) ∙ (same x e).stages q at ∙ sym (ap stage (not_own_status q is_other)));
      }

  -- elsewhere all is as it was: who has an own status waits nowhere else
  rest_status : (x q : ℕ) → some x ≡ false → f.statuses q ≡ true → waits_in l x (status_at m q) ≡ true → ⊥
  rest_status x q e is_own w = go (three (q == pid) (some (l.of_process q) && is_unstarted (status_at m q)) (waits_among l some (status_at m q)) is_own)
    where
      go : ((q == pid) ≡ true) ⊎ (((q == pid) ≡ false) × (((some (l.of_process q) && is_unstarted (status_at m q)) ≡ true) ⊎ (waits_among l some (status_at m q) ≡ true))) → ⊥
      go (inl is) = false≢true (ap (waits_in l x) (sym (ready_is (status_at m pid) h.ready)) ∙ ap (λ j. waits_in l x (status_at m j)) (sym (eqb-true q pid is)) ∙ w)
      go (inr (is_other, inl u)) = false≢true (ap (waits_in l x) (sym (unstarted_is (status_at m q) (and_right (some (l.of_process q)) (is_unstarted (status_at m q)) u))) ∙ w)
      go (inr (is_other, inr a)) = false≢true (sym (not_among l some x (status_at m q) e w) ∙ a)

  rest_after : (x q : ℕ) → some x ≡ false → f.statuses q ≡ true → waits_in l x (status_at t q) ≡ true → ⊥
  rest_after x q e is_own w = go (settled q)
    where
      go : (status_at t q ≡ status_at m q) ⊎ IsSettled l some pid q (status_at t q) → ⊥
      go (inl is) = rest_status x q e is_own (sym (ap (waits_in l x) is) ∙ w)
      go (inr is) = false≢true (sym (not_among l some x (status_at t q) e w) ∙ settled_among l some pid q x (status_at t q) is w)

  rest_stage : (x q : ℕ) → some x ≡ false → l.of_process q ≡ x → f.statuses q ≡ true → stage (status_at t q) ≡ stage (status_at n q)
  rest_stage x q e at is_own = go (three (q == pid) (some (l.of_process q) && is_unstarted (status_at m q)) (waits_among l some (status_at m q)) is_own)
    where
      after : (q == pid) ≡ false → stage (status_at m q) ≡ 2 → (status_at t q ≡ status_at m q) ⊎ IsSettled l some pid q (status_at t q) → stage (status_at t q) ≡ 2
      after is_other two (inl is) = ap stage is ∙ two
      after is_other two (inr is) = settled_stage l some pid q (status_at t q) is is_other

      go : ((q == pid) ≡ true) ⊎ (((q == pid) ≡ false) × (((some (l.of_process q) && is_unstarted (status_at m q)) ≡ true) ⊎ (waits_among l some (status_at m q) ≡ true))) → stage (status_at t q) ≡ stage (status_at n q)
      go (inl is) = absurd (false≢true (sym e ∙ ap some (sym at) ∙ ap (λ j. some (l.of_process j)) (eqb-true q pid is) ∙ own))
      go (inr (is_other, inl u)) = absurd (false≢true (sym e ∙ ap some (sym at) ∙ and_left (some (l.of_process q)) (is_unstarted (status_at m q)) u))
      go (inr (is_other, inr a)) = let two = waiting_stage l some (status_at m q) a in after is_other two (settled q) ∙ sym (ap stage (status_same q is_own) ∙ two)

  rest : (place : ℕ) → some place ≡ false → HaveSame l place n other.machine
  rest x e =
      record {
        cells = λ j at. other_read f.cells t.permanents n.permanents j (pos 0) (fits_after.permanents ∙ sym g.kept.fits.permanents) (ap some at ∙ e);
        bindings = λ j at. other_read f.cells t.bindings n.bindings j 0 (fits_after.bindings ∙ sym g.kept.fits.bindings) (ap some at ∙ e);
        phases = λ j at. other_read f.components t.phases n.phases j Uninitialised (fits_after.phases ∙ sym g.kept.fits.phases) (ap some at ∙ e);
        monitors = λ j at. other_read f.monitors t.monitors n.monitors j no_monitor (fits_after.monitors ∙ sym g.kept.fits.monitors) (ap some at ∙ e);
        waiting = λ q w. by_status q (λ is_own. absurd (rest_status x q e is_own (sym (ap (waits_in l x) (status_same q is_own)) ∙ w))) (λ is_other. other_after q is_other);
        others_wait = λ q w. by_status q (λ is_own. absurd (rest_after x q e is_own (sym (ap (waits_in l x) (own_after q is_own)) ∙ w))) (λ is_other. other_after q is_other);
        bodies = λ q at. by_body q (λ is_own. absurd (false≢true (sym e ∙ ap some (sym at) ∙ ap (λ j. some (l.of_process j)) (eqb-true q pid is_own) ∙ own))) (λ is_other. other_body f.statuses f.bodies t.threads n.threads q long_n is_other);
        stages = λ q at. by_status q (λ is_own. ap stage (own_after q is_own) ∙ rest_stage x q e at is_own) (λ is_other. ap stage (other_after q is_other));
      }

  statuses_after : (q : ℕ) →
      ((status_at other.machine q ≡ status_at t q) × (status_at n q ≡ status_at m q)) ⊎
      ((status_at other.machine q ≡ status_at n q) × (status_at t q ≡ status_at m q))
  statuses_after q = by_status q (λ is_own. inl (own_after q is_own, status_same q is_own)) (λ is_other. inr (other_after q is_other, not_own_status q is_other))

  does_same : DoesSame l r some m n pid k last other
  does_same = record { leg = leg_same; event = refl; output = refl; pending = refl; statuses = statuses_after; touched = touched; rest = rest }

pub effect_law : EffectLaw
effect_law l r some m n pid k last h g output discipline own same leg settled = (_, does_same l r some m n pid k last h g output discipline own same leg settled)
