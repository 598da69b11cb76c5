-- Legs from machines that agree on what they touch.
use Rattle.std.proofs.Common.{◌≡◌, ◌∙◌, ℕ, zero, suc, ◌<◌, Bool, true, false, List, [], ◌∷◌, length, ap, refl, sym, subst, arith, if◌then◌else◌}
use Rattle.std.proofs.lemmas.Bool.{false≢true}
use Rattle.cp_slots.specs.Tables.{Tables}
use Rattle.cp_machine.specs.declared.event.Event.TheVariants.{Local}
use Rattle.cp_machine.specs.Fits.{MachineFits}
use Rattle.cp_machine.specs.Machine.{Machine, Thread, is_some, thread_at}
use Rattle.cp_machine.specs.Statements.{Stepped}
use Rattle.cp_machine.specs.Step.{is_local, step_at}
use Rattle.cp_machine.proofs.CallerLemmas.{ready_thread}
use Rattle.cp_machine.proofs.LocalReady.{local_ready}
use Rattle.cp_machine.proofs.Stepping.{Walking, step_blind, show_either}
use Rattle.cp_machine.proofs.frames.ReachingKept.{step_reaches}
use Rattle.cp_machine.proofs.lines.StepLines.{step_lines}
use Rattle.cp_machine.proofs.rooms.KeepingAct.{step_fits}
use Rattle.cp_run.specs.Silent.{without_output}
use Rattle.cp_effect_laws.specs.Effects.{IsToStep, Leg, LegLaw, LegWithin, StaysLaw, StepLaw}
use Rattle.cp_effect_laws.specs.Effects.Leg.{ends, goes_on}
use Rattle.cp_effect_laws.specs.Footprint.{Footprint, laid_over, overlaid, step_over, thread_by, threads_by}
use Rattle.cp_effect_laws.specs.Touches.{HasStep, HasWaiters, IsKept, waits_there}
use Rattle.cp_effect_laws.proofs.Steps.{step_laid}

-- ---- a local step leaves a machine from which its process may make the next one

abbrev Calm : Machine → Stepped → Type 0
Calm m x = is_local x.event ≡ true → x.machine.pending ≡ m.pending

calm_walking : (r : Tables) (m : Machine) (p : ℕ) → Walking r m p [] (λ x y. Calm m x) (λ n. n.pending ≡ m.pending)
calm_walking r m p =
    record {
      begins = refl;
      changed = λ n permanents x e k. k;
      initialised = λ n component k. k;
      goes = λ n k is. k;
      fails = λ event is. refl;
      enters = λ component monitor is n k bad. absurd (cc);
      leaves = λ monitor n k bad. absurd (cc);
      delays = λ monitor cell n k bad. absurd (cc);
      continues = λ monitor cell n k bad. absurd (cc);
      signals = λ component monitor is cell n k bad. absurd (cc);
      ends = λ bad. absurd (cc);
      shows = λ rest v. show_either (Calm m) m p rest v (λ bad. absurd (cc)) (λ bad. absurd (cc));
    }

local_calm : (r : Tables) (m : Machine) (p : ℕ) → (step_at r m p).event ≡ Local → (step_at r m p).machine.pending ≡ m.pending
local_calm r m p is = step_blind r m p [] (λ x y. Calm m x) (λ n. n.pending ≡ m.pending) (calm_walking r m p) (λ n phases bindings k. k) (λ q is n k bad. absurd (cc)) (ap is_local is)

quiet_kept : (r : Tables) (m : Machine) → IsKept r m → IsKept r (without_output m)
quiet_kept r m h =
    record {
      fits = record { threads = h.fits.threads; permanents = h.fits.permanents; bindings = h.fits.bindings; phases = h.fits.phases; monitors = h.fits.monitors; pending = h.fits.pending; each = h.fits.each };
      lines = record { gate = h.lines.gate; once = h.lines.once; pending = h.lines.pending };
      reach = record { frames = h.reach.frames; executes = h.reach.executes; ends = h.reach.ends; bound = h.reach.bound };
    }

pub step_kept : (r : Tables) (m : Machine) (p : ℕ) → IsToStep r m p → IsKept r (step_at r m p).machine
step_kept r m p h =
    let there = ready_thread m p h.ready in
    record {
      fits = step_fits r m p there h.sound h.kept.fits;
      lines = step_lines r m p h.sound h.kept.fits h.kept.lines h.ready h.free;
      reach = step_reaches r m p there h.sound h.sound.typed h.kept.fits h.kept.lines h.ready h.kept.reach;
    }

pub next_step : (r : Tables) (m : Machine) (p : ℕ) → IsToStep r m p → (step_at r m p).event ≡ Local → IsToStep r (without_output (step_at r m p).machine) p
next_step r m p h is =
    record {
      sound = h.sound;
      kept = quiet_kept r _ (step_kept r m p h);
      ready = local_ready r m (step_at r m p).machine p (step_at r m p).event (ready_thread m p h.ready) h.ready refl (ap is_local is);
      free = ap is_some (local_calm r m p is) ∙ h.free;
    }

-- ---- a machine that lies over itself

self_over : {A : Type 0} (own : ℕ → Bool) (xs : List A) → overlaid own xs xs ≡ xs
self_over own [] = refl
self_over own (x ∷ xs) = ap (λ l. (if own 0 then x else x) ∷ l) (self_over (λ k. own (suc k)) xs) ∙ ap (λ y. y ∷ xs) (same (own 0))
  where
    same : (b : Bool) → (if b then x else x) ≡ x
    same true = refl
    same false = refl

thread_self : (s b : Bool) (t : Thread) → thread_by s b t t ≡ t
thread_self true true t = refl
thread_self true false t = refl
thread_self false true t = refl
thread_self false false t = refl

threads_self : (s b : ℕ → Bool) (ts : List Thread) → threads_by s b ts ts ≡ ts
threads_self s b [] = refl
threads_self s b (t ∷ ts) = ap (λ l. thread_by (s 0) (b 0) t t ∷ l) (threads_self (λ k. s (suc k)) (λ k. b (suc k)) ts) ∙ ap (λ u. u ∷ ts) (thread_self (s 0) (b 0) t)

pub laid_self : (f : Footprint) (m : Machine) → laid_over f m m ≡ m
laid_self f m =
    ap (λ l. let k : Machine = record (laid_over f m m) { permanents = l } in k) (self_over f.cells m.permanents)
    ∙ ap (λ l. let k : Machine = record (laid_over f m m) { permanents = m.permanents; bindings = l } in k) (self_over f.cells m.bindings)
    ∙ ap (λ l. let k : Machine = record (laid_over f m m) { permanents = m.permanents; bindings = m.bindings; phases = l } in k) (self_over f.components m.phases)
    ∙ ap (λ l. let k : Machine = record (laid_over f m m) { permanents = m.permanents; bindings = m.bindings; phases = m.phases; threads = l } in k) (threads_self f.statuses f.bodies m.threads)
    ∙ ap (λ l. let k : Machine = record m { monitors = l } in k) (self_over f.monitors m.monitors)

-- ---- who waits in the footprint has an own status, after a step as before

pub other_status : (s b : ℕ → Bool) (ts us : List Thread) (k : ℕ) → length ts ≡ length us → s k ≡ false → (thread_at (threads_by s b ts us) k).status ≡ (thread_at us k).status
other_status s b [] [] k e h = refl
other_status s b [] (u ∷ us) k e h = absurd (omega (arith, e))
other_status s b (t ∷ ts) [] k e h = absurd (omega (arith, e))
other_status s b (t ∷ ts) (u ∷ us) zero e h = ap (λ c. if c then t.status else u.status) h
other_status s b (t ∷ ts) (u ∷ us) (suc k) e h = other_status (λ j. s (suc j)) (λ j. b (suc j)) ts us k (omega (arith, e)) h

module _ (f : Footprint) (r : Tables) (m : Machine) (p : ℕ) (h : IsToStep r m p) (has_all : HasStep f r m p) (mine : HasWaiters f m) where
  there : p < length m.threads
  there = ready_thread m p h.ready

  pub step_stays : laid_over f (step_at r m p).machine m ≡ (step_at r m p).machine
  step_stays =
      sym (ap (λ x. x.machine) (step_laid f r m m p there h.sound h.kept h.ready has_all mine mine))
      ∙ ap (λ x. (step_at r x p).machine) (laid_self f m)

  pub waiters_stay : HasWaiters f (step_at r m p).machine
  waiters_stay q is = go (f.statuses q) refl
    where
      after : Machine
      after = (step_at r m p).machine

      as_long : length after.threads ≡ length m.threads
      as_long = (step_kept r m p h).fits.threads ∙ sym h.kept.fits.threads

      go : (b : Bool) → f.statuses q ≡ b → f.statuses q ≡ true
      go true own = own
      go false own =
          let same : (thread_at after.threads q).status ≡ (thread_at m.threads q).status =
          sym (ap (λ x. (thread_at x.threads q).status) step_stays) ∙ other_status f.statuses f.bodies after.threads m.threads q as_long own in
          mine q (sym (ap (waits_there f) same) ∙ is)

-- ---- legs

pub steps_laid : StepLaw
steps_laid f r m n p h has_all mine theirs = step_laid f r m n p (ready_thread m p h.ready) h.sound h.kept h.ready has_all mine theirs

pub legs_laid : LegLaw
legs_laid f r _ n _ _ _ h mine theirs (LegWithin.ends_within m p has_all is) =
    let same = steps_laid f r m n p h has_all mine theirs in
    subst (λ x. Leg r (laid_over f m n) p 1 x) same (ends (laid_over f m n) p (ap (λ x. is_local x.event) same ∙ is))
legs_laid f r _ n _ _ _ h mine theirs (LegWithin.goes_on_within m p j last has_all is rest) =
    let same = steps_laid f r m n p h has_all mine theirs in
    let after = without_output (step_at r m p).machine in
    let further = legs_laid f r after n p j last (next_step r m p h is) (waiters_stay f r m p h has_all mine) theirs rest in
    goes_on (laid_over f m n) p j (step_over f last n) (ap (λ x. x.event) same ∙ is) (subst (λ x. Leg r (without_output x.machine) p j (step_over f last n)) (sym same) further)

is_leg : (f : Footprint) (r : Tables) (m : Machine) (p k : ℕ) (last : Stepped) → LegWithin f r m p k last → Leg r m p k last
is_leg f r _ _ _ _ (LegWithin.ends_within m p has_all is) = ends m p is
is_leg f r _ _ _ _ (LegWithin.goes_on_within m p j last has_all is rest) = goes_on m p j last is (is_leg f r _ p j last rest)

-- a leg comes to one end alone
one_end : (r : Tables) (m : Machine) (p k j : ℕ) (x y : Stepped) → Leg r m p k x → Leg r m p j y → x ≡ y
one_end r _ _ _ _ _ _ (ends m p is) (ends _ _ other) = refl
one_end r _ _ _ _ _ _ (ends m p is) (goes_on _ _ i last further rest) = absurd (false≢true (sym is ∙ ap is_local further))
one_end r _ _ _ _ _ _ (goes_on m p i last is rest) (ends _ _ other) = absurd (false≢true (sym other ∙ ap is_local is))
one_end r _ _ _ _ _ _ (goes_on m p i last is rest) (goes_on _ _ i' last' other rest') = one_end r _ p i i' last last' rest rest'

pub leg_stays : StaysLaw
leg_stays f r m p k last h mine leg =
    let over = subst (λ x. Leg r x p k (step_over f last m)) (laid_self f m) (legs_laid f r m m p k last h mine mine leg) in
    ap (λ x. x.machine) (one_end r m p k k (step_over f last m) last over (is_leg f r m p k last leg))

-- the machine that the last step comes to fits the program
pub last_kept : (f : Footprint) (r : Tables) (m : Machine) (p k : ℕ) (last : Stepped) → IsToStep r m p → LegWithin f r m p k last → MachineFits r last.machine
last_kept f r _ _ _ _ h (LegWithin.ends_within m p has_all is) = (step_kept r m p h).fits
last_kept f r _ _ _ _ h (LegWithin.goes_on_within m p j last has_all is rest) = last_kept f r _ p j last (next_step r m p h is) rest
