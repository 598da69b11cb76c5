-- A value that a word shows is shown by a call of the stretch to which the word leads.
use Rattle.std.proofs.Common.{◌≡◌, ◌⊎◌, inl, inr, ◌∙◌, ◌==◌, ℕ, zero, suc, Bool, true, false, if◌then◌else◌, List, [], ◌∷◌, length, Option, None, Some, Ok, Err, ap, refl, subst, arith}
use Rattle.cp_at_once_laws.proofs.Words.{Contains, map, Program, Tree, Outcome, Move, enters, leaves, delays, continues, starts, shows, Doing, takes, Turn, Over, Due}
use Rattle.cp_at_once_laws.proofs.Words.{Goes, System, may, turn_at, turn_after, settled_turn, SetsOut, spot_after, spot_by, is_call, ShowsValue, names, Environment}
use Rattle.cp_at_once_laws.proofs.Words.{Status, unstarted, ready, delayed, process_at, Gates, first_gates, any_gates, State, constants_before, event_of, shown_of}
use Rattle.std.proofs.lemmas.List.Elements.{Contains-append_cases}
use Rattle.cp_machine.specs.declared.shown.Shown.{Shown}
use Rattle.cp_meaning.specs.State as meaning
use Rattle.cp_meaning.specs.State.{Call, Item, Signals, return_signals, continue_signals, wait_signals}
use Rattle.cp_meaning.specs.Kernel.{Event, display_event, Stepped, output_room, line_of, moved_to, first_in, one_in, let_in, is_anybody_inside, entering, is_delayed_in, waits_inside, continuing, notifying, yielding, going_on, signalling, process_of, starting_as, starting, displaying, kernel_step}
use Rattle.cp_meaning.specs.Steps.{settled, step_of, view_of, line_at}
use Rattle.cp_run.specs.Table.{each}
use Rattle.cp_endless_laws.specs.Forgetting.{forgetting_system}
use Rattle.cp_endless_laws.specs.Moments.{Moment, moments_by, stretch_moments, moments, AnyOf}
use Rattle.cp_endless_laws.specs.Shown.{shown_at, ShowsAfter}

-- ---- where it is shown

module _ {S : Type 0} (sys : System S) (forget : S → S) where
  abbrev quiet : System S
  quiet = forgetting_system sys forget

  abbrev IsSpotOf : (Moment S → Type 0) → S → ℕ → Type 0
  IsSpotOf P s p = (i : ℕ) × (t : S) × (q : ℕ) × (spot_after (forgetting_system sys forget) i s p ≡ Some (t, q)) × P (record { state = t; mover = q })

  moment_at : (P : Moment S → Type 0) (n : ℕ) (s : S) (p : ℕ) → AnyOf P (stretch_moments (forgetting_system sys forget) n s p) → IsSpotOf P s p
  unfolding stretch_moments
  moment_at P zero s p a = absurd a
  moment_at P (suc n) s p (inl now) = (0, s, p, refl, now)
  moment_at P (suc n) s p (inr rest) = by (turn_after quiet (quiet.step s p) p (quiet.event s p)) refl rest (λ x d. moment_at P n (quiet.step s p) x d)
    where
      by : (turn : Turn) → turn_after quiet (quiet.step s p) p (quiet.event s p) ≡ turn → AnyOf P (moments_by (stretch_moments quiet n (quiet.step s p)) turn) → ((x : ℕ) → AnyOf P (stretch_moments quiet n (quiet.step s p) x) → IsSpotOf P (quiet.step s p) x) → IsSpotOf P s p
      by (Over kind) e a on = absurd a
      by Due e a on = absurd a
      by (Goes x) e a on = let h = on x a in (suc h.0, h.1, h.2, ap (spot_by (quiet.step s p) (spot_after quiet h.0 (quiet.step s p))) e ∙ h.3, h.4)

  value_in : (v : Shown) (ms : List (Moment S)) → Contains (each (shown_at sys) ms) v → AnyOf (λ m. Contains (shown_at sys m) v) ms
  value_in v [] c = let less = c.1 in absurd (omega (arith, less))
  value_in v (m ∷ ms) c = go (Contains-append_cases (shown_at sys m) (each (shown_at sys) ms) v c) (λ h. value_in v ms h)
    where
      go : Contains (shown_at sys m) v ⊎ Contains (each (shown_at sys) ms) v → (Contains (each (shown_at sys) ms) v → AnyOf (λ k. Contains (shown_at sys k) v) ms) → AnyOf (λ k. Contains (shown_at sys k) v) (m ∷ ms)
      go (inl h) later = inl h
      go (inr h) later = inr (later h)

  pub record IsShownIn (limit : ℕ) (word : List ℕ) (v : Shown) : Type 0 where
    pub begin : S
    pub first : ℕ
    pub sets_out : SetsOut (forgetting_system sys forget) limit word begin first
    pub after : ℕ
    pub state : S
    pub process : ℕ
    pub stands : spot_after (forgetting_system sys forget) after begin first ≡ Some (state, process)
    pub shown : Contains (sys.output (sys.step state process)) v

  abbrev Shows : Shown → Moment S → Type 0
  Shows v m = Contains (shown_at sys m) v

  spot_in : (limit : ℕ) (word : List ℕ) (v : Shown) (b : S) (f : ℕ) → SetsOut (forgetting_system sys forget) limit word b f → IsSpotOf (Shows v) b f → IsShownIn limit word v
  spot_in limit word v b f out x = record { begin = b; first = f; sets_out = out; after = x.0; state = x.1; process = x.2; stands = x.3; shown = x.4 }

  pub shown_in : (limit : ℕ) (word : List ℕ) (v : Shown) → ShowsAfter sys forget limit word v → IsShownIn limit word v
  unfolding may moments
  shown_in limit word v (inl x) = by (turn_at quiet quiet.start false 0) refl (value_in v (moments_by (stretch_moments quiet limit quiet.start) (turn_at quiet quiet.start false 0)) x.1)
    where
      by : (turn : Turn) → turn_at quiet quiet.start false 0 ≡ turn → AnyOf (Shows v) (moments_by (stretch_moments quiet limit quiet.start) turn) → IsShownIn limit word v
      by (Over kind) e a = absurd a
      by Due e a = absurd a
      by (Goes q) e a = spot_in limit word v quiet.start q (inl (x.0, ap (spot_by quiet.start (λ f. Some (quiet.start, f))) e)) (moment_at (Shows v) limit quiet.start q a)
  shown_in limit word v (inr x) = by (quiet.is_pending x.2) refl (value_in v (moments quiet limit x.2 x.1) x.6)
    where
      by : (b : Bool) → quiet.is_pending x.2 ≡ b →
          AnyOf (Shows v) (if b then moments_by (stretch_moments quiet limit (quiet.admit x.2 x.1)) (settled_turn quiet (quiet.admit x.2 x.1) true x.1) else stretch_moments quiet limit x.2 x.1) → IsShownIn limit word v
      by false e a =
          spot_in limit word v x.2 x.1 (inr (x.0, x.1, x.2, x.3, x.4, x.5, ap (λ (b : Bool). if b then spot_by (quiet.admit x.2 x.1) (λ q. Some (quiet.admit x.2 x.1, q)) (settled_turn quiet (quiet.admit x.2 x.1) true x.1) else Some (x.2, x.1)) e))
          (moment_at (Shows v) limit x.2 x.1 a)
      by true e a = turns (settled_turn quiet (quiet.admit x.2 x.1) true x.1) refl a
        where
          turns : (turn : Turn) → settled_turn quiet (quiet.admit x.2 x.1) true x.1 ≡ turn → AnyOf (Shows v) (moments_by (stretch_moments quiet limit (quiet.admit x.2 x.1)) turn) → IsShownIn limit word v
          turns (Over kind) is a = absurd a
          turns Due is a = absurd a
          turns (Goes q) is a =
              spot_in limit word v (quiet.admit x.2 x.1) q
              (inr (x.0, x.1, x.2, x.3, x.4, x.5, ap (λ (b : Bool). if b then spot_by (quiet.admit x.2 x.1) (λ f. Some (quiet.admit x.2 x.1, f)) (settled_turn quiet (quiet.admit x.2 x.1) true x.1) else Some (x.2, x.1)) e ∙ ap (spot_by (quiet.admit x.2 x.1) (λ f. Some (quiet.admit x.2 x.1, f))) is))
              (moment_at (Shows v) limit (quiet.admit x.2 x.1) q a)

-- ---- what shows a value is a call

module _ (p : Program) (s : State) (pid : ℕ) (d : Doing) where
  abbrev Kept : State → Type 0
  Kept t = t.output ≡ s.output

  first_kept : (line : List ℕ) (t : State) (m : ℕ) → Kept t → Kept (first_in line t m)
  first_kept [] t m h = h
  first_kept (q ∷ line) t m h = h

  one_kept : (line : List ℕ) (t : State) (m : ℕ) → Kept t → Kept (one_in line t m)
  one_kept (q ∷ []) t m h = h
  one_kept _ t m h = h

  in_kept : (g : Gates) (t : State) (m : ℕ) → Kept t → Kept (let_in g t m)
  in_kept first_gates t m h = first_kept (line_of t m) t m h
  in_kept any_gates t m h = one_kept (line_of t m) t m h

  if_kept : (b : Bool) (t u : State) → Kept t → Kept u → Kept (if b then t else u)
  if_kept true t u h k = h
  if_kept false t u h k = k

  continue_kept : (t : State) (m : ℕ) (o : Option ℕ) → Kept t → Kept (continuing t m o)
  continue_kept t m None h = in_kept t.discipline.gates t m h
  continue_kept t m (Some r) h = if_kept (is_delayed_in m (process_at t.processes r).status) _ _ h (in_kept t.discipline.gates t m h)

  notify_kept : (t : State) (m : ℕ) (o : Option ℕ) → Kept t → Kept (notifying t m o)
  notify_kept t m None h = h
  notify_kept t m (Some r) h = if_kept (waits_inside t m r) _ _ h h

  yield_kept : (e : Doing) (m : ℕ) (o : Option ℕ) → Kept (yielding s pid m e o)
  yield_kept e m None = refl
  yield_kept e m (Some r) = if_kept (waits_inside s m r) _ _ refl refl

  signal_kept : (w : Signals) (m : ℕ) (o : Option ℕ) (going : List Call) (items : List Item) → Kept (signalling w s pid d m o going items)
  signal_kept return_signals m o going items = continue_kept (moved_to ready s pid d) m o refl
  signal_kept continue_signals m o going items = notify_kept (moved_to ready s pid (going_on d going items)) m o refl
  signal_kept wait_signals m o going items = yield_kept (going_on d going items) m o

  enter_kept : (b : Bool) (m : ℕ) → Kept (entering b s pid m d)
  enter_kept true m = refl
  enter_kept false m = refl

  as_kept : (r c : ℕ) (e : Environment) (status : Status) → Kept (starting_as p s pid d r status c e).state
  as_kept r c e unstarted = refl
  as_kept r c e _ = refl

  start_kept : (o : Option ℕ) (c : ℕ) (e : Environment) → Kept (starting p s pid d o c e).state
  start_kept None c e = refl
  start_kept (Some r) c e = as_kept r c e (process_at (moved_to ready s pid d).processes r).status

  -- nothing is shown, or it is a display
  abbrev KeptOrShown : Stepped → Type 0
  KeptOrShown x = Kept x.state ⊎ (x.event ≡ display_event)

  show_kept : (b : Bool) (y : meaning.Shown) → KeptOrShown (displaying b s pid d y)
  show_kept true y = inl refl
  show_kept false y = inr refl

  kernel_kept : (move : Move) → KeptOrShown (kernel_step p s pid d move)
  kernel_kept (enters m) = inl (enter_kept (is_anybody_inside m s.processes) m)
  kernel_kept (leaves m) = inl (in_kept s.discipline.gates (moved_to ready s pid d) m refl)
  kernel_kept (delays m) = inl (in_kept s.discipline.gates (moved_to (delayed m) s pid d) m refl)
  kernel_kept (continues m o going items) = inl (signal_kept s.discipline.signals m o going items)
  kernel_kept (starts c e) = inl (start_kept (process_of c (moved_to ready s pid d).processes) c e)
  kernel_kept (shows y) = show_kept (length s.output == output_room) y
  kernel_kept _ = inl refl

settled_kept : (p : Program) (s : State) (pid : ℕ) (o : Outcome Doing) → ((settled p s pid o).state.output ≡ s.output) ⊎ ((settled p s pid o).event ≡ display_event)
settled_kept p s pid (Ok d) = kernel_kept p s pid d d.move
settled_kept p s pid (Err e) = inl refl

-- where nothing was shown before
pub shows_call : (t : Tree) (s : State) (q : ℕ) (v : Shown) → s.output ≡ [] → ShowsValue t v s q → is_call ((names t).event s q) ≡ true
shows_call t s q v none h = go (settled_kept t.program s q (takes (view_of t.program s q) q (process_at s.processes q).items))
  where
    go : ((step_of t.program s q).state.output ≡ s.output) ⊎ ((step_of t.program s q).event ≡ display_event) → is_call ((names t).event s q) ≡ true
    go (inl e) =
        let bad : Contains (map (shown_of (constants_before t.program)) []) v = subst (λ (out : List meaning.Shown). Contains (map (shown_of (constants_before t.program)) out) v) (e ∙ none) h in
        let less = bad.1 in
        absurd (omega (arith, less))
    go (inr e) = ap (λ (e : Event). is_call (event_of q (line_at t s q) e)) e
