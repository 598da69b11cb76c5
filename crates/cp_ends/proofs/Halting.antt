-- Where a stretch comes to, by where it stands after as many steps as the limit, and what is told of it.
use Rattle.std.proofs.Common.{◌≡◌, ◌∙◌, ◌+◌, ℕ, zero, suc, List, [], ◌++◌, Bool, true, false, if◌then◌else◌, length, take, Option, None, Some, refl, sym, ap, arith}
use Rattle.cp_ends.proofs.Vocabulary.{append-nil, append_assoc, same_Some, ◌||◌, Shown, Turn, System, settled_turn, stretch, turn_after, each}
use Rattle.cp_ends.proofs.Vocabulary.{forgetting_system, Moment, moments_by, stretch_moments, spot_after, spot_by, shown_at, Goal, End, Arrival, goal_of, StepLimit, has_call, is_call, Tables, Discipline, Machine, silent_slots}
use Rattle.std.proofs.Math.Seq.{take-append_seam}
use Rattle.cp_run.specs.Code.{halt_at, node_of}
use Rattle.cp_run.specs.Fold.{Fold, fold_chosen, fold_opened, fold_stretch, fold_turn, walked, walked_chosen, walked_opened}
use Rattle.cp_run.specs.Run.{turn_at}
use Rattle.cp_run.specs.declared.outcome.Turn.TheVariants.{Over, Due, Goes}
use Rattle.cp_run.proofs.Walking.{walked_halts, walked_up}
use Rattle.cp_ends.specs.Arrivals.{arrival_by, cut_arrival, first_arrival, halt_arrival, next_arrival, return_within, stretch_arrival, stretch_by, teller}
use Rattle.cp_ends.specs.declared.end.End as code
use Rattle.cp_ends.specs.declared.end.End.TheVariants as end

-- ---- a fold over a stretch, step by step

module _ {S X : Type 0} (sys : System S) (f : Fold S X) where
  pub fold_none : (s : S) (p : ℕ) (x : X) → fold_stretch sys f 0 s p x ≡ x
  unfolding fold_stretch
  fold_none s p x = refl

  one_fold : (s : S) (p : ℕ) (x : X) → fold_stretch sys f 1 s p x ≡ f.on_step s p (sys.event s p) (sys.step s p) x
  unfolding fold_stretch
  one_fold s p x = by (turn_after sys (sys.step s p) p (sys.event s p))
    where
      by : (turn : Turn) → fold_turn (fold_stretch sys f 0 (sys.step s p)) turn (f.on_step s p (sys.event s p) (sys.step s p) x) ≡ f.on_step s p (sys.event s p) (sys.step s p) x
      by (Goes q) = refl
      by _ = refl

  fold_there : (n m : ℕ) (s : S) (p : ℕ) (t : S) (q : ℕ) (x : X) → spot_after sys n s p ≡ Some (t, q) → fold_stretch sys f (n + m) s p x ≡ fold_stretch sys f m t q (fold_stretch sys f n s p x)
  unfolding fold_stretch
  fold_there zero m s p t q x e = ap (λ i. fold_stretch sys f i s p x) (plus m) ∙ ap (λ (y : S × ℕ). fold_stretch sys f m y.0 y.1 x) (same_Some (s, p) (t, q) e)
    where
      plus : (m : ℕ) → zero + m ≡ m
      plus m = omega arith
  fold_there (suc n) m s p t q x e = ap (λ i. fold_stretch sys f i s p x) (plus n) ∙ by (turn_after sys (sys.step s p) p (sys.event s p)) e (λ r d. fold_there n m (sys.step s p) r t q (f.on_step s p (sys.event s p) (sys.step s p) x) d)
    where
      plus : (n : ℕ) → suc n + m ≡ suc (n + m)
      plus n = omega arith

      by : (turn : Turn) → spot_by (sys.step s p) (spot_after sys n (sys.step s p)) turn ≡ Some (t, q) →
          ((r : ℕ) → spot_after sys n (sys.step s p) r ≡ Some (t, q) → fold_stretch sys f (n + m) (sys.step s p) r (f.on_step s p (sys.event s p) (sys.step s p) x) ≡ fold_stretch sys f m t q (fold_stretch sys f n (sys.step s p) r (f.on_step s p (sys.event s p) (sys.step s p) x))) →
          fold_turn (fold_stretch sys f (n + m) (sys.step s p)) turn (f.on_step s p (sys.event s p) (sys.step s p) x) ≡ fold_stretch sys f m t q (fold_turn (fold_stretch sys f n (sys.step s p)) turn (f.on_step s p (sys.event s p) (sys.step s p) x))
      by (Goes r) e on = on r e
      by u e on = absurd (cc)

  pub fold_next : (n : ℕ) (s : S) (p : ℕ) (t u : S) (q : ℕ) (x : X) → spot_after sys n s p ≡ Some (t, q) → u ≡ sys.step t q → f.on_step t q (sys.event t q) u (fold_stretch sys f n s p x) ≡ fold_stretch sys f (n + 1) s p x
  fold_next n s p t u q x spot e =
      ap (λ y. f.on_step t q (sys.event t q) y (fold_stretch sys f n s p x)) e
      ∙ sym (one_fold t q (fold_stretch sys f n s p x))
      ∙ sym (fold_there n 1 s p t q x spot)

-- where the process is known that goes on
pub next_place : {S : Type 0} (u : S) (q p : ℕ) → q ≡ p → (◌≡◌ {A = Option (S × ℕ)}) (Some (u, q)) (Some (u, p))
next_place u q p e = ap (λ k. Some (u, k)) e

-- ---- what is told

module _ {S : Type 0} (sys quiet : System S) where
  shown_on : (on : ℕ → List Shown × Bool → List Shown × Bool) (ms : ℕ → List (Moment S)) (turn : Turn) (x : List Shown × Bool) → ((q : ℕ) (y : List Shown × Bool) → (on q y).0 ≡ y.0 ++ each (shown_at sys) (ms q)) → (fold_turn on turn x).0 ≡ x.0 ++ each (shown_at sys) (moments_by ms turn)
  shown_on on ms (Goes q) x h = h q x
  shown_on on ms _ x h = sym (append-nil x.0)

  pub shown_in : (n : ℕ) (s : S) (p : ℕ) (x : List Shown × Bool) → (fold_stretch quiet (teller sys) n s p x).0 ≡ x.0 ++ each (shown_at sys) (stretch_moments quiet n s p)
  unfolding fold_stretch stretch_moments
  shown_in zero s p x = sym (append-nil x.0)
  shown_in (suc n) s p x =
      let t = quiet.step s p in
      let turn = turn_after quiet t p (quiet.event s p) in
      shown_on (fold_stretch quiet (teller sys) n t) (stretch_moments quiet n t) turn ((teller sys).on_step s p (quiet.event s p) t x) (shown_in n t)
      ∙ append_assoc x.0 (shown_at sys (record { state = s; mover = p })) (each (shown_at sys) (moments_by (stretch_moments quiet n t) turn))

  either : (a b c : Bool) → (b || (a || c)) ≡ ((a || b) || c)
  either true true c = refl
  either true false c = refl
  either false true c = refl
  either false false c = refl

  called_on : (on : ℕ → List Shown × Bool → List Shown × Bool) (ms : ℕ → List (Moment S)) (turn : Turn) (x : List Shown × Bool) → ((q : ℕ) (y : List Shown × Bool) → (on q y).1 ≡ (has_call quiet (ms q) || y.1)) → (fold_turn on turn x).1 ≡ (has_call quiet (moments_by ms turn) || x.1)
  called_on on ms (Goes q) x h = h q x
  called_on on ms _ x h = refl

  pub called_in : (n : ℕ) (s : S) (p : ℕ) (x : List Shown × Bool) → (fold_stretch quiet (teller sys) n s p x).1 ≡ (has_call quiet (stretch_moments quiet n s p) || x.1)
  unfolding fold_stretch stretch_moments
  called_in zero s p x = refl
  called_in (suc n) s p x =
      let t = quiet.step s p in
      let turn = turn_after quiet t p (quiet.event s p) in
      called_on (fold_stretch quiet (teller sys) n t) (stretch_moments quiet n t) turn ((teller sys).on_step s p (quiet.event s p) t x) (called_in n t)
      ∙ either (is_call (quiet.event s p)) (has_call quiet (moments_by (stretch_moments quiet n t) turn)) x.1

-- ---- where it comes to

module _ {S : Type 0} (sys : System S) where
  abbrev pub spot_at : S × Turn → Option (S × ℕ)
  spot_at w = spot_by w.0 (λ q. Some (w.0, q)) w.1

  pub spot_walked : (n : ℕ) (s : S) (turn : Turn) → spot_by s (spot_after sys n s) turn ≡ spot_at (walked sys n s turn)
  unfolding walked
  spot_walked zero s (Over kind) = refl
  spot_walked zero s Due = refl
  spot_walked zero s (Goes p) = refl
  spot_walked (suc n) s (Over kind) = refl
  spot_walked (suc n) s Due = refl
  spot_walked (suc n) s (Goes p) = spot_walked n (sys.step s p) (turn_after sys (sys.step s p) p (sys.event s p))

-- and nothing is displayed there
pub quiet_walked : (r : Tables) (discipline : Discipline) (n : ℕ) (m : Machine) (turn : Turn) → m.output ≡ [] → (walked (silent_slots r discipline) n m turn).0.output ≡ []
unfolding walked
quiet_walked r discipline zero m turn e = e
quiet_walked r discipline (suc n) m (Over kind) e = e
quiet_walked r discipline (suc n) m Due e = e
quiet_walked r discipline (suc n) m (Goes p) e = let t = (silent_slots r discipline).step m p in quiet_walked r discipline n t (turn_after (silent_slots r discipline) t p ((silent_slots r discipline).event m p)) refl

-- what a stretch comes to if it stands there then, and what it shows
pub record Comes {S : Type 0} (sys quiet : System S) (eq : S → S → Bool) (steps : ℕ) (whole : Arrival S code.End Shown) (on : List Shown × Bool → List Shown × Bool) (w : S × Turn) : Type 0 where
  pub shown : List Shown
  pub is : whole ≡ halt_arrival sys quiet eq steps shown w.0 w.1
  pub told : (x : List Shown × Bool) → (on x).0 ≡ x.0 ++ shown

module _ {S : Type 0} (sys : System S) (forget : S → S) (eq : S → S → Bool) (steps : ℕ) where
  abbrev quiet : System S
  quiet = forgetting_system sys forget

  by_turn : (s : S) (p : ℕ) (shown : List Shown) (t : S) (turn : Turn) → stretch quiet steps s p ≡ node_of (halt_at turn) t → stretch_by sys quiet eq steps s p shown (spot_by t (λ q. Some (t, q)) turn) ≡ halt_arrival sys quiet eq steps shown t turn
  by_turn s p shown t (Over kind) e = ap (λ n. record { goal = goal_of n; shown = shown }) e
  by_turn s p shown t Due e = ap (λ n. record { goal = goal_of n; shown = shown }) e
  by_turn s p shown t (Goes q) e = refl

  stretch_comes : (s : S) (p : ℕ) → Comes sys quiet eq steps (stretch_arrival sys forget eq steps s p) (fold_stretch quiet (teller sys) steps s p) (walked quiet steps s (Goes p))
  unfolding stretch_arrival
  stretch_comes s p =
      let shown = each (shown_at sys) (stretch_moments quiet steps s p) in
      let w = walked quiet steps s (Goes p) in
      record {
        shown = shown;
        is = ap (stretch_by sys quiet eq steps s p shown) (spot_walked quiet steps s (Goes p)) ∙ by_turn s p shown w.0 w.1 (walked_halts quiet steps s (Goes p));
        told = shown_in sys quiet steps s p;
      }

  turn_comes : (s : S) (turn : Turn) → Comes sys quiet eq steps (arrival_by s (stretch_arrival sys forget eq steps s) turn) (fold_turn (fold_stretch quiet (teller sys) steps s) turn) (walked quiet steps s turn)
  turn_comes s (Over kind) = record { shown = []; is = ap (λ (w : S × Turn). halt_arrival sys quiet eq steps [] w.0 w.1) (sym (walked_up quiet steps s (Over kind) tt)); told = λ x. sym (append-nil x.0) }
  turn_comes s Due = record { shown = []; is = ap (λ (w : S × Turn). halt_arrival sys quiet eq steps [] w.0 w.1) (sym (walked_up quiet steps s Due tt)); told = λ x. sym (append-nil x.0) }
  turn_comes s (Goes p) = stretch_comes s p

  pub opening_comes : Comes sys quiet eq steps (first_arrival sys forget eq steps) (fold_opened quiet (teller sys) steps) (walked_opened quiet steps)
  unfolding first_arrival fold_opened walked_opened
  opening_comes = turn_comes quiet.start (turn_at quiet quiet.start false 0)

  pub choice_comes : (s : S) (p : ℕ) → Comes sys quiet eq steps (next_arrival sys forget eq steps s p) (fold_chosen quiet (teller sys) steps s p) (walked_chosen quiet steps s p)
  unfolding next_arrival fold_chosen walked_chosen
  choice_comes s p = by (sys.is_pending s)
    where
      t : S
      t = sys.admit s p

      by : (b : Bool) → Comes sys quiet eq steps (if b then arrival_by t (stretch_arrival sys forget eq steps t) (settled_turn quiet t true p) else stretch_arrival sys forget eq steps s p)
          (λ x. if b then fold_turn (fold_stretch quiet (teller sys) steps t) (settled_turn quiet t true p) x else fold_stretch quiet (teller sys) steps s p x)
          (if b then walked quiet steps t (settled_turn quiet t true p) else walked quiet steps s (Goes p))
      by true = turn_comes t (settled_turn quiet t true p)
      by false = stretch_comes s p

-- ---- and whatever was told before

module _ {S : Type 0} (sys quiet : System S) (eq : S → S → Bool) (steps : ℕ) where
  cut_goals : (t : S) (q : ℕ) (a b : List Shown) (o : Option ℕ) → (cut_arrival sys quiet a t q o).goal ≡ (cut_arrival sys quiet b t q o).goal
  cut_goals t q a b None = refl
  cut_goals t q a b (Some n) = refl

  cut_showns : (t : S) (q : ℕ) (a b : List Shown) (o : Option ℕ) → (cut_arrival sys quiet (a ++ b) t q o).shown ≡ a ++ (cut_arrival sys quiet b t q o).shown
  cut_showns t q a b None = refl
  cut_showns t q a b (Some n) = append_assoc a b (each (shown_at sys) (stretch_moments quiet (suc n) t q))

  halt_goals : (t : S) (turn : Turn) (a b : List Shown) → (halt_arrival sys quiet eq steps a t turn).goal ≡ (halt_arrival sys quiet eq steps b t turn).goal
  halt_goals t (Goes q) a b = cut_goals t q a b (return_within quiet eq t q steps)
  halt_goals t (Over kind) a b = refl
  halt_goals t Due a b = refl

  halt_showns : (t : S) (turn : Turn) (a b : List Shown) → (halt_arrival sys quiet eq steps (a ++ b) t turn).shown ≡ a ++ (halt_arrival sys quiet eq steps b t turn).shown
  halt_showns t (Goes q) a b = cut_showns t q a b (return_within quiet eq t q steps)
  halt_showns t (Over kind) a b = refl
  halt_showns t Due a b = refl

  module _ (whole : Arrival S code.End Shown) (on : List Shown × Bool → List Shown × Bool) (w : S × Turn) (t : S) (turn : Turn) (stands : w ≡ (t, turn)) (comes : Comes sys quiet eq steps whole on w) (x : List Shown × Bool) (told new : List Shown) (goal : Goal S code.End) (so_far : told ≡ (on x).0) (cut : halt_arrival sys quiet eq steps told t turn ≡ record { goal = goal; shown = new }) where
    there : whole ≡ halt_arrival sys quiet eq steps comes.shown t turn
    there = comes.is ∙ ap (λ (v : S × Turn). halt_arrival sys quiet eq steps comes.shown v.0 v.1) stands

    pub comes_to : goal ≡ whole.goal
    comes_to = sym (ap (λ a. a.goal) cut) ∙ halt_goals t turn told comes.shown ∙ ap (λ a. a.goal) (sym there)

    pub shows : new ≡ x.0 ++ whole.shown
    shows =
        sym (ap (λ a. a.shown) cut)
        ∙ ap (λ l. (halt_arrival sys quiet eq steps l t turn).shown) (so_far ∙ comes.told x)
        ∙ halt_showns t turn x.0 comes.shown
        ∙ ap (λ a. x.0 ++ a.shown) (sym there)

-- ---- a stretch that was cut

module _ {S : Type 0} (sys quiet : System S) (s : S) (p : ℕ) (o : Option ℕ) (old : List Shown) where
  -- what was told of no round is taken away again
  pub no_round : (mid new : List Shown) (n count : ℕ) → o ≡ None → mid ≡ (fold_stretch quiet (teller sys) n s p (old, false)).0 → count ≡ length old → new ≡ take count mid → cut_arrival sys quiet old s p o ≡ record { goal = End (end.Over StepLimit); shown = new }
  no_round mid new n count none told is cut =
      let more = each (shown_at sys) (stretch_moments quiet n s p) in
      ap (cut_arrival sys quiet old s p) none
      ∙ ap (λ l. record { goal = End (end.Over StepLimit); shown = l })
      (sym (cut ∙ ap (λ l. take count l) (told ∙ shown_in sys quiet n s p (old, false)) ∙ ap (λ k. take k (old ++ more)) is ∙ take-append_seam old more))

  -- the round is told
  pub round_told : (k : ℕ) (new : List Shown) (called : Bool) (e : code.End) → o ≡ Some k → new ≡ (fold_stretch quiet (teller sys) (suc k) s p (old, false)).0 → called ≡ (fold_stretch quiet (teller sys) (suc k) s p (old, false)).1 → e ≡ (if called then end.Alone p else end.Spins p) → cut_arrival sys quiet old s p o ≡ record { goal = End e; shown = new }
  round_told k new called e some told calls so =
      let ms = stretch_moments quiet (suc k) s p in
      let all = old ++ each (shown_at sys) ms in
      let is : called ≡ has_call quiet ms = calls ∙ called_in sys quiet (suc k) s p (old, false) ∙ none_else (has_call quiet ms) in
      ap (cut_arrival sys quiet old s p) some
      ∙ ap (λ b. record { goal = End (if b then end.Alone p else end.Spins p); shown = all }) (sym is)
      ∙ ap (λ x. record { goal = End x; shown = all }) (sym so)
      ∙ ap (λ l. record { goal = End e; shown = l }) (sym (told ∙ shown_in sys quiet (suc k) s p (old, false)))
    where
      none_else : (b : Bool) → (b || false) ≡ b
      none_else true = refl
      none_else false = refl
