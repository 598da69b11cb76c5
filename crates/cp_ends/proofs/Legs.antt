-- Where legs come to, by where their stretches stand after as many steps as the limit, and what is seen of them.
use Rattle.std.proofs.Common.{◌≡◌, ◌∙◌, ◌<◌, ℕ, zero, suc, Bool, true, false, if◌then◌else◌, List, [], ◌∷◌, ◌++◌, Option, None, Some, append-nil, append_assoc, refl, sym, ap, subst}
use Rattle.cp_ends.proofs.Vocabulary.{Turn, System, Moment, Tables, Discipline, Machine, silent_slots, same_key, same_Some as some_same}
use Rattle.cp_run.specs.declared.outcome.Halt.TheVariants.{Choice, Ended}
use Rattle.cp_run.specs.declared.outcome.OutcomeKind.{OutcomeKind}
use Rattle.cp_run.specs.declared.outcome.Turn.TheVariants.{Over, Due, Goes}
use Rattle.cp_run.specs.Fold.{Fold, beside, fold_chosen, fold_opened, fold_stretch, fold_turn, walked, walked_chosen, walked_opened}
use Rattle.cp_run.specs.Run.{node_at, turn_after, settled_turn, turn_at, stretch, opened, chosen}
use Rattle.cp_run.proofs.Walking.{halts_so, walked_up}
use Rattle.cp_endless_laws.specs.Moments.{moments_by, stretch_moments, moments}
use Rattle.cp_endless_laws.specs.Rounds.{spot_after, spot_by}
use Rattle.cp_ends.proofs.Halting.{spot_at, spot_walked}
use Rattle.cp_ends.proofs.Stretches.{moments_there}
use Rattle.cp_ends.proofs.named.Keys.{key_same, key_self}
use Rattle.cp_ends.proofs.words.Returns.{IsFound, return_found}
use Rattle.cp_ends.specs.Arrivals.{return_within}
use Rattle.cp_ends.specs.Legs.{Leg, turn_leg, first_leg, choice_leg, IsHalted, ComesTo, SeesRound, seer}

none_some : {A : Type 0} (x : A) → None ≡ Some x → ⊥
none_some x e = cc

no_turn : (kind : OutcomeKind) (q : ℕ) → Over kind ≡ Goes q → ⊥
no_turn kind q e = cc

no_due : (q : ℕ) → Due ≡ Goes q → ⊥
no_due q e = cc

module _ {S : Type 0} (sys : System S) where
  -- ---- legs by the turn before their first step

  abbrev pub SetsOutBy : Leg S → S × Turn → ℕ → Type 0
  SetsOutBy leg w steps = (s : S) × (first : Turn) × (leg ≡ turn_leg sys steps s first) × (w ≡ walked sys steps s first)

  pub first_sets_out : (steps : ℕ) → SetsOutBy (first_leg sys steps) (walked_opened sys steps) steps
  unfolding opened walked_opened
  first_sets_out steps = (sys.start, turn_at sys sys.start false 0, refl, refl)

  pub choice_sets_out : (steps : ℕ) (s : S) (p : ℕ) → SetsOutBy (choice_leg sys steps s p) (walked_chosen sys steps s p) steps
  unfolding chosen moments walked_chosen
  choice_sets_out steps s p = by (sys.is_pending s)
    where
      t : S
      t = sys.admit s p

      turn : Turn
      turn = settled_turn sys t true p

      leg_if : Bool → Leg S
      leg_if b =
          record {
            node = if b then node_at t (stretch sys steps t) turn else stretch sys steps s p;
            spot = if b then spot_by t (λ q. Some (t, q)) turn else Some (s, p);
            moments = λ n. if b then moments_by (stretch_moments sys n t) turn else stretch_moments sys n s p;
          }

      by : (b : Bool) → SetsOutBy (leg_if b) (if b then walked sys steps t turn else walked sys steps s (Goes p)) steps
      by true = (t, turn, refl, refl)
      by false = (s, Goes p, refl, refl)

  -- ---- what is seen of them, beside what else is made of them

  abbrev Sight : Type 0
  Sight = List S × List (Moment S)

  module _ {X : Type 0} (f : Fold S X) where
    abbrev both : Fold S (X × Sight)
    both = beside f seer

    -- of the steps after a turn
    abbrev sees_more : (X → X) → List (Moment S) → X × Sight → X × Sight
    sees_more on ms x = (on x.0, (x.1.0, x.1.1 ++ ms))

    on_turn : (on : ℕ → X × Sight → X × Sight) (first : ℕ → X → X) (ms : ℕ → List (Moment S)) (turn : Turn) (x : X × Sight) → ((q : ℕ) (y : X × Sight) → on q y ≡ sees_more (first q) (ms q) y) → fold_turn on turn x ≡ sees_more (fold_turn first turn) (moments_by ms turn) x
    on_turn on first ms (Goes q) x h = h q x
    on_turn on first ms (Over kind) x h = ap (λ l. (x.0, (x.1.0, l))) (sym (append-nil x.1.1))
    on_turn on first ms Due x h = ap (λ l. (x.0, (x.1.0, l))) (sym (append-nil x.1.1))

    pub sees_stretch : (n : ℕ) (s : S) (p : ℕ) (x : X × Sight) → fold_stretch sys both n s p x ≡ sees_more (fold_stretch sys f n s p) (stretch_moments sys n s p) x
    unfolding fold_stretch stretch_moments
    sees_stretch zero s p x = ap (λ l. (x.0, (x.1.0, l))) (sym (append-nil x.1.1))
    sees_stretch (suc n) s p x =
        let t = sys.step s p in
        let turn = turn_after sys t p (sys.event s p) in
        let m : Moment S = record { state = s; mover = p } in
        let y = f.on_step s p (sys.event s p) t x.0 in
        on_turn (fold_stretch sys both n t) (fold_stretch sys f n t) (stretch_moments sys n t) turn (y, (x.1.0, x.1.1 ++ m ∷ [])) (sees_stretch n t)
        ∙ ap (λ l. (fold_turn (fold_stretch sys f n t) turn y, (x.1.0, l))) (append_assoc x.1.1 (m ∷ []) (moments_by (stretch_moments sys n t) turn))

    pub sees_opening : (steps : ℕ) (x : X × Sight) → fold_opened sys both steps x ≡ sees_more (fold_opened sys f steps) ((first_leg sys steps).moments steps) x
    unfolding fold_opened
    sees_opening steps x = on_turn (fold_stretch sys both steps sys.start) (fold_stretch sys f steps sys.start) (stretch_moments sys steps sys.start) (turn_at sys sys.start false 0) x (sees_stretch steps sys.start)

    pub sees_choice : (steps : ℕ) (s : S) (p : ℕ) (x : X × Sight) → fold_chosen sys both steps s p x ≡ sees_more (fold_chosen sys f steps s p) ((choice_leg sys steps s p).moments steps) x
    unfolding fold_chosen moments
    sees_choice steps s p x = by (sys.is_pending s)
      where
        t : S
        t = sys.admit s p

        turn : Turn
        turn = settled_turn sys t true p

        by : (b : Bool) →
            (if b then fold_turn (fold_stretch sys both steps t) turn (f.on_admission p t x.0, x.1) else fold_stretch sys both steps s p x) ≡
            sees_more (λ y. if b then fold_turn (fold_stretch sys f steps t) turn (f.on_admission p t y) else fold_stretch sys f steps s p y) (if b then moments_by (stretch_moments sys steps t) turn else stretch_moments sys steps s p) x
        by true = on_turn (fold_stretch sys both steps t) (fold_stretch sys f steps t) (stretch_moments sys steps t) turn (f.on_admission p t x.0, x.1) (sees_stretch steps t)
        by false = sees_stretch steps s p x

  -- ---- where they come to

  -- where its stretch stands, wherever it begins
  stands : (n : ℕ) (s : S) (first : Turn) (b : S) (f : ℕ) → spot_by s (λ q. Some (s, q)) first ≡ Some (b, f) → spot_after sys n b f ≡ spot_at sys (walked sys n s first)
  stands n s (Goes q) b f at = ap (λ (x : S × ℕ). spot_after sys n x.0 x.1) (sym (some_same (s, q) (b, f) at)) ∙ spot_walked sys n s (Goes q)
  stands n s x b f at = absurd (cc)

  module _ {W : Type 0} (sees : W → List S → List (Moment S) → Type 0) (steps : ℕ) (due : List S) (new : W) (s m : S) where
    abbrev leg_by : Turn → Leg S
    leg_by first = turn_leg sys steps s first

    abbrev Sees : List (Moment S) → Type 0
    Sees ms = sees new due ms

    module _ (first : Turn) where
      -- a choice is due there
      pub comes_to_choice : walked sys steps s first ≡ (m, Due) → Sees ((leg_by first).moments steps) → ComesTo sys sees steps (leg_by first) due new Choice m
      comes_to_choice there seen = (halts_so sys steps s first m Due there, seen)

      -- the run is over
      pub comes_to_end : (kind : OutcomeKind) → walked sys steps s first ≡ (m, Over kind) → Sees ((leg_by first).moments steps) → ComesTo sys sees steps (leg_by first) due new (Ended None) m
      comes_to_end kind there seen = (
        record {
          halted = subst IsHalted (sym (halts_so sys steps s first m (Over kind) there)) tt;
          never = λ b f at x. none_some (x.state, x.process) (sym (stands steps s first b f at ∙ ap (spot_at sys) there) ∙ x.comes);
        },
        seen,
      )

      -- all steps are made, and it does not come again
      pub cut_for_good : (q : ℕ) (t : S) → walked sys steps s first ≡ (m, Goes q) → ((k : ℕ) → k < steps → spot_after sys (suc k) m q ≡ Some (m, q) → ⊥) → Sees ((leg_by first).moments steps) → ComesTo sys sees steps (leg_by first) due new (Ended None) t
      cut_for_good q t there none seen = (
        record {
          halted = subst IsHalted (sym (halts_so sys steps s first m (Goes q) there)) tt;
          never = λ b f at x.
              (let here = some_same (m, q) (x.state, x.process) (sym (stands steps s first b f at ∙ ap (spot_at sys) there) ∙ x.comes) in
              none x.after x.soon (subst (λ (y : S × ℕ). spot_after sys (suc x.after) y.0 y.1 ≡ Some y) (sym here) x.returns));
        },
        seen,
      )

    -- all steps are made, and it comes again
    pub comes_again : (first : Turn) (q k : ℕ) (t : S) (again : W) → walked sys steps s first ≡ (m, Goes q) → k < steps → spot_after sys (suc k) m q ≡ Some (m, q) → sees again [] (stretch_moments sys (suc k) m q) →
        Sees ((leg_by first).moments steps ++ stretch_moments sys (suc k) m q) → ComesTo sys sees steps (leg_by first) due new (Ended (Some again)) t
    comes_again (Goes p) q k t again there soon back round seen =
        let here : spot_after sys steps s p ≡ Some (m, q) = spot_walked sys steps s (Goes p) ∙ ap (spot_at sys) there in (
          record {
            halted = subst IsHalted (sym (halts_so sys steps s (Goes p) m (Goes q) there)) tt;
            begin = s;
            first = p;
            spot = refl;
            repeats = record { state = m; process = q; comes = here; after = k; soon = soon; returns = back };
            seen = round;
          },
          subst Sees (sym (moments_there sys steps (suc k) s p m q here)) seen,
        )
    comes_again (Over kind) q k t again there soon back round seen = absurd (no_turn kind q (ap (λ (w : S × Turn). w.1) (sym (walked_up sys steps s (Over kind) tt) ∙ there)))
    comes_again Due q k t again there soon back round seen = absurd (no_due q (ap (λ (w : S × Turn). w.1) (sym (walked_up sys steps s Due tt) ∙ there)))

-- ---- the round of a stretch that was cut

-- it comes again as is found
pub comes_back : (r : Tables) (discipline : Discipline) (steps : ℕ) (m : Machine) (p : ℕ) (found : Option ℕ) → return_within (silent_slots r discipline) same_key m p steps ≡ found → IsFound (silent_slots r discipline) same_key key_same key_self m p steps found
comes_back r discipline steps m p found is = subst (IsFound (silent_slots r discipline) same_key key_same key_self m p steps) is (return_found (silent_slots r discipline) same_key key_same key_self m p steps)

-- where a stretch came to of which all steps are made
pub leg_cut : {W : Type 0} (r : Tables) (discipline : Discipline) (sees : W → List Machine → List (Moment Machine) → Type 0) (steps : ℕ) (due : List Machine) (old new : W) (again : Option W) (s m t : Machine) (first : Turn) (q : ℕ) →
    walked (silent_slots r discipline) steps s first ≡ (m, Goes q) → sees old due ((turn_leg (silent_slots r discipline) steps s first).moments steps) → SeesRound sees r discipline steps m q old new again →
    ComesTo (silent_slots r discipline) sees steps (turn_leg (silent_slots r discipline) steps s first) due new (Ended again) t
leg_cut r discipline sees steps due old new None s m t first q there seen round =
    let quiet = silent_slots r discipline in
    cut_for_good quiet sees steps due new s m first q t there round.0 (subst (λ w. sees w due ((turn_leg quiet steps s first).moments steps)) (sym round.1) seen)
leg_cut r discipline sees steps due old new (Some again) s m t first q there seen round =
    let quiet = silent_slots r discipline in
    comes_again quiet sees steps due new s m first q round.0 t again there round.1 round.2 round.3 (round.4 due ((turn_leg quiet steps s first).moments steps) seen)
