-- Two systems that go in step, where forgetting keeps them so, are alike from choice to choice.
use Rattle.std.proofs.Common.{◌≡◌, ◌∙◌, ℕ, zero, suc, Bool, true, false, if◌then◌else◌, List, refl, sym, subst, Option, Some}
use Rattle.cp_endless_laws.proofs.Words.{Turn, Over, Due, Goes, System, may, turn_after, settled_turn, turn_at, forgetting_system, Moment, moments, moments_by}
use Rattle.cp_endless_laws.proofs.Words.{stretch_moments, chosen_spot, opening_spot, spot_after, spot_by, IfGoes, turn_same}
use Rattle.cp_machine_laws.specs.InStep.{CanGo, CanEnter, GoInStep}
use Rattle.cp_machine_laws.proofs.Alike.{goes_on, goes_same, openings, may_same, may_go, may_enter, admitted_same, admitted_goes, choices_alike, opening_goes}
use Rattle.cp_endless_laws.proofs.names.Together.{MomentsAlike, ChoicesAlike, SpotsAlike}

moments_on : {S T : Type 0} (R : S → T → Type 0) (P : ℕ → Type 0) (on : ℕ → List (Moment S)) (un : ℕ → List (Moment T)) (u v : Turn) → u ≡ v → IfGoes u P → ((q : ℕ) → P q → MomentsAlike R (on q) (un q)) → MomentsAlike R (moments_by on u) (moments_by un v)
moments_on {S} {T} R P on un u v e r k = subst (λ (w : Turn). MomentsAlike R (moments_by on u) (moments_by un w)) e (same u r)
  where
    same : (u : Turn) → IfGoes u P → MomentsAlike R (moments_by on u) (moments_by un u)
    same (Over kind) i = tt
    same Due i = tt
    same (Goes q) i = k q i

module _ {S T : Type 0} (a : System S) (b : System T) (R : S → T → Type 0) (go : GoInStep a b R) where
  stretch_alike : (left : ℕ) (s : S) (t : T) (p : ℕ) → R s t → CanGo a s p → MomentsAlike R (stretch_moments a left s p) (stretch_moments b left t p)
  unfolding stretch_moments
  stretch_alike zero s t p r c = tt
  stretch_alike (suc left) s t p r c =
      let k = go.step s t p r c in (
        refl,
        r,
        moments_on R (CanGo a (a.step s p)) (stretch_moments a left (a.step s p)) (stretch_moments b left (b.step t p)) (turn_after a (a.step s p) p (a.event s p)) (turn_after b (b.step t p) p (b.event t p))
            (goes_same a b R go s t p r c) (goes_on a b R go s t p r c) (λ q d. stretch_alike left (a.step s p) (b.step t p) q k d),
      )

  happens : (steps : ℕ) (s : S) (t : T) (p : ℕ) → R s t → may a s p ≡ true → MomentsAlike R (moments a steps s p) (moments b steps t p)
  unfolding moments
  happens steps s t p r m = subst (λ (c : Bool). MomentsAlike R (if a.is_pending s then left else stretch_moments a steps s p) (if c then right else stretch_moments b steps t p)) (go.alike s t r).pending (by (a.is_pending s) refl)
    where
      left : List (Moment S)
      left = moments_by (stretch_moments a steps (a.admit s p)) (settled_turn a (a.admit s p) true p)

      right : List (Moment T)
      right = moments_by (stretch_moments b steps (b.admit t p)) (settled_turn b (b.admit t p) true p)

      by : (c : Bool) → a.is_pending s ≡ c → MomentsAlike R (if c then left else stretch_moments a steps s p) (if c then right else stretch_moments b steps t p)
      by false e = stretch_alike steps s t p r (may_go a s p e m)
      by true e =
          let c = may_enter a s p e m in
          let k = go.admit s t p r c in
          moments_on R (CanGo a (a.admit s p)) (stretch_moments a steps (a.admit s p)) (stretch_moments b steps (b.admit t p)) (settled_turn a (a.admit s p) true p) (settled_turn b (b.admit t p) true p)
          (admitted_same a b R go s t p r c) (admitted_goes a b R go s t p r c) (λ q d. stretch_alike steps (a.admit s p) (b.admit t p) q k d)

  -- ---- from step to step

  abbrev V : S → T → ℕ → Type 0
  V s t p = R s t × CanGo a s p

  spots_by : (s : S) (t : T) (u v : Turn) → u ≡ v → R s t → IfGoes u (CanGo a s) → SpotsAlike V (spot_by s (λ q. Some (s, q)) u) (spot_by t (λ q. Some (t, q)) v)
  spots_by s t u v e r k = subst (λ (w : Turn). SpotsAlike V (spot_by s (λ q. Some (s, q)) u) (spot_by t (λ q. Some (t, q)) w)) e (same u k)
    where
      same : (u : Turn) → IfGoes u (CanGo a s) → SpotsAlike V (spot_by s (λ q. Some (s, q)) u) (spot_by t (λ q. Some (t, q)) u)
      same (Over kind) i = tt
      same Due i = tt
      same (Goes q) i = (refl, (r, i))

  first_spots : SpotsAlike V (opening_spot a) (opening_spot b)
  first_spots = spots_by a.start b.start (turn_at a a.start false 0) (turn_at b b.start false 0) (turn_same a b a.start b.start false 0 go.processes (go.alike a.start b.start go.start)) go.start (opening_goes a b R go)

  then_spots : (s : S) (t : T) (p : ℕ) → R s t → may a s p ≡ true → SpotsAlike V (chosen_spot a s p) (chosen_spot b t p)
  then_spots s t p r m = subst (λ (c : Bool). SpotsAlike V (if a.is_pending s then left else Some (s, p)) (if c then right else Some (t, p))) (go.alike s t r).pending (by (a.is_pending s) refl)
    where
      left : Option (S × ℕ)
      left = spot_by (a.admit s p) (λ q. Some (a.admit s p, q)) (settled_turn a (a.admit s p) true p)

      right : Option (T × ℕ)
      right = spot_by (b.admit t p) (λ q. Some (b.admit t p, q)) (settled_turn b (b.admit t p) true p)

      by : (c : Bool) → a.is_pending s ≡ c → SpotsAlike V (if c then left else Some (s, p)) (if c then right else Some (t, p))
      by false e = (refl, (r, may_go a s p e m))
      by true e =
          let c = may_enter a s p e m in
          spots_by (a.admit s p) (b.admit t p) (settled_turn a (a.admit s p) true p) (settled_turn b (b.admit t p) true p) (admitted_same a b R go s t p r c) (go.admit s t p r c) (admitted_goes a b R go s t p r c)

  on_spots : (s : S) (t : T) (p : ℕ) → R s t → CanGo a s p → SpotsAlike V (spot_after a 1 s p) (spot_after b 1 t p)
  on_spots s t p r c = spots_by (a.step s p) (b.step t p) (turn_after a (a.step s p) p (a.event s p)) (turn_after b (b.step t p) p (b.event t p)) (goes_same a b R go s t p r c) (go.step s t p r c) (goes_on a b R go s t p r c)

  pub in_choices : (steps : ℕ) → ChoicesAlike a b steps R (λ s t p. R s t × CanGo a s p)
  in_choices steps =
      record {
        processes = go.processes;
        begins = openings a b R go steps;
        same = λ s t p r. may_same a b s t go.processes (go.alike s t r) p;
        goes = λ s t p r m. choices_alike a b R go steps s t p r m;
        happens = happens steps;
        ready = λ s t q r less. (go.alike s t r).ready q less;
        spots_first = first_spots;
        spots_then = then_spots;
        spots_on = λ s t p v. on_spots s t p v.0 v.1;
        spots_are = λ s t p v. v.0;
      }

-- ---- where nothing is shown

-- forgetting changes nothing that is asked before a step
pub record Leaves {S : Type 0} (sys : System S) (forget : S → S) : Type 0 where
  pub ready : (s : S) (p : ℕ) → sys.is_ready (forget s) p ≡ sys.is_ready s p
  pub pending : (s : S) → sys.is_pending (forget s) ≡ sys.is_pending s

module _ {S T : Type 0} (a : System S) (b : System T) (R : S → T → Type 0) (go : GoInStep a b R) (fa : S → S) (fb : T → T) (keeps : (s : S) (t : T) → R s t → R (fa s) (fb t)) (leaves : Leaves a fa) where
  pub can_go : (s : S) (p : ℕ) → CanGo (forgetting_system a fa) s p → CanGo a s p
  can_go s p c = record { below = c.below; ready = c.ready; free = c.free }

  can_enter : (s : S) (p : ℕ) → CanEnter (forgetting_system a fa) s p → CanEnter a s p
  can_enter s p c = record { below = c.below; due = c.due; lined = c.lined }

  begins_silently : a.is_pending (fa a.start) ≡ false → CanGo (forgetting_system a fa) (fa a.start) 0
  begins_silently e = let c = go.begins (sym (leaves.pending a.start) ∙ e) in record { below = c.below; ready = leaves.ready a.start 0 ∙ c.ready; free = e }

  pub silent_in_step : GoInStep (forgetting_system a fa) (forgetting_system b fb) R
  silent_in_step =
      record {
        processes = go.processes;
        monitors = go.monitors;
        start = keeps a.start b.start go.start;
        begins = begins_silently;
        alike = λ s t r. (let h = go.alike s t r in record { ready = h.ready; pending = h.pending; lined = h.lined; waits = h.waits; holder = h.holder; output = h.output });
        step = λ s t p r c. keeps (a.step s p) (b.step t p) (go.step s t p r (can_go s p c));
        event = λ s t p r c. go.event s t p r (can_go s p c);
        stays = λ s t p r c e. leaves.ready (a.step s p) p ∙ go.stays s t p r (can_go s p c) e;
        admit = λ s t p r c. go.admit s t p r (can_enter s p c);
        admitted = λ s t p r c. go.admitted s t p r (can_enter s p c);
      }
