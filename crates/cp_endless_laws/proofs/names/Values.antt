-- Two systems that go in step display the same values after each word.
use Rattle.std.proofs.Common.{◌≡◌, ◌∙◌, inl, inr, ℕ, zero, suc, Bool, true, false, if◌then◌else◌, List, ◌++◌, Some, refl, sym, ap, subst}
use Rattle.cp_endless_laws.proofs.Words.{Contains, Shown, Turn, Over, Due, Goes, System, Choosing, may, turn_at, turn_after, settled_turn, opened, each, CanGo, GoInStep}
use Rattle.cp_endless_laws.proofs.Words.{forgetting_system, Moment, moments, moments_by, stretch_moments, IfGoes, turn_same}
use Rattle.cp_machine_laws.proofs.Alike.{goes_on, goes_same, may_same, may_go, may_enter, admitted_same, admitted_goes, opening_goes}
use Rattle.cp_endless_laws.specs.Meaning.{ShowsTheSame}
use Rattle.cp_endless_laws.specs.Shown.{ShowsAfter, shown_at, shown_first, shown_then}
use Rattle.cp_endless_laws.proofs.names.Together.{ChoicesAlike, turned, after_there, choosing_alike}
use Rattle.cp_endless_laws.proofs.names.Going.{Leaves, can_go, silent_in_step, in_choices}

shown_by : {S T : Type 0} (P : ℕ → Type 0) (f : Moment S → List Shown) (g : Moment T → List Shown) (on : ℕ → List (Moment S)) (un : ℕ → List (Moment T)) (u v : Turn) → u ≡ v → IfGoes u P → ((q : ℕ) → P q → each f (on q) ≡ each g (un q)) → each f (moments_by on u) ≡ each g (moments_by un v)
shown_by P f g on un u v e i k = same u i k ∙ ap (λ (w : Turn). each g (moments_by un w)) e
  where
    same : (u : Turn) → IfGoes u P → ((q : ℕ) → P q → each f (on q) ≡ each g (un q)) → each f (moments_by on u) ≡ each g (moments_by un u)
    same (Over kind) i k = refl
    same Due i k = refl
    same (Goes q) i k = k q i

module _ {S T : Type 0} (a : System S) (b : System T) (R : S → T → Type 0) (go : GoInStep a b R) (fa : S → S) (fb : T → T) (keeps : (s : S) (t : T) → R s t → R (fa s) (fb t)) (leaves : Leaves a fa) where
  abbrev qa : System S
  qa = forgetting_system a fa

  abbrev qb : System T
  qb = forgetting_system b fb

  gone : GoInStep qa qb R
  gone = silent_in_step a b R go fa fb keeps leaves

  stretch_shown : (left : ℕ) (s : S) (t : T) (p : ℕ) → R s t → CanGo qa s p → each (shown_at a) (stretch_moments qa left s p) ≡ each (shown_at b) (stretch_moments qb left t p)
  unfolding stretch_moments
  stretch_shown zero s t p r c = refl
  stretch_shown (suc left) s t p r c =
      let real = go.step s t p r (can_go a b R go fa fb keeps leaves s p c) in
      ap (λ (x : List Shown). x ++ each (shown_at a) (moments_by (stretch_moments qa left (qa.step s p)) (turn_after qa (qa.step s p) p (qa.event s p)))) (go.alike (a.step s p) (b.step t p) real).output
      ∙ ap (λ (x : List Shown). b.output (b.step t p) ++ x)
      (shown_by (CanGo qa (qa.step s p)) (shown_at a) (shown_at b) (stretch_moments qa left (qa.step s p)) (stretch_moments qb left (qb.step t p)) (turn_after qa (qa.step s p) p (qa.event s p)) (turn_after qb (qb.step t p) p (qb.event t p))
      (goes_same qa qb R gone s t p r c) (goes_on qa qb R gone s t p r c) (λ q d. stretch_shown left (qa.step s p) (qb.step t p) q (gone.step s t p r c) d))

  first_shown : (steps : ℕ) → shown_first a fa steps ≡ shown_first b fb steps
  first_shown steps =
      shown_by (CanGo qa qa.start) (shown_at a) (shown_at b) (stretch_moments qa steps qa.start) (stretch_moments qb steps qb.start) (turn_at qa qa.start false 0) (turn_at qb qb.start false 0)
      (turn_same qa qb qa.start qb.start false 0 gone.processes (gone.alike qa.start qb.start gone.start)) (opening_goes qa qb R gone) (λ q d. stretch_shown steps qa.start qb.start q gone.start d)

  then_shown : (steps : ℕ) (s : S) (t : T) (p : ℕ) → R s t → may a s p ≡ true → shown_then a fa steps s p ≡ shown_then b fb steps t p
  unfolding moments may
  then_shown steps s t p r m =
      by (a.is_pending s) refl
      ∙ ap (λ (c : Bool). each (shown_at b) (if c then moments_by (stretch_moments qb steps (b.admit t p)) (settled_turn qb (b.admit t p) true p) else stretch_moments qb steps t p)) (go.alike s t r).pending
    where
      by : (c : Bool) → a.is_pending s ≡ c → each (shown_at a) (if c then moments_by (stretch_moments qa steps (a.admit s p)) (settled_turn qa (a.admit s p) true p) else stretch_moments qa steps s p) ≡ each (shown_at b) (if c then moments_by (stretch_moments qb steps (b.admit t p)) (settled_turn qb (b.admit t p) true p) else stretch_moments qb steps t p)
      by false e = stretch_shown steps s t p r (may_go qa s p e m)
      by true e =
          let c = may_enter qa s p e m in
          shown_by (CanGo qa (a.admit s p)) (shown_at a) (shown_at b) (stretch_moments qa steps (a.admit s p)) (stretch_moments qb steps (b.admit t p)) (settled_turn qa (a.admit s p) true p) (settled_turn qb (b.admit t p) true p)
          (admitted_same qa qb R gone s t p r c) (admitted_goes qa qb R gone s t p r c) (λ q d. stretch_shown steps (a.admit s p) (b.admit t p) q (gone.admit s t p r c) d)

  alike : (steps : ℕ) → ChoicesAlike qa qb steps R (λ s t p. R s t × CanGo qa s p)
  alike steps = in_choices qa qb R gone steps

  shows_there : (steps : ℕ) (word : List ℕ) (v : Shown) → ShowsAfter a fa steps word v → ShowsAfter b fb steps word v
  shows_there steps word v (inl x) = inl (x.0, subst (λ (vs : List Shown). Contains vs v) (first_shown steps) x.1)
  shows_there steps word v (inr x) =
      let l = after_there qa qb steps R (λ s t p. R s t × CanGo qa s p) (alike steps) x.0 (opened qa steps) (Choosing x.2) (opened qb steps) (alike steps).begins x.4 in
      let c = choosing_alike R x.2 l.0 l.2 in
      inr (x.0, x.1, c.0, x.3, l.1 ∙ ap Some c.1, sym (may_same a b x.2 c.0 go.processes (go.alike x.2 c.0 c.2) x.1) ∙ x.5, subst (λ (vs : List Shown). Contains vs v) (then_shown steps x.2 c.0 x.1 c.2 x.5) x.6)

  shows_back : (steps : ℕ) (word : List ℕ) (v : Shown) → ShowsAfter b fb steps word v → ShowsAfter a fa steps word v
  shows_back steps word v (inl x) = inl (x.0, subst (λ (vs : List Shown). Contains vs v) (sym (first_shown steps)) x.1)
  shows_back steps word v (inr x) =
      let back = turned qa qb steps R (λ s t p. R s t × CanGo qa s p) (alike steps) in
      let l = after_there qb qa steps (λ t s. R s t) (λ t s p. R s t × CanGo qa s p) back x.0 (opened qb steps) (Choosing x.2) (opened qa steps) back.begins x.4 in
      let c = choosing_alike (λ t s. R s t) x.2 l.0 l.2 in
      let m = may_same a b c.0 x.2 go.processes (go.alike c.0 x.2 c.2) x.1 ∙ x.5 in
      inr (x.0, x.1, c.0, x.3, l.1 ∙ ap Some c.1, m, subst (λ (vs : List Shown). Contains vs v) (sym (then_shown steps c.0 x.2 x.1 c.2 m)) x.6)

pub shows_the_same : {S T : Type 0} (a : System S) (b : System T) (R : S → T → Type 0) → GoInStep a b R → (fa : S → S) (fb : T → T) → ((s : S) (t : T) → R s t → R (fa s) (fb t)) → Leaves a fa → (steps : ℕ) → ShowsTheSame a b fa fb steps
shows_the_same a b R go fa fb keeps leaves steps = record { there = shows_there a b R go fa fb keeps leaves steps; back = shows_back a b R go fa fb keeps leaves steps }
