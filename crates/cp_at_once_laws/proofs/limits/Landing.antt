-- A leg of a process that stands in a stretch which is gone through comes to what is gone through: to a choice, to an end, or on in this stretch.
use Rattle.std.proofs.Common.{◌≡◌, ◌⊎◌, ◌<◌, ◌&&◌, inl, inr, ◌∙◌, ◌+◌, ℕ, Bool, true, false, if◌then◌else◌, [], ◌∷◌, Some, ap, sym, refl, subst}
use Rattle.cp_at_once_laws.proofs.Words.{Local, OutcomeKind, Finished, AllWaiting, Turn, Over, Goes, System, may, settled_turn, turn_at, turn_after, spot_after, spot_by}
use Rattle.cp_at_once_laws.proofs.Words.{from_there, Leg, calls, after_local, Commutes, may_go}
use Rattle.std.proofs.lemmas.Bool.{lt-ltb}
use Rattle.cp_at_once_laws.specs.Through.{IsTurnKnown, IsOpeningKnown, FollowsEach, HasQuietLeg, FollowsOne, GoesThrough, IsPlain}
use Rattle.cp_at_once_laws.proofs.search.Front.{as_leg}
use Rattle.cp_at_once_laws.proofs.limits.Turns.{CallTurn, nobody, alone, choice, ready_in, call_turn, local_turn, which_turn, none_ready, one_ready, head_ready}
use Rattle.cp_at_once_laws.proofs.limits.Closed.{EachLeg, OneLeg}

module _ {S : Type 0} (sys : System S) where
  -- one step more of a stretch
  pub one_more : (n : ℕ) (b : S) (f : ℕ) (s : S) (q r : ℕ) → spot_after sys n b f ≡ Some (s, q) → turn_after sys (sys.step s q) q (sys.event s q) ≡ Goes r → spot_after sys (n + 1) b f ≡ Some (sys.step s q, r)
  one_more n b f s q r e turn = from_there sys n 1 b f s q e ∙ ap (spot_by (sys.step s q) (spot_after sys 0 (sys.step s q))) turn

  pub may_ready : (s : S) (p : ℕ) → sys.is_pending s ≡ false → p < sys.processes → sys.is_ready s p ≡ true → may sys s p ≡ true
  unfolding may
  may_ready s p free less ready = ap (λ (b : Bool). b && (if sys.is_pending s then sys.in_line s p else sys.is_ready s p)) (lt-ltb p sys.processes less) ∙ ap (λ (b : Bool). if b then sys.in_line s p else sys.is_ready s p) free ∙ ready

  -- a process that stands in a stretch which is gone through
  pub record Stands (begun : ℕ → S → ℕ → Type 0) (s : S) (q : ℕ) : Type 0 where
    pub left : ℕ
    pub begin : S
    pub first : ℕ
    pub gone : begun left begin first
    pub after : ℕ
    pub stands : spot_after sys after begin first ≡ Some (s, q)

module _ {S : Type 0} (sys : System S) (Met : S → Type 0) (Quiet : S → ℕ → Type 0) (law : Commutes sys Met Quiet) (plain : IsPlain sys Met) where
  pub local_goes : (s : S) (q : ℕ) → Met s → sys.is_ready s q ≡ true → sys.event s q ≡ Local → turn_after sys (sys.step s q) q (sys.event s q) ≡ Goes q
  local_goes s q met ready e =
      let t = sys.step s q in
      let there = law.kept s q met ready in
      let still = law.goes_on s q met ready e in
      ap (turn_after sys t q) e ∙ local_turn sys t q (plain.free t there) (plain.below t q there still) still

  module _ (among : ℕ → S → Type 0) (begun : ℕ → S → ℕ → Type 0) (known : OutcomeKind → Type 0) (through : GoesThrough sys (HasQuietLeg sys Quiet) among begun known) where
    -- ---- what is gone through leg by leg

    pub record Alone (c : ℕ) (s : S) : Type 0 where
      pub process : ℕ
      pub ready : sys.is_ready s process ≡ true
      pub only : (p : ℕ) → p < sys.processes → sys.is_ready s p ≡ true → p ≡ process
      pub begin : S
      pub first : ℕ
      pub gone : begun c begin first
      pub after : ℕ
      pub stands : spot_after sys after begin first ≡ Some (s, process)

    pub record AtEnd (s : S) : Type 0 where
      pub nobody : ready_in sys s ≡ []
      pub told : IsTurnKnown (λ t. Unit {0}) known s (if sys.waits s then Over AllWaiting else Over Finished)

    abbrev pub R : ℕ → S → Type 0
    R c s = (among c s × ((q : ℕ) × (sys.is_ready s q ≡ true))) ⊎ Alone c s ⊎ AtEnd s

    abbrev pub Taken : S → ℕ → Type 0
    Taken s q = Stands sys begun s q

    -- ---- a leg

    by_turn : (c : ℕ) (b : S) (f n : ℕ) (s : S) (q : ℕ) → begun c b f → spot_after sys n b f ≡ Some (s, q) → (turn : Turn) → turn_after sys (sys.step s q) q (sys.event s q) ≡ turn → CallTurn sys (sys.step s q) q turn → IsTurnKnown (among c) known (sys.step s q) turn → R c (sys.step s q)
    by_turn c b f n s q g e _ turn (nobody none) k = inr (inr (record { nobody = none; told = ended (sys.waits (sys.step s q)) k }))
      where
        ended : (w : Bool) → IsTurnKnown (among c) known (sys.step s q) (if w then Over AllWaiting else Over Finished) → IsTurnKnown (λ t. Unit {0}) known (sys.step s q) (if w then Over AllWaiting else Over Finished)
        ended true k = k
        ended false k = k
    by_turn c b f n s q g e _ turn (alone r one) k = inr (inl (record { process = r; ready = (head_ready sys (sys.step s q) r [] one).1; only = λ p less ready. one_ready sys (sys.step s q) p r one less ready; begin = b; first = f; gone = g; after = n + 1; stands = one_more sys n b f s q r e turn }))
    by_turn c b f n s q g e _ turn (choice r x xs more) k = inl (k, (r, (head_ready sys (sys.step s q) r (x ∷ xs) more).1))

    pub lands : (s : S) (q : ℕ) (t : S) → Leg sys s q t → Met s → sys.is_ready s q ≡ true → (c : ℕ) (b : S) (f n : ℕ) → begun c b f → spot_after sys n b f ≡ Some (s, q) → R c t
    lands _ _ _ (calls s q h) met ready c b f n g e =
        let t = sys.step s q in
        let turn = call_turn sys t q (sys.event s q) (plain.free t (law.kept s q met ready)) h in
        by_turn c b f n s q g e (settled_turn sys t true q) turn (which_turn sys t q) (subst (IsTurnKnown (among c) known t) turn (through.stretch c b f n s q g e))
    lands _ _ _ (after_local s q t h l) met ready c b f n g e = lands (sys.step s q) q t l (law.kept s q met ready) (law.goes_on s q met ready h) c b f (n + 1) g (one_more sys n b f s q q e (local_goes s q met ready h))

    -- ---- closed

    follows_each : (d : ℕ) (s : S) → Met s → FollowsEach sys (begun d) s → EachLeg sys R Taken s
    follows_each d s met follows =
        record {
          left = d;
          taken = λ q ready. record { left = d; begin = s; first = q; gone = follows q (may_be q ready); after = 0; stands = refl };
          on = λ q t ready l. lands s q t l met ready d s q 0 (follows q (may_be q ready)) refl;
        }
      where
        may_be : (q : ℕ) → sys.is_ready s q ≡ true → may sys s q ≡ true
        may_be q ready = may_ready sys s q (plain.free s met) (plain.below s q met ready) ready

    follows_one : (c : ℕ) (s : S) → Met s → FollowsOne sys (HasQuietLeg sys Quiet) begun c s → OneLeg sys Quiet R Taken c s
    follows_one c s met one =
        let ready = (may_go sys s one.process (plain.free s met) one.may_be).ready in
        record {
          process = one.process;
          left = one.left;
          fewer = one.fewer;
          ready = ready;
          taken = record { left = one.left; begin = s; first = one.process; gone = one.follows; after = 0; stands = refl };
          after = one.at_once.0;
          leg = one.at_once.1;
          on = lands s one.process one.at_once.0 (as_leg sys Met Quiet law s one.process one.at_once.0 one.at_once.1) met ready one.left s one.process 0 one.follows refl;
        }

    alone_each : (c : ℕ) (s : S) → Met s → Alone c s → EachLeg sys R Taken s
    alone_each c s met a =
        record {
          left = c;
          taken = λ q ready. record { left = c; begin = a.begin; first = a.first; gone = a.gone; after = a.after; stands = here q ready };
          on = λ q t ready l. lands s q t l met ready c a.begin a.first a.after a.gone (here q ready);
        }
      where
        here : (q : ℕ) → sys.is_ready s q ≡ true → spot_after sys a.after a.begin a.first ≡ Some (s, q)
        here q ready = subst (λ r. spot_after sys a.after a.begin a.first ≡ Some (s, r)) (sym (a.only q (plain.below s q met ready) ready)) a.stands

    pub closed : (c : ℕ) (s : S) → Met s → R c s → EachLeg sys R Taken s ⊎ OneLeg sys Quiet R Taken c s
    closed c s met (inl k) = go (through.choice c s k.0)
      where
        go : ((d : ℕ) × FollowsEach sys (begun d) s) ⊎ FollowsOne sys (HasQuietLeg sys Quiet) begun c s → EachLeg sys R Taken s ⊎ OneLeg sys Quiet R Taken c s
        go (inl x) = inl (follows_each x.0 s met x.1)
        go (inr one) = inr (follows_one c s met one)
    closed c s met (inr (inl a)) = inl (alone_each c s met a)
    closed c s met (inr (inr z)) = inl (record { left = 0; taken = λ q ready. absurd (none_ready sys s q z.nobody (plain.below s q met ready) ready); on = λ q t ready l. absurd (none_ready sys s q z.nobody (plain.below s q met ready) ready) })

    -- ---- the start

    opening : turn_at sys sys.start false 0 ≡ Goes 0
    opening = local_turn sys sys.start 0 (plain.free sys.start plain.start) (plain.below sys.start 0 plain.start plain.first) plain.first

    pub first_gone : R through.most sys.start
    first_gone =
        inr (inl (record {
          process = 0;
          ready = plain.first;
          only = λ p less ready. plain.others p ready;
          begin = sys.start;
          first = 0;
          gone = subst (IsOpeningKnown (among through.most) (begun through.most) known sys.start) opening through.start;
          after = 0;
          stands = refl;
        }))
