-- Endless loops, who is alone for ever, and calls with a mark: where a word meets them, a stretch that is gone through does.
use Rattle.std.proofs.Common.{◌≡◌, ◌≢◌, ◌⊎◌, inl, inr, ◌∙◌, ◌+◌, ◌≤◌, ◌<◌, ℕ, zero, suc, Bool, true, false, if◌then◌else◌, List, [], ◌∷◌, ◌++◌, Some, ap, sym, refl, subst, arith}
use Rattle.cp_at_once_laws.proofs.Words.{Local, OutcomeKind, Turn, Goes, System, IsKernelCall, SetsOut, spot_after, HasQuietLeg, GoesThrough, IsPlain, same_or_not}
use Rattle.cp_run.specs.Run.{those_below, settled_turn, turn_after}
use Rattle.cp_machine_laws.proofs.Turns.{Every, those_may, every_more as every_less}
use Rattle.cp_at_once_laws.specs.AtOnce.{is_call, QuietLeg, calls_quietly, after_quiet, after_steps, Spins, Marks, marks, later_marks, Commutes, GoalStays, OwnGoal}
use Rattle.cp_at_once_laws.proofs.search.Goals.{loops_stay, own_loops, marks_stay, own_marks}
use Rattle.cp_at_once_laws.proofs.limits.Turns.{CallTurn, nobody, alone, choice, call_turn, which_turn, none_ready, head_ready}
use Rattle.cp_at_once_laws.proofs.limits.Landing.{Stands, local_goes, one_more}
use Rattle.cp_at_once_laws.proofs.limits.Complete.{GoalBack, MeetsThere, met_somewhere}

-- ---- the numbers below a count are several

abbrev FirstTwo : List ℕ → Type 0
FirstTwo [] = Unit {0}
FirstTwo (q ∷ []) = Unit {0}
FirstTwo (q ∷ r ∷ xs) = q ≢ r

two_more : (n : ℕ) (xs : List ℕ) (b : Bool) → Every (λ p. p < n) xs → FirstTwo xs → FirstTwo (xs ++ (if b then n ∷ [] else []))
two_more n [] true e h = tt
two_more n (q ∷ []) true e h = λ same. (let less = e.0 in omega (arith, less, same))
two_more n (q ∷ r ∷ xs) b e h = h
two_more n _ false e h = tt

two_apart : (n : ℕ) (f : ℕ → Bool) → FirstTwo (those_below n f)
two_apart zero f = tt
two_apart (suc n) f = two_more n (those_below n f) (f n) (every_less (λ p. (p < n) × (f p ≡ true)) (λ p. p < n) (those_below n f) (λ p h. h.0) (those_may n f)) (two_apart n f)

-- ---- who is alone for ever, and makes calls again and again

pub record GoesAlone {S : Type 0} (sys : System S) (s : S) (q : ℕ) : Type 0 where
  pub ready : (n : ℕ) → sys.is_ready (after_steps sys n s q) q ≡ true
  pub only : (n r : ℕ) → sys.is_ready (after_steps sys n s q) r ≡ true → r ≡ q
  pub lives : (n : ℕ) → (sys.event (after_steps sys n s q) q ≡ Local) ⊎ (is_call (sys.event (after_steps sys n s q) q) ≡ true)
  pub calls : (n : ℕ) → (m : ℕ) × (n ≤ m) × IsKernelCall (sys.event (after_steps sys m s q) q)

module _ {S : Type 0} (sys : System S) (Met : S → Type 0) (Quiet : S → ℕ → Type 0) (law : Commutes sys Met Quiet) (plain : IsPlain sys Met)
    (among : ℕ → S → Type 0) (begun : ℕ → S → ℕ → Type 0) (known : OutcomeKind → Type 0) (through : GoesThrough sys (HasQuietLeg sys Quiet) among begun known) where
  abbrev Back : (S → ℕ → Type 0) → Type 0
  Back Goal = GoalBack sys Met Quiet law plain among begun known through Goal

  abbrev There : (Goal : S → ℕ → Type 0) → GoalStays sys Met Quiet Goal → OwnGoal sys Met Quiet Goal → Back Goal → Type 0
  There Goal stays own back = MeetsThere sys Met Quiet law plain among begun known through Goal stays own back

  -- ---- of one process

  abbrev Of : ℕ → (S → ℕ → Type 0) → S → ℕ → Type 0
  Of q Goal s r = (r ≡ q) × Goal s r

  module _ (q : ℕ) (Goal : S → ℕ → Type 0) (stays : GoalStays sys Met Quiet Goal) (own : OwnGoal sys Met Quiet Goal) (back : Back Goal) where
    of_stays : GoalStays sys Met Quiet (Of q Goal)
    of_stays s p r met ne rp rr k g = (g.0, stays s p r met ne rp rr k g.1)

    of_own : OwnGoal sys Met Quiet (Of q Goal)
    of_own s p r sp t u met ne rp rr k l k' g = go (own s p r sp t u met ne rp rr k l k' g.1)
      where
        go : Goal s p ⊎ ((sys.is_ready u p ≡ true) × Goal u p) → Of q Goal s p ⊎ ((sys.is_ready u p ≡ true) × Of q Goal u p)
        go (inl h) = inl (g.0, h)
        go (inr h) = inr (h.0, (g.0, h.1))

    of_back : Back (Of q Goal)
    of_back s r met ready e g = (g.0, back s r met ready e g.1)

    -- it meets this in a stretch that is gone through
    pub record MeetsOf : Type 0 where
      pub state : S
      pub met : Met state
      pub ready : sys.is_ready state q ≡ true
      pub stands : Stands sys begun state q
      pub goal : Goal state q

    pub meets_of : (steps : ℕ) (word : List ℕ) (b : S) (f n : ℕ) (s : S) → SetsOut sys steps word b f → spot_after sys n b f ≡ Some (s, q) → Goal s q → MeetsOf
    meets_of steps word b f n s out e g = go (met_somewhere sys Met Quiet law plain among begun known through (Of q Goal) of_stays of_own of_back steps word b f n s q out e (refl, g))
      where
        go : There (Of q Goal) of_stays of_own of_back → MeetsOf
        go m =
            let is = m.goal.0 in
            record {
              state = m.state;
              met = m.met;
              ready = subst (λ r. sys.is_ready m.state r ≡ true) is m.ready;
              stands = subst (Stands sys begun m.state) is m.stands;
              goal = subst (Goal m.state) is m.goal.1;
            }

  -- ---- a stretch that is gone through, in which the process makes each step from some place on

  pub record MovesOn (q : ℕ) : Type 0 where
    pub left : ℕ
    pub begin : S
    pub first : ℕ
    pub gone : begun left begin first
    pub since : ℕ
    pub state : S
    pub stands : (n : ℕ) → spot_after sys (since + n) begin first ≡ Some (after_steps sys n state q, q)

  plus : (n k : ℕ) → n + 1 + k ≡ n + suc k
  plus n k = omega arith

  none : (n : ℕ) → n + 0 ≡ n
  none n = omega arith

  -- ---- endless loops

  spins_back : Back (Spins sys)
  spins_back s q met ready e h zero = e
  spins_back s q met ready e h (suc n) = h n

  spins_on : (k : ℕ) (b : S) (f n : ℕ) (s : S) (q : ℕ) → Met s → sys.is_ready s q ≡ true → Spins sys s q → spot_after sys n b f ≡ Some (s, q) → spot_after sys (n + k) b f ≡ Some (after_steps sys k s q, q)
  spins_on zero b f n s q met ready h e = ap (λ i. spot_after sys i b f) (none n) ∙ e
  spins_on (suc k) b f n s q met ready h e =
      ap (λ i. spot_after sys i b f) (sym (plus n k)) ∙
      spins_on k b f (n + 1) (sys.step s q) q (law.kept s q met ready) (law.goes_on s q met ready (h 0)) (λ i. h (suc i)) (one_more sys n b f s q q e (local_goes sys Met Quiet law plain s q met ready (h 0)))

  pub loops_there : (steps : ℕ) (word : List ℕ) (b : S) (f n : ℕ) (s : S) (q : ℕ) → SetsOut sys steps word b f → spot_after sys n b f ≡ Some (s, q) → Spins sys s q → (m : MovesOn q) × Spins sys m.state q
  loops_there steps word b f n s q out e h =
      go (meets_of q (Spins sys) (loops_stay sys Met Quiet law) (own_loops sys Met Quiet law) spins_back steps word b f n s out e h)
    where
      go : MeetsOf q (Spins sys) (loops_stay sys Met Quiet law) (own_loops sys Met Quiet law) spins_back → (m : MovesOn q) × Spins sys m.state q
      go m = (
        record {
          left = m.stands.left;
          begin = m.stands.begin;
          first = m.stands.first;
          gone = m.stands.gone;
          since = m.stands.after;
          state = m.state;
          stands = λ k. spins_on k m.stands.begin m.stands.first m.stands.after m.state q m.met m.ready m.goal m.stands.stands;
        },
        m.goal,
      )

  -- ---- alone for ever

  alone_stays : GoalStays sys Met Quiet (GoesAlone sys)
  alone_stays s p q met ne rp rq k h = absurd (ne (h.only 0 p rp))

  one_later : (s : S) (q : ℕ) → GoesAlone sys s q → GoesAlone sys (sys.step s q) q
  one_later s q h = record { ready = λ n. h.ready (suc n); only = λ n r. h.only (suc n) r; lives = λ n. h.lives (suc n); calls = λ n. go n (h.calls (suc n)) }
    where
      less_one : (n m : ℕ) → suc n ≤ m → IsKernelCall (sys.event (after_steps sys m s q) q) → (k : ℕ) × (n ≤ k) × IsKernelCall (sys.event (after_steps sys k (sys.step s q) q) q)
      less_one n zero le c = absurd (omega (arith, le))
      less_one n (suc m) le c = (m, omega (arith, le), c)

      go : (n : ℕ) → (m : ℕ) × (suc n ≤ m) × IsKernelCall (sys.event (after_steps sys m s q) q) → (k : ℕ) × (n ≤ k) × IsKernelCall (sys.event (after_steps sys k (sys.step s q) q) q)
      go n x = less_one n x.0 x.1 x.2

  alone_after : (t : S) (p : ℕ) (u : S) → QuietLeg sys Quiet t p u → GoesAlone sys t p → GoesAlone sys u p
  alone_after _ _ _ (calls_quietly t p h e) f = one_later t p f
  alone_after _ _ _ (after_quiet t p u h e k) f = alone_after (sys.step t p) p u k (one_later t p f)

  own_alone : OwnGoal sys Met Quiet (GoesAlone sys)
  own_alone s p q sp t u met ne rp rq k l k' f = let g = alone_after t p u k' f in inr (g.ready 0, g)

  alone_back : Back (GoesAlone sys)
  alone_back s q met is_ready e h = record { ready = ready; only = only; lives = lives; calls = calls }
    where
      ready : (n : ℕ) → sys.is_ready (after_steps sys n s q) q ≡ true
      ready zero = is_ready
      ready (suc n) = h.ready n

      only_here : (r : ℕ) → sys.is_ready s r ≡ true → (r ≡ q) ⊎ (r ≢ q) → r ≡ q
      only_here r rr (inl is) = is
      only_here r rr (inr ne) = h.only 0 r (law.stays_ready s r q met ne rr is_ready)

      only : (n r : ℕ) → sys.is_ready (after_steps sys n s q) r ≡ true → r ≡ q
      only zero r rr = only_here r rr (same_or_not r q)
      only (suc n) r rr = h.only n r rr

      lives : (n : ℕ) → (sys.event (after_steps sys n s q) q ≡ Local) ⊎ (is_call (sys.event (after_steps sys n s q) q) ≡ true)
      lives zero = inl e
      lives (suc n) = h.lives n

      calls : (n : ℕ) → (m : ℕ) × (n ≤ m) × IsKernelCall (sys.event (after_steps sys m s q) q)
      calls n = let x = h.calls n in let le = x.1 in (suc x.0, omega (arith, le), x.2)

  -- the next step is its own
  alone_turn : (s : S) (q : ℕ) → Met s → GoesAlone sys s q → turn_after sys (sys.step s q) q (sys.event s q) ≡ Goes q
  alone_turn s q met h = go (h.lives 0)
    where
      t : S
      t = sys.step s q

      there : Met t
      there = law.kept s q met (h.ready 0)

      by : (turn : Turn) → CallTurn sys t q turn → turn ≡ Goes q
      by _ (nobody empty) = absurd (none_ready sys t q empty (plain.below t q there (h.ready 1)) (h.ready 1))
      by _ (alone r one) = ap Goes (h.only 1 r (head_ready sys t r [] one).1)
      by _ (choice r x xs more) = absurd (apart (subst FirstTwo more (two_apart sys.processes (sys.is_ready t))))
        where
          two : (sys.is_ready t r ≡ true) × (sys.is_ready t x ≡ true)
          two = (let all = subst (Every (λ p. (p < sys.processes) × (sys.is_ready t p ≡ true))) more (those_may sys.processes (sys.is_ready t)) in (all.0.1, all.1.0.1))

          apart : r ≢ x → ⊥
          apart ne = ne (h.only 1 r two.0 ∙ sym (h.only 1 x two.1))

      go : (sys.event s q ≡ Local) ⊎ (is_call (sys.event s q) ≡ true) → turn_after sys t q (sys.event s q) ≡ Goes q
      go (inl e) = local_goes sys Met Quiet law plain s q met (h.ready 0) e
      go (inr c) = call_turn sys t q (sys.event s q) (plain.free t there) c ∙ by (settled_turn sys t true q) (which_turn sys t q)

  alone_on : (k : ℕ) (b : S) (f n : ℕ) (s : S) (q : ℕ) → Met s → GoesAlone sys s q → spot_after sys n b f ≡ Some (s, q) → spot_after sys (n + k) b f ≡ Some (after_steps sys k s q, q)
  alone_on zero b f n s q met h e = ap (λ i. spot_after sys i b f) (none n) ∙ e
  alone_on (suc k) b f n s q met h e =
      ap (λ i. spot_after sys i b f) (sym (plus n k)) ∙ alone_on k b f (n + 1) (sys.step s q) q (law.kept s q met (h.ready 0)) (one_later s q h) (one_more sys n b f s q q e (alone_turn s q met h))

  pub alone_there : (steps : ℕ) (word : List ℕ) (b : S) (f n : ℕ) (s : S) (q : ℕ) → SetsOut sys steps word b f → spot_after sys n b f ≡ Some (s, q) → GoesAlone sys s q → (m : MovesOn q) × GoesAlone sys m.state q
  alone_there steps word b f n s q out e h = go (meets_of q (GoesAlone sys) alone_stays own_alone alone_back steps word b f n s out e h)
    where
      go : MeetsOf q (GoesAlone sys) alone_stays own_alone alone_back → (m : MovesOn q) × GoesAlone sys m.state q
      go m = (
        record {
          left = m.stands.left;
          begin = m.stands.begin;
          first = m.stands.first;
          gone = m.stands.gone;
          since = m.stands.after;
          state = m.state;
          stands = λ k. alone_on k m.stands.begin m.stands.first m.stands.after m.state q m.met m.goal m.stands.stands;
        },
        m.goal,
      )

  -- ---- calls with a mark

  module _ (Mark : S → ℕ → Type 0) (there : (s : S) (p q : ℕ) → Met s → p ≢ q → sys.is_ready s p ≡ true → sys.is_ready s q ≡ true → Quiet s p → Mark s q → Mark (sys.step s p) q)
      (back : (s : S) (p q : ℕ) → Met s → p ≢ q → sys.is_ready s p ≡ true → sys.is_ready s q ≡ true → Quiet s p → (sys.event s q ≡ Local) ⊎ (is_call (sys.event s q) ≡ true) → Mark (sys.step s q) p → Mark s p) where
    pub record MarkThere : Type 0 where
      pub left : ℕ
      pub begin : S
      pub first : ℕ
      pub gone : begun left begin first
      pub after : ℕ
      pub state : S
      pub process : ℕ
      pub stands : spot_after sys after begin first ≡ Some (state, process)
      pub mark : Mark state process

    marked : (s : S) (q : ℕ) → Marks sys Mark s q → Met s → sys.is_ready s q ≡ true → (c : ℕ) (b : S) (f n : ℕ) → begun c b f → spot_after sys n b f ≡ Some (s, q) → MarkThere
    marked _ _ (marks s q h m) met ready c b f n g e = record { left = c; begin = b; first = f; gone = g; after = n; state = s; process = q; stands = e; mark = m }
    marked _ _ (later_marks s q h rest) met ready c b f n g e =
        marked (sys.step s q) q rest (law.kept s q met ready) (law.goes_on s q met ready h) c b f (n + 1) g (one_more sys n b f s q q e (local_goes sys Met Quiet law plain s q met ready h))

    mark_back : Back (Marks sys Mark)
    mark_back s q met ready e g = later_marks s q e g

    pub marks_there : (steps : ℕ) (word : List ℕ) (b : S) (f n : ℕ) (s : S) (q : ℕ) → SetsOut sys steps word b f → spot_after sys n b f ≡ Some (s, q) → is_call (sys.event s q) ≡ true → Mark s q → MarkThere
    marks_there steps word b f n s q out e c m =
        go (met_somewhere sys Met Quiet law plain among begun known through (Marks sys Mark) (marks_stay sys Met Quiet law Mark there back) (own_marks sys Met Quiet law Mark there back) mark_back steps word b f n s q out e (marks s q c m))
      where
        go : There (Marks sys Mark) (marks_stay sys Met Quiet law Mark there back) (own_marks sys Met Quiet law Mark there back) mark_back → MarkThere
        go x = marked x.state x.process x.goal x.met x.ready x.stands.left x.stands.begin x.stands.first x.stands.after x.stands.gone x.stands.stands
