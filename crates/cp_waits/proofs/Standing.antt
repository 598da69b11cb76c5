-- Stretches that let a process wait for ever, and what was seen of them.
use Rattle.std.proofs.Common.{◌≡◌, ◌⊎◌, inl, inr, ◌<◌, ◌≤◌, ◌∙◌, ℕ, suc, Bool, true, false, List, [], ◌∷◌, ◌++◌, Some, if◌then◌else◌, refl, sym, ap, subst, arith}
use Rattle.cp_waits.proofs.Words.{Contains, ◌&&◌, not, nat_lt, Turn, Goes, System, Repeats, Origin, some_same, LetsWait, has, Graph, Standstill, PassingSets}
use Rattle.cp_waits.proofs.Words.{Set, Halt, Option, None}
use Rattle.std.proofs.lemmas.Bool.{cases_lt, le-ltb, lt-ltb}
use Rattle.std.proofs.lemmas.List.Elements.{Contains-append_left, Contains-push, Contains-push_cases}
use Rattle.cp_run.specs.declared.outcome.OutcomeKind.TheVariants.{StepLimit}
use Rattle.cp_run.specs.declared.outcome.Halt.TheVariants.{Choice, Ended}
use Rattle.cp_run.specs.Run.{Node, Halted, Choosing, node_at, settled_turn, turn_at, stretch, opened, chosen}
use Rattle.cp_endless_laws.specs.Rounds.{IsRound, spot_by}
use Rattle.cp_endless_laws.specs.Standstill.{StandsStill, IsStandstill}
use Rattle.cp_endless_laws.proofs.steps.Rounds.{standstills, standstills_found}
use Rattle.cp_ends.proofs.words.Returns.{cut_there}
use Rattle.cp_waits.specs.Building.{IsOfStretch, IsStillOf, AddsStill}
use Rattle.cp_ends.specs.Legs.{Leg, first_leg, choice_leg}
use Rattle.cp_waits.specs.Legs.{GoesRound, ComesTo}
use Rattle.cp_machine_laws.proofs.gates.Gates.{and_false as and_none}

-- ---- where legs lead

module _ {S : Type 0} (sys : System S) (steps : ℕ) where
  by_turn : (t : S) (turn : Turn) (s : S) (p : ℕ) → spot_by t (λ q. Some (t, q)) turn ≡ Some (s, p) → node_at t (stretch sys steps t) turn ≡ stretch sys steps s p
  by_turn t (Goes q) s p e = ap (λ (x : S × ℕ). stretch sys steps x.0 x.1) (some_same (t, q) (s, p) e)
  by_turn t x s p e = absurd (cc)

  pub first_of_stretch : IsOfStretch sys steps (first_leg sys steps)
  unfolding opened
  first_of_stretch s p e = by_turn sys.start (turn_at sys sys.start false 0) s p e

  pub choice_of_stretch : (t : S) (c : ℕ) → IsOfStretch sys steps (choice_leg sys steps t c)
  unfolding chosen
  choice_of_stretch t c s p e = by (sys.is_pending t) e
    where
      u : S
      u = sys.admit t c

      by : (b : Bool) → (if b then spot_by u (λ q. Some (u, q)) (settled_turn sys u true c) else Some (t, c)) ≡ Some (s, p) → (if b then node_at u (stretch sys steps u) (settled_turn sys u true c) else stretch sys steps t c) ≡ stretch sys steps s p
      by true h = by_turn u (settled_turn sys u true c) s p h
      by false h = ap (λ (x : S × ℕ). stretch sys steps x.0 x.1) (some_same (t, c) (s, p) h)

-- ---- what was seen of them

module _ {S : Type 0} (sys : System S) (inside waiting : S → ℕ → Bool) (steps : ℕ) (leg : Leg S) where
  abbrev round_of : (s : S) (p : ℕ) → Repeats sys steps s p → IsRound sys s p
  round_of s p x = record { before = steps; state = x.state; process = x.process; comes = x.comes; after = x.after; returns = x.returns }

  -- each process was seen to be served, and this one to wait
  pub seen_to_wait : (q : ℕ) (again : PassingSets) → q < sys.processes → GoesRound sys inside waiting steps leg again → LetsWait sys waiting steps leg q → ((r : ℕ) → r < sys.processes → has again.served r ≡ true) × (has again.wait q ≡ true)
  seen_to_wait q again lt x w = (λ r l. (x.seen.served r l).1 (still.fair r l), (x.seen.wait q lt).1 (tt, still.waits))
    where
      same : (◌≡◌ {A = S × ℕ}) (w.begin, w.first) (x.begin, x.first)
      same = some_same (w.begin, w.first) (x.begin, x.first) (sym w.spot ∙ x.spot)

      stands : StandsStill sys waiting q x.begin x.first
      stands = subst (λ (y : S × ℕ). StandsStill sys waiting q y.0 y.1) same (standstills sys w.begin w.first (round_of w.begin w.first w.repeats) waiting q w.still)

      still : IsStandstill sys waiting q x.repeats.state x.repeats.process (suc x.repeats.after)
      still = standstills_found sys x.begin x.first (round_of x.begin x.first x.repeats) waiting q stands

  -- where a choice is due, or the run is over, nobody waits in its stretch for ever
  pub no_round : IsOfStretch sys steps leg → (halt : Halt (Option PassingSets)) (due : List S) (p : PassingSets) (m : S) → ((again : PassingSets) → halt ≡ Ended (Some again) → ⊥) → ComesTo sys inside waiting steps leg due p halt m → (q : ℕ) → LetsWait sys waiting steps leg q → ⊥
  no_round of Choice due p m none h q w =
      choosing (leg.node) (sym (of w.begin w.first w.spot ∙ cut_there sys steps w.begin w.first w.repeats.state w.repeats.process w.repeats.comes)) h.0
    where
      choosing : (node : Node S) → Halted StepLimit w.repeats.state ≡ node → node ≡ Choosing m → ⊥
      choosing node e d = let both = e ∙ d in cc
  no_round of (Ended None) due p m none h q w = h.0.never w.begin w.first w.spot w.repeats
  no_round of (Ended (Some again)) due p m none h q w = none again refl

  pub round_seen : (again : PassingSets) (due : List S) (p : PassingSets) (m : S) → ComesTo sys inside waiting steps leg due p (Ended (Some again)) m → GoesRound sys inside waiting steps leg again
  round_seen again due p m h = h.0

  -- ---- standstills of a graph

  module _ (origin : Origin) (old new : Graph) where
    -- there is none
    pub adds_none : new.standstills.items ≡ old.standstills.items → ((q : ℕ) → q < sys.processes → LetsWait sys waiting steps leg q → ⊥) → AddsStill sys inside waiting steps leg origin old new
    adds_none same none =
        record {
          keeps = λ still h. subst (λ l. Contains l still) (sym same) h;
          is = λ still h. inl (subst (λ l. Contains l still) same h);
          all = λ q lt w. absurd (none q lt w);
        }

    pub adds_one : (again : PassingSets) → new.standstills.items ≡ old.standstills.items ++ record { origin = origin; again = again } ∷ [] → GoesRound sys inside waiting steps leg again → ((q : ℕ) → q < sys.processes → has again.served q ≡ true) → AddsStill sys inside waiting steps leg origin old new
    adds_one again more round fair =
        record {
          keeps = λ s h. subst (λ l. Contains l s) (sym more) (Contains-append_left old.standstills.items (still ∷ []) s h);
          is = λ s h. by s (Contains-push_cases old.standstills.items still s (subst (λ l. Contains l s) more h));
          all = λ q lt w.
              record {
                still = still;
                known = subst (λ l. Contains l still) (sym more) (Contains-push old.standstills.items still);
                from = refl;
                waits = (seen_to_wait q again lt round w).1;
              };
        }
      where
        still : Standstill
        still = record { origin = origin; again = again }

        here : IsStillOf sys inside waiting steps leg origin still
        here = record { from = refl; round = round; fair = fair }

        by : (s : Standstill) → Contains old.standstills.items s ⊎ (still ≡ s) → Contains old.standstills.items s ⊎ IsStillOf sys inside waiting steps leg origin s
        by s (inl h) = inl h
        by s (inr e) = inr (subst (λ x. IsStillOf sys inside waiting steps leg origin x) e here)

-- ---- whether all are served, by sets

not_false : (a b : Bool) → a ≡ true → (a && not b) ≡ false → b ≡ true
not_false true true e h = refl
not_false x y e h = absurd (cc)

pub all_served : (all left served : Set) (n : ℕ) → n ≤ 16 → ((q : ℕ) → has all q ≡ (nat_lt q 16 && nat_lt q n)) → ((q : ℕ) → has left q ≡ (has all q && not (has served q))) → ((q : ℕ) → has left q ≡ false) → (q : ℕ) → q < n → has served q ≡ true
all_served all left served n few is but none q lt =
    not_false (has all q) (has served q) (is q ∙ ap (λ b. b && nat_lt q n) (lt-ltb q 16 (omega (arith, lt, few))) ∙ lt-ltb q n lt) (sym (but q) ∙ none q)

pub nobody_left : (all left served : Set) (n : ℕ) → ((q : ℕ) → has all q ≡ (nat_lt q 16 && nat_lt q n)) → ((q : ℕ) → has left q ≡ (has all q && not (has served q))) → ((q : ℕ) → q < n → has served q ≡ true) → (q : ℕ) → has left q ≡ false
nobody_left all left served n is but each q = but q ∙ by (cases_lt q n)
  where
    by : (q < n) ⊎ (n ≤ q) → (has all q && not (has served q)) ≡ false
    by (inl lt) = ap (λ b. has all q && not b) (each q lt) ∙ and_none (has all q)
    by (inr le) = ap (λ b. b && not (has served q)) (is q ∙ ap (λ b. nat_lt q 16 && b) (le-ltb q n le) ∙ and_none (nat_lt q 16))
