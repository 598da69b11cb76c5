-- A standstill of a graph is a stretch of its machine that goes on for ever without a choice.
use Rattle.std.proofs.Common.{◌≡◌, inl, inr, ◌∙◌, ◌<◌, ℕ, Bool, true, List, [], ◌∷◌, ◌++◌, Some, refl, sym, ap}
use Rattle.cp_waits.proofs.Words.{Contains, slice_get, Machine, System, Choosing, LeadsTo, Origin, Graph, Standstill, Leg, choice_leg, first_leg}
use Rattle.cp_waits.proofs.Words.{StandsStillAfter, has}
use Rattle.cp_endless_laws.specs.Rounds.{SetsOut}
use Rattle.cp_ends.specs.Holds.{IsWordOf}
use Rattle.cp_ends.specs.declared.origin.Origin.TheVariants.{Start, Choice}
use Rattle.cp_waits.specs.Graphs.{HasStill, IsLegFrom, IsStill, LetsWait}
use Rattle.cp_waits.specs.Lines.{StandsStillNever}

module _ (sys : System Machine) (inside waiting : Machine → ℕ → Bool) (steps : ℕ) (states : List (Machine × List ℕ)) (g : Graph)
    (reached : (i : ℕ) (x : Machine × List ℕ) → slice_get states i ≡ Some x → LeadsTo sys steps x.1 (Choosing x.0)) where
  -- the word after which the stretch of a leg sets out
  word_of : (origin : Origin) (leg : Leg Machine) → IsLegFrom sys steps states origin leg → (w : List ℕ) × IsWordOf states origin w × ((s : Machine) (p : ℕ) → leg.spot ≡ Some (s, p) → SetsOut sys steps w s p)
  word_of Start leg from = ([], refl, λ s p e. inl (refl, ap (λ (l : Leg Machine). l.spot) (sym from) ∙ e))
  word_of (Choice at number) leg from =
      let x = from.0 in
      (x.1 ++ number ∷ [], (x, from.1, refl), λ s p e. inr (x.1, number, x.0, refl, reached at x from.1, from.2, ap (λ (l : Leg Machine). l.spot) (sym from.3) ∙ e))

  -- who waits in a standstill stands still after its word
  pub stands_still : ((still : Standstill) → Contains g.standstills.items still → IsStill sys inside waiting steps states still) →
      (still : Standstill) (q : ℕ) → Contains g.standstills.items still → q < sys.processes → has still.again.wait q ≡ true →
      (w : List ℕ) × IsWordOf states still.origin w × StandsStillAfter sys waiting q steps w
  stands_still stills still q known less waits =
      let s = stills still known in
      let w = word_of still.origin s.leg s.from in (
        w.0,
        w.1,
        record {
          begin = s.round.begin;
          first = s.round.first;
          sets_out = w.2 s.round.begin s.round.first s.round.spot;
          repeats = s.round.repeats;
          still = record { fair = λ p below. (s.round.seen.served p below).0 (s.fair p below); waits = ((s.round.seen.wait q less).0 waits).1 };
        },
      )

  -- who waits in none stands still after no word
  pub stands_never : (all_stills : (origin : Origin) (leg : Leg Machine) (q : ℕ) → q < sys.processes → IsLegFrom sys steps states origin leg → LetsWait sys waiting steps leg q → HasStill g origin q)
      (found : (word : List ℕ) (s : Machine) → LeadsTo sys steps word (Choosing s) → (i : ℕ) × (w : List ℕ) × (slice_get states i ≡ Some (s, w))) →
      (q : ℕ) → q < sys.processes → StandsStillNever g q → (word : List ℕ) → StandsStillAfter sys waiting q steps word → ⊥
  stands_never all_stills found q less never word x = by x.sets_out
    where
      none : (origin : Origin) → HasStill g origin q → ⊥
      none origin h = let both = sym (never h.still h.known) ∙ h.waits in cc

      by : SetsOut sys steps word x.begin x.first → ⊥
      by (inl h) = none Start (all_stills Start (first_leg sys steps) q less refl (record { begin = x.begin; first = x.first; spot = h.1; repeats = x.repeats; still = x.still }))
      by (inr h) =
          let at = found h.0 h.2 h.4 in
          none (Choice at.0 h.1)
          (all_stills (Choice at.0 h.1) (choice_leg sys steps h.2 h.1) q less ((h.2, at.1), at.2, h.5, refl)
          (record { begin = x.begin; first = x.first; spot = h.6; repeats = x.repeats; still = x.still }))
