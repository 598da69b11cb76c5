-- Lines say of a machine what they say of its graph.
use Rattle.std.proofs.Common.{◌≡◌, ◌⊎◌, inl, inr, ⊎_elim, ◌∙◌, ◌<◌, ℕ, zero, suc, Bool, true, List, [], ◌∷◌, ◌++◌, get_or, Some, sym, subst, arith}
use Rattle.cp_waits.proofs.Words.{Contains, slice_get, cases_order, Tables, Machine, System, Graph, Standstill, has, HasTraps, IsRound}
use Rattle.std.specs.List.{AllPairs}
use Rattle.std.proofs.lemmas.List.Elements.{Contains-get_or, Contains-push, Contains-push_cases, Contains-append_left}
use Rattle.std.proofs.lemmas.List.Quantifiers.{all_pairs_push}
use Rattle.cp_endless_laws.specs.WaitsForEver.{MayLinger, NeverWaitsForEver}
use Rattle.cp_endless_laws.proofs.waiting.Lassos.{lassos, lingers}
use Rattle.cp_ends.specs.Holds.{AreStates, IsWordOf, origin_at}
use Rattle.cp_ends.specs.declared.states.States.{States}
use Rattle.cp_waits.specs.Lines as of_graph
use Rattle.cp_waits.specs.declared.passing.Keeping.{Keeping}
use Rattle.cp_waits.specs.declared.passing.Keeping.TheVariants as keeping
use Rattle.cp_waits.specs.declared.waiting.How.{How}
use Rattle.cp_waits.specs.declared.waiting.How.TheVariants.{Throughout, ForGood, InItsCall}
use Rattle.cp_waits.specs.declared.waiting.Waiting.{Waiting}
use Rattle.cp_waits.specs.declared.waiting.Waits.{Waits}
use Rattle.cp_waits.specs.declared.waiting.Waits.TheVariants.{Known, NotSettled}
use Rattle.cp_waits.specs.Lines.{AreLines, HasNoLine, HasRanks, IsShown, IsUnservedOn, NeverWaits, SayWhoWaits, ShowsRound, ShowsStandstill, StandsStillNever}
use Rattle.cp_waits.specs.MayWait.{AreLasso, AreLingeringLasso, AreStandstill, AreWaits, HasLine, IsUnserved, MayBeOpen, MayWait, ShowWaiting, StandsStillAfter, TellWaits, WaitsForGood}
use Rattle.cp_waits.proofs.Runs.{doing, keeper}
use Rattle.cp_endless_laws.proofs.waiting.Example.{none_in as none_there}

-- ---- lists of lines

module _ (g : Graph) (st : States) where
  -- each line is of a process below n
  lines_shown : (n : ℕ) (lines : List Waiting) → AreLines g st n lines → (line : Waiting) → Contains lines line → (line.process < n) × IsShown g st line line.how
  lines_shown zero lines e line c = absurd (none_there line (subst (λ ls. Contains ls line) e c))
  lines_shown (suc n) lines (inl x) line c = let h = lines_shown n lines x.0 line c in let less = h.0 in (omega (arith, less), h.1)
  lines_shown (suc n) lines (inr x) line c = by (Contains-push_cases x.0 x.1 line (subst (λ ls. Contains ls line) x.2 c)) (λ b. lines_shown n x.0 x.3 line b)
    where
      by : Contains x.0 line ⊎ (x.1 ≡ line) → (Contains x.0 line → (line.process < n) × IsShown g st line line.how) → (line.process < suc n) × IsShown g st line line.how
      by (inl before) on = let h = on before in let less = h.0 in (omega (arith, less), h.1)
      by (inr last) on = subst (λ (l : Waiting). (l.process < suc n) × IsShown g st l l.how) last (let is = x.4.0 in (omega (arith, is), x.4.1))

  -- a process has a line, or it is shown that it has none
  line_or_none : (n : ℕ) (lines : List Waiting) → AreLines g st n lines → (q : ℕ) → q < n → HasLine lines q ⊎ HasNoLine g q
  line_or_none zero lines e q less = absurd (omega (arith, less))
  line_or_none (suc n) lines x q less = by (cases_order q n) x (λ ls a b. line_or_none n ls a q b)
    where
      earlier : (before : List Waiting) (line : Waiting) → lines ≡ before ++ line ∷ [] → HasLine before q ⊎ HasNoLine g q → HasLine lines q ⊎ HasNoLine g q
      earlier before line e (inl h) = inl (h.0, subst (λ ls. Contains ls h.0) (sym e) (Contains-append_left before (line ∷ []) h.0 h.1), h.2)
      earlier before line e (inr none) = inr none

      by : (q ≡ n) ⊎ ((q < n) ⊎ (n < q)) → AreLines g st (suc n) lines → ((ls : List Waiting) → AreLines g st n ls → q < n → HasLine ls q ⊎ HasNoLine g q) → HasLine lines q ⊎ HasNoLine g q
      by (inl is) (inl h) on = inr (subst (λ k. HasNoLine g k) (sym is) h.1)
      by (inl is) (inr h) on = inl (h.1, subst (λ ls. Contains ls h.1) (sym h.2) (Contains-push h.0 h.1), h.4.0 ∙ sym is)
      by (inr (inl below)) (inl h) on = on lines h.0 below
      by (inr (inl below)) (inr h) on = earlier h.0 h.1 h.2 (on h.0 h.3 below)
      by (inr (inr above)) h on = absurd (omega (arith, less, above))

  by_number : (n : ℕ) (lines : List Waiting) → AreLines g st n lines → AllPairs (λ a b. a.process < b.process) lines
  by_number zero lines e = subst (AllPairs (λ a b. a.process < b.process)) (sym e) (λ i j d less within. absurd (omega (arith, less, within)))
  by_number (suc n) lines (inl x) = by_number n lines x.0
  by_number (suc n) lines (inr x) =
      subst (AllPairs (λ a b. a.process < b.process)) (sym x.2)
      (all_pairs_push (λ a b. a.process < b.process) x.0 x.1 (by_number n x.0 x.3)
      (λ k d within. let h = (lines_shown n x.0 x.3 (get_or x.0 k d) (Contains-get_or x.0 k d within)).0 in let is = x.4.0 in omega (arith, h, is)))

-- ---- what they say

module _ (sys : System Machine) (inside waiting : Machine → ℕ → Bool) (steps : ℕ) (r : Tables) (states : List (Machine × List ℕ)) (st : States) (g : Graph)
    (processes : g.processes ≡ sys.processes) (are : AreStates r st states)
    (origin_here : (i : ℕ) (x : Machine × List ℕ) → slice_get states i ≡ Some x → IsWordOf states (origin_at st.known.entries i) x.1)
    (round_waits : (q i : ℕ) (word : List ℕ) → q < sys.processes → IsRound g (keeping.Waiting q) i word → (x : Machine × List ℕ) × (slice_get states i ≡ Some x) × AreLasso sys waiting q steps x.1 word)
    (round_lingers : (q i : ℕ) (word : List ℕ) → q < sys.processes → IsRound g (keeping.Inside q) i word → (x : Machine × List ℕ) × (slice_get states i ≡ Some x) × AreLingeringLasso sys inside waiting q steps x.1 word)
    (stands_still : (still : Standstill) (q : ℕ) → Contains g.standstills.items still → q < sys.processes → has still.again.wait q ≡ true → (w : List ℕ) × IsWordOf states still.origin w × StandsStillAfter sys waiting q steps w)
    (never_waits : (q : ℕ) → q < sys.processes → HasRanks g (keeping.Waiting q) → NeverWaitsForEver sys waiting q steps)
    (stands_never : (q : ℕ) → q < sys.processes → StandsStillNever g q → (word : List ℕ) → StandsStillAfter sys waiting q steps word → ⊥)
    (never_lingers : (q : ℕ) → q < sys.processes → HasRanks g (keeping.Inside q) → MayLinger sys inside waiting q steps → ⊥)
    (for_good : (q : ℕ) → q < sys.processes → HasTraps g (keeping.Waiting q) → WaitsForGood sys waiting q steps)
    (unserved_on : (k : Keeping) (p : ℕ) → keeper k < sys.processes → p < sys.processes → IsUnserved sys (doing inside waiting k) (keeper k) p steps → IsUnservedOn g k p) where
  waits_never : (q : ℕ) → q < sys.processes → NeverWaits g q → MayWait sys waiting q steps → ⊥
  waits_never q less never (inl x) = never_waits q less never.ranks x.word x.state x.endless x.fair x.since x.waits
  waits_never q less never (inr x) = stands_never q less never.moves x.0 x.1

  lasso_shown : (line : Waiting) → line.process < sys.processes → ShowsRound g st (keeping.Waiting line.process) line → AreLasso sys waiting line.process steps line.first.items line.again.items
  lasso_shown line less s =
      let x = round_waits line.process s.state line.again.items less s.again in
      let word : line.first.items ≡ x.0.1 = s.first r states x.0.1 are (origin_here s.state x.0 x.1) in
      subst (λ w. AreLasso sys waiting line.process steps w line.again.items) (sym word) x.2

  lingering_shown : (line : Waiting) → line.process < sys.processes → ShowsRound g st (keeping.Inside line.process) line → AreLingeringLasso sys inside waiting line.process steps line.first.items line.again.items
  lingering_shown line less s =
      let x = round_lingers line.process s.state line.again.items less s.again in
      let word : line.first.items ≡ x.0.1 = s.first r states x.0.1 are (origin_here s.state x.0 x.1) in
      subst (λ w. AreLingeringLasso sys inside waiting line.process steps w line.again.items) (sym word) x.2

  standstill_shown : (line : Waiting) → line.process < sys.processes → ShowsStandstill g st line → AreStandstill sys waiting line.process steps line.first.items line.again.items
  standstill_shown line less s =
      let x = stands_still s.still line.process s.known less s.waits in
      let word : line.first.items ≡ x.0 = s.first r states x.0 are x.1 in
      (s.again, subst (λ w. StandsStillAfter sys waiting line.process steps w) (sym word) x.2)

  shown : (line : Waiting) → line.process < sys.processes → (how : How) → IsShown g st line how → ShowWaiting sys inside waiting steps line how
  shown line less Throughout s = lasso_shown line less s
  shown line less ForGood (inl s, traps) = (inl (lasso_shown line less s), for_good line.process less traps)
  shown line less ForGood (inr s, traps) = (inr (standstill_shown line less s), for_good line.process less traps)
  shown line less InItsCall s = (lingering_shown line less s.0, waits_never line.process less s.1)

  -- what a line shows is so
  so : (line : Waiting) (how : How) → ShowWaiting sys inside waiting steps line how → MayWait sys waiting line.process steps ⊎ MayLinger sys inside waiting line.process steps
  so line Throughout h = inl (inl (lassos sys waiting line.process steps h.0))
  so line ForGood (inl h, good) = inl (inl (lassos sys waiting line.process steps h.0))
  so line ForGood (inr h, good) = inl (inr (line.first.items, h.1))
  so line InItsCall h = inr (lingers sys inside waiting line.process steps h.0.0)

  nobody_else : (q : ℕ) → q < sys.processes → HasNoLine g q → MayWait sys waiting q steps ⊎ MayLinger sys inside waiting q steps → ⊥
  nobody_else q less none (inl waits) = waits_never q less none.0 waits
  nobody_else q less none (inr lingers) = never_lingers q less none.1 lingers

  are_waits : (lines : List Waiting) → AreLines g st g.processes lines → AreWaits sys inside waiting steps lines
  are_waits lines h = record { shown = each; exactly = λ q less. (there q, back q less); sorted = by_number g st g.processes lines h }
    where
      each : (line : Waiting) → Contains lines line → (line.process < sys.processes) × ShowWaiting sys inside waiting steps line line.how
      each line c =
          let s = lines_shown g st g.processes lines h line c in
          let less = subst (λ n. line.process < n) processes s.0 in
          (less, shown line less line.how s.1)

      there : (q : ℕ) → HasLine lines q → MayWait sys waiting q steps ⊎ MayLinger sys inside waiting q steps
      there q x = subst (λ p. MayWait sys waiting p steps ⊎ MayLinger sys inside waiting p steps) x.2 (so x.0 x.0.how (each x.0 x.1).1)

      back : (q : ℕ) → q < sys.processes → MayWait sys waiting q steps ⊎ MayLinger sys inside waiting q steps → HasLine lines q
      back q less may =
          ⊎_elim
          (λ (x : HasLine lines q). x)
          (λ (none : HasNoLine g q). absurd (nobody_else q less none may))
          (line_or_none g st g.processes lines h q (subst (λ n. q < n) (sym processes) less))

  left_open : (q : ℕ) → q < sys.processes → of_graph.MayBeOpen g q → MayBeOpen sys inside waiting q steps
  left_open q less (inl x) = let w = stands_still x.0 q x.1 less x.2 in inl (w.0, w.2)
  left_open q less (inr (inl nobody)) = inr (inl (λ p below unserved. nobody p (subst (λ n. p < n) (sym processes) below) (unserved_on (keeping.Waiting q) p less below unserved)))
  left_open q less (inr (inr nobody)) = inr (inr (λ p below unserved. nobody p (subst (λ n. p < n) (sym processes) below) (unserved_on (keeping.Inside q) p less below unserved)))

  pub tell_waits : (waits : Waits) → SayWhoWaits g st waits → TellWaits sys inside waiting steps waits
  tell_waits (Known lines) h = are_waits lines.items h
  tell_waits (NotSettled q) h = let less = subst (λ n. q < n) processes h.0 in (less, left_open q less h.2)
