-- What is said of the graph of all states is so of the slot machine, and of its program on the program's own names.
use Rattle.cp_waits.proofs.Words.{◌≡◌, inl, inr, ◌<◌, ℕ, List, Option, map, Some, sym, subst, Contains, slice_get, Tables, Machine, Node, Halted, Choosing}
use Rattle.cp_waits.proofs.Words.{chosen, opened, slots, System, LeadsTo, IsClosedSet, IsIn, SayWhoWaits, Graph}
use Rattle.cp_tree.specs.Syntax.{Tree}
use Rattle.cp_tree.specs.Read.{IsRead}
use Rattle.cp_layout.specs.Laid.{plain, laid}
use Rattle.cp_meaning_laws.specs.Accepted.{IsAccepted}
use Rattle.cp_machine.specs.declared.discipline.Discipline as slot_discipline
use Rattle.cp_machine_laws.proofs.Disciplines.{same_discipline}
use Rattle.cp_meaning.specs.State.{Discipline, State}
use Rattle.cp_resolved.specs.TreeLayouts.{layouts_of}
use Rattle.cp_machine_laws.specs.InStep.{CanGo, GoInStep}
use Rattle.cp_machine_laws.specs.Law.{Simulates, ground_of}
use Rattle.cp_machine_laws.specs.Named.{discipline_of, named, named_discipline}
use Rattle.cp_machine_laws.proofs.Forgetting.{forgets}
use Rattle.cp_machine_laws.proofs.HoldsInReached.{reached_stands}
use Rattle.cp_machine_laws.proofs.Meaning.{goes_in_step, it}
use Rattle.cp_machine_laws.proofs.ReachedKinds.{kinds_agree}
use Rattle.cp_endless_laws.specs.Meaning.{MeansTheSame}
use Rattle.cp_endless_laws.specs.Silent.{in_call_on_names, in_call_on_slots, named_without_output, silent_named, silent_slots, waits_on_names, waits_on_slots, without_output}
use Rattle.cp_endless_laws.specs.Standstill.{MayStandStill}
use Rattle.cp_endless_laws.specs.WaitsForEver.{MayLinger, MayWaitForEver}
use Rattle.cp_endless_laws.proofs.names.Going.{in_choices, silent_in_step}
use Rattle.cp_endless_laws.proofs.names.InCalls.{in_call_so}
use Rattle.cp_endless_laws.proofs.names.Meant.{endless_meaning, leaves}
use Rattle.cp_endless_laws.proofs.names.Processes.{waits_so}
use Rattle.cp_endless_laws.proofs.names.Together.{ChoicesAlike, turned}
use Rattle.cp_ends.specs.Ends.{EndsSo}
use Rattle.cp_ends.specs.Firsts.{AreFirsts}
use Rattle.cp_ends.specs.Holds.{Holds, SlotFindings, same_key}
use Rattle.cp_ends.specs.Named.{HasNoCut, kinds_of}
use Rattle.cp_ends.specs.Whole.{IsAnswerBy, IsWhole}
use Rattle.cp_ends.specs.declared.end.End.{End}
use Rattle.cp_ends.specs.declared.found.Found.{Found}
use Rattle.cp_ends.proofs.Listing.{origin_here}
use Rattle.cp_ends.proofs.Searching.Lists.{contains_at, pair_at, place_of}
use Rattle.cp_ends.proofs.named.Keys.{key_same, key_self}
use Rattle.cp_ends.proofs.named.Kinds.{are_settled}
use Rattle.cp_waits.specs.Graphs.{HasGraph, IsSlotGraphOf}
use Rattle.cp_waits.specs.MayWait.{AreWaits, HasLine, MayBeOpen, ShowWaiting, TellWaits, WaitsForGood}
use Rattle.cp_waits.specs.Named.{AreWaitsOnNames, LinesMeaningLaw, LingersBy, MayBeOpenOnNames, ShowOnNames, TellOfAll, TellOnNames, WaitsBy}
use Rattle.cp_waits.specs.declared.waiting.How.{How}
use Rattle.cp_waits.specs.declared.waiting.How.TheVariants.{Throughout, ForGood, InItsCall}
use Rattle.cp_waits.specs.declared.waiting.Waiting.{Waiting}
use Rattle.cp_waits.specs.declared.waiting.Waits.{Waits}
use Rattle.cp_waits.specs.declared.waiting.Waits.TheVariants.{Known, NotSettled}
use Rattle.cp_waits.proofs.Alike.{good_back, lingers_there, waits_there}
use Rattle.cp_waits.proofs.Falling.{never_lingers, never_waits}
use Rattle.cp_waits.proofs.Graphs.{choice_is_edge, edge_is_choice}
use Rattle.cp_waits.proofs.Runs.{round_lingers, round_waits}
use Rattle.cp_waits.proofs.Saying.{tell_waits}
use Rattle.cp_waits.proofs.Schedules.{lingers_by, waits_by}
use Rattle.cp_waits.proofs.Standstills.{stands_never, stands_still}
use Rattle.cp_waits.proofs.Trapped.{for_good}
use Rattle.cp_waits.proofs.Uncut.{may_stand, stands_after}
use Rattle.cp_waits.proofs.Unserved.{unserved_back, unserved_on}

-- ---- on slots

module _ (r : Tables) (discipline : slot_discipline.Discipline) (steps most : ℕ) (found : Found) (f : SlotFindings) (holds : Holds r found f) (whole : IsWhole (slots r discipline) without_output steps most f)
    (g : Graph) (graph : IsSlotGraphOf r discipline steps f.states g) where
  abbrev sys : System Machine
  sys = silent_slots r discipline

  reached : (i : ℕ) (x : Machine × List ℕ) → slice_get f.states i ≡ Some x → LeadsTo sys steps x.1 (Choosing x.0)
  reached i x at = (whole.states.first x.0 x.1 (contains_at f.states i x at)).is

  known : (word : List ℕ) (s : Machine) → LeadsTo sys steps word (Choosing s) → (i : ℕ) × (w : List ℕ) × (slice_get f.states i ≡ Some (s, w))
  known word s leads = let h = whole.states.all s word leads in let p = place_of f.states (s, h.0) h.1 in (p.0, h.0, p.1)

  apart : (i j : ℕ) (x y : Machine × List ℕ) → i < j → slice_get f.states i ≡ Some x → slice_get f.states j ≡ Some y → x.0 ≡ y.0 → ⊥
  apart i j x y less at to = pair_at (λ (a : Machine × List ℕ) b. a.0 ≡ b.0 → ⊥) f.states i j x y whole.states.once less at to

  abbrev all : List Machine
  all = map (λ (x : Machine × List ℕ). x.0) f.states

  however : (n : Node Machine) → IsIn (Contains all) (Contains (kinds_of f.ends)) n → IsIn (Contains all) (λ kind. Unit {0}) n
  however (Halted kind s) h = tt
  however (Choosing s) h = h

  closed : IsClosedSet sys steps (Contains all)
  closed =
      let c = (are_settled (slots r discipline) without_output same_key steps key_same key_self f.states f.ends whole.states whole.ends).closed in
      record { start = however (opened sys steps) c.start; on = λ s p among can. however (chosen sys steps s p) (c.on s p among can) }

  pub tell_on_slots : (waits : Waits) → SayWhoWaits g found.states waits → TellWaits sys in_call_on_slots waits_on_slots steps waits
  tell_on_slots waits h =
      let edges = edge_is_choice sys in_call_on_slots waits_on_slots steps f.states g graph in
      let choices = choice_is_edge sys in_call_on_slots waits_on_slots steps f.states g graph in
      tell_waits sys in_call_on_slots waits_on_slots steps r f.states found.states g graph.processes holds.states
      (λ i x at. origin_here r found.states f.states i x holds.states at)
      (round_waits sys in_call_on_slots waits_on_slots steps f.states g graph.processes edges reached)
      (round_lingers sys in_call_on_slots waits_on_slots steps f.states g graph.processes edges reached)
      (stands_still sys in_call_on_slots waits_on_slots steps f.states g reached graph.stills)
      (λ q less ranks. never_waits sys in_call_on_slots waits_on_slots steps f.states g graph.processes edges choices same_key key_same key_self apart closed q less ranks)
      (stands_never sys in_call_on_slots waits_on_slots steps f.states g reached graph.all_stills known)
      (λ q less ranks. never_lingers sys in_call_on_slots waits_on_slots steps f.states g graph.processes edges choices same_key key_same key_self apart closed q less ranks)
      (λ q less traps. for_good sys in_call_on_slots waits_on_slots steps f.states g graph.processes graph.count edges choices same_key key_same key_self apart closed q less traps)
      (unserved_on sys in_call_on_slots waits_on_slots steps f.states g edges reached)
      waits h

-- ---- on names

module _ (t : Tree) (r : Tables) (g : Discipline) (read : IsRead t.program) (ok : IsAccepted t) (same : plain r ≡ laid t) (steps : ℕ) where
  abbrev R : State → Machine → Type 0
  R = Simulates t r (layouts_of t) g

  abbrev a : System State
  a = silent_named t g

  abbrev b : System Machine
  b = silent_slots r (discipline_of g)

  abbrev V : State → Machine → ℕ → Type 0
  V s m p = R s m × CanGo a s p

  go : GoInStep a b R
  go = silent_in_step (named t g) (slots r (discipline_of g)) R (goes_in_step t r g read ok same) named_without_output without_output (λ s m h. forgets t r (layouts_of t) g s m h) (leaves t g)

  named_alike : ChoicesAlike a b steps R V
  named_alike = in_choices a b R go steps

  alike : ChoicesAlike b a steps (λ m s. R s m) (λ m s p. V s m p)
  alike = turned a b steps R V named_alike

  waits_alike : (q : ℕ) (m : Machine) (s : State) → R s m → waits_on_slots m q ≡ waits_on_names s q
  waits_alike q m s h = sym (waits_so (ground_of t r) t.program (layouts_of t) s m q h.represents)

  inside_alike : (q : ℕ) (m : Machine) (s : State) → R s m → in_call_on_slots m q ≡ in_call_on_names s q
  inside_alike q m s h = sym (in_call_so (ground_of t r) t.program (layouts_of t) s m q (kinds_agree t r (layouts_of t) (it t r g read ok same).stands s (reached_stands t ok g s h.reached).kind) h.represents)

  means : MeansTheSame t r g steps
  means = endless_meaning t r g read ok same steps

  by_words : (q : ℕ) (first again : List ℕ) → WaitsBy b waits_on_slots q steps first again → WaitsBy a waits_on_names q steps first again
  by_words q first again x = waits_there b a steps (λ m s. R s m) (λ m s p. V s m p) alike waits_on_slots waits_on_names q (waits_alike q) first again x

  lingers_by_words : (q : ℕ) (first again : List ℕ) → LingersBy b in_call_on_slots waits_on_slots q steps first again → LingersBy a in_call_on_names waits_on_names q steps first again
  lingers_by_words q first again x =
      lingers_there b a steps (λ m s. R s m) (λ m s p. V s m p) alike in_call_on_slots waits_on_slots in_call_on_names waits_on_names q (inside_alike q) (waits_alike q) first again x

  by_good : (q : ℕ) → WaitsForGood b waits_on_slots q steps → WaitsForGood a waits_on_names q steps
  by_good q good = good_back a b steps R V named_alike waits_on_names waits_on_slots q (λ s m h. sym (waits_alike q m s h)) good

  shown : (line : Waiting) (how : How) → ShowWaiting b in_call_on_slots waits_on_slots steps line how → ShowOnNames t g steps line how
  shown line Throughout h = by_words line.process line.first.items line.again.items (waits_by b waits_on_slots line.process steps line.first.items line.again.items h)
  shown line ForGood (inl h, good) = (inl (by_words line.process line.first.items line.again.items (waits_by b waits_on_slots line.process steps line.first.items line.again.items h)), by_good line.process good)
  shown line ForGood (inr h, good) = (inr (h.0, means.waits.still_back line.first.items line.process (may_stand b steps waits_on_slots line.process line.first.items h.1)), by_good line.process good)
  shown line InItsCall h = (
    lingers_by_words line.process line.first.items line.again.items (lingers_by b in_call_on_slots waits_on_slots line.process steps line.first.items line.again.items h.0),
    λ (x : MayWaitForEver a waits_on_names line.process steps). h.1 (inl (means.waits.there line.process x)),
  )

  module _ (ends : List (End × List ℕ)) (all_ends : AreFirsts (EndsSo b steps) ends) (lines : List Waiting) (h : AreWaits b in_call_on_slots waits_on_slots steps lines) where
    below : (q : ℕ) → q < a.processes → q < b.processes
    below q less = subst (λ n. q < n) (sym alike.processes) less

    waits_named : (q : ℕ) → q < a.processes → MayWaitForEver a waits_on_names q steps → HasLine lines q
    waits_named q less x = (h.exactly q (below q less)).1 (inl (inl (means.waits.there q x)))

    lingers_named : (q : ℕ) → q < a.processes → MayLinger a in_call_on_names waits_on_names q steps → HasLine lines q
    lingers_named q less x = (h.exactly q (below q less)).1 (inr (means.lingers.there q x))

    stands_named : HasNoCut ends → (q : ℕ) (word : List ℕ) → q < a.processes → MayStandStill a waits_on_names q steps word → HasLine lines q
    stands_named no_cut q word less x =
        (h.exactly q (below q less)).1 (inl (inr (word, stands_after (slots r (discipline_of g)) without_output same_key steps key_same key_self ends all_ends no_cut waits_on_slots q word (means.waits.still_there word q x))))

    pub are_named : AreWaitsOnNames t g steps ends lines
    are_named =
        record {
          shown = λ line c. (let s = h.shown line c in (subst (λ n. line.process < n) alike.processes s.0, shown line line.how s.1));
          waits = waits_named;
          lingers = lingers_named;
          stands = stands_named;
          sorted = h.sorted;
        }

  left_open : (q : ℕ) → MayBeOpen b in_call_on_slots waits_on_slots q steps → MayBeOpenOnNames t g steps q
  left_open q (inl x) = inl (x.0, means.waits.still_back x.0 q (may_stand b steps waits_on_slots q x.0 x.1))
  left_open q (inr (inl nobody)) = inr (inl (λ p less unserved. nobody p (subst (λ n. p < n) (sym alike.processes) less) (unserved_back b a steps (λ m s. R s m) (λ m s p. V s m p) alike waits_on_slots waits_on_names q p (waits_alike q) less unserved)))
  left_open q (inr (inr nobody)) = inr (inr (λ p less unserved. nobody p (subst (λ n. p < n) (sym alike.processes) less) (unserved_back b a steps (λ m s. R s m) (λ m s p. V s m p) alike in_call_on_slots in_call_on_names q p (inside_alike q) less unserved)))

  pub tell_named : (ends : List (End × List ℕ)) → AreFirsts (EndsSo b steps) ends → (waits : Waits) → TellWaits b in_call_on_slots waits_on_slots steps waits → TellOnNames t g steps ends waits
  tell_named ends all_ends (Known lines) h = are_named ends all_ends lines.items h
  tell_named ends all_ends (NotSettled q) h = (subst (λ n. q < n) alike.processes h.0, left_open q h.1)

-- whatever the gates
pub tell_on_names : (t : Tree) (r : Tables) (discipline : slot_discipline.Discipline) → IsRead t.program → IsAccepted t → plain r ≡ laid t → (steps : ℕ) (ends : List (End × List ℕ)) → AreFirsts (EndsSo (silent_slots r discipline) steps) ends →
    (waits : Waits) → TellWaits (silent_slots r discipline) in_call_on_slots waits_on_slots steps waits → TellOnNames t (named_discipline discipline) steps ends waits
tell_on_names t r discipline read ok same steps ends all_ends waits h =
    let back = sym (same_discipline discipline) in
    tell_named t r (named_discipline discipline) read ok same steps ends (subst (λ d. AreFirsts (EndsSo (silent_slots r d) steps) ends) back all_ends) waits (subst (λ d. TellWaits (silent_slots r d) in_call_on_slots waits_on_slots steps waits) back h)

pub lines_mean : LinesMeaningLaw
lines_mean r discipline steps most found f g waits holds whole graph say =
    let on_slots = tell_on_slots r discipline steps most found f holds whole g graph waits say in
    record { slots = on_slots; names = λ t read ok same. tell_on_names t r discipline read ok same steps f.ends whole.ends waits on_slots }

pub told_of_all : (r : Tables) (discipline : slot_discipline.Discipline) (steps : ℕ) (found : Found) (g : Graph) → HasGraph r discipline steps found g → (waits : Waits) → SayWhoWaits g found.states waits → TellOfAll r discipline steps found waits
told_of_all r discipline steps found g has waits say = λ most answer few all.
    let whole : IsWhole (slots r discipline) without_output steps most answer.findings = subst (λ (o : Option ℕ). IsAnswerBy r discipline steps most answer.findings o) all answer.answer in
    let on_slots = tell_on_slots r discipline steps has.most found has.findings has.holds has.whole g has.graph waits say in
    record { slots = on_slots; names = λ t read ok same. tell_on_names t r discipline read ok same steps answer.findings.ends whole.ends waits on_slots }
