-- Who waits at the ends that a search of ends found, expanded once more.
use Rattle.std.proofs.Common.{◌≡◌, ◌∙◌, ◌+◌, ◌++◌, ℕ, List, length, map, take, refl, sym, ap, subst, arith}
use Rattle.std.specs.Prelude.{Contains, Option, None, Some, option_map, slice_get}
use Rattle.std.specs.declared.alloc.Global.{Global}
use Rattle.std.specs.declared.vec.Vec.{Vec}
use Rattle.cp_slots.specs.Tables.{Tables}
use Rattle.cp_machine.specs.System.{Machine}
use Rattle.cp_machine.specs.declared.discipline.Discipline.{Discipline}
use Rattle.cp_run.specs.declared.outcome.OutcomeKind.TheVariants.{AllWaiting}
use Rattle.cp_run.specs.Run.{opened}
use Rattle.cp_ends.specs.Holds.{SlotFindings}
use Rattle.cp_ends.specs.Whole.{IsAnswerBy}
use Rattle.cp_ends.specs.declared.end.End.{End}
use Rattle.cp_ends.specs.declared.end.End.TheVariants.{Over}
use Rattle.cp_endless_laws.specs.Silent.{silent_slots, waits_on_slots}
use Rattle.cp_waiting_ends.specs.Again as again
use Rattle.cp_waiting_ends.specs.Again.{AreEndsOf, EndsSo}
use Rattle.cp_waiting_ends.specs.Waiting.{WaitsSo, entry_seen, entry_word, those_in, waits_so, who_waits}
use Rattle.cp_waiting_ends.proofs.Waits.{take_one}
use Rattle.cp_waiting_ends.specs.declared.end.WaitingEnd.{WaitingEnd}
use Rattle.cp_waiting_ends.specs.declared.ends.WaitingEnds.{WaitingEnds}
use Rattle.cp_verdict.specs.endless.Behaviour.{on_slots}
use Rattle.cp_verdict.specs.endless.Knowledge.{IsKnown, IsLookedAt, Looked}
use Rattle.cp_verdict.specs.waiting.Ends.{waiting_at}
use Rattle.cp_verdict.specs.waiting.Known.{KnowsWho, entry_pair, waiting_pair}
use Rattle.cp_verdict.specs.waiting.Who.{who_on_slots}
use Rattle.cp_verdict.specs.declared.endless.known.KnownEnds.{KnownEnds}
use Rattle.cp_verdict.specs.declared.endless.known.KnownWaitingEnd.{KnownWaitingEnd}
use Rattle.cp_verdict.proofs.who.Leading.{stops_in}
use Rattle.cp_verdict.proofs.who.Lists.{of_same_map}
use Rattle.cp_verdict.proofs.any_length.Finding.{map_twice}

-- ---- one more end

abbrev word_pair : WaitsSo × List ℕ → (List ℕ × End) × List ℕ
word_pair x = waiting_at x.0.who x.1

pub next_known : (all : List (WaitingEnd × Vec ℕ Global)) (n : ℕ) (got : Option (WaitsSo × List ℕ)) → got ≡ option_map entry_word (slice_get all n) → (old new : List KnownWaitingEnd) → map waiting_pair old ≡ map entry_pair (take n all) →
    map waiting_pair new ≡ map waiting_pair old ++ those_in (option_map (λ x. waiting_at x.0.who x.1) got) → map waiting_pair new ≡ map entry_pair (take (n + 1) all)
next_known all n got here old new before is =
    is ∙ ap (λ l. l ++ those_in (option_map word_pair got)) before ∙ ap (λ o. map entry_pair (take n all) ++ those_in o) (ap (option_map word_pair) here ∙ sym (map_twice entry_word word_pair (slice_get all n))) ∙ sym (take_one entry_pair all n)

-- ---- what is known

-- what is known, but for who waits at the ends
pub known_with : (r : Tables) (discipline : Discipline) (steps most : ℕ) (k : KnownEnds) (waiting : Vec KnownWaitingEnd Global) → IsKnown r discipline steps most k → IsKnown r discipline steps most (record k { waiting = waiting })
known_with r discipline steps most k waiting h = record { states = h.states; all_states = h.all_states; ends = h.ends; values = h.values; texts = h.texts; waits = h.waits; more = h.more }

module _ (r : Tables) (discipline : Discipline) (steps : ℕ) (states : List (Machine × List ℕ)) (stopped looked : Option ℕ) (is : IsLookedAt states stopped looked) where
  abbrev ends_so : End → List ℕ → Type 0
  ends_so end word = (on_slots r discipline steps).ends end word

  -- who waits after a word that leads to such an end
  who_so : (word : List ℕ) (w : WaitsSo) → EndsSo r discipline steps w word → w.who ≡ who_on_slots r discipline steps word
  who_so word w x =
      let sys = silent_slots r discipline in
      ap (λ (v : WaitsSo). v.who) x.2 ∙ ap (who_waits sys waits_on_slots) (sym (stops_in sys steps word (length word) (opened sys steps) AllWaiting x.0 (omega arith) x.1))

  ends_there : (word : List ℕ) (w : WaitsSo) → EndsSo r discipline steps w word → ends_so (Over AllWaiting) word
  ends_there word w x = (x.0, x.1)

  module _ (ends : WaitingEnds) (are : AreEndsOf r discipline steps states stopped ends) where
    so_of : (w : WaitsSo) (word : List ℕ) → again.Looked states stopped (EndsSo r discipline steps) w word → EndsSo r discipline steps w word
    so_of w word l = by stopped l
      where
        by : (o : Option ℕ) → again.Looked states o (EndsSo r discipline steps) w word → EndsSo r discipline steps w word
        by None x = x
        by (Some at) x = x.2.0

    -- a word that was looked at leads to one of them
    looked_of : ((at : ℕ) → stopped ≡ Some at → (x : Machine × List ℕ) × (slice_get states at ≡ Some x)) → (word : List ℕ) → Looked looked ends_so (Over AllWaiting) word → (w : WaitsSo) × again.Looked states stopped (EndsSo r discipline steps) w word
    looked_of place word l = by stopped looked refl is l
      where
        by : (o p : Option ℕ) → stopped ≡ o → IsLookedAt states o p → Looked p ends_so (Over AllWaiting) word → (w : WaitsSo) × again.Looked states o (EndsSo r discipline steps) w word
        by None p e none x = none_by p none x
          where
            none_by : (q : Option ℕ) → q ≡ None → Looked q ends_so (Over AllWaiting) word → (w : WaitsSo) × EndsSo r discipline steps w word
            none_by None f x = (waits_so (silent_slots r discipline) waits_on_slots x.0, (x.0, x.1, refl))
            none_by (Some d) f x = absurd (cc)
        by (Some at) p e some x =
            let m = place at e in
            let y = subst (λ (q : Option ℕ). Looked q ends_so (Over AllWaiting) word) (some m.0 m.1) x in
            (waits_so (silent_slots r discipline) waits_on_slots y.0.0, (m.0, m.1, ((y.0.0, y.0.1, refl), y.1)))

    pub knows_who : ((at : ℕ) → stopped ≡ Some at → (x : Machine × List ℕ) × (slice_get states at ≡ Some x)) → (k : KnownEnds) → k.looked ≡ looked → map waiting_pair k.waiting.items ≡ map entry_pair ends.known.entries → KnowsWho r discipline steps k
    knows_who place k same pairs = record { each = one; all = each_word }
      where
        one : (x : KnownWaitingEnd) → Contains k.waiting.items x → (x.end.end ≡ Over AllWaiting) × ends_so (Over AllWaiting) x.end.word.items × (x.who.items ≡ who_on_slots r discipline steps x.end.word.items)
        one x c =
            let e = of_same_map waiting_pair entry_pair k.waiting.items ends.known.entries pairs x c in
            let so = so_of (entry_seen e.0) e.0.1.items (are.each e.0 e.1) in
            let word : e.0.1.items ≡ x.end.word.items = ap (λ (p : (List ℕ × End) × List ℕ). p.1) e.2 in
            let who : e.0.0.who.items ≡ x.who.items = ap (λ (p : (List ℕ × End) × List ℕ). p.0.0) e.2 in (
              sym (ap (λ (p : (List ℕ × End) × List ℕ). p.0.1) e.2),
              subst (ends_so (Over AllWaiting)) word (ends_there e.0.1.items (entry_seen e.0) so),
              sym who ∙ who_so e.0.1.items (entry_seen e.0) so ∙ ap (who_on_slots r discipline steps) word,
            )

        each_word : (word : List ℕ) → Looked k.looked ends_so (Over AllWaiting) word → (x : KnownWaitingEnd) × Contains k.waiting.items x × (x.who.items ≡ who_on_slots r discipline steps word)
        each_word word l =
            let w = looked_of place word (subst (λ (q : Option ℕ). Looked q ends_so (Over AllWaiting) word) same l) in
            let e = are.all w.0 word w.1 in
            let x = of_same_map entry_pair waiting_pair ends.known.entries k.waiting.items (sym pairs) e.0 e.1 in (
              x.0,
              x.1,
              ap (λ (p : (List ℕ × End) × List ℕ). p.0.0) x.2 ∙ ap (λ (v : WaitsSo). v.who) e.2 ∙ who_so word w.0 (so_of w.0 word w.1),
            )

-- of an answer, where the search stopped
pub place_of_stop : (r : Tables) (discipline : Discipline) (steps most : ℕ) (f : SlotFindings) (stopped : Option ℕ) → IsAnswerBy r discipline steps most f stopped → (at : ℕ) → stopped ≡ Some at → (x : Machine × List ℕ) × (slice_get f.states at ≡ Some x)
place_of_stop r discipline steps most f None a at e = absurd (cc)
place_of_stop r discipline steps most f (Some n) a at e = (a.0, ap (slice_get f.states) (sym (one n at e)) ∙ a.1)
  where
    one : (m n : ℕ) → Some m ≡ Some n → m ≡ n
    one m n e = cc
