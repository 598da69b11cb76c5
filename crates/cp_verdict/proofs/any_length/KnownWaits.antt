-- Who is told to wait for ever is exactly who may.
use Rattle.std.proofs.Common.{◌≡◌, ◌⊎◌, inl, inr, ◌<◌, ◌^◌, ℕ, List, map, subst}
use Rattle.cp_verdict.proofs.any_length.Vocabulary.{Contains, None, Option, Some, Global, Vec, Tables, Machine, Discipline, slots, StepLimit, Over, Waiting, on_slots}
use Rattle.cp_run.specs.System.{System}
use Rattle.cp_endless_laws.specs.Silent.{in_call_on_slots, silent_slots, waits_on_slots, without_output}
use Rattle.cp_endless_laws.specs.Standstill.{MayStandStill}
use Rattle.cp_endless_laws.specs.WaitsForEver.{MayLinger, MayWaitForEver}
use Rattle.cp_ends.specs.Holds.{SlotFindings, same_key}
use Rattle.cp_ends.specs.Whole.{IsAnswer, IsAnswerBy, IsWhole}
use Rattle.cp_ends.specs.declared.found.Found.{Found}
use Rattle.cp_ends.proofs.named.Keys.{key_same, key_self}
use Rattle.cp_ends.proofs.named.Kinds.{contains_map, contains_unmap}
use Rattle.cp_waits.specs.MayWait.{AreWaits, MayWait, TellWaits}
use Rattle.cp_waits.specs.Named.{TellOfAll}
use Rattle.cp_waits.specs.declared.waiting.Waits.{Waits}
use Rattle.cp_waits.specs.declared.waiting.Waits.TheVariants.{Known}
use Rattle.cp_waits.proofs.Uncut.{may_stand, stands_after}
use Rattle.cp_verdict.specs.endless.Knowledge.{AreWaiting, HasNoCut, KnowsWaits}

module _ (r : Tables) (discipline : Discipline) (steps most : ℕ) (f : SlotFindings) (whole : IsWhole (slots r discipline) without_output steps most f) (lines : List Waiting)
    (h : AreWaits (silent_slots r discipline) in_call_on_slots waits_on_slots steps lines) where
  abbrev sys : System Machine
  sys = silent_slots r discipline

  abbrev How : ℕ → Type 0
  How q = MayWaitForEver sys waits_on_slots q steps ⊎ (((word : List ℕ) × MayStandStill sys waits_on_slots q steps word) ⊎ MayLinger sys in_call_on_slots waits_on_slots q steps)

  how : (q : ℕ) → MayWait sys waits_on_slots q steps ⊎ MayLinger sys in_call_on_slots waits_on_slots q steps → How q
  how q (inl (inl w)) = inl w
  how q (inl (inr x)) = inr (inl (x.0, may_stand sys steps waits_on_slots q x.0 x.1))
  how q (inr l) = inr (inr l)

  that : HasNoCut r discipline steps → (q : ℕ) → How q → MayWait sys waits_on_slots q steps ⊎ MayLinger sys in_call_on_slots waits_on_slots q steps
  that no_cut q (inl w) = inl (inl w)
  that no_cut q (inr (inl x)) =
      inl (inr (
        x.0,
        stands_after (slots r discipline) without_output same_key steps key_same key_self f.ends whole.ends (λ word c. no_cut word (whole.ends.first (Over StepLimit) word c).is) waits_on_slots q x.0 x.1,
      ))
  that no_cut q (inr (inr l)) = inr l

  are_waiting : AreWaiting r discipline steps lines
  are_waiting q = (there, back)
    where
      there : Contains (map (λ w. w.process) lines) q → (on_slots r discipline steps).waits q
      there c =
          let x = contains_unmap (λ (w : Waiting). w.process) lines q c in
          let less = subst (λ n. n < sys.processes) x.2 (h.shown x.0 x.1).0 in
          (less, how q ((h.exactly q less).0 x))

      back : HasNoCut r discipline steps → (on_slots r discipline steps).waits q → Contains (map (λ w. w.process) lines) q
      back no_cut w =
          let x = (h.exactly q w.0).1 (that no_cut q w.1) in
          subst (Contains (map (λ w. w.process) lines)) x.2 (contains_map (λ (w : Waiting). w.process) lines x.0 x.1)

-- who waits is known where a search found all states
pub known_waits : (r : Tables) (discipline : Discipline) (steps most : ℕ) (found : Found) (list : Vec Waiting Global) (waits : Waits) → waits ≡ Known list → found.stopped ≡ None → TellOfAll r discipline steps found waits →
    most < 2 ^ 32 → IsAnswer r discipline steps most found → KnowsWaits r discipline steps (Some list)
known_waits r discipline steps most found list waits is whole tell less answer =
    let all = subst (λ (o : Option ℕ). IsAnswerBy r discipline steps most answer.findings o) whole answer.answer in
    are_waiting r discipline steps most answer.findings all list.items (subst (TellWaits (silent_slots r discipline) in_call_on_slots waits_on_slots steps) is (tell most answer less whole).slots)
