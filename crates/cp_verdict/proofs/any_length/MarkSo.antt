-- A verdict by what is known is the mark.
use Rattle.cp_verdict.proofs.any_length.Vocabulary.{◌≡◌, ℕ, List, Tables, Discipline, on_slots, IsKnown, Expectation, KnownEnds, Processes, EndsVerdict}
use Rattle.std.specs.Prelude.{IfOk, Result}
use Rattle.std.proofs.lemmas.Result.{IfOk-weaker}
use Rattle.cp_verdict.specs.endless.Marked.{IsMarked, IsMarkOf, IsMeantMark, mark_of, with_tables}
use Rattle.cp_verdict.specs.declared.endless.saying.MarkedEnds.{MarkedEnds}
use Rattle.cp_verdict.proofs.any_length.MeantMarks.{meant}

module _ {E : Type 0} (r : Tables) (ps : Processes) (discipline : Discipline) (steps most : ℕ) (es : List Expectation) (k : KnownEnds) (is_known : IsKnown r discipline steps most k) (v : EndsVerdict) (marked : IsMarked (with_tables r ps) (on_slots r discipline steps) k es v) where
  pub marked_so : (told : Result MarkedEnds E) → IfOk told (λ m. m.mark ≡ mark_of v k.looked) → IfOk told (λ m. IsMarkOf r ps discipline steps most es m.mark)
  marked_so told h = IfOk-weaker told (λ m. m.mark ≡ mark_of v k.looked) (λ m. IsMarkOf r ps discipline steps most es m.mark) (λ m is. record { known = k; is_known = is_known; verdict = v; is = is; marked = marked }) h

  pub meant_so : (told : Result MarkedEnds E) → IfOk told (λ m. m.mark ≡ mark_of v k.looked) → IfOk told (λ m. IsMeantMark r ps discipline steps es m.mark)
  meant_so told h = IfOk-weaker told (λ m. IsMarkOf r ps discipline steps most es m.mark) (λ m. IsMeantMark r ps discipline steps es m.mark) (λ m is. meant r ps discipline steps most es m.mark is) (marked_so told h)
