-- Verdicts on expectations that may name who waits at an end.
use Rattle.std.proofs.Common.{◌≡◌, ℕ, zero, suc, Bool, false, List, [], ◌∷◌, subst}
use Rattle.std.specs.Prelude.{Contains, Some, slice_get}
use Rattle.std.specs.List.{list_any}
use Rattle.cp_ends.proofs.Searching.Lists.{place_of}
use Rattle.cp_slots.specs.Tables.{Tables}
use Rattle.cp_machine.specs.declared.discipline.Discipline.{Discipline}
use Rattle.cp_expectation.specs.declared.expectation.Expectation.{Expectation}
use Rattle.cp_verdict.specs.endless.Behaviour.{on_slots}
use Rattle.cp_verdict.specs.endless.Judged as by_first
use Rattle.cp_verdict.specs.endless.Marked as marked
use Rattle.cp_verdict.specs.endless.Marked.{AreJudged, with_tables}
use Rattle.cp_verdict.specs.endless.Naming.{Processes}
use Rattle.cp_verdict.specs.waiting.Asking.{name_who, names_who}
use Rattle.cp_verdict.specs.waiting.EndsJudged.{IsJudgedAny}
use Rattle.cp_verdict.specs.declared.endless.known.KnownEnds.{KnownEnds}
use Rattle.cp_verdict.specs.declared.endless.verdict.EndsVerdict.{EndsVerdict}
use Rattle.cp_verdict.proofs.any_length.Verdicts.{judged_each}
use Rattle.cp_verdict.proofs.any_length.Finding.{some_same}
use Rattle.cp_verdict.proofs.who.Tests.{neither}

none_at : {A : Type 0} (t : A → Bool) (xs : List A) → list_any t xs ≡ false → (i : ℕ) (x : A) → slice_get xs i ≡ Some x → t x ≡ false
none_at t [] h i x at = absurd (cc)
none_at {A} t (y ∷ ys) h zero x at = subst (λ (z : A). t z ≡ false) (some_same y x at) (neither (t y) (list_any t ys) h).0
none_at t (y ∷ ys) h (suc i) x at = none_at t ys (neither (t y) (list_any t ys) h).1 i x at

-- where nobody is named, no expectation names somebody
pub unnamed : (es : List Expectation) → name_who es ≡ false → (e : Expectation) → Contains es e → names_who e ≡ false
unnamed es none e c = let at = place_of es e c in none_at names_who es none at.0 e at.1

-- and a verdict is by the first that settles each
pub by_firsts : (r : Tables) (ps : Processes) (discipline : Discipline) (steps : ℕ) (k : KnownEnds) (es : List Expectation) (v : EndsVerdict) → name_who es ≡ false → AreJudged (IsJudgedAny r ps discipline steps k) es v → marked.IsMarked (with_tables r ps) (on_slots r discipline steps) k es v
by_firsts r ps discipline steps k es v none m = judged_each (IsJudgedAny r ps discipline steps k) (by_first.IsJudged (with_tables r ps) (on_slots r discipline steps) k) es (λ e j c x. x.0 (unnamed es none e c)) v m
