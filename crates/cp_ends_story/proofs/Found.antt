-- What is found by each state, or with kernel calls at once, are the findings.
use Rattle.std.proofs.Common.{◌≡◌, inl, inr, ℕ, Bool, true, false, Option, None, Some, length, refl, sym, subst}
use Rattle.cp_ends.specs.Told.{IsDepth}
use Rattle.cp_ends.specs.Whole.{IsAnswer, IsAnswerBy}
use Rattle.cp_ends_story.specs.Findings.{AreFindings, AreFindingsBy, AreFoundAtOnce, AreFoundByStates, IsCutShort}
use Rattle.cp_ends_story.specs.declared.subject.EndsSubject.{EndsSubject}
use Rattle.cp_ends_story.specs.declared.subject.Findings.{Findings}
use Rattle.cp_slots.specs.Tables.{Tables}
use Rattle.cp_machine.specs.declared.discipline.Discipline.{Discipline}
use Rattle.cp_ends.specs.Holds.{SlotFindings}

pub asked_at_once : (s : EndsSubject) (x : Findings) → s.at_once ≡ true → AreFoundAtOnce s x → AreFindings s x
asked_at_once s x is h = subst (λ (b : Bool). AreFindingsBy b s x) (sym is) h

pub followed : (s : EndsSubject) (x : Findings) → s.at_once ≡ false → AreFoundByStates s x → AreFindings s x
followed s x is h = subst (λ (b : Bool). AreFindingsBy b s x) (sym is) (inl h)

pub followed_in_vain : (s : EndsSubject) (plain x : Findings) → s.at_once ≡ false → AreFoundByStates s plain → IsCutShort plain.reach → AreFoundAtOnce s x → AreFindings s x
followed_in_vain s plain x is before many h = subst (λ (b : Bool). AreFindingsBy b s x) (sym is) (inr (plain, before, many, h))

-- up to how many choices a search looked that answers so
pub depth_of : (r : Tables) (discipline : Discipline) (steps most : ℕ) (f : SlotFindings) (stopped : Option ℕ) → IsAnswerBy r discipline steps most f stopped → (depth : Option ℕ) × IsDepth f stopped depth
depth_of r discipline steps most f None answer = (None, refl)
depth_of r discipline steps most f (Some at) (x, is, cut) = (Some (length x.1), (x, is, refl))
