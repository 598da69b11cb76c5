-- Ends with their words, listed one after another.
use Rattle.std.proofs.Common.{◌≡◌, ◌∙◌, ◌+◌, ◌<◌, ℕ, List, [], ◌∷◌, ◌++◌, Option, None, Some, length, map, get_or, take, refl, sym, ap, add-one, if◌then◌else◌}
use Rattle.cp_slots.specs.Tables.{Tables}
use Rattle.cp_machine.specs.System.{Machine}
use Rattle.cp_ends.specs.Holds.{AreFound, AreStates, IsWordOf, end_origin}
use Rattle.cp_ends.specs.Told.{EndsWithWords, is_told, told}
use Rattle.cp_ends.specs.declared.found.FoundEnd.{FoundEnd}
use Rattle.cp_ends.specs.declared.origin.Origin.{Origin}
use Rattle.cp_ends.specs.declared.states.States.{States}
use Rattle.cp_ends.proofs.Listing.{found_at, told_push}
use Rattle.cp_ends_story.specs.Findings.{end_with_word}
use Rattle.cp_ends_story.specs.declared.subject.ToldEnd.{ToldEnd}

abbrev nothing : EndsWithWords
nothing = []

pub nothing_told : (depth : Option ℕ) → told depth nothing ≡ nothing
nothing_told None = refl
nothing_told (Some choices) = refl

-- what is listed of the first so many ends
abbrev pub EndsSoFar : States → Option ℕ → List FoundEnd → ℕ → List ToldEnd → Type 0
EndsSoFar kept depth ends i list = (r : Tables) (states : List (Machine × List ℕ)) (fs : EndsWithWords) → AreStates r kept states → AreFound states (map end_origin ends) fs → map end_with_word list ≡ told depth (take i fs)

-- the word for which an origin stands is this
abbrev pub IsItsWord : States → Origin → List ℕ → Type 0
IsItsWord kept origin word = (r : Tables) (states : List (Machine × List ℕ)) (w : List ℕ) → AreStates r kept states → IsWordOf states origin w → word ≡ w

-- the next of them
pub ends_more : (kept : States) (depth : Option ℕ) (ends : List FoundEnd) (i : ℕ) (d : FoundEnd) (word : List ℕ) (list new : List ToldEnd) → i < length ends → IsItsWord kept (get_or ends i d).origin word → EndsSoFar kept depth ends i list → map end_with_word new ≡ map end_with_word list ++ (if is_told depth word then ((get_or ends i d).end, word) ∷ [] else []) → EndsSoFar kept depth ends (i + 1) new
ends_more kept depth ends i d word list new lt is before e r states fs s a =
    let f = found_at states end_origin ends fs i d a lt in
    let same = is r states f.0.1 s f.3 in
    let put : take (i + 1) fs ≡ take i fs ++ f.0 ∷ [] = rw add-one f.1 in
    let pair = ap (λ x. (x, word)) f.2 ∙ ap (λ w. (f.0.0, w)) same in
    e ∙ ap (λ l. l ++ (if is_told depth word then ((get_or ends i d).end, word) ∷ [] else [])) (before r states fs s a) ∙ ap (λ x. told depth (take i fs) ++ (if is_told depth x.1 then x ∷ [] else [])) pair ∙ sym (told_push depth (take i fs) f.0) ∙ ap (told depth) (sym put)
