-- Ends that were found with kernel calls at once, listed one after another.
use Rattle.std.proofs.Common.{◌≡◌, ◌∙◌, ◌+◌, ◌<◌, ◌≤◌, ℕ, zero, suc, List, [], ◌∷◌, ◌++◌, All, length, map, get_or, take, refl, sym, ap, subst, arith, add-one}
use Rattle.std.proofs.lemmas.List.{map-append, take_all}
use Rattle.cp_slots.specs.Tables.{Tables}
use Rattle.cp_machine.specs.System.{Machine}
use Rattle.cp_at_once.specs.Holds.{AreStates, IsWordOf}
use Rattle.cp_at_once.specs.declared.found.EndAtOnce.{EndAtOnce}
use Rattle.cp_at_once.specs.declared.kept.Kept.{Kept}
use Rattle.cp_at_once.specs.declared.origin.OriginAtOnce.{OriginAtOnce}
use Rattle.cp_ends.specs.Told.{EndsWithWords}
use Rattle.cp_ends.specs.declared.end.End.{End}
use Rattle.cp_ends_story.specs.Findings.{HaveWord, HaveWords, end_with_word}
use Rattle.cp_ends_story.specs.declared.subject.ToldEnd.{ToldEnd}

-- one more, with its word
put_behind : (states : List (Machine × List ℕ)) (es : List EndAtOnce) (i : ℕ) (d : EndAtOnce) (fs : EndsWithWords) (word : List ℕ) → i < length es → HaveWords states (take i es) fs → IsWordOf states (get_or es i d).origin word → HaveWords states (take (suc i) es) (fs ++ ((get_or es i d).end, word) ∷ [])
put_behind states [] i d fs word lt h is = absurd (omega arith)
put_behind states (e ∷ es) zero d [] word lt h is = (refl, is, tt)
put_behind states (e ∷ es) zero d (f ∷ fs) word lt h is = absurd h
put_behind states (e ∷ es) (suc i) d [] word lt h is = absurd h
put_behind states (e ∷ es) (suc i) d (f ∷ fs) word lt h is = (h.0, h.1, put_behind states es i d fs word (omega arith) h.2 is)

-- what is listed of the first so many ends
abbrev pub EndsSoFar : Kept → List EndAtOnce → ℕ → List ToldEnd → Type 0
EndsSoFar kept ends i list = (r : Tables) (states : List (Machine × List ℕ)) → AreStates r kept.known.entries states → All (HaveWord states) ends → HaveWords states (take i ends) (map end_with_word list)

-- the word for which an origin stands is this
abbrev pub IsItsWord : Kept → OriginAtOnce → List ℕ → Type 0
IsItsWord kept origin word = (r : Tables) (states : List (Machine × List ℕ)) (w : List ℕ) → AreStates r kept.known.entries states → IsWordOf states origin w → word ≡ w

-- the next of them
pub ends_more : (kept : Kept) (ends : List EndAtOnce) (i : ℕ) (e : EndAtOnce) (next : ToldEnd) (list new : List ToldEnd) → i < length ends → e ≡ get_or ends i e → IsItsWord kept e.origin next.word.items → next.end ≡ e.end → EndsSoFar kept ends i list → new ≡ list ++ next ∷ [] → EndsSoFar kept ends (i + 1) new
ends_more kept ends i e next list new lt here is same before more r states s all =
    let word = next.word.items in
    let at = all i e lt in
    let its = subst (IsWordOf states (get_or ends i e).origin) (sym (subst (λ (x : EndAtOnce). IsItsWord kept x.origin word) here is r states at.0 s at.1)) at.1 in
    let behind = put_behind states ends i e (map end_with_word list) word lt (before r states s all) its in
    let put : take (suc i) ends ≡ take (i + 1) ends = rw add-one refl in
    let told : map end_with_word new ≡ map end_with_word list ++ ((get_or ends i e).end, word) ∷ [] = ap (map end_with_word) more ∙ map-append end_with_word list (next ∷ []) ∙ ap (λ (n : End). map end_with_word list ++ (n, word) ∷ []) (same ∙ ap (λ (x : EndAtOnce). x.end) here) in
    subst (λ l. HaveWords states (take (i + 1) ends) l) (sym told) (subst (λ l. HaveWords states l (map end_with_word list ++ ((get_or ends i e).end, word) ∷ [])) put behind)

-- all of them
pub all_listed : (kept : Kept) (ends : List EndAtOnce) (i : ℕ) (list : List ToldEnd) → length ends ≤ i → EndsSoFar kept ends i list → (r : Tables) (states : List (Machine × List ℕ)) → AreStates r kept.known.entries states → All (HaveWord states) ends → HaveWords states ends (map end_with_word list)
all_listed kept ends i list past h r states s all = subst (λ l. HaveWords states l (map end_with_word list)) (take_all i ends past) (h r states s all)
