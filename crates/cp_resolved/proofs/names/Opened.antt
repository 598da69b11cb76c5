-- The openings of a program have the numbers that the numbering gives them.
use Rattle.std.proofs.Common.{◌≡◌, suc, List, [], ◌∷◌, ◌++◌, length, refl, sym, ap, subst, ◌∙◌, arith, append_assoc, length-append}
use Rattle.cp_resolved.proofs.Words.{slice_get, Program, RoutineMeaning, declared, own_meaning, initial_meaning, Opening, AreOpened, meaning_in, meaning_at, openings_of}
use Rattle.cp_resolved.proofs.components.ComponentsStand.{entry_there as slice_seam}

opened_from : (m : RoutineMeaning) (all before os : List Opening) → all ≡ before ++ os → AreOpened (λ n. meaning_in m (slice_get all n)) (length before) os
opened_from m all before [] h = tt
opened_from m all before (o ∷ os) h =
    let e : length (before ++ o ∷ []) ≡ suc (length before) = omega (arith, length-append before (o ∷ [])) in
    let rest : AreOpened (λ n. meaning_in m (slice_get all n)) (length (before ++ o ∷ [])) os = opened_from m all (before ++ o ∷ []) os (h ∙ sym (append_assoc before (o ∷ []) os)) in
    (ap (λ a. meaning_in m (slice_get a (length before))) h ∙ ap (meaning_in m) (slice_seam before o os), subst (λ n. AreOpened (λ n. meaning_in m (slice_get all n)) n os) e rest)

pub opened_all : (p : Program) → AreOpened (meaning_at p) 0 (openings_of p)
opened_all p = opened_from (initial_meaning (own_meaning (declared p) p)) (openings_of p) [] (openings_of p) refl
