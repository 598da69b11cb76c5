-- Marks that are equal.
use Rattle.std.proofs.Common.{◌≡◌, Bool, true, false, ◌&&◌, List, refl, sym, ap, ◌∙◌}
use Rattle.cp_cover.proofs.Words.{Contains, CoverMark}
use Rattle.std.specs.List.{list_any}
use Rattle.std.proofs.lemmas.Map.Views.{exact_unsigned_eq}
use Rattle.indexmap.proofs.CallerLemmas.{Contains-list_any}
use Rattle.cp_cover.specs.contracts.mark.CoverMarkPartialEq.TheImpl as mark_eq
use Rattle.cp_cover.specs.declared.mark.CoverMark.TheVariants.{Statement, Queue, Gate}

both : (a b : Bool) → (a && b) ≡ true → (a ≡ true) × (b ≡ true)
both true true h = (refl, refl)
both true false h = absurd (cc)
both false b h = absurd (cc)

-- marks that are equal are one
pub one_mark : (a b : CoverMark) → (mark_eq.ghosts).eq a b ≡ true → a ≡ b
one_mark (Statement a) (Statement b) h = ap Statement (exact_unsigned_eq a b h)
one_mark (Statement a) (Queue b) h = absurd (cc)
one_mark (Statement a) (Gate m r) h = absurd (cc)
one_mark (Queue a) (Statement b) h = absurd (cc)
one_mark (Queue a) (Queue b) h = ap Queue (exact_unsigned_eq a b h)
one_mark (Queue a) (Gate m r) h = absurd (cc)
one_mark (Gate m r) (Statement b) h = absurd (cc)
one_mark (Gate m r) (Queue b) h = absurd (cc)
one_mark (Gate m r) (Gate n s) h =
    let e = both _ _ h in
    ap (λ k. Gate k r) (exact_unsigned_eq m n e.0) ∙ ap (λ k. Gate n k) (exact_unsigned_eq r s e.1)

-- a mark that is found is among them
pub found_mark : (marks : List CoverMark) (mark : CoverMark) (b : Bool) → b ≡ list_any ((mark_eq.ghosts).eq mark) marks → b ≡ true → Contains marks mark
found_mark marks mark b e h = Contains-list_any (mark_eq.ghosts).eq one_mark marks mark (sym e ∙ h)
