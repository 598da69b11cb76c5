-- A process more, of those that are started.
use Rattle.std.proofs.Common.{◌≡◌, ◌∙◌, ℕ, ◌+◌, ◌<◌, ◌≤◌, Bool, true, false, List, [], ◌∷◌, ◌++◌, length, map, take, ap, refl, sym, subst, arith}
use Rattle.cp_machine.proofs.Words.{nat_lt, slice_index_or, ProcessState, Thread, thread_of}
use Rattle.std.proofs.lemmas.Bool.{ltb-true, ltb-false}
use Rattle.std.proofs.lemmas.List.{get_or_append_left, length-append, map-append, take_more}
use Rattle.std.proofs.Math.Seq.{get_or-append_seam}
use Rattle.cp_slots.specs.declared.tables.Process as slots

pub threads_more : (f : slots.Process → Thread) (ps new : List ProcessState) (p : ProcessState) (xs : List slots.Process) (i : ℕ) (d : slots.Process) → new ≡ ps ++ p ∷ [] → i < length xs → thread_of p ≡ f (slice_index_or xs i d) → map thread_of ps ≡ map f (take i xs) → map thread_of new ≡ map f (take (i + 1) xs)
threads_more f ps new p xs i d pushed lt last others =
    ap (map thread_of) pushed ∙ map-append thread_of ps (p ∷ []) ∙ ap (λ ts. ts ++ thread_of p ∷ []) others ∙ ap (λ t. map f (take i xs) ++ t ∷ []) last ∙ sym (map-append f (take i xs) (slice_index_or xs i d ∷ [])) ∙ ap (map f) (sym (take_more xs i d lt))

pub room_more : (size : ProcessState → ℕ) (n : ℕ) (ps new : List ProcessState) (p : ProcessState) → new ≡ ps ++ p ∷ [] → n ≤ size p → ((q : ℕ) (d : ProcessState) → q < length ps → n ≤ size (slice_index_or ps q d)) → (q : ℕ) (d : ProcessState) → q < length new → n ≤ size (slice_index_or new q d)
room_more size n ps new p pushed last others q d lt = subst (λ l. n ≤ size (slice_index_or l q d)) (sym pushed) (go (nat_lt q (length ps)) refl)
  where
    long : length new ≡ length ps + 1
    long = ap length pushed ∙ length-append ps (p ∷ [])

    go : (b : Bool) → nat_lt q (length ps) ≡ b → n ≤ size (slice_index_or (ps ++ p ∷ []) q d)
    go true before = subst (λ x. n ≤ size x) (sym (get_or_append_left ps (p ∷ []) d q (ltb-true q (length ps) before))) (others q d (ltb-true q (length ps) before))
    go false after =
        let at : length ps ≡ q = omega (arith, lt, long, ltb-false q (length ps) after) in
        subst (λ k. n ≤ size (slice_index_or (ps ++ p ∷ []) k d)) at (subst (λ x. n ≤ size x) (sym (get_or-append_seam ps p [] d)) last)
