use Rattle.std.proofs.Common.{◌≡◌, ◌≢◌, ◌≤◌, ℕ, ◌+◌, ◌-◌, List, [], ◌∷◌, ◌++◌, zero, suc, arith, length, take, drop, sym, ap, ◌∙◌, append_assoc, length-append, length-take-le, take-append-drop, Ok, refl}
use Rattle.std.proofs.lemmas.List.{take_rest}
use Rattle.std.proofs.KnownBytes.{Appends-trans}
use Rattle.cp_front.specs.Calls.{one_if_nothing}
use Rattle.cp_front.proofs.transfer.write_text.Goals as goal

moves_front : (all done rest : List ℕ) (n : ℕ) → all ≡ done ++ rest → all ≡ (done ++ take n rest) ++ take (length rest - n) (drop n rest)
moves_front all done rest n e =
    e ∙ ap (λ l. done ++ l) (sym (take-append-drop n rest)) ∙ sym (append_assoc done (take n rest) (drop n rest)) ∙ ap (λ l. (done ++ take n rest) ++ l) (sym (take_rest rest n))

took : (bs : List ℕ) (n : ℕ) → n ≢ 0 → one_if_nothing bs (Ok n) ≡ 0
took [] n some = refl
took (b ∷ bs) zero some = absurd (some refl)
took (b ∷ bs) (suc n) some = refl

pub loop-turn-preserved : goal.loop-turn-preserved
loop-turn-preserved g c =
    let (done, split, appended, counts, turns) = c.loop-turn.invariant in
    let rest = c.loop-turn.rest.now in
    let n = c.in-Ok.n in
    let some : n ≢ 0 = c.in-Ok.n-test.1 in
    let bound : n ≤ length rest = c.in-Ok.ensures.bound in
    let grown : length (done ++ take n rest) ≡ length done + n = length-append done (take n rest) ∙ ap (λ k. length done + k) (length-take-le n rest bound) in
    let more : c.loop-turn._turn + 1 ≤ length (done ++ take n rest) = omega (arith, turns, grown, some) in
    (done ++ take n rest, moves_front _ done rest n split, Appends-trans _ _ _ _ _ appended c.in-Ok.ensures.bytes, omega (arith, counts, c.in-Ok.ensures.failed, c.in-Ok.ensures.nothing, took rest n some), more)
