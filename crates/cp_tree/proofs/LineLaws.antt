-- The lines of the first tokens.
use Rattle.std.proofs.Common.{◌≡◌, ℕ, zero, suc, ◌+◌, ◌-◌, ◌<◌, ◌≤◌, List, [], ◌∷◌, ◌++◌, length, take, get_or, refl, ap, arith}
use Rattle.std.proofs.lemmas.Option.{unwrap_or-slice_get}
use Rattle.std.proofs.lemmas.List.{length-map, take_all}
use Rattle.std.proofs.Math.Nat.{min-eq_left}
use Rattle.cp_text.specs.declared.token.Token.{Token}
use Rattle.cp_text.specs.Lines.{lines, line_of}

one_more : (ns : List ℕ) (n d : ℕ) → n < length ns → take n ns ++ get_or ns n d ∷ [] ≡ take (suc n) ns
one_more [] n d h = absurd (omega arith)
one_more (m ∷ ns) zero d h = refl
one_more (m ∷ ns) (suc n) d h = ap (λ (x : List ℕ). m ∷ x) (one_more ns n d (omega arith))

pub next_line : (ts : List Token) (n : ℕ) → n < length ts → take n (lines ts) ++ line_of ts n ∷ [] ≡ take (n + 1) (lines ts)
next_line ts n h =
    let within : n ≤ length ts - 1 = omega arith in
    let e : suc n ≡ n + 1 = omega arith in
    rw (min-eq_left within) (rw (unwrap_or-slice_get (lines ts) n 1) (rw (← e) (one_more (lines ts) n 1 (rw length-map h))))

pub all_lines : (ts : List Token) (n : ℕ) → length ts ≤ n → take n (lines ts) ≡ lines ts
all_lines ts n h = take_all n (lines ts) (rw length-map h)
