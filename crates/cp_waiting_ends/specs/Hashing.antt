-- What of an end is hashed.
use Rattle.std.specs.Prelude.{◌≡◌, ◌∷◌, ◌&&◌, ℕ, List, Bool, true, flat_map, nat_eq}
use Rattle.std.specs.Hash as fed
use Rattle.std.specs.Cmp.Lexicographic.{bytes_decides}
use Rattle.std.proofs.Common.{◌∙◌, ap, false, refl}
use Rattle.cp_walk.specs.Hashing.{hashed}
use Rattle.cp_walk.specs.Report.{outcome_numbers}
use Rattle.cp_waiting_ends.specs.contracts.end.WaitingEndPartialEq.TheImpl as end_eq
use Rattle.cp_waiting_ends.specs.declared.end.WaitingEnd.{WaitingEnd}

-- who waits, and the outcome
abbrev pub hash_input : WaitingEnd → List (List ℕ)
hash_input e = e.who.items ∷ flat_map fed.u32 (hashed (outcome_numbers e.key.outcome))

both : (a b : Bool) → (a && b) ≡ true → (a ≡ true) × (b ≡ true)
both true true h = (refl, refl)
both true false h = absurd (cc)
both false b h = absurd (cc)

pub respects_eq : (x y : WaitingEnd) → (end_eq.ghosts).eq x y ≡ true → hash_input x ≡ hash_input y
respects_eq x y h =
    let e = both _ _ h in
    ap (λ who. who ∷ flat_map fed.u32 (hashed (outcome_numbers x.key.outcome))) ((bytes_decides x.who.items y.who.items).0 e.0)
    ∙ ap (λ numbers. y.who.items ∷ flat_map fed.u32 (hashed numbers)) ((bytes_decides (outcome_numbers x.key.outcome) (outcome_numbers y.key.outcome)).0 e.1)
