use Rattle.std.proofs.Common.{◌≡◌, ◌∷◌, take}
use Rattle.cp_effects.specs.Changes.{numbers_at}
use Rattle.cp_effects.proofs.table.put_key.Given as goal

abbrev pub invariant-loop-place : goal.invariant-loop-place
invariant-loop-place l = l.key.items ≡ l.pid ∷ l.scope ∷ numbers_at l.table (take l.place-index l.places) l.row
