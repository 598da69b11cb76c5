-- In the tables of an accepted tree no routine calls itself.
use Rattle.std.proofs.Common.{◌≡◌, ℕ, zero, suc, ◌<◌, List, [], ◌∷◌, ◌∙◌, map, length, slice_index_or, ap, sym, subst, refl, arith}
use Rattle.cp_resolved.proofs.Words.{Tree, PlainTables, laid, tables_laid, program, nothing_laid, no_item, IsOwnCall, action_seen, item_seen}
use Rattle.cp_slots.specs.declared.item.Item as code_item
use Rattle.cp_slots.specs.declared.item.Action as code_action
use Rattle.cp_slots.specs.declared.item.Action.TheVariants as action
use Rattle.cp_resolved.specs.OwnCalls.{OwnCallsLaw}
use Rattle.cp_resolved.proofs.laid.Foreign.{IsForeign, AreForeign}
use Rattle.cp_resolved.proofs.declarations.NamedRoutines.{read_routines}
use Rattle.cp_resolved.proofs.sound.OwnCalls.{program_foreign}

foreign_at : (xs : List code_item.Item) (at : ℕ) → at < length xs → AreForeign (map item_seen xs) → IsForeign (slice_index_or xs at no_item).routine (action_seen (slice_index_or xs at no_item).action)
foreign_at [] at lt h = absurd (omega arith)
foreign_at (x ∷ xs) zero lt h = h.0
foreign_at (x ∷ xs) (suc at) lt h = foreign_at xs at (omega arith) h.1

no_own_call : (r : ℕ) (a : code_action.Action) → IsForeign r (action_seen a) → IsOwnCall r a → ⊥
no_own_call r (action.Call c p b as' result) h e = h e
no_own_call r (action.Start p c as') h e = h e
no_own_call r _ h e = e

pub laid_items : (t : Tree) → (laid t).items ≡ (program (nothing_laid t.lines) t.program).items
unfolding laid tables_laid
laid_items t = refl

pub own_calls_law : OwnCallsLaw
own_calls_law t tree is read accepted at lt =
    let items : map item_seen t.items ≡ (program (nothing_laid tree.lines) tree.program).items = ap (λ (p : PlainTables). p.items) is ∙ laid_items tree in
    no_own_call _ _ (foreign_at t.items at lt (subst AreForeign (sym items) (program_foreign tree (read_routines tree.program read) accepted)))
