-- The tables of a program that was read have at most 20,000 items.
use Rattle.cp_resolved.proofs.Words.{◌≡◌, List, ◌∙◌, map, length, ap, arith, PlainTables, program, nothing_laid}
use Rattle.cp_slots.specs.Code.{Item, item_seen}
use Rattle.cp_resolved.specs.Held.{FewItemsLaw}
use Rattle.cp_resolved.proofs.counts.FewItems.{program_few}
use Rattle.cp_resolved.proofs.sound.OwnCallsOfTables.{laid_items}
use Rattle.cp_resolved.proofs.declarations.Nameless.{indexed_known}
use Rattle.cp_resolved.proofs.declarations.SmallTexts.{read_few}
use Rattle.cp_resolved.proofs.sound.SoundItems.{seen_length}

pub few_items_law : FewItemsLaw
few_items_law t tree is read =
    let items : length (map item_seen t.items) ≡ length (program (nothing_laid tree.lines) tree.program).items = ap (λ (js : List Item). length js) (ap (λ (p : PlainTables). p.items) is ∙ laid_items tree) in
    let same = seen_length t.items in
    let few = program_few tree (indexed_known tree.program read.proper.indexed) in
    let tokens = read_few tree.program read in
    omega (arith, items, same, few, tokens)
