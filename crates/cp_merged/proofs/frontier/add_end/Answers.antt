use Rattle.cp_merged.proofs.Words.{◌≡◌, ◌∙◌, ap, map, sym, insert_entry, same_outcome, end_of, EndKey}
use Rattle.cp_merged.specs.declared.prefixes.Prefixes as code
use Rattle.cp_merged.proofs.Adding.{known_end, new_end}
use Rattle.cp_merged.proofs.frontier.add_end.Goals as goal

pub returns-in-Some : goal.returns-in-Some
returns-in-Some c =
    ap (map end_of) (c.get_mut.follows.holds c.merge.new.self).0
    ∙ known_end c.args.ended.now.entries c.args.key c.in-Some.known.now c.args.prefixes.now c.merge.new.self (sym c.in-Some.ensures.value) (c.merge.ensures.count, c.merge.ensures.first)

pub returns-in_ok-insert-in-None : goal.returns-in_ok-insert-in-None
returns-in_ok-insert-in-None c =
    let es = c.args.ended.now.entries in
    let k = c.args.key in
    let same : c.get_mut.follows.lender-at-none.entries ≡ es = ap (λ n. n.entries) c.get_mut.follows.holds-at-none in
    let first : c.insert.new.self.entries ≡ insert_entry (λ a b. same_outcome a.outcome b.outcome) c.get_mut.follows.lender-at-none.entries k c.copy_of.result = c.in_ok-insert-in-None.ensures.entries in
    let put = first ∙ ap (λ xs. insert_entry (λ (a : EndKey) (b : EndKey). same_outcome a.outcome b.outcome) xs k c.copy_of.result) same ∙ ap (λ (x : code.Prefixes). insert_entry (λ (a : EndKey) (b : EndKey). same_outcome a.outcome b.outcome) es k x) c.copy_of.ensures in
    new_end es c.insert.new.self.entries k c.args.prefixes.now put (sym c.in-None.ensures.value)
