use Rattle.std.proofs.Common.{◌∙◌, ap, if◌then◌else◌, sym}
use Rattle.indexmap.specs.IndexMap.{insert_entry}
use Rattle.std.specs.Prelude.{nat_eq}
use Rattle.cp_scope.proofs.shapes.keep_first.Goals as goal

pub returns-in_ok-insert-clause-kept : goal.returns-in_ok-insert-clause-kept
returns-in_ok-insert-clause-kept g c = c.in_ok-insert.ensures.entries ∙ ap (λ b. if b then c.args.items.now.entries else insert_entry nat_eq c.args.items.now.entries c.args.at c.args.value) (sym (sym c.contains_key.ensures ∙ c.if-not-contains_key.true))

pub returns-else-not-contains_key-clause-kept : goal.returns-else-not-contains_key-clause-kept
returns-else-not-contains_key-clause-kept g c = ap (λ b. if b then c.args.items.now.entries else insert_entry nat_eq c.args.items.now.entries c.args.at c.args.value) (sym (sym c.contains_key.ensures ∙ c.if-not-contains_key.false))
