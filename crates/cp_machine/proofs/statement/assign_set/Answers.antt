use Rattle.cp_machine.proofs.Words.{SET_CELLS}
use Rattle.cp_machine.proofs.Outcomes.{replaced_has, replaced_within}
use Rattle.cp_machine.proofs.PremiseLemmas.{takes_reads, takes_replaces, takes_within}
use Rattle.cp_machine.proofs.statement.assign_set.Goals as goal

pub set_of-requires : goal.set_of-requires
set_of-requires c = record { pid = takes_within c.requires; reads = (takes_reads c.requires).0 }

pub address_of-requires : goal.address_of-requires
address_of-requires c = record { pid = takes_within c.requires; reach = (SET_CELLS, (takes_reads c.requires).1) }

pub replace-requires : goal.replace-requires
replace-requires c = takes_replaces c.requires

pub put_set-requires : goal.put_set-requires
put_set-requires c =
    let s = c.args.state.now in
    let t = c.replace.new.state in
    let lt = takes_within c.requires in
    record {
      pid = replaced_within s t c.args.pid _ c.replace.ensures.after lt;
      cells = replaced_has s t c.args.pid _ c.in_ok-at.at SET_CELLS c.replace.ensures.after lt (c.in_ok-at.ensures.cells SET_CELLS (takes_reads c.requires).1);
    }

pub returns-clause-reserved : goal.returns-clause-reserved
returns-clause-reserved c = λ r h. c.put_set.ensures.reserved r (c.replace.ensures.reserved r h)
