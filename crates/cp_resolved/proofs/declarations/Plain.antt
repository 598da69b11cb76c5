-- Programs that were read and break no rule are plain.
use Rattle.cp_resolved.specs.Read.{PlainLaw, ReadNamesLaw}
use Rattle.cp_resolved.proofs.names.NamesOfTrees.{names_law}
use Rattle.cp_resolved.proofs.agreeing.ScopesOfTrees.{agreed_program}
use Rattle.cp_resolved.proofs.declarations.SmallTexts.{read_small, read_numbered}

pub plain_law : PlainLaw
plain_law t read accepted = record { small = read_small t.program read; fit = (agreed_program t read accepted).fit; numbered = read_numbered t.program read }

pub read_names_law : ReadNamesLaw
read_names_law t read accepted = names_law t (plain_law t read accepted)
