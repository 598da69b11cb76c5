-- The law of names.
use Rattle.cp_resolved.specs.Openings.{numbering_of}
use Rattle.cp_resolved.specs.Names.{NamesLaw}
use Rattle.cp_resolved.proofs.names.Opened.{opened_all}
use Rattle.cp_resolved.proofs.names.StepsOfProgram.{names_laid}
use Rattle.cp_resolved.proofs.names.EachInStep.{all_in_step}

pub names_law : NamesLaw
names_law t h =
    record {
      in_step = all_in_step (numbering_of t.program) t h.small h.fit h.numbered (opened_all t.program);
      constants = names_laid (numbering_of t.program) t h.small h.fit h.numbered (opened_all t.program);
    }
