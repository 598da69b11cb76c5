-- No word leads out of a trap.
use Rattle.cp_endless_laws.proofs.Words.{System, Choosing}
use Rattle.cp_endless_laws.specs.Traps.{TrapLaw}
use Rattle.cp_endless_laws.proofs.possible.Settled.{after_in}

pub trapped : {S : Type 0} (sys : System S) (trap : S → Type 0) → TrapLaw sys trap
trapped sys trap waiting q steps h s i = λ word t e. (let j = after_in sys steps trap (λ kind. Unit {0}) h.on word (Choosing s) (Choosing t) i e in (h.waits t j, λ p m. h.waits_between t p j m))
