-- What a process keeps doing from one due choice to the next.
use Rattle.std.specs.Prelude.{Bool, false, not}
use Rattle.cp_waits.specs.declared.passing.Keeping.{Keeping}
use Rattle.cp_waits.specs.declared.passing.Keeping.TheVariants.{Waiting, Inside}
use Rattle.cp_waits.specs.declared.passing.PassingSets.{PassingSets}
use Rattle.cp_waits.specs.declared.set.Set.{Set}
use Rattle.cp_waits.specs.Sets.{has}

-- it does so at each moment
abbrev pub keeps : Keeping → PassingSets → Bool
keeps (Waiting q) p = has p.wait q
keeps (Inside q) p = has p.stay q

-- it is asked to wait now and then, and is not among those that do
abbrev pub lacks : Keeping → Set → Bool
lacks (Waiting q) waits = false
lacks (Inside q) waits = not (has waits q)
