-- The values of an output, in either of its forms.
use Rattle.std.specs.Prelude.{List}
use Rattle.cp_machine.specs.declared.shown.Shown.{Shown}
use Rattle.cp_run.specs.declared.outcome.Values.{Values}
use Rattle.cp_run.specs.declared.outcome.Values.TheVariants.{Few, Many}

abbrev pub items_of : Values → List Shown
items_of (Few few) = few.items
items_of (Many many) = many.items
