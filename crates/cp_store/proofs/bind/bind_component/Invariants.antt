use Rattle.std.proofs.Common.{◌≡◌, drop}
use Rattle.cp_store.specs.Arguments.{bind_component, bindings_after}
use Rattle.cp_store.specs.Inside.{AllFitComponent}
use Rattle.cp_store.specs.Memory.{memory_of, KeepsRoom}
use Rattle.cp_store.proofs.bind.bind_component.Given as goal

abbrev pub invariant-loop-number : goal.invariant-loop-number
invariant-loop-number l =
    record {
      after : bind_component (memory_of l.fn.permanents l.fn.room) l.base l.arguments l.bounds ≡ bind_component (memory_of l.permanents l.room) l.base (drop l.number l.arguments) (drop l.number l.bounds);
      bindings : bindings_after l.fn.bindings l.base l.arguments l.bounds ≡ bindings_after l.bindings l.base (drop l.number l.arguments) (drop l.number l.bounds);
      fit : AllFitComponent (memory_of l.permanents l.room) l.bindings l.base (drop l.number l.arguments) (drop l.number l.bounds);
      room : KeepsRoom l.fn.room l.room;
    }
