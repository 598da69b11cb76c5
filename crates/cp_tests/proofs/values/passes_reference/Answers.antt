use Rattle.std.proofs.Common.{refl, lit<, [], ◌∷◌, pos}
use Rattle.cp_store.specs.declared.memory.Frame.{Frame}
use Rattle.cp_store.specs.Memory.{memory_of}
use Rattle.std.proofs.lemmas.List.Elements.{All-cons, All-nil}
use Rattle.cp_slots.specs.declared.place.Argument.{Argument}
use Rattle.cp_slots.specs.declared.place.ArgumentValue.TheVariants.{Reference}
use Rattle.cp_store.specs.Inside.{CanGive}
use Rattle.cp_tests.proofs.OwnCells.{own_reach}
use Rattle.cp_tests.proofs.values.passes_reference.Goals as goal

abbrev frame : Frame
frame = record { routine = 0; component = 0; own = 0; base = 0; references = 0 }

pub evaluate_arguments-evaluated-requires-clause-reads : goal.evaluate_arguments-evaluated-requires-clause-reads
evaluate_arguments-evaluated-requires-clause-reads c =
    let argument : Argument = record { slot = 0; value = Reference c.variable.result } in
    All-cons (λ x. CanGive (memory_of (pos 7 ∷ []) c.in-Ok.room) [] frame x.value) argument []
    (1, own_reach (memory_of (pos 7 ∷ []) c.in-Ok.room) frame refl refl refl (lit< tt) c.in-Ok.ensures.0 c.in-Ok.ensures.1 c.variable.result 1 c.variable.ensures)
    (All-nil (λ x. CanGive (memory_of (pos 7 ∷ []) c.in-Ok.room) [] frame x.value))
