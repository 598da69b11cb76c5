-- Numbers for what states hold, perhaps the same for different ones.
use Rattle.std.specs.Prelude.{ℕ, ◌+◌, ◌*◌, ◌%◌, ◌^◌, true, false}
use Rattle.std.specs.Int.{cast_unsigned}
use mir.Syntax.{w16}
use Rattle.cp_store.specs.declared.memory.Address.{Address}
use Rattle.cp_store.specs.declared.memory.Address.TheVariants.{Permanent, Local}
use Rattle.cp_machine.specs.declared.process.Entry.{Entry}
use Rattle.cp_machine.specs.declared.process.Entry.TheVariants.{Rest, Successor, Return, InitEnd}
use Rattle.cp_machine.specs.declared.shown.Shown.{Shown}
use Rattle.cp_machine.specs.declared.shown.Shown.TheVariants.{Integer, Char, Truth, Constant}
use Rattle.cp_machine.specs.declared.state.Phase.{Phase}
use Rattle.cp_machine.specs.declared.state.Phase.TheVariants.{Uninitialised, Initialising, Initialised}

abbrev pub phase_code : Phase → ℕ
phase_code Uninitialised = 0
phase_code Initialising = 1
phase_code Initialised = 2

abbrev pub shown_code : Shown → ℕ
shown_code (Integer z) = cast_unsigned w16 z
shown_code (Char c) = c
shown_code (Truth false) = 0
shown_code (Truth true) = 1
shown_code (Constant n) = n

abbrev pub address_code : Address → ℕ
address_code (Permanent n) = n
address_code (Local n) = n

abbrev pub entry_code : Entry → ℕ
entry_code (Rest item) = item
entry_code (Successor item value last) = (item + 65536 * cast_unsigned w16 value) % 2 ^ 64
entry_code (Return frame result monitor) = frame.routine
entry_code (InitEnd frame component) = frame.routine
