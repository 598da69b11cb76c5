-- The states that are kept are the program's.
use Rattle.std.specs.Prelude.{◌≡◌, All}
use Rattle.cp_slots.specs.Tables.{Tables}
use Rattle.cp_machine.specs.Machine.{Machine}
use Rattle.cp_key.specs.Key.{key_of}
use Rattle.cp_key.specs.Room.{IsMachineOf}
use Rattle.cp_key.specs.declared.state_key.StateKey.{StateKey}
use Rattle.cp_simplest.specs.declared.states.States.{States}

-- the key is that of a machine of the program
abbrev pub IsOwn : Tables → StateKey → Type 0
IsOwn r key = (m : Machine) × IsMachineOf r m × (key.bytes.items ≡ key_of m)

abbrev pub AreOwn : Tables → States → Type 0
AreOwn r states = All (IsOwn r) states.keys.keys
