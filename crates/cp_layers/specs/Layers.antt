-- Layers of states, and what comes of expanding them.
use Rattle.std.specs.Prelude.{◌≡◌, ◌⊎◌, ◌<◌, ◌≤◌, ◌+◌, ℕ, suc, List, true, Contains, Some, length, slice_get}
use Rattle.cp_slots.specs.Tables.{Tables}
use Rattle.cp_key.specs.Key.{key_of}
use Rattle.cp_key.specs.Room.{IsMachineOf}
use Rattle.cp_machine.specs.Machine.{Machine}
use Rattle.cp_run.specs.System.{System}
use Rattle.cp_run.specs.Run.{Node, Choosing, may, chosen}
use Rattle.cp_key.specs.declared.state_key.StateKey.{StateKey}
use Rattle.cp_layers.specs.Marking.{Marking}
use Rattle.cp_layers.specs.Reached.{IsDue, IsReached}

abbrev pub IsKeyOf : StateKey → Machine → Type 0
IsKeyOf key m = key.bytes.items ≡ key_of m

-- each key is that of a machine of the program
abbrev pub AreOwn : Tables → List StateKey → Type 0
AreOwn r keys = (key : StateKey) → Contains keys key → (m : Machine) × IsMachineOf r m × IsKeyOf key m

-- a key of this machine is among them
abbrev pub HasKey : List StateKey → Machine → Type 0
HasKey keys m = (key : StateKey) × Contains keys key × IsKeyOf key m

-- a key of a machine of the program, in which a choice is due after d choices
abbrev pub IsDueKey : Tables → System Machine → ℕ → ℕ → StateKey → Type 0
IsDueKey r sys steps d key = (m : Machine) × IsMachineOf r m × IsDue sys steps d m × IsKeyOf key m

-- the keys of all these machines
pub record IsLayer (r : Tables) (sys : System Machine) (steps d : ℕ) (keys : List StateKey) : Type 0 where
  pub own : (key : StateKey) → Contains keys key → IsDueKey r sys steps d key
  pub all : (m : Machine) → IsDue sys steps d m → HasKey keys m

-- the marks are what schedules of at most so many choices come to
pub record AreReached {A : Type 0} (marking : Marking A) (sys : System Machine) (steps choices : ℕ) (marks : List A) : Type 0 where
  pub reached : (mark : A) → Contains marks mark → IsReached marking sys steps choices mark
  pub all : (mark : A) → IsReached marking sys steps choices mark → Contains marks mark

-- the machine is among the keys
pub record AddsState (before : List StateKey) (m : Machine) (after : List StateKey) : Type 0 where
  pub kept : (key : StateKey) → Contains before key → Contains after key
  pub few : length after ≤ length before + 1
  pub found : HasKey after m
  pub only : (key : StateKey) → Contains after key → Contains before key ⊎ IsKeyOf key m

-- the machine is, if a choice is due there
pub record AddsNode (r : Tables) (before : List StateKey) (node : Node Machine) (after : List StateKey) : Type 0 where
  pub kept : (key : StateKey) → Contains before key → Contains after key
  pub few : length after ≤ length before + 1
  pub found : (n : Machine) → node ≡ Choosing n → HasKey after n
  pub only : (key : StateKey) → Contains after key → Contains before key ⊎ ((n : Machine) × IsMachineOf r n × (node ≡ Choosing n) × IsKeyOf key n)

-- from one state these processes went on
pub record FromState {A : Type 0} (marking : Marking A) (r : Tables) (sys : System Machine) (steps : ℕ) (m : Machine) (numbers : List ℕ) (before : List A) (keys : List StateKey) (marks : List A) (next : List StateKey) : Type 0 where
  pub kept : (mark : A) → Contains before mark → Contains marks mark
  pub noted : (p : ℕ) → Contains numbers p → (mark : A) → Contains (marking.chosen m p) mark → Contains marks mark
  pub only : (mark : A) → Contains marks mark → Contains before mark ⊎ ((p : ℕ) × Contains numbers p × Contains (marking.chosen m p) mark)
  pub kept_keys : (key : StateKey) → Contains keys key → Contains next key
  pub found : (p : ℕ) (n : Machine) → Contains numbers p → chosen sys steps m p ≡ Choosing n → HasKey next n
  pub own : (key : StateKey) → Contains next key → Contains keys key ⊎ ((p : ℕ) × (n : Machine) × Contains numbers p × IsMachineOf r n × (chosen sys steps m p ≡ Choosing n) × IsKeyOf key n)

-- from the first states of a layer, in which a choice is due after d choices, all went on
pub record FromLayer {A : Type 0} (marking : Marking A) (r : Tables) (sys : System Machine) (steps d : ℕ) (layer : List StateKey) (count : ℕ) (marks : List A) (next : List StateKey) : Type 0 where
  pub kept : (mark : A) → IsReached marking sys steps d mark → Contains marks mark
  pub noted : (i : ℕ) (key : StateKey) (m : Machine) (p : ℕ) → i < count → slice_get layer i ≡ Some key → IsKeyOf key m → may sys m p ≡ true → (mark : A) → Contains (marking.chosen m p) mark → Contains marks mark
  pub only : (mark : A) → Contains marks mark → IsReached marking sys steps (suc d) mark
  pub found : (i : ℕ) (key : StateKey) (m : Machine) (p : ℕ) (n : Machine) → i < count → slice_get layer i ≡ Some key → IsKeyOf key m → may sys m p ≡ true → chosen sys steps m p ≡ Choosing n → HasKey next n
  pub own : (key : StateKey) → Contains next key → IsDueKey r sys steps (suc d) key
