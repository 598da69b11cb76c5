-- How far a layer is expanded.
use Rattle.std.specs.Prelude.{◌≡◌, ◌≤◌, ℕ, List, Some, length, slice_get}
use Rattle.cp_slots.specs.Tables.{Tables}
use Rattle.cp_machine.specs.Machine.{Machine}
use Rattle.cp_run.specs.System.{System}
use Rattle.cp_key.specs.declared.state_key.StateKey.{StateKey}
use Rattle.cp_layers.specs.Marking.{Marking}
use Rattle.cp_layers.specs.Layers.{AreReached, FromLayer, FromState, IsKeyOf, IsLayer}

-- the layer of d choices is found, and what schedules of at most so many choices come to
pub record IsKnown {A : Type 0} (marking : Marking A) (r : Tables) (sys : System Machine) (steps most d : ℕ) (found : List A) (keys : List StateKey) : Type 0 where
  pub layer : IsLayer r sys steps d keys
  pub marks : AreReached marking sys steps d found
  pub few : length keys ≤ most

-- from the first states of the layer of d choices all went on, and there is room for what comes after them
pub record IsBegun {A : Type 0} (marking : Marking A) (r : Tables) (sys : System Machine) (steps most d : ℕ) (keys : List StateKey) (count : ℕ) (marks : List A) (next : List StateKey) : Type 0 where
  pub layer : IsLayer r sys steps d keys
  pub room : length keys ≤ most
  pub from : FromLayer marking r sys steps d keys count marks next
  pub few : length next ≤ most

-- and from the one after them, which is the machine, these processes went on
pub record Within {A : Type 0} (marking : Marking A) (r : Tables) (sys : System Machine) (steps most d : ℕ) (layer : List StateKey) (at : ℕ) (m : Machine) (done : List ℕ) (marks : List A) (next : List StateKey) : Type 0 where
  pub key : StateKey
  pub is : slice_get layer at ≡ Some key
  pub here : IsKeyOf key m
  pub marks_before : List A
  pub next_before : List StateKey
  pub begun : IsBegun marking r sys steps most d layer at marks_before next_before
  pub from : FromState marking r sys steps m done marks_before next_before marks next
  pub few : length next ≤ most

-- from each state of the layer all went on
pub record IsWhole {A : Type 0} (marking : Marking A) (r : Tables) (sys : System Machine) (steps most d : ℕ) (layer : List StateKey) (marks : List A) (next : List StateKey) : Type 0 where
  pub count : ℕ
  pub begun : IsBegun marking r sys steps most d layer count marks next
  pub all : length layer ≤ count
