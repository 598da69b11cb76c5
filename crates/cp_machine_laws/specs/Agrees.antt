-- When what an expression gives on names and on slots is the same.
use Rattle.std.specs.Prelude.{◌≡◌, ℕ, ◌^◌, ◌<◌, length, ℤ, List, Option, Some, None, Result, Ok, Err}
use Rattle.cp_slots.specs.Tables.{Tables}
use Rattle.cp_store.specs.declared.error.ErrorName as slots
use Rattle.cp_store.specs.declared.memory.Address.{Address}
use Rattle.cp_store.specs.declared.memory.Frame.{Frame}
use Rattle.cp_store.specs.declared.set.SetValue.{SetValue}
use Rattle.cp_store.specs.Memory.{Memory}
use Rattle.cp_meaning.specs.Names.{Name, temporary}
use Rattle.cp_meaning.specs.Outcome.{Outcome}
use Rattle.cp_meaning.specs.Types.{Ty}
use Rattle.cp_meaning.specs.Values.{number_value, set_value}
use Rattle.cp_meaning.specs.Scopes.{find}
use Rattle.cp_meaning.specs.State.{Place, current}
use Rattle.cp_meaning.specs.Operations.{Typed}
use Rattle.cp_meaning.specs.Places.{View, Target, target_named, this_call, plain_place, value_at}
use Rattle.cp_slots.specs.Code as code
use Rattle.cp_machine_laws.specs.PlainValues.{plain_value, plain_set, plain_address}
use Rattle.cp_resolved.specs.Layouts.{Layouts, Here, frame_here, look}
use Rattle.cp_resolved.specs.Compiled.{Form, as_ordinal, as_set, as_place, as_component, Designated, a_variable, some_components, a_component, begun_form}
use Rattle.cp_resolved.specs.Encoded.{bits_of, HasType}
use Rattle.cp_machine_laws.specs.Named.{error_of}
use Rattle.cp_machine_laws.specs.Represents.{LiesAt, PlaceAt}

-- a number of the type, or the same error
abbrev pub OrdinalAgrees : Outcome Typed → Ty → Result ℤ slots.ErrorName → Type 0
OrdinalAgrees (Ok x) t (Ok z) = (x.ty ≡ t) × (x.value ≡ number_value z) × HasType t (number_value z)
OrdinalAgrees (Err e) t (Err d) = error_of e ≡ d
OrdinalAgrees o t r = ⊥

-- a set
abbrev pub SetAgrees : Outcome Typed → Ty → Result SetValue slots.ErrorName → Type 0
SetAgrees (Ok x) t (Ok s) = (x.ty ≡ t) × ((ns : List ℕ) × (x.value ≡ set_value ns) × HasType t (set_value ns) × (s.members ≡ bits_of ns))
SetAgrees (Err e) t (Err d) = error_of e ≡ d
SetAgrees o t r = ⊥

-- a value of another type lies where the variable does
abbrev pub PlaceAgrees : Memory → Outcome Typed → Ty → Result Address slots.ErrorName → Type 0
PlaceAgrees m (Ok x) t (Ok a) = (x.ty ≡ t) × LiesAt m t x.value a
PlaceAgrees m (Err e) t (Err d) = error_of e ≡ d
PlaceAgrees m o t r = ⊥

-- a component is no value
abbrev pub FormAgrees : Memory → Frame → Outcome Typed → Ty → Form → Type 0
FormAgrees m f o t (as_ordinal c) = OrdinalAgrees o t (plain_value m f c)
FormAgrees m f o t (as_set b) = SetAgrees o t (plain_set m f b)
FormAgrees m f o t (as_place p) = PlaceAgrees m o t (plain_address m f p)
FormAgrees m f o t (as_component c) = Unit {0}

-- ---- places

-- the place of the variable stands at the address
abbrev pub TargetAgrees : Tables → Layouts → List Frame → Outcome Target → Ty → Result Address slots.ErrorName → Type 0
TargetAgrees r l fs (Ok x) t (Ok a) = (x.ty ≡ t) × PlaceAt r l fs x.place t a
TargetAgrees r l fs (Err e) t (Err d) = error_of e ≡ d
TargetAgrees r l fs o t a = ⊥

-- of a component nothing is said here
abbrev pub DesignatedAgrees : Tables → Layouts → List Frame → Memory → Frame → Outcome Target → Designated → Type 0
DesignatedAgrees r l fs m f o (a_variable p t) = TargetAgrees r l fs o t (plain_address m f p)
DesignatedAgrees r l fs m f o (some_components first range k) = Unit {0}
DesignatedAgrees r l fs m f o (a_component c k) = Unit {0}

abbrev pub BegunAgrees : Tables → Layouts → List Frame → Memory → Frame → Target → Option Designated → Type 0
BegunAgrees r l fs m f x None = Unit {0}
BegunAgrees r l fs m f x (Some d) = DesignatedAgrees r l fs m f (Ok x) d

-- memories are not larger than a machine word can number
pub record Few (m : Memory) : Type 0 where
  pub permanents : length m.permanents < 2 ^ 64
  pub cells : length m.cells < 2 ^ 64
  pub references : length m.references < 2 ^ 64

-- What a view sees is what a frame of a memory has: a name begins where its slot does, and what stands at a place lies at its address.
pub record Sees (r : Tables) (l : Layouts) (fs : List Frame) (v : View) (m : Memory) (f : Frame) (h : Here) : Type 0 where
  pub program : h.program ≡ v.program
  pub scope : h.scope ≡ (current v.calls).scope
  pub begins : (x : Name) → BegunAgrees r l fs m f (target_named v x) (begun_form h x (find x h.scope))
  pub lies : (q : Place) (t : Ty) (a : Address) → PlaceAt r l fs q t a → LiesAt m t (value_at v q) a
  -- the result of a call lies in the cell of its temporary name
  pub temporaries : (at : ℕ) (t : Ty) → look (temporary at) (frame_here h).variables ≡ Some t →
      TargetAgrees r l fs (Ok (record { place = plain_place (this_call v) (temporary at); ty = t })) t (plain_address m f (code.place ((frame_here h).origins (temporary at)) 0 code.no_indices))
  pub few : Few m
