-- What numbers of parts and rows tell of machines.
use Rattle.std.specs.Prelude.{◌≡◌, ◌<◌, ℕ, List}
use Rattle.cp_slots.specs.Tables.{Tables}
use Rattle.cp_machine.specs.Fits.{MachineFits}
use Rattle.cp_machine.specs.Machine.{Machine}
use Rattle.cp_effect_laws.specs.Parts.{HaveSame}
use Rattle.cp_parts.specs.declared.placing.PlaceTable.{PlaceTable}
use Rattle.cp_parts.specs.declared.store.PartStore.{PartStore}
use Rattle.cp_parts.specs.Parts.{IsPartNumber, IsPartRow}
use Rattle.cp_parts.specs.Placed.{IsPlaced, place_count, places_of}

-- machines whose parts of a place have one number have the same there
abbrev pub PartLaw : Type 0
PartLaw =
    (r : Tables) (s : PartStore) (t : PlaceTable) (m n : Machine) (place k : ℕ) → IsPlaced r t → MachineFits r m → MachineFits r n → place < place_count t →
    IsPartNumber s t m place k → IsPartNumber s t n place k → HaveSame (places_of t) place m n

-- a machine that has the same in a place has its number there
abbrev pub SamePartLaw : Type 0
SamePartLaw =
    (r : Tables) (s : PartStore) (t : PlaceTable) (m n : Machine) (place k : ℕ) → IsPlaced r t → MachineFits r m → MachineFits r n → place < place_count t →
    HaveSame (places_of t) place m n → IsPartNumber s t m place k → IsPartNumber s t n place k

-- machines of one row are one
abbrev pub RowLaw : Type 0
RowLaw =
    (r : Tables) (s : PartStore) (t : PlaceTable) (m n : Machine) (row : List ℕ) → IsPlaced r t → MachineFits r m → MachineFits r n →
    n.discipline ≡ m.discipline → n.output ≡ m.output → IsPartRow s t m row → IsPartRow s t n row → m ≡ n

-- a machine has one row
abbrev pub OneRowLaw : Type 0
OneRowLaw = (s : PartStore) (t : PlaceTable) (m : Machine) (row other : List ℕ) → IsPartRow s t m row → IsPartRow s t m other → row ≡ other
