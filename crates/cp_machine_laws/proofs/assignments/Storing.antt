-- The variable of a `for` can be stored in, whether it is one of an open call or a permanent one.
use Rattle.cp_machine_laws.proofs.Words.{◌≡◌, ℕ, List, subst, sym, Program, Address, Frame, put_number, Entry, Machine, thread_at, memory_at, Range, ordinal}
use Rattle.cp_machine_laws.proofs.Words.{number_value, Place, State, view_of, Layouts, Ground, LiesAt, PlaceAt, frames_of, value_at}
use Rattle.cp_machine_laws.proofs.assignments.AnyAssignments.{RangeKnown}
use Rattle.cp_machine_laws.proofs.assignments.Blocks.{number_writes}
use Rattle.cp_machine_laws.proofs.assignments.BlockStores.{VariablesApart, block_stored}
use Rattle.cp_machine_laws.proofs.control.Control.{Goes}
use Rattle.cp_machine_laws.proofs.control.Counting.{StoresIn}
use Rattle.cp_machine_laws.proofs.expressions.Reading.{place_lies}
use Rattle.cp_machine_laws.proofs.control.Running.{all_lie}

pub stores_known : (g : Ground) (p : Program) (l : Layouts) (s : State) (m : Machine) (q line : ℕ) (es : List Entry) → Goes g p l s m q es → (range : Range) → VariablesApart g l m q es (ordinal range) → RangeKnown (ordinal range) →
    (fs : List Frame) → frames_of (thread_at m.threads q).frame es ≡ fs → (place : Place) (a : Address) → PlaceAt g.tables l fs place (ordinal range) a → StoresIn g p l s m q line es range place a
stores_known g p l s m q line es k range known base fs same place a at =
    λ z zs gs is frames within. block_stored g p l s m q line es k (ordinal range) known zs gs is frames place a (number_value z) here (base z within) (λ x. put_number x a z) (number_writes (memory_at m q) a z lies.cells)
  where
    here : PlaceAt g.tables l (frames_of (thread_at m.threads q).frame es) place (ordinal range) a
    here = subst (λ hs. PlaceAt g.tables l hs place (ordinal range) a) (sym same) at

    lies : LiesAt (memory_at m q) (ordinal range) (value_at (view_of p s q) place) a
    lies = place_lies g.tables l (frames_of (thread_at m.threads q).frame es) (view_of p s q) (memory_at m q) (all_lie g p l s m q (frames_of (thread_at m.threads q).frame es) k.rep k.calls) place (ordinal range) a here
