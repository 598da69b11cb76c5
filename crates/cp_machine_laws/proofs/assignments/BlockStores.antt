-- A value of any type is stored at a place, whether of an open call or of a component.
use Rattle.cp_machine_laws.proofs.Words.{◌≡◌, ℕ, List, ◌++◌, Option, subst, sym, Program, Address, Memory, Entry, Machine, thread_at, with_stack, memory_at}
use Rattle.cp_machine_laws.proofs.Words.{with_memory, rest_of, Ty, Value, Holder, in_call, in_component, Place, Item, State, stored, becomes, view_of, settled}
use Rattle.cp_machine_laws.proofs.Words.{Layouts, encode, HasType, Ground, PlaceAt, StackIs, frames_of}
use Rattle.cp_machine.specs.Statements as statements
use Rattle.cp_meaning.specs.State as named
use Rattle.cp_machine_laws.proofs.assignments.Blocks.{WritesBlock}
use Rattle.cp_machine_laws.proofs.control.Control.{Goes, goes, Taken, StepIs}
use Rattle.cp_machine_laws.proofs.control.Lists.{stack_rest, frames_rest}
use Rattle.cp_machine_laws.proofs.assignments.LocalBlocks.{CallsApart, local_block_stored}
use Rattle.cp_machine_laws.proofs.assignments.PermanentBlocks.{PermanentsApart, permanent_block_stored}

-- what is known of variables, those of open calls and permanent ones
pub record VariablesApart (g : Ground) (l : Layouts) (m : Machine) (q : ℕ) (es : List Entry) (t : Ty) : Type 0 where
  pub calls : CallsApart g l m q es
  pub permanents : PermanentsApart g l t

-- the process goes on with other items, after the value is stored
abbrev pub Stores : Ground → Program → Layouts → State → Machine → (q line : ℕ) → List Entry → Place → Value → (Memory → Memory) → List Item → List Entry → Type 0
Stores g p l s m q line es place y change zs gs =
    StepIs g p l q line (settled p s q (becomes (stored (view_of p s q) place y) zs)) (statements.local (with_memory (with_stack m q gs) q (change (memory_at (with_stack m q gs) q))))

pub block_stored : (g : Ground) (p : Program) (l : Layouts) (s : State) (m : Machine) (q line : ℕ) (es : List Entry) → Goes g p l s m q es → (t : Ty) → VariablesApart g l m q es t →
    (zs : List Item) (gs : List Entry) → StackIs g p l (thread_at m.threads q).frame (named.process_at s.processes q).calls zs gs → frames_of (thread_at m.threads q).frame gs ≡ frames_of (thread_at m.threads q).frame es →
    (place : Place) (a : Address) (y : Value) → PlaceAt g.tables l (frames_of (thread_at m.threads q).frame es) place t a → HasType t y → (change : Memory → Memory) → WritesBlock (memory_at m q) (change (memory_at m q)) a (encode y) →
    Stores g p l s m q line es place y change zs gs
block_stored g p l s m q line es k t known zs gs is same place a y at typed change writes = go place.holder at
  where
    go : (h : Holder) → PlaceAt g.tables l (frames_of (thread_at m.threads q).frame es) (record { holder = h; name = place.name; choices = place.choices }) t a → Stores g p l s m q line es (record { holder = h; name = place.name; choices = place.choices }) y change zs gs
    go (in_call below) at = local_block_stored g p l s m q line es k known.calls zs gs is same below place.name place.choices a t y at typed change writes
    go (in_component n) at = permanent_block_stored g p l s m q line es k t known.permanents (frames_of (thread_at m.threads q).frame es) zs gs is same n place.name place.choices a y at typed change writes

-- where it goes on with what is after the item
pub block_success : (g : Ground) (p : Program) (l : Layouts) (s : State) (m : Machine) (q at line : ℕ) (i : Item) (mid : Option ℕ) (es : List Entry) (xs ys : List Item) → Taken g p l s m q at i mid es xs ys → (t : Ty) → VariablesApart g l m q es t →
    (place : Place) (a : Address) (y : Value) (o : Option ℕ) → o ≡ mid → PlaceAt g.tables l (frames_of (thread_at m.threads q).frame es) place t a → HasType t y → (change : Memory → Memory) → WritesBlock (memory_at m q) (change (memory_at m q)) a (encode y) →
    Stores g p l s m q line es place y change (xs ++ ys) (rest_of o es)
block_success g p l s m q at line i mid es xs ys k t known place a y o same there typed change writes =
    subst (λ (n : Option ℕ). Stores g p l s m q line es place y change (xs ++ ys) (rest_of n es)) (sym same)
    (block_stored g p l s m q line es (goes g p l s m q at i mid es xs ys k) t known (xs ++ ys) (rest_of mid es)
    (stack_rest g p l (thread_at m.threads q).frame (named.process_at s.processes q).calls mid xs ys es k.after k.below) (frames_rest (thread_at m.threads q).frame mid es) place a y there typed change writes)
