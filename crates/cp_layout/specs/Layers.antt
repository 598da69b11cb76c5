-- What is laid out so far.
use Rattle.std.specs.Prelude.{◌≡◌, ℕ, max, ℤ, pos, nat_lt, if◌then◌else◌, Bool, true, false, ◌==◌, List, [], ◌∷◌, ◌++◌, map, length, Option, Some, None, slice_get, slice_index, codes, Result, Ok, Err}
use Rattle.std.specs.String.{string_bytes}
use Rattle.std.specs.Str.{bytes_eq}
use Rattle.cp_tree.specs.declared.declaration.SystemKind.{SystemKind}
use Rattle.cp_slots.specs.declared.tables.ComponentParameter.{ComponentParameter}
use Rattle.cp_symbols.specs.declared.kinds.CellType.{CellType}
use Rattle.cp_symbols.specs.declared.kinds.CellType.TheVariants as types
use Rattle.cp_symbols.specs.declared.kinds.CellBase.TheVariants as base
use Rattle.cp_symbols.specs.declared.names.LayoutMeaning.{LayoutMeaning}
use Rattle.cp_symbols.specs.declared.names.LayoutMeaning.TheVariants as meaning
use Rattle.cp_symbols.specs.declared.names.PredeclaredRoutine.TheVariants as predeclared
use Rattle.cp_layout.specs.declared.names.Names as code_names
use Rattle.cp_layout.specs.declared.names.DeclaredName as code_declared
use Rattle.cp_layout.specs.declared.layer.ParameterLayout.{ParameterLayout}
use Rattle.cp_symbols.specs.declared.symbols.FunctionResult.{FunctionResult}
use Rattle.cp_layout.specs.declared.layer.Contained.{Contained}
use Rattle.cp_layout.specs.declared.layer.Content.{Content}
use Rattle.cp_layout.specs.declared.layer.HeadingLayout as code_heading
use Rattle.cp_layout.specs.declared.frame.RoutineFrame as code_frame
use Rattle.cp_layout.specs.declared.layer.Owned as code_owned
use Rattle.cp_layout.specs.declared.layer.SystemCells as code_system
use Rattle.cp_layout.specs.declared.lists.Pending as code_pending
use Rattle.cp_layout.specs.declared.surroundings.Surroundings as code_surroundings
use Rattle.cp_layout.specs.declared.layer.Layouter as code_layer
use Rattle.cp_layout.specs.declared.symbols.NotedName as code_noted
use Rattle.cp_symbols.specs.Symbols.{Noted}
use Rattle.cp_slots.specs.Tables.{RoutineView, routine_view}
use Rattle.cp_symbols.specs.Kinds.{Compounds, plus, values_of}
use Rattle.cp_layout.specs.Kinds.{types_seen}
use Rattle.cp_slots.specs.Code.{Action, action_seen, Item, item_seen}

-- ---- names

-- what each visible name stands for, the latest first
abbrev pub Names : Type 0
Names = List (List ℕ × LayoutMeaning)

abbrev pub find : List ℕ → Names → Option LayoutMeaning
find x [] = None
find x (d ∷ ds) = if bytes_eq d.0 x then Some d.1 else find x ds

-- Where a type is written, a name stands for the latest type of that name. In its heading a routine's own name is not visible yet, and is passed over.
-- The rules refuse every other name there that is no type.
abbrev pub find_type : List ℕ → Names → Option CellType
find_type x [] = None
find_type x ((n, meaning.Kind t) ∷ ds) = if bytes_eq n x then Some t else find_type x ds
find_type x (d ∷ ds) = find_type x ds

abbrev pub declared_seen : code_declared.DeclaredName → List ℕ × LayoutMeaning
declared_seen d = (d.name.now, d.meaning)

-- the later ones before the earlier ones
abbrev pub latest_first : List code_declared.DeclaredName → Names → Names
latest_first [] before = before
latest_first (d ∷ ds) before = latest_first ds (declared_seen d ∷ before)

abbrev pub no_names : Names
no_names = []

-- whether a system type sees it where it is the program's
abbrev pub is_open : LayoutMeaning → Bool
is_open (meaning.Constant b z) = true
is_open (meaning.Kind t) = true
is_open (meaning.Predeclared r) = true
is_open m = false

abbrev pub with_open : List ℕ × LayoutMeaning → Names → Names
with_open d ds = if is_open d.1 then d ∷ ds else ds

-- what a system type sees of the names around it: no variables and no routines
abbrev pub seen_inside : Names → Names
seen_inside [] = []
seen_inside (d ∷ ds) = with_open d (seen_inside ds)

abbrev pub with_procedures : Names → Names
with_procedures ds = (codes "delay", meaning.Predeclared predeclared.Delay) ∷ (codes "continue", meaning.Predeclared predeclared.Continue) ∷ (codes "display", meaning.Predeclared predeclared.Display) ∷ ds

abbrev pub with_functions : Names → Names
with_functions ds =
    (codes "succ", meaning.Predeclared predeclared.Succ) ∷
    (codes "pred", meaning.Predeclared predeclared.Pred) ∷
    (codes "chr", meaning.Predeclared predeclared.Chr) ∷
    (codes "ord", meaning.Predeclared predeclared.Ord) ∷
    (codes "abs", meaning.Predeclared predeclared.Abs) ∷
    (codes "empty", meaning.Predeclared predeclared.Empty) ∷
    ds

abbrev pub with_types : Names → Names
with_types ds =
    (codes "integer", meaning.Kind (values_of base.Integer)) ∷
    (codes "boolean", meaning.Kind (values_of base.Boolean)) ∷
    (codes "char", meaning.Kind (values_of base.Char)) ∷
    (codes "queue", meaning.Kind types.Queue) ∷
    ds

-- the outermost names
abbrev pub outermost : Names
outermost = with_types ((codes "false", meaning.Constant base.Boolean (pos 0)) ∷ (codes "true", meaning.Constant base.Boolean (pos 1)) ∷ with_functions (with_procedures no_names))

unfoldable pub names_seen : code_names.Names → Names
names_seen n = latest_first n.items.items []

-- ---- the state

pub record Heading : Type 0 where
  pub name : List ℕ
  pub parameters : List ParameterLayout
  pub result : Option FunctionResult

pub record Frame : Type 0 where
  pub image : List ℤ
  pub extents : List ℕ
  pub room : ℕ
  pub reference_room : ℕ

pub record Owned : Type 0 where
  pub cells : ℕ
  pub contents : List Content
  pub parameters : List ComponentParameter
  pub contained : List Contained
  pub count : ℕ

pub record System : Type 0 where
  pub kind : SystemKind
  pub owned : Owned
  pub first : ℕ
  pub initial : ℕ

-- an item that is not in the tables yet
pub record Pending : Type 0 where
  pub action : Action
  pub line : ℕ
  pub need : ℕ

pub record Layer : Type 0 where
  pub lines : List ℕ
  pub types : Compounds
  pub names : Names
  pub systems : List System
  pub headings : List Heading
  pub routines : List RoutineView
  pub items : List Item
  pub constants : List (List ℕ)
  pub owned : Owned
  pub frame : Frame
  pub pending : List Pending
  pub arguments : ℕ
  pub noted : List Noted
  pub is_inside : Bool

abbrev pub heading_seen : code_heading.HeadingLayout → Heading
heading_seen h = record { name = h.name.now; parameters = h.parameters.items; result = h.result }

abbrev pub frame_seen : code_frame.RoutineFrame → Frame
frame_seen f = record { image = f.image.items; extents = f.extents.items; room = f.room; reference_room = f.reference_room }

abbrev pub owned_seen : code_owned.Owned → Owned
owned_seen o = record { cells = o.cells; contents = o.contents.items; parameters = o.parameters.items; contained = o.contained.items; count = o.count }

abbrev pub system_seen : code_system.SystemCells → System
system_seen s = record { kind = s.kind; owned = owned_seen s.owned; first = s.first; initial = s.initial }

abbrev pub pending_seen : code_pending.Pending → Pending
pending_seen p = record { action = action_seen p.action; line = p.line; need = p.need }

abbrev pub noted_seen : code_noted.NotedName → Noted
noted_seen n = record { name = n.name.now; meaning = n.meaning; routine = n.routine; system = n.system }

unfoldable pub layer_seen : code_layer.Layouter → Layer
layer_seen l =
    record {
      lines = l.around.lines.now;
      types = types_seen l.around.types;
      names = names_seen l.around.names;
      systems = map system_seen l.around.systems.items;
      headings = map heading_seen l.around.headings.items;
      routines = map routine_view l.lists.routines.items;
      items = map item_seen l.lists.items.items;
      constants = map string_bytes l.lists.constants.items;
      owned = owned_seen l.around.owned;
      frame = frame_seen l.frame;
      pending = map pending_seen l.lists.pending.items;
      arguments = l.lists.arguments;
      noted = map noted_seen l.noted.items;
      is_inside = l.is_inside;
    }

-- the frame of a routine that begins
abbrev pub no_frame : Frame
no_frame = record { image = []; extents = []; room = 0; reference_room = 0 }

-- the cells and components of a system type that begins
abbrev pub no_owned : Owned
no_owned = record { cells = 0; contents = []; parameters = []; contained = []; count = 1 }

-- the predeclared names alone, with the lines of the tokens
abbrev pub nothing_laid : List ℕ → Layer
nothing_laid lines =
    record {
      lines = lines;
      types = [];
      names = outermost;
      systems = [];
      headings = [];
      routines = [];
      items = [];
      constants = [];
      owned = no_owned;
      frame = no_frame;
      pending = [];
      arguments = 0;
      noted = [];
      is_inside = false;
    }

-- what is around a statement, as the state in which nothing else is laid out
abbrev pub around_seen : code_surroundings.Surroundings → Layer
around_seen a =
    record (nothing_laid a.lines.now) {
      types = types_seen a.types;
      names = names_seen a.names;
      systems = map system_seen a.systems.items;
      headings = map heading_seen a.headings.items;
      owned = owned_seen a.owned;
    }

-- what a function lays out: an answer and a new state, unless memory fails
abbrev pub Lays : {X A E : Type 0} → (X → A) → A × Layer → Layer → Result X E → Type 0
Lays view laid new (Ok x) = laid ≡ (view x, new)
Lays view laid new (Err e) = Unit {0}

-- the same for a function that answers nothing
abbrev pub Leads : {E : Type 0} → Layer → Layer → Result (Unit {0}) E → Type 0
Leads laid new (Ok x) = laid ≡ new
Leads laid new (Err e) = Unit {0}

-- ---- parts of the state

-- the system type that is laid out
abbrev pub own_system : Layer → Option ℕ
own_system l = if l.is_inside then Some (length l.systems) else None

-- a name, declared and noted
abbrev pub with_name : Layer → List ℕ → LayoutMeaning → Layer
with_name l x m = record l { names = (x, m) ∷ l.names; noted = l.noted ++ record { name = x; meaning = m; routine = length l.routines; system = own_system l } ∷ [] }

abbrev pub parameter_at : Option Heading → ℕ → Option ParameterLayout
parameter_at None n = None
parameter_at (Some h) n = slice_get h.parameters n

-- a parameter of a routine
abbrev pub parameter_of : Layer → (routine place : ℕ) → Option ParameterLayout
parameter_of l routine n = parameter_at (slice_get l.headings routine) n

abbrev pub result_in : Option Heading → Option FunctionResult
result_in None = None
result_in (Some h) = h.result

-- a function's result
abbrev pub result_of : Layer → ℕ → Option FunctionResult
result_of l routine = result_in (slice_get l.headings routine)

-- whether it is the routine that is laid out
abbrev pub is_own : Layer → ℕ → Bool
is_own l routine = routine == length l.routines

-- a new cell of the frame
abbrev pub with_cell : Layer → Layer
with_cell l = record l { frame = record l.frame { image = l.frame.image ++ pos 0 ∷ [] } }

abbrev pub item_need : Option Item → ℕ
item_need None = 0
item_need (Some i) = i.need

-- how many entries of a control stack a list needs
abbrev pub need_of : List Item → Option ℕ → ℕ
need_of is None = 0
need_of is (Some at) = item_need (slice_get is at)

-- the same for a list inside an item
abbrev pub need_inside : List Item → Option ℕ → ℕ
need_inside is None = 0
need_inside is (Some at) = plus (need_of is (Some at)) 1

-- the frame has room for those of a routine that is called
abbrev pub frame_with : Frame → Option RoutineView → Frame
frame_with f None = f
frame_with f (Some r) = record f { room = max f.room r.room; reference_room = max f.reference_room r.reference_room }

abbrev pub with_room : Layer → ℕ → Layer
with_room l routine = record l { frame = frame_with l.frame (slice_get l.routines routine) }

abbrev pub body_of : Option RoutineView → Option ℕ
body_of None = None
body_of (Some r) = r.body

-- what a call needs of a control stack
abbrev pub call_need : Layer → ℕ → ℕ
call_need l routine = plus (need_of l.items (body_of (slice_get l.routines routine))) 2

abbrev pub pending_need_from : ℕ → List Pending → ℕ
pending_need_from n [] = n
pending_need_from n (p ∷ ps) = pending_need_from (if nat_lt n p.need then p.need else n) ps

-- the most that the items of the statement need
abbrev pub pending_need : Layer → ℕ
pending_need l = pending_need_from 0 l.pending

-- the number that the first item of the statement will have, where one more is to come
abbrev pub again : Layer → ℕ
again l = plus (length l.items) (length l.pending)

-- one more item of the statement, by the token at which it begins
abbrev pub add_item : Layer → (at : ℕ) → Action → (need : ℕ) → Layer
add_item l at a need = record l { pending = l.pending ++ (let p : Pending = record { action = a; line = slice_index l.lines at; need = need } in p) ∷ [] }

abbrev pub with_item : Layer → Pending → Option ℕ → Layer
with_item l p next =
    record l { items = l.items ++ (let i : Item = record { action = p.action; next = next; line = p.line; routine = length l.routines; need = max (need_of l.items next) p.need } in i) ∷ [] }

-- the items go into the tables, the last one first; the answer is the first of all
abbrev pub add_items : Layer → List Pending → Option ℕ → Option ℕ × Layer
add_items l [] next = (next, l)
add_items l (p ∷ ps) next =
    let rest = add_items l ps next in
    (Some (length rest.1.items), with_item rest.1 p rest.0)

abbrev pub without_pending : Layer → Layer
without_pending l = record l { pending = [] }

abbrev pub settle_items : Layer → Option ℕ → Option ℕ × Layer
settle_items l next = add_items (without_pending l) l.pending next

-- ---- whole routines

abbrev pub result_slot : Option FunctionResult → ℕ
result_slot None = 0
result_slot (Some r) = r.slot

-- the cell of the result of the function that is laid out
abbrev pub own_result : Layer → ℕ
own_result l = result_slot (result_of l (length l.routines))

-- the routine of the frame
abbrev pub routine_of : Layer → Option ℕ → RoutineView
routine_of l body =
    record {
      body = body;
      image = l.frame.image;
      references = length l.frame.extents;
      result = own_result l;
      room = plus (length l.frame.image) l.frame.room;
      reference_room = plus (length l.frame.extents) l.frame.reference_room;
      own = l.owned.cells;
      extents = l.frame.extents;
      system = length l.systems;
    }

-- the routine of the frame is whole
abbrev pub with_routine : Layer → Option ℕ → Layer
with_routine l body = record l { frame = no_frame; routines = l.routines ++ routine_of l body ∷ [] }
