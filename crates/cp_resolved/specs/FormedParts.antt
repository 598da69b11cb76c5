-- The forms that the parts of accepted statements have on slots, and what is laid out of the headings of the routines that they call.
use Rattle.std.specs.Prelude.{◌≡◌, ◌≤◌, ℕ, suc, ℤ, pos, negsuc, Bool, true, false, List, [], ◌∷◌, Option, Some, None, slice_get}
use Rattle.cp_tree.specs.Syntax.{Expression, Expressions, no_expressions, more_expressions, Designator}
use Rattle.cp_slots.specs.declared.place.PlaceOrigin.TheVariants.{Local}
use Rattle.cp_symbols.specs.declared.kinds.CellType.{CellType}
use Rattle.cp_layout.specs.declared.layer.Passing.{Passing}
use Rattle.cp_layout.specs.declared.layer.Passing.TheVariants as passing
use Rattle.cp_layout.specs.declared.layer.ParameterLayout as code_parameter
use Rattle.cp_symbols.specs.declared.names.LayoutMeaning.TheVariants as meaning
use Rattle.cp_slots.specs.Code as code
use Rattle.cp_symbols.specs.Kinds.{Compounds, most}
use Rattle.cp_layout.specs.Layers as layers
use Rattle.cp_layout.specs.Layers.{Layer, Heading}
use Rattle.cp_layout.specs.LaidExpressions.{entry_of}
use Rattle.cp_meaning.specs.Names.{Name, temporary}
use Rattle.cp_meaning.specs.Types.{Ty, set_over, component_of}
use Rattle.cp_meaning.specs.Scopes.{permanent_variable, find}
use Rattle.cp_meaning.specs.Declarations.{Parameter, RoutineMeaning}
use Rattle.cp_meaning.specs.State.{Item, function_call}
use Rattle.cp_meaning.specs.Expressions.{routine_called, routine_of_type, result_called}
use Rattle.cp_resolved.specs.InStep.{Numbering, TypeIs}
use Rattle.cp_resolved.specs.Layouts.{cells_of, Here, frame_here, cell_named, look}
use Rattle.cp_resolved.specs.Stands.{IsGiven}
use Rattle.cp_resolved.specs.Used.{system_type}

-- ---- what is assigned or handed over

abbrev pub IsByte : ℤ → Type 0
IsByte (pos n) = n ≤ 255
IsByte (negsuc n) = ⊥

-- the elements of a set are numbers of a byte, and all else has few cells
abbrev pub IsMoved : Ty → Type 0
IsMoved (set_over r) = IsByte r.low × IsByte r.high
IsMoved t = cells_of t ≤ most

-- the expression fits the parameter
pub record CanGive (h : Here) (q : Parameter) (e : Expression) : Type 0 where
  pub value : code.ArgumentValue
  pub given : IsGiven h q e value
  pub moved : IsMoved q.ty

abbrev pub CanGiveAll : Here → List Parameter → Expressions → Type 0
CanGiveAll h [] no_expressions = Unit {0}
CanGiveAll h (q ∷ qs) (more_expressions e es) = CanGive h q e × CanGiveAll h qs es
CanGiveAll h [] (more_expressions e es) = ⊥
CanGiveAll h (q ∷ qs) no_expressions = ⊥

-- ---- function calls

pub record CallFormed (h : Here) (d : Designator) (es : Expressions) : Type 0 where
  pub routine : RoutineMeaning
  pub called : routine_called h.program h.scope d ≡ Some routine
  pub arguments : CanGiveAll h routine.parameters es

-- The temporary name of a call has this cell of the frame, as a variable of the type of the result. The arguments fit the parameters.
pub record IsReady (h : Here) (n at : ℕ) (d : Designator) (es : Expressions) : Type 0 where
  pub cell : (frame_here h).origins (temporary at) ≡ Local n
  pub held : look (temporary at) (frame_here h).variables ≡ Some (result_called (routine_called h.program h.scope d))
  pub formed : CallFormed h d es

-- all are function calls, one cell after the other
abbrev pub AreReady : Here → ℕ → List Item → Type 0
AreReady h n [] = Unit {0}
AreReady h n (function_call at d es ∷ is) = IsReady h n at d es × AreReady h (suc n) is
AreReady h n (i ∷ is) = ⊥

-- ---- what is laid out of the headings of routines

abbrev pub PassedBy : Numbering → Compounds → Bool → Ty → Passing → Type 0
PassedBy k ts true t p = p ≡ passing.Reference
PassedBy k ts false (component_of n) p = p ≡ passing.Component
PassedBy k ts false t p = (v : CellType) × (p ≡ passing.Constant v) × TypeIs k ts t v

-- the parameters in their order, each with its slot
abbrev pub ParametersAre : Numbering → Compounds → (Name → ℕ) → List Parameter → List code_parameter.ParameterLayout → Type 0
ParametersAre k ts slots [] [] = Unit {0}
ParametersAre k ts slots (q ∷ qs) (p ∷ ps) = (p.slot ≡ slots q.name) × PassedBy k ts q.is_var q.ty p.passing × ParametersAre k ts slots qs ps
ParametersAre k ts slots [] (p ∷ ps) = ⊥
ParametersAre k ts slots (q ∷ qs) [] = ⊥

abbrev pub parameters_in : Option Heading → List code_parameter.ParameterLayout
parameters_in None = []
parameters_in (Some h) = h.parameters

-- routine n is this one, and its heading has its parameters
pub record HeadingIs (k : Numbering) (h : Here) (l : Layer) (n : ℕ) (r : RoutineMeaning) : Type 0 where
  pub same : h.layouts.meanings n ≡ r
  pub parameters : ParametersAre k l.types (cell_named (h.layouts.frames n)) r.parameters (parameters_in (slice_get l.headings n))

pub record KnowsHeadings (k : Numbering) (h : Here) (l : Layer) : Type 0 where
  -- of a routine that is visible
  pub own : (x : Name) (n : ℕ) → layers.find x l.names ≡ Some (meaning.Routine n) → (h.layouts.owners n ≡ h.system) × HeadingIs k h l n (k.routines n)
  -- and of an entry of a component
  pub entry : (x y : Name) (t : Ty) (r : RoutineMeaning) (n : ℕ) → find x h.scope ≡ Some (permanent_variable t) → routine_of_type h.program t y ≡ Some r →
      entry_of l (system_type t) y ≡ Some n → (h.layouts.owners n ≡ system_type t) × HeadingIs k h l n r
