-- Constants and types leave the frame and the cells of the system type as they are.
use Rattle.cp_resolved.proofs.Words.{◌≡◌, List, refl, ap, ◌∙◌, Layer, Frame, Owned, written_type}
use Rattle.cp_tree.specs.Syntax as syntax
use Rattle.cp_layout.specs.LaidDeclarations.{constants, type_definitions}
use Rattle.cp_resolved.proofs.laid.Declaring.{TypeSteps, plain_types, type_leads, constants_lead, definitions_lead}

abbrev pub Cells : Type 0
Cells = Frame × Owned

-- the cells of the routine and of the system type
abbrev pub cells : Layer → Cells
cells l = (l.frame, l.owned)

cells_types : TypeSteps (λ l m. cells m ≡ cells l) (λ l. Unit {0}) (λ l t. Unit {0}) (λ l r. Unit {0})
cells_types = plain_types (λ l m. cells m ≡ cells l) (λ l. refl) (λ l k m h i. i ∙ h) (λ l x b z. refl) (λ l r t. refl) (λ l r. refl) (λ l x b z. refl) (λ l x t. refl)

pub type_cells : (l : Layer) (t : syntax.TypeTerm) → cells (written_type l t).1 ≡ cells l
type_cells l t = (type_leads cells_types l t tt).0

pub constants_cells : (l : Layer) (ds : List syntax.ConstantDefinition) → cells (constants l ds) ≡ cells l
constants_cells l ds = constants_lead cells_types l ds tt

pub definitions_cells : (l : Layer) (ds : List syntax.TypeDefinition) → cells (type_definitions l ds) ≡ cells l
definitions_cells l ds = definitions_lead cells_types l ds tt

pub frame_same : (l m : Layer) → cells m ≡ cells l → m.frame ≡ l.frame
frame_same l m h = ap (λ (c : Cells). c.0) h

pub owned_same : (l m : Layer) → cells m ≡ cells l → m.owned ≡ l.owned
owned_same l m h = ap (λ (c : Cells). c.1) h
