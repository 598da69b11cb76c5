-- That the cells of a component have the values of its variables.
use Rattle.std.specs.Prelude.{◌≡◌, ℕ, List, [], ◌∷◌}
use Rattle.cp_meaning.specs.Declarations.{Variable}
use Rattle.cp_meaning.specs.Places.{content_of, value_held}
use Rattle.cp_meaning.specs.State.{State, component_at}
use Rattle.cp_resolved.specs.Encoded.{encode}
use Rattle.cp_resolved.specs.Resolved.{StandsAt}
use Rattle.cp_machine.specs.Machine.{Machine}
use Rattle.cp_legend.specs.Names as legend
use Rattle.cp_story.specs.Changes.{place}

-- a variable of component n, which the legend has so: under its name, and the cells from its place on are those of the value that it has by the meaning
pub record HasValue (s : State) (m : Machine) (n : ℕ) (c : legend.Named) (v : Variable) (w : legend.Variable) : Type 0 where
  pub name : w.name ≡ v.name
  pub value : StandsAt m.permanents (place c w) (encode (value_held (content_of v.name (component_at s.components n).environment)))

abbrev pub HaveValues : State → Machine → ℕ → legend.Named → List Variable → List legend.Variable → Type 0
HaveValues s m n c [] [] = Unit {0}
HaveValues s m n c (v ∷ vs) (w ∷ ws) = HasValue s m n c v w × HaveValues s m n c vs ws
HaveValues s m n c [] (w ∷ ws) = ⊥
HaveValues s m n c (v ∷ vs) [] = ⊥
