-- What a `var` parameter refers to has a cell, since each record type of a program that was read has a field.
use Rattle.std.proofs.Common.{◌≡◌, ℕ, ◌≤◌, true, List, [], ◌∷◌, ◌++◌, inl, inr, Some, subst}
use Rattle.cp_tree.specs.Read.{IsRead}
use Rattle.cp_tree.specs.Syntax.{Tree}
use Rattle.cp_meaning_laws.specs.Accepted.{IsAccepted}
use Rattle.cp_legend_laws.proofs.ChosenParts.{free_tellable, some_cells}
use Rattle.cp_legend_laws.proofs.TypesOfTree.{IsSound, types_are_sound}
use Rattle.cp_legend_laws.proofs.WrittenTypes.{RoutineHas}
use Rattle.cp_meaning.specs.Declarations.{Parameter, RoutineMeaning, Variable}
use Rattle.cp_meaning.specs.Names.{Name}
use Rattle.cp_meaning.specs.Steps.{parameter_variables}
use Rattle.cp_meaning.specs.Types.{Ty}
use Rattle.cp_resolved.specs.Enumerations.{constant_names}
use Rattle.cp_resolved.specs.Layouts.{cells_of, look}
use Rattle.cp_resolved.specs.Openings.{meaning_at, numbering_of}
use Rattle.cp_resolved.specs.Small.{Each}
use Rattle.cp_resolved.specs.Standing.{IsFreeVariable, is_free}
use Rattle.cp_resolved.specs.TreeLayouts.{layouts_of, parameters_by}
use Rattle.cp_resolved.proofs.agreeing.ScopeVariables.{Among, among_left, look_among}
use Rattle.cp_resolved.proofs.declarations.FramedOfTrees.{accepted_framed}
use Rattle.cp_resolved.proofs.declarations.Plain.{plain_law}
use Rattle.cp_resolved.proofs.frames.FrameKnown.{by_all}

of_parameters : (P : Ty → Type 0) (x : Name) (u : Ty) (qs : List Parameter) → Each (λ (q : Parameter). P q.ty) qs → Among x u (parameter_variables qs) → P u
of_parameters P x u [] h a = absurd a
of_parameters P x u (q ∷ qs) h (inl a) = subst P a.1 h.0
of_parameters P x u (q ∷ qs) h (inr a) = of_parameters P x u qs h.1 a

of_variables : (x : Name) (u : Ty) (vs : List Variable) → Each IsFreeVariable vs → Among x u vs → is_free u ≡ true
of_variables x u [] h a = absurd a
of_variables x u (v ∷ vs) h (inl a) = subst (λ (w : Ty). is_free w ≡ true) a.1 h.0
of_variables x u (v ∷ vs) h (inr a) = of_variables x u vs h.1 a

pub references_filled : (t : Tree) → IsRead t.program → IsAccepted t → (n : ℕ) (x : Name) (u : Ty) → look x ((layouts_of t).frames n).references ≡ Some u → 1 ≤ cells_of u
references_filled t read ok n x u e =
    let m : RoutineMeaning = meaning_at t.program n in
    let constants : List Name = constant_names t.program in
    let firsts : ℕ → ℕ = (numbering_of t.program).firsts in
    let among : Among x u (parameter_variables m.parameters) = by_all true x u m.parameters (look_among x u (parameters_by true m.parameters) e) in
    let has : RoutineHas (IsSound constants firsts) m = (types_are_sound t.program (plain_law t read ok) read).routines n in
    let sound : IsSound constants firsts u = of_parameters (IsSound constants firsts) x u m.parameters has.parameters among in
    let free : is_free u ≡ true = of_variables x u (parameter_variables m.parameters ++ m.variables) ((accepted_framed t read ok).free n) (among_left x u (parameter_variables m.parameters) m.variables among) in
    some_cells constants firsts u (free_tellable constants firsts u sound free)
