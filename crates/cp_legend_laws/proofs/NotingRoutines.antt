-- What routines, initial statements and the insides of system types note.
use Rattle.std.proofs.Common.{Bool, true, List, [], ◌∷◌, None, ap, refl}
use Rattle.cp_tree.specs.Syntax as syntax
use Rattle.cp_layout.specs.Layers.{Layer, Heading, no_frame}
use Rattle.cp_layout.specs.LaidDeclarations.{Parameters, heading, heading_with, body, with_new_frame, with_heading, open_routine, local_parts, permanent_parts, routine, routines, initial_statement, enter_system, system_groups, system_inside}
use Rattle.cp_resolved.proofs.laid.Grown.{body_grew}
use Rattle.cp_legend_laws.proofs.Noting.{Noting, noting_trans, noting_none, noting_same, noting_name}
use Rattle.cp_legend_laws.proofs.NotingDeclarations.{heading_notes, local_parts_note, permanent_parts_note, system_groups_note}

body_notes : (l : Layer) (b : syntax.Body) (checks : Bool) → Noting l (body l b checks)
body_notes l b checks =
    let g = (body_grew l b.statements checks).1 in
    noting_same l (body l b checks) (ap (λ (j : Layer). j.types) g) (ap (λ (j : Layer). j.noted) g) (ap (λ (j : Layer). j.owned.contained) g) (ap (λ (j : Layer). j.systems) g) (ap (λ (j : Layer). j.is_inside) g)

pub initial_notes : (l : Layer) (ps : Parameters) (b : syntax.Body) → Noting l (initial_statement l ps b)
initial_notes l ps b =
    let k : Layer = with_heading (with_new_frame l) (heading_with [] ps None) in
    noting_trans l k (initial_statement l ps b) (noting_same l k refl refl refl refl refl) (body_notes k b true)

routine_notes : (l : Layer) (r : syntax.Routine) → Noting l (routine l r)
routine_notes l r =
    let x : Layer = (open_routine l r.name.name).1 in
    let h : Heading × Layer = heading x r.name.name r.kind in
    let k : Layer = with_heading h.1 h.0 in
    let p : Layer = local_parts k r.parts in
    let b : Layer = body p r.body r.is_entry in
    let a : Noting l h.1 = noting_trans l x h.1 (noting_name l r.name.name _ l.owned no_frame (λ ts. refl) refl) (heading_notes x r.name.name r.kind) in
    let c : Noting h.1 p = noting_trans h.1 k p (noting_same h.1 k refl refl refl refl refl) (local_parts_note k r.parts) in
    noting_trans l b (routine l r) (noting_trans l p b (noting_trans l h.1 p a c) (body_notes p r.body r.is_entry)) (noting_same b (routine l r) refl refl refl refl refl)

pub routines_note : (l : Layer) (rs : List syntax.Routine) → Noting l (routines l rs)
unfolding routines
routines_note l [] = noting_none l
routines_note l (r ∷ rs) = noting_trans l (routine l r) (routines (routine l r) rs) (routine_notes l r) (routines_note (routine l r) rs)

-- a system type, from its parameters to its initial statement
pub inside_notes : (l : Layer) (s : syntax.System) →
    Noting (enter_system l).1 (initial_statement (system_inside (system_groups (enter_system l).1 [] s.parameters).1 s) (system_groups (enter_system l).1 [] s.parameters).0 s.body)
inside_notes l s =
    let e : Layer = (enter_system l).1 in
    let x : Parameters × Layer = system_groups e [] s.parameters in
    let y : Layer = permanent_parts x.1 s.parts in
    let z : Layer = routines y s.routines in
    noting_trans e z (initial_statement z x.0 s.body) (noting_trans e y z (noting_trans e x.1 y (system_groups_note e [] s.parameters) (permanent_parts_note x.1 s.parts)) (routines_note y s.routines)) (initial_notes z x.0 s.body)
