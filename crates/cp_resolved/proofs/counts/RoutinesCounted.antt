-- How many routines and system types a tree has.
use Rattle.std.proofs.Common.{length-append, ◌≡◌, ◌+◌, suc, List, [], ◌∷◌, ◌++◌, length, None, refl, ap, ◌∙◌, arith}
use Rattle.cp_tree.specs.Syntax as syntax
use Rattle.cp_resolved.proofs.Words.{Layer, System, nothing_laid, Declared, declared, program_system, own_meaning, Enumerated, each_in, in_routine, in_program_part, true}
use Rattle.cp_resolved.proofs.Words.{enumerations_of, AreFitParts, nothing_declared, Numbering, IsSmallProgram, AreNumbered, whole_laid, routines, program_parts, program}
use Rattle.cp_resolved.proofs.Words.{heading_with, with_heading, with_new_frame, Opening, routine_openings, initial_opening, parts_openings, openings_of, AreOpened}
use Rattle.cp_resolved.proofs.names.Steps.{outermost_in}
use Rattle.cp_resolved.proofs.names.StepsOfProgram.{Stood, parts_stood, all_outer}
use Rattle.cp_resolved.proofs.names.StepsOfRoutines.{body_count, body_systems, routines_systems, routines_count, openings_count, opened_left}
use Rattle.cp_resolved.proofs.names.StepsOfTypes.{numbered_left}

pub record Many (t : syntax.Tree) : Type 0 where
  pub routines : length (openings_of t.program) ≡ length (whole_laid t).routines
  pub systems : length (whole_laid t).systems ≡ program_system t.program

pub all_many : (k : Numbering) (t : syntax.Tree) → IsSmallProgram t.program → AreFitParts nothing_declared t.program.parts → AreNumbered k.firsts 0 (enumerations_of t.program) → AreOpened k.routines 0 (openings_of t.program) → Many t
unfolding program
all_many k t h f e o =
    let p : syntax.Program = t.program in
    let l : Layer = nothing_laid t.lines in
    let m : Layer = program_parts l p.parts in
    let b : Layer = routines m p.routines in
    let d : Declared = declared p in
    let end : Layer = whole_laid t in
    let es : List Enumerated = each_in in_program_part p.parts in
    let fs : List Enumerated = each_in in_routine p.routines in
    let os : List Opening = parts_openings nothing_declared p.parts in
    let ps : List Opening = routine_openings (program_system p) d.scope p.routines in
    let qs : List Opening = initial_opening (program_system p) (own_meaning d p) ∷ [] in
    let a : Stood k l m d es (length os) = parts_stood k l nothing_declared p.parts h.0 f (numbered_left k 0 es fs e) (opened_left k.routines 0 os (ps ++ qs) o) (record { names = outermost_in k []; systems = refl; outer = all_outer k }) in
    let c : length m.routines ≡ length l.routines + length os = a.routines in
    let z : length l.routines ≡ 0 = refl in
    let u : length b.routines ≡ length m.routines + length p.routines = routines_count m p.routines in
    let v : length end.routines ≡ suc (length b.routines) = body_count (with_heading (with_new_frame b) (heading_with [] [] None)) p.body true in
    let w : length ps ≡ length p.routines = openings_count (program_system p) d.scope p.routines in
    let x : length (os ++ (ps ++ qs)) ≡ length os + length (ps ++ qs) = length-append os (ps ++ qs) in
    let y : length (ps ++ qs) ≡ length ps + 1 = length-append ps qs in
    record {
      routines = omega (arith, c, z, u, v, w, x, y);
      systems = ap (λ (ss : List System). length ss) (body_systems (with_heading (with_new_frame b) (heading_with [] [] None)) p.body true ∙ routines_systems m p.routines) ∙ a.standing.systems;
    }
