-- In the tables of a program that was read open calls have at most 20,000 references: it has no more `var` parameters than tokens.
use Rattle.std.proofs.Common.{Bool, true, false, None, ◌≡◌, ℕ, zero, suc, ◌+◌, ◌<◌, ◌≤◌, List, [], ◌∷◌, ◌∙◌, length, slice_index_or, ap, sym, subst, refl, arith}
use Rattle.cp_resolved.proofs.Words.{Kind, spell, Body, Tree, PlainTables, laid, tables_laid, no_room, room_from, program, Layer, nothing_laid, RoutineView, no_routine, Each}
use Rattle.cp_text.specs.declared.token.Kind.TheVariants as kind
use Rattle.cp_text.specs.declared.token.Mark.TheVariants as mark
use Rattle.cp_tree.specs.Syntax.{Part, Routine}
use Rattle.cp_tree.specs.Spelling.{is_nameless, put_statements, put_named_routine, put_routine_by, put_all, put_identifier, put_part, put_body, put_routine_kind, put_routine}
use Rattle.cp_tree.proofs.Grows.{grows_optional, grows_body, grows_statements, grows_named_routine}
use Rattle.cp_layout.specs.LaidDeclarations.{Parameters, heading, heading_with, with_heading, with_new_frame, open_routine, local_parts, routine, initial_statement}
use Rattle.cp_resolved.specs.Begun.{all_begun}
use Rattle.cp_resolved.specs.Held.{FewReferencesLaw}
use Rattle.cp_resolved.proofs.counts.FewLocals.{heading_extended, parts_extended}
use Rattle.cp_resolved.proofs.counts.FewReferences.{each_weaker, Level, body_level, rooms_few}
use Rattle.cp_resolved.proofs.counts.SpentTokens.{each_any, program_spent}
use Rattle.cp_resolved.proofs.laid.Declares.{local_parts_declare, heading_declares}
use Rattle.cp_resolved.proofs.declarations.Nameless.{nameless_kind, IsKnownBy, IsKnown, EachRoutine, indexed_known}
use Rattle.cp_resolved.proofs.declarations.SmallTexts.{read_few}

-- ---- declarations

-- the whole routines, with this many tokens still to come, of all
abbrev Levels : (total low : ℕ) → Layer → Type 0
Levels total low l = (low ≤ total) × Level total low l

module _ (total : ℕ) where
  abbrev Fits : ℕ → RoutineView → Type 0
  Fits low r = r.reference_room + low ≤ total

  lower : (high low : ℕ) (l : Layer) → low ≤ high → Levels total high l → Levels total low l
  lower high low l le h = (let a = h.0 in omega (arith, le, a), each_weaker (Fits high) (Fits low) (λ r e. omega (arith, e, le)) l.routines h.1)

  same : (n : ℕ) (l m : Layer) → m.items ≡ l.items → m.pending ≡ l.pending → m.routines ≡ l.routines → Levels total n l → Levels total n m
  same n l m i p r h = (h.0, subst (Each (Fits n)) (sym r) h.1)

  routine_by : (b : Bool) (l : Layer) (r : Routine) (rest : List Kind) → is_nameless r.kind ≡ b → IsKnownBy b r → Levels total (length (put_routine_by b r rest)) l → Levels total (length rest) (routine l r)
  routine_by true l r rest is known h =
      let high : ℕ = length (put_statements r.body.statements rest) in
      let x : Layer = (open_routine l r.name.name).1 in
      let g = heading x r.name.name r.kind in
      let k : Layer = with_heading g.1 g.0 in
      let m : Layer = local_parts k r.parts in
      let e = heading_extended x r.name.name r.kind rest in
      let f = parts_extended k r.parts rest in
      let e' = e.extents in
      let f' = f.extents in
      let rooms : m.frame.reference_room ≡ 0 = f.references ∙ e.references in
      let kind_none : length (put_routine_kind r.kind rest) ≡ length rest = ap (λ (ks : List Kind). length ks) (nameless_kind r.kind rest is) in
      let parts_none : length (put_all put_part r.parts rest) ≡ length rest = ap (λ (ps : List Part). length (put_all put_part ps rest)) known.no_parts in
      let i = grows_statements r.body.statements rest in
      let le = h.0 in
      let begun : m.routines ≡ l.routines = ap (λ (z : Layer). z.routines) (local_parts_declare k r.parts).same ∙ ap (λ (z : Layer). z.routines) (heading_declares x r.name.name r.kind).same in
      (omega (arith, i, le), body_level total high (length m.frame.extents) (length rest) m r.body r.is_entry (omega (arith, e', f', kind_none, parts_none, i)) (record { routines = subst (Each (Fits high)) (sym begun) h.1; frame = omega (arith, rooms, le); extents = omega arith }))
  routine_by false l r rest is known h =
      let last : List Kind = kind.Mark mark.Semicolon ∷ rest in
      let b : List Kind = put_body r.body last in
      let inside : List Kind = put_all put_part r.parts b in
      let high : ℕ = length (put_named_routine r rest) in
      let x : Layer = (open_routine l r.name.name).1 in
      let g = heading x r.name.name r.kind in
      let k : Layer = with_heading g.1 g.0 in
      let m : Layer = local_parts k r.parts in
      let e = heading_extended x r.name.name r.kind (kind.Mark mark.Semicolon ∷ inside) in
      let f = parts_extended k r.parts b in
      let e' = e.extents in
      let f' = f.extents in
      let rooms : m.frame.reference_room ≡ 0 = f.references ∙ e.references in
      let j = grows_body r.body last in
      let n = grows_optional mark.Entry r.is_entry (put_identifier r.name (put_routine_kind r.kind (kind.Mark mark.Semicolon ∷ inside))) in
      let i = grows_named_routine r rest in
      let le = h.0 in
      let begun : m.routines ≡ l.routines = ap (λ (z : Layer). z.routines) (local_parts_declare k r.parts).same ∙ ap (λ (z : Layer). z.routines) (heading_declares x r.name.name r.kind).same in
      (omega (arith, i, le), body_level total high (length m.frame.extents) (length rest) m r.body r.is_entry (omega (arith, e', f', j, n)) (record { routines = subst (Each (Fits high)) (sym begun) h.1; frame = omega (arith, rooms, le); extents = omega arith }))

  routine_levels : (l : Layer) (r : Routine) (rest : List Kind) → IsKnown r → Unit {0} → Levels total (length (put_routine r rest)) l → Levels total (length rest) (routine l r)
  routine_levels l r rest known s h = routine_by (is_nameless r.kind) l r rest refl known h

  initial_levels : (l : Layer) (ps : Parameters) (b : Body) (rest : List Kind) → Levels total (length (put_body b rest)) l → Levels total (length rest) (initial_statement l ps b)
  initial_levels l ps b rest h =
      let le = h.0 in
      let a = grows_body b rest in
      (omega (arith, a, le), body_level total (length (put_body b rest)) 0 (length rest) (with_heading (with_new_frame l) (heading_with [] ps None)) b true (omega (arith, a)) (record { routines = h.1; frame = omega (arith, le); extents = omega arith }))

program_level : (t : Tree) → EachRoutine IsKnown t.program → Level (length (spell t.program)) 0 (program (nothing_laid t.lines) t.program)
program_level t known = let n : ℕ = length (spell t.program) in (program_spent (Levels n) (λ (l : Layer). Unit {0}) (lower n) (same n) (routine_levels n) (initial_levels n) t known (each_any (all_begun t)) (omega arith, tt)).1

-- ---- the tables

view_few : (rs : List RoutineView) (bound n : ℕ) → n < length rs → Each (λ (r : RoutineView). r.reference_room ≤ bound) rs → (slice_index_or rs n no_routine).reference_room ≤ bound
view_few [] bound n lt h = absurd (omega arith)
view_few (r ∷ rs) bound zero lt h = h.0
view_few (r ∷ rs) bound (suc n) lt h = view_few rs bound n (omega arith) h.1

pub laid_routines : (t : Tree) → (laid t).routines ≡ (program (nothing_laid t.lines) t.program).routines
unfolding laid tables_laid
laid_routines t = refl

laid_references : (t : Tree) → (laid t).references ≡ (room_from (program (nothing_laid t.lines) t.program) no_room (laid t).processes).references
unfolding laid tables_laid
laid_references t = refl

pub few_references_law : FewReferencesLaw
few_references_law t tree is read =
    let l : Layer = program (nothing_laid tree.lines) tree.program in
    let few = read_few tree.program read in
    let all : Each (λ (r : RoutineView). r.reference_room ≤ 20000) l.routines = each_weaker (λ (r : RoutineView). r.reference_room + 0 ≤ length (spell tree.program)) (λ (r : RoutineView). r.reference_room ≤ 20000) (λ r e. omega (arith, e, few)) l.routines (program_level tree (indexed_known tree.program read.proper.indexed)) in
    let routines : t.routines ≡ l.routines = ap (λ (p : PlainTables). p.routines) is ∙ laid_routines tree in
    let references : t.references ≡ (room_from l no_room (laid tree).processes).references = ap (λ (p : PlainTables). p.references) is ∙ laid_references tree in
    let room : (room_from l no_room (laid tree).processes).references ≤ 20000 = rooms_few l 20000 no_room (laid tree).processes all (omega arith) in
    ((λ n lt. view_few t.routines 20000 n lt (subst (λ (rs : List RoutineView). Each (λ (r : RoutineView). r.reference_room ≤ 20000) rs) (sym routines) all)), omega (arith, references, room))
