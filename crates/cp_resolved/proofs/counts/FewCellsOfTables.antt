-- In the tables of an accepted program routines, system types and processes have few cells.
use Rattle.std.proofs.Common.{◌≡◌, ℕ, zero, suc, ◌+◌, ◌*◌, ◌<◌, ◌≤◌, List, [], ◌∷◌, ◌++◌, ◌∙◌, length, Some, slice_get, slice_index_or, ap, sym, subst, refl, arith, le_trans}
use Rattle.cp_resolved.proofs.Words.{spell, Program, Tree, Compounds, contents_least, Layer, Owned, System, RoutineView, no_routine, SystemView, no_system, IsAccepted}
use Rattle.cp_resolved.proofs.Words.{all_begun, Numbering, InStep, Place, places_of, AreAgreed, tokens_of, Opening, openings_of, numbering_of, IsRead, Each, Tokens}
use Rattle.cp_resolved.proofs.Words.{PlainTables, laid, tables_laid, no_room, room_from, system_type, types_of, system_types, AreInStep}
use Rattle.cp_resolved.specs.Held.{FewCellsLaw}
use Rattle.cp_resolved.proofs.names.BegunWithin.{all_within}
use Rattle.cp_resolved.proofs.laid.Extends.{Longer}
use Rattle.cp_resolved.proofs.counts.FewContents.{Holds, program_holds}
use Rattle.cp_resolved.proofs.counts.FewReferences.{each_entry, each_weaker}
use Rattle.cp_resolved.proofs.counts.FewReferencesOfTables.{laid_routines}
use Rattle.cp_resolved.proofs.counts.FewRooms.{Fits, program_level, cells_few}
use Rattle.cp_resolved.proofs.declarations.Plain.{read_names_law}
use Rattle.cp_resolved.proofs.agreeing.ScopesOfTrees.{scopes_law}
use Rattle.cp_resolved.proofs.names.SmallNames.{AreSmallNames, SmallNames, small_names}
use Rattle.cp_resolved.proofs.declarations.Nameless.{indexed_known}
use Rattle.cp_resolved.proofs.declarations.SmallTexts.{read_few}
use Rattle.cp_resolved.proofs.sound.SoundComponents.{layer_of, Images, images}
use Rattle.cp_resolved.proofs.names.Steps.{names_grown}
use Rattle.cp_resolved.proofs.laid.Whole.{program_laid}
use Rattle.cp_resolved.proofs.frames.FrameCells.{each_both as each_append}

-- ---- names where statements begin

all_small : (k : Numbering) (tokens : Tokens) (p : Program) (ls : List Layer) (xs : List Place) (os : List Opening) → AreInStep k ls os → AreAgreed tokens p xs os → Each SmallNames ls
all_small k tokens p [] xs os h g = tt
all_small k tokens p (l ∷ ls) xs [] h g = absurd h
all_small k tokens p (l ∷ ls) [] (o ∷ os) h g = absurd g
all_small k tokens p (l ∷ ls) (x ∷ xs) (o ∷ os) h g = (small_names k l.types l.names o.meaning.scope h.0 g.0.limited, all_small k tokens p ls xs os h.1 g.1)

-- by the types of the whole program
all_small_in : (k : Numbering) (tokens : Tokens) (p : Program) (ts : Compounds) (ls : List Layer) (xs : List Place) (os : List Opening) → AreInStep k ls os → AreAgreed tokens p xs os → Each (λ (l : Layer). Longer l.types ts) ls → Each (λ (l : Layer). AreSmallNames ts l.names) ls
all_small_in k tokens p ts [] xs os h g w = tt
all_small_in k tokens p ts (l ∷ ls) xs [] h g w = absurd h
all_small_in k tokens p ts (l ∷ ls) [] (o ∷ os) h g w = absurd g
all_small_in k tokens p ts (l ∷ ls) (x ∷ xs) (o ∷ os) h g w =
    let grown : InStep k (l.types ++ w.0.0) l.names o.meaning.scope = names_grown k l.types w.0.0 l.names o.meaning.scope h.0 in
    (small_names k ts l.names o.meaning.scope (subst (λ us. InStep k us l.names o.meaning.scope) (sym w.0.1) grown) g.0.limited, all_small_in k tokens p ts ls xs os h.1 g.1 w.1)

-- ---- what is laid out

fits_tokens : (t : Tree) → IsRead t.program → IsAccepted t → Each (λ (r : RoutineView). r.room ≤ 8192 * 20000) (layer_of t).routines
fits_tokens t read accepted =
    let small : Each SmallNames (all_begun t) = all_small (numbering_of t.program) (tokens_of t.program) t.program (all_begun t) (places_of t.program) (openings_of t.program) (read_names_law t read accepted).in_step (scopes_law t read accepted).places in
    let few = read_few t.program read in
    each_weaker (Fits (length (spell t.program)) 0) (λ (r : RoutineView). r.room ≤ 8192 * 20000) (λ r e. omega (arith, e, few)) (layer_of t).routines (program_level t (indexed_known t.program read.proper.indexed) small)

pub permanents_few : (t : Tree) → IsRead t.program → IsAccepted t → Holds (layer_of t).types (numbering_of t.program) 20000 0 (layer_of t)
permanents_few t read accepted =
    program_holds (layer_of t).types (numbering_of t.program) 20000 t (read_few t.program read)
    (all_small_in (numbering_of t.program) (tokens_of t.program) t.program (layer_of t).types (all_begun t) (places_of t.program) (openings_of t.program) (read_names_law t read accepted).in_step (scopes_law t read accepted).places (all_within t))

-- ---- cells of system types

abbrev IsFew : Owned → Type 0
IsFew o = o.cells ≤ 8192 * 20000

each_at : {A : Type 0} (P : A → Type 0) (xs : List A) → ((n : ℕ) (x : A) → slice_get xs n ≡ Some x → P x) → Each P xs
each_at P [] h = tt
each_at P (x ∷ xs) h = (h 0 x refl, each_at P xs (λ n y e. h (suc n) y e))

abbrev IsFewView : SystemView → Type 0
IsFewView v = v.own ≤ 8192 * 20000

types_few : (ss : List System) → Each (λ (s : System). IsFew s.owned) ss → Each IsFewView (types_of ss)
types_few [] h = tt
types_few (s ∷ ss) h = (h.0, types_few ss h.1)

view_few : (vs : List SystemView) (n : ℕ) → Each IsFewView vs → (slice_index_or vs n no_system).own ≤ 8192 * 20000
view_few [] n h = omega arith
view_few (v ∷ vs) zero h = h.0
view_few (v ∷ vs) (suc n) h = view_few vs n h.1

systems_few : (t : Tree) → IsRead t.program → IsAccepted t → Each IsFewView (system_types (layer_of t).systems (layer_of t).owned)
systems_few t read accepted =
    let l : Layer = layer_of t in
    let held = permanents_few t read accepted in
    let counted : Images l = images l (program_laid t.lines t.program).whole in
    let own : IsFew l.owned = (let a : l.owned.cells ≤ length (contents_least l.types l.owned.contents) = counted.program in let b : length (contents_least l.types l.owned.contents) + 8192 * 0 ≤ 8192 * 20000 = held.own in omega (arith, a, b)) in
    let others : Each (λ (s : System). IsFew s.owned) l.systems =
    each_at (λ (s : System). IsFew s.owned) l.systems (λ n s e. le_trans (counted.systems n s e) (each_entry (λ (q : System). length (contents_least l.types q.owned.contents) ≤ 8192 * 20000) l.systems n s e held.systems)) in
    each_append IsFewView (types_of l.systems) (system_type l.owned ∷ []) (types_few l.systems others) (own, tt)

-- ---- the tables

routine_few : (rs : List RoutineView) (n : ℕ) → n < length rs → Each (λ (r : RoutineView). r.room ≤ 8192 * 20000) rs → (slice_index_or rs n no_routine).room ≤ 8192 * 20000
routine_few [] n lt h = absurd (omega arith)
routine_few (r ∷ rs) zero lt h = h.0
routine_few (r ∷ rs) (suc n) lt h = routine_few rs n (omega arith) h.1

laid_systems : (t : Tree) → (laid t).systems ≡ system_types (layer_of t).systems (layer_of t).owned
unfolding laid tables_laid
laid_systems t = refl

laid_cells : (t : Tree) → (laid t).cells ≡ (room_from (layer_of t) no_room (laid t).processes).cells
unfolding laid tables_laid
laid_cells t = refl

pub few_cells_law : FewCellsLaw
few_cells_law t tree is read accepted =
    let all = fits_tokens tree read accepted in
    let routines : t.routines ≡ (layer_of tree).routines = ap (λ (p : PlainTables). p.routines) is ∙ laid_routines tree in
    let systems : t.systems ≡ system_types (layer_of tree).systems (layer_of tree).owned = ap (λ (p : PlainTables). p.systems) is ∙ laid_systems tree in
    let cells : t.cells ≡ (room_from (layer_of tree) no_room (laid tree).processes).cells = ap (λ (p : PlainTables). p.cells) is ∙ laid_cells tree in
    let room : (room_from (layer_of tree) no_room (laid tree).processes).cells ≤ 8192 * 20000 = cells_few (layer_of tree) (8192 * 20000) no_room (laid tree).processes all (omega arith) in
    record {
      rooms = λ n lt. routine_few t.routines n lt (subst (λ (rs : List RoutineView). Each (λ (r : RoutineView). r.room ≤ 8192 * 20000) rs) (sym routines) all);
      own = λ k. view_few t.systems k (subst (Each IsFewView) (sym systems) (systems_few tree read accepted));
      cells = omega (arith, cells, room);
    }
