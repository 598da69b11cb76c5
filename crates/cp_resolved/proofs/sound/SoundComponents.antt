-- The components, processes and system types of tables that are laid out are sound, where the counts of processes and monitors have not stopped.
use Rattle.std.proofs.Common.{◌≡◌, ℕ, zero, suc, ◌+◌, ◌-◌, ◌*◌, ◌^◌, ◌<◌, ◌≤◌, ℤ, List, [], ◌∷◌, length, Option, Some, None, slice_get, slice_index_or, refl, sym, ap, subst, ◌∙◌, inl, inr, arith, length-append, le_trans}
use Rattle.cp_resolved.proofs.Words.{none-some, same_Some, slice_get_within, Tree, Component, ComponentKind, ComponentParameter, Process, plus, Listing, byte}
use Rattle.cp_resolved.proofs.Words.{contents_least, components_of_program, program, Layer, System, need_of, nothing_laid}
use Rattle.cp_tree.specs.declared.declaration.SystemKind.TheVariants as system_kind
use Rattle.cp_slots.specs.declared.tables.ComponentKind.TheVariants as kind
use Rattle.cp_slots.specs.Fits as fits
use Rattle.cp_layout.specs.Laid.{PlainTables, plain, system_type, types_of, system_types, room_from, no_room, tables_laid, laid}
use Rattle.cp_slots.specs.Systems as systems
use Rattle.cp_slots.specs.Systems.{own_of}
use Rattle.cp_slots.specs.Tables.{Tables, RoutineView, SystemView, routine_at, no_routine, system_at, no_system, component_at, no_component, process_at, no_process}
use Rattle.cp_resolved.specs.Soundness.{AreHeld}
use Rattle.cp_resolved.proofs.names.Entries.{there, not_there, entry_at, still_there, last_entry}
use Rattle.cp_resolved.proofs.laid.Fitting.{ListFits, list_wider}
use Rattle.cp_resolved.proofs.laid.Calling.{need_bounded}
use Rattle.cp_resolved.proofs.components.Handed.{First}
use Rattle.cp_resolved.proofs.components.Listing.{KindIs, RunsIn, Lists, one_listed, none_listed, program_keeps}
use Rattle.cp_resolved.proofs.systems.Owning.{SystemIs, RoutineIs}
use Rattle.cp_resolved.proofs.counts.Rooms.{Room, Holds, room_holds, some_depth}
use Rattle.cp_resolved.proofs.systems.Sizes.{contents_length}
use Rattle.cp_resolved.proofs.sound.SoundItems.{Shows, list, items_length}
use Rattle.cp_resolved.proofs.laid.Whole.{Whole, Last, ProgramLaid}
use Rattle.cp_resolved.proofs.frames.SeatsOfProgram.{types_length as types_count}

-- ---- what is laid out, as tables

pub record Tabled (t : Tables) (l : Layer) (c : Listing) (r : Room) : Type 0 where
  pub shows : Shows t l
  pub systems : t.systems ≡ system_types l.systems l.owned
  pub components : t.components ≡ c.components
  pub processes : t.processes ≡ c.processes
  pub monitors : t.monitors ≡ c.monitors
  pub permanents : t.permanents ≡ c.permanents
  pub depth : t.depth ≡ r.depth
  pub cells : t.cells ≡ r.cells
  pub references : t.references ≡ r.references

abbrev pub listing_of : Layer → Listing
listing_of l = components_of_program l.types l.systems l.owned (length l.routines - 1)

abbrev pub room_of : Layer → Room
room_of l = room_from l no_room (listing_of l).processes

abbrev pub layer_of : Tree → Layer
layer_of tree = program (nothing_laid tree.lines) tree.program

pub tabled : (t : Tables) (tree : Tree) → plain t ≡ laid tree → Tabled t (layer_of tree) (listing_of (layer_of tree)) (room_of (layer_of tree))
unfolding laid tables_laid
tabled t tree e =
    record {
      shows = record { items = ap (λ (p : PlainTables). p.items) e; routines = ap (λ (p : PlainTables). p.routines) e; arguments = ap (λ (p : PlainTables). p.arguments) e };
      systems = ap (λ (p : PlainTables). p.systems) e;
      components = ap (λ (p : PlainTables). p.components) e;
      processes = ap (λ (p : PlainTables). p.processes) e;
      monitors = ap (λ (p : PlainTables). p.monitors) e;
      permanents = ap (λ (p : PlainTables). p.permanents) e;
      depth = ap (λ (p : PlainTables). p.depth) e;
      cells = ap (λ (p : PlainTables). p.cells) e;
      references = ap (λ (p : PlainTables). p.references) e;
    }

-- ---- system types by their numbers

abbrev pub own_at : Layer → ℕ → ℕ
own_at l k = (slice_index_or (system_types l.systems l.owned) k no_system).own

abbrev pub initial_in : ℕ → Option System → ℕ
initial_in other None = other
initial_in other (Some s) = s.initial

-- the program's initial statement is the last routine
abbrev pub initial_at : Layer → ℕ → ℕ
initial_at l k = initial_in (length l.routines - 1) (slice_get l.systems k)

types_there : (ss : List System) (k : ℕ) (s : System) → slice_get ss k ≡ Some s → slice_get (types_of ss) k ≡ Some (system_type s.owned)
types_there [] k s e = absurd (none-some s e)
types_there (x ∷ ss) zero s e = ap (λ (y : System). Some (system_type y.owned)) (same_Some x s e)
types_there (x ∷ ss) (suc k) s e = types_there ss k s e

-- a component of each has the cells that are counted
pub record Images (l : Layer) : Type 0 where
  pub systems : (k : ℕ) (s : System) → slice_get l.systems k ≡ Some s → s.owned.cells ≤ length (contents_least l.types s.owned.contents)
  pub program : l.owned.cells ≤ length (contents_least l.types l.owned.contents)

pub images : (l : Layer) → Whole l → Images l
images l w =
    record {
      systems = λ k s e. le_trans (w.sized.systems k s e) (contents_length l.types w.sized.types s.owned.contents);
      program = le_trans w.sized.owned (contents_length l.types w.sized.types l.owned.contents);
    }

module _ (l : Layer) where
  pub system_there : (k : ℕ) (s : System) → slice_get l.systems k ≡ Some s → slice_get (system_types l.systems l.owned) k ≡ Some (system_type s.owned)
  system_there k s e = still_there (types_of l.systems) (system_type l.owned ∷ []) k (system_type s.owned) (types_there l.systems k s e)

  pub program_there : slice_get (system_types l.systems l.owned) (length l.systems) ≡ Some (system_type l.owned)
  program_there = ap (λ k. slice_get (system_types l.systems l.owned) k) (sym (types_count l.systems)) ∙ last_entry (types_of l.systems) (system_type l.owned)

  systems_count : length (system_types l.systems l.owned) ≡ length l.systems + 1
  systems_count = length-append (types_of l.systems) (system_type l.owned ∷ []) ∙ ap (λ k. k + 1) (types_count l.systems)

  pub system_own : (k : ℕ) (s : System) → slice_get l.systems k ≡ Some s → own_at l k ≡ s.owned.cells
  system_own k s e = ap (λ (v : SystemView). v.own) (entry_at (system_types l.systems l.owned) k no_system (system_type s.owned) (system_there k s e))

  pub program_own : own_at l (length l.systems) ≡ l.owned.cells
  program_own = ap (λ (v : SystemView). v.own) (entry_at (system_types l.systems l.owned) (length l.systems) no_system (system_type l.owned) program_there)

  past_initial : (o : Option System) → slice_get l.systems (length l.systems) ≡ o → initial_in (length l.routines - 1) o ≡ length l.routines - 1
  past_initial None e = refl
  past_initial (Some s) e = absurd (let lt : length l.systems < length l.systems = slice_get_within l.systems (length l.systems) s e in omega (arith, lt))

  pub listed : Images l → Lists (own_at l) (initial_at l) (length l.systems + 1) (listing_of l)
  listed h =
      program_keeps (Lists (own_at l) (initial_at l) (length l.systems + 1)) l.types l.systems
      (λ k s e c i. one_listed (own_at l) (initial_at l) (length l.systems + 1) s.kind c (contents_least l.types s.owned.contents) k s.initial (let lt : k < length l.systems = slice_get_within l.systems k s e in omega (arith, lt))
      (let le = h.systems k s e in let o = system_own k s e in omega (arith, le, o)) (sym (ap (initial_in (length l.routines - 1)) e)) i)
      l.owned (length l.routines - 1)
      (one_listed (own_at l) (initial_at l) (length l.systems + 1) system_kind.Process _ (contents_least l.types l.owned.contents) (length l.systems) (length l.routines - 1) (omega arith) (let le = h.program in let o = program_own in omega (arith, le, o))
      (sym (past_initial (slice_get l.systems (length l.systems)) refl)) (none_listed (own_at l) (initial_at l) (length l.systems + 1)))

-- ---- facts of the tables

module _ (t : Tables) (l : Layer) (c : Listing) (r : Room) (d : Tabled t l c r) (p : ProgramLaid l) (s : Lists (own_at l) (initial_at l) (length l.systems + 1) c) where
  component_there : (n : ℕ) → n < length t.components → (x : Component) × (slice_get c.components n ≡ Some x) × (component_at t n ≡ x)
  component_there n lt =
      let x = there t.components n lt in
      (x.0, ap (λ (xs : List Component). slice_get xs n) (sym d.components) ∙ x.1, entry_at t.components n no_component x.0 x.1)

  process_there : (n : ℕ) → n < length t.processes → (x : Process) × (slice_get c.processes n ≡ Some x) × (process_at t n ≡ x)
  process_there n lt =
      let x = there t.processes n lt in
      (x.0, ap (λ (xs : List Process). slice_get xs n) (sym d.processes) ∙ x.1, entry_at t.processes n no_process x.0 x.1)

  own_there : (n : ℕ) → own_of t n ≡ own_at l (component_at t n).system
  own_there n = ap (λ (xs : List SystemView). (slice_index_or xs (component_at t n).system no_system).own) d.systems

  kind_fits : (k : ComponentKind) (n : ℕ) → t.monitors < 255 → KindIs c n k → fits.KindFits t k
  kind_fits (kind.Process number) n lt h =
      let w : h.place < length c.processes = slice_get_within c.processes h.place h.process h.there in
      let e : length t.processes ≡ length c.processes = ap (λ (xs : List Process). length xs) d.processes in
      let i : number ≡ byte h.place = h.is in
      omega (arith, w, e, i)
  kind_fits (kind.Monitor number) n lt h = let e : t.monitors ≡ c.monitors = d.monitors in let w = h (omega (arith, lt, e)) in omega (arith, w, e)
  kind_fits kind.Class n lt h = tt

  pub components_sound : t.monitors < 255 → (n : ℕ) → n < length t.components → fits.KindFits t (component_at t n).kind
  components_sound lt n within = let x = component_there n within in rw x.2 (kind_fits x.0.kind n lt (s.kinds n x.0 x.1))

  pub apart_sound : (a b : ℕ) → a < b → b < length t.components → (component_at t a).base + own_of t a ≤ (component_at t b).base
  apart_sound a b lt within =
      let x = component_there a (omega (arith, lt, within)) in
      let y = component_there b within in
      rw (own_there a) (rw (x.2, y.2) (s.apart a b x.0 y.0 lt x.1 y.1))

  itself : (k : ComponentKind) (n : ℕ) → length t.processes ≤ 16 → KindIs c n k → systems.IsItself t k n
  itself (kind.Process number) n few h =
      let w : h.place < length c.processes = slice_get_within c.processes h.place h.process h.there in
      let e : length t.processes ≡ length c.processes = ap (λ (xs : List Process). length xs) d.processes in
      let i : number ≡ byte h.place = h.is in
      let same : number ≡ h.place = omega (arith, few, w, e, i) in
      let at : process_at t h.place ≡ h.process = entry_at t.processes h.place no_process h.process (ap (λ (xs : List Process). slice_get xs h.place) d.processes ∙ h.there) in
      rw (same, at) h.itself
  itself _ n few h = tt

  pub components_own : length t.processes ≤ 16 → (n : ℕ) → n < length t.components → systems.ComponentOwns t n
  components_own few n within =
      let x = component_there n within in
      let a : x.0.system < length l.systems + 1 = s.system n x.0 x.1 in
      let b : x.0.base + own_at l x.0.system ≤ length c.permanents = s.inside n x.0 x.1 in
      let e : length t.systems ≡ length l.systems + 1 = ap (λ (xs : List SystemView). length xs) d.systems ∙ systems_count l in
      record {
        system = rw x.2 (omega (arith, a, e));
        cells = (let z : length t.permanents ≡ length c.permanents = ap (λ (xs : List ℤ). length xs) d.permanents in rw (own_there n) (rw x.2 (omega (arith, b, z))));
        itself = rw x.2 (itself x.0.kind n few (s.kinds n x.0 x.1));
      }

  -- the initial statement of each system type, and of the program
  initial_is : (k : ℕ) → k < length l.systems + 1 → Last l (initial_at l k) k 0
  initial_is k lt = go (slice_get l.systems k) refl
    where
      go : (o : Option System) → slice_get l.systems k ≡ o → Last l (initial_in (length l.routines - 1) o) k 0
      go (Some z) e = let i : SystemIs l k z = p.whole.owning.systems k z e in record { routine = i.routine; there = i.there; system = i.same; references = i.references }
      go None e =
          let past : length l.systems ≤ k = not_there l.systems k e in
          let same : length l.systems ≡ k = omega (arith, past, lt) in
          let n : length l.routines ≡ p.initial + 1 = p.count in
          let at : p.initial ≡ length l.routines - 1 = omega (arith, n) in
          record { routine = p.last.routine; there = ap (λ i. slice_get l.routines i) (sym at) ∙ p.last.there; system = p.last.system ∙ same; references = p.last.references }

  runs_last : (x : Process) (n : ℕ) (h : RunsIn (initial_at l) c n x) → Last l x.routine h.component.system 0
  runs_last x n h = rw h.routine (initial_is h.component.system (s.system x.component h.component h.there))

  routine_there : (n : ℕ) (v : RoutineView) → slice_get l.routines n ≡ Some v → routine_at t n ≡ v
  routine_there n v e = ap (λ (rs : List RoutineView). slice_index_or rs n no_routine) d.shows.routines ∙ entry_at l.routines n no_routine v e

  pub processes_sound : AreHeld t → r ≡ room_from l no_room c.processes → (n : ℕ) → n < length t.processes → fits.ProcessFits t (process_at t n)
  processes_sound held is n within =
      let x = process_there n within in
      let h : RunsIn (initial_at l) c n x.0 = s.processes n x.0 x.1 in
      let i : Last l x.0.routine h.component.system 0 = runs_last x.0 n h in
      let v : routine_at t x.0.routine ≡ i.routine = routine_there x.0.routine i.routine i.there in
      let f : Holds l r i.routine = subst (λ (z : Room). Holds l z i.routine) (sym is) (room_holds l no_room c.processes n x.0 i.routine x.1 i.there) in
      let a : x.0.component < length c.components = slice_get_within c.components x.0.component h.component h.there in
      let b : length t.components ≡ length c.components = ap (λ (xs : List Component). length xs) d.components in
      let e : x.0.routine < length l.routines = slice_get_within l.routines x.0.routine i.routine i.there in
      let g : length t.routines ≡ length l.routines = ap (λ (xs : List RoutineView). length xs) d.shows.routines in
      let bodies : ListFits l.items x.0.routine (need_of l.items i.routine.body) i.routine.body = p.whole.ground.bodies x.0.routine i.routine i.there in
      let m : need_of l.items i.routine.body ≤ 2 * length l.items = need_bounded l.items x.0.routine (need_of l.items i.routine.body) i.routine.body p.whole.ground.bounded bodies in
      let q : length t.items + 2 ≤ 2 ^ 63 = held.items in
      let len : length l.items ≡ length t.items = items_length t l d.shows p.whole in
      let deep : plus (need_of l.items i.routine.body) 1 ≤ r.depth = f.depth in
      let depth : t.depth ≡ r.depth = d.depth in
      let some : 1 ≤ r.depth = subst (λ (z : Room). 1 ≤ z.depth) (sym is) (some_depth l no_room c.processes (omega arith)) in
      let u : i.routine.room ≤ r.cells = f.cells in
      let u' : t.cells ≡ r.cells = d.cells in
      let w : i.routine.reference_room ≤ r.references = f.references in
      let w' : t.references ≡ r.references = d.references in
      rw x.2 (record {
        component = omega (arith, a, b);
        routine = omega (arith, e, g);
        cells = rw v (omega (arith, u, u'));
        references = rw v (omega (arith, w, w'));
        some = omega (arith, some, depth);
        body = rw v (list t l d.shows p.whole x.0.routine (t.depth - 1) i.routine.body (list_wider l.items x.0.routine (need_of l.items i.routine.body) (t.depth - 1) i.routine.body (omega (arith, deep, depth, m, q, len)) bodies));
      })

  pub processes_own : length t.processes ≤ 16 → (n : ℕ) → n < length t.processes → systems.ProcessOwned t n
  processes_own few n within =
      let x = process_there n within in
      let h : RunsIn (initial_at l) c n x.0 = s.processes n x.0 x.1 in
      let i : Last l x.0.routine h.component.system 0 = runs_last x.0 n h in
      let v : routine_at t x.0.routine ≡ i.routine = routine_there x.0.routine i.routine i.there in
      let y : component_at t x.0.component ≡ h.component = entry_at t.components x.0.component no_component h.component (ap (λ (xs : List Component). slice_get xs x.0.component) d.components ∙ h.there) in
      let b : byte n ≡ n = omega (arith, few, within) in
      record {
        kind = rw (x.2, y) (h.kind ∙ ap (λ k. kind.Process k) b);
        system = rw (x.2, y, v) (sym i.system);
        references = rw (x.2, v) i.references;
      }

  pub routines_own : (n : ℕ) → n < length t.routines → systems.RoutineOwned t (routine_at t n)
  routines_own n lt =
      let g : length t.routines ≡ length l.routines = ap (λ (xs : List RoutineView). length xs) d.shows.routines in
      let x = there l.routines n (omega (arith, lt, g)) in
      let v : routine_at t n ≡ x.0 = routine_there n x.0 x.1 in
      rw v (go x.0 (p.whole.owning.routines n x.0 x.1))
    where
      count : length t.systems ≡ length l.systems + 1
      count = ap (λ (xs : List SystemView). length xs) d.systems ∙ systems_count l

      own : (k : ℕ) → (system_at t k).own ≡ own_at l k
      own k = ap (λ (xs : List SystemView). (slice_index_or xs k no_system).own) d.systems

      go : (v : RoutineView) → RoutineIs l v → systems.RoutineOwned t v
      go v (inl i) =
          let lt' : v.system < length l.systems = slice_get_within l.systems v.system i.system i.there in
          let a = own v.system in
          let b = system_own l v.system i.system i.there in
          let o : v.own ≤ i.system.owned.cells = i.own in
          let e = count in
          record { system = omega (arith, lt', e); cells = omega (arith, a, b, o) }
      go v (inr i) =
          let same : v.system ≡ length l.systems = i.0 in
          let o : v.own ≤ l.owned.cells = i.1 in
          let a : (system_at t v.system).own ≡ l.owned.cells = own v.system ∙ ap (own_at l) same ∙ program_own l in
          let e = count in
          record { system = omega (arith, same, e); cells = omega (arith, a, o) }

  pub takes_nothing : First (length l.routines - 1) (length l.systems) c → l.owned.parameters ≡ [] → systems.ProgramTakesNothing t
  takes_nothing first none =
      let a : process_at t 0 ≡ _ = entry_at t.processes 0 no_process _ (ap (λ (xs : List Process). slice_get xs 0) d.processes ∙ first.process) in
      let b : component_at t 0 ≡ first.component = entry_at t.components 0 no_component first.component (ap (λ (xs : List Component). slice_get xs 0) d.components ∙ first.there) in
      let v : system_at t (length l.systems) ≡ system_type l.owned = ap (λ (xs : List SystemView). slice_index_or xs (length l.systems) no_system) d.systems ∙ entry_at (system_types l.systems l.owned) (length l.systems) no_system (system_type l.owned) (program_there l) in
      rw (a, b, first.is, v) (ap (λ (xs : List ComponentParameter). length xs) none)
