-- The permanent cells of system types: parameters that are components have cells in their order, and a routine names no cells past those of its type.
use Rattle.std.proofs.Common.{◌≡◌, ℕ, ◌<◌, ◌≤◌, List, [], ◌∷◌, ◌++◌, length, Option, Some, slice_get, refl, sym, ap, ◌∙◌, ◌⊎◌, inl, inr, arith}
use Rattle.cp_resolved.proofs.Words.{none-some, slice_get_within, ComponentParameter, Contained, Content, most, plus, RoutineView, component_cell}
use Rattle.cp_layout.specs.Layers.{Layer, Owned, System, no_frame, no_owned, routine_of}
use Rattle.cp_resolved.proofs.names.Entries.{still_there, last_or_before}

-- in their order, where the count of the cells has not stopped
pub record IsOwned (o : Owned) : Type 0 where
  pub word : o.cells ≤ most
  pub inside : o.cells < most → (k : ℕ) (p : ComponentParameter) → slice_get o.parameters k ≡ Some p → p.slot < o.cells
  pub rising : o.cells < most → (j k : ℕ) (p q : ComponentParameter) → j < k → slice_get o.parameters j ≡ Some p → slice_get o.parameters k ≡ Some q → p.slot < q.slot

abbrev pub OwnedStep : Owned → Owned → Type 0
OwnedStep o p = IsOwned o → (o.cells ≤ p.cells) × IsOwned p

pub step_same : (o : Owned) → OwnedStep o o
step_same o h = (omega arith, h)

pub step_trans : (o p q : Owned) → OwnedStep o p → OwnedStep p q → OwnedStep o q
step_trans o p q f g h =
    let a = f h in
    let b = g a.1 in
    let u : o.cells ≤ p.cells = a.0 in
    let v : p.cells ≤ q.cells = b.0 in
    (omega (arith, u, v), b.1)

pub none_owned : IsOwned no_owned
none_owned = record { word = omega arith; inside = λ lt k p e. absurd (none-some p e); rising = λ lt j k p q less e f. absurd (none-some p e) }

pub cells_step : (o : Owned) (n : ℕ) (cs : List Content) → OwnedStep o (let p : Owned = record o { cells = plus o.cells n; contents = cs } in p)
cells_step o n cs h =
    let w : o.cells ≤ most = h.word in (
      omega (arith, w),
      record {
        word = omega arith;
        inside = λ lt k p e. (let a : p.slot < o.cells = h.inside (omega (arith, lt)) k p e in omega (arith, a, lt));
        rising = λ lt j k p q less e f. h.rising (omega (arith, lt)) j k p q less e f;
      },
    )

pub contained_step : (o : Owned) (n : ℕ) (cs : List Contained) → OwnedStep o (let p : Owned = record o { count = n; contained = cs } in p)
contained_step o n cs h = (omega arith, record { word = h.word; inside = h.inside; rising = h.rising })

pub component_step : (o : Owned) (s : ℕ) (cs : List Content) → OwnedStep o (let p : Owned = record o { cells = plus o.cells 1; contents = cs; parameters = o.parameters ++ component_cell o.cells s ∷ [] } in p)
component_step o s cs h =
    let w : o.cells ≤ most = h.word in (
      omega (arith, w),
      record {
        word = omega arith;
        inside = λ lt k p e. in_cells lt k p (last_or_before o.parameters (component_cell o.cells s) k p e);
        rising = λ lt j k p q less e f. in_order lt j k p q less (last_or_before o.parameters (component_cell o.cells s) j p e) (last_or_before o.parameters (component_cell o.cells s) k q f);
      },
    )
  where
    in_cells : plus o.cells 1 < most → (k : ℕ) (p : ComponentParameter) → (slice_get o.parameters k ≡ Some p) ⊎ ((k ≡ length o.parameters) × (p ≡ component_cell o.cells s)) → p.slot < plus o.cells 1
    in_cells lt k p (inl e) = let a : p.slot < o.cells = h.inside (omega (arith, lt)) k p e in omega (arith, a, lt)
    in_cells lt k p (inr e) = rw e.1 (omega (arith, lt))

    in_order : plus o.cells 1 < most → (j k : ℕ) (p q : ComponentParameter) → j < k → (slice_get o.parameters j ≡ Some p) ⊎ ((j ≡ length o.parameters) × (p ≡ component_cell o.cells s)) → (slice_get o.parameters k ≡ Some q) ⊎ ((k ≡ length o.parameters) × (q ≡ component_cell o.cells s)) → p.slot < q.slot
    in_order lt j k p q less (inl e) (inl f) = h.rising (omega (arith, lt)) j k p q less e f
    in_order lt j k p q less (inl e) (inr f) = let a : p.slot < o.cells = h.inside (omega (arith, lt)) j p e in rw f.1 a
    in_order lt j k p q less (inr e) (inl f) = let past : k < length o.parameters = slice_get_within o.parameters k q f in let at : j ≡ length o.parameters = e.0 in absurd (omega (arith, less, past, at))
    in_order lt j k p q less (inr e) (inr f) = let at : j ≡ length o.parameters = e.0 in let bt : k ≡ length o.parameters = f.0 in absurd (omega (arith, less, at, bt))

-- ---- all system types and routines

-- its initial statement is a routine of it, with no `var` parameters
pub record SystemIs (l : Layer) (k : ℕ) (s : System) : Type 0 where
  pub routine : RoutineView
  pub there : slice_get l.routines s.initial ≡ Some routine
  pub same : routine.system ≡ k
  pub references : routine.references ≡ 0
  pub owned : IsOwned s.owned

pub record RoutineIn (ss : List System) (r : RoutineView) : Type 0 where
  pub system : System
  pub there : slice_get ss r.system ≡ Some system
  pub own : r.own ≤ system.owned.cells

-- of a system type, or of what is laid out
abbrev pub RoutineIs : Layer → RoutineView → Type 0
RoutineIs l r = RoutineIn l.systems r ⊎ ((r.system ≡ length l.systems) × (r.own ≤ l.owned.cells))

pub record Owning (l : Layer) : Type 0 where
  pub owned : IsOwned l.owned
  pub systems : (k : ℕ) (s : System) → slice_get l.systems k ≡ Some s → SystemIs l k s
  pub routines : (n : ℕ) (r : RoutineView) → slice_get l.routines n ≡ Some r → RoutineIs l r

-- no routine of what is laid out
abbrev pub Outside : Layer → Type 0
Outside l = (n : ℕ) (r : RoutineView) → slice_get l.routines n ≡ Some r → RoutineIn l.systems r

-- with other cells, where there are no fewer
pub owning_step : (l m : Layer) → m.systems ≡ l.systems → m.routines ≡ l.routines → OwnedStep l.owned m.owned → Owning l → Owning m
owning_step l m ss rs f h =
    let g = f h.owned in
    record {
      owned = g.1;
      systems = λ k s e. (let i = h.systems k s (ap (λ (xs : List System). slice_get xs k) (sym ss) ∙ e) in record { routine = i.routine; there = rw rs i.there; same = i.same; references = i.references; owned = i.owned });
      routines = λ n r e. go r (h.routines n r (ap (λ (xs : List RoutineView). slice_get xs n) (sym rs) ∙ e)) g.0;
    }
  where
    go : (r : RoutineView) → RoutineIs l r → l.owned.cells ≤ m.owned.cells → RoutineIs m r
    go r (inl i) le = inl (record { system = i.system; there = rw ss i.there; own = i.own })
    go r (inr i) le = let a : r.own ≤ l.owned.cells = i.1 in let e : length m.systems ≡ length l.systems = ap (λ (xs : List System). length xs) ss in let b : r.system ≡ length l.systems = i.0 in inr (omega (arith, b, e), omega (arith, a, le))

-- one more routine of what is laid out
pub owning_ended : (l : Layer) (start : Option ℕ) → Owning l → Owning (let m : Layer = record l { frame = no_frame; routines = l.routines ++ routine_of l start ∷ [] } in m)
owning_ended l start h =
    record {
      owned = h.owned;
      systems = λ k s e. (let i = h.systems k s e in record { routine = i.routine; there = still_there l.routines (routine_of l start ∷ []) s.initial i.routine i.there; same = i.same; references = i.references; owned = i.owned });
      routines = λ n r e. go n r (last_or_before l.routines (routine_of l start) n r e);
    }
  where
    go : (n : ℕ) (r : RoutineView) → (slice_get l.routines n ≡ Some r) ⊎ ((n ≡ length l.routines) × (r ≡ routine_of l start)) → RoutineIs l r
    go n r (inl e) = h.routines n r e
    go n r (inr e) = rw e.1 (inr (refl, omega arith))
