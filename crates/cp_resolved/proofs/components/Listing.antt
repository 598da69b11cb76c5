-- The listing of components: each has the cells of its system type, apart from those of the others, and processes and monitors have their numbers.
use Rattle.std.proofs.Common.{◌≡◌, ℕ, zero, suc, ◌+◌, ◌<◌, ◌≤◌, ◌==◌, ℤ, Bool, true, false, if◌then◌else◌, List, [], ◌∷◌, ◌++◌, length, Option, Some, None, slice_get, refl, sym, ◌⊎◌, inl, inr, append-nil, arith, length-append}
use Rattle.cp_resolved.proofs.Words.{none-some, slice_get_within, SystemKind, Component, ComponentKind, Process, Contained, Compounds, Owned, System}
use Rattle.cp_tree.specs.declared.declaration.SystemKind.TheVariants as system_kind
use Rattle.cp_slots.specs.declared.tables.ComponentKind.TheVariants as kind
use Rattle.cp_layout.specs.LaidComponents.{Listing, empty_listing, contents_least, byte, process_at, next_kind, component_with, with_component, again_and_again, add_contained, system_by, add_below, components_of_program}
use Rattle.cp_resolved.proofs.names.Entries.{still_there, last_entry, last_or_before}

-- ---- what holds of a listing

-- the process of a component
pub record Runs (c : Listing) (component number : ℕ) : Type 0 where
  pub place : ℕ
  pub is : number ≡ byte place
  pub process : Process
  pub there : slice_get c.processes place ≡ Some process
  pub itself : process.component ≡ component

abbrev pub KindIs : Listing → (component : ℕ) → ComponentKind → Type 0
KindIs c n (kind.Process number) = Runs c n number
KindIs c n (kind.Monitor number) = c.monitors < 255 → number < c.monitors
KindIs c n kind.Class = Unit {0}

-- the component of a process
pub record RunsIn (initial : ℕ → ℕ) (c : Listing) (number : ℕ) (p : Process) : Type 0 where
  pub component : Component
  pub there : slice_get c.components p.component ≡ Some component
  pub kind : component.kind ≡ kind.Process (byte number)
  pub routine : p.routine ≡ initial component.system

-- by the cells that a component of each system type has, and the initial statement of each
pub record Lists (own initial : ℕ → ℕ) (count : ℕ) (c : Listing) : Type 0 where
  pub system : (n : ℕ) (x : Component) → slice_get c.components n ≡ Some x → x.system < count
  pub inside : (n : ℕ) (x : Component) → slice_get c.components n ≡ Some x → x.base + own x.system ≤ length c.permanents
  pub apart : (m n : ℕ) (x y : Component) → m < n → slice_get c.components m ≡ Some x → slice_get c.components n ≡ Some y → x.base + own x.system ≤ y.base
  pub kinds : (n : ℕ) (x : Component) → slice_get c.components n ≡ Some x → KindIs c n x.kind
  pub processes : (k : ℕ) (p : Process) → slice_get c.processes k ≡ Some p → RunsIn initial c k p

-- ---- one more component

-- the cells of a component come after those of the others
module _ (own : ℕ → ℕ) (count : ℕ) (xs : List Component) (zs image : List ℤ) (y : Component) (base : y.base ≡ length zs) (within : y.system < count) (cells : own y.system ≤ length image) where
  one_system : ((n : ℕ) (x : Component) → slice_get xs n ≡ Some x → x.system < count) → (n : ℕ) (x : Component) → slice_get (xs ++ y ∷ []) n ≡ Some x → x.system < count
  one_system h n x e = go (last_or_before xs y n x e)
    where
      go : (slice_get xs n ≡ Some x) ⊎ ((n ≡ length xs) × (x ≡ y)) → x.system < count
      go (inl g) = h n x g
      go (inr g) = rw g.1 within

  one_inside : ((n : ℕ) (x : Component) → slice_get xs n ≡ Some x → x.base + own x.system ≤ length zs) → (n : ℕ) (x : Component) → slice_get (xs ++ y ∷ []) n ≡ Some x → x.base + own x.system ≤ length (zs ++ image)
  one_inside h n x e = go (last_or_before xs y n x e)
    where
      more : length (zs ++ image) ≡ length zs + length image
      more = length-append zs image

      go : (slice_get xs n ≡ Some x) ⊎ ((n ≡ length xs) × (x ≡ y)) → x.base + own x.system ≤ length (zs ++ image)
      go (inl g) = let le : x.base + own x.system ≤ length zs = h n x g in omega (arith, le, more)
      go (inr g) = rw g.1 (omega (arith, base, cells, more))

  one_apart : ((n : ℕ) (x : Component) → slice_get xs n ≡ Some x → x.base + own x.system ≤ length zs) → ((m n : ℕ) (u v : Component) → m < n → slice_get xs m ≡ Some u → slice_get xs n ≡ Some v → u.base + own u.system ≤ v.base)
      → (m n : ℕ) (u v : Component) → m < n → slice_get (xs ++ y ∷ []) m ≡ Some u → slice_get (xs ++ y ∷ []) n ≡ Some v → u.base + own u.system ≤ v.base
  one_apart inside h m n u v lt e f = go (last_or_before xs y m u e) (last_or_before xs y n v f)
    where
      go : (slice_get xs m ≡ Some u) ⊎ ((m ≡ length xs) × (u ≡ y)) → (slice_get xs n ≡ Some v) ⊎ ((n ≡ length xs) × (v ≡ y)) → u.base + own u.system ≤ v.base
      go (inl a) (inl b) = h m n u v lt a b
      go (inl a) (inr b) = let le : u.base + own u.system ≤ length zs = inside m u a in rw b.1 (omega (arith, le, base))
      go (inr a) (inl b) = let past : n < length xs = slice_get_within xs n v b in let e : m ≡ length xs = a.0 in absurd (omega (arith, lt, past, e))
      go (inr a) (inr b) = let e : m ≡ length xs = a.0 in let f : n ≡ length xs = b.0 in absurd (omega (arith, lt, e, f))

kind_more : (c d : Listing) (n : ℕ) (k : ComponentKind) (ps : List Process) → d.processes ≡ c.processes ++ ps → c.monitors ≤ d.monitors → KindIs c n k → KindIs d n k
kind_more c d n (kind.Process number) ps e le h = record { place = h.place; is = h.is; process = h.process; there = rw e (still_there c.processes ps h.place h.process h.there); itself = h.itself }
kind_more c d n (kind.Monitor number) ps e le h = λ lt. let a : number < c.monitors = h (omega (arith, le, lt)) in omega (arith, a, le)
kind_more c d n kind.Class ps e le h = tt

runs_more : (initial : ℕ → ℕ) (c d : Listing) (k : ℕ) (p : Process) (xs : List Component) → d.components ≡ c.components ++ xs → RunsIn initial c k p → RunsIn initial d k p
runs_more initial c d k p xs e h = record { component = h.component; there = rw e (still_there c.components xs p.component h.component h.there); kind = h.kind; routine = h.routine }

module _ (own initial : ℕ → ℕ) (count : ℕ) (c : Listing) (h : Lists own initial count c) (image : List ℤ) (system number : ℕ) (within : system < count) (cells : own system ≤ length image) (is : number ≡ initial system) where
  class_listed : Lists own initial count (with_component c kind.Class image system)
  class_listed =
      let y : Component = component_with kind.Class (length c.permanents) system in
      let d : Listing = with_component c kind.Class image system in
      record {
        system = one_system own count c.components c.permanents image y refl within cells h.system;
        inside = one_inside own count c.components c.permanents image y refl within cells h.inside;
        apart = one_apart own count c.components c.permanents image y refl within cells h.inside h.apart;
        kinds = λ n x e. go n x (last_or_before c.components y n x e);
        processes = λ k p e. runs_more initial c d k p (y ∷ []) refl (h.processes k p e);
      }
    where
      go : (n : ℕ) (x : Component) → (slice_get c.components n ≡ Some x) ⊎ ((n ≡ length c.components) × (x ≡ component_with kind.Class (length c.permanents) system)) → KindIs (with_component c kind.Class image system) n x.kind
      go n x (inl g) = kind_more c (with_component c kind.Class image system) n x.kind [] (sym (append-nil c.processes)) (omega arith) (h.kinds n x g)
      go n x (inr g) = rw g.1 tt

  monitor_listed : Lists own initial count (with_component (let e : Listing = record c { monitors = byte (c.monitors + 1) } in e) (kind.Monitor c.monitors) image system)
  monitor_listed =
      let y : Component = component_with (kind.Monitor c.monitors) (length c.permanents) system in
      let d : Listing = with_component (let e : Listing = record c { monitors = byte (c.monitors + 1) } in e) (kind.Monitor c.monitors) image system in
      record {
        system = one_system own count c.components c.permanents image y refl within cells h.system;
        inside = one_inside own count c.components c.permanents image y refl within cells h.inside;
        apart = one_apart own count c.components c.permanents image y refl within cells h.inside h.apart;
        kinds = λ n x e. go n x (last_or_before c.components y n x e);
        processes = λ k p e. runs_more initial c d k p (y ∷ []) refl (h.processes k p e);
      }
    where
      go : (n : ℕ) (x : Component) → (slice_get c.components n ≡ Some x) ⊎ ((n ≡ length c.components) × (x ≡ component_with (kind.Monitor c.monitors) (length c.permanents) system))
          → KindIs (with_component (let e : Listing = record c { monitors = byte (c.monitors + 1) } in e) (kind.Monitor c.monitors) image system) n x.kind
      go n x (inl g) = later x.kind (h.kinds n x g)
        where
          later : (k : ComponentKind) → KindIs c n k → KindIs (with_component (let e : Listing = record c { monitors = byte (c.monitors + 1) } in e) (kind.Monitor c.monitors) image system) n k
          later (kind.Process m) r = record { place = r.place; is = r.is; process = r.process; there = r.there; itself = r.itself }
          later (kind.Monitor m) r = λ lt. let a : m < c.monitors = r (omega (arith, lt)) in omega (arith, a, lt)
          later kind.Class r = tt
      go n x (inr g) = rw g.1 (λ lt. omega (arith, lt))

  abbrev after : Listing
  after = with_component (let e : Listing = record c { processes = c.processes ++ process_at (length c.components) number ∷ [] } in e) (kind.Process (byte (length c.processes))) image system

  process_listed : Lists own initial count (with_component (let e : Listing = record c { processes = c.processes ++ process_at (length c.components) number ∷ [] } in e) (kind.Process (byte (length c.processes))) image system)
  process_listed =
      let y : Component = component_with (kind.Process (byte (length c.processes))) (length c.permanents) system in
      let q : Process = process_at (length c.components) number in
      record {
        system = one_system own count c.components c.permanents image y refl within cells h.system;
        inside = one_inside own count c.components c.permanents image y refl within cells h.inside;
        apart = one_apart own count c.components c.permanents image y refl within cells h.inside h.apart;
        kinds = λ n x e. go n x (last_or_before c.components y n x e);
        processes = λ k p e. runs k p (last_or_before c.processes q k p e);
      }
    where
      go : (n : ℕ) (x : Component) → (slice_get c.components n ≡ Some x) ⊎ ((n ≡ length c.components) × (x ≡ component_with (kind.Process (byte (length c.processes))) (length c.permanents) system)) → KindIs after n x.kind
      go n x (inl g) = kind_more c after n x.kind (process_at (length c.components) number ∷ []) refl (omega arith) (h.kinds n x g)
      go n x (inr g) = rw (g.0, g.1) (record { place = length c.processes; is = refl; process = process_at (length c.components) number; there = last_entry c.processes (process_at (length c.components) number); itself = refl })

      runs : (k : ℕ) (p : Process) → (slice_get c.processes k ≡ Some p) ⊎ ((k ≡ length c.processes) × (p ≡ process_at (length c.components) number)) → RunsIn initial after k p
      runs k p (inl g) = runs_more initial c after k p (component_with (kind.Process (byte (length c.processes))) (length c.permanents) system ∷ []) refl (h.processes k p g)
      runs k p (inr g) =
          rw (g.0, g.1) (record {
            component = component_with (kind.Process (byte (length c.processes))) (length c.permanents) system;
            there = last_entry c.components (component_with (kind.Process (byte (length c.processes))) (length c.permanents) system);
            kind = refl;
            routine = is;
          })

pub one_listed : (own initial : ℕ → ℕ) (count : ℕ) (k : SystemKind) (c : Listing) (image : List ℤ) (system number : ℕ) → system < count → own system ≤ length image → number ≡ initial system → Lists own initial count c → Lists own initial count (with_component (next_kind c k number).1 (next_kind c k number).0 image system)
one_listed own initial count system_kind.Class c image system number within cells is h = class_listed own initial count c h image system number within cells is
one_listed own initial count system_kind.Monitor c image system number within cells is h = monitor_listed own initial count c h image system number within cells is
one_listed own initial count system_kind.Process c image system number within cells is h = process_listed own initial count c h image system number within cells is

pub none_listed : (own initial : ℕ → ℕ) (count : ℕ) → Lists own initial count empty_listing
none_listed own initial count =
    record {
      system = λ n x e. absurd (none-some x e);
      inside = λ n x e. absurd (none-some x e);
      apart = λ m n x y lt e f. absurd (none-some x e);
      kinds = λ n x e. absurd (none-some x e);
      processes = λ k p e. absurd (none-some p e);
    }

-- ---- all components

again_keeps : (I : Listing → Type 0) (one : Listing → Listing) → ((c : Listing) → I c → I (one c)) → (n : ℕ) (c : Listing) → I c → I (again_and_again n one c)
unfolding again_and_again
again_keeps I one f zero c h = h
again_keeps I one f (suc n) c h = f (again_and_again n one c) (again_keeps I one f n c h)

contained_keeps : (I : Listing → Type 0) (one : ℕ → Listing → Listing) → ((n : ℕ) (c : Listing) → I c → I (one n c)) → (ks : List Contained) (c : Listing) → I c → I (add_contained one ks c)
unfolding add_contained
contained_keeps I one f [] c h = h
contained_keeps I one f (k ∷ ks) c h = contained_keeps I one f ks (again_and_again k.count (one k.system) c) (again_keeps I (one k.system) (f k.system) k.count c h)

-- what holds after each component holds of the listing
module _ (I : Listing → Type 0) (ts : Compounds) (ss : List System) (step : (k : ℕ) (s : System) → slice_get ss k ≡ Some s → (c : Listing) → I c → I (with_component (next_kind c s.kind s.initial).1 (next_kind c s.kind s.initial).0 (contents_least ts s.owned.contents) k)) where
  system_keeps : (one : ℕ → Listing → Listing) → ((n : ℕ) (c : Listing) → I c → I (one n c)) → (o : Option System) (k : ℕ) (c : Listing) → slice_get ss k ≡ o → I c → I (system_by ts one o k c)
  system_keeps one f None k c e h = h
  system_keeps one f (Some s) k c e h = contained_keeps I one f s.owned.contained (with_component (next_kind c s.kind s.initial).1 (next_kind c s.kind s.initial).0 (contents_least ts s.owned.contents) k) (step k s e c h)

  pub listed_keeps : (bound n : ℕ) (c : Listing) → I c → I (add_below ts ss bound n c)
  unfolding add_below
  listed_keeps zero n c h = h
  listed_keeps (suc bound) n c h = go (n == bound) (system_keeps (add_below ts ss bound) (λ m d. listed_keeps bound m d) (slice_get ss bound) bound c refl h) (listed_keeps bound n c h)
    where
      go : (b : Bool) → I (system_by ts (add_below ts ss bound) (slice_get ss bound) bound c) → I (add_below ts ss bound n c) → I (if b then system_by ts (add_below ts ss bound) (slice_get ss bound) bound c else add_below ts ss bound n c)
      go true x y = x
      go false x y = y

  pub program_keeps : (o : Owned) (initial : ℕ) → I (with_component (next_kind empty_listing system_kind.Process initial).1 (next_kind empty_listing system_kind.Process initial).0 (contents_least ts o.contents) (length ss)) → I (components_of_program ts ss o initial)
  unfolding components_of_program
  program_keeps o initial h = contained_keeps I (add_below ts ss (length ss)) (λ n c. listed_keeps (length ss) n c) o.contained (with_component (next_kind empty_listing system_kind.Process initial).1 (next_kind empty_listing system_kind.Process initial).0 (contents_least ts o.contents) (length ss)) h
