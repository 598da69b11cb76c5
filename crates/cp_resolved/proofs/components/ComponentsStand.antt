-- Each component of the tables has the system type of that of the program, and its kind with its own number; and there are as many processes and monitors.
use Rattle.std.proofs.Common.{◌≡◌, ℕ, zero, suc, ◌+◌, ◌<◌, ◌≤◌, ℤ, List, [], ◌∷◌, ◌++◌, map, length, Some, slice_get, slice_index_or, refl, sym, ap, subst, ◌∙◌, append_assoc, append-nil, arith, length-append}
use Rattle.cp_resolved.proofs.Words.{min, length-map, none-some, same_Some, SystemKind, Program, Component, Process, Compounds, Owned, System, Tables}
use Rattle.cp_resolved.proofs.Words.{component_at, no_component, SystemMeaning, system_of, program_system}
use Rattle.cp_tree.specs.declared.declaration.SystemKind.TheVariants as system_kind
use Rattle.cp_layout.specs.LaidComponents.{Listing, empty_listing, byte, process_at, next_kind, component_with, with_component}
use Rattle.cp_slots.specs.Tables as tables
use Rattle.cp_meaning.specs.Components.{Listed, components_of, listed_variables, listed}
use Rattle.cp_meaning.specs.Kernel.{begun}
use Rattle.cp_meaning.specs.Readings.{monitor_first, monitors_from, monitors_of}
use Rattle.cp_meaning.specs.State as named
use Rattle.cp_meaning.specs.State.{book_discipline}
use Rattle.cp_meaning.specs.Steps.{first_component, unstarted_process, process_first, processes_from, own_begun, first_components, opening}
use Rattle.cp_resolved.specs.Resolved.{KindIs}
use Rattle.cp_resolved.proofs.components.ComponentOrder.{image_at, initial_at, step, steps, steps_append}
use Rattle.cp_resolved.proofs.names.Entries.{entry_at}

-- ---- an entry of a list, with those before it and after it

pub record Among {A : Type 0} (xs : List A) (n : ℕ) : Type 0 where
  pub before : List A
  pub entry : A
  pub after : List A
  pub is : xs ≡ before ++ entry ∷ after
  pub place : length before ≡ n

pub among : {A : Type 0} (xs : List A) (n : ℕ) → n < length xs → Among xs n
among [] n lt = absurd (omega (arith, lt))
among (x ∷ xs) zero lt = record { before = []; entry = x; after = xs; is = refl; place = refl }
among (x ∷ xs) (suc n) lt =
    let a = among xs n (omega (arith, lt)) in
    record { before = x ∷ a.before; entry = a.entry; after = a.after; is = ap (λ ys. x ∷ ys) a.is; place = ap suc a.place }

pub entry_there : {A : Type 0} (xs : List A) (x : A) (ys : List A) → slice_get (xs ++ x ∷ ys) (length xs) ≡ Some x
entry_there [] x ys = refl
entry_there (z ∷ xs) x ys = entry_there xs x ys

pub map_there : {A B : Type 0} (f : A → B) (xs : List A) (n : ℕ) (x : A) → slice_get xs n ≡ Some x → slice_get (map f xs) n ≡ Some (f x)
map_there f [] n x e = absurd (none-some x e)
map_there f (z ∷ xs) zero x e = ap (λ y. Some (f y)) (same_Some z x e)
map_there f (z ∷ xs) (suc n) x e = map_there f xs n x e

-- ---- one more component

abbrev process_made : SystemKind → (component initial : ℕ) → List Process
process_made system_kind.Process n i = process_at n i ∷ []
process_made _ n i = []

abbrev monitor_made : SystemKind → ℕ
monitor_made system_kind.Monitor = 1
monitor_made _ = 0

record Steps (c d : Listing) (k : SystemKind) (initial : ℕ) (image : List ℤ) (system : ℕ) : Type 0 where
  components : d.components ≡ c.components ++ component_with (next_kind c k initial).0 (length c.permanents) system ∷ []
  permanents : d.permanents ≡ c.permanents ++ image
  processes : d.processes ≡ c.processes ++ process_made k (length c.components) initial
  monitors : (m : ℕ) → c.monitors ≡ min m 255 → d.monitors ≡ min (m + monitor_made k) 255

one_step : (c : Listing) (k : SystemKind) (initial : ℕ) (image : List ℤ) (system : ℕ) → Steps c (with_component (next_kind c k initial).1 (next_kind c k initial).0 image system) k initial image system
one_step c system_kind.Process initial image system = record { components = refl; permanents = refl; processes = refl; monitors = λ m e. omega (arith, e) }
one_step c x initial image system = record { components = refl; permanents = refl; processes = sym (append-nil c.processes); monitors = λ m e. omega (arith, e) }

-- what only grows
pub record Grows (c d : Listing) : Type 0 where
  pub components : List Component
  pub processes : List Process
  pub permanents : List ℤ
  pub components_grow : d.components ≡ c.components ++ components
  pub processes_grow : d.processes ≡ c.processes ++ processes
  pub permanents_grow : d.permanents ≡ c.permanents ++ permanents

grows_trans : (b c d : Listing) → Grows b c → Grows c d → Grows b d
grows_trans b c d h i =
    record {
      components = h.components ++ i.components;
      processes = h.processes ++ i.processes;
      permanents = h.permanents ++ i.permanents;
      components_grow = i.components_grow ∙ ap (λ xs. xs ++ i.components) h.components_grow ∙ append_assoc b.components h.components i.components;
      processes_grow = i.processes_grow ∙ ap (λ xs. xs ++ i.processes) h.processes_grow ∙ append_assoc b.processes h.processes i.processes;
      permanents_grow = i.permanents_grow ∙ ap (λ xs. xs ++ i.permanents) h.permanents_grow ∙ append_assoc b.permanents h.permanents i.permanents;
    }

module _ (p : Program) where
  abbrev pub kind_at : ℕ → SystemKind
  kind_at n = (system_of p n).kind

  -- how many are monitors
  abbrev monitor_count : List Listed → ℕ
  monitor_count [] = 0
  monitor_count (x ∷ xs) = monitor_made (kind_at x.system) + monitor_count xs

  monitor_place : (i : ℕ) (xs : List Listed) (x : Listed) (ys : List Listed) → kind_at x.system ≡ system_kind.Monitor → slice_get (monitors_from i (map (first_component p) (xs ++ x ∷ ys))) (monitor_count xs) ≡ Some (i + length xs)
  monitor_place i [] x ys e = ap (λ k. slice_get (monitor_first k i (monitors_from (suc i) (map (first_component p) ys))) 0) e ∙ (let z : i ≡ i + 0 = omega arith in ap (λ n. Some n) z)
  monitor_place i (z ∷ xs) x ys e = go (kind_at z.system) (monitor_place (suc i) xs x ys e)
    where
      go : (k : SystemKind) → slice_get (monitors_from (suc i) (map (first_component p) (xs ++ x ∷ ys))) (monitor_count xs) ≡ Some (suc i + length xs) → slice_get (monitor_first k i (monitors_from (suc i) (map (first_component p) (xs ++ x ∷ ys)))) (monitor_made k + monitor_count xs) ≡ Some (i + suc (length xs))
      go system_kind.Monitor h = let e : 1 + monitor_count xs ≡ suc (monitor_count xs) = omega arith in let f : suc i + length xs ≡ i + suc (length xs) = omega arith in rw e (h ∙ ap (λ n. Some n) f)
      go system_kind.Process h = let e : 0 + monitor_count xs ≡ monitor_count xs = omega arith in let f : suc i + length xs ≡ i + suc (length xs) = omega arith in rw e (h ∙ ap (λ n. Some n) f)
      go system_kind.Class h = let e : 0 + monitor_count xs ≡ monitor_count xs = omega arith in let f : suc i + length xs ≡ i + suc (length xs) = omega arith in rw e (h ∙ ap (λ n. Some n) f)

  monitors_count : (i : ℕ) (xs : List Listed) → length (monitors_from i (map (first_component p) xs)) ≡ monitor_count xs
  monitors_count i [] = refl
  monitors_count i (x ∷ xs) = go (kind_at x.system) (monitors_count (suc i) xs)
    where
      go : (k : SystemKind) → length (monitors_from (suc i) (map (first_component p) xs)) ≡ monitor_count xs → length (monitor_first k i (monitors_from (suc i) (map (first_component p) xs))) ≡ monitor_made k + monitor_count xs
      go system_kind.Monitor h = omega (arith, h)
      go system_kind.Process h = omega (arith, h)
      go system_kind.Class h = omega (arith, h)

  module _ (ts : Compounds) (ss : List System) (o : Owned) (last : ℕ) where
    abbrev pub made : Listing → ℕ → Listing
    made c n = step p ts ss o last c n

    abbrev pub all_made : Listing → List Listed → Listing
    all_made c xs = steps p ts ss o last c xs

    stepped : (c : Listing) (n : ℕ) → Steps c (made c n) (kind_at n) (initial_at p ts ss o last n) (image_at p ts ss o last n) n
    stepped c n = one_step c (kind_at n) (initial_at p ts ss o last n) (image_at p ts ss o last n) n

    pub permanents_made : (c : Listing) (n : ℕ) → (made c n).permanents ≡ c.permanents ++ image_at p ts ss o last n
    permanents_made c n = (stepped c n).permanents

    pub all_grow : (c : Listing) (xs : List Listed) → Grows c (all_made c xs)
    all_grow c [] = record { components = []; processes = []; permanents = []; components_grow = sym (append-nil c.components); processes_grow = sym (append-nil c.processes); permanents_grow = sym (append-nil c.permanents) }
    all_grow c (x ∷ xs) =
        let s = stepped c x.system in
        grows_trans c (made c x.system) (all_made c (x ∷ xs)) (record { components = _; processes = _; permanents = _; components_grow = s.components; processes_grow = s.processes; permanents_grow = s.permanents }) (all_grow (made c x.system) xs)

    pub components_count : (c : Listing) (xs : List Listed) → length (all_made c xs).components ≡ length c.components + length xs
    components_count c [] = omega arith
    components_count c (x ∷ xs) =
        let a = components_count (made c x.system) xs in
        let e : length (made c x.system).components ≡ length c.components + 1 = ap (λ (ys : List Component). length ys) (stepped c x.system).components ∙ length-append c.components _ in
        omega (arith, a, e)

    monitors_same : (c : Listing) (m : ℕ) (xs : List Listed) → c.monitors ≡ min m 255 → (all_made c xs).monitors ≡ min (m + monitor_count xs) 255
    monitors_same c m [] e = let z : m + 0 ≡ m = omega arith in rw z e
    monitors_same c m (x ∷ xs) e =
        let z : m + monitor_made (kind_at x.system) + monitor_count xs ≡ m + (monitor_made (kind_at x.system) + monitor_count xs) = omega arith in
        subst (λ n. (all_made c (x ∷ xs)).monitors ≡ min n 255) z (monitors_same (made c x.system) (m + monitor_made (kind_at x.system)) xs ((stepped c x.system).monitors m e))

    -- processes stand for components of the same numbers
    abbrev AreProcesses : List Process → List named.Process → Type 0
    AreProcesses [] [] = Unit {0}
    AreProcesses (q ∷ qs) (r ∷ rs) = (q.component ≡ r.component) × AreProcesses qs rs
    AreProcesses [] (r ∷ rs) = ⊥
    AreProcesses (q ∷ qs) [] = ⊥

    abbrev named_made : SystemKind → ℕ → List named.Process
    named_made system_kind.Process n = unstarted_process n ∷ []
    named_made _ n = []

    made_first : (k : SystemKind) (n : ℕ) (rs : List named.Process) → process_first k n rs ≡ named_made k n ++ rs
    made_first system_kind.Process n rs = refl
    made_first _ n rs = refl

    made_same : (k : SystemKind) (n i : ℕ) → AreProcesses (process_made k n i) (named_made k n)
    made_same system_kind.Process n i = (refl, tt)
    made_same _ n i = tt

    processes_append : (as' bs : List Process) (cs ds : List named.Process) → AreProcesses as' cs → AreProcesses bs ds → AreProcesses (as' ++ bs) (cs ++ ds)
    processes_append [] bs [] ds h i = i
    processes_append (a ∷ as') bs (c ∷ cs) ds h i = (h.0, processes_append as' bs cs ds h.1 i)
    processes_append _ bs _ ds h i = absurd h

    processes_same : (c : Listing) (rs : List named.Process) (xs : List Listed) → AreProcesses c.processes rs → AreProcesses (all_made c xs).processes (rs ++ processes_from (length c.components) (map (first_component p) xs))
    processes_same c rs [] h = rw (append-nil rs) h
    processes_same c rs (x ∷ xs) h =
        let n : ℕ = length c.components in
        let d : Listing = made c x.system in
        let k : SystemKind = kind_at x.system in
        let rest : ℕ → List named.Process = λ m. processes_from m (map (first_component p) xs) in
        let one : length d.components ≡ suc n = ap (λ (ys : List Component). length ys) (stepped c x.system).components ∙ length-append c.components _ ∙ (let z : n + 1 ≡ suc n = omega arith in z) in
        let a : AreProcesses d.processes (rs ++ named_made k n) = subst (λ qs. AreProcesses qs (rs ++ named_made k n)) (sym (stepped c x.system).processes) (processes_append c.processes (process_made k n (initial_at p ts ss o last x.system)) rs (named_made k n) h (made_same k n (initial_at p ts ss o last x.system))) in
        let b : AreProcesses (all_made d xs).processes ((rs ++ named_made k n) ++ rest (length d.components)) = processes_same d (rs ++ named_made k n) xs a in
        subst (AreProcesses (all_made d xs).processes) (append_assoc rs (named_made k n) (rest (length d.components)) ∙ ap (λ m. rs ++ (named_made k n ++ rest m)) one ∙ ap (λ zs. rs ++ zs) (sym (made_first k n (rest (suc n))))) b

    -- ---- the tables

    module _ (r : Tables) where
      abbrev pub all : Listing
      all = all_made empty_listing (components_of p)

      -- the tables have what is listed
      pub record AreListed : Type 0 where
        pub components : r.components ≡ all.components
        pub processes : r.processes ≡ all.processes
        pub monitors : r.monitors ≡ all.monitors
        pub permanents : r.permanents ≡ all.permanents

      module _ (h : AreListed) where
        pub count_stands : length r.components ≡ length (first_components p)
        count_stands =
            let a = components_count empty_listing (components_of p) in
            let b : length r.components ≡ length all.components = ap (λ (ys : List Component). length ys) h.components in
            let c = length-map (components_of p) (first_component p) in
            omega (arith, a, b, c)

        few_monitors : r.monitors < 255 → r.monitors ≡ monitor_count (components_of p)
        few_monitors lt =
            let a = monitors_same empty_listing 0 (components_of p) (omega arith) in
            let b : r.monitors ≡ all.monitors = h.monitors in
            omega (arith, a, b, lt)

        pub monitor_count_stands : r.monitors < 255 → r.monitors ≡ length (monitors_of (opening p book_discipline))
        monitor_count_stands lt = few_monitors lt ∙ sym (monitors_count 0 (components_of p))

        -- ---- each component

        -- the component of a number, with those listed before it
        pub record Listing_at (n : ℕ) : Type 0 where
          pub among : Among (components_of p) n
          pub there : component_at r n ≡ component_with (next_kind (all_made empty_listing among.before) (kind_at among.entry.system) (initial_at p ts ss o last among.entry.system)).0 (length (all_made empty_listing among.before).permanents) among.entry.system
          pub named : named.component_at (first_components p) n ≡ first_component p among.entry
          pub grows : Grows (made (all_made empty_listing among.before) among.entry.system) all

        pub listing_at : (n : ℕ) → n < length r.components → Listing_at n
        listing_at n lt =
            let many : length r.components ≡ length (components_of p) = count_stands ∙ length-map (components_of p) (first_component p) in
            let a : Among (components_of p) n = among (components_of p) n (omega (arith, lt, many)) in
            let c : Listing = all_made empty_listing a.before in
            let d : Listing = made c a.entry.system in
            let whole : all ≡ all_made d a.after = ap (all_made empty_listing) a.is ∙ steps_append p ts ss o last empty_listing a.before (a.entry ∷ a.after) in
            let g : Grows d all = subst (Grows d) (sym whole) (all_grow d a.after) in
            let x : Component = component_with (next_kind c (kind_at a.entry.system) (initial_at p ts ss o last a.entry.system)).0 (length c.permanents) a.entry.system in
            let e : r.components ≡ c.components ++ x ∷ g.components = h.components ∙ g.components_grow ∙ ap (λ ys. ys ++ g.components) (stepped c a.entry.system).components ∙ append_assoc c.components (x ∷ []) g.components in
            let place : length c.components ≡ n = (let m = components_count empty_listing a.before in let l = a.place in omega (arith, m, l)) in
            let got : slice_get r.components n ≡ Some x = ap (λ j. slice_get r.components j) (sym place) ∙ ap (λ (ys : List Component). slice_get ys (length c.components)) e ∙ entry_there c.components x g.components in
            let listed : slice_get (components_of p) n ≡ Some a.entry = ap (λ j. slice_get (components_of p) j) (sym a.place) ∙ ap (λ (ys : List Listed). slice_get ys (length a.before)) a.is ∙ entry_there a.before a.entry a.after in
            record {
              among = a;
              there = entry_at r.components n no_component x got;
              named = entry_at (first_components p) n named.no_component (first_component p a.entry) (map_there (first_component p) (components_of p) n a.entry listed);
              grows = g;
            }

        pub system_stands : (n : ℕ) → n < length r.components → (component_at r n).system ≡ (named.component_at (first_components p) n).system
        system_stands n lt = let a = listing_at n lt in ap (λ (x : Component). x.system) a.there ∙ sym (ap (λ (x : named.Component). x.system) a.named)

        -- ---- the kinds

        count_append : (xs ys : List Listed) → monitor_count (xs ++ ys) ≡ monitor_count xs + monitor_count ys
        count_append [] ys = omega arith
        count_append (x ∷ xs) ys = let a = count_append xs ys in omega (arith, a)

        process_there : (c : Listing) (n number initial : ℕ) (rest : List Process) → length c.components ≡ n → r.processes ≡ (c.processes ++ process_at (length c.components) initial ∷ []) ++ rest → number ≡ length c.processes → (tables.process_at r number).component ≡ n
        process_there c n number initial rest place e is =
            let x : Process = process_at (length c.components) initial in
            let f : r.processes ≡ c.processes ++ x ∷ rest = e ∙ append_assoc c.processes (x ∷ []) rest in
            let got : slice_get r.processes number ≡ Some x = ap (λ j. slice_get r.processes j) is ∙ ap (λ (ys : List Process). slice_get ys (length c.processes)) f ∙ entry_there c.processes x rest in
            ap (λ (q : Process). q.component) (entry_at r.processes number tables.no_process x got) ∙ place

        pub kind_stands : length r.processes ≤ 255 → r.monitors < 255 → (n : ℕ) → n < length r.components → KindIs r p n (named.component_at (first_components p) n).kind (component_at r n).kind
        kind_stands few rare n lt =
            let l = listing_at n lt in
            let c : Listing = all_made empty_listing l.among.before in
            let k : SystemKind = kind_at l.among.entry.system in
            let i : ℕ = initial_at p ts ss o last l.among.entry.system in
            let place : length c.components ≡ n = (let m = components_count empty_listing l.among.before in let l = l.among.place in omega (arith, m, l)) in
            let ps : r.processes ≡ (c.processes ++ process_made k (length c.components) i) ++ l.grows.processes = h.processes ∙ l.grows.processes_grow ∙ ap (λ ys. ys ++ l.grows.processes) (stepped c l.among.entry.system).processes in
            rw (l.named, l.there) (go n l.among c k i l.grows.processes refl place ps (monitors_same empty_listing 0 l.among.before (omega arith)))
          where
            go : (n : ℕ) (a : Among (components_of p) n) (c : Listing) (k : SystemKind) (i : ℕ) (rest : List Process) → k ≡ kind_at a.entry.system → length c.components ≡ n → r.processes ≡ (c.processes ++ process_made k (length c.components) i) ++ rest → c.monitors ≡ min (0 + monitor_count a.before) 255 → KindIs r p n k (next_kind c k i).0
            go n a c system_kind.Class i rest e place ps ms = tt
            go n a c system_kind.Process i rest e place ps ms =
                let m : length r.processes ≡ length c.processes + 1 + length rest = ap (λ (ys : List Process). length ys) ps ∙ length-append (c.processes ++ _ ∷ []) rest ∙ ap (λ j. j + length rest) (length-append c.processes (_ ∷ [])) in
                process_there c n (byte (length c.processes)) i rest place ps (omega (arith, m, few))
            go n a c system_kind.Monitor i rest e place ps ms =
                let x : Listed = a.entry in
                let total : r.monitors ≡ monitor_count (components_of p) = few_monitors rare in
                let split : monitor_count (components_of p) ≡ monitor_count a.before + (monitor_made (kind_at x.system) + monitor_count a.after) = ap monitor_count a.is ∙ count_append a.before (x ∷ a.after) in
                let mine : c.monitors ≡ monitor_count a.before = omega (arith, ms, total, split, rare) in
                let got : slice_get (monitors_of (opening p book_discipline)) (monitor_count a.before) ≡ Some (0 + length a.before) = ap (λ ys. slice_get (monitors_from 0 (map (first_component p) ys)) (monitor_count a.before)) a.is ∙ monitor_place 0 a.before x a.after (sym e) in
                let l = a.place in
                ap (λ j. slice_index_or (monitors_of (opening p book_discipline)) j (length r.components)) mine ∙ entry_at (monitors_of (opening p book_discipline)) (monitor_count a.before) (length r.components) (0 + length a.before) got ∙ (let z : 0 + length a.before ≡ n = omega (arith, l) in z)

        -- ---- processes

        processes_even : (qs : List Process) (rs : List named.Process) → AreProcesses qs rs → length qs ≡ length rs
        processes_even [] [] e = refl
        processes_even (q ∷ qs) (s ∷ rs) e = ap suc (processes_even qs rs e.1)
        processes_even _ _ e = absurd e

        process_same : (qs : List Process) (rs : List named.Process) (n : ℕ) → n < length qs → AreProcesses qs rs → (slice_index_or qs n tables.no_process).component ≡ (slice_index_or rs n named.no_process).component
        process_same [] rs n lt e = absurd (omega (arith, lt))
        process_same (q ∷ qs) [] n lt e = absurd e
        process_same (q ∷ qs) (s ∷ rs) zero lt e = e.0
        process_same (q ∷ qs) (s ∷ rs) (suc n) lt e = process_same qs rs n (omega (arith, lt)) e.1

        -- the program itself runs from the start
        begun_same : (m : SystemMeaning) (qs : List Process) (rs : List named.Process) → AreProcesses qs (unstarted_process 0 ∷ rs) → AreProcesses qs (begun 0 m ∷ rs)
        begun_same m [] rs e = e
        begun_same m (q ∷ qs) rs e = e

        opening_processes : kind_at (program_system p) ≡ system_kind.Process → AreProcesses r.processes (opening p book_discipline).processes
        opening_processes e =
            let xs : List Listed = listed_variables (listed p (program_system p)) [] (system_of p (program_system p)).variables in
            let rest : List named.Process = processes_from 1 (map (first_component p) xs) in
            let a : AreProcesses all.processes (processes_from 0 (first_components p)) = processes_same empty_listing [] (components_of p) tt in
            let first : processes_from 0 (first_components p) ≡ unstarted_process 0 ∷ rest = ap (λ k. process_first k 0 rest) e in
            let b : AreProcesses r.processes (unstarted_process 0 ∷ rest) = rw h.processes (subst (AreProcesses all.processes) first a) in
            subst (λ ps. AreProcesses r.processes (own_begun p (first_components p) ps)) (sym first) (begun_same (system_of p (program_system p)) r.processes rest b)

        pub process_count_stands : kind_at (program_system p) ≡ system_kind.Process → length r.processes ≡ length (opening p book_discipline).processes
        process_count_stands e = processes_even r.processes (opening p book_discipline).processes (opening_processes e)

        pub process_stands : kind_at (program_system p) ≡ system_kind.Process → (q : ℕ) → q < length r.processes → (tables.process_at r q).component ≡ (named.process_at (opening p book_discipline).processes q).component
        process_stands e q lt = process_same r.processes (opening p book_discipline).processes q lt (opening_processes e)
