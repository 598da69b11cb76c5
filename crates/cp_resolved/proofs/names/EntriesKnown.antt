-- What is laid out of the headings of routines: each has its result, and each routine of a system type is found among its entries.
use Rattle.std.proofs.Common.{◌≡◌, ◌+◌, ◌<◌, ◌≤◌, ℕ, suc, Bool, true, false, ◌&&◌, if◌then◌else◌, nat_le, nat_lt, List, [], ◌∷◌, ◌++◌, length, Option, Some, None, slice_get, refl, sym, ap, subst, ◌∙◌, inl, inr, arith, append_assoc}
use Rattle.cp_resolved.proofs.Words.{◌⊎◌, bytes_eq, none-some, bytes_eq-Decides, FunctionResult, Compounds, entry_among, heading, with_heading, open_routine, routine, routines}
use Rattle.cp_resolved.proofs.Words.{constant_groups, Name, same_name, Ty, Scope, routine_meaning, find, since, routine_in, with_routines, routine_begun, Numbering}
use Rattle.cp_resolved.proofs.Words.{InStep, with_routine, routine_openings, AreOpened, ResultsAre, IsNoneOf, AreOnce}
use Rattle.std.proofs.lemmas.Bool.{le-leb, lt-leb, lt-ltb}
use Rattle.std.proofs.lemmas.List.{append-nil}
use Rattle.cp_tree.specs.Syntax as syntax
use Rattle.cp_layout.specs.Layers.{Layer, Heading, System}
use Rattle.cp_meaning.specs.Scopes as scopes
use Rattle.cp_meaning.specs.Declarations as meant
use Rattle.cp_resolved.proofs.laid.Declares.{heading_declares, local_parts_declare}
use Rattle.cp_resolved.proofs.names.Entries.{last_or_before}
use Rattle.cp_resolved.proofs.laid.Grown.{body_grew}
use Rattle.cp_resolved.proofs.names.Steps.{bytes_turned, type_grown}
use Rattle.cp_resolved.proofs.names.StepsOfParts.{Reached, constant_groups_reached}
use Rattle.cp_resolved.proofs.names.StepsOfTypes.{named_type_same}

-- ---- headings

-- the heading of a routine
abbrev pub heading_of : Layer → syntax.Routine → Heading
heading_of l r = (heading (open_routine l r.name.name).1 r.name.name r.kind).0

pub begun_headings : (l : Layer) (r : syntax.Routine) → (routine_begun l r).headings ≡ l.headings ++ heading_of l r ∷ []
begun_headings l r =
    let x : Layer = (open_routine l r.name.name).1 in
    let h = heading x r.name.name r.kind in
    ap (λ (j : Layer). j.headings) (local_parts_declare (with_heading h.1 h.0) r.parts).same ∙ ap (λ (j : Layer). j.headings ++ h.0 ∷ []) (heading_declares x r.name.name r.kind).same

pub routine_headings : (l : Layer) (r : syntax.Routine) → (routine l r).headings ≡ l.headings ++ heading_of l r ∷ []
routine_headings l r = ap (λ (j : Layer). j.headings) (body_grew (routine_begun l r) r.body.statements r.is_entry).1 ∙ begun_headings l r

abbrev pub headings_of : Layer → List syntax.Routine → List Heading
headings_of l [] = []
headings_of l (r ∷ rs) = heading_of l r ∷ headings_of (routine l r) rs

pub routines_headings : (l : Layer) (rs : List syntax.Routine) → (routines l rs).headings ≡ l.headings ++ headings_of l rs
unfolding routines
routines_headings l [] = sym (append-nil l.headings)
routines_headings l (r ∷ rs) = routines_headings (routine l r) rs ∙ ap (λ hs. hs ++ headings_of (routine l r) rs) (routine_headings l r) ∙ append_assoc l.headings (heading_of l r ∷ []) (headings_of (routine l r) rs)

heading_name : (l : Layer) (x : List ℕ) (r : syntax.RoutineKind) → (heading l x r).0.name ≡ x
unfolding heading
heading_name l x (syntax.procedure gs) = refl
heading_name l x (syntax.function gs i) = refl
heading_name l x syntax.invariants = refl

-- the headings have the names of the routines
abbrev pub AreNamed : List Heading → List syntax.Routine → Type 0
AreNamed [] [] = Unit {0}
AreNamed (h ∷ hs) (r ∷ rs) = (h.name ≡ r.name.name) × AreNamed hs rs
AreNamed [] (r ∷ rs) = ⊥
AreNamed (h ∷ hs) [] = ⊥

pub headings_named : (l : Layer) (rs : List syntax.Routine) → AreNamed (headings_of l rs) rs
headings_named l [] = tt
headings_named l (r ∷ rs) = (heading_name (open_routine l r.name.name).1 r.name.name r.kind, headings_named (routine l r) rs)

pub headings_count : (l : Layer) (rs : List syntax.Routine) → length (headings_of l rs) ≡ length rs
headings_count l [] = refl
headings_count l (r ∷ rs) = ap suc (headings_count (routine l r) rs)

-- ---- results

module _ (k : Numbering) where
  pub results_grown : (ts more : Compounds) (o : Option Ty) (f : Option FunctionResult) → ResultsAre k ts o f → ResultsAre k (ts ++ more) o f
  results_grown ts more None None h = tt
  results_grown ts more (Some t) (Some r) h = type_grown k ts more t r.value_type h
  results_grown ts more _ _ h = absurd h

  pub heading_result : (l : Layer) (s : Scope) (x : List ℕ) (r : syntax.RoutineKind) → InStep k l.types l.names s → ResultsAre k (heading l x r).1.types (meant.result_of (meant.heading_of s r).scope r) (heading l x r).0.result
  unfolding heading
  heading_result l s x (syntax.procedure gs) i = tt
  heading_result l s x (syntax.function gs j) i =
      let a : Reached k l (constant_groups l [] gs).1 (meant.with_groups scopes.local_variable (record { parameters = []; scope = s }) gs).scope [] = constant_groups_reached k l (record { parameters = []; scope = s }) [] gs i in
      named_type_same k (constant_groups l [] gs).1 (meant.with_groups scopes.local_variable (record { parameters = []; scope = s }) gs).scope j.name a.names
  heading_result l s x syntax.invariants i = tt

  abbrev pub HeadingsAre : Compounds → List Heading → Type 0
  HeadingsAre ts hs = (n : ℕ) (h : Heading) → slice_get hs n ≡ Some h → ResultsAre k ts (k.routines n).result h.result

  pub headings_grown : (ts more : Compounds) (hs : List Heading) → HeadingsAre ts hs → HeadingsAre (ts ++ more) hs
  headings_grown ts more hs a n h e = results_grown ts more (k.routines n).result h.result (a n h e)

  pub heading_added : (ts : Compounds) (hs : List Heading) (h : Heading) → HeadingsAre ts hs → ResultsAre k ts (k.routines (length hs)).result h.result → HeadingsAre ts (hs ++ h ∷ [])
  heading_added ts hs h a r n g e = go (last_or_before hs h n g e)
    where
      go : (slice_get hs n ≡ Some g) ⊎ ((n ≡ length hs) × (g ≡ h)) → ResultsAre k ts (k.routines n).result g.result
      go (inl f) = a n g f
      go (inr f) = rw (f.0, f.1) r

-- ---- entries

pub entry_longer : (s : System) (hs more : List Heading) (n : ℕ) (x : Name) (q : ℕ) → entry_among s hs n x ≡ Some q → entry_among s (hs ++ more) n x ≡ Some q
entry_longer s [] more n x q e = absurd (none-some q e)
entry_longer s (h ∷ hs) more n x q e = go (nat_le s.first n && (nat_lt n s.initial && bytes_eq h.name x)) (entry_longer s hs more (n + 1) x q) e
  where
    go : (b : Bool) → (entry_among s hs (n + 1) x ≡ Some q → entry_among s (hs ++ more) (n + 1) x ≡ Some q) → (if b then Some n else entry_among s hs (n + 1) x) ≡ Some q → (if b then Some n else entry_among s (hs ++ more) (n + 1) x) ≡ Some q
    go true rest f = f
    go false rest f = rest f

-- no heading before the first one of the system type counts
pub entry_skips : (s : System) (hs more : List Heading) (n : ℕ) (x : Name) → n + length hs ≤ s.first → entry_among s (hs ++ more) n x ≡ entry_among s more (n + length hs) x
entry_skips s [] more n x le = ap (λ i. entry_among s more i x) (let e : n ≡ n + 0 = omega arith in e)
entry_skips s (h ∷ hs) more n x le =
    let early : nat_le s.first n ≡ false = lt-leb s.first n (omega (arith, le)) in
    let e : n + 1 + length hs ≡ n + suc (length hs) = omega arith in
    ap (λ b. if b && (nat_lt n s.initial && bytes_eq h.name x) then Some n else entry_among s (hs ++ more) (n + 1) x) early
    ∙ entry_skips s hs more (n + 1) x (omega (arith, le))
    ∙ ap (λ i. entry_among s more i x) e

-- the name is none of the routines
none_found : (y : Name) (x : Name) (sc : Scope) (rs : List syntax.Routine) → y ≡ x → IsNoneOf x rs → (find y (with_routines sc rs) ≡ find y sc) × (since y (with_routines sc rs) ≡ since y sc)
none_found y x sc [] e h = (refl, refl)
none_found y x sc (r ∷ rs) e h =
    let w : same_name y r.name.name ≡ false = ap (λ z. same_name z r.name.name) e ∙ h.0 in
    let rest = none_found y x (with_routine sc r) rs e h.1 in
    (rest.0 ∙ ap (λ b. if b then Some (routine_meaning r) else find y sc) w, rest.1 ∙ ap (λ b. if b then with_routine sc r else since y sc) w)

module _ (k : Numbering) (s : System) (more : List Heading) (y : Name) where
  -- the routine of the name has its number
  pub record IsEntry (hs : List Heading) (n : ℕ) (scope : Scope) : Type 0 where
    pub number : ℕ
    pub routine : syntax.Routine
    pub there : entry_among s (hs ++ more) n y ≡ Some number
    pub found : find y scope ≡ Some (routine_meaning routine)
    pub same : k.routines number ≡ routine_in (since y scope) routine
    pub below : number < n + length hs

  abbrev pub EntryOr : List Heading → ℕ → Scope → Scope → Type 0
  EntryOr hs n before after = ((find y after ≡ find y before) × (since y after ≡ since y before)) ⊎ IsEntry hs n after

  first_entry : (h : Heading) (hs : List Heading) (n : ℕ) (sc : Scope) (r : syntax.Routine) (rs : List syntax.Routine) → s.first ≤ n → n < s.initial → h.name ≡ r.name.name → same_name y r.name.name ≡ true → IsNoneOf r.name.name rs → k.routines n ≡ routine_in (with_routine sc r) r → IsEntry (h ∷ hs) n (with_routines (with_routine sc r) rs)
  first_entry h hs n sc r rs low high named same none open_routine =
      let e : y ≡ r.name.name = (bytes_eq-Decides y r.name.name).0 same in
      let t : bytes_eq h.name y ≡ true = bytes_turned h.name y ∙ ap (same_name y) named ∙ same in
      let others = none_found y r.name.name (with_routine sc r) rs e none in
      let here : since y (with_routine sc r) ≡ with_routine sc r = ap (λ b. if b then with_routine sc r else since y sc) same in
      record {
        number = n;
        routine = r;
        there = ap (λ b. if b && (nat_lt n s.initial && bytes_eq h.name y) then Some n else entry_among s (hs ++ more) (n + 1) y) (le-leb s.first n low)
            ∙ ap (λ b. if b && bytes_eq h.name y then Some n else entry_among s (hs ++ more) (n + 1) y) (lt-ltb n s.initial high)
            ∙ ap (λ b. if b then Some n else entry_among s (hs ++ more) (n + 1) y) t;
        found = others.0 ∙ ap (λ b. if b then Some (routine_meaning r) else find y sc) same;
        same = open_routine ∙ ap (λ sc. routine_in sc r) (sym (others.1 ∙ here));
        below = omega arith;
      }

  never : (a b : Bool) → b ≡ false → (a && b) ≡ false
  never true b h = h
  never false b h = refl

  passed_entry : (h : Heading) (hs : List Heading) (n : ℕ) → bytes_eq h.name y ≡ false → entry_among s ((h ∷ hs) ++ more) n y ≡ entry_among s (hs ++ more) (n + 1) y
  passed_entry h hs n w = ap (λ b. if b then Some n else entry_among s (hs ++ more) (n + 1) y) (never (nat_le s.first n) (nat_lt n s.initial && bytes_eq h.name y) (never (nat_lt n s.initial) (bytes_eq h.name y) w))

  later_entry : (h : Heading) (hs : List Heading) (n : ℕ) (sc : Scope) (r : syntax.Routine) (after : Scope) → h.name ≡ r.name.name → same_name y r.name.name ≡ false → EntryOr hs (n + 1) (with_routine sc r) after → EntryOr (h ∷ hs) n sc after
  later_entry h hs n sc r after named other (inl e) =
      inl (e.0 ∙ ap (λ b. if b then Some (routine_meaning r) else find y sc) other, e.1 ∙ ap (λ b. if b then with_routine sc r else since y sc) other)
  later_entry h hs n sc r after named other (inr e) =
      let t : bytes_eq h.name y ≡ false = bytes_turned h.name y ∙ ap (same_name y) named ∙ other in
      let low : e.number < n + 1 + length hs = e.below in
      inr (record { number = e.number; routine = e.routine; there = passed_entry h hs n t ∙ e.there; found = e.found; same = e.same; below = omega (arith, low) })

  pub entries_found : (owner : ℕ) (hs : List Heading) (n : ℕ) (sc : Scope) (rs : List syntax.Routine) → s.first ≤ n → n + length rs ≤ s.initial → AreNamed hs rs → AreOnce rs → AreOpened k.routines n (routine_openings owner sc rs) → EntryOr hs n sc (with_routines sc rs)
  entries_found owner [] n sc [] low high named once open_routine = inl (refl, refl)
  entries_found owner (h ∷ hs) n sc (r ∷ rs) low high named once open_routine =
      let e : suc n ≡ n + 1 = omega arith in
      let next : AreOpened k.routines (n + 1) (routine_openings owner (with_routine sc r) rs) = subst (λ m. AreOpened k.routines m (routine_openings owner (with_routine sc r) rs)) e open_routine.1 in
      go (same_name y r.name.name) refl (entries_found owner hs (n + 1) (with_routine sc r) rs (omega (arith, low)) (omega (arith, high)) named.1 once.1 next)
    where
      go : (b : Bool) → same_name y r.name.name ≡ b → EntryOr hs (n + 1) (with_routine sc r) (with_routines (with_routine sc r) rs) → EntryOr (h ∷ hs) n sc (with_routines (with_routine sc r) rs)
      go true w rest = inr (first_entry h hs n sc r rs low (omega (arith, high)) named.0 w once.0 open_routine.0)
      go false w rest = later_entry h hs n sc r (with_routines (with_routine sc r) rs) named.0 w rest
  entries_found owner _ n sc _ low high named once open_routine = absurd named
