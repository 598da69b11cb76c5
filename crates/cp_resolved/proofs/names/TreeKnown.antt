-- The layouts of a tree know what stands where its statements begin.
use Rattle.std.proofs.Common.{◌≡◌, ◌+◌, ◌<◌, ◌≤◌, ℕ, zero, suc, Bool, true, false, if◌then◌else◌, List, [], ◌∷◌, length, Option, Some, None, slice_get, refl, sym, ap, subst, ◌∙◌, inl, inr, arith}
use Rattle.cp_resolved.proofs.Words.{◌⊎◌, none-some, same_Some, bytes_eq-Decides, PlaceOrigin, ArrayType, CellType, LayoutMeaning, array, Name, same_name, temporary, Ty}
use Rattle.cp_resolved.proofs.Words.{Scope, RoutineMeaning, Item, system_of, routine_of_type, all_begun, all_calls_laid, calls_before, Numbering, CellsAre, PartsAre}
use Rattle.cp_resolved.proofs.Words.{BoundIs, InStep, FoundIs, Knows, Here, frame_here, is_parameter, Opening, openings_of, meaning_in, meaning_at, numbering_of}
use Rattle.cp_tree.specs.Syntax as syntax
use Rattle.cp_slots.specs.declared.place.PlaceOrigin.TheVariants as origin
use Rattle.cp_symbols.specs.declared.kinds.CellType.TheVariants as types
use Rattle.cp_symbols.specs.declared.names.LayoutMeaning.TheVariants as meaning
use Rattle.cp_layout.specs.Layers as layers
use Rattle.cp_layout.specs.Layers.{Layer, Heading, System, result_of, result_in}
use Rattle.cp_layout.specs.LaidExpressions.{component_count, count_in}
use Rattle.cp_meaning.specs.Types as named
use Rattle.cp_meaning.specs.Scopes as scopes
use Rattle.cp_resolved.specs.LayoutsKnow.{IsPlaced, place_of, KnowsAt, LayoutsLaw}
use Rattle.cp_resolved.specs.Once.{IsOnce, IsWord, AreWords, AreSized, IsSized, IsSizedMeaning}
use Rattle.cp_resolved.specs.TreeLayouts.{all_parts, layer_or, parts_at, begun_at, whole_laid, origin_in, hidden_origin, slot_in, first_in, owner_in}
use Rattle.cp_resolved.specs.Used.{ResultsAre, system_type, EntryIs, KnowsCalls}
use Rattle.cp_resolved.proofs.names.BegunKnown.{Begins, AreBegun, all_begin}
use Rattle.cp_resolved.proofs.names.Entries.{there, still_there}
use Rattle.cp_resolved.proofs.names.Knowing.{IsThere}
use Rattle.cp_resolved.proofs.laid.Named.{IsMeaning, IsType, IsFound, found}
use Rattle.cp_resolved.proofs.names.Opened.{opened_all}
use Rattle.cp_resolved.proofs.names.Steps.{found_in}
use Rattle.cp_resolved.proofs.laid.Temporaries.{temporaries_next}

-- ---- what is found in a scope

pub local_sized : (x : Name) (t : Ty) (s : Scope) → AreSized s → scopes.find x s ≡ Some (scopes.local_variable t) → IsSized t
local_sized x t s h e = subst IsSizedMeaning e (h x)

pub permanent_sized : (x : Name) (t : Ty) (s : Scope) → AreSized s → scopes.find x s ≡ Some (scopes.permanent_variable t) → IsSized t
permanent_sized x t s h e = subst IsSizedMeaning e (h x)

-- no name that is no word is declared
pub undeclared_name : (x : Name) (s : Scope) → (IsWord x → ⊥) → AreWords s → scopes.find x s ≡ None
undeclared_name x [] bad h = refl
undeclared_name x (d ∷ ds) bad h = go (same_name x d.0) refl (undeclared_name x ds bad h.1)
  where
    go : (b : Bool) → same_name x d.0 ≡ b → scopes.find x ds ≡ None → (if b then Some d.1 else scopes.find x ds) ≡ None
    go true e rest = absurd (bad (subst IsWord (sym ((bytes_eq-Decides x d.0).0 e)) h.0))
    go false e rest = rest

module _ (t : syntax.Tree) (place : IsPlaced t) (n : ℕ) (l : Layer) (o : Opening) (at : slice_get (all_begun t) n ≡ Some l) (opening : slice_get (openings_of t.program) n ≡ Some o)
    (b : Begins (numbering_of t.program) t.program place.once (all_parts t) (whole_laid t) l o) where
  abbrev k : Numbering
  k = numbering_of t.program

  abbrev h : Here
  h = place_of t n

  pub begun_is : begun_at t n ≡ l
  begun_is = ap (layer_or (layers.nothing_laid t.lines)) at

  meaning_is : meaning_at t.program n ≡ o.meaning
  meaning_is = ap (meaning_in _) opening

  pub owner_is : h.system ≡ o.owner
  owner_is = ap (owner_in _) opening

  parts_is : parts_at t h.system ≡ b.around
  parts_is = ap (parts_at t) owner_is ∙ ap (layer_or (layers.nothing_laid t.lines)) b.outer.there

  scope_is : h.scope ≡ o.meaning.scope
  scope_is = ap (λ (m : RoutineMeaning). m.scope) meaning_is

  -- ---- names

  frame_is : (x : Name) (p : PlaceOrigin) (v : CellType) → layers.find x l.names ≡ Some (meaning.Variable p v) → (frame_here h).origins x ≡ p
  frame_is x p v e =
      let other : PlaceOrigin = hidden_origin (begun_at t n) (all_calls_laid (meaning_at t.program n).scope (meaning_at t.program n).body) x in
      ap (λ (m : Layer). origin_in other (layers.find x m.names)) begun_is ∙ ap (origin_in other) e

  in_system : (A : Type 0) (f : Option LayoutMeaning → A) (x : Name) (m : LayoutMeaning) → layers.find x b.around.names ≡ Some m → f (layers.find x (parts_at t h.system).names) ≡ f (Some m)
  in_system A f x m e = ap (λ (q : Layer). f (layers.find x q.names)) parts_is ∙ ap f e

  parameter_is : (x : Name) (c : Bool) → is_parameter x (system_of t.program o.owner).parameters ≡ c → is_parameter x (system_of t.program h.system).parameters ≡ c
  parameter_is x c e = ap (λ j. is_parameter x (system_of t.program j).parameters) owner_is ∙ e

  count_is : (number c : ℕ) (a : ArrayType) → slice_get l.types number ≡ Some (array a) → a.element ≡ types.System c → component_count l c ≡ component_count (whole_laid t) c
  count_is number c a e f =
      let low : c < length l.systems = subst (IsType (length l.systems)) f (b.knowing.named.types number (array a) e) in
      let s : (s : System) × (slice_get l.systems c ≡ Some s) = there l.systems c low in
      ap count_in s.1 ∙ sym (ap count_in (ap (λ ss. slice_get ss c) b.systems.1 ∙ still_there l.systems b.systems.0 c s.0 s.1))

  knows : Knows k h l
  knows =
      record {
        names = subst (InStep k l.types l.names) (sym scope_is) b.names;
        frame = λ x p v e i. frame_is x p v e;
        slot = λ x i v e. in_system ℕ slot_in x (meaning.Variable (origin.Permanent i) v) (b.under x _ tt e);
        first = λ x i v e. (in_system ℕ first_in x (meaning.Contained i v) (b.under x _ tt e), parameter_is x false (b.outer.first x i v (b.under x _ tt e)));
        bound = λ x i c e. (in_system ℕ slot_in x (meaning.Bound i c) (b.under x _ tt e), parameter_is x true (b.outer.bound x i c (b.under x _ tt e)));
        count = count_is;
        local = λ x u e. subst IsSizedMeaning e (place.sized n x);
        permanent = λ x u e. subst IsSizedMeaning e (place.sized n x);
      }

  -- ---- calls

  result_known : (number : ℕ) → number < length l.headings → ResultsAre k l.types (k.routines number).result (result_of l number)
  result_known number low =
      let g : (g : Heading) × (slice_get l.headings number ≡ Some g) = there l.headings number low in
      subst (λ q. ResultsAre k l.types (k.routines number).result (result_in q)) (sym g.1) (b.knowing.headings number g.0 g.1)

  pub found_known : (x : Name) (m : LayoutMeaning) → layers.find x l.names ≡ Some m → IsMeaning (length l.systems) (length l.routines) m
  found_known x m e = subst (IsFound (length l.systems) (length l.routines)) e (found (length l.systems) (length l.routines) x l.names b.knowing.named.names)

  own_known : (x : Name) (number : ℕ) → layers.find x l.names ≡ Some (meaning.Routine number) → ResultsAre k l.types (k.routines number).result (result_of l number)
  own_known x number e =
      let low : number ≤ length l.routines = found_known x (meaning.Routine number) e in
      result_known number (omega (arith, low, b.count))

  abbrev IsPart : Ty → LayoutMeaning → Type 0
  IsPart u m = CellsAre k l.types u m ⊎ (PartsAre k l.types u m ⊎ BoundIs u m)

  component_low : (j : ℕ) (m : LayoutMeaning) → IsMeaning (length l.systems) (length l.routines) m → IsPart (named.component_of j) m → j < length l.systems
  component_low j m i (inl v) = absurd (let w : true ≡ false = v.without in cc)
  component_low j m i (inr (inl v)) = subst (IsType (length l.systems)) v.belongs (subst (IsMeaning (length l.systems) (length l.routines)) v.is i)
  component_low j m i (inr (inr v)) =
      let low : v.system < length l.systems = subst (IsMeaning (length l.systems) (length l.routines)) v.is i in
      subst (λ c. c < length l.systems) (let w : named.component_of j ≡ named.component_of v.system = v.component in let e : v.system ≡ j = cc in e) low

  array_low : (r : named.Range) (j : ℕ) (m : LayoutMeaning) → IsPart (named.array_over r (named.component_of j)) m → j < length l.systems
  array_low r j m (inl v) = absurd (let w : true ≡ false = v.without in cc)
  array_low r j m (inr (inl v)) = subst (IsType (length l.systems)) v.belongs.belongs (b.knowing.named.types v.belongs.number _ v.belongs.there)
  array_low r j m (inr (inr v)) = absurd (let w : named.array_over r (named.component_of j) ≡ named.component_of v.system = v.component in cc)

  abbrev pub LowBy : Ty → Type 0
  LowBy u = (j : ℕ) → (u ≡ named.component_of j) ⊎ ((r : named.Range) × (u ≡ named.array_over r (named.component_of j))) → j < length l.systems

  part_low : (u : Ty) (m : LayoutMeaning) → IsMeaning (length l.systems) (length l.routines) m → IsPart u m → LowBy u
  part_low u m i v j (inl e) = component_low j m i (subst (λ w. IsPart w m) e v)
  part_low u m i v j (inr e) = array_low e.0 j m (subst (λ w. IsPart w m) e.1 v)

  found_low : (x : Name) (u : Ty) (q : Option LayoutMeaning) (s : Scope) → layers.find x l.names ≡ q → FoundIs k l.types q (Some (scopes.permanent_variable u)) s → LowBy u
  found_low x u None s e f = absurd f
  found_low x u (Some m) s e f = part_low u m (found_known x m e) f

  pub variable_low : (x : Name) (u : Ty) → scopes.find x h.scope ≡ Some (scopes.permanent_variable u) → LowBy u
  variable_low x u e =
      found_low x u (layers.find x l.names) (scopes.since x h.scope) refl (subst (λ q. FoundIs k l.types (layers.find x l.names) q (scopes.since x h.scope)) e (found_in k l.types x l.names h.scope knows.names))

  entry_there : (j : ℕ) (y : Name) (r : RoutineMeaning) → j < length l.systems → routine_of_type t.program (named.component_of j) y ≡ Some r → EntryIs k l j y r
  entry_there j y r low f =
      let e : IsThere k t.program l j y r = b.knowing.entries j y r low f in
      record { number = e.number; there = e.there; result = subst (λ (q : RoutineMeaning). ResultsAre k l.types q.result (result_of l e.number)) e.same (result_known e.number e.below) }

  entry_known : (u : Ty) (y : Name) (r : RoutineMeaning) → LowBy u → routine_of_type t.program u y ≡ Some r → EntryIs k l (system_type u) y r
  entry_known (named.component_of j) y r low f = entry_there j y r (low j (inl refl)) f
  entry_known (named.array_over s (named.component_of j)) y r low f = entry_there j y r (low j (inr (s, refl))) f
  entry_known _ y r low f = absurd (none-some r f)

  knows_calls : KnowsCalls k h l
  knows_calls = record { own = own_known; entry = λ x y u r e f. entry_known u y r (variable_low x u e) f }

  -- ---- temporary names

  abbrev calls : List Item
  calls = all_calls_laid (meaning_at t.program n).scope (meaning_at t.program n).body

  undeclared : (c : ℕ) (q : Option LayoutMeaning) (s : Scope) → FoundIs k l.types q None s → q ≡ None
  undeclared c None s f = refl
  undeclared c (Some m) s f = absurd f

  temporary_is : (c : ℕ) → (frame_here h).origins (temporary c) ≡ origin.Local (length l.frame.image + calls_before c calls)
  temporary_is c =
      let none : scopes.find (temporary c) h.scope ≡ None = undeclared_name (temporary c) (meaning_at t.program n).scope (λ i. i) (place.words n) in
      let gone : layers.find (temporary c) l.names ≡ None = undeclared c (layers.find (temporary c) l.names) (scopes.since (temporary c) h.scope) (subst (λ q. FoundIs k l.types (layers.find (temporary c) l.names) q (scopes.since (temporary c) h.scope)) none (found_in k l.types (temporary c) l.names h.scope knows.names)) in
      ap (λ (m : Layer). origin_in (hidden_origin m calls (temporary c)) (layers.find (temporary c) m.names)) begun_is ∙ ap (origin_in (origin.Local (length l.frame.image + calls_before c calls))) gone

  known_at : KnowsAt t n l
  known_at = record { names = knows; calls = knows_calls; next = temporaries_next h (length l.frame.image) calls (place.apart n) (λ c i. temporary_is c) }

-- ---- all routines and initial statements

pub record Opens (k : Numbering) (t : syntax.Tree) (once : IsOnce t.program) (os : List Opening) (n : ℕ) (l : Layer) : Type 0 where
  pub opening : Opening
  pub there : slice_get os n ≡ Some opening
  pub begins : Begins k t.program once (all_parts t) (whole_laid t) l opening

pub opens_at : (k : Numbering) (t : syntax.Tree) (once : IsOnce t.program) (ls : List Layer) (os : List Opening) (n : ℕ) (l : Layer) → AreBegun k t.program once (all_parts t) (whole_laid t) ls os → slice_get ls n ≡ Some l → Opens k t once os n l
opens_at k t once [] os n l h e = absurd (none-some l e)
opens_at k t once (m ∷ ls) [] n l h e = absurd h
opens_at k t once (m ∷ ls) (o ∷ os) zero l h e = record { opening = o; there = refl; begins = subst (λ j. Begins k t.program once (all_parts t) (whole_laid t) j o) (same_Some m l e) h.0 }
opens_at k t once (m ∷ ls) (o ∷ os) (suc n) l h e =
    let w = opens_at k t once ls os n l h.1 e in
    record { opening = w.opening; there = w.there; begins = w.begins }

-- the routine of a number, and what is known where its statements begin
pub opens_of : (t : syntax.Tree) (place : IsPlaced t) (n : ℕ) (l : Layer) → slice_get (all_begun t) n ≡ Some l → Opens (numbering_of t.program) t place.once (openings_of t.program) n l
opens_of t place n l e =
    let k : Numbering = numbering_of t.program in
    let all : AreBegun k t.program place.once (all_parts t) (whole_laid t) (all_begun t) (openings_of t.program) = all_begin k t place.once place.plain.small place.plain.fit place.plain.numbered (opened_all t.program) in
    opens_at k t place.once (all_begun t) (openings_of t.program) n l all e

pub layouts_law : LayoutsLaw
layouts_law t place n l e =
    let w : Opens (numbering_of t.program) t place.once (openings_of t.program) n l = opens_of t place n l e in
    known_at t place n l w.opening e w.there w.begins
