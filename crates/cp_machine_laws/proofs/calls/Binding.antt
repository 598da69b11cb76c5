-- The frame of a call, as its parameters are bound: each variable lies in its cells, and each `var` parameter has its place.
use Rattle.std.proofs.Common.{◌≡◌, ◌≢◌, ◌∙◌, ℕ, ◌+◌, ◌^◌, ◌<◌, ◌≤◌, ◌⊎◌, inl, inr, true, false, List, [], ◌∷◌, Some, ap, sym, refl, subst, arith, length, length-set}
use Rattle.cp_machine_laws.proofs.Words.{pos, slice_index_or, Argument, Tables, Bound, Address, Permanent, Local, Frame, reference_at, Name, same_name, Ty, Value, Parameter}
use Rattle.cp_machine_laws.proofs.Words.{Content, holds, refers, knows, Environment, encode, IsOther, AreDifferent, LiesAt, PlaceAt, onward_is, cells_of, Layouts, FrameLayout}
use Rattle.cp_machine_laws.proofs.Words.{cell_named, look, AreApart, ParameterIs, ParametersAre}
use Rattle.cp_store.specs.declared.argument.Bound.TheVariants.{Copy, Reference, Component}
use Rattle.cp_store.specs.Arguments.{put_value, put_in_frame, bind_frame}
use Rattle.cp_store.specs.Memory.{Memory, nowhere, onward, put_reference}
use Rattle.cp_machine_laws.specs.Given.{PutsBlock, IsValue, Keeps, IsApartFrom, GivesValue, IsBound, AreBound}
use Rattle.cp_machine_laws.proofs.control.Moving.{set_here, set_there}
use Rattle.cp_machine_laws.proofs.expressions.Parts.{encode_length}

-- what is put as a value
put_is : (m mem : Memory) (f : Frame) (slot : ℕ) (b : Bound) → IsValue m b → put_in_frame mem f slot b ≡ put_value mem (Local (onward f.base slot)) b
put_is m mem f slot (Reference a) h = absurd h
put_is m mem f slot (Component n) h = absurd h
put_is m mem f slot _ h = refl

-- the layout and the frame of the call: its cells come after those that the process had, and so do its references
module _ (r : Tables) (l : Layouts) (fs : List Frame) (lay : FrameLayout) (m : Memory) (f : Frame) (size count : ℕ) (base_is : f.base ≡ length m.cells) (first_is : f.references ≡ length m.references)
    (cells : (x : Name) (t : Ty) → look x lay.variables ≡ Some t → cell_named lay x + cells_of t ≤ size) (apart : AreApart (cell_named lay) lay.variables)
    (numbered : (x : Name) (t : Ty) → look x lay.references ≡ Some t → cell_named lay x < count)
    (different : (x y : Name) (t u : Ty) → same_name x y ≡ false → look x lay.references ≡ Some t → look y lay.references ≡ Some u → cell_named lay x ≡ cell_named lay y → ⊥)
    (few : f.base + size < 2 ^ 64) (few_permanents : length m.permanents < 2 ^ 64) (few_references : f.references + count < 2 ^ 64) where
  -- while parameters are bound, all that was there before stays as it was
  pub record Binds (n : Memory) : Type 0 where
    pub permanents : n.permanents ≡ m.permanents
    pub below : (k : ℕ) → k < f.base → slice_index_or n.cells k (pos 0) ≡ slice_index_or m.cells k (pos 0)
    pub before : (k : ℕ) → k < f.references → reference_at n.references k ≡ reference_at m.references k
    pub many : length n.cells ≡ f.base + size
    pub places : length n.references ≡ f.references + count

  abbrev pub cell_of : Parameter → ℕ
  cell_of q = f.base + cell_named lay q.name

  abbrev pub number_of : Parameter → ℕ
  number_of q = f.references + cell_named lay q.name

  local_is : (a b : ℕ) → Local a ≡ Local b → a ≡ b
  local_is a b e = cc

  keeps : (n : Memory) → Binds n → (b : Bound) → IsValue m b → Keeps m n b
  keeps n i (Copy (Permanent from) size) h = λ k less. ap (λ xs. slice_index_or xs (from + k) (pos 0)) i.permanents
  keeps n i (Copy (Local from) size) h = λ k less. i.below (from + k) (let e = base_is in omega (arith, e, h, less))
  keeps n i _ h = tt

  source_apart : (slot cells : ℕ) (b : Bound) → IsValue m b → IsApartFrom (Local (f.base + slot)) cells b
  source_apart slot cells (Copy (Permanent from) size) h = λ j k less fewer e. absurd (cc)
  source_apart slot cells (Copy (Local from) size) h = λ j k less fewer e. (let d = local_is (f.base + slot + j) (from + k) e in let b = base_is in omega (arith, d, b, h, less, fewer))
  source_apart slot cells _ h = tt

  -- ---- one parameter

  value_put : (q : Parameter) (w : Value) (b : Bound) (slot : ℕ) (n : Memory) → slot ≡ cell_named lay q.name → Binds n → look q.name lay.variables ≡ Some q.ty → GivesValue m q.ty w b → PutsBlock n (put_in_frame n f slot b) (Local (cell_of q)) (encode w)
  value_put q w b slot n same i known gives =
      let inside = cells q.name q.ty known in
      let at : onward f.base slot ≡ cell_of q = ap (onward f.base) same ∙ onward_is f.base (cell_named lay q.name) (let a = few in omega (arith, a, inside)) in
      subst (λ k. PutsBlock n k (Local (cell_of q)) (encode w)) (sym (put_is m n f slot b gives.value ∙ ap (λ a. put_value n (Local a) b) at))
      (gives.puts n (Local (cell_of q)) (keeps n i b gives.value) (ap length i.permanents) (let e = i.many in let d = base_is in omega (arith, e, d))
      (record { permanents = subst (λ xs. length xs < 2 ^ 64) (sym i.permanents) few_permanents; cells = (let e = i.many in let a = few in omega (arith, e, a)); references = (let e = i.places in let a = few_references in omega (arith, e, a)) })
      (let e = i.many in omega (arith, e, inside)) (source_apart (cell_named lay q.name) (cells_of q.ty) b gives.value))

  value_binds : (q : Parameter) (w : Value) (n n2 : Memory) → Binds n → PutsBlock n n2 (Local (cell_of q)) (encode w) → Binds n2
  value_binds q w n n2 i put =
      record {
        permanents = put.others ∙ i.permanents;
        below = λ k less. put.there (Local k) (λ j small e. (let d = local_is k (cell_of q + j) e in omega (arith, d, less))) ∙ i.below k less;
        before = λ k less. ap (λ rs. reference_at rs k) put.references ∙ i.before k less;
        many = put.cells ∙ i.many;
        places = ap length put.references ∙ i.places;
      }

  place_binds : (q : Parameter) (a : Address) (n : Memory) → Binds n → Binds (put_reference n (number_of q) a)
  place_binds q a n i =
      record {
        permanents = i.permanents;
        below = i.below;
        before = λ k less. set_there n.references (number_of q) k a nowhere (λ e. omega (arith, e, less)) ∙ i.before k less;
        many = i.many;
        places = length-set n.references (number_of q) a ∙ i.places;
      }

  place_put : (q : Parameter) (a : Address) (slot : ℕ) (n : Memory) → slot ≡ cell_named lay q.name → look q.name lay.references ≡ Some q.ty → put_in_frame n f slot (Reference a) ≡ put_reference n (number_of q) a
  place_put q a slot n same known = ap (λ k. put_reference n k a) (ap (onward f.references) same ∙ onward_is f.references (cell_named lay q.name) (let b = few_references in let c = numbered q.name q.ty known in omega (arith, b, c)))

  variable_of : (q : Parameter) → q.is_var ≡ false → ParameterIs lay q.is_var q → look q.name lay.variables ≡ Some q.ty
  variable_of q e h = subst (λ b. ParameterIs lay b q) e h

  reference_of : (q : Parameter) → q.is_var ≡ true → ParameterIs lay q.is_var q → look q.name lay.references ≡ Some q.ty
  reference_of q e h = subst (λ b. ParameterIs lay b q) e h

  -- the cells and the references that are not those of a parameter
  abbrev IsFreeCell : Parameter → Content → ℕ → Type 0
  IsFreeCell q (holds w) k = (j : ℕ) → j < cells_of q.ty → cell_of q + j ≢ k
  IsFreeCell q c k = Unit {0}

  abbrev IsFreePlace : Parameter → Content → ℕ → Type 0
  IsFreePlace q (refers x) k = number_of q ≢ k
  IsFreePlace q c k = Unit {0}

  -- the parameter has what it was bound to
  abbrev pub OneLies : Memory → Parameter → Content → Type 0
  OneLies n q (holds w) = LiesAt n q.ty w (Local (cell_of q))
  OneLies n q (refers x) = PlaceAt r l fs x q.ty (reference_at n.references (number_of q))
  OneLies n q (knows c) = ⊥

  pub record OneBound (q : Parameter) (c : Content) (n n2 : Memory) : Type 0 where
    pub binds : Binds n2
    pub cell : (k : ℕ) → IsFreeCell q c k → slice_index_or n2.cells k (pos 0) ≡ slice_index_or n.cells k (pos 0)
    pub place : (k : ℕ) → IsFreePlace q c k → reference_at n2.references k ≡ reference_at n.references k
    pub lies : OneLies n2 q c

  one_bound : (q : Parameter) (c : Content) (b : Bound) (slot : ℕ) (n : Memory) → slot ≡ cell_named lay q.name → Binds n → ParameterIs lay q.is_var q → IsBound r l fs m q c b → OneBound q c n (put_in_frame n f slot b)
  one_bound q (holds w) b slot n same i h is =
      let known = variable_of q is.0 h in
      let put = value_put q w b slot n same i known is.1 in
      let binds = value_binds q w n (put_in_frame n f slot b) i put in
      let len = encode_length q.ty w is.1.typed in
      record {
        binds = binds;
        cell = λ k free. put.there (Local k) (λ j small e. free j (omega (arith, small, len)) (sym (local_is k (cell_of q + j) e)));
        place = λ k free. ap (λ rs. reference_at rs k) put.references;
        lies = record {
          typed = is.1.typed;
          cells = (let e = binds.many in let d = cells q.name q.ty known in omega (arith, e, d));
          block = put.here;
        };
      }
  one_bound q (refers x) (Reference a) slot n same i h is =
      let known = reference_of q is.0 h in
      let put = place_put q a slot n same known in
      subst (λ k. OneBound q (refers x) n k) (sym put)
      (record {
        binds = place_binds q a n i;
        cell = λ k free. refl;
        place = λ k free. set_there n.references (number_of q) k a nowhere (λ e. free (sym e));
        lies = subst (λ b. PlaceAt r l fs x q.ty b) (sym (set_here n.references (number_of q) a nowhere (let e = i.places in let d = numbered q.name q.ty known in omega (arith, e, d)))) is.1;
      })
  one_bound q c b slot n same i h is = absurd is

  -- ---- all parameters

  abbrev AreFreeCells : List Parameter → Environment → ℕ → Type 0
  AreFreeCells [] e k = Unit {0}
  AreFreeCells (q ∷ qs) [] k = Unit {0}
  AreFreeCells (q ∷ qs) (d ∷ e) k = IsFreeCell q d.1 k × AreFreeCells qs e k

  abbrev AreFreePlaces : List Parameter → Environment → ℕ → Type 0
  AreFreePlaces [] e k = Unit {0}
  AreFreePlaces (q ∷ qs) [] k = Unit {0}
  AreFreePlaces (q ∷ qs) (d ∷ e) k = IsFreePlace q d.1 k × AreFreePlaces qs e k

  abbrev pub AllLie : Memory → List Parameter → Environment → Type 0
  AllLie n [] e = Unit {0}
  AllLie n (q ∷ qs) [] = Unit {0}
  AllLie n (q ∷ qs) (d ∷ e) = OneLies n q d.1 × AllLie n qs e

  abbrev Given : List Parameter → Environment → List Argument → List Bound → Type 0
  Given qs e xs bs = AreBound r l fs m (cell_named lay) qs e xs bs

  -- the cells of a variable of another name are none of theirs
  free_cell : (x : Name) (t : Ty) (i : ℕ) (q : Parameter) (c : Content) (b : Bound) → look x lay.variables ≡ Some t → i < cells_of t → same_name x q.name ≡ false → ParameterIs lay q.is_var q → IsBound r l fs m q c b → IsFreeCell q c (f.base + cell_named lay x + i)
  free_cell x t i q (holds w) b known less other h is = λ j small e. side j small e (apart x q.name t q.ty other known (variable_of q is.0 h))
    where
      side : (j : ℕ) → j < cells_of q.ty → cell_of q + j ≡ f.base + cell_named lay x + i → (cell_named lay x + cells_of t ≤ cell_named lay q.name) ⊎ (cell_named lay q.name + cells_of q.ty ≤ cell_named lay x) → ⊥
      side j small e (inl o) = omega (arith, small, e, less, o)
      side j small e (inr o) = omega (arith, small, e, less, o)
  free_cell x t i q _ b known less other h is = tt

  pub free_cells : (x : Name) (t : Ty) (i : ℕ) (qs : List Parameter) (e : Environment) (xs : List Argument) (bs : List Bound) → look x lay.variables ≡ Some t → i < cells_of t → IsOther x qs → ParametersAre lay qs → Given qs e xs bs → AreFreeCells qs e (f.base + cell_named lay x + i)
  free_cells x t i (q ∷ qs) (d ∷ e) [] bs known less other h is = absurd is
  free_cells x t i (q ∷ qs) (d ∷ e) (y ∷ xs) [] known less other h is = absurd is
  free_cells x t i (q ∷ qs) (d ∷ e) (y ∷ xs) (b ∷ bs) known less other h is = (free_cell x t i q d.1 b known less other.0 h.0 is.2, free_cells x t i qs e xs bs known less other.1 h.1 is.3)
  free_cells x t i _ _ xs bs known less other h is = tt

  free_place : (x : Name) (t : Ty) (q : Parameter) (c : Content) (b : Bound) → look x lay.references ≡ Some t → same_name x q.name ≡ false → ParameterIs lay q.is_var q → IsBound r l fs m q c b → IsFreePlace q c (f.references + cell_named lay x)
  free_place x t q (refers y) (Reference a) known other h is = λ e. different x q.name t q.ty other known (reference_of q is.0 h) (omega (arith, e))
  free_place x t q (refers y) b known other h is = absurd is
  free_place x t q _ b known other h is = tt

  free_places : (x : Name) (t : Ty) (qs : List Parameter) (e : Environment) (xs : List Argument) (bs : List Bound) → look x lay.references ≡ Some t → IsOther x qs → ParametersAre lay qs → Given qs e xs bs → AreFreePlaces qs e (f.references + cell_named lay x)
  free_places x t (q ∷ qs) (d ∷ e) [] bs known other h is = absurd is
  free_places x t (q ∷ qs) (d ∷ e) (y ∷ xs) [] known other h is = absurd is
  free_places x t (q ∷ qs) (d ∷ e) (y ∷ xs) (b ∷ bs) known other h is = (free_place x t q d.1 b known other.0 h.0 is.2, free_places x t qs e xs bs known other.1 h.1 is.3)
  free_places x t _ _ xs bs known other h is = tt

  pub record AllBound (qs : List Parameter) (e : Environment) (n n2 : Memory) : Type 0 where
    pub binds : Binds n2
    pub cell : (k : ℕ) → AreFreeCells qs e k → slice_index_or n2.cells k (pos 0) ≡ slice_index_or n.cells k (pos 0)
    pub place : (k : ℕ) → AreFreePlaces qs e k → reference_at n2.references k ≡ reference_at n.references k
    pub lies : AllLie n2 qs e

  -- what was bound first stays
  stays_bound : (q : Parameter) (c : Content) (b : Bound) (qs : List Parameter) (e : Environment) (xs : List Argument) (bs : List Bound) (n n2 : Memory) → ParameterIs lay q.is_var q → IsBound r l fs m q c b → IsOther q.name qs → ParametersAre lay qs → Given qs e xs bs → AllBound qs e n n2 → OneLies n q c → OneLies n2 q c
  stays_bound q (holds w) b qs e xs bs n n2 h is other hs are all one =
      let known = variable_of q is.0 h in
      let len = encode_length q.ty w one.typed in
      record {
        typed = one.typed;
        cells = (let d = all.binds.many in let c = cells q.name q.ty known in omega (arith, d, c));
        block = λ k less. all.cell (cell_of q + k) (free_cells q.name q.ty k qs e xs bs known (omega (arith, less, len)) other hs are) ∙ one.block k less;
      }
  stays_bound q (refers x) (Reference a) qs e xs bs n n2 h is other hs are all one =
      subst (λ w. PlaceAt r l fs x q.ty w) (sym (all.place (number_of q) (free_places q.name q.ty qs e xs bs (reference_of q is.0 h) other hs are))) one
  stays_bound q c b qs e xs bs n n2 h is other hs are all one = absurd is

  pub all_bound : (qs : List Parameter) (e : Environment) (xs : List Argument) (bs : List Bound) (n : Memory) → Binds n → ParametersAre lay qs → AreDifferent qs → Given qs e xs bs → AllBound qs e n (bind_frame n f xs bs)
  all_bound [] [] [] [] n i h d is = record { binds = i; cell = λ k free. refl; place = λ k free. refl; lies = tt }
  all_bound (q ∷ qs) (c ∷ e) (x ∷ xs) (b ∷ bs) n i h d is =
      let one = one_bound q c.1 b x.slot n is.1 i h.0 is.2 in
      let more = all_bound qs e xs bs (put_in_frame n f x.slot b) one.binds h.1 d.1 is.3 in
      record {
        binds = more.binds;
        cell = λ k free. more.cell k free.1 ∙ one.cell k free.0;
        place = λ k free. more.place k free.1 ∙ one.place k free.0;
        lies = (stays_bound q c.1 b qs e xs bs (put_in_frame n f x.slot b) (bind_frame (put_in_frame n f x.slot b) f xs bs) h.0 is.2 d.0 h.1 is.3 more one.lies, more.lies);
      }
  all_bound _ _ _ _ n i h d is = absurd is
