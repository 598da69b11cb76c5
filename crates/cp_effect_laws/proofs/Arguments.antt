-- Components that are named, and arguments, are the same where other cells and bindings are others; and what they give is read and bound in own cells.
use Rattle.std.proofs.Common.{◌≡◌, ◌∙◌, ℕ, ◌+◌, ◌^◌, ◌<◌, ◌≤◌, Bool, true, List, [], ◌∷◌, ◌++◌, Result, Ok, Err, ap, refl, subst, arith}
use Rattle.std.specs.Prelude.{ℤ, pos, slice_index_or}
use Rattle.cp_slots.specs.declared.place.Argument.{Argument}
use Rattle.cp_slots.specs.declared.place.ArgumentValue.{ArgumentValue}
use Rattle.cp_slots.specs.declared.place.ArgumentValue.TheVariants as value
use Rattle.cp_slots.specs.declared.place.ComponentPlace.{ComponentPlace}
use Rattle.cp_slots.specs.declared.place.ComponentPlace.TheVariants.{Own, Contained, Element, Parameter}
use Rattle.cp_slots.specs.Inside.{SET_CELLS, argument_inside, arguments_inside, behind, component_inside, expression_inside, has, is_within, place_room, set_inside}
use Rattle.cp_slots.specs.Systems.{is_component}
use Rattle.cp_slots.specs.Tables.{RoutineView}
use Rattle.cp_store.specs.declared.argument.Bound.{Bound}
use Rattle.cp_store.specs.declared.argument.Bound.TheVariants.{Scalar, Set, Copy, Reference, Component}
use Rattle.cp_store.specs.declared.error.ErrorName.{ErrorName}
use Rattle.cp_store.specs.declared.memory.Address.{Address}
use Rattle.cp_store.specs.declared.memory.Address.TheVariants.{Permanent, Local}
use Rattle.cp_store.specs.declared.memory.Frame.{Frame}
use Rattle.cp_store.specs.Arguments.{evaluate_argument, bounds_after, bounds_at}
use Rattle.cp_store.specs.Components.{component_at}
use Rattle.cp_store.specs.Memory.{Memory, onward}
use Rattle.cp_store.specs.Places.{address_at, element_offset, set_at, value_at}
use Rattle.cp_store.specs.Sets as sets
use Rattle.cp_store.specs.Values.{check_range, then_with}
use Rattle.cp_store.proofs.Opened.{bounds_are, fine, given_all, given_by}
use Rattle.cp_store.proofs.Reaches.{and_left, and_right, behind_is, some_has}
use Rattle.cp_effect_laws.specs.Touches.{HasFrom}
use Rattle.cp_effect_laws.proofs.Lying.{Named, place_lies}
use Rattle.cp_effect_laws.proofs.Reading.{place_same, set_same, value_same}
use Rattle.cp_effect_laws.proofs.Writing.{AllInComponent, AllInFrame, HasBoundAt, Spot, spot_of}

-- what is bound to a parameter that is named is own
abbrev pub OwnPlace : (ℕ → Bool) → Frame → ComponentPlace → Type 0
OwnPlace own f (Parameter slot) = own (onward f.own slot) ≡ true
OwnPlace own f _ = Unit {0}

abbrev pub OwnValue : (ℕ → Bool) → Frame → ArgumentValue → Type 0
OwnValue own f (value.Component c) = OwnPlace own f c
OwnValue own f _ = Unit {0}

abbrev pub OwnValues : (ℕ → Bool) → Frame → List Argument → Type 0
OwnValues own f [] = Unit {0}
OwnValues own f (a ∷ xs) = OwnValue own f a.value × OwnValues own f xs

module _ (own : ℕ → Bool) (x : Memory) (others : List ℤ) (same : (k : ℕ) → own k ≡ true → slice_index_or others k (pos 0) ≡ slice_index_or x.permanents k (pos 0)) (bindings bound : List ℕ) (alike : (k : ℕ) → own k ≡ true → slice_index_or bound k 0 ≡ slice_index_or bindings k 0) (r : RoutineView) (f : Frame) (named : Named own x r f) where
  abbrev y : Memory
  y = record x { permanents = others }

  pub found_same : (c : ComponentPlace) → component_inside r c ≡ true → OwnPlace own f c → component_at y bound f c ≡ component_at x bindings f c
  found_same Own i h = refl
  found_same (Contained number) i h = refl
  found_same (Element first low high stride index) i h =
      ap (λ o. then_with o (λ k. then_with (element_offset low high stride k) (λ further. Ok (onward (onward f.component first) further)))) (value_same own x others same r f named index.value i)
  found_same (Parameter slot) i h = ap Ok (alike (onward f.own slot) h)

  one_same : (callee : RoutineView) (extent slot : ℕ) (v : ArgumentValue) → argument_inside r callee extent slot v ≡ true → OwnValue own f v → evaluate_argument y bound f v ≡ evaluate_argument x bindings f v
  one_same callee extent slot (value.Scalar e low high) i h = ap (λ o. then_with o (λ z. then_with (check_range low high z) (λ w. Ok (Scalar w)))) (value_same own x others same r f named e (and_left (expression_inside r e) (is_within slot 1 extent) i))
  one_same callee extent slot (value.Set e low high) i h = ap (λ o. then_with o (λ s. then_with (sets.check_members low high s) (λ w. Ok (Set w)))) (set_same own x others same r f named e (and_left (set_inside r e) (is_within slot SET_CELLS extent) i))
  one_same callee extent slot (value.Copy source size) i h = ap (λ o. then_with o (λ at. Ok (Copy at size))) (place_same own x others same r f named source size (and_left (has size (place_room r source)) (is_within slot size extent) i))
  one_same callee extent slot (value.Reference place) i h = ap (λ o. then_with o (λ at. Ok (Reference at))) (place_same own x others same r f named place _ i)
  one_same callee extent slot (value.Component c) i h = ap (λ o. then_with o (λ n. Ok (Component n))) (found_same c i h)

  after_same : (callee : RoutineView) (extent : ℕ) (xs : List Argument) (bs : List Bound) → arguments_inside r callee extent xs ≡ true → OwnValues own f xs → bounds_after y bound f bs xs ≡ bounds_after x bindings f bs xs
  after_same callee extent [] bs i h = refl
  after_same callee extent (a ∷ xs) bs i h =
      ap (λ o. then_with o (λ b. bounds_after y bound f (bs ++ b ∷ []) xs)) (one_same callee extent a.slot a.value (and_left (argument_inside r callee extent a.slot a.value) (arguments_inside r callee extent xs) i) h.0)
      ∙ go (evaluate_argument x bindings f a.value) (λ b. after_same callee extent xs (bs ++ b ∷ []) (and_right (argument_inside r callee extent a.slot a.value) (arguments_inside r callee extent xs) i) h.1)
    where
      go : (o : Result Bound ErrorName) → ((b : Bound) → bounds_after y bound f (bs ++ b ∷ []) xs ≡ bounds_after x bindings f (bs ++ b ∷ []) xs)
          → then_with o (λ b. bounds_after y bound f (bs ++ b ∷ []) xs) ≡ then_with o (λ b. bounds_after x bindings f (bs ++ b ∷ []) xs)
      go (Ok b) each = each b
      go (Err e) each = refl

  pub all_same : (callee : RoutineView) (extent : ℕ) (xs : List Argument) → arguments_inside r callee extent xs ≡ true → OwnValues own f xs → bounds_at y bound f xs ≡ bounds_at x bindings f xs
  all_same callee extent xs i h = after_same callee extent xs [] i h

-- ---- what is given

given : {A : Type 0} (P : Bound → Type 0) (b : Bound) (o : Result A ErrorName) (go : A → Result Bound ErrorName) → ((a : A) → o ≡ Ok a → go a ≡ Ok b → P b) → then_with o go ≡ Ok b → P b
given P b (Ok a) go each is = each a refl is
given P b (Err e) go each is = absurd (cc)

same_bound : (P : Bound → Type 0) (b c : Bound) → ◌≡◌ {A = Result Bound ErrorName} (Ok b) (Ok c) → P b → P c
same_bound P b c same h = let is : b ≡ c = cc in subst P is h

fits_in : (slot cells extent : ℕ) → is_within slot cells extent ≡ true → slot + cells ≤ extent
fits_in slot cells extent h =
    let left = some_has cells (behind slot extent) h in
    let is = behind_is slot extent left.0 left.1 in
    let enough = left.2 in
    omega (arith, is, enough)

-- each argument meets it
abbrev pub AllFit : (Argument → Type 0) → List Argument → Type 0
AllFit Fit [] = Unit {0}
AllFit Fit (a ∷ xs) = Fit a × AllFit Fit xs

module _ (own : ℕ → Bool) (x : Memory) (bindings : List ℕ) (r callee : RoutineView) (f : Frame) (named : Named own x r f) (extent : ℕ) where
  -- the parameter has own cells from its slot on
  one_bound : (at : Address) (slot : ℕ) (v : ArgumentValue) (b : Bound) → ((k : ℕ) → slot + k ≤ extent → Spot own at k) → (is_component v ≡ true → Spot own at 1)
      → argument_inside r callee extent slot v ≡ true → evaluate_argument x bindings f v ≡ Ok b → HasBoundAt own at b
  one_bound at slot (value.Scalar e low high) b room names i is =
      given (HasBoundAt own at) b (value_at x f e) (λ z. then_with (check_range low high z) (λ w. Ok (Scalar w)))
      (λ z z_is. given (HasBoundAt own at) b (check_range low high z) (λ w. Ok (Scalar w)) (λ w w_is same. same_bound (HasBoundAt own at) (Scalar w) b same (room 1 (fits_in slot 1 extent (and_right (expression_inside r e) (is_within slot 1 extent) i))))) is
  one_bound at slot (value.Set e low high) b room names i is =
      given (HasBoundAt own at) b (set_at x f e) (λ s. then_with (sets.check_members low high s) (λ w. Ok (Set w)))
      (λ s s_is. given (HasBoundAt own at) b (sets.check_members low high s) (λ w. Ok (Set w)) (λ w w_is same. same_bound (HasBoundAt own at) (Set w) b same (room SET_CELLS (fits_in slot SET_CELLS extent (and_right (set_inside r e) (is_within slot SET_CELLS extent) i))))) is
  one_bound at slot (value.Copy source size) b room names i is =
      given (HasBoundAt own at) b (address_at x f source) (λ from. Ok (Copy from size))
      (λ from found same. same_bound (HasBoundAt own at) (Copy from size) b same (
        room size (fits_in slot size extent (and_right (has size (place_room r source)) (is_within slot size extent) i)),
        spot_of own x from size named.covers.permanents_few (place_lies own x r f named source from size (and_left (has size (place_room r source)) (is_within slot size extent) i) found),
      )) is
  one_bound at slot (value.Reference place) b room names i is =
      given (HasBoundAt own at) b (address_at x f place) (λ to. Ok (Reference to)) (λ to found same. same_bound (HasBoundAt own at) (Reference to) b same tt) is
  one_bound at slot (value.Component c) b room names i is =
      given (HasBoundAt own at) b (component_at x bindings f c) (λ n. Ok (Component n)) (λ n found same. same_bound (HasBoundAt own at) (Component n) b same (names refl)) is

  -- each with the others
  each_bound : (All : List Argument → List Bound → Type 0) → ((bs : List Bound) → All [] bs)
      → (One : Argument → Bound → Type 0) → ((a : Argument) (xs : List Argument) (b : Bound) (bs : List Bound) → One a b → All xs bs → All (a ∷ xs) (b ∷ bs))
      → (Fit : Argument → Type 0) → ((a : Argument) (b : Bound) → Fit a → argument_inside r callee extent a.slot a.value ≡ true → evaluate_argument x bindings f a.value ≡ Ok b → One a b)
      → (xs : List Argument) (bs : List Bound) → AllFit Fit xs → arguments_inside r callee extent xs ≡ true → given_by x bindings f xs ≡ fine bs → All xs bs
  each_bound All none One both Fit one [] bs fit i is = none bs
  each_bound All none One both Fit one (a ∷ xs) bs fit i is =
      go (λ rest. each_bound All none One both Fit one xs rest fit.1 (and_right (argument_inside r callee extent a.slot a.value) (arguments_inside r callee extent xs) i)) (evaluate_argument x bindings f a.value) refl (given_by x bindings f xs) refl is
    where
      go : ((rest : List Bound) → given_by x bindings f xs ≡ fine rest → All xs rest)
          → (o : Result Bound ErrorName) → evaluate_argument x bindings f a.value ≡ o → (t : Result (List Bound) ErrorName) → given_by x bindings f xs ≡ t
          → then_with o (λ b. then_with t (λ rest. fine (b ∷ rest))) ≡ fine bs → All (a ∷ xs) bs
      go others (Ok b) found (Ok rest) rest_is same =
          subst (All (a ∷ xs)) (bounds_are same) (both a xs b rest (one a b fit.0 (and_left (argument_inside r callee extent a.slot a.value) (arguments_inside r callee extent xs) i) found) (others rest rest_is))
      go others (Ok b) found (Err e) rest_is same = absurd (cc)
      go others (Err e) found t rest_is same = absurd (cc)

  local_spot : (number k : ℕ) → Spot own (Local number) k
  local_spot number k = record { own_cells = tt; small = tt }

  -- what a call binds: in whatever frame it is
  pub bound_in : (g : Frame) (xs : List Argument) (bs : List Bound) → arguments_inside r callee extent xs ≡ true → bounds_at x bindings f xs ≡ Ok bs → AllInFrame own g xs bs
  bound_in g xs bs i is =
      each_bound (AllInFrame own g) (λ l. nothing l) (λ a b. HasBoundAt own (Local (onward g.base a.slot)) b) (λ a l b m h k. (h, k)) (λ a. Unit {0})
      (λ a b fit j found. one_bound (Local (onward g.base a.slot)) a.slot a.value b (λ k le. local_spot (onward g.base a.slot) k) (λ c. local_spot (onward g.base a.slot) 1) j found) xs bs (all_unit xs) i (given_all x bindings f xs bs is)
    where
      nothing : (l : List Bound) → AllInFrame own g [] l
      nothing l = tt

      all_unit : (l : List Argument) → AllFit (λ a. Unit {0}) l
      all_unit [] = tt
      all_unit (a ∷ l) = (tt, all_unit l)

  -- what a start binds: in the cells of the component that is started
  module _ (base cells : ℕ) (has_cells : HasFrom own base cells) (few : base + cells < 2 ^ 64) (enough : extent ≤ cells) where
    spot_in : (slot k : ℕ) → slot + k ≤ cells → Spot own (Permanent (onward base slot)) k
    spot_in slot k le =
        record {
          own_cells = λ j from below. has_cells j (omega (arith, from, below, le, few)) (omega (arith, from, below, le, few));
          small = omega (arith, le, few);
        }

    pub bound_inside : (xs : List Argument) (bs : List Bound) → AllFit (λ a. is_component a.value ≡ true → a.slot < cells) xs → arguments_inside r callee extent xs ≡ true → bounds_at x bindings f xs ≡ Ok bs → AllInComponent own base xs bs
    bound_inside xs bs fit i is =
        each_bound (AllInComponent own base) (λ l. nothing l) (λ a b. HasBoundAt own (Permanent (onward base a.slot)) b) (λ a l b m h k. (h, k)) (λ a. is_component a.value ≡ true → a.slot < cells)
        (λ a b below j found. one_bound (Permanent (onward base a.slot)) a.slot a.value b (λ k le. spot_in a.slot k (omega (arith, le, enough))) (λ c. spot_in a.slot 1 (omega (arith, below c))) j found) xs bs fit i (given_all x bindings f xs bs is)
      where
        nothing : (l : List Bound) → AllInComponent own base [] l
        nothing l = tt
