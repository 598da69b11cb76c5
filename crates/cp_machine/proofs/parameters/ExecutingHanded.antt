-- A start binds each parameter that is a component to one of its system type, and no cell of another component.
use Rattle.std.proofs.Common.{◌≡◌, ◌∙◌, ℕ, ◌+◌, ◌<◌, ◌≤◌, ◌⊎◌, inl, inr, List, [], ◌∷◌, ◌++◌, length, Result, Ok, Err, ap, sym, refl, subst, arith, get_or-set_same, get_or-set_other}
use Rattle.cp_machine.proofs.Words.{ℤ, slice_index_or, slice_set, cases_eq, cases_lt, Tables, component_at, parameter_at, system_at, Argument, ComponentPlace}
use Rattle.cp_machine.proofs.Words.{OrdinalExpression, Place, Memory, onward, Bound, ErrorName, Frame, Machine, append-nil, append_assoc, length-set, Hands, HandsOne}
use Rattle.cp_machine.proofs.Words.{IsOf, IsTyped, Names, own_of, parameter_count, ArgumentValue, check_range, then_with}
use Rattle.cp_slots.specs.declared.place.ArgumentValue.TheVariants as value
use Rattle.cp_slots.specs.declared.place.SetExpression.{SetExpression}
use Rattle.cp_store.specs.Arguments.{bindings_after, evaluate_argument, bounds_after, bounds_at, put_binding}
use Rattle.cp_store.specs.Components as components
use Rattle.cp_store.specs.Places.{address_at, set_at, value_at}
use Rattle.cp_store.specs.Sets as sets
use Rattle.cp_store.specs.declared.argument.Bound.TheVariants.{Scalar, Set, Copy, Reference, Component}
use Rattle.cp_machine.specs.Reach.{AreBound, HasBegun, bound_component}
use Rattle.cp_machine.proofs.parameters.ExecutingLemmas.{ok_is}

-- ---- only a component that is handed over is bound

from_ok : {A : Type 0} (P : Bound → Type 0) (b : Bound) (o : Result A ErrorName) (go : A → Result Bound ErrorName) → ((x : A) → go x ≡ Ok b → P b) → then_with o go ≡ Ok b → P b
from_ok P b (Ok x) go each is = each x is
from_ok P b (Err e) go each is = absurd (cc)

-- what an argument gives, where it gives no component, leaves the bindings
module _ (x : Memory) (known : List ℕ) (f : Frame) (bindings : List ℕ) (number : ℕ) (b : Bound) where
  abbrev IsPlain : Bound → Type 0
  IsPlain c = put_binding bindings number c ≡ bindings

  plain : (c : Bound) → IsPlain c → ◌≡◌ {A = Result Bound ErrorName} (Ok c) (Ok b) → IsPlain b
  plain c p is = subst IsPlain (ok_is is) p

  scalar_plain : (e : OrdinalExpression) (low high : ℤ) → evaluate_argument x known f (value.Scalar e low high) ≡ Ok b → IsPlain b
  scalar_plain e low high is = from_ok IsPlain b (value_at x f e) _ (λ z. from_ok IsPlain b (check_range low high z) _ (λ v. plain (Scalar v) refl)) is

  set_plain : (e : SetExpression) (low high : ℕ) → evaluate_argument x known f (value.Set e low high) ≡ Ok b → IsPlain b
  set_plain e low high is = from_ok IsPlain b (set_at x f e) _ (λ s. from_ok IsPlain b (sets.check_members low high s) _ (λ v. plain (Set v) refl)) is

  copy_plain : (source : Place) (size : ℕ) → evaluate_argument x known f (value.Copy source size) ≡ Ok b → IsPlain b
  copy_plain source size is = from_ok IsPlain b (address_at x f source) _ (λ at. plain (Copy at size) refl) is

  reference_plain : (place : Place) → evaluate_argument x known f (value.Reference place) ≡ Ok b → IsPlain b
  reference_plain place is = from_ok IsPlain b (address_at x f place) _ (λ at. plain (Reference at) refl) is

-- ---- arguments, one after the other

module _ (r : Tables) (typed : IsTyped r) (x : Memory) (known : List ℕ) (f : Frame) (system : ℕ) (named : (place : ComponentPlace) (wanted c : ℕ) → Names r system place wanted → components.component_at x known f place ≡ Ok c → IsOf r wanted c) (started base : ℕ) (there : base + (system_at r started).own ≤ length r.permanents) where
  -- what each argument gives
  abbrev Gives : List Argument → List Bound → Type 0
  Gives [] [] = Unit {0}
  Gives [] (b ∷ bs) = ⊥
  Gives (y ∷ xs) [] = ⊥
  Gives (y ∷ xs) (b ∷ bs) = (evaluate_argument x known f y.value ≡ Ok b) × Gives xs bs

  gives : (before : List Bound) (xs : List Argument) (all : List Bound) → bounds_after x known f before xs ≡ Ok all → (bs : List Bound) × (all ≡ before ++ bs) × Gives xs bs
  gives before [] all is = ([], sym (ok_is is) ∙ sym (append-nil before), tt)
  gives before (y ∷ xs) all is = go (λ b. gives (before ++ b ∷ []) xs all) (evaluate_argument x known f y.value) refl is
    where
      go : ((b : Bound) → bounds_after x known f (before ++ b ∷ []) xs ≡ Ok all → (bs : List Bound) × (all ≡ (before ++ b ∷ []) ++ bs) × Gives xs bs) → (o : Result Bound ErrorName) → evaluate_argument x known f y.value ≡ o → then_with o (λ b. bounds_after x known f (before ++ b ∷ []) xs) ≡ Ok all → (bs : List Bound) × (all ≡ before ++ bs) × Gives (y ∷ xs) bs
      go more (Ok b) given is =
          let rest = more b is in
          (b ∷ rest.0, rest.1 ∙ append_assoc before (b ∷ []) rest.0, (given, rest.2))
      go more (Err e) given is = absurd (cc)

  abbrev cell_of : (number : ℕ) → ℕ
  cell_of number = base + (parameter_at r started number).slot

  -- each parameter from a number on is bound to a component that it wants
  abbrev AreBoundFrom : (next : ℕ) → List ℕ → Type 0
  AreBoundFrom next new = (number : ℕ) → next ≤ number → number < parameter_count r started → IsOf r (parameter_at r started number).system (slice_index_or new (cell_of number) 0)

  -- the cells of no such parameter are as they were
  abbrev AreOthersKept : (next : ℕ) → (old new : List ℕ) → Type 0
  AreOthersKept next old new = (cell : ℕ) → ((number : ℕ) → next ≤ number → number < parameter_count r started → cell ≡ cell_of number → ⊥) → slice_index_or new cell 0 ≡ slice_index_or old cell 0

  abbrev AreHanded : (next : ℕ) → (old new : List ℕ) → Type 0
  AreHanded next old new = AreBoundFrom next new × AreOthersKept next old new

  none_handed : (bindings : List ℕ) (next : ℕ) → next ≡ parameter_count r started → AreHanded next bindings bindings
  none_handed bindings next last = ((λ number from below. absurd (omega (arith, from, below, last))), (λ cell apart. refl))

  -- a component is handed over, and then what follows
  one_handed : (old new : List ℕ) (next c : ℕ) → length old ≡ length r.permanents → next < parameter_count r started → IsOf r (parameter_at r started next).system c → AreHanded (next + 1) (slice_set old (cell_of next) c) new → AreHanded next old new
  one_handed old new next c long lt of rest = ((λ number from below. bound number from below (cases_eq number next)), kept)
    where
      within : cell_of next < length old
      within = omega (arith, typed.parameters started next lt, there, long)

      bound : (number : ℕ) → next ≤ number → number < parameter_count r started → (number ≡ next) ⊎ (number ≡ next → ⊥) → IsOf r (parameter_at r started number).system (slice_index_or new (cell_of number) 0)
      bound number from below (inl e) =
          let P : ℕ → Type 0 = λ k. IsOf r (parameter_at r started k).system (slice_index_or new (cell_of k) 0) in
          let still = rest.1 (cell_of next) (λ k later few same. omega (arith, typed.rising started next k (omega (arith, later)) few, same)) in
          let here : slice_index_or new (cell_of next) 0 ≡ c = still ∙ get_or-set_same old (cell_of next) c 0 within in
          subst P (sym e) (subst (IsOf r (parameter_at r started next).system) (sym here) of)
      bound number from below (inr ne) = rest.0 number (omega (arith, from, ne)) below

      kept : AreOthersKept next old new
      kept cell apart =
          rest.1 cell (λ k later few same. apart k (omega (arith, later)) few same) ∙ get_or-set_other old (cell_of next) cell c 0 (apart next (omega arith) lt)

  abbrev after : (slot : ℕ) (b : Bound) (bindings : List ℕ) → List Argument → List Bound → List ℕ
  after slot b bindings xs bs = bindings_after (put_binding bindings (onward base slot) b) base xs bs

  module _ (xs : List Argument) (bs : List Bound) (others : (next : ℕ) (bindings : List ℕ) → length bindings ≡ length r.permanents → Hands r system started next xs → AreHanded next bindings (bindings_after bindings base xs bs)) (slot next : ℕ) (b : Bound) (bindings : List ℕ) (long : length bindings ≡ length r.permanents) where
    plain_handed : put_binding bindings (onward base slot) b ≡ bindings → Hands r system started next xs → AreHanded next bindings (after slot b bindings xs bs)
    plain_handed same hands = subst (λ now. AreHanded next bindings (bindings_after now base xs bs)) (sym same) (others next bindings long hands)

    component_handed : (place : ComponentPlace) → HandsOne r system started (value.Component place) slot next (λ further. Hands r system started further xs) → evaluate_argument x known f (value.Component place) ≡ Ok b → AreHanded next bindings (after slot b bindings xs bs)
    component_handed place hands is = go (components.component_at x known f place) refl is
      where
        exact : cell_of next ≡ onward base slot
        exact = omega (arith, typed.parameters started next hands.0, hands.1, there, typed.words.permanents)

        go : (o : Result ℕ ErrorName) → components.component_at x known f place ≡ o → then_with o (λ n. Ok (Component n)) ≡ Ok b → AreHanded next bindings (after slot b bindings xs bs)
        go (Ok c) found is =
            let set : slice_set bindings (cell_of next) c ≡ put_binding bindings (onward base slot) b = ap (λ k. slice_set bindings k c) exact ∙ ap (put_binding bindings (onward base slot)) (ok_is is) in
            let rest = others (next + 1) (slice_set bindings (cell_of next) c) (length-set bindings (cell_of next) c ∙ long) hands.3 in
            subst (λ now. AreHanded next bindings (bindings_after now base xs bs)) set (one_handed bindings _ next c long hands.0 (named place _ c hands.2 found) rest)
        go (Err e) found is = absurd (cc)

    value_handed : (v : ArgumentValue) → HandsOne r system started v slot next (λ further. Hands r system started further xs) → evaluate_argument x known f v ≡ Ok b → AreHanded next bindings (after slot b bindings xs bs)
    value_handed (value.Component place) hands is = component_handed place hands is
    value_handed (value.Scalar e low high) hands is = plain_handed (scalar_plain x known f bindings (onward base slot) b e low high is) hands
    value_handed (value.Set e low high) hands is = plain_handed (set_plain x known f bindings (onward base slot) b e low high is) hands
    value_handed (value.Copy source size) hands is = plain_handed (copy_plain x known f bindings (onward base slot) b source size is) hands
    value_handed (value.Reference place) hands is = plain_handed (reference_plain x known f bindings (onward base slot) b place is) hands

  handed_from : (xs : List Argument) (bs : List Bound) (next : ℕ) (bindings : List ℕ) → length bindings ≡ length r.permanents → Hands r system started next xs → Gives xs bs → AreHanded next bindings (bindings_after bindings base xs bs)
  handed_from [] bs next bindings long hands given = none_handed bindings next hands
  handed_from (y ∷ xs) [] next bindings long hands given = absurd given
  handed_from (y ∷ xs) (b ∷ bs) next bindings long hands given =
      value_handed xs bs (λ further now same rest. handed_from xs bs further now same rest given.1) y.slot next b bindings long y.value hands given.0

  -- each parameter is bound to a component that it wants, and all cells but those of the component are as they were
  pub handed : (xs : List Argument) (bounds : List Bound) → length known ≡ length r.permanents → Hands r system started 0 xs → bounds_at x known f xs ≡ Ok bounds → AreBoundFrom 0 (bindings_after known base xs bounds) × ((cell : ℕ) → (cell < base) ⊎ (base + (system_at r started).own ≤ cell) → slice_index_or (bindings_after known base xs bounds) cell 0 ≡ slice_index_or known cell 0)
  handed xs bounds long hands is =
      let found = gives [] xs bounds is in
      let all : AreHanded 0 known (bindings_after known base xs bounds) = subst (λ bs. AreHanded 0 known (bindings_after known base xs bs)) (sym found.1) (handed_from xs found.0 0 known long hands found.2) in
      (all.0, (λ cell side. all.1 cell (λ number from few same. elsewhere cell number side few same)))
    where
      elsewhere : (cell number : ℕ) → (cell < base) ⊎ (base + (system_at r started).own ≤ cell) → number < parameter_count r started → cell ≡ cell_of number → ⊥
      elsewhere cell number (inl before) few same = omega (arith, before, same)
      elsewhere cell number (inr behind) few same = omega (arith, behind, same, typed.parameters started number few)

-- ---- a component begins

-- its parameters are bound, and the cells of all others are as they were
pub begins : (r : Tables) (m n : Machine) (d : ℕ) → IsTyped r → d < length r.components → ((number : ℕ) → number < parameter_count r (component_at r d).system → IsOf r (parameter_at r (component_at r d).system number).system (bound_component r n d number)) → ((cell : ℕ) → (cell < (component_at r d).base) ⊎ ((component_at r d).base + own_of r d ≤ cell) → slice_index_or n.bindings cell 0 ≡ slice_index_or m.bindings cell 0) → ((c : ℕ) → c < length r.components → (c ≡ d → ⊥) → HasBegun r n c → HasBegun r m c) → AreBound r m → AreBound r n
begins r m n d typed within new kept back h = λ c number lt begun few. go c number lt begun few (cases_eq c d)
  where
    side : (c number : ℕ) → c < length r.components → number < parameter_count r (component_at r c).system → (c < d) ⊎ (d ≤ c) → (c ≡ d → ⊥) → ((component_at r c).base + (parameter_at r (component_at r c).system number).slot < (component_at r d).base) ⊎ ((component_at r d).base + own_of r d ≤ (component_at r c).base + (parameter_at r (component_at r c).system number).slot)
    side c number lt few (inl before) ne = inl (omega (arith, typed.apart c d before within, typed.parameters (component_at r c).system number few))
    side c number lt few (inr behind) ne = inr (omega (arith, typed.apart d c (omega (arith, behind, ne)) lt))

    go : (c number : ℕ) → c < length r.components → HasBegun r n c → number < parameter_count r (component_at r c).system → (c ≡ d) ⊎ (c ≡ d → ⊥) → IsOf r (parameter_at r (component_at r c).system number).system (bound_component r n c number)
    go c number lt begun few (inl e) =
        let P : ℕ → Type 0 = λ k. (number < parameter_count r (component_at r k).system → IsOf r (parameter_at r (component_at r k).system number).system (bound_component r n k number)) in
        subst P (sym e) (new number) few
    go c number lt begun few (inr ne) =
        subst (IsOf r (parameter_at r (component_at r c).system number).system) (sym (kept _ (side c number lt few (cases_lt c d) ne))) (h c number lt (back c lt ne begun) few)
