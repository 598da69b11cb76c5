-- The parameters of a component are bound: those with values lie in its permanent cells, and those that are components have their numbers.
use Rattle.std.proofs.Common.{◌≡◌, ◌≢◌, ◌∙◌, ℕ, ◌+◌, ◌^◌, ◌<◌, ◌≤◌, ◌⊎◌, inl, inr, Bool, true, false, if◌then◌else◌, List, [], ◌∷◌, ◌++◌, Option, Some, None, ap, sym, refl, subst, arith, length, length-set}
use Rattle.cp_machine_laws.proofs.Words.{some_same, pos, slice_index_or, bytes_eq-Decides, Argument, Bound, Permanent, Local, Memory, onward, Name, same_name, Ty, component_of, Value}
use Rattle.cp_machine_laws.proofs.Words.{Parameter, Content, holds, refers, knows, Environment, content_of, value_held, parameter_variables, HasType, Few, IsOther}
use Rattle.cp_machine_laws.proofs.Words.{AreDifferent, LiesAt, content_second, onward_is, cells_of, SystemLayout, look}
use Rattle.cp_store.specs.declared.argument.Bound.TheVariants.{Copy, Reference, Component}
use Rattle.cp_store.specs.Arguments.{put_value, bind_component, put_binding, bindings_after}
use Rattle.cp_resolved.specs.Resolved.{AreApart, SystemParameterIs, SystemParametersAre}
use Rattle.cp_machine_laws.specs.Given.{IsValue, Keeps, IsApartFrom, IsOutside, IsHanded, AreHanded}
use Rattle.cp_machine_laws.proofs.control.Moving.{set_here, set_there}
use Rattle.cp_machine_laws.proofs.calls.NewFrame.{content_first, others_named}
use Rattle.cp_machine_laws.proofs.expressions.Parts.{encode_length}

-- a value is bound to no number, and a component to no cell
no_binding : (m : Memory) (ns : List ℕ) (n : ℕ) (b : Bound) → IsValue m b → put_binding ns n b ≡ ns
no_binding m ns n (Reference a) h = absurd h
no_binding m ns n (Component c) h = absurd h
no_binding m ns n _ h = refl

-- what has a value is no component
pub value_parameter : (lay : SystemLayout) (t : Ty) (x : Name) (w : Value) → SystemParameterIs lay t x → HasType t w → look x lay.variables ≡ Some t
value_parameter lay (component_of k) x w h typed = absurd typed
value_parameter lay _ x w h typed = h

-- what the layout of a component's system type says, and how its cells and numbers lie
pub record CanHand (lay : SystemLayout) (m : Memory) (bindings : List ℕ) (base own : ℕ) : Type 0 where
  pub cells : (x : Name) (t : Ty) → look x lay.variables ≡ Some t → lay.slots x + cells_of t ≤ own
  pub apart : AreApart lay.slots lay.variables
  pub inside : (x : Name) (t : Ty) → look x lay.parts ≡ Some t → lay.slots x < own
  pub different : (x y : Name) (t u : Ty) → same_name x y ≡ false → look x lay.parts ≡ Some t → look y lay.parts ≡ Some u → lay.slots x ≡ lay.slots y → ⊥
  pub few : Few m
  pub room : base + own ≤ length m.permanents
  pub numbers : base + own ≤ length bindings

module _ (lay : SystemLayout) (m : Memory) (bindings : List ℕ) (base own : ℕ) (can : CanHand lay m bindings base own) where
  -- all outside the component stays as it was
  pub record Hands (n : Memory) (ns : List ℕ) : Type 0 where
    pub cells : n.cells ≡ m.cells
    pub references : n.references ≡ m.references
    pub outside : (k : ℕ) → (k < base) ⊎ (base + own ≤ k) → slice_index_or n.permanents k (pos 0) ≡ slice_index_or m.permanents k (pos 0)
    pub many : length n.permanents ≡ length m.permanents
    pub others : (k : ℕ) → (k < base) ⊎ (base + own ≤ k) → slice_index_or ns k 0 ≡ slice_index_or bindings k 0
    pub count : length ns ≡ length bindings

  abbrev pub cell_of : Parameter → ℕ
  cell_of q = base + lay.slots q.name

  permanent_is : (a b : ℕ) → Permanent a ≡ Permanent b → a ≡ b
  permanent_is a b e = cc

  keeps : (n : Memory) (ns : List ℕ) → Hands n ns → (b : Bound) → IsValue m b → IsOutside base own b → Keeps m n b
  keeps n ns i (Copy (Local from) size) h out = λ k less. ap (λ xs. slice_index_or xs (from + k) (pos 0)) i.cells
  keeps n ns i (Copy (Permanent from) size) h out = λ k less. i.outside (from + k) (side k less out)
    where
      side : (k : ℕ) → k < size → (from + size ≤ base) ⊎ (base + own ≤ from) → (from + k < base) ⊎ (base + own ≤ from + k)
      side k less (inl o) = inl (omega (arith, less, o))
      side k less (inr o) = inr (omega (arith, o))
  keeps n ns i _ h out = tt

  source_apart : (slot cells : ℕ) (b : Bound) → slot + cells ≤ own → IsOutside base own b → IsApartFrom (Permanent (base + slot)) cells b
  source_apart slot cells (Copy (Local from) size) fits out = λ j k less fewer e. absurd (cc)
  source_apart slot cells (Copy (Permanent from) size) fits out = λ j k less fewer e. side j k less fewer (permanent_is (base + slot + j) (from + k) e) out
    where
      side : (j k : ℕ) → j < cells → k < size → base + slot + j ≡ from + k → (from + size ≤ base) ⊎ (base + own ≤ from) → ⊥
      side j k less fewer e (inl o) = omega (arith, less, fewer, e, o)
      side j k less fewer e (inr o) = omega (arith, less, fewer, e, o, fits)
  source_apart slot cells _ fits out = tt

  -- ---- one parameter

  abbrev IsFreeCell : Parameter → Content → ℕ → Type 0
  IsFreeCell q (holds w) k = (j : ℕ) → j < cells_of q.ty → cell_of q + j ≢ k
  IsFreeCell q c k = Unit {0}

  abbrev IsFreeNumber : Parameter → Content → ℕ → Type 0
  IsFreeNumber q (knows c) k = cell_of q ≢ k
  IsFreeNumber q c k = Unit {0}

  abbrev pub OneLies : Memory → List ℕ → Parameter → Content → Type 0
  OneLies n ns q (holds w) = LiesAt n q.ty w (Permanent (cell_of q))
  OneLies n ns q (knows c) = slice_index_or ns (cell_of q) 0 ≡ c
  OneLies n ns q (refers x) = ⊥

  pub record OneHanded (q : Parameter) (c : Content) (n n2 : Memory) (ns ns2 : List ℕ) : Type 0 where
    pub hands : Hands n2 ns2
    pub cell : (k : ℕ) → IsFreeCell q c k → slice_index_or n2.permanents k (pos 0) ≡ slice_index_or n.permanents k (pos 0)
    pub number : (k : ℕ) → IsFreeNumber q c k → slice_index_or ns2 k 0 ≡ slice_index_or ns k 0
    pub lies : OneLies n2 ns2 q c

  slot_is : (slot cells : ℕ) → slot + cells ≤ own → onward base slot ≡ base + slot
  slot_is slot cells fits = onward_is base slot (let a = can.room in let b = can.few.permanents in omega (arith, a, b, fits))

  one_handed : (q : Parameter) (c : Content) (b : Bound) (slot : ℕ) (n : Memory) (ns : List ℕ) → slot ≡ lay.slots q.name → Hands n ns → SystemParameterIs lay q.ty q.name → IsHanded m base own q c b →
      OneHanded q c n (put_value n (Permanent (onward base slot)) b) ns (put_binding ns (onward base slot) b)
  one_handed q (holds w) b slot n ns same i h is =
      let known = value_parameter lay q.ty q.name w h is.0.typed in
      let fits = can.cells q.name q.ty known in
      let at : onward base slot ≡ cell_of q = ap (onward base) same ∙ slot_is (lay.slots q.name) (cells_of q.ty) fits in
      let len = encode_length q.ty w is.0.typed in
      let put = is.0.puts n (Permanent (cell_of q)) (keeps n ns i b is.0.value is.1) i.many (let e = i.cells in subst (λ xs. length m.cells ≤ length xs) (sym e) (omega arith))
      (record { permanents = (let a = can.few.permanents in let e = i.many in omega (arith, a, e)); cells = subst (λ xs. length xs < 2 ^ 64) (sym i.cells) can.few.cells; references = subst (λ xs. length xs < 2 ^ 64) (sym i.references) can.few.references })
      (let a = can.room in let e = i.many in omega (arith, a, e, fits)) (source_apart (lay.slots q.name) (cells_of q.ty) b fits is.1) in
      subst (λ k. OneHanded q (holds w) n (put_value n (Permanent k) b) ns (put_binding ns (onward base slot) b)) (sym at)
      (subst (λ ks. OneHanded q (holds w) n (put_value n (Permanent (cell_of q)) b) ns ks) (sym (no_binding m ns (onward base slot) b is.0.value))
      (record {
        hands = record {
          cells = put.others ∙ i.cells;
          references = put.references ∙ i.references;
          outside = λ k out. put.there (Permanent k) (λ j less e. beyond k j out (omega (arith, less, len)) fits (permanent_is k (cell_of q + j) e)) ∙ i.outside k out;
          many = put.permanents ∙ i.many;
          others = i.others;
          count = i.count;
        };
        cell = λ k free. put.there (Permanent k) (λ j less e. free j (omega (arith, less, len)) (sym (permanent_is k (cell_of q + j) e)));
        number = λ k free. refl;
        lies = record { typed = is.0.typed; cells = (let a = can.room in let e = i.many in let d = put.permanents in omega (arith, a, e, d, fits)); block = put.here };
      }))
    where
      beyond : (k j : ℕ) → (k < base) ⊎ (base + own ≤ k) → j < cells_of q.ty → lay.slots q.name + cells_of q.ty ≤ own → k ≡ cell_of q + j → ⊥
      beyond k j (inl o) less fits e = omega (arith, o, e)
      beyond k j (inr o) less fits e = omega (arith, o, e, less, fits)
  one_handed q (knows c) (Component d) slot n ns same i h is =
      let known : look q.name lay.parts ≡ Some (component_of is.0) = subst (λ t. SystemParameterIs lay t q.name) is.1 h in
      let fits = can.inside q.name (component_of is.0) known in
      let at : onward base slot ≡ cell_of q = ap (onward base) same ∙ slot_is (lay.slots q.name) 0 (omega (arith, fits)) in
      subst (λ k. OneHanded q (knows c) n n ns (put_binding ns k (Component d))) (sym at)
      (record {
        hands = record {
          cells = i.cells;
          references = i.references;
          outside = i.outside;
          many = i.many;
          others = λ k out. set_there ns (cell_of q) k d 0 (λ e. beyond k out fits e) ∙ i.others k out;
          count = length-set ns (cell_of q) d ∙ i.count;
        };
        cell = λ k free. refl;
        number = λ k free. set_there ns (cell_of q) k d 0 (λ e. free (sym e));
        lies = set_here ns (cell_of q) d 0 (let a = can.numbers in let e = i.count in omega (arith, a, e, fits)) ∙ sym is.2;
      })
    where
      beyond : (k : ℕ) → (k < base) ⊎ (base + own ≤ k) → lay.slots q.name < own → k ≡ cell_of q → ⊥
      beyond k (inl o) fits e = omega (arith, o, e)
      beyond k (inr o) fits e = omega (arith, o, e, fits)
  one_handed q c b slot n ns same i h is = absurd is

  -- ---- all parameters

  abbrev AreFreeCells : List Parameter → Environment → ℕ → Type 0
  AreFreeCells [] e k = Unit {0}
  AreFreeCells (q ∷ qs) [] k = Unit {0}
  AreFreeCells (q ∷ qs) (d ∷ e) k = IsFreeCell q d.1 k × AreFreeCells qs e k

  abbrev AreFreeNumbers : List Parameter → Environment → ℕ → Type 0
  AreFreeNumbers [] e k = Unit {0}
  AreFreeNumbers (q ∷ qs) [] k = Unit {0}
  AreFreeNumbers (q ∷ qs) (d ∷ e) k = IsFreeNumber q d.1 k × AreFreeNumbers qs e k

  abbrev pub AllLie : Memory → List ℕ → List Parameter → Environment → Type 0
  AllLie n ns [] e = Unit {0}
  AllLie n ns (q ∷ qs) [] = Unit {0}
  AllLie n ns (q ∷ qs) (d ∷ e) = OneLies n ns q d.1 × AllLie n ns qs e

  abbrev Given : List Parameter → Environment → List Argument → List Bound → Type 0
  Given qs e xs bs = AreHanded m base own lay.slots qs e xs bs

  free_cell : (x : Name) (t : Ty) (i : ℕ) (q : Parameter) (c : Content) (b : Bound) → look x lay.variables ≡ Some t → i < cells_of t → same_name x q.name ≡ false → SystemParameterIs lay q.ty q.name → IsHanded m base own q c b → IsFreeCell q c (base + lay.slots x + i)
  free_cell x t i q (holds w) b known less other h is = λ j small e. side j small e (can.apart x q.name t q.ty other known (value_parameter lay q.ty q.name w h is.0.typed))
    where
      side : (j : ℕ) → j < cells_of q.ty → cell_of q + j ≡ base + lay.slots x + i → (lay.slots x + cells_of t ≤ lay.slots q.name) ⊎ (lay.slots q.name + cells_of q.ty ≤ lay.slots x) → ⊥
      side j small e (inl o) = omega (arith, small, e, less, o)
      side j small e (inr o) = omega (arith, small, e, less, o)
  free_cell x t i q _ b known less other h is = tt

  free_cells : (x : Name) (t : Ty) (i : ℕ) (qs : List Parameter) (e : Environment) (xs : List Argument) (bs : List Bound) → look x lay.variables ≡ Some t → i < cells_of t → IsOther x qs → SystemParametersAre lay qs → Given qs e xs bs → AreFreeCells qs e (base + lay.slots x + i)
  free_cells x t i (q ∷ qs) (d ∷ e) [] bs known less other h is = absurd is
  free_cells x t i (q ∷ qs) (d ∷ e) (y ∷ xs) [] known less other h is = absurd is
  free_cells x t i (q ∷ qs) (d ∷ e) (y ∷ xs) (b ∷ bs) known less other h is = (free_cell x t i q d.1 b known less other.0 h.0 is.2, free_cells x t i qs e xs bs known less other.1 h.1 is.3)
  free_cells x t i _ _ xs bs known less other h is = tt

  free_number : (x : Name) (t : Ty) (q : Parameter) (c : Content) (b : Bound) → look x lay.parts ≡ Some t → same_name x q.name ≡ false → SystemParameterIs lay q.ty q.name → IsHanded m base own q c b → IsFreeNumber q c (base + lay.slots x)
  free_number x t q (knows y) (Component d) known other h is = λ e. can.different x q.name t (component_of is.0) other known (subst (λ u. SystemParameterIs lay u q.name) is.1 h) (omega (arith, e))
  free_number x t q (knows y) b known other h is = absurd is
  free_number x t q _ b known other h is = tt

  free_numbers : (x : Name) (t : Ty) (qs : List Parameter) (e : Environment) (xs : List Argument) (bs : List Bound) → look x lay.parts ≡ Some t → IsOther x qs → SystemParametersAre lay qs → Given qs e xs bs → AreFreeNumbers qs e (base + lay.slots x)
  free_numbers x t (q ∷ qs) (d ∷ e) [] bs known other h is = absurd is
  free_numbers x t (q ∷ qs) (d ∷ e) (y ∷ xs) [] known other h is = absurd is
  free_numbers x t (q ∷ qs) (d ∷ e) (y ∷ xs) (b ∷ bs) known other h is = (free_number x t q d.1 b known other.0 h.0 is.2, free_numbers x t qs e xs bs known other.1 h.1 is.3)
  free_numbers x t _ _ xs bs known other h is = tt

  pub record AllHanded (qs : List Parameter) (e : Environment) (n n2 : Memory) (ns ns2 : List ℕ) : Type 0 where
    pub hands : Hands n2 ns2
    pub cell : (k : ℕ) → AreFreeCells qs e k → slice_index_or n2.permanents k (pos 0) ≡ slice_index_or n.permanents k (pos 0)
    pub number : (k : ℕ) → AreFreeNumbers qs e k → slice_index_or ns2 k 0 ≡ slice_index_or ns k 0
    pub lies : AllLie n2 ns2 qs e

  stays_handed : (q : Parameter) (c : Content) (b : Bound) (qs : List Parameter) (e : Environment) (xs : List Argument) (bs : List Bound) (n n2 : Memory) (ns ns2 : List ℕ) → SystemParameterIs lay q.ty q.name → IsHanded m base own q c b → IsOther q.name qs → SystemParametersAre lay qs → Given qs e xs bs → AllHanded qs e n n2 ns ns2 → OneLies n ns q c → OneLies n2 ns2 q c
  stays_handed q (holds w) b qs e xs bs n n2 ns ns2 h is other hs are all one =
      let known = value_parameter lay q.ty q.name w h is.0.typed in
      let len = encode_length q.ty w one.typed in
      record {
        typed = one.typed;
        cells = (let d = all.hands.many in let c = can.cells q.name q.ty known in let r = can.room in omega (arith, d, c, r));
        block = λ k less. all.cell (cell_of q + k) (free_cells q.name q.ty k qs e xs bs known (omega (arith, less, len)) other hs are) ∙ one.block k less;
      }
  stays_handed q (knows c) (Component d) qs e xs bs n n2 ns ns2 h is other hs are all one =
      all.number (cell_of q) (free_numbers q.name (component_of is.0) qs e xs bs (subst (λ u. SystemParameterIs lay u q.name) is.1 h) other hs are) ∙ one
  stays_handed q c b qs e xs bs n n2 ns ns2 h is other hs are all one = absurd is

  pub all_handed : (qs : List Parameter) (e : Environment) (xs : List Argument) (bs : List Bound) (n : Memory) (ns : List ℕ) → Hands n ns → SystemParametersAre lay qs → AreDifferent qs → Given qs e xs bs → AllHanded qs e n (bind_component n base xs bs) ns (bindings_after ns base xs bs)
  all_handed [] [] [] [] n ns i h d is = record { hands = i; cell = λ k free. refl; number = λ k free. refl; lies = tt }
  all_handed (q ∷ qs) (c ∷ e) (x ∷ xs) (b ∷ bs) n ns i h d is =
      let one = one_handed q c.1 b x.slot n ns is.1 i h.0 is.2 in
      let n2 : Memory = put_value n (Permanent (onward base x.slot)) b in
      let ns2 : List ℕ = put_binding ns (onward base x.slot) b in
      let more = all_handed qs e xs bs n2 ns2 one.hands h.1 d.1 is.3 in
      record {
        hands = more.hands;
        cell = λ k free. more.cell k free.1 ∙ one.cell k free.0;
        number = λ k free. more.number k free.1 ∙ one.number k free.0;
        lies = (stays_handed q c.1 b qs e xs bs n2 (bind_component n2 base xs bs) ns2 (bindings_after ns2 base xs bs) h.0 is.2 d.0 h.1 is.3 more one.lies, more.lies);
      }
  all_handed _ _ _ _ n ns i h d is = absurd is

  -- ---- a parameter by its name

  record Found (x : Name) (u : Ty) (n : Memory) (ns : List ℕ) : Type 0 where
    parameter : Parameter
    content : Content
    bound : Bound
    named : parameter.name ≡ x
    typed : parameter.ty ≡ u
    lies : OneLies n ns parameter content
    known : SystemParameterIs lay parameter.ty parameter.name
    given : IsHanded m base own parameter content bound

  found : (x : Name) (u : Ty) (qs : List Parameter) (e : Environment) (xs : List Argument) (bs : List Bound) (n : Memory) (ns : List ℕ) → Given qs e xs bs → SystemParametersAre lay qs → AllLie n ns qs e → look x (parameter_variables qs) ≡ Some u → (w : Found x u n ns) × (content_of x e ≡ Some w.content)
  found x u [] e xs bs n ns is h a k = absurd (cc)
  found x u (q ∷ qs) (d ∷ e) (y ∷ xs) (b ∷ bs) n ns is h a k = go (same_name x q.name) refl (found x u qs e xs bs n ns is.3 h.1 a.1) k
    where
      go : (w : Bool) → same_name x q.name ≡ w → (look x (parameter_variables qs) ≡ Some u → (f : Found x u n ns) × (content_of x e ≡ Some f.content)) → (if w then Some q.ty else look x (parameter_variables qs)) ≡ Some u → (f : Found x u n ns) × (content_of x (d ∷ e) ≡ Some f.content)
      go true s ih k = (
        record { parameter = q; content = d.1; bound = b; named = sym ((bytes_eq-Decides x q.name).0 s); typed = cc; lies = a.0; known = h.0; given = is.2 },
        ap (λ (w : Bool). if w then Some d.1 else content_of x e) (ap (same_name x) is.0 ∙ s),
      )
      go false s ih k = (let f = ih k in (f.0, ap (λ (v : Bool). if v then Some d.1 else content_of x e) (ap (same_name x) is.0 ∙ s) ∙ f.1))
  found x u (q ∷ qs) _ _ _ n ns is h a k = absurd is

  pub not_found : (x : Name) (qs : List Parameter) (e : Environment) (xs : List Argument) (bs : List Bound) → Given qs e xs bs → look x (parameter_variables qs) ≡ None → content_of x e ≡ None
  not_found x [] [] xs bs is k = refl
  not_found x (q ∷ qs) (d ∷ e) (y ∷ xs) (b ∷ bs) is k = go (same_name x q.name) refl (not_found x qs e xs bs is.3) k
    where
      go : (w : Bool) → same_name x q.name ≡ w → (look x (parameter_variables qs) ≡ None → content_of x e ≡ None) → (if w then Some q.ty else look x (parameter_variables qs)) ≡ None → content_of x (d ∷ e) ≡ None
      go true s ih k = absurd (cc)
      go false s ih k = ap (λ (v : Bool). if v then Some d.1 else content_of x e) (ap (same_name x) is.0 ∙ s) ∙ ih k
  not_found x _ _ _ _ is k = absurd is

  -- ---- what the component has then

  module _ (qs : List Parameter) (e old : Environment) (xs : List Argument) (bs : List Bound) (parameters : SystemParametersAre lay qs) (distinct : AreDifferent qs) (given : Given qs e xs bs)
      -- no name is a variable and a component, and each component of the layout is a parameter
      (not_both : (x : Name) (t u : Ty) → look x lay.parts ≡ Some t → look x lay.variables ≡ Some u → ⊥) (closed : (x : Name) (t : Ty) → look x lay.parts ≡ Some t → look x (parameter_variables qs) ≡ Some t) where
    abbrev pub handed_memory : Memory
    handed_memory = bind_component m base xs bs

    abbrev pub handed_bindings : List ℕ
    handed_bindings = bindings_after bindings base xs bs

    all : AllHanded qs e m handed_memory bindings handed_bindings
    all = all_handed qs e xs bs m bindings (record { cells = refl; references = refl; outside = λ k out. refl; many = refl; others = λ k out. refl; count = refl }) parameters distinct given

    pub hands_all : Hands handed_memory handed_bindings
    hands_all = all.hands

    value_lies : (x : Name) (t : Ty) (q : Parameter) (c : Content) (b : Bound) → look x lay.variables ≡ Some t → q.name ≡ x → SystemParameterIs lay q.ty q.name → OneLies handed_memory handed_bindings q c → IsHanded m base own q c b → LiesAt handed_memory t (value_held (Some c)) (Permanent (base + lay.slots x))
    value_lies x t q (holds w) b known same h lies is =
        let ty : q.ty ≡ t = some_same q.ty t (sym (value_parameter lay q.ty q.name w h is.0.typed) ∙ (ap (λ z. look z lay.variables) same ∙ known)) in
        subst (λ z. LiesAt handed_memory t w (Permanent (base + lay.slots z))) same (subst (λ u. LiesAt handed_memory u w (Permanent (base + lay.slots q.name))) ty lies)
    value_lies x t q (knows c) (Component d) known same h lies is =
        absurd (not_both q.name (component_of is.0) t (subst (λ u. SystemParameterIs lay u q.name) is.1 h) (ap (λ z. look z lay.variables) same ∙ known))
    value_lies x t q c b known same h lies is = absurd is

    -- a variable that is no parameter stays
    pub variables_handed : (x : Name) (t : Ty) → look x lay.variables ≡ Some t → LiesAt m t (value_held (content_of x old)) (Permanent (base + lay.slots x)) → LiesAt handed_memory t (value_held (content_of x (e ++ old))) (Permanent (base + lay.slots x))
    variables_handed x t known lies = by_look (look x (parameter_variables qs)) refl
      where
        by_look : (o : Option Ty) → look x (parameter_variables qs) ≡ o → LiesAt handed_memory t (value_held (content_of x (e ++ old))) (Permanent (base + lay.slots x))
        by_look None k =
            subst (λ (w : Option Content). LiesAt handed_memory t (value_held w) (Permanent (base + lay.slots x))) (sym (content_second x e old (not_found x qs e xs bs given k)))
            (let len = encode_length t (value_held (content_of x old)) lies.typed in
            record {
              typed = lies.typed;
              cells = (let a = all.hands.many in let b = lies.cells in omega (arith, a, b));
              block = λ i less. all.cell (base + lay.slots x + i) (free_cells x t i qs e xs bs known (omega (arith, less, len)) (others_named x qs k) parameters given) ∙ lies.block i less;
            })
        by_look (Some u) k =
            let f = found x u qs e xs bs handed_memory handed_bindings given parameters all.lies k in let w = f.0 in
            subst (λ (v : Option Content). LiesAt handed_memory t (value_held v) (Permanent (base + lay.slots x))) (sym (content_first x e old w.content f.1)) (value_lies x t w.parameter w.content w.bound known w.named w.known w.lies w.given)

    part_known : (x : Name) (t : Ty) (q : Parameter) (c : Content) (b : Bound) → look x lay.parts ≡ Some t → q.name ≡ x → SystemParameterIs lay q.ty q.name → OneLies handed_memory handed_bindings q c → IsHanded m base own q c b → c ≡ knows (slice_index_or handed_bindings (base + lay.slots x) 0)
    part_known x t q (holds w) b known same h lies is = absurd (not_both x t q.ty known (ap (λ z. look z lay.variables) (sym same) ∙ value_parameter lay q.ty q.name w h is.0.typed))
    part_known x t q (knows c) b known same h lies is = ap knows (sym lies) ∙ ap (λ z. knows (slice_index_or handed_bindings (base + lay.slots z) 0)) same
    part_known x t q (refers y) b known same h lies is = absurd lies

    -- a parameter that is a component has its number
    pub parts_handed : (x : Name) (t : Ty) → look x lay.parts ≡ Some t → content_of x (e ++ old) ≡ Some (knows (slice_index_or handed_bindings (base + lay.slots x) 0))
    parts_handed x t known =
        let f = found x t qs e xs bs handed_memory handed_bindings given parameters all.lies (closed x t known) in let w = f.0 in
        content_first x e old w.content f.1 ∙ ap (λ (c : Content). Some c) (part_known x t w.parameter w.content w.bound known w.named w.known w.lies w.given)

    -- a name of which the layout says nothing is no parameter
    pub others_handed : (x : Name) → look x lay.variables ≡ None → look x lay.parts ≡ None → content_of x old ≡ None → content_of x (e ++ old) ≡ None
    others_handed x none no_part empty = by_look (look x (parameter_variables qs)) refl
      where
        unknown : (q : Parameter) (c : Content) (b : Bound) → q.name ≡ x → SystemParameterIs lay q.ty q.name → IsHanded m base own q c b → ⊥
        unknown q (holds w) b same h is = let known : look x lay.variables ≡ Some q.ty = ap (λ z. look z lay.variables) (sym same) ∙ value_parameter lay q.ty q.name w h is.0.typed in cc
        unknown q (knows c) (Component d) same h is = let known : look x lay.parts ≡ Some (component_of is.0) = ap (λ z. look z lay.parts) (sym same) ∙ subst (λ u. SystemParameterIs lay u q.name) is.1 h in cc
        unknown q c b same h is = is

        by_look : (o : Option Ty) → look x (parameter_variables qs) ≡ o → content_of x (e ++ old) ≡ None
        by_look None k = content_second x e old (not_found x qs e xs bs given k) ∙ empty
        by_look (Some u) k = (let f = found x u qs e xs bs handed_memory handed_bindings given parameters all.lies k in let w = f.0 in absurd (unknown w.parameter w.content w.bound w.named w.known w.given))
