-- What agrees stays so where more is written, and where one more name is declared.
use Rattle.std.proofs.Common.{◌≡◌, ℕ, Bool, true, false, if◌then◌else◌, List, [], ◌∷◌, ◌++◌, Option, Some, None, is_some, refl, sym, ap, subst, ◌∙◌}
use Rattle.cp_resolved.proofs.Words.{nat_eq, bytes_eq, Decides-eqb, ValueType, Meaning, ArrayShape, Program, Name, Ty, FieldTypes, find, since, is_seen, seen_inside}
use Rattle.cp_resolved.proofs.Words.{Parameter, RoutineMeaning, routine_in, type_named, system_of, routine_of_type, cells_in, Each, IsFit, is_standing, itself}
use Rattle.cp_scope.specs.declared.types.Meaning.TheVariants as meaning
use Rattle.cp_scope.specs.declared.types.Parameter as check_parameter
use Rattle.cp_scope.specs.Types.{is_open}
use Rattle.cp_scope.specs.Scopes.{as_member, settle, Names, Scope, Scopes, Heading, Shape, array_shape, record_shape, system_shape, heading_shape, body_shape, Shapes, shape_in, as_array, as_heading, heading_at, member_at, through_seal, or_else, look_outer, look, with_shape, with_name, add, keep}
use Rattle.cp_scope.specs.Scopes as checker
use Rattle.cp_meaning.specs.Types as named
use Rattle.cp_meaning.specs.Scopes as scopes
use Rattle.cp_resolved.specs.Tokens.{AreDifferent}
use Rattle.cp_resolved.specs.Typed.{Tokens, SystemThere, IsValueParameter, Written, TypeIs, FieldsAre, AreParameters, HeadingIs, IsMarked, VariableIs, KindIs, RoutineIs, MeaningIs}
use Rattle.cp_resolved.specs.Limited.{IsLimitedMeaning, AreLimited}
use Rattle.cp_resolved.proofs.counts.FewCells.{few_free, few_standing}
use Rattle.cp_resolved.proofs.agreeing.Agreeing.{is_itself, unknown, find_last, new_names, inner_look, look_is, More, with_more, with_there, with_other, AreFree, free_others}

-- the heading of a routine is written
pub record HeadingThere (n : ℕ) (ss : Shapes) : Type 0 where
  pub heading : Heading
  pub body : ℕ
  pub there : shape_in n ss ≡ Some (heading_shape heading body)

pub heading_kept : (n : ℕ) (ss ts : Shapes) → More ss ts → HeadingThere n ss → as_heading (shape_in n ts) ≡ as_heading (shape_in n ss)
heading_kept n ss ts m h = ap as_heading (m n (heading_shape h.heading h.body) h.there) ∙ sym (ap as_heading h.there)

pub heading_more : (n : ℕ) (ss ts : Shapes) → More ss ts → HeadingThere n ss → HeadingThere n ts
heading_more n ss ts m h = record { heading = h.heading; body = h.body; there = m n (heading_shape h.heading h.body) h.there }

pub array_is : (o : Option Shape) (a : ArrayShape) → as_array o ≡ Some a → o ≡ Some (array_shape a)
array_is (Some (array_shape b)) a h = ap (λ (c : Option ArrayShape). go c) h
  where
    go : Option ArrayShape → Option Shape
    go None = None
    go (Some c) = Some (array_shape c)
array_is x a h = absurd (let bad : None ≡ Some a = h in cc)

module _ (tokens : Tokens) where
  abbrev pub W : Shapes → Written
  W ss = record { shapes = ss; tokens = tokens }

  mutual
    pub type_more : (ss ts : Shapes) → More ss ts → (t : Ty) (v : ValueType) → TypeIs (W ss) t v → TypeIs (W ts) t v
    type_more ss ts m (named.array_over q t) v h =
        record { token = h.token; is = h.is; shape = h.shape; there = ap as_array (m h.token (array_shape h.shape) (array_is (shape_in h.token ss) h.shape h.there)); range = h.range; takes = h.takes; few = h.few; belongs = type_more ss ts m t h.shape.element h.belongs }
    type_more ss ts m (named.record_with us) v h =
        record { token = h.token; is = h.is; fields = h.fields; there = m h.token (record_shape h.fields (cells_in us)) h.there; visible = h.visible; each = fields_more ss ts m us h.fields.names h.each; few = h.few }
    type_more ss ts m (named.component_of n) v h =
        record { kind = h.kind; is = h.is; own = h.own; only = h.only; there = record { names = h.there.names; heading = h.there.heading; census = h.there.census; need = h.there.need; there = m (tokens.systems n) (system_shape h.there.names h.there.heading h.there.census h.there.need) h.there.there } }
    type_more ss ts m _ v h = h

    pub fields_more : (ss ts : Shapes) → More ss ts → (us : FieldTypes) (ds : Names) → FieldsAre (W ss) us ds → FieldsAre (W ts) us ds
    fields_more ss ts m named.no_field_types ds h = h
    fields_more ss ts m (named.more_field_types x t us) ds h =
        record { value_type = h.value_type; rest = h.rest; first = h.first; belongs = type_more ss ts m t h.value_type h.belongs; others = fields_more ss ts m us h.rest h.others }

  kind_more : (ss ts : Shapes) → More ss ts → (v : ValueType) (o : Option scopes.Meaning) → KindIs (W ss) v o → KindIs (W ts) v o
  kind_more ss ts m v (Some (scopes.type_meaning t)) h = type_more ss ts m t v h
  kind_more ss ts m v _ h = absurd h

  variable_more : (ss ts : Shapes) → More ss ts → (v : ValueType) (o : Option scopes.Meaning) → VariableIs (W ss) v o → VariableIs (W ts) v o
  variable_more ss ts m v (Some (scopes.local_variable t)) h = (type_more ss ts m t v h.0, h.1)
  variable_more ss ts m v (Some (scopes.permanent_variable t)) h = (type_more ss ts m t v h.0, h.1)
  variable_more ss ts m v _ h = absurd h

  -- a routine that is visible has its heading written
  abbrev pub IsThere : Shapes → Meaning → Type 0
  IsThere ss (meaning.Routine n) = HeadingThere n ss
  IsThere ss c = Unit {0}

  there_more : (ss ts : Shapes) → More ss ts → (c : Meaning) → IsThere ss c → IsThere ts c
  there_more ss ts m (meaning.Routine n) h = heading_more n ss ts m h
  there_more ss ts m _ h = tt

  pub parameters_more : (ss ts : Shapes) → More ss ts → (as' : List check_parameter.Parameter) (qs : List Parameter) → AreParameters (W ss) as' qs → AreParameters (W ts) as' qs
  parameters_more ss ts m [] [] h = tt
  parameters_more ss ts m (a ∷ as') (q ∷ qs) h = (record { passed = h.0.passed; belongs = type_more ss ts m q.ty a.value_type h.0.belongs; handed = h.0.handed }, parameters_more ss ts m as' qs h.1)
  parameters_more ss ts m _ _ h = absurd h

  pub heading_is_more : (ss ts : Shapes) → More ss ts → (d : Heading) (o : Option RoutineMeaning) → HeadingIs (W ss) d o → HeadingIs (W ts) d o
  heading_is_more ss ts m d None h = h
  heading_is_more ss ts m d (Some r) h = (h.0, parameters_more ss ts m d.parameters r.parameters h.1, h.2)

  routine_since : (ss ts : Shapes) → More ss ts → (d : Heading) (x : Name) (m k : scopes.Scope) (o : Option scopes.Meaning) → since x m ≡ since x k → RoutineIs (W ss) d x m o → RoutineIs (W ts) d x k o
  routine_since ss ts i d x m k (Some (scopes.routine_meaning r)) e h = subst (λ (t : scopes.Scope). HeadingIs (W ts) d (Some (routine_in t r))) e (heading_is_more ss ts i d (Some (routine_in (since x m) r)) h)
  routine_since ss ts i d x m k _ e h = absurd h

  -- more may be written, and the scope may be another that has the same for the name
  meaning_moved : (s t : Scopes) (x : Name) (m k : scopes.Scope) (c : Meaning) (o : Option scopes.Meaning) → More s.shapes t.shapes → since x m ≡ since x k → IsThere s.shapes c → MeaningIs (W s.shapes) s x m c o → MeaningIs (W t.shapes) t x k c o
  meaning_moved s t x m k (meaning.Kind v) o more e i h = kind_more s.shapes t.shapes more v o h
  meaning_moved s t x m k (meaning.Variable v) o more e i h = variable_more s.shapes t.shapes more v o h
  meaning_moved s t x m k (meaning.Parameter v) o more e i h = variable_more s.shapes t.shapes more v o h
  meaning_moved s t x m k (meaning.Reference v) o more e i h = variable_more s.shapes t.shapes more v o h
  meaning_moved s t x m k (meaning.Routine n) o more e i h =
      subst (λ (d : Heading). RoutineIs (W t.shapes) d x k o) (sym (heading_kept n s.shapes t.shapes more i)) (routine_since s.shapes t.shapes more (heading_at n s) x m k o e h)
  meaning_moved s t x m k _ o more e i h = h

  marked_more : (ss ts : Shapes) → More ss ts → (c : Meaning) (o : Option scopes.Meaning) → IsMarked ss c o → IsMarked ts c o
  marked_more ss ts m (meaning.Routine n) (Some (scopes.routine_meaning r)) h = record { token = h.token; heading = h.heading; there = m n (heading_shape h.heading r.body.at) h.there }
  marked_more ss ts m (meaning.Routine n) _ h = absurd h
  marked_more ss ts m _ o h = tt

  -- ---- a name that the checker has

  pub record Known (s : Scopes) (m : scopes.Scope) (x : Name) (c : Meaning) : Type 0 where
    pub means : MeaningIs (W s.shapes) s x m c (find x m)
    pub marked : IsMarked s.shapes c (find x m)
    pub there : IsThere s.shapes c
    pub fit : IsFit (find x m)

  pub known_moved : (s t : Scopes) (m k : scopes.Scope) (x : Name) (c : Meaning) → More s.shapes t.shapes → find x m ≡ find x k → since x m ≡ since x k → Known s m x c → Known t k x c
  known_moved s t m k x c more f e h =
      record {
        means = subst (MeaningIs (W t.shapes) t x k c) f (meaning_moved s t x m k c (find x m) more e h.there h.means);
        marked = subst (IsMarked t.shapes c) f (marked_more s.shapes t.shapes more c (find x m) h.marked);
        there = there_more s.shapes t.shapes more c h.there;
        fit = subst IsFit f h.fit;
      }

  abbrev pub IsKnown : Scopes → scopes.Scope → Name → Option (Option Meaning) → Type 0
  IsKnown s m x None = Unit {0}
  IsKnown s m x (Some None) = ⊥
  IsKnown s m x (Some (Some c)) = Known s m x c

  pub is_known_moved : (s t : Scopes) (m k : scopes.Scope) (x : Name) (o : Option (Option Meaning)) → More s.shapes t.shapes → find x m ≡ find x k → since x m ≡ since x k → IsKnown s m x o → IsKnown t k x o
  is_known_moved s t m k x None more f e h = tt
  is_known_moved s t m k x (Some None) more f e h = h
  is_known_moved s t m k x (Some (Some c)) more f e h = known_moved s t m k x c more f e h

  -- what a name stands for, or that it stands for what it does in a scope below
  pub record Below (m below : scopes.Scope) (x : Name) : Type 0 where
    pub found : find x below ≡ find x m
    pub rest : since x below ≡ since x m
    pub latest : type_named below x ≡ type_named m x

  abbrev pub IsStacked : Scopes → (m below : scopes.Scope) → Name → Option (Option Meaning) → Type 0
  IsStacked s m below x None = Below m below x
  IsStacked s m below x (Some None) = ⊥
  IsStacked s m below x (Some (Some c)) = Known s m x c

  -- the innermost names stand for what the scope has for them, and of all others the scope has what it had below
  abbrev pub Stacked : (Name → Option (Option Meaning)) → Scopes → (m below : scopes.Scope) → Type 0
  Stacked looked s m below = (x : Name) → IsStacked s m below x (looked x)

  stacked_more_of : (s t : Scopes) (m below : scopes.Scope) (x : Name) (o : Option (Option Meaning)) → More s.shapes t.shapes → IsStacked s m below x o → IsStacked t m below x o
  stacked_more_of s t m below x (Some (Some c)) more h = known_moved s t m m x c more refl refl h
  stacked_more_of s t m below x _ more h = h

  -- the same names, where more is written
  pub stacked_more : (f g : Name → Option (Option Meaning)) (s t : Scopes) (m below : scopes.Scope) → More s.shapes t.shapes → ((x : Name) → g x ≡ f x) → Stacked f s m below → Stacked g t m below
  stacked_more f g s t m below more e h x = subst (IsStacked t m below x) (sym (e x)) (stacked_more_of s t m below x (f x) more (h x))

  -- ---- one name more

  pub record New (t : Scopes) (n : Name) (c : Meaning) (d : scopes.Meaning) : Type 0 where
    pub means : (k : scopes.Scope) → MeaningIs (W t.shapes) t n ((n, d) ∷ k) c (Some d)
    pub marked : IsMarked t.shapes c (Some d)
    pub there : IsThere t.shapes c
    pub fit : IsFit (Some d)

  pub find_first : (n : Name) (d : scopes.Meaning) (m : scopes.Scope) → Some d ≡ find n ((n, d) ∷ m)
  find_first n d m = ap (λ (b : Bool). if b then Some d else find n m) (sym (itself n))

  pub find_other : (x n : Name) (d : scopes.Meaning) (m : scopes.Scope) → bytes_eq x n ≡ false → find x m ≡ find x ((n, d) ∷ m)
  find_other x n d m h = ap (λ (b : Bool). if b then Some d else find x m) (sym h)

  pub since_other : (x n : Name) (d : scopes.Meaning) (m : scopes.Scope) → bytes_eq x n ≡ false → since x m ≡ since x ((n, d) ∷ m)
  since_other x n d m h = ap (λ (b : Bool). if b then (n, d) ∷ m else since x m) (sym h)

  type_other : (x n : Name) (d : scopes.Meaning) (m : scopes.Scope) → bytes_eq x n ≡ false → type_named m x ≡ type_named ((n, d) ∷ m) x
  type_other x n (scopes.type_meaning t) m h = ap (λ (b : Bool). if b then t else type_named m x) (sym h)
  type_other x n _ m h = refl

  pub new_known : (t : Scopes) (m : scopes.Scope) (n : Name) (c : Meaning) (d : scopes.Meaning) → New t n c d → Known t ((n, d) ∷ m) n c
  new_known t m n c d h = record { means = subst (MeaningIs (W t.shapes) t n ((n, d) ∷ m) c) (find_first n d m) (h.means m); marked = subst (IsMarked t.shapes c) (find_first n d m) h.marked; there = h.there; fit = subst IsFit (find_first n d m) h.fit }

  fit_limited : (d : scopes.Meaning) → IsFit (Some d) → IsLimitedMeaning d
  fit_limited (scopes.type_meaning t) h = few_standing t h
  fit_limited (scopes.local_variable t) h = few_free t h
  fit_limited (scopes.permanent_variable t) h = few_standing t h
  fit_limited _ h = tt

  known_limited : (s : Scopes) (m : scopes.Scope) (n : Name) (c : Meaning) (d : scopes.Meaning) → Known s ((n, d) ∷ m) n c → IsLimitedMeaning d
  known_limited s m n c d h = fit_limited d (subst IsFit (sym (find_first n d m)) h.fit)

  stacked_other : (s t : Scopes) (m below : scopes.Scope) (x n : Name) (d : scopes.Meaning) (o : Option (Option Meaning)) → More s.shapes t.shapes → bytes_eq x n ≡ false → IsStacked s m below x o → IsStacked t ((n, d) ∷ m) below x o
  stacked_other s t m below x n d None more e h = record { found = h.found ∙ find_other x n d m e; rest = h.rest ∙ since_other x n d m e; latest = h.latest ∙ type_other x n d m e }
  stacked_other s t m below x n d (Some None) more e h = h
  stacked_other s t m below x n d (Some (Some c)) more e h = known_moved s t m ((n, d) ∷ m) x c more (find_other x n d m e) (since_other x n d m e) h

  pub stacked_added : (f g : Name → Option (Option Meaning)) (s t : Scopes) (m below : scopes.Scope) (n : Name) (c : Meaning) (d : scopes.Meaning) → More s.shapes t.shapes → ((x : Name) → g x ≡ (if bytes_eq x n then Some (Some c) else f x)) → Known t ((n, d) ∷ m) n c → Stacked f s m below → Stacked g t ((n, d) ∷ m) below
  stacked_added f g s t m below n c d more e new h x = subst (IsStacked t ((n, d) ∷ m) below x) (sym (e x)) (go (bytes_eq x n) refl)
    where
      go : (b : Bool) → bytes_eq x n ≡ b → IsStacked t ((n, d) ∷ m) below x (if b then Some (Some c) else f x)
      go true same = subst (λ (y : Name). Known t ((n, d) ∷ m) y c) (sym (is_itself x n same)) new
      go false other = stacked_other s t m below x n d (f x) more other (h x)

  -- ---- all that agrees

  -- any name, or any but one
  abbrev pub IsBut : Option Name → Name → Type 0
  IsBut None x = Unit {0}
  IsBut (Some n) x = bytes_eq x n ≡ false

  abbrev pub viewed : Bool → scopes.Scope → scopes.Scope
  viewed false m = m
  viewed true m = seen_inside m

  -- where a type is written, a name that stands for a type is the latest type of that name
  abbrev pub IsTypeKnown : Scopes → scopes.Scope → Name → Option (Option Meaning) → Type 0
  IsTypeKnown s m x (Some None) = ⊥
  IsTypeKnown s m x (Some (Some (meaning.Kind v))) = TypeIs (W s.shapes) (type_named m x) v × (is_standing (type_named m x) ≡ true)
  IsTypeKnown s m x _ = Unit {0}

  type_known_more : (s t : Scopes) (m : scopes.Scope) (x : Name) (o : Option (Option Meaning)) → More s.shapes t.shapes → IsTypeKnown s m x o → IsTypeKnown t m x o
  type_known_more s t m x (Some None) more h = h
  type_known_more s t m x (Some (Some (meaning.Kind v))) more h = (type_more s.shapes t.shapes more (type_named m x) v h.0, h.1)
  type_known_more s t m x _ more h = tt

  -- in a heading: what the name of its routine stands for outside
  abbrev pub OwnIs : Option Name → Scopes → scopes.Scope → Type 0
  OwnIs None s m = Unit {0}
  OwnIs (Some n) s m = IsTypeKnown s m n (look_outer n s.outer)

  own_moved : (but : Option Name) (s t : Scopes) (m : scopes.Scope) → More s.shapes t.shapes → t.outer ≡ s.outer → OwnIs but s m → OwnIs but t m
  own_moved None s t m more o h = tt
  own_moved (Some n) s t m more o h = subst (λ (cs : List Scope). IsTypeKnown t m n (look_outer n cs)) (sym o) (type_known_more s t m n (look_outer n s.outer) more h)

  module _ (p : Program) where
    abbrev pub AreEntries : Scopes → Type 0
    AreEntries s = (k n : ℕ) (y : Name) → member_at (tokens.systems k) y s ≡ Some (Some (meaning.Routine n)) → HeadingIs (W s.shapes) (heading_at n s) (routine_of_type p (named.component_of k) y) × HeadingThere n s.shapes

    -- the parameters of each system type that is written
    abbrev pub AreStarts : Scopes → Type 0
    AreStarts s = (k : ℕ) (d : SystemThere (tokens.systems k) s.shapes) → AreParameters (W s.shapes) d.heading.parameters (system_of p k).parameters × Each IsValueParameter (system_of p k).parameters

    -- `inside`: in the program, what its system types see agrees too. `but`: in a heading the name of its routine is not visible yet.
    pub record Agree (inside : Bool) (but : Option Name) (s : Scopes) (m below : scopes.Scope) (ks : List ℕ) : Type 0 where
      pub unsealed : s.inner.is_sealed ≡ false
      pub names : Stacked (inner_look false s) s m below
      pub seen : Stacked (inner_look inside s) s (viewed inside m) below
      pub outer : (x : Name) → IsBut but x → IsKnown s below x (look_outer x s.outer)
      pub own : OwnIs but s below
      pub base : (x : Name) → IsFit (find x below)
      pub limited : AreLimited m
      pub free : AreFree s.shapes ks
      pub different : AreDifferent ks
      pub entries : AreEntries s
      pub starts : AreStarts s

    pub sees_of : (s : Scopes) (m below : scopes.Scope) (x : Name) (o q : Option (Option Meaning)) → IsStacked s m below x o → IsKnown s below x q → IsKnown s m x (or_else o q)
    sees_of s m below x None q h g = is_known_moved s s below m x q (λ n d e. e) h.found h.rest g
    sees_of s m below x _ q h g = h

    -- each visible name stands for the same
    pub sees : (b : Bool) (but : Option Name) (s : Scopes) (m below : scopes.Scope) (ks : List ℕ) → Agree b but s m below ks → (x : Name) → IsBut but x → IsKnown s m x (look x s)
    sees b but s m below ks h x i = subst (IsKnown s m x) (sym (look_is x s h.unsealed)) (sees_of s m below x (inner_look false s x) (look_outer x s.outer) (h.names x) (h.outer x i))

    pub fit_of : (s : Scopes) (m below : scopes.Scope) (x : Name) (o : Option (Option Meaning)) → IsStacked s m below x o → IsFit (find x below) → IsFit (find x m)
    fit_of s m below x None h g = subst IsFit h.found g
    fit_of s m below x (Some None) h g = absurd h
    fit_of s m below x (Some (Some c)) h g = h.fit

    pub fits : (b : Bool) (but : Option Name) (s : Scopes) (m below : scopes.Scope) (ks : List ℕ) → Agree b but s m below ks → (x : Name) → IsFit (find x m)
    fits b but s m below ks h x = fit_of s m below x (inner_look false s x) (h.names x) (h.base x)

    -- ---- from one state of the scopes to another

    pub starts_more : (s t : Scopes) → More s.shapes t.shapes → ((k : ℕ) → SystemThere (tokens.systems k) t.shapes → shape_in (tokens.systems k) t.shapes ≡ shape_in (tokens.systems k) s.shapes) → AreStarts s → AreStarts t
    starts_more s t more back h k d =
        let before = h k (record { names = d.names; heading = d.heading; census = d.census; need = d.need; there = sym (back k d) ∙ d.there }) in
        (parameters_more s.shapes t.shapes more d.heading.parameters (system_of p k).parameters before.0, before.1)

    pub entries_more : (s t : Scopes) → More s.shapes t.shapes → ((k n : ℕ) (y : Name) → member_at (tokens.systems k) y t ≡ Some (Some (meaning.Routine n)) → member_at (tokens.systems k) y s ≡ Some (Some (meaning.Routine n))) → AreEntries s → AreEntries t
    entries_more s t more back h k n y e =
        let r = h k n y (back k n y e) in
        (subst (λ (d : Heading). HeadingIs (W t.shapes) d (routine_of_type p (named.component_of k) y)) (sym (heading_kept n s.shapes t.shapes more r.1)) (heading_is_more s.shapes t.shapes more (heading_at n s) (routine_of_type p (named.component_of k) y) r.0), heading_more n s.shapes t.shapes more r.1)

    pub agree_same : (b : Bool) (but : Option Name) (s t : Scopes) (m below : scopes.Scope) (ks : List ℕ) → t.outer ≡ s.outer → t.inner.names ≡ s.inner.names → t.inner.is_sealed ≡ s.inner.is_sealed → t.shapes ≡ s.shapes → Agree b but s m below ks → Agree b but t m below ks
    agree_same b but s t m below ks o n i e h =
        let more : More s.shapes t.shapes = (λ k d g. ap (shape_in k) e ∙ g) in
        record {
          unsealed = i ∙ h.unsealed;
          names = stacked_more (inner_look false s) (inner_look false t) s t m below more (λ x. ap (checker.find x) n) h.names;
          seen = stacked_more (inner_look b s) (inner_look b t) s t (viewed b m) below more (λ x. ap (λ (ds : Names). if b then through_seal (checker.find x ds) else checker.find x ds) n) h.seen;
          outer = λ x g. is_known_moved s t below below x (look_outer x t.outer) more refl refl (subst (λ (cs : List Scope). IsKnown s below x (look_outer x cs)) (sym o) (h.outer x g));
          own = own_moved but s t below more o h.own;
          base = h.base;
          limited = h.limited;
          free = subst (λ (ss : Shapes). AreFree ss ks) (sym e) h.free;
          different = h.different;
          entries = entries_more s t more (λ k j y g. ap (λ (ss : Shapes). as_member y (shape_in (tokens.systems k) ss)) (sym e) ∙ g) h.entries;
          starts = starts_more s t more (λ k d. ap (shape_in (tokens.systems k)) e) h.starts;
        }

    pub agree_settled : (b : Bool) (but : Option Name) (s : Scopes) (m below : scopes.Scope) (ks : List ℕ) → Agree b but s m below ks → Agree b but (settle s) m below ks
    unfolding settle
    agree_settled b but s m below ks h = agree_same b but s (settle s) m below ks refl refl refl refl h

    -- ---- what is written at one more token

    -- with what it says of entries
    pub agree_written : (b : Bool) (but : Option Name) (s : Scopes) (m below : scopes.Scope) (k : ℕ) (ks : List ℕ) (d : Shape) → Agree b but s m below (k ∷ ks) → AreEntries (keep s k d) → AreStarts (keep s k d) → Agree b but (keep s k d) m below ks
    unfolding keep
    agree_written b but s m below k ks d h e g =
        let more : More s.shapes (with_shape s.shapes k d) = with_more s.shapes k d h.free.0 in
        record {
          unsealed = h.unsealed;
          names = stacked_more (inner_look false s) (inner_look false s) s (keep s k d) m below more (λ x. refl) h.names;
          seen = stacked_more (inner_look b s) (inner_look b s) s (keep s k d) (viewed b m) below more (λ x. refl) h.seen;
          outer = λ x g. is_known_moved s (keep s k d) below below x (look_outer x s.outer) more refl refl (h.outer x g);
          own = own_moved but s (keep s k d) below more refl h.own;
          base = h.base;
          limited = h.limited;
          free = free_others s.shapes k d ks h.free.0 h.different.0 h.free.1;
          different = h.different.1;
          entries = e;
          starts = g;
        }

    pub back : (k j : ℕ) (y : Name) (ss : Shapes) (d : Shape) (c : Option Meaning) → shape_in k ss ≡ None → as_member y (Some d) ≡ None → as_member y (shape_in j (with_shape ss k d)) ≡ Some c → as_member y (shape_in j ss) ≡ Some c
    back k j y ss d c free none e = go (nat_eq j k) refl
      where
        go : (b : Bool) → nat_eq j k ≡ b → as_member y (shape_in j ss) ≡ Some c
        go true same =
            let bad : None ≡ Some c = sym none ∙ ap (as_member y) (sym (with_there ss k d free)) ∙ ap (λ i. as_member y (shape_in i (with_shape ss k d))) (sym ((Decides-eqb j k).0 same)) ∙ e in
            absurd cc
        go false other = ap (as_member y) (sym (with_other ss k j d free (λ i. (let bad : true ≡ false = sym ((Decides-eqb j k).1 i) ∙ other in absurd cc)))) ∙ e

    -- what is no system type
    abbrev pub IsNoSystem : Shape → Type 0
    IsNoSystem (system_shape m h c u) = ⊥
    IsNoSystem d = Unit {0}

    other_shape : (ss : Shapes) (k j : ℕ) (d : Shape) → IsNoSystem d → shape_in k ss ≡ None → SystemThere j (with_shape ss k d) → shape_in j (with_shape ss k d) ≡ shape_in j ss
    other_shape ss k j d plain free t = go (nat_eq j k) refl
      where
        wrong : (e : Shape) → IsNoSystem e → Some e ≡ Some (system_shape t.names t.heading t.census t.need) → ⊥
        wrong (system_shape m h c u) n e = n
        wrong (array_shape a) n e = cc
        wrong (record_shape f c) n e = cc
        wrong (heading_shape h b) n e = cc
        wrong (body_shape u) n e = cc

        go : (b : Bool) → nat_eq j k ≡ b → shape_in j (with_shape ss k d) ≡ shape_in j ss
        go true same = absurd (wrong d plain (sym (with_there ss k d free) ∙ ap (λ i. shape_in i (with_shape ss k d)) (sym ((Decides-eqb j k).0 same)) ∙ t.there))
        go false other = with_other ss k j d free (λ i. (let bad : true ≡ false = sym ((Decides-eqb j k).1 i) ∙ other in absurd cc))

    pub agree_kept : (b : Bool) (but : Option Name) (s : Scopes) (m below : scopes.Scope) (k : ℕ) (ks : List ℕ) (d : Shape) → IsNoSystem d → ((y : Name) → as_member y (Some d) ≡ None) → Agree b but s m below (k ∷ ks) → Agree b but (keep s k d) m below ks
    unfolding keep
    agree_kept b but s m below k ks d plain none h =
        agree_written b but s m below k ks d h
        (entries_more s (keep s k d) (with_more s.shapes k d h.free.0) (λ j n y e. back k (tokens.systems j) y s.shapes d (Some (meaning.Routine n)) h.free.0 (none y) e) h.entries)
        (starts_more s (keep s k d) (with_more s.shapes k d h.free.0) (λ j t. other_shape s.shapes k (tokens.systems j) d plain h.free.0 t) h.starts)

    -- ---- one name more

    pub last_or : (x n : List ℕ) (ds : Names) (o : Option Meaning) → is_some (checker.find n ds) ≡ false → or_else (checker.find x ds) (if bytes_eq x n then Some o else None) ≡ (if bytes_eq x n then Some o else checker.find x ds)
    last_or x n ds o h = go (bytes_eq x n) refl
      where
        none : (q : Option (Option Meaning)) → or_else q None ≡ q
        none None = refl
        none (Some c) = refl

        go : (b : Bool) → bytes_eq x n ≡ b → or_else (checker.find x ds) (if b then Some o else None) ≡ (if b then Some o else checker.find x ds)
        go true same = ap (λ q. or_else q (Some o)) (subst (λ (y : Name). checker.find y ds ≡ None) (sym (is_itself x n same)) (unknown (checker.find n ds) h))
        go false other = none (checker.find x ds)

    pub added_names : (x n : List ℕ) (c : Scope) (o : Option Meaning) → is_some (checker.find n c.names) ≡ false → checker.find x (with_name c n o).names ≡ (if bytes_eq x n then Some o else checker.find x c.names)
    added_names x n c o h = ap (λ (e : Scope). checker.find x e.names) (new_names c n o h) ∙ find_last x n c.names o ∙ last_or x n c.names o h

    sealed_open : (x n : List ℕ) (ds : Names) (c : Meaning) → is_open c ≡ true → through_seal (if bytes_eq x n then Some (Some c) else checker.find x ds) ≡ (if bytes_eq x n then Some (Some c) else through_seal (checker.find x ds))
    sealed_open x n ds c h = go (bytes_eq x n)
      where
        go : (b : Bool) → through_seal (if b then Some (Some c) else checker.find x ds) ≡ (if b then Some (Some c) else through_seal (checker.find x ds))
        go true = ap (λ (b : Bool). if b then Some (Some c) else None) h
        go false = refl

    sealed_closed : (x n : List ℕ) (ds : Names) (c : Meaning) → is_some (checker.find n ds) ≡ false → is_open c ≡ false → through_seal (if bytes_eq x n then Some (Some c) else checker.find x ds) ≡ through_seal (checker.find x ds)
    sealed_closed x n ds c h e = go (bytes_eq x n) refl
      where
        go : (b : Bool) → bytes_eq x n ≡ b → through_seal (if b then Some (Some c) else checker.find x ds) ≡ through_seal (checker.find x ds)
        go true same = ap (λ (b : Bool). if b then Some (Some c) else None) e ∙ ap through_seal (sym (subst (λ (y : Name). checker.find y ds ≡ None) (sym (is_itself x n same)) (unknown (checker.find n ds) h)))
        go false other = refl

    seen_added : (e : Bool) (s : Scopes) (m below : scopes.Scope) (n : Name) (c : Meaning) (d : scopes.Meaning) → is_some (checker.find n s.inner.names) ≡ false → is_open c ≡ e → Known (add s n (Some c)) ((n, d) ∷ seen_inside m) n c → Stacked (inner_look true s) s (seen_inside m) below →
        Stacked (inner_look true (add s n (Some c))) (add s n (Some c)) (if e then (n, d) ∷ seen_inside m else seen_inside m) below
    unfolding add
    seen_added true s m below n c d fresh o new h =
        stacked_added (inner_look true s) (inner_look true (add s n (Some c))) s (add s n (Some c)) (seen_inside m) below n c d (λ i g e. e)
        (λ x. ap through_seal (added_names x n s.inner (Some c) fresh) ∙ sealed_open x n s.inner.names c o) new h
    seen_added false s m below n c d fresh o new h =
        stacked_more (inner_look true s) (inner_look true (add s n (Some c))) s (add s n (Some c)) (seen_inside m) below (λ i g e. e)
        (λ x. ap through_seal (added_names x n s.inner (Some c) fresh) ∙ sealed_closed x n s.inner.names c fresh o) h

    new_open : (c : Scope) (n : List ℕ) (o : Option Meaning) → (with_name c n o).is_sealed ≡ c.is_sealed
    new_open c n o = go (is_some (checker.find n c.names))
      where
        go : (b : Bool) → (let e : Scope = (if b then c else record { names = c.names ++ (n, o) ∷ []; pending = c.pending; is_sealed = c.is_sealed }) in e.is_sealed) ≡ c.is_sealed
        go true = refl
        go false = refl

    -- what it stands for may depend on the scope
    pub agree_known : (b : Bool) (but : Option Name) (s : Scopes) (m below : scopes.Scope) (ks : List ℕ) (n : Name) (c : Meaning) (d : scopes.Meaning) → is_some (checker.find n s.inner.names) ≡ false → (b ≡ true → is_open c ≡ is_seen d) → Known (add s n (Some c)) ((n, d) ∷ m) n c → (b ≡ true → Known (add s n (Some c)) ((n, d) ∷ seen_inside m) n c) → Agree b but s m below ks →
        Agree b but (add s n (Some c)) ((n, d) ∷ m) below ks
    unfolding add
    agree_known b but s m below ks n c d fresh same new within h =
        record {
          unsealed = new_open s.inner n (Some c) ∙ h.unsealed;
          names = all;
          seen = go b same within h.seen;
          outer = λ x g. is_known_moved s (add s n (Some c)) below below x (look_outer x s.outer) (λ i g e. e) refl refl (h.outer x g);
          own = own_moved but s (add s n (Some c)) below (λ i g e. e) refl h.own;
          base = h.base;
          limited = (known_limited (add s n (Some c)) m n c d new, h.limited);
          free = h.free;
          different = h.different;
          entries = h.entries;
          starts = h.starts;
        }
      where
        all : Stacked (inner_look false (add s n (Some c))) (add s n (Some c)) ((n, d) ∷ m) below
        all = stacked_added (inner_look false s) (inner_look false (add s n (Some c))) s (add s n (Some c)) m below n c d (λ i g e. e) (λ x. added_names x n s.inner (Some c) fresh) new h.names

        go : (b : Bool) → (b ≡ true → is_open c ≡ is_seen d) → (b ≡ true → Known (add s n (Some c)) ((n, d) ∷ seen_inside m) n c) → Stacked (inner_look b s) s (viewed b m) below → Stacked (inner_look b (add s n (Some c))) (add s n (Some c)) (viewed b ((n, d) ∷ m)) below
        go false e i k = all
        go true e i k = seen_added (is_seen d) s m below n c d fresh (e refl) (i refl) k

    pub agree_added : (b : Bool) (but : Option Name) (s : Scopes) (m below : scopes.Scope) (ks : List ℕ) (n : Name) (c : Meaning) (d : scopes.Meaning) → is_some (checker.find n s.inner.names) ≡ false → (b ≡ true → is_open c ≡ is_seen d) → New (add s n (Some c)) n c d → Agree b but s m below ks →
        Agree b but (add s n (Some c)) ((n, d) ∷ m) below ks
    agree_added b but s m below ks n c d fresh same new h = agree_known b but s m below ks n c d fresh same (new_known (add s n (Some c)) m n c d new) (λ e. new_known (add s n (Some c)) (seen_inside m) n c d new) h

    -- ---- back out of a scope inside

    pub agree_returned : (b : Bool) (but : Option Name) (s t : Scopes) (m below : scopes.Scope) (js ks : List ℕ) → Agree b but s m below js → t.outer ≡ s.outer → t.inner.names ≡ s.inner.names → t.inner.is_sealed ≡ false → More s.shapes t.shapes → AreFree t.shapes ks → AreDifferent ks → AreEntries t → AreStarts t → Agree b but t m below ks
    agree_returned b but s t m below js ks h o n i more free different entries starts =
        record {
          unsealed = i;
          names = stacked_more (inner_look false s) (inner_look false t) s t m below more (λ x. ap (checker.find x) n) h.names;
          seen = stacked_more (inner_look b s) (inner_look b t) s t (viewed b m) below more (λ x. ap (λ (ds : Names). if b then through_seal (checker.find x ds) else checker.find x ds) n) h.seen;
          outer = λ x g. is_known_moved s t below below x (look_outer x t.outer) more refl refl (subst (λ (cs : List Scope). IsKnown s below x (look_outer x cs)) (sym o) (h.outer x g));
          own = own_moved but s t below more o h.own;
          base = h.base;
          limited = h.limited;
          free = free;
          different = different;
          entries = entries;
          starts = starts;
        }
