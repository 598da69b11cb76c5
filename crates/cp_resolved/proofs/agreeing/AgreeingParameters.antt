-- The parameters that the checker reads off the names of a scope, and those of a heading.
use Rattle.std.proofs.Common.{◌≡◌, Bool, true, false, List, [], ◌∷◌, ◌++◌, Option, Some, None, refl, sym, ap, subst, ◌∙◌, append_assoc}
use Rattle.std.proofs.lemmas.List.{append-nil}
use Rattle.cp_resolved.proofs.Words.{Identifier, Meaning, add_names, Ty, Parameter, is_free, parameter_of}
use Rattle.cp_scope.specs.declared.types.Parameter as check_parameter
use Rattle.cp_scope.specs.Scopes.{Names, Scope, Scopes, parameter_in, parameters_in, with_some, add}
use Rattle.cp_meaning.specs.Types as named
use Rattle.cp_meaning.specs.Declarations as meant
use Rattle.cp_resolved.specs.Typed.{Written, TypeIs, IsHanded, AreParameters}
use Rattle.cp_resolved.proofs.agreeing.Agreeing.{new_names}
use Rattle.cp_resolved.proofs.declarations.Reserving.{AreFresh, AreOthers, fresh_after}

pub free_handed : (b : Bool) (t : Ty) → is_free t ≡ true → IsHanded b t
free_handed false (named.component_of n) h = tt
free_handed _ _ h = h

-- the same parameter for each name
abbrev pub copies : check_parameter.Parameter → List Identifier → List check_parameter.Parameter
copies a [] = []
copies a (n ∷ ns) = a ∷ copies a ns

pub parameters_both : (w : Written) (as' bs : List check_parameter.Parameter) (qs rs : List Parameter) → AreParameters w as' qs → AreParameters w bs rs → AreParameters w (as' ++ bs) (qs ++ rs)
parameters_both w [] bs [] rs h g = g
parameters_both w (a ∷ as') bs (q ∷ qs) rs h g = (h.0, parameters_both w as' bs qs rs h.1 g)
parameters_both w _ bs _ rs h g = absurd h

pub copies_are : (w : Written) (a : check_parameter.Parameter) (u : Ty) (b : Bool) (ns : List Identifier) → a.is_var ≡ b → TypeIs w u a.value_type → IsHanded b u → AreParameters w (copies a ns) (meant.parameters_named (meant.names_of ns) u b)
copies_are w a u b [] p t h = tt
copies_are w a u b (n ∷ ns) p t h = (record { passed = p; belongs = t; handed = h }, copies_are w a u b ns p t h)

pub read_both : (ds es : Names) → parameters_in (ds ++ es) ≡ parameters_in ds ++ parameters_in es
unfolding parameters_in
read_both [] es = refl
read_both (d ∷ ds) es = go (parameter_in d.1) (read_both ds es)
  where
    go : (o : Option check_parameter.Parameter) → parameters_in (ds ++ es) ≡ parameters_in ds ++ parameters_in es → with_some o (parameters_in (ds ++ es)) ≡ with_some o (parameters_in ds) ++ parameters_in es
    go None h = h
    go (Some a) h = ap (λ (as' : List check_parameter.Parameter). a ∷ as') h

read_one : (n : List _) (c : Meaning) (a : check_parameter.Parameter) → parameter_of c ≡ Some a → parameters_in ((n, Some c) ∷ []) ≡ a ∷ []
unfolding parameters_in
read_one n c a e = ap (λ (o : Option check_parameter.Parameter). with_some o []) e

-- names that are declared as a parameter
pub names_read : (t : Scopes) (ns : List Identifier) (c : Meaning) (a : check_parameter.Parameter) → parameter_of c ≡ Some a → AreFresh ns t.inner.names → AreOthers ns → parameters_in (add_names t ns (Some c)).inner.names ≡ parameters_in t.inner.names ++ copies a ns
unfolding add_names add
names_read t [] c a e fresh others = sym (append-nil (parameters_in t.inner.names))
names_read t (n ∷ ns) c a e fresh others =
    let u : Scopes = add t n.name (Some c) in
    let is : u.inner.names ≡ t.inner.names ++ (n.name, Some c) ∷ [] = ap (λ (d : Scope). d.names) (new_names t.inner n.name (Some c) fresh.0) in
    let later : AreFresh ns u.inner.names = subst (AreFresh ns) (sym is) (fresh_after ns n.name t.inner.names (Some c) others.0 fresh.1) in
    let one : parameters_in u.inner.names ≡ parameters_in t.inner.names ++ a ∷ [] = ap parameters_in is ∙ read_both t.inner.names ((n.name, Some c) ∷ []) ∙ ap (λ (as' : List check_parameter.Parameter). parameters_in t.inner.names ++ as') (read_one n.name c a e) in
    names_read u ns c a e later others.1 ∙ ap (λ (as' : List check_parameter.Parameter). as' ++ copies a ns) one ∙ append_assoc (parameters_in t.inner.names) (a ∷ []) (copies a ns)

pub shapes_added : (t : Scopes) (ns : List Identifier) (o : Option Meaning) → (add_names t ns o).shapes ≡ t.shapes
unfolding add_names add
shapes_added t [] o = refl
shapes_added t (n ∷ ns) o = shapes_added (add t n.name o) ns o
