-- The parameters of the system types of an accepted tree: none is a `var` parameter, and none has a queue.
use Rattle.std.proofs.Common.{◌≡◌, ℕ, Bool, true, false, List, [], ◌∷◌, Some, sym, subst, ◌∙◌, inl, inr}
use Rattle.cp_resolved.proofs.Words.{same_Some, Tree, IsAccepted, Parameter, Variable, Name, parameter_variables, system_of, Ty, ordinal, component_of}
use Rattle.cp_resolved.proofs.Words.{has_components, system_variables, look, IsRead, Each, is_free, components_among, layouts_of, IsHanded, IsSystemParameter}
use Rattle.cp_resolved.proofs.counts.FewReferences.{each_weaker}
use Rattle.cp_resolved.proofs.frames.FrameCells.{look_left}
use Rattle.cp_resolved.proofs.agreeing.ScopeVariables.{Among, look_among, among_look, among_all}
use Rattle.cp_resolved.proofs.agreeing.ScopesOfTrees.{scopes_law}
use Rattle.cp_resolved.proofs.declarations.SystemVariables.{accepted_permanents}

pub accepted_values : (t : Tree) → IsRead t.program → IsAccepted t → (k : ℕ) → Each (λ (q : Parameter). q.is_var ≡ false) (system_of t.program k).parameters
accepted_values t read accepted k = each_weaker IsSystemParameter (λ (q : Parameter). q.is_var ≡ false) (λ q h. h.0) (system_of t.program k).parameters ((scopes_law t read accepted).handed k)

handed_free : (b : Bool) (t : Ty) → has_components t ≡ false → IsHanded b t → is_free t ≡ true
handed_free false (component_of n) w h = absurd (let bad : true ≡ false = w in cc)
handed_free true (ordinal r) w h = h
handed_free _ _ w h = h

among_free : (x : Name) (t : Ty) (qs : List Parameter) → has_components t ≡ false → Each IsSystemParameter qs → Among x t (parameter_variables qs) → is_free t ≡ true
among_free x t [] w h a = absurd a
among_free x t (q ∷ qs) w h (inl a) = handed_free q.is_var t w (subst (IsHanded q.is_var) a.1 h.0.1)
among_free x t (q ∷ qs) w h (inr a) = among_free x t qs w h.1 a

-- a parameter that is no component has no queue
pub accepted_free : (t : Tree) → IsRead t.program → IsAccepted t → (k : ℕ) (x : Name) (u v : Ty) → look x (parameter_variables (system_of t.program k).parameters) ≡ Some v → look x ((layouts_of t).systems k).variables ≡ Some u → is_free u ≡ true
accepted_free t read accepted k x u v e f =
    let qs : List Parameter = (system_of t.program k).parameters in
    let all : List Variable = system_variables (system_of t.program k) in
    let a : Among x u all × (has_components u ≡ false) = among_all false x u all (look_among x u (components_among false all) f) in
    let both : look x all ≡ Some u = among_look x u all (accepted_permanents t accepted k).different a.0 in
    let same : v ≡ u = same_Some v u (sym (look_left x v (parameter_variables qs) (system_of t.program k).variables e) ∙ both) in
    among_free x u qs a.1 ((scopes_law t read accepted).handed k) (subst (λ w. Among x w (parameter_variables qs)) same (look_among x v (parameter_variables qs) e))
