-- What a change of components or of environments leaves as it was.
use Rattle.std.proofs.Common.{◌≡◌, ℕ, ◌<◌, ◌≤◌, ◌==◌, ◌∙◌, ◌⊎◌, inl, inr, Bool, true, false, if◌then◌else◌, List, [], ◌∷◌, length, get_or, set, slice_set, ap, sym, refl}
use Rattle.cp_meaning.specs.State.{Holder, in_call, in_component, Place, Environment, Component, component_at, no_component, ComponentStatus, Call}
use Rattle.cp_meaning.proofs.Words.{Value, View, with_environment, with_call_environment, with_permanents, with_environment_of, stored, with_status}
use Rattle.cp_meaning.proofs.Frames.{at_set, frames}

pub record SameLayout (cs ds : List Component) : Type 0 where
  pub system : (n : ℕ) → (component_at ds n).system ≡ (component_at cs n).system
  pub kind : (n : ℕ) → (component_at ds n).kind ≡ (component_at cs n).kind
  pub line : (n : ℕ) → (component_at ds n).line ≡ (component_at cs n).line

-- but for their environments
pub record SameComponents (cs ds : List Component) : Type 0 where
  pub layout : SameLayout cs ds
  pub status : (n : ℕ) → (component_at ds n).status ≡ (component_at cs n).status

pub same_layout : (cs : List Component) → SameLayout cs cs
same_layout cs = record { system = λ n. refl; kind = λ n. refl; line = λ n. refl }

pub same_components : (cs : List Component) → SameComponents cs cs
same_components cs = record { layout = same_layout cs; status = λ n. refl }

pub layout_after : (cs ds es : List Component) → SameLayout cs ds → SameLayout ds es → SameLayout cs es
layout_after cs ds es h k = record { system = λ n. k.system n ∙ h.system n; kind = λ n. k.kind n ∙ h.kind n; line = λ n. k.line n ∙ h.line n }

-- a field of a component that the new one has as the old one
pub field_kept : {A : Type 0} (f : Component → A) (cs : List Component) (k : ℕ) (c : Component) → f c ≡ f (component_at cs k) → (n : ℕ) → f (component_at (slice_set cs k c) n) ≡ f (component_at cs n)
field_kept {A} f cs k c same n = go (at_set cs k n c no_component)
  where
    go : ((n ≡ k) × (k < length cs) × (get_or (set cs k c) n no_component ≡ c)) ⊎ ((n ≡ k → length cs ≤ k) × (get_or (set cs k c) n no_component ≡ get_or cs n no_component)) → f (component_at (slice_set cs k c) n) ≡ f (component_at cs n)
    go (inl h) = ap f h.2 ∙ same ∙ ap (λ j. f (component_at cs j)) (sym h.0)
    go (inr h) = ap f h.1

-- with a field that all agree on when it is new
pub permanents_kept : (cs : List Component) (k : ℕ) (e : Environment) → SameComponents cs (with_permanents cs k e)
permanents_kept cs k e =
    record {
      layout = record {
        system = field_kept (λ c. c.system) cs k _ refl;
        kind = field_kept (λ c. c.kind) cs k _ refl;
        line = field_kept (λ c. c.line) cs k _ refl;
      };
      status = field_kept (λ c. c.status) cs k _ refl;
    }

pub status_layout : (cs : List Component) (k : ℕ) (s : ComponentStatus) (e : Environment) → SameLayout cs (with_status cs k s e)
status_layout cs k s e =
    record {
      system = field_kept (λ c. c.system) cs k _ refl;
      kind = field_kept (λ c. c.kind) cs k _ refl;
      line = field_kept (λ c. c.line) cs k _ refl;
    }

-- ---- environments of calls

frames_if : (b : Bool) (xs ys zs : List Call) → frames xs ≡ frames zs → frames ys ≡ frames zs → frames (if b then xs else ys) ≡ frames zs
frames_if true xs ys zs h k = h
frames_if false xs ys zs h k = k

pub frames_kept : (cs : List Call) (below : ℕ) (e : Environment) → frames (with_call_environment cs below e) ≡ frames cs
frames_kept [] below e = refl
frames_kept (c ∷ cs) below e = frames_if (length cs == below) (with_environment c e ∷ cs) (c ∷ with_call_environment cs below e) (c ∷ cs) refl (ap (λ fs. (c.kind, c.component) ∷ fs) (frames_kept cs below e))

calls_kept : (v : View) (h : Holder) (e : Environment) → frames (with_environment_of v h e).calls ≡ frames v.calls
calls_kept v (in_call below) e = frames_kept v.calls below e
calls_kept v (in_component n) e = refl

components_kept : (v : View) (h : Holder) (e : Environment) → SameComponents v.components (with_environment_of v h e).components
components_kept v (in_call below) e = same_components v.components
components_kept v (in_component n) e = permanents_kept v.components n e

pub stored_frames : (v : View) (q : Place) (w : Value) → frames (stored v q w).calls ≡ frames v.calls
stored_frames v q w = calls_kept v q.holder _

pub stored_components : (v : View) (q : Place) (w : Value) → SameComponents v.components (stored v q w).components
stored_components v q w = components_kept v q.holder _
