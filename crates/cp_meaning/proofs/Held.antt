-- What a process holds by its open calls, and how environments change.
use Rattle.std.proofs.Common.{◌≡◌, ℕ, zero, suc, ◌<◌, ◌≤◌, ◌==◌, ◌∙◌, ◌⊎◌, inl, inr, Bool, true, false, if◌then◌else◌, List, [], ◌∷◌, ◌++◌, length, get_or, set, slice_set, Option, Some, None, ap, sym, refl, subst, arith}
use Rattle.cp_tree.specs.declared.declaration.SystemKind.TheVariants as system_kind
use Rattle.cp_meaning.proofs.Words.{Name, same_name, result_name, least_of, least_result, owner_of}
use Rattle.cp_meaning.specs.Types.{Ty, has_components}
use Rattle.cp_meaning.specs.Values.{Value, least}
use Rattle.cp_meaning.specs.Declarations.{Variable}
use Rattle.cp_meaning.specs.State.{Holder, in_call, in_component, Place, Content, holds, refers, knows, Environment, Component, component_at, no_component, Call}
use Rattle.cp_meaning.specs.Places.{View, content_of, with_content, call_above, with_environment, with_call_environment, environment_of, with_environment_of, stored}
use Rattle.cp_meaning.proofs.Frames.{at_set, Frame, frames, entry_in, initial_in}
use Rattle.cp_meaning.proofs.Good.{or_right}
use Rattle.cp_meaning.proofs.Stored.{frames_kept}
use Rattle.cp_meaning.proofs.ComponentTree.{kind_at, SameTree, same_tree, set_tree}

-- ---- what is held; base are the components with their tree, me the component of the process

abbrev pub HeldBy : List Component → ℕ → List Frame → ℕ → Type 0
HeldBy base me fs n = (owner_of base n ≡ me) ⊎ ((kind_at base (owner_of base n) ≡ system_kind.Monitor) × ((entry_in (owner_of base n) fs ≡ true) ⊎ (initial_in (owner_of base n) fs ≡ true)))

abbrev pub HeldPlace : List Component → ℕ → List Frame → Holder → Type 0
HeldPlace base me fs (in_call b) = b < length fs
HeldPlace base me fs (in_component n) = HeldBy base me fs n

abbrev pub RefersHeld : List Component → ℕ → List Frame → Environment → Type 0
RefersHeld base me fs e = (x : Name) (q : Place) → content_of x e ≡ Some (refers q) → HeldPlace base me fs q.holder

abbrev pub HeldCalls : List Component → ℕ → List Call → Type 0
HeldCalls base me [] = Unit {0}
HeldCalls base me (c ∷ calls) = HeldBy base me (frames (c ∷ calls)) c.component × (c.component < length base) × RefersHeld base me (frames calls) c.environment × HeldCalls base me calls

-- the outermost call is of the process itself
abbrev pub Bottom : ℕ → List Frame → Type 0
Bottom me [] = Unit {0}
Bottom me (f ∷ []) = f.1 ≡ me
Bottom me (f ∷ g ∷ fs) = Bottom me (g ∷ fs)

abbrev pub permanents_at : List Component → ℕ → Environment
permanents_at cs n = (component_at cs n).environment

-- P of each component and each component that it knows
abbrev pub Known : (ℕ → ℕ → Type 0) → List Component → Type 0
Known P cs = (n d : ℕ) (x : Name) → content_of x (permanents_at cs n) ≡ Some (knows d) → P n d

-- a class that a component knows has that component's owner
abbrev pub ClassesKnown : List Component → List Component → Type 0
ClassesKnown base cs = Known (λ n d. kind_at base d ≡ system_kind.Class → owner_of base d ≡ owner_of base n) cs

-- what a component knows, but for processes, is of an earlier type
abbrev pub EarlierKnown : List Component → List Component → Type 0
EarlierKnown base cs = Known (λ n d. (kind_at base d ≡ system_kind.Process → ⊥) → (component_at base d).system < (component_at base n).system) cs

pub held_more : (base : List Component) (me : ℕ) (f : Frame) (fs : List Frame) (n : ℕ) → HeldBy base me fs n → HeldBy base me (f ∷ fs) n
held_more base me f fs n (inl h) = inl h
held_more base me f fs n (inr h) = inr (h.0, go h.1)
  where
    go : (entry_in (owner_of base n) fs ≡ true) ⊎ (initial_in (owner_of base n) fs ≡ true) → (entry_in (owner_of base n) (f ∷ fs) ≡ true) ⊎ (initial_in (owner_of base n) (f ∷ fs) ≡ true)
    go (inl k) = inl (or_right _ (entry_in (owner_of base n) fs) k)
    go (inr k) = inr (or_right _ (initial_in (owner_of base n) fs) k)

pub place_more : (base : List Component) (me : ℕ) (f : Frame) (fs : List Frame) (h : Holder) → HeldPlace base me fs h → HeldPlace base me (f ∷ fs) h
place_more base me f fs (in_call b) k = omega arith
place_more base me f fs (in_component n) k = held_more base me f fs n k

-- held as another component of the same owner is
pub held_alike : (base : List Component) (me : ℕ) (fs : List Frame) (n m : ℕ) → owner_of base n ≡ owner_of base m → HeldBy base me fs m → HeldBy base me fs n
held_alike base me fs n m e h = subst (λ o. (o ≡ me) ⊎ ((kind_at base o ≡ system_kind.Monitor) × ((entry_in o fs ≡ true) ⊎ (initial_in o fs ≡ true)))) (sym e) h

pub length-frames : (cs : List Call) → length (frames cs) ≡ length cs
length-frames [] = refl
length-frames (c ∷ cs) = ap suc (length-frames cs)

-- past the last component there is none
pub kind_past : (cs : List Component) (n : ℕ) → length cs ≤ n → kind_at cs n ≡ system_kind.Process
kind_past [] n le = refl
kind_past (c ∷ cs) zero le = absurd (omega arith)
kind_past (c ∷ cs) (suc n) le = kind_past cs n (omega arith)

-- ---- contents

abbrev pub IsValue : Content → Type 0
IsValue (holds w) = Unit {0}
IsValue (refers q) = ⊥
IsValue (knows n) = ⊥

some_same : (a b : Content) → Some a ≡ Some b → a ≡ b
some_same a b e = cc

pub cons_content : (x : Name) (b : Name × Content) (bs : Environment) (k : Content) → content_of x (b ∷ bs) ≡ Some k → ((same_name x b.0 ≡ true) × (b.1 ≡ k)) ⊎ ((same_name x b.0 ≡ false) × (content_of x bs ≡ Some k))
cons_content x b bs k h = go (same_name x b.0) refl h
  where
    go : (s : Bool) → same_name x b.0 ≡ s → (if s then Some b.1 else content_of x bs) ≡ Some k → ((same_name x b.0 ≡ true) × (b.1 ≡ k)) ⊎ ((same_name x b.0 ≡ false) × (content_of x bs ≡ Some k))
    go true e h = inl (e, some_same b.1 k h)
    go false e h = inr (e, h)

cons_here : (x : Name) (b : Name × Content) (bs : Environment) → same_name x b.0 ≡ true → content_of x (b ∷ bs) ≡ Some b.1
cons_here x b bs e = rw e refl

cons_there : (x : Name) (b : Name × Content) (bs : Environment) → same_name x b.0 ≡ false → content_of x (b ∷ bs) ≡ content_of x bs
cons_there x b bs e = rw e refl

-- where a name's content becomes w, each other content was there
with_old : (x y : Name) (w : Value) (e : Environment) (k : Content) → content_of x (with_content y (holds w) e) ≡ Some k → (holds w ≡ k) ⊎ (content_of x e ≡ Some k)
with_old x y w [] k h = go (cons_content x (y, holds w) [] k h)
  where
    go : ((same_name x y ≡ true) × (holds w ≡ k)) ⊎ ((same_name x y ≡ false) × (content_of x [] ≡ Some k)) → (holds w ≡ k) ⊎ (content_of x [] ≡ Some k)
    go (inl e) = inl e.1
    go (inr e) = inr e.1
with_old x y w (b ∷ bs) k h = go (same_name y b.0) h (with_old x y w bs k)
  where
    here : ((same_name x b.0 ≡ true) × (holds w ≡ k)) ⊎ ((same_name x b.0 ≡ false) × (content_of x bs ≡ Some k)) → (holds w ≡ k) ⊎ (content_of x (b ∷ bs) ≡ Some k)
    here (inl e) = inl e.1
    here (inr e) = inr (cons_there x b bs e.0 ∙ e.1)

    later : (same_name x b.0 ≡ false) → (holds w ≡ k) ⊎ (content_of x bs ≡ Some k) → (holds w ≡ k) ⊎ (content_of x (b ∷ bs) ≡ Some k)
    later s (inl e) = inl e
    later s (inr e) = inr (cons_there x b bs s ∙ e)

    there : ((same_name x b.0 ≡ true) × (b.1 ≡ k)) ⊎ ((same_name x b.0 ≡ false) × (content_of x (with_content y (holds w) bs) ≡ Some k)) → (content_of x (with_content y (holds w) bs) ≡ Some k → (holds w ≡ k) ⊎ (content_of x bs ≡ Some k)) → (holds w ≡ k) ⊎ (content_of x (b ∷ bs) ≡ Some k)
    there (inl e) rest = inr (cons_here x b bs e.0 ∙ ap Some e.1)
    there (inr e) rest = later e.0 (rest e.1)

    go : (t : Bool) → content_of x (if t then (b.0, holds w) ∷ bs else b ∷ with_content y (holds w) bs) ≡ Some k → (content_of x (with_content y (holds w) bs) ≡ Some k → (holds w ≡ k) ⊎ (content_of x bs ≡ Some k)) → (holds w ≡ k) ⊎ (content_of x (b ∷ bs) ≡ Some k)
    go true h rest = here (cons_content x (b.0, holds w) bs k h)
    go false h rest = there (cons_content x b (with_content y (holds w) bs) k h) rest

no_value : (w : Value) (k : Content) → (IsValue k → ⊥) → holds w ≡ k → ⊥
no_value w k h e = h (subst IsValue e tt)

pub kept_content : (x y : Name) (w : Value) (e : Environment) (k : Content) → (IsValue k → ⊥) → content_of x (with_content y (holds w) e) ≡ Some k → content_of x e ≡ Some k
kept_content x y w e k never h = go (with_old x y w e k h)
  where
    go : (holds w ≡ k) ⊎ (content_of x e ≡ Some k) → content_of x e ≡ Some k
    go (inl s) = absurd (no_value w k never s)
    go (inr s) = s

pub append_content : (x : Name) (a b : Environment) (k : Content) → content_of x (a ++ b) ≡ Some k → (content_of x a ≡ Some k) ⊎ (content_of x b ≡ Some k)
append_content x [] b k h = inr h
append_content x (c ∷ a) b k h = go (cons_content x c (a ++ b) k h) (append_content x a b k)
  where
    later : (same_name x c.0 ≡ false) → (content_of x a ≡ Some k) ⊎ (content_of x b ≡ Some k) → (content_of x (c ∷ a) ≡ Some k) ⊎ (content_of x b ≡ Some k)
    later s (inl e) = inl (cons_there x c a s ∙ e)
    later s (inr e) = inr e

    go : ((same_name x c.0 ≡ true) × (c.1 ≡ k)) ⊎ ((same_name x c.0 ≡ false) × (content_of x (a ++ b) ≡ Some k)) → (content_of x (a ++ b) ≡ Some k → (content_of x a ≡ Some k) ⊎ (content_of x b ≡ Some k)) → (content_of x (c ∷ a) ≡ Some k) ⊎ (content_of x b ≡ Some k)
    go (inl e) rest = inl (cons_here x c a e.0 ∙ ap Some e.1)
    go (inr e) rest = later e.0 (rest e.1)

-- where the first environment has nothing for a name, the second one decides
pub nothing_append : (x : Name) (a b : Environment) → content_of x a ≡ None → content_of x (a ++ b) ≡ content_of x b
nothing_append x [] b h = refl
nothing_append x (c ∷ a) b h = go (same_name x c.0) h (nothing_append x a b)
  where
    go : (s : Bool) → (if s then Some c.1 else content_of x a) ≡ None → (content_of x a ≡ None → content_of x (a ++ b) ≡ content_of x b) → (if s then Some c.1 else content_of x (a ++ b)) ≡ content_of x b
    go true h rest = absurd (let bad : Some c.1 ≡ None = h in cc)
    go false h rest = rest h

-- least values are values
pub least_values : (x : Name) (vs : List Variable) (k : Content) → content_of x (least_of vs) ≡ Some k → IsValue k
least_values x [] k h = absurd (let bad : None ≡ Some k = h in cc)
least_values x (v ∷ vs) k h = each (has_components v.ty) h (least_values x vs k)
  where
    go : ((same_name x v.name ≡ true) × (holds (least v.ty) ≡ k)) ⊎ ((same_name x v.name ≡ false) × (content_of x (least_of vs) ≡ Some k)) → (content_of x (least_of vs) ≡ Some k → IsValue k) → IsValue k
    go (inl e) rest = subst IsValue e.1 tt
    go (inr e) rest = rest e.1

    each : (b : Bool) → content_of x (if b then least_of vs else (v.name, holds (least v.ty)) ∷ least_of vs) ≡ Some k → (content_of x (least_of vs) ≡ Some k → IsValue k) → IsValue k
    each true e rest = rest e
    each false e rest = go (cons_content x (v.name, holds (least v.ty)) (least_of vs) k e) rest

pub least_result_value : (x : Name) (o : Option Ty) (k : Content) → content_of x (least_result o) ≡ Some k → IsValue k
least_result_value x None k h = absurd (let bad : None ≡ Some k = h in cc)
least_result_value x (Some t) k h = go (cons_content x _ [] k h)
  where
    go : ((same_name x result_name ≡ true) × (holds (least t) ≡ k)) ⊎ ((same_name x result_name ≡ false) × (content_of x [] ≡ Some k)) → IsValue k
    go (inl e) = subst IsValue e.1 tt
    go (inr e) = absurd (let bad : None ≡ Some k = e.1 in cc)

-- ---- a value stored

held_env : (base : List Component) (me : ℕ) (cs : List Call) (b : ℕ) (e : Environment) → ((x : Name) (q : Place) → content_of x e ≡ Some (refers q) → content_of x (call_above cs b).environment ≡ Some (refers q)) → HeldCalls base me cs → HeldCalls base me (with_call_environment cs b e)
held_env base me [] b e h k = tt
held_env base me (c ∷ cs) b e h k = go (length cs == b) h (λ f. held_env base me cs b e f k.3)
  where
    go : (t : Bool) → ((x : Name) (q : Place) → content_of x e ≡ Some (refers q) → content_of x (if t then c else call_above cs b).environment ≡ Some (refers q)) →
        (((x : Name) (q : Place) → content_of x e ≡ Some (refers q) → content_of x (call_above cs b).environment ≡ Some (refers q)) → HeldCalls base me (with_call_environment cs b e)) →
        HeldCalls base me (if t then with_environment c e ∷ cs else c ∷ with_call_environment cs b e)
    go true f rest = (k.0, k.1, λ x q s. k.2 x q (f x q s), k.3)
    go false f rest =
        (subst (λ fs. HeldBy base me ((c.kind, c.component) ∷ fs) c.component) (sym (frames_kept cs b e)) k.0, k.1, subst (λ fs. RefersHeld base me fs c.environment) (sym (frames_kept cs b e)) k.2, rest f)

stored_in : (base : List Component) (me : ℕ) (v : View) (h : Holder) (y : Name) (w : Value) → HeldCalls base me v.calls → HeldCalls base me (with_environment_of v h (with_content y (holds w) (environment_of v h))).calls
stored_in base me v (in_call b) y w k = held_env base me v.calls b (with_content y (holds w) (call_above v.calls b).environment) (λ x q s. kept_content x y w (call_above v.calls b).environment (refers q) (λ z. z) s) k
stored_in base me v (in_component n) y w k = k

pub stored_held : (base : List Component) (me : ℕ) (v : View) (q : Place) (w : Value) → HeldCalls base me v.calls → HeldCalls base me (stored v q w).calls
stored_held base me v q w k = stored_in base me v q.holder q.name _ k

-- the permanent variables of component k, and those of each other one
pub permanents_set : (cs : List Component) (k n : ℕ) (c : Component) → ((n ≡ k) × (permanents_at (slice_set cs k c) n ≡ c.environment)) ⊎ (permanents_at (slice_set cs k c) n ≡ permanents_at cs n)
permanents_set cs k n c = go (at_set cs k n c no_component)
  where
    go : ((n ≡ k) × (k < length cs) × (get_or (set cs k c) n no_component ≡ c)) ⊎ ((n ≡ k → length cs ≤ k) × (get_or (set cs k c) n no_component ≡ get_or cs n no_component)) → ((n ≡ k) × (permanents_at (slice_set cs k c) n ≡ c.environment)) ⊎ (permanents_at (slice_set cs k c) n ≡ permanents_at cs n)
    go (inl h) = inl (h.0, ap (λ d. d.environment) h.2)
    go (inr h) = inr (ap (λ d. d.environment) h.1)

pub known_set : (P : ℕ → ℕ → Type 0) (cs : List Component) (k : ℕ) (c : Component) → ((d : ℕ) (x : Name) → content_of x c.environment ≡ Some (knows d) → P k d) → Known P cs → Known P (slice_set cs k c)
known_set P cs k c h old n d x e = go (permanents_set cs k n c)
  where
    go : ((n ≡ k) × (permanents_at (slice_set cs k c) n ≡ c.environment)) ⊎ (permanents_at (slice_set cs k c) n ≡ permanents_at cs n) → P n d
    go (inl s) = subst (λ j. P j d) (sym s.0) (h d x (sym (ap (content_of x) s.1) ∙ e))
    go (inr s) = old n d x (sym (ap (content_of x) s) ∙ e)

known_in : (P : ℕ → ℕ → Type 0) (v : View) (h : Holder) (y : Name) (w : Value) → Known P v.components → Known P (with_environment_of v h (with_content y (holds w) (environment_of v h))).components
known_in P v (in_call b) y w old = old
known_in P v (in_component n) y w old = known_set P v.components n _ (λ d x e. old n d x (kept_content x y w (permanents_at v.components n) (knows d) (λ z. z) e)) old

pub stored_known : (P : ℕ → ℕ → Type 0) (v : View) (q : Place) (w : Value) → Known P v.components → Known P (stored v q w).components
stored_known P v q w old = known_in P v q.holder q.name _ old

tree_in : (v : View) (h : Holder) (e : Environment) → SameTree v.components (with_environment_of v h e).components
tree_in v (in_call b) e = same_tree v.components
tree_in v (in_component n) e = set_tree v.components n _ refl refl refl

pub stored_tree : (v : View) (q : Place) (w : Value) → SameTree v.components (stored v q w).components
stored_tree v q w = tree_in v q.holder _
