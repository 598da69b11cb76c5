-- Open calls without their environments, and how the remaining items fit them.
use Rattle.std.proofs.Common.{◌≡◌, ℕ, zero, suc, ◌<◌, ◌≤◌, ◌==◌, ◌∙◌, ◌⊎◌, inl, inr, Bool, true, false, ◌&&◌, ◌||◌, List, [], ◌∷◌, ◌++◌, length, get_or, set, ap, sym, refl, subst, arith, eqb-true, eq-eqb}
use Rattle.cp_tree.specs.declared.declaration.SystemKind.TheVariants as system_kind
use Rattle.cp_meaning.specs.State.{Component, component_at, CallKind, own_statement, initial_statement, local_routine, entry_routine, Call, callers, Item, statement_item, function_call, start_item, until, successor, return, init_end, end, is_entry_kind, has_entry, has_init_end}

-- ---- one element of a list replaced

pub at_set : {A : Type 0} (xs : List A) (k n : ℕ) (x d : A) → ((n ≡ k) × (k < length xs) × (get_or (set xs k x) n d ≡ x)) ⊎ ((n ≡ k → length xs ≤ k) × (get_or (set xs k x) n d ≡ get_or xs n d))
at_set [] k n x d = inr ((λ e. omega arith), refl)
at_set (y ∷ ys) zero zero x d = inl (refl, omega arith, refl)
at_set (y ∷ ys) zero (suc n) x d = inr ((λ e. absurd (omega arith)), refl)
at_set (y ∷ ys) (suc k) zero x d = inr ((λ e. absurd (omega arith)), refl)
at_set {A} (y ∷ ys) (suc k) (suc n) x d = go (at_set ys k n x d)
  where
    go : ((n ≡ k) × (k < length ys) × (get_or (set ys k x) n d ≡ x)) ⊎ ((n ≡ k → length ys ≤ k) × (get_or (set ys k x) n d ≡ get_or ys n d)) →
        ((suc n ≡ suc k) × (suc k < length (y ∷ ys)) × (get_or (set (y ∷ ys) (suc k) x) (suc n) d ≡ x)) ⊎ ((suc n ≡ suc k → length (y ∷ ys) ≤ suc k) × (get_or (set (y ∷ ys) (suc k) x) (suc n) d ≡ get_or (y ∷ ys) (suc n) d))
    go (inl h) = inl (ap suc h.0, (let lt = h.1 in omega arith), h.2)
    go (inr h) = inr ((λ e. (let le = h.0 (omega arith) in omega arith)), h.1)

-- ---- frames

abbrev pub Frame : Type 0
Frame = CallKind × ℕ

abbrev pub frames : List Call → List Frame
frames [] = []
frames (c ∷ cs) = (c.kind, c.component) ∷ frames cs

abbrev pub is_initial_kind : CallKind → Bool
is_initial_kind initial_statement = true
is_initial_kind k = false

abbrev pub entry_in : ℕ → List Frame → Bool
entry_in m [] = false
entry_in m (f ∷ fs) = (is_entry_kind f.0 && f.1 == m) || entry_in m fs

abbrev pub initial_in : ℕ → List Frame → Bool
initial_in m [] = false
initial_in m (f ∷ fs) = (is_initial_kind f.0 && f.1 == m) || initial_in m fs

pub entry-frames : (m : ℕ) (cs : List Call) → has_entry m cs ≡ entry_in m (frames cs)
entry-frames m [] = refl
entry-frames m (c ∷ cs) = ap (λ b. (is_entry_kind c.kind && c.component == m) || b) (entry-frames m cs)

abbrev pub below : List Frame → List Frame
below [] = []
below (f ∷ fs) = fs

pub frames-callers : (cs : List Call) → frames (callers cs) ≡ below (frames cs)
frames-callers [] = refl
frames-callers (c ∷ cs) = refl

-- ---- items

abbrev pub TopReturns : List Frame → Type 0
TopReturns [] = ⊥
TopReturns ((local_routine, n) ∷ fs) = Unit {0}
TopReturns ((entry_routine, n) ∷ fs) = Unit {0}
TopReturns ((own_statement, n) ∷ fs) = ⊥
TopReturns ((initial_statement, n) ∷ fs) = ⊥

abbrev pub TopStarts : ℕ → List Frame → Type 0
TopStarts m [] = ⊥
TopStarts m ((initial_statement, n) ∷ fs) = n ≡ m
TopStarts m ((local_routine, n) ∷ fs) = ⊥
TopStarts m ((entry_routine, n) ∷ fs) = ⊥
TopStarts m ((own_statement, n) ∷ fs) = ⊥

abbrev pub ItemsFit : List Frame → List Item → Type 0
ItemsFit fs [] = (m : ℕ) → initial_in m fs ≡ false
ItemsFit fs (return o ∷ items) = TopReturns fs × ItemsFit (below fs) items
ItemsFit fs (init_end m ∷ items) = TopStarts m fs × ItemsFit (below fs) items
ItemsFit fs (end ∷ items) = ItemsFit fs items
ItemsFit fs (statement_item s ∷ items) = ItemsFit fs items
ItemsFit fs (function_call at d es ∷ items) = ItemsFit fs items
ItemsFit fs (start_item t ∷ items) = ItemsFit fs items
ItemsFit fs (until ss e ∷ items) = ItemsFit fs items
ItemsFit fs (successor at i z d b s ∷ items) = ItemsFit fs items

-- what is initialised is told by the open calls and by the items alike
pub fit-initial : (m : ℕ) (fs : List Frame) (items : List Item) → ItemsFit fs items → has_init_end m items ≡ initial_in m fs
fit-initial m fs [] h = sym (h m)
fit-initial m ((local_routine, n) ∷ fs) (return o ∷ items) h = fit-initial m fs items h.1
fit-initial m ((entry_routine, n) ∷ fs) (return o ∷ items) h = fit-initial m fs items h.1
fit-initial m ((initial_statement, n) ∷ fs) (init_end k ∷ items) h = let rest = fit-initial m fs items h.1 in rw (h.0, rest) refl
fit-initial m fs (end ∷ items) h = fit-initial m fs items h
fit-initial m fs (statement_item s ∷ items) h = fit-initial m fs items h
fit-initial m fs (function_call at d es ∷ items) h = fit-initial m fs items h
fit-initial m fs (start_item t ∷ items) h = fit-initial m fs items h
fit-initial m fs (until ss e ∷ items) h = fit-initial m fs items h
fit-initial m fs (successor at i z d b s ∷ items) h = fit-initial m fs items h
fit-initial m _ _ h = absurd h.0

-- items that open and end no call
abbrev pub IsPlain : Item → Type 0
IsPlain (return o) = ⊥
IsPlain (init_end m) = ⊥
IsPlain end = Unit {0}
IsPlain (statement_item s) = Unit {0}
IsPlain (function_call at d es) = Unit {0}
IsPlain (start_item t) = Unit {0}
IsPlain (until ss e) = Unit {0}
IsPlain (successor at i z d b s) = Unit {0}

abbrev pub ArePlain : List Item → Type 0
ArePlain [] = Unit {0}
ArePlain (i ∷ items) = IsPlain i × ArePlain items

pub plain-rest : (fs : List Frame) (i : Item) (items : List Item) → IsPlain i → ItemsFit fs (i ∷ items) → ItemsFit fs items
plain-rest fs (return o) items h f = absurd h
plain-rest fs (init_end m) items h f = absurd h
plain-rest fs _ items h f = f

pub plain-append : (xs ys : List Item) → ArePlain xs → ArePlain ys → ArePlain (xs ++ ys)
plain-append [] ys h k = k
plain-append (x ∷ xs) ys h k = (h.0, plain-append xs ys h.1 k)

pub plain-fit : (fs : List Frame) (xs items : List Item) → ArePlain xs → ItemsFit fs items → ItemsFit fs (xs ++ items)
plain-fit fs [] items h f = f
plain-fit fs (end ∷ xs) items h f = plain-fit fs xs items h.1 f
plain-fit fs (statement_item s ∷ xs) items h f = plain-fit fs xs items h.1 f
plain-fit fs (function_call at d es ∷ xs) items h f = plain-fit fs xs items h.1 f
plain-fit fs (start_item t ∷ xs) items h f = plain-fit fs xs items h.1 f
plain-fit fs (until ss e ∷ xs) items h f = plain-fit fs xs items h.1 f
plain-fit fs (successor at i z d b s ∷ xs) items h f = plain-fit fs xs items h.1 f
plain-fit fs _ items h f = absurd h.0

-- ---- the order of the open calls

abbrev pub system_at : List Component → ℕ → ℕ
system_at cs n = (component_at cs n).system

abbrev pub Above : List Component → CallKind → (n outer : ℕ) → Type 0
Above cs own_statement n outer = ⊥
Above cs local_routine n outer = n ≡ outer
Above cs entry_routine n outer = system_at cs n < system_at cs outer
Above cs initial_statement n outer = system_at cs n < system_at cs outer

abbrev pub IsOwn : List Component → CallKind → ℕ → Type 0
IsOwn cs own_statement n = (component_at cs n).kind ≡ system_kind.Process
IsOwn cs local_routine n = ⊥
IsOwn cs entry_routine n = ⊥
IsOwn cs initial_statement n = ⊥

abbrev pub Descends : List Component → List Frame → Type 0
Descends cs [] = Unit {0}
Descends cs (f ∷ []) = IsOwn cs f.0 f.1
Descends cs (f ∷ g ∷ fs) = Above cs f.0 f.1 g.1 × Descends cs (g ∷ fs)

or_false : (a b : Bool) → (a ≡ true → ⊥) → b ≡ false → (a || b) ≡ false
or_false true b h e = absurd (h refl)
or_false false b h e = e

not_itself : (cs : List Component) (n m : ℕ) → system_at cs m < system_at cs n → (n == m) ≡ true → ⊥
not_itself cs n m lt e = let same = eqb-true n m e in let bad : system_at cs m < system_at cs m = subst (λ k. system_at cs m < system_at cs k) same lt in omega arith

-- no open call of a component of an earlier type
pub no_entry_below : (cs : List Component) (m : ℕ) (f : Frame) (fs : List Frame) → Descends cs (f ∷ fs) → system_at cs m < system_at cs f.1 → entry_in m (f ∷ fs) ≡ false
no_entry_below cs m (own_statement, n) [] h lt = refl
no_entry_below cs m _ [] h lt = absurd h
no_entry_below cs m (own_statement, n) (g ∷ fs) h lt = absurd h.0
no_entry_below cs m (local_routine, n) (g ∷ fs) h lt = no_entry_below cs m g fs h.1 (subst (λ k. system_at cs m < system_at cs k) h.0 lt)
no_entry_below cs m (entry_routine, n) (g ∷ fs) h lt = or_false (n == m) _ (not_itself cs n m lt) (no_entry_below cs m g fs h.1 (let a = h.0 in omega arith))
no_entry_below cs m (initial_statement, n) (g ∷ fs) h lt = no_entry_below cs m g fs h.1 (let a = h.0 in omega arith)

pub no_initial_below : (cs : List Component) (m : ℕ) (f : Frame) (fs : List Frame) → Descends cs (f ∷ fs) → system_at cs m < system_at cs f.1 → initial_in m (f ∷ fs) ≡ false
no_initial_below cs m (own_statement, n) [] h lt = refl
no_initial_below cs m _ [] h lt = absurd h
no_initial_below cs m (own_statement, n) (g ∷ fs) h lt = absurd h.0
no_initial_below cs m (local_routine, n) (g ∷ fs) h lt = no_initial_below cs m g fs h.1 (subst (λ k. system_at cs m < system_at cs k) h.0 lt)
no_initial_below cs m (entry_routine, n) (g ∷ fs) h lt = no_initial_below cs m g fs h.1 (let a = h.0 in omega arith)
no_initial_below cs m (initial_statement, n) (g ∷ fs) h lt = or_false (n == m) _ (not_itself cs n m lt) (no_initial_below cs m g fs h.1 (let a = h.0 in omega arith))

-- what runs in a monitor is below an open entry call of it, or initialises it
pub entry_or_initial : (cs : List Component) (f : Frame) (fs : List Frame) → Descends cs (f ∷ fs) → (component_at cs f.1).kind ≡ system_kind.Monitor → (entry_in f.1 (f ∷ fs) ≡ true) ⊎ (initial_in f.1 (f ∷ fs) ≡ true)
entry_or_initial cs (own_statement, n) [] h mon = absurd (let bad : system_kind.Process ≡ system_kind.Monitor = sym h ∙ mon in cc)
entry_or_initial cs _ [] h mon = absurd h
entry_or_initial cs (own_statement, n) (g ∷ fs) h mon = absurd h.0
entry_or_initial cs (local_routine, n) (g ∷ fs) h mon = subst (λ k. (entry_in k (g ∷ fs) ≡ true) ⊎ (initial_in k (g ∷ fs) ≡ true)) (sym h.0) (entry_or_initial cs g fs h.1 (subst (λ k. (component_at cs k).kind ≡ system_kind.Monitor) h.0 mon))
entry_or_initial cs (entry_routine, n) (g ∷ fs) h mon = inl (rw (eq-eqb n n refl) refl)
entry_or_initial cs (initial_statement, n) (g ∷ fs) h mon = inr (rw (eq-eqb n n refl) refl)

pub descends_same : (cs ds : List Component) (fs : List Frame) → ((n : ℕ) → system_at ds n ≡ system_at cs n) → ((n : ℕ) → (component_at ds n).kind ≡ (component_at cs n).kind) → Descends cs fs → Descends ds fs
descends_same cs ds [] s k h = tt
descends_same cs ds ((own_statement, n) ∷ []) s k h = k n ∙ h
descends_same cs ds ((own_statement, n) ∷ g ∷ fs) s k h = absurd h.0
descends_same cs ds ((local_routine, n) ∷ g ∷ fs) s k h = (h.0, descends_same cs ds (g ∷ fs) s k h.1)
descends_same cs ds ((entry_routine, n) ∷ g ∷ fs) s k h = (rw (s n, s g.1) h.0, descends_same cs ds (g ∷ fs) s k h.1)
descends_same cs ds ((initial_statement, n) ∷ g ∷ fs) s k h = (rw (s n, s g.1) h.0, descends_same cs ds (g ∷ fs) s k h.1)
descends_same cs ds _ s k h = absurd h
