-- What an assignment to a variable of an open call leaves as it was: entries, and what stands for the items that are still to be done.
use Rattle.std.proofs.Common.{◌≡◌, ℕ, suc, ◌==◌, Bool, true, false, if◌then◌else◌, List, [], ◌∷◌, ap, sym, refl, subst, length}
use Rattle.cp_machine_laws.proofs.Words.{◌&&◌, ◌||◌, slice_set, Program, Frame, Entry, Rest, Successor, Return, InitEnd, Environment, Call, Item, has_entry}
use Rattle.cp_machine_laws.proofs.Words.{is_entry_kind, with_environment, with_call_environment, Layouts, Ground, StackIs}

-- ---- what an environment does not change

pub entries_kept : (n below : ℕ) (e : Environment) (cs : List Call) → has_entry n (with_call_environment cs below e) ≡ has_entry n cs
entries_kept n below e [] = refl
entries_kept n below e (c ∷ cs) = go (length cs == below) (entries_kept n below e cs)
  where
    go : (b : Bool) → has_entry n (with_call_environment cs below e) ≡ has_entry n cs → has_entry n (if b then with_environment c e ∷ cs else c ∷ with_call_environment cs below e) ≡ has_entry n (c ∷ cs)
    go true ih = refl
    go false ih = ap (λ b. (is_entry_kind c.kind && c.component == n) || b) ih

-- the same call but for its environment
pub stack_kept : (g : Ground) (p : Program) (l : Layouts) (below : ℕ) (e : Environment) (f : Frame) (calls : List Call) (items : List Item) (es : List Entry) → StackIs g p l f calls items es → StackIs g p l f (with_call_environment calls below e) items es
stack_kept g p l below e f calls items [] h =
    subst (λ cs. StackIs g p l f (with_call_environment cs below e) items []) (sym h.1) (go (0 == below))
  where
    go : (b : Bool) → StackIs g p l f (if b then with_environment h.0 e ∷ [] else h.0 ∷ []) items []
    go true = (with_environment h.0 e, refl, h.2, h.3)
    go false = (h.0, refl, h.2, h.3)
stack_kept g p l below e f calls items (Rest at ∷ es) h = (h.0, h.1, h.2, h.3, stack_kept g p l below e f calls h.1 es h.4)
stack_kept g p l below e f calls items (Successor at z last ∷ es) h = (h.0, h.1, h.2, h.3, h.4, stack_kept g p l below e f calls h.2 es h.5)
stack_kept g p l below e f calls items (Return caller slot monitor ∷ es) h =
    subst (λ cs. StackIs g p l f (with_call_environment cs below e) items (Return caller slot monitor ∷ es)) (sym h.4) (go (length h.1 == below) (stack_kept g p l below e caller h.1 h.3 es h.7))
  where
    go : (b : Bool) → StackIs g p l caller (with_call_environment h.1 below e) h.3 es → StackIs g p l f (if b then with_environment h.0 e ∷ h.1 else h.0 ∷ with_call_environment h.1 below e) items (Return caller slot monitor ∷ es)
    go true ih = (with_environment h.0 e, h.1, h.2, h.3, refl, h.5, h.6, h.7)
    go false ih = (h.0, with_call_environment h.1 below e, h.2, h.3, refl, h.5, h.6, ih)
stack_kept g p l below e f calls items (InitEnd caller component ∷ es) h =
    subst (λ cs. StackIs g p l f (with_call_environment cs below e) items (InitEnd caller component ∷ es)) (sym h.3) (go (length h.1 == below) (stack_kept g p l below e caller h.1 h.2 es h.6))
  where
    go : (b : Bool) → StackIs g p l caller (with_call_environment h.1 below e) h.2 es → StackIs g p l f (if b then with_environment h.0 e ∷ h.1 else h.0 ∷ with_call_environment h.1 below e) items (InitEnd caller component ∷ es)
    go true ih = (with_environment h.0 e, h.1, h.2, refl, h.4, h.5, h.6)
    go false ih = (h.0, with_call_environment h.1 below e, h.2, refl, h.4, h.5, ih)

pub set_set : {A : Type 0} (xs : List A) (n : ℕ) (a b : A) → slice_set (slice_set xs n a) n b ≡ slice_set xs n b
set_set (x ∷ xs) (suc n) a b = ap (λ ys. x ∷ ys) (set_set xs n a b)
set_set _ _ a b = refl
