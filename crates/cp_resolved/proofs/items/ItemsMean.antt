-- The items that are laid out of a statement mean something: the calls in it, and its own item.
use Rattle.std.proofs.Common.{◌≡◌, ℕ, List, [], ◌∷◌, ◌++◌, length, Option, Some, None, refl, sym, ap, subst, ◌∙◌, append-nil, append_assoc}
use Rattle.cp_slots.specs.Code as code
use Rattle.cp_resolved.proofs.Words.{Each, Layer, Pending, add_item, without_pending, add_items, settle_items, temporary, Item, function_call, Here, Ground, Calls, Means}
use Rattle.cp_resolved.proofs.items.Going.{CallPending, PendingAre, Goes}
use Rattle.cp_resolved.proofs.laid.Kept.{Kept}
use Rattle.cp_tree.specs.Syntax as syntax
use Rattle.cp_meaning.specs.State.{statement_item}
use Rattle.cp_resolved.proofs.laid.SettledItems.{made, ended, CheckPending, ChecksPending, ChecksGo}
use Rattle.cp_resolved.proofs.frames.FrameCells.{each_both}

-- an item of the routine of this number
pub record IsMeant (h : Here) (n : ℕ) (i : code.Item) : Type 0 where
  pub means : Means h i.action
  pub routine : i.routine ≡ n

abbrev pub AreMeant : Here → ℕ → List code.Item → Type 0
AreMeant h n is = Each (IsMeant h n) is

-- the items of a state after those of an earlier one
pub record NewItems (h : Here) (l m : Layer) : Type 0 where
  pub new : List code.Item
  pub same : m.items ≡ l.items ++ new
  pub routines : m.routines ≡ l.routines
  pub meant : AreMeant h (length l.routines) new

pub none_new : (h : Here) (l : Layer) → NewItems h l l
none_new h l = record { new = []; same = sym (append-nil l.items); routines = refl; meant = tt }

pub both_new : (h : Here) (l m o : Layer) → NewItems h l m → NewItems h m o → NewItems h l o
both_new h l m o a b =
    record {
      new = a.new ++ b.new;
      same = b.same ∙ ap (λ is. is ++ b.new) a.same ∙ append_assoc l.items a.new b.new;
      routines = b.routines ∙ a.routines;
      meant = each_both (IsMeant h (length l.routines)) a.new b.new a.meant (subst (λ n. AreMeant h n b.new) (ap (λ rs. length rs) a.routines) b.meant);
    }

-- ---- what is to come

abbrev AllMean : Here → List Pending → Type 0
AllMean h ps = Each (λ (p : Pending). Means h p.action) ps

pending_mean : (lines : List ℕ) (h : Here) (ps : List Pending) (is : List Item) → PendingAre lines h ps is → AllMean h ps
pending_mean lines h [] [] a = tt
pending_mean lines h (p ∷ ps) (function_call at d es ∷ is) a =
    let c : CallPending lines h at d es p = a.0 in
    let i : Calls h c.number c.part c.is_entry c.arguments _ = record { designator = d; expressions = es; name = Some (temporary at); called = c.called; goes = c.taken; cell = refl; chosen = c.chosen; held = c.held } in
    (subst (Means h) (sym c.action) i, pending_mean lines h ps is a.1)
pending_mean lines h _ _ a = absurd a

all_new : (h : Here) (l : Layer) (ps : List Pending) (next : Option ℕ) → AllMean h ps → NewItems h l (add_items l ps next).1
all_new h l [] next a = none_new h l
all_new h l (p ∷ ps) next a =
    let rest : Option ℕ × Layer = add_items l ps next in
    let i : code.Item = made rest.1 p rest.0 in
    both_new h l rest.1 (add_items l (p ∷ ps) next).1 (all_new h l ps next a.1) (record { new = i ∷ []; same = refl; routines = refl; meant = (record { means = a.0; routine = refl }, tt) })

pending_new : (h : Here) (l j : Layer) (next : Option ℕ) → j.items ≡ l.items → j.routines ≡ l.routines → AllMean h j.pending → NewItems h l (settle_items j next).1
pending_new h l j next items routines a =
    let z : Layer = without_pending j in
    both_new h l z (settle_items j next).1 (record { new = []; same = items ∙ sym (append-nil l.items); routines = routines; meant = tt }) (all_new h z j.pending next a)

checks_mean : (g : Ground) (h : Here) (ps : List Pending) (cs : List Item) → ChecksPending g h ps cs → AllMean h ps
checks_mean g h [] [] a = tt
checks_mean g h (p ∷ ps) (statement_item (syntax.invoke at d es) ∷ cs) a =
    let c : CheckPending g h at d es p = a.0 in
    let i : Calls h c.number c.part c.is_entry c.arguments None = record { designator = d; expressions = es; name = None; called = c.called; goes = tt; cell = refl; chosen = c.chosen; held = c.held } in
    (subst (Means h) (sym c.action) i, checks_mean g h ps cs a.1)
checks_mean g h _ _ a = absurd a

-- the calls of a statement, the checks before it and its own item
pub checked_new : (g : Ground) (h : Here) (l m o : Layer) (is cs : List Item) (at : ℕ) (a : code.Action) (need : ℕ) (next : Option ℕ) → l.pending ≡ [] → Kept l o → Goes g.lines h l m is → ChecksGo g h m o cs → Means h a → NewItems h l (ended g h o at a need next).1
checked_new g h l m o is cs at a need next none s i c x =
    let own : Pending = record { action = a; line = _; need = need } in
    let e : o.pending ≡ i.new ++ c.new = c.pending ∙ ap (λ ps. ps ++ c.new) (i.pending ∙ ap (λ ps. ps ++ i.new) none) in
    let before : AllMean h (i.new ++ c.new) = each_both (λ (p : Pending). Means h p.action) i.new c.new (pending_mean g.lines h i.new is i.stand) (checks_mean g h c.new cs c.stand) in
    pending_new h l (add_item o at a need) next (ap (λ (k : Layer). k.items) s) (ap (λ (k : Layer). k.routines) s) (each_both (λ (p : Pending). Means h p.action) o.pending (own ∷ []) (subst (AllMean h) (sym e) before) (x, tt))

-- checks alone
pub end_new : (g : Ground) (h : Here) (l m : Layer) (cs : List Item) → l.pending ≡ [] → Kept l m → ChecksGo g h l m cs → NewItems h l (settle_items m None).1
end_new g h l m cs none s c = pending_new h l m None (ap (λ (k : Layer). k.items) s) (ap (λ (k : Layer). k.routines) s) (subst (AllMean h) (sym (c.pending ∙ ap (λ ps. ps ++ c.new) none)) (checks_mean g h c.new cs c.stand))

-- the calls of a statement and its own item
pub ended_new : (g : Ground) (h : Here) (l m : Layer) (is : List Item) (at : ℕ) (a : code.Action) (need : ℕ) (next : Option ℕ) → l.pending ≡ [] → Kept l m → Goes g.lines h l m is → Means h a → NewItems h l (ended g h m at a need next).1
ended_new g h l m is at a need next none s i x =
    let j : Layer = add_item m at a need in
    let z : Layer = without_pending j in
    let own : Pending = record { action = a; line = _; need = need } in
    let ps : AllMean h j.pending = each_both (λ (p : Pending). Means h p.action) m.pending (own ∷ []) (subst (AllMean h) (sym (i.pending ∙ ap (λ ps. ps ++ i.new) none)) (pending_mean g.lines h i.new is i.stand)) (x, tt) in
    let n : NewItems h z (ended g h m at a need next).1 = all_new h z j.pending next ps in
    both_new h l z (ended g h m at a need next).1 (record { new = []; same = ap (λ (k : Layer). k.items) s ∙ sym (append-nil l.items); routines = ap (λ (k : Layer). k.routines) s; meant = tt }) n
