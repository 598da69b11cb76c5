-- The items of a statement go into the tables: each is followed by one that is there, and has what it needs.
use Rattle.std.proofs.Common.{◌≡◌, ℕ, suc, ◌+◌, ◌*◌, ◌≤◌, min, max, List, [], ◌∷◌, ◌++◌, length, Option, Some, slice_get, refl, sym, ap, subst, ◌∙◌, ◌⊎◌, inl, inr, append_assoc, append-nil, arith, length-append}
use Rattle.cp_slots.specs.Code as code
use Rattle.cp_slots.specs.Code.{Action, Item}
use Rattle.cp_resolved.proofs.Words.{most, Layer, Pending, with_item, add_items, need_of, item_need}
use Rattle.cp_resolved.proofs.laid.Calling.{ActionFits, IsNoLoop, Onward, onward_items, onward_routines, action_onward, Ground}
use Rattle.cp_resolved.proofs.names.Entries.{last_entry, last_or_before}
use Rattle.cp_resolved.proofs.laid.Fitting.{Nests, ListFits, list_wider, list_longer}

-- ---- the items in the tables

-- where a loop begins again: an item whose number is the one that is named, if that is a word
pub record Again (is : List Item) (routine need named : ℕ) : Type 0 where
  pub place : ℕ
  pub is_named : named ≡ min place most
  pub nests : Nests is routine need place

abbrev pub AgainFits : List Item → (routine need : ℕ) → Action → Type 0
AgainFits is routine need (code.while_do e body named) = Again is routine need named
AgainFits is routine need (code.until e body named) = Again is routine need named
AgainFits is routine need a = Unit {0}

pub record ItemFits (l : Layer) (i : Item) : Type 0 where
  pub routine : i.routine ≤ length l.routines
  pub next : ListFits l.items i.routine i.need i.next
  pub action : ActionFits l i.routine i.need i.action
  pub again : AgainFits l.items i.routine i.need i.action

abbrev pub ItemsFit : Layer → Type 0
ItemsFit l = (at : ℕ) (i : Item) → slice_get l.items at ≡ Some i → ItemFits l i

pub record Fitted (l : Layer) (next : Option ℕ) : Type 0 where
  pub ground : Ground l
  pub items : ItemsFit l
  pub pending : l.pending ≡ []
  pub first : ListFits l.items (length l.routines) (need_of l.items next) next

pub again_none : (is : List Item) (r n : ℕ) (a : Action) → IsNoLoop a → AgainFits is r n a
again_none is r n (code.while_do e body named) h = absurd h
again_none is r n (code.until e body named) h = absurd h
again_none is r n _ h = tt

nests_onward : (is more : List Item) (r n k at : ℕ) → n ≤ k → Nests is r n at → Nests (is ++ more) r k at
nests_onward is more r n k at le h = list_longer is more r k (Some at) (list_wider is r n k (Some at) le h)

one_again : (is more : List Item) (r n k named : ℕ) → n ≤ k → Again is r n named → Again (is ++ more) r k named
one_again is more r n k named le h = record { place = h.place; is_named = h.is_named; nests = nests_onward is more r n k h.place le h.nests }

again_onward : (is more : List Item) (r n k : ℕ) (a : Action) → n ≤ k → AgainFits is r n a → AgainFits (is ++ more) r k a
again_onward is more r n k (code.while_do e body named) le h = one_again is more r n k named le h
again_onward is more r n k (code.until e body named) le h = one_again is more r n k named le h
again_onward is more r n k _ le h = tt

pub again_wider : (is : List Item) (r n k : ℕ) (a : Action) → n ≤ k → AgainFits is r n a → AgainFits is r k a
again_wider is r n k a le h = subst (λ (js : List Item). AgainFits js r k a) (append-nil is) (again_onward is [] r n k a le h)

pub item_onward : (l m : Layer) (i : Item) → Onward l m → ItemFits l i → ItemFits m i
item_onward l m i o h =
    let le : i.routine ≤ length l.routines = h.routine in
    record {
      routine = rw (onward_routines l m o) le;
      next = rw (onward_items l m o) (list_longer l.items o.grew.0 i.routine i.need i.next h.next);
      action = action_onward l m i.routine i.need i.need i.action (omega arith) o h.action;
      again = rw (onward_items l m o) (again_onward l.items o.grew.0 i.routine i.need i.need i.action (omega arith) h.again);
    }

-- ---- the items that are made

abbrev pub greatest : ℕ → List Pending → ℕ
greatest n [] = n
greatest n (p ∷ ps) = max (greatest n ps) p.need

abbrev pub AllOf : (Pending → Type 0) → List Pending → Type 0
AllOf P [] = Unit {0}
AllOf P (p ∷ ps) = P p × AllOf P ps

-- an item that was made of one that was to come, before a list that needs `n`
pub record Made (P : Pending → Type 0) (routine n : ℕ) (is : List Item) (at : ℕ) (i : Item) : Type 0 where
  pub from : Pending
  pub holds : P from
  pub action : i.action ≡ from.action
  pub same : i.routine ≡ routine
  pub need : max n from.need ≤ i.need
  pub next : ListFits is i.routine i.need i.next
  pub bounded : i.need ≤ 2 * at + 2

pub record Steps (P : Pending → Type 0) (l : Layer) (n : ℕ) (ps : List Pending) (x : Option ℕ × Layer) : Type 0 where
  pub new : List Item
  pub layer : x.1 ≡ (let j : Layer = record l { items = l.items ++ new } in j)
  pub count : length new ≡ length ps
  pub first : ListFits x.1.items (length l.routines) (need_of x.1.items x.0) x.0
  pub need : need_of x.1.items x.0 ≡ greatest n ps
  pub place : (k : ℕ) → suc k ≡ length ps → x.0 ≡ Some (length l.items + k)
  pub made : (at : ℕ) (i : Item) → slice_get x.1.items at ≡ Some i → (slice_get l.items at ≡ Some i) ⊎ Made P (length l.routines) n x.1.items at i

made_longer : (P : Pending → Type 0) (r n : ℕ) (is more : List Item) (at : ℕ) (i : Item) → Made P r n is at i → Made P r n (is ++ more) at i
made_longer P r n is more at i h =
    record { from = h.from; holds = h.holds; action = h.action; same = h.same; need = h.need; next = list_longer is more i.routine i.need i.next h.next; bounded = h.bounded }

greatest_least : (n : ℕ) (ps : List Pending) → n ≤ greatest n ps
greatest_least n [] = omega arith
greatest_least n (p ∷ ps) = let h = greatest_least n ps in omega (arith, h)

greatest_bound : (P : Pending → Type 0) (n b : ℕ) (ps : List Pending) → ((p : Pending) → P p → p.need ≤ b) → AllOf P ps → n ≤ b → greatest n ps ≤ b
greatest_bound P n b [] f h le = le
greatest_bound P n b (p ∷ ps) f h le =
    let u : p.need ≤ b = f p h.0 in
    let v : greatest n ps ≤ b = greatest_bound P n b ps f h.1 le in
    omega (arith, u, v)

module _ (P : Pending → Type 0) (l : Layer) (next : Option ℕ) (bound : (p : Pending) → P p → p.need ≤ 2 * length l.items + 2) (first : ListFits l.items (length l.routines) (need_of l.items next) next) (small : need_of l.items next ≤ 2 * length l.items + 2) where
  one_step : (p : Pending) (ps : List Pending) (x : Option ℕ × Layer) → P p → AllOf P ps → Steps P l (need_of l.items next) ps x → Steps P l (need_of l.items next) (p ∷ ps) (Some (length x.1.items), with_item x.1 p x.0)
  one_step p ps x h hs s =
      let n : ℕ = need_of l.items next in
      let i : Item = record { action = p.action; next = x.0; line = p.line; routine = length x.1.routines; need = max (need_of x.1.items x.0) p.need } in
      let got : slice_get (x.1.items ++ i ∷ []) (length x.1.items) ≡ Some i = last_entry x.1.items i in
      let rs : length x.1.routines ≡ length l.routines = ap (λ (j : Layer). length j.routines) s.layer in
      let is : x.1.items ≡ l.items ++ s.new = ap (λ (j : Layer). j.items) s.layer in
      let len : length x.1.items ≡ length l.items + length ps = ap (λ (js : List Item). length js) is ∙ length-append l.items s.new ∙ ap (λ k. length l.items + k) s.count in
      let g : need_of x.1.items x.0 ≡ greatest n ps = s.need in
      let low : n ≤ greatest n ps = greatest_least n ps in
      let high : greatest n ps ≤ 2 * length l.items + 2 = greatest_bound P n (2 * length l.items + 2) ps bound hs small in
      let own : p.need ≤ 2 * length l.items + 2 = bound p h in
      let here : Made P (length l.routines) n (x.1.items ++ i ∷ []) (length x.1.items) i =
      record {
        from = p;
        holds = h;
        action = refl;
        same = rs;
        need = omega (arith, g, low);
        next = list_longer x.1.items (i ∷ []) (length x.1.routines) i.need x.0 (list_wider x.1.items (length x.1.routines) (need_of x.1.items x.0) i.need x.0 (omega arith) (rw rs s.first));
        bounded = omega (arith, g, high, own, len);
      } in
      record {
        new = s.new ++ i ∷ [];
        layer = ap (λ (j : Layer). (let k : Layer = record j { items = j.items ++ i ∷ [] } in k)) s.layer ∙ ap (λ (js : List Item). (let k : Layer = record l { items = js } in k)) (append_assoc l.items s.new (i ∷ []));
        count = length-append s.new (i ∷ []) ∙ (let e : length s.new ≡ length ps = s.count in omega (arith, e));
        first = record { item = i; there = got; same = rs; fits = rw got (omega arith) };
        need = ap item_need got ∙ ap (λ k. max k p.need) g;
        place = λ k e. ap (λ j. Some j) (omega (arith, len, e));
        made = λ at j e. go at j (last_or_before x.1.items i at j e) here;
      }
    where
      go : (at : ℕ) (j : Item) → (slice_get x.1.items at ≡ Some j) ⊎ ((at ≡ length x.1.items) × (j ≡ (let i : Item = record { action = p.action; next = x.0; line = p.line; routine = length x.1.routines; need = max (need_of x.1.items x.0) p.need } in i)))
          → Made P (length l.routines) (need_of l.items next) (with_item x.1 p x.0).items (length x.1.items) (record { action = p.action; next = x.0; line = p.line; routine = length x.1.routines; need = max (need_of x.1.items x.0) p.need })
          → (slice_get l.items at ≡ Some j) ⊎ Made P (length l.routines) (need_of l.items next) (with_item x.1 p x.0).items at j
      go at j (inl e) here = old (s.made at j e)
        where
          old : (slice_get l.items at ≡ Some j) ⊎ Made P (length l.routines) (need_of l.items next) x.1.items at j → (slice_get l.items at ≡ Some j) ⊎ Made P (length l.routines) (need_of l.items next) (with_item x.1 p x.0).items at j
          old (inl g) = inl g
          old (inr g) = inr (made_longer P (length l.routines) (need_of l.items next) x.1.items (record { action = p.action; next = x.0; line = p.line; routine = length x.1.routines; need = max (need_of x.1.items x.0) p.need } ∷ []) at j g)
      go at j (inr e) here = inr (rw (e.0, e.1) here)

  pub all_steps : (ps : List Pending) → AllOf P ps → Steps P l (need_of l.items next) ps (add_items l ps next)
  all_steps [] h = record { new = []; layer = ap (λ (js : List Item). (let k : Layer = record l { items = js } in k)) (sym (append-nil l.items)); count = refl; first = first; need = refl; place = λ k e. absurd (omega (arith, e)); made = λ at i e. inl e }
  all_steps (p ∷ ps) h = one_step p ps (add_items l ps next) h.0 h.1 (all_steps ps h.1)
