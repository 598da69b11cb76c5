-- Once the items of a statement are in the tables, each call stands in one, followed by the next, and the statement's own item comes last.
use Rattle.std.proofs.Common.{append_assoc, append-nil, Bool, None, ◌≡◌, ◌+◌, ◌<◌, max, ℕ, suc, List, [], ◌∷◌, ◌++◌, length, Option, Some, slice_get, slice_index, refl, sym, ap, subst, ◌∙◌, arith, length-append}
use Rattle.cp_slots.specs.Code as code
use Rattle.cp_resolved.proofs.Words.{Layer, Pending, need_of, add_item, without_pending, add_items, settle_items, temporary, Item, function_call, Here, AreHeld, designator_calls, expressions_calls}
use Rattle.cp_tree.specs.Syntax as syntax
use Rattle.cp_meaning.specs.State.{statement_item}
use Rattle.cp_resolved.specs.ItemsStand.{ItemIs, AreItems}
use Rattle.cp_resolved.specs.Stands.{Ground, ItemAt, IsCalled, CallItem, CallsAre, ChecksAre}
use Rattle.cp_resolved.proofs.names.Entries.{there, still_there, last_entry}
use Rattle.cp_resolved.proofs.items.Going.{CallPending, PendingAre, Goes}

-- ---- what is left of a state

pub all_frame : (l : Layer) (ps : List Pending) (next : Option ℕ) → (add_items l ps next).1.frame ≡ l.frame
all_frame l [] next = refl
all_frame l (p ∷ ps) next = all_frame l ps next

pub all_pending : (l : Layer) (ps : List Pending) (next : Option ℕ) → (add_items l ps next).1.pending ≡ l.pending
all_pending l [] next = refl
all_pending l (p ∷ ps) next = all_pending l ps next

abbrev pub made : Layer → Pending → Option ℕ → code.Item
made l p next = record { action = p.action; next = next; line = p.line; routine = length l.routines; need = max (need_of l.items next) p.need }

pub all_many : (l : Layer) (ps : List Pending) (next : Option ℕ) → length (add_items l ps next).1.items ≡ length l.items + length ps
all_many l [] next = omega arith
all_many l (p ∷ ps) next =
    let rest : Option ℕ × Layer = add_items l ps next in
    let e : length (rest.1.items ++ made rest.1 p rest.0 ∷ []) ≡ length rest.1.items + 1 = length-append rest.1.items (made rest.1 p rest.0 ∷ []) in
    omega (arith, e, all_many l ps next)

-- the first of the items has the greatest number
pub first_number : (l : Layer) (ps : List Pending) (own : Pending) (next : Option ℕ) → (add_items l (ps ++ own ∷ []) next).0 ≡ Some (length l.items + length ps)
first_number l [] own next = ap (λ n. Some n) (let e : length l.items ≡ length l.items + 0 = omega arith in e)
first_number l (p ∷ ps) own next =
    let e : length l.items + length (ps ++ own ∷ []) ≡ length l.items + suc (length ps) = omega (arith, length-append ps (own ∷ [])) in
    ap (λ n. Some n) (all_many l (ps ++ own ∷ []) next ∙ e)

module _ (g : Ground) (h : Here) where
  -- ---- items of the tables

  abbrev pub Holds : List code.Item → Type 0
  Holds is = AreItems g is

  pub holds_first : (is more : List code.Item) → Holds (is ++ more) → Holds is
  holds_first is more b n i e = b n i (still_there is more n i e)

  holds_tail : (l : Layer) (ps tail : List Pending) (next : Option ℕ) → Holds (add_items l (ps ++ tail) next).1.items → Holds (add_items l tail next).1.items
  holds_tail l [] tail next b = b
  holds_tail l (p ∷ ps) tail next b =
      let rest : Option ℕ × Layer = add_items l (ps ++ tail) next in
      holds_tail l ps tail next (holds_first rest.1.items (made rest.1 p rest.0 ∷ []) b)

  -- ---- calls, and a statement's own item

  calls_settled : (l : Layer) (ps tail : List Pending) (is : List Item) (next : Option ℕ) → PendingAre g.lines h ps is → Holds (add_items l (ps ++ tail) next).1.items → CallsAre g h (add_items l (ps ++ tail) next).0 is (add_items l tail next).0
  calls_settled l [] tail [] next a b = refl
  calls_settled l (p ∷ ps) tail (function_call at d es ∷ is) next a b =
      let rest : Option ℕ × Layer = add_items l (ps ++ tail) next in
      let i : code.Item = made rest.1 p rest.0 in
      let w : ItemIs g (length rest.1.items) i = b (length rest.1.items) i (last_entry rest.1.items i) in
      let c : CallPending g.lines h at d es p = a.0 in
      let item : CallItem g h (length rest.1.items) at d es (Some (temporary at)) rest.0 = record {
        number = c.number;
        part = c.part;
        is_entry = c.is_entry;
        arguments = c.arguments;
        called = c.called;
        item = record { place = w.inside; action = w.action ∙ c.action; follows = w.follows; line = w.line ∙ c.line };
        taken = c.taken;
      } in
      (length rest.1.items, rest.0, refl, item, calls_settled l ps tail is next a.1 (holds_first rest.1.items (i ∷ []) b))
  calls_settled l _ tail _ next a b = absurd a

  -- the items of calls lead to the own item
  pub record Led (first : Option ℕ) (is : List Item) (at : ℕ) (a : code.Action) (next : Option ℕ) : Type 0 where
    pub number : ℕ
    pub calls : CallsAre g h first is (Some number)
    pub item : ItemAt g number at next a

  settle : (l : Layer) (new : List Pending) (own : Pending) (is : List Item) (at : ℕ) (next : Option ℕ) → PendingAre g.lines h new is → own.line ≡ slice_index g.lines at → Holds (add_items l (new ++ own ∷ []) next).1.items → Led (add_items l (new ++ own ∷ []) next).0 is at own.action next
  settle l new own is at next a e b =
      let i : code.Item = made l own next in
      let w : ItemIs g (length l.items) i = holds_tail l new (own ∷ []) next b (length l.items) i (last_entry l.items i) in
      record { number = length l.items; calls = calls_settled l new (own ∷ []) is next a b; item = record { place = w.inside; action = w.action; follows = w.follows; line = w.line ∙ e } }

  -- a statement whose last item is its own
  abbrev pub ended : Layer → ℕ → code.Action → ℕ → Option ℕ → Option ℕ × Layer
  ended m at a need next = settle_items (add_item m at a need) next

  pub finish : (l m : Layer) (is : List Item) (at : ℕ) (a : code.Action) (need : ℕ) (next : Option ℕ) → l.pending ≡ [] → Goes g.lines h l m is → m.lines ≡ g.lines → Holds (ended m at a need next).1.items → Led (ended m at a need next).0 is at a next
  finish l m is at a need next none i ls b =
      let own : Pending = record { action = a; line = slice_index m.lines at; need = need } in
      let z : Layer = without_pending (add_item m at a need) in
      let e : m.pending ++ own ∷ [] ≡ i.new ++ own ∷ [] = ap (λ ps. ps ++ own ∷ []) (i.pending ∙ ap (λ ps. ps ++ i.new) none) in
      subst (λ ps. Led (add_items z ps next).0 is at a next) (sym e) (settle z i.new own is at next i.stand (ap (λ ls. slice_index ls at) ls) (subst (λ ps. Holds (add_items z ps next).1.items) e b))

  -- ---- checks

  -- an item that stands for a check
  pub record CheckPending (at : ℕ) (d : syntax.Designator) (es : syntax.Expressions) (p : Pending) : Type 0 where
    pub number : ℕ
    pub part : code.ComponentPlace
    pub is_entry : Bool
    pub arguments : List code.Argument
    pub called : IsCalled h d es number part is_entry arguments
    pub action : p.action ≡ code.call number part is_entry arguments None
    pub line : p.line ≡ slice_index g.lines at
    pub chosen : AreHeld h (designator_calls h.scope d)
    pub held : AreHeld h (expressions_calls h.scope es)

  abbrev pub ChecksPending : List Pending → List Item → Type 0
  ChecksPending [] [] = Unit {0}
  ChecksPending (p ∷ ps) (statement_item (syntax.invoke at d es) ∷ is) = CheckPending at d es p × ChecksPending ps is
  ChecksPending ps is = ⊥

  -- from one state to another there is an item to come for each check, and the frame has no cell more
  pub record ChecksGo (l m : Layer) (cs : List Item) : Type 0 where
    pub image : length m.frame.image ≡ length l.frame.image
    pub new : List Pending
    pub pending : m.pending ≡ l.pending ++ new
    pub stand : ChecksPending new cs

  pub checks_none : (l : Layer) → ChecksGo l l []
  checks_none l = record { image = refl; new = []; pending = sym (append-nil l.pending); stand = tt }

  checks_settled : (l : Layer) (ps tail : List Pending) (cs : List Item) (next : Option ℕ) → ChecksPending ps cs → Holds (add_items l (ps ++ tail) next).1.items → ChecksAre g h (add_items l (ps ++ tail) next).0 cs (add_items l tail next).0
  checks_settled l [] tail [] next a b = refl
  checks_settled l (p ∷ ps) tail (statement_item (syntax.invoke at d es) ∷ cs) next a b =
      let rest : Option ℕ × Layer = add_items l (ps ++ tail) next in
      let i : code.Item = made rest.1 p rest.0 in
      let w : ItemIs g (length rest.1.items) i = b (length rest.1.items) i (last_entry rest.1.items i) in
      let c : CheckPending at d es p = a.0 in
      let item : CallItem g h (length rest.1.items) at d es None rest.0 = record {
        number = c.number;
        part = c.part;
        is_entry = c.is_entry;
        arguments = c.arguments;
        called = c.called;
        item = record { place = w.inside; action = w.action ∙ c.action; follows = w.follows; line = w.line ∙ c.line };
        taken = tt;
      } in
      (length rest.1.items, rest.0, refl, item, checks_settled l ps tail cs next a.1 (holds_first rest.1.items (i ∷ []) b))
  checks_settled l _ tail _ next a b = absurd a

  -- the items of calls lead to those of checks, and these to the own item
  pub record LedChecked (first : Option ℕ) (is cs : List Item) (at : ℕ) (a : code.Action) (next : Option ℕ) : Type 0 where
    pub number : ℕ
    pub check : Option ℕ
    pub calls : CallsAre g h first is check
    pub checks : ChecksAre g h check cs (Some number)
    pub item : ItemAt g number at next a

  settle_checked : (l : Layer) (new checks : List Pending) (own : Pending) (is cs : List Item) (at : ℕ) (next : Option ℕ) → PendingAre g.lines h new is → ChecksPending checks cs → own.line ≡ slice_index g.lines at → Holds (add_items l (new ++ (checks ++ own ∷ [])) next).1.items →
      LedChecked (add_items l (new ++ (checks ++ own ∷ [])) next).0 is cs at own.action next
  settle_checked l new checks own is cs at next a c e b =
      let i : code.Item = made l own next in
      let before : Holds (add_items l (checks ++ own ∷ []) next).1.items = holds_tail l new (checks ++ own ∷ []) next b in
      let w : ItemIs g (length l.items) i = holds_tail l checks (own ∷ []) next before (length l.items) i (last_entry l.items i) in
      record {
        number = length l.items;
        check = (add_items l (checks ++ own ∷ []) next).0;
        calls = calls_settled l new (checks ++ own ∷ []) is next a b;
        checks = checks_settled l checks (own ∷ []) cs next c before;
        item = record { place = w.inside; action = w.action; follows = w.follows; line = w.line ∙ e };
      }

  pub finish_checked : (l m o : Layer) (is cs : List Item) (at : ℕ) (a : code.Action) (need : ℕ) (next : Option ℕ) → l.pending ≡ [] → Goes g.lines h l m is → ChecksGo m o cs → o.lines ≡ g.lines → Holds (ended o at a need next).1.items → LedChecked (ended o at a need next).0 is cs at a next
  finish_checked l m o is cs at a need next none i c ls b =
      let own : Pending = record { action = a; line = slice_index o.lines at; need = need } in
      let z : Layer = without_pending (add_item o at a need) in
      let e : o.pending ++ own ∷ [] ≡ i.new ++ (c.new ++ own ∷ []) = ap (λ ps. ps ++ own ∷ []) (c.pending ∙ ap (λ ps. ps ++ c.new) (i.pending ∙ ap (λ ps. ps ++ i.new) none)) ∙ append_assoc i.new c.new (own ∷ []) in
      subst (λ ps. LedChecked (add_items z ps next).0 is cs at a next) (sym e) (settle_checked z i.new c.new own is cs at next i.stand c.stand (ap (λ ls. slice_index ls at) ls) (subst (λ ps. Holds (add_items z ps next).1.items) e b))

  -- checks alone, at the end of a body
  pub checks_end : (l m : Layer) (cs : List Item) → l.pending ≡ [] → ChecksGo l m cs → Holds (settle_items m None).1.items → ChecksAre g h (settle_items m None).0 cs None
  checks_end l m cs none c b =
      let z : Layer = without_pending m in
      let e : m.pending ≡ c.new ++ [] = c.pending ∙ ap (λ ps. ps ++ c.new) none ∙ sym (append-nil c.new) in
      subst (λ ps. ChecksAre g h (add_items z ps None).0 cs None) (sym e) (checks_settled z c.new [] cs None c.stand (subst (λ ps. Holds (add_items z ps None).1.items) e b))

  -- a loop begins again at its first item, whose number is a word
  pub again_first : (l m : Layer) (is : List Item) (at : ℕ) (a : code.Action) (need : ℕ) (next : Option ℕ) → l.pending ≡ [] → Goes g.lines h l m is → Holds (ended m at a need next).1.items → ((ended m at a need next).0 ≡ Some (length m.items + length m.pending)) × (length m.items + length m.pending < length g.tables.items)
  again_first l m is at a need next none i b =
      let own : Pending = record { action = a; line = slice_index m.lines at; need = need } in
      let z : Layer = without_pending (add_item m at a need) in
      let many : length (ended m at a need next).1.items ≡ length m.items + length (m.pending ++ own ∷ []) = all_many z (m.pending ++ own ∷ []) next in
      let low : length m.items + length m.pending < length (ended m at a need next).1.items = omega (arith, many, length-append m.pending (own ∷ [])) in
      let at' : (x : code.Item) × (slice_get (ended m at a need next).1.items (length m.items + length m.pending) ≡ Some x) = there (ended m at a need next).1.items (length m.items + length m.pending) low in
      (first_number z m.pending own next, (b (length m.items + length m.pending) at'.0 at'.1).inside)
