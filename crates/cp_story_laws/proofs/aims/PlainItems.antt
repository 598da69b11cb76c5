-- An item that is no `delay` and no `continue` comes to no queue, and ends no call.
use Rattle.std.proofs.Common.{◌≡◌, ℕ, false, Option, None, refl, sym, subst}
use Rattle.cp_tree.specs.Syntax.{Statement, empty, assign, invoke, block, if_then, if_else, case_of, while_do, repeat_until, for_do, cycle, init, asserted, Designator, Expressions}
use Rattle.cp_slots.specs.declared.item.Action.{Action}
use Rattle.cp_slots.specs.declared.item.Action.TheVariants.{Delay, Continue}
use Rattle.cp_slots.specs.Code as code
use Rattle.cp_slots.specs.Tables.{item_at}
use Rattle.cp_machine.specs.Machine.{Machine}
use Rattle.cp_meaning.specs.Names.{Name}
use Rattle.cp_meaning.specs.State.{Item, statement_item, function_call, start_item, until}
use Rattle.cp_meaning.specs.Types.{Ty, ordinal, set_over, array_over, record_with}
use Rattle.cp_resolved.specs.Compiled.{Form, as_ordinal, as_set, as_place}
use Rattle.cp_resolved.specs.Layouts.{Here}
use Rattle.cp_resolved.specs.Stands.{Ground, AssignedBy, CallItem, ItemAt, Own}
use Rattle.cp_machine_laws.specs.Remaining.{ItemIs}
use Rattle.cp_story.specs.Aimed.{is_continue, queue_of}

-- neither of the two actions
abbrev pub IsPlain : code.Action → Type 0
IsPlain (code.delay p) = ⊥
IsPlain (code.continue_at p) = ⊥
IsPlain a = Unit {0}

pub ends_none : (a : Action) → IsPlain (code.action_seen a) → is_continue a ≡ false
ends_none (Continue p) k = absurd k
ends_none a k = refl

pub comes_to_none : (m : Machine) (q : ℕ) (a : Action) → IsPlain (code.action_seen a) → queue_of m q a ≡ None
comes_to_none m q (Delay p) k = absurd k
comes_to_none m q (Continue p) k = absurd k
comes_to_none m q a k = refl

assigned_plain : (u : Ty) (p : code.Place) (t : Ty) (f : Form) (a : code.Action) → AssignedBy u p t f a → IsPlain a
assigned_plain (ordinal r) p t (as_ordinal c) a e = subst IsPlain (sym e) tt
assigned_plain (set_over r) p t (as_set b) a e = subst IsPlain (sym e) tt
assigned_plain (array_over r u) p t (as_place q) a e = subst IsPlain (sym e.1) tt
assigned_plain (record_with ts) p t (as_place q) a e = subst IsPlain (sym e.1) tt
assigned_plain u p t f a e = absurd e

-- neither a call nor a standard procedure as a statement
abbrev pub InvokesNone : Item → Type 0
InvokesNone (statement_item (invoke at d es)) = ⊥
InvokesNone i = Unit {0}

module _ (g : Ground) (h : Here) (n : ℕ) (next : Option ℕ) where
  abbrev pub HasPlain : Type 0
  HasPlain = IsPlain (code.action_seen (item_at g.tables n).action)

  pub plain_at : (at : ℕ) (after : Option ℕ) (a : code.Action) → ItemAt g n at after a → IsPlain a → HasPlain
  plain_at at after a k plain = subst IsPlain (sym k.action) plain

  pub call_plain : (at : ℕ) (d : Designator) (es : Expressions) (result : Option Name) → CallItem g h n at d es result next → HasPlain
  call_plain at d es result k = plain_at at next _ k.item tt

  own_plain : (s : Statement) → InvokesNone (statement_item s) → Own g h s n next → HasPlain
  own_plain (empty at) o k = plain_at at next _ k tt
  own_plain (assign at d e) o k = plain_at at next k.act k.item (assigned_plain k.ty k.place k.value.ty k.value.form k.act k.assigned)
  own_plain (invoke at d es) o k = absurd o
  own_plain (block at ss) o k = plain_at at next _ k.2 tt
  own_plain (if_then at e s) o k = plain_at at next _ k.4 tt
  own_plain (if_else at e s u) o k = plain_at at next _ k.6 tt
  own_plain (case_of at e as' b) o k = plain_at at next _ k.5 tt
  own_plain (while_do at e s) o k = plain_at at next _ k.item tt
  own_plain (repeat_until at ss e) o k = plain_at at k.test _ k.item tt
  own_plain (for_do at i e d f s) o k = plain_at at next _ k.item tt
  own_plain (cycle at ss) o k = plain_at at next _ k.2 tt
  own_plain (init at ts) o k = absurd k
  own_plain (asserted at a e s) o k = plain_at at k.1 _ k.4 tt

  pub item_plain : (i : Item) → InvokesNone i → ItemIs g h n i next → HasPlain
  item_plain (statement_item s) o k = own_plain s o k
  item_plain (function_call at d es) o k = call_plain at d es _ k
  item_plain (start_item t) o k = plain_at _ next _ k.item tt
  item_plain (until ss e) o k = plain_at _ next _ k.item tt
  item_plain i o k = absurd k
