-- What a process is about to do stands on the same line on names and on slots.
use Rattle.std.proofs.Common.{◌≡◌, ◌∙◌, ℕ, List, [], ◌∷◌, Option, Some, None, ap, sym, refl}
use Rattle.std.specs.Prelude.{slice_index}
use Rattle.cp_tree.specs.Syntax.{Tree, Statement, empty, assign, invoke, block, if_then, if_else, case_of, while_do, repeat_until, for_do, cycle, init, asserted, Designator, Expression, Expressions}
use Rattle.cp_slots.specs.Tables.{Tables, item_at}
use Rattle.cp_machine.specs.declared.process.Entry.{Entry}
use Rattle.cp_machine.specs.declared.process.Entry.TheVariants.{Rest, Successor, Return, InitEnd}
use Rattle.cp_machine.specs.Machine.{Machine, thread_at}
use Rattle.cp_meaning.specs.Expressions.{name_of}
use Rattle.cp_meaning.specs.Scopes.{Meaning, standard_meaning, Standard, delay_procedure, continue_procedure, display_procedure, find}
use Rattle.cp_meaning.specs.State.{State, Item, statement_item, function_call, start_item, until}
use Rattle.cp_meaning.specs.State as named
use Rattle.cp_meaning.specs.Steps.{at_statement, at_item}
use Rattle.cp_resolved.specs.Layouts.{Layouts, Here, here}
use Rattle.cp_resolved.specs.Stands.{Ground, Own, Performed, InvokedBy, first_of}
use Rattle.cp_machine_laws.specs.Law.{ground_of}
use Rattle.cp_machine_laws.specs.Remaining.{ItemIs}
use Rattle.cp_machine_laws.specs.Represents.{StackIs}
use Rattle.cp_machine_laws.proofs.steps.Going.{Going, takes_one}
use Rattle.cp_story.specs.Aimed.{aim_in, aim_of_top}
use Rattle.cp_story_laws.specs.Lines.{line_of_item, first_line, next_line}

module _ (g : Ground) (h : Here) (n : ℕ) (next : Option ℕ) where
  -- the item of this number is on the line of a token
  abbrev IsOn : ℕ → Type 0
  IsOn at = (item_at g.tables n).line ≡ slice_index g.lines at

  performed_line : (at : ℕ) (s : Standard) (o : Option Expression) → Performed g h n at s o next → IsOn at
  performed_line at display_procedure (Some e) k = k.item.line
  performed_line at delay_procedure (Some e) k = k.item.line
  performed_line at continue_procedure (Some e) k = k.item.line
  performed_line at s o k = absurd k

  invoked_line : (at : ℕ) (m : Option Meaning) (d : Designator) (es : Expressions) → InvokedBy g h n at m d es next → IsOn at
  invoked_line at (Some (standard_meaning s)) d es k = performed_line at s (first_of es) k
  invoked_line at m d es k = k.item.line

  own_line : (s : Statement) → Own g h s n next → IsOn (at_statement s)
  own_line (empty at) k = k.line
  own_line (assign at d e) k = k.item.line
  own_line (invoke at d es) k = invoked_line at (find (name_of d) h.scope) d es k
  own_line (block at ss) k = k.2.line
  own_line (if_then at e s) k = k.4.line
  own_line (if_else at e s u) k = k.6.line
  own_line (case_of at e as' b) k = k.5.line
  own_line (while_do at e s) k = k.item.line
  own_line (repeat_until at ss e) k = k.item.line
  own_line (for_do at i e d f s) k = k.item.line
  own_line (cycle at ss) k = k.2.line
  own_line (init at ts) k = absurd k
  own_line (asserted at a e s) k = k.4.line

  item_line : (i : Item) → ItemIs g h n i next → IsOn (at_item i)
  item_line (statement_item s) k = own_line s k
  item_line (function_call at d es) k = k.item.line
  item_line (start_item t) k = k.item.line
  item_line (until ss e) k = k.item.line
  item_line i k = absurd k

module _ (t : Tree) (r : Tables) (l : Layouts) where
  abbrev ground : Ground
  ground = ground_of t r

  item_has_line : (h : Here) (n : ℕ) (next : Option ℕ) (i : Item) → ItemIs ground h n i next → line_of_item t i ≡ Some (item_at r n).line
  item_has_line h n next (statement_item s) k = ap Some (sym (item_line ground h n next (statement_item s) k))
  item_has_line h n next (function_call at d es) k = ap Some (sym (item_line ground h n next (function_call at d es) k))
  item_has_line h n next (start_item s) k = ap Some (sym (item_line ground h n next (start_item s) k))
  item_has_line h n next (until ss e) k = ap Some (sym (item_line ground h n next (until ss e) k))
  item_has_line h n next i k = absurd k

  module _ (s : State) (m : Machine) (p : ℕ) (going : Going ground t.program l s m p) where
    by_stack : (es : List Entry) → (thread_at m.threads p).stack ≡ es → StackIs ground t.program l (thread_at m.threads p).frame (named.process_at s.processes p).calls (named.process_at s.processes p).items es → next_line t s p ≡ (aim_of_top r m p es).line
    by_stack [] e is = ap (first_line t) is.2
    by_stack (Rest at ∷ es) e is =
        let one = takes_one ground t.program l s m p going at es e in
        ap (first_line t) one.taken.items ∙ item_has_line (here t.program l (thread_at m.threads p).frame.routine) at one.mid one.item one.taken.own
    by_stack (Successor at z last ∷ es) e is = ap (first_line t) is.3 ∙ ap (line_of_item t) is.4.same
    by_stack (Return caller slot None ∷ es) e is = ap (first_line t) is.5
    by_stack (Return caller slot (Some monitor) ∷ es) e is = ap (first_line t) is.5
    by_stack (InitEnd caller n ∷ es) e is = ap (first_line t) is.4

    pub lines_same : next_line t s p ≡ (aim_in r m p).line
    lines_same = by_stack (thread_at m.threads p).stack refl going.stack
