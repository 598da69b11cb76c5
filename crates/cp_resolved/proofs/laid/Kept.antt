-- What an expression leaves of the state: it changes the frame, the items of its statement and the greatest number of arguments alone.
use Rattle.std.proofs.Common.{◌≡◌, ℕ, List, ap, ◌∙◌, refl}
use Rattle.cp_tree.specs.Syntax as syntax
use Rattle.cp_resolved.proofs.Words.{Layer, Frame, Pending, add_item, with_cell, with_room, with_count}
use Rattle.cp_layout.specs.LaidExpressions.{expression, sum, term, factor, arguments_from, designator, selector}
use Rattle.cp_layout.specs.LaidStatements.{check_invariants, check_before}
use Rattle.cp_layout.specs.Values.{Designated}
use Rattle.cp_symbols.specs.declared.names.PredeclaredRoutine.{PredeclaredRoutine}
use Rattle.cp_resolved.proofs.laid.Walked.{CallSteps, ItemSteps, any_calls, any_items, checked_walked, before_walked, never, expression_walked, sum_walked, term_walked, factor_walked, arguments_walked, designator_walked, selector_walked}

abbrev pub changed : Layer → Frame → List Pending → ℕ → Layer
changed l f ps n = record l { frame = f; pending = ps; arguments = n }

abbrev pub Kept : Layer → Layer → Type 0
Kept l m = m ≡ changed l m.frame m.pending m.arguments

pub kept_trans : (l k m : Layer) → Kept l k → Kept k m → Kept l m
kept_trans l k m h i = i ∙ ap (λ (j : Layer). changed j m.frame m.pending m.arguments) h

kept_calls : (l : Layer) → CallSteps (Kept l) (λ r. Unit {0}) ⊥ (λ x. ⊥)
kept_calls l = any_calls (Kept l) (λ m k h. kept_trans l m (with_count m k) h refl) (λ m r at a need h. kept_trans l m (add_item (with_room (with_cell m) r) at a need) h refl)

pub expression_kept : (l : Layer) (e : syntax.Expression) → Kept l (expression l e).1
expression_kept l e = expression_walked (kept_calls l) l e refl never

pub sum_kept : (l : Layer) (s : syntax.Sum) → Kept l (sum l s).1
sum_kept l s = sum_walked (kept_calls l) l s refl never

pub term_kept : (l : Layer) (t : syntax.Term) → Kept l (term l t).1
term_kept l t = term_walked (kept_calls l) l t refl never

pub factor_kept : (l : Layer) (f : syntax.Factor) → Kept l (factor l f).1
factor_kept l f = factor_walked (kept_calls l) l f refl never

pub arguments_kept : (l : Layer) (r n : ℕ) (es : syntax.Expressions) → Kept l (arguments_from l r n es).1
arguments_kept l r n es = arguments_walked (kept_calls l) l r n es refl never

pub designator_kept : (l : Layer) (d : syntax.Designator) → Kept l (designator l d).1
designator_kept l d = designator_walked (kept_calls l) l d refl never

pub selector_kept : (l : Layer) (d : Designated) (s : syntax.Selector) → Kept l (selector l d s).1
selector_kept l d s = selector_walked (kept_calls l) l d s refl never

-- ---- checks

kept_items : (l : Layer) → ItemSteps (Kept l) (λ r. Unit {0})
kept_items l = any_items (Kept l) (λ m r h. kept_trans l m (with_room m r) h refl) (λ m at a need h. kept_trans l m (add_item m at a need) h refl)

pub checked_kept : (l : Layer) (at : ℕ) → Kept l (check_invariants l at)
checked_kept l at = checked_walked (kept_calls l) (kept_items l) l at refl never

pub before_kept : (l : Layer) (at : ℕ) (q : PredeclaredRoutine) → Kept l (check_before l at q)
before_kept l at q = before_walked (kept_calls l) (kept_items l) l at q refl never
