-- In a function of a tree, what is laid out knows its own result.
use Rattle.std.proofs.Common.{◌≡◌, ◌==◌, ℕ, true, false, Option, Some, None, length, slice_get, refl, sym, ap, subst, ◌∙◌}
use Rattle.cp_tree.specs.Syntax as syntax
use Rattle.cp_slots.specs.declared.place.PlaceOrigin.TheVariants as origin
use Rattle.cp_resolved.proofs.Words.{FunctionResult, LayoutMeaning, Compounds, Name, result_name, Ty, Scope, RoutineMeaning, result_type, all_begun, all_calls_laid, Here}
use Rattle.cp_resolved.proofs.Words.{frame_here, is_named, is_own, IsPlaced, place_of, KnowsAt, Opening, meaning_at, numbering_of, HasResult, ResultsAre, Layer}
use Rattle.cp_resolved.proofs.Words.{result_of, result_slot, own_result, begun_at, layer_or, name_with, name_in, origin_in, hidden_origin}
use Rattle.cp_symbols.specs.declared.names.LayoutMeaning.TheVariants as meaning
use Rattle.cp_layout.specs.Layers as layers
use Rattle.cp_meaning.specs.Scopes as scopes
use Rattle.cp_resolved.specs.FormedStatements.{OwnResult, KnowsResult}
use Rattle.cp_resolved.specs.InStep.{Numbering, TypeIs, FoundIs}
use Rattle.cp_resolved.proofs.names.Steps.{found_in}
use Rattle.cp_resolved.proofs.names.TreeKnown.{undeclared_name, opens_of, layouts_law}
use Rattle.cp_resolved.proofs.frames.LeastCells.{same_number as same_token}

record Held (k : Numbering) (ts : Compounds) (o : Option Ty) (f : Option FunctionResult) : Type 0 where
  result : FunctionResult
  is : f ≡ Some result
  belongs : TypeIs k ts (result_type o) result.value_type

held : (k : Numbering) (ts : Compounds) (o : Option Ty) (f : Option FunctionResult) → ResultsAre k ts o f → HasResult o → Held k ts o f
held k ts None f v i = absurd i
held k ts (Some t) None v i = absurd v
held k ts (Some t) (Some w) v i = record { result = w; is = refl; belongs = v }

not_found : (k : Numbering) (ts : Compounds) (q : Option LayoutMeaning) (s : Scope) → FoundIs k ts q None s → q ≡ None
not_found k ts None s f = refl
not_found k ts (Some m) s f = absurd f

pub with_own_name : (x : Name) (y : Option Name) (o : Option Ty) → is_named x (name_with y o) ≡ true → is_named x y ≡ true
with_own_name x y None h = absurd (let bad : false ≡ true = h in cc)
with_own_name x y (Some t) h = h

module _ (t : syntax.Tree) (place : IsPlaced t) (n : ℕ) (l : Layer) (e : slice_get (all_begun t) n ≡ Some l) (many : length l.routines ≡ n) where
  abbrev k : Numbering
  k = numbering_of t.program

  abbrev h : Here
  h = place_of t n

  known : KnowsAt t n l
  known = layouts_law t place n l e

  begun_is : begun_at t n ≡ l
  begun_is = ap (layer_or (layers.nothing_laid t.lines)) e

  found_for : (x : Name) (q : Option scopes.Meaning) → scopes.find x h.scope ≡ q → FoundIs k l.types (layers.find x l.names) q (scopes.since x h.scope)
  found_for x q m = subst (λ o. FoundIs k l.types (layers.find x l.names) o (scopes.since x h.scope)) m (found_in k l.types x l.names h.scope known.names.names)

  -- the name of the result is not declared
  result_cell : (frame_here h).origins result_name ≡ origin.Local (own_result l)
  result_cell =
      let none : layers.find result_name l.names ≡ None = not_found k l.types (layers.find result_name l.names) (scopes.since result_name h.scope) (found_for result_name None (undeclared_name result_name (meaning_at t.program n).scope (λ i. i) (place.words n))) in
      ap (λ (m : Layer). origin_in (hidden_origin m (all_calls_laid (meaning_at t.program n).scope (meaning_at t.program n).body) result_name) (layers.find result_name m.names)) begun_is ∙ ap (origin_in (origin.Local (own_result l))) none

  own_is : (x : Name) → is_own h x ≡ true → is_named x (opens_of t place n l e).opening.name ≡ true
  own_is x own =
      let o : Opening = (opens_of t place n l e).opening in
      with_own_name x o.name o.meaning.result (sym (ap (λ q. is_named x (name_in q)) (opens_of t place n l e).there) ∙ own)

  result_for : (x : Name) (r : syntax.Routine) (q : Option LayoutMeaning) (s : Scope) → is_own h x ≡ true → layers.find x l.names ≡ q → FoundIs k l.types q (Some (scopes.routine_meaning r)) s → HasResult (meaning_at t.program n).result → OwnResult k h l x
  result_for x r None s own f i has = absurd i
  result_for x r (Some m) s own f i has =
      let number : ℕ = i.0 in
      let there : layers.find x l.names ≡ Some (meaning.Routine number) = f ∙ ap (λ y. Some y) i.1 in
      let last : number ≡ length l.routines = (opens_of t place n l e).begins.own x (own_is x own) number there in
      let same : k.routines number ≡ meaning_at t.program n = ap (meaning_at t.program) (last ∙ many) in
      let results : ResultsAre k l.types (meaning_at t.program n).result (result_of l number) = subst (λ (q : RoutineMeaning). ResultsAre k l.types q.result (result_of l number)) same (known.calls.own x number there) in
      let w : Held k l.types (meaning_at t.program n).result (result_of l number) = held k l.types (meaning_at t.program n).result (result_of l number) results has in
      record {
        number = number;
        there = there;
        own = ap (λ j. j == length l.routines) last ∙ same_token (length l.routines);
        result = w.result;
        held = w.is;
        cell = result_cell ∙ ap (λ j. origin.Local (result_slot (result_of l j))) (sym last) ∙ ap (λ o. origin.Local (result_slot o)) w.is;
        belongs = w.belongs;
      }

  pub result_known : KnowsResult k h l
  result_known x r own met has = result_for x r (layers.find x l.names) (scopes.since x h.scope) own refl (found_for x (Some (scopes.routine_meaning r)) met) has
