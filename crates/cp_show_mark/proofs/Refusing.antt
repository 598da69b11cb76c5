-- Whether an expectation can be asked of a program, by what is said against it.
use Rattle.std.proofs.Common.{◌≡◌, ◌∙◌, Bool, true, false, not, ◌&&◌, List, [], ◌∷◌, None, Some, ap, refl, sym}
use Rattle.std.specs.Prelude.{Option, is_none}
use Rattle.std.specs.List.{list_all}
use Rattle.cp_expectation.specs.Objections.{objection_to}
use Rattle.cp_expectation.specs.declared.expectation.Expectation.{Expectation}
use Rattle.cp_expectation.specs.declared.expectation.Topic.{Topic}
use Rattle.cp_expectation.specs.declared.objection.Objection.{Objection}
use Rattle.cp_expectation.specs.declared.objection.Question.{Question}
use Rattle.cp_verdict.specs.endless.Naming.{Names, knows_processes}
use Rattle.cp_show_mark.specs.Given.{is_asked, knows_values}

-- ---- tests of all topics

both_each : (f g : Topic → Bool) (ts : List Topic) → list_all (λ t. f t && g t) ts ≡ (list_all f ts && list_all g ts)
both_each f g [] = refl
both_each f g (t ∷ ts) = ap (λ b. (f t && g t) && b) (both_each f g ts) ∙ four (f t) (g t) (list_all f ts) (list_all g ts)
  where
    four : (a b c d : Bool) → ((a && b) && (c && d)) ≡ ((a && c) && (b && d))
    four true true c d = refl
    four true false true d = refl
    four true false false d = refl
    four false b c d = refl

-- ---- what is said against an expectation

module _ (q : Question) (n : Names) (e : Expectation) where
  abbrev processes : Bool
  processes = list_all (knows_processes n.processes) e.topics.items

  abbrev values : Bool
  values = list_all (knows_values n.values) e.topics.items

  parts : is_asked q n e ≡ (is_none (objection_to q e) && (processes && values))
  parts = ap (λ b. is_none (objection_to q e) && b) (both_each (knows_processes n.processes) (knows_values n.values) e.topics.items)

  -- a topic that can't be asked
  pub objected : (found : Option Objection) (o : Objection) → found ≡ Some o → found ≡ objection_to q e → true ≡ not (is_asked q n e)
  objected found o some is = sym (ap not (parts ∙ ap (λ x. is_none x && (processes && values)) (sym is ∙ some)))

  module _ {A : Type 0} (found : Option Objection) (none : found ≡ None) (is : found ≡ objection_to q e) (unknown : Option A) (known : is_none unknown ≡ processes) where
    first : is_asked q n e ≡ (is_none unknown && values)
    first = parts ∙ ap (λ x. is_none x && (processes && values)) (sym is ∙ none) ∙ ap (λ b. b && values) (sym known)

    -- a name that nobody has
    pub unknown_name : (x : A) → unknown ≡ Some x → true ≡ not (is_asked q n e)
    unknown_name x some = sym (ap not (first ∙ ap (λ o. is_none o && values) some))

    module _ (nobody : unknown ≡ None) {B : Type 0} (undeclared : Option B) (declared : is_none undeclared ≡ values) where
      second : is_asked q n e ≡ is_none undeclared
      second = first ∙ ap (λ o. is_none o && values) nobody ∙ sym declared

      -- a value that no display can print
      pub undeclared_value : (x : B) → undeclared ≡ Some x → true ≡ not (is_asked q n e)
      undeclared_value x some = sym (ap not (second ∙ ap is_none some))

      -- nothing is
      pub can_be_asked : undeclared ≡ None → false ≡ not (is_asked q n e)
      can_be_asked none_here = sym (ap not (second ∙ ap is_none none_here))
