-- What the rules say of the function calls in an expression that breaks none, and which uses a designator has.
use Rattle.std.proofs.Common.{◌≡◌, ℕ, Bool, true, false, List, [], ◌∷◌, ◌++◌, Option, Some, Ok, refl, ap}
use Rattle.cp_resolved.proofs.Words.{Identifier, ValueType, Meaning, Context, Scope, Item, function_call}
use Rattle.cp_tree.specs.Syntax.{Expressions, Designator}
use Rattle.cp_scope.specs.declared.types.ValueType.TheVariants as types
use Rattle.cp_scope.specs.declared.types.Meaning.TheVariants as meaning
use Rattle.cp_scope.specs.Scopes.{Scopes, field_at, member_at}
use Rattle.cp_check.specs.declared.operand.DesignatedName as check_designated
use Rattle.cp_check.specs.declared.operand.Named.TheVariants as name
use Rattle.cp_check.specs.Names as names
use Rattle.cp_check.specs.Expressions.{designator}
use Rattle.cp_meaning.specs.Lifting.{is_call, own_call}
use Rattle.cp_resolved.specs.Typed.{IsSmallDesignator}
use Rattle.cp_resolved.proofs.statements.CallsJudged.{IsValue, CalledAs, GivesResult}
use Rattle.cp_resolved.proofs.agreeing.WithoutFaults.{ok_same}

module _ (s : Scopes) (w : Context) (f : Bool) (scope : Scope) where
  -- what the designator of a call names, and that the call breaks no rule
  pub record FunctionSaid (d : Designator) : Type 0 where
    pub small : IsSmallDesignator d
    pub value : check_designated.DesignatedName
    pub is : designator s w d ≡ Ok value
    pub kind : IsValue s w f value.named
    pub called : CalledAs s w f value.named
    pub result : GivesResult s w f value.named
    pub call : is_call scope d ≡ true

  abbrev pub AllSaid : List Item → Type 0
  AllSaid [] = Unit {0}
  AllSaid (function_call at d es ∷ is) = FunctionSaid d × AllSaid is
  AllSaid (i ∷ is) = ⊥

  pub said_both : (xs ys : List Item) → AllSaid xs → AllSaid ys → AllSaid (xs ++ ys)
  said_both [] ys h g = g
  said_both (function_call at d es ∷ xs) ys h g = (h.0, said_both xs ys h.1 g)
  said_both _ ys h g = absurd h

  pub own_said : (b : Bool) (at : ℕ) (d : Designator) (es : Expressions) → (b ≡ true → FunctionSaid d) → AllSaid (own_call b at d es)
  own_said true at d es h = (h refl, tt)
  own_said false at d es h = tt

  -- ---- designators

  field_uses : (at : ℕ) (d e : check_designated.DesignatedName) (o : Option (Option Meaning)) → names.with_field at d o ≡ Ok e → d.uses ≡ e.uses
  field_uses at d e (Some (Some (meaning.Variable t))) is = ap (λ (z : check_designated.DesignatedName). z.uses) (ok_same (names.designation at d.uses (names.part_of d.named t)) e is)
  field_uses at d e x is = absurd (cc)

  entry_uses : (at : ℕ) (d e : check_designated.DesignatedName) (o : Option (Option Meaning)) → names.with_entry at d o ≡ Ok e → d.uses ≡ e.uses
  entry_uses at d e (Some (Some (meaning.Routine n))) is = ap (λ (z : check_designated.DesignatedName). z.uses) (ok_same (names.designation at d.uses (name.Entry n)) e is)
  entry_uses at d e x is = absurd (cc)

  pub selected_uses : (i : Identifier) (d e : check_designated.DesignatedName) (o : Option ValueType) → names.member_by_type s i d o ≡ Ok e → d.uses ≡ e.uses
  selected_uses i d e (Some (types.Record n)) is = field_uses i.at d e (field_at n i.name s) is
  selected_uses i d e (Some (types.Component k n)) is = entry_uses i.at d e (member_at n i.name s) is
  selected_uses i d e _ is = ap (λ (z : check_designated.DesignatedName). z.uses) (ok_same (names.nothing i.at d.uses) e is)
