-- What is read of a type is spelled so.
use Rattle.std.proofs.Common.{◌≡◌, ℕ, zero, suc, ◌+◌, true, false, cond, List, ◌∷◌, None, refl, arith}
use Rattle.cp_text.specs.declared.token.Kind.{Kind}
use Rattle.cp_text.specs.declared.token.Kind.TheVariants as kind
use Rattle.cp_text.specs.declared.token.Mark.TheVariants as mark
use Rattle.cp_tree.specs.declared.constant.Constant.{Constant}
use Rattle.cp_tree.specs.declared.constant.ConstantKind.{ConstantKind}
use Rattle.cp_tree.specs.declared.constant.ConstantKind.TheVariants as constant_kind
use Rattle.cp_tree.specs.Input.{Input, Outcome, Parser, ◌>>=◌, pure, sees, after, advance, first_mark, expect}
use Rattle.cp_tree.specs.Input as Input
use Rattle.cp_tree.specs.Syntax.{Simple, enumeration, subrange, TypeTerm, simple, array_of, set_type, record_of, FieldGroup, fields}
use Rattle.cp_tree.specs.View.{field_groups_of}
use Rattle.cp_tree.specs.Reading.{identifiers, constant, ended_list}
use Rattle.cp_tree.specs.ReadingTypes.{name_of, type_named, simple_from, enumeration_at, simple_type, set_at, array_with, field_group_with, record_with, type_by, type_with, type_term}
use Rattle.cp_tree.specs.Spelling.{put_simple, put_type, put_field_groups, put_more_field_groups, put_field_group}
use Rattle.cp_tree.specs.SpellingIndexed.{Begins, IsIndexedSimple, IsIndexedType, AreIndexedFieldGroups, AreIndexedMoreFieldGroups, IsIndexedFieldGroup}
use Rattle.cp_tree.specs.SpellingLevel.{type_depth, field_groups_depth, field_group_depth}
use Rattle.cp_tree.proofs.Shapes.{Shape, mark_shape, behind_of}
use Rattle.cp_tree.proofs.Steps.{Found, found_then, At, begins, Taken, Takes, takes_deep, Passed, sees_passes, expect_takes, joined, found_one, found_two, found_three, found_five}
use Rattle.cp_tree.proofs.FoundLists.{made_of, made_after, IsBuilt, IsBuiltLed, behind_passed, ended_of, ended_takes}
use Rattle.cp_tree.proofs.FoundConstants.{names_shape, identifiers_take, constant_shape, constant_takes}

abbrev pub simple_shape : ℕ → Shape Simple
simple_shape total = record { put = put_simple; indexed = IsIndexedSimple total; depth = λ s. 0 }

abbrev pub type_shape : ℕ → Shape TypeTerm
type_shape total = record { put = put_type; indexed = IsIndexedType total; depth = type_depth }

abbrev pub field_group_shape : ℕ → Shape FieldGroup
field_group_shape total = record { put = put_field_group; indexed = IsIndexedFieldGroup total; depth = field_group_depth }

abbrev pub more_field_groups_shape : ℕ → Shape (List FieldGroup)
more_field_groups_shape total = record { put = λ xs. put_more_field_groups (field_groups_of xs); indexed = λ xs. AreIndexedMoreFieldGroups total (field_groups_of xs); depth = λ xs. field_groups_depth (field_groups_of xs) }

abbrev pub field_groups_shape : ℕ → Shape (List FieldGroup)
field_groups_shape total = record { put = λ xs. put_field_groups (field_groups_of xs); indexed = λ xs. AreIndexedFieldGroups total (field_groups_of xs); depth = λ xs. field_groups_depth (field_groups_of xs) }

field_groups_built : (total : ℕ) → IsBuilt (behind_of mark.Semicolon (field_group_shape total)) (more_field_groups_shape total)
field_groups_built total = record { listed = record { no_put = λ ks. refl; more_put = λ x xs ks. refl; no_depth = refl; more_depth = λ x xs. refl }; no_indexed = λ ks. tt; more_indexed = λ x xs ks p q. (p, q) }

field_groups_led : (total : ℕ) → IsBuiltLed (field_group_shape total) (more_field_groups_shape total) (field_groups_shape total)
field_groups_led total = record { led = record { led_put = λ x xs ks. refl; led_depth = λ x xs. refl }; led_indexed = λ x xs ks p q. (p, q) }

-- ---- simple types

named_found : (total b at : ℕ) (c : ConstantKind) (i j : Input) → At total i → Taken total b (constant_shape total) i (record { at = at; kind = c }) j → Found total (Taken total b (simple_shape total) i) (type_named i.at (name_of c) j)
named_found total b at (constant_kind.Name None n) i j placed p = let one = p.0 in (record { spelled = one.spelled; indexed = begins total i _ placed one.spelled; shallow = omega arith }, p.1)
named_found total b at _ i j placed p = let here = p.1 in omega arith

simple_from_found : (total b : ℕ) (i k : Input) (c : Constant) → At total i → Taken total b (constant_shape total) i c k → Found total (Taken total b (simple_shape total) i) (simple_from i.at c k)
unfolding simple_from after
simple_from_found total b i k c placed p =
    let Q = Taken total b (simple_shape total) i in
    let upper : Parser Simple = constant >>= (λ d. pure (subrange i.at c d)) in
    elim (sees mark.DoublePeriod k) as (λ x. sees mark.DoublePeriod k ≡ x → Found total Q ((cond x upper (type_named i.at (name_of c.kind))) (cond x (advance k) k))) [
      | true ↦ λ e.
          let q = sees_passes total mark.DoublePeriod k p.1 e in
          found_one total b Q (constant_shape total) constant (λ d. subrange i.at c d) (constant_takes total b) (advance k) q.placed (λ d j t.
          let both = (joined total b (constant_shape total) (behind_of mark.DoublePeriod (constant_shape total)) i k j c d p (behind_passed total b mark.DoublePeriod (constant_shape total) k (advance k) j d q t)).0 in
          (record { spelled = both.spelled; indexed = (begins total i _ placed both.spelled, both.indexed.0, both.indexed.1); shallow = omega arith }, t.1))
      | false ↦ λ e. named_found total b c.at c.kind i k placed p
    ] refl

pub simple_takes : (total b : ℕ) → Takes total b (simple_shape total) simple_type
unfolding simple_type enumeration_at after
simple_takes total b i placed =
    let Q = Taken total b (simple_shape total) i in
    let names : Parser Simple = identifiers >>= (λ ns. expect mark.CloseParenthesis >>= (λ u. pure (enumeration i.at ns))) in
    let other : Parser Simple = constant >>= simple_from i.at in
    elim (sees mark.OpenParenthesis i) as (λ x. sees mark.OpenParenthesis i ≡ x → Found total Q ((cond x names other) (cond x (advance i) i))) [
      | true ↦ λ e.
          let q = sees_passes total mark.OpenParenthesis i placed e in
          found_two total b Q (names_shape total) (mark_shape mark.CloseParenthesis) identifiers (expect mark.CloseParenthesis) (λ ns u. enumeration i.at ns) (identifiers_take total b) (expect_takes total b mark.CloseParenthesis) (advance i) q.placed (λ ns u j t.
          made_after total b _ mark.OpenParenthesis _ _ i (advance i) j _ _ placed q t refl (λ p h. (p, h.0)) (λ d. omega arith))
      | false ↦ λ e. found_then total (Taken total b (constant_shape total) i) Q (constant i) (simple_from i.at) (constant_takes total b i placed) (λ c k p. simple_from_found total b i k c placed p)
    ] refl

-- ---- types

module _ (total b : ℕ) (inner : Parser TypeTerm) (law : Takes total b (type_shape total) inner) where
  abbrev TypeTaken : Input → TypeTerm → Input → Type 0
  TypeTaken i t j = Taken total (suc b) (type_shape total) i t j

  array_found : (i k : Input) → At total i → Passed total mark.Array i k → Found total (TypeTaken i) (array_with inner i.at k)
  unfolding array_with
  array_found i k placed q =
      found_five total b (TypeTaken i) (mark_shape mark.OpenBracket) (simple_shape total) (mark_shape mark.CloseBracket) (mark_shape mark.Of) (type_shape total)
      (expect mark.OpenBracket) simple_type (expect mark.CloseBracket) (expect mark.Of) inner (λ u s v w t. array_of i.at s t)
      (expect_takes total b mark.OpenBracket) (simple_takes total b) (expect_takes total b mark.CloseBracket) (expect_takes total b mark.Of) law k q.placed (λ u s v w t j taken.
      made_after total b _ mark.Array _ _ i k j _ _ placed q taken refl (λ p h. (p, h.1.0, h.1.1.1.1)) (λ d. omega arith))

  set_found : (i k : Input) → At total i → Passed total mark.Set i k → Found total (TypeTaken i) (set_at i.at k)
  unfolding set_at
  set_found i k placed q =
      found_two total b (TypeTaken i) (mark_shape mark.Of) (simple_shape total) (expect mark.Of) simple_type (λ u s. set_type i.at s) (expect_takes total b mark.Of) (simple_takes total b) k q.placed (λ u s j t.
      made_after total b _ mark.Set _ _ i k j _ _ placed q t refl (λ p h. (p, h.1)) (λ d. omega arith))

  field_group_takes : Takes total b (field_group_shape total) (field_group_with inner)
  unfolding field_group_with
  field_group_takes i placed =
      found_three total b (Taken total b (field_group_shape total) i) (names_shape total) (mark_shape mark.Colon) (type_shape total) identifiers (expect mark.Colon) inner (λ ns u t. fields ns t)
      (identifiers_take total b) (expect_takes total b mark.Colon) law i placed (λ ns u t j taken.
      made_of total b _ _ _ i j _ _ placed taken refl (λ p h. (h.0, h.1.1)) (λ d. omega arith))

  record_found : (i k : Input) → At total i → Passed total mark.Record i k → Found total (TypeTaken i) (record_with inner i.at k)
  unfolding record_with
  record_found i k placed q =
      found_two total b (TypeTaken i) (ended_of (field_groups_shape total)) (mark_shape mark.End) (ended_list (field_group_with inner)) (expect mark.End) (λ gs u. record_of i.at (field_groups_of gs.0) gs.1)
      (ended_takes total b (field_group_shape total) (more_field_groups_shape total) (field_groups_shape total) (field_groups_built total) (field_groups_led total) (field_group_with inner) field_group_takes) (expect_takes total b mark.End) k q.placed (λ gs u j t.
      made_after total b _ mark.Record _ _ i k j _ _ placed q t refl (λ p h. (p, h.0.0)) (λ d. omega arith))

  simple_found : (i : Input) → At total i → Found total (TypeTaken i) ((simple_type >>= (λ s. pure (simple i.at s))) i)
  simple_found i placed =
      found_one total b (TypeTaken i) (simple_shape total) simple_type (λ s. simple i.at s) (simple_takes total b) i placed (λ s j t.
      made_of total b _ _ _ i j _ _ placed t refl (λ p h. (p, h)) (λ d. omega arith))

  type_by_found : (at : ℕ) (ks : List Kind) → Begins total at ks → let i : Input = record { at = at; rest = ks } in Found total (TypeTaken i) (type_by inner at (first_mark ks) i)
  unfolding advance
  type_by_found at (kind.Mark mark.Array ∷ ks) placed = array_found (record { at = at; rest = kind.Mark mark.Array ∷ ks }) (record { at = at + 1; rest = ks }) placed (record { rest = refl; placed = omega arith })
  type_by_found at (kind.Mark mark.Set ∷ ks) placed = set_found (record { at = at; rest = kind.Mark mark.Set ∷ ks }) (record { at = at + 1; rest = ks }) placed (record { rest = refl; placed = omega arith })
  type_by_found at (kind.Mark mark.Record ∷ ks) placed = record_found (record { at = at; rest = kind.Mark mark.Record ∷ ks }) (record { at = at + 1; rest = ks }) placed (record { rest = refl; placed = omega arith })
  type_by_found at ks placed = simple_found (record { at = at; rest = ks }) placed

  pub type_with_takes : Takes total (suc b) (type_shape total) (type_with inner)
  unfolding type_with Input.mark
  type_with_takes i placed = type_by_found i.at i.rest placed

pub type_takes : (total b : ℕ) → Takes total b (type_shape total) (type_term b)
unfolding type_term
type_takes total zero i placed = takes_deep total zero (type_shape total) i placed
type_takes total (suc b) i placed = type_with_takes total b (type_term b) (type_takes total b) i placed
