-- The tokens of a type are read as that type.
use Rattle.std.proofs.Common.{◌≡◌, ℕ, zero, suc, ◌+◌, ◌<◌, Bool, true, false, List, [], ◌∷◌, Option, Some, None, refl, sym, ap, subst, arith}
use Rattle.cp_text.specs.declared.token.Kind.{Kind}
use Rattle.cp_text.specs.declared.token.Kind.TheVariants as kind
use Rattle.cp_text.specs.declared.token.Mark.{Mark}
use Rattle.cp_text.specs.declared.token.Mark.TheVariants as mark
use Rattle.cp_tree.specs.declared.constant.Sign.TheVariants as signs
use Rattle.cp_tree.specs.declared.constant.Constant.{Constant}
use Rattle.cp_tree.specs.declared.constant.ConstantKind.{ConstantKind}
use Rattle.cp_tree.specs.declared.constant.ConstantKind.TheVariants as constant_kind
use Rattle.cp_tree.specs.Input as Input
use Rattle.cp_tree.specs.Input.{Input, Outcome, Parser, ◌>>=◌, pure, same, is_mark, first_mark, advance, expect}
use Rattle.cp_tree.specs.Syntax.{Simple, type_name, enumeration, subrange, TypeTerm, simple, array_of, set_type, record_of, FieldGroups, no_fields, more_fields, FieldGroup, fields}
use Rattle.cp_tree.specs.View.{field_groups_of}
use Rattle.cp_tree.specs.Reading.{identifiers, constant, ended_list}
use Rattle.cp_tree.specs.ReadingTypes.{name_of, type_named, simple_from, enumeration_at, simple_type, set_at, array_with, field_group_with, record_with, type_by, type_with, type_term}
use Rattle.cp_tree.specs.Spelling.{put_names, put_constant_kind, put_constant, put_simple, put_type, put_more_field_groups, put_field_group, put_optional}
use Rattle.cp_tree.specs.SpellingLevel.{type_depth}
use Rattle.cp_tree.proofs.Shapes.{Shape, mark_shape, behind_of, IsListed}
use Rattle.cp_tree.proofs.FoundConstants.{constant_shape}
use Rattle.cp_tree.proofs.FoundTypes.{simple_shape, type_shape, field_group_shape, more_field_groups_shape, field_groups_shape}
use Rattle.cp_tree.proofs.Grows.{grows_field_group}
use Rattle.cp_tree.proofs.Lands.{on, Lands, lands_then, LandsOn, LandsAll, before, expect_lands, eaten, not_eaten, land_one, land_two, land_three, land_five}
use Rattle.cp_tree.proofs.LandsLists.{IsApart, IsApartLed, follows, ended_of, ended_lands}
use Rattle.cp_tree.proofs.AgainConstants.{NoComma, names_before, identifiers_land, constant_lands}

abbrev field_groups_list : FieldGroups → List FieldGroup
field_groups_list no_fields = []
field_groups_list (more_fields g gs) = g ∷ field_groups_list gs

field_groups_back : (gs : FieldGroups) → field_groups_of (field_groups_list gs) ≡ gs
field_groups_back no_fields = refl
field_groups_back (more_fields g gs) = ap (more_fields g) (field_groups_back gs)

-- ---- what follows a type, and where it begins

abbrev pub NoRange : List Kind → Type 0
NoRange ks = is_mark mark.DoublePeriod (first_mark ks) ≡ false

pub semicolon_no_range : (ks : List Kind) → NoRange (kind.Mark mark.Semicolon ∷ ks)
unfolding same
semicolon_no_range ks = refl

end_no_range : (ks : List Kind) → NoRange (kind.Mark mark.End ∷ ks)
unfolding same
end_no_range ks = refl

bracket_no_range : (ks : List Kind) → NoRange (kind.Mark mark.CloseBracket ∷ ks)
unfolding same
bracket_no_range ks = refl

optional_no_range : (c : Bool) (ks : List Kind) → NoRange (put_optional mark.Semicolon c (kind.Mark mark.End ∷ ks))
optional_no_range true ks = semicolon_no_range (kind.Mark mark.End ∷ ks)
optional_no_range false ks = end_no_range ks

pub colon_no_comma : (ks : List Kind) → NoComma (kind.Mark mark.Colon ∷ ks)
unfolding same
colon_no_comma ks = refl

pub parenthesis_no_comma : (ks : List Kind) → NoComma (kind.Mark mark.CloseParenthesis ∷ ks)
unfolding same
parenthesis_no_comma ks = refl

-- a sign, or no mark: what a constant begins with
abbrev pub is_sign : Option Mark → Bool
is_sign None = true
is_sign (Some mark.Plus) = true
is_sign (Some mark.Minus) = true
is_sign _ = false

pub constant_sign : (c : ConstantKind) (ks : List Kind) → is_sign (first_mark (put_constant_kind c ks)) ≡ true
constant_sign (constant_kind.Number (Some signs.Plus) n) ks = refl
constant_sign (constant_kind.Name (Some signs.Plus) n) ks = refl
constant_sign _ ks = refl

sign_no_parenthesis : (o : Option Mark) → is_sign o ≡ true → is_mark mark.OpenParenthesis o ≡ false
unfolding same
sign_no_parenthesis (Some mark.Plus) e = refl
sign_no_parenthesis _ e = cc

-- ---- simple types

abbrev simple_before : ℕ → Shape Simple
simple_before total = before (simple_shape total) NoRange

pub simple_lands : (total b : ℕ) → LandsAll total b (simple_before total) simple_type
unfolding simple_type enumeration_at simple_from
simple_lands total b (type_name at m) n ks placed indexed =
    let same_at : n ≡ at = omega (arith, indexed.0) in
    let names : Parser Simple = identifiers >>= (λ ns. expect mark.CloseParenthesis >>= (λ u. pure (enumeration n ns))) in
    let other : Parser Simple = constant >>= simple_from n in
    let c : Constant = record { at = n; kind = constant_kind.Name None (record { at = n; name = m }) } in
    let D = b < 0 in
    not_eaten total D mark.OpenParenthesis names other n (kind.Name m ∷ ks) (type_name at m) ks refl
    (lands_then total D D (constant (on n (kind.Name m ∷ ks))) (simple_from n) c ks (type_name at m) ks (constant_lands total b c n ks placed (placed, placed)) (λ d. d) (λ k here.
    not_eaten total D mark.DoublePeriod (constant >>= (λ d. pure (subrange n c d))) (pure (type_name n m)) k ks (type_name at m) ks indexed.1 (ap (λ a. type_name a m) same_at, refl, here)))
simple_lands total b (enumeration at ns) n ks placed indexed =
    let same_at : n ≡ at = omega (arith, indexed.0.0) in
    let names : Parser Simple = identifiers >>= (λ ns. expect mark.CloseParenthesis >>= (λ u. pure (enumeration n ns))) in
    let other : Parser Simple = constant >>= simple_from n in
    let D = b < 0 in
    let close = kind.Mark mark.CloseParenthesis ∷ ks in
    eaten total D mark.OpenParenthesis names other n (put_names ns close) (enumeration at ns) ks placed (λ k here.
    land_two total b D (enumeration at ns) (names_before total) (mark_shape mark.CloseParenthesis) identifiers (expect mark.CloseParenthesis) (λ ns u. enumeration n ns) ns tt (identifiers_land total b ns) (expect_lands total b mark.CloseParenthesis tt)
    k ks here ((indexed.0.1, parenthesis_no_comma ks), tt) (λ d. omega arith) (ap (λ a. enumeration a ns) same_at))
simple_lands total b (subrange at c d) n ks placed indexed =
    let same_at : n ≡ at = omega (arith, indexed.0.0) in
    let names : Parser Simple = identifiers >>= (λ ns. expect mark.CloseParenthesis >>= (λ u. pure (enumeration n ns))) in
    let other : Parser Simple = constant >>= simple_from n in
    let D = b < 0 in
    let upper = put_constant d ks in
    let rest = kind.Mark mark.DoublePeriod ∷ upper in
    not_eaten total D mark.OpenParenthesis names other n (put_constant c rest) (subrange at c d) ks (sign_no_parenthesis (first_mark (put_constant c rest)) (constant_sign c.kind rest))
    (lands_then total D D (constant (on n (put_constant c rest))) (simple_from n) c rest (subrange at c d) ks (constant_lands total b c n rest placed indexed.0.1) (λ d. d) (λ k here.
    eaten total D mark.DoublePeriod (constant >>= (λ d. pure (subrange n c d))) (type_named n (name_of c.kind)) k upper (subrange at c d) ks here (λ l q.
    land_one total b D (subrange at c d) (constant_shape total) constant (λ d. subrange n c d) d (constant_lands total b d) l ks q indexed.0.2 (λ d. d) (ap (λ a. subrange a c d) same_at))))

-- ---- types

abbrev pub type_before : ℕ → Shape TypeTerm
type_before total = before (type_shape total) NoRange

abbrev field_group_before : ℕ → Shape FieldGroup
field_group_before total = before (field_group_shape total) NoRange

abbrev more_field_groups_before : ℕ → Shape (List FieldGroup)
more_field_groups_before total = before (more_field_groups_shape total) NoRange

abbrev field_groups_before : ℕ → Shape (List FieldGroup)
field_groups_before total = before (field_groups_shape total) NoRange

field_groups_listed : (total : ℕ) → IsListed (behind_of mark.Semicolon (field_group_before total)) (more_field_groups_before total)
field_groups_listed total = record { no_put = λ ks. refl; more_put = λ x xs ks. refl; no_depth = refl; more_depth = λ x xs. refl }

field_groups_follow : (total : ℕ) (xs : List FieldGroup) (ks : List Kind) → NoRange ks → NoRange (put_more_field_groups (field_groups_of xs) ks)
field_groups_follow total xs ks h = follows (behind_of mark.Semicolon (field_group_before total)) (more_field_groups_before total) (field_groups_listed total) NoRange (λ x ks. semicolon_no_range (put_field_group x ks)) xs ks h

field_groups_apart : (total : ℕ) → IsApart (behind_of mark.Semicolon (field_group_before total)) (more_field_groups_before total)
field_groups_apart total = record { listed = field_groups_listed total; first_indexed = λ x xs ks h. (h.0.0, field_groups_follow total xs ks h.1); rest_indexed = λ x xs ks h. (h.0.1, h.1) }

field_groups_apart_led : (total : ℕ) → IsApartLed (field_group_before total) (more_field_groups_before total) (field_groups_before total)
field_groups_apart_led total = record {
  led = record { led_put = λ x xs ks. refl; led_depth = λ x xs. refl };
  none_indexed = λ ks h. h.0;
  head_indexed = λ x xs ks h. (h.0.0, field_groups_follow total xs ks h.1);
  more_indexed = λ x xs ks h. (h.0.1, h.1);
}

field_group_no_end : (g : FieldGroup) (ks : List Kind) → is_mark mark.End (first_mark (put_field_group g ks)) ≡ false
unfolding same
field_group_no_end (fields [] t) ks = refl
field_group_no_end (fields (n ∷ ns) t) ks = refl

module _ (total b : ℕ) (inner : Parser TypeTerm) (law : LandsAll total b (type_before total) inner) where
  sign_simple : (o : Option Mark) (n : ℕ) (i : Input) → is_sign o ≡ true → type_by inner n o i ≡ (simple_type >>= (λ s. pure (simple n s))) i
  sign_simple None n i e = refl
  sign_simple (Some mark.Plus) n i e = refl
  sign_simple (Some mark.Minus) n i e = refl
  sign_simple _ n i e = absurd cc

  -- where a simple type stands, one is read
  by_simple : (s : Simple) (ks : List Kind) (n : ℕ) (i : Input) → type_by inner n (first_mark (put_simple s ks)) i ≡ (simple_type >>= (λ s. pure (simple n s))) i
  by_simple (subrange at c d) ks n i = let rest = kind.Mark mark.DoublePeriod ∷ put_constant d ks in sign_simple (first_mark (put_constant c rest)) n i (constant_sign c.kind rest)
  by_simple _ ks n i = refl

  field_group_lands : LandsAll total b (field_group_before total) (field_group_with inner)
  unfolding field_group_with
  field_group_lands (fields ns t) n ks placed indexed =
      land_three total b (b < type_depth t) (fields ns t) (names_before total) (mark_shape mark.Colon) (type_before total) identifiers (expect mark.Colon) inner (λ ns u t. fields ns t) ns tt t (identifiers_land total b ns) (expect_lands total b mark.Colon tt) (law t)
      n ks placed ((indexed.0.0, colon_no_comma (put_type t ks)), (tt, (indexed.0.1, indexed.1))) (λ d. omega arith) refl

  record_of_list : (at : ℕ) (gs : List FieldGroup) (c : Bool) → LandsOn total (suc b) (type_before total) (type_with inner) (record_of at (field_groups_of gs) c)
  unfolding type_with Input.mark advance record_with
  record_of_list at gs c n ks placed indexed =
      let same_at : n ≡ at = omega (arith, indexed.0.0) in
      let t = record_of at (field_groups_of gs) c in
      land_two total b (suc b < type_depth t) t (ended_of (field_groups_before total)) (mark_shape mark.End) (ended_list (field_group_with inner)) (expect mark.End) (λ gs u. record_of n (field_groups_of gs.0) gs.1) (gs, c) tt
      (ended_lands total b (field_group_before total) (more_field_groups_before total) (field_groups_before total) (field_groups_apart total) (field_groups_apart_led total) (field_group_with inner) field_group_lands grows_field_group field_group_no_end (gs, c)) (expect_lands total b mark.End tt)
      (n + 1) ks (omega arith) (((indexed.0.1, optional_no_range c ks), ks, refl), tt) (λ d. omega arith) (ap (λ a. record_of a (field_groups_of gs) c) same_at)

  pub type_with_lands : LandsAll total (suc b) (type_before total) (type_with inner)
  unfolding type_with Input.mark advance array_with set_at
  type_with_lands (simple at s) n ks placed indexed =
      let same_at : n ≡ at = omega (arith, indexed.0.0) in
      let D = suc b < 1 in
      subst (λ (r : Outcome TypeTerm). Lands total D (simple at s) ks r) (sym (by_simple s ks n (on n (put_simple s ks))))
      (land_one total b D (simple at s) (simple_before total) simple_type (λ s. simple n s) s (simple_lands total b s) n ks placed (indexed.0.1, indexed.1) (λ d. omega arith) (ap (λ a. simple a s) same_at))
  type_with_lands (array_of at s t) n ks placed indexed =
      let same_at : n ≡ at = omega (arith, indexed.0.0) in
      land_five total b (suc b < suc (type_depth t)) (array_of at s t) (mark_shape mark.OpenBracket) (simple_before total) (mark_shape mark.CloseBracket) (mark_shape mark.Of) (type_before total)
      (expect mark.OpenBracket) simple_type (expect mark.CloseBracket) (expect mark.Of) inner (λ u s v w t. array_of n s t) tt s tt tt t
      (expect_lands total b mark.OpenBracket tt) (simple_lands total b s) (expect_lands total b mark.CloseBracket tt) (expect_lands total b mark.Of tt) (law t)
      (n + 1) ks (omega arith) (tt, ((indexed.0.1, bracket_no_range (kind.Mark mark.Of ∷ put_type t ks)), (tt, (tt, (indexed.0.2, indexed.1))))) (λ d. omega arith) (ap (λ a. array_of a s t) same_at)
  type_with_lands (set_type at s) n ks placed indexed =
      let same_at : n ≡ at = omega (arith, indexed.0.0) in
      land_two total b (suc b < 1) (set_type at s) (mark_shape mark.Of) (simple_before total) (expect mark.Of) simple_type (λ u s. set_type n s) tt s (expect_lands total b mark.Of tt) (simple_lands total b s)
      (n + 1) ks (omega arith) (tt, (indexed.0.1, indexed.1)) (λ d. omega arith) (ap (λ a. set_type a s) same_at)
  type_with_lands (record_of at gs c) n ks placed indexed = subst (λ (gs : FieldGroups). LandsOn total (suc b) (type_before total) (type_with inner) (record_of at gs c)) (field_groups_back gs) (record_of_list at (field_groups_list gs) c) n ks placed indexed

at_least_one : (t : TypeTerm) → 0 < type_depth t
at_least_one (simple at s) = omega arith
at_least_one _ = omega arith

pub type_lands : (total b : ℕ) → LandsAll total b (type_before total) (type_term b)
unfolding type_term
type_lands total zero t n ks placed indexed = at_least_one t
type_lands total (suc b) t n ks placed indexed = type_with_lands total b (type_term b) (type_lands total b) t n ks placed indexed
