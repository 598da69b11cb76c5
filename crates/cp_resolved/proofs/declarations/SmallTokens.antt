-- Where all tokens are as a text has them, the numbers and characters of the constants, types and parts that they spell are small.
use Rattle.cp_resolved.proofs.Words.{◌≡◌, ◌≤◌, Bool, true, false, List, [], ◌∷◌, Some, None, Kind, Identifier, ConstantKind, IsWord, Mark}
use Rattle.cp_text.specs.declared.token.Kind.TheVariants as kind
use Rattle.cp_text.specs.declared.token.Mark.TheVariants as mark
use Rattle.cp_tree.specs.declared.constant.ConstantKind.TheVariants as constant_kind
use Rattle.cp_tree.specs.Syntax.{nameless, Simple, type_name, enumeration, subrange, TypeTerm, simple, array_of, set_type, record_of, FieldGroups, no_fields, more_fields, FieldGroup, fields, ConstantDefinition, TypeDefinition, VariableGroup, Part, constants, types, variables}
use Rattle.cp_tree.specs.Spelling.{put_identifier, put_behind, put_all, put_names, put_constant_kind, put_simple, put_type, put_field_groups, put_more_field_groups, put_field_group, put_optional, put_constant_definition, put_type_definition, put_variable_group, put_part}
use Rattle.cp_resolved.specs.Small.{Each, IsSmallConstant, IsSmallSimple, IsSmallType, AreSmallGroups, IsSmallGroup, IsSmallPart}

-- numbers and characters are small, and no name begins with the code 0 or is that of a routine without one
abbrev pub IsScanned : Kind → Type 0
IsScanned (kind.Number n) = n ≤ 32767
IsScanned (kind.Character c) = c ≤ 127
IsScanned (kind.Name x) = IsWord x × (x ≡ nameless → ⊥)
IsScanned k = Unit {0}

abbrev pub AreScanned : List Kind → Type 0
AreScanned ks = Each IsScanned ks

more_names : (is : List Identifier) (rest : List Kind) → AreScanned (put_all (put_behind mark.Comma put_identifier) is rest) → AreScanned rest
more_names [] rest e = e
more_names (i ∷ is) rest e = more_names is rest e.1.1

pub names_small : (is : List Identifier) (rest : List Kind) → AreScanned (put_names is rest) → AreScanned rest
names_small [] rest e = e
names_small (i ∷ is) rest e = more_names is rest e.1

pub optional_small : (m : Mark) (b : Bool) (rest : List Kind) → AreScanned (put_optional m b rest) → AreScanned rest
optional_small m true rest e = e.1
optional_small m false rest e = e

pub constant_small : (c : ConstantKind) (rest : List Kind) → AreScanned (put_constant_kind c rest) → IsSmallConstant c × AreScanned rest
constant_small (constant_kind.Number (Some s) n) rest e = (e.1.0, e.1.1)
constant_small (constant_kind.Name None i) rest e = (tt, e.1)
constant_small (constant_kind.Name (Some s) i) rest e = (tt, e.1.1)
constant_small _ rest e = (e.0, e.1)

pub simple_small : (t : Simple) (rest : List Kind) → AreScanned (put_simple t rest) → IsSmallSimple t × AreScanned rest
simple_small (type_name at n) rest e = (tt, e.1)
simple_small (enumeration at is) rest e = (tt, (names_small is (kind.Mark mark.CloseParenthesis ∷ rest) e.1).1)
simple_small (subrange at c d) rest e =
    let p : IsSmallConstant c.kind × AreScanned (kind.Mark mark.DoublePeriod ∷ put_constant_kind d.kind rest) = constant_small c.kind (kind.Mark mark.DoublePeriod ∷ put_constant_kind d.kind rest) e in
    let q : IsSmallConstant d.kind × AreScanned rest = constant_small d.kind rest p.1.1 in
    ((p.0, q.0), q.1)

mutual
  pub type_small : (t : TypeTerm) (rest : List Kind) → AreScanned (put_type t rest) → IsSmallType t × AreScanned rest
  type_small (simple at s) rest e = simple_small s rest e
  type_small (array_of at s t) rest e =
      let after : List Kind = kind.Mark mark.CloseBracket ∷ kind.Mark mark.Of ∷ put_type t rest in
      let p : IsSmallSimple s × AreScanned after = simple_small s after e.1.1 in
      let q : IsSmallType t × AreScanned rest = type_small t rest p.1.1.1 in
      ((p.0, q.0), q.1)
  type_small (set_type at s) rest e = simple_small s rest e.1.1
  type_small (record_of at gs b) rest e =
      let after : List Kind = kind.Mark mark.End ∷ rest in
      let p : AreSmallGroups gs × AreScanned (put_optional mark.Semicolon b after) = groups_small gs (put_optional mark.Semicolon b after) e.1 in
      (p.0, (optional_small mark.Semicolon b after p.1).1)

  groups_small : (gs : FieldGroups) (rest : List Kind) → AreScanned (put_field_groups gs rest) → AreSmallGroups gs × AreScanned rest
  groups_small no_fields rest e = (tt, e)
  groups_small (more_fields g gs) rest e =
      let p : IsSmallGroup g × AreScanned (put_more_field_groups gs rest) = group_small g (put_more_field_groups gs rest) e in
      let q : AreSmallGroups gs × AreScanned rest = more_groups_small gs rest p.1 in
      ((p.0, q.0), q.1)

  more_groups_small : (gs : FieldGroups) (rest : List Kind) → AreScanned (put_more_field_groups gs rest) → AreSmallGroups gs × AreScanned rest
  more_groups_small no_fields rest e = (tt, e)
  more_groups_small (more_fields g gs) rest e =
      let p : IsSmallGroup g × AreScanned (put_more_field_groups gs rest) = group_small g (put_more_field_groups gs rest) e.1 in
      let q : AreSmallGroups gs × AreScanned rest = more_groups_small gs rest p.1 in
      ((p.0, q.0), q.1)

  group_small : (g : FieldGroup) (rest : List Kind) → AreScanned (put_field_group g rest) → IsSmallGroup g × AreScanned rest
  group_small (fields is t) rest e = type_small t rest (names_small is (kind.Mark mark.Colon ∷ put_type t rest) e).1

pub constants_small : (ds : List ConstantDefinition) (rest : List Kind) → AreScanned (put_all put_constant_definition ds rest) → Each (λ (d : ConstantDefinition). IsSmallConstant d.value.kind) ds × AreScanned rest
constants_small [] rest e = (tt, e)
constants_small (d ∷ ds) rest e =
    let after : List Kind = kind.Mark mark.Semicolon ∷ put_all put_constant_definition ds rest in
    let p : IsSmallConstant d.value.kind × AreScanned after = constant_small d.value.kind after e.1.1 in
    let q : Each (λ (d : ConstantDefinition). IsSmallConstant d.value.kind) ds × AreScanned rest = constants_small ds rest p.1.1 in
    ((p.0, q.0), q.1)

types_small : (ds : List TypeDefinition) (rest : List Kind) → AreScanned (put_all put_type_definition ds rest) → Each (λ (d : TypeDefinition). IsSmallType d.value) ds × AreScanned rest
types_small [] rest e = (tt, e)
types_small (d ∷ ds) rest e =
    let after : List Kind = kind.Mark mark.Semicolon ∷ put_all put_type_definition ds rest in
    let p : IsSmallType d.value × AreScanned after = type_small d.value after e.1.1 in
    let q : Each (λ (d : TypeDefinition). IsSmallType d.value) ds × AreScanned rest = types_small ds rest p.1.1 in
    ((p.0, q.0), q.1)

pub variables_small : (gs : List VariableGroup) (rest : List Kind) → AreScanned (put_all put_variable_group gs rest) → Each (λ (g : VariableGroup). IsSmallType g.variable_type) gs × AreScanned rest
variables_small [] rest e = (tt, e)
variables_small (g ∷ gs) rest e =
    let after : List Kind = kind.Mark mark.Semicolon ∷ put_all put_variable_group gs rest in
    let p : IsSmallType g.variable_type × AreScanned after = type_small g.variable_type after (names_small g.names (kind.Mark mark.Colon ∷ put_type g.variable_type after) e).1 in
    let q : Each (λ (g : VariableGroup). IsSmallType g.variable_type) gs × AreScanned rest = variables_small gs rest p.1.1 in
    ((p.0, q.0), q.1)

pub part_small : (p : Part) (rest : List Kind) → AreScanned (put_part p rest) → IsSmallPart p × AreScanned rest
part_small (constants at ds) rest e = constants_small ds rest e.1
part_small (types at ds) rest e = types_small ds rest e.1
part_small (variables at gs) rest e = variables_small gs rest e.1
