-- The rules of constants.
use Rattle.std.specs.Prelude.{ℕ, ℤ, pos, Bool, ◌&&◌, if◌then◌else◌, Option, Some, None, Ok}
use Rattle.cp_tree.specs.declared.constant.Identifier.{Identifier}
use Rattle.cp_tree.specs.declared.constant.Sign.{Sign}
use Rattle.cp_tree.specs.declared.constant.Sign.TheVariants.{Plus, Minus}
use Rattle.cp_tree.specs.declared.constant.Constant.{Constant}
use Rattle.cp_tree.specs.declared.constant.ConstantKind.{ConstantKind}
use Rattle.cp_tree.specs.declared.constant.ConstantKind.TheVariants as kinds
use Rattle.cp_scope.specs.declared.fault.Rule.TheVariants.{C3, C5}
use Rattle.cp_scope.specs.declared.types.Base.TheVariants.{Integer, Char}
use Rattle.cp_scope.specs.declared.types.Meaning.{Meaning}
use Rattle.cp_scope.specs.declared.types.Meaning.TheVariants as meaning
use Rattle.cp_scope.specs.Types.{same_base}
use Rattle.cp_scope.specs.Scopes.{Scopes}
use Rattle.cp_scope.specs.Judged.{Judged, broken, ◌>>=◌}
use Rattle.cp_check.specs.declared.constant.ConstantNumber.{ConstantNumber}
use Rattle.cp_check.specs.Names.{visible}
use Rattle.std.specs.Int.{int_wrapping_neg, w64}
use Rattle.std.specs.Ordering.{int_eq}

-- two constants are one value
abbrev pub same_number : ConstantNumber → ConstantNumber → Bool
same_number m n = same_base m.base n.base && int_eq m.value n.value

abbrev pub with_sign : Sign → ℤ → ℤ
with_sign Plus v = v
with_sign Minus v = int_wrapping_neg w64 v

-- a sign stands before integers alone
abbrev pub number_with_sign : ℕ → Option Sign → ConstantNumber → Judged ConstantNumber
number_with_sign at None n = Ok n
number_with_sign at (Some s) n = if same_base n.base Integer then Ok (record { base = n.base; value = with_sign s n.value }) else broken at C5

abbrev pub to_constant : ℕ → Meaning → Judged ConstantNumber
to_constant at (meaning.Constant b v) = Ok (record { base = b; value = v })
to_constant at _ = broken at C3

unfoldable pub constant_named : Scopes → Identifier → Judged ConstantNumber
constant_named s i = visible s i.at i.name >>= to_constant i.at

abbrev pub constant_kind : Scopes → ℕ → ConstantKind → Judged ConstantNumber
constant_kind s at (kinds.Number sign v) = number_with_sign at sign (record { base = Integer; value = pos v })
constant_kind s at (kinds.Name sign i) = constant_named s i >>= number_with_sign at sign
constant_kind s at (kinds.Character c) = Ok (record { base = Char; value = pos c })

unfoldable pub constant : Scopes → Constant → Judged ConstantNumber
constant s c = constant_kind s c.at c.kind
