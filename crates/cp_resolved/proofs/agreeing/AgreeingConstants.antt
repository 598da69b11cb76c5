-- Constants that break no rule: the checker and the scope give them the same base and value.
use Rattle.std.proofs.Common.{◌≡◌, ℕ, zero, ◌-◌, ◌≤◌, ℤ, pos, negsuc, neg_ℤ, true, false, List, [], length, Option, Some, None, refl, sym, ap, subst, ◌∙◌, arith}
use Rattle.std.specs.Prelude.{FitsSigned}
use Rattle.std.specs.Int.{int_wrapping_neg, w64}
use Rattle.std.proofs.lemmas.Int.{wrapping_neg_is, int_wrap_fits}
use Rattle.cp_resolved.proofs.Words.{Decides-eqb, Sign, Constant, ConstantKind, C5, Meaning, same_base, ◌>>=◌, ConstantNumber, Name, is_within, all_integers, find}
use Rattle.cp_resolved.proofs.Words.{range_of_base, is_integer_base, IsSmallConstant, IsFit, Tokens, BaseIs, ConstantIs, IsSmall}
use Rattle.cp_tree.specs.declared.constant.Sign.TheVariants as sign
use Rattle.cp_tree.specs.declared.constant.ConstantKind.TheVariants as kinds
use Rattle.cp_scope.specs.declared.fault.CheckFault.TheVariants as check_fault
use Rattle.cp_scope.specs.declared.types.Base as check_base
use Rattle.cp_scope.specs.declared.types.Base.TheVariants as base
use Rattle.cp_scope.specs.declared.types.Meaning.TheVariants as meaning
use Rattle.cp_scope.specs.Scopes.{Scopes, look}
use Rattle.cp_check.specs.Names as names
use Rattle.cp_check.specs.Constants as constants
use Rattle.cp_meaning.specs.Types as named
use Rattle.cp_meaning.specs.Scopes as scopes
use Rattle.cp_meaning.specs.Declarations as meant
use Rattle.cp_resolved.proofs.forms.Typing.{integer_base}
use Rattle.cp_resolved.proofs.agreeing.Agreeing.{Good, good_then, good_if}
use Rattle.cp_resolved.proofs.agreeing.AgreeingNames.{IsKnown}

-- ---- integers

opposite_small : (z : ℤ) → IsSmall z → IsSmall (neg_ℤ z)
opposite_small (pos zero) h = omega arith
opposite_small x h = omega (arith, h)

fits_small : (z : ℤ) → IsSmall z → FitsSigned w64 z
fits_small (pos n) h = search (arith, h)
fits_small (negsuc n) h = search (arith, h)

opposite_is : (z : ℤ) → IsSmall z → int_wrapping_neg w64 z ≡ neg_ℤ z
opposite_is z h = wrapping_neg_is w64 z (fits_small z h) ∙ int_wrap_fits w64 (neg_ℤ z) (fits_small (neg_ℤ z) (opposite_small z h))

pub small_within : (z : ℤ) → IsSmall z → is_within all_integers z ≡ true
small_within (pos n) h = search (arith, h)
small_within (negsuc n) h = search (arith, h)

integers_within : (c : named.Base) (z : ℤ) → is_integer_base c ≡ true → IsSmall z → is_within (range_of_base c) z ≡ true
integers_within named.integers z e h = small_within z h
integers_within x z e h = absurd (let bad : false ≡ true = e in cc)

-- ---- bases

other_base : (a c : check_base.Base) (b d : check_base.Base) → b ≡ a → d ≡ c → same_base b d ≡ true → same_base a c ≡ true
other_base a c b d e f h = subst (λ (x : check_base.Base). same_base x c ≡ true) e (subst (λ (x : check_base.Base). same_base b x ≡ true) f h)

module _ (tokens : Tokens) where
  same_enumeration : (m n : ℕ) (xs ys : List Name) → xs ≡ tokens.constants m → ys ≡ tokens.constants n → m ≡ n → named.enumerated m xs ≡ named.enumerated n ys
  same_enumeration m n xs ys e f h = ap (named.enumerated m) (e ∙ ap tokens.constants h ∙ sym f) ∙ ap (λ k. named.enumerated k ys) h

  pub base_same : (c d : named.Base) (a b : check_base.Base) → BaseIs tokens c a → BaseIs tokens d b → same_base a b ≡ true → c ≡ d
  base_same (named.enumerated m xs) (named.enumerated n ys) a b h i e =
      same_enumeration m n xs ys h.2 i.2 ((Decides-eqb m n).0 (other_base (base.Enumeration m (pos (length xs - 1))) (base.Enumeration n (pos (length ys - 1))) a b h.0 i.0 e))
  base_same named.integers named.booleans a b h i e = absurd (let bad : same_base base.Integer base.Boolean ≡ true = other_base base.Integer base.Boolean a b h i e in cc)
  base_same named.integers named.characters a b h i e = absurd (let bad : same_base base.Integer base.Char ≡ true = other_base base.Integer base.Char a b h i e in cc)
  base_same named.integers (named.enumerated n ys) a b h i e = absurd (let bad : same_base base.Integer (base.Enumeration n (pos (length ys - 1))) ≡ true = other_base base.Integer _ a b h i.0 e in cc)
  base_same named.booleans named.integers a b h i e = absurd (let bad : same_base base.Boolean base.Integer ≡ true = other_base base.Boolean base.Integer a b h i e in cc)
  base_same named.booleans named.characters a b h i e = absurd (let bad : same_base base.Boolean base.Char ≡ true = other_base base.Boolean base.Char a b h i e in cc)
  base_same named.booleans (named.enumerated n ys) a b h i e = absurd (let bad : same_base base.Boolean (base.Enumeration n (pos (length ys - 1))) ≡ true = other_base base.Boolean _ a b h i.0 e in cc)
  base_same named.characters named.integers a b h i e = absurd (let bad : same_base base.Char base.Integer ≡ true = other_base base.Char base.Integer a b h i e in cc)
  base_same named.characters named.booleans a b h i e = absurd (let bad : same_base base.Char base.Boolean ≡ true = other_base base.Char base.Boolean a b h i e in cc)
  base_same named.characters (named.enumerated n ys) a b h i e = absurd (let bad : same_base base.Char (base.Enumeration n (pos (length ys - 1))) ≡ true = other_base base.Char _ a b h i.0 e in cc)
  base_same (named.enumerated m xs) named.integers a b h i e = absurd (let bad : same_base (base.Enumeration m (pos (length xs - 1))) base.Integer ≡ true = other_base _ base.Integer a b h.0 i e in cc)
  base_same (named.enumerated m xs) named.booleans a b h i e = absurd (let bad : same_base (base.Enumeration m (pos (length xs - 1))) base.Boolean ≡ true = other_base _ base.Boolean a b h.0 i e in cc)
  base_same (named.enumerated m xs) named.characters a b h i e = absurd (let bad : same_base (base.Enumeration m (pos (length xs - 1))) base.Char ≡ true = other_base _ base.Char a b h.0 i e in cc)
  base_same _ _ a b h i e = refl

  -- ---- constants

  pub record NumberIs (q : named.Base × ℤ) (n : ConstantNumber) : Type 0 where
    pub base : BaseIs tokens q.0 n.base
    pub value : n.value ≡ q.1
    pub small : IsSmall q.1
    pub within : is_within (range_of_base q.0) q.1 ≡ true

  opposite_number : (at : ℕ) (q : named.Base × ℤ) (n : ConstantNumber) → NumberIs q n → same_base n.base base.Integer ≡ true → NumberIs (q.0, neg_ℤ q.1) (record { base = n.base; value = int_wrapping_neg w64 n.value })
  opposite_number at q n h e =
      record {
        base = h.base;
        value = ap (int_wrapping_neg w64) h.value ∙ opposite_is q.1 h.small;
        small = opposite_small q.1 h.small;
        within = integers_within q.0 (neg_ℤ q.1) (integer_base tokens q.0 n.base h.base e) (opposite_small q.1 h.small);
      }

  signed_number : (at : ℕ) (o : Option Sign) (q : named.Base × ℤ) (n : ConstantNumber) → NumberIs q n → Good (NumberIs (q.0, meant.signed o q.1)) (constants.number_with_sign at o n)
  signed_number at None q n h = h
  signed_number at (Some sign.Plus) q n h = good_if (NumberIs q) (same_base n.base base.Integer) n (check_fault.Rule at C5) [] (λ e. h)
  signed_number at (Some sign.Minus) q n h =
      good_if (NumberIs (q.0, neg_ℤ q.1)) (same_base n.base base.Integer) (record { base = n.base; value = int_wrapping_neg w64 n.value }) (check_fault.Rule at C5) [] (opposite_number at q n h)

  constant_number : (b : check_base.Base) (v : ℤ) (o : Option scopes.Meaning) → ConstantIs tokens b v o → IsFit o → NumberIs (meant.constant_meant o) (record { base = b; value = v })
  constant_number b v (Some (scopes.constant_meaning c z)) h f = record { base = h.0; value = h.1; small = f; within = h.2 }
  constant_number b v _ h f = absurd h

module _ (tokens : Tokens) where
  named_number : (at : ℕ) (s : Scopes) (m : scopes.Scope) (x : Name) (o : Option (Option Meaning)) → IsKnown tokens s m x o → Good (NumberIs tokens (meant.constant_meant (find x m))) (names.check_visible at o >>= constants.to_constant at)
  named_number at s m x (Some None) h = absurd h
  named_number at s m x (Some (Some (meaning.Constant b v))) h = constant_number tokens b v (find x m) h.means h.fit
  named_number at s m x _ h = tt

  kind_number : (at : ℕ) (s : Scopes) (m : scopes.Scope) (c : ConstantKind) → IsSmallConstant c → ((x : Name) → IsKnown tokens s m x (look x s)) → Good (NumberIs tokens (meant.constant_of_kind m c)) (constants.constant_kind s at c)
  unfolding constants.constant_named names.visible
  kind_number at s m (kinds.Number o n) h k =
      signed_number tokens at o (named.integers, pos n) (record { base = base.Integer; value = pos n }) (record { base = refl; value = refl; small = h; within = small_within (pos n) h })
  kind_number at s m (kinds.Name o i) h k =
      good_then (NumberIs tokens (meant.constant_meant (find i.name m))) (NumberIs tokens ((meant.constant_meant (find i.name m)).0, meant.signed o (meant.constant_meant (find i.name m)).1)) (names.check_visible i.at (look i.name s) >>= constants.to_constant i.at) (constants.number_with_sign at o)
      (named_number i.at s m i.name (look i.name s) (k i.name))
      (λ n e. signed_number tokens at o (meant.constant_meant (find i.name m)) n e)
  kind_number at s m (kinds.Character c) h k = record { base = refl; value = refl; small = omega (arith, h); within = character_within c h }
    where
      character_within : (c : ℕ) → c ≤ 127 → is_within named.all_characters (pos c) ≡ true
      character_within c h = search (arith, h)

  pub constant_number_of : (s : Scopes) (m : scopes.Scope) (c : Constant) → IsSmallConstant c.kind → ((x : Name) → IsKnown tokens s m x (look x s)) → Good (NumberIs tokens (meant.constant_of m c)) (constants.constant s c)
  unfolding constants.constant
  constant_number_of s m c h k = kind_number c.at s m c.kind h k
