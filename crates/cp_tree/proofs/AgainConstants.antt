-- The tokens of names and constants are read as these.
use Rattle.std.proofs.Common.{◌≡◌, ℕ, ◌<◌, false, List, ◌∷◌, Option, Some, None, refl, sym, ap, subst, ◌∙◌, arith}
use Rattle.cp_text.specs.declared.token.Kind.{Kind}
use Rattle.cp_text.specs.declared.token.Kind.TheVariants as kind
use Rattle.cp_text.specs.declared.token.Mark.TheVariants as mark
use Rattle.cp_tree.specs.declared.constant.Identifier.{Identifier}
use Rattle.cp_tree.specs.declared.constant.Sign.{Sign}
use Rattle.cp_tree.specs.declared.constant.Sign.TheVariants as signs
use Rattle.cp_tree.specs.declared.constant.Constant.{Constant}
use Rattle.cp_tree.specs.declared.constant.ConstantKind.{ConstantKind}
use Rattle.cp_tree.specs.declared.constant.ConstantKind.TheVariants as constant_kind
use Rattle.cp_tree.specs.Input as Input
use Rattle.cp_tree.specs.Input.{Input, is_mark, first, first_mark, next, advance}
use Rattle.cp_tree.specs.Reading.{identifier, identifiers, separated, sign, sign_of, taken, constant, constant_by}
use Rattle.cp_tree.specs.Spelling.{put_sign, put_identifier}
use Rattle.cp_tree.proofs.Shapes.{Shape, behind_of, all_of, flat}
use Rattle.cp_tree.proofs.FoundConstants.{identifier_shape, names_shape, constant_shape, labels_shape}
use Rattle.cp_tree.proofs.Grows.{grows_identifier, grows_constant}
use Rattle.cp_tree.proofs.Lands.{on, Lands, lands_then, LandsOn, LandsAll, before}
use Rattle.cp_tree.proofs.LandsLists.{flat_apart, flat_apart_led, separated_lands}

-- ---- names

pub identifier_lands : (total b : ℕ) → LandsAll total b (identifier_shape total) identifier
unfolding identifier next advance
identifier_lands total b i n ks placed indexed =
    let same_at : n ≡ i.at = omega (arith, indexed) in
    (ap (λ (a : ℕ). let j : Identifier = record { at = a; name = i.name } in j) same_at, refl, omega arith)

abbrev pub NoComma : List Kind → Type 0
NoComma ks = is_mark mark.Comma (first_mark ks) ≡ false

abbrev pub names_before : ℕ → Shape (List Identifier)
names_before total = before (names_shape total) NoComma

pub identifiers_land : (total b : ℕ) → LandsAll total b (names_before total) identifiers
unfolding identifiers
identifiers_land total b =
    let s = identifier_shape total in
    separated_lands total b mark.Comma s (before (flat (all_of (behind_of mark.Comma s))) NoComma) (names_before total) (flat_apart mark.Comma s NoComma) (flat_apart_led mark.Comma s NoComma) identifier (identifier_lands total b) (λ ks h. h.1) grows_identifier

-- ---- constants

-- Where there is no sign, none follows.
abbrev pub sign_before : Shape (Option Sign)
sign_before = record { put = put_sign; indexed = λ o ks. o ≡ None → sign_of (first_mark ks) ≡ None; depth = λ o. 0 }

pub sign_lands : (total b : ℕ) → LandsAll total b sign_before sign
unfolding sign Input.mark advance
sign_lands total b None n ks placed indexed = subst (λ (o : Option Sign). Lands total (b < 0) None ks (taken o (on n ks))) (sym (indexed refl)) (refl, refl, placed)
sign_lands total b (Some signs.Plus) n ks placed indexed = (refl, refl, omega arith)
sign_lands total b (Some signs.Minus) n ks placed indexed = (refl, refl, omega arith)

constant_kind_lands : (total b at : ℕ) (c : ConstantKind) → LandsOn total b (constant_shape total) constant (record { at = at; kind = c })
unfolding constant identifier next advance
constant_kind_lands total b at (constant_kind.Number o m) n ks placed indexed =
    let same_at : n ≡ at = omega (arith, indexed.0) in
    let rest = kind.Number m ∷ ks in
    let c : Constant = record { at = at; kind = constant_kind.Number o m } in
    lands_then total (b < 0) (b < 0) (sign (on n (put_sign o rest))) (λ s k. constant_by n s (first k.rest) k) o rest c ks (sign_lands total b o n rest placed (λ e. refl)) (λ d. d) (λ l here.
    (ap (λ (a : ℕ). let c : Constant = record { at = a; kind = constant_kind.Number o m } in c) same_at, refl, omega arith))
constant_kind_lands total b at (constant_kind.Name o i) n ks placed indexed =
    let same_at : n ≡ at = omega (arith, indexed.0) in
    let rest = put_identifier i ks in
    let c : Constant = record { at = at; kind = constant_kind.Name o i } in
    lands_then total (b < 0) (b < 0) (sign (on n (put_sign o rest))) (λ s k. constant_by n s (first k.rest) k) o rest c ks (sign_lands total b o n rest placed (λ e. refl)) (λ d. d) (λ l here.
    let same_name : l ≡ i.at = omega (arith, indexed.1) in
    (ap (λ (a : ℕ). let c : Constant = record { at = a; kind = constant_kind.Name o (record { at = l; name = i.name }) } in c) same_at ∙ ap (λ (a : ℕ). let c : Constant = record { at = at; kind = constant_kind.Name o (record { at = a; name = i.name }) } in c) same_name, refl, omega arith))
constant_kind_lands total b at (constant_kind.Character m) n ks placed indexed =
    let same_at : n ≡ at = omega (arith, indexed.0) in
    let rest = kind.Character m ∷ ks in
    let c : Constant = record { at = at; kind = constant_kind.Character m } in
    lands_then total (b < 0) (b < 0) (sign (on n rest)) (λ s k. constant_by n s (first k.rest) k) None rest c ks (sign_lands total b None n rest placed (λ e. refl)) (λ d. d) (λ l here.
    (ap (λ (a : ℕ). let c : Constant = record { at = a; kind = constant_kind.Character m } in c) same_at, refl, omega arith))

pub constant_lands : (total b : ℕ) → LandsAll total b (constant_shape total) constant
constant_lands total b c n ks placed indexed = constant_kind_lands total b c.at c.kind n ks placed indexed

abbrev pub labels_before : ℕ → Shape (List Constant)
labels_before total = before (labels_shape total) NoComma

pub labels_land : (total b : ℕ) → LandsAll total b (labels_before total) (separated mark.Comma constant)
labels_land total b =
    let s = constant_shape total in
    separated_lands total b mark.Comma s (before (flat (all_of (behind_of mark.Comma s))) NoComma) (labels_before total) (flat_apart mark.Comma s NoComma) (flat_apart_led mark.Comma s NoComma) constant (constant_lands total b) (λ ks h. h.1) grows_constant
