-- What is read of names and constants is spelled so.
use Rattle.std.proofs.Common.{◌≡◌, ℕ, List, ◌∷◌, Option, Some, None, refl, sym, ap, arith}
use Rattle.cp_text.specs.declared.token.Kind.{Kind}
use Rattle.cp_text.specs.declared.token.Kind.TheVariants as kind
use Rattle.cp_text.specs.declared.token.Mark.{Mark}
use Rattle.cp_text.specs.declared.token.Mark.TheVariants as mark
use Rattle.cp_tree.specs.declared.constant.Identifier.{Identifier}
use Rattle.cp_tree.specs.declared.constant.Sign.{Sign}
use Rattle.cp_tree.specs.declared.constant.Sign.TheVariants as signs
use Rattle.cp_tree.specs.declared.constant.Constant.{Constant}
use Rattle.cp_tree.specs.Input.{Input, first, next, advance}
use Rattle.cp_tree.specs.Reading.{identifier, identifiers, sign, sign_of, constant, constant_by, separated}
use Rattle.cp_tree.specs.Spelling.{sign_mark, put_identifier, put_sign, put_constant}
use Rattle.cp_tree.specs.SpellingIndexed.{Begins, IsIndexedIdentifier, IsIndexedConstant}
use Rattle.cp_tree.proofs.Shapes.{Shape, behind_of, all_of, separated_of, flat}
use Rattle.cp_tree.proofs.Steps.{Found, found_then, found_map, At, begins, Taken, Takes}
use Rattle.cp_tree.proofs.FoundLists.{IsBuilt, IsBuiltLed, IsTaken, taken_found, separated_takes}

-- ---- lists without levels

pub flat_built : {A : Type 0} (m : Mark) (s : Shape A) → IsBuilt (behind_of m (flat s)) (flat (all_of (behind_of m s)))
flat_built m s = record { listed = record { no_put = λ ks. refl; more_put = λ x xs ks. refl; no_depth = refl; more_depth = λ x xs. refl }; no_indexed = λ ks. tt; more_indexed = λ x xs ks p q. (p, q) }

pub flat_led : {A : Type 0} (m : Mark) (s : Shape A) → IsBuiltLed (flat s) (flat (all_of (behind_of m s))) (flat (separated_of m s))
flat_led m s = record { led = record { led_put = λ x xs ks. refl; led_depth = λ x xs. refl }; led_indexed = λ x xs ks p q. (p, q) }

-- ---- names

abbrev pub identifier_shape : ℕ → Shape Identifier
identifier_shape total = record { put = put_identifier; indexed = IsIndexedIdentifier total; depth = λ i. 0 }

abbrev pub names_shape : ℕ → Shape (List Identifier)
names_shape total = flat (separated_of mark.Comma (identifier_shape total))

identifier_list : (total b at : ℕ) (ks : List Kind) → Begins total at ks → let i : Input = record { at = at; rest = ks } in Found total (Taken total b (identifier_shape total) i) (identifier i)
unfolding identifier next advance
identifier_list total b at (kind.Name n ∷ ks) placed = (record { spelled = refl; indexed = placed; shallow = omega arith }, omega arith)
identifier_list total b at _ placed = omega arith

pub identifier_takes : (total b : ℕ) → Takes total b (identifier_shape total) identifier
identifier_takes total b i placed = identifier_list total b i.at i.rest placed

pub identifiers_take : (total b : ℕ) → Takes total b (names_shape total) identifiers
unfolding identifiers
identifiers_take total b = let s = identifier_shape total in separated_takes total b mark.Comma s (flat (all_of (behind_of mark.Comma s))) (names_shape total) (flat_built mark.Comma s) (flat_led mark.Comma s) identifier (identifier_takes total b)

-- ---- constants

sign_spelled : (o : Option Mark) (s : Sign) → sign_of o ≡ Some s → o ≡ Some (sign_mark s)
sign_spelled (Some mark.Plus) signs.Plus e = refl
sign_spelled (Some mark.Minus) signs.Minus e = refl
sign_spelled _ s e = absurd cc

abbrev pub sign_shape : Shape (Option Sign)
sign_shape = record { put = put_sign; indexed = λ o ks. Unit {0}; depth = λ o. 0 }

sign_found : (total : ℕ) (i : Input) → At total i → Found total (IsTaken total sign_mark i) (sign i)
unfolding sign
sign_found total i placed = taken_found total sign_mark sign_of sign_spelled i placed

sign_taken : (total b : ℕ) (i k : Input) (o : Option Sign) → At total i → IsTaken total sign_mark i o k → Taken total b sign_shape i o k
sign_taken total b i k None placed q = (record { spelled = ap (λ (k : Input). k.rest) (sym q); indexed = tt; shallow = omega arith }, rw q placed)
sign_taken total b i k (Some s) placed q = (record { spelled = q.rest; indexed = tt; shallow = omega arith }, q.placed)

pub sign_takes : (total b : ℕ) → Takes total b sign_shape sign
unfolding sign
sign_takes total b i placed = found_map total (IsTaken total sign_mark i) (Taken total b sign_shape i) (sign i) (sign_found total i placed) (λ o k q. sign_taken total b i k o placed q)

abbrev pub constant_shape : ℕ → Shape Constant
constant_shape total = record { put = put_constant; indexed = IsIndexedConstant total; depth = λ c. 0 }

constant_by_found : (total b : ℕ) (i : Input) (o : Option Sign) (n : ℕ) (ks : List Kind) → At total i → let k : Input = record { at = n; rest = ks } in Taken total b sign_shape i o k → Found total (Taken total b (constant_shape total) i) (constant_by i.at o (first ks) k)
unfolding identifier next advance
constant_by_found total b i o n (kind.Number m ∷ ks) placed q = let s = q.0 in let p = q.1 in (record { spelled = s.spelled; indexed = (begins total i _ placed s.spelled, tt); shallow = omega arith }, omega arith)
constant_by_found total b i o n (kind.Name m ∷ ks) placed q = let s = q.0 in let p = q.1 in (record { spelled = s.spelled; indexed = (begins total i _ placed s.spelled, p); shallow = omega arith }, omega arith)
constant_by_found total b i None n (kind.Character m ∷ ks) placed q = let s = q.0 in let p = q.1 in (record { spelled = s.spelled; indexed = (begins total i _ placed s.spelled, tt); shallow = omega arith }, omega arith)
constant_by_found total b i (Some s) n (kind.Character m ∷ ks) placed q = let p = q.1 in omega arith
constant_by_found total b i o n _ placed q = let p = q.1 in omega arith

pub constant_takes : (total b : ℕ) → Takes total b (constant_shape total) constant
unfolding constant next
constant_takes total b i placed =
    found_then total (Taken total b sign_shape i) (Taken total b (constant_shape total) i) (sign i) (λ s k. constant_by i.at s (first k.rest) k) (sign_takes total b i placed) (λ o k q.
    constant_by_found total b i o k.at k.rest placed q)

abbrev pub labels_shape : ℕ → Shape (List Constant)
labels_shape total = flat (separated_of mark.Comma (constant_shape total))

pub labels_take : (total b : ℕ) → Takes total b (labels_shape total) (separated mark.Comma constant)
labels_take total b = let s = constant_shape total in separated_takes total b mark.Comma s (flat (all_of (behind_of mark.Comma s))) (labels_shape total) (flat_built mark.Comma s) (flat_led mark.Comma s) constant (constant_takes total b)
