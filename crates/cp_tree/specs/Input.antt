-- What a parser reads from, and the steps that every rule is made of.
use Rattle.std.specs.Prelude.{◌≡◌, ◌≢◌, ℕ, ◌+◌, Bool, true, false, if◌then◌else◌, List, [], ◌∷◌, Option, Some, None, Result, Ok, Err}
use denote.Enum.Bare.{sameb}
use Rattle.cp_text.specs.contracts.token.Mark.{the_type}
use Rattle.cp_text.specs.declared.token.Kind.{Kind}
use Rattle.cp_text.specs.declared.token.Kind.TheVariants as kind
use Rattle.cp_text.specs.declared.token.Mark.{Mark}
use Rattle.cp_tree.specs.declared.fault.ParseFault.{ParseFault}
use Rattle.cp_tree.specs.declared.fault.ParseFault.TheVariants.{Unexpected, TooDeep, Memory}

-- the tokens that are left, and how many stand before them
pub record Input : Type 0 where
  pub at : ℕ
  pub rest : List Kind

abbrev pub start_of : List Kind → Input
start_of ks = record { at = 0; rest = ks }

-- `==` on words and signs
unfoldable pub same : Mark → Mark → Bool
same = sameb the_type

abbrev pub first : List Kind → Option Kind
first [] = None
first (k ∷ ks) = Some k

abbrev pub mark_of : Kind → Option Mark
mark_of (kind.Mark m) = Some m
mark_of (kind.Number n) = None
mark_of (kind.Character c) = None
mark_of (kind.Name s) = None

abbrev pub first_mark : List Kind → Option Mark
first_mark [] = None
first_mark (k ∷ ks) = mark_of k

abbrev pub is_mark : Mark → Option Mark → Bool
is_mark m None = false
is_mark m (Some n) = same n m

unfoldable pub next : Input → Option Kind
next i = first i.rest

unfoldable pub mark : Input → Option Mark
mark i = first_mark i.rest

abbrev pub move : ℕ → List Kind → Input
move at [] = record { at = at; rest = [] }
move at (k ∷ ks) = record { at = at + 1; rest = ks }

unfoldable pub advance : Input → Input
advance i = move i.at i.rest

unfoldable pub sees : Mark → Input → Bool
sees m i = is_mark m (mark i)

abbrev pub is_name : Option Kind → Bool
is_name (Some (kind.Name n)) = true
is_name (Some (kind.Number n)) = false
is_name (Some (kind.Character c)) = false
is_name (Some (kind.Mark m)) = false
is_name None = false

unfoldable pub sees_name : Input → Bool
sees_name i = is_name (next i)

unfoldable pub after : Mark → Input → Input
after m i = if sees m i then advance i else i

-- ---- parsers

abbrev pub Outcome : Type 0 → Type 0
Outcome A = Result (A × Input) ParseFault

abbrev pub Parser : Type 0 → Type 0
Parser A = Input → Outcome A

abbrev pub and_then : {A B : Type 0} → Outcome A → (A → Parser B) → Outcome B
and_then (Ok p) f = f p.0 p.1
and_then (Err e) f = Err e

infixl 10 ◌>>=◌
abbrev pub ◌>>=◌ : {A B : Type 0} → Parser A → (A → Parser B) → Parser B
p >>= f = λ i. and_then (p i) f

infixl 10 ◌>>◌
abbrev pub ◌>>◌ : {A B : Type 0} → Parser A → Parser B → Parser B
p >> q = p >>= (λ _. q)

abbrev pub pure : {A : Type 0} → A → Parser A
pure a = λ i. Ok (a, i)

abbrev pub refuse : {A : Type 0} → Parser A
refuse = λ i. Err (Unexpected i.at)

abbrev pub deep : {A : Type 0} → Parser A
deep = λ i. Err (TooDeep i.at)

abbrev pub place : Parser ℕ
place = λ i. Ok (i.at, i)

abbrev pub peek : Parser (Option Kind)
peek = λ i. Ok (next i, i)

abbrev pub peek_mark : Parser (Option Mark)
peek_mark = λ i. Ok (mark i, i)

abbrev pub skip : Parser (Unit {0})
skip = λ i. Ok (tt, advance i)

abbrev pub seen : Mark → Parser Bool
seen m = λ i. Ok (sees m i, i)

abbrev pub seen_name : Parser Bool
seen_name = λ i. Ok (sees_name i, i)

abbrev pub eat : Mark → Parser Bool
eat m = λ i. Ok (sees m i, after m i)

unfoldable pub expect : Mark → Parser (Unit {0})
expect m = λ i. if sees m i then Ok (tt, advance i) else refuse i

-- ---- what a function that parses ensures: the parser's outcome, unless memory fails

abbrev pub Reads : {X A : Type 0} → (X → A) → Outcome A → Result X ParseFault → Input → Type 0
Reads view outcome (Ok x) new = outcome ≡ Ok (view x, new)
Reads view outcome (Err e) new = e ≢ Memory → outcome ≡ Err e

-- what was read after a value that is held meanwhile
abbrev pub second_of : {X A : Type 0} → Result (X × A) ParseFault → Result A ParseFault
second_of (Ok p) = Ok p.1
second_of (Err e) = Err e
