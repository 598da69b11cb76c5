-- The tokens of a statement are read as that statement.
use Rattle.std.proofs.Common.{◌≡◌, ℕ, zero, suc, ◌+◌, ◌<◌, ◌≤◌, max, Bool, true, false, cond, List, [], ◌∷◌, Option, Some, None, refl, sym, ap, subst, ◌∙◌, arith}
use Rattle.cp_text.specs.declared.token.Kind.{Kind}
use Rattle.cp_text.specs.declared.token.Kind.TheVariants as kind
use Rattle.cp_text.specs.declared.token.Mark.{Mark}
use Rattle.cp_text.specs.declared.token.Mark.TheVariants as mark
use Rattle.cp_tree.specs.declared.statement.AssertionKind.TheVariants.{Assertion}
use Rattle.cp_tree.specs.declared.statement.Direction.{Direction}
use Rattle.cp_tree.specs.declared.statement.Direction.TheVariants as directions
use Rattle.cp_tree.specs.Input as Input
use Rattle.cp_tree.specs.Input.{Input, Outcome, Parser, ◌>>=◌, pure, same, is_mark, first, first_mark, next, advance, sees, after, expect}
use Rattle.cp_tree.specs.Syntax.{Expression, Expressions, Designator, designator, Start, Statement, empty, assign, invoke, block, if_then, if_else, case_of, while_do, repeat_until, for_do, cycle, init, asserted, Statements, no_statements, more_statements, Arms, no_arms, more_arms, Arm, arm}
use Rattle.cp_tree.specs.View.{asserted_of, expressions_of, statements_of, arms_of}
use Rattle.cp_tree.specs.Reading.{behind, separated, ended_list, identifier, constant}
use Rattle.cp_tree.specs.ReadingAnnotations.{annotations_with}
use Rattle.cp_tree.specs.ReadingExpressions.{expression, designator_with, arguments_with}
use Rattle.cp_tree.specs.ReadingStatements.{if_of, direction, labels, start_with, init_with, named_with, if_with, while_with, for_with, repeat_with, block_with, cycle_with, arm_with, case_with, statement_by, plain_with, statement_with, statement, statements_at}
use Rattle.cp_tree.specs.Spelling.{direction_mark, put_optional, put_all, put_behind, put_constant, put_expression, put_arguments, put_designator, put_start, put_statement, put_more_statements, put_more_arms, put_arm}
use Rattle.cp_tree.specs.SpellingIndexed.{Begins}
use Rattle.cp_tree.specs.SpellingLevel.{expression_depth, designator_depth, deepest, start_depth, statement_depth}
use Rattle.cp_tree.proofs.Shapes.{Shape, mark_shape, behind_of, all_of, separated_of, IsListed, all_listed}
use Rattle.cp_tree.proofs.FoundConstants.{identifier_shape}
use Rattle.cp_tree.proofs.FoundStatements.{statement_shape, more_statements_shape, statements_shape, arm_shape, more_arms_shape, arms_shape, start_shape, direction_shape, put_else, else_depth}
use Rattle.cp_tree.proofs.Grows.{grows_start, grows_statement, grows_arm}
use Rattle.cp_tree.proofs.Lands.{on, Lands, lands_then, lands_map, LandsOn, LandsAll, before, expect_lands, eaten, not_eaten, class, Stops, land_one, land_two, land_three, land_four, land_seven}
use Rattle.cp_tree.proofs.LandsLists.{IsApart, IsApartLed, follows, behind_lands, behind_ends, separated_lands, ended_of, ended_lands}
use Rattle.cp_tree.proofs.FoundAnnotations.{put_annotation, asserted_put, asserted_ends}
use Rattle.cp_tree.proofs.AgainAnnotations.{annotations_land, tests_of, plain_of, is_plain, plain_plain, asserted_back, asserted_apart, asserted_deep, plain_deep}
use Rattle.cp_tree.proofs.AgainConstants.{NoComma, identifier_lands, labels_before, labels_land}
use Rattle.cp_tree.proofs.AgainExpressions.{expressions_list, expressions_back, expression_before, arguments_before, designator_before, arguments_land, designator_lands, arguments_follow, expression_lands}
use Rattle.cp_tree.proofs.AgainTypes.{is_sign, constant_sign, colon_no_comma}

-- ---- the lists of the syntax, as lists

abbrev pub statements_list : Statements → List Statement
statements_list no_statements = []
statements_list (more_statements s ss) = s ∷ statements_list ss

pub statements_back : (ss : Statements) → statements_of (statements_list ss) ≡ ss
statements_back no_statements = refl
statements_back (more_statements s ss) = ap (more_statements s) (statements_back ss)

abbrev arms_list : Arms → List Arm
arms_list no_arms = []
arms_list (more_arms b bs) = b ∷ arms_list bs

arms_back : (bs : Arms) → arms_of (arms_list bs) ≡ bs
arms_back no_arms = refl
arms_back (more_arms b bs) = ap (more_arms b) (arms_back bs)

-- ---- what follows a statement

abbrev pub ends_statement : Option Mark → Bool
ends_statement (Some mark.Semicolon) = true
ends_statement (Some mark.End) = true
ends_statement (Some mark.Else) = true
ends_statement (Some mark.Until) = true
ends_statement _ = false

abbrev pub Ends : List Kind → Type 0
Ends ks = ends_statement (first_mark ks) ≡ true

abbrev NoElse : List Kind → Type 0
NoElse ks = is_mark mark.Else (first_mark ks) ≡ false

-- what follows a statement of a list
abbrev Separates : List Kind → Type 0
Separates ks = Ends ks × NoElse ks

-- what follows a list of statements
abbrev pub Closes : List Kind → Type 0
Closes ks = Separates ks × (is_mark mark.Semicolon (first_mark ks) ≡ false)

end_class : (o : Option Mark) → ends_statement o ≡ true → class o ≤ 0
end_class (Some mark.Semicolon) e = omega arith
end_class _ e = first_of (omega arith, cc)

end_stops : (k : ℕ) (ks : List Kind) → Ends ks → Stops k ks
end_stops k ks e = omega (arith, end_class (first_mark ks) e)

end_no_comma : (o : Option Mark) → ends_statement o ≡ true → is_mark mark.Comma o ≡ false
unfolding same
end_no_comma (Some mark.Semicolon) e = refl
end_no_comma _ e = cc

unseen_becomes : (o : Option Mark) → ends_statement o ≡ true → is_mark mark.Becomes o ≡ false
unfolding same
unseen_becomes (Some mark.Semicolon) e = refl
unseen_becomes _ e = cc

no_becomes : (es : List Expression) (ks : List Kind) → Ends ks → is_mark mark.Becomes (first_mark (put_arguments (expressions_of es) ks)) ≡ false
unfolding same
no_becomes [] ks e = unseen_becomes (first_mark ks) e
no_becomes (e ∷ es) ks h = refl

semicolon_separates : (ks : List Kind) → Separates (kind.Mark mark.Semicolon ∷ ks)
unfolding same
semicolon_separates ks = (refl, refl)

pub end_closes : (ks : List Kind) → Closes (kind.Mark mark.End ∷ ks)
unfolding same
end_closes ks = ((refl, refl), refl)

until_closes : (ks : List Kind) → Closes (kind.Mark mark.Until ∷ ks)
unfolding same
until_closes ks = ((refl, refl), refl)

optional_separates : (c : Bool) (ks : List Kind) → Separates (put_optional mark.Semicolon c (kind.Mark mark.End ∷ ks))
optional_separates true ks = semicolon_separates (kind.Mark mark.End ∷ ks)
optional_separates false ks = (end_closes ks).0

-- ---- shapes, with what may follow

abbrev pub statement_before : ℕ → Shape Statement
statement_before total = before (statement_shape total) Ends

abbrev more_statements_before : ℕ → Shape (List Statement)
more_statements_before total = before (more_statements_shape total) Closes

abbrev pub statements_before : ℕ → Shape (List Statement)
statements_before total = before (statements_shape total) Closes

abbrev arm_before : ℕ → Shape Arm
arm_before total = before (arm_shape total) Separates

abbrev more_arms_before : ℕ → Shape (List Arm)
more_arms_before total = before (more_arms_shape total) Separates

abbrev arms_before : ℕ → Shape (List Arm)
arms_before total = before (arms_shape total) Separates

abbrev start_before : ℕ → Shape Start
start_before total = before (start_shape total) (Stops 3)

-- what follows the starts of an `init`
abbrev EndsStarts : List Kind → Type 0
EndsStarts ks = Stops 3 ks × NoComma ks

abbrev more_starts_before : ℕ → Shape (List Start)
more_starts_before total = before (all_of (behind_of mark.Comma (start_shape total))) EndsStarts

abbrev starts_before : ℕ → Shape (List Start)
starts_before total = before (separated_of mark.Comma (start_shape total)) EndsStarts

statements_listed : (total : ℕ) → IsListed (behind_of mark.Semicolon (statement_before total)) (more_statements_before total)
statements_listed total = record { no_put = λ ks. refl; more_put = λ x xs ks. refl; no_depth = refl; more_depth = λ x xs. refl }

statements_follow : (total : ℕ) (xs : List Statement) (ks : List Kind) → Closes ks → Separates (put_more_statements (statements_of xs) ks)
statements_follow total xs ks h = follows (behind_of mark.Semicolon (statement_before total)) (more_statements_before total) (statements_listed total) Separates (λ x ks. semicolon_separates (put_statement x ks)) xs ks h.0

statements_apart : (total : ℕ) → IsApart (behind_of mark.Semicolon (statement_before total)) (more_statements_before total)
statements_apart total = record {
  listed = statements_listed total;
  first_indexed = λ x xs ks h. let f = statements_follow total xs ks h.1 in ((h.0.0, λ e. f.1), f.0);
  rest_indexed = λ x xs ks h. (h.0.1, h.1);
}

statements_apart_led : (total : ℕ) → IsApartLed (statement_before total) (more_statements_before total) (statements_before total)
statements_apart_led total = record {
  led = record { led_put = λ x xs ks. refl; led_depth = λ x xs. refl };
  none_indexed = λ ks h. h.0;
  head_indexed = λ x xs ks h. let f = statements_follow total xs ks h.1 in ((h.0.0, λ e. f.1), f.0);
  more_indexed = λ x xs ks h. (h.0.1, h.1);
}

arms_listed : (total : ℕ) → IsListed (behind_of mark.Semicolon (arm_before total)) (more_arms_before total)
arms_listed total = record { no_put = λ ks. refl; more_put = λ x xs ks. refl; no_depth = refl; more_depth = λ x xs. refl }

arms_follow : (total : ℕ) (xs : List Arm) (ks : List Kind) → Separates ks → Separates (put_more_arms (arms_of xs) ks)
arms_follow total xs ks h = follows (behind_of mark.Semicolon (arm_before total)) (more_arms_before total) (arms_listed total) Separates (λ x ks. semicolon_separates (put_arm x ks)) xs ks h

arms_apart : (total : ℕ) → IsApart (behind_of mark.Semicolon (arm_before total)) (more_arms_before total)
arms_apart total = record { listed = arms_listed total; first_indexed = λ x xs ks h. (h.0.0, arms_follow total xs ks h.1); rest_indexed = λ x xs ks h. (h.0.1, h.1) }

arms_apart_led : (total : ℕ) → IsApartLed (arm_before total) (more_arms_before total) (arms_before total)
arms_apart_led total = record {
  led = record { led_put = λ x xs ks. refl; led_depth = λ x xs. refl };
  none_indexed = λ ks h. h.0;
  head_indexed = λ x xs ks h. (h.0.0, arms_follow total xs ks h.1);
  more_indexed = λ x xs ks h. (h.0.1, h.1);
}

starts_follow : (total : ℕ) (xs : List Start) (ks : List Kind) → Stops 3 ks → Stops 3 (put_all (put_behind mark.Comma put_start) xs ks)
starts_follow total xs ks h = follows (behind_of mark.Comma (start_shape total)) (all_of (behind_of mark.Comma (start_shape total))) (all_listed (behind_of mark.Comma (start_shape total))) (Stops 3) (λ x ks. omega arith) xs ks h

starts_apart : (total : ℕ) → IsApart (behind_of mark.Comma (start_before total)) (more_starts_before total)
starts_apart total = record {
  listed = record { no_put = λ ks. refl; more_put = λ x xs ks. refl; no_depth = refl; more_depth = λ x xs. refl };
  first_indexed = λ x xs ks h. (h.0.0, starts_follow total xs ks h.1.0);
  rest_indexed = λ x xs ks h. (h.0.1, h.1);
}

starts_apart_led : (total : ℕ) → IsApartLed (start_before total) (more_starts_before total) (starts_before total)
starts_apart_led total = record {
  led = record { led_put = λ x xs ks. refl; led_depth = λ x xs. refl };
  none_indexed = λ ks h. h.0;
  head_indexed = λ x xs ks h. (h.0.0, starts_follow total xs ks h.1.0);
  more_indexed = λ x xs ks h. (h.0.1, h.1);
}

-- a label does not begin with `end`
sign_no_end : (o : Option Mark) → is_sign o ≡ true → is_mark mark.End o ≡ false
unfolding same
sign_no_end (Some mark.Plus) e = refl
sign_no_end _ e = cc

arm_no_end : (b : Arm) (ks : List Kind) → is_mark mark.End (first_mark (put_arm b ks)) ≡ false
unfolding same
arm_no_end (arm [] s) ks = refl
arm_no_end (arm (c ∷ cs) s) ks = let rest = put_all (put_behind mark.Comma put_constant) cs (kind.Mark mark.Colon ∷ put_statement s ks) in sign_no_end (first_mark (put_constant c rest)) (constant_sign c.kind rest)

direction_lands : (total b : ℕ) → LandsAll total b direction_shape direction
unfolding direction Input.mark advance
direction_lands total b directions.To n ks placed indexed = (refl, refl, omega arith)
direction_lands total b directions.Downto n ks placed indexed = (refl, refl, omega arith)

direction_stops : (d : Direction) (ks : List Kind) → Stops 0 (kind.Mark (direction_mark d) ∷ ks)
direction_stops directions.To ks = omega arith
direction_stops directions.Downto ks = omega arith

-- ---- statements without statements inside

module _ (total b : ℕ) (expression : Parser Expression) (law : LandsAll total b (expression_before total) expression) where
  start_of_list : (d : Designator) (es : List Expression) → LandsOn total b (start_before total) (start_with expression) (record { target = d; arguments = expressions_of es })
  unfolding start_with
  start_of_list d es n ks placed indexed =
      let s : Start = record { target = d; arguments = expressions_of es } in
      land_two total b (b < start_depth s) s (designator_before total) (arguments_before total) (designator_with expression) (arguments_with expression) (λ d es. record { target = d; arguments = expressions_of es }) d es (designator_lands total b expression law d) (arguments_land total b expression law es)
      n ks placed ((indexed.0.0, arguments_follow total b expression law es ks indexed.1), (indexed.0.1, indexed.1)) (λ d. d) refl

  start_lands : LandsAll total b (start_before total) (start_with expression)
  start_lands s = subst (λ (es : Expressions). LandsOn total b (start_before total) (start_with expression) (record { target = s.target; arguments = es })) (expressions_back s.arguments) (start_of_list s.target (expressions_list s.arguments))

  starts_land : LandsAll total b (starts_before total) (separated mark.Comma (start_with expression))
  starts_land = separated_lands total b mark.Comma (start_before total) (more_starts_before total) (starts_before total) (starts_apart total) (starts_apart_led total) (start_with expression) start_lands (λ ks h. h.1.1) grows_start

  assign_lands : (at : ℕ) (d : Designator) (e : Expression) (n : ℕ) (ks : List Kind) → let s = assign at d e in Begins total n (put_statement s ks) → (statement_before total).indexed s ks → Lands total (suc b < statement_depth s) s ks (named_with expression n (on n (put_statement s ks)))
  unfolding named_with
  assign_lands at d e n ks placed indexed =
      let same_at : n ≡ at = omega (arith, indexed.0.0.0) in
      let s = assign at d e in
      let E = suc b < statement_depth s in
      let assigned : Designator → Parser Statement = λ d. expression >>= (λ e. pure (assign n d e)) in
      let invoked : Designator → Parser Statement = λ d. arguments_with expression >>= (λ es. pure (invoke n d (expressions_of es))) in
      let rest = kind.Mark mark.Becomes ∷ put_expression e ks in
      lands_then total (b < designator_depth d) E (designator_with expression (on n (put_designator d rest))) (λ d k. (cond (sees mark.Becomes k) (assigned d) (invoked d)) (after mark.Becomes k)) d rest s ks
      (designator_lands total b expression law d n rest placed (indexed.0.0.1, omega arith)) (λ d. omega arith) (λ k here.
      eaten total E mark.Becomes (assigned d) (invoked d) k (put_expression e ks) s ks here (λ l q.
      land_one total b E s (expression_before total) expression (λ e. assign n d e) e (law e) l ks q (indexed.0.0.2, end_stops 0 ks indexed.1) (λ d. omega arith) (ap (λ a. assign a d e) same_at)))

  invoke_lands : (at : ℕ) (d : Designator) (es : List Expression) (n : ℕ) (ks : List Kind) → let s = invoke at d (expressions_of es) in Begins total n (put_statement s ks) → (statement_before total).indexed s ks → Lands total (suc b < statement_depth s) s ks (named_with expression n (on n (put_statement s ks)))
  unfolding named_with
  invoke_lands at d es n ks placed indexed =
      let same_at : n ≡ at = omega (arith, indexed.0.0.0) in
      let s = invoke at d (expressions_of es) in
      let E = suc b < statement_depth s in
      let assigned : Designator → Parser Statement = λ d. expression >>= (λ e. pure (assign n d e)) in
      let invoked : Designator → Parser Statement = λ d. arguments_with expression >>= (λ es. pure (invoke n d (expressions_of es))) in
      let rest = put_arguments (expressions_of es) ks in
      let stops = end_stops 3 ks indexed.1 in
      lands_then total (b < designator_depth d) E (designator_with expression (on n (put_designator d rest))) (λ d k. (cond (sees mark.Becomes k) (assigned d) (invoked d)) (after mark.Becomes k)) d rest s ks
      (designator_lands total b expression law d n rest placed (indexed.0.0.1, arguments_follow total b expression law es ks stops)) (λ d. omega arith) (λ k here.
      not_eaten total E mark.Becomes (assigned d) (invoked d) k rest s ks (no_becomes es ks indexed.1)
      (land_one total b E s (arguments_before total) (arguments_with expression) (λ es. invoke n d (expressions_of es)) es (arguments_land total b expression law es) k ks here (indexed.0.0.2, stops) (λ d. omega arith) (ap (λ a. invoke a d (expressions_of es)) same_at)))

-- ---- the other statements

abbrev IsIndexedElse : ℕ → Option Statement → List Kind → Type 0
IsIndexedElse total None ks = NoElse ks
IsIndexedElse total (Some s) ks = (statement_before total).indexed s ks

abbrev else_before : ℕ → Shape (Option Statement)
else_before total = record { put = put_else; indexed = IsIndexedElse total; depth = else_depth }

module _ (total b : ℕ) (expression : Parser Expression) (inner : Parser Statement) (law : LandsAll total b (expression_before total) expression) (below : LandsAll total b (statement_before total) inner) where
  pub statements_land : LandsAll total b (statements_before total) (separated mark.Semicolon inner)
  statements_land = separated_lands total b mark.Semicolon (statement_before total) (more_statements_before total) (statements_before total) (statements_apart total) (statements_apart_led total) inner below (λ ks h. h.1.1) grows_statement

  else_lands : LandsAll total b (else_before total) (behind mark.Else inner)
  else_lands None n ks placed indexed = lands_map total ⊥ (b < 0) (behind mark.Else inner (on n ks)) None ks (behind_ends total mark.Else inner ks indexed n placed) (λ d. absurd d)
  else_lands (Some s) n ks placed indexed = behind_lands total b mark.Else (statement_before total) inner s (below s) n ks placed indexed

  arm_lands : LandsAll total b (arm_before total) (arm_with expression inner)
  unfolding arm_with labels
  arm_lands (arm cs s) n ks placed indexed =
      land_three total b (b < statement_depth s) (arm cs s) (labels_before total) (mark_shape mark.Colon) (statement_before total) (separated mark.Comma constant) (expect mark.Colon) inner (λ cs u s. arm cs s) cs tt s (labels_land total b cs) (expect_lands total b mark.Colon tt) (below s)
      n ks placed ((indexed.0.0, colon_no_comma (put_statement s ks)), (tt, ((indexed.0.1, λ e. indexed.1.1), indexed.1.0))) (λ d. omega arith) refl

  -- Where this statement stands without assertions, it is read.
  abbrev Given : Statement → Type 0
  Given s = LandsOn total (suc b) (statement_before total) (plain_with expression inner) s

  block_given : (at : ℕ) (ss : List Statement) → Given (block at (statements_of ss))
  unfolding plain_with next advance block_with
  block_given at ss n ks placed indexed =
      let same_at : n ≡ at = omega (arith, indexed.0.0.0) in
      let s = block at (statements_of ss) in
      land_two total b (suc b < statement_depth s) s (statements_before total) (mark_shape mark.End) (separated mark.Semicolon inner) (expect mark.End) (λ ss u. block n (statements_of ss)) ss tt (statements_land ss) (expect_lands total b mark.End tt)
      (n + 1) ks (omega arith) ((indexed.0.0.1, end_closes ks), tt) (λ d. omega arith) (ap (λ a. block a (statements_of ss)) same_at)

  cycle_given : (at : ℕ) (ss : List Statement) → Given (cycle at (statements_of ss))
  unfolding plain_with next advance cycle_with
  cycle_given at ss n ks placed indexed =
      let same_at : n ≡ at = omega (arith, indexed.0.0.0) in
      let s = cycle at (statements_of ss) in
      land_two total b (suc b < statement_depth s) s (statements_before total) (mark_shape mark.End) (separated mark.Semicolon inner) (expect mark.End) (λ ss u. cycle n (statements_of ss)) ss tt (statements_land ss) (expect_lands total b mark.End tt)
      (n + 1) ks (omega arith) ((indexed.0.0.1, end_closes ks), tt) (λ d. omega arith) (ap (λ a. cycle a (statements_of ss)) same_at)

  repeat_given : (at : ℕ) (ss : List Statement) (e : Expression) → Given (repeat_until at (statements_of ss) e)
  unfolding plain_with next advance repeat_with
  repeat_given at ss e n ks placed indexed =
      let same_at : n ≡ at = omega (arith, indexed.0.0.0) in
      let s = repeat_until at (statements_of ss) e in
      land_three total b (suc b < statement_depth s) s (statements_before total) (mark_shape mark.Until) (expression_before total) (separated mark.Semicolon inner) (expect mark.Until) expression (λ ss u e. repeat_until n (statements_of ss) e) ss tt e (statements_land ss) (expect_lands total b mark.Until tt) (law e)
      (n + 1) ks (omega arith) ((indexed.0.0.1, until_closes (put_expression e ks)), (tt, (indexed.0.0.2, end_stops 0 ks indexed.1))) (λ d. omega arith) (ap (λ a. repeat_until a (statements_of ss) e) same_at)

  case_given : (at : ℕ) (e : Expression) (bs : List Arm) (c : Bool) → Given (case_of at e (arms_of bs) c)
  unfolding plain_with next advance case_with
  case_given at e bs c n ks placed indexed =
      let same_at : n ≡ at = omega (arith, indexed.0.0.0) in
      let s = case_of at e (arms_of bs) c in
      land_four total b (suc b < statement_depth s) s (expression_before total) (mark_shape mark.Of) (ended_of (arms_before total)) (mark_shape mark.End) expression (expect mark.Of) (ended_list (arm_with expression inner)) (expect mark.End) (λ e u all v. case_of n e (arms_of all.0) all.1) e tt (bs, c) tt
      (law e) (expect_lands total b mark.Of tt) (ended_lands total b (arm_before total) (more_arms_before total) (arms_before total) (arms_apart total) (arms_apart_led total) (arm_with expression inner) arm_lands grows_arm arm_no_end (bs, c)) (expect_lands total b mark.End tt)
      (n + 1) ks (omega arith) ((indexed.0.0.1, omega arith), (tt, (((indexed.0.0.2, optional_separates c ks), ks, refl), tt))) (λ d. omega arith) (ap (λ a. case_of a e (arms_of bs) c) same_at)

  empty_lands : (D : Type 0) (n at : ℕ) (ks : List Kind) → Begins total n ks → Begins total at ks → Ends ks → Lands total D (empty at) ks (statement_by expression inner n (first ks) (on n ks))
  empty_lands D n at (kind.Mark mark.Semicolon ∷ ks) placed indexed ends = let same_at : n ≡ at = omega arith in (ap empty same_at, refl, placed)
  empty_lands D n at (kind.Mark mark.End ∷ ks) placed indexed ends = let same_at : n ≡ at = omega arith in (ap empty same_at, refl, placed)
  empty_lands D n at (kind.Mark mark.Else ∷ ks) placed indexed ends = let same_at : n ≡ at = omega arith in (ap empty same_at, refl, placed)
  empty_lands D n at (kind.Mark mark.Until ∷ ks) placed indexed ends = let same_at : n ≡ at = omega arith in (ap empty same_at, refl, placed)
  empty_lands D n at _ placed indexed ends = absurd cc

  plain_lands : (s : Statement) → is_plain s ≡ true → Given s
  unfolding plain_with next advance if_with while_with for_with init_with
  plain_lands (empty at) plain n ks placed indexed = empty_lands (suc b < 1) n at ks placed indexed.0.0 indexed.1
  plain_lands (assign at (designator i ss) e) plain n ks placed indexed = assign_lands total b expression law at (designator i ss) e n ks placed indexed
  plain_lands (invoke at (designator i ss) es) plain n ks placed indexed =
      subst (λ (es : Expressions). Given (invoke at (designator i ss) es)) (expressions_back es) (λ n ks placed indexed. invoke_lands total b expression law at (designator i ss) (expressions_list es) n ks placed indexed) n ks placed indexed
  plain_lands (block at ss) plain n ks placed indexed = subst (λ (ss : Statements). Given (block at ss)) (statements_back ss) (block_given at (statements_list ss)) n ks placed indexed
  plain_lands (if_then at e s) plain n ks placed indexed =
      let same_at : n ≡ at = omega (arith, indexed.0.0.0) in
      land_four total b (suc b < suc (max (expression_depth e) (statement_depth s))) (if_then at e s) (expression_before total) (mark_shape mark.Then) (statement_before total) (else_before total) expression (expect mark.Then) inner (behind mark.Else inner) (λ e u s o. if_of n e s o) e tt s None
      (law e) (expect_lands total b mark.Then tt) (below s) (else_lands None)
      (n + 1) ks (omega arith) ((indexed.0.0.1, omega arith), (tt, (((indexed.0.0.2, λ o. indexed.0.1 refl), indexed.1), indexed.0.1 refl))) (λ d. omega arith) (ap (λ a. if_then a e s) same_at)
  plain_lands (if_else at e s t) plain n ks placed indexed =
      let same_at : n ≡ at = omega (arith, indexed.0.0.0) in
      let closed = indexed.0.0.4 in
      land_four total b (suc b < suc (max (expression_depth e) (max (statement_depth s) (statement_depth t)))) (if_else at e s t) (expression_before total) (mark_shape mark.Then) (statement_before total) (else_before total) expression (expect mark.Then) inner (behind mark.Else inner) (λ e u s o. if_of n e s o) e tt s (Some t)
      (law e) (expect_lands total b mark.Then tt) (below s) (else_lands (Some t))
      (n + 1) ks (omega arith) ((indexed.0.0.1, omega arith), (tt, (((indexed.0.0.2, λ o. absurd (cc (closed))), refl), ((indexed.0.0.3, indexed.0.1), indexed.1)))) (λ d. omega arith) (ap (λ a. if_else a e s t) same_at)
  plain_lands (case_of at e bs c) plain n ks placed indexed = subst (λ (bs : Arms). Given (case_of at e bs c)) (arms_back bs) (case_given at e (arms_list bs) c) n ks placed indexed
  plain_lands (while_do at e s) plain n ks placed indexed =
      let same_at : n ≡ at = omega (arith, indexed.0.0.0) in
      land_three total b (suc b < suc (max (expression_depth e) (statement_depth s))) (while_do at e s) (expression_before total) (mark_shape mark.Do) (statement_before total) expression (expect mark.Do) inner (λ e u s. while_do n e s) e tt s (law e) (expect_lands total b mark.Do tt) (below s)
      (n + 1) ks (omega arith) ((indexed.0.0.1, omega arith), (tt, ((indexed.0.0.2, indexed.0.1), indexed.1))) (λ d. omega arith) (ap (λ a. while_do a e s) same_at)
  plain_lands (repeat_until at ss e) plain n ks placed indexed = subst (λ (ss : Statements). Given (repeat_until at ss e)) (statements_back ss) (repeat_given at (statements_list ss) e) n ks placed indexed
  plain_lands (for_do at i e d f s) plain n ks placed indexed =
      let same_at : n ≡ at = omega (arith, indexed.0.0.0) in
      land_seven total b (suc b < suc (max (expression_depth e) (max (expression_depth f) (statement_depth s)))) (for_do at i e d f s)
      (identifier_shape total) (mark_shape mark.Becomes) (expression_before total) direction_shape (expression_before total) (mark_shape mark.Do) (statement_before total)
      identifier (expect mark.Becomes) expression direction expression (expect mark.Do) inner (λ i u e d f v s. for_do n i e d f s) i tt e d f tt s
      (identifier_lands total b i) (expect_lands total b mark.Becomes tt) (law e) (direction_lands total b d) (law f) (expect_lands total b mark.Do tt) (below s)
      (n + 1) ks (omega arith) (indexed.0.0.1, (tt, ((indexed.0.0.2, direction_stops d (put_expression f (kind.Mark mark.Do ∷ put_statement s ks))), (tt, ((indexed.0.0.3, omega arith), (tt, ((indexed.0.0.4, indexed.0.1), indexed.1))))))) (λ d. omega arith) (ap (λ a. for_do a i e d f s) same_at)
  plain_lands (cycle at ss) plain n ks placed indexed = subst (λ (ss : Statements). Given (cycle at ss)) (statements_back ss) (cycle_given at (statements_list ss)) n ks placed indexed
  plain_lands (init at ss) plain n ks placed indexed =
      let same_at : n ≡ at = omega (arith, indexed.0.0.0) in
      land_one total b (suc b < suc (deepest start_depth ss)) (init at ss) (starts_before total) (separated mark.Comma (start_with expression)) (λ ss. init n ss) ss (starts_land total b expression law ss)
      (n + 1) ks (omega arith) (indexed.0.0.1, (end_stops 3 ks indexed.1, end_no_comma (first_mark ks) indexed.1)) (λ d. omega arith) (ap (λ a. init a ss) same_at)
  plain_lands (asserted at k e s) plain n ks placed indexed = absurd cc

  ends_no_assert : (o : Option Mark) → ends_statement o ≡ true → is_mark mark.Assert o ≡ false
  unfolding same
  ends_no_assert (Some mark.Semicolon) e = refl
  ends_no_assert _ e = cc

  plain_no_assert : (s : Statement) (ks : List Kind) → is_plain s ≡ true → Ends ks → is_mark mark.Assert (first_mark (put_statement s ks)) ≡ false
  unfolding same
  plain_no_assert (empty at) ks plain ends = ends_no_assert (first_mark ks) ends
  plain_no_assert (assign at (designator i ss) e) ks plain ends = refl
  plain_no_assert (invoke at (designator i ss) es) ks plain ends = refl
  plain_no_assert (asserted at k e s) ks plain ends = absurd cc
  plain_no_assert _ ks plain ends = refl

  asserted_lands : (es : List Expression) (s : Statement) → is_plain s ≡ true → LandsOn total (suc b) (statement_before total) (statement_with expression inner) (asserted_of Assertion es s)
  unfolding statement_with
  asserted_lands es s plain n ks placed indexed =
      let whole = asserted_of Assertion es s in
      let E = suc b < statement_depth (asserted_of Assertion es s) in
      let rest = put_statement s ks in
      let e = asserted_put Assertion es s ks in
      let parts = asserted_apart total es s ks indexed.0.0 in
      let here : Begins total n (put_all (put_annotation mark.Assert) es rest) = subst (λ (ts : List Kind). Begins total n ts) e placed in
      subst (λ (ts : List Kind). Lands total E whole ks ((annotations_with expression mark.Assert >>= (λ es. plain_with expression inner >>= (λ s. pure (asserted_of Assertion es s)))) (on n ts))) (sym e)
      (lands_then total (b < deepest expression_depth es) E (annotations_with expression mark.Assert (on n (put_all (put_annotation mark.Assert) es rest))) (λ es. plain_with expression inner >>= (λ s. pure (asserted_of Assertion es s))) es rest whole ks
      (annotations_land total b expression law mark.Assert es n rest here (parts.0, plain_no_assert s ks plain indexed.1)) (λ d. asserted_deep Assertion es s b d) (λ k q.
      lands_then total (suc b < statement_depth s) E (plain_with expression inner (on k rest)) (λ s. pure (asserted_of Assertion es s)) s ks whole ks
      (plain_lands s plain k ks q ((parts.1, λ o. indexed.0.1 (asserted_ends Assertion es s ∙ o)), indexed.1)) (λ d. let less = plain_deep Assertion es s in omega (arith, d, less)) (λ l r. (refl, refl, r))))

  pub statement_with_lands : LandsAll total (suc b) (statement_before total) (statement_with expression inner)
  statement_with_lands s n ks placed indexed =
      subst (λ (t : Statement). Begins total n (put_statement t ks) → (statement_before total).indexed t ks → Lands total (suc b < statement_depth t) t ks (statement_with expression inner (on n (put_statement t ks)))) (asserted_back total s ks indexed.0.0)
      (asserted_lands (tests_of s) (plain_of s) (plain_plain s) n ks) placed indexed

-- ---- the recursion

at_least_one : (s : Statement) → 0 < statement_depth s
at_least_one (empty at) = omega arith
at_least_one (assign at d e) = omega arith
at_least_one (invoke at d es) = omega arith
at_least_one (block at ss) = omega arith
at_least_one (if_then at e s) = omega arith
at_least_one (if_else at e s t) = omega arith
at_least_one (case_of at e bs semicolon) = omega arith
at_least_one (while_do at e s) = omega arith
at_least_one (repeat_until at ss e) = omega arith
at_least_one (for_do at i e d f s) = omega arith
at_least_one (cycle at ss) = omega arith
at_least_one (init at ss) = omega arith
at_least_one (asserted at k e s) = omega arith

pub statement_lands : (total b : ℕ) → LandsAll total b (statement_before total) (statement b)
unfolding statement
statement_lands total zero s n ks placed indexed = at_least_one s
statement_lands total (suc b) s n ks placed indexed = statement_with_lands total b (expression b) (statement b) (expression_lands total b) (statement_lands total b) s n ks placed indexed

pub statements_at_land : (total b : ℕ) → LandsAll total b (statements_before total) (statements_at b)
unfolding statements_at
statements_at_land total b = statements_land total b (expression b) (statement b) (expression_lands total b) (statement_lands total b)
