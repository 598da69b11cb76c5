-- What is written at a token.
use Rattle.std.proofs.Common.{Bor, ◌≡◌, ℕ, nat_eq, Bool, true, false, cond, if◌then◌else◌, List, [], ◌∷◌, ◌++◌, map, Option, Some, None, option_map, is_some, Result, Ok, Err, refl, sym, ap, ◌∙◌}
use Rattle.std.specs.Map.{lookup}
use Rattle.std.specs.Prelude.{OnOk}
use Rattle.std.specs.Option.{option_copied}
use Rattle.std.proofs.lemmas.List.{map-append}
use Rattle.indexmap.specs.IndexMap.{IndexMap, insert_entry}
use Rattle.indexmap.proofs.CallerLemmas.{insert_entry-new}
use Rattle.cp_scope.specs.declared.shape.TokenShape as code_shape
use Rattle.cp_scope.specs.declared.shapes.Shapes as code_shapes
use Rattle.cp_scope.specs.Scopes.{Shape, Shapes, shape_in, with_shape}
use Rattle.cp_scope.specs.View.{shape_view, shape_entry, shapes_of}

chosen : {A B : Type 0} (f : A → B) (b : Bool) (x : A) (y : Option A) → option_map f (cond b (Some x) y) ≡ cond b (Some (f x)) (option_map f y)
chosen f true x y = refl
chosen f false x y = refl

found_in : (n : ℕ) (es : List (ℕ × code_shape.TokenShape)) → option_map shape_view (lookup (nat_eq n) es) ≡ shape_in n (map shape_entry es)
found_in n [] = refl
found_in n (e ∷ es) = chosen shape_view (nat_eq n e.0) e.1 _ ∙ ap (cond (nat_eq n e.0) (Some (shape_view e.1))) (found_in n es)

pub found : (n : ℕ) (s : code_shapes.Shapes) → option_map shape_view (lookup (nat_eq n) s.items.entries) ≡ shape_in n (shapes_of s)
unfolding shapes_of
found n s = found_in n s.items.entries

abbrev pub seen : Bor code_shape.TokenShape → Shape
seen s = shape_view s.now

seen_is : (o : Option (Bor code_shape.TokenShape)) → option_map seen o ≡ option_map shape_view (option_copied o)
seen_is (Some x) = refl
seen_is None = refl

pub shape_seen : (s : code_shapes.Shapes) (n : ℕ) (got : Option (Bor code_shape.TokenShape)) → option_copied got ≡ lookup (nat_eq n) s.items.entries → option_map seen got ≡ shape_in n (shapes_of s)
shape_seen s n got e = seen_is got ∙ ap (option_map shape_view) e ∙ found n s

some_map : {A B : Type 0} (f : A → B) (o : Option A) → is_some (option_map f o) ≡ is_some o
some_map f (Some x) = refl
some_map f None = refl

kept_here : (s : code_shapes.Shapes) (n : ℕ) → is_some (shape_in n (shapes_of s)) ≡ is_some (lookup (nat_eq n) s.items.entries)
kept_here s n = sym (ap is_some (found n s)) ∙ some_map shape_view _

none_of : {A : Type 0} (o : Option A) → is_some o ≡ false → o ≡ None
none_of (Some x) h = cc
none_of None h = refl

pub keep_again : (s : code_shapes.Shapes) (n : ℕ) (d : Shape) → is_some (lookup (nat_eq n) s.items.entries) ≡ true → shapes_of s ≡ with_shape (shapes_of s) n d
keep_again s n d h = rw (kept_here s n, h) refl

added : (s new : code_shapes.Shapes) (n : ℕ) (d : code_shape.TokenShape) → is_some (lookup (nat_eq n) s.items.entries) ≡ false → new.items.entries ≡ insert_entry nat_eq s.items.entries n d → shapes_of new ≡ shapes_of s ++ (n, shape_view d) ∷ []
unfolding shapes_of
added s new n d h i = ap (map shape_entry) (i ∙ insert_entry-new nat_eq s.items n d (none_of _ h)) ∙ map-append shape_entry s.items.entries ((n, d) ∷ [])

pub keep_new : (s new : code_shapes.Shapes) (n : ℕ) (d : code_shape.TokenShape) → is_some (lookup (nat_eq n) s.items.entries) ≡ false → new.items.entries ≡ insert_entry nat_eq s.items.entries n d → shapes_of new ≡ with_shape (shapes_of s) n (shape_view d)
keep_new s new n d h i = rw (kept_here s n, h) (added s new n d h i)

kept_by : (s new : code_shapes.Shapes) (n : ℕ) (d : code_shape.TokenShape) (b : Bool) → is_some (lookup (nat_eq n) s.items.entries) ≡ b → new.items.entries ≡ (if b then s.items.entries else insert_entry nat_eq s.items.entries n d) → shapes_of new ≡ with_shape (shapes_of s) n (shape_view d)
unfolding shapes_of
kept_by s new n d true h e = ap (map shape_entry) e ∙ keep_again s n (shape_view d) h
kept_by s new n d false h e = keep_new s new n d h e

pub kept_first : (s new : code_shapes.Shapes) (n : ℕ) (d : code_shape.TokenShape) → new.items.entries ≡ (if is_some (lookup (nat_eq n) s.items.entries) then s.items.entries else insert_entry nat_eq s.items.entries n d) → shapes_of new ≡ with_shape (shapes_of s) n (shape_view d)
kept_first s new n d e = kept_by s new n d (is_some (lookup (nat_eq n) s.items.entries)) refl e

pub ok_on : {A E : Type 0} (P Q : Type 0) (r : Result A E) → (P → Q) → OnOk r P → OnOk r Q
ok_on P Q (Ok a) f h = f h
ok_on P Q (Err e) f h = h
