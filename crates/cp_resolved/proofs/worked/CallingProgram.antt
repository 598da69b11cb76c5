-- A program with variables and calls stands for itself: layouts for it exist, whatever items have the views that are wanted.
use Rattle.std.proofs.Common.{◌≡◌, ◌∙◌, ℕ, zero, suc, ◌+◌, ◌<◌, ◌≤◌, ◌⊎◌, inl, inr, Bool, true, false, if◌then◌else◌, List, [], ◌∷◌, map, length, replicate, Option, Some, None, ap, sym, refl, subst, arith, get_or}
use Rattle.cp_resolved.proofs.Words.{Each, ℤ, pos, negsuc, codes, slice_index, slice_index_or, length-map, Identifier, Tables, item_at, routine_at, no_item, Name, same_name}
use Rattle.cp_resolved.proofs.Words.{temporary, result_name, Ty, ordinal, all_integers, has_components, Variable, RoutineMeaning, routine_in, system_of, step_down}
use Rattle.cp_resolved.proofs.Words.{component_with, first_components, encode, HasType, as_ordinal, Ground, ItemAt, CallItem}
use Rattle.cp_tree.specs.declared.expression.Addition.TheVariants.{Plus}
use Rattle.cp_tree.specs.Syntax.{Expression, alone, sum, no_terms, more_terms, term, no_factors, number, named, no_expressions, more_expressions, Designator, designator, no_selectors, assign, invoke, no_statements, more_statements, simple, type_name, function, procedure, Routine, program_variables, Tree}
use Rattle.cp_slots.specs.declared.item.Item as code_item
use Rattle.cp_slots.specs.declared.place.Arithmetic.TheVariants.{Add}
use Rattle.cp_slots.specs.declared.place.PlaceOrigin.TheVariants.{Permanent, Local, Reference}
use Rattle.cp_slots.specs.declared.tables.ComponentKind.TheVariants as kind
use Rattle.cp_slots.specs.Code as code
use Rattle.cp_meaning.specs.Scopes.{Meaning, local_variable, permanent_variable, routine_meaning, Scope, find, since}
use Rattle.cp_meaning.specs.State.{component_at as named_component_at}
use Rattle.cp_resolved.specs.Layouts.{cells_of, FrameLayout, Layouts, here, cell_named, look}
use Rattle.cp_resolved.specs.Resolved.{StandsAt, ContainedAt, initial_meaning, first_value, first_permanent, FrameIs, RoutineIs, SystemIs, ComponentIs, ProcessIs, Stands}
use Rattle.cp_resolved.proofs.frames.FrameCells.{look_each, same_is}

-- ---- the program

abbrev pub integer : Ty
integer = ordinal all_integers

abbrev named_at : ℕ → Name → Identifier
named_at at x = record { at = at; name = x }

abbrev pub of_name : ℕ → Name → Designator
of_name at x = designator (named_at at x) no_selectors

abbrev pub just_name : ℕ → Name → Expression
just_name at x = alone at (sum at None (term at (named at (of_name at x) no_expressions) no_factors) no_terms)

-- function f(a: integer): integer; begin f := a + n end
abbrev pub f : Routine
f =
    record {
      at = 5;
      is_entry = false;
      name = named_at 6 (codes "f");
      kind = function (record { names = named_at 8 (codes "a") ∷ []; type_name = named_at 10 (codes "integer") } ∷ []) (named_at 13 (codes "integer"));
      parts = [];
      body = record {
        at = 15;
        statements = more_statements (assign 16 (of_name 16 (codes "f")) (alone 18 (sum 18 None (term 18 (named 18 (of_name 18 (codes "a")) no_expressions) no_factors) (more_terms Plus (term 20 (named 20 (of_name 20 (codes "n")) no_expressions) no_factors) no_terms)))) no_statements;
      };
    }

-- procedure p(var b: integer); begin b := f(b) end
abbrev pub p : Routine
p =
    record {
      at = 23;
      is_entry = false;
      name = named_at 24 (codes "p");
      kind = procedure (record { at = 26; is_var = true; group = record { names = named_at 27 (codes "b") ∷ []; type_name = named_at 29 (codes "integer") } } ∷ []);
      parts = [];
      body = record {
        at = 32;
        statements = more_statements (assign 33 (of_name 33 (codes "b")) (alone 35 (sum 35 None (term 35 (named 35 (of_name 35 (codes "f")) (more_expressions (just_name 37 (codes "b")) no_expressions)) no_factors) no_terms))) no_statements;
      };
    }

-- var n: integer; function f ..; procedure p ..; begin n := 1; p(n) end.
abbrev pub calling : Tree
calling =
    record {
      program = record {
        parts = program_variables 0 (record { names = named_at 1 (codes "n") ∷ []; variable_type = simple 3 (type_name 3 (codes "integer")) } ∷ []) ∷ [];
        routines = f ∷ p ∷ [];
        body = record {
          at = 41;
          statements = more_statements (assign 42 (of_name 42 (codes "n")) (alone 44 (sum 44 None (term 44 (number 44 1) no_factors) no_terms))) (more_statements (invoke 46 (of_name 46 (codes "p")) (more_expressions (just_name 48 (codes "n")) no_expressions)) no_statements);
        };
        period = 51;
      };
      lines = replicate 52 1;
    }

-- ---- its tables

abbrev variable_n : code.Place
variable_n = code.place (Permanent 0) 0 code.no_indices

abbrev parameter_a : code.Place
parameter_a = code.place (Local 0) 0 code.no_indices

abbrev result_f : code.Place
result_f = code.place (Local 1) 0 code.no_indices

abbrev pub parameter_b : code.Place
parameter_b = code.place (Reference 0) 0 code.no_indices

-- the result of the call of f
abbrev pub called_f : code.Place
called_f = code.place (Local 0) 0 code.no_indices

abbrev pub lowest : ℤ
lowest = negsuc 32767

abbrev pub highest : ℤ
highest = pos 32767

abbrev item : code.Action → Option ℕ → ℕ → code.Item
item a next routine = record { action = a; next = next; line = 1; routine = routine; need = 0 }

abbrev pub items_wanted : List code.Item
items_wanted =
    item (code.assign result_f (code.arithmetic Add (code.load parameter_a) (code.load variable_n)) lowest highest) None 0 ∷
    item (code.call 0 code.own false (record { slot = 0; value = code.scalar (code.load parameter_b) lowest highest } ∷ []) (Some 0)) (Some 2) 1 ∷
    item (code.assign parameter_b (code.load called_f) lowest highest) None 1 ∷
    item (code.assign variable_n (code.number (pos 1)) lowest highest) (Some 4) 2 ∷
    item (code.call 1 code.own false (record { slot = 0; value = code.reference variable_n } ∷ []) None) None 2 ∷
    []

abbrev pub tables : List code_item.Item → Tables
tables items =
    record {
      items = items;
      routines = record { body = Some 0; image = pos 0 ∷ pos 0 ∷ []; references = 0; result = 1; room = 2; reference_room = 0; own = 1; extents = []; system = 0 } ∷
          record { body = Some 1; image = pos 0 ∷ []; references = 1; result = 0; room = 3; reference_room = 1; own = 1; extents = 1 ∷ []; system = 0 } ∷
          record { body = Some 3; image = []; references = 0; result = 0; room = 3; reference_room = 1; own = 1; extents = []; system = 0 } ∷
          [];
      systems = record { own = 1; parameters = [] } ∷ [];
      components = record { kind = kind.Process 0; base = 0; system = 0 } ∷ [];
      processes = record { component = 0; routine = 2 } ∷ [];
      monitors = 0;
      permanents = pos 0 ∷ [];
      depth = 8;
      cells = 3;
      references = 1;
      arguments = 1;
      names = [];
    }

-- ---- its layouts

abbrev of_integer : Name → Variable
of_integer x = record { name = x; ty = integer }

abbrev frame_of : ℕ → FrameLayout
frame_of zero = record { origins = λ x. if same_name x result_name then Local 1 else Local 0; variables = of_integer (codes "a") ∷ of_integer result_name ∷ []; references = [] }
frame_of (suc zero) = record { origins = λ x. if same_name x (codes "b") then Reference 0 else Local 0; variables = of_integer (temporary 35) ∷ []; references = of_integer (codes "b") ∷ [] }
frame_of (suc (suc n)) = record { origins = λ x. Local 0; variables = []; references = [] }

abbrev whole_scope : Scope
whole_scope = (system_of calling.program 0).scope

abbrev meaning_of : ℕ → RoutineMeaning
meaning_of zero = routine_in (since (codes "f") whole_scope) f
meaning_of (suc zero) = routine_in (since (codes "p") whole_scope) p
meaning_of (suc (suc n)) = initial_meaning (system_of calling.program 0)

abbrev name_of : ℕ → Option Name
name_of zero = Some (codes "f")
name_of (suc n) = None

abbrev pub layouts : Layouts
layouts =
    record {
      systems = λ k. record { slots = λ x. 0; variables = of_integer (codes "n") ∷ []; parts = []; firsts = λ x. 0; initial = 2; count = 1 };
      frames = frame_of;
      meanings = meaning_of;
      owners = λ n. 0;
      names = name_of;
    }

-- ---- names

-- what a scope says of each of its names holds of what is found
abbrev pub Says : (Name → Meaning → Type 0) → Scope → Type 0
Says P [] = Unit {0}
Says P (d ∷ ds) = P d.0 d.1 × Says P ds

pub found : (P : Name → Meaning → Type 0) (x : Name) (s : Scope) (m : Meaning) → Says P s → find x s ≡ Some m → P x m
found P x [] m h e = absurd (cc)
found P x (d ∷ ds) m h e = go (same_name x d.0) refl (λ k. found P x ds m h.1 k) e
  where
    go : (b : Bool) → same_name x d.0 ≡ b → (find x ds ≡ Some m → P x m) → (if b then Some d.1 else find x ds) ≡ Some m → P x m
    go true w ih e = subst (λ y. P y m) (sym (same_is x d.0 w)) (subst (P d.0) (let k : d.1 ≡ m = cc in k) h.0)
    go false w ih e = ih e

-- a variable that is looked up in a list is one of it
abbrev AllOf : (Name → Ty → Type 0) → List Variable → Type 0
AllOf P vs = Each (λ (v : Variable). P v.name v.ty) vs

looked : (P : Name → Ty → Type 0) (x : Name) (vs : List Variable) (t : Ty) → AllOf P vs → look x vs ≡ Some t → P x t
looked P x vs t h e = look_each (λ (v : Variable). P v.name v.ty) x t vs h e

-- ---- that they stand

module _ (items : List code_item.Item) (seen : map code.item_seen items ≡ items_wanted) where
  abbrev ground : Ground
  ground = record { tables = tables items; lines = replicate 52 1; firsts = λ n. 0 }

  five : length items ≡ 5
  five = sym (length-map items code.item_seen) ∙ ap length seen

  seen_at : (xs : List code_item.Item) (n : ℕ) → code.item_seen (get_or xs n no_item) ≡ get_or (map code.item_seen xs) n (code.item_seen no_item)
  seen_at (x ∷ xs) (suc n) = seen_at xs n
  seen_at _ _ = refl

  item_is : (n : ℕ) → code.item_seen (item_at (tables items) n) ≡ get_or items_wanted n (code.item_seen no_item)
  item_is n = seen_at items n ∙ ap (λ xs. get_or xs n (code.item_seen no_item)) seen

  -- the item of a number, by what is wanted of it
  stands_at : (n at routine : ℕ) (a : code.Action) (next : Option ℕ) → n < 5 → get_or items_wanted n (code.item_seen no_item) ≡ item a next routine → slice_index (replicate 52 1) at ≡ 1 → ItemAt ground n at next a
  stands_at n at routine a next less e l =
      record {
        place = (let c = five in omega (arith, c, less));
        action = ap (λ (x : code.Item). x.action) (item_is n ∙ e);
        follows = ap (λ (x : code.Item). x.next) (item_is n ∙ e);
        line = ap (λ (x : code.Item). x.line) (item_is n ∙ e) ∙ sym l;
      }

  -- ---- the frames

  zero_only : (k : ℕ) → k < 1 → 0 ≡ k
  zero_only k less = omega arith

  -- 0 in one of the cells
  one_cell : (cells : List ℤ) (n : ℕ) → n < length cells → slice_index_or cells (n + 0) (pos 0) ≡ pos 0 → StandsAt cells n (pos 0 ∷ [])
  one_cell cells n less e = record { inside = omega (arith, less); same = λ k w. subst (λ j. slice_index_or cells (n + j) (pos 0) ≡ slice_index_or (pos 0 ∷ []) j (pos 0)) (zero_only k w) e }

  abbrev Apart : (Name → ℕ) → (x y : Name) → (t u : Ty) → Type 0
  Apart slots x y t u = same_name x y ≡ false → (slots x + cells_of t ≤ slots y) ⊎ (slots y + cells_of u ≤ slots x)

  f_frame : FrameIs (frame_of 0) (routine_at (tables items) 0) (meaning_of 0)
  f_frame =
      record {
        local = λ x t e. looked (λ y u. (frame_of 0).origins y ≡ Local (cell_named (frame_of 0) y)) x (frame_of 0).variables t (refl, (refl, tt)) e;
        cells = λ x t e. looked (λ y u. cell_named (frame_of 0) y + cells_of u ≤ 2) x (frame_of 0).variables t (omega arith, (omega arith, tt)) e;
        typed = λ x t e d. looked (λ y u. HasType u (first_value (meaning_of 0) y)) x (frame_of 0).variables t (refl, (refl, tt)) e;
        first = λ x t e d. looked (λ y u. StandsAt (pos 0 ∷ pos 0 ∷ []) (cell_named (frame_of 0) y) (encode (first_value (meaning_of 0) y))) x (frame_of 0).variables t (one_cell (pos 0 ∷ pos 0 ∷ []) 0 (omega arith) refl, (one_cell (pos 0 ∷ pos 0 ∷ []) 1 (omega arith) refl, tt)) e;
        apart = λ x y t u d e k. looked (λ w s. (z : Name) (v : Ty) → look z (frame_of 0).variables ≡ Some v → Apart (cell_named (frame_of 0)) w z s v) x (frame_of 0).variables t (
          (λ z v i. looked (λ w s. Apart (cell_named (frame_of 0)) (codes "a") w integer s) z (frame_of 0).variables v ((λ j. absurd (cc)), ((λ j. inl (omega arith)), tt)) i),
          ((λ z v i. looked (λ w s. Apart (cell_named (frame_of 0)) result_name w integer s) z (frame_of 0).variables v ((λ j. inr (omega arith)), ((λ j. absurd (cc)), tt)) i), tt),
        ) e y u k d;
        reference = λ x t e. cc;
        numbered = λ x t e. absurd (cc);
        different = λ x y t u d e. absurd (cc);
        locals = λ x t e. found (λ y m. (t : Ty) → m ≡ local_variable t → (look y (frame_of 0).variables ≡ Some t) ⊎ (look y (frame_of 0).references ≡ Some t)) x (meaning_of 0).scope (local_variable t)
            ((λ t e. inl (ap Some (let k : integer ≡ t = cc in k))), ((λ t e. absurd (cc)), ((λ t e. absurd (cc)), ((λ t e. absurd (cc)), ((λ t e. absurd (cc)), ((λ t e. absurd (cc)), ((λ t e. absurd (cc)), ((λ t e. absurd (cc)), ((λ t e. absurd (cc)), ((λ t e. absurd (cc)), ((λ t e. absurd (cc)), ((λ t e. absurd (cc)), ((λ t e. absurd (cc)), ((λ t e. absurd (cc)), ((λ t e. absurd (cc)), ((λ t e. absurd (cc)), ((λ t e. absurd (cc)), ((λ t e. absurd (cc)), tt)))))))))))))))))) e t refl;
        parameters = (refl, tt);
        result = (refl, refl);
      }

  p_frame : FrameIs (frame_of 1) (routine_at (tables items) 1) (meaning_of 1)
  p_frame =
      record {
        local = λ x t e. looked (λ y u. (frame_of 1).origins y ≡ Local (cell_named (frame_of 1) y)) x (frame_of 1).variables t (refl, tt) e;
        cells = λ x t e. looked (λ y u. cell_named (frame_of 1) y + cells_of u ≤ 1) x (frame_of 1).variables t (omega arith, tt) e;
        typed = λ x t e d. looked (λ y u. HasType u (first_value (meaning_of 1) y)) x (frame_of 1).variables t (refl, tt) e;
        first = λ x t e d. looked (λ y u. StandsAt (pos 0 ∷ []) (cell_named (frame_of 1) y) (encode (first_value (meaning_of 1) y))) x (frame_of 1).variables t (one_cell (pos 0 ∷ []) 0 (omega arith) refl, tt) e;
        apart = λ x y t u d e k. looked (λ w s. (z : Name) (v : Ty) → look z (frame_of 1).variables ≡ Some v → Apart (cell_named (frame_of 1)) w z s v) x (frame_of 1).variables t ((λ z v i. looked (λ w s. Apart (cell_named (frame_of 1)) (temporary 35) w integer s) z (frame_of 1).variables v ((λ j. absurd (cc)), tt) i), tt) e y u k d;
        reference = λ x t e. looked (λ y u. (frame_of 1).origins y ≡ Reference (cell_named (frame_of 1) y)) x (frame_of 1).references t (refl, tt) e;
        numbered = λ x t e. looked (λ y u. (cell_named (frame_of 1) y < 1) × (slice_index_or (1 ∷ []) (cell_named (frame_of 1) y) 0 ≡ cells_of u)) x (frame_of 1).references t ((omega arith, refl), tt) e;
        different = λ x y t u d e k. looked (λ w s. (z : Name) (v : Ty) → look z (frame_of 1).references ≡ Some v → same_name w z ≡ false → cell_named (frame_of 1) w ≡ cell_named (frame_of 1) z → ⊥) x (frame_of 1).references t ((λ z v i. looked (λ w s. same_name (codes "b") w ≡ false → cell_named (frame_of 1) (codes "b") ≡ cell_named (frame_of 1) w → ⊥) z (frame_of 1).references v ((λ j _. absurd (cc)), tt) i), tt) e y u k d;
        locals = λ x t e. found (λ y m. (t : Ty) → m ≡ local_variable t → (look y (frame_of 1).variables ≡ Some t) ⊎ (look y (frame_of 1).references ≡ Some t)) x (meaning_of 1).scope (local_variable t)
            ((λ t e. inr (ap Some (let k : integer ≡ t = cc in k))), ((λ t e. absurd (cc)), ((λ t e. absurd (cc)), ((λ t e. absurd (cc)), ((λ t e. absurd (cc)), ((λ t e. absurd (cc)), ((λ t e. absurd (cc)), ((λ t e. absurd (cc)), ((λ t e. absurd (cc)), ((λ t e. absurd (cc)), ((λ t e. absurd (cc)), ((λ t e. absurd (cc)), ((λ t e. absurd (cc)), ((λ t e. absurd (cc)), ((λ t e. absurd (cc)), ((λ t e. absurd (cc)), ((λ t e. absurd (cc)), ((λ t e. absurd (cc)), ((λ t e. absurd (cc)), tt))))))))))))))))))) e t refl;
        parameters = (refl, tt);
        result = tt;
      }

  own_frame : FrameIs (frame_of 2) (routine_at (tables items) 2) (meaning_of 2)
  own_frame =
      record {
        local = λ x t e. cc;
        cells = λ x t e. absurd (cc);
        typed = λ x t e. absurd (cc);
        first = λ x t e. absurd (cc);
        apart = λ x y t u d e. absurd (cc);
        reference = λ x t e. cc;
        numbered = λ x t e. absurd (cc);
        different = λ x y t u d e. absurd (cc);
        locals = λ x t e. found (λ y m. (t : Ty) → m ≡ local_variable t → (look y (frame_of 2).variables ≡ Some t) ⊎ (look y (frame_of 2).references ≡ Some t)) x (meaning_of 2).scope (local_variable t)
            ((λ t e. absurd (cc)), ((λ t e. absurd (cc)), ((λ t e. absurd (cc)), ((λ t e. absurd (cc)), ((λ t e. absurd (cc)), ((λ t e. absurd (cc)), ((λ t e. absurd (cc)), ((λ t e. absurd (cc)), ((λ t e. absurd (cc)), ((λ t e. absurd (cc)), ((λ t e. absurd (cc)), ((λ t e. absurd (cc)), ((λ t e. absurd (cc)), ((λ t e. absurd (cc)), ((λ t e. absurd (cc)), ((λ t e. absurd (cc)), ((λ t e. absurd (cc)), ((λ t e. absurd (cc)), tt)))))))))))))))))) e t refl;
        parameters = tt;
        result = tt;
      }

  -- ---- the routines

  -- the call of f, and its result
  f_called : CallItem ground (here calling.program layouts 1) 1 35 (of_name 35 (codes "f")) (more_expressions (just_name 37 (codes "b")) no_expressions) (Some (temporary 35)) (Some 2)
  f_called =
      record {
        number = 0;
        part = code.own;
        is_entry = false;
        arguments = record { slot = 0; value = code.scalar (code.load parameter_b) lowest highest } ∷ [];
        called = record {
          routine = meaning_of 0;
          called = refl;
          same = refl;
          callee = (refl, refl, refl);
          given = (refl, record { form = record { ty = integer; form = as_ordinal (code.load parameter_b) }; formed = refl; given = refl }, tt);
        };
        item = stands_at 1 35 1 (code.call 0 code.own false (record { slot = 0; value = code.scalar (code.load parameter_b) lowest highest } ∷ []) (Some 0)) (Some 2) (omega arith) refl refl;
        taken = refl;
      }

  f_stands : RoutineIs ground calling.program layouts 0
  f_stands =
      record {
        frame = f_frame;
        body = (None, (None, (0, refl, record { place = result_f; ty = integer; value = record { ty = integer; form = as_ordinal (code.arithmetic Add (code.load parameter_a) (code.load variable_n)) }; act = code.assign result_f (code.arithmetic Add (code.load parameter_a) (code.load variable_n)) lowest highest; target = refl; formed = refl; assigned = refl; item = stands_at 0 16 0 (code.assign result_f (code.arithmetic Add (code.load parameter_a) (code.load variable_n)) lowest highest) None (omega arith) refl refl }), refl), refl);
        system = refl;
        owner = omega arith;
        own = λ x y e k. own_result_is x y (same_is x (codes "f") e) k;
        own_result = λ x e. refl;
        permanents = λ x t e d. found (λ y m. (t : Ty) → m ≡ permanent_variable t → has_components t ≡ false → look y (of_integer (codes "n") ∷ []) ≡ Some t) x (meaning_of 0).scope (permanent_variable t)
            ((λ t e d. absurd (cc)), ((λ t e d. absurd (cc)), ((λ t e d. ap Some (let k : integer ≡ t = cc in k)), ((λ t e d. absurd (cc)), ((λ t e d. absurd (cc)), ((λ t e d. absurd (cc)), ((λ t e d. absurd (cc)), ((λ t e d. absurd (cc)), ((λ t e d. absurd (cc)), ((λ t e d. absurd (cc)), ((λ t e d. absurd (cc)), ((λ t e d. absurd (cc)), ((λ t e d. absurd (cc)), ((λ t e d. absurd (cc)), ((λ t e d. absurd (cc)), ((λ t e d. absurd (cc)), ((λ t e d. absurd (cc)), ((λ t e d. absurd (cc)), tt)))))))))))))))))) e t refl d;
      }
    where
      own_result_is : (x : Name) (y : Routine) → x ≡ codes "f" → find x (meaning_of 0).scope ≡ Some (routine_meaning y) → (routine_in (since x (meaning_of 0).scope) y).result ≡ (meaning_of 0).result
      own_result_is x y e k =
          subst (λ z. find z (meaning_of 0).scope ≡ Some (routine_meaning y) → (routine_in (since z (meaning_of 0).scope) y).result ≡ (meaning_of 0).result) (sym e)
          (λ d. subst (λ w. (routine_in (since (codes "f") (meaning_of 0).scope) w).result ≡ (meaning_of 0).result) (let j : f ≡ y = cc in j) refl) k

  p_stands : RoutineIs ground calling.program layouts 1
  p_stands =
      record {
        frame = p_frame;
        body = (None, (None, (2, (1, Some 2, refl, f_called, refl), record { place = parameter_b; ty = integer; value = record { ty = integer; form = as_ordinal (code.load called_f) }; act = code.assign parameter_b (code.load called_f) lowest highest; target = refl; formed = refl; assigned = refl; item = stands_at 2 33 1 (code.assign parameter_b (code.load called_f) lowest highest) None (omega arith) refl refl }), refl), refl);
        system = refl;
        owner = omega arith;
        own = λ x y e. absurd (cc);
        own_result = λ x e. absurd (cc);
        permanents = λ x t e d. found (λ y m. (t : Ty) → m ≡ permanent_variable t → has_components t ≡ false → look y (of_integer (codes "n") ∷ []) ≡ Some t) x (meaning_of 1).scope (permanent_variable t)
            ((λ t e d. absurd (cc)), ((λ t e d. absurd (cc)), ((λ t e d. absurd (cc)), ((λ t e d. ap Some (let k : integer ≡ t = cc in k)), ((λ t e d. absurd (cc)), ((λ t e d. absurd (cc)), ((λ t e d. absurd (cc)), ((λ t e d. absurd (cc)), ((λ t e d. absurd (cc)), ((λ t e d. absurd (cc)), ((λ t e d. absurd (cc)), ((λ t e d. absurd (cc)), ((λ t e d. absurd (cc)), ((λ t e d. absurd (cc)), ((λ t e d. absurd (cc)), ((λ t e d. absurd (cc)), ((λ t e d. absurd (cc)), ((λ t e d. absurd (cc)), ((λ t e d. absurd (cc)), tt))))))))))))))))))) e t refl d;
      }

  own_stands : RoutineIs ground calling.program layouts 2
  own_stands =
      record {
        frame = own_frame;
        body = (
          None,
          (
            Some 4,
            (3, refl, record { place = variable_n; ty = integer; value = record { ty = integer; form = as_ordinal (code.number (pos 1)) }; act = code.assign variable_n (code.number (pos 1)) lowest highest; target = refl; formed = refl; assigned = refl; item = stands_at 3 42 2 (code.assign variable_n (code.number (pos 1)) lowest highest) (Some 4) (omega arith) refl refl }),
            (
              None,
              (
                4,
                Some 4,
                refl,
                refl,
                record {
                  number = 1;
                  part = code.own;
                  is_entry = false;
                  arguments = record { slot = 0; value = code.reference variable_n } ∷ [];
                  called = record {
                    routine = meaning_of 1;
                    called = refl;
                    same = refl;
                    callee = (refl, refl, refl);
                    given = (refl, record { form = record { ty = integer; form = as_ordinal (code.load variable_n) }; formed = refl; given = (refl, refl) }, tt);
                  };
                  item = stands_at 4 46 2 (code.call 1 code.own false (record { slot = 0; value = code.reference variable_n } ∷ []) None) None (omega arith) refl refl;
                  taken = tt;
                },
              ),
              refl,
            ),
          ),
          refl,
        );
        system = refl;
        owner = omega arith;
        own = λ x y e. absurd (cc);
        own_result = λ x e. absurd (cc);
        permanents = λ x t e d. found (λ y m. (t : Ty) → m ≡ permanent_variable t → has_components t ≡ false → look y (of_integer (codes "n") ∷ []) ≡ Some t) x (meaning_of 2).scope (permanent_variable t)
            ((λ t e d. absurd (cc)), ((λ t e d. absurd (cc)), ((λ t e d. ap Some (let k : integer ≡ t = cc in k)), ((λ t e d. absurd (cc)), ((λ t e d. absurd (cc)), ((λ t e d. absurd (cc)), ((λ t e d. absurd (cc)), ((λ t e d. absurd (cc)), ((λ t e d. absurd (cc)), ((λ t e d. absurd (cc)), ((λ t e d. absurd (cc)), ((λ t e d. absurd (cc)), ((λ t e d. absurd (cc)), ((λ t e d. absurd (cc)), ((λ t e d. absurd (cc)), ((λ t e d. absurd (cc)), ((λ t e d. absurd (cc)), ((λ t e d. absurd (cc)), tt)))))))))))))))))) e t refl d;
      }

  -- ---- the tables

  system_stands : SystemIs ground calling.program layouts 0
  system_stands =
      record {
        initial = omega arith;
        statement = refl;
        owner = refl;
        cells = λ x t e. looked (λ y u. 0 + cells_of u ≤ 1) x (of_integer (codes "n") ∷ []) t (omega arith, tt) e;
        apart = λ x y t u d e k. looked (λ w s. (z : Name) (v : Ty) → look z (of_integer (codes "n") ∷ []) ≡ Some v → Apart (λ i. 0) w z s v) x (of_integer (codes "n") ∷ []) t ((λ z v i. looked (λ w s. Apart (λ i. 0) (codes "n") w integer s) z (of_integer (codes "n") ∷ []) v ((λ j. absurd (cc)), tt) i), tt) e y u k d;
        typed = λ x t e. looked (λ y u. HasType u (first_permanent (system_of calling.program 0) y)) x (of_integer (codes "n") ∷ []) t (refl, tt) e;
        parameters = tt;
      }

  component_stands : ComponentIs ground calling.program layouts 0
  component_stands =
      record {
        system = refl;
        kind = refl;
        first = λ x t e. looked (λ y u. StandsAt (pos 0 ∷ []) 0 (encode (first_permanent (system_of calling.program 0) y))) x (of_integer (codes "n") ∷ []) t (one_cell (pos 0 ∷ []) 0 (omega arith) refl, tt) e;
        contained = λ x t e d. found (λ y m. (t : Ty) → m ≡ permanent_variable t → ContainedAt layouts 0 0 t (λ o. component_with (step_down (named_component_at (first_components calling.program) 0).path y o) (first_components calling.program))) x whole_scope (permanent_variable t)
            ((λ t e. absurd (cc)), ((λ t e. absurd (cc)), ((λ t e. subst (λ u. ContainedAt layouts 0 0 u (λ o. component_with (step_down (named_component_at (first_components calling.program) 0).path (codes "n") o) (first_components calling.program))) (let k : integer ≡ t = cc in k) tt), ((λ t e. absurd (cc)), ((λ t e. absurd (cc)), ((λ t e. absurd (cc)), ((λ t e. absurd (cc)), ((λ t e. absurd (cc)), ((λ t e. absurd (cc)), ((λ t e. absurd (cc)), ((λ t e. absurd (cc)), ((λ t e. absurd (cc)), ((λ t e. absurd (cc)), ((λ t e. absurd (cc)), ((λ t e. absurd (cc)), ((λ t e. absurd (cc)), ((λ t e. absurd (cc)), ((λ t e. absurd (cc)), tt)))))))))))))))))) e t refl;
      }

  process_stands : ProcessIs ground calling.program layouts 0
  process_stands = record { component = refl; routine = refl }

  routines_stand : (n : ℕ) → n < 3 → RoutineIs ground calling.program layouts n
  routines_stand zero h = f_stands
  routines_stand (suc zero) h = p_stands
  routines_stand (suc (suc zero)) h = own_stands
  routines_stand (suc (suc (suc n))) h = absurd (omega arith)

  none_up : (n : ℕ) → n ≤ 0 → 0 ≡ n
  none_up n h = omega arith

  pub calling_stands : Stands ground calling layouts
  calling_stands =
      record {
        lines = refl;
        routines = routines_stand;
        systems = λ k h. subst (SystemIs ground calling.program layouts) (none_up k h) system_stands;
        components = λ n h. subst (ComponentIs ground calling.program layouts) (zero_only n h) component_stands;
        processes = λ q h. subst (ProcessIs ground calling.program layouts) (zero_only q h) process_stands;
        names = refl;
        count = refl;
        process_count = refl;
        monitor_count = refl;
      }
