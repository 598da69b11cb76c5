-- The items of a list that are still to be done, and when the items of a resolved program stand for them.
use Rattle.std.specs.Prelude.{◌≡◌, ℕ, List, [], ◌∷◌, ◌++◌, Option, Some, None}
use Rattle.cp_tree.specs.Syntax.{Designator}
use Rattle.cp_meaning.specs.Names.{temporary}
use Rattle.cp_meaning.specs.Scopes.{Scope}
use Rattle.cp_meaning.specs.State.{Item, statement_item, function_call, start_item, until, successor, return, init_end, end}
use Rattle.cp_meaning.specs.Expressions.{result_called, routine_called}
use Rattle.cp_meaning.specs.Lifting.{expression_calls, expressions_calls, designator_calls}
use Rattle.cp_resolved.specs.Layouts.{Here, frame_here, look}
use Rattle.cp_resolved.specs.Stands.{Ground, calls_in, CallItem, StartItem, UntilItem, Own, OwnAll}

-- ---- the results of calls that are done

-- the result of a call has a cell of its type in the frame
abbrev pub IsKept : Here → ℕ → Designator → Type 0
IsKept h at d = look (temporary at) (frame_here h).variables ≡ Some (result_called (routine_called h.program h.scope d))

abbrev pub AreKept : Here → List Item → Type 0
AreKept h [] = Unit {0}
AreKept h (function_call at d es ∷ items) = IsKept h at d × AreKept h items
AreKept h (i ∷ items) = ⊥

-- the calls before an item
abbrev pub calls_before : Scope → Item → List Item
calls_before s (statement_item t) = calls_in s t
calls_before s (function_call at d es) = designator_calls s d ++ expressions_calls s es
calls_before s (start_item t) = designator_calls s t.target ++ expressions_calls s t.arguments
calls_before s (until ss e) = expression_calls s e
calls_before s (successor at i z d b t) = []
calls_before s (return o) = []
calls_before s (init_end m) = []
calls_before s end = []

-- ---- items

abbrev pub ItemIs : Ground → Here → ℕ → Item → Option ℕ → Type 0
ItemIs g h n (statement_item t) next = Own g h t n next
ItemIs g h n (function_call at d es) next = CallItem g h n at d es (Some (temporary at)) next
ItemIs g h n (start_item t) next = StartItem g h n t next
ItemIs g h n (until ss e) next = UntilItem g h (λ list. OwnAll g h ss list None) n e next
ItemIs g h n (successor at i z d b s) next = ⊥
ItemIs g h n (return o) next = ⊥
ItemIs g h n (init_end m) next = ⊥
ItemIs g h n end next = ⊥

-- the items, from the first one to what comes after them
abbrev pub ItemsAre : Ground → Here → Option ℕ → List Item → Option ℕ → Type 0
ItemsAre g h first [] last = first ≡ last
ItemsAre g h first (i ∷ items) last =
    (n : ℕ) × (mid : Option ℕ) × (first ≡ Some n) × ItemIs g h n i mid × AreKept h (calls_before h.scope i) × ItemsAre g h mid items last
