-- A node like one that was walked has its rows, with another beginning of the words and of what was displayed.
use Rattle.std.proofs.Common.{◌≡◌, ◌∙◌, ◌⊎◌, inl, inr, Result, Ok, Err, IfOk, ◌+◌, ◌-◌, ◌<◌, ◌≤◌, ℕ, zero, suc, Bool, true, false, cond, if◌then◌else◌, Some, unwrap_or, take_all, List, [], ◌∷◌, ◌++◌, get_or, length, map, take, drop, All, refl, sym, ap, subst, arith}
use Rattle.std.specs.Prelude.{nat_eq, slice_index_or}
use Rattle.cp_walk.proofs.Words.{list_any, lookup, pointwise, Tables, Shown, Choosing, slots, System, Line, each, beginnings, beginnings_of, with_new}
use Rattle.cp_walk.proofs.Words.{words_in, line_of, Row}
use Rattle.std.specs.Cmp.Lexicographic.{bytes_decides}
use Rattle.std.proofs.lemmas.List.{append-nil, append_assoc, drop-append-le, get_or-map, get_or_append_left, length-append, length-drop, length-map, length-take, map-append, take-append-le, take_more}
use Rattle.std.proofs.Math.Seq.{drop-append_seam}
use Rattle.indexmap.specs.IndexMap.{insert_entry}
use Rattle.cp_machine.specs.Alike.{AreAlike}
use Rattle.cp_machine.specs.declared.discipline.Discipline.{Discipline}
use Rattle.cp_machine.specs.System.{Machine}
use Rattle.cp_machine.proofs.Alike.{step_alike, step_event_alike, admitted_alike, ready_alike, pending_alike, in_line_alike, waits_alike}
use Rattle.cp_key.specs.Key.{core_key}
use Rattle.cp_key.proofs.Keys.{core_counts, core_tells}
use Rattle.cp_run.proofs.Alike.{Simulates}
use Rattle.cp_walk.specs.Walk.{behind, shown_by, walk}
use Rattle.cp_walk.specs.Walked.{within_span, begun, AreWalked, IsWalked}
use Rattle.cp_walk.specs.declared.memo.NodeKey.{NodeKey}
use Rattle.cp_walk.specs.declared.memo.Span.{Span}
use Rattle.cp_walk.proofs.Alike.{walk_alike}

-- ---- states with one core

module _ (r : Tables) (discipline : Discipline) where
  abbrev sys : System Machine
  sys = slots r discipline

  -- the slot machine does the same, whatever was displayed before
  simulates : (before other : List Shown) → length before ≡ length other → Simulates sys (AreAlike before other)
  simulates before other long =
      record {
        step = λ s t p h. step_alike r before other s t p long h;
        event = λ s t p h. step_event_alike r before other s t p long h;
        admit = λ s t p h. admitted_alike before other s t p h;
        is_ready = λ s t p h. ready_alike before other s t p h;
        is_pending = λ s t h. pending_alike before other s t h;
        in_line = λ s t p h. in_line_alike before other s t p h;
        waits = λ s t h. waits_alike before other s t h;
      }

  -- what is displayed after another beginning
  abbrev after : List Shown → List Shown → List Shown
  after other shown = other ++ drop (length other) shown

  shown_after : (before other : List Shown) → length before ≡ length other → (s t : Machine) → AreAlike before other s t → t.output ≡ after other s.output
  shown_after before other long s t h =
      let seam : drop (length other) s.output ≡ h.since = ap (λ n. drop n s.output) (sym long) ∙ ap (drop (length before)) h.mine ∙ drop-append_seam before h.since in
      h.theirs ∙ ap (λ ys. other ++ ys) (sym seam)

  pub walk_again : (steps left : ℕ) (m n : Machine) → core_key m ≡ core_key n → walk sys steps left (Choosing n) ≡ map (shown_by (after n.output)) (walk sys steps left (Choosing m))
  walk_again steps left m n e =
      let long = core_counts m n e in
      let alike : AreAlike m.output n.output m n = record { same = core_tells m n e; since = []; mine = sym (append-nil m.output); theirs = sym (append-nil n.output) } in
      walk_alike sys (AreAlike m.output n.output) (simulates m.output n.output long) (after n.output) (shown_after m.output n.output long) steps left (Choosing m) (Choosing n) alike

-- ---- rows with another beginning

begun_behind : (word before : List ℕ) (output : List Shown) (l : Line) → length word ≡ length before → begun word output (behind before l) ≡ behind word (shown_by (λ o. output ++ drop (length output) o) l)
begun_behind word before output l same =
    let seam : drop (length word) (before ++ l.word) ≡ l.word = ap (λ n. drop n (before ++ l.word)) same ∙ drop-append_seam before l.word in
    ap (λ w. record { word = word ++ w; outcome = record { kind = l.outcome.kind; output = output ++ drop (length output) l.outcome.output } }) seam

all_begun : (word before : List ℕ) (output : List Shown) (ls : List Line) → length word ≡ length before → map (begun word output) (map (behind before) ls) ≡ map (behind word) (map (shown_by (λ o. output ++ drop (length output) o)) ls)
all_begun word before output [] same = refl
all_begun word before output (l ∷ ls) same = ap (λ x. x ∷ map (begun word output) (map (behind before) ls)) (begun_behind word before output l same) ∙ ap (λ xs. behind word (shown_by (λ o. output ++ drop (length output) o) l) ∷ xs) (all_begun word before output ls same)

head_of : (a b : ℕ) (x y : List ℕ) → a ∷ x ≡ b ∷ y → a ≡ b
head_of a b x y e = ap first e
  where
    first : List ℕ → ℕ
    first [] = a
    first (n ∷ ns) = n

tail_of : (a b : ℕ) (x y : List ℕ) → a ∷ x ≡ b ∷ y → x ≡ y
tail_of a b x y e = ap (drop 1) e

module _ (r : Tables) (discipline : Discipline) (steps choices : ℕ) (rows : List Line) (e : NodeKey × Span) (n : Machine) (left : ℕ) where
  abbrev system : System Machine
  system = slots r discipline

  -- the rows of a node that was walked are those of this one, with another beginning
  pub again_rows : IsWalked system steps choices rows e → e.0.bytes.items ≡ left ∷ core_key n → (word : List ℕ) → length word + left ≡ choices → map (begun word n.output) (within_span e.1 rows) ≡ map (behind word) (walk system steps left (Choosing n))
  again_rows h key word deep =
      let keys : h.left ∷ core_key h.state ≡ left ∷ core_key n = sym h.key ∙ key in
      let lefts : h.left ≡ left = head_of h.left left (core_key h.state) (core_key n) keys in
      let cores : core_key h.state ≡ core_key n = tail_of h.left left (core_key h.state) (core_key n) keys in
      let whole = h.word in
      let long : length word ≡ length h.before = omega (arith, deep, lefts, whole) in
      ap (map (begun word n.output)) h.same
      ∙ all_begun word h.before n.output (walk system steps h.left (Choosing h.state)) long
      ∙ ap (λ k. map (behind word) (map (shown_by (λ o. n.output ++ drop (length n.output) o)) (walk system steps k (Choosing h.state)))) lefts
      ∙ ap (map (behind word)) (sym (walk_again r discipline steps left h.state n cores))

  -- and they are as many
  pub again_count : IsWalked system steps choices rows e → e.0.bytes.items ≡ left ∷ core_key n → (word : List ℕ) → length word + left ≡ choices → e.1.end - e.1.first ≡ length (walk system steps left (Choosing n))
  again_count h key word deep =
      let all = h.within in
      let some = h.some in
      let part = length-take (e.1.end - e.1.first) (drop e.1.first rows) in
      let rest = length-drop e.1.first rows in
      let begun_all = length-map (within_span e.1 rows) (begun word n.output) in
      let same = ap length (again_rows h key word deep) in
      let behind_all = length-map (walk system steps left (Choosing n)) (behind word) in
      omega (arith, all, some, part, rest, begun_all, same, behind_all)

-- ---- the nodes that were walked

module _ (sys : System Machine) (steps choices : ℕ) where
  -- more rows change nothing
  walked_then : (rows more : List Line) (e : NodeKey × Span) → IsWalked sys steps choices rows e → IsWalked sys steps choices (rows ++ more) e
  walked_then rows more e h =
      let all = h.within in
      let some = h.some in
      let long = length-append rows more in
      let rest = length-drop e.1.first rows in
      let from : drop e.1.first (rows ++ more) ≡ drop e.1.first rows ++ more = drop-append-le e.1.first rows more (omega (arith, all, some)) in
      let part : within_span e.1 (rows ++ more) ≡ within_span e.1 rows = ap (take (e.1.end - e.1.first)) from ∙ take-append-le (e.1.end - e.1.first) (drop e.1.first rows) more (omega (arith, all, some, rest)) in
      record {
        state = h.state;
        left = h.left;
        before = h.before;
        key = h.key;
        word = h.word;
        some = h.some;
        within = omega (arith, all, long);
        same = part ∙ h.same;
      }

  pub walked_more : (rows more : List Line) (es : List (NodeKey × Span)) → AreWalked sys steps choices rows es → AreWalked sys steps choices (rows ++ more) es
  walked_more rows more es h = λ k d lt. walked_then rows more (slice_index_or es k d) (h k d lt)

  pub walked_if : {A E : Type 0} (rows more new : List Line) (es : List (NodeKey × Span)) (r : Result A E) → IfOk r (λ _. new ≡ rows ++ more) → AreWalked sys steps choices rows es → IfOk r (λ _. AreWalked sys steps choices new es)
  walked_if rows more new es (Ok x) is h = subst (λ ls. AreWalked sys steps choices ls es) (sym is) (walked_more rows more es h)
  walked_if rows more new es (Err e) is h = tt

  rekeyed : (rows : List Line) (k j : NodeKey) (span : Span) → k.bytes.items ≡ j.bytes.items → IsWalked sys steps choices rows (k, span) → IsWalked sys steps choices rows (j, span)
  rekeyed rows k j span same h = record { state = h.state; left = h.left; before = h.before; key = sym same ∙ h.key; word = h.word; some = h.some; within = h.within; same = h.same }

  all_cons : {A : Type 0} (P : A → Type 0) (x : A) (xs : List A) → P x → All P xs → All P (x ∷ xs)
  all_cons P x xs p h zero d lt = p
  all_cons P x xs p h (suc k) d lt = h k d (omega (arith, lt))

  all_rest : {A : Type 0} (P : A → Type 0) (x : A) (xs : List A) → All P (x ∷ xs) → All P xs
  all_rest P x xs h k d lt = h (suc k) d (omega (arith, lt))

  -- one node more
  pub walked_added : (rows : List Line) (es : List (NodeKey × Span)) (k : NodeKey) (span : Span) → AreWalked sys steps choices rows es → IsWalked sys steps choices rows (k, span) → AreWalked sys steps choices rows (insert_entry (λ i j. pointwise nat_eq i.bytes.items j.bytes.items) es k span)
  walked_added rows [] k span h x = all_cons (IsWalked sys steps choices rows) (k, span) [] x h
  walked_added rows (e ∷ es) k span h x = by (pointwise nat_eq k.bytes.items e.0.bytes.items) refl (walked_added rows es k span (all_rest (IsWalked sys steps choices rows) e es h) x)
    where
      rest : AreWalked sys steps choices rows es
      rest = all_rest (IsWalked sys steps choices rows) e es h

      by : (b : Bool) → pointwise nat_eq k.bytes.items e.0.bytes.items ≡ b → AreWalked sys steps choices rows (insert_entry (λ i j. pointwise nat_eq i.bytes.items j.bytes.items) es k span) → AreWalked sys steps choices rows (if b then (e.0, span) ∷ es else e ∷ insert_entry (λ i j. pointwise nat_eq i.bytes.items j.bytes.items) es k span)
      by true q on = all_cons (IsWalked sys steps choices rows) (e.0, span) es (rekeyed rows k e.0 span ((bytes_decides k.bytes.items e.0.bytes.items).0 q) x) rest
      by false q on = all_cons (IsWalked sys steps choices rows) e (insert_entry (λ i j. pointwise nat_eq i.bytes.items j.bytes.items) es k span) (h 0 e (omega arith)) on

  -- or not
  pub added_or_not : (rows : List Line) (es new : List (NodeKey × Span)) (k : NodeKey) (span : Span) → (new ≡ es) ⊎ (new ≡ insert_entry (λ i j. pointwise nat_eq i.bytes.items j.bytes.items) es k span) → AreWalked sys steps choices rows es → IsWalked sys steps choices rows (k, span) → AreWalked sys steps choices rows new
  added_or_not rows es new k span (inl e) h x = subst (AreWalked sys steps choices rows) (sym e) h
  added_or_not rows es new k span (inr e) h x = subst (AreWalked sys steps choices rows) (sym e) (walked_added rows es k span h x)

  -- what is found
  pub record Found (rows : List Line) (key : List ℕ) (span : Span) : Type 0 where
    pub node_key : NodeKey
    pub same : node_key.bytes.items ≡ key
    pub is : IsWalked sys steps choices rows (node_key, span)

  pub walked_found : (rows : List Line) (es : List (NodeKey × Span)) (key : List ℕ) (span : Span) → AreWalked sys steps choices rows es → lookup (λ k. pointwise nat_eq key k.bytes.items) es ≡ Some span → Found rows key span
  walked_found rows [] key span h e = absurd (cc)
  walked_found rows (x ∷ xs) key span h e = by (pointwise nat_eq key x.0.bytes.items) refl e (λ i. walked_found rows xs key span (all_rest (IsWalked sys steps choices rows) x xs h) i)
    where
      by : (b : Bool) → pointwise nat_eq key x.0.bytes.items ≡ b → cond b (Some x.1) (lookup (λ k. pointwise nat_eq key k.bytes.items) xs) ≡ Some span → (lookup (λ k. pointwise nat_eq key k.bytes.items) xs ≡ Some span → Found rows key span) → Found rows key span
      by true q i on =
          let same : x.1 ≡ span = ap (λ o. unwrap_or o x.1) i in
          record { node_key = x.0; same = sym ((bytes_decides key x.0.bytes.items).0 q); is = subst (λ s. IsWalked sys steps choices rows (x.0, s)) same (h 0 x (omega arith)) }
      by false q i on = on i

-- ---- new rows

-- the rows that were added
pub new_span : (old more rows : List Line) (span : Span) → rows ≡ old ++ more → span.first ≡ length old → span.end ≡ length rows → within_span span rows ≡ more
new_span old more rows span same first end =
    let long = length-append old more in
    let all = ap length same in
    let count : length more ≤ span.end - span.first = omega (arith, first, end, long, all) in
    ap (λ n. take (span.end - span.first) (drop n rows)) first ∙ ap (λ ls. take (span.end - span.first) (drop (length old) ls)) same ∙ ap (take (span.end - span.first)) (drop-append_seam old more) ∙ take_all (span.end - span.first) more count

grown : (found ws : List (List ℕ)) → length found ≤ length (with_new found ws)
grown found [] = omega arith
grown found (w ∷ ws) = by (list_any (pointwise nat_eq w) found) (grown found ws) (grown (w ∷ found) ws)
  where
    by : (b : Bool) → length found ≤ length (with_new found ws) → length (w ∷ found) ≤ length (with_new (w ∷ found) ws) → length found ≤ length (with_new (if b then found else w ∷ found) ws)
    by true same more = same
    by false same more = omega (arith, more)

-- where there is a word, some word begins it
pub some_beginnings : (ls : List Line) → 0 < length ls → 1 ≤ beginnings (words_in ls)
some_beginnings [] some = absurd (omega (arith, some))
some_beginnings (l ∷ ls) some = by l.word
  where
    by : (w : List ℕ) → 1 ≤ beginnings (w ∷ words_in ls)
    by [] = grown ([] ∷ []) (each beginnings_of (words_in ls))
    by (p ∷ w) = grown ([] ∷ []) (map (λ v. p ∷ v) (beginnings_of w) ++ each beginnings_of (words_in ls))

-- ---- a node that is found

module _ (r : Tables) (discipline : Discipline) (steps choices : ℕ) (rows : List Line) (nodes : List (NodeKey × Span)) (n : Machine) (left : ℕ) (word : List ℕ) (span : Span) where
  -- its rows are those of a node like it, which begin otherwise
  pub record Known : Type 0 where
    pub some : span.first < span.end
    pub within : span.end ≤ length rows
    pub same : map (begun word n.output) (within_span span rows) ≡ map (behind word) (walk (slots r discipline) steps left (Choosing n))
    pub count : span.end - span.first ≡ length (walk (slots r discipline) steps left (Choosing n))

  pub known_node : (key : List ℕ) → key ≡ left ∷ core_key n → AreWalked (slots r discipline) steps choices rows nodes → lookup (λ k. pointwise nat_eq key k.bytes.items) nodes ≡ Some span → length word + left ≡ choices → Known
  known_node key keyed walked found deep =
      let f = walked_found (slots r discipline) steps choices rows nodes key span walked found in
      record {
        some = f.is.some;
        within = f.is.within;
        same = again_rows r discipline steps choices rows (f.node_key, span) n left f.is (f.same ∙ keyed) word deep;
        count = again_count r discipline steps choices rows (f.node_key, span) n left f.is (f.same ∙ keyed) word deep;
      }

-- ---- one row more is taken again

get_or_drop : {A : Type 0} (f k : ℕ) (xs : List A) (d : A) → get_or (drop f xs) k d ≡ get_or xs (f + k) d
get_or_drop zero k xs d = ap (λ n. get_or xs n d) (let e : k ≡ 0 + k = omega arith in e)
get_or_drop (suc f) k [] d = refl
get_or_drop (suc f) k (x ∷ xs) d = get_or_drop f k xs d ∙ ap (λ n. get_or (x ∷ xs) n d) (let e : suc (f + k) ≡ suc f + k = omega arith in e)

pub one_again : (rows new : List Row) (ls : List Line) (b : Line → Line) (f at : ℕ) (row x : Row) → map line_of rows ≡ ls ++ map b (take (at - f) (drop f ls)) → f ≤ at → at < length ls → new ≡ rows ++ row ∷ [] → x ≡ get_or rows at x → line_of row ≡ b (line_of x) → map line_of new ≡ ls ++ map b (take (at + 1 - f) (drop f ls))
one_again rows new ls b f at row x have from lt push read is =
    let k = at - f in
    let rest = drop f ls in
    let long = length-drop f ls in
    let in_rest : k < length rest = omega (arith, from, lt, long) in
    let all = ap length have ∙ length-append ls (map b (take k rest)) in
    let count = length-map rows line_of in
    let in_rows : at < length rows = omega (arith, lt, all, count) in
    let place : f + k ≡ at = omega (arith, from) in
    let line : line_of x ≡ get_or rest k (line_of x) = ap line_of read ∙ sym (get_or-map line_of rows at x (line_of x) in_rows) ∙ ap (λ l. get_or l at (line_of x)) have ∙ get_or_append_left ls (map b (take k rest)) (line_of x) at lt ∙ sym (get_or_drop f k ls (line_of x) ∙ ap (λ n. get_or ls n (line_of x)) place) in
    let next : at + 1 - f ≡ k + 1 = omega (arith, from) in
    ap (map line_of) push
    ∙ map-append line_of rows (row ∷ [])
    ∙ ap (λ l. l ++ line_of row ∷ []) have
    ∙ ap (λ l. (ls ++ map b (take k rest)) ++ l ∷ []) (is ∙ ap b line)
    ∙ append_assoc ls (map b (take k rest)) (b (get_or rest k (line_of x)) ∷ [])
    ∙ ap (λ l. ls ++ l) (sym (map-append b (take k rest) (get_or rest k (line_of x) ∷ [])))
    ∙ ap (λ l. ls ++ map b l) (sym (take_more rest k (line_of x) in_rest))
    ∙ ap (λ n. ls ++ map b (take n rest)) (sym next)
