-- Cells stay there: a write leaves as many, and a call names a place that has its cells for each `var` parameter.
use Rattle.std.proofs.Common.{◌≡◌, ◌∙◌, ℕ, ◌+◌, ◌^◌, ◌<◌, ◌≤◌, Bool, true, false, List, [], ◌∷◌, ◌++◌, length, replicate, Option, Some, None, Result, Ok, Err, ap, refl, sym, subst, arith, if◌then◌else◌, get_or-set_other}
use Rattle.std.specs.Prelude.{ℤ, ◌&&◌, nat_lt, ◌==◌, slice_index_or, slice_set}
use Rattle.std.proofs.lemmas.Bool.{leb-true, ltb-true, ltb-false, eqb-true}
use Rattle.std.proofs.lemmas.Grind.{get_or-set_at}
use Rattle.std.proofs.lemmas.List.{append-nil, append_assoc, length-set, length-append, length-replicate}
use Rattle.cp_slots.specs.declared.place.Argument.{Argument}
use Rattle.cp_slots.specs.declared.place.ArgumentValue.{ArgumentValue}
use Rattle.cp_slots.specs.declared.place.ArgumentValue.TheVariants as value
use Rattle.cp_slots.specs.declared.place.Place.{Place}
use Rattle.cp_slots.specs.Inside.{has, place_room, follows, binds_on, binds_from, argument_inside, arguments_inside}
use Rattle.cp_slots.specs.Tables.{RoutineView}
use Rattle.cp_store.specs.declared.argument.Bound.{Bound}
use Rattle.cp_store.specs.declared.argument.Bound.TheVariants.{Scalar, Set, Copy, Reference, Component}
use Rattle.cp_store.specs.declared.error.ErrorName.{ErrorName}
use Rattle.cp_store.specs.declared.memory.Address.{Address}
use Rattle.cp_store.specs.declared.memory.Address.TheVariants.{Local}
use Rattle.cp_store.specs.declared.memory.Frame.{Frame}
use Rattle.cp_store.specs.declared.set.SetValue.{SetValue}
use Rattle.cp_store.specs.Arguments.{evaluate_argument, bounds_after, bounds_at, put_value, put_in_frame, bind_frame}
use Rattle.cp_store.specs.Components.{component_at}
use Rattle.cp_store.specs.Inside.{HasCells, Covers, CallsCoverTheirFrames, WritesKeepCells}
use Rattle.cp_store.specs.Memory.{Memory, nowhere, onward, open_frame, put_reference}
use Rattle.cp_store.specs.Places.{address_at, reference_at, set_at, value_at}
use Rattle.cp_store.specs.Sets as sets
use Rattle.cp_store.specs.Sets.{put_word, put_pair, put_quad, put_set}
use Rattle.cp_store.specs.Values.{check_range, then_with}
use Rattle.cp_store.proofs.Alike.{Alike, alike_same, alike_value, has_more}
use Rattle.cp_store.proofs.Reaches.{some_is, and_left, and_right, has_fewer, have_cells}

-- ---- only an argument for a `var` parameter gives a place

abbrev names_place : Bound → Bool
names_place (Scalar z) = false
names_place (Set s) = false
names_place (Copy from n) = false
names_place (Reference place) = true
names_place (Component number) = false

abbrev names_in : Result Bound ErrorName → Bool
names_in (Ok b) = names_place b
names_in (Err e) = false

alike_plain : (x : Memory) (g : Frame) (slot : ℕ) (b : Bound) → names_place b ≡ false → Alike (put_in_frame x g slot b) x
alike_plain x g slot (Scalar z) plain = alike_value x (Local (onward g.base slot)) (Scalar z)
alike_plain x g slot (Set s) plain = alike_value x (Local (onward g.base slot)) (Set s)
alike_plain x g slot (Copy from n) plain = alike_value x (Local (onward g.base slot)) (Copy from n)
alike_plain x g slot (Reference place) plain = absurd (cc)
alike_plain x g slot (Component number) plain = alike_same x

from_ok : {A : Type 0} (b : Bound) (r : Result A ErrorName) (go : A → Result Bound ErrorName) → ((x : A) → go x ≡ Ok b → names_place b ≡ false) → then_with r go ≡ Ok b → names_place b ≡ false
from_ok b (Ok x) go each is = each x is
from_ok b (Err e) go each is = absurd (cc)

scalar_plain : (b : Bound) (v : Result ℤ ErrorName) (low high : ℤ) → then_with v (λ z. then_with (check_range low high z) (λ n. Ok (Scalar n))) ≡ Ok b → names_place b ≡ false
scalar_plain b v low high is =
    from_ok b v (λ z. then_with (check_range low high z) (λ n. Ok (Scalar n))) (λ z. from_ok b (check_range low high z) (λ n. Ok (Scalar n)) (λ n same. sym (ap names_in same))) is

set_plain : (b : Bound) (v : Result SetValue ErrorName) (low high : ℕ) → then_with v (λ s. then_with (sets.check_members low high s) (λ n. Ok (Set n))) ≡ Ok b → names_place b ≡ false
set_plain b v low high is =
    from_ok b v (λ s. then_with (sets.check_members low high s) (λ n. Ok (Set n))) (λ s. from_ok b (sets.check_members low high s) (λ n. Ok (Set n)) (λ n same. sym (ap names_in same))) is

-- ---- what arguments give, in the order of the list

abbrev pub given_by : Memory → (bindings : List ℕ) → Frame → List Argument → Result (List Bound) ErrorName
given_by m bindings f [] = Ok []
given_by m bindings f (x ∷ xs) = then_with (evaluate_argument m bindings f x.value) (λ b. then_with (given_by m bindings f xs) (λ bs. Ok (b ∷ bs)))

abbrev pub fine : List Bound → Result (List Bound) ErrorName
fine bs = Ok bs

behind_others : (bs : List Bound) (b : Bound) (r : Result (List Bound) ErrorName) → then_with r (λ rest. fine ((bs ++ b ∷ []) ++ rest)) ≡ then_with (then_with r (λ rest. fine (b ∷ rest))) (λ rest. fine (bs ++ rest))
behind_others bs b (Ok rest) = ap fine (append_assoc bs (b ∷ []) rest)
behind_others bs b (Err e) = refl

given_behind : (m : Memory) (bindings : List ℕ) (f : Frame) (xs : List Argument) (bs : List Bound) → bounds_after m bindings f bs xs ≡ then_with (given_by m bindings f xs) (λ rest. fine (bs ++ rest))
given_behind m bindings f [] bs = ap fine (sym (append-nil bs))
given_behind m bindings f (x ∷ xs) bs = go (evaluate_argument m bindings f x.value) (λ b. given_behind m bindings f xs (bs ++ b ∷ []))
  where
    go : (r : Result Bound ErrorName) → ((b : Bound) → bounds_after m bindings f (bs ++ b ∷ []) xs ≡ then_with (given_by m bindings f xs) (λ rest. fine ((bs ++ b ∷ []) ++ rest)))
        → then_with r (λ b. bounds_after m bindings f (bs ++ b ∷ []) xs) ≡ then_with (then_with r (λ b. then_with (given_by m bindings f xs) (λ rest. fine (b ∷ rest)))) (λ rest. fine (bs ++ rest))
    go (Ok b) each = each b ∙ behind_others bs b (given_by m bindings f xs)
    go (Err e) each = refl

pub given_all : (m : Memory) (bindings : List ℕ) (f : Frame) (xs : List Argument) (bs : List Bound) → bounds_at m bindings f xs ≡ fine bs → given_by m bindings f xs ≡ fine bs
given_all m bindings f xs bs is = go (given_by m bindings f xs) refl (sym (given_behind m bindings f xs []) ∙ is)
  where
    go : (r : Result (List Bound) ErrorName) → given_by m bindings f xs ≡ r → then_with r (λ rest. fine ([] ++ rest)) ≡ fine bs → given_by m bindings f xs ≡ fine bs
    go (Ok rest) same is = same ∙ is
    go (Err e) same is = absurd (cc)

pub bound_is : {x y : Bound} → ◌≡◌ {A = Result Bound ErrorName} (Ok x) (Ok y) → x ≡ y
bound_is {x = x} {y = y} same = ap (bound_or x) same
  where
    bound_or : Bound → Result Bound ErrorName → Bound
    bound_or d (Err e) = d
    bound_or d (Ok z) = z

pub bounds_are : {x y : List Bound} → fine x ≡ fine y → x ≡ y
bounds_are {x = x} {y = y} same = ap (bounds_or x) same
  where
    bounds_or : List Bound → Result (List Bound) ErrorName → List Bound
    bounds_or d (Err e) = d
    bounds_or d (Ok z) = z

-- ---- the memory while parameters are bound: those below a number name places that have their cells in the caller's memory

record Binds (m : Memory) (callee : RoutineView) (g : Frame) (next : ℕ) (x : Memory) : Type 0 where
  pub permanents : length x.permanents ≡ length m.permanents
  pub cells : length x.cells ≡ length m.cells + length callee.image
  pub references : length x.references ≡ g.references + length callee.extents
  pub behind : (k : ℕ) → k < next → HasCells m (reference_at x.references (g.references + k)) (slice_index_or callee.extents k 0)

binds_alike : (m : Memory) (callee : RoutineView) (g : Frame) (next : ℕ) (x y : Memory) → Alike y x → Binds m callee g next x → Binds m callee g next y
binds_alike m callee g next x y like b =
    record {
      permanents = like.permanents ∙ b.permanents;
      cells = like.cells ∙ b.cells;
      references = ap (λ l. length l) like.references ∙ b.references;
      behind = λ k lt. subst (λ l. HasCells m (reference_at l (g.references + k)) (slice_index_or callee.extents k 0)) (sym like.references) (b.behind k lt);
    }

module _ (m : Memory) (callee : RoutineView) (g : Frame) (few : g.references + length callee.extents < 2 ^ 64) (next : ℕ) (x : Memory) (place : Address) (there : next < length callee.extents) (has_place : HasCells m place (slice_index_or callee.extents next 0)) (b : Binds m callee g next x) where
  exact : onward g.references next ≡ g.references + next
  exact = omega (arith, there, few)

  place_behind : (k : ℕ) (w : Bool) → nat_lt k next ≡ w → k < next + 1 → HasCells m (reference_at (slice_set x.references (onward g.references next) place) (g.references + k)) (slice_index_or callee.extents k 0)
  place_behind k true lt below =
      let before = ltb-true k next lt in
      let kept = get_or-set_other x.references (onward g.references next) (g.references + k) place nowhere (λ same. omega (arith, exact, same, before)) in
      subst (λ a. HasCells m a (slice_index_or callee.extents k 0)) (sym kept) (b.behind k before)
  place_behind k false ge below =
      let k_is : k ≡ next = omega (arith, below, ltb-false k next ge) in
      let set_there = get_or-set_at x.references (onward g.references next) (g.references + next) place nowhere (sym exact) (omega (arith, exact, b.references, there)) in
      subst (λ j. HasCells m (reference_at (slice_set x.references (onward g.references next) place) (g.references + j)) (slice_index_or callee.extents j 0)) (sym k_is)
      (subst (λ a. HasCells m a (slice_index_or callee.extents next 0)) (sym set_there) has_place)

  binds_place : Binds m callee g (next + 1) (put_reference x (onward g.references next) place)
  binds_place =
      record {
        permanents = b.permanents;
        cells = b.cells;
        references = length-set x.references (onward g.references next) place ∙ b.references;
        behind = λ k lt. place_behind k (nat_lt k next) refl lt;
      }

-- ---- argument by argument

module _ (m : Memory) (bindings : List ℕ) (caller callee : RoutineView) (f g : Frame) (covers : Covers m caller f) (few : g.references + length callee.extents < 2 ^ 64) where
  stays : (slot : ℕ) (b : Bound) (x : Memory) (next further : ℕ) → Binds m callee g next x → Some next ≡ Some further → names_place b ≡ false → Binds m callee g further (put_in_frame x g slot b)
  stays slot b x next further binds next_is plain =
      subst (λ n. Binds m callee g n (put_in_frame x g slot b)) (some_is next_is) (binds_alike m callee g next x (put_in_frame x g slot b) (alike_plain x g slot b plain) binds)

  named : (place : Place) (slot : ℕ) (b : Bound) (x : Memory) (next further : ℕ) → Binds m callee g next x
      → (r : Result Address ErrorName) → address_at m f place ≡ r → (o : Option ℕ) → place_room caller place ≡ o → (w : Bool) → (nat_lt next (length callee.extents) && slot == next) ≡ w
      → has (slice_index_or callee.extents slot 0) o ≡ true → (if w then Some (next + 1) else None) ≡ Some further → then_with r (λ at. Ok (Reference at)) ≡ Ok b
      → Binds m callee g further (put_in_frame x g slot b)
  named place slot b x next further binds (Ok at) found (Some left) room true test enough next_is given =
      let there = ltb-true next (length callee.extents) (and_left (nat_lt next (length callee.extents)) (slot == next) test) in
      let slot_is = eqb-true slot next (and_right (nat_lt next (length callee.extents)) (slot == next) test) in
      let all_cells = have_cells m caller f place left at covers room found in
      let cells = has_fewer m at left (slice_index_or callee.extents slot 0) (leb-true (slice_index_or callee.extents slot 0) left enough) all_cells in
      let bound = binds_place m callee g few next x at there (subst (λ s. HasCells m at (slice_index_or callee.extents s 0)) slot_is cells) binds in
      let in_slot = subst (λ s. Binds m callee g (next + 1) (put_reference x (onward g.references s) at)) (sym slot_is) bound in
      subst (λ c. Binds m callee g further (put_in_frame x g slot c)) (bound_is given)
      (subst (λ n. Binds m callee g n (put_in_frame x g slot (Reference at))) (some_is next_is) in_slot)
  named place slot b x next further binds (Ok at) found (Some left) room false test enough next_is given = absurd (cc)
  named place slot b x next further binds (Ok at) found None room w test enough next_is given = absurd (cc)
  named place slot b x next further binds (Err e) found o room w test enough next_is given = absurd (cc)

  one : (v : ArgumentValue) (slot : ℕ) (b : Bound) (x : Memory) (next further : ℕ) → Binds m callee g next x
      → argument_inside caller callee (length callee.image) slot v ≡ true → follows v (length callee.extents) slot next ≡ Some further → evaluate_argument m bindings f v ≡ Ok b
      → Binds m callee g further (put_in_frame x g slot b)
  one (value.Scalar e low high) slot b x next further binds inside next_is given = stays slot b x next further binds next_is (scalar_plain b (value_at m f e) low high given)
  one (value.Set e low high) slot b x next further binds inside next_is given = stays slot b x next further binds next_is (set_plain b (set_at m f e) low high given)
  one (value.Copy source size) slot b x next further binds inside next_is given =
      stays slot b x next further binds next_is (from_ok b (address_at m f source) (λ at. Ok (Copy at size)) (λ at same. sym (ap names_in same)) given)
  one (value.Component c) slot b x next further binds inside next_is given =
      stays slot b x next further binds next_is (from_ok b (component_at m bindings f c) (λ n. Ok (Component n)) (λ n same. sym (ap names_in same)) given)
  one (value.Reference place) slot b x next further binds inside next_is given =
      named place slot b x next further binds (address_at m f place) refl (place_room caller place) refl (nat_lt next (length callee.extents) && slot == next) refl inside next_is given

  all : (xs : List Argument) (bs : List Bound) (x : Memory) (next : ℕ) → Binds m callee g next x
      → arguments_inside caller callee (length callee.image) xs ≡ true → binds_from (length callee.extents) next xs ≡ true → given_by m bindings f xs ≡ fine bs
      → Binds m callee g (length callee.extents) (bind_frame x g xs bs)
  all [] bs x next binds inside ends given = subst (λ n. Binds m callee g n x) (eqb-true next (length callee.extents) ends) binds
  all (a ∷ xs) bs x next binds inside ends given =
      go (λ rest y further. all xs rest y further) (evaluate_argument m bindings f a.value) refl (follows a.value (length callee.extents) a.slot next) refl (given_by m bindings f xs) refl ends given
    where
      first : argument_inside caller callee (length callee.image) a.slot a.value ≡ true
      first = and_left (argument_inside caller callee (length callee.image) a.slot a.value) (arguments_inside caller callee (length callee.image) xs) inside

      others : arguments_inside caller callee (length callee.image) xs ≡ true
      others = and_right (argument_inside caller callee (length callee.image) a.slot a.value) (arguments_inside caller callee (length callee.image) xs) inside

      go : ((rest : List Bound) (y : Memory) (further : ℕ) → Binds m callee g further y → arguments_inside caller callee (length callee.image) xs ≡ true → binds_from (length callee.extents) further xs ≡ true → given_by m bindings f xs ≡ fine rest → Binds m callee g (length callee.extents) (bind_frame y g xs rest))
          → (r : Result Bound ErrorName) → evaluate_argument m bindings f a.value ≡ r → (o : Option ℕ) → follows a.value (length callee.extents) a.slot next ≡ o → (t : Result (List Bound) ErrorName) → given_by m bindings f xs ≡ t
          → binds_on o (λ further. binds_from (length callee.extents) further xs) ≡ true → then_with r (λ b. then_with t (λ rest. fine (b ∷ rest))) ≡ fine bs
          → Binds m callee g (length callee.extents) (bind_frame x g (a ∷ xs) bs)
      go further_on (Ok b) found (Some further) next_is (Ok rest) rest_is ends given =
          subst (λ l. Binds m callee g (length callee.extents) (bind_frame x g (a ∷ xs) l)) (bounds_are given)
          (further_on rest (put_in_frame x g a.slot b) further (one a.value a.slot b x next further binds first next_is found) others ends rest_is)
      go further_on (Ok b) found (Some further) next_is (Err e) rest_is ends given = absurd (cc)
      go further_on (Ok b) found None next_is t rest_is ends given = absurd (cc)
      go further_on (Err e) found o next_is t rest_is ends given = absurd (cc)

module _ (m : Memory) (bindings : List ℕ) (caller callee : RoutineView) (f g : Frame) (xs : List Argument) (bs : List Bound) (covers : Covers m caller f) (inside : arguments_inside caller callee (length callee.image) xs ≡ true) (ends : binds_from (length callee.extents) 0 xs ≡ true) (given : bounds_at m bindings f xs ≡ Ok bs) (extents : length callee.extents ≡ callee.references) (names_are : g.references ≡ length m.references) (names_few : length m.references + callee.references < 2 ^ 64) where
  bound_all : Binds m callee g (length callee.extents) (bind_frame (open_frame m callee.image callee.references) g xs bs)
  bound_all =
      let image_long = length-append m.cells callee.image in
      let names_long = length-append m.references (replicate callee.references nowhere) in
      let names_count = length-replicate callee.references nowhere in
      let few : g.references + length callee.extents < 2 ^ 64 = omega (arith, extents, names_are, names_few) in
      let start : Binds m callee g 0 (open_frame m callee.image callee.references) =
      record {
        permanents = refl;
        cells = image_long;
        references = omega (arith, names_long, names_count, extents, names_are);
        behind = λ k lt. absurd (omega (arith, lt));
      } in
      all m bindings caller callee f g covers few xs bs (open_frame m callee.image callee.references) 0 start inside ends (given_all m bindings f xs bs given)

  -- what a `var` parameter names was there before the call
  pub opened_behind : (k : ℕ) → k < length callee.extents → HasCells m (reference_at (bind_frame (open_frame m callee.image callee.references) g xs bs).references (g.references + k)) (slice_index_or callee.extents k 0)
  opened_behind = bound_all.behind

pub opened_covered : CallsCoverTheirFrames
opened_covered m bindings caller callee f g xs bs covers inside ends given extents own_is base_is names_are cells_few names_few =
    let done = bound_all m bindings caller callee f g xs bs covers inside ends given extents names_are names_few in
    record {
      own = omega (arith, own_is, done.permanents);
      cells = omega (arith, base_is, done.cells);
      references = omega (arith, done.references);
      behind = λ k lt. has_more m (bind_frame (open_frame m callee.image callee.references) g xs bs) _ _ (omega (arith, done.permanents)) (omega (arith, done.cells)) (done.behind k lt);
      permanents_few = omega (arith, done.permanents, covers.permanents_few);
      cells_few = omega (arith, done.cells, cells_few);
      references_few = omega (arith, done.references, extents, names_are, names_few);
    }

pub written_covered : WritesKeepCells
written_covered m r f at b covers =
    let like = alike_value m at b in
    record {
      own = omega (arith, like.permanents, covers.own);
      cells = omega (arith, like.cells, covers.cells);
      references = subst (λ l. f.references + length r.extents ≤ length l) (sym like.references) covers.references;
      behind = λ k lt. subst (λ l. HasCells (put_value m at b) (reference_at l (f.references + k)) (slice_index_or r.extents k 0)) (sym like.references) (has_more m (put_value m at b) _ _ (omega (arith, like.permanents)) (omega (arith, like.cells)) (covers.behind k lt));
      permanents_few = omega (arith, like.permanents, covers.permanents_few);
      cells_few = omega (arith, like.cells, covers.cells_few);
      references_few = subst (λ l. length l < 2 ^ 64) (sym like.references) covers.references_few;
    }
