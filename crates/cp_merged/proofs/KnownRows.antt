-- Rows of the states of a search, by what is known of these.
use Rattle.std.proofs.Common.{◌≡◌, ◌∙◌, ◌+◌, ◌<◌, ◌≤◌, ◌⊎◌, inl, inr, ℕ, List, [], ◌∷◌, ◌++◌, length, take, drop, ap, append-nil, arith, get_or-set_same, refl, sym, subst}
use Rattle.std.specs.Prelude.{slice_set, vec_capacity, vec_len, IfSome, Option, Some}
use Rattle.std.specs.declared.vec.Vec.{Vec}
use Rattle.std.specs.declared.alloc.Global.{Global}
use Rattle.std.proofs.lemmas.Bool.{cases_lt}
use Rattle.std.proofs.lemmas.List.{drop_at, ext_get_or, get_or-drop, get_or-take, length-append, length-drop, length-set, take-set, take_at}
use Rattle.cp_slots.specs.Tables.{Tables}
use Rattle.cp_machine.specs.declared.discipline.Discipline.{Discipline}
use Rattle.cp_machine.specs.declared.shown.Shown.{Shown}
use Rattle.cp_machine.specs.declared.state.State.{State}
use Rattle.cp_machine.specs.declared.state.TheConstants.{MOST_SHOWN}
use Rattle.cp_machine.specs.Fits.{IsStateOf}
use Rattle.cp_machine.specs.Machine.{Machine, with_output}
use Rattle.cp_key.specs.Room.{IsMachineOf}
use Rattle.cp_run.specs.declared.outcome.Halt.{Halt}
use Rattle.cp_run.specs.declared.outcome.OutcomeKind.{OutcomeKind}
use Rattle.cp_run.specs.Run.{may, those_below}
use Rattle.cp_run.specs.Silent.{without_output}
use Rattle.cp_run.specs.Slots.{processes_of, slots}
use Rattle.cp_states.specs.Numbers.{number_at}
use Rattle.cp_states.specs.Pieces.{IsPiece, KeepPieces}
use Rattle.cp_effect_laws.specs.Touches.{IsKept}
use Rattle.cp_parts.specs.declared.placing.PlaceTable.{PlaceTable}
use Rattle.cp_parts.specs.Parts.{IsPartRow, KeepStore}
use Rattle.cp_parts.specs.Placed.{IsPlaced}
use Rattle.cp_parts.proofs.Keeping.{row_on, store_on, store_same}
use Rattle.cp_parts.proofs.Pieces.{one_number, one_piece, piece_on, pieces_on, pieces_same}
use Rattle.cp_parts.proofs.Rows.{one_row_law, row_law}
use Rattle.cp_stretches.specs.declared.cache.LegCache.{LegCache}
use Rattle.cp_stretches.specs.Cached.{IsCache, IsStanding, StandsFor}
use Rattle.cp_stretches.specs.Stretching.{LeadsTo}
use Rattle.cp_stretches.proofs.Ending.{other_row, quiet_kept}
use Rattle.cp_merged.specs.Known.{Goes, HasParts, IsArrival, IsBefore, IsKnown, IsRowFor, KeepKnown, width_of}
use Rattle.cp_merged.specs.declared.known.KnownStates.{KnownStates}
use Rattle.cp_merged.proofs.Loud.{chosen_louder}

-- ---- what is known grows

pub known_same : (k : KnownStates) → KeepKnown k k
known_same k = record { table = refl; ruled = refl; store = store_same k.cache.store; outputs = pieces_same k.outputs.items.items k.outputs.ends.items }

pub known_on : (a b c : KnownStates) → KeepKnown a b → KeepKnown b c → KeepKnown a c
known_on a b c x y =
    record {
      table = y.table ∙ x.table;
      ruled = y.ruled ∙ x.ruled;
      store = store_on a.cache.store b.cache.store c.cache.store x.store y.store;
      outputs = pieces_on a.outputs.items.items a.outputs.ends.items b.outputs.items.items b.outputs.ends.items c.outputs.items.items c.outputs.ends.items x.outputs y.outputs;
    }

-- where what is known is the same but for outputs
pub more_outputs : (old new : KnownStates) → new.cache ≡ old.cache → new.discipline ≡ old.discipline → KeepPieces old.outputs.items.items old.outputs.ends.items new.outputs.items.items new.outputs.ends.items → KeepKnown old new
more_outputs old new cache ruled outputs =
    record {
      table = ap (λ c. c.table) cache;
      ruled = ruled;
      store = subst (λ c. KeepStore old.cache.store c.store) (sym cache) (store_same old.cache.store);
      outputs = outputs;
    }

-- and so is what holds of it
pub known_more : (r : Tables) (old new : KnownStates) → new.cache ≡ old.cache → new.discipline ≡ old.discipline → new.standing ≡ old.standing → IsKnown r old → IsKnown r new
known_more r old new cache ruled standing h =
    record {
      cached = subst (λ (d : Discipline). IsCache r d new.cache) (sym ruled) (subst (IsCache r old.discipline) (sym cache) h.cached);
      standing = subst (λ (c : LegCache). IsStanding r c.store c.table new.standing) (sym cache) (subst (IsStanding r old.cache.store old.cache.table) (sym standing) h.standing);
    }

-- what an option has that is one
pub some_of : {A : Type 0} (o : Option A) (a : A) (P : A → Type 0) → o ≡ Some a → IfSome o P → P a
some_of o a P is h = subst (λ x. IfSome x P) is h

module _ (r : Tables) (old new : KnownStates) (kept : KeepKnown old new) where
  wide : width_of new.cache.table ≡ width_of old.cache.table
  wide = ap width_of kept.table

  pub parts_on : (row : List ℕ) (m : Machine) → HasParts r old row m → HasParts r new row m
  parts_on row m has =
      record {
        placed = subst (IsPlaced r) (sym kept.table) has.placed;
        long = has.long ∙ sym (ap (λ n. n + 1) wide);
        parts = subst (λ (t : PlaceTable). IsPartRow new.cache.store t m (take (width_of t) row)) (sym kept.table) (row_on old.cache.store new.cache.store old.cache.table m (take (width_of old.cache.table) row) kept.store has.parts);
        ruled = has.ruled ∙ sym kept.ruled;
      }

  pub before_on : (row : List ℕ) (o : List Shown) → IsBefore old row o → IsBefore new row o
  before_on row o is =
      record {
        long = is.long ∙ sym (ap (λ n. n + 1) wide);
        is = subst (λ n. IsPiece new.outputs.items.items new.outputs.ends.items (number_at row n) o) (sym wide) (piece_on old.outputs.items.items old.outputs.ends.items new.outputs.items.items new.outputs.ends.items (number_at row (width_of old.cache.table)) o kept.outputs is.is);
      }

  pub row_for_on : (row : List ℕ) (m : Machine) → IsRowFor r old row m → IsRowFor r new row m
  row_for_on row m is = record { has = parts_on row m is.has; output = before_on row m.output is.output }

-- ---- rows and machines

-- a machine of the program that displayed something else
pub other_own : (r : Tables) (m : Machine) (o : List Shown) → IsKept r m → length o ≤ MOST_SHOWN → IsMachineOf r (with_output m o)
other_own r m o h few =
    record {
      fits = record { threads = h.fits.threads; permanents = h.fits.permanents; bindings = h.fits.bindings; phases = h.fits.phases; monitors = h.fits.monitors; pending = h.fits.pending; each = h.fits.each };
      lines = record { gate = h.lines.gate; once = h.lines.once; pending = h.lines.pending };
      reach = record { frames = h.reach.frames; executes = h.reach.executes; ends = h.reach.ends; bound = h.reach.bound };
      shown = few;
    }

module _ (r : Tables) (k : KnownStates) where
  abbrev width : ℕ
  width = width_of k.cache.table

  -- the parts of a row stand for its machine, as one that displays nothing
  pub stands_for : (row : List ℕ) (m : Machine) → HasParts r k row m → IsMachineOf r m → StandsFor r k.discipline k.cache.store k.cache.table (without_output m) (take width row)
  stands_for row m has own =
      record {
        stands = other_row k.cache.store k.cache.table m (take width row) m.discipline [] has.parts;
        kept = quiet_kept r m (record { fits = own.fits; lines = own.lines; reach = own.reach });
        quiet = refl;
        ruled = has.ruled;
      }

  -- all numbers of a row are those of its parts, and the last
  row_whole : (row other : List ℕ) → length row ≡ width + 1 → length other ≡ width + 1 → take width row ≡ take width other → number_at row width ≡ number_at other width → row ≡ other
  row_whole row other long as_long parts last = ext_get_or 0 row other (long ∙ sym as_long) (λ n lt. by n (cases_lt n width) lt)
    where
      by : (n : ℕ) → (n < width) ⊎ (width ≤ n) → n < length row → number_at row n ≡ number_at other n
      by n (inl below) lt = sym (get_or-take width row n 0 below) ∙ ap (λ l. number_at l n) parts ∙ get_or-take width other n 0 below
      by n (inr above) lt = let at : n ≡ width = omega (arith, above, lt, long) in ap (number_at row) at ∙ last ∙ sym (ap (number_at other) at)

  -- one row is that of one machine of the program
  pub one_machine : (row : List ℕ) (m n : Machine) → IsMachineOf r m → IsMachineOf r n → IsRowFor r k row m → IsRowFor r k row n → m ≡ n
  one_machine row m n mine theirs a b =
      row_law r k.cache.store k.cache.table m n (take width row) a.has.placed mine.fits theirs.fits (b.has.ruled ∙ sym a.has.ruled)
      (one_piece k.outputs.items.items k.outputs.ends.items (number_at row width) n.output m.output b.output.is a.output.is) a.has.parts b.has.parts

  -- and a machine has one row
  pub one_row : (row other : List ℕ) (m : Machine) → IsRowFor r k row m → IsRowFor r k other m → row ≡ other
  one_row row other m a b =
      row_whole row other a.has.long b.has.long (one_row_law k.cache.store k.cache.table m (take width row) (take width other) a.has.parts b.has.parts)
      (one_number k.outputs.items.items k.outputs.ends.items (number_at row width) (number_at other width) m.output k.outputs.different a.output.is b.output.is)

-- ---- rows that are written

module _ (width : ℕ) where
  -- parts are written over the first numbers of a row
  pub written_parts : (row parts : List ℕ) → length parts ≡ width → take width (parts ++ drop width row) ≡ parts
  written_parts row parts long = take_at parts (drop width row) width long

  pub written_long : (row parts : List ℕ) → length parts ≡ width → length row ≡ width + 1 → length (parts ++ drop width row) ≡ width + 1
  written_long row parts long whole = omega (arith, long, whole, length-append parts (drop width row), length-drop width row)

  pub written_last : (row parts : List ℕ) → length parts ≡ width → number_at (parts ++ drop width row) width ≡ number_at row width
  written_last row parts long =
      let none : width + 0 ≡ width = omega arith in
      sym (ap (number_at (parts ++ drop width row)) none) ∙ sym (get_or-drop width (parts ++ drop width row) 0 0)
      ∙ ap (λ l. number_at l 0) (drop_at parts (drop width row) width long) ∙ get_or-drop width row 0 0 ∙ ap (number_at row) none

-- a row that was written as a whole
pub whole_row : (old new : List ℕ) (n : ℕ) → length new ≡ n → take n (new ++ drop (length new) old) ≡ new
whole_row old new n long = take_at new (drop (length new) old) n long

-- the number of an output is written at the end
module _ (r : Tables) (k : KnownStates) (row : List ℕ) (m : Machine) (n : ℕ) where
  pub numbered_parts : HasParts r k row m → HasParts r k (slice_set row (width_of k.cache.table) n) m
  numbered_parts has =
      record {
        placed = has.placed;
        long = length-set row (width_of k.cache.table) n ∙ has.long;
        parts = subst (IsPartRow k.cache.store k.cache.table m) (sym (take-set row (width_of k.cache.table) n)) has.parts;
        ruled = has.ruled;
      }

  pub numbered_before : (o : List Shown) → length row ≡ width_of k.cache.table + 1 → IsPiece k.outputs.items.items k.outputs.ends.items n o → IsBefore k (slice_set row (width_of k.cache.table) n) o
  numbered_before o long is =
      record {
        long = length-set row (width_of k.cache.table) n ∙ long;
        is = subst (λ i. IsPiece k.outputs.items.items k.outputs.ends.items i o) (sym (get_or-set_same row (width_of k.cache.table) n 0 (omega (arith, long)))) is;
      }

-- the parts of a machine are written into a row, and the number of its output
pub found_row : (r : Tables) (k : KnownStates) (row parts : List ℕ) (m : Machine) (end n : ℕ) → end ≡ width_of k.cache.table → IsPlaced r k.cache.table → m.discipline ≡ k.discipline → IsMachineOf r m → IsPartRow k.cache.store k.cache.table m parts →
    length row ≡ width_of k.cache.table + 1 → IsPiece k.outputs.items.items k.outputs.ends.items n m.output → IsArrival r k (slice_set (parts ++ drop end row) end n) [] m
found_row r k row parts m end n at placed ruled own is long piece =
    let width : ℕ = width_of k.cache.table in
    let whole : List ℕ = parts ++ drop width row in
    let as_long : length whole ≡ width + 1 = written_long width row parts is.long long in
    subst (λ e. IsArrival r k (slice_set (parts ++ drop e row) e n) [] m) (sym at)
    (record {
      own = own;
      has = numbered_parts r k whole m n (record { placed = placed; long = as_long; parts = subst (IsPartRow k.cache.store k.cache.table m) (sym (written_parts width row parts is.long)) is; ruled = ruled });
      old = m.output;
      before = numbered_before r k whole m n m.output as_long piece;
      told = sym (append-nil m.output);
    })

-- words arrive at a row whose output was numbered
pub numbered_row : (r : Tables) (old new : KnownStates) (row : List ℕ) (shown : List Shown) (m : Machine) (n : ℕ) → KeepKnown old new → IsArrival r old row shown m → IsPiece new.outputs.items.items new.outputs.ends.items n m.output → IsRowFor r new (slice_set row (width_of old.cache.table) n) m
numbered_row r old new row shown m n kept h is =
    let has : HasParts r new row m = parts_on r old new kept row m h.has in
    subst (λ (t : PlaceTable). IsRowFor r new (slice_set row (width_of t) n) m) kept.table (record { has = numbered_parts r new row m n has; output = numbered_before r new row m n m.output has.long is })

-- nothing was displayed on the way
pub arrived_row : (r : Tables) (k : KnownStates) (row : List ℕ) (shown : List Shown) (m : Machine) → length shown ≡ 0 → IsArrival r k row shown m → IsRowFor r k row m
arrived_row r k row [] m none h = let same : h.old ≡ m.output = sym (h.told ∙ append-nil h.old) in record { has = h.has; output = subst (IsBefore k row) same h.before }
arrived_row r k row (x ∷ shown) m none h = absurd (omega (arith, none))

-- ---- states

-- a state of the program that displayed something else
pub own_with : (r : Tables) (s : State) (o : Vec Shown Global) → IsStateOf r s → vec_capacity s.output ≤ vec_capacity o → length o.items ≤ MOST_SHOWN → IsStateOf r (record s { output = o })
own_with r s o h room few =
    let len : vec_len o ≡ length o.items = o.ok.0 in
    record {
      sound = h.sound;
      fits = record { threads = h.fits.threads; permanents = h.fits.permanents; bindings = h.fits.bindings; phases = h.fits.phases; monitors = h.fits.monitors; pending = h.fits.pending; each = h.fits.each };
      lines = record { gate = h.lines.gate; once = h.lines.once; pending = h.lines.pending };
      reach = record { frames = h.reach.frames; executes = h.reach.executes; ends = h.reach.ends; bound = h.reach.bound };
      reserved = record {
        stacks = h.reserved.stacks;
        cells = h.reserved.cells;
        references = h.reserved.references;
        output = omega (arith, h.reserved.output, room);
        shown = omega (arith, len, few);
        bounds = h.reserved.bounds;
      };
    }

-- ---- where choices lead

module _ (r : Tables) (discipline : Discipline) (steps : ℕ) (m : Machine) (p : ℕ) (halt : Halt OutcomeKind) where
  -- by the legs that are known
  pub goes_so : (k : KnownStates) (row parts : List ℕ) (shown : List Shown) → IsPlaced r k.cache.table → k.discipline ≡ discipline → length m.output + length shown ≤ MOST_SHOWN →
      LeadsTo r discipline k.cache.store k.cache.table steps (without_output m) p [] halt parts shown →
      length row ≡ width_of k.cache.table + 1 → take (width_of k.cache.table) row ≡ parts → IsPiece k.outputs.items.items k.outputs.ends.items (number_at row (width_of k.cache.table)) m.output →
      Goes r discipline steps m p halt k row shown
  goes_so k row parts shown placed ruled room leads long are before =
      let t : PlaceTable = k.cache.table in
      let after : Machine = with_output leads.after (m.output ++ shown) in
      record {
        after = after;
        arrival = record {
          own = other_own r leads.after (m.output ++ shown) leads.stands.kept (omega (arith, room, length-append m.output shown));
          has = record {
            placed = placed;
            long = long;
            parts = subst (IsPartRow k.cache.store t after) (sym are) (other_row k.cache.store t leads.after parts leads.after.discipline (m.output ++ shown) leads.stands.stands);
            ruled = leads.stands.ruled ∙ sym ruled;
          };
          old = m.output;
          before = record { long = long; is = before };
          told = refl;
        };
        node = chosen_louder r discipline m.output steps (without_output m) p leads.after halt shown refl leads.walked leads.told room;
      }

  -- the parts there are written over those of a row
  pub goes_written : (k : KnownStates) (from parts : List ℕ) (end : ℕ) (shown : List Shown) → end ≡ width_of k.cache.table → IsPlaced r k.cache.table → k.discipline ≡ discipline → length m.output + length shown ≤ MOST_SHOWN →
      LeadsTo r discipline k.cache.store k.cache.table steps (without_output m) p [] halt parts shown → IsBefore k from m.output → Goes r discipline steps m p halt k (parts ++ drop end from) shown
  goes_written k from parts end shown at placed ruled room leads before =
      let width : ℕ = width_of k.cache.table in
      let long : length parts ≡ width = leads.stands.stands.long in
      subst (λ e. Goes r discipline steps m p halt k (parts ++ drop e from) shown) (sym at)
      (goes_so k (parts ++ drop width from) parts shown placed ruled room leads (written_long width from parts long before.long) (written_parts width from parts long)
      (subst (λ n. IsPiece k.outputs.items.items k.outputs.ends.items n m.output) (sym (written_last width from parts long)) before.is))

-- ---- what may be chosen

-- what was displayed does not matter
pub may_quiet : (r : Tables) (discipline : Discipline) (m : Machine) → may (slots r discipline) (without_output m) ≡ may (slots r discipline) m
unfolding may
may_quiet r discipline m = refl

pub may_listed : (r : Tables) (k : KnownStates) (discipline : Discipline) (m : Machine) (numbers : List ℕ) → k.discipline ≡ discipline → numbers ≡ those_below (processes_of r) (may (slots r k.discipline) m) → numbers ≡ those_below (processes_of r) (may (slots r discipline) m)
may_listed r k discipline m numbers ruled is = is ∙ ap (λ (d : Discipline). those_below (processes_of r) (may (slots r d) m)) ruled
