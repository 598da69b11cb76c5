-- What the search through the graph found is what the words of the machine that shows nothing lead to.
use Rattle.std.proofs.Common.{◌≡◌, ◌+◌, ◌<◌, ◌≤◌, ℕ, suc, Bool, true, false, if◌then◌else◌, List, [], ◌∷◌, ◌++◌, Some, length, map, refl, length-append, arith}
use Rattle.std.specs.Prelude.{◌≢◌, All, AllPairs, Decides, filter, not, nat_lt, slice_get}
use Rattle.cp_ends.proofs.Vocabulary.{Each, Shown, System, may, forgetting_system, EndsSo, ShowsSo, Place, Graph, LeadsToPlace, LeadsToEnd, ShowsLast, Findings}
use Rattle.cp_ends.proofs.Vocabulary.{Tests, has, gone_on, searched, MOST_VALUES}
use Rattle.std.proofs.lemmas.Bool.{ltb-true}
use Rattle.std.proofs.lemmas.List.{get_or-map, length-map}
use Rattle.std.proofs.lemmas.List.Elements.{All-map, All-weaker, All-from_recursion, recursion_from_All}
use Rattle.std.proofs.lemmas.List.Filters.{length-filter_both}
use Rattle.cp_ends.specs.Whole.{LeadsToState, IsWhole, HasTooMany, IsCutShort}
use Rattle.cp_ends.specs.Arrivals.{ends_graph}
use Rattle.cp_ends.specs.Firsts.{Within, is_within, those_within}
use Rattle.cp_ends.specs.declared.end.End.{End}
use Rattle.cp_ends.proofs.Searching.Arrivals.{IsBounded}
use Rattle.cp_ends.proofs.Searching.Complete.{complete_states, complete_ends, complete_values}
use Rattle.cp_ends.proofs.Searching.Going.{AreExact, exact_tests}
use Rattle.cp_ends.proofs.Searching.Growing.{with_shown}
use Rattle.cp_ends.proofs.Searching.Stopped.{stopped_states, stopped_ends, stopped_values, stopped_places, stopped_apart, stopped_near}
use Rattle.cp_ends.proofs.words.Firsts.{SayTheSame, firsts_same, first_ones_same, within_same}
use Rattle.cp_ends.proofs.words.Translated.{place_there, place_back, end_there, end_back, shows_there, shows_back}
use Rattle.cp_resolved.proofs.counts.FewCells.{left_of as left}

-- ---- lists

pairs_map : {A B : Type 0} (f : A → B) (R : B → B → Type 0) (xs : List A) → AllPairs (λ x y. R (f x) (f y)) xs → AllPairs R (map f xs)
pairs_map f R [] h i j d before within = absurd (omega (arith, within))
pairs_map f R (x ∷ xs) h i j d before within =
    let last : j < length (x ∷ xs) = omega (arith, within, length-map (x ∷ xs) f) in
    let one = get_or-map f (x ∷ xs) i x d (omega (arith, before, last)) in
    let other = get_or-map f (x ∷ xs) j x d last in
    rw (one, other) (h i j x before last)

fewer : {A : Type 0} (p : A → Bool) (xs : List A) → length (filter p xs) ≤ length xs
fewer p xs = omega (arith, length-filter_both p (λ x. not (p x)) (λ x. refl) xs)

each_both : {A : Type 0} (P Q : A → Type 0) (xs : List A) → Each P xs → Each Q xs → Each (λ x. P x × Q x) xs
each_both P Q [] p q = tt
each_both P Q (x ∷ xs) p q = ((p.0, q.0), each_both P Q xs p.1 q.1)

all_both : {A : Type 0} (P Q : A → Type 0) (xs : List A) → All P xs → All Q xs → All (λ x. P x × Q x) xs
all_both P Q xs p q = All-from_recursion (λ x. P x × Q x) xs (each_both P Q xs (recursion_from_All P xs p) (recursion_from_All Q xs q))

-- ---- the graph

pub below : {S : Type 0} (sys : System S) (s : S) (p : ℕ) → may sys s p ≡ true → p < sys.processes
unfolding may
below sys s p h = ltb-true p sys.processes (left (nat_lt p sys.processes) (if sys.is_pending s then sys.in_line s p else sys.is_ready s p) h)

module _ {S : Type 0} (sys : System S) (forget : S → S) (eq : S → S → Bool) (steps : ℕ) (states : (s t : S) → Decides (eq s t) (s ≡ t)) (end : End → End → Bool) (ends : (a b : End) → Decides (end a b) (a ≡ b)) (value : Shown → Shown → Bool) (values : (a b : Shown) → Decides (value a b) (a ≡ b)) where
  abbrev pub g : Graph S End Shown
  g = ends_graph sys forget eq steps

  -- one value more than is told is kept
  abbrev pub t : Tests S End Shown
  t = record { state = eq; end = end; value = value; most = suc MOST_VALUES }

  same : (s u : S) → eq s u ≡ true → s ≡ u
  same s u h = (states s u).0 h

  self : (s : S) → eq s s ≡ true
  self s = (states s s).1 refl

  exact : AreExact g t
  exact = exact_tests g t states ends values

  bounded : IsBounded g
  bounded s p h = below sys s p h

  states_alike : SayTheSame (LeadsToPlace g) (LeadsToState sys forget steps)
  states_alike = record { there = λ s w h. place_there sys forget eq steps same self s w h; back = λ s w h. place_back sys forget eq steps same self s w h }

  ends_alike : SayTheSame (LeadsToEnd g) (EndsSo (forgetting_system sys forget) steps)
  ends_alike = record { there = λ e w h. end_there sys forget eq steps same self e w h; back = λ e w h. end_back sys forget eq steps same self e w h }

  values_alike : SayTheSame (ShowsLast g) (ShowsSo sys forget steps)
  values_alike = record { there = λ v w h. shows_there sys forget eq steps same self v w h; back = λ v w h. shows_back sys forget eq steps same self v w h }

  -- each place was expanded
  pub answers_whole : (n most : ℕ) → length (searched g t n).states ≤ n → length (searched g t n).states ≤ most → IsWhole sys forget steps most (searched g t n)
  answers_whole n most done few =
      record {
        few = few;
        states = firsts_same (LeadsToPlace g) (LeadsToState sys forget steps) states_alike (searched g t n).states (complete_states g t exact bounded n done);
        ends = firsts_same (LeadsToEnd g) (EndsSo (forgetting_system sys forget) steps) ends_alike (searched g t n).ends (complete_ends g t exact bounded n done);
        values = first_ones_same (ShowsLast g) (ShowsSo sys forget steps) values_alike (suc MOST_VALUES) (searched g t n).values (complete_values g t exact bounded n done);
      }

  -- The edge c of the place x leads to one place too many.
  module _ (n most : ℕ) (x : S × List ℕ) (c : ℕ) (at : slice_get (searched g t n).states n ≡ Some x) (leads : g.may x.0 c ≡ true) (s : S) (goal : (g.on x.0 c).goal ≡ Place s) (new : has t.state (gone_on g t x c (searched g t n)).states s ≡ false) (full : length (gone_on g t x c (searched g t n)).states ≡ most) where
    abbrev found : Findings S End Shown
    found = gone_on g t x c (searched g t n)

    abbrev near : List (S × List ℕ)
    near = found.states ++ (s, x.1 ++ c ∷ []) ∷ []

    abbrev is_near : S → Type 0
    is_near r = (word : List ℕ) × Within (suc (length x.1)) (LeadsToState sys forget steps) r word

    many : HasTooMany sys forget steps most (length x.1)
    many =
        record {
          near = map (λ e. e.0) near;
          count = (let l = length-map near (λ e. e.0) in let m = length-append found.states ((s, x.1 ++ c ∷ []) ∷ []) in omega (arith, l, m, full));
          apart = pairs_map (λ e. e.0) (λ a b. a ≢ b) near (stopped_apart g t exact bounded n x c at leads s goal new);
          reached = All-map is_near (λ e. e.0) near (All-weaker (λ e. LeadsToPlace g e.0 e.1 × (length e.1 ≤ length x.1 + 1)) (λ e. is_near e.0) (λ e h. (e.1, (states_alike.there e.0 e.1 h.0, (let le = h.1 in omega (arith, le))))) near (all_both (λ e. LeadsToPlace g e.0 e.1) (λ e. length e.1 ≤ length x.1 + 1) near (stopped_places g t exact bounded n x c at leads s goal new) (stopped_near g t exact bounded n x c at leads s goal new)));
        }

    pub answers_cut : IsCutShort sys forget steps most (length x.1) (with_shown t found (x.1 ++ c ∷ []) (g.on x.0 c))
    answers_cut =
        record {
          few = (let f = fewer (is_within (length x.1)) found.states in omega (arith, f, full));
          many = many;
          states = firsts_same (Within (length x.1) (LeadsToPlace g)) (Within (length x.1) (LeadsToState sys forget steps)) (within_same (LeadsToPlace g) (LeadsToState sys forget steps) states_alike (length x.1)) (those_within (length x.1) found.states) (stopped_states g t exact bounded n x c at leads);
          ends = firsts_same (Within (length x.1) (LeadsToEnd g)) (Within (length x.1) (EndsSo (forgetting_system sys forget) steps)) (within_same (LeadsToEnd g) (EndsSo (forgetting_system sys forget) steps) ends_alike (length x.1)) (those_within (length x.1) found.ends) (stopped_ends g t exact bounded n x c at leads);
          values = first_ones_same (Within (length x.1) (ShowsLast g)) (Within (length x.1) (ShowsSo sys forget steps)) (within_same (ShowsLast g) (ShowsSo sys forget steps) values_alike (length x.1)) (suc MOST_VALUES) (those_within (length x.1) (with_shown t found (x.1 ++ c ∷ []) (g.on x.0 c)).values) (stopped_values g t exact bounded n x c at leads);
        }
