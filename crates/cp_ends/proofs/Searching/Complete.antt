-- When each place that was found was expanded, all that words lead to was found, each with its first word.
use Rattle.cp_ends.proofs.Vocabulary.{◌<◌, ◌≤◌, ℕ, length, arith, slice_get_within, Graph, LeadsToPlace, LeadsToEnd, ShowsLast, AreFirsts, AreFirstOnes, Tests}
use Rattle.cp_ends.proofs.Vocabulary.{searched}
use Rattle.cp_ends.proofs.Searching.Lists.{place_of}
use Rattle.cp_ends.proofs.Searching.Arrivals.{IsBounded}
use Rattle.cp_ends.proofs.Searching.Going.{AreExact}
use Rattle.cp_ends.proofs.Searching.Stages.{searched_recorded, searched_stage, searched_start}
use Rattle.cp_ends.proofs.Searching.Reached.{IsClosed, reached_end, reached_place, reached_value}
use Rattle.cp_ends.proofs.Searching.Firsts.{are_first_ones, are_firsts}

module _ {S E V : Type 0} (g : Graph S E V) (t : Tests S E V) (exact : AreExact g t) (bounded : IsBounded g) (n : ℕ) (done : length (searched g t n).states ≤ n) where
  closed : (d : ℕ) → IsClosed g t (searched g t n) d
  closed d s word p c few may =
      let at = place_of (searched g t n).states (s, word) c in
      let lt : at.0 < n = omega (arith, slice_get_within (searched g t n).states at.0 (s, word) at.1, done) in
      searched_recorded g t exact bounded n at.0 (s, word) p lt at.1 may

  pub complete_states : AreFirsts (LeadsToPlace g) (searched g t n).states
  complete_states =
      let h = searched_stage g t exact n in
      are_firsts (LeadsToPlace g) (searched g t n).states h.last h.sound.states (λ s w leads. reached_place g t (searched g t n) (length w) (searched_start g t exact n) (closed (length w)) s w leads (omega arith))

  pub complete_ends : AreFirsts (LeadsToEnd g) (searched g t n).ends
  complete_ends =
      let h = searched_stage g t exact n in
      are_firsts (LeadsToEnd g) (searched g t n).ends h.last h.sound.ends (λ e w leads. reached_end g t (searched g t n) (length w) (searched_start g t exact n) (closed (length w)) e w leads (omega arith))

  pub complete_values : AreFirstOnes t.most (ShowsLast g) (searched g t n).values
  complete_values =
      let h = searched_stage g t exact n in
      are_first_ones (ShowsLast g) (searched g t n).values h.last h.sound.values t.most h.sound.few (λ v w shows. reached_value g t (searched g t n) (length w) (searched_start g t exact n) (closed (length w)) v w shows (omega arith))
