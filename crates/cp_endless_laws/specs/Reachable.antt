-- Where words of any length lead to.
use Rattle.std.specs.Prelude.{◌≡◌, ℕ, List, [], ◌∷◌, if◌then◌else◌, Option, None, Some}
use Rattle.cp_run.specs.declared.outcome.OutcomeKind.{OutcomeKind}
use Rattle.cp_run.specs.System.{System}
use Rattle.cp_run.specs.Run.{Node, Halted, Choosing, may, chosen, opened}

-- where a word leads to from a node, if each of its numbers may be chosen
abbrev pub node_after : {S : Type 0} → System S → ℕ → Node S → List ℕ → Option (Node S)
node_after sys steps node [] = Some node
node_after sys steps (Halted kind s) (p ∷ word) = None
node_after sys steps (Choosing s) (p ∷ word) = if may sys s p then node_after sys steps (chosen sys steps s p) word else None

-- the word leads from the start to this node
abbrev pub LeadsTo : {S : Type 0} → System S → ℕ → List ℕ → Node S → Type 0
LeadsTo sys steps word node = node_after sys steps (opened sys steps) word ≡ Some node

-- the word leads to an end of this kind
abbrev pub EndsAfter : {S : Type 0} → System S → ℕ → List ℕ → OutcomeKind → Type 0
EndsAfter {S} sys steps word kind = (s : S) × LeadsTo sys steps word (Halted kind s)

-- some word, of whatever length, leads to a due choice in this state
pub record IsReachable {S : Type 0} (sys : System S) (steps : ℕ) (s : S) : Type 0 where
  pub word : List ℕ
  pub leads : LeadsTo sys steps word (Choosing s)

-- some word, of whatever length, leads to an end of this kind
pub record IsPossible {S : Type 0} (sys : System S) (steps : ℕ) (kind : OutcomeKind) : Type 0 where
  pub word : List ℕ
  pub state : S
  pub leads : LeadsTo sys steps word (Halted kind state)
