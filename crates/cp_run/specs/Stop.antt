-- Where the run of a word stops: in which state, and before how many numbers of the word.
use Rattle.std.specs.Prelude.{ℕ, zero, suc, ◌-◌, length, List, [], ◌∷◌, if◌then◌else◌}
use Rattle.cp_run.specs.System.{System}
use Rattle.cp_run.specs.Run.{Answer, Ended, Node, Halted, Choosing, may, chosen, opened}

-- from where the run stands, with this many choices left: where it ends, where the word does, and where a number of it may not be taken
unfoldable pub last_state_from : {S : Type 0} → System S → ℕ → ℕ → List ℕ → Node S → S
last_state_from sys steps choices word (Halted kind s) = s
last_state_from sys steps zero word (Choosing s) = s
last_state_from sys steps (suc choices) [] (Choosing s) = s
last_state_from sys steps (suc choices) (p ∷ word) (Choosing s) = if may sys s p then last_state_from sys steps choices word (chosen sys steps s p) else s

abbrev pub last_state : {S : Type 0} → System S → (choices steps : ℕ) → List ℕ → S
last_state sys choices steps word = last_state_from sys steps choices word (opened sys steps)

-- how many numbers are not used, where the run has ended before them
abbrev pub numbers_left : List ℕ → Answer → ℕ
numbers_left word (Ended outcome used) = length word - used
numbers_left word _ = 0
