-- A source whose tokens have a tree that breaks no rule is loaded, and its tree was read.
use Rattle.std.proofs.Common.{◌≡◌, ℕ, List, [], subst, sym}
use Rattle.cp_text.specs.Reading.{HasTokens}
use Rattle.cp_text.specs.declared.token.Token.{Token}
use Rattle.cp_tree.specs.Read.{IsRead}
use Rattle.cp_tree.specs.Syntax.{Tree}
use Rattle.cp_check.specs.Faults.{faults_of}
use Rattle.cp_front.specs.Loading.{IsTreeOf, Loads}

pub loads_by : (source : List ℕ) (tokens own : List Token) (t u : Tree) → HasTokens source tokens → IsTreeOf tokens t → faults_of t ≡ [] → own ≡ tokens → u ≡ t → Loads source own u
loads_by source tokens own t u text tree accepted e f = subst (λ (x : List Token). Loads source x u) (sym e) (subst (λ (x : Tree). Loads source tokens x) (sym f) (record { text = text; tree = tree; accepted = accepted }))

pub read_by : (source : List ℕ) (tokens : List Token) (t : Tree) → Loads source tokens t → IsRead t.program
read_by source tokens t l = record { tokens = tokens; text = record { text = source; reads = l.text }; spelled = l.tree.spelled; proper = l.tree.proper }

pub loads_again : (source : List ℕ) (tokens own : List Token) (t u : Tree) → Loads source tokens t → own ≡ tokens → u ≡ t → Loads source own u
loads_again source tokens own t u l e f = loads_by source tokens own t u l.text l.tree l.accepted e f
