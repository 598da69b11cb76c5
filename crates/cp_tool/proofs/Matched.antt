-- The matches of the program's command, and its faults.
use Rattle.std.proofs.Common.{◌≡◌, ap, List}
use Rattle.clap.specs.Words.{App, Text, fault_of, matches_of}
use Rattle.cp_tool.specs.Command.{cpx, faults_for, rows_for}

pub rows_from : (a : App) (words : List Text) → a ≡ cpx → matches_of a words ≡ rows_for words
unfolding rows_for
rows_from a words e = ap (λ (b : App). matches_of b words) e

pub faults_from : (a : App) (words : List Text) → a ≡ cpx → fault_of a words ≡ faults_for words
unfolding faults_for
faults_from a words e = ap (λ (b : App). fault_of b words) e
