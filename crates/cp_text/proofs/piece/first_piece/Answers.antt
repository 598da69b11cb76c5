use Rattle.cp_text.proofs.Runs.{run_ascii}
use Rattle.cp_text.proofs.piece.first_piece.Goals as goal

pub returns-then-is_ascii_alphabetic-clause-ascii : goal.returns-then-is_ascii_alphabetic-clause-ascii
returns-then-is_ascii_alphabetic-clause-ascii c = λ e. rw c.run_len-then-is_ascii_alphabetic.ensures.value (run_ascii c.args.text.now)
