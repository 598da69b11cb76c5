use Rattle.std.proofs.Common.{◌∙◌, ◌++◌, [], ℕ, ap, arith, refl, replicate}
use Rattle.std.specs.Prelude.{encode_utf8}
use Rattle.cp_refusal.proofs.Telling.{nothing_taken, one_more_blank, two_pieces}
use Rattle.cp_refusal.proofs.page.push_blanks.Goals as goal

pub loop-at-init : goal.loop-at-init
loop-at-init c = record { piece = []; is = refl; holds = nothing_taken c.args.text.now }

pub loop-at-preserved : goal.loop-at-preserved
loop-at-preserved c =
    let told = c.loop-at.invariant in
    record {
      piece = told.piece ++ encode_utf8 32;
      is = one_more_blank c.loop-at._at told.piece told.is;
      holds = two_pieces c.args.text.now c.loop-at.text c.put_char.new.self told.piece (encode_utf8 32) told.holds c.put_char.ensures;
    }

pub returns : goal.returns
returns c =
    let told = c.loop-at.invariant in
    record { piece = told.piece; is = told.is ∙ ap (λ (n : ℕ). replicate n 32) (omega arith); holds = told.holds }
