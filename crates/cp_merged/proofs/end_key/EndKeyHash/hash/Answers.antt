use Rattle.std.proofs.Common.{◌∙◌, ap, fold, flat_map}
use Rattle.std.specs.Hash as fed
use Rattle.cp_walk.specs.Hashing.{shown_code}
use Rattle.cp_walk.proofs.Feeding.{fed_outcome}
use Rattle.cp_merged.proofs.end_key.EndKeyHash.hash.Goals as goal

pub returns : goal.returns
returns g c =
    let outcome = c.args.self.now.outcome in
    fed_outcome g.H.Hasher.write c.args.state.now c.feed_kind.new.state c.feed_output.new.state outcome.kind outcome.output c.feed_kind.ensures (c.feed_output.ensures ∙ ap (λ values. fold g.H.Hasher.write c.feed_kind.new.state (flat_map (λ v. fed.u32 (shown_code v)) values)) c.as_slice.ensures)
