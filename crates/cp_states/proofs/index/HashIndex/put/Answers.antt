use Rattle.std.proofs.Common.{◌≡◌, ◌∙◌, ◌<◌, length, arith, ap}
use Rattle.std.proofs.lemmas.List.{get_or_default}
use Rattle.cp_states.specs.Chains.{chain_of}
use Rattle.cp_states.proofs.Chaining.{pushed}
use Rattle.cp_states.proofs.index.HashIndex.put.Goals as goal

pub invariant_of-self-clause-chained : goal.invariant_of-self-clause-chained
invariant_of-self-clause-chained c =
    let self = c.args.self.now in
    let heads = self.heads.items in
    let long : c.len.result ≡ length heads = omega arith in
    let within : c.chain_of-chain.result < length heads = omega (arith, c.chain_of-chain.ensures.within, long) in
    let next = c.index-next.ensures ∙ get_or_default heads c.chain_of-chain.result c.index-next.result.now 0 within in
    pushed heads self.links.items c.push_reserved.new.self.items _ c.chain_of-chain.result c.len-count.result (omega arith) within (c.chain_of-chain.ensures.value ∙ ap (chain_of c.args.hash) long) next c.push_reserved.ensures.items self.chained
