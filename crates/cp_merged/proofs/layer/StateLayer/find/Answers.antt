use Rattle.std.proofs.Common.{◌≡◌, ◌∙◌, ◌<◌, ap, arith, length, sym}
use Rattle.std.specs.Prelude.{IfNone, Option, None, Some, false, true, ℕ}
use Rattle.std.proofs.lemmas.List.{get_or-map, length-map}
use Rattle.cp_states.specs.declared.chain.Link.{Link}
use Rattle.cp_states.specs.Chains.{no_link}
use Rattle.cp_states.specs.Hashes.{hash_at, hashes}
use Rattle.cp_states.specs.Hashing.{hash_of}
use Rattle.cp_merged.proofs.layer.StateLayer.find.Goals as goal

if_none : {T P Q : Type 0} (r : Option T) → (P → Q) → IfNone r P → IfNone r Q
if_none None f p = f p
if_none (Some x) f p = tt

wrong : false ≡ true → ⊥
wrong e = absurd (cc)

pub returns-clause-absent : goal.returns-clause-absent
returns-clause-absent c =
    let self = c.args.self.now in
    let links = self.index.links.items in
    if_none c.find.result
    (λ seen n lt e.
    let within : n < length (hashes self.index) = omega (arith, lt, self.hashed.long) in
    let there : n < length links = omega (arith, within, length-map links (λ (link : Link). link.hash)) in
    let hash : hash_at self.index n ≡ c.args.hash = sym (get_or-map (λ (link : Link). link.hash) links n no_link 0 there) ∙ self.hashed.each n lt ∙ ap (hash_of (λ (k : ℕ). k)) e ∙ sym c.requires in
    wrong ((seen n within hash).1 lt e))
    c.find.ensures.absent
