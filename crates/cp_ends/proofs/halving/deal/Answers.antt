use Rattle.std.proofs.Common.{◌∙◌, ◌++◌, ◌+◌, ◌-◌, ◌/◌, ℕ, List, ap, drop, sym, take}
use Rattle.cp_ends.proofs.Dealing.{dealt_in_three}
use Rattle.cp_ends.proofs.halving.deal.Goals as goal

pub returns-clause-statuses : goal.returns-clause-statuses
returns-clause-statuses c = c.split_at.ensures.front

pub returns-clause-first : goal.returns-clause-first
returns-clause-first c =
    let p = c.args.table.now.processes in
    let a = p / 2 in
    let b = p - p / 2 in
    let n = c.args.table.now.monitors / 2 in
    let places = drop (p + 1) c.args.row.now in
    let rest = c.split_at.ensures.back in
    let last = c.split_at-3.ensures.back ∙ ap (drop b) (c.split_at-2.ensures.back ∙ ap (drop a) rest) in
    ap (λ (l : List ℕ). l ++ c.split_at-4.result.0.now) (c.split_at-2.ensures.front ∙ ap (take a) rest)
    ∙ ap (λ (l : List ℕ). take a places ++ l) (c.split_at-4.ensures.front ∙ ap (take n) last)
    ∙ sym (ap (λ (x : List ℕ × List ℕ). x.0) (dealt_in_three a b n places))

pub returns-clause-second : goal.returns-clause-second
returns-clause-second c =
    let p = c.args.table.now.processes in
    let a = p / 2 in
    let b = p - p / 2 in
    let n = c.args.table.now.monitors / 2 in
    let places = drop (p + 1) c.args.row.now in
    let next = c.split_at-2.ensures.back ∙ ap (drop a) c.split_at.ensures.back in
    let last = c.split_at-3.ensures.back ∙ ap (drop b) next in
    ap (λ (l : List ℕ). l ++ c.split_at-4.result.1.now) (c.split_at-3.ensures.front ∙ ap (take b) next)
    ∙ ap (λ (l : List ℕ). take b (drop a places) ++ l) (c.split_at-4.ensures.back ∙ ap (drop n) last)
    ∙ sym (ap (λ (x : List ℕ × List ℕ). x.1) (dealt_in_three a b n places))
