use Rattle.std.proofs.Common.{◌∙◌, sym}
use Rattle.cp_tool.specs.Answered.{Answering, Tells}
use Rattle.cp_tool.proofs.Asking.{with_ends, without_ends}
use Rattle.cp_tool.proofs.answering.answer_stream.Goals as goal

pub returns-then-asks_ends-clause-told : goal.returns-then-asks_ends-clause-told
returns-then-asks_ends-clause-told g c =
    let h = c.ends_stream.ensures.told in
    (h.0, h.1, with_ends c.args.options.now (λ (P : Answering). Tells P (g.R.Source.remaining c.args.source.now) (g.W.Sink.contents c.args.sink.now) (g.W.Sink.contents c.ends_stream.new.sink) h.0) (sym c.asks_ends.ensures ∙ c.if-asks_ends.true) h.2, h.3)

pub returns-else-asks_ends-clause-told : goal.returns-else-asks_ends-clause-told
returns-else-asks_ends-clause-told g c =
    let h = c.explore_stream_observed.ensures.told in
    (h.0, h.1, without_ends c.args.options.now (λ (P : Answering). Tells P (g.R.Source.remaining c.args.source.now) (g.W.Sink.contents c.args.sink.now) (g.W.Sink.contents c.explore_stream_observed.new.sink) h.0) (sym c.asks_ends.ensures ∙ c.if-asks_ends.false) h.2, h.3)
