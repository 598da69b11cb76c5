use Rattle.cp_merged.proofs.Words.{◌≡◌, take, Machine, IsMachineOf, IsRowFor, KeepKnown, CanGoOn, Holds, rows_of, same_outcome, same_key, slots}
use Rattle.cp_merged.specs.Layers as layers
use Rattle.cp_merged.proofs.Choosing.{after_list}
use Rattle.cp_merged.proofs.layering.Layering.take_choices.Given as goal

abbrev pub invariant-loop-process : goal.invariant-loop-process
invariant-loop-process g l =
    let r = l.job.run.program.now in
    let discipline = l.job.run.limits.discipline in
    record {
      on : CanGoOn r discipline l.self.known l.self.row.items l.self.frontier.layer.width;
      arriving : l.arriving ≡ l.prefixes;
      kept : KeepKnown l.initial.self.known l.self.known;
      front : (m : Machine) (f : layers.Front Machine) → IsRowFor r l.initial.self.known l.from m → IsMachineOf r m → Holds r l.initial.self.known l.initial.self.frontier.ended.entries (rows_of l.initial.self.frontier.layer) f →
          Holds r l.self.known l.self.frontier.ended.entries (rows_of l.self.frontier.layer) (after_list (slots r discipline) same_outcome same_key l.job.run.limits.steps (record { state = m; first = l.prefixes.first.items; count = l.prefixes.count }) (take l.process-index l.process-items) f);
    }
