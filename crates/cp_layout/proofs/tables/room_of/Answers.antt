use Rattle.std.proofs.Common.{◌∙◌, arith}
use Rattle.cp_layout.specs.Layers.{layer_seen}
use Rattle.cp_layout.proofs.Systems.{room_step}
use Rattle.cp_layout.proofs.tables.room_of.Goals as goal

pub loop-process-preserved : goal.loop-process-preserved
loop-process-preserved c =
    c.loop-process.invariant
    ∙ room_step (layer_seen c.args.layer.now) c.loop-process.room c.args.processes.now c.loop-process.process-index _ (omega (arith, c.loop-process-test.true)) c.room_for-room.result c.room_for-room.ensures
