use Rattle.std.proofs.Common.{◌≡◌, ◌++◌, drop}
use Rattle.std.specs.List.{flat_map}
use Rattle.messaging.specs.Times.{without_late_class3_connections}
use Rattle.adapter_table.specs.Ticks.{late_frames}
use Rattle.adapter_replies.proofs.own.frames_of.Given as goal

abbrev pub invariant-loop-request : goal.invariant-loop-request
invariant-loop-request l =
    l.frames.items ++ flat_map (late_frames (without_late_class3_connections l.clock l.messaging)) (drop l.request-index l.late)
    ≡ flat_map (late_frames (without_late_class3_connections l.clock l.messaging)) l.late
