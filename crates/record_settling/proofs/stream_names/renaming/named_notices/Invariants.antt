use Rattle.std.proofs.Common.{◌≡◌, map, take}
use Rattle.record_settling.specs.StreamNames.Names.{named_notice}
use Rattle.record_settling.proofs.stream_names.renaming.named_notices.Given as goal

abbrev pub invariant-loop-notice : goal.invariant-loop-notice
invariant-loop-notice l = l.out.items ≡ map (named_notice l.names) (take l.notice-index l.notices)
