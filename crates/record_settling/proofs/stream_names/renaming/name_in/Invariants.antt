use Rattle.std.proofs.Common.{◌≡◌, None, drop}
use Rattle.record_settling.specs.StreamNames.Names.{last_name}
use Rattle.record_settling.proofs.stream_names.renaming.name_in.Given as goal

abbrev pub invariant-loop-name : goal.invariant-loop-name
invariant-loop-name l = last_name (drop l.name-index l.names) l.stream l.last ≡ last_name l.names l.stream None
