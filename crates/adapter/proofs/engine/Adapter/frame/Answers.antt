use Rattle.std.proofs.Common.{◌≡◌, find, Some, rules}
use Rattle.adapter_table.specs.Streams.{is_stream}
use Rattle.adapter_table.specs.Lemmas.RequestLemmas.{found_open}
use Rattle.adapter.proofs.engine.Adapter.frame.Goals as goal

pub receive_frame-requires : goal.receive_frame-requires
receive_frame-requires g c =
    let found : find (is_stream c.args.number) c.args.self.now.streams ≡ Some c.in-Some.stream = search rules in
    found_open c.args.self.now c.args.number c.in-Some.stream found
