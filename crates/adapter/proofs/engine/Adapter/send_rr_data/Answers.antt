use Rattle.std.proofs.Common.{◌≡◌, true, rules}
use Rattle.std.proofs.lemmas.Bool.{and_parts}
use Rattle.adapter_table.specs.Streams.{has_session}
use Rattle.adapter.proofs.engine.Adapter.send_rr_data.Goals as goal

pub serve-requires : goal.serve-requires
serve-requires g c =
    let has : has_session c.args.stream.now c.args.request_header.session ≡ true = search rules in
    c.requires (and_parts c.args.stream.now.registered _ has).0
