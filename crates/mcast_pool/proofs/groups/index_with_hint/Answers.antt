use Rattle.std.proofs.Common.{◌≡◌, ◌<◌, true, length, rules}
use Rattle.mcast_pool.proofs.Places.{index_by_hint}
use Rattle.mcast_pool.proofs.groups.index_with_hint.Goals as goal

pub returns : goal.returns
returns c =
    let within : c.args.hint < length c.args.groups.now = search rules in
    let has : c.has_number.result ≡ true = search rules in
    index_by_hint c.args.number c.args.groups.now c.args.hint _ c.has_number.result c.requires within c.has_number.ensures has
