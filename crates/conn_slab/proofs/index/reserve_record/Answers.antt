use Rattle.std.proofs.Common.{refl}
use Rattle.conn_slab.proofs.Lookups.{kept}
use Rattle.conn_slab.proofs.index.reserve_record.Goals as goal

pub returns-in_err-reserve-clause-filed : goal.returns-in_err-reserve-clause-filed
returns-in_err-reserve-clause-filed c =
    kept c.args.records.now c.args.by_triad.now.entries c.args.by_source.now.entries c.requires _ _ _ c.reserve.ensures.rest_kept refl refl

pub returns-in_err-reserve-2-clause-filed : goal.returns-in_err-reserve-2-clause-filed
returns-in_err-reserve-2-clause-filed c =
    kept c.args.records.now c.args.by_triad.now.entries c.args.by_source.now.entries c.requires _ _ _ c.reserve.ensures.rest_kept c.reserve-2.ensures.entries refl

pub returns-in_err-reserve-3-clause-filed : goal.returns-in_err-reserve-3-clause-filed
returns-in_err-reserve-3-clause-filed c =
    kept c.args.records.now c.args.by_triad.now.entries c.args.by_source.now.entries c.requires _ _ _ c.reserve.ensures.rest_kept c.reserve-2.ensures.entries c.reserve-3.ensures.entries

pub returns-clause-filed : goal.returns-clause-filed
returns-clause-filed c =
    kept c.args.records.now c.args.by_triad.now.entries c.args.by_source.now.entries c.requires _ _ _ c.reserve.ensures.rest_kept c.reserve-2.ensures.entries c.reserve-3.ensures.entries
