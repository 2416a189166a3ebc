-- Facts of the connections of a whole table.
use Rattle.std.proofs.Common.{List, subst}
use Rattle.adapter_table.specs.Connections.{Row}
use Rattle.adapter_table.specs.Sound.{TriadsDiffer, OpeningsRise}
use Rattle.adapter_table.specs.Whole.{RowsFit}
use Rattle.indexed_connections.specs.List.Tables.{AreWhole}

pub whole_triads : (rows : List Row) → AreWhole rows → TriadsDiffer rows
whole_triads rows whole = subst TriadsDiffer whole.same whole.whole.sound.triads_differ

pub whole_fit : (rows : List Row) → AreWhole rows → RowsFit rows
whole_fit rows whole = subst RowsFit whole.same whole.whole.fits

pub whole_rise : (rows : List Row) → AreWhole rows → OpeningsRise rows
whole_rise rows whole = subst OpeningsRise whole.same whole.whole.sound.producers.openings_rise
