-- Facts of the connections of a whole table.
use Rattle.std.proofs.Common.{◌≡◌, List, Option, Some, None, refl, subst}
use Rattle.cip_types.specs.declared.names.Triad.{Triad}
use Rattle.adapter_table.specs.Connections.{Row}
use Rattle.adapter_table.specs.Sound.{IdsDiffer}
use Rattle.indexed_connections.specs.List.Tables.{AreWhole}
use Rattle.indexed_connections.specs.List.Replacing.{left_by}
use Rattle.conn_slab.specs.Connections.{AreConnections, without}

pub whole_connections : (rows : List Row) → AreWhole rows → AreConnections rows
whole_connections rows whole =
    subst AreConnections whole.same
    (record {
      few = whole.whole.sound.few;
      triads = whole.whole.sound.triads_differ;
      ids = whole.whole.sound.ids_differ;
      fit = whole.whole.fits;
      agree = whole.whole.sound.groups_agree;
      share = whole.whole.sound.producers.shared;
    })

pub whole_ids : (rows : List Row) → AreWhole rows → IdsDiffer rows
whole_ids rows whole = subst IdsDiffer whole.same whole.whole.sound.ids_differ

-- the connections without the one that is replaced
pub same_left : (removed : Option Triad) (rows : List Row) → without removed rows ≡ left_by removed rows
same_left None rows = refl
same_left (Some triad) rows = refl
