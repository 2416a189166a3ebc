-- What the cell of a handle owns.
use Rattle.std.specs.Prelude.{Option, Some, None}
use Rattle.std.specs.Borrow.{Fml}
use Rattle.std.specs.declared.alloc.Global.{Global}
use Rattle.std.specs.contracts.impls.GlobalAllocator.TheImpl.{ghosts}
use Rattle.std_alloc.specs.Box.Ownership.{box_owns}
use base.Fml.{ftrue}
use denote.RawPtr.{Ptr}
use Rattle.eip_c.specs.contracts.answered_device.AnsweredDevice.{the_row}
use Rattle.eip_c.specs.declared.answered_device.AnsweredDevice.{AnsweredDevice}

-- a device's memory, as the handle of that device owns it; or nothing
abbrev pub cell_owns : Global → Ptr → Option AnsweredDevice → Fml
cell_owns alloc at None = ftrue
cell_owns alloc at (Some value) = box_owns (ghosts.dealloc_token alloc) the_row at value
