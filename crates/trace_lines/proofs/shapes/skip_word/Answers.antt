use Rattle.trace_lines.specs.declared.shapes.WordKind.TheVariants as word
use Rattle.trace_lines.proofs.Skipping.{skips}
use Rattle.trace_lines.proofs.shapes.skip_word.Goals as goal

pub returns-in-U8 : goal.returns-in-U8
returns-in-U8 c = rw (c.in-U8.is, c.skipped.ensures) (skips word.U8 _ _ _ c.u8.ensures)

pub returns-in-U16 : goal.returns-in-U16
returns-in-U16 c = rw (c.in-U16.is, c.skipped-in-U16.ensures) (skips word.U16 _ _ _ c.u16.ensures)

pub returns-in-U32 : goal.returns-in-U32
returns-in-U32 c = rw (c.in-U32.is, c.skipped-in-U32.ensures) (skips word.U32 _ _ _ c.u32.ensures)

pub returns-in-U64 : goal.returns-in-U64
returns-in-U64 c = rw (c.in-U64.is, c.skipped-in-U64.ensures) (skips word.U64 _ _ _ c.u64.ensures)

pub returns-in-Instance : goal.returns-in-Instance
returns-in-Instance c = rw (c.in-Instance.is, c.skipped-in-Instance.ensures) (skips word.Instance _ _ _ c.u32_or_none.ensures)

pub returns-in-Address : goal.returns-in-Address
returns-in-Address c = rw (c.in-Address.is, c.skipped-in-Address.ensures) (skips word.Address _ _ _ c.node.ensures)

pub returns-in-Addresses : goal.returns-in-Addresses
returns-in-Addresses c = rw (c.in-Addresses.is, c.skipped-in-Addresses.ensures) (skips word.Addresses _ _ _ c.nodes.ensures)

pub returns-in-Hex : goal.returns-in-Hex
returns-in-Hex c = rw (c.in-Hex.is, c.skipped-in-Hex.ensures) (skips word.Hex _ _ _ c.bytes.ensures)

pub returns-in-ElectronicKey : goal.returns-in-ElectronicKey
returns-in-ElectronicKey c = rw (c.in-ElectronicKey.is, c.skipped-in-ElectronicKey.ensures) (skips word.ElectronicKey _ _ _ c.read_key.ensures)

pub returns-in-GeneralStatus : goal.returns-in-GeneralStatus
returns-in-GeneralStatus c = rw (c.in-GeneralStatus.is, c.skipped-in-GeneralStatus.ensures) (skips word.GeneralStatus _ _ _ c.general.ensures)

pub returns-in-Action : goal.returns-in-Action
returns-in-Action c = rw (c.in-Action.is, c.skipped-in-Action.ensures) (skips word.Action _ _ _ c.read_action.ensures)

pub returns-in-Mode : goal.returns-in-Mode
returns-in-Mode c = rw (c.in-Mode.is, c.skipped-in-Mode.ensures) (skips word.Mode _ _ _ c.read_mode.ensures)

pub returns-in-ApplicationType : goal.returns-in-ApplicationType
returns-in-ApplicationType c = rw (c.in-ApplicationType.is, c.skipped-in-ApplicationType.ensures) (skips word.ApplicationType _ _ _ c.read_kind.ensures)

pub returns-in-ConnectionType : goal.returns-in-ConnectionType
returns-in-ConnectionType c = rw (c.in-ConnectionType.is, c.skipped-in-ConnectionType.ensures) (skips word.ConnectionType _ _ _ c.read_multicast.ensures)

pub returns-in-Trigger : goal.returns-in-Trigger
returns-in-Trigger c = rw (c.in-Trigger.is, c.skipped-in-Trigger.ensures) (skips word.Trigger _ _ _ c.read_trigger.ensures)

pub returns-in-Closers : goal.returns-in-Closers
returns-in-Closers c = rw (c.in-Closers.is, c.skipped-in-Closers.ensures) (skips word.Closers _ _ _ c.read_closers.ensures)

pub returns-in-Openings : goal.returns-in-Openings
returns-in-Openings c = rw (c.in-Openings.is, c.skipped-in-Openings.ensures) (skips word.Openings _ _ _ c.read_openings.ensures)
