-- How a device enters the cell of a handle, and leaves it.
use Rattle.std.specs.Prelude.{◌≡◌, Option, Some, None}
use denote.RawPtr.{Ptr}
use Rattle.std.specs.declared.alloc.Global.{Global}
use Rattle.std_alloc.specs.declared.boxed.Box.{Box}
use Rattle.eip_c.specs.declared.answered_device.AnsweredDevice.{AnsweredDevice}
use Rattle.eip_c.specs.declared.handle.HandleCell.{HandleCell}

-- a handle, as a contract sees it
pub record HandleFields : Type 0 where
  pub at : Ptr
  pub alloc : Global
  pub value : AnsweredDevice

abbrev pub Boxed : Type 0
Boxed = Box AnsweredDevice Global

-- A device is taken only where one stands.
abbrev pub MayExchange : HandleCell → Option Boxed → Type 0
MayExchange cell (Some new) = Unit {0}
MayExchange cell None = cell.value ≡ Some cell.last

-- A new device is stored, and nothing comes back; or the device of the cell comes back.
abbrev pub Exchanges : HandleCell → Option Boxed → HandleCell → Option Boxed → Type 0
Exchanges old (Some new) cell None = (cell.value ≡ Some new.value) × (cell.last ≡ new.value)
Exchanges old None cell (Some taken) = taken.value ≡ old.last
Exchanges old new cell taken = ⊥
