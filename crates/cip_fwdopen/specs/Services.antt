-- The service codes of requests (Volume 1, appendix A, explicit messaging services, and chapter 3, Connection
-- Manager services).
use Rattle.std.specs.Prelude.{ℕ, ◌==◌, Bool, true, false, Option, Some, None, if◌then◌else◌}
use Rattle.cip_fwdopen.specs.declared.open_service.OpenService.{OpenService}
use Rattle.cip_fwdopen.specs.declared.open_service.OpenService.TheVariants.{ForwardOpen, LargeForwardOpen}

abbrev pub get_attribute_single : ℕ
get_attribute_single = 0x0E

abbrev pub forward_close : ℕ
forward_close = 0x4E

abbrev pub forward_open : ℕ
forward_open = 0x54

abbrev pub large_forward_open : ℕ
large_forward_open = 0x5B

abbrev pub is_large_open : OpenService → Bool
is_large_open ForwardOpen = false
is_large_open LargeForwardOpen = true

-- the code of a service that opens a connection: Large_Forward_Open or Forward_Open
abbrev pub open_service : Bool → ℕ
open_service large = if large then large_forward_open else forward_open

-- the service of a code, if it opens a connection: whether it is Large_Forward_Open
abbrev pub open_service_of : ℕ → Option Bool
open_service_of code = if code == forward_open then Some false else if code == large_forward_open then Some true else None
