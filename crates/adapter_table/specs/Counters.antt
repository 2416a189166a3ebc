-- What a device counts of its connections, and what its host has counted of its interface (Volume 1, chapter 3, Connection Manager
-- object; Volume 2, chapter 5, Ethernet Link object, attributes 4 and 5).
--
--   1 open requests     2 open format rejects    3 open resource rejects   4 open other rejects
--   5 close requests    6 close format rejects   7 close other rejects     8 connection time-outs      16 bits each
--
-- A request is counted once, by its reply: what it asked, and with which status it was refused.
use Rattle.std.specs.Prelude.{ℕ, zero, suc, ◌+◌, ◌%◌, ◌==◌, ◌&&◌, ◌||◌, Bool, true, false, if◌then◌else◌, List, [], ◌∷◌, length, take, drop, replicate, Option, Some, None}
use Rattle.cip_types.specs.Cases.{first_case, first_case_or}
use Rattle.cip_fwdopen.specs.Services.{forward_close, forward_open, large_forward_open}
use Rattle.cip_router.specs.declared.refusal.Refusal.{Refusal}
use Rattle.cip_router.specs.declared.refusal.Refusal.TheVariants as refusal
use Rattle.cip_router.specs.declared.refusal.Status.{Status}
use Rattle.cip_router.specs.declared.refusal.Status.TheVariants as status
use Rattle.cip_router.specs.Replies as replies
use Rattle.cip_router.specs.Replies.{ReplyFields}
use Rattle.cip_router.specs.Requests.{RouterRequestFields, nothing, refused, closing, object, opening}
use Rattle.adapter_table.specs.declared.counters.DeviceCounters.{DeviceCounters}
use Rattle.adapter_table.specs.declared.counters.ManagerCounters.{ManagerCounters}
use Rattle.adapter_table.specs.declared.counters.Tally.{Tally}
use Rattle.adapter_table.specs.declared.counters.Tally.TheVariants as tally

-- COUNTERS

-- so many more: behind 65,535 follows 0
abbrev pub more : (count number : ℕ) → ℕ
more count number = (number + count) % 65536

abbrev pub no_counts : ManagerCounters
no_counts = record { opens = 0; open_formats = 0; open_resources = 0; open_others = 0; closes = 0; close_formats = 0; close_others = 0; time_outs = 0 }

abbrev pub no_counters : DeviceCounters
no_counters = record { manager = no_counts; link = [] }

-- a request is counted
abbrev pub counted : Tally → ManagerCounters → ManagerCounters
counted tally.Opened c = record c { opens = more 1 c.opens }
counted tally.OpenFormat c = record c { opens = more 1 c.opens; open_formats = more 1 c.open_formats }
counted tally.OpenResource c = record c { opens = more 1 c.opens; open_resources = more 1 c.open_resources }
counted tally.OpenOther c = record c { opens = more 1 c.opens; open_others = more 1 c.open_others }
counted tally.Closed c = record c { closes = more 1 c.closes }
counted tally.CloseFormat c = record c { closes = more 1 c.closes; close_formats = more 1 c.close_formats }
counted tally.CloseOther c = record c { closes = more 1 c.closes; close_others = more 1 c.close_others }

abbrev pub counted_if : Option Tally → ManagerCounters → ManagerCounters
counted_if None c = c
counted_if (Some kind) c = counted kind c

-- so many connections have timed out
abbrev pub timed_out : ℕ → ManagerCounters → ManagerCounters
timed_out zero c = c
timed_out (suc count) c = record c { time_outs = more (suc count) c.time_outs }

-- WHAT A REQUEST IS COUNTED AS

-- a refusal of an opening: no connection is left (0x0113), a segment of the path does not read (0x0315), or another reason
abbrev pub open_tally : Refusal → Tally
open_tally refusal.OutOfConnections = tally.OpenResource
open_tally refusal.Segment = tally.OpenFormat
open_tally other = tally.OpenOther

-- the same by the status of the reply
abbrev pub code_tally : Option ℕ → Tally
code_tally None = tally.OpenOther
code_tally (Some code) = first_case_or tally.OpenOther ((code == 0x0113, tally.OpenResource) ∷ (code == 0x0315, tally.OpenFormat) ∷ [])

-- an opening, by its reply
abbrev pub opening_tally : ReplyFields → Tally
opening_tally (replies.opened large o) = tally.Opened
opening_tally (replies.refused service fault triad) = code_tally fault.extended
opening_tally other = tally.OpenOther

-- a close, by its reply
abbrev pub closing_tally : ReplyFields → Tally
closing_tally (replies.closed triad) = tally.Closed
closing_tally other = tally.CloseOther

abbrev pub is_open_service : ℕ → Bool
is_open_service service = service == forward_open || service == large_forward_open

-- data of another length than their fields say (0x13, 0x15)
abbrev pub is_length : Status → Bool
is_length status.NotEnoughData = true
is_length status.TooMuchData = true
is_length other = false

abbrev pub is_unserved : Status → Bool
is_unserved status.Service = true
is_unserved other = false

-- A request of this service that is refused before its data are judged: of a wrong length it has a bad format; where the service
-- is not served (0x08), which a message of a connection meets, it is refused for another reason. With any other status, and of any
-- other service, it asks for no connection.
abbrev pub refused_tally : (service : ℕ) → Status → Option Tally
refused_tally service why = first_case (
    (is_open_service service && is_length why, tally.OpenFormat)
    ∷ (is_open_service service && is_unserved why, tally.OpenOther)
    ∷ (service == forward_close && is_length why, tally.CloseFormat)
    ∷ (service == forward_close && is_unserved why, tally.CloseOther)
    ∷ [])

-- a request by what it asks and by its reply
abbrev pub tally_of : RouterRequestFields → ReplyFields → Option Tally
tally_of nothing reply = None
tally_of (refused service why) reply = refused_tally service why
tally_of (closing request) reply = Some (closing_tally reply)
tally_of (object service class instance attribute body) reply = None
tally_of (opening large request) reply = Some (opening_tally reply)

-- WHAT THE HOST COUNTS

-- the bytes of the counters of an interface: octets, unicast and other packets, discards, errors and unknown protocols in; octets,
-- unicast and other packets, discards and errors out
abbrev pub interface_len : ℕ
interface_len = 44

-- and of those of its medium: alignment and check sequence errors, single and multiple collisions, test errors, deferred
-- transmissions, late and excessive collisions, transmit and carrier errors, frames too long, receive errors
abbrev pub media_len : ℕ
media_len = 48

abbrev pub link_len : ℕ
link_len = interface_len + media_len

-- the counters of an interface: zeros before its host has said any
abbrev pub interface_counters : List ℕ → List ℕ
interface_counters link = if length link == link_len then take interface_len link else replicate interface_len 0

-- those of its medium
abbrev pub media_counters : List ℕ → List ℕ
media_counters link = if length link == link_len then drop interface_len link else replicate media_len 0
