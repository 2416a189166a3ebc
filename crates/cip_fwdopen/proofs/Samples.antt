-- What worked requests and replies say.
use Rattle.std.proofs.Common.{◌≡◌, ℕ, List, [], ◌∷◌, ◌++◌, take, Some, None, Ok, Err, true, false, refl}
use Rattle.cip_types.specs.declared.Fault.{Fault}
use Rattle.cip_types.specs.declared.Triad.{Triad}
use Rattle.cip_netparams.specs.declared.NetParams.{NetParams}
use Rattle.cip_netparams.specs.declared.Priority.TheVariants.{Scheduled}
use Rattle.cip_netparams.specs.declared.ConnectionType.TheVariants.{PointToPoint}
use Rattle.cip_netparams.specs.Word.{params16, params32}
use Rattle.cip_epath.specs.declared.fault.PathFault.TheVariants.{Shape}
use Rattle.cip_epath.specs.Reading.{value_at, logical_at, segment_at, segments_at, target_reading}
use Rattle.cip_fwdopen.specs.declared.fault.ReadFault.TheVariants.{NotEnough, TooMuch, Path}
use Rattle.cip_fwdopen.specs.declared.reply.Opened.{Opened}
use Rattle.cip_fwdopen.specs.Request.{request_reading}
use Rattle.cip_fwdopen.specs.Open.{OpenFields, open_text, open_reading}
use Rattle.cip_fwdopen.specs.Reply.{opened_text, opened_reply, refused_text, refused_reply, intervals_words, intervals_text, unread_reading, open_reply_reading}
use Rattle.cip_fwdopen.specs.Close.{CloseFields, close_text, close_reading, closed_text, closed_reply, refused_close, close_reply_reading}
use Rattle.cip_fwdopen.specs.Get.{get_text, got_text, got_reply, refused_get, get_reply_reading}

-- the first connection of an originator, and its fifth
abbrev first : Triad
first = record { serial = 1; vendor = 0x1234; originator = 0x1234_5678 }

abbrev fifth : Triad
fifth = record { serial = 5; vendor = 0x1234; originator = 0x1234_5678 }

-- ---- requests

-- the data of a Forward_Open
abbrev open_bytes : List ℕ
open_bytes = 0x0A ∷ 0x0E ∷ 0 ∷ 0 ∷ 0 ∷ 0 ∷ 0x01 ∷ 0 ∷ 0 ∷ 0x20 ∷ 0x01 ∷ 0 ∷ 0x34 ∷ 0x12 ∷ 0x78 ∷ 0x56 ∷ 0x34 ∷ 0x12 ∷ 0x02 ∷ 0 ∷ 0 ∷ 0 ∷ 0x10 ∷ 0x27 ∷ 0 ∷ 0 ∷ 0x0A ∷ 0x48 ∷ 0x10 ∷ 0x27 ∷ 0 ∷ 0 ∷ 0x06 ∷ 0x48 ∷ 0x01 ∷ 0x04 ∷ 0x20 ∷ 0x04 ∷ 0x24 ∷ 0x97 ∷ 0x2C ∷ 0x96 ∷ 0x2C ∷ 0x64 ∷ []

-- the same, of a Large_Forward_Open
abbrev large_bytes : List ℕ
large_bytes = 0x0A ∷ 0x0E ∷ 0 ∷ 0 ∷ 0 ∷ 0 ∷ 0x01 ∷ 0 ∷ 0 ∷ 0x20 ∷ 0x01 ∷ 0 ∷ 0x34 ∷ 0x12 ∷ 0x78 ∷ 0x56 ∷ 0x34 ∷ 0x12 ∷ 0x02 ∷ 0 ∷ 0 ∷ 0 ∷ 0x10 ∷ 0x27 ∷ 0 ∷ 0 ∷ 0x0A ∷ 0 ∷ 0 ∷ 0x48 ∷ 0x10 ∷ 0x27 ∷ 0 ∷ 0 ∷ 0x06 ∷ 0 ∷ 0 ∷ 0x48 ∷ 0x01 ∷ 0x04 ∷ 0x20 ∷ 0x04 ∷ 0x24 ∷ 0x97 ∷ 0x2C ∷ 0x96 ∷ 0x2C ∷ 0x64 ∷ []

-- scheduled, point to point, of a fixed size
abbrev sized : ℕ → NetParams
sized size = record { size = size; variable = false; priority = Scheduled; kind = PointToPoint; redundant = false }

abbrev opening : OpenFields
opening = record {
  priority_tick = 0x0A;
  ticks = 0x0E;
  o_t_id = record { 0 = 0 };
  t_o_id = record { 0 = 0x2000_0001 };
  triad = first;
  multiplier = 2;
  o_t_rpi = 10000;
  o_t_params = sized 10;
  t_o_rpi = 10000;
  t_o_params = sized 6;
  trigger = 1;
  path = 0x20 ∷ 0x04 ∷ 0x24 ∷ 0x97 ∷ 0x2C ∷ 0x96 ∷ 0x2C ∷ 0x64 ∷ [];
}

pub open_read : open_reading false open_bytes ≡ Ok opening
unfolding open_reading params16
open_read = refl

pub large_read : open_reading true large_bytes ≡ Ok opening
unfolding open_reading params32
large_read = refl

pub open_written : open_text false opening ≡ open_bytes
unfolding open_text
open_written = refl

pub large_written : open_text true opening ≡ large_bytes
unfolding open_text
large_written = refl

-- long parameters are not read by the short layout
pub large_by_the_short_layout : open_reading false large_bytes ≡ Err TooMuch
unfolding open_reading
large_by_the_short_layout = refl

pub no_open : open_reading false [] ≡ Err NotEnough
unfolding open_reading
no_open = refl

pub open_without_path : open_reading false (take 34 open_bytes) ≡ Err NotEnough
unfolding open_reading
open_without_path = refl

pub open_cut : open_reading false (take 43 open_bytes) ≡ Err NotEnough
unfolding open_reading
open_cut = refl

pub open_with_a_byte_behind : open_reading false (open_bytes ++ 0 ∷ []) ≡ Err TooMuch
unfolding open_reading
open_with_a_byte_behind = refl

pub request_read : request_reading (0x54 ∷ 2 ∷ 0x20 ∷ 6 ∷ 0x24 ∷ 1 ∷ 0x0A ∷ 0x0E ∷ []) ≡ Ok (record { service = 0x54; target = record { class = 6; instance = 1; attribute = None }; body = 0x0A ∷ 0x0E ∷ [] })
unfolding request_reading target_reading segments_at segment_at logical_at value_at
request_read = refl

pub no_request : request_reading [] ≡ Err NotEnough
unfolding request_reading
no_request = refl

pub request_cut : request_reading (0x54 ∷ 2 ∷ 0x20 ∷ 6 ∷ 0x24 ∷ []) ≡ Err NotEnough
unfolding request_reading
request_cut = refl

pub request_of_no_instance : request_reading (0x54 ∷ 1 ∷ 0x20 ∷ 6 ∷ []) ≡ Err (Path Shape)
unfolding request_reading target_reading segments_at segment_at logical_at value_at
request_of_no_instance = refl

-- the data of a Forward_Close
abbrev close_bytes : List ℕ
close_bytes = 0x0A ∷ 0x0E ∷ 0x05 ∷ 0 ∷ 0x34 ∷ 0x12 ∷ 0x78 ∷ 0x56 ∷ 0x34 ∷ 0x12 ∷ 0x04 ∷ 0 ∷ 0x20 ∷ 0x04 ∷ 0x24 ∷ 0x97 ∷ 0x2C ∷ 0x98 ∷ 0x2C ∷ 0x64 ∷ []

abbrev closing : CloseFields
closing = record { priority_tick = 0x0A; ticks = 0x0E; triad = fifth; path = 0x20 ∷ 0x04 ∷ 0x24 ∷ 0x97 ∷ 0x2C ∷ 0x98 ∷ 0x2C ∷ 0x64 ∷ [] }

pub close_read : close_reading close_bytes ≡ Ok closing
unfolding close_reading
close_read = refl

pub close_written : close_text closing ≡ close_bytes
unfolding close_text
close_written = refl

pub close_without_path : close_reading (take 11 close_bytes) ≡ Err NotEnough
unfolding close_reading
close_without_path = refl

pub close_cut : close_reading (take 19 close_bytes) ≡ Err NotEnough
unfolding close_reading
close_cut = refl

pub close_with_a_byte_behind : close_reading (0 ∷ 0 ∷ 0 ∷ 0 ∷ 0 ∷ 0 ∷ 0 ∷ 0 ∷ 0 ∷ 0 ∷ 0 ∷ 0 ∷ 0 ∷ []) ≡ Err TooMuch
unfolding close_reading
close_with_a_byte_behind = refl

pub get_written : get_text (record { class = 4; instance = 150; attribute = Some 3 }) ≡ 0x0E ∷ 3 ∷ 0x20 ∷ 4 ∷ 0x24 ∷ 0x96 ∷ 0x30 ∷ 3 ∷ []
unfolding get_text
get_written = refl

-- ---- replies to a request to open

abbrev opened : Opened
opened = record { o_t_id = record { 0 = 0x1000_0001 }; t_o_id = record { 0 = 0x2000_0001 }; triad = first; o_t_api_us = 10000; t_o_api_us = 10000 }

-- what follows the service byte of a success
abbrev opened_bytes : List ℕ
opened_bytes = 0 ∷ 0 ∷ 0 ∷ 0x01 ∷ 0 ∷ 0 ∷ 0x10 ∷ 0x01 ∷ 0 ∷ 0 ∷ 0x20 ∷ 0x01 ∷ 0 ∷ 0x34 ∷ 0x12 ∷ 0x78 ∷ 0x56 ∷ 0x34 ∷ 0x12 ∷ 0x10 ∷ 0x27 ∷ 0 ∷ 0 ∷ 0x10 ∷ 0x27 ∷ 0 ∷ 0 ∷ 0 ∷ 0 ∷ []

-- the connection is in use
abbrev in_use : Fault
in_use = record { general = 1; extended = Some 0x0100 }

-- the refusal of a Forward_Open
abbrev refused_bytes : List ℕ
refused_bytes = 0xD4 ∷ 0 ∷ 0x01 ∷ 0x01 ∷ 0 ∷ 0x01 ∷ 0x01 ∷ 0 ∷ 0x34 ∷ 0x12 ∷ 0x78 ∷ 0x56 ∷ 0x34 ∷ 0x12 ∷ 0 ∷ 0 ∷ []

pub opened_written : opened_text false opened ≡ 0xD4 ∷ opened_bytes
unfolding opened_text
opened_written = refl

pub large_opened_written : opened_text true opened ≡ 0xDB ∷ opened_bytes
unfolding opened_text
large_opened_written = refl

pub opened_read : open_reply_reading (0xD4 ∷ opened_bytes) ≡ Ok (opened_reply false opened)
unfolding open_reply_reading unread_reading
opened_read = refl

pub opened_cut : open_reply_reading (0xD4 ∷ take 28 opened_bytes) ≡ Err NotEnough
unfolding open_reply_reading unread_reading
opened_cut = refl

pub opened_with_bytes_behind : open_reply_reading (0xD4 ∷ (opened_bytes ++ 0 ∷ 0 ∷ [])) ≡ Err TooMuch
unfolding open_reply_reading unread_reading
opened_with_bytes_behind = refl

-- a word of an application reply is left aside
pub opened_with_a_word : open_reply_reading (0xD4 ∷ (take 27 opened_bytes ++ 1 ∷ 0 ∷ 7 ∷ 7 ∷ [])) ≡ Ok (opened_reply false opened)
unfolding open_reply_reading unread_reading
opened_with_a_word = refl

pub refused_written : refused_text 0x54 in_use (Some first) ≡ refused_bytes
unfolding refused_text
refused_written = refl

-- a T->O interval that is too short: the least one is 2,000 us, and the O->T one of 10,000 us is accepted
pub intervals_written :
    intervals_text 0x54 (record { o_t_says = 0; t_o_says = 2; o_t_us = 10_000; t_o_us = 2_000 }) (Some first)
    ≡ 0xD4 ∷ 0 ∷ 1 ∷ 6 ∷ 0x12 ∷ 1 ∷ 0 ∷ 2 ∷ 0x10 ∷ 0x27 ∷ 0 ∷ 0 ∷ 0xD0 ∷ 7 ∷ 0 ∷ 0 ∷ 1 ∷ 0 ∷ 0x34 ∷ 0x12 ∷ 0x78 ∷ 0x56 ∷ 0x34 ∷ 0x12 ∷ 0 ∷ 0 ∷ []
unfolding intervals_text intervals_words
intervals_written = refl

-- a scanner reads the extended status, and not the words behind it
pub intervals_read : open_reply_reading (intervals_text 0x54 (record { o_t_says = 0; t_o_says = 2; o_t_us = 10_000; t_o_us = 2_000 }) (Some first)) ≡ Ok (refused_reply 0x54 (record { general = 1; extended = Some 0x0112 }) (Some first))
unfolding intervals_text intervals_words open_reply_reading unread_reading
intervals_read = refl

pub refused_bare_written : refused_text 0x54 (record { general = 0x13; extended = None }) None ≡ 0xD4 ∷ 0 ∷ 0x13 ∷ 0 ∷ []
unfolding refused_text
refused_bare_written = refl

pub refused_read : open_reply_reading refused_bytes ≡ Ok (refused_reply 0x54 in_use (Some first))
unfolding open_reply_reading unread_reading
refused_read = refl

pub refused_without_path_size : open_reply_reading (take 14 refused_bytes) ≡ Ok (refused_reply 0x54 in_use (Some first))
unfolding open_reply_reading unread_reading
refused_without_path_size = refl

pub refused_bare : open_reply_reading (take 6 refused_bytes) ≡ Ok (refused_reply 0x54 in_use None)
unfolding open_reply_reading unread_reading
refused_bare = refl

pub refused_within_its_words : open_reply_reading (take 5 refused_bytes) ≡ Err NotEnough
unfolding open_reply_reading unread_reading
refused_within_its_words = refl

pub refused_with_1 : open_reply_reading (take 7 refused_bytes) ≡ Err NotEnough
unfolding open_reply_reading unread_reading
refused_with_1 = refl

pub refused_with_9 : open_reply_reading (take 15 refused_bytes) ≡ Err NotEnough
unfolding open_reply_reading unread_reading
refused_with_9 = refl

pub refused_with_11 : open_reply_reading (refused_bytes ++ 0 ∷ []) ≡ Err TooMuch
unfolding open_reply_reading unread_reading
refused_with_11 = refl

-- of two additional words the first is kept
pub refused_with_two_words : open_reply_reading (0xD4 ∷ 0 ∷ 0x01 ∷ 0x02 ∷ 0 ∷ 0x01 ∷ 0x07 ∷ 0x01 ∷ []) ≡ Ok (refused_reply 0x54 in_use None)
unfolding open_reply_reading unread_reading
refused_with_two_words = refl

-- ---- replies to a request to close

-- a connection that is closed
abbrev closed_bytes : List ℕ
closed_bytes = 0xCE ∷ 0 ∷ 0 ∷ 0 ∷ 0x05 ∷ 0 ∷ 0x34 ∷ 0x12 ∷ 0x78 ∷ 0x56 ∷ 0x34 ∷ 0x12 ∷ 0 ∷ 0 ∷ []

-- no such connection
abbrev missing : Fault
missing = record { general = 1; extended = Some 0x0107 }

abbrev unclosed_bytes : List ℕ
unclosed_bytes = 0xCE ∷ 0 ∷ 0x01 ∷ 0x01 ∷ 0x07 ∷ 0x01 ∷ 0x01 ∷ 0 ∷ 0x34 ∷ 0x12 ∷ 0x78 ∷ 0x56 ∷ 0x34 ∷ 0x12 ∷ 0 ∷ 0 ∷ []

pub closed_written : closed_text fifth ≡ closed_bytes
unfolding closed_text
closed_written = refl

pub closed_read : close_reply_reading closed_bytes ≡ Ok (closed_reply fifth)
unfolding close_reply_reading unread_reading
closed_read = refl

pub closed_cut : close_reply_reading (take 13 closed_bytes) ≡ Err NotEnough
unfolding close_reply_reading unread_reading
closed_cut = refl

pub closed_with_bytes_behind : close_reply_reading (closed_bytes ++ 0 ∷ 0 ∷ []) ≡ Err TooMuch
unfolding close_reply_reading unread_reading
closed_with_bytes_behind = refl

pub closed_with_a_word : close_reply_reading (take 12 closed_bytes ++ 1 ∷ 0 ∷ 7 ∷ 7 ∷ []) ≡ Ok (closed_reply fifth)
unfolding close_reply_reading unread_reading
closed_with_a_word = refl

pub unclosed_read : close_reply_reading unclosed_bytes ≡ Ok (refused_close 0x4E missing (Some first))
unfolding close_reply_reading unread_reading
unclosed_read = refl

pub unclosed_written : refused_text 0x4E missing (Some first) ≡ unclosed_bytes
unfolding refused_text
unclosed_written = refl

pub unclosed_with_9 : close_reply_reading (take 15 unclosed_bytes) ≡ Err NotEnough
unfolding close_reply_reading unread_reading
unclosed_with_9 = refl

-- ---- replies to a request for a value

abbrev value_bytes : List ℕ
value_bytes = 0x11 ∷ 0x22 ∷ 0x33 ∷ 0x44 ∷ []

-- no such attribute, before its data
abbrev no_attribute : List ℕ
no_attribute = 0x8E ∷ 0 ∷ 0x14 ∷ 0 ∷ []

abbrev ten : List ℕ
ten = 0x01 ∷ 0 ∷ 0x34 ∷ 0x12 ∷ 0x78 ∷ 0x56 ∷ 0x34 ∷ 0x12 ∷ 0 ∷ 0 ∷ []

pub got_written : got_text value_bytes ≡ 0x8E ∷ 0 ∷ 0 ∷ 0 ∷ value_bytes
unfolding got_text
got_written = refl

pub got_read : get_reply_reading (0x8E ∷ 0 ∷ 0 ∷ 0 ∷ value_bytes) ≡ Ok (got_reply value_bytes)
unfolding get_reply_reading unread_reading
got_read = refl

pub got_cut : get_reply_reading (0x8E ∷ 0 ∷ 0 ∷ []) ≡ Err NotEnough
unfolding get_reply_reading unread_reading
got_cut = refl

pub ungot_read : get_reply_reading no_attribute ≡ Ok (refused_get 0x0E (record { general = 0x14; extended = None }))
unfolding get_reply_reading unread_reading
ungot_read = refl

pub ungot_with_1 : get_reply_reading (no_attribute ++ take 1 ten) ≡ Err NotEnough
unfolding get_reply_reading unread_reading
ungot_with_1 = refl

pub ungot_with_7 : get_reply_reading (no_attribute ++ take 7 ten) ≡ Err NotEnough
unfolding get_reply_reading unread_reading
ungot_with_7 = refl

-- the connection that a failure names is not kept
pub ungot_with_8 : get_reply_reading (no_attribute ++ take 8 ten) ≡ Ok (refused_get 0x0E (record { general = 0x14; extended = None }))
unfolding get_reply_reading unread_reading
ungot_with_8 = refl

pub ungot_with_9 : get_reply_reading (no_attribute ++ take 9 ten) ≡ Err NotEnough
unfolding get_reply_reading unread_reading
ungot_with_9 = refl

pub ungot_with_10 : get_reply_reading (no_attribute ++ ten) ≡ Ok (refused_get 0x0E (record { general = 0x14; extended = None }))
unfolding get_reply_reading unread_reading
ungot_with_10 = refl

pub ungot_with_11 : get_reply_reading (no_attribute ++ (ten ++ 0 ∷ [])) ≡ Err TooMuch
unfolding get_reply_reading unread_reading
ungot_with_11 = refl
