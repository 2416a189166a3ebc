-- The requests of a scanner are short, since each path and its configuration data are.
use Rattle.std.proofs.Common.{◌≡◌, ◌≤◌, ℕ, ◌+◌, ltb, Bool, true, false, List, [], ◌∷◌, ◌++◌, length, map, Option, Some, None, refl, arith, length-append}
use Rattle.std.specs.Prelude.{option_to_list}
use Rattle.std.specs.Int.{w16, w32, to_le_bytes}
use Rattle.std.specs.List.{flat_map}
use Rattle.cip_types.specs.declared.names.Triad.{Triad}
use Rattle.cip_types.specs.Fields.{fields_text}
use Rattle.cip_epath.specs.declared.segment.LogicalType.{LogicalType}
use Rattle.cip_epath.specs.declared.segment.LogicalType.TheVariants.{Class, Instance, ConnectionPoint}
use Rattle.cip_epath.specs.Path.{PathFields}
use Rattle.cip_epath.specs.Segment.{SegmentValue, logical, key, bytes, inhibit, logical_byte}
use Rattle.cip_epath.specs.Written.{segment_text, path_text, target_text}
use Rattle.cip_fwdopen.specs.Open.{open_widths, open_numbers, open_text}
use Rattle.cip_fwdopen.specs.Close.{close_widths, close_numbers, close_text}
use Rattle.cip_router.specs.ReplyLaws.{items_length}
use Rattle.conn_state.specs.declared.names.Requested.{Requested}
use Rattle.scanner_table.specs.declared.profile.ScannerProfile.{ScannerProfile}
use Rattle.scanner_table.specs.declared.profile.SlotConfig.{SlotConfig}
use Rattle.scanner_table.specs.declared.table.Session.{Session}
use Rattle.cip_fwdopen.specs.Services.{open_service}
use Rattle.scanner_table.specs.Requests.{segment_of, slot_path, open_fields, close_fields, opening, closing, requesting, Sent, manager, manager_text, request_data, sent_message, sent_frame, registration, numbered}
use Rattle.answer_sizes.specs.Sizes.{IsShortFrame}
use Rattle.answer_sizes.proofs.Answers.{message_short}
use Rattle.answer_sizes.proofs.Few.{either}

-- ---- paths

-- the configuration is short
abbrev pub HasFewData : SlotConfig → Type 0
HasFewData config = length config.config_data ≤ 400

-- a number takes at most 6 bytes
number_few : (kind : LogicalType) (value : ℕ) → length (segment_text (logical kind value)) ≤ 6
number_few kind value =
    either (λ (text : List ℕ). length text ≤ 6) (ltb value 256) _ _ (omega arith)
    (either (λ (text : List ℕ). length text ≤ 6) (ltb value 65536) (logical_byte kind 1 ∷ 0 ∷ to_le_bytes w16 value) (logical_byte kind 2 ∷ 0 ∷ to_le_bytes w32 value) (omega arith) (omega arith))

-- the bytes of some segments
abbrev bytes_of : List SegmentValue → ℕ
bytes_of ss = length (flat_map segment_text ss)

bytes_append : (ss ts : List SegmentValue) → bytes_of (ss ++ ts) ≡ bytes_of ss + bytes_of ts
bytes_append [] ts = omega arith
bytes_append (s ∷ ss) ts =
    omega (arith, length-append (segment_text s) (flat_map segment_text (ss ++ ts)), length-append (segment_text s) (flat_map segment_text ss), bytes_append ss ts)

bytes_more : (kind : LogicalType) (value : ℕ) (ss : List SegmentValue) → bytes_of (logical kind value ∷ ss) ≤ 6 + bytes_of ss
bytes_more kind value ss = omega (arith, length-append (segment_text (logical kind value)) (flat_map segment_text ss), number_few kind value)

-- one segment, or none
option_few : {X : Type 0} (most : ℕ) (f : X → SegmentValue) → ((x : X) → length (segment_text (f x)) ≤ most) → (o : Option X) → bytes_of (map f (option_to_list o)) ≤ most
option_few most f few None = omega arith
option_few most f few (Some x) = omega (arith, length-append (segment_text (f x)) [], few x)

data_few : (content : List ℕ) → length content ≤ 400 → bytes_of (map bytes (option_to_list (segment_of content))) ≤ 402
data_few [] few = omega arith
data_few (byte ∷ content) few = omega (arith, length-append (segment_text (bytes (byte ∷ content))) [])

-- the segments of a path, part by part
parts_few : (ks is cs ds : List SegmentValue) (class consumed produced : ℕ) → bytes_of ks ≤ 10 → bytes_of is ≤ 2 → bytes_of cs ≤ 6 → bytes_of ds ≤ 402 → bytes_of (((ks ++ is) ++ (logical Class class ∷ cs)) ++ (logical ConnectionPoint consumed ∷ (logical ConnectionPoint produced ∷ ds))) ≤ 500
parts_few ks is cs ds class consumed produced keys inhibits configs content =
    let points = logical ConnectionPoint consumed ∷ (logical ConnectionPoint produced ∷ ds) in
    let named = logical Class class ∷ cs in
    omega (
      arith,
      bytes_append ((ks ++ is) ++ named) points,
      bytes_append (ks ++ is) named,
      bytes_append ks is,
      bytes_more Class class cs,
      bytes_more ConnectionPoint consumed (logical ConnectionPoint produced ∷ ds),
      bytes_more ConnectionPoint produced ds,
    )

path_few : (config : SlotConfig) → HasFewData config → length (path_text (slot_path config)) ≤ 500
path_few config few =
    let p : PathFields = slot_path config in
    parts_few (map key (option_to_list p.key)) (map inhibit (option_to_list p.inhibit)) (map (logical Instance) (option_to_list p.config)) (map bytes (option_to_list p.segment)) p.class p.consumed p.produced
    (option_few 10 key (λ k. omega arith) p.key) (option_few 2 inhibit (λ ms. omega arith) p.inhibit) (option_few 6 (logical Instance) (number_few Instance) p.config) (data_few config.config_data few)

-- ---- requests to the Connection Manager

-- their data: a fixed part and the path
open_few : (large : Bool) (profile : ScannerProfile) (config : SlotConfig) (requested : Requested) → HasFewData config → length (open_text large (open_fields profile config requested)) ≤ 600
unfolding open_text
open_few true profile config requested few =
    let fields = open_fields profile config requested in
    let front : length (fields_text (open_widths true) (open_numbers true (open_fields profile config requested))) ≡ 40 = refl in
    omega (arith, length-append (fields_text (open_widths true) (open_numbers true fields)) fields.path, front, path_few config few)
open_few false profile config requested few =
    let fields = open_fields profile config requested in
    let front : length (fields_text (open_widths false) (open_numbers false (open_fields profile config requested))) ≡ 36 = refl in
    omega (arith, length-append (fields_text (open_widths false) (open_numbers false fields)) fields.path, front, path_few config few)

close_few : (config : SlotConfig) (triad : Triad) → HasFewData config → length (close_text (close_fields config triad)) ≤ 600
unfolding close_text
close_few config triad few =
    let fields = close_fields config triad in
    let front : length (fields_text close_widths (close_numbers (close_fields config triad))) ≡ 12 = refl in
    omega (arith, length-append (fields_text close_widths (close_numbers fields)) fields.path, front, path_few config few)

manager_few : (service : ℕ) (body : List ℕ) → length body ≤ 600 → length (manager_text service body) ≤ 700
manager_few service body few =
    let path : length (target_text manager) ≡ 4 = refl in
    omega (arith, length-append (target_text manager) body, path)

-- ---- frames

-- the frame of a request is short
abbrev pub IsShortRequest : Sent → Type 0
IsShortRequest sent = IsShortFrame (sent_frame sent)

requested_short : (sent : Sent) → length (request_data sent.request) ≤ 2000 → IsShortRequest sent
requested_short sent few = message_short (sent_message sent) few

pub registration_short : (stream : ℕ) → IsShortRequest (registration stream)
registration_short stream = requested_short (registration stream) (omega arith)

pub open_short : (session : Session) (number : ℕ) (large : Bool) (profile : ScannerProfile) (config : SlotConfig) (requested : Requested) → HasFewData config → IsShortRequest (numbered session number (opening large (open_fields profile config requested)))
open_short session number large profile config requested few =
    let body = open_text large (open_fields profile config requested) in
    requested_short (numbered session number (opening large (open_fields profile config requested)))
    (omega (arith, items_length (manager_text (open_service large) body) None, manager_few (open_service large) body (open_few large profile config requested few)))

pub close_short : (session : Session) (number : ℕ) (config : SlotConfig) (triad : Triad) → HasFewData config → IsShortRequest (numbered session number (closing (close_fields config triad)))
close_short session number config triad few =
    let body = close_text (close_fields config triad) in
    requested_short (numbered session number (closing (close_fields config triad)))
    (omega (arith, items_length (manager_text 0x4E body) None, manager_few 0x4E body (close_few config triad few)))

pub requesting_short : (session : Session) (number : ℕ) (body : List ℕ) → length body ≤ 504 → IsShortRequest (numbered session number (requesting body))
requesting_short session number body few = requested_short (numbered session number (requesting body)) (omega (arith, items_length body None, few))
