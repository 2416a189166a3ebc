-- Why a slot of a scanner is not opened, in words (Volume 1, chapter 3, Connection Manager extended status codes; Volume 2,
-- chapter 2, encapsulation status codes).
use Rattle.std.specs.Prelude.{ℕ, ◌==◌, ◌^◌, nat_lt, if◌then◌else◌, List, [], ◌∷◌, ◌++◌, codes, decimal, Option, Some, None}
use Rattle.std.specs.Int.{w16, w32, to_be_bytes}
use Rattle.hex.specs.Hex.{encode_lower}
use Rattle.cip_types.specs.Cases.{first_case_or}
use Rattle.cip_types.specs.declared.names.Fault.{Fault}
use Rattle.cip_types.specs.declared.names.Mismatch.{Mismatch}
use Rattle.cip_types.specs.declared.names.Mismatch.TheVariants as mismatch
use Rattle.cip_events.specs.declared.event.Reason.{Reason}
use Rattle.cip_events.specs.declared.event.Reason.TheVariants as reason
use Rattle.trace_words.specs.StatusWords.Statuses.{extended_name, status_name}

-- NAMES OF STATUSES

-- the name of an encapsulation status
abbrev pub encap_words : ℕ → List ℕ
encap_words status = first_case_or (codes "another status") (
    (status == 0x0000, codes "success")
    ∷ (status == 0x0001, codes "invalid or unsupported command")
    ∷ (status == 0x0002, codes "insufficient memory")
    ∷ (status == 0x0003, codes "incorrect data")
    ∷ (status == 0x0064, codes "invalid session handle")
    ∷ (status == 0x0065, codes "invalid length")
    ∷ (status == 0x0069, codes "unsupported protocol revision")
    ∷ [])

-- STATUSES

-- a name behind its number
abbrev pub named_text : List ℕ → List ℕ
named_text name = codes " (" ++ (name ++ codes ")")

abbrev pub general_number : ℕ → List ℕ
general_number general = codes "general status 0x" ++ encode_lower (general ∷ [])

abbrev pub general_text : ℕ → List ℕ
general_text general = general_number general ++ named_text (status_name general)

-- that of a connection failure has a name
abbrev pub extended_named : (general extended : ℕ) → List ℕ
extended_named general extended = if general == 1 then named_text (extended_name extended) else []

abbrev pub extended_digits : ℕ → List ℕ
extended_digits extended = encode_lower (to_be_bytes w16 extended)

abbrev pub extended_number : ℕ → List ℕ
extended_number extended = codes ", extended status 0x" ++ extended_digits extended

abbrev pub extended_status : (general extended : ℕ) → List ℕ
extended_status general extended = extended_number extended ++ extended_named general extended

abbrev pub extended_text : ℕ → Option ℕ → List ℕ
extended_text general (Some extended) = extended_status general extended
extended_text general None = codes ", no extended status"

abbrev pub fault_text : Fault → List ℕ
fault_text fault = general_text fault.general ++ extended_text fault.general fault.extended

-- four digits, or eight where they are needed
abbrev pub encap_digits : ℕ → List ℕ
encap_digits status = if nat_lt status (2 ^ 16) then encode_lower (to_be_bytes w16 status) else encode_lower (to_be_bytes w32 status)

abbrev pub encap_number : ℕ → List ℕ
encap_number status = codes "encapsulation status 0x" ++ encap_digits status

abbrev pub encap_text : ℕ → List ℕ
encap_text status = encap_number status ++ named_text (encap_words status)

-- REASONS

abbrev pub refused_text : Fault → List ℕ
refused_text fault = codes "refused by the target: " ++ fault_text fault

abbrev pub mismatch_text : Mismatch → List ℕ
mismatch_text mismatch.Triad = codes "a reply for another connection"
mismatch_text mismatch.Id = codes "another T->O id than the requested one, or one in use"
mismatch_text mismatch.Api = codes "an actual packet interval out of range"
mismatch_text (mismatch.Refused fault) = refused_text fault

abbrev pub reason_text : Reason → List ℕ
reason_text (reason.Encap status) = encap_text status
reason_text reason.Unreadable = codes "no readable reply"
reason_text (reason.Cip fault) = fault_text fault
reason_text (reason.Mismatch how) = mismatch_text how

abbrev pub slot_front : ℕ → List ℕ
slot_front slot = codes "slot " ++ (decimal slot ++ codes " is not opened: ")

-- a slot that is not opened, and why
abbrev pub unopened_text : ℕ → Reason → List ℕ
unopened_text slot reason = slot_front slot ++ reason_text reason
