-- Whether the reply to a Forward_Open opens the requested connection, and the triad and ids of the open connection
-- (Volume 1, chapter 3, Forward_Open service, successful and unsuccessful response).
use Rattle.std.specs.Prelude.{◌==◌, ◌&&◌, not, Bool, true, List, [], ◌∷◌, Option, Some, None, Result, Ok, Err}
use Rattle.cip_types.specs.Cases.{Case, first_case}
use Rattle.cip_types.specs.declared.names.ConnId.{ConnId}
use Rattle.cip_types.specs.declared.names.Mismatch.{Mismatch}
use Rattle.cip_types.specs.declared.names.Mismatch.TheVariants as mismatch
use Rattle.cip_types.specs.declared.names.Triad.{Triad}
use Rattle.cip_netparams.specs.Rate.{is_interval}
use Rattle.cip_fwdopen.specs.declared.reply.Opened as made
use Rattle.cip_fwdopen.specs.declared.reply.OpenAnswer.{OpenAnswer}
use Rattle.cip_fwdopen.specs.declared.reply.OpenAnswer.TheVariants.{Opened, Refused}
use Rattle.conn_state.specs.declared.names.Link.{Link}
use Rattle.conn_state.specs.declared.names.Requested.{Requested}

-- the same serial number, vendor and originator
abbrev pub same_triad : Triad → Triad → Bool
same_triad a b = a.serial == b.serial && (a.vendor == b.vendor && a.originator == b.originator)

-- the id is the requested one, if one was requested
abbrev pub is_requested_id : Option ConnId → ConnId → Bool
is_requested_id None id = true
is_requested_id (Some requested_id) id = requested_id.0 == id.0

-- both actual packet intervals are in the range of requested ones
abbrev pub has_intervals : made.Opened → Bool
has_intervals opened = is_interval opened.o_t_api_us && is_interval opened.t_o_api_us

-- the mismatches of a success, in order: it is for another connection, its id may not be used, its packet intervals
-- are out of range
abbrev pub answer_tests : Requested → made.Opened → Bool → List (Case Mismatch)
answer_tests requested opened id_free =
    (not (same_triad opened.triad requested.triad), mismatch.Triad)
    ∷ (not (is_requested_id requested.t_o_id opened.t_o_id && id_free), mismatch.Id)
    ∷ (not (has_intervals opened), mismatch.Api)
    ∷ []

-- the requested triad, and the ids of the reply
abbrev pub link_of : Requested → made.Opened → Link
link_of requested opened = record { triad = requested.triad; o_t_id = opened.o_t_id; t_o_id = opened.t_o_id }

-- a success without a mismatch opens the connection; otherwise the opening is returned
abbrev pub linked : Requested → made.Opened → Option Mismatch → Result Link (Requested × Mismatch)
linked requested opened None = Ok (link_of requested opened)
linked requested opened (Some why) = Err (requested, why)

-- the result of an answer for an opening
abbrev pub accepted : Requested → OpenAnswer → Bool → Result Link (Requested × Mismatch)
accepted requested (Refused refused) id_free = Err (requested, mismatch.Refused refused.fault)
accepted requested (Opened opened) id_free = linked requested opened (first_case (answer_tests requested opened id_free))
