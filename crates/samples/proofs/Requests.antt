-- Samples of the message router: prefixes of requests, other objects and services, values of points.
use Rattle.std.proofs.Common.{◌≡◌, refl, ℕ, List, [], ◌∷◌, ◌++◌, take, map}
use Rattle.cip_events.specs.declared.event.Event.{Event}
use Rattle.cip_events.specs.declared.event.Event.TheVariants.{Datagram, Request}
use Rattle.cip_events.specs.declared.event.Notice.TheVariants.{Closed}
use Rattle.cip_events.specs.declared.event.Verdict.TheVariants.{BadFrame}
use Rattle.adapter_table.specs.declared.profile.Action.TheVariants.{Zero}
use Rattle.adapter_table.specs.declared.profile.Profile.{Profile}
use Rattle.cip_events.specs.Outcomes.{Outcome}
use Rattle.cip_tables.specs.Run.{outcomes_of}
use Rattle.samples.specs.Hex.{hex}
use Rattle.samples.specs.Devices.{common, configured, output, peer, other, own}
use Rattle.samples.specs.Requests.{OpeningRequest, owner, followed, opening, large_opening, closing}
use Rattle.samples.specs.Datagrams.{datagram, running}
use Rattle.samples.specs.Runs.{said, after, opens, replies, opened_notice, accepts, refuses, says}
use Rattle.samples.specs.Rows.{from}
use Rattle.samples.specs.Computing.{computing}

-- the first originator sends a request
abbrev sends_request : List ℕ → Event
sends_request bytes = Request peer bytes

-- a reply with no notices
abbrev gets : List ℕ → Outcome
gets bytes = replies peer bytes []

-- ---- whole requests, and parts of them

no_bytes_have_no_reply : said common (sends_request [] ∷ []) ≡ says BadFrame ∷ []
unfolding computing
no_bytes_have_no_reply = refl

every_prefix_of_an_opening_is_too_short : said common (map (λ n. sends_request (take n (opening owner))) (from 1 49)) ≡ map (λ n. gets (hex "D4 00 13 00")) (from 1 49)
unfolding computing
every_prefix_of_an_opening_is_too_short = refl

and_every_prefix_of_a_large_one : said common (map (λ n. sends_request (take n (large_opening owner))) (from 1 53)) ≡ map (λ n. gets (hex "DB 00 13 00")) (from 1 53)
unfolding computing
and_every_prefix_of_a_large_one = refl

and_every_prefix_of_a_closing : said common (map (λ n. sends_request (take n (closing 1 0x12345678))) (from 1 25)) ≡ map (λ n. gets (hex "CE 00 13 00")) (from 1 25)
unfolding computing
and_every_prefix_of_a_closing = refl

a_byte_more_is_too_long :
    said common (sends_request (opening owner ++ hex "00") ∷ sends_request (closing 1 0x12345678 ++ hex "00") ∷ [])
    ≡ gets (hex "D4 00 15 00") ∷ gets (hex "CE 00 15 00") ∷ []
unfolding computing
a_byte_more_is_too_long = refl

-- the reserved bytes are not judged
the_reserved_bytes :
    said common (sends_request (hex "54 02 20 06 24 01 FF FF 01 02 03 04 01 00 00 20 01 00 34 12 78 56 34 12 02 FF FF FF 10 27 00 00 0A 48 10 27 00 00 06 48 01 04 20 04 24 97 2C 96 2C 64") ∷ [])
    ≡ accepts peer owner 1 0x20000001 ∷ []
unfolding computing
the_reserved_bytes = refl

-- ---- large openings

abbrev large : OpeningRequest
large = record owner { o_t_params = 0x4800000A; t_o_params = 0x48000006 }

a_large_opening :
    said common (sends_request (large_opening large) ∷ [])
    ≡ replies peer (hex "DB 00 00 00 01 00 00 10 01 00 00 20 01 00 34 12 78 56 34 12 10 27 00 00 10 27 00 00 00 00") (opened_notice owner 1 ∷ []) ∷ []
unfolding computing
a_large_opening = refl

a_large_one_is_refused_alike :
    said common (opens owner ∷ sends_request (large_opening large) ∷ [])
    ≡ accepts peer owner 1 0x20000001 ∷ gets (hex "DB 00 01 01 00 01 01 00 34 12 78 56 34 12 00 00") ∷ []
unfolding computing
a_large_one_is_refused_alike = refl

abbrev redundant : OpeningRequest
redundant = record large { t_o_params = 0xC8000006 }

a_large_redundant_owner : said common (sends_request (large_opening redundant) ∷ []) ≡ gets (hex "DB 00 01 01 08 01 01 00 34 12 78 56 34 12 00 00") ∷ []
unfolding computing
a_large_redundant_owner = refl

-- an output of 1,400 bytes
abbrev long : Profile
long = record common { outputs = output 150 1400 Zero Zero ∷ [] }

a_long_output_is_opened_by_a_large_one :
    said long (opens owner ∷ sends_request (large_opening (record large { o_t_params = 0x4800057E })) ∷ [])
    ≡ refuses peer owner 0x0127 ∷ replies peer (hex "DB 00 00 00 01 00 00 10 01 00 00 20 01 00 34 12 78 56 34 12 10 27 00 00 10 27 00 00 00 00") (opened_notice owner 1 ∷ []) ∷ []
unfolding computing
a_long_output_is_opened_by_a_large_one = refl

-- ---- closes

a_close_of_no_connection : said common (sends_request (closing 1 0x12345678) ∷ []) ≡ gets (hex "CE 00 01 01 07 01 01 00 34 12 78 56 34 12 00 00") ∷ []
unfolding computing
a_close_of_no_connection = refl

any_peer_closes :
    said common (opens owner ∷ Request other (closing 1 0x12345678) ∷ sends_request (closing 1 0x12345678) ∷ [])
    ≡ accepts peer owner 1 0x20000001 ∷ replies other (hex "CE 00 00 00 01 00 34 12 78 56 34 12 00 00") (Closed (own 1) ∷ []) ∷ gets (hex "CE 00 01 01 07 01 01 00 34 12 78 56 34 12 00 00") ∷ []
unfolding computing
any_peer_closes = refl

-- the path of a close is counted and not read
an_unread_path :
    said common (opens owner ∷ sends_request (hex "4E 02 20 06 24 01 0A 0E 01 00 34 12 78 56 34 12 01 FF 91 02") ∷ [])
    ≡ accepts peer owner 1 0x20000001 ∷ replies peer (hex "CE 00 00 00 01 00 34 12 78 56 34 12 00 00") (Closed (own 1) ∷ []) ∷ []
unfolding computing
an_unread_path = refl

-- an attribute in the Connection Manager's path is not judged
an_attribute_of_the_manager :
    said common (sends_request (hex "4E 03 20 06 24 01 30 09 0A 0E 01 00 34 12 78 56 34 12 00 00") ∷ [])
    ≡ gets (hex "CE 00 01 01 07 01 01 00 34 12 78 56 34 12 00 00") ∷ []
unfolding computing
an_attribute_of_the_manager = refl

-- ---- objects and services

-- the reply once the output has bytes
abbrev answer_to : List ℕ → List Outcome
answer_to bytes = outcomes_of (after common (opens owner ∷ Datagram peer (datagram 0x10000001 1 1 (running (hex "11 22 33 44"))) ∷ [])) (sends_request bytes ∷ [])

the_value_of_an_output : answer_to (hex "0E 03 20 04 24 96 30 03") ≡ gets (hex "8E 00 00 00 11 22 33 44") ∷ []
unfolding computing
the_value_of_an_output = refl

of_an_input : answer_to (hex "0E 03 20 04 24 64 30 03") ≡ gets (hex "8E 00 00 00 00 00 00 00") ∷ []
unfolding computing
of_an_input = refl

of_the_configuration : answer_to (hex "0E 03 20 04 24 97 30 03") ≡ gets (hex "8E 00 00 00") ∷ []
unfolding computing
of_the_configuration = refl

a_stored_configuration :
    said configured (opens (followed (hex "80 01 AA BB") owner) ∷ sends_request (hex "0E 03 20 04 24 97 30 03") ∷ [])
    ≡ accepts peer owner 1 0x20000001 ∷ gets (hex "8E 00 00 00 AA BB") ∷ []
unfolding computing
a_stored_configuration = refl

another_attribute : answer_to (hex "0E 03 20 04 24 96 30 04") ≡ gets (hex "8E 00 14 00") ∷ []
unfolding computing
another_attribute = refl

no_attribute : answer_to (hex "0E 02 20 04 24 96") ≡ gets (hex "8E 00 14 00") ∷ []
unfolding computing
no_attribute = refl

another_instance : answer_to (hex "0E 03 20 04 24 46 30 03") ≡ gets (hex "8E 00 05 00") ∷ []
unfolding computing
another_instance = refl

no_heartbeat_is_served : answer_to (hex "0E 03 20 04 24 98 30 03") ≡ gets (hex "8E 00 05 00") ∷ []
unfolding computing
no_heartbeat_is_served = refl

another_service : answer_to (hex "10 03 20 04 24 96 30 03") ≡ gets (hex "90 00 08 00") ∷ []
unfolding computing
another_service = refl

data_behind_it : answer_to (hex "0E 03 20 04 24 96 30 03 00") ≡ gets (hex "8E 00 15 00") ∷ []
unfolding computing
data_behind_it = refl

another_service_of_the_manager : answer_to (hex "0E 02 20 06 24 01") ≡ gets (hex "8E 00 08 00") ∷ []
unfolding computing
another_service_of_the_manager = refl

another_instance_of_the_manager : answer_to (hex "54 02 20 06 24 02") ≡ gets (hex "D4 00 05 00") ∷ []
unfolding computing
another_instance_of_the_manager = refl

another_class : answer_to (hex "0E 03 20 01 24 01 30 01") ≡ gets (hex "8E 00 05 00") ∷ []
unfolding computing
another_class = refl

no_segment : answer_to (hex "0E 01 91 02") ≡ gets (hex "8E 00 04 00") ∷ []
unfolding computing
no_segment = refl

no_instance : answer_to (hex "0E 01 20 04") ≡ gets (hex "8E 00 04 00") ∷ []
unfolding computing
no_instance = refl

too_short_before_the_path : answer_to (hex "0E 02 91 02") ≡ gets (hex "8E 00 13 00") ∷ []
unfolding computing
too_short_before_the_path = refl

the_object_before_the_service : answer_to (hex "10 03 20 04 24 46 30 03") ≡ gets (hex "90 00 05 00") ∷ []
unfolding computing
the_object_before_the_service = refl

the_service_before_the_attribute : answer_to (hex "10 03 20 04 24 96 30 04") ≡ gets (hex "90 00 08 00") ∷ []
unfolding computing
the_service_before_the_attribute = refl

the_attribute_before_the_data : answer_to (hex "0E 03 20 04 24 96 30 04 00") ≡ gets (hex "8E 00 14 00") ∷ []
unfolding computing
the_attribute_before_the_data = refl

the_service_before_the_data : answer_to (hex "0E 02 20 06 24 01 00") ≡ gets (hex "8E 00 08 00") ∷ []
unfolding computing
the_service_before_the_data = refl
