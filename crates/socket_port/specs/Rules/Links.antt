-- The links of a scanner to its targets. A link has no stream, then one that is being opened, then one on which a session
-- is being registered, then one with a session; from each of these it comes back to none, and is tried again later.
--
-- A try whose target answered and failed counts: it refused the stream or the session, it did not register a session in
-- time or ended the stream before, or the stream was renewed since a request was not answered. The first four of them wait a
-- second, the next ones 2, 4, 8 and 16 seconds, all further ones 30 seconds, so that a target that cannot serve is not asked
-- every second for good. A connection that is established begins the count anew. A try at which nothing answered does not
-- count, and neither does a stream with a session that ended: the next try is after a second, so a target that comes back is
-- found within the 3 seconds of an opening and that second.
--
-- A request that was not answered in time renews the stream only if no message came over the stream since a request was sent
-- over it: a target that answers others is there.
use Rattle.std.specs.Prelude.{ℕ, ◌+◌, ◌-◌, ◌^◌, min, nat_le, nat_eq, if◌then◌else◌, Bool, true, false, List, [], ◌∷◌, slice_index_or, slice_set, position, Option, Some, None}
use Rattle.socket_port.specs.declared.rules.links.LinkState.{LinkState}
use Rattle.socket_port.specs.declared.rules.links.LinkState.TheVariants.{Down, Opening, Registering, Open}
use Rattle.socket_port.specs.declared.rules.links.TargetLink.{TargetLink}

-- links: the time in milliseconds after which a stream without a session is given up, and the link to each target
pub record Links : Type 0 where
  pub session_ms : ℕ
  pub links : List TargetLink

-- a stream that does not open is given up after so many milliseconds
abbrev pub opening_ms : ℕ
opening_ms = 3000

-- the milliseconds from the last of so many failed tries to the next one
abbrev pub wait_after : ℕ → ℕ
wait_after tries =
    if nat_le tries 4 then 1000
    else (if nat_eq tries 5 then 2000
    else (if nat_eq tries 6 then 4000
    else (if nat_eq tries 7 then 8000
    else (if nat_eq tries 8 then 16000
    else 30000))))

-- a later time: time ends with the numbers
abbrev pub later : ℕ → ℕ → ℕ
later now ms = min (now + ms) (2 ^ 64 - 1)

-- one failed try more: they are counted up to 255
abbrev pub next_tries : ℕ → ℕ
next_tries tries = min (tries + 1) 255

-- a link that was not tried yet
abbrev pub new_link : TargetLink
new_link = record { state = Down 0; tries = 0; waits = false }

-- the link to a target, and the links after a change of one: a target that is not there changes none
abbrev pub link_at : List TargetLink → ℕ → TargetLink
link_at links target = slice_index_or links target new_link

abbrev pub at_target : Links → ℕ → (TargetLink → TargetLink) → Links
at_target links target change = record links { links = slice_set links.links target (change (link_at links.links target)) }

-- a link whose opening begins at this time
abbrev pub opening_link : ℕ → TargetLink → TargetLink
opening_link now link = record link { state = Opening (later now opening_ms) }

-- a link whose stream of this number opened at this time
abbrev pub registering_link : ℕ → ℕ → ℕ → TargetLink → TargetLink
registering_link session stream now link = record link { state = Registering stream (later now session); waits = false }

-- a link on whose stream a session was registered
abbrev pub with_session : TargetLink → LinkState → TargetLink
with_session link (Registering stream until) = record link { state = Open stream }
with_session link state = link

abbrev pub registered_link : TargetLink → TargetLink
registered_link link = with_session link link.state

-- a link at which nothing answered
abbrev pub given_up_link : ℕ → TargetLink → TargetLink
given_up_link now link = record link { state = Down (later now (wait_after 0)); waits = false }

-- a link whose target answered and failed
abbrev pub failed_link : ℕ → TargetLink → TargetLink
failed_link now link = record { state = Down (later now (wait_after (next_tries link.tries))); tries = next_tries link.tries; waits = false }

-- a link whose stream ended: without a session its target failed
abbrev pub ended_in : ℕ → TargetLink → LinkState → TargetLink
ended_in now link (Registering stream until) = failed_link now link
ended_in now link state = given_up_link now link

abbrev pub lost_link : ℕ → TargetLink → TargetLink
lost_link now link = ended_in now link link.state

-- a link over which a connection was established
abbrev pub succeeded_link : TargetLink → TargetLink
succeeded_link link = record link { tries = 0 }

-- a link whose session was refused: its target failed if the session was being registered
abbrev pub refused_in : ℕ → TargetLink → LinkState → TargetLink
refused_in now link (Registering stream until) = failed_link now link
refused_in now link state = link

abbrev pub refused_link : ℕ → TargetLink → TargetLink
refused_link now link = refused_in now link link.state

-- a link whose open stream was dropped: its target failed
abbrev pub dropped_in : ℕ → TargetLink → LinkState → TargetLink
dropped_in now link (Registering stream until) = failed_link now link
dropped_in now link (Open stream) = failed_link now link
dropped_in now link state = link

abbrev pub dropped_link : ℕ → TargetLink → TargetLink
dropped_link now link = dropped_in now link link.state

-- the number of the open stream of the link
abbrev pub stream_in : LinkState → Option ℕ
stream_in (Registering stream until) = Some stream
stream_in (Open stream) = Some stream
stream_in state = None

abbrev pub stream_of : TargetLink → Option ℕ
stream_of link = stream_in link.state

-- a link over whose stream RegisterSession was sent at this time: an open stream waits for its session again
abbrev pub again_in : ℕ → ℕ → TargetLink → LinkState → TargetLink
again_in session now link (Open stream) = record link { state = Registering stream (later now session); waits = true }
again_in session now link state = record link { waits = true }

abbrev pub again_link : ℕ → ℕ → TargetLink → TargetLink
again_link session now link = again_in session now link link.state

-- a link over whose stream a request was sent, and one over whose stream a message came since
abbrev pub requested_link : TargetLink → TargetLink
requested_link link = record link { waits = true }

abbrev pub received_link : TargetLink → TargetLink
received_link link = record link { waits = false }

-- a link one of whose requests was not answered in time: its open stream is dropped if no message came since a request was sent
abbrev pub renewed_link : ℕ → TargetLink → TargetLink
renewed_link now link = if link.waits then dropped_link now link else link

abbrev pub renewed_stream : TargetLink → Option ℕ
renewed_stream link = if link.waits then stream_of link else None

-- a session is being registered on the stream of the link
abbrev pub registers_in : LinkState → Bool
registers_in (Registering stream until) = true
registers_in state = false

abbrev pub is_registering : TargetLink → Bool
is_registering link = registers_in link.state

-- the stream of the link is to be opened at this time
abbrev pub due_in : ℕ → LinkState → Bool
due_in now (Down retry) = nat_le retry now
due_in now state = false

abbrev pub is_due : ℕ → TargetLink → Bool
is_due now link = due_in now link.state

-- the stream of the link did not open in time
abbrev pub late_in : ℕ → LinkState → Bool
late_in now (Opening until) = nat_le until now
late_in now state = false

abbrev pub is_late : ℕ → TargetLink → Bool
is_late now link = late_in now link.state

-- the stream of the link has no session in time
abbrev pub unregistered_in : ℕ → LinkState → Bool
unregistered_in now (Registering stream until) = nat_le until now
unregistered_in now state = false

abbrev pub is_unregistered : ℕ → TargetLink → Bool
is_unregistered now link = unregistered_in now link.state

-- the stream of the link has this number
abbrev pub of_in : ℕ → LinkState → Bool
of_in number (Registering stream until) = nat_eq stream number
of_in number (Open stream) = nat_eq stream number
of_in number state = false

abbrev pub is_of : ℕ → TargetLink → Bool
is_of number link = of_in number link.state

-- the links after a change of the one whose stream has this number: a number that no stream has changes none
abbrev pub at_found : Links → Option ℕ → (TargetLink → TargetLink) → Links
at_found links None change = links
at_found links (Some target) change = at_target links target change

abbrev pub at_stream : Links → ℕ → (TargetLink → TargetLink) → Links
at_stream links number change = at_found links (position (is_of number) links.links) change

-- a session is being registered on the stream of this number
abbrev pub registers_at : List TargetLink → Option ℕ → Bool
registers_at links None = false
registers_at links (Some target) = is_registering (link_at links target)

abbrev pub registers_on : List TargetLink → ℕ → Bool
registers_on links number = registers_at links (position (is_of number) links)

-- the time until the stream of the link is to be opened or given up
abbrev pub retry_in : ℕ → ℕ → LinkState → ℕ
retry_in now most (Down retry) = retry - now
retry_in now most (Opening until) = until - now
retry_in now most (Registering stream until) = until - now
retry_in now most (Open stream) = most

abbrev pub retry_at : ℕ → ℕ → TargetLink → ℕ
retry_at now most link = retry_in now most link.state

-- the least of a time and those of these links
abbrev pub wait_of : ℕ → ℕ → ℕ → List TargetLink → ℕ
wait_of now most wait [] = wait
wait_of now most wait (link ∷ links) = wait_of now most (min wait (retry_at now most link)) links
