-- Worked links. Times are in milliseconds.
use Rattle.std.proofs.Common.{◌≡◌, ℕ, true, false, [], ◌∷◌, Some, None, refl}
use Rattle.socket_port.specs.declared.rules.links.TargetLink.{TargetLink}
use Rattle.socket_port.specs.declared.rules.links.LinkState.TheVariants.{Down, Opening, Registering, Open}
use Rattle.socket_port.specs.Rules.Links.{requested_link, at_target, is_due, is_late, is_unregistered, received_link, opening_link, failed_link, given_up_link, lost_link, new_link, registering_link, registered_link, renewed_link, renewed_stream, succeeded_link, wait_of}

abbrev link : ℕ → TargetLink
link tries = record { state = Open 3; tries = tries; waits = false }

-- the first four failures are followed by a second, the next ones by 2, 4, 8 and 16, all further ones by 30
pub first_failure : failed_link 5000 (link 0) ≡ record { state = Down 6000; tries = 1; waits = false }
first_failure = refl

pub fourth_failure : failed_link 5000 (link 3) ≡ record { state = Down 6000; tries = 4; waits = false }
fourth_failure = refl

pub fifth_failure : failed_link 5000 (link 4) ≡ record { state = Down 7000; tries = 5; waits = false }
fifth_failure = refl

pub sixth_failure : failed_link 5000 (link 5) ≡ record { state = Down 9000; tries = 6; waits = false }
sixth_failure = refl

pub eighth_failure : failed_link 5000 (link 7) ≡ record { state = Down 21000; tries = 8; waits = false }
eighth_failure = refl

pub ninth_failure : failed_link 5000 (link 8) ≡ record { state = Down 35000; tries = 9; waits = false }
ninth_failure = refl

pub many_failures : failed_link 5000 (link 255) ≡ record { state = Down 35000; tries = 255; waits = false }
many_failures = refl

-- a try at which nothing answered is followed by a second, and does not count
pub unanswered : given_up_link 5000 (record { state = Opening 5000; tries = 8; waits = false }) ≡ record { state = Down 6000; tries = 8; waits = false }
unanswered = refl

-- a stream is opened again, and one that does not open or has no session is dropped, in the millisecond that its link has, and not before
pub due_at : (is_due 5999 (record { state = Down 6000; tries = 1; waits = false }) ≡ false) × (is_due 6000 (record { state = Down 6000; tries = 1; waits = false }) ≡ true)
due_at = (refl, refl)

pub late_at : (is_late 7999 (record { state = Opening 8000; tries = 0; waits = false }) ≡ false) × (is_late 8000 (record { state = Opening 8000; tries = 0; waits = false }) ≡ true)
late_at = (refl, refl)

pub unregistered_at : (is_unregistered 5399 (record { state = Registering 7 5400; tries = 0; waits = false }) ≡ false)
    × (is_unregistered 5400 (record { state = Registering 7 5400; tries = 0; waits = false }) ≡ true)
unregistered_at = (refl, refl)

-- an opening has 3 seconds, and a session the time that was given
pub opening : opening_link 5000 new_link ≡ record { state = Opening 8000; tries = 0; waits = false }
opening = refl

pub registering : registering_link 400 7 5000 new_link ≡ record { state = Registering 7 5400; tries = 0; waits = false }
registering = refl

pub with_session : registered_link (record { state = Registering 7 5400; tries = 2; waits = false }) ≡ record { state = Open 7; tries = 2; waits = false }
with_session = refl

-- a stream that ends before its session is a failure, and one that had a session is none
pub lost_before_session : lost_link 5000 (record { state = Registering 7 5400; tries = 8; waits = false }) ≡ record { state = Down 35000; tries = 9; waits = false }
lost_before_session = refl

pub lost_after_session : lost_link 5000 (record { state = Open 7; tries = 8; waits = false }) ≡ record { state = Down 6000; tries = 8; waits = false }
lost_after_session = refl

-- a connection that is established begins the count anew
pub success : succeeded_link (record { state = Open 7; tries = 8; waits = false }) ≡ record { state = Open 7; tries = 0; waits = false }
success = refl

-- one link changes alone, and a target that is not there changes none
pub second_fails : at_target (record { session_ms = 400; links = new_link ∷ link 0 ∷ [] }) 1 (failed_link 5000) ≡ record { session_ms = 400; links = new_link ∷ record { state = Down 6000; tries = 1; waits = false } ∷ [] }
second_fails = refl

pub none_fails : at_target (record { session_ms = 400; links = new_link ∷ [] }) 1 (failed_link 5000) ≡ record { session_ms = 400; links = new_link ∷ [] }
none_fails = refl

-- the wait is until the first of the links needs something
pub wait_for_links : wait_of 5000 900 900 (record { state = Down 5800; tries = 0; waits = false } ∷ record { state = Registering 1 5300; tries = 0; waits = false } ∷ link 0 ∷ record { state = Opening 8000; tries = 0; waits = false } ∷ []) ≡ 300
wait_for_links = refl

-- a request that was not answered in time renews the stream over which no message came since a request was sent
pub unheard : renewed_link 5000 (requested_link (link 0)) ≡ record { state = Down 6000; tries = 1; waits = false }
unheard = refl

pub the_unheard_stream : renewed_stream (requested_link (link 0)) ≡ Some 3
the_unheard_stream = refl

-- and no other one
pub received_since : renewed_link 5000 (received_link (requested_link (link 0))) ≡ link 0
received_since = refl

pub no_renewed_stream : renewed_stream (received_link (requested_link (link 0))) ≡ None
no_renewed_stream = refl

-- what was asked over one stream is not waited for over the next one
pub a_new_stream_waits_for_nothing : registering_link 400 7 5000 (requested_link new_link) ≡ record { state = Registering 7 5400; tries = 0; waits = false }
a_new_stream_waits_for_nothing = refl
