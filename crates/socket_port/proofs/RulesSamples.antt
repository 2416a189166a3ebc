-- Places among worked streams. Addresses are single numbers, and times are in milliseconds.
use Rattle.std.proofs.Common.{◌≡◌, ℕ, true, false, List, [], ◌∷◌, ◌++◌, Option, Some, None, refl}
use Rattle.cip_types.specs.declared.names.Node.{Node}
use Rattle.socket_port.specs.declared.rules.keeper.KeptStream.{KeptStream}
use Rattle.socket_port.specs.declared.rules.keeper.Place.TheVariants.{Free, Instead, Refused}
use Rattle.socket_port.specs.Rules.Keeping.{place_of, silent_of, wait_of}

abbrev node : ℕ → Node
node n = record { 0 = n }

-- an open stream of an address, whose last message came at this time, with a session and without one
abbrev session : ℕ → ℕ → Option KeptStream
session n last = Some (record { peer = node n; last_ms = last; registered = true })

abbrev open_only : ℕ → ℕ → Option KeptStream
open_only n last = Some (record { peer = node n; last_ms = last; registered = false })

-- eight streams of one address, and three of others: the third one is silent longest
abbrev eight : List (Option KeptStream)
eight = session 1 50 ∷ session 1 40 ∷ session 1 20 ∷ session 1 30 ∷ session 1 20 ∷ session 1 60 ∷ session 1 70 ∷ session 1 80 ∷ []

-- eight streams of eight addresses
abbrev others : List (Option KeptStream)
others = session 2 15 ∷ session 3 14 ∷ session 4 13 ∷ session 5 12 ∷ session 6 11 ∷ session 7 12 ∷ session 8 13 ∷ session 9 14 ∷ []

abbrev everybody : List Node
everybody = node 1 ∷ node 2 ∷ node 3 ∷ node 4 ∷ node 5 ∷ node 6 ∷ node 7 ∷ node 8 ∷ node 9 ∷ []

-- a place is free
pub free_place : place_of (node 5) [] [] (session 1 0 ∷ None ∷ []) ≡ Free
free_place = refl

-- the ninth stream of an address takes the place of its own that was silent longest, the lower number of two; others are
-- silent longer, and it has a connection
pub ninth_of_one : place_of (node 1) everybody [] (eight ++ others) ≡ Instead 2
ninth_of_one = refl

-- even if numbers are free
pub ninth_beside_free : place_of (node 1) [] [] (eight ++ (None ∷ [])) ≡ Instead 2
ninth_beside_free = refl

-- one of its own without a session comes first, though its message is the newest
pub ninth_without_session : place_of (node 1) everybody [] (open_only 1 90 ∷ eight) ≡ Instead 0
ninth_without_session = refl

-- all are taken: one without a session makes room, though others are silent longer
pub without_session : place_of (node 77) [] [] (session 1 0 ∷ open_only 2 30 ∷ open_only 3 20 ∷ session 4 1 ∷ []) ≡ Instead 2
without_session = refl

-- each has a session: one whose peer has no connection makes room, though others are silent longer
pub without_connection : place_of (node 77) (node 6 ∷ node 5 ∷ node 7 ∷ []) [] others ≡ Instead 2
without_connection = refl

-- even for a further stream of an address; one whose peer owns an output does not
pub owner_without_connection : place_of (node 9) (node 5 ∷ node 7 ∷ []) (node 6 ∷ []) others ≡ Instead 2
owner_without_connection = refl

-- each has a session, and each peer a connection: the first stream of an address takes the place of the one that is silent
-- longest, and whose peer owns no output
pub without_output : place_of (node 77) everybody (node 6 ∷ node 5 ∷ []) others ≡ Instead 5
without_output = refl

pub without_output_of_one : place_of (node 77) everybody (node 2 ∷ []) (eight ++ others) ≡ Instead 12
without_output_of_one = refl

-- a further one of an address has no place
pub no_place_for_more : place_of (node 9) everybody (node 6 ∷ []) others ≡ Refused
no_place_for_more = refl

-- neither has the first one, if each peer owns an output
pub no_place : place_of (node 77) everybody everybody others ≡ Refused
no_place = refl

-- a stream is silent once the time-out has passed, and not before
pub silent_in_time : silent_of (record { limit_ms = 1000; streams = None ∷ session 1 501 ∷ open_only 2 500 ∷ open_only 3 400 ∷ [] }) 1500 ≡ Some 2
silent_in_time = refl

pub silent_too_early : silent_of (record { limit_ms = 1000; streams = session 1 501 ∷ [] }) 1500 ≡ None
silent_too_early = refl

-- without a time-out none ever is
pub never_silent : silent_of (record { limit_ms = 0; streams = session 1 0 ∷ [] }) 1000000 ≡ None
never_silent = refl

pub wait_until_silent : wait_of (record { limit_ms = 1000; streams = None ∷ session 1 600 ∷ session 2 590 ∷ [] }) 1500 60 ≡ 60
wait_until_silent = refl

pub wait_of_the_first : wait_of (record { limit_ms = 1000; streams = None ∷ session 1 600 ∷ session 2 590 ∷ [] }) 1500 200 ≡ 90
wait_of_the_first = refl

pub wait_for_ever : wait_of (record { limit_ms = 0; streams = session 1 0 ∷ [] }) 1500 200 ≡ 200
wait_for_ever = refl
