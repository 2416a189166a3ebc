-- Meanings that no other sample pins, byte for byte: a single lost connection, the last ids, prefixes of a path, and an
-- inhibit segment that nothing serves.
use Rattle.std.proofs.Common.{◌≡◌, refl, [], ◌∷◌, ◌++◌, None, Ok, Err, map}
use Rattle.cip_epath.specs.declared.fault.PathFault.TheVariants as fault
use Rattle.cip_epath.specs.Reading.{path_reading}
use Rattle.cip_events.specs.declared.event.Notice.TheVariants.{Replaced}
use Rattle.cip_tables.specs.Run.{outcomes_of}
use Rattle.samples.specs.Hex.{hex}
use Rattle.samples.specs.Devices.{common, peer, own}
use Rattle.samples.specs.Requests.{owner, gatherer, consumer, opened_reply}
use Rattle.samples.specs.Runs.{said, opens, replies, opened_notice, id}
use Rattle.samples.specs.Rows.{from, at_counter, alive, lost, connected}
use Rattle.samples.specs.Computing.{computing}

-- ---- places

-- the one connection that timed out makes room
one_lost_connection_makes_room :
    outcomes_of (connected (alive 1 ∷ lost 2 ∷ map alive (from 3 62))) (opens (consumer 65) ∷ [])
    ≡ replies peer (opened_reply (consumer 65) (id 65) 0x20000002 10000 10000) (Replaced (own 2) ∷ opened_notice (consumer 65) 65 ∷ [])
    ∷ []
unfolding computing
one_lost_connection_makes_room = refl

-- ---- ids

-- one id is left: too few for a group, one for an owner, and none after it
the_last_id_in_bytes :
    outcomes_of (at_counter 16777215) (opens gatherer ∷ opens owner ∷ opens (consumer 100) ∷ [])
    ≡ replies peer (hex "D4 00 01 01 13 01 05 00 34 12 78 56 34 12 00 00") []
    ∷ replies peer (hex "D4 00 00 00 FF FF FF 10 01 00 00 20 01 00 34 12 78 56 34 12 10 27 00 00 10 27 00 00 00 00") (opened_notice owner 16777215 ∷ [])
    ∷ replies peer (hex "D4 00 01 01 13 01 64 00 34 12 78 56 34 12 00 00") []
    ∷ []
unfolding computing
the_last_id_in_bytes = refl

-- ---- inhibit times

-- a cyclic producer has no use for one, however long
a_cyclic_open_leaves_its_inhibit_time_aside :
    said common (opens (record owner { path = hex "43 0B" ++ owner.path }) ∷ [])
    ≡ replies peer (hex "D4 00 00 00 01 00 00 10 01 00 00 20 01 00 34 12 78 56 34 12 10 27 00 00 10 27 00 00 00 00") (opened_notice owner 1 ∷ [])
    ∷ []
unfolding computing
a_cyclic_open_leaves_its_inhibit_time_aside = refl

-- ---- prefixes of the owner's path

one_byte : path_reading (hex "20") ≡ Err fault.Truncated
unfolding computing
one_byte = refl

three_bytes : path_reading (hex "20 04 24") ≡ Err fault.Truncated
unfolding computing
three_bytes = refl

four_bytes : path_reading (hex "20 04 24 97") ≡ Err fault.Shape
unfolding computing
four_bytes = refl

five_bytes : path_reading (hex "20 04 24 97 2C") ≡ Err fault.Truncated
unfolding computing
five_bytes = refl

six_bytes : path_reading (hex "20 04 24 97 2C 96") ≡ Ok (record { key = None; inhibit = None; class = 4; config = None; consumed = 0x97; produced = 0x96; segment = None })
unfolding computing
six_bytes = refl

seven_bytes : path_reading (hex "20 04 24 97 2C 96 2C") ≡ Err fault.Truncated
unfolding computing
seven_bytes = refl
