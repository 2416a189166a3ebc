-- Names of streams, worked by hand: the adapter's station calls a stream 3, so its session handle is 4; the network calls it 0.
use Rattle.std.proofs.Common.{◌≡◌, [], ◌∷◌, Some, None, true, false, refl}
use Rattle.record_settling.specs.declared.stream_names.renaming.StreamName.{StreamName}
use Rattle.record_settling.specs.StreamNames.Names.{name_in, named_bytes, named_handle, named_stream}
use Rattle.record_settling.specs.StreamNames.StationMessages.{is_of_station}

abbrev first : StreamName
first = record { own = 3; target = 3; number = 0 }

-- the station uses the number again
abbrev again : StreamName
again = record { own = 3; target = 3; number = 7 }

last_began : name_in (first ∷ again ∷ []) 3 ≡ Some again
last_began = refl

other_number : name_in (first ∷ again ∷ []) 4 ≡ None
other_number = refl

its_number : named_stream (first ∷ again ∷ []) 3 ≡ 7
its_number = refl

its_handle : named_handle first 4 ≡ 1
its_handle = refl

other_way : named_handle first 1 ≡ 4
other_way = refl

another_handle : named_handle first 9 ≡ 9
another_handle = refl

in_a_message : named_bytes first (0x66 ∷ 0 ∷ 0 ∷ 0 ∷ 4 ∷ 0 ∷ 0 ∷ 0 ∷ 5 ∷ []) ≡ 0x66 ∷ 0 ∷ 0 ∷ 0 ∷ 1 ∷ 0 ∷ 0 ∷ 0 ∷ 5 ∷ []
in_a_message = refl

too_short : named_bytes first (4 ∷ 0 ∷ []) ≡ 4 ∷ 0 ∷ []
too_short = refl

unregister_session : is_of_station (0x66 ∷ 0 ∷ 0 ∷ []) ≡ true
unregister_session = refl

nop : is_of_station (0 ∷ 0 ∷ []) ≡ true
nop = refl

register_session : is_of_station (0x65 ∷ 0 ∷ []) ≡ false
register_session = refl

one_byte : is_of_station (0 ∷ []) ≡ false
one_byte = refl
