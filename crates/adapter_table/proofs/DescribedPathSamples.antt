-- What a described adapter makes of a path, of its key, and of packet intervals, and any other: samples, by hand.
use Rattle.std.proofs.Common.{◌≡◌, ℕ, false, List, [], ◌∷◌, Option, Some, None, Ok, Err, refl}
use Rattle.cip_netparams.specs.declared.ConnectionType.TheVariants.{PointToPoint}
use Rattle.cip_netparams.specs.declared.NetParams.{NetParams}
use Rattle.cip_netparams.specs.declared.Priority.TheVariants.{Scheduled}
use Rattle.cip_epath.specs.declared.fault.PathFault.TheVariants as fault
use Rattle.cip_epath.specs.ElectronicKey.{KeyFields}
use Rattle.cip_epath.specs.Reading as paths
use Rattle.cip_epath.specs.AnyPath as any
use Rattle.cip_fwdopen.specs.Open.{OpenFields}
use Rattle.cip_router.specs.declared.refusal.Refusal.TheVariants as refusal
use Rattle.cip_router.specs.Replies.{refused, unacceptable}
use Rattle.adapter_table.specs.declared.profile.Action.TheVariants.{Zero}
use Rattle.adapter_table.specs.declared.profile.Description.{Description}
use Rattle.adapter_table.specs.declared.profile.Profile.{Profile}
use Rattle.adapter_table.specs.Profiles.{no_limits}
use Rattle.adapter_table.specs.Checks.{key_check}
use Rattle.adapter_table.specs.Intervals.{whole_request, least_us, open_refusal}
use Rattle.adapter_table.specs.Paths.{opening_path, names_another}

abbrev described : Option Description
described = Some (record { serial = 0x04030201; name = []; port = 44818; speed = 100; flags = 0xF; mac = []; inactivity = 120 })

-- an adapter at 192.168.1.10 with the output 150 and the input 100, of 2 and 4 bytes
abbrev profile : Option Description → Profile
profile description = record {
  incarnation = 0x10;
  node = record { 0 = 0xC0A8010A };
  mask = 0xFFFFFF00;
  identity = record { vendor = 1; device_type = 12; product = 7; major = 2; minor = 3 };
  outputs = record { instance = 150; len = 2; idle = Zero; fault = Zero } ∷ [];
  inputs = record { instance = 100; len = 4 } ∷ [];
  config = None;
  input_only = 152;
  listen_only = 153;
  description = description;
  limits = no_limits;
  objects = [];
  ids = None;
}

-- ---- paths

-- class 4, point 150, class 4, point 100
abbrev uncompressed : List ℕ
uncompressed = 0x20 ∷ 4 ∷ 0x2C ∷ 150 ∷ 0x20 ∷ 4 ∷ 0x2C ∷ 100 ∷ []

a_class_in_front_of_each_point : opening_path described uncompressed ≡ Ok (record { key = None; inhibit = None; class = 4; config = None; consumed = 150; produced = 100; segment = None })
unfolding any.any_path_reading any.any_segments_at any.any_segment_at paths.segment_at paths.logical_at paths.value_at
a_class_in_front_of_each_point = refl

by_others_it_is_misarranged : opening_path None uncompressed ≡ Err fault.Shape
unfolding paths.path_reading paths.segments_at paths.segment_at paths.logical_at paths.value_at
by_others_it_is_misarranged = refl

-- ---- keys

-- a key of format 5 with this first byte of the serial number, whose others are 2, 3 and 4
abbrev with_serial : ℕ → List ℕ
with_serial first = 0x34 ∷ 5 ∷ 1 ∷ 0 ∷ 12 ∷ 0 ∷ 7 ∷ 0 ∷ 2 ∷ 3 ∷ first ∷ 2 ∷ 3 ∷ 4 ∷ []

abbrev its_key : KeyFields
its_key = record { vendor = 1; device_type = 12; product = 7; compatible = false; major = 2; minor = 3 }

its_serial_number_is_accepted : key_check (profile described) (with_serial 1) (Some its_key) ≡ None
unfolding any.key_serial any.serial_key_at paths.key_fields_at
its_serial_number_is_accepted = refl

another_serial_number_is_refused : key_check (profile described) (with_serial 2) (Some its_key) ≡ Some refusal.VendorOrProduct
unfolding any.key_serial any.serial_key_at paths.key_fields_at
another_serial_number_is_refused = refl

-- the fields that a key of format 4 has too are judged before
another_type_is_refused_first : key_check (profile described) (with_serial 2) (Some (record its_key { device_type = 13 })) ≡ Some refusal.DeviceType
another_type_is_refused_first = refl

serial_number_0_is_of_any_device : names_another described (0x34 ∷ 5 ∷ 1 ∷ 0 ∷ 12 ∷ 0 ∷ 7 ∷ 0 ∷ 2 ∷ 3 ∷ 0 ∷ 0 ∷ 0 ∷ 0 ∷ []) ≡ false
unfolding any.key_serial any.serial_key_at paths.key_fields_at
serial_number_0_is_of_any_device = refl

-- without a key that reads nothing is judged
no_key_is_judged : key_check (profile described) (with_serial 2) None ≡ None
no_key_is_judged = refl

-- ---- packet intervals

abbrev plain : NetParams
plain = record { size = 10; variable = false; priority = Scheduled; kind = PointToPoint; redundant = false }

-- a request of these intervals, in microseconds
abbrev request : (o_t t_o : ℕ) → OpenFields
request o_t t_o = record {
  priority_tick = 10;
  ticks = 14;
  o_t_id = record { 0 = 0 };
  t_o_id = record { 0 = 0x20000001 };
  triad = record { serial = 1; vendor = 0x1234; originator = 0x12345678 };
  multiplier = 0;
  o_t_rpi = o_t;
  o_t_params = plain;
  t_o_rpi = t_o;
  t_o_params = plain;
  trigger = 1;
  path = [];
}

-- whole milliseconds, rounded down; below one nothing is left
intervals_are_rounded_down : (whole_request described (request 2500 9999999) ≡ request 2000 9999000) × (whole_request described (request 999 1001) ≡ request 0 1000)
intervals_are_rounded_down = (refl, refl)

whole_intervals_stay : (whole_request described (request 1000 10000000) ≡ request 1000 10000000) × (whole_request described (request 0 10000001) ≡ request 0 10000001)
whole_intervals_stay = (refl, refl)

by_others_they_are_taken_as_they_are : whole_request None (request 2500 999) ≡ request 2500 999
by_others_they_are_taken_as_they_are = refl

-- the O->T interval is below a millisecond, the T->O one is accepted
too_short_an_interval :
    open_refusal (profile described) [] 0x54 (request 0 10000) refusal.PacketInterval
    ≡ unacceptable 0x54 (record { o_t_says = 2; t_o_says = 0; o_t_us = 1000; t_o_us = 10000 }) (request 0 10000).triad
unfolding any.any_path_reading any.any_segments_at
too_short_an_interval = refl

too_long_an_interval :
    open_refusal (profile described) [] 0x5B (request 10000 10000001) refusal.PacketInterval
    ≡ unacceptable 0x5B (record { o_t_says = 0; t_o_says = 3; o_t_us = 10000; t_o_us = 10000000 }) (request 0 0).triad
unfolding any.any_path_reading any.any_segments_at
too_long_an_interval = refl

-- another group's production inhibit time is no interval
intervals_that_are_accepted :
    open_refusal (profile described) [] 0x54 (request 10000 10000) refusal.PacketInterval
    ≡ refused 0x54 (record { general = 1; extended = Some 0x0111 }) (Some (request 0 0).triad)
unfolding any.any_path_reading any.any_segments_at
intervals_that_are_accepted = refl

another_refusal :
    open_refusal (profile described) [] 0x54 (request 0 0) refusal.Ownership ≡ refused 0x54 (record { general = 1; extended = Some 0x0106 }) (Some (request 0 0).triad)
unfolding any.any_path_reading any.any_segments_at
another_refusal = refl

by_others_the_interval_is_refused :
    open_refusal (profile None) [] 0x54 (request 0 10000) refusal.PacketInterval ≡ refused 0x54 (record { general = 1; extended = Some 0x0111 }) (Some (request 0 0).triad)
by_others_the_interval_is_refused = refl

-- the maker's least of 2,500 us is 3,000 us in whole milliseconds
the_makers_least : least_us (Some 2500) ≡ 3000
the_makers_least = refl
