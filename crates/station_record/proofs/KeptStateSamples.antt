-- States and their texts, worked by hand.
use Rattle.std.proofs.Common.{◌≡◌, Some, None, true, false, refl}
use Rattle.std.specs.Fmt.{digits}
use Rattle.std.specs.Prelude.{codes}
use Rattle.station_record.specs.KeptState.Ids.{drawn_ids, ends_circle, given_back, life_block, next_block, unused_ids, wants_block, with_reserved}
use Rattle.station_record.specs.KeptState.States.{begun, next_state, state_of, state_text}
use Rattle.trace_words.specs.Words.{number_of}

text_of_17 : state_text (record { incarnation = 17; serial = 5; serials = Some 9; ids = None }) ≡ codes "incarnation 17\nserial 5\nserials 9\n"
unfolding digits
text_of_17 = refl

behind_254 : next_state (record { incarnation = 254; serial = 7; serials = Some 1; ids = None }) 3 ≡ record { incarnation = 255; serial = 7; serials = Some 32897; ids = None }
behind_254 = refl

behind_255 : next_state (record { incarnation = 255; serial = 7; serials = Some 32897; ids = None }) 3 ≡ record { incarnation = 1; serial = 7; serials = Some 258; ids = None }
behind_255 = refl

first_start : begun None None 16 99 ≡ record { incarnation = 16; serial = 99; serials = Some 100; ids = None }
first_start = refl

later_start : begun (Some (record { incarnation = 16; serial = 99; serials = None; ids = None })) None 16 5 ≡ record { incarnation = 17; serial = 99; serials = Some 6; ids = None }
later_start = refl

given_start : begun (Some (record { incarnation = 16; serial = 99; serials = Some 32640; ids = None })) (Some 40) 16 5 ≡ record { incarnation = 40; serial = 99; serials = Some 1; ids = None }
given_start = refl

read_17 : state_of (codes "incarnation 17\nserial 5\n") ≡ Some (record { incarnation = 17; serial = 5; serials = None; ids = None })
unfolding number_of
read_17 = refl

no_incarnation_0 : state_of (codes "incarnation 0\nserial 5\n") ≡ None
unfolding number_of
no_incarnation_0 = refl

no_more_lines : state_of (codes "incarnation 17\nserial 5\n\n") ≡ None
unfolding number_of
no_more_lines = refl

no_half_line : state_of (codes "incarnation 17\nserial 5") ≡ None
unfolding number_of
no_half_line = refl

read_serials : state_of (codes "incarnation 17\nserial 5\nserials 65535\n") ≡ Some (record { incarnation = 17; serial = 5; serials = Some 65535; ids = None })
unfolding number_of
read_serials = refl

no_serials_0 : state_of (codes "incarnation 17\nserial 5\nserials 0\n") ≡ None
unfolding number_of
no_serials_0 = refl

no_serials_above : state_of (codes "incarnation 17\nserial 5\nserials 65536\n") ≡ None
unfolding number_of
no_serials_above = refl

-- CONNECTION IDS

text_of_ids : state_text (record { incarnation = 17; serial = 5; serials = Some 9; ids = Some (record { from = 4097; left = 4294963199 }) }) ≡ codes "incarnation 17\nserial 5\nserials 9\nids 4097 4294963199\n"
unfolding digits
text_of_ids = refl

read_ids : state_of (codes "incarnation 17\nserial 5\nserials 9\nids 4097 0\n") ≡ Some (record { incarnation = 17; serial = 5; serials = Some 9; ids = Some (record { from = 4097; left = 0 }) })
unfolding number_of
read_ids = refl

-- an id is no 0 and has 32 bits; two numbers are in the line, and no line is behind it
no_ids_0 : state_of (codes "incarnation 17\nserial 5\nserials 9\nids 0 5\n") ≡ None
unfolding number_of
no_ids_0 = refl

no_ids_above : state_of (codes "incarnation 17\nserial 5\nserials 9\nids 4294967296 5\n") ≡ None
unfolding number_of
no_ids_above = refl

no_single_number : state_of (codes "incarnation 17\nserial 5\nserials 9\nids 5\n") ≡ None
unfolding number_of
no_single_number = refl

no_line_behind : state_of (codes "incarnation 17\nserial 5\nserials 9\nids 5 5\nids 5 5\n") ≡ None
unfolding number_of
no_line_behind = refl

-- a state that is made
drawn_last : drawn_ids 4294967294 ≡ record { from = 4294967295; left = 4294967295 }
drawn_last = refl

drawn_around : drawn_ids 4294967295 ≡ record { from = 1; left = 4294967295 }
drawn_around = refl

-- a block of 4,096 from 10 on, and the state that reserves it
block_of_10 : next_block (record { from = 10; left = 5000 }) ≡ record { first = 10; count = 4096 }
block_of_10 = refl

behind_block_of_10 : with_reserved (record { from = 10; left = 5000 }) ≡ record { from = 4106; left = 904 }
behind_block_of_10 = refl

-- the last three ids of all; 1 is behind them
last_block : next_block (record { from = 4294967293; left = 5000 }) ≡ record { first = 4294967293; count = 3 }
last_block = refl

behind_last_block : with_reserved (record { from = 4294967293; left = 5000 }) ≡ record { from = 1; left = 4997 }
behind_last_block = refl

-- 904 are left, and the block has 4,096: ids come again
circle_ends : ends_circle (record { from = 4106; left = 904 }) ≡ true
circle_ends = refl

circle_goes_on : ends_circle (record { from = 4106; left = 4096 }) ≡ false
circle_goes_on = refl

behind_circle : with_reserved (record { from = 4106; left = 904 }) ≡ record { from = 8202; left = 4294963199 }
behind_circle = refl

-- 4,000 of the block are given back, and over the end of all
back_to_106 : given_back (record { from = 4106; left = 904 }) 4000 ≡ record { from = 106; left = 4904 }
back_to_106 = refl

back_over_the_end : given_back (record { from = 1; left = 4997 }) 2 ≡ record { from = 4294967294; left = 4999 }
back_over_the_end = refl

-- a life begins at a place of the first half of its block: 2,049 places of 4,096
first_place : life_block (record { first = 10; count = 4096 }) 2049 ≡ record { first = 10; count = 4096 }
first_place = refl

last_place : life_block (record { first = 10; count = 4096 }) 2048 ≡ record { first = 2058; count = 2048 }
last_place = refl

single_id : life_block (record { first = 4294967295; count = 1 }) 77 ≡ record { first = 4294967295; count = 1 }
single_id = refl

wants_at_half : wants_block 2048 ≡ true
wants_at_half = refl

wants_none_above : wants_block 2049 ≡ false
wants_none_above = refl

-- a life that gave nothing gives all back but its first id
all_but_the_first : unused_ids 4096 4096 ≡ 4095
all_but_the_first = refl

what_is_left : unused_ids 4000 4096 ≡ 4000
what_is_left = refl
