-- Lines with names behind them, worked by hand.
use Rattle.std.specs.Prelude.{ℕ, codes}
use Rattle.std.proofs.Common.{◌≡◌, List, [], ◌∷◌, refl}
use Rattle.trace_words.specs.declared.point_names.line.Named.TheVariants as named
use Rattle.trace_words.specs.Words.{number_of}
use Rattle.trace_words.specs.PointNames.Labels.{labelled_line, labelled_text}
use Rattle.trace_words.specs.PointNames.Things.{DeviceEntry, PointName}

abbrev names : List PointName
names = (named.Point 150, codes "Valves") ∷ (named.Point 100, codes "Levels") ∷ (named.Slot 0, codes "Press") ∷ (named.Bit 150 0 0, codes "Open") ∷ []

abbrev devices : List DeviceEntry
devices = (codes "10.0.0.2", codes "press") ∷ (codes "10.0.0.1", codes "line") ∷ []

abbrev labelled : List ℕ → List ℕ
labelled line = labelled_line names devices line

-- POINTS AND SLOTS

an_output_has_its_name : labelled (codes "12 at 340 output 150 00000000") ≡ codes "12 at 340 output 150 00000000 # 150 (Valves)"
unfolding number_of
an_output_has_its_name = refl

an_image_has_the_name_of_its_slot : labelled (codes "12 at 340 image 0 0102") ≡ codes "12 at 340 image 0 0102 # slot 0 (Press)"
unfolding number_of
an_image_has_the_name_of_its_slot = refl

another_number_has_no_name : labelled (codes "150 at 150 output 151 0150") ≡ codes "150 at 150 output 151 0150"
unfolding number_of
another_number_has_no_name = refl

an_owner_has_the_names_of_output_and_device : labelled (codes "7 at 20 owner 150 10.0.0.1 run age 3") ≡ codes "7 at 20 owner 150 10.0.0.1 run age 3 # 150 (Valves), 10.0.0.1 (line)"
unfolding number_of
an_owner_has_the_names_of_output_and_device = refl

a_connection_has_the_names_of_both_points : labelled (codes "7 at 20 connection 10000000 10.0.0.1 input 152 100 api 100 100 open - age 3") ≡ codes "7 at 20 connection 10000000 10.0.0.1 input 152 100 api 100 100 open - age 3 # 10.0.0.1 (line), 100 (Levels)"
unfolding number_of
a_connection_has_the_names_of_both_points = refl

an_exclusive_owner_has_them_too : labelled (codes "7 at 20 connection - 10.0.0.9 exclusive 150 100 api 10 10") ≡ codes "7 at 20 connection - 10.0.0.9 exclusive 150 100 api 10 10 # 150 (Valves), 100 (Levels)"
unfolding number_of
an_exclusive_owner_has_them_too = refl

counts_of_a_connection_have_no_names : labelled (codes "7 at 20 gaps connection 10000000 since 150 sent 100 wrong-size 150") ≡ codes "7 at 20 gaps connection 10000000 since 150 sent 100 wrong-size 150"
unfolding number_of
counts_of_a_connection_have_no_names = refl

the_points_of_a_target_are_not_those_of_its_scanner : labelled (codes "7 at 20 slot 0 10.0.0.2 exclusive 150 100 config - opening") ≡ codes "7 at 20 slot 0 10.0.0.2 exclusive 150 100 config - opening # slot 0 (Press), 10.0.0.2 (press)"
unfolding number_of
the_points_of_a_target_are_not_those_of_its_scanner = refl

a_slot_says_why_under_its_name : labelled (codes "7 at 20 why slot 0 no stream: 10.0.0.2 refuses a stream; the next try is in 2.1 s") ≡ codes "7 at 20 why slot 0 no stream: 10.0.0.2 refuses a stream; the next try is in 2.1 s # slot 0 (Press), 10.0.0.2 (press)"
unfolding number_of
a_slot_says_why_under_its_name = refl

-- NOTICES, COMMENTS AND REPORTS

a_notice_of_a_slot_has_its_name : labelled (codes "9 note slot 0 3") ≡ codes "9 note slot 0 3 # slot 0 (Press)"
unfolding number_of
a_notice_of_a_slot_has_its_name = refl

a_refusal_has_the_name_of_its_slot : labelled (codes "9 note refused 0 cip 01 0106") ≡ codes "9 note refused 0 cip 01 0106 # slot 0 (Press)"
unfolding number_of
a_refusal_has_the_name_of_its_slot = refl

a_comment_has_names : labelled (codes "# slot 0 is not opened: no readable reply") ≡ codes "# slot 0 is not opened: no readable reply # slot 0 (Press)"
unfolding number_of
a_comment_has_names = refl

a_report_has_names : labelled (codes "eip_station: slot 0: the datagrams of 10.0.0.2 have 3 bytes of data") ≡ codes "eip_station: slot 0: the datagrams of 10.0.0.2 have 3 bytes of data # slot 0 (Press), 10.0.0.2 (press)"
unfolding number_of
a_report_has_names = refl

what_is_refused_is_no_slot : labelled (codes "eip_station: a connection of 10.0.0.9 is refused: 0 streams are open") ≡ codes "eip_station: a connection of 10.0.0.9 is refused: 0 streams are open"
unfolding number_of
what_is_refused_is_no_slot = refl

-- DEVICES

the_same_address_behind_itself_is_named_once : labelled (codes "9 send 10.0.0.2 10.0.0.2 00ff") ≡ codes "9 send 10.0.0.2 10.0.0.2 00ff # 10.0.0.2 (press)"
unfolding number_of
the_same_address_behind_itself_is_named_once = refl

each_address_of_a_list_has_its_name : labelled (codes "9 send 239.192.0.1 10.0.0.2,10.0.0.1 00ff") ≡ codes "9 send 239.192.0.1 10.0.0.2,10.0.0.1 00ff # 10.0.0.2 (press), 10.0.0.1 (line)"
unfolding number_of
each_address_of_a_list_has_its_name = refl

a_longer_address_is_another_one : labelled (codes "eip_station: stream 1 of 10.0.0.22 is open") ≡ codes "eip_station: stream 1 of 10.0.0.22 is open"
unfolding number_of
a_longer_address_is_another_one = refl

quoted_text_has_no_names : labelled (codes "7 at 20 get 10.0.0.2 1 1 7 product-name \"slot 0 of 10.0.0.1\"") ≡ codes "7 at 20 get 10.0.0.2 1 1 7 product-name \"slot 0 of 10.0.0.1\" # 10.0.0.2 (press)"
unfolding number_of
quoted_text_has_no_names = refl

-- TEXTS

each_line_of_a_text_has_its_own : labelled_text names devices (codes "1 note slot 0 3\n2 at 5 image 1 00\n") ≡ codes "1 note slot 0 3 # slot 0 (Press)\n2 at 5 image 1 00\n"
unfolding number_of
each_line_of_a_text_has_its_own = refl

without_names_each_byte_stays : labelled_text [] [] (codes "1 note slot 0 3\n2 at 5 output 150 00\n") ≡ codes "1 note slot 0 3\n2 at 5 output 150 00\n"
unfolding number_of
without_names_each_byte_stays = refl
