-- What two files of a host say, worked by hand: 192.168.0.0/24 and the way to everywhere by eth0, 10.10.10.0/24 by eth1.
use Rattle.std.proofs.Common.{◌≡◌, ℕ, List, [], ◌∷◌, ◌++◌, Some, None, refl, codes, flat_map}
use Rattle.std.specs.Int.{w32, to_le_bytes}
use Rattle.station_port.specs.Counters.HostLines.{lines_of, word_of, behind_word, word_behind, behind_words, decimal_from, decimal_of, hex_value}
use Rattle.station_port.specs.Counters.HostFiles.{address_of, mask_to, longest_from, interface_with, interface_of, counts_in, numbers_in, counters_of, link_counters}

-- ---- lines and words

the_last_line_may_have_no_end : lines_of (codes "a b\n\nc") ≡ codes "a b" ∷ [] ∷ codes "c" ∷ []
unfolding lines_of
the_last_line_may_have_no_end = refl

no_line_behind_the_last_end : lines_of (codes "a\n") ≡ codes "a" ∷ []
unfolding lines_of
no_line_behind_the_last_end = refl

words : (word_behind 0 (codes "  eth0\t0000A8C0 ") ≡ codes "eth0") × ((word_behind 1 (codes "  eth0\t0000A8C0 ") ≡ codes "0000A8C0") × (word_behind 2 (codes "  eth0\t0000A8C0 ") ≡ []))
unfolding word_of behind_word behind_words
words = (refl, (refl, refl))

-- ---- numbers

numbers : (decimal_of (codes "4021337") ≡ Some 4021337) × ((decimal_of (codes "5307214981") ≡ Some 1012247685) × (decimal_of (codes "0") ≡ Some 0))
unfolding decimal_from
numbers = (refl, (refl, refl))

the_largest_of_64_bits : decimal_of (codes "18446744073709551615") ≡ Some 4294967295
unfolding decimal_from
the_largest_of_64_bits = refl

no_numbers : (decimal_of [] ≡ None) × ((decimal_of (codes "12a") ≡ None) × (decimal_of (codes "000000000000000000001") ≡ None))
unfolding decimal_from
no_numbers = (refl, (refl, refl))

digits : (hex_value 0x30 ≡ Some 0) × ((hex_value 0x39 ≡ Some 9) × ((hex_value 0x41 ≡ Some 10) × ((hex_value 0x46 ≡ Some 15) × ((hex_value 0x61 ≡ Some 10) × (hex_value 0x66 ≡ Some 15)))))
digits = (refl, (refl, (refl, (refl, (refl, refl)))))

no_digits : (hex_value 0x2F ≡ None) × ((hex_value 0x3A ≡ None) × ((hex_value 0x40 ≡ None) × ((hex_value 0x47 ≡ None) × ((hex_value 0x60 ≡ None) × (hex_value 0x67 ≡ None)))))
no_digits = (refl, (refl, (refl, (refl, (refl, refl)))))

-- 192.168.0.1, and 10.31.4.18 in lower case
addresses : (address_of (codes "0100A8C0") ≡ Some 0xC0A80001) × (address_of (codes "12041f0a") ≡ Some 0x0A1F0412)
unfolding address_of
addresses = (refl, refl)

no_addresses : (address_of (codes "100A8C0") ≡ None) × ((address_of (codes "0100A8CG") ≡ None) × (address_of (codes "Destination") ≡ None))
unfolding address_of
no_addresses = (refl, (refl, refl))

-- ---- the interface of an address

abbrev titles : List ℕ
titles = codes "Iface\tDestination\tGateway \tFlags\tRefCnt\tUse\tMetric\tMask\t\tMTU\tWindow\tIRTT            \n"

abbrev everywhere : List ℕ
everywhere = codes "eth0\t00000000\t0100A8C0\t0003\t0\t0\t100\t00000000\t0\t0\t0               \n"

abbrev own_network : List ℕ
own_network = codes "eth0\t0000A8C0\t00000000\t0001\t0\t0\t100\t00FFFFFF\t0\t0\t0               \n"

abbrev machines : List ℕ
machines = codes "eth1\t000A0A0A\t00000000\t0001\t0\t0\t101\t00FFFFFF\t0\t0\t0               \n"

-- 192.168.0.0/16 by wlan0
abbrev wide : List ℕ
wide = codes "wlan0\t0000A8C0\t00000000\t0001\t0\t0\t600\t0000FFFF\t0\t0\t0              \n"

-- 192.168.0.0/24 by eth2
abbrev twin : List ℕ
twin = codes "eth2\t0000A8C0\t00000000\t0001\t0\t0\t900\t00FFFFFF\t0\t0\t0               \n"

abbrev routes : List ℕ
routes = titles ++ (everywhere ++ (machines ++ own_network))

in_its_own_network : interface_of routes (record { 0 = 0xC0A80007 }) ≡ Some (codes "eth0")
unfolding lines_of word_of behind_word behind_words address_of mask_to longest_from interface_with
in_its_own_network = refl

in_another_network : interface_of routes (record { 0 = 0x0A0A0A01 }) ≡ Some (codes "eth1")
unfolding lines_of word_of behind_word behind_words address_of mask_to longest_from interface_with
in_another_network = refl

by_the_way_to_everywhere : interface_of routes (record { 0 = 0x08080808 }) ≡ Some (codes "eth0")
unfolding lines_of word_of behind_word behind_words address_of mask_to longest_from interface_with
by_the_way_to_everywhere = refl

by_no_way : interface_of (titles ++ (machines ++ own_network)) (record { 0 = 0x08080808 }) ≡ None
unfolding lines_of word_of behind_word behind_words address_of mask_to longest_from interface_with
by_no_way = refl

by_the_longest_mask : interface_of (titles ++ (wide ++ own_network)) (record { 0 = 0xC0A80007 }) ≡ Some (codes "eth0")
unfolding lines_of word_of behind_word behind_words address_of mask_to longest_from interface_with
by_the_longest_mask = refl

by_the_longest_mask_in_front : interface_of (titles ++ (own_network ++ wide)) (record { 0 = 0xC0A80007 }) ≡ Some (codes "eth0")
unfolding lines_of word_of behind_word behind_words address_of mask_to longest_from interface_with
by_the_longest_mask_in_front = refl

by_a_shorter_mask : interface_of (titles ++ (own_network ++ wide)) (record { 0 = 0xC0A80507 }) ≡ Some (codes "wlan0")
unfolding lines_of word_of behind_word behind_words address_of mask_to longest_from interface_with
by_a_shorter_mask = refl

by_the_first_of_two : interface_of (titles ++ (own_network ++ twin)) (record { 0 = 0xC0A80007 }) ≡ Some (codes "eth0")
unfolding lines_of word_of behind_word behind_words address_of mask_to longest_from interface_with
by_the_first_of_two = refl

by_the_loopback : (interface_of [] (record { 0 = 0x7F000001 }) ≡ Some (codes "lo")) × (interface_of routes (record { 0 = 0x7F1F0203 }) ≡ Some (codes "lo"))
unfolding lines_of word_of behind_word behind_words address_of mask_to longest_from interface_with
by_the_loopback = (refl, refl)

-- ---- what was counted

abbrev heads : List ℕ
heads = codes "Inter-|   Receive                                                |  Transmit\n face |bytes    packets errs drop fifo frame compressed multicast|bytes    packets errs drop fifo colls carrier compressed\n"

abbrev loopback : List ℕ
loopback = codes "    lo: 1904572    9612    0    0    0     0          0         0  1904572    9612    0    0    0     0       0          0\n"

abbrev eth0 : List ℕ
eth0 = codes "  eth0: 5307214981 4021337    3   17    2     1          0      5120 918273645 3120456    4    6    7     8       5          0\n"

-- as a kernel writes it that leaves no space behind the colon
abbrev eth01 : List ℕ
eth01 = codes " eth01:70 2 0 0 0 0 0 1 80 3 0 0 0 0 0 0\n"

abbrev short : List ℕ
short = codes "  eth3: 70 2 0 0 0 0 0 1 80 3 0 0 0 0 0\n"

abbrev counts : List ℕ
counts = heads ++ (loopback ++ (eth01 ++ (eth0 ++ short)))

abbrev bytes_of : List ℕ → List ℕ
bytes_of numbers = flat_map (to_le_bytes w32) numbers

-- 5,307,214,981 octets are 1,012,247,685 and 2^32; of 4,021,337 packets 5,120 are multicast
of_eth0 : link_counters counts (codes "eth0")
    ≡ Some (bytes_of (1012247685 ∷ 4016217 ∷ 5120 ∷ 17 ∷ 3 ∷ 0 ∷ 918273645 ∷ 3120456 ∷ 0 ∷ 6 ∷ 4 ∷ 1 ∷ 0 ∷ 0 ∷ 8 ∷ 0 ∷ 0 ∷ 0 ∷ 0 ∷ 7 ∷ 5 ∷ 0 ∷ 2 ∷ []))
unfolding lines_of word_of behind_word decimal_from counts_in numbers_in
of_eth0 = refl

of_a_longer_name : link_counters counts (codes "eth01")
    ≡ Some (bytes_of (70 ∷ 1 ∷ 1 ∷ 0 ∷ 0 ∷ 0 ∷ 80 ∷ 3 ∷ 0 ∷ 0 ∷ 0 ∷ 0 ∷ 0 ∷ 0 ∷ 0 ∷ 0 ∷ 0 ∷ 0 ∷ 0 ∷ 0 ∷ 0 ∷ 0 ∷ 0 ∷ []))
unfolding lines_of word_of behind_word decimal_from counts_in numbers_in
of_a_longer_name = refl

of_no_interface : (link_counters counts (codes "eth1") ≡ None) × (link_counters [] (codes "eth0") ≡ None)
unfolding lines_of word_of behind_word decimal_from counts_in numbers_in
of_no_interface = (refl, refl)

fifteen_numbers_are_none : link_counters counts (codes "eth3") ≡ None
unfolding lines_of word_of behind_word decimal_from counts_in numbers_in
fifteen_numbers_are_none = refl

-- the count of packets has begun anew behind 2^32 - 1, and that of multicast ones has not
unicast_packets_of_a_count_that_began_anew : counters_of (9 ∷ 2 ∷ 0 ∷ 0 ∷ 0 ∷ 0 ∷ 0 ∷ 5 ∷ [])
    ≡ 9 ∷ 4294967293 ∷ 5 ∷ 0 ∷ 0 ∷ 0 ∷ 0 ∷ 0 ∷ 0 ∷ 0 ∷ 0 ∷ 0 ∷ 0 ∷ 0 ∷ 0 ∷ 0 ∷ 0 ∷ 0 ∷ 0 ∷ 0 ∷ 0 ∷ 0 ∷ 0 ∷ []
unicast_packets_of_a_count_that_began_anew = refl
