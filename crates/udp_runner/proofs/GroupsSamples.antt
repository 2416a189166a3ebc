-- Which groups a port uses, worked by hand.
use Rattle.std.proofs.Common.{◌≡◌, ℕ, [], ◌∷◌, Some, None, true, false, refl}
use Rattle.cip_types.specs.declared.names.Node.{Node}
use Rattle.udp_runner.specs.Groups.GroupUse.{group_port, is_due, is_to_add, next_try, sent_port, uses_groups, with_group}
use Rattle.udp_runner.specs.declared.groups.group.DataGroup.{DataGroup}

abbrev at : ℕ → Node
at address = record { 0 = address }

-- 126.255.255.255 and 128.0.0.0 are addresses of networks, 127.0.0.0 and 127.255.255.255 are not
last_of_loopback : uses_groups None (at 2147483647) ≡ false
last_of_loopback = refl

first_of_loopback : uses_groups None (at 2130706432) ≡ false
first_of_loopback = refl

before_loopback : uses_groups None (at 2130706431) ≡ true
before_loopback = refl

behind_loopback : uses_groups None (at 2147483648) ≡ true
behind_loopback = refl

each_address : uses_groups None (at 0) ≡ true
each_address = refl

-- an option comes first
groups_on_loopback : uses_groups (Some true) (at 2130706433) ≡ true
groups_on_loopback = refl

copies_on_a_network : uses_groups (Some false) (at 167772161) ≡ false
copies_on_a_network = refl

-- 239.192.1.0, and 10.0.0.1
to_a_group : sent_port (at 4022337792) 2230 ≡ 2222
to_a_group = refl

to_a_peer : sent_port (at 167772161) 2230 ≡ 2230
to_a_peer = refl

unnamed_port : group_port 0 ≡ 2222
unnamed_port = refl

named_port : group_port 2230 ≡ 2230
named_port = refl

-- 239.192.1.0 at two UDP ports
abbrev usual : DataGroup
usual = record { address = at 4022337792; port = 2222 }

abbrev other : DataGroup
other = record { address = at 4022337792; port = 2230 }

each_once : with_group (with_group (with_group [] (Some usual)) (Some other)) (Some usual) ≡ usual ∷ other ∷ []
each_once = refl

none_is_added : with_group (usual ∷ []) None ≡ usual ∷ []
none_is_added = refl

at_an_address_a_socket_is_added : is_to_add (at 167772161) 2222 usual false ≡ true
at_an_address_a_socket_is_added = refl

not_twice : is_to_add (at 167772161) 2222 usual true ≡ false
not_twice = refl

at_each_address_none_is_needed : is_to_add (at 0) 2222 usual false ≡ false
at_each_address_none_is_needed = refl

but_for_another_port : is_to_add (at 0) 2231 usual false ≡ true
but_for_another_port = refl

five_seconds_later : is_due false (next_try 7) 5007 ≡ true
five_seconds_later = refl

not_before : is_due false (next_try 7) 5006 ≡ false
not_before = refl

a_bound_one_is_not_due : is_due true 0 5 ≡ false
a_bound_one_is_not_due = refl
