-- Openings in a second, at both sides of each edge: samples, by hand.
use Rattle.std.proofs.Common.{◌≡◌, ℕ, true, false, List, [], ◌∷◌, ◌++◌, map, Some, None, refl}
use Rattle.std.specs.List.{range_with_len}
use Rattle.cip_types.specs.declared.names.Ms.{Ms}
use Rattle.cip_types.specs.declared.names.Node.{Node}
use Rattle.adapter_table.specs.declared.opening_rates.rates.NodeOpenings.{NodeOpenings}
use Rattle.adapter_table.specs.OpeningRates.Rates.{has_opened_enough, counted, counted_openings}

-- 192.168.1.20 and 192.168.1.21
abbrev first_node : Node
first_node = record { 0 = 0xC0A80114 }

abbrev second_node : Node
second_node = record { 0 = 0xC0A80115 }

abbrev at : ℕ → Ms
at ms = record { 0 = ms }

-- the openings of a node in the second that began then
abbrev opens : Node → (since count : ℕ) → NodeOpenings
opens node since count = record { node = node; since = at since; count = count }

-- the first node opened at 5,000 ms, the second one at 5,400 and again at 5,900
abbrev openings : List NodeOpenings
openings = opens first_node 5000 1 ∷ opens second_node 5400 2 ∷ []

-- two in a second: the second node has enough until 6,399 ms, the first one has not
two_in_a_second : (has_opened_enough (Some 2) (at 6399) second_node openings ≡ true) × (has_opened_enough (Some 2) (at 6400) second_node openings ≡ false) × (has_opened_enough (Some 2) (at 5999) first_node openings ≡ false)
two_in_a_second = (refl, refl, refl)

-- where none is stated
no_bound : has_opened_enough None (at 5400) second_node openings ≡ false
no_bound = refl

-- it counts in the second that runs, and is the last one from then on
counted_within : counted_openings (Some 2) (at 5999) first_node openings ≡ opens second_node 5400 2 ∷ opens first_node 5000 2 ∷ []
counted_within = refl

-- a second that is over is forgotten, and begins anew
counted_anew : counted_openings (Some 2) (at 6000) first_node openings ≡ opens second_node 5400 2 ∷ opens first_node 6000 1 ∷ []
counted_anew = refl

-- nothing is counted where none is stated
not_counted : counted_openings None (at 5999) first_node [] ≡ []
not_counted = refl

-- of 64 other nodes the first makes room
abbrev crowd : ℕ → List NodeOpenings
crowd number = map (λ node. opens (record { 0 = node }) 5000 1) (range_with_len 1 number)

the_first_makes_room : (counted (at 5001) first_node (crowd 64) ≡ map (λ node. opens (record { 0 = node }) 5000 1) (range_with_len 2 63) ++ opens first_node 5001 1 ∷ []) × (counted (at 5001) first_node (crowd 63) ≡ crowd 63 ++ opens first_node 5001 1 ∷ [])
the_first_makes_room = (refl, refl)
