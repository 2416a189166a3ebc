-- Which streams a line opens: each scanner opens one to each of its targets that is another device of the line.
use Rattle.std.specs.Prelude.{ℕ, ◌==◌, ◌+◌, not, Bool, if◌then◌else◌, List, [], ◌∷◌, ◌++◌, map, filter, position, Option, Some, None}
use Rattle.std.specs.List.{list_any}
use Rattle.cip_types.specs.declared.names.Node.{Node}
use Rattle.cip_tables.specs.declared.table.Config.{Config}
use Rattle.cip_tables.specs.declared.table.Config.TheVariants as config
use Rattle.scanner_table.specs.declared.profile.SlotConfig.{SlotConfig}
use Rattle.line_threads.specs.declared.openings.StreamPlaces.{StreamPlaces}

abbrev pub target_of : SlotConfig → Node
target_of slot = slot.target

-- the targets of a device, slot by slot
abbrev pub targets_of : Config → List Node
targets_of (config.Adapter profile) = []
targets_of (config.Scanner profile) = map target_of profile.slots

abbrev pub is_at : Node → Node → Bool
is_at node other = other.0 == node.0

-- the place of the device with this address
abbrev pub place_of : List Node → Node → Option ℕ
place_of nodes node = position (is_at node) nodes

abbrev pub other_than : ℕ → Option ℕ → List ℕ
other_than own None = []
other_than own (Some place) = if place == own then [] else place ∷ []

-- the other devices of the line that have these addresses
abbrev pub others_at : List Node → ℕ → List Node → List ℕ
others_at nodes own [] = []
others_at nodes own (target ∷ targets) = other_than own (place_of nodes target) ++ others_at nodes own targets

-- each number once, where it comes first
abbrev pub distinct : List ℕ → List ℕ
distinct [] = []
distinct (n ∷ ns) = n ∷ filter (λ m. not (n == m)) (distinct ns)

-- the number is among these
abbrev pub has : ℕ → List ℕ → Bool
has n ns = list_any (λ m. m == n) ns

-- those of the second list that are not among the first
abbrev pub without : List ℕ → List ℕ → List ℕ
without seen ns = filter (λ n. not (has n seen)) ns

-- the devices to which a device of this place and configuration opens a stream
abbrev pub reached : List Node → ℕ → Config → List ℕ
reached nodes own config = distinct (others_at nodes own (targets_of config))

abbrev pub opening : ℕ → ℕ → StreamPlaces
opening from to = record { from = from; to = to }

-- the streams of these devices, of which the first has this place
abbrev pub openings_from : List Node → ℕ → List Config → List StreamPlaces
openings_from nodes place [] = []
openings_from nodes place (config ∷ configs) = map (opening place) (reached nodes place config) ++ openings_from nodes (place + 1) configs

-- the streams of a line, in the order of their numbers
abbrev pub openings : List Node → List Config → List StreamPlaces
openings nodes configs = openings_from nodes 0 configs
