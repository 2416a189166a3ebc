-- Connections and lists of them: which connection drives an output, and which has a triad
-- (Volume 1, chapter 3, application connection types and connection triads).
use Rattle.std.specs.Prelude.{ℕ, ◌==◌, ◌&&◌, not, Bool, true, false, if◌then◌else◌, List, [], ◌∷◌, length, filter}
use Rattle.std.specs.List.{list_any}
use Rattle.cip_types.specs.declared.names.Node.{Node}
use Rattle.cip_types.specs.declared.names.Triad.{Triad}
use Rattle.adapter_table.specs.Connections.{Row}
use Rattle.cip_productions.specs.declared.kind.Kind.{Kind}
use Rattle.adapter_table.specs.declared.row.State.{State}
use Rattle.adapter_table.specs.declared.row.State.TheVariants.{Established, TimedOut}
use Rattle.cip_productions.specs.Kinds.{is_owner, is_listener, same_kind}

-- the most connections of an adapter, timed-out ones among them
abbrev pub most_rows : ℕ
most_rows = 64

abbrev pub lives : State → Bool
lives (Established production) = true
lives TimedOut = false

abbrev pub is_established : Row → Bool
is_established row = lives row.state

abbrev pub is_timed_out : Row → Bool
is_timed_out row = not (is_established row)

abbrev pub same_triad : Triad → Triad → Bool
same_triad a b = a.serial == b.serial && (a.vendor == b.vendor && a.originator == b.originator)

abbrev pub has_triad : Triad → Row → Bool
has_triad triad row = same_triad row.triad triad

-- the triad is that of an established connection
abbrev pub holds_triad : Triad → Row → Bool
holds_triad triad row = is_established row && has_triad triad row

-- the connection is the established exclusive owner of the output
abbrev pub drives : ℕ → Row → Bool
drives point row = is_established row && (is_owner row.kind && row.consumed == point)

-- the drivers of an output
abbrev pub drivers : ℕ → List Row → List Row
drivers point rows = filter (drives point) rows

-- the connection is established, and shares the multicast producer of the input
abbrev pub is_member : ℕ → Row → Bool
is_member point row = is_established row && (row.multicast && row.produced == point)

-- the connection supports one of the kind on the input: it is of another kind and shares the producer
abbrev pub supports : Kind → ℕ → Row → Bool
supports kind point row = is_member point row && not (same_kind row.kind kind)

-- a connection of the kind on the input is supported
abbrev pub is_supported : List Row → Kind → ℕ → Bool
is_supported rows kind point = list_any (supports kind point) rows

-- the connection is an established listen-only one without support
abbrev pub is_unsupported : List Row → Row → Bool
is_unsupported rows row = is_established row && (is_listener row.kind && not (is_supported rows row.kind row.produced))

-- the connection is established, and of this application type
abbrev pub is_of_kind : Kind → Row → Bool
is_of_kind kind row = is_established row && same_kind row.kind kind

-- how many established connections of an application type there are
abbrev pub kind_count : List Row → Kind → ℕ
kind_count rows kind = length (filter (is_of_kind kind) rows)

-- the connection is established, and this node opened it
abbrev pub is_of_node : Node → Row → Bool
is_of_node node row = is_established row && row.peer.0 == node.0

-- how many established connections of a node there are
abbrev pub node_count : List Row → Node → ℕ
node_count rows node = length (filter (is_of_node node) rows)

-- the connections that fail a test
abbrev pub others : (Row → Bool) → List Row → List Row
others test rows = filter (λ row. not (test row)) rows

-- ---- facts of each connection, and of each two

-- it holds of each
abbrev pub Each : (Row → Type 0) → List Row → Type 0
Each P [] = Unit {0}
Each P (row ∷ rows) = P row × Each P rows

-- it holds of each connection and each later one
abbrev pub EachTwo : (Row → Row → Type 0) → List Row → Type 0
EachTwo R [] = Unit {0}
EachTwo R (row ∷ rows) = Each (R row) rows × EachTwo R rows

-- ---- writes

-- an established connection's producer has new data
abbrev pub written_state : State → State
written_state (Established production) = Established (record production { written = true })
written_state TimedOut = TimedOut

-- the input of the connection was written
abbrev pub written_row : ℕ → Row → Row
written_row point row = if row.produced == point then record row { state = written_state row.state } else row
