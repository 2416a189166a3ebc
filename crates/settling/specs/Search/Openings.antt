-- Which streams are opened first, and between whom.
use Rattle.std.specs.Prelude.{◌≡◌, ℕ, zero, suc, ◌+◌, ◌==◌, nat_lt, max, Bool, if◌then◌else◌, List, [], ◌∷◌, ◌++◌, length, position, Option, Some, None, Ok}
use Rattle.cip_types.specs.declared.names.Node.{Node}
use Rattle.cip_events.specs.declared.event.Event.{Event}
use Rattle.cip_events.specs.declared.event.Event.TheVariants.{StreamOpened, Frame, StreamCut}
use Rattle.segment_world.specs.declared.act.Act.{Act}
use Rattle.segment_world.specs.declared.act.Act.TheVariants.{OpenStream}
use Rattle.segment_world.specs.World.{World}
use Rattle.segment_world.specs.Story.{begins, runs}

-- HOW MANY

-- one more than the stream that an event names
abbrev pub named : Event → ℕ
named (StreamOpened stream peer) = stream + 1
named (Frame stream bytes) = stream + 1
named (StreamCut stream) = stream + 1
named other = 0

abbrev pub named_in : List Event → ℕ
named_in [] = 0
named_in (e ∷ es) = max (named e) (named_in es)

-- how many streams are opened: up to the greatest number that is named
abbrev pub named_by : List (List Event) → ℕ
named_by [] = 0
named_by (h ∷ hs) = max (named_in h) (named_by hs)

-- BETWEEN WHOM

-- the peer that opens this stream, or is opened to
abbrev pub peer_if : ℕ → Event → Option Node
peer_if n (StreamOpened stream peer) = if stream == n then Some peer else None
peer_if n other = None

abbrev pub first_some : Option Node → Option Node → Option Node
first_some None other = other
first_some (Some p) other = Some p

-- .. of the first event that is a StreamOpened of it
abbrev pub peer_in : ℕ → List Event → Option Node
peer_in n [] = None
peer_in n (e ∷ es) = first_some (peer_if n e) (peer_in n es)

abbrev pub first_pair : ℕ → Option Node → Option (ℕ × Node) → Option (ℕ × Node)
first_pair i None other = other
first_pair i (Some p) other = Some (i, p)

-- the first device that has such an event, with the peer that the event names
abbrev pub opener : ℕ → ℕ → List (List Event) → Option (ℕ × Node)
opener n i [] = None
opener n i (h ∷ hs) = first_pair i (peer_in n h) (opener n (i + 1) hs)

-- a stream runs between two devices: the first two, where the histories do not tell
abbrev pub pair_if : ℕ → Option ℕ → ℕ × ℕ
pair_if i None = (0, 1)
pair_if i (Some j) = if i == j then (0, 1) else (i, j)

abbrev pub has_address : ℕ → Node → Bool
has_address address node = node.0 == address

abbrev pub pair_from : List Node → Option (ℕ × Node) → ℕ × ℕ
pair_from nodes None = (0, 1)
pair_from nodes (Some p) = pair_if p.0 (position (has_address p.1.0) nodes)

-- the endpoints of a stream: the first device that has its StreamOpened, and the peer that this event names
abbrev pub pair_of : List Node → List (List Event) → ℕ → ℕ × ℕ
pair_of nodes hs n = pair_from nodes (opener n 0 hs)

-- THE ACTS

abbrev pub open_act : ℕ × ℕ → Act
open_act p = OpenStream p.0 p.1

-- the acts that open the streams below n
abbrev pub opens_below : List Node → List (List Event) → ℕ → List Act
opens_below nodes hs zero = []
opens_below nodes hs (suc n) = opens_below nodes hs n ++ open_act (pair_of nodes hs n) ∷ []

-- with one device none
abbrev pub opens : List Node → List (List Event) → List Act
opens nodes hs = if nat_lt (length hs) 2 then [] else opens_below nodes hs (named_by hs)

-- WHAT THEY LEAD TO

-- the world before the first act, for these histories
pub record Opening (start : World) (hs : List (List Event)) : Type 0 where
  pub tables : length start.tables ≡ length hs
  pub nodes : length start.nodes ≡ length hs
  pub streams : start.streams ≡ []

-- the streams below n are open, and nothing else has changed
pub record Opened (start : World) (hs : List (List Event)) (n : ℕ) (acts : List Act) (w : World) : Type 0 where
  pub acts_are : acts ≡ opens_below start.nodes hs n
  pub runs_so : runs (begins start) acts ≡ Ok (record { world = w; reported = [] })
  pub tables : w.tables ≡ start.tables
  pub nodes : w.nodes ≡ start.nodes
  pub count : length w.streams ≡ n

-- the streams that the histories name are open
pub record FirstOpen (start : World) (hs : List (List Event)) (acts : List Act) (w : World) : Type 0 where
  pub acts_are : acts ≡ opens start.nodes hs
  pub runs_so : runs (begins start) acts ≡ Ok (record { world = w; reported = [] })
  pub tables : w.tables ≡ start.tables
