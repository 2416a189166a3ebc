-- The limits of an adapter's maker, a row each: the first word of its line, the kinds of the other words, how the line is
-- read and written, what it states, and the ranges of its numbers. What is behind the rows follows from them.
use Rattle.std.specs.Prelude.{ℕ, ◌<◌, ◌^◌, ◌&&◌, not, nat_le, if◌then◌else◌, Bool, true, List, [], ◌∷◌, ◌++◌, codes, decimal, drop, flat_map, map, is_none, is_some, option_map, option_to_list, Option, Some, None, IfSome}
use Rattle.std.specs.List.{find, list_any}
use Rattle.cip_types.specs.declared.limits.TheConstants.{LONGEST_RPI_US}
use Rattle.cip_productions.specs.declared.window.TheConstants.{FARTHEST_NUMBER}
use Rattle.adapter_table.specs.declared.maker_limits.MakerLimits.{MakerLimits}
use Rattle.adapter_table.specs.Profiles.{all_places}
use Rattle.trace_lines.specs.declared.limit_lines.LimitName.{LimitName}
use Rattle.trace_lines.specs.declared.limit_lines.LimitName.TheVariants as name
use Rattle.trace_lines.specs.declared.limit_lines.LimitLine.{LimitLine}
use Rattle.trace_lines.specs.declared.limit_lines.LimitLine.TheVariants as limit
use Rattle.trace_lines.specs.declared.limit_lines.LimitNumber.{LimitNumber}
use Rattle.trace_lines.specs.declared.limit_lines.LimitNumber.TheVariants as number
use Rattle.trace_lines.specs.declared.limit_lines.StatedNumber.{StatedNumber}
use Rattle.trace_lines.specs.declared.limit_lines.NumberRange.{NumberRange}
use Rattle.trace_lines.specs.declared.limit_lines.TheConstants.{LIMITS, MOST_PLACES, MOST_OPENINGS}
use Rattle.trace_lines.specs.declared.shapes.TheConstants.{NUMBER, PLACES, CLASS3_PLACES, NODE_CONNECTIONS, NODE_OPENINGS, CLOSERS}
use Rattle.trace_words.specs.Reader.{Reader, gives, ends, Meanings, meaning, ◌>>=◌}
use Rattle.trace_words.specs.Words.{line_text}
use Rattle.trace_lines.specs.Shapes.{Shape, shaped, spelled}

-- WORDS THAT MAY FOLLOW

-- how many class 3 connections, where the line goes on
abbrev pub stated_class3_connections : Reader (Option ℕ)
stated_class3_connections = shaped CLASS3_PLACES (λ number. ends (Some number))

abbrev pub class3_connections_reader : Reader (Option ℕ)
class3_connections_reader [] = Some (None, [])
class3_connections_reader (word ∷ words) = stated_class3_connections (word ∷ words)

abbrev pub class3_words : Option ℕ → List (List ℕ)
class3_words None = []
class3_words (Some number) = spelled [] CLASS3_PLACES number

-- how many openings of one node in a second, where the line goes on
abbrev pub stated_openings : Reader (Option ℕ)
stated_openings = shaped NODE_OPENINGS (λ said number. ends (Some number))

abbrev pub openings_reader : Reader (Option ℕ)
openings_reader [] = Some (None, [])
openings_reader (word ∷ words) = stated_openings (word ∷ words)

abbrev pub opening_words : Option ℕ → List (List ℕ)
opening_words None = []
opening_words (Some number) = spelled [] NODE_OPENINGS tt number

-- THE ROWS

-- the first word of the line
abbrev pub keyword : LimitName → List ℕ
keyword name.LeastRpi = codes "least-rpi"
keyword name.Places = codes "places"
keyword name.NodeConnections = codes "node-connections"
keyword name.OwnClosers = codes "closers"
keyword name.Newer = codes "newer"

-- the kinds of the words behind it, and of those that may follow
abbrev pub limit_shape : LimitName → Shape
limit_shape name.LeastRpi = (NUMBER, [])
limit_shape name.Places = (PLACES, CLASS3_PLACES)
limit_shape name.NodeConnections = (NODE_CONNECTIONS, NODE_OPENINGS)
limit_shape name.OwnClosers = (CLOSERS, [])
limit_shape name.Newer = (NUMBER, [])

-- how these words are read: the least packet interval in microseconds; exclusive owners, input-only and listen-only
-- connections, and class 3 connections or not; connections of one node, and openings in a second or not; that only the node
-- that opened a connection closes it; and how far ahead a sequence number may be
abbrev pub limit_reader : LimitName → Reader LimitLine
limit_reader name.LeastRpi = shaped NUMBER (λ us. ends (limit.LeastRpi us))
limit_reader name.Places = shaped PLACES (λ owners readers listeners. class3_connections_reader >>= λ class3_connections. gives (limit.Places (record {
  owners = owners;
  readers = readers;
  listeners = listeners;
  class3_connections = class3_connections;
})))
limit_reader name.NodeConnections = shaped NODE_CONNECTIONS (λ connections. openings_reader >>= λ openings. gives (limit.NodeConnections (record {
  connections = connections;
  openings = openings;
})))
limit_reader name.OwnClosers = shaped CLOSERS (λ own. ends limit.OwnClosers)
limit_reader name.Newer = shaped NUMBER (λ within. ends (limit.Newer within))

-- the words of the line
abbrev pub limit_words : LimitLine → List (List ℕ)
limit_words (limit.LeastRpi us) = spelled (keyword name.LeastRpi ∷ []) NUMBER us
limit_words (limit.Places places) = spelled (keyword name.Places ∷ []) PLACES places.owners places.readers places.listeners ++ class3_words places.class3_connections
limit_words (limit.NodeConnections node) = spelled (keyword name.NodeConnections ∷ []) NODE_CONNECTIONS node.connections ++ opening_words node.openings
limit_words limit.OwnClosers = spelled (keyword name.OwnClosers ∷ []) CLOSERS tt
limit_words (limit.Newer within) = spelled (keyword name.Newer ∷ []) NUMBER within

-- what is stated
abbrev pub stated_line : MakerLimits → LimitName → Option LimitLine
stated_line limits name.LeastRpi = option_map limit.LeastRpi limits.least_rpi
stated_line limits name.Places = option_map limit.Places limits.places
stated_line limits name.NodeConnections = option_map limit.NodeConnections limits.node_connections
stated_line limits name.OwnClosers = if limits.own_closers then Some limit.OwnClosers else None
stated_line limits name.Newer = option_map limit.Newer limits.newer

-- the limits with what a line states
abbrev pub with_line : MakerLimits → LimitLine → MakerLimits
with_line limits (limit.LeastRpi us) = record limits { least_rpi = Some us }
with_line limits (limit.Places places) = record limits { places = Some places }
with_line limits (limit.NodeConnections node) = record limits { node_connections = Some node }
with_line limits limit.OwnClosers = record limits { own_closers = true }
with_line limits (limit.Newer within) = record limits { newer = Some within }

-- the place of a line among those of limits
abbrev pub place : LimitLine → ℕ
place (limit.LeastRpi us) = 0
place (limit.Places places) = 1
place (limit.NodeConnections node) = 2
place limit.OwnClosers = 3
place (limit.Newer within) = 4

-- the numbers are those of their types
abbrev pub LimitFits : LimitLine → Type 0
LimitFits (limit.LeastRpi us) = us < 2 ^ 32
LimitFits (limit.Places places) = (places.owners < 2 ^ 8) × (places.readers < 2 ^ 8) × (places.listeners < 2 ^ 8) × IfSome places.class3_connections (λ number. number < 2 ^ 8)
LimitFits (limit.NodeConnections node) = (node.connections < 2 ^ 8) × IfSome node.openings (λ number. number < 2 ^ 16)
LimitFits limit.OwnClosers = Unit {0}
LimitFits (limit.Newer within) = within < 2 ^ 32

-- a number with this value
abbrev pub stated : LimitNumber → ℕ → StatedNumber
stated number value = record { number = number; value = value }

-- the numbers of a line, in the order in which they are judged
abbrev pub numbers_of : LimitLine → List StatedNumber
numbers_of (limit.LeastRpi us) = stated number.LeastRpi us ∷ []
numbers_of (limit.Places places) = stated number.AllPlaces (all_places places) ∷ option_to_list (option_map (stated number.Class3Places) places.class3_connections)
numbers_of (limit.NodeConnections node) = stated number.NodeConnections node.connections ∷ option_to_list (option_map (stated number.NodeOpenings) node.openings)
numbers_of limit.OwnClosers = []
numbers_of (limit.Newer within) = stated number.Newer within ∷ []

abbrev pub range_at : ℕ → ℕ → ℕ → NumberRange
range_at word least most = record { word = word; least = least; most = most }

-- the word of a number in its line, and its range; the places are stated by the whole line
abbrev pub number_range : LimitNumber → NumberRange
number_range number.LeastRpi = range_at 2 1 LONGEST_RPI_US
number_range number.AllPlaces = range_at 1 1 MOST_PLACES
number_range number.Class3Places = range_at 5 0 MOST_PLACES
number_range number.NodeConnections = range_at 2 1 MOST_PLACES
number_range number.NodeOpenings = range_at 4 1 MOST_OPENINGS
number_range number.Newer = range_at 2 2 FARTHEST_NUMBER

-- that word; what the whole line states has its first word
abbrev pub number_word : LimitNumber → ℕ → List ℕ
number_word number.AllPlaces value = keyword name.Places
number_word other value = decimal value

-- WHAT FOLLOWS FROM THE ROWS

-- the limit whose line begins with this word
abbrev pub limit_meanings : Meanings (Option LimitName)
limit_meanings = map (λ row. (keyword row, Some row)) LIMITS

abbrev pub limit_named : List ℕ → Option LimitName
limit_named word = meaning limit_meanings None word

-- whether it is stated
abbrev pub is_stated : MakerLimits → LimitName → Bool
is_stated limits row = is_some (stated_line limits row)

-- the limits with that of one line more; None if it, or one of a line behind it, is stated already
abbrev pub with_limit : MakerLimits → LimitLine → Option MakerLimits
with_limit limits line = if list_any (is_stated limits) (drop (place line) LIMITS) then None else Some (with_line limits line)

-- the lines of these limits
abbrev pub lines_of : MakerLimits → List LimitName → List LimitLine
lines_of limits rows = flat_map (λ row. option_to_list (stated_line limits row)) rows

abbrev pub limit_lines : MakerLimits → List LimitLine
limit_lines limits = lines_of limits LIMITS

-- the line of a limit, where it is stated
abbrev pub limit_text : Option LimitLine → List ℕ
limit_text None = []
limit_text (Some line) = line_text (limit_words line)

abbrev pub limits_text : MakerLimits → List ℕ
limits_text limits = flat_map (λ row. limit_text (stated_line limits row)) LIMITS

-- a number is out of its range
abbrev pub is_out_of_range : StatedNumber → Bool
is_out_of_range said = not (nat_le (number_range said.number).least said.value && nat_le said.value (number_range said.number).most)

-- the first number of a line that is out of its range
abbrev pub bad_number : LimitLine → Option StatedNumber
bad_number line = find is_out_of_range (numbers_of line)

-- a limit is not stated, or none of its numbers is
abbrev pub is_good : Option LimitLine → Bool
is_good None = true
is_good (Some line) = is_none (bad_number line)
