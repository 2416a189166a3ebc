-- The shapes of the lines of a trace by their first words, those of limits by the limits' rows, and the shapes of the parts
-- of an outcome.
use Rattle.std.specs.Prelude.{ℕ, List, [], ◌∷◌, codes, option_map, Option, Some, None}
use Rattle.trace_lines.specs.declared.shapes.WordKind.{WordKind}
use Rattle.trace_lines.specs.declared.shapes.TheConstants.{ADAPTER, OUTPUT, POINT, DESCRIBE, HEARTBEAT, SCANNER, SLOT, RATE, FROM_NODE, EXPLICIT, ANSWER, COUNTERS, STREAM, FRAME, CUT, WRITE, NUMBER, OPENINGS, SERIALS, IDS, MODE, SEND, VALUE, REPLIED, OWN_REQUEST}
use Rattle.trace_words.specs.Reader.{Meanings, meaning}
use Rattle.trace_lines.specs.Limits.{limit_named, limit_shape}
use Rattle.trace_lines.specs.Shapes.{Shape}

abbrev pub alone : List WordKind → Option Shape
alone kinds = Some (kinds, [])

abbrev pub line_shapes : Meanings (Option Shape)
line_shapes =
    (codes "adapter", alone ADAPTER)
    ∷ (codes "output", alone OUTPUT)
    ∷ (codes "input", alone POINT)
    ∷ (codes "config", alone POINT)
    ∷ (codes "describe", alone DESCRIBE)
    ∷ (codes "object", alone NUMBER)
    ∷ (codes "heartbeat", alone HEARTBEAT)
    ∷ (codes "scanner", alone SCANNER)
    ∷ (codes "tidy", alone [])
    ∷ (codes "openings", alone OPENINGS)
    ∷ (codes "serials", alone SERIALS)
    ∷ (codes "ids", alone IDS)
    ∷ (codes "slot", Some (SLOT, RATE))
    ∷ (codes "request", alone FROM_NODE)
    ∷ (codes "inquiry", alone FROM_NODE)
    ∷ (codes "explicit", alone EXPLICIT)
    ∷ (codes "answer", alone ANSWER)
    ∷ (codes "counters", alone COUNTERS)
    ∷ (codes "stream", alone STREAM)
    ∷ (codes "frame", alone FRAME)
    ∷ (codes "cut", alone CUT)
    ∷ (codes "datagram", alone FROM_NODE)
    ∷ (codes "write", alone WRITE)
    ∷ (codes "read", alone NUMBER)
    ∷ (codes "tick", alone NUMBER)
    ∷ (codes "mode", alone MODE)
    ∷ (codes "start", alone NUMBER)
    ∷ (codes "stop", alone NUMBER)
    ∷ []

-- the shape of a line by its first word
abbrev pub shape_of : List ℕ → Option Shape
shape_of word = meaning line_shapes (option_map limit_shape (limit_named word)) word

-- the parts of an outcome by the word behind the number of an event; a fault and a notice have no shape
abbrev pub part_shapes : Meanings (Option Shape)
part_shapes =
    (codes "value", alone VALUE)
    ∷ (codes "replied", alone REPLIED)
    ∷ (codes "asked", alone OWN_REQUEST)
    ∷ (codes "fault", None)
    ∷ (codes "reply", alone FROM_NODE)
    ∷ (codes "frame", alone FRAME)
    ∷ (codes "send", alone SEND)
    ∷ (codes "note", None)
    ∷ []

abbrev pub part_shape_of : List ℕ → Option Shape
part_shape_of word = meaning part_shapes None word
