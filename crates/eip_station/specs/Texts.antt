-- The names of a station's files, and the lines that say where a station and its page are.
use Rattle.std.specs.Prelude.{ℕ, ◌==◌, if◌then◌else◌, Bool, List, [], ◌∷◌, ◌++◌, codes, decimal, Option, Some, None}
use Rattle.cip_types.specs.declared.names.Node.{Node}
use Rattle.station_port.specs.declared.place.StationPlace.{StationPlace}
use Rattle.trace_words.specs.Words.{node_word}

-- the state's file: the one that is given, or PROFILE.state
abbrev pub state_name : Option (List ℕ) → List ℕ → List ℕ
state_name (Some name) profile = name
state_name None profile = profile ++ codes ".state"

-- the record of a life, of which the first has this one: FILE, FILE.life-2, ..
abbrev pub record_name : List ℕ → (life : ℕ) → List ℕ
record_name first life = if life == 1 then first else first ++ (codes ".life-" ++ decimal life)

abbrev pub record_words : Option (List ℕ) → List ℕ
record_words (Some name) = codes "record " ++ (name ++ codes "\n")
record_words None = codes "no record\n"

abbrev pub kind_word : (scanner : Bool) → List ℕ
kind_word scanner = if scanner then codes "scanner" else codes "adapter"

abbrev pub start_front : List ℕ → List ℕ → List ℕ
start_front kind profile = codes "eip_station: " ++ (kind ++ (codes " " ++ (profile ++ codes " at ")))

abbrev pub ports_text : StationPlace → ℕ → List ℕ
ports_text place incarnation = codes ", TCP " ++ (decimal place.tcp ++ (codes ", UDP " ++ (decimal place.udp ++ (codes ", incarnation " ++ (decimal incarnation ++ codes ", ")))))

-- which station has started: `eip_station: KIND PROFILE at ADDRESS, TCP PORT, UDP PORT, incarnation N, record FILE`
abbrev pub start_text : List ℕ → List ℕ → StationPlace → ℕ → Option (List ℕ) → List ℕ
start_text kind profile place incarnation file = start_front kind profile ++ (node_word place.address ++ (ports_text place incarnation ++ record_words file))

abbrev pub token_text : List ℕ → List ℕ
token_text [] = []
token_text (byte ∷ bytes) = codes "#" ++ (byte ∷ bytes)

-- where a page is: `eip_station: page at http://ADDRESS:PORT/#TOKEN`
abbrev pub page_text : Node → ℕ → List ℕ → List ℕ
page_text address port token = codes "eip_station: page at http://" ++ (node_word address ++ (codes ":" ++ (decimal port ++ (codes "/" ++ (token_text token ++ codes "\n")))))
