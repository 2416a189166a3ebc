-- The section of the Connection Manager (Volume 1, chapter 7, electronic data sheets: Connection Manager).
--
-- The fields of a connection are, one line each:
--
--   trigger and transport     bits 0 to 15 transport classes, 16 to 18 triggers cyclic, change of state, application,
--                             24 listen only, 25 input only, 26 exclusive owner, 27 redundant owner
--   connection parameters     0, 1 O->T fixed and variable size; 2, 3 T->O; 8 to 10 O->T format, 12 to 14 T->O format
--                             (0 data alone, 3 heartbeat, 4 run/idle header); 16 to 19 O->T types null, multicast,
--                             point to point, reserved; 20 to 23 T->O; 24 to 27 O->T priorities low, high, scheduled; 28 to 31 T->O
--   O->T                      packet interval; bytes of the point; assembly
--   T->O                      the same
--   configuration of a proxy  bytes; assembly
--   configuration             bytes; assembly
--   name; help; path          the path of a Forward_Open, in hexadecimal digits
use Rattle.std.specs.Prelude.{ℕ, ◌+◌, Bool, true, false, List, [], ◌∷◌, ◌++◌, codes, decimal, flat_map, Option, Some, None}
use Rattle.std.specs.Option.{option_map}
use Rattle.hex.specs.Hex.{encode_upper}
use Rattle.adapter_table.specs.declared.profile.InputPoint.{InputPoint}
use Rattle.cip_epath.specs.Path.{PathFields}
use Rattle.cip_epath.specs.Written.{path_text}
use Rattle.cip_productions.specs.declared.kind.Kind.{Kind}
use Rattle.cip_productions.specs.declared.kind.Kind.TheVariants.{ExclusiveOwner, InputOnly, ListenOnly}
use Rattle.eds_text.specs.declared.connections.SheetConnection.{SheetConnection}

-- the digits of the kind
abbrev pub kind_bits : Kind → List ℕ
kind_bits ExclusiveOwner = codes "04"
kind_bits InputOnly = codes "02"
kind_bits ListenOnly = codes "01"

-- those of the triggers: cyclic, and change of state or not
abbrev pub trigger_bits : Bool → List ℕ
trigger_bits true = codes "03"
trigger_bits false = codes "01"

-- fixed sizes, scheduled; point to point O->T. The O->T format is a run/idle header, or a heartbeat. T->O is data alone,
-- multicast or point to point, and multicast alone of listen only
abbrev pub format_bits : Kind → List ℕ
format_bits ExclusiveOwner = codes "44640405"
format_bits InputOnly = codes "44640305"
format_bits ListenOnly = codes "44240305"

-- class 1, its triggers and its kind; its formats
unfoldable pub kind_lines : Bool → Kind → List ℕ
kind_lines changes kind = codes "                0x" ++ (kind_bits kind ++ (trigger_bits changes ++ (codes "0002,\n                0x" ++ (format_bits kind ++ codes ",\n"))))

-- the packet interval of Param1, and a point
unfoldable pub point_line : (len instance : ℕ) → List ℕ
point_line len instance = codes "                Param1," ++ (decimal len ++ (codes ",Assem" ++ (decimal instance ++ codes ",\n")))

-- an output, or a heartbeat of no bytes
unfoldable pub o_t_line : SheetConnection → List ℕ
o_t_line c = o_t_line_of c.kind c.o_t_len c.consumed
  where
    o_t_line_of : Kind → ℕ → ℕ → List ℕ
    o_t_line_of ExclusiveOwner len instance = point_line len instance
    o_t_line_of InputOnly len instance = codes "                Param1,0,,\n"
    o_t_line_of ListenOnly len instance = codes "                Param1,0,,\n"

-- no proxy; the configuration, if there is one
unfoldable pub config_lines : Option InputPoint → List ℕ
config_lines None = codes "                ,,\n                ,,\n"
config_lines (Some point) = codes "                ,,\n                " ++ (decimal point.len ++ (codes ",Assem" ++ (decimal point.instance ++ codes ",\n")))

abbrev pub kind_word : Kind → List ℕ
kind_word ExclusiveOwner = codes "Exclusive owner"
kind_word InputOnly = codes "Input only"
kind_word ListenOnly = codes "Listen only"

-- the name, which each connection has alone, and no help
unfoldable pub name_lines : SheetConnection → List ℕ
name_lines c = codes "                \"" ++ (kind_word c.kind ++ (codes " " ++ (decimal c.consumed ++ (codes " " ++ (decimal c.produced ++ codes "\",\n                \"\",\n")))))

-- the path to configuration, consumed and produced point
abbrev pub sheet_path : Option InputPoint → SheetConnection → PathFields
sheet_path config c = record { key = None; inhibit = None; class = 4; config = option_map (λ point. point.instance) config; consumed = c.consumed; produced = c.produced; segment = None }

-- bytes as pairs of digits with spaces between them
unfoldable pub byte_words : List ℕ → List ℕ
byte_words [] = []
byte_words (byte ∷ bytes) = encode_upper (byte ∷ []) ++ flat_map (λ other. codes " " ++ encode_upper (other ∷ [])) bytes

unfoldable pub path_line : Option InputPoint → SheetConnection → List ℕ
path_line config c = codes "                \"" ++ (byte_words (path_text (sheet_path config c)) ++ codes "\";\n")

-- the fields of a connection
unfoldable pub fields_lines : Option InputPoint → SheetConnection → List ℕ
fields_lines config c =
    kind_lines c.changes c.kind
    ++ (o_t_line c
    ++ (point_line c.t_o_len c.produced
    ++ (config_lines config
    ++ (name_lines c
    ++ path_line config c))))

unfoldable pub keyword_line : ℕ → List ℕ
keyword_line number = codes "        Connection" ++ (decimal number ++ codes " =\n")

-- the connection of this number
unfoldable pub connection_text : Option InputPoint → ℕ → SheetConnection → List ℕ
connection_text config number c = keyword_line number ++ fields_lines config c

-- connections, numbered from this number on
abbrev pub connections_text : Option InputPoint → ℕ → List SheetConnection → List ℕ
connections_text config number [] = []
connections_text config number (c ∷ cs) = connection_text config number c ++ connections_text config (number + 1) cs

-- the section
unfoldable pub manager_text : Option InputPoint → List SheetConnection → List ℕ
manager_text config cs = codes "\n[Connection Manager]\n        Object_Name = \"Connection Manager Object\";\n        Object_Class_Code = 0x06;\n" ++ connections_text config 1 cs
