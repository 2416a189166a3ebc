-- Names behind a line that a station prints: ` # 150 (Valves), slot 0 (Press), 10.0.0.2 (press)`.
--
-- A word of the line says what the next one is: behind `output` and `owner` stands the number of a point; behind `image`, `slot`,
-- `refused` and `no-ids` that of a slot; behind `connection`, and behind its kind, the numbers of two points. Any other word may be
-- the address of a device. Behind a quotation mark stands text, in which nothing is named.
use Rattle.std.specs.Prelude.{ℕ, ◌==◌, ◌||◌, Bool, true, false, if◌then◌else◌, List, [], ◌∷◌, ◌++◌, bytes_eq, codes, option_and_then, Option, Some, None}
use Rattle.std.specs.List.{slice_split}
use Rattle.trace_words.specs.PointNames.Lines.{number_in}
use Rattle.trace_words.specs.PointNames.Things.{DeviceEntry, PointName, device_name, name_of}
use Rattle.trace_words.specs.declared.point_names.labels.Expected.{Expected}
use Rattle.trace_words.specs.declared.point_names.labels.Expected.TheVariants as expected
use Rattle.trace_words.specs.declared.point_names.line.Named.TheVariants as named

-- WORDS

-- a space, a comma, a colon and a semicolon each end a word
abbrev pub is_gap : ℕ → Bool
is_gap byte = byte == 32 || (byte == 44 || (byte == 58 || byte == 59))

abbrev pub words_in : List ℕ → List (List ℕ)
words_in line = slice_split is_gap line

-- the number of a point stands behind it
abbrev pub leads_point : List ℕ → Bool
leads_point word = bytes_eq word (codes "output") || bytes_eq word (codes "owner")

-- the number of a slot stands behind it
abbrev pub leads_slot : List ℕ → Bool
leads_slot word = (bytes_eq word (codes "image") || bytes_eq word (codes "slot")) || (bytes_eq word (codes "refused") || bytes_eq word (codes "no-ids"))

-- the kind of a connection, behind which two points stand
abbrev pub is_kind : List ℕ → Bool
is_kind word = bytes_eq word (codes "exclusive") || (bytes_eq word (codes "input") || bytes_eq word (codes "listen"))

-- a quotation mark is its first byte
abbrev pub is_quoted : List ℕ → Bool
is_quoted [] = false
is_quoted (first ∷ rest) = first == 34

-- what stands behind a word
abbrev pub led_by : List ℕ → Expected
led_by word =
    if leads_point word then expected.Point
    else if leads_slot word then expected.Slot
    else if bytes_eq word (codes "connection") then expected.Kind
    else if is_quoted word then expected.Text
    else expected.Other

-- what stands behind a word of a connection, which is its kind or not
abbrev pub behind_kind : Bool → Expected
behind_kind true = expected.Points
behind_kind false = expected.Kind

-- what stands behind a word that stood for this
abbrev pub expected_after : Expected → List ℕ → Expected
expected_after expected.Text word = expected.Text
expected_after expected.Points word = expected.Point
expected_after expected.Kind word = behind_kind (is_kind word)
expected_after any word = led_by word

-- NAMES

-- the name of what a word stands for
abbrev pub found_name : List PointName → List DeviceEntry → Expected → List ℕ → Option (List ℕ)
found_name names devices expected.Point word = option_and_then (λ point. name_of names (named.Point point)) (number_in word)
found_name names devices expected.Points word = option_and_then (λ point. name_of names (named.Point point)) (number_in word)
found_name names devices expected.Slot word = option_and_then (λ slot. name_of names (named.Slot slot)) (number_in word)
found_name names devices expected.Text word = None
found_name names devices any word = device_name devices word

-- a word that is the same as the one in front of it names nothing again
abbrev pub name_behind : List PointName → List DeviceEntry → Expected → (before word : List ℕ) → Option (List ℕ)
name_behind names devices expects before word = if bytes_eq word before then None else found_name names devices expects word

-- LABELS

-- the first label of a line, or one behind another
abbrev pub label_mark : Bool → List ℕ
label_mark true = codes " # "
label_mark false = codes ", "

-- what stands in front of a number
abbrev pub label_front : Expected → List ℕ
label_front expected.Slot = codes "slot "
label_front any = []

-- a word with its name behind it; nothing without a name
abbrev pub label_text : Bool → Expected → List ℕ → Option (List ℕ) → List ℕ
label_text first expects word None = []
label_text first expects word (Some name) = label_mark first ++ (label_front expects ++ (word ++ (codes " (" ++ (name ++ codes ")"))))

-- whether the next label is the first one, behind a word with or without a name
abbrev pub is_still_first : Bool → Option (List ℕ) → Bool
is_still_first first (Some name) = false
is_still_first first None = first

-- the labels of words, of which the first one stands for this, behind this word
abbrev pub labels_from : List PointName → List DeviceEntry → (first : Bool) → Expected → (before : List ℕ) → List (List ℕ) → List ℕ
labels_from names devices first expects before [] = []
labels_from names devices first expects before (word ∷ words) =
    let name = name_behind names devices expects before word in
    label_text first expects word name ++ labels_from names devices (is_still_first first name) (expected_after expects word) word words

abbrev pub labels_of : List PointName → List DeviceEntry → List ℕ → List ℕ
labels_of names devices line = labels_from names devices true expected.Other [] (words_in line)

-- LINES

-- a line with its labels behind it
abbrev pub labelled_line : List PointName → List DeviceEntry → List ℕ → List ℕ
labelled_line names devices line = line ++ labels_of names devices line

abbrev pub is_line_feed : ℕ → Bool
is_line_feed byte = byte == 10

-- the parts between one LF and the next; no LF ends the last part
abbrev pub lines_in : List ℕ → List (List ℕ)
lines_in text = slice_split is_line_feed text

-- lines, each behind the LF that ends the one before
abbrev pub more_lines : List PointName → List DeviceEntry → List (List ℕ) → List ℕ
more_lines names devices [] = []
more_lines names devices (line ∷ lines) = 10 ∷ (labelled_line names devices line ++ more_lines names devices lines)

abbrev pub labelled_lines : List PointName → List DeviceEntry → List (List ℕ) → List ℕ
labelled_lines names devices [] = []
labelled_lines names devices (line ∷ lines) = labelled_line names devices line ++ more_lines names devices lines

-- a text of lines, each with its labels behind it
abbrev pub labelled_text : List PointName → List DeviceEntry → List ℕ → List ℕ
labelled_text names devices text = labelled_lines names devices (lines_in text)
