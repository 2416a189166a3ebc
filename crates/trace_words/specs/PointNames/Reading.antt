-- The names that the text of a profile says, line by line. The first line that names a thing counts.
use Rattle.std.specs.Prelude.{ℕ, ◌+◌, ◌&&◌, Bool, if◌then◌else◌, List, [], ◌∷◌, ◌++◌, Option, Some, None}
use Rattle.std.specs.Str.{is_utf8}
use Rattle.trace_words.specs.PointNames.Lines.{name_kind, named_by}
use Rattle.trace_words.specs.PointNames.Texts.{is_plain}
use Rattle.trace_words.specs.PointNames.Things.{PointName, name_of}
use Rattle.trace_words.specs.declared.point_names.line.NameKind.{NameKind}
use Rattle.trace_words.specs.declared.point_names.line.Named.{Named}
use Rattle.trace_words.specs.declared.point_names.names.BadName.{BadName}
use Rattle.trace_words.specs.declared.point_names.names.NameLineFault.{NameLineFault}
use Rattle.trace_words.specs.declared.point_names.names.NameLineFault.TheVariants as fault

-- ONE LINE

-- the names behind a line, and its fault if it names nothing
abbrev pub Taken : Type 0
Taken = List PointName × Option NameLineFault

-- whether bytes are the text of a name
abbrev pub is_name_text : List ℕ → Bool
is_name_text bytes = is_utf8 bytes && is_plain bytes

-- a thing with its name, unless an earlier line names it
abbrev pub name_taken : List PointName → Named → List ℕ → Option (List ℕ) → Taken
name_taken names thing text None = (names ++ (thing, text) ∷ [], None)
name_taken names thing text (Some earlier) = (names, Some fault.Repeated)

abbrev pub text_taken : List PointName → Named → List ℕ → Taken
text_taken names thing text =
    if is_name_text text then name_taken names thing text (name_of names thing) else (names, Some fault.Text)

-- the thing that a name line names, and the text of its name
abbrev pub thing_taken : List PointName → Option (Named × List ℕ) → Taken
thing_taken names None = (names, Some fault.Words)
thing_taken names (Some named) = text_taken names named.0 named.1

-- the kind of a name line, and its other words; another line names nothing
abbrev pub kind_taken : List PointName → Option (NameKind × List ℕ) → Taken
kind_taken names None = (names, None)
kind_taken names (Some line) = thing_taken names (named_by line.0 line.1)

abbrev pub line_taken : List PointName → List ℕ → Taken
line_taken names line = kind_taken names (name_kind line)

-- ALL LINES

-- the names behind lines, of which these are the names before
abbrev pub names_behind : List PointName → List (List ℕ) → List PointName
names_behind names [] = names
names_behind names (line ∷ lines) = names_behind (line_taken names line).0 lines

-- a line of this number, if it has a fault
abbrev pub bad_line : ℕ → Option NameLineFault → List BadName
bad_line number None = []
bad_line number (Some fault) = record { line = number; fault = fault } ∷ []

-- the bad lines, of which the first has this number
abbrev pub bad_lines : ℕ → List PointName → List (List ℕ) → List BadName
bad_lines number names [] = []
bad_lines number names (line ∷ lines) = bad_line number (line_taken names line).1 ++ bad_lines (number + 1) (line_taken names line).0 lines
