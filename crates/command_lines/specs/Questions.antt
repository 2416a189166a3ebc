-- The commands that ask: for the data sheet of a profile, which devices there are, and what a story comes to.
use Rattle.std.specs.Prelude.{ℕ, if◌then◌else◌, Bool, List, [], ◌∷◌, codes, length, bytes_eq, true, false, Option, Some, None, Result, Ok, Err}
use Rattle.cip_types.specs.declared.names.Node.{Node}
use Rattle.eds_text.specs.Names.{is_name}
use Rattle.trace_words.specs.Words.{node_of}
use Rattle.command_lines.specs.StationOptions.{seconds_of}
use Rattle.command_lines.specs.declared.question_task.SearchTask.{SearchTask}
use Rattle.command_lines.specs.declared.question_task.SheetTask.{SheetTask}
use Rattle.command_lines.specs.declared.question_task.SheetTask.TheVariants as sheet
use Rattle.command_lines.specs.declared.question_task.WorldTask.{WorldTask}
use Rattle.command_lines.specs.declared.station_options.StationMisuse.{StationMisuse}
use Rattle.command_lines.specs.declared.station_options.StationMisuse.TheVariants as misuse

-- a data sheet with names of its own
abbrev pub named_sheet : (vendor product catalog : List ℕ) → Result SheetTask StationMisuse
named_sheet vendor product catalog =
    if is_name vendor then (if is_name product then (if is_name catalog then Ok sheet.Named else Err (misuse.BadName 1)) else Err (misuse.BadName 2))
    else Err (misuse.BadName 3)

-- the data sheet that words request
abbrev pub sheet_of : List (List ℕ) → Result SheetTask StationMisuse
sheet_of [] = Err misuse.NoFile
sheet_of (file ∷ []) = Ok sheet.OfNumbers
sheet_of (file ∷ a ∷ []) = Err (misuse.ThreeNames 1)
sheet_of (file ∷ a ∷ b ∷ []) = Err (misuse.ThreeNames 2)
sheet_of (file ∷ vendor ∷ product ∷ catalog ∷ []) = named_sheet vendor product catalog
sheet_of (file ∷ a ∷ b ∷ c ∷ d ∷ more) = Err (misuse.ThreeNames (length (a ∷ b ∷ c ∷ d ∷ more)))

abbrev pub is_seconds : List ℕ → Bool
is_seconds word = bytes_eq word (codes "--seconds")

abbrev pub found_search : ℕ → ℕ → Option Node → Result SearchTask StationMisuse
found_search left seconds (Some host) = Ok (record { host = host; seconds = seconds })
found_search left seconds None = Err (misuse.BadAddress left)

-- a search at a host; so many words are left, from the host on
abbrev pub search_at : (host : List ℕ) → (left seconds : ℕ) → Result SearchTask StationMisuse
search_at host left seconds = found_search left seconds (node_of host)

abbrev pub search_for : (host : List ℕ) → Option ℕ → Result SearchTask StationMisuse
search_for host (Some seconds) = search_at host 3 seconds
search_for host None = Err (misuse.BadValue 1)

-- a search at a host for the seconds of a word
abbrev pub timed_search : (host value : List ℕ) → Result SearchTask StationMisuse
timed_search host value = search_for host (seconds_of value)

-- the search that words request: for a second, if no option says it
abbrev pub search_of : List (List ℕ) → Result SearchTask StationMisuse
search_of [] = Err misuse.NoHost
search_of (host ∷ []) = search_at host 1 1
search_of (host ∷ option ∷ []) = if is_seconds option then Err (misuse.NoValue 1) else Err (misuse.NoSuchOption 1)
search_of (host ∷ option ∷ value ∷ []) = if is_seconds option then timed_search host value else Err (misuse.NoSuchOption 2)
search_of (host ∷ option ∷ value ∷ a ∷ more) = Err (misuse.NoSuchOption (length (option ∷ value ∷ a ∷ more)))

abbrev pub is_plain : List ℕ → Bool
is_plain word = bytes_eq word (codes "--plain")

-- the words behind the option of a story
abbrev pub behind_plain : List (List ℕ) → Result WorldTask StationMisuse
behind_plain [] = Ok (record { plain = true })
behind_plain (a ∷ more) = Err (misuse.NoSuchOption (length (a ∷ more)))

-- the story that words request: over the fast engines, if no option says otherwise
abbrev pub world_of : List (List ℕ) → Result WorldTask StationMisuse
world_of [] = Err misuse.NoFile
world_of (file ∷ []) = Ok (record { plain = false })
world_of (file ∷ option ∷ more) = if is_plain option then behind_plain more else Err (misuse.NoSuchOption (length (option ∷ more)))
