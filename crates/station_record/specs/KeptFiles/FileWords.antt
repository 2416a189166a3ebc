-- The names of files: a path's last part, and that without its ending.
use Rattle.std.specs.Prelude.{ℕ, List, Option, Some, None}
use Rattle.std.specs.Path.{dot, rsplit_once, slash, stem_of_split}

-- what is behind the last slash of a path
abbrev pub last_part : (path : List ℕ) → Option (List ℕ × List ℕ) → List ℕ
last_part path None = path
last_part path (Some split) = split.1

-- the name of a file without its folder
abbrev pub name_of : List ℕ → List ℕ
name_of path = last_part path (rsplit_once slash path)

-- the name without what follows its last dot; a name whose only dot is its first byte is whole
abbrev pub stem_of : List ℕ → List ℕ
stem_of path = stem_of_split (name_of path) (rsplit_once dot (name_of path))
