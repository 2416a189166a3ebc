-- The paths of a plant's files.
use Rattle.std.specs.Prelude.{ℕ, ◌==◌, if◌then◌else◌, Bool, false, List, [], ◌∷◌, ◌++◌, codes, decimal, Option, Some, None}

-- a path begins at the root
abbrev pub is_absolute : List ℕ → Bool
is_absolute [] = false
is_absolute (byte ∷ bytes) = byte == 47

-- a path that is relative to a folder, or to that in which the program runs
abbrev pub path_in : (folder : Option (List ℕ)) → List ℕ → List ℕ
path_in None path = path
path_in (Some folder) path = if is_absolute path then path else folder ++ (codes "/" ++ path)

-- the record of a life of a device in a folder: FOLDER/NAME.LIFE.trace
abbrev pub record_text : List ℕ → List ℕ → ℕ → List ℕ
record_text folder name life = folder ++ (codes "/" ++ (name ++ (codes "." ++ (decimal life ++ codes ".trace"))))
