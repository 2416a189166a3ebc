-- The version of the programs.
use Rattle.std.specs.Prelude.{ℕ, List, codes}

abbrev pub version_text : List ℕ
version_text = codes "1.51.0"
