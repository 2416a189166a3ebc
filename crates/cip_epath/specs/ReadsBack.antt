-- A written value is read back: laws of the definitions alone, which `reads_back` promises
-- (Volume 1, chapter 3, connection path, and chapter 2, request path).
use Rattle.std.specs.Prelude.{◌≡◌, Ok}
use Rattle.cip_epath.specs.declared.path.Target.{Target}
use Rattle.cip_epath.specs.Path.{PathFields}
use Rattle.cip_epath.specs.Reading.{path_reading, target_reading}
use Rattle.cip_epath.specs.Written.{path_text, PathFits, target_text, TargetFits}

-- a connection path
abbrev pub PathReadsBack : Type 0
PathReadsBack = (p : PathFields) → PathFits p → path_reading (path_text p) ≡ Ok p

-- the path of a request
abbrev pub TargetReadsBack : Type 0
TargetReadsBack = (t : Target) → TargetFits t → target_reading (target_text t) ≡ Ok t
