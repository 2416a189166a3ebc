-- What crates above rest on: the reading of a text as a function is the one that the relations allow,
-- and what is written is read as it was.
use Rattle.std.proofs.Common.{◌≡◌, ℕ, List, Result, Ok}
use Rattle.cip_types.specs.FieldLaws.{IsBytes}
use Rattle.cip_epath.specs.declared.fault.PathFault.{PathFault}
use Rattle.cip_epath.specs.declared.path.Target.{Target}
use Rattle.cip_epath.specs.Path.{PathFields, IsPath, IsTarget, IsTextOf, IsReading}
use Rattle.cip_epath.specs.Reading.{arranged_path, arranged_target, path_reading, target_reading}
use Rattle.cip_epath.specs.Written.{path_text, target_text, PathFits, TargetFits}
use Rattle.cip_epath.specs.Laws.Cuts.{text_reads, reading_is, one_reading}
use Rattle.cip_epath.specs.Laws.Arrangements.{path_arranges, target_arranges}
use Rattle.cip_epath.specs.Laws.Texts.{path_text_is, target_text_is}

-- a text of a path is read as that path
pub path_reads : (t : List ℕ) (p : PathFields) → IsTextOf IsPath t p → path_reading t ≡ Ok p
unfolding path_reading
path_reads t p is = text_reads IsPath arranged_path path_arranges t p is

-- the reading of bytes as a path is one
pub path_reading_is : (t : List ℕ) → IsBytes t → IsReading IsPath t (path_reading t)
unfolding path_reading
path_reading_is t fits = reading_is IsPath arranged_path path_arranges t fits

-- and there is no other
pub one_path_reading : (t : List ℕ) → IsBytes t → (r : Result PathFields PathFault) → IsReading IsPath t r → path_reading t ≡ r
unfolding path_reading
one_path_reading t fits r is = one_reading IsPath arranged_path path_arranges t fits r is

-- the text that is written is read as the path that it was written for
pub path_text_reads : (p : PathFields) → PathFits p → path_reading (path_text p) ≡ Ok p
path_text_reads p fits = path_reads (path_text p) p (path_text_is p fits)

-- a text of a target is read as that target
pub target_reads : (t : List ℕ) (p : Target) → IsTextOf IsTarget t p → target_reading t ≡ Ok p
unfolding target_reading
target_reads t p is = text_reads IsTarget arranged_target target_arranges t p is

-- the reading of bytes as a request path is one
pub target_reading_is : (t : List ℕ) → IsBytes t → IsReading IsTarget t (target_reading t)
unfolding target_reading
target_reading_is t fits = reading_is IsTarget arranged_target target_arranges t fits

-- and there is no other
pub one_target_reading : (t : List ℕ) → IsBytes t → (r : Result Target PathFault) → IsReading IsTarget t r → target_reading t ≡ r
unfolding target_reading
one_target_reading t fits r is = one_reading IsTarget arranged_target target_arranges t fits r is

-- the text that is written is read as the target that it was written for
pub target_text_reads : (t : Target) → TargetFits t → target_reading (target_text t) ≡ Ok t
target_text_reads t fits = target_reads (target_text t) t (target_text_is t fits)
