-- A path to two or three points is short.
use Rattle.std.proofs.Common.{◌≤◌, ℕ, ltb, Bool, true, false, cond, List, [], ◌∷◌, ◌++◌, length, Option, Some, None, arith}
use Rattle.std.specs.Int.{w16, w32, to_le_bytes}
use Rattle.std.proofs.lemmas.List.{length-append}
use Rattle.cip_epath.specs.declared.segment.LogicalType.{LogicalType}
use Rattle.cip_epath.specs.declared.segment.LogicalType.TheVariants.{Instance, ConnectionPoint}
use Rattle.cip_epath.specs.Segment.{logical_byte}
use Rattle.cip_epath.specs.Written.{logical_text, path_text}
use Rattle.test_requests.specs.Requests.{points_path}

of_each_format : (a b : Bool) (first second third value : ℕ) → length (cond a (first ∷ value ∷ []) (cond b (second ∷ 0 ∷ to_le_bytes w16 value) (third ∷ 0 ∷ to_le_bytes w32 value))) ≤ 6
of_each_format true b first second third value = omega arith
of_each_format false true first second third value = omega arith
of_each_format false false first second third value = omega arith

-- a logical segment has at most six bytes
segment_few : (kind : LogicalType) (value : ℕ) → length (logical_text kind value) ≤ 6
segment_few kind value = of_each_format (ltb value 256) (ltb value 65536) (logical_byte kind 0) (logical_byte kind 1) (logical_byte kind 2) value

two_few : (first second : List ℕ) → length first ≤ 6 → length second ≤ 6 → length (first ++ (second ++ [])) ≤ 12
two_few first second few less = omega (arith, length-append first (second ++ []), length-append second [], few, less)

three_few : (first second third : List ℕ) → length first ≤ 6 → length second ≤ 6 → length third ≤ 6 → length (first ++ (second ++ (third ++ []))) ≤ 18
three_few first second third few less least = omega (arith, length-append first (second ++ (third ++ [])), two_few second third less least, few)

-- a path to points, with a configuration or without one
pub path_short : (config : Option ℕ) (consumed produced : ℕ) → length (path_text (points_path config consumed produced)) ≤ 510
path_short None consumed produced = omega (arith, two_few (logical_text ConnectionPoint consumed) (logical_text ConnectionPoint produced) (segment_few ConnectionPoint consumed) (segment_few ConnectionPoint produced))
path_short (Some config) consumed produced = omega (arith, three_few (logical_text Instance config) (logical_text ConnectionPoint consumed) (logical_text ConnectionPoint produced) (segment_few Instance config) (segment_few ConnectionPoint consumed) (segment_few ConnectionPoint produced))
