-- The lengths of paths to attributes.
use Rattle.std.proofs.Common.{ℕ, ◌≤◌, Bool, true, false, List, length, arith, length-append, lit≤, Some}
use Rattle.std.specs.Prelude.{nat_lt, if◌then◌else◌}
use Rattle.cip_epath.specs.declared.segment.LogicalType.{LogicalType}
use Rattle.cip_epath.specs.declared.segment.LogicalType.TheVariants.{Class, Instance, Attribute}
use Rattle.cip_epath.specs.Written.{logical_text, target_text}

-- a text in one of three lengths
short_by : (a b : Bool) (one two three : List ℕ) → length one ≤ 6 → length two ≤ 6 → length three ≤ 6 → length (if a then one else if b then two else three) ≤ 6
short_by true b one two three first second third = first
short_by false true one two three first second third = second
short_by false false one two three first second third = third

pub logical_short : (kind : LogicalType) (value : ℕ) → length (logical_text kind value) ≤ 6
logical_short kind value = short_by (nat_lt value 256) (nat_lt value 65536) _ _ _ (lit≤ tt) (lit≤ tt) (lit≤ tt)

-- three segments take at most 18 bytes
pub target_short : (class instance attribute : ℕ) → length (target_text (record { class = class; instance = instance; attribute = Some attribute })) ≤ 18
target_short class instance attribute =
    let first : length (logical_text Class class) ≤ 6 = logical_short Class class in
    let second : length (logical_text Instance instance) ≤ 6 = logical_short Instance instance in
    let third : length (logical_text Attribute attribute) ≤ 6 = logical_short Attribute attribute in
    grind (arith, length-append)
