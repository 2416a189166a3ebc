use Rattle.std.proofs.Common.{◌≡◌, ℕ, ◌/◌, ◌%◌, List, Option, Some, bit_and, refl, sym, ◌∙◌}
use Rattle.std.proofs.lemmas.Nat.{and_mask}
use Rattle.cip_epath.specs.declared.segment.LogicalType.{LogicalType}
use Rattle.cip_epath.specs.Reading.{type_of, value_at, logical_at}
use Rattle.cip_epath.proofs.reading.logical_of.Goals as goal

-- a segment of a type and a format is read as their value
typed : (first format : ℕ) (kind : LogicalType) (bs : List ℕ) (found : Option LogicalType) → found ≡ type_of (first / 4) → found ≡ Some kind → bit_and first 3 ≡ format → logical_at first bs ≡ value_at kind format bs
unfolding logical_at
typed first format kind bs found type-is some masked =
    let kind-is : type_of (first / 4) ≡ Some kind = sym type-is ∙ some in
    let format-is : first % 4 ≡ format = sym (and_mask first 2) ∙ masked in
    rw (kind-is, format-is) refl

pub returns-in-0 : goal.returns-in-0
returns-in-0 c = rw (typed c.args.first 0 c.in-Some.kind c.args.bytes.now c.logical_type.result c.logical_type.ensures c.in-Some.is c.in-0.is) c.byte_value.ensures

pub returns-in-1 : goal.returns-in-1
returns-in-1 c = rw (typed c.args.first 1 c.in-Some.kind c.args.bytes.now c.logical_type.result c.logical_type.ensures c.in-Some.is c.in-1.is) c.word_value.ensures

pub returns-in-2 : goal.returns-in-2
returns-in-2 c = rw (typed c.args.first 2 c.in-Some.kind c.args.bytes.now c.logical_type.result c.logical_type.ensures c.in-Some.is c.in-2.is) c.long_value.ensures
