-- What worked numbers and bytes say.
use Rattle.std.proofs.Common.{◌≡◌, [], ◌∷◌, Some, None, true, false, refl}
use Rattle.std.specs.Prelude.{replicate}
use Rattle.std.specs.Int.{w8, w16, w32}
use Rattle.cip_types.specs.Circle.{is_newer}
use Rattle.cip_types.specs.Fields.{fields_text, field_at, fields_at}
use Rattle.cip_types.specs.Ids.{ids_of_incarnation, id_at, end_number, is_block, may_take, with_block}

-- ahead of a number round the circle
pub newer_round : is_newer 0 0xFFFF_FFFF ≡ true
newer_round = refl

-- half of the circle ahead is not newer
pub half_ahead : is_newer 0x8000_0001 1 ≡ false
half_ahead = refl

-- a little less than half is
pub nearly_half : is_newer 0x8000_0000 1 ≡ true
nearly_half = refl

pub the_same : is_newer 7 7 ≡ false
the_same = refl

pub behind : is_newer 7 8 ≡ false
behind = refl

pub far_behind : is_newer 1 0x8000_0000 ≡ false
far_behind = refl

-- the least significant byte comes first
pub written : fields_text (w8 ∷ w16 ∷ w32 ∷ []) (0x0A ∷ 0x1234 ∷ 0x2000_0001 ∷ []) ≡ 0x0A ∷ 0x34 ∷ 0x12 ∷ 1 ∷ 0 ∷ 0 ∷ 0x20 ∷ []
written = refl

pub fields : fields_at (w8 ∷ w16 ∷ w32 ∷ []) (0x0A ∷ 0x34 ∷ 0x12 ∷ 1 ∷ 0 ∷ 0 ∷ 0x20 ∷ 0x65 ∷ 0x6E ∷ 0x64 ∷ []) ≡ Some (0x0A ∷ 0x1234 ∷ 0x2000_0001 ∷ [], 0x65 ∷ 0x6E ∷ 0x64 ∷ [])
fields = refl

pub no_byte : field_at w8 [] ≡ None
no_byte = refl

pub no_word : field_at w16 (0x65 ∷ []) ≡ None
no_word = refl

pub no_double_word : field_at w32 (0x65 ∷ 0x6E ∷ 0x64 ∷ []) ≡ None
no_double_word = refl

-- CONNECTION IDS

-- the ids of incarnation 0x10: 1 to 2^24 - 1 behind the byte
pub first_of_10 : id_at (ids_of_incarnation 0x10 ∷ []) 1 ≡ record { 0 = 0x1000_0001 }
first_of_10 = refl

pub last_of_10 : id_at (ids_of_incarnation 0x10 ∷ []) 16777215 ≡ record { 0 = 0x10FF_FFFF }
last_of_10 = refl

pub end_of_10 : end_number (ids_of_incarnation 0x10 ∷ []) ≡ 16777216
end_of_10 = refl

-- two blocks: 5 and 6, then 100 to 102; the third number is 100
pub third : id_at (record { first = 5; count = 2 } ∷ (record { first = 100; count = 3 } ∷ [])) 3 ≡ record { 0 = 100 }
third = refl

pub ends_at_six : end_number (record { first = 5; count = 2 } ∷ (record { first = 100; count = 3 } ∷ [])) ≡ 6
ends_at_six = refl

-- all ids but 0: a device gives all but the last one
pub all_ids : end_number (record { first = 1; count = 0xFFFF_FFFF } ∷ []) ≡ 0xFFFF_FFFF
all_ids = refl

-- a block from 0 on, one with the id 2^32, and one that is all but that
pub none_from_zero : is_block (record { first = 0; count = 1 }) ≡ false
none_from_zero = refl

pub none_behind_the_end : is_block (record { first = 0xFFFF_FFFF; count = 2 }) ≡ false
none_behind_the_end = refl

pub last_one : is_block (record { first = 0xFFFF_FFFF; count = 1 }) ≡ true
last_one = refl

-- a block may be taken that begins where one ends, and not one that has its last id; one without ids overlaps nothing
pub right_behind : may_take (record { first = 5; count = 2 } ∷ []) (record { first = 7; count = 1 }) ≡ true
right_behind = refl

pub overlaps : may_take (record { first = 5; count = 2 } ∷ []) (record { first = 6; count = 1 }) ≡ false
overlaps = refl

pub empty_inside : may_take (record { first = 5; count = 20 } ∷ []) (record { first = 9; count = 0 }) ≡ true
empty_inside = refl

-- 64 blocks are the most
pub full : may_take (replicate 64 (record { first = 5; count = 0 })) (record { first = 9; count = 1 }) ≡ false
full = refl

pub nearly_full : may_take (replicate 63 (record { first = 5; count = 0 })) (record { first = 9; count = 1 }) ≡ true
nearly_full = refl

-- one that begins where the last one ends continues it
pub continues : with_block (record { first = 1; count = 4 } ∷ (record { first = 5; count = 2 } ∷ [])) (record { first = 7; count = 3 }) ≡ record { first = 1; count = 4 } ∷ (record { first = 5; count = 5 } ∷ [])
continues = refl

pub another : with_block (record { first = 5; count = 2 } ∷ []) (record { first = 8; count = 3 }) ≡ record { first = 5; count = 2 } ∷ (record { first = 8; count = 3 } ∷ [])
another = refl
