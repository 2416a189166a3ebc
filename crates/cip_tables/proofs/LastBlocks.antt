-- The last block of connection ids that a device has.
use Rattle.std.proofs.Common.{◌≡◌, ℕ, zero, suc, ◌+◌, ◌-◌, true, not, List, [], ◌∷◌, length, slice_get, Some, refl, sym, ap, ◌∙◌, subst, arith}
use Rattle.std.specs.List.{list_any}
use Rattle.std.proofs.lemmas.Bool.{and_parts}
use Rattle.std.proofs.lemmas.Bool.Decides.{nat_tests}
use Rattle.std.proofs.lemmas.Option.{same_Some}
use Rattle.cip_types.specs.declared.ids.IdBlock.{IdBlock}
use Rattle.cip_types.specs.Ids.{are_blocks, ids_behind, ids_left, is_apart, is_block, shares_ids}
use Rattle.cip_tables.specs.declared.table.DeviceTable.{DeviceTable}
use Rattle.cip_tables.specs.declared.table.DeviceTable.TheVariants.{Adapter, Scanner}
use Rattle.cip_tables.specs.Ids.{last_block, next_ids}
use Rattle.cip_tables.specs.Whole.{IsWholeDevice, ids_of, next_id_of}

last_at : (blocks : List IdBlock) (last : IdBlock) (index : ℕ) → index + 1 ≡ length blocks → slice_get blocks index ≡ Some last → last ≡ last_block blocks
last_at [] last index e is = absurd (omega (arith, e))
last_at (one ∷ []) last zero e is = sym (same_Some one last is)
last_at (one ∷ []) last (suc n) e is = absurd (omega (arith, e))
last_at (one ∷ (two ∷ rest)) last zero e is = absurd (omega (arith, e))
last_at (one ∷ (two ∷ rest)) last (suc n) e is = last_at (two ∷ rest) last n (omega (arith, e)) is

-- what a slice has last is the last block
pub last_is : (blocks : List IdBlock) (last : IdBlock) → slice_get blocks (length blocks - 1) ≡ Some last → last ≡ last_block blocks
last_is [] last is = absurd cc
last_is (one ∷ rest) last is = last_at (one ∷ rest) last (length (one ∷ rest) - 1) (omega arith) is

-- the first of blocks is one
first_fits : (first : IdBlock) (rest : List IdBlock) → are_blocks (first ∷ rest) ≡ true → is_block first ≡ true
first_fits first rest are =
    let apart = (and_parts (is_apart rest first) (are_blocks rest) are).0 in
    (and_parts (is_block first) (not (list_any (shares_ids first) rest)) apart).0

fits_at : (blocks : List IdBlock) (last : IdBlock) (index : ℕ) → index + 1 ≡ length blocks → slice_get blocks index ≡ Some last → are_blocks blocks ≡ true → is_block last ≡ true
fits_at [] last index e is are = absurd (omega (arith, e))
fits_at (one ∷ rest) last zero e is are = subst (λ (b : IdBlock). is_block b ≡ true) (same_Some one last is) (first_fits one rest are)
fits_at (one ∷ rest) last (suc n) e is are = fits_at rest last n (omega (arith, e)) is (and_parts (is_apart rest one) (are_blocks rest) are).1

-- and it is a block
pub last_fits : (blocks : List IdBlock) (last : IdBlock) → slice_get blocks (length blocks - 1) ≡ Some last → are_blocks blocks ≡ true → is_block last ≡ true
last_fits [] last is are = absurd cc
last_fits (one ∷ rest) last is are = fits_at (one ∷ rest) last (length (one ∷ rest) - 1) (omega arith) is are

last_block_fits : (blocks : List IdBlock) → are_blocks blocks ≡ true → is_block (last_block blocks) ≡ true
last_block_fits [] are = refl
last_block_fits (one ∷ []) are = first_fits one [] are
last_block_fits (one ∷ (two ∷ rest)) are = last_block_fits (two ∷ rest) (and_parts (is_apart (two ∷ rest) one) (are_blocks (two ∷ rest)) are).1

behind_fits : (block : IdBlock) (left : ℕ) → is_block block ≡ true → is_block (ids_behind block left) ≡ true
behind_fits block left is = grind (arith, nat_tests)

pub blocks_are : (t : DeviceTable) → IsWholeDevice t → are_blocks (ids_of t) ≡ true
blocks_are (Adapter t) whole = whole.sound.blocks
blocks_are (Scanner t) whole = whole.table.blocks

-- what the next life begins with is a block
pub next_fits : (t : DeviceTable) → IsWholeDevice t → is_block (next_ids t) ≡ true
next_fits t whole = behind_fits (last_block (ids_of t)) (ids_left (ids_of t) (next_id_of t)) (last_block_fits (ids_of t) (blocks_are t whole))

-- and what the code makes of the last block and of what is left is that
pub next_is : (t : DeviceTable) (blocks again : List IdBlock) (next left : ℕ) (block made : IdBlock) → blocks ≡ ids_of t → again ≡ ids_of t → next ≡ next_id_of t → left ≡ ids_left blocks next → slice_get again (length again - 1) ≡ Some block → made ≡ ids_behind block left → made ≡ next_ids t
next_is t blocks again next left block made ids_are again_are number_is left_is at made_is =
    made_is
    ∙ ap (λ (b : IdBlock). ids_behind b left) (last_is again block at ∙ ap last_block again_are)
    ∙ ap (λ (n : ℕ). ids_behind (last_block (ids_of t)) n) (left_is ∙ ap (λ (l : List IdBlock). ids_left l next) ids_are ∙ ap (λ (n : ℕ). ids_left (ids_of t) n) number_is)
