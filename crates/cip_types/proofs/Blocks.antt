-- The last one of a device's blocks, and what a further one makes of it.
use Rattle.std.proofs.Common.{◌≡◌, ◌<◌, ℕ, zero, suc, ◌+◌, ◌-◌, ◌^◌, ◌==◌, nat_lt, Bool, true, false, cond, not, List, [], ◌∷◌, ◌++◌, length, slice_get, slice_set, slice_index_or, Some, refl, sym, ap, subst, ◌∙◌, arith}
use Rattle.std.specs.List.{list_any}
use Rattle.std.proofs.lemmas.Bool.{and_parts}
use Rattle.std.proofs.lemmas.Bool.Decides.{nat_tests}
use Rattle.cip_types.specs.declared.ids.IdBlock.{IdBlock}
use Rattle.cip_types.specs.Ids.{end_of, is_block, shares_ids, is_apart, may_take, most_blocks, continued, is_continued, with_block, are_blocks}

-- the last one, with the ids of a further one
abbrev longer : IdBlock → IdBlock → IdBlock
longer last block = record { first = last.first; count = last.count + block.count }

same_block : (one last : IdBlock) → Some one ≡ Some last → one ≡ last
same_block one last is = cc

-- whether the last one is continued is asked of it alone
last_continued : (blocks : List IdBlock) (block last : IdBlock) (index : ℕ) → index + 1 ≡ length blocks → slice_get blocks index ≡ Some last → (end_of last == block.first) ≡ is_continued blocks block
last_continued [] block last index e is = absurd (omega (arith, e))
last_continued (one ∷ []) block last zero e is = ap (λ (l : IdBlock). end_of l == block.first) (sym (same_block one last is))
last_continued (one ∷ []) block last (suc n) e is = absurd (omega (arith, e))
last_continued (one ∷ (two ∷ rest)) block last zero e is = absurd (omega (arith, e))
last_continued (one ∷ (two ∷ rest)) block last (suc n) e is = last_continued (two ∷ rest) block last n (omega (arith, e)) is

pub last_is : (blocks : List IdBlock) (block last : IdBlock) → slice_get blocks (length blocks - 1) ≡ Some last → (end_of last == block.first) ≡ is_continued blocks block
last_is [] block last is = absurd cc
last_is (one ∷ rest) block last is = last_continued (one ∷ rest) block last (length (one ∷ rest) - 1) (omega arith) is

-- blocks of which the last one is continued are one at least
pub last_at : (blocks : List IdBlock) (block : IdBlock) (n : ℕ) → n ≡ length blocks → is_continued blocks block ≡ true → (n - 1) + 1 ≡ length blocks
last_at [] block n long is = absurd cc
last_at (one ∷ rest) block n long is = omega (arith, long)

continued_is : (last block : IdBlock) → (end_of last == block.first) ≡ true → longer last block ∷ [] ≡ continued last block
continued_is last block is = ap (λ (b : Bool). cond b (longer last block ∷ []) (last ∷ (block ∷ []))) (sym is)

pub continued_set : (blocks : List IdBlock) (block last d : IdBlock) (index : ℕ) → index + 1 ≡ length blocks → last ≡ slice_index_or blocks index d → is_continued blocks block ≡ true → slice_set blocks index (longer last block) ≡ with_block blocks block
continued_set [] block last d index e at is = absurd (omega (arith, e))
continued_set (one ∷ []) block last d zero e at is = ap (λ (l : IdBlock). longer l block ∷ []) at ∙ continued_is one block is
continued_set (one ∷ []) block last d (suc n) e at is = absurd (omega (arith, e))
continued_set (one ∷ (two ∷ rest)) block last d zero e at is = absurd (omega (arith, e))
continued_set (one ∷ (two ∷ rest)) block last d (suc n) e at is = ap (λ (l : List IdBlock). one ∷ l) (continued_set (two ∷ rest) block last d n (omega (arith, e)) at is)

sum_fits : (last block : IdBlock) → is_block last ≡ true → is_block block ≡ true → (end_of last == block.first) ≡ true → last.count + block.count < 2 ^ 32
sum_fits last block one two meets = grind (arith, nat_tests)

block_of : (one : IdBlock) (blocks : List IdBlock) → are_blocks (one ∷ blocks) ≡ true → is_block one ≡ true
block_of one blocks are = (and_parts (is_block one) (not (list_any (shares_ids one) blocks)) (and_parts (is_apart blocks one) (are_blocks blocks) are).0).0

-- the last one with a further one has less than 2^32 ids
pub last_fits : (blocks : List IdBlock) (block last d : IdBlock) (index : ℕ) → index + 1 ≡ length blocks → last ≡ slice_index_or blocks index d → is_continued blocks block ≡ true → are_blocks blocks ≡ true → is_block block ≡ true → last.count + block.count < 2 ^ 32
last_fits [] block last d index e at is are own = absurd (omega (arith, e))
last_fits (one ∷ []) block last d zero e at is are own = subst (λ (l : IdBlock). l.count + block.count < 2 ^ 32) (sym at) (sum_fits one block (block_of one [] are) own is)
last_fits (one ∷ []) block last d (suc n) e at is are own = absurd (omega (arith, e))
last_fits (one ∷ (two ∷ rest)) block last d zero e at is are own = absurd (omega (arith, e))
last_fits (one ∷ (two ∷ rest)) block last d (suc n) e at is are own =
    last_fits (two ∷ rest) block last d n (omega (arith, e)) at is (and_parts (is_apart (two ∷ rest) one) (are_blocks (two ∷ rest)) are).1 own

pub own_block : (blocks : List IdBlock) (block : IdBlock) → may_take blocks block ≡ true → is_block block ≡ true
own_block blocks block may = (and_parts (is_block block) (not (list_any (shares_ids block) blocks)) (and_parts (is_apart blocks block) (nat_lt (length blocks) most_blocks) may).0).0

beside : (last block : IdBlock) → (end_of last == block.first) ≡ false → last ∷ (block ∷ []) ≡ continued last block
beside last block is = ap (λ (b : Bool). cond b (longer last block ∷ []) (last ∷ (block ∷ []))) (sym is)

pub pushed : (blocks : List IdBlock) (block : IdBlock) → is_continued blocks block ≡ false → blocks ++ block ∷ [] ≡ with_block blocks block
pushed [] block is = refl
pushed (one ∷ []) block is = beside one block is
pushed (one ∷ (two ∷ rest)) block is = ap (λ (l : List IdBlock). one ∷ l) (pushed (two ∷ rest) block is)
