-- Laws of the blocks of connection ids that a device holds: two numbers have two ids, and a further block changes none of the ids
-- before it.
use Rattle.std.proofs.Common.{◌≡◌, ◌≤◌, ◌<◌, ℕ, ◌+◌, ◌-◌, ◌*◌, ◌/◌, ◌^◌, ◌==◌, ◌&&◌, ◌||◌, nat_le, nat_lt, Bool, true, false, cond, not, List, [], ◌∷◌, length, refl, sym, ap, subst, ◌∙◌, inl, inr, arith}
use Rattle.std.specs.List.{list_any}
use Rattle.std.proofs.lemmas.Bool.{and_parts, and_from, or_parts, or_from, or_left, or_right, not-true, not_from_false, cases_lt, le-leb, lt-leb, cond_both}
use Rattle.std.proofs.lemmas.Bool.Decides.{nat_tests}
use Rattle.std.proofs.lemmas.Nat.{mul-le}
use Rattle.cip_types.specs.declared.names.ConnId.{ConnId}
use Rattle.cip_types.specs.declared.ids.IdBlock.{IdBlock}
use Rattle.cip_types.specs.Ids.{end_of, is_block, ids_of_incarnation, ids_behind, part_of_ids, shares_ids, id_at, ids_in, end_number, is_apart, may_take, most_blocks, continued, with_block, are_blocks, Extends}

-- ---- an id and its block

abbrev named : ℕ → ConnId
named id = record { 0 = id }

-- the id is of the block
abbrev pub has_id : ℕ → IdBlock → Bool
has_id id block = nat_le block.first id && nat_lt id (end_of block)

own_id : (block : IdBlock) (number : ℕ) → 1 ≤ number → number ≤ block.count → has_id (block.first + (number - 1)) block ≡ true
own_id block number from to = grind (arith, nat_tests)

-- an id is of one block alone
of_one : (block other : IdBlock) (id : ℕ) → shares_ids block other ≡ false → has_id id block ≡ true → has_id id other ≡ false
of_one block other id apart own = grind (arith, nat_tests)

of_none : (block : IdBlock) (blocks : List IdBlock) (id : ℕ) → list_any (shares_ids block) blocks ≡ false → has_id id block ≡ true → list_any (has_id id) blocks ≡ false
of_none block [] id apart own = refl
of_none block (other ∷ blocks) id apart own =
    let parts = or_parts (shares_ids block other) (list_any (shares_ids block) blocks) apart in
    or_from (has_id id other) (list_any (has_id id) blocks) (of_one block other id parts.0 own) (of_none block blocks id parts.1 own)

near : (block : IdBlock) (blocks : List IdBlock) (number : ℕ) → number ≤ block.count → id_at (block ∷ blocks) number ≡ named (block.first + (number - 1))
near block blocks number to = ap (λ (b : Bool). cond b (named (block.first + (number - 1))) (id_at blocks (number - block.count))) (le-leb number block.count to)

far : (block : IdBlock) (blocks : List IdBlock) (number : ℕ) → block.count < number → id_at (block ∷ blocks) number ≡ id_at blocks (number - block.count)
far block blocks number from = ap (λ (b : Bool). cond b (named (block.first + (number - 1))) (id_at blocks (number - block.count))) (lt-leb number block.count from)

-- each number has an id of the blocks
pub ids_are_theirs : (blocks : List IdBlock) (number : ℕ) → 1 ≤ number → number ≤ ids_in blocks → list_any (has_id (id_at blocks number).0) blocks ≡ true
ids_are_theirs [] number from to = absurd (omega arith)
ids_are_theirs (block ∷ blocks) number from to = elim (cases_lt block.count number) [
  | inl more ↦ subst (λ (id : ConnId). list_any (has_id id.0) (block ∷ blocks) ≡ true) (sym (far block blocks number more)) (or_right (has_id (id_at blocks (number - block.count)).0 block) (list_any (has_id (id_at blocks (number - block.count)).0) blocks) (ids_are_theirs blocks (number - block.count) (omega arith) (omega arith)))
  | inr within ↦ subst (λ (id : ConnId). list_any (has_id id.0) (block ∷ blocks) ≡ true) (sym (near block blocks number within)) (or_left (has_id (block.first + (number - 1)) block) (list_any (has_id (block.first + (number - 1))) blocks) (own_id block number from within))
]

block_fits : (block : IdBlock) (number : ℕ) → is_block block ≡ true → 1 ≤ number → number ≤ block.count → (1 ≤ block.first + (number - 1)) × (block.first + (number - 1) < 2 ^ 32)
block_fits block number is from to =
    let one = and_parts (nat_le 1 block.first) (nat_lt block.first (2 ^ 32) && nat_le (end_of block) (2 ^ 32)) is in
    let two = and_parts (nat_lt block.first (2 ^ 32)) (nat_le (end_of block) (2 ^ 32)) one.1 in
    (grind (arith, nat_tests, one.0), grind (arith, nat_tests, two.1))

-- an id of blocks is no 0, and has 32 bits
pub ids_fit : (blocks : List IdBlock) (number : ℕ) → are_blocks blocks ≡ true → 1 ≤ number → number ≤ ids_in blocks → (1 ≤ (id_at blocks number).0) × ((id_at blocks number).0 < 2 ^ 32)
ids_fit [] number are from to = absurd (omega arith)
ids_fit (block ∷ blocks) number are from to =
    let parts = and_parts (is_apart blocks block) (are_blocks blocks) are in
    let own = and_parts (is_block block) (not (list_any (shares_ids block) blocks)) parts.0 in
    elim (cases_lt block.count number) [
      | inl more ↦ rw (far block blocks number more) (ids_fit blocks (number - block.count) parts.1 (omega arith) (omega arith))
      | inr within ↦ rw (near block blocks number within) (block_fits block number own.0 from within)
    ]

-- ---- two numbers

-- an id of the first block is none of a later one
mixed : (block : IdBlock) (blocks : List IdBlock) (m n : ℕ) → is_apart blocks block ≡ true → 1 ≤ m → m ≤ block.count → 1 ≤ n → n ≤ ids_in blocks → block.first + (m - 1) ≡ (id_at blocks n).0 → ⊥
mixed block blocks m n taken m_from m_to n_from n_to same =
    let parts = and_parts (is_block block) (not (list_any (shares_ids block) blocks)) taken in
    let apart = not-true (list_any (shares_ids block) blocks) parts.1 in
    let none = of_none block blocks (block.first + (m - 1)) apart (own_id block m m_from m_to) in
    let some = ids_are_theirs blocks n n_from n_to in
    let both : list_any (has_id (block.first + (m - 1))) blocks ≡ true = subst (λ (id : ℕ). list_any (has_id id) blocks ≡ true) (sym same) some in
    let wrong = sym none ∙ both in absurd cc

-- two numbers have two ids
pub ids_differ : (blocks : List IdBlock) (m n : ℕ) → are_blocks blocks ≡ true → 1 ≤ m → m ≤ ids_in blocks → 1 ≤ n → n ≤ ids_in blocks → (id_at blocks m).0 ≡ (id_at blocks n).0 → m ≡ n
ids_differ [] m n are m_from m_to n_from n_to same = absurd (omega arith)
ids_differ (block ∷ blocks) m n are m_from m_to n_from n_to same =
    let parts = and_parts (is_apart blocks block) (are_blocks blocks) are in
    elim (cases_lt block.count m) [
      | inl m_far ↦ elim (cases_lt block.count n) [
        | inl n_far ↦
            let e : m - block.count ≡ n - block.count = ids_differ blocks (m - block.count) (n - block.count) parts.1 (omega arith) (omega arith) (omega arith) (omega arith)
            (ap (λ (id : ConnId). id.0) (sym (far block blocks m m_far)) ∙ same ∙ ap (λ (id : ConnId). id.0) (far block blocks n n_far)) in
            omega (arith, e)
        | inr n_near ↦ absurd (mixed block blocks n (m - block.count) parts.0 n_from n_near (omega arith) (omega arith)
            (ap (λ (id : ConnId). id.0) (sym (near block blocks n n_near)) ∙ sym same ∙ ap (λ (id : ConnId). id.0) (far block blocks m m_far)))
      ]
      | inr m_near ↦ elim (cases_lt block.count n) [
        | inl n_far ↦ absurd (mixed block blocks m (n - block.count) parts.0 m_from m_near (omega arith) (omega arith)
            (ap (λ (id : ConnId). id.0) (sym (near block blocks m m_near)) ∙ same ∙ ap (λ (id : ConnId). id.0) (far block blocks n n_far)))
        | inr n_near ↦
            let e : block.first + (m - 1) ≡ block.first + (n - 1) = ap (λ (id : ConnId). id.0) (sym (near block blocks m m_near)) ∙ same ∙ ap (λ (id : ConnId). id.0) (near block blocks n n_near) in
            omega (arith, e)
      ]
    ]

-- ---- a further block

-- it adds its ids
pub ids_in_more : (blocks : List IdBlock) (block : IdBlock) → ids_in (with_block blocks block) ≡ ids_in blocks + block.count
ids_in_more [] block = omega arith
ids_in_more (last ∷ []) block = cond_both (end_of last == block.first) (record { first = last.first; count = last.count + block.count } ∷ []) (last ∷ (block ∷ [])) (λ (l : List IdBlock). ids_in l ≡ ids_in (last ∷ []) + block.count) (λ e. omega arith) (λ e. omega arith)
ids_in_more (first ∷ (second ∷ rest)) block = let more = ids_in_more (second ∷ rest) block in omega (arith, more)

-- no fewer ids are left
pub later_ends : (blocks : List IdBlock) (block : IdBlock) → end_number blocks ≤ end_number (with_block blocks block)
later_ends blocks block = let more = ids_in_more blocks block in omega (arith, more)

last_same : (last block : IdBlock) (number : ℕ) → number ≤ last.count → id_at (continued last block) number ≡ id_at (last ∷ []) number
last_same last block number to = cond_both (end_of last == block.first) (record { first = last.first; count = last.count + block.count } ∷ []) (last ∷ (block ∷ [])) (λ (l : List IdBlock). id_at l number ≡ id_at (last ∷ []) number)
    (λ e. near (record { first = last.first; count = last.count + block.count }) [] number (omega arith) ∙ sym (near last [] number to))
    (λ e. near last (block ∷ []) number to ∙ sym (near last [] number to))

-- and the numbers before it have the ids that they had
pub ids_stay : (blocks : List IdBlock) (block : IdBlock) (number : ℕ) → number ≤ ids_in blocks → 1 ≤ number → id_at (with_block blocks block) number ≡ id_at blocks number
ids_stay [] block number to from = absurd (omega arith)
ids_stay (last ∷ []) block number to from = last_same last block number (omega arith)
ids_stay (first ∷ (second ∷ rest)) block number to from = elim (cases_lt first.count number) [
  | inl more ↦ far first (with_block (second ∷ rest) block) number more ∙ ids_stay (second ∷ rest) block (number - first.count) (omega arith) (omega arith) ∙ sym (far first (second ∷ rest) number more)
  | inr within ↦ near first (with_block (second ∷ rest) block) number within ∙ sym (near first (second ∷ rest) number within)
]

-- ---- the blocks stay apart

abbrev Apart : IdBlock → List IdBlock → Type 0
Apart block blocks = list_any (shares_ids block) blocks ≡ false

shares_back : (block other : IdBlock) → shares_ids block other ≡ false → shares_ids other block ≡ false
shares_back block other apart = grind (arith, nat_tests)

joined_apart : (one last block : IdBlock) → end_of last ≡ block.first → shares_ids one last ≡ false → shares_ids one block ≡ false → shares_ids one (record { first = last.first; count = last.count + block.count }) ≡ false
joined_apart one last block meets first second = grind (arith, nat_tests)

-- a block that is apart from the blocks and from a further one is apart from all of them
apart_more : (one : IdBlock) (blocks : List IdBlock) (block : IdBlock) → Apart one blocks → shares_ids one block ≡ false → Apart one (with_block blocks block)
apart_more one [] block none apart = or_from (shares_ids one block) false apart refl
apart_more one (last ∷ []) block none apart =
    let first = (or_parts (shares_ids one last) false none).0 in
    cond_both (end_of last == block.first) (record { first = last.first; count = last.count + block.count } ∷ []) (last ∷ (block ∷ [])) (Apart one)
    (λ e. or_from (shares_ids one (record { first = last.first; count = last.count + block.count })) false (joined_apart one last block (meets last block e) first apart) refl)
    (λ e. or_from (shares_ids one last) (shares_ids one block || false) first (or_from (shares_ids one block) false apart refl))
  where
    meets : (last block : IdBlock) → (end_of last == block.first) ≡ true → end_of last ≡ block.first
    meets last block e = grind (arith, nat_tests)
apart_more one (first ∷ (second ∷ rest)) block none apart =
    let parts = or_parts (shares_ids one first) (list_any (shares_ids one) (second ∷ rest)) none in
    or_from (shares_ids one first) (list_any (shares_ids one) (with_block (second ∷ rest) block)) parts.0 (apart_more one (second ∷ rest) block parts.1 apart)

-- a further block that is apart stays so
stay_apart : (blocks : List IdBlock) (block : IdBlock) → are_blocks blocks ≡ true → is_apart blocks block ≡ true → are_blocks (with_block blocks block) ≡ true
stay_apart [] block are taken = and_from (is_apart [] block) true (and_from (is_block block) true (and_parts (is_block block) true taken).0 refl) refl
stay_apart (last ∷ []) block are taken =
    cond_both (end_of last == block.first) (record { first = last.first; count = last.count + block.count } ∷ []) (last ∷ (block ∷ [])) (λ (l : List IdBlock). are_blocks l ≡ true)
    (λ e. joined last block e are taken)
    (λ e. beside last block are taken)
  where
    joined : (last block : IdBlock) → (end_of last == block.first) ≡ true → are_blocks (last ∷ []) ≡ true → is_apart (last ∷ []) block ≡ true → are_blocks (record { first = last.first; count = last.count + block.count } ∷ []) ≡ true
    joined last block e are taken = grind (arith, nat_tests)

    beside : (last block : IdBlock) → are_blocks (last ∷ []) ≡ true → is_apart (last ∷ []) block ≡ true → are_blocks (last ∷ (block ∷ [])) ≡ true
    beside last block are taken = grind (arith, nat_tests)
stay_apart (first ∷ (second ∷ rest)) block are taken =
    let own = and_parts (is_apart (second ∷ rest) first) (are_blocks (second ∷ rest)) are in
    let first_is = and_parts (is_block first) (not (list_any (shares_ids first) (second ∷ rest))) own.0 in
    let block_is = and_parts (is_block block) (not (list_any (shares_ids block) (first ∷ (second ∷ rest)))) taken in
    let apart = or_parts (shares_ids block first) (list_any (shares_ids block) (second ∷ rest)) (not-true _ block_is.1) in
    let later = apart_more first (second ∷ rest) block (not-true _ first_is.1) (shares_back block first apart.0) in
    and_from (is_apart (with_block (second ∷ rest) block) first) (are_blocks (with_block (second ∷ rest) block))
    (and_from (is_block first) (not (list_any (shares_ids first) (with_block (second ∷ rest) block))) first_is.0 (not_from_false _ later))
    (stay_apart (second ∷ rest) block own.1 (and_from (is_block block) (not (list_any (shares_ids block) (second ∷ rest))) block_is.0 (not_from_false _ apart.1)))

-- a further block that the device may take leaves blocks
pub stay_blocks : (blocks : List IdBlock) (block : IdBlock) → are_blocks blocks ≡ true → may_take blocks block ≡ true → are_blocks (with_block blocks block) ≡ true
stay_blocks blocks block are may = stay_apart blocks block are (and_parts (is_apart blocks block) (nat_lt (length blocks) most_blocks) may).0

-- ---- the next number

-- the number is the next one, and it has an id
pub record IsLeft (blocks : List IdBlock) (number : ℕ) : Type 0 where
  pub are : are_blocks blocks ≡ true
  pub begins : 1 ≤ number
  pub ends : number < end_number blocks

-- no number before it has its id
pub next_differs : (blocks : List IdBlock) (next number : ℕ) → IsLeft blocks next → 1 ≤ number → number < next → (id_at blocks number).0 ≡ (id_at blocks next).0 → ⊥
next_differs blocks next number left from below same =
    let ends = left.ends in
    let begins = left.begins in
    let e : number ≡ next = ids_differ blocks number next left.are from (omega arith) begins (omega arith) same in
    absurd (omega (arith, e, below))

-- ---- an incarnation's ids

-- they are a block, and the number is the rest of the id behind the byte
pub incarnation_ids : (incarnation number : ℕ) → 1 ≤ number → number < 2 ^ 24 → id_at (ids_of_incarnation incarnation ∷ []) number ≡ record { 0 = incarnation * 2 ^ 24 + number }
incarnation_ids incarnation number from to =
    near (ids_of_incarnation incarnation) [] number (omega arith) ∙ ap named (omega arith)

pub incarnation_blocks : (incarnation : ℕ) → 1 ≤ incarnation → incarnation ≤ 255 → are_blocks (ids_of_incarnation incarnation ∷ []) ≡ true
incarnation_blocks incarnation from to = grind (arith, nat_tests)

pub incarnation_end : (incarnation : ℕ) → end_number (ids_of_incarnation incarnation ∷ []) ≡ 16777216
incarnation_end incarnation = refl

-- ---- blocks that grew

pub extends_itself : (blocks : List IdBlock) → Extends blocks blocks
extends_itself blocks = record { more = omega arith; same = λ number from to. refl; apart = λ are. are }

pub extends_same : (old new : List IdBlock) → new ≡ old → Extends old new
extends_same old new same = subst (λ (blocks : List IdBlock). Extends old blocks) (sym same) (extends_itself old)

pub extends_on : (old mid new : List IdBlock) → Extends old mid → Extends mid new → Extends old new
extends_on old mid new first then = record {
  more = let a = first.more in let b = then.more in omega (arith, a, b);
  same = λ number from to. let a = first.more in then.same number from (omega (arith, a, to)) ∙ first.same number from to;
  apart = λ are. then.apart (first.apart are);
}

pub block_extends : (blocks : List IdBlock) (block : IdBlock) → may_take blocks block ≡ true → Extends blocks (with_block blocks block)
block_extends blocks block may = record {
  more = let more = ids_in_more blocks block in omega (arith, more);
  same = λ number from to. ids_stay blocks block number to from;
  apart = λ are. stay_blocks blocks block are may;
}

-- no fewer ids are left where blocks grew
pub extends_ends : (old new : List IdBlock) → Extends old new → end_number old ≤ end_number new
extends_ends old new grows = let more = grows.more in omega (arith, more)

-- ---- lives

-- the ids of a next life are of the block, behind its first one
pub behind_the_first : (block : IdBlock) (left : ℕ) → 1 ≤ (ids_behind block left).count → (block.first < (ids_behind block left).first) × (end_of (ids_behind block left) ≡ end_of block)
behind_the_first block left some = grind (arith, nat_tests)

-- no two devices of a plant share an id
pub parts_are_apart : (device later devices : ℕ) → device < later → later < devices → shares_ids (part_of_ids device devices) (part_of_ids later devices) ≡ false
parts_are_apart device later devices before within = apart_at ((2 ^ 32 - 1) / devices) device later before where
  apart_at : (size device later : ℕ) → device < later → shares_ids (record { first = device * size + 1; count = size }) (record { first = later * size + 1; count = size }) ≡ false
  apart_at size device later before = let more : (device + 1) * size ≤ later * size = mul-le (device + 1) size later size (omega arith) (omega arith) in grind (arith, nat_tests)
