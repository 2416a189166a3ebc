-- Devices with connection ids in common, worked by hand.
use Rattle.std.proofs.Common.{◌≡◌, ℕ, true, false, List, [], ◌∷◌, Some, None, refl}
use Rattle.cip_types.specs.declared.ids.IdBlock.{IdBlock}
use Rattle.settling.specs.SharedIds.{first_shared, share_ids}

abbrev block : (first count : ℕ) → IdBlock
block first count = record { first = first; count = count }

-- ids 1 to 10, and 21 to 30
abbrev one : List IdBlock
one = block 1 10 ∷ block 21 10 ∷ []

-- ids 11 to 20
abbrev between : List IdBlock
between = block 11 10 ∷ []

-- ids 40 to 49, and 30
abbrev further : List IdBlock
further = block 40 10 ∷ block 30 1 ∷ []

-- the last id of a second block is that of a second block
last_id : share_ids one further ≡ true
last_id = refl

-- a block that ends where another one begins
meets : share_ids one between ≡ false
meets = refl

-- a block without ids shares none
no_ids : share_ids one (block 5 0 ∷ []) ≡ false
no_ids = refl

-- of three devices the first and the third
first_and_third : first_shared 0 (one ∷ between ∷ further ∷ []) ≡ Some (0, 2)
first_and_third = refl

-- the second and the third share ids as well, but the first and the fourth are found before them
the_first_first : first_shared 0 (one ∷ between ∷ between ∷ further ∷ []) ≡ Some (0, 3)
the_first_first = refl

-- the first two of three that share ids
the_nearest : first_shared 0 (between ∷ one ∷ further ∷ one ∷ []) ≡ Some (1, 2)
the_nearest = refl

all_apart : first_shared 0 (one ∷ between ∷ (block 31 10 ∷ []) ∷ []) ≡ None
all_apart = refl

nobody : first_shared 0 [] ≡ None
nobody = refl
