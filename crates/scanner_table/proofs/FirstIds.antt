-- The connection ids that a scanner begins with are a block, if its profile has no fault.
use Rattle.std.proofs.Common.{◌≡◌, ◌==◌, not, Bool, true, false, List, [], ◌∷◌, None, refl}
use Rattle.std.proofs.lemmas.Bool.{and_parts, not-false}
use Rattle.cip_types.specs.declared.ids.IdBlock.{IdBlock}
use Rattle.cip_types.specs.Cases.{Case, first_case}
use Rattle.cip_types.specs.Ids.{are_blocks, are_ids, is_block}
use Rattle.cip_events.specs.declared.profile_fault.ProfileFault.{ProfileFault}
use Rattle.cip_events.specs.declared.profile_fault.ProfileFault.TheVariants.{Incarnation}
use Rattle.scanner_table.specs.declared.profile.ScannerProfile.{ScannerProfile}
use Rattle.scanner_table.specs.Profiles.{first_ids, profile_fault, profile_tests}

first_passes : (a : Bool) (why : ProfileFault) (rest : List (Case ProfileFault)) → first_case ((a, why) ∷ rest) ≡ None → a ≡ false
first_passes true why rest is = absurd cc
first_passes false why rest is = refl

tests_behind : List (Case ProfileFault) → List (Case ProfileFault)
tests_behind [] = []
tests_behind (first ∷ rest) = rest

-- the ids that a scanner begins with are a block
pub first_is_block : (profile : ScannerProfile) → profile_fault profile ≡ None → is_block (first_ids profile) ≡ true
unfolding profile_fault tests_behind
first_is_block profile faultless =
    (and_parts (not (profile.incarnation == 0)) (is_block (first_ids profile)) (not-false (are_ids profile.incarnation profile.ids) (first_passes (not (are_ids profile.incarnation profile.ids)) Incarnation (tests_behind (profile_tests profile)) faultless))).1

pub first_blocks : (block : IdBlock) → is_block block ≡ true → are_blocks (block ∷ []) ≡ true
first_blocks block is = rw is refl
