-- A faultless profile has few slots.
use Rattle.std.proofs.Common.{◌≡◌, ◌≤◌, not, Bool, true, false, List, [], ◌∷◌, length, None, refl, arith}
use Rattle.std.proofs.lemmas.Bool.Decides.{nat_tests}
use Rattle.cip_types.specs.Ids.{are_ids}
use Rattle.cip_types.specs.Cases.{Case, first_case}
use Rattle.std.specs.List.{list_all}
use Rattle.cip_events.specs.declared.profile_fault.ProfileFault.{ProfileFault}
use Rattle.cip_events.specs.declared.profile_fault.ProfileFault.TheVariants.{Incarnation, Points, SameInstance, Length, Timing, Limits}
use Rattle.scanner_table.specs.declared.profile.ScannerProfile.{ScannerProfile}
use Rattle.scanner_table.specs.Profiles.{are_served, are_apart, has_lengths, keeps_time, are_paced, are_openings, are_serials, profile_fault}

served_of : (a b : Bool) (v w : ProfileFault) (rest : List (Case ProfileFault)) → first_case ((a, v) ∷ (b, w) ∷ rest) ≡ None → b ≡ false
served_of true b v w rest is = absurd cc
served_of false true v w rest is = absurd cc
served_of false false v w rest is = refl

not_false : (b : Bool) → not b ≡ false → b ≡ true
not_false true is = refl
not_false false is = absurd (let e : true ≡ false = is in cc)

pub few_slots : (p : ScannerProfile) → profile_fault p ≡ None → length p.slots ≤ 64
unfolding profile_fault
few_slots p is =
    let served : are_served p ≡ true = not_false (are_served p) (served_of (not (are_ids p.incarnation p.ids)) (not (are_served p)) Incarnation Points ((not (are_apart p.slots), SameInstance) ∷ (not (list_all has_lengths p.slots), Length) ∷ (not (keeps_time p), Timing) ∷ (not (are_paced p.newer p.slots), Limits) ∷ (not (are_openings p.openings), Limits) ∷ (not (are_serials p.serials), Limits) ∷ []) is) in
    grind (arith, nat_tests)
