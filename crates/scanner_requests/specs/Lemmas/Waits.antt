-- A profile without a fault waits at most a minute, for a reply and after a failure.
use Rattle.std.proofs.Common.{◌≡◌, ◌≤◌, ℕ, Bool, true, false, not, ◌&&◌, List, [], ◌∷◌, None, refl, arith}
use Rattle.std.specs.List.{list_all}
use Rattle.std.proofs.lemmas.Bool.Decides.{nat_tests}
use Rattle.cip_types.specs.Ids.{are_ids}
use Rattle.cip_types.specs.Cases.{Case, first_case}
use Rattle.cip_events.specs.declared.profile_fault.ProfileFault.TheVariants.{Incarnation, Points, SameInstance, Length, Timing, Limits}
use Rattle.scanner_table.specs.declared.profile.ScannerProfile.{ScannerProfile}
use Rattle.scanner_table.specs.Profiles.{profile_fault, are_served, are_apart, has_lengths, has_times, keeps_time, is_wait, are_paced, are_openings, are_serials}

pub no_more : {A : Type 0} (test : Bool) (says : A) (rest : List (Case A)) → first_case ((test, says) ∷ rest) ≡ None → (test ≡ false) × (first_case rest ≡ None)
no_more true says rest is = absurd (cc)
no_more false says rest is = (refl, is)

fourth_and_fifth : {A : Type 0} (a b c d e : Bool) (v w x y z : A) (rest : List (Case A)) → first_case ((a, v) ∷ (b, w) ∷ (c, x) ∷ (d, y) ∷ (e, z) ∷ rest) ≡ None → (d ≡ false) × (e ≡ false)
fourth_and_fifth a b c d e v w x y z rest is =
    let second = (no_more a v ((b, w) ∷ (c, x) ∷ (d, y) ∷ (e, z) ∷ rest) is).1 in
    let third = (no_more b w ((c, x) ∷ (d, y) ∷ (e, z) ∷ rest) second).1 in
    let fourth = (no_more c x ((d, y) ∷ (e, z) ∷ rest) third).1 in
    let fifth = no_more d y ((e, z) ∷ rest) fourth in
    (fifth.0, (no_more e z rest fifth.1).0)

pub is_so : (b : Bool) → not b ≡ false → b ≡ true
is_so true is = refl
is_so false is = absurd (cc)

pub both_so : (a b : Bool) → (a && b) ≡ true → (a ≡ true) × (b ≡ true)
both_so true b is = (refl, is)
both_so false b is = absurd (cc)

-- lengths and times within their limits
pub record Faultless (profile : ScannerProfile) : Type 0 where
  pub lengths : list_all has_lengths profile.slots ≡ true
  pub times : list_all has_times profile.slots ≡ true
  pub open_timeout : profile.open_timeout ≤ 60000
  pub retry : profile.retry ≤ 60000

wait_fits : (ms : ℕ) → is_wait ms ≡ true → ms ≤ 60000
wait_fits ms is = grind (arith, nat_tests)

pub faultless : (profile : ScannerProfile) → profile_fault profile ≡ None → Faultless profile
unfolding profile_fault
faultless profile is =
    let passed = fourth_and_fifth (not (are_ids profile.incarnation profile.ids)) (not (are_served profile)) (not (are_apart profile.slots)) (not (list_all has_lengths profile.slots)) (not (keeps_time profile)) Incarnation Points SameInstance Length Timing ((not (are_paced profile.newer profile.slots), Limits) ∷ (not (are_openings profile.openings), Limits) ∷ (not (are_serials profile.serials), Limits) ∷ []) is in
    let timely = both_so (list_all has_times profile.slots) (is_wait profile.open_timeout && is_wait profile.retry) (is_so (keeps_time profile) passed.1) in
    let waits = both_so (is_wait profile.open_timeout) (is_wait profile.retry) timely.1 in
    record {
      lengths = is_so (list_all has_lengths profile.slots) passed.0;
      times = timely.0;
      open_timeout = wait_fits profile.open_timeout waits.0;
      retry = wait_fits profile.retry waits.1;
    }

pub retry_fits : (profile : ScannerProfile) → profile_fault profile ≡ None → profile.retry ≤ 60000
retry_fits profile is = (faultless profile is).retry

pub open_timeout_fits : (profile : ScannerProfile) → profile_fault profile ≡ None → profile.open_timeout ≤ 60000
open_timeout_fits profile is = (faultless profile is).open_timeout
