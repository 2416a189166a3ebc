-- The lengths of a slot's data, as its profile bounds them.
use Rattle.std.proofs.Common.{◌≡◌, ◌<◌, ◌≤◌, ℕ, nat_lt, true, false, None, arith}
use Rattle.std.specs.List.{list_all}
use Rattle.std.proofs.lemmas.Bool.{not-false}
use Rattle.std.proofs.lemmas.Bool.Decides.{nat_tests}
use Rattle.adapter_table.specs.Shaping.{all_pass}
use Rattle.scanner_table.specs.declared.profile.ScannerProfile.{ScannerProfile}
use Rattle.scanner_table.specs.Profiles.{is_point_len, is_out_len, has_lengths, profile_tests, profile_fault}
use Rattle.cip_productions.specs.declared.kind.Kind.{Kind}
use Rattle.cip_productions.specs.declared.kind.Kind.TheVariants.{ExclusiveOwner, InputOnly, ListenOnly}

pub point_short : (len : ℕ) → is_point_len len ≡ true → len ≤ 1400
point_short len is = grind (arith, nat_tests)

pub out_short : (kind : Kind) (len : ℕ) → is_out_len kind len ≡ true → len ≤ 1400
out_short ExclusiveOwner len is = grind (arith, nat_tests)
out_short InputOnly len is = grind (arith, nat_tests)
out_short ListenOnly len is = grind (arith, nat_tests)

pub small_size : (n : ℕ) → nat_lt 511 n ≡ false → n < 512
small_size n is = grind (arith, nat_tests)

pub has_all_lengths : (profile : ScannerProfile) → profile_fault profile ≡ None → list_all has_lengths profile.slots ≡ true
unfolding profile_fault
has_all_lengths profile none =
    let passed = all_pass (profile_tests profile) none in
    not-false (list_all has_lengths profile.slots) passed.1.1.1.0
