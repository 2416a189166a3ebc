-- Lengths and times of a profile without a fault.
use Rattle.std.proofs.Common.{◌≡◌, ◌≤◌, ◌^◌, ◌∙◌, ap, nat_le, length, Err, ℕ, zero, suc, Bool, true, false, not, ◌&&◌, List, [], ◌∷◌, slice_get, Option, Some, None, refl, arith}
use Rattle.std.specs.List.{list_all}
use Rattle.std.proofs.lemmas.Bool.Decides.{nat_tests}
use Rattle.cip_types.specs.Ids.{are_ids}
use Rattle.cip_types.specs.Cases.{Case, first_case}
use Rattle.cip_events.specs.declared.profile_fault.ProfileFault.TheVariants.{Incarnation, Points, SameInstance, Length, Timing, Limits}
use Rattle.scanner_table.specs.declared.profile.ScannerProfile.{ScannerProfile}
use Rattle.scanner_table.specs.declared.profile.SlotConfig.{SlotConfig}
use Rattle.scanner_table.specs.Profiles.{profile_fault, are_served, are_apart, has_lengths, has_times, keeps_time, are_paced, are_openings, are_serials, are_few, listens_to_group, is_inhibit}
use Rattle.cip_types.specs.declared.names.Mismatch.{Mismatch}
use Rattle.cip_netparams.specs.Rate.{is_interval, interval_ms}
use Rattle.cip_fwdopen.specs.declared.reply.Opened as made
use Rattle.conn_state.specs.declared.names.Requested.{Requested}
use Rattle.conn_state.specs.Answers.{answer_tests}
use Rattle.scanner_requests.specs.Connections.{link_or_why}
use Rattle.scanner_requests.specs.Lemmas.Waits.{no_more, is_so, both_so, faultless}

-- a property of all holds of each
pub all_at : {A : Type 0} (p : A → Bool) (xs : List A) (i : ℕ) (x : A) → list_all p xs ≡ true → slice_get xs i ≡ Some x → p x ≡ true
all_at p [] i x all is = absurd (cc)
all_at p (y ∷ ys) zero x all is = let both = both_so (p y) (list_all p ys) all in let same : y ≡ x = cc in rw (← same) both.0
all_at p (y ∷ ys) (suc i) x all is = all_at p ys i x (both_so (p y) (list_all p ys) all).1 is

few_by : {A : Type 0} (a b : Bool) (v w : A) (rest : List (Case A)) → first_case ((a, v) ∷ (b, w) ∷ rest) ≡ None → b ≡ false
few_by a b v w rest is = (no_more b w rest (no_more a v ((b, w) ∷ rest) is).1).0

few_of : (n : ℕ) → (nat_le 1 n && nat_le n 64) ≡ true → n ≤ 64
few_of n is = grind (arith, nat_tests)

-- a faultless profile has few slots
pub few_slots : (profile : ScannerProfile) → profile_fault profile ≡ None → length profile.slots ≤ 64
unfolding profile_fault
few_slots profile is =
    let second = few_by (not (are_ids profile.incarnation profile.ids)) (not (are_served profile)) Incarnation Points ((not (are_apart profile.slots), SameInstance) ∷ (not (list_all has_lengths profile.slots), Length) ∷ (not (keeps_time profile), Timing) ∷ (not (are_paced profile.newer profile.slots), Limits) ∷ (not (are_openings profile.openings), Limits) ∷ (not (are_serials profile.serials), Limits) ∷ []) is in
    few_of (length profile.slots) (both_so (are_few profile.slots) (list_all listens_to_group profile.slots) (is_so (are_served profile) second)).0

pub few : (profile : ScannerProfile) → profile_fault profile ≡ None → length profile.slots ≤ 2 ^ 32
few profile is = let short = few_slots profile is in omega (arith, short)

mult_of : (config : SlotConfig) → has_times config ≡ true → config.mult ≤ 7
mult_of config is =
    let rest = (both_so (is_interval config.o_t_rpi) (is_interval config.t_o_rpi && (nat_le config.mult 7 && is_inhibit config.trigger config.inhibit (interval_ms config.t_o_rpi))) is).1 in
    let last = (both_so (is_interval config.t_o_rpi) (nat_le config.mult 7 && is_inhibit config.trigger config.inhibit (interval_ms config.t_o_rpi)) rest).1 in
    let le = (both_so (nat_le config.mult 7) (is_inhibit config.trigger config.inhibit (interval_ms config.t_o_rpi)) last).0 in
    grind (arith, nat_tests)

pub mult_at : (profile : ScannerProfile) (number : ℕ) (config : SlotConfig) → profile_fault profile ≡ None → slice_get profile.slots number ≡ Some config → config.mult ≤ 7
mult_at profile number config sound is = mult_of config (all_at has_times profile.slots number config (faultless profile sound).times is)

pub refused_by_why : (requested : Requested) (opened : made.Opened) (free : Bool) (why : Mismatch) → Err why ≡ link_or_why requested opened (first_case (answer_tests requested opened free)) → first_case (answer_tests requested opened free) ≡ Some why
refused_by_why requested opened free why is = by_case (first_case (answer_tests requested opened free)) refl where
  by_case : (o : Option Mismatch) → first_case (answer_tests requested opened free) ≡ o → first_case (answer_tests requested opened free) ≡ Some why
  by_case None at = let other : Err why ≡ link_or_why requested opened None = is ∙ ap (link_or_why requested opened) at in absurd (cc)
  by_case (Some reported) at = let same : Err why ≡ link_or_why requested opened (Some reported) = is ∙ ap (link_or_why requested opened) at in let eq : why ≡ reported = cc in rw eq at
