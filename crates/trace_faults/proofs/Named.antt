-- From a word of a line's item to the same word of the profile's line.
use Rattle.std.proofs.Common.{ℕ, ◌≡◌, ◌<◌, false, List, length, get_or, codes, option_map, refl, sym, ◌∙◌, ap, Some}
use Rattle.std.proofs.lemmas.Bool.{or_parts}
use Rattle.std.proofs.lemmas.List.Folds.{list_all_at}
use Rattle.std.proofs.lemmas.Option.{slice_get_read}
use Rattle.adapter_table.specs.declared.profile.Profile.{Profile}
use Rattle.scanner_table.specs.declared.profile.SlotConfig.{SlotConfig}
use Rattle.scanner_table.specs.declared.profile.ScannerProfile.{ScannerProfile}
use Rattle.scanner_table.specs.Profiles.{listens_to_group}
use Rattle.trace_lines.specs.WrittenProfiles.{output_words, point_words, object_words}
use Rattle.trace_lines.specs.declared.limit_lines.LimitName.{LimitName}
use Rattle.trace_lines.specs.declared.limit_lines.LimitName.TheVariants as limit_name
use Rattle.trace_lines.specs.declared.limit_lines.LimitLine.TheVariants as limit
use Rattle.trace_lines.specs.Limits.{stated_line}
use Rattle.trace_lines.specs.Kinds.{multicast_word}
use Rattle.trace_faults.specs.declared.profile_faults.defects.LineName.TheVariants as name
use Rattle.trace_faults.specs.declared.profile_faults.defects.ProfileReason.{ProfileReason}
use Rattle.trace_faults.specs.ProfileFaults.Defects.{IsFailing}
use Rattle.trace_faults.specs.ProfileFaults.Named.{IsOfSlot, NamesItemWord, NamesConfigWord, NamesDescribedWord, NamesLimitWord, NamesOpenings, NamesSerials, NamesSlotWord, NamesWordOfSlots, NamesWord, NamesWordOfScanner}

pub named_output : (profile : Profile) (reason : ProfileReason) → NamesItemWord name.Output output_words profile.outputs reason → NamesWord profile reason
named_output profile reason is = rw is.0 is.1

pub named_input : (profile : Profile) (reason : ProfileReason) → NamesItemWord name.Input (point_words (codes "input")) profile.inputs reason → NamesWord profile reason
named_input profile reason is = rw is.0 is.1

pub named_config : (profile : Profile) (reason : ProfileReason) → NamesConfigWord profile.config reason → NamesWord profile reason
named_config profile reason is = rw is.0 is.1

pub named_described : (profile : Profile) (reason : ProfileReason) → NamesDescribedWord profile.description reason → NamesWord profile reason
named_described profile reason is = rw is.0 is.1

pub named_limit : (profile : Profile) (row : LimitName) (reason : ProfileReason) → NamesLimitWord row (stated_line profile.limits row) reason → NamesWord profile reason
named_limit profile row reason is = rw is.0 is.1

pub named_window : (profile : ScannerProfile) (reason : ProfileReason) → NamesLimitWord limit_name.Newer (option_map limit.Newer profile.newer) reason → IsOfSlot reason.place.index reason.defect → NamesWordOfScanner profile reason
named_window profile reason is slot = (rw is.0 is.1, slot)

pub named_openings : (profile : ScannerProfile) (reason : ProfileReason) → NamesOpenings profile.openings reason → NamesWordOfScanner profile reason
named_openings profile reason is = (rw is.0 is.1.0, is.1.1)

pub named_serials : (profile : ScannerProfile) (reason : ProfileReason) → NamesSerials profile.serials reason → NamesWordOfScanner profile reason
named_serials profile reason is = (rw is.0 is.1.0, is.1.1)

pub named_object : (profile : Profile) (reason : ProfileReason) → NamesItemWord name.Object object_words profile.objects reason → NamesWord profile reason
named_object profile reason is = rw is.0 is.1

pub named_slot : (profile : ScannerProfile) (reason : ProfileReason) → NamesWordOfSlots profile.slots reason → NamesWordOfScanner profile reason
named_slot profile reason is = (rw is.0 is.1.0, is.1.1)

pub named_of_slots : (slots : List SlotConfig) (index : ℕ) (slot : SlotConfig) (reason : ProfileReason) → index < length slots → slot ≡ get_or slots index slot → NamesSlotWord index slot reason → NamesWordOfSlots slots reason
named_of_slots slots index slot reason lt at is =
    (is.0, (rw (is.1.0, slice_get_read slots (length slots) index slot refl lt at) is.1.1.0, rw is.1.0 is.1.1.1))

-- a slot that listens to no group is not multicast
pub cast_of_listener : (slot : SlotConfig) → listens_to_group slot ≡ false → multicast_word slot.multicast ≡ codes "p2p"
cast_of_listener slot is = ap multicast_word (or_parts _ _ is).1

-- a slot that fails the test, where it is
pub is_failing : (slots : List SlotConfig) (index : ℕ) (slot : SlotConfig) → index < length slots → slot ≡ get_or slots index slot → listens_to_group slot ≡ false → IsFailing listens_to_group slots (Some index)
is_failing slots index slot lt at is =
    (lt, (list_all_at listens_to_group slots index slot lt (ap listens_to_group (sym at) ∙ is), rw (slice_get_read slots (length slots) index slot refl lt at) is))
