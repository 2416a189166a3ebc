-- Slots no two of which share a group.
use Rattle.std.proofs.Common.{ℕ, ◌≡◌, ◌+◌, ◌<◌, ◌&&◌, not, true, false, List, [], ◌∷◌, length, take, get_or, refl, sym, ◌∙◌, ap}
use Rattle.std.specs.List.{list_any}
use Rattle.scanner_table.specs.declared.profile.SlotConfig.{SlotConfig}
use Rattle.scanner_table.specs.Profiles.{shares_group, are_apart}
use Rattle.trace_faults.proofs.Apart.{apart, apart_next, apart_ends}

slots_apart : (slots : List SlotConfig) → are_apart slots ≡ apart shares_group slots
slots_apart [] = refl
slots_apart (slot ∷ slots) = ap (λ rest. not (list_any (shares_group slot) slots) && rest) (slots_apart slots)

-- one slot more, which shares no group with those before it
pub slots_next : (slots : List SlotConfig) (i : ℕ) (slot : SlotConfig) → i < length slots → slot ≡ get_or slots i slot → are_apart (take i slots) ≡ true → list_any (λ other. shares_group other slot) (take i slots) ≡ false → are_apart (take (i + 1) slots) ≡ true
slots_next slots i slot lt is so none = slots_apart (take (i + 1) slots) ∙ apart_next shares_group slots i slot slot lt is (sym (slots_apart (take i slots)) ∙ so) none

-- a slot that shares a group with one before it
pub slots_end : (slots : List SlotConfig) (i : ℕ) (slot : SlotConfig) → i < length slots → slot ≡ get_or slots i slot → list_any (λ other. shares_group other slot) (take i slots) ≡ true → are_apart slots ≡ false
slots_end slots i slot lt is some = slots_apart slots ∙ apart_ends shares_group slots i slot slot lt is some
