-- Slots of a table, each with a number of its own, in any order.
use Rattle.std.proofs.Common.{◌≡◌, ◌<◌, ℕ, suc, ◌==◌, Bool, true, false, cond, List, [], ◌∷◌, filter, find, slice_get, Option, Some, refl, sym, ◌∙◌, ap, subst, arith}
use Rattle.std.specs.List.{list_any}
use Rattle.std.proofs.lemmas.Bool.{or_parts}
use Rattle.std.proofs.lemmas.Bool.Decides.{nat_tests}
use Rattle.cip_types.specs.Order.{inserted, in_order}
use Rattle.scanner_table.specs.declared.profile.ScannerProfile.{ScannerProfile}
use Rattle.scanner_table.specs.declared.profile.SlotConfig.{SlotConfig}
use Rattle.scanner_table.specs.declared.slot.Slot.{Slot}
use Rattle.scanner_table.specs.declared.table.ScannerTable.{ScannerTable}
use Rattle.scanner_table.specs.Slots.{IndexedSlot, indexed_from, indexed_slots, is_numbered, slot_at}
use Rattle.scanner_table.specs.Effects.{Effect, on_each}
use Rattle.scanner_transactions.specs.Transactions.{Progress, followed, at_found, after_at}
use Rattle.scanner_transactions.proofs.Tame.{Changes, IsTame}
use Rattle.scanner_transactions.proofs.Found.{indexed_at, found_at}
use Rattle.scanner_transactions.proofs.Remaining.{adds_both}
use Rattle.scanner_transactions.proofs.Steps.{adds_nothing}

-- ---- the slot of a number

at_get : (t : ScannerTable) (number : ℕ) → slot_at t number ≡ indexed_at number (slice_get t.profile.slots number) (slice_get t.slots number)
at_get t number = found_at number t.profile.slots t.slots

-- the slots of other numbers than that of a changed slot stay
at_other : (t u : ScannerTable) (number n : ℕ) → Changes number t u → (n == number) ≡ false → slot_at u n ≡ slot_at t n
at_other t u number n changes other =
    at_get u n ∙ ap (λ (p : ScannerProfile). indexed_at n (slice_get p.slots n) (slice_get u.slots n)) changes.profile
    ∙ ap (indexed_at n (slice_get t.profile.slots n)) (changes.others n other) ∙ sym (at_get t n)

-- ---- slots of a table

abbrev pub Each : (IndexedSlot → Type 0) → List IndexedSlot → Type 0
Each P [] = Unit {0}
Each P (indexed ∷ rest) = P indexed × Each P rest

abbrev pub Differ : List IndexedSlot → Type 0
Differ [] = Unit {0}
Differ (indexed ∷ rest) = (list_any (is_numbered indexed.number) rest ≡ false) × Differ rest

-- the slot is one of the table's
abbrev pub StandsIn : ScannerTable → IndexedSlot → Type 0
StandsIn t indexed = slot_at t indexed.number ≡ Some indexed

-- the slots are slots of the table, and each has its own number
pub record Stand (t : ScannerTable) (all : List IndexedSlot) : Type 0 where
  pub each : Each (StandsIn t) all
  pub differ : Differ all

less_other : (a b : ℕ) → a < b → (b == a) ≡ false
less_other a b less = grind (arith, nat_tests)

flip : (a b : ℕ) → (a == b) ≡ false → (b == a) ≡ false
flip a b is = grind (arith, nat_tests)

none_later : (number from : ℕ) (configs : List SlotConfig) (slots : List Slot) → number < from → list_any (is_numbered number) (indexed_from from configs slots) ≡ false
none_later number from [] slots less = refl
none_later number from (config ∷ configs) [] less = refl
none_later number from (config ∷ configs) (slot ∷ slots) less = rw (less_other number from less) (none_later number (suc from) configs slots (omega (arith, less)))

slots_differ : (from : ℕ) (configs : List SlotConfig) (slots : List Slot) → Differ (indexed_from from configs slots)
slots_differ from [] slots = tt
slots_differ from (config ∷ configs) [] = tt
slots_differ from (config ∷ configs) (slot ∷ slots) = (none_later from (suc from) configs slots (omega arith), slots_differ (suc from) configs slots)

abbrev FoundIn : List IndexedSlot → IndexedSlot → Type 0
FoundIn all indexed = find (is_numbered indexed.number) all ≡ Some indexed

found_behind : (first : IndexedSlot) (all some : List IndexedSlot) → list_any (is_numbered first.number) some ≡ false → Each (FoundIn all) some → Each (FoundIn (first ∷ all)) some
found_behind first all [] none each = tt
found_behind first all (indexed ∷ some) none each =
    let parts = or_parts (indexed.number == first.number) (list_any (is_numbered first.number) some) none in
    (rw (flip indexed.number first.number parts.0) each.0, found_behind first all some parts.1 each.1)

found_head : (first : IndexedSlot) (all : List IndexedSlot) → find (is_numbered first.number) (first ∷ all) ≡ Some first
found_head first all = let here : (first.number == first.number) ≡ true = grind (arith, nat_tests) in rw here refl

each_found : (all : List IndexedSlot) → Differ all → Each (FoundIn all) all
each_found [] differ = tt
each_found (indexed ∷ rest) differ = (found_head indexed rest, found_behind indexed rest rest differ.0 (each_found rest differ.1))

-- all slots of a table are slots of it
pub slots_stand : (t : ScannerTable) → Stand t (indexed_slots t)
slots_stand t =
    let differ = slots_differ 0 t.profile.slots t.slots in
    record { each = each_found (indexed_slots t) differ; differ = differ }

-- ---- some of them, in any order

each_step : (b : Bool) (P : IndexedSlot → Type 0) (indexed : IndexedSlot) (rest : List IndexedSlot) → P indexed → Each P rest → Each P (cond b (indexed ∷ rest) rest)
each_step true P indexed rest is all = (is, all)
each_step false P indexed rest is all = all

each_filter : (P : IndexedSlot → Type 0) (test : IndexedSlot → Bool) (all : List IndexedSlot) → Each P all → Each P (filter test all)
each_filter P test [] each = tt
each_filter P test (indexed ∷ rest) each = each_step (test indexed) P indexed (filter test rest) each.0 (each_filter P test rest each.1)

none_step : (b : Bool) (q : IndexedSlot → Bool) (indexed : IndexedSlot) (rest : List IndexedSlot) → q indexed ≡ false → list_any q rest ≡ false → list_any q (cond b (indexed ∷ rest) rest) ≡ false
none_step true q indexed rest is none = rw is none
none_step false q indexed rest is none = none

none_filter : (q test : IndexedSlot → Bool) (all : List IndexedSlot) → list_any q all ≡ false → list_any q (filter test all) ≡ false
none_filter q test [] none = refl
none_filter q test (indexed ∷ rest) none =
    let parts = or_parts (q indexed) (list_any q rest) none in
    none_step (test indexed) q indexed (filter test rest) parts.0 (none_filter q test rest parts.1)

differ_step : (b : Bool) (indexed : IndexedSlot) (rest : List IndexedSlot) → list_any (is_numbered indexed.number) rest ≡ false → Differ rest → Differ (cond b (indexed ∷ rest) rest)
differ_step true indexed rest is differ = (is, differ)
differ_step false indexed rest is differ = differ

differ_filter : (test : IndexedSlot → Bool) (all : List IndexedSlot) → Differ all → Differ (filter test all)
differ_filter test [] differ = tt
differ_filter test (indexed ∷ rest) differ = differ_step (test indexed) indexed (filter test rest) (none_filter (is_numbered indexed.number) test rest differ.0) (differ_filter test rest differ.1)

pub stand_filter : (t : ScannerTable) (test : IndexedSlot → Bool) (all : List IndexedSlot) → Stand t all → Stand t (filter test all)
stand_filter t test all stand = record { each = each_filter (StandsIn t) test all stand.each; differ = differ_filter test all stand.differ }

inserted_step : (b : Bool) (P : IndexedSlot → Type 0) (before : IndexedSlot → IndexedSlot → Bool) (indexed first : IndexedSlot) (rest : List IndexedSlot) → P indexed → P first → Each P rest → Each P (inserted before indexed rest) → Each P (cond b (indexed ∷ first ∷ rest) (first ∷ inserted before indexed rest))
inserted_step true P before indexed first rest is here all more = (is, (here, all))
inserted_step false P before indexed first rest is here all more = (here, more)

each_inserted : (P : IndexedSlot → Type 0) (before : IndexedSlot → IndexedSlot → Bool) (indexed : IndexedSlot) (rest : List IndexedSlot) → P indexed → Each P rest → Each P (inserted before indexed rest)
each_inserted P before indexed [] is all = (is, tt)
each_inserted P before indexed (first ∷ rest) is all =
    inserted_step (before indexed first) P before indexed first rest is all.0 all.1 (each_inserted P before indexed rest is all.1)

each_in_order : (P : IndexedSlot → Type 0) (before : IndexedSlot → IndexedSlot → Bool) (rest : List IndexedSlot) → Each P rest → Each P (in_order before rest)
each_in_order P before [] all = tt
each_in_order P before (indexed ∷ rest) all = each_inserted P before indexed (in_order before rest) all.0 (each_in_order P before rest all.1)

none_either : (b : Bool) (q : IndexedSlot → Bool) (before : IndexedSlot → IndexedSlot → Bool) (indexed first : IndexedSlot) (rest : List IndexedSlot) → q indexed ≡ false → q first ≡ false → list_any q rest ≡ false → list_any q (inserted before indexed rest) ≡ false → list_any q (cond b (indexed ∷ first ∷ rest) (first ∷ inserted before indexed rest)) ≡ false
none_either true q before indexed first rest is here none more = rw (is, here) none
none_either false q before indexed first rest is here none more = rw here more

none_inserted : (q : IndexedSlot → Bool) (before : IndexedSlot → IndexedSlot → Bool) (indexed : IndexedSlot) (rest : List IndexedSlot) → q indexed ≡ false → list_any q rest ≡ false → list_any q (inserted before indexed rest) ≡ false
none_inserted q before indexed [] is none = rw is refl
none_inserted q before indexed (first ∷ rest) is none =
    let parts = or_parts (q first) (list_any q rest) none in
    none_either (before indexed first) q before indexed first rest is parts.0 parts.1 (none_inserted q before indexed rest is parts.1)

none_in_order : (q : IndexedSlot → Bool) (before : IndexedSlot → IndexedSlot → Bool) (rest : List IndexedSlot) → list_any q rest ≡ false → list_any q (in_order before rest) ≡ false
none_in_order q before [] none = refl
none_in_order q before (indexed ∷ rest) none =
    let parts = or_parts (q indexed) (list_any q rest) none in
    none_inserted q before indexed (in_order before rest) parts.0 (none_in_order q before rest parts.1)

differ_either : (b : Bool) (before : IndexedSlot → IndexedSlot → Bool) (indexed first : IndexedSlot) (rest : List IndexedSlot) → list_any (is_numbered indexed.number) (first ∷ rest) ≡ false → list_any (is_numbered first.number) rest ≡ false → list_any (is_numbered first.number) (inserted before indexed rest) ≡ false → Differ rest → Differ (inserted before indexed rest) → Differ (cond b (indexed ∷ first ∷ rest) (first ∷ inserted before indexed rest))
differ_either true before indexed first rest none here later differ more = (none, (here, differ))
differ_either false before indexed first rest none here later differ more = (later, more)

differ_inserted : (before : IndexedSlot → IndexedSlot → Bool) (indexed : IndexedSlot) (rest : List IndexedSlot) → list_any (is_numbered indexed.number) rest ≡ false → Differ rest → Differ (inserted before indexed rest)
differ_inserted before indexed [] none differ = (refl, tt)
differ_inserted before indexed (first ∷ rest) none differ =
    let parts = or_parts (first.number == indexed.number) (list_any (is_numbered indexed.number) rest) none in
    differ_either (before indexed first) before indexed first rest none differ.0 (none_inserted (is_numbered first.number) before indexed rest (flip first.number indexed.number parts.0) differ.0) differ.1 (differ_inserted before indexed rest parts.1 differ.1)

differ_in_order : (before : IndexedSlot → IndexedSlot → Bool) (rest : List IndexedSlot) → Differ rest → Differ (in_order before rest)
differ_in_order before [] differ = tt
differ_in_order before (indexed ∷ rest) differ = differ_inserted before indexed (in_order before rest) (none_in_order (is_numbered indexed.number) before rest differ.0) (differ_in_order before rest differ.1)

pub stand_in_order : (t : ScannerTable) (before : IndexedSlot → IndexedSlot → Bool) (all : List IndexedSlot) → Stand t all → Stand t (in_order before all)
stand_in_order t before all stand = record { each = each_in_order (StandsIn t) before all stand.each; differ = differ_in_order before all stand.differ }

-- ---- effects on them

stand_still : (t u : ScannerTable) (number : ℕ) (some : List IndexedSlot) → Changes number t u → list_any (is_numbered number) some ≡ false → Each (StandsIn t) some → Each (StandsIn u) some
stand_still t u number [] changes none each = tt
stand_still t u number (indexed ∷ some) changes none each =
    let parts = or_parts (indexed.number == number) (list_any (is_numbered number) some) none in
    (at_other t u number indexed.number changes parts.0 ∙ each.0, stand_still t u number some changes parts.1 each.1)

-- the rest of a run over a list of slots: they are slots of the table so far
pub record Remains (effect : ScannerTable → IndexedSlot → Effect) (all now : Progress) (rest : List IndexedSlot) : Type 0 where
  pub adds : all ≡ followed now (on_each effect rest now.table)
  pub stand : Stand now.table rest

pub one_more : (effect : ScannerTable → IndexedSlot → Effect) (all now next : Progress) (indexed : IndexedSlot) (rest : List IndexedSlot) → IsTame effect → Remains effect all now (indexed ∷ rest) → next ≡ after_at effect indexed.number now → Remains effect all next rest
one_more effect all now next indexed rest tame left made =
    let t = now.table in
    let adds : next ≡ followed now (effect t indexed) = made ∙ ap (λ (o : Option IndexedSlot). followed now (at_found effect t o)) left.stand.each.0 in
    let u = (effect t indexed).table in
    let still : Stand u rest = record { each = stand_still t u indexed.number rest (tame t indexed) left.stand.differ.0 left.stand.each.1; differ = left.stand.differ.1 } in
    record {
      adds = left.adds ∙ sym (adds_both now (effect t indexed) (on_each effect rest u)) ∙ ap (λ (d : Progress). followed d (on_each effect rest d.table)) (sym adds);
      stand = subst (λ (d : Progress). Stand d.table rest) (sym adds) still;
    }

pub none_left : (effect : ScannerTable → IndexedSlot → Effect) (all now : Progress) → Remains effect all now [] → all ≡ now
none_left effect all now left = left.adds ∙ sym (adds_nothing now)
