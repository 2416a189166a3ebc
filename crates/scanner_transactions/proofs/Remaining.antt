-- A run over slots by their numbers: the whole adds what was added so far, and then what the slots
-- from the next number on add.
use Rattle.std.proofs.Common.{◌≡◌, ◌<◌, ℕ, zero, suc, ◌+◌, ◌==◌, Bool, true, false, cond, List, [], ◌∷◌, ◌++◌, map, drop, filter, find, Option, Some, None, refl, sym, ◌∙◌, ap, arith, append_assoc}
use Rattle.std.specs.Prelude.{option_to_list}
use Rattle.std.proofs.lemmas.Bool.Decides.{nat_tests}
use Rattle.std.proofs.lemmas.List.{map-append}
use Rattle.scanner_table.specs.declared.profile.ScannerProfile.{ScannerProfile}
use Rattle.scanner_table.specs.declared.profile.SlotConfig.{SlotConfig}
use Rattle.scanner_table.specs.declared.slot.Slot.{Slot}
use Rattle.scanner_table.specs.declared.table.ScannerTable.{ScannerTable}
use Rattle.scanner_table.specs.Requests.{sent_frame}
use Rattle.scanner_table.specs.Slots.{IndexedSlot, indexed_from, indexed_slots, is_numbered, slot_at}
use Rattle.scanner_table.specs.Effects.{Effect, after, and_then, on_each}
use Rattle.scanner_transactions.specs.declared.transaction.Transaction.{Transaction}
use Rattle.scanner_transactions.specs.Transactions.{Progress, followed, at_found, after_at}
use Rattle.scanner_transactions.specs.Undoing.{GoesOn}
use Rattle.scanner_slots.specs.declared.search.SlotTest.{SlotTest}
use Rattle.scanner_slots.specs.Views.{passes}
use Rattle.scanner_transactions.specs.declared.running.SlotAction.{SlotAction}
use Rattle.scanner_transactions.specs.Runs.{effect_of, at_passes}
use Rattle.scanner_transactions.proofs.Tame.{Changes, IsTame, actions_are_tame}

-- two effects add what they do one after the other
pub adds_both : (d : Progress) (first next : Effect) → followed (followed d first) next ≡ followed d (after first next)
adds_both d first next =
    rw (map-append sent_frame first.sent next.sent, append_assoc d.frames (map sent_frame first.sent) (map sent_frame next.sent), append_assoc d.notices first.notices next.notices) refl

-- an effect behind another one
pub then_added : (d e : Progress) (first next : ScannerTable → Effect) → e ≡ followed d (first d.table) → followed e (next e.table) ≡ followed d (and_then (first d.table) next)
then_added d e first next is = ap (λ (p : Progress). followed p (next p.table)) is ∙ adds_both d (first d.table) (next (first d.table).table)

-- ---- the slots from a number on

no_slots : (number : ℕ) (configs : List SlotConfig) → indexed_from number configs [] ≡ []
no_slots number [] = refl
no_slots number (config ∷ configs) = refl

go_on : (number index from : ℕ) (configs : List SlotConfig) (slots : List Slot) → number ≡ from + index → indexed_from number (drop index configs) (drop index slots) ≡ option_to_list (find (is_numbered number) (indexed_from from configs slots)) ++ indexed_from (suc number) (drop (suc index) configs) (drop (suc index) slots)
go_on number zero from [] slots is = refl
go_on number (suc index) from [] slots is = refl
go_on number zero from (config ∷ configs) [] is = sym (no_slots (suc number) configs)
go_on number (suc index) from (config ∷ configs) [] is = no_slots number (drop index configs) ∙ sym (no_slots (suc number) (drop (suc index) configs))
go_on number zero from (config ∷ configs) (slot ∷ slots) is =
    let same : from ≡ number = omega (arith, is) in
    let here : (number == number) ≡ true = grind (arith, nat_tests) in
    rw (same, here) refl
go_on number (suc index) from (config ∷ configs) (slot ∷ slots) is =
    let other : (from == number) ≡ false = grind (arith, nat_tests, is) in
    rw other (go_on number index (suc from) configs slots (omega (arith, is)))

-- the slot of the number, if there is one, and the later ones
remaining : (t : ScannerTable) (number : ℕ) → indexed_from number (drop number t.profile.slots) (drop number t.slots) ≡ option_to_list (slot_at t number) ++ indexed_from (suc number) (drop (suc number) t.profile.slots) (drop (suc number) t.slots)
remaining t number = go_on number number 0 t.profile.slots t.slots (omega arith)

find_passes : (test : IndexedSlot → Bool) (b : Bool) (first indexed : IndexedSlot) (rest : Option IndexedSlot) → test first ≡ b → (rest ≡ Some indexed → test indexed ≡ true) → cond b (Some first) rest ≡ Some indexed → test indexed ≡ true
find_passes test true first indexed rest is later e = let same : first ≡ indexed = cc in ap test (sym same) ∙ is
find_passes test false first indexed rest is later e = later e

-- the slot that a search finds passes its test
pub found_passes : (test : IndexedSlot → Bool) (all : List IndexedSlot) (indexed : IndexedSlot) → find test all ≡ Some indexed → test indexed ≡ true
found_passes test [] indexed e = absurd cc
found_passes test (first ∷ rest) indexed e = find_passes test (test first) first indexed (find test rest) refl (found_passes test rest indexed) e

number_is : (n number : ℕ) → (n == number) ≡ true → n ≡ number
number_is n number is = grind (arith, nat_tests)

pub found_number : (t : ScannerTable) (number : ℕ) (indexed : IndexedSlot) → slot_at t number ≡ Some indexed → indexed.number ≡ number
found_number t number indexed is = number_is indexed.number number (found_passes (is_numbered number) (indexed_slots t) indexed is)

-- ---- the run

-- the rest of a run from a number on
abbrev pub left : (ScannerTable → IndexedSlot → Effect) → (IndexedSlot → Bool) → ℕ → ScannerTable → Effect
left effect test number t = on_each effect (filter test (indexed_from number (drop number t.profile.slots) (drop number t.slots))) t

skipped : (test : IndexedSlot → Bool) (found : Option IndexedSlot) (rest : List IndexedSlot) → at_passes test found ≡ false → filter test (option_to_list found ++ rest) ≡ filter test rest
skipped test None rest is = refl
skipped test (Some indexed) rest is = rw is refl

-- a slot that does not pass adds nothing
pub skip : (effect : ScannerTable → IndexedSlot → Effect) (test : IndexedSlot → Bool) (all now : Progress) (number : ℕ) → all ≡ followed now (left effect test number now.table) → at_passes test (slot_at now.table number) ≡ false → all ≡ followed now (left effect test (suc number) now.table)
skip effect test all now number is fails =
    is ∙ ap (λ (ps : List IndexedSlot). followed now (on_each effect ps now.table)) (ap (filter test) (remaining now.table number) ∙ skipped test (slot_at now.table number) _ fails)

record Taken (effect : ScannerTable → IndexedSlot → Effect) (test : IndexedSlot → Bool) (t : ScannerTable) (number : ℕ) (rest : List IndexedSlot) : Type 0 where
  pub indexed : IndexedSlot
  pub found : slot_at t number ≡ Some indexed
  pub all : filter test (option_to_list (slot_at t number) ++ rest) ≡ indexed ∷ filter test rest

taken : (effect : ScannerTable → IndexedSlot → Effect) (test : IndexedSlot → Bool) (t : ScannerTable) (number : ℕ) (rest : List IndexedSlot) (found : Option IndexedSlot) → slot_at t number ≡ found → at_passes test found ≡ true → Taken effect test t number rest
taken effect test t number rest None is holds = absurd (let e : false ≡ true = holds in cc)
taken effect test t number rest (Some indexed) is holds = record { indexed = indexed; found = is; all = ap (λ (o : Option IndexedSlot). filter test (option_to_list o ++ rest)) is ∙ kept } where
  kept : filter test (indexed ∷ rest) ≡ indexed ∷ filter test rest
  kept = let is : test indexed ≡ true = holds in rw is refl

-- a change of one slot leaves the later slots
tail_same : (number n : ℕ) (t u : ScannerTable) → Changes n t u → n < suc number → indexed_from (suc number) (drop (suc number) t.profile.slots) (drop (suc number) t.slots) ≡ indexed_from (suc number) (drop (suc number) u.profile.slots) (drop (suc number) u.slots)
tail_same number n t u changes below =
    ap (λ (p : ScannerProfile). indexed_from (suc number) (drop (suc number) p.slots) (drop (suc number) t.slots)) (sym changes.profile)
    ∙ ap (indexed_from (suc number) (drop (suc number) u.profile.slots)) (sym (changes.later (suc number) below))

-- a slot that passes adds its effect
pub take_one : (effect : ScannerTable → IndexedSlot → Effect) (test : IndexedSlot → Bool) (all now next : Progress) (number : ℕ) → IsTame effect → all ≡ followed now (left effect test number now.table) → at_passes test (slot_at now.table number) ≡ true → next ≡ after_at effect number now → all ≡ followed next (left effect test (suc number) next.table)
take_one effect test all now next number tame is holds made =
    let t = now.table in
    let rest = indexed_from (suc number) (drop (suc number) t.profile.slots) (drop (suc number) t.slots) in
    let one = taken effect test t number rest (slot_at t number) refl holds in
    let adds : next ≡ followed now (effect t one.indexed) = made ∙ ap (λ (o : Option IndexedSlot). followed now (at_found effect t o)) one.found in
    let changes = tame t one.indexed in
    let below : one.indexed.number < suc number = omega (arith, found_number t number one.indexed one.found) in
    let u = (effect t one.indexed).table in
    let same = tail_same number one.indexed.number t u changes below in
    is
    ∙ ap (λ (ps : List IndexedSlot). followed now (on_each effect ps t)) (ap (filter test) (remaining t number) ∙ one.all)
    ∙ sym (adds_both now (effect t one.indexed) (on_each effect (filter test rest) u))
    ∙ ap (λ (ps : List IndexedSlot). followed (followed now (effect t one.indexed)) (on_each effect (filter test ps) u)) same
    ∙ ap (λ (d : Progress). followed d (left effect test (suc number) d.table)) (sym adds)

-- ---- the steps of the loop

pub take_next : (action : SlotAction) (test : SlotTest) (all now next : Progress) (number : ℕ) → all ≡ followed now (left (effect_of action) (passes test) number now.table) → at_passes (passes test) (slot_at now.table number) ≡ true → next ≡ after_at (effect_of action) number now → all ≡ followed next (left (effect_of action) (passes test) (number + 1) next.table)
take_next action test all now next number is holds made =
    let up : number + 1 ≡ suc number = omega arith in
    rw up (take_one (effect_of action) (passes test) all now next number (actions_are_tame action) is holds made)

pub skip_next : (action : SlotAction) (test : SlotTest) (all now : Progress) (number : ℕ) → all ≡ followed now (left (effect_of action) (passes test) number now.table) → at_passes (passes test) (slot_at now.table number) ≡ false → all ≡ followed now (left (effect_of action) (passes test) (number + 1) now.table)
skip_next action test all now number is fails =
    let up : number + 1 ≡ suc number = omega arith in
    rw up (skip (effect_of action) (passes test) all now number is fails)

-- a transaction that goes on twice goes on
pub goes_on : (first then last : Transaction) → GoesOn first then → GoesOn then last → GoesOn first last
goes_on first then last once again = (again.0 ∙ once.0, again.1 ∙ once.1, again.2 ∙ once.2)
