-- At most as many openings of one target wait for their replies as the profile allows.
use Rattle.std.proofs.Common.{◌≡◌, ◌≤◌, ◌<◌, ℕ, zero, suc, ◌+◌, ◌==◌, ◌&&◌, Bool, true, false, cond, List, [], ◌∷◌, length, map, filter, slice_get, slice_set, Option, Some, None, refl, sym, ◌∙◌, ap, subst, arith, eqb-true}
use Rattle.std.proofs.lemmas.Bool.Decides.{nat_tests}
use Rattle.std.proofs.lemmas.Option.{same_Some}
use Rattle.base_lemmas.specs.Booleans.{and_none}
use Rattle.cip_types.specs.declared.names.Ms.{Ms}
use Rattle.cip_types.specs.declared.names.Node.{Node}
use Rattle.cip_productions.specs.Kinds.{is_owner}
use Rattle.scanner_table.specs.declared.profile.ScannerProfile.{ScannerProfile}
use Rattle.scanner_table.specs.declared.profile.SlotConfig.{SlotConfig}
use Rattle.scanner_table.specs.declared.slot.Slot.{Slot}
use Rattle.scanner_table.specs.declared.slot.SlotState.{SlotState}
use Rattle.scanner_table.specs.declared.slot.SlotState.TheVariants.{Idle, Opening, Established, TimedOut, Closing}
use Rattle.scanner_table.specs.declared.table.ScannerTable.{ScannerTable}
use Rattle.scanner_table.specs.Slots.{IndexedSlot, indexed_from, is_with, is_opening}
use Rattle.scanner_table.specs.Opening.{opens_at, openings_at, leaves_room, has_place, opening_slot, closing_slot}
use Rattle.scanner_table.specs.Replies.{new_connection, established_slot}
use Rattle.scanner_table.specs.Datagrams.{accepted_connection}
use Rattle.scanner_table.specs.Points.{output_slot, moded_slot}
use Rattle.scanner_table.specs.Productions.{written_state, state_is_due, produced_state, produced_slot, produced_table}
use Rattle.scanner_table.specs.Runs.{StepsKeep, IsLaw}
use Rattle.scanner_table.specs.Step.{fresh_slot, scanner_table}
use Rattle.scanner_table.specs.Turns.{IsWithin, OpeningsTakeTurns}
use Rattle.scanner_table.specs.Lemmas.Events.{steps_lead, law_of}
use Rattle.scanner_table.specs.Lemmas.Moves.{KeptAlways}
use Rattle.scanner_table.specs.Lemmas.SlotLookups.{Stands, indexed_at}

-- ---- counts

-- how many of these slots open at the target
abbrev Count : Node → ℕ → List SlotConfig → List Slot → ℕ
Count target from configs slots = length (filter (opens_at target) (indexed_from from configs slots))

fewer_step : (a b : Bool) (x y : IndexedSlot) (xs ys : List IndexedSlot) → (a ≡ true → b ≡ true) → length xs ≤ length ys → length (cond a (x ∷ xs) xs) ≤ length (cond b (y ∷ ys) ys)
fewer_step true true x y xs ys also le = omega (arith, le)
fewer_step true false x y xs ys also le = absurd (let e : false ≡ true = also refl in cc)
fewer_step false true x y xs ys also le = omega (arith, le)
fewer_step false false x y xs ys also le = le

one_more : (a b : Bool) (x y : IndexedSlot) (xs : List IndexedSlot) → length (cond a (x ∷ xs) xs) ≤ length (cond b (y ∷ xs) xs) + 1
one_more true true x y xs = omega arith
one_more true false x y xs = omega arith
one_more false true x y xs = omega arith
one_more false false x y xs = omega arith

same_more : (a : Bool) (x : IndexedSlot) (xs ys : List IndexedSlot) → length xs ≤ length ys + 1 → length (cond a (x ∷ xs) xs) ≤ length (cond a (x ∷ ys) ys) + 1
same_more true x xs ys le = omega (arith, le)
same_more false x xs ys le = le

-- one slot is another, and opens at the target only if the old one does
abbrev OpensNoMore : Node → List SlotConfig → ℕ → Slot → Slot → Type 0
OpensNoMore target configs k old new = (n : ℕ) (config : SlotConfig) → slice_get configs k ≡ Some config → opens_at target (indexed_at n config new) ≡ true → opens_at target (indexed_at n config old) ≡ true

count_set : (target : Node) (k from : ℕ) (configs : List SlotConfig) (slots : List Slot) (old new : Slot) → slice_get slots k ≡ Some old → OpensNoMore target configs k old new → Count target from configs (slice_set slots k new) ≤ Count target from configs slots
count_set target k from [] slots old new is no_more = omega arith
count_set target zero from (config ∷ configs) [] old new is no_more = omega arith
count_set target (suc k) from (config ∷ configs) [] old new is no_more = omega arith
count_set target zero from (config ∷ configs) (slot ∷ slots) old new is no_more =
    let rest = filter (opens_at target) (indexed_from (suc from) configs slots) in
    fewer_step (opens_at target (indexed_at from config new)) (opens_at target (indexed_at from config slot)) (indexed_at from config new) (indexed_at from config slot) rest rest
    (λ opens. subst (λ (s : Slot). opens_at target (indexed_at from config s) ≡ true) (sym (same_Some slot old is)) (no_more from config refl opens)) (omega arith)
count_set target (suc k) from (config ∷ configs) (slot ∷ slots) old new is no_more =
    fewer_step (opens_at target (indexed_at from config slot)) (opens_at target (indexed_at from config slot)) (indexed_at from config slot) (indexed_at from config slot) _ _ (λ opens. opens)
    (count_set target k (suc from) configs slots old new is no_more)

count_more : (target : Node) (k from : ℕ) (configs : List SlotConfig) (slots : List Slot) (new : Slot) → Count target from configs (slice_set slots k new) ≤ Count target from configs slots + 1
count_more target k from [] slots new = omega arith
count_more target zero from (config ∷ configs) [] new = omega arith
count_more target (suc k) from (config ∷ configs) [] new = omega arith
count_more target zero from (config ∷ configs) (slot ∷ slots) new =
    one_more (opens_at target (indexed_at from config new)) (opens_at target (indexed_at from config slot)) (indexed_at from config new) (indexed_at from config slot) (filter (opens_at target) (indexed_from (suc from) configs slots))
count_more target (suc k) from (config ∷ configs) (slot ∷ slots) new =
    same_more (opens_at target (indexed_at from config slot)) (indexed_at from config slot) _ _ (count_more target k (suc from) configs slots new)

-- ---- limits

within_less : (most : Option ℕ) (a b : ℕ) → a ≤ b → IsWithin most b → IsWithin most a
within_less None a b le within = tt
within_less (Some most) a b le within = omega (arith, le, within)

within_one : (most : Option ℕ) (a b : ℕ) → a ≤ b + 1 → leaves_room most b ≡ true → IsWithin most a
within_one None a b le room = tt
within_one (Some most) a b le room = let less : b < most = grind (arith, nat_tests, room) in omega (arith, le, less)

-- ---- a table leads to another

-- the profile is the same, and openings take turns as before
record KeepsTurns (t u : ScannerTable) : Type 0 where
  profile : u.profile ≡ t.profile
  turns : OpeningsTakeTurns t → OpeningsTakeTurns u

-- a slot of a table is another one, which opens only if the old one does
set_turns : (t : ScannerTable) (indexed : IndexedSlot) (slot : Slot) → Stands t indexed → (is_opening slot.state ≡ true → is_opening indexed.slot.state ≡ true) → OpeningsTakeTurns t → (target : Node) → IsWithin t.profile.openings (Count target 0 t.profile.slots (slice_set t.slots indexed.number slot))
set_turns t indexed slot stands also turns target =
    within_less t.profile.openings _ (openings_at t target)
    (count_set target indexed.number 0 t.profile.slots t.slots indexed.slot slot stands.slot (λ n config at. both_step (is_with target (indexed_at n config slot)) (is_opening slot.state) (is_opening indexed.slot.state) also))
    (turns target) where
      both_step : (a b c : Bool) → (b ≡ true → c ≡ true) → (a && b) ≡ true → (a && c) ≡ true
      both_step true b c also is = also is
      both_step false b c also is = is

not_opening : (state other : SlotState) → is_opening state ≡ false → is_opening state ≡ true → is_opening other ≡ true
not_opening state other not is = absurd (let e : false ≡ true = sym not ∙ is in cc)

-- a slot that opens in its turn
same_node : (a b : Node) → a.0 ≡ b.0 → a ≡ b
same_node a b is = ap (λ (n : ℕ). let node : Node = record { 0 = n } in node) is

turn_taken : (b : Bool) (t : ScannerTable) (indexed : IndexedSlot) (target : Node) → (indexed.config.target.0 == target.0) ≡ b → Stands t indexed → has_place t indexed.config.target ≡ true → OpeningsTakeTurns t → IsWithin t.profile.openings (Count target 0 t.profile.slots (slice_set t.slots indexed.number (opening_slot t indexed)))
turn_taken true t indexed target is stands place turns =
    let same : indexed.config.target ≡ target = same_node indexed.config.target target (eqb-true indexed.config.target.0 target.0 is) in
    within_one t.profile.openings _ (openings_at t target) (count_more target indexed.number 0 t.profile.slots t.slots (opening_slot t indexed)) (subst (λ (n : Node). has_place t n ≡ true) same place)
turn_taken false t indexed target is stands place turns =
    within_less t.profile.openings _ (openings_at t target)
    (count_set target indexed.number 0 t.profile.slots t.slots indexed.slot (opening_slot t indexed) stands.slot
    (λ n config at opens.
    let mine : indexed.config ≡ config = same_Some indexed.config config (sym stands.config ∙ at) in
    let other : (config.target.0 == target.0) ≡ false = subst (λ (c : SlotConfig). (c.target.0 == target.0) ≡ false) mine is in
    absurd (let e : false ≡ true = subst (λ (b : Bool). (b && true) ≡ true) other opens in cc)))
    (turns target)

written_opens : (state : SlotState) → is_opening (written_state state) ≡ is_opening state
written_opens Idle = refl
written_opens (Opening o) = refl
written_opens (Established c) = refl
written_opens (TimedOut link) = refl
written_opens (Closing c) = refl

produced_opens : (clock : Ms) (state : SlotState) → is_opening (produced_state clock state) ≡ is_opening state
produced_opens clock Idle = refl
produced_opens clock (Opening o) = refl
produced_opens clock (Established c) = refl
produced_opens clock (TimedOut link) = refl
produced_opens clock (Closing c) = refl

moded_opens : (b : Bool) (slot : Slot) → is_opening (cond b (record slot { state = written_state slot.state }) slot).state ≡ is_opening slot.state
moded_opens true slot = written_opens slot.state
moded_opens false slot = refl

due_opens : (b : Bool) (clock : Ms) (slot : Slot) → is_opening (cond b (record slot { state = produced_state clock slot.state }) slot).state ≡ is_opening slot.state
due_opens true clock slot = produced_opens clock slot.state
due_opens false clock slot = refl

count_moded : (target : Node) (from : ℕ) (configs : List SlotConfig) (slots : List Slot) → Count target from configs (map moded_slot (indexed_from from configs slots)) ≤ Count target from configs slots
count_moded target from [] slots = omega arith
count_moded target from (config ∷ configs) [] = omega arith
count_moded target from (config ∷ configs) (slot ∷ slots) =
    let old = indexed_at from config slot in
    let new = indexed_at from config (moded_slot old) in
    fewer_step (opens_at target new) (opens_at target old) new old _ _
    (λ opens. ap (λ (b : Bool). is_with target old && b) (sym (moded_opens (is_owner config.kind) slot)) ∙ opens)
    (count_moded target (suc from) configs slots)

count_produced : (target : Node) (clock : Ms) (from : ℕ) (configs : List SlotConfig) (slots : List Slot) → Count target from configs (map (produced_slot clock) slots) ≤ Count target from configs slots
count_produced target clock from [] slots = omega arith
count_produced target clock from (config ∷ configs) [] = omega arith
count_produced target clock from (config ∷ configs) (slot ∷ slots) =
    let old = indexed_at from config slot in
    let new = indexed_at from config (produced_slot clock slot) in
    fewer_step (opens_at target new) (opens_at target old) new old _ _
    (λ opens. ap (λ (b : Bool). is_with target old && b) (sym (due_opens (state_is_due clock slot.state) clock slot)) ∙ opens)
    (count_produced target clock (suc from) configs slots)

produced_turns : (t : ScannerTable) → KeepsTurns t (produced_table t)
unfolding produced_table
produced_turns t = record {
  profile = refl;
  turns = λ turns target. within_less t.profile.openings _ (openings_at t target) (count_produced target t.clock 0 t.profile.slots t.slots) (turns target);
}

turns_after : (t u v : ScannerTable) → KeepsTurns t u → KeepsTurns u v → KeepsTurns t v
turns_after t u v first next = record { profile = next.profile ∙ first.profile; turns = λ turns. next.turns (first.turns turns) }

turns_always : KeptAlways KeepsTurns
turns_always = record {
  widely = record {
    slots = record {
      same = λ t. record { profile = refl; turns = λ turns. turns };
      after = turns_after;
      opening = λ t indexed stands closed_before place left. record {
        profile = refl;
        turns = λ turns target. turn_taken (indexed.config.target.0 == target.0) t indexed target refl stands place turns;
      };
      idling = λ t indexed slot stands idle. record { profile = refl; turns = set_turns t indexed slot stands (not_opening slot.state indexed.slot.state (ap is_opening idle.state)) };
      timing_out = λ t indexed link slot stands is becomes. record { profile = refl; turns = set_turns t indexed slot stands (not_opening slot.state indexed.slot.state (ap is_opening becomes.state)) };
      closing = λ t indexed link desired_up stands is.
          let slot = closing_slot t link desired_up indexed.slot in
          record { profile = refl; turns = set_turns t indexed slot stands (not_opening slot.state indexed.slot.state refl) };
    };
    streams = λ t streams. record { profile = refl; turns = λ turns. turns };
    clocked = λ t ms. record { profile = refl; turns = λ turns. turns };
    producing = produced_turns;
    moding = λ t run. record {
      profile = refl;
      turns = λ turns target. within_less t.profile.openings _ (openings_at t target) (count_moded target 0 t.profile.slots t.slots) (turns target);
    };
    explicit = λ t pending request later. record { profile = refl; turns = λ turns. turns };
  };
  taken = λ t block may. record { profile = refl; turns = λ turns. turns };
  establishing = λ t indexed o success stands is requested.
      let slot = established_slot indexed (new_connection t indexed o success) in
      record { profile = refl; turns = set_turns t indexed slot stands (not_opening slot.state indexed.slot.state refl) };
  writing = λ t indexed bytes stands. record { profile = refl; turns = set_turns t indexed (output_slot bytes indexed.slot) stands (λ is. sym (written_opens indexed.slot.state) ∙ is) };
  accepting = λ t indexed d c bytes stands is.
      let slot : Slot = record indexed.slot { state = Established (accepted_connection t.clock d c); image = bytes } in
      record { profile = refl; turns = set_turns t indexed slot stands (not_opening slot.state indexed.slot.state refl) };
}

-- ---- the law

turns_keep : StepsKeep OpeningsTakeTurns
turns_keep t event next is turns = (steps_lead KeepsTurns turns_always t event next is).turns turns

none_open : (target : Node) (from : ℕ) (configs : List SlotConfig) → filter (opens_at target) (indexed_from from configs (map fresh_slot configs)) ≡ []
none_open target from [] = refl
none_open target from (config ∷ configs) = rw (and_none (is_with target (indexed_at from config (fresh_slot config)))) (none_open target (suc from) configs)

within_none : (most : Option ℕ) → IsWithin most 0
within_none None = tt
within_none (Some most) = omega arith

fresh_turns : (profile : ScannerProfile) → OpeningsTakeTurns (scanner_table profile)
fresh_turns profile target = subst (λ (l : List IndexedSlot). IsWithin profile.openings (length l)) (sym (none_open target 0 profile.slots)) (within_none profile.openings)

pub turns_law : IsLaw OpeningsTakeTurns
turns_law = law_of OpeningsTakeTurns turns_keep fresh_turns
