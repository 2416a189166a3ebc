-- The datagrams of a scanner: a slot sends one at most, a run/idle header and an output.
use Rattle.std.proofs.Common.{◌≡◌, ◌≤◌, ℕ, suc, Bool, true, List, [], ◌∷◌, ◌++◌, length, map, filter, refl, arith, length-append}
use Rattle.std.specs.Int.{w32, to_le_bytes}
use Rattle.std.specs.List.{list_all}
use Rattle.std.specs.Option.{IfSome}
use Rattle.std.proofs.lemmas.Bool.{and_parts}
use Rattle.cip_datagram.specs.Header.{mode_header}
use Rattle.cip_productions.specs.Kinds.{is_owner}
use Rattle.cip_productions.specs.Productions.{Produced, sent}
use Rattle.scanner_table.specs.declared.profile.SlotConfig.{SlotConfig}
use Rattle.scanner_table.specs.declared.slot.Slot.{Slot}
use Rattle.scanner_table.specs.declared.slot.SlotState.{SlotState}
use Rattle.scanner_table.specs.declared.slot.SlotState.TheVariants.{Established}
use Rattle.scanner_table.specs.declared.table.ScannerTable.{ScannerTable}
use Rattle.scanner_table.specs.Productions.{slot_data, state_production, slot_production, is_due, by_due, due_slots, due_productions}
use Rattle.scanner_table.specs.Profiles.{is_out_len, has_lengths}
use Rattle.scanner_table.specs.Slots.{IndexedSlot, indexed_from, indexed_slots}
use Rattle.scanner_table.specs.WellFormed.{SlotsFit, IsWellFormed}
use Rattle.answer_sizes.specs.Sizes.{IsShortDatagram}
use Rattle.answer_sizes.proofs.Few.{Few, few_none, few_more, few_most, few_filtered, few_ordered, few_mapped, few_made, either}
use Rattle.answer_sizes.proofs.Answers.{datagram_short}
use Rattle.answer_sizes.proofs.ScannerFrames.{faultless}
use Rattle.answer_sizes.specs.Lemmas.SlotLengths.{out_short}

-- ---- outputs

HasShortOutput : IndexedSlot → Type 0
HasShortOutput indexed = length indexed.slot.output ≤ 1400

output_short : (config : SlotConfig) → has_lengths config ≡ true → config.out_len ≤ 1400
output_short config is = out_short config.kind config.out_len (and_parts (is_out_len config.kind config.out_len) _ (and_parts _ _ is).1).0

own_outputs : (r clock number : ℕ) (configs : List SlotConfig) (slots : List Slot) → list_all has_lengths configs ≡ true → SlotsFit r clock configs slots → Few (length configs) HasShortOutput (indexed_from number configs slots)
unfolding HasShortOutput
own_outputs r clock number [] slots all fit = few_none 0 HasShortOutput
own_outputs r clock number (config ∷ configs) [] all fit = few_none (suc (length configs)) HasShortOutput
own_outputs r clock number (config ∷ configs) (slot ∷ slots) all fit =
    let parts = and_parts (has_lengths config) (list_all has_lengths configs) all in
    few_more (length configs) HasShortOutput (record { number = number; config = config; slot = slot }) (indexed_from (suc number) configs slots) (omega (arith, fit.0.output, output_short config parts.0)) (own_outputs r clock (suc number) configs slots parts.1 fit.1)

few_outputs : (t : ScannerTable) → IsWellFormed t → Few 64 HasShortOutput (indexed_slots t)
few_outputs t whole =
    let has = faultless t.profile whole.faultless in
    few_most 64 (length t.profile.slots) HasShortOutput (indexed_slots t) has.few (own_outputs t.next_request t.clock.0 0 t.profile.slots t.slots has.lengths whole.slots)

-- ---- productions

SendsFew : Produced → Type 0
SendsFew production = length production.datagram.payload ≤ 1404

data_short : (run : Bool) (indexed : IndexedSlot) → HasShortOutput indexed → length (slot_data run indexed) ≤ 1404
unfolding HasShortOutput
data_short run indexed short =
    let header : length (to_le_bytes w32 (mode_header run)) ≡ 4 = refl in
    either (λ (bytes : List ℕ). length bytes ≤ 1404) (is_owner indexed.config.kind) (to_le_bytes w32 (mode_header run) ++ indexed.slot.output) [] (omega (arith, length-append (to_le_bytes w32 (mode_header run)) indexed.slot.output, header)) (omega arith)

produces_few : (run : Bool) (indexed : IndexedSlot) (state : SlotState) → HasShortOutput indexed → IfSome (state_production run indexed state) SendsFew
unfolding SendsFew
produces_few run indexed (Established c) short = data_short run indexed short
produces_few run indexed other short = tt

sent_short : (production : Produced) → SendsFew production → IsShortDatagram (sent production)
unfolding SendsFew
sent_short production few = datagram_short production.datagram (omega arith)

-- the datagrams of the due slots
pub due_few : (t : ScannerTable) → IsWellFormed t → Few 64 IsShortDatagram (map sent (due_productions t))
due_few t whole =
    let due = few_ordered 64 HasShortOutput by_due (filter (is_due t.clock) (indexed_slots t)) (few_filtered 64 HasShortOutput (is_due t.clock) (indexed_slots t) (few_outputs t whole)) in
    few_mapped 64 SendsFew IsShortDatagram sent sent_short (due_productions t)
    (few_made 64 HasShortOutput SendsFew (slot_production t.run) (λ indexed short. produces_few t.run indexed indexed.slot.state short) (due_slots t) due)
