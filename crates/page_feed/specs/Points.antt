-- Points in a snapshot, as JSON (RFC 8259): the outputs and inputs of an adapter, the images and outputs of a scanner's slots.
use Rattle.std.specs.Prelude.{ℕ, List, [], ◌∷◌, ◌++◌, codes, decimal, flat_map, slice_get, Option, Some, None}
use Rattle.adapter_table.specs.declared.profile.InputPoint.{InputPoint}
use Rattle.adapter_table.specs.declared.profile.OutputPoint.{OutputPoint}
use Rattle.adapter_table.specs.declared.report.ConsumerCounts.{ConsumerCounts}
use Rattle.cip_tables.specs.declared.table.DeviceTable.{DeviceTable}
use Rattle.cip_tables.specs.declared.table.DeviceTable.TheVariants.{Adapter, Scanner}
use Rattle.cip_tables.specs.States.{consumers_in, owner_in, slot_in}
use Rattle.cip_tables.specs.Step.{bytes_in}
use Rattle.cip_types.specs.declared.names.Node.{Node}
use Rattle.scanner_table.specs.declared.profile.SlotConfig.{SlotConfig}
use Rattle.scanner_table.specs.declared.report.SlotReport.{SlotReport}
use Rattle.scanner_table.specs.declared.report.SlotReport.TheVariants.{Idle}
use Rattle.scanner_table.specs.declared.slot.Slot.{Slot}
use Rattle.trace_words.specs.Words.{bytes_word, node_word}
use Rattle.trace_lines.specs.Kinds.{kind_word}
use Rattle.page_feed.specs.declared.waits.SlotFacts.{SlotFacts}
use Rattle.page_feed.specs.Connections.{owner_text, state_text}
use Rattle.page_feed.specs.Rows.{row_text}
use Rattle.page_feed.specs.Waits.{wait_text}

-- the bytes of a point; a dash where there is none
abbrev pub found_bytes : Option (List ℕ) → List ℕ
found_bytes (Some bytes) = bytes_word bytes
found_bytes None = codes "-"

abbrev pub bytes_text : DeviceTable → ℕ → List ℕ
bytes_text table point = found_bytes (bytes_in table point)

-- an output: its number, its bytes, its owner
abbrev pub output_text : DeviceTable → OutputPoint → List ℕ
output_text table output =
    codes "{\"point\":" ++ (decimal output.instance
    ++ (codes ",\"bytes\":\"" ++ (bytes_text table output.instance
    ++ (codes "\",\"owner\":" ++ (owner_text (owner_in table output.instance)
    ++ codes "}")))))

abbrev pub outputs_text : DeviceTable → List OutputPoint → List ℕ
outputs_text table [] = []
outputs_text table (output ∷ outputs) = output_text table output ++ flat_map (λ other. codes "," ++ output_text table other) outputs

-- how many connections consume an input
abbrev pub consumers_text : ConsumerCounts → List ℕ
consumers_text counts =
    codes "\",\"exclusive_owners\":" ++ (decimal counts.exclusive_owners
    ++ (codes ",\"input_only\":" ++ (decimal counts.input_only
    ++ (codes ",\"listen_only\":" ++ (decimal counts.listen_only
    ++ codes "}")))))

-- an input: its number, its bytes, how many connections consume it
abbrev pub input_text : DeviceTable → InputPoint → List ℕ
input_text table input =
    codes "{\"point\":" ++ (decimal input.instance
    ++ (codes ",\"bytes\":\"" ++ (bytes_text table input.instance
    ++ consumers_text (consumers_in table input.instance))))

abbrev pub inputs_text : DeviceTable → List InputPoint → List ℕ
inputs_text table [] = []
inputs_text table (input ∷ inputs) = input_text table input ++ flat_map (λ other. codes "," ++ input_text table other) inputs

-- THE SLOTS OF A SCANNER

-- the slots of a table; an adapter has none
abbrev pub slots_in : DeviceTable → List Slot
slots_in (Adapter t) = []
slots_in (Scanner t) = t.slots

-- the bytes that a slot sends: none, if there is no such slot or it sends no data
abbrev pub sent_by : Option Slot → List ℕ
sent_by (Some slot) = slot.output
sent_by None = []

abbrev pub output_at : List Slot → ℕ → List ℕ
output_at slots number = sent_by (slice_get slots number)

-- a slot: its number, its target, its kind and points, its image, its output, its state, what it waits for, what was noted of it
abbrev pub slot_state : Option SlotReport → SlotReport
slot_state (Some report) = report
slot_state None = Idle

abbrev pub slot_head : ℕ → Node → List ℕ
slot_head number target = codes "{\"slot\":" ++ (decimal number ++ (codes ",\"target\":\"" ++ node_word target))

abbrev pub slot_terms : SlotConfig → List ℕ
slot_terms config =
    codes "\",\"kind\":\"" ++ (kind_word config.kind
    ++ (codes "\",\"consumed\":" ++ (decimal config.consumed
    ++ (codes ",\"produced\":" ++ decimal config.produced))))

abbrev pub slot_image : DeviceTable → ℕ → List ℕ
slot_image table number = codes ",\"bytes\":\"" ++ bytes_text table number

abbrev pub slot_output : List ℕ → List ℕ
slot_output output = codes "\",\"output\":\"" ++ (bytes_word output ++ codes "\",\"state\":")

abbrev pub slot_end : SlotReport → SlotFacts → List ℕ
slot_end report facts = state_text report ++ (wait_text facts ++ (row_text facts.now_ms facts.row ++ codes "}"))

abbrev pub slot_front : ℕ → SlotConfig → List ℕ
slot_front number config = slot_head number config.target ++ slot_terms config

abbrev pub slot_text : DeviceTable → ℕ → SlotConfig → List ℕ → SlotFacts → List ℕ
slot_text table number config output facts =
    slot_front number config ++ (slot_image table number ++ (slot_output output ++ slot_end (slot_state (slot_in table number)) facts))
