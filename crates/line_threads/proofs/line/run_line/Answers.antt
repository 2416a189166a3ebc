use Rattle.std.proofs.Common.{◌≡◌, List, None, ap, length, map, subst, sym, ◌∙◌}
use Rattle.std.specs.Prelude.{All}
use Rattle.std.proofs.lemmas.List.{length-map}
use Rattle.cip_tables.specs.declared.table.Config.{Config}
use Rattle.cip_tables.specs.Step.{config_fault}
use Rattle.device_lock.specs.declared.receipt.Receipt.{Receipt}
use Rattle.segment_world.specs.Configs.{world_fault}
use Rattle.settling.specs.Search.Histories.{config_in, configs_of}
use Rattle.line_threads.specs.Accounts.{HasItsReceipts}
use Rattle.line_threads.specs.Lines.{Apart, ReportsScripts, byte_of}
use Rattle.line_threads.proofs.Comparing.{own_is_scripts}
use Rattle.line_threads.proofs.Incarnations.{all_valid, bytes_are_apart}
use Rattle.line_threads.proofs.line.run_line.Goals as goal

pub open_devices-requires-clause-valid : goal.open_devices-requires-clause-valid
open_devices-requires-clause-valid g c =
    let none : world_fault c.args.line.configs.items ≡ None = ap world_fault (sym c.deref.ensures.value) ∙ sym c.world_fault.ensures ∙ c.in_default.is in
    subst (λ (configs : List Config). All (λ config. config_fault config ≡ None) configs) (sym c.deref-2.ensures.value) (all_valid c.args.line.configs.items none)

pub run_devices-requires-clause-apart : goal.run_devices-requires-clause-apart
run_devices-requires-clause-apart g c κs within =
    let none : world_fault c.args.line.configs.items ≡ None = ap world_fault (sym c.deref.ensures.value) ∙ sym c.world_fault.ensures ∙ c.in_default.is in
    subst (λ (configs : List Config). Apart (map byte_of configs)) (sym (c.deref-4.ensures.value ∙ c.in_ok-devices.ensures ∙ c.deref-2.ensures.value)) (bytes_are_apart c.args.line.configs.items none)

pub returns-clause-valid : goal.returns-clause-valid
returns-clause-valid g c =
    let none : world_fault c.args.line.configs.items ≡ None = ap world_fault (sym c.deref.ensures.value) ∙ sym c.world_fault.ensures ∙ c.in_default.is in
    ap world_fault (c.in_ok-histories.ensures.configs ∙ c.in_ok-devices.ensures ∙ c.deref-2.ensures.value) ∙ none

pub returns-clause-scripts : goal.returns-clause-scripts
returns-clause-scripts g c =
    subst (λ (configs : List Config). ReportsScripts (map byte_of configs) c.args.scripts.items c.in_ok-receipts.receipts.items)
    (c.deref-4.ensures.value ∙ c.in_ok-devices.ensures ∙ c.deref-2.ensures.value)
    c.in_ok-receipts.ensures

pub returns-clause-receipts : goal.returns-clause-receipts
returns-clause-receipts g c =
    subst (λ (rs : List Receipt). All (HasItsReceipts rs) c.in_ok-histories.histories.items) c.deref-5.ensures.value c.in_ok-histories.ensures.receipts

pub returns-clause-own : goal.returns-clause-own
returns-clause-own g c =
    let hs = c.in_ok-histories.histories.items in
    let configs : configs_of hs ≡ c.args.line.configs.items = c.in_ok-histories.ensures.configs ∙ c.in_ok-devices.ensures ∙ c.deref-2.ensures.value in
    own_is_scripts hs c.args.scripts.items c.in_ok-receipts.receipts.items
    (c.requires.scripts ∙ sym (ap length configs) ∙ length-map hs config_in)
    (subst (λ (configs : List Config). ReportsScripts (map byte_of configs) c.args.scripts.items c.in_ok-receipts.receipts.items) (c.deref-4.ensures.value ∙ sym c.in_ok-histories.ensures.configs) c.in_ok-receipts.ensures)
    (subst (λ (rs : List Receipt). All (HasItsReceipts rs) hs) c.deref-5.ensures.value c.in_ok-histories.ensures.receipts)
