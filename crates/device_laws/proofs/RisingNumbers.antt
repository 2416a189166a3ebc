-- Request numbers rise, and no id is given twice.
use Rattle.std.proofs.Common.{◌≡◌, ◌≢◌, ◌<◌, ◌⊎◌, inl, inr, ℕ, Bool, true, false, List, Option, Some, None, sym, ◌∙◌, ap, arith}
use Rattle.std.proofs.lemmas.Option.{same_Some}
use Rattle.cip_types.specs.IdLaws.{ids_differ}
use Rattle.cip_types.specs.Ids.{Extends, are_blocks}
use Rattle.cip_types.specs.declared.ids.IdBlock.{IdBlock}
use Rattle.cip_types.specs.declared.names.ConnId.{ConnId}
use Rattle.scanner_table.specs.declared.profile.SlotConfig.{SlotConfig}
use Rattle.scanner_table.specs.declared.slot.PendingOpen as pending
use Rattle.scanner_table.specs.declared.slot.SlotState.{SlotState}
use Rattle.scanner_table.specs.declared.slot.SlotState.TheVariants.{Opening}
use Rattle.scanner_table.specs.declared.table.ScannerTable.{ScannerTable}
use Rattle.scanner_table.specs.Opening.{drawn}
use Rattle.scanner_table.specs.Runs.{table_after}
use Rattle.scanner_table.specs.Drawn.{IsDrawn, WantsDrawn}
use Rattle.scanner_table.specs.Lemmas.Slotwise.{Later}
use Rattle.device_laws.specs.ScannerOpenings.{Began, RequestsRise, IdsAreGivenOnce}
use Rattle.device_laws.proofs.DrawnSteps.{events_begin, events_later}

rise_step : (t u : ScannerTable) (config : SlotConfig) (state : SlotState) (opening : pending.PendingOpen) (request : ℕ) → request < t.next_request → (state ≡ Opening opening) ⊎ Began t u config opening → (state ≡ Opening opening) ⊎ (request < opening.request)
rise_step t u config state opening request less (inl same) = inl same
rise_step t u config state opening request less (inr began) = inr (omega (arith, less, began.begins))

pub requests_rise : RequestsRise
requests_rise t events request less was now opening at later opens =
    rise_step t (table_after t events) now.config was.slot.state opening request less (events_begin t events was.number was now at later opening opens)

-- an id with a number from one on is none with a number below it
drawn_apart : (old new : List IdBlock) (n m : ℕ) (multicast : Bool) (requested : Option ConnId) (id : ConnId) → Extends old new → are_blocks new ≡ true → WantsDrawn new n m multicast requested → IsDrawn old 1 n id → requested ≢ Some id
drawn_apart old new n m true None id more are wants drawn same = absurd cc
drawn_apart old new n m true (Some other) id more are wants drawn same = absurd wants
drawn_apart old new n m false None id more are wants drawn same = absurd wants
drawn_apart old new n m false (Some other) id more are wants drawn same =
    let ids : other ≡ id = same_Some other id same in
    let from = wants.begins in
    let begins = drawn.begins in
    let ends = drawn.ends in
    let within = drawn.within in
    let grows = more.more in
    let numbers : wants.number ≡ drawn.number =
    ids_differ new wants.number drawn.number are (omega (arith, begins, ends, from)) wants.within begins (omega (arith, within, grows))
    (ap (λ (i : ConnId). i.0) (sym wants.is ∙ ids ∙ drawn.is ∙ sym (more.same drawn.number begins within))) in
    absurd (omega (arith, numbers, from, ends))

once_step : (t u : ScannerTable) (config : SlotConfig) (state : SlotState) (opening : pending.PendingOpen) (id : ConnId) → Later t u → are_blocks t.ids ≡ true → IsDrawn t.ids 1 t.next_id id → (state ≡ Opening opening) ⊎ Began t u config opening → (state ≡ Opening opening) ⊎ (opening.requested.t_o_id ≢ Some id)
once_step t u config state opening id later are drawn (inl same) = inl same
once_step t u config state opening id later are drawn (inr began) =
    let begins = drawn.begins in
    let ends = drawn.ends in
    let more = later.blocks in
    inr (drawn_apart t.ids u.ids t.next_id u.next_id config.multicast opening.requested.t_o_id id later.blocks (more.apart are) (began.id (omega (arith, begins, ends))) drawn)

pub ids_given_once : IdsAreGivenOnce
ids_given_once t events id are drawn was now opening at later opens =
    once_step t (table_after t events) now.config was.slot.state opening id (events_later t events) are drawn (events_begin t events was.number was now at later opening opens)
