use Rattle.std.proofs.Common.{◌≡◌, Option, Bor, sym, ap, ◌∙◌}
use Rattle.std.specs.Option.{option_copied}
use Rattle.cip_types.specs.declared.ids.IdBlock.{IdBlock}
use Rattle.cip_types.specs.Ids.{are_blocks, is_block}
use Rattle.cip_tables.specs.Ids.{next_ids}
use Rattle.cip_tables.proofs.LastBlocks.{blocks_are, last_fits, next_is, next_fits}
use Rattle.cip_tables.proofs.table.DeviceTable.next_ids.Goals as goal

pub ids_behind-requires : goal.ids_behind-requires
ids_behind-requires c =
    last_fits c.ids-2.result.now c.in-Some.block.now (sym c.last.ensures.value ∙ ap (λ (o : Option (Bor IdBlock)). option_copied o) c.in-Some.is) (ap are_blocks c.ids-2.ensures ∙ blocks_are c.args.self.now c.requires)

pub returns-in-Some-clause-value : goal.returns-in-Some-clause-value
returns-in-Some-clause-value c =
    next_is c.args.self.now c.ids.result.now c.ids-2.result.now c.next_id.result c.ids_left-left.result c.in-Some.block.now c.ids_behind.result c.ids.ensures c.ids-2.ensures c.next_id.ensures c.ids_left-left.ensures
    (sym c.last.ensures.value ∙ ap (λ (o : Option (Bor IdBlock)). option_copied o) c.in-Some.is) c.ids_behind.ensures

pub returns-in-Some-clause-block : goal.returns-in-Some-clause-block
returns-in-Some-clause-block c =
    let is : c.ids_behind.result ≡ next_ids c.args.self.now = next_is c.args.self.now c.ids.result.now c.ids-2.result.now c.next_id.result c.ids_left-left.result c.in-Some.block.now c.ids_behind.result c.ids.ensures c.ids-2.ensures c.next_id.ensures c.ids_left-left.ensures
    (sym c.last.ensures.value ∙ ap (λ (o : Option (Bor IdBlock)). option_copied o) c.in-Some.is) c.ids_behind.ensures in
    ap is_block is ∙ next_fits c.args.self.now c.requires
