use Rattle.std.proofs.Common.{Option, Bor, sym, ap, ◌∙◌}
use Rattle.std.specs.Option.{option_copied}
use Rattle.cip_types.specs.declared.ids.IdBlock.{IdBlock}
use Rattle.cip_types.proofs.Blocks.{last_is}
use Rattle.cip_types.proofs.ids.is_continued.Goals as goal

pub returns-in-Some : goal.returns-in-Some
returns-in-Some c =
    rw (c.end.ensures, c.from.ensures)
    (last_is c.args.blocks.now c.args.block c.in-Some.last.now (sym c.last.ensures.value ∙ ap (λ (o : Option (Bor IdBlock)). option_copied o) c.in-Some.is))
