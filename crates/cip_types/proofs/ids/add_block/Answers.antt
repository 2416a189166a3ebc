use Rattle.std.proofs.Common.{List, length, sym, ap, ◌∙◌, arith}
use Rattle.cip_types.specs.declared.ids.IdBlock.{IdBlock}
use Rattle.cip_types.specs.Ids.{is_continued}
use Rattle.cip_types.proofs.Blocks.{last_fits, continued_set, last_at, own_block, pushed}
use Rattle.cip_types.proofs.ids.add_block.Goals as goal

pub overflow_add-index_mut : goal.overflow_add-index_mut
overflow_add-index_mut c =
    let blocks = c.args.blocks.now.items in
    let continues = ap (λ (l : List IdBlock). is_continued l c.args.block) (sym c.deref.ensures.value) ∙ sym c.is_continued.ensures ∙ c.if-is_continued.true in
    let long = c.len-last.ensures ∙ sym c.deref.ensures.len ∙ ap (length {A = _}) c.deref.ensures.value in
    let small = last_fits blocks c.args.block c.index_mut.result.now _ _ (last_at blocks c.args.block c.len-last.result long continues) c.index_mut.ensures.value continues c.requires.blocks
    (own_block blocks c.args.block c.requires.further) in
    omega (arith, small)

pub returns-then-is_continued-clause-ok : goal.returns-then-is_continued-clause-ok
returns-then-is_continued-clause-ok c =
    let blocks = c.args.blocks.now.items in
    let continues = ap (λ (l : List IdBlock). is_continued l c.args.block) (sym c.deref.ensures.value) ∙ sym c.is_continued.ensures ∙ c.if-is_continued.true in
    let long = c.len-last.ensures ∙ sym c.deref.ensures.len ∙ ap (length {A = _}) c.deref.ensures.value in
    continued_set blocks c.args.block c.index_mut.result.now _ _ (last_at blocks c.args.block c.len-last.result long continues) c.index_mut.ensures.value continues

pub returns-clause-ok : goal.returns-clause-ok
returns-clause-ok c =
    c.in_ok-push.ensures.items ∙ pushed c.args.blocks.now.items c.args.block
    (ap (λ (l : List IdBlock). is_continued l c.args.block) (sym c.deref.ensures.value) ∙ sym c.is_continued.ensures ∙ c.if-is_continued.false)
