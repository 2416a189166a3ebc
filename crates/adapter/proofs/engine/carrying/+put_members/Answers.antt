use Rattle.std.proofs.Common.{ℕ, get_or, ◌∙◌, ap}
use Rattle.std.proofs.lemmas.Result.{IfOk-equal}
use Rattle.adapter_table.specs.Carrying.{part_of}
use Rattle.adapter_table.specs.Objects.{word_of}
use Rattle.adapter.proofs.Packets.{ends_in, starts_more}
use Rattle.adapter.proofs.engine.carrying.+put_members.Goals as goal

pub part_of-member-requires-clause-within : goal.part_of-member-requires-clause-within
part_of-member-requires-clause-within g t c =
    rw c.next_start.ensures (ends_in c.args.body.now c.args.starts.now c.in-len2-up.len_at_least c.requires)

pub returns-clause-starts : goal.returns-clause-starts
returns-clause-starts g t c =
    let body = c.args.body.now in
    let from : ℕ = word_of (get_or c.args.starts.now 0 0) (get_or c.args.starts.now 1 0) in
    let member_is = c.part_of-member.ensures ∙ ap (λ (n : ℕ). part_of body n c.next_start.result) (c.from-from.ensures ∙ c.word_of.ensures) ∙ ap (λ (n : ℕ). part_of body from n) c.next_start.ensures in
    IfOk-equal c.put_members.result _ _ _ c.put_members.ensures.starts
    (starts_more c.args.adapter.now body c.args.starts.now c.args.front c.args.draft.now.starts.items c.args.draft.now.texts.items c.put_member.new.draft.starts.items c.put_member.new.draft.texts.items c.part_of-member.result.now c.in-len2-up.len_at_least member_is c.in_ok-put_member.ensures.starts c.in_ok-put_member.ensures.texts)
