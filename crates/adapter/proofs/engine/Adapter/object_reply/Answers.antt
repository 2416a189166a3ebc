use Rattle.std.proofs.Common.{sym, subst}
use Rattle.adapter_table.specs.Lemmas.ObjectSizes.{FewSaid, object_few}
use Rattle.adapter_table.specs.Whole.{IsWhole}
use Rattle.adapter.proofs.engine.Adapter.object_reply.Goals as goal

pub object_reply-reply-requires : goal.object_reply-reply-requires
object_reply-reply-requires g c =
    let whole : IsWhole c.args.self.now = rw (← c.self.view_is) c.is_whole.ensures in
    subst FewSaid (sym c.in_ok-answer.ensures) (object_few c.args.self.now c.args.request.service c.args.class c.args.instance c.args.request.attribute c.args.request.body.now whole.shaped)
