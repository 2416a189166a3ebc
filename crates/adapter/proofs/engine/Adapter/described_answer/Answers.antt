use Rattle.std.proofs.Common.{rules, ◌≡◌, sym, Some, None}
use Rattle.adapter_replies.specs.Objects.SaidLaws.{described_is, undescribed_is}
use Rattle.adapter.proofs.engine.Adapter.described_answer.Goals as goal

pub returns-in_default : goal.returns-in_default
returns-in_default g c =
    let none : c.args.self.now.profile.description ≡ None = search rules in
    sym (undescribed_is c.args.self.now c.args.request.service c.args.class c.args.instance c.args.request.attribute c.args.request.body.now none c.requires.assembly c.requires.manager)

pub returns : goal.returns
returns g c =
    let is : c.args.self.now.profile.description ≡ Some c.in-Some.description = search rules in
    let said = rw (c.as_slice.ensures, c.counters.ensures, c.io_state.ensures, c.connections.ensures, c.connection_count.ensures, c.assemblies.ensures.profile, c.assemblies.ensures.values, ← c.self.view_is) at c.described_answer.ensures.value in
    rw (described_is c.args.self.now c.in-Some.description c.args.request.service c.args.class c.args.instance c.args.request.attribute c.args.request.body.now is c.requires.assembly c.requires.manager, ← c.self.view_is) said
