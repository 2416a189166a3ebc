use Rattle.std.proofs.Common.{rules, ◌≡◌, Some}
use Rattle.adapter_replies.specs.Objects.SaidLaws.{inquired_is}
use Rattle.adapter.proofs.engine.Adapter.inquiry_reply.Goals as goal

pub returns : goal.returns
returns g c =
    let is : c.args.self.now.profile.description ≡ Some c.in-Some.description = search rules in
    let said = rw (c.io_state-io.ensures, c.connections.ensures, c.assemblies.ensures.profile, c.assemblies.ensures.values) at c.inquiry_reply.ensures in
    rw (inquired_is c.args.self.now c.in-Some.description c.args.bytes.now is, ← c.self.view_is) said
