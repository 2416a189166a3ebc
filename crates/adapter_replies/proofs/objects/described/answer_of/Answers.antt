use Rattle.std.proofs.Common.{rules}
use Rattle.adapter_replies.specs.Objects.Said.{described_said, standing_in}
use Rattle.adapter_replies.proofs.Points.{differ, other_cases}
use Rattle.adapter_replies.proofs.objects.described.answer_of.Goals as goal
use Rattle.adapter_replies.proofs.objects.described.answer_of.Goals.{in_default-via-in-1+in_default, in_default-via-in-2+in_default, in_default-via-in-6+in_default, in_default-via-in-245+in_default, in_default-via-in-246+in_default, in_default-via-in_default}

pub returns-in-2-eq1 : goal.returns-in-2-eq1
unfolding described_said
returns-in-2-eq1 c = rw (c.in-2-eq1.is-0, c.in-2-eq1.is-1) (rw c.profile.ensures.value at c.router_answer.ensures)

pub returns-in_default : goal.returns-in_default
unfolding described_said
returns-in_default c =
    elim c.in_default.branch [
      | in_default-via-in-1+in_default w ↦ search rules
      | in_default-via-in-2+in_default w ↦ search rules
      | in_default-via-in-6+in_default w ↦ search rules
      | in_default-via-in-245+in_default w ↦ search rules
      | in_default-via-in-246+in_default w ↦ search rules
      | in_default-via-in_default w ↦
          let no = w.in_default.is-0 in
          let set = c.args.assemblies.now in
          let class = c.args.class in
          let same = other_cases set.profile (standing_in set c.args.connections.io) c.args.connections.count c.args.connections.link.now c.args.description.now class c.args.instance
          (differ class 0x01 no.0.0.0.0.1) (differ class 0x02 no.0.0.0.1) (differ class 0x06 no.0.0.1) (differ class 0xF5 no.0.1) (differ class 0xF6 no.1)
          in
          rw same c.yielding_answer.ensures
    ]
