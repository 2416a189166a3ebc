use Rattle.adapter_replies.proofs.replies.write_frame_reply.Goals as goal

pub returns-in-OtherVersion : goal.returns-in-OtherVersion
returns-in-OtherVersion c = rw c.in-OtherVersion.is (rw c.code-status.ensures.value at c.write_headed_reply-in-OtherVersion.ensures)
