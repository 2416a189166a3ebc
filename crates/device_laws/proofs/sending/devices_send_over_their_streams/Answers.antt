use Rattle.device_laws.proofs.SentStreams.{devices_send}
use Rattle.device_laws.proofs.sending.devices_send_over_their_streams.Goals as goal

pub returns : goal.returns
returns c = devices_send c.replies_carry_opened_ids.ensures
