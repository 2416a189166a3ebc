use Rattle.std.proofs.Common.{refl}
use Rattle.trace_lines.specs.WrittenProfiles.{profile_text}
use Rattle.trace_lines.proofs.Pieces.{nine}
use Rattle.trace_lines.proofs.written_profiles.push_profile.Goals as goal

pub returns : goal.returns
returns c = nine _ _ _ _ _ _ _ _ _ _ _ _ _ _ _ _ _ _ _ (profile_text c.args.profile.now) c.in_ok-push_adapter.ensures (rw c.as_slice.ensures at c.in_ok-push_outputs.ensures) (rw c.as_slice-2.ensures at c.in_ok-push_inputs.ensures) c.in_ok-push_config.ensures c.in_ok-push_description.ensures c.in_ok-push_limits.ensures (rw c.as_slice-3.ensures at c.in_ok-push_objects.ensures) c.in_ok-push_stated_ids.ensures c.in_ok-push_heartbeat.ensures refl
