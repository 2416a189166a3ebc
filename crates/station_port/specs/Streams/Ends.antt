-- Why a port ends its streams.
use Rattle.std.specs.Prelude.{Bool, Option, Some, None}
use Rattle.std.specs.Option.{is_some}
use Rattle.udp_runner.specs.declared.report.EndCause.{EndCause}
use Rattle.udp_runner.specs.declared.report.EndCause.TheVariants.{Cut}

-- the stream of the number is being ended
abbrev pub is_marked : Option EndCause → Bool
is_marked cause = is_some cause

-- the cause of a stream's end: its peer's cut if there is no other
abbrev pub cause_or_cut : Option EndCause → EndCause
cause_or_cut None = Cut
cause_or_cut (Some cause) = cause
