-- What becomes of a datagram that is for a connection, as one value (Volume 1, chapter 3, class 1 transport, run/idle).
use Rattle.std.specs.Prelude.{ℕ, ◌≡◌, List}
use Rattle.cip_events.specs.declared.event.Delivery.{Delivery}
use Rattle.cip_events.specs.declared.event.Delivery.TheVariants as delivery
use Rattle.adapter_table.specs.declared.acceptance.Judgement.{Judgement}
use Rattle.adapter_table.specs.declared.acceptance.Judgement.TheVariants.{Applied, Idle, Heartbeat, Duplicate, Old, WrongSize}

-- the delivery of a datagram that is judged so
abbrev pub judged_delivery : Judgement → Delivery
judged_delivery (Applied lent) = delivery.Applied
judged_delivery Idle = delivery.Idle
judged_delivery Heartbeat = delivery.Heartbeat
judged_delivery Duplicate = delivery.Duplicate
judged_delivery Old = delivery.Old
judged_delivery WrongSize = delivery.WrongSize

-- a datagram of this delivery, with these data of run mode, is judged so
abbrev pub IsJudged : Delivery → List ℕ → Judgement → Type 0
IsJudged said run_data (Applied lent) = (said ≡ delivery.Applied) × (lent.now ≡ run_data)
IsJudged said run_data Idle = said ≡ delivery.Idle
IsJudged said run_data Heartbeat = said ≡ delivery.Heartbeat
IsJudged said run_data Duplicate = said ≡ delivery.Duplicate
IsJudged said run_data Old = said ≡ delivery.Old
IsJudged said run_data WrongSize = said ≡ delivery.WrongSize
