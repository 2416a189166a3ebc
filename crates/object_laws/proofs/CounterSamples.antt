-- What a described adapter counts, step by step, and what its host has counted (Volume 1, chapter 3, Connection Manager object; Volume
-- 2, chapter 5, Ethernet Link object, attributes 4 and 5).
use Rattle.std.proofs.Common.{◌≡◌, refl, ℕ, List, [], ◌∷◌, ◌++◌, map, replicate, Option, Some, None}
use Rattle.cip_types.specs.declared.names.Fault.{Fault}
use Rattle.cip_types.specs.declared.names.Triad.{Triad}
use Rattle.cip_router.specs.declared.refusal.Refusal.TheVariants as refusal
use Rattle.cip_router.specs.declared.refusal.Status.TheVariants as status
use Rattle.cip_router.specs.Replies as replies
use Rattle.adapter_table.specs.declared.counters.ManagerCounters.{ManagerCounters}
use Rattle.adapter_table.specs.declared.counters.Tally.TheVariants as tally
use Rattle.adapter_table.specs.Counters.{closing_tally, code_tally, counted, interface_counters, media_counters, more, no_counts, open_tally, refused_tally, timed_out}

-- ---- counters

-- behind 65,535 follows 0
wrapping : map (more 1) (0 ∷ 41 ∷ 65534 ∷ 65535 ∷ []) ++ map (more 3) (65535 ∷ []) ≡ 1 ∷ 42 ∷ 65535 ∷ 0 ∷ 2 ∷ []
wrapping = refl

-- eight numbers as one list
abbrev of : ManagerCounters → List ℕ
of c = c.opens ∷ c.open_formats ∷ c.open_resources ∷ c.open_others ∷ c.closes ∷ c.close_formats ∷ c.close_others ∷ c.time_outs ∷ []

each_kind :
    map (λ kind. of (counted kind no_counts))
    (tally.Opened ∷ tally.OpenFormat ∷ tally.OpenResource ∷ tally.OpenOther ∷ tally.Closed ∷ tally.CloseFormat ∷ tally.CloseOther ∷ [])
    ≡ (1 ∷ 0 ∷ 0 ∷ 0 ∷ 0 ∷ 0 ∷ 0 ∷ 0 ∷ [])
    ∷ (1 ∷ 1 ∷ 0 ∷ 0 ∷ 0 ∷ 0 ∷ 0 ∷ 0 ∷ [])
    ∷ (1 ∷ 0 ∷ 1 ∷ 0 ∷ 0 ∷ 0 ∷ 0 ∷ 0 ∷ [])
    ∷ (1 ∷ 0 ∷ 0 ∷ 1 ∷ 0 ∷ 0 ∷ 0 ∷ 0 ∷ [])
    ∷ (0 ∷ 0 ∷ 0 ∷ 0 ∷ 1 ∷ 0 ∷ 0 ∷ 0 ∷ [])
    ∷ (0 ∷ 0 ∷ 0 ∷ 0 ∷ 1 ∷ 1 ∷ 0 ∷ 0 ∷ [])
    ∷ (0 ∷ 0 ∷ 0 ∷ 0 ∷ 1 ∷ 0 ∷ 1 ∷ 0 ∷ [])
    ∷ []
each_kind = refl

two_time_out : of (timed_out 2 (counted tally.Opened no_counts)) ≡ 1 ∷ 0 ∷ 0 ∷ 0 ∷ 0 ∷ 0 ∷ 0 ∷ 2 ∷ []
two_time_out = refl

-- ---- what a request is counted as

-- no connection is left; a segment does not read; a triad in use, a packet interval
reasons_of_openings :
    map open_tally (refusal.OutOfConnections ∷ refusal.Segment ∷ refusal.InUse ∷ refusal.PacketInterval ∷ [])
    ≡ tally.OpenResource ∷ tally.OpenFormat ∷ tally.OpenOther ∷ tally.OpenOther ∷ []
reasons_of_openings = refl

statuses_of_openings :
    map code_tally (Some 0x0113 ∷ Some 0x0315 ∷ Some 0x0100 ∷ None ∷ [])
    ≡ tally.OpenResource ∷ tally.OpenFormat ∷ tally.OpenOther ∷ tally.OpenOther ∷ []
statuses_of_openings = refl

abbrev some_triad : Triad
some_triad = record { serial = 0x1234; vendor = 1; originator = 0x12345678 }

-- no connection of this triad (0x0107), or it is another node's (0x0F)
abbrev refused_by : ℕ → Option ℕ → Fault
refused_by general extended = record { general = general; extended = extended }

closes :
    map closing_tally
    (replies.closed some_triad ∷ replies.refused 0x4E (refused_by 1 (Some 0x0107)) (Some some_triad) ∷ replies.refused 0x4E (refused_by 0x0F None) (Some some_triad) ∷ [])
    ≡ tally.Closed ∷ tally.CloseOther ∷ tally.CloseOther ∷ []
closes = refl

-- of Forward_Open, Large_Forward_Open, Forward_Close and Get_Attribute_Single: too short, too long, not served, a bad path
refused_before_their_data :
    map (λ service. map (refused_tally service) (status.NotEnoughData ∷ status.TooMuchData ∷ status.Service ∷ status.PathSegment ∷ [])) (0x54 ∷ 0x5B ∷ 0x4E ∷ 0x0E ∷ [])
    ≡ (Some tally.OpenFormat ∷ Some tally.OpenFormat ∷ Some tally.OpenOther ∷ None ∷ [])
    ∷ (Some tally.OpenFormat ∷ Some tally.OpenFormat ∷ Some tally.OpenOther ∷ None ∷ [])
    ∷ (Some tally.CloseFormat ∷ Some tally.CloseFormat ∷ Some tally.CloseOther ∷ None ∷ [])
    ∷ (None ∷ None ∷ None ∷ None ∷ []) ∷ []
refused_before_their_data = refl

-- ---- what a host has counted

abbrev said_bytes : List ℕ
said_bytes = 7 ∷ replicate 43 1 ++ (9 ∷ replicate 47 2)

both_parts : interface_counters said_bytes ∷ media_counters said_bytes ∷ [] ≡ (7 ∷ replicate 43 1) ∷ (9 ∷ replicate 47 2) ∷ []
both_parts = refl

nothing_said : interface_counters [] ∷ media_counters [] ∷ [] ≡ replicate 44 0 ∷ replicate 48 0 ∷ []
nothing_said = refl
