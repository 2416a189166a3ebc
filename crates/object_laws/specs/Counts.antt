-- Each request is counted once, whatever brings it, by the reply that goes out for it (Volume 1, chapter 3, Connection Manager object,
-- attributes 1 to 7).
use Rattle.std.specs.Prelude.{ℕ, ◌≡◌, List, None, Ok}
use Rattle.cip_events.specs.declared.event.Event.{Event}
use Rattle.cip_router.specs.Requests.{RouterRequestFields, nothing, router_request_reading}
use Rattle.adapter_table.specs.declared.table.AdapterTable.{AdapterTable}
use Rattle.adapter_table.specs.Counters.{counted_if, tally_of}
use Rattle.adapter_table.specs.Own.{own_of}
use Rattle.adapter_table.specs.Requests.{Next, Served}
use Rattle.adapter_table.specs.Step.{adapter_step}
use Rattle.object_laws.specs.Routes.{BringsRequest, IsServed}

-- bytes are a request, unless there are none
abbrev pub IsRequest : RouterRequestFields → Type 0
IsRequest nothing = ⊥
IsRequest other = Unit {0}

-- This is served. By what was asked and by its reply the counters of requests are those of before and one more, or the same, if the
-- request asked for no connection; what the host has counted stays.
pub record IsCountedOnce (t : AdapterTable) (request : RouterRequestFields) (next : Next) : Type 0 where
  pub served : Served
  pub is : IsServed t served next
  pub counters : next.1.counters ≡ record t.counters { manager = counted_if (tally_of request served.reply) t.counters.manager }

-- so it is of each request that the device serves itself, over every route
abbrev pub RequestsAreCountedOnce : Type 0
RequestsAreCountedOnce =
    (t : AdapterTable) (happens : Event) (request : List ℕ) (next : Next) →
    adapter_step t happens ≡ Ok next → BringsRequest t happens request → IsRequest (router_request_reading request) →
    own_of t.profile.objects (router_request_reading request) ≡ None → IsCountedOnce t (router_request_reading request) next
