-- Requests to objects of the maker's own: the device answers none, and asks its application
-- (Volume 1, chapter 2, message router request; chapter 5, object library).
use Rattle.std.specs.Prelude.{ℕ, Bool, if◌then◌else◌, List, Option, Some, None}
use Rattle.std.specs.List.{list_any}
use Rattle.cip_types.specs.declared.names.Node.{Node}
use Rattle.cip_events.specs.declared.event.Verdict.{Verdict}
use Rattle.cip_events.specs.declared.event.Verdict.TheVariants.{Asked}
use Rattle.cip_router.specs.Requests.{RouterRequestFields, object}
use Rattle.messaging.specs.declared.requests.Requester.{Requester}
use Rattle.messaging.specs.Changes.{lacks_share, referred}
use Rattle.adapter_table.specs.declared.table.AdapterTable.{AdapterTable}
use Rattle.adapter_table.specs.Messages.{with_messages}
use Rattle.adapter_table.specs.Profiles.{is_class, shares_requests}

-- a request to such an object
pub record OwnRequest : Type 0 where
  pub service : ℕ
  pub class : ℕ
  pub instance : ℕ
  pub attribute : Option ℕ
  pub body : List ℕ

-- the class is one of the maker's own
abbrev pub is_own_class : List ℕ → ℕ → Bool
is_own_class objects class = list_any (is_class class) objects

-- the request, if it is to such an object
abbrev pub own_of : List ℕ → RouterRequestFields → Option OwnRequest
own_of objects (object service class instance attribute body) =
    if is_own_class objects class then Some (record { service = service; class = class; instance = instance; attribute = attribute; body = body }) else None
own_of objects other = None

-- no request of the node can wait for the application
abbrev pub cannot_ask : AdapterTable → Node → Bool
cannot_ask t peer = lacks_share (shares_requests t.profile.limits.places) t.messaging peer

-- the application is asked by the next number
abbrev pub referred_verdict : AdapterTable → OwnRequest → Verdict
referred_verdict t own = Asked t.messaging.next_number own.service own.class own.instance own.attribute own.body

-- the node's request waits for the answer, which goes the way that it came
abbrev pub referred_table : AdapterTable → Node → Requester → OwnRequest → AdapterTable
referred_table t peer from own = with_messages t (referred t.messaging peer from own.service t.clock)
