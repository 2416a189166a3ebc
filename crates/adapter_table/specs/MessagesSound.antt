-- What holds of the class 3 connections of every table that a run reaches, and of the requests that wait for its application:
-- beside what holds of them alone, no other connection has their names, and their streams are open.
use Rattle.std.specs.Prelude.{ℕ, ◌≡◌, ◌≤◌, ◌<◌, ◌+◌, ◌&&◌, Bool, true, false, List, length}
use Rattle.std.specs.List.{list_any}
use Rattle.cip_types.specs.Ids.{end_number}
use Rattle.messaging.specs.declared.class3.Class3Connection as kept
use Rattle.messaging.specs.declared.requests.Requester.{Requester}
use Rattle.messaging.specs.declared.requests.Requester.TheVariants.{Peer, Stream, Class3Connection}
use Rattle.messaging.specs.declared.requests.Waiting.{Waiting}
use Rattle.messaging.specs.declared.table.Messaging.{Messaging}
use Rattle.messaging.specs.Changes.{has_request_number}
use Rattle.messaging.specs.Sound.{EachOf, IsSoundMessaging}
use Rattle.adapter_table.specs.declared.table.Stream as streams
use Rattle.adapter_table.specs.declared.table.AdapterTable.{AdapterTable}
use Rattle.adapter_table.specs.Connections.{Row}
use Rattle.adapter_table.specs.Messages.{messages_table}
use Rattle.adapter_table.specs.Rows.{has_triad}
use Rattle.adapter_table.specs.Streams.{is_stream}
use Rattle.adapter_table.specs.Sound.{has_o_t_id, IsSound}

-- the stream has this number, and a session
abbrev pub carries : ℕ → streams.Stream → Bool
carries number stream = is_stream number stream && stream.registered

-- a stream of this number is open, and has a session
abbrev pub IsCarried : List streams.Stream → ℕ → Type 0
IsCarried open_streams number = list_any (carries number) open_streams ≡ true

-- A class 3 connection has the triad and the O->T id of no connection of class 1. Its stream is open, and has a session. Its
-- times are within the limits of an adapter, and its reply is short.
pub record IsInPlace (rows : List Row) (open_streams : List streams.Stream) (d : kept.Class3Connection) : Type 0 where
  pub triad : list_any (has_triad d.triad) rows ≡ false
  pub id : list_any (has_o_t_id d.o_t_id) rows ≡ false
  pub stream : IsCarried open_streams d.stream
  pub watchdog : d.watchdog.0 ≤ 5120000
  pub o_t_api_ms : d.o_t_api_ms ≤ 10000
  pub t_o_api_ms : d.t_o_api_ms ≤ 10000
  pub reply : length d.reply ≤ 1404

-- the stream that brought a request is open, and has a session; `IsSoundMessaging` says the same of a class 3 connection
abbrev pub RouteIsOpen : List streams.Stream → Requester → Type 0
RouteIsOpen open_streams (Peer node) = Unit {0}
RouteIsOpen open_streams (Stream number context) = IsCarried open_streams number
RouteIsOpen open_streams (Class3Connection id count) = Unit {0}

abbrev pub CanGoBack : List streams.Stream → Waiting → Type 0
CanGoBack open_streams w = RouteIsOpen open_streams w.asker

pub record AreMessagesSound (t : AdapterTable) : Type 0 where
  pub own : IsSoundMessaging t.ids t.next_id t.messaging
  pub class3_connections : EachOf (IsInPlace t.rows t.streams) t.messaging.class3_connections
  pub waiting : EachOf (CanGoBack t.streams) t.messaging.waiting

-- the request of this number was asked, and waits no more
pub record IsSettled (number : ℕ) (m : Messaging) : Type 0 where
  pub given : number < m.next_number
  pub waits_not : EachOf (λ (w : Waiting). has_request_number number w ≡ false) m.waiting

-- The messages of a table become these, and its number of ids this: it draws at most one, which is left. Where the messages
-- were sound, these are. A request that was settled stays so.
pub record MessagesGoOn (t : AdapterTable) (next_id : ℕ) (m : Messaging) : Type 0 where
  pub later : t.next_id ≤ next_id
  pub one : next_id ≤ t.next_id + 1
  pub left : t.next_id ≤ end_number t.ids → next_id ≤ end_number t.ids
  pub sound : IsSound t → AreMessagesSound t → AreMessagesSound (messages_table t next_id m)
  pub settled : (number : ℕ) → IsSettled number t.messaging → IsSettled number m
