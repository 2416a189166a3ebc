-- What a connection keeps of a message while other events come: its count, and the frame that was last sent for it.
use Rattle.std.proofs.Common.{◌≡◌, ◌⊎◌, inl, ◌≤◌, ◌<◌, ℕ, Bool, true, false, cond, List, [], Option, Some, None, option_to_list, Result, Ok, Err, refl, sym, subst, arith}
use Rattle.std.specs.List.{last_or}
use Rattle.cip_types.specs.declared.names.ConnId.{ConnId}
use Rattle.cip_types.specs.Ids.{id_at}
use Rattle.cip_events.specs.declared.event.Frame.{Frame}
use Rattle.cip_events.specs.declared.event.StepFault.{StepFault}
use Rattle.messaging.specs.declared.class3.Class3Connection.{Class3Connection}
use Rattle.messaging.specs.declared.table.Messaging.{Messaging}
use Rattle.messaging.specs.Sound.{EachTwoOf, IdsDiffer}
use Rattle.adapter_table.specs.declared.table.AdapterTable.{AdapterTable}
use Rattle.adapter_table.specs.Answering.{unit_header}
use Rattle.adapter_table.specs.Encapsulation.{kept_reply, reply_frames}
use Rattle.adapter_table.specs.Requests.{Next}
use Rattle.message_laws.specs.Repetitions.{frames_of}
use Rattle.message_laws.proofs.Found.{Found, Was, Leaves, same, leaves_same}

-- the frames that a repetition of this count gets
abbrev pub kept_frames : Class3Connection → ℕ → List Frame
kept_frames e count = reply_frames e.stream (unit_header e.stream) (kept_reply e count e.reply)

-- this is the connection, the message of this count was its last, and this was last sent for it
pub record Holds (d : Class3Connection) (count : ℕ) (sent : Option Frame) (e : Class3Connection) : Type 0 where
  pub stream : e.stream ≡ d.stream
  pub size : e.o_t_size ≡ d.o_t_size
  pub last : e.last ≡ Some count
  pub kept : kept_frames e count ≡ option_to_list sent

-- each that holds a message goes on to hold it, with what was sent in between
abbrev pub HoldsOn : Class3Connection → ℕ → List Frame → Class3Connection → Class3Connection → Type 0
HoldsOn d count frames old e = (sent : Option Frame) → Holds d count sent old → Holds d count (last_or sent frames) e

pub record Before (d : Class3Connection) (count : ℕ) (ds : List Class3Connection) (frames : List Frame) (e : Class3Connection) : Type 0 where
  pub old : Class3Connection
  pub found : Found d.o_t_id ds old
  pub on : HoldsOn d count frames old e

-- the step drew the id
pub record IsNew (id : ConnId) (t u : AdapterTable) : Type 0 where
  pub fresh : id.0 ≡ (id_at u.ids t.next_id).0
  pub drawn : t.next_id < u.next_id

pub record Goes (d : Class3Connection) (count : ℕ) (t : AdapterTable) (frames : List Frame) (u : AdapterTable) : Type 0 where
  pub later : t.next_id ≤ u.next_id
  pub profile : u.profile ≡ t.profile
  pub stands : (e : Class3Connection) → Found d.o_t_id u.messaging.class3_connections e → Before d count t.messaging.class3_connections frames e ⊎ IsNew d.o_t_id t u

-- no two connections have one id
abbrev pub Differ : Messaging → Type 0
Differ m = EachTwoOf IdsDiffer m.class3_connections

-- ---- what sends nothing

holds_same : (d : Class3Connection) (count : ℕ) (frames : List Frame) (e : Class3Connection) → HoldsOn d count frames e e → (old : Class3Connection) → e ≡ old → HoldsOn d count frames old e
holds_same d count frames e on old is = subst (λ (x : Class3Connection). HoldsOn d count frames x e) is on

pub stays : (d : Class3Connection) (count : ℕ) (ds : List Class3Connection) (e : Class3Connection) → Was d.o_t_id ds same e → Before d count ds [] e
stays d count ds e was = record { old = was.old; found = was.found; on = holds_same d count [] e (λ sent h. h) was.old was.is }

-- the connections are among those that there were
pub quiet : (d : Class3Connection) (count : ℕ) (t u : AdapterTable) → t.next_id ≤ u.next_id → u.profile ≡ t.profile → Leaves d.o_t_id same t.messaging.class3_connections u.messaging.class3_connections → Goes d count t [] u
quiet d count t u later profile leaves = record { later = later; profile = profile; stands = λ e found. inl (stays d count t.messaging.class3_connections e (leaves e found)) }

-- the table stays
pub unchanged : (d : Class3Connection) (count : ℕ) (t : AdapterTable) → Goes d count t [] t
unchanged d count t = quiet d count t t (omega arith) refl (leaves_same d.o_t_id t.messaging.class3_connections)

-- the table stays, and no connection that holds the message is here
pub alone : (d : Class3Connection) (count : ℕ) (t : AdapterTable) (frames : List Frame) → ((e : Class3Connection) (sent : Option Frame) → Found d.o_t_id t.messaging.class3_connections e → Holds d count sent e → frames ≡ []) → Goes d count t frames t
alone d count t frames none = record {
  later = omega arith;
  profile = refl;
  stands = λ e found. inl (record {
    old = e;
    found = found;
    on = λ sent h. subst (λ (fs : List Frame). Holds d count (last_or sent fs) e) (sym (none e sent found h)) h;
  });
}

-- ---- what a step leads to

abbrev pub left_of : AdapterTable → Result Next StepFault → AdapterTable
left_of t (Ok next) = next.1
left_of t (Err fault) = t

-- these frames are sent for the message if the test holds
abbrev pub Leads : Class3Connection → ℕ → AdapterTable → Bool → Result Next StepFault → Type 0
Leads d count t b outcome = Goes d count t (cond b (frames_of outcome) []) (left_of t outcome)

pub leads_refused : (d : Class3Connection) (count : ℕ) (t : AdapterTable) (b : Bool) (why : StepFault) → Leads d count t b (Err why)
leads_refused d count t true why = unchanged d count t
leads_refused d count t false why = unchanged d count t

-- a frame that was sent again is the last one still
pub sent_again : (sent : Option Frame) → last_or sent (option_to_list sent) ≡ sent
sent_again None = refl
sent_again (Some frame) = refl
