-- Class 3 connections and waiting requests stay in place where rows and streams change.
use Rattle.std.proofs.Common.{◌≡◌, ◌≤◌, ℕ, ◌==◌, Bool, true, false, cond, not, ◌||◌, ◌&&◌, List, [], ◌∷◌, ◌++◌, map, filter, Option, Some, None, refl, sym, ◌∙◌, ap, arith}
use Rattle.std.specs.List.{list_any}
use Rattle.std.proofs.lemmas.Bool.{or_parts, or_left, or_right, ne_eqb}
use Rattle.std.proofs.lemmas.Bool.Decides.{nat_tests}
use Rattle.std.proofs.lemmas.List.Folds.{list_any-append}
use Rattle.cip_types.specs.declared.ids.IdBlock.{IdBlock}
use Rattle.cip_types.specs.Ids.{end_number, first_block, id_at, is_block}
use Rattle.cip_types.specs.IdLaws.{IsLeft, next_differs}
use Rattle.cip_types.specs.declared.names.ConnId.{ConnId}
use Rattle.cip_types.specs.declared.names.Ms.{Ms}
use Rattle.cip_types.specs.declared.names.Node.{Node}
use Rattle.cip_types.specs.declared.names.Triad.{Triad}
use Rattle.messaging.specs.declared.class3.Class3Connection as kept
use Rattle.messaging.specs.declared.requests.Requester.{Requester}
use Rattle.messaging.specs.declared.requests.Requester.TheVariants.{Peer, Stream, Class3Connection}
use Rattle.messaging.specs.Askers.{is_over_stream}
use Rattle.messaging.specs.Changes as messages
use Rattle.messaging.specs.Class3Connections.{is_on_stream, has_class3_triad}
use Rattle.messaging.specs.Sound.{EachOf, IsDrawn}
use Rattle.messaging.specs.Lemmas.EachOfLemmas.{each_weaker}
use Rattle.messaging.specs.Lemmas.KeptLemmas.{without_stream_keeps, ended_class3_connections, ended_waiting}
use Rattle.messaging.specs.Lemmas.SoundLemmas.{fresh_sound, sound_later, sound_grown, without_stream_sound}
use Rattle.adapter_table.specs.declared.profile.Profile.{Profile}
use Rattle.adapter_table.specs.declared.table.AdapterTable.{AdapterTable}
use Rattle.adapter_table.specs.declared.table.PointValue.{PointValue}
use Rattle.adapter_table.specs.declared.table.Stream as streams
use Rattle.adapter_table.specs.Connections.{Row}
use Rattle.adapter_table.specs.Rows.{has_triad}
use Rattle.adapter_table.specs.Streams.{is_stream, is_other_stream, new_stream, with_stream, without_stream, registered_stream, registered_table}
use Rattle.adapter_table.specs.Profiles.{first_ids, first_request}
use Rattle.adapter_table.specs.Step.{adapter_table, taken_table}
use Rattle.adapter_table.specs.Ticks.{expired_rows}
use Rattle.adapter_table.specs.Sound.{has_o_t_id}
use Rattle.adapter_table.specs.MessagesSound.{carries, IsCarried, IsInPlace, RouteIsOpen, CanGoBack, AreMessagesSound}
use Rattle.adapter_table.specs.Lemmas.LikeLemmas.{Keeps, any_triad_kept, any_id_kept}
use Rattle.adapter_table.specs.Lemmas.SoundLemmas.{any_filter, same_sym}
use Rattle.adapter_table.proofs.FadeLemmas.{any_triad_expired, any_id_expired}

-- ---- rows with no new names

-- a triad, or an O->T id, that no connection has, none has after it
pub record NoNewNames (rows after : List Row) : Type 0 where
  pub triads : (triad : Triad) → list_any (has_triad triad) rows ≡ false → list_any (has_triad triad) after ≡ false
  pub ids : (id : ConnId) → list_any (has_o_t_id id) rows ≡ false → list_any (has_o_t_id id) after ≡ false

pub names_left : (p : Row → Bool) (rows : List Row) → NoNewNames rows (filter p rows)
names_left p rows = record { triads = λ triad. any_filter p (has_triad triad) rows; ids = λ id. any_filter p (has_o_t_id id) rows }

pub names_kept : (f : Row → Row) → Keeps f → (rows : List Row) → NoNewNames rows (map f rows)
names_kept f keeps rows = record { triads = λ triad none. any_triad_kept f keeps triad rows ∙ none; ids = λ id none. any_id_kept f keeps id rows ∙ none }

pub names_expired : (clock : Ms) (rows : List Row) → NoNewNames rows (expired_rows clock rows)
names_expired clock rows = record { triads = λ triad none. any_triad_expired clock triad rows ∙ none; ids = λ id none. any_id_expired clock id rows ∙ none }

pub names_then : (a b c : List Row) → NoNewNames a b → NoNewNames b c → NoNewNames a c
names_then a b c first second = record { triads = λ triad none. second.triads triad (first.triads triad none); ids = λ id none. second.ids id (first.ids id none) }

place_rows : (rows after : List Row) (open_streams : List streams.Stream) → NoNewNames rows after → (d : kept.Class3Connection) → IsInPlace rows open_streams d → IsInPlace after open_streams d
place_rows rows after open_streams names d is = record { triad = names.triads d.triad is.triad; id = names.ids d.o_t_id is.id; stream = is.stream; watchdog = is.watchdog; o_t_api_ms = is.o_t_api_ms; t_o_api_ms = is.t_o_api_ms; reply = is.reply }

-- other connections of class 1, other values and another time
pub messages_beside : (t : AdapterTable) (rows : List Row) (values : List PointValue) (clock : Ms) → NoNewNames t.rows rows → AreMessagesSound t → AreMessagesSound (record t { rows = rows; values = values; clock = clock })
messages_beside t rows values clock names sound = record {
  own = sound.own;
  class3_connections = each_weaker (IsInPlace t.rows t.streams) (IsInPlace rows t.streams) (place_rows t.rows rows t.streams names) t.messaging.class3_connections sound.class3_connections;
  waiting = sound.waiting;
}

-- ---- a connection of class 1 is opened

-- it has a triad that no class 3 connection has, and draws its O->T id
record IsBeside (ids : List IdBlock) (next_id : ℕ) (class3_connections : List kept.Class3Connection) (row : Row) : Type 0 where
  triad : list_any (has_class3_triad row.triad) class3_connections ≡ false
  id : row.o_t_id ≡ id_at ids next_id

no_more : (q : Row → Bool) (left : List Row) (row : Row) → list_any q left ≡ false → q row ≡ false → list_any q (left ++ row ∷ []) ≡ false
no_more q left row none other = list_any-append q left (row ∷ []) ∙ neither (list_any q left) (q row) none other where
  neither : (a b : Bool) → a ≡ false → b ≡ false → (a || (b || false)) ≡ false
  neither true b first second = absurd cc
  neither false true first second = absurd cc
  neither false false first second = refl

drawn_other : (ids : List IdBlock) (next_id : ℕ) (d : kept.Class3Connection) (row : Row) → IsLeft ids next_id → row.o_t_id ≡ id_at ids next_id → IsDrawn ids next_id d → has_o_t_id d.o_t_id row ≡ false
drawn_other ids next_id d row left is drawn =
    ne_eqb row.o_t_id.0 d.o_t_id.0
    (λ same. next_differs ids next_id d.opening left drawn.begins drawn.below (ap (λ (id : ConnId). id.0) (sym drawn.id) ∙ sym same ∙ ap (λ (id : ConnId). id.0) is))

places_opened : (ids : List IdBlock) (next_id : ℕ) (rows left : List Row) (row : Row) (open_streams : List streams.Stream) (class3_connections : List kept.Class3Connection) → IsLeft ids next_id → NoNewNames rows left → IsBeside ids next_id class3_connections row → EachOf (IsDrawn ids next_id) class3_connections → EachOf (IsInPlace rows open_streams) class3_connections → EachOf (IsInPlace (left ++ row ∷ []) open_streams) class3_connections
places_opened ids next_id rows left row open_streams [] is_left names beside drawn places = tt
places_opened ids next_id rows left row open_streams (d ∷ class3_connections) is_left names beside drawn places =
    let apart = or_parts (has_class3_triad row.triad d) (list_any (has_class3_triad row.triad) class3_connections) beside.triad in
    let kept_place = place_rows rows left open_streams names d places.0 in
    let here : IsInPlace (left ++ row ∷ []) open_streams d = record {
      triad = no_more (has_triad d.triad) left row kept_place.triad (same_sym d.triad row.triad apart.0);
      id = no_more (has_o_t_id d.o_t_id) left row kept_place.id (drawn_other ids next_id d row is_left beside.id drawn.0);
      stream = kept_place.stream;
      watchdog = kept_place.watchdog;
      o_t_api_ms = kept_place.o_t_api_ms;
      t_o_api_ms = kept_place.t_o_api_ms;
      reply = kept_place.reply;
    } in
    (here, places_opened ids next_id rows left row open_streams class3_connections is_left names (record { triad = apart.1; id = beside.id }) drawn.1 places.1)

pub messages_opened : (t : AdapterTable) (left : List Row) (row : Row) (values : List PointValue) (next_id : ℕ) → t.next_id ≤ next_id → IsLeft t.ids t.next_id → NoNewNames t.rows left → list_any (has_class3_triad row.triad) t.messaging.class3_connections ≡ false → row.o_t_id ≡ id_at t.ids t.next_id → AreMessagesSound t → AreMessagesSound (record t { rows = left ++ row ∷ []; values = values; next_id = next_id })
messages_opened t left row values next_id later is_left names triad id sound = record {
  own = sound_later t.ids t.next_id next_id t.messaging later sound.own;
  class3_connections = places_opened t.ids t.next_id t.rows left row t.streams t.messaging.class3_connections is_left names (record { triad = triad; id = id }) sound.own.are_drawn sound.class3_connections;
  waiting = sound.waiting;
}

-- ---- the counter passes ids over

pub messages_later : (t : AdapterTable) (counter : ℕ) → t.next_id ≤ counter → AreMessagesSound t → AreMessagesSound (record t { next_id = counter })
messages_later t counter later sound = record {
  own = sound_later t.ids t.next_id counter t.messaging later sound.own;
  class3_connections = sound.class3_connections;
  waiting = sound.waiting;
}

-- ---- a further block of ids

pub messages_taken : (t : AdapterTable) (block : IdBlock) → t.next_id ≤ end_number t.ids → AreMessagesSound t → AreMessagesSound (taken_table t block)
messages_taken t block left sound = record {
  own = sound_grown t.ids block t.next_id t.messaging left sound.own;
  class3_connections = sound.class3_connections;
  waiting = sound.waiting;
}

-- ---- streams

-- streams that carry, carry on
CarryOn : List streams.Stream → List streams.Stream → ℕ → Type 0
CarryOn before after number = IsCarried before number → IsCarried after number

place_streams : (rows : List Row) (before after : List streams.Stream) (d : kept.Class3Connection) → CarryOn before after d.stream → IsInPlace rows before d → IsInPlace rows after d
unfolding CarryOn
place_streams rows before after d on is = record { triad = is.triad; id = is.id; stream = on is.stream; watchdog = is.watchdog; o_t_api_ms = is.o_t_api_ms; t_o_api_ms = is.t_o_api_ms; reply = is.reply }

route_streams : (before after : List streams.Stream) (from : Requester) → ((number : ℕ) → CarryOn before after number) → RouteIsOpen before from → RouteIsOpen after from
unfolding CarryOn
route_streams before after (Peer node) on opens = tt
route_streams before after (Stream number context) on opens = on number opens
route_streams before after (Class3Connection id count) on opens = tt

messages_on : (t : AdapterTable) (after : List streams.Stream) → ((number : ℕ) → CarryOn t.streams after number) → AreMessagesSound t → AreMessagesSound (record t { streams = after })
messages_on t after on sound = record {
  own = sound.own;
  class3_connections = each_weaker (IsInPlace t.rows t.streams) (IsInPlace t.rows after) (λ d. place_streams t.rows t.streams after d (on d.stream)) t.messaging.class3_connections sound.class3_connections;
  waiting = each_weaker (CanGoBack t.streams) (CanGoBack after) (λ w. route_streams t.streams after w.asker on) t.messaging.waiting sound.waiting;
}

on_with : (open_streams : List streams.Stream) (new : streams.Stream) (number : ℕ) → CarryOn open_streams (open_streams ++ new ∷ []) number
unfolding CarryOn
on_with open_streams new number carried = list_any-append (carries number) open_streams (new ∷ []) ∙ or_left _ _ carried

pub messages_with : (t : AdapterTable) (number : ℕ) (peer : Node) → AreMessagesSound t → AreMessagesSound (with_stream t number peer)
unfolding with_stream
messages_with t number peer sound = messages_on t (t.streams ++ new_stream number peer ∷ []) (on_with t.streams (new_stream number peer)) sound

carries_registered : (b : Bool) (number : ℕ) (stream : streams.Stream) → carries number stream ≡ true → carries number (cond b (record stream { registered = true }) stream) ≡ true
carries_registered true number stream is = first_holds (stream.number == number) stream.registered is where
  first_holds : (a b : Bool) → (a && b) ≡ true → (a && true) ≡ true
  first_holds true b both = refl
  first_holds false b both = absurd cc
carries_registered false number stream is = is

on_registered : (registered : ℕ) (open_streams : List streams.Stream) (number : ℕ) → CarryOn open_streams (map (registered_stream registered) open_streams) number
unfolding CarryOn
on_registered registered [] number carried = absurd cc
on_registered registered (stream ∷ open_streams) number carried =
    on_step (carries number stream) _ _ _ (carries_registered (is_stream registered stream) number stream) (on_registered registered open_streams number) carried where
      on_step : (a a' b b' : Bool) → (a ≡ true → a' ≡ true) → (b ≡ true → b' ≡ true) → (a || b) ≡ true → (a' || b') ≡ true
      on_step true a' b b' here later either = rw (here refl) refl
      on_step false a' b b' here later either = or_right a' b' (later either)

pub messages_registered : (t : AdapterTable) (number : ℕ) → AreMessagesSound t → AreMessagesSound (registered_table t number)
unfolding registered_table
messages_registered t number sound = messages_on t (map (registered_stream number) t.streams) (on_registered number t.streams) sound

-- ---- a stream ends

other_carries : (ended number : ℕ) (stream : streams.Stream) → not (number == ended) ≡ true → carries number stream ≡ true → is_other_stream ended stream ≡ true
other_carries ended number stream other is = by_number (stream.number == number) stream.registered refl is where
  by_number : (a b : Bool) → (stream.number == number) ≡ a → (a && b) ≡ true → not (stream.number == ended) ≡ true
  by_number true b same both = grind (arith, nat_tests)
  by_number false b same both = absurd cc

on_left : (ended number : ℕ) (open_streams : List streams.Stream) → not (number == ended) ≡ true → CarryOn open_streams (filter (is_other_stream ended) open_streams) number
unfolding CarryOn
on_left ended number [] other carried = absurd cc
on_left ended number (stream ∷ open_streams) other carried =
    left_step (is_other_stream ended stream) (carries number stream) (list_any (carries number) open_streams) (carries number) stream _ refl (other_carries ended number stream other) (on_left ended number open_streams other) carried where
      left_step : (stays here later : Bool) (q : streams.Stream → Bool) (first : streams.Stream) (left : List streams.Stream) → q first ≡ here → (here ≡ true → stays ≡ true) → (later ≡ true → list_any q left ≡ true) → (here || later) ≡ true → list_any q (cond stays (first ∷ left) left) ≡ true
      left_step true true later q first left is stays more either = rw is refl
      left_step false true later q first left is stays more either = absurd (let e = stays refl in cc)
      left_step true false later q first left is stays more either = or_right (q first) _ (more either)
      left_step false false later q first left is stays more either = more either

each_zip : {A : Type 0} (P Q R : A → Type 0) → ((x : A) → P x → Q x → R x) → (xs : List A) → EachOf P xs → EachOf Q xs → EachOf R xs
each_zip P Q R both [] first second = tt
each_zip P Q R both (x ∷ xs) first second = (both x first.0 second.0, each_zip P Q R both xs first.1 second.1)

route_left : (before after : List streams.Stream) (ended : ℕ) (from : Requester) → ((number : ℕ) → not (number == ended) ≡ true → CarryOn before after number) → RouteIsOpen before from → not (is_over_stream ended from) ≡ true → RouteIsOpen after from
unfolding CarryOn
route_left before after ended (Peer node) on opens elsewhere = tt
route_left before after ended (Stream number context) on opens elsewhere = on number elsewhere opens
route_left before after ended (Class3Connection id count) on opens elsewhere = tt

pub messages_without : (t : AdapterTable) (number : ℕ) → AreMessagesSound t → AreMessagesSound (without_stream t number)
unfolding without_stream
messages_without t number sound =
    let after = filter (is_other_stream number) t.streams in
    let left = messages.without_stream t.messaging number in
    let keeps = without_stream_keeps (IsInPlace t.rows t.streams) (CanGoBack t.streams) t.messaging number in
    record {
      own = without_stream_sound t.ids t.next_id t.messaging number sound.own;
      class3_connections =
          each_zip (IsInPlace t.rows t.streams) (λ d. not (is_on_stream number d) ≡ true) (IsInPlace t.rows after)
          (λ d is elsewhere. place_streams t.rows t.streams after d (on_left number d.stream t.streams elsewhere) is) left.class3_connections (keeps.class3_connections sound.class3_connections) (ended_class3_connections t.messaging number);
      waiting =
          each_zip (CanGoBack t.streams) (λ w. not (is_over_stream number w.asker) ≡ true) (CanGoBack after)
          (λ w opens elsewhere. route_left t.streams after number w.asker (λ n other. on_left number n t.streams other) opens elsewhere) left.waiting (keeps.waiting sound.waiting) (ended_waiting t.messaging number);
    }

-- ---- a fresh table

first_numbered : (incarnation : ℕ) (ids : Option IdBlock) → is_block (first_block incarnation ids) ≡ true → first_request ids ≤ messages.no_number
first_numbered incarnation None is = omega arith
first_numbered incarnation (Some block) is = grind (arith, nat_tests)

pub messages_fresh : (profile : Profile) → is_block (first_ids profile) ≡ true → AreMessagesSound (adapter_table profile)
messages_fresh profile is =
    record { own = fresh_sound (first_ids profile ∷ []) 1 (first_request profile.ids) (first_numbered profile.incarnation profile.ids is); class3_connections = tt; waiting = tt }
