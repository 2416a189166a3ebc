-- What each event leaves of a message of a class 3 connection, unless it asks on the connection by another count.
use Rattle.std.proofs.Common.{◌≡◌, inl, ℕ, ◌+◌, ◌==◌, ◌&&◌, not, nat_lt, Bool, true, false, cond, List, [], ◌∷◌, length, find, Option, Some, None, option_to_list, refl, sym, ◌∙◌, ap, subst, arith, eqb-true, eq-eqb}
use Rattle.std.specs.List.{last_or}
use Rattle.std.proofs.lemmas.Bool.{and_parts}
use Rattle.std.proofs.lemmas.Bool.Decides.{nat_tests}
use Rattle.std.proofs.lemmas.Option.{same_Some}
use Rattle.base_lemmas.specs.Lists.{found_passes}
use Rattle.cip_types.specs.declared.names.ConnId.{ConnId}
use Rattle.cip_types.specs.declared.names.Ms.{Ms}
use Rattle.cip_encap.specs.Connected.{ConnectedFields}
use Rattle.cip_events.specs.declared.event.Delivery.TheVariants.{WrongSize}
use Rattle.cip_events.specs.declared.event.Frame.{Frame}
use Rattle.cip_router.specs.declared.command.EncapStatus.TheVariants as encap
use Rattle.cip_router.specs.Frames.{RequestHeader}
use Rattle.cip_router.specs.Requests.{router_request_reading}
use Rattle.messaging.specs.declared.class3.Class3Connection.{Class3Connection}
use Rattle.messaging.specs.Class3Connections.{has_class3_id, is_on_stream, is_class3, is_count, repeats_last, executed_class3, repeated_class3}
use Rattle.messaging.specs.Changes.{repeated}
use Rattle.adapter_table.specs.declared.table.AdapterTable.{AdapterTable}
use Rattle.adapter_table.specs.Answering.{unit_header}
use Rattle.adapter_table.specs.Connected.{service_in, next_deadline, repeated_table}
use Rattle.adapter_table.specs.Encapsulation.{Handled, refusal, undelivered, kept_reply, message_repeated, message_executed, message_found, reply_frames}
use Rattle.adapter_table.specs.Lemmas.MessageLemmas.{same_number}
use Rattle.adapter_table.specs.Messages.{messages_table}
use Rattle.adapter_table.specs.Own.{own_of}
use Rattle.message_laws.specs.Repetitions.{Message, is_message_of, has_count, has_bytes, is_counted, is_next}
use Rattle.message_laws.proofs.Found.{Found, Leaves, same, IsChange, changed, change_leaves, found_of_id}
use Rattle.message_laws.proofs.Executing.{IsExecuted, is_executed}
use Rattle.message_laws.proofs.Going.{kept_frames, Holds, Goes, Differ, quiet, unchanged, alone, sent_again}

-- ---- messages

abbrev pub over : ℕ → ConnectedFields → Message
over number unit = record { stream = number; unit = unit }

-- what a message answers over the stream of its number
abbrev answered : ℕ → RequestHeader → Handled → List Frame
answered number header done = reply_frames number header done.reply

-- what is sent if the message has the count
abbrev sent_if : Class3Connection → ℕ → ℕ → RequestHeader → ConnectedFields → Handled → List Frame
sent_if d count number header unit done = cond (is_counted d count (over number unit)) (answered number header done) []

abbrev Serves : Class3Connection → ℕ → AdapterTable → ℕ → RequestHeader → ConnectedFields → Handled → Type 0
Serves d count t number header unit done = Goes d count t (sent_if d count number header unit done) done.table

-- nothing is sent, and the table stays
serves_nothing : (d : Class3Connection) (count : ℕ) (t : AdapterTable) (b : Bool) → Goes d count t (cond b [] []) t
serves_nothing d count t true = unchanged d count t
serves_nothing d count t false = unchanged d count t

-- two that are found by one id are one
pub one_found : (id : ConnId) (ds : List Class3Connection) (x y : Class3Connection) → Found id ds x → Found id ds y → x ≡ y
one_found id ds x y first second = same_Some x y (sym first ∙ second)

moves_deadline : (x : Class3Connection) (deadline : Ms) → IsChange x.o_t_id (has_class3_id x.o_t_id) (repeated_class3 deadline)
moves_deadline x deadline = record { named = λ d has. has; id = λ d. refl }

is_executing : (x : Class3Connection) (count : ℕ) (reply : List ℕ) (deadline : Ms) → IsChange x.o_t_id (has_class3_id x.o_t_id) (executed_class3 count reply deadline)
is_executing x count reply deadline = record { named = λ d has. has; id = λ d. refl }

pub repeated_leaves : (id : ConnId) (t : AdapterTable) (x : Class3Connection) → Leaves id (changed (has_class3_id x.o_t_id) (repeated_class3 (next_deadline t x))) t.messaging.class3_connections (repeated_table t x).messaging.class3_connections
unfolding messages_table repeated
repeated_leaves id t x = change_leaves id x.o_t_id (has_class3_id x.o_t_id) (repeated_class3 (next_deadline t x)) (moves_deadline x (next_deadline t x)) t.messaging.class3_connections

pub repeated_same : (t : AdapterTable) (x : Class3Connection) → ((repeated_table t x).next_id ≡ t.next_id) × ((repeated_table t x).profile ≡ t.profile) × ((repeated_table t x).ids ≡ t.ids)
unfolding messages_table
repeated_same t x = (refl, refl, refl)

-- ---- the connection's own message comes again

-- only the deadline changes
pub holds_deadline : (b : Bool) (d : Class3Connection) (count : ℕ) (sent : Option Frame) (deadline : Ms) (old e : Class3Connection) → e ≡ cond b (repeated_class3 deadline old) old → Holds d count sent old → Holds d count sent e
holds_deadline true d count sent deadline old e is h = subst (Holds d count sent) (sym is) (record { stream = h.stream; size = h.size; last = h.last; kept = h.kept })
holds_deadline false d count sent deadline old e is h = subst (Holds d count sent) (sym is) h

-- the reply over the stream is what the connection keeps
pub same_frames : (number : ℕ) (header : RequestHeader) (old : Class3Connection) (count : ℕ) → old.stream ≡ number → header.session ≡ number + 1 → reply_frames number header (kept_reply old count old.reply) ≡ kept_frames old count
same_frames number header old count stream session = by_reply old.reply where
  by_reply : (text : List ℕ) → reply_frames number header (kept_reply old count text) ≡ reply_frames old.stream (unit_header old.stream) (kept_reply old count text)
  by_reply [] = refl
  by_reply (first ∷ rest) = rw (stream, session) refl

holds_again : (b : Bool) (d : Class3Connection) (count : ℕ) (number : ℕ) (header : RequestHeader) (unit : ConnectedFields) (sent : Option Frame) (old e : Class3Connection) → is_counted d count (over number unit) ≡ b → header.session ≡ number + 1 → Holds d count sent old → Holds d count sent e → Holds d count (last_or sent (cond b (reply_frames number header (kept_reply old unit.count old.reply)) [])) e
holds_again true d count number header unit sent old e is session h now =
    let tests = and_parts _ _ is in
    let here = and_parts _ _ tests.0 in
    let same_count : unit.count ≡ count = eqb-true unit.count count tests.1 in
    let same_stream : old.stream ≡ number = h.stream ∙ sym (eqb-true number d.stream here.0) in
    let frames : reply_frames number header (kept_reply old unit.count old.reply) ≡ option_to_list sent =
    ap (λ (n : ℕ). reply_frames number header (kept_reply old n old.reply)) same_count ∙ same_frames number header old count same_stream session ∙ h.kept in
    subst (λ (o : Option Frame). Holds d count o e) (sym (ap (last_or sent) frames ∙ sent_again sent)) now
holds_again false d count number header unit sent old e is session h now = now

repeated_serves : (d : Class3Connection) (count : ℕ) (t : AdapterTable) (number : ℕ) (header : RequestHeader) (unit : ConnectedFields) (x : Class3Connection) → header.session ≡ number + 1 → Found d.o_t_id t.messaging.class3_connections x → Serves d count t number header unit (message_repeated t x unit.count)
repeated_serves d count t number header unit x session found =
    let stay = repeated_same t x in
    record {
      later = omega (arith, stay.0);
      profile = stay.1;
      stands = λ e there. inl (
          let was = repeated_leaves d.o_t_id t x e there in
          record {
            old = was.old;
            found = was.found;
            on = λ sent h. subst (λ (y : Class3Connection). Holds d count (last_or sent (cond (is_counted d count (over number unit)) (reply_frames number header (kept_reply y unit.count y.reply)) [])) e) (one_found d.o_t_id t.messaging.class3_connections was.old x was.found found)
                (holds_again (is_counted d count (over number unit)) d count number header unit sent was.old e refl session h
                (holds_deadline (has_class3_id x.o_t_id was.old) d count sent (next_deadline t x) was.old e was.is h));
          });
    }

-- ---- the connection's own message is executed, which cannot be while it holds the other

-- the premise: no message with another count asks
abbrev AsksNoNext : Class3Connection → ℕ → ℕ → ConnectedFields → Type 0
AsksNoNext d count number unit = is_next d count (over number unit) ≡ false

-- the message is of the connection that is found for it
of_step : (a b c : Bool) (n q : Bool) → a ≡ true → b ≡ true → c ≡ true → ((a && (b && c)) && (n && q)) ≡ false → (n && q) ≡ false
of_step true true true n q first second third none = none
of_step false b c n q first second third none = absurd (let x = first in cc)
of_step true false c n q first second third none = absurd (let x = second in cc)
of_step true true false n q first second third none = absurd (let x = third in cc)

repeats_own : (last : Option ℕ) (count : ℕ) → last ≡ Some count → is_count count last ≡ true
repeats_own last count is = ap (is_count count) is ∙ same_number count

no_next : (d : Class3Connection) (count number : ℕ) (unit : ConnectedFields) (x : Class3Connection) (sent : Option Frame) → Holds d count sent x → x.stream ≡ number → unit.connection ≡ d.o_t_id.0 → nat_lt x.o_t_size (2 + length unit.message) ≡ false → repeats_last x unit.count ≡ false → AsksNoNext d count number unit → has_bytes unit.message ≡ false
no_next d count number unit x sent h stream connection fits new none =
    last_of (has_count count (over number unit)) (has_bytes unit.message) refl
    (of_step (number == d.stream) (unit.connection == d.o_t_id.0) (not (nat_lt d.o_t_size (2 + length unit.message))) (not (has_count count (over number unit))) (has_bytes unit.message)
    (eq-eqb _ _ (sym stream ∙ h.stream)) (eq-eqb _ _ connection) (ap not (ap (λ (n : ℕ). nat_lt n (2 + length unit.message)) (sym h.size) ∙ fits)) none)
  where
    last_of : (n q : Bool) → has_count count (over number unit) ≡ n → (not n && q) ≡ false → q ≡ false
    last_of true q is tests = absurd (let again : is_count unit.count x.last ≡ true = repeats_own x.last unit.count (h.last ∙ ap (λ (k : ℕ). Some k) (sym (eqb-true _ _ is))) in let no : true ≡ false = sym again ∙ new in cc)
    last_of false q is tests = tests

-- a message without bytes is refused
refused_counted : (d : Class3Connection) (count number : ℕ) (unit : ConnectedFields) (x : Class3Connection) (sent : Option Frame) → Holds d count sent x → repeats_last x unit.count ≡ false → is_counted d count (over number unit) ≡ false
refused_counted d count number unit x sent h new = by_test (is_message_of d (over number unit)) (has_count count (over number unit)) refl where
  by_test : (m b : Bool) → has_count count (over number unit) ≡ b → (m && b) ≡ false
  by_test true true is = absurd (let again : is_count unit.count x.last ≡ true = repeats_own x.last unit.count (h.last ∙ ap (λ (k : ℕ). Some k) (sym (eqb-true _ _ is))) in let no : true ≡ false = sym again ∙ new in cc)
  by_test true false is = refl
  by_test false b is = refl

pub executed_leaves : (id : ConnId) (t : AdapterTable) (x : Class3Connection) (count : ℕ) (done : Handled) (how : IsExecuted t x count done) → Leaves id (changed (has_class3_id x.o_t_id) (executed_class3 count how.reply (next_deadline t x))) t.messaging.class3_connections done.table.messaging.class3_connections
unfolding messages_table
executed_leaves id t x count done how e found =
    change_leaves id x.o_t_id (has_class3_id x.o_t_id) (executed_class3 count how.reply (next_deadline t x)) (is_executing x count how.reply (next_deadline t x)) t.messaging.class3_connections e
    (subst (λ (ds : List Class3Connection). Found id ds e) how.connections (subst (λ (u : AdapterTable). Found id u.messaging.class3_connections e) how.table found))

pub executed_same : (t : AdapterTable) (x : Class3Connection) (count : ℕ) (done : Handled) → IsExecuted t x count done → (done.table.next_id ≡ t.next_id) × (done.table.profile ≡ t.profile) × (done.table.ids ≡ t.ids)
unfolding messages_table
executed_same t x count done how = (ap (λ (u : AdapterTable). u.next_id) how.table, ap (λ (u : AdapterTable). u.profile) how.table, ap (λ (u : AdapterTable). u.ids) how.table)

abbrev pub new_message : AdapterTable → Class3Connection → ConnectedFields → Handled
new_message t x unit = message_executed t x unit.count (service_in unit.message) (router_request_reading unit.message) (own_of t.profile.objects (router_request_reading unit.message))

-- what the own connection's new message needs
record OwnMessage (d : Class3Connection) (count : ℕ) (t : AdapterTable) (number : ℕ) (unit : ConnectedFields) (x : Class3Connection) : Type 0 where
  found : Found d.o_t_id t.messaging.class3_connections x
  stream : x.stream ≡ number
  connection : unit.connection ≡ d.o_t_id.0
  fits : nat_lt x.o_t_size (2 + length unit.message) ≡ false
  new : repeats_last x unit.count ≡ false
  none : AsksNoNext d count number unit

pub nothing_new : (t : AdapterTable) (x : Class3Connection) (count : ℕ) (message : List ℕ) → has_bytes message ≡ false → message_executed t x count (service_in message) (router_request_reading message) (own_of t.profile.objects (router_request_reading message)) ≡ refusal t encap.IncorrectData
unfolding router_request_reading
nothing_new t x count [] none = refl
nothing_new t x count (byte ∷ message) none = absurd (let y = none in cc)

new_serves : (d : Class3Connection) (count : ℕ) (t : AdapterTable) (number : ℕ) (header : RequestHeader) (unit : ConnectedFields) (x : Class3Connection) (b : Bool) → has_bytes unit.message ≡ b → OwnMessage d count t number unit x → Serves d count t number header unit (new_message t x unit)
new_serves d count t number header unit x true some own =
    let how = is_executed t x unit.count unit.message some in
    let stay = executed_same t x unit.count (new_message t x unit) how in
    record {
      later = omega (arith, stay.0);
      profile = stay.1;
      stands = λ e there. inl (
          let was = executed_leaves d.o_t_id t x unit.count (new_message t x unit) how e there in
          record {
            old = was.old;
            found = was.found;
            on = λ sent h. absurd (
                let h2 = subst (Holds d count sent) (one_found d.o_t_id t.messaging.class3_connections was.old x was.found own.found) h in
                let never : true ≡ false = sym some ∙ no_next d count number unit x sent h2 own.stream own.connection own.fits own.new own.none in cc);
          });
    }
new_serves d count t number header unit x false some own =
    subst (λ (done : Handled). Serves d count t number header unit done) (sym (nothing_new t x unit.count unit.message some))
    (alone d count t (sent_if d count number header unit (refusal t encap.IncorrectData)) (λ e sent found h.
    let uncounted = refused_counted d count number unit x sent (subst (Holds d count sent) (one_found d.o_t_id t.messaging.class3_connections e x found own.found) h) own.new in
    rw uncounted refl))

-- ---- a message of another connection

other_test : (id : ConnId) (x old : Class3Connection) → has_class3_id id x ≡ false → has_class3_id id old ≡ true → has_class3_id x.o_t_id old ≡ true → true ≡ false
other_test id x old apart has tests = absurd (grind (arith, nat_tests))

left_alone : (b : Bool) (id : ConnId) (x : Class3Connection) (f : Class3Connection → Class3Connection) (old e : Class3Connection) → has_class3_id id x ≡ false → has_class3_id id old ≡ true → has_class3_id x.o_t_id old ≡ b → e ≡ cond b (f old) old → e ≡ old
left_alone true id x f old e apart has tests is = absurd (let never = other_test id x old apart has tests in cc)
left_alone false id x f old e apart has tests is = is

others_leave : (id : ConnId) (x : Class3Connection) (f : Class3Connection → Class3Connection) (ds es : List Class3Connection) → has_class3_id id x ≡ false → Leaves id (changed (has_class3_id x.o_t_id) f) ds es → Leaves id same ds es
others_leave id x f ds es apart leaves e found =
    let was = leaves e found in
    record { old = was.old; found = was.found; is = left_alone (has_class3_id x.o_t_id was.old) id x f was.old e apart (found_passes (has_class3_id id) ds was.old was.found) refl was.is }

uncounted_step : (a b c q : Bool) → b ≡ false → ((a && (b && c)) && q) ≡ false
uncounted_step true true c q is = absurd (let x = is in cc)
uncounted_step true false c q is = refl
uncounted_step false b c q is = refl

other_id : (n m k : ℕ) → (n == m) ≡ true → (n == k) ≡ false → (m == k) ≡ false
other_id n m k is apart = grind (arith, nat_tests)

other_counted : (d : Class3Connection) (count number : ℕ) (unit : ConnectedFields) (x : Class3Connection) → has_class3_id (record { 0 = unit.connection }) x ≡ true → has_class3_id d.o_t_id x ≡ false → is_counted d count (over number unit) ≡ false
other_counted d count number unit x is apart =
    uncounted_step (number == d.stream) (unit.connection == d.o_t_id.0) (not (nat_lt d.o_t_size (2 + length unit.message))) (has_count count (over number unit)) (other_id x.o_t_id.0 unit.connection d.o_t_id.0 is apart)

pub sends_nothing : (d : Class3Connection) (count : ℕ) (t u : AdapterTable) (b : Bool) (frames : List Frame) → b ≡ false → Goes d count t [] u → Goes d count t (cond b frames []) u
sends_nothing d count t u true frames is goes = absurd (let x = is in cc)
sends_nothing d count t u false frames is goes = goes

other_repeated : (d : Class3Connection) (count : ℕ) (t : AdapterTable) (x : Class3Connection) → has_class3_id d.o_t_id x ≡ false → Goes d count t [] (repeated_table t x)
other_repeated d count t x apart =
    let stay = repeated_same t x in
    quiet d count t (repeated_table t x) (omega (arith, stay.0)) stay.1
    (others_leave d.o_t_id x (repeated_class3 (next_deadline t x)) t.messaging.class3_connections (repeated_table t x).messaging.class3_connections apart (repeated_leaves d.o_t_id t x))

other_new : (d : Class3Connection) (count : ℕ) (t : AdapterTable) (unit : ConnectedFields) (x : Class3Connection) (b : Bool) → has_bytes unit.message ≡ b → has_class3_id d.o_t_id x ≡ false → Goes d count t [] (new_message t x unit).table
other_new d count t unit x true some apart =
    let how = is_executed t x unit.count unit.message some in
    let stay = executed_same t x unit.count (new_message t x unit) how in
    quiet d count t (new_message t x unit).table (omega (arith, stay.0)) stay.1
    (others_leave d.o_t_id x (executed_class3 unit.count how.reply (next_deadline t x)) t.messaging.class3_connections (new_message t x unit).table.messaging.class3_connections apart (executed_leaves d.o_t_id t x unit.count (new_message t x unit) how))
other_new d count t unit x false none apart =
    subst (λ (done : Handled). Goes d count t [] done.table) (sym (nothing_new t x unit.count unit.message none)) (unchanged d count t)

-- ---- the message of the connection that is found for it

abbrev at_most : Class3Connection → ConnectedFields → AdapterTable → Handled
at_most x unit t = cond (nat_lt x.o_t_size (2 + length unit.message)) (undelivered t WrongSize) (cond (repeats_last x unit.count) (message_repeated t x unit.count) (new_message t x unit))

own_serves : (d : Class3Connection) (count : ℕ) (t : AdapterTable) (number : ℕ) (header : RequestHeader) (unit : ConnectedFields) (x : Class3Connection) (long again : Bool) → header.session ≡ number + 1 → Found d.o_t_id t.messaging.class3_connections x → x.stream ≡ number → unit.connection ≡ d.o_t_id.0 → AsksNoNext d count number unit → nat_lt x.o_t_size (2 + length unit.message) ≡ long → repeats_last x unit.count ≡ again → Serves d count t number header unit (cond long (undelivered t WrongSize) (cond again (message_repeated t x unit.count) (new_message t x unit)))
own_serves d count t number header unit x true again session found stream connection none long repeats = serves_nothing d count t (is_counted d count (over number unit))
own_serves d count t number header unit x false true session found stream connection none long repeats = repeated_serves d count t number header unit x session found
own_serves d count t number header unit x false false session found stream connection none long repeats =
    new_serves d count t number header unit x (has_bytes unit.message) refl (record { found = found; stream = stream; connection = connection; fits = long; new = repeats; none = none })

other_serves : (d : Class3Connection) (count : ℕ) (t : AdapterTable) (number : ℕ) (header : RequestHeader) (unit : ConnectedFields) (x : Class3Connection) (long again : Bool) → has_class3_id (record { 0 = unit.connection }) x ≡ true → has_class3_id d.o_t_id x ≡ false → Serves d count t number header unit (cond long (undelivered t WrongSize) (cond again (message_repeated t x unit.count) (new_message t x unit)))
other_serves d count t number header unit x true again mine apart = serves_nothing d count t (is_counted d count (over number unit))
other_serves d count t number header unit x false true mine apart =
    sends_nothing d count t (repeated_table t x) (is_counted d count (over number unit)) (answered number header (message_repeated t x unit.count)) (other_counted d count number unit x mine apart) (other_repeated d count t x apart)
other_serves d count t number header unit x false false mine apart =
    sends_nothing d count t (new_message t x unit).table (is_counted d count (over number unit)) (answered number header (new_message t x unit)) (other_counted d count number unit x mine apart) (other_new d count t unit x (has_bytes unit.message) refl apart)

found_serves : (b : Bool) (d : Class3Connection) (count : ℕ) (t : AdapterTable) (number : ℕ) (header : RequestHeader) (unit : ConnectedFields) (x : Class3Connection) → has_class3_id d.o_t_id x ≡ b → Differ t.messaging → header.session ≡ number + 1 → find (is_class3 number (record { 0 = unit.connection })) t.messaging.class3_connections ≡ Some x → AsksNoNext d count number unit → Serves d count t number header unit (at_most x unit t)
found_serves true d count t number header unit x mine differ session found none =
    let tests = and_parts (is_on_stream number x) (has_class3_id (record { 0 = unit.connection }) x) (found_passes (is_class3 number (record { 0 = unit.connection })) t.messaging.class3_connections x found) in
    own_serves d count t number header unit x (nat_lt x.o_t_size (2 + length unit.message)) (repeats_last x unit.count) session
    (found_of_id d.o_t_id (is_class3 number (record { 0 = unit.connection })) t.messaging.class3_connections x differ mine found)
    (eqb-true x.stream number tests.0) (sym (eqb-true x.o_t_id.0 unit.connection tests.1) ∙ eqb-true x.o_t_id.0 d.o_t_id.0 mine) none refl refl
found_serves false d count t number header unit x mine differ session found none =
    let tests = and_parts (is_on_stream number x) (has_class3_id (record { 0 = unit.connection }) x) (found_passes (is_class3 number (record { 0 = unit.connection })) t.messaging.class3_connections x found) in
    other_serves d count t number header unit x (nat_lt x.o_t_size (2 + length unit.message)) (repeats_last x unit.count) tests.1 mine

pub message_serves : (d : Class3Connection) (count : ℕ) (t : AdapterTable) (number : ℕ) (header : RequestHeader) (unit : ConnectedFields) (found : Option Class3Connection) → Differ t.messaging → header.session ≡ number + 1 → find (is_class3 number (record { 0 = unit.connection })) t.messaging.class3_connections ≡ found → AsksNoNext d count number unit → Serves d count t number header unit (message_found t unit.count unit.message found)
message_serves d count t number header unit None differ session is none = serves_nothing d count t (is_counted d count (over number unit))
message_serves d count t number header unit (Some x) differ session is none = found_serves (has_class3_id d.o_t_id x) d count t number header unit x refl differ session is none
