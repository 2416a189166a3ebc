-- Messages of class 3 connections, and answers of the application: what they leave at the connections.
use Rattle.std.proofs.Common.{◌≡◌, ◌≤◌, ℕ, Bool, true, false, cond, ◌||◌, List, [], ◌∷◌, length, find, Option, Some, None, refl, arith}
use Rattle.std.specs.List.{list_any}
use Rattle.std.specs.Option.{is_some}
use Rattle.cip_types.specs.declared.names.ConnId.{ConnId}
use Rattle.cip_types.specs.declared.names.Triad.{Triad}
use Rattle.messaging.specs.declared.class3.Class3Connection.{Class3Connection}
use Rattle.messaging.specs.declared.requests.Waiting.{Waiting}
use Rattle.messaging.specs.declared.table.Messaging.{Messaging}
use Rattle.messaging.specs.Changes.{answered, replied}
use Rattle.messaging.specs.Class3Connections.{replied_class3}
use Rattle.messaging.specs.Lemmas.KeptLemmas.{Keeps, replied_keeps, answered_keeps, keeps_both}
use Rattle.messaging.specs.Lemmas.SoundLemmas.{replied_sound, answered_sound}
use Rattle.adapter_table.specs.declared.table.AdapterTable.{AdapterTable}
use Rattle.adapter_table.specs.Messages.{messages_table}
use Rattle.adapter_table.specs.MessagesSound.{IsInPlace, CanGoBack, MessagesGoOn}
use Rattle.adapter_table.specs.Lemmas.MessageLemmas.{WaitsNot}

-- ---- the application answers

place_replied : (t : AdapterTable) (text : List ℕ) → length text ≤ 1404 → (d : Class3Connection) → IsInPlace t.rows t.streams d → IsInPlace t.rows t.streams (replied_class3 text d)
place_replied t text short d is = record { triad = is.triad; id = is.id; stream = is.stream; watchdog = is.watchdog; o_t_api_ms = is.o_t_api_ms; t_o_api_ms = is.t_o_api_ms; reply = short }

settled_keeps : (P : Class3Connection → Type 0) (Q : Waiting → Type 0) (m : Messaging) (id : ConnId) (count number : ℕ) (text : List ℕ) → ((d : Class3Connection) → P d → P (replied_class3 text d)) → Keeps P Q m (answered (replied m id count text) number)
settled_keeps P Q m id count number text keeps =
    keeps_both P Q m (replied m id count text) (answered (replied m id count text) number) (replied_keeps P Q m id count text keeps) (answered_keeps P Q (replied m id count text) number)

-- the connection keeps a short text, and the request waits no more
pub goes_settled : (t : AdapterTable) (id : ConnId) (count number : ℕ) (text : List ℕ) → length text ≤ 1404 → MessagesGoOn t t.next_id (answered (replied t.messaging id count text) number)
unfolding messages_table
goes_settled t id count number text short =
    let keeps = settled_keeps (IsInPlace t.rows t.streams) (CanGoBack t.streams) t.messaging id count number text (place_replied t text short) in
    let asks = λ (n : ℕ). settled_keeps (λ d. Unit {0}) (WaitsNot n) t.messaging id count number text (λ d is. tt) in
    record {
      later = omega arith;
      one = omega arith;
      left = λ few. few;
      sound = λ rows sound. record {
        own = answered_sound t.ids t.next_id (replied t.messaging id count text) number (replied_sound t.ids t.next_id t.messaging id count text sound.own);
        class3_connections = keeps.class3_connections sound.class3_connections;
        waiting = keeps.waiting sound.waiting;
      };
      settled = λ n settled. record { given = rw (asks n).number settled.given; waits_not = (asks n).waiting settled.waits_not };
    }

-- a class 3 connection of a triad
abbrev pub of_triad : Triad → Class3Connection
of_triad triad = record {
  triad = triad;
  peer = record { 0 = 0 };
  stream = 0;
  o_t_id = record { 0 = 0 };
  t_o_id = record { 0 = 0 };
  o_t_api_ms = 0;
  t_o_api_ms = 0;
  o_t_size = 0;
  t_o_size = 0;
  watchdog = record { 0 = 0 };
  opening = 0;
  last = None;
  reply = [];
  deadline = record { 0 = 0 };
}

-- ---- what is found

found_by : {A : Type 0} (b : Bool) (x : A) (rest : Option A) (c : Bool) → is_some rest ≡ c → is_some (cond b (Some x) rest) ≡ (b || c)
found_by true x rest c is = refl
found_by false x rest c is = is

-- one is found, if one passes the test
pub some_is_any : {A : Type 0} (p : A → Bool) (xs : List A) → is_some (find p xs) ≡ list_any p xs
some_is_any p [] = refl
some_is_any p (x ∷ xs) = found_by (p x) x (find p xs) (list_any p xs) (some_is_any p xs)
