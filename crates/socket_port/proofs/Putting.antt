-- Streams that are taken out of their places and put back.
use Rattle.std.proofs.Common.{◌≡◌, ℕ, List, Option, Some, None, Result, Ok, Err, OnOk, OnErr, slice_set, refl, ap, ◌∙◌}
use Rattle.std.proofs.lemmas.List.{set-set}
use Rattle.socket_port.specs.declared.streams.port_stream.PortStream.{PortStream}
use Rattle.socket_port.specs.Streams.StreamArrivals.{ReceivesBytes, Sends, takes_bytes}
use Rattle.socket_port.specs.Streams.Slots.{Receives, ReceivesAt, SendsAt, SendsOver, slot_at}

-- what is put under a number last stands there
pub put_again : {X : Type 0} (old middle new : List X) (number : ℕ) (x y y' : X) → middle ≡ slice_set old number x → new ≡ slice_set middle number y → y ≡ y' → new ≡ slice_set old number y'
put_again old middle new number x y y' first second same = second ∙ ap (λ xs. slice_set xs number y) first ∙ set-set old number x y ∙ ap (slice_set old number) same

pub on_ok_map : {T E : Type 0} (r : Result T E) (P Q : Type 0) → (P → Q) → OnOk r P → OnOk r Q
on_ok_map (Ok x) P Q f p = f p
on_ok_map (Err e) P Q f p = tt

pub on_err_map : {T E : Type 0} (r : Result T E) (P Q : Type 0) → (P → Q) → OnErr r P → OnErr r Q
on_err_map (Ok x) P Q f p = tt
on_err_map (Err e) P Q f p = f p

receives_at : {S : Type 0} (slot : Option (PortStream S)) (port_stream port_stream' : PortStream S) (piece : List ℕ) → Some port_stream ≡ slot → ReceivesBytes (takes_bytes port_stream) port_stream piece port_stream' → ReceivesAt slot piece (Some port_stream')
receives_at slot port_stream port_stream' piece is received = rw (← is) received

-- a stream that was taken out heard bytes, and is put back
pub receives_put : {S : Type 0} (old middle new : List (Option (PortStream S))) (number : ℕ) (port_stream port_stream' : PortStream S) (piece : List ℕ)
    → middle ≡ slice_set old number None → new ≡ slice_set middle number (Some port_stream') → Some port_stream ≡ slot_at old number → ReceivesBytes (takes_bytes port_stream) port_stream piece port_stream' → Receives old number piece new
receives_put old middle new number port_stream port_stream' piece first second is received = record {
  slot = Some port_stream';
  received = receives_at (slot_at old number) port_stream port_stream' piece is received;
  others = put_again old middle new number None (Some port_stream') (Some port_stream') first second refl;
}

sends_at : {S : Type 0} (contents : S → Option (List ℕ)) (slot : Option (PortStream S)) (port_stream port_stream' : PortStream S) (message : List ℕ) → Some port_stream ≡ slot → Sends contents port_stream.ended port_stream message port_stream' → SendsAt contents slot message (Some port_stream')
sends_at contents slot port_stream port_stream' message is sent = rw (← is) sent

-- a stream that was taken out sent a message, and is put back
pub sends_put : {S : Type 0} (contents : S → Option (List ℕ)) (old middle new : List (Option (PortStream S))) (number : ℕ) (port_stream port_stream' : PortStream S) (message : List ℕ)
    → middle ≡ slice_set old number None → new ≡ slice_set middle number (Some port_stream') → Some port_stream ≡ slot_at old number → Sends contents port_stream.ended port_stream message port_stream' → SendsOver contents old number message new
sends_put contents old middle new number port_stream port_stream' message first second is sent = record {
  slot = Some port_stream';
  sent = sends_at contents (slot_at old number) port_stream port_stream' message is sent;
  others = put_again old middle new number None (Some port_stream') (Some port_stream') first second refl;
}
