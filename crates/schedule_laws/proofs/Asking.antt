-- What the text of a slot's request to open is read as: the slot's path, its sizes and its delivery.
use Rattle.std.proofs.Common.{◌≡◌, ◌<◌, ◌≤◌, ℕ, ◌+◌, ◌*◌, ◌/◌, ◌%◌, ◌==◌, ◌&&◌, nat_lt, Bool, true, false, List, [], ◌∷◌, length, Option, Some, None, Ok, refl, sym, ◌∙◌, ap, subst, arith}
use Rattle.std.specs.Int.{w16, w32, w64}
use Rattle.std.specs.Option.{IfSome}
use Rattle.std.proofs.lemmas.Bool.{and_parts, or_parts}
use Rattle.std.proofs.lemmas.Bool.Decides.{nat_tests}
use Rattle.std.proofs.lemmas.Nat.{from_le_bytes-to_le_bytes_2}
use Rattle.cip_netparams.specs.declared.ConnectionType.TheVariants.{Multicast, PointToPoint}
use Rattle.cip_netparams.specs.Word.{params16, params32, word16, word32, type_of}
use Rattle.cip_epath.specs.Reading.{path_reading}
use Rattle.cip_epath.specs.ReadsBack.{PathReadsBack}
use Rattle.cip_epath.specs.Written.{AreWords, PathFits}
use Rattle.cip_fwdopen.specs.Open.{OpenFields, params_of, params_width, params_word}
use Rattle.cip_encap.specs.Message.{message_text}
use Rattle.cip_encap.specs.AnyItems.{any_packet_reading}
use Rattle.cip_encap.specs.ReadsBack.{ItemsReadBack}
use Rattle.cip_productions.specs.declared.kind.Kind.{Kind}
use Rattle.cip_productions.specs.declared.kind.Kind.TheVariants.{ExclusiveOwner, InputOnly, ListenOnly}
use Rattle.cip_productions.specs.Kinds.{is_owner}
use Rattle.adapter_table.specs.Checks.{is_multicast}
use Rattle.conn_state.specs.declared.names.Requested.{Requested}
use Rattle.scanner_table.specs.declared.profile.ScannerProfile.{ScannerProfile}
use Rattle.scanner_table.specs.declared.profile.SlotConfig.{SlotConfig}
use Rattle.scanner_table.specs.Profiles.{is_point_len, is_out_len, is_config, has_lengths}
use Rattle.scanner_table.specs.Requests.{Sent, slot_params, t_o_type, o_t_size, t_o_size, is_large, inhibit_of, segment_of, slot_path, open_fields, sent_message}
use Rattle.device_laws.specs.Lemmas.Texts.{either, again, same_again}
use Rattle.device_laws.specs.Frames.{IsOpening}
use Rattle.device_laws.specs.Lemmas.RequestTexts.{SizeFits, type_16, type_32, HoldsAsRead, PacketOpens, RequestOpens, packet_opens, read_back}
use Rattle.device_laws.specs.Lemmas.ReplyTexts.{MessageBack, message_back}
use Rattle.schedule_laws.specs.JoinedPoints.{HasPath}
use Rattle.answer_sizes.specs.Lemmas.SlotLengths.{out_short, point_short, small_size}

-- ---- the path

inhibit_fits : (inhibit : ℕ) → inhibit < 256 → IfSome (inhibit_of inhibit) (λ ms. ms < 256)
inhibit_fits inhibit fits = either (λ (o : Option ℕ). IfSome o (λ ms. ms < 256)) (inhibit == 0) None (Some inhibit) tt fits

-- configuration data are whole words, and few
record AreFewWords (content : List ℕ) : Type 0 where
  few : length content ≤ 400
  words : length content % 2 ≡ 0

few_words : (config : Option ℕ) (content : List ℕ) → is_config config content ≡ true → AreFewWords content
few_words None content is = let none : length content ≡ 0 = grind (arith, nat_tests) in record { few = omega (arith, none); words = rw none refl }
few_words (Some n) content is = record { few = grind (arith, nat_tests); words = grind (arith, nat_tests) }

words_fit : (content : List ℕ) → AreFewWords content → IfSome (segment_of content) AreWords
words_fit [] are = tt
words_fit (byte ∷ content) are = (length (byte ∷ content) / 2, omega (arith, are.few), omega (arith, are.words))

-- what the lengths of a slot's configuration say
record Lengths (slot : SlotConfig) : Type 0 where
  input : slot.in_len ≤ 1400
  output : slot.out_len ≤ 1400
  no_output : is_owner slot.kind ≡ false → slot.out_len ≡ 0
  words : AreFewWords slot.config_data

out_none : (kind : Kind) (len : ℕ) → is_out_len kind len ≡ true → is_owner kind ≡ false → len ≡ 0
out_none ExclusiveOwner len is none = absurd (let e = none in cc)
out_none InputOnly len is none = grind (arith, nat_tests)
out_none ListenOnly len is none = grind (arith, nat_tests)

lengths_of : (slot : SlotConfig) → has_lengths slot ≡ true → Lengths slot
lengths_of slot is =
    let first = and_parts (is_point_len slot.in_len) (is_out_len slot.kind slot.out_len && is_config slot.config slot.config_data) is in
    let second = and_parts (is_out_len slot.kind slot.out_len) (is_config slot.config slot.config_data) first.1 in
    record { input = point_short slot.in_len first.0; output = out_short slot.kind slot.out_len second.0; no_output = out_none slot.kind slot.out_len second.0; words = few_words slot.config slot.config_data second.1 }

path_fits : (slot : SlotConfig) → HasPath slot → Lengths slot → PathFits (slot_path slot)
path_fits slot has lengths = record {
  key = has.key;
  inhibit = inhibit_fits slot.inhibit has.inhibit;
  class = omega arith;
  config = has.config;
  consumed = has.consumed;
  produced = has.produced;
  segment = words_fit slot.config_data lengths.words;
}

-- ---- connection parameters

size_16 : (size code : ℕ) → size < 512 → code < 4 → (size + 2048 + 8192 * code) % 512 ≡ size
size_16 size code small few = omega (arith, small, few)

size_32 : (size code : ℕ) → size < 65536 → code < 4 → (size + 134217728 + 536870912 * code) % 65536 ≡ size
size_32 size code small few = omega (arith, small, few)

back_16 : (size code word : ℕ) → word ≡ size + 2048 + 8192 * code → size < 512 → code < 4 → again w16 word ≡ size + 2048 + 8192 * code
back_16 size code word is small few = from_le_bytes-to_le_bytes_2 word (omega (arith, is, small, few)) ∙ is

back_32 : (size code word : ℕ) → word ≡ size + 134217728 + 536870912 * code → size < 65536 → code < 4 → again w32 word ≡ size + 134217728 + 536870912 * code
back_32 size code word is small few = same_again word (omega (arith, is, small, few)) ∙ is

-- the size and the delivery, as they are read
record ParamsBack (large : Bool) (size : ℕ) (multicast : Bool) : Type 0 where
  size_is : (params_of large (again (params_width large) (params_word large (slot_params size (t_o_type multicast))))).size ≡ size
  kind_is : is_multicast (params_of large (again (params_width large) (params_word large (slot_params size (t_o_type multicast))))).kind ≡ multicast

params_back : (large multicast : Bool) (size : ℕ) → SizeFits large size → ParamsBack large size multicast
unfolding params16 params32
params_back true true size fits =
    let is : word32 (slot_params size Multicast) 0 0 ≡ size + 134217728 + 536870912 * 1 = omega arith in
    let back = back_32 size 1 (word32 (slot_params size Multicast) 0 0) is fits (omega arith) in
    record {
      size_is = ap (λ (n : ℕ). n % 65536) back ∙ size_32 size 1 fits (omega arith);
      kind_is = ap (λ (n : ℕ). is_multicast (type_of (n / 536870912 % 4))) back ∙ ap (λ (n : ℕ). is_multicast (type_of n)) (type_32 size 1 fits (omega arith));
    }
params_back true false size fits =
    let is : word32 (slot_params size PointToPoint) 0 0 ≡ size + 134217728 + 536870912 * 2 = omega arith in
    let back = back_32 size 2 (word32 (slot_params size PointToPoint) 0 0) is fits (omega arith) in
    record {
      size_is = ap (λ (n : ℕ). n % 65536) back ∙ size_32 size 2 fits (omega arith);
      kind_is = ap (λ (n : ℕ). is_multicast (type_of (n / 536870912 % 4))) back ∙ ap (λ (n : ℕ). is_multicast (type_of n)) (type_32 size 2 fits (omega arith));
    }
params_back false true size fits =
    let is : word16 (slot_params size Multicast) 0 ≡ size + 2048 + 8192 * 1 = omega arith in
    let back = back_16 size 1 (word16 (slot_params size Multicast) 0) is fits (omega arith) in
    record {
      size_is = ap (λ (n : ℕ). n % 512) back ∙ size_16 size 1 fits (omega arith);
      kind_is = ap (λ (n : ℕ). is_multicast (type_of (n / 8192 % 4))) back ∙ ap (λ (n : ℕ). is_multicast (type_of n)) (type_16 size 1 fits (omega arith));
    }
params_back false false size fits =
    let is : word16 (slot_params size PointToPoint) 0 ≡ size + 2048 + 8192 * 2 = omega arith in
    let back = back_16 size 2 (word16 (slot_params size PointToPoint) 0) is fits (omega arith) in
    record {
      size_is = ap (λ (n : ℕ). n % 512) back ∙ size_16 size 2 fits (omega arith);
      kind_is = ap (λ (n : ℕ). is_multicast (type_of (n / 8192 % 4))) back ∙ ap (λ (n : ℕ). is_multicast (type_of n)) (type_16 size 2 fits (omega arith));
    }

-- ---- a request as it is read

-- the request asks for the slot's path, with its sizes and its delivery
pub record AsksFor (slot : SlotConfig) (request : OpenFields) : Type 0 where
  pub path : path_reading request.path ≡ Ok (slot_path slot)
  pub o_t : request.o_t_params.size ≡ o_t_size slot
  pub t_o : request.t_o_params.size ≡ t_o_size slot
  pub multicast : is_multicast request.t_o_params.kind ≡ slot.multicast
  pub no_output : is_owner slot.kind ≡ false → slot.out_len ≡ 0

o_t_few : (slot : SlotConfig) → Lengths slot → o_t_size slot < 65536
o_t_few slot lengths = either (λ (n : ℕ). n < 65536) (is_owner slot.kind) (slot.out_len + 6) 2 (omega (arith, lengths.output)) (omega arith)

asks_back : PathReadsBack → (large : Bool) (profile : ScannerProfile) (slot : SlotConfig) (requested : Requested) → is_large slot ≡ large → HasPath slot → Lengths slot → AsksFor slot (read_back large (open_fields profile slot requested))
asks_back reads true profile slot requested is has lengths =
    let o_t = params_back true false (o_t_size slot) (o_t_few slot lengths) in
    let t_o = params_back true slot.multicast (t_o_size slot) (omega (arith, lengths.input)) in
    record { path = reads (slot_path slot) (path_fits slot has lengths); o_t = o_t.size_is; t_o = t_o.size_is; multicast = t_o.kind_is; no_output = lengths.no_output }
asks_back reads false profile slot requested is has lengths =
    let sizes = or_parts (nat_lt 511 (o_t_size slot)) (nat_lt 511 (t_o_size slot)) is in
    let o_t = params_back false false (o_t_size slot) (small_size (o_t_size slot) sizes.0) in
    let t_o = params_back false slot.multicast (t_o_size slot) (small_size (t_o_size slot) sizes.1) in
    record { path = reads (slot_path slot) (path_fits slot has lengths); o_t = o_t.size_is; t_o = t_o.size_is; multicast = t_o.kind_is; no_output = lengths.no_output }

-- a slot asks so, however large its request is
pub slot_asks : PathReadsBack → (profile : ScannerProfile) (slot : SlotConfig) (requested : Requested) → HasPath slot → has_lengths slot ≡ true → AsksFor slot (read_back (is_large slot) (open_fields profile slot requested))
slot_asks reads profile slot requested has is = asks_back reads (is_large slot) profile slot requested refl has (lengths_of slot is)

-- ---- a frame

-- it holds of each request to open that bytes can be read as, with the sender context of its message
abbrev pub OpeningsCome : (ℕ → OpenFields → Type 0) → List ℕ → Type 0
OpeningsCome R bytes = (request : OpenFields) → (is : IsOpening bytes request) → R is.message.context request

pub frame_comes : ItemsReadBack → (R : ℕ → OpenFields → Type 0) (sent : Sent) → HoldsAsRead (R (again w64 sent.number)) sent.request → length (message_text (sent_message sent)) ≤ 2048 → OpeningsCome R (message_text (sent_message sent))
frame_comes back R sent holds few request is =
    let same : MessageBack (sent_message sent) is.message = message_back (sent_message sent) is.message is.reads in
    let Q : OpenFields → Type 0 = R (again w64 sent.number) in
    let packet : PacketOpens Q (Ok is.packet) = subst (PacketOpens Q) (ap any_packet_reading (sym same.payload) ∙ is.packet_is) (packet_opens back Q sent sent.request refl holds few) in
    let opens : Q request = subst (RequestOpens Q) is.opens packet in
    subst (λ (context : ℕ). R context request) (sym same.context) opens
