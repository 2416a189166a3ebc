-- What crates above rest on: the reading of bytes as items is the one that the relation allows, and what is
-- written is read as it was.
use Rattle.std.proofs.Common.{◌≡◌, ℕ, zero, suc, ◌+◌, ◌-◌, ◌<◌, ◌≤◌, Bool, true, false, eqb, leb, List, [], ◌∷◌, ◌++◌, length, get_or, take, drop, Some, None, Option, Result, Ok, Err, refl, sym, ap, subst, ◌∙◌, arith, inl, inr, ◌⊎◌}
use Rattle.std.specs.Prelude.{◌||◌, ◌&&◌, if◌then◌else◌}
use Rattle.std.specs.List.{AllByRecursion}
use Rattle.std.proofs.lemmas.Bool.{eqb-true, eq-eqb, leb-true, le-leb, and_parts, and_from, false≢true}
use Rattle.std.proofs.lemmas.List.{take_at, drop_at, take-append-drop, length-append, length-take, append-nil}
use Rattle.cip_types.specs.Fields.{fields_text, AreFields, fields_at}
use Rattle.cip_types.specs.Texts.{Tailed}
use Rattle.cip_types.specs.FieldLaws.{IsBytes, IsBytes-drop, IsWide, wide16, wide32, fields_taken, fields_again, fields_tabulated, inside}
use Rattle.cip_encap.specs.declared.packet.ItemFault.{ItemFault}
use Rattle.cip_encap.specs.declared.packet.ItemFault.TheVariants.{Bad}
use Rattle.cip_encap.specs.declared.packet.SocketAddress.{SocketAddress}
use Rattle.cip_encap.specs.Packet.{PacketFields, packet_widths, packet_numbers, IsSocketKind, socket_item, AreSocketItems, PacketFits, IsPacketText, IsPacketReading, address_bytes, socket_count, socket_items, packet_text}
use Rattle.cip_encap.specs.PacketReading.{socket_widths, is_socket, socket_parts, socket_found, behind_socket, passes, are_sockets, are_heads, parts_reading, found_reading, packet_reading}

wide_socket : AllByRecursion IsWide socket_widths
wide_socket = (wide16, (wide16, tt))

wide_packet : AllByRecursion IsWide packet_widths
wide_packet = (wide32, (wide16, (wide16, (wide16, (wide16, (wide16, (wide16, tt)))))))

-- ---- one socket address item

or_left : (a b : Bool) → a ≡ true → (a || b) ≡ true
or_left true b e = refl
or_left false b e = absurd (false≢true e)

or_right : (a b : Bool) → b ≡ true → (a || b) ≡ true
or_right true b e = refl
or_right false b e = e

or_either : (a b : Bool) → (a || b) ≡ true → (a ≡ true) ⊎ (b ≡ true)
or_either true b e = inl refl
or_either false b e = inr e

kind_passes : (kind : ℕ) → IsSocketKind kind → (eqb kind 0x8000 || eqb kind 0x8001) ≡ true
kind_passes kind (inl is) = or_left _ _ (eq-eqb kind 0x8000 is)
kind_passes kind (inr is) = or_right _ _ (eq-eqb kind 0x8001 is)

kind_is : (kind : ℕ) → (eqb kind 0x8000) ≡ true ⊎ (eqb kind 0x8001) ≡ true → IsSocketKind kind
kind_is kind (inl e) = inl (eqb-true kind 0x8000 e)
kind_is kind (inr e) = inr (eqb-true kind 0x8001 e)

kind_small : (kind : ℕ) → IsSocketKind kind → kind < 65536
kind_small kind (inl is) = omega (arith, is)
kind_small kind (inr is) = omega (arith, is)

socket_again : (kind : ℕ) (address rest : List ℕ) → IsSocketKind kind → length address ≡ 16 → behind_socket (socket_item kind address ++ rest) ≡ Some rest
unfolding behind_socket
socket_again kind address rest is len =
    let fields : AreFields socket_widths (kind ∷ 16 ∷ []) = (kind_small kind is, (omega arith, tt)) in
    let read = fields_again socket_widths wide_socket (kind ∷ 16 ∷ []) (address ++ rest) fields in
    let room : leb 16 (length (address ++ rest)) ≡ true = le-leb _ _ (omega (arith, length-append address rest, len)) in
    let right : is_socket kind 16 (address ++ rest) ≡ true = and_from _ _ (and_from _ _ (kind_passes kind is) refl) room in
    ap socket_found read ∙ rw right (ap Some (drop_at address rest 16 len))

-- what is taken as a socket address item is one
record TakesSocket (bs rest : List ℕ) : Type 0 where
  kind : ℕ
  address : List ℕ
  is : IsSocketKind kind
  len : length address ≡ 16
  parts : bs ≡ socket_item kind address ++ rest
  fits : IsBytes rest

some_is : (b : Bool) (x y : List ℕ) → (if b then Some x else None) ≡ Some y → (b ≡ true) × (x ≡ y)
some_is true x y e = (refl, inside x y e)
some_is false x y e = absurd cc

kind_taken : (bs after rest : List ℕ) (kind len : ℕ) → IsBytes after → bs ≡ fields_text socket_widths (kind ∷ len ∷ []) ++ after → socket_parts (kind ∷ len ∷ []) after ≡ Some rest → TakesSocket bs rest
kind_taken bs after rest kind len fits parts e =
    let g = some_is (is_socket kind len after) (drop 16 after) rest e in
    let h = and_parts _ _ g.0 in
    let k = and_parts _ _ h.0 in
    let room : 16 ≤ length after = leb-true 16 (length after) h.1 in
    let len_is : len ≡ 16 = eqb-true len 16 k.1 in
    record {
      kind = kind;
      address = take 16 after;
      is = kind_is kind (or_either _ _ k.0);
      len = omega (arith, length-take 16 after, room);
      parts = parts ∙ ap (λ (n : ℕ). fields_text socket_widths (kind ∷ n ∷ []) ++ after) len_is ∙ ap (λ (x : List ℕ). fields_text socket_widths (kind ∷ 16 ∷ []) ++ x) (sym (take-append-drop 16 after)) ∙ ap (λ (x : List ℕ). socket_item kind (take 16 after) ++ x) g.1;
      fits = subst IsBytes g.1 (IsBytes-drop 16 after fits);
    }

found_taken : (bs rest : List ℕ) (found : Option Tailed) → IsBytes bs → fields_at socket_widths bs ≡ found → socket_found found ≡ Some rest → TakesSocket bs rest
found_taken bs rest None fits e f = absurd cc
found_taken bs rest (Some p) fits e f =
    let taken = fields_taken socket_widths wide_socket bs p.0 p.1 fits e in
    let back = sym (fields_tabulated socket_widths 2 p.0 refl taken.1) in
    kind_taken bs p.1 rest (get_or p.0 0 0) (get_or p.0 1 0) taken.0.rest_fits (taken.0.parts ∙ ap (λ (x : List ℕ). fields_text socket_widths x ++ p.1) back) (ap (λ (x : List ℕ). socket_parts x p.1) (sym back) ∙ f)

socket_taken : (bs rest : List ℕ) → IsBytes bs → behind_socket bs ≡ Some rest → TakesSocket bs rest
unfolding behind_socket
socket_taken bs rest fits e = found_taken bs rest (fields_at socket_widths bs) fits refl e

-- ---- all of them

nil_if : (xs : List ℕ) → length xs ≡ 0 → xs ≡ []
nil_if [] e = refl
nil_if (x ∷ xs) e = absurd (omega (arith, e))

passes_some : (test : List ℕ → Bool) (r : Option (List ℕ)) → passes test r ≡ true → (x : List ℕ) × (r ≡ Some x) × (test x ≡ true)
passes_some test None e = absurd (false≢true e)
passes_some test (Some x) e = (x, refl, e)

pub sockets_again : (n : ℕ) (text : List ℕ) → AreSocketItems n text → are_sockets n text ≡ true
unfolding are_sockets
sockets_again zero text e = eq-eqb (length text) 0 (ap length e)
sockets_again (suc n) text s =
    ap (λ (x : List ℕ). passes (are_sockets n) (behind_socket x)) s.1.4 ∙ ap (passes (are_sockets n)) (socket_again s.0 s.1.0 s.1.1 s.1.2 s.1.3) ∙ sockets_again n s.1.1 s.1.5

pub sockets_taken : (n : ℕ) (bs : List ℕ) → IsBytes bs → are_sockets n bs ≡ true → AreSocketItems n bs
unfolding are_sockets
sockets_taken zero bs fits e = nil_if bs (eqb-true (length bs) 0 e)
sockets_taken (suc n) bs fits e =
    let found = passes_some (are_sockets n) (behind_socket bs) e in
    let taken = socket_taken bs found.0 fits found.1 in
    (taken.kind, (taken.address, found.0, taken.is, taken.len, taken.parts, sockets_taken n found.0 taken.fits found.2))

-- ---- a walk over them

next_count : (n i : ℕ) → i < n → n - i ≡ suc (n - (i + 1))
next_count n i lt = omega (arith, lt)

pub sockets_more : (n i : ℕ) (bs after : List ℕ) → i < n → behind_socket bs ≡ Some after → are_sockets (n - i) bs ≡ are_sockets (n - (i + 1)) after
unfolding are_sockets
sockets_more n i bs after lt e = ap (λ (k : ℕ). are_sockets k bs) (next_count n i lt) ∙ ap (passes (are_sockets (n - (i + 1)))) e

pub sockets_stop : (n i : ℕ) (bs : List ℕ) → i < n → behind_socket bs ≡ None → are_sockets (n - i) bs ≡ false
unfolding are_sockets
sockets_stop n i bs lt e = ap (λ (k : ℕ). are_sockets k bs) (next_count n i lt) ∙ ap (passes (are_sockets (n - (i + 1)))) e

pub sockets_end : (n i : ℕ) (bs : List ℕ) → n ≤ i → are_sockets (n - i) bs ≡ eqb (length bs) 0
unfolding are_sockets
sockets_end n i bs le = let none : n - i ≡ 0 = omega (arith, le) in ap (λ (k : ℕ). are_sockets k bs) none

-- ---- items that are a text are read so

packet_fields : (p : PacketFields) (sockets : ℕ) → PacketFits p sockets → AreFields packet_widths (packet_numbers p sockets)
packet_fields p sockets fits = (omega arith, (fits.timeout, (fits.count, (omega arith, (omega arith, (omega arith, (fits.payload, tt)))))))

packet_parts : (p : PacketFields) (sockets : ℕ) (items : List ℕ) → PacketFits p sockets → AreSocketItems sockets items → parts_reading (packet_numbers p sockets) (p.payload ++ items) ≡ Ok p
packet_parts p sockets items fits are =
    let len = length p.payload in
    let same : 2 + sockets - 2 ≡ sockets = omega arith in
    let heads : are_heads 0 (2 + sockets) 0 0 0xB2 (length p.payload) ≡ true = and_from _ _ (and_from _ _ (and_from _ _ (and_from _ _ (le-leb 2 (2 + sockets) (omega arith)) refl) refl) refl) (le-leb 1 (length p.payload) fits.some) in
    let room : leb (length p.payload) (length (p.payload ++ items)) ≡ true = le-leb _ _ (omega (arith, length-append p.payload items)) in
    let behind : drop (length p.payload) (p.payload ++ items) ≡ items = drop_at p.payload items (length p.payload) refl in
    let front : take (length p.payload) (p.payload ++ items) ≡ p.payload = take_at p.payload items (length p.payload) refl in
    let rest : are_sockets (2 + sockets - 2) (drop (length p.payload) (p.payload ++ items)) ≡ true = ap (λ (n : ℕ). are_sockets n (drop (length p.payload) (p.payload ++ items))) same ∙ ap (are_sockets sockets) behind ∙ sockets_again sockets items are in
    rw (and_from _ _ (and_from _ _ heads room) rest) (ap (λ (x : List ℕ). Ok (record { timeout = p.timeout; payload = x })) front)

-- a text of items is read as those items
pub packet_reads : (t : List ℕ) (p : PacketFields) → IsPacketText t p → packet_reading t ≡ Ok p
unfolding packet_reading
packet_reads t p is =
    let read = ap (fields_at packet_widths) is.1.3 ∙ fields_again packet_widths wide_packet (packet_numbers p is.0) (p.payload ++ is.1.0) (packet_fields p is.0 is.1.1) in
    ap found_reading read ∙ packet_parts p is.0 is.1.0 is.1.1 is.1.2

-- ---- what is read as items is a text of them

abbrev answer_if : Bool → PacketFields → Result PacketFields ItemFault
answer_if b x = if b then Ok x else Err Bad

ok_is : (b : Bool) (x y : PacketFields) → answer_if b x ≡ Ok y → (b ≡ true) × (x ≡ y)
ok_is true x y e = (refl, cc)
ok_is false x y e = absurd cc

heads_taken : (t rest : List ℕ) (interface timeout count address address_len kind len : ℕ) (p : PacketFields) (ns : List ℕ) → ns ≡ interface ∷ timeout ∷ count ∷ address ∷ address_len ∷ kind ∷ len ∷ [] → IsBytes rest → AreFields packet_widths ns → t ≡ fields_text packet_widths ns ++ rest → parts_reading (interface ∷ timeout ∷ count ∷ address ∷ address_len ∷ kind ∷ len ∷ []) rest ≡ Ok p → IsPacketText t p
heads_taken t rest interface timeout count address address_len kind len p ns same fits are parts e =
    let g = ok_is (are_heads interface count address address_len kind len && leb len (length rest) && are_sockets (count - 2) (drop len rest)) (record { timeout = timeout; payload = take len rest }) p e in
    let a = and_parts _ _ g.0 in
    let b = and_parts _ _ a.0 in
    let h5 = and_parts _ _ b.0 in
    let h4 = and_parts _ _ h5.0 in
    let h3 = and_parts _ _ h4.0 in
    let h2 = and_parts _ _ h3.0 in
    let h1 = and_parts _ _ h2.0 in
    let interface_is : interface ≡ 0 = eqb-true interface 0 h1.0 in
    let two : 2 ≤ count = leb-true 2 count h1.1 in
    let address_is : address ≡ 0 = eqb-true address 0 h2.1 in
    let address_len_is : address_len ≡ 0 = eqb-true address_len 0 h3.1 in
    let kind_right : kind ≡ 0xB2 = eqb-true kind 0xB2 h4.1 in
    let some : 1 ≤ len = leb-true 1 len h5.1 in
    let room : len ≤ length rest = leb-true len (length rest) b.1 in
    let front_len : length (take len rest) ≡ len = omega (arith, length-take len rest, room) in
    let count_is : count ≡ 2 + (count - 2) = omega (arith, two) in
    let len_is : len ≡ length (take len rest) = sym front_len in
    let q : PacketFields = record { timeout = timeout; payload = take len rest } in
    let given : ns ≡ 0 ∷ timeout ∷ count ∷ 0 ∷ 0 ∷ 0xB2 ∷ len ∷ [] = cc in
    let own = subst (AreFields packet_widths) given are in
    let packet_fits : PacketFits (record { timeout = timeout; payload = take len rest }) (count - 2) = record { timeout = own.1.0; count = omega (arith, own.1.1.0, two); some = omega (arith, some, front_len); payload = omega (arith, own.1.1.1.1.1.1.0, front_len) } in
    let numbers : ns ≡ packet_numbers (record { timeout = timeout; payload = take len rest }) (count - 2) = given ∙ ap (λ (n : ℕ). 0 ∷ timeout ∷ n ∷ 0 ∷ 0 ∷ 0xB2 ∷ len ∷ []) count_is ∙ ap (λ (n : ℕ). 0 ∷ timeout ∷ (2 + (count - 2)) ∷ 0 ∷ 0 ∷ 0xB2 ∷ n ∷ []) len_is in
    let whole = parts ∙ ap (λ (x : List ℕ). fields_text packet_widths x ++ rest) numbers ∙ ap (λ (x : List ℕ). fields_text packet_widths (packet_numbers (record { timeout = timeout; payload = take len rest }) (count - 2)) ++ x) (sym (take-append-drop len rest)) in
    subst (IsPacketText t) g.1 (count - 2, (drop len rest, packet_fits, sockets_taken (count - 2) (drop len rest) (IsBytes-drop len rest fits) a.1, whole))

packet_found : (t : List ℕ) (p : PacketFields) (found : Option Tailed) → IsBytes t → fields_at packet_widths t ≡ found → found_reading found ≡ Ok p → IsPacketText t p
packet_found t p None fits e f = absurd cc
packet_found t p (Some q) fits e f =
    let taken = fields_taken packet_widths wide_packet t q.0 q.1 fits e in
    let same = fields_tabulated packet_widths 7 q.0 refl taken.1 in
    heads_taken t q.1 (get_or q.0 0 0) (get_or q.0 1 0) (get_or q.0 2 0) (get_or q.0 3 0) (get_or q.0 4 0) (get_or q.0 5 0) (get_or q.0 6 0) p q.0 (sym same) taken.0.rest_fits taken.1 taken.0.parts (ap (λ (x : List ℕ). parts_reading x q.1) same ∙ f)

packet_taken : (t : List ℕ) (p : PacketFields) → IsBytes t → packet_reading t ≡ Ok p → IsPacketText t p
unfolding packet_reading
packet_taken t p fits e = packet_found t p (fields_at packet_widths t) fits refl e

-- ---- the reading is one, and there is no other

reading_by : (t : List ℕ) (r : Result PacketFields ItemFault) → IsBytes t → packet_reading t ≡ r → IsPacketReading t r
reading_by t (Ok p) fits e = packet_taken t p fits e
reading_by t (Err Bad) fits e = λ p is. let two : Ok p ≡ Err Bad = sym (packet_reads t p is) ∙ e in absurd cc

-- the reading of bytes is one
pub packet_reading_is : (t : List ℕ) → IsBytes t → IsPacketReading t (packet_reading t)
packet_reading_is t fits = reading_by t (packet_reading t) fits refl

one_reading : (t : List ℕ) (r r' : Result PacketFields ItemFault) → IsBytes t → packet_reading t ≡ r → IsPacketReading t r' → r ≡ r'
one_reading t r (Ok p) fits e is = sym e ∙ packet_reads t p is
one_reading t (Ok p) (Err Bad) fits e is = absurd (is p (packet_taken t p fits e))
one_reading t (Err Bad) (Err Bad) fits e is = refl

-- whatever the bytes may be read as, the function gives
pub one_packet_reading : (t : List ℕ) → IsBytes t → (r : Result PacketFields ItemFault) → IsPacketReading t r → packet_reading t ≡ r
one_packet_reading t fits r is = one_reading t (packet_reading t) r fits refl is

-- ---- what is written is read as it was

socket_items_are : (socket : Option SocketAddress) → AreSocketItems (socket_count socket) (socket_items socket)
socket_items_are None = refl
socket_items_are (Some s) = (0x8001, (address_bytes s, [], inr refl, refl, sym (append-nil (socket_item 0x8001 (address_bytes s))), refl))

few : (socket : Option SocketAddress) → 2 + socket_count socket < 65536
few None = omega arith
few (Some s) = omega arith

-- the text that is written is one of the data with timeout 0
pub packet_text_is : (payload : List ℕ) (socket : Option SocketAddress) → 1 ≤ length payload → length payload ≤ 65535 → IsPacketText (packet_text payload socket) (record { timeout = 0; payload = payload })
packet_text_is payload socket some short =
    let fits : PacketFits (record { timeout = 0; payload = payload }) (socket_count socket) = record { timeout = omega arith; count = few socket; some = some; payload = omega (arith, short) } in
    (socket_count socket, (socket_items socket, fits, socket_items_are socket, refl))

-- and is read so
pub packet_text_reads : (payload : List ℕ) (socket : Option SocketAddress) → 1 ≤ length payload → length payload ≤ 65535 → packet_reading (packet_text payload socket) ≡ Ok (record { timeout = 0; payload = payload })
packet_text_reads payload socket some short = packet_reads (packet_text payload socket) (record { timeout = 0; payload = payload }) (packet_text_is payload socket some short)
