-- What crates above rest on: the reading of bytes as the items of a connected message is the one that the relation
-- allows, and what is written is read as it was.
use Rattle.std.proofs.Common.{◌≡◌, ℕ, ◌+◌, ◌-◌, ◌<◌, ◌≤◌, Bool, true, false, leb, List, [], ◌∷◌, ◌++◌, length, get_or, take, drop, Some, None, Option, Result, Ok, Err, refl, sym, ap, subst, ◌∙◌, arith}
use Rattle.std.specs.Prelude.{◌&&◌, ◌^◌, if◌then◌else◌}
use Rattle.std.specs.List.{AllByRecursion}
use Rattle.std.proofs.lemmas.Bool.{eqb-true, leb-true, le-leb, and_parts, and_from}
use Rattle.std.proofs.lemmas.List.{take_at, drop_at, take-append-drop, length-append, length-take, append-nil}
use Rattle.cip_types.specs.Fields.{fields_text, AreFields, fields_at}
use Rattle.cip_types.specs.Texts.{Tailed}
use Rattle.cip_types.specs.FieldLaws.{IsBytes, IsBytes-drop, IsWide, wide16, wide32, fields_taken, fields_again, fields_tabulated}
use Rattle.cip_encap.specs.declared.packet.ItemFault.{ItemFault}
use Rattle.cip_encap.specs.declared.packet.ItemFault.TheVariants.{Bad}
use Rattle.cip_encap.specs.Packet.{AreSocketItems}
use Rattle.cip_encap.specs.PacketReading.{are_sockets}
use Rattle.cip_encap.specs.Connected.{ConnectedFields, connected_widths, connected_numbers, written_connected, ConnectedFits, IsConnectedText, IsConnectedReading, connected_text}
use Rattle.cip_encap.specs.ConnectedReading.{are_connected_heads, connected_parts, connected_found, connected_reading}
use Rattle.cip_encap.proofs.PacketLaws.{sockets_again, sockets_taken}

wide_connected : AllByRecursion IsWide connected_widths
wide_connected = (wide32, (wide16, (wide16, (wide16, (wide16, (wide32, (wide16, (wide16, (wide16, tt)))))))))

-- ---- items that are a text are read so

connected_are : (f : ConnectedFields) (seconds sockets : ℕ) → ConnectedFits f seconds sockets → AreFields connected_widths (connected_numbers seconds sockets f.connection f.count (length f.message))
connected_are f seconds sockets fits = (omega arith, (fits.timeout, (fits.items, (omega arith, (omega arith, (fits.connection, (omega arith, (fits.message, (fits.count, tt)))))))))

parts_again : (f : ConnectedFields) (seconds sockets : ℕ) (items : List ℕ) → AreSocketItems sockets items → connected_parts (connected_numbers seconds sockets f.connection f.count (length f.message)) (f.message ++ items) ≡ Ok f
parts_again f seconds sockets items are =
    let len : 2 + length f.message - 2 ≡ length f.message = omega arith in
    let same : 2 + sockets - 2 ≡ sockets = omega arith in
    let heads : are_connected_heads 0 (2 + sockets) 0xA1 4 0xB1 (2 + length f.message) ≡ true = and_from _ _ (and_from _ _ (and_from _ _ (and_from _ _ (le-leb 2 (2 + sockets) (omega arith)) refl) refl) refl) (le-leb 2 (2 + length f.message) (omega arith)) in
    let room : leb (2 + length f.message - 2) (length (f.message ++ items)) ≡ true = le-leb _ _ (omega (arith, length-append f.message items)) in
    let behind : drop (2 + length f.message - 2) (f.message ++ items) ≡ items = drop_at f.message items (2 + length f.message - 2) (sym len) in
    let front : take (2 + length f.message - 2) (f.message ++ items) ≡ f.message = take_at f.message items (2 + length f.message - 2) (sym len) in
    let rest : are_sockets (2 + sockets - 2) (drop (2 + length f.message - 2) (f.message ++ items)) ≡ true = ap (λ (n : ℕ). are_sockets n (drop (2 + length f.message - 2) (f.message ++ items))) same ∙ ap (are_sockets sockets) behind ∙ sockets_again sockets items are in
    rw (and_from _ _ (and_from _ _ heads room) rest) (ap (λ (x : List ℕ). Ok (record { connection = f.connection; count = f.count; message = x })) front)

-- a text of the items of a message is read as that message
pub connected_reads : (t : List ℕ) (f : ConnectedFields) → IsConnectedText t f → connected_reading t ≡ Ok f
unfolding connected_reading
connected_reads t f is =
    let numbers = connected_numbers is.0 is.1 f.connection f.count (length f.message) in
    let read = ap (fields_at connected_widths) is.2.3 ∙ fields_again connected_widths wide_connected numbers (f.message ++ is.2.0) (connected_are f is.0 is.1 is.2.1) in
    ap connected_found read ∙ parts_again f is.0 is.1 is.2.0 is.2.2

-- ---- what is read as the items of a message is a text of them

abbrev answer_if : Bool → ConnectedFields → Result ConnectedFields ItemFault
answer_if b x = if b then Ok x else Err Bad

ok_is : (b : Bool) (x y : ConnectedFields) → answer_if b x ≡ Ok y → (b ≡ true) × (x ≡ y)
ok_is true x y e = (refl, cc)
ok_is false x y e = absurd cc

heads_taken : (t rest : List ℕ) (interface seconds items address address_len connection kind len count : ℕ) (f : ConnectedFields) (ns : List ℕ) → ns ≡ interface ∷ seconds ∷ items ∷ address ∷ address_len ∷ connection ∷ kind ∷ len ∷ count ∷ [] → IsBytes rest → AreFields connected_widths ns → t ≡ fields_text connected_widths ns ++ rest → connected_parts (interface ∷ seconds ∷ items ∷ address ∷ address_len ∷ connection ∷ kind ∷ len ∷ count ∷ []) rest ≡ Ok f → IsConnectedText t f
heads_taken t rest interface seconds items address address_len connection kind len count f ns same fits are parts e =
    let g = ok_is (are_connected_heads interface items address address_len kind len && leb (len - 2) (length rest) && are_sockets (items - 2) (drop (len - 2) rest)) (record { connection = connection; count = count; message = take (len - 2) rest }) f e in
    let a = and_parts _ _ g.0 in
    let b = and_parts _ _ a.0 in
    let h5 = and_parts _ _ b.0 in
    let h4 = and_parts _ _ h5.0 in
    let h3 = and_parts _ _ h4.0 in
    let h2 = and_parts _ _ h3.0 in
    let h1 = and_parts _ _ h2.0 in
    let interface_is : interface ≡ 0 = eqb-true interface 0 h1.0 in
    let two : 2 ≤ items = leb-true 2 items h1.1 in
    let address_is : address ≡ 0xA1 = eqb-true address 0xA1 h2.1 in
    let address_len_is : address_len ≡ 4 = eqb-true address_len 4 h3.1 in
    let kind_right : kind ≡ 0xB1 = eqb-true kind 0xB1 h4.1 in
    let some : 2 ≤ len = leb-true 2 len h5.1 in
    let room : len - 2 ≤ length rest = leb-true (len - 2) (length rest) b.1 in
    let front_len : length (take (len - 2) rest) ≡ len - 2 = omega (arith, length-take (len - 2) rest, room) in
    let items_is : items ≡ 2 + (items - 2) = omega (arith, two) in
    let len_is : len ≡ 2 + length (take (len - 2) rest) = omega (arith, front_len, some) in
    let given : ns ≡ 0 ∷ seconds ∷ items ∷ 0xA1 ∷ 4 ∷ connection ∷ 0xB1 ∷ len ∷ count ∷ [] = cc in
    let own = subst (AreFields connected_widths) given are in
    let within : ConnectedFits (record { connection = connection; count = count; message = take (len - 2) rest }) seconds (items - 2) = record { timeout = own.1.0; items = omega (arith, own.1.1.0, two); connection = own.1.1.1.1.1.0; count = own.1.1.1.1.1.1.1.1.0; message = omega (arith, own.1.1.1.1.1.1.1.0, front_len, some) } in
    let numbers : ns ≡ connected_numbers seconds (items - 2) connection count (length (take (len - 2) rest)) = given ∙ ap (λ (n : ℕ). 0 ∷ seconds ∷ n ∷ 0xA1 ∷ 4 ∷ connection ∷ 0xB1 ∷ len ∷ count ∷ []) items_is ∙ ap (λ (n : ℕ). 0 ∷ seconds ∷ (2 + (items - 2)) ∷ 0xA1 ∷ 4 ∷ connection ∷ 0xB1 ∷ n ∷ count ∷ []) len_is in
    let whole = parts ∙ ap (λ (x : List ℕ). fields_text connected_widths x ++ rest) numbers ∙ ap (λ (x : List ℕ). fields_text connected_widths (connected_numbers seconds (items - 2) connection count (length (take (len - 2) rest))) ++ x) (sym (take-append-drop (len - 2) rest)) in
    subst (IsConnectedText t) g.1 (seconds, items - 2, (drop (len - 2) rest, within, sockets_taken (items - 2) (drop (len - 2) rest) (IsBytes-drop (len - 2) rest fits) a.1, whole))

connected_taken_by : (t : List ℕ) (f : ConnectedFields) (found : Option Tailed) → IsBytes t → fields_at connected_widths t ≡ found → connected_found found ≡ Ok f → IsConnectedText t f
connected_taken_by t f None fits e h = absurd cc
connected_taken_by t f (Some q) fits e h =
    let taken = fields_taken connected_widths wide_connected t q.0 q.1 fits e in
    let same = fields_tabulated connected_widths 9 q.0 refl taken.1 in
    heads_taken t q.1 (get_or q.0 0 0) (get_or q.0 1 0) (get_or q.0 2 0) (get_or q.0 3 0) (get_or q.0 4 0) (get_or q.0 5 0) (get_or q.0 6 0) (get_or q.0 7 0) (get_or q.0 8 0) f q.0 (sym same) taken.0.rest_fits taken.1 taken.0.parts (ap (λ (x : List ℕ). connected_parts x q.1) same ∙ h)

connected_taken : (t : List ℕ) (f : ConnectedFields) → IsBytes t → connected_reading t ≡ Ok f → IsConnectedText t f
unfolding connected_reading
connected_taken t f fits e = connected_taken_by t f (fields_at connected_widths t) fits refl e

-- ---- the reading is one, and there is no other

reading_by : (t : List ℕ) (r : Result ConnectedFields ItemFault) → IsBytes t → connected_reading t ≡ r → IsConnectedReading t r
reading_by t (Ok f) fits e = connected_taken t f fits e
reading_by t (Err Bad) fits e = λ f is. let two : Ok f ≡ Err Bad = sym (connected_reads t f is) ∙ e in absurd cc

-- the reading of bytes is one
pub connected_reading_is : (t : List ℕ) → IsBytes t → IsConnectedReading t (connected_reading t)
connected_reading_is t fits = reading_by t (connected_reading t) fits refl

one_reading : (t : List ℕ) (r r' : Result ConnectedFields ItemFault) → IsBytes t → connected_reading t ≡ r → IsConnectedReading t r' → r ≡ r'
one_reading t r (Ok f) fits e is = sym e ∙ connected_reads t f is
one_reading t (Ok f) (Err Bad) fits e is = absurd (is f (connected_taken t f fits e))
one_reading t (Err Bad) (Err Bad) fits e is = refl

-- whatever the bytes may be read as, the function gives
pub one_connected_reading : (t : List ℕ) → IsBytes t → (r : Result ConnectedFields ItemFault) → IsConnectedReading t r → connected_reading t ≡ r
one_connected_reading t fits r is = one_reading t (connected_reading t) r fits refl is

-- ---- what is written is read as it was

-- the text that is written is one of the message
connected_text_is : (connection count : ℕ) (message : List ℕ) → connection < 2 ^ 32 → count < 2 ^ 16 → length message ≤ 65533 → IsConnectedText (connected_text connection count message) (record { connection = connection; count = count; message = message })
connected_text_is connection count message id number short =
    let fits : ConnectedFits (record { connection = connection; count = count; message = message }) 0 0 = record { timeout = omega arith; items = omega arith; connection = id; count = number; message = omega (arith, short) } in
    (0, 0, ([], fits, refl, ap (λ (x : List ℕ). fields_text connected_widths (written_connected connection count (length message)) ++ x) (sym (append-nil message))))

-- and is read so
pub connected_text_reads : (connection count : ℕ) (message : List ℕ) → connection < 2 ^ 32 → count < 2 ^ 16 → length message ≤ 65533 → connected_reading (connected_text connection count message) ≡ Ok (record { connection = connection; count = count; message = message })
connected_text_reads connection count message id number short = connected_reads (connected_text connection count message) (record { connection = connection; count = count; message = message }) (connected_text_is connection count message id number short)
