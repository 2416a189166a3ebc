-- A path in any form is read segment by segment. What the compressed form with a key of format 4 says is read as the same, and names no
-- serial number.
use Rattle.std.proofs.Common.{◌≡◌, ℕ, zero, suc, ◌<◌, ◌≤◌, Bool, true, false, List, [], ◌∷◌, length, Option, Some, None, Result, Ok, Err, refl, sym, ap, subst, ◌∙◌, arith}
use Rattle.std.specs.Prelude.{◌==◌, ◌&&◌, if◌then◌else◌}
use Rattle.std.specs.Int.{w32, to_le_bytes}
use Rattle.std.proofs.lemmas.Bool.{eqb-true, and_parts}
use Rattle.std.proofs.lemmas.List.{length-append}
use Rattle.cip_types.specs.FieldLaws.{IsBytes, wide32}
use Rattle.cip_epath.specs.declared.fault.PathFault.{PathFault}
use Rattle.cip_epath.specs.declared.fault.PathFault.TheVariants as fault
use Rattle.cip_epath.specs.ElectronicKey.{KeyFields}
use Rattle.cip_epath.specs.Segment.{SegmentValue, key, inhibit}
use Rattle.cip_epath.specs.Path.{PathFields, arrangement, roles}
use Rattle.cip_epath.specs.Reading.{◌>>=◌, number_at, key_fields_at, key_at, segment_at, segments_at, reading_by, arranged_path, path_reading}
use Rattle.cip_epath.specs.MessagePath.{arranged_message, message_path_reading}
use Rattle.cip_epath.specs.AnyPath.{behind_format_5, serial_key_at, segment_or_key, any_segment_at, any_segments_at, any_reading_by, with_any_key, with_any_inhibits, arranged_any_path, any_path_reading, any_message_reading, serial_behind, key_serial}
use Rattle.cip_epath.specs.Laws.Numbers.{IsBytes-rest, gives, bind_ok, ok_is, number_takes, byte_again}
use Rattle.cip_epath.specs.Laws.Segments.{at_key, at_inhibit}
use Rattle.cip_epath.specs.Laws.Taken.{segment_taken, key_rest, key_fields_taken}
use Rattle.cip_epath.specs.Laws.Cuts.{behind, segment_shrinks}
use Rattle.cip_epath.specs.Laws.Arrangements.{path_arranges}
use Rattle.std.specs.Prelude.{option_to_list}

-- ---- one segment

-- the bytes behind a segment are bytes, and fewer
pub record IsBehind (bs rest : List ℕ) : Type 0 where
  pub fits : IsBytes rest
  pub shorter : length rest < length bs

chosen : (b : Bool) (x y : List ℕ) → (if b then Some x else None) ≡ Some y → (b ≡ true) × (x ≡ y)
chosen true x y e = (refl, cc)
chosen false x y e = absurd cc

two_are : (a b : ℕ) (x y : List ℕ) → a ≡ 0x34 → b ≡ 5 → x ≡ y → a ∷ b ∷ x ≡ 0x34 ∷ 5 ∷ y
two_are a b x y p q r = cc

-- a key of format 5 begins so
pub format_5_is : (bs fields : List ℕ) → behind_format_5 bs ≡ Some fields → bs ≡ 0x34 ∷ 5 ∷ fields
format_5_is [] fields e = absurd cc
format_5_is (a ∷ []) fields e = absurd cc
format_5_is (a ∷ b ∷ bs) fields e =
    let g = chosen (a == 0x34 && b == 5) bs fields e in
    let h = and_parts _ _ g.0 in
    two_are a b bs fields (eqb-true a 0x34 h.0) (eqb-true b 5 h.1) g.1

-- what is no key of format 5 is read as in the compressed form
pub plain_segment : (bs : List ℕ) → behind_format_5 bs ≡ None → any_segment_at bs ≡ segment_at bs
unfolding any_segment_at
plain_segment bs e = ap (segment_or_key bs) e

key_5_stops : (fields : List ℕ) → key_at (5 ∷ fields) ≡ Err fault.KeyFormat
unfolding key_at
key_5_stops fields = rw byte_again refl

abbrev keyed_segment : Result (KeyFields × List ℕ) PathFault → Result (SegmentValue × List ℕ) PathFault
keyed_segment r = r >>= λ k. Ok (key k.0, k.1)

-- in the compressed form such a key is refused
pub format_5_stops : (bs fields : List ℕ) → behind_format_5 bs ≡ Some fields → segment_at bs ≡ Err fault.KeyFormat
format_5_stops bs fields e = ap segment_at (format_5_is bs fields e) ∙ at_key (5 ∷ fields) ∙ ap keyed_segment (key_5_stops fields)

fields_behind : (fields : List ℕ) (k : (KeyFields × ℕ) × List ℕ) → IsBytes fields → serial_key_at fields ≡ Ok k → IsBytes k.1 × (length k.1 ≤ length fields)
unfolding serial_key_at
fields_behind fields k fits e =
    let a = bind_ok (key_fields_at fields) (λ f. number_at w32 f.1 >>= λ serial. gives (f.0, serial.0) serial.1) k e in
    let n = bind_ok (number_at w32 a.0.1) (λ serial. gives (a.0.0, serial.0) serial.1) k a.2 in
    let t = key_fields_taken fields a.0.0 a.0.1 fits a.1 in
    let m = number_takes w32 wide32 a.0.1 n.0.0 n.0.1 t.1.rest_fits n.1 in
    let is : n.0.1 ≡ k.1 = ap (λ (x : (KeyFields × ℕ) × List ℕ). x.1) (ok_is ((a.0.0, n.0.0), n.0.1) k n.2) in
    let first = ap length t.1.parts ∙ length-append (key_rest a.0.0) a.0.1 in
    let second = ap length m.0.parts ∙ length-append (to_le_bytes w32 n.0.0) n.0.1 in
    (subst IsBytes is m.0.rest_fits, omega (arith, first, second, ap length is))

format_5_behind : (bs fields : List ℕ) (s : SegmentValue) (rest : List ℕ) → IsBytes bs → behind_format_5 bs ≡ Some fields → segment_or_key bs (Some fields) ≡ Ok (s, rest) → IsBehind bs rest
format_5_behind bs fields s rest fits is e =
    let parts = format_5_is bs fields is in
    let fits' : IsBytes fields = IsBytes-rest 5 fields (IsBytes-rest 0x34 (5 ∷ fields) (subst IsBytes parts fits)) in
    let a = bind_ok (serial_key_at fields) (λ k. gives (key k.0.0) k.1) (s, rest) e in
    let behind = fields_behind fields a.0 fits' a.1 in
    let same : a.0.1 ≡ rest = ap (λ (x : SegmentValue × List ℕ). x.1) (ok_is (key a.0.0.0, a.0.1) (s, rest) a.2) in
    record { fits = subst IsBytes same behind.0; shorter = omega (arith, ap length parts, behind.1, ap length same) }

segment_behind : (bs : List ℕ) (o : Option (List ℕ)) (s : SegmentValue) (rest : List ℕ) → IsBytes bs → behind_format_5 bs ≡ o → segment_or_key bs o ≡ Ok (s, rest) → IsBehind bs rest
segment_behind bs None s rest fits is e = record { fits = (segment_taken bs s rest fits e).taken.rest_fits; shorter = segment_shrinks bs s rest fits e }
segment_behind bs (Some fields) s rest fits is e = format_5_behind bs fields s rest fits is e

-- the bytes behind the segment that is read
pub any_behind : (bs : List ℕ) (s : SegmentValue) (rest : List ℕ) → IsBytes bs → any_segment_at bs ≡ Ok (s, rest) → IsBehind bs rest
unfolding any_segment_at
any_behind bs s rest fits e = segment_behind bs (behind_format_5 bs) s rest fits refl e

-- a segment that is read in the compressed form is read as the same
same_segment_by : (bs : List ℕ) (o : Option (List ℕ)) (x : SegmentValue × List ℕ) → behind_format_5 bs ≡ o → segment_at bs ≡ Ok x → segment_or_key bs o ≡ Ok x
same_segment_by bs None x is e = e
same_segment_by bs (Some fields) x is e = absurd (let stops = format_5_stops bs fields is in cc)

same_segment : (bs : List ℕ) (x : SegmentValue × List ℕ) → segment_at bs ≡ Ok x → any_segment_at bs ≡ Ok x
unfolding any_segment_at
same_segment bs x e = same_segment_by bs (behind_format_5 bs) x refl e

-- ---- one step of the reading

pub any_at_end : (most : ℕ) → any_segments_at most [] ≡ Ok []
unfolding any_segments_at
any_at_end zero = refl
any_at_end (suc most) = refl

no_segment : {P : Type 0} (s : SegmentValue) (rest : List ℕ) → any_segment_at [] ≡ Ok (s, rest) → P
unfolding any_segment_at segment_at
no_segment s rest e = absurd cc

pub any_at_segment : (most : ℕ) (t : List ℕ) (s : SegmentValue) (rest : List ℕ) → any_segment_at t ≡ Ok (s, rest) → any_segments_at (suc most) t ≡ behind s (any_segments_at most rest)
unfolding any_segments_at
any_at_segment most [] s rest e = no_segment s rest e
any_at_segment most (b ∷ t) s rest e = rw e refl

pub any_at_fault : (most : ℕ) (t : List ℕ) (f : PathFault) → 0 < length t → any_segment_at t ≡ Err f → any_segments_at (suc most) t ≡ Err f
unfolding any_segments_at
any_at_fault most [] f some e = absurd (omega arith)
any_at_fault most (b ∷ t) f some e = rw e refl

-- as many steps as there are bytes are enough
pub any_enough : (m n : ℕ) (t : List ℕ) → IsBytes t → length t ≤ m → length t ≤ n → any_segments_at m t ≡ any_segments_at n t
any_enough m n [] fits le le' = any_at_end m ∙ sym (any_at_end n)
any_enough zero n (b ∷ t) fits le le' = absurd (omega arith)
any_enough (suc m) zero (b ∷ t) fits le le' = absurd (omega arith)
any_enough (suc m) (suc n) (b ∷ t) fits le le' = step (any_segment_at (b ∷ t)) refl (λ rest. any_enough m n rest)
  where
    step : (r : Result (SegmentValue × List ℕ) PathFault) → any_segment_at (b ∷ t) ≡ r → ((rest : List ℕ) → IsBytes rest → length rest ≤ m → length rest ≤ n → any_segments_at m rest ≡ any_segments_at n rest)
        → any_segments_at (suc m) (b ∷ t) ≡ any_segments_at (suc n) (b ∷ t)
    step (Ok x) e others =
        let k = any_behind (b ∷ t) x.0 x.1 fits e in
        any_at_segment m (b ∷ t) x.0 x.1 e ∙ ap (behind x.0) (others x.1 k.fits (omega (arith, k.shorter)) (omega (arith, k.shorter))) ∙ sym (any_at_segment n (b ∷ t) x.0 x.1 e)
    step (Err f) e others = any_at_fault m (b ∷ t) f (omega arith) e ∙ sym (any_at_fault n (b ∷ t) f (omega arith) e)

-- ---- what the compressed form says

behind_made : (s : SegmentValue) (r : Result (List SegmentValue) PathFault) (segments : List SegmentValue) → behind s r ≡ Ok segments → (others : List SegmentValue) × (r ≡ Ok others) × (s ∷ others ≡ segments)
behind_made s (Ok others) segments e = (others, refl, cc)
behind_made s (Err f) segments e = absurd cc

same_segments : (most : ℕ) (t : List ℕ) (segments : List SegmentValue) → segments_at most t ≡ Ok segments → any_segments_at most t ≡ Ok segments
unfolding segments_at any_segments_at
same_segments most [] segments e = any_at_end most ∙ (sym (at_end_of most) ∙ e)
  where
    at_end_of : (n : ℕ) → segments_at n [] ≡ Ok []
    at_end_of zero = refl
    at_end_of (suc n) = refl
same_segments zero (b ∷ t) segments e = absurd cc
same_segments (suc most) (b ∷ t) segments e =
    let first = bind_ok (segment_at (b ∷ t)) (λ first. behind first.0 (segments_at most first.1)) segments e in
    let others = behind_made first.0.0 (segments_at most first.0.1) segments first.2 in
    any_at_segment most (b ∷ t) first.0.0 first.0.1 (same_segment (b ∷ t) first.0 first.1)
    ∙ ap (behind first.0.0) (same_segments most first.0.1 others.0 others.1) ∙ ap done others.2
  where
    done : List SegmentValue → Result (List SegmentValue) PathFault
    done segments = Ok segments

same_reading : {P : Type 0} (f g : List SegmentValue → Result P PathFault) (bs : List ℕ) (p : P) → ((segments : List SegmentValue) → f segments ≡ Ok p → g segments ≡ Ok p) → reading_by f bs ≡ Ok p → any_reading_by g bs ≡ Ok p
same_reading {P} f g bs p same e =
    let a = bind_ok (segments_at (length bs) bs) f p e in
    ap (then_made g) (same_segments (length bs) bs a.0 a.1) ∙ same a.0 a.2
  where
    then_made : (List SegmentValue → Result P PathFault) → Result (List SegmentValue) PathFault → Result P PathFault
    then_made h r = r >>= h

any_inhibits_make : (ms : Option ℕ) (p : PathFields) → with_any_inhibits (option_to_list ms) (arrangement p) ≡ with_any_key ms (arrangement p)
any_inhibits_make None p = refl
any_inhibits_make (Some ms) p = refl

any_key_makes : (key : Option KeyFields) (ms : Option ℕ) (c : ℕ) (config : Option ℕ) (a b : ℕ) (segment : Option (List ℕ))
    → let p : PathFields = record { key = key; inhibit = ms; class = c; config = config; consumed = a; produced = b; segment = segment } in with_any_key ms (arrangement p) ≡ Ok p
any_key_makes None ms c None a b None = refl
any_key_makes None ms c None a b (Some d) = refl
any_key_makes None ms c (Some x) a b None = refl
any_key_makes None ms c (Some x) a b (Some d) = refl
any_key_makes (Some k) ms c None a b None = refl
any_key_makes (Some k) ms c None a b (Some d) = refl
any_key_makes (Some k) ms c (Some x) a b None = refl
any_key_makes (Some k) ms c (Some x) a b (Some d) = refl

same_arranged : (p : PathFields) (segments : List SegmentValue) → arranged_path segments ≡ Ok p → arranged_any_path segments ≡ Ok p
same_arranged p segments e =
    let is = path_arranges.made segments p e in
    ap (λ (times : List ℕ). with_any_inhibits times (roles segments)) is.0 ∙ ap (with_any_inhibits (option_to_list p.inhibit)) is.1
    ∙ any_inhibits_make p.inhibit p ∙ any_key_makes p.key p.inhibit p.class p.config p.consumed p.produced p.segment

-- a path in the compressed form is read as such
pub compressed_reads : (bs : List ℕ) (p : PathFields) → path_reading bs ≡ Ok p → any_path_reading bs ≡ Ok p
unfolding path_reading any_path_reading
compressed_reads bs p e = same_reading arranged_path arranged_any_path bs p (same_arranged p) e

-- so is the path of a class 3 connection
pub plain_message_reads : (bs : List ℕ) (k : Option KeyFields) → message_path_reading bs ≡ Ok k → any_message_reading bs ≡ Ok k
unfolding message_path_reading any_message_reading
plain_message_reads bs k e = same_reading arranged_message arranged_message bs k (λ segments made. made) e

-- ---- its serial number

no_serial_by : (bs : List ℕ) (o : Option (List ℕ)) (x : SegmentValue × List ℕ) → behind_format_5 bs ≡ o → segment_at bs ≡ Ok x → serial_behind o ≡ None
no_serial_by bs None x is e = refl
no_serial_by bs (Some fields) x is e = absurd (let stops = format_5_stops bs fields is in cc)

-- a segment of the compressed form is no key of format 5
no_serial : (bs : List ℕ) (x : SegmentValue × List ℕ) → segment_at bs ≡ Ok x → serial_behind (behind_format_5 bs) ≡ None
no_serial bs x e = no_serial_by bs (behind_format_5 bs) x refl e

first_read : (most b : ℕ) (t : List ℕ) (segments : List SegmentValue) → segments_at (suc most) (b ∷ t) ≡ Ok segments
    → (x : SegmentValue × List ℕ) × (segment_at (b ∷ t) ≡ Ok x) × ((others : List SegmentValue) × (segments_at most x.1 ≡ Ok others))
unfolding segments_at
first_read most b t segments e =
    let first = bind_ok (segment_at (b ∷ t)) (λ first. behind first.0 (segments_at most first.1)) segments e in
    let others = behind_made first.0.0 (segments_at most first.0.1) segments first.2 in
    (first.0, first.1, (others.0, others.1))

no_serial_read : (most : ℕ) (t : List ℕ) (segments : List SegmentValue) → length t ≤ most → segments_at most t ≡ Ok segments → serial_behind (behind_format_5 t) ≡ None
no_serial_read most [] segments le e = refl
no_serial_read zero (b ∷ t) segments le e = absurd (omega arith)
no_serial_read (suc most) (b ∷ t) segments le e = let f = first_read most b t segments e in no_serial (b ∷ t) f.0 f.1

inhibit_at : (ms : ℕ) (rest : List ℕ) → segment_at (0x43 ∷ ms ∷ rest) ≡ Ok (inhibit ms, rest)
inhibit_at ms rest = at_inhibit (ms ∷ rest) ∙ rw byte_again refl

behind_inhibit_read : (first ms : ℕ) (rest : List ℕ) (segments : List SegmentValue) (b : Bool) → first == 0x43 ≡ b → segments_at (suc (suc (length rest))) (first ∷ ms ∷ rest) ≡ Ok segments
    → serial_behind (behind_format_5 (if b then rest else first ∷ ms ∷ rest)) ≡ None
behind_inhibit_read first ms rest segments true is e =
    let f = first_read (suc (length rest)) first (ms ∷ rest) segments e in
    let whole : segment_at (first ∷ ms ∷ rest) ≡ Ok (inhibit ms, rest) = ap (λ (x : ℕ). segment_at (x ∷ ms ∷ rest)) (eqb-true first 0x43 is) ∙ inhibit_at ms rest in
    let same : f.0 ≡ (inhibit ms, rest) = ok_is f.0 (inhibit ms, rest) (sym f.1 ∙ whole) in
    no_serial_read (suc (length rest)) rest f.2.0 (omega arith) (subst (λ (x : SegmentValue × List ℕ). segments_at (suc (length rest)) x.1 ≡ Ok f.2.0) same f.2.1)
behind_inhibit_read first ms rest segments false is e = no_serial_read (suc (suc (length rest))) (first ∷ ms ∷ rest) segments (omega arith) e

serial_lacks : (bs : List ℕ) (segments : List SegmentValue) → segments_at (length bs) bs ≡ Ok segments → key_serial bs ≡ None
unfolding key_serial
serial_lacks [] segments e = refl
serial_lacks (a ∷ []) segments e = refl
serial_lacks (a ∷ ms ∷ rest) segments e = behind_inhibit_read a ms rest segments (a == 0x43) refl e

-- the key of a path in the compressed form names no serial number
pub compressed_serial : (bs : List ℕ) (p : PathFields) → path_reading bs ≡ Ok p → key_serial bs ≡ None
unfolding path_reading
compressed_serial bs p e = let a = bind_ok (segments_at (length bs) bs) arranged_path p e in serial_lacks bs a.0 a.1

-- nor does that of a class 3 connection's
pub plain_message_serial : (bs : List ℕ) (k : Option KeyFields) → message_path_reading bs ≡ Ok k → key_serial bs ≡ None
unfolding message_path_reading
plain_message_serial bs k e = let a = bind_ok (segments_at (length bs) bs) arranged_message k e in serial_lacks bs a.0 a.1
