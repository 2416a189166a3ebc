-- What is read was spelled so, and where nothing is read the fault is the one of the bytes.
use Rattle.std.proofs.Common.{◌≡◌, ℕ, ◌+◌, ◌*◌, ◌%◌, ◌<◌, Bool, true, false, cond, ltb, leb, eqb, List, [], ◌∷◌, ◌++◌, length, take, drop, Result, Ok, Err, refl, sym, ap, subst, ◌∙◌, arith, inl, inr}
use Rattle.std.specs.Int.{w8, w16, w32, to_le_bytes}
use Rattle.std.proofs.lemmas.Bool.{ltb-false, eqb-true, leb-true, leb-false, cases_Bool}
use Rattle.std.proofs.lemmas.List.{take-append-drop, length-take}
use Rattle.cip_epath.specs.declared.fault.PathFault.{PathFault}
use Rattle.cip_epath.specs.declared.fault.PathFault.TheVariants as fault
use Rattle.cip_epath.specs.declared.segment.LogicalType.{LogicalType}
use Rattle.cip_epath.specs.ElectronicKey.{KeyFields}
use Rattle.cip_epath.specs.Segment.{SegmentValue, logical, key, bytes, inhibit, KeyFits, key_text, revision_byte, logical_byte, IsSegmentText}
use Rattle.cip_epath.specs.Reading.{◌>>=◌, number_at, data_at, key_fields_at, key_at, value_at, segment_at}
use Rattle.cip_types.specs.FieldLaws.{IsBytes, IsBytes-drop, Takes, wide16, wide32}
use Rattle.cip_epath.specs.Laws.Numbers.{IsBytes-rest, gives, bind_ok, guard_ok, ok_is, Takes-then, number_takes, byte_field}
use Rattle.cip_epath.specs.Laws.Segments.{is_key, is_inhibit, is_data, is_8, is_16, is_32, is_stray, first_byte, at_key, at_inhibit, at_data, at_logical_8, at_logical_16, at_logical_32}

-- the segment whose text was taken from the front
pub record TakesSegment (bs : List ℕ) (s : SegmentValue) (rest : List ℕ) : Type 0 where
  pub text : List ℕ
  pub is_text : IsSegmentText s text
  pub taken : Takes bs text rest

chosen : {A : Type 0} (b : Bool) (x : Result A PathFault) (d : PathFault) (y : A) → cond b x (Err d) ≡ Ok y → (b ≡ true) × (x ≡ Ok y)
chosen true x d y e = (refl, e)
chosen false x d y e = absurd cc

-- the revision byte is that of its two fields
revision_taken : (b : ℕ) → b < 256 → b % 128 + cond (leb 128 b) 128 0 ≡ b
revision_taken b lt =
    elim (cases_Bool (leb 128 b)) [
      | inl t ↦ let le = leb-true 128 b t in rw t (omega arith)
      | inr f ↦ let below = leb-false 128 b f in rw f (omega arith)
    ]

-- the fields of a key, behind its format
abbrev pub key_rest : KeyFields → List ℕ
key_rest k = to_le_bytes w16 k.vendor ++ (to_le_bytes w16 k.device_type ++ (to_le_bytes w16 k.product ++ (revision_byte k ∷ k.minor ∷ [])))

key_moved : (bs : List ℕ) (k k' : KeyFields) (rest rest' : List ℕ) → gives k rest ≡ Ok (k', rest') → KeyFits k → Takes bs (key_rest k) rest → KeyFits k' × Takes bs (key_rest k') rest'
key_moved bs k k' rest rest' e fits t = subst (λ (y : KeyFields × List ℕ). KeyFits y.0 × Takes bs (key_rest y.0) y.1) (ok_is (k, rest) (k', rest') e) (fits, t)

pub key_fields_taken : (bs : List ℕ) (k : KeyFields) (rest : List ℕ) → IsBytes bs → key_fields_at bs ≡ Ok (k, rest) → KeyFits k × Takes bs (key_rest k) rest
unfolding key_fields_at
key_fields_taken bs k rest fits e =
    let made = λ (vendor device_type product revision : ℕ) (minor : ℕ × List ℕ). let made : KeyFields = record { vendor = vendor; device_type = device_type; product = product; compatible = leb 128 revision; major = revision % 128; minor = minor.0 } in gives made minor.1 in
    let a = bind_ok (number_at w16 bs) (λ v. number_at w16 v.1 >>= λ d. number_at w16 d.1 >>= λ p. number_at w8 p.1 >>= λ r. number_at w8 r.1 >>= λ m. made v.0 d.0 p.0 r.0 m) (k, rest) e in
    let b = bind_ok (number_at w16 a.0.1) (λ d. number_at w16 d.1 >>= λ p. number_at w8 p.1 >>= λ r. number_at w8 r.1 >>= λ m. made a.0.0 d.0 p.0 r.0 m) (k, rest) a.2 in
    let c = bind_ok (number_at w16 b.0.1) (λ p. number_at w8 p.1 >>= λ r. number_at w8 r.1 >>= λ m. made a.0.0 b.0.0 p.0 r.0 m) (k, rest) b.2 in
    let d = bind_ok (number_at w8 c.0.1) (λ r. number_at w8 r.1 >>= λ m. made a.0.0 b.0.0 c.0.0 r.0 m) (k, rest) c.2 in
    let m = bind_ok (number_at w8 d.0.1) (λ m. made a.0.0 b.0.0 c.0.0 d.0.0 m) (k, rest) d.2 in
    let ta = number_takes w16 wide16 bs a.0.0 a.0.1 fits a.1 in
    let tb = number_takes w16 wide16 a.0.1 b.0.0 b.0.1 ta.0.rest_fits b.1 in
    let tc = number_takes w16 wide16 b.0.1 c.0.0 c.0.1 tb.0.rest_fits c.1 in
    let td = byte_field c.0.1 d.0.0 d.0.1 tc.0.rest_fits d.1 in
    let tm = byte_field d.0.1 m.0.0 m.0.1 td.0.rest_fits m.1 in
    let revision = revision_taken d.0.0 td.1 in
    let key' : KeyFields = record { vendor = a.0.0; device_type = b.0.0; product = c.0.0; compatible = leb 128 d.0.0; major = d.0.0 % 128; minor = m.0.0 } in
    let t4 = Takes-then c.0.1 (d.0.0 ∷ []) d.0.1 (m.0.0 ∷ []) m.0.1 td.0 tm.0 in
    let t4' : Takes c.0.1 (revision_byte key' ∷ m.0.0 ∷ []) m.0.1 = rw revision t4 in
    let t3 = Takes-then b.0.1 (to_le_bytes w16 c.0.0) c.0.1 (revision_byte key' ∷ m.0.0 ∷ []) m.0.1 tc.0 t4' in
    let t2 = Takes-then a.0.1 (to_le_bytes w16 b.0.0) b.0.1 (to_le_bytes w16 c.0.0 ++ (revision_byte key' ∷ m.0.0 ∷ [])) m.0.1 tb.0 t3 in
    let t1 = Takes-then bs (to_le_bytes w16 a.0.0) a.0.1 (to_le_bytes w16 b.0.0 ++ (to_le_bytes w16 c.0.0 ++ (revision_byte key' ∷ m.0.0 ∷ []))) m.0.1 ta.0 t2 in
    key_moved bs key' k m.0.1 rest m.2 (record { vendor = ta.1; device_type = tb.1; product = tc.1; major = omega arith; minor = tm.1 }) t1

key_parts : (bs : List ℕ) (format : ℕ) (after tail rest : List ℕ) → bs ≡ format ∷ after → format ≡ 4 → after ≡ tail ++ rest → 0x34 ∷ bs ≡ 0x34 ∷ 4 ∷ (tail ++ rest)
key_parts bs format after tail rest p q r = cc

key_taken : (bs : List ℕ) (s : SegmentValue) (rest : List ℕ) → IsBytes (0x34 ∷ bs) → (key_at bs >>= λ k. gives (key k.0) k.1) ≡ Ok (s, rest) → TakesSegment (0x34 ∷ bs) s rest
unfolding key_at
key_taken bs s rest fits e =
    let a = bind_ok (key_at bs) (λ k. gives (key k.0) k.1) (s, rest) e in
    let f = bind_ok (number_at w8 bs) (λ format. cond (eqb format.0 4) (key_fields_at format.1) (Err fault.KeyFormat)) a.0 a.1 in
    let tf = byte_field bs f.0.0 f.0.1 (IsBytes-rest 0x34 bs fits) f.1 in
    let g = chosen (eqb f.0.0 4) (key_fields_at f.0.1) fault.KeyFormat a.0 f.2 in
    let four = eqb-true _ _ g.0 in
    let t = key_fields_taken f.0.1 a.0.0 a.0.1 tf.0.rest_fits g.1 in
    let parts = key_parts bs f.0.0 f.0.1 (key_rest a.0.0) a.0.1 tf.0.parts four t.1.parts in
    subst (λ (y : SegmentValue × List ℕ). TakesSegment (0x34 ∷ bs) y.0 y.1) (ok_is (key a.0.0, a.0.1) (s, rest) a.2)
    (record { text = key_text a.0.0; is_text = (t.0, refl); taken = record { parts = parts; rest_fits = t.1.rest_fits } })

inhibit_taken : (bs : List ℕ) (s : SegmentValue) (rest : List ℕ) → IsBytes (0x43 ∷ bs) → (number_at w8 bs >>= λ ms. gives (inhibit ms.0) ms.1) ≡ Ok (s, rest) → TakesSegment (0x43 ∷ bs) s rest
inhibit_taken bs s rest fits e =
    let a = bind_ok (number_at w8 bs) (λ ms. gives (inhibit ms.0) ms.1) (s, rest) e in
    let t = byte_field bs a.0.0 a.0.1 (IsBytes-rest 0x43 bs fits) a.1 in
    subst (λ (y : SegmentValue × List ℕ). TakesSegment (0x43 ∷ bs) y.0 y.1) (ok_is (inhibit a.0.0, a.0.1) (s, rest) a.2)
    (record { text = 0x43 ∷ a.0.0 ∷ []; is_text = (t.1, refl); taken = record { parts = ap (λ (x : List ℕ). 0x43 ∷ x) t.0.parts; rest_fits = t.0.rest_fits } })

data_taken : (bs : List ℕ) (s : SegmentValue) (rest : List ℕ) → IsBytes (0x80 ∷ bs) → (data_at bs >>= λ d. gives (bytes d.0) d.1) ≡ Ok (s, rest) → TakesSegment (0x80 ∷ bs) s rest
unfolding data_at
data_taken bs s rest fits e =
    let a = bind_ok (data_at bs) (λ d. gives (bytes d.0) d.1) (s, rest) e in
    let w = bind_ok (number_at w8 bs) (λ words. cond (ltb (length words.1) (2 * words.0)) (Err fault.Truncated) (Ok (take (2 * words.0) words.1, drop (2 * words.0) words.1))) a.0 a.1 in
    let t = byte_field bs w.0.0 w.0.1 (IsBytes-rest 0x80 bs fits) w.1 in
    let g = guard_ok (ltb (length w.0.1) (2 * w.0.0)) fault.Truncated (take (2 * w.0.0) w.0.1, drop (2 * w.0.0) w.0.1) a.0 w.2 in
    let long = ltb-false _ _ g.0 in
    let len : length (take (2 * w.0.0) w.0.1) ≡ 2 * w.0.0 = omega (arith, length-take (2 * w.0.0) w.0.1) in
    let whole : w.0.1 ≡ take (2 * w.0.0) w.0.1 ++ drop (2 * w.0.0) w.0.1 = sym (take-append-drop (2 * w.0.0) w.0.1) in
    let parts : 0x80 ∷ bs ≡ (0x80 ∷ w.0.0 ∷ take (2 * w.0.0) w.0.1) ++ drop (2 * w.0.0) w.0.1 = ap (λ (x : List ℕ). 0x80 ∷ x) (t.0.parts ∙ ap (λ (x : List ℕ). w.0.0 ∷ x) whole) in
    let made : TakesSegment (0x80 ∷ bs) (bytes (take (2 * w.0.0) w.0.1)) (drop (2 * w.0.0) w.0.1) =
    record { text = 0x80 ∷ w.0.0 ∷ take (2 * w.0.0) w.0.1; is_text = (w.0.0, t.1, len, refl); taken = record { parts = parts; rest_fits = IsBytes-drop (2 * w.0.0) w.0.1 t.0.rest_fits } } in
    let seen = subst (λ (y : List ℕ × List ℕ). TakesSegment (0x80 ∷ bs) (bytes y.0) y.1) g.1 made in
    subst (λ (y : SegmentValue × List ℕ). TakesSegment (0x80 ∷ bs) y.0 y.1) (ok_is (bytes a.0.0, a.0.1) (s, rest) a.2) seen

taken_8 : (kind : LogicalType) (bs : List ℕ) (s : SegmentValue) (rest : List ℕ) → IsBytes bs → value_at kind 0 bs ≡ Ok (s, rest) → TakesSegment (logical_byte kind 0 ∷ bs) s rest
unfolding value_at
taken_8 kind bs s rest fits e =
    let a = bind_ok (number_at w8 bs) (λ value. Ok (logical kind value.0, value.1)) (s, rest) e in
    let t = byte_field bs a.0.0 a.0.1 fits a.1 in
    subst (λ (y : SegmentValue × List ℕ). TakesSegment (logical_byte kind 0 ∷ bs) y.0 y.1) (ok_is (logical kind a.0.0, a.0.1) (s, rest) a.2)
    (record { text = logical_byte kind 0 ∷ a.0.0 ∷ []; is_text = inl (t.1, refl); taken = record { parts = ap (λ (x : List ℕ). logical_byte kind 0 ∷ x) t.0.parts; rest_fits = t.0.rest_fits } })

taken_16 : (kind : LogicalType) (bs : List ℕ) (s : SegmentValue) (rest : List ℕ) → IsBytes bs → value_at kind 1 bs ≡ Ok (s, rest) → TakesSegment (logical_byte kind 1 ∷ bs) s rest
unfolding value_at
taken_16 kind bs s rest fits e =
    let p = bind_ok (number_at w8 bs) (λ pad. number_at w16 pad.1 >>= λ value. Ok (logical kind value.0, value.1)) (s, rest) e in
    let a = bind_ok (number_at w16 p.0.1) (λ value. Ok (logical kind value.0, value.1)) (s, rest) p.2 in
    let tp = byte_field bs p.0.0 p.0.1 fits p.1 in
    let t = number_takes w16 wide16 p.0.1 a.0.0 a.0.1 tp.0.rest_fits a.1 in
    subst (λ (y : SegmentValue × List ℕ). TakesSegment (logical_byte kind 1 ∷ bs) y.0 y.1) (ok_is (logical kind a.0.0, a.0.1) (s, rest) a.2)
    (record { text = logical_byte kind 1 ∷ p.0.0 ∷ to_le_bytes w16 a.0.0; is_text = inr (inl (t.1, (p.0.0, refl))); taken = record { parts = ap (λ (x : List ℕ). logical_byte kind 1 ∷ x) (tp.0.parts ∙ ap (λ (x : List ℕ). p.0.0 ∷ x) t.0.parts); rest_fits = t.0.rest_fits } })

taken_32 : (kind : LogicalType) (bs : List ℕ) (s : SegmentValue) (rest : List ℕ) → IsBytes bs → value_at kind 2 bs ≡ Ok (s, rest) → TakesSegment (logical_byte kind 2 ∷ bs) s rest
unfolding value_at
taken_32 kind bs s rest fits e =
    let p = bind_ok (number_at w8 bs) (λ pad. number_at w32 pad.1 >>= λ value. Ok (logical kind value.0, value.1)) (s, rest) e in
    let a = bind_ok (number_at w32 p.0.1) (λ value. Ok (logical kind value.0, value.1)) (s, rest) p.2 in
    let tp = byte_field bs p.0.0 p.0.1 fits p.1 in
    let t = number_takes w32 wide32 p.0.1 a.0.0 a.0.1 tp.0.rest_fits a.1 in
    subst (λ (y : SegmentValue × List ℕ). TakesSegment (logical_byte kind 2 ∷ bs) y.0 y.1) (ok_is (logical kind a.0.0, a.0.1) (s, rest) a.2)
    (record { text = logical_byte kind 2 ∷ p.0.0 ∷ to_le_bytes w32 a.0.0; is_text = inr (inr (t.1, (p.0.0, refl))); taken = record { parts = ap (λ (x : List ℕ). logical_byte kind 2 ∷ x) (tp.0.parts ∙ ap (λ (x : List ℕ). p.0.0 ∷ x) t.0.parts); rest_fits = t.0.rest_fits } })

-- no bytes are no segment
pub nothing_taken : {P : Type 0} (s : SegmentValue) (rest : List ℕ) → segment_at [] ≡ Ok (s, rest) → P
unfolding segment_at
nothing_taken s rest e = absurd cc

stray_taken : {P : Type 0} (first : ℕ) (bs : List ℕ) (s : SegmentValue) (rest : List ℕ) → segment_at (first ∷ bs) ≡ Err fault.Segment → segment_at (first ∷ bs) ≡ Ok (s, rest) → P
stray_taken first bs s rest stray e = absurd cc

-- the text of the segment that is read stands at the front
pub segment_taken : (bs : List ℕ) (s : SegmentValue) (rest : List ℕ) → IsBytes bs → segment_at bs ≡ Ok (s, rest) → TakesSegment bs s rest
segment_taken [] s rest fits e = nothing_taken s rest e
segment_taken (first ∷ bs) s rest fits e =
    elim (first_byte first) [
      | is_key h ↦ rw h (key_taken bs s rest (rw h at fits) (sym (at_key bs) ∙ (rw h at e)))
      | is_inhibit h ↦ rw h (inhibit_taken bs s rest (rw h at fits) (sym (at_inhibit bs) ∙ (rw h at e)))
      | is_data h ↦ rw h (data_taken bs s rest (rw h at fits) (sym (at_data bs) ∙ (rw h at e)))
      | is_8 kind h ↦ rw h (taken_8 kind bs s rest (IsBytes-rest first bs fits) (sym (at_logical_8 kind bs) ∙ (rw h at e)))
      | is_16 kind h ↦ rw h (taken_16 kind bs s rest (IsBytes-rest first bs fits) (sym (at_logical_16 kind bs) ∙ (rw h at e)))
      | is_32 kind h ↦ rw h (taken_32 kind bs s rest (IsBytes-rest first bs fits) (sym (at_logical_32 kind bs) ∙ (rw h at e)))
      | is_stray stray ↦ stray_taken first bs s rest (stray bs) e
    ]
