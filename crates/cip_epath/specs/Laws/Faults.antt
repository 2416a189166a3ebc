-- Where no segment is read, none begins, and the fault is that of the bytes.
use Rattle.std.proofs.Common.{◌≡◌, ◌≢◌, ℕ, ◌*◌, ◌<◌, ◌≤◌, false, cond, ltb, eqb, List, [], ◌∷◌, ◌++◌, length, take, drop, Result, Ok, Err, refl, sym, subst, ◌∙◌, arith, inl, inr, ◌⊎◌}
use Rattle.std.specs.Int.{Width, w8, w16, w32}
use Rattle.std.proofs.lemmas.Bool.{eqb-true, eqb-false, cases_Bool}
use Rattle.cip_epath.specs.declared.fault.PathFault.{PathFault}
use Rattle.cip_epath.specs.declared.fault.PathFault.TheVariants as fault
use Rattle.cip_epath.specs.declared.segment.LogicalType.{LogicalType}
use Rattle.cip_epath.specs.declared.segment.LogicalType.TheVariants.{Class, Instance, Member, ConnectionPoint, Attribute}
use Rattle.cip_epath.specs.ElectronicKey.{KeyFields}
use Rattle.cip_epath.specs.Segment.{logical, key, bytes, inhibit, type_code, logical_byte}
use Rattle.cip_epath.specs.Path.{SegmentBegins, BeginsNone, IsOtherKey, IsFaultOf}
use Rattle.cip_epath.specs.Reading.{◌>>=◌, number_at, data_at, key_fields_at, key_at, value_at, segment_at}
use Rattle.cip_epath.specs.Laws.Numbers.{gives, bind_err, guard_err, number_err, byte_again}
use Rattle.cip_epath.specs.Laws.Segments.{FirstByte, is_key, is_inhibit, is_data, is_8, is_16, is_32, is_stray, first_byte, at_key, at_inhibit, at_data, at_logical_8, at_logical_16, at_logical_32, segment_again}

-- a number is missing, or what follows it fails
after_number : {B : Type 0} (w : Width) (bs : List ℕ) (g : ℕ × List ℕ → Result B PathFault) (f : PathFault) → (number_at w bs >>= g) ≡ Err f
    → ((x : ℕ × List ℕ) → g x ≡ Err f → fault.Truncated ≡ f) → fault.Truncated ≡ f
after_number w bs g f e h =
    elim (bind_err (number_at w bs) g f e) [
      | inl missing ↦ number_err w bs f missing
      | inr later ↦ h later.0 later.2
    ]

given : {A : Type 0} (x : A) (rest : List ℕ) (f : PathFault) → gives x rest ≡ Err f → fault.Truncated ≡ f
given x rest f e = absurd cc

inhibit_fault : (bs : List ℕ) (f : PathFault) → (number_at w8 bs >>= λ ms. gives (inhibit ms.0) ms.1) ≡ Err f → fault.Truncated ≡ f
inhibit_fault bs f e = after_number w8 bs (λ ms. gives (inhibit ms.0) ms.1) f e (λ ms. given (inhibit ms.0) ms.1 f)

data_fault : (bs : List ℕ) (f : PathFault) → (data_at bs >>= λ d. gives (bytes d.0) d.1) ≡ Err f → fault.Truncated ≡ f
unfolding data_at
data_fault bs f e =
    elim (bind_err (data_at bs) (λ d. gives (bytes d.0) d.1) f e) [
      | inl missing ↦ after_number w8 bs (λ words. cond (ltb (length words.1) (2 * words.0)) (Err fault.Truncated) (Ok (take (2 * words.0) words.1, drop (2 * words.0) words.1))) f missing
          (λ words. guard_err (ltb (length words.1) (2 * words.0)) fault.Truncated f (take (2 * words.0) words.1, drop (2 * words.0) words.1))
      | inr later ↦ given (bytes later.0.0) later.0.1 f later.2
    ]

value_8_fault : (kind : LogicalType) (bs : List ℕ) (f : PathFault) → value_at kind 0 bs ≡ Err f → fault.Truncated ≡ f
unfolding value_at
value_8_fault kind bs f e = after_number w8 bs (λ v. gives (logical kind v.0) v.1) f e (λ v. given (logical kind v.0) v.1 f)

value_16_fault : (kind : LogicalType) (bs : List ℕ) (f : PathFault) → value_at kind 1 bs ≡ Err f → fault.Truncated ≡ f
unfolding value_at
value_16_fault kind bs f e =
    after_number w8 bs (λ pad. number_at w16 pad.1 >>= λ v. gives (logical kind v.0) v.1) f e
    (λ pad e2. after_number w16 pad.1 (λ v. gives (logical kind v.0) v.1) f e2 (λ v. given (logical kind v.0) v.1 f))

value_32_fault : (kind : LogicalType) (bs : List ℕ) (f : PathFault) → value_at kind 2 bs ≡ Err f → fault.Truncated ≡ f
unfolding value_at
value_32_fault kind bs f e =
    after_number w8 bs (λ pad. number_at w32 pad.1 >>= λ v. gives (logical kind v.0) v.1) f e
    (λ pad e2. after_number w32 pad.1 (λ v. gives (logical kind v.0) v.1) f e2 (λ v. given (logical kind v.0) v.1 f))

key_fields_fault : (bs : List ℕ) (f : PathFault) → key_fields_at bs ≡ Err f → fault.Truncated ≡ f
unfolding key_fields_at
key_fields_fault bs f e =
    after_number w16 bs _ f e (λ v e1. after_number w16 v.1 _ f e1 (λ d e2. after_number w16 d.1 _ f e2 (λ p e3. after_number w8 p.1 _ f e3 (λ r e4. after_number w8 r.1 _ f e4 (λ m e5. absurd cc)))))

-- ---- the fault that the definition names

not_other : (first : ℕ) (bs : List ℕ) → first ≢ 0x34 → ¬ IsOtherKey first bs
not_other first [] ne h = h
not_other first (format ∷ bs) ne h = ne h.0

-- a format is missing, another, or the fields behind it fail
key_at_fault : (bs : List ℕ) (f : PathFault) → key_at bs ≡ Err f → ((fault.KeyFormat ≡ f) × IsOtherKey 0x34 bs) ⊎ ((fault.Truncated ≡ f) × ¬ IsOtherKey 0x34 bs)
unfolding key_at
key_at_fault [] f e = inr (cc, λ h. h)
key_at_fault (format ∷ bs) f e =
    let after : cond (eqb format 4) (key_fields_at bs) (Err fault.KeyFormat) ≡ Err f = rw byte_again at e in
    elim (cases_Bool (eqb format 4)) [
      | inl t ↦ let fields : key_fields_at bs ≡ Err f = rw t at after in inr (key_fields_fault bs f fields, λ h. h.1 (eqb-true _ _ t))
      | inr t ↦ let wrong = rw t at after in inl (cc, (refl, eqb-false _ _ t))
    ]

abbrev zero_key : KeyFields
zero_key = record { vendor = 0; device_type = 0; product = 0; compatible = false; major = 0; minor = 0 }

key_begins : ¬ BeginsNone 0x34
key_begins h = h (key zero_key) (4 ∷ 0 ∷ 0 ∷ 0 ∷ 0 ∷ 0 ∷ 0 ∷ 0 ∷ 0 ∷ []) (record { vendor = omega arith; device_type = omega arith; product = omega arith; major = omega arith; minor = omega arith }, refl)

inhibit_begins : ¬ BeginsNone 0x43
inhibit_begins h = h (inhibit 0) (0 ∷ []) (omega arith, refl)

data_begins : ¬ BeginsNone 0x80
data_begins h = h (bytes []) (0 ∷ []) (0, omega arith, refl, refl)

begins_8 : (kind : LogicalType) → ¬ BeginsNone (logical_byte kind 0)
begins_8 kind h = h (logical kind 0) (0 ∷ []) (inl (omega arith, refl))

begins_16 : (kind : LogicalType) → ¬ BeginsNone (logical_byte kind 1)
begins_16 kind h = h (logical kind 0) (0 ∷ 0 ∷ 0 ∷ []) (inr (inl (omega arith, (0, refl))))

begins_32 : (kind : LogicalType) → ¬ BeginsNone (logical_byte kind 2)
begins_32 kind h = h (logical kind 0) (0 ∷ 0 ∷ 0 ∷ 0 ∷ 0 ∷ []) (inr (inr (omega arith, (0, refl))))

code_below : (kind : LogicalType) → type_code kind ≤ 4
code_below Class = omega arith
code_below Instance = omega arith
code_below Member = omega arith
code_below ConnectionPoint = omega arith
code_below Attribute = omega arith

logical_not_key : (kind : LogicalType) (format : ℕ) → format < 3 → logical_byte kind format ≢ 0x34
logical_not_key kind format lt = let le = code_below kind in omega arith

none_begins : (bs : List ℕ) (f : PathFault) → segment_at bs ≡ Err f → ¬ SegmentBegins bs
none_begins bs f e h =
    let again = segment_again h.0 h.1.0 h.1.1 h.1.2 in
    let parts = h.1.3 in
    cc

stray_begins : (first : ℕ) → ((rest : List ℕ) → segment_at (first ∷ rest) ≡ Err fault.Segment) → BeginsNone first
stray_begins first stray s rest is_text =
    let again = segment_again s (first ∷ rest) [] is_text in
    let read = stray (rest ++ []) in
    cc

short : (first : ℕ) (bs : List ℕ) (f : PathFault) → ¬ BeginsNone first → ¬ IsOtherKey first bs → fault.Truncated ≡ f → IsFaultOf (first ∷ bs) f
short first bs f some same e = subst (IsFaultOf (first ∷ bs)) e (some, same)

other : (first : ℕ) (bs : List ℕ) (f : PathFault) → IsOtherKey first bs → fault.KeyFormat ≡ f → IsFaultOf (first ∷ bs) f
other first bs f is e = subst (IsFaultOf (first ∷ bs)) e is

stray : (first : ℕ) (bs : List ℕ) (f : PathFault) → ((rest : List ℕ) → segment_at (first ∷ rest) ≡ Err fault.Segment) → segment_at (first ∷ bs) ≡ Err f → IsFaultOf (first ∷ bs) f
stray first bs f all e =
    let read = all bs in
    let same : fault.Segment ≡ f = cc in
    subst (IsFaultOf (first ∷ bs)) same (stray_begins first all)

at_key_fault : (bs : List ℕ) (f : PathFault) → (key_at bs >>= λ k. gives (key k.0) k.1) ≡ Err f → IsFaultOf (0x34 ∷ bs) f
at_key_fault bs f e =
    elim (bind_err (key_at bs) (λ k. gives (key k.0) k.1) f e) [
      | inl missing ↦ elim (key_at_fault bs f missing) [
        | inl wrong ↦ other 0x34 bs f wrong.1 wrong.0
        | inr cut ↦ short 0x34 bs f key_begins cut.1 cut.0
      ]
      | inr later ↦ absurd (let e2 = later.2 in cc)
    ]

first_fault : (first : ℕ) (bs : List ℕ) (f : PathFault) → FirstByte first → segment_at (first ∷ bs) ≡ Err f → IsFaultOf (first ∷ bs) f
first_fault first bs f (is_key h) e = rw h (at_key_fault bs f (sym (at_key bs) ∙ (rw h at e)))
first_fault first bs f (is_inhibit h) e = rw h (short 0x43 bs f inhibit_begins (not_other 0x43 bs (omega arith)) (inhibit_fault bs f (sym (at_inhibit bs) ∙ (rw h at e))))
first_fault first bs f (is_data h) e = rw h (short 0x80 bs f data_begins (not_other 0x80 bs (omega arith)) (data_fault bs f (sym (at_data bs) ∙ (rw h at e))))
first_fault first bs f (is_8 kind h) e = rw h (short (logical_byte kind 0) bs f (begins_8 kind) (not_other (logical_byte kind 0) bs (logical_not_key kind 0 (omega arith))) (value_8_fault kind bs f (sym (at_logical_8 kind bs) ∙ (rw h at e))))
first_fault first bs f (is_16 kind h) e = rw h (short (logical_byte kind 1) bs f (begins_16 kind) (not_other (logical_byte kind 1) bs (logical_not_key kind 1 (omega arith))) (value_16_fault kind bs f (sym (at_logical_16 kind bs) ∙ (rw h at e))))
first_fault first bs f (is_32 kind h) e = rw h (short (logical_byte kind 2) bs f (begins_32 kind) (not_other (logical_byte kind 2) bs (logical_not_key kind 2 (omega arith))) (value_32_fault kind bs f (sym (at_logical_32 kind bs) ∙ (rw h at e))))
first_fault first bs f (is_stray all) e = stray first bs f all e

-- the fault of bytes that no whole segment text begins
pub segment_fault : (bs : List ℕ) (f : PathFault) → 0 < length bs → segment_at bs ≡ Err f → ¬ SegmentBegins bs × IsFaultOf bs f
segment_fault [] f lt e = absurd (omega arith)
segment_fault (first ∷ bs) f lt e = (none_begins (first ∷ bs) f e, first_fault first bs f (first_byte first) e)

-- another format is no stray byte
pub key_begins_at : (first : ℕ) (bs : List ℕ) → BeginsNone first → IsOtherKey first bs → ⊥
key_begins_at first [] none h = h
key_begins_at first (format ∷ bs) none h = key_begins (subst BeginsNone h.0 none)
