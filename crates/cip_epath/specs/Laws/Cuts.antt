-- The segments of a text: what is read from the front on is how the text is cut, and where that stops.
use Rattle.std.proofs.Common.{◌≡◌, ℕ, zero, suc, ◌<◌, ◌≤◌, List, [], ◌∷◌, ◌++◌, length, Result, Ok, Err, refl, sym, ap, subst, ◌∙◌, append_assoc, arith, inl, inr}
use Rattle.std.proofs.lemmas.List.{length-append}
use Rattle.cip_types.specs.FieldLaws.{IsBytes}
use Rattle.cip_epath.specs.declared.fault.PathFault.{PathFault}
use Rattle.cip_epath.specs.declared.fault.PathFault.TheVariants as fault
use Rattle.cip_epath.specs.Segment.{SegmentValue, IsSegmentText}
use Rattle.cip_epath.specs.Path.{AreSegmentTexts, SegmentBegins, IsFaultOf, StopsWith, IsTextOf, IsReading}
use Rattle.cip_epath.specs.Reading.{◌>>=◌, segment_at, segments_at, reading_by}
use Rattle.cip_epath.specs.Laws.Segments.{segment_again}
use Rattle.cip_epath.specs.Laws.Taken.{TakesSegment, segment_taken, nothing_taken}
use Rattle.cip_epath.specs.Laws.Faults.{segment_fault, key_begins_at}

-- the segments with one in front
abbrev pub behind : SegmentValue → Result (List SegmentValue) PathFault → Result (List SegmentValue) PathFault
behind s r = r >>= λ others. Ok (s ∷ others)

-- ---- one step of the reading

pub at_end : (most : ℕ) → segments_at most [] ≡ Ok []
unfolding segments_at
at_end zero = refl
at_end (suc most) = refl

pub at_segment : (most : ℕ) (t : List ℕ) (s : SegmentValue) (rest : List ℕ) → segment_at t ≡ Ok (s, rest) → segments_at (suc most) t ≡ behind s (segments_at most rest)
unfolding segments_at
at_segment most [] s rest e = nothing_taken s rest e
at_segment most (b ∷ t) s rest e = rw e refl

pub at_fault : (most : ℕ) (t : List ℕ) (f : PathFault) → 0 < length t → segment_at t ≡ Err f → segments_at (suc most) t ≡ Err f
unfolding segments_at
at_fault most [] f some e = absurd (omega arith)
at_fault most (b ∷ t) f some e = rw e refl

-- a segment takes a byte at least
pub segment_some : (s : SegmentValue) (text : List ℕ) → IsSegmentText s text → 0 < length text
segment_some s [] is = nothing_taken s [] (segment_again s [] [] is)
segment_some s (b ∷ text) is = omega arith

pub segment_shrinks : (t : List ℕ) (s : SegmentValue) (rest : List ℕ) → IsBytes t → segment_at t ≡ Ok (s, rest) → length rest < length t
segment_shrinks t s rest fits e =
    let k = segment_taken t s rest fits e in
    omega (arith, ap length k.taken.parts, length-append k.text rest, segment_some s k.text k.is_text)

-- ---- as many steps as there are bytes are enough

pub enough : (m n : ℕ) (t : List ℕ) → IsBytes t → length t ≤ m → length t ≤ n → segments_at m t ≡ segments_at n t
enough m n [] fits le le' = at_end m ∙ sym (at_end n)
enough zero n (b ∷ t) fits le le' = absurd (omega arith)
enough (suc m) zero (b ∷ t) fits le le' = absurd (omega arith)
enough (suc m) (suc n) (b ∷ t) fits le le' = step (segment_at (b ∷ t)) refl (λ rest. enough m n rest)
  where
    step : (r : Result (SegmentValue × List ℕ) PathFault) → segment_at (b ∷ t) ≡ r → ((rest : List ℕ) → IsBytes rest → length rest ≤ m → length rest ≤ n → segments_at m rest ≡ segments_at n rest)
        → segments_at (suc m) (b ∷ t) ≡ segments_at (suc n) (b ∷ t)
    step (Ok x) e others =
        let shorter = segment_shrinks (b ∷ t) x.0 x.1 fits e in
        let fits' = (segment_taken (b ∷ t) x.0 x.1 fits e).taken.rest_fits in
        at_segment m (b ∷ t) x.0 x.1 e ∙ ap (behind x.0) (others x.1 fits' (omega arith) (omega arith)) ∙ sym (at_segment n (b ∷ t) x.0 x.1 e)
    step (Err f) e others = at_fault m (b ∷ t) f (omega arith) e ∙ sym (at_fault n (b ∷ t) f (omega arith) e)

-- ---- what is read is a cut of the text

-- the segments are those of the text, or the text stops with the fault
abbrev Cut : List ℕ → Result (List SegmentValue) PathFault → Type 0
Cut t (Ok segments) = AreSegmentTexts segments t
Cut t (Err f) = StopsWith t f

cut_behind : (t : List ℕ) (s : SegmentValue) (rest : List ℕ) → TakesSegment t s rest → (r : Result (List SegmentValue) PathFault) → Cut rest r → Cut t (behind s r)
cut_behind t s rest k (Ok segments) are = (k.text, rest, k.is_text, are, k.taken.parts)
cut_behind t s rest k (Err f) stop =
    let parts = k.taken.parts ∙ ap (λ (x : List ℕ). k.text ++ x) stop.1.3 ∙ sym (append_assoc k.text stop.1.0 stop.1.1) in
    (s ∷ stop.0, (k.text ++ stop.1.0, stop.1.1, (k.text, stop.1.0, k.is_text, stop.1.2, refl), parts, stop.1.4, stop.1.5))

cut_is : (most : ℕ) (t : List ℕ) → IsBytes t → length t ≤ most → Cut t (segments_at most t)
cut_is most [] fits le = subst (Cut []) (sym (at_end most)) refl
cut_is zero (b ∷ t) fits le = absurd (omega arith)
cut_is (suc most) (b ∷ t) fits le = step (segment_at (b ∷ t)) refl (λ rest. cut_is most rest)
  where
    step : (r : Result (SegmentValue × List ℕ) PathFault) → segment_at (b ∷ t) ≡ r → ((rest : List ℕ) → IsBytes rest → length rest ≤ most → Cut rest (segments_at most rest)) → Cut (b ∷ t) (segments_at (suc most) (b ∷ t))
    step (Ok x) e others =
        let k = segment_taken (b ∷ t) x.0 x.1 fits e in
        let shorter = segment_shrinks (b ∷ t) x.0 x.1 fits e in
        subst (Cut (b ∷ t)) (sym (at_segment most (b ∷ t) x.0 x.1 e)) (cut_behind (b ∷ t) x.0 x.1 k (segments_at most x.1) (others x.1 k.taken.rest_fits (omega arith)))
    step (Err f) e others =
        let stop = segment_fault (b ∷ t) f (omega arith) e in
        subst (Cut (b ∷ t)) (sym (at_fault most (b ∷ t) f (omega arith) e)) ([], ([], b ∷ t, refl, refl, stop.0, stop.1))

-- ---- a cut of the text is what is read

-- a text that begins with a segment's is read as that segment
reads : (t : List ℕ) (s : SegmentValue) (front rest : List ℕ) → IsSegmentText s front → t ≡ front ++ rest → segment_at t ≡ Ok (s, rest)
reads t s front rest is parts = ap segment_at parts ∙ segment_again s front rest is

left_over : (t front rest : List ℕ) (most : ℕ) → t ≡ front ++ rest → 0 < length front → length t ≤ suc most → length rest ≤ most
left_over t front rest most parts some le = omega (arith, ap length parts, length-append front rest)

not_zero : (t front rest : List ℕ) → t ≡ front ++ rest → 0 < length front → length t ≤ zero → ⊥
not_zero t front rest parts some le = omega (arith, ap length parts, length-append front rest)

pub texts_read : (segments : List SegmentValue) (most : ℕ) (t : List ℕ) → AreSegmentTexts segments t → length t ≤ most → segments_at most t ≡ Ok segments
texts_read [] most t are le = ap (segments_at most) are ∙ at_end most
texts_read (s ∷ segments) zero t are le = absurd (not_zero t are.0 are.1 are.4 (segment_some s are.0 are.2) le)
texts_read (s ∷ segments) (suc most) t are le =
    at_segment most t s are.1 (reads t s are.0 are.1 are.2 are.4)
    ∙ ap (behind s) (texts_read segments most are.1 are.3 (left_over t are.0 are.1 most are.4 (segment_some s are.0 are.2) le))

-- the fault of a rest is one
same_fault : (rest : List ℕ) (f g : PathFault) → IsFaultOf rest f → IsFaultOf rest g → f ≡ g
same_fault [] f g is is' = absurd is
same_fault (b ∷ rest) fault.Truncated fault.Truncated is is' = refl
same_fault (b ∷ rest) fault.Truncated fault.Segment is is' = absurd (is.0 is')
same_fault (b ∷ rest) fault.Truncated fault.KeyFormat is is' = absurd (is.1 is')
same_fault (b ∷ rest) fault.Truncated fault.Shape is is' = absurd is'
same_fault (b ∷ rest) fault.Segment fault.Truncated is is' = absurd (is'.0 is)
same_fault (b ∷ rest) fault.Segment fault.Segment is is' = refl
same_fault (b ∷ rest) fault.Segment fault.KeyFormat is is' = absurd (key_begins_at b rest is is')
same_fault (b ∷ rest) fault.Segment fault.Shape is is' = absurd is'
same_fault (b ∷ rest) fault.KeyFormat fault.Truncated is is' = absurd (is'.1 is)
same_fault (b ∷ rest) fault.KeyFormat fault.Segment is is' = absurd (key_begins_at b rest is' is)
same_fault (b ∷ rest) fault.KeyFormat fault.KeyFormat is is' = refl
same_fault (b ∷ rest) fault.KeyFormat fault.Shape is is' = absurd is'
same_fault (b ∷ rest) fault.Shape g is is' = absurd is

fault_some : (t : List ℕ) (f : PathFault) → IsFaultOf t f → 0 < length t
fault_some [] f is = absurd is
fault_some (b ∷ t) f is = omega arith

stop_here : (t : List ℕ) (f : PathFault) → ¬ SegmentBegins t → IsFaultOf t f → IsBytes t → (r : Result (SegmentValue × List ℕ) PathFault) → segment_at t ≡ r → segment_at t ≡ Err f
stop_here t f none is fits (Ok x) e =
    let k = segment_taken t x.0 x.1 fits e in
    absurd (none (x.0, (k.text, x.1, k.is_text, k.taken.parts)))
stop_here t f none is fits (Err g) e =
    let stop = segment_fault t g (fault_some t f is) e in
    e ∙ ap Err (same_fault t g f stop.1 is)

stops_at : (most : ℕ) (t : List ℕ) (f : PathFault) → ¬ SegmentBegins t → IsFaultOf t f → IsBytes t → length t ≤ most → segments_at most t ≡ Err f
stops_at zero t f none is fits le = absurd (let some = fault_some t f is in omega arith)
stops_at (suc most) t f none is fits le = at_fault most t f (fault_some t f is) (stop_here t f none is fits (segment_at t) refl)

stops_read : (segments : List SegmentValue) (most : ℕ) (t : List ℕ) (f : PathFault) (front rest : List ℕ)
    → AreSegmentTexts segments front → t ≡ front ++ rest → ¬ SegmentBegins rest → IsFaultOf rest f → IsBytes t → length t ≤ most → segments_at most t ≡ Err f
stops_read [] most t f front rest are parts none is fits le =
    let here : rest ≡ t = sym (parts ∙ ap (λ (x : List ℕ). x ++ rest) are) in
    stops_at most t f (subst (λ (x : List ℕ). ¬ SegmentBegins x) here none) (subst (λ (x : List ℕ). IsFaultOf x f) here is) fits le
stops_read (s ∷ segments) zero t f front rest are parts none is fits le =
    let parts' = parts ∙ ap (λ (x : List ℕ). x ++ rest) are.4 ∙ append_assoc are.0 are.1 rest in
    absurd (not_zero t are.0 (are.1 ++ rest) parts' (segment_some s are.0 are.2) le)
stops_read (s ∷ segments) (suc most) t f front rest are parts none is fits le =
    let parts' = parts ∙ ap (λ (x : List ℕ). x ++ rest) are.4 ∙ append_assoc are.0 are.1 rest in
    let e = reads t s are.0 (are.1 ++ rest) are.2 parts' in
    let fits' = (segment_taken t s (are.1 ++ rest) fits e).taken.rest_fits in
    at_segment most t s (are.1 ++ rest) e
    ∙ ap (behind s) (stops_read segments most (are.1 ++ rest) f are.1 rest are.3 refl none is fits' (left_over t are.0 (are.1 ++ rest) most parts' (segment_some s are.0 are.2) le))

-- ---- the reading of a text, whatever its segments are to make

-- a function on lists of segments gives what the arrangement says, and Shape where that is nothing
pub record Arranges {P : Type 0} (Arranged : List SegmentValue → P → Type 0) (arranged : List SegmentValue → Result P PathFault) : Type 0 where
  pub made : (segments : List SegmentValue) (p : P) → arranged segments ≡ Ok p → Arranged segments p
  pub makes : (segments : List SegmentValue) (p : P) → Arranged segments p → arranged segments ≡ Ok p
  pub shape : (segments : List SegmentValue) (f : PathFault) → arranged segments ≡ Err f → f ≡ fault.Shape

abbrev then_arranged : {P : Type 0} → (List SegmentValue → Result P PathFault) → Result (List SegmentValue) PathFault → Result P PathFault
then_arranged arranged r = r >>= arranged

-- a text of p is read as p
pub text_reads : {P : Type 0} (Arranged : List SegmentValue → P → Type 0) (arranged : List SegmentValue → Result P PathFault) → Arranges Arranged arranged
    → (t : List ℕ) (p : P) → IsTextOf Arranged t p → reading_by arranged t ≡ Ok p
text_reads Arranged arranged a t p is =
    ap (then_arranged arranged) (texts_read is.0 (length t) t is.1 (omega arith)) ∙ a.makes is.0 p is.2

-- what is read is a reading
pub reading_is : {P : Type 0} (Arranged : List SegmentValue → P → Type 0) (arranged : List SegmentValue → Result P PathFault) → Arranges Arranged arranged
    → (t : List ℕ) → IsBytes t → IsReading Arranged t (reading_by arranged t)
reading_is {P} Arranged arranged a t fits = by_cut (segments_at (length t) t) (cut_is (length t) t fits (omega arith))
  where
    by_arranged : (segments : List SegmentValue) → AreSegmentTexts segments t → (r : Result P PathFault) → arranged segments ≡ r → IsReading Arranged t r
    by_arranged segments are (Ok p) e = (segments, are, a.made segments p e)
    by_arranged segments are (Err f) e = inr (a.shape segments f e, (segments, are, λ p is. absurd (let made = a.makes segments p is in cc)))

    by_cut : (r : Result (List SegmentValue) PathFault) → Cut t r → IsReading Arranged t (then_arranged arranged r)
    by_cut (Ok segments) are = by_arranged segments are (arranged segments) refl
    by_cut (Err f) stop = inl stop

-- a reading is what is read
pub one_reading : {P : Type 0} (Arranged : List SegmentValue → P → Type 0) (arranged : List SegmentValue → Result P PathFault) → Arranges Arranged arranged
    → (t : List ℕ) → IsBytes t → (r : Result P PathFault) → IsReading Arranged t r → reading_by arranged t ≡ r
one_reading Arranged arranged a t fits (Ok p) is = text_reads Arranged arranged a t p is
one_reading Arranged arranged a t fits (Err f) (inl stop) =
    ap (then_arranged arranged) (stops_read stop.0 (length t) t f stop.1.0 stop.1.1 stop.1.2 stop.1.3 stop.1.4 stop.1.5 fits (omega arith))
one_reading {P} Arranged arranged a t fits (Err f) (inr wrong) =
    ap (then_arranged arranged) (texts_read wrong.1.0 (length t) t wrong.1.1 (omega arith)) ∙ by_arranged (arranged wrong.1.0) refl
  where
    by_arranged : (r : Result P PathFault) → arranged wrong.1.0 ≡ r → arranged wrong.1.0 ≡ Err f
    by_arranged (Ok p) e = absurd (wrong.1.2 p (a.made wrong.1.0 p e))
    by_arranged (Err g) e = e ∙ ap Err (a.shape wrong.1.0 g e ∙ sym wrong.0)
