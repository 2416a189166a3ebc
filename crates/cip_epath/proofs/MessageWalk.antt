-- A walk over the path of a class 3 connection: what the state so far and the segments ahead make.
use Rattle.std.proofs.Common.{Bool, true, false, eqb, ◌≡◌, ℕ, ◌<◌, List, [], ◌∷◌, length, Option, Some, None, Result, Ok, Err, refl, sym, ap, subst, ◌∙◌, inl, inr}
use Rattle.std.specs.Prelude.{◌==◌, ◌&&◌, if◌then◌else◌}
use Rattle.std.proofs.lemmas.Bool.{eqb-true, cases_Bool, and_parts}
use Rattle.cip_types.specs.FieldLaws.{IsBytes}
use Rattle.cip_epath.specs.declared.fault.PathFault.{PathFault}
use Rattle.cip_epath.specs.declared.fault.PathFault.TheVariants as fault
use Rattle.cip_epath.specs.declared.segment.LogicalType.TheVariants.{Class, Instance}
use Rattle.cip_epath.specs.ElectronicKey.{KeyFields}
use Rattle.cip_epath.specs.Segment.{SegmentValue, logical, key}
use Rattle.cip_epath.specs.Path.{IsReading}
use Rattle.cip_epath.specs.Reading.{segment_at, segments_at, reading_by}
use Rattle.cip_epath.specs.MessagePath.{IsMessagePath, with_router, arranged_message, message_path_reading}
use Rattle.cip_epath.specs.MessageBuilder.{MessageBuilderValue, start, keyed, classed, whole, misplaced, after_class, after_instance, next_message, message_of}
use Rattle.cip_epath.specs.Laws.Taken.{segment_taken}
use Rattle.cip_epath.specs.Laws.Cuts.{Arranges, reading_is, one_reading}
use Rattle.cip_epath.proofs.Walks.{same_bind, reading_then, reading_ends, reading_stops}

-- ---- what the arrangement gives is what is arranged so

chosen : (b : Bool) (k p : Option KeyFields) → (if b then Ok k else Err fault.Shape) ≡ Ok p → (b ≡ true) × (k ≡ p)
chosen true k p e = (refl, cc)
chosen false k p e = absurd cc

router_made : (k : Option KeyFields) (rest : List SegmentValue) (p : Option KeyFields) → with_router k rest ≡ Ok p → (k ≡ p) × (rest ≡ logical Class 2 ∷ logical Instance 1 ∷ [])
router_made k (logical Class c ∷ logical Instance i ∷ []) p e =
    let g = chosen (c == 2 && i == 1) k p e in
    let h = and_parts _ _ g.0 in
    (g.1, ap (λ (n : ℕ). logical Class n ∷ logical Instance i ∷ []) (eqb-true c 2 h.0) ∙ ap (λ (n : ℕ). logical Class 2 ∷ logical Instance n ∷ []) (eqb-true i 1 h.1))
router_made _ _ p e = absurd cc

message_made : (segments : List SegmentValue) (p : Option KeyFields) → arranged_message segments ≡ Ok p → IsMessagePath segments p
message_made (key k ∷ rest) p e = let m = router_made (Some k) rest p e in subst (IsMessagePath (key k ∷ rest)) m.0 (ap (λ (x : List SegmentValue). key k ∷ x) m.1)
message_made rest p e = let m = router_made None rest p e in subst (IsMessagePath rest) m.0 m.1

message_makes : (p : Option KeyFields) (segments : List SegmentValue) → IsMessagePath segments p → arranged_message segments ≡ Ok p
message_makes None segments is = ap arranged_message is
message_makes (Some k) segments is = ap arranged_message is

chosen_shape : (b : Bool) (k : Option KeyFields) (f : PathFault) → (if b then Ok k else Err fault.Shape) ≡ Err f → f ≡ fault.Shape
chosen_shape true k f e = absurd cc
chosen_shape false k f e = cc

router_shape : (k : Option KeyFields) (rest : List SegmentValue) (f : PathFault) → with_router k rest ≡ Err f → f ≡ fault.Shape
router_shape k (logical Class c ∷ logical Instance i ∷ []) f e = chosen_shape (c == 2 && i == 1) k f e
router_shape _ _ f e = cc

message_shape : (segments : List SegmentValue) (f : PathFault) → arranged_message segments ≡ Err f → f ≡ fault.Shape
message_shape (key k ∷ rest) f e = router_shape (Some k) rest f e
message_shape rest f e = router_shape None rest f e

message_arranges : Arranges IsMessagePath arranged_message
message_arranges = record { made = message_made; makes = λ segments p is. message_makes p segments is; shape = message_shape }

-- the reading of bytes is one
pub message_reading_is : (t : List ℕ) → IsBytes t → IsReading IsMessagePath t (message_path_reading t)
unfolding message_path_reading
message_reading_is t fits = reading_is IsMessagePath arranged_message message_arranges t fits

-- and there is no other
pub one_message_reading : (t : List ℕ) → IsBytes t → (r : Result (Option KeyFields) PathFault) → IsReading IsMessagePath t r → message_path_reading t ≡ r
unfolding message_path_reading
one_message_reading t fits r is = one_reading IsMessagePath arranged_message message_arranges t fits r is

-- ---- the walk

-- what a state and the segments ahead make
abbrev pub message_folded : MessageBuilderValue → List SegmentValue → Result (Option KeyFields) PathFault
message_folded d [] = message_of d
message_folded d (s ∷ segments) = message_folded (next_message s d) segments

-- the same by the arrangement
abbrev message_total : MessageBuilderValue → List SegmentValue → Result (Option KeyFields) PathFault
message_total start rest = arranged_message rest
message_total (keyed k) rest = with_router (Some k) rest
message_total (classed k) rest = with_router k (logical Class 2 ∷ rest)
message_total (whole k) rest = with_router k (logical Class 2 ∷ logical Instance 1 ∷ rest)
message_total misplaced rest = Err fault.Shape

other_class : (k : Option KeyFields) (c : ℕ) (rest : List SegmentValue) → eqb c 2 ≡ false → with_router k (logical Class c ∷ rest) ≡ Err fault.Shape
other_class k c (logical Instance i ∷ []) f = rw f refl
other_class k c _ f = refl

other_instance : (k : Option KeyFields) (i : ℕ) (rest : List SegmentValue) → eqb i 1 ≡ false → with_router k (logical Class 2 ∷ logical Instance i ∷ rest) ≡ Err fault.Shape
other_instance k i [] f = rw f refl
other_instance k i (s ∷ rest) f = refl

class_step : (k : Option KeyFields) (c : ℕ) (rest : List SegmentValue) → with_router k (logical Class c ∷ rest) ≡ message_total (after_class k c) rest
class_step k c rest =
    elim (cases_Bool (eqb c 2)) [
      | inl same ↦ rw same (ap (λ (n : ℕ). with_router k (logical Class n ∷ rest)) (eqb-true c 2 same))
      | inr other ↦ rw other (other_class k c rest other)
    ]

instance_step : (k : Option KeyFields) (i : ℕ) (rest : List SegmentValue) → with_router k (logical Class 2 ∷ logical Instance i ∷ rest) ≡ message_total (after_instance k i) rest
instance_step k i rest =
    elim (cases_Bool (eqb i 1)) [
      | inl same ↦ rw same (ap (λ (n : ℕ). with_router k (logical Class 2 ∷ logical Instance n ∷ rest)) (eqb-true i 1 same))
      | inr other ↦ rw other (other_instance k i rest other)
    ]

message_step : (d : MessageBuilderValue) (s : SegmentValue) (rest : List SegmentValue) → message_total d (s ∷ rest) ≡ message_total (next_message s d) rest
message_step start (key k) rest = refl
message_step start (logical Class c) rest = class_step None c rest
message_step start _ rest = refl
message_step (keyed k) (logical Class c) rest = class_step (Some k) c rest
message_step (keyed k) _ rest = refl
message_step (classed k) (logical Instance i) rest = instance_step k i rest
message_step (classed k) _ rest = refl
message_step (whole k) (logical Class x) rest = refl
message_step (whole k) _ rest = refl
message_step misplaced (logical Class x) rest = refl
message_step misplaced _ rest = refl

message_ahead : (d : MessageBuilderValue) → message_of d ≡ message_total d []
message_ahead start = refl
message_ahead (keyed k) = refl
message_ahead (classed k) = refl
message_ahead (whole k) = refl
message_ahead misplaced = refl

pub message_folded_is : (d : MessageBuilderValue) (segments : List SegmentValue) → message_folded d segments ≡ message_total d segments
message_folded_is d [] = message_ahead d
message_folded_is d (s ∷ segments) = message_folded_is (next_message s d) segments ∙ sym (message_step d s segments)

-- the text reads as the state and the bytes ahead do
pub record IsMessageWalk (text rest : List ℕ) (d : MessageBuilderValue) : Type 0 where
  pub fits : IsBytes rest
  pub same : message_path_reading text ≡ reading_by (message_folded d) rest

pub message_starts : (text : List ℕ) → IsBytes text → IsMessageWalk text text start
unfolding message_path_reading
message_starts text fits = record {
  fits = fits;
  same = same_bind (segments_at (length text) text) arranged_message (message_folded start) (λ segments. sym (message_folded_is start segments));
}

pub message_then : (text rest : List ℕ) (d : MessageBuilderValue) (s : SegmentValue) (after : List ℕ) → IsMessageWalk text rest d → segment_at rest ≡ Ok (s, after) → IsMessageWalk text after (next_message s d)
message_then text rest d s after w e = record {
  fits = (segment_taken rest s after w.fits e).taken.rest_fits;
  same = w.same ∙ reading_then (message_folded d) rest s after w.fits e;
}

pub message_ends : (text rest : List ℕ) (d : MessageBuilderValue) → IsMessageWalk text rest d → rest ≡ [] → message_path_reading text ≡ message_of d
message_ends text rest d w empty = w.same ∙ reading_ends (message_folded d) rest empty

pub message_stops : (text rest : List ℕ) (d : MessageBuilderValue) (f : PathFault) → IsMessageWalk text rest d → 0 < length rest → segment_at rest ≡ Err f → message_path_reading text ≡ Err f
message_stops text rest d f w some e = w.same ∙ reading_stops (message_folded d) rest f w.fits some e
