-- A walk over the segments of a text: what the draft so far and the segments ahead make.
use Rattle.std.proofs.Common.{Bool, true, false, eqb, ◌≡◌, ℕ, suc, ◌<◌, List, [], ◌∷◌, ◌++◌, length, Option, Some, None, Result, Ok, Err, refl, sym, ap, ◌∙◌, arith}
use Rattle.std.specs.Prelude.{option_to_list}
use Rattle.std.proofs.lemmas.List.{nil_from_length}
use Rattle.std.proofs.lemmas.Bool.{eqb-true}
use Rattle.cip_types.specs.FieldLaws.{IsBytes}
use Rattle.cip_epath.specs.declared.fault.PathFault.{PathFault}
use Rattle.cip_epath.specs.declared.fault.PathFault.TheVariants as fault
use Rattle.cip_epath.specs.declared.path.Target.{Target}
use Rattle.cip_epath.specs.declared.builder.Inhibits.{Inhibits}
use Rattle.cip_epath.specs.declared.builder.Inhibits.TheVariants as count
use Rattle.cip_epath.specs.declared.builder.TargetBuilder.{TargetBuilder}
use Rattle.cip_epath.specs.declared.builder.TargetBuilder.TheVariants as target
use Rattle.cip_epath.specs.declared.segment.LogicalType.TheVariants.{Class, Instance, Attribute}
use Rattle.cip_epath.specs.Segment.{SegmentValue, logical}
use Rattle.cip_epath.specs.Path.{PathFields, Role, key_role, class_role, point_role, data_role, role_of, inhibit_of, roles, inhibits}
use Rattle.cip_epath.specs.Reading.{◌>>=◌, Gives, seen, segment_at, segments_at, reading_by, with_points, with_key, with_inhibits, arranged_path, arranged_target, path_reading, target_reading}
use Rattle.cip_epath.specs.PathBuilder.{PathBuilderValue, start, keyed, classed, one, two, three, whole, misplaced, next, next_if, next_count, path_with, path_of, next_target, target_of}
use Rattle.cip_epath.specs.Laws.Taken.{segment_taken}
use Rattle.cip_epath.specs.Laws.Cuts.{behind, at_end, at_segment, at_fault, segment_shrinks, enough}

-- ---- one step of a reading, whatever the segments are to make

pub same_bind : {A B : Type 0} (r : Result A PathFault) (f g : A → Result B PathFault) → ((x : A) → f x ≡ g x) → (r >>= f) ≡ (r >>= g)
same_bind (Ok x) f g h = h x
same_bind (Err e) f g h = refl

bind_behind : {P : Type 0} (s : SegmentValue) (r : Result (List SegmentValue) PathFault) (f : List SegmentValue → Result P PathFault) → (behind s r >>= f) ≡ (r >>= λ others. f (s ∷ others))
bind_behind s (Ok others) f = refl
bind_behind s (Err e) f = refl

abbrev then_made : {P : Type 0} → (List SegmentValue → Result P PathFault) → Result (List SegmentValue) PathFault → Result P PathFault
then_made f r = r >>= f

pub reading_then : {P : Type 0} (f : List SegmentValue → Result P PathFault) (t : List ℕ) (s : SegmentValue) (rest : List ℕ) → IsBytes t → segment_at t ≡ Ok (s, rest)
    → reading_by f t ≡ reading_by (λ others. f (s ∷ others)) rest
reading_then f t s rest fits e =
    let shorter = segment_shrinks t s rest fits e in
    let fits' = (segment_taken t s rest fits e).taken.rest_fits in
    let more : segments_at (length t) t ≡ segments_at (suc (length t)) t = enough (length t) (suc (length t)) t fits (omega arith) (omega arith) in
    let less : segments_at (length t) rest ≡ segments_at (length rest) rest = enough (length t) (length rest) rest fits' (omega arith) (omega arith) in
    ap (then_made f) (more ∙ at_segment (length t) t s rest e ∙ ap (behind s) less) ∙ bind_behind s (segments_at (length rest) rest) f

pub reading_ends : {P : Type 0} (f : List SegmentValue → Result P PathFault) (t : List ℕ) → t ≡ [] → reading_by f t ≡ f []
reading_ends f t empty = ap (reading_by f) empty ∙ ap (then_made f) (at_end 0)

pub reading_stops : {P : Type 0} (f : List SegmentValue → Result P PathFault) (t : List ℕ) (e : PathFault) → IsBytes t → 0 < length t → segment_at t ≡ Err e → reading_by f t ≡ Err e
reading_stops f t e fits some is =
    let more : segments_at (length t) t ≡ segments_at (suc (length t)) t = enough (length t) (suc (length t)) t fits (omega arith) (omega arith) in
    ap (then_made f) (more ∙ at_fault (length t) t e some is)

pub some_left : (rest : List ℕ) (b : Bool) → b ≡ eqb (length rest) 0 → b ≡ false → 0 < length rest
some_left [] b is e = absurd cc
some_left (x ∷ rest) b is e = omega arith

pub none_left : (rest : List ℕ) (b : Bool) → b ≡ eqb (length rest) 0 → b ≡ true → rest ≡ []
none_left rest b is e = nil_from_length rest (eqb-true _ _ (sym is ∙ e))

pub gives_seen : {X Y : Type 0} (view : X → Y) (r : Result X PathFault) (reading : Result Y PathFault) → Gives view r reading → reading ≡ seen view r
gives_seen view (Ok x) reading h = h
gives_seen view (Err f) reading h = h

-- ---- connection paths

-- what a draft and the segments ahead make
abbrev pub folded : Inhibits → PathBuilderValue → List SegmentValue → Result PathFields PathFault
folded n d [] = path_of n d
folded n d (s ∷ segments) = folded (next_count (inhibit_of s) n) (next_if (role_of s) d) segments

-- what a draft and the roles ahead make
abbrev made : Option ℕ → PathBuilderValue → List Role → Result PathFields PathFault
made ms start rest = with_key ms rest
made ms (keyed k) rest = with_key ms (key_role k ∷ rest)
made ms (classed h) rest = with_points ms h.key h.class rest
made ms (one h a) rest = with_points ms h.key h.class (point_role a ∷ rest)
made ms (two h a b) rest = with_points ms h.key h.class (point_role a ∷ point_role b ∷ rest)
made ms (three h a b c) rest = with_points ms h.key h.class (point_role a ∷ point_role b ∷ point_role c ∷ rest)
made ms (whole h None a b d) rest = with_points ms h.key h.class (point_role a ∷ point_role b ∷ data_role d ∷ rest)
made ms (whole h (Some x) a b d) rest = with_points ms h.key h.class (point_role x ∷ point_role a ∷ point_role b ∷ data_role d ∷ rest)
made ms misplaced rest = Err fault.Shape

role_step : (ms : Option ℕ) (d : PathBuilderValue) (r : Role) (rest : List Role) → made ms d (r ∷ rest) ≡ made ms (next r d) rest
role_step ms start (key_role k) rest = refl
role_step ms start (class_role c) rest = refl
role_step ms start _ rest = refl
role_step ms (keyed k) (class_role c) rest = refl
role_step ms (keyed k) _ rest = refl
role_step ms (classed h) (point_role a) rest = refl
role_step ms (classed h) _ rest = refl
role_step ms (one h a) (point_role b) rest = refl
role_step ms (one h a) _ rest = refl
role_step ms (two h a b) (point_role c) rest = refl
role_step ms (two h a b) (data_role d) rest = refl
role_step ms (two h a b) _ rest = refl
role_step ms (three h a b c) (data_role d) rest = refl
role_step ms (three h a b c) _ rest = refl
role_step ms (whole h None a b d) (key_role k) rest = refl
role_step ms (whole h None a b d) _ rest = refl
role_step ms (whole h (Some x) a b d) (key_role k) rest = refl
role_step ms (whole h (Some x) a b d) _ rest = refl
role_step ms misplaced (key_role k) rest = refl
role_step ms misplaced _ rest = refl

nothing_ahead : (ms : Option ℕ) (d : PathBuilderValue) → path_with ms d ≡ made ms d []
nothing_ahead ms start = refl
nothing_ahead ms (keyed k) = refl
nothing_ahead ms (classed h) = refl
nothing_ahead ms (one h a) = refl
nothing_ahead ms (two h a b) = refl
nothing_ahead ms (three h a b c) = refl
nothing_ahead ms (whole h None a b d) = refl
nothing_ahead ms (whole h (Some x) a b d) = refl
nothing_ahead ms misplaced = refl

-- the times of a count of inhibit segments; two of them stand for several
abbrev times : Inhibits → List ℕ
times count.Nothing = []
times (count.One ms) = ms ∷ []
times count.Several = 0 ∷ 0 ∷ []

-- what the times of the inhibit segments, a draft and the roles ahead make
abbrev total : List ℕ → PathBuilderValue → List Role → Result PathFields PathFault
total [] d rest = made None d rest
total (ms ∷ []) d rest = made (Some ms) d rest
total (ms ∷ other ∷ more) d rest = Err fault.Shape

total_start : (l : List ℕ) (rest : List Role) → total l start rest ≡ with_inhibits l rest
total_start [] rest = refl
total_start (ms ∷ []) rest = refl
total_start (ms ∷ other ∷ more) rest = refl

total_ends : (n : Inhibits) (d : PathBuilderValue) → path_of n d ≡ total (times n ++ []) d []
total_ends count.Nothing d = nothing_ahead None d
total_ends (count.One ms) d = nothing_ahead (Some ms) d
total_ends count.Several d = refl

total_role : (l : List ℕ) (d : PathBuilderValue) (r : Role) (rest : List Role) → total l d (r ∷ rest) ≡ total l (next r d) rest
total_role [] d r rest = role_step None d r rest
total_role (ms ∷ []) d r rest = role_step (Some ms) d r rest
total_role (ms ∷ other ∷ more) d r rest = refl

total_roles : (l : List ℕ) (d : PathBuilderValue) (o : Option Role) (rest : List Role) → total l d (option_to_list o ++ rest) ≡ total l (next_if o d) rest
total_roles l d None rest = refl
total_roles l d (Some r) rest = total_role l d r rest

total_times : (n : Inhibits) (o : Option ℕ) (l : List ℕ) (d : PathBuilderValue) (rest : List Role) → total (times n ++ (option_to_list o ++ l)) d rest ≡ total (times (next_count o n) ++ l) d rest
total_times n None l d rest = refl
total_times count.Nothing (Some ms) l d rest = refl
total_times (count.One other) (Some ms) l d rest = refl
total_times count.Several (Some ms) l d rest = refl

folded_is : (n : Inhibits) (d : PathBuilderValue) (segments : List SegmentValue) → folded n d segments ≡ total (times n ++ inhibits segments) d (roles segments)
folded_is n d [] = total_ends n d
folded_is n d (s ∷ segments) =
    folded_is (next_count (inhibit_of s) n) (next_if (role_of s) d) segments
    ∙ sym (total_times n (inhibit_of s) (inhibits segments) (next_if (role_of s) d) (roles segments))
    ∙ sym (total_roles (times n ++ (option_to_list (inhibit_of s) ++ inhibits segments)) d (role_of s) (roles segments))

-- the text reads as the draft and the bytes ahead do
pub record IsPathWalk (text rest : List ℕ) (n : Inhibits) (d : PathBuilderValue) : Type 0 where
  pub fits : IsBytes rest
  pub same : path_reading text ≡ reading_by (folded n d) rest

pub path_starts : (text : List ℕ) → IsBytes text → IsPathWalk text text count.Nothing start
unfolding path_reading
path_starts text fits = record {
  fits = fits;
  same = same_bind (segments_at (length text) text) arranged_path (folded count.Nothing start) (λ segments. sym (folded_is count.Nothing start segments ∙ total_start (inhibits segments) (roles segments)));
}

pub path_then : (text rest : List ℕ) (n : Inhibits) (d : PathBuilderValue) (s : SegmentValue) (after : List ℕ) → IsPathWalk text rest n d → segment_at rest ≡ Ok (s, after) → IsPathWalk text after (next_count (inhibit_of s) n) (next_if (role_of s) d)
path_then text rest n d s after w e = record {
  fits = (segment_taken rest s after w.fits e).taken.rest_fits;
  same = w.same ∙ reading_then (folded n d) rest s after w.fits e;
}

pub path_ends : (text rest : List ℕ) (n : Inhibits) (d : PathBuilderValue) → IsPathWalk text rest n d → rest ≡ [] → path_reading text ≡ path_of n d
path_ends text rest n d w empty = w.same ∙ reading_ends (folded n d) rest empty

pub path_stops : (text rest : List ℕ) (n : Inhibits) (d : PathBuilderValue) (f : PathFault) → IsPathWalk text rest n d → 0 < length rest → segment_at rest ≡ Err f → path_reading text ≡ Err f
path_stops text rest n d f w some e = w.same ∙ reading_stops (folded n d) rest f w.fits some e

-- ---- targets

-- what a draft and the segments ahead make
abbrev pub target_folded : TargetBuilder → List SegmentValue → Result Target PathFault
target_folded d [] = target_of d
target_folded d (s ∷ segments) = target_folded (next_target s d) segments

-- the same by the arrangement
abbrev target_total : TargetBuilder → List SegmentValue → Result Target PathFault
target_total target.Start rest = arranged_target rest
target_total (target.Classed c) rest = arranged_target (logical Class c ∷ rest)
target_total (target.Instanced c i) rest = arranged_target (logical Class c ∷ logical Instance i ∷ rest)
target_total (target.Whole c i a) rest = arranged_target (logical Class c ∷ logical Instance i ∷ logical Attribute a ∷ rest)
target_total target.Misplaced rest = Err fault.Shape

target_step : (d : TargetBuilder) (s : SegmentValue) (rest : List SegmentValue) → target_total d (s ∷ rest) ≡ target_total (next_target s d) rest
target_step target.Start (logical Class c) rest = refl
target_step target.Start _ rest = refl
target_step (target.Classed c) (logical Instance i) rest = refl
target_step (target.Classed c) _ rest = refl
target_step (target.Instanced c i) (logical Attribute a) rest = refl
target_step (target.Instanced c i) _ rest = refl
target_step (target.Whole c i a) (logical Class x) rest = refl
target_step (target.Whole c i a) _ rest = refl
target_step target.Misplaced (logical Class x) rest = refl
target_step target.Misplaced _ rest = refl

target_ahead : (d : TargetBuilder) → target_of d ≡ target_total d []
target_ahead target.Start = refl
target_ahead (target.Classed c) = refl
target_ahead (target.Instanced c i) = refl
target_ahead (target.Whole c i a) = refl
target_ahead target.Misplaced = refl

target_folded_is : (d : TargetBuilder) (segments : List SegmentValue) → target_folded d segments ≡ target_total d segments
target_folded_is d [] = target_ahead d
target_folded_is d (s ∷ segments) = target_folded_is (next_target s d) segments ∙ sym (target_step d s segments)

-- the text reads as the draft and the bytes ahead do
pub record IsTargetWalk (text rest : List ℕ) (d : TargetBuilder) : Type 0 where
  pub fits : IsBytes rest
  pub same : target_reading text ≡ reading_by (target_folded d) rest

pub target_starts : (text : List ℕ) → IsBytes text → IsTargetWalk text text target.Start
unfolding target_reading
target_starts text fits = record {
  fits = fits;
  same = same_bind (segments_at (length text) text) arranged_target (target_folded target.Start) (λ segments. sym (target_folded_is target.Start segments));
}

pub target_then : (text rest : List ℕ) (d : TargetBuilder) (s : SegmentValue) (after : List ℕ) → IsTargetWalk text rest d → segment_at rest ≡ Ok (s, after) → IsTargetWalk text after (next_target s d)
target_then text rest d s after w e = record {
  fits = (segment_taken rest s after w.fits e).taken.rest_fits;
  same = w.same ∙ reading_then (target_folded d) rest s after w.fits e;
}

pub target_ends : (text rest : List ℕ) (d : TargetBuilder) → IsTargetWalk text rest d → rest ≡ [] → target_reading text ≡ target_of d
target_ends text rest d w empty = w.same ∙ reading_ends (target_folded d) rest empty

pub target_stops : (text rest : List ℕ) (d : TargetBuilder) (f : PathFault) → IsTargetWalk text rest d → 0 < length rest → segment_at rest ≡ Err f → target_reading text ≡ Err f
target_stops text rest d f w some e = w.same ∙ reading_stops (target_folded d) rest f w.fits some e
