-- A walk over a path in any form: what the state so far and the segments ahead make.
use Rattle.std.proofs.Common.{Bool, true, false, eqb, ◌≡◌, ℕ, suc, ◌<◌, List, [], ◌∷◌, ◌++◌, length, Option, Some, None, Result, Ok, Err, refl, sym, ap, ◌∙◌, arith, inl, inr}
use Rattle.std.specs.Prelude.{option_to_list}
use Rattle.std.proofs.lemmas.Bool.{eqb-true, cases_Bool}
use Rattle.cip_types.specs.FieldLaws.{IsBytes}
use Rattle.cip_epath.specs.declared.fault.PathFault.{PathFault}
use Rattle.cip_epath.specs.declared.fault.PathFault.TheVariants as fault
use Rattle.cip_epath.specs.declared.builder.Inhibits.{Inhibits}
use Rattle.cip_epath.specs.declared.builder.Inhibits.TheVariants as count
use Rattle.cip_epath.specs.ElectronicKey.{KeyFields}
use Rattle.cip_epath.specs.Segment.{SegmentValue}
use Rattle.cip_epath.specs.Path.{PathFields, Role, key_role, class_role, point_role, data_role, no_role, role_of, inhibit_of, roles, inhibits}
use Rattle.cip_epath.specs.Reading.{◌>>=◌, with_points}
use Rattle.cip_epath.specs.PathBuilder.{PathHeadFields, start, keyed, classed, one, two, three, whole, misplaced, next_count}
use Rattle.cip_epath.specs.AnyPath.{any_segment_at, any_segments_at, any_reading_by, without_class, with_any_points, with_first_class, with_any_key, with_any_inhibits, arranged_any_path, any_path_reading, any_message_reading}
use Rattle.cip_epath.specs.AnyBuilder.{AnyBuilderValue, plain, one_again, two_again, after_class, next_any, next_any_if, any_path_of}
use Rattle.cip_epath.specs.MessagePath.{arranged_message}
use Rattle.cip_epath.specs.MessageBuilder.{MessageBuilderValue, next_message, message_of}
use Rattle.cip_epath.specs.MessageBuilder as messages
use Rattle.cip_epath.specs.Laws.Cuts.{behind}
use Rattle.cip_epath.specs.Laws.AnyLaws.{any_behind, any_at_end, any_at_segment, any_at_fault, any_enough}
use Rattle.cip_epath.proofs.Walks.{same_bind}
use Rattle.cip_epath.proofs.MessageWalk.{message_folded, message_folded_is}

-- ---- one step of a reading, whatever the segments are to make

bind_behind : {P : Type 0} (s : SegmentValue) (r : Result (List SegmentValue) PathFault) (f : List SegmentValue → Result P PathFault) → (behind s r >>= f) ≡ (r >>= λ others. f (s ∷ others))
bind_behind s (Ok others) f = refl
bind_behind s (Err e) f = refl

abbrev then_made : {P : Type 0} → (List SegmentValue → Result P PathFault) → Result (List SegmentValue) PathFault → Result P PathFault
then_made f r = r >>= f

reading_then : {P : Type 0} (f : List SegmentValue → Result P PathFault) (t : List ℕ) (s : SegmentValue) (rest : List ℕ) → IsBytes t → any_segment_at t ≡ Ok (s, rest)
    → any_reading_by f t ≡ any_reading_by (λ others. f (s ∷ others)) rest
reading_then f t s rest fits e =
    let k = any_behind t s rest fits e in
    let more : any_segments_at (length t) t ≡ any_segments_at (suc (length t)) t = any_enough (length t) (suc (length t)) t fits (omega arith) (omega arith) in
    let less : any_segments_at (length t) rest ≡ any_segments_at (length rest) rest = any_enough (length t) (length rest) rest k.fits (omega (arith, k.shorter)) (omega arith) in
    ap (then_made f) (more ∙ any_at_segment (length t) t s rest e ∙ ap (behind s) less) ∙ bind_behind s (any_segments_at (length rest) rest) f

reading_ends : {P : Type 0} (f : List SegmentValue → Result P PathFault) (t : List ℕ) → t ≡ [] → any_reading_by f t ≡ f []
reading_ends f t empty = ap (any_reading_by f) empty ∙ ap (then_made f) (any_at_end 0)

reading_stops : {P : Type 0} (f : List SegmentValue → Result P PathFault) (t : List ℕ) (e : PathFault) → IsBytes t → 0 < length t → any_segment_at t ≡ Err e → any_reading_by f t ≡ Err e
reading_stops f t e fits some is =
    let more : any_segments_at (length t) t ≡ any_segments_at (suc (length t)) t = any_enough (length t) (suc (length t)) t fits (omega arith) (omega arith) in
    ap (then_made f) (more ∙ any_at_fault (length t) t e some is)

-- ---- connection paths

-- what a state and the segments ahead make
abbrev pub any_folded : Inhibits → AnyBuilderValue → List SegmentValue → Result PathFields PathFault
any_folded n d [] = any_path_of n d
any_folded n d (s ∷ segments) = any_folded (next_count (inhibit_of s) n) (next_any_if (role_of s) d) segments

-- the roles behind the first point, of which the class is said again
abbrev again : ℕ → List Role → List Role
again c rest = without_class c (class_role c ∷ rest)

-- what a state and the roles ahead make
abbrev made : Option ℕ → AnyBuilderValue → List Role → Result PathFields PathFault
made ms (plain start) rest = with_any_key ms rest
made ms (plain (keyed k)) rest = with_first_class ms (Some k) rest
made ms (plain (classed h)) rest = with_any_points ms h.key h.class rest
made ms (plain (one h a)) rest = with_points ms h.key h.class (point_role a ∷ without_class h.class rest)
made ms (plain (two h a b)) rest = with_points ms h.key h.class (point_role a ∷ point_role b ∷ without_class h.class rest)
made ms (plain (three h a b c)) rest = with_points ms h.key h.class (point_role a ∷ point_role b ∷ point_role c ∷ without_class h.class rest)
made ms (plain (whole h None a b d)) rest = with_points ms h.key h.class (point_role a ∷ point_role b ∷ data_role d ∷ without_class h.class rest)
made ms (plain (whole h (Some x) a b d)) rest = with_points ms h.key h.class (point_role x ∷ point_role a ∷ point_role b ∷ data_role d ∷ without_class h.class rest)
made ms (plain misplaced) rest = Err fault.Shape
made ms (one_again h a) rest = with_points ms h.key h.class (point_role a ∷ again h.class rest)
made ms (two_again h a b) rest = with_points ms h.key h.class (point_role a ∷ point_role b ∷ again h.class rest)

-- another class than the path's stays
other_class : (c x : ℕ) (rest : List Role) → eqb x c ≡ false → without_class c (class_role x ∷ rest) ≡ class_role x ∷ without_class c rest
other_class c x [] e = refl
other_class c x (point_role p ∷ rest) e = rw e refl
other_class c x (key_role k ∷ rest) e = refl
other_class c x (class_role y ∷ rest) e = refl
other_class c x (data_role d ∷ rest) e = refl
other_class c x (no_role ∷ rest) e = refl

-- a class behind the first point
one_class : (ms : Option ℕ) (h : PathHeadFields) (a x : ℕ) (rest : List Role) → made ms (plain (one h a)) (class_role x ∷ rest) ≡ made ms (after_class x (one h a)) rest
one_class ms h a x rest =
    elim (cases_Bool (eqb x h.class)) [
      | inl same ↦ rw same (ap (λ (c : ℕ). with_points ms h.key h.class (point_role a ∷ without_class h.class (class_role c ∷ rest))) (eqb-true x h.class same))
      | inr other ↦ rw other (ap (λ (l : List Role). with_points ms h.key h.class (point_role a ∷ l)) (other_class h.class x rest other))
    ]

-- and behind the second
two_class : (ms : Option ℕ) (h : PathHeadFields) (a b x : ℕ) (rest : List Role) → made ms (plain (two h a b)) (class_role x ∷ rest) ≡ made ms (after_class x (two h a b)) rest
two_class ms h a b x rest =
    elim (cases_Bool (eqb x h.class)) [
      | inl same ↦ rw same (ap (λ (c : ℕ). with_points ms h.key h.class (point_role a ∷ point_role b ∷ without_class h.class (class_role c ∷ rest))) (eqb-true x h.class same))
      | inr other ↦ rw other (ap (λ (l : List Role). with_points ms h.key h.class (point_role a ∷ point_role b ∷ l)) (other_class h.class x rest other))
    ]

-- behind the third point there is no point
three_class : (ms : Option ℕ) (k : Option KeyFields) (c a b p x : ℕ) (rest : List Role) (t : Bool) → eqb x c ≡ t
    → with_points ms k c (point_role a ∷ point_role b ∷ point_role p ∷ without_class c (class_role x ∷ rest)) ≡ Err fault.Shape
three_class ms k c a b p x (point_role q ∷ rest) true e = rw e refl
three_class ms k c a b p x (point_role q ∷ rest) false e = rw e refl
three_class ms k c a b p x [] t e = refl
three_class ms k c a b p x (key_role y ∷ rest) t e = refl
three_class ms k c a b p x (class_role y ∷ rest) t e = refl
three_class ms k c a b p x (data_role y ∷ rest) t e = refl
three_class ms k c a b p x (no_role ∷ rest) t e = refl

-- some role is left
record IsSome (l : List Role) : Type 0 where
  first : Role
  others : List Role
  parts : l ≡ first ∷ others

class_left : (c x : ℕ) (rest : List Role) (t : Bool) → eqb x c ≡ t → IsSome (without_class c (class_role x ∷ rest))
class_left c x (point_role q ∷ rest) true e = record { first = point_role q; others = without_class c rest; parts = rw e refl }
class_left c x rest false e = record { first = class_role x; others = without_class c rest; parts = other_class c x rest e }
class_left c x [] true e = record { first = class_role x; others = []; parts = refl }
class_left c x (key_role y ∷ rest) true e = record { first = class_role x; others = without_class c (key_role y ∷ rest); parts = refl }
class_left c x (class_role y ∷ rest) true e = record { first = class_role x; others = without_class c (class_role y ∷ rest); parts = refl }
class_left c x (data_role y ∷ rest) true e = record { first = class_role x; others = without_class c (data_role y ∷ rest); parts = refl }
class_left c x (no_role ∷ rest) true e = record { first = class_role x; others = without_class c (no_role ∷ rest); parts = refl }

some_left : (c : ℕ) (r : Role) (rest : List Role) → IsSome (without_class c (r ∷ rest))
some_left c (class_role x) rest = class_left c x rest (eqb x c) refl
some_left c (key_role k) rest = record { first = key_role k; others = without_class c rest; parts = refl }
some_left c (point_role p) rest = record { first = point_role p; others = without_class c rest; parts = refl }
some_left c (data_role d) rest = record { first = data_role d; others = without_class c rest; parts = refl }
some_left c no_role rest = record { first = no_role; others = without_class c rest; parts = refl }

-- nothing comes behind the data
two_whole : (ms : Option ℕ) (h : PathHeadFields) (a b : ℕ) (d : List ℕ) (r : Role) (rest : List Role) → made ms (plain (whole h None a b d)) (r ∷ rest) ≡ Err fault.Shape
two_whole ms h a b d r rest = let s = some_left h.class r rest in ap (λ (l : List Role). with_points ms h.key h.class (point_role a ∷ point_role b ∷ data_role d ∷ l)) s.parts

three_whole : (ms : Option ℕ) (h : PathHeadFields) (x a b : ℕ) (d : List ℕ) (r : Role) (rest : List Role) → made ms (plain (whole h (Some x) a b d)) (r ∷ rest) ≡ Err fault.Shape
three_whole ms h x a b d r rest = let s = some_left h.class r rest in ap (λ (l : List Role). with_points ms h.key h.class (point_role x ∷ point_role a ∷ point_role b ∷ data_role d ∷ l)) s.parts

-- the class again has a point behind it
again_point : (c p : ℕ) (rest : List Role) → again c (point_role p ∷ rest) ≡ point_role p ∷ without_class c rest
again_point c p rest = rw (same c) refl
  where
    same : (n : ℕ) → eqb n n ≡ true
    same n = search arith

after_misplaced : (ms : Option ℕ) (role : Role) (rest : List Role) → made ms (next_any role (plain misplaced)) rest ≡ Err fault.Shape
after_misplaced ms (class_role c) rest = refl
after_misplaced ms (key_role k) rest = refl
after_misplaced ms _ rest = refl

after_whole : (ms : Option ℕ) (h : PathHeadFields) (config : Option ℕ) (a b : ℕ) (d : List ℕ) (role : Role) (rest : List Role) → made ms (next_any role (plain (whole h config a b d))) rest ≡ Err fault.Shape
after_whole ms h config a b d (class_role c) rest = refl
after_whole ms h config a b d (key_role k) rest = refl
after_whole ms h config a b d _ rest = refl

role_step : (ms : Option ℕ) (d : AnyBuilderValue) (r : Role) (rest : List Role) → made ms d (r ∷ rest) ≡ made ms (next_any r d) rest
role_step ms (plain start) (key_role k) rest = refl
role_step ms (plain start) (class_role c) rest = refl
role_step ms (plain start) _ rest = refl
role_step ms (plain (keyed k)) (class_role c) rest = refl
role_step ms (plain (keyed k)) _ rest = refl
role_step ms (plain (classed h)) (point_role a) rest = refl
role_step ms (plain (classed h)) (class_role a) rest = refl
role_step ms (plain (classed h)) _ rest = refl
role_step ms (plain (one h a)) (class_role x) rest = one_class ms h a x rest
role_step ms (plain (one h a)) (point_role b) rest = refl
role_step ms (plain (one h a)) _ rest = refl
role_step ms (plain (two h a b)) (class_role x) rest = two_class ms h a b x rest
role_step ms (plain (two h a b)) (point_role c) rest = refl
role_step ms (plain (two h a b)) (data_role d) rest = refl
role_step ms (plain (two h a b)) _ rest = refl
role_step ms (plain (three h a b c)) (class_role x) rest = three_class ms h.key h.class a b c x rest (eqb x h.class) refl
role_step ms (plain (three h a b c)) (data_role d) rest = refl
role_step ms (plain (three h a b c)) _ rest = refl
role_step ms (plain (whole h None a b d)) r rest = two_whole ms h a b d r rest ∙ sym (after_whole ms h None a b d r rest)
role_step ms (plain (whole h (Some x) a b d)) r rest = three_whole ms h x a b d r rest ∙ sym (after_whole ms h (Some x) a b d r rest)
role_step ms (plain misplaced) r rest = sym (after_misplaced ms r rest)
role_step ms (one_again h a) (point_role b) rest = ap (λ (l : List Role). with_points ms h.key h.class (point_role a ∷ l)) (again_point h.class b rest)
role_step ms (one_again h a) (class_role x) rest = refl
role_step ms (one_again h a) _ rest = refl
role_step ms (two_again h a b) (point_role c) rest = ap (λ (l : List Role). with_points ms h.key h.class (point_role a ∷ point_role b ∷ l)) (again_point h.class c rest)
role_step ms (two_again h a b) (class_role x) rest = refl
role_step ms (two_again h a b) _ rest = refl

-- the times of a count of inhibit segments; two of them stand for several
abbrev times : Inhibits → List ℕ
times count.Nothing = []
times (count.One ms) = ms ∷ []
times count.Several = 0 ∷ 0 ∷ []

-- what the times of the inhibit segments, a state and the roles ahead make
abbrev total : List ℕ → AnyBuilderValue → List Role → Result PathFields PathFault
total [] d rest = made None d rest
total (ms ∷ []) d rest = made (Some ms) d rest
total (ms ∷ other ∷ more) d rest = Err fault.Shape

total_start : (l : List ℕ) (rest : List Role) → total l (plain start) rest ≡ with_any_inhibits l rest
total_start [] rest = refl
total_start (ms ∷ []) rest = refl
total_start (ms ∷ other ∷ more) rest = refl

nothing_ahead : (n : Inhibits) (d : AnyBuilderValue) → any_path_of n d ≡ total (times n ++ []) d []
nothing_ahead count.Several (plain d) = refl
nothing_ahead count.Several (one_again h a) = refl
nothing_ahead count.Several (two_again h a b) = refl
nothing_ahead count.Nothing (one_again h a) = refl
nothing_ahead count.Nothing (two_again h a b) = refl
nothing_ahead (count.One ms) (one_again h a) = refl
nothing_ahead (count.One ms) (two_again h a b) = refl
nothing_ahead count.Nothing (plain start) = refl
nothing_ahead count.Nothing (plain (keyed k)) = refl
nothing_ahead count.Nothing (plain (classed h)) = refl
nothing_ahead count.Nothing (plain (one h a)) = refl
nothing_ahead count.Nothing (plain (two h a b)) = refl
nothing_ahead count.Nothing (plain (three h a b c)) = refl
nothing_ahead count.Nothing (plain (whole h None a b d)) = refl
nothing_ahead count.Nothing (plain (whole h (Some x) a b d)) = refl
nothing_ahead count.Nothing (plain misplaced) = refl
nothing_ahead (count.One ms) (plain start) = refl
nothing_ahead (count.One ms) (plain (keyed k)) = refl
nothing_ahead (count.One ms) (plain (classed h)) = refl
nothing_ahead (count.One ms) (plain (one h a)) = refl
nothing_ahead (count.One ms) (plain (two h a b)) = refl
nothing_ahead (count.One ms) (plain (three h a b c)) = refl
nothing_ahead (count.One ms) (plain (whole h None a b d)) = refl
nothing_ahead (count.One ms) (plain (whole h (Some x) a b d)) = refl
nothing_ahead (count.One ms) (plain misplaced) = refl

total_role : (l : List ℕ) (d : AnyBuilderValue) (r : Role) (rest : List Role) → total l d (r ∷ rest) ≡ total l (next_any r d) rest
total_role [] d r rest = role_step None d r rest
total_role (ms ∷ []) d r rest = role_step (Some ms) d r rest
total_role (ms ∷ other ∷ more) d r rest = refl

total_roles : (l : List ℕ) (d : AnyBuilderValue) (o : Option Role) (rest : List Role) → total l d (option_to_list o ++ rest) ≡ total l (next_any_if o d) rest
total_roles l d None rest = refl
total_roles l d (Some r) rest = total_role l d r rest

total_times : (n : Inhibits) (o : Option ℕ) (l : List ℕ) (d : AnyBuilderValue) (rest : List Role) → total (times n ++ (option_to_list o ++ l)) d rest ≡ total (times (next_count o n) ++ l) d rest
total_times n None l d rest = refl
total_times count.Nothing (Some ms) l d rest = refl
total_times (count.One other) (Some ms) l d rest = refl
total_times count.Several (Some ms) l d rest = refl

folded_is : (n : Inhibits) (d : AnyBuilderValue) (segments : List SegmentValue) → any_folded n d segments ≡ total (times n ++ inhibits segments) d (roles segments)
folded_is n d [] = nothing_ahead n d
folded_is n d (s ∷ segments) =
    folded_is (next_count (inhibit_of s) n) (next_any_if (role_of s) d) segments
    ∙ sym (total_times n (inhibit_of s) (inhibits segments) (next_any_if (role_of s) d) (roles segments))
    ∙ sym (total_roles (times n ++ (option_to_list (inhibit_of s) ++ inhibits segments)) d (role_of s) (roles segments))

-- the text reads as the state and the bytes ahead do
pub record IsAnyWalk (text rest : List ℕ) (n : Inhibits) (d : AnyBuilderValue) : Type 0 where
  pub fits : IsBytes rest
  pub same : any_path_reading text ≡ any_reading_by (any_folded n d) rest

pub any_starts : (text : List ℕ) → IsBytes text → IsAnyWalk text text count.Nothing (plain start)
unfolding any_path_reading
any_starts text fits = record {
  fits = fits;
  same = same_bind (any_segments_at (length text) text) arranged_any_path (any_folded count.Nothing (plain start)) (λ segments. sym (folded_is count.Nothing (plain start) segments ∙ total_start (inhibits segments) (roles segments)));
}

pub any_then : (text rest : List ℕ) (n : Inhibits) (d : AnyBuilderValue) (s : SegmentValue) (after : List ℕ) → IsAnyWalk text rest n d → any_segment_at rest ≡ Ok (s, after) → IsAnyWalk text after (next_count (inhibit_of s) n) (next_any_if (role_of s) d)
any_then text rest n d s after w e = record {
  fits = (any_behind rest s after w.fits e).fits;
  same = w.same ∙ reading_then (any_folded n d) rest s after w.fits e;
}

pub any_ends : (text rest : List ℕ) (n : Inhibits) (d : AnyBuilderValue) → IsAnyWalk text rest n d → rest ≡ [] → any_path_reading text ≡ any_path_of n d
any_ends text rest n d w empty = w.same ∙ reading_ends (any_folded n d) rest empty

pub any_stops : (text rest : List ℕ) (n : Inhibits) (d : AnyBuilderValue) (f : PathFault) → IsAnyWalk text rest n d → 0 < length rest → any_segment_at rest ≡ Err f → any_path_reading text ≡ Err f
any_stops text rest n d f w some e = w.same ∙ reading_stops (any_folded n d) rest f w.fits some e

-- ---- the paths of class 3 connections

-- the text reads as the state and the bytes ahead do
pub record IsAnyMessageWalk (text rest : List ℕ) (d : MessageBuilderValue) : Type 0 where
  pub fits : IsBytes rest
  pub same : any_message_reading text ≡ any_reading_by (message_folded d) rest

pub any_message_starts : (text : List ℕ) → IsBytes text → IsAnyMessageWalk text text messages.start
unfolding any_message_reading
any_message_starts text fits = record {
  fits = fits;
  same = same_bind (any_segments_at (length text) text) arranged_message (message_folded messages.start) (λ segments. sym (message_folded_is messages.start segments));
}

pub any_message_then : (text rest : List ℕ) (d : MessageBuilderValue) (s : SegmentValue) (after : List ℕ) → IsAnyMessageWalk text rest d → any_segment_at rest ≡ Ok (s, after) → IsAnyMessageWalk text after (next_message s d)
any_message_then text rest d s after w e = record {
  fits = (any_behind rest s after w.fits e).fits;
  same = w.same ∙ reading_then (message_folded d) rest s after w.fits e;
}

pub any_message_ends : (text rest : List ℕ) (d : MessageBuilderValue) → IsAnyMessageWalk text rest d → rest ≡ [] → any_message_reading text ≡ message_of d
any_message_ends text rest d w empty = w.same ∙ reading_ends (message_folded d) rest empty

pub any_message_stops : (text rest : List ℕ) (d : MessageBuilderValue) (f : PathFault) → IsAnyMessageWalk text rest d → 0 < length rest → any_segment_at rest ≡ Err f → any_message_reading text ≡ Err f
any_message_stops text rest d f w some e = w.same ∙ reading_stops (message_folded d) rest f w.fits some e
