-- The text of a path is the texts of its parts, one after another.
use Rattle.std.proofs.Common.{◌≡◌, ℕ, ◌+◌, ◌/◌, List, [], ◌∷◌, ◌++◌, append-nil, append_assoc, length, Option, Some, None, refl, ap, ◌∙◌, arith}
use Rattle.std.specs.Prelude.{map, option_to_list}
use Rattle.std.specs.Option.{option_map}
use Rattle.std.specs.List.{flat_map}
use Rattle.std.proofs.lemmas.List.Concat.{flat_map-cons}
use Rattle.std.proofs.lemmas.List.{length-append}
use Rattle.std.proofs.lemmas.Grind.{flat_map-append}
use Rattle.cip_epath.specs.declared.path.ConnPath.{ConnPath}
use Rattle.cip_epath.specs.declared.segment.LogicalType.TheVariants.{Class, Instance, ConnectionPoint}
use Rattle.cip_epath.specs.ElectronicKey.{view_key}
use Rattle.cip_epath.specs.Segment.{SegmentValue, logical, key, bytes, inhibit, key_text}
use Rattle.cip_epath.specs.Path.{view_path}
use Rattle.cip_epath.specs.Written.{logical_text, segment_text, path_text, optional_text}

-- a part that may be missing, as segments
optional_is : {A : Type 0} (f : A → SegmentValue) (o : Option A) → flat_map segment_text (map f (option_to_list o)) ≡ optional_text (λ x. segment_text (f x)) o
optional_is f None = refl
optional_is f (Some x) = flat_map-cons segment_text (f x) [] ∙ append-nil (segment_text (f x))

optional_before : {A : Type 0} (f : A → SegmentValue) (o : Option A) (rest : List SegmentValue) (text : List ℕ)
    → flat_map segment_text rest ≡ text → flat_map segment_text (map f (option_to_list o) ++ rest) ≡ optional_text (λ x. segment_text (f x)) o ++ text
optional_before f o rest text is = flat_map-append segment_text (map f (option_to_list o)) rest ∙ ap (λ (t : List ℕ). t ++ flat_map segment_text rest) (optional_is f o) ∙ ap (λ (t : List ℕ). optional_text (λ x. segment_text (f x)) o ++ t) is

segment_before : (s : SegmentValue) (rest : List SegmentValue) (text : List ℕ) → flat_map segment_text rest ≡ text → flat_map segment_text (s ∷ rest) ≡ segment_text s ++ text
segment_before s rest text is = flat_map-cons segment_text s rest ∙ ap (λ (t : List ℕ). segment_text s ++ t) is

optional_view : {A B : Type 0} (v : A → B) (text : B → List ℕ) (o : Option A) → optional_text text (option_map v o) ≡ optional_text (λ x. text (v x)) o
optional_view v text None = refl
optional_view v text (Some x) = refl

-- the parts of the text of a path after its key
abbrev pub after_key : ConnPath → List ℕ
after_key p =
    optional_text (λ ms. 0x43 ∷ ms ∷ []) p.inhibit
    ++ (logical_text Class p.class
    ++ (optional_text (λ n. logical_text Instance n) p.config
    ++ (logical_text ConnectionPoint p.consumed ++ (logical_text ConnectionPoint p.produced ++ optional_text (λ lent. 0x80 ∷ length lent.now / 2 ∷ lent.now) p.segment))))

-- the parts of the text of a path
abbrev pub parts_text : ConnPath → List ℕ
parts_text p = optional_text (λ k. key_text (view_key k)) p.key ++ after_key p

nested : (A B C D : List SegmentValue) → ((A ++ B) ++ C) ++ D ≡ A ++ (B ++ (C ++ D))
nested A B C D = append_assoc (A ++ B) C D ∙ append_assoc A B (C ++ D)

pub path_text_parts : (p : ConnPath) → path_text (view_path p) ≡ parts_text p
path_text_parts p =
    let v = view_path p in
    let last = map bytes (option_to_list v.segment) in
    let points = logical ConnectionPoint v.consumed ∷ logical ConnectionPoint v.produced ∷ last in
    let config = map (logical Instance) (option_to_list v.config) in
    let class = logical Class v.class ∷ config in
    let times = map inhibit (option_to_list v.inhibit) in
    let keys = map key (option_to_list v.key) in
    let words = optional_is bytes v.segment ∙ optional_view (λ lent. lent.now) (λ (x : List ℕ). 0x80 ∷ length x / 2 ∷ x) p.segment in
    let with_points = segment_before (logical ConnectionPoint v.consumed) (logical ConnectionPoint v.produced ∷ last) _ (segment_before (logical ConnectionPoint v.produced) last _ words) in
    let with_class = segment_before (logical Class v.class) (config ++ points) _ (optional_before (logical Instance) v.config points _ with_points) in
    let whole = optional_before key v.key (times ++ (class ++ points)) _ (optional_before inhibit v.inhibit (class ++ points) _ with_class) in
    ap (λ (ss : List SegmentValue). flat_map segment_text ss) (nested keys times class points) ∙ whole ∙ ap (λ (t : List ℕ). t ++ after_key p) (optional_view view_key (λ k. key_text k) p.key)

-- its bytes are those of its parts
pub path_text_len : (p : ConnPath) → length (path_text (view_path p))
    ≡ length (optional_text (λ k. key_text (view_key k)) p.key) + length (optional_text (λ (ms : ℕ). 0x43 ∷ ms ∷ []) p.inhibit) + length (logical_text Class p.class)
    + length (optional_text (λ n. logical_text Instance n) p.config) + length (logical_text ConnectionPoint p.consumed) + length (logical_text ConnectionPoint p.produced)
    + length (optional_text (λ lent. 0x80 ∷ length lent.now / 2 ∷ lent.now) p.segment)
path_text_len p = ap length (path_text_parts p) ∙ grind (arith, length-append)
