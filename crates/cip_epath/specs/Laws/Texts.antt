-- What is written is a text of the path or the target.
use Rattle.std.proofs.Common.{◌≡◌, ℕ, ◌+◌, ◌/◌, ◌%◌, ◌<◌, ◌^◌, ltb, List, [], ◌∷◌, length, Option, Some, None, refl, ap, ◌∙◌, arith, inl, inr}
use Rattle.std.specs.List.{flat_map, AllByRecursion}
use Rattle.std.proofs.lemmas.List.Concat.{flat_map-cons}
use Rattle.std.proofs.lemmas.List.{length-append}
use Rattle.std.proofs.lemmas.Bool.{ltb-true, cases_Bool}
use Rattle.cip_epath.specs.declared.path.Target.{Target}
use Rattle.cip_epath.specs.declared.segment.LogicalType.{LogicalType}
use Rattle.cip_epath.specs.ElectronicKey.{KeyFields}
use Rattle.cip_epath.specs.Segment.{SegmentValue, logical, key, bytes, inhibit, KeyFits, IsLogicalText, IsSegmentText}
use Rattle.cip_epath.specs.Path.{PathFields, IsPath, IsTarget, IsTextOf, AreSegmentTexts}
use Rattle.cip_epath.specs.Written.{logical_text, segment_text, path_segments, path_text, target_segments, target_text, AreWords, PathFits, TargetFits}

abbrev SegmentFits : SegmentValue → Type 0
SegmentFits (logical kind value) = value < 2 ^ 32
SegmentFits (key k) = KeyFits k
SegmentFits (bytes content) = AreWords content
SegmentFits (inhibit ms) = ms < 2 ^ 8

logical_is : (kind : LogicalType) (value : ℕ) → value < 2 ^ 32 → IsLogicalText kind value (logical_text kind value)
logical_is kind value lt =
    elim (cases_Bool (ltb value 256)) [
      | inl t ↦ rw t (inl (ltb-true _ _ t, refl))
      | inr f ↦ elim (cases_Bool (ltb value 65536)) [
        | inl t ↦ rw (f, t) (inr (inl (ltb-true _ _ t, (0, refl))))
        | inr g ↦ rw (f, g) (inr (inr (lt, (0, refl))))
      ]
    ]

segment_is : (s : SegmentValue) → SegmentFits s → IsSegmentText s (segment_text s)
segment_is (logical kind value) fits = logical_is kind value fits
segment_is (key k) fits = (fits, refl)
segment_is (bytes content) fits = let half : length content / 2 ≡ fits.0 = omega (arith, fits.2) in (fits.0, fits.1, fits.2, rw half refl)
segment_is (inhibit ms) fits = (fits, refl)

texts_are : (ss : List SegmentValue) → AllByRecursion SegmentFits ss → AreSegmentTexts ss (flat_map segment_text ss)
texts_are [] fits = refl
texts_are (s ∷ ss) fits = (segment_text s, flat_map segment_text ss, segment_is s fits.0, texts_are ss fits.1, flat_map-cons segment_text s ss)

path_stands : (k : Option KeyFields) (ms : Option ℕ) (c : ℕ) (config : Option ℕ) (a b : ℕ) (segment : Option (List ℕ))
    → let p : PathFields = record { key = k; inhibit = ms; class = c; config = config; consumed = a; produced = b; segment = segment } in IsPath (path_segments p) p
path_stands None None c None a b None = (refl, refl)
path_stands None None c None a b (Some d) = (refl, refl)
path_stands None None c (Some x) a b None = (refl, refl)
path_stands None None c (Some x) a b (Some d) = (refl, refl)
path_stands None (Some ms) c None a b None = (refl, refl)
path_stands None (Some ms) c None a b (Some d) = (refl, refl)
path_stands None (Some ms) c (Some x) a b None = (refl, refl)
path_stands None (Some ms) c (Some x) a b (Some d) = (refl, refl)
path_stands (Some k) None c None a b None = (refl, refl)
path_stands (Some k) None c None a b (Some d) = (refl, refl)
path_stands (Some k) None c (Some x) a b None = (refl, refl)
path_stands (Some k) None c (Some x) a b (Some d) = (refl, refl)
path_stands (Some k) (Some ms) c None a b None = (refl, refl)
path_stands (Some k) (Some ms) c None a b (Some d) = (refl, refl)
path_stands (Some k) (Some ms) c (Some x) a b None = (refl, refl)
path_stands (Some k) (Some ms) c (Some x) a b (Some d) = (refl, refl)

path_fits : (k : Option KeyFields) (ms : Option ℕ) (c : ℕ) (config : Option ℕ) (a b : ℕ) (segment : Option (List ℕ))
    → let p : PathFields = record { key = k; inhibit = ms; class = c; config = config; consumed = a; produced = b; segment = segment } in PathFits p → AllByRecursion SegmentFits (path_segments p)
path_fits None None c None a b None f = (f.class, (f.consumed, (f.produced, tt)))
path_fits None None c None a b (Some d) f = (f.class, (f.consumed, (f.produced, (f.segment, tt))))
path_fits None None c (Some x) a b None f = (f.class, (f.config, (f.consumed, (f.produced, tt))))
path_fits None None c (Some x) a b (Some d) f = (f.class, (f.config, (f.consumed, (f.produced, (f.segment, tt)))))
path_fits None (Some ms) c None a b None f = (f.inhibit, (f.class, (f.consumed, (f.produced, tt))))
path_fits None (Some ms) c None a b (Some d) f = (f.inhibit, (f.class, (f.consumed, (f.produced, (f.segment, tt)))))
path_fits None (Some ms) c (Some x) a b None f = (f.inhibit, (f.class, (f.config, (f.consumed, (f.produced, tt)))))
path_fits None (Some ms) c (Some x) a b (Some d) f = (f.inhibit, (f.class, (f.config, (f.consumed, (f.produced, (f.segment, tt))))))
path_fits (Some k) None c None a b None f = (f.key, (f.class, (f.consumed, (f.produced, tt))))
path_fits (Some k) None c None a b (Some d) f = (f.key, (f.class, (f.consumed, (f.produced, (f.segment, tt)))))
path_fits (Some k) None c (Some x) a b None f = (f.key, (f.class, (f.config, (f.consumed, (f.produced, tt)))))
path_fits (Some k) None c (Some x) a b (Some d) f = (f.key, (f.class, (f.config, (f.consumed, (f.produced, (f.segment, tt))))))
path_fits (Some k) (Some ms) c None a b None f = (f.key, (f.inhibit, (f.class, (f.consumed, (f.produced, tt)))))
path_fits (Some k) (Some ms) c None a b (Some d) f = (f.key, (f.inhibit, (f.class, (f.consumed, (f.produced, (f.segment, tt))))))
path_fits (Some k) (Some ms) c (Some x) a b None f = (f.key, (f.inhibit, (f.class, (f.config, (f.consumed, (f.produced, tt))))))
path_fits (Some k) (Some ms) c (Some x) a b (Some d) f = (f.key, (f.inhibit, (f.class, (f.config, (f.consumed, (f.produced, (f.segment, tt)))))))

pub path_text_is : (p : PathFields) → PathFits p → IsTextOf IsPath (path_text p) p
path_text_is p f = (path_segments p, texts_are (path_segments p) (path_fits p.key p.inhibit p.class p.config p.consumed p.produced p.segment f), path_stands p.key p.inhibit p.class p.config p.consumed p.produced p.segment)

target_fits : (c i : ℕ) (a : Option ℕ) → let t : Target = record { class = c; instance = i; attribute = a } in TargetFits t → AllByRecursion SegmentFits (target_segments t)
target_fits c i None f = (f.class, (f.instance, tt))
target_fits c i (Some a) f = (f.class, (f.instance, (f.attribute, tt)))

pub target_text_is : (t : Target) → TargetFits t → IsTextOf IsTarget (target_text t) t
target_text_is t f = (target_segments t, texts_are (target_segments t) (target_fits t.class t.instance t.attribute f), refl)

-- ---- whole words

logical_whole : (kind : LogicalType) (value : ℕ) → length (logical_text kind value) % 2 ≡ 0
logical_whole kind value =
    elim (cases_Bool (ltb value 256)) [
      | inl t ↦ rw t refl
      | inr f ↦ elim (cases_Bool (ltb value 65536)) [
        | inl t ↦ rw (f, t) refl
        | inr g ↦ rw (f, g) refl
      ]
    ]

segment_whole : (s : SegmentValue) → SegmentFits s → length (segment_text s) % 2 ≡ 0
segment_whole (logical kind value) fits = logical_whole kind value
segment_whole (key k) fits = refl
segment_whole (bytes content) fits = omega (arith, fits.2)
segment_whole (inhibit ms) fits = refl

texts_whole : (ss : List SegmentValue) → AllByRecursion SegmentFits ss → length (flat_map segment_text ss) % 2 ≡ 0
texts_whole [] fits = refl
texts_whole (s ∷ ss) fits =
    let len : length (flat_map segment_text (s ∷ ss)) ≡ length (segment_text s) + length (flat_map segment_text ss) = ap length (flat_map-cons segment_text s ss) ∙ length-append (segment_text s) (flat_map segment_text ss) in
    omega (arith, len, segment_whole s fits.0, texts_whole ss fits.1)

-- the text that is written of a path is whole words
pub path_text_whole : (p : PathFields) → PathFits p → length (path_text p) % 2 ≡ 0
path_text_whole p f = texts_whole (path_segments p) (path_fits p.key p.inhibit p.class p.config p.consumed p.produced p.segment f)
