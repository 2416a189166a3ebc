-- The lengths of a slot without a fault, and of the texts written for it.
use Rattle.std.proofs.Common.{◌≡◌, ◌≤◌, ℕ, ◌+◌, ◌/◌, ◌%◌, ltb, Bool, true, false, cond, IsTrue, List, [], ◌∷◌, ◌++◌, length, map, Option, Some, None, ap, ◌∙◌, refl, rules, arith}
use Rattle.std.specs.Prelude.{option_to_list, IfSome}
use Rattle.std.specs.Int.{w16, w32, to_le_bytes}
use Rattle.std.specs.List.{flat_map}
use Rattle.std.proofs.lemmas.Bool.Decides.{nat_tests}
use Rattle.std.proofs.lemmas.List.{length-append}
use Rattle.std.proofs.lemmas.List.Concat.{flat_map-cons}
use Rattle.cip_epath.specs.declared.segment.LogicalType.{LogicalType}
use Rattle.cip_epath.specs.declared.segment.LogicalType.TheVariants.{Class, Instance, ConnectionPoint}
use Rattle.cip_epath.specs.ElectronicKey.{KeyFields}
use Rattle.cip_epath.specs.Path.{PathFields}
use Rattle.cip_epath.specs.Segment.{SegmentValue, logical, key, bytes, inhibit, logical_byte}
use Rattle.cip_epath.specs.Written.{segment_text, path_segments, path_text, AreWords}
use Rattle.cip_fwdopen.specs.Close.{CloseFields, close_text}
use Rattle.cip_fwdopen.specs.Open.{OpenFields, open_text}
use Rattle.cip_productions.specs.declared.kind.Kind.{Kind}
use Rattle.cip_productions.specs.declared.kind.Kind.TheVariants.{ExclusiveOwner, InputOnly, ListenOnly}
use Rattle.scanner_table.specs.declared.profile.SlotConfig.{SlotConfig}
use Rattle.scanner_table.specs.Requests.{segment_of, slot_path}
use Rattle.scanner_table.specs.Profiles.{is_out_len, is_config, has_lengths}

-- ---- the limits of a profile

out_bound : (kind : Kind) (len : ℕ) → is_out_len kind len ≡ true → len ≤ 1400
out_bound ExclusiveOwner len is = grind (arith, nat_tests)
out_bound InputOnly len is = grind (arith, nat_tests)
out_bound ListenOnly len is = grind (arith, nat_tests)

pub output_bound : (c : SlotConfig) → IsTrue (has_lengths c) → c.out_len ≤ 1400
output_bound c is = out_bound c.kind c.out_len (grind (arith, nat_tests))

pub input_bound : (c : SlotConfig) → IsTrue (has_lengths c) → c.in_len ≤ 1400
input_bound c is = grind (arith, nat_tests)

-- configuration data are few words
pub record IsShortConfig (content : List ℕ) : Type 0 where
  pub few : length content ≤ 400
  pub words : length content % 2 ≡ 0

config_bound : (config : Option ℕ) (content : List ℕ) → is_config config content ≡ true → IsShortConfig content
config_bound None content is = let none : length content ≡ 0 = grind (arith, nat_tests) in record { few = omega arith; words = rw none refl }
config_bound (Some n) content is = record { few = grind (arith, nat_tests); words = grind (arith, nat_tests) }

short_config : (c : SlotConfig) → IsTrue (has_lengths c) → IsShortConfig c.config_data
short_config c is = config_bound c.config c.config_data (grind (arith, nat_tests))

-- ---- the path

words_of : (content : List ℕ) → IsShortConfig content → IfSome (segment_of content) AreWords
words_of [] short = search rules
words_of (byte ∷ content) short = (length (byte ∷ content) / 2, omega (arith, short.few), omega (arith, short.words))

-- the data segment is whole words
pub segment_words : (c : SlotConfig) → IsTrue (has_lengths c) → IfSome (segment_of c.config_data) AreWords
segment_words c is = words_of c.config_data (short_config c is)

-- the most bytes that a segment takes
most : SegmentValue → ℕ
most (logical kind value) = 6
most (key k) = 10
most (bytes content) = 2 + length content
most (inhibit ms) = 2

most_all : List SegmentValue → ℕ
most_all [] = 0
most_all (s ∷ ss) = most s + most_all ss

either_short : (a b : Bool) (kind : LogicalType) (value : ℕ) → length (cond a (logical_byte kind 0 ∷ value ∷ []) (cond b (logical_byte kind 1 ∷ 0 ∷ to_le_bytes w16 value) (logical_byte kind 2 ∷ 0 ∷ to_le_bytes w32 value))) ≤ 6
either_short true b kind value = omega arith
either_short false true kind value = omega arith
either_short false false kind value = omega arith

segment_short : (s : SegmentValue) → length (segment_text s) ≤ most s
unfolding most
segment_short (logical kind value) = either_short (ltb value 256) (ltb value 65536) kind value
segment_short (key k) = omega arith
segment_short (bytes content) = omega arith
segment_short (inhibit ms) = omega arith

texts_short : (ss : List SegmentValue) → length (flat_map segment_text ss) ≤ most_all ss
unfolding most_all
texts_short [] = omega arith
texts_short (s ∷ ss) =
    let len : length (flat_map segment_text (s ∷ ss)) ≡ length (segment_text s) + length (flat_map segment_text ss) = ap length (flat_map-cons segment_text s ss) ∙ length-append (segment_text s) (flat_map segment_text ss) in
    omega (arith, len, segment_short s, texts_short ss)

most_append : (ss ts : List SegmentValue) → most_all (ss ++ ts) ≡ most_all ss + most_all ts
unfolding most_all
most_append [] ts = omega arith
most_append (s ∷ ss) ts = omega (arith, most_append ss ts)

keys_most : (k : Option KeyFields) → most_all (map key (option_to_list k)) ≤ 10
unfolding most_all most
keys_most None = omega arith
keys_most (Some k) = omega arith

inhibits_most : (ms : Option ℕ) → most_all (map inhibit (option_to_list ms)) ≤ 2
unfolding most_all most
inhibits_most None = omega arith
inhibits_most (Some ms) = omega arith

points_most : (kind : LogicalType) (n : Option ℕ) → most_all (map (logical kind) (option_to_list n)) ≤ 6
unfolding most_all most
points_most kind None = omega arith
points_most kind (Some n) = omega arith

data_most : (content : List ℕ) → length content ≤ 400 → most_all (map bytes (option_to_list (segment_of content))) ≤ 402
unfolding most_all most
data_most [] few = omega arith
data_most (byte ∷ content) few = omega arith

tail_most : (kind : LogicalType) (value : ℕ) (ss : List SegmentValue) → most_all (logical kind value ∷ ss) ≡ 6 + most_all ss
unfolding most_all most
tail_most kind value ss = refl

-- the segments of a path, part by part
parts_most : (ks is cs ds : List SegmentValue) (class consumed produced : ℕ) → most_all (((ks ++ is) ++ (logical Class class ∷ cs)) ++ (logical ConnectionPoint consumed ∷ (logical ConnectionPoint produced ∷ ds))) ≡ most_all ks + most_all is + most_all cs + most_all ds + 18
parts_most ks is cs ds class consumed produced =
    let points = logical ConnectionPoint consumed ∷ (logical ConnectionPoint produced ∷ ds) in
    let named = logical Class class ∷ cs in
    omega (
      arith,
      most_append ((ks ++ is) ++ named) points,
      most_append (ks ++ is) named,
      most_append ks is,
      tail_most Class class cs,
      tail_most ConnectionPoint consumed (logical ConnectionPoint produced ∷ ds),
      tail_most ConnectionPoint produced ds,
    )

bounded : (all k i c d : ℕ) → all ≡ k + i + c + d + 18 → k ≤ 10 → i ≤ 2 → c ≤ 6 → d ≤ 402 → all ≤ 510
bounded all k i c d is keys inhibits points content = omega arith

path_most : (c : SlotConfig) → length c.config_data ≤ 400 → most_all (path_segments (slot_path c)) ≤ 510
path_most c few =
    let p : PathFields = slot_path c in
    bounded _ _ _ _ _
    (parts_most (map key (option_to_list p.key)) (map inhibit (option_to_list p.inhibit)) (map (logical Instance) (option_to_list p.config)) (map bytes (option_to_list p.segment)) p.class p.consumed p.produced)
    (keys_most p.key)
    (inhibits_most p.inhibit)
    (points_most Instance p.config)
    (data_most c.config_data few)

-- a byte counts the words of the path
pub path_short : (c : SlotConfig) → IsTrue (has_lengths c) → length (path_text (slot_path c)) ≤ 510
path_short c is = omega (arith, texts_short (path_segments (slot_path c)), path_most c (short_config c is).few)

-- ---- the data of requests

pub open_short : (large : Bool) (p : OpenFields) → length p.path ≤ 510 → length (open_text large p) ≤ 1000
unfolding open_text
open_short true p short = omega (arith, short)
open_short false p short = omega (arith, short)

pub close_short : (p : CloseFields) → length p.path ≤ 510 → length (close_text p) ≤ 1000
unfolding close_text
close_short p short = omega (arith, short)
