-- The first word of a text, and texts of bytes.
use Rattle.std.proofs.Common.{◌≡◌, ℕ, ◌+◌, Bool, true, false, List, [], length, Option, Some, None, Result, Ok, Err, refl, sym, ap, ◌∙◌, subst, arith, cond}
use Rattle.std.specs.Prelude.{IsUtf8, codes}
use Rattle.std.specs.Borrow.{Bor}
use Rattle.std.specs.List.{position_or_len}
use Rattle.std.specs.Str.{is_utf8}
use Rattle.std.proofs.lemmas.List.{take_all, drop_all}
use Rattle.std.proofs.lemmas.Str.{IsUtf8-from_is_utf8, is_utf8-from_IsUtf8}
use Rattle.std.proofs.lemmas.Str.Pattern.{IsSplitOnceResult, split_once_first}
use Rattle.station.specs.declared.step.StationStep.TheVariants as step
use Rattle.port_faults.specs.declared.orders.order.PortOrder.TheVariants as order
use Rattle.trace_words.specs.declared.words.TextFault.{TextFault}
use Rattle.trace_words.specs.declared.words.TextFault.TheVariants.{Bad, OutOfMemory}
use Rattle.trace_words.specs.Reader.{Takes, ends, meaning, refuses}
use Rattle.plant_rim.specs.File.Calls.{own_meanings, restart_reader}
use Rattle.plant_rim.specs.declared.file.faults.PlantLineFault.TheVariants as fault
use Rattle.plant_rim.specs.File.Lines.{text_of}
use Rattle.plant_rim.specs.File.Texts.{behind_word, first_word, is_space}

pub parted_word : (text : List ℕ) (r : Option (Bor (List ℕ) × Bor (List ℕ))) (word rest : Bor (List ℕ)) → r ≡ Some (word, rest) → IsSplitOnceResult 32 text r → word.now ≡ first_word text
unfolding first_word
parted_word text r word rest is h = (split_once_first 32 text (Some (word, rest)) (subst (IsSplitOnceResult 32 text) is h) (omega arith)).1

pub parted_rest : (text : List ℕ) (r : Option (Bor (List ℕ) × Bor (List ℕ))) (word rest : Bor (List ℕ)) → r ≡ Some (word, rest) → IsSplitOnceResult 32 text r → rest.now ≡ behind_word text
unfolding behind_word
parted_rest text r word rest is h = (split_once_first 32 text (Some (word, rest)) (subst (IsSplitOnceResult 32 text) is h) (omega arith)).2

no_space : (text : List ℕ) (r : Option (Bor (List ℕ) × Bor (List ℕ))) → r ≡ None → IsSplitOnceResult 32 text r → position_or_len is_space text ≡ length text
no_space text r is h = split_once_first 32 text None (subst (IsSplitOnceResult 32 text) is h) (omega arith)

pub only_word : (text : List ℕ) (r : Option (Bor (List ℕ) × Bor (List ℕ))) → r ≡ None → IsSplitOnceResult 32 text r → text ≡ first_word text
unfolding first_word
only_word text r is h = let all = no_space text r is h in sym (take_all (position_or_len is_space text) text (omega (arith, all)))

pub no_rest : (text : List ℕ) (r : Option (Bor (List ℕ) × Bor (List ℕ))) → r ≡ None → IsSplitOnceResult 32 text r → [] ≡ behind_word text
unfolding behind_word
no_rest text r is h = let all = no_space text r is h in sym (drop_all (position_or_len is_space text + 1) text (omega (arith, all)))

pub is_text : (bytes text : List ℕ) → text ≡ bytes → IsUtf8 bytes → Ok text ≡ text_of bytes
is_text bytes text same utf8 = let is : is_utf8 bytes ≡ true = is_utf8-from_IsUtf8 bytes utf8 in ap Ok same ∙ ap (λ b. cond b (Ok bytes) (Err fault.NotText)) (sym is)

pub no_text : (bytes : List ℕ) → ¬ (IsUtf8 bytes) → Err fault.NotText ≡ text_of bytes
no_text bytes none = go (is_utf8 bytes) refl
  where
    go : (b : Bool) → is_utf8 bytes ≡ b → Err fault.NotText ≡ text_of bytes
    go true is = absurd (none (IsUtf8-from_is_utf8 bytes is))
    go false is = ap (λ b. cond b (Ok bytes) (Err fault.NotText)) (sym is)

-- what follows the word of a call that has no number
pub cut_is : (word : List ℕ) (words : List (List ℕ)) → word ≡ codes "cut" → meaning own_meanings refuses word words ≡ ends (step.Order order.Cut) words
cut_is word words is = ap (λ w. meaning own_meanings refuses w words) is

pub restart_is : (word : List ℕ) (words : List (List ℕ)) → word ≡ codes "restart" → meaning own_meanings refuses word words ≡ restart_reader words
restart_is word words is = ap (λ w. meaning own_meanings refuses w words) is

pub takes_as : {A : Type 0} (said other : Option (A × List (List ℕ))) (result : Result A TextFault) (rest : List (List ℕ)) → said ≡ other → Takes other result rest → Takes said result rest
takes_as said other (Ok value) rest is takes = is ∙ takes
takes_as said other (Err Bad) rest is takes = is ∙ takes
takes_as said other (Err OutOfMemory) rest is takes = tt
