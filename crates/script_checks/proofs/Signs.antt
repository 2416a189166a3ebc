-- The word `=` of a condition.
use Rattle.std.proofs.Common.{◌≡◌, ℕ, List, Result, Ok, Err, ap, ◌∙◌}
use Rattle.std.specs.Prelude.{codes}
use Rattle.trace_words.specs.declared.words.TextFault.{TextFault}
use Rattle.trace_words.specs.declared.words.TextFault.TheVariants.{Bad, OutOfMemory}
use Rattle.trace_words.specs.Reader.{Takes, meaning, next_word, refuses}
use Rattle.trace_words.specs.Words.{bytes_of}
use Rattle.script_checks.specs.Reading.{value_meanings}

sign_is : (word : List ℕ) (words : List (List ℕ)) → word ≡ codes "=" → meaning value_meanings refuses word words ≡ next_word bytes_of words
sign_is word words is = ap (λ w. meaning value_meanings refuses w words) is

-- what follows it
pub takes_value : (word : List ℕ) (words rest : List (List ℕ)) (result : Result (List ℕ) TextFault) → word ≡ codes "=" → Takes (next_word bytes_of words) result rest → Takes (meaning value_meanings refuses word words) result rest
takes_value word words rest (Ok value) is takes = sign_is word words is ∙ takes
takes_value word words rest (Err Bad) is takes = sign_is word words is ∙ takes
takes_value word words rest (Err OutOfMemory) is takes = tt
