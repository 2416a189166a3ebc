-- Words that are read, and whose values are dropped.
use Rattle.std.proofs.Common.{List, ℕ, Result, Ok, Err, ap}
use Rattle.std.specs.Prelude.{option_map}
use Rattle.trace_words.specs.declared.words.TextFault.{TextFault}
use Rattle.trace_words.specs.declared.words.TextFault.TheVariants.{Bad, OutOfMemory}
use Rattle.trace_words.specs.Reader.{next_word, Takes}
use Rattle.trace_lines.specs.declared.shapes.WordKind.{WordKind}
use Rattle.trace_lines.specs.Kinds.{ValueOf, value_of}
use Rattle.trace_lines.specs.Shapes.{behind_word, skipped, Skips}

pub skips : (kind : WordKind) (words rest : List (List ℕ)) (read : Result (ValueOf kind) TextFault) → Takes (next_word (value_of kind) words) read rest → Skips (behind_word kind words) (skipped read) rest
skips kind words rest (Ok value) takes = ap (option_map (λ (got : ValueOf kind × List (List ℕ)). got.1)) takes
skips kind words rest (Err Bad) takes = ap (option_map (λ (got : ValueOf kind × List (List ℕ)). got.1)) takes
skips kind words rest (Err OutOfMemory) takes = tt
