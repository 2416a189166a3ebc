-- The lines of a text, one after the other.
use Rattle.std.proofs.Common.{Ok, Err, Result, ◌≡◌, ◌≢◌, ℕ, ◌+◌, List, [], ◌∷◌, length, refl, ap, ◌∙◌, arith}
use Rattle.std.proofs.lemmas.List.Splits.{length-slice_split}
use Rattle.trace_text.specs.Reading.{is_line_feed, parts_of}
use Rattle.plant_rim.specs.declared.file.draft.PlantDraft.{PlantDraft}
use Rattle.plant_rim.specs.declared.file.faults.PlantFault.{PlantFault}
use Rattle.plant_rim.specs.declared.file.plant.PlantFile.{PlantFile}
use Rattle.plant_rim.specs.declared.file.faults.PlantFault.TheVariants.{BadLine, OutOfMemory}
use Rattle.plant_rim.specs.File.Plants.{plant_of}
use Rattle.plant_rim.specs.File.Reading.{AddsNumbered, Answers, draft_after, numbered, reading_from, state_after, whole}

some_line : (text : List ℕ) → parts_of text ≢ []
some_line text none = absurd (omega (arith, length-slice_split is_line_feed text, ap length none))

abbrev State : Type 0
State = Result PlantDraft PlantFault

abbrev Texts : Type 0
Texts = List (List ℕ)

-- a line that is there is read first
line_read : (number : ℕ) (state : State) (text rest line : List ℕ) → parts_of text ≡ line ∷ parts_of rest → reading_from number state (parts_of text) ≡ reading_from (number + 1) (state_after number state line) (parts_of rest)
line_read number state text rest line parted = ap (reading_from number state) parted ∙ go (parts_of rest) (some_line rest)
  where
    go : (texts : Texts) → texts ≢ [] → reading_from number state (line ∷ texts) ≡ reading_from (number + 1) (state_after number state line) texts
    go [] some = absurd (some refl)
    go (next ∷ texts) some = refl

-- what is bad stays so
stays_bad : (number : ℕ) (why : PlantFault) (texts : Texts) → reading_from number (Err why) texts ≡ Err why
stays_bad number why [] = refl
stays_bad number why (last ∷ []) = refl
stays_bad number why (line ∷ next ∷ texts) = stays_bad (number + 1) why (next ∷ texts)

-- a line that is good
pub good_line : (said : Result PlantFile PlantFault) (number : ℕ) (draft after : PlantDraft) (text rest line : List ℕ) → said ≡ reading_from number (Ok draft) (parts_of text) → parts_of text ≡ line ∷ parts_of rest → state_after number (Ok draft) line ≡ Ok after → said ≡ reading_from (number + 1) (Ok after) (parts_of rest)
good_line said number draft after text rest line so_far parted good = so_far ∙ line_read number (Ok draft) text rest line parted ∙ ap (λ s. reading_from (number + 1) s (parts_of rest)) good

-- a line that is bad
pub bad_line : (said : Result PlantFile PlantFault) (number : ℕ) (draft : PlantDraft) (why : PlantFault) (text rest line : List ℕ) → said ≡ reading_from number (Ok draft) (parts_of text) → parts_of text ≡ line ∷ parts_of rest → state_after number (Ok draft) line ≡ Err why → said ≡ Err why
bad_line said number draft why text rest line so_far parted bad = so_far ∙ line_read number (Ok draft) text rest line parted ∙ ap (λ s. reading_from (number + 1) s (parts_of rest)) bad ∙ stays_bad (number + 1) why (parts_of rest)

-- the last line
pub ends : (said : Result PlantFile PlantFault) (number : ℕ) (draft : PlantDraft) (state : State) (text : List ℕ) → said ≡ reading_from number (Ok draft) (parts_of text) → parts_of text ≡ text ∷ [] → state_after number (Ok draft) text ≡ state → said ≡ whole number state
ends said number draft state text so_far parted is = so_far ∙ ap (reading_from number (Ok draft)) parted ∙ ap (whole number) is

-- a line at which the reading stops
pub line_stops : (said : Result PlantFile PlantFault) (number : ℕ) (draft after : PlantDraft) (why : PlantFault) (text rest line : List ℕ) → said ≡ reading_from number (Ok draft) (parts_of text) → parts_of text ≡ line ∷ parts_of rest → AddsNumbered (numbered number (draft_after draft line)) (Err why) after → Answers said (Err why)
line_stops said number draft after (BadLine bad fault) text rest line so_far parted adds = bad_line said number draft (BadLine bad fault) text rest line so_far parted adds
line_stops said number draft after OutOfMemory text rest line so_far parted adds = tt

-- the last line is one at which the reading stops
pub last_stops : (said : Result PlantFile PlantFault) (number : ℕ) (draft after : PlantDraft) (why : PlantFault) (text : List ℕ) → said ≡ reading_from number (Ok draft) (parts_of text) → parts_of text ≡ text ∷ [] → AddsNumbered (numbered number (draft_after draft text)) (Err why) after → Answers said (Err why)
last_stops said number draft after (BadLine bad fault) text so_far parted adds = ends said number draft (Err (BadLine bad fault)) text so_far parted adds
last_stops said number draft after OutOfMemory text so_far parted adds = tt

answers_as : (said other : Result PlantFile PlantFault) (result : Result PlantFile PlantFault) → said ≡ other → Answers other result → Answers said result
answers_as said other (Ok plant) is answers = is ∙ answers
answers_as said other (Err (BadLine number fault)) is answers = is ∙ answers
answers_as said other (Err OutOfMemory) is answers = tt

-- the last line is good
pub last_ends : (said : Result PlantFile PlantFault) (number : ℕ) (draft after : PlantDraft) (text : List ℕ) (result : Result PlantFile PlantFault) → said ≡ reading_from number (Ok draft) (parts_of text) → parts_of text ≡ text ∷ [] → numbered number (draft_after draft text) ≡ Ok after → Answers (numbered number (plant_of after)) result → Answers said result
last_ends said number draft after text result so_far parted good answers = answers_as said _ result (ends said number draft (Ok after) text so_far parted good) answers
