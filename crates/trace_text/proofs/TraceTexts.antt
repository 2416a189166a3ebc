-- A text has one reading, which is that of its lines.
use Rattle.std.proofs.Common.{◌≡◌, ◌≢◌, ℕ, zero, suc, ◌+◌, Bool, true, false, cond, eqb, List, [], ◌∷◌, ◌++◌, length, map, Option, Some, None, Result, Ok, Err, refl, sym, ap, subst, ◌∙◌, inl, inr, arith, append_assoc}
use Rattle.std.specs.Prelude.{◌⊎◌, option_and_then}
use Rattle.std.specs.List.{All}
use Rattle.std.proofs.lemmas.Bool.Decides.{nat_tests}
use Rattle.std.proofs.lemmas.List.{append-nil, length-append}
use Rattle.std.proofs.lemmas.List.Elements.{All-append, All-cons, All-nil}
use Rattle.std.proofs.lemmas.List.Splits.{slice_split_at, slice_split_none}
use Rattle.cip_events.specs.declared.profile_fault.ProfileFault.{ProfileFault}
use Rattle.cip_events.specs.Faults.{fault_number}
use Rattle.cip_tables.specs.declared.table.Config.TheVariants as config
use Rattle.cip_tables.specs.Step.{config_fault}
use Rattle.trace_lines.specs.Slots.{scanner_with}
use Rattle.trace_text.specs.declared.builder.TraceBuilder.{TraceBuilder}
use Rattle.trace_text.specs.declared.builder.TraceBuilder.TheVariants.{Empty, Points, Configured, Stated, Objects, Counted, Slots, Events}
use Rattle.trace_text.specs.declared.forms.TraceLine.{TraceLine}
use Rattle.trace_text.specs.declared.trace.Trace.{Trace}
use Rattle.trace_text.specs.declared.trace.TraceFault.{TraceFault}
use Rattle.trace_text.specs.declared.trace.TraceFault.TheVariants as fault
use Rattle.trace_text.specs.Forms.{line_of}
use Rattle.trace_text.specs.Reading.{is_line_feed, is_skipped, parts_of, builder_with, builder_after, parsed_from, parsed, judged, judged_by, ended, trace_reading}
use Rattle.trace_text.specs.Texts.{trace_values, may_follow, IsOneLine, ended_lines, said_by, WriteTrace, BeginTrace, IsTraceText, IsBadNext, IsBadEnd, IsBadLine, IsTraceReading}
use Rattle.trace_text.proofs.TextLines.{good_line, bad_line, open_line, text_ends}
use Rattle.trace_text.proofs.TraceValues.{some_is, found_in, so_far, run, run_both, run_adds, Completed, completed, trace_run, is_in_order, run_in_order, order_follows}

abbrev Lines : Type 0
Lines = List (List ℕ)

first_of : {A : Type 0} (P : A → Type 0) (x : A) (xs : List A) → All P (x ∷ xs) → P x
first_of P x xs all = all zero x (omega arith)

rest_of : {A : Type 0} (P : A → Type 0) (x : A) (xs : List A) → All P (x ∷ xs) → All P xs
rest_of P x xs all k d below = all (suc k) d (omega (arith, below))

-- THE VALUES OF LINES

skips_both : (skipped : Bool) (value : Option TraceLine) (xs ys : List (Option TraceLine)) → cond skipped (xs ++ ys) (value ∷ (xs ++ ys)) ≡ cond skipped xs (value ∷ xs) ++ ys
skips_both true value xs ys = refl
skips_both false value xs ys = refl

said_both : (xs ys : Lines) → said_by (xs ++ ys) ≡ said_by xs ++ said_by ys
said_both [] ys = refl
said_both (line ∷ xs) ys = ap (λ t. cond (is_skipped line) t (line_of line ∷ t)) (said_both xs ys) ∙ skips_both (is_skipped line) (line_of line) (said_by xs) (said_by ys)

line_taken : (skipped : Bool) (value : Option TraceLine) (builder : TraceBuilder) (lines : List (Option TraceLine)) → run builder (cond skipped lines (value ∷ lines)) ≡ option_and_then (λ next. run next lines) (cond skipped (Some builder) (option_and_then (builder_with builder) value))
line_taken true value builder lines = refl
line_taken false None builder lines = refl
line_taken false (Some value) builder lines = refl

-- a line, and those behind it
line_run : (builder : TraceBuilder) (line : List ℕ) (lines : Lines) → run builder (said_by (line ∷ lines)) ≡ option_and_then (λ next. run next (said_by lines)) (builder_after builder line)
unfolding builder_after
line_run builder line lines = line_taken (is_skipped line) (line_of line) builder (said_by lines)

last_run : (builder end : TraceBuilder) (before : Lines) (line : List ℕ) → run builder (said_by before) ≡ Some end → run builder (said_by (before ++ line ∷ [])) ≡ option_and_then (λ next. run next []) (builder_after end line)
last_run builder end before line is =
    ap (run builder) (said_both before (line ∷ []))
    ∙ run_both builder (said_by before) (said_by (line ∷ []))
    ∙ ap (option_and_then (λ b. run b (said_by (line ∷ [])))) is
    ∙ line_run end line []

-- THE LINES OF A TEXT

parted_line : (line rest : List ℕ) → IsOneLine line → parts_of (line ++ 10 ∷ rest) ≡ line ∷ parts_of rest
parted_line line rest one = slice_split_at is_line_feed line 10 rest one refl

line_front : (line : List ℕ) (lines : Lines) (rest : List ℕ) → ended_lines (line ∷ lines) ++ rest ≡ line ++ 10 ∷ (ended_lines lines ++ rest)
line_front line lines rest = append_assoc (line ++ 10 ∷ []) (ended_lines lines) rest ∙ append_assoc line (10 ∷ []) (ended_lines lines ++ rest)

lines_last : (before : Lines) (line rest : List ℕ) → ended_lines (before ++ line ∷ []) ++ rest ≡ ended_lines before ++ (line ++ 10 ∷ rest)
lines_last [] line rest = line_front line [] rest
lines_last (first ∷ before) line rest =
    line_front first (before ++ line ∷ []) rest
    ∙ ap (λ t. first ++ 10 ∷ t) (lines_last before line rest)
    ∙ sym (line_front first before (line ++ 10 ∷ rest))

-- lines that are read lead to what stands behind them
lines_parsed : (number : ℕ) (builder end : TraceBuilder) (lines : Lines) (rest : List ℕ) → All IsOneLine lines → run builder (said_by lines) ≡ Some end → parsed_from number (Ok builder) (parts_of (ended_lines lines ++ rest)) ≡ parsed_from (number + length lines) (Ok end) (parts_of rest)
lines_parsed number builder end [] rest are is =
    let same : number ≡ number + 0 = omega arith in
    ap (λ b. parsed_from number (Ok b) (parts_of rest)) (some_is builder end is) ∙ ap (λ n. parsed_from n (Ok end) (parts_of rest)) same
lines_parsed number builder end (line ∷ lines) rest are is =
    let (next, (first, more)) = found_in (λ next. run next (said_by lines)) (builder_after builder line) end (sym (line_run builder line lines) ∙ is) in
    let parted : parts_of (ended_lines (line ∷ lines) ++ rest) ≡ line ∷ parts_of (ended_lines lines ++ rest) = ap parts_of (line_front line lines rest) ∙ parted_line line (ended_lines lines ++ rest) (first_of IsOneLine line lines are) in
    let place : number + 1 + length lines ≡ number + length (line ∷ lines) = omega arith in
    good_line _ number builder next (ended_lines (line ∷ lines) ++ rest) (ended_lines lines ++ rest) line refl parted first
    ∙ lines_parsed (number + 1) next end lines rest (rest_of IsOneLine line lines are) more
    ∙ ap (λ n. parsed_from n (Ok end) (parts_of rest)) place

read_as : (text : List ℕ) → trace_reading text ≡ parsed_from 1 (Ok Empty) (parts_of text)
unfolding trace_reading
read_as text = refl

-- the reading of a text whose first lines are read
text_parsed : (text : List ℕ) (end : TraceBuilder) (lines : Lines) (rest : List ℕ) → text ≡ ended_lines lines ++ rest → All IsOneLine lines → run Empty (said_by lines) ≡ Some end → trace_reading text ≡ parsed_from (1 + length lines) (Ok end) (parts_of rest)
text_parsed text end lines rest is are runs = read_as text ∙ ap (λ t. parsed_from 1 (Ok Empty) (parts_of t)) is ∙ lines_parsed 1 Empty end lines rest are runs

-- BEGINNINGS

-- lines that are read begin a trace
begins : (lines : Lines) (end : TraceBuilder) → run Empty (said_by lines) ≡ Some end → BeginTrace lines
begins lines end runs =
    let whole : Completed end = completed end (run_in_order Empty (said_by lines) end refl runs) in
    record {
      trace = whole.trace;
      follow = whole.follow;
      more = whole.more;
      is = ap (λ t. t ++ map Some whole.more) (run_adds Empty (said_by lines) end runs) ∙ maps (so_far end) whole.more ∙ ap (map Some) whole.is;
    }
  where
    maps : (xs ys : List TraceLine) → map Some xs ++ map Some ys ≡ map Some (xs ++ ys)
    maps [] ys = refl
    maps (x ∷ xs) ys = ap (λ t. Some x ∷ t) (maps xs ys)

-- and lines that begin a trace are read
begun : (lines : Lines) → BeginTrace lines → (end : TraceBuilder) × (run Empty (said_by lines) ≡ Some end)
begun lines front =
    let (last, (runs, ends)) = trace_run front.trace.config front.trace.events front.follow in
    let whole : run Empty (said_by lines ++ map Some front.more) ≡ Some last = ap (run Empty) front.is ∙ runs in
    let (end, (first, rest)) = found_in (λ b. run b (map Some front.more)) (run Empty (said_by lines)) last (sym (run_both Empty (said_by lines) (map Some front.more)) ∙ whole) in
    (end, first)

-- what was read is this whole trace
record IsWhole (end : TraceBuilder) : Type 0 where
  trace : Trace
  follow : may_follow trace.config trace.events ≡ true
  all : so_far end ≡ trace_values trace
  judges : (number : ℕ) → parsed number end ≡ judged_by trace.config trace.events

-- or it is no whole one
whole_or_not : (end : TraceBuilder) → is_in_order end ≡ true → ((number : ℕ) → parsed number end ≡ Err (fault.BadLine number)) ⊎ IsWhole end
whole_or_not Empty ordered = inl (λ number. refl)
whole_or_not (Points adapter outputs inputs) ordered = inl (λ number. refl)
whole_or_not (Configured adapter outputs inputs point) ordered = inl (λ number. refl)
whole_or_not (Stated front) ordered = inl (λ number. refl)
whole_or_not (Objects front objects) ordered = inl (λ number. refl)
whole_or_not (Counted front objects block) ordered = inl (λ number. refl)
whole_or_not (Slots scanner newer terms slots) ordered = inr (record { trace = record { config = config.Scanner (scanner_with scanner newer terms slots); events = [] }; follow = refl; all = sym (append-nil _); judges = λ number. refl })
whole_or_not (Events made_of entries None) ordered = inr (record { trace = record { config = made_of; events = entries ++ [] }; follow = order_follows made_of entries None ordered; all = refl; judges = λ number. refl })
whole_or_not (Events made_of entries (Some last)) ordered = inr (record { trace = record { config = made_of; events = entries ++ last ∷ [] }; follow = order_follows made_of entries (Some last) ordered; all = refl; judges = λ number. refl })

-- a trace that is written is judged by its profile
written_judged : (text : List ℕ) (trace : Trace) → IsTraceText text trace → trace_reading text ≡ judged_by trace.config trace.events
written_judged text trace is =
    let writes = is.write in
    let (end, (runs, ends)) = trace_run trace.config trace.events writes.follow in
    let read : run Empty (said_by is.lines) ≡ Some end = ap (run Empty) writes.are ∙ runs in
    text_parsed text end is.lines [] (is.are_all ∙ sym (append-nil (ended_lines is.lines))) is.are_lines read ∙ ends (1 + length is.lines)

judged_good : (trace : Trace) (wrong : Option ProfileFault) → wrong ≡ None → judged trace wrong ≡ Ok trace
judged_good trace wrong is = ap (judged trace) is

judged_bad : (trace : Trace) (wrong : Option ProfileFault) (first : ProfileFault) → wrong ≡ Some first → judged trace wrong ≡ Err (fault.BadProfile (fault_number first))
judged_bad trace wrong first is = ap (judged trace) is

-- NO OTHER READING

bad_next : (text : List ℕ) (number : ℕ) (before : Lines) (rest : List ℕ) (end : TraceBuilder) → trace_reading text ≡ parsed_from number (Ok end) (parts_of rest) → run Empty (said_by before) ≡ Some end → IsBadNext before rest → trace_reading text ≡ Err (fault.BadLine number)
bad_next text number before rest end read runs is = go (builder_after end is.next) refl
  where
    parted : parts_of rest ≡ is.next ∷ parts_of is.after
    parted = ap parts_of is.parted ∙ parted_line is.next is.after is.is_line

    go : (taken : Option TraceBuilder) → builder_after end is.next ≡ taken → trace_reading text ≡ Err (fault.BadLine number)
    go None none = bad_line _ number end rest is.after is.next read parted none
    go (Some next) some = absurd (is.bad (begins (before ++ is.next ∷ []) next (last_run Empty end before is.next runs ∙ ap (option_and_then (λ b. run b [])) some)))

open_or_ended : (text : List ℕ) (number : ℕ) (rest : List ℕ) (end : TraceBuilder) → trace_reading text ≡ parsed_from number (Ok end) (parts_of rest) → IsOneLine rest → (parsed number end ≡ Err (fault.BadLine number)) ⊎ (rest ≢ []) → trace_reading text ≡ Err (fault.BadLine number)
open_or_ended text number [] end read one (inl bad) = text_ends _ number end [] read refl refl ∙ bad
open_or_ended text number [] end read one (inr some) = absurd (some refl)
open_or_ended text number (byte ∷ rest) end read one why = open_line _ number end (byte ∷ rest) read (slice_split_none is_line_feed (byte ∷ rest) one) (omega arith)

ends_badly : (number : ℕ) (before : Lines) (rest : List ℕ) (end : TraceBuilder) → run Empty (said_by before) ≡ Some end → (rest ≢ []) ⊎ ((trace : Trace) → ¬ (WriteTrace before trace)) → (parsed number end ≡ Err (fault.BadLine number)) ⊎ (rest ≢ [])
ends_badly number before rest end runs (inl some) = inr some
ends_badly number before rest end runs (inr none) = go (whole_or_not end (run_in_order Empty (said_by before) end refl runs))
  where
    go : ((number : ℕ) → parsed number end ≡ Err (fault.BadLine number)) ⊎ IsWhole end → (parsed number end ≡ Err (fault.BadLine number)) ⊎ (rest ≢ [])
    go (inl bad) = inl (bad number)
    go (inr whole) = absurd (none whole.trace (record { follow = whole.follow; are = run_adds Empty (said_by before) end runs ∙ ap (map Some) whole.all }))

bad_read : (text : List ℕ) (number : ℕ) → IsBadLine text number → trace_reading text ≡ Err (fault.BadLine number)
bad_read text number is =
    let (end, runs) = begun is.before is.begin in
    let read : trace_reading text ≡ parsed_from number (Ok end) (parts_of is.rest) = text_parsed text end is.before is.rest is.parted is.are_lines runs ∙ ap (λ n. parsed_from n (Ok end) (parts_of is.rest)) (sym is.counted) in
    go end runs read is.bad
  where
    go : (end : TraceBuilder) → run Empty (said_by is.before) ≡ Some end → trace_reading text ≡ parsed_from number (Ok end) (parts_of is.rest) → IsBadNext is.before is.rest ⊎ IsBadEnd is.before is.rest → trace_reading text ≡ Err (fault.BadLine number)
    go end runs read (inl next) = bad_next text number is.before is.rest end read runs next
    go end runs read (inr (one, why)) = open_or_ended text number is.rest end read one (ends_badly number is.before is.rest end runs why)

-- a reading of the text is the one that is read
pub only_reading : (text : List ℕ) (other : Result Trace TraceFault) → IsTraceReading text other → trace_reading text ≡ other
only_reading text (Ok trace) (written, good) = written_judged text trace written ∙ judged_good trace (config_fault trace.config) good
only_reading text (Err (fault.BadLine number)) bad = bad_read text number bad
only_reading text (Err (fault.BadProfile number)) bad =
    written_judged text bad.trace bad.is_text ∙ judged_bad bad.trace (config_fault bad.trace.config) bad.first bad.is_first ∙ ap (λ n. Err (fault.BadProfile n)) (sym bad.numbered)
only_reading text (Err fault.OutOfMemory) none = absurd none

-- WHAT IS READ IS A READING

-- the lines of a text, and what no LF ends
record Cut (text : List ℕ) : Type 0 where
  lines : Lines
  rest : List ℕ
  are_lines : All IsOneLine lines
  is_open : IsOneLine rest
  parted : text ≡ ended_lines lines ++ rest

longer_rest : (byte : ℕ) (text rest : List ℕ) → is_line_feed byte ≡ false → IsOneLine rest → text ≡ rest → Cut (byte ∷ text)
longer_rest byte text rest other one is = record {
  lines = [];
  rest = byte ∷ rest;
  are_lines = All-nil IsOneLine;
  is_open = All-cons (λ b. is_line_feed b ≡ false) byte rest other one;
  parted = ap (λ t. byte ∷ t) is;
}

longer : (byte : ℕ) (text : List ℕ) (feed : Bool) → is_line_feed byte ≡ feed → (byte ≡ 10) ⊎ (feed ≡ false) → Cut text → Cut (byte ∷ text)
longer byte text feed is (inl lf) cut = record {
  lines = [] ∷ cut.lines;
  rest = cut.rest;
  are_lines = All-cons IsOneLine [] cut.lines (All-nil (λ b. is_line_feed b ≡ false)) cut.are_lines;
  is_open = cut.is_open;
  parted = ap (λ b. b ∷ text) lf ∙ ap (λ t. 10 ∷ t) cut.parted;
}
longer byte text feed is (inr other) cut = go cut.lines cut.are_lines cut.parted
  where
    go : (lines : Lines) → All IsOneLine lines → text ≡ ended_lines lines ++ cut.rest → Cut (byte ∷ text)
    go [] are parted = longer_rest byte text cut.rest (is ∙ other) cut.is_open parted
    go (line ∷ lines) are parted = record {
      lines = (byte ∷ line) ∷ lines;
      rest = cut.rest;
      are_lines = All-cons IsOneLine (byte ∷ line) lines (All-cons (λ b. is_line_feed b ≡ false) byte line (is ∙ other) (first_of IsOneLine line lines are)) (rest_of IsOneLine line lines are);
      is_open = cut.is_open;
      parted = ap (λ t. byte ∷ t) parted;
    }

feed_is : (byte : ℕ) (feed : Bool) → eqb byte 10 ≡ feed → (byte ≡ 10) ⊎ (feed ≡ false)
feed_is byte true is = inl (grind (arith, nat_tests, is))
feed_is byte false is = inr refl

cut_of : (text : List ℕ) → Cut text
cut_of [] = record { lines = []; rest = []; are_lines = All-nil IsOneLine; is_open = All-nil (λ b. is_line_feed b ≡ false); parted = refl }
cut_of (byte ∷ text) = longer byte text (is_line_feed byte) refl (feed_is byte (is_line_feed byte) refl) (cut_of text)

-- a trace that is judged is a reading
judged_reading : (text : List ℕ) (trace : Trace) (wrong : Option ProfileFault) → config_fault trace.config ≡ wrong → IsTraceText text trace → IsTraceReading text (judged trace wrong)
judged_reading text trace None is written = (written, is)
judged_reading text trace (Some first) is written = record { trace = trace; first = first; is_text = written; is_first = is; numbered = refl }

bad_whole : (before : Lines) (end : TraceBuilder) (number : ℕ) → run Empty (said_by before) ≡ Some end → parsed number end ≡ Err (fault.BadLine number) → (trace : Trace) → ¬ (WriteTrace before trace)
bad_whole before end number runs bad trace write =
    let (last, (leads, ends)) = trace_run trace.config trace.events write.follow in
    let same : end ≡ last = some_is end last (sym runs ∙ ap (run Empty) write.are ∙ leads) in
    not_bad trace (config_fault trace.config) number (sym (ends number) ∙ ap (parsed number) (sym same) ∙ bad)
  where
    not_bad : (trace : Trace) (wrong : Option ProfileFault) (number : ℕ) → judged trace wrong ≡ Err (fault.BadLine number) → ⊥
    not_bad trace None number is = absurd (cc)
    not_bad trace (Some first) number is = absurd (cc)

-- the end of the text
end_reading : (text : List ℕ) (before : Lines) (rest : List ℕ) (end : TraceBuilder) → text ≡ ended_lines before ++ rest → All IsOneLine before → IsOneLine rest → run Empty (said_by before) ≡ Some end → IsTraceReading text (ended (1 + length before) (Ok end) rest)
end_reading text before (byte ∷ rest) end is are one runs = record {
  before = before;
  rest = byte ∷ rest;
  are_lines = are;
  parted = is;
  counted = refl;
  begin = begins before end runs;
  bad = inr (one, inl (some_byte byte rest));
}
  where
    some_byte : (byte : ℕ) (rest : List ℕ) → byte ∷ rest ≢ []
    some_byte byte rest none = absurd (cc)
end_reading text before [] end is are one runs = go (whole_or_not end (run_in_order Empty (said_by before) end refl runs))
  where
    go : ((number : ℕ) → parsed number end ≡ Err (fault.BadLine number)) ⊎ IsWhole end → IsTraceReading text (parsed (1 + length before) end)
    go (inl bad) = subst (IsTraceReading text) (sym (bad (1 + length before))) (record {
      before = before;
      rest = [];
      are_lines = are;
      parted = is;
      counted = refl;
      begin = begins before end runs;
      bad = inr (one, inr (bad_whole before end (1 + length before) runs (bad (1 + length before))));
    })
    go (inr whole) = subst (IsTraceReading text) (sym (whole.judges (1 + length before))) (judged_reading text whole.trace (config_fault whole.trace.config) refl (record {
      lines = before;
      are_lines = are;
      are_all = is ∙ append-nil (ended_lines before);
      write = record { follow = whole.follow; are = run_adds Empty (said_by before) end runs ∙ ap (map Some) whole.all };
    }))

some_none : (last : TraceBuilder) → Some last ≡ None → ⊥
some_none last is = absurd (cc)

refused_next : (before : Lines) (line : List ℕ) (end : TraceBuilder) → run Empty (said_by before) ≡ Some end → builder_after end line ≡ None → ¬ (BeginTrace (before ++ line ∷ []))
refused_next before line end runs none front =
    let (last, leads) = begun (before ++ line ∷ []) front in
    some_none last (sym leads ∙ last_run Empty end before line runs ∙ ap (option_and_then (λ b. run b [])) none)

abbrev ReadsFrom : List ℕ → Lines → TraceBuilder → List ℕ → Type 0
ReadsFrom text before end rest = IsTraceReading text (parsed_from (1 + length before) (Ok end) (parts_of rest))

-- a line that is taken, or none of the trace's
line_reading : (text : List ℕ) (before : Lines) (line rest : List ℕ) (end : TraceBuilder) (taken : Option TraceBuilder) → text ≡ ended_lines before ++ (line ++ 10 ∷ rest) → All IsOneLine before → IsOneLine line → run Empty (said_by before) ≡ Some end → builder_after end line ≡ taken → ((next : TraceBuilder) → builder_after end line ≡ Some next → ReadsFrom text (before ++ line ∷ []) next rest) → ReadsFrom text before end (line ++ 10 ∷ rest)
line_reading text before line rest end (Some next) front are own runs taken go =
    let more : length (before ++ line ∷ []) ≡ length before + 1 = length-append before (line ∷ []) in
    let place : 1 + length (before ++ line ∷ []) ≡ 1 + length before + 1 = omega (arith, more) in
    let read : parsed_from (1 + length before) (Ok end) (parts_of (line ++ 10 ∷ rest)) ≡ parsed_from (1 + length before + 1) (Ok next) (parts_of rest) = good_line _ (1 + length before) end next (line ++ 10 ∷ rest) rest line refl (parted_line line rest own) taken in
    subst (IsTraceReading text) (ap (λ n. parsed_from n (Ok next) (parts_of rest)) place ∙ sym read) (go next taken)
line_reading text before line rest end None front are own runs taken go =
    subst (IsTraceReading text) (sym (bad_line _ (1 + length before) end (line ++ 10 ∷ rest) rest line refl (parted_line line rest own) taken)) (record {
      before = before;
      rest = line ++ 10 ∷ rest;
      are_lines = are;
      parted = front;
      counted = refl;
      begin = begins before end runs;
      bad = inl (record { next = line; after = rest; parted = refl; is_line = own; bad = refused_next before line end runs taken });
    })

-- the lines from here on
lines_reading : (text : List ℕ) (before lines : Lines) (rest : List ℕ) (end : TraceBuilder) → text ≡ ended_lines before ++ (ended_lines lines ++ rest) → All IsOneLine before → All IsOneLine lines → IsOneLine rest → run Empty (said_by before) ≡ Some end → ReadsFrom text before end (ended_lines lines ++ rest)
lines_reading text before [] rest end is are more one runs =
    subst (λ parts. IsTraceReading text (parsed_from (1 + length before) (Ok end) parts)) (sym (slice_split_none is_line_feed rest one)) (end_reading text before rest end is are one runs)
lines_reading text before (line ∷ lines) rest end is are more one runs =
    let own : IsOneLine line = first_of IsOneLine line lines more in
    let front : text ≡ ended_lines before ++ (line ++ 10 ∷ (ended_lines lines ++ rest)) = is ∙ ap (λ t. ended_lines before ++ t) (line_front line lines rest) in
    subst (ReadsFrom text before end) (sym (line_front line lines rest))
    (line_reading text before line (ended_lines lines ++ rest) end (builder_after end line) front are own runs refl
    (λ next taken. lines_reading text (before ++ line ∷ []) lines rest next (front ∙ sym (lines_last before line (ended_lines lines ++ rest))) (All-append IsOneLine before (line ∷ []) are (All-cons IsOneLine line [] own (All-nil IsOneLine))) (rest_of IsOneLine line lines more) one (last_run Empty end before line runs ∙ ap (option_and_then (λ b. run b [])) taken)))

-- what is read is a reading of the text
pub is_reading : (text : List ℕ) → IsTraceReading text (trace_reading text)
is_reading text =
    let cut = cut_of text in
    subst (IsTraceReading text) (sym (read_as text ∙ ap (λ t. parsed_from 1 (Ok Empty) (parts_of t)) cut.parted))
    (lines_reading text [] cut.lines cut.rest Empty cut.parted (All-nil IsOneLine) cut.are_lines cut.is_open refl)
