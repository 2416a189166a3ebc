-- How the tests of the words make the task.
use Rattle.std.proofs.Common.{◌≡◌, ◌∙◌, ℕ, Bool, true, false, cond, List, [], ◌∷◌, inl, inr, eqb, length, codes, Option, Some, None, Result, Ok, Err, refl, sym, ap, subst, arith}
use Rattle.std.specs.Prelude.{slice_get, option_and_then, option_map, IfErr, ◌&&◌, ◌==◌, if◌then◌else◌}
use Rattle.std.specs.Option.{option_map_or}
use Rattle.std.specs.Str.{bytes_eq}
use Rattle.std.proofs.lemmas.Bool.{eqb-true}
use Rattle.std.proofs.lemmas.Slice.Eq.{bytes_eq-Decides}
use Rattle.clap.specs.Faults.{fault_of, is_simple_and_free}
use Rattle.clap.specs.Kinds.{HasKind, IsAmong, Kinds}
use Rattle.clap.specs.Simple.{App, HasMatchesOf, is_simple, subcommand_of, subcommand_rows_of}
use Rattle.clap.specs.Walk.{Row, Text}
use Rattle.clap.specs.Words.{kind_of}
use Rattle.clap.specs.declared.error.Error.{Error}
use Rattle.clap.specs.declared.parser.matches.ArgMatches.{ArgMatches}
use Rattle.clap.specs.declared.error.kind.ErrorKind.{ErrorKind}
use Rattle.std.proofs.lemmas.Bool.Decides.{nat_tests}
use Rattle.command_lines.proofs.Samples.{simple, simple_and_free}
use Rattle.command_lines.specs.LineCommands.{eip_line_app, line_of, loop_of, met_task, misuse_of, named_task, parsed_task}
use Rattle.command_lines.specs.declared.line_task.Misuse.TheVariants as misuse
use Rattle.command_lines.specs.LineTasks.{IsAlone, Requests, is_alone, is_named, is_second, task_of}
use Rattle.command_lines.specs.declared.line_task.Task.{Task}
use Rattle.command_lines.specs.declared.line_task.Task.TheVariants as task

both : (a b : Bool) → (a && b) ≡ true → (a ≡ true) × (b ≡ true)
both true b h = (refl, h)
both false b h = absurd (cc)

found_second : (found : Option (List ℕ)) (word : List ℕ) → option_map_or (λ given. bytes_eq given word) found false ≡ true → found ≡ Some word
found_second None word h = absurd (cc)
found_second (Some given) word h = ap Some ((bytes_eq-Decides given word).0 h)

pub second_is : (words : List (List ℕ)) (word : List ℕ) → is_second words word ≡ true → slice_get words 1 ≡ Some word
second_is words word h = found_second (slice_get words 1) word h

same_word : (word : List ℕ) → bytes_eq word word ≡ true
same_word word = (bytes_eq-Decides word word).1 refl

second_of : (words : List (List ℕ)) (word : List ℕ) → slice_get words 1 ≡ Some word → is_second words word ≡ true
second_of words word h = ap (λ found. option_map_or (λ given. bytes_eq given word) found false) h ∙ same_word word

pub alone_is : (words : List (List ℕ)) (word : List ℕ) → is_alone words word ≡ true → IsAlone words word
alone_is words word h = let parts = both _ _ h in (eqb-true _ _ parts.0, second_is words word parts.1)

pub alone_of : (words : List (List ℕ)) (word : List ℕ) → IsAlone words word → is_alone words word ≡ true
alone_of words word h = rw (h.0, second_of words word h.1) refl

pub named_requests : (words : List (List ℕ)) (read : Task) → is_named words read ≡ true → Requests words read
named_requests words task.Step h = alone_is words _ h
named_requests words (task.Loop given) h = second_is words _ h
named_requests words (task.Line given) h = second_is words _ h
named_requests words task.Version h = alone_is words _ h

abbrev chosen : List (List ℕ) → Option Task → Option Task
chosen words read = option_and_then (λ r. if is_named words r then Some r else None) read

abbrev unless_version : List (List ℕ) → Option Task → Option Task
unless_version words read = cond (is_alone words (codes "--version")) (Some task.Version) (chosen words read)

pub step_is : (words : List (List ℕ)) → is_alone words (codes "step") ≡ true → task_of words ≡ Some task.Step
unfolding task_of
step_is words h = ap (λ b. cond b (Some task.Step) (unless_version words (parsed_task words))) h

pub version_is : (words : List (List ℕ)) → is_alone words (codes "step") ≡ false → is_alone words (codes "--version") ≡ true → task_of words ≡ Some task.Version
unfolding task_of
version_is words h v = ap (λ b. cond b (Some task.Step) (unless_version words (parsed_task words))) h ∙ ap (λ b. cond b (Some task.Version) (chosen words (parsed_task words))) v

otherwise : (words : List (List ℕ)) (read : Option Task) → is_alone words (codes "step") ≡ false → is_alone words (codes "--version") ≡ false → parsed_task words ≡ read → task_of words ≡ chosen words read
unfolding task_of
otherwise words read h v is = ap (λ b. cond b (Some task.Step) (unless_version words (parsed_task words))) h ∙ ap (λ b. cond b (Some task.Version) (chosen words (parsed_task words))) v ∙ ap (chosen words) is

pub read_is : (words : List (List ℕ)) (read : Task) → is_alone words (codes "step") ≡ false → is_alone words (codes "--version") ≡ false → parsed_task words ≡ Some read → is_named words read ≡ true → task_of words ≡ Some read
read_is words read h v is named = otherwise words (Some read) h v is ∙ ap (λ b. cond b (Some read) None) named

pub other_is : (words : List (List ℕ)) (read : Task) → is_alone words (codes "step") ≡ false → is_alone words (codes "--version") ≡ false → parsed_task words ≡ Some read → is_named words read ≡ false → task_of words ≡ None
other_is words read h v is named = otherwise words (Some read) h v is ∙ ap (λ b. cond b (Some read) None) named

pub none_is : (words : List (List ℕ)) → is_alone words (codes "step") ≡ false → is_alone words (codes "--version") ≡ false → parsed_task words ≡ None → task_of words ≡ None
none_is words h v is = otherwise words None h v is

-- THE COMMAND'S NAME

pub named_step : (name : List ℕ) (rows : List Row) → name ≡ codes "step" → named_task name rows ≡ Some task.Step
unfolding named_task
named_step name rows is = rw is refl

pub named_loop : (name : List ℕ) (rows : List Row) → name ≡ codes "loop" → named_task name rows ≡ Some (task.Loop (loop_of rows))
unfolding named_task
named_loop name rows is = rw is refl

pub named_line : (name : List ℕ) (rows : List Row) → name ≡ codes "line" → named_task name rows ≡ Some (task.Line (line_of rows))
unfolding named_task
named_line name rows is = rw is refl

differs : (a b : List ℕ) → ¬ (a ≡ b) → (t : Bool) → bytes_eq a b ≡ t → bytes_eq a b ≡ false
differs a b not false is = is
differs a b not true is = absurd (not ((bytes_eq-Decides a b).0 is))

pub named_none : (name : List ℕ) (rows : List Row) → ¬ (name ≡ codes "step") → ¬ (name ≡ codes "loop") → ¬ (name ≡ codes "line") → named_task name rows ≡ None
unfolding named_task
named_none name rows step loop line = rw (differs name _ step _ refl, differs name _ loop _ refl, differs name _ line _ refl) refl

-- WHAT CLAP SAYS

abbrev allowed : List (List ℕ) → Kinds → Option Task
allowed words faults = if length faults == 0 then met_task (subcommand_of eip_line_app words) else None

-- no fault: the task is that of the command that was met
pub parsed : (words : List (List ℕ)) (met : Option (Text × List Row)) → fault_of eip_line_app words ≡ [] → subcommand_of eip_line_app words ≡ met → parsed_task words ≡ met_task met
unfolding parsed_task
parsed words met none is = ap (allowed words) none ∙ ap met_task is

-- a fault: there is no task
pub refused : (words : List (List ℕ)) (k : ErrorKind) → IsAmong k (fault_of eip_line_app words) → parsed_task words ≡ None
unfolding parsed_task
refused words k among = go (fault_of eip_line_app words) among
  where
    go : (faults : Kinds) → IsAmong k faults → allowed words faults ≡ None
    go [] none = absurd none
    go (f ∷ fs) some = let above : eqb (length (f ∷ fs)) 0 ≡ false = grind (arith, nat_tests) in ap (λ c. cond c (met_task (subcommand_of eip_line_app words)) None) above

-- clap's error is out of memory, or it is among the faults of the words
pub misused : (words : List (List ℕ)) (e : Error) → HasKind (fault_of eip_line_app words) e → misuse_of (kind_of e) ≡ misuse.Usage → parsed_task words ≡ None
misused words e (inl memory) is = let no : misuse.OutOfMemory ≡ misuse.Usage = sym (ap misuse_of memory) ∙ is in absurd (cc)
misused words e (inr among) is = refused words (kind_of e) among

pub parsed_by : (words : List (List ℕ)) (a : App) (m : ArgMatches) → a ≡ eip_line_app → (is_simple_and_free a ≡ true → fault_of a words ≡ []) → HasMatchesOf a words m → parsed_task words ≡ met_task (subcommand_rows_of m)
parsed_by words a m is kinds matches =
    parsed words _ (ap (λ (x : App). fault_of x words) (sym is) ∙ kinds (ap is_simple_and_free is ∙ simple_and_free))
    (ap (λ (x : App). subcommand_of x words) (sym is) ∙ sym (matches (ap is_simple is ∙ simple)).1)

pub misused_by : (words : List (List ℕ)) (a : App) (e : Error) → a ≡ eip_line_app → (is_simple_and_free a ≡ true → HasKind (fault_of a words) e) → misuse_of (kind_of e) ≡ misuse.Usage → parsed_task words ≡ None
misused_by words a e is kinds usage = misused words e (subst (λ (x : App). HasKind (fault_of x words) e) is (kinds (ap is_simple_and_free is ∙ simple_and_free))) usage

pub err_is : {T E : Type 0} (r : Result T E) (a b : E) → r ≡ Err a → r ≡ Err b → a ≡ b
err_is r a b one two = cc

pub if_err : {T E : Type 0} (r : Result T E) (Q : E → Type 0) (e : E) → IfErr r Q → r ≡ Err e → Q e
if_err (Ok t) Q e h is = absurd (cc)
if_err (Err x) Q e h is = let same : x ≡ e = cc in subst Q same h

-- the name and the rows of what was met
pub met_is : {A : Type 0} (name_of : A → Text) (rows_in : A → List Row) (found : Option A) (met : Option (Text × List Row)) (given : A)
    → found ≡ Some given → option_map name_of found ≡ option_map (λ m. m.0) met → option_map rows_in found ≡ option_map (λ m. m.1) met → met ≡ Some (name_of given, rows_in given)
met_is name_of rows_in found None given is names rows = let no : Some (name_of given) ≡ None = sym (ap (option_map name_of) is) ∙ names in absurd (cc)
met_is name_of rows_in found (Some (n, r)) given is names rows =
    let one : Some (name_of given) ≡ Some n = sym (ap (option_map name_of) is) ∙ names in
    let two : Some (rows_in given) ≡ Some r = sym (ap (option_map rows_in) is) ∙ rows in
    let n_is : n ≡ name_of given = cc in
    let r_is : r ≡ rows_in given = cc in
    rw (n_is, r_is) refl

pub mapped : {A B C : Type 0} (f : B → C) (g : A → B) (o : Option A) → option_map f (option_map g o) ≡ option_map (λ x. f (g x)) o
mapped f g None = refl
mapped f g (Some x) = refl
