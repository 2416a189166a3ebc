-- The receipts of all workers together report each script.
use Rattle.std.proofs.Common.{◌≡◌, ◌≢◌, ℕ, zero, suc, ◌<◌, List, [], ◌∷◌, ◌++◌, length, get_or, map, Ok, Err, None, Vec, Global, true, false, refl, ap, ◌∙◌, sym, subst, arith, append-nil, zero-add}
use Rattle.std.specs.Prelude.{All, IfOk, ◌==◌}
use Rattle.std.specs.List.{enumerate_from}
use Rattle.std.proofs.lemmas.Bool.Decides.{nat_tests}
use Rattle.std.proofs.lemmas.List.{get_or-map, length-map}
use Rattle.std.proofs.lemmas.List.FromFn.{get_or-enumerate_from, length-enumerate_from}
use Rattle.std.proofs.lemmas.List.Elements.{All-get_or, All-head, All-tail, filter-append}
use Rattle.device_lock.specs.declared.receipt.Receipt.{Receipt}
use Rattle.line_threads.specs.Accounts.{IsAccount, of_device, own_events}
use Rattle.line_threads.specs.Lines.{Account, Apart, all_receipts, first_fault, job_of, IsJob, ReportsScripts}
use Rattle.line_threads.specs.Scripts.{IsOwn}
use Rattle.line_threads.specs.declared.line.Job.{Job}
use Rattle.cip_events.specs.declared.event.Event.{Event}

differs : (a b : ℕ) → a ≢ b → (a == b) ≡ false
differs a b ne = grind (arith, nat_tests)

agrees : (a b : ℕ) → a ≡ b → (a == b) ≡ true
agrees a b same = grind (arith, nat_tests)

-- receipts of another device
of_away : (j k : ℕ) (rs : List Receipt) → k ≢ j → All (λ r. r.device ≡ k) rs → of_device j rs ≡ []
of_away j k [] ne all = refl
of_away j k (r ∷ rs) ne all =
    let here : r.device ≡ k = All-head (λ r. r.device ≡ k) r rs all in
    let test : (r.device == j) ≡ false = differs r.device j (λ e. ne (sym here ∙ e)) in
    rw test (of_away j k rs ne (All-tail (λ r. r.device ≡ k) r rs all))

-- receipts of this device alone
of_here : (k : ℕ) (rs : List Receipt) → All (λ r. r.device ≡ k) rs → of_device k rs ≡ rs
of_here k [] all = refl
of_here k (r ∷ rs) all =
    let here : r.device ≡ k = All-head (λ r. r.device ≡ k) r rs all in
    let test : (r.device == k) ≡ true = agrees r.device k here in
    rw test (ap (λ xs. r ∷ xs) (of_here k rs (All-tail (λ r. r.device ≡ k) r rs all)))

-- each worker's account is of its device and its script
abbrev pub AccountsOf : List ℕ → List (List Event) → List Account → Type 0
AccountsOf [] ss xs = xs ≡ []
AccountsOf (k ∷ ks) [] xs = xs ≡ []
AccountsOf (k ∷ ks) (s ∷ ss) [] = Unit {0}
AccountsOf (k ∷ ks) (s ∷ ss) (x ∷ xs) = IfOk x (λ v. IsAccount k s v.items) × AccountsOf ks ss xs

of_append : (j : ℕ) (xs ys : List Receipt) → of_device j (xs ++ ys) ≡ of_device j xs ++ of_device j ys
of_append j xs ys = filter-append (λ r. r.device == j) xs ys

away : (j : ℕ) (ks : List ℕ) (ss : List (List Event)) (xs : List Account) → All (λ k. k ≢ j) ks → AccountsOf ks ss xs → of_device j (all_receipts xs) ≡ []
away j [] ss xs ne each = rw each refl
away j (k ∷ ks) [] xs ne each = rw each refl
away j (k ∷ ks) (s ∷ ss) [] ne each = refl
away j (k ∷ ks) (s ∷ ss) (Ok v ∷ xs) ne each =
    of_append j v.items (all_receipts xs)
    ∙ rw (of_away j k v.items (All-head (λ k. k ≢ j) k ks ne) each.0.of) (away j ks ss xs (All-tail (λ k. k ≢ j) k ks ne) each.1)
away j (k ∷ ks) (s ∷ ss) (Err f ∷ xs) ne each = away j ks ss xs (All-tail (λ k. k ≢ j) k ks ne) each.1

pub report_each : (ks : List ℕ) (ss : List (List Event)) (xs : List Account) → length ss ≡ length ks → length xs ≡ length ks → Apart ks → AccountsOf ks ss xs → first_fault xs ≡ None
    → (i : ℕ) → i < length ks → own_events (of_device (get_or ks i 0) (all_receipts xs)) ≡ get_or ss i []
report_each [] ss xs ls la apart each well i lt = absurd (omega arith)
report_each (k ∷ ks) [] xs ls la apart each well i lt = absurd (omega arith)
report_each (k ∷ ks) (s ∷ ss) [] ls la apart each well i lt = absurd (omega arith)
report_each (k ∷ ks) (s ∷ ss) (Err f ∷ xs) ls la apart each well i lt = cc
report_each (k ∷ ks) (s ∷ ss) (Ok v ∷ xs) ls la apart each well zero lt =
    ap own_events (of_append k v.items (all_receipts xs))
    ∙ rw (of_here k v.items each.0.of, away k ks ss xs apart.0 each.1, append-nil) each.0.own
report_each (k ∷ ks) (s ∷ ss) (Ok v ∷ xs) ls la apart each well (suc i) lt =
    let j = get_or ks i 0 in
    let below : i < length ks = omega arith in
    let ne : j ≢ k = All-get_or (λ j. j ≢ k) ks i 0 below apart.0 in
    ap own_events (of_append j v.items (all_receipts xs))
    ∙ rw (of_away j k v.items (λ e. ne (sym e)) each.0.of) (report_each ks ss xs (omega arith) (omega arith) apart.1 each.1 well i below)

-- a job by its place
get_job : (ss : List (Vec Event Global)) (i : ℕ) (s : Vec Event Global) (j : Job) → i < length ss → get_or (map job_of (enumerate_from 0 ss)) i j ≡ record { place = i; script = get_or ss i s }
get_job ss i s j lt =
    let lt' : i < length (enumerate_from 0 ss) = rw (length-enumerate_from 0 ss) lt in
    get_or-map job_of (enumerate_from 0 ss) i (0, s) j lt' ∙ rw (get_or-enumerate_from 0 ss i (0, s) lt, zero-add) refl

-- what each worker ends with, place by place, as a list
pub accounts_of : {S : Type 0} (f : S → ℕ) (threads : List S) (ss : List (Vec Event Global)) (xs : List Account) → length ss ≡ length threads → length xs ≡ length threads
    → ((i : ℕ) (d : S) (s : Vec Event Global) (x : Account) → i < length xs → IfOk (get_or xs i x) (λ v. IsAccount (f (get_or threads i d)) (get_or ss i s).items v.items))
    → AccountsOf (map f threads) (map (λ (v : Vec Event Global). v.items) ss) xs
accounts_of f [] ss [] ls la each = refl
accounts_of f [] ss (x ∷ xs) ls la each = absurd (omega arith)
accounts_of f (d ∷ ds) [] xs ls la each = absurd (omega arith)
accounts_of f (d ∷ ds) (s ∷ ss) [] ls la each = tt
accounts_of f (d ∷ ds) (s ∷ ss) (x ∷ xs) ls la each =
    (each 0 d s x (omega arith), accounts_of f ds ss xs (omega arith) (omega arith) (λ i e t y lt. each (suc i) e t y (omega arith)))

pub jobs_fit : (n : ℕ) (ss : List (Vec Event Global)) → length ss ≡ n → All (λ s. IsOwn s.items) ss → All (IsJob n) (map job_of (enumerate_from 0 ss))
jobs_fit n ss len own i j lt =
    let lt' : i < length ss = rw (length-map, length-enumerate_from) at lt in
    let below : i < n = omega arith in
    rw (get_job ss i j.script j lt') (below, own i j.script lt')

pub report_all : {S : Type 0} (f : S → ℕ) (devices : List S) (ss : List (Vec Event Global)) (jobs : List Job) (xs : List Account) (rs : List Receipt)
    → length ss ≡ length devices → Apart (map f devices) → jobs ≡ map job_of (enumerate_from 0 ss) → length xs ≡ length jobs
    → ((i : ℕ) (d : S) (j : Job) (x : Account) → i < length jobs → IfOk (get_or xs i x) (λ v. IsAccount (f (get_or devices (get_or jobs i j).place d)) (get_or jobs i j).script.items v.items))
    → first_fault xs ≡ None → rs ≡ all_receipts xs
    → ReportsScripts (map f devices) ss rs
report_all {S} f devices ss jobs xs rs len apart are long each well gathered i s lt =
    let items = λ (v : Vec Event Global). v.items in
    let same : length jobs ≡ length ss = ap length are ∙ length-map (enumerate_from 0 ss) job_of ∙ length-enumerate_from 0 ss in
    let many : length (map f devices) ≡ length devices = length-map devices f in
    let lt' : i < length ss = omega arith in
    let each' = λ (k : ℕ) (d : S) (t : Vec Event Global) (x : Account) (below : k < length xs).
    let j : Job = record { place = 0; script = t } in
    let in' : k < length jobs = omega arith in
    let in'' : k < length ss = omega arith in
    subst (λ (q : Job). IfOk (get_or xs k x) (λ v. IsAccount (f (get_or devices q.place d)) q.script.items v.items))
    (ap (λ (js : List Job). get_or js k j) are ∙ get_job ss k t j in'')
    (each k d j x in') in
    let accounts : AccountsOf (map f devices) (map items ss) xs = accounts_of f devices ss xs len (omega arith) each' in
    ap (λ zs. own_events (of_device (get_or (map f devices) i 0) zs)) gathered
    ∙ report_each (map f devices) (map items ss) xs (length-map ss items ∙ len ∙ sym many) (long ∙ same ∙ len ∙ sym many) apart accounts well i lt
    ∙ get_or-map items ss i s [] lt'

-- what was gathered, where it was
pub if_gathered : (r : Account) (xs : List Account) (Q : Vec Receipt Global → Type 0) → IfOk r (λ v. v.items ≡ all_receipts xs) → IfOk r (λ v. first_fault xs ≡ None) → ((v : Vec Receipt Global) → v.items ≡ all_receipts xs → first_fault xs ≡ None → Q v) → IfOk r Q
if_gathered (Ok v) xs Q is well give = give v is well
if_gathered (Err f) xs Q is well give = tt
