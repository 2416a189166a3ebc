-- Streams are opened without a fault.
use Rattle.std.proofs.Common.{◌≡◌, ◌≢◌, ◌<◌, ◌+◌, ◌==◌, ◌&&◌, not, nat_lt, ℕ, suc, Bool, true, false, cond, List, [], ◌∷◌, ◌++◌, length, position, Option, Some, None, Result, Ok, IsOk, refl, sym, ◌∙◌, ap, subst, arith, add-one}
use Rattle.std.proofs.lemmas.Bool.Decides.{nat_tests}
use Rattle.std.proofs.lemmas.List.{length_push}
use Rattle.std.proofs.lemmas.List.Quantifiers.{position-Some}
use Rattle.cip_types.specs.declared.names.Node.{Node}
use Rattle.cip_events.specs.declared.event.Event.{Event}
use Rattle.cip_tables.specs.declared.table.DeviceTable.{DeviceTable}
use Rattle.segment_world.specs.Transit.Streams.{Stream, fresh_stream}
use Rattle.segment_world.specs.declared.act.Act.{Act}
use Rattle.segment_world.specs.declared.act.ActFault.{ActFault}
use Rattle.segment_world.specs.Story.{Story, begins, runs, reports, goes_on}
use Rattle.segment_world.specs.World.{World, ReportedEvent, happens, opened_if, are_two, most_stream_numbers}
use Rattle.settling.specs.Search.Openings.{has_address, open_act, opener, pair_if, pair_from, pair_of, first_pair, peer_in, Opening, Opened}
use Rattle.settling.specs.Search.Lemmas.Cases.{ok_is, some_is, none_some}
use Rattle.settling.proofs.Placing.{runs_snoc, is_ok_at}

pub record IsPair (count : ℕ) (p : ℕ × ℕ) : Type 0 where
  pub first : p.0 < count
  pub second : p.1 < count
  pub apart : p.0 ≢ p.1

first_two : (count : ℕ) → 1 < count → IsPair count (0, 1)
first_two count two = record { first = omega arith; second = two; apart = λ e. omega (arith, e) }

pair_cond : (count i j : ℕ) (b : Bool) → 1 < count → i < count → j < count → (i == j) ≡ b → IsPair count (cond b (0, 1) (i, j))
pair_cond count i j true two lt_i lt_j is = first_two count two
pair_cond count i j false two lt_i lt_j is = record { first = lt_i; second = lt_j; apart = λ e. grind (arith, nat_tests, is, e) }

pair_if_ok : (count i : ℕ) (o : Option ℕ) → 1 < count → i < count → ((j : ℕ) → o ≡ Some j → j < count) → IsPair count (pair_if i o)
pair_if_ok count i None two lt_i lt = first_two count two
pair_if_ok count i (Some j) two lt_i lt = pair_cond count i j (i == j) two lt_i (lt j refl) refl

pair_within : (n i k : ℕ) (o : Option Node) (rest : Option (ℕ × Node)) (p : ℕ × Node) → i < k → (rest ≡ Some p → p.0 < k) → first_pair i o rest ≡ Some p → p.0 < k
pair_within n i k None rest p lt more is = more is
pair_within n i k (Some q) rest p lt more is = let e : i ≡ p.0 = ap (λ (x : ℕ × Node). x.0) (some_is _ _ is) in omega arith

opener_within : (n i : ℕ) (hs : List (List Event)) (p : ℕ × Node) → opener n i hs ≡ Some p → p.0 < i + length hs
opener_within n i [] p is = none_some p is
opener_within n i (h ∷ hs) p is =
    pair_within n i (i + length (h ∷ hs)) (peer_in n h) (opener n (i + 1) hs) p (omega arith) (λ e. let r = opener_within n (i + 1) hs p e in omega arith) is

position_within : (q : ℕ) (xs : List Node) (j : ℕ) → position (has_address q) xs ≡ Some j → j < length xs
position_within q xs j is = (position-Some (has_address q) xs j (record { 0 = 0 }) is).0

pair_from_ok : (nodes : List Node) (count : ℕ) (o : Option (ℕ × Node)) → 1 < count → length nodes ≡ count → ((p : ℕ × Node) → o ≡ Some p → p.0 < count) → IsPair count (pair_from nodes o)
pair_from_ok nodes count None two len lt = first_two count two
pair_from_ok nodes count (Some p) two len lt =
    pair_if_ok count p.0 (position (has_address p.1.0) nodes) two (lt p refl)
    (λ j is. let r = position_within p.1.0 nodes j is in omega arith)

pub pair_ok : (nodes : List Node) (hs : List (List Event)) (n : ℕ) → 1 < length hs → length nodes ≡ length hs → IsPair (length hs) (pair_of nodes hs n)
pair_ok nodes hs n two len = pair_from_ok nodes (length hs) (opener n 0 hs) two len (λ p is. let r = opener_within n 0 hs p is in omega arith)

are_two_is : (a b count : ℕ) → a < count → b < count → a ≢ b → (nat_lt a count && nat_lt b count && not (a == b)) ≡ true
are_two_is a b count lt_a lt_b ne = grind (arith, nat_tests)

few_is : (streams : ℕ) → streams < 65536 → nat_lt streams 65536 ≡ true
few_is streams lt = grind (arith, nat_tests)

pub open_happens : (start : World) (hs : List (List Event)) (n : ℕ) (acts : List Act) (w : World) → Opening start hs → Opened start hs n acts w → 1 < length hs → n < 65536 → happens w (open_act (pair_of start.nodes hs n)) ≡ Ok (None, record w { streams = w.streams ++ fresh_stream (pair_of start.nodes hs n).0 (pair_of start.nodes hs n).1 ∷ [] })
open_happens start hs n acts w opening opened two small =
    let p = pair_of start.nodes hs n in
    let ok = pair_ok start.nodes hs n two opening.nodes in
    let count : length w.tables ≡ length hs = ap (λ (ts : List DeviceTable). length ts) opened.tables ∙ opening.tables in
    let are : are_two p.0 p.1 w ≡ true = are_two_is p.0 p.1 (length w.tables) (omega (arith, ok.first, count)) (omega (arith, ok.second, count)) ok.apart in
    let few : nat_lt (length w.streams) most_stream_numbers ≡ true = few_is (length w.streams) (omega (arith, opened.count, small)) in
    ap (λ (b : Bool). opened_if p.0 p.1 w b (nat_lt (length w.streams) most_stream_numbers)) are ∙ ap (opened_if p.0 p.1 w true) few

pub opened_more : (start : World) (hs : List (List Event)) (n : ℕ) (acts : List Act) (w : World) → Opening start hs → Opened start hs n acts w → 1 < length hs → n < 65536 → (reported : Option ReportedEvent) (v : World) → happens w (open_act (pair_of start.nodes hs n)) ≡ Ok (reported, v) → Opened start hs (suc n) (acts ++ open_act (pair_of start.nodes hs n) ∷ []) v
opened_more start hs n acts w opening opened two small reported v is =
    let a = open_act (pair_of start.nodes hs n) in
    let s = fresh_stream (pair_of start.nodes hs n).0 (pair_of start.nodes hs n).1 in
    let happens_so = open_happens start hs n acts w opening opened two small in
    let same : record w { streams = w.streams ++ s ∷ [] } ≡ v = ap (λ (p : Option ReportedEvent × World). p.1) (ok_is _ _ (sym happens_so ∙ is)) in
    let after : Opened start hs (suc n) (acts ++ a ∷ []) (record w { streams = w.streams ++ s ∷ [] }) = record {
      acts_are = ap (λ (l : List Act). l ++ a ∷ []) opened.acts_are;
      runs_so = runs_snoc (begins start) acts a ∙ ap (λ (r : Result Story ActFault). reports r a) opened.runs_so ∙ ap (goes_on []) happens_so;
      tables = opened.tables;
      nodes = opened.nodes;
      count = length_push w.streams s ∙ ap (λ k. k + 1) opened.count ∙ add-one n;
    } in
    subst (Opened start hs (suc n) (acts ++ a ∷ [])) same after

pub runs_none : (r : Result Story ActFault) → runs r [] ≡ r
unfolding runs
runs_none r = refl

pub opened_none : (start : World) (hs : List (List Event)) (acts : List Act) → Opening start hs → acts ≡ [] → Opened start hs 0 acts start
opened_none start hs acts opening none = record {
  acts_are = none;
  runs_so = ap (runs (begins start)) none ∙ runs_none (begins start);
  tables = refl;
  nodes = refl;
  count = ap (λ (l : List Stream). length l) opening.streams;
}

pub open_ok : (start : World) (hs : List (List Event)) (n : ℕ) (acts : List Act) (w : World) (p : ℕ × ℕ) → Opening start hs → Opened start hs n acts w → 1 < length hs → n < 65536 → p ≡ pair_of start.nodes hs n → IsOk (happens w (open_act p))
open_ok start hs n acts w p opening opened two small is =
    let so = open_happens start hs n acts w opening opened two small in
    let same = is in
    subst (λ (q : ℕ × ℕ). IsOk (happens w (open_act q))) (sym same) (is_ok_at (happens w (open_act (pair_of start.nodes hs n))) _ so)

pub opened_next : (start : World) (hs : List (List Event)) (n : ℕ) (acts : List Act) (w : World) (p : ℕ × ℕ) → Opening start hs → Opened start hs n acts w → 1 < length hs → n < 65536 → p ≡ pair_of start.nodes hs n → (reported : Option ReportedEvent) (v : World) (more : List Act) → happens w (open_act p) ≡ Ok (reported, v) → more ≡ acts ++ open_act p ∷ [] → Opened start hs (n + 1) more v
opened_next start hs n acts w p opening opened two small is reported v more so more_is =
    let same = is in
    let so2 : happens w (open_act (pair_of start.nodes hs n)) ≡ Ok (reported, v) = ap (λ (q : ℕ × ℕ). happens w (open_act q)) (sym same) ∙ so in
    let more2 : more ≡ acts ++ open_act (pair_of start.nodes hs n) ∷ [] = more_is ∙ ap (λ (q : ℕ × ℕ). acts ++ open_act q ∷ []) same in
    rw (more2, add-one) (opened_more start hs n acts w opening opened two small reported v so2)
