-- Where no two devices have a connection id in common after their histories, none have one at the end of the schedule.
use Rattle.std.proofs.Common.{◌≡◌, ◌≤◌, ◌<◌, ℕ, zero, suc, ◌+◌, ◌||◌, Bool, true, false, cond, List, [], ◌∷◌, slice_get, length, Option, Some, None, Result, Ok, Err, IfOk, refl, sym, ◌∙◌, ap, subst, inl, inr, arith}
use Rattle.std.specs.List.{list_any}
use Rattle.std.proofs.lemmas.Bool.{cases_lt, or_left, or_right}
use Rattle.std.proofs.lemmas.Bool.Decides.{nat_tests}
use Rattle.std.proofs.lemmas.List.{length-set}
use Rattle.std.proofs.lemmas.Option.{same_Some}
use Rattle.cip_types.specs.declared.ids.IdBlock.{IdBlock}
use Rattle.cip_types.specs.Ids.{end_number, id_at, shares_ids}
use Rattle.cip_types.specs.IdLaws.{has_id, ids_are_theirs}
use Rattle.cip_events.specs.declared.event.Event.{Event}
use Rattle.cip_tables.specs.declared.table.DeviceTable.{DeviceTable}
use Rattle.cip_tables.specs.Run.{table_after}
use Rattle.cip_tables.specs.Step.{opening_table}
use Rattle.cip_tables.specs.Whole.{ids_of}
use Rattle.device_lock.specs.declared.receipt.Receipt.{Receipt}
use Rattle.device_lock.specs.Histories.{HistoryValue}
use Rattle.segment_world.specs.declared.act.Act.{Act}
use Rattle.segment_world.specs.declared.act.ActFault.{ActFault}
use Rattle.segment_world.specs.Story.{Story, ProjectionsAreRuns, begins, events_of, goes_on, reports, runs}
use Rattle.segment_world.specs.World.{World, Happened, ReportedEvent, happens}
use Rattle.schedule_laws.specs.Lives.{AreApart}
use Rattle.schedule_laws.specs.Lemmas.Moves.{Moves, act_moves}
use Rattle.schedule_laws.specs.Lemmas.ProducedActs.{Any, any_streams}
use Rattle.settling.specs.Search.Histories.{start_of}
use Rattle.settling.specs.Search.Lemmas.Listing.{history_some}
use Rattle.settling.specs.Settlings.{SettlesAll}
use Rattle.settling.specs.SharedIds.{ShareNoIds, first_shared, ids_of_all, last_ids, last_table, share_ids, sharer, shares_any, with_sharer}

-- ---- an id of two blocks

one_of_two : (a b x y : Bool) → (a ≡ true → x ≡ true) → (b ≡ true → y ≡ true) → (a || b) ≡ true → (x || y) ≡ true
one_of_two true b x y first second is = or_left x y (first refl)
one_of_two false b x y first second is = or_right x y (second is)

both_have : (block other : IdBlock) (id : ℕ) → has_id id block ≡ true → has_id id other ≡ true → shares_ids block other ≡ true
both_have block other id one two = grind (arith, nat_tests)

block_shares : (blocks : List IdBlock) (block : IdBlock) (id : ℕ) → has_id id block ≡ true → list_any (has_id id) blocks ≡ true → shares_any blocks block ≡ true
block_shares [] block id own is = absurd (let e = is in cc)
block_shares (first ∷ blocks) block id own is =
    one_of_two (has_id id first) (list_any (has_id id) blocks) (shares_ids block first) (shares_any blocks block) (both_have block first id own) (block_shares blocks block id own) is

blocks_share : (blocks others : List IdBlock) (id : ℕ) → list_any (has_id id) blocks ≡ true → list_any (has_id id) others ≡ true → share_ids blocks others ≡ true
blocks_share blocks [] id own is = absurd (let e = is in cc)
blocks_share blocks (other ∷ others) id own is =
    one_of_two (has_id id other) (list_any (has_id id) others) (shares_any blocks other) (share_ids blocks others) (λ has. block_shares blocks other id has own) (blocks_share blocks others id own) is

-- a device that has the number has its id
number_has : (blocks : List IdBlock) (number : ℕ) → 1 ≤ number → number < end_number blocks → list_any (has_id (id_at blocks number).0) blocks ≡ true
number_has blocks number from to = ids_are_theirs blocks number from (omega (arith, to))

-- ---- devices that share none

none_found : (first : Bool) (place : ℕ) (later : Option ℕ) → cond first (Some place) later ≡ None → (first ≡ false) × (later ≡ None)
none_found true place later none = absurd (let e = none in cc)
none_found false place later none = (refl, none)

none_of_both : (place : ℕ) (found : Option ℕ) (later : Option (ℕ × ℕ)) → with_sharer place found later ≡ None → (found ≡ None) × (later ≡ None)
none_of_both place None later none = (refl, none)
none_of_both place (Some other) later none = absurd (let e = none in cc)

not_with : (blocks own : List IdBlock) (place b : ℕ) (ids : List (List IdBlock)) → sharer blocks place ids ≡ None → slice_get ids b ≡ Some own → share_ids blocks own ≡ false
not_with blocks own place b [] none at = absurd (let e = at in cc)
not_with blocks own place zero (first ∷ ids) none at =
    subst (λ (l : List IdBlock). share_ids blocks l ≡ false) (same_Some first own at) (none_found (share_ids blocks first) place (sharer blocks (place + 1) ids) none).0
not_with blocks own place (suc b) (first ∷ ids) none at =
    not_with blocks own (place + 1) b ids (none_found (share_ids blocks first) place (sharer blocks (place + 1) ids) none).1 at

not_both : (place a b : ℕ) (ids : List (List IdBlock)) (one two : List IdBlock) → first_shared place ids ≡ None → a < b → slice_get ids a ≡ Some one → slice_get ids b ≡ Some two → share_ids one two ≡ false
not_both place a b [] one two none before at_a at_b = absurd (let e = at_a in cc)
not_both place a zero (own ∷ ids) one two none before at_a at_b = absurd (omega (arith, before))
not_both place zero (suc b) (own ∷ ids) one two none before at_a at_b =
    subst (λ (l : List IdBlock). share_ids l two ≡ false) (same_Some own one at_a)
    (not_with own two (place + 1) b ids (none_of_both place (sharer own (place + 1) ids) (first_shared (place + 1) ids) none).0 at_b)
not_both place (suc a) (suc b) (own ∷ ids) one two none before at_a at_b =
    not_both (place + 1) a b ids one two (none_of_both place (sharer own (place + 1) ids) (first_shared (place + 1) ids) none).1 (omega (arith, before)) at_a at_b

never_shared : (ids : List (List IdBlock)) (a b m n : ℕ) (one two : List IdBlock) → first_shared 0 ids ≡ None → a < b → slice_get ids a ≡ Some one → slice_get ids b ≡ Some two → list_any (has_id m) one ≡ true → list_any (has_id n) two ≡ true → m ≡ n → ⊥
never_shared ids a b m n one two none before at_a at_b has_m has_n same =
    let apart = not_both 0 a b ids one two none before at_a at_b in
    let shared = blocks_share one two m has_m (subst (λ (id : ℕ). list_any (has_id id) two ≡ true) (sym same) has_n) in
    let wrong = sym apart ∙ shared in absurd cc

-- ---- the tables at the end of a schedule

-- as many as at its start
abbrev HasCount : ℕ → Story → Type 0
HasCount count story = length story.world.tables ≡ count

moved_count : (w : World) (moved : Option ReportedEvent × World) → Moves Any w moved → length moved.1.tables ≡ length w.tables
moved_count w (None, new) rests = ap (λ (l : List DeviceTable). length l) rests.tables
moved_count w (Some reported, new) came = ap (λ (x : World). length x.tables) came.leaves ∙ length-set w.tables reported.device came.after

happened_count : (count : ℕ) (story : Story) (said : Happened) → IfOk said (Moves Any story.world) → HasCount count story → IfOk (goes_on story.reported said) (HasCount count)
happened_count count story (Err fault) moves has = tt
happened_count count story (Ok moved) moves has = moved_count story.world moved moves ∙ has

act_count : (count : ℕ) (so_far : Result Story ActFault) (act : Act) → IfOk so_far (HasCount count) → IfOk (reports so_far act) (HasCount count)
act_count count (Err fault) act has = tt
act_count count (Ok story) act has = happened_count count story (happens story.world act) (act_moves Any story.world act (any_streams story.world.streams)) has

acts_count : (count : ℕ) (acts : List Act) (so_far : Result Story ActFault) → IfOk so_far (HasCount count) → IfOk (runs so_far acts) (HasCount count)
unfolding runs
acts_count count [] so_far has = has
acts_count count (act ∷ acts) so_far has = acts_count count acts (reports so_far act) (act_count count so_far act has)

ran_count : (start : World) (acts : List Act) (story : Story) → runs (begins start) acts ≡ Ok story → length story.world.tables ≡ length start.tables
ran_count start acts story ran = subst (λ (r : Result Story ActFault). IfOk r (HasCount (length start.tables))) ran (acts_count (length start.tables) acts (begins start) refl)

-- a place of one list is a place of another one that is as long
there_too : {X Y : Type 0} (xs : List X) (ys : List Y) (i : ℕ) (x : X) → length xs ≡ length ys → slice_get xs i ≡ Some x → (y : Y) × (slice_get ys i ≡ Some y)
there_too [] ys i x same at = absurd (let e = at in cc)
there_too (first ∷ xs) [] i x same at = absurd (omega (arith, same))
there_too (first ∷ xs) (y ∷ ys) zero x same at = (y, refl)
there_too (first ∷ xs) (y ∷ ys) (suc i) x same at = there_too xs ys i x (omega (arith, same)) at

starts_at : (hs : List HistoryValue) (i : ℕ) (h : HistoryValue) → slice_get hs i ≡ Some h → slice_get (start_of hs).tables i ≡ Some (opening_table h.config)
starts_at [] i h at = absurd (let e = at in cc)
starts_at (first ∷ hs) zero h at = ap (λ (x : HistoryValue). Some (opening_table x.config)) (same_Some first h at)
starts_at (first ∷ hs) (suc i) h at = starts_at hs i h at

start_count : (hs : List HistoryValue) → length (start_of hs).tables ≡ length hs
start_count [] = refl
start_count (h ∷ hs) = ap suc (start_count hs)

ids_at : (hs : List HistoryValue) (i : ℕ) (h : HistoryValue) → slice_get hs i ≡ Some h → slice_get (ids_of_all hs) i ≡ Some (last_ids h)
ids_at [] i h at = absurd (let e = at in cc)
ids_at (first ∷ hs) zero h at = ap (λ (x : HistoryValue). Some (last_ids x)) (same_Some first h at)
ids_at (first ∷ hs) (suc i) h at = ids_at hs i h at

-- the blocks of a device at the end are those that its history leads to
ends_with : ProjectionsAreRuns → (hs : List HistoryValue) (rs : List Receipt) (acts : List Act) (settles : SettlesAll hs rs acts) (i : ℕ) (t : DeviceTable) → slice_get settles.settled.story.world.tables i ≡ Some t → slice_get (ids_of_all hs) i ≡ Some (ids_of t)
ends_with runs_alone hs rs acts settles i t at =
    let settled = settles.settled in
    let found = there_too settled.story.world.tables hs i t (ran_count (start_of hs) acts settled.story settled.runs_so ∙ start_count hs) at in
    let h = found.0 in
    let leads = runs_alone (start_of hs) acts settled.story i (opening_table h.config) settled.runs_so (starts_at hs i h found.1) in
    let events_are : events_of i settled.story.reported ≡ h.events = settled.projects i ∙ history_some hs i h found.1 in
    let table_is : t ≡ last_table h = same_Some t (last_table h) (sym at ∙ leads ∙ ap (λ (events : List Event). Some (table_after (opening_table h.config) events)) events_are) in
    ids_at hs i h found.1 ∙ ap (λ (x : DeviceTable). Some (ids_of x)) (sym table_is)

pub settled_apart : ProjectionsAreRuns → (hs : List HistoryValue) (rs : List Receipt) (acts : List Act) → ShareNoIds hs → (settles : SettlesAll hs rs acts) → AreApart settles.settled.story.world.tables
settled_apart runs_alone hs rs acts none settles = record {
  differ = λ a b t u m n at_a at_b has_m has_n same.
      let ids_a = ends_with runs_alone hs rs acts settles a t at_a in
      let ids_b = ends_with runs_alone hs rs acts settles b u at_b in
      let own_m = number_has (ids_of t) m has_m.begins has_m.ends in
      let own_n = number_has (ids_of u) n has_n.begins has_n.ends in
      one_device a b
      (λ before. never_shared (ids_of_all hs) a b (id_at (ids_of t) m).0 (id_at (ids_of u) n).0 (ids_of t) (ids_of u) none before ids_a ids_b own_m own_n same)
      (λ behind. never_shared (ids_of_all hs) b a (id_at (ids_of u) n).0 (id_at (ids_of t) m).0 (ids_of u) (ids_of t) none behind ids_b ids_a own_n own_m (sym same));
} where
  one_device : (a b : ℕ) → (a < b → ⊥) → (b < a → ⊥) → a ≡ b
  one_device a b not_before not_behind = elim (cases_lt a b) [
    | inl before ↦ absurd (not_before before)
    | inr other ↦ elim (cases_lt b a) [
      | inl behind ↦ absurd (not_behind behind)
      | inr last ↦ omega (arith, other, last)
    ]
  ]
