-- Where each device begins with the ids of its own incarnation, and none is given a further block, no two devices have an id in common.
use Rattle.std.proofs.Common.{◌≡◌, ◌≢◌, ◌≤◌, ◌<◌, ℕ, zero, suc, ◌+◌, ◌*◌, ◌^◌, ◌==◌, Bool, true, false, List, [], ◌∷◌, map, set, slice_get, length, nat_lt, Option, Some, None, Result, Ok, Err, IfOk, refl, sym, ◌∙◌, ap, subst, arith}
use Rattle.std.specs.List.{list_any}
use Rattle.std.proofs.lemmas.Bool.{eqb-false, or_parts}
use Rattle.std.proofs.lemmas.Option.{same_Some}
use Rattle.cip_types.specs.declared.ids.IdBlock.{IdBlock}
use Rattle.cip_types.specs.declared.names.ConnId.{ConnId}
use Rattle.cip_types.specs.declared.names.Node.{Node}
use Rattle.cip_types.specs.Ids.{end_number, first_block, id_at, ids_of_incarnation}
use Rattle.cip_types.specs.IdLaws.{incarnation_ids}
use Rattle.cip_events.specs.Arrivals.{gives_ids}
use Rattle.cip_events.specs.declared.event.Event.{Event}
use Rattle.cip_events.specs.declared.event.StepFault.{StepFault}
use Rattle.cip_tables.specs.declared.table.Config.{Config}
use Rattle.cip_tables.specs.declared.table.Config.TheVariants as config
use Rattle.cip_tables.specs.declared.table.DeviceTable.{DeviceTable}
use Rattle.cip_tables.specs.Ids.{stated_ids}
use Rattle.cip_tables.specs.Sound.{StepsLeaveIds}
use Rattle.cip_tables.specs.Step.{DeviceNext, incarnation_of, opening_table, step}
use Rattle.cip_tables.specs.Whole.{ids_of}
use Rattle.segment_world.specs.declared.act.Act.{Act}
use Rattle.segment_world.specs.declared.act.Act.TheVariants.{Local, Deliver, NextFrame, OpenStream, CutStream}
use Rattle.segment_world.specs.declared.act.ActFault.{ActFault}
use Rattle.segment_world.specs.declared.configs.DeviceKey.TheVariants.{Incarnation}
use Rattle.segment_world.specs.declared.transit.direction.Direction.{Direction}
use Rattle.segment_world.specs.Configs.{any_twice, key_in, opening_world}
use Rattle.segment_world.specs.Lives.Stories.{StateNoIds}
use Rattle.segment_world.specs.Story.{Story, begins, goes_on, reports, runs}
use Rattle.segment_world.specs.Transit.Log.{Sent}
use Rattle.segment_world.specs.Transit.Streams.{QueueItem, Opening, Queued, Ending, Stream, receiver, sender, side_of}
use Rattle.segment_world.specs.World.{World, ReportedEvent, Happened, after_device_step, are_two, cut_at, cut_if, delivered, event_at_table, event_of_call, event_of_item, happens, most_stream_numbers, node_at, opened_if, taken, taken_at, without_front}
use Rattle.schedule_laws.specs.Chronicle.{blank}
use Rattle.schedule_laws.specs.Order.{SchedulesWithoutIdsHaveChronicles}
use Rattle.schedule_laws.specs.Lives.{AreApart, GiveNoIds, HaveOwnIncarnations, SchedulesWithoutIdsAreApart, act_gives_ids}
use Rattle.schedule_laws.specs.Lemmas.Moves.{Moves, act_moves}
use Rattle.schedule_laws.specs.Lemmas.ProducedActs.{Any, any_streams}
use Rattle.schedule_laws.specs.Lemmas.Stories.{chronicle_runs, story_in}

-- ---- an act that gives no ids makes an event that gives none

abbrev Quiet : Option ReportedEvent × World → Type 0
Quiet (None, new) = Unit {0}
Quiet (Some reported, new) = gives_ids reported.event ≡ false

stepped_quiet : (device : ℕ) (event : Event) (w : World) (said : Result DeviceNext StepFault) → gives_ids event ≡ false → IfOk (after_device_step device event w said) Quiet
stepped_quiet device event w (Err fault) none = tt
stepped_quiet device event w (Ok next) none = none

table_quiet : (device : ℕ) (event : Event) (w : World) (found : Option DeviceTable) → gives_ids event ≡ false → IfOk (event_at_table device event w found) Quiet
table_quiet device event w None none = tt
table_quiet device event w (Some t) none = stepped_quiet device event w (step t event) none

delivered_quiet : (device : ℕ) (w : World) (t : Option DeviceTable) (sent : Option Sent) → IfOk (delivered device w t sent) Quiet
delivered_quiet device w None sent = tt
delivered_quiet device w (Some t) None = tt
delivered_quiet device w (Some t) (Some sent) = table_quiet device _ w (slice_get w.tables device) refl

item_quiet : (n : ℕ) (peer : Node) (item : QueueItem) → gives_ids (event_of_item n peer item) ≡ false
item_quiet n peer Opening = refl
item_quiet n peer (Queued bytes) = refl
item_quiet n peer Ending = refl

taken_quiet : (n : ℕ) (direction : Direction) (w : World) (s : Stream) (queue : List QueueItem) → IfOk (taken n direction w s queue) Quiet
taken_quiet n direction w s [] = tt
taken_quiet n direction w s (item ∷ rest) =
    table_quiet (receiver direction s) (event_of_item n (node_at w (sender direction s)) item) (without_front n direction w) (slice_get w.tables (receiver direction s)) (item_quiet n (node_at w (sender direction s)) item)

taken_at_quiet : (n : ℕ) (direction : Direction) (w : World) (found : Option Stream) → IfOk (taken_at n direction w found) Quiet
taken_at_quiet n direction w None = tt
taken_at_quiet n direction w (Some s) = taken_quiet n direction w s (side_of direction s).queue

opened_quiet : (from to : ℕ) (w : World) (two numbered : Bool) → IfOk (opened_if from to w two numbered) Quiet
opened_quiet from to w false numbered = tt
opened_quiet from to w true false = tt
opened_quiet from to w true true = tt

cut_quiet : (n : ℕ) (w : World) (ended : Bool) → IfOk (cut_if n w ended) Quiet
cut_quiet n w true = tt
cut_quiet n w false = tt

cut_at_quiet : (n : ℕ) (w : World) (found : Option Stream) → IfOk (cut_at n w found) Quiet
cut_at_quiet n w None = tt
cut_at_quiet n w (Some s) = cut_quiet n w s.ended

act_quiet : (w : World) (act : Act) → act_gives_ids act ≡ false → IfOk (happens w act) Quiet
act_quiet w (Local device call) none = table_quiet device (event_of_call call) w (slice_get w.tables device) none
act_quiet w (Deliver index device) none = delivered_quiet device w (slice_get w.tables device) (slice_get w.sent index)
act_quiet w (NextFrame stream direction) none = taken_at_quiet stream direction w (slice_get w.streams stream)
act_quiet w (OpenStream from to) none = opened_quiet from to w (are_two from to w) (nat_lt (length w.streams) most_stream_numbers)
act_quiet w (CutStream stream) none = cut_at_quiet stream w (slice_get w.streams stream)

-- ---- so each device has the blocks that it had

set_blocks : (tables : List DeviceTable) (device : ℕ) (before after : DeviceTable) → slice_get tables device ≡ Some before → ids_of after ≡ ids_of before → map ids_of (set tables device after) ≡ map ids_of tables
set_blocks [] device before after at same = absurd (let e = at in cc)
set_blocks (t ∷ tables) zero before after at same = ap (λ (ids : List IdBlock). ids ∷ map ids_of tables) (same ∙ sym (ap ids_of (same_Some t before at)))
set_blocks (t ∷ tables) (suc device) before after at same = ap (λ (l : List (List IdBlock)). ids_of t ∷ l) (set_blocks tables device before after at same)

moved_blocks : StepsLeaveIds → (w : World) (moved : Option ReportedEvent × World) → Moves Any w moved → Quiet moved → map ids_of moved.1.tables ≡ map ids_of w.tables
moved_blocks leave w (None, new) rests quiet = ap (λ (l : List DeviceTable). map ids_of l) rests.tables
moved_blocks leave w (Some reported, new) came quiet =
    ap (λ (x : World). map ids_of x.tables) came.leaves
    ∙ set_blocks w.tables reported.device came.before came.after came.is (leave came.before reported.event (reported.answer, came.after) came.stepped quiet)

abbrev HasBlocks : List (List IdBlock) → Story → Type 0
HasBlocks blocks story = map ids_of story.world.tables ≡ blocks

happened_blocks : StepsLeaveIds → (blocks : List (List IdBlock)) (story : Story) (said : Happened) → IfOk said (Moves Any story.world) → IfOk said Quiet → HasBlocks blocks story → IfOk (goes_on story.reported said) (HasBlocks blocks)
happened_blocks leave blocks story (Err fault) moves quiet has = tt
happened_blocks leave blocks story (Ok moved) moves quiet has = moved_blocks leave story.world moved moves quiet ∙ has

act_blocks : StepsLeaveIds → (blocks : List (List IdBlock)) (so_far : Result Story ActFault) (act : Act) → act_gives_ids act ≡ false → IfOk so_far (HasBlocks blocks) → IfOk (reports so_far act) (HasBlocks blocks)
act_blocks leave blocks (Err fault) act none has = tt
act_blocks leave blocks (Ok story) act none has =
    happened_blocks leave blocks story (happens story.world act) (act_moves Any story.world act (any_streams story.world.streams)) (act_quiet story.world act none) has

acts_blocks : StepsLeaveIds → (blocks : List (List IdBlock)) (acts : List Act) (so_far : Result Story ActFault) → GiveNoIds acts → IfOk so_far (HasBlocks blocks) → IfOk (runs so_far acts) (HasBlocks blocks)
unfolding runs
acts_blocks leave blocks [] so_far none has = has
acts_blocks leave blocks (act ∷ acts) so_far none has = acts_blocks leave blocks acts (reports so_far act) none.1 (act_blocks leave blocks so_far act none.0 has)

-- ---- the blocks of incarnations

own_blocks : (config : Config) → stated_ids config ≡ None → ids_of (opening_table config) ≡ ids_of_incarnation (incarnation_of (opening_table config)) ∷ []
own_blocks (config.Adapter profile) none = ap (λ (ids : Option IdBlock). first_block profile.incarnation ids ∷ []) none
own_blocks (config.Scanner profile) none = ap (λ (ids : Option IdBlock). first_block profile.incarnation ids ∷ []) none

-- a table that began at this place, and these are the ids of its incarnation
record Began (configs : List Config) (device : ℕ) (ids : List IdBlock) : Type 0 where
  table : DeviceTable
  there : slice_get (map opening_table configs) device ≡ Some table
  blocks : ids ≡ ids_of_incarnation (incarnation_of table) ∷ []

began : (configs : List Config) (device : ℕ) (ids : List IdBlock) → StateNoIds configs → slice_get (map ids_of (map opening_table configs)) device ≡ Some ids → Began configs device ids
began [] device ids unstated at = absurd (let e = at in cc)
began (made ∷ configs) zero ids unstated at =
    record { table = opening_table made; there = refl; blocks = sym (same_Some (ids_of (opening_table made)) ids at) ∙ own_blocks made unstated.0 }
began (made ∷ configs) (suc device) ids unstated at =
    let b = began configs device ids unstated.1 at in record { table = b.table; there = b.there; blocks = b.blocks }

-- no later configuration has the incarnation of this one
none_later : (made : Config) (configs : List Config) (device : ℕ) (t : DeviceTable) → list_any (λ other. key_in Incarnation other == key_in Incarnation made) configs ≡ false → slice_get (map opening_table configs) device ≡ Some t → incarnation_of t ≢ incarnation_of (opening_table made)
none_later made [] device t none at = absurd (let e = at in cc)
none_later made (other ∷ configs) zero t none at =
    let parts = or_parts (key_in Incarnation other == key_in Incarnation made) (list_any (λ x. key_in Incarnation x == key_in Incarnation made) configs) none in
    subst (λ (x : DeviceTable). incarnation_of x ≢ incarnation_of (opening_table made)) (same_Some (opening_table other) t at) (eqb-false _ _ parts.0)
none_later made (other ∷ configs) (suc device) t none at =
    none_later made configs device t (or_parts (key_in Incarnation other == key_in Incarnation made) (list_any (λ x. key_in Incarnation x == key_in Incarnation made) configs) none).1 at

differ_all : (configs : List Config) (a b : ℕ) (t u : DeviceTable) → any_twice Incarnation configs ≡ false → slice_get (map opening_table configs) a ≡ Some t → slice_get (map opening_table configs) b ≡ Some u → incarnation_of t ≡ incarnation_of u → a ≡ b
unfolding any_twice
differ_all [] a b t u once at_a at_b same = absurd (let e = at_a in cc)
differ_all (made ∷ configs) zero zero t u once at_a at_b same = refl
differ_all (made ∷ configs) zero (suc b) t u once at_a at_b same =
    let parts = or_parts (list_any (λ other. key_in Incarnation other == key_in Incarnation made) configs) (any_twice Incarnation configs) once in
    absurd (none_later made configs b u parts.0 at_b (sym same ∙ sym (ap incarnation_of (same_Some (opening_table made) t at_a))))
differ_all (made ∷ configs) (suc a) zero t u once at_a at_b same =
    let parts = or_parts (list_any (λ other. key_in Incarnation other == key_in Incarnation made) configs) (any_twice Incarnation configs) once in
    absurd (none_later made configs a t parts.0 at_a (same ∙ sym (ap incarnation_of (same_Some (opening_table made) u at_b))))
differ_all (made ∷ configs) (suc a) (suc b) t u once at_a at_b same =
    let parts = or_parts (list_any (λ other. key_in Incarnation other == key_in Incarnation made) configs) (any_twice Incarnation configs) once in
    ap suc (differ_all configs a b t u parts.1 at_a at_b same)

-- ---- no two devices have an id in common

blocks_at : (tables : List DeviceTable) (device : ℕ) (t : DeviceTable) → slice_get tables device ≡ Some t → slice_get (map ids_of tables) device ≡ Some (ids_of t)
blocks_at [] device t at = absurd (let e = at in cc)
blocks_at (first ∷ tables) zero t at = ap (λ (x : DeviceTable). Some (ids_of x)) (same_Some first t at)
blocks_at (first ∷ tables) (suc device) t at = blocks_at tables device t at

-- an id of an incarnation is its byte before a number of 24 bits
own_id : (ids : List IdBlock) (incarnation number : ℕ) → ids ≡ ids_of_incarnation incarnation ∷ [] → 1 ≤ number → number < end_number ids → (number < 2 ^ 24) × ((id_at ids number).0 ≡ incarnation * 2 ^ 24 + number)
own_id ids incarnation number are from to =
    let within : number < 2 ^ 24 = subst (λ (l : List IdBlock). number < end_number l) are to in
    (within, ap (λ (l : List IdBlock). (id_at l number).0) are ∙ ap (λ (id : ConnId). id.0) (incarnation_ids incarnation number from within))

one_incarnation : (a b m n : ℕ) → m < 2 ^ 24 → n < 2 ^ 24 → a * 2 ^ 24 + m ≡ b * 2 ^ 24 + n → a ≡ b
one_incarnation a b m n m_to n_to same = omega (arith, m_to, n_to, same)

apart : (configs : List Config) (tables : List DeviceTable) → HaveOwnIncarnations configs → map ids_of tables ≡ map ids_of (map opening_table configs) → AreApart tables
apart configs tables own blocks = record {
  differ = λ a b t u m n at_a at_b has_m has_n same.
      let first = began configs a (ids_of t) own.unstated (ap (λ (l : List (List IdBlock)). slice_get l a) (sym blocks) ∙ blocks_at tables a t at_a) in
      let second = began configs b (ids_of u) own.unstated (ap (λ (l : List (List IdBlock)). slice_get l b) (sym blocks) ∙ blocks_at tables b u at_b) in
      let m_is = own_id (ids_of t) (incarnation_of first.table) m first.blocks has_m.begins has_m.ends in
      let n_is = own_id (ids_of u) (incarnation_of second.table) n second.blocks has_n.begins has_n.ends in
      differ_all configs a b first.table second.table own.differ first.there second.there
      (one_incarnation (incarnation_of first.table) (incarnation_of second.table) m n m_is.0 n_is.0 (sym m_is.1 ∙ same ∙ n_is.1));
}

pub stay_apart : StepsLeaveIds → SchedulesWithoutIdsAreApart
stay_apart leave configs acts story own none ran =
    apart configs story.world.tables own
    (subst (λ (r : Result Story ActFault). IfOk r (HasBlocks (map ids_of (map opening_table configs)))) ran
    (acts_blocks leave (map ids_of (map opening_table configs)) acts (begins (opening_world configs)) none refl))

pub have_chronicles : SchedulesWithoutIdsAreApart → SchedulesWithoutIdsHaveChronicles
have_chronicles law configs acts c lives own none ran = record {
  lives = lives;
  ran = ran;
  apart = law configs acts c.story own none (sym (chronicle_runs acts (Ok (blank (opening_world configs)))) ∙ ap story_in ran);
}
