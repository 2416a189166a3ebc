-- An event or a datagram at one device among others.
use Rattle.std.proofs.Common.{◌≡◌, ◌<◌, ℕ, List, map, set, length, get_or, Some, Ok, Err, IfOk, subst, sym, ap, ◌∙◌}
use Rattle.std.specs.Option.{option_map}
use Rattle.std.proofs.lemmas.Option.{slice_get-get_or, slice_get-map}
use Rattle.std.proofs.lemmas.List.{get_or_default, map-set, length-map, length-set}
use Rattle.cip_types.specs.declared.names.Node.{Node}
use Rattle.cip_events.specs.Answers.{plain_answer}
use Rattle.cip_events.specs.declared.event.Delivery.{Delivery}
use Rattle.cip_events.specs.declared.event.Event.TheVariants.{Datagram}
use Rattle.cip_events.specs.declared.event.Verdict.TheVariants.{Delivered}
use Rattle.cip_events.specs.Outcomes.{Outcome, Follows}
use Rattle.cip_events.specs.declared.event.Event.{Event}
use Rattle.cip_tables.specs.declared.table.DeviceTable.{DeviceTable}
use Rattle.cip_tables.specs.Step.{step}
use Rattle.cip_tables.specs.Whole.{IsWholeDevice}
use Rattle.answer_sizes.specs.Sizes.{IsSmall, AnswersAreSmall}
use Rattle.segment_world.specs.AnswerSpace.{CameTo, WasDelivered}

small_so : AnswersAreSmall → (t : DeviceTable) (event : Event) (outcome : Outcome) (after : DeviceTable) → IsWholeDevice t → Follows (step t event) t outcome after → IfOk outcome IsSmall
small_so answers t event (Ok answer) after whole follows = answers t event answer after whole follows
small_so answers t event (Err fault) after whole follows = tt

pub came_to : {D : Type 0} → AnswersAreSmall → (table : D → DeviceTable) (old : List D) (device : ℕ) (event : Event) (outcome : Outcome) (after was now : D) → device < length old → was ≡ get_or old device was → IsWholeDevice (table was) → now ≡ get_or old device now → Follows (step (table now) event) (table now) outcome (table after) → CameTo (map table old) device event outcome (map table (set old device after))
came_to answers table old device event outcome after was now within was_is whole now_is follows = record {
  before = table now;
  after = table after;
  is = slice_get-map table old device ∙ ap (option_map table) (slice_get-get_or old device now within ∙ ap Some (sym now_is));
  follows = follows;
  leaves = map-set table old device after;
  small = small_so answers (table now) event outcome (table after) (subst (λ d. IsWholeDevice (table d)) (was_is ∙ get_or_default old device was now within ∙ sym now_is) whole) follows;
}

pub was_delivered : {D : Type 0} (table : D → DeviceTable) (old : List D) (device : ℕ) (peer : Node) (bytes : List ℕ) (delivery : Delivery) (after now : D) → device < length old → now ≡ get_or old device now → step (table now) (Datagram peer bytes) ≡ Ok (plain_answer (Delivered delivery), table after) → WasDelivered (map table old) device peer bytes delivery (map table (set old device after))
was_delivered table old device peer bytes delivery after now within now_is follows = record {
  before = table now;
  after = table after;
  is = slice_get-map table old device ∙ ap (option_map table) (slice_get-get_or old device now within ∙ ap Some (sym now_is));
  follows = follows;
  leaves = map-set table old device after;
}

-- there are as many devices after it
pub as_many : {D : Type 0} (table : D → DeviceTable) (old new : List D) (device : ℕ) (event : Event) (outcome : Outcome) → CameTo (map table old) device event outcome (map table new) → length new ≡ length old
as_many table old new device event outcome came =
    sym (length-map new table) ∙ ap (λ (ts : List DeviceTable). length ts) came.leaves ∙ length-set (map table old) device came.after ∙ length-map old table
