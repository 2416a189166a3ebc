use Rattle.schedule_laws.specs.Lemmas.RisingIndexes.{schedule_taken}
use Rattle.schedule_laws.proofs.order.accepted_indexes_rise.Goals as goal

pub returns : goal.returns
returns c = λ configs acts chronicle is half.
    (schedule_taken c.answers_send_what_is_made.ensures c.ids_are_drawn.ensures.schedule c.ids_are_drawn.ensures.opened
    (record { of_rows = c.accepted_datagrams_are_newer.ensures.numbers; of_slots = c.accepted_numbers_are_newer.ensures.step; numbered = c.openings_are_numbered.ensures.whole })
    configs acts chronicle is half).rise
