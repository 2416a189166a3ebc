use Rattle.schedule_laws.proofs.GatheredImages.{images_gathered}
use Rattle.schedule_laws.proofs.points.images_hold_accepted_data.Goals as goal

pub returns : goal.returns
returns c = images_gathered c.answers_send_what_is_made.ensures c.ids_are_drawn.ensures.schedule c.ids_are_drawn.ensures.opened c.slots_have_the_ids_of_their_success.ensures
