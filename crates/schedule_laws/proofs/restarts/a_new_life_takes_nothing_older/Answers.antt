use Rattle.schedule_laws.proofs.NewLives.{new_lives}
use Rattle.schedule_laws.proofs.restarts.a_new_life_takes_nothing_older.Goals as goal

pub returns : goal.returns
returns c = new_lives c.ids_name_openings.ensures c.an_id_names_one_producer.ensures.one_producer c.an_id_names_one_producer.ensures.later c.an_id_opens_one_connection.ensures c.images_hold_accepted_data.ensures
