use Rattle.station_setup.proofs.opening.stations.station_of.Goals as goal

pub returns : goal.returns
returns g c = c.in_ok-watched_station.ensures
