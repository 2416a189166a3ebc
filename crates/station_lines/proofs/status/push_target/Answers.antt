use Rattle.std.specs.Prelude.{codes}
use Rattle.station_lines.specs.Status.{age_text, apis_text}
use Rattle.station_lines.specs.Attributes.Lemmas.Appended.{three}
use Rattle.station_lines.proofs.status.push_target.Goals as goal

pub returns : goal.returns
returns c = three _ _ _ _ (codes "established") (apis_text c.args.target.o_t_api_ms c.args.target.t_o_api_ms) (age_text c.args.target.age) c.in_ok-push_text.ensures c.in_ok-push_apis.ensures c.in_ok-push_age.ensures
