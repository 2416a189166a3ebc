use Rattle.std.proofs.Common.{sym, ◌∙◌, refl}
use Rattle.std.proofs.lemmas.List.Elements.{Contains-get_or}
use Rattle.trace_faults.proofs.Placed.{instances_next, instances_end}
use Rattle.trace_faults.proofs.profile_faults.instances.repeated.Goals as goal

pub returns-in-Some : goal.returns-in-Some
returns-in-Some c = record {
  fault = (instances_end _ _ _ _ c.loop-index-test.true (sym c.place_of.ensures ∙ c.in-Some.is), refl);
  point = (_, (_, (refl, Contains-get_or _ _ _ c.loop-index-test.true)));
}

pub loop-index-preserved : goal.loop-index-preserved
loop-index-preserved c = instances_next _ _ _ c.loop-index-test.true c.loop-index.invariant (sym c.place_of.ensures ∙ c.in_default.is)
