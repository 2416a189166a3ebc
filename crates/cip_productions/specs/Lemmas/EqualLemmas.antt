-- Productions and accepted datagrams that pass the derived test for equal values are equal, and equal ones pass it.
use Rattle.std.proofs.Common.{◌≡◌, Option, rules}
use Rattle.std.specs.Bool.{Decides}
use Rattle.std.specs.Option.{option_eq}
use Rattle.std.specs.Cmp.{booleans_Decides}
use Rattle.std.proofs.lemmas.Bool.Decides.{Decides-eqb, Decides-and, Decides-like}
use Rattle.cip_netparams.specs.declared.Trigger.{Trigger}
use Rattle.cip_netparams.specs.contracts.TriggerPartialEq.TheImpl as trigger
use Rattle.cip_events.specs.Lemmas.EqualLemmas.{ms_decides, time_decides, node_decides}
use Rattle.cip_productions.specs.declared.acceptance.Accepted.{Accepted}
use Rattle.cip_productions.specs.declared.kind.Kind.{Kind}
use Rattle.cip_productions.specs.declared.production.Production.{Production}
use Rattle.cip_productions.specs.contracts.acceptance.AcceptedPartialEq.TheImpl as accepted
use Rattle.cip_productions.specs.contracts.kind.KindPartialEq.TheImpl as kind
use Rattle.cip_productions.specs.contracts.production.ProductionPartialEq.TheImpl as production

pub trigger_decides : (a b : Trigger) → Decides ((trigger.ghosts).eq a b) (a ≡ b)
trigger_decides a b = search rules

pub kind_decides : (a b : Kind) → Decides ((kind.ghosts).eq a b) (a ≡ b)
kind_decides a b = search rules

pub last_decides : (a b : Option Accepted) → Decides (option_eq (accepted.ghosts).eq a b) (a ≡ b)
last_decides a b = search rules

pub production_decides : (a b : Production) → Decides ((production.ghosts).eq a b) (a ≡ b)
production_decides a b =
    Decides-like ((production.ghosts).eq a b) (λ p. search rules) (λ e. search rules)
    (Decides-and _ _ (Decides-eqb a.producer b.producer)
    (Decides-and _ _ (Decides-eqb a.sequence b.sequence)
    (Decides-and _ _ (Decides-eqb a.count b.count)
    (Decides-and _ _ (booleans_Decides a.written b.written)
    (Decides-and _ _ (ms_decides a.due b.due)
    (Decides-and _ _ (node_decides a.address b.address)
    (Decides-and _ _ (trigger_decides a.trigger b.trigger)
    (Decides-and _ _ (Decides-eqb a.inhibit b.inhibit)
    (time_decides a.last b.last)))))))))
