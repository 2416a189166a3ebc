use Rattle.std.proofs.Common.{◌≡◌, drop}
use Rattle.socket_port.specs.Rules.Links.{wait_of}
use Rattle.socket_port.proofs.rules.links.least_wait.Given as goal

abbrev pub invariant-loop-link : goal.invariant-loop-link
invariant-loop-link l = wait_of l.now_ms l.most_ms l.wait (drop l.link-index l.links) ≡ wait_of l.now_ms l.most_ms l.most_ms l.links
