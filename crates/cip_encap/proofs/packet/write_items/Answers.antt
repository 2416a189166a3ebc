use Rattle.std.proofs.Common.{ℕ, List, arith, sym, subst}
use Rattle.std.proofs.lemmas.Grind.{common_steps}
use Rattle.cip_encap.specs.Packet.{IsPacketText}
use Rattle.cip_encap.proofs.PacketLaws.{packet_text_is, packet_reads}
use Rattle.cip_encap.proofs.packet.write_items.Goals as goal

pub returns-clause-text : goal.returns-clause-text
returns-clause-text c = grind (arith, common_steps)

pub returns-clause-is_text : goal.returns-clause-is_text
returns-clause-is_text c =
    subst (λ (text : List ℕ). IsPacketText text (record { timeout = 0; payload = c.args.«data».now })) (sym (returns-clause-text c)) (packet_text_is c.args.«data».now c.args.socket c.requires.some c.requires.short)

pub returns-clause-read_back : goal.returns-clause-read_back
returns-clause-read_back c = packet_reads _ _ (returns-clause-is_text c)
