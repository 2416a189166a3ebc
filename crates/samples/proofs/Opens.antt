-- Opening and closing.
use Rattle.std.proofs.Common.{◌≡◌, refl, [], ◌∷◌}
use Rattle.cip_events.specs.declared.event.Notice.TheVariants.{Opened}
use Rattle.samples.specs.Hex.{hex}
use Rattle.samples.specs.Devices.{common, peer, own}
use Rattle.samples.specs.Requests.{owner, opening, gatherer, closing}
use Rattle.samples.specs.Datagrams.{datagram, running}
use Rattle.samples.specs.Runs.{said, opens, replies, accepts}
use Rattle.samples.specs.Computing.{computing}

-- ---- the samples' words, byte for byte

the_owner_s_request :
    opening owner
    ≡ hex "54 02 20 06 24 01 0A 0E 00 00 00 00 01 00 00 20 01 00 34 12 78 56 34 12 02 00 00 00 10 27 00 00 0A 48 10 27 00 00 06 48 01 04 20 04 24 97 2C 96 2C 64"
the_owner_s_request = refl

the_gatherer_s_request :
    opening gatherer
    ≡ hex "54 02 20 06 24 01 0A 0E 00 00 00 00 00 00 00 00 05 00 34 12 78 56 34 12 02 00 00 00 10 27 00 00 02 48 10 27 00 00 06 28 01 04 20 04 24 97 2C 98 2C 64"
the_gatherer_s_request = refl

the_gatherer_s_close : closing 5 0x12345678 ≡ hex "4E 02 20 06 24 01 0A 0E 05 00 34 12 78 56 34 12 04 00 20 04 24 97 2C 98 2C 64"
the_gatherer_s_close = refl

the_owner_s_datagram :
    datagram 0x10000001 1 1 (running (hex "11 22 33 44"))
    ≡ hex "02 00 02 80 08 00 01 00 00 10 01 00 00 00 B1 00 0A 00 01 00 01 00 00 00 11 22 33 44"
the_owner_s_datagram = refl

-- ---- the first connection

an_owner_opens :
    said common (opens owner ∷ [])
    ≡ replies peer (hex "D4 00 00 00 01 00 00 10 01 00 00 20 01 00 34 12 78 56 34 12 10 27 00 00 10 27 00 00 00 00") (Opened (own 1) (record { 0 = 0x10000001 }) ∷ []) ∷ []
unfolding computing
an_owner_opens = refl

and_so_does_its_word : said common (opens owner ∷ []) ≡ accepts peer owner 1 0x20000001 ∷ []
unfolding computing
and_so_does_its_word = refl
