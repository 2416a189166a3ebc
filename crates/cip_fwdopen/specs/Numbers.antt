-- The numbers of fixed parts that were read, in their order (Volume 1, chapter 3, Forward_Open and
-- Forward_Close services).
use Rattle.std.specs.Prelude.{ℕ, List, [], ◌∷◌}
use Rattle.cip_fwdopen.specs.declared.fixed.OpenFront.{OpenFront}
use Rattle.cip_fwdopen.specs.declared.front.ReplyFront.{ReplyFront}
use Rattle.cip_fwdopen.specs.declared.front.Success.{Success}
use Rattle.cip_fwdopen.specs.declared.front.CloseFront.{CloseFront}
use Rattle.cip_fwdopen.specs.declared.front.ClosedFront.{ClosedFront}
use Rattle.cip_fwdopen.specs.Reply.{opened_numbers}
use Rattle.cip_fwdopen.specs.Close.{closed_numbers}

-- the numbers before the path of a Forward_Open
abbrev pub numbers_of : OpenFront → List ℕ
numbers_of f =
    f.priority_tick ∷ f.ticks ∷ f.o_t_id ∷ f.t_o_id ∷ f.serial ∷ f.vendor ∷ f.originator ∷ f.multiplier
    ∷ f.reserved.0 ∷ f.reserved.1 ∷ f.reserved.2
    ∷ f.o_t_rpi ∷ f.o_t_word ∷ f.t_o_rpi ∷ f.t_o_word ∷ f.trigger ∷ f.path_words ∷ []

-- the numbers before the extended status of a reply
abbrev pub reply_front_numbers : ReplyFront → List ℕ
reply_front_numbers h = h.service ∷ h.reserved ∷ h.general ∷ h.words ∷ []

-- the numbers before the application reply of a success
abbrev pub success_numbers : Success → List ℕ
success_numbers s = opened_numbers s.opened s.application_words s.reserved

-- the numbers before the path of a Forward_Close
abbrev pub close_front_numbers : CloseFront → List ℕ
close_front_numbers f = f.priority_tick ∷ f.ticks ∷ f.triad.serial ∷ f.triad.vendor ∷ f.triad.originator ∷ f.path_words ∷ f.reserved ∷ []

-- the numbers before the application reply of a successful close
abbrev pub closed_front_numbers : ClosedFront → List ℕ
closed_front_numbers f = closed_numbers f.triad f.application_words f.reserved
