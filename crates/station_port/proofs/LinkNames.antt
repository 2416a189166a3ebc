-- A walk over a frame that looks for the class of the Ethernet Link object.
use Rattle.std.proofs.Common.{◌≡◌, ◌||◌, ◌<◌, ◌+◌, ℕ, Bool, false, List, ◌∷◌, length, drop, get_or, ap, subst, ◌∙◌}
use Rattle.std.proofs.lemmas.List.{drop_more, at_drop_more}
use Rattle.station_port.specs.Counters.Requests.{begins_link, names_link}

past_first : (first : ℕ) (rest : List ℕ) → begins_link (first ∷ rest) ≡ false → names_link (first ∷ rest) ≡ names_link rest
past_first first rest none = ap (λ (b : Bool). b || names_link rest) none

-- where no segment of it is at the front, the bytes behind the first one are left
pub names_past : (bytes : List ℕ) (at : ℕ) → at < length bytes → begins_link (drop at bytes) ≡ false → names_link (drop at bytes) ≡ names_link (drop (at + 1) bytes)
names_past bytes at lt none =
    at_drop_more names_link bytes at 0 lt
    ∙ past_first (get_or bytes at 0) (drop (at + 1) bytes) (subst (λ (l : List ℕ). begins_link l ≡ false) (drop_more bytes at 0 lt) none)
