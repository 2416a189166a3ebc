-- The turns of a plant's devices at their page, and troubles, worked by hand.
use Rattle.std.proofs.Common.{◌≡◌, [], ◌∷◌, Some, None, true, false, refl}
use Rattle.cip_events.specs.declared.event.Notice.TheVariants as notice
use Rattle.page_feed.specs.Troubles.{is_trouble_notice}
use Rattle.page_feed.specs.Turns.{changed_from}

the_next_one_is_shown : changed_from (5 ∷ 7 ∷ 9 ∷ []) (4 ∷ 7 ∷ 8 ∷ []) 1 ≡ Some 2
the_next_one_is_shown = refl

then_the_first_one : changed_from (5 ∷ 7 ∷ 9 ∷ []) (4 ∷ 7 ∷ 9 ∷ []) 1 ≡ Some 0
then_the_first_one = refl

no_text_is_new : changed_from (5 ∷ 7 ∷ 9 ∷ []) (5 ∷ 7 ∷ 9 ∷ []) 1 ≡ None
no_text_is_new = refl

-- a number that was never seen is that of a new text
nothing_was_seen : changed_from (0 ∷ 0 ∷ []) [] 0 ≡ Some 0
nothing_was_seen = refl

-- TROUBLES

a_time_out_is_a_trouble : is_trouble_notice (notice.Slot 3 4) ≡ true
a_time_out_is_a_trouble = refl

an_opening_is_none : is_trouble_notice (notice.Slot 3 3) ≡ false
an_opening_is_none = refl
