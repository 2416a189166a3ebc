-- Frames wait only on streams that have not ended: after a change of a stream, or of the queued frames.
use Rattle.std.proofs.Common.{◌≡◌, ◌<◌, ℕ, zero, suc, ◌==◌, not, Bool, true, false, cond, List, [], ◌∷◌, ◌++◌, filter, set, length, slice_get, Some, refl, sym, ◌∙◌, ap, arith}
use Rattle.std.specs.List.{remove}
use Rattle.std.proofs.lemmas.Bool.{eqb-false}
use Rattle.std.proofs.lemmas.Option.{same_Some}
use Rattle.base_lemmas.specs.Lists.{set_other}
use Rattle.segment_world.specs.declared.transit.direction.Direction.{Direction}
use Rattle.segment_world.specs.declared.transit.direction.Direction.TheVariants.{Forth, Back}
use Rattle.segment_world.specs.declared.transit.links.StreamEnd.{StreamEnd}
use Rattle.segment_world.specs.declared.transit.links.StreamLink.{StreamLink}
use Rattle.segment_world.specs.declared.transit.waiting.QueuedFrame.{QueuedFrame}
use Rattle.segment_world.specs.Transit.Streams.{way_between}
use Rattle.segment_world.specs.Transit.Links.{with_end}
use Rattle.segment_world.specs.Transit.Queues.{is_elsewhere, is_living, AreNumbered, AreLive}

-- A STREAM THAT IS LOOKED UP

living_within : (links : List StreamLink) (i : ℕ) → is_living (slice_get links i) ≡ true → i < length links
living_within [] i living = absurd (let e = living in cc)
living_within (link ∷ links) zero living = omega arith
living_within (link ∷ links) (suc i) living = let lt = living_within links i living in omega arith

pub live_numbered : (links : List StreamLink) (ws : List QueuedFrame) → AreLive links ws → AreNumbered (length links) ws
unfolding AreLive AreNumbered
live_numbered links [] live = tt
live_numbered links (w ∷ ws) live = (living_within links w.stream live.0, live_numbered links ws live.1)

way_open : (device from to : ℕ) (ended : Bool) (d : Direction) → way_between device ended from to ≡ Some d → ended ≡ false
way_open device from to true d is = absurd (let e = is in cc)
way_open device from to false d is = refl

-- a device sends over a stream that has not ended
pub way_living : (links : List StreamLink) (n device : ℕ) (link : StreamLink) (d : Direction) → slice_get links n ≡ Some link → way_between device link.ended link.from link.to ≡ Some d → is_living (slice_get links n) ≡ true
way_living links n device link d is way = ap is_living is ∙ ap not (way_open device link.from link.to link.ended d way)

-- A FRAME MORE, OR LESS

pub live_push : (links : List StreamLink) (ws : List QueuedFrame) (w : QueuedFrame) → AreLive links ws → is_living (slice_get links w.stream) ≡ true → AreLive links (ws ++ w ∷ [])
unfolding AreLive
live_push links [] w live here = (here, tt)
live_push links (x ∷ ws) w live here = (live.0, live_push links ws w live.1 here)

pub live_remove : (links : List StreamLink) (ws : List QueuedFrame) (k : ℕ) → AreLive links ws → AreLive links (remove ws k)
unfolding AreLive
live_remove links [] zero live = tt
live_remove links [] (suc k) live = tt
live_remove links (w ∷ ws) zero live = live.1
live_remove links (w ∷ ws) (suc k) live = (live.0, live_remove links ws k live.1)

-- A STREAM MORE

living_more : (links : List StreamLink) (link : StreamLink) (i : ℕ) → is_living (slice_get links i) ≡ true → is_living (slice_get (links ++ link ∷ []) i) ≡ true
living_more [] link i living = absurd (let e = living in cc)
living_more (first ∷ links) link zero living = living
living_more (first ∷ links) link (suc i) living = living_more links link i living

pub live_more : (links : List StreamLink) (link : StreamLink) (ws : List QueuedFrame) → AreLive links ws → AreLive (links ++ link ∷ []) ws
unfolding AreLive
live_more links link [] live = tt
live_more links link (w ∷ ws) live = (living_more links link w.stream live.0, live_more links link ws live.1)

-- A STREAM THAT ENDS, WHOSE FRAMES ARE DROPPED

drop_step : (b : Bool) (links : List StreamLink) (n : ℕ) (link : StreamLink) (w : QueuedFrame) (ws : List QueuedFrame) → (w.stream == n) ≡ b → is_living (slice_get links w.stream) ≡ true → AreLive (set links n link) ws → AreLive (set links n link) (cond (not b) (w ∷ ws) ws)
unfolding AreLive
drop_step true links n link w ws is living live = live
drop_step false links n link w ws is living live = (ap is_living (set_other links n w.stream link (eqb-false w.stream n is)) ∙ living, live)

pub live_drop : (links : List StreamLink) (n : ℕ) (link : StreamLink) (ws : List QueuedFrame) → AreLive links ws → AreLive (set links n link) (filter (is_elsewhere n) ws)
unfolding AreLive
live_drop links n link [] live = tt
live_drop links n link (w ∷ ws) live = drop_step (w.stream == n) links n link w (filter (is_elsewhere n) ws) refl live.0 (live_drop links n link ws live.1)

-- A STREAM THAT GOES ON

ended_kept : (d : Direction) (link : StreamLink) (end : StreamEnd) → (with_end d link end).ended ≡ link.ended
ended_kept Forth link end = refl
ended_kept Back link end = refl

living_after : (links : List StreamLink) (n i : ℕ) (link new : StreamLink) → slice_get links n ≡ Some link → new.ended ≡ link.ended → is_living (slice_get links i) ≡ true → is_living (slice_get (set links n new) i) ≡ true
living_after [] n i link new is same living = absurd (let e = living in cc)
living_after (first ∷ links) zero zero link new is same living = ap not (same ∙ ap (λ (l : StreamLink). l.ended) (sym (same_Some first link is))) ∙ living
living_after (first ∷ links) zero (suc i) link new is same living = living
living_after (first ∷ links) (suc n) zero link new is same living = living
living_after (first ∷ links) (suc n) (suc i) link new is same living = living_after links n i link new is same living

live_set : (links : List StreamLink) (n : ℕ) (link new : StreamLink) (ws : List QueuedFrame) → slice_get links n ≡ Some link → new.ended ≡ link.ended → AreLive links ws → AreLive (set links n new) ws
unfolding AreLive
live_set links n link new [] is same live = tt
live_set links n link new (w ∷ ws) is same live = (living_after links n w.stream link new is same live.0, live_set links n link new ws is same live.1)

pub live_after : (links : List StreamLink) (n : ℕ) (d : Direction) (link : StreamLink) (end : StreamEnd) (ws : List QueuedFrame) → slice_get links n ≡ Some link → AreLive links ws → AreLive (set links n (with_end d link end)) ws
live_after links n d link end ws is live = live_set links n link (with_end d link end) ws is (ended_kept d link end) live
