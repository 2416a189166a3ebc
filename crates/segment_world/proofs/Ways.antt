-- Changes of one stream, by its link and its queued frames.
use Rattle.std.proofs.Common.{◌≡◌, ◌≤◌, ℕ, ◌==◌, ◌&&◌, nat_lt, Bool, true, false, cond, List, [], ◌∷◌, ◌++◌, length, get_or, slice_get, Some, None, refl, sym, ◌∙◌, ap, arith, append_assoc, append-nil, ne_eqb, eqb-true}
use Rattle.std.specs.List.{remove, position, position_or_len}
use Rattle.std.proofs.lemmas.List.Sums.{fails_before_first}
use Rattle.std.proofs.lemmas.List.Quantifiers.{position-Some}
use Rattle.std.proofs.lemmas.Bool.Decides.{nat_tests}
use Rattle.std.proofs.lemmas.Bool.{and_parts}
use Rattle.base_lemmas.specs.Booleans.{and_none, or_false}
use Rattle.base_lemmas.specs.Numbers.{number_same}
use Rattle.segment_world.specs.declared.transit.direction.Direction.{Direction}
use Rattle.segment_world.specs.declared.transit.direction.Direction.TheVariants.{Forth, Back}
use Rattle.segment_world.specs.declared.transit.links.StreamEnd.{StreamEnd}
use Rattle.segment_world.specs.declared.transit.links.StreamLink.{StreamLink}
use Rattle.segment_world.specs.declared.transit.waiting.QueuedFrame.{QueuedFrame}
use Rattle.segment_world.specs.Transit.Streams.{QueueItem, Opening, Queued, Ending, Side, Stream, side_of, with_side, queued, sent_along, sent_over, ended_side, emptied, closed_along, closed_by, cut_stream, without_first, taken_from, way_between}
use Rattle.segment_world.specs.Transit.Links.{ending_end, quiet_end, closed_link, cut_link, end_of, with_end, end_after, is_marked}
use Rattle.segment_world.specs.Transit.Fronts.{front_of}
use Rattle.segment_world.specs.Transit.Queues.{is_same, is_in, frames_of, side_in, opening_of, stream_in}
use Rattle.segment_world.proofs.Frames.{frame_if, frames_push, IsFirst, frames_first, frames_rest, frames_none}
use Rattle.segment_world.proofs.Views.{SameElsewhere}

abbrev built : StreamLink → List QueueItem → List QueueItem → Stream
built link forth back = record { from = link.from; to = link.to; ended = link.ended; forth = side_in link.ended forth link.forth; back = side_in link.ended back link.back }

-- A FRAME MORE

is_here : (n : ℕ) (d : Direction) (bytes : List ℕ) → is_in n d (record { stream = n; direction = d; bytes = bytes }) ≡ true
is_here n Forth bytes = ap (λ b. b && true) (number_same n)
is_here n Back bytes = ap (λ b. b && true) (number_same n)

push_here : (n : ℕ) (d : Direction) (ws : List QueuedFrame) (bytes : List ℕ) → frames_of n d (ws ++ (record { stream = n; direction = d; bytes = bytes }) ∷ []) ≡ frames_of n d ws ++ Queued bytes ∷ []
push_here n d ws bytes = frames_push n d ws _ ∙ ap (λ b. frames_of n d ws ++ frame_if b (record { stream = n; direction = d; bytes = bytes })) (is_here n d bytes)

push_away : (n j : ℕ) (d e : Direction) (ws : List QueuedFrame) (bytes : List ℕ) → is_in j e (record { stream = n; direction = d; bytes = bytes }) ≡ false → frames_of j e (ws ++ (record { stream = n; direction = d; bytes = bytes }) ∷ []) ≡ frames_of j e ws
push_away n j d e ws bytes away = frames_push j e ws _ ∙ ap (λ b. frames_of j e ws ++ frame_if b (record { stream = n; direction = d; bytes = bytes })) away ∙ append-nil (frames_of j e ws)

pub push_elsewhere : (n : ℕ) (d : Direction) (ws : List QueuedFrame) (bytes : List ℕ) → SameElsewhere n ws (ws ++ (record { stream = n; direction = d; bytes = bytes }) ∷ [])
push_elsewhere n d ws bytes j e ne = push_away n j d e ws bytes (ap (λ b. b && is_same d e) (ne_eqb n j (λ same. ne (sym same))))

side_push : (ended : Bool) (frames : List QueueItem) (end : StreamEnd) (item : QueueItem) → ended ≡ false → side_in ended (frames ++ item ∷ []) end ≡ queued item (side_in ended frames end)
side_push true frames end item is = absurd (let e = is in cc)
side_push false frames end item is = ap (λ q. record { taken = end.taken; queue = q }) (sym (append_assoc (opening_of end.taken) frames (item ∷ [])))

open_way : (device : ℕ) (ended : Bool) (from to : ℕ) (d : Direction) → way_between device ended from to ≡ Some d → ended ≡ false
open_way device true from to d is = absurd (let e = is in cc)
open_way device false from to d is = refl

pushed_way : (n : ℕ) (ws : List QueuedFrame) (link : StreamLink) (d : Direction) (bytes : List ℕ) → link.ended ≡ false → stream_in n (ws ++ (record { stream = n; direction = d; bytes = bytes }) ∷ []) link ≡ with_side d (stream_in n ws link) (queued (Queued bytes) (side_of d (stream_in n ws link)))
pushed_way n ws link Forth bytes live =
    ap (λ f. built link f (frames_of n Back (ws ++ (record { stream = n; direction = Forth; bytes = bytes }) ∷ []))) (push_here n Forth ws bytes)
    ∙ ap (λ b. built link (frames_of n Forth ws ++ Queued bytes ∷ []) b) (push_away n n Forth Back ws bytes (and_none (n == n)))
    ∙ ap (λ (side : Side). record (built link [] (frames_of n Back ws)) { forth = side }) (side_push link.ended (frames_of n Forth ws) link.forth (Queued bytes) live)
pushed_way n ws link Back bytes live =
    ap (λ f. built link f (frames_of n Back (ws ++ (record { stream = n; direction = Back; bytes = bytes }) ∷ []))) (push_away n n Back Forth ws bytes (and_none (n == n)))
    ∙ ap (λ b. built link (frames_of n Forth ws) b) (push_here n Back ws bytes)
    ∙ ap (λ (side : Side). record (built link (frames_of n Forth ws) []) { back = side }) (side_push link.ended (frames_of n Back ws) link.back (Queued bytes) live)

pub sent_way : (n : ℕ) (ws : List QueuedFrame) (link : StreamLink) (device : ℕ) (d : Direction) (bytes : List ℕ) → way_between device link.ended link.from link.to ≡ Some d → stream_in n (ws ++ (record { stream = n; direction = d; bytes = bytes }) ∷ []) link ≡ sent_over device bytes (stream_in n ws link)
sent_way n ws link device d bytes way =
    pushed_way n ws link d bytes (open_way device link.ended link.from link.to d way)
    ∙ sym (ap (sent_along bytes (stream_in n ws link)) way)

pub unsent_way : (n : ℕ) (ws : List QueuedFrame) (link : StreamLink) (device : ℕ) (bytes : List ℕ) → way_between device link.ended link.from link.to ≡ None → stream_in n ws link ≡ sent_over device bytes (stream_in n ws link)
unsent_way n ws link device bytes way = sym (ap (sent_along bytes (stream_in n ws link)) way)

-- AN END

side_ending : (ended : Bool) (frames more : List QueueItem) (end : StreamEnd) → side_in true more (ending_end end) ≡ ended_side (side_in ended frames end)
side_ending true frames more end = refl
side_ending false frames more end = refl

side_quiet : (ended : Bool) (frames more : List QueueItem) (end : StreamEnd) → side_in true more (quiet_end end) ≡ emptied (side_in ended frames end)
side_quiet true frames more end = refl
side_quiet false frames more end = refl

abbrev sided : StreamLink → Side → Side → Stream
sided link forth back = record { from = link.from; to = link.to; ended = true; forth = forth; back = back }

closed_so_way : (n : ℕ) (ws ws' : List QueuedFrame) (link : StreamLink) (d : Direction) → stream_in n ws' (closed_link link d) ≡ closed_along (stream_in n ws link) (Some d)
closed_so_way n ws ws' link Forth =
    ap (λ forth. sided link forth (side_in true (frames_of n Back ws') (quiet_end link.back))) (side_ending link.ended (frames_of n Forth ws) (frames_of n Forth ws') link.forth)
    ∙ ap (sided link (ended_side (side_in link.ended (frames_of n Forth ws) link.forth))) (side_quiet link.ended (frames_of n Back ws) (frames_of n Back ws') link.back)
closed_so_way n ws ws' link Back =
    ap (λ forth. sided link forth (side_in true (frames_of n Back ws') (ending_end link.back))) (side_quiet link.ended (frames_of n Forth ws) (frames_of n Forth ws') link.forth)
    ∙ ap (sided link (emptied (side_in link.ended (frames_of n Forth ws) link.forth))) (side_ending link.ended (frames_of n Back ws) (frames_of n Back ws') link.back)

pub closed_way : (n : ℕ) (ws ws' : List QueuedFrame) (link : StreamLink) (device : ℕ) (d : Direction) → way_between device link.ended link.from link.to ≡ Some d → stream_in n ws' (closed_link link d) ≡ closed_by device (stream_in n ws link)
closed_way n ws ws' link device d way = closed_so_way n ws ws' link d ∙ sym (ap (closed_along (stream_in n ws link)) way)

pub unclosed_way : (n : ℕ) (ws : List QueuedFrame) (link : StreamLink) (device : ℕ) → way_between device link.ended link.from link.to ≡ None → stream_in n ws link ≡ closed_by device (stream_in n ws link)
unclosed_way n ws link device way = sym (ap (closed_along (stream_in n ws link)) way)

pub cut_way : (n : ℕ) (ws ws' : List QueuedFrame) (link : StreamLink) → stream_in n ws' (cut_link link) ≡ cut_stream (stream_in n ws link)
cut_way n ws ws' link =
    ap (λ forth. sided link forth (side_in true (frames_of n Back ws') (ending_end link.back))) (side_ending link.ended (frames_of n Forth ws) (frames_of n Forth ws') link.forth)
    ∙ ap (sided link (ended_side (side_in link.ended (frames_of n Forth ws) link.forth))) (side_ending link.ended (frames_of n Back ws) (frames_of n Back ws') link.back)

-- RECEIVING

mark_taken : (ended taken ending : Bool) (frames : List QueueItem) → is_marked ended taken ≡ true → side_in ended frames (end_after ended (record { taken = taken; ending = ending })) ≡ without_first (side_in ended frames (record { taken = taken; ending = ending })) (side_in ended frames (record { taken = taken; ending = ending })).queue
mark_taken true taken true frames marked = ap (λ b. record { taken = b; queue = [] }) (sym (or_false taken))
mark_taken true taken false frames marked = refl
mark_taken false true ending frames marked = absurd (let e = marked in cc)
mark_taken false false ending frames marked = refl

frame_taken : (ended taken ending : Bool) (frames rest : List QueueItem) (bytes : List ℕ) → is_marked ended taken ≡ false → frames ≡ Queued bytes ∷ rest → side_in ended rest (record { taken = taken; ending = ending }) ≡ without_first (side_in ended frames (record { taken = taken; ending = ending })) (side_in ended frames (record { taken = taken; ending = ending })).queue
frame_taken true taken ending frames rest bytes marked is = absurd (let e = marked in cc)
frame_taken false true ending frames rest bytes marked is = sym (ap (λ q. without_first (record { taken = true; queue = q }) q) is)
frame_taken false false ending frames rest bytes marked is = absurd (let e = marked in cc)

none_taken : (ended taken ending : Bool) (frames : List QueueItem) → is_marked ended taken ≡ false → frames ≡ [] → side_in ended frames (record { taken = taken; ending = ending }) ≡ without_first (side_in ended frames (record { taken = taken; ending = ending })) (side_in ended frames (record { taken = taken; ending = ending })).queue
none_taken true taken ending frames marked is = absurd (let e = marked in cc)
none_taken false true ending frames marked is = ap (λ q. record { taken = true; queue = q }) is ∙ sym (ap (λ q. without_first (record { taken = true; queue = q }) q) is)
none_taken false false ending frames marked is = absurd (let e = marked in cc)

pub mark_way : (n : ℕ) (ws : List QueuedFrame) (link : StreamLink) (d : Direction) → is_marked link.ended (end_of d link).taken ≡ true → stream_in n ws (with_end d link (end_after link.ended (end_of d link))) ≡ taken_from d (stream_in n ws link)
mark_way n ws link Forth marked = ap (λ (side : Side). record (stream_in n ws link) { forth = side }) (mark_taken link.ended link.forth.taken link.forth.ending (frames_of n Forth ws) marked)
mark_way n ws link Back marked = ap (λ (side : Side). record (stream_in n ws link) { back = side }) (mark_taken link.ended link.back.taken link.back.ending (frames_of n Back ws) marked)

frame_way_at : (n : ℕ) (ws ws' : List QueuedFrame) (link : StreamLink) (d : Direction) (bytes : List ℕ) → is_marked link.ended (end_of d link).taken ≡ false → frames_of n d ws ≡ Queued bytes ∷ frames_of n d ws' → ((e : Direction) → is_same d e ≡ false → frames_of n e ws' ≡ frames_of n e ws) → stream_in n ws' link ≡ taken_from d (stream_in n ws link)
frame_way_at n ws ws' link Forth bytes marked is rest =
    ap (λ b. built link (frames_of n Forth ws') b) (rest Back refl)
    ∙ ap (λ (side : Side). record (stream_in n ws link) { forth = side }) (frame_taken link.ended link.forth.taken link.forth.ending (frames_of n Forth ws) (frames_of n Forth ws') bytes marked is)
frame_way_at n ws ws' link Back bytes marked is rest =
    ap (λ f. built link f (frames_of n Back ws')) (rest Forth refl)
    ∙ ap (λ (side : Side). record (stream_in n ws link) { back = side }) (frame_taken link.ended link.back.taken link.back.ending (frames_of n Back ws) (frames_of n Back ws') bytes marked is)

same_is : (d e f : Direction) → is_same d e ≡ true → is_same e f ≡ false → is_same d f ≡ false
same_is Forth Forth f is other = other
same_is Forth Back f is other = absurd (let h = is in cc)
same_is Back Forth f is other = absurd (let h = is in cc)
same_is Back Back f is other = other

pub frame_way : (n : ℕ) (ws : List QueuedFrame) (link : StreamLink) (d : Direction) (k : ℕ) (w : QueuedFrame) → is_marked link.ended (end_of d link).taken ≡ false → IsFirst n d ws k w → stream_in n (remove ws k) link ≡ taken_from d (stream_in n ws link)
frame_way n ws link d k w marked first =
    let passes = and_parts (w.stream == n) (is_same w.direction d) first.passes in
    frame_way_at n ws (remove ws k) link d w.bytes marked (frames_first n d ws k w first)
    (λ e other. frames_rest n n d e ws k w first (ap (λ b. (w.stream == n) && b) (same_is w.direction d e passes.1 other) ∙ and_none (w.stream == n)))

pub first_elsewhere : (n : ℕ) (ws : List QueuedFrame) (d : Direction) (k : ℕ) (w : QueuedFrame) → IsFirst n d ws k w → SameElsewhere n ws (remove ws k)
first_elsewhere n ws d k w first j e ne =
    let passes = and_parts (w.stream == n) (is_same w.direction d) first.passes in
    let here : w.stream ≡ n = eqb-true w.stream n passes.0 in
    frames_rest n j d e ws k w first (ap (λ b. b && is_same w.direction e) (ne_eqb w.stream j (λ same. ne (sym same ∙ here))))

pub none_way : (n : ℕ) (ws : List QueuedFrame) (link : StreamLink) (d : Direction) → is_marked link.ended (end_of d link).taken ≡ false → frames_of n d ws ≡ [] → stream_in n ws link ≡ taken_from d (stream_in n ws link)
none_way n ws link Forth marked is = ap (λ (side : Side). record (stream_in n ws link) { forth = side }) (none_taken link.ended link.forth.taken link.forth.ending (frames_of n Forth ws) marked is)
none_way n ws link Back marked is = ap (λ (side : Side). record (stream_in n ws link) { back = side }) (none_taken link.ended link.back.taken link.back.ending (frames_of n Back ws) marked is)

-- FRONTS

front_in : (n : ℕ) (ws : List QueuedFrame) (link : StreamLink) (d : Direction) → front_of d (Some (stream_in n ws link)) ≡ slice_get (side_in link.ended (frames_of n d ws) (end_of d link)).queue 0
front_in n ws link Forth = refl
front_in n ws link Back = refl

ending_first : (ended : Bool) (frames : List QueueItem) (end : StreamEnd) → ended ≡ true → slice_get (side_in ended frames end).queue 0 ≡ cond end.ending (Some Ending) None
ending_first true frames end is = ending_or end.ending where
  ending_or : (b : Bool) → slice_get (cond b (Ending ∷ []) []) 0 ≡ cond b (Some Ending) None
  ending_or true = refl
  ending_or false = refl
ending_first false frames end is = absurd (let e = is in cc)

opening_first : (ended taken : Bool) (frames : List QueueItem) (ending : Bool) → ended ≡ false → taken ≡ false → slice_get (side_in ended frames (record { taken = taken; ending = ending })).queue 0 ≡ Some Opening
opening_first true taken frames ending is fresh = absurd (let e = is in cc)
opening_first false true frames ending is fresh = absurd (let e = fresh in cc)
opening_first false false frames ending is fresh = refl

frame_first : (ended taken : Bool) (frames : List QueueItem) (ending : Bool) → ended ≡ false → taken ≡ true → slice_get (side_in ended frames (record { taken = taken; ending = ending })).queue 0 ≡ slice_get frames 0
frame_first true taken frames ending is old = absurd (let e = is in cc)
frame_first false true frames ending is old = refl
frame_first false false frames ending is old = absurd (let e = old in cc)

pub front_ended : (n : ℕ) (ws : List QueuedFrame) (link : StreamLink) (d : Direction) → link.ended ≡ true → front_of d (Some (stream_in n ws link)) ≡ cond (end_of d link).ending (Some Ending) None
front_ended n ws link d is = front_in n ws link d ∙ ending_first link.ended (frames_of n d ws) (end_of d link) is

pub front_opening : (n : ℕ) (ws : List QueuedFrame) (link : StreamLink) (d : Direction) → link.ended ≡ false → (end_of d link).taken ≡ false → front_of d (Some (stream_in n ws link)) ≡ Some Opening
front_opening n ws link d is fresh = front_in n ws link d ∙ opening_first link.ended (end_of d link).taken (frames_of n d ws) (end_of d link).ending is fresh

front_frames : (n : ℕ) (ws : List QueuedFrame) (link : StreamLink) (d : Direction) → link.ended ≡ false → (end_of d link).taken ≡ true → front_of d (Some (stream_in n ws link)) ≡ slice_get (frames_of n d ws) 0
front_frames n ws link d is old = front_in n ws link d ∙ frame_first link.ended (end_of d link).taken (frames_of n d ws) (end_of d link).ending is old

pub front_frame : (n : ℕ) (ws : List QueuedFrame) (link : StreamLink) (d : Direction) (k : ℕ) (w : QueuedFrame) → link.ended ≡ false → (end_of d link).taken ≡ true → IsFirst n d ws k w → front_of d (Some (stream_in n ws link)) ≡ Some (Queued w.bytes)
front_frame n ws link d k w is old first = front_frames n ws link d is old ∙ ap (λ frames. slice_get frames 0) (frames_first n d ws k w first)

pub front_none : (n : ℕ) (ws : List QueuedFrame) (link : StreamLink) (d : Direction) → link.ended ≡ false → (end_of d link).taken ≡ true → frames_of n d ws ≡ [] → front_of d (Some (stream_in n ws link)) ≡ None
front_none n ws link d is old none = front_frames n ws link d is old ∙ ap (λ frames. slice_get frames 0) none

-- THE INDEX THAT A SEARCH FINDS

pub found_first : (n : ℕ) (d : Direction) (ws lent : List QueuedFrame) (k : ℕ) (w : QueuedFrame) → lent ≡ ws → Some k ≡ position (is_in n d) lent → w ≡ get_or lent k w → IsFirst n d ws k w
found_first n d ws lent k w same is at =
    let found : position (is_in n d) ws ≡ Some k = ap (position (is_in n d)) (sym same) ∙ sym is in
    let there = position-Some (is_in n d) ws k w found in
    let here : get_or ws k w ≡ w = ap (λ l. get_or l k w) (sym same) ∙ sym at in
    record { within = there.0; is = here; passes = ap (is_in n d) (sym here) ∙ there.1; before = there.2 }

none_past : (b : Bool) (k : ℕ) → None ≡ cond b (Some k) None → b ≡ false
none_past true k is = absurd (let e = is in cc)
none_past false k is = refl

pub not_found : (n : ℕ) (d : Direction) (ws lent : List QueuedFrame) → lent ≡ ws → None ≡ position (is_in n d) lent → frames_of n d ws ≡ []
not_found n d ws lent same is =
    let none : nat_lt (position_or_len (is_in n d) ws) (length ws) ≡ false = none_past _ _ (is ∙ ap (position (is_in n d)) same) in
    let past : length ws ≤ position_or_len (is_in n d) ws = grind (arith, nat_tests) in
    frames_none n d ws (λ i w lt. fails_before_first (is_in n d) ws i w (omega arith))
