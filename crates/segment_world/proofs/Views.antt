-- The streams that links and queued frames make, after a change of one stream.
use Rattle.std.proofs.Common.{◌≡◌, ◌≢◌, ◌<◌, ◌≤◌, ℕ, zero, suc, ◌+◌, List, [], ◌∷◌, ◌++◌, set, length, slice_get, Option, Some, None, refl, sym, ◌∙◌, ap, arith}
use Rattle.std.specs.Option.{option_map}
use Rattle.std.proofs.lemmas.Option.{slice_get_within}
use Rattle.base_lemmas.specs.Lists.{set_same}
use Rattle.segment_world.specs.declared.transit.direction.Direction.{Direction}
use Rattle.segment_world.specs.declared.transit.direction.Direction.TheVariants.{Forth, Back}
use Rattle.segment_world.specs.declared.transit.links.StreamLink.{StreamLink}
use Rattle.segment_world.specs.declared.transit.waiting.QueuedFrame.{QueuedFrame}
use Rattle.segment_world.specs.Transit.Streams.{QueueItem, Stream, changed, with_stream, fresh_stream}
use Rattle.segment_world.specs.Transit.Links.{fresh_link}
use Rattle.segment_world.specs.Transit.Queues.{frames_of, side_in, stream_in, streams_in, AreNumbered}
use Rattle.segment_world.proofs.Frames.{frames_beyond}

-- the queues of other streams stay
abbrev pub SameElsewhere : ℕ → List QueuedFrame → List QueuedFrame → Type 0
SameElsewhere n ws ws' = (j : ℕ) (d : Direction) → j ≢ n → frames_of j d ws' ≡ frames_of j d ws

abbrev built : StreamLink → List QueueItem → List QueueItem → Stream
built link forth back = record { from = link.from; to = link.to; ended = link.ended; forth = side_in link.ended forth link.forth; back = side_in link.ended back link.back }

stream_same : (n : ℕ) (ws ws' : List QueuedFrame) (link : StreamLink) → ((d : Direction) → frames_of n d ws' ≡ frames_of n d ws) → stream_in n ws' link ≡ stream_in n ws link
stream_same n ws ws' link same =
    ap (λ f. built link f (frames_of n Back ws')) (same Forth) ∙ ap (λ b. built link (frames_of n Forth ws) b) (same Back)

same_in : (n : ℕ) (ws ws' : List QueuedFrame) (links : List StreamLink) → ((j : ℕ) (d : Direction) → n ≤ j → frames_of j d ws' ≡ frames_of j d ws) → streams_in n ws' links ≡ streams_in n ws links
unfolding streams_in
same_in n ws ws' [] same = refl
same_in n ws ws' (link ∷ links) same =
    ap (λ s. s ∷ streams_in (suc n) ws' links) (stream_same n ws ws' link (λ d. same n d (omega arith)))
    ∙ ap (λ ss. stream_in n ws link ∷ ss) (same_in (suc n) ws ws' links (λ j d le. same j d (omega arith)))

set_in : (n : ℕ) (ws ws' : List QueuedFrame) (links : List StreamLink) (k m : ℕ) (link : StreamLink) → k < length links → m ≡ n + k → SameElsewhere m ws ws' → streams_in n ws' (set links k link) ≡ set (streams_in n ws links) k (stream_in m ws' link)
unfolding streams_in
set_in n ws ws' [] k m link lt is same = absurd (omega arith)
set_in n ws ws' (first ∷ links) zero m link lt is same =
    let here : n ≡ m = omega arith in
    ap (λ i. stream_in i ws' link ∷ streams_in (suc n) ws' links) here
    ∙ ap (λ ss. stream_in m ws' link ∷ ss) (same_in (suc n) ws ws' links (λ j d le. same j d (λ e. absurd (omega (arith, e)))))
set_in n ws ws' (first ∷ links) (suc k) m link lt is same =
    ap (λ s. s ∷ streams_in (suc n) ws' (set links k link)) (stream_same n ws ws' first (λ d. same n d (λ e. absurd (omega (arith, e)))))
    ∙ ap (λ ss. stream_in n ws first ∷ ss) (set_in (suc n) ws ws' links k m link (omega arith) (omega arith) same)

get_in : (n : ℕ) (ws : List QueuedFrame) (links : List StreamLink) (k m : ℕ) → m ≡ n + k → slice_get (streams_in n ws links) k ≡ option_map (stream_in m ws) (slice_get links k)
unfolding streams_in
get_in n ws [] k m is = refl
get_in n ws (link ∷ links) zero m is = let here : n ≡ m = omega arith in ap (λ i. Some (stream_in i ws link)) here
get_in n ws (link ∷ links) (suc k) m is = get_in (suc n) ws links k m (omega arith)

pub get_some : (ws : List QueuedFrame) (links : List StreamLink) (k : ℕ) (link : StreamLink) → slice_get links k ≡ Some link → slice_get (streams_in 0 ws links) k ≡ Some (stream_in k ws link)
get_some ws links k link is = get_in 0 ws links k k (omega arith) ∙ ap (option_map (stream_in k ws)) is

pub get_none : (ws : List QueuedFrame) (links : List StreamLink) (k : ℕ) → slice_get links k ≡ None → slice_get (streams_in 0 ws links) k ≡ None
get_none ws links k is = get_in 0 ws links k k (omega arith) ∙ ap (option_map (stream_in k ws)) is

pub length_in : (n : ℕ) (ws : List QueuedFrame) (links : List StreamLink) → length (streams_in n ws links) ≡ length links
unfolding streams_in
length_in n ws [] = refl
length_in n ws (link ∷ links) = ap suc (length_in (suc n) ws links)

-- ONE STREAM IS CHANGED

pub changed_in : (change : Stream → Stream) (ws ws' : List QueuedFrame) (links : List StreamLink) (k : ℕ) (link link' : StreamLink) → slice_get links k ≡ Some link → SameElsewhere k ws ws' → stream_in k ws' link' ≡ change (stream_in k ws link) → streams_in 0 ws' (set links k link') ≡ with_stream change k (streams_in 0 ws links)
changed_in change ws ws' links k link link' is same so =
    set_in 0 ws ws' links k k link' (slice_get_within links k link is) (omega arith) same
    ∙ ap (λ s. set (streams_in 0 ws links) k s) so
    ∙ sym (ap (changed change (streams_in 0 ws links) k) (get_some ws links k link is))

-- the link stays, and the queue changes
pub waits_in : (change : Stream → Stream) (ws ws' : List QueuedFrame) (links : List StreamLink) (k : ℕ) (link : StreamLink) → slice_get links k ≡ Some link → SameElsewhere k ws ws' → stream_in k ws' link ≡ change (stream_in k ws link) → streams_in 0 ws' links ≡ with_stream change k (streams_in 0 ws links)
waits_in change ws ws' links k link is same so =
    ap (streams_in 0 ws') (sym (set_same links k link is)) ∙ changed_in change ws ws' links k link link is same so

pub kept_in : (change : Stream → Stream) (ws : List QueuedFrame) (links : List StreamLink) (k : ℕ) (link : StreamLink) → slice_get links k ≡ Some link → stream_in k ws link ≡ change (stream_in k ws link) → streams_in 0 ws links ≡ with_stream change k (streams_in 0 ws links)
kept_in change ws links k link is so = waits_in change ws ws links k link is (λ j d ne. refl) so

pub none_in : (change : Stream → Stream) (ws : List QueuedFrame) (links : List StreamLink) (k : ℕ) → slice_get links k ≡ None → streams_in 0 ws links ≡ with_stream change k (streams_in 0 ws links)
none_in change ws links k is = sym (ap (changed change (streams_in 0 ws links) k) (get_none ws links k is))

-- A STREAM IS OPENED

fresh_in : (n : ℕ) (ws : List QueuedFrame) (count from to : ℕ) → AreNumbered count ws → count ≤ n → stream_in n ws (fresh_link from to) ≡ fresh_stream from to
fresh_in n ws count from to numbered le =
    ap (λ f. built (fresh_link from to) f (frames_of n Back ws)) (frames_beyond count n Forth ws numbered le)
    ∙ ap (λ b. built (fresh_link from to) [] b) (frames_beyond count n Back ws numbered le)

opened_at : (n : ℕ) (ws : List QueuedFrame) (links : List StreamLink) (from to count : ℕ) → AreNumbered count ws → count ≤ n + length links → streams_in n ws (links ++ fresh_link from to ∷ []) ≡ streams_in n ws links ++ fresh_stream from to ∷ []
unfolding streams_in
opened_at n ws [] from to count numbered le = ap (λ s. s ∷ []) (fresh_in n ws count from to numbered (omega arith))
opened_at n ws (link ∷ links) from to count numbered le = ap (λ ss. stream_in n ws link ∷ ss) (opened_at (suc n) ws links from to count numbered (omega arith))

pub opened_in : (ws : List QueuedFrame) (links : List StreamLink) (from to : ℕ) → AreNumbered (length links) ws → streams_in 0 ws (links ++ fresh_link from to ∷ []) ≡ streams_in 0 ws links ++ fresh_stream from to ∷ []
opened_in ws links from to numbered = opened_at 0 ws links from to (length links) numbered (omega arith)

-- THE SAME OF THE LIST OF STREAMS

pub looked : (lent links : List StreamLink) (n : ℕ) (found o : Option StreamLink) → lent ≡ links → found ≡ slice_get lent n → found ≡ o → slice_get links n ≡ o
looked lent links n found o same is found_is = ap (λ l. slice_get l n) (sym same) ∙ sym is ∙ found_is

pub seen_none : (change : Stream → Stream) (ws : List QueuedFrame) (links : List StreamLink) (n : ℕ) (seen : List Stream) → slice_get links n ≡ None → streams_in 0 ws links ≡ seen → seen ≡ with_stream change n seen
seen_none change ws links n seen is view = rw (← view) (none_in change ws links n is)

pub seen_kept : (change : Stream → Stream) (ws : List QueuedFrame) (links : List StreamLink) (n : ℕ) (link : StreamLink) (seen : List Stream) → slice_get links n ≡ Some link → stream_in n ws link ≡ change (stream_in n ws link) → streams_in 0 ws links ≡ seen → seen ≡ with_stream change n seen
seen_kept change ws links n link seen is so view = rw (← view) (kept_in change ws links n link is so)

pub seen_changed : (change : Stream → Stream) (ws ws' : List QueuedFrame) (links links' : List StreamLink) (n : ℕ) (link link' : StreamLink) (seen : List Stream) → slice_get links n ≡ Some link → SameElsewhere n ws ws' → stream_in n ws' link' ≡ change (stream_in n ws link) → links' ≡ set links n link' → streams_in 0 ws links ≡ seen → streams_in 0 ws' links' ≡ with_stream change n seen
seen_changed change ws ws' links links' n link link' seen is same so put view = rw (← view, put) (changed_in change ws ws' links n link link' is same so)

pub seen_waits : (change : Stream → Stream) (ws ws' : List QueuedFrame) (links : List StreamLink) (n : ℕ) (link : StreamLink) (seen : List Stream) → slice_get links n ≡ Some link → SameElsewhere n ws ws' → stream_in n ws' link ≡ change (stream_in n ws link) → streams_in 0 ws links ≡ seen → streams_in 0 ws' links ≡ with_stream change n seen
seen_waits change ws ws' links n link seen is same so view = rw (← view) (waits_in change ws ws' links n link is same so)
