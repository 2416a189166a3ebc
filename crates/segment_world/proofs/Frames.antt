-- The frames of one direction, after a change of the list of queued frames.
use Rattle.std.proofs.Common.{◌≡◌, ◌≢◌, ◌<◌, ◌≤◌, ℕ, zero, suc, ◌==◌, not, Bool, true, false, cond, List, [], ◌∷◌, ◌++◌, filter, length, get_or, refl, sym, ◌∙◌, ap, arith, ne_eqb, eqb-true}
use Rattle.std.specs.List.{remove}
use Rattle.segment_world.specs.declared.transit.direction.Direction.{Direction}
use Rattle.segment_world.specs.declared.transit.waiting.QueuedFrame.{QueuedFrame}
use Rattle.segment_world.specs.Transit.Streams.{QueueItem, Queued}
use Rattle.segment_world.specs.Transit.Queues.{is_in, is_elsewhere, frames_of, AreNumbered}

-- the frame, if it waits there
abbrev pub frame_if : Bool → QueuedFrame → List QueueItem
frame_if b w = cond b (Queued w.bytes ∷ []) []

-- A FRAME MORE

push_step : (b : Bool) (w : QueuedFrame) (old new more : List QueueItem) → new ≡ old ++ more → cond b (Queued w.bytes ∷ new) new ≡ cond b (Queued w.bytes ∷ old) old ++ more
push_step true w old new more is = ap (λ l. Queued w.bytes ∷ l) is
push_step false w old new more is = is

pub frames_push : (n : ℕ) (d : Direction) (ws : List QueuedFrame) (w : QueuedFrame) → frames_of n d (ws ++ w ∷ []) ≡ frames_of n d ws ++ frame_if (is_in n d w) w
unfolding frames_of
frames_push n d [] w = refl
frames_push n d (x ∷ ws) w = push_step (is_in n d x) x (frames_of n d ws) (frames_of n d (ws ++ w ∷ [])) (frame_if (is_in n d w) w) (frames_push n d ws w)

-- FRAMES OF ANOTHER STREAM

drop_step : (b : Bool) (n j : ℕ) (d : Direction) (w : QueuedFrame) (ws : List QueuedFrame) → (w.stream == n) ≡ b → j ≢ n → frames_of j d (filter (is_elsewhere n) ws) ≡ frames_of j d ws → frames_of j d (cond (not b) (w ∷ filter (is_elsewhere n) ws) (filter (is_elsewhere n) ws)) ≡ frames_of j d (w ∷ ws)
unfolding frames_of
drop_step true n j d w ws is ne same =
    let here : w.stream ≡ n = eqb-true w.stream n is in
    let there : (w.stream == j) ≡ false = ne_eqb w.stream j (λ e. ne (sym e ∙ here)) in
    rw there same
drop_step false n j d w ws is ne same = ap (λ l. cond (is_in j d w) (Queued w.bytes ∷ l) l) same

pub frames_elsewhere : (n j : ℕ) (d : Direction) (ws : List QueuedFrame) → j ≢ n → frames_of j d (filter (is_elsewhere n) ws) ≡ frames_of j d ws
unfolding frames_of
frames_elsewhere n j d [] ne = refl
frames_elsewhere n j d (w ∷ ws) ne = drop_step (w.stream == n) n j d w ws refl ne (frames_elsewhere n j d ws ne)

-- STREAM NUMBERS

-- no frame waits on a stream whose number is not given yet
pub frames_beyond : (count n : ℕ) (d : Direction) (ws : List QueuedFrame) → AreNumbered count ws → count ≤ n → frames_of n d ws ≡ []
unfolding AreNumbered frames_of
frames_beyond count n d [] numbered le = refl
frames_beyond count n d (w ∷ ws) numbered le =
    let lt : w.stream < count = numbered.0 in
    let there : (w.stream == n) ≡ false = ne_eqb w.stream n (λ e. absurd (omega (arith, e))) in
    rw there (frames_beyond count n d ws numbered.1 le)

-- THE FIRST FRAME

first_step : (b : Bool) (w : QueuedFrame) (rest more : List QueueItem) (item : QueueItem) → b ≡ false → rest ≡ item ∷ more → cond b (Queued w.bytes ∷ rest) rest ≡ item ∷ cond b (Queued w.bytes ∷ more) more
first_step true w rest more item is same = absurd (let e = is in cc)
first_step false w rest more item is same = same

-- the frame at this index is the first that passes the test
pub record IsFirst (n : ℕ) (d : Direction) (ws : List QueuedFrame) (k : ℕ) (w : QueuedFrame) : Type 0 where
  pub within : k < length ws
  pub is : get_or ws k w ≡ w
  pub passes : is_in n d w ≡ true
  pub before : (i : ℕ) → i < k → is_in n d (get_or ws i w) ≡ false

next_first : (n : ℕ) (d : Direction) (x : QueuedFrame) (ws : List QueuedFrame) (k : ℕ) (w : QueuedFrame) → IsFirst n d (x ∷ ws) (suc k) w → IsFirst n d ws k w
next_first n d x ws k w first = record {
  within = omega (arith, first.within);
  is = first.is;
  passes = first.passes;
  before = λ i lt. first.before (suc i) (omega arith);
}

pub frames_first : (n : ℕ) (d : Direction) (ws : List QueuedFrame) (k : ℕ) (w : QueuedFrame) → IsFirst n d ws k w → frames_of n d ws ≡ Queued w.bytes ∷ frames_of n d (remove ws k)
unfolding frames_of
frames_first n d [] k w first = absurd (omega (arith, first.within))
frames_first n d (x ∷ ws) zero w first =
    let same : x ≡ w = first.is in
    let here : is_in n d x ≡ true = ap (is_in n d) same ∙ first.passes in
    ap (λ b. cond b (Queued x.bytes ∷ frames_of n d ws) (frames_of n d ws)) here ∙ ap (λ (y : QueuedFrame). Queued y.bytes ∷ frames_of n d ws) same
frames_first n d (x ∷ ws) (suc k) w first =
    first_step (is_in n d x) x (frames_of n d ws) (frames_of n d (remove ws k)) (Queued w.bytes) (first.before zero (omega arith)) (frames_first n d ws k w (next_first n d x ws k w first))

-- frames that wait elsewhere still wait
pub frames_rest : (n j : ℕ) (d e : Direction) (ws : List QueuedFrame) (k : ℕ) (w : QueuedFrame) → IsFirst n d ws k w → is_in j e w ≡ false → frames_of j e (remove ws k) ≡ frames_of j e ws
unfolding frames_of
frames_rest n j d e [] k w first other = absurd (omega (arith, first.within))
frames_rest n j d e (x ∷ ws) zero w first other =
    let away : is_in j e x ≡ false = ap (is_in j e) first.is ∙ other in
    sym (ap (λ b. cond b (Queued x.bytes ∷ frames_of j e ws) (frames_of j e ws)) away)
frames_rest n j d e (x ∷ ws) (suc k) w first other =
    ap (λ l. cond (is_in j e x) (Queued x.bytes ∷ l) l) (frames_rest n j d e ws k w (next_first n d x ws k w first) other)

pub frames_none : (n : ℕ) (d : Direction) (ws : List QueuedFrame) → ((i : ℕ) (w : QueuedFrame) → i < length ws → is_in n d (get_or ws i w) ≡ false) → frames_of n d ws ≡ []
unfolding frames_of
frames_none n d [] none = refl
frames_none n d (x ∷ ws) none =
    ap (λ b. cond b (Queued x.bytes ∷ frames_of n d ws) (frames_of n d ws)) (none zero x (omega arith)) ∙ frames_none n d ws (λ i w lt. none (suc i) w (omega arith))
