-- Pieces that are written one behind the other, and their lengths.
use Rattle.std.proofs.Common.{◌≡◌, ◌≤◌, ℕ, ◌+◌, ◌*◌, ◌<◌, List, [], ◌∷◌, ◌++◌, length, take, drop, flat_map, get_or, refl, sym, ap, ◌∙◌, arith, length-append, append_assoc, append-nil}
use Rattle.std.proofs.lemmas.List.{take-append-drop, drop-drop, take_more}
use Rattle.std.proofs.lemmas.List.Concat.{flat_map-append}
use Rattle.std.specs.Int.{w32, w64, to_le_bytes}
use Rattle.flat_answers.specs.declared.head.ItemHeader.{ItemHeader}
use Rattle.cip_events.specs.declared.event.Answer.{Answer}
use Rattle.cip_events.specs.declared.event.Notice.{Notice}
use Rattle.cip_types.specs.declared.names.Node.{Node}
use Rattle.flat_answers.specs.Flat.{item, verdict_item, frame_item, consumer_item, datagram_items, notice_item, answer_bytes}
use Rattle.flat_answers.specs.Places.{Puts}

-- PIECES

-- what lies behind a position lies behind a later one
later : (a b : ℕ) (x y : List ℕ) → drop a x ≡ drop a y → drop (a + b) x ≡ drop (a + b) y
later a b x y same = sym (drop-drop b a x) ∙ ap (λ rest. drop b rest) same ∙ drop-drop b a y

-- one piece behind the other
pub two : (a b : List ℕ) (at0 at1 at2 : ℕ) (s0 s1 s2 : List ℕ) → Puts a at0 s0 at1 s1 → Puts b at1 s1 at2 s2 → Puts (a ++ b) at0 s0 at2 s2
two a b at0 at1 at2 s0 s1 s2 one next =
    let rest : drop (at1 + length b) s1 ≡ drop (at1 + length b) s0 = later at1 (length b) s1 s0 one.rest in
    record {
      len = next.len ∙ one.len;
      behind = omega (arith, length-append a b, one.behind, next.behind);
      front = next.front ∙ ap (λ s. s ++ b) one.front ∙ append_assoc (take at0 s0) a b;
      rest = next.rest ∙ rw (next.behind) rest;
    }

-- seven of them
pub seven : (s0 s1 s2 s3 s4 s5 s6 s7 a b c d e f g : List ℕ) (n0 n1 n2 n3 n4 n5 n6 n7 : ℕ) → Puts a n0 s0 n1 s1 → Puts b n1 s1 n2 s2 → Puts c n2 s2 n3 s3 → Puts d n3 s3 n4 s4 → Puts e n4 s4 n5 s5 → Puts f n5 s5 n6 s6 → Puts g n6 s6 n7 s7
    → Puts (a ++ (b ++ (c ++ (d ++ (e ++ (f ++ g)))))) n0 s0 n7 s7
seven s0 s1 s2 s3 s4 s5 s6 s7 a b c d e f g n0 n1 n2 n3 n4 n5 n6 n7 p1 p2 p3 p4 p5 p6 p7 =
    two a _ n0 n1 n7 s0 s1 s7 p1 (two b _ n1 n2 n7 s1 s2 s7 p2 (two c _ n2 n3 n7 s2 s3 s7 p3 (two d _ n3 n4 n7 s3 s4 s7 p4 (two e _ n4 n5 n7 s4 s5 s7 p5 (two f g n5 n6 n7 s5 s6 s7 p6 p7)))))

-- the pieces of the first elements, and that of the next one
next_of : {X : Type 0} (f : X → List ℕ) (xs : List X) (i : ℕ) (x d : X) → i < length xs → x ≡ get_or xs i d → flat_map f (take (i + 1) xs) ≡ flat_map f (take i xs) ++ f x
next_of f xs i x d lt is =
    ap (flat_map f) (take_more xs i d lt)
    ∙ flat_map-append f (take i xs) (get_or xs i d ∷ [])
    ∙ ap (λ y. flat_map f (take i xs) ++ flat_map f (y ∷ [])) (sym is)
    ∙ ap (λ (s : List ℕ). flat_map f (take i xs) ++ s) (append-nil (f x))

-- they fit where all do
pub fits : {X : Type 0} (f : X → List ℕ) (xs : List X) (i : ℕ) (x d : X) (at0 at1 : ℕ) (s0 s1 : List ℕ) → i < length xs → x ≡ get_or xs i d → at0 + length (flat_map f xs) ≤ length s0
    → Puts (flat_map f (take i xs)) at0 s0 at1 s1 → at1 + length (f x) ≤ length s1
fits f xs i x d at0 at1 s0 s1 lt is room so_far =
    let all = ap length (ap (flat_map f) (sym (take-append-drop (i + 1) xs)) ∙ flat_map-append f (take (i + 1) xs) (drop (i + 1) xs)) in
    omega (arith, all, length-append (flat_map f (take (i + 1) xs)) (flat_map f (drop (i + 1) xs)), ap length (next_of f xs i x d lt is), length-append (flat_map f (take i xs)) (f x), so_far.len, so_far.behind)

-- the next one behind the first ones
pub more : {X : Type 0} (f : X → List ℕ) (xs : List X) (i : ℕ) (x d : X) (at0 at1 at2 : ℕ) (s0 s1 s2 : List ℕ) → i < length xs → x ≡ get_or xs i d
    → Puts (flat_map f (take i xs)) at0 s0 at1 s1 → Puts (f x) at1 s1 at2 s2 → Puts (flat_map f (take (i + 1) xs)) at0 s0 at2 s2
more f xs i x d at0 at1 at2 s0 s1 s2 lt is so_far next = rw (next_of f xs i x d lt is) (two (flat_map f (take i xs)) (f x) at0 at1 at2 s0 s1 s2 so_far next)

-- LENGTHS

pub four : (n : ℕ) → length (to_le_bytes w32 n) ≡ 4
four n = refl

pub eight : (n : ℕ) → length (to_le_bytes w64 n) ≡ 8
eight n = refl

pub item_length : (it : ItemHeader) (bytes : List ℕ) → length (item it bytes) ≡ 28 + length bytes
unfolding item
item_length it bytes =
    let h = to_le_bytes w32 it.kind ++ (to_le_bytes w32 it.a ++ (to_le_bytes w32 it.b ++ (to_le_bytes w32 it.c ++ (to_le_bytes w32 it.d ++ to_le_bytes w64 (length bytes))))) in
    let len : length h ≡ 28 = refl in
    let same : item it bytes ≡ h ++ bytes = refl in
    ap length same ∙ length-append h bytes ∙ ap (λ n. n + length bytes) len

-- each piece has the same length
pub same_lengths : {X : Type 0} (f : X → List ℕ) (k : ℕ) → ((x : X) → length (f x) ≡ k) → (xs : List X) → length (flat_map f xs) ≡ k * length xs
same_lengths f k each [] = omega arith
same_lengths f k each (x ∷ xs) = omega (arith, length-append (f x) (flat_map f xs), each x, same_lengths f k each xs)

-- an item without data
pub bare : (it : ItemHeader) → length (item it []) ≡ 28
bare it = item_length it []

-- what is written from the front of a room on
pub whole : (text old new : List ℕ) (next : ℕ) → Puts text 0 old next new → new ≡ text ++ drop (length text) old
whole text old new next puts =
    let next_is : next ≡ length text = omega (arith, puts.behind) in
    sym (take-append-drop next new) ∙ ap (λ s. s ++ drop next new) puts.front ∙ ap (λ s. text ++ s) puts.rest ∙ ap (λ n. text ++ drop n old) next_is

-- an answer is as long as its parts
pub answer_length : (answer : Answer) → length (answer_bytes answer) ≡ length (verdict_item answer.verdict) + (length (flat_map frame_item answer.frames) + (length (flat_map datagram_items answer.datagrams) + length (flat_map notice_item answer.notices)))
unfolding answer_bytes
answer_length answer =
    let v = verdict_item answer.verdict in let f = flat_map frame_item answer.frames in let d = flat_map datagram_items answer.datagrams in let n = flat_map notice_item answer.notices in
    length-append v (f ++ (d ++ n)) ∙ ap (λ (k : ℕ). length v + k) (length-append f (d ++ n) ∙ ap (λ (k : ℕ). length f + k) (length-append d n))

pub consumers_length : (nodes : List Node) → length (flat_map consumer_item nodes) ≡ 28 * length nodes
consumers_length nodes = same_lengths consumer_item 28 (λ node. bare _) nodes

pub notices_length : (notices : List Notice) → length (flat_map notice_item notices) ≡ 28 * length notices
notices_length notices = same_lengths notice_item 28 (λ notice. bare _) notices
