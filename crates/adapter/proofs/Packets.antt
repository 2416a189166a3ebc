-- Packets of requests, one request after another.
use Rattle.std.proofs.Common.{◌≡◌, ◌≤◌, ◌<◌, ◌+◌, ◌-◌, ◌*◌, ℕ, Bool, true, false, cond, not, nat_lt, zero, suc, List, [], ◌∷◌, ◌++◌, length, get_or, take, drop, flat_map, refl, sym, subst, ◌∙◌, ap, arith, append_assoc, length-append}
use Rattle.std.proofs.lemmas.Bool.{and_parts, le-ltb}
use Rattle.std.proofs.lemmas.Bool.Decides.{nat_tests}
use Rattle.cip_router.specs.Replies.{ReplyFields, reply_text}
use Rattle.cip_router.specs.declared.object_service.ObjectService.TheVariants.{Packet}
use Rattle.cip_router.specs.declared.refusal.Status.TheVariants as status
use Rattle.adapter_table.specs.declared.table.AdapterTable.{AdapterTable}
use Rattle.adapter_table.specs.Carrying.{are_placed, are_rising, are_successes, member_of, member_replies, most_members, next_start, packet_answer, packet_data, packet_replied, packet_status, part_of, routed_answer, starts_from}
use Rattle.adapter_table.specs.Objects.{answer_within, denied, u16, word_of}

-- ---- where requests begin

ends_within : (body starts : List ℕ) → are_rising body starts ≡ true → next_start body starts ≤ length body
ends_within body [] rising = omega arith
ends_within body (low ∷ []) rising = omega arith
ends_within body (low ∷ high ∷ rest) rising =
    let parts = and_parts (nat_lt (word_of low high) (next_start body rest)) (are_rising body rest) rising in
    let later = ends_within body rest parts.1 in
    let below : word_of low high < next_start body rest = grind (arith, nat_tests) in
    omega (arith, later, below)

-- what follows the first two bytes, as a slice from the third one on
abbrev behind : List ℕ → List ℕ
behind bytes = take (length bytes - 2) (drop 2 bytes)

all_taken : (bytes : List ℕ) → take (length bytes) bytes ≡ bytes
all_taken [] = refl
all_taken (byte ∷ bytes) = ap (λ (l : List ℕ). byte ∷ l) (all_taken bytes)

behind_is : (low high : ℕ) (rest : List ℕ) → behind (low ∷ high ∷ rest) ≡ rest
behind_is low high rest =
    let left : length (low ∷ high ∷ rest) - 2 ≡ length rest = omega arith in
    ap (λ (n : ℕ). take n rest) left ∙ all_taken rest

-- a request ends within the packet
pub ends_in : (body starts : List ℕ) → 2 ≤ length starts → are_rising body starts ≡ true → next_start body (behind starts) ≤ length body
ends_in body [] two rising = absurd (omega (arith, two))
ends_in body (low ∷ []) two rising = absurd (omega (arith, two))
ends_in body (low ∷ high ∷ rest) two rising =
    subst (λ (l : List ℕ). next_start body l ≤ length body) (sym (behind_is low high rest))
    (ends_within body rest (and_parts (nat_lt (word_of low high) (next_start body rest)) (are_rising body rest) rising).1)

-- ---- replies

starts_step : (front : ℕ) (starts texts : List ℕ) (reply : ReplyFields) (rest : List ReplyFields) → (starts ++ u16 (front + length texts)) ++ starts_from (front + length (texts ++ reply_text reply)) rest ≡ starts ++ starts_from (front + length texts) (reply ∷ rest)
starts_step front starts texts reply rest =
    let place : front + length (texts ++ reply_text reply) ≡ (front + length texts) + length (reply_text reply) = omega (arith, length-append texts (reply_text reply)) in
    ap (λ (n : ℕ). (starts ++ u16 (front + length texts)) ++ starts_from n rest) place ∙ append_assoc starts (u16 (front + length texts)) (starts_from ((front + length texts) + length (reply_text reply)) rest)

starts_of : (t : AdapterTable) (body : List ℕ) (low high : ℕ) (rest : List ℕ) (front : ℕ) (starts texts more longer : List ℕ) → more ≡ starts ++ u16 (front + length texts) → longer ≡ texts ++ reply_text (member_of t (part_of body (word_of low high) (next_start body rest))) → more ++ starts_from (front + length longer) (member_replies t body rest) ≡ starts ++ starts_from (front + length texts) (member_replies t body (low ∷ high ∷ rest))
starts_of t body low high rest front starts texts more longer first second =
    ap (λ (m : List ℕ). m ++ starts_from (front + length longer) (member_replies t body rest)) first
    ∙ ap (λ (m : List ℕ). (starts ++ u16 (front + length texts)) ++ starts_from (front + length m) (member_replies t body rest)) second
    ∙ starts_step front starts texts (member_of t (part_of body (word_of low high) (next_start body rest))) (member_replies t body rest)

-- where the reply to the first request begins, and those to the others
pub starts_more : (t : AdapterTable) (body places : List ℕ) (front : ℕ) (starts texts more longer member : List ℕ) → 2 ≤ length places → member ≡ part_of body (word_of (get_or places 0 0) (get_or places 1 0)) (next_start body (behind places)) → more ≡ starts ++ u16 (front + length texts) → longer ≡ texts ++ reply_text (member_of t member) → more ++ starts_from (front + length longer) (member_replies t body (behind places)) ≡ starts ++ starts_from (front + length texts) (member_replies t body places)
starts_more t body [] front starts texts more longer member two is first second = absurd (omega (arith, two))
starts_more t body (low ∷ []) front starts texts more longer member two is first second = absurd (omega (arith, two))
starts_more t body (low ∷ high ∷ rest) front starts texts more longer member two is first second =
    let member_is : member ≡ part_of body (word_of low high) (next_start body rest) = is ∙ ap (λ (l : List ℕ). part_of body (word_of low high) (next_start body l)) (behind_is low high rest) in
    ap (λ (l : List ℕ). more ++ starts_from (front + length longer) (member_replies t body l)) (behind_is low high rest)
    ∙ starts_of t body low high rest front starts texts more longer first (second ∙ ap (λ (m : List ℕ). texts ++ reply_text (member_of t m)) member_is)

-- the data of the reply to a packet, from the replies to its requests
pub packed_is : (low high : ℕ) (members : List ReplyFields) (front : ℕ) (starts texts made : List ℕ) (whole : Bool) → front ≡ 2 + 2 * word_of low high → starts ≡ starts_from (front + 0) members → texts ≡ flat_map reply_text members → whole ≡ are_successes members → made ≡ low ∷ high ∷ (starts ++ texts) → answer_within Packet (packet_status whole) made ≡ packet_replied low high members
packed_is low high members front starts texts made whole begins places said are is =
    let first : front + 0 ≡ 2 + 2 * word_of low high = omega (arith, begins) in
    let data_is : made ≡ packet_data low high members =
    is ∙ ap (λ (m : List ℕ). low ∷ high ∷ (m ++ texts)) (places ∙ ap (λ (n : ℕ). starts_from n members) first)
    ∙ ap (λ (m : List ℕ). low ∷ high ∷ (starts_from (2 + 2 * word_of low high) members ++ m)) said
    in
    ap (λ (b : Bool). answer_within Packet (packet_status b) made) are ∙ ap (answer_within Packet (packet_status (are_successes members))) data_is

-- a packet, by whether its requests begin behind their places, one behind the other
pub packet_by : (t : AdapterTable) (body starts : List ℕ) (count : ℕ) (placed : Bool) → count ≡ word_of (get_or body 0 0) (get_or body 1 0) → 2 + 2 * count ≤ length body → count ≤ most_members → starts ≡ take (2 * count) (behind body) → are_placed body starts ≡ placed → packet_answer t body ≡ cond (not placed) (denied status.InvalidParameter) (packet_replied (get_or body 0 0) (get_or body 1 0) (member_replies t body starts))
packet_by t [] starts count placed counts enough few places is = absurd (omega (arith, enough))
packet_by t (low ∷ []) starts count placed counts enough few places is = absurd (omega (arith, enough))
packet_by t (low ∷ high ∷ rest) starts count placed counts enough few places is =
    let body : List ℕ = low ∷ high ∷ rest in
    let begins : take (2 * word_of low high) rest ≡ starts = sym (places ∙ ap (λ (l : List ℕ). take (2 * count) l) (behind_is low high rest) ∙ ap (λ (n : ℕ). take (2 * n) rest) counts) in
    let long : nat_lt (length rest) (2 * word_of low high) ≡ false = le-ltb _ _ (omega (arith, enough, counts)) in
    let small : nat_lt most_members (word_of low high) ≡ false = le-ltb _ _ (omega (arith, few, counts)) in
    ap (λ (b : Bool). cond b (denied status.NotEnoughData) (cond (nat_lt most_members (word_of low high)) (denied status.ReplyTooLarge) (cond (not (are_placed body (take (2 * word_of low high) rest))) (denied status.InvalidParameter) (packet_replied low high (member_replies t body (take (2 * word_of low high) rest)))))) long
    ∙ ap (λ (b : Bool). cond b (denied status.ReplyTooLarge) (cond (not (are_placed body (take (2 * word_of low high) rest))) (denied status.InvalidParameter) (packet_replied low high (member_replies t body (take (2 * word_of low high) rest))))) small
    ∙ ap (λ (l : List ℕ). cond (not (are_placed body l)) (denied status.InvalidParameter) (packet_replied low high (member_replies t body l))) begins
    ∙ ap (λ (b : Bool). cond (not b) (denied status.InvalidParameter) (packet_replied low high (member_replies t body starts))) is

-- ---- a request with a route

nothing_left : (len : ℕ) (bytes : List ℕ) → length bytes ≤ len → drop len bytes ≡ []
nothing_left zero [] few = refl
nothing_left zero (byte ∷ bytes) few = absurd (omega (arith, few))
nothing_left (suc len) [] few = refl
nothing_left (suc len) (byte ∷ bytes) few = nothing_left len bytes (omega (arith, few))

-- the bytes end before the route does
pub cut_short : (t : AdapterTable) (inner bytes : List ℕ) (len : ℕ) → length bytes < len → routed_answer t inner (drop len bytes) ≡ denied status.NotEnoughData
cut_short t inner bytes len few = ap (routed_answer t inner) (nothing_left len bytes (omega (arith, few)))
