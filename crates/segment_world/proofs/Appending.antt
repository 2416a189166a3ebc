-- A datagram more in the buffer.
use Rattle.std.proofs.Common.{◌≡◌, ◌≤◌, ◌<◌, nat_lt, get_or, true, ℕ, zero, suc, ◌+◌, List, [], ◌∷◌, ◌++◌, length, slice_get, Some, refl, sym, ap, ◌∙◌, arith}
use Rattle.std.specs.Prelude.{slice_range}
use Rattle.std.proofs.lemmas.Grind.{common_steps}
use Rattle.std.proofs.lemmas.List.{map-append}
use Rattle.std.proofs.lemmas.Option.{slice_get-get_or}
use Rattle.std.proofs.lemmas.Bool.Decides.{nat_tests}
use Rattle.cip_types.specs.declared.names.Node.{Node}
use Rattle.segment_world.specs.declared.transit.sent_log.SentSpan.{SentSpan}
use Rattle.segment_world.specs.Transit.Spans.{sent_at, sent_in, AreWithin}

-- bytes behind the buffer change nothing of what lies in it
range_within : (bytes more : List ℕ) (start end : ℕ) → start ≤ end → end ≤ length bytes → slice_range (bytes ++ more) start end ≡ slice_range bytes start end
range_within bytes more start end below within = grind (arith, common_steps)

range_end : (bytes more : List ℕ) → slice_range (bytes ++ more) (length bytes) (length bytes + length more) ≡ more
range_end bytes more = grind (arith, common_steps)

same_sent : (bytes more : List ℕ) (spans : List SentSpan) → AreWithin (length bytes) spans → sent_in (bytes ++ more) spans ≡ sent_in bytes spans
same_sent bytes more [] within = refl
same_sent bytes more (span ∷ spans) within =
    ap (λ b. record { from = span.from; bytes = b } ∷ sent_in (bytes ++ more) spans) (range_within bytes more span.start span.end within.0 within.1)
    ∙ ap (λ sent. sent_at bytes span ∷ sent) (same_sent bytes more spans within.2)

within_push : (len more : ℕ) (spans : List SentSpan) (span : SentSpan) → AreWithin len spans → len ≤ more → span.start ≤ span.end → span.end ≤ more → AreWithin more (spans ++ span ∷ [])
within_push len more [] span within le below top = (below, top, tt)
within_push len more (first ∷ spans) span within le below top = (within.0, omega (arith, within.1), within_push len more spans span within.2 le below top)

-- the places with one more, and the datagrams in them
pub pushed_within : (bytes more all : List ℕ) (spans : List SentSpan) (from : Node) (start end : ℕ) → AreWithin (length bytes) spans → all ≡ bytes ++ more → start ≡ length bytes → end ≡ length all → AreWithin (length all) (spans ++ (record { from = from; start = start; end = end }) ∷ [])
pushed_within bytes more all spans from start end within is begins ends =
    let longer : length all ≡ length bytes + length more = rw is (grind (arith, common_steps)) in
    within_push (length bytes) (length all) spans (record { from = from; start = start; end = end }) within (omega arith) (omega arith) (omega arith)

pub pushed_sent : (bytes more all : List ℕ) (spans : List SentSpan) (from : Node) (start end : ℕ) → AreWithin (length bytes) spans → all ≡ bytes ++ more → start ≡ length bytes → end ≡ length all → sent_in all (spans ++ (record { from = from; start = start; end = end }) ∷ []) ≡ sent_in bytes spans ++ (record { from = from; bytes = more }) ∷ []
pushed_sent bytes more all spans from start end within is begins ends =
    let longer : length all ≡ length bytes + length more = rw is (grind (arith, common_steps)) in
    let last : slice_range all start end ≡ more = rw (begins, ends, longer, is) (range_end bytes more) in
    let earlier : sent_in all spans ≡ sent_in bytes spans = rw is (same_sent bytes more spans within) in
    map-append (sent_at all) spans ((record { from = from; start = start; end = end }) ∷ [])
    ∙ ap (λ sent. sent ++ sent_at all (record { from = from; start = start; end = end }) ∷ []) earlier
    ∙ ap (λ b. sent_in bytes spans ++ (record { from = from; bytes = b }) ∷ []) last

-- A PLACE THAT IS LOOKED UP

within_at : (len : ℕ) (spans : List SentSpan) (i : ℕ) (span : SentSpan) → AreWithin len spans → slice_get spans i ≡ Some span → (span.start ≤ span.end) × (span.end ≤ len)
within_at len [] i span within is = absurd (let e = is in cc)
within_at len (first ∷ spans) zero span within is =
    let same : first ≡ span = let e = is in cc in
    rw (← same) (within.0, within.1)
within_at len (first ∷ spans) (suc i) span within is = within_at len spans i span within.2 is

sent_found : (bytes : List ℕ) (spans : List SentSpan) (i : ℕ) (span : SentSpan) → slice_get spans i ≡ Some span → slice_get (sent_in bytes spans) i ≡ Some (sent_at bytes span)
sent_found bytes [] i span is = absurd (let e = is in cc)
sent_found bytes (first ∷ spans) zero span is =
    let same : first ≡ span = let e = is in cc in
    ap (λ p. Some (sent_at bytes p)) same
sent_found bytes (first ∷ spans) (suc i) span is = sent_found bytes spans i span is

at_index : (lent spans : List SentSpan) (i : ℕ) (span : SentSpan) → lent ≡ spans → true ≡ nat_lt i (length lent) → span ≡ get_or lent i span → slice_get spans i ≡ Some span
at_index lent spans i span same below is =
    let lt : i < length lent = grind (arith, nat_tests) in
    ap (λ l. slice_get l i) (sym same) ∙ slice_get-get_or lent i span lt ∙ ap Some (sym is)

pub found_within : (len : ℕ) (lent spans : List SentSpan) (i : ℕ) (span : SentSpan) → AreWithin len spans → lent ≡ spans → true ≡ nat_lt i (length lent) → span ≡ get_or lent i span → (span.start ≤ span.end) × (span.end ≤ len)
found_within len lent spans i span within same below is = within_at len spans i span within (at_index lent spans i span same below is)

pub found_sent : (bytes : List ℕ) (lent spans : List SentSpan) (i : ℕ) (span : SentSpan) → lent ≡ spans → true ≡ nat_lt i (length lent) → span ≡ get_or lent i span → slice_get (sent_in bytes spans) i ≡ Some (sent_at bytes span)
found_sent bytes lent spans i span same below is = sent_found bytes spans i span (at_index lent spans i span same below is)
