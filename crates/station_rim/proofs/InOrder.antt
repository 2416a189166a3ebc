-- The writer of a record takes its entries in order.
use Rattle.std.proofs.Common.{◌≡◌, ℕ, Bool, true, List, [], ◌∷◌, ◌++◌, Ok, Err, refl, sym, ap, ◌∙◌, append_assoc}
use Rattle.std.proofs.lemmas.List.{append-nil}
use Rattle.station_rim.specs.RecordWays.{RecordWay, after_of, taken_of, is_drained}
use Rattle.station_rim.specs.RecordLaw.{Account, fresh_account, Act, Put, Take, Note, End, account_after, account_through, with_taken, InOrder, EntriesAreWrittenInOrder}

one_more : (accepted taken pieces : List (List ℕ)) (entry : List ℕ) → accepted ≡ taken ++ pieces → accepted ++ entry ∷ [] ≡ taken ++ (pieces ++ entry ∷ [])
one_more accepted taken pieces entry is = ap (λ (x : List (List ℕ)). x ++ entry ∷ []) is ∙ append_assoc taken pieces (entry ∷ [])

order_taken : (way : RecordWay) (pieces accepted taken : List (List ℕ)) → way.queue.pieces ≡ pieces → accepted ≡ taken ++ pieces → accepted ≡ with_taken (taken_of way.queue pieces) taken ++ (after_of way pieces).queue.pieces
order_taken way [] accepted taken same is = is ∙ ap (λ (x : List (List ℕ)). taken ++ x) (sym same)
order_taken way (piece ∷ pieces) accepted taken same is = is ∙ sym (append_assoc taken (piece ∷ []) pieces)

order_after : (act : Act) (account : Account) → InOrder account → InOrder (account_after act account)
order_after (Put entry (Ok done)) account is = one_more account.accepted account.taken account.way.queue.pieces entry is
order_after (Put entry (Err fault)) account is = is
order_after Take account is = order_taken account.way account.way.queue.pieces account.accepted account.taken refl is
order_after (Note failed) account is = is
order_after End account is = is

order_through : (acts : List Act) (account : Account) → InOrder account → InOrder (account_through acts account)
order_through [] account is = is
order_through (act ∷ acts) account is = order_through acts (account_after act account) (order_after act account is)

none_left : (pieces accepted taken : List (List ℕ)) (busy : Bool) (way : RecordWay) → way.queue.pieces ≡ pieces → accepted ≡ taken ++ pieces → is_drained way ≡ true → taken ≡ accepted
none_left [] accepted taken busy way same is drained = sym (is ∙ append-nil taken)
none_left (piece ∷ pieces) accepted taken busy way same is drained = absurd cc

pub in_order : EntriesAreWrittenInOrder
in_order most_bytes most_entries acts =
    let account : Account = account_through acts (fresh_account most_bytes most_entries) in
    let is : InOrder account = order_through acts (fresh_account most_bytes most_entries) refl in
    (is, none_left account.way.queue.pieces account.accepted account.taken account.way.busy account.way refl is)
