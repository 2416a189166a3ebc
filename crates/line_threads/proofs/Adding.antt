-- A receipt more.
use Rattle.std.proofs.Common.{◌≡◌, ℕ, List, [], ◌∷◌, ◌++◌, true, false, map, refl, ap, ◌∙◌, append-nil}
use Rattle.std.specs.Prelude.{filter}
use Rattle.std.proofs.lemmas.List.{map-append}
use Rattle.std.proofs.lemmas.List.Elements.{All-push, filter-append}
use Rattle.device_lock.specs.declared.receipt.Receipt.{Receipt}
use Rattle.device_lock.specs.Locked.{IsReceiptOf}
use Rattle.line_threads.specs.Accounts.{AddsArrivals, IsAccount, event_of, own_events}
use Rattle.line_threads.specs.Scripts.{is_local}
use Rattle.cip_events.specs.Arrivals.{arrival_event}
use Rattle.cip_events.specs.declared.arrival.Arrival.{Arrival}
use Rattle.cip_events.specs.declared.arrival.Arrival.TheVariants as arrival
use Rattle.cip_events.specs.declared.event.Event.{Event}

own_one : (r : Receipt) → is_local r.event ≡ true → own_events (r ∷ []) ≡ r.event ∷ []
own_one r is = rw is refl

own_none : (r : Receipt) → is_local r.event ≡ false → own_events (r ∷ []) ≡ []
own_none r is = rw is refl

own_append : (xs ys : List Receipt) → own_events (xs ++ ys) ≡ own_events xs ++ own_events ys
own_append xs ys = ap (filter is_local) (map-append event_of xs ys) ∙ filter-append is_local (map event_of xs) (map event_of ys)

-- what arrives is no call of the application, and no time
arrivals_are_not_own : (arrival : Arrival) → is_local (arrival_event arrival) ≡ false
arrivals_are_not_own (arrival.Opened stream peer) = refl
arrivals_are_not_own (arrival.Frame stream bytes) = refl
arrivals_are_not_own (arrival.Cut stream) = refl
arrivals_are_not_own (arrival.Datagram peer bytes) = refl
arrivals_are_not_own (arrival.Inquiry peer bytes) = refl

pub adds_arrival : (k : ℕ) (old mid : List Receipt) (arrival : Arrival) (e : Event) (r : Receipt) → AddsArrivals k old mid → IsReceiptOf k e r → e ≡ arrival_event arrival → AddsArrivals k old (mid ++ r ∷ [])
adds_arrival k old mid arrival e r adds of is =
    let none : is_local r.event ≡ false = ap is_local (of.event_is ∙ is) ∙ arrivals_are_not_own arrival in
    record {
      own = own_append mid (r ∷ []) ∙ ap (λ xs. own_events mid ++ xs) (own_none r none) ∙ append-nil (own_events mid) ∙ adds.own;
      of = λ h. All-push (λ r. r.device ≡ k) mid r (adds.of h) of.device_is;
    }

pub account_more : (k : ℕ) (script : List Event) (old mid : List Receipt) (e : Event) (r : Receipt) → IsAccount k script old → AddsArrivals k old mid → IsReceiptOf k e r → is_local e ≡ true → IsAccount k (script ++ e ∷ []) (mid ++ r ∷ [])
account_more k script old mid e r account adds of is =
    record {
      own =
          own_append mid (r ∷ [])
          ∙ ap (λ xs. own_events mid ++ xs) (own_one r (ap is_local of.event_is ∙ is))
          ∙ ap (λ xs. xs ++ r.event ∷ []) (adds.own ∙ account.own)
          ∙ ap (λ x. script ++ x ∷ []) of.event_is;
      of = All-push (λ r. r.device ≡ k) mid r (adds.of account.of) of.device_is;
    }
