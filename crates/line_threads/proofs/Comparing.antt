-- A line's histories, and the receipts of their devices.
use Rattle.std.proofs.Common.{◌≡◌, suc, List, [], ◌∷◌, ◌++◌, length, map, Vec, Global, refl, sym, ap, ◌∙◌, arith}
use Rattle.std.specs.Prelude.{All, filter}
use Rattle.std.proofs.lemmas.List.{map-append}
use Rattle.std.proofs.lemmas.List.Elements.{All-head, All-tail}
use Rattle.cip_events.specs.declared.event.Event.{Event}
use Rattle.cip_tables.specs.declared.table.Config.{Config}
use Rattle.device_lock.specs.declared.receipt.Receipt.{Receipt}
use Rattle.device_lock.specs.Histories.{HistoryValue}
use Rattle.settling.specs.Search.Histories.{config_in, configs_of}
use Rattle.line_threads.specs.Accounts.{own_in, HasItsReceipts}
use Rattle.line_threads.specs.Lines.{byte_of, ReportsScripts}
use Rattle.line_threads.specs.Scripts.{is_local, events_in}

pub more_configs : (old new : List HistoryValue) (history : HistoryValue) (configs : List Config) (config : Config) → new ≡ old ++ history ∷ [] → configs_of old ≡ configs → config_in history ≡ config → configs_of new ≡ configs ++ config ∷ []
more_configs old new history configs config is so_far next =
    ap configs_of is
    ∙ map-append config_in old (history ∷ [])
    ∙ ap (λ (l : List Config). l ++ config_in history ∷ []) so_far
    ∙ ap (λ (c : Config). configs ++ c ∷ []) next

lists_same : (x y : List Event) (xs ys : List (List Event)) → x ≡ y → xs ≡ ys → x ∷ xs ≡ y ∷ ys
lists_same x y xs ys one all = cc

-- where the receipts of each device are for its script, and for its history
pub own_is_scripts : (hs : List HistoryValue) (scripts : List (Vec Event Global)) (rs : List Receipt) → length scripts ≡ length hs → ReportsScripts (map byte_of (configs_of hs)) scripts rs → All (HasItsReceipts rs) hs → map own_in hs ≡ map events_in scripts
own_is_scripts [] [] rs many reports reported = refl
own_is_scripts [] (s ∷ ss) rs many reports reported = absurd (omega arith)
own_is_scripts (h ∷ hs) [] rs many reports reported = absurd (omega arith)
own_is_scripts (h ∷ hs) (s ∷ ss) rs many reports reported =
    lists_same (own_in h) (events_in s) (map own_in hs) (map events_in ss)
    (ap (filter is_local) (sym (All-head (HasItsReceipts rs) h hs reported)) ∙ reports 0 s (omega arith))
    (own_is_scripts hs ss rs (omega arith) (λ i script lt. reports (suc i) script (omega arith)) (All-tail (HasItsReceipts rs) h hs reported))
