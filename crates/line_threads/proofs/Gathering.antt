-- The workers' accounts, put together.
use Rattle.std.proofs.Common.{◌≡◌, List, [], ◌∷◌, ◌++◌, Ok, Err, Vec, Global, refl, ap, ◌∙◌, sym, append_assoc, append-nil}
use Rattle.device_lock.specs.declared.receipt.Receipt.{Receipt}
use Rattle.line_threads.specs.Lines.{Account, all_receipts}
use Rattle.line_threads.specs.declared.fault.LineFault.{LineFault}

pub all_receipts-append : (xs ys : List Account) → all_receipts (xs ++ ys) ≡ all_receipts xs ++ all_receipts ys
all_receipts-append [] ys = refl
all_receipts-append (Ok v ∷ xs) ys = ap (λ rs. v.items ++ rs) (all_receipts-append xs ys) ∙ sym (append_assoc v.items (all_receipts xs) (all_receipts ys))
all_receipts-append (Err f ∷ xs) ys = all_receipts-append xs ys

pub all_receipts_ok : (xs : List Account) (v : Vec Receipt Global) → all_receipts (xs ++ Ok v ∷ []) ≡ all_receipts xs ++ v.items
all_receipts_ok xs v = all_receipts-append xs (Ok v ∷ []) ∙ ap (λ rs. all_receipts xs ++ rs) (append-nil v.items)

pub all_receipts_err : (xs : List Account) (f : LineFault) → all_receipts (xs ++ Err f ∷ []) ≡ all_receipts xs
all_receipts_err xs f = all_receipts-append xs (Err f ∷ []) ∙ append-nil (all_receipts xs)
