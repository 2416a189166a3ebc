-- Runs, one after another.
use Rattle.std.proofs.Common.{◌≡◌, inl, inr, ℕ, ◌+◌, List, [], ◌∷◌, ◌++◌, length, Ok, Err, refl, ap, ◌∙◌, sym, append_assoc, append-nil, length-append}
use Rattle.cip_events.specs.declared.event.Answer.{Answer}
use Rattle.cip_events.specs.declared.event.Event.{Event}
use Rattle.cip_events.specs.declared.event.StepFault.{StepFault}
use Rattle.cip_events.specs.Outcomes.{Follows}
use Rattle.cip_tables.specs.declared.table.DeviceTable.{DeviceTable}
use Rattle.cip_tables.specs.Run.{table_of, table_after}
use Rattle.cip_tables.specs.Step.{step}
use Rattle.udp_runner.specs.declared.fault.PortFault.{PortFault}
use Rattle.udp_runner.specs.declared.fault.RunFault.{RunFault}
use Rattle.udp_runner.specs.declared.fault.RunFault.TheVariants as run
use Rattle.udp_runner.specs.Outputs.{answer_sent, SendsSome}
use Rattle.udp_runner.specs.Tape.{Tape, with_sent}
use Rattle.udp_runner.specs.Turns.{Drives, Halts, Stops, all_sent, step_sent}

pub table_after-append : (t : DeviceTable) (xs ys : List Event) → table_after t (xs ++ ys) ≡ table_after (table_after t xs) ys
table_after-append t [] ys = refl
table_after-append t (x ∷ xs) ys = table_after-append (table_of t (step t x)) xs ys

pub all_sent-append : (t : DeviceTable) (xs ys : List Event) → all_sent t (xs ++ ys) ≡ all_sent t xs ++ all_sent (table_after t xs) ys
all_sent-append t [] ys = refl
all_sent-append t (x ∷ xs) ys =
    ap (λ os. step_sent (step t x) ++ os) (all_sent-append (table_of t (step t x)) xs ys)
    ∙ sym (append_assoc (step_sent (step t x)) (all_sent (table_of t (step t x)) xs) (all_sent (table_after t (x ∷ xs)) ys))

-- one event whose answer was sent
pub drives_one : (e : Event) (a : Answer) (old new : Tape) (t t' : DeviceTable) → step t e ≡ Ok (a, t') → new ≡ with_sent old (answer_sent a) → Drives (e ∷ []) 1 old new t t'
drives_one e a old new t t' is sent = record {
  sends = ap (λ (x : Tape). x.sent) sent ∙ ap (λ os. old.sent ++ os) (sym (append-nil (answer_sent a)) ∙ ap (λ r. step_sent r ++ []) (sym is));
  table = sym (ap (table_of t) is);
  counts = refl;
}

pub drives_more : (es fs : List Event) (n m : ℕ) (s s' s'' : Tape) (t t' t'' : DeviceTable) → Drives es n s s' t t' → Drives fs m s' s'' t' t'' → Drives (es ++ fs) (n + m) s s'' t t''
drives_more es fs n m s s' s'' t t' t'' a b = record {
  sends =
      b.sends
      ∙ ap (λ x. x ++ all_sent t' fs) a.sends
      ∙ append_assoc s.sent (all_sent t es) (all_sent t' fs)
      ∙ ap (λ x. s.sent ++ (all_sent t es ++ all_sent x fs)) a.table
      ∙ ap (λ x. s.sent ++ x) (sym (all_sent-append t es fs));
  table = b.table ∙ ap (λ x. table_after x fs) a.table ∙ sym (table_after-append t es fs);
  counts = ap (λ x. x + m) a.counts ∙ ap (λ x. length es + x) b.counts ∙ sym (length-append es fs);
}

-- what a fault leaves undone, with events behind it that do not come any more
pub halts_before : (fault : RunFault) (es fs : List Event) (s s' : Tape) (t t' : DeviceTable) → Halts fault es s s' t t' → Halts fault (es ++ fs) s s' t t'
halts_before (run.Port fault) es fs s s' t t' (inl none) = inl none
halts_before (run.Port fault) es fs s s' t t' (inr some) = inr (record { taken = some.taken; left = some.left ++ fs; parts = ap (λ xs. xs ++ fs) some.parts; sends = some.sends; table = some.table })
halts_before (run.Step fault) es fs s s' t t' at = record { refused = at.refused; left = at.left ++ fs; parts = ap (λ xs. xs ++ fs) at.parts; follows = at.follows; sends = at.sends }

-- a fault before the first event is done
pub stops_first : (fault : RunFault) (es : List Event) (s s' : Tape) (t t' : DeviceTable) → Halts fault es s s' t t' → Stops fault es s s' t t'
stops_first fault es s s' t t' halts = record { done = []; left = es; parts = refl; middle = s; sends = sym (append-nil s.sent); halts = halts }

-- nothing could be received
pub stops_receiving : (fault : PortFault) (es : List Event) (s s' : Tape) (t t' : DeviceTable) → s' ≡ s → t' ≡ t → Stops (run.Port fault) es s s' t t'
stops_receiving fault es s s' t t' sent table = stops_first (run.Port fault) es s s' t t' (inl (record { sends = sent; table = table }))

-- the device refused the event
pub stops_stepping : (fault : StepFault) (e : Event) (s s' : Tape) (t t' : DeviceTable) → Follows (step t e) t (Err fault) t' → s' ≡ s → Stops (run.Step fault) (e ∷ []) s s' t t'
stops_stepping fault e s s' t t' follows sent = stops_first (run.Step fault) (e ∷ []) s s' t t' (record { refused = e; left = []; parts = refl; follows = follows; sends = sent })

-- not all that the answer has sent was sent
pub stops_output : (fault : PortFault) (e : Event) (a : Answer) (s s' : Tape) (t t' : DeviceTable) → step t e ≡ Ok (a, t') → SendsSome s s' (answer_sent a) → Stops (run.Port fault) (e ∷ []) s s' t t'
stops_output fault e a s s' t t' is some =
    stops_first (run.Port fault) (e ∷ []) s s' t t'
    (inr (record { taken = e; left = []; parts = refl; sends = rw is some; table = sym (ap (table_of t) is) }))

-- events that do not come any more
pub stops_before : (fault : RunFault) (es fs : List Event) (s s' : Tape) (t t' : DeviceTable) → Stops fault es s s' t t' → Stops fault (es ++ fs) s s' t t'
stops_before fault es fs s s' t t' a = record {
  done = a.done;
  left = a.left ++ fs;
  parts = ap (λ xs. xs ++ fs) a.parts ∙ append_assoc a.done a.left fs;
  middle = a.middle;
  sends = a.sends;
  halts = halts_before fault a.left fs a.middle s' (table_after t a.done) t' a.halts;
}

-- events that were done before
pub stops_after : (fault : RunFault) (es fs : List Event) (n : ℕ) (s s' s'' : Tape) (t t' t'' : DeviceTable) → Drives es n s s' t t' → Stops fault fs s' s'' t' t'' → Stops fault (es ++ fs) s s'' t t''
stops_after fault es fs n s s' s'' t t' t'' a b = record {
  done = es ++ b.done;
  left = b.left;
  parts = ap (λ xs. es ++ xs) b.parts ∙ sym (append_assoc es b.done b.left);
  middle = b.middle;
  sends =
      b.sends
      ∙ ap (λ x. x ++ all_sent t' b.done) a.sends
      ∙ append_assoc s.sent (all_sent t es) (all_sent t' b.done)
      ∙ ap (λ x. s.sent ++ (all_sent t es ++ all_sent x b.done)) a.table
      ∙ ap (λ x. s.sent ++ x) (sym (all_sent-append t es b.done));
  halts = rw (table_after-append t es b.done, ← a.table) b.halts;
}
