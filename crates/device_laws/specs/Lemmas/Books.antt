-- What a producer says of the productions that were made: its next number and count, and the data of the newest.
use Rattle.std.proofs.Common.{◌≡◌, ◌≢◌, ◌≤◌, ℕ, ◌+◌, ◌%◌, ◌^◌, ◌==◌, Bool, true, false, cond, List, [], ◌∷◌, ◌++◌, count_by, ◌⊎◌, inl, inr, refl, sym, ◌∙◌, ap, arith, eqb-true, eq-eqb}
use Rattle.std.specs.List.{AllByRecursion}
use Rattle.std.proofs.lemmas.Bool.{and_parts, and_left}
use Rattle.cip_types.specs.declared.names.Ms.{Ms}
use Rattle.cip_productions.specs.declared.production.Production as cip
use Rattle.cip_productions.specs.Productions.{next_count, produced}
use Rattle.device_laws.specs.Made.{Made}
use Rattle.device_laws.specs.Productions.{End, end_at, is_end, Production, is_by, is_new_data_by, numbered}
use Rattle.device_laws.specs.Productions.{IsNumbered}
use Rattle.device_laws.specs.Lemmas.Lists.{all_more}
use Rattle.device_laws.specs.Lemmas.ListCounts.{Has, has_last, all_has, all_last, count_last, count_none}

-- ---- ends

pub end_is : (a b : End) → is_end a b ≡ true → b ≡ a
end_is a b is = let both = and_parts (b.device == a.device) _ is in cc_end a b (eqb-true b.device a.device both.0) (eqb-true b.number a.number both.1)
  where
    cc_end : (a b : End) → b.device ≡ a.device → b.number ≡ a.number → b ≡ a
    cc_end a b one two = ap (λ (d : ℕ). end_at d b.number) one ∙ ap (λ (n : ℕ). end_at a.device n) two

pub is_the_end : (a b : End) → b ≡ a → is_end a b ≡ true
is_the_end a b is = rw is (rw (eq-eqb a.device a.device refl, eq-eqb a.number a.number refl) refl)

pub other_step : (c : Bool) (a b : End) → b ≢ a → is_end a b ≡ c → is_end a b ≡ false
other_step true a b ne is = absurd (ne (end_is a b is))
other_step false a b ne is = is

pub is_other : (a b : End) → b ≢ a → is_end a b ≡ false
is_other a b ne = other_step (is_end a b) a b ne refl

-- ---- what was produced

-- the production is another producer's
abbrev pub IsOther : End → Production → Type 0
IsOther e q = q.producer ≢ e

-- nothing was produced by it
abbrev pub HasNotProduced : List Production → End → Type 0
HasNotProduced sent e = AllByRecursion (IsOther e) sent

-- A production of the producer is no newer than its count; and where its data were not written since, those of the newest
-- are its data.
pub record IsCurrent (e : End) (new_data : ℕ) (written : Bool) (kept : List ℕ) (q : Production) : Type 0 where
  pub le : q.producer ≡ e → q.new_data ≤ new_data
  pub same : q.producer ≡ e → written ≡ false → q.new_data ≡ new_data → q.made.datagram.payload ≡ kept

-- the producer's next number and count follow from what it made, and its data
pub record ProducerBooks (sent : List Production) (e : End) (p : cip.Production) (kept : List ℕ) : Type 0 where
  pub sequence : p.sequence ≡ (count_by (is_by e) sent + 1) % 2 ^ 32
  pub count : p.count ≡ count_by (is_new_data_by e) sent % 2 ^ 16
  pub current : AllByRecursion (IsCurrent e (count_by (is_new_data_by e) sent) p.written kept) sent

-- equal new-data indexes of one producer have equal data
abbrev pub Agree : List Production → Type 0
Agree sent = (p q : Production) → Has p sent → Has q sent → p.producer ≡ q.producer → p.new_data ≡ q.new_data → p.made.datagram.payload ≡ q.made.datagram.payload

pub record WellMade (sent : List Production) : Type 0 where
  pub numbered : AllByRecursion IsNumbered sent
  pub agree : Agree sent

-- ---- a producer that begins

unproduced_by : (e : End) (q : Production) → IsOther e q → is_by e q ≡ false
unproduced_by e q other = is_other e q.producer other

unproduced_new_data : (e : End) (q : Production) → IsOther e q → is_new_data_by e q ≡ false
unproduced_new_data e q other = and_left (is_by e q) q.made.is_new_data (unproduced_by e q other)

pub none_by : (sent : List Production) (e : End) → HasNotProduced sent e → count_by (is_by e) sent ≡ 0
none_by sent e unproduced = count_none (is_by e) sent (all_more (IsOther e) (λ q. is_by e q ≡ false) (unproduced_by e) sent unproduced)

pub none_new_data : (sent : List Production) (e : End) → HasNotProduced sent e → count_by (is_new_data_by e) sent ≡ 0
none_new_data sent e unproduced = count_none (is_new_data_by e) sent (all_more (IsOther e) (λ q. is_new_data_by e q ≡ false) (unproduced_new_data e) sent unproduced)

pub begun : (sent : List Production) (e : End) (p : cip.Production) (kept : List ℕ) → p.sequence ≡ 1 → p.count ≡ 0 → HasNotProduced sent e → ProducerBooks sent e p kept
begun sent e p kept one none unproduced = record {
  sequence = rw (none_by sent e unproduced) one;
  count = rw (none_new_data sent e unproduced) none;
  current = all_more (IsOther e) (IsCurrent e (count_by (is_new_data_by e) sent) p.written kept) (λ q other. record { le = λ is. absurd (other is); same = λ is never new_data. absurd (other is) }) sent unproduced;
}

-- ---- a producer whose data change, or that stays

written_current : (e : End) (new_data : ℕ) (written : Bool) (kept more : List ℕ) (q : Production) → IsCurrent e new_data written kept q → IsCurrent e new_data true more q
written_current e new_data written kept more q ok = record { le = ok.le; same = λ is never new_data. absurd (let h = never in cc) }

-- new data stand there
pub rewritten : (sent : List Production) (e : End) (p : cip.Production) (kept more : List ℕ) → ProducerBooks sent e p kept → ProducerBooks sent e (record p { written = true }) more
rewritten sent e p kept more ok = record {
  sequence = ok.sequence;
  count = ok.count;
  current = all_more (IsCurrent e (count_by (is_new_data_by e) sent) p.written kept) (IsCurrent e (count_by (is_new_data_by e) sent) true more) (written_current e (count_by (is_new_data_by e) sent) p.written kept more) sent ok.current;
}

-- ---- another producer produces

pub unproduced_more : (sent : List Production) (e : End) (device : ℕ) (m : Made) → end_at device m.number ≢ e → HasNotProduced sent e → HasNotProduced (sent ++ numbered device sent m ∷ []) e
unproduced_more sent e device m other unproduced = all_last (IsOther e) sent (numbered device sent m) unproduced other

same_by : (sent : List Production) (e : End) (q : Production) → q.producer ≢ e → count_by (is_by e) (sent ++ q ∷ []) ≡ count_by (is_by e) sent
same_by sent e q other = count_last (is_by e) sent q false (unproduced_by e q other) ∙ omega arith

same_new_data : (sent : List Production) (e : End) (q : Production) → q.producer ≢ e → count_by (is_new_data_by e) (sent ++ q ∷ []) ≡ count_by (is_new_data_by e) sent
same_new_data sent e q other = count_last (is_new_data_by e) sent q false (unproduced_new_data e q other) ∙ omega arith

pub books_other : (sent : List Production) (e : End) (p : cip.Production) (kept : List ℕ) (device : ℕ) (m : Made) → end_at device m.number ≢ e → ProducerBooks sent e p kept → ProducerBooks (sent ++ numbered device sent m ∷ []) e p kept
books_other sent e p kept device m other ok =
    let q = numbered device sent m in
    record {
      sequence = rw (same_by sent e q other) ok.sequence;
      count = rw (same_new_data sent e q other) ok.count;
      current = rw (same_new_data sent e q other) (all_last (IsCurrent e (count_by (is_new_data_by e) sent) p.written kept) sent q ok.current (record { le = λ is. absurd (other is); same = λ is never new_data. absurd (other is) }));
    }

-- ---- the producer produces

next_sequence : (n m : ℕ) → m ≡ (n + 1) % 2 ^ 32 → (m + 1) % 2 ^ 32 ≡ (n + 1 + 1) % 2 ^ 32
next_sequence n m is = omega arith

next_count_is : (b : Bool) (n m : ℕ) → m ≡ n % 2 ^ 16 → cond b ((m + 1) % 2 ^ 16) m ≡ (n + cond b 1 0) % 2 ^ 16
next_count_is true n m is = omega arith
next_count_is false n m is = let same : n + 0 ≡ n = omega arith in rw same is

-- what a production is of the producer with these books
pub record IsOwn (device : ℕ) (e : End) (p : cip.Production) (kept : List ℕ) (m : Made) : Type 0 where
  pub end : end_at device m.number ≡ e
  pub is_new_data : m.is_new_data ≡ p.written
  pub sequence : m.datagram.sequence ≡ p.sequence
  pub count : m.datagram.count ≡ next_count p
  pub payload : m.datagram.payload ≡ kept

own_by : (e : End) (q : Production) → q.producer ≡ e → is_by e q ≡ true
own_by e q is = is_the_end e q.producer is

own_new_data : (e : End) (q : Production) → q.producer ≡ e → is_new_data_by e q ≡ q.made.is_new_data
own_new_data e q is = rw (own_by e q is) refl

more_by : (sent : List Production) (e : End) (q : Production) → q.producer ≡ e → count_by (is_by e) (sent ++ q ∷ []) ≡ count_by (is_by e) sent + 1
more_by sent e q is = count_last (is_by e) sent q true (own_by e q is)

more_new_data : (sent : List Production) (e : End) (q : Production) → q.producer ≡ e → count_by (is_new_data_by e) (sent ++ q ∷ []) ≡ count_by (is_new_data_by e) sent + cond q.made.is_new_data 1 0
more_new_data sent e q is = count_last (is_new_data_by e) sent q q.made.is_new_data (own_new_data e q is)

-- an earlier production with the new one's new-data index holds the same
earlier_same : (b : Bool) (new_data : ℕ) (e : End) (kept : List ℕ) (q : Production) → IsCurrent e new_data b kept q → q.producer ≡ e → q.new_data ≡ new_data + cond b 1 0 → q.made.datagram.payload ≡ kept
earlier_same true new_data e kept q ok is at = absurd (let le = ok.le is in omega (arith, le, at))
earlier_same false new_data e kept q ok is at = ok.same is refl (omega (arith, at))

old_current : (b : Bool) (new_data : ℕ) (e : End) (kept : List ℕ) (q : Production) → IsCurrent e new_data b kept q → IsCurrent e (new_data + cond b 1 0) false kept q
old_current b new_data e kept q ok = record {
  le = λ is. let le = ok.le is in omega (arith, le);
  same = λ is never at. earlier_same b new_data e kept q ok is at;
}

pub books_own : (sent : List Production) (e : End) (p : cip.Production) (kept : List ℕ) (device : ℕ) (m : Made) (clock : Ms) (api : ℕ) → IsOwn device e p kept m → ProducerBooks sent e p kept → ProducerBooks (sent ++ numbered device sent m ∷ []) e (produced clock api p) kept
books_own sent e p kept device m clock api own ok =
    let q = numbered device sent m in
    let n = count_by (is_new_data_by e) sent in
    let new_data : count_by (is_new_data_by e) (sent ++ q ∷ []) ≡ n + cond p.written 1 0 = more_new_data sent e q own.end ∙ ap (λ (b : Bool). n + cond b 1 0) own.is_new_data in
    let here : q.new_data ≡ n + cond p.written 1 0 = ap (λ (x : End). count_by (is_new_data_by x) sent + cond m.is_new_data 1 0) own.end ∙ ap (λ (b : Bool). n + cond b 1 0) own.is_new_data in
    record {
      sequence = rw (more_by sent e q own.end) (next_sequence (count_by (is_by e) sent) p.sequence ok.sequence);
      count = rw new_data (next_count_is p.written n p.count ok.count);
      current = rw new_data (all_last (IsCurrent e (n + cond p.written 1 0) false kept) sent q
          (all_more (IsCurrent e n p.written kept) (IsCurrent e (n + cond p.written 1 0) false kept) (old_current p.written n e kept) sent ok.current)
          (record { le = λ is. rw here (omega arith); same = λ is never at. own.payload }));
    }

-- ---- the list of all that was sent

pub own_numbered : (sent : List Production) (e : End) (p : cip.Production) (kept : List ℕ) (device : ℕ) (m : Made) → IsOwn device e p kept m → ProducerBooks sent e p kept → IsNumbered (numbered device sent m)
own_numbered sent e p kept device m own ok =
    let n = count_by (is_new_data_by e) sent in
    record {
      sequence = own.sequence ∙ ok.sequence ∙ sym (ap (λ (x : End). (count_by (is_by x) sent + 1) % 2 ^ 32) own.end);
      count = own.count ∙ next_count_is p.written n p.count ok.count ∙ sym (ap (λ (x : End). (count_by (is_new_data_by x) sent + cond m.is_new_data 1 0) % 2 ^ 16) own.end ∙ ap (λ (b : Bool). (n + cond b 1 0) % 2 ^ 16) own.is_new_data);
    }

own_agrees : (sent : List Production) (e : End) (p : cip.Production) (kept : List ℕ) (device : ℕ) (m : Made) → IsOwn device e p kept m → ProducerBooks sent e p kept → (q : Production) → Has q sent → q.producer ≡ end_at device m.number → q.new_data ≡ (numbered device sent m).new_data → q.made.datagram.payload ≡ m.datagram.payload
own_agrees sent e p kept device m own ok q has same at =
    let n = count_by (is_new_data_by e) sent in
    let here : (numbered device sent m).new_data ≡ n + cond p.written 1 0 = ap (λ (x : End). count_by (is_new_data_by x) sent + cond m.is_new_data 1 0) own.end ∙ ap (λ (b : Bool). n + cond b 1 0) own.is_new_data in
    earlier_same p.written n e kept q (all_has (IsCurrent e n p.written kept) sent q ok.current has) (same ∙ own.end) (at ∙ here) ∙ sym own.payload

pub well_more : (sent : List Production) (e : End) (p : cip.Production) (kept : List ℕ) (device : ℕ) (m : Made) → IsOwn device e p kept m → ProducerBooks sent e p kept → WellMade sent → WellMade (sent ++ numbered device sent m ∷ [])
well_more sent e p kept device m own ok well = record {
  numbered = all_last IsNumbered sent new well.numbered (own_numbered sent e p kept device m own ok);
  agree = λ a b has_a has_b same at. pair a b same at (has_last a new sent has_a) (has_last b new sent has_b);
}
  where
    new : Production
    new = numbered device sent m

    pair : (a b : Production) → a.producer ≡ b.producer → a.new_data ≡ b.new_data → Has a sent ⊎ (new ≡ a) → Has b sent ⊎ (new ≡ b) → a.made.datagram.payload ≡ b.made.datagram.payload
    pair a b same at (inl one) (inl two) = well.agree a b one two same at
    pair a b same at (inl one) (inr two) = own_agrees sent e p kept device m own ok a one (same ∙ sym (ap (λ (x : Production). x.producer) two)) (at ∙ sym (ap (λ (x : Production). x.new_data) two)) ∙ ap (λ (x : Production). x.made.datagram.payload) two
    pair a b same at (inr one) (inl two) = sym (own_agrees sent e p kept device m own ok b two (sym same ∙ sym (ap (λ (x : Production). x.producer) one)) (sym at ∙ sym (ap (λ (x : Production). x.new_data) one)) ∙ ap (λ (x : Production). x.made.datagram.payload) one)
    pair a b same at (inr one) (inr two) = ap (λ (x : Production). x.made.datagram.payload) (sym one ∙ two)
