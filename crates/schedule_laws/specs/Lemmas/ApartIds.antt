-- No O->T id of a connection is the T->O id of a connection.
use Rattle.std.proofs.Common.{◌≡◌, ◌≤◌, ◌⊎◌, inl, inr, ℕ, ◌+◌, List, [], ◌∷◌, ◌++◌, slice_get, Some, refl, sym, ◌∙◌, ap, subst, append-nil, arith, eqb-true}
use Rattle.std.specs.List.{AllByRecursion, Contains}
use Rattle.base_lemmas.specs.Lists.{found_passes}
use Rattle.cip_types.specs.Ids.{id_at}
use Rattle.cip_types.specs.declared.names.ConnId.{ConnId}
use Rattle.cip_events.specs.declared.event.Event.{Event}
use Rattle.cip_events.specs.declared.event.Event.TheVariants as event
use Rattle.adapter_table.specs.declared.table.AdapterTable.{AdapterTable}
use Rattle.adapter_table.specs.Newest.{was_opened_as}
use Rattle.cip_tables.specs.declared.table.DeviceTable.TheVariants.{Adapter}
use Rattle.cip_tables.specs.Whole.{ids_of}
use Rattle.segment_world.specs.World.{World}
use Rattle.device_laws.specs.Lemmas.Lists.{all_both, all_more}
use Rattle.device_laws.specs.Lemmas.Numbered.{one_number}
use Rattle.device_laws.specs.Lemmas.RowIds.{all_contained}
use Rattle.device_laws.specs.RowIds.{IsProduced, Came}
use Rattle.schedule_laws.specs.Ids.{AreDrawnApart}
use Rattle.schedule_laws.specs.Lives.{AreApart, HasNumber}
use Rattle.device_laws.specs.Productions.{end_at}
use Rattle.schedule_laws.specs.Chronicle.{Opened, opens_row, frame_opens}
use Rattle.schedule_laws.specs.Names.{IsOfGroup, IsOwn, IsEntry, HasEntry}
use Rattle.schedule_laws.specs.Lemmas.AdapterNames.{AdapterStep, OpensOne, Opens, frame_opening, drawn_found, requester_is, single_own}
use Rattle.schedule_laws.specs.Lemmas.Entries.{Later, Waits, entry_later, own_later, stays_blocks}
use Rattle.schedule_laws.specs.Lemmas.Found.{found_holds, all_contains}
use Rattle.schedule_laws.specs.Lemmas.Numbers.{IsOne, id_later, never_both, number_later, one_id}
use Rattle.schedule_laws.specs.Lemmas.OneProducer.{own_number}
use Rattle.schedule_laws.specs.Lemmas.Tests.{whole_blocks}
use Rattle.schedule_laws.specs.Lemmas.StreamActs.{EventArrives}

-- ---- pairs

abbrev pub Differ : Opened → Opened → Type 0
Differ e f = e.o_t_id.0 ≡ f.t_o_id.0 → ⊥

abbrev pub DifferFromAll : List Opened → Opened → Type 0
DifferFromAll opened e = AllByRecursion (Differ e) opened

abbrev pub IdsAreApart : List Opened → Type 0
IdsAreApart opened = AllByRecursion (DifferFromAll opened) opened

all_zip : (P Q R : Opened → Type 0) → ((e : Opened) → P e → Q e → R e) → (opened : List Opened) → AllByRecursion P opened → AllByRecursion Q opened → AllByRecursion R opened
all_zip P Q R both [] p q = tt
all_zip P Q R both (e ∷ opened) p q = (both e p.0 q.0, all_zip P Q R both opened p.1 q.1)

apart_with : (opened : List Opened) (g : Opened) → IdsAreApart opened → DifferFromAll opened g → AllByRecursion (λ (e : Opened). Differ e g) opened → Differ g g → IdsAreApart (opened ++ g ∷ [])
apart_with opened g old ahead behind own =
    all_both (DifferFromAll (opened ++ g ∷ [])) opened (g ∷ [])
    (all_zip (DifferFromAll opened) (λ (e : Opened). Differ e g) (DifferFromAll (opened ++ g ∷ [])) (λ e inner one. all_both (Differ e) opened (g ∷ []) inner (one, tt)) opened old behind)
    (all_both (Differ g) opened (g ∷ []) ahead (own, tt), tt)

-- ---- numbers

adapter_same : (w : World) (d : ℕ) (a b : AdapterTable) → slice_get w.tables d ≡ Some (Adapter a) → slice_get w.tables d ≡ Some (Adapter b) → a ≡ b
adapter_same w d a b one two = is a b (sym one ∙ two) where
  is : (a b : AdapterTable) → Some (Adapter a) ≡ Some (Adapter b) → a ≡ b
  is a b e = cc

-- no T->O id of an entry is an id that the adapter draws now
old_t_o : (w new : World) (device : ℕ) (t u v : AdapterTable) (n : ℕ) (f : Opened) → AreDrawnApart new → Later w new → slice_get w.tables device ≡ Some (Adapter t) → slice_get new.tables device ≡ Some (Adapter u) → slice_get w.tables f.row.device ≡ Some (Adapter v) → t.next_id ≤ n → HasNumber (Adapter u) n → IsOfGroup v f ⊎ IsOwn w f → f.t_o_id.0 ≡ (id_at u.ids n).0 → ⊥
old_t_o w new device t u v n f now later at after there from has (inl group) is =
    let stayed = later.tables f.row.device (Adapter v) there in
    let blocks = stays_blocks (Adapter v) stayed.table stayed.stays in
    let number = f.producer.number + 1 in
    let value : (id_at (ids_of stayed.table) (f.producer.number + 1)).0 ≡ (id_at u.ids n).0 =
    ap (λ (id : ConnId). id.0) (id_later (Adapter v) stayed.table number blocks group.has ∙ sym group.id) ∙ is in
    let one : IsOne f.row.device device (f.producer.number + 1) n =
    one_id new f.row.device device stayed.table (Adapter u) number n now.ids now.apart stayed.there after (number_later (Adapter v) stayed.table number blocks group.has) has value in
    let same : v ≡ t = adapter_same w device v t (ap (slice_get w.tables) (sym one.device) ∙ there) at in
    let next = ap (λ (x : AdapterTable). x.next_id) same in
    let which = one.number in
    absurd (omega (arith, group.drawn, next, which, from))
old_t_o w new device t u v n f now later at after there from has (inr own) is =
    let mine = own_later w new f later own in
    let s = mine.scanner in
    let id = mine.id in
    absurd (never_both new device f.slot.device u s.table n id.number now.apart after s.is has (own_number new f mine) (sym is ∙ id.is))

-- and no O->T id
old_o_t : (w new : World) (opened : List Opened) (device : ℕ) (t u : AdapterTable) (n : ℕ) (e : Opened) → AreDrawnApart new → Later w new → slice_get w.tables device ≡ Some (Adapter t) → slice_get new.tables device ≡ Some (Adapter u) → t.next_id ≤ n → HasNumber (Adapter u) n → IsEntry w opened e → e.o_t_id.0 ≡ (id_at u.ids n).0 → ⊥
old_o_t w new opened device t u n e now later at after from has entry is =
    let stayed = later.tables e.row.device (Adapter entry.table) entry.there in
    let blocks = stays_blocks (Adapter entry.table) stayed.table stayed.stays in
    let value : (id_at (ids_of stayed.table) e.row.number).0 ≡ (id_at u.ids n).0 =
    ap (λ (id : ConnId). id.0) (id_later (Adapter entry.table) stayed.table e.row.number blocks entry.has ∙ sym entry.id) ∙ is in
    let one : IsOne e.row.device device e.row.number n =
    one_id new e.row.device device stayed.table (Adapter u) e.row.number n now.ids now.apart stayed.there after (number_later (Adapter entry.table) stayed.table e.row.number blocks entry.has) has value in
    let same : entry.table ≡ t = adapter_same w device entry.table t (ap (slice_get w.tables) (sym one.device) ∙ entry.there) at in
    let next = ap (λ (x : AdapterTable). x.next_id) same in
    let which = one.number in
    absurd (omega (arith, entry.drawn, next, which, from))

-- a scanner's id is no O->T id
own_o_t : (w : World) (opened : List Opened) (e f : Opened) → AreApart w.tables → IsEntry w opened e → IsOwn w f → Differ e f
own_o_t w opened e f apart entry own is =
    let id = own.id in
    let s = own.scanner in
    never_both w e.row.device f.slot.device entry.table s.table e.row.number id.number apart entry.there s.is entry.has (own_number w f own) (sym (ap (λ (x : ConnId). x.0) entry.id) ∙ is ∙ id.is)

-- ---- a new entry

-- the ids that the new entry has
record HasDrawn (t u : AdapterTable) (e : Opened) : Type 0 where
  o_t : e.o_t_id.0 ≡ (id_at u.ids t.next_id).0
  has : HasNumber (Adapter u) t.next_id

-- no entry has its O->T id as T->O id
ahead_of : (w new : World) (opened : List Opened) (device : ℕ) (t u : AdapterTable) (g : Opened) → AreDrawnApart new → AdapterStep w new opened device t u → HasDrawn t u g → DifferFromAll opened g
ahead_of w new opened device t u g now step has =
    all_more (IsEntry w opened) (Differ g) (λ f is one_is. old_t_o w new device t u is.table t.next_id f now step.later step.at step.after is.there (omega arith) has.has is.t_o (sym one_is ∙ has.o_t)) opened step.entries

new_apart : (w new : World) (opened : List Opened) (device : ℕ) (t u : AdapterTable) (n : ℕ) (bytes : List ℕ) (other : ℕ) (more : List Opened) → AreDrawnApart new → AdapterStep w new opened device t u → IdsAreApart opened → Waits w opened other device bytes → (one : OpensOne w device t u n bytes other more) → HasDrawn t u one.entry → IsProduced t u one.request one.row → IdsAreApart (opened ++ one.entry ∷ [])
new_apart w new opened device t u n bytes other more now step old waits one has (inl joins) =
    let named = step.named in
    let m : HasEntry w opened device joins.member = all_contains (HasEntry w opened device) t.rows joins.member named.rows joins.there in
    let there : Contains opened m.entry = found_holds (Contains opened) (opens_row (end_at device joins.member.opening)) opened m.entry (all_contained opened [] opened refl) m.found in
    let same : one.entry.t_o_id ≡ m.entry.t_o_id = one.t_o ∙ joins.t_o ∙ sym m.t_o in
    let number = ap (λ (x : ConnId). x.0) same in
    let ahead = ahead_of w new opened device t u one.entry now step has in
    apart_with opened one.entry old ahead
    (all_more (DifferFromAll opened) (λ (e : Opened). Differ e one.entry) (λ e differ is. all_contains (Differ e) opened m.entry differ there (is ∙ number)) opened old)
    (λ is. all_contains (Differ one.entry) opened m.entry ahead there (is ∙ number))
new_apart w new opened device t u n bytes other more now step old waits one has (inr (inl starts)) =
    let value : one.entry.t_o_id.0 ≡ (id_at u.ids (t.next_id + 1)).0 = ap (λ (x : ConnId). x.0) (one.t_o ∙ starts.t_o) in
    let below = starts.drawn in
    let left = step.next_left in
    let second : HasNumber (Adapter u) (t.next_id + 1) = record { begins = omega arith; ends = omega (arith, below, left) } in
    let first = has.has in
    let ids = now.ids in
    apart_with opened one.entry old (ahead_of w new opened device t u one.entry now step has)
    (all_more (IsEntry w opened) (λ (e : Opened). Differ e one.entry) (λ e is one_is. old_o_t w new opened device t u (t.next_id + 1) e now step.later step.at step.after (omega arith) second is (one_is ∙ value)) opened step.entries)
    (λ is.
    let both : t.next_id ≡ t.next_id + 1 =
    one_number u.ids t.next_id (t.next_id + 1) (whole_blocks (Adapter u) (ids.whole device (Adapter u) step.after)) first.begins first.ends second.begins second.ends (sym has.o_t ∙ is ∙ value) in
    absurd (omega (arith, both)))
new_apart w new opened device t u n bytes other more now step old waits one has (inr (inr single)) =
    let sender = waits.sender in
    let scanner = requester_is w opened other device bytes one.request sender.table sender.is waits one.requested in
    let own : IsOwn new one.entry = own_later w new one.entry step.later (single_own w opened device t u n bytes other more waits scanner one single) in
    let id = own.id in
    let s = own.scanner in
    apart_with opened one.entry old (ahead_of w new opened device t u one.entry now step has)
    (all_more (IsEntry w opened) (λ (e : Opened). Differ e one.entry) (λ e is. own_o_t new (opened ++ []) e one.entry now.apart (entry_later w new opened [] e step.later is) own) opened step.entries)
    (λ is. never_both new device one.entry.slot.device u s.table t.next_id id.number now.apart step.after s.is has.has (own_number new one.entry own) (sym has.o_t ∙ is ∙ id.is))

has_drawn : (w new : World) (opened : List Opened) (device : ℕ) (t u : AdapterTable) (n : ℕ) (bytes : List ℕ) (other : ℕ) (more : List Opened) → AdapterStep w new opened device t u → (one : OpensOne w device t u n bytes other more) → HasDrawn t u one.entry
has_drawn w new opened device t u n bytes other more step one =
    let row = one.row in
    let opening : row.opening ≡ t.next_id = eqb-true row.opening t.next_id (found_passes (was_opened_as t.next_id) u.rows row one.found) in
    let drawn = drawn_found u (was_opened_as t.next_id) row one.found step.next_drawn in
    let below = drawn.below in
    let left = step.next_left in
    record {
      o_t = ap (λ (x : ConnId). x.0) (one.o_t ∙ drawn.id ∙ ap (id_at u.ids) opening);
      has = subst (HasNumber (Adapter u)) opening (record { begins = drawn.begins; ends = omega (arith, below, left) });
    }

opens_apart : (w new : World) (opened : List Opened) (device : ℕ) (t u : AdapterTable) (n : ℕ) (bytes : List ℕ) (other : ℕ) (more : List Opened) → AreDrawnApart new → AdapterStep w new opened device t u → IdsAreApart opened → Waits w opened other device bytes → Opens w device t u n bytes other more → IdsAreApart (opened ++ more)
opens_apart w new opened device t u n bytes other more now step old waits (inl none) = subst (λ (l : List Opened). IdsAreApart (opened ++ l)) (sym none.none) (subst IdsAreApart (sym (append-nil opened)) old)
opens_apart w new opened device t u n bytes other more now step old waits (inr one) =
    subst (λ (l : List Opened). IdsAreApart (opened ++ l)) (sym one.more_is)
    (new_apart w new opened device t u n bytes other more now step old waits one (has_drawn w new opened device t u n bytes other more step one) one.produced)

nothing_opens : (opened : List Opened) → IdsAreApart opened → IdsAreApart (opened ++ [])
nothing_opens opened old = subst IdsAreApart (sym (append-nil opened)) old

-- ids stay apart after an event of an adapter
pub adapter_apart : (w new : World) (opened : List Opened) (device : ℕ) (t u : AdapterTable) (happens : Event) → AreDrawnApart new → AdapterStep w new opened device t u → IdsAreApart opened → EventArrives (Waits w opened) w device happens → Came t u happens → IdsAreApart (opened ++ frame_opens w device (Adapter t) happens (Adapter u))
adapter_apart w new opened device t u (event.Frame n bytes) now step old comes came =
    opens_apart w new opened device t u n bytes comes.other (frame_opens w device (Adapter t) (event.Frame n bytes) (Adapter u)) now step old comes.holds
    (frame_opening w device t u n bytes comes.other comes.over step.drawn came.rows)
adapter_apart w new opened device t u (event.Request peer bytes) now step old comes came = absurd comes
adapter_apart w new opened device t u other now step old comes came = nothing_opens opened old
