-- Numbers that are read are those that were written; what was written is read again; what does not read lacks bytes.
use Rattle.std.proofs.Common.{◌≡◌, ℕ, zero, suc, ◌+◌, ◌-◌, ◌%◌, ◌^◌, ◌<◌, ◌≤◌, Bool, true, false, cond, ltb, List, [], ◌∷◌, ◌++◌, length, get_or, take, drop, replicate, Option, Some, None, refl, sym, ap, subst, ◌∙◌, append_assoc, arith, inl, inr, ◌⊎◌}
use Rattle.std.specs.Int.{Width, w8, w16, w32, w64, w128, byte_len, from_le_bytes, to_le_bytes}
use Rattle.std.specs.List.{AllByRecursion}
use Rattle.std.proofs.lemmas.Bool.{cases_lt, ltb-true, ltb-false, le-ltb}
use Rattle.std.proofs.lemmas.List.{take_at, drop_at, take-append-drop, length-append, length-take, get_or-drop, get_or-take, get_or_past, length-replicate}
use Rattle.std.proofs.lemmas.Nat.{le_bytes_2, le_bytes_4, from_le_bytes-to_le_bytes_2, from_le_bytes-to_le_bytes_4}
use Rattle.cip_types.specs.Fields.{fields_text, AreFields, field_at, then_at, fields_at}

abbrev pub IsBytes : List ℕ → Type 0
IsBytes bs = (i : ℕ) → get_or bs i 0 < 256

pub IsBytes-drop : (n : ℕ) (bs : List ℕ) → IsBytes bs → IsBytes (drop n bs)
IsBytes-drop n bs h i = rw get_or-drop (h (n + i))

pub IsBytes-take : (n : ℕ) (bs : List ℕ) → IsBytes bs → IsBytes (take n bs)
IsBytes-take n bs h i =
    elim (cases_lt i n) [
      | inl lt ↦ rw (get_or-take n bs i 0 lt) (h i)
      | inr le ↦ rw (get_or_past (take n bs) i 0 (omega (arith, length-take n bs))) (omega arith)
    ]

pub record IsWide (w : Width) : Type 0 where
  pub some : 0 < byte_len w
  pub len : (n : ℕ) → length (to_le_bytes w n) ≡ byte_len w
  pub back : (bs : List ℕ) → length bs ≡ byte_len w → IsBytes bs → to_le_bytes w (from_le_bytes w bs) ≡ bs
  pub again : (n : ℕ) → n < 256 ^ byte_len w → from_le_bytes w (to_le_bytes w n) ≡ n
  pub below : (bs : List ℕ) → IsBytes bs → from_le_bytes w bs < 256 ^ byte_len w

back_8 : (bs : List ℕ) → length bs ≡ 1 → IsBytes bs → to_le_bytes w8 (from_le_bytes w8 bs) ≡ bs
back_8 [] len fits = absurd (omega arith)
back_8 (b ∷ []) len fits = let small : b % 256 ≡ b = omega (arith, fits 0) in ap (λ (n : ℕ). n ∷ []) small
back_8 (b ∷ c ∷ bs) len fits = absurd (omega arith)

pub wide8 : IsWide w8
wide8 = record {
  some = omega arith;
  len = λ n. refl;
  back = back_8;
  again = λ n lt. omega arith;
  below = λ bs fits. omega (arith, fits 0);
}

pub wide16 : IsWide w16
wide16 = record {
  some = omega arith;
  len = λ n. refl;
  back = λ bs len fits. le_bytes_2 bs _ len fits refl;
  again = λ n lt. from_le_bytes-to_le_bytes_2 n lt;
  below = λ bs fits. omega (arith, fits 0, fits 1);
}

pub wide32 : IsWide w32
wide32 = record {
  some = omega arith;
  len = λ n. refl;
  back = λ bs len fits. le_bytes_4 bs _ len fits refl;
  again = λ n lt. from_le_bytes-to_le_bytes_4 n lt;
  below = λ bs fits. omega (arith, fits 0, fits 1, fits 2, fits 3);
}

-- what a reader took from the front
pub record Takes (bs text rest : List ℕ) : Type 0 where
  pub parts : bs ≡ text ++ rest
  pub rest_fits : IsBytes rest

abbrev some_is : {A : Type 0} → A → Option A
some_is x = Some x

pub inside : {A : Type 0} (x y : A) → some_is x ≡ some_is y → x ≡ y
inside x y e = cc

pub then_some : {A B : Type 0} (r : Option (A × List ℕ)) (next : A → List ℕ → Option (B × List ℕ)) (y : B × List ℕ) → then_at r next ≡ Some y → (x : A × List ℕ) × (r ≡ Some x) × (next x.0 x.1 ≡ Some y)
then_some None next y e = absurd cc
then_some (Some x) next y e = (x, refl, e)

pub then_none : {A B : Type 0} (r : Option (A × List ℕ)) (next : A → List ℕ → Option (B × List ℕ)) → then_at r next ≡ None → (r ≡ None) ⊎ ((x : A × List ℕ) × (r ≡ Some x) × (next x.0 x.1 ≡ None))
then_none None next e = inl refl
then_none (Some x) next e = inr (x, refl, e)

some_cond : {A : Type 0} (b : Bool) (x y : A) → cond b None (Some x) ≡ Some y → (b ≡ false) × (x ≡ y)
some_cond true x y e = absurd cc
some_cond false x y e = (refl, inside x y e)

none_cond : {A : Type 0} (b : Bool) (x : A) → cond b None (Some x) ≡ None → b ≡ true
none_cond true x e = refl
none_cond false x e = absurd cc

pub field_taken : (w : Width) → IsWide w → (bs : List ℕ) (n : ℕ) (rest : List ℕ) → IsBytes bs → field_at w bs ≡ Some (n, rest) → Takes bs (to_le_bytes w n) rest × (n < 256 ^ byte_len w)
field_taken w wide bs n rest fits e =
    let g = some_cond (ltb (length bs) (byte_len w)) (from_le_bytes w (take (byte_len w) bs), drop (byte_len w) bs) (n, rest) e in
    let long : byte_len w ≤ length bs = ltb-false _ _ g.0 in
    let n-is : from_le_bytes w (take (byte_len w) bs) ≡ n = ap (λ (p : ℕ × List ℕ). p.0) g.1 in
    let rest-is : drop (byte_len w) bs ≡ rest = ap (λ (p : ℕ × List ℕ). p.1) g.1 in
    let front : to_le_bytes w n ≡ take (byte_len w) bs = rw (← n-is) (wide.back (take (byte_len w) bs) (omega (arith, length-take (byte_len w) bs)) (IsBytes-take (byte_len w) bs fits)) in
    (record { parts = rw (front, ← rest-is) (sym (take-append-drop (byte_len w) bs)); rest_fits = rw (← rest-is) (IsBytes-drop (byte_len w) bs fits) }, rw (← n-is) (wide.below (take (byte_len w) bs) (IsBytes-take (byte_len w) bs fits)))

pub field_again : (w : Width) → IsWide w → (n : ℕ) (rest : List ℕ) → n < 256 ^ byte_len w → field_at w (to_le_bytes w n ++ rest) ≡ Some (n, rest)
field_again w wide n rest lt =
    let len = wide.len n in
    let long : ltb (length (to_le_bytes w n ++ rest)) (byte_len w) ≡ false = le-ltb _ _ (omega (arith, length-append (to_le_bytes w n) rest)) in
    rw (long, take_at (to_le_bytes w n) rest (byte_len w) len, drop_at (to_le_bytes w n) rest (byte_len w) len, wide.again n lt) refl

pub fields_taken : (ws : List Width) → AllByRecursion IsWide ws → (bs ns rest : List ℕ) → IsBytes bs → fields_at ws bs ≡ Some (ns, rest) → Takes bs (fields_text ws ns) rest × AreFields ws ns
fields_taken [] wide bs ns rest fits e =
    subst (λ (y : List ℕ × List ℕ). Takes bs (fields_text [] y.0) y.1 × AreFields [] y.0) (inside ([], bs) (ns, rest) e) (record { parts = refl; rest_fits = fits }, tt)
fields_taken (w ∷ ws) wide bs ns rest fits e =
    let a = then_some (field_at w bs) (λ n after. then_at (fields_at ws after) (λ ms end. Some (n ∷ ms, end))) (ns, rest) e in
    let b = then_some (fields_at ws a.0.1) (λ ms end. Some (a.0.0 ∷ ms, end)) (ns, rest) a.2 in
    let first = field_taken w wide.0 bs a.0.0 a.0.1 fits a.1 in
    let others = fields_taken ws wide.1 a.0.1 b.0.0 b.0.1 first.0.rest_fits b.1 in
    let parts : bs ≡ (to_le_bytes w a.0.0 ++ fields_text ws b.0.0) ++ b.0.1 = first.0.parts ∙ ap (λ (x : List ℕ). to_le_bytes w a.0.0 ++ x) others.0.parts ∙ sym (append_assoc (to_le_bytes w a.0.0) (fields_text ws b.0.0) b.0.1) in
    subst (λ (y : List ℕ × List ℕ). Takes bs (fields_text (w ∷ ws) y.0) y.1 × AreFields (w ∷ ws) y.0) (inside (a.0.0 ∷ b.0.0, b.0.1) (ns, rest) b.2)
    (record { parts = parts; rest_fits = others.0.rest_fits }, (first.1, others.1))

pub fields_again : (ws : List Width) → AllByRecursion IsWide ws → (ns rest : List ℕ) → AreFields ws ns → fields_at ws (fields_text ws ns ++ rest) ≡ Some (ns, rest)
fields_again [] wide [] rest are = refl
fields_again [] wide (n ∷ ns) rest are = absurd are
fields_again (w ∷ ws) wide [] rest are = absurd are
fields_again (w ∷ ws) wide (n ∷ ns) rest are =
    let regrouped = append_assoc (to_le_bytes w n) (fields_text ws ns) rest in
    ap (fields_at (w ∷ ws)) regrouped ∙ rw (field_again w wide.0 n (fields_text ws ns ++ rest) are.0, fields_again ws wide.1 ns rest are.1) refl

-- ---- a list of numbers by its places

abbrev pub tabulate : ℕ → (ℕ → ℕ) → List ℕ
tabulate zero f = []
tabulate (suc n) f = f 0 ∷ tabulate n (λ k. f (suc k))

pub tabulate_is : (ns : List ℕ) → tabulate (length ns) (λ k. get_or ns k 0) ≡ ns
tabulate_is [] = refl
tabulate_is (n ∷ ns) = ap (λ (x : List ℕ). n ∷ x) (tabulate_is ns)

pub length-fields : (ws : List Width) (ns : List ℕ) → AreFields ws ns → length ns ≡ length ws
length-fields [] [] are = refl
length-fields [] (n ∷ ns) are = absurd are
length-fields (w ∷ ws) [] are = absurd are
length-fields (w ∷ ws) (n ∷ ns) are = ap suc (length-fields ws ns are.1)

-- numbers of n widths are those at their places
pub fields_tabulated : (ws : List Width) (n : ℕ) (ns : List ℕ) → length ws ≡ n → AreFields ws ns → tabulate n (λ k. get_or ns k 0) ≡ ns
fields_tabulated ws n ns len are = subst (λ (m : ℕ). tabulate m (λ k. get_or ns k 0) ≡ ns) (length-fields ws ns are ∙ len) (tabulate_is ns)

-- numbers of these widths, all zero
abbrev pub zeros : List Width → List ℕ
zeros [] = []
zeros (w ∷ ws) = 0 ∷ zeros ws

positive : (w : Width) → 0 < 256 ^ byte_len w
positive w8 = omega arith
positive w16 = omega arith
positive w32 = omega arith
positive w64 = omega arith
positive w128 = omega arith

zeros_are : (ws : List Width) → AreFields ws (zeros ws)
zeros_are [] = tt
zeros_are (w ∷ ws) = (positive w, zeros_are ws)

-- ---- what does not read lacks bytes

IsBytes-append : (xs ys : List ℕ) → IsBytes xs → IsBytes ys → IsBytes (xs ++ ys)
IsBytes-append [] ys fx fy i = fy i
IsBytes-append (x ∷ xs) ys fx fy zero = fx 0
IsBytes-append (x ∷ xs) ys fx fy (suc i) = IsBytes-append xs ys (λ k. fx (suc k)) fy i

IsBytes-zeros : (n : ℕ) → IsBytes (replicate n 0)
IsBytes-zeros zero i = omega arith
IsBytes-zeros (suc n) zero = omega arith
IsBytes-zeros (suc n) (suc i) = IsBytes-zeros n i

-- bytes that, behind others, are a text of numbers of the widths
pub record Completes (ws : List Width) (bs : List ℕ) : Type 0 where
  pub more : List ℕ
  pub ns : List ℕ
  pub some : 0 < length more
  pub are : AreFields ws ns
  pub whole : bs ++ more ≡ fields_text ws ns

field_lacks : (w : Width) (ws : List Width) → IsWide w → (bs : List ℕ) → IsBytes bs → field_at w bs ≡ None → Completes (w ∷ ws) bs
field_lacks w ws wide bs fits e =
    let short : length bs < byte_len w = ltb-true _ _ (none_cond _ _ e) in
    let pad = replicate (byte_len w - length bs) 0 in
    let pad_len : length pad ≡ byte_len w - length bs = length-replicate (byte_len w - length bs) 0 in
    let full : length (bs ++ pad) ≡ byte_len w = omega (arith, length-append bs pad, pad_len) in
    let all = IsBytes-append bs pad fits (IsBytes-zeros (byte_len w - length bs)) in
    record {
      more = pad ++ fields_text ws (zeros ws);
      ns = from_le_bytes w (bs ++ pad) ∷ zeros ws;
      some = omega (arith, length-append pad (fields_text ws (zeros ws)), pad_len, short);
      are = (wide.below (bs ++ pad) all, zeros_are ws);
      whole = sym (append_assoc bs pad (fields_text ws (zeros ws))) ∙ ap (λ (x : List ℕ). x ++ fields_text ws (zeros ws)) (sym (wide.back (bs ++ pad) full all));
    }

behind : (w : Width) (ws : List Width) → IsWide w → (bs : List ℕ) (n : ℕ) (rest : List ℕ) → Takes bs (to_le_bytes w n) rest × (n < 256 ^ byte_len w) → Completes ws rest → Completes (w ∷ ws) bs
behind w ws wide bs n rest t c = record {
  more = c.more;
  ns = n ∷ c.ns;
  some = c.some;
  are = (t.1, c.are);
  whole = ap (λ (x : List ℕ). x ++ c.more) t.0.parts ∙ append_assoc (to_le_bytes w n) rest c.more ∙ ap (λ (x : List ℕ). to_le_bytes w n ++ x) c.whole;
}

no_more : (n : ℕ) (r : Option (List ℕ × List ℕ)) → then_at r (λ ms end. Some (n ∷ ms, end)) ≡ None → r ≡ None
no_more n None e = refl
no_more n (Some x) e = absurd cc

pub fields_lack : (ws : List Width) → AllByRecursion IsWide ws → (bs : List ℕ) → IsBytes bs → fields_at ws bs ≡ None → Completes ws bs
fields_lack [] wide bs fits e = absurd cc
fields_lack (w ∷ ws) wide bs fits e =
    elim (then_none (field_at w bs) (λ n after. then_at (fields_at ws after) (λ ms end. Some (n ∷ ms, end))) e) [
      | inl here ↦ field_lacks w ws wide.0 bs fits here
      | inr there ↦ behind w ws wide.0 bs there.0.0 there.0.1 (field_taken w wide.0 bs there.0.0 there.0.1 fits there.1)
          (fields_lack ws wide.1 there.0.1 (field_taken w wide.0 bs there.0.0 there.0.1 fits there.1).0.rest_fits (no_more there.0.0 (fields_at ws there.0.1) there.2))
    ]
