-- A device that can't go on.
use Rattle.std.proofs.Common.{◌≡◌, ℕ, List, ◌∷◌, sym, ◌∙◌, subst}
use Rattle.cip_events.specs.declared.event.Event.{Event}
use Rattle.segment_world.specs.declared.transit.direction.Direction.{Direction}
use Rattle.segment_world.specs.declared.act.Act.{Act}
use Rattle.cip_events.specs.declared.event.Event.TheVariants.{StreamCut}
use Rattle.segment_world.specs.declared.act.Act.TheVariants as Act
use Rattle.settling.specs.Search.Schedules.{IsPermitted, NoWay, NoCutReaches}
use Rattle.settling.specs.Search.Causes.{CanCome, CutReaches}
use Rattle.settling.specs.Search.Placements.{Placement, rest, StuckHere}
use Rattle.settling.proofs.Causing.{no_way}

head_is : (x y : Event) (xs ys : List Event) → x ∷ xs ≡ y ∷ ys → x ≡ y
head_is x y xs ys h = cc

cut_same : (m n : ℕ) → StreamCut m ≡ StreamCut n → m ≡ n
cut_same m n h = cc

pub stuck_at : (hs : List (List Event)) (b : Placement) (i : ℕ) (e : Event) (es : List Event) → rest hs b.placed i ≡ e ∷ es → (CanCome b.world i e → ⊥) → NoCutReaches (rest hs b.placed) b.world i e → StuckHere hs b i
stuck_at hs b i e es is cannot unmarked f fs is_f =
    subst (λ (x : Event). NoWay (rest hs b.placed) b.world i x) (head_is e f es fs (sym is ∙ is_f)) (no_way (rest hs b.placed) b.world i e cannot unmarked)

pub stuck_other : (hs : List (List Event)) (b : Placement) (i : ℕ) (e : Event) (es : List Event) → rest hs b.placed i ≡ e ∷ es → (CanCome b.world i e → ⊥) → ((n : ℕ) → e ≡ StreamCut n → ⊥) → StuckHere hs b i
stuck_other hs b i e es is cannot other = stuck_at hs b i e es is cannot (λ n cut may back marks. other n cut)

pub stuck_cut : (hs : List (List Event)) (b : Placement) (i n : ℕ) (e : Event) (es : List Event) → rest hs b.placed i ≡ e ∷ es → e ≡ StreamCut n → (CanCome b.world i e → ⊥) → (IsPermitted (rest hs b.placed) b.world (Act.CutStream n) → (back : Direction) → CutReaches b.world n i back → ⊥) → StuckHere hs b i
stuck_cut hs b i n e es is is_cut cannot none =
    stuck_at hs b i e es is cannot
    (λ m cut may back marks.
    let same : n ≡ m = cut_same n m (sym is_cut ∙ cut) in
    subst (λ (k : ℕ). IsPermitted (rest hs b.placed) b.world (Act.CutStream k) → CutReaches b.world k i back → ⊥) same (λ may marks. none may back marks) may marks)
