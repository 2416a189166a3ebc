-- The streams of a life that ends are cut one after another.
use Rattle.std.proofs.Common.{◌≡◌, ◌≤◌, ℕ, zero, suc, ◌+◌, ◌==◌, ◌&&◌, ◌||◌, not, Bool, true, false, cond, List, [], ◌∷◌, ◌++◌, map, set, length, slice_get, Option, Some, None, Result, Ok, refl, sym, ◌∙◌, ap, arith}
use Rattle.std.specs.List.{AllByRecursion}
use Rattle.std.proofs.lemmas.List.{append_assoc}
use Rattle.std.proofs.lemmas.Option.{same_Some}
use Rattle.std.specs.Option.{option_map}
use Rattle.base_lemmas.specs.Lists.{set_same}
use Rattle.segment_world.specs.declared.transit.links.Endpoints.{Endpoints}
use Rattle.segment_world.specs.Transit.Fronts.{endpoints_of}
use Rattle.segment_world.specs.Transit.Streams.{Stream, changed, with_stream, cut_stream}
use Rattle.segment_world.specs.declared.act.Act.TheVariants.{CutStream}
use Rattle.segment_world.specs.declared.act.ActFault.{ActFault}
use Rattle.segment_world.specs.Story.{Story, goes_on, reports, runs}
use Rattle.segment_world.specs.World.{World, ReportedEvent, cut_if, cut_at}
use Rattle.segment_world.specs.Lives.Restarts.{is_open_at, severed, severed_world, cuts}
use Rattle.segment_world.proofs.Lists.{get_next, set_next, one_longer, all_mapped}
use Rattle.segment_world.proofs.Ends.{AreEnds}

-- ONE AFTER ANOTHER, BY THEIR NUMBERS

-- the streams after a change of those below this number
abbrev pub changed_below : (Stream → Stream) → ℕ → List Stream → List Stream
changed_below change zero streams = streams
changed_below change (suc n) [] = []
changed_below change (suc n) (s ∷ streams) = change s ∷ changed_below change n streams

changed_behind : (change : Stream → Stream) (s : Stream) (streams : List Stream) (n : ℕ) (o : Option Stream) → changed change (s ∷ streams) (suc n) o ≡ s ∷ changed change streams n o
changed_behind change s streams n None = refl
changed_behind change s streams n (Some found) = refl

pub changed_next : (change : Stream → Stream) (n : ℕ) (streams : List Stream) → with_stream change n (changed_below change n streams) ≡ changed_below change (suc n) streams
changed_next change zero [] = refl
changed_next change zero (s ∷ streams) = refl
changed_next change (suc n) [] = refl
changed_next change (suc n) (s ∷ streams) =
    changed_behind change (change s) (changed_below change n streams) n (slice_get (changed_below change n streams) n)
    ∙ ap (λ (l : List Stream). change s ∷ l) (changed_next change n streams)

pub all_below : (change : Stream → Stream) (n : ℕ) (streams : List Stream) → length streams ≤ n → changed_below change n streams ≡ map change streams
all_below change zero [] le = refl
all_below change zero (s ∷ streams) le = absurd (omega arith)
all_below change (suc n) [] le = refl
all_below change (suc n) (s ∷ streams) le = ap (λ (l : List Stream). change s ∷ l) (all_below change n streams (omega arith))

-- one stream more
pub below_more : (life n : ℕ) (start mid new : World) → mid ≡ record start { streams = changed_below (severed life) n start.streams } → new ≡ record mid { streams = with_stream (severed life) n mid.streams } → new ≡ record start { streams = changed_below (severed life) (n + 1) start.streams }
below_more life n start mid new mid_is new_is =
    let one_more : suc n ≡ n + 1 = omega arith in
    new_is
    ∙ ap (λ (w : World). record w { streams = with_stream (severed life) n w.streams }) mid_is
    ∙ ap (λ (l : List Stream). record start { streams = l }) (changed_next (severed life) n start.streams)
    ∙ ap (λ (k : ℕ). record start { streams = changed_below (severed life) k start.streams }) one_more

pub below_all : (life n : ℕ) (start new : World) → length start.streams ≤ n → new ≡ record start { streams = changed_below (severed life) n start.streams } → new ≡ severed_world life start
below_all life n start new le is = is ∙ ap (λ (l : List Stream). record start { streams = l }) (all_below (severed life) n start.streams le)

same_case : (life n : ℕ) (streams : List Stream) (ends : Endpoints) (o : Option Stream) → slice_get streams n ≡ o → Some ends ≡ option_map endpoints_of o → (not ends.ended && (ends.from == life || ends.to == life)) ≡ false → changed (severed life) streams n o ≡ streams
same_case life n streams ends None at named other = refl
same_case life n streams ends (Some s) at named other =
    let is : endpoints_of s ≡ ends = same_Some (endpoints_of s) ends (sym named) in
    let closed : is_open_at life s ≡ false = ap (λ (e : Endpoints). not e.ended && (e.from == life || e.to == life)) is ∙ other in
    ap (λ (b : Bool). set streams n (cond b (cut_stream s) s)) closed ∙ set_same streams n s at

-- a stream that is not open at the life stays
pub stream_stays : (life n : ℕ) (w : World) (ends : Endpoints) → Some ends ≡ option_map endpoints_of (slice_get w.streams n) → (not ends.ended && (ends.from == life || ends.to == life)) ≡ false → w ≡ record w { streams = with_stream (severed life) n w.streams }
stream_stays life n w ends named other = ap (λ (l : List Stream). record w { streams = l }) (sym (same_case life n w.streams ends (slice_get w.streams n) refl named other))

-- AS ACTS

-- the story of this world with these streams
abbrev at_streams : World → List ReportedEvent → List Stream → Result Story ActFault
at_streams w reported streams = Ok (record { world = record w { streams = streams }; reported = reported })

not_ended : (ended : Bool) (rest : Bool) → (not ended && rest) ≡ true → ended ≡ false
not_ended true rest is = absurd (let e = is in cc)
not_ended false rest is = refl

-- the act cuts the stream that is next
cut_next : (w : World) (reported : List ReportedEvent) (done rest : List Stream) (s : Stream) → s.ended ≡ false → reports (at_streams w reported (done ++ s ∷ rest)) (CutStream (length done)) ≡ at_streams w reported (done ++ cut_stream s ∷ rest)
cut_next w reported done rest s living =
    let all : World = record w { streams = done ++ s ∷ rest } in
    ap (λ (o : Option Stream). goes_on reported (cut_at (length done) all o)) (get_next done s rest)
    ∙ ap (λ (b : Bool). goes_on reported (cut_if (length done) all b)) living
    ∙ ap (λ (o : Option Stream). at_streams w reported (changed cut_stream (done ++ s ∷ rest) (length done) o)) (get_next done s rest)
    ∙ ap (at_streams w reported) (set_next done s (cut_stream s) rest)

-- the other streams follow
cuts_behind : (life : ℕ) (w : World) (reported : List ReportedEvent) (done rest : List Stream) (s : Stream) →
    runs (at_streams w reported ((done ++ s ∷ []) ++ rest)) (cuts life (length (done ++ s ∷ [])) rest) ≡ at_streams w reported ((done ++ s ∷ []) ++ map (severed life) rest) →
    runs (at_streams w reported (done ++ s ∷ rest)) (cuts life (suc (length done)) rest) ≡ at_streams w reported (done ++ s ∷ map (severed life) rest)
cuts_behind life w reported done rest s is =
    ap (λ (l : List Stream). runs (at_streams w reported l) (cuts life (suc (length done)) rest)) (sym (append_assoc done (s ∷ []) rest))
    ∙ ap (λ (n : ℕ). runs (at_streams w reported ((done ++ s ∷ []) ++ rest)) (cuts life n rest)) (sym (one_longer done s))
    ∙ is
    ∙ ap (at_streams w reported) (append_assoc done (s ∷ []) (map (severed life) rest))

cuts_case : (life : ℕ) (w : World) (reported : List ReportedEvent) (done rest : List Stream) (s : Stream) (b : Bool) → is_open_at life s ≡ b →
    ((x : Stream) → runs (at_streams w reported ((done ++ x ∷ []) ++ rest)) (cuts life (length (done ++ x ∷ [])) rest) ≡ at_streams w reported ((done ++ x ∷ []) ++ map (severed life) rest)) →
    runs (at_streams w reported (done ++ s ∷ rest)) (cond b (CutStream (length done) ∷ cuts life (suc (length done)) rest) (cuts life (suc (length done)) rest)) ≡ at_streams w reported (done ++ cond b (cut_stream s) s ∷ map (severed life) rest)
unfolding runs
cuts_case life w reported done rest s true is follow =
    ap (λ (so_far : Result Story ActFault). runs so_far (cuts life (suc (length done)) rest)) (cut_next w reported done rest s (not_ended s.ended (s.from == life || s.to == life) is))
    ∙ cuts_behind life w reported done rest (cut_stream s) (follow (cut_stream s))
cuts_case life w reported done rest s false is follow = cuts_behind life w reported done rest s (follow s)

cuts_run : (life : ℕ) (w : World) (reported : List ReportedEvent) (rest done : List Stream) → runs (at_streams w reported (done ++ rest)) (cuts life (length done) rest) ≡ at_streams w reported (done ++ map (severed life) rest)
unfolding runs
cuts_run life w reported [] done = refl
cuts_run life w reported (s ∷ rest) done = cuts_case life w reported done rest s (is_open_at life s) refl (λ x. cuts_run life w reported rest (done ++ x ∷ []))

-- the cuts of a life lead to the world in which its streams are severed
pub severs : (life : ℕ) (w : World) (reported : List ReportedEvent) → runs (Ok (record { world = w; reported = reported })) (cuts life 0 w.streams) ≡ at_streams w reported (map (severed life) w.streams)
severs life w reported = cuts_run life w reported w.streams []

-- THE ENDS STAY

severed_case : (count : ℕ) (s : Stream) (b : Bool) → AreEnds count s → AreEnds count (cond b (cut_stream s) s)
severed_case count s true ends = ends
severed_case count s false ends = ends

pub severed_keeps : (life count more : ℕ) (streams : List Stream) → count ≤ more → AllByRecursion (AreEnds count) streams → AllByRecursion (AreEnds more) (map (severed life) streams)
severed_keeps life count more streams le all = all_mapped (AreEnds count) (AreEnds more) (severed life) (λ s ends. severed_case more s (is_open_at life s) (let first = ends.0 in let second = ends.1 in (omega arith, omega arith))) streams all
