-- The speeds of the power spans of a run, second by second: they hang on its power alone, and so do its blocks.
use Rattle.std.proofs.Common.{◌≡◌, ◌∙◌, ℕ, ◌+◌, ◌%◌, ◌<◌, ◌≤◌, Bool, true, false, cond, not, ◌&&◌, ◌||◌, nat_eq, is_some, List, [], ◌∷◌, ◌++◌, length, map, fold, refl, sym, ap, arith, append-nil, append_assoc}
use Rattle.std.specs.Prelude.{flat_map}
use Rattle.std.specs.List.{AllByRecursion}
use Rattle.std.proofs.lemmas.Grind.{flat_map-append}
use Rattle.std.proofs.lemmas.List.{map-append}
use Rattle.speed_store.specs.trace_model.Trace.{TraceSecond}
use Rattle.speed_store.specs.log_model.Log.{RunLog, cut_in}
use Rattle.speed_store.specs.log_model.Course.{ToldSecond, Before, Went, has_power, second_told, before_next, went_on, went, not_begun}
use Rattle.speed_store.specs.log_model.Spans.{go_on, spans_of, AreInOrder}
use Rattle.speed_store.proofs.log_model.Growth.{went-more}
use Rattle.speed_store.proofs.log_model.Spanning.{spans-more}
use Rattle.speed_store.specs.event_model.Spans.{SpeedSecond}
use Rattle.speed_store.specs.speed_model.declared.block.Block.{Block}
use Rattle.speed_store.specs.speed_model.Blocks.{blocks_of, blocks_in}
use Rattle.run_speeds.specs.Spans.{speed_of, speeds_of, speed_spans, blocks_by, last_speeds}

-- ---- SPANS OF SPEEDS with more seconds: a new one, or the last goes on

abbrev pub on-last : List (List SpeedSecond) → List SpeedSecond → List (List SpeedSecond)
on-last [] xs = xs ∷ []
on-last (span ∷ []) xs = (span ++ xs) ∷ []
on-last (span ∷ next ∷ spans) xs = span ∷ on-last (next ∷ spans) xs

abbrev pub grown : (starts : Bool) → List (List SpeedSecond) → List SpeedSecond → List (List SpeedSecond)
grown starts spans xs = cond starts (spans ++ xs ∷ []) (on-last spans xs)

-- the seconds that these come behind
abbrev pub before-them : (starts : Bool) → List (List SpeedSecond) → List SpeedSecond
before-them starts spans = cond starts [] (last_speeds spans)

new-then : (spans : List (List SpeedSecond)) (xs ys : List SpeedSecond) → on-last (spans ++ xs ∷ []) ys ≡ spans ++ (xs ++ ys) ∷ []
new-then [] xs ys = refl
new-then (a ∷ []) xs ys = refl
new-then (a ∷ b ∷ spans) xs ys = ap (λ (l : List (List SpeedSecond)). a ∷ l) (new-then (b ∷ spans) xs ys)

on-then : (spans : List (List SpeedSecond)) (xs ys : List SpeedSecond) → on-last (on-last spans xs) ys ≡ on-last spans (xs ++ ys)
on-then [] xs ys = refl
on-then (a ∷ []) xs ys = ap (λ (s : List SpeedSecond). s ∷ []) (append_assoc a xs ys)
on-then (a ∷ b ∷ []) xs ys = ap (λ (l : List (List SpeedSecond)). a ∷ l) (on-then (b ∷ []) xs ys)
on-then (a ∷ b ∷ c ∷ spans) xs ys = ap (λ (l : List (List SpeedSecond)). a ∷ l) (on-then (b ∷ c ∷ spans) xs ys)

pub grown-then : (starts : Bool) (spans : List (List SpeedSecond)) (xs ys : List SpeedSecond) → on-last (grown starts spans xs) ys ≡ grown starts spans (xs ++ ys)
grown-then true spans xs ys = new-then spans xs ys
grown-then false spans xs ys = on-then spans xs ys

last-new : (spans : List (List SpeedSecond)) (xs : List SpeedSecond) → last_speeds (spans ++ xs ∷ []) ≡ xs
last-new [] xs = refl
last-new (a ∷ []) xs = refl
last-new (a ∷ b ∷ spans) xs = last-new (b ∷ spans) xs

last-on : (spans : List (List SpeedSecond)) (xs : List SpeedSecond) → last_speeds (on-last spans xs) ≡ last_speeds spans ++ xs
last-on [] xs = refl
last-on (a ∷ []) xs = refl
last-on (a ∷ b ∷ []) xs = refl
last-on (a ∷ b ∷ c ∷ spans) xs = last-on (b ∷ c ∷ spans) xs

pub last-grown : (starts : Bool) (spans : List (List SpeedSecond)) (xs : List SpeedSecond) → last_speeds (grown starts spans xs) ≡ before-them starts spans ++ xs
last-grown true spans xs = last-new spans xs
last-grown false spans xs = last-on spans xs

-- ---- their blocks

pub no-block : blocks_of [] ≡ []
unfolding blocks_of
no-block = refl

-- a second alone has none
pub one-block : (s : SpeedSecond) → blocks_of (s ∷ []) ≡ []
unfolding blocks_of
one-block s = refl

on-blocks : (spans : List (List SpeedSecond)) (xs : List SpeedSecond) (more : List Block) → blocks_of (last_speeds spans ++ xs) ≡ blocks_of (last_speeds spans) ++ more → flat_map blocks_of (on-last spans xs) ≡ flat_map blocks_of spans ++ more
on-blocks [] xs more is = append-nil (blocks_of xs) ∙ is ∙ ap (λ (l : List Block). l ++ more) no-block
on-blocks (a ∷ []) xs more is = append-nil (blocks_of (a ++ xs)) ∙ is ∙ ap (λ (l : List Block). l ++ more) (sym (append-nil (blocks_of a)))
on-blocks (a ∷ b ∷ spans) xs more is = ap (λ (l : List Block). blocks_of a ++ l) (on-blocks (b ∷ spans) xs more is) ∙ sym (append_assoc (blocks_of a) (flat_map blocks_of (b ∷ spans)) more)

new-blocks : (spans : List (List SpeedSecond)) (xs : List SpeedSecond) (more : List Block) → blocks_of xs ≡ blocks_of [] ++ more → flat_map blocks_of (spans ++ xs ∷ []) ≡ flat_map blocks_of spans ++ more
new-blocks spans xs more is =
    flat_map-append blocks_of spans (xs ∷ [])
    ∙ ap (λ (l : List Block). flat_map blocks_of spans ++ l) (append-nil (blocks_of xs) ∙ is ∙ ap (λ (l : List Block). l ++ more) no-block)

-- THE BLOCKS OF MORE SECONDS are those that their own span has more
pub grown-blocks : (starts : Bool) (spans : List (List SpeedSecond)) (xs : List SpeedSecond) (more : List Block) → blocks_of (before-them starts spans ++ xs) ≡ blocks_of (before-them starts spans) ++ more →
    blocks_in (grown starts spans xs) ≡ blocks_in spans ++ more
unfolding blocks_in
grown-blocks true spans xs more is = new-blocks spans xs more is
grown-blocks false spans xs more is = on-blocks spans xs more is

-- ---- A SECOND MORE, as a log tells it

pub record IsLitSecond (log : RunLog) (before : Before) (s : TraceSecond) (t : ToldSecond) : Type 0 where
  pub number : t.second.number ≡ s.number
  pub speed : t.second.speed ≡ s.speed
  pub lit : t.lit ≡ true
  pub starts : t.starts ≡ not before.running
  pub cut : t.cut ≡ is_some (cut_in log s.number)
  pub given : t.given ≡ s.has_power

lit-second : (log : RunLog) (before : Before) (s : TraceSecond) → has_power before s ≡ true → IsLitSecond log before s (second_told log before s)
lit-second log before s power = rw power (record { number = refl; speed = refl; lit = refl; starts = refl; cut = refl; given = refl })

record IsDarkSecond (s : TraceSecond) (t : ToldSecond) : Type 0 where
  lit : t.lit ≡ false
  cut : t.cut ≡ false
  given : t.given ≡ s.has_power

dark-second : (log : RunLog) (before : Before) (s : TraceSecond) → has_power before s ≡ false → IsDarkSecond s (second_told log before s)
dark-second log before s none = rw none (record { lit = refl; cut = refl; given = refl })

-- a second of a trace by its number and its speed
abbrev pub as-speed : TraceSecond → SpeedSecond
as-speed s = record { number = s.number; speed = s.speed }

map-on : (spans : List (List ToldSecond)) (t : ToldSecond) → map (λ (span : List ToldSecond). map speed_of span) (go_on spans t) ≡ on-last (map (λ (span : List ToldSecond). map speed_of span) spans) (speed_of t ∷ [])
map-on [] t = refl
map-on (span ∷ []) t = ap (λ (s : List SpeedSecond). s ∷ []) (map-append speed_of span (t ∷ []))
map-on (span ∷ next ∷ spans) t = ap (λ (l : List (List SpeedSecond)). map speed_of span ∷ l) (map-on (next ∷ spans) t)

map-with : (spans : List (List ToldSecond)) (t : ToldSecond) (lit starts : Bool) → map (λ (span : List ToldSecond). map speed_of span) (cond lit (cond starts (spans ++ (t ∷ []) ∷ []) (go_on spans t)) spans)
    ≡ cond lit (grown starts (map (λ (span : List ToldSecond). map speed_of span) spans) (speed_of t ∷ [])) (map (λ (span : List ToldSecond). map speed_of span) spans)
map-with spans t true true = map-append (λ (span : List ToldSecond). map speed_of span) spans ((t ∷ []) ∷ [])
map-with spans t true false = map-on spans t
map-with spans t false starts = refl

speeds-told : (told : List ToldSecond) (t : ToldSecond) → speeds_of (told ++ t ∷ []) ≡ cond t.lit (grown t.starts (speeds_of told) (speed_of t ∷ [])) (speeds_of told)
speeds-told told t = ap (map (λ (span : List ToldSecond). map speed_of span)) (spans-more told t) ∙ map-with (spans_of told) t t.lit t.starts

-- with power, and without
pub speeds-lit : (log : RunLog) (done : List TraceSecond) (s : TraceSecond) → has_power (went log done).before s ≡ true → speed_spans log (done ++ s ∷ []) ≡ grown (not (went log done).before.running) (speed_spans log done) (as-speed s ∷ [])
speeds-lit log done s power =
    let t : ToldSecond = second_told log (went log done).before s in
    let is = lit-second log (went log done).before s power in
    ap (λ (w : Went). speeds_of w.told) (went-more log done s)
    ∙ speeds-told (went log done).told t
    ∙ (λ i. cond (is.lit i) (grown (is.starts i) (speed_spans log done) (record { number = is.number i; speed = is.speed i } ∷ [])) (speed_spans log done))

pub speeds-dark : (log : RunLog) (done : List TraceSecond) (s : TraceSecond) → has_power (went log done).before s ≡ false → speed_spans log (done ++ s ∷ []) ≡ speed_spans log done
speeds-dark log done s none =
    let t : ToldSecond = second_told log (went log done).before s in
    let is = dark-second log (went log done).before s none in
    ap (λ (w : Went). speeds_of w.told) (went-more log done s)
    ∙ speeds-told (went log done).told t
    ∙ ap (λ (b : Bool). cond b (grown t.starts (speed_spans log done) (speed_of t ∷ [])) (speed_spans log done)) is.lit

-- ---- TWO LOGS THAT TELL THE SAME CUTS

-- what the power of the next second hangs on
pub record IsAlike (a b : Before) : Type 0 where
  pub running : b.running ≡ a.running
  pub gone : b.gone ≡ a.gone
  pub given : b.given ≡ a.given

pub alike-power : (a b : Before) (s : TraceSecond) → IsAlike a b → has_power b s ≡ has_power a s
alike-power a b s h = λ i. s.has_power && (not (h.gone i) || nat_eq (s.number % 60) 0 || not (h.given i))

-- a cut is told of a second by both or by neither
abbrev pub SameCut : (log later : RunLog) → TraceSecond → Type 0
SameCut log later s = is_some (cut_in later s.number) ≡ is_some (cut_in log s.number)

next-alike : (a b : Before) (t u : ToldSecond) → IsAlike a b → u.lit ≡ t.lit → u.cut ≡ t.cut → u.given ≡ t.given → IsAlike (before_next a t) (before_next b u)
next-alike a b t u h lit cut given = record {
  running = λ i. lit i && not (cut i);
  gone = λ i. cut i || (h.gone i && not (lit i));
  given = given;
}

module _ (log later : RunLog) (a b : Before) (s : TraceSecond) (h : IsAlike a b) (same : SameCut log later s) (told more : List ToldSecond) (are : speeds_of more ≡ speeds_of told) where
  abbrev t : ToldSecond
  t = second_told log a s

  abbrev u : ToldSecond
  u = second_told later b s

  second-alike : (p : Bool) → has_power a s ≡ p → IsAlike (before_next a t) (before_next b u) × (speeds_of (more ++ u ∷ []) ≡ speeds_of (told ++ t ∷ []))
  second-alike true power =
      let x = lit-second log a s power in
      let y = lit-second later b s (alike-power a b s h ∙ power) in
      let lit : u.lit ≡ t.lit = y.lit ∙ sym x.lit in
      let starts : u.starts ≡ t.starts = y.starts ∙ ap not h.running ∙ sym x.starts in
      let number : u.second.number ≡ t.second.number = y.number ∙ sym x.number in
      let speed : u.second.speed ≡ t.second.speed = y.speed ∙ sym x.speed in (
        next-alike a b t u h lit (y.cut ∙ same ∙ sym x.cut) (y.given ∙ sym x.given),
        speeds-told more u ∙ (λ i. cond (lit i) (grown (starts i) (are i) (record { number = number i; speed = speed i } ∷ [])) (are i)) ∙ sym (speeds-told told t),
      )
  second-alike false none =
      let x = dark-second log a s none in
      let y = dark-second later b s (alike-power a b s h ∙ none) in (
        next-alike a b t u h (y.lit ∙ sym x.lit) (y.cut ∙ sym x.cut) (y.given ∙ sym x.given),
        speeds-told more u ∙ ap (λ (l : Bool). cond l (grown u.starts (speeds_of more) (speed_of u ∷ [])) (speeds_of more)) y.lit ∙ are
            ∙ sym (speeds-told told t ∙ ap (λ (l : Bool). cond l (grown t.starts (speeds_of told) (speed_of t ∷ [])) (speeds_of told)) x.lit),
      )

all-alike : (log later : RunLog) (ss : List TraceSecond) (v w : Went) → IsAlike v.before w.before → speeds_of w.told ≡ speeds_of v.told → AllByRecursion (SameCut log later) ss →
    IsAlike (fold (went_on log) v ss).before (fold (went_on later) w ss).before × (speeds_of (fold (went_on later) w ss).told ≡ speeds_of (fold (went_on log) v ss).told)
all-alike log later [] v w h are all = (h, are)
all-alike log later (s ∷ ss) v w h are all =
    let next = second-alike log later v.before w.before s h all.0 v.told w.told are (has_power v.before s) refl in
    all-alike log later ss (went_on log v s) (went_on later w s) next.0 next.1 all.1

-- the power goes the same way, and the spans have the same speeds
pub same-power : (log later : RunLog) (done : List TraceSecond) → AllByRecursion (SameCut log later) done → IsAlike (went log done).before (went later done).before × (speed_spans later done ≡ speed_spans log done)
unfolding went
same-power log later done all = all-alike log later done not_begun not_begun (record { running = refl; gone = refl; given = refl }) refl all

-- behind seconds of which the same cuts are told one more is told the same, whether power was cut in it or not
pub last-same : (log later : RunLog) (front : List TraceSecond) (x : TraceSecond) → AllByRecursion (SameCut log later) front → speed_spans later (front ++ x ∷ []) ≡ speed_spans log (front ++ x ∷ [])
last-same log later front x all = by (has_power (went log front).before x) refl
  where
    same : IsAlike (went log front).before (went later front).before × (speed_spans later front ≡ speed_spans log front)
    same = same-power log later front all

    power : has_power (went later front).before x ≡ has_power (went log front).before x
    power = alike-power (went log front).before (went later front).before x same.0

    by : (b : Bool) → has_power (went log front).before x ≡ b → speed_spans later (front ++ x ∷ []) ≡ speed_spans log (front ++ x ∷ [])
    by true is =
        speeds-lit later front x (power ∙ is)
        ∙ (λ i. grown (not (same.0.running i)) (same.1 i) (as-speed x ∷ []))
        ∙ sym (speeds-lit log front x is)
    by false is = speeds-dark later front x (power ∙ is) ∙ same.1 ∙ sym (speeds-dark log front x is)

-- no seconds have no block
pub no-spans : (log : RunLog) → speed_spans log [] ≡ []
unfolding went spans_of
no-spans log = refl

pub no-blocks : (log : RunLog) → blocks_by log [] ≡ []
unfolding blocks_in
no-blocks log = ap (λ (spans : List (List SpeedSecond)). flat_map blocks_of spans) (no-spans log)

-- the same cuts of all seconds before one
pub cuts-before : (log later : RunLog) (from until : ℕ) (done : List TraceSecond) → AreInOrder from done → from + length done ≤ until → ((u : ℕ) → u < until → is_some (cut_in later u) ≡ is_some (cut_in log u)) → AllByRecursion (SameCut log later) done
cuts-before log later from until [] order le same = tt
cuts-before log later from until (s ∷ done) order le same =
    let number = order.0 in (
      same s.number (omega (arith, number, le)),
      cuts-before log later (from + 1) until done order.1 (omega (arith, le)) same,
    )
