-- Where no power span was before, no break is told: so an interruption is noted where there was one.
use Rattle.std.proofs.Common.{◌≡◌, ℕ, Bool, true, false, cond, not, ◌&&◌, List, [], ◌∷◌, ◌++◌, map, filter, fold, refl, ap, sym, ◌∙◌}
use Rattle.std.specs.Prelude.{flat_map}
use Rattle.std.specs.List.{AllByRecursion}
use Rattle.activity_codec.specs.declared.values.Slot.{Slot}
use Rattle.activity_codec.specs.declared.values.Slot.TheVariants.{Driver, CoDriver}
use Rattle.trace_model.specs.Trace.{TraceSecond}
use Rattle.log_model.specs.run_model.declared.Device.{Device}
use Rattle.log_model.specs.declared.lines.Break.{Break}
use Rattle.log_model.specs.declared.lines.Break.TheVariants.{Cut, Tear}
use Rattle.log_model.specs.Log.{RunLog, Phase, phase_of}
use Rattle.log_model.specs.Causes.{is_cut, has_failed, second_of, tears, places, visit_places, in_the_slot, pulled_of, torn_of}
use Rattle.log_model.specs.Course.{ToldSecond, Before, Went, has_power, second_told, before_next, went_on, not_begun, went}
use Rattle.device_calls.specs.event_model.Events.{Seen, Watched, seen_by, watched_on, seen_of, seen_on, seen_with, seen_spans}
use Rattle.run_acts.specs.run_course.Caused.{AreCaused}
use Rattle.run_acts.proofs.run_course.Told.{told-lit}

-- ---- seconds without power
pub record IsDarkSecond (t : ToldSecond) : Type 0 where
  pub cut : t.cut ≡ false
  pub pulled : t.course.pulled ≡ []
  pub torn : t.course.torn ≡ []

dark-second : (log : RunLog) (before : Before) (s : TraceSecond) → (second_told log before s).lit ≡ false → IsDarkSecond (second_told log before s)
dark-second log before s dark =
    let none : has_power before s ≡ false = sym (told-lit log before s) ∙ dark in
    rw none (record { cut = refl; pulled = refl; torn = refl })

never-on : (spans : List (List Seen)) (x : Seen) → seen_on spans x ≡ [] → ⊥
never-on [] x is = absurd (cc)
never-on (span ∷ []) x is = absurd (cc)
never-on (span ∷ next ∷ spans) x is = absurd (cc)

never-push : (spans : List (List Seen)) (x : Seen) → spans ++ (x ∷ []) ∷ [] ≡ [] → ⊥
never-push [] x is = absurd (cc)
never-push (span ∷ spans) x is = absurd (cc)

with-none : (spans : List (List Seen)) (x : Seen) → seen_with spans x ≡ [] → (spans ≡ []) × (x.told.lit ≡ false)
with-none spans x is = by x.told.lit x.told.starts refl is
  where
    by : (lit starts : Bool) → x.told.lit ≡ lit → cond lit (cond starts (spans ++ (x ∷ []) ∷ []) (seen_on spans x)) spans ≡ [] → (spans ≡ []) × (x.told.lit ≡ false)
    by true true at is = absurd (never-push spans x is)
    by true false at is = absurd (never-on spans x is)
    by false starts at is = (is, at)

all-dark : (spans : List (List Seen)) (xs : List Seen) → fold seen_with spans xs ≡ [] → (spans ≡ []) × AllByRecursion (λ (x : Seen). x.told.lit ≡ false) xs
all-dark spans [] is = (is, tt)
all-dark spans (x ∷ xs) is =
    let rest = all-dark (seen_with spans x) xs is in
    let one = with-none spans x rest.0 in
    (one.0, (one.1, rest.1))

-- ---- the seconds as they went, and as their events see them
push-dark : (ts : List ToldSecond) (t : ToldSecond) → AllByRecursion IsDarkSecond ts → IsDarkSecond t → AllByRecursion IsDarkSecond (ts ++ t ∷ [])
push-dark [] t all one = (one, tt)
push-dark (u ∷ ts) t all one = (all.0, push-dark ts t all.1 one)

split-dark : (xs : List Seen) (x : Seen) → AllByRecursion (λ (y : Seen). y.told.lit ≡ false) (xs ++ x ∷ []) → AllByRecursion (λ (y : Seen). y.told.lit ≡ false) xs × (x.told.lit ≡ false)
split-dark [] x all = (tt, all.0)
split-dark (y ∷ xs) x all = (let rest = split-dark xs x all.1 in ((all.0, rest.0), rest.1))

-- what was seen so far is dark where all is
front-dark : (log : RunLog) (ss : List TraceSecond) (w : Watched) → AllByRecursion (λ (y : Seen). y.told.lit ≡ false) (fold (watched_on log) w ss).seen → AllByRecursion (λ (y : Seen). y.told.lit ≡ false) w.seen
front-dark log [] w all = all
front-dark log (s ∷ ss) w all = (split-dark w.seen (seen_by log w.before s) (front-dark log ss (watched_on log w s) all)).0

here-dark : (log : RunLog) (s : TraceSecond) (ss : List TraceSecond) (w : Watched) → AllByRecursion (λ (y : Seen). y.told.lit ≡ false) (fold (watched_on log) w (s ∷ ss)).seen → (second_told log w.before s).lit ≡ false
here-dark log s ss w all = (split-dark w.seen (seen_by log w.before s) (front-dark log ss (watched_on log w s) all)).1

went-dark : (log : RunLog) (ss : List TraceSecond) (w : Watched) (v : Went) → w.before ≡ v.before → AllByRecursion IsDarkSecond v.told → AllByRecursion (λ (y : Seen). y.told.lit ≡ false) (fold (watched_on log) w ss).seen → AllByRecursion IsDarkSecond (fold (went_on log) v ss).told
went-dark log [] w v same told all = told
went-dark log (s ∷ ss) w v same told all =
    let dark : (second_told log v.before s).lit ≡ false = ap (λ (b : Before). (second_told log b s).lit) (sym same) ∙ here-dark log s ss w all in
    went-dark log ss (watched_on log w s) (went_on log v s) (λ i. before_next (same i) (second_told log (same i) s)) (push-dark v.told (second_told log v.before s) told (dark-second log v.before s dark)) all

seen-dark : (log : RunLog) (ss : List TraceSecond) → seen_spans (seen_of log ss) ≡ [] → AllByRecursion IsDarkSecond (went log ss).told
unfolding seen_of went
seen-dark log ss none = went-dark log ss (record { seen = []; before = not_begun.before }) not_begun refl tt (all-dark [] (seen_of log ss) none).1

-- ---- so there is no break
no-cuts : (ts : List ToldSecond) → AllByRecursion IsDarkSecond ts → filter (λ (t : ToldSecond). t.cut) ts ≡ []
no-cuts [] all = refl
no-cuts (t ∷ ts) all = ap (λ (b : Bool). cond b (t ∷ filter (λ (t : ToldSecond). t.cut) ts) (filter (λ (t : ToldSecond). t.cut) ts)) all.0.cut ∙ no-cuts ts all.1

no-pulled : (ts : List ToldSecond) → AllByRecursion IsDarkSecond ts → pulled_of ts ≡ []
no-pulled [] all = refl
no-pulled (t ∷ ts) all = λ i. visit_places t.second.number (all.0.pulled i) ++ no-pulled ts all.1 i

no-torn : (ts : List ToldSecond) → AllByRecursion IsDarkSecond ts → torn_of ts ≡ []
no-torn [] all = refl
no-torn (t ∷ ts) all = λ i. visit_places t.second.number (all.0.torn i) ++ no-torn ts all.1 i

map-none : (bs : List Break) → map second_of bs ≡ [] → bs ≡ []
map-none [] is = refl
map-none (b ∷ bs) is = absurd (cc)

-- places are those of a slot or the other one
one-place : (second : ℕ) (p : Phase) (slot : Slot) (rest : List (ℕ × Phase × Slot)) → in_the_slot Driver ((second, p, slot) ∷ rest) ≡ [] → in_the_slot CoDriver ((second, p, slot) ∷ rest) ≡ [] → ⊥
one-place second p Driver rest driver codriver = absurd (cc)
one-place second p CoDriver rest driver codriver = absurd (cc)

pub no-break : (log : RunLog) → filter is_cut log.breaks ≡ [] → flat_map places (tears false log) ≡ [] → ((slot : Slot) → in_the_slot slot (flat_map places (tears true log)) ≡ []) → log.breaks ≡ []
no-break log cuts pulled torn = by log.breaks cuts pulled torn
  where
    by : (bs : List Break) → filter is_cut bs ≡ [] → flat_map places (filter (λ (b : Break). not (is_cut b) && not (has_failed b)) bs) ≡ [] → ((slot : Slot) → in_the_slot slot (flat_map places (filter (λ (b : Break). not (is_cut b) && has_failed b) bs)) ≡ []) → bs ≡ []
    by [] cuts pulled torn = refl
    by (Cut second kept failed begun ∷ bs) cuts pulled torn = absurd (cc)
    by (Tear second slot true begun late ∷ bs) cuts pulled torn = absurd (one-place second (phase_of begun late) slot (flat_map places (filter (λ (b : Break). not (is_cut b) && has_failed b) bs)) (torn Driver) (torn CoDriver))
    by (Tear second slot false begun late ∷ bs) cuts pulled torn = absurd (cc)

pub no-span_no-break : (before now : Device → ℕ) (done : List TraceSecond) (log : RunLog) → AreCaused before now done log → seen_spans (seen_of log done) ≡ [] → log.breaks ≡ []
no-span_no-break before now done log caused none =
    let dark : AllByRecursion IsDarkSecond (went log done).told = seen-dark log done none in
    no-break log (map-none (filter is_cut log.breaks) (caused.cut_seconds ∙ ap (map (λ (t : ToldSecond). t.second.number)) (no-cuts (went log done).told dark))) (caused.tear_lines ∙ no-pulled (went log done).told dark)
    (λ slot. caused.failed_tears slot ∙ ap (in_the_slot slot) (no-torn (went log done).told dark))
