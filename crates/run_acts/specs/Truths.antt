-- What is true of the stays of a card (profile): of each acceptance, of each minute that is kept, and of each closing;
-- and what of a run so far says so.
use Rattle.std.specs.Prelude.{◌≡◌, ◌⊎◌, ℕ, suc, ◌+◌, ◌*◌, List, ◌∷◌, [], ◌++◌, Contains, All, length, sum_by}
use Rattle.activity_codec.specs.declared.values.Activity.{Activity}
use Rattle.activity_codec.specs.declared.values.Slot.{Slot}
use Rattle.trace_model.specs.declared.Action.{Action}
use Rattle.trace_model.specs.declared.Action.TheVariants.{Insert}
use Rattle.trace_model.specs.Trace.{TraceSecond}
use Rattle.unit_model.specs.minute_model.declared.Rule.{Rule}
use Rattle.unit_model.specs.minute_model.Second.{Second}
use Rattle.log_model.specs.Log.{RunLog}
use Rattle.log_model.specs.Course.{ToldSecond, went}
use Rattle.log_model.specs.Spans.{spans_of, seconds_in}
use Rattle.log_model.specs.declared.lines.Find.{Find}
use Rattle.log_model.specs.declared.lines.Mark.{Mark}
use Rattle.log_model.specs.Causes.{device_of}
use Rattle.device_calls.specs.history_model.Completeness.{IsMarked}
use Rattle.device_calls.specs.card_session.declared.session.Kept.{Kept}
use Rattle.device_calls.specs.run_unit_course.Legs.{whole_legs}
use Rattle.unit_model.specs.Image.{odometer_at}
use Rattle.device_calls.specs.unit_rule.Odometer.{odometer_after}
use Rattle.run_minutes.specs.run_promise.Origin.{Origin, rule_of, start_at}
use Rattle.run_acts.specs.Words.{IsWordOf}
use Rattle.activity_codec.specs.declared.entries.Entry.{Entry}
use Rattle.trace_model.specs.declared.Card.{Card}
use Rattle.device_calls.specs.safety_model.Recording.{brought}
use Rattle.run_acts.specs.Owed.{IsOwed}

-- WHAT IS TRUE of an acceptance (the odometer then), of a minute kept, of a closing (the line of the acceptance, the
-- second and the word), of what was owed to a card (the line, its end mark then, and the entries), of the entries that
-- it got at an acceptance, and of the line by which a card was judged
pub record Truths : Type 1 where
  pub accepted : Find → (odometer : ℕ) → Type 0
  pub kept : Kept → Type 0
  pub closed : Find → (second : ℕ) → Activity → Type 0
  pub owed : Card → Find → (mark : ℕ) → List Entry → Type 0
  pub got : Card → List Entry → Type 0
  pub entered : Card → Find → Type 0

-- what is true stays so
pub record Grow (t u : Truths) : Type 0 where
  pub accepted : (f : Find) (odometer : ℕ) → t.accepted f odometer → u.accepted f odometer
  pub kept : (k : Kept) → t.kept k → u.kept k
  pub closed : (f : Find) (second : ℕ) (word : Activity) → t.closed f second word → u.closed f second word
  pub owed : (c : Card) (f : Find) (mark : ℕ) (es : List Entry) → t.owed c f mark es → u.owed c f mark es
  pub got : (c : Card) (es : List Entry) → t.got c es → u.got c es
  pub entered : (c : Card) (f : Find) → t.entered c f → u.entered c f

-- WITH THESE MARKS each entry that was owed to a card has one of the card's
abbrev pub marked : List Mark → Truths → Truths
marked marks t = record t {
  owed = λ c f mark es. t.owed c f mark es
      × All (λ (e : Entry). IsMarked marks (device_of c) e.minute) es;
  got = λ c es. All (λ (e : Entry). IsMarked marks (device_of c) e.minute) es;
}

-- ---- a run so far

-- its seconds by the trace, and its power spans by the log
pub record Past : Type 0 where
  pub seconds : List TraceSecond
  pub spans : List (List ToldSecond)

-- the past of a run, by its log and its seconds
abbrev pub past_of : RunLog → List TraceSecond → Past
past_of log done = record { seconds = done; spans = spans_of (went log done).told }

-- A SECOND WITH POWER: it lies in this power span, behind these seconds of it; and these spans came before
pub record Rides (spans : List (List ToldSecond)) (second : ℕ) : Type 0 where
  pub earlier : List (List ToldSecond)
  pub span : List ToldSecond
  pub t : ToldSecond
  pub behind : List ToldSecond
  pub later : List (List ToldSecond)
  pub are : spans ≡ earlier ++ (span ++ t ∷ behind) ∷ later
  pub number : t.second.number ≡ second

-- what was travelled in these seconds, in km/h times seconds
abbrev pub driven_in : List ToldSecond → ℕ
driven_in span = sum_by (λ (s : Second). s.speed) (seconds_in span)

-- THE ODOMETER as a second with power begins: the start's, with the whole kilometres of each power span before, and of
-- this one so far
pub record IsOdometerBefore (rule : Rule) (start : ℕ) (spans : List (List ToldSecond)) (second odometer : ℕ) : Type
    0 where
  pub at : Rides spans second
  pub is : odometer ≡ odometer_after start (whole_legs rule at.earlier ++ driven_in at.span ∷ [])

-- and as it ends: with what was driven in it
pub record IsOdometerBehind (rule : Rule) (start : ℕ) (spans : List (List ToldSecond)) (second odometer : ℕ) : Type
    0 where
  pub at : Rides spans second
  pub is : odometer ≡ odometer_after start (whole_legs rule at.earlier ++ driven_in (at.span ++ at.t ∷ []) ∷ [])

-- THE WORD of a closing in a second: that of the slot in which the card was accepted, as an action of it withdraws the
-- card, by the seconds of its power span before it
pub record IsWordIn (rule : Rule) (p : Past) (f : Find) (second : ℕ) (word : Activity) : Type 0 where
  pub at : Rides p.spans second
  pub s : TraceSecond
  pub among : Contains p.seconds s
  pub number : s.number ≡ second
  pub is : IsWordOf rule at.span s f word

-- the last of so many actions of a second puts a card in a slot
pub record PutsIn (actions : List Action) (begun : ℕ) (slot : Slot) (c : Card) : Type 0 where
  pub front : List Action
  pub rest : List Action
  pub are : actions ≡ front ++ Insert slot c ∷ rest
  pub count : begun ≡ suc (length front)

-- A LINE IS OF A CARD's own entering: the last action that had begun puts it in the slot; or none had, as power came
pub record IsLineOf (seconds : List TraceSecond) (c : Card) (f : Find) : Type 0 where
  pub s : TraceSecond
  pub among : Contains seconds s
  pub number : s.number ≡ f.second
  pub puts : (f.begun ≡ 0) ⊎ PutsIn s.actions f.begun f.slot c

-- ---- the truths of a run

-- where the odometer stood so at the start: an acceptance tells the odometer of its second, a kept minute that of its
-- end, a closing has the word of its slot, and each line is of its card's own entering
abbrev pub truths_by : Rule → (start : ℕ) → Past → (owed : Card → Find → (mark : ℕ) → List Entry → Type 0) → Truths
truths_by rule start p owed = record {
  accepted = λ f odometer. IsOdometerBefore rule start p.spans f.second odometer;
  kept = λ k. IsOdometerBehind rule start p.spans (60 * k.entry.minute + 59) k.odometer.0;
  closed = λ f second word. IsWordIn rule p f second word;
  owed = owed;
  got = λ c es. Unit {0};
  entered = λ c f. IsLineOf p.seconds c f;
}

-- behind these seconds, by this log
abbrev pub truths_of : Origin → RunLog → List TraceSecond → Truths
truths_of o log done = truths_by (rule_of o) (odometer_at o.recording.unit) (past_of log done)
    (λ c. IsOwed (rule_of o) (start_at o) log done c (brought o.recording c).owed)

-- WITHIN A SECOND: by the log as it began, and with that second
abbrev pub truths_within : Origin → (began : RunLog) → List TraceSecond → TraceSecond → Truths
truths_within o began done s = truths_of o began (done ++ s ∷ [])

-- ---- a run goes on

-- EACH POWER SPAN GOES ON: a second with power lies in it behind the same ones, and had the same speed
abbrev pub SpansGoOn : (spans now : List (List ToldSecond)) → Type 0
SpansGoOn spans now = (u : ℕ) (r : Rides spans u) →
    (x : ToldSecond) × (behind : List ToldSecond) × (later : List (List ToldSecond))
    × (now ≡ r.earlier ++ (r.span ++ x ∷ behind) ∷ later) × (x.second.number ≡ r.t.second.number)
    × (x.second.speed ≡ r.t.second.speed)

-- A PAST GOES ON IN ANOTHER: it has its seconds, and each of its power spans goes on there.
pub record PastGoesOn (p q : Past) : Type 0 where
  pub seconds : (s : TraceSecond) → Contains p.seconds s → Contains q.seconds s
  pub spans : SpansGoOn p.spans q.spans
