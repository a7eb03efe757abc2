-- Worked rows: what is true of three seconds in which a card is withdrawn, and of two corners of one second.
use Rattle.std.proofs.Common.{◌≡◌, ◌∙◌, ⊎_elim, ℕ, true, false, ◌||◌, Some, List, [], ◌∷◌, ◌++◌, Contains, length, refl, ap, subst, arith}
use Rattle.std.specs.List.{list_any}
use Rattle.std.proofs.lemmas.List.Elements.{Contains-push_cases}
use Rattle.activity_codec.specs.declared.values.Activity.TheVariants as activity
use Rattle.activity_codec.specs.declared.values.Pick.TheVariants.{Work, Available}
use Rattle.activity_codec.specs.declared.values.Slot.TheVariants.{Driver, CoDriver}
use Rattle.trace_model.specs.declared.Action.{Action}
use Rattle.trace_model.specs.declared.Action.TheVariants.{Select, Insert, Withdraw, Tear}
use Rattle.trace_model.specs.declared.Card.TheVariants.{A, B}
use Rattle.trace_model.specs.Trace.{TraceSecond}
use Rattle.unit_model.specs.minute_model.declared.Rule.TheVariants.{Original}
use Rattle.unit_model.specs.minute_model.Span.{activity_next}
use Rattle.log_model.specs.declared.lines.Find.{Find}
use Rattle.log_model.specs.declared.lines.Verdict.TheVariants.{Accepted}
use Rattle.log_model.specs.Log.{RunLog, In, cut_in, is_torn_in, found_in}
use Rattle.log_model.specs.Course.{ToldSecond, Visit, Before, went, second_told}
use Rattle.log_model.specs.Spans.{spans_of}
use Rattle.unit_notes.specs.event_model.Events.{course_by}
use Rattle.device_calls.specs.history_model.Growth.{picking}
use Rattle.device_calls.specs.run_unit_course.Turn.{span_at}
use Rattle.run_acts.specs.Words.{picks_of, withdraws, IsWordOf}
use Rattle.run_acts.specs.Owed.{unlogged, IsPulledHere}
use Rattle.run_acts.specs.Truths.{past_of, IsOdometerBefore, IsOdometerBehind, IsWordIn}

-- nothing is told of them
abbrev quiet : RunLog
quiet = record { breaks = []; refused = []; finds = [] }

-- 7200 km/h for a second, work is selected, and then availability, with which the card is withdrawn
abbrev first : TraceSecond
first = record { number = 86400; has_power = true; speed = 7200; actions = [] }

abbrev second : TraceSecond
second = record { number = 86401; has_power = true; speed = 3600; actions = Select Driver Work ∷ [] }

abbrev third : TraceSecond
third = record { number = 86402; has_power = true; speed = 0; actions = Select Driver Available ∷ Withdraw Driver ∷ Select Driver Work ∷ [] }

abbrev trace : List TraceSecond
trace = first ∷ second ∷ third ∷ []

abbrev first_told : ToldSecond
first_told = second_told quiet (went quiet []).before first

abbrev next_told : ToldSecond
next_told = second_told quiet (went quiet (first ∷ [])).before second

abbrev last_told : ToldSecond
last_told = second_told quiet (went quiet (first ∷ second ∷ [])).before third

-- a card was accepted as power came with the first of them, and one with the third action of the third
abbrev before_all : Find
before_all = record { second = 86400; slot = Driver; verdict = Accepted 0; begun = 0 }

abbrev put_in : Find
put_in = record { second = 86402; slot = Driver; verdict = Accepted 0; begun = 3 }

-- they are one power span
one-span : spans_of (went quiet (first ∷ second ∷ third ∷ [])).told ≡ [] ++ ((first_told ∷ next_told ∷ []) ++ last_told ∷ []) ∷ []
unfolding went spans_of cut_in
one-span = refl

-- AN ACCEPTANCE in the third tells three kilometres more than the start
before-third : IsOdometerBefore Original 100 (past_of quiet trace).spans 86402 103
unfolding went cut_in
before-third = record { at = record { earlier = []; span = first_told ∷ next_told ∷ []; t = last_told; behind = []; later = []; are = one-span; number = refl }; is = refl }

-- as the second ends it is that too, and two as it begins
behind-second : IsOdometerBehind Original 100 (past_of quiet trace).spans 86401 103
unfolding went cut_in
behind-second = record { at = record { earlier = []; span = first_told ∷ []; t = next_told; behind = last_told ∷ []; later = []; are = one-span; number = refl }; is = refl }

before-second : IsOdometerBefore Original 100 (past_of quiet trace).spans 86401 102
unfolding went cut_in
before-second = record { at = record { earlier = []; span = first_told ∷ []; t = next_told; behind = last_told ∷ []; later = []; are = one-span; number = refl }; is = refl }

-- THE WORD of the withdrawal in it of a card that was accepted before is availability: what is selected behind it does not count
word-is : IsWordIn Original (past_of quiet trace) before_all 86402 activity.Available
unfolding went cut_in
word-is = record {
  at = record { earlier = []; span = first_told ∷ next_told ∷ []; t = last_told; behind = []; later = []; are = one-span; number = refl };
  s = third;
  among = (2, omega arith, refl);
  number = refl;
  is = record { front = []; since = Select Driver Available ∷ []; rest = Select Driver Work ∷ []; are = refl; begun = refl; first = refl; is = refl };
}

-- ---- a slot is emptied, filled and emptied again in one second

abbrev corner : TraceSecond
corner = record { number = 86402; has_power = true; speed = 0; actions = Withdraw Driver ∷ Select Driver Available ∷ Insert Driver B ∷ Withdraw Driver ∷ [] }

-- the card that sat there before is withdrawn with work, the other one with availability
first-word : IsWordOf Original (first_told ∷ next_told ∷ []) corner before_all activity.Work
unfolding went cut_in
first-word = record { front = []; since = []; rest = Select Driver Available ∷ Insert Driver B ∷ Withdraw Driver ∷ []; are = refl; begun = refl; first = refl; is = refl }

second-word : IsWordOf Original (first_told ∷ next_told ∷ []) corner put_in activity.Available
unfolding went cut_in
second-word = record { front = Withdraw Driver ∷ Select Driver Available ∷ Insert Driver B ∷ []; since = []; rest = []; are = refl; begun = refl; first = refl; is = refl }

-- and the first one with no other word
word-by : (front since rest : List Action) → corner.actions ≡ front ++ (since ++ Withdraw Driver ∷ rest) → length front ≡ 0 → list_any (withdraws Driver) since ≡ false →
    activity.Available ≡ activity_next Driver (picking (picks_of (front ++ since)) (span_at Original 86402 (first_told ∷ next_told ∷ []))) → ⊥
unfolding went cut_in
word-by [] [] rest are begun none is = absurd (let wrong : activity.Available ≡ activity.Work = is in cc)
word-by [] (x ∷ since) rest are begun none is =
    let same : Withdraw Driver ≡ x = cc in
    absurd (let wrong : true ≡ false = ap (λ (a : Action). withdraws Driver a || list_any (withdraws Driver) since) same ∙ none in cc)
word-by (x ∷ front) since rest are begun none is = absurd (omega (arith, begun))

not-second : IsWordOf Original (first_told ∷ next_told ∷ []) corner before_all activity.Available → ⊥
not-second w = word-by w.front w.since w.rest w.are w.begun w.first w.is

-- ---- a card is pulled out beside one that is withdrawn and put in again in the same second

abbrev both_in : Before
both_in = record { running = true; gone = false; given = true; slots = record { driver = Some (record { card = B; accepted = Some 86400 }); codriver = Some (record { card = A; accepted = Some 86400 }) } }

abbrev beside : TraceSecond
beside = record { number = 86402; has_power = true; speed = 0; actions = Withdraw CoDriver ∷ Tear Driver ∷ Insert CoDriver A ∷ [] }

-- by its actions the driver's card was pulled out,
pulled-one : (course_by unlogged both_in beside 3).pulled ≡ record { phase = In 2; slot = Driver; card = B } ∷ []
unfolding cut_in is_torn_in found_in
pulled-one = refl

-- so nothing is owed to the other one for that
not-pulled : (m : ℕ) → IsPulledHere Original both_in beside [] 3 A m → ⊥
not-pulled m is = ⊎_elim
    (λ (none : Contains {X = Visit} [] is.pulled.0). absurd (let few = none.1 in omega (arith, few)))
    (λ (same : record { phase = In 2; slot = Driver; card = B } ≡ is.pulled.0). absurd (let wrong : B ≡ A = ap (λ (v : Visit). v.card) same ∙ is.pulled.1 in cc))
    (Contains-push_cases {X = Visit} [] (record { phase = In 2; slot = Driver; card = B }) is.pulled.0 (subst (λ (vs : List Visit). Contains vs is.pulled.0) pulled-one is.pulled.2))
