-- The seconds of a turn by the log: with power, with a cut at their end, and without.
use Rattle.std.proofs.Common.{◌≡◌, ℕ, zero, suc, ◌+◌, ◌%◌, ◌<◌, ◌≤◌, Bool, true, false, cond, not, ◌&&◌, Option, Some, None, List, [], ◌∷◌, ◌++◌, length, fold, refl, ap, sym, ◌∙◌, arith, nat_eq, nat_lt, is_some, append_assoc, append-nil}
use Rattle.std.specs.List.{AllByRecursion}
use Rattle.std.proofs.lemmas.Bool.Decides.{nat_tests}
use Rattle.std.proofs.lemmas.List.Sums.{fold-append}
use Rattle.activity_codec.specs.declared.values.Slot.{Slot}
use Rattle.activity_codec.specs.declared.values.Slot.TheVariants.{Driver, CoDriver}
use Rattle.activity_codec.specs.declared.values.Pick.{Pick}
use Rattle.trace_model.specs.declared.Action.{Action}
use Rattle.trace_model.specs.declared.Action.TheVariants.{Select, Insert, Withdraw, Tear, Place, Manual}
use Rattle.trace_model.specs.Trace.{TraceSecond, driven, dark}
use Rattle.run_model.specs.Span.{picks_of}
use Rattle.log_model.specs.declared.lines.Verdict.{Verdict}
use Rattle.log_model.specs.Log.{RunLog, Phase, In, Keeping, cut_in, is_torn_in, found_in}
use Rattle.log_model.specs.Slots.{Slots}
use Rattle.log_model.specs.Course.{Course, ToldSecond, Went, Before, Moved, moved_by, unmoved, slot_told, both_told, begins, acted, all_acted, fresh, cut_told, lit_course, dark_course, has_power, second_told, before_next, went_on, went, not_begun}
use Rattle.run_unit_course.specs.Turn.{IsSelection, empty_slots, plain_course, lit_second, lit_seconds, dark_second, dark_seconds}
use Rattle.run_unit_course.specs.Followed.{going_before, lost_before}

-- nothing but a cut is told of a second
pub record IsQuiet (log : RunLog) (u : ℕ) : Type 0 where
  pub torn : (p : Phase) (slot : Slot) → is_torn_in log u p slot ≡ false
  pub found : (p : Phase) (slot : Slot) → found_in log u p slot ≡ []

nothing : (b : Bool) (vs : List Verdict) → vs ≡ [] → cond b vs [] ≡ []
nothing true vs is = is
nothing false vs is = refl

slot-plain : (log : RunLog) (u : ℕ) (p : Phase) (moved : Moved) (slot : Slot) (picks : List (Slot × Pick)) → IsQuiet log u → slot_told log u p moved slot (plain_course picks []) ≡ plain_course picks []
slot-plain log u p moved Driver picks quiet =
    rw (quiet.torn p Driver) (rw (nothing (moved.enters Driver) (found_in log u p Driver) (quiet.found p Driver)) refl)
slot-plain log u p moved CoDriver picks quiet =
    rw (quiet.torn p CoDriver) (rw (nothing (moved.enters CoDriver) (found_in log u p CoDriver) (quiet.found p CoDriver)) refl)

both-plain : (log : RunLog) (u : ℕ) (p : Phase) (moved : Moved) (picks : List (Slot × Pick)) → IsQuiet log u → both_told log u p moved (plain_course picks []) ≡ plain_course picks []
both-plain log u p moved picks quiet =
    ap (slot_told log u p moved CoDriver) (slot-plain log u p moved Driver picks quiet) ∙ slot-plain log u p moved CoDriver picks quiet

-- selections that are carried out, and selections that a cut came before
acted-plain : (log : RunLog) (s : TraceSecond) (n : ℕ) (slot : Slot) (pick : Pick) (picks : List (Slot × Pick)) → IsQuiet log s.number → begins (cut_in log s.number) n ≡ true →
    acted log s n (Select slot pick) (plain_course picks []) ≡ plain_course (picks ++ (slot, pick) ∷ []) []
acted-plain log s n slot pick picks quiet begun =
    rw begun (both-plain log s.number (In (n + 1)) (moved_by n None (Select slot pick) empty_slots) (picks ++ (slot, pick) ∷ []) quiet)

pub all-acted : (log : RunLog) (s : TraceSecond) (n : ℕ) (actions : List Action) (picks : List (Slot × Pick)) → IsQuiet log s.number → AllByRecursion IsSelection actions →
    ((m : ℕ) → m < n + length actions → begins (cut_in log s.number) m ≡ true) → all_acted log s n actions (plain_course picks []) ≡ plain_course (picks ++ picks_of actions) []
all-acted log s n [] picks quiet each begun = ap (λ (ps : List (Slot × Pick)). plain_course ps []) (sym (append-nil picks))
all-acted log s n (Select slot pick ∷ actions) picks quiet each begun =
    ap (all_acted log s (n + 1) actions) (acted-plain log s n slot pick picks quiet (begun n (omega arith)))
    ∙ all-acted log s (n + 1) actions (picks ++ (slot, pick) ∷ []) quiet each.1 (λ m lt. begun m (omega (arith, lt)))
    ∙ ap (λ (ps : List (Slot × Pick)). plain_course ps []) (append_assoc picks ((slot, pick) ∷ []) (picks_of actions))
all-acted log s n (Insert slot card ∷ actions) picks quiet each begun = absurd each.0
all-acted log s n (Withdraw slot ∷ actions) picks quiet each begun = absurd each.0
all-acted log s n (Tear slot ∷ actions) picks quiet each begun = absurd each.0
all-acted log s n (Place slot ending country region ∷ actions) picks quiet each begun = absurd each.0
all-acted log s n (Manual slot pick minute ∷ actions) picks quiet each begun = absurd each.0

none-acted : (log : RunLog) (s : TraceSecond) (n : ℕ) (actions : List Action) (picks : List (Slot × Pick)) → AllByRecursion IsSelection actions → ((m : ℕ) → begins (cut_in log s.number) m ≡ false) →
    all_acted log s n actions (plain_course picks []) ≡ plain_course picks []
none-acted log s n [] picks each none = refl
none-acted log s n (Select slot pick ∷ actions) picks each none =
    ap (all_acted log s (n + 1) actions) (rw (none n) refl) ∙ none-acted log s (n + 1) actions picks each.1 none
none-acted log s n (Insert slot card ∷ actions) picks each none = absurd each.0
none-acted log s n (Withdraw slot ∷ actions) picks each none = absurd each.0
none-acted log s n (Tear slot ∷ actions) picks each none = absurd each.0
none-acted log s n (Place slot ending country region ∷ actions) picks each none = absurd each.0
none-acted log s n (Manual slot pick minute ∷ actions) picks each none = absurd each.0

-- a second that the trace gives power
abbrev pub given_second : (number speed : ℕ) → List Action → TraceSecond
given_second number speed actions = record { number = number; has_power = true; speed = speed; actions = actions }

cut-plain : (b : Bool) (picks : List (Slot × Pick)) → cut_told b (plain_course picks []) ≡ plain_course picks []
cut-plain true picks = refl
cut-plain false picks = refl

fresh-plain : (starts : Bool) → fresh starts empty_slots ≡ plain_course [] []
fresh-plain true = refl
fresh-plain false = refl

-- a second by its course
abbrev lit_as : (number speed : ℕ) → (starts : Bool) → Course → (cut : Bool) → ToldSecond
lit_as number speed starts c cut =
    record { second = record { number = number; speed = speed; picks = c.picks }; given = true; lit = true; starts = starts; cut = cut; course = c }

abbrev dark_as : (number speed : ℕ) → Course → ToldSecond
dark_as number speed c =
    record { second = record { number = number; speed = speed; picks = [] }; given = true; lit = false; starts = false; cut = false; course = c }

-- with power, whatever selections are carried out
lit-by : (log : RunLog) (before : Before) (number speed : ℕ) (actions : List Action) (picks : List (Slot × Pick)) (cut : Option ℕ) → has_power before (given_second number speed actions) ≡ true → before.slots ≡ empty_slots →
    IsQuiet log number → cut_in log number ≡ cut → all_acted log (given_second number speed actions) 0 actions (plain_course [] []) ≡ plain_course picks [] →
    second_told log before (given_second number speed actions) ≡ lit_second number speed picks (not before.running) (is_some cut)
lit-by log before number speed actions picks cut power slots quiet is acts =
    ap (λ (b : Bool). cond b (lit_as number speed (not before.running) (lit_course log (given_second number speed actions) (not before.running) before.slots) (is_some (cut_in log number))) (dark_as number speed (dark_course (given_second number speed actions) before.slots))) power
    ∙ ap (λ (slots : Slots). lit_as number speed (not before.running) (lit_course log (given_second number speed actions) (not before.running) slots) (is_some (cut_in log number))) slots
    ∙ ap (λ (c : Course). lit_as number speed (not before.running) c (is_some (cut_in log number))) course
    ∙ ap (λ (o : Option ℕ). lit_as number speed (not before.running) (plain_course picks []) (is_some o)) is
  where
    course : lit_course log (given_second number speed actions) (not before.running) empty_slots ≡ plain_course picks []
    course =
        ap (λ (c : Course). cut_told (is_some (cut_in log number)) (both_told log number Keeping (unmoved false) (all_acted log (given_second number speed actions) 0 actions c)))
        (ap (both_told log number (In 0) (unmoved (not before.running))) (fresh-plain (not before.running)) ∙ both-plain log number (In 0) (unmoved (not before.running)) [] quiet)
        ∙ ap (λ (c : Course). cut_told (is_some (cut_in log number)) (both_told log number Keeping (unmoved false) c)) acts
        ∙ ap (cut_told (is_some (cut_in log number))) (both-plain log number Keeping (unmoved false) picks quiet)
        ∙ cut-plain (is_some (cut_in log number)) picks

-- with no cut
pub lit-told : (log : RunLog) (before : Before) (number speed : ℕ) (actions : List Action) → has_power before (given_second number speed actions) ≡ true → before.slots ≡ empty_slots → IsQuiet log number →
    cut_in log number ≡ None → AllByRecursion IsSelection actions → second_told log before (given_second number speed actions) ≡ lit_second number speed (picks_of actions) (not before.running) false
lit-told log before number speed actions power slots quiet none each =
    lit-by log before number speed actions (picks_of actions) None power slots quiet none
    (all-acted log (given_second number speed actions) 0 actions [] quiet each (λ m lt. ap (λ (o : Option ℕ). begins o m) none))

-- with a cut behind all actions
pub cut-told : (log : RunLog) (before : Before) (number speed : ℕ) (actions : List Action) → has_power before (given_second number speed actions) ≡ true → before.slots ≡ empty_slots → IsQuiet log number →
    cut_in log number ≡ Some (length actions) → AllByRecursion IsSelection actions → second_told log before (given_second number speed actions) ≡ lit_second number speed (picks_of actions) (not before.running) true
cut-told log before number speed actions power slots quiet some each =
    lit-by log before number speed actions (picks_of actions) (Some (length actions)) power slots quiet some
    (all-acted log (given_second number speed actions) 0 actions [] quiet each (λ m lt. ap (λ (o : Option ℕ). begins o m) some ∙ within m (omega (arith, lt))))
  where
    within : (m : ℕ) → m < length actions → nat_lt m (length actions) ≡ true
    within m lt = grind (arith, nat_tests)

-- with a cut before any
pub failed-told : (log : RunLog) (before : Before) (number speed : ℕ) (actions : List Action) → has_power before (given_second number speed actions) ≡ true → before.slots ≡ empty_slots → IsQuiet log number →
    cut_in log number ≡ Some 0 → AllByRecursion IsSelection actions → second_told log before (given_second number speed actions) ≡ lit_second number speed [] (not before.running) true
failed-told log before number speed actions power slots quiet some each =
    lit-by log before number speed actions [] (Some 0) power slots quiet some
    (none-acted log (given_second number speed actions) 0 actions [] each (λ m. ap (λ (o : Option ℕ). begins o m) some ∙ never m))
  where
    never : (m : ℕ) → nat_lt m 0 ≡ false
    never m = grind (arith, nat_tests)

-- without power
pub dark-told : (log : RunLog) (before : Before) (s : TraceSecond) → has_power before s ≡ false → before.slots ≡ empty_slots → second_told log before s ≡ dark_second s.number s.speed s.has_power s.actions
dark-told log before s none slots = rw (none, slots) refl

-- SECONDS, one after another
pub went-parts : (log : RunLog) (ss more : List TraceSecond) → went log (ss ++ more) ≡ fold (went_on log) (went log ss) more
unfolding went
went-parts log ss more = fold-append (went_on log) not_begun ss more

and-false : (b : Bool) → (b && false) ≡ false
and-false true = refl
and-false false = refl

and-true : (b : Bool) → (b && true) ≡ b
and-true true = refl
and-true false = refl

-- what comes behind them
pub lit-next : (before : Before) (number speed : ℕ) (picks : List (Slot × Pick)) (starts : Bool) → before_next before (lit_second number speed picks starts false) ≡ going_before
lit-next before number speed picks starts = rw (and-false before.gone) refl

one-on : (log : RunLog) (told : List ToldSecond) (before : Before) (s : TraceSecond) (t : ToldSecond) (next : Before) → second_told log before s ≡ t → before_next before t ≡ next → went_on log (record { told = told; before = before }) s ≡ record { told = told ++ t ∷ []; before = next }
one-on log told before s t next is goes =
    ap (λ (x : ToldSecond). record { told = told ++ x ∷ []; before = before_next before x }) is ∙ ap (λ (b : Before). record { told = told ++ t ∷ []; before = b }) goes

pub going-on : (log : RunLog) (told : List ToldSecond) (n number speed : ℕ) → ((u : ℕ) → IsQuiet log u) → ((u : ℕ) → number ≤ u → cut_in log u ≡ None) →
    fold (went_on log) (record { told = told; before = going_before }) (driven n number speed []) ≡ record { told = told ++ lit_seconds n number speed [] false; before = going_before }
going-on log told zero number speed quiet none = ap (λ (ts : List ToldSecond). record { told = ts; before = going_before }) (sym (append-nil told))
going-on log told (suc n) number speed quiet none =
    ap (λ (w : Went). fold (went_on log) w (driven n (number + 1) speed []))
    (one-on log told going_before (given_second number speed []) (lit_second number speed [] false false) going_before (lit-told log going_before number speed [] refl refl (quiet number) (none number (omega arith)) tt) (lit-next going_before number speed [] false))
    ∙ going-on log (told ++ lit_second number speed [] false false ∷ []) n (number + 1) speed quiet (λ u le. none u (omega (arith, le)))
    ∙ ap (λ (ts : List ToldSecond). record { told = ts; before = going_before }) (append_assoc told (lit_second number speed [] false false ∷ []) (lit_seconds n (number + 1) speed [] false))

-- a turn with power: it is kept, or begins
pub turn-goes : (log : RunLog) (told : List ToldSecond) (before : Before) (n number speed : ℕ) (actions : List Action) → has_power before (given_second number speed actions) ≡ true → before.slots ≡ empty_slots →
    ((u : ℕ) → IsQuiet log u) → ((u : ℕ) → number ≤ u → cut_in log u ≡ None) → AllByRecursion IsSelection actions →
    fold (went_on log) (record { told = told; before = before }) (driven (suc n) number speed actions)
    ≡ record { told = told ++ lit_seconds (suc n) number speed (picks_of actions) (not before.running); before = going_before }
turn-goes log told before n number speed actions power slots quiet none each =
    ap (λ (w : Went). fold (went_on log) w (driven n (number + 1) speed []))
    (one-on log told before (given_second number speed actions) (lit_second number speed (picks_of actions) (not before.running) false) going_before (lit-told log before number speed actions power slots (quiet number) (none number (omega arith)) each) (lit-next before number speed (picks_of actions) (not before.running)))
    ∙ going-on log (told ++ lit_second number speed (picks_of actions) (not before.running) false ∷ []) n (number + 1) speed quiet (λ u le. none u (omega (arith, le)))
    ∙ ap (λ (ts : List ToldSecond). record { told = ts; before = going_before }) (append_assoc told (lit_second number speed (picks_of actions) (not before.running) false ∷ []) (lit_seconds n (number + 1) speed [] false))

-- after a failed call, within a minute: no power
pub lost-goes : (log : RunLog) (told : List ToldSecond) (n number speed : ℕ) (actions : List Action) → 0 < number % 60 → number % 60 + n ≤ 60 →
    fold (went_on log) (record { told = told; before = lost_before }) (driven n number speed actions) ≡ record { told = told ++ dark_seconds n number speed true actions; before = lost_before }
lost-goes log told zero number speed actions some within = ap (λ (ts : List ToldSecond). record { told = ts; before = lost_before }) (sym (append-nil told))
lost-goes log told (suc zero) number speed actions some within =
    one-on log told lost_before (given_second number speed actions) (dark_second number speed true actions) lost_before (dark-told log lost_before (given_second number speed actions) (no number some) refl) refl
  where
    no : (number : ℕ) → 0 < number % 60 → has_power lost_before (given_second number speed actions) ≡ false
    no number some = let other : nat_eq (number % 60) 0 ≡ false = grind (arith, nat_tests) in rw other refl
lost-goes log told (suc (suc n)) number speed actions some within =
    let step : (number + 1) % 60 ≡ number % 60 + 1 = omega (arith, within) in
    ap (λ (w : Went). fold (went_on log) w (driven (suc n) (number + 1) speed []))
    (one-on log told lost_before (given_second number speed actions) (dark_second number speed true actions) lost_before (dark-told log lost_before (given_second number speed actions) (no number some) refl) refl)
    ∙ lost-goes log (told ++ dark_second number speed true actions ∷ []) (suc n) (number + 1) speed [] (omega (arith, step)) (omega (arith, step, within))
    ∙ ap (λ (ts : List ToldSecond). record { told = ts; before = lost_before }) (append_assoc told (dark_second number speed true actions ∷ []) (dark_seconds (suc n) (number + 1) speed true []))
  where
    no : (number : ℕ) → 0 < number % 60 → has_power lost_before (given_second number speed actions) ≡ false
    no number some = let other : nat_eq (number % 60) 0 ≡ false = grind (arith, nat_tests) in rw other refl

-- an `off` line
abbrev pub off_before : Bool → Before
off_before gone = record { running = false; gone = gone; given = false; slots = empty_slots }

off-more : (log : RunLog) (told : List ToldSecond) (gone : Bool) (n number : ℕ) →
    fold (went_on log) (record { told = told; before = off_before gone }) (dark n number) ≡ record { told = told ++ dark_seconds n number 0 false []; before = off_before gone }
off-more log told gone zero number = ap (λ (ts : List ToldSecond). record { told = ts; before = off_before gone }) (sym (append-nil told))
off-more log told gone (suc n) number =
    ap (λ (w : Went). fold (went_on log) w (dark n (number + 1)))
    (one-on log told (off_before gone) (record { number = number; has_power = false; speed = 0; actions = [] }) (dark_second number 0 false []) (off_before gone) (dark-told log (off_before gone) (record { number = number; has_power = false; speed = 0; actions = [] }) refl refl) (ap off_before (and-true gone)))
    ∙ off-more log (told ++ dark_second number 0 false [] ∷ []) gone n (number + 1)
    ∙ ap (λ (ts : List ToldSecond). record { told = ts; before = off_before gone }) (append_assoc told (dark_second number 0 false [] ∷ []) (dark_seconds n (number + 1) 0 false []))

pub off-goes : (log : RunLog) (told : List ToldSecond) (before : Before) (n number : ℕ) → before.slots ≡ empty_slots →
    fold (went_on log) (record { told = told; before = before }) (dark (suc n) number) ≡ record { told = told ++ dark_seconds (suc n) number 0 false []; before = off_before before.gone }
off-goes log told before n number slots =
    ap (λ (w : Went). fold (went_on log) w (dark n (number + 1)))
    (one-on log told before (record { number = number; has_power = false; speed = 0; actions = [] }) (dark_second number 0 false []) (off_before before.gone) (dark-told log before (record { number = number; has_power = false; speed = 0; actions = [] }) refl slots) (ap off_before (and-true before.gone)))
    ∙ off-more log (told ++ dark_second number 0 false [] ∷ []) before.gone n (number + 1)
    ∙ ap (λ (ts : List ToldSecond). record { told = ts; before = off_before before.gone }) (append_assoc told (dark_second number 0 false [] ∷ []) (dark_seconds n (number + 1) 0 false []))
