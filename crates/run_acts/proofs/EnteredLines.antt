-- What a run has by value behind a card that entered.
use Rattle.std.proofs.Common.{◌≡◌, ℕ, ◌+◌, ◌-◌, ◌≤◌, Bool, true, false, cond, List, [], ◌∷◌, ◌++◌, drop, length, map, Contains, All, nat_lt, refl, ap, sym, subst, ◌∙◌, arith, append-nil, append_assoc, length-append}
use Rattle.std.proofs.lemmas.Bool.{lt-ltb}
use Rattle.std.proofs.lemmas.List.Elements.{All-nil, All-cons, Contains-append_left, Contains-append_right, Contains-push}
use Rattle.activity_codec.specs.declared.entries.Entry.{Entry}
use Rattle.trace_model.specs.declared.Card.{Card}
use Rattle.log_model.specs.run_model.declared.Device.{Device}
use Rattle.minute_rules.specs.Kept.{Kept}
use Rattle.log_model.specs.declared.lines.Break.{Break}
use Rattle.log_model.specs.declared.lines.Find.{Find}
use Rattle.log_model.specs.declared.lines.Mark.{Mark}
use Rattle.log_model.specs.declared.lines.Refused.{Refused}
use Rattle.log_model.specs.Causes.{device_of}
use Rattle.log_model.specs.ByHand.{by_slots, stops}
use Rattle.device_calls.specs.history_model.Completeness.{IsMarked}
use Rattle.run_crew.specs.declared.cabin.Cabin.{Cabin}
use Rattle.run_minutes.specs.run_devices.Told.{card_marks}
use Rattle.run_outcome.specs.Lines.{Listed}
use Rattle.run_outcome.specs.declared.outcome.Outcome.{Outcome}
use Rattle.run_minutes.specs.declared.keeper.Keeper.{Keeper}
use Rattle.run_minutes.specs.Keeping.{with_lines}
use Rattle.run_insertion.specs.Entering.{Ending, Unfit, Ahead, Fell, Unasked, Unnoted, Seated, Lost, and_mark, and_marks, last_of, outcome_by}
use Rattle.run_insertion.specs.declared.lines.Entering.{Entering}
use Rattle.run_record.specs.Recorded.{Values}
use Rattle.run_acts.specs.Entered.{values_with}

-- ---- the marks of entries, where there is room

marked : (device : Device) (clock : ℕ) (es : List Entry) (l : Listed Mark) → length l.items + length es ≤ l.room →
    (and_marks device clock es l).items ≡ l.items ++ map (λ (e : Entry). record { device = device; minute = e.minute; clock = clock }) es
marked device clock [] l room = sym (append-nil l.items)
marked device clock (e ∷ es) l room =
    let mark : Mark = record { device = device; minute = e.minute; clock = clock } in
    let one : and_mark mark l ≡ with_lines (mark ∷ []) l = ap (λ (b : Bool). cond b (with_lines (mark ∷ []) l) l) (lt-ltb (length l.items) l.room (omega (arith, room))) in
    let longer = length-append l.items (mark ∷ []) in
    ap (λ (m : Listed Mark). (and_marks device clock es m).items) one
    ∙ marked device clock es (with_lines (mark ∷ []) l) (omega (arith, room, longer))
    ∙ append_assoc l.items (mark ∷ []) (map (λ (e : Entry). record { device = device; minute = e.minute; clock = clock }) es)

all-last : (es : List Entry) (many : ℕ) → many ≡ length es → last_of es many ≡ es
all-last es many is = ap (λ (n : ℕ). drop n es) (let none : length es - many ≡ 0 = omega (arith, is) in none)

pub marks-are : (which : Card) (clock : ℕ) (es : List Entry) (many : ℕ) (l : Listed Mark) → many ≡ length es → length l.items + length es ≤ l.room →
    (and_marks (device_of which) clock (last_of es many) l).items ≡ l.items ++ card_marks which clock es
marks-are which clock es many l is room = ap (λ (fs : List Entry). (and_marks (device_of which) clock fs l).items) (all-last es many is) ∙ marked (device_of which) clock es l room

-- each of them has one,
pub own-marks : (c : Card) (clock : ℕ) (ms : List Mark) (es : List Entry) → All (λ (e : Entry). IsMarked (ms ++ card_marks c clock es) (device_of c) e.minute) es
own-marks c clock ms [] = All-nil (λ (e : Entry). IsMarked (ms ++ []) (device_of c) e.minute)
own-marks c clock ms (e ∷ es) =
    let m : Mark = record { device = device_of c; minute = e.minute; clock = clock } in
    All-cons (λ (d : Entry). IsMarked (ms ++ m ∷ card_marks c clock es) (device_of c) d.minute) e es
    (m, Contains-append_right ms (m ∷ card_marks c clock es) m (Contains-append_left (m ∷ []) (card_marks c clock es) m (Contains-push [] m)), refl, refl)
    (subst (λ (xs : List Mark). All (λ (d : Entry). IsMarked xs (device_of c) d.minute) es) (append_assoc ms (m ∷ []) (card_marks c clock es)) (own-marks c clock (ms ++ m ∷ []) es))

-- and none is lost,
one-stays : (m : Mark) (l : Listed Mark) (mark : Mark) → Contains l.items mark → (b : Bool) → Contains (cond {A = Listed Mark} b (with_lines (m ∷ []) l) l).items mark
one-stays m l mark among true = Contains-append_left l.items (m ∷ []) mark among
one-stays m l mark among false = among

marks-stay : (device : Device) (clock : ℕ) (es : List Entry) (l : Listed Mark) (mark : Mark) → Contains l.items mark → Contains (and_marks device clock es l).items mark
marks-stay device clock [] l mark among = among
marks-stay device clock (e ∷ es) l mark among =
    let m : Mark = record { device = device; minute = e.minute; clock = clock } in
    marks-stay device clock es (and_mark m l) mark (one-stays m l mark among (nat_lt (length l.items) l.room))

-- whatever became of the card
pub marks-behind : (ending : Ending) (e : Entering) (out : Outcome) (mark : Mark) → Contains out.marks.items mark → Contains (outcome_by ending e out).marks.items mark
marks-behind (Unfit fid place) e out mark among = among
marks-behind (Ahead stored) e out mark among = among
marks-behind Fell e out mark among = among
marks-behind Unasked e out mark among = among
marks-behind (Unnoted entered clock) e out mark among = marks-stay (device_of e.which) clock (last_of entered.owed.items entered.replayed) out.marks mark among
marks-behind (Seated entered clock entry) e out mark among = marks-stay (device_of e.which) clock (last_of entered.owed.items entered.replayed) out.marks mark among
marks-behind (Lost entered clock entry) e out mark among = marks-stay (device_of e.which) clock (last_of entered.owed.items entered.replayed) out.marks mark among

-- ---- the values

pub values-as : (k v : Keeper) (out after : Outcome) (unfound next begun : ℕ) (minutes : Kept) → v ≡ k → after ≡ out → values_with v after unfound next begun minutes ≡ values_with k out unfound next begun minutes
values-as k v out after unfound next begun minutes one two = ap (λ (q : Keeper). values_with q after unfound next begun minutes) one ∙ ap (λ (o : Outcome). values_with k o unfound next begun minutes) two

-- with these lines
abbrev pub lined : (breaks : List Break) (refused : List Refused) (finds : List Find) (marks : List Mark) (cabin : Cabin) (unfound next begun : ℕ) (minutes : Kept) (odometer : ℕ) → Values
lined breaks refused finds marks cabin unfound next begun minutes odometer = record {
  log = record { breaks = breaks; refused = by_slots refused; finds = finds };
  marks = marks;
  cabin = cabin;
  unfound = unfound;
  next = next;
  begun = begun;
  minutes = minutes;
  odometer = odometer;
  stops = stops refused;
}

pub lined-as : (breaks breaks' : List Break) (refused : List Refused) (finds finds' : List Find) (marks marks' : List Mark) (cabin : Cabin) (unfound next begun : ℕ) (minutes : Kept) (odometer : ℕ) → breaks ≡ breaks' → finds ≡ finds' → marks ≡ marks' →
    lined breaks refused finds marks cabin unfound next begun minutes odometer ≡ lined breaks' refused finds' marks' cabin unfound next begun minutes odometer
lined-as breaks breaks' refused finds finds' marks marks' cabin unfound next begun minutes odometer one two three =
    ap (λ (l : List Break). lined l refused finds marks cabin unfound next begun minutes odometer) one
    ∙ ap (λ (l : List Find). lined breaks' refused l marks cabin unfound next begun minutes odometer) two
    ∙ ap (λ (l : List Mark). lined breaks' refused finds' l cabin unfound next begun minutes odometer) three
