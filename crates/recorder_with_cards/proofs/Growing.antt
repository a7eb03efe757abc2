-- How the outcome of a run grows: its marks, breaks and finds stand behind those of before, and none of a line more is of an earlier second.
use Rattle.std.proofs.Common.{◌≡◌, ◌∙◌, ⊎_elim, ℕ, suc, ◌+◌, ◌-◌, ◌<◌, ◌≤◌, Bool, true, false, Option, Some, None, List, [], ◌∷◌, ◌++◌, length, map, take, drop, refl, ap, sym, subst, arith, append-nil, append_assoc}
use Rattle.std.specs.Prelude.{min, nat_lt, if◌then◌else◌}
use Rattle.std.specs.List.{AllByRecursion}
use Rattle.std.proofs.lemmas.List.{map-append, take-append-drop}
use Rattle.activity_codec.specs.declared.entries.Entry.{Entry}
use Rattle.activity_codec.specs.declared.values.Slot.{Slot}
use Rattle.activity_codec.specs.declared.values.Slot.TheVariants.{Driver, CoDriver}
use Rattle.trace_model.specs.declared.Card.{Card}
use Rattle.trace_model.specs.declared.Action.{Action}
use Rattle.trace_model.specs.declared.Action.TheVariants.{Select, Insert, Withdraw, Tear, Place, Manual}
use Rattle.trace_model.specs.declared.Item.{Item}
use Rattle.trace_model.specs.declared.Item.TheVariants.{Run as Driven, Off, Act}
use Rattle.log_model.specs.run_model.declared.Device.{Device}
use Rattle.minute_rules.specs.minute_model.declared.Minute.{Minute}
use Rattle.log_model.specs.declared.lines.Break.{Break}
use Rattle.log_model.specs.declared.lines.Break.TheVariants.{Cut, Tear as Torn}
use Rattle.log_model.specs.declared.lines.Find.{Find}
use Rattle.log_model.specs.declared.lines.Mark.{Mark}
use Rattle.log_model.specs.declared.lines.SlotFault.{SlotFault}
use Rattle.log_model.specs.Log.{RunLog}
use Rattle.log_model.specs.Causes.{device_of, second_of}
use Rattle.device_calls.specs.run_unit_course.Lines.{found_from}
use Rattle.run_minutes.specs.card_slots.Calls.{seat_in, card_in}
use Rattle.device_calls.specs.safety_model.Safe.{Devices}
use Rattle.run_acts.specs.unit_notes.declared.unit_event.UnitEvent.{UnitEvent}
use Rattle.run_outcome.specs.Lines.{Listed, cut_at, with_kept}
use Rattle.run_outcome.specs.declared.outcome.Outcome.{Outcome}
use Rattle.run_minutes.specs.declared.keeper.Moment.{Moment}
use Rattle.run_minutes.specs.Keeping.{with_lines, marks_by as fate_marks}
use Rattle.run_minutes.specs.Minutes.{KeepingState, Round, AreKept, none, more, AreKeptUpTo, present_at, unit_mark, told_after}
use Rattle.run_insertion.specs.declared.lines.Entering.{Entering}
use Rattle.run_insertion.specs.Entering.{Ending, Unfit, Ahead, Fell, Unasked, Unnoted, Seated, Lost, marks_by, finds_by, ending_of, and_mark, and_marks, last_of}
use Rattle.run_acts.specs.declared.run.Run.{Run}
use Rattle.run_acts.specs.Acting.{told_of, IsSettled, IsClosedBehind, IsWithdrawn, now_moment}
use Rattle.run_acts.specs.Turning as turning
use Rattle.run_acts.specs.Noting.{GapReach}
use Rattle.run_acts.specs.Power.{is_lit, off_cut}
use Rattle.run_acts.specs.Going.{largest_number}
use Rattle.run_acts.specs.Recording.{log_of}
use Rattle.run_acts.proofs.RingedLines.{up-to-tells}
use Rattle.run_acts.proofs.RingedSecond.{tears-here_}
use Rattle.recorder_with_cards.specs.Accepting.{IsAccepted, IsInserted}
use Rattle.recorder_with_cards.specs.Acting.{IsDone, IsCarriedOut, IsActedBy, IsActed, IsItemActed, AreActed, moment_of, cut_breaks}
use Rattle.recorder_with_cards.specs.Moments.{as_first_told, TellsMoreSince}
use Rattle.recorder_with_cards.specs.Noting.{JudgesThese, JudgesBoth, JudgesThenGap, WakeReach, Unmended, AtDriver, AtCoDriver, NoneBefore, AtGap, AreWakingEvents, EndsWaking, read_run, read_outcome, NotesPowerOn}
use Rattle.recorder_with_cards.proofs.HereDone.{TellsMoreOf}
use Rattle.recorder_with_cards.proofs.SpeedsSoFar.{goes-awake, item-so, all-so}

-- ---- lists

-- more stand behind
abbrev pub GrowsBy : {T : Type 0} → (old new : List T) → Type 0
GrowsBy {T} old new = (more : List T) × (new ≡ old ++ more)

grows-same : {T : Type 0} (a b : List T) → b ≡ a → GrowsBy a b
grows-same a b is = ([], is ∙ sym (append-nil a))

grows-then : {T : Type 0} (a b c : List T) → GrowsBy a b → GrowsBy b c → GrowsBy a c
grows-then {T} a b c first next = (first.0 ++ next.0, next.1 ∙ ap (λ (l : List T). l ++ next.0) first.1 ∙ append_assoc a first.0 next.0)

-- and of each that does something holds
abbrev MoreOf : {T : Type 0} → (T → Type 0) → (old new : List T) → Type 0
MoreOf {T} P old new = (more : List T) × (new ≡ old ++ more) × AllByRecursion P more

all-both : {T : Type 0} (P : T → Type 0) (xs ys : List T) → AllByRecursion P xs → AllByRecursion P ys → AllByRecursion P (xs ++ ys)
all-both P [] ys one two = two
all-both P (x ∷ xs) ys one two = (one.0, all-both P xs ys one.1 two)

all-weaker : {T : Type 0} (P Q : T → Type 0) (xs : List T) → ((x : T) → P x → Q x) → AllByRecursion P xs → AllByRecursion Q xs
all-weaker P Q [] f all = tt
all-weaker P Q (x ∷ xs) f all = (f x all.0, all-weaker P Q xs f all.1)

of-same : {T : Type 0} (P : T → Type 0) (a b : List T) → b ≡ a → MoreOf P a b
of-same P a b is = ([], is ∙ sym (append-nil a), tt)

of-both : {T : Type 0} (P : T → Type 0) (a b c : List T) → MoreOf P a b → MoreOf P b c → MoreOf P a c
of-both {T} P a b c first next = (first.0 ++ next.0, next.1 ∙ ap (λ (l : List T). l ++ next.0) first.1 ∙ append_assoc a first.0 next.0, all-both P first.0 next.0 first.2 next.2)

-- ---- marks and finds: so far as a second has come

-- finds of this second, or of a later one
abbrev IsSince : ℕ → Find → Type 0
IsSince u f = u ≤ f.second

record MarksAndFinds (u : ℕ) (before after : Outcome) : Type 0 where
  marks : GrowsBy before.marks.items after.marks.items
  finds : MoreOf (IsSince u) before.finds.items after.finds.items

mf-same : (u : ℕ) (before after : Outcome) → after.marks.items ≡ before.marks.items → after.finds.items ≡ before.finds.items → MarksAndFinds u before after
mf-same u before after marks finds = record { marks = grows-same before.marks.items after.marks.items marks; finds = of-same (IsSince u) before.finds.items after.finds.items finds }

mf-is : (u : ℕ) (before after : Outcome) → after ≡ before → MarksAndFinds u before after
mf-is u before after is = mf-same u before after (ap (λ (o : Outcome). o.marks.items) is) (ap (λ (o : Outcome). o.finds.items) is)

mf-then : (u : ℕ) (a b c : Outcome) → MarksAndFinds u a b → MarksAndFinds u b c → MarksAndFinds u a c
mf-then u a b c first next = record {
  marks = grows-then a.marks.items b.marks.items c.marks.items first.marks next.marks;
  finds = of-both (IsSince u) a.finds.items b.finds.items c.finds.items first.finds next.finds;
}

-- ---- minutes that are kept

round-marks : (at : Moment) (m : Minute) (round : Round) (t : KeepingState) → GrowsBy t.marks.items (told_after (present_at t.keeper.cabin m.minute) m.minute at round t).marks.items
round-marks at m round t =
    let present = present_at t.keeper.cabin m.minute in
    let one : List Mark = t.marks.items ++ unit_mark m.minute round.clock ∷ [] in
    let two : List Mark = one ++ fate_marks round.driver present.driver m.minute in
    grows-then t.marks.items two (two ++ fate_marks round.codriver present.codriver m.minute)
    (grows-then t.marks.items one two (unit_mark m.minute round.clock ∷ [], refl) (fate_marks round.driver present.driver m.minute, refl))
    (fate_marks round.codriver present.codriver m.minute, refl)

kept-marks : (at : Moment) (ms : List Minute) (t u : KeepingState) → AreKept at ms t u → GrowsBy t.marks.items u.marks.items
kept-marks at ms t u (none v) = grows-same v.marks.items v.marks.items refl
kept-marks at ms t u (more m front round v mid kept is) =
    grows-then v.marks.items mid.marks.items (told_after (present_at mid.keeper.cabin m.minute) m.minute at round mid).marks.items (kept-marks at front v mid kept) (round-marks at m round mid)

up-to-marks : (at : Moment) (ms : List Minute) (failed : Bool) (t u : KeepingState) → AreKeptUpTo ms at failed t u → GrowsBy t.marks.items u.marks.items
up-to-marks at ms false t u kept = kept-marks at ms t u kept
up-to-marks at ms true t u kept =
    let first = kept-marks at kept.front t kept.between kept.kept in
    ⊎_elim (λ same. subst (λ (v : KeepingState). GrowsBy t.marks.items v.marks.items) (sym same) first)
    (λ last. subst (λ (v : KeepingState). GrowsBy t.marks.items v.marks.items) (sym last.2)
    (grows-then t.marks.items kept.between.marks.items (told_after (present_at kept.between.keeper.cabin kept.here.minute) kept.here.minute at last.0 kept.between).marks.items first (round-marks at kept.here last.0 kept.between)))
    kept.last

settled-mf : (u : ℕ) (at : Moment) (failed : Bool) (old new : Run) (before after : Outcome) → IsSettled at failed old new before after → MarksAndFinds u before after
settled-mf u at failed old new before after is = record {
  marks = up-to-marks at is.decided failed (told_of old before) (told_of new after) is.kept;
  finds = of-same (IsSince u) before.finds.items after.finds.items (ap (λ (o : Outcome). o.finds.items) is.outcome);
}

-- ---- a card that is judged

mark-if : (b : Bool) (mark : Mark) (marks : Listed Mark) → GrowsBy marks.items (if b then with_lines (mark ∷ []) marks else marks).items
mark-if true mark marks = (mark ∷ [], refl)
mark-if false mark marks = grows-same marks.items marks.items refl

marks-of : (device : Device) (clock : ℕ) (es : List Entry) (marks : Listed Mark) → GrowsBy marks.items (and_marks device clock es marks).items
marks-of device clock [] marks = grows-same marks.items marks.items refl
marks-of device clock (e ∷ es) marks =
    let mark : Mark = record { device = device; minute = e.minute; clock = clock } in
    grows-then marks.items (and_mark mark marks).items (and_marks device clock es (and_mark mark marks)).items (mark-if (nat_lt (length marks.items) marks.room) mark marks) (marks-of device clock es (and_mark mark marks))

ending-marks : (ending : Ending) (e : Entering) (marks : Listed Mark) → GrowsBy marks.items (marks_by ending e marks).items
ending-marks (Unfit fid place) e marks = grows-same marks.items marks.items refl
ending-marks (Ahead stored) e marks = grows-same marks.items marks.items refl
ending-marks Fell e marks = grows-same marks.items marks.items refl
ending-marks Unasked e marks = grows-same marks.items marks.items refl
ending-marks (Unnoted entered clock) e marks = marks-of (device_of e.which) clock (last_of entered.owed.items entered.replayed) marks
ending-marks (Seated entered clock entry) e marks = marks-of (device_of e.which) clock (last_of entered.owed.items entered.replayed) marks
ending-marks (Lost entered clock entry) e marks = marks-of (device_of e.which) clock (last_of entered.owed.items entered.replayed) marks

ending-finds : (u : ℕ) (ending : Ending) (e : Entering) → u ≤ e.at.second → AllByRecursion (IsSince u) (finds_by ending e)
ending-finds u (Unfit fid place) e le = (le, tt)
ending-finds u (Ahead stored) e le = (le, tt)
ending-finds u Fell e le = tt
ending-finds u Unasked e le = tt
ending-finds u (Unnoted entered clock) e le = (le, tt)
ending-finds u (Seated entered clock entry) e le = (le, tt)
ending-finds u (Lost entered clock entry) e le = (le, tt)

accepted-mf : (u : ℕ) (e : Entering) (old new : Run) (before after : Outcome) → u ≤ e.at.second → IsAccepted e old new before after → MarksAndFinds u before after
accepted-mf u e old new before after le is = subst (λ (o : Outcome). MarksAndFinds u before o) (sym is.left.outcome) (record {
  marks = ending-marks (ending_of is.way) e before.marks;
  finds = (finds_by (ending_of is.way) e, refl, ending-finds u (ending_of is.way) e le);
})

-- ---- the actions of a second

inserted-mf : (slot : Slot) (card : Card) (at : Moment) (speed : ℕ) (failed : Bool) (old new : Run) (before after : Outcome) → IsInserted slot card at speed failed old new before after → MarksAndFinds at.second before after
inserted-mf slot card at speed failed old new before after is =
    ⊎_elim (λ short. settled-mf at.second at true _ new before after short.1)
    (λ behind. mf-then at.second before behind.told after (settled-mf at.second at false _ behind.between before behind.told behind.settled_first)
    (accepted-mf at.second behind.entering behind.between new behind.told after (let same = ap (λ (m : Moment). m.second) behind.now.moment in omega (arith, same)) behind.accepted))
    is

closed-mf : (card : Card) (slot : Slot) (at : Moment) (old new : Run) (before after : Outcome) → IsClosedBehind card slot at old new before after → MarksAndFinds at.second before after
closed-mf card slot at old new before after is =
    mf-then at.second before is.told after (settled-mf at.second at false _ is.between before is.told is.settled_first)
    (mf-same at.second is.told after (ap (λ (o : Outcome). o.marks.items) is.outcome) (ap (λ (o : Outcome). o.finds.items) is.outcome))

withdrawn-mf : (card : Option Card) (slot : Slot) (at : Moment) (failed : Bool) (old new : Run) (before after : Outcome) → IsWithdrawn card slot at failed old new before after → MarksAndFinds at.second before after
withdrawn-mf None slot at failed old new before after is = mf-is at.second before after is.1
withdrawn-mf (Some card) slot at failed old new before after is =
    ⊎_elim (λ short. settled-mf at.second at true _ new before after short.1) (λ behind. closed-mf card slot at old new before after behind) is

done-mf : (action : Action) (at : Moment) (speed : ℕ) (failed : Bool) (old new : Run) (before after : Outcome) → IsDone action at speed failed old new before after → MarksAndFinds at.second before after
done-mf (Select slot pick) at speed failed old new before after is = mf-is at.second before after is.2
done-mf (Insert slot card) at speed failed old new before after is = inserted-mf slot card at speed failed old new before after is
done-mf (Withdraw slot) at speed failed old new before after is = withdrawn-mf (card_in (seat_in old.keeper.cabin.slots.seats slot)) slot at failed old new before after is
done-mf (Tear slot) at speed failed old new before after is = mf-same at.second before after (ap (λ (o : Outcome). o.marks.items) is.2) (ap (λ (o : Outcome). o.finds.items) is.2)
done-mf (Place slot ending country region) at speed failed old new before after is = mf-same at.second before after (ap (λ (o : Outcome). o.marks.items) is.2) (ap (λ (o : Outcome). o.finds.items) is.2)
done-mf (Manual slot pick minute) at speed failed old new before after is = mf-is at.second before after is.2

cut-mf : (u : ℕ) (failed : Bool) (second begun : ℕ) (o : Outcome) → MarksAndFinds u o (cut_breaks failed second begun o)
cut-mf u false second begun o = mf-is u o o refl
cut-mf u true second begun o = mf-same u o (cut_breaks true second begun o) refl refl

carried-mf : (action : Action) (begun speed : ℕ) (old new : Run) (before after : Outcome) → IsCarriedOut action begun speed old new before after → MarksAndFinds old.next before after
carried-mf action begun speed old new before after c =
    mf-then old.next before c.told after (done-mf action (moment_of begun old) speed c.failed old c.between before c.told c.done)
    (subst (λ (o : Outcome). MarksAndFinds old.next c.told o) (sym c.outcome) (cut-mf old.next c.failed c.between.next begun c.told))

refused-mf : (r : Option SlotFault) (action : Action) (begun speed : ℕ) (old new : Run) (before after : Outcome) → IsActedBy r action begun speed old new before after → MarksAndFinds old.next before after
refused-mf None action begun speed old new before after c = carried-mf action begun speed old new before after c
refused-mf (Some fault) action begun speed old new before after c = mf-same old.next before after (ap (λ (o : Outcome). o.marks.items) c.1) (ap (λ (o : Outcome). o.finds.items) c.1)

action-mf : (lit : Bool) (action : Action) (begun speed : ℕ) (old new : Run) (before after : Outcome) → IsActed true lit action begun speed old new before after → MarksAndFinds old.next before after
action-mf false action begun speed old new before after is = mf-is old.next before after is.1
action-mf true action begun speed old new before after is = refused-mf _ action begun speed old new before after is

item-mf : (item : Item) (begun speed : ℕ) (old new : Run) (before after : Outcome) → IsItemActed item true (is_lit old.power) begun speed old new before after → MarksAndFinds old.next before after
item-mf (Driven seconds driven) begun speed old new before after is = mf-is old.next before after is.1
item-mf (Off seconds) begun speed old new before after is = mf-is old.next before after is.1
item-mf (Act action) begun speed old new before after is = action-mf (is_lit old.power) action begun speed old new before after is

acted-mf : (speed number : ℕ) (items : List Item) (old new : Run) (before after : Outcome) → AreActed true speed number items old new before after → MarksAndFinds old.next before after
acted-mf speed number [] old new before after is = mf-is old.next before after is.1
acted-mf speed number (item ∷ items) old new before after is =
    let next = (item-so item (min (number + 1) largest_number) speed old is.0 before is.1 is.2).next in
    mf-then old.next before is.1 after (item-mf item (min (number + 1) largest_number) speed old is.0 before is.1 is.2)
    (subst (λ (u : ℕ). MarksAndFinds u is.1 after) next (acted-mf speed (number + 1) items is.0 new is.1 after is.3))

-- ---- power is back

judged-mf : (u : ℕ) (who : Option Card) (slot : Slot) (at : Moment) (speed : ℕ) (old new : Run) (before after : Outcome) (vs : List UnitEvent) → u ≤ at.second → JudgesThese who slot at speed old new before after vs → MarksAndFinds u before after
judged-mf u None slot at speed old new before after vs le is = mf-is u before after is.1
judged-mf u (Some card) slot at speed old new before after vs le is =
    accepted-mf u is.0 old new before after (let same = ap (λ (m : Moment). m.second) is.1.moment in omega (arith, le, same)) is.2

both-mf : (u speed : ℕ) (old new : Run) (before after : Outcome) (vs : List UnitEvent) → u ≤ old.next → JudgesBoth speed old new before after vs → MarksAndFinds u before after
both-mf u speed old new before after vs le is =
    mf-then u before is.told after
    (judged-mf u (card_in (seat_in old.keeper.cabin.slots.seats Driver)) Driver (now_moment old) speed old is.one before is.told is.first le is.driver)
    (judged-mf u (card_in (seat_in is.one.keeper.cabin.slots.seats CoDriver)) CoDriver (now_moment old) speed is.one new is.told after is.second le is.codriver)

gap-mf : (u kept speed : ℕ) (failed : Bool) (old new : Run) (before after : Outcome) (reach : GapReach) (vs : List UnitEvent) → u ≤ old.next → JudgesThenGap kept speed failed old new before after reach vs → MarksAndFinds u before after
gap-mf u kept speed failed old new before after reach vs le is =
    mf-then u before is.told after (both-mf u speed old is.two before is.told is.judged le is.both)
    (mf-same u is.told after (ap (λ (o : Outcome). o.marks.items) is.rest) (ap (λ (o : Outcome). o.finds.items) is.rest))

woken-mf : (reach : WakeReach) (kept speed : ℕ) (failed : Bool) (old new : Run) (before after : Outcome) (vs : List UnitEvent) → AreWakingEvents reach kept speed failed old new before after vs → MarksAndFinds old.next before after
woken-mf Unmended kept speed failed old new before after vs is = mf-is old.next before after is.2
woken-mf (AtDriver mid) kept speed failed old new before after vs is =
    judged-mf old.next (card_in (seat_in mid.keeper.cabin.slots.seats Driver)) Driver (now_moment mid) speed mid new before after vs (let next = is.0.2.next in omega (arith, next)) is.2
woken-mf (AtCoDriver mid) kept speed failed old new before after vs is = both-mf old.next speed mid new before after vs (let next = is.0.2.next in omega (arith, next)) is.2
woken-mf (NoneBefore mid) kept speed failed old new before after vs is = both-mf old.next speed mid new before after vs (let next = is.0.2.next in omega (arith, next)) is.3
woken-mf (AtGap mid reach) kept speed failed old new before after vs is = gap-mf old.next kept speed failed mid new before after reach vs (let next = is.0.2.next in omega (arith, next)) is.2

-- ---- breaks, as they are first told

first-same : (k : ℕ) (b : Break) → as_first_told (with_kept k b) ≡ as_first_told b
first-same k (Cut second kept failed begun) = refl
first-same k (Torn second slot failed begun late) = refl

first-all : (k : ℕ) (bs : List Break) → map as_first_told (map (with_kept k) bs) ≡ map as_first_told bs
first-all k [] = refl
first-all k (b ∷ bs) = ap (λ (l : List Break). as_first_told (with_kept k b) ∷ l) (first-all k bs) ∙ ap (λ (x : Break). x ∷ map as_first_told bs) (first-same k b)

first-append : (xs ys : List Break) → map as_first_told (xs ++ ys) ≡ map as_first_told xs ++ map as_first_told ys
first-append xs ys = map-append as_first_told xs ys

-- what was found kept changes none
first-found : (i k : ℕ) (bs : List Break) → map as_first_told (found_from i k bs) ≡ map as_first_told bs
first-found i k bs =
    first-append (take i bs) (map (with_kept k) (drop i bs)) ∙ ap (λ (l : List Break). map as_first_told (take i bs) ++ l) (first-all k (drop i bs))
    ∙ sym (first-append (take i bs) (drop i bs)) ∙ ap (map as_first_told) (take-append-drop i bs)

-- breaks no earlier than the second before this one stand behind
pub record BreaksGrow (u : ℕ) (before after : List Break) : Type 0 where
  pub lines : List Break
  pub are : map as_first_told after ≡ map as_first_told (before ++ lines)
  pub late : AllByRecursion (λ (b : Break). u ≤ suc (second_of b)) lines

breaks-more : (u w : ℕ) (before after : List Break) → u ≤ suc w → TellsMoreOf w before after → BreaksGrow u before after
breaks-more u w before after le is = record {
  lines = is.0;
  are = ap (map as_first_told) is.1;
  late = all-weaker (λ (b : Break). second_of b ≡ w) (λ (b : Break). u ≤ suc (second_of b)) is.0 (λ b here. omega (arith, le, here)) is.2;
}

breaks-found : (u i k : ℕ) (before after : List Break) → after ≡ found_from i k before → BreaksGrow u before after
breaks-found u i k before after is = record { lines = []; are = ap (map as_first_told) is ∙ first-found i k before ∙ ap (map as_first_told) (sym (append-nil before)); late = tt }

breaks-then : (u : ℕ) (a b c : List Break) → BreaksGrow u a b → BreaksGrow u b c → BreaksGrow u a c
breaks-then u a b c first next = record {
  lines = first.lines ++ next.lines;
  are = next.are ∙ first-append b next.lines ∙ ap (λ (l : List Break). l ++ map as_first_told next.lines) first.are ∙ sym (first-append (a ++ first.lines) next.lines)
      ∙ ap (map as_first_told) (append_assoc a first.lines next.lines);
  late = all-both (λ (b : Break). u ≤ suc (second_of b)) first.lines next.lines first.late next.late;
}

-- ---- THE OUTCOME GROWS: all three, since the begin of a second

pub record Grows (u : ℕ) (before after : Outcome) : Type 0 where
  pub marks : GrowsBy before.marks.items after.marks.items
  pub told : TellsMoreSince u (log_of before) (log_of after)

grows-of : (u : ℕ) (before after : Outcome) → MarksAndFinds u before after → BreaksGrow u before.breaks.items after.breaks.items → Grows u before after
grows-of u before after mf breaks = record {
  marks = mf.marks;
  told = record { breaks = breaks.lines; finds = mf.finds.0; breaks_are = breaks.are; finds_are = mf.finds.1; no_earlier = breaks.late; found_since = mf.finds.2 };
}

-- the same marks and finds, and lines more of a second no earlier than the one before
pub grows-lines : (u w : ℕ) (before after : Outcome) → u ≤ suc w → after.marks.items ≡ before.marks.items → after.finds.items ≡ before.finds.items → TellsMoreOf w before.breaks.items after.breaks.items → Grows u before after
grows-lines u w before after le marks finds lines = grows-of u before after (mf-same u before after marks finds) (breaks-more u w before.breaks.items after.breaks.items le lines)

pub grows-is : (u : ℕ) (before after : Outcome) → after ≡ before → Grows u before after
grows-is u before after is =
    grows-lines u u before after (omega arith) (ap (λ (o : Outcome). o.marks.items) is) (ap (λ (o : Outcome). o.finds.items) is) ([], ap (λ (o : Outcome). o.breaks.items) is ∙ sym (append-nil before.breaks.items), tt)

pub tells-then : (u v : ℕ) (a b c : RunLog) → u ≤ v → TellsMoreSince u a b → TellsMoreSince v b c → TellsMoreSince u a c
tells-then u v a b c le first next =
    let breaks = breaks-then u a.breaks b.breaks c.breaks (record { lines = first.breaks; are = first.breaks_are; late = first.no_earlier })
    (record { lines = next.breaks; are = next.breaks_are; late = all-weaker (λ (x : Break). v ≤ suc (second_of x)) (λ (x : Break). u ≤ suc (second_of x)) next.breaks (λ x so. omega (arith, le, so)) next.no_earlier }) in
    let finds = of-both (IsSince u) a.finds b.finds c.finds (first.finds, first.finds_are, first.found_since)
    (next.finds, next.finds_are, all-weaker (IsSince v) (IsSince u) next.finds (λ f so. omega (arith, le, so)) next.found_since) in
    record { breaks = breaks.lines; finds = finds.0; breaks_are = breaks.are; finds_are = finds.1; no_earlier = breaks.late; found_since = finds.2 }

pub grows-then_ : (u : ℕ) (a b c : Outcome) → Grows u a b → Grows u b c → Grows u a c
grows-then_ u a b c first next = record {
  marks = grows-then a.marks.items b.marks.items c.marks.items first.marks next.marks;
  told = tells-then u u (log_of a) (log_of b) (log_of c) (omega arith) first.told next.told;
}

-- ---- A SECOND BEGINS

ends-mf : (u : ℕ) (failed : Bool) (woken new : Run) (out after : Outcome) → EndsWaking failed woken new out after → MarksAndFinds u out after
ends-mf u false woken new out after is = mf-is u out after is.1
ends-mf u true woken new out after is = mf-same u out after (ap (λ (o : Outcome). o.marks.items) is.1) (ap (λ (o : Outcome). o.finds.items) is.1)

ends-breaks : (u : ℕ) (failed : Bool) (woken new : Run) (out after : Outcome) → u ≤ suc woken.next → EndsWaking failed woken new out after → BreaksGrow u out.breaks.items after.breaks.items
ends-breaks u false woken new out after le is = breaks-more u woken.next out.breaks.items after.breaks.items le ([], ap (λ (o : Outcome). o.breaks.items) is.1 ∙ sym (append-nil out.breaks.items), tt)
ends-breaks u true woken new out after le is = breaks-more u woken.next out.breaks.items after.breaks.items le (cut_at woken.next true 0 ∷ [], ap (λ (o : Outcome). o.breaks.items) is.1, (refl, tt))

found-grows : (kept speed : ℕ) (old new : Run) (before after : Outcome) (failed : Bool) (woken : Run) (out : Outcome) (reach : WakeReach) (vs : List UnitEvent)
    → AreWakingEvents reach kept speed failed (read_run old before) woken (read_outcome kept old before) out vs → EndsWaking failed woken new out after → Grows old.next before after
found-grows kept speed old new before after failed woken out reach vs are ends =
    let awake = goes-awake reach kept speed failed (read_run old before) woken (read_outcome kept old before) out vs are in
    let next : woken.next ≡ old.next = awake.next in
    let late : old.next ≤ suc woken.next = omega (arith, next) in
    let mf : MarksAndFinds old.next before out = mf-then old.next before (read_outcome kept old before) out (mf-same old.next before (read_outcome kept old before) refl refl) (woken-mf reach kept speed failed (read_run old before) woken (read_outcome kept old before) out vs are) in
    let breaks : BreaksGrow old.next before.breaks.items out.breaks.items = breaks-then old.next before.breaks.items (read_outcome kept old before).breaks.items out.breaks.items
    (breaks-found old.next old.unfound kept before.breaks.items (read_outcome kept old before).breaks.items refl) (breaks-more old.next old.next (read_outcome kept old before).breaks.items out.breaks.items (omega arith) awake.more) in
    grows-of old.next before after (mf-then old.next before out after mf (ends-mf old.next failed woken new out after ends)) (breaks-then old.next before.breaks.items out.breaks.items after.breaks.items breaks (ends-breaks old.next failed woken new out after late ends))

pub woken-grows : (speed : ℕ) (old new : Run) (before after : Outcome) (d e : Devices) → NotesPowerOn speed old new before after d e → Grows old.next before after
woken-grows speed old new before after d e notes = ⊎_elim
    (λ found. let n = found.1 in found-grows found.0 speed old new before after n.failed n.woken n.out n.waking.reach n.waking.events n.waking.are n.ends)
    (λ unread. grows-of old.next before after (ends-mf old.next true old new before after unread.ends) (ends-breaks old.next true old new before after (omega arith) unread.ends))
    notes

-- with power that goes on, with power that comes, or without any
pub begun-grows : (speed : ℕ) (old new : Run) (before after : Outcome) (d e : Devices) → (is_lit old.power ≡ true → after ≡ before) → (is_lit old.power ≡ false → NotesPowerOn speed old new before after d e) → Grows old.next before after
begun-grows speed old new before after d e lit dark = by (is_lit old.power) refl
  where
    by : (b : Bool) → is_lit old.power ≡ b → Grows old.next before after
    by true on = grows-is old.next before after (lit on)
    by false off = woken-grows speed old new before after d e (dark off)

-- ---- ITS ACTIONS

pub acted-grows : (speed number : ℕ) (items : List Item) (old new : Run) (before after : Outcome) → AreActed true speed number items old new before after → Grows old.next before after
acted-grows speed number items old new before after is =
    grows-of old.next before after (acted-mf speed number items old new before after is)
    (breaks-more old.next old.next before.breaks.items after.breaks.items (omega arith) (all-so speed number items old new before after is).more)

-- ---- SECONDS TURN OVER

turn-told : (u : ℕ) (at : Moment) (decided : List Minute) (failed : Bool) (t u_ : KeepingState) → u ≤ suc at.second → AreKeptUpTo decided at failed t u_ → BreaksGrow u t.breaks.items u_.breaks.items
turn-told u at decided failed t u_ le kept =
    let told = up-to-tells at decided failed t u_ kept in
    breaks-more u at.second t.breaks.items u_.breaks.items le (told.lines, told.are, tears-here_ at.second at.begun at.late told.lines told.tears)

turn-cut : (u : ℕ) (failed : Bool) (second begun : ℕ) (o : Outcome) → u ≤ suc second → Grows u o (turning.cut_breaks failed second begun o)
turn-cut u false second begun o le = grows-is u o o refl
turn-cut u true second begun o le = grows-lines u second o (turning.cut_breaks true second begun o) le refl refl (cut_at second true begun ∷ [], refl, (refl, tt))

pub turn-grows : (lit : Bool) (n speed begun : ℕ) (old new : Run) (before after : Outcome) → 0 < n → turning.IsTurnOf lit n speed begun old new before after → Grows old.next before after
turn-grows false n speed begun old new before after some is = grows-is old.next before after is.1
turn-grows true n speed begun old new before after some is =
    let t = is.1 in
    let at : Moment = turning.late_moment old.next n begun in
    let late : old.next ≤ suc at.second = omega (arith, some) in
    let finds : t.told.finds.items ≡ before.finds.items = ap (λ (o : Outcome). o.finds.items) t.kept.outcome in
    let kept : Grows old.next before t.told = ⊎_elim
    (λ short. grows-of old.next before t.told (record { marks = up-to-marks at t.decided true (turning.told_of t.fed before) (turning.told_of t.between t.told) short.1; finds = of-same (IsSince old.next) before.finds.items t.told.finds.items finds })
    (turn-told old.next at t.decided true (turning.told_of t.fed before) (turning.told_of t.between t.told) late short.1))
    (λ whole. grows-of old.next before t.told (record { marks = kept-marks at t.decided (turning.told_of t.fed before) (turning.told_of t.between t.told) whole.0; finds = of-same (IsSince old.next) before.finds.items t.told.finds.items finds })
    (turn-told old.next at t.decided false (turning.told_of t.fed before) (turning.told_of t.between t.told) late whole.0))
    t.kept.how in
    grows-then_ old.next before t.told after kept (subst (λ (o : Outcome). Grows old.next t.told o) (sym t.outcome) (turn-cut old.next t.failed (old.next + n - 1) begun t.told (omega (arith, some))))

-- ---- AN `off` LINE

off-of : (lit : Bool) (u second begun : ℕ) (breaks : List Break) → u ≤ suc second → (after : List Break) → after ≡ breaks ++ off_cut lit second begun → BreaksGrow u breaks after
off-of true u second begun breaks le after is = breaks-more u second breaks after le (off_cut true second begun, is, (refl, tt))
off-of false u second begun breaks le after is = breaks-more u second breaks after le ([], is, tt)

pub off-grows : (lit : Bool) (next begun : ℕ) (before : Outcome) (breaks : Listed Break) → 0 < next → breaks ≡ with_lines (off_cut lit (next - 1) begun) before.breaks → Grows next before (record before { breaks = breaks })
off-grows lit next begun before breaks some is =
    grows-of next before (record before { breaks = breaks }) (mf-same next before (record before { breaks = breaks }) refl refl)
    (off-of lit next (next - 1) begun before.breaks.items (omega (arith, some)) breaks.items (ap (λ (l : Listed Break). l.items) is))
