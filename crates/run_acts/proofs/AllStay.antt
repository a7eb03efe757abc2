-- The stays of both cards, and of each by itself, over what each call makes of them and of the log.
use Rattle.std.proofs.Common.{◌≡◌, ◌⊎◌, ◌∙◌, inl, inr, ⊎_elim, ℕ, suc, zero, ◌+◌, ◌<◌, ◌≤◌, min, Bool, true, false, List, [], ◌∷◌, ◌++◌, append_assoc, Contains, Option, Some, None, refl, ap, sym, subst, arith}
use Rattle.std.specs.Prelude.{not, ◌&&◌, ◌||◌, filter, map, is_some}
use Rattle.std.specs.List.{AllByRecursion}
use Rattle.std.proofs.lemmas.List.{append-nil, map-append}
use Rattle.std.proofs.lemmas.List.Elements.{filter-append, Contains-append_left}
use Rattle.activity_codec.specs.declared.values.Slot.{Slot}
use Rattle.activity_codec.specs.declared.entries.Entry.{Entry}
use Rattle.activity_codec.specs.declared.values.Slot.TheVariants.{Driver, CoDriver}
use Rattle.trace_model.specs.declared.Card.{Card}
use Rattle.trace_model.specs.declared.Card.TheVariants.{A, B}
use Rattle.tach_media.specs.Medium.{State, HasBroken, last_count}
use Rattle.tacho_types.specs.declared.texts.Registration.{Registration}
use Rattle.log_model.specs.Log.{RunLog, is_accepting}
use Rattle.log_model.specs.Causes.{is_cut, has_failed, cuts, device_of}
use Rattle.log_model.specs.Slots.{same_card}
use Rattle.log_model.specs.declared.lines.Find.{Find}
use Rattle.log_model.specs.declared.lines.Break.{Break}
use Rattle.log_model.specs.declared.lines.Mark.{Mark}
use Rattle.log_model.specs.declared.lines.Break.TheVariants.{Cut, Tear}
use Rattle.run_events.specs.run_course.Telling.{IsMore}
use Rattle.device_calls.specs.run_unit_course.Lines.{cut_at, with_kept, found_from}
use Rattle.hand_model.specs.card_image.Own.{own_sizes, IsOwnValid}
use Rattle.device_calls.specs.card_session.declared.session.Kept.{Kept}
use Rattle.device_calls.specs.device_rule.Views.{other}
use Rattle.unit_notes.specs.note_model.Noted.{Note}
use Rattle.device_calls.specs.safety_model.Safe.{Devices, card_of, breakdowns_of}
use Rattle.run_crew.specs.card_slots.declared.seats.Present.{Present}
use Rattle.run_crew.specs.declared.cards.Accepted.{Accepted}
use Rattle.run_crew.specs.declared.cards.Cards.{Cards}
use Rattle.run_crew.specs.declared.cabin.Cabin.{Cabin}
use Rattle.run_crew.specs.Cards.{session_of, with_session}
use Rattle.run_minutes.specs.run_promise.Found.{CardFound, found_of}
use Rattle.run_minutes.specs.run_promise.Between.{devices}
use Rattle.run_minutes.specs.run_devices.Told.{arranged}
use Rattle.run_minutes.specs.run_promise.Origin.{Origin}
use Rattle.run_minutes.specs.run_promise.Whole.{NothingFailed}
use Rattle.run_minutes.specs.declared.keeper.Keeper.{Keeper}
use Rattle.run_minutes.specs.declared.keeper.Moment.{Moment}
use Rattle.run_minutes.specs.Keeping.{Fate, Still, Has, Fell, has_fallen, cabin_by, breaks_by, marks_by, tear_of}
use Rattle.unit_model.specs.minute_model.declared.Minute.{Minute}
use Rattle.run_minutes.specs.Minutes.{KeepingState, Done, Reach, Round, Whole, Short, IsReach, IsLast, told_after, told_by, unit_mark, present_at}
use Rattle.run_acts.specs.Booked.{IsTurnReach}
use Rattle.run_acts.proofs.RingedLines.{AreTears, tears-both}
use Rattle.run_minutes.specs.Deeds.{KeepsOn, AllKeep}
use Rattle.run_crew.specs.card_slots.Calls.{Seats, seat_in, card_in}
use Rattle.run_acts.specs.Closings.{Spell, spells_of, with_last_shut, last_slot}
use Rattle.run_acts.specs.Comings.{VehicleTold, told_of, TellsMore, TellMore}
use Rattle.run_acts.proofs.Comings.{tells-none, tells-then}
use Rattle.run_acts.specs.Truths.{Truths, Grow}
use Rattle.run_acts.specs.Stays.{Stay, Coming, comings_on, befores_of, TellsBefores, acceptances_told, spells, sits_in, as_noted, IsPlaced, AreMerged, StaysIn, HasStays, Whose, Both, Only, covers, AreKnown, owed_by, AreTold, AreToldBefore, AreStays, AllStay, AreTrue, start_shown, is_late, judged_told, judged_in, AreJudged}
use Rattle.run_acts.proofs.Stays.{all-both, on_last, on-last-comings, on-last-none, on-last-true, with_kepts, true-kepts, all-true-grow, merged-one, merged-other, stays-still, stays-moved, stays-keep, on-last-owes, owes-grow, on-last-judged, on-last-verdicts}

-- ---- the log tells of no failed call

-- the test of cuts and of tears
abbrev failed_cut : Break → Bool
failed_cut b = is_cut b && has_failed b

abbrev failed_tear : Break → Bool
failed_tear b = not (is_cut b) && has_failed b

front-none : (p : Break → Bool) (xs ys : List Break) → filter p (xs ++ ys) ≡ [] → filter p xs ≡ []
front-none p xs ys none = by (filter p xs) (sym (filter-append p xs ys) ∙ none)
  where
    by : (zs : List Break) → zs ++ filter p ys ≡ [] → zs ≡ []
    by [] is = refl
    by (z ∷ zs) is = absurd (cc)

back-none : (p : Break → Bool) (xs ys : List Break) → filter p (xs ++ ys) ≡ [] → filter p ys ≡ []
back-none p xs ys none = by (filter p xs) (sym (filter-append p xs ys) ∙ none)
  where
    by : (zs : List Break) → zs ++ filter p ys ≡ [] → filter p ys ≡ []
    by [] is = is
    by (z ∷ zs) is = absurd (cc)

-- nor did it with fewer lines
pub fewer-none : (log : RunLog) (more : List Break) → NothingFailed (record log { breaks = log.breaks ++ more }) → NothingFailed log
fewer-none log more none = (front-none failed_cut log.breaks more none.0, front-none failed_tear log.breaks more none.1)

-- nor of a cut that one made
pub fewer-uncut : (log : RunLog) (more : List Break) → cuts true (record log { breaks = log.breaks ++ more }) ≡ [] → cuts true log ≡ []
fewer-uncut log more none = front-none failed_cut log.breaks more none

-- where stays are known no failed call has cut the power
pub known-uncut : (whose : Whose) (o : Origin) (log : RunLog) (d : Devices) → AreKnown whose o log d → cuts true log ≡ []
known-uncut Both o log d known = known.0
known-uncut (Only c) o log d known = known.uncut

-- A CARD THAT STANDS AS IT BEGAN behind calls did so before them
abbrev pub StoodBefore : Origin → (d e : Devices) → Type 0
StoodBefore o d e = (c : Card) → o.breakdowns (device_of c) < last_count → breakdowns_of e (device_of c) ≡ o.breakdowns (device_of c) → breakdowns_of d (device_of c) ≡ o.breakdowns (device_of c)

pub stood-self : (o : Origin) (d : Devices) → StoodBefore o d d
stood-self o d c low is = is

-- whatever became of the unit
pub stood-unit : (o : Origin) (U V X Y : State) → StoodBefore o (devices U X Y) (devices V X Y)
stood-unit o U V X Y A low is = is
stood-unit o U V X Y B low is = is

-- its count was no lower as it began, and has not fallen since
pub stood-grown : (o : Origin) (d e : Devices) → ((c : Card) → o.breakdowns (device_of c) < last_count → o.breakdowns (device_of c) ≤ breakdowns_of d (device_of c)) → ((c : Card) → breakdowns_of d (device_of c) ≤ breakdowns_of e (device_of c)) → StoodBefore o d e
stood-grown o d e floor grows c low is = between (o.breakdowns (device_of c)) (breakdowns_of d (device_of c)) (breakdowns_of e (device_of c)) (floor c low) (grows c) is
  where
    between : (a b c : ℕ) → a ≤ b → b ≤ c → c ≡ a → b ≡ a
    between a b c low high is = omega (arith, low, high, is)

-- WHAT IS KNOWN WAS KNOWN, with fewer lines, and before calls behind which a card stands
pub known-before : (whose : Whose) (o : Origin) (log : RunLog) (more : List Break) (d e : Devices) → StoodBefore o d e → AreKnown whose o (record log { breaks = log.breaks ++ more }) e → AreKnown whose o log d
known-before Both o log more d e stood known = fewer-none log more known
known-before (Only c) o log more d e stood known = record { uncut = fewer-uncut log more known.uncut; low = known.low; stands = stood c known.low known.stands }

-- by a log that has these more
pub known-fewer : (whose : Whose) (o : Origin) (log later : RunLog) (more : List Break) (d e : Devices) → later.breaks ≡ log.breaks ++ more → StoodBefore o d e → AreKnown whose o later e → AreKnown whose o log d
known-fewer Both o log later more d e is stood known = fewer-none log more (ap (λ (bs : List Break). filter failed_cut bs) (sym is) ∙ known.0, ap (λ (bs : List Break). filter failed_tear bs) (sym is) ∙ known.1)
known-fewer (Only c) o log later more d e is stood known = record {
  uncut = fewer-uncut log more (ap (λ (bs : List Break). filter failed_cut bs) (sym is) ∙ known.uncut);
  low = known.low;
  stands = stood c known.low known.stands;
}

-- by the same log
pub known-still : (whose : Whose) (o : Origin) (log : RunLog) (d e : Devices) → StoodBefore o d e → AreKnown whose o log e → AreKnown whose o log d
known-still Both o log d e stood known = known
known-still (Only c) o log d e stood known = record { uncut = known.uncut; low = known.low; stands = stood c known.low known.stands }

-- A LOG GOES ON: what is known was known, and it tells the same acceptances, and judges the same cards
pub record Goes (whose : Whose) (o : Origin) (log later : RunLog) (d : Devices) : Type 0 where
  pub known : AreKnown whose o log d
  pub finds : acceptances_told later ≡ acceptances_told log
  pub judged : judged_told later ≡ judged_told log

-- so it does over these devices, as far as it is known
abbrev pub GoesOn : Origin → (log later : RunLog) → (d e : Devices) → Type 0
GoesOn o log later d e = (whose : Whose) → AreKnown whose o later e → Goes whose o log later d

pub log-self : (o : Origin) (log : RunLog) (d : Devices) → GoesOn o log log d d
log-self o log d whose known = record { known = known; finds = refl; judged = refl }

-- breaks are told
pub lines-on : (o : Origin) (log : RunLog) (bs more : List Break) (d e : Devices) → bs ≡ log.breaks ++ more → StoodBefore o d e → GoesOn o log (record log { breaks = bs }) d e
lines-on o log bs more d e is stood whose known = record {
  known = known-before whose o log more d e stood (subst (λ (l : List Break). AreKnown whose o (record log { breaks = l }) e) is known);
  finds = refl;
  judged = refl;
}

-- a cut where a call failed is told,
pub no-cut : {T : Type 0} (log : RunLog) (second begun : ℕ) → cuts true (record log { breaks = log.breaks ++ cut_at second true begun ∷ [] }) ≡ [] → T
no-cut log second begun none = let some = back-none failed_cut log.breaks (cut_at second true begun ∷ []) none in absurd (cc)

-- and a card that fell, where no call has failed; and its count rises
pub no-tear : {T : Type 0} (log : RunLog) (slot : Slot) (at : Moment) → NothingFailed (record log { breaks = log.breaks ++ tear_of slot at ∷ [] }) → T
no-tear log slot at none = let some = back-none failed_tear log.breaks (tear_of slot at ∷ []) none.1 in absurd (cc)

pub none-rises : {T : Type 0} (o d e : ℕ) → o < last_count → o ≤ d → min (d + 1) last_count ≤ e → e ≡ o → T
none-rises o d e low from rose is = absurd (omega (arith, low, from, rose, is))

stands-broken : (n o x y : ℕ) → o < last_count → o ≤ x → min (x + n) last_count ≤ y → y ≡ o → x ≡ o
stands-broken n o x y low from broke is = omega (arith, low, from, broke, is)

-- a card that has broken down so often at least
pub stood-broken : (o : Origin) (n : ℕ) (c : Card) (U V X Y Z : State) → ((k : Card) → o.breakdowns (device_of k) < last_count → o.breakdowns (device_of k) ≤ breakdowns_of (arranged c U X Z) (device_of k)) → HasBroken X Y n → StoodBefore o (arranged c U X Z) (arranged c V Y Z)
stood-broken o n A U V X Y Z floor broken A low is = stands-broken n (o.breakdowns (device_of A)) X.breakdowns Y.breakdowns low (floor A low) broken.breakdowns is
stood-broken o n A U V X Y Z floor broken B low is = is
stood-broken o n B U V X Y Z floor broken A low is = is
stood-broken o n B U V X Y Z floor broken B low is = stands-broken n (o.breakdowns (device_of B)) X.breakdowns Y.breakdowns low (floor B low) broken.breakdowns is

-- no card broke down
pub stood-calm : (o : Origin) (d e : Devices) → IsMore (breakdowns_of d) (breakdowns_of e) → StoodBefore o d e
stood-calm o d e more c low is = sym (more.cards c) ∙ is

-- a log with the same breaks
pub known-as : (whose : Whose) (o : Origin) (log later : RunLog) (d : Devices) → later.breaks ≡ log.breaks → AreKnown whose o later d → AreKnown whose o log d
known-as Both o log later d same known = (ap (λ (bs : List Break). filter failed_cut bs) (sym same) ∙ known.0, ap (λ (bs : List Break). filter failed_tear bs) (sym same) ∙ known.1)
known-as (Only c) o log later d same known = record { uncut = ap (λ (bs : List Break). filter failed_cut bs) (sym same) ∙ known.uncut; low = known.low; stands = known.stands }

pub same-on : (o : Origin) (log later : RunLog) (d : Devices) → later.breaks ≡ log.breaks → later.finds ≡ log.finds → GoesOn o log later d d
same-on o log later d breaks finds whose known = record {
  known = known-as whose o log later d breaks known;
  finds = ap (λ (fs : List Find). filter (λ (f : Find). is_accepting f.verdict) fs) finds;
  judged = ap (λ (fs : List Find). filter (λ (f : Find). is_accepting f.verdict || is_late f.verdict) fs) finds;
}

-- THE STAYS OF A CARD THAT FELL, of which a tear is told, are not known
pub no-fall : {T : Type 0} (whose : Whose) (o : Origin) (log later : RunLog) (slot : Slot) (at : Moment) (c : Card) (U V X Y Z : State) → later.breaks ≡ log.breaks ++ tear_of slot at ∷ [] → ((k : Card) → o.breakdowns (device_of k) < last_count → o.breakdowns (device_of k) ≤ breakdowns_of (arranged c U X Z) (device_of k)) → HasBroken X Y 1
    → covers whose c ≡ true → AreKnown whose o later (arranged c V Y Z) → T
no-fall Both o log later slot at c U V X Y Z is floor broken in_ known = no-tear log slot at (known-as Both o (record log { breaks = log.breaks ++ tear_of slot at ∷ [] }) later (arranged c V Y Z) is known)
no-fall (Only A) o log later slot at A U V X Y Z is floor broken in_ known = none-rises (o.breakdowns (device_of A)) X.breakdowns Y.breakdowns known.low (floor A known.low) broken.breakdowns known.stands
no-fall (Only A) o log later slot at B U V X Y Z is floor broken in_ known = absurd (let wrong : false ≡ true = in_ in cc)
no-fall (Only B) o log later slot at A U V X Y Z is floor broken in_ known = absurd (let wrong : false ≡ true = in_ in cc)
no-fall (Only B) o log later slot at B U V X Y Z is floor broken in_ known = none-rises (o.breakdowns (device_of B)) X.breakdowns Y.breakdowns known.low (floor B known.low) broken.breakdowns known.stands

pub other-apart : (c : Card) → same_card c (other c) ≡ false
other-apart A = refl
other-apart B = refl

-- ---- a session that is gone

pub mine-left : (c : Card) (cards : Cards) → session_of (with_session c None cards) c ≡ None
mine-left A cards = refl
mine-left B cards = refl

pub others-left : (c : Card) (cards : Cards) → session_of (with_session c None cards) (other c) ≡ session_of cards (other c)
others-left A cards = refl
others-left B cards = refl

pub left-same : (k : Card) (cards : Cards) (c : Card) → same_card k c ≡ false → session_of (with_session k None cards) c ≡ session_of cards c
left-same A cards A other = absurd (let wrong : true ≡ false = other in cc)
left-same A cards B other = refl
left-same B cards A other = refl
left-same B cards B other = absurd (let wrong : true ≡ false = other in cc)

-- ---- what becomes of the stays of one card

-- it keeps these, where it has a session
pub kept_stays : Option Accepted → List Kept → List Stay → List Stay
kept_stays None ks ss = ss
kept_stays (Some a) ks ss = on_last (with_kepts ks) ss

kept-hold : (whose : Whose) (t : Truths) (c : Card) (r : Registration) (image : List ℕ) (s : Option Accepted) (ks : List Kept) (ss : List Stay) → AllByRecursion t.kept ks → AreTrue whose t c r image ss → AreTrue whose t c r image (kept_stays s ks ss)
unfolding kept_stays
kept-hold whose t c r image None ks ss more all = all
kept-hold whose t c r image (Some a) ks ss more all = (
  on-last-true t (with_kepts ks) ss (λ x front are is. true-kepts t ks more x is) all.0,
  on-last-owes (owed_by whose t c) (with_kepts ks) (λ x. refl) (λ x. refl) r (own_sizes image).activity ss (start_shown image) all.1,
)

kept-none : (s : Option Accepted) (ks : List Kept) (ss : List Stay) → ss ≡ [] → kept_stays s ks ss ≡ []
unfolding kept_stays
kept-none None ks ss none = none
kept-none (Some a) ks ss none = on-last-none (with_kepts ks) ss none

kept-comings : (r : Registration) (image : List ℕ) (s : Option Accepted) (ks : List Kept) (ss : List Stay) → comings_on r image (kept_stays s ks ss) ≡ comings_on r image ss
unfolding kept_stays
kept-comings r image None ks ss = refl
kept-comings r image (Some a) ks ss = on-last-comings r image (with_kepts ks) (λ x. refl) ss

kept-judged : (s : Option Accepted) (ks : List Kept) (ss : List Stay) (since : List Find) → judged_in (kept_stays s ks ss) since ≡ judged_in ss since
unfolding kept_stays
kept-judged None ks ss since = refl
kept-judged (Some a) ks ss since = on-last-judged (with_kepts ks) (λ x. refl) (λ x. refl) ss since

kept-verdicts : (r : Registration) (image : List ℕ) (s : Option Accepted) (ks : List Kept) (ss : List Stay) (since : List Find) → (is_some s ≡ true → since ≡ []) → AreJudged r (own_sizes image).activity ss since (start_shown image) → AreJudged r (own_sizes image).activity (kept_stays s ks ss) since (start_shown image)
unfolding kept_stays
kept-verdicts r image None ks ss since waits h = h
kept-verdicts r image (Some a) ks ss since waits h = on-last-verdicts (with_kepts ks) (λ p x is. is) r (own_sizes image).activity ss since (start_shown image) (waits refl) h

-- its lines as more are told: none is new, or one is, that is its own
abbrev pub JudgesOne : (own : Find → Type 0) → (lines later was now : List Find) → Type 0
JudgesOne own lines later was now = ((later ≡ lines) × (now ≡ was)) ⊎ ((g : Find) × (later ≡ lines ++ g ∷ []) × (now ≡ was ++ g ∷ []) × own g)

-- the comings of a card as more acceptances are told: none is new, or one is, and the unit tells the vehicle before it
abbrev pub ComesOne : CardFound → Registration → (told later : List Find) → (ss now : List Stay) → (U V : State) → Type 0
ComesOne f r told later ss now U V =
    ((later ≡ told) × (comings_on r f.image now ≡ comings_on r f.image ss) × TellMore [] U V)
    ⊎ ((x : Coming) × (later ≡ told ++ x.found ∷ []) × (comings_on r f.image now ≡ comings_on r f.image ss ++ x ∷ []) × TellMore (told_of x.before ∷ []) U V)

merged-as : (lines later one now other : List Find) → later ≡ lines → now ≡ one → AreMerged lines one other → AreMerged later now other
merged-as lines later one now other e k h = subst (λ (l : List Find). AreMerged l now other) (sym e) (subst (λ (l : List Find). AreMerged lines l other) (sym k) h)

merged-as-other : (lines later one other now : List Find) → later ≡ lines → now ≡ other → AreMerged lines one other → AreMerged later one now
merged-as-other lines later one other now e k h = subst (λ (l : List Find). AreMerged l one now) (sym e) (subst (λ (l : List Find). AreMerged lines one l) (sym k) h)

one-judged : (own : Find → Type 0) (lines later was now other : List Find) → JudgesOne own lines later was now → AreMerged lines was other → AreMerged later now other
one-judged own lines later was now other (inl t) h = merged-as lines later was now other t.0 t.1 h
one-judged own lines later was now other (inr t) h = merged-as (lines ++ t.0 ∷ []) later (was ++ t.0 ∷ []) now other t.1 t.2 (merged-one lines was other t.0 h)

other-judged : (own : Find → Type 0) (lines later was now one : List Find) → JudgesOne own lines later was now → AreMerged lines one was → AreMerged later one now
other-judged own lines later was now one (inl t) h = merged-as-other lines later one was now t.0 t.1 h
other-judged own lines later was now one (inr t) h = merged-as-other (lines ++ t.0 ∷ []) later one (was ++ t.0 ∷ []) now t.1 t.2 (merged-other lines one was t.0 h)

judged-own : (own : Find → Type 0) (lines later was now : List Find) → JudgesOne own lines later was now → AllByRecursion own was → AllByRecursion own now
judged-own own lines later was now (inl t) all = subst (AllByRecursion own) (sym t.1) all
judged-own own lines later was now (inr t) all = subst (AllByRecursion own) (sym t.2) (all-both own was (t.0 ∷ []) all (t.3, tt))

-- ---- of both cards, or of one

-- the same lines
told-as : (whose : Whose) (t : Truths) (lines later : List Find) (own now : Card → List Find) → later ≡ lines → ((c : Card) → covers whose c ≡ true → now c ≡ own c) → AreTold whose t lines own → AreTold whose t later now
told-as Both t lines later own now same as_ h = merged-as lines later (own A) (now A) (now B) same (as_ A refl) (merged-as-other lines lines (own A) (own B) (now B) refl (as_ B refl) h)
told-as (Only A) t lines later own now same as_ h = (h.0, merged-as lines later (own A) (now A) h.0 same (as_ A refl) h.1, h.2)
told-as (Only B) t lines later own now same as_ h = (h.0, merged-as lines later (own B) (now B) h.0 same (as_ B refl) h.1, h.2)

-- one is judged of which it is said, and may have a line more
told-one : (whose : Whose) (t : Truths) (c : Card) (lines later was now : List Find) (own all : Card → List Find) → covers whose c ≡ true → own c ≡ was → all c ≡ now → all (other c) ≡ own (other c) → JudgesOne (t.entered c) lines later was now → AreTold whose t lines own → AreTold whose t later all
told-one Both t A lines later was now own all in_ mine is beside j h = merged-as later later now (all A) (all B) refl is (merged-as-other later later now (own B) (all B) refl beside (one-judged (t.entered A) lines later was now (own B) j (merged-as lines lines (own A) was (own B) refl (sym mine) h)))
told-one Both t B lines later was now own all in_ mine is beside j h = merged-as later later (own A) (all A) (all B) refl beside (merged-as-other later later (own A) now (all B) refl is (other-judged (t.entered B) lines later was now (own A) j (merged-as-other lines lines (own A) (own B) was refl (sym mine) h)))
told-one (Only A) t A lines later was now own all in_ mine is beside j h = (h.0, merged-as later later now (all A) h.0 refl is (one-judged (t.entered A) lines later was now h.0 j (merged-as lines lines (own A) was h.0 refl (sym mine) h.1)), h.2)
told-one (Only A) t B lines later was now own all in_ mine is beside j h = absurd (let wrong : false ≡ true = in_ in cc)
told-one (Only B) t A lines later was now own all in_ mine is beside j h = absurd (let wrong : false ≡ true = in_ in cc)
told-one (Only B) t B lines later was now own all in_ mine is beside j h = (h.0, merged-as later later now (all B) h.0 refl is (one-judged (t.entered B) lines later was now h.0 j (merged-as lines lines (own B) was h.0 refl (sym mine) h.1)), h.2)

-- the other may have one
abbrev pub TellsAside : (own : Find → Type 0) → (lines later : List Find) → Type 0
TellsAside own lines later = (later ≡ lines) ⊎ ((g : Find) × (later ≡ lines ++ g ∷ []) × own g)

told-aside : (whose : Whose) (t : Truths) (c : Card) (lines later : List Find) (own : Card → List Find) → covers whose c ≡ false → TellsAside (t.entered c) lines later → AreTold whose t lines own → AreTold whose t later own
told-aside Both t c lines later own out aside h = absurd (let wrong : true ≡ false = out in cc)
told-aside (Only A) t A lines later own out aside h = absurd (let wrong : true ≡ false = out in cc)
told-aside (Only A) t B lines later own out (inl same) h = (h.0, subst (λ (l : List Find). AreMerged l (own A) h.0) (sym same) h.1, h.2)
told-aside (Only A) t B lines later own out (inr g) h = (h.0 ++ g.0 ∷ [], subst (λ (l : List Find). AreMerged l (own A) (h.0 ++ g.0 ∷ [])) (sym g.1) (merged-other lines (own A) h.0 g.0 h.1), all-both (t.entered B) h.0 (g.0 ∷ []) h.2 (g.2, tt))
told-aside (Only B) t A lines later own out (inl same) h = (h.0, subst (λ (l : List Find). AreMerged l (own B) h.0) (sym same) h.1, h.2)
told-aside (Only B) t A lines later own out (inr g) h = (h.0 ++ g.0 ∷ [], subst (λ (l : List Find). AreMerged l (own B) (h.0 ++ g.0 ∷ [])) (sym g.1) (merged-other lines (own B) h.0 g.0 h.1), all-both (t.entered A) h.0 (g.0 ∷ []) h.2 (g.2, tt))
told-aside (Only B) t B lines later own out aside h = absurd (let wrong : true ≡ false = out in cc)

-- A CALL makes of the stays of a card these, as its session and its seat become others, and its spells these
pub record Turns (whose : Whose) (truths : Truths) (card : Card) (second : ℕ) (f : CardFound) (log later : RunLog) (r : Registration) (noted noted_now : List Spell) (sits sits_now : Bool) (s t : Option Accepted) (U V X Y : State) (ss : List Stay) (since : List Find) : Type 0 where
  pub now : List Stay
  pub left : List Find
  pub lone : (since ≡ []) ⊎ IsOwnValid f.image → (left ≡ []) ⊎ IsOwnValid f.image
  pub judged : JudgesOne (truths.entered card) (judged_told log) (judged_told later) (judged_in ss since) (judged_in now left)
  pub verdicts : IsOwnValid f.image → HasStays second f r noted sits ss s X → (is_some s ≡ true → since ≡ []) → AreJudged r (own_sizes f.image).activity ss since (start_shown f.image) → AreJudged r (own_sizes f.image).activity now left (start_shown f.image)
  pub waits : IsOwnValid f.image → (is_some s ≡ true → since ≡ []) → is_some t ≡ true → left ≡ []
  pub only : (ss ≡ []) ⊎ IsOwnValid f.image → (now ≡ []) ⊎ IsOwnValid f.image
  pub shows : IsOwnValid f.image → HasStays second f r noted sits ss s X → HasStays second f r noted_now sits_now now t Y
  pub hold : (ss ≡ []) ⊎ IsOwnValid f.image → (IsOwnValid f.image → HasStays second f r noted sits ss s X) → AreTrue whose truths card r f.image ss → AreTrue whose truths card r f.image now
  pub comes : (IsOwnValid f.image → HasStays second f r noted sits ss s X) → ComesOne f r (acceptances_told log) (acceptances_told later) ss now U V

-- none begins
pub turns-so : (whose : Whose) (truths : Truths) (card : Card) (second : ℕ) (f : CardFound) (log : RunLog) (r : Registration) (noted : List Spell) (sits : Bool) (s t : Option Accepted) (U V X Y : State) (turn : List Stay → List Stay)
    → ((ss : List Stay) → ss ≡ [] → turn ss ≡ []) → ((ss : List Stay) → comings_on r f.image (turn ss) ≡ comings_on r f.image ss) → TellMore [] U V → ((ss : List Stay) (since : List Find) → judged_in (turn ss) since ≡ judged_in ss since)
    → ((ss : List Stay) (since : List Find) → (is_some s ≡ true → since ≡ []) → AreJudged r (own_sizes f.image).activity ss since (start_shown f.image) → AreJudged r (own_sizes f.image).activity (turn ss) since (start_shown f.image)) → (IsOwnValid f.image → is_some t ≡ true → is_some s ≡ true)
    → (ss : List Stay) (since : List Find) → (IsOwnValid f.image → HasStays second f r noted sits ss s X → HasStays second f r noted sits (turn ss) t Y)
    → ((ss ≡ []) ⊎ IsOwnValid f.image → (IsOwnValid f.image → HasStays second f r noted sits ss s X) → AreTrue whose truths card r f.image ss → AreTrue whose truths card r f.image (turn ss)) → Turns whose truths card second f log log r noted noted sits sits s t U V X Y ss since
turns-so whose truths card second f log r noted sits s t U V X Y turn none comes go judged verdicts had ss since shows hold = record {
  now = turn ss;
  left = since;
  lone = λ was. was;
  judged = inl (refl, judged ss since);
  verdicts = λ valid h waits was. verdicts ss since waits was;
  waits = λ valid waits some. waits (had valid some);
  only = λ only. ⊎_elim (λ was. inl (none ss was)) (λ valid. inr valid) only;
  shows = shows;
  hold = hold;
  comes = λ shown. inl (refl, comes ss, go);
}

-- A SESSION AND A SEAT BECOME OTHERS, and the spells of a card with them: it has the same session or none, and what was as noted is so still
pub record Moves (second : ℕ) (noted now : List Spell) (sits sits_now : Bool) (s t : Option Accepted) : Type 0 where
  pub session : (t ≡ s) ⊎ (t ≡ None)
  pub spell : (ss : List Spell) → as_noted second s sits ss ≡ noted → as_noted second t sits_now ss ≡ now

-- nothing does;
pub moves-same : (second : ℕ) (noted now : List Spell) (sits sits_now : Bool) (s t : Option Accepted) → now ≡ noted → sits_now ≡ sits → t ≡ s → Moves second noted now sits sits_now s t
moves-same second noted now sits sits_now s t spell seat session = record {
  session = inl session;
  spell = λ ss was. ap (λ (q : Option Accepted). as_noted second q sits_now ss) session ∙ ap (λ (b : Bool). as_noted second s b ss) seat ∙ was ∙ sym spell;
}

-- a card that has none sits elsewhere, or nowhere;
pub moves-bare : (second : ℕ) (noted now : List Spell) (sits sits_now : Bool) (s t : Option Accepted) → now ≡ noted → s ≡ None → t ≡ None → Moves second noted now sits sits_now s t
moves-bare second noted now sits sits_now s t spell none none_now = record {
  session = inr none_now;
  spell = λ ss was. ap (λ (q : Option Accepted). as_noted second q sits_now ss) none_now ∙ sym (ap (λ (q : Option Accepted). as_noted second q sits ss) none) ∙ was ∙ sym spell;
}

-- a card that sat in a slot has no session any more, and is not withdrawn;
pub moves-gone : (second : ℕ) (noted now : List Spell) (sits sits_now : Bool) (s t : Option Accepted) → now ≡ noted → (is_some s ≡ true → sits ≡ true) → t ≡ None → Moves second noted now sits sits_now s t
moves-gone second noted now sits sits_now s t spell sat none = record { session = inr none; spell = λ ss was. ap (λ (q : Option Accepted). as_noted second q sits_now ss) none ∙ by s sat ss ∙ was ∙ sym spell }
  where
    by : (s : Option Accepted) → (is_some s ≡ true → sits ≡ true) → (ss : List Spell) → ss ≡ as_noted second s sits ss
    by None sat ss = refl
    by (Some a) sat ss = sym (ap (λ (b : Bool). as_noted second (Some a) b ss) (sat refl))

-- one that has a session leaves its slot, and is withdrawn.
pub moves-leaves : (second : ℕ) (noted now : List Spell) (sits sits_now : Bool) (s t : Option Accepted) → is_some s ≡ true → t ≡ s → sits ≡ true → sits_now ≡ false → now ≡ with_last_shut second noted → Moves second noted now sits sits_now s t
moves-leaves second noted now sits sits_now None t some session there gone spell = absurd (let wrong : false ≡ true = some in cc)
moves-leaves second noted now sits sits_now (Some a) t some session there gone spell = record {
  session = inl session;
  spell = λ ss was.
      ap (λ (q : Option Accepted). as_noted second q sits_now ss) session ∙ ap (λ (b : Bool). as_noted second (Some a) b ss) gone
      ∙ ap (with_last_shut second) (sym (ap (λ (b : Bool). as_noted second (Some a) b ss) there) ∙ was) ∙ sym spell;
}

-- ---- in which slot it sits

-- where it sat, with the session that it had, by the slot of its last spell
pub placed-same : (notes now : List Note) (cabin after : Cabin) (c : Card) → last_slot (spells_of c now) ≡ last_slot (spells_of c notes) →
    ((slot : Slot) → card_in (seat_in after.slots.seats slot) ≡ Some c → card_in (seat_in cabin.slots.seats slot) ≡ Some c) → (is_some (session_of after.cards c) ≡ true → is_some (session_of cabin.cards c) ≡ true) →
    IsPlaced notes cabin c → IsPlaced now after c
placed-same notes now cabin after c spell seat session was = λ slot some there. spell ∙ was slot (session some) (seat slot there)

-- it has none any more, or sits nowhere
pub placed-bare : (now : List Note) (after : Cabin) (c : Card) → session_of after.cards c ≡ None → IsPlaced now after c
placed-bare now after c none = λ slot some there. absurd (let wrong : false ≡ true = sym (ap (λ (q : Option Accepted). is_some q) none) ∙ some in cc)

pub placed-nowhere : (now : List Note) (after : Cabin) (c : Card) → ((slot : Slot) → card_in (seat_in after.slots.seats slot) ≡ Some c → ⊥) → IsPlaced now after c
placed-nowhere now after c nowhere = λ slot some there. absurd (nowhere slot there)

-- with the same of all
as-same : (second : ℕ) (f : CardFound) (r : Registration) (noted now : List Spell) (sits sits_now : Bool) (ss : List Stay) (s t : Option Accepted) (X : State) → now ≡ noted → sits_now ≡ sits → t ≡ s → HasStays second f r noted sits ss s X → HasStays second f r now sits_now ss t X
as-same second f r noted now sits sits_now ss s t X spell seat session h =
    subst (λ (q : Option Accepted). HasStays second f r now sits_now ss q X) (sym session)
    (subst (λ (b : Bool). HasStays second f r now b ss s X) (sym seat)
    (subst (λ (l : List Spell). HasStays second f r l sits ss s X) (sym spell) h))

-- with these of one card
abbrev pub with_mine : Card → List Stay → (Card → List Stay) → Card → List Stay
with_mine A mine ss A = mine
with_mine A mine ss B = ss B
with_mine B mine ss A = ss A
with_mine B mine ss B = mine

abbrev pub with_since : Card → List Find → (Card → List Find) → Card → List Find
with_since A mine fs A = mine
with_since A mine fs B = fs B
with_since B mine fs A = fs A
with_since B mine fs B = mine

-- A CARD KEEPS ITS SEAT: it sits in a slot as it did, and in none in which it did not sit
pub record KeepsSeat (cabin after : Cabin) (c : Card) : Type 0 where
  pub sits : sits_in after.slots.seats c ≡ sits_in cabin.slots.seats c
  pub there : (slot : Slot) → card_in (seat_in after.slots.seats slot) ≡ Some c → card_in (seat_in cabin.slots.seats slot) ≡ Some c

-- ---- both cards

module _ (o : Origin) (t : Truths) (u : ℕ) where
  abbrev f : Card → CardFound
  f c = found_of o.found c

  abbrev Are : Whose → RunLog → List Note → Registration → Cabin → Devices → Type 0
  Are whose log notes r cabin d = AreStays whose o t u notes (acceptances_told log) (judged_told log) r cabin d

  -- of one card
  abbrev HasOf : Registration → List Note → Cabin → Card → List Stay → State → Type 0
  HasOf r notes cabin c ss X = HasStays u (f c) r (spells_of c notes) (sits_in cabin.slots.seats c) ss (session_of cabin.cards c) X

  abbrev TurnsOf : Whose → Card → (log later : RunLog) → (notes now : List Note) → Registration → (cabin after : Cabin) → (U V X Y : State) → List Stay → List Find → Type 0
  TurnsOf whose c log later notes now r cabin after U V X Y ss since =
      Turns whose t c u (f c) log later r (spells_of c notes) (spells_of c now) (sits_in cabin.slots.seats c) (sits_in after.slots.seats c) (session_of cabin.cards c) (session_of after.cards c) U V X Y ss since

  -- ---- what the unit tells of the vehicles before

  abbrev Befores : List Find → Registration → (Card → List Stay) → State → Type 0
  Befores told r ss U = TellsBefores o.recording.unit told r (λ (c : Card). (found_of o.found c).image) ss U

  -- a unit that is not called
  unit-still : (U : State) → TellMore [] U U
  unit-still U = λ y left. (y, left, λ points. tells-none y points)

  -- no card has come
  befores-as : (told later : List Find) (r : Registration) (ss now : Card → List Stay) (U V : State) → later ≡ told → ((c : Card) → comings_on r (f c).image (now c) ≡ comings_on r (f c).image (ss c)) → TellMore [] U V → Befores told r ss U → Befores later r now V
  befores-as told later r ss now U V same as_ go h = record {
    comings = h.comings;
    lines = h.lines ∙ sym same;
    merged = subst (λ (l : List Coming). AreMerged h.comings l (comings_on r (f B).image (now B))) (sym (as_ A)) (subst (λ (l : List Coming). AreMerged h.comings (comings_on r (f A).image (ss A)) l) (sym (as_ B)) h.merged);
    tells = λ stood y left.
        let x = go y left in
        let was = h.tells stood x.0 x.1 in
        subst (λ (vs : List VehicleTold). TellsMore vs o.recording.unit y) (append-nil (befores_of h.comings)) (tells-then (befores_of h.comings) [] o.recording.unit x.0 y was (x.2 was.points));
  }

  -- one has
  befores-one : (c : Card) (told later : List Find) (r : Registration) (ss : Card → List Stay) (mine : List Stay) (x : Coming) (U V : State) → later ≡ told ++ x.found ∷ [] → comings_on r (f c).image mine ≡ comings_on r (f c).image (ss c) ++ x ∷ [] → TellMore (told_of x.before ∷ []) U V →
      Befores told r ss U → Befores later r (with_mine c mine ss) V
  befores-one c told later r ss mine x U V is own go h = record {
    comings = h.comings ++ x ∷ [];
    lines = map-append (λ (k : Coming). k.found) h.comings (x ∷ []) ∙ ap (λ (l : List Find). l ++ x.found ∷ []) h.lines ∙ sym is;
    merged = by c own;
    tells = λ stood y left.
        let z = go y left in
        let was = h.tells stood z.0 z.1 in
        subst (λ (vs : List VehicleTold). TellsMore vs o.recording.unit y) (sym (map-append (λ (k : Coming). told_of k.before) h.comings (x ∷ [])))
        (tells-then (befores_of h.comings) (told_of x.before ∷ []) o.recording.unit z.0 y was (z.2 was.points));
  }
    where
      by : (c : Card) → comings_on r (f c).image mine ≡ comings_on r (f c).image (ss c) ++ x ∷ [] → AreMerged (h.comings ++ x ∷ []) (comings_on r (f A).image (with_mine c mine ss A)) (comings_on r (f B).image (with_mine c mine ss B))
      by A own = subst (λ (l : List Coming). AreMerged (h.comings ++ x ∷ []) l (comings_on r (f B).image (ss B))) (sym own) (merged-one h.comings (comings_on r (f A).image (ss A)) (comings_on r (f B).image (ss B)) x h.merged)
      by B own = subst (λ (l : List Coming). AreMerged (h.comings ++ x ∷ []) (comings_on r (f A).image (ss A)) l) (sym own) (merged-other h.comings (comings_on r (f A).image (ss A)) (comings_on r (f B).image (ss B)) x h.merged)

  befores-turned : (c : Card) (told later : List Find) (r : Registration) (ss : Card → List Stay) (mine : List Stay) (U V : State) → ComesOne (f c) r told later (ss c) mine U V → Befores told r ss U → Befores later r (with_mine c mine ss) V
  befores-turned c told later r ss mine U V (inl t) h = befores-as told later r ss (with_mine c mine ss) U V t.0 (λ k. by c k t.1) t.2 h
    where
      by : (c k : Card) → comings_on r (f c).image mine ≡ comings_on r (f c).image (ss c) → comings_on r (f k).image (with_mine c mine ss k) ≡ comings_on r (f k).image (ss k)
      by A A own = own
      by A B own = refl
      by B A own = refl
      by B B own = own
  befores-turned c told later r ss mine U V (inr t) h = befores-one c told later r ss mine t.0 U V t.1 t.2 t.3 h

  -- as they are those of both cards, or not
  told-befores : (whose : Whose) (told later : List Find) (r : Registration) (ss now : Card → List Stay) (U V : State) → later ≡ told → ((c : Card) → comings_on r (f c).image (now c) ≡ comings_on r (f c).image (ss c)) → TellMore [] U V →
      AreToldBefore whose o.recording.unit told r (λ (c : Card). (found_of o.found c).image) ss U → AreToldBefore whose o.recording.unit later r (λ (c : Card). (found_of o.found c).image) now V
  told-befores Both told later r ss now U V same as_ go h = befores-as told later r ss now U V same as_ go h
  told-befores (Only k) told later r ss now U V same as_ go h = tt

  told-turned : (whose : Whose) (c : Card) (told later : List Find) (r : Registration) (ss : Card → List Stay) (mine : List Stay) (U V : State) → ComesOne (f c) r told later (ss c) mine U V →
      AreToldBefore whose o.recording.unit told r (λ (k : Card). (found_of o.found k).image) ss U → AreToldBefore whose o.recording.unit later r (λ (k : Card). (found_of o.found k).image) (with_mine c mine ss) V
  told-turned Both c told later r ss mine U V comes h = befores-turned c told later r ss mine U V comes h
  told-turned (Only k) c told later r ss mine U V comes h = tt

  -- aside of one card nothing is said of them
  told-nothing : (whose : Whose) (c : Card) (told : List Find) (r : Registration) (ss : Card → List Stay) (U : State) → covers whose c ≡ false → AreToldBefore whose o.recording.unit told r (λ (k : Card). (found_of o.found k).image) ss U
  told-nothing Both c told r ss U out = absurd (let wrong : true ≡ false = out in cc)
  told-nothing (Only k) c told r ss U out = tt

  -- the unit alone differs, and tells no vehicle more
  pub all-unit : (log : RunLog) (notes : List Note) (r : Registration) (cabin : Cabin) (U V X Y : State) → TellMore [] U V → AllStay o t u log notes r cabin (devices U X Y) → AllStay o t u log notes r cabin (devices V X Y)
  all-unit log notes r cabin U V X Y go all whose known =
      let h = all whose (known-still whose o log (devices U X Y) (devices V X Y) (stood-unit o U V X Y) known) in
      record {
        says = h.says;
        stays = h.stays;
        only = h.only;
        each = λ c in_ valid. by whose h c in_ valid;
        hold = h.hold;
        placed = h.placed;
        since = h.since;
        lone = h.lone;
        judged = h.judged;
        entered = h.entered;
        verdicts = h.verdicts;
        waits = h.waits;
        befores = told-befores whose (acceptances_told log) (acceptances_told log) r h.stays h.stays U V refl (λ c. refl) go h.befores;
      }
    where
      by : (whose : Whose) (h : Are whose log notes r cabin (devices U X Y)) (c : Card) → covers whose c ≡ true → IsOwnValid (f c).image → HasOf r notes cabin c (h.stays c) (card_of (devices V X Y) c)
      by whose h A in_ valid = h.each A in_ valid
      by whose h B in_ valid = h.each B in_ valid

  -- the vehicle is the same
  pub all-of : (log : RunLog) (notes : List Note) (r new : Registration) (cabin : Cabin) (d : Devices) → new ≡ r → AllStay o t u log notes r cabin d → AllStay o t u log notes new cabin d
  all-of log notes r new cabin d same all = subst (λ (v : Registration). AllStay o t u log notes v cabin d) (sym same) all

  -- THE LOG AND THE NOTES GO ON, as sessions and seats do; no card is called
  pub all-moved : (log later : RunLog) (notes now : List Note) (r : Registration) (cabin after : Cabin) (d : Devices) → GoesOn o log later d d →
      ((whose : Whose) → AreKnown whose o later d → (c : Card) → covers whose c ≡ true → Moves u (spells_of c notes) (spells_of c now) (sits_in cabin.slots.seats c) (sits_in after.slots.seats c) (session_of cabin.cards c) (session_of after.cards c)) →
      ((whose : Whose) → AreKnown whose o later d → (c : Card) → covers whose c ≡ true → IsPlaced notes cabin c → IsPlaced now after c) → AllStay o t u log notes r cabin d → AllStay o t u later now r after d
  all-moved log later notes now r cabin after d on moves places all whose known =
      let g = on whose known in
      let h = all whose g.known in
      record {
        says = h.says;
        stays = h.stays;
        only = h.only;
        each = λ c in_ valid.
            let m = moves whose known c in_ in
            stays-moved u (f c) r (spells_of c notes) (spells_of c now) (sits_in cabin.slots.seats c) (sits_in after.slots.seats c) (h.stays c) (session_of cabin.cards c) (session_of after.cards c) (card_of d c)
            (λ was. goes (h.stays c) (session_of cabin.cards c) (session_of after.cards c) m.session was) (m.spell (spells (h.stays c))) (h.each c in_ valid);
        hold = h.hold;
        placed = λ c in_ valid. places whose known c in_ (h.placed c in_ valid);
        since = h.since;
        lone = h.lone;
        entered = h.entered;
        judged = told-as whose t (judged_told log) (judged_told later) (λ (c : Card). judged_in (h.stays c) (h.since c)) (λ (c : Card). judged_in (h.stays c) (h.since c)) g.judged (λ c in_. refl) h.judged;
        verdicts = h.verdicts;
        waits = λ c in_ valid some. h.waits c in_ valid (had (session_of cabin.cards c) (session_of after.cards c) (moves whose known c in_).session some);
        befores = told-befores whose (acceptances_told log) (acceptances_told later) r h.stays h.stays d.unit d.unit g.finds (λ c. refl) (unit-still d.unit) h.befores;
      }
    where
      had : (s t : Option Accepted) → (t ≡ s) ⊎ (t ≡ None) → is_some t ≡ true → is_some s ≡ true
      had s t (inl same) some = sym (ap (λ (q : Option Accepted). is_some q) same) ∙ some
      had s t (inr none) some = absurd (let wrong : false ≡ true = sym (ap (λ (q : Option Accepted). is_some q) none) ∙ some in cc)

      goes : (ss : List Stay) (s t : Option Accepted) → (t ≡ s) ⊎ (t ≡ None) → StaysIn r ss s → StaysIn r ss t
      goes ss s t (inl same) was = subst (λ (q : Option Accepted). StaysIn r ss q) (sym same) was
      goes ss s t (inr none) was = subst (λ (q : Option Accepted). StaysIn r ss q) (sym none) tt

  -- the log alone goes on, or the notes, with the same spells
  pub all-noted : (log later : RunLog) (notes now : List Note) (r : Registration) (cabin : Cabin) (d : Devices) → GoesOn o log later d d → ((whose : Whose) → AreKnown whose o later d → (c : Card) → covers whose c ≡ true → spells_of c now ≡ spells_of c notes) → AllStay o t u log notes r cabin d → AllStay o t u later now r cabin d
  all-noted log later notes now r cabin d on same all =
      all-moved log later notes now r cabin cabin d on
      (λ whose known c in_. moves-same u (spells_of c notes) (spells_of c now) (sits_in cabin.slots.seats c) (sits_in cabin.slots.seats c) (session_of cabin.cards c) (session_of cabin.cards c) (same whose known c in_) refl refl)
      (λ whose known c in_ was. placed-same notes now cabin cabin c (ap last_slot (same whose known c in_)) (λ slot there. there) (λ some. some) was) all

  -- the cabin alone differs, with the same seats and sessions
  pub all-seated : (log : RunLog) (notes : List Note) (r : Registration) (cabin after : Cabin) (d : Devices) → after.slots.seats ≡ cabin.slots.seats → ((c : Card) → session_of after.cards c ≡ session_of cabin.cards c) →
      AllStay o t u log notes r cabin d → AllStay o t u log notes r after d
  all-seated log notes r cabin after d seats sessions all =
      all-moved log log notes notes r cabin after d (log-self o log d)
      (λ whose known c in_. moves-same u (spells_of c notes) (spells_of c notes) (sits_in cabin.slots.seats c) (sits_in after.slots.seats c) (session_of cabin.cards c) (session_of after.cards c) refl (ap (λ (q : Seats). sits_in q c) seats) (sessions c))
      (λ whose known c in_ was.
      placed-same notes notes cabin after c refl (λ slot there. ap (λ (q : Seats). card_in (seat_in q slot)) (sym seats) ∙ there) (λ some. ap (λ (q : Option Accepted). is_some q) (sym (sessions c)) ∙ some) was) all

  -- A CALL THAT IS ABOUT ONE CARD, and the unit: nothing is noted of the other one, which has its session and its seat.
  -- Where that card fell only the other's stays are known.
  pub all-one : (c : Card) (log later : RunLog) (notes now : List Note) (r : Registration) (cabin after : Cabin) (U V X Y Z : State) → ((whose : Whose) → AreKnown whose o later (arranged c V Y Z) → AreKnown whose o log (arranged c U X Z)) → session_of after.cards (other c) ≡ session_of cabin.cards (other c) →
      sits_in after.slots.seats (other c) ≡ sits_in cabin.slots.seats (other c) →
      ((slot : Slot) → card_in (seat_in after.slots.seats slot) ≡ Some (other c) → card_in (seat_in cabin.slots.seats slot) ≡ Some (other c)) → ((whose : Whose) → AreKnown whose o later (arranged c V Y Z) → covers whose (other c) ≡ true → spells_of (other c) now ≡ spells_of (other c) notes)
      → ((whose : Whose) → AreKnown whose o later (arranged c V Y Z) → covers whose c ≡ true → IsPlaced notes cabin c → IsPlaced now after c)
      → ((whose : Whose) → AreKnown whose o later (arranged c V Y Z) → covers whose c ≡ true → (h : Are whose log notes r cabin (arranged c U X Z)) → TurnsOf whose c log later notes now r cabin after U V X Y (h.stays c) (h.since c))
      → ((whose : Whose) → AreKnown whose o later (arranged c V Y Z) → covers whose c ≡ false → TellsAside (t.entered c) (judged_told log) (judged_told later))
      → AllStay o t u log notes r cabin (arranged c U X Z) → AllStay o t u later now r after (arranged c V Y Z)
  all-one A log later notes now r cabin after U V X Y Z fewer same seat beside spell place own aside all whose known = by (covers whose A) refl (all whose (fewer whose known))
    where
      kept : (h : Are whose log notes r cabin (arranged A U X Z)) → covers whose B ≡ true → IsOwnValid (f B).image → HasOf r now after B (h.stays B) Z
      kept h in_ valid =
          as-same u (f B) r (spells_of B notes) (spells_of B now) (sits_in cabin.slots.seats B) (sits_in after.slots.seats B) (h.stays B) (session_of cabin.cards B) (session_of after.cards B) Z (spell whose known in_) seat same (h.each B in_ valid)

      kept-placed : (h : Are whose log notes r cabin (arranged A U X Z)) → covers whose B ≡ true → IsOwnValid (f B).image → IsPlaced now after B
      kept-placed h in_ valid = placed-same notes now cabin after B (ap last_slot (spell whose known in_)) beside (λ some. ap (λ (q : Option Accepted). is_some q) (sym same) ∙ some) (h.placed B in_ valid)

      kept-waits : (h : Are whose log notes r cabin (arranged A U X Z)) → covers whose B ≡ true → IsOwnValid (f B).image → is_some (session_of after.cards B) ≡ true → h.since B ≡ []
      kept-waits h in_ valid some = h.waits B in_ valid (sym (ap (λ (q : Option Accepted). is_some q) same) ∙ some)

      -- it is said of the card
      covered : covers whose A ≡ true → (h : Are whose log notes r cabin (arranged A U X Z)) → TurnsOf whose A log later notes now r cabin after U V X Y (h.stays A) (h.since A) → Are whose later now r after (arranged A V Y Z)
      covered mine h x = record {
        says = h.says;
        stays = with_mine A x.now h.stays;
        only = λ c in_. only c in_;
        each = λ c in_ valid. each c in_ valid;
        hold = λ c in_. hold c in_;
        placed = λ c in_ valid. placed c in_ valid;
        since = with_since A x.left h.since;
        lone = λ c in_. lone c in_;
        entered = λ c in_. entered c in_;
        judged = told-one whose t A (judged_told log) (judged_told later) (judged_in (h.stays A) (h.since A)) (judged_in x.now x.left) (λ (c : Card). judged_in (h.stays c) (h.since c)) (λ (c : Card). judged_in (with_mine A x.now h.stays c) (with_since A x.left h.since c)) mine refl refl refl x.judged h.judged;
        verdicts = λ c in_ valid. verdicts c in_ valid;
        waits = λ c in_ valid some. waits c in_ valid some;
        befores = told-turned whose A (acceptances_told log) (acceptances_told later) r h.stays x.now U V (x.comes (h.each A mine)) h.befores;
      }
        where
          only : (c : Card) → covers whose c ≡ true → (with_mine A x.now h.stays c ≡ []) ⊎ IsOwnValid (f c).image
          only A in_ = x.only (h.only A in_)
          only B in_ = h.only B in_

          each : (c : Card) → covers whose c ≡ true → IsOwnValid (f c).image → HasOf r now after c (with_mine A x.now h.stays c) (card_of (arranged A V Y Z) c)
          each A in_ valid = x.shows valid (h.each A in_ valid)
          each B in_ valid = kept h in_ valid

          hold : (c : Card) → covers whose c ≡ true → AreTrue whose t c r (f c).image (with_mine A x.now h.stays c)
          hold A in_ = x.hold (h.only A in_) (h.each A in_) (h.hold A in_)
          hold B in_ = h.hold B in_

          verdicts : (c : Card) → covers whose c ≡ true → IsOwnValid (f c).image → AreJudged r (own_sizes (f c).image).activity (with_mine A x.now h.stays c) (with_since A x.left h.since c) (start_shown (f c).image)
          verdicts A in_ valid = x.verdicts valid (h.each A in_ valid) (h.waits A in_ valid) (h.verdicts A in_ valid)
          verdicts B in_ valid = h.verdicts B in_ valid

          waits : (c : Card) → covers whose c ≡ true → IsOwnValid (f c).image → is_some (session_of after.cards c) ≡ true → with_since A x.left h.since c ≡ []
          waits A in_ valid some = x.waits valid (h.waits A in_ valid) some
          waits B in_ valid some = kept-waits h in_ valid some

          entered : (c : Card) → covers whose c ≡ true → AllByRecursion (t.entered c) (judged_in (with_mine A x.now h.stays c) (with_since A x.left h.since c))
          entered A in_ = judged-own (t.entered A) (judged_told log) (judged_told later) (judged_in (h.stays A) (h.since A)) (judged_in x.now x.left) x.judged (h.entered A in_)
          entered B in_ = h.entered B in_

          lone : (c : Card) → covers whose c ≡ true → (with_since A x.left h.since c ≡ []) ⊎ IsOwnValid (f c).image
          lone A in_ = x.lone (h.lone A in_)
          lone B in_ = h.lone B in_

          placed : (c : Card) → covers whose c ≡ true → IsOwnValid (f c).image → IsPlaced now after c
          placed A in_ valid = place whose known in_ (h.placed A in_ valid)
          placed B in_ valid = kept-placed h in_ valid

      -- or of the other alone
      out-of : {T : Type 0} → covers whose A ≡ false → covers whose A ≡ true → T
      out-of out in_ = absurd (let wrong : false ≡ true = sym out ∙ in_ in cc)

      beside-it : covers whose A ≡ false → (h : Are whose log notes r cabin (arranged A U X Z)) → Are whose later now r after (arranged A V Y Z)
      beside-it out h = record {
        says = h.says;
        stays = h.stays;
        only = h.only;
        each = λ c in_ valid. each c in_ valid;
        hold = h.hold;
        placed = λ c in_ valid. placed c in_ valid;
        since = h.since;
        lone = h.lone;
        entered = h.entered;
        judged = told-aside whose t A (judged_told log) (judged_told later) (λ (c : Card). judged_in (h.stays c) (h.since c)) out (aside whose known out) h.judged;
        verdicts = h.verdicts;
        waits = λ c in_ valid some. waits c in_ valid some;
        befores = told-nothing whose A (acceptances_told later) r h.stays V out;
      }
        where
          each : (c : Card) → covers whose c ≡ true → IsOwnValid (f c).image → HasOf r now after c (h.stays c) (card_of (arranged A V Y Z) c)
          each A in_ valid = out-of out in_
          each B in_ valid = kept h in_ valid

          placed : (c : Card) → covers whose c ≡ true → IsOwnValid (f c).image → IsPlaced now after c
          placed A in_ valid = out-of out in_
          placed B in_ valid = kept-placed h in_ valid

          waits : (c : Card) → covers whose c ≡ true → IsOwnValid (f c).image → is_some (session_of after.cards c) ≡ true → h.since c ≡ []
          waits A in_ valid some = out-of out in_
          waits B in_ valid some = kept-waits h in_ valid some

      by : (b : Bool) → covers whose A ≡ b → Are whose log notes r cabin (arranged A U X Z) → Are whose later now r after (arranged A V Y Z)
      by true mine h = covered mine h (own whose known mine h)
      by false out h = beside-it out h
  all-one B log later notes now r cabin after U V X Y Z fewer same seat beside spell place own aside all whose known = by (covers whose B) refl (all whose (fewer whose known))
    where
      kept : (h : Are whose log notes r cabin (arranged B U X Z)) → covers whose A ≡ true → IsOwnValid (f A).image → HasOf r now after A (h.stays A) Z
      kept h in_ valid =
          as-same u (f A) r (spells_of A notes) (spells_of A now) (sits_in cabin.slots.seats A) (sits_in after.slots.seats A) (h.stays A) (session_of cabin.cards A) (session_of after.cards A) Z (spell whose known in_) seat same (h.each A in_ valid)

      kept-placed : (h : Are whose log notes r cabin (arranged B U X Z)) → covers whose A ≡ true → IsOwnValid (f A).image → IsPlaced now after A
      kept-placed h in_ valid = placed-same notes now cabin after A (ap last_slot (spell whose known in_)) beside (λ some. ap (λ (q : Option Accepted). is_some q) (sym same) ∙ some) (h.placed A in_ valid)

      kept-waits : (h : Are whose log notes r cabin (arranged B U X Z)) → covers whose A ≡ true → IsOwnValid (f A).image → is_some (session_of after.cards A) ≡ true → h.since A ≡ []
      kept-waits h in_ valid some = h.waits A in_ valid (sym (ap (λ (q : Option Accepted). is_some q) same) ∙ some)

      -- it is said of the card
      covered : covers whose B ≡ true → (h : Are whose log notes r cabin (arranged B U X Z)) → TurnsOf whose B log later notes now r cabin after U V X Y (h.stays B) (h.since B) → Are whose later now r after (arranged B V Y Z)
      covered mine h x = record {
        says = h.says;
        stays = with_mine B x.now h.stays;
        only = λ c in_. only c in_;
        each = λ c in_ valid. each c in_ valid;
        hold = λ c in_. hold c in_;
        placed = λ c in_ valid. placed c in_ valid;
        since = with_since B x.left h.since;
        lone = λ c in_. lone c in_;
        entered = λ c in_. entered c in_;
        judged = told-one whose t B (judged_told log) (judged_told later) (judged_in (h.stays B) (h.since B)) (judged_in x.now x.left) (λ (c : Card). judged_in (h.stays c) (h.since c)) (λ (c : Card). judged_in (with_mine B x.now h.stays c) (with_since B x.left h.since c)) mine refl refl refl x.judged h.judged;
        verdicts = λ c in_ valid. verdicts c in_ valid;
        waits = λ c in_ valid some. waits c in_ valid some;
        befores = told-turned whose B (acceptances_told log) (acceptances_told later) r h.stays x.now U V (x.comes (h.each B mine)) h.befores;
      }
        where
          only : (c : Card) → covers whose c ≡ true → (with_mine B x.now h.stays c ≡ []) ⊎ IsOwnValid (f c).image
          only B in_ = x.only (h.only B in_)
          only A in_ = h.only A in_

          each : (c : Card) → covers whose c ≡ true → IsOwnValid (f c).image → HasOf r now after c (with_mine B x.now h.stays c) (card_of (arranged B V Y Z) c)
          each B in_ valid = x.shows valid (h.each B in_ valid)
          each A in_ valid = kept h in_ valid

          hold : (c : Card) → covers whose c ≡ true → AreTrue whose t c r (f c).image (with_mine B x.now h.stays c)
          hold B in_ = x.hold (h.only B in_) (h.each B in_) (h.hold B in_)
          hold A in_ = h.hold A in_

          verdicts : (c : Card) → covers whose c ≡ true → IsOwnValid (f c).image → AreJudged r (own_sizes (f c).image).activity (with_mine B x.now h.stays c) (with_since B x.left h.since c) (start_shown (f c).image)
          verdicts B in_ valid = x.verdicts valid (h.each B in_ valid) (h.waits B in_ valid) (h.verdicts B in_ valid)
          verdicts A in_ valid = h.verdicts A in_ valid

          waits : (c : Card) → covers whose c ≡ true → IsOwnValid (f c).image → is_some (session_of after.cards c) ≡ true → with_since B x.left h.since c ≡ []
          waits B in_ valid some = x.waits valid (h.waits B in_ valid) some
          waits A in_ valid some = kept-waits h in_ valid some

          entered : (c : Card) → covers whose c ≡ true → AllByRecursion (t.entered c) (judged_in (with_mine B x.now h.stays c) (with_since B x.left h.since c))
          entered B in_ = judged-own (t.entered B) (judged_told log) (judged_told later) (judged_in (h.stays B) (h.since B)) (judged_in x.now x.left) x.judged (h.entered B in_)
          entered A in_ = h.entered A in_

          lone : (c : Card) → covers whose c ≡ true → (with_since B x.left h.since c ≡ []) ⊎ IsOwnValid (f c).image
          lone B in_ = x.lone (h.lone B in_)
          lone A in_ = h.lone A in_

          placed : (c : Card) → covers whose c ≡ true → IsOwnValid (f c).image → IsPlaced now after c
          placed B in_ valid = place whose known in_ (h.placed B in_ valid)
          placed A in_ valid = kept-placed h in_ valid

      -- or of the other alone
      out-of : {T : Type 0} → covers whose B ≡ false → covers whose B ≡ true → T
      out-of out in_ = absurd (let wrong : false ≡ true = sym out ∙ in_ in cc)

      beside-it : covers whose B ≡ false → (h : Are whose log notes r cabin (arranged B U X Z)) → Are whose later now r after (arranged B V Y Z)
      beside-it out h = record {
        says = h.says;
        stays = h.stays;
        only = h.only;
        each = λ c in_ valid. each c in_ valid;
        hold = h.hold;
        placed = λ c in_ valid. placed c in_ valid;
        since = h.since;
        lone = h.lone;
        entered = h.entered;
        judged = told-aside whose t B (judged_told log) (judged_told later) (λ (c : Card). judged_in (h.stays c) (h.since c)) out (aside whose known out) h.judged;
        verdicts = h.verdicts;
        waits = λ c in_ valid some. waits c in_ valid some;
        befores = told-nothing whose B (acceptances_told later) r h.stays V out;
      }
        where
          each : (c : Card) → covers whose c ≡ true → IsOwnValid (f c).image → HasOf r now after c (h.stays c) (card_of (arranged B V Y Z) c)
          each B in_ valid = out-of out in_
          each A in_ valid = kept h in_ valid

          placed : (c : Card) → covers whose c ≡ true → IsOwnValid (f c).image → IsPlaced now after c
          placed B in_ valid = out-of out in_
          placed A in_ valid = kept-placed h in_ valid

          waits : (c : Card) → covers whose c ≡ true → IsOwnValid (f c).image → is_some (session_of after.cards c) ≡ true → h.since c ≡ []
          waits B in_ valid some = out-of out in_
          waits A in_ valid some = kept-waits h in_ valid some

      by : (b : Bool) → covers whose B ≡ b → Are whose log notes r cabin (arranged B U X Z) → Are whose later now r after (arranged B V Y Z)
      by true mine h = covered mine h (own whose known mine h)
      by false out h = beside-it out h

  -- minutes are kept
  one-kept : (r : Registration) (c : Card) (noted : List Spell) (sits : Bool) (ss : List Stay) (ks : List Kept) (s q : Option Accepted) (X Y : State) → (is_some s ≡ true → is_some q ≡ true) → KeepsOn (f c) ks s q X Y → HasStays u (f c) r noted sits ss s X → HasStays u (f c) r noted sits (kept_stays s ks ss) q Y
  unfolding kept_stays
  one-kept r c noted sits ss ks None None X Y some on h = stays-still u (f c) r noted sits ss None X Y on h
  one-kept r c noted sits ss ks None (Some b) X Y some on h = absurd on
  one-kept r c noted sits ss ks (Some a) None X Y some on h = let no = some refl in absurd (cc)
  one-kept r c noted sits ss ks (Some a) (Some b) X Y some on h = stays-keep u (f c) r noted sits ss ks a b X Y on h

  had-session : (c : Card) (ks : List Kept) (s q : Option Accepted) (X Y : State) → KeepsOn (f c) ks s q X Y → is_some q ≡ true → is_some s ≡ true
  had-session c ks None None X Y on some = some
  had-session c ks None (Some b) X Y on some = absurd on
  had-session c ks (Some a) q X Y on some = refl

  -- nothing is noted, and a card that does not fall has its seat and its session
  pub all-kept : (log later : RunLog) (notes now : List Note) (r : Registration) (ks : Card → List Kept) (cabin after : Cabin) (d e : Devices) → TellMore [] d.unit e.unit → GoesOn o log later d e → ((whose : Whose) → AreKnown whose o later e → (c : Card) → covers whose c ≡ true → spells_of c now ≡ spells_of c notes) →
      ((whose : Whose) → AreKnown whose o later e → (c : Card) → covers whose c ≡ true → KeepsSeat cabin after c) → ((whose : Whose) → AreKnown whose o later e → (c : Card) → covers whose c ≡ true → is_some (session_of cabin.cards c) ≡ true → is_some (session_of after.cards c) ≡ true)
      → AllKeep o.found ks cabin.cards after.cards d e → ((whose : Whose) → AreKnown whose o later e → (c : Card) → AllByRecursion t.kept (ks c)) → AllStay o t u log notes r cabin d → AllStay o t u later now r after e
  all-kept log later notes now r ks cabin after d e go on spell seats some keep kepts all whose known =
      let g = on whose known in
      let h = all whose g.known in
      record {
        says = h.says;
        stays = λ c. kept_stays (session_of cabin.cards c) (ks c) (h.stays c);
        only = λ c in_. ⊎_elim (λ was. inl (kept-none (session_of cabin.cards c) (ks c) (h.stays c) was)) (λ valid. inr valid) (h.only c in_);
        each = λ c in_ valid.
            as-same u (f c) r (spells_of c notes) (spells_of c now) (sits_in cabin.slots.seats c) (sits_in after.slots.seats c) (kept_stays (session_of cabin.cards c) (ks c) (h.stays c)) (session_of after.cards c) (session_of after.cards c) (card_of e c)
            (spell whose known c in_) (seats whose known c in_).sits refl
            (one-kept r c (spells_of c notes) (sits_in cabin.slots.seats c) (h.stays c) (ks c) (session_of cabin.cards c) (session_of after.cards c) (card_of d c) (card_of e c) (some whose known c in_) (keep c valid) (h.each c in_ valid));
        since = h.since;
        lone = h.lone;
        entered = λ c in_. subst (AllByRecursion (t.entered c)) (sym (kept-judged (session_of cabin.cards c) (ks c) (h.stays c) (h.since c))) (h.entered c in_);
        judged = told-as whose t (judged_told log) (judged_told later) (λ (c : Card). judged_in (h.stays c) (h.since c)) (λ (c : Card). judged_in (kept_stays (session_of cabin.cards c) (ks c) (h.stays c)) (h.since c)) g.judged
            (λ c in_. kept-judged (session_of cabin.cards c) (ks c) (h.stays c) (h.since c)) h.judged;
        verdicts = λ c in_ valid. kept-verdicts r (f c).image (session_of cabin.cards c) (ks c) (h.stays c) (h.since c) (h.waits c in_ valid) (h.verdicts c in_ valid);
        waits = λ c in_ valid some. h.waits c in_ valid (had-session c (ks c) (session_of cabin.cards c) (session_of after.cards c) (card_of d c) (card_of e c) (keep c valid) some);
        hold = λ c in_. kept-hold whose t c r (f c).image (session_of cabin.cards c) (ks c) (h.stays c) (kepts whose known c) (h.hold c in_);
        placed = λ c in_ valid.
            placed-same notes now cabin after c (ap last_slot (spell whose known c in_)) (seats whose known c in_).there
            (had-session c (ks c) (session_of cabin.cards c) (session_of after.cards c) (card_of d c) (card_of e c) (keep c valid)) (h.placed c in_ valid);
        befores = told-befores whose (acceptances_told log) (acceptances_told later) r h.stays (λ (c : Card). kept_stays (session_of cabin.cards c) (ks c) (h.stays c)) d.unit e.unit g.finds
            (λ c. kept-comings r (f c).image (session_of cabin.cards c) (ks c) (h.stays c)) go h.befores;
      }

-- ---- another second

lines-grow : (own now : Find → Type 0) → ((g : Find) → own g → now g) → (fs : List Find) → AllByRecursion own fs → AllByRecursion now fs
lines-grow own now goes [] all = tt
lines-grow own now goes (f ∷ fs) all = (goes f all.0, lines-grow own now goes fs all.1)

-- so those of the other's do
told-grow : (whose : Whose) (t now : Truths) (lines : List Find) (own : Card → List Find) → ((c : Card) (g : Find) → t.entered c g → now.entered c g) → AreTold whose t lines own → AreTold whose now lines own
told-grow Both t now lines own goes h = h
told-grow (Only c) t now lines own goes h = (h.0, h.1, lines-grow (t.entered (other c)) (now.entered (other c)) (goes (other c)) h.0 h.2)

owed-grow : (whose : Whose) (t now : Truths) (c : Card) → Grow t now → (g : Find) (mark : ℕ) (es : List Entry) → owed_by whose t c g mark es → owed_by whose now c g mark es
owed-grow Both t now c more g mark es h = more.owed c g mark es h
owed-grow (Only k) t now c more g mark es h = more.got c es h

-- WHAT IS TRUE STAYS TRUE, where stays are known
pub all-true : (o : Origin) (t now : Truths) (u : ℕ) (log : RunLog) (notes : List Note) (r : Registration) (cabin : Cabin) (d : Devices) → ((whose : Whose) → AreKnown whose o log d → Grow t now) → AllStay o t u log notes r cabin d → AllStay o now u log notes r cabin d
all-true o t now u log notes r cabin d grows all whose known =
    let h = all whose known in
    let more = grows whose known in
    record {
      says = h.says;
      stays = h.stays;
      only = h.only;
      each = h.each;
      hold = λ c in_. (
        all-true-grow t now more (h.stays c) (h.hold c in_).0,
        owes-grow (owed_by whose t c) (owed_by whose now c) (owed-grow whose t now c more) r (own_sizes (found_of o.found c).image).activity (h.stays c) (start_shown (found_of o.found c).image) (h.hold c in_).1,
      );
      placed = h.placed;
      befores = h.befores;
      since = h.since;
      lone = h.lone;
      judged = told-grow whose t now (judged_told log) (λ (c : Card). judged_in (h.stays c) (h.since c)) (λ c g was. more.entered c g was) h.judged;
      entered = λ c in_. lines-grow (t.entered c) (now.entered c) (λ g was. more.entered c g was) (judged_in (h.stays c) (h.since c)) (h.entered c in_);
      verdicts = h.verdicts;
      waits = h.waits;
    }

-- ANOTHER SECOND goes on, where each card with a session sits in a slot
pub all-second : (o : Origin) (t : Truths) (u now : ℕ) (log : RunLog) (notes : List Note) (r : Registration) (cabin : Cabin) (d : Devices) → ((c : Card) → is_some (session_of cabin.cards c) ≡ true → sits_in cabin.slots.seats c ≡ true) →
    AllStay o t u log notes r cabin d → AllStay o t now log notes r cabin d
all-second o t u now log notes r cabin d sits all whose known =
    let h = all whose known in
    record {
      says = h.says;
      stays = h.stays;
      only = h.only;
      each = λ c in_ valid.
          let e = h.each c in_ valid in
          record { shows = e.shows; goes = e.goes; spell = sitting (session_of cabin.cards c) (sits_in cabin.slots.seats c) (sits c) (spells (h.stays c)) ∙ e.spell };
      hold = h.hold;
      placed = h.placed;
      befores = h.befores;
      since = h.since;
      lone = h.lone;
      judged = h.judged;
      entered = h.entered;
      verdicts = h.verdicts;
      waits = h.waits;
    }
  where
    sitting : (s : Option Accepted) (b : Bool) → (is_some s ≡ true → b ≡ true) → (ss : List Spell) → as_noted now s b ss ≡ as_noted u s b ss
    sitting None b there ss = refl
    sitting (Some a) true there ss = refl
    sitting (Some a) false there ss = absurd (let wrong : false ≡ true = there refl in cc)

-- ---- a session that is gone has its line

fate-stays : (fate : Fate) (present : Option Card) (second : ℕ) (cabin : Cabin) (c : Card) → has_fallen fate ≡ false → is_some (session_of cabin.cards c) ≡ true → is_some (session_of (cabin_by fate present second cabin).cards c) ≡ true
fate-stays Still None second cabin c up some = some
fate-stays (Has a n) None second cabin c up some = some
fate-stays Fell None second cabin c up some = some
fate-stays Still (Some k) second cabin c up some = some
fate-stays (Has a n) (Some A) second cabin A up some = refl
fate-stays (Has a n) (Some A) second cabin B up some = some
fate-stays (Has a n) (Some B) second cabin A up some = some
fate-stays (Has a n) (Some B) second cabin B up some = refl
fate-stays Fell (Some k) second cabin c up some = absurd (cc)

fate-lines : (fate : Fate) (slot : Slot) (at : Moment) → has_fallen fate ≡ false → breaks_by fate slot at ≡ []
fate-lines Still slot at up = refl
fate-lines (Has a n) slot at up = refl
fate-lines Fell slot at up = absurd (cc)

fate-tears : (fate : Fate) (slot : Slot) (at : Moment) → AreTears at (breaks_by fate slot at)
fate-tears Still slot at = tt
fate-tears (Has a n) slot at = tt
fate-tears Fell slot at = ((slot, refl), tt)

stands-up : (fate : Fate) (slot : Slot) (at : Moment) → filter failed_tear (breaks_by fate slot at) ≡ [] → has_fallen fate ≡ false
stands-up Still slot at none = refl
stands-up (Has a n) slot at none = refl
stands-up Fell slot at none = absurd (cc)

module _ (k : Keeper) (at : Moment) where
  -- behind some rounds there are lines more, each of a card that was torn out
  pub lines-by : (xs : List Done) (t : KeepingState) → (more : List Break) × ((told_by k at xs t).breaks.items ≡ t.breaks.items ++ more) × AreTears at more
  lines-by [] t = ([], sym (append-nil t.breaks.items), tt)
  lines-by (x ∷ xs) t =
      let rest = lines-by xs (told_after (present_at k.cabin x.minute.minute) x.minute.minute at x.round t) in
      let first : List Break = breaks_by x.round.driver Driver at in
      let second : List Break = breaks_by x.round.codriver CoDriver at in (
        first ++ (second ++ rest.0),
        rest.1 ∙ append_assoc (t.breaks.items ++ first) second rest.0 ∙ append_assoc t.breaks.items first (second ++ rest.0),
        tears-both at first (second ++ rest.0) (fate-tears x.round.driver Driver at) (tears-both at second rest.0 (fate-tears x.round.codriver CoDriver at) rest.2),
      )

  pub sessions-stay : (xs : List Done) (t : KeepingState) (c : Card) → filter failed_tear (told_by k at xs t).breaks.items ≡ [] → is_some (session_of t.keeper.cabin.cards c) ≡ true → is_some (session_of (told_by k at xs t).keeper.cabin.cards c) ≡ true
  sessions-stay [] t c none some = some
  sessions-stay (x ∷ xs) t c none some =
      let present : Present = present_at k.cabin x.minute.minute in
      let next : KeepingState = told_after present x.minute.minute at x.round t in
      let lines = lines-by xs next in
      let here : filter failed_tear next.breaks.items ≡ [] = front-none failed_tear next.breaks.items lines.0 (ap (λ (bs : List Break). filter failed_tear bs) (sym lines.1) ∙ none) in
      let driver : List Break = breaks_by x.round.driver Driver at in
      let codriver : List Break = breaks_by x.round.codriver CoDriver at in
      let two = stands-up x.round.codriver CoDriver at (back-none failed_tear (t.breaks.items ++ driver) codriver here) in
      let one = stands-up x.round.driver Driver at (back-none failed_tear t.breaks.items driver (front-none failed_tear (t.breaks.items ++ driver) codriver here)) in
      sessions-stay xs next c none
      (fate-stays x.round.codriver present.codriver at.second (cabin_by x.round.driver present.driver at.second t.keeper.cabin) c two (fate-stays x.round.driver present.driver at.second t.keeper.cabin c one some))

  -- where none of them tells of a failed call no line is told
  lines-none : (xs : List Done) (t : KeepingState) → filter failed_tear (told_by k at xs t).breaks.items ≡ [] → (told_by k at xs t).breaks.items ≡ t.breaks.items
  lines-none [] t none = refl
  lines-none (x ∷ xs) t none =
      let present : Present = present_at k.cabin x.minute.minute in
      let next : KeepingState = told_after present x.minute.minute at x.round t in
      let lines = lines-by xs next in
      let here : filter failed_tear next.breaks.items ≡ [] = front-none failed_tear next.breaks.items lines.0 (ap (λ (bs : List Break). filter failed_tear bs) (sym lines.1) ∙ none) in
      let driver : List Break = breaks_by x.round.driver Driver at in
      let codriver : List Break = breaks_by x.round.codriver CoDriver at in
      let two = stands-up x.round.codriver CoDriver at (back-none failed_tear (t.breaks.items ++ driver) codriver here) in
      let one = stands-up x.round.driver Driver at (back-none failed_tear t.breaks.items driver (front-none failed_tear (t.breaks.items ++ driver) codriver here)) in
      let none_driver : driver ≡ [] = fate-lines x.round.driver Driver at one in
      let none_codriver : codriver ≡ [] = fate-lines x.round.codriver CoDriver at two in
      let same : next.breaks.items ≡ t.breaks.items =
      ap (λ (bs : List Break). (t.breaks.items ++ driver) ++ bs) none_codriver ∙ append-nil (t.breaks.items ++ driver) ∙ ap (λ (bs : List Break). t.breaks.items ++ bs) none_driver ∙ append-nil t.breaks.items in
      lines-none xs next none ∙ same

-- what the unit remembers of its vehicle stays
memory-by : (k : Keeper) (at : Moment) (xs : List Done) (t : KeepingState) → (told_by k at xs t).keeper.memory.registration ≡ t.keeper.memory.registration
memory-by k at [] t = refl
memory-by k at (x ∷ xs) t = memory-by k at xs (told_after (present_at k.cabin x.minute.minute) x.minute.minute at x.round t)

-- wherever a keeping came to its end
last-memory : (k : Keeper) (m : Minute) (at : Moment) (t u : KeepingState) (round : Option Round) → IsLast k m at t u round → u.keeper.memory.registration ≡ t.keeper.memory.registration
last-memory k m at t u None is = ap (λ (x : KeepingState). x.keeper.memory.registration) is
last-memory k m at t u (Some round) is = ap (λ (x : KeepingState). x.keeper.memory.registration) is.1

pub reach-memory : (decided : List Minute) (at : Moment) (failed : Bool) (t u : KeepingState) (reach : Reach) → IsReach decided at failed t u reach → u.keeper.memory.registration ≡ t.keeper.memory.registration
reach-memory decided at false t u (Whole xs) is = ap (λ (x : KeepingState). x.keeper.memory.registration) is.2 ∙ memory-by t.keeper at xs t
reach-memory decided at false t u (Short xs m round) is = absurd is
reach-memory decided at true t u (Whole xs) is = absurd is
reach-memory decided at true t u (Short xs m round) is = last-memory t.keeper m at (told_by t.keeper at xs t) u round is.2 ∙ memory-by t.keeper at xs t

pub turn-memory : (decided : List Minute) (at : Moment) (failed : Bool) (t u : KeepingState) (reach : Reach) → IsTurnReach decided at failed t u reach → u.keeper.memory.registration ≡ t.keeper.memory.registration
turn-memory decided at failed t u (Whole xs) is = reach-memory decided at false t u (Whole xs) is
turn-memory decided at failed t u (Short xs m round) is = reach-memory decided at failed t u (Short xs m round) is

-- no mark is lost
marks-one : (x : Done) (k : Keeper) (at : Moment) (t : KeepingState) (mark : Mark) → Contains t.marks.items mark → Contains (told_after (present_at k.cabin x.minute.minute) x.minute.minute at x.round t).marks.items mark
marks-one x k at t mark among =
    let present : Present = present_at k.cabin x.minute.minute in
    let unit : List Mark = unit_mark x.minute.minute x.round.clock ∷ [] in
    let driver : List Mark = marks_by x.round.driver present.driver x.minute.minute in
    Contains-append_left ((t.marks.items ++ unit) ++ driver) (marks_by x.round.codriver present.codriver x.minute.minute) mark
    (Contains-append_left (t.marks.items ++ unit) driver mark (Contains-append_left t.marks.items unit mark among))

marks-stay : (k : Keeper) (at : Moment) (xs : List Done) (t : KeepingState) (mark : Mark) → Contains t.marks.items mark → Contains (told_by k at xs t).marks.items mark
marks-stay k at [] t mark among = among
marks-stay k at (x ∷ xs) t mark among = marks-stay k at xs (told_after (present_at k.cabin x.minute.minute) x.minute.minute at x.round t) mark (marks-one x k at t mark among)

-- what a keeping that did not fail leaves: lines more, each of a card that was torn out; and each session where none of them tells of a failed call
pub record Reached (at : Moment) (t u : KeepingState) : Type 0 where
  pub more : List Break
  pub lines : u.breaks.items ≡ t.breaks.items ++ more
  pub tears : AreTears at more
  pub stay : (c : Card) → filter failed_tear u.breaks.items ≡ [] → is_some (session_of t.keeper.cabin.cards c) ≡ true → is_some (session_of u.keeper.cabin.cards c) ≡ true
  pub registered : u.keeper.memory.registration ≡ t.keeper.memory.registration
  pub marks : (mark : Mark) → Contains t.marks.items mark → Contains u.marks.items mark
  pub same : filter failed_tear u.breaks.items ≡ [] → u.breaks.items ≡ t.breaks.items

pub reach-told : (decided : List Minute) (at : Moment) (t u : KeepingState) (reach : Reach) → IsReach decided at false t u reach → Reached at t u
reach-told decided at t u (Short xs m round) is = absurd is
reach-told decided at t u (Whole xs) is =
    subst (Reached at t) (sym is.2)
    (let lines = lines-by t.keeper at xs t in record {
      more = lines.0;
      lines = lines.1;
      tears = lines.2;
      stay = λ c none some. sessions-stay t.keeper at xs t c none some;
      registered = memory-by t.keeper at xs t;
      marks = λ mark among. marks-stay t.keeper at xs t mark among;
      same = λ none. lines-none t.keeper at xs t none;
    })

-- ---- what was kept is found

map-cuts : (k : ℕ) (bs : List Break) → filter failed_cut (map (with_kept k) bs) ≡ [] → filter failed_cut bs ≡ []
map-cuts k [] none = refl
map-cuts k (Cut s old true begun ∷ bs) none = absurd (cc)
map-cuts k (Cut s old false begun ∷ bs) none = map-cuts k bs none
map-cuts k (Tear s slot failed begun late ∷ bs) none = map-cuts k bs none

map-tears : (k : ℕ) (bs : List Break) → filter failed_tear (map (with_kept k) bs) ≡ [] → filter failed_tear bs ≡ []
map-tears k [] none = refl
map-tears k (Cut s old failed begun ∷ bs) none = map-tears k bs none
map-tears k (Tear s slot true begun late ∷ bs) none = absurd (cc)
map-tears k (Tear s slot false begun late ∷ bs) none = map-tears k bs none

found-cuts : (i k : ℕ) (bs : List Break) → filter failed_cut (found_from i k bs) ≡ [] → filter failed_cut bs ≡ []
found-cuts zero k bs none = map-cuts k bs none
found-cuts (suc i) k [] none = refl
found-cuts (suc i) k (Cut s old true begun ∷ bs) none = absurd (cc)
found-cuts (suc i) k (Cut s old false begun ∷ bs) none = found-cuts i k bs none
found-cuts (suc i) k (Tear s slot failed begun late ∷ bs) none = found-cuts i k bs none

found-tears : (i k : ℕ) (bs : List Break) → filter failed_tear (found_from i k bs) ≡ [] → filter failed_tear bs ≡ []
found-tears zero k bs none = map-tears k bs none
found-tears (suc i) k [] none = refl
found-tears (suc i) k (Cut s old failed begun ∷ bs) none = found-tears i k bs none
found-tears (suc i) k (Tear s slot true begun late ∷ bs) none = absurd (cc)
found-tears (suc i) k (Tear s slot false begun late ∷ bs) none = found-tears i k bs none

pub found-none : (i k : ℕ) (log : RunLog) → NothingFailed (record log { breaks = found_from i k log.breaks }) → NothingFailed log
found-none i k log none = (found-cuts i k log.breaks none.0, found-tears i k log.breaks none.1)

pub known-found : (whose : Whose) (o : Origin) (i k : ℕ) (log : RunLog) (d : Devices) → AreKnown whose o (record log { breaks = found_from i k log.breaks }) d → AreKnown whose o log d
known-found Both o i k log d known = found-none i k log known
known-found (Only c) o i k log d known = record { uncut = found-cuts i k log.breaks known.uncut; low = known.low; stands = known.stands }

pub found-on : (o : Origin) (i k : ℕ) (log : RunLog) (d : Devices) → GoesOn o log (record log { breaks = found_from i k log.breaks }) d d
found-on o i k log d whose known = record { known = known-found whose o i k log d known; finds = refl; judged = refl }
