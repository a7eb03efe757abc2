-- What a keeping, or a note, tells in a second: what its lines leave of the other moments, and which sessions are gone with them.
use Rattle.std.proofs.Common.{◌≡◌, ◌∙◌, ◌⊎◌, inl, inr, ⊎_elim, ℕ, ◌≤◌, Bool, true, false, cond, ◌||◌, ◌&&◌, Option, Some, None, is_some, nat_eq, List, [], ◌∷◌, ◌++◌, All, ◌-◌, option_map, refl, ap, sym, subst, arith, append_assoc, append-nil}
use Rattle.std.specs.List.{AllByRecursion, list_any}
use Rattle.std.proofs.lemmas.List.Elements.{All-nil, All-cons, All-head, All-tail}
use Rattle.std.proofs.lemmas.List.Folds.{list_any-append}
use Rattle.std.proofs.lemmas.Bool.Decides.{nat_tests}
use Rattle.activity_codec.specs.declared.values.Slot.{Slot}
use Rattle.activity_codec.specs.declared.values.Slot.TheVariants.{Driver, CoDriver}
use Rattle.activity_codec.specs.Activity.{same_slot}
use Rattle.trace_model.specs.declared.Card.{Card}
use Rattle.trace_model.specs.declared.Card.TheVariants.{A, B}
use Rattle.unit_model.specs.minute_model.declared.Minute.{Minute}
use Rattle.log_model.specs.declared.lines.Break.{Break}
use Rattle.log_model.specs.Log.{RunLog, Phase, In, Keeping, same_phase, cut_in, phase_of, tears_here, is_torn_in, found_in}
use Rattle.run_crew.specs.card_slots.declared.seats.Present.{Present}
use Rattle.run_crew.specs.card_slots.declared.seats.Ended.{Ended}
use Rattle.run_crew.specs.card_slots.Calls.{present_in}
use Rattle.run_events.specs.run_course.Moments.{and_break}
use Rattle.run_events.proofs.run_course.Lookups.{break-more, torn-by}
use Rattle.run_crew.specs.declared.cards.Accepted.{Accepted}
use Rattle.run_crew.specs.declared.cards.Cards.{Cards}
use Rattle.run_crew.specs.declared.cabin.Cabin.{Cabin}
use Rattle.run_crew.specs.Cards.{session_of}
use Rattle.run_minutes.specs.declared.keeper.Moment.{Moment}
use Rattle.run_minutes.specs.Keeping.{Fate, Still, Has, Fell, cabin_by, breaks_by, tear_of, GoesOnFrom, SessionsGoOn}
use Rattle.run_minutes.specs.Minutes.{KeepingState, Round, AreKept, none, more, AreKeptUpTo, IsRound, minute_of, or_nobody, present_at, cabin_after, told_after}
use Rattle.run_minutes.proofs.Seats.{sessions-none, sessions-then}
use Rattle.run_minutes.proofs.Counts.{past-by}
use Rattle.run_acts.specs.Ringing.{seating_of}
use Rattle.run_acts.proofs.RoundBroken.{round-on}

-- ---- lines of a moment

-- each of a card that was torn out of a slot
abbrev pub AreTears : Moment → List Break → Type 0
AreTears at lines = AllByRecursion (λ (b : Break). (slot : Slot) × (b ≡ tear_of slot at)) lines

pub tears-both : (at : Moment) (xs ys : List Break) → AreTears at xs → AreTears at ys → AreTears at (xs ++ ys)
tears-both at [] ys hx hy = hy
tears-both at (x ∷ xs) ys hx hy = (hx.0, tears-both at xs ys hx.1 hy)

-- TWO LOGS THAT DIFFER in lines of one moment of a second alone
pub record TellsBeside (log later : RunLog) (u : ℕ) (at : Phase) : Type 0 where
  pub cut : cut_in later u ≡ cut_in log u
  pub torn : (p : Phase) (slot : Slot) → same_phase at p ≡ false → is_torn_in later u p slot ≡ is_torn_in log u p slot
  pub found : (p : Phase) (slot : Slot) → found_in later u p slot ≡ found_in log u p slot

beside-same : (log : RunLog) (u : ℕ) (at : Phase) → TellsBeside log log u at
beside-same log u at = record { cut = refl; torn = λ p slot no. refl; found = λ p slot. refl }

beside-then : (l m n : RunLog) (u : ℕ) (at : Phase) → TellsBeside l m u at → TellsBeside m n u at → TellsBeside l n u at
beside-then l m n u at first next = record {
  cut = next.cut ∙ first.cut;
  torn = λ p slot no. next.torn p slot no ∙ first.torn p slot no;
  found = λ p slot. next.found p slot ∙ first.found p slot;
}

or-none : (q : Option ℕ) → cond (is_some q) q None ≡ q
or-none None = refl
or-none (Some n) = refl

or-false : (b : Bool) → (b || false) ≡ b
or-false true = refl
or-false false = refl

or-true : (b : Bool) → (b || true) ≡ true
or-true true = refl
or-true false = refl

no-and : (a c : Bool) → (a && false && c) ≡ false
no-and true c = refl
no-and false c = refl

all-three : (a b c : Bool) → a ≡ true → b ≡ true → c ≡ true → (a && b && c) ≡ true
all-three a b c x y z = rw x (rw y (rw z refl))

same-number : (u : ℕ) → nat_eq u u ≡ true
same-number u = grind (arith, nat_tests)

pub phase-same : (p : Phase) → same_phase p p ≡ true
phase-same (In n) = same-number n
phase-same Keeping = refl

slot-same : (slot : Slot) → same_slot slot slot ≡ true
slot-same Driver = refl
slot-same CoDriver = refl

abbrev pub phase_at : Moment → Phase
phase_at at = phase_of at.begun at.late

elsewhere : (at : Moment) (p : Phase) (slot other : Slot) → same_phase (phase_at at) p ≡ false → tears_here at.second p other (tear_of slot at) ≡ false
elsewhere at p slot other away = ap (λ (b : Bool). nat_eq at.second at.second && b && same_slot slot other) away ∙ no-and (nat_eq at.second at.second) (same_slot slot other)

here : (at : Moment) (slot : Slot) → tears_here at.second (phase_at at) slot (tear_of slot at) ≡ true
here at slot = all-three (nat_eq at.second at.second) (same_phase (phase_at at) (phase_at at)) (same_slot slot slot) (same-number at.second) (phase-same (phase_at at)) (slot-same slot)

one-tear : (log : RunLog) (at : Moment) (slot : Slot) → TellsBeside log (and_break log (tear_of slot at)) at.second (phase_at at)
one-tear log at slot =
    let seen = break-more log (tear_of slot at) at.second in
    record {
      cut = seen.cut ∙ or-none (cut_in log at.second);
      torn = λ p other no. seen.torn p other ∙ ap (λ (b : Bool). is_torn_in log at.second p other || b) (elsewhere at p slot other no) ∙ or-false (is_torn_in log at.second p other);
      found = λ p other. seen.found p other;
    }

-- one after another
abbrev and_lines : RunLog → List Break → RunLog
and_lines log [] = log
and_lines log (b ∷ lines) = and_lines (and_break log b) lines

lines-are : (lines : List Break) (log : RunLog) → and_lines log lines ≡ record log { breaks = log.breaks ++ lines }
lines-are [] log = ap (λ (bs : List Break). record log { breaks = bs }) (sym (append-nil log.breaks))
lines-are (b ∷ lines) log = lines-are lines (and_break log b) ∙ ap (λ (bs : List Break). record log { breaks = bs }) (append_assoc log.breaks (b ∷ []) lines)

each-beside : (at : Moment) (lines : List Break) (log : RunLog) → AreTears at lines → TellsBeside log (and_lines log lines) at.second (phase_at at)
each-beside at [] log h = beside-same log at.second (phase_at at)
each-beside at (b ∷ lines) log h =
    beside-then log (and_break log b) (and_lines (and_break log b) lines) at.second (phase_at at)
    (subst (λ (x : Break). TellsBeside log (and_break log x) at.second (phase_at at)) (sym h.0.1) (one-tear log at h.0.0)) (each-beside at lines (and_break log b) h.1)

pub tears-beside : (at : Moment) (lines : List Break) (log later : RunLog) → later ≡ record log { breaks = log.breaks ++ lines } → AreTears at lines → TellsBeside log later at.second (phase_at at)
tears-beside at lines log later is h = subst (λ (l : RunLog). TellsBeside log l at.second (phase_at at)) (lines-are lines log ∙ sym is) (each-beside at lines log h)

-- a line tells that the card of a slot was torn out
abbrev pub TellsTear : Slot → Moment → List Break → Type 0
TellsTear slot at lines = (front : List Break) × (rest : List Break) × (lines ≡ front ++ tear_of slot at ∷ rest)

pub tear-told : (slot : Slot) (at : Moment) (lines : List Break) (log later : RunLog) → later ≡ record log { breaks = log.breaks ++ lines } → TellsTear slot at lines → is_torn_in later at.second (phase_at at) slot ≡ true
tear-told slot at lines log later is t =
    let f : Break → Bool = tears_here at.second (phase_at at) slot in
    let told : list_any f lines ≡ true =
    ap (list_any f) t.2 ∙ list_any-append f t.0 (tear_of slot at ∷ t.1) ∙ ap (λ (b : Bool). list_any f t.0 || (b || list_any f t.1)) (here at slot) ∙ or-true (list_any f t.0) in
    torn-by later at.second (phase_at at) slot
    ∙ ap (λ (l : RunLog). list_any f l.breaks) is
    ∙ list_any-append f log.breaks lines
    ∙ ap (λ (b : Bool). list_any f log.breaks || b) told
    ∙ or-true (list_any f log.breaks)

-- ---- the lines of minutes that are kept

fate-lines : (fate : Fate) (slot : Slot) (at : Moment) → AreTears at (breaks_by fate slot at)
fate-lines Still slot at = tt
fate-lines (Has accepted clock) slot at = tt
fate-lines Fell slot at = ((slot, refl), tt)

-- these lines more are told, each of a card that was torn out; and the sessions go on
pub record TellsTears (at : Moment) (t u : KeepingState) : Type 0 where
  pub lines : List Break
  pub are : u.breaks.items ≡ t.breaks.items ++ lines
  pub tears : AreTears at lines
  pub sessions : SessionsGoOn t.keeper.cabin.cards u.keeper.cabin.cards
  pub odometer : u.keeper.odometer ≡ t.keeper.odometer

round-tells : (at : Moment) (m : Minute) (round : Round) (failed : Bool) (t : KeepingState) → IsRound (present_at t.keeper.cabin m.minute) (minute_of m t.keeper) at failed t.keeper round →
    TellsTears at t (told_after (present_at t.keeper.cabin m.minute) m.minute at round t)
round-tells at m round failed t is = record {
  lines = breaks_by round.driver Driver at ++ breaks_by round.codriver CoDriver at;
  are = append_assoc t.breaks.items (breaks_by round.driver Driver at) (breaks_by round.codriver CoDriver at);
  tears = tears-both at (breaks_by round.driver Driver at) (breaks_by round.codriver CoDriver at) (fate-lines round.driver Driver at) (fate-lines round.codriver CoDriver at);
  sessions = round-on t.keeper at m round failed t is;
  odometer = refl;
}

tells-none : (at : Moment) (t : KeepingState) → TellsTears at t t
tells-none at t = record { lines = []; are = sym (append-nil t.breaks.items); tears = tt; sessions = sessions-none t.keeper.cabin.cards; odometer = refl }

tells-then : (at : Moment) (t u v : KeepingState) → TellsTears at t u → TellsTears at u v → TellsTears at t v
tells-then at t u v first next = record {
  lines = first.lines ++ next.lines;
  are = next.are ∙ ap (λ (bs : List Break). bs ++ next.lines) first.are ∙ append_assoc t.breaks.items first.lines next.lines;
  tears = tears-both at first.lines next.lines first.tears next.tears;
  sessions = sessions-then t.keeper.cabin.cards u.keeper.cabin.cards v.keeper.cabin.cards first.sessions next.sessions;
  odometer = next.odometer ∙ first.odometer;
}

pub kept-tells : (at : Moment) (ms : List Minute) (t u : KeepingState) → AreKept at ms t u → TellsTears at t u
kept-tells at ms t u (none v) = tells-none at v
kept-tells at ms t u (more m front round v mid kept is) =
    tells-then at v mid (told_after (present_at mid.keeper.cabin m.minute) m.minute at round mid) (kept-tells at front v mid kept) (round-tells at m round false mid is)

pub up-to-tells : (at : Moment) (ms : List Minute) (failed : Bool) (t u : KeepingState) → AreKeptUpTo ms at failed t u → TellsTears at t u
up-to-tells at ms false t u kept = kept-tells at ms t u kept
up-to-tells at ms true t u kept =
    let first = kept-tells at kept.front t kept.between kept.kept in
    ⊎_elim (λ same. subst (λ (v : KeepingState). TellsTears at t v) (sym same) first)
    (λ last. subst (λ (v : KeepingState). TellsTears at t v) (sym last.2)
    (tells-then at t kept.between (told_after (present_at kept.between.keeper.cabin kept.here.minute) kept.here.minute at last.0 kept.between) first (round-tells at kept.here last.0 true kept.between last.1)))
    kept.last

-- ---- a session that is gone was torn out

not-none : {T : Type 0} (o : Option Accepted) → is_some o ≡ true → o ≡ None → T
not-none {T} None some gone = absurd (cc)
not-none {T} (Some a) some gone = absurd (cc)

-- who loses the session in a fate was present, and fell
fate-gone : (c : Card) (fate : Fate) (present : Option Card) (second : ℕ) (cabin : Cabin) → is_some (session_of cabin.cards c) ≡ true → session_of (cabin_by fate present second cabin).cards c ≡ None → (fate ≡ Fell) × (present ≡ Some c)
fate-gone c Still None second cabin some gone = not-none (session_of cabin.cards c) some gone
fate-gone c (Has a clock) None second cabin some gone = not-none (session_of cabin.cards c) some gone
fate-gone c Fell None second cabin some gone = not-none (session_of cabin.cards c) some gone
fate-gone c Still (Some card) second cabin some gone = not-none (session_of cabin.cards c) some gone
fate-gone A (Has a clock) (Some A) second cabin some gone = not-none (Some a) refl gone
fate-gone A (Has a clock) (Some B) second cabin some gone = not-none (session_of cabin.cards A) some gone
fate-gone B (Has a clock) (Some A) second cabin some gone = not-none (session_of cabin.cards B) some gone
fate-gone B (Has a clock) (Some B) second cabin some gone = not-none (Some a) refl gone
fate-gone A Fell (Some A) second cabin some gone = (refl, refl)
fate-gone A Fell (Some B) second cabin some gone = not-none (session_of cabin.cards A) some gone
fate-gone B Fell (Some A) second cabin some gone = not-none (session_of cabin.cards B) some gone
fate-gone B Fell (Some B) second cabin some gone = (refl, refl)

-- in the minutes from one on a card was present in this slot, if at all
pub record SatIn (c : Card) (slot : Slot) (from : ℕ) (past : List Ended) : Type 0 where
  pub driver : (m : ℕ) (present : Present) → from ≤ m → present_in past m ≡ Some present → present.driver ≡ Some c → slot ≡ Driver
  pub codriver : (m : ℕ) (present : Present) → from ≤ m → present_in past m ≡ Some present → present.codriver ≡ Some c → slot ≡ CoDriver

nobody-is : {T : Type 0} (c : Card) → None ≡ Some c → T
nobody-is {T} c is = absurd (cc)

-- the minute is known, in which a card was present
in-driver : (q : Option Present) (c : Card) → (or_nobody q).driver ≡ Some c → (p : Present) × (q ≡ Some p) × (p.driver ≡ Some c)
in-driver None c is = nobody-is c is
in-driver (Some p) c is = (p, refl, is)

in-codriver : (q : Option Present) (c : Card) → (or_nobody q).codriver ≡ Some c → (p : Present) × (q ≡ Some p) × (p.codriver ≡ Some c)
in-codriver None c is = nobody-is c is
in-codriver (Some p) c is = (p, refl, is)

driver-tear : (fate : Fate) (slot : Slot) (at : Moment) (others : List Break) → fate ≡ Fell → slot ≡ Driver → TellsTear slot at (breaks_by fate Driver at ++ others)
driver-tear fate slot at others fell is = ([], others, ap (λ (f : Fate). breaks_by f Driver at ++ others) fell ∙ ap (λ (s : Slot). tear_of s at ∷ others) (sym is))

codriver-tear : (fate : Fate) (slot : Slot) (at : Moment) (others : List Break) → fate ≡ Fell → slot ≡ CoDriver → TellsTear slot at (others ++ breaks_by fate CoDriver at)
codriver-tear fate slot at others fell is = (others, [], ap (λ (f : Fate). others ++ breaks_by f CoDriver at) fell ∙ ap (λ (s : Slot). others ++ tear_of s at ∷ []) (sym is))

tear-front : (slot : Slot) (at : Moment) (xs ys : List Break) → TellsTear slot at xs → TellsTear slot at (xs ++ ys)
tear-front slot at xs ys t = (t.0, t.1 ++ ys, ap (λ (l : List Break). l ++ ys) t.2 ∙ append_assoc t.0 (tear_of slot at ∷ t.1) ys)

pub tear-behind : (slot : Slot) (at : Moment) (xs ys : List Break) → TellsTear slot at ys → TellsTear slot at (xs ++ ys)
tear-behind slot at xs ys t = (xs ++ t.0, t.1, ap (λ (l : List Break). xs ++ l) t.2 ∙ sym (append_assoc xs t.0 (tear_of slot at ∷ t.1)))

-- these lines more are told, and among them its tear
abbrev pub TellsItsTear : Slot → Moment → (t u : KeepingState) → Type 0
TellsItsTear slot at t u = (lines : List Break) × (u.breaks.items ≡ t.breaks.items ++ lines) × TellsTear slot at lines

module _ (c : Card) (slot : Slot) (from : ℕ) (at : Moment) where
  -- in one round
  round-gone : (m : Minute) (round : Round) (t : KeepingState) → SatIn c slot from t.keeper.cabin.slots.past → from ≤ m.minute → is_some (session_of t.keeper.cabin.cards c) ≡ true →
      session_of (cabin_after (present_at t.keeper.cabin m.minute) at.second round t.keeper.cabin).cards c ≡ None → TellsTear slot at (breaks_by round.driver Driver at ++ breaks_by round.codriver CoDriver at)
  round-gone m round t sat low some gone = by (session_of (cabin_by round.driver (present_at t.keeper.cabin m.minute).driver at.second t.keeper.cabin).cards c) refl
    where
      by : (q : Option Accepted) → session_of (cabin_by round.driver (present_at t.keeper.cabin m.minute).driver at.second t.keeper.cabin).cards c ≡ q → TellsTear slot at (breaks_by round.driver Driver at ++ breaks_by round.codriver CoDriver at)
      by None is =
          let fell = fate-gone c round.driver (present_at t.keeper.cabin m.minute).driver at.second t.keeper.cabin some is in
          let there = in-driver (present_in t.keeper.cabin.slots.past m.minute) c fell.1 in
          driver-tear round.driver slot at (breaks_by round.codriver CoDriver at) fell.0 (sat.driver m.minute there.0 low there.1 there.2)
      by (Some a) is =
          let fell = fate-gone c round.codriver (present_at t.keeper.cabin m.minute).codriver at.second (cabin_by round.driver (present_at t.keeper.cabin m.minute).driver at.second t.keeper.cabin) (ap (λ (o : Option Accepted). is_some o) is) gone in
          let there = in-codriver (present_in t.keeper.cabin.slots.past m.minute) c fell.1 in
          codriver-tear round.codriver slot at (breaks_by round.driver Driver at) fell.0 (sat.codriver m.minute there.0 low there.1 there.2)

  round-past : (m : Minute) (round : Round) (t : KeepingState) → (cabin_after (present_at t.keeper.cabin m.minute) at.second round t.keeper.cabin).slots.past ≡ t.keeper.cabin.slots.past
  round-past m round t =
      past-by round.codriver (present_at t.keeper.cabin m.minute).codriver at.second (cabin_by round.driver (present_at t.keeper.cabin m.minute).driver at.second t.keeper.cabin)
      ∙ past-by round.driver (present_at t.keeper.cabin m.minute).driver at.second t.keeper.cabin

  kept-past : (ms : List Minute) (t u : KeepingState) → AreKept at ms t u → u.keeper.cabin.slots.past ≡ t.keeper.cabin.slots.past
  kept-past ms t u (none v) = refl
  kept-past ms t u (more m front round v mid kept is) = round-past m round mid ∙ kept-past front v mid kept

  all-front : (ms : List Minute) (m : Minute) → All (λ (x : Minute). from ≤ x.minute) (ms ++ m ∷ []) → All (λ (x : Minute). from ≤ x.minute) ms × (from ≤ m.minute)
  all-front [] m all = (All-nil (λ (x : Minute). from ≤ x.minute), All-head (λ (x : Minute). from ≤ x.minute) m [] all)
  all-front (x ∷ ms) m all =
      let rest = all-front ms m (All-tail (λ (x : Minute). from ≤ x.minute) x (ms ++ m ∷ []) all) in
      (All-cons (λ (x : Minute). from ≤ x.minute) x ms (All-head (λ (x : Minute). from ≤ x.minute) x (ms ++ m ∷ []) all) rest.0, rest.1)

  -- A CARD THAT HAD A SESSION and has none behind the minutes was torn out of its slot, and that is told.
  pub gone-torn : (ms : List Minute) (t u : KeepingState) → AreKept at ms t u → SatIn c slot from t.keeper.cabin.slots.past → All (λ (x : Minute). from ≤ x.minute) ms → is_some (session_of t.keeper.cabin.cards c) ≡ true →
      session_of u.keeper.cabin.cards c ≡ None → TellsItsTear slot at t u
  gone-torn ms t u (none v) sat low some gone = not-none (session_of v.keeper.cabin.cards c) some gone
  gone-torn ms t u (more m front round v mid kept is) sat low some gone = by (session_of mid.keeper.cabin.cards c) refl (λ none. gone-torn front v mid kept sat (all-front front m low).0 some none)
    where
      next : TellsTears at mid (told_after (present_at mid.keeper.cabin m.minute) m.minute at round mid)
      next = round-tells at m round false mid is

      by : (q : Option Accepted) → session_of mid.keeper.cabin.cards c ≡ q → (session_of mid.keeper.cabin.cards c ≡ None → TellsItsTear slot at v mid) →
          TellsItsTear slot at v (told_after (present_at mid.keeper.cabin m.minute) m.minute at round mid)
      by None is_ before =
          let first = before is_ in
          (first.0 ++ next.lines, next.are ∙ ap (λ (bs : List Break). bs ++ next.lines) first.1 ∙ append_assoc v.breaks.items first.0 next.lines, tear-front slot at first.0 next.lines first.2)
      by (Some a) is_ before =
          let first = kept-tells at front v mid kept in
          let lines : List Break = breaks_by round.driver Driver at ++ breaks_by round.codriver CoDriver at in
          let told = round-gone m round mid (subst (SatIn c slot from) (sym (kept-past front v mid kept)) sat) (all-front front m low).1 (ap (λ (o : Option Accepted). is_some o) is_) gone in (
            first.lines ++ lines,
            append_assoc mid.breaks.items (breaks_by round.driver Driver at) (breaks_by round.codriver CoDriver at) ∙ ap (λ (bs : List Break). bs ++ lines) first.are ∙ append_assoc v.breaks.items first.lines lines,
            tear-behind slot at first.lines lines told,
          )

-- ---- where insertions stand

-- a session that goes on stands where it stood
seat-goes : (noted : ℕ) (old new : Option Accepted) → GoesOnFrom old new → (option_map (seating_of noted) new ≡ option_map (seating_of noted) old) ⊎ (option_map (seating_of noted) new ≡ None)
seat-goes noted old None h = inr refl
seat-goes noted None (Some new) h = absurd h
seat-goes noted (Some old) (Some new) h = inl ((λ i. Some (record { index = h.0 i; behind = noted - h.1 i })))

pub seats-go : (noted : ℕ) (x y : Cards) → SessionsGoOn x y → (c : Card) → (option_map (seating_of noted) (session_of y c) ≡ option_map (seating_of noted) (session_of x c)) ⊎ (option_map (seating_of noted) (session_of y c) ≡ None)
seats-go noted x y h A = seat-goes noted x.a.accepted y.a.accepted h.a
seats-go noted x y h B = seat-goes noted x.b.accepted y.b.accepted h.b
