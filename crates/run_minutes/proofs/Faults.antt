-- The faults of cards that were torn out, one noted after another: what each image tells of them.
use Rattle.std.proofs.Common.{◌≡◌, inl, inr, ⊎_elim, ℕ, Bool, true, false, not, Option, Some, None, IfSome, is_some, List, [], ◌∷◌, ◌++◌, arith, refl, ap, sym, subst, ◌∙◌, append-nil, append_assoc}
use Rattle.tach_media.specs.Medium.{State, IsCoherent, LeavesOnly, HasCause}
use Rattle.unit_model.specs.declared.layout.TheConstants.{OWED}
use Rattle.unit_model.specs.Days.{UnitMinute}
use Rattle.unit_minutes.specs.unit_owed.Rows.{IsPutting}
use Rattle.unit_minutes.specs.Keeping.{IsKeeping}
use Rattle.activity_codec.specs.declared.entries.Entry.{Entry}
use Rattle.card_session.specs.declared.session.Kept.{Kept}
use Rattle.log_model.specs.declared.lines.Break.{Break}
use Rattle.log_model.specs.declared.lines.Mark.{Mark}
use Rattle.trace_model.specs.declared.Card.{Card}
use Rattle.card_slots.specs.declared.seats.Present.{Present}
use Rattle.run_outcome.specs.Lines.{Listed}
use Rattle.unit_notes.specs.event_model.declared.kinds.TheConstants.{CARD_FAULT}
use Rattle.run_events.proofs.unit_events.EventFrames.{besides-keeps}
use Rattle.unit_notes.specs.declared.unit_event.UnitEvent.{UnitEvent}
use Rattle.unit_notes.specs.Entries.{fault_bytes}
use Rattle.unit_notes.specs.Noting.{IsEventNoted}
use Rattle.run_crew.specs.declared.cabin.Cabin.{Cabin}
use Rattle.run_crew.specs.Cabin.{crew_of}
use Rattle.run_events.specs.Shown.{SaysNothing}
use Rattle.run_events.proofs.Frames.{between-nothing, keeps-nothing}
use Rattle.run_events.specs.run_rings.Same.{HasSameRings, LeavesRings}
use Rattle.run_events.proofs.run_rings.Same.{same-rings, then-same, outside-both, table-outside, behind-same}
use Rattle.run_minutes.specs.declared.keeper.Keeper.{Keeper}
use Rattle.run_minutes.specs.declared.keeper.Moment.{Moment}
use Rattle.run_minutes.specs.Keeping.{Fate, Still, Has, Fell, has_fallen, cabin_by, IsBrought, IsNotingFault, IsFaultNoted}
use Rattle.run_minutes.specs.Minutes.{Round, KeepingState, Done, told_after, told_by, present_at}
use Rattle.run_minutes.specs.Faults.{SaysTheSame, faults_by, round_faults, last_faults, faults_of, TellsFaults, TellsFirst, TellsTo, NotesFaults}

-- ---- nothing is said

same-events : (x : List ℕ) → SaysNothing x x
same-events x = record { tables = λ kind there. refl; first_over = refl; over_count = refl }

nothing-then : (x y c : List ℕ) → SaysNothing x y → SaysNothing y c → SaysNothing x c
nothing-then x y c a b = record { tables = λ kind there. b.tables kind there ∙ a.tables kind there; first_over = b.first_over ∙ a.first_over; over_count = b.over_count ∙ a.over_count }

the-same : (x : List ℕ) → SaysTheSame x x
the-same x = (same-events x, refl, same-rings x)

same-then : (x y c : List ℕ) → SaysTheSame x y → SaysTheSame y c → SaysTheSame x c
same-then x y c a b = (nothing-then x y c a.0 b.0, b.1 ∙ a.1, then-same x y c a.2 b.2)

-- ---- faults, one after another

tells-first : (vs : List UnitEvent) (x y c : List ℕ) → SaysTheSame x y → TellsFaults vs y c → TellsFaults vs x c
tells-first [] x y c a h = same-then x y c a h
tells-first (v ∷ vs) x y c a h = (h.0, h.1, same-then x y h.0 a h.2, h.3, h.4)

pub tells-then : (vs ws : List UnitEvent) (x y c : List ℕ) → TellsFaults vs x y → TellsFaults ws y c → TellsFaults (vs ++ ws) x c
tells-then [] ws x y c a h = tells-first ws x y c a h
tells-then (v ∷ vs) ws x y c a h = (a.0, a.1, a.2, a.3, tells-then vs ws a.1 y c a.4 h)

fault-rings : (front x c : List ℕ) → IsEventNoted CARD_FAULT front x c → HasSameRings x c
fault-rings front x c noted = table-outside CARD_FAULT x c noted.outside

pub tells-rings : (vs : List UnitEvent) (x c : List ℕ) → TellsFaults vs x c → HasSameRings x c
tells-rings [] x c h = h.2
tells-rings (v ∷ vs) x c h = then-same x h.0 c h.2.2 (then-same h.0 h.1 c (fault-rings (fault_bytes v) h.0 h.1 h.3) (tells-rings vs h.1 c h.4))

-- ---- the first of them, where the unit failed

first-before : (vs : List UnitEvent) (x y c : List ℕ) → SaysTheSame x y → TellsFirst vs y c → TellsFirst vs x c
first-before [] x y c a h = same-then x y c a h
first-before (v ∷ vs) x y c a (inl h) = inl (same-then x y c a h)
first-before (v ∷ vs) x y c a (inr (z, b, h)) = inr (z, same-then x y z a b, h)

first-then : (vs ws : List UnitEvent) (x y c : List ℕ) → TellsFaults vs x y → TellsFirst ws y c → TellsFirst (vs ++ ws) x c
first-then [] ws x y c a h = first-before ws x y c a h
first-then (v ∷ vs) ws x y c a h = inr (a.0, a.2, inr (a.1, a.3, first-then vs ws a.1 y c a.4 h))

first-rings : (vs : List UnitEvent) (x c : List ℕ) → TellsFirst vs x c → HasSameRings x c
first-rings [] x c h = h.2
first-rings (v ∷ vs) x c (inl h) = h.2
first-rings (v ∷ vs) x c (inr (y, a, inl moment)) = then-same x y c a.2 (table-outside CARD_FAULT y c moment.outside)
first-rings (v ∷ vs) x c (inr (y, a, inr (z, done, h))) = then-same x y c a.2 (then-same y z c (fault-rings (fault_bytes v) y z done) (first-rings vs z c h))

-- ONE CALL AFTER ANOTHER
pub notes-then : (vs ws : List UnitEvent) (failed : Bool) (U V W : State) → NotesFaults false vs U V → NotesFaults failed ws V W → NotesFaults failed (vs ++ ws) U W
notes-then vs ws false U V W a b = λ c at.
    let y = b c at in
    let x = a y.0 y.1 in
    (x.0, x.1, tells-then vs ws x.0 y.0 c x.2 y.2)
notes-then vs ws true U V W a b = λ c at.
    let y = b c at in
    let x = a y.0 y.1 in
    (x.0, x.1, first-then vs ws x.0 y.0 c x.2 y.2)

-- A CALL of which no event is told
says-to : (failed : Bool) (x c : List ℕ) → SaysTheSame x c → TellsTo failed [] x c
says-to false x c h = h
says-to true x c h = h

pub notes-nothing : (failed : Bool) (U V : State) (R : List ℕ → List ℕ → Type 0) → IsCoherent U → IsCoherent V → LeavesOnly U V R → ((x c : List ℕ) → R x c → SaysNothing x c × HasSameRings x c) → NotesFaults failed [] U V
notes-nothing failed U V R whole behind run none = λ c at. ⊎_elim
    (λ old. (c, old, says-to failed c c (the-same c)))
    (λ new. (new.0, whole.is_left new.0 new.1, says-to failed new.0 c ((none new.0 c new.2).0, (let late = behind.left_sized c at in let early = whole.sized new.0 new.1 in let a = run.size in let b = run.behind in omega (arith, late, early, a, b)), (none new.0 c new.2).1)))
    (run.now c at)

pub notes-none : (failed : Bool) (U : State) → NotesFaults failed [] U U
notes-none failed U = λ c at. (c, at, says-to failed c c (the-same c))

pub putting-nothing : (number : List ℕ) (e : Entry) (x c : List ℕ) → IsPutting number e x c → SaysNothing x c × HasSameRings x c
putting-nothing number e x c h = (between-nothing OWED.place OWED.size x c h.outside (omega arith) (omega arith), outside-both OWED.place OWED.size x c (inl (omega arith)) h.outside)

pub keeping-nothing : (k : UnitMinute) (odometer : ℕ) (x c : List ℕ) → IsKeeping k odometer x c → SaysNothing x c × HasSameRings x c
keeping-nothing k odometer x c h =
    let keeps = besides-keeps x c h.outside in
    (keeps-nothing x c keeps, behind-same x c keeps.rest)

-- WHAT BECAME OF AN ENTRY
now-in : (U V : State) (R : List ℕ → List ℕ → Type 0) → IsCoherent V → LeavesOnly U V R → V.works ≡ true → (c : List ℕ) → V.may_leave c → (x : List ℕ) × (U.image ≡ Some x) × (V.image ≡ Some c)
now-in U V R whole run works c at = by U.image refl
  where
    there : V.image ≡ Some c
    there = whole.only c works at

    by : (o : Option (List ℕ)) → U.image ≡ o → (x : List ℕ) × (U.image ≡ Some x) × (V.image ≡ Some c)
    by None none = let clash : true ≡ false = ap (λ (q : Option (List ℕ)). is_some q) (sym there) ∙ run.tells ∙ ap (λ (q : Option (List ℕ)). is_some q) none in absurd (cc)
    by (Some x) is = (x, is, there)

pub fate-notes : (fate : Fate) (failed : Bool) (second : ℕ) (cabin : Cabin) (U V : State) → IsCoherent U → IsCoherent V → LeavesOnly U V (IsNotingFault fate second (crew_of cabin)) → V.works ≡ not failed →
    (failed ≡ true → has_fallen fate ≡ true) → (failed ≡ false → IfSome U.image (λ x. IfSome V.image (IsFaultNoted fate second (crew_of cabin) x))) → NotesFaults failed (faults_by fate second cabin) U V
fate-notes Still failed second cabin U V u v run works only noted = notes-nothing failed U V (IsNotingFault Still second (crew_of cabin)) u v run (λ x c r. absurd r)
fate-notes (Has a n) failed second cabin U V u v run works only noted = notes-nothing failed U V (IsNotingFault (Has a n) second (crew_of cabin)) u v run (λ x c r. absurd r)
fate-notes Fell false second cabin U V u v run works only noted = λ c at.
    let n = now-in U V (IsNotingFault Fell second (crew_of cabin)) v run works c at in
    let one : IfSome V.image (IsFaultNoted Fell second (crew_of cabin) n.0) = subst (λ (q : Option (List ℕ)). IfSome q (λ x. IfSome V.image (IsFaultNoted Fell second (crew_of cabin) x))) n.1 (noted refl) in
    let is : IsFaultNoted Fell second (crew_of cabin) n.0 c = subst (λ (q : Option (List ℕ)). IfSome q (IsFaultNoted Fell second (crew_of cabin) n.0)) n.2 one in
    (n.0, u.is_left n.0 n.1, (n.0, c, the-same n.0, is, the-same c))
fate-notes Fell true second cabin U V u v run works only noted = λ c at. ⊎_elim
    (λ old. (c, old, inl (the-same c)))
    (λ new. (new.0, u.is_left new.0 new.1, inr (new.0, the-same new.0, inl new.2)))
    (run.now c at)

-- AN ENTRY WAS BROUGHT, where these were the slots and the sessions before
pub brought-notes : (present : Option Card) (kept : Kept) (at : Moment) (failed : Bool) (k v : Keeper) (ms ns : Listed Mark) (bs cs : Listed Break) (fate : Fate) (U V X Y : State) →
    IsBrought present kept at failed k v ms ns bs cs fate U V X Y → IsCoherent U → IsCoherent V → LeavesOnly U V (IsNotingFault fate at.second (crew_of v.cabin)) → HasCause U V failed →
    (cabin : Cabin) → k.cabin ≡ cabin → NotesFaults failed (faults_by fate at.second (cabin_by fate present at.second cabin)) U V
brought-notes present kept at failed k v ms ns bs cs fate U V X Y b whole whole_after run cause cabin is =
    let now : v.cabin ≡ cabin_by fate present at.second cabin = ap (λ (q : Keeper). q.cabin) b.keeper ∙ ap (λ (q : Cabin). cabin_by fate present at.second q) is in
    subst (λ (q : Cabin). NotesFaults failed (faults_by fate at.second q) U V) now (fate-notes fate failed at.second v.cabin U V whole whole_after run cause.works b.only b.noted)

-- ---- a round

-- the unit failed as the driver's card was torn out
pub round-cut : (p : Present) (at : Moment) (round : Round) (cabin : Cabin) (U V W : State) → round.codriver ≡ Still → NotesFaults false [] U V →
    NotesFaults true (faults_by round.driver at.second (cabin_by round.driver p.driver at.second cabin)) V W → NotesFaults true (round_faults p at round cabin) U W
round-cut p at round cabin U V W none a b =
    let first : List UnitEvent = faults_by round.driver at.second (cabin_by round.driver p.driver at.second cabin) in
    let over : first ++ faults_by Still at.second (cabin_by Still p.codriver at.second (cabin_by round.driver p.driver at.second cabin)) ≡ first = append-nil first in
    subst (λ (f : Fate). NotesFaults true (first ++ faults_by f at.second (cabin_by f p.codriver at.second (cabin_by round.driver p.driver at.second cabin))) U W) (sym none)
    (subst (λ (vs : List UnitEvent). NotesFaults true vs U W) (sym over) (notes-then [] first true U V W a b))

-- or both were asked
pub round-whole : (p : Present) (at : Moment) (failed : Bool) (round : Round) (cabin : Cabin) (U V W Z : State) → NotesFaults false [] U V →
    NotesFaults false (faults_by round.driver at.second (cabin_by round.driver p.driver at.second cabin)) V W →
    NotesFaults failed (faults_by round.codriver at.second (cabin_by round.codriver p.codriver at.second (cabin_by round.driver p.driver at.second cabin))) W Z → NotesFaults failed (round_faults p at round cabin) U Z
round-whole p at failed round cabin U V W Z a b d =
    let first : List UnitEvent = faults_by round.driver at.second (cabin_by round.driver p.driver at.second cabin) in
    let second : List UnitEvent = faults_by round.codriver at.second (cabin_by round.codriver p.codriver at.second (cabin_by round.driver p.driver at.second cabin)) in
    notes-then [] (first ++ second) failed U V Z a (notes-then first second failed V W Z b d)

-- ---- some rounds, and one more
pub faults-snoc : (k : Keeper) (at : Moment) (xs : List Done) (x : Done) (t : KeepingState) →
    faults_of k at (xs ++ x ∷ []) t ≡ faults_of k at xs t ++ round_faults (present_at k.cabin x.minute.minute) at x.round (told_by k at xs t).keeper.cabin
faults-snoc k at [] x t = append-nil (round_faults (present_at k.cabin x.minute.minute) at x.round t.keeper.cabin)
faults-snoc k at (y ∷ xs) x t =
    let here : List UnitEvent = round_faults (present_at k.cabin y.minute.minute) at y.round t.keeper.cabin in
    let next : KeepingState = told_after (present_at k.cabin y.minute.minute) y.minute.minute at y.round t in
    ap (λ (vs : List UnitEvent). here ++ vs) (faults-snoc k at xs x next) ∙ sym (append_assoc here (faults_of k at xs next) (round_faults (present_at k.cabin x.minute.minute) at x.round (told_by k at xs next).keeper.cabin))

pub more-noted : (k : Keeper) (at : Moment) (xs : List Done) (x : Done) (t u : KeepingState) (p : Present) (U V W : State) → p ≡ present_at k.cabin x.minute.minute → u ≡ told_by k at xs t →
    NotesFaults false (faults_of k at xs t) U V → NotesFaults false (round_faults p at x.round u.keeper.cabin) V W → NotesFaults false (faults_of k at (xs ++ x ∷ []) t) U W
more-noted k at xs x t u p U V W cards told a b =
    let here : Present = present_at k.cabin x.minute.minute in
    let next : NotesFaults false (round_faults here at x.round (told_by k at xs t).keeper.cabin) V W =
    subst (λ (q : KeepingState). NotesFaults false (round_faults here at x.round q.keeper.cabin) V W) told (subst (λ (q : Present). NotesFaults false (round_faults q at x.round u.keeper.cabin) V W) cards b) in
    subst (λ (vs : List UnitEvent). NotesFaults false vs U W) (sym (faults-snoc k at xs x t)) (notes-then (faults_of k at xs t) (round_faults here at x.round (told_by k at xs t).keeper.cabin) false U V W a next)

pub last-noted : (k : Keeper) (at : Moment) (xs : List Done) (minute : ℕ) (round : Option Round) (t u : KeepingState) (p : Present) (U V W : State) → p ≡ present_at k.cabin minute → u ≡ told_by k at xs t →
    NotesFaults false (faults_of k at xs t) U V → NotesFaults true (last_faults p at round u.keeper.cabin) V W → NotesFaults true (faults_of k at xs t ++ last_faults (present_at k.cabin minute) at round (told_by k at xs t).keeper.cabin) U W
last-noted k at xs minute round t u p U V W cards told a b =
    let here : Present = present_at k.cabin minute in
    notes-then (faults_of k at xs t) (last_faults here at round (told_by k at xs t).keeper.cabin) true U V W a
    (subst (λ (q : KeepingState). NotesFaults true (last_faults here at round q.keeper.cabin) V W) told (subst (λ (q : Present). NotesFaults true (last_faults q at round u.keeper.cabin) V W) cards b))

-- ---- the rings

-- A KEEPING leaves both rings as they are
pub faults-leave : (failed : Bool) (vs : List UnitEvent) (U V : State) → NotesFaults failed vs U V → LeavesRings U V
faults-leave false vs U V h = λ c at. let x = h c at in (x.0, x.1, tells-rings vs x.0 c x.2)
faults-leave true vs U V h = λ c at. let x = h c at in (x.0, x.1, first-rings vs x.0 c x.2)
