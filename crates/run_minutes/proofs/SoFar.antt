-- Decided minutes are kept, one after another: how far it came.
use Rattle.std.proofs.Common.{[], ◌≡◌, ◌∙◌, ℕ, ◌+◌, ◌*◌, ◌<◌, ◌≤◌, Bool, true, false, Option, Some, IfSome, List, All, is_some, length, take, drop, refl, ap, sym, subst, arith}
use Rattle.std.proofs.lemmas.List.{take_all, drop_all}
use Rattle.trace_model.specs.declared.Card.{Card}
use Rattle.unit_model.specs.minute_model.declared.Minute.{Minute}
use Rattle.unit_minutes.specs.declared.kept.KeptMinute.{KeptMinute}
use Rattle.card_slots.specs.declared.seats.Ended.{Ended}
use Rattle.card_slots.specs.declared.seats.Present.{Present}
use Rattle.card_slots.specs.Calls.{present_in}
use Rattle.run_crew.specs.Cabin.{CabinIsSound, MayBeKept}
use Rattle.run_minutes.specs.declared.keeper.Moment.{Moment}
use Rattle.run_minutes.specs.Keeping.{HaveRows}
use Rattle.run_minutes.specs.Minutes.{AreDue, AreKept, kept_after, kept_of, none, or_nobody}
use Rattle.run_minutes.proofs.Sessions.{stands-later}
use Rattle.run_minutes.proofs.Decided.{this, due-here, due-most, kept-here, all-here, kept-on, cut-on, present-here, rows-on}
use Rattle.run_minutes.proofs.DecidedBooked.{Booked, none-booked, booked-on, cut-booked, all-booked, time-before}
use Rattle.run_minutes.specs.Stand.{Stand, IsReadyFor, StandsAfter, KeepingGoes, told, cards_of}
use Rattle.run_minutes.specs.Kept.{MayKeep, Keeps, MayKeepAll, KeepsAll}
use Rattle.run_minutes.proofs.Goes.{keeping_none, keeping_then, stands_none, stands_then}

-- SO FAR: of these minutes the first so many are kept
pub record SoFar (ds : List Minute) (i : ℕ) (at : Moment) (s t : Stand) : Type 0 where
  pub within : i ≤ length ds
  pub behind : StandsAfter at false s t
  pub goes : KeepingGoes s t
  pub due : AreDue t.keeper.journal.kept (drop i ds)
  pub last : kept_after t.keeper.journal.kept (drop i ds) ≡ kept_after s.keeper.journal.kept ds
  pub few : length t.marks.items ≤ length s.marks.items + 3 * i
  pub stands : (from : ℕ) (leaving : Option Card) → All (λ m. from ≤ m.minute) ds → CabinIsSound from leaving s.keeper.cabin → (next : ℕ) → from ≤ next → t.keeper.journal.kept < next → CabinIsSound next leaving t.keeper.cabin
  pub kept : AreKept at (take i ds) (told s) (told t)
  pub booked : Booked ds i at (told s) (told t) s.devices t.devices

module _ (ds : List Minute) (at : Moment) {s : Stand} (may : MayKeepAll ds at s) where
  pub so-none : IsReadyFor s → SoFar ds 0 at s s
  so-none ready = record {
    within = omega arith;
    behind = stands_none s at ready may.minute;
    goes = keeping_none s;
    due = may.due;
    last = refl;
    few = omega arith;
    stands = λ from leaving all h next le low. stands-later from next le leaving s.keeper.cabin h;
    kept = none (told s);
    booked = none-booked ds at (told s) s.devices;
  }

  module _ (i : ℕ) {t : Stand} (so : SoFar ds i at s t) where
    -- all of them
    pub so-all : length ds ≤ i → KeepsAll ds at false s t
    so-all over =
        let end : drop i ds ≡ [] = drop_all i ds over in
        let last : t.keeper.journal.kept ≡ kept_after s.keeper.journal.kept ds = sym (ap (kept_after t.keeper.journal.kept) end) ∙ so.last in
        let all = all-booked ds i over at (told s) (told t) s.devices t.devices so.booked in
        let few = so.few in
        let within = so.within in
        record {
          kept = subst (λ (xs : List Minute). AreKept at xs (told s) (told t)) (take_all i ds over) so.kept;
          reach = all.0;
          is = all.1;
          books = all.2;
          noted = all.3;
          last = λ well. last;
          marks = omega (arith, few, within);
          stands = λ from leaving each h next le late. so.stands from leaving each h next le (omega (arith, last, late));
        }

    module _ (low : i < length ds) where
      abbrev m : Minute
      m = this ds i low

      past-here : present_in t.keeper.cabin.slots.past m.minute ≡ present_in s.keeper.cabin.slots.past m.minute
      past-here = ap (λ (es : List Ended). present_in es m.minute) so.goes.past

      -- before it they stand as they did
      pub stands-next : CabinIsSound m.minute may.leaving t.keeper.cabin
      stands-next = so.stands may.from may.leaving may.late may.stands m.minute (all-here ds i low (λ (d : Minute). may.from ≤ d.minute) may.late) (due-here ds i low t.keeper.journal.kept so.due).0

      pub ended-next : is_some (present_in t.keeper.cabin.slots.past m.minute) ≡ true
      ended-next = ap (λ (o : Option Present). is_some o) past-here ∙ all-here ds i low (λ (d : Minute). is_some (present_in s.keeper.cabin.slots.past d.minute) ≡ true) may.ended

      module _ (p : Present) (present : Some p ≡ present_in t.keeper.cabin.slots.past m.minute) where
        -- it, as it is kept
        abbrev pub next_minute : KeptMinute
        next_minute = kept_of t.keeper.odometer m p

        may-kept : MayBeKept (cards_of t) m.minute p → MayKeep next_minute p at t
        may-kept stands =
            let due = due-here ds i low t.keeper.journal.kept so.due in
            let few = so.few in
            let goes = so.goes in
            let marks = may.marks in
            let breaks = may.breaks in
            record {
              rows = rows-on (cards_of s) (cards_of t) s.devices.unit t.devices.unit p (λ card h. so.behind.rows refl card h)
                  (present-here (HaveRows (cards_of s) s.devices.unit) (present_in s.keeper.cabin.slots.past m.minute) p (present ∙ past-here)
                  (all-here ds i low (λ (d : Minute). IfSome (present_in s.keeper.cabin.slots.past d.minute) (HaveRows (cards_of s) s.devices.unit)) may.rows));
              kept = stands;
              low = due.1;
              later = due.0;
              small = due.2;
              odometer = omega arith;
              early = so.behind.minute;
              second = may.second;
              marks = let room = goes.all.mark_room in omega (arith, few, room, low, marks);
              breaks = let room = goes.all.break_room in let tears = goes.tears in omega (arith, tears, room, breaks);
            }

        pub may-next : {k : KeptMinute} → k ≡ next_minute → MayBeKept (cards_of t) m.minute p → MayKeep k p at t
        may-next is stands = subst (λ (k : KeptMinute). MayKeep k p at t) (sym is) (may-kept stands)

        who : p ≡ or_nobody (present_in s.keeper.cabin.slots.past m.minute)
        who = ap or_nobody (present ∙ past-here)

        as-said : next_minute ≡ kept_of s.keeper.odometer m p
        as-said = ap (λ (n : ℕ). kept_of n m p) so.goes.odometer

        -- it was to be kept
        module _ {u : Stand} {failed : Bool} (keeps : Keeps next_minute p at failed t u) where
          cabin-then : (from : ℕ) (leaving : Option Card) → All (λ d. from ≤ d.minute) ds → CabinIsSound from leaving s.keeper.cabin → (next : ℕ) → m.minute < next → CabinIsSound next leaving u.keeper.cabin
          cabin-then from leaving all h next late =
              let here : from ≤ m.minute = all-here ds i low (λ (d : Minute). from ≤ d.minute) all in
              stands-later (m.minute + 1) next (omega (arith, late)) leaving u.keeper.cabin
              (keeps.stands m.minute leaving (omega arith) (so.stands from leaving all h m.minute here (due-here ds i low t.keeper.journal.kept so.due).0))

        -- AND IS
        is-more : {u : Stand} → KeepingGoes t u → StandsAfter at false t u → Keeps next_minute p at false t u → SoFar ds (i + 1) at s u
        is-more {u} goes after keeps =
            let due = due-here ds i low t.keeper.journal.kept so.due in
            let now : u.keeper.journal.kept ≡ m.minute = keeps.last refl in
            let few = so.few in
            let one = keeps.marks in
            record {
              within = omega (arith, low);
              behind = stands_then so.behind after;
              goes = keeping_then so.goes goes;
              due = subst (λ (k : ℕ). AreDue k (drop (i + 1) ds)) (sym now) due.3;
              last = ap (λ (k : ℕ). kept_after k (drop (i + 1) ds)) now ∙ sym (kept-here ds i low t.keeper.journal.kept) ∙ so.last;
              few = omega (arith, one, few);
              stands = λ from leaving all h next le late. cabin-then keeps from leaving all h next (omega (arith, now, late));
              kept = kept-on ds i low at (told s) (told t) (told u) p next_minute _ _ _ _ (ap or_nobody present) refl so.kept keeps.round keeps.is;
              booked = booked-on ds i low at (told s) (told t) (told u) s.devices t.devices u.devices s.keeper.journal.kept may.due due.1 p next_minute who as-said _ _ _ _
                  (time-before t.devices u.devices goes.all.later.unit.clock goes.all.later.card_a.clock goes.all.later.card_b.clock) so.booked keeps.round keeps.is keeps.books keeps.noted;
            }

        -- OR THE UNIT FAILED in it
        is-cut : {u : Stand} → KeepingGoes t u → Keeps next_minute p at true t u → KeepsAll ds at true s u
        is-cut {u} goes keeps =
            let due = due-here ds i low t.keeper.journal.kept so.due in
            let most : m.minute ≤ kept_after m.minute (drop (i + 1) ds) = due-most m.minute (drop (i + 1) ds) due.3 in
            let last : kept_after m.minute (drop (i + 1) ds) ≡ kept_after s.keeper.journal.kept ds = sym (kept-here ds i low t.keeper.journal.kept) ∙ so.last in
            let few = so.few in
            let one = keeps.marks in
            let cut = cut-booked ds i low at (told s) (told t) (told u) s.devices t.devices u.devices s.keeper.journal.kept may.due due.1 p next_minute who as-said _ _ _ _
            (time-before t.devices u.devices goes.all.later.unit.clock goes.all.later.card_a.clock goes.all.later.card_b.clock) so.booked keeps.round keeps.is keeps.books keeps.noted in
            record {
              kept = cut-on ds i low at (told s) (told t) (told u) p next_minute _ _ _ _ (ap or_nobody present) refl so.kept keeps.round keeps.is;
              reach = cut.0;
              is = cut.1;
              books = cut.2;
              noted = cut.3;
              last = λ well. absurd (cc);
              marks = omega (arith, one, few, low);
              stands = λ from leaving all h next le late. cabin-then keeps from leaving all h next (omega (arith, most, last, late));
            }

        pub so-more : {u : Stand} {k : KeptMinute} → k ≡ next_minute → KeepingGoes t u → StandsAfter at false t u → Keeps k p at false t u → SoFar ds (i + 1) at s u
        so-more {u} is goes after keeps = is-more goes after (subst (λ (k : KeptMinute). Keeps k p at false t u) is keeps)

        pub so-cut : {u : Stand} {k : KeptMinute} {failed : Bool} → true ≡ failed → k ≡ next_minute → KeepingGoes t u → Keeps k p at true t u → KeepsAll ds at failed s u
        so-cut {u} bad is goes keeps = subst (λ (f : Bool). KeepsAll ds at f s u) bad (is-cut goes (subst (λ (k : KeptMinute). Keeps k p at true t u) is keeps))
