-- A minute's round, by what became of its entries.
use Rattle.std.proofs.Common.{◌≡◌, ◌∙◌, inl, inr, ℕ, ◌+◌, ◌/◌, ◌≤◌, Bool, true, false, List, [], ◌∷◌, length, Option, None, Some, refl, ap, sym, subst, arith}
use Rattle.activity_codec.specs.declared.values.Slot.TheVariants.{Driver, CoDriver}
use Rattle.trace_model.specs.declared.Card.{Card}
use Rattle.tach_media.specs.Medium.{State}
use Rattle.card_session.specs.declared.session.Kept.{Kept}
use Rattle.unit_minutes.specs.declared.kept.KeptMinute.{KeptMinute}
use Rattle.unit_minutes.specs.declared.notes.Notes.{Notes}
use Rattle.log_model.specs.declared.lines.Break.{Break}
use Rattle.log_model.specs.declared.lines.Mark.{Mark}
use Rattle.card_slots.specs.declared.seats.Present.{Present}
use Rattle.run_crew.specs.declared.cabin.Cabin.{Cabin}
use Rattle.run_outcome.specs.Lines.{Listed}
use Rattle.run_minutes.specs.declared.keeper.Keeper.{Keeper}
use Rattle.run_minutes.specs.declared.keeper.Moment.{Moment}
use Rattle.run_minutes.specs.Keeping.{Fate, Still, IsBrought, IsFateOf, cabin_by, marks_by, breaks_by, session_at, held_in, most_tears, with_lines, kept_in}
use Rattle.run_minutes.specs.Minutes.{Round, KeepingState, IsRound, told_after, unit_mark}
use Rattle.run_minutes.proofs.Fates.{no-lines}
use Rattle.run_minutes.proofs.Counts.{past-by, minute-by, tears-by, few-marks, lines-length}

-- ---- one entry

module _ (present : Option Card) (kept : Kept) (at : Moment) (failed : Bool) (k v : Keeper) (ms ns : Listed Mark) (bs cs : Listed Break) (fate : Fate) (U V X Y : State)
    (b : IsBrought present kept at failed k v ms ns bs cs fate U V X Y) where
  pub brought-minute : k.cabin.slots.minute ≤ at.second / 60 → v.cabin.slots.minute ≤ at.second / 60
  brought-minute low = subst (λ (q : Keeper). q.cabin.slots.minute ≤ at.second / 60) (sym b.keeper) (minute-by fate present at.second k.cabin low)

  pub brought-past : v.cabin.slots.past ≡ k.cabin.slots.past
  brought-past = ap (λ (q : Keeper). q.cabin.slots.past) b.keeper ∙ past-by fate present at.second k.cabin

  pub brought-tears : length cs.items + most_tears v.cabin.cards ≤ length bs.items + most_tears k.cabin.cards
  brought-tears =
      let t = tears-by fate present at.second kept kept.entry.slot at k.cabin b.is in
      let e : length cs.items ≡ length bs.items + length (breaks_by fate kept.entry.slot at) = ap (λ (l : Listed Break). length l.items) b.told ∙ lines-length (breaks_by fate kept.entry.slot at) bs in
      let m : most_tears v.cabin.cards ≡ most_tears (cabin_by fate present at.second k.cabin).cards = ap (λ (q : Keeper). most_tears q.cabin.cards) b.keeper in
      omega (arith, t, e, m)

  pub brought-more : length bs.items ≤ length cs.items
  brought-more =
      let e : length cs.items ≡ length bs.items + length (breaks_by fate kept.entry.slot at) = ap (λ (l : Listed Break). length l.items) b.told ∙ lines-length (breaks_by fate kept.entry.slot at) bs in
      omega (arith, e)

  pub brought-tear-room : cs.room ≡ bs.room
  brought-tear-room = ap (λ (l : Listed Break). l.room) b.told

  pub brought-marks : length ns.items ≤ length ms.items + 1
  brought-marks =
      let f = few-marks fate present kept.entry.minute in
      let e : length ns.items ≡ length ms.items + length (marks_by fate present kept.entry.minute) = ap (λ (l : Listed Mark). length l.items) b.marked ∙ lines-length (marks_by fate present kept.entry.minute) ms in
      omega (arith, f, e)

  pub brought-mark-room : ns.room ≡ ms.room
  brought-mark-room = ap (λ (l : Listed Mark). l.room) b.marked

-- ---- a round

abbrev pub told-of : Keeper → Listed Mark → Listed Break → KeepingState
told-of k ms bs = record { keeper = k; marks = ms; breaks = bs }

pub told-same : (k v : Keeper) (ms ns : Listed Mark) (bs cs : Listed Break) → k ≡ v → ms ≡ ns → bs ≡ cs → told-of k ms bs ≡ told-of v ns cs
told-same k v ms ns bs cs one two three = ap (λ (q : Keeper). told-of q ms bs) one ∙ ap (λ (q : Listed Mark). told-of v q bs) two ∙ ap (λ (q : Listed Break). told-of v ns q) three

-- by what became of its entries, of sessions that held their entries by hand before
abbrev pub round-of : Present → (second : ℕ) → Cabin → Notes → (clock : ℕ) → (fate more : Fate) → Round
round-of present second cabin j clock fate more = record {
  journal = j;
  clock = clock;
  driver = fate;
  codriver = more;
  driver_held = held_in (session_at cabin.cards present.driver);
  codriver_held = held_in (session_at (cabin_by fate present.driver second cabin).cards present.codriver);
}

module _ (present : Present) (m : KeptMinute) (at : Moment) (k : Keeper) (marks : Listed Mark) (breaks : Listed Break) (j : Notes) (clock : ℕ) (kept : j.kept ≡ m.minute) (odometer : j.odometer ≡ m.odometer.0)
    (k1 : Keeper) (is : k1 ≡ record k { journal = j }) (m1 : Listed Mark) (marked : m1 ≡ with_lines (unit_mark m.minute clock ∷ []) marks) where
  -- the driver's card was torn out, and the unit failed as it noted that
  module _ (v : Keeper) (m2 : Listed Mark) (b2 : Listed Break) (fate : Fate) (U V X Y : State) (b : IsBrought present.driver (kept_in m Driver) at true k1 v m1 m2 breaks b2 fate U V X Y) where
    pub cut-is : IsRound present m at true k (round-of present at.second k.cabin j clock fate Still)
    cut-is = record {
      kept = kept;
      odometer = odometer;
      driver = subst (λ (q : Keeper). IsFateOf (session_at q.cabin.cards present.driver) (kept_in m Driver) fate) is b.is;
      codriver = inl (record { unit_failed = refl; driver_fell = b.only refl; not_asked = refl });
      only = λ bad. inl (b.only refl);
      driver_holds = refl;
      codriver_holds = refl;
    }

    still-cabin : (o : Option Card) (second : ℕ) (cabin : Cabin) → cabin_by Still o second cabin ≡ cabin
    still-cabin None second cabin = refl
    still-cabin (Some c) second cabin = refl

    still-marks : (o : Option Card) (minute : ℕ) → marks_by Still o minute ≡ []
    still-marks None minute = refl
    still-marks (Some c) minute = refl

    pub cut-told : told-of v m2 b2 ≡ told_after present m.minute at (round-of present at.second k.cabin j clock fate Still) (told-of k marks breaks)
    cut-told = told-same v _ m2 _ b2 _
        (b.keeper ∙ ap (λ (q : Keeper). record q { cabin = cabin_by fate present.driver at.second q.cabin }) is
        ∙ ap (λ (q : Cabin). record k { journal = j; cabin = q }) (sym (still-cabin present.codriver at.second (cabin_by fate present.driver at.second k.cabin))))
        (b.marked ∙ ap (with_lines (marks_by fate present.driver m.minute)) marked
        ∙ no-lines (with_lines (marks_by fate present.driver m.minute) (with_lines (unit_mark m.minute clock ∷ []) marks))
        ∙ ap (λ (ls : List Mark). with_lines ls (with_lines (marks_by fate present.driver m.minute) (with_lines (unit_mark m.minute clock ∷ []) marks))) (sym (still-marks present.codriver m.minute)))
        (b.told ∙ no-lines (with_lines (breaks_by fate Driver at) breaks))

  -- both were brought
  module _ (k2 v : Keeper) (m2 m3 : Listed Mark) (b1 b2 : Listed Break) (failed : Bool) (fate more : Fate) (U V X Y U2 V2 X2 Y2 : State)
      (b : IsBrought present.driver (kept_in m Driver) at false k1 k2 m1 m2 breaks b1 fate U V X Y)
      (d : IsBrought present.codriver (kept_in m CoDriver) at failed k2 v m2 m3 b1 b2 more U2 V2 X2 Y2) where
    between : k2 ≡ record k { journal = j; cabin = cabin_by fate present.driver at.second k.cabin }
    between = b.keeper ∙ ap (λ (q : Keeper). record q { cabin = cabin_by fate present.driver at.second q.cabin }) is

    pub whole-driver : IsFateOf (session_at k.cabin.cards present.driver) (kept_in m Driver) fate
    whole-driver = subst (λ (q : Keeper). IsFateOf (session_at q.cabin.cards present.driver) (kept_in m Driver) fate) is b.is

    pub whole-codriver : IsFateOf (session_at (cabin_by fate present.driver at.second k.cabin).cards present.codriver) (kept_in m CoDriver) more
    whole-codriver = subst (λ (q : Keeper). IsFateOf (session_at q.cabin.cards present.codriver) (kept_in m CoDriver) more) between d.is

    pub whole-is : IsRound present m at failed k (round-of present at.second k.cabin j clock fate more)
    whole-is = record {
      kept = kept;
      odometer = odometer;
      driver = whole-driver;
      codriver = inr whole-codriver;
      only = λ bad. inr (d.only bad);
      driver_holds = refl;
      codriver_holds = refl;
    }

    pub whole-told : told-of v m3 b2 ≡ told_after present m.minute at (round-of present at.second k.cabin j clock fate more) (told-of k marks breaks)
    whole-told = told-same v _ m3 _ b2 _
        (d.keeper ∙ ap (λ (q : Keeper). record q { cabin = cabin_by more present.codriver at.second q.cabin }) between)
        (d.marked ∙ ap (with_lines (marks_by more present.codriver m.minute)) (b.marked ∙ ap (with_lines (marks_by fate present.driver m.minute)) marked))
        (d.told ∙ ap (with_lines (breaks_by more CoDriver at)) b.told)
