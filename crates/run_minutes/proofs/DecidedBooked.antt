-- Decided minutes are kept, one after another, and booked.
use Rattle.std.proofs.Common.{◌≡◌, ◌⊎◌, ◌∙◌, inl, inr, ⊎_elim, ℕ, suc, zero, ◌+◌, ◌<◌, ◌≤◌, Bool, true, false, List, [], ◌∷◌, ◌++◌, length, take, drop, All, Contains, Option, Some, None, refl, ap, sym, subst, arith}
use Rattle.std.specs.Prelude.{map, get_or}
use Rattle.std.proofs.lemmas.List.{map-append, take_all}
use Rattle.std.proofs.lemmas.List.Elements.{All-nil, All-cons, All-head, All-tail, All-take, All-weaker, Contains-append_left, Contains-append_right, Contains-push, Contains-push_cases}
use Rattle.trace_model.specs.declared.Card.{Card}
use Rattle.tach_media.specs.Medium.{State}
use Rattle.unit_model.specs.minute_model.declared.Minute.{Minute}
use Rattle.log_model.specs.declared.lines.Mark.{Mark}
use Rattle.hand_model.specs.card_image.Own.{IsOwnValid}
use Rattle.unit_minutes.specs.declared.kept.KeptMinute.{KeptMinute}
use Rattle.run_devices.specs.history_model.Minutes.{HistoryMinute, on_card}
use Rattle.run_devices.specs.history_model.Presence.{CardStart}
use Rattle.run_devices.specs.device_rule.Rules.{Standing, Out, In, Torn, IsPresent}
use Rattle.run_devices.specs.safety_model.Safe.{Devices, card_of}
use Rattle.run_devices.specs.run_unit_course.Legs.{Travel, travelled, all_travelled}
use Rattle.device_calls.specs.unit_rule.Odometer.{HasTravelled, odometer_by, odometer_after}
use Rattle.card_slots.specs.declared.seats.Present.{Present}
use Rattle.run_crew.specs.declared.cabin.Cabin.{Cabin}
use Rattle.run_devices.specs.run_promise.Found.{Found, found_of}
use Rattle.run_devices.specs.run_promise.Between.{RunLedger}
use Rattle.run_devices.specs.Told.{AreFoundCards}
use Rattle.run_minutes.specs.declared.keeper.Keeper.{Keeper}
use Rattle.run_minutes.specs.declared.keeper.Moment.{Moment}
use Rattle.run_minutes.specs.Keeping.{Fate, Still, Has, Fell, TellsPresent, cabin_by}
use Rattle.run_minutes.specs.Minutes.{Round, KeepingState, Done, Reach, Whole, Short, IsRound, IsMinute, IsReach, IsLast, AreRounds, AreDue, told_after, told_by, cabin_after, marks_after, kept_of, minute_of, present_at}
use Rattle.run_minutes.specs.Deeds.{AllKeep, kept_on, kepts_on}
use Rattle.run_minutes.proofs.Deeds.{keep-none, keep-then, kepts-snoc}
use Rattle.run_devices.specs.Measured.{Reading}
use Rattle.run_minutes.specs.Books.{AreBooked, AreTimedOn, HaveTime, MayBook, MayCome, BooksMinute, carried_after, fate_of, standing_by}
use Rattle.run_minutes.specs.Faults.{last_faults, faults_of, faults_to, NotesFaults}
use Rattle.run_minutes.specs.Decided.{MayBookAll, BooksAll, carried_by, decided_minute, reading_of, readings_of}
use Rattle.run_minutes.proofs.Brought.{cards-by, found-session}
use Rattle.run_minutes.proofs.CardEvents.{stays-self}
use Rattle.run_minutes.proofs.MinuteBooked.{timed-then, timed-more}
use Rattle.run_minutes.proofs.MinuteBegun.{clash}
use Rattle.run_minutes.proofs.Faults.{notes-none, more-noted, last-noted}
use Rattle.run_minutes.proofs.Decided.{no_minute, this, front, whole, all-here}

-- ---- one more behind some

told-snoc : (k : Keeper) (at : Moment) (xs : List Done) (x : Done) (t : KeepingState) → told_by k at (xs ++ x ∷ []) t ≡ told_after (present_at k.cabin x.minute.minute) x.minute.minute at x.round (told_by k at xs t)
told-snoc k at [] x t = refl
told-snoc k at (y ∷ ys) x t = told-snoc k at ys x (told_after (present_at k.cabin y.minute.minute) y.minute.minute at y.round t)

carried-snoc : (k : Keeper) (xs : List Done) (x : Done) (w : RunLedger) → carried_by k (xs ++ x ∷ []) w ≡ carried_after (present_at k.cabin x.minute.minute) (decided_minute k x.minute) x.round (carried_by k xs w)
carried-snoc k [] x w = refl
carried-snoc k (y ∷ ys) x w = carried-snoc k ys x (carried_after (present_at k.cabin y.minute.minute) (decided_minute k y.minute) y.round w)

travel-snoc : (xs : List Done) (x : Done) (g : Travel) → all_travelled (map (λ (y : Done). y.minute) (xs ++ x ∷ [])) g ≡ travelled x.minute.minute x.minute.travelled (all_travelled (map (λ (y : Done). y.minute) xs) g)
travel-snoc [] x g = refl
travel-snoc (y ∷ ys) x g = travel-snoc ys x (travelled y.minute.minute y.minute.travelled g)

-- the legs before power came last stay
legs-before : (xs : List Done) (g : Travel) → (all_travelled (map (λ (y : Done). y.minute) xs) g).before ≡ g.before
legs-before [] g = refl
legs-before (y ∷ ys) g = legs-before ys (travelled y.minute.minute y.minute.travelled g)

rounds-snoc : (k : Keeper) (at : Moment) (xs : List Done) (x : Done) (t : KeepingState) → AreRounds k at xs t → IsRound (present_at k.cabin x.minute.minute) (minute_of x.minute k) at false (told_by k at xs t).keeper x.round → AreRounds k at (xs ++ x ∷ []) t
rounds-snoc k at [] x t all is = (is, tt)
rounds-snoc k at (y ∷ ys) x t all is = (all.0, rounds-snoc k at ys x (told_after (present_at k.cabin y.minute.minute) y.minute.minute at y.round t) all.1 is)

-- ---- lists

unmap : {X Y : Type 0} (P : Y → Type 0) (f : X → Y) (xs : List X) → All P (map f xs) → All (λ x. P (f x)) xs
unmap {X} P f [] all = All-nil (λ (x : X). P (f x))
unmap {X} P f (x ∷ xs) all = All-cons (λ (x : X). P (f x)) x xs (All-head P (f x) (map f xs) all) (unmap P f xs (All-tail P (f x) (map f xs) all))

-- minutes that rise: each is later than those before
due-later : (kept : ℕ) (ds : List Minute) (i : ℕ) → i < length ds → AreDue kept ds → kept < (get_or ds i no_minute).minute
due-later kept [] i low due = absurd (omega (arith, low))
due-later kept (d ∷ ds) zero low due = due.0
due-later kept (d ∷ ds) (suc i) low due = let here = due.0 in let rest = due-later d.minute ds i (omega (arith, low)) due.3 in omega (arith, here, rest)

due-before : (kept : ℕ) (ds : List Minute) (i : ℕ) → i < length ds → AreDue kept ds → All (λ d. d.minute < (get_or ds i no_minute).minute) (take i ds)
due-before kept [] i low due = absurd (omega (arith, low))
due-before kept (d ∷ ds) zero low due = All-nil (λ (e : Minute). e.minute < (get_or (d ∷ ds) zero no_minute).minute)
due-before kept (d ∷ ds) (suc i) low due =
    All-cons (λ (e : Minute). e.minute < (get_or ds i no_minute).minute) d (take i ds) (due-later d.minute ds i (omega (arith, low)) due.3) (due-before d.minute ds i (omega (arith, low)) due.3)

-- ---- what a minute asks, behind others

-- a card is present in a later minute, not so late
present-step : (start : CardStart) (fate : Fate) (x m : ℕ) (z : Standing) → x < m → m < x + 4 → IsPresent start z m → IsPresent start (standing_by fate x z) m
present-step start Still x m z lt few h = h
present-step start (Has a n) x m Out lt few h = h
present-step start (Has a n) x m (In time newest) lt few h = (h.0, lt, h.2)
present-step start (Has a n) x m (Torn time newest floor) lt few h = h
present-step start Fell x m Out lt few h = h
present-step start Fell x m (In time newest) lt few h = (h.0, lt, h.2, omega (arith, lt), few)
present-step start Fell x m (Torn time newest floor) lt few h = h

stands-after : (k : Keeper) (c : Card) (start : CardStart) (m : ℕ) (xs : List Done) (w : RunLedger) → All (λ x. x.minute.minute < m) xs → All (λ x. m < x.minute.minute + 4) xs → IsPresent start (w.standing c) m → IsPresent start ((carried_by k xs w).standing c) m
stands-after k c start m [] w before few h = h
stands-after k c start m (x ∷ xs) w before few h =
    stands-after k c start m xs (carried_after (present_at k.cabin x.minute.minute) (decided_minute k x.minute) x.round w) (All-tail (λ (y : Done). y.minute.minute < m) x xs before) (All-tail (λ (y : Done). m < y.minute.minute + 4) x xs few)
    (present-step start (fate_of (present_at k.cabin x.minute.minute) x.round c) x.minute.minute m (w.standing c) (All-head (λ (y : Done). y.minute.minute < m) x xs before) (All-head (λ (y : Done). m < y.minute.minute + 4) x xs few) h)

due-after : (k : Keeper) (m : ℕ) (xs : List Done) (w : RunLedger) → w.due ≤ m → All (λ x. x.minute.minute < m) xs → (carried_by k xs w).due ≤ m
due-after k m [] w late before = late
due-after k m (x ∷ xs) w late before =
    let here = All-head (λ (y : Done). y.minute.minute < m) x xs before in
    due-after k m xs (carried_after (present_at k.cabin x.minute.minute) (decided_minute k x.minute) x.round w) (omega (arith, here)) (All-tail (λ (y : Done). y.minute.minute < m) x xs before)

-- ---- what a round leaves

found-by : (f : Found) (fate : Fate) (present : Option Card) (second : ℕ) (cabin : Cabin) → AreFoundCards f cabin.cards → AreFoundCards f (cabin_by fate present second cabin).cards
found-by f Still None second cabin h = h
found-by f (Has a n) None second cabin h = h
found-by f Fell None second cabin h = h
found-by f fate (Some c) second cabin h = subst (AreFoundCards f) (sym (cards-by fate c second cabin)) (found-session f c _ cabin.cards h)

found-after : (f : Found) (present : Present) (second : ℕ) (round : Round) (cabin : Cabin) → AreFoundCards f cabin.cards → AreFoundCards f (cabin_after present second round cabin).cards
found-after f present second round cabin h = found-by f round.codriver present.codriver second (cabin_by round.driver present.driver second cabin) (found-by f round.driver present.driver second cabin h)

-- where no clock has fallen since
pub time-before : (d e : Devices) → d.unit.clock ≤ e.unit.clock → d.card_a.clock ≤ e.card_a.clock → d.card_b.clock ≤ e.card_b.clock → HaveTime e → HaveTime d
time-before d e unit a b time = record { unit = omega (arith, unit, time.unit); card_a = omega (arith, a, time.card_a); card_b = omega (arith, b, time.card_b) }

-- ---- SO FAR

-- The first so many are kept and booked: by these rounds unit and cards are as the book says.
pub record Booked (ds : List Minute) (i : ℕ) (at : Moment) (t u : KeepingState) (d e : Devices) : Type 0 where
  pub done : List Done
  pub are : take i ds ≡ map (λ (x : Done). x.minute) done
  pub rounds : AreRounds t.keeper at done t
  pub told : u ≡ told_by t.keeper at done t
  pub books : (f : Found) (w : RunLedger) (start : ℕ) (g : Travel) → MayBookAll f w ds t d → HasTravelled start w.book g d.unit → t.keeper.odometer ≡ odometer_after start g.before → HaveTime e
      → (AreBooked f (carried_by t.keeper done w) u.keeper.cabin.cards u.marks.items e × HasTravelled start (carried_by t.keeper done w).book (all_travelled (map (λ (x : Done). x.minute) done) g) e.unit) × AreTimedOn f (readings_of t.keeper ds) d e
      × AllKeep f (kepts_on t.keeper (map (λ (x : Done). x.minute) done)) t.keeper.cabin.cards u.keeper.cabin.cards d e
  pub noted : NotesFaults false (faults_of t.keeper at done t) d.unit e.unit

pub none-booked : (ds : List Minute) (at : Moment) (t : KeepingState) (d : Devices) → Booked ds 0 at t t d d
none-booked ds at t d = record { done = []; are = refl; rounds = tt; told = refl; books = λ f w start g may gone stored time. ((may.booked, gone), (λ c valid. stays-self (found_of f c) (readings_of t.keeper ds) (card_of d c)), keep-none f t.keeper.cabin.cards d); noted = notes-none false d.unit }

-- all of them
pub all-booked : (ds : List Minute) (i : ℕ) → length ds ≤ i → (at : Moment) (t u : KeepingState) (d e : Devices) → Booked ds i at t u d e → (reach : Reach) × IsReach ds at false t u reach × BooksAll ds false reach t u d e × NotesFaults false (faults_to t.keeper at reach t) d.unit e.unit
all-booked ds i over at t u d e so =
    let are : ds ≡ map (λ (x : Done). x.minute) so.done = sym (take_all i ds over) ∙ so.are in (
      Whole so.done,
      (are, so.rounds, so.told),
      λ f w start g may gone stored time.
          let all = so.books f w start g may gone stored time in
          (all.0, all.1, λ well. subst (λ (ms : List Minute). AllKeep f (kepts_on t.keeper ms) t.keeper.cabin.cards u.keeper.cabin.cards d e) (sym are) all.2),
      so.noted,
    )

module _ (ds : List Minute) (i : ℕ) (low : i < length ds) (at : Moment) (t u v : KeepingState) (d e g : Devices) (kept : ℕ) (due : AreDue kept ds) (day : 1440 ≤ (this ds i low).minute) (p : Present) (km : KeptMinute) (cards : p ≡ present_at t.keeper.cabin (this ds i low).minute)
    (is : km ≡ kept_of t.keeper.odometer (this ds i low) p) (A B C D : State) (earlier : HaveTime g → HaveTime e) (so : Booked ds i at t u d e) where
  abbrev k : Keeper
  k = t.keeper

  abbrev m : Minute
  m = this ds i low

  abbrev here : Present
  here = present_at k.cabin m.minute

  -- each of those before is earlier
  before : All (λ (x : Done). x.minute.minute < m.minute) so.done
  before = unmap (λ (q : Minute). q.minute < m.minute) (λ (x : Done). x.minute) so.done (subst (All (λ (q : Minute). q.minute < m.minute)) so.are (due-before kept ds i low due))

  comes : (f : Found) (w : RunLedger) → MayBookAll f w ds t d → MayCome f (carried_by k so.done w) (decided_minute k m)
  comes f w may =
      let first = may.comes.first in
      let late = all-here ds i low (λ (q : Minute). w.due ≤ q.minute) (unmap (λ (j : HistoryMinute). w.due ≤ j.minute) (decided_minute k) ds may.comes.late) in
      let few = all-here ds i low (λ (q : Minute). q.minute < first + 4) (unmap (λ (j : HistoryMinute). j.minute < first + 4) (decided_minute k) ds may.comes.few) in
      let from = unmap (λ (q : Minute). first ≤ q.minute) (λ (x : Done). x.minute) so.done (subst (All (λ (q : Minute). first ≤ q.minute)) so.are (All-take (λ (q : Minute). first ≤ q.minute) i ds (unmap (λ (j : HistoryMinute). first ≤ j.minute) (decided_minute k) ds may.comes.from))) in
      record {
        day = day;
        late = due-after k m.minute so.done w late before;
        fits = λ c. ⊎_elim
            (λ none. inl none)
            (λ both. inr (both.0, stands-after k c (found_of f c).start m.minute so.done w before (All-weaker (λ (x : Done). first ≤ x.minute.minute) (λ x. m.minute < x.minute.minute + 4) (λ x le. omega (arith, le, few)) so.done from) both.1))
            (all-here ds i low (λ (q : Minute). (on_card c (decided_minute k q) ≡ []) ⊎ (IsOwnValid (found_of f c).image × IsPresent (found_of f c).start (w.standing c) q.minute))
            (unmap (λ (j : HistoryMinute). (on_card c j ≡ []) ⊎ (IsOwnValid (found_of f c).image × IsPresent (found_of f c).start (w.standing c) j.minute)) (decided_minute k) ds (may.comes.fits c)));
      }

  -- its odometer is one of theirs
  value-here : Contains (readings_of k ds) (reading_of k m)
  value-here =
      let value : Minute → Reading = λ (x : Minute). reading_of k x in
      subst (λ (zs : List Minute). Contains (map value zs) (value m)) (sym (whole ds i low))
      (subst (λ (l : List Reading). Contains l (value m)) (sym (map-append value (take i ds) (m ∷ drop (i + 1) ds)))
      (Contains-append_right (map value (take i ds)) (value m ∷ map value (drop (i + 1) ds)) (value m) (Contains-append_left (value m ∷ []) (map value (drop (i + 1) ds)) (value m) (Contains-push [] (value m)))))

  timed-here : (f : Found) → AreTimedOn f (reading_of k m ∷ []) e g → AreTimedOn f (readings_of k ds) e g
  timed-here f = timed-more f (reading_of k m ∷ []) (readings_of k ds) one e g
    where
      one : (r : Reading) → Contains (reading_of k m ∷ []) r → Contains (readings_of k ds) r
      one r is = ⊎_elim
          (λ (none : Contains [] r). absurd (let few = none.1 in omega (arith, few)))
          (λ same. subst (λ (v : Reading). Contains (readings_of k ds) v) same value-here)
          (Contains-push_cases [] (reading_of k m) r is)

  -- behind those before
  module _ (f : Found) (w : RunLedger) (start : ℕ) (travel : Travel) (may : MayBookAll f w ds t d) (gone : HasTravelled start w.book travel d.unit) (stored : t.keeper.odometer ≡ odometer_after start travel.before) (time : HaveTime g) where
    abbrev so_far : Travel
    so_far = all_travelled (map (λ (x : Done). x.minute) so.done) travel

    was : (AreBooked f (carried_by k so.done w) u.keeper.cabin.cards u.marks.items e × HasTravelled start (carried_by k so.done w).book so_far e.unit) × AreTimedOn f (readings_of k ds) d e
        × AllKeep f (kepts_on k (map (λ (x : Done). x.minute) so.done)) k.cabin.cards u.keeper.cabin.cards d e
    was = so.books f w start travel may gone stored (earlier time)

    may-here : MayBook f (carried_by k so.done w) here (minute_of m k) u.keeper.cabin.cards u.marks.items e
    may-here = record { booked = was.0.0; comes = comes f w may }

    -- what the minute says of the odometer
    odometer-here : odometer_by k.odometer m.travelled ≡ odometer_by (odometer_after start so_far.before) m.travelled
    odometer-here = ap (λ (n : ℕ). odometer_by n m.travelled) (stored ∙ ap (λ (legs : List ℕ). odometer_after start legs) (sym (legs-before so.done travel)))

  -- what the minute says of who was present
  tells : TellsPresent (minute_of m k) here
  tells = record { driver = refl; codriver = refl }

  minute-here : (failed : Bool) (round : Option Round) → IsMinute p km at failed u v A B C D round → IsMinute here (minute_of m k) at failed u v A B C D round
  minute-here failed round h =
      subst (λ (q : Present). IsMinute q (kept_of k.odometer m q) at failed u v A B C D round) cards (subst (λ (n : KeptMinute). IsMinute p n at failed u v A B C D round) is h)

  books-here : (failed : Bool) (round : Option Round) → (TellsPresent km p → BooksMinute p km failed round u v e g) → BooksMinute here (minute_of m k) failed round u v e g
  books-here failed round h =
      subst (λ (q : Present). TellsPresent (kept_of k.odometer m q) q → BooksMinute q (kept_of k.odometer m q) failed round u v e g) cards
      (subst (λ (n : KeptMinute). TellsPresent n p → BooksMinute p n failed round u v e g) is h) tells

  -- ONE MORE
  module _ (r : Round) (minute : IsMinute here (minute_of m k) at false u v A B C D (Some r)) (books : BooksMinute here (minute_of m k) false (Some r) u v e g) (noted : NotesFaults false (last_faults p at (Some r) u.keeper.cabin) e.unit g.unit) where
    abbrev x : Done
    x = record { minute = m; round = r }

    abbrev carried_next : RunLedger → RunLedger
    carried_next w = carried_after here (decided_minute k m) r (carried_by k so.done w)

    next : (f : Found) (w : RunLedger) (start : ℕ) (travel : Travel) → MayBookAll f w ds t d → HasTravelled start w.book travel d.unit → t.keeper.odometer ≡ odometer_after start travel.before → HaveTime g
        → (AreBooked f (carried_next w) v.keeper.cabin.cards v.marks.items g × HasTravelled start (carried_next w).book (travelled m.minute m.travelled (all_travelled (map (λ (x : Done). x.minute) so.done) travel)) g.unit) × AreTimedOn f (readings_of k ds) d g
        × AllKeep f (kepts_on k (map (λ (x : Done). x.minute) (so.done ++ x ∷ []))) k.cabin.cards v.keeper.cabin.cards d g
    next f w start travel may gone stored time =
        let ahead = was f w start travel may gone stored time in
        let before = ahead.0 in
        let late = (comes f w may).late in
        let all = books f (carried_by k so.done w) start (all_travelled (map (λ (x : Done). x.minute) so.done) travel) m.travelled (may-here f w start travel may gone stored time) before.1 (odometer-here f w start travel may gone stored time) time in
        let behind = all.0 in
        let booked : AreBooked f (carried_next w) v.keeper.cabin.cards v.marks.items g =
        record {
          found = subst (λ (q : KeepingState). AreFoundCards f q.keeper.cabin.cards) (sym minute.2) (found-after f here at.second r u.keeper.cabin before.0.found);
          powered = behind.0;
          told = ap (λ (ms : List Mark). (marks_after here m.minute r (record { items = ms; room = 0 })).items) before.0.told ∙ sym (ap (λ (q : KeepingState). q.marks.items) minute.2);
          early = λ c n at. let lt = before.0.early c n at in omega (arith, lt, late);
        } in (
          (booked, behind.1),
          timed-then f (readings_of k ds) d e g ahead.1 (timed-here f all.1),
          keep-then f (kepts_on k (map (λ (y : Done). y.minute) so.done)) (kept_on here (minute_of m k)) (kepts_on k (map (λ (y : Done). y.minute) (so.done ++ x ∷ []))) k.cabin.cards u.keeper.cabin.cards v.keeper.cabin.cards d e g
              (λ c. kepts-snoc k (map (λ (y : Done). y.minute) so.done) m c ∙ ap (λ (ms : List Minute). kepts_on k ms c) (sym (map-append (λ (y : Done). y.minute) so.done (x ∷ [])))) ahead.2 (all.2 refl),
        )

    more-booked : Booked ds (i + 1) at t v d g
    more-booked = record {
      done = so.done ++ x ∷ [];
      are = front ds i low ∙ ap (λ (zs : List Minute). zs ++ m ∷ []) so.are ∙ sym (map-append (λ (y : Done). y.minute) so.done (x ∷ []));
      rounds = rounds-snoc k at so.done x t so.rounds (subst (λ (q : KeepingState). IsRound here (minute_of m k) at false q.keeper r) so.told minute.0);
      told = minute.2 ∙ ap (told_after here m.minute at r) so.told ∙ sym (told-snoc k at so.done x t);
      books = λ f w start travel may gone stored time.
          let all = next f w start travel may gone stored time in
          let behind = all.0 in
          let carried = sym (carried-snoc k so.done x w) in
          let booked : AreBooked f (carried_by k (so.done ++ x ∷ []) w) v.keeper.cabin.cards v.marks.items g = subst (λ (q : RunLedger). AreBooked f q v.keeper.cabin.cards v.marks.items g) carried behind.0 in
          let far : HasTravelled start (carried_by k (so.done ++ x ∷ []) w).book (all_travelled (map (λ (y : Done). y.minute) (so.done ++ x ∷ [])) travel) g.unit = subst (λ (legs : Travel). HasTravelled start (carried_by k (so.done ++ x ∷ []) w).book legs g.unit) (sym (travel-snoc so.done x travel))
          (subst (λ (q : RunLedger). HasTravelled start q.book (travelled m.minute m.travelled (all_travelled (map (λ (y : Done). y.minute) so.done) travel)) g.unit) carried behind.1) in
          ((booked, far), all.1, all.2);
      noted = more-noted k at so.done x t u p d.unit e.unit g.unit cards so.told so.noted noted;
    }

  pub booked-on : (round : Option Round) → IsMinute p km at false u v A B C D round → (TellsPresent km p → BooksMinute p km false round u v e g) → NotesFaults false (last_faults p at round u.keeper.cabin) e.unit g.unit → Booked ds (i + 1) at t v d g
  booked-on None h books noted = let never = h.0 in absurd (cc)
  booked-on (Some r) h books noted = more-booked r (minute-here false (Some r) h) (books-here false (Some r) books) noted

  -- OR THE UNIT FAILED in it
  last-here : (round : Option Round) → IsMinute here (minute_of m k) at true u v A B C D round → IsLast k m at (told_by k at so.done t) v round
  last-here None h = h.1 ∙ so.told
  last-here (Some r) h = (subst (λ (q : KeepingState). IsRound here (minute_of m k) at true q.keeper r) so.told h.0, h.2 ∙ ap (told_after here m.minute at r) so.told)

  pub cut-booked : (round : Option Round) → IsMinute p km at true u v A B C D round → (TellsPresent km p → BooksMinute p km true round u v e g) → NotesFaults true (last_faults p at round u.keeper.cabin) e.unit g.unit → (reach : Reach) × IsReach ds at true t v reach × BooksAll ds true reach t v d g × NotesFaults true (faults_to k at reach t) d.unit g.unit
  cut-booked round h books noted = (
    Short so.done m round,
    ((drop (i + 1) ds, whole ds i low ∙ ap (λ (zs : List Minute). zs ++ m ∷ drop (i + 1) ds) so.are), so.rounds, last-here round (minute-here true round h)),
    λ f w start travel may gone stored time.
        let all = books-here true round books f (carried_by k so.done w) start (all_travelled (map (λ (x : Done). x.minute) so.done) travel) m.travelled
        (may-here f w start travel may gone stored time) (was f w start travel may gone stored time).0.1 (odometer-here f w start travel may gone stored time) time in
        (all.0, timed-then f (readings_of k ds) d e g (was f w start travel may gone stored time).1 (timed-here f all.1), λ well. clash well),
    last-noted k at so.done m.minute round t u p d.unit e.unit g.unit cards so.told so.noted noted,
  )
