-- The room within a second, by that before it.
use Rattle.std.proofs.Common.{◌≡◌, ◌∙◌, ◌⊎◌, inl, inr, ⊎_elim, ℕ, ◌+◌, ◌/◌, ◌%◌, ◌==◌, ◌≤◌, Bool, true, false, length, refl, ap, sym, arith, eqb-true}
use Rattle.run_outcome.specs.declared.outcome.Outcome.{Outcome}
use Rattle.run_acts.specs.declared.run.Run.{Run}
use Rattle.run_acts.specs.declared.run.Power.{Power}
use Rattle.run_acts.specs.declared.run.Power.TheVariants.{Lit, Due, Lost}
use Rattle.run_acts.specs.Power.{is_lit, has_power, over_by}
use Rattle.run_acts.specs.Room.{waiting, falls_of, finds_due, cuts_from, cuts_within, HasRoom, HasRoomWithin}
use Rattle.run_acts.proofs.Torn.{bare-two}
use Rattle.recorder_with_cards.specs.Waking.{IsAwake, TakesAwake}

-- with power, a minute that is over takes none
pub room-over : (b : Bool) (run : Run) (o : Outcome) (left offs insertions actions : ℕ) → run.power ≡ Lit → HasRoom run o left offs insertions actions → HasRoomWithin (over_by b run) o left offs insertions actions
room-over true run o left offs insertions actions lit h =
    let f = ap (λ (q : Power). cuts_from q run.next) lit in
    let t = ap (λ (q : Power). cuts_within q run.next) lit in
    let b = h.breaks in
    let fi = h.finds in
    let m = h.marks in
    let later = ap (λ (q : Power). finds_due (is_lit q) (over_by true run).keeper.cabin) lit in
    record { breaks = omega (arith, f, t, b); finds = omega (arith, f, t, later, fi); marks = omega (arith, f, t, later, m); refused = h.refused }
room-over false run o left offs insertions actions lit h =
    let f = ap (λ (q : Power). cuts_from q run.next) lit in
    let t = ap (λ (q : Power). cuts_within q run.next) lit in
    let b = h.breaks in
    let fi = h.finds in
    let m = h.marks in
    let later = ap (λ (q : Power). finds_due (is_lit q) (over_by false run).keeper.cabin) lit in
    record { breaks = omega (arith, f, t, b); finds = omega (arith, f, t, later, fi); marks = omega (arith, f, t, later, m); refused = h.refused }

-- it stays away
stays-away : (p : Power) (next : ℕ) → has_power p next ≡ false → cuts_from p next ≡ cuts_within p next
stays-away Lit next away = absurd (cc)
stays-away Due next away = absurd (cc)
stays-away Lost next away = by (next % 60) refl
  where
    by : (m : ℕ) → next % 60 ≡ m → (next + 59) / 60 ≡ next / 60 + 1
    by m is = let some : m ≡ 0 → ⊥ = (λ none. let yes : (next % 60 == 0) ≡ true = ap (λ (k : ℕ). k == 0) (is ∙ none) in let bad : true ≡ false = sym yes ∙ away in cc) in omega (arith, is, some)

pub room-away : (run : Run) (o : Outcome) (left offs insertions actions : ℕ) → has_power run.power run.next ≡ false → HasRoom run o left offs insertions actions → HasRoomWithin run o left offs insertions actions
room-away run o left offs insertions actions away h =
    let f = stays-away run.power run.next away in
    let b = h.breaks in
    let fi = h.finds in
    let m = h.marks in
    record { breaks = omega (arith, f, b); finds = omega (arith, f, fi); marks = omega (arith, f, m); refused = h.refused }

-- it was due, and is back
pub is-due : (p : Power) (next : ℕ) → is_lit p ≡ false → has_power p next ≡ true → cuts_from p next ≡ next / 60
is-due Lit next dark has = absurd (cc)
is-due Due next dark has = refl
is-due Lost next dark has = let at : next % 60 ≡ 0 = eqb-true (next % 60) 0 has in omega (arith, at)

dark-waits : (p : Power) (n : ℕ) → is_lit p ≡ false → waiting p n ≡ 0
dark-waits Lit n dark = absurd (cc)
dark-waits Due n dark = refl
dark-waits Lost n dark = refl

module _ (old new : Run) (before after : Outcome) (next : new.next ≡ old.next) (dark : is_lit old.power ≡ false) (has : has_power old.power old.next ≡ true) (awake : IsAwake new) (takes : TakesAwake old new before after) (refused : after.refused ≡ before.refused) where
  pub room-awake : (left offs insertions actions : ℕ) → HasRoom old before left offs insertions actions → HasRoomWithin new after left offs insertions actions
  room-awake left offs insertions actions h = ⊎_elim lit lost awake
    where
      from : cuts_from old.power old.next ≡ old.next / 60
      from = is-due old.power old.next dark has

      waits : waiting old.power old.minutes.owing ≡ 0
      waits = dark-waits old.power old.minutes.owing dark

      due : finds_due (is_lit old.power) old.keeper.cabin ≡ finds_due false old.keeper.cabin
      due = ap (λ (q : Bool). finds_due q old.keeper.cabin) dark

      not-lost : new.power ≡ Lit → (length after.breaks.items + falls_of new.keeper.cabin ≤ length before.breaks.items + falls_of old.keeper.cabin) ⊎ ((new.power ≡ Lost) × (length after.breaks.items + falls_of new.keeper.cabin ≤ length before.breaks.items + falls_of old.keeper.cabin + 1))
          → length after.breaks.items + falls_of new.keeper.cabin ≤ length before.breaks.items + falls_of old.keeper.cabin
      not-lost is (inl le) = le
      not-lost is (inr lost) = absurd (let bad : Lit ≡ Lost = sym is ∙ lost.0 in cc)

      at-most : (length after.breaks.items + falls_of new.keeper.cabin ≤ length before.breaks.items + falls_of old.keeper.cabin) ⊎ ((new.power ≡ Lost) × (length after.breaks.items + falls_of new.keeper.cabin ≤ length before.breaks.items + falls_of old.keeper.cabin + 1))
          → length after.breaks.items + falls_of new.keeper.cabin ≤ length before.breaks.items + falls_of old.keeper.cabin + 1
      at-most (inl le) = omega (arith, le)
      at-most (inr lost) = lost.1

      lit : (new.power ≡ Lit) × (new.minutes.owing ≡ 0) → HasRoomWithin new after left offs insertions actions
      lit is =
          let f = from in
          let w = waits in
          let d = due in
          let t = ap (λ (q : Power). cuts_within q new.next) is.0 in
          let v = ap (λ (q : Power). waiting q new.minutes.owing) is.0 in
          let none = is.1 in
          let later = ap (λ (q : Power). finds_due (is_lit q) new.keeper.cabin) is.0 in
          let mr = takes.rooms.0 in
          let br = takes.rooms.1 in
          let fr = takes.rooms.2 in
          let tm = takes.marks in
          let tf = takes.finds in
          let r = ap (λ l. length l.items) refused in
          let rr = ap (λ l. l.room) refused in
          let b = h.breaks in
          let fi = h.finds in
          let m = h.marks in
          let re = h.refused in
          let tb = not-lost is.0 takes.breaks in
          record {
            breaks = omega (arith, next, f, t, br, tb, b);
            finds = omega (arith, next, f, t, d, later, fr, tf, fi);
            marks = omega (arith, next, f, w, d, t, v, none, later, mr, tm, m);
            refused = omega (arith, r, rr, re);
          }

      lost : new.power ≡ Lost → HasRoomWithin new after left offs insertions actions
      lost is =
          let f = from in
          let w = waits in
          let d = due in
          let t = ap (λ (q : Power). cuts_within q new.next) is in
          let v = ap (λ (q : Power). waiting q new.minutes.owing) is in
          let later = ap (λ (q : Power). finds_due (is_lit q) new.keeper.cabin) is in
          let two = bare-two new.keeper.cabin.slots.seats in
          let mr = takes.rooms.0 in
          let br = takes.rooms.1 in
          let fr = takes.rooms.2 in
          let tm = takes.marks in
          let tf = takes.finds in
          let r = ap (λ l. length l.items) refused in
          let rr = ap (λ l. l.room) refused in
          let b = h.breaks in
          let fi = h.finds in
          let m = h.marks in
          let re = h.refused in
          let tb = at-most takes.breaks in
          record {
            breaks = omega (arith, next, f, t, br, tb, b);
            finds = omega (arith, next, f, t, d, later, two, fr, tf, fi);
            marks = omega (arith, next, f, w, d, t, v, later, two, mr, tm, m);
            refused = omega (arith, r, rr, re);
          }
