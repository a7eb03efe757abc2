-- The room behind a turn.
use Rattle.std.proofs.Common.{◌≡◌, ◌∙◌, ℕ, ◌+◌, ◌*◌, ◌/◌, ◌%◌, ◌<◌, ◌≤◌, true, false, length, refl, ap, sym, subst, arith}
use Rattle.run_outcome.specs.declared.outcome.Outcome.{Outcome}
use Rattle.run_acts.specs.declared.run.Run.{Run}
use Rattle.run_acts.specs.declared.run.Power.{Power}
use Rattle.run_acts.specs.declared.run.Power.TheVariants.{Lit, Due, Lost}
use Rattle.run_acts.specs.Power.{is_lit}
use Rattle.run_acts.specs.Room.{waiting, falls_of, finds_due, cuts_from, cuts_within, HasRoom, HasRoomWithin}
use Rattle.run_acts.proofs.Torn.{bare-two}

-- what a turn takes of the room: three marks for each minute that it decides, and at most the break of a cut
pub record Spends (cut minutes : ℕ) (old new : Run) (before after : Outcome) : Type 0 where
  pub marks_room : after.marks.room ≡ before.marks.room
  pub marks : length after.marks.items ≤ length before.marks.items + 3 * minutes
  pub breaks_room : after.breaks.room ≡ before.breaks.room
  pub breaks : length after.breaks.items + falls_of new.keeper.cabin ≤ length before.breaks.items + falls_of old.keeper.cabin + cut
  pub finds : after.finds ≡ before.finds
  pub refused : after.refused ≡ before.refused

module _ (old new : Run) (before after : Outcome) (n minutes : ℕ) (next : new.next ≡ old.next + n) (some : 0 < n) (one : old.next % 60 + n ≤ 60) where
  -- with power at both ends: `given` is the first minute that was not given
  pub room-lit : (given given_later : ℕ) → old.power ≡ Lit → new.power ≡ Lit → Spends 0 minutes old new before after → given + old.minutes.owing ≡ old.next / 60 → given_later + new.minutes.owing ≡ new.next / 60
      → given + minutes ≡ given_later → (left offs insertions actions : ℕ) → HasRoomWithin old before (n + left) offs insertions actions → HasRoom new after left offs insertions actions
  room-lit given given_later was is s o p count left offs insertions actions h =
      let f = ap (λ (q : Power). cuts_within q old.next) was in
      let t = ap (λ (q : Power). cuts_from q new.next) is in
      let w = ap (λ (q : Power). waiting q old.minutes.owing) was in
      let v = ap (λ (q : Power). waiting q new.minutes.owing) is in
      let due = ap (λ (q : Power). finds_due (is_lit q) old.keeper.cabin) was in
      let later = ap (λ (q : Power). finds_due (is_lit q) new.keeper.cabin) is in
      let marks_room = s.marks_room in
      let marks = s.marks in
      let breaks_room = s.breaks_room in
      let breaks = s.breaks in
      let finds = ap (λ l. length l.items) s.finds in
      let finds_room = ap (λ l. l.room) s.finds in
      let refused = ap (λ l. length l.items) s.refused in
      let refused_room = ap (λ l. l.room) s.refused in
      let b = h.breaks in
      let fi = h.finds in
      let m = h.marks in
      let r = h.refused in
      record {
        breaks = omega (arith, next, f, t, breaks_room, breaks, b);
        finds = omega (arith, next, f, t, due, later, finds, finds_room, fi);
        marks = omega (arith, next, f, t, w, v, due, later, marks_room, marks, o, p, count, m);
        refused = omega (arith, refused, refused_room, r);
      }

  -- power was lost in it
  pub room-lost : (given given_later : ℕ) → old.power ≡ Lit → new.power ≡ Lost → Spends 1 minutes old new before after → given + old.minutes.owing ≡ old.next / 60 → given_later ≤ old.next / 60
      → given + minutes ≡ given_later → (left offs insertions actions : ℕ) → HasRoomWithin old before (n + left) offs insertions actions → HasRoom new after left offs insertions actions
  room-lost given given_later was is s o p count left offs insertions actions h =
      let f = ap (λ (q : Power). cuts_within q old.next) was in
      let t = ap (λ (q : Power). cuts_from q new.next) is in
      let w = ap (λ (q : Power). waiting q old.minutes.owing) was in
      let v = ap (λ (q : Power). waiting q new.minutes.owing) is in
      let due = ap (λ (q : Power). finds_due (is_lit q) old.keeper.cabin) was in
      let later = ap (λ (q : Power). finds_due (is_lit q) new.keeper.cabin) is in
      let two = bare-two new.keeper.cabin.slots.seats in
      let marks_room = s.marks_room in
      let marks = s.marks in
      let breaks_room = s.breaks_room in
      let breaks = s.breaks in
      let finds = ap (λ l. length l.items) s.finds in
      let finds_room = ap (λ l. l.room) s.finds in
      let refused = ap (λ l. length l.items) s.refused in
      let refused_room = ap (λ l. l.room) s.refused in
      let b = h.breaks in
      let fi = h.finds in
      let m = h.marks in
      let r = h.refused in
      record {
        breaks = omega (arith, next, some, f, t, breaks_room, breaks, b);
        finds = omega (arith, next, some, f, t, due, later, two, finds, finds_room, fi);
        marks = omega (arith, next, some, f, t, w, v, due, later, two, marks_room, marks, o, p, count, m);
        refused = omega (arith, refused, refused_room, r);
      }

  -- without power
  pub room-dark : is_lit old.power ≡ false → new ≡ record old { next = new.next; begun = new.begun } → after ≡ before → (left offs insertions actions : ℕ) → HasRoomWithin old before (n + left) offs insertions actions → HasRoom new after left offs insertions actions
  room-dark dark is same left offs insertions actions h = by old.power refl
    where
      new-is : (p : Power) → old.power ≡ p → new ≡ record old { power = p; next = old.next + n; begun = new.begun }
      new-is p at = is ∙ ap (λ (m : ℕ). record old { next = m; begun = new.begun }) next ∙ ap (λ (q : Power). record old { power = q; next = old.next + n; begun = new.begun }) at

      by : (p : Power) → old.power ≡ p → HasRoom new after left offs insertions actions
      by Lit lit = absurd (let bad : true ≡ false = sym (ap is_lit lit) ∙ dark in cc)
      by Due due = let goal : HasRoom (record old { power = Due; next = old.next + n; begun = new.begun }) before left offs insertions actions =
          (let f = ap (λ (q : Power). cuts_within q old.next) due in
          let w = ap (λ (q : Power). waiting q old.minutes.owing) due in
          let d = ap (λ (q : Power). finds_due (is_lit q) old.keeper.cabin) due in
          let b = h.breaks in
          let fi = h.finds in
          let m = h.marks in
          record { breaks = omega (arith, f, b); finds = omega (arith, f, d, fi); marks = omega (arith, f, w, d, m); refused = h.refused }) in
          subst (λ (o : Outcome). HasRoom new o left offs insertions actions) (sym same) (subst (λ (q : Run). HasRoom q before left offs insertions actions) (sym (new-is Due due)) goal)
      by Lost lost = let goal : HasRoom (record old { power = Lost; next = old.next + n; begun = new.begun }) before left offs insertions actions =
          (let f = ap (λ (q : Power). cuts_within q old.next) lost in
          let w = ap (λ (q : Power). waiting q old.minutes.owing) lost in
          let d = ap (λ (q : Power). finds_due (is_lit q) old.keeper.cabin) lost in
          let b = h.breaks in
          let fi = h.finds in
          let m = h.marks in
          record { breaks = omega (arith, some, f, b); finds = omega (arith, some, f, d, fi); marks = omega (arith, some, f, w, d, m); refused = h.refused }) in
          subst (λ (o : Outcome). HasRoom new o left offs insertions actions) (sym same) (subst (λ (q : Run). HasRoom q before left offs insertions actions) (sym (new-is Lost lost)) goal)
