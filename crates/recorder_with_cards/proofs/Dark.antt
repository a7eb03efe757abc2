-- Power lost before an `off` line.
use Rattle.std.proofs.Common.{◌≡◌, ◌∙◌, ℕ, ◌+◌, ◌-◌, ◌/◌, ◌<◌, ◌≤◌, Bool, true, false, Option, [], ◌∷◌, length, refl, ap, arith}
use Rattle.trace_model.specs.declared.Card.{Card}
use Rattle.log_model.specs.declared.lines.Break.{Break}
use Rattle.run_acts.specs.run_crew.Cabin.{CabinIsSound}
use Rattle.run_outcome.specs.Lines.{Listed, cut_at}
use Rattle.run_outcome.specs.declared.outcome.Outcome.{Outcome}
use Rattle.run_minutes.specs.Keeping.{with_lines}
use Rattle.run_minutes.proofs.Counts.{lines-length}
use Rattle.run_acts.specs.declared.run.Run.{Run}
use Rattle.run_acts.specs.declared.run.Power.{Power}
use Rattle.run_acts.specs.declared.run.Power.TheVariants.{Lit, Due, Lost}
use Rattle.run_acts.specs.Power.{is_lit, has_power, darkened, off_cut, off_run, cut_run}
use Rattle.run_acts.specs.Room.{waiting, finds_due, cuts_from, HasRoom}
use Rattle.run_acts.proofs.Torn.{cut-falls, bare-two}

-- a second without power begins in one
pub away-dark : (p : Power) (next : ℕ) → has_power p next ≡ false → is_lit p ≡ false
away-dark Lit next away = away
away-dark Due next away = refl
away-dark Lost next away = refl

-- the cut before an `off` line has room
pub cut-room : (run : Run) (o : Outcome) (seconds offs insertions actions : ℕ) → HasRoom run o seconds (1 + offs) insertions actions → run.power ≡ Lit → length o.breaks.items < o.breaks.room
cut-room run o seconds offs insertions actions h lit = let f = ap (λ (q : Power). cuts_from q run.next) lit in let b = h.breaks in omega (arith, f, b)

-- and there is room for what comes behind the line
module _ (run : Run) (o : Outcome) (seconds from : ℕ) (leaving : Option Card) (stands : CabinIsSound from leaving run.keeper.cabin) (breaks : Listed Break) (told : breaks ≡ with_lines (off_cut (is_lit run.power) (run.next - 1) run.begun) o.breaks) where
  dark-room : (p : Power) → run.power ≡ p → is_lit p ≡ false → (left offs insertions actions : ℕ) → HasRoom run o (seconds + left) (1 + offs) insertions actions → cuts_from p run.next ≤ run.next / 60 + 1
      → HasRoom (record (darkened (is_lit p) run) { power = Due; next = run.next + seconds; begun = 0 }) (record o { breaks = breaks }) left offs insertions actions
  dark-room Lit is off left offs insertions actions h few = absurd (cc)
  dark-room Due is off left offs insertions actions h few =
      let f = ap (λ (q : Power). cuts_from q run.next) is in
      let w = ap (λ (q : Power). waiting q run.minutes.owing) is in
      let d = ap (λ (q : Power). finds_due (is_lit q) run.keeper.cabin) is in
      let items = ap (λ (l : Listed Break). length l.items) (told ∙ ap (λ (q : Power). with_lines (off_cut (is_lit q) (run.next - 1) run.begun) o.breaks) is) ∙ lines-length (off_cut false (run.next - 1) run.begun) o.breaks in
      let room = ap (λ (l : Listed Break). l.room) told in
      let b = h.breaks in
      let fi = h.finds in
      let m = h.marks in
      record { breaks = omega (arith, f, items, room, b); finds = omega (arith, f, d, fi); marks = omega (arith, f, w, d, m); refused = h.refused }
  dark-room Lost is off left offs insertions actions h few =
      let f = ap (λ (q : Power). cuts_from q run.next) is in
      let w = ap (λ (q : Power). waiting q run.minutes.owing) is in
      let d = ap (λ (q : Power). finds_due (is_lit q) run.keeper.cabin) is in
      let items = ap (λ (l : Listed Break). length l.items) (told ∙ ap (λ (q : Power). with_lines (off_cut (is_lit q) (run.next - 1) run.begun) o.breaks) is) ∙ lines-length (off_cut false (run.next - 1) run.begun) o.breaks in
      let room = ap (λ (l : Listed Break). l.room) told in
      let b = h.breaks in
      let fi = h.finds in
      let m = h.marks in
      record { breaks = omega (arith, f, few, items, room, b); finds = omega (arith, f, few, d, fi); marks = omega (arith, f, few, w, d, m); refused = h.refused }

  lit-room : run.power ≡ Lit → (left offs insertions actions : ℕ) → HasRoom run o (seconds + left) (1 + offs) insertions actions
      → HasRoom (record (darkened true run) { power = Due; next = run.next + seconds; begun = 0 }) (record o { breaks = breaks }) left offs insertions actions
  lit-room is left offs insertions actions h =
      let f = ap (λ (q : Power). cuts_from q run.next) is in
      let w = ap (λ (q : Power). waiting q run.minutes.owing) is in
      let d = ap (λ (q : Power). finds_due (is_lit q) run.keeper.cabin) is in
      let items = ap (λ (l : Listed Break). length l.items) (told ∙ ap (λ (q : Power). with_lines (off_cut (is_lit q) (run.next - 1) run.begun) o.breaks) is) ∙ lines-length (cut_at (run.next - 1) false run.begun ∷ []) o.breaks in
      let room = ap (λ (l : Listed Break). l.room) told in
      let less = cut-falls (run.next - 1) from leaving run.keeper.cabin stands in
      let two = bare-two (cut_run (run.next - 1) run).keeper.cabin.slots.seats in
      let b = h.breaks in
      let fi = h.finds in
      let m = h.marks in
      record { breaks = omega (arith, f, items, room, less, b); finds = omega (arith, f, d, two, fi); marks = omega (arith, f, w, d, two, m); refused = h.refused }

  pub off-room : (left offs insertions actions : ℕ) → HasRoom run o (seconds + left) (1 + offs) insertions actions → HasRoom (off_run seconds run) (record o { breaks = breaks }) left offs insertions actions
  off-room left offs insertions actions h = by run.power refl
    where
      by : (p : Power) → run.power ≡ p → HasRoom (record (darkened (is_lit p) run) { power = Due; next = run.next + seconds; begun = 0 }) (record o { breaks = breaks }) left offs insertions actions
      by Lit is = lit-room is left offs insertions actions h
      by Due is = dark-room Due is refl left offs insertions actions h (omega arith)
      by Lost is = dark-room Lost is refl left offs insertions actions h (omega arith)

-- which breaks are not found yet is as it was
unfound-by : (lit : Bool) (run : Run) → (darkened lit run).unfound ≡ run.unfound
unfound-by true run = refl
unfound-by false run = refl

pub unfound-same : (seconds : ℕ) (run : Run) → (off_run seconds run).unfound ≡ run.unfound
unfound-same seconds run = unfound-by (is_lit run.power) run
