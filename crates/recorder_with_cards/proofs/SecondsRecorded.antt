-- What seconds of a run leave of the record: without power, of an `off` line, and one after another.
use Rattle.std.proofs.Common.{◌≡◌, ◌∙◌, ℕ, zero, suc, ◌+◌, ◌-◌, ◌%◌, ◌<◌, ◌≤◌, Bool, true, false, List, [], ◌∷◌, ◌++◌, length, map, min, refl, ap, sym, subst, arith, append_assoc, ⊎_elim, Some, None, is_some}
use Rattle.std.specs.Prelude.{◌==◌, Result, Ok}
use Rattle.std.proofs.lemmas.List.{append-nil}
use Rattle.std.proofs.lemmas.Bool.Decides.{nat_tests}
use Rattle.trace_model.specs.declared.Action.{Action}
use Rattle.trace_model.specs.declared.Item.{Item}
use Rattle.trace_model.specs.declared.Item.TheVariants.{Run as Driven, Off, Act}
use Rattle.trace_model.specs.Trace.{TraceSecond, driven, dark}
use Rattle.log_model.specs.declared.lines.Break.{Break}
use Rattle.log_model.specs.declared.lines.Refused.{Refused}
use Rattle.log_model.specs.declared.lines.SlotFault.{SlotFault}
use Rattle.log_model.specs.declared.lines.SlotFault.TheVariants.{NoPower}
use Rattle.device_calls.specs.run_unit_course.Followed.{UnitPower, Lit as IsLit, Due as IsDue, Lost as IsLost}
use Rattle.device_calls.specs.safety_model.Safe.{Devices}
use Rattle.run_opening.specs.declared.fault.RunFault.{RunFault}
use Rattle.run_outcome.specs.declared.outcome.Outcome.{Outcome}
use Rattle.run_outcome.specs.Lines.{Listed, cut_at}
use Rattle.run_minutes.specs.Keeping.{with_lines}
use Rattle.run_minutes.specs.run_promise.Origin.{Origin, rule_of, start_at, first_of}
use Rattle.run_acts.specs.run_record.Recorded.{RecordBetweenSeconds, progress, Values}
use Rattle.run_acts.specs.run_record.Going.{off_values}
use Rattle.run_acts.proofs.run_record.Going.{dark-recorded, off-recorded, off-cut-recorded}
use Rattle.run_acts.specs.declared.run.Run.{Run}
use Rattle.run_acts.specs.declared.run.Power.{Power}
use Rattle.run_acts.specs.declared.run.Power.TheVariants.{Lit, Due, Lost}
use Rattle.run_acts.specs.Power.{is_lit, has_power, darkened, off_run, off_cut, passed}
use Rattle.run_acts.specs.Going.{largest_number}
use Rattle.run_acts.specs.Turning.{IsTurnOf}
use Rattle.run_acts.specs.Recording.{log_of, values_of, Supplies, RunRecorded}
use Rattle.run_acts.specs.run_note_record.Uses.{vehicle_in}
use Rattle.recorder_with_cards.specs.Acting.{AreActed}
use Rattle.recorder_with_cards.specs.Recorded.{Inside, Between, actions_in, HasBegunBy, HasRunBy}
use Rattle.recorder_with_cards.proofs.Waiting.{most-actions}
use Rattle.trace_model.specs.declared.Card.{Card}
use Rattle.trace_model.specs.declared.Card.TheVariants.{A, B}
use Rattle.run_acts.specs.run_crew.Cards.{session_of}
use Rattle.run_acts.specs.run_crew.Cabin.{CabinIsSound, with_power_lost}
use Rattle.log_model.specs.Causes.{refusals_at, refusal_told}
use Rattle.log_model.specs.Course.{ToldSecond, went, without_power}
use Rattle.log_model.specs.ByHand.{by_slots}
use Rattle.log_model.specs.Log.{RunLog}
use Rattle.device_calls.specs.note_model.Noted.{Note}
use Rattle.run_acts.specs.run_note_record.Ringed.{notes_in}
use Rattle.run_acts.specs.Closings.{spells_of}
use Rattle.run_acts.specs.Truths.{truths_of, marked}
use Rattle.run_acts.specs.Stays.{sits_in, AllStay}
use Rattle.run_acts.proofs.AllStay.{moves-gone, placed-bare, all-moved, all-noted, all-true, lines-on, same-on, stood-self}
use Rattle.run_acts.proofs.Truths.{grow-on, marked-still}
use Rattle.run_acts.proofs.TruthsThen.{truths-same, truths-more}
use Rattle.run_acts.proofs.SeatsThen.{sits-in-one}
use Rattle.run_acts.proofs.NotesThen.{notes-off, notes-lost, notes-refused, went-refused}
use Rattle.recorder_with_cards.proofs.SlotLines.{refused_from, refused_dark, log-dark, values-dark}
use Rattle.recorder_with_cards.proofs.OffRings.{off-cut-notes, off-cut-true}

-- ---- a second without power

faults-from : (second number : ℕ) (actions : List Action) → map refusal_told (refused_from second number actions) ≡ refusals_at second (without_power number actions)
faults-from second number [] = refl
faults-from second number (a ∷ actions) = ap (λ (l : List (ℕ × ℕ × SlotFault)). (second, number + 1, NoPower) ∷ l) (faults-from second (number + 1) actions)

-- an outcome in which these lines more tell of refusals
abbrev and_refused : List Refused → Outcome → Outcome
and_refused more out = record out { refused = with_lines more out.refused }

pub none-refused : (out : Outcome) → out ≡ and_refused [] out
none-refused out = ap (λ (l : List Refused). record out { refused = record { items = l; room = out.refused.room } }) (sym (append-nil out.refused.items))

then-refused : (xs ys : List Refused) (out : Outcome) → and_refused ys (and_refused xs out) ≡ and_refused (xs ++ ys) out
then-refused xs ys out = ap (λ (l : List Refused). record out { refused = record { items = l; room = out.refused.room } }) (append_assoc out.refused.items xs ys)

-- the line of one of them
abbrev dark_line : (second begun : ℕ) → List Refused
dark_line second begun = record { second = second; fault = NoPower; begun = begun } ∷ []

few-begun : (number : ℕ) → number + 1 ≤ largest_number → min (number + 1) largest_number ≡ number + 1
few-begun number few = omega (arith, few)

-- where all of the items are actions, so few that a line can tell their number
pub acted-dark : (speed number : ℕ) (items : List Item) (a c : Run) (o q : Outcome) → length items ≤ length (actions_in items) → number + length items ≤ largest_number → AreActed false speed number items a c o q →
    (c ≡ a) × (q ≡ record o { refused = with_lines (refused_from a.next number (actions_in items)) o.refused })
acted-dark speed number [] a c o q all few so = (so.0, so.1 ∙ none-refused o)
acted-dark speed number (Driven seconds driven_ ∷ items) a c o q all few so =
    let none : suc (length items) ≤ length (actions_in items) = all in absurd (omega (arith, none, most-actions items))
acted-dark speed number (Off seconds ∷ items) a c o q all few so =
    let none : suc (length items) ≤ length (actions_in items) = all in absurd (omega (arith, none, most-actions items))
acted-dark speed number (Act action ∷ items) a c o q all few so =
    let all_rest : suc (length items) ≤ suc (length (actions_in items)) = all in
    let few_rest : number + suc (length items) ≤ largest_number = few in
    let behind : List Refused = refused_from a.next (number + 1) (actions_in items) in
    let rest = acted-dark speed (number + 1) items so.0 c so.1 q (omega (arith, all_rest)) (omega (arith, few_rest)) so.3 in (
      rest.0 ∙ so.2.0,
      rest.1 ∙ ap (λ (p : Outcome). and_refused (refused_from so.0.next (number + 1) (actions_in items)) p) so.2.1
          ∙ ap (λ (r : Run). and_refused (refused_from r.next (number + 1) (actions_in items)) (and_refused (dark_line a.next (min (number + 1) largest_number)) o)) so.2.0
          ∙ ap (λ (n : ℕ). and_refused behind (and_refused (dark_line a.next n) o)) (few-begun number (omega (arith, few_rest)))
          ∙ then-refused (dark_line a.next (number + 1)) behind o,
    )

-- and then it passes
pub passes-dark : (a b : Run) (o p : Outcome) (n speed begun : ℕ) → is_lit a.power ≡ false → IsTurnOf (is_lit a.power) n speed begun a b o p → (b ≡ passed n begun a) × (p ≡ o)
passes-dark a b o p n speed begun dark_ h = subst (λ (lit : Bool). IsTurnOf lit n speed begun a b o p) dark_ h

-- there is none up to the next minute
pub lost-away : (p : Power) (next : ℕ) → has_power p next ≡ false → (p ≡ Lost) × (0 < next % 60)
lost-away Lit next away = absurd (cc)
lost-away Due next away = absurd (cc)
lost-away Lost next away = let test : (next % 60 == 0) ≡ false = away in (refl, grind (arith, nat_tests, test))

pub lost-supply : (p : Power) (supply : UnitPower) → p ≡ Lost → Supplies p supply → supply ≡ IsLost
lost-supply Lit supply is powers = absurd (cc)
lost-supply Due supply is powers = absurd (cc)
lost-supply Lost (IsLit span) is powers = absurd powers
lost-supply Lost IsDue is powers = absurd powers
lost-supply Lost IsLost is powers = refl

-- a run and its outcome behind an `off` line, where there was power or not
abbrev off_as : (lit : Bool) → (n : ℕ) → Run → Run
off_as lit n old = record (darkened lit old) { power = Due; next = old.next + n; begun = 0 }

abbrev told_off : (lit : Bool) → Run → Outcome → Outcome
told_off lit old before = record before { breaks = with_lines (off_cut lit (old.next - 1) old.begun) before.breaks }

module _ (o : Origin) (done : List TraceSecond) (old : Run) (before : Outcome) (d : Devices) (h : RunRecorded o done old before d) where
  -- SO MANY SECONDS without power, the first with these actions
  pub dark-run : (n speed begun : ℕ) (actions : List Action) → 0 < n → has_power old.power old.next ≡ false → old.next % 60 + n ≤ 60 → (new : Run) (after : Outcome) → new ≡ passed n begun old →
      after ≡ record before { refused = with_lines (refused_dark old.next actions) before.refused } → RunRecorded o (done ++ driven n old.next speed actions) new after d
  dark-run zero speed begun actions some away fits new after is told = absurd (omega (arith, some))
  dark-run (suc n) speed begun actions some away fits new after is told =
      let lost = lost-away old.power old.next away in
      let supply = lost-supply old.power h.supply lost.0 h.powers in
      let was = subst (λ (s : UnitPower). RecordBetweenSeconds o done s (values_of old before) d) supply h.recorded in
      let on = dark-recorded d o done (values_of old before) was n speed actions (refused_dark old.next actions) begun lost.1 fits (faults-from old.next 0 actions) in
      subst (λ (r : Run). RunRecorded o (done ++ driven (suc n) old.next speed actions) r after d) (sym is)
      (subst (λ (p : Outcome). RunRecorded o (done ++ driven (suc n) old.next speed actions) (passed (suc n) begun old) p d) (sym told)
      (record {
        origin = h.origin;
        vehicle = h.vehicle;
        supply = IsLost;
        powers = subst (λ (p : Power). Supplies p IsLost) (sym lost.0) tt;
        recorded = subst (λ (v : Values). RecordBetweenSeconds o (done ++ driven (suc n) old.next speed actions) IsLost v d) (sym (values-dark (passed (suc n) begun old) before old.next actions)) on;
        odometer = λ lit. absurd (let bad : Lost ≡ Lit = sym lost.0 ∙ lit in cc);
        stay = subst (λ (log : RunLog). AllStay o (marked before.marks.items (truths_of o log (done ++ driven (suc n) old.next speed actions))) 0 log (notes_in log (done ++ driven (suc n) old.next speed actions)) old.keeper.memory.registration old.keeper.cabin d) (sym (log-dark before old.next actions))
            (all-true o (marked before.marks.items (truths_of o (log_of before) done)) (marked before.marks.items (truths_of o (record (log_of before) { refused = by_slots before.refused.items ++ refused_dark old.next actions }) (done ++ driven (suc n) old.next speed actions))) 0 (record (log_of before) { refused = by_slots before.refused.items ++ refused_dark old.next actions })
            (notes_in (record (log_of before) { refused = by_slots before.refused.items ++ refused_dark old.next actions }) (done ++ driven (suc n) old.next speed actions)) old.keeper.memory.registration old.keeper.cabin d
            (λ whose known.
            marked-still before.marks.items (truths_of o (log_of before) done) (truths_of o (record (log_of before) { refused = by_slots before.refused.items ++ refused_dark old.next actions }) (done ++ driven (suc n) old.next speed actions))
            (grow-on (truths_of o (log_of before) done) (truths_of o (record (log_of before) { refused = by_slots before.refused.items ++ refused_dark old.next actions }) done) (truths_of o (record (log_of before) { refused = by_slots before.refused.items ++ refused_dark old.next actions }) (done ++ driven (suc n) old.next speed actions))
            (truths-same o (log_of before) (record (log_of before) { refused = by_slots before.refused.items ++ refused_dark old.next actions }) done (went-refused (log_of before) (by_slots before.refused.items ++ refused_dark old.next actions) done))
            (truths-more o (record (log_of before) { refused = by_slots before.refused.items ++ refused_dark old.next actions }) done (driven (suc n) old.next speed actions))))
            (all-noted o (marked before.marks.items (truths_of o (log_of before) done)) 0 (log_of before) (record (log_of before) { refused = by_slots before.refused.items ++ refused_dark old.next actions }) (notes_in (log_of before) done)
            (notes_in (record (log_of before) { refused = by_slots before.refused.items ++ refused_dark old.next actions }) (done ++ driven (suc n) old.next speed actions)) old.keeper.memory.registration old.keeper.cabin d (same-on o (log_of before) (record (log_of before) { refused = by_slots before.refused.items ++ refused_dark old.next actions }) d refl refl)
            (λ whose known c in_. ap (λ (ns : List Note). spells_of c ns)
            (notes-refused (log_of before) (by_slots before.refused.items ++ refused_dark old.next actions) (done ++ driven (suc n) old.next speed actions)
            ∙ notes-lost (suc n) (log_of before) done old.next speed actions was.recorded.followed.power lost.1 fits)) h.stay));
      }))

  -- AN `off` LINE
  pub off-seconds : (old.power ≡ Lit → (low : ℕ) × CabinIsSound low None old.keeper.cabin) → (n : ℕ) → 0 < n → (breaks : Listed Break) → breaks ≡ with_lines (off_cut (is_lit old.power) (old.next - 1) old.begun) before.breaks → (new : Run) → new ≡ off_run n old → RunRecorded o (done ++ dark n old.next) new (record before { breaks = breaks }) d
  off-seconds sits zero some breaks told new is = absurd (omega (arith, some))
  off-seconds sits (suc n) some breaks told new is =
      subst (λ (r : Run). RunRecorded o (done ++ dark (suc n) old.next) r (record before { breaks = breaks }) d) (sym is)
      (subst (λ (l : Listed Break). RunRecorded o (done ++ dark (suc n) old.next) (off_run (suc n) old) (record before { breaks = l }) d) (sym told)
      (by old.power refl h.supply h.powers h.recorded))
    where
      due : (r : Run) (out : Outcome) → AllStay o (marked out.marks.items (truths_of o (log_of out) (done ++ dark (suc n) old.next))) 0 (log_of out) (notes_in (log_of out) (done ++ dark (suc n) old.next)) r.keeper.memory.registration r.keeper.cabin d → r.keeper.memory.registration ≡ vehicle_in o → r.power ≡ Due → RecordBetweenSeconds o (done ++ dark (suc n) old.next) IsDue (values_of r out) d → RunRecorded o (done ++ dark (suc n) old.next) r out d
      due r out stays vehicle is recorded = record {
        origin = h.origin;
        vehicle = vehicle;
        supply = IsDue;
        powers = subst (λ (p : Power). Supplies p IsDue) (sym is) tt;
        recorded = recorded;
        odometer = λ lit. absurd (let bad : Due ≡ Lit = sym is ∙ lit in cc);
        stay = stays;
      }

      -- without power no card has a session
      bare-off : (c : Card) → session_of (with_power_lost (old.next - 1) old.keeper.cabin).cards c ≡ None
      bare-off A = refl
      bare-off B = refl

      -- what is made of the cards
      off-due : AllStay o (marked before.marks.items (truths_of o (log_of (told_off false old before)) (done ++ dark (suc n) old.next))) 0 (log_of (told_off false old before)) (notes_in (log_of (told_off false old before)) (done ++ dark (suc n) old.next)) old.keeper.memory.registration (off_as false (suc n) old).keeper.cabin d
      off-due =
          all-true o (marked before.marks.items (truths_of o (log_of before) done)) (marked before.marks.items (truths_of o (log_of (told_off false old before)) (done ++ dark (suc n) old.next))) 0 (log_of (told_off false old before)) (notes_in (log_of (told_off false old before)) (done ++ dark (suc n) old.next))
          old.keeper.memory.registration old.keeper.cabin d
          (λ whose known.
          marked-still before.marks.items (truths_of o (log_of before) done) (truths_of o (log_of (told_off false old before)) (done ++ dark (suc n) old.next))
          (grow-on (truths_of o (log_of before) done) (truths_of o (log_of (told_off false old before)) done) (truths_of o (log_of (told_off false old before)) (done ++ dark (suc n) old.next))
          (truths-same o (log_of before) (log_of (told_off false old before)) done (ap (λ (bs : List Break). went (record (log_of before) { breaks = bs }) done) (append-nil before.breaks.items)))
          (truths-more o (log_of (told_off false old before)) done (dark (suc n) old.next))))
          (all-noted o (marked before.marks.items (truths_of o (log_of before) done)) 0 (log_of before) (log_of (told_off false old before)) (notes_in (log_of before) done) (notes_in (log_of (told_off false old before)) (done ++ dark (suc n) old.next)) old.keeper.memory.registration old.keeper.cabin d
          (lines-on o (log_of before) ((log_of before).breaks ++ []) [] d d refl (stood-self o d))
          (λ whose known c in_. ap (λ (ns : List Note). spells_of c ns)
          (ap (λ (bs : List Break). notes_in (record (log_of before) { breaks = bs }) (done ++ dark (suc n) old.next)) (append-nil before.breaks.items) ∙ notes-off (suc n) (log_of before) done old.next)) h.stay)

      -- a card that has a session sits in a slot
      seated : ((low : ℕ) × CabinIsSound low None old.keeper.cabin) → (c : Card) → is_some (session_of old.keeper.cabin.cards c) ≡ true → sits_in old.keeper.cabin.slots.seats c ≡ true
      seated stands c some = ⊎_elim (λ there. sits-in-one old.keeper.cabin.slots.seats c there) (λ leaving. absurd (let wrong : None ≡ Some c = leaving in cc)) (stands.1.only c some)

      -- none is withdrawn by that
      off-lit : ((low : ℕ) × CabinIsSound low None old.keeper.cabin) → (t : ToldSecond) (span : List ToldSecond) → RecordBetweenSeconds o done (IsLit (t ∷ span)) (values_of old before) d →
          AllStay o (marked before.marks.items (truths_of o (log_of (told_off true old before)) (done ++ dark (suc n) old.next))) 0 (log_of (told_off true old before)) (notes_in (log_of (told_off true old before)) (done ++ dark (suc n) old.next)) old.keeper.memory.registration (off_as true (suc n) old).keeper.cabin d
      off-lit stands t span r =
          all-true o (marked before.marks.items (truths_of o (log_of before) done)) (marked before.marks.items (truths_of o (log_of (told_off true old before)) (done ++ dark (suc n) old.next))) 0 (log_of (told_off true old before)) (notes_in (log_of (told_off true old before)) (done ++ dark (suc n) old.next))
          old.keeper.memory.registration (with_power_lost (old.next - 1) old.keeper.cabin) d
          (λ whose known.
          marked-still before.marks.items (truths_of o (log_of before) done) (truths_of o (log_of (told_off true old before)) (done ++ dark (suc n) old.next))
          (grow-on (truths_of o (log_of before) done) (truths_of o (log_of (told_off true old before)) done) (truths_of o (log_of (told_off true old before)) (done ++ dark (suc n) old.next))
          (off-cut-true (rule_of o) (start_at o) o.from (first_of o) done (progress (values_of old before) (IsLit (t ∷ span)) r.book) t span r.recorded.followed o)
          (truths-more o (log_of (told_off true old before)) done (dark (suc n) old.next))))
          (all-moved o (marked before.marks.items (truths_of o (log_of before) done)) 0 (log_of before) (log_of (told_off true old before)) (notes_in (log_of before) done) (notes_in (log_of (told_off true old before)) (done ++ dark (suc n) old.next)) old.keeper.memory.registration
          old.keeper.cabin (with_power_lost (old.next - 1) old.keeper.cabin) d
          (lines-on o (log_of before) ((log_of before).breaks ++ cut_at (old.next - 1) false old.begun ∷ []) (cut_at (old.next - 1) false old.begun ∷ []) d d refl (stood-self o d))
          (λ whose known c in_. moves-gone 0 (spells_of c (notes_in (log_of before) done)) (spells_of c (notes_in (log_of (told_off true old before)) (done ++ dark (suc n) old.next))) (sits_in old.keeper.cabin.slots.seats c)
          (sits_in (with_power_lost (old.next - 1) old.keeper.cabin).slots.seats c) (session_of old.keeper.cabin.cards c) (session_of (with_power_lost (old.next - 1) old.keeper.cabin).cards c)
          (ap (λ (ns : List Note). spells_of c ns)
          (notes-off (suc n) (log_of (told_off true old before)) done old.next
          ∙ off-cut-notes (rule_of o) (start_at o) o.from (first_of o) done (progress (values_of old before) (IsLit (t ∷ span)) r.book) t span r.recorded.followed))
          (seated stands c) (bare-off c))
          (λ whose known c in_ was. placed-bare (notes_in (log_of (told_off true old before)) (done ++ dark (suc n) old.next)) (with_power_lost (old.next - 1) old.keeper.cabin) c (bare-off c)) h.stay)

      plain : RecordBetweenSeconds o (done ++ dark (suc n) old.next) IsDue (off_values (suc n) (values_of old before)) d → RecordBetweenSeconds o (done ++ dark (suc n) old.next) IsDue (values_of (off_as false (suc n) old) (told_off false old before)) d
      plain r = subst (λ (bs : List Break). RecordBetweenSeconds o (done ++ dark (suc n) old.next) IsDue (values_of (off_as false (suc n) old) (record before { breaks = record { items = bs; room = before.breaks.room } })) d) (sym (append-nil before.breaks.items)) r

      by : (p : Power) → old.power ≡ p → (s : UnitPower) → Supplies old.power s → RecordBetweenSeconds o done s (values_of old before) d → RunRecorded o (done ++ dark (suc n) old.next) (off_as (is_lit old.power) (suc n) old) (told_off (is_lit old.power) old before) d
      by p at s powers r =
          subst (λ (q : Power). RunRecorded o (done ++ dark (suc n) old.next) (off_as (is_lit q) (suc n) old) (told_off (is_lit q) old before) d) (sym at)
          (so p at s (subst (λ (q : Power). Supplies q s) at powers) r)
        where
          so : (p : Power) → old.power ≡ p → (s : UnitPower) → Supplies p s → RecordBetweenSeconds o done s (values_of old before) d → RunRecorded o (done ++ dark (suc n) old.next) (off_as (is_lit p) (suc n) old) (told_off (is_lit p) old before) d
          so Lit at (IsLit []) powers r = absurd powers
          so Lit at (IsLit (t ∷ span)) powers r = due (off_as true (suc n) old) (told_off true old before) (off-lit (sits at) t span r) h.vehicle refl (off-cut-recorded d o done t span (values_of old before) r n)
          so Lit at IsDue powers r = absurd powers
          so Lit at IsLost powers r = absurd powers
          so Due at (IsLit span) powers r = absurd powers
          so Due at IsDue powers r = due (off_as false (suc n) old) (told_off false old before) off-due h.vehicle refl (plain (off-recorded d o done IsDue (values_of old before) r tt n))
          so Due at IsLost powers r = absurd powers
          so Lost at (IsLit span) powers r = absurd powers
          so Lost at IsDue powers r = absurd powers
          so Lost at IsLost powers r = due (off_as false (suc n) old) (told_off false old before) off-due h.vehicle refl (plain (off-recorded d o done IsLost (values_of old before) r tt n))

-- ---- a second has begun

pub by-power : {P : Type 0} (R : Between) (I : Inside) (power : Bool) (o : Origin) (done : List TraceSecond) (s : TraceSecond) (run : Run) (out : Outcome) (d : Devices) → HasBegunBy R I (Ok power) o done s run out d →
    (power ≡ true → I o done s 0 run out d → P) → (power ≡ false → R o done run out d → P) → P
by-power R I true o done s run out d begun lit away = lit refl begun
by-power R I false o done s run out d begun lit away = away refl begun

-- ---- seconds, one after another

-- the first one has the actions
pub first-driven : (n number speed : ℕ) (actions : List Action) → 0 < n → driven n number speed actions ≡ record { number = number; has_power = true; speed = speed; actions = actions } ∷ driven (n - 1) (number + 1) speed []
first-driven zero number speed actions some = absurd (omega (arith, some))
first-driven (suc n) number speed actions some = ap (λ (m : ℕ). record { number = number; has_power = true; speed = speed; actions = actions } ∷ driven m (number + 1) speed []) (let e : n ≡ suc n - 1 = omega arith in e)

-- some without actions, and then others
pub plain-parts : (n k number speed : ℕ) → driven (n + k) number speed [] ≡ driven n number speed [] ++ driven k (number + n) speed []
plain-parts zero k number speed = ap (λ (m : ℕ). driven m number speed []) (let e : 0 + k ≡ k = omega arith in e) ∙ ap (λ (m : ℕ). driven k m speed []) (let e : number ≡ number + 0 = omega arith in e)
plain-parts (suc n) k number speed =
    ap (λ (m : ℕ). driven m number speed []) (let e : suc n + k ≡ suc (n + k) = omega arith in e)
    ∙ ap (λ (l : List TraceSecond). record { number = number; has_power = true; speed = speed; actions = [] } ∷ l)
    (plain-parts n k (number + 1) speed ∙ ap (λ (m : ℕ). driven n (number + 1) speed [] ++ driven k m speed []) (let e : number + 1 + n ≡ number + suc n = omega arith in e))

-- behind the first one the others
pub run-then : (R : Between) (result : Result (Unit {0}) RunFault) (o : Origin) (done : List TraceSecond) (n number later speed : ℕ) (actions : List Action) (run : Run) (out : Outcome) (d : Devices) → 0 < n → later ≡ number + 1 →
    HasRunBy R result o ((done ++ driven 1 number speed actions) ++ driven (n - 1) later speed []) run out d → HasRunBy R result o (done ++ driven n number speed actions) run out d
run-then R result o done n number later speed actions run out d some next h =
    let s : TraceSecond = record { number = number; has_power = true; speed = speed; actions = actions } in
    subst (λ (ss : List TraceSecond). HasRunBy R result o ss run out d)
    (ap (λ (m : ℕ). (done ++ s ∷ []) ++ driven (n - 1) m speed []) next ∙ append_assoc done (s ∷ []) (driven (n - 1) (number + 1) speed []) ∙ ap (λ (ss : List TraceSecond). done ++ ss) (sym (first-driven n number speed actions some))) h
